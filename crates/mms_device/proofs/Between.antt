-- Between the taking of parts and the commit.
use Rattle.std.specs.Prelude.{◌≡◌, ℕ, ◌+◌, List, [], Option, length}
use Rattle.std.proofs.Common.{ap, sym, ◌∙◌, subst}
use Rattle.mms_types.specs.Actors.{actor_of, IsAmong}
use Rattle.mms_types.specs.declared.event.CellEvent.{CellEvent}
use Rattle.cell_config.specs.declared.config.Config.{Config}
use Rattle.cell_config.specs.Said.{IsConfig}
use Rattle.part_table.specs.Held.{held_at, IsHandOf}
use Rattle.part_table.specs.History.{events_of, places_of, IsMade}
use Rattle.part_table.specs.Known.{IsTrueOf}
use Rattle.step_parts.specs.declared.part.Part.{Part}
use Rattle.step_parts.specs.State.{State, IsSound}
use Rattle.step_parts.specs.Step.{IsInTime}
use Rattle.step_parts.specs.Partition.{parts_of, clients_among, clock_in}
use Rattle.step_parts.specs.Needs.{need}
use Rattle.mms_device.specs.Making.{MayMake}
use Rattle.mms_device.specs.Shared.{Caller, IsOf, IsTimely, all_events, led_to}
use Rattle.mms_device.specs.Taken.{IsTaking}
use Rattle.mms_device.proofs.Steps.{replay_sound}
use Rattle.mms_device.proofs.Leading.{leads, same_own, in_time}
use Rattle.mms_device.proofs.Outcomes.{SeesState, sees, state_shown, among_shown, actor_among}

-- a pass holds all that an event wants of the state to which the history leads that it knows
module _ (config : Config) (is_config : IsConfig config) (event : CellEvent) (old p : Caller) (taking : IsTaking event old p) (of_table : IsOf old.table config)
    (knew : IsTrueOf MayMake old) (knows : IsTrueOf MayMake p) (of : IsHandOf p.taken (parts_of (led_to config p.seen))) where
  p_of : IsOf p.table config
  p_of = subst (λ t. IsOf t config) (sym (ap (λ (x : Caller). x.table) taking.pass)) of_table

  state : SeesState config p
  state = sees config p is_config p_of of taking.hand

  pub state_held : (hand : List (Option Part)) → hand ≡ p.hand → (s : State) × ((count : ℕ) × IsSound count s) × IsHandOf hand (parts_of s)
  state_held hand is = state_shown config p state hand is

  pub among_held : (hand : List (Option Part)) → hand ≡ p.hand → MayMake old.by event → IsAmong (clients_among (length hand)) event
  among_held hand is may = among_shown config p state event hand is (actor_among config old event of_table knew.number may)

  own : events_of old.by p.seen ≡ events_of old.by old.seen
  own =
      let by : p.by ≡ old.by = ap (λ (x : Caller). x.by) taking.pass in
      same_own old.by old.seen p.seen old.own taking.seen knew.own
      (sym (ap (λ (x : Caller). x.own) taking.pass) ∙ knows.own ∙ ap (λ (b : ℕ). places_of b p.seen) by)

  pub time_held : (hand : List (Option Part)) → hand ≡ p.hand → actor_of event ≡ old.by → IsTimely config old event
      → IsInTime (clock_in (held_at hand 0)) event
  time_held hand is actor time =
      subst (λ (h : List (Option Part)). IsInTime (clock_in (held_at h 0)) event) (sym (is ∙ taking.hand))
      (in_time config p.table.callers old.by old.seen p.seen p.taken event knows.made of actor own time)
