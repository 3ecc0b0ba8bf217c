-- The drain of a client.
use Rattle.std.specs.Prelude.{◌≡◌, ℕ, ◌+◌, ◌-◌, ◌≤◌, true, List, [], ◌∷◌, ◌++◌, Option, length, refl}
use Rattle.std.proofs.Common.{ap, sym, ◌∙◌, subst, arith}
use Rattle.mms_types.specs.Actors.{IsAmong}
use Rattle.mms_types.specs.declared.event.CellEvent.{CellEvent}
use Rattle.mms_types.specs.declared.event.CellEvent.TheVariants.{Drain}
use Rattle.cell_config.specs.declared.config.Config.{Config}
use Rattle.cell_config.specs.Said.{IsConfig}
use Rattle.part_table.specs.Held.{held_at, IsHandOf}
use Rattle.part_table.specs.History.{StartsWith, replayed}
use Rattle.part_table.specs.Known.{nothing, HoldsNothing, IsTrueOf}
use Rattle.step_parts.specs.declared.part.Part.{Part}
use Rattle.step_parts.specs.State.{State}
use Rattle.step_parts.specs.Step.{said}
use Rattle.step_parts.specs.Partition.{parts_of, client_place, outbox_held, IsClient}
use Rattle.step_parts.specs.Needs.{footprint, need, is_held}
use Rattle.step_parts.specs.After.{after, parts_after}
use Rattle.mms_device.specs.Making.{MayMake}
use Rattle.mms_device.specs.Shared.{Caller, History, IsServed, IsBusy, IsOf, all_events, led_to}
use Rattle.mms_device.specs.Taken.{AreHeld, HasLost, IsTaking}
use Rattle.mms_device.proofs.Steps.{client_told, drain_needs_none, held_client, outputs_held}
use Rattle.mms_device.proofs.Leading.{leads}
use Rattle.mms_device.proofs.Outcomes.{SeesState, sees, hand_led, looked, taken_on, served, is_busy}

-- a client may drain itself
pub may_drain : (caller client : ℕ) → client ≡ caller → 1 ≤ caller → MayMake caller (Drain client)
may_drain caller client is some = (is, (omega (arith, is, some), omega (arith, is)))

-- the pass of a client took what the words tell, and saw the history
module _ (config : Config) (is_config : IsConfig config) (old p saw : Caller) (client : ℕ) (of_table : IsOf old.table config) (idle : HoldsNothing old) (knew : IsTrueOf MayMake old) (by : client ≡ old.by)
    (some : 1 ≤ old.by) (taking : IsTaking (Drain client) old p) (is_s : saw ≡ record p { seen = saw.seen }) (starts : StartsWith saw.seen p.seen) (knows : IsTrueOf MayMake saw)
    (of : IsHandOf saw.taken (replayed parts_after saw.table.opening saw.seen)) where
  is_client : 1 ≤ client
  is_client = omega (arith, by, some)

  few : client ≤ config.clients
  few = let n = knew.number in let many = of_table.callers in omega (arith, n, many, by)

  pub drain_small : client ≤ 64
  drain_small = let most = is_config.few_clients in let le = few in omega (arith, le, most)

  seeing : IsTaking (Drain client) old saw
  seeing = taken_on (Drain client) old p saw taking (looked (Drain client) p saw is_s starts taking.wanted taking.hand)

  saw_of : IsOf saw.table config
  saw_of = subst (λ t. IsOf t config) (sym (ap (λ (x : Caller). x.table) seeing.pass)) of_table

  state : SeesState config saw
  state = sees config saw is_config saw_of (hand_led config saw saw_of of) seeing.hand

  there : (history : History) → client ≤ length (led_to config history).clients
  there history = let n = (leads config history).1 in let le = few in omega (arith, n, le)

  pub drain_may : MayMake saw.by (Drain client)
  drain_may = let same : saw.by ≡ old.by = ap (λ (x : Caller). x.by) seeing.pass in may_drain saw.by client (by ∙ sym same) (omega (arith, same, some))

  -- another caller holds the part
  pub drain_busy : (g : Caller) (part other : ℕ) → g ≡ record saw { taken = nothing (length saw.table.opening); hand = nothing (length saw.table.opening); order = [] }
      → HasLost (Drain client) old p part other → IsBusy config (Drain old.by) old g part other
  drain_busy g part other is_g lost =
      subst (λ (k : ℕ). IsBusy config (Drain k) old g part other) by
      (is_busy (Drain client) old p taking idle knew saw g is_s starts knows is_g config part other (hand_led config saw saw_of of) lost)

  -- it is held
  module _ (told : AreHeld p.taken (footprint config.clients (Drain client))) where
    saw_held : is_held saw.taken (client_place client) ≡ true
    saw_held = ap (λ (x : Caller). is_held x.taken (client_place client)) is_s ∙ told (client_place client) (client_told config.clients client is_client)

    pub drain_client : (hand : List (Option Part)) → hand ≡ saw.hand → IsClient (held_at hand (client_place client))
    drain_client hand is =
        subst (λ (h : List (Option Part)). IsClient (held_at h (client_place client))) (sym (is ∙ state.same))
        (held_client (led_to config saw.seen) saw.taken client state.hand is_client (there saw.seen) saw_held)

    pub drain_need : need (Drain client) saw.taken ≡ []
    drain_need = drain_needs_none saw.taken client is_client saw_held

    pub drain_step : (hand new : List (Option Part)) → hand ≡ saw.hand
        → ((s : State) → IsHandOf hand (parts_of s) → IsAmong (length s.clients) (Drain client) → new ≡ after (Drain client) hand) → new ≡ after (Drain client) saw.taken
    drain_step hand new is stepped =
        stepped (led_to config saw.seen) (subst (λ (h : List (Option Part)). IsHandOf h (parts_of (led_to config saw.seen))) (sym (is ∙ state.same)) state.hand) (is_client, there saw.seen)
        ∙ ap (λ (h : List (Option Part)). after (Drain client) h) (is ∙ state.same)

    -- what it has to send is what the client has to send after the events before
    pub drain_said : (hand : List (Option Part)) (h : History) → hand ≡ saw.hand → IsHandOf saw.taken (replayed parts_after saw.table.opening h)
        → outbox_held (held_at hand (client_place client)) ≡ said config (all_events h) old.by
    drain_said hand h is of_h =
        let of_state = subst (λ (l : List Part). IsHandOf saw.taken l) (ap (λ (l : List Part). replayed parts_after l h) saw_of.opening ∙ (leads config h).0) of_h in
        ap (λ (x : List (Option Part)). outbox_held (held_at x (client_place client))) (is ∙ state.same)
        ∙ outputs_held (led_to config h) saw.taken client of_state is_client (there h) saw_held
        ∙ ap (λ (k : ℕ). said config (all_events h) k) by

  pub drain_served : (q r g : Caller) (ticket : ℕ) (h : History) → p.lost ≡ old.lost → q ≡ record saw { hand = q.hand }
      → r ≡ record q { seen = h ++ (q.by, Drain client) ∷ []; own = q.own ++ ticket ∷ []; left = q.left - 1; taken = q.hand } → StartsWith h q.seen → ticket ≡ length r.seen
      → IsTrueOf MayMake r → g ≡ record r { taken = nothing (length r.table.opening); hand = nothing (length r.table.opening); order = [] } → IsServed (Drain old.by) old g ticket h
  drain_served q r g ticket h lost same is_r begins place knows_r is_g =
      subst (λ (k : ℕ). IsServed (Drain k) old g ticket h) by
      (served (Drain client) old saw seeing idle knew q r g ticket h (ap (λ (x : Caller). x.lost) is_s ∙ lost) same is_r begins place knows_r is_g)
