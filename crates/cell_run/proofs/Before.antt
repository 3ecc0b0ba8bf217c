-- The jobs of a phase are fit for turns.
use Rattle.std.proofs.Common.{◌≡◌, ◌&&◌, ◌≤◌, ◌+◌, ◌==◌, ℕ, suc, Bool, true, false, if◌then◌else◌, List, [], ◌∷◌, refl, subst, length, arith}
use Rattle.std.specs.List.{All}
use Rattle.std.proofs.lemmas.Bool.{eqb-true, leb-true}
use Rattle.mms_types.specs.Actors.{actor_of}
use Rattle.mms_types.specs.declared.event.CellEvent.{CellEvent}
use Rattle.mms_types.specs.declared.event.CellEvent.TheVariants.{Heard, Lost, Tick, Ends, Drain}
use Rattle.cell_config.specs.declared.config.Config.{Config}
use Rattle.mms_device.specs.Making.{MayMake}
use Rattle.mms_device.specs.Shared.{goes_by, ticks_in}
use Rattle.mms_device.specs.Turns.{AreOf}
use Rattle.cell_record.specs.EventLine.{IsRecorded}
use Rattle.cell_record.specs.Words.{between}
use Rattle.cell_record.specs.Grammar.{phase_ms}
use Rattle.cell_record.specs.Recording.{ms_in}
use Rattle.cell_record.specs.History.{events_of}
use Rattle.cell_run.specs.Jobs.{AreBelow}

both : (a b : Bool) → (a && b) ≡ true → (a ≡ true) × (b ≡ true)
both true b e = (refl, e)
both false b e = cc

between_is : (low high n : ℕ) → between low high n ≡ true → (low ≤ n) × (n ≤ high)
between_is low high n e = let p = both _ _ e in (leb-true low n p.0, leb-true n high p.1)

-- a recorded event is of the cell or of a client
recorded_among : (config : Config) (e : CellEvent) → IsRecorded config e → (actor_of e ≤ config.clients) × MayMake (actor_of e) e
recorded_among config (Heard client octets) r = let b = between_is 1 config.clients client r.0 in (b.1, (refl, (b.0, omega arith)))
recorded_among config (Lost client) r = let b = between_is 1 config.clients client r in (b.1, (refl, (b.0, omega arith)))
recorded_among config (Tick ms) r = (omega arith, (refl, tt))
recorded_among config (Ends name) r = (omega arith, (refl, tt))
recorded_among config (Drain client) r = absurd r

all_first : (P : CellEvent → Type 0) (e : CellEvent) (es : List CellEvent) → All P (e ∷ es) → P e
all_first P e es all = all 0 e (omega arith)

all_rest : (P : CellEvent → Type 0) (e : CellEvent) (es : List CellEvent) → All P (e ∷ es) → All P es
all_rest P e es all k d lt = all (suc k) d (omega arith)

pub recorded_below : (config : Config) (actors : ℕ) (es : List CellEvent) → actors ≡ config.clients + 1 → All (IsRecorded config) es → AreBelow actors es
recorded_below config actors [] is all = tt
recorded_below config actors (e ∷ es) is all =
    let among = recorded_among config e (all_first (IsRecorded config) e es all) in
    let le = among.0 in
    (omega arith, recorded_below config actors es is (all_rest (IsRecorded config) e es all))

-- the events of an actor are ones that it may make, no more than there are, and take no more time
module _ (config : Config) (actor : ℕ) where
  pub actor_makes : (es : List CellEvent) → All (IsRecorded config) es → AreOf actor (events_of actor es)
  actor_makes [] all = tt
  actor_makes (e ∷ es) all = by (actor_of e == actor) refl (actor_makes es (all_rest (IsRecorded config) e es all))
    where
      by : (b : Bool) → (actor_of e == actor) ≡ b → AreOf actor (events_of actor es) → AreOf actor (if b then e ∷ events_of actor es else events_of actor es)
      by true at r = (subst (λ n. MayMake n e) (eqb-true (actor_of e) actor at) (recorded_among config e (all_first (IsRecorded config) e es all)).1, r)
      by false at r = r

  pub actor_few : (es : List CellEvent) → length (events_of actor es) ≤ length es
  actor_few [] = omega arith
  actor_few (e ∷ es) = by (actor_of e == actor) (actor_few es)
    where
      by : (b : Bool) → length (events_of actor es) ≤ length es → length (if b then e ∷ events_of actor es else events_of actor es) ≤ length (e ∷ es)
      by true r = omega arith
      by false r = omega arith

  same_ms : (e : CellEvent) → goes_by e ≡ ms_in e
  same_ms (Heard client octets) = refl
  same_ms (Lost client) = refl
  same_ms (Tick ms) = refl
  same_ms (Ends name) = refl
  same_ms (Drain client) = refl

  pub actor_time : (es : List CellEvent) → ticks_in (events_of actor es) ≤ phase_ms es
  actor_time [] = omega arith
  actor_time (e ∷ es) = by (actor_of e == actor) (actor_time es)
    where
      by : (b : Bool) → ticks_in (events_of actor es) ≤ phase_ms es → ticks_in (if b then e ∷ events_of actor es else events_of actor es) ≤ phase_ms (e ∷ es)
      by true r = let s = same_ms e in omega arith
      by false r = omega arith
