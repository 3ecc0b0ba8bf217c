-- What becomes of a pass while a call takes parts.
use Rattle.std.specs.Prelude.{◌≡◌, ◌≢◌, ◌⊎◌, ◌+◌, ℕ, true, Option, None, Some, List, [], ◌∷◌, ◌++◌, length, Contains}
use Rattle.mms_types.specs.declared.event.CellEvent.{CellEvent}
use Rattle.part_table.specs.Held.{held_at, IsHandOf}
use Rattle.part_table.specs.History.{StartsWith}
use Rattle.parted_state.specs.Sets.{IsSetOf}
use Rattle.step_parts.specs.declared.part.Part.{Part}
use Rattle.step_parts.specs.State.{State}
use Rattle.step_parts.specs.Partition.{parts_of}
use Rattle.step_parts.specs.Needs.{is_held, need, wanted}
use Rattle.step_parts.specs.Found.{IsFoundOf}
use Rattle.cell_client.specs.declared.verdict.Found.{Found}
use Rattle.mms_device.specs.declared.answers.Refused.{Refused}
use Rattle.mms_device.specs.declared.answers.Refused.TheVariants as refused
use Rattle.mms_device.specs.Shared.{Shared, Caller, MayMakeNow, led_to}

-- what was held is held, and beside it at most those that are asked for
pub record HasGrown (asked : List ℕ) (before after : List (Option Part)) : Type 0 where
  pub places : length after ≡ length before
  pub kept : (i : ℕ) (x : Part) → held_at before i ≡ Some x → held_at after i ≡ Some x
  pub only : (i : ℕ) → is_held after i ≡ true → (is_held before i ≡ true) ⊎ Contains asked i

-- a pass took parts, and nothing else of it has changed but the claims that it lost
pub record HasTaken (asked : List ℕ) (old new : Caller) : Type 0 where
  pub pass : new ≡ record old { lost = new.lost; taken = new.taken; hand = new.hand; order = new.order }
  pub hand : new.hand ≡ new.taken
  pub grown : HasGrown asked old.taken new.taken

-- all of these are held
abbrev pub AreHeld : List (Option Part) → List ℕ → Type 0
AreHeld hand asked = (i : ℕ) → Contains asked i → is_held hand i ≡ true

-- in whatever state these are parts of, the event wants that part
abbrev pub Wants : CellEvent → List (Option Part) → ℕ → Type 0
Wants event hand part = (s : State) → IsHandOf hand (parts_of s) → Contains (wanted event s) part

-- and it wants each part that is held
abbrev pub HoldsWanted : CellEvent → List (Option Part) → Type 0
HoldsWanted event hand = (part : ℕ) → is_held hand part ≡ true → Wants event hand part

-- A pass can take what the event needs besides what it holds: its caller may make the event now, what it holds is as it
-- was taken, the event wants each part of that, and what was found is what the event's octets come to.
pub record CanTake (device : Shared) (event : CellEvent) (found : Option Found) (pass : Caller) : Type 0 where
  pub may : MayMakeNow device event pass
  pub hand : pass.hand ≡ pass.taken
  pub wanted : HoldsWanted event pass.taken
  pub found_of : IsFoundOf found event pass.taken

-- a pass saw the history
pub record HasSeen (old new : Caller) : Type 0 where
  pub pass : new ≡ record old { seen = new.seen }
  pub seen : StartsWith new.seen old.seen

-- these are the parts that an event needs besides what a pass holds, by the state to which the history leads that it
-- knows
pub record IsNeeded (device : Shared) (event : CellEvent) (pass : Caller) (parts : List ℕ) : Type 0 where
  pub set : IsSetOf parts (need event pass.taken)
  pub of : IsHandOf pass.taken (parts_of (led_to device.config pass.seen))

-- a pass holds all that the event needs, and these are parts of the state to which the history leads that it knows
pub record HoldsAll (device : Shared) (event : CellEvent) (pass : Caller) : Type 0 where
  pub enough : need event pass.taken ≡ []
  pub of : IsHandOf pass.taken (parts_of (led_to device.config pass.seen))

-- while a call takes parts: nothing of the pass has changed but what it knows, what it holds and the claims that it
-- lost
pub record IsTaking (event : CellEvent) (old new : Caller) : Type 0 where
  pub pass : new ≡ record old { seen = new.seen; lost = new.lost; taken = new.taken; hand = new.hand; order = new.order }
  pub seen : StartsWith new.seen old.seen
  pub hand : new.hand ≡ new.taken
  pub places : length new.taken ≡ length old.taken
  pub wanted : HoldsWanted event new.taken

-- a claim was lost on a part that the event wants, to another caller
abbrev pub HasLost : CellEvent → Caller → Caller → ℕ → ℕ → Type 0
HasLost event old new part by = (by ≢ old.by) × (new.lost ≡ old.lost ++ (part, by) ∷ []) × Wants event new.taken part

-- that, or there was not enough memory
abbrev pub IsStopped : CellEvent → Caller → Caller → Refused → Type 0
IsStopped event old new (refused.Busy busy) = HasLost event old new busy.part busy.by
IsStopped event old new refused.Memory = new.lost ≡ old.lost

-- how many parts are not held
abbrev pub free_count : List (Option Part) → ℕ
free_count [] = 0
free_count (None ∷ hand) = 1 + free_count hand
free_count (Some part ∷ hand) = free_count hand
