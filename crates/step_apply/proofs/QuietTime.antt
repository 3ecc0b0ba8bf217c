-- Where no deadline is due, time goes by on the part of the clock alone.
use Rattle.std.proofs.Common.{◌≡◌, ◌≢◌, ◌∙◌, ap, sym, subst, refl, set, ℕ, ◌+◌, ◌||◌, Bool, true, false, not, is_some, List, [], Option, None, Some, length, arith}
use Rattle.event_cond.specs.Conditions.{Rows as Conditions}
use Rattle.mms_time.specs.Semaphores.{Rows}
use Rattle.mms_types.specs.declared.moment.Moment.{Moment}
use Rattle.part_table.specs.Held.{held_at, IsHandOf}
use Rattle.parted_state.specs.Lifted.{put_in_place, tables_shown}
use Rattle.parted_state.specs.Served.{Done}
use Rattle.parted_state.proofs.Laid.{one_put}
use Rattle.event_cond.specs.Skips.{any_due}
use Rattle.mms_time.specs.Deadlines as sem_due
use Rattle.cell_ticks.specs.Deadlines.{next_due}
use Rattle.cell_ticks.proofs.Coded.{due_is}
use Rattle.cell_client.specs.Effects.{Effect}
use Rattle.cell_services.specs.Serving.{passes}
use Rattle.cell_services.specs.Tables.{Tables, moment_after, own_clock}
use Rattle.cell_services.proofs.TimeLaws.{nothing_due}
use Rattle.step_parts.proofs.Shown.{shown_own}
use Rattle.step_parts.specs.AfterLaws.{is_clock, is_device}
use Rattle.step_parts.specs.declared.part.Part.{Part}
use Rattle.step_parts.specs.declared.part.Part.TheVariants.{Clock}
use Rattle.step_parts.specs.Partition.{cell, clients_among, clock_in, events_in, parts_of, semaphores_in, semaphores_place}
use Rattle.step_parts.specs.State.{State}
use Rattle.step_apply.specs.Lifting.{placed_at}
use Rattle.step_parts.proofs.Changed.{changed_part}

module _ (s : State) (hand : List (Option Part)) (of : IsHandOf hand (parts_of s)) where
  pub passed_in_place : (n ms : ℕ) → n ≡ clients_among (length hand)
      → next_due (record { 0 = clock_in (held_at hand 0) + ms }) (semaphores_in (held_at hand (semaphores_place n))) (events_in (held_at hand 4)).conditions ≡ None
      → placed_at (Clock (clock_in (held_at hand 0) + ms)) hand 0 ≡ put_in_place cell (passes ms (tables_shown cell hand)) hand
  passed_in_place n ms many none =
      let here : next_due (record { 0 = clock_in (held_at hand 0) + ms }) (semaphores_in (held_at hand (semaphores_place (clients_among (length hand))))) (events_in (held_at hand 4)).conditions ≡ None =
      subst (λ (c : ℕ). next_due (record { 0 = clock_in (held_at hand 0) + ms }) (semaphores_in (held_at hand (semaphores_place c))) (events_in (held_at hand 4)).conditions ≡ None) many none in
      let due : next_due (moment_after ms (tables_shown cell hand)) (tables_shown cell hand).semaphores (tables_shown cell hand).events.conditions ≡ None =
      subst (λ (t : Tables). next_due (moment_after ms t) t.semaphores t.events.conditions ≡ None) (shown_own hand) here in
      ap (λ (t : Tables). placed_at (Clock (t.now + ms)) hand 0) (shown_own hand)
      ∙ sym (one_put cell is_device s hand of own_clock is_clock ((tables_shown cell hand).now + ms) (omega arith))
      ∙ ap (λ (d : Done Tables Effect). put_in_place cell d hand) (nothing_due ms (tables_shown cell hand) [] due refl)

-- the clock that is taken out, advanced and put back is changed in its place
pub clock_advanced : (ms : ℕ) (hand taken new : List (Option Part)) (part value : Part) (was now : ℕ)
    → Some part ≡ held_at hand 0 → taken ≡ set hand 0 None → value ≡ part → value ≡ Clock was → now ≡ was + ms
    → new ≡ set taken 0 (Some (Clock now)) → new ≡ placed_at (Clock (clock_in (held_at hand 0) + ms)) hand 0
clock_advanced ms hand taken new part value was now held out same is done back =
    let there : held_at hand 0 ≡ Some (Clock was) = sym held ∙ ap Some (sym same ∙ is) in
    back
    ∙ ap (λ (l : List (Option Part)). set l 0 (Some (Clock now))) out
    ∙ ap (λ (n : ℕ). set (set hand 0 None) 0 (Some (Clock n))) (done ∙ ap (λ (o : Option Part). clock_in o + ms) (sym there))
    ∙ changed_part (λ h. Clock (clock_in (held_at hand 0) + ms)) hand 0 (Clock was) there

-- ---- nothing is due

none_found : {A : Type 0} (o : Option A) → is_some o ≡ false → o ≡ None
none_found None e = refl
none_found (Some x) e = absurd (cc e)

-- neither a deadline of a semaphore nor an evaluation
pub quiet : (until : Moment) (semaphores : Rows) (conditions : Conditions) → is_some (sem_due.next_due until semaphores) ≡ false → any_due until conditions ≡ false
    → next_due until semaphores conditions ≡ None
quiet until semaphores conditions one other =
    none_found (next_due until semaphores conditions)
    (sym (due_is until semaphores conditions) ∙ ap (λ (b : Bool). b || any_due until conditions) one ∙ other)

-- one of them
pub loud : (until : Moment) (semaphores : Rows) (conditions : Conditions) → (is_some (sem_due.next_due until semaphores) || any_due until conditions) ≡ true
    → next_due until semaphores conditions ≢ None
loud until semaphores conditions due none = cc (sym due ∙ due_is until semaphores conditions ∙ ap is_some none)

pub or_true : (b : Bool) → (b || true) ≡ true
or_true true = refl
or_true false = refl

pub so_then : (b : Bool) → not b ≡ false → b ≡ true
so_then true e = refl
so_then false e = absurd (cc e)

-- where there are no semaphores
pub quiet_alone : (until : Moment) (semaphores : Rows) (conditions : Conditions) → semaphores ≡ [] → any_due until conditions ≡ false → next_due until semaphores conditions ≡ None
quiet_alone until semaphores conditions none other =
    subst (λ (rows : Rows). next_due until rows conditions ≡ None) (sym none) (quiet until [] conditions refl other)

pub not_so : (b : Bool) → not b ≡ true → b ≡ false
not_so true e = absurd (cc e)
not_so false e = refl
