-- What happens while time goes by, on the device and to its semaphores alone: whom it tells what, and what holds at the
-- end.
use Rattle.std.proofs.Common.{◌≡◌, ℕ, zero, suc, ◌∙◌, ◌⊎◌, inl, inr, ◌==◌, nat_lt, Bool, true, false, List, [], ◌∷◌, ◌++◌, append_assoc, map, Option, None, Some, option_and_then, option_map, if◌then◌else◌, refl, sym, ap, subst}
use Rattle.std.specs.List.{Contains, flat_map}
use Rattle.mms_types.specs.declared.moment.Moment.{Moment}
use Rattle.token_sem.specs.declared.entry.Expired.{Expired}
use Rattle.token_sem.proofs.Least.{Stands}
use Rattle.mms_time.specs.Deadlines.{NamedDeadline, expired}
use Rattle.mms_time.specs.Semaphores.{Rows}
use Rattle.sem_ticks.specs.Ticks as sem
use Rattle.sem_ticks.specs.declared.ticks.Happening.{Happening}
use Rattle.sem_ticks.proofs.Dated.{undated_is}
use Rattle.event_cond.specs.Skips.{Saying}
use Rattle.event_ticks.specs.Settling.{settle}
use Rattle.event_ticks.specs.declared.ticks.TurnTold.{TurnTold}
use Rattle.event_ticks.proofs.Settling.{settle_by}
use Rattle.cell_ticks.specs.Deadlines.{evaluation, next_due}
use Rattle.cell_ticks.specs.Parts.{in_semaphores, merged, of_events, of_semaphores, put_in, turning}
use Rattle.cell_ticks.specs.Ticks.{Ticking, dated, evaluated, met, most_left, next_met, semaphore_met, ticked_on, with_semaphores}
use Rattle.cell_ticks.specs.declared.happening.DatedHappening.{DatedHappening}
use Rattle.cell_ticks.specs.declared.happening.Happening.TheVariants as device
use Rattle.cell_ticks.proofs.Ticked.{both_parts}
use Rattle.cell_client.specs.Effects.{Effect}
use Rattle.cell_services.specs.Serving.{all_told, dated_told, happening_told, meanwhile, saying}
use Rattle.cell_services.specs.Tables.{moment_after}
use Rattle.step_parts.specs.Partition.{cell}
use Rattle.step_parts.specs.State.{State, IsSound}
use Rattle.cell_laws.proofs.Freeing.{contains-stands, stands-contains}
use Rattle.cell_laws.proofs.Notices.{AreNotices, notices-both, told-notices}
use Rattle.cell_laws.proofs.Queues.{map-stands, stands-map}

-- ---- whom it tells what

-- of semaphores alone
abbrev pub sem_told : List Happening → List (ℕ × Effect)
sem_told happened = flat_map happening_told happened

pub sem-both : (xs ys : List Happening) → sem_told (xs ++ ys) ≡ sem_told xs ++ sem_told ys
sem-both [] ys = refl
sem-both (x ∷ xs) ys = ap (λ (l : List (ℕ × Effect)). happening_told x ++ l) (sem-both xs ys) ∙ sym (append_assoc (happening_told x) (sem_told xs) (sem_told ys))

pub told-more : (xs ys : List DatedHappening) → all_told (xs ++ ys) ≡ all_told xs ++ all_told ys
told-more [] ys = refl
told-more (x ∷ xs) ys = ap (λ (l : List (ℕ × Effect)). dated_told x ++ l) (told-more xs ys) ∙ sym (append_assoc (dated_told x) (all_told xs) (all_told ys))

-- what happens at one moment
abbrev pub at_semaphores : Moment → List Happening → List DatedHappening
at_semaphores at happened = map (λ happening. dated at (device.Semaphores happening)) happened

abbrev pub at_conditions : Moment → List TurnTold → List DatedHappening
at_conditions at told = map (λ told. dated at (device.Turns told)) told

semaphores-told : (at : Moment) (happened : List Happening) → all_told (at_semaphores at happened) ≡ sem_told happened
semaphores-told at [] = refl
semaphores-told at (h ∷ rest) = ap (λ (l : List (ℕ × Effect)). happening_told h ++ l) (semaphores-told at rest)

pub then-told : (before : List DatedHappening) (at : Moment) (happened : List Happening) → all_told (before ++ at_semaphores at happened) ≡ all_told before ++ sem_told happened
then-told before at happened = told-more before (at_semaphores at happened) ∙ ap (λ (l : List (ℕ × Effect)). all_told before ++ l) (semaphores-told at happened)

pub conditions-told : (at : Moment) (told : List TurnTold) → AreNotices (all_told (at_conditions at told))
conditions-told at [] = tt
conditions-told at (t ∷ rest) =
    notices-both (dated_told (dated at (device.Turns t))) (all_told (at_conditions at rest)) (told-notices t.turned t.notices) (conditions-told at rest)

-- ---- what each deadline that is met keeps holds at the end

abbrev pub from_rows : Rows → sem.Ticking
from_rows rows = record { rows = rows; happened = [] }

module _ (cells : Saying) (until : Moment) (P : Ticking → Type 0)
    (one_met : (s : Ticking) (d : NamedDeadline) (x : Expired) → next_due until s.semaphores s.conditions ≡ Some d → expired d.key d.entry s.semaphores ≡ Some x → P s
    → P (with_semaphores s d.at (sem.met_as (from_rows s.semaphores) d x)))
    (one_evaluated : (s : Ticking) (d : NamedDeadline) → P s → P (evaluated cells s d)) where
  next-keeps : (s t : Ticking) → next_met cells until s ≡ Some t → P s → P t
  next-keeps s t same is = by_due (next_due until s.semaphores s.conditions) refl same
    where
      by_expired : (d : NamedDeadline) → next_due until s.semaphores s.conditions ≡ Some d → (o : Option Expired) → expired d.key d.entry s.semaphores ≡ o
          → option_map (with_semaphores s d.at) (option_map (sem.met_as (from_rows s.semaphores) d) o) ≡ Some t → P t
      by_expired d due None e h = absurd (cc h)
      by_expired d due (Some x) e h =
          let one : with_semaphores s d.at (sem.met_as (from_rows s.semaphores) d x) ≡ t = cc h in
          subst P one (one_met s d x due e is)

      by_kind : (d : NamedDeadline) → next_due until s.semaphores s.conditions ≡ Some d → (b : Bool) → (if b then Some (evaluated cells s d) else semaphore_met s d) ≡ Some t → P t
      by_kind d due true h = let one : evaluated cells s d ≡ t = cc h in subst P one (one_evaluated s d is)
      by_kind d due false h = by_expired d due (expired d.key d.entry s.semaphores) refl h

      by_due : (o : Option NamedDeadline) → next_due until s.semaphores s.conditions ≡ o → option_and_then (met cells s) o ≡ Some t → P t
      by_due None e h = absurd (cc h)
      by_due (Some d) e h = by_kind d e (d.kind == evaluation) h

  settled : (n : ℕ) (s : Ticking) → P s → P (settle (next_met cells until) n s)
  settled zero s is = is
  settled (suc n) s is = by_next (next_met cells until s) refl (λ t. settled n t)
    where
      by_next : (o : Option Ticking) → next_met cells until s ≡ o → ((t : Ticking) → P t → P (settle (next_met cells until) n t)) → P (settle_by (next_met cells until) n s o)
      by_next None e ih = is
      by_next (Some t) e ih = ih t (next-keeps s t e is)

  pub keeps-ticked : (s : Ticking) → P s → P (ticked_on cells until s)
  keeps-ticked s is = settled (most_left until s) s is

-- ---- the semaphores' part of it

put-stands : (x y : DatedHappening) (ys : List DatedHappening) → (x ≡ y) ⊎ Stands ys y → Stands (put_in x ys) y
put-stands x y [] is = is
put-stands x y (z ∷ zs) is = by_test (nat_lt z.at.0 x.at.0) (put-stands x y zs) is
  where
    by_test : (b : Bool) → ((x ≡ y) ⊎ Stands zs y → Stands (put_in x zs) y) → (x ≡ y) ⊎ Stands (z ∷ zs) y → Stands (if b then z ∷ put_in x zs else x ∷ z ∷ zs) y
    by_test true rest (inl same) = inr (rest (inl same))
    by_test true rest (inr (inl same)) = inl same
    by_test true rest (inr (inr s)) = inr (rest (inr s))
    by_test false rest is = is

merged-stands : (xs ys : List DatedHappening) (x : DatedHappening) → Stands xs x → Stands (merged xs ys) x
merged-stands [] ys x s = absurd s
merged-stands (y ∷ xs) ys x (inl same) = put-stands y x (merged xs ys) (inl same)
merged-stands (y ∷ xs) ys x (inr s) = put-stands y x (merged xs ys) (inr (merged-stands xs ys x s))

module _ (count : ℕ) (s : State) (sound : IsSound count s) (ms : ℕ) where
  abbrev until : Moment
  until = moment_after ms (cell.tables_of s)

  abbrev pub alone : sem.Ticking
  alone = sem.ticked until s.semaphores

  -- they become what they become without conditions
  pub rows-then : (meanwhile ms (cell.tables_of s)).semaphores ≡ alone.rows
  rows-then =
      ap (λ (t : Ticking). t.semaphores)
      (both_parts (saying s.variables) until s.semaphores s.events.conditions s.events.enrolments (record { semaphores = sound.semaphores; conditions = sound.conditions }))

  -- and what happens to them happens on the device, at some moment
  pub happens-too : (h : Happening) → Contains alone.happened h → (at : Moment) × Contains (meanwhile ms (cell.tables_of s)).happened (dated at (device.Semaphores h))
  happens-too h is = (found.0.0, subst (λ (l : List DatedHappening). Contains l (dated found.0.0 (device.Semaphores h))) (sym parts) (stands-contains _ _ among))
    where
      of_both : List DatedHappening
      of_both = map turning (of_events (saying s.variables) until s.semaphores s.events.conditions s.events.enrolments).told

      parts : (meanwhile ms (cell.tables_of s)).happened ≡ merged (map in_semaphores (of_semaphores until s.semaphores)) of_both
      parts =
          ap (λ (t : Ticking). t.happened)
          (both_parts (saying s.variables) until s.semaphores s.events.conditions s.events.enrolments (record { semaphores = sound.semaphores; conditions = sound.conditions }))

      without_moments : map (λ (x : Moment × Happening). x.1) (of_semaphores until s.semaphores) ≡ alone.happened
      without_moments = ap (λ (t : sem.Ticking). t.happened) (undated_is until (record { rows = s.semaphores; happened = [] }))

      found : (x : Moment × Happening) × Stands (of_semaphores until s.semaphores) x × (x.1 ≡ h)
      found =
          stands-map (λ (x : Moment × Happening). x.1) (of_semaphores until s.semaphores) h
          (subst (λ (l : List Happening). Stands l h) (sym without_moments) (contains-stands alone.happened h is))

      among : Stands (merged (map in_semaphores (of_semaphores until s.semaphores)) of_both) (dated found.0.0 (device.Semaphores h))
      among =
          subst (λ (g : Happening). Stands (merged (map in_semaphores (of_semaphores until s.semaphores)) of_both) (dated found.0.0 (device.Semaphores g))) found.2
          (merged-stands (map in_semaphores (of_semaphores until s.semaphores)) of_both (in_semaphores found.0)
          (map-stands in_semaphores (of_semaphores until s.semaphores) found.0 found.1))
