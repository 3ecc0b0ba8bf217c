-- What each step of a tick keeps and lowers, and that it comes to the same in two parts.
use Rattle.std.proofs.Common.{◌≡◌, ◌∙◌, ap, sym, subst, refl, ℕ, ◌+◌, ◌<◌, ◌≤◌, inl, inr, ◌==◌, nat_le, Bool, true, false, List, [], ◌∷◌, ◌++◌, append_assoc, map, Option, None, Some, option_map, option_and_then, if◌then◌else◌, arith}
use Rattle.std.proofs.lemmas.Bool.Decides.{nat_tests}
use Rattle.std.specs.List.{AllByRecursion, cons_option, sum_by}
use Rattle.std.specs.Map.{values_of}
use Rattle.mms_types.specs.declared.key.Key.{Key}
use Rattle.mms_types.specs.declared.moment.Moment.{Moment}
use Rattle.mms_time.specs.Deadlines as sem_due
use Rattle.mms_time.specs.Deadlines.{NamedDeadline, due_sooner}
use Rattle.mms_time.specs.Semaphores as sem_rows
use Rattle.mms_time.proofs.NextDeadline as sem_least
use Rattle.token_sem.proofs.Least.{least-first}
use Rattle.sem_ticks.specs.Dated as sem
use Rattle.sem_ticks.specs.Dated.{HappenFrom, LieFrom, dated_at, dated_to, met_dated, next_dated}
use Rattle.sem_ticks.specs.Ticks as sem_ticks
use Rattle.sem_ticks.specs.Ticks.{entries_left}
use Rattle.sem_ticks.specs.declared.ticks.Happening as sem_happening
use Rattle.sem_ticks.specs.declared.ticks.Happening.TheVariants.{WaitEnds, Grants, Aborts}
use Rattle.sem_ticks.proofs.Dated.{begun_with, dated_first, happen_from, later_from}
use Rattle.sem_ticks.proofs.Fewer as sem_fewer
use Rattle.sem_ticks.proofs.Kept as sem_kept
use Rattle.event_cond.specs.Conditions as cond
use Rattle.event_cond.specs.Evaluations.{next_evaluation}
use Rattle.event_cond.specs.Skips.{Saying}
use Rattle.event_enrol.specs.Enrolments as enrol
use Rattle.event_ticks.specs.Ticks as events
use Rattle.event_ticks.specs.Ticks.{most_of}
use Rattle.event_ticks.specs.declared.ticks.Loss.{Loss}
use Rattle.event_ticks.specs.declared.ticks.TurnTold.{TurnTold}
use Rattle.event_ticks.proofs.Nexts.{LossesAfter}
use Rattle.cell_ticks.specs.Deadlines.{evaluation_due, next_due}
use Rattle.cell_ticks.specs.Parts.{in_semaphores, loss_of, losses_of, merged, merged_parts, of_events, of_semaphores, turning}
use Rattle.cell_ticks.specs.Sound.{IsSound}
use Rattle.cell_ticks.specs.Ticks.{Ticking, aborted, aborted_one, dated, enrolments_without, evaluated, met, most_left, next_met, semaphore_met, with_semaphores, without_clients}
use Rattle.cell_ticks.specs.declared.happening.DatedHappening.{DatedHappening}
use Rattle.cell_ticks.specs.declared.happening.Happening.TheVariants.{Semaphores, Turns}
use Rattle.cell_ticks.proofs.Events.{EachFrom, all_sound, each_from, evaluated_fewer, evaluated_first, evaluated_sound, fewer_left, left_from, lost_at, lost_first, told_from, told_then}
use Rattle.cell_ticks.proofs.Lists.{After, first_ones, second_ones, semaphores_after}
use Rattle.cell_ticks.proofs.Nexts.{DueAfter, OfConditions, OfSemaphores, what_is_due}

-- what a tick comes to in two parts, as it goes on
abbrev pub joined : List DatedHappening → sem.Dating → events.Ticking → Ticking
joined before d e = record { semaphores = d.rows; conditions = e.conditions; enrolments = e.enrolments; happened = before ++ merged_parts d.happened e.told }

abbrev pub parts : Saying → Moment → Ticking → Ticking
parts cells until s = joined s.happened (sem.dated until s.semaphores) (of_events cells until s.semaphores s.conditions s.enrolments)

pub record Stepped (cells : Saying) (until : Moment) (s t : Ticking) : Type 0 where
  pub sound : IsSound t
  pub fewer : most_left until t < most_left until s
  pub same : parts cells until t ≡ parts cells until s

-- the losses of what happens at a moment, and of the rest
losses_more : (at : Moment) (told : List sem_happening.Happening) (rest : List (Moment × sem_happening.Happening))
    → losses_of (dated_at at told ++ rest) ≡ map (lost_at at) (aborted told) ++ losses_of rest
losses_more at [] rest = refl
losses_more at (h ∷ told) rest = ap (cons_option (loss_of (at, h))) (losses_more at told rest) ∙ by_one (aborted_one h)
  where
    by_one : (o : Option ℕ) → cons_option (option_map (lost_at at) o) (map (lost_at at) (aborted told) ++ losses_of rest) ≡ map (lost_at at) (cons_option o (aborted told)) ++ losses_of rest
    by_one None = refl
    by_one (Some client) = refl

module _ (cells : Saying) (until : Moment) (s : Ticking) (sound : IsSound s) (d : NamedDeadline) where
  -- ---- a deadline of a semaphore

  module _ (of : OfSemaphores until s.semaphores s.conditions d) (u : sem_ticks.Ticking) (is : sem_ticks.met (record { rows = s.semaphores; happened = [] }) d ≡ Some u) where
    abbrev t : Ticking
    t = with_semaphores s d.at u

    abbrev v : sem.Dating
    v = record { rows = u.rows; happened = dated_at d.at u.happened }

    next_is : next_dated until (record { rows = s.semaphores; happened = [] }) ≡ Some v
    next_is = ap (option_and_then (met_dated (record { rows = s.semaphores; happened = [] }))) of.due ∙ ap (option_map (dated_to (record { rows = s.semaphores; happened = [] }) d.at)) is

    met_is : sem_ticks.next_met until (record { rows = s.semaphores; happened = [] }) ≡ Some u
    met_is = ap (option_and_then (sem_ticks.met (record { rows = s.semaphores; happened = [] }))) of.due ∙ is

    abbrev rest : List (Moment × sem_happening.Happening)
    rest = of_semaphores until u.rows

    first : sem.dated until s.semaphores ≡ begun_with v.happened (sem.dated until u.rows)
    first = dated_first until s.semaphores v next_is

    later : HappenFrom d.at rest
    later = later_from until s.semaphores v d next_is of.due

    all_from : EachFrom d.at s.conditions
    all_from = each_from d.at s.conditions of.evaluations

    t_sound : IsSound t
    t_sound = record {
      semaphores = sem_kept.keeps_next until (record { rows = s.semaphores; happened = [] }) u met_is sound.semaphores;
      conditions = all_sound cells until (aborted u.happened) s.conditions sound.conditions;
    }

    events_same : of_events cells until s.semaphores s.conditions s.enrolments ≡ of_events cells until u.rows t.conditions t.enrolments
    events_same =
        ap (λ (x : sem.Dating). events.ticked cells until (events.begun s.conditions s.enrolments (losses_of x.happened))) first
        ∙ ap (λ (l : List Loss). events.ticked cells until (events.begun s.conditions s.enrolments l)) (losses_more d.at u.happened rest)
        ∙ lost_first cells until d.at of.low (losses_of rest) (aborted u.happened) s.conditions s.enrolments sound.conditions all_from

    happened_same : s.happened ++ merged_parts (dated_at d.at u.happened ++ rest) (of_events cells until u.rows t.conditions t.enrolments).told
        ≡ t.happened ++ merged_parts rest (of_events cells until u.rows t.conditions t.enrolments).told
    happened_same =
        ap (λ l. s.happened ++ l)
        (first_ones d.at u.happened rest (map turning (of_events cells until u.rows t.conditions t.enrolments).told) later
        (told_from cells until d.at t.conditions t.enrolments (losses_of rest) t_sound.conditions (left_from d.at (aborted u.happened) s.conditions all_from)))
        ∙ sym
        (append_assoc s.happened (map (λ h. dated d.at (Semaphores h)) u.happened)
        (merged_parts rest (of_events cells until u.rows t.conditions t.enrolments).told))

    pub semaphore_step : Stepped cells until s t
    semaphore_step = record {
      sound = t_sound;
      fewer =
          let less = sem_fewer.falls until (record { rows = s.semaphores; happened = [] }) u met_is in
          let left = fewer_left cells until (aborted u.happened) s.conditions in
          omega (arith, less, left);
      same =
          sym
          (ap (λ (x : sem.Dating). joined s.happened x (of_events cells until s.semaphores s.conditions s.enrolments)) first
          ∙ ap (joined s.happened (begun_with v.happened (sem.dated until u.rows))) events_same
          ∙ ap (λ (l : List DatedHappening). record {
            semaphores = (sem.dated until u.rows).rows;
            conditions = (of_events cells until u.rows t.conditions t.enrolments).conditions;
            enrolments = (of_events cells until u.rows t.conditions t.enrolments).enrolments;
            happened = l;
          }) happened_same);
    }

-- ---- an evaluation

-- all deadlines of the semaphores lie after that moment
lie_after : (at : Moment) (rows : sem_rows.Rows) → DueAfter at (sem_due.first_due rows) → LieFrom (record { 0 = at.0 + 1 }) rows
lie_after at rows after = by_first (sem_due.first_due rows) refl after
  where
    by_first : (o : Option NamedDeadline) → sem_due.first_due rows ≡ o → DueAfter at o → LieFrom (record { 0 = at.0 + 1 }) rows
    by_first None is after k x low =
        let none : sem_due.next_due at rows ≡ None = ap (sem_due.until_only at) is in
        let past = sem_least.next_none at rows none k x low in
        omega (arith, past)
    by_first (Some d) is after k x low =
        let not_yet : sem_due.next_due at rows ≡ None = ap (sem_due.until_only at) is ∙ late in
        let past = sem_least.next_none at rows not_yet k x low in
        omega (arith, past)
      where
        late : sem_due.until_only at (Some d) ≡ None
        late = let over : nat_le d.at.0 at.0 ≡ false = grind (arith, nat_tests) in ap (λ (b : Bool). if b then Some d else None) over

losses_after : (at : Moment) (happened : List (Moment × sem_happening.Happening)) → HappenFrom (record { 0 = at.0 + 1 }) happened → LossesAfter at (losses_of happened)
losses_after at [] all = tt
losses_after at (h ∷ happened) all = by_one (aborted_one h.1) (losses_after at happened all.1)
  where
    by_one : (o : Option ℕ) → LossesAfter at (losses_of happened) → LossesAfter at (cons_option (option_map (lost_at h.0) o) (losses_of happened))
    by_one None rest = rest
    by_one (Some client) rest = let first = all.0 in omega (arith, first)

module _ (cells : Saying) (until : Moment) (s : Ticking) (sound : IsSound s) (next : Moment × Key) (first : next_evaluation s.conditions ≡ Some next)
    (low : next.0.0 ≤ until.0) (semaphores : DueAfter next.0 (sem_due.first_due s.semaphores)) where
  abbrev t_after : Ticking
  t_after = evaluated cells s (evaluation_due next)

  abbrev alone : events.Ticking
  alone = events.evaluated cells (events.begun s.conditions s.enrolments []) next

  abbrev losses : List Loss
  losses = losses_of (of_semaphores until s.semaphores)

  all_after : HappenFrom (record { 0 = next.0.0 + 1 }) (of_semaphores until s.semaphores)
  all_after =
      happen_from (record { 0 = next.0.0 + 1 }) until (record { rows = s.semaphores; happened = [] }) (lie_after next.0 s.semaphores semaphores) tt

  after_each : (told : List TurnTold) → After next.0 (map in_semaphores (of_semaphores until s.semaphores))
      → AllByRecursion (λ z. After z.at (map in_semaphores (of_semaphores until s.semaphores))) (map (λ x. dated next.0 (Turns x)) told)
  after_each [] all = tt
  after_each (x ∷ told) all = (all, after_each told all)

  turned_more : (xs ys : List TurnTold) → map turning (xs ++ ys) ≡ map turning xs ++ map turning ys
  turned_more [] ys = refl
  turned_more (x ∷ xs) ys = ap (λ l. turning x ∷ l) (turned_more xs ys)

  abbrev later_events : events.Ticking
  later_events = of_events cells until s.semaphores alone.conditions s.enrolments

  events_first : of_events cells until s.semaphores s.conditions s.enrolments ≡ record later_events { told = alone.told ++ later_events.told }
  events_first = evaluated_first cells until next s.conditions s.enrolments sound.conditions first low losses (losses_after next.0 (of_semaphores until s.semaphores) all_after)

  happened_so : s.happened ++ merged_parts (of_semaphores until s.semaphores) (alone.told ++ later_events.told) ≡ t_after.happened ++ merged_parts (of_semaphores until s.semaphores) later_events.told
  happened_so =
      ap (λ l. s.happened ++ merged (map in_semaphores (of_semaphores until s.semaphores)) l)
      (turned_more alone.told later_events.told ∙ ap (λ l. l ++ map turning later_events.told) (told_then cells until next s.conditions s.enrolments sound.conditions first low))
      ∙ ap (λ l. s.happened ++ l)
      (second_ones (map (λ x. dated next.0 (Turns x)) alone.told) (map in_semaphores (of_semaphores until s.semaphores)) (map turning later_events.told)
      (after_each alone.told (semaphores_after next.0 (of_semaphores until s.semaphores) all_after)))
      ∙ sym (append_assoc s.happened (map (λ x. dated next.0 (Turns x)) alone.told) (merged_parts (of_semaphores until s.semaphores) later_events.told))

  pub evaluation_step : Stepped cells until s t_after
  evaluation_step = record {
    sound = record { semaphores = sound.semaphores; conditions = evaluated_sound cells until next s.conditions s.enrolments sound.conditions first low };
    fewer = let less = evaluated_fewer cells until next s.conditions s.enrolments sound.conditions first low in omega (arith, less);
    same =
        sym
        (ap (joined s.happened (sem.dated until s.semaphores)) events_first
        ∙ ap (λ (l : List DatedHappening). record {
          semaphores = (sem.dated until s.semaphores).rows;
          conditions = later_events.conditions;
          enrolments = later_events.enrolments;
          happened = l;
        }) happened_so);
  }

-- ---- either

pub step : (cells : Saying) (until : Moment) (s t : Ticking) → IsSound s → next_met cells until s ≡ Some t → Stepped cells until s t
step cells until s t sound h = by_due (next_due until s.semaphores s.conditions) refl h
  where
    by_due : (o : Option NamedDeadline) → next_due until s.semaphores s.conditions ≡ o → option_and_then (met cells s) o ≡ Some t → Stepped cells until s t
    by_due None e k = absurd (cc k)
    by_due (Some d) e k = elim (what_is_due until s.semaphores s.conditions d e) [ inl of ↦ semaphore of | inr of ↦ condition of ]
      where
        semaphore : OfSemaphores until s.semaphores s.conditions d → Stepped cells until s t
        semaphore of =
            by_met (sem_ticks.met (record { rows = s.semaphores; happened = [] }) d) refl
            (ap (λ (b : Bool). if b then Some (evaluated cells s d) else semaphore_met s d) (sym of.kind) ∙ k)
          where
            by_met : (o : Option sem_ticks.Ticking) → sem_ticks.met (record { rows = s.semaphores; happened = [] }) d ≡ o → option_map (with_semaphores s d.at) o ≡ Some t → Stepped cells until s t
            by_met None f k = absurd (cc k)
            by_met (Some u) f k = let same : with_semaphores s d.at u ≡ t = cc k in subst (Stepped cells until s) same (semaphore_step cells until s sound d of u f)

        condition : OfConditions until s.semaphores s.conditions d → Stepped cells until s t
        condition of =
            let same : evaluated cells s (evaluation_due of.next) ≡ t = cc (ap (met cells s) of.is ∙ k) in
            subst (Stepped cells until s) same (evaluation_step cells until s sound of.next of.first of.low of.semaphores)
