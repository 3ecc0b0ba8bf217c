-- A tick goes on as long as something is due, and it is what the semaphores' tick and the events' tick come to.
use Rattle.std.proofs.Common.{◌≡◌, ◌∙◌, ap, sym, subst, refl, ℕ, zero, suc, ◌<◌, ◌≤◌, inl, inr, ◌==◌, nat_le, Bool, true, false, List, [], ◌∷◌, ◌++◌, append-nil, map, Option, None, Some, option_map, option_and_then, if◌then◌else◌, arith, All}
use Rattle.std.proofs.lemmas.Bool.Decides.{nat_tests}
use Rattle.std.proofs.lemmas.List.Elements.{All-from_recursion, recursion_from_All}
use Rattle.std.specs.List.{AllByRecursion}
use Rattle.mms_types.specs.declared.key.Key.{Key}
use Rattle.mms_types.specs.declared.moment.Moment.{Moment}
use Rattle.mms_time.specs.Deadlines.{NamedDeadline, until_only}
use Rattle.mms_time.specs.Semaphores as sem_rows
use Rattle.sem_ticks.specs.Dated as sem
use Rattle.sem_ticks.specs.Ticks as sem_ticks
use Rattle.sem_ticks.proofs.Ahead.{none_due}
use Rattle.sem_ticks.proofs.Dated.{dated_rests, undated_is}
use Rattle.event_cond.specs.Conditions as cond
use Rattle.event_cond.specs.Evaluations.{next_evaluation}
use Rattle.event_cond.specs.Skips.{Saying}
use Rattle.event_enrol.specs.Enrolments as enrol
use Rattle.event_ticks.specs.Ticks as events
use Rattle.event_ticks.proofs.Nexts.{NoneDue}
use Rattle.event_ticks.proofs.Settling.{settle-ends, settle-none, settle-step}
use Rattle.event_ticks.proofs.Ticked as events_ticked
use Rattle.cell_ticks.specs.Deadlines.{evaluation, first_due, next_due}
use Rattle.cell_ticks.specs.Parts.{in_parts, losses_of, of_events, of_semaphores}
use Rattle.cell_ticks.specs.Sound.{IsSound}
use Rattle.cell_ticks.specs.Ticks.{Ticking, begun, evaluated, met, most_left, next_met, semaphore_met, ticked, ticked_on, with_semaphores}
use Rattle.cell_ticks.specs.declared.happening.DatedHappening.{DatedHappening}
use Rattle.cell_ticks.proofs.Nexts.{NothingDue, OfConditions, OfSemaphores, nothing_is_due, what_is_due}
use Rattle.cell_ticks.proofs.Steps.{Stepped, joined, parts, step}

module _ (cells : Saying) (until : Moment) where
  keeps : (s t : Ticking) → IsSound s → next_met cells until s ≡ Some t → IsSound t
  keeps s t sound h = (step cells until s t sound h).sound

  falls : (s t : Ticking) → IsSound s → next_met cells until s ≡ Some t → most_left until t < most_left until s
  falls s t sound h = (step cells until s t sound h).fewer

  pub tick_rests : (s : Ticking) → next_met cells until s ≡ None → ticked_on cells until s ≡ s
  tick_rests s none = settle-none (next_met cells until) (most_left until s) s none

  pub tick_meets : (s t : Ticking) → IsSound s → next_met cells until s ≡ Some t → ticked_on cells until s ≡ ticked_on cells until t
  tick_meets s t sound some = settle-step (next_met cells until) (most_left until) IsSound keeps falls s t sound some

  pub ends : (s : Ticking) → IsSound s → next_met cells until (ticked_on cells until s) ≡ None
  ends s sound = settle-ends (next_met cells until) (most_left until) IsSound keeps falls (most_left until s) s sound (omega arith)

  -- by what comes, up to the end
  pub tick_induction : (P : Ticking → Type 0) → ((s : Ticking) → IsSound s → next_met cells until s ≡ None → P s)
      → ((s t : Ticking) → IsSound s → next_met cells until s ≡ Some t → P t → P s) → (s : Ticking) → IsSound s → P s
  tick_induction P rests meets s sound = by_bound (suc (most_left until s)) s sound (omega arith)
    where
      by_bound : (n : ℕ) (s : Ticking) → IsSound s → most_left until s < n → P s
      by_bound zero s sound lt = absurd (omega (arith, lt))
      by_bound (suc n) s sound lt = by_next (next_met cells until s) refl (λ t. by_bound n t)
        where
          by_next : (o : Option Ticking) → next_met cells until s ≡ o → ((t : Ticking) → IsSound t → most_left until t < n → P t) → P s
          by_next None e ih = rests s sound e
          by_next (Some t) e ih = let fall = falls s t sound e in meets s t sound e (ih t (keeps s t sound e) (omega (arith, fall, lt)))

  -- where nothing comes, nothing is due
  pub none_is_due : (s : Ticking) → IsSound s → next_met cells until s ≡ None → next_due until s.semaphores s.conditions ≡ None
  none_is_due s sound h = by_due (next_due until s.semaphores s.conditions) refl h
    where
      by_due : (o : Option NamedDeadline) → next_due until s.semaphores s.conditions ≡ o → option_and_then (met cells s) o ≡ None → o ≡ None
      by_due None e k = refl
      by_due (Some d) e k = elim (what_is_due until s.semaphores s.conditions d e) [ inl of ↦ absurd (semaphore of) | inr of ↦ absurd (condition of) ]
        where
          semaphore : OfSemaphores until s.semaphores s.conditions d → ⊥
          semaphore of =
              by_met (sem_ticks.met (record { rows = s.semaphores; happened = [] }) d) refl
              (ap (λ (b : Bool). if b then Some (evaluated cells s d) else semaphore_met s d) (sym of.kind) ∙ k)
            where
              by_met : (o : Option sem_ticks.Ticking) → sem_ticks.met (record { rows = s.semaphores; happened = [] }) d ≡ o → option_map (with_semaphores s d.at) o ≡ None → ⊥
              by_met None f k =
                  let rests = ap (option_and_then (sem_ticks.met (record { rows = s.semaphores; happened = [] }))) of.due ∙ f in
                  cc (sym of.due ∙ none_due until (record { rows = s.semaphores; happened = [] }) sound.semaphores rests)
              by_met (Some u) f k = cc k

          condition : OfConditions until s.semaphores s.conditions d → ⊥
          condition of = cc (ap (met cells s) of.is ∙ k)

  -- then both parts rest
  rests_same : (s : Ticking) → IsSound s → next_met cells until s ≡ None → parts cells until s ≡ s
  rests_same s sound h =
      let n = nothing_is_due until s.semaphores s.conditions (none_is_due s sound h) in
      let start : sem.Dating = record { rows = s.semaphores; happened = [] } in
      let rests : sem.dated until s.semaphores ≡ start = dated_rests until start (ap (option_and_then (sem.met_dated start)) n.semaphores) in
      let alone = events.begun s.conditions s.enrolments [] in
      let events_rest : events.ticked cells until alone ≡ alone = events_ticked.tick_rests cells until alone (none_evaluated (next_evaluation s.conditions) n.conditions) in
      ap (λ (x : sem.Dating). joined s.happened x (events.ticked cells until (events.begun s.conditions s.enrolments (losses_of x.happened)))) rests
      ∙ ap (joined s.happened start) events_rest
      ∙ ap (λ (l : List DatedHappening). record { semaphores = s.semaphores; conditions = s.conditions; enrolments = s.enrolments; happened = l }) (append-nil s.happened)
    where
      none_evaluated : (o : Option (Moment × Key)) → NoneDue until o → events.next_evaluated cells until (events.begun s.conditions s.enrolments []) o ≡ None
      none_evaluated None late = refl
      none_evaluated (Some e) late =
          let not_yet : nat_le e.0.0 until.0 ≡ false = grind (arith, nat_tests) in
          ap (λ (b : Bool). if b then Some (events.evaluated cells (events.begun s.conditions s.enrolments []) e) else None) not_yet

  pub in_two : (s : Ticking) → IsSound s → ticked_on cells until s ≡ parts cells until s
  in_two = tick_induction (λ s. ticked_on cells until s ≡ parts cells until s)
      (λ s sound e. tick_rests s e ∙ sym (rests_same s sound e))
      (λ s t sound e ih. tick_meets s t sound e ∙ ih ∙ (step cells until s t sound e).same)

  pub stays_sound : (s : Ticking) → IsSound s → IsSound (ticked_on cells until s)
  stays_sound = tick_induction (λ s. IsSound (ticked_on cells until s))
      (λ s sound e. subst IsSound (sym (tick_rests s e)) sound)
      (λ s t sound e ih. subst IsSound (sym (tick_meets s t sound e)) ih)

  pub nothing_left : (s : Ticking) → IsSound s → next_due until (ticked_on cells until s).semaphores (ticked_on cells until s).conditions ≡ None
  nothing_left s sound = none_is_due (ticked_on cells until s) (stays_sound s sound) (ends s sound)

-- ---- two ticks

module _ (cells : Saying) (first later : Moment) (le : first.0 ≤ later.0) where
  due_later : (o : Option NamedDeadline) (d : NamedDeadline) → until_only first o ≡ Some d → until_only later o ≡ Some d
  due_later None d h = absurd (cc h)
  due_later (Some x) d h = by_test (nat_le x.at.0 first.0) refl h
    where
      by_test : (b : Bool) → nat_le x.at.0 first.0 ≡ b → (if b then Some x else None) ≡ Some d → until_only later (Some x) ≡ Some d
      by_test true q k =
          let too : nat_le x.at.0 later.0 ≡ true = grind (arith, nat_tests) in
          ap (λ (b : Bool). if b then Some x else None) too ∙ k
      by_test false q k = absurd (cc k)

  met_later : (s t : Ticking) → next_met cells first s ≡ Some t → next_met cells later s ≡ Some t
  met_later s t h = by_due (next_due first s.semaphores s.conditions) refl h
    where
      by_due : (o : Option NamedDeadline) → next_due first s.semaphores s.conditions ≡ o → option_and_then (met cells s) o ≡ Some t → next_met cells later s ≡ Some t
      by_due None e k = absurd (cc k)
      by_due (Some d) e k = ap (option_and_then (met cells s)) (due_later (first_due s.semaphores s.conditions) d e) ∙ k

  pub twice : (s : Ticking) → IsSound s → ticked_on cells later (ticked_on cells first s) ≡ ticked_on cells later s
  twice = tick_induction cells first (λ s. ticked_on cells later (ticked_on cells first s) ≡ ticked_on cells later s)
      (λ s sound e. ap (ticked_on cells later) (tick_rests cells first s e))
      (λ s t sound e ih. ap (ticked_on cells later) (tick_meets cells first s t sound e) ∙ ih ∙ sym (tick_meets cells later s t sound (met_later s t e)))

-- ---- from the beginning

pub both_parts : (cells : Saying) (until : Moment) (semaphores : sem_rows.Rows) (conditions : cond.Rows) (enrolments : enrol.Rows) → IsSound (begun semaphores conditions enrolments)
    → ticked cells until semaphores conditions enrolments ≡ in_parts cells until semaphores conditions enrolments
both_parts cells until semaphores conditions enrolments sound =
    in_two cells until (begun semaphores conditions enrolments) sound
    ∙ ap (λ (x : sem_ticks.Ticking). record (in_parts cells until semaphores conditions enrolments) { semaphores = x.rows }) (undated_is until (record { rows = semaphores; happened = [] }))
