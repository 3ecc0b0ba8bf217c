-- Laws of time on a device: the same happens to its semaphores whatever conditions stand beside them, and what the
-- cells say is of no account where no condition is evaluated.
use Rattle.std.specs.Prelude.{◌≡◌, ℕ, zero, suc, ◌<◌, ◌≤◌, ◌||◌, Bool, true, false, not, Option, None, Some, is_some, List, [], ◌∷◌, ◌++◌, filter, map, option_map, option_and_then, if◌then◌else◌, refl}
use Rattle.std.specs.List.{cons_option, flat_map}
use Rattle.std.proofs.Common.{ap, sym, ◌∙◌, subst, append_assoc, append-nil, arith, inl, inr, cond}
use Rattle.mms_types.specs.Order.{scope_eq}
use Rattle.mms_types.specs.declared.key.Key.{Key}
use Rattle.mms_types.specs.declared.key.Scope.TheVariants.{Association}
use Rattle.mms_types.specs.declared.moment.Moment.{Moment}
use Rattle.mms_time.specs.Deadlines as sem_due
use Rattle.mms_time.specs.Deadlines.{NamedDeadline}
use Rattle.mms_time.specs.Semaphores as sem_rows
use Rattle.sem_ticks.specs.Dated as dated
use Rattle.sem_ticks.specs.Settling as sem_settling
use Rattle.sem_ticks.specs.Ticks as sem
use Rattle.sem_ticks.specs.Ticks.{entries_left}
use Rattle.sem_ticks.specs.declared.ticks.Happening as sem_happening
use Rattle.sem_ticks.proofs.Dated.{dated_first, undated_at, undated_is}
use Rattle.sem_ticks.proofs.Fewer.{falls}
use Rattle.sem_ticks.proofs.Twice.{tick_rests}
use Rattle.event_cond.specs.Conditions as cond_rows
use Rattle.event_cond.specs.Deletion as cond_lost
use Rattle.event_cond.specs.Skips.{Saying, any_due, first_due}
use Rattle.event_cond.specs.declared.condition.Condition.{Condition}
use Rattle.event_ticks.specs.Settling.{settle}
use Rattle.event_ticks.specs.Ticks as event_part
use Rattle.event_ticks.specs.declared.ticks.TurnTold.{TurnTold}
use Rattle.event_ticks.proofs.Settling.{settle_by}
use Rattle.cell_ticks.specs.Deadlines.{evaluation_due, next_due}
use Rattle.cell_ticks.specs.Ticks.{Ticking, aborted, aborted_one, evaluated, met, next_met, semaphore_met, with_semaphores, without_clients}
use Rattle.cell_ticks.specs.Ticks as device
use Rattle.cell_ticks.specs.declared.happening.DatedHappening.{DatedHappening}
use Rattle.cell_ticks.specs.declared.happening.Happening.TheVariants.{Semaphores, Turns}
use Rattle.cell_ticks.proofs.Coded.{due_is}
use Rattle.cell_ticks.proofs.Nexts.{OfConditions, OfSemaphores, nothing_is_due, what_is_due}
use Rattle.event_ticks.proofs.Nexts.{NoneDue}
use Rattle.cell_client.specs.Effects.{Effect}
use Rattle.cell_services.specs.Serving.{aborted_at, all_told, dated_told, happening_told, lost_in}

-- ---- who is lost by what happens

first_lost : (o : Option ℕ) (xs ys : List ℕ) → cons_option o (xs ++ ys) ≡ cons_option o xs ++ ys
first_lost None xs ys = refl
first_lost (Some client) xs ys = refl

pub lost_both : (xs ys : List DatedHappening) → lost_in (xs ++ ys) ≡ lost_in xs ++ lost_in ys
lost_both [] ys = refl
lost_both (x ∷ xs) ys = ap (cons_option (aborted_at x)) (lost_both xs ys) ∙ first_lost (aborted_at x) (lost_in xs) (lost_in ys)

pub aborted_both : (xs ys : List sem_happening.Happening) → aborted (xs ++ ys) ≡ aborted xs ++ aborted ys
aborted_both [] ys = refl
aborted_both (x ∷ xs) ys = ap (cons_option (aborted_one x)) (aborted_both xs ys) ∙ first_lost (aborted_one x) (aborted xs) (aborted ys)

-- by what happens to semaphores, and by no transition of a condition
abbrev pub in_semaphores : Moment → List sem_happening.Happening → List DatedHappening
in_semaphores at happened = map (λ h. device.dated at (Semaphores h)) happened

abbrev pub in_turns : Moment → List TurnTold → List DatedHappening
in_turns at told = map (λ t. device.dated at (Turns t)) told

pub lost_semaphores : (at : Moment) (happened : List sem_happening.Happening) → lost_in (in_semaphores at happened) ≡ aborted happened
lost_semaphores at [] = refl
lost_semaphores at (h ∷ hs) = ap (cons_option (aborted_one h)) (lost_semaphores at hs)

pub lost_turns : (at : Moment) (told : List TurnTold) → lost_in (in_turns at told) ≡ []
lost_turns at [] = refl
lost_turns at (t ∷ ts) = lost_turns at ts

-- ---- whom it tells what

pub told_both : (xs ys : List DatedHappening) → all_told (xs ++ ys) ≡ all_told xs ++ all_told ys
told_both [] ys = refl
told_both (x ∷ xs) ys = ap (λ (l : List (ℕ × Effect)). dated_told x ++ l) (told_both xs ys) ∙ sym (append_assoc (dated_told x) (all_told xs) (all_told ys))

happenings_both : (xs ys : List sem_happening.Happening) → flat_map happening_told (xs ++ ys) ≡ flat_map happening_told xs ++ flat_map happening_told ys
happenings_both [] ys = refl
happenings_both (x ∷ xs) ys =
    ap (λ (l : List (ℕ × Effect)). happening_told x ++ l) (happenings_both xs ys) ∙ sym (append_assoc (happening_told x) (flat_map happening_told xs) (flat_map happening_told ys))

told_semaphores : (at : Moment) (happened : List sem_happening.Happening) → all_told (in_semaphores at happened) ≡ flat_map happening_told happened
told_semaphores at [] = refl
told_semaphores at (h ∷ hs) = ap (λ (l : List (ℕ × Effect)). happening_told h ++ l) (told_semaphores at hs)

-- ---- the semaphores' deadlines

-- one of them is met, and then the others
pub record Follows (until : Moment) (was : sem_rows.Rows) (u : sem.Ticking) : Type 0 where
  pub happened : (sem.ticked until was).happened ≡ u.happened ++ (sem.ticked until u.rows).happened
  pub rows : (sem.ticked until was).rows ≡ (sem.ticked until u.rows).rows
  pub fewer : entries_left u.rows < entries_left was

undated_both : (xs ys : List (Moment × sem_happening.Happening)) → map (λ h. h.1) (xs ++ ys) ≡ map (λ h. h.1) xs ++ map (λ h. h.1) ys
undated_both [] ys = refl
undated_both (x ∷ xs) ys = ap (λ (l : List sem_happening.Happening). x.1 ∷ l) (undated_both xs ys)

abbrev start : sem_rows.Rows → sem.Ticking
start rows = record { rows = rows; happened = [] }

abbrev dating : sem_rows.Rows → dated.Dating
dating rows = record { rows = rows; happened = [] }

follows : (until : Moment) (rows : sem_rows.Rows) (d : NamedDeadline) (u : sem.Ticking) → sem_due.next_due until rows ≡ Some d → sem.met (start rows) d ≡ Some u → Follows until rows u
follows until rows d u due is = record {
  happened =
      sym (ap (λ (x : sem.Ticking). x.happened) (undated_is until (dating rows)))
      ∙ ap (λ (x : dated.Dating). map (λ h. h.1) x.happened) goes_on
      ∙ undated_both (dated.dated_at d.at u.happened) (dated.dated until u.rows).happened
      ∙ ap (λ (l : List sem_happening.Happening). l ++ map (λ h. h.1) (dated.dated until u.rows).happened) (undated_at d.at u.happened)
      ∙ ap (λ (x : sem.Ticking). u.happened ++ x.happened) (undated_is until (dating u.rows));
  rows =
      sym (ap (λ (x : sem.Ticking). x.rows) (undated_is until (dating rows)))
      ∙ ap (λ (x : dated.Dating). x.rows) goes_on
      ∙ ap (λ (x : sem.Ticking). x.rows) (undated_is until (dating u.rows));
  fewer = falls until (start rows) u (ap (option_and_then (sem.met (start rows))) due ∙ is);
}
  where
    v : dated.Dating
    v = record { rows = u.rows; happened = dated.dated_at d.at u.happened }

    goes_on : dated.dated until rows ≡ record { rows = (dated.dated until u.rows).rows; happened = v.happened ++ (dated.dated until u.rows).happened }
    goes_on = dated_first until rows v (ap (option_and_then (dated.met_dated (dating rows))) due ∙ ap (option_map (dated.dated_to (dating rows) d.at)) is)

-- ---- conditions that aren't due

-- none is due where some go
left_none : (until : Moment) (p : Key × Condition → Bool) (rows : cond_rows.Rows) → any_due until rows ≡ false → any_due until (filter p rows) ≡ false
left_none until p [] none = none
left_none until p (row ∷ rows) none = by_first (is_some (first_due until row.1)) refl none (left_none until p rows)
  where
    by_first : (b : Bool) → is_some (first_due until row.1) ≡ b → (b || any_due until rows) ≡ false → (any_due until rows ≡ false → any_due until (filter p rows) ≡ false)
        → any_due until (filter p (row ∷ rows)) ≡ false
    by_first true e h later = absurd (cc h)
    by_first false e h later = by_test (p row) (later h)
      where
        by_test : (b : Bool) → any_due until (filter p rows) ≡ false → any_due until (cond b (row ∷ filter p rows) (filter p rows)) ≡ false
        by_test true rest = ap (λ (b : Bool). b || any_due until (filter p rows)) e ∙ rest
        by_test false rest = rest

none_left : (until : Moment) (clients : List ℕ) (rows : cond_rows.Rows) → any_due until rows ≡ false → any_due until (without_clients clients rows) ≡ false
none_left until [] rows none = none
none_left until (client ∷ clients) rows none =
    none_left until clients (cond_lost.without_client client rows) (left_none until (λ row. not (scope_eq row.0.scope (Association client))) rows none)

-- so no evaluation comes
none_comes : (until : Moment) (semaphores : sem_rows.Rows) (conditions : cond_rows.Rows) (d : NamedDeadline) → any_due until conditions ≡ false → OfConditions until semaphores conditions d → ⊥
none_comes until semaphores conditions d none of =
    by_due (next_due until [] conditions) refl (sym none ∙ due_is until [] conditions)
  where
    late : NoneDue until (Some of.next) → ⊥
    late over = let low = of.low in omega (arith, over, low)

    by_due : (o : Option NamedDeadline) → next_due until [] conditions ≡ o → false ≡ is_some o → ⊥
    by_due None e h = late (subst (NoneDue until) of.first (nothing_is_due until [] conditions e).conditions)
    by_due (Some x) e h = cc h

-- ---- one deadline of the device is met

-- what happens to semaphores by it
pub record Goes (until : Moment) (s t : Ticking) : Type 0 where
  pub told : List sem_happening.Happening
  pub happened : (sem.ticked until s.semaphores).happened ≡ told ++ (sem.ticked until t.semaphores).happened
  pub lost : lost_in t.happened ≡ lost_in s.happened ++ aborted told

-- and where no condition is evaluated
pub record GoesAlone (until : Moment) (s t : Ticking) : Type 0 where
  pub told : List sem_happening.Happening
  pub happened : (sem.ticked until s.semaphores).happened ≡ told ++ (sem.ticked until t.semaphores).happened
  pub tells : all_told t.happened ≡ all_told s.happened ++ flat_map happening_told told
  pub none : any_due until t.conditions ≡ false
  pub fewer : entries_left t.semaphores < entries_left s.semaphores

module _ (cells : Saying) (until : Moment) (s : Ticking) where
  abbrev by : NamedDeadline → Bool → Option Ticking
  by d b = if b then Some (evaluated cells s d) else semaphore_met s d

  -- a deadline of a semaphore
  record IsMet (d : NamedDeadline) (t : Ticking) : Type 0 where
    become : sem.Ticking
    due : sem_due.next_due until s.semaphores ≡ Some d
    met : sem.met (start s.semaphores) d ≡ Some become
    is : with_semaphores s d.at become ≡ t

  is_met : (d : NamedDeadline) (t : Ticking) → OfSemaphores until s.semaphores s.conditions d → met cells s d ≡ Some t → IsMet d t
  is_met d t of h = by_met (sem.met (start s.semaphores) d) refl (ap (by d) (sym of.kind) ∙ h)
    where
      by_met : (o : Option sem.Ticking) → sem.met (start s.semaphores) d ≡ o → option_map (with_semaphores s d.at) o ≡ Some t → IsMet d t
      by_met None e k = absurd (cc k)
      by_met (Some u) e k = record { become = u; due = of.due; met = e; is = cc k }

  of_semaphore : (d : NamedDeadline) (t : Ticking) → IsMet d t → Goes until s t
  of_semaphore d t m =
      let u = m.become in
      subst (Goes until s) m.is
      (record {
        told = u.happened;
        happened = (follows until s.semaphores d u m.due m.met).happened;
        lost = lost_both s.happened (in_semaphores d.at u.happened) ∙ ap (λ (l : List ℕ). lost_in s.happened ++ l) (lost_semaphores d.at u.happened);
      })

  of_condition : (d : NamedDeadline) (t : Ticking) → OfConditions until s.semaphores s.conditions d → met cells s d ≡ Some t → Goes until s t
  of_condition d t of h =
      let e = evaluation_due of.next in
      let is : evaluated cells s e ≡ t = cc (ap (met cells s) of.is ∙ h) in
      subst (Goes until s) is
      (record {
        told = [];
        happened = refl;
        lost = lost_both s.happened (in_turns e.at (turns e)) ∙ ap (λ (l : List ℕ). lost_in s.happened ++ l) (lost_turns e.at (turns e));
      })
    where
      turns : NamedDeadline → List TurnTold
      turns e = (event_part.evaluated cells (event_part.begun s.conditions s.enrolments []) (e.at, e.key)).told

  goes : (t : Ticking) → next_met cells until s ≡ Some t → Goes until s t
  goes t h = by_due (next_due until s.semaphores s.conditions) refl h
    where
      by_due : (o : Option NamedDeadline) → next_due until s.semaphores s.conditions ≡ o → option_and_then (met cells s) o ≡ Some t → Goes until s t
      by_due None e k = absurd (cc k)
      by_due (Some d) e k =
          elim (what_is_due until s.semaphores s.conditions d e) [ inl of ↦ of_semaphore d t (is_met d t of k) | inr of ↦ of_condition d t of k ]

  module _ (none : any_due until s.conditions ≡ false) where
    alone : (d : NamedDeadline) (t : Ticking) → IsMet d t → GoesAlone until s t
    alone d t m =
        let u = m.become in
        let f = follows until s.semaphores d u m.due m.met in
        subst (GoesAlone until s) m.is
        (record {
          told = u.happened;
          happened = f.happened;
          tells = told_both s.happened (in_semaphores d.at u.happened) ∙ ap (λ (l : List (ℕ × Effect)). all_told s.happened ++ l) (told_semaphores d.at u.happened);
          none = none_left until (aborted u.happened) s.conditions none;
          fewer = f.fewer;
        })

    goes_alone : (t : Ticking) → next_met cells until s ≡ Some t → GoesAlone until s t
    goes_alone t h = by_due (next_due until s.semaphores s.conditions) refl h
      where
        by_due : (o : Option NamedDeadline) → next_due until s.semaphores s.conditions ≡ o → option_and_then (met cells s) o ≡ Some t → GoesAlone until s t
        by_due None e k = absurd (cc k)
        by_due (Some d) e k =
            elim (what_is_due until s.semaphores s.conditions d e) [ inl of ↦ alone d t (is_met d t of k) | inr of ↦ absurd (none_comes until s.semaphores s.conditions d none of) ]

    -- where nothing comes nothing happens to semaphores
    rests_alone : next_met cells until s ≡ None → (sem.ticked until s.semaphores).happened ≡ []
    rests_alone h = by_due (next_due until s.semaphores s.conditions) refl h
      where
        rests : sem.next_met until (start s.semaphores) ≡ None → (sem.ticked until s.semaphores).happened ≡ []
        rests e = ap (λ (x : sem.Ticking). x.happened) (tick_rests until (start s.semaphores) e)

        by_due : (o : Option NamedDeadline) → next_due until s.semaphores s.conditions ≡ o → option_and_then (met cells s) o ≡ None → (sem.ticked until s.semaphores).happened ≡ []
        by_due None e k = rests (ap (option_and_then (sem.met (start s.semaphores))) (nothing_is_due until s.semaphores s.conditions e).semaphores)
        by_due (Some d) e k = elim (what_is_due until s.semaphores s.conditions d e) [
          | inl of ↦ by_met of (sem.met (start s.semaphores) d) refl (ap (by d) (sym of.kind) ∙ k)
          | inr of ↦ absurd (none_comes until s.semaphores s.conditions d none of)
        ]
          where
            by_met : OfSemaphores until s.semaphores s.conditions d → (o : Option sem.Ticking) → sem.met (start s.semaphores) d ≡ o → option_map (with_semaphores s d.at) o ≡ None
                → (sem.ticked until s.semaphores).happened ≡ []
            by_met of None f g = rests (ap (option_and_then (sem.met (start s.semaphores))) of.due ∙ f)
            by_met of (Some u) f g = absurd (cc g)

    -- and other cells would let the same come
    same_next : (other : Saying) → next_met cells until s ≡ next_met other until s
    same_next other = by_due (next_due until s.semaphores s.conditions) refl
      where
        by_due : (o : Option NamedDeadline) → next_due until s.semaphores s.conditions ≡ o → option_and_then (met cells s) o ≡ option_and_then (met other s) o
        by_due None e = refl
        by_due (Some d) e = elim (what_is_due until s.semaphores s.conditions d e) [
          | inl of ↦ ap (by d) of.kind ∙ sym (ap (λ (b : Bool). if b then Some (evaluated other s d) else semaphore_met s d) of.kind)
          | inr of ↦ absurd (none_comes until s.semaphores s.conditions d none of)
        ]

-- ---- a tick

none_of : (xs ys : List ℕ) → xs ++ ys ≡ [] → (xs ≡ []) × (ys ≡ [])
none_of [] ys h = (refl, h)
none_of (x ∷ xs) ys h = absurd (cc h)

-- a tick by which no client is lost where there are semaphores alone
pub none_lost : (cells : Saying) (until : Moment) (n : ℕ) (s : Ticking) → aborted (sem.ticked until s.semaphores).happened ≡ []
    → lost_in (settle (next_met cells until) n s).happened ≡ lost_in s.happened
none_lost cells until zero s none = refl
none_lost cells until (suc n) s none = by_next (next_met cells until s) refl (λ t. none_lost cells until n t)
  where
    by_next : (o : Option Ticking) → next_met cells until s ≡ o
        → ((t : Ticking) → aborted (sem.ticked until t.semaphores).happened ≡ [] → lost_in (settle (next_met cells until) n t).happened ≡ lost_in t.happened)
        → lost_in (settle_by (next_met cells until) n s o).happened ≡ lost_in s.happened
    by_next None e ih = refl
    by_next (Some t) e ih =
        let g = goes cells until s t e in
        let both = none_of (aborted g.told) (aborted (sem.ticked until t.semaphores).happened)
        (sym (aborted_both g.told (sem.ticked until t.semaphores).happened) ∙ sym (ap aborted g.happened) ∙ none) in
        ih t both.1 ∙ g.lost ∙ ap (λ (l : List ℕ). lost_in s.happened ++ l) both.0 ∙ append-nil (lost_in s.happened)

-- a tick in which no condition is evaluated: it is the same whatever cells say
pub same_saying : (cells other : Saying) (until : Moment) (n : ℕ) (s : Ticking) → any_due until s.conditions ≡ false
    → settle (next_met cells until) n s ≡ settle (next_met other until) n s
same_saying cells other until zero s none = refl
same_saying cells other until (suc n) s none =
    by_next (next_met cells until s) refl (λ t. same_saying cells other until n t) ∙ ap (settle_by (next_met other until) n s) (same_next cells until s none other)
  where
    by_next : (o : Option Ticking) → next_met cells until s ≡ o
        → ((t : Ticking) → any_due until t.conditions ≡ false → settle (next_met cells until) n t ≡ settle (next_met other until) n t)
        → settle_by (next_met cells until) n s o ≡ settle_by (next_met other until) n s o
    by_next None e ih = refl
    by_next (Some t) e ih = ih t (goes_alone cells until s none t e).none

-- and what is told is what happens to semaphores
told_alone : (cells : Saying) (until : Moment) (n : ℕ) (s : Ticking) → any_due until s.conditions ≡ false → entries_left s.semaphores ≤ n
    → all_told (settle (next_met cells until) n s).happened ≡ all_told s.happened ++ flat_map happening_told (sem.ticked until s.semaphores).happened
told_alone cells until zero s none le =
    sym (append-nil (all_told s.happened))
    ∙ ap (λ (k : ℕ). all_told s.happened ++ flat_map happening_told (settle_sem k).happened) zero_left
  where
    settle_sem : ℕ → sem.Ticking
    settle_sem k = sem_settling.settle (sem.next_met until) k (start s.semaphores)

    zero_left : zero ≡ entries_left s.semaphores
    zero_left = omega (arith, le)
told_alone cells until (suc n) s none le = by_next (next_met cells until s) refl (λ t. told_alone cells until n t)
  where
    of : List sem_happening.Happening → List (ℕ × Effect)
    of l = all_told s.happened ++ flat_map happening_told l

    by_next : (o : Option Ticking) → next_met cells until s ≡ o
        → ((t : Ticking) → any_due until t.conditions ≡ false → entries_left t.semaphores ≤ n
        → all_told (settle (next_met cells until) n t).happened ≡ all_told t.happened ++ flat_map happening_told (sem.ticked until t.semaphores).happened)
        → all_told (settle_by (next_met cells until) n s o).happened ≡ of (sem.ticked until s.semaphores).happened
    by_next None e ih = sym (append-nil (all_told s.happened)) ∙ ap of (sym (rests_alone cells until s none e))
    by_next (Some t) e ih =
        let g = goes_alone cells until s none t e in
        let fewer = g.fewer in
        ih t g.none (omega (arith, fewer, le))
        ∙ ap (λ (l : List (ℕ × Effect)). l ++ flat_map happening_told (sem.ticked until t.semaphores).happened) g.tells
        ∙ append_assoc (all_told s.happened) (flat_map happening_told g.told) (flat_map happening_told (sem.ticked until t.semaphores).happened)
        ∙ ap (λ (l : List (ℕ × Effect)). all_told s.happened ++ l) (sym (happenings_both g.told (sem.ticked until t.semaphores).happened))
        ∙ ap of (sym g.happened)

pub semaphores_tell : (cells : Saying) (until : Moment) (s : Ticking) → s.happened ≡ [] → any_due until s.conditions ≡ false
    → all_told (device.ticked_on cells until s).happened ≡ flat_map happening_told (sem.ticked until s.semaphores).happened
semaphores_tell cells until s begins none =
    told_alone cells until (device.most_left until s) s none (omega arith)
    ∙ ap (λ (l : List DatedHappening). all_told l ++ flat_map happening_told (sem.ticked until s.semaphores).happened) begins
