-- What conditions have to tell, after one of them is evaluated, and after some of them are gone.
use Rattle.std.proofs.Common.{◌≡◌, ◌∙◌, ap, sym, subst, refl, ℕ, inl, inr, Bool, true, false, true≢false, cond, nat_le, List, [], ◌∷◌, filter, filter_map, Option, None, Some, option_map, if◌then◌else◌}
use Rattle.std.specs.List.{cons_option}
use Rattle.std.specs.Ordering.{is_lt, nat_cmp, ordering_reverse, ordering_then}
use Rattle.std.specs.declared.cmp.Ordering.{Ordering}
use Rattle.std.specs.declared.cmp.Ordering.TheVariants.{Less, Equal, Greater}
use Rattle.mms_types.specs.Order.{key_eq, key_order}
use Rattle.mms_types.specs.declared.condition.Turned.{Turned}
use Rattle.mms_types.specs.declared.key.Key.{Key}
use Rattle.mms_types.specs.declared.moment.Moment.{Moment}
use Rattle.mms_types.proofs.Precedence.{key_eq_tells, key_order_tells_apart}
use Rattle.event_cond.specs.Conditions.{Rows, changed, named, state_of, turn}
use Rattle.event_cond.specs.Evaluations.{evaluation_of, evaluation_order, evaluations, next_of, sooner}
use Rattle.event_cond.specs.Skips.{Saying, class_passed, first_turn, first_turns, in_order, says, turn_from, turns_sooner, up_to, with_turn}
use Rattle.event_cond.specs.Transitions.{transition}
use Rattle.event_cond.specs.declared.condition.Condition.{Condition}
use Rattle.event_ticks.proofs.Changes.{found_here, found_later, hit, miss}
use Rattle.event_cond.proofs.Orders.{Each, each_in_order, filtered, with_first, with_second}
use Rattle.event_cond.proofs.Soonest.{In, order}

-- its moment and its name
abbrev pub place_of : Turned → Moment × Key
place_of t = (t.at, t.condition)

abbrev pub at_name : Key → Moment → Moment × Key
at_name key at = (at, key)

-- of two with different names one comes before the other
strict : (a b : Moment × Key) → sooner b a ≡ false → key_eq a.1 b.1 ≡ false → sooner a b ≡ true
strict a b not_sooner apart = by_order (evaluation_order b a) refl
  where
    tied : (o p : Ordering) → ordering_then o p ≡ Equal → p ≡ Equal
    tied Less p e = absurd (cc e)
    tied Equal p e = e
    tied Greater p e = absurd (cc e)

    by_order : (o : Ordering) → evaluation_order b a ≡ o → sooner a b ≡ true
    by_order Less e = absurd (true≢false (sym (ap is_lt e) ∙ not_sooner))
    by_order Equal e =
        let names : key_order b.1 a.1 ≡ Equal = tied (nat_cmp b.0.0 a.0.0) (key_order b.1 a.1) e in
        let same : b.1 ≡ a.1 = (key_order_tells_apart b.1 a.1).0 names in
        absurd (true≢false (sym ((key_eq_tells a.1 b.1).1 (sym same)) ∙ apart))
    by_order Greater e = ap is_lt (order.antisymm a b ∙ ap ordering_reverse e)

module _ (until : Moment) (cells : Saying) where
  abbrev turns : Rows → List Turned
  turns rows = filter_map (first_turn until cells) rows

  -- what a condition tells bears its name, and the moment of its next evaluation
  of_row : (row : Key × Condition) (t : Turned) → first_turn until cells row ≡ Some t → evaluation_of row ≡ Some (place_of t)
  of_row row t is = by_next (next_of row.1) is
    where
      by_number : (at : Moment) (o : Option ℕ) → option_map (turn row.0 at row.1 (state_of (class_passed until (says cells row.1) row.1.class))) o ≡ Some t → Some (at_name row.0 at) ≡ Some (place_of t)
      by_number at None h = absurd (cc h)
      by_number at (Some n) h =
          let same : turn row.0 at row.1 (state_of (class_passed until (says cells row.1) row.1.class)) n ≡ t = cc h in
          ap (λ (x : Turned). Some (place_of x)) same

      by_next : (o : Option Moment) → turn_from until cells row.0 row.1 (up_to until o) ≡ Some t → option_map (at_name row.0) o ≡ Some (place_of t)
      by_next None h = absurd (cc h)
      by_next (Some at) h = by_test (nat_le at.0 until.0) h
        where
          by_test : (b : Bool) → turn_from until cells row.0 row.1 (if b then Some at else None) ≡ Some t → Some (at_name row.0 at) ≡ Some (place_of t)
          by_test true h = by_number at (transition (state_of row.1.class) (state_of (class_passed until (says cells row.1) row.1.class))) h
          by_test false h = absurd (cc h)

  name_of_row : (row : Key × Condition) (t : Turned) → first_turn until cells row ≡ Some t → row.0 ≡ t.condition
  name_of_row row t e = by_next (next_of row.1) (of_row row t e)
    where
      by_next : (o : Option Moment) → option_map (at_name row.0) o ≡ Some (place_of t) → row.0 ≡ t.condition
      by_next None h = absurd (cc h)
      by_next (Some at) h = let same : at_name row.0 at ≡ place_of t = cc h in ap (λ (x : Moment × Key). x.1) same

  pub each_turn : (Q : Moment × Key → Type 0) (rows : Rows) → ((e : Moment × Key) → In (evaluations rows) e → Q e) → Each (λ t. Q (place_of t)) (turns rows)
  each_turn Q [] all = tt
  each_turn Q (row ∷ rows) all = by_turn (first_turn until cells row) refl (each_turn Q rows (λ e there. all e (further (evaluation_of row) e there)))
    where
      further : (o : Option (Moment × Key)) (e : Moment × Key) → In (evaluations rows) e → In (cons_option o (evaluations rows)) e
      further None e there = there
      further (Some x) e there = inr there

      here : (o : Option (Moment × Key)) (e : Moment × Key) → o ≡ Some e → In (cons_option o (evaluations rows)) e
      here None e same = absurd (cc same)
      here (Some x) e same = inl (cc same)

      by_turn : (o : Option Turned) → first_turn until cells row ≡ o → Each (λ t. Q (place_of t)) (turns rows) → Each (λ t. Q (place_of t)) (cons_option o (turns rows))
      by_turn None e rest = rest
      by_turn (Some t) e rest = (all (place_of t) (here (evaluation_of row) (place_of t) (of_row row t e)), rest)

  -- ---- one is evaluated

  module _ (key : Key) (f : Condition → Condition) (c : Condition) (m : Moment) (due : next_of c ≡ Some m) (no_more : first_turn until cells (key, f c) ≡ None) where
    pub told_at : (t : Turned) → first_turn until cells (key, c) ≡ Some t → place_of t ≡ at_name key m
    told_at t is =
        let at : Some (at_name key m) ≡ Some (place_of t) = sym (ap (option_map (at_name key)) due) ∙ of_row (key, c) t is in
        cc (sym at)

    pub evaluated_turns : (rows : Rows) → named key rows ≡ Some c → Each (λ x. sooner (place_of x) (at_name key m) ≡ false) (turns rows)
        → in_order (turns rows) ≡ cons_option (first_turn until cells (key, c)) (in_order (turns (changed key f rows)))
    evaluated_turns [] is least = absurd (cc is)
    evaluated_turns (row ∷ rows) is least = by_test (key_eq key row.0) refl (evaluated_turns rows)
      where
        by_test : (b : Bool) → key_eq key row.0 ≡ b
            → (named key rows ≡ Some c → Each (λ x. sooner (place_of x) (at_name key m) ≡ false) (turns rows)
            → in_order (turns rows) ≡ cons_option (first_turn until cells (key, c)) (in_order (turns (changed key f rows))))
            → in_order (turns (row ∷ rows)) ≡ cons_option (first_turn until cells (key, c)) (in_order (turns (changed key f (row ∷ rows))))
        by_test true t later =
            let name : key ≡ row.0 = (key_eq_tells key row.0).0 t in
            let value : c ≡ row.1 = cc (sym is ∙ found_here key row rows t) in
            let old : first_turn until cells row ≡ first_turn until cells (key, c) = ap (λ (k : Key). first_turn until cells (k, row.1)) (sym name) ∙ ap (λ (d : Condition). first_turn until cells (key, d)) (sym value) in
            let new : first_turn until cells (row.0, f row.1) ≡ None = ap (λ (k : Key). first_turn until cells (k, f row.1)) (sym name) ∙ ap (λ (d : Condition). first_turn until cells (key, f d)) (sym value) ∙ no_more in
            ap (λ (o : Option Turned). in_order (cons_option o (turns rows))) old
            ∙ by_turn (first_turn until cells (key, c)) refl (rest (first_turn until cells row) least)
            ∙ ap (λ (o : Option Turned). cons_option (first_turn until cells (key, c)) (in_order (cons_option o (turns rows)))) (sym new)
            ∙ ap (λ (l : Rows). cons_option (first_turn until cells (key, c)) (in_order (turns l))) (sym (hit key f row rows t))
          where
            rest : (o : Option Turned) → Each (λ x. sooner (place_of x) (at_name key m) ≡ false) (cons_option o (turns rows)) → Each (λ x. sooner (place_of x) (at_name key m) ≡ false) (turns rows)
            rest None all = all
            rest (Some x) all = all.1

            by_turn : (o : Option Turned) → first_turn until cells (key, c) ≡ o → Each (λ x. sooner (place_of x) (at_name key m) ≡ false) (turns rows)
                → in_order (cons_option o (turns rows)) ≡ cons_option o (in_order (turns rows))
            by_turn None e all = refl
            by_turn (Some x) e all =
                with_first x (in_order (turns rows))
                (each_in_order (λ y. turns_sooner y x ≡ false) (turns rows)
                (subst (λ (d : Moment × Key). Each (λ y. sooner (place_of y) d ≡ false) (turns rows)) (sym (told_at x e)) all))
        by_test false t later = by_turn (first_turn until cells row) refl least ∙ ap (λ (l : Rows). cons_option (first_turn until cells (key, c)) (in_order (turns l))) (sym (miss key f row rows t))
          where
            ih : Each (λ x. sooner (place_of x) (at_name key m) ≡ false) (turns rows) → in_order (turns rows) ≡ cons_option (first_turn until cells (key, c)) (in_order (turns (changed key f rows)))
            ih = later (sym (found_later key row rows t) ∙ is)

            by_turn : (o : Option Turned) → first_turn until cells row ≡ o → Each (λ x. sooner (place_of x) (at_name key m) ≡ false) (cons_option o (turns rows))
                → in_order (cons_option o (turns rows)) ≡ cons_option (first_turn until cells (key, c)) (in_order (cons_option o (turns (changed key f rows))))
            by_turn None e all = ih all
            by_turn (Some x) e all = ap (with_turn x) (ih all.1) ∙ by_first (first_turn until cells (key, c)) refl
              where
                by_first : (o : Option Turned) → first_turn until cells (key, c) ≡ o
                    → with_turn x (cons_option o (in_order (turns (changed key f rows)))) ≡ cons_option o (with_turn x (in_order (turns (changed key f rows))))
                by_first None d = refl
                by_first (Some first) d = with_second x first (in_order (turns (changed key f rows))) sooner_first
                  where
                    sooner_first : turns_sooner first x ≡ true
                    sooner_first =
                        ap (λ (d : Moment × Key). sooner d (place_of x)) (told_at first d)
                        ∙ strict (at_name key m) (place_of x) all.0 (ap (key_eq key) (sym (name_of_row row x e)) ∙ t)

  -- ---- some are gone

  module _ (p : Key → Bool) where
    gone_turns : (rows : Rows) → turns (filter (λ row. p row.0) rows) ≡ filter (λ t. p t.condition) (turns rows)
    gone_turns [] = refl
    gone_turns (row ∷ rows) = by_tests (p row.0) refl (first_turn until cells row) refl (gone_turns rows)
      where
        by_tests : (b : Bool) → p row.0 ≡ b → (o : Option Turned) → first_turn until cells row ≡ o → turns (filter (λ r. p r.0) rows) ≡ filter (λ t. p t.condition) (turns rows)
            → turns (cond b (row ∷ filter (λ r. p r.0) rows) (filter (λ r. p r.0) rows)) ≡ filter (λ t. p t.condition) (cons_option o (turns rows))
        by_tests true q None e rest = ap (λ (o : Option Turned). cons_option o (turns (filter (λ r. p r.0) rows))) e ∙ rest
        by_tests true q (Some t) e rest =
            ap (λ (o : Option Turned). cons_option o (turns (filter (λ r. p r.0) rows))) e ∙ ap (λ l. t ∷ l) rest
            ∙ ap (λ (b : Bool). cond b (t ∷ filter (λ t. p t.condition) (turns rows)) (filter (λ t. p t.condition) (turns rows))) (sym q ∙ ap p (name_of_row row t e))
        by_tests false q None e rest = rest
        by_tests false q (Some t) e rest =
            rest ∙ ap (λ (b : Bool). cond b (t ∷ filter (λ t. p t.condition) (turns rows)) (filter (λ t. p t.condition) (turns rows))) (sym q ∙ ap p (name_of_row row t e))

    pub turns_left : (rows : Rows) → first_turns until cells (filter (λ row. p row.0) rows) ≡ filter (λ t. p t.condition) (first_turns until cells rows)
    turns_left rows = ap in_order (gone_turns rows) ∙ sym (filtered (λ t. p t.condition) (turns rows))
