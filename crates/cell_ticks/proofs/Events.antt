-- What a tick of conditions and enrollments comes to, where clients are lost at its beginning, or one condition is evaluated then.
use Rattle.std.proofs.Common.{◌≡◌, ◌∙◌, ap, sym, subst, refl, ℕ, ◌+◌, ◌<◌, ◌≤◌, inl, inr, Bool, true, false, cond, not, nat_le, nat_lt, List, [], ◌∷◌, ◌++◌, filter, filter_map, fold, length, map, Option, None, Some, option_map, option_and_then, if◌then◌else◌, arith}
use Rattle.std.proofs.lemmas.Bool.Decides.{nat_tests}
use Rattle.std.specs.List.{AllByRecursion, IsDistinct, cons_option, sum_by}
use Rattle.std.specs.Map.{keys_of, values_of}
use Rattle.mms_types.specs.Order.{key_eq, scope_eq}
use Rattle.mms_types.specs.declared.condition.ConditionState.{ConditionState}
use Rattle.mms_types.specs.declared.condition.Turned.{Turned}
use Rattle.mms_types.specs.declared.key.Key.{Key}
use Rattle.mms_types.specs.declared.key.Scope.TheVariants.{Association}
use Rattle.mms_types.specs.declared.moment.Moment.{Moment}
use Rattle.event_cond.specs.Conditions as cond_rows
use Rattle.event_cond.specs.Conditions.{class_evaluated, evaluate_told, move_told, named, state_of, turn}
use Rattle.event_cond.specs.Deletion as cond_lost
use Rattle.event_cond.specs.Evaluations.{evaluation_of, evaluations, next_evaluation}
use Rattle.event_cond.specs.Skips.{Saying, first_turn, first_turns}
use Rattle.event_cond.specs.Transitions.{transition}
use Rattle.event_cond.specs.declared.condition.Condition.{Condition}
use Rattle.event_cond.proofs.Orders.{Each, each_in_order, no_earlier}
use Rattle.event_cond.proofs.Soonest.{In, least_first, next_none}
use Rattle.event_enrol.specs.Enrolments as enrol
use Rattle.event_ticks.specs.Skipping.{enrolments_left, is_left, skipping, skipping_told, told_left}
use Rattle.event_ticks.specs.Sound.{AreSound}
use Rattle.event_ticks.specs.Ticks.{Ticking, begun, evaluated, lost, most_of, next_evaluated, next_lost, next_met, next_of_both, says_named, ticked, told_if, told_of}
use Rattle.event_ticks.specs.declared.ticks.Loss.{Loss}
use Rattle.event_ticks.specs.declared.ticks.TurnTold.{TurnTold}
use Rattle.event_ticks.proofs.Due.{stands}
use Rattle.event_ticks.proofs.Lost.{lost_fewer, lost_sound}
use Rattle.event_ticks.proofs.Nexts.{LossesAfter, NoneBefore}
use Rattle.event_ticks.proofs.Steps.{ClassOf}
use Rattle.event_ticks.proofs.Ticked.{Sound, are_sound, falls, keeps, skips, sound_of, tick_meets}
use Rattle.event_ticks.proofs.Turns.{each_turn}
use Rattle.cell_ticks.specs.Meant.{From}
use Rattle.cell_ticks.specs.Parts.{turning}
use Rattle.cell_ticks.specs.Ticks.{dated, enrolments_without, without_clients}
use Rattle.cell_ticks.specs.declared.happening.Happening.TheVariants.{Turns}
use Rattle.cell_ticks.proofs.Lists.{After}

abbrev pub lost_at : Moment → ℕ → Loss
lost_at at client = record { at = at; client = client }

-- no evaluation lies before that moment
abbrev pub EachFrom : Moment → cond_rows.Rows → Type 0
EachFrom at rows = (e : Moment × Key) → In (evaluations rows) e → at.0 ≤ e.0.0

pub each_from : (at : Moment) (rows : cond_rows.Rows) → NoneBefore at (next_evaluation rows) → EachFrom at rows
each_from at rows none = by_next (next_evaluation rows) refl none
  where
    by_next : (o : Option (Moment × Key)) → next_evaluation rows ≡ o → NoneBefore at o → EachFrom at rows
    by_next None is none e there = absurd (subst (λ (l : List (Moment × Key)). In l e) (next_none rows is) there)
    by_next (Some x) is none e there = let first = no_earlier e x (least_first (evaluations rows) x e is there) in omega (arith, first, none)

none_before : (at : Moment) (rows : cond_rows.Rows) → EachFrom at rows → NoneBefore at (next_evaluation rows)
none_before at rows all = by_next (next_evaluation rows) refl
  where
    by_next : (o : Option (Moment × Key)) → next_evaluation rows ≡ o → NoneBefore at o
    by_next None is = tt
    by_next (Some e) is = all e (stands rows e is)

-- nor where some conditions go
further : (row : Key × Condition) (rows : cond_rows.Rows) (e : Moment × Key) → In (evaluations rows) e → In (evaluations (row ∷ rows)) e
further row rows e there = by_first (evaluation_of row)
  where
    by_first : (o : Option (Moment × Key)) → In (cons_option o (evaluations rows)) e
    by_first None = there
    by_first (Some x) = inr there

left_in : (p : Key × Condition → Bool) (rows : cond_rows.Rows) (e : Moment × Key) → In (evaluations (filter p rows)) e → In (evaluations rows) e
left_in p [] e there = there
left_in p (row ∷ rows) e there = by_test (p row) there (left_in p rows e)
  where
    by_test : (b : Bool) → In (evaluations (cond b (row ∷ filter p rows) (filter p rows))) e → (In (evaluations (filter p rows)) e → In (evaluations rows) e) → In (evaluations (row ∷ rows)) e
    by_test true there rest = by_first (evaluation_of row) there
      where
        by_first : (o : Option (Moment × Key)) → In (cons_option o (evaluations (filter p rows))) e → In (cons_option o (evaluations rows)) e
        by_first None there = rest there
        by_first (Some x) (inl same) = inl same
        by_first (Some x) (inr there) = inr (rest there)
    by_test false there rest = further row rows e (rest there)

pub left_from : (at : Moment) (clients : List ℕ) (rows : cond_rows.Rows) → EachFrom at rows → EachFrom at (without_clients clients rows)
left_from at [] rows all = all
left_from at (client ∷ clients) rows all =
    left_from at clients (cond_lost.without_client client rows) (λ e there. all e (left_in (λ row. not (scope_eq row.0.scope (Association client))) rows e there))

-- ---- what is told

module _ (cells : Saying) (until : Moment) where
  -- no earlier than the evaluations
  told_rest : (at : Moment) (losses : List Loss) (enrolments : enrol.Rows) (turns : List Turned) → Each (λ t. at.0 ≤ t.at.0) turns → From at (map turning (filter_map (told_left losses enrolments) turns))
  told_rest at losses enrolments [] all = tt
  told_rest at losses enrolments (t ∷ turns) all = by_test (is_left t.at losses t.condition) (told_rest at losses enrolments turns all.1)
    where
      by_test : (b : Bool) → From at (map turning (filter_map (told_left losses enrolments) turns))
          → From at (map turning (cons_option (if b then Some (told_of (enrolments_left t.at losses enrolments) t) else None) (filter_map (told_left losses enrolments) turns)))
      by_test true rest = (all.0, rest)
      by_test false rest = rest

  pub told_from : (at : Moment) (conditions : cond_rows.Rows) (enrolments : enrol.Rows) (losses : List Loss) → AreSound conditions → EachFrom at conditions
      → From at (map turning (ticked cells until (begun conditions enrolments losses)).told)
  told_from at conditions enrolments losses sound all =
      let start = begun conditions enrolments losses in
      subst (λ (t : Ticking). From at (map turning t.told)) (sym (skips cells until start (sound_of start sound)))
      (told_rest at losses enrolments (first_turns until cells conditions)
      (each_in_order (λ t. at.0 ≤ t.at.0) (filter_map (first_turn until cells) conditions) (each_turn until cells (λ e. at.0 ≤ e.0.0) conditions all)))

  -- what is told before stands before
  pub told_before : (conditions : cond_rows.Rows) (enrolments : enrol.Rows) (losses : List Loss) (told : List TurnTold) → AreSound conditions
      → ticked cells until (record { conditions = conditions; enrolments = enrolments; losses = losses; told = told })
      ≡ record (ticked cells until (begun conditions enrolments losses)) { told = told ++ (ticked cells until (begun conditions enrolments losses)).told }
  told_before conditions enrolments losses told sound =
      let after : Ticking = record { conditions = conditions; enrolments = enrolments; losses = losses; told = told } in
      let start = begun conditions enrolments losses in
      skips cells until after (sound_of after sound)
      ∙ sym (ap (λ (t : Ticking). record t { told = told ++ t.told }) (skips cells until start (sound_of start sound)))

  -- ---- clients are lost first

  pub one_sound : (client : ℕ) (conditions : cond_rows.Rows) → AreSound conditions → AreSound (cond_lost.without_client client conditions)
  one_sound client conditions sound =
      let loss = lost_at until client in
      let start = begun conditions [] (loss ∷ []) in
      let s = sound_of start sound in
      are_sound (lost start loss []) (lost_sound cells until start loss [] refl ClassOf s.0 s.1)

  pub all_sound : (clients : List ℕ) (conditions : cond_rows.Rows) → AreSound conditions → AreSound (without_clients clients conditions)
  all_sound [] conditions sound = sound
  all_sound (client ∷ clients) conditions sound = all_sound clients (cond_lost.without_client client conditions) (one_sound client conditions sound)

  pub fewer_left : (clients : List ℕ) (conditions : cond_rows.Rows) → sum_by (most_of until) (values_of (without_clients clients conditions)) ≤ sum_by (most_of until) (values_of conditions)
  fewer_left [] conditions = omega arith
  fewer_left (client ∷ clients) conditions =
      let loss = lost_at until client in
      let less = lost_fewer cells until (begun conditions [] (loss ∷ [])) loss [] refl in
      let rest = fewer_left clients (cond_lost.without_client client conditions) in
      omega (arith, less, rest)

  module _ (at : Moment) (by_then : at.0 ≤ until.0) (losses : List Loss) where
    comes_first : (client : ℕ) (later : List Loss) (conditions : cond_rows.Rows) (enrolments : enrol.Rows) → NoneBefore at (next_evaluation conditions)
        → next_met cells until (begun conditions enrolments (lost_at at client ∷ later))
        ≡ Some (begun (cond_lost.without_client client conditions) (enrol.without_client client enrolments) later)
    comes_first client later conditions enrolments none = by_next (next_evaluation conditions) none
      where
        s : Ticking
        s = begun conditions enrolments (lost_at at client ∷ later)

        loses : next_lost until s (lost_at at client) later ≡ Some (begun (cond_lost.without_client client conditions) (enrol.without_client client enrolments) later)
        loses =
            let low : nat_le at.0 until.0 ≡ true = grind (arith, nat_tests) in
            ap (λ (b : Bool). if b then Some (begun (cond_lost.without_client client conditions) (enrol.without_client client enrolments) later) else None) low

        by_next : (o : Option (Moment × Key)) → NoneBefore at o → next_of_both cells until s o (lost_at at client ∷ later)
            ≡ Some (begun (cond_lost.without_client client conditions) (enrol.without_client client enrolments) later)
        by_next None none = loses
        by_next (Some e) none =
            let not_before : nat_lt e.0.0 at.0 ≡ false = grind (arith, nat_tests) in
            ap (λ (b : Bool). if b then next_evaluated cells until s (Some e) else next_lost until s (lost_at at client) later) not_before ∙ loses

    pub lost_first : (clients : List ℕ) (conditions : cond_rows.Rows) (enrolments : enrol.Rows) → AreSound conditions → EachFrom at conditions
        → ticked cells until (begun conditions enrolments (map (lost_at at) clients ++ losses))
        ≡ ticked cells until (begun (without_clients clients conditions) (enrolments_without clients enrolments) losses)
    lost_first [] conditions enrolments sound all = refl
    lost_first (client ∷ clients) conditions enrolments sound all =
        let s = begun conditions enrolments (map (lost_at at) (client ∷ clients) ++ losses) in
        let t = begun (cond_lost.without_client client conditions) (enrol.without_client client enrolments) (map (lost_at at) clients ++ losses) in
        tick_meets cells until s t (sound_of s sound) (comes_first client (map (lost_at at) clients ++ losses) conditions enrolments (none_before at conditions all))
        ∙ lost_first clients (cond_lost.without_client client conditions) (enrol.without_client client enrolments) (one_sound client conditions sound)
        (λ e there. all e (left_in (λ row. not (scope_eq row.0.scope (Association client))) conditions e there))

  -- ---- a condition is evaluated first

  module _ (next : Moment × Key) (conditions : cond_rows.Rows) (enrolments : enrol.Rows) (sound : AreSound conditions) (first : next_evaluation conditions ≡ Some next) (low : next.0.0 ≤ until.0) where
    abbrev pub after : List Loss → Ticking
    after losses = evaluated cells (begun conditions enrolments losses) next

    evaluates : (losses : List Loss) → next_evaluated cells until (begun conditions enrolments losses) (next_evaluation conditions) ≡ Some (after losses)
    evaluates losses =
        let by_then : nat_le next.0.0 until.0 ≡ true = grind (arith, nat_tests) in
        ap (next_evaluated cells until (begun conditions enrolments losses)) first ∙ ap (λ (b : Bool). if b then Some (after losses) else None) by_then

    evaluated_next : (losses : List Loss) → LossesAfter next.0 losses → next_met cells until (begun conditions enrolments losses) ≡ Some (after losses)
    evaluated_next [] late = evaluates []
    evaluated_next (loss ∷ later) late =
        let before : nat_lt next.0.0 loss.at.0 ≡ true = grind (arith, nat_tests) in
        let s = begun conditions enrolments (loss ∷ later) in
        ap (λ (o : Option (Moment × Key)). next_of_both cells until s o (loss ∷ later)) first
        ∙ ap (λ (b : Bool). if b then next_evaluated cells until s (Some next) else next_lost until s loss later) before
        ∙ ap (next_evaluated cells until s) (sym first) ∙ evaluates (loss ∷ later)

    pub evaluated_sound : AreSound (after []).conditions
    evaluated_sound =
        let s = begun conditions enrolments [] in are_sound (after []) (keeps cells until s (after []) (sound_of s sound) (evaluated_next [] tt))

    pub evaluated_fewer : sum_by (most_of until) (values_of (after []).conditions) < sum_by (most_of until) (values_of conditions)
    evaluated_fewer =
        let s = begun conditions enrolments [] in
        let less = falls cells until s (after []) (sound_of s sound) (evaluated_next [] tt) in
        omega (arith, less)

    pub evaluated_first : (losses : List Loss) → LossesAfter next.0 losses → ticked cells until (begun conditions enrolments losses)
        ≡ record (ticked cells until (begun (after []).conditions enrolments losses)) { told = (after []).told ++ (ticked cells until (begun (after []).conditions enrolments losses)).told }
    evaluated_first losses late =
        let s = begun conditions enrolments losses in
        tick_meets cells until s (after losses) (sound_of s sound) (evaluated_next losses late) ∙ told_before (after []).conditions enrolments losses (after []).told evaluated_sound

    -- what is told has its moment
    told_one : (o : Option Condition) (says : Bool) (key : Key)
        → map turning (told_if enrolments (option_and_then (λ c. move_told key next.0 (class_evaluated next.0 says c.class) c) o))
        ≡ map (λ told. dated next.0 (Turns told)) (told_if enrolments (option_and_then (λ c. move_told key next.0 (class_evaluated next.0 says c.class) c) o))
    told_one None says key = refl
    told_one (Some c) says key = by_transition (transition (state_of c.class) (state_of (class_evaluated next.0 says c.class)))
      where
        by_transition : (o : Option ℕ)
            → map turning (told_if enrolments (option_map (turn key next.0 c (state_of (class_evaluated next.0 says c.class))) o))
            ≡ map (λ told. dated next.0 (Turns told)) (told_if enrolments (option_map (turn key next.0 c (state_of (class_evaluated next.0 says c.class))) o))
        by_transition None = refl
        by_transition (Some n) = refl

    pub told_then : map turning (after []).told ≡ map (λ told. dated next.0 (Turns told)) (after []).told
    told_then = told_one (named next.1 conditions) (says_named cells next.1 conditions) next.1
