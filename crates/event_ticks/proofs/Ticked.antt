-- A tick goes on as long as something is due, and comes to the same where each condition is met at its first evaluation alone.
use Rattle.std.proofs.Common.{◌≡◌, ◌∙◌, ap, sym, subst, refl, ℕ, zero, suc, ◌<◌, ◌≤◌, inl, inr, Bool, true, false, nat_le, List, [], ◌∷◌, ◌++◌, append-nil, filter_map, get_or, length, Option, None, Some, option_map, if◌then◌else◌, arith, All}
use Rattle.std.specs.List.{AllByRecursion, IsDistinct, cons_option}
use Rattle.std.specs.Map.{keys_of}
use Rattle.std.proofs.lemmas.Bool.Decides.{nat_tests}
use Rattle.std.proofs.lemmas.List.Elements.{All-from_recursion, recursion_from_All}
use Rattle.mms_types.specs.Order.{key_eq}
use Rattle.mms_types.specs.declared.condition.Turned.{Turned}
use Rattle.mms_types.specs.declared.key.Key.{Key}
use Rattle.mms_types.specs.declared.moment.Moment.{Moment}
use Rattle.event_cond.specs.Conditions as cond_rows
use Rattle.event_cond.specs.Deletion as cond_lost
use Rattle.event_cond.specs.Evaluations.{evaluation_of, evaluations, next_evaluation, next_of}
use Rattle.event_cond.specs.Kept.{IsClass, IsCondition}
use Rattle.event_cond.specs.declared.condition.ConditionClass.{ConditionClass}
use Rattle.event_cond.specs.declared.condition.ConditionClass.TheVariants.{NetworkTriggered, Monitored}
use Rattle.event_cond.specs.Skips.{Saying, after_skip, first_due, first_turn, in_order, skipped_from, first_turns, turn_from, up_to}
use Rattle.event_cond.specs.declared.condition.Condition.{Condition}
use Rattle.event_cond.proofs.Soonest.{In, least_first, next_none}
use Rattle.event_enrol.specs.Enrolments as enrol
use Rattle.event_ticks.specs.Skipping.{conditions_left, enrolments_left, losses_left, skipping, skipping_told, told_left}
use Rattle.event_ticks.specs.Sound.{AreSound, IsTimedClass}
use Rattle.event_ticks.specs.Ticks.{Ticking, begun, evaluated, is_before, lost, most_left, next_evaluated, next_lost, next_met, next_of_both, ticked}
use Rattle.event_ticks.specs.declared.ticks.Loss.{Loss}
use Rattle.event_ticks.specs.declared.ticks.TurnTold.{TurnTold}
use Rattle.event_ticks.proofs.Due.{is_due}
use Rattle.event_ticks.proofs.Lost.{lost_fewer, lost_same, lost_sound}
use Rattle.event_ticks.proofs.Nexts.{Evaluates, Loses, LossesAfter, NoneDue, Rests, nothing_comes, what_comes}
use Rattle.event_cond.proofs.Orders.{no_earlier}
use Rattle.event_ticks.proofs.Settling.{settle-ends, settle-none, settle-step}
use Rattle.event_ticks.proofs.Steps.{ClassOf, after_fewer, after_sound, class_of_named, evaluated_is, evaluated_same}

-- what holds of the conditions
abbrev pub Sound : Ticking → Type 0
Sound s = (IsDistinct key_eq (keys_of s.conditions)) × AllByRecursion ClassOf s.conditions

pub sound_of : (s : Ticking) → AreSound s.conditions → Sound s
sound_of s is = (is.names, recursion_from_All ClassOf s.conditions is.each)

pub are_sound : (s : Ticking) → Sound s → AreSound s.conditions
are_sound s sound = record { names = sound.0; each = All-from_recursion ClassOf s.conditions sound.1 }

-- what each step does
record Stepped (cells : Saying) (until : Moment) (s t : Ticking) : Type 0 where
  sound : Sound t
  fewer : most_left until t < most_left until s
  same : skipping cells until t ≡ skipping cells until s

module _ (cells : Saying) (until : Moment) where
  step : (s t : Ticking) → Sound s → next_met cells until s ≡ Some t → Stepped cells until s t
  step s t sound h = elim (what_comes cells until s t h) [ inl e ↦ evaluates e | inr l ↦ loses l ]
    where
      evaluates : Evaluates cells until s t → Stepped cells until s t
      evaluates e =
          let d = is_due s.conditions e.next sound.0 e.first in
          let class : IsTimedClass d.condition.class = class_of_named e.next.1 d.condition s.conditions sound.1 d.found in
          subst (Stepped cells until s) (sym (evaluated_is cells until s e.next.1 e.next.0 d.condition d.found d.next e.low class) ∙ e.is)
          (record {
            sound = after_sound cells until s e.next.1 e.next.0 d.condition d.found d.next e.low class sound.0 sound.1;
            fewer = after_fewer cells until s e.next.1 e.next.0 d.condition d.found d.next e.low class;
            same = evaluated_same cells until s e.next.1 e.next.0 d.condition d.found d.next e.low class e.losses e.first;
          })

      loses : Loses until s t → Stepped cells until s t
      loses l =
          subst (Stepped cells until s) l.is
          (record {
            sound = lost_sound cells until s l.loss l.later l.first ClassOf sound.0 sound.1;
            fewer = lost_fewer cells until s l.loss l.later l.first;
            same = lost_same cells until s l.loss l.later l.first l.low l.evaluations;
          })

  -- ---- nothing is due

  none_due : (o : Option (Moment × Key)) (rows : cond_rows.Rows) → next_evaluation rows ≡ o → NoneDue until o → (e : Moment × Key) → In (evaluations rows) e → until.0 < e.0.0
  none_due None rows is none e there = absurd (subst (λ (l : List (Moment × Key)). In l e) (next_none rows is) there)
  none_due (Some x) rows is none e there = let first = no_earlier e x (least_first (evaluations rows) x e is there) in omega (arith, first, none)

  -- a condition that isn't due
  record Waits (row : Key × Condition) : Type 0 where
    due : first_due until row.1 ≡ None

  waits : (row : Key × Condition) → ((at : Moment) → next_of row.1 ≡ Some at → until.0 < at.0) → first_due until row.1 ≡ None
  waits row late = by_next (next_of row.1) late
    where
      by_next : (o : Option Moment) → ((at : Moment) → o ≡ Some at → until.0 < at.0) → up_to until o ≡ None
      by_next None late = refl
      by_next (Some at) late =
          let after : until.0 < at.0 = late at refl in
          let not_yet : nat_le at.0 until.0 ≡ false = grind (arith, nat_tests) in
          ap (λ (b : Bool). if b then Some at else None) not_yet

  here : (row : Key × Condition) (rows : cond_rows.Rows) (at : Moment) → next_of row.1 ≡ Some at → In (evaluations (row ∷ rows)) (at, row.0)
  here row rows at is = subst (λ (o : Option (Moment × Key)). In (cons_option o (evaluations rows)) (at, row.0)) (sym (ap (option_map (λ (x : Moment). (x, row.0))) is)) (inl refl)

  further : (row : Key × Condition) (rows : cond_rows.Rows) (e : Moment × Key) → In (evaluations rows) e → In (evaluations (row ∷ rows)) e
  further row rows e there = by_first (evaluation_of row)
    where
      by_first : (o : Option (Moment × Key)) → In (cons_option o (evaluations rows)) e
      by_first None = there
      by_first (Some x) = inr there

  unchanged : (rows : cond_rows.Rows) → ((e : Moment × Key) → In (evaluations rows) e → until.0 < e.0.0) → after_skip until cells rows ≡ rows
  unchanged [] late = refl
  unchanged (row ∷ rows) late =
      let none = waits row (λ at is. late (at, row.0) (here row rows at is)) in
      ap (λ (c : Condition). (row.0, c) ∷ after_skip until cells rows) (ap (skipped_from until cells row.1) none) ∙ ap (λ l. row ∷ l) (unchanged rows (λ e there. late e (further row rows e there)))

  nothing_told : (rows : cond_rows.Rows) → ((e : Moment × Key) → In (evaluations rows) e → until.0 < e.0.0) → filter_map (first_turn until cells) rows ≡ []
  nothing_told [] late = refl
  nothing_told (row ∷ rows) late =
      let none = waits row (λ at is. late (at, row.0) (here row rows at is)) in
      ap (λ (o : Option Turned). cons_option o (filter_map (first_turn until cells) rows)) (ap (turn_from until cells row.0 row.1) none)
      ∙ nothing_told rows (λ e there. late e (further row rows e there))

  record AreLeft (losses : List Loss) (c : cond_rows.Rows) (e : enrol.Rows) : Type 0 where
    conditions : conditions_left until losses c ≡ c
    enrolments : enrolments_left until losses e ≡ e
    waiting : losses_left until losses ≡ losses

  all_left : (losses : List Loss) (c : cond_rows.Rows) (e : enrol.Rows) → LossesAfter until losses → AreLeft losses c e
  all_left [] c e late = record { conditions = refl; enrolments = refl; waiting = refl }
  all_left (loss ∷ later) c e late =
      let not_yet : nat_le loss.at.0 until.0 ≡ false = grind (arith, nat_tests) in
      record {
        conditions = ap (λ (b : Bool). if b then conditions_left until later (cond_lost.without_client loss.client c) else c) not_yet;
        enrolments = ap (λ (b : Bool). if b then enrolments_left until later (enrol.without_client loss.client e) else e) not_yet;
        waiting = ap (λ (b : Bool). if b then losses_left until later else loss ∷ later) not_yet;
      }

  pub rests_same : (s : Ticking) → Rests until s → skipping cells until s ≡ s
  rests_same s rests =
      let late = none_due (next_evaluation s.conditions) s.conditions refl rests.evaluations in
      let left = all_left s.losses s.conditions s.enrolments rests.losses in
      ap (λ (l : cond_rows.Rows). record {
        conditions = conditions_left until s.losses l;
        enrolments = enrolments_left until s.losses s.enrolments;
        losses = losses_left until s.losses;
        told = s.told ++ skipping_told cells until s;
      }) (unchanged s.conditions late)
      ∙ ap (λ (l : cond_rows.Rows). record {
        conditions = l;
        enrolments = enrolments_left until s.losses s.enrolments;
        losses = losses_left until s.losses;
        told = s.told ++ skipping_told cells until s;
      }) left.conditions
      ∙ ap (λ (l : enrol.Rows). record {
        conditions = s.conditions;
        enrolments = l;
        losses = losses_left until s.losses;
        told = s.told ++ skipping_told cells until s;
      }) left.enrolments
      ∙ ap (λ (l : List Loss). record {
        conditions = s.conditions;
        enrolments = s.enrolments;
        losses = l;
        told = s.told ++ skipping_told cells until s;
      }) left.waiting
      ∙ ap (λ (l : List TurnTold). record { conditions = s.conditions; enrolments = s.enrolments; losses = s.losses; told = l })
      (ap (λ (l : List Turned). s.told ++ filter_map (told_left s.losses s.enrolments) (in_order l)) (nothing_told s.conditions late) ∙ append-nil s.told)

  -- ---- all

  pub keeps : (s t : Ticking) → Sound s → next_met cells until s ≡ Some t → Sound t
  keeps s t sound h = (step s t sound h).sound

  pub falls : (s t : Ticking) → Sound s → next_met cells until s ≡ Some t → most_left until t < most_left until s
  falls s t sound h = (step s t sound h).fewer

  pub tick_rests : (s : Ticking) → next_met cells until s ≡ None → ticked cells until s ≡ s
  tick_rests s none = settle-none (next_met cells until) (most_left until s) s none

  pub tick_meets : (s t : Ticking) → Sound s → next_met cells until s ≡ Some t → ticked cells until s ≡ ticked cells until t
  tick_meets s t sound some = settle-step (next_met cells until) (most_left until) Sound keeps falls s t sound some

  pub ends : (s : Ticking) → Sound s → next_met cells until (ticked cells until s) ≡ None
  ends s sound = settle-ends (next_met cells until) (most_left until) Sound keeps falls (most_left until s) s sound (omega arith)

  -- by what comes, up to the end
  pub tick_induction : (P : Ticking → Type 0) → ((s : Ticking) → Sound s → next_met cells until s ≡ None → P s)
      → ((s t : Ticking) → Sound s → next_met cells until s ≡ Some t → P t → P s) → (s : Ticking) → Sound s → P s
  tick_induction P rests meets s sound = by_bound (suc (most_left until s)) s sound (omega arith)
    where
      by_bound : (n : ℕ) (s : Ticking) → Sound s → most_left until s < n → P s
      by_bound zero s sound lt = absurd (omega (arith, lt))
      by_bound (suc n) s sound lt = by_next (next_met cells until s) refl (λ t. by_bound n t)
        where
          by_next : (o : Option Ticking) → next_met cells until s ≡ o → ((t : Ticking) → Sound t → most_left until t < n → P t) → P s
          by_next None e ih = rests s sound e
          by_next (Some t) e ih = let fall = falls s t sound e in meets s t sound e (ih t (keeps s t sound e) (omega (arith, fall, lt)))

  pub skips : (s : Ticking) → Sound s → ticked cells until s ≡ skipping cells until s
  skips = tick_induction (λ s. ticked cells until s ≡ skipping cells until s)
      (λ s sound e. tick_rests s e ∙ sym (rests_same s (nothing_comes cells until s e)))
      (λ s t sound e ih. tick_meets s t sound e ∙ ih ∙ (step s t sound e).same)

  pub stays_sound : (s : Ticking) → Sound s → Sound (ticked cells until s)
  stays_sound = tick_induction (λ s. Sound (ticked cells until s))
      (λ s sound e. subst Sound (sym (tick_rests s e)) sound)
      (λ s t sound e ih. subst Sound (sym (tick_meets s t sound e)) ih)

  -- ---- every evaluation lies ahead

  pub ahead : (s : Ticking) → Sound s → (e : Moment × Key) → In (evaluations (ticked cells until s).conditions) e → until.0 < e.0.0
  ahead s sound =
      let end = ticked cells until s in
      let rests = nothing_comes cells until end (ends s sound) in
      none_due (next_evaluation end.conditions) end.conditions refl rests.evaluations

all_in : {A : Type 0} (P : A → Type 0) (xs : List A) (Stands : List A → A → Type 0) → ((y x : A) (ys : List A) → Stands ys x → Stands (y ∷ ys) x) → ((x : A) (ys : List A) → Stands (x ∷ ys) x)
    → ((x : A) → Stands xs x → P x) → AllByRecursion P xs
all_in P [] Stands further first each = tt
all_in P (x ∷ xs) Stands further first each = (each x (first x xs), all_in P xs Stands further first (λ y there. each y (further x y xs there)))

pub all_ahead : (cells : Saying) (until : Moment) (s : Ticking) → Sound s → All (λ e. until.0 < e.0.0) (evaluations (ticked cells until s).conditions)
all_ahead cells until s sound =
    let es = evaluations (ticked cells until s).conditions in
    All-from_recursion (λ (e : Moment × Key). until.0 < e.0.0) es (all_in (λ (e : Moment × Key). until.0 < e.0.0) es In (λ y x ys there. inr there) (λ x ys. inl refl) (ahead cells until s sound))

-- ---- two ticks

module _ (cells : Saying) (first later : Moment) (le : first.0 ≤ later.0) where
  due_later : (s t : Ticking) (o : Option (Moment × Key)) → next_evaluated cells first s o ≡ Some t → next_evaluated cells later s o ≡ Some t
  due_later s t None h = absurd (cc h)
  due_later s t (Some e) h = by_test (nat_le e.0.0 first.0) refl h
    where
      by_test : (b : Bool) → nat_le e.0.0 first.0 ≡ b → (if b then Some (evaluated cells s e) else None) ≡ Some t → next_evaluated cells later s (Some e) ≡ Some t
      by_test true q k =
          let too : nat_le e.0.0 later.0 ≡ true = grind (arith, nat_tests) in
          ap (λ (b : Bool). if b then Some (evaluated cells s e) else None) too ∙ k
      by_test false q k = absurd (cc k)

  lost_later : (s t : Ticking) (loss : Loss) (losses : List Loss) → next_lost first s loss losses ≡ Some t → next_lost later s loss losses ≡ Some t
  lost_later s t loss losses h = by_test (nat_le loss.at.0 first.0) refl h
    where
      by_test : (b : Bool) → nat_le loss.at.0 first.0 ≡ b → (if b then Some (lost s loss losses) else None) ≡ Some t → next_lost later s loss losses ≡ Some t
      by_test true q k =
          let too : nat_le loss.at.0 later.0 ≡ true = grind (arith, nat_tests) in
          ap (λ (b : Bool). if b then Some (lost s loss losses) else None) too ∙ k
      by_test false q k = absurd (cc k)

  met_later : (s t : Ticking) → next_met cells first s ≡ Some t → next_met cells later s ≡ Some t
  met_later s t h = by_losses s.losses h
    where
      by_losses : (losses : List Loss) → next_of_both cells first s (next_evaluation s.conditions) losses ≡ Some t → next_of_both cells later s (next_evaluation s.conditions) losses ≡ Some t
      by_losses [] h = due_later s t (next_evaluation s.conditions) h
      by_losses (loss ∷ losses) h = by_test (is_before (next_evaluation s.conditions) loss) h
        where
          by_test : (b : Bool) → (if b then next_evaluated cells first s (next_evaluation s.conditions) else next_lost first s loss losses) ≡ Some t
              → (if b then next_evaluated cells later s (next_evaluation s.conditions) else next_lost later s loss losses) ≡ Some t
          by_test true k = due_later s t (next_evaluation s.conditions) k
          by_test false k = lost_later s t loss losses k

  pub twice : (s : Ticking) → Sound s → ticked cells later (ticked cells first s) ≡ ticked cells later s
  twice = tick_induction cells first (λ s. ticked cells later (ticked cells first s) ≡ ticked cells later s)
      (λ s sound e. ap (ticked cells later) (tick_rests cells first s e))
      (λ s t sound e ih. ap (ticked cells later) (tick_meets cells first s t sound e) ∙ ih ∙ sym (tick_meets cells later s t sound (met_later s t e)))

-- ---- what code makes of a table

timed : (k : ConditionClass) → IsClass k → IsTimedClass k
timed NetworkTriggered is = tt
timed (Monitored w) is = record { interval = is.interval; next = is.next }

pub sound_is : (rows : cond_rows.Rows) → IsDistinct key_eq (keys_of rows) → All (λ row. IsCondition row.1) rows → AreSound rows
sound_is rows names all = record { names = names; each = λ k d low. timed (get_or rows k d).1.class (all k d low).class }

module _ (cells : Saying) (until : Moment) (conditions : cond_rows.Rows) (enrolments : enrol.Rows) (losses : List Loss) (names : IsDistinct key_eq (keys_of conditions)) (all : All (λ row. IsCondition row.1) conditions) where
  is : ticked cells until (begun conditions enrolments losses) ≡ skipping cells until (begun conditions enrolments losses)
  is = let start = begun conditions enrolments losses in skips cells until start (sound_of start (sound_is conditions names all))

  pub told_is : (turns : List Turned) → turns ≡ first_turns until cells conditions → filter_map (told_left losses enrolments) turns ≡ (ticked cells until (begun conditions enrolments losses)).told
  told_is turns are = ap (filter_map (told_left losses enrolments)) are ∙ sym (ap (λ (t : Ticking). t.told) is)

  -- where no condition tells anything
  pub nothing_is : (turns : List Turned) → turns ≡ first_turns until cells conditions → length turns ≡ 0 → [] ≡ (ticked cells until (begun conditions enrolments losses)).told
  nothing_is [] are none = told_is [] are
  nothing_is (t ∷ turns) are none = absurd (omega (arith, none))

  pub conditions_are : conditions_left until losses (after_skip until cells conditions) ≡ (ticked cells until (begun conditions enrolments losses)).conditions
  conditions_are = sym (ap (λ (t : Ticking). t.conditions) is)

  pub enrolments_are : enrolments_left until losses enrolments ≡ (ticked cells until (begun conditions enrolments losses)).enrolments
  enrolments_are = sym (ap (λ (t : Ticking). t.enrolments) is)
