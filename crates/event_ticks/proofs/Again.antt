-- A condition that is evaluated, and then passed over up to a moment, is as if it were passed over at once: later evaluations change its next evaluation alone.
use Rattle.std.proofs.Common.{◌≡◌, ◌∙◌, ap, sym, refl, subst, ℕ, suc, ◌+◌, ◌-◌, ◌*◌, ◌/◌, ◌<◌, ◌≤◌, Bool, true, false, nat_le, Option, None, Some, IfSome, option_map, if◌then◌else◌, arith}
use Rattle.std.proofs.Math.Nat.{div-lt_iff_lt-mul, suc-mul}
use Rattle.std.proofs.lemmas.Bool.Decides.{nat_tests}
use Rattle.mms_types.specs.declared.key.Key.{Key}
use Rattle.mms_types.specs.declared.moment.Moment.{Moment}
use Rattle.event_cond.specs.Conditions.{class_evaluated, dated, enabled_state, evaluated, move_told, moved, state_of, turn}
use Rattle.event_cond.specs.Evaluations.{next_of, next_of_class}
use Rattle.event_ticks.specs.Sound.{IsTimedClass}
use Rattle.event_cond.specs.Multiples.{IsMultiple, later, least_multiple}
use Rattle.event_cond.specs.Skips.{Saying, class_passed, first_due, first_turn, passed, says, says_class, skipped, skipped_from, turn_from, up_to}
use Rattle.event_cond.specs.Transitions.{transition}
use Rattle.event_cond.specs.declared.condition.Condition.{Condition}
use Rattle.event_cond.specs.declared.condition.ConditionClass.{ConditionClass}
use Rattle.event_cond.specs.declared.condition.ConditionClass.TheVariants.{NetworkTriggered, Monitored}
use Rattle.event_cond.specs.declared.condition.Evaluation.{Evaluation}

-- ---- moments

-- between a multiple and the next one the least that lies ahead is the next one
pub next_multiple : (since m until : Moment) (interval : ℕ) → 0 < interval → IsMultiple since interval m → m.0 ≤ until.0 → until.0 < m.0 + interval
    → later m interval ≡ least_multiple since interval until
next_multiple since m until interval some (n, is) low high =
    let over : ℕ = until.0 - since.0 in
    let one : (n + 1) * interval ≡ n * interval + interval = one_more n interval in
    let most : over / interval < n + 1 = (div-lt_iff_lt-mul {k = interval} {x = over} {y = n + 1} some).1 (omega (arith, one, is, low, high)) in
    let fewest : n ≤ over / interval = not_fewer over n (omega (arith, is, low)) in
    let same : over / interval ≡ n = omega (arith, most, fewest) in
    ap (λ (k : ℕ). record { 0 = k }) (omega (arith, is, one) ∙ ap (λ (q : ℕ). since.0 + (q + 1) * interval) (sym same))
  where
    one_more : (q n : ℕ) → (q + 1) * n ≡ q * n + n
    one_more q n = let next : q + 1 ≡ suc q = omega arith in ap (λ k. k * n) next ∙ suc-mul q n

    not_fewer : (over n : ℕ) → n * interval ≤ over → n ≤ over / interval
    not_fewer over n le = by_test (nat_le n (over / interval)) refl
      where
        by_test : (b : Bool) → nat_le n (over / interval) ≡ b → n ≤ over / interval
        by_test true t = grind (arith, nat_tests)
        by_test false t =
            let fewer : over / interval < n = grind (arith, nat_tests) in
            let less : over < n * interval = (div-lt_iff_lt-mul {k = interval} {x = over} {y = n} some).0 fewer in
            absurd (omega (arith, less, le))

-- ---- one condition

pub same_state : (b : Bool) → transition (enabled_state b) (enabled_state b) ≡ None
same_state true = refl
same_state false = refl

-- a move from that class
abbrev moved_from : ConditionClass → Moment → ConditionClass → Condition → Condition
moved_from from now class c = record (dated (transition (state_of from) (state_of class)) (state_of class) now c) { class = class }

module _ (until : Moment) (cells : Saying) where
  -- an evaluation at its moment
  abbrev pub after_one : Moment → Condition → Condition
  after_one m c = moved m (class_evaluated m (says cells c) c.class) c

  pub is_due : (c : Condition) (m : Moment) → next_of c ≡ Some m → m.0 ≤ until.0 → first_due until c ≡ Some m
  is_due c m is low =
      let yes : nat_le m.0 until.0 ≡ true = grind (arith, nat_tests) in
      ap (up_to until) is ∙ ap (λ (b : Bool). if b then Some m else None) yes

  pub skipped_due : (c : Condition) (m : Moment) → next_of c ≡ Some m → m.0 ≤ until.0 → skipped until cells c ≡ moved m (class_passed until (says cells c) c.class) c
  skipped_due c m is low = ap (skipped_from until cells c) (is_due c m is low)

  module _ (c : Condition) (m : Moment) (low : m.0 ≤ until.0) where
    again_from : (k : ConditionClass) → IsTimedClass k → next_of_class k ≡ Some m
        → skipped until cells (moved_from k m (class_evaluated m (says_class cells k) k) c) ≡ moved_from k m (class_passed until (says_class cells k) k) c
    again_from NetworkTriggered sound is = absurd (cc is)
    again_from (Monitored w) sound is = by_test (nat_le (m.0 + w.interval) until.0) refl
      where
        once : Condition
        once = moved_from (Monitored w) m (Monitored (evaluated m (cells w.cell) w)) c

        multiple : (o : Option Evaluation) → w.evaluation ≡ o → IsMultiple w.defined w.interval m
        multiple None e = absurd (cc (sym is ∙ ap (option_map (λ (x : Evaluation). x.next)) e))
        multiple (Some x) e =
            let at : x.next ≡ m = cc (sym (ap (option_map (λ (y : Evaluation). y.next)) e) ∙ is) in
            subst (IsMultiple w.defined w.interval) at (subst (λ (o : Option Evaluation). IfSome o (λ y. IsMultiple w.defined w.interval y.next)) e sound.next)

        by_test : (t : Bool) → nat_le (m.0 + w.interval) until.0 ≡ t
            → skipped_from until cells once (if t then Some (later m w.interval) else None) ≡ moved_from (Monitored w) m (Monitored (passed until (cells w.cell) w)) c
        by_test true t =
            ap (λ (o : Option ℕ). record (dated o (enabled_state (cells w.cell)) (later m w.interval) once) { class = Monitored (passed until (cells w.cell) w) })
            (same_state (cells w.cell))
        by_test false t =
            ap (λ (x : Moment). record (dated (transition (state_of (Monitored w)) (enabled_state (cells w.cell))) (enabled_state (cells w.cell)) m c) {
              class = Monitored (record w { evaluation = Some (record { is_active = cells w.cell; next = x }) });
            })
            (next_multiple w.defined m until w.interval (let i = sound.interval in omega (arith, i)) (multiple w.evaluation refl) low (grind (arith, nat_tests)))

    no_turn_from : (key : Key) (k : ConditionClass) → next_of_class k ≡ Some m
        → first_turn until cells (key, moved_from k m (class_evaluated m (says_class cells k) k) c) ≡ None
    no_turn_from key NetworkTriggered is = absurd (cc is)
    no_turn_from key (Monitored w) is = by_test (nat_le (m.0 + w.interval) until.0)
      where
        once : Condition
        once = moved_from (Monitored w) m (Monitored (evaluated m (cells w.cell) w)) c

        by_test : (t : Bool) → turn_from until cells key once (if t then Some (later m w.interval) else None) ≡ None
        by_test true = ap (option_map (turn key (later m w.interval) once (enabled_state (cells w.cell)))) (same_state (cells w.cell))
        by_test false = refl

  -- it comes to the same
  pub again : (c : Condition) (m : Moment) → IsTimedClass c.class → next_of c ≡ Some m → m.0 ≤ until.0 → skipped until cells (after_one m c) ≡ skipped until cells c
  again c m sound is low = again_from c m low c.class sound is ∙ sym (skipped_due c m is low)

  -- it has nothing to tell any more
  pub no_turn : (key : Key) (c : Condition) (m : Moment) → next_of c ≡ Some m → m.0 ≤ until.0 → first_turn until cells (key, after_one m c) ≡ None
  no_turn key c m is low = no_turn_from c m low key c.class is

  told_from : (key : Key) (c : Condition) (m : Moment) (k : ConditionClass)
      → option_map (turn key m c (state_of (class_evaluated m (says_class cells k) k))) (transition (state_of k) (state_of (class_evaluated m (says_class cells k) k)))
      ≡ option_map (turn key m c (state_of (class_passed until (says_class cells k) k))) (transition (state_of k) (state_of (class_passed until (says_class cells k) k)))
  told_from key c m NetworkTriggered = refl
  told_from key c m (Monitored w) = refl

  -- what it told is what its first evaluation tells
  pub turn_is : (key : Key) (c : Condition) (m : Moment) → next_of c ≡ Some m → m.0 ≤ until.0
      → move_told key m (class_evaluated m (says cells c) c.class) c ≡ first_turn until cells (key, c)
  turn_is key c m is low = told_from key c m c.class ∙ sym (ap (turn_from until cells key c) (is_due c m is low))
