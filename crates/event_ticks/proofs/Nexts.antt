-- What comes next within a tick: an evaluation, or a loss.
use Rattle.std.proofs.Common.{◌≡◌, ap, sym, subst, refl, ◌<◌, ◌≤◌, ◌⊎◌, inl, inr, Bool, true, false, nat_le, List, [], ◌∷◌, Option, None, Some, if◌then◌else◌, arith}
use Rattle.std.proofs.lemmas.Bool.Decides.{nat_tests}
use Rattle.mms_types.specs.declared.key.Key.{Key}
use Rattle.mms_types.specs.declared.moment.Moment.{Moment}
use Rattle.event_cond.specs.Evaluations.{next_evaluation}
use Rattle.event_cond.specs.Skips.{Saying}
use Rattle.event_ticks.specs.Ticks.{Ticking, evaluated, is_before, lost, next_evaluated, next_lost, next_met, next_of_both}
use Rattle.event_ticks.specs.declared.ticks.Loss.{Loss}

-- the first loss, if there is one, lies after that moment
abbrev pub LossesAfter : Moment → List Loss → Type 0
LossesAfter at [] = Unit {0}
LossesAfter at (loss ∷ later) = at.0 < loss.at.0

-- no evaluation lies before that moment
abbrev pub NoneBefore : Moment → Option (Moment × Key) → Type 0
NoneBefore at None = Unit {0}
NoneBefore at (Some e) = at.0 ≤ e.0.0

-- the next evaluation lies after that moment
abbrev pub NoneDue : Moment → Option (Moment × Key) → Type 0
NoneDue until None = Unit {0}
NoneDue until (Some e) = until.0 < e.0.0

pub record Evaluates (cells : Saying) (until : Moment) (s t : Ticking) : Type 0 where
  pub next : Moment × Key
  pub first : next_evaluation s.conditions ≡ Some next
  pub low : next.0.0 ≤ until.0
  pub losses : LossesAfter next.0 s.losses
  pub is : evaluated cells s next ≡ t

pub record Loses (until : Moment) (s t : Ticking) : Type 0 where
  pub loss : Loss
  pub later : List Loss
  pub first : s.losses ≡ loss ∷ later
  pub low : loss.at.0 ≤ until.0
  pub evaluations : NoneBefore loss.at (next_evaluation s.conditions)
  pub is : lost s loss later ≡ t

pub record Rests (until : Moment) (s : Ticking) : Type 0 where
  pub evaluations : NoneDue until (next_evaluation s.conditions)
  pub losses : LossesAfter until s.losses

module _ (cells : Saying) (until : Moment) where
  evaluates : (s t : Ticking) (o : Option (Moment × Key)) → next_evaluation s.conditions ≡ o → (losses : List Loss) → s.losses ≡ losses → ((e : Moment × Key) → o ≡ Some e → LossesAfter e.0 losses)
      → next_evaluated cells until s o ≡ Some t → Evaluates cells until s t
  evaluates s t None first losses are after h = absurd (cc h)
  evaluates s t (Some e) first losses are after h = by_test (nat_le e.0.0 until.0) refl h
    where
      by_test : (b : Bool) → nat_le e.0.0 until.0 ≡ b → (if b then Some (evaluated cells s e) else None) ≡ Some t → Evaluates cells until s t
      by_test true q k = record {
        next = e;
        first = first;
        low = grind (arith, nat_tests);
        losses = subst (λ (l : List Loss). LossesAfter e.0 l) (sym are) (after e refl);
        is = cc k;
      }
      by_test false q k = absurd (cc k)

  loses : (s t : Ticking) (loss : Loss) (later : List Loss) → s.losses ≡ loss ∷ later → NoneBefore loss.at (next_evaluation s.conditions) → next_lost until s loss later ≡ Some t → Loses until s t
  loses s t loss later first evaluations h = by_test (nat_le loss.at.0 until.0) refl h
    where
      by_test : (b : Bool) → nat_le loss.at.0 until.0 ≡ b → (if b then Some (lost s loss later) else None) ≡ Some t → Loses until s t
      by_test true q k = record { loss = loss; later = later; first = first; low = grind (arith, nat_tests); evaluations = evaluations; is = cc k }
      by_test false q k = absurd (cc k)

  before : (o : Option (Moment × Key)) (loss : Loss) → is_before o loss ≡ true → (e : Moment × Key) → o ≡ Some e → e.0.0 < loss.at.0
  before None loss q e same = absurd (cc same)
  before (Some x) loss q e same = let is : x ≡ e = cc same in let at : x.0.0 ≡ e.0.0 = ap (λ (y : Moment × Key). y.0.0) is in let lt : x.0.0 < loss.at.0 = grind (arith, nat_tests) in omega (arith, at, lt)

  not_before : (o : Option (Moment × Key)) (loss : Loss) → is_before o loss ≡ false → NoneBefore loss.at o
  not_before None loss q = tt
  not_before (Some x) loss q = grind (arith, nat_tests)

  pub what_comes : (s t : Ticking) → next_met cells until s ≡ Some t → Evaluates cells until s t ⊎ Loses until s t
  what_comes s t h = by_losses s.losses refl h
    where
      by_losses : (losses : List Loss) → s.losses ≡ losses → next_of_both cells until s (next_evaluation s.conditions) losses ≡ Some t → Evaluates cells until s t ⊎ Loses until s t
      by_losses [] are h = inl (evaluates s t (next_evaluation s.conditions) refl [] are (λ e same. tt) h)
      by_losses (loss ∷ later) are h = by_test (is_before (next_evaluation s.conditions) loss) refl h
        where
          by_test : (b : Bool) → is_before (next_evaluation s.conditions) loss ≡ b
              → (if b then next_evaluated cells until s (next_evaluation s.conditions) else next_lost until s loss later) ≡ Some t → Evaluates cells until s t ⊎ Loses until s t
          by_test true q k = inl (evaluates s t (next_evaluation s.conditions) refl (loss ∷ later) are (before (next_evaluation s.conditions) loss q) k)
          by_test false q k = inr (loses s t loss later are (not_before (next_evaluation s.conditions) loss q) k)

  not_due : (s : Ticking) (o : Option (Moment × Key)) → next_evaluated cells until s o ≡ None → NoneDue until o
  not_due s None h = tt
  not_due s (Some e) h = by_test (nat_le e.0.0 until.0) refl h
    where
      by_test : (b : Bool) → nat_le e.0.0 until.0 ≡ b → (if b then Some (evaluated cells s e) else None) ≡ None → until.0 < e.0.0
      by_test true q k = absurd (cc k)
      by_test false q k = grind (arith, nat_tests)

  pub nothing_comes : (s : Ticking) → next_met cells until s ≡ None → Rests until s
  nothing_comes s h = by_losses s.losses refl h
    where
      by_losses : (losses : List Loss) → s.losses ≡ losses → next_of_both cells until s (next_evaluation s.conditions) losses ≡ None → Rests until s
      by_losses [] are h = record { evaluations = not_due s (next_evaluation s.conditions) h; losses = subst (LossesAfter until) (sym are) tt }
      by_losses (loss ∷ later) are h = by_test (is_before (next_evaluation s.conditions) loss) refl h
        where
          by_test : (b : Bool) → is_before (next_evaluation s.conditions) loss ≡ b
              → (if b then next_evaluated cells until s (next_evaluation s.conditions) else next_lost until s loss later) ≡ None → Rests until s
          by_test true q k = record {
            evaluations = not_due s (next_evaluation s.conditions) k;
            losses = subst (LossesAfter until) (sym are) (by_first (next_evaluation s.conditions) q (not_due s (next_evaluation s.conditions) k));
          }
            where
              by_first : (o : Option (Moment × Key)) → is_before o loss ≡ true → NoneDue until o → until.0 < loss.at.0
              by_first None q due = absurd (cc q)
              by_first (Some e) q due = let lt : e.0.0 < loss.at.0 = grind (arith, nat_tests) in omega (arith, lt, due)
          by_test false q k = by_late (nat_le loss.at.0 until.0) refl k
            where
              by_late : (b : Bool) → nat_le loss.at.0 until.0 ≡ b → (if b then Some (lost s loss later) else None) ≡ None → Rests until s
              by_late true u k = absurd (cc k)
              by_late false u k =
                  let late : until.0 < loss.at.0 = grind (arith, nat_tests) in
                  record { evaluations = by_first (next_evaluation s.conditions) (not_before (next_evaluation s.conditions) loss q) late; losses = subst (LossesAfter until) (sym are) late }
                where
                  by_first : (o : Option (Moment × Key)) → NoneBefore loss.at o → until.0 < loss.at.0 → NoneDue until o
                  by_first None none late = tt
                  by_first (Some e) none late = omega (arith, none, late)
