-- The least multiple of an interval after a moment: it lies after it, no further than an interval, and no other multiple that lies after it is less.
use Rattle.std.proofs.Common.{◌≡◌, ◌∙◌, ap, ℕ, suc, ◌+◌, ◌-◌, ◌*◌, ◌/◌, ◌<◌, ◌≤◌, refl, arith}
use Rattle.std.proofs.Math.Nat.{div-le_self, div-lt_iff_lt-mul, div-mul-le_self, lt-div-mul-add, mul-le-mul_right, suc-mul}
use Rattle.mms_types.specs.declared.moment.Moment.{Moment}
use Rattle.event_cond.specs.Multiples.{IsMultiple, least_multiple}

one_more : (q n : ℕ) → (q + 1) * n ≡ q * n + n
one_more q n = let next : q + 1 ≡ suc q = omega arith in ap (λ k. k * n) next ∙ suc-mul q n

-- no further than an interval
pub no_further : (over n : ℕ) → (over / n + 1) * n ≤ over + n
no_further over n =
    let a = one_more (over / n) n in
    let b = div-mul-le_self over n in
    omega (arith, a, b)

pub few_intervals : (over n : ℕ) → over / n ≤ over
few_intervals over n = div-le_self over n

pub is_multiple : (since after : Moment) (interval : ℕ) → IsMultiple since interval (least_multiple since interval after)
is_multiple since after interval = ((after.0 - since.0) / interval + 1, refl)

pub lies_after : (since after : Moment) (interval : ℕ) → 0 < interval → since.0 ≤ after.0 → after.0 < (least_multiple since interval after).0
lies_after since after interval some begun =
    let over = after.0 - since.0 in
    let a = one_more (over / interval) interval in
    let b = lt-div-mul-add {a = over} {b = interval} some in
    omega (arith, a, b, begun)

pub is_least : (since after other : Moment) (interval : ℕ) → 0 < interval → since.0 ≤ after.0 → IsMultiple since interval other → after.0 < other.0
    → (least_multiple since interval after).0 ≤ other.0
is_least since after other interval some begun (n, is) behind =
    let over = after.0 - since.0 in
    let within : over < n * interval = omega (arith, is, behind, begun) in
    let fewer : over / interval < n = (div-lt_iff_lt-mul {k = interval} {x = over} {y = n} some).1 within in
    let most : (over / interval + 1) * interval ≤ n * interval = mul-le-mul_right interval (omega (arith, fewer)) in
    omega (arith, is, most)
