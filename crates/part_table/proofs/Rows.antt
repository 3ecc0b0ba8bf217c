-- Lists that a function makes of the numbers from 0 on.
use Rattle.std.proofs.Common.{◌≡◌, ℕ, ◌<◌, ◌≤◌, List, length, map, take, get_or, ◌∙◌, ap, arith}
use Rattle.std.specs.List.{range_with_len}
use Rattle.std.proofs.lemmas.List.FromFn.{length-map-range_with_len, get_or-map-range_with_len, take-map-range_with_len}

module _ {X : Type 0} (f : ℕ → X) (items : List X) (n : ℕ) (is : items ≡ map f (range_with_len 0 n)) where
  pub row_length : length items ≡ n
  row_length = ap length is ∙ length-map-range_with_len f 0 n

  pub row_at : (i : ℕ) (d : X) → i < n → get_or items i d ≡ f i
  row_at i d lt = ap (λ l. get_or l i d) is ∙ get_or-map-range_with_len f 0 n i i d lt (omega arith)

  pub row_front : (k : ℕ) → k ≤ n → take k items ≡ map f (range_with_len 0 k)
  row_front k le = ap (take k) is ∙ take-map-range_with_len f 0 n k le
