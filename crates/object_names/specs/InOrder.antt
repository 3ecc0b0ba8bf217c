-- Lists in an order.
use Rattle.std.specs.Prelude.{List, [], ◌∷◌, if◌then◌else◌}
use Rattle.std.specs.Ordering.{is_lt}
use Rattle.std.specs.declared.cmp.Ordering.{Ordering}

-- a list in order with one more at its place: before the first that does not come before it
abbrev pub inserted : {X : Type 0} → (X → X → Ordering) → X → List X → List X
inserted order x [] = x ∷ []
inserted order x (y ∷ ys) = if is_lt (order y x) then y ∷ inserted order x ys else x ∷ y ∷ ys

-- what a list has, in order
abbrev pub in_order : {X : Type 0} → (X → X → Ordering) → List X → List X
in_order order [] = []
in_order order (x ∷ xs) = inserted order x (in_order order xs)
