-- The parts of values and types, as lists and as rows.
use Rattle.std.proofs.Common.{◌≡◌, ◌≢◌, ℕ, ◌+◌, ◌<◌, suc, max, Bool, true, false, ◌&&◌, List, [], ◌∷◌, ◌++◌, length, take, get_or, refl, sym, ap, ◌∙◌, arith}
use Rattle.std.specs.Prelude.{nat_eq}
use Rattle.std.proofs.lemmas.Grind.{take_at_read}
use Rattle.mms_types.specs.declared.type_spec.Component.{Component}
use Rattle.mms_types.specs.Datum.{Datum, array, row, depth, deepest}
use Rattle.mms_types.specs.Shape.{Shape, shape_depth, fields_depth}
use Rattle.mms_types.specs.Shape as shape
use Rattle.mms_types.specs.SeenType.{fields}
use Rattle.mms_types.specs.Matches.{matches, all_match, each_matches, parts_count}

pub deepest_push : (xs : List Datum) (x : Datum) → deepest (row (xs ++ x ∷ [])) ≡ max (deepest (row xs)) (depth x)
deepest_push [] x = omega arith
deepest_push (y ∷ xs) x = omega (arith, deepest_push xs x)

-- the parts before the next one, and it
pub deepest_next : (xs : List Datum) (i : ℕ) (x : Datum) → i < length xs → x ≡ get_or xs i x → deepest (row (take (i + 1) xs)) ≡ max (deepest (row (take i xs))) (depth x)
deepest_next xs i x lt is =
    ap (λ ys. deepest (row ys)) ((take_at_read xs i x lt).1 ∙ ap (λ y. take i xs ++ y ∷ []) (sym is)) ∙ deepest_push (take i xs) x

pub fields_push : (cs : List Component) (c : Component) → fields_depth (fields (cs ++ c ∷ [])) ≡ max (fields_depth (fields cs)) (shape_depth c.spec)
fields_push [] c = omega arith
fields_push (d ∷ cs) c = omega (arith, fields_push cs c)

-- the components before the next one, and it
pub fields_next : (cs : List Component) (i : ℕ) (c : Component) → i < length cs → c ≡ get_or cs i c → fields_depth (fields (take (i + 1) cs)) ≡ max (fields_depth (fields (take i cs))) (shape_depth c.spec)
fields_next cs i c lt is =
    ap (λ ds. fields_depth (fields ds)) ((take_at_read cs i c lt).1 ∙ ap (λ d. take i cs ++ d ∷ []) (sym is)) ∙ fields_push (take i cs) c

pub count_row : (xs : List Datum) → parts_count (row xs) ≡ length xs
count_row [] = refl
count_row (x ∷ xs) = ap suc (count_row xs)

-- ---- what matches

pub array_then : (xs : List Datum) (of : Shape) (packed : Bool) (n : ℕ) (s : Shape) (found : Bool) → of ≡ shape.array packed n s → nat_eq (length xs) n ≡ true → found ≡ all_match (row xs) s
    → found ≡ matches (array (row xs)) of
array_then xs of packed n s found is same all = rw (is, count_row xs, same) all

pub array_else : (xs : List Datum) (of : Shape) (packed : Bool) (n : ℕ) (s : Shape) → of ≡ shape.array packed n s → nat_eq (length xs) n ≡ false → nat_eq (length xs) n ≡ matches (array (row xs)) of
array_else xs of packed n s is differ = rw (is, count_row xs, differ) refl

and_false : (b : Bool) → b && false ≡ false
and_false true = refl
and_false false = refl

pub uneven : (xs : List Datum) (cs : List Component) → length xs ≢ length cs → each_matches (row xs) (fields cs) ≡ false
uneven [] [] ne = absurd (ne refl)
uneven [] (c ∷ cs) ne = refl
uneven (x ∷ xs) [] ne = refl
uneven (x ∷ xs) (c ∷ cs) ne = ap (λ (b : Bool). matches x c.spec && b) (uneven xs cs (λ e. ne (ap suc e))) ∙ and_false (matches x c.spec)
