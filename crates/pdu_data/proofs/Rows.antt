-- The parts of an array or a structure, as a list and as a row.
use Rattle.std.proofs.Common.{◌≡◌, ℕ, ◌+◌, ◌<◌, max, List, [], ◌∷◌, ◌++◌, take, length, get_or, refl, sym, ap, ◌∙◌, append_assoc, arith}
use Rattle.std.proofs.lemmas.List.{append-nil}
use Rattle.std.proofs.lemmas.Grind.{take_at_read}
use Rattle.ber_forms.specs.Value.{Value}
use Rattle.mms_types.specs.Datum.{Datum, row, depth, deepest}
use Rattle.pdu_data.specs.Data.{data_value, row_values, data_octets, row_octets}

pub values_push : (xs : List Datum) (x : Datum) → row_values (row (xs ++ x ∷ [])) ≡ row_values (row xs) ++ data_value x ∷ []
values_push [] x = refl
values_push (y ∷ xs) x = ap (λ (vs : List Value). data_value y ∷ vs) (values_push xs x)

pub deepest_push : (xs : List Datum) (x : Datum) → deepest (row (xs ++ x ∷ [])) ≡ max (deepest (row xs)) (depth x)
deepest_push [] x = omega arith
deepest_push (y ∷ xs) x = omega (arith, deepest_push xs x)

pub octets_push : (xs : List Datum) (x : Datum) → row_octets (row (xs ++ x ∷ [])) ≡ row_octets (row xs) ++ data_octets x
octets_push [] x = append-nil (data_octets x)
octets_push (y ∷ xs) x = ap (λ (o : List ℕ). data_octets y ++ o) (octets_push xs x) ∙ sym (append_assoc (data_octets y) (row_octets (row xs)) (data_octets x))

-- the parts before the next one, and it
pub octets_next : (xs : List Datum) (i : ℕ) (x : Datum) → i < length xs → x ≡ get_or xs i x → row_octets (row (take (i + 1) xs)) ≡ row_octets (row (take i xs)) ++ data_octets x
octets_next xs i x lt is =
    ap (λ ys. row_octets (row ys)) ((take_at_read xs i x lt).1 ∙ ap (λ y. take i xs ++ y ∷ []) (sym is)) ∙ octets_push (take i xs) x
