-- How data is spelled, whatever depth is left.
use Rattle.std.proofs.Common.{◌≡◌, ℕ, zero, suc, ◌≤◌, true, false, List, ◌++◌, Result, Ok, Err, refl, sym, ap, ap₂, ◌∙◌, arith}
use Rattle.std.specs.Prelude.{OnOk}
use Rattle.ber_core.specs.declared.element.Lengths.{Lengths}
use Rattle.ber_core.specs.Part.{Part}
use Rattle.ber_core.specs.Spelling.{element_octets}
use Rattle.ber_core.specs.declared.fault.Memory.{Memory as Full}
use Rattle.ber_forms.specs.Value.{all_of}
use Rattle.ber_forms.specs.Form.{one_of}
use Rattle.ber_forms.specs.Form as form
use Rattle.ber_forms.specs.Reading.{is_tag, alternatives}
use Rattle.ber_forms.specs.Spelling.{tag_of, each_octets, member_octets, alternative_octets}
use Rattle.mms_types.specs.Datum.{Datum, Row, array, structure, boolean, bits, integer, unsigned, floating, octets, visible, time, no_part, part, depth, deepest}
use Rattle.pdu_data.specs.Data.{simple_data, data_alternatives, data_value, row_values, data_octets, row_octets}

mutual
  unfolding data_alternatives

  pub data_spelled : (d : ℕ) (x : Datum) → depth x ≤ d → alternative_octets (data_alternatives d) (data_value x) ≡ data_octets x
  data_spelled zero (array r) deep = absurd (omega (arith, deep))
  data_spelled (suc d) (array r) deep = ap (λ (o : List ℕ). element_octets (tag_of 2 1 form.elements) o) (row_spelled d r (omega (arith, deep)))
  data_spelled zero (structure r) deep = absurd (omega (arith, deep))
  data_spelled (suc d) (structure r) deep = ap (λ (o : List ℕ). element_octets (tag_of 2 2 form.elements) o) (row_spelled d r (omega (arith, deep)))
  data_spelled zero (boolean b) deep = refl
  data_spelled (suc d) (boolean b) deep = refl
  data_spelled zero (bits u o) deep = refl
  data_spelled (suc d) (bits u o) deep = refl
  data_spelled zero (integer n) deep = refl
  data_spelled (suc d) (integer n) deep = refl
  data_spelled zero (unsigned n) deep = refl
  data_spelled (suc d) (unsigned n) deep = refl
  data_spelled zero (floating o) deep = refl
  data_spelled (suc d) (floating o) deep = refl
  data_spelled zero (octets o) deep = refl
  data_spelled (suc d) (octets o) deep = refl
  data_spelled zero (visible o) deep = refl
  data_spelled (suc d) (visible o) deep = refl
  data_spelled zero (time o) deep = refl
  data_spelled (suc d) (time o) deep = refl

  row_spelled : (d : ℕ) (r : Row) → deepest r ≤ d → each_octets (member_octets (one_of (data_alternatives d))) (all_of (row_values r)) ≡ row_octets r
  row_spelled d no_part deep = refl
  row_spelled d (part x r) deep =
      ap₂ (λ (a b : List ℕ). a ++ b) (data_spelled d x (omega (arith, deep))) (row_spelled d r (omega (arith, deep)))

-- what was written is the spelling
pub data_written : (d : ℕ) (x : Datum) (before after : List ℕ) (result : Result (Unit {0}) Full) → depth x ≤ d
    → OnOk result (after ≡ before ++ data_octets x) → OnOk result (after ≡ before ++ alternative_octets (data_alternatives d) (data_value x))
data_written d x before after (Ok u) deep is = is ∙ ap (λ (o : List ℕ). before ++ o) (sym (data_spelled d x deep))
data_written d x before after (Err e) deep is = tt

-- an element that is neither an array nor a structure is read as a simple value, whatever depth is left
pub data_simple : (lengths : Lengths) (d : ℕ) (p : Part) → is_tag 2 true 1 p.tag ≡ false → is_tag 2 true 2 p.tag ≡ false
    → alternatives lengths (data_alternatives d) p ≡ alternatives lengths simple_data p
unfolding data_alternatives
data_simple lengths zero p a s = rw (a, s) refl
data_simple lengths (suc d) p a s = rw (a, s) refl
