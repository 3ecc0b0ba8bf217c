-- A value of a variable as a list of numbers, by which proofs tell values apart.
use Rattle.std.specs.Prelude.{◌≡◌, ℕ, ◌==◌, ℤ, pos, negsuc, Bool, true, false, if◌then◌else◌, List, [], ◌∷◌, ◌++◌}
use Rattle.std.specs.Coded.{Coded, code_by, coded×, coded_ℕ, coded_ℤ, coded_list}
use Rattle.std.proofs.Common.{refl, sym, ap, ◌∙◌, append_assoc}
use Rattle.std.proofs.lemmas.List.{append-nil}
use Rattle.mms_types.specs.Datum.{Datum, Row, array, structure, boolean, bits, integer, unsigned, floating, octets, visible, time, no_part, part}

-- a kind, a number and octets
abbrev pub Token : Type 0
Token = ℕ × (ℤ × List ℕ)

abbrev pub bit_of : Bool → ℤ
bit_of true = pos 1
bit_of false = pos 0

-- 1 and 2 begin an array and a structure, which 0 ends
abbrev mutual
  pub tokens : Datum → List Token
  tokens (array r) = (1, (pos 0, [])) ∷ row_tokens r
  tokens (structure r) = (2, (pos 0, [])) ∷ row_tokens r
  tokens (boolean b) = (3, (bit_of b, [])) ∷ []
  tokens (bits u o) = (4, (pos u, o)) ∷ []
  tokens (integer n) = (5, (n, [])) ∷ []
  tokens (unsigned n) = (6, (pos n, [])) ∷ []
  tokens (floating o) = (7, (pos 0, o)) ∷ []
  tokens (octets o) = (9, (pos 0, o)) ∷ []
  tokens (visible o) = (10, (pos 0, o)) ∷ []
  tokens (time o) = (12, (pos 0, o)) ∷ []

  pub row_tokens : Row → List Token
  row_tokens no_part = (0, (pos 0, [])) ∷ []
  row_tokens (part x r) = tokens x ++ row_tokens r

abbrev pub bit_said : ℤ → Bool
bit_said (pos n) = n == 1
bit_said (negsuc n) = false

abbrev pub natural_said : ℤ → ℕ
natural_said (pos n) = n
natural_said (negsuc n) = 0

abbrev pub leaf : ℕ → ℤ → List ℕ → Datum
leaf k n o =
    if k == 3 then boolean (bit_said n) else if k == 4 then bits (natural_said n) o else if k == 5 then integer n
    else if k == 6 then unsigned (natural_said n) else if k == 7 then floating o else if k == 9 then octets o
    else if k == 10 then visible o else time o

abbrev pub push : Datum → List Row → List Row
push x [] = part x no_part ∷ []
push x (r ∷ rs) = part x r ∷ rs

abbrev pub close : (Row → Datum) → List Row → List Row
close f [] = []
close f (r ∷ rs) = push (f r) rs

-- what a token makes of the rows that come after it
abbrev pub put_token : ℕ → ℤ → List ℕ → List Row → List Row
put_token k n o rs = if k == 0 then no_part ∷ rs else if k == 1 then close array rs else if k == 2 then close structure rs else push (leaf k n o) rs

abbrev pub rows_said : List Token → List Row
rows_said [] = []
rows_said (t ∷ ts) = put_token t.0 t.1.0 t.1.1 (rows_said ts)

abbrev pub first_said : List Row → Datum
first_said (part x r ∷ rs) = x
first_said rs = boolean false

abbrev pub datum_said : List Token → Datum
datum_said ts = first_said (rows_said ts)

mutual
  datum_again : (x : Datum) (ts : List Token) → rows_said (tokens x ++ ts) ≡ push x (rows_said ts)
  datum_again (array r) ts = ap (λ (rs : List Row). close array rs) (row_again r ts)
  datum_again (structure r) ts = ap (λ (rs : List Row). close structure rs) (row_again r ts)
  datum_again (boolean true) ts = refl
  datum_again (boolean false) ts = refl
  datum_again (bits u o) ts = refl
  datum_again (integer n) ts = refl
  datum_again (unsigned n) ts = refl
  datum_again (floating o) ts = refl
  datum_again (octets o) ts = refl
  datum_again (visible o) ts = refl
  datum_again (time o) ts = refl

  row_again : (r : Row) (ts : List Token) → rows_said (row_tokens r ++ ts) ≡ r ∷ rows_said ts
  row_again no_part ts = refl
  row_again (part x r) ts =
      ap (λ (us : List Token). rows_said us) (append_assoc (tokens x) (row_tokens r) ts) ∙ datum_again x (row_tokens r ++ ts) ∙ ap (λ (rs : List Row). push x rs) (row_again r ts)

pub said_again : (x : Datum) → datum_said (tokens x) ≡ x
said_again x = ap (λ (us : List Token). datum_said us) (sym (append-nil (tokens x))) ∙ ap (λ (rs : List Row). first_said rs) (datum_again x [])

abbrev pub datum_code : Coded Datum
datum_code = code_by (List Token) (coded_list (coded× coded_ℕ (coded× coded_ℤ (coded_list coded_ℕ)))) tokens datum_said said_again
