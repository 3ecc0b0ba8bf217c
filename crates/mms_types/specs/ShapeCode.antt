-- A type of variables as a list of numbers, by which proofs tell types apart.
use Rattle.std.specs.Prelude.{◌≡◌, ℕ, ◌==◌, ℤ, pos, Bool, true, false, if◌then◌else◌, List, [], ◌∷◌, ◌++◌, Option, Some, None}
use Rattle.std.specs.Coded.{Coded, code_by, coded×, coded_ℕ, coded_ℤ, coded_list}
use Rattle.std.proofs.Common.{refl, sym, ap, ◌∙◌, append_assoc}
use Rattle.std.proofs.lemmas.List.{append-nil}
use Rattle.mms_types.specs.DatumCode.{Token, bit_of, bit_said, natural_said}
use Rattle.mms_types.specs.Shape.{Shape, Fields, array, structure, boolean, bits, integer, unsigned, floating, octets, visible, time, no_field, field}

-- 1 comes before an array's element, 2 begins a structure, which 0 ends, and 13 and 14 come before a component
abbrev mutual
  pub shape_tokens : Shape → List Token
  shape_tokens (array packed n s) = (1, (bit_of packed, n ∷ [])) ∷ shape_tokens s
  shape_tokens (structure packed fs) = (2, (bit_of packed, [])) ∷ field_tokens fs
  shape_tokens boolean = (3, (pos 0, [])) ∷ []
  shape_tokens (bits n) = (4, (n, [])) ∷ []
  shape_tokens (integer w) = (5, (pos w, [])) ∷ []
  shape_tokens (unsigned w) = (6, (pos w, [])) ∷ []
  shape_tokens (floating w e) = (7, (pos w, e ∷ [])) ∷ []
  shape_tokens (octets n) = (9, (n, [])) ∷ []
  shape_tokens (visible n) = (10, (n, [])) ∷ []
  shape_tokens (time dated) = (12, (bit_of dated, [])) ∷ []

  pub field_tokens : Fields → List Token
  field_tokens no_field = (0, (pos 0, [])) ∷ []
  field_tokens (field None s fs) = (13, (pos 0, [])) ∷ (shape_tokens s ++ field_tokens fs)
  field_tokens (field (Some name) s fs) = (14, (pos 0, name)) ∷ (shape_tokens s ++ field_tokens fs)

abbrev pub first_of : List ℕ → ℕ
first_of [] = 0
first_of (n ∷ ns) = n

abbrev pub simple : ℕ → ℤ → List ℕ → Shape
simple k n o =
    if k == 3 then boolean else if k == 4 then bits n else if k == 5 then integer (natural_said n) else if k == 6 then unsigned (natural_said n)
    else if k == 7 then floating (natural_said n) (first_of o) else if k == 9 then octets n else if k == 10 then visible n else time (bit_said n)

abbrev pub push_shape : Shape → List Fields → List Fields
push_shape s [] = field None s no_field ∷ []
push_shape s (r ∷ rs) = field None s r ∷ rs

abbrev pub close_shape : (Fields → Shape) → List Fields → List Fields
close_shape f [] = []
close_shape f (r ∷ rs) = push_shape (f r) rs

abbrev pub on_first : (Shape → Shape) → List Fields → List Fields
on_first f (field name s r ∷ rs) = field name (f s) r ∷ rs
on_first f rs = rs

abbrev pub name_first : Option (List ℕ) → List Fields → List Fields
name_first name (field other s r ∷ rs) = field name s r ∷ rs
name_first name rs = rs

-- what a token makes of the components that come after it
abbrev pub put_field : ℕ → ℤ → List ℕ → List Fields → List Fields
put_field k n o rs =
    if k == 0 then no_field ∷ rs else if k == 1 then on_first (array (bit_said n) (first_of o)) rs else if k == 2 then close_shape (structure (bit_said n)) rs
    else if k == 13 then name_first None rs else if k == 14 then name_first (Some o) rs else push_shape (simple k n o) rs

abbrev pub fields_said : List Token → List Fields
fields_said [] = []
fields_said (t ∷ ts) = put_field t.0 t.1.0 t.1.1 (fields_said ts)

abbrev pub first_shape : List Fields → Shape
first_shape (field name s r ∷ rs) = s
first_shape rs = boolean

abbrev pub shape_said : List Token → Shape
shape_said ts = first_shape (fields_said ts)

on_pushed : (f : Shape → Shape) (s : Shape) (rs : List Fields) → on_first f (push_shape s rs) ≡ push_shape (f s) rs
on_pushed f s [] = refl
on_pushed f s (r ∷ rs) = refl

bit_again : (b : Bool) → bit_said (bit_of b) ≡ b
bit_again true = refl
bit_again false = refl

mutual
  shape_again : (s : Shape) (ts : List Token) → fields_said (shape_tokens s ++ ts) ≡ push_shape s (fields_said ts)
  shape_again (array packed n s) ts =
      ap (λ (b : Bool). on_first (array b n) (fields_said (shape_tokens s ++ ts))) (bit_again packed)
      ∙ ap (λ (rs : List Fields). on_first (array packed n) rs) (shape_again s ts) ∙ on_pushed (array packed n) s (fields_said ts)
  shape_again (structure packed fs) ts =
      ap (λ (b : Bool). close_shape (structure b) (fields_said (field_tokens fs ++ ts))) (bit_again packed)
      ∙ ap (λ (rs : List Fields). close_shape (structure packed) rs) (fields_again fs ts)
  shape_again boolean ts = refl
  shape_again (bits n) ts = refl
  shape_again (integer w) ts = refl
  shape_again (unsigned w) ts = refl
  shape_again (floating w e) ts = refl
  shape_again (octets n) ts = refl
  shape_again (visible n) ts = refl
  shape_again (time true) ts = refl
  shape_again (time false) ts = refl

  fields_again : (fs : Fields) (ts : List Token) → fields_said (field_tokens fs ++ ts) ≡ fs ∷ fields_said ts
  fields_again no_field ts = refl
  fields_again (field None s fs) ts =
      ap (λ (us : List Token). name_first None (fields_said us)) (append_assoc (shape_tokens s) (field_tokens fs) ts)
      ∙ ap (λ (rs : List Fields). name_first None rs) (shape_again s (field_tokens fs ++ ts)) ∙ ap (λ (rs : List Fields). name_first None (push_shape s rs)) (fields_again fs ts)
  fields_again (field (Some name) s fs) ts =
      ap (λ (us : List Token). name_first (Some name) (fields_said us)) (append_assoc (shape_tokens s) (field_tokens fs) ts)
      ∙ ap (λ (rs : List Fields). name_first (Some name) rs) (shape_again s (field_tokens fs ++ ts)) ∙ ap (λ (rs : List Fields). name_first (Some name) (push_shape s rs)) (fields_again fs ts)

pub shape_told : (s : Shape) → shape_said (shape_tokens s) ≡ s
shape_told s = ap (λ (us : List Token). shape_said us) (sym (append-nil (shape_tokens s))) ∙ ap (λ (rs : List Fields). first_shape rs) (shape_again s [])

abbrev pub shape_code : Coded Shape
shape_code = code_by (List Token) (coded_list (coded× coded_ℕ (coded× coded_ℤ (coded_list coded_ℕ)))) shape_tokens shape_said shape_told
