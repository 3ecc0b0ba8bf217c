-- Values and types are equal part by part.
use Rattle.std.proofs.Common.{◌≡◌, ◌≢◌, ℕ, suc, ◌+◌, ◌<◌, Bool, true, false, ◌&&◌, List, [], ◌∷◌, length, drop, get_or, Option, Some, None, refl, sym, ap, ap₂, ◌∙◌, arith}
use Rattle.std.specs.Prelude.{nat_eq}
use Rattle.std.specs.Bool.{Decides, one_answer}
use Rattle.std.specs.Cmp.{unsigned_Decides}
use Rattle.std.specs.Cmp.Lexicographic.{pointwise, pointwise_decides}
use Rattle.std.specs.Option.{option_eq}
use Rattle.std.proofs.lemmas.Bool.Decides.{Decides-and}
use Rattle.std.proofs.lemmas.List.{at_drop_more}
use Rattle.mms_types.specs.declared.type_spec.Component.{Component}
use Rattle.mms_types.specs.Datum.{Datum, Row, array, boolean, no_part, part, row}
use Rattle.mms_types.specs.Shape.{Shape, Fields, structure, no_field, field}
use Rattle.mms_types.specs.Shape as shape
use Rattle.mms_types.specs.SeenType.{fields}
use Rattle.mms_types.specs.Matches.{parts_count}
use Rattle.mms_types.specs.Equal.{datum_eq, row_eq, shape_eq, fields_eq, component_eq, data_decide, shapes_decide}
use Rattle.mms_types.proofs.DataParts.{count_row}

not_true : (b : Bool) → b ≢ true → b ≡ false
not_true true n = absurd (n refl)
not_true false n = refl

-- ---- the parts of values

abbrev parts_of : Datum → Row
parts_of (array r) = r
parts_of x = no_part

abbrev first_part : Row → Datum
first_part (part x r) = x
first_part no_part = boolean false

abbrev later_parts : Row → Row
later_parts (part x r) = r
later_parts no_part = no_part

rows_decide : (r s : Row) → Decides (row_eq r s) (r ≡ s)
rows_decide r s =
    let d = data_decide (array r) (array s) in
    (λ h. ap parts_of (d.0 h), λ e. d.1 (ap (λ (t : Row). array t) e))

pub rows_next : (x y : Datum) (r s : Row) → row_eq (part x r) (part y s) ≡ (datum_eq x y && row_eq r s)
rows_next x y r s =
    let both = Decides-and (datum_eq x y) (row_eq r s) (data_decide x y) (rows_decide r s) in
    let decides : Decides (datum_eq x y && row_eq r s) (part x r ≡ part y s) = (λ h. λ i. part ((both.0 h).0 i) ((both.0 h).1 i), λ e. both.1 (ap first_part e, ap later_parts e)) in
    one_answer (row_eq (part x r) (part y s)) (datum_eq x y && row_eq r s) (rows_decide (part x r) (part y s)) decides

pub uneven_rows : (xs ys : List Datum) → length xs ≢ length ys → row_eq (row xs) (row ys) ≡ false
uneven_rows xs ys ne =
    not_true (row_eq (row xs) (row ys)) (λ h. ne (sym (count_row xs) ∙ ap parts_count ((rows_decide (row xs) (row ys)).0 h) ∙ count_row ys))

-- the parts from an index on: the one there, and those after it
pub rows_from : (xs ys : List Datum) (i : ℕ) (x y : Datum) → i < length xs → length xs ≡ length ys → x ≡ get_or xs i x → y ≡ get_or ys i y
    → row_eq (row (drop i xs)) (row (drop i ys)) ≡ (datum_eq x y && row_eq (row (drop (i + 1) xs)) (row (drop (i + 1) ys)))
rows_from xs ys i x y lt as_long is other =
    at_drop_more (λ (zs : List Datum). row_eq (row zs) (row (drop i ys))) xs i x lt
    ∙ at_drop_more (λ (zs : List Datum). row_eq (row (get_or xs i x ∷ drop (i + 1) xs)) (row zs)) ys i y (omega (arith, lt, as_long))
    ∙ rows_next (get_or xs i x) (get_or ys i y) (row (drop (i + 1) xs)) (row (drop (i + 1) ys))
    ∙ ap₂ (λ (a b : Datum). datum_eq a b && row_eq (row (drop (i + 1) xs)) (row (drop (i + 1) ys))) (sym is) (sym other)

-- ---- the components of types

abbrev components_of : Shape → Fields
components_of (structure packed fs) = fs
components_of s = no_field

abbrev first_name : Fields → Option (List ℕ)
first_name (field name s fs) = name
first_name no_field = None

abbrev first_shape : Fields → Shape
first_shape (field name s fs) = s
first_shape no_field = shape.boolean

abbrev later_fields : Fields → Fields
later_fields (field name s fs) = fs
later_fields no_field = no_field

fields_decide : (fs gs : Fields) → Decides (fields_eq fs gs) (fs ≡ gs)
fields_decide fs gs =
    let d = shapes_decide (structure false fs) (structure false gs) in
    (λ h. ap components_of (d.0 h), λ e. d.1 (ap (λ (hs : Fields). structure false hs) e))

names_decide : (n m : Option (List ℕ)) → Decides (option_eq (pointwise nat_eq) n m) (n ≡ m)
names_decide None None = (λ h. refl, λ e. refl)
names_decide None (Some m) = (λ h. cc, λ e. cc)
names_decide (Some n) None = (λ h. cc, λ e. cc)
names_decide (Some n) (Some m) =
    let d = pointwise_decides unsigned_Decides n m in
    (λ h. ap (λ (o : List ℕ). Some o) (d.0 h), λ e. d.1 (ap (λ (o : Option (List ℕ)). text_in o) e))
  where
    text_in : Option (List ℕ) → List ℕ
    text_in None = []
    text_in (Some o) = o

pub fields_next : (c d : Component) (fs gs : Fields) → fields_eq (field c.name c.spec fs) (field d.name d.spec gs) ≡ (component_eq c d && fields_eq fs gs)
fields_next c d fs gs =
    let whole = component_eq c d && fields_eq fs gs in
    let own = Decides-and (option_eq (pointwise nat_eq) c.name d.name) (shape_eq c.spec d.spec) (names_decide c.name d.name) (shapes_decide c.spec d.spec) in
    let both = Decides-and (component_eq c d) (fields_eq fs gs) own (fields_decide fs gs) in
    let decides : Decides whole (field c.name c.spec fs ≡ field d.name d.spec gs) =
    (λ h. λ i. field ((both.0 h).0.0 i) ((both.0 h).0.1 i) ((both.0 h).1 i), λ e. both.1 ((ap first_name e, ap first_shape e), ap later_fields e)) in
    one_answer (fields_eq (field c.name c.spec fs) (field d.name d.spec gs)) whole (fields_decide (field c.name c.spec fs) (field d.name d.spec gs)) decides

count_of : Fields → ℕ
count_of no_field = 0
count_of (field name s fs) = suc (count_of fs)

count_fields : (cs : List Component) → count_of (fields cs) ≡ length cs
unfolding count_of
count_fields [] = refl
count_fields (c ∷ cs) = ap suc (count_fields cs)

pub uneven_fields : (cs ds : List Component) → length cs ≢ length ds → fields_eq (fields cs) (fields ds) ≡ false
uneven_fields cs ds ne =
    not_true (fields_eq (fields cs) (fields ds)) (λ h. ne (sym (count_fields cs) ∙ ap count_of ((fields_decide (fields cs) (fields ds)).0 h) ∙ count_fields ds))

-- the components from an index on: the one there, and those after it
pub fields_from : (cs ds : List Component) (i : ℕ) (c d : Component) → i < length cs → length cs ≡ length ds → c ≡ get_or cs i c → d ≡ get_or ds i d
    → fields_eq (fields (drop i cs)) (fields (drop i ds)) ≡ (component_eq c d && fields_eq (fields (drop (i + 1) cs)) (fields (drop (i + 1) ds)))
fields_from cs ds i c d lt as_long is other =
    at_drop_more (λ (es : List Component). fields_eq (fields es) (fields (drop i ds))) cs i c lt
    ∙ at_drop_more (λ (es : List Component). fields_eq (fields (get_or cs i c ∷ drop (i + 1) cs)) (fields es)) ds i d (omega (arith, lt, as_long))
    ∙ fields_next (get_or cs i c) (get_or ds i d) (fields (drop (i + 1) cs)) (fields (drop (i + 1) ds))
    ∙ ap₂ (λ (a b : Component). component_eq a b && fields_eq (fields (drop (i + 1) cs)) (fields (drop (i + 1) ds))) (sym is) (sym other)
