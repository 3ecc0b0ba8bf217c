-- When two values are equal, and when two types are: where they are the same numbers, and so are one.
use Rattle.std.specs.Prelude.{◌≡◌, ℕ, ◌==◌, ◌&&◌, Bool, true, List, nat_eq}
use Rattle.std.proofs.Common.{refl, sym, ap, subst, ◌∙◌}
use Rattle.std.specs.Ordering.{int_eq}
use Rattle.std.specs.Bool.{Decides}
use Rattle.std.specs.Cmp.{IsEquivalence, decided, first_so, second_so, unsigned_Decides, signed_Decides}
use Rattle.std.specs.Cmp.Lexicographic.{pointwise, pointwise_decides}
use Rattle.std.specs.Option.{option_eq}
use Rattle.mms_types.specs.declared.type_spec.Component.{Component}
use Rattle.mms_types.specs.Datum.{Datum, Row}
use Rattle.mms_types.specs.DatumCode.{Token, tokens, row_tokens, datum_said, said_again}
use Rattle.mms_types.specs.Shape.{Shape, Fields}
use Rattle.mms_types.specs.ShapeCode.{shape_tokens, field_tokens, shape_said, shape_told}

abbrev pub token_eq : Token → Token → Bool
token_eq t u = (t.0 == u.0) && (int_eq t.1.0 u.1.0 && pointwise nat_eq t.1.1 u.1.1)

abbrev pub datum_eq : Datum → Datum → Bool
datum_eq x y = pointwise token_eq (tokens x) (tokens y)

-- the parts of two values
abbrev pub row_eq : Row → Row → Bool
row_eq r s = pointwise token_eq (row_tokens r) (row_tokens s)

abbrev pub shape_eq : Shape → Shape → Bool
shape_eq s t = pointwise token_eq (shape_tokens s) (shape_tokens t)

-- the components of two types
abbrev pub fields_eq : Fields → Fields → Bool
fields_eq fs gs = pointwise token_eq (field_tokens fs) (field_tokens gs)

-- two components: their names and their types
abbrev pub component_eq : Component → Component → Bool
component_eq c d = option_eq (pointwise nat_eq) c.name d.name && shape_eq c.spec d.spec

-- ---- these are equalities

octets_decide : (o p : List ℕ) → Decides (pointwise nat_eq o p) (o ≡ p)
octets_decide = pointwise_decides unsigned_Decides

token_itself : (t : Token) → token_eq t t ≡ true
token_itself t = λ i. (unsigned_Decides t.0 t.0).1 refl i && ((signed_Decides t.1.0 t.1.0).1 refl i && (octets_decide t.1.1 t.1.1).1 refl i)

token_same : (t u : Token) → token_eq t u ≡ true → t ≡ u
token_same t u h =
    let rest = second_so (t.0 == u.0) (int_eq t.1.0 u.1.0 && pointwise nat_eq t.1.1 u.1.1) h in
    let kinds = (unsigned_Decides t.0 u.0).0 (first_so (t.0 == u.0) (int_eq t.1.0 u.1.0 && pointwise nat_eq t.1.1 u.1.1) h) in
    let numbers = (signed_Decides t.1.0 u.1.0).0 (first_so (int_eq t.1.0 u.1.0) (pointwise nat_eq t.1.1 u.1.1) rest) in
    let texts = (octets_decide t.1.1 u.1.1).0 (second_so (int_eq t.1.0 u.1.0) (pointwise nat_eq t.1.1 u.1.1) rest) in
    λ i. (kinds i, (numbers i, texts i))

token_decides : (t u : Token) → Decides (token_eq t u) (t ≡ u)
token_decides t u = (token_same t u, λ e. subst (λ (v : Token). token_eq t v ≡ true) e (token_itself t))

tokens_decide : (ts us : List Token) → Decides (pointwise token_eq ts us) (ts ≡ us)
tokens_decide = pointwise_decides token_decides

pub data_decide : (x y : Datum) → Decides (datum_eq x y) (x ≡ y)
data_decide x y =
    let d = tokens_decide (tokens x) (tokens y) in
    (λ h. sym (said_again x) ∙ ap datum_said (d.0 h) ∙ said_again y, λ e. d.1 (ap tokens e))

pub shapes_decide : (s t : Shape) → Decides (shape_eq s t) (s ≡ t)
shapes_decide s t =
    let d = tokens_decide (shape_tokens s) (shape_tokens t) in
    (λ h. sym (shape_told s) ∙ ap shape_said (d.0 h) ∙ shape_told t, λ e. d.1 (ap shape_tokens e))

pub data_equal : IsEquivalence datum_eq
data_equal = decided datum_eq data_decide

pub shapes_equal : IsEquivalence shape_eq
shapes_equal = decided shape_eq shapes_decide
