-- Worked examples of equality and depth of values and types (ISO 9506-2, Data and TypeSpecification).
use Rattle.std.specs.Prelude.{◌≡◌, pos, true, false, List, [], ◌∷◌, map, Some, None}
use Rattle.std.proofs.Common.{refl}
use Rattle.mms_types.specs.declared.object_name.ObjectName.TheVariants.{Vmd}
use Rattle.mms_types.specs.declared.variable.Access.TheVariants as access
use Rattle.mms_types.specs.Datum.{Datum, no_part, part}
use Rattle.mms_types.specs.Datum as datum
use Rattle.mms_types.specs.Shape.{Shape, no_field, field}
use Rattle.mms_types.specs.Shape as shape
use Rattle.mms_types.specs.Equal.{datum_eq, shape_eq}
use Rattle.mms_types.specs.Depths.{write_depth, definition_depth}

-- a function answers each row of a table with its second column
abbrev Answers : {A B : Type 0} → (A → B) → List (A × B) → Type 0
Answers f table = map (λ row. f row.0) table ≡ map (λ row. row.1) table

-- the same number under another kind is another value, and so are its parts in another order, and fewer of them
values_equal : Answers (λ (p : Datum × Datum). datum_eq p.0 p.1) (
    ((datum.integer (pos 1), datum.integer (pos 1)), true) ∷
    ((datum.integer (pos 1), datum.unsigned 1), false) ∷
    ((datum.boolean true, datum.boolean false), false) ∷
    ((datum.bits 4 (240 ∷ []), datum.bits 3 (240 ∷ [])), false) ∷
    ((datum.octets (1 ∷ []), datum.visible (1 ∷ [])), false) ∷
    ((datum.array no_part, datum.structure no_part), false) ∷
    ((datum.array (part (datum.integer (pos 1)) (part (datum.boolean true) no_part)), datum.array (part (datum.integer (pos 1)) (part (datum.boolean true) no_part))), true) ∷
    ((datum.array (part (datum.integer (pos 1)) (part (datum.boolean true) no_part)), datum.array (part (datum.boolean true) (part (datum.integer (pos 1)) no_part))), false) ∷
    ((datum.array (part (datum.integer (pos 1)) no_part), datum.array (part (datum.integer (pos 1)) (part (datum.integer (pos 1)) no_part))), false) ∷
    ((datum.array (part (datum.array no_part) no_part), datum.array (part (datum.array (part (datum.array no_part) no_part)) no_part)), false) ∷
    [])
values_equal = refl

-- types differ by their widths, by a component's name, and by packed
types_equal : Answers (λ (p : Shape × Shape). shape_eq p.0 p.1) (
    ((shape.integer 8, shape.integer 8), true) ∷
    ((shape.integer 8, shape.unsigned 8), false) ∷
    ((shape.integer 8, shape.integer 16), false) ∷
    ((shape.array false 3 shape.boolean, shape.array false 3 shape.boolean), true) ∷
    ((shape.array false 3 shape.boolean, shape.array true 3 shape.boolean), false) ∷
    ((shape.array false 3 shape.boolean, shape.array false 4 shape.boolean), false) ∷
    ((shape.structure false (field None shape.boolean no_field), shape.structure false (field None shape.boolean no_field)), true) ∷
    ((shape.structure false (field (Some (97 ∷ [])) shape.boolean no_field), shape.structure false (field None shape.boolean no_field)), false) ∷
    ((shape.structure false (field None shape.boolean no_field), shape.structure false no_field), false) ∷
    [])
types_equal = refl

-- the deepest of what is written, and 0 of nothing
writes_deep : Answers (λ (values : List Datum). write_depth (record { access = access.List (Vmd (76 ∷ [])); values = values })) (
    ([], 0) ∷
    (datum.integer (pos 1) ∷ [], 0) ∷
    (datum.array no_part ∷ datum.boolean true ∷ [], 1) ∷
    (datum.boolean true ∷ datum.array (part (datum.structure (part (datum.boolean true) no_part)) no_part) ∷ datum.array no_part ∷ [], 2) ∷
    [])
writes_deep = refl

definitions_deep : Answers (λ of. definition_depth (record { name = Vmd (76 ∷ []); address = 0; of = of })) (
    (None, 0) ∷
    (Some shape.boolean, 0) ∷
    (Some (shape.array false 3 (shape.structure false (field None shape.boolean no_field))), 2) ∷
    [])
definitions_deep = refl
