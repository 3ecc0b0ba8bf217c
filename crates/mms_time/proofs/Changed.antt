-- Where the row of a name stays as it was, so does the table.
use Rattle.std.proofs.Common.{◌≡◌, ◌∙◌, ap, Some, Result, Ok, Err, OnErr}
use Rattle.std.specs.Map.{lookup, set_value}
use Rattle.std.proofs.lemmas.Map.Steps.{set_value_same}
use Rattle.mms_types.specs.declared.key.Key.{Key}
use Rattle.mms_types.specs.Order.{key_eq}
use Rattle.mms_time.specs.Semaphores.{Rows}
use Rattle.mms_time.specs.declared.row.SemaphoreRow.{SemaphoreRow}

pub unchanged : {X E : Type 0} (r : Result X E) (key : Key) (rows new : Rows) (row now : SemaphoreRow) → new ≡ set_value (key_eq key) rows now → lookup (key_eq key) rows ≡ Some row
    → OnErr r (now ≡ row) → OnErr r (new ≡ rows)
unchanged (Ok x) key rows new row now set found same = tt
unchanged (Err e) key rows new row now set found same = set ∙ ap (set_value (key_eq key) rows) same ∙ set_value_same (key_eq key) rows row found
