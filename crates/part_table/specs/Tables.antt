-- What is inside a table of parts.
use Rattle.std.specs.Prelude.{◌≡◌, ◌≤◌, length}
use Rattle.atomic_table.specs.Seated.{TableId}
use Rattle.part_table.specs.declared.view.Key.{Key}
use Rattle.part_table.specs.Rule.{setting_of}
use Rattle.part_table.specs.Known.{Opened}
use Rattle.part_table.specs.Lines.{owner_word, slot_of}

module _ {T : Type 0} where
  -- a table, as contracts see it
  abbrev pub opened : TableId → Key T → Opened T
  opened id key = record { id = id; opening = (setting_of key).opening; callers = key.callers; quota = key.quota }

  -- a table has the commit word and an owner word for each part, and a slot for each; it has at most 256 parts and 1 to 65 callers
  pub record IsTable (id : TableId) (key : Key T) : Type 0 where
    pub slots : id.slots ≡ slot_of (length (setting_of key).opening)
    pub words : id.words ≡ owner_word (length (setting_of key).opening)
    pub few : (length (setting_of key).opening ≤ 256) × (1 ≤ key.callers) × (key.callers ≤ 65)
