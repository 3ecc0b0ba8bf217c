-- The example: what a client was told, and for how many more words there is room.
use Rattle.std.specs.Prelude.{◌-◌, ◌++◌, ◌∷◌, [], ℕ, List}
use Rattle.parted_state.specs.declared.example.Word.{Word}

pub record Roomy : Type 0 where
  pub words : List Word
  pub room : ℕ

-- between two requests there is no room that is promised
abbrev pub settled : List Word → Roomy
settled words = record { words = words; room = 0 }

abbrev pub with_room : ℕ → Roomy → Roomy
with_room room row = record row { room = room }

-- one more word, which uses the room for one
abbrev pub with_word : Word → Roomy → Roomy
with_word word row = record { words = row.words ++ word ∷ []; room = row.room - 1 }
