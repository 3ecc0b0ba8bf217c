-- Where the words and slots of a table lie that different callers write: each on a line of its own, and what lies between is never stepped on. Word 0 is the commit word.
use Rattle.std.specs.Prelude.{ℕ, ◌+◌, ◌*◌, ◌-◌, List, [], ◌∷◌, ◌++◌, Option, None, Some, replicate}
use Rattle.part_table.specs.declared.lines.TheConstants.{WORDS_APART, SLOTS_APART}

-- the word that says who owns the part i; that of the number of parts is how many words there are
abbrev pub owner_word : ℕ → ℕ
owner_word i = WORDS_APART * (i + 1)

-- the slot of the part i; that of the number of parts is how many slots there are
abbrev pub slot_of : ℕ → ℕ
slot_of i = SLOTS_APART * i

-- the slots of parts that are at home, and the empty ones between
abbrev pub laid_apart : {B : Type 0} → List B → List (Option B)
laid_apart [] = []
laid_apart (x ∷ xs) = Some x ∷ replicate (SLOTS_APART - 1) None ++ laid_apart xs
