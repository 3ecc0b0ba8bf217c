-- What is told of the first element of octets, and of the first of spelled variables.
use Rattle.std.specs.Prelude.{◌≡◌, ◌<◌, ◌∷◌, ◌++◌, ℕ, List}
use Rattle.ber_core.specs.Spelling.{element_octets}
use Rattle.ber_core.specs.declared.element.Tag.{Tag}
use Rattle.mms_types.specs.declared.journal.JournalVariable.{JournalVariable}
use Rattle.mms_journal.specs.Kept.{variables_octets}

-- none is found where none is spelled in front
abbrev pub CutNone : List ℕ → Type 0
CutNone octets = (tag : Tag) (contents rest : List ℕ) → tag.class < 4 → tag.number < 16384 → octets ≡ element_octets tag contents ++ rest → ⊥

-- where one is spelled in front, these are its contents and what is left after it
abbrev pub CutSome : List ℕ → List ℕ → List ℕ → Type 0
CutSome octets found after = (tag : Tag) (contents rest : List ℕ) → tag.class < 4 → tag.number < 16384 → octets ≡ element_octets tag contents ++ rest
    → (found ≡ contents) × (after ≡ rest)

-- where variables are spelled, this is the tag of the first, and these are the others
abbrev pub FirstSome : List ℕ → List ℕ → List ℕ → Type 0
FirstSome octets tag after = (w : JournalVariable) (ws : List JournalVariable) → octets ≡ variables_octets (w ∷ ws) → (tag ≡ w.tag) × (after ≡ variables_octets ws)

abbrev pub FirstNone : List ℕ → Type 0
FirstNone octets = (w : JournalVariable) (ws : List JournalVariable) → octets ≡ variables_octets (w ∷ ws) → ⊥
