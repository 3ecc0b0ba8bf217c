-- Tags whose octets stand elsewhere, and the slots by which most other tags are told from those that are listed.
use Rattle.std.specs.Prelude.{◌≡◌, ℕ, ◌+◌, ◌-◌, ◌*◌, ◌%◌, Bool, true, false, List, length, map, slice_index_or}
use Rattle.std.proofs.Common.{Bor}
use Rattle.mms_journal.specs.Entries.{is_among}

abbrev pub tags_in : List (Bor (List ℕ)) → List (List ℕ)
tags_in tags = map (λ tag. tag.now) tags

-- a number below 256, by how long a tag is and by its first and its last octet
abbrev pub slot_of : List ℕ → ℕ
slot_of tag = (length tag % 256 + (3 * slice_index_or tag 0 0 + 5 * slice_index_or tag (length tag - 1) 0)) % 256

-- a tag that is listed has its slot
abbrev pub AreSlots : List Bool → List (List ℕ) → Type 0
AreSlots slots listed = (tag : List ℕ) → is_among listed tag ≡ true → slice_index_or slots (slot_of tag) false ≡ true
