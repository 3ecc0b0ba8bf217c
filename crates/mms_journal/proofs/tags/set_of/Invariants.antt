use Rattle.std.proofs.Common.{◌≡◌, ℕ, List, take}
use Rattle.mms_journal.specs.Entries.{is_among}
use Rattle.mms_journal.specs.Tags.{tags_in}
use Rattle.mms_journal.proofs.tags.set_of.Given as goal

-- the texts up to the index are in the set, and no others
abbrev pub invariant-loop-text : goal.invariant-loop-text
invariant-loop-text l = (tag : List ℕ) → is_among (tags_in l.set.keys) tag ≡ is_among (take l.text-index l.texts) tag
