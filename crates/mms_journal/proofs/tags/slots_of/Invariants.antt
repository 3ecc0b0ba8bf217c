use Rattle.std.proofs.Common.{◌≡◌, length, take}
use Rattle.mms_journal.specs.Tags.{AreSlots}
use Rattle.mms_journal.proofs.tags.slots_of.Given as goal

-- the texts up to the index have their slots
abbrev pub invariant-loop-text : goal.invariant-loop-text
invariant-loop-text l = AreSlots l.slots (take l.text-index l.texts) × (length l.slots ≡ 256)
