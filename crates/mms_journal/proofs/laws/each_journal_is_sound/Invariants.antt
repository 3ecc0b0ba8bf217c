use Rattle.std.proofs.Common.{◌≡◌, ℕ, ◌<◌, get_or, length}
use Rattle.mms_types.specs.declared.key.Key.{Key}
use Rattle.mms_journal.specs.Journals.{IsJournal, Log}
use Rattle.mms_journal.proofs.laws.each_journal_is_sound.Given as goal

-- the journals up to the place are sound
abbrev pub invariant-loop-place : goal.invariant-loop-place
invariant-loop-place l = ((k : ℕ) (d : Key × Log) → k < l.place → IsJournal (get_or l.journals k d).1) × (l.place-end ≡ length l.journals)
