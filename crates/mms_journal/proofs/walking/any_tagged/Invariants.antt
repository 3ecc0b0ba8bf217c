use Rattle.std.proofs.Common.{length}
use Rattle.mms_journal.specs.Entries.{is_tagged}
use Rattle.mms_journal.proofs.Walked.{Left}
use Rattle.mms_journal.proofs.walking.any_tagged.Given as goal

-- whatever variables the octets spell, what is left spells some of which one has one of the tags exactly where one of all does
abbrev pub invariant-loop-rest : goal.invariant-loop-rest
invariant-loop-rest l = Left (is_tagged l.tags) l.octets l.rest

abbrev pub decreases-loop-rest : goal.decreases-loop-rest
decreases-loop-rest l = length l.rest
