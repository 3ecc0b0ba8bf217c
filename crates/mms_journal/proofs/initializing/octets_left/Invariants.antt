use Rattle.std.proofs.Common.{◌≡◌, filter, not, take}
use Rattle.mms_journal.specs.Journals.{octets_in}
use Rattle.mms_journal.specs.Services.{goes}
use Rattle.mms_journal.proofs.initializing.octets_left.Given as goal

-- the octets of those up to the index that stay
abbrev pub invariant-loop-written : goal.invariant-loop-written
invariant-loop-written l = l.octets ≡ octets_in (filter (λ w. not (goes l.limit w)) (take l.written-index l.entries))
