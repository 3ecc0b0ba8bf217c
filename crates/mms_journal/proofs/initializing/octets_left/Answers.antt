use Rattle.std.proofs.Common.{not, arith}
use Rattle.mms_journal.specs.Services.{goes}
use Rattle.mms_journal.proofs.Counted.{fits_left}
use Rattle.mms_journal.proofs.initializing.octets_left.Goals as goal

pub overflow_add-octets : goal.overflow_add-octets
overflow_add-octets c =
    let fits = fits_left (λ w. not (goes c.args.limit w)) c.args.entries.now c.loop-written.written-index c.written-item.result c.loop-written-test.true c.written-item.is in
    omega (arith, fits, c.loop-written.invariant, c.len.ensures, c.requires)
