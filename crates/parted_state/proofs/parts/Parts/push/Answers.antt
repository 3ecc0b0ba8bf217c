use Rattle.std.proofs.Common.{refl, arith}
use Rattle.parted_state.proofs.Bits.{added_to}
use Rattle.parted_state.proofs.parts.Parts.push.Goals as goal

pub returns : goal.returns
returns c =
    let small = c.ranges.part.fits in
    let many = c.self.told in
    added_to c.self.inside.words c.args.self.now _ c.args.part c.from.result small (omega (arith, small, many)) c.from.ensures c.self.view_is refl
