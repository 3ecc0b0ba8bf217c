use Rattle.std.proofs.Common.{◌∙◌, ap, arith, sym}
use Rattle.domain_load.specs.Segmented.{octets_in}
use Rattle.domain_load.proofs.Cuts.{octets_cut}
use Rattle.domain_load.proofs.segments.Segments.octets.Goals as goal

pub returns-clause-sum : goal.returns-clause-sum
returns-clause-sum c = c.len.ensures ∙ sym (octets_cut c.self.inside.lengths.items c.self.inside.joined c.self.invariant.0) ∙ ap octets_in c.self.view_is

pub returns-clause-most : goal.returns-clause-most
returns-clause-most c =
    let all = octets_cut c.self.inside.lengths.items c.self.inside.joined c.self.invariant.0 in
    rw (← c.self.view_is) (omega (arith, all, c.self.invariant.1))
