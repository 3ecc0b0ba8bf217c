use Rattle.std.proofs.Common.{◌∙◌, ap, drop, sym, take}
use Rattle.domain_load.specs.Segmented.{piece}
use Rattle.domain_load.proofs.Cuts.{concat_cut}
use Rattle.domain_load.proofs.segments.Segments.piece.Goals as goal

pub returns : goal.returns
returns c =
    c.new.ensures
    ∙ c.in_ok-octets.ensures
    ∙ ap (λ xs. take c.args.most (drop c.args.from xs)) (sym (concat_cut c.self.inside.lengths.items c.self.inside.joined c.self.invariant.0))
    ∙ ap (piece c.args.from c.args.most) c.self.view_is
