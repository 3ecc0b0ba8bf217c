use Rattle.std.proofs.Common.{◌∙◌, ap, filter, nat_eq, not, rules}
use Rattle.std.proofs.lemmas.Fn.{filter_same}
use Rattle.std.specs.Cmp.Lexicographic.{pointwise}
use Rattle.mms_types.proofs.identifiers.Identifiers.remove.Goals as goal

pub returns : goal.returns
returns c =
    filter_same _ (λ other. not (pointwise nat_eq other c.args.name.now)) _ (λ x b f' k. search rules) _ _ c.retain.ensures.filtered
    ∙ ap (filter (λ other. not (pointwise nat_eq other c.args.name.now))) c.self.view_is
