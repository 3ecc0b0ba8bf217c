use Rattle.std.proofs.Common.{◌≡◌, ◌∙◌, ◌∷◌, ◌++◌, ap, rules}
use Rattle.std.specs.Map.{lookup}
use Rattle.domain_load.specs.Domains.{name_eq}
use Rattle.domain_load.proofs.RowLemmas.{not_copied}
use Rattle.program_inv.proofs.programs.copied_rows.Goals as goal

pub put_row-requires : goal.put_row-requires
put_row-requires c =
    let copied = c.loop-name.copies.entries in
    let is : copied ++ (c.in-Some.name.now, c.in-Some.invocation.now) ∷ c.next.new.self ≡ c.args.rows.now.entries = search rules in
    ap (λ name. lookup (name_eq name) copied) c.in_ok-key.ensures
    ∙ not_copied copied _ c.args.rows.now.entries c.in-Some.name.now c.in-Some.invocation.now is c.len-distinct.ensures.unique
