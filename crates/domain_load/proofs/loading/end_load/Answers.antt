use Rattle.std.proofs.Common.{◌∙◌, ap, length}
use Rattle.std.proofs.lemmas.Map.{length-set_value}
use Rattle.domain_load.specs.Domains.{name_eq}
use Rattle.domain_load.proofs.loading.end_load.Goals as goal

pub returns-in-Some-clause-many : goal.returns-in-Some-clause-many
returns-in-Some-clause-many c =
    let through = c.get_mut.follows.holds c.end.new.self in
    ap length through.0 ∙ length-set_value (name_eq c.args.name.now) c.args.rows.now.entries c.end.new.self
