use Rattle.std.proofs.Common.{◌≡◌, ◌∙◌, ◌∷◌, ◌++◌, ap, rules}
use Rattle.std.specs.Map.{lookup}
use Rattle.mms_types.specs.Order.{key_eq}
use Rattle.object_names.proofs.Scopes.{not_copied}
use Rattle.event_enrol.proofs.enrolments.copied.Goals as goal

pub put-requires-clause-new : goal.put-requires-clause-new
put-requires-clause-new c =
    let copied = c.loop-key.copies in
    let is : copied ++ (c.in-Some.key.now, c.in-Some.row.now) ∷ c.next.new.self ≡ c.args.rows.now.entries = search rules in
    ap (λ key. lookup (key_eq key) copied) c.in_ok-key.ensures
    ∙ not_copied copied _ c.args.rows.now.entries c.in-Some.key.now c.in-Some.row.now is c.len-distinct.ensures.unique
