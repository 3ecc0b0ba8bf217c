use Rattle.std.proofs.Common.{◌∙◌, [], ap, arith, filter, length}
use Rattle.std.proofs.lemmas.Int.{ints}
use Rattle.std.proofs.lemmas.List.{length-map}
use Rattle.std.specs.Option.{unwrap_or}
use Rattle.object_names.proofs.Fewer.{still_few}
use Rattle.event_enrol.specs.Enrolments.{is_on}
use Rattle.event_enrol.specs.Groups.{member}
use Rattle.event_enrol.proofs.enrolments.Enrolments.number_on.Goals as goal

pub overflow_cast-result : goal.overflow_cast-result
overflow_cast-result c =
    let condition = c.args.condition.now in
    let rows = c.self.inside.rows.entries in
    let long = ap (λ ms. length ms) (c.as_slice.ensures ∙ ap (λ o. unwrap_or o []) c.in-Some.ensures.value ∙ c.self.invariant.2 condition) ∙ length-map (filter (is_on condition) rows) member in
    let few = still_few (is_on condition) rows 1024 c.self.invariant.0 in
    omega (arith, ints, long, few)
