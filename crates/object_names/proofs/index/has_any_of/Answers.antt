use Rattle.std.proofs.Common.{◌∙◌, sym}
use Rattle.mms_types.specs.KeyLaws.{scopes_equal}
use Rattle.object_names.specs.Borrowed.{scope_meant}
use Rattle.object_names.proofs.KeysInOrder.{first_tells, none_there, small_place}
use Rattle.object_names.proofs.index.has_any_of.Goals as goal

pub returns-then-first-places : goal.returns-then-first-places
returns-then-first-places g c =
    sym (none_there (scope_meant c.args.scope) c.args.rows.now.entries c.args.places.now c.first_place-first.result c.requires c.first_place-first.ensures.split c.if-first-places.true)

pub returns-in-None : goal.returns-in-None
returns-in-None g c =
    absurd (let there = c.in-None.ensures.found.1 (small_place c.args.rows.now.entries c.args.places.now c.first_place-first.result 0 c.requires c.if-first-places.false) in cc there)

pub returns-in-Some : goal.returns-in-Some
returns-in-Some g c =
    c.is.ensures ∙ scopes_equal.symm (scope_meant c.args.scope) c.in-Some.key.now.scope
    ∙ sym (first_tells (scope_meant c.args.scope) c.args.rows.now.entries c.args.places.now c.first_place-first.result c.requires c.first_place-first.ensures.split 0
    c.in-Some.key.now c.in-Some.field-0-1.now c.if-first-places.false (sym c.in-Some.ensures.entry))
