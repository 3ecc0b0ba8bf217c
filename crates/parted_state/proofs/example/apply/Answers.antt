use Rattle.std.proofs.Common.{◌∙◌, ℕ, ◌-◌, ◌≤◌, ap, subst}
use Rattle.std.proofs.lemmas.Result.{on_ok_weaker}
use Rattle.parted_state.proofs.Applied.{shown_there, is_own, has_no_room, is_heir, is_after, of_state}
use Rattle.parted_state.proofs.example.apply.Goals as goal

pub put_in_place-requires-clause-held : goal.put_in_place-requires-clause-held
put_in_place-requires-clause-held c =
    let many = ap (λ (m : ℕ). m - 2) c.places.ensures in
    is_own c.args.held.now c.args.asked c.requires.of.0 c.requires.of.1 c.requires.enough c.requires.among.0 c.requires.among.1
    c.lift-tables.result (c.lift-tables.ensures ∙ shown_there c.args.held.now _ many)

pub put_in_place-requires-clause-empty : goal.put_in_place-requires-clause-empty
put_in_place-requires-clause-empty c =
    let many = ap (λ (m : ℕ). m - 2) c.places.ensures in
    has_no_room c.args.held.now c.args.asked c.requires.of.0 c.requires.of.1 c.requires.enough c.requires.among.0 c.requires.among.1
    c.lift-tables.result (c.lift-tables.ensures ∙ shown_there c.args.held.now _ many)

pub put_in_place-requires-clause-held_heir : goal.put_in_place-requires-clause-held_heir
put_in_place-requires-clause-held_heir c some few =
    let many = ap (λ (m : ℕ). m - 2) c.places.ensures in
    is_heir c.args.held.now c.args.asked c.requires.of.0 c.requires.of.1 c.requires.enough c.requires.among.0 c.requires.among.1
    c.lift-tables.result (c.lift-tables.ensures ∙ shown_there c.args.held.now _ many) c.serve-word.result.0 c.serve-word.result.1 c.serve-word.ensures.told
    some (subst (λ (m : ℕ). c.serve-word.result.1 ≤ m) many few)

pub returns-clause-parts : goal.returns-clause-parts
returns-clause-parts c =
    let many = ap (λ (m : ℕ). m - 2) c.places.ensures in
    on_ok_weaker c.put_in_place.result
    (λ put. is_after c.args.held.now c.args.asked c.requires.of.0 c.requires.of.1 c.requires.enough c.requires.among.0 c.requires.among.1
    c.lift-tables.result (c.lift-tables.ensures ∙ shown_there c.args.held.now _ many)
    c.put_in_place.new.held _ _ _ many c.serve-word.ensures.tables c.serve-word.ensures.told put)
    c.put_in_place.ensures.put

pub returns-clause-step : goal.returns-clause-step
returns-clause-step c =
    let many = ap (λ (m : ℕ). m - 2) c.places.ensures in
    on_ok_weaker c.put_in_place.result
    (λ put s of. of_state c.args.held.now c.args.asked s of c.requires.enough c.requires.among.0 c.requires.among.1
    c.lift-tables.result (c.lift-tables.ensures ∙ shown_there c.args.held.now _ many)
    c.put_in_place.new.held _ _ _ many c.serve-word.ensures.tables c.serve-word.ensures.told put)
    c.put_in_place.ensures.put
