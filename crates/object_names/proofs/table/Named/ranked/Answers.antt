use Rattle.std.proofs.Common.{◌≡◌, ◌∙◌, ◌<◌, IfSome, Some, ap, arith, get_or, length, slice_get, subst, sym}
use Rattle.std.proofs.lemmas.Bool.{lt-ltb, ltb-true}
use Rattle.object_names.specs.Ranked.{by_name}
use Rattle.object_names.proofs.ByName.{as_many, told_ranked}
use Rattle.object_names.proofs.KeysInOrder.{small_place}
use Rattle.object_names.proofs.table.Named.ranked.Goals as goal

pub returns-in-None-clause-found : goal.returns-in-None-clause-found
returns-in-None-clause-found g c =
    let rows = c.self.inside.rows.entries in
    let places = c.self.inside.places.items in
    let count : length places ≡ length rows = as_many rows places c.self.invariant.0 in
    let view : length rows ≡ length c.args.self.now = ap (λ es. length es) c.self.view_is in
    let same : length c.deref.result.now ≡ length places = ap (λ ps. length ps) c.deref.ensures.value in (
      (λ e. absurd (cc e)),
      (λ less. c.in-None.ensures.lookup.0 ∙ lt-ltb c.args.rank (length c.deref.result.now) (omega (arith, count, view, same, less))),
    )

pub returns-in-Some-clause-row : goal.returns-in-Some-clause-row
returns-in-Some-clause-row g c =
    let rows = c.self.inside.rows.entries in
    let places = c.self.inside.places.items in
    let place = c.in-Some.place.now in
    let same = c.deref.ensures.value in
    let small : c.args.rank < length c.deref.result.now = ltb-true c.args.rank (length c.deref.result.now) (sym c.in-Some.ensures.lookup.0) in
    let there : place ≡ get_or places c.args.rank place = c.in-Some.ensures.lookup.1 ∙ ap (λ ps. get_or ps c.args.rank place) same in
    subst (λ rs. IfSome c.get_index.result (λ row. slice_get (by_name rs) c.args.rank ≡ Some (row.0.now, row.1.now))) c.self.view_is
    (told_ranked rows places c.self.invariant.0 c.args.rank place place c.get_index.result (subst (λ ps. c.args.rank < length ps) same small) there c.get_index.ensures.entry)

pub returns-in-Some-clause-found : goal.returns-in-Some-clause-found
returns-in-Some-clause-found g c =
    let rows = c.self.inside.rows.entries in
    let places = c.self.inside.places.items in
    let place = c.in-Some.place.now in
    let count : length places ≡ length rows = as_many rows places c.self.invariant.0 in
    let view : length rows ≡ length c.args.self.now = ap (λ es. length es) c.self.view_is in
    let same : length c.deref.result.now ≡ length places = ap (λ ps. length ps) c.deref.ensures.value in
    let small : c.args.rank < length c.deref.result.now = ltb-true c.args.rank (length c.deref.result.now) (sym c.in-Some.ensures.lookup.0) in
    let there : place ≡ get_or places c.args.rank place = c.in-Some.ensures.lookup.1 ∙ ap (λ ps. get_or ps c.args.rank place) c.deref.ensures.value in
    let within : place < length rows = subst (λ p. p < length rows) (sym there) (small_place rows places c.args.rank place c.self.invariant.0 (omega (arith, same, small))) in (
      (λ e. omega (arith, count, view, same, small)),
      (λ less. c.get_index.ensures.found.1 within),
    )
