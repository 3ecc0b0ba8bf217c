use Rattle.std.proofs.Common.{◌≡◌, ◌≢◌, ◌++◌, ◌∷◌, [], map, rules, sym, subst, Ok}
use Rattle.std.proofs.lemmas.Result.{err_from_is_err_and}
use Rattle.std.proofs.lemmas.List.{map_push}
use Rattle.ber_core.specs.declared.element.Lengths.{Lengths}
use Rattle.ber_forms.specs.Reading.{Fails, required_at}
use Rattle.ber_forms.proofs.Loop.{one_read, read_fails, all_read}
use Rattle.pdu_names.specs.Editions.{lengths_of}
use Rattle.pdu_names.proofs.own.read_each.Goals as goal

pub returns-in_err-take : goal.returns-in_err-take
returns-in_err-take g c =
    let p = err_from_is_err_and c.from_residual.result c.from_residual.ensures.1 in
    let some : c.loop-parts.parts.octets ≢ [] = search rules in
    let m = g.T.Own.item.member c.args.edition in
    let fails = subst (λ (l : Lengths). Fails c.in_err-take.field-0.0 (required_at l m c.loop-parts.parts.octets)) (sym c.loop-parts.invariant.0) c.in_err-take.ensures.exact in
    rw (p.1, p.2) (read_fails (lengths_of c.args.edition) m c.in_err-take.field-0.0 (map g.T.Own.item.value c.loop-parts.found.items) c.loop-parts.parts c.args.contents.now some
    fails c.loop-parts.invariant)

pub loop-parts-preserved : goal.loop-parts-preserved
loop-parts-preserved g c =
    let some : c.loop-parts.parts.octets ≢ [] = search rules in
    let v = c.in_ok-take.field-0 in
    let see = g.T.Own.item.value in
    let m = g.T.Own.item.member c.args.edition in
    let e : map see c.push.new.self.items ≡ map see c.loop-parts.found.items ++ see v ∷ [] = rw c.in_ok-push.ensures.items (map_push _ c.loop-parts.found.items v) in
    let read = subst (λ (l : Lengths). required_at l m c.loop-parts.parts.octets ≡ Ok (see v, c.take.new.parts.octets)) (sym c.loop-parts.invariant.0) c.in_ok-take.ensures.exact in
    rw e (one_read (lengths_of c.args.edition) m (map see c.loop-parts.found.items) c.loop-parts.parts c.take.new.parts c.args.contents.now (see v) some
    read c.in_ok-take.ensures.kept c.in_ok-take.ensures.shorter c.loop-parts.invariant)

pub returns : goal.returns
returns g c =
    let none : c.loop-parts.parts.octets ≡ [] = search rules in
    all_read (lengths_of c.args.edition) (g.T.Own.item.member c.args.edition) (map g.T.Own.item.value c.loop-parts.found.items) c.loop-parts.parts c.args.contents.now none c.loop-parts.invariant
