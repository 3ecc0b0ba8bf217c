use Rattle.std.proofs.Common.{◌≡◌, ◌≢◌, [], Ok, subst, ◌∙◌, rules}
use Rattle.std.proofs.lemmas.Result.{err_from_is_err_and}
use Rattle.ber_core.specs.declared.element.Lengths.{Lengths}
use Rattle.ber_core.specs.Part.{part}
use Rattle.ber_forms.specs.Reading.{Fails, part_at}
use Rattle.ber_forms.proofs.Loop.{passed_one, passed_all, passed_not}
use Rattle.ber_forms.proofs.cursor.elements.Goals as goal

pub loop-parts-preserved : goal.loop-parts-preserved
loop-parts-preserved c =
    let some : c.loop-parts.parts.octets ≢ [] = search rules in
    let rest = c.loop-parts.parts.octets in
    let p = part c.in_ok-part.field-0 in
    let after = c.part.new.self.octets in
    let one = subst (λ (n : Lengths). part_at n rest ≡ Ok (p, after)) c.loop-parts.invariant.0 c.in_ok-part.ensures.exact in
    (c.in_ok-part.ensures.kept ∙ c.loop-parts.invariant.0, passed_one c.args.lengths rest c.args.contents.now after p some one c.in_ok-part.ensures.shorter c.loop-parts.invariant.1)

pub returns-in_err-part-clause-exact : goal.returns-in_err-part-clause-exact
returns-in_err-part-clause-exact c =
    let p = err_from_is_err_and c.from_residual.result c.from_residual.ensures.1 in
    let some : c.loop-parts.parts.octets ≢ [] = search rules in
    let rest = c.loop-parts.parts.octets in
    let fault = c.in_err-part.field-0.0 in
    let fails = subst (λ (n : Lengths). Fails fault (part_at n rest)) c.loop-parts.invariant.0 c.in_err-part.ensures.exact in
    rw (p.1, p.2) (passed_not c.args.lengths fault rest c.args.contents.now some fails c.loop-parts.invariant.1)

pub returns-clause-exact : goal.returns-clause-exact
returns-clause-exact c =
    let none : c.loop-parts.parts.octets ≡ [] = search rules in
    passed_all c.args.lengths c.loop-parts.parts.octets c.args.contents.now none c.loop-parts.invariant.1
