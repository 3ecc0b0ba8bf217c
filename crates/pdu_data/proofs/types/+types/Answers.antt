use Rattle.std.proofs.Common.{suc, ◌-◌, true, Result, ◌≡◌, ◌≢◌, ◌++◌, ◌∷◌, [], Ok, sym, subst, rules, arith}
use Rattle.ber_core.specs.declared.element.Lengths.{Lengths}
use Rattle.ber_forms.specs.Reading.{Gives, Fails, is_tag, required_at}
use Rattle.ber_core.specs.Part.{part}
use Rattle.ber_forms.specs.Fault.{Fault}
use Rattle.ber_forms.specs.Value.{Value}
use Rattle.std.proofs.lemmas.Result.{err_from_is_err_and}
use Rattle.ber_forms.proofs.Loop.{one_read, read_fails, all_read}
use Rattle.mms_types.specs.SeenType.{fields}
use Rattle.pdu_names.specs.Editions.{lengths_of}
use Rattle.pdu_data.specs.Types.{type_alternatives, type_value, array_value, component_member, component_value, field_values}
use Rattle.pdu_data.proofs.TypeLaws.{values_push, depth_push, array_read}
use Rattle.pdu_data.proofs.types.+types.Goals as goal

pub components-returns-in_err-next-clause-exact : goal.components-returns-in_err-next-clause-exact
components-returns-in_err-next-clause-exact t c =
    let p = err_from_is_err_and c.from_residual.result c.from_residual.ensures.1 in
    let some : c.loop-parts.parts.octets ≢ [] = search rules in
    rw (p.1, p.2) (read_fails (lengths_of c.args.edition) (component_member c.args.edition (type_alternatives c.args.edition c.args.most)) c.in_err-next.field-0.0 (field_values (fields c.loop-parts.found.items))
    c.loop-parts.parts c.args.contents.now some (subst (λ (n : Lengths). Fails c.in_err-next.field-0.0 (required_at n (component_member c.args.edition (type_alternatives c.args.edition c.args.most)) c.loop-parts.parts.octets)) (sym c.loop-parts.invariant.0.0) c.in_err-next.ensures.exact) c.loop-parts.invariant.0)

pub components-loop-parts-preserved : goal.components-loop-parts-preserved
components-loop-parts-preserved t c =
    let some : c.loop-parts.parts.octets ≢ [] = search rules in
    let v = c.in_ok-next.field-0 in
    let e : field_values (fields c.push.new.self.items) ≡ field_values (fields c.loop-parts.found.items) ++ component_value v.name (type_value v.spec) ∷ [] =
    rw c.in_ok-push.ensures.items (values_push c.loop-parts.found.items v) in (
      rw e (one_read (lengths_of c.args.edition) (component_member c.args.edition (type_alternatives c.args.edition c.args.most)) (field_values (fields c.loop-parts.found.items)) c.loop-parts.parts c.next.new.parts
          c.args.contents.now (component_value v.name (type_value v.spec)) some (subst (λ (n : Lengths). required_at n (component_member c.args.edition (type_alternatives c.args.edition c.args.most)) c.loop-parts.parts.octets ≡ Ok (component_value v.name (type_value v.spec), c.next.new.parts.octets)) (sym c.loop-parts.invariant.0.0) c.in_ok-next.ensures.exact) c.in_ok-next.ensures.kept c.in_ok-next.ensures.shorter c.loop-parts.invariant.0),
      rw c.in_ok-push.ensures.items (omega (arith, depth_push c.loop-parts.found.items v, c.loop-parts.invariant.1, c.in_ok-next.ensures.deep)),
    )

pub components-returns-clause-exact : goal.components-returns-clause-exact
components-returns-clause-exact t c =
    let none : c.loop-parts.parts.octets ≡ [] = search rules in
    all_read (lengths_of c.args.edition) (component_member c.args.edition (type_alternatives c.args.edition c.args.most)) (field_values (fields c.loop-parts.found.items)) c.loop-parts.parts c.args.contents.now none
    c.loop-parts.invariant.0

pub one-returns-in_ok-packed-clause-exact : goal.one-returns-in_ok-packed-clause-exact
one-returns-in_ok-packed-clause-exact t c =
    let tag : is_tag 2 true 1 c.args.element.tag ≡ true = search rules in
    let inner = c.in_ok-packed in
    let is : c.args.most ≡ suc (c.args.most - 1) = omega (arith, c.if-most-eq0.false) in
    let read = array_read c.args.edition c.args.most (c.args.most - 1) (part c.args.element) (array_value inner.packed inner.count (type_value inner.inner)) is tag c.in_ok-packed.ensures.exact in
    subst (λ (r : Result Value Fault). Gives type_value c.array_of.result r) (sym read) c.array_of.ensures.exact
