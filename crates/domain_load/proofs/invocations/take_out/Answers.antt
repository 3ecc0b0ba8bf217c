use Rattle.std.proofs.Common.{◌≡◌, ◌∙◌, ◌++◌, ◌+◌, ◌-◌, ap, arith, drop, length, subst, sym, take}
use Rattle.domain_load.specs.UserNames.{AreBefore, AreUpTo}
use Rattle.domain_load.proofs.UserNames.{all_taken, before_up_to, first_many, last_gone, parted}
use Rattle.domain_load.proofs.invocations.take_out.Goals as goal

pub loop-end-init : goal.loop-end-init
loop-end-init c =
    let name = c.args.name.now in
    let names = c.args.names.now.items in
    let place = c.before-place.result in
    let end = c.up_to-end.result in
    let less = subst (λ ns. AreBefore name ns place) c.deref.ensures.value c.before-place.ensures in
    let more = subst (λ ns. AreUpTo name ns end) c.deref-2.ensures.value c.up_to-end.ensures in
    record {
      low = before_up_to name names place end less.0 less.1.0 more.1.1;
      high = omega arith;
      items = sym (all_taken end names);
    }

pub remove-requires : goal.remove-requires
remove-requires c =
    let names = c.args.names.now.items in
    let end = c.loop-end.end in
    let more = subst (λ ns. AreUpTo c.args.name.now ns c.up_to-end.result) c.deref-2.ensures.value c.up_to-end.ensures in
    let test = c.loop-end-test.true in
    let many = first_many names (drop c.up_to-end.result names) end (omega (arith, c.loop-end.invariant.high, more.0)) in
    let is = ap length c.loop-end.invariant.items in
    omega (arith, test, many, is, c.loop-end.names.ok)

pub loop-end-preserved : goal.loop-end-preserved
loop-end-preserved c =
    let names = c.args.names.now.items in
    let end = c.loop-end.end in
    let e = end - 1 in
    let rest = drop c.up_to-end.result names in
    let more = subst (λ ns. AreUpTo c.args.name.now ns c.up_to-end.result) c.deref-2.ensures.value c.up_to-end.ensures in
    let test = c.loop-end-test.true in
    record {
      low = omega (arith, test);
      high = omega (arith, c.loop-end.invariant.high);
      items = c.remove.ensures.by_index.2 ∙ ap (λ ns. take e ns ++ drop (e + 1) ns) c.loop-end.invariant.items
          ∙ last_gone names rest end e (omega (arith, test)) (omega (arith, c.loop-end.invariant.high, more.0));
    }

pub returns : goal.returns
returns c =
    let name = c.args.name.now in
    let names = c.args.names.now.items in
    let place = c.before-place.result in
    let end = c.up_to-end.result in
    let less = subst (λ ns. AreBefore name ns place) c.deref.ensures.value c.before-place.ensures in
    let more = subst (λ ns. AreUpTo name ns end) c.deref-2.ensures.value c.up_to-end.ensures in
    let at : c.loop-end.end ≡ place = omega (arith, c.loop-end-test.false, c.loop-end.invariant.low) in
    c.loop-end.invariant.items ∙ ap (λ n. take n names ++ drop end names) at
    ∙ sym (parted name names place end less.1.0 less.1.1 more.1.0 more.1.1 (before_up_to name names place end less.0 less.1.0 more.1.1))
