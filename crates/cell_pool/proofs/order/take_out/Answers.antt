use Rattle.std.proofs.Common.{◌∙◌, ℕ, ◌++◌, IfSome, slice_get, rules, arith, sym, ap, subst, [], ◌∷◌, append_assoc, length-append}
use Rattle.cell_pool.proofs.Laying.{not_empty, place_here}
use Rattle.cell_pool.proofs.Lists.{EachAt_snoc, grown}
use Rattle.cell_pool.proofs.Taking.{open_more, short_here, one_short}
use Rattle.cell_pool.proofs.order.take_out.Goals as goal

pub unreachable-requires : goal.unreachable-requires
unreachable-requires g c =
    let i = c.loop-slot.invariant in
    let s = c.in-Some.ensures.steps in
    not_empty (λ i. i.place) c.args.slots.items c.loop-slot.yielded _ c.in-Some.slot (i.slots ∙ ap (λ l. c.loop-slot.yielded ++ l) s.0)
    (c.requires.laid _ (omega (arith, i.len, i.count, s.1, c.requires.len))) c.in_default.is

pub loop-slot-preserved : goal.loop-slot-preserved
loop-slot-preserved g c =
    let i = c.loop-slot.invariant in
    let s = c.in-Some.ensures.steps in
    let at = place_here (λ i. i.place) c.args.slots.items c.loop-slot.yielded _ c.in-Some.slot c.in-Some-slot.item (i.slots ∙ ap (λ l. c.loop-slot.yielded ++ l) s.0)
    (c.requires.laid _ (omega (arith, i.len, i.count, s.1, c.requires.len))) c.in-Some-slot.is ∙ sym i.count in
    record {
      slots = i.slots ∙ ap (λ l. c.loop-slot.yielded ++ l) s.0 ∙ sym (append_assoc c.loop-slot.yielded (c.in-Some.slot ∷ []) _);
      count = (let e = grown _ _ _ c.push_reserved.ensures.items in omega (arith, i.count, length-append c.loop-slot.yielded (c.in-Some.slot ∷ [])));
      len = (let e = grown _ _ _ c.push_reserved.ensures.items in omega (arith, i.len, s.1));
      room = search rules;
      fit = EachAt_snoc _ _ _ _ c.push_reserved.ensures.items i.fit c.in-Some-slot.item.is_fit;
      made = EachAt_snoc _ _ _ _ c.push_reserved.ensures.items i.made
          (subst (λ (p : ℕ). ∥ IfSome (slice_get g.C.Given.given p) (λ from. g.T.Turn.made from c.in-Some-slot.item.job) ∥₁) at c.in-Some-slot.item.is_made);
      done = λ t. EachAt_snoc _ _ _ _ c.push_reserved.ensures.items (i.done (c.both-all.ensures.holds t).0) (c.in-Some-slot.item.is_done (c.both-all.ensures.holds t).1);
      unended = λ f. open_more (λ i. i.ended) c.args.slots.items c.loop-slot.yielded _ c.in-Some.slot c.in-Some-slot.item _ (i.slots ∙ ap (λ l. c.loop-slot.yielded ++ l) s.0) c.in-Some-slot.is i.unended (c.both-all.ensures.fails f);
      short = EachAt_snoc _ _ _ _ c.push_reserved.ensures.items i.short
          (λ l. c.in-Some-slot.item.is_short (short_here (λ i. i.short) c.args.slots.items c.loop-slot.yielded _ c.in-Some.slot c.in-Some-slot.item _ (i.slots ∙ ap (λ l. c.loop-slot.yielded ++ l) s.0) c.in-Some-slot.is i.count l));
    }

pub returns-clause-short : goal.returns-clause-short
returns-clause-short g c f =
    let i = c.loop-slot.invariant in
    one_short (λ i. i.ended) (λ i. i.short) (λ job. ∥ g.T.Turn.short job ∥₁) c.args.slots.items c.loop-slot.jobs.items (search rules) c.requires.told (i.unended f) i.short
