use Rattle.std.proofs.Common.{◌∙◌, ◌++◌, ap, arith, length, map, min}
use Rattle.std.proofs.lemmas.List.{length-append}
use Rattle.std.specs.List.{concat}
use Rattle.domain_load.specs.Kept.{filled, room}
use Rattle.domain_load.proofs.BlockLemmas.{appended_to}
use Rattle.domain_load.proofs.store.Store.append.Goals as goal

pub unreachable-requires : goal.unreachable-requires
unreachable-requires c =
    let ok = c.in_ok-reserve.ensures.ok in
    let cap = c.in_ok-fill.ensures.capacity in
    let len = c.in_ok-fill.ensures.len in
    let fresh = c.len.ensures in
    let bad = c.in_default.ensures.succeeds (omega (arith, ok, cap, len, fresh)) in
    cc bad

pub invariant_of-self-2 : goal.invariant_of-self-2
invariant_of-self-2 c =
    let octets = c.args.octets.now in
    let kept = c.self.inside.blocks.items in
    let room_is = c.room_in-room.ensures ∙ ap (λ xs. room (map (λ block. block.items) xs)) c.deref.ensures.value in
    let done =
    appended_to (λ block. block.items) kept c.fill.new.blocks.items c.in_ok-fresh.fresh.items c.append.new.self.items octets c.split_at.result.0.now
    c.split_at.result.1.now c.min.result c.in-Ok.ensures.items
    (c.in_ok-fill.ensures.filled ∙ ap (λ xs. filled c.split_at.result.0.now (map (λ block. block.items) xs)) c.in_ok-reserve.ensures.items)
    c.self.invariant.0 (c.min.ensures ∙ ap (λ r. min r (length octets)) room_is) c.split_at.ensures.front c.split_at.ensures.back
    c.in_ok-fresh.ensures.joined c.in_ok-fresh.ensures.blocks c.in_ok-fresh.ensures.none in
    let long = ap length done.1 in
    let more = length-append (concat (map (λ block. block.items) kept)) octets in
    (done.0, omega (arith, long, more, c.self.invariant.1))

pub returns-clause-appended : goal.returns-clause-appended
returns-clause-appended c =
    let octets = c.args.octets.now in
    let room_is = c.room_in-room.ensures ∙ ap (λ xs. room (map (λ block. block.items) xs)) c.deref.ensures.value in
    let done =
    appended_to (λ block. block.items) c.self.inside.blocks.items c.fill.new.blocks.items c.in_ok-fresh.fresh.items c.append.new.self.items octets c.split_at.result.0.now
    c.split_at.result.1.now c.min.result c.in-Ok.ensures.items
    (c.in_ok-fill.ensures.filled ∙ ap (λ xs. filled c.split_at.result.0.now (map (λ block. block.items) xs)) c.in_ok-reserve.ensures.items)
    c.self.invariant.0 (c.min.ensures ∙ ap (λ r. min r (length octets)) room_is) c.split_at.ensures.front c.split_at.ensures.back
    c.in_ok-fresh.ensures.joined c.in_ok-fresh.ensures.blocks c.in_ok-fresh.ensures.none in
    done.1 ∙ ap (λ xs. xs ++ octets) c.self.view_is
