use Rattle.std.proofs.Common.{◌≡◌, ◌++◌, ◌∷◌, [], ◌+◌, ℕ, List, length, sym, ◌∙◌, ap, subst, refl, append_assoc, arith}
use Rattle.parted_state.specs.Lifted.{told_all}
use Rattle.cell_client.specs.declared.told.ClientTold.{ClientTold}
use Rattle.step_parts.specs.Partition.{cell}
use Rattle.cell_client.specs.Telling.{effects_told}
use Rattle.step_apply.specs.Rooms.{without_rooms}
use Rattle.step_apply.proofs.ToldLaws.{Tells, tells_first, tells_next, tells_all, room_there}
use Rattle.step_apply.proofs.telling.tell_all.Goals as goal

pub loop-client-init : goal.loop-client-init
loop-client-init c =
    let items = c.into_iter-client-iterator.ensures.into_iter_gives.0 in
    let len = c.into_iter-client-iterator.ensures.into_iter_gives.1 in
    let same = ap (λ (l : List (ℕ × ClientTold)). length l) items in
    let many = c.args.told.ok.0 in
    record {
      all = sym items;
      many = omega (arith, len, same, many);
      tells =
          subst (λ (l : List (ℕ × ClientTold)). Tells c.args.clients (without_rooms (c.args.clients + 1) c.args.held.now) c.args.held.now [] l) (sym items)
          (tells_first c.args.clients c.args.held.now c.args.told.items c.requires.rooms c.requires.are);
    }

pub tell_one-requires-clause-room : goal.tell_one-requires-clause-room
tell_one-requires-clause-room c some few =
    room_there c.args.clients (without_rooms (c.args.clients + 1) c.args.held.now) c.loop-client.held c.loop-client.yielded c.next.new.self.rest.items c.in-Some.client c.in-Some.told
    (subst (λ (l : List (ℕ × ClientTold)). Tells c.args.clients (without_rooms (c.args.clients + 1) c.args.held.now) c.loop-client.held c.loop-client.yielded l) c.in-Some.ensures.steps.0
    c.loop-client.invariant.tells)
    some few

pub loop-client-preserved : goal.loop-client-preserved
loop-client-preserved c = record {
  all =
      c.loop-client.invariant.all ∙ ap (λ (l : List (ℕ × ClientTold)). c.loop-client.yielded ++ l) c.in-Some.ensures.steps.0
      ∙ sym (append_assoc c.loop-client.yielded ((c.in-Some.client, c.in-Some.told) ∷ []) c.next.new.self.rest.items);
  many =
      let same = ap (λ (l : List (ℕ × ClientTold)). length l) c.in-Some.ensures.steps.0 in
      let before = c.loop-client.invariant.many in
      let fewer = c.in-Some.ensures.steps.1 in
      omega (arith, same, before, fewer);
  tells =
      tells_next c.args.clients (without_rooms (c.args.clients + 1) c.args.held.now) c.loop-client.held c.tell_one.new.held c.loop-client.yielded c.next.new.self.rest.items
      c.in-Some.client c.in-Some.told
      (subst (λ (l : List (ℕ × ClientTold)). Tells c.args.clients (without_rooms (c.args.clients + 1) c.args.held.now) c.loop-client.held c.loop-client.yielded l) c.in-Some.ensures.steps.0
      c.loop-client.invariant.tells)
      c.tell_one.ensures.one c.tell_one.ensures.nobody;
}

pub returns : goal.returns
returns c =
    let none = c.in-None.ensures.steps.0 in
    let many = c.loop-client.invariant.many in
    let left : c.loop-client.client-iterator.rest.items ≡ [] = nothing_left c.loop-client.client-iterator.rest.items (sym many ∙ none) in
    let all : c.args.told.items ≡ c.loop-client.yielded =
    c.loop-client.invariant.all ∙ ap (λ (l : List (ℕ × ClientTold)). c.loop-client.yielded ++ l) left ∙ append_nil c.loop-client.yielded in
    tells_all c.args.clients (without_rooms (c.args.clients + 1) c.args.held.now) c.loop-client.held c.loop-client.yielded
    (subst (λ (l : List (ℕ × ClientTold)). Tells c.args.clients (without_rooms (c.args.clients + 1) c.args.held.now) c.loop-client.held c.loop-client.yielded l) left
    c.loop-client.invariant.tells)
    ∙ ap (λ (l : List (ℕ × ClientTold)). told_all cell c.args.clients (effects_told l) (without_rooms (c.args.clients + 1) c.args.held.now)) (sym all)
  where
    nothing_left : (l : List (ℕ × ClientTold)) → length l ≡ 0 → l ≡ []
    nothing_left [] e = refl
    nothing_left (x ∷ l) e = absurd (omega (arith, e))

    append_nil : (l : List (ℕ × ClientTold)) → l ++ [] ≡ l
    append_nil [] = refl
    append_nil (x ∷ l) = ap (λ (r : List (ℕ × ClientTold)). x ∷ r) (append_nil l)
