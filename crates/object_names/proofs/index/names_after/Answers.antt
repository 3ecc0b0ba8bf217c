use Rattle.std.proofs.Common.{◌≡◌, ◌∙◌, ◌+◌, List, ◌∷◌, ◌++◌, [], ap, arith, drop, false, length, map, subst, suc, sym, true, add-one}
use Rattle.std.specs.Map.{keys_of}
use Rattle.std.specs.Option.{option_copied}
use Rattle.std.proofs.lemmas.List.{length-map}
use Rattle.mms_types.specs.KeyLaws.{scopes_equal}
use Rattle.mms_types.specs.Order.{scope_eq}
use Rattle.object_names.specs.Borrowed.{scope_meant}
use Rattle.object_names.specs.Index.{key_at}
use Rattle.object_names.specs.Listing.{names_after}
use Rattle.object_names.proofs.KeysInOrder.{left_first, left_none, small_place}
use Rattle.object_names.proofs.Walked.{IsWalked, begins, ends, fills, goes_on, leaves}
use Rattle.object_names.proofs.index.names_after.Goals as goal

pub loop-at-init : goal.loop-at-init
loop-at-init g c = record {
  walked = begins (scope_meant c.args.scope) (option_copied c.args.after) c.args.rows.now.entries c.args.places.now c.first_place-first.result c.new-list.result c.args.most
      c.new-list.ensures c.requires c.first_place-first.ensures.split;
  end = omega arith;
}

pub unreachable-requires : goal.unreachable-requires
unreachable-requires g c =
    let there = c.in_default.ensures.found.1 (small_place c.args.rows.now.entries c.args.places.now c.loop-at.at 0 c.requires c.loop-at-test.true) in cc there

pub returns-then-not-is-clause-list : goal.returns-then-not-is-clause-list
returns-then-not-is-clause-list g c =
    let scope = scope_meant c.args.scope in
    let key = c.in-Some.key.now in
    let first = left_first c.args.rows.now.entries c.args.places.now c.loop-at.at 0 key c.in-Some.field-0-1.now c.loop-at-test.true (sym c.in-Some.ensures.entry) in
    let other : scope_eq key.scope scope ≡ false = scopes_equal.symm key.scope scope ∙ sym c.is.ensures ∙ c.if-not-is.true in
    (leaves _ scope (option_copied c.args.after) c.args.most _ c.loop-at.list key _ c.loop-at.invariant.walked first other).0

pub returns-then-not-is-clause-more : goal.returns-then-not-is-clause-more
returns-then-not-is-clause-more g c =
    let scope = scope_meant c.args.scope in
    let key = c.in-Some.key.now in
    let first = left_first c.args.rows.now.entries c.args.places.now c.loop-at.at 0 key c.in-Some.field-0-1.now c.loop-at-test.true (sym c.in-Some.ensures.entry) in
    let other : scope_eq key.scope scope ≡ false = scopes_equal.symm key.scope scope ∙ sym c.is.ensures ∙ c.if-not-is.true in
    (leaves _ scope (option_copied c.args.after) c.args.most _ c.loop-at.list key _ c.loop-at.invariant.walked first other).1

pub returns-then-len-most-clause-list : goal.returns-then-len-most-clause-list
returns-then-len-most-clause-list g c =
    let scope = scope_meant c.args.scope in
    let key = c.in-Some.key.now in
    let first = left_first c.args.rows.now.entries c.args.places.now c.loop-at.at 0 key c.in-Some.field-0-1.now c.loop-at-test.true (sym c.in-Some.ensures.entry) in
    let own : scope_eq key.scope scope ≡ true = scopes_equal.symm key.scope scope ∙ sym c.is.ensures ∙ c.if-not-is.false in
    (fills _ scope (option_copied c.args.after) c.args.most _ c.loop-at.list key _ c.loop-at.invariant.walked first own (omega (arith, c.if-len-most.true, c.len.ensures))).0

pub returns-then-len-most-clause-more : goal.returns-then-len-most-clause-more
returns-then-len-most-clause-more g c =
    let scope = scope_meant c.args.scope in
    let key = c.in-Some.key.now in
    let first = left_first c.args.rows.now.entries c.args.places.now c.loop-at.at 0 key c.in-Some.field-0-1.now c.loop-at-test.true (sym c.in-Some.ensures.entry) in
    let own : scope_eq key.scope scope ≡ true = scopes_equal.symm key.scope scope ∙ sym c.is.ensures ∙ c.if-not-is.false in
    (fills _ scope (option_copied c.args.after) c.args.most _ c.loop-at.list key _ c.loop-at.invariant.walked first own (omega (arith, c.if-len-most.true, c.len.ensures))).1

pub loop-at-preserved : goal.loop-at-preserved
loop-at-preserved g c =
    let scope = scope_meant c.args.scope in
    let after = option_copied c.args.after in
    let key = c.in-Some.key.now in
    let keys = map (key_at (keys_of c.args.rows.now.entries)) c.args.places.now in
    let first = left_first c.args.rows.now.entries c.args.places.now c.loop-at.at 0 key c.in-Some.field-0-1.now c.loop-at-test.true (sym c.in-Some.ensures.entry) in
    let own : scope_eq key.scope scope ≡ true = scopes_equal.symm key.scope scope ∙ sym c.is.ensures ∙ c.if-not-is.false in
    let next : suc c.loop-at.at ≡ c.loop-at.at + 1 = omega arith in
    record {
      walked = subst (λ n. IsWalked (names_after scope after c.args.rows.now.entries) scope after (drop n keys) c.push.new.self c.args.most) next
          (goes_on _ scope after c.args.most _ c.loop-at.list key (drop (suc c.loop-at.at) keys) c.push.new.self c.loop-at.invariant.walked first own (omega (arith, c.if-len-most.false, c.len.ensures))
          (c.in_ok-push.ensures.appended ∙ ap (λ name. c.loop-at.list ++ name ∷ []) c.in_ok-copy.ensures));
      end = c.loop-at.invariant.end;
    }

pub returns-clause-list : goal.returns-clause-list
returns-clause-list g c =
    let long = length-map c.args.places.now (key_at (keys_of c.args.rows.now.entries)) in
    (ends _ (scope_meant c.args.scope) (option_copied c.args.after) c.args.most _ c.loop-at.list c.loop-at.invariant.walked
    (left_none c.loop-at.at _ (omega (arith, long, c.loop-at-test.false)))).0

pub returns-clause-more : goal.returns-clause-more
returns-clause-more g c =
    let long = length-map c.args.places.now (key_at (keys_of c.args.rows.now.entries)) in
    (ends _ (scope_meant c.args.scope) (option_copied c.args.after) c.args.most _ c.loop-at.list c.loop-at.invariant.walked
    (left_none c.loop-at.at _ (omega (arith, long, c.loop-at-test.false)))).1
