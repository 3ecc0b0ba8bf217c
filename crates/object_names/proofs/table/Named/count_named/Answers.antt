use Rattle.std.proofs.Common.{◌≡◌, ◌+◌, ◌&&◌, ◌∙◌, ap, arith, refl, sym, not, Some, slice_get, take}
use Rattle.object_names.specs.Deletion.{deleted, matched}
use Rattle.object_names.specs.Selected.{is_among}
use Rattle.object_names.proofs.Counted.{counted_next, counted_none, take_whole}
use Rattle.object_names.proofs.Fewer.{still_few}
use Rattle.object_names.proofs.table.Named.count_named.Goals as goal

pub loop-place-init : goal.loop-place-init
loop-place-init g c = record {
  matched = sym (counted_none (λ has x. has) (λ x. refl) c.args.self.now);
  deleted = sym (counted_none (λ has x. has && not (g.T.Deletable.is_fixed x)) (λ x. refl) c.args.self.now);
  all = c.len-place-end.ensures.len;
}

pub loop-place-preserved : goal.loop-place-preserved
loop-place-preserved g c =
    let rows = c.args.self.now in
    let keys = c.args.names.now.keys in
    let at : slice_get keys c.loop-place.place ≡ Some c.in-Some.name.now = sym c.in-Some.ensures.key in
    let once = c.each_name_stands_once.ensures in
    record {
      matched = ap (λ n. n + c.count_one-here.result.matched) c.loop-place.invariant.matched
          ∙ ap (λ n. matched (is_among (take c.loop-place.place keys)) rows + n) c.count_one-here.ensures.matched
          ∙ sym (counted_next (λ has x. has) (λ x. refl) keys c.loop-place.place c.in-Some.name.now at c.len-place-end.ensures.unique rows once);
      deleted = ap (λ n. n + c.count_one-here.result.deleted) c.loop-place.invariant.deleted
          ∙ ap (λ n. deleted g.T.Deletable.is_fixed (is_among (take c.loop-place.place keys)) rows + n) c.count_one-here.ensures.deleted
          ∙ sym (counted_next (λ has x. has && not (g.T.Deletable.is_fixed x)) (λ x. refl) keys c.loop-place.place c.in-Some.name.now at c.len-place-end.ensures.unique rows once);
      all = c.loop-place.invariant.all;
    }

pub overflow_add-counts : goal.overflow_add-counts
overflow_add-counts g c =
    let rows = c.args.self.now in
    let keys = c.args.names.now.keys in
    let at : slice_get keys c.loop-place.place ≡ Some c.in-Some.name.now = sym c.in-Some.ensures.key in
    let next = counted_next (λ has x. has) (λ x. refl) keys c.loop-place.place c.in-Some.name.now at c.len-place-end.ensures.unique rows c.each_name_stands_once.ensures in
    let few = still_few (λ row. is_among (take (c.loop-place.place + 1) keys) row.0) rows 4294967295 c.requires in
    omega (arith, next, few, c.loop-place.invariant.matched, c.count_one-here.ensures.matched)

pub overflow_add-counts-in-loop-place : goal.overflow_add-counts-in-loop-place
overflow_add-counts-in-loop-place g c =
    let rows = c.args.self.now in
    let keys = c.args.names.now.keys in
    let at : slice_get keys c.loop-place.place ≡ Some c.in-Some.name.now = sym c.in-Some.ensures.key in
    let next = counted_next (λ has x. has && not (g.T.Deletable.is_fixed x)) (λ x. refl) keys c.loop-place.place c.in-Some.name.now at c.len-place-end.ensures.unique rows c.each_name_stands_once.ensures in
    let few = still_few (λ row. is_among (take (c.loop-place.place + 1) keys) row.0 && not (g.T.Deletable.is_fixed row.1)) rows 4294967295 c.requires in
    omega (arith, next, few, c.loop-place.invariant.deleted, c.count_one-here.ensures.deleted)

pub returns-clause-matched : goal.returns-clause-matched
returns-clause-matched g c =
    c.loop-place.invariant.matched
    ∙ ap (λ keys. matched (is_among keys) c.args.self.now) (take_whole c.args.names.now.keys c.loop-place.place (omega (arith, c.loop-place-test.false, c.loop-place.invariant.all)))

pub returns-clause-deleted : goal.returns-clause-deleted
returns-clause-deleted g c =
    c.loop-place.invariant.deleted
    ∙ ap (λ keys. deleted g.T.Deletable.is_fixed (is_among keys) c.args.self.now) (take_whole c.args.names.now.keys c.loop-place.place (omega (arith, c.loop-place-test.false, c.loop-place.invariant.all)))
