use Rattle.std.proofs.Common.{◌≡◌, ◌&&◌, ◌∙◌, ap, arith, refl, sym, not, Some, slice_get}
use Rattle.object_names.specs.Deletion.{deleted}
use Rattle.object_names.specs.Selected.{is_among}
use Rattle.object_names.proofs.Counted.{counted_next, counted_none, take_whole}
use Rattle.object_names.proofs.table.Named.keeps_named.Goals as goal

pub loop-place-init : goal.loop-place-init
loop-place-init g c = record {
  none = counted_none (λ has x. has && not (g.T.Deletable.is_fixed x)) (λ x. refl) c.args.self.now;
  all = c.len-place-end.ensures.len;
}

pub loop-place-preserved : goal.loop-place-preserved
loop-place-preserved g c =
    let rows = c.args.self.now in
    let keys = c.args.names.now.keys in
    let at : slice_get keys c.loop-place.place ≡ Some c.in-Some.name.now = sym c.in-Some.ensures.key in
    let next = counted_next (λ has x. has && not (g.T.Deletable.is_fixed x)) (λ x. refl) keys c.loop-place.place c.in-Some.name.now at c.len-place-end.ensures.unique rows c.each_name_stands_once.ensures in
    record {
      none = omega (arith, next, c.loop-place.invariant.none, c.count_one.ensures.deleted);
      all = c.loop-place.invariant.all;
    }

pub returns : goal.returns
returns g c = λ yes.
    sym (ap (λ keys. deleted g.T.Deletable.is_fixed (is_among keys) c.args.self.now) (take_whole c.args.names.now.keys c.loop-place.place (omega (arith, c.loop-place-test.false, c.loop-place.invariant.all))))
    ∙ c.loop-place.invariant.none
