use Rattle.std.proofs.Common.{◌≡◌, ap, arith, filter, length, not, rules, subst, sym}
use Rattle.std.specs.Map.{keys_of}
use Rattle.indexmap.proofs.CallerLemmas.{filter-RetainsPairs}
use Rattle.object_names.specs.Deletion.{goes}
use Rattle.object_names.specs.Index.{IsIndexOf}
use Rattle.object_names.specs.Selected.{selected}
use Rattle.object_names.proofs.Fewer.{still_few}
use Rattle.object_names.proofs.table.Named.take_out.Goals as goal

pub returns : goal.returns
returns g c =
    rw (← c.self.view_is)
    (filter-RetainsPairs _ (λ row. not (goes g.T.Deletable.is_fixed (selected c.args.selection.now) row)) _ (λ k v b w h call. search rules) _ _ c.retain.ensures.filtered)

pub invariant_of-self : goal.invariant_of-self
invariant_of-self g c =
    let rows = c.self.inside.rows.entries in
    let keep : c.retain.new.self.entries ≡ filter (λ row. not (goes g.T.Deletable.is_fixed (selected c.args.selection.now) row)) rows =
    filter-RetainsPairs _ (λ row. not (goes g.T.Deletable.is_fixed (selected c.args.selection.now) row)) _ (λ k v b w h call. search rules) _ _ c.retain.ensures.filtered in
    let few = still_few (λ row. not (goes g.T.Deletable.is_fixed (selected c.args.selection.now) row)) rows (length c.self.inside.ranks.items) c.self.invariant.1 in
    let long = ap (λ es. length es) keep in (
      subst (λ es. IsIndexOf (keys_of es) c.leave.new.places.items) (sym keep) c.leave.ensures.index,
      omega (arith, few, long, c.leave.ensures.len),
    )
