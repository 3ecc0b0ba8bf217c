use Rattle.std.proofs.Common.{◌≡◌, ◌∙◌, ap, arith, filter, is_some, length, not, subst, sym}
use Rattle.std.specs.Map.{keys_of, lookup}
use Rattle.mms_types.specs.Order.{key_eq}
use Rattle.object_names.specs.Index.{IsIndexOf}
use Rattle.object_names.proofs.Changed.{none_out, others}
use Rattle.object_names.proofs.Fewer.{still_few}
use Rattle.object_names.proofs.table.Named.remove.Goals as goal

pub returns-then-not-contains_key-clause-rows : goal.returns-then-not-contains_key-clause-rows
returns-then-not-contains_key-clause-rows g c =
    none_out c.args.key.now c.args.self.now
    (ap (λ es. is_some (lookup (key_eq c.args.key.now) es)) (sym c.self.view_is) ∙ sym c.contains_key.ensures ∙ c.if-not-contains_key.true)

pub invariant_of-self : goal.invariant_of-self
invariant_of-self g c =
    let rows = c.self.inside.rows.entries in
    let keep : c.shift_remove.new.self.entries ≡ filter (λ row. not (key_eq c.args.key.now row.0)) rows =
    c.shift_remove.ensures.entries ∙ others c.args.key.now rows c.len-distinct.ensures.unique in
    let few = still_few (λ row. not (key_eq c.args.key.now row.0)) rows (length c.self.inside.ranks.items) c.self.invariant.1 in
    let long = ap (λ es. length es) keep in (
      subst (λ es. IsIndexOf (keys_of es) c.leave.new.places.items) (sym keep) c.leave.ensures.index,
      omega (arith, few, long, c.leave.ensures.len),
    )
