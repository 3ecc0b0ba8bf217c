use Rattle.std.proofs.Common.{◌≤◌, length, subst, sym}
use Rattle.object_names.specs.Index.{IsIndexOf}
use Rattle.object_names.proofs.Changed.{count_stays, keys_stay}
use Rattle.object_names.proofs.table.Named.at_mut.Goals as goal

pub invariant_of-self-lent : goal.invariant_of-self-lent
invariant_of-self-lent g c = λ r. (
  λ w. (
    subst (λ keys. IsIndexOf keys c.self.inside.places.items) (sym (keys_stay c.self.inside.rows.entries c.args.place w)) c.self.invariant.0,
    subst (λ n. n ≤ length c.self.inside.ranks.items) (sym (count_stays c.self.inside.rows.entries c.args.place w)) c.self.invariant.1,
  ),
  c.self.invariant,
)
