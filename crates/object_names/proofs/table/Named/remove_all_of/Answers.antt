use Rattle.std.proofs.Common.{◌≡◌, ◌∙◌, ap, arith, false, filter, length, not, rules, subst, sym}
use Rattle.std.specs.Map.{keys_of}
use Rattle.indexmap.proofs.CallerLemmas.{filter-RetainsPairs}
use Rattle.mms_types.specs.Order.{scope_eq}
use Rattle.object_names.specs.Index.{IsIndexOf}
use Rattle.object_names.specs.Scopes.{has_any_of}
use Rattle.object_names.proofs.Changed.{all_stay}
use Rattle.object_names.proofs.Fewer.{still_few}
use Rattle.object_names.proofs.table.Named.remove_all_of.Goals as goal

pub returns : goal.returns
returns g c =
    rw (← c.self.view_is)
    (filter-RetainsPairs _ (λ row. not (scope_eq row.0.scope c.args.scope.now)) _ (λ k v b w h call. search rules) _ _ c.retain.ensures.filtered)

pub invariant_of-self : goal.invariant_of-self
invariant_of-self g c =
    let rows = c.self.inside.rows.entries in
    let keep : c.retain.new.self.entries ≡ filter (λ row. not (scope_eq row.0.scope c.args.scope.now)) rows =
    filter-RetainsPairs _ (λ row. not (scope_eq row.0.scope c.args.scope.now)) _ (λ k v b w h call. search rules) _ _ c.retain.ensures.filtered in
    let few = still_few (λ row. not (scope_eq row.0.scope c.args.scope.now)) rows (length c.self.inside.ranks.items) c.self.invariant.1 in
    let long = ap (λ es. length es) keep in (
      subst (λ es. IsIndexOf (keys_of es) c.leave.new.places.items) (sym keep) c.leave.ensures.index,
      omega (arith, few, long, c.leave.ensures.len),
    )

pub returns-then-not-has_any_of : goal.returns-then-not-has_any_of
returns-then-not-has_any_of g c =
    let scope = c.args.scope.now in
    let none : has_any_of scope c.args.self.now ≡ false =
    sym (c.has_any_of.ensures ∙ ap (λ s. has_any_of s c.self.inside.rows.entries) c.of.ensures ∙ ap (has_any_of scope) c.self.view_is) ∙ c.if-not-has_any_of.true in
    sym (all_stay (λ row. scope_eq row.0.scope scope) c.args.self.now none)
