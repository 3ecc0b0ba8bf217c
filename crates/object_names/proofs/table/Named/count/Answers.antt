use Rattle.std.proofs.Common.{◌≡◌, ◌∙◌, ◌&&◌, ap, false, length, not, sym}
use Rattle.mms_types.specs.Order.{scope_eq}
use Rattle.object_names.specs.Borrowed.{scope_meant}
use Rattle.object_names.specs.Deletion.{deleted, goes, matched}
use Rattle.object_names.specs.Scopes.{has_any_of}
use Rattle.object_names.specs.Selected.{selected}
use Rattle.object_names.proofs.Changed.{none_of_scope}
use Rattle.object_names.proofs.table.Named.count.Goals as goal

pub returns-then-not-has_any_of-clause-matched : goal.returns-then-not-has_any_of-clause-matched
returns-then-not-has_any_of-clause-matched g c =
    let scope = scope_meant c.in-Scope.scope in
    let none : has_any_of scope c.args.self.now ≡ false = ap (has_any_of scope) (sym c.self.view_is) ∙ sym c.has_any_of.ensures ∙ c.if-not-has_any_of.true in
    sym (ap (λ s. matched (selected s) c.args.self.now) c.in-Scope.is
    ∙ ap (λ rows. length rows) (none_of_scope scope (λ row. scope_eq scope row.0.scope) c.args.self.now (λ row e. e) none))

pub returns-then-not-has_any_of-clause-deleted : goal.returns-then-not-has_any_of-clause-deleted
returns-then-not-has_any_of-clause-deleted g c =
    let scope = scope_meant c.in-Scope.scope in
    let none : has_any_of scope c.args.self.now ≡ false = ap (has_any_of scope) (sym c.self.view_is) ∙ sym c.has_any_of.ensures ∙ c.if-not-has_any_of.true in
    sym (ap (λ s. deleted g.T.Deletable.is_fixed (selected s) c.args.self.now) c.in-Scope.is
    ∙ ap (λ rows. length rows) (none_of_scope scope (goes g.T.Deletable.is_fixed (λ key. scope_eq scope key.scope)) c.args.self.now
    (λ row e. ap (λ b. b && not (g.T.Deletable.is_fixed row.1)) e) none))
