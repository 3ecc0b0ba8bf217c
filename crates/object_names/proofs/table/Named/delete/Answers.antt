use Rattle.std.proofs.Common.{◌≡◌, ◌∙◌, ◌&&◌, ap, false, length, not, sym}
use Rattle.mms_types.specs.Order.{scope_eq}
use Rattle.object_names.specs.Borrowed.{scope_meant}
use Rattle.object_names.specs.Deletion.{goes, left}
use Rattle.object_names.specs.Selected.{is_among, selected}
use Rattle.object_names.specs.Scopes.{has_any_of}
use Rattle.object_names.proofs.Changed.{none_of_scope}
use Rattle.object_names.proofs.Counted.{none_goes}
use Rattle.object_names.proofs.table.Named.delete.Goals as goal

pub returns-then-keeps_named : goal.returns-then-keeps_named
returns-then-keeps_named g c =
    sym
    (ap (λ s. left g.T.Deletable.is_fixed (selected s) c.args.self.now) c.in-Names.is
    ∙ none_goes (goes g.T.Deletable.is_fixed (is_among c.in-Names.names.keys)) c.args.self.now (c.keeps_named.ensures c.if-keeps_named.true))

pub returns-then-not-has_any_of : goal.returns-then-not-has_any_of
returns-then-not-has_any_of g c =
    let scope = scope_meant c.in-Scope.scope in
    let none : has_any_of scope c.args.self.now ≡ false = ap (has_any_of scope) (sym c.self-2.view_is) ∙ sym c.has_any_of.ensures ∙ c.if-not-has_any_of.true in
    sym
    (ap (λ s. left g.T.Deletable.is_fixed (selected s) c.args.self.now) c.in-Scope.is
    ∙ none_goes (goes g.T.Deletable.is_fixed (λ key. scope_eq scope key.scope)) c.args.self.now
    (ap (λ rows. length rows) (none_of_scope scope (goes g.T.Deletable.is_fixed (λ key. scope_eq scope key.scope)) c.args.self.now
    (λ row e. ap (λ b. b && not (g.T.Deletable.is_fixed row.1)) e) none)))
