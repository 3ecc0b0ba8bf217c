use Rattle.std.proofs.Common.{◌≡◌, nat_eq, Bool, List, [], ◌++◌, map, inl, inr, ap, subst, sym, ◌∙◌, append-nil}
use Rattle.std.specs.List.{IsDistinct, zip}
use Rattle.std.specs.Map.{keys_of}
use Rattle.mms_types.specs.Datum.{Datum}
use Rattle.mms_types.specs.declared.variable.Spec.{Spec}
use Rattle.variables.specs.Access.{flagged, flags_of, guards, result_of, writes}
use Rattle.variables.specs.NewValues.{with_new_values}
use Rattle.variables.specs.Rows.{Rows}
use Rattle.variables.specs.declared.rows.NewValue.{NewValue}
use Rattle.variables.proofs.NewValues.{all_written, asked, flags-asked, news}
use Rattle.variables.proofs.Writing.{no_first, no_second, results_are}
use Rattle.variables.proofs.vars.Vars.results.Goals as goal

pub returns-clause-told : goal.returns-clause-told
returns-clause-told g c =
    let a = c.loop-spec.spec-iterator.a.rest.now in
    let b = c.loop-spec.spec-iterator.b.rest.now in
    let owns = g.O.OwnsGuards.owns c.args.by.now in
    let none : zip a b ≡ [] = elim c.in-None.ensures.steps [ inl h ↦ no_first a b h.1.0 | inr h ↦ no_second a b h.1.0 ] in
    sym (append-nil c.loop-spec.results)
    ∙ ap (λ (left : List (Spec × Datum)). c.loop-spec.results ++ map (result_of c.args.client c.args.self.now) (map (asked owns c.args.client c.args.self.now) left)) (sym none)
    ∙ c.loop-spec.invariant.0
    ∙ ap (map (result_of c.args.client c.args.self.now)) (sym (flags-asked owns c.args.client c.args.self.now c.args.variables.now c.args.values.now))
    ∙ sym (results_are c.args.client (flagged (flags_of owns (guards c.args.client c.args.variables.now c.args.self.now)) (zip c.args.variables.now c.args.values.now)) c.args.self.now)

pub returns-clause-values : goal.returns-clause-values
returns-clause-values g c =
    let a = c.loop-spec.spec-iterator.a.rest.now in
    let b = c.loop-spec.spec-iterator.b.rest.now in
    let owns = g.O.OwnsGuards.owns c.args.by.now in
    let rows = c.args.self.now in
    let none : zip a b ≡ [] = elim c.in-None.ensures.steps [ inl h ↦ no_first a b h.1.0 | inr h ↦ no_second a b h.1.0 ] in
    let distinct : IsDistinct nat_eq (keys_of rows.cells) = subst (λ (r : Rows). IsDistinct nat_eq (keys_of r.cells)) c.self.view_is c.len-distinct.ensures.unique in
    let all : c.loop-spec.new ≡ news c.args.client rows (map (asked owns c.args.client rows) (zip c.args.variables.now c.args.values.now)) =
    sym (append-nil c.loop-spec.new)
    ∙ ap (λ (left : List (Spec × Datum)). c.loop-spec.new ++ news c.args.client rows (map (asked owns c.args.client rows) left)) (sym none)
    ∙ c.loop-spec.invariant.1 in
    ap (λ (l : List NewValue). with_new_values l rows) all
    ∙ all_written c.args.client (map (asked owns c.args.client rows) (zip c.args.variables.now c.args.values.now)) rows distinct
    ∙ ap (λ (xs : List (Bool × (Spec × Datum))). (writes c.args.client xs rows).0) (sym (flags-asked owns c.args.client rows c.args.variables.now c.args.values.now))
