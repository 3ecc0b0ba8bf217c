use Rattle.std.specs.Prelude.{◌≡◌, is_some}
use Rattle.std.specs.List.{list_any}
use Rattle.std.proofs.Common.{subst, sym, ◌∙◌}
use Rattle.mms_types.specs.declared.area.VariableRequest.{VariableRequest}
use Rattle.serve_variables.proofs.GuardLaws.{guarded}
use Rattle.serve_variables.specs.Variables.{guards_asked}
use Rattle.serve_variables.proofs.guarding.is_guarded.Goals as goal

pub returns-in-Write : goal.returns-in-Write
returns-in-Write c =
    subst (λ (r : VariableRequest). c.is_guarded.result ≡ list_any is_some (guards_asked r c.args.client c.args.variables.now)) (sym c.in-Write.is)
    (c.is_guarded.ensures ∙ sym (guarded c.args.client c.in-Write.asked.now c.args.variables.now))
