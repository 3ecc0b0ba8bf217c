use Rattle.std.proofs.Common.{◌∙◌, ◌∷◌, [], ℕ, None, Option, Some, ap, sym}
use Rattle.cell_client.specs.Facts.{Truth}
use Rattle.serve_events.specs.Events.{request_in}
use Rattle.serve_events.specs.declared.tables.EventTables.{EventTables}
use Rattle.variable_services.specs.declared.tables.VariableTables.{VariableTables}
use Rattle.cell_services.specs.Serving.{saying}
use Rattle.cell_services.proofs.AreaLaws.{events_truth}
use Rattle.cell_services.proofs.others.ToldTables.is_true.Goals as goal

pub returns-in-None : goal.returns-in-None
returns-in-None c t row shown same =
    sym
    (events_truth c.args.asked t row None
    (ap (λ (u : EventTables). (request_in c.args.asked).more u row) shown.events ∙ c.cell_watched.ensures row same ∙ ap (λ (o : Option ℕ). Truth o ∷ []) c.in-None.is))

pub returns-in-Some : goal.returns-in-Some
returns-in-Some c t row shown same =
    c.says_true.ensures ∙ ap (λ (v : VariableTables). saying v c.in-Some.cell) (sym shown.variables)
    ∙ sym
    (events_truth c.args.asked t row (Some c.in-Some.cell)
    (ap (λ (u : EventTables). (request_in c.args.asked).more u row) shown.events ∙ c.cell_watched.ensures row same ∙ ap (λ (o : Option ℕ). Truth o ∷ []) c.in-Some.is))
