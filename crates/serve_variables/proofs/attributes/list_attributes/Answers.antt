use Rattle.std.specs.Prelude.{refl}
use Rattle.serve_variables.specs.Variables.{list_attributes}
use Rattle.serve_variables.proofs.InLaws.{answered}
use Rattle.serve_variables.proofs.attributes.list_attributes.Goals as goal

pub returns-clause-served : goal.returns-clause-served
returns-clause-served c = λ facts.
    answered (list_attributes c.args.asked.now) facts c.args.own.now.row c.args.invoke c.args.tables.now c.settle.new.self refl refl (c.in_ok-_answered.ensures.told _ _ c.list_attributes_said-said.ensures)
