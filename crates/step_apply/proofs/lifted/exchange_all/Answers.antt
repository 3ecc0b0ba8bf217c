use Rattle.std.proofs.Common.{ℕ, ap, ◌∙◌}
use Rattle.part_table.specs.Held.{held_at}
use Rattle.step_parts.specs.declared.part.Part.TheVariants.{Semaphores}
use Rattle.step_parts.specs.Partition.{semaphores_or}
use Rattle.step_apply.specs.Lifting.{laid_at}
use Rattle.step_apply.proofs.LaidTables.{exchanged, lifted, seven}
use Rattle.step_apply.proofs.lifted.exchange_all.Goals as goal

pub returns-clause-tables : goal.returns-clause-tables
returns-clause-tables c empty =
    lifted (seven c.tables.inside.clock c.tables.inside.variables c.tables.inside.domains c.tables.inside.programs c.tables.inside.events c.tables.inside.journals c.tables.inside.semaphores)
    c.args.clients c.args.held.now c.exchange.new.held c.exchange-2.new.held c.exchange-3.new.held c.exchange-4.new.held c.exchange-5.new.held c.exchange-6.new.held
    c.exchange.ensures.part c.exchange-2.ensures.part c.exchange-3.ensures.part c.exchange-4.ensures.part c.exchange-5.ensures.part c.exchange-6.ensures.part
    c.exchange.new.own c.exchange-2.new.own c.exchange-3.new.own c.exchange-4.new.own c.exchange-5.new.own c.exchange-6.new.own c.exchange-7.new.own
    (c.tables.view_is ∙ empty)
    c.exchange.ensures.own c.exchange-2.ensures.own c.exchange-3.ensures.own c.exchange-4.ensures.own c.exchange-5.ensures.own c.exchange-6.ensures.own
    (c.exchange-7.ensures.own ∙ ap (λ (place : ℕ). semaphores_or c.tables.inside.semaphores (held_at c.exchange-6.new.held place)) (c.from-place.ensures ∙ c.semaphores.ensures))

pub returns-clause-parts : goal.returns-clause-parts
returns-clause-parts c =
    exchanged (seven c.tables.inside.clock c.tables.inside.variables c.tables.inside.domains c.tables.inside.programs c.tables.inside.events c.tables.inside.journals c.tables.inside.semaphores)
    c.args.clients c.args.held.now c.exchange.new.held c.exchange-2.new.held c.exchange-3.new.held c.exchange-4.new.held c.exchange-5.new.held c.exchange-6.new.held
    c.exchange.ensures.part c.exchange-2.ensures.part c.exchange-3.ensures.part c.exchange-4.ensures.part c.exchange-5.ensures.part c.exchange-6.ensures.part
    c.args.tables.now c.exchange-7.new.held c.tables.view_is c.requires.many
    (c.exchange-7.ensures.part ∙ ap (laid_at (Semaphores c.tables.inside.semaphores) c.exchange-6.new.held) (c.from-place.ensures ∙ c.semaphores.ensures))
