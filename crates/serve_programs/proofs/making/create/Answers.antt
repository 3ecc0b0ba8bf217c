use Rattle.std.proofs.Common.{ap, sym, ◌∙◌}
use Rattle.domain_load.specs.Domains.{Rows}
use Rattle.program_inv.specs.Programs.{create_cause}
use Rattle.serve_programs.specs.Programs.{create}
use Rattle.serve_programs.proofs.MadeLaws.{may_have}
use Rattle.serve_programs.proofs.ServedLaws.{refused_so}
use Rattle.serve_programs.proofs.making.create.Goals as goal

pub create_new-requires-clause-has : goal.create_new-requires-clause-has
create_new-requires-clause-has c =
    may_have c.args.domains.now.domains c.args.programs.now c.requires.used c.args.asked.now
    (ap (λ (d : Rows). create_cause c.args.asked.now d c.args.programs.now) (sym c.domains.ensures.rows) ∙ sym c.create_cause.ensures ∙ c.in-None.is)

pub returns-in-Some-clause-served : goal.returns-in-Some-clause-served
returns-in-Some-clause-served c =
    refused_so (create c.args.asked.now) c.args.own.now.row c.args.invoke (c.args.domains.now, c.args.programs.now) c.refuse.new.self c.refuse.result c.in-Some.error
    (λ facts. ap (λ (d : Rows). create_cause c.args.asked.now d c.args.programs.now) (sym c.domains.ensures.rows) ∙ sym c.create_cause.ensures ∙ c.in-Some.is)
    c.refuse.ensures.sent
