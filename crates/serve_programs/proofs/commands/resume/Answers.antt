use Rattle.std.proofs.Common.{sym, ◌∙◌}
use Rattle.serve_programs.specs.Programs.{resume}
use Rattle.serve_programs.proofs.ServedLaws.{refused_so}
use Rattle.serve_programs.proofs.commands.resume.Goals as goal

pub returns-in-Some-clause-served : goal.returns-in-Some-clause-served
returns-in-Some-clause-served c =
    refused_so (resume c.args.asked.now) c.args.own.now.row c.args.invoke c.args.programs.now c.refuse.new.self c.refuse.result c.in-Some.error
    (λ facts. sym c.command_cause.ensures ∙ c.in-Some.is) c.refuse.ensures.sent
