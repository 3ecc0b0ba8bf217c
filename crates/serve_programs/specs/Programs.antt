-- Requests for program invocations (ISO 9506-1, program invocation management): the services on the table of them, and those that make and delete them on the tables of
-- domains, too.
use Rattle.std.specs.Prelude.{◌≡◌, ℕ, List, [], ◌∷◌, Option, is_none}
use Rattle.std.specs.Option.{option_map, option_map_or}
use Rattle.mms_types.specs.Errors.{first_of, object_non_existent}
use Rattle.mms_types.specs.declared.area.InvocationRequest.{InvocationRequest}
use Rattle.mms_types.specs.declared.area.InvocationRequest.TheVariants as invocations
use Rattle.mms_types.specs.declared.area.ProgramRequest.{ProgramRequest}
use Rattle.mms_types.specs.declared.area.ProgramRequest.TheVariants as request
use Rattle.mms_types.specs.declared.invocation.CreateProgramInvocation.{CreateProgramInvocation}
use Rattle.mms_types.specs.declared.invocation.RunProgram.{RunProgram}
use Rattle.mms_types.specs.declared.pdu.Answer.{Answer}
use Rattle.mms_types.specs.declared.pdu.Answer.TheVariants as answer
use Rattle.domain_load.specs.Domains.{Rows as DomainRows}
use Rattle.domain_load.specs.Used.{after_unused, after_used}
use Rattle.program_inv.specs.Programs as program
use Rattle.program_inv.specs.Programs.{Rows}
use Rattle.program_inv.specs.declared.command.Command.{Command}
use Rattle.program_inv.specs.declared.command.Command.TheVariants as bid
use Rattle.cell_client.specs.Areas.{RequestIn, answers, changes}
use Rattle.serve_domains.specs.Tables.{DomainTables}

-- ---- CreateProgramInvocation and DeleteProgramInvocation, on domains and program invocations

-- these domains, and the uploads that there are
abbrev pub with_domains : DomainRows → DomainTables → DomainTables
with_domains rows t = record t { domains = rows }

-- an invocation is made, and has its domains
abbrev pub create : CreateProgramInvocation → RequestIn (DomainTables × Rows)
create x = record {
  words = [];
  more = λ t row. [];
  cause = λ facts t row. program.create_cause x t.0.domains t.1;
  effect = λ facts t row invoke.
      changes (with_domains (after_used x.domains x.name t.0.domains) t.0, program.after_create x t.1) answer.CreateProgramInvocation;
}

-- the domains after an invocation has left those that it has
abbrev pub freed : List ℕ → Rows → DomainTables → DomainTables
freed name rows t = option_map_or (λ p. with_domains (after_unused p.domains name t.domains) t) (program.named name rows) t

abbrev pub delete : List ℕ → RequestIn (DomainTables × Rows)
delete name = record {
  words = [];
  more = λ t row. [];
  cause = λ facts t row. program.delete_cause name t.1;
  effect = λ facts t row invoke. changes (freed name t.1 t.0, program.after_delete name t.1) answer.DeleteProgramInvocation;
}

abbrev pub invocation_in : InvocationRequest → RequestIn (DomainTables × Rows)
invocation_in (invocations.CreateProgramInvocation x) = create x.now
invocation_in (invocations.DeleteProgramInvocation x) = delete x.now

-- ---- Start, Stop, Resume, Reset and Kill

-- an invocation follows a command, and is told something or not
abbrev follows : Command → List ℕ → (Rows → Rows) → Answer → RequestIn Rows
follows command name after told = record {
  words = [];
  more = λ t row. [];
  cause = λ facts t row. program.command_cause command name t;
  effect = λ facts t row invoke. changes (after t) told;
}

abbrev pub command : Command → Answer → List ℕ → RequestIn Rows
command bid told name = follows bid name (program.after_command bid name) told

abbrev pub start : RunProgram → RequestIn Rows
start x = follows bid.Start x.name (program.after_start x) answer.Start

abbrev pub resume : RunProgram → RequestIn Rows
resume x = follows bid.Resume x.name (program.after_resume x) answer.Resume

-- ---- GetProgramInvocationAttributes

abbrev pub attributes : List ℕ → RequestIn Rows
attributes name = record {
  words = [];
  more = λ t row. [];
  cause = λ facts t row. first_of ((is_none (program.named name t), object_non_existent) ∷ []);
  effect = λ facts t row invoke. answers t (option_map answer.GetProgramInvocationAttributes (program.attributes name t));
}

-- ---- each of them, as it is looked at

abbrev pub stop : List ℕ → RequestIn Rows
stop name = command bid.Stop answer.Stop name

abbrev pub reset : List ℕ → RequestIn Rows
reset name = command bid.Reset answer.Reset name

abbrev pub kill : List ℕ → RequestIn Rows
kill name = command bid.Kill answer.Kill name

abbrev pub program_in : ProgramRequest → RequestIn Rows
program_in (request.Start x) = start x.now
program_in (request.Stop x) = stop x.now
program_in (request.Resume x) = resume x.now
program_in (request.Reset x) = reset x.now
program_in (request.Kill x) = kill x.now
program_in (request.GetProgramInvocationAttributes x) = attributes x.now
