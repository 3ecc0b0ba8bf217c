use Rattle.std.proofs.Common.{◌∙◌, Some, ap, refl}
use Rattle.std.proofs.lemmas.Result.{on_ok_weaker}
use Rattle.cell_services.proofs.AreaLaws.{programs_made}
use Rattle.step_parts.specs.Partition.{domains_in, programs_in}
use Rattle.step_parts.specs.declared.part.Part.{Part}
use Rattle.step_apply.proofs.programs.make_in_parts.Goals as goal

pub returns-clause-served : goal.returns-clause-served
returns-clause-served c =
    on_ok_weaker c.make.result
    (λ served t stood beside. record {
      before = c.in-Client-Domains-Programs.own;
      after = c.make.new.own;
      become = (c.make.new.domains, c.make.new.programs);
      is_own = c.in-Client-Domains-Programs.is-0;
      is_after = refl;
      is_domains = refl;
      is_programs = refl;
      done = programs_made t c.in-Client-Domains-Programs.own.row c.args.invoke c.make.new.own c.args.asked c.in-Client-Domains-Programs.domains c.make.new.domains
          c.in-Client-Domains-Programs.programs c.make.new.programs served
          (stood ∙ ap (λ (p : Part). domains_in (Some p)) c.in-Client-Domains-Programs.is-1) (beside ∙ ap (λ (p : Part). programs_in (Some p)) c.in-Client-Domains-Programs.is-2);
    })
    c.make.ensures.served
