use Rattle.std.proofs.Common.{◌≡◌, arith, ◌+◌, ◌∙◌, None, Some, ap, refl, subst, sym}
use Rattle.std.proofs.lemmas.Result.{on_err_weaker, on_ok_weaker}
use Rattle.mms_types.specs.Areas.{device_request}
use Rattle.association.specs.Client.{ClientRow}
use Rattle.cell_client.specs.Association.{Takes}
use Rattle.cell_client.specs.Requests.{plain_answer}
use Rattle.parted_state.specs.Lifted.{tables_shown}
use Rattle.step_parts.specs.AfterLaws.{is_domains, is_events, is_journals, is_programs, is_semaphores, is_variables}
use Rattle.step_parts.specs.Partition.{cell}
use Rattle.step_apply.proofs.Changed.{client_kept}
use Rattle.step_apply.proofs.ServedIn.{alone_served, beside_at, row_is}
use Rattle.step_apply.proofs.areas.serve_on_device.Goals as goal

pub device_on-done-requires-clause-tables : goal.device_on-done-requires-clause-tables
device_on-done-requires-clause-tables c =
    subst (λ (r : ClientRow). plain_answer r (device_request c.args.asked) ≡ None)
    (sym (row_is c.requires.serving (ap Some (sym c.in-Client.is ∙ c.deref_mut.ensures.value) ∙ c.take-part.ensures.part))) c.requires.tables

pub returns-clause-put : goal.returns-clause-put
returns-clause-put c =
    let serving = c.requires.serving in
    let taken = c.take-part.ensures.left in
    on_ok_weaker c.device_on-done.result
    (λ served.
    alone_served serving (ap Some (sym c.in-Client.is ∙ c.deref_mut.ensures.value) ∙ c.take-part.ensures.part) (Takes c.args.invoke (device_request c.args.asked)) taken
    (served (tables_shown cell c.args.held.now)
    (record {
      variables = beside_at serving is_variables (omega arith) refl taken;
      domains = beside_at serving is_domains (omega arith) refl taken;
      programs = beside_at serving is_programs (omega arith) refl taken;
      events = beside_at serving is_events (omega arith) refl taken;
      journals = beside_at serving is_journals (omega arith) refl taken;
      semaphores = beside_at serving is_semaphores (omega arith) refl taken;
    }))
    c.put.ensures)
    c.device_on-done.ensures.served

pub returns-clause-kept : goal.returns-clause-kept
returns-clause-kept c =
    on_err_weaker c.device_on-done.result
    (λ kept. client_kept c.args.held.now c.take-part.new.held c.put.new.held (5 + c.args.who.client) c.take-part.result.value c.deref_mut.result.now c.in-Client.own
    c.device_on-done.new.own c.take-part.ensures.part c.take-part.ensures.left c.deref_mut.ensures.value c.in-Client.is kept c.put.ensures)
    c.device_on-done.ensures.kept
