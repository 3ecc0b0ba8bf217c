use Rattle.std.proofs.Common.{◌≡◌, ◌+◌, ◌∙◌, Some, ap, sym, subst, true}
use Rattle.std.proofs.lemmas.Result.{on_err_weaker, on_ok_weaker}
use Rattle.association.specs.Client.{ClientRow}
use Rattle.cell_client.specs.Meant.{meant, uses_no_table}
use Rattle.cell_services.specs.Meant.{no_tables}
use Rattle.cell_services.specs.Serving.{own_told}
use Rattle.parted_state.specs.Lifted.{tables_shown}
use Rattle.step_parts.specs.Partition.{cell}
use Rattle.step_apply.proofs.Changed.{client_kept}
use Rattle.step_apply.proofs.ServedIn.{alone_served, row_is}
use Rattle.step_apply.proofs.applying.hear_own.Goals as goal

pub hear-heard-requires : goal.hear-heard-requires
hear-heard-requires c = record {
  alone = subst (λ (r : ClientRow). uses_no_table r (meant c.args.found.now) ≡ true)
      (sym (row_is c.requires.serving (ap Some (sym c.in-Client.is ∙ c.deref_mut.ensures.value) ∙ c.take-part.ensures.part))) c.requires.alone;
}

pub returns-clause-put : goal.returns-clause-put
returns-clause-put c =
    on_ok_weaker c.hear-heard.result
    (λ plain.
    alone_served c.requires.serving (ap Some (sym c.in-Client.is ∙ c.deref_mut.ensures.value) ∙ c.take-part.ensures.part) (meant c.args.found.now) c.take-part.ensures.left
    (record {
      effects = own_told no_tables c.in-Client.own.row (meant c.args.found.now);
      is = plain.is;
      done = plain.alone (tables_shown cell c.args.held.now) c.in-Client.own.row.client;
    })
    c.put.ensures)
    c.hear-heard.ensures.done

pub returns-clause-kept : goal.returns-clause-kept
returns-clause-kept c =
    on_err_weaker c.hear-heard.result
    (λ kept. client_kept c.args.held.now c.take-part.new.held c.put.new.held (5 + c.args.who.client) c.take-part.result.value c.deref_mut.result.now c.in-Client.own
    c.hear-heard.new.own c.take-part.ensures.part c.take-part.ensures.left c.deref_mut.ensures.value c.in-Client.is kept c.put.ensures)
    c.hear-heard.ensures.kept
