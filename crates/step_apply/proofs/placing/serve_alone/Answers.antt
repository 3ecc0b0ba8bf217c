use Rattle.std.proofs.Common.{◌≡◌, ℕ, ◌+◌, length, Option, Some, ap, sym, ◌∙◌, subst, set, is_some}
use Rattle.std.proofs.lemmas.Result.{on_err_weaker}
use Rattle.association.specs.Client.{ClientRow}
use Rattle.parted_state.specs.Lifted.{tables_shown}
use Rattle.cell_services.specs.Acts.{all_done}
use Rattle.cell_services.specs.Serving.{hears}
use Rattle.step_parts.specs.declared.part.Part.{Part}
use Rattle.step_parts.specs.declared.part.Part.TheVariants.{Client}
use Rattle.parted_state.specs.Served.{around}
use Rattle.step_parts.specs.AfterLaws.{is_device}
use Rattle.step_parts.specs.Partition.{cell, clients_among}
use Rattle.step_parts.proofs.Found.{if_ok_then, none_then, on_some_then, some_then}
use Rattle.step_apply.specs.Tasks.{IsRoomless}
use Rattle.step_apply.proofs.ServedIn.{as_held, as_taken, both_back, held_roomless, of_client, served_at, shown, still_many, still_there}
use Rattle.step_apply.proofs.placing.serve_alone.Goals as goal

pub take-table-requires : goal.take-table-requires
take-table-requires g c = record {
  held = ap (λ (o : Option Part). is_some o) (still_there c.requires.serving (g.S.OnParts.its c.args.asked.now) c.requires.below c.requires.place c.take-part.ensures.left ∙ c.requires.table);
}

pub serve-left-requires-clause-many : goal.serve-left-requires-clause-many
serve-left-requires-clause-many g c =
    still_many c.args.held.now c.take-part.new.held c.take-table.new.held (5 + c.args.who.client) c.args.place c.args.who.clients c.take-part.ensures.left c.take-table.ensures.left c.requires.serving.many

pub serve-left-requires-clause-settled : goal.serve-left-requires-clause-settled
serve-left-requires-clause-settled g c =
    subst IsRoomless (sym c.deref_mut.ensures.value ∙ c.in-Client.is)
    (held_roomless c.requires.serving (5 + c.args.who.client) c.take-part.result.value c.take-part.ensures.part)

pub serve-left-requires-clause-table : goal.serve-left-requires-clause-table
serve-left-requires-clause-table g c =
    subst (λ (o : Option Part). o ≡ Some ((g.S.OnParts.its c.args.asked.now).part ((g.S.OnParts.its c.args.asked.now).part_in o)))
    (sym (ap Some c.deref_mut-in-Client.ensures.value ∙ c.take-table.ensures.part ∙ still_there c.requires.serving (g.S.OnParts.its c.args.asked.now) c.requires.below c.requires.place c.take-part.ensures.left))
    c.requires.table

pub serve-left-requires-clause-may : goal.serve-left-requires-clause-may
serve-left-requires-clause-may g c =
    as_taken c.requires.serving (g.S.OnParts.its c.args.asked.now) c.requires.below c.requires.place c.take-part.ensures.left
    (ap Some (sym c.in-Client.is ∙ c.deref_mut.ensures.value) ∙ c.take-part.ensures.part) (ap Some c.deref_mut-in-Client.ensures.value ∙ c.take-table.ensures.part)
    (λ (r : ClientRow) x. g.S.OnParts.may c.args.asked.now c.args.number r x) c.requires.may

pub returns-clause-put : goal.returns-clause-put
returns-clause-put g c =
    let t = tables_shown cell c.args.held.now in
    let ordered = is_device.in_order (around 6 (clients_among (length c.args.held.now)) c.args.held.now) in
    let own : Some (Client c.in-Client.own) ≡ Some c.take-part.result.value = ap Some (sym c.in-Client.is ∙ c.deref_mut.ensures.value) in
    let second = ap Some c.deref_mut-in-Client.ensures.value ∙ c.take-table.ensures.part in
    if_ok_then c.serve-left.result
    (λ left. none_then left (λ served.
    served_at c.requires.serving (g.S.OnParts.its c.args.asked.now) c.requires.below c.requires.place c.take-part.ensures.left (own ∙ c.take-part.ensures.part) second
    (g.S.OnParts.verdict c.args.asked.now c.args.number) c.take-table.ensures.left c.serve-left.ensures.table
    (λ stood beside. served t ordered stood beside
    (of_client c.requires.serving (g.S.OnParts.its c.args.asked.now) c.requires.below c.requires.place c.take-part.ensures.left (own ∙ c.take-part.ensures.part) second
    (λ (k : ℕ). g.S.OnParts.is_told c.args.asked.now c.args.facts k t) c.requires.told))
    c.put.ensures c.put-2.ensures))
    c.serve-left.ensures.served

pub returns-clause-left : goal.returns-clause-left
returns-clause-left g c =
    let t = tables_shown cell c.args.held.now in
    let ordered = is_device.in_order (around 6 (clients_among (length c.args.held.now)) c.args.held.now) in
    let own : Some (Client c.in-Client.own) ≡ Some c.take-part.result.value = ap Some (sym c.in-Client.is ∙ c.deref_mut.ensures.value) in
    let second = ap Some c.deref_mut-in-Client.ensures.value ∙ c.take-table.ensures.part in
    if_ok_then c.serve-left.result
    (λ left. some_then left (λ l is.
    as_held c.requires.serving (g.S.OnParts.its c.args.asked.now) c.requires.below c.requires.place c.take-part.ensures.left (own ∙ c.take-part.ensures.part) second
    (λ (k : ℕ) (r : ClientRow) x. hears t r k (g.S.OnParts.verdict c.args.asked.now c.args.number)
    ≡ all_done ((g.S.OnParts.own c.args.asked.now).put (g.S.OnParts.becomes c.args.asked.now c.args.facts k x) t) l.0.items)
    (is t ordered (shown c.requires.serving (g.S.OnParts.its c.args.asked.now) c.requires.below c.requires.place c.take-part.ensures.left (own ∙ c.take-part.ensures.part) second)
    (of_client c.requires.serving (g.S.OnParts.its c.args.asked.now) c.requires.below c.requires.place c.take-part.ensures.left (own ∙ c.take-part.ensures.part) second
    (λ (k : ℕ). g.S.OnParts.is_told c.args.asked.now c.args.facts k t) c.requires.told))))
    c.serve-left.ensures.left

pub returns-clause-fits : goal.returns-clause-fits
returns-clause-fits g c =
    if_ok_then c.serve-left.result
    (λ left. some_then left (λ l fits.
    as_held c.requires.serving (g.S.OnParts.its c.args.asked.now) c.requires.below c.requires.place c.take-part.ensures.left
    (ap Some (sym c.in-Client.is ∙ c.deref_mut.ensures.value) ∙ c.take-part.ensures.part) (ap Some c.deref_mut-in-Client.ensures.value ∙ c.take-table.ensures.part)
    (λ (k : ℕ) (r : ClientRow) x. g.S.OnParts.fits c.args.asked.now c.args.facts l.1 k x) fits))
    c.serve-left.ensures.fits

pub returns-clause-same : goal.returns-clause-same
returns-clause-same g c =
    if_ok_then c.serve-left.result
    (λ left. on_some_then left (λ is.
    both_back c.args.held.now c.take-part.new.held c.take-table.new.held c.put.new.held c.put-2.new.held (5 + c.args.who.client) c.args.place c.take-part.result.value
    c.take-table.result.value
    c.take-part.ensures.part c.take-part.ensures.left c.take-table.ensures.part c.take-table.ensures.left
    (c.put.ensures ∙ ap (λ (p : Part). set c.take-table.new.held c.args.place (Some p)) (is.1 ∙ c.deref_mut-in-Client.ensures.value))
    (c.put-2.ensures ∙ ap (λ (p : Part). set c.put.new.held (5 + c.args.who.client) (Some p)) (ap Client is.0 ∙ sym c.in-Client.is ∙ c.deref_mut.ensures.value))))
    c.serve-left.ensures.same

pub returns-clause-kept : goal.returns-clause-kept
returns-clause-kept g c =
    on_err_weaker c.serve-left.result
    (λ is.
    both_back c.args.held.now c.take-part.new.held c.take-table.new.held c.put.new.held c.put-2.new.held (5 + c.args.who.client) c.args.place c.take-part.result.value
    c.take-table.result.value
    c.take-part.ensures.part c.take-part.ensures.left c.take-table.ensures.part c.take-table.ensures.left
    (c.put.ensures ∙ ap (λ (p : Part). set c.take-table.new.held c.args.place (Some p)) (is.1 ∙ c.deref_mut-in-Client.ensures.value))
    (c.put-2.ensures ∙ ap (λ (p : Part). set c.put.new.held (5 + c.args.who.client) (Some p)) (ap Client is.0 ∙ sym c.in-Client.is ∙ c.deref_mut.ensures.value)))
    c.serve-left.ensures.kept
