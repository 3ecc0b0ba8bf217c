use Rattle.std.proofs.Common.{◌≡◌, ◌+◌, List, ℕ, Option, Some, ap, refl, sym, ◌∙◌, subst, set, arith, is_some, None}
use Rattle.std.proofs.lemmas.Result.{on_ok_weaker}
use Rattle.mms_types.specs.Areas.{invocation_request}
use Rattle.part_table.specs.Held.{held_at}
use Rattle.cell_client.specs.Association.{Takes}
use Rattle.serve_programs.specs.Users.{AreUsed}
use Rattle.step_parts.specs.AfterLaws.{is_domains, is_programs}
use Rattle.step_parts.specs.Partition.{client_place, domains_in, programs_in, IsDomains, IsPrograms}
use Rattle.step_parts.specs.declared.part.Part.{Part}
use Rattle.step_parts.proofs.Found.{on_err_three}
use Rattle.step_apply.specs.Tasks.{IsRoomless, IsServing}
use Rattle.step_apply.proofs.ServedIn.{held_after_set, held_roomless, made_at, still_there, three_back}
use Rattle.step_apply.proofs.programs.make_on_programs.Goals as goal

-- the parts of the domains and of the program invocations are as they were while that of a client is taken out
domains_out : {n client : ℕ} {hand out : List (Option Part)} → IsServing n client hand → out ≡ set hand (client_place client) None → held_at out 2 ≡ held_at hand 2
domains_out serving taken = still_there serving is_domains (omega arith) refl taken

programs_left : {n client : ℕ} {hand out less : List (Option Part)} → IsServing n client hand → out ≡ set hand (client_place client) None → less ≡ set out 2 None
    → held_at less 3 ≡ held_at hand 3
programs_left {out = out} serving taken left =
    ap (λ (l : List (Option Part)). held_at l 3) left ∙ held_after_set out 2 3 None (λ same. omega (arith, same)) ∙ still_there serving is_programs (omega arith) refl taken

pub take-domains-requires : goal.take-domains-requires
take-domains-requires c = record { held = ap (λ (o : Option Part). is_some o) (domains_out c.requires.serving c.take-part.ensures.left ∙ c.requires.domains) }

pub take-programs-requires : goal.take-programs-requires
take-programs-requires c = record {
  held = ap (λ (o : Option Part). is_some o) (programs_left c.requires.serving c.take-part.ensures.left c.take-domains.ensures.left ∙ c.requires.programs);
}

pub make_in_parts-done-requires-clause-settled : goal.make_in_parts-done-requires-clause-settled
make_in_parts-done-requires-clause-settled c =
    subst IsRoomless (sym c.deref_mut.ensures.value)
    (held_roomless c.requires.serving (5 + c.args.who.client) c.take-part.result.value c.take-part.ensures.part)

pub make_in_parts-done-requires-clause-domains : goal.make_in_parts-done-requires-clause-domains
make_in_parts-done-requires-clause-domains c =
    subst IsDomains (sym (ap Some c.deref_mut-2.ensures.value ∙ c.take-domains.ensures.part ∙ domains_out c.requires.serving c.take-part.ensures.left)) c.requires.domains

pub make_in_parts-done-requires-clause-programs : goal.make_in_parts-done-requires-clause-programs
make_in_parts-done-requires-clause-programs c =
    subst IsPrograms
    (sym (ap Some c.deref_mut-3.ensures.value ∙ c.take-programs.ensures.part ∙ programs_left c.requires.serving c.take-part.ensures.left c.take-domains.ensures.left)) c.requires.programs

pub make_in_parts-done-requires-clause-used : goal.make_in_parts-done-requires-clause-used
make_in_parts-done-requires-clause-used c =
    subst (λ (o : Option Part). AreUsed (domains_in o).domains (programs_in (Some c.deref_mut-3.result.now)))
    (sym (ap Some c.deref_mut-2.ensures.value ∙ c.take-domains.ensures.part ∙ domains_out c.requires.serving c.take-part.ensures.left))
    (subst (λ (o : Option Part). AreUsed (domains_in (held_at c.args.held.now 2)).domains (programs_in o))
    (sym (ap Some c.deref_mut-3.ensures.value ∙ c.take-programs.ensures.part ∙ programs_left c.requires.serving c.take-part.ensures.left c.take-domains.ensures.left))
    (c.requires.serving.used c.requires.domains c.requires.programs))

pub returns-clause-put : goal.returns-clause-put
returns-clause-put c =
    on_ok_weaker c.make_in_parts-done.result
    (λ served.
    made_at c.requires.serving (Takes c.args.invoke (invocation_request c.args.asked)) (ap Some c.deref_mut.ensures.value ∙ c.take-part.ensures.part)
    c.take-part.ensures.left (ap Some c.deref_mut-2.ensures.value ∙ c.take-domains.ensures.part) c.take-domains.ensures.left
    (ap Some c.deref_mut-3.ensures.value ∙ c.take-programs.ensures.part) c.take-programs.ensures.left served c.put.ensures c.put-2.ensures c.put-3.ensures)
    c.make_in_parts-done.ensures.served

pub returns-clause-kept : goal.returns-clause-kept
returns-clause-kept c =
    on_err_three c.make_in_parts-done.result
    (λ kept same unmade.
    three_back c.args.held.now c.take-part.new.held c.take-domains.new.held c.take-programs.new.held c.put.new.held c.put-2.new.held c.put-3.new.held
    (5 + c.args.who.client) 2 3 c.take-part.result.value c.take-domains.result.value c.take-programs.result.value
    c.take-part.ensures.part c.take-part.ensures.left c.take-domains.ensures.part c.take-domains.ensures.left
    c.take-programs.ensures.part c.take-programs.ensures.left
    (c.put.ensures ∙ ap (λ (p : Part). set c.take-programs.new.held 3 (Some p)) (unmade ∙ c.deref_mut-3.ensures.value))
    (c.put-2.ensures ∙ ap (λ (p : Part). set c.put.new.held 2 (Some p)) (same ∙ c.deref_mut-2.ensures.value))
    (c.put-3.ensures ∙ ap (λ (p : Part). set c.put-2.new.held (5 + c.args.who.client) (Some p)) (kept ∙ c.deref_mut.ensures.value)))
    c.make_in_parts-done.ensures.kept c.make_in_parts-done.ensures.same c.make_in_parts-done.ensures.unmade
