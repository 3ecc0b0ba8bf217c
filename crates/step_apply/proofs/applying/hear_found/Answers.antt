use Rattle.std.proofs.Common.{◌≡◌, ℕ, true, is_none, Some, ap, refl, sym, ◌∙◌, Option, subst}
use Rattle.mms_types.specs.declared.pdu.Request.{Request}
use Rattle.parted_state.specs.Cut.{is_in}
use Rattle.parted_state.specs.Lifted.{tables_shown}
use Rattle.cell_client.specs.declared.acts.Act.{Act}
use Rattle.cell_client.specs.Association.{Takes, Verdict}
use Rattle.cell_client.specs.Meant.{act_verdict, came, meant, uses_no_table}
use Rattle.cell_client.specs.Requests.{plain_answer}
use Rattle.serve_domains.specs.Loads.{AreLoads}
use Rattle.serve_domains.proofs.Answered.{answers_load_by, is_open_reply, is_open_request}
use Rattle.cell_services.specs.Serving.{heard_asks}
use Rattle.cell_services.proofs.PlanLaws.{left_of}
use Rattle.part_table.specs.Held.{held_at}
use Rattle.step_parts.specs.AfterLaws.{is_domains}
use Rattle.step_parts.specs.Found.{row_held}
use Rattle.step_parts.specs.Partition.{cell, domains_in}
use Rattle.step_parts.proofs.Found.{if_some}
use Rattle.step_apply.proofs.Ready.{is_left, not_plain, put_as, ready_as, table_there, task_put}
use Rattle.step_apply.proofs.applying.hear_found.Goals as goal

pub hear_own-requires-clause-alone : goal.hear_own-requires-clause-alone
hear_own-requires-clause-alone c = sym (c.left_of.ensures.exact (row_held c.args.held.now c.args.who.client)) ∙ ap (λ (o : Option Act). is_none o) c.in-None.is

-- ---- a request

pub serve_request-requires-clause-ready : goal.serve_request-requires-clause-ready
serve_request-requires-clause-ready c =
    ready_as c.args.who.clients c.args.who.client c.args.held.now (ap (λ (asked : Request). Takes c.in-Some-Request.invoke asked) c.area.ensures
    ∙ is_left (c.in-Some-Request.is ∙ ap Some c.in-Some-Request.field-0-is) refl c.left_of.ensures.left)
    c.requires.ready

pub serve_request-requires-clause-tables : goal.serve_request-requires-clause-tables
serve_request-requires-clause-tables c =
    ap (plain_answer (row_held c.args.held.now c.args.who.client)) c.area.ensures
    ∙ not_plain (row_held c.args.held.now c.args.who.client) c.in-Some-Request.invoke c.in-Some-Request.asked.now
    (ap (uses_no_table (row_held c.args.held.now c.args.who.client)) (is_left (c.in-Some-Request.is ∙ ap Some c.in-Some-Request.field-0-is) refl c.left_of.ensures.left)
    ∙ sym (c.left_of.ensures.exact (row_held c.args.held.now c.args.who.client)) ∙ ap (λ (o : Option Act). is_none o) (c.in-Some-Request.is ∙ ap Some c.in-Some-Request.field-0-is))

pub serve_request-requires-clause-open : goal.serve_request-requires-clause-open
serve_request-requires-clause-open c =
    is_open_request (row_held c.args.held.now c.args.who.client) (row_held c.args.held.now c.args.who.client).association c.requires.found.0 c.in-Some-Request.invoke c.in-Some-Request.asked.now
    (sym c.requires.found.1 ∙ sym (is_left (c.in-Some-Request.is ∙ ap Some c.in-Some-Request.field-0-is) refl c.left_of.ensures.left))

pub returns-in-Some-Request-clause-heard : goal.returns-in-Some-Request-clause-heard
returns-in-Some-Request-clause-heard c =
    put_as c.args.who.client c.args.held.now c.serve_request.new.held c.serve_request.result
    (ap (λ (asked : Request). Takes c.in-Some-Request.invoke asked) c.area.ensures
    ∙ is_left (c.in-Some-Request.is ∙ ap Some c.in-Some-Request.field-0-is) refl c.left_of.ensures.left)
    c.serve_request.ensures.put

-- ---- what a client answers to the server

pub reply_on_domains-requires-clause-ready : goal.reply_on_domains-requires-clause-ready
reply_on_domains-requires-clause-ready c =
    ready_as c.args.who.clients c.args.who.client c.args.held.now (is_left (c.in-Some-Reply.is ∙ ap Some c.in-Some-Reply.field-0-is) refl c.left_of.ensures.left) c.requires.ready

pub reply_on_domains-requires-clause-open : goal.reply_on_domains-requires-clause-open
reply_on_domains-requires-clause-open c =
    is_open_reply (row_held c.args.held.now c.args.who.client) (row_held c.args.held.now c.args.who.client).association c.requires.found.0 c.in-Some-Reply.number (came c.in-Some-Reply.answer)
    (sym c.requires.found.1 ∙ sym (is_left (c.in-Some-Reply.is ∙ ap Some c.in-Some-Reply.field-0-is) refl c.left_of.ensures.left))

pub reply_on_domains-requires-clause-load : goal.reply_on_domains-requires-clause-load
reply_on_domains-requires-clause-load c =
    let is = is_left (c.in-Some-Reply.is ∙ ap Some c.in-Some-Reply.field-0-is) refl c.left_of.ensures.left in
    answers_load_by (domains_in (held_at c.args.held.now 2)) (row_held c.args.held.now c.args.who.client) c.requires.found.0 c.in-Some-Reply.number (came c.in-Some-Reply.answer)
    (sym c.requires.found.1 ∙ sym is)
    (subst (λ (k : ℕ). AreLoads k (row_held c.args.held.now c.args.who.client).asked (domains_in (held_at c.args.held.now 2)).domains) (sym c.requires.serving.number)
    (c.requires.serving.loads (table_there c.requires.serving is_domains (λ t. refl) (meant c.args.found.now)
    (subst (λ (v : Verdict). is_in (heard_asks v) 2 ≡ true) is refl) c.requires.ready)))

pub returns-in-Some-Reply-clause-heard : goal.returns-in-Some-Reply-clause-heard
returns-in-Some-Reply-clause-heard c =
    put_as c.args.who.client c.args.held.now c.reply_on_domains.new.held c.reply_on_domains.result
    (is_left (c.in-Some-Reply.is ∙ ap Some c.in-Some-Reply.field-0-is) refl c.left_of.ensures.left) c.reply_on_domains.ensures.put

-- ---- a request that waits

pub serve_on-requires-clause-ready : goal.serve_on-requires-clause-ready
serve_on-requires-clause-ready c = ready_as c.args.who.clients c.args.who.client c.args.held.now (is_left (c.in-Some-Cancel.is ∙ ap Some c.in-Some-Cancel.field-0-is) refl c.left_of.ensures.left) c.requires.ready

pub returns-in-Some-Cancel-clause-heard : goal.returns-in-Some-Cancel-clause-heard
returns-in-Some-Cancel-clause-heard c =
    put_as c.args.who.client c.args.held.now c.serve_on.new.held c.serve_on.result
    (is_left (c.in-Some-Cancel.is ∙ ap Some c.in-Some-Cancel.field-0-is) refl c.left_of.ensures.left) c.serve_on.ensures.put

-- ---- a client is lost

pub returns-in-Some-clause-heard : goal.returns-in-Some-clause-heard
returns-in-Some-clause-heard c =
    task_put c.args.who.client c.args.held.now c.serve.new.held c.serve.result (meant c.args.found.now) c.in-Some.act
    (left_of (row_held c.args.held.now c.args.who.client) (meant c.args.found.now) c.in-Some.act
    (if_some (λ (a : Act). act_verdict a ≡ Some (meant c.args.found.now)) c.left_of.result c.in-Some.act c.in-Some.is c.left_of.ensures.left)
    (tables_shown cell c.args.held.now) c.args.who.client)
    c.serve.ensures.put
