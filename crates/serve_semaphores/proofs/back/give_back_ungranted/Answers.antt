use Rattle.std.proofs.Common.{ap, ◌∙◌}
use Rattle.association.specs.Client.{Client as RoomyRow}
use Rattle.mms_types.specs.Order.{key_of}
use Rattle.serve_semaphores.proofs.TokenLaws.{give_not, give_refused, give_served, still}
use Rattle.serve_semaphores.proofs.back.give_back_ungranted.Goals as goal

pub returns-in_ok-refuse-in-None-clause-served : goal.returns-in_ok-refuse-in-None-clause-served
returns-in_ok-refuse-in-None-clause-served c _ facts _ =
    give_refused c.args.own.now.row c.client.result c.args.rows.now c.named_mut.follows.lender-at-none c.refuse.new.self c.args.invoke facts c.args.asked.now
    (c.client.ensures ∙ ap (λ (r : RoomyRow). r.row.client) c.part.ensures, c.in-None.ensures.value) c.named_mut.follows.holds-at-none c.in_ok-refuse-in-None.ensures.sent

pub returns-in-Some-clause-served : goal.returns-in-Some-clause-served
returns-in-Some-clause-served c =
    give_served c.give_back_to.result c.args.own.now.row c.client.result c.args.rows.now (c.named_mut.follows.lender c.give_back_to.new.row) c.in-Some.row.now c.give_back_to.new.row c.give_back_to.new.own
    c.args.invoke c.args.now c.args.asked.now (c.client.ensures ∙ ap (λ (r : RoomyRow). r.row.client) c.part.ensures, c.in-Some.ensures.value) (c.named_mut.follows.holds c.give_back_to.new.row)
    c.give_back_to.ensures.told c.give_back_to.ensures.given c.give_back_to.ensures.nobody

pub returns-in-Some-clause-unchanged : goal.returns-in-Some-clause-unchanged
returns-in-Some-clause-unchanged c =
    give_not c.give_back_to.result (key_of c.client.result c.args.asked.now.name) c.args.rows.now (c.named_mut.follows.lender c.give_back_to.new.row) c.in-Some.row.now c.give_back_to.new.row
    c.args.own.now c.give_back_to.new.own c.in-Some.ensures.value (c.named_mut.follows.holds c.give_back_to.new.row) c.give_back_to.ensures.unchanged

pub returns-in-Some-clause-same : goal.returns-in-Some-clause-same
returns-in-Some-clause-same c =
    still c.give_back_to.result (key_of c.client.result c.args.asked.now.name) c.args.rows.now (c.named_mut.follows.lender c.give_back_to.new.row) c.in-Some.row.now c.give_back_to.new.row c.in-Some.ensures.value
    (c.named_mut.follows.holds c.give_back_to.new.row) c.give_back_to.ensures.same
