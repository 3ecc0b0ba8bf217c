use Rattle.std.proofs.Common.{ap, ◌∙◌}
use Rattle.association.specs.Client.{Client as RoomyRow}
use Rattle.mms_types.specs.Order.{key_of}
use Rattle.serve_semaphores.proofs.TokenLaws.{still, take_refused, take_served}
use Rattle.serve_semaphores.proofs.take.take.Goals as goal

pub returns-in-None-clause-served : goal.returns-in-None-clause-served
returns-in-None-clause-served c =
    take_refused c.refuse.result c.args.own.now.row c.client.result c.args.rows.now c.named_mut.follows.lender-at-none c.refuse.new.self c.args.invoke c.args.now c.args.asked.now
    (c.client.ensures ∙ ap (λ (r : RoomyRow). r.row.client) c.part.ensures, c.in-None.ensures.value) c.named_mut.follows.holds-at-none c.refuse.ensures.sent

pub returns-in-Some-clause-served : goal.returns-in-Some-clause-served
returns-in-Some-clause-served c =
    take_served c.take_of.result c.args.own.now.row c.client.result c.args.rows.now (c.named_mut.follows.lender c.take_of.new.row) c.in-Some.row.now c.take_of.new.row c.take_of.new.own c.args.invoke c.args.now
    c.args.asked.now (c.client.ensures ∙ ap (λ (r : RoomyRow). r.row.client) c.part.ensures, c.in-Some.ensures.value) (c.named_mut.follows.holds c.take_of.new.row) c.take_of.ensures.taken c.take_of.ensures.told

pub returns-in-Some-clause-same : goal.returns-in-Some-clause-same
returns-in-Some-clause-same c =
    still c.take_of.result (key_of c.client.result c.args.asked.now.name) c.args.rows.now (c.named_mut.follows.lender c.take_of.new.row) c.in-Some.row.now c.take_of.new.row c.in-Some.ensures.value
    (c.named_mut.follows.holds c.take_of.new.row) c.take_of.ensures.same
