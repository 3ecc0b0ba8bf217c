use Rattle.std.proofs.Common.{◌≡◌, ◌∙◌, ◌++◌, List, [], ap, filter, map, subst, sym, append-nil}
use Rattle.std.specs.Option.{unwrap_or}
use Rattle.std.specs.Prelude.{OnOk}
use Rattle.event_enrol.specs.Enrolments.{has_bit, notices}
use Rattle.event_enrol.specs.declared.group.Member.{Member}
use Rattle.event_enrol.proofs.Told.{clients_alike}
use Rattle.event_enrol.proofs.enrolments.Enrolments.told_clients.Goals as goal

pub returns-in-None-clause-told : goal.returns-in-None-clause-told
returns-in-None-clause-told c =
    let turned = c.args.turned.now in
    let items = c.args.clients.now.items in
    sym (append-nil items)
    ∙ ap (λ (ns : List _). items ++ ns)
    (ap (λ (ms : List Member). map (λ (m : Member). m.client) (filter (λ (m : Member). has_bit turned.transition m.transitions) ms)) (ap (λ o. unwrap_or o []) c.in-None.ensures.value ∙ c.self.invariant.2 turned.condition)
    ∙ clients_alike turned c.self.inside.rows.entries
    ∙ ap (λ rows. map (λ n. n.client) (notices turned rows)) c.self.view_is)

pub returns-in-Some-clause-told : goal.returns-in-Some-clause-told
returns-in-Some-clause-told c =
    let turned = c.args.turned.now in
    let items = c.args.clients.now.items in
    let same : map (λ (m : Member). m.client) (filter (λ (m : Member). has_bit turned.transition m.transitions) c.as_slice.result.now) ≡ map (λ n. n.client) (notices turned c.args.self.now) =
    ap (λ (ms : List Member). map (λ (m : Member). m.client) (filter (λ (m : Member). has_bit turned.transition m.transitions) ms))
    (c.as_slice.ensures ∙ ap (λ o. unwrap_or o []) c.in-Some.ensures.value ∙ c.self.invariant.2 turned.condition)
    ∙ clients_alike turned c.self.inside.rows.entries
    ∙ ap (λ rows. map (λ n. n.client) (notices turned rows)) c.self.view_is in
    subst (λ l. OnOk c.put_clients.result (c.put_clients.new.clients.items ≡ items ++ l)) same c.put_clients.ensures.told
