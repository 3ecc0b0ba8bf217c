use Rattle.std.proofs.Common.{◌≡◌, ◌∙◌, IfOk, List, [], ap, filter, map, subst}
use Rattle.std.specs.Option.{unwrap_or}
use Rattle.event_enrol.specs.Enrolments.{notices}
use Rattle.event_enrol.specs.Groups.{is_member_told, member_notice}
use Rattle.event_enrol.specs.declared.group.Member.{Member}
use Rattle.event_enrol.proofs.Told.{told_alike}
use Rattle.event_enrol.proofs.enrolments.Enrolments.notices.Goals as goal

pub returns-in-None : goal.returns-in-None
returns-in-None c =
    let turned = c.args.turned.now in
    c.new.ensures
    ∙ ap (λ (ms : List Member). map (member_notice turned) (filter (is_member_told turned) ms)) (ap (λ o. unwrap_or o []) c.in-None.ensures.value ∙ c.self.invariant.2 turned.condition)
    ∙ told_alike turned c.self.inside.rows.entries
    ∙ ap (notices turned) c.self.view_is

pub returns-in-Some : goal.returns-in-Some
returns-in-Some c =
    let turned = c.args.turned.now in
    let same : map (member_notice turned) (filter (is_member_told turned) c.as_slice.result.now) ≡ notices turned c.args.self.now =
    ap (λ (ms : List Member). map (member_notice turned) (filter (is_member_told turned) ms))
    (c.as_slice.ensures ∙ ap (λ o. unwrap_or o []) c.in-Some.ensures.value ∙ c.self.invariant.2 turned.condition)
    ∙ told_alike turned c.self.inside.rows.entries
    ∙ ap (notices turned) c.self.view_is in
    subst (λ l. IfOk c.notices_of.result (λ told. told ≡ l)) same c.notices_of.ensures
