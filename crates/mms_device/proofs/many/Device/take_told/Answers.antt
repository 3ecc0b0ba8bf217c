use Rattle.std.proofs.Common.{◌≡◌, ◌≢◌, ◌++◌, ◌∷◌, [], ℕ, sym, ap, ◌∙◌, subst}
use Rattle.std.specs.Prelude.{Contains}
use Rattle.std.proofs.lemmas.Result.{IfOk-weaker, IfErr-weaker}
use Rattle.step_parts.specs.Needs.{footprint}
use Rattle.mms_device.specs.declared.answers.Busy.{Busy}
use Rattle.mms_device.specs.Shared.{IsOf, Shared}
use Rattle.mms_device.specs.Taken.{AreHeld, HasLost}
use Rattle.mms_device.proofs.Outcomes.{clients_by_opening, actor_among, first_taken, first_wants, told_within, in_set}
use Rattle.mms_device.proofs.Leading.{may_taken}
use Rattle.mms_device.proofs.many.Device.take_told.Goals as goal

pub take_each-requires-clause-parts : goal.take_each-requires-clause-parts
take_each-requires-clause-parts g c =
    let config = c.self.inside.config.value in
    let table = c.requires.may.table ∙ sym (ap (λ (d : Shared). d.table) c.self.view_is) in
    let among = actor_among config c.args.pass.now c.args.event.now (subst (λ t. IsOf t config) (sym table) c.self.invariant.0) c.a_pass_knows_its_own_places.ensures.number c.requires.may.actor in
    told_within config c.self.inside.table c.args.event.now c.footprint-parts.result c.self.inside.clients c.self.invariant.0 c.self.invariant.2 among c.footprint-parts.ensures

pub returns-clause-taking : goal.returns-clause-taking
returns-clause-taking g c =
    let config = c.self.inside.config.value in
    let table = c.requires.may.table ∙ sym (ap (λ (d : Shared). d.table) c.self.view_is) in
    let many = clients_by_opening config c.args.pass.now.table (subst (λ t. IsOf t config) (sym table) c.self.invariant.0) ∙ sym c.self.invariant.2 in
    first_taken c.args.event.now c.self.inside.clients c.args.pass.now c.take_each.new.pass c.footprint-parts.result c.requires.idle many c.footprint-parts.ensures c.take_each.ensures.taken

pub returns-clause-may : goal.returns-clause-may
returns-clause-may g c = may_taken c.args.self.now c.args.event.now c.args.pass.now c.take_each.new.pass c.take_each.ensures.taken.pass c.requires.may

pub returns-clause-told : goal.returns-clause-told
returns-clause-told g c =
    let n = c.self.invariant.2 ∙ ap (λ (d : Shared). d.config.clients) c.self.view_is in
    let set = c.footprint-parts.ensures in
    let parts = c.footprint-parts.result in
    let new = c.take_each.new.pass in
    subst (λ (m : ℕ). Rattle.std.specs.Prelude.IfOk c.take_each.result (λ _. AreHeld new.taken (footprint m c.args.event.now) × (new.lost ≡ c.args.pass.now.lost))) n
    (IfOk-weaker c.take_each.result (λ _. AreHeld new.taken parts × (new.lost ≡ c.args.pass.now.lost))
    (λ _. AreHeld new.taken (footprint c.self.inside.clients c.args.event.now) × (new.lost ≡ c.args.pass.now.lost))
    (λ _ held. ((λ i is. held.0 i (in_set parts (footprint c.self.inside.clients c.args.event.now) i set is)), held.1)) c.take_each.ensures.held)

pub returns-clause-stopped : goal.returns-clause-stopped
returns-clause-stopped g c =
    let config = c.self.inside.config.value in
    let table = c.requires.may.table ∙ sym (ap (λ (d : Shared). d.table) c.self.view_is) in
    let many = clients_by_opening config c.args.pass.now.table (subst (λ t. IsOf t config) (sym table) c.self.invariant.0) ∙ sym c.self.invariant.2 in
    let old = c.args.pass.now in
    let new = c.take_each.new.pass in
    let parts = c.footprint-parts.result in
    IfErr-weaker c.take_each.result (λ (busy : Busy). Contains parts busy.part × (busy.by ≢ old.by) × (new.lost ≡ old.lost ++ (busy.part, busy.by) ∷ []))
    (λ (busy : Busy). HasLost c.args.event.now old new busy.part busy.by)
    (λ busy lost. (
      lost.1,
      lost.2,
      first_wants c.args.event.now c.self.inside.clients old new parts c.requires.idle many c.footprint-parts.ensures c.take_each.ensures.taken busy.part lost.0,
    )) c.take_each.ensures.lost
