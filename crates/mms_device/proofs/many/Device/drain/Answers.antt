use Rattle.std.proofs.Common.{ℕ, List, refl, sym, ap, ◌∙◌, subst}
use Rattle.mms_types.specs.declared.event.CellEvent.TheVariants.{Drain}
use Rattle.step_parts.specs.After.{after, parts_after}
use Rattle.step_parts.specs.Needs.{footprint, need}
use Rattle.part_table.specs.Held.{IsHandOf}
use Rattle.part_table.specs.History.{replayed}
use Rattle.mms_device.specs.Making.{MayMake}
use Rattle.step_parts.specs.Step.{said}
use Rattle.mms_device.specs.Shared.{Caller, IsOf, Shared, IsBusy, all_events}
use Rattle.mms_device.specs.Taken.{AreHeld}
use Rattle.mms_device.proofs.Draining.{may_drain, drain_small, drain_busy, drain_may, drain_client, drain_need, drain_step, drain_said, drain_served}
use Rattle.mms_device.proofs.many.Device.drain.Goals as goal

pub take_told-requires-clause-may : goal.take_told-requires-clause-may
take_told-requires-clause-may g c = record {
  table = c.requires.table;
  actor = may_drain c.args.pass.now.by c.by-client.result c.by-client.ensures c.requires.client;
  time = tt;
}

pub returns-in-Err-clause-busy : goal.returns-in-Err-clause-busy
returns-in-Err-clause-busy g c =
    let config = c.self.inside.config.value in
    let table = c.requires.table ∙ sym (ap (λ (d : Shared). d.table) c.self.view_is) in
    let of_table = subst (λ t. IsOf t config) (sym table) c.self.invariant.0 in
    subst (λ (d : Shared). IsBusy d.config (Drain c.args.pass.now.by) c.args.pass.now c.give_all.new.pass c.in-Err.busy.part c.in-Err.busy.by) c.self.view_is
    (drain_busy config c.self.invariant.1 c.args.pass.now c.take_told.new.pass c.see.new.pass c.by-client.result of_table c.requires.idle c.a_pass_knows_its_own_places.ensures c.by-client.ensures
    c.requires.client c.take_told.ensures.taking c.see.ensures.kept c.see.ensures.seen c.a_pass_knows_its_own_places-in-Err.ensures c.see.ensures.parts c.give_all.new.pass c.in-Err.busy.part c.in-Err.busy.by
    c.give_all.ensures c.in-Err.ensures.stopped)

pub drain-outputs-requires-clause-small : goal.drain-outputs-requires-clause-small
drain-outputs-requires-clause-small g c =
    let config = c.self.inside.config.value in
    let table = c.requires.table ∙ sym (ap (λ (d : Shared). d.table) c.self.view_is) in
    let of_table = subst (λ t. IsOf t config) (sym table) c.self.invariant.0 in
    drain_small config c.self.invariant.1 c.args.pass.now c.take_told.new.pass c.see-2.new.pass c.by-client.result of_table c.requires.idle c.a_pass_knows_its_own_places.ensures c.by-client.ensures
    c.requires.client c.take_told.ensures.taking c.see-2.ensures.kept c.see-2.ensures.seen c.a_pass_knows_its_own_places-2.ensures c.see-2.ensures.parts

pub drain-outputs-requires-clause-held : goal.drain-outputs-requires-clause-held
drain-outputs-requires-clause-held g c =
    let config = c.self.inside.config.value in
    let table = c.requires.table ∙ sym (ap (λ (d : Shared). d.table) c.self.view_is) in
    let of_table = subst (λ t. IsOf t config) (sym table) c.self.invariant.0 in
    let told = subst (λ (d : Shared). AreHeld c.take_told.new.pass.taken (footprint d.config.clients (Drain c.by-client.result))) (sym c.self.view_is) c.in_default.ensures.told.0 in
    drain_client config c.self.invariant.1 c.args.pass.now c.take_told.new.pass c.see-2.new.pass c.by-client.result of_table c.requires.idle c.a_pass_knows_its_own_places.ensures c.by-client.ensures
    c.requires.client c.take_told.ensures.taking c.see-2.ensures.kept c.see-2.ensures.seen c.a_pass_knows_its_own_places-2.ensures c.see-2.ensures.parts told c.see-2.new.pass.hand refl

pub commit-ticket-requires-clause-enough : goal.commit-ticket-requires-clause-enough
commit-ticket-requires-clause-enough g c =
    let config = c.self.inside.config.value in
    let table = c.requires.table ∙ sym (ap (λ (d : Shared). d.table) c.self.view_is) in
    let of_table = subst (λ t. IsOf t config) (sym table) c.self.invariant.0 in
    let told = subst (λ (d : Shared). AreHeld c.take_told.new.pass.taken (footprint d.config.clients (Drain c.by-client.result))) (sym c.self.view_is) c.in_default.ensures.told.0 in
    ap (λ (x : Caller). need (Drain c.by-client.result) x.taken) c.drain-outputs.ensures.pass
    ∙ drain_need config c.self.invariant.1 c.args.pass.now c.take_told.new.pass c.see-2.new.pass c.by-client.result of_table c.requires.idle c.a_pass_knows_its_own_places.ensures c.by-client.ensures
    c.requires.client c.take_told.ensures.taking c.see-2.ensures.kept c.see-2.ensures.seen c.a_pass_knows_its_own_places-2.ensures c.see-2.ensures.parts told

pub commit-ticket-requires-clause-stepped : goal.commit-ticket-requires-clause-stepped
commit-ticket-requires-clause-stepped g c =
    let config = c.self.inside.config.value in
    let table = c.requires.table ∙ sym (ap (λ (d : Shared). d.table) c.self.view_is) in
    let of_table = subst (λ t. IsOf t config) (sym table) c.self.invariant.0 in
    let told = subst (λ (d : Shared). AreHeld c.take_told.new.pass.taken (footprint d.config.clients (Drain c.by-client.result))) (sym c.self.view_is) c.in_default.ensures.told.0 in
    drain_step config c.self.invariant.1 c.args.pass.now c.take_told.new.pass c.see-2.new.pass c.by-client.result of_table c.requires.idle c.a_pass_knows_its_own_places.ensures c.by-client.ensures
    c.requires.client c.take_told.ensures.taking c.see-2.ensures.kept c.see-2.ensures.seen c.a_pass_knows_its_own_places-2.ensures c.see-2.ensures.parts told c.see-2.new.pass.hand c.drain-outputs.new.pass.hand
    refl c.drain-outputs.ensures.parts
    ∙ ap (λ (x : Caller). after (Drain c.by-client.result) x.taken) (sym c.drain-outputs.ensures.pass)

pub commit-ticket-requires-clause-may : goal.commit-ticket-requires-clause-may
commit-ticket-requires-clause-may g c =
    let config = c.self.inside.config.value in
    let table = c.requires.table ∙ sym (ap (λ (d : Shared). d.table) c.self.view_is) in
    let of_table = subst (λ t. IsOf t config) (sym table) c.self.invariant.0 in
    subst (λ (k : ℕ). MayMake k (Drain c.by-client.result)) (sym (ap (λ (x : Caller). x.by) c.drain-outputs.ensures.pass))
    (drain_may config c.self.invariant.1 c.args.pass.now c.take_told.new.pass c.see-2.new.pass c.by-client.result of_table c.requires.idle c.a_pass_knows_its_own_places.ensures c.by-client.ensures
    c.requires.client c.take_told.ensures.taking c.see-2.ensures.kept c.see-2.ensures.seen c.a_pass_knows_its_own_places-2.ensures c.see-2.ensures.parts)

pub returns-clause-served : goal.returns-clause-served
returns-clause-served g c =
    let config = c.self.inside.config.value in
    let table = c.requires.table ∙ sym (ap (λ (d : Shared). d.table) c.self.view_is) in
    let of_table = subst (λ t. IsOf t config) (sym table) c.self.invariant.0 in
    let told = subst (λ (d : Shared). AreHeld c.take_told.new.pass.taken (footprint d.config.clients (Drain c.by-client.result))) (sym c.self.view_is) c.in_default.ensures.told.0 in
    let added = c.commit-ticket.ensures.added in (
      added.0,
      drain_served config c.self.invariant.1 c.args.pass.now c.take_told.new.pass c.see-2.new.pass c.by-client.result of_table c.requires.idle c.a_pass_knows_its_own_places.ensures c.by-client.ensures
          c.requires.client c.take_told.ensures.taking c.see-2.ensures.kept c.see-2.ensures.seen c.a_pass_knows_its_own_places-2.ensures c.see-2.ensures.parts c.drain-outputs.new.pass c.commit-ticket.new.pass
          c.give_all-2.new.pass c.commit-ticket.result added.0 c.in_default.ensures.told.1 c.drain-outputs.ensures.pass added.1 added.2 c.commit-ticket.ensures.place c.commit-ticket.ensures.places c.give_all-2.ensures,
      c.drain-outputs.ensures.outputs
          ∙ drain_said config c.self.invariant.1 c.args.pass.now c.take_told.new.pass c.see-2.new.pass c.by-client.result of_table c.requires.idle c.a_pass_knows_its_own_places.ensures c.by-client.ensures
          c.requires.client c.take_told.ensures.taking c.see-2.ensures.kept c.see-2.ensures.seen c.a_pass_knows_its_own_places-2.ensures c.see-2.ensures.parts told c.see-2.new.pass.hand added.0
          refl (subst (λ (x : Caller). IsHandOf x.taken (replayed parts_after x.table.opening added.0)) c.drain-outputs.ensures.pass added.3)
          ∙ ap (λ (d : Shared). said d.config (all_events added.0) c.args.pass.now.by) c.self.view_is,
    )
