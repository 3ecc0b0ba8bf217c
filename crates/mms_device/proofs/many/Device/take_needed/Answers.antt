use Rattle.std.proofs.Common.{◌<◌, ℕ, length, sym, ap, ◌∙◌, subst}
use Rattle.std.specs.Prelude.{Contains}
use Rattle.part_table.specs.Held.{IsHandOf}
use Rattle.step_parts.specs.Partition.{parts_of}
use Rattle.mms_device.specs.Shared.{IsOf, Shared, led_to}
use Rattle.mms_device.proofs.Outcomes.{actor_among, fewer_on, missing_shown, missing_within, sees}
use Rattle.mms_device.proofs.many.Device.take_needed.Goals as goal

pub take_each-requires-clause-parts : goal.take_each-requires-clause-parts
take_each-requires-clause-parts g c =
    let config = c.self.inside.config.value in
    let old = c.args.pass.now in
    let table = c.requires.may.table ∙ sym (ap (λ (d : Shared). d.table) c.self.view_is) in
    let is = subst (λ t. IsOf t config) (sym table) c.self.invariant.0 in
    let of = subst (λ (d : Shared). IsHandOf old.taken (parts_of (led_to d.config old.seen))) (sym c.self.view_is) c.requires.needed.of in
    let among = actor_among config old c.args.event.now is c.a_pass_knows_its_own_places.ensures.number c.requires.may.actor in
    subst (λ t. (i : ℕ) → Contains c.args.needed.now i → i < length t.opening) table
    (missing_within config old (sees config old c.self.invariant.1 is of c.requires.hand) c.args.event.now old.taken c.args.needed.now (sym c.requires.hand) c.requires.needed.set among)

pub returns-clause-shown : goal.returns-clause-shown
returns-clause-shown g c =
    let config = c.self.inside.config.value in
    let old = c.args.pass.now in
    let table = c.requires.may.table ∙ sym (ap (λ (d : Shared). d.table) c.self.view_is) in
    let of = subst (λ (d : Shared). IsHandOf old.taken (parts_of (led_to d.config old.seen))) (sym c.self.view_is) c.requires.needed.of in
    missing_shown config old (sees config old c.self.invariant.1 (subst (λ t. IsOf t config) (sym table) c.self.invariant.0) of c.requires.hand) c.args.event.now old.taken c.args.needed.now
    (sym c.requires.hand) c.requires.needed.set

pub returns-clause-fewer : goal.returns-clause-fewer
returns-clause-fewer g c =
    let config = c.self.inside.config.value in
    let old = c.args.pass.now in
    let table = c.requires.may.table ∙ sym (ap (λ (d : Shared). d.table) c.self.view_is) in
    let of = subst (λ (d : Shared). IsHandOf old.taken (parts_of (led_to d.config old.seen))) (sym c.self.view_is) c.requires.needed.of in
    fewer_on config old (sees config old c.self.invariant.1 (subst (λ t. IsOf t config) (sym table) c.self.invariant.0) of c.requires.hand) c.args.event.now old.taken c.args.needed.now
    (sym c.requires.hand) c.requires.needed.set c.take_each.new.pass c.take_each.result c.take_each.ensures.taken c.take_each.ensures.held
