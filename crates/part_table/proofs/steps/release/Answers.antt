use Rattle.std.proofs.Common.{arith, ◌∙◌, ◌∷◌, ap, Some}
use Rattle.std.specs.Box.{box_value}
use Rattle.atomic_table.specs.Table.{rest}
use Rattle.part_table.specs.Rule.{setting_of}
use Rattle.part_table.proofs.Claims.{releases_at}
use Rattle.part_table.proofs.steps.release.Goals as goal

pub store-requires : goal.store-requires
store-requires g c =
    let o = g.O.Object in
    let e = c.exchange.ensures in (
      e.0 ∙ c.requires.table,
      omega (arith, c.requires.sizes.words, c.requires.part, c.owner_word_at-word.ensures),
      rw c.owner_word_at-word.ensures (releases_at box_value o.step o.may_make (setting_of c.args.table.now.shared.key) _ _ _ c.args.seat.now.me.0 _ c.args.part c.args.held (e.3 ∙ ap (λ k. (c.args.seat.now.me.0, (k, Some c.args.held) ∷ rest c.args.seat.now.me.1)) c.slot_at-slot.ensures) c.requires.part c.requires.held),
    )
