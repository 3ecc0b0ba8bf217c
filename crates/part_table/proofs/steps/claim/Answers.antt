use Rattle.std.proofs.Common.{◌≡◌, rules, arith, sym, ◌∙◌, ap, Some, ◌∷◌, ◌-◌, ◌<◌}
use Rattle.std.specs.Box.{box_value}
use Rattle.atomic_table.specs.Table.{rest}
use Rattle.part_table.specs.Lines.{slot_of}
use Rattle.part_table.specs.Passes.{number_of}
use Rattle.part_table.specs.Rule.{setting_of}
use Rattle.part_table.proofs.Claims.{claims_by, taken, lost, came_out, taken_out}
use Rattle.part_table.proofs.steps.claim.Goals as goal

pub compare_exchange-found-requires : goal.compare_exchange-found-requires
compare_exchange-found-requires g c =
    let o = g.O.Object in
    let number : c.args.by ≡ c.from-owner.result = search rules in (
      c.requires.table,
      omega (arith, c.requires.sizes.words, c.requires.part, c.owner_word_at-word.ensures),
      rw c.owner_word_at-word.ensures (claims_by box_value o.step o.may_make (setting_of c.args.table.now.shared.key) _ _ c.from-owner.result c.args.seat.now.me _ c.args.part c.requires.number number c.requires.part c.requires.free),
    )

pub exchange-requires : goal.exchange-requires
exchange-requires g c =
    let e = c.compare_exchange-found.ensures in
    let t = taken box_value c.args.part _ _ _ _ c.owner_word_at-word.ensures c.if-found-ne0.false e.2 in
    (e.0 ∙ c.requires.table, rw c.slot_at-slot.ensures (Some t.0, ap (λ q. q.1) t.1 ∙ ap (λ l. (slot_of c.args.part, Some t.0) ∷ rest l) (sym (ap (λ q. q.1) t.1))))

pub overflow_cast-by : goal.overflow_cast-by
overflow_cast-by g c =
    let l = lost box_value c.args.part _ c.args.seat.now.me c.compare_exchange-found.new.seat.me c.compare_exchange-found.result c.owner_word_at-word.ensures c.if-found-ne0.true c.compare_exchange-found.ensures.2 in
    let below : c.compare_exchange-found.result - 1 < c.args.seat.now.me.0.setting.callers = l.1 in
    omega (arith, below, c.requires.few)

pub returns-then-found-ne0-clause-lost : goal.returns-then-found-ne0-clause-lost
returns-then-found-ne0-clause-lost g c =
    let l = lost box_value c.args.part _ c.args.seat.now.me c.compare_exchange-found.new.seat.me c.compare_exchange-found.result c.owner_word_at-word.ensures c.if-found-ne0.true c.compare_exchange-found.ensures.2 in
    ((λ e. l.0 (e ∙ sym (ap number_of c.requires.number))), l.1, l.2)

pub unreachable-requires : goal.unreachable-requires
unreachable-requires g c =
    let t = taken box_value c.args.part _ _ _ _ c.owner_word_at-word.ensures c.if-found-ne0.false c.compare_exchange-found.ensures.2 in
    c.in_default.not-Some t.0 (came_out box_value c.args.part _ _ _ _ c.slot_at-slot.ensures t c.exchange.ensures.2)

pub returns-clause-taken : goal.returns-clause-taken
returns-clause-taken g c =
    let t = taken box_value c.args.part _ _ _ _ c.owner_word_at-word.ensures c.if-found-ne0.false c.compare_exchange-found.ensures.2 in
    taken_out box_value c.args.part _ _ _ _ c.slot_at-slot.ensures t c.exchange.ensures.2 _ c.in-Some.held c.in-Some.is c.exchange.ensures.3
