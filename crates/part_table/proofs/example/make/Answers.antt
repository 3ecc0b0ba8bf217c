use Rattle.std.proofs.Common.{◌≡◌, List, Option, ℕ, length, ap, sym, ◌∙◌, subst}
use Rattle.part_table.specs.Amounts.{IsShown, IsTouched, moved, shown_is_touched}
use Rattle.part_table.specs.History.{replayed}
use Rattle.part_table.specs.Known.{nothing}
use Rattle.part_table.proofs.Callers.{given_after_loss}
use Rattle.part_table.proofs.example.make.Goals as goal

pub returns-in-Err-clause-lost : goal.returns-in-Err-clause-lost
returns-in-Err-clause-lost c =
    let lost = c.in-Err.ensures.lost in
    let move = c.args.event.now in
    let part = lost.1.0 in
    let saw = c.see.new.pass in
    let given = c.give_all.new.pass in
    let shown : IsShown move saw.taken part = subst (λ (l : List (Option ℕ)). IsShown move l part) (sym (ap (λ p. p.taken) c.see.ensures.kept)) lost.1.1 in
    let there : IsTouched move (replayed moved saw.table.opening saw.seen) part = shown_is_touched move saw.taken _ part c.see.ensures.parts shown in
    let table : saw.table ≡ c.args.table.now = ap (λ p. p.table) c.see.ensures.kept ∙ ap (λ p. p.table) c.take_touched.ensures.kept ∙ c.requires.table in
    let seen : given.seen ≡ saw.seen = ap (λ p. p.seen) c.give_all.ensures in
    let touched : IsTouched move (replayed moved c.args.table.now.opening given.seen) part =
    subst (λ k. IsTouched move (replayed moved k.opening given.seen) part) table (subst (λ h. IsTouched move (replayed moved saw.table.opening h) part) (sym seen) there) in
    let opening : length c.args.pass.now.table.opening ≡ c.args.parts = ap (λ k. length k.opening) c.requires.table ∙ sym c.requires.parts.0 in
    let free : c.args.pass.now.taken ≡ nothing c.args.parts = c.requires.idle.0 ∙ ap (λ n. nothing n) opening in
    let free_hand : c.args.pass.now.hand ≡ nothing c.args.parts = c.requires.idle.1 ∙ ap (λ n. nothing n) opening in (
      lost.0,
      (
        part,
        touched,
        given_after_loss c.args.pass.now c.take_touched.new.pass saw given c.args.parts _ c.take_touched.ensures.kept c.see.ensures.kept c.give_all.ensures free free_hand c.requires.idle.2 lost.1.2,
      ),
    )
