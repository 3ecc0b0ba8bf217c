use Rattle.std.proofs.Common.{◌≡◌, ◌<◌, length, replicate, ◌≤◌, arith, sym, ◌∙◌, ap, mul-le-mul}
use Rattle.std.proofs.lemmas.List.{length-map}
use Rattle.std.specs.Box.{box_value}
use Rattle.part_table.specs.Lines.{laid_apart, owner_word, slot_of}
use Rattle.part_table.specs.Rule.{setting_of}
use Rattle.part_table.proofs.Opening.{opens, zeros_length, length_laid}
use Rattle.part_table.proofs.table.PartTable.new.Goals as goal

pub new-requires : goal.new-requires
new-requires g c =
    let same = ap (λ v. v.items) c.of.ensures in
    let count : c.len-count.result ≡ length c.args.parts.items = omega (arith, c.len-count.ensures, c.args.parts.ok) in
    let some_caller : 0 < c.args.callers = omega (arith, c.requires.callers.0) in
    opens box_value g.O.Object.step g.O.Object.may_make c.of.result.value.items c.args.callers c.args.quota _ c.in_ok-slots.slots.items (c.in_ok-slots.ensures ∙ ap laid_apart (sym same))
    (c.deref.ensures.value ∙ c.in_ok-words.ensures ∙ ap (λ n. replicate (owner_word n) 0) (count ∙ ap length (sym same))) some_caller
    (mul-le-mul c.requires.callers.1 c.requires.quota)

pub invariant_of-result : goal.invariant_of-result
invariant_of-result g c =
    let made = c.in-Ok.ensures.ok in
    let same = ap (λ v. v.items) c.of.ensures in
    let many : length c.args.parts.items ≡ length (setting_of c.in-Ok.table.shared.key).opening =
    ap length (sym same) ∙ sym (length-map c.of.result.value.items box_value) ∙ sym (ap (λ k. length (setting_of k).opening) made.5) in
    let words = ap length (c.deref.ensures.value ∙ c.in_ok-words.ensures) ∙ zeros_length _ in
    let few : length c.args.parts.items ≤ 256 = omega (arith, c.requires.parts.1, c.args.parts.ok) in
    let callers = ap (λ k. k.callers) made.5 in
    record {
      slots = made.1 ∙ ap length c.in_ok-slots.ensures ∙ length_laid c.args.parts.items ∙ ap slot_of many;
      words = made.0 ∙ words ∙ ap owner_word (let n = c.len-count.ensures in omega (arith, n, many, c.args.parts.ok));
      few = (omega (arith, few, many), omega (arith, callers, c.requires.callers.0), omega (arith, callers, c.requires.callers.1));
    }
