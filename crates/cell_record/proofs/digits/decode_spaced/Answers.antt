use Rattle.std.proofs.Common.{arith, ◌≡◌, ◌==◌, ℕ, List, ◌+◌, ap, sym, ◌∙◌, ◌++◌, true, false, get_or, drop}
use Rattle.std.proofs.lemmas.Bool.Decides.{nat_tests}
use Rattle.std.specs.Option.{option_map}
use Rattle.cell_record.specs.Words.{pairs_of}
use Rattle.cell_record.proofs.OneFurther.{space_more, pair_more, pair_broken, broken_by, put_pair, is_none}
use Rattle.cell_record.proofs.digits.decode_spaced.Goals as goal

pub loop-at-preserved-then-text-at-eq32 : goal.loop-at-preserved-then-text-at-eq32
loop-at-preserved-then-text-at-eq32 c =
    let is_space : (get_or c.args.text.now c.loop-at.at 0 == 32) ≡ true = grind (arith, nat_tests, c.if-text-at-eq32.true) in
    record {
      within = omega arith;
      rest = ap (option_map (λ os. c.loop-at.octets.items ++ os)) (sym (space_more c.args.text.now c.loop-at.at 0 (omega arith) is_space)) ∙ c.loop-at.invariant.rest;
    }

pub returns-then-is_broken-clause-none : goal.returns-then-is_broken-clause-none
returns-then-is_broken-clause-none c = λ _.
    let no_space : (get_or c.args.text.now c.loop-at.at 0 == 32) ≡ false = grind (arith, nat_tests, c.if-text-at-eq32.false) in
    let broken = broken_by (get_or c.args.text.now c.loop-at.at 0) (get_or c.args.text.now (c.loop-at.at + 1) 0) c.nibble-high.result c.nibble-low.result true c.nibble-high.ensures.value c.nibble-low.ensures.value c.if-is_broken.ensures.broken in
    sym (is_none (pairs_of (drop c.loop-at.at c.args.text.now)) (pairs_of c.args.text.now) c.loop-at.octets.items (pair_broken c.args.text.now c.loop-at.at 0 (omega arith) no_space broken) c.loop-at.invariant.rest)

pub loop-at-preserved : goal.loop-at-preserved
loop-at-preserved c =
    let no_space : (get_or c.args.text.now c.loop-at.at 0 == 32) ≡ false = grind (arith, nat_tests, c.if-text-at-eq32.false) in
    let whole = broken_by (get_or c.args.text.now c.loop-at.at 0) (get_or c.args.text.now (c.loop-at.at + 1) 0) c.nibble-high.result c.nibble-low.result false c.nibble-high.ensures.value c.nibble-low.ensures.value c.if-is_broken.ensures.broken in
    record {
      within = omega arith;
      rest = ap (λ (items : List ℕ). option_map (λ os. items ++ os) (pairs_of (drop (c.loop-at.at + 2) c.args.text.now))) (c.in_ok-push.ensures.items ∙ put_pair (get_or c.args.text.now c.loop-at.at 0) (get_or c.args.text.now (c.loop-at.at + 1) 0) c.nibble-high.result c.nibble-low.result c.loop-at.octets.items c.nibble-high.ensures.value c.nibble-low.ensures.value)
          ∙ sym (pair_more c.args.text.now c.loop-at.at 0 c.loop-at.octets.items (omega arith) no_space whole)
          ∙ c.loop-at.invariant.rest;
    }
