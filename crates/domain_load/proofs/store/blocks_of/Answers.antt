use Rattle.std.proofs.Common.{◌≡◌, ◌∙◌, ◌≢◌, ◌++◌, ◌∷◌, [], ap, arith, length, map, subst, sym}
use Rattle.std.proofs.lemmas.List.{length-append, map_push}
use Rattle.std.specs.List.{concat}
use Rattle.domain_load.specs.Kept.{AreBlocks, AreFull}
use Rattle.domain_load.proofs.BlockLemmas.{cut_off}
use Rattle.domain_load.proofs.store.blocks_of.Goals as goal

pub loop-rest-preserved : goal.loop-rest-preserved
loop-rest-preserved c =
    let old = c.loop-rest.blocks.items in
    let bs = map (λ block. block.items) old in
    let front = c.split_at.result.0.now in
    let later = c.split_at.result.1.now in
    let is : map (λ block. block.items) c.push.new.self.items ≡ bs ++ front ∷ [] =
    ap (map (λ block. block.items)) c.in_ok-push.ensures.items ∙ map_push (λ block. block.items) old c.in_ok-block_of.field-0
    ∙ ap (λ b. bs ++ b ∷ []) c.in_ok-block_of.ensures in
    let there : c.loop-rest.rest.now ≢ [] = λ none. let l = ap length none in absurd (omega (arith, l, c.loop-rest-test.true)) in
    let cut = cut_off bs front later c.loop-rest.rest.now c.args.octets.now c.min.result c.loop-rest.invariant.joined
    (c.loop-rest.invariant.full there) c.min.ensures c.split_at.ensures.front c.split_at.ensures.back in
    record {
      joined = ap (λ xs. concat xs ++ later) is ∙ cut.0;
      blocks = subst AreBlocks (sym is) cut.1;
      full = λ more. subst AreFull (sym is) (cut.2 more);
      none = λ none.
          let l = ap length (c.loop-rest.invariant.joined ∙ none) in
          let k = length-append (concat bs) c.loop-rest.rest.now in
          absurd (omega (arith, l, k, c.loop-rest-test.true));
    }
