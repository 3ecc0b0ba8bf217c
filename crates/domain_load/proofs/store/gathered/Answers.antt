use Rattle.std.proofs.Common.{◌≡◌, ◌∙◌, ◌-◌, ◌+◌, ◌++◌, ◌∷◌, ap, arith, drop, length, map, sym, take}
use Rattle.std.proofs.lemmas.List.{drop_more}
use Rattle.std.specs.List.{concat}
use Rattle.domain_load.proofs.BlockLemmas.{gather_step}
use Rattle.domain_load.proofs.store.gathered.Goals as goal

pub loop-block-preserved : goal.loop-block-preserved
loop-block-preserved c =
    let block = c.block-item.result in
    let all = c.args.blocks.now in
    let index = c.loop-block.block-index in
    let out = c.loop-block.octets.items in
    let skip = c.loop-block.skip in
    let most = c.args.most in
    let wanted = take most (drop c.args.from (concat (map (λ block. block.items) all))) in
    let later = map (λ block. block.items) (drop (index + 1) all) in
    let here : drop index all ≡ block ∷ drop (index + 1) all =
    drop_more all index block c.loop-block-test.true ∙ ap (λ b. b ∷ drop (index + 1) all) (sym c.block-item.is) in
    let before = ap (λ bs. out ++ take (most - length out) (drop skip (concat (map (λ block. block.items) bs)))) (sym here) ∙ c.loop-block.invariant in
    let ok = c.loop-block.octets.ok in
    let own = block.ok in
    let left_is : c.saturating_sub-left.result ≡ most - length out = omega (arith, c.saturating_sub-left.ensures, c.len.ensures, ok) in
    let skip_is : c.saturating_sub-skip.result ≡ skip - length block.items = omega (arith, c.saturating_sub-skip.ensures, c.len-in-loop-block.ensures, own) in
    let is : c.put_part.new.out.items ≡ out ++ take (most - length out) (drop skip block.items) =
    c.in_ok-put_part.ensures
    ∙ ap (λ n. out ++ take n (drop skip c.deref.result.now)) left_is
    ∙ ap (λ b. out ++ take (most - length out) (drop skip b)) c.deref.ensures.value in
    ap (λ xs. xs ++ take (most - length xs) (drop c.saturating_sub-skip.result (concat later))) is
    ∙ ap (λ s. (out ++ take (most - length out) (drop skip block.items))
    ++ take (most - length (out ++ take (most - length out) (drop skip block.items))) (drop s (concat later))) skip_is
    ∙ gather_step block.items later out wanted skip most before
