use Rattle.std.proofs.Common.{◌≡◌, ◌∙◌, ◌-◌, ◌/◌, ◌%◌, ap, arith, drop, length, map, min, sym, take}
use Rattle.std.proofs.lemmas.List.{drop-map, length-map}
use Rattle.std.proofs.lemmas.Result.{IfOk-weaker}
use Rattle.std.specs.List.{concat}
use Rattle.domain_load.proofs.BlockLemmas.{piece_is}
use Rattle.domain_load.proofs.store.Store.piece.Goals as goal

pub returns : goal.returns
returns c =
    let kept = c.self.inside.blocks.items in
    let bs = map (λ block. block.items) kept in
    let from = c.args.from in
    let count = c.min-count.result in
    let most : count ≡ min c.args.most (length (concat bs) - from) = omega (arith, c.min-count.ensures, c.saturating_sub.ensures, c.self.invariant.1) in
    let first : c.min.result ≡ min (from / 4096) (length bs) =
    c.min.ensures ∙ ap (λ xs. min (from / 4096) (length xs)) c.as_slice-blocks.ensures.value ∙ ap (min (from / 4096)) (sym (length-map kept (λ block. block.items))) in
    let behind : map (λ block. block.items) c.split_at.result.1.now ≡ drop (min (from / 4096) (length bs)) bs =
    ap (map (λ block. block.items)) (c.split_at.ensures.back ∙ ap (drop c.min.result) c.as_slice-blocks.ensures.value)
    ∙ sym (drop-map (λ block. block.items) c.min.result kept) ∙ ap (λ n. drop n bs) first in
    IfOk-weaker c.gathered.result _ _
    (λ octets is.
    is
    ∙ ap (λ xs. take count (drop (from % 4096) (concat xs))) behind
    ∙ piece_is bs from c.args.most count c.self.invariant.0 most
    ∙ ap (λ xs. take c.args.most (drop from xs)) c.self.view_is)
    c.gathered.ensures
