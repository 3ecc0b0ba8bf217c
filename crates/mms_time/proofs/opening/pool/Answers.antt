use Rattle.std.proofs.Common.{◌≡◌, ℕ, ◌≤◌, ◌∙◌, List, ap, length, subst, sym}
use Rattle.object_names.specs.Listing.{sorted_names}
use Rattle.pool_sem.specs.Pools.{NamesRise}
use Rattle.mms_time.proofs.TokenNames.{few_tokens, names_rise, some_tokens}
use Rattle.mms_time.proofs.opening.pool.Goals as goal

pub new-requires-clause-sorted : goal.new-requires-clause-sorted
new-requires-clause-sorted c =
    let are : c.in_order-tokens.result.items ≡ sorted_names c.args.row.now.tokens = c.in_order-tokens.ensures ∙ ap sorted_names (c.in_ok-copied.ensures ∙ c.as_slice.ensures) in
    subst (λ (names : List (List ℕ)). NamesRise names) (sym are) (names_rise c.args.row.now c.requires)

pub new-requires-clause-some : goal.new-requires-clause-some
new-requires-clause-some c =
    let are : c.in_order-tokens.result.items ≡ sorted_names c.args.row.now.tokens = c.in_order-tokens.ensures ∙ ap sorted_names (c.in_ok-copied.ensures ∙ c.as_slice.ensures) in
    subst (λ (names : List (List ℕ)). 1 ≤ length names) (sym are) (some_tokens c.args.row.now c.requires)

pub new-requires-clause-few : goal.new-requires-clause-few
new-requires-clause-few c =
    let are : c.in_order-tokens.result.items ≡ sorted_names c.args.row.now.tokens = c.in_order-tokens.ensures ∙ ap sorted_names (c.in_ok-copied.ensures ∙ c.as_slice.ensures) in
    subst (λ (names : List (List ℕ)). length names ≤ 256) (sym are) (few_tokens c.args.row.now c.requires)
