-- No more tokens are owned or hung than there are.
use Rattle.std.proofs.Common.{◌≡◌, ℕ, ◌+◌, ◌<◌, ◌≤◌, inl, Bool, true, false, ◌==◌, List, [], ◌∷◌, length, zero, suc, refl, subst, arith}
use Rattle.std.specs.Prelude.{count_by}
use Rattle.std.proofs.lemmas.Bool.Decides.{nat_tests}
use Rattle.token_sem.specs.declared.entry.SemEntry.{SemEntry}
use Rattle.token_sem.specs.Semaphore.{is_owner, is_hung, holds}
use Rattle.token_sem.proofs.Keeping.{owned-and-hung}
use Rattle.pool_sem.specs.Pools.{Pool, IsPool, has}
use Rattle.pool_sem.proofs.Counting.{weight, weight-yes, weight-no, count-cons, none-among}
use Rattle.pool_sem.proofs.Freeing.{unplaced, same-token, holder-has, token-there}

-- how many entries have one of the first n tokens, token by token
abbrev having : ℕ → List SemEntry → ℕ
having zero es = 0
having (suc n) es = having n es + count_by (has n) es

having-cons : (n : ℕ) (e : SemEntry) (es : List SemEntry) → having n (e ∷ es) ≡ having n (e ∷ []) + having n es
having-cons zero e es = omega arith
having-cons (suc n) e es =
    let ih : having n (e ∷ es) ≡ having n (e ∷ []) + having n es = having-cons n e es in
    omega (arith, ih, count-cons (has n) e es, count-cons (has n) e [])

having-one : (n t : ℕ) (e : SemEntry) → has t e ≡ true → t < n → 1 ≤ having n (e ∷ [])
having-one zero t e h lt = absurd (omega arith)
having-one (suc n) t e h lt = by_token (t == n) refl (having-one n t e h)
  where
    by_token : (b : Bool) → (t == n) ≡ b → (t < n → 1 ≤ having n (e ∷ [])) → 1 ≤ having n (e ∷ []) + count_by (has n) (e ∷ [])
    by_token true d ih =
        let one : weight (has n) e ≡ 1 = weight-yes (has n) e (subst (λ u. has u e ≡ true) (same-token t n d) h) in
        omega (arith, count-cons (has n) e [], one)
    by_token false d ih =
        let below : t < n = grind (arith, nat_tests) in
        let rest : 1 ≤ having n (e ∷ []) = ih below in
        omega (arith, rest)

having-most : (n : ℕ) (es : List SemEntry) → ((u : ℕ) → count_by (has u) es ≤ 1) → having n es ≤ n
having-most zero es once = omega arith
having-most (suc n) es once =
    let ih : having n es ≤ n = having-most n es once in
    let one : count_by (has n) es ≤ 1 = once n in
    omega (arith, ih, one)

holders-most : (n : ℕ) (es : List SemEntry) → count_by (unplaced n) es ≡ 0 → count_by holds es ≤ having n es
holders-most n [] z = omega arith
holders-most n (e ∷ es) z = by_test (holds e) refl (holders-most n es (omega (arith, count-cons (unplaced n) e es, z)))
  where
    by_test : (b : Bool) → holds e ≡ b → count_by holds es ≤ having n es → count_by holds (e ∷ es) ≤ having n (e ∷ es)
    by_test true t ih =
        let there = token-there n e (none-among (unplaced n) (e ∷ es) e (inl refl) z) t in
        let one : 1 ≤ having n (e ∷ []) = having-one n there.0 e (holder-has there.0 e t there.1) there.2 in
        let it : weight holds e ≡ 1 = weight-yes holds e t in
        omega (arith, count-cons holds e es, having-cons n e es, one, it, ih)
    by_test false t ih =
        let it : weight holds e ≡ 0 = weight-no holds e t in
        omega (arith, count-cons holds e es, having-cons n e es, it, ih)

-- an entry that has a token is owner or hung
pub held-most : (p : Pool) → IsPool p → count_by is_owner p.entries + count_by is_hung p.entries ≤ length p.tokens
held-most p is =
    let all : count_by is_owner p.entries + count_by is_hung p.entries ≡ count_by holds p.entries = owned-and-hung p.entries in
    let most : count_by holds p.entries ≤ having (length p.tokens) p.entries = holders-most (length p.tokens) p.entries is.placed in
    let few : having (length p.tokens) p.entries ≤ length p.tokens = having-most (length p.tokens) p.entries is.once in
    omega (arith, all, most, few)
