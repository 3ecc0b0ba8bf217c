-- What is looked for from both ends of the entries, where there is one at most.
use Rattle.std.proofs.Common.{◌≡◌, ℕ, zero, suc, ◌+◌, ◌-◌, ◌<◌, ◌≤◌, inl, inr, Bool, true, false, cond, ◌&&◌, List, [], ◌∷◌, length, get_or, find, Option, None, Some, refl, sym, ◌∙◌, ap, subst, arith}
use Rattle.std.specs.Prelude.{count_by, nat_eq}
use Rattle.std.specs.Option.{option_eq}
use Rattle.std.proofs.lemmas.Bool.{cases_lt}
use Rattle.token_sem.specs.declared.entry.SemEntry.{SemEntry}
use Rattle.token_sem.specs.Semaphore.{owned_by}
use Rattle.pool_sem.specs.Pools.{has, names, owner_of}
use Rattle.pool_sem.proofs.Counting.{weight, weight-yes, weight-no, count-cons}
use Rattle.pool_sem.proofs.Freeing.{owner-holds, holder-has, same-token}

-- the one at a place passes
at-counts : (p : SemEntry → Bool) (es : List SemEntry) (k : ℕ) (d : SemEntry) → k < length es → p (get_or es k d) ≡ true → 0 < count_by p es
at-counts p [] k d lt t = absurd (omega arith)
at-counts p (e ∷ es) zero d lt t = let one : weight p e ≡ 1 = weight-yes p e t in omega (arith, count-cons p e es, one)
at-counts p (e ∷ es) (suc k) d lt t = omega (arith, count-cons p e es, at-counts p es k d (omega arith) t)

-- where one passes at most, that at the place is found
find-once : (p : SemEntry → Bool) (es : List SemEntry) (k : ℕ) (d : SemEntry) → k < length es → p (get_or es k d) ≡ true → count_by p es ≤ 1 → find p es ≡ Some (get_or es k d)
find-once p [] k d lt t le = absurd (omega arith)
find-once p (e ∷ es) zero d lt t le = ap (λ b. cond b (Some e) (find p es)) t
find-once p (e ∷ es) (suc k) d lt t le = by_test (p e) refl (find-once p es k d (omega arith) t)
  where
    by_test : (b : Bool) → p e ≡ b → (count_by p es ≤ 1 → find p es ≡ Some (get_or es k d)) → cond b (Some e) (find p es) ≡ Some (get_or es k d)
    by_test true u ih = absurd (let one : weight p e ≡ 1 = weight-yes p e u in let more : 0 < count_by p es = at-counts p es k d (omega arith) t in omega (arith, count-cons p e es, one, more, le))
    by_test false u ih = ih (omega (arith, count-cons p e es, le))

find-nowhere : (p : SemEntry → Bool) (es : List SemEntry) (d : SemEntry) → ((j : ℕ) → j < length es → p (get_or es j d) ≡ false) → find p es ≡ None
find-nowhere p [] d fail = refl
find-nowhere p (e ∷ es) d fail = ap (λ b. cond b (Some e) (find p es)) (fail 0 (omega arith)) ∙ find-nowhere p es d (λ j lt. fail (suc j) (omega arith))

pub count-weaker : (p q : SemEntry → Bool) → ((e : SemEntry) → p e ≡ true → q e ≡ true) → (es : List SemEntry) → count_by p es ≤ count_by q es
count-weaker p q h [] = omega arith
count-weaker p q h (e ∷ es) = by_test (p e) refl (count-weaker p q h es)
  where
    by_test : (b : Bool) → p e ≡ b → count_by p es ≤ count_by q es → count_by p (e ∷ es) ≤ count_by q (e ∷ es)
    by_test true t ih =
        let mine : weight p e ≡ 1 = weight-yes p e t in
        let one : weight q e ≡ 1 = weight-yes q e (h e t) in
        omega (arith, count-cons p e es, count-cons q e es, mine, one, ih)
    by_test false t ih =
        let mine : weight p e ≡ 0 = weight-no p e t in
        omega (arith, count-cons p e es, count-cons q e es, mine, ih)

-- an owner of a token that is named has it
owner-has : (client t : ℕ) (e : SemEntry) → (owned_by client e && names (Some t) e.token) ≡ true → has t e ≡ true
owner-has client t e h = by_token e.token (owned_by client e) refl h
  where
    by_token : (k : Option ℕ) (b : Bool) → e.token ≡ k → (b && option_eq nat_eq (Some t) k) ≡ true → has t e ≡ true
    by_token (Some u) true f g = holder-has t e (owner-holds client (Some t) e h) (f ∙ ap Some (sym (same-token t u g)))
    by_token None true f g = absurd (cc g)
    by_token k false f g = absurd (cc g)

-- nobody owns a token that isn't named
unnamed : (client : ℕ) (es : List SemEntry) → count_by (λ e. owned_by client e && names None e.token) es ≡ 0
unnamed client [] = refl
unnamed client (e ∷ es) =
    let p : SemEntry → Bool = λ x. owned_by client x && names None x.token in
    let none : weight p e ≡ 0 = weight-no p e (by_test (owned_by client e)) in
    let rest : count_by p es ≡ 0 = unnamed client es in
    omega (arith, count-cons p e es, none, rest)
  where
    by_test : (b : Bool) → (b && false) ≡ false
    by_test true = refl
    by_test false = refl

-- a client owns a token once at most
owner-most : (client : ℕ) (token : Option ℕ) (es : List SemEntry) → ((u : ℕ) → count_by (has u) es ≤ 1) → count_by (λ e. owned_by client e && names token e.token) es ≤ 1
owner-most client None es once = let none : count_by (λ e. owned_by client e && names None e.token) es ≡ 0 = unnamed client es in omega (arith, none)
owner-most client (Some t) es once =
    let fewer : count_by (λ e. owned_by client e && names (Some t) e.token) es ≤ count_by (has t) es = count-weaker (λ e. owned_by client e && names (Some t) e.token) (has t) (owner-has client t) es in
    let most : count_by (has t) es ≤ 1 = once t in
    omega (arith, fewer, most)

module _ (client : ℕ) (token : Option ℕ) (es : List SemEntry) where
  -- the entry isn't the owner
  abbrev pub IsOther : SemEntry → Type 0
  IsOther e = (owned_by client e && names token e.token) ≡ false

  pub owner-at : (k : ℕ) (d : SemEntry) → k < length es → (owned_by client (get_or es k d) && names token (get_or es k d).token) ≡ true → ((u : ℕ) → count_by (has u) es ≤ 1)
      → Some (get_or es k d) ≡ owner_of client token es
  owner-at k d lt t once = sym (find-once (λ x. owned_by client x && names token x.token) es k d lt t (owner-most client token es once))

  pub owner-nowhere : (low high : ℕ) (d : SemEntry) → high ≤ low → ((j : ℕ) → j < low → IsOther (get_or es j d)) → ((j : ℕ) → high ≤ j → j < length es → IsOther (get_or es j d))
      → None ≡ owner_of client token es
  owner-nowhere low high d le below above = sym (find-nowhere (λ x. owned_by client x && names token x.token) es d (λ j lt. elim (cases_lt j low) [
    | inl before ↦ below j before
    | inr later ↦ above j (omega arith) lt
  ]))

  pub below-more : (low : ℕ) (d : SemEntry) → IsOther (get_or es low d) → ((j : ℕ) → j < low → IsOther (get_or es j d)) → (j : ℕ) → j < low + 1 → IsOther (get_or es j d)
  below-more low d other below j le = elim (cases_lt j low) [
    | inl before ↦ below j before
    | inr later ↦ (let same : j ≡ low = omega arith in subst (λ (k : ℕ). IsOther (get_or es k d)) (sym same) other)
  ]

  pub above-more : (high : ℕ) (d : SemEntry) → IsOther (get_or es (high - 1) d) → ((j : ℕ) → high ≤ j → j < length es → IsOther (get_or es j d))
      → (j : ℕ) → high - 1 ≤ j → j < length es → IsOther (get_or es j d)
  above-more high d other above j from lt = elim (cases_lt j high) [
    | inl before ↦ (let same : j ≡ high - 1 = omega arith in subst (λ (k : ℕ). IsOther (get_or es k d)) (sym same) other)
    | inr later ↦ above j later lt
  ]
