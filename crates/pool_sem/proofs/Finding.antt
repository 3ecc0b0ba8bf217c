-- Which token a request finds.
use Rattle.std.proofs.Common.{◌≡◌, ℕ, ◌+◌, ◌<◌, ◌≤◌, ◌-◌, Bool, true, false, not, cond, ◌==◌, ◌&&◌, List, find, Option, None, Some, zero, suc, refl, sym, ◌∙◌, ap, arith}
use Rattle.std.specs.Prelude.{count_by}
use Rattle.std.specs.List.{list_any, range_with_len}
use Rattle.std.proofs.lemmas.Bool.Decides.{nat_tests}
use Rattle.token_sem.specs.declared.entry.SemEntry.{SemEntry}
use Rattle.pool_sem.specs.Pools.{has, suits, is_free, meets, free_token}
use Rattle.pool_sem.proofs.Counting.{none-any, any-none}

-- what is found is one of the numbers, and passes
pub found-in : (p : ℕ → Bool) (n a t : ℕ) → find p (range_with_len a n) ≡ Some t → (p t ≡ true) × (t < a + n)
found-in p zero a t f = absurd (cc f)
found-in p (suc n) a t f = by_test (p a) refl f (found-in p n (a + 1) t)
  where
    by_test : (b : Bool) → p a ≡ b → cond b (Some a) (find p (range_with_len (a + 1) n)) ≡ Some t
        → (find p (range_with_len (a + 1) n) ≡ Some t → (p t ≡ true) × (t < a + 1 + n)) → (p t ≡ true) × (t < a + suc n)
    by_test true h g ih = let same : a ≡ t = cc g in (ap p (sym same) ∙ h, omega arith)
    by_test false h g ih = let rest = ih g in let below : t < a + 1 + n = rest.1 in (rest.0, omega arith)

-- where none is found, none of the numbers passes
pub none-in : (p : ℕ → Bool) (n a u : ℕ) → find p (range_with_len a n) ≡ None → a ≤ u → u < a + n → p u ≡ false
none-in p zero a u f le lt = absurd (omega arith)
none-in p (suc n) a u f le lt = by_test (p a) refl f (none-in p n (a + 1) u)
  where
    by_place : (b : Bool) → (a == u) ≡ b → p a ≡ false → (a + 1 ≤ u → p u ≡ false) → p u ≡ false
    by_place true e h rest = let same : a ≡ u = grind (arith, nat_tests) in ap p (sym same) ∙ h
    by_place false e h rest = rest (let more : a + 1 ≤ u = grind (arith, nat_tests) in more)

    by_test : (b : Bool) → p a ≡ b → cond b (Some a) (find p (range_with_len (a + 1) n)) ≡ None
        → (find p (range_with_len (a + 1) n) ≡ None → a + 1 ≤ u → u < a + 1 + n → p u ≡ false) → p u ≡ false
    by_test true h g ih = absurd (cc g)
    by_test false h g ih = by_place (a == u) refl h (λ more. ih g more (omega arith))

-- the search goes on from the next number
pub search-on : (p : ℕ → Bool) (n a : ℕ) → a < n → p a ≡ false → find p (range_with_len a (n - a)) ≡ find p (range_with_len (a + 1) (n - (a + 1)))
search-on p n a lt h =
    let less : n - a ≡ suc (n - (a + 1)) = omega arith in
    rw less (ap (λ b. cond b (Some a) (find p (range_with_len (a + 1) (n - (a + 1))))) h)

pub search-ends : (p : ℕ → Bool) (n a : ℕ) → a < n → p a ≡ true → find p (range_with_len a (n - a)) ≡ Some a
search-ends p n a lt h =
    let less : n - a ≡ suc (n - (a + 1)) = omega arith in
    rw less (ap (λ b. cond b (Some a) (find p (range_with_len (a + 1) (n - (a + 1))))) h)

-- a free token is one that no entry has
pub free-none : (t : ℕ) (es : List SemEntry) → is_free t es ≡ true → count_by (has t) es ≡ 0
free-none t es h = none-any (has t) es (by_any (list_any (has t) es) h)
  where
    by_any : (b : Bool) → not b ≡ true → b ≡ false
    by_any true g = absurd (cc g)
    by_any false g = refl

pub none-free : (t : ℕ) (es : List SemEntry) → count_by (has t) es ≡ 0 → is_free t es ≡ true
none-free t es z = ap not (any-none (has t) es z)

pub free-found : (asked : Option ℕ) (count t : ℕ) (es : List SemEntry) → free_token asked count es ≡ Some t → (t < count) × (count_by (has t) es ≡ 0)
free-found asked count t es f =
    let is = found-in (meets asked es) count 0 t f in
    let below : t < 0 + count = is.1 in
    (omega arith, free-none t es (second (suits asked (Some t)) (is_free t es) is.0))
  where
    second : (a b : Bool) → (a && b) ≡ true → b ≡ true
    second true b h = h
    second false b h = absurd (cc h)

-- where none is found, no free token suits
pub free-missing : (asked : Option ℕ) (count u : ℕ) (es : List SemEntry) → free_token asked count es ≡ None → u < count → count_by (has u) es ≡ 0 → suits asked (Some u) ≡ false
free-missing asked count u es f lt z =
    first (suits asked (Some u)) (is_free u es) (none-free u es z) (none-in (meets asked es) count 0 u f (omega arith) (omega arith))
  where
    first : (a b : Bool) → b ≡ true → (a && b) ≡ false → a ≡ false
    first true b t h = absurd (cc (t, h))
    first false b t h = refl

-- a token that is named is found where it is one of so many and free, and no other is
named-other : (t u : ℕ) (es : List SemEntry) → meets (Some t) es u ≡ true → (t ≡ u) × (is_free u es ≡ true)
named-other t u es h = by_test (t == u) refl h
  where
    by_test : (b : Bool) → (t == u) ≡ b → (b && is_free u es) ≡ true → (t ≡ u) × (is_free u es ≡ true)
    by_test true e g = (grind (arith, nat_tests), g)
    by_test false e g = absurd (cc g)

pub named-found : (t count : ℕ) (es : List SemEntry) → t < count → is_free t es ≡ true → free_token (Some t) count es ≡ Some t
named-found t count es lt h = by_found (free_token (Some t) count es) refl
  where
    by_found : (o : Option ℕ) → free_token (Some t) count es ≡ o → o ≡ Some t
    by_found (Some u) f = ap Some (sym (named-other t u es (found-in (meets (Some t) es) count 0 u f).0).0)
    by_found None f =
        let fails : ((t == t) && is_free t es) ≡ false = none-in (meets (Some t) es) count 0 t f (omega arith) (omega arith) in
        let same : (t == t) ≡ true = grind (arith, nat_tests) in
        absurd (cc (fails, same, h))

pub named-missing : (t count : ℕ) (es : List SemEntry) → (t < count → is_free t es ≡ false) → free_token (Some t) count es ≡ None
named-missing t count es had = by_found (free_token (Some t) count es) refl
  where
    by_found : (o : Option ℕ) → free_token (Some t) count es ≡ o → o ≡ None
    by_found None f = refl
    by_found (Some u) f =
        let is = found-in (meets (Some t) es) count 0 u f in
        let other = named-other t u es is.0 in
        let same : t ≡ u = other.0 in
        let below : u < 0 + count = is.1 in
        let free : is_free t es ≡ true = ap (λ v. is_free v es) same ∙ other.1 in
        absurd (let not_free = had (omega arith) in cc (free, not_free))
