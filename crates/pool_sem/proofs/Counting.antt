-- How many entries pass a test, where entries come, go and change.
use Rattle.std.proofs.Common.{◌≡◌, ℕ, ◌+◌, ◌<◌, ◌≤◌, inl, inr, Bool, true, false, cond, ◌==◌, ◌||◌, List, [], ◌∷◌, ◌++◌, map, filter, Some, refl, sym, ◌∙◌, ap, ap₂, subst, arith}
use Rattle.std.specs.Prelude.{count_by}
use Rattle.std.specs.List.{list_any}
use Rattle.std.proofs.lemmas.List.Sums.{sum_by-cons}
use Rattle.std.proofs.lemmas.Bool.Decides.{nat_tests}
use Rattle.token_sem.specs.declared.entry.SemEntry.{SemEntry}
use Rattle.token_sem.specs.Semaphore.{Rises, without, numbered}
use Rattle.token_sem.proofs.Keeping.{Among, rises-above, without-other, without-same, without-none, different, same_number}

abbrev pub weight : (SemEntry → Bool) → SemEntry → ℕ
weight p e = cond (p e) 1 0

pub count-cons : (p : SemEntry → Bool) (e : SemEntry) (es : List SemEntry) → count_by p (e ∷ es) ≡ weight p e + count_by p es
count-cons p e es = sum_by-cons (λ x. cond (p x) 1 0) e es

pub weight-yes : (p : SemEntry → Bool) (e : SemEntry) → p e ≡ true → weight p e ≡ 1
weight-yes p e t = ap (λ b. cond {A = ℕ} b 1 0) t

pub weight-no : (p : SemEntry → Bool) (e : SemEntry) → p e ≡ false → weight p e ≡ 0
weight-no p e t = ap (λ b. cond {A = ℕ} b 1 0) t

pub weight-most : (p : SemEntry → Bool) (e : SemEntry) → weight p e ≤ 1
weight-most p e = by_test (p e)
  where
    by_test : (b : Bool) → cond {A = ℕ} b 1 0 ≤ 1
    by_test true = omega arith
    by_test false = omega arith

-- an entry goes
pub count-without : (p : SemEntry → Bool) (low high : ℕ) (es : List SemEntry) (o : SemEntry) → Rises low es high → Among es o
    → count_by p (without o.number es) + weight p o ≡ count_by p es
count-without p low high [] o r a = absurd a
count-without p low high (e ∷ es) o r (inl same) =
    let n : e.number ≡ o.number = ap (λ x. x.number) same in
    let gone : without o.number (e ∷ es) ≡ es = without-same e o.number es n ∙ without-none e.number high o.number es (omega arith) r.1 in
    let rest : count_by p (without o.number (e ∷ es)) ≡ count_by p es = ap (count_by p) gone in
    let one : weight p e ≡ weight p o = ap (weight p) same in
    omega (arith, rest, count-cons p e es, one)
count-without p low high (e ∷ es) o r (inr a) =
    let lt : e.number < o.number = (rises-above e.number high es o r.1 a).0 in
    let ih : count_by p (without o.number es) + weight p o ≡ count_by p es = count-without p e.number high es o r.1 a in
    let kept : count_by p (without o.number (e ∷ es)) ≡ count_by p (e ∷ without o.number es) = ap (count_by p) (without-other e o.number es lt) in
    omega (arith, kept, count-cons p e (without o.number es), count-cons p e es, ih)

-- the entry of a number becomes what f makes of it
abbrev pub changed : ℕ → (SemEntry → SemEntry) → SemEntry → SemEntry
changed n f e = cond (e.number == n) (f e) e

changed-number : (n : ℕ) (f : SemEntry → SemEntry) → ((e : SemEntry) → (f e).number ≡ e.number) → (e : SemEntry) → (changed n f e).number ≡ e.number
changed-number n f keeps e = by_test (e.number == n)
  where
    by_test : (b : Bool) → (cond b (f e) e).number ≡ e.number
    by_test true = keeps e
    by_test false = refl

pub rises-changed : (low high n : ℕ) (f : SemEntry → SemEntry) → ((e : SemEntry) → (f e).number ≡ e.number) → (es : List SemEntry) → Rises low es high
    → Rises low (map (changed n f) es) high
rises-changed low high n f keeps [] r = r
rises-changed low high n f keeps (e ∷ es) r =
    let same = changed-number n f keeps e in
    let above : low < e.number = r.0 in
    let rest = rises-changed e.number high n f keeps es r.1 in
    (omega (arith, same), let P : ℕ → Type 0 = λ m. Rises m (map (changed n f) es) high in subst P (sym same) rest)

changed-later : (low high n : ℕ) (f : SemEntry → SemEntry) (es : List SemEntry) → n ≤ low → Rises low es high → map (changed n f) es ≡ es
changed-later low high n f [] le r = refl
changed-later low high n f (e ∷ es) le r =
    let above : low < e.number = r.0 in
    let d : (e.number == n) ≡ false = grind (arith, nat_tests) in
    let first : changed n f e ≡ e = ap (λ b. cond b (f e) e) d in
    rw (first, changed-later e.number high n f es (omega arith) r.1) refl

pub count-changed : (p : SemEntry → Bool) (low high : ℕ) (f : SemEntry → SemEntry) (es : List SemEntry) (o : SemEntry) → Rises low es high → Among es o
    → count_by p (map (changed o.number f) es) + weight p o ≡ count_by p es + weight p (f o)
count-changed p low high f [] o r a = absurd a
count-changed p low high f (e ∷ es) o r (inl same) =
    let n : e.number ≡ o.number = ap (λ x. x.number) same in
    let first : changed o.number f e ≡ f e = ap (λ b. cond b (f e) e) (same_number e.number o.number n) in
    let rest = changed-later e.number high o.number f es (omega arith) r.1 in
    let with : SemEntry → List SemEntry → List SemEntry = λ x l. x ∷ l in
    let whole : count_by p (map (changed o.number f) (e ∷ es)) ≡ count_by p (f e ∷ es) = ap (count_by p) (ap₂ with first rest) in
    let one : weight p e ≡ weight p o = ap (weight p) same in
    let new : weight p (f e) ≡ weight p (f o) = ap (λ x. weight p (f x)) same in
    omega (arith, whole, count-cons p (f e) es, count-cons p e es, one, new)
count-changed p low high f (e ∷ es) o r (inr a) =
    let lt : e.number < o.number = (rises-above e.number high es o r.1 a).0 in
    let d : (e.number == o.number) ≡ false = different e.number o.number lt in
    let first : changed o.number f e ≡ e = ap (λ b. cond b (f e) e) d in
    let ih : count_by p (map (changed o.number f) es) + weight p o ≡ count_by p es + weight p (f o) = count-changed p e.number high f es o r.1 a in
    let whole : count_by p (map (changed o.number f) (e ∷ es)) ≡ count_by p (e ∷ map (changed o.number f) es) = ap (λ (x : SemEntry). count_by p (x ∷ map (changed o.number f) es)) first in
    omega (arith, whole, count-cons p e (map (changed o.number f) es), count-cons p e es, ih)

-- the entry of that number is then what f makes of it
pub numbered-changed : (low high : ℕ) (f : SemEntry → SemEntry) → ((e : SemEntry) → (f e).number ≡ e.number) → (es : List SemEntry) (e : SemEntry) → Rises low es high → Among es e
    → numbered e.number (map (changed e.number f) es) ≡ Some (f e)
numbered-changed low high f keeps [] e r a = absurd a
numbered-changed low high f keeps (x ∷ es) e r (inl same) =
    let n : x.number ≡ e.number = ap (λ y. y.number) same in
    let t : (x.number == e.number) ≡ true = same_number x.number e.number n in
    let u : ((f x).number == e.number) ≡ true = same_number (f x).number e.number (keeps x ∙ n) in
    let first : changed e.number f x ≡ f x = ap (λ b. cond b (f x) x) t in
    let rest = map (changed e.number f) es in
    ap (λ (y : SemEntry). numbered e.number (y ∷ rest)) first ∙ ap (λ b. cond b (Some (f x)) (numbered e.number rest)) u ∙ ap (λ y. Some (f y)) same
numbered-changed low high f keeps (x ∷ es) e r (inr a) =
    let lt : x.number < e.number = (rises-above x.number high es e r.1 a).0 in
    let t : (x.number == e.number) ≡ false = different x.number e.number lt in
    let first : changed e.number f x ≡ x = ap (λ b. cond b (f x) x) t in
    let rest = map (changed e.number f) es in
    ap (λ (y : SemEntry). numbered e.number (y ∷ rest)) first ∙ ap (λ b. cond b (Some x) (numbered e.number rest)) t ∙ numbered-changed x.number high f keeps es e r.1 a

-- an entry comes
pub count-push : (p : SemEntry → Bool) (es : List SemEntry) (e : SemEntry) → count_by p (es ++ e ∷ []) ≡ count_by p es + weight p e
count-push p [] e = omega (arith, count-cons p e [])
count-push p (x ∷ es) e =
    let ih : count_by p (es ++ e ∷ []) ≡ count_by p es + weight p e = count-push p es e in
    omega (arith, count-cons p x (es ++ e ∷ []), count-cons p x es, ih)

-- where only such go as fail the test, as many pass
pub count-kept : (p q : SemEntry → Bool) → ((e : SemEntry) → q e ≡ false → p e ≡ false) → (es : List SemEntry) → count_by p (filter q es) ≡ count_by p es
count-kept p q out [] = refl
count-kept p q out (e ∷ es) = by_test (q e) refl (count-kept p q out es)
  where
    by_test : (b : Bool) → q e ≡ b → count_by p (filter q es) ≡ count_by p es → count_by p (cond b (e ∷ filter q es) (filter q es)) ≡ count_by p (e ∷ es)
    by_test true t ih = omega (arith, count-cons p e (filter q es), count-cons p e es, ih)
    by_test false t ih =
        let none : weight p e ≡ 0 = weight-no p e (out e t) in
        omega (arith, count-cons p e es, ih, none)

-- where some go, no more pass
pub count-fewer : (p q : SemEntry → Bool) (es : List SemEntry) → count_by p (filter q es) ≤ count_by p es
count-fewer p q [] = omega arith
count-fewer p q (e ∷ es) = by_test (q e) (count-fewer p q es)
  where
    by_test : (b : Bool) → count_by p (filter q es) ≤ count_by p es → count_by p (cond b (e ∷ filter q es) (filter q es)) ≤ count_by p (e ∷ es)
    by_test true ih = omega (arith, count-cons p e (filter q es), count-cons p e es, ih)
    by_test false ih = omega (arith, count-cons p e es, ih)

-- where none passes, one that stands there doesn't
pub none-among : (p : SemEntry → Bool) (es : List SemEntry) (o : SemEntry) → Among es o → count_by p es ≡ 0 → p o ≡ false
none-among p [] o a z = absurd a
none-among p (e ∷ es) o (inl same) z = by_test (p o) refl
  where
    by_test : (b : Bool) → p o ≡ b → b ≡ false
    by_test false t = refl
    by_test true t = absurd (
        let one : weight p e ≡ 1 = weight-yes p e (ap p same ∙ t) in
        omega (arith, count-cons p e es, one, z))
none-among p (e ∷ es) o (inr a) z = none-among p es o a (omega (arith, count-cons p e es, z))

-- whether one passes, and how many do
pub none-any : (p : SemEntry → Bool) (es : List SemEntry) → list_any p es ≡ false → count_by p es ≡ 0
none-any p [] f = refl
none-any p (e ∷ es) f = by_test (p e) refl f (none-any p es)
  where
    by_test : (b : Bool) → p e ≡ b → (b || list_any p es) ≡ false → (list_any p es ≡ false → count_by p es ≡ 0) → count_by p (e ∷ es) ≡ 0
    by_test true t g ih = absurd (cc g)
    by_test false t g ih =
        let none : weight p e ≡ 0 = weight-no p e t in
        let rest : count_by p es ≡ 0 = ih g in
        omega (arith, count-cons p e es, none, rest)

pub any-none : (p : SemEntry → Bool) (es : List SemEntry) → count_by p es ≡ 0 → list_any p es ≡ false
any-none p [] z = refl
any-none p (e ∷ es) z = by_test (p e) refl (any-none p es)
  where
    by_test : (b : Bool) → p e ≡ b → (count_by p es ≡ 0 → list_any p es ≡ false) → (b || list_any p es) ≡ false
    by_test true t ih = absurd (let one : weight p e ≡ 1 = weight-yes p e t in omega (arith, count-cons p e es, one, z))
    by_test false t ih = ih (omega (arith, count-cons p e es, z))

pub none-filtered : (p : SemEntry → Bool) (es : List SemEntry) → count_by p es ≡ 0 → filter p es ≡ []
none-filtered p [] z = refl
none-filtered p (e ∷ es) z = by_test (p e) refl (none-filtered p es)
  where
    by_test : (b : Bool) → p e ≡ b → (count_by p es ≡ 0 → filter p es ≡ []) → cond b (e ∷ filter p es) (filter p es) ≡ []
    by_test true t ih = absurd (let one : weight p e ≡ 1 = weight-yes p e t in omega (arith, count-cons p e es, one, z))
    by_test false t ih = ih (omega (arith, count-cons p e es, z))

-- one that stands among those that pass stands there
pub among-all : (p : SemEntry → Bool) (es : List SemEntry) (o : SemEntry) → Among (filter p es) o → Among es o
among-all p [] o a = absurd a
among-all p (e ∷ es) o a = by_test (p e) a (among-all p es o)
  where
    by_test : (b : Bool) → Among (cond b (e ∷ filter p es) (filter p es)) o → (Among (filter p es) o → Among es o) → Among (e ∷ es) o
    by_test true (inl same) ih = inl same
    by_test true (inr a) ih = inr (ih a)
    by_test false a ih = inr (ih a)
