-- A freed token goes to the waiter of best rank.
use Rattle.std.proofs.Common.{◌≡◌, ◌==◌, ◌&&◌, ℕ, ◌<◌, Bool, true, false, not, List, [], filter, length, get_or, Option, None, Some, refl, sym, ◌∙◌, ap, arith}
use Rattle.std.specs.Prelude.{count_by, nat_eq, IfSome}
use Rattle.std.specs.Option.{option_eq}
use Rattle.std.specs.List.{All}
use Rattle.mms_types.specs.declared.moment.Moment.{Moment}
use Rattle.token_sem.specs.declared.entry.SemEntry.{SemEntry}
use Rattle.token_sem.specs.Semaphore.{before, deadline_at, first_deadline, holds, numbered, without}
use Rattle.token_sem.proofs.Keeping.{Among, among-find, among-least, rises-without}
use Rattle.token_sem.proofs.Losing.{among-filter, among-unique}
use Rattle.token_sem.proofs.Least.{least-first, before-order}
use Rattle.token_sem.proofs.Serving.{stands-get_or, numbered-at, first_stands_in}
use Rattle.pool_sem.specs.Pools.{Pool, IsPool, has, wants, is_free, next, owner_from, granted_to, after_freeing_of, after_leaving}
use Rattle.pool_sem.proofs.Counting.{weight, weight-no, count-without, numbered-changed, none-among, none-filtered, among-all}
use Rattle.pool_sem.proofs.Freeing.{Vacant, none-wanted, holder-wants, fair, vacated, token-there, unplaced, same-token}
use Rattle.pool_sem.proofs.Finding.{none-free, free-none}

number-found : (number : ℕ) (es : List SemEntry) (o : SemEntry) → numbered number es ≡ Some o → Among es o
number-found number es o f = (among-find (λ e. e.number == number) es o f).0

has-holds : (t : ℕ) (e : SemEntry) → has t e ≡ true → holds e ≡ true
has-holds t e h = by_test (holds e) h
  where
    by_test : (b : Bool) → (b && option_eq nat_eq e.token (Some t)) ≡ true → b ≡ true
    by_test true g = refl
    by_test false g = absurd (cc g)

has-token : (t : ℕ) (e : SemEntry) → has t e ≡ true → e.token ≡ Some t
has-token t e h = by_test (holds e) e.token refl h
  where
    by_test : (b : Bool) (k : Option ℕ) → e.token ≡ k → (b && option_eq nat_eq k (Some t)) ≡ true → e.token ≡ Some t
    by_test true (Some u) f g = let same : u ≡ t = same-token u t g in f ∙ ap Some same
    by_test true None f g = absurd (cc g)
    by_test false k f g = absurd (cc g)

has-within : (p : Pool) (o : SemEntry) (t : ℕ) → IsPool p → Among p.entries o → has t o ≡ true → t < length p.tokens
has-within p o t is a h =
    let there = token-there (length p.tokens) o (none-among (unplaced (length p.tokens)) p.entries o a is.placed) (has-holds t o h) in
    let same : Some there.0 ≡ Some t = sym there.1 ∙ has-token t o h in
    let n : there.0 ≡ t = cc same in
    let lt : there.0 < length p.tokens = there.2 in
    omega (arith, n, lt)

gone : (p : Pool) (o : SemEntry) (t : ℕ) → IsPool p → Among p.entries o → has t o ≡ true → Vacant (length p.tokens) t (without o.number p.entries)
gone p o t is a h = vacated (length p.tokens) p.made p.entries o t is.rises (fair p is) a (has-holds t o h) (has-token t o h) (has-within p o t is a h)

-- the entry that is served waited for the token
pub next-waits : (p : Pool) (o e : SemEntry) (t : ℕ) → IsPool p → next t (without o.number p.entries) ≡ Some e → (numbered e.number p.entries ≡ Some e) × (wants t e ≡ true)
next-waits p o e t is f =
    let a = among-least before (wants t) (without o.number p.entries) e f in
    (numbered-at 0 p.made p.entries e is.rises (among-all (λ x. not (x.number == o.number)) p.entries e a.0), a.1)

-- it is owner then
pub left-served : (p : Pool) (o e : SemEntry) (t : ℕ) (now : Moment) → IsPool p → has t o ≡ true → next t (without o.number p.entries) ≡ Some e
    → numbered e.number (after_leaving o now p.entries) ≡ Some (owner_from t now e)
left-served p o e t now is h f =
    let rest = without o.number p.entries in
    let a = among-least before (wants t) (without o.number p.entries) e f in
    ap (λ k. numbered e.number (after_freeing_of k now rest)) (has-token t o h)
    ∙ ap (λ m. numbered e.number (granted_to m t now rest)) f
    ∙ numbered-changed 0 p.made (owner_from t now) (λ x. refl) rest e (rises-without 0 p.made o.number p.entries is.rises) a.0

-- none of those that want it comes before it
pub next-best : (t : ℕ) (es : List SemEntry) (e : SemEntry) → next t es ≡ Some e → All (λ x. before x e ≡ false) (filter (wants t) es)
next-best t es e f k d lt = least-first before before-order (filter (wants t) es) e (get_or (filter (wants t) es) k d) f (stands-get_or (filter (wants t) es) k d lt)

-- where none wants it, it is free
pub left-free : (p : Pool) (o : SemEntry) (t : ℕ) (now : Moment) → IsPool p → numbered o.number p.entries ≡ Some o → has t o ≡ true → next t (without o.number p.entries) ≡ None
    → (filter (wants t) p.entries ≡ []) × (is_free t (after_leaving o now p.entries) ≡ true)
left-free p o t now is found h f =
    let a = number-found o.number p.entries o found in
    let rest = without o.number p.entries in
    let v = gone p o t is a h in
    let none : count_by (wants t) (without o.number p.entries) ≡ 0 = none-wanted t (without o.number p.entries) f in
    let not_it : weight (wants t) o ≡ 0 = weight-no (wants t) o (holder-wants t o (has-holds t o h)) in
    let goes = count-without (wants t) 0 p.made p.entries o is.rises a in
    let before_too : count_by (wants t) p.entries ≡ 0 = omega (arith, goes, none, not_it) in
    let is_free_then : is_free t rest ≡ true = none-free t rest v.none in (
      none-filtered (wants t) p.entries before_too,
      ap (λ k. is_free t (after_freeing_of k now rest)) (has-token t o h) ∙ ap (λ m. is_free t (granted_to m t now rest)) f ∙ is_free_then,
    )

-- no free token is wanted
pub free-unwanted : (p : Pool) (t : ℕ) → IsPool p → t < length p.tokens → is_free t p.entries ≡ true → filter (wants t) p.entries ≡ []
free-unwanted p t is lt f = none-filtered (wants t) p.entries (is.served t lt (free-none t p.entries f))

-- two entries that have one token are one
pub had-once : (p : Pool) (t : ℕ) (a b : SemEntry) → IsPool p → numbered a.number p.entries ≡ Some a → numbered b.number p.entries ≡ Some b → has t a ≡ true → has t b ≡ true → a ≡ b
had-once p t a b is fa fb ha hb = by_number (b.number == a.number) refl
  where
    in_a : Among p.entries a
    in_a = number-found a.number p.entries a fa

    in_b : Among p.entries b
    in_b = number-found b.number p.entries b fb

    by_number : (c : Bool) → (b.number == a.number) ≡ c → a ≡ b
    by_number true d = among-unique 0 p.made p.entries a b is.rises in_a in_b (sym (same-token b.number a.number d))
    by_number false d = absurd (
        let v = gone p a t is in_a ha in
        let lacks : has t b ≡ false = none-among (has t) (without a.number p.entries) b (among-filter (λ e. not (e.number == a.number)) p.entries b in_b (ap not d)) v.none in
        cc (lacks, hb))

-- the first deadline is that of the entry of its number
pub first_stands : (p : Pool) → IsPool p → IfSome (first_deadline p.entries) (λ d. deadline_at d.number p.entries ≡ Some d.at)
first_stands p is = first_stands_in p.made p.entries is.rises
