-- Where a client is lost, each request is granted a token once at most.
use Rattle.std.proofs.Common.{◌≡◌, ℕ, ◌⊎◌, inl, inr, Bool, true, false, cond, ◌==◌, ◌&&◌, ◌||◌, List, [], ◌∷◌, ◌++◌, filter, fold, Option, None, Some, option_to_list, if◌then◌else◌, refl, sym, ◌∙◌, ap, subst}
use Rattle.std.specs.List.{flat_map, list_any, AllByRecursion, IsDistinct}
use Rattle.std.specs.Map.{keys_of, lookup}
use Rattle.std.specs.Ordering.{is_lt}
use Rattle.mms_types.specs.Order.{key_eq, key_order}
use Rattle.mms_types.specs.declared.key.Key.{Key}
use Rattle.mms_types.specs.declared.moment.Moment.{Moment}
use Rattle.association.specs.declared.waiting.Waiting.{Waiting}
use Rattle.token_sem.specs.declared.entry.Grant.{Grant}
use Rattle.token_sem.specs.declared.entry.SemEntry.{SemEntry}
use Rattle.token_sem.specs.Semaphore.{Loss, Rises, owned_by}
use Rattle.token_sem.proofs.Least.{Stands}
use Rattle.token_sem.proofs.Losing.{owner-not_queued}
use Rattle.mms_time.specs.Loss.{insert_key, owner_grants, owners_lost_in, sorted_keys}
use Rattle.mms_time.specs.Semaphores.{Rows, entries_in}
use Rattle.mms_time.specs.declared.row.Semaphore.{Semaphore}
use Rattle.mms_time.specs.declared.row.Semaphore.TheVariants.{Token, Pool}
use Rattle.mms_time.specs.declared.row.SemaphoreRow.{SemaphoreRow}
use Rattle.sem_ticks.specs.Granted.{granted, lost_granted}
use Rattle.sem_ticks.specs.declared.granted.Granted.{Granted}
use Rattle.cell_laws.specs.Linked.{asker}
use Rattle.cell_laws.proofs.Bound.{Bound, key-test, nat-same, nat-test, of-both, one_entry}
use Rattle.cell_laws.proofs.Entries.{Frees, IsFreeing, Leaving, any-append, asker_at, freed_by, freeing, frees-owner, is_granted, kept_by, leaving, none-granted, not_queued, one_gone, owned_owner, owners_gone, stands-among, stands-either}
use Rattle.cell_laws.proofs.Losing.{any-told, bound-waited, freed-at, grants_at, lost-told, told_at, told_grants, waited, waited-rise}
use Rattle.cell_laws.proofs.Queues.{Rise, any-stands, is_answered, stands-any, stands-map}

-- no two are of one entry
abbrev pub Apart : List Grant → Type 0
Apart [] = Unit {0}
Apart (g ∷ grants) = (is_granted g.entry grants ≡ false) × Apart grants

-- no two answer one request
abbrev pub AnswerApart : List Granted → Type 0
AnswerApart [] = Unit {0}
AnswerApart (g ∷ grants) = (is_answered grants g.client g.invoke ≡ false) × AnswerApart grants

not-true : (b : Bool) → (b ≡ true → ⊥) → b ≡ false
not-true true h = absurd (h refl)
not-true false h = refl

neither : (a b : Bool) → a ≡ false → b ≡ false → a || b ≡ false
neither a b h k = ap (λ t. t || b) h ∙ k

apart-more : (xs ys : List Grant) → Apart xs → Apart ys → ((x : Grant) → Stands xs x → is_granted x.entry ys ≡ false) → Apart (xs ++ ys)
apart-more [] ys a b each = b
apart-more (x ∷ xs) ys a b each = (
  any-append (λ g. x.entry == g.entry) xs ys ∙ neither (is_granted x.entry xs) (is_granted x.entry ys) a.0 (each x (inl refl)),
  apart-more xs ys a.1 b (λ z s. each z (inr s)),
)

answer-apart-more : (xs ys : List Granted) → AnswerApart xs → AnswerApart ys → ((x : Granted) → Stands xs x → is_answered ys x.client x.invoke ≡ false) → AnswerApart (xs ++ ys)
answer-apart-more [] ys a b each = b
answer-apart-more (x ∷ xs) ys a b each = (
  any-append (λ g. x.client == g.client && x.invoke == g.invoke) xs ys
      ∙ neither (is_answered xs x.client x.invoke) (is_answered ys x.client x.invoke) a.0 (each x (inl refl)),
  answer-apart-more xs ys a.1 b (λ z s. each z (inr s)),
)

-- what is freed after others is of other entries
freed-apart : (es mid new : List SemEntry) (xs ys : List Grant) → Frees es xs mid → Frees mid ys new → Apart xs → Apart ys → Apart (xs ++ ys)
freed-apart es mid new xs ys first second a b = apart-more xs ys a b (λ x s. not-true (is_granted x.entry ys) (λ h. both x s (any-stands (λ g. x.entry == g.entry) ys h)))
  where
    both : (x : Grant) → Stands xs x → (y : Grant) × Stands ys y × ((x.entry == y.entry) ≡ true) → ⊥
    both x s y =
        let gone : asker_at x.entry mid ≡ None =
        first.left x.entry ∙ ap (λ t. cond t None (asker_at x.entry es)) (stands-any (λ g. x.entry == g.entry) xs x s (nat-test x.entry x.entry refl)) in
        let there : asker_at x.entry mid ≡ Some (y.0.client, y.0.invoke) = ap (λ n. asker_at n mid) (nat-same x.entry y.0.entry y.2) ∙ second.each y.0 y.1 in
        cc (sym gone ∙ there)

-- ---- the owners of a client in one semaphore

module _ (v : Leaving) (is : IsFreeing v) where
  apart-owner : (made : ℕ) (now : Moment) (es : List SemEntry) (l : Loss) (o : SemEntry) → Rises 0 l.entries made → Frees es l.grants l.entries → asker_at o.number es ≡ None → Apart l.grants
      → Apart (one_gone v now l o).grants
  apart-owner made now es l o rises frees none apart = by_keep o.keep
    where
      gone : asker_at o.number l.entries ≡ None
      gone = frees.left o.number ∙ ap (cond (is_granted o.number l.grants) None) none ∙ cond-both (is_granted o.number l.grants)
        where
          cond-both : (b : Bool) → cond {A = Option (ℕ × ℕ)} b None None ≡ None
          cond-both true = refl
          cond-both false = refl

      single : (g : Option Grant) → Apart (option_to_list g)
      single None = tt
      single (Some g) = (refl, tt)

      by_keep : (b : Bool) → Apart (if b then kept_by o l else freed_by v now o l).grants
      by_keep true = apart
      by_keep false =
          freed-apart es l.entries (v.entries now o l.entries) l.grants (option_to_list (v.heir o l.entries)) frees (is.frees made now l.entries o rises gone) apart (single (v.heir o l.entries))

  apart-owners : (made : ℕ) (now : Moment) (es os : List SemEntry) (l : Loss) → Rises 0 l.entries made → Frees es l.grants l.entries
      → ((o : SemEntry) → Stands os o → asker_at o.number es ≡ None) → Apart l.grants → Apart (fold (one_gone v now) l os).grants
  apart-owners made now es [] l rises frees none apart = apart
  apart-owners made now es (o ∷ os) l rises frees none apart =
      let one = frees-owner v is made now es l o rises frees (none o (inl refl)) in
      apart-owners made now es os (one_gone v now l o) one.1 one.0 (λ p s. none p (inr s)) (apart-owner made now es l o rises frees (none o (inl refl)) apart)

  apart-lost : (made client : ℕ) (now : Moment) (es : List SemEntry) → Rises 0 es made → Apart (owners_gone v client now es).grants
  apart-lost made client now es rises =
      apart-owners made now es (filter (owned_by client) es) (record { entries = es; grants = [] }) rises (none-granted es)
      (λ o s.
      let found = stands-among (owned_by client) es o s in
      not_queued made es o rises found.0 (owner-not_queued o (owned_owner client o found.1))) tt

-- ---- names in order, each once

abbrev pub KeysApart : List Key → Type 0
KeysApart [] = Unit {0}
KeysApart (k ∷ keys) = (Stands keys k → ⊥) × KeysApart keys

inserted-from : (key k : Key) (keys : List Key) → Stands (insert_key key keys) k → (k ≡ key) ⊎ Stands keys k
inserted-from key k [] (inl same) = inl (sym same)
inserted-from key k [] (inr s) = absurd s
inserted-from key k (other ∷ keys) s = by_test (is_lt (key_order other key)) s (inserted-from key k keys)
  where
    later : (k ≡ key) ⊎ Stands keys k → (k ≡ key) ⊎ Stands (other ∷ keys) k
    later (inl same) = inl same
    later (inr t) = inr (inr t)

    by_test : (b : Bool) → Stands (cond b (other ∷ insert_key key keys) (key ∷ other ∷ keys)) k → (Stands (insert_key key keys) k → (k ≡ key) ⊎ Stands keys k)
        → (k ≡ key) ⊎ Stands (other ∷ keys) k
    by_test true (inl same) ih = inr (inl same)
    by_test true (inr t) ih = later (ih t)
    by_test false (inl same) ih = inl (sym same)
    by_test false (inr t) ih = inr t

inserted-apart : (key : Key) (keys : List Key) → (Stands keys key → ⊥) → KeysApart keys → KeysApart (insert_key key keys)
inserted-apart key [] new apart = (new, tt)
inserted-apart key (other ∷ keys) new apart = by_test (is_lt (key_order other key)) (inserted-apart key keys (λ s. new (inr s)) apart.1)
  where
    kept : Stands (insert_key key keys) other → ⊥
    kept s = by_part (inserted-from key other keys s)
      where
        by_part : (other ≡ key) ⊎ Stands keys other → ⊥
        by_part (inl same) = new (inl same)
        by_part (inr t) = apart.0 t

    by_test : (b : Bool) → KeysApart (insert_key key keys) → KeysApart (cond b (other ∷ insert_key key keys) (key ∷ other ∷ keys))
    by_test true ih = (kept, ih)
    by_test false ih = (new, apart)

sorted-from : (keys : List Key) (k : Key) → Stands (sorted_keys keys) k → Stands keys k
sorted-from [] k s = s
sorted-from (key ∷ keys) k s = by_part (inserted-from key k (sorted_keys keys) s) (sorted-from keys k)
  where
    by_part : (k ≡ key) ⊎ Stands (sorted_keys keys) k → (Stands (sorted_keys keys) k → Stands keys k) → Stands (key ∷ keys) k
    by_part (inl same) ih = inl (sym same)
    by_part (inr t) ih = inr (ih t)

others-apart : (key : Key) (keys : List Key) → AllByRecursion (λ other. key_eq key other ≡ false) keys → Stands keys key → ⊥
others-apart key [] all s = s
others-apart key (k ∷ keys) all (inl same) = absurd (cc (sym (key-test key k (sym same)) ∙ all.0))
others-apart key (k ∷ keys) all (inr s) = others-apart key keys all.1 s

sorted-apart : (keys : List Key) → IsDistinct key_eq keys → KeysApart (sorted_keys keys)
unfolding IsDistinct
sorted-apart [] distinct = tt
sorted-apart (key ∷ keys) distinct = inserted-apart key (sorted_keys keys) (λ s. others-apart key keys distinct.0 (sorted-from keys key s)) (sorted-apart keys distinct.1)

-- ---- all grants where a client is lost

any-flat-at : (p : Granted → Bool) (f : Key → List Granted) (ks : List Key) → list_any p (flat_map f ks) ≡ true → (k : Key) × Stands ks k × (list_any p (f k) ≡ true)
any-flat-at p f [] h = absurd (cc h)
any-flat-at p f (k ∷ ks) h = by_test (list_any p (f k)) refl (any-flat-at p f ks) (sym (any-append p (f k) (flat_map f ks)) ∙ h)
  where
    by_test : (b : Bool) → list_any p (f k) ≡ b → (list_any p (flat_map f ks) ≡ true → (l : Key) × Stands ks l × (list_any p (f l) ≡ true)) → b || list_any p (flat_map f ks) ≡ true
        → (l : Key) × Stands (k ∷ ks) l × (list_any p (f l) ≡ true)
    by_test true e ih g = (k, inl refl, e)
    by_test false e ih g = let found = ih g in (found.0, inr found.1, found.2)

module _ (client : ℕ) (now : Moment) (rows : Rows) (rises : Rise rows) (f : ℕ → ℕ → Option Waiting) (bound : Bound (asker rows) f) where
  then_bound : Bound (asker (waited client now rows rises)) (λ c i. cond (c == client) None (f c i))
  then_bound = bound-waited client now rows rises f (λ c i. cond (is_answered (lost_granted client now rows) c i) None (cond (c == client) None (f c i))) bound (λ c i. refl)

  one_grant : (k l : Key) (x y : Grant) → Stands (grants_at client now rows rises k) x → Stands (grants_at client now rows rises l) y → (x.client == y.client && x.invoke == y.invoke) ≡ true
      → (k ≡ l) × (x.entry ≡ y.entry)
  one_grant k l x y s t h =
      let tests = of-both (x.client == y.client) (x.invoke == y.invoke) h in
      let there : asker (waited client now rows rises) l y.entry ≡ Some (x.client, x.invoke) =
      (freed-at client now rows rises l).1 y t ∙ ap (λ (a : ℕ). Some (a, y.invoke)) (sym (nat-same x.client y.client tests.0)) ∙ ap (λ (a : ℕ). Some (x.client, a)) (sym (nat-same x.invoke y.invoke tests.1)) in
      one_entry (asker (waited client now rows rises)) (λ c i. cond (c == client) None (f c i)) then_bound k l x.entry y.entry x.client x.invoke ((freed-at client now rows rises k).1 x s) there

  grants-apart : (k : Key) → Apart (grants_at client now rows rises k)
  grants-apart k = by_row (lookup (key_eq k) (waited client now rows rises)) refl
    where
      in_semaphore : (s : Semaphore) (made : ℕ) → Rises 0 (entries_in s) made → Apart (owners_lost_in client now s).grants
      in_semaphore (Token s) made is = apart-lost (leaving (Token s)) (freeing (Token s)) made client now s.entries is
      in_semaphore (Pool p) made is = apart-lost (leaving (Pool p)) (freeing (Pool p)) made client now p.entries is

      by_row : (o : Option SemaphoreRow) → lookup (key_eq k) (waited client now rows rises) ≡ o → Apart (owner_grants client now o)
      by_row None e = tt
      by_row (Some row) e = let is = waited-rise client now rows rises k row e in in_semaphore row.semaphore is.0 is.1

  answers-apart : (k : Key) (grants : List Grant) → ((x : Grant) → Stands grants x → Stands (grants_at client now rows rises k) x) → Apart grants → AnswerApart (told_grants rows k grants)
  answers-apart k [] among apart = tt
  answers-apart k (x ∷ grants) among apart = (
    not-true (is_answered (told_grants rows k grants) x.client x.invoke)
        (λ h. twice (any-stands (λ g. x.client == g.client && x.invoke == g.invoke) grants (sym (any-told rows k x.client x.invoke grants) ∙ h))),
    answers-apart k grants (λ y s. among y (inr s)) apart.1,
  )
    where
      twice : (y : Grant) × Stands grants y × ((x.client == y.client && x.invoke == y.invoke) ≡ true) → ⊥
      twice y =
          let same = one_grant k k x y.0 (among x (inl refl)) (among y.0 (inr y.1)) y.2 in
          cc (sym (stands-any (λ g. x.entry == g.entry) grants y.0 y.1 (nat-test x.entry y.0.entry same.1)) ∙ apart.0)

  all-apart : (ks : List Key) → KeysApart ks → AnswerApart (flat_map (told_at client now rows rises) ks)
  all-apart [] apart = tt
  all-apart (k ∷ ks) apart =
      answer-apart-more (told_at client now rows rises k) (flat_map (told_at client now rows rises) ks)
      (answers-apart k (grants_at client now rows rises k) (λ x s. s) (grants-apart k)) (all-apart ks apart.1)
      (λ y s. not-true (is_answered (flat_map (told_at client now rows rises) ks) y.client y.invoke)
      (λ h. of-grant y (stands-map (λ g. granted rows (k, g)) (grants_at client now rows rises k) y s)
      (any-flat-at (λ g. y.client == g.client && y.invoke == g.invoke) (told_at client now rows rises) ks h)))
    where
      at : (x : Grant) → Stands (grants_at client now rows rises k) x → (l : Key) → Stands ks l
          → (y : Grant) × Stands (grants_at client now rows rises l) y × ((x.client == y.client && x.invoke == y.invoke) ≡ true) → ⊥
      at x s l t y = apart.0 (subst (Stands ks) (sym (one_grant k l x y.0 s y.1 y.2).0) t)

      elsewhere : (x : Grant) → Stands (grants_at client now rows rises k) x
          → (l : Key) × Stands ks l × (is_answered (told_at client now rows rises l) x.client x.invoke ≡ true) → ⊥
      elsewhere x s l =
          at x s l.0 l.1
          (any-stands (λ g. x.client == g.client && x.invoke == g.invoke) (grants_at client now rows rises l.0)
          (sym (any-told rows l.0 x.client x.invoke (grants_at client now rows rises l.0)) ∙ l.2))

      of-grant : (y : Granted) → (x : Grant) × Stands (grants_at client now rows rises k) x × (granted rows (k, x) ≡ y)
          → (l : Key) × Stands ks l × (is_answered (told_at client now rows rises l) y.client y.invoke ≡ true) → ⊥
      of-grant y x l =
          elsewhere x.0 x.1 (l.0, l.1, subst (λ (z : Granted). is_answered (told_at client now rows rises l.0) z.client z.invoke ≡ true) (sym x.2) l.2)

  -- no two of them answer one request
  pub lost-apart : IsDistinct key_eq (keys_of rows) → AnswerApart (lost_granted client now rows)
  lost-apart names = subst AnswerApart (sym (lost-told client now rows rises)) (all-apart (sorted_keys (keys_of rows)) (sorted-apart (keys_of rows) names))

  -- and each answers one that waits, of another client
  pub lost-waits : (g : Granted) → Stands (lost_granted client now rows) g → (w : Waiting) × (cond (g.client == client) None (f g.client g.invoke) ≡ Some w)
  lost-waits g s = at (flat-stands (sorted_keys (keys_of rows)) (subst (λ (l : List Granted). Stands l g) (lost-told client now rows rises) s))
    where
      at-grant : (k : Key) → (x : Grant) × Stands (grants_at client now rows rises k) x × (granted rows (k, x) ≡ g)
          → (w : Waiting) × (cond (g.client == client) None (f g.client g.invoke) ≡ Some w)
      at-grant k x =
          subst (λ (z : Granted). (w : Waiting) × (cond (z.client == client) None (f z.client z.invoke) ≡ Some w)) x.2
          (_, then_bound.waiting k x.0.entry x.0.client x.0.invoke ((freed-at client now rows rises k).1 x.0 x.1))

      at : (k : Key) × Stands (told_at client now rows rises k) g → (w : Waiting) × (cond (g.client == client) None (f g.client g.invoke) ≡ Some w)
      at k = at-grant k.0 (stands-map (λ x. granted rows (k.0, x)) (grants_at client now rows rises k.0) g k.1)

      flat-stands : (ks : List Key) → Stands (flat_map (told_at client now rows rises) ks) g → (k : Key) × Stands (told_at client now rows rises k) g
      flat-stands [] t = absurd t
      flat-stands (k ∷ ks) t = by_part (stands-either (told_at client now rows rises k) (flat_map (told_at client now rows rises) ks) g t) (flat-stands ks)
        where
          by_part : Stands (told_at client now rows rises k) g ⊎ Stands (flat_map (told_at client now rows rises) ks) g
              → (Stands (flat_map (told_at client now rows rises) ks) g → (l : Key) × Stands (told_at client now rows rises l) g) → (l : Key) × Stands (told_at client now rows rises l) g
          by_part (inl a) ih = (k, a)
          by_part (inr b) ih = ih b
