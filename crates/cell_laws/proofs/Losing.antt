-- A client is lost: its requests wait no more, tokens of its own are granted to others, and its semaphores go.
use Rattle.std.proofs.Common.{◌≡◌, ℕ, Bool, true, false, not, cond, ◌==◌, ◌&&◌, List, [], ◌∷◌, ◌++◌, map, Option, None, Some, option_map, refl, sym, ◌∙◌, ap, subst}
use Rattle.std.specs.List.{flat_map, list_any}
use Rattle.std.specs.Map.{keys_of, lookup}
use Rattle.std.proofs.lemmas.Map.Entries.{lookup-filter-keys}
use Rattle.std.proofs.lemmas.Map.Made.{lookup-map_values}
use Rattle.mms_types.specs.Order.{key_eq, scope_eq}
use Rattle.mms_types.specs.declared.key.Key.{Key}
use Rattle.mms_types.specs.declared.key.Scope.TheVariants.{Association}
use Rattle.mms_types.specs.declared.moment.Moment.{Moment}
use Rattle.association.specs.declared.waiting.Waiting.{Waiting}
use Rattle.token_sem.specs.declared.entry.Grant.{Grant}
use Rattle.token_sem.specs.Semaphore.{Rises, waits_for}
use Rattle.token_sem.proofs.Least.{Stands}
use Rattle.token_sem.proofs.Losing.{rises-filter}
use Rattle.mms_time.specs.Loss.{all_changed, keyed, lost, owner_grants, owners_lost_in, sorted_keys, without_owners, without_waiters}
use Rattle.mms_time.specs.Semaphores.{Rows, changed_row, entries_in, entries_of}
use Rattle.mms_time.specs.declared.row.Semaphore.{Semaphore}
use Rattle.mms_time.specs.declared.row.Semaphore.TheVariants.{Token, Pool}
use Rattle.mms_time.specs.declared.row.SemaphoreRow.{SemaphoreRow}
use Rattle.sem_ticks.specs.Granted.{granted, lost_granted}
use Rattle.sem_ticks.specs.declared.granted.Granted.{Granted}
use Rattle.cell_laws.specs.Linked.{asker}
use Rattle.cell_laws.proofs.Bound.{Bound, bound-less, bound-same, both-true, cond-some, key-same, less, nat-same, nat-test, of-both, one_entry, tests-same}
use Rattle.cell_laws.proofs.Entries.{Frees, asker_at, freeing, frees-lost, is_granted, leaving}
use Rattle.cell_laws.proofs.Queues.{Rise, all-changed-by, any-flat, any-map, any-stands, asker_in, flat-any, is_answered, rise-all, sorted-stands, stands-any, waiters-less}

-- ---- who is told

-- grants in the semaphore of a name, as they are told
abbrev pub told_grants : Rows → Key → List Grant → List Granted
told_grants rows key grants = map (λ g. granted rows (key, g)) grants

map-both : {A B : Type 0} (f : A → B) (xs ys : List A) → map f (xs ++ ys) ≡ map f xs ++ map f ys
map-both f [] ys = refl
map-both f (x ∷ xs) ys = ap (λ l. f x ∷ l) (map-both f xs ys)

keyed-told : (rows : Rows) (key : Key) (grants : List Grant) → map (granted rows) (keyed key grants) ≡ told_grants rows key grants
keyed-told rows key [] = refl
keyed-told rows key (g ∷ grants) = ap (λ (l : List Granted). granted rows (key, g) ∷ l) (keyed-told rows key grants)

pub all-told : (rows : Rows) (f : Key → List Grant) (keys : List Key) → map (granted rows) (flat_map (λ k. keyed k (f k)) keys) ≡ flat_map (λ k. told_grants rows k (f k)) keys
all-told rows f [] = refl
all-told rows f (k ∷ keys) =
    map-both (granted rows) (keyed k (f k)) (flat_map (λ l. keyed l (f l)) keys)
    ∙ ap (λ (l : List Granted). l ++ map (granted rows) (flat_map (λ j. keyed j (f j)) keys)) (keyed-told rows k (f k))
    ∙ ap (λ (l : List Granted). told_grants rows k (f k) ++ l) (all-told rows f keys)

-- one of them answers a request
pub any-told : (rows : Rows) (k : Key) (c i : ℕ) (grants : List Grant) → is_answered (told_grants rows k grants) c i ≡ list_any (λ g. c == g.client && i == g.invoke) grants
any-told rows k c i grants = any-map (λ g. c == g.client && i == g.invoke) (λ g. granted rows (k, g)) grants

-- ---- in all semaphores

module _ (client : ℕ) (now : Moment) (rows : Rows) (rises : Rise rows) where
  -- its own requests wait no more
  abbrev pub waited : Rows
  waited = all_changed (without_waiters client) rows

  waited-asks : (k : Key) (n : ℕ) → asker waited k n ≡ less (λ c i. c == client) (asker rows k n)
  waited-asks k n = all-changed-by (without_waiters client) rows k n (less (λ c i. c == client)) refl (λ row found. in_semaphore row.semaphore (rises k row found))
    where
      in_semaphore : (s : Semaphore) → (made : ℕ) × Rises 0 (entries_in s) made → asker_at n (entries_in (without_waiters client s)) ≡ less (λ c i. c == client) (asker_at n (entries_in s))
      in_semaphore (Token s) is = waiters-less 0 is.0 client n s.entries is.1
      in_semaphore (Pool p) is = waiters-less 0 is.0 client n p.entries is.1

  pub waited-rise : Rise waited
  waited-rise = rise-all (without_waiters client) rows (λ row made is. in_semaphore row.semaphore made is) rises
    where
      in_semaphore : (s : Semaphore) (made : ℕ) → Rises 0 (entries_in s) made → (new : ℕ) × Rises 0 (entries_in (without_waiters client s)) new
      in_semaphore (Token s) made is = (made, rises-filter (λ e. not (waits_for client e)) 0 made s.entries is)
      in_semaphore (Pool p) made is = (made, rises-filter (λ e. not (waits_for client e)) 0 made p.entries is)

  -- its tokens are granted
  abbrev pub owned : Rows
  owned = all_changed (without_owners client now) waited

  abbrev pub grants_at : Key → List Grant
  grants_at k = owner_grants client now (lookup (key_eq k) waited)

  owners-free : (row : SemaphoreRow) (made : ℕ) → Rises 0 (entries_of row) made
      → Frees (entries_of row) (owner_grants client now (Some row)) (entries_in (without_owners client now row.semaphore))
  owners-free row made is = in_semaphore row.semaphore is
    where
      in_semaphore : (s : Semaphore) → Rises 0 (entries_in s) made → Frees (entries_in s) (owners_lost_in client now s).grants (entries_in (without_owners client now s))
      in_semaphore (Token s) rs = frees-lost (leaving (Token s)) (freeing (Token s)) made client now s.entries rs
      in_semaphore (Pool p) rs = frees-lost (leaving (Pool p)) (freeing (Pool p)) made client now p.entries rs

  -- at each name
  abbrev pub Freed : Key → Type 0
  Freed k = ((n : ℕ) → asker owned k n ≡ cond (is_granted n (grants_at k)) None (asker waited k n))
      × ((g : Grant) → Stands (grants_at k) g → asker waited k g.entry ≡ Some (g.client, g.invoke))

  pub freed-at : (k : Key) → Freed k
  freed-at k = (
    λ n. ap (asker_in n) (lookup-map_values (changed_row (without_owners client now)) (key_eq k) waited) ∙ by_row n (lookup (key_eq k) waited) refl,
    λ g s. granted (lookup (key_eq k) waited) refl g s,
  )
    where
      by_row : (n : ℕ) (o : Option SemaphoreRow) → lookup (key_eq k) waited ≡ o
          → asker_in n (option_map (changed_row (without_owners client now)) o) ≡ cond (is_granted n (owner_grants client now o)) None (asker_in n o)
      by_row n None e = refl
      by_row n (Some row) e = let is = waited-rise k row e in (owners-free row is.0 is.1).left n

      granted : (o : Option SemaphoreRow) → lookup (key_eq k) waited ≡ o → (g : Grant) → Stands (owner_grants client now o) g → asker_in g.entry o ≡ Some (g.client, g.invoke)
      granted None e g s = absurd s
      granted (Some row) e g s = let is = waited-rise k row e in (owners-free row is.0 is.1).each g s

  -- what is told of them
  abbrev pub told_at : Key → List Granted
  told_at k = told_grants rows k (grants_at k)

  pub lost-told : lost_granted client now rows ≡ flat_map told_at (sorted_keys (keys_of rows))
  lost-told = all-told rows grants_at (sorted_keys (keys_of rows))

  answered-lost : (c i : ℕ) → is_answered (lost_granted client now rows) c i ≡ is_answered (flat_map told_at (sorted_keys (keys_of rows))) c i
  answered-lost c i = ap (λ (l : List Granted). is_answered l c i) lost-told

  -- its semaphores go
  gone-at : (k : Key) (n : ℕ) → asker (lost client now rows) k n ≡ asker_in n (cond (not (scope_eq k.scope (Association client))) (lookup (key_eq k) owned) None)
  gone-at k n =
      ap (asker_in n) (lookup-filter-keys (key_eq k) (λ x. not (scope_eq x.scope (Association client))) (not (scope_eq k.scope (Association client)))
      (λ x h. ap (λ (y : Key). not (scope_eq y.scope (Association client))) (sym (key-same k x h))) owned)

  module _ (f g : ℕ → ℕ → Option Waiting) (bound : Bound (asker rows) f)
      (left : (c i : ℕ) → g c i ≡ cond (is_answered (lost_granted client now rows) c i) None (cond (c == client) None (f c i))) where
    pub bound-waited : Bound (asker waited) (λ c i. cond (c == client) None (f c i))
    bound-waited = bound-less (λ c i. c == client) (asker rows) (asker waited) f (λ c i. cond (c == client) None (f c i)) bound waited-asks (λ c i. refl)

    there : (k : Key) (n c i : ℕ) → asker waited k n ≡ Some (c, i) → is_granted n (grants_at k) ≡ true → is_answered (lost_granted client now rows) c i ≡ true
    there k n c i is h = by_grant (any-stands (λ g. n == g.entry) (grants_at k) h)
      where
        found : (o : Option SemaphoreRow) → lookup (key_eq k) rows ≡ o → Stands (sorted_keys (keys_of rows)) k
        found (Some row) e = sorted-stands rows k row e
        found None e =
            let none : asker waited k n ≡ None = ap (asker_in n) (lookup-map_values (changed_row (without_waiters client)) (key_eq k) rows ∙ ap (option_map (changed_row (without_waiters client))) e) in
            absurd (cc (sym is ∙ none))

        by_grant : (x : Grant) × Stands (grants_at k) x × ((n == x.entry) ≡ true) → is_answered (lost_granted client now rows) c i ≡ true
        by_grant x =
            let same : (c, i) ≡ (x.0.client, x.0.invoke) = cc (sym is ∙ ap (asker waited k) (nat-same n x.0.entry x.2) ∙ (freed-at k).1 x.0 x.1) in
            answered-lost c i
            ∙ flat-any (λ g. c == g.client && i == g.invoke) told_at (sorted_keys (keys_of rows)) k (found (lookup (key_eq k) rows) refl)
            (any-told rows k c i (grants_at k)
            ∙ stands-any (λ g. c == g.client && i == g.invoke) (grants_at k) x.0 x.1
            (both-true (c == x.0.client) (i == x.0.invoke) (nat-test c x.0.client (ap (λ (a : ℕ × ℕ). a.0) same)) (nat-test i x.0.invoke (ap (λ (a : ℕ × ℕ). a.1) same))))

    back : (k : Key) (n c i : ℕ) → asker waited k n ≡ Some (c, i) → is_answered (lost_granted client now rows) c i ≡ true → is_granted n (grants_at k) ≡ true
    back k n c i is h = by_key (any-flat (λ g. c == g.client && i == g.invoke) told_at (sorted_keys (keys_of rows)) (sym (answered-lost c i) ∙ h))
      where
        by_grant : (l : Key) → (x : Grant) × Stands (grants_at l) x × ((c == x.client && i == x.invoke) ≡ true) → is_granted n (grants_at k) ≡ true
        by_grant l x =
            let tests = of-both (c == x.0.client) (i == x.0.invoke) x.2 in
            let mine : asker waited l x.0.entry ≡ Some (c, i) =
            (freed-at l).1 x.0 x.1 ∙ ap (λ (a : ℕ). Some (a, x.0.invoke)) (sym (nat-same c x.0.client tests.0)) ∙ ap (λ (a : ℕ). Some (c, a)) (sym (nat-same i x.0.invoke tests.1)) in
            let same = one_entry (asker waited) (λ d j. cond (d == client) None (f d j)) bound-waited k l n x.0.entry c i is mine in
            stands-any (λ g. n == g.entry) (grants_at k) x.0 (subst (λ (m : Key). Stands (grants_at m) x.0) (sym same.0) x.1) (nat-test n x.0.entry same.1)

        by_key : (l : Key) × (is_answered (told_at l) c i ≡ true) → is_granted n (grants_at k) ≡ true
        by_key l = by_grant l.0 (any-stands (λ g. c == g.client && i == g.invoke) (grants_at l.0) (sym (any-told rows l.0 c i (grants_at l.0)) ∙ l.1))

    owned-asks : (k : Key) (n : ℕ) → asker owned k n ≡ less (is_answered (lost_granted client now rows)) (asker waited k n)
    owned-asks k n = (freed-at k).0 n ∙ by_asker (asker waited k n) refl
      where
        both-none : (b : Bool) → cond {A = Option (ℕ × ℕ)} b None None ≡ None
        both-none true = refl
        both-none false = refl

        by_asker : (o : Option (ℕ × ℕ)) → asker waited k n ≡ o → cond (is_granted n (grants_at k)) None o ≡ less (is_answered (lost_granted client now rows)) o
        by_asker None e = both-none (is_granted n (grants_at k))
        by_asker (Some a) e =
            ap (λ t. cond t None (Some a)) (tests-same (is_granted n (grants_at k)) (is_answered (lost_granted client now rows) a.0 a.1) (there k n a.0 a.1 e) (back k n a.0 a.1 e))

    bound-owned : Bound (asker owned) g
    bound-owned = bound-less (is_answered (lost_granted client now rows)) (asker waited) (asker owned) (λ c i. cond (c == client) None (f c i)) g bound-waited owned-asks left

    -- who waits for a token of its semaphores is the client itself, and so waits no more
    none-owned : (k : Key) (n : ℕ) → scope_eq k.scope (Association client) ≡ true → asker owned k n ≡ None
    none-owned k n of = by_asker (asker owned k n) refl
      where
        by_asker : (o : Option (ℕ × ℕ)) → asker owned k n ≡ o → asker owned k n ≡ None
        by_asker None e = e
        by_asker (Some a) e =
            let mine : a.0 ≡ client = bound-owned.own k n a.0 a.1 client e of in
            let waits : g a.0 a.1 ≡ _ = bound-owned.waiting k n a.0 a.1 e in
            let was = cond-some (is_answered (lost_granted client now rows) a.0 a.1) (cond (a.0 == client) None (f a.0 a.1)) _ (sym (left a.0 a.1) ∙ waits) in
            let other = cond-some (a.0 == client) (f a.0 a.1) _ was.0 in
            absurd (cc (sym (nat-test a.0 client mine) ∙ other.1))

    pub bound-lost : Bound (asker (lost client now rows)) g
    bound-lost = bound-same (asker owned) (asker (lost client now rows)) g g bound-owned (λ k n. gone-at k n ∙ by_scope k n (scope_eq k.scope (Association client)) refl) (λ c i. refl)
      where
        by_scope : (k : Key) (n : ℕ) (b : Bool) → scope_eq k.scope (Association client) ≡ b → asker_in n (cond (not b) (lookup (key_eq k) owned) None) ≡ asker owned k n
        by_scope k n true e = sym (none-owned k n e)
        by_scope k n false e = refl
