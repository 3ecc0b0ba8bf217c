-- Which entries of all semaphores are queued, as the semaphores change.
use Rattle.std.proofs.Common.{◌≡◌, ℕ, ◌⊎◌, inl, inr, Bool, true, false, not, cond, ◌==◌, ◌&&◌, ◌||◌, List, [], ◌∷◌, ◌++◌, map, filter, Option, None, Some, is_some, option_map, option_and_then, refl, sym, ◌∙◌, ap, subst, arith}
use Rattle.std.specs.List.{flat_map, list_any}
use Rattle.std.specs.Map.{keys_of, lookup}
use Rattle.std.specs.Ordering.{is_lt}
use Rattle.std.proofs.lemmas.Map.{lookup-set_value}
use Rattle.std.proofs.lemmas.Map.Made.{lookup-map_values}
use Rattle.mms_types.specs.KeyLaws.{keys_equal}
use Rattle.mms_types.specs.Order.{key_eq, key_order}
use Rattle.mms_types.specs.declared.key.Key.{Key}
use Rattle.token_sem.specs.declared.entry.SemEntry.{SemEntry}
use Rattle.token_sem.specs.Semaphore.{Rises, is_queued, numbered, waits_for}
use Rattle.token_sem.proofs.Least.{Stands}
use Rattle.token_sem.proofs.Losing.{rises-filter}
use Rattle.mms_time.specs.Loss.{all_changed, insert_key, sorted_keys}
use Rattle.mms_time.specs.Semaphores.{Rows, changed, changed_row, changed_to, entries_in, entries_of, made_in}
use Rattle.mms_time.specs.declared.row.Semaphore.{Semaphore}
use Rattle.mms_time.specs.declared.row.SemaphoreRow.{SemaphoreRow}
use Rattle.sem_ticks.specs.Sound.{AreSound}
use Rattle.sem_ticks.specs.declared.granted.Granted.{Granted}
use Rattle.sem_ticks.proofs.Kept.{row_found}
use Rattle.cell_laws.specs.Linked.{asker, asker_of}
use Rattle.cell_laws.proofs.Bound.{key-same, less, nat-same}
use Rattle.cell_laws.proofs.Entries.{above-none, any-append, asker_at, at-head, at-tail, rises-in}

-- the request of the entry of that number, where the semaphore is there
abbrev pub asker_in : ℕ → Option SemaphoreRow → Option (ℕ × ℕ)
asker_in n o = asker_of (option_and_then (λ row. numbered n (entries_of row)) o)

-- each semaphore has its entries in order of number
abbrev pub Rise : Rows → Type 0
Rise rows = (k : Key) (row : SemaphoreRow) → lookup (key_eq k) rows ≡ Some row → (made : ℕ) × Rises 0 (entries_of row) made

pub rise : (rows : Rows) → AreSound rows → Rise rows
rise rows sound k row found = (made_in row.semaphore, rises-in row.semaphore (row_found rows k row sound.each found))

-- ---- one semaphore is changed

pub changed-at : (f : Semaphore → Semaphore) (key : Key) (rows : Rows) (row : SemaphoreRow) (g : ℕ → Option (ℕ × ℕ) → Option (ℕ × ℕ)) → lookup (key_eq key) rows ≡ Some row
    → ((n : ℕ) → asker_at n (entries_in (f row.semaphore)) ≡ g n (asker_at n (entries_of row)))
    → (k : Key) (n : ℕ) → asker (changed f key rows) k n ≡ cond (key_eq k key) (g n (asker rows k n)) (asker rows k n)
changed-at f key rows row g found is k n =
    ap (λ (o : Option SemaphoreRow). asker (changed_to o f key rows) k n) found
    ∙ ap (asker_in n) (lookup-set_value keys_equal (key_eq key) (λ x y h. keys_equal.congr key x y h) k (changed_row f row) rows (ap is_some found))
    ∙ by_test (key_eq key k) refl
  where
    by_test : (b : Bool) → key_eq key k ≡ b
        → asker_in n (cond b (Some (changed_row f row)) (lookup (key_eq k) rows)) ≡ cond (key_eq k key) (g n (asker rows k n)) (asker rows k n)
    by_test true e =
        let here : key_eq k key ≡ true = keys_equal.symm k key ∙ e in
        let there : asker rows k n ≡ asker_at n (entries_of row) = ap (λ (x : Key). asker rows x n) (key-same k key here) ∙ ap (asker_in n) found in
        is n ∙ ap (g n) (sym there) ∙ sym (ap (λ t. cond t (g n (asker rows k n)) (asker rows k n)) here)
    by_test false e = sym (ap (λ t. cond t (g n (asker rows k n)) (asker rows k n)) (keys_equal.symm k key ∙ e))

pub changed-none : (f : Semaphore → Semaphore) (key : Key) (rows : Rows) → lookup (key_eq key) rows ≡ None → changed f key rows ≡ rows
changed-none f key rows none = ap (λ (o : Option SemaphoreRow). changed_to o f key rows) none

-- no request is queued more or less
pub changed-still : (f : Semaphore → Semaphore) (key : Key) (rows : Rows)
    → ((row : SemaphoreRow) → lookup (key_eq key) rows ≡ Some row → (n : ℕ) → asker_at n (entries_in (f row.semaphore)) ≡ asker_at n (entries_of row))
    → (k : Key) (n : ℕ) → asker (changed f key rows) k n ≡ asker rows k n
changed-still f key rows is k n = by_row (lookup (key_eq key) rows) refl
  where
    by_test : (b : Bool) → cond b (asker rows k n) (asker rows k n) ≡ asker rows k n
    by_test true = refl
    by_test false = refl

    by_row : (o : Option SemaphoreRow) → lookup (key_eq key) rows ≡ o → asker (changed f key rows) k n ≡ asker rows k n
    by_row None e = ap (λ (rs : Rows). asker rs k n) (changed-none f key rows e)
    by_row (Some row) e = changed-at f key rows row (λ m o. o) e (is row e) k n ∙ by_test (key_eq k key)

-- one request is queued less
pub changed-less : (f : Semaphore → Semaphore) (key : Key) (rows : Rows) (row : SemaphoreRow) (number : ℕ) → lookup (key_eq key) rows ≡ Some row
    → ((n : ℕ) → asker_at n (entries_in (f row.semaphore)) ≡ cond (n == number) None (asker_at n (entries_of row)))
    → (k : Key) (n : ℕ) → asker (changed f key rows) k n ≡ cond (key_eq k key && n == number) None (asker rows k n)
changed-less f key rows row number found is k n =
    changed-at f key rows row (λ m o. cond (m == number) None o) found is k n ∙ by_tests (key_eq k key) (n == number)
  where
    by_tests : (a b : Bool) → cond a (cond b None (asker rows k n)) (asker rows k n) ≡ cond (a && b) None (asker rows k n)
    by_tests true b = refl
    by_tests false b = refl

-- one is queued more
pub changed-more : (f : Semaphore → Semaphore) (key : Key) (rows : Rows) (row : SemaphoreRow) (number : ℕ) (a : ℕ × ℕ) → lookup (key_eq key) rows ≡ Some row
    → ((n : ℕ) → asker_at n (entries_in (f row.semaphore)) ≡ cond (n == number) (Some a) (asker_at n (entries_of row)))
    → (k : Key) (n : ℕ) → asker (changed f key rows) k n ≡ cond (key_eq k key && n == number) (Some a) (asker rows k n)
changed-more f key rows row number a found is k n =
    changed-at f key rows row (λ m o. cond (m == number) (Some a) o) found is k n ∙ by_tests (key_eq k key) (n == number)
  where
    by_tests : (s t : Bool) → cond s (cond t (Some a) (asker rows k n)) (asker rows k n) ≡ cond (s && t) (Some a) (asker rows k n)
    by_tests true t = refl
    by_tests false t = refl

-- ---- all semaphores are changed

pub all-changed-by : (f : Semaphore → Semaphore) (rows : Rows) (k : Key) (n : ℕ) (g : Option (ℕ × ℕ) → Option (ℕ × ℕ)) → g None ≡ None
    → ((row : SemaphoreRow) → lookup (key_eq k) rows ≡ Some row → asker_at n (entries_in (f row.semaphore)) ≡ g (asker_at n (entries_of row)))
    → asker (all_changed f rows) k n ≡ g (asker rows k n)
all-changed-by f rows k n g none is = ap (asker_in n) (lookup-map_values (changed_row f) (key_eq k) rows) ∙ by_row (lookup (key_eq k) rows) refl
  where
    by_row : (o : Option SemaphoreRow) → lookup (key_eq k) rows ≡ o → asker_in n (option_map (changed_row f) o) ≡ g (asker_in n o)
    by_row None e = sym none
    by_row (Some row) e = is row e

pub rise-all : (f : Semaphore → Semaphore) (rows : Rows) → ((row : SemaphoreRow) (made : ℕ) → Rises 0 (entries_of row) made → (new : ℕ) × Rises 0 (entries_in (f row.semaphore)) new)
    → Rise rows → Rise (all_changed f rows)
rise-all f rows each rise k row found = by_row (lookup (key_eq k) rows) refl (sym (lookup-map_values (changed_row f) (key_eq k) rows) ∙ found)
  where
    by_row : (o : Option SemaphoreRow) → lookup (key_eq k) rows ≡ o → option_map (changed_row f) o ≡ Some row → (made : ℕ) × Rises 0 (entries_of row) made
    by_row None e h = absurd (cc h)
    by_row (Some was) e h =
        let same : changed_row f was ≡ row = cc h in
        let before = rise k was e in
        subst (λ (r : SemaphoreRow). (made : ℕ) × Rises 0 (entries_of r) made) same (each was before.0 before.1)

-- ---- the loss of a client: first its own requests wait no more

pub waiters-less : (low high client n : ℕ) (es : List SemEntry) → Rises low es high
    → asker_at n (filter (λ e. not (waits_for client e)) es) ≡ less (λ c i. c == client) (asker_at n es)
waiters-less low high client n [] rises = refl
waiters-less low high client n (e ∷ es) rises = by_number (e.number == n) refl (waiters-less e.number high client n es rises.1)
  where
    rest : List SemEntry
    rest = filter (λ x. not (waits_for client x)) es

    here : (a b : Bool) → e.client == client ≡ a → is_queued e ≡ b → (e.number == n) ≡ true
        → asker_at n (cond (not (a && b)) (e ∷ rest) rest) ≡ less (λ c i. c == client) (cond b (Some (e.client, e.invoke)) None)
    here true true ea eb en =
        above-none e.number high n rest (let same = nat-same e.number n en in omega (arith, same)) (rises-filter (λ x. not (waits_for client x)) e.number high es rises.1)
        ∙ sym (ap (λ t. cond t None (Some (e.client, e.invoke))) ea)
    here true false ea eb en = at-head n e rest en ∙ ap (λ t. cond t (Some (e.client, e.invoke)) None) eb
    here false true ea eb en = at-head n e rest en ∙ ap (λ t. cond t (Some (e.client, e.invoke)) None) eb ∙ sym (ap (λ t. cond t None (Some (e.client, e.invoke))) ea)
    here false false ea eb en = at-head n e rest en ∙ ap (λ t. cond t (Some (e.client, e.invoke)) None) eb

    there : (b : Bool) → (e.number == n) ≡ false → asker_at n rest ≡ less (λ c i. c == client) (asker_at n es)
        → asker_at n (cond (not b) (e ∷ rest) rest) ≡ less (λ c i. c == client) (asker_at n es)
    there true en ih = ih
    there false en ih = at-tail n e rest en ∙ ih

    by_number : (t : Bool) → (e.number == n) ≡ t → asker_at n rest ≡ less (λ c i. c == client) (asker_at n es)
        → asker_at n (cond (not (e.client == client && is_queued e)) (e ∷ rest) rest) ≡ less (λ c i. c == client) (asker_at n (e ∷ es))
    by_number true en ih = here (e.client == client) (is_queued e) refl refl en ∙ ap (less (λ c i. c == client)) (sym (at-head n e es en))
    by_number false en ih = there (e.client == client && is_queued e) en ih ∙ ap (less (λ c i. c == client)) (sym (at-tail n e es en))

-- ---- lists

pub any-stands : {A : Type 0} (p : A → Bool) (xs : List A) → list_any p xs ≡ true → (x : A) × Stands xs x × (p x ≡ true)
any-stands p [] h = absurd (cc h)
any-stands {A} p (x ∷ xs) h = by_test (p x) refl (any-stands p xs) h
  where
    by_test : (b : Bool) → p x ≡ b → (list_any p xs ≡ true → (y : A) × Stands xs y × (p y ≡ true)) → b || list_any p xs ≡ true → (y : A) × Stands (x ∷ xs) y × (p y ≡ true)
    by_test true e ih g = (x, inl refl, e)
    by_test false e ih g = let found = ih g in (found.0, inr found.1, found.2)

pub stands-any : {A : Type 0} (p : A → Bool) (xs : List A) (x : A) → Stands xs x → p x ≡ true → list_any p xs ≡ true
stands-any p [] x s h = absurd s
stands-any p (y ∷ xs) x (inl same) h = ap (λ t. t || list_any p xs) (ap p same ∙ h)
stands-any p (y ∷ xs) x (inr s) h = by_test (p y) (stands-any p xs x s h)
  where
    by_test : (b : Bool) → list_any p xs ≡ true → b || list_any p xs ≡ true
    by_test true e = refl
    by_test false e = e

any-either : {A : Type 0} (p : A → Bool) (xs ys : List A) → list_any p (xs ++ ys) ≡ true → (list_any p xs ≡ true) ⊎ (list_any p ys ≡ true)
any-either p xs ys h = by_test (list_any p xs) refl (sym (any-append p xs ys) ∙ h)
  where
    by_test : (b : Bool) → list_any p xs ≡ b → b || list_any p ys ≡ true → (list_any p xs ≡ true) ⊎ (list_any p ys ≡ true)
    by_test true e g = inl e
    by_test false e g = inr g

pub any-flat : {K A : Type 0} (p : A → Bool) (f : K → List A) (ks : List K) → list_any p (flat_map f ks) ≡ true → (k : K) × (list_any p (f k) ≡ true)
any-flat p f [] h = absurd (cc h)
any-flat {K} p f (k ∷ ks) h = by_part (any-flat p f ks) (any-either p (f k) (flat_map f ks) h)
  where
    by_part : (list_any p (flat_map f ks) ≡ true → (l : K) × (list_any p (f l) ≡ true)) → (list_any p (f k) ≡ true) ⊎ (list_any p (flat_map f ks) ≡ true) → (l : K) × (list_any p (f l) ≡ true)
    by_part ih (inl a) = (k, a)
    by_part ih (inr b) = ih b

pub flat-any : {K A : Type 0} (p : A → Bool) (f : K → List A) (ks : List K) (k : K) → Stands ks k → list_any p (f k) ≡ true → list_any p (flat_map f ks) ≡ true
flat-any p f [] k s h = absurd s
flat-any p f (l ∷ ks) k (inl same) h =
    any-append p (f l) (flat_map f ks) ∙ ap (λ t. t || list_any p (flat_map f ks)) (ap (λ x. list_any p (f x)) same ∙ h)
flat-any p f (l ∷ ks) k (inr s) h = any-append p (f l) (flat_map f ks) ∙ by_test (list_any p (f l)) (flat-any p f ks k s h)
  where
    by_test : (b : Bool) → list_any p (flat_map f ks) ≡ true → b || list_any p (flat_map f ks) ≡ true
    by_test true e = refl
    by_test false e = e

pub any-map : {A B : Type 0} (p : B → Bool) (f : A → B) (xs : List A) → list_any p (map f xs) ≡ list_any (λ x. p (f x)) xs
any-map p f [] = refl
any-map p f (x ∷ xs) = ap (λ t. p (f x) || t) (any-map p f xs)

pub map-stands : {A B : Type 0} (f : A → B) (xs : List A) (x : A) → Stands xs x → Stands (map f xs) (f x)
map-stands f [] x s = absurd s
map-stands f (y ∷ xs) x (inl same) = inl (ap f same)
map-stands f (y ∷ xs) x (inr s) = inr (map-stands f xs x s)

pub stands-map : {A B : Type 0} (f : A → B) (xs : List A) (y : B) → Stands (map f xs) y → (x : A) × Stands xs x × (f x ≡ y)
stands-map f [] y s = absurd s
stands-map f (x ∷ xs) y (inl same) = (x, inl refl, same)
stands-map f (x ∷ xs) y (inr s) = let found = stands-map f xs y s in (found.0, inr found.1, found.2)

inserted-itself : (key : Key) (keys : List Key) → Stands (insert_key key keys) key
inserted-itself key [] = inl refl
inserted-itself key (other ∷ keys) = by_test (is_lt (key_order other key)) (inserted-itself key keys)
  where
    by_test : (b : Bool) → Stands (insert_key key keys) key → Stands (cond b (other ∷ insert_key key keys) (key ∷ other ∷ keys)) key
    by_test true ih = inr ih
    by_test false ih = inl refl

inserted-stays : (key k : Key) (keys : List Key) → Stands keys k → Stands (insert_key key keys) k
inserted-stays key k [] s = absurd s
inserted-stays key k (other ∷ keys) s = by_test (is_lt (key_order other key)) s (inserted-stays key k keys)
  where
    by_test : (b : Bool) → Stands (other ∷ keys) k → (Stands keys k → Stands (insert_key key keys) k) → Stands (cond b (other ∷ insert_key key keys) (key ∷ other ∷ keys)) k
    by_test true (inl same) ih = inl same
    by_test true (inr t) ih = inr (ih t)
    by_test false t ih = inr t

pub sorted-stands : (rows : Rows) (k : Key) (row : SemaphoreRow) → lookup (key_eq k) rows ≡ Some row → Stands (sorted_keys (keys_of rows)) k
sorted-stands [] k row found = absurd (cc found)
sorted-stands (e ∷ rows) k row found = by_test (key_eq k e.0) refl (sorted-stands rows k row) found
  where
    by_test : (b : Bool) → key_eq k e.0 ≡ b → (lookup (key_eq k) rows ≡ Some row → Stands (sorted_keys (keys_of rows)) k) → cond b (Some e.1) (lookup (key_eq k) rows) ≡ Some row
        → Stands (insert_key e.0 (sorted_keys (keys_of rows))) k
    by_test true h ih g = subst (Stands (insert_key e.0 (sorted_keys (keys_of rows)))) (sym (key-same k e.0 h)) (inserted-itself e.0 (sorted_keys (keys_of rows)))
    by_test false h ih g = inserted-stays e.0 k (sorted_keys (keys_of rows)) (ih g)

-- ---- then tokens of its owners are granted, and its semaphores go

abbrev pub is_answered : List Granted → ℕ → ℕ → Bool
is_answered grants c i = list_any (λ g. c == g.client && i == g.invoke) grants
