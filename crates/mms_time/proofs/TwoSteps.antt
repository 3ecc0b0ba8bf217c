-- To lose a client semaphore by semaphore is to lose its queued entries in all, and then its owner entries.
use Rattle.std.proofs.Common.{◌≡◌, ◌∙◌, ap, sym, refl, ℕ, Bool, true, false, not, ◌&&◌, ◌==◌, cond, List, [], ◌∷◌, ◌++◌, filter, fold, Option, None, Some, option_map}
use Rattle.std.specs.List.{flat_map}
use Rattle.std.specs.Map.{lookup}
use Rattle.mms_types.specs.Order.{key_eq}
use Rattle.mms_types.specs.declared.key.Key.{Key}
use Rattle.mms_types.specs.declared.moment.Moment.{Moment}
use Rattle.pool_sem.specs.Pools as pool
use Rattle.token_sem.specs.Semaphore.{Loss, is_owner_state, is_queued_state, loss_of, loss_of_one, owned_by, waits_for}
use Rattle.token_sem.specs.declared.entry.SemEntry.{SemEntry}
use Rattle.token_sem.specs.declared.entry.SemState.{SemState}
use Rattle.token_sem.specs.declared.entry.SemState.TheVariants.{Queued, Owner, Hung}
use Rattle.mms_time.specs.Loss.{all_changed, grants_of, keyed, owner_grants, owners_lost, pool_owners_lost, semaphore_without, without_owners, without_waiters}
use Rattle.mms_time.specs.Semaphores.{Rows, changed_row}
use Rattle.mms_time.specs.declared.row.Semaphore.{Semaphore}
use Rattle.mms_time.specs.declared.row.Semaphore.TheVariants.{Token, Pool}
use Rattle.mms_time.specs.declared.row.SemaphoreRow.{SemaphoreRow}

-- an owner doesn't wait
apart : (client : ℕ) (e : SemEntry) → owned_by client e ≡ true → waits_for client e ≡ false
apart client e = by_state (e.client == client) e.state
  where
    by_state : (b : Bool) (state : SemState) → (b && is_owner_state state) ≡ true → (b && is_queued_state state) ≡ false
    by_state false state h = refl
    by_state true Queued h = absurd cc
    by_state true Owner h = refl
    by_state true Hung h = refl

still_owned : (owned waits : SemEntry → Bool) → ((e : SemEntry) → owned e ≡ true → waits e ≡ false) → (es : List SemEntry) → filter owned (filter (λ e. not (waits e)) es) ≡ filter owned es
still_owned owned waits other [] = refl
still_owned owned waits other (e ∷ es) = by_test (waits e) refl (owned e) refl (still_owned owned waits other es)
  where
    kept : (b : Bool) → filter owned (filter (λ e. not (waits e)) es) ≡ filter owned es
        → cond b (e ∷ filter owned (filter (λ e. not (waits e)) es)) (filter owned (filter (λ e. not (waits e)) es)) ≡ cond b (e ∷ filter owned es) (filter owned es)
    kept true rest = ap (λ (l : List SemEntry). e ∷ l) rest
    kept false rest = rest

    by_test : (a : Bool) → waits e ≡ a → (b : Bool) → owned e ≡ b → filter owned (filter (λ e. not (waits e)) es) ≡ filter owned es
        → filter owned (cond (not a) (e ∷ filter (λ e. not (waits e)) es) (filter (λ e. not (waits e)) es)) ≡ cond b (e ∷ filter owned es) (filter owned es)
    by_test true p true q rest = absurd (let n = other e q in cc)
    by_test true p false q rest = rest
    by_test false p b q rest =
        ap (λ (c : Bool). cond c (e ∷ filter owned (filter (λ e. not (waits e)) es)) (filter owned (filter (λ e. not (waits e)) es))) q ∙ kept b rest

one_loss : (client : ℕ) (now : Moment) (es : List SemEntry) → loss_of client now es ≡ owners_lost client now (filter (λ e. not (waits_for client e)) es)
one_loss client now es =
    ap (fold (loss_of_one now) (record { entries = filter (λ e. not (waits_for client e)) es; grants = [] }))
    (sym (still_owned (owned_by client) (waits_for client) (apart client) es))

pool_one_loss : (client : ℕ) (now : Moment) (es : List SemEntry) → pool.loss_of client now es ≡ pool_owners_lost client now (filter (λ e. not (waits_for client e)) es)
pool_one_loss client now es =
    ap (fold (pool.loss_of_one now) (record { entries = filter (λ e. not (waits_for client e)) es; grants = [] }))
    (sym (still_owned (owned_by client) (waits_for client) (apart client) es))

one_semaphore : (client : ℕ) (now : Moment) (s : Semaphore) → semaphore_without client now s ≡ without_owners client now (without_waiters client s)
one_semaphore client now (Token s) = ap (λ (l : Loss). Token (record s { entries = l.entries })) (one_loss client now s.entries)
one_semaphore client now (Pool p) = ap (λ (l : Loss). Pool (record p { entries = l.entries })) (pool_one_loss client now p.entries)

pub each_semaphore : (client : ℕ) (now : Moment) (rows : Rows) → all_changed (semaphore_without client now) rows ≡ all_changed (without_owners client now) (all_changed (without_waiters client) rows)
each_semaphore client now [] = refl
each_semaphore client now (row ∷ rows) =
    let here : (row.0, changed_row (semaphore_without client now) row.1) ≡ (row.0, record row.1 { semaphore = without_owners client now (without_waiters client row.1.semaphore) }) =
    ap (λ (s : Semaphore). (row.0, record row.1 { semaphore = s })) (one_semaphore client now row.1.semaphore)
    in
    ap (λ (r : Key × SemaphoreRow). r ∷ all_changed (semaphore_without client now) rows) here
    ∙ ap (λ (rest : Rows). (row.0, record row.1 { semaphore = without_owners client now (without_waiters client row.1.semaphore) }) ∷ rest) (each_semaphore client now rows)

found_changed : (change : Semaphore → Semaphore) (test : Key → Bool) (rows : Rows) → lookup test (all_changed change rows) ≡ option_map (changed_row change) (lookup test rows)
found_changed change test [] = refl
found_changed change test (row ∷ rows) = by_test (test row.0) (found_changed change test rows)
  where
    by_test : (b : Bool) → lookup test (all_changed change rows) ≡ option_map (changed_row change) (lookup test rows)
        → cond b (Some (changed_row change row.1)) (lookup test (all_changed change rows)) ≡ option_map (changed_row change) (cond b (Some row.1) (lookup test rows))
    by_test true rest = refl
    by_test false rest = rest

one_grant : (client : ℕ) (now : Moment) (o : Option SemaphoreRow) → grants_of client now o ≡ owner_grants client now (option_map (changed_row (without_waiters client)) o)
one_grant client now None = refl
one_grant client now (Some row) = in_semaphore row.semaphore
  where
    in_semaphore : (s : Semaphore) → grants_of client now (Some (record row { semaphore = s })) ≡ owner_grants client now (Some (record row { semaphore = without_waiters client s }))
    in_semaphore (Token s) = ap (λ (l : Loss). l.grants) (one_loss client now s.entries)
    in_semaphore (Pool p) = ap (λ (l : Loss). l.grants) (pool_one_loss client now p.entries)

each_key : {A : Type 0} (f g : Key → List A) → ((k : Key) → f k ≡ g k) → (keys : List Key) → flat_map f keys ≡ flat_map g keys
each_key f g same [] = refl
each_key f g same (key ∷ keys) = ap (λ l. l ++ flat_map f keys) (same key) ∙ ap (λ l. g key ++ l) (each_key f g same keys)

pub each_grant : (client : ℕ) (now : Moment) (rows : Rows) (keys : List Key) → flat_map (λ key. keyed key (grants_of client now (lookup (key_eq key) rows))) keys
    ≡ flat_map (λ key. keyed key (owner_grants client now (lookup (key_eq key) (all_changed (without_waiters client) rows)))) keys
each_grant client now rows =
    each_key (λ key. keyed key (grants_of client now (lookup (key_eq key) rows)))
    (λ key. keyed key (owner_grants client now (lookup (key_eq key) (all_changed (without_waiters client) rows))))
    (λ key. ap (keyed key) (one_grant client now (lookup (key_eq key) rows) ∙ ap (owner_grants client now) (sym (found_changed (without_waiters client) (key_eq key) rows))))
