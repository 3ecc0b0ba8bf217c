-- Each service for semaphores keeps what links requests that wait and entries that are queued.
use Rattle.std.proofs.Common.{◌≡◌, ℕ, ◌+◌, ◌<◌, ◌≤◌, inl, Bool, true, false, not, cond, ◌==◌, ◌&&◌, ◌||◌, List, [], ◌∷◌, length, Option, None, Some, option_map, option_to_list, if◌then◌else◌, refl, sym, ◌∙◌, ap, subst, arith, ◌++◌}
use Rattle.std.specs.Map.{lookup}
use Rattle.std.proofs.lemmas.Bool.Decides.{nat_tests}
use Rattle.std.proofs.lemmas.Map.{lookup-remove_entry}
use Rattle.mms_types.proofs.Conditions.{none_holds}
use Rattle.mms_types.specs.Errors.{first_of, object_access_denied, object_constraint_conflict}
use Rattle.mms_types.specs.KeyLaws.{keys_equal}
use Rattle.mms_types.specs.Order.{key_eq, key_of}
use Rattle.mms_types.specs.declared.key.Key.{Key}
use Rattle.mms_types.specs.declared.moment.Moment.{Moment}
use Rattle.mms_types.specs.declared.object_name.ObjectName.{ObjectName}
use Rattle.mms_types.specs.declared.semaphore.DefineSemaphore.{DefineSemaphore}
use Rattle.mms_types.specs.declared.semaphore.RelinquishControl.{RelinquishControl}
use Rattle.mms_types.specs.declared.semaphore.TakeControl.{TakeControl}
use Rattle.mms_types.specs.declared.semaphore.TakeControlAnswer.{TakeControlAnswer}
use Rattle.association.specs.declared.waiting.Waiting.{Waiting}
use Rattle.token_sem.specs.declared.entry.Grant.{Grant}
use Rattle.token_sem.specs.declared.entry.SemEntry.{SemEntry}
use Rattle.token_sem.specs.Semaphore.{Rises, after_giving_back, heir_of, is_queued, owned_by, owner_of}
use Rattle.token_sem.proofs.Keeping.{among-find}
use Rattle.token_sem.proofs.Losing.{owner-not_queued}
use Rattle.pool_sem.specs.Pools as pool
use Rattle.mms_time.specs.Semaphores.{IsSound, Rows, changed, entries_in, entries_of, entry_in, entry_waits, made_in}
use Rattle.mms_time.specs.Services.{cancel_after, cancelled, define_after, delete_cause, delete_conditions, deleted, new_semaphore, place_asked, relinquish_after, relinquish_grant_in, relinquish_grant_of, take_after, take_cause, take_conditions, take_told, take_told_in, take_told_of, with_take, with_token_back, without_entry}
use Rattle.mms_time.proofs.Defined.{new_row, put_lookup}
use Rattle.mms_time.specs.declared.row.Semaphore.{Semaphore}
use Rattle.mms_time.specs.declared.row.Semaphore.TheVariants.{Token, Pool}
use Rattle.mms_time.specs.declared.row.SemaphoreRow.{SemaphoreRow}
use Rattle.mms_time.specs.declared.taking.TakeDone.TheVariants.{Answered, Waits}
use Rattle.sem_ticks.specs.Granted.{granted, relinquish_granted}
use Rattle.sem_ticks.specs.Sound.{AreSound}
use Rattle.sem_ticks.specs.declared.granted.Granted.{Granted}
use Rattle.sem_ticks.proofs.Kept.{row_found}
use Rattle.cell_laws.specs.Linked.{asker, asker_of}
use Rattle.cell_laws.proofs.Bound.{Bound, bound-drop, bound-more, bound-same, key-same, nat-same, of-both, request_of}
use Rattle.cell_laws.proofs.Entries.{Frees, asker_at, at-tail, drops-without, freeing, none-granted, not_queued, owned_owner, rises-in}
use Rattle.cell_laws.proofs.Queues.{asker_in, changed-at, changed-less, changed-more, is_answered}
use Rattle.cell_laws.proofs.Requests.{Takes, own-name, takes}

beyond-none : (low high n : ℕ) (es : List SemEntry) → high < n → Rises low es high → asker_at n es ≡ None
beyond-none low high n [] above rises = refl
beyond-none low high n (e ∷ es) above rises =
    let few = low-high e.number high es rises.1 in
    let other : (e.number == n) ≡ false = grind (arith, nat_tests) in
    at-tail n e es other ∙ beyond-none e.number high n es above rises.1
  where
    low-high : (l h : ℕ) (xs : List SemEntry) → Rises l xs h → l ≤ h
    low-high l h [] r = r
    low-high l h (y ∷ xs) r = let a = low-high y.number h xs r.1 in let b = r.0 in omega (arith, a, b)

next-none : (s : Semaphore) → IsSound s → asker_at (made_in s + 1) (entries_in s) ≡ None
next-none s is = beyond-none 0 (made_in s) (made_in s + 1) (entries_in s) (omega arith) (rises-in s is)

pub given-back : (client : ℕ) (x : RelinquishControl) (now : Moment) (s : Semaphore) → IsSound s
    → Frees (entries_in s) (option_to_list (relinquish_grant_in client x s)) (entries_in (with_token_back client x.token now s))
given-back client x now (Token s) is = by_owner (owner_of client s.entries) refl
  where
    by_owner : (o : Option SemEntry) → owner_of client s.entries ≡ o → Frees s.entries (option_to_list (heir_of o s.entries)) (after_giving_back o now s).entries
    by_owner None e = none-granted s.entries
    by_owner (Some owner) e =
        let found = among-find (owned_by client) s.entries owner e in
        (freeing (Token s)).frees s.made now s.entries owner is.rises
        (not_queued s.made s.entries owner is.rises found.0 (owner-not_queued owner (owned_owner client owner found.1)))
given-back client x now (Pool p) is = by_owner (pool.owner_of client place p.entries) refl
  where
    place : Option ℕ
    place = place_asked x.token p.tokens

    by_owner : (o : Option SemEntry) → pool.owner_of client place p.entries ≡ o → Frees p.entries (option_to_list (pool.heir_of o p.entries)) (pool.after_giving_back o now p).entries
    by_owner None e = none-granted p.entries
    by_owner (Some owner) e =
        let found = among-find (λ y. owned_by client y && pool.names place y.token) p.entries owner e in
        (freeing (Pool p)).frees p.made now p.entries owner is.rises
        (not_queued p.made p.entries owner is.rises found.0
        (owner-not_queued owner (owned_owner client owner (of-both (owned_by client owner) (pool.names place owner.token) found.1).0)))

-- who is granted a token in the semaphore of a name is told
abbrev pub told_of : Rows → Key → Option Grant → Option Granted
told_of rows key o = option_map (λ grant. granted rows (key, grant)) o

module _ (rows : Rows) (f : ℕ → ℕ → Option Waiting) (bound : Bound (asker rows) f) where
  -- one semaphore is changed, in which a token is granted, or none
  pub bound-freed : (F : Semaphore → Semaphore) (key : Key) (row : SemaphoreRow) (o : Option Grant) (named : Rows) (g : ℕ → ℕ → Option Waiting)
      → lookup (key_eq key) rows ≡ Some row → Frees (entries_of row) (option_to_list o) (entries_in (F row.semaphore))
      → ((c i : ℕ) → g c i ≡ cond (is_answered (option_to_list (told_of named key o)) c i) None (f c i)) → Bound (asker (changed F key rows)) g
  bound-freed F key row None named g found frees left =
      bound-same (asker rows) (asker (changed F key rows)) f g bound
      (λ k n. changed-at F key rows row (λ m o. o) found frees.left k n ∙ by_test (key_eq k key) (asker rows k n)) left
    where
      by_test : (b : Bool) (o : Option (ℕ × ℕ)) → cond b o o ≡ o
      by_test true o = refl
      by_test false o = refl
  bound-freed F key row (Some gr) named g found frees left =
      bound-drop (asker rows) f bound (asker (changed F key rows)) g key gr.entry gr.client gr.invoke (ap (asker_in gr.entry) found ∙ frees.each gr (inl refl))
      (changed-less F key rows row gr.entry found (λ n. frees.left n ∙ one (n == gr.entry) (asker_at n (entries_of row))))
      (λ c i. left c i ∙ one (c == gr.client && i == gr.invoke) (f c i))
    where
      one : {A : Type 0} (b : Bool) (o : Option A) → cond (b || false) None o ≡ cond b None o
      one true o = refl
      one false o = refl

  pub bound-given : (sound : AreSound rows) (client : ℕ) (now : Moment) (x : RelinquishControl) (o : Option Granted) (g : ℕ → ℕ → Option Waiting)
      → relinquish_granted client x rows ≡ Some o → ((c i : ℕ) → g c i ≡ cond (is_answered (option_to_list o) c i) None (f c i))
      → Bound (asker (relinquish_after client now x rows)) g
  bound-given sound client now x o g is left = by_row (lookup (key_eq key) rows) refl is
    where
      key : Key
      key = key_of client x.name

      by_row : (p : Option SemaphoreRow) → lookup (key_eq key) rows ≡ p → option_map (told_of rows key) (relinquish_grant_of client x p) ≡ Some o
          → Bound (asker (relinquish_after client now x rows)) g
      by_row None e h = absurd (cc h)
      by_row (Some row) e h =
          let same : told_of rows key (relinquish_grant_in client x row.semaphore) ≡ o = cc h in
          bound-freed (with_token_back client x.token now) key row (relinquish_grant_in client x row.semaphore) rows g e
          (given-back client x now row.semaphore (row_found rows key row sound.each e))
          (λ c i. left c i ∙ ap (λ (p : Option Granted). cond (is_answered (option_to_list p) c i) None (f c i)) (sym same))

  -- a token is had at once
  pub bound-answered : (sound : AreSound rows) (client invoke : ℕ) (now : Moment) (x : TakeControl) (told : TakeControlAnswer) → take_cause client x rows ≡ None
      → take_told client x rows ≡ Some (Answered told) → Bound (asker (take_after client invoke now x rows)) f
  bound-answered sound client invoke now x told none is = by_row (lookup (key_eq (key_of client x.name)) rows) refl none is
    where
      by_test : (b : Bool) (o : Option (ℕ × ℕ)) → cond b o o ≡ o
      by_test true o = refl
      by_test false o = refl

      by_row : (p : Option SemaphoreRow) → lookup (key_eq (key_of client x.name)) rows ≡ p → first_of (take_conditions client x p) ≡ None → take_told_of x p ≡ Some (Answered told)
          → Bound (asker (take_after client invoke now x rows)) f
      by_row None e h j = absurd (cc j)
      by_row (Some row) e h j =
          let same : take_told_in x row.semaphore ≡ Answered told = cc j in
          let still : Takes client invoke now x row.semaphore (Answered told) =
          subst (Takes client invoke now x row.semaphore) same (takes client invoke now x row.semaphore (row_found rows (key_of client x.name) row sound.each e) h) in
          bound-same (asker rows) (asker (take_after client invoke now x rows)) f f bound
          (λ k n. changed-at (with_take client invoke x now) (key_of client x.name) rows row (λ m o. o) e still k n ∙ by_test (key_eq k (key_of client x.name)) (asker rows k n))
          (λ c i. refl)

  -- a client waits
  pub bound-waits : (sound : AreSound rows) (client invoke : ℕ) (now : Moment) (x : TakeControl) (entry : ℕ) (g : ℕ → ℕ → Option Waiting) → take_cause client x rows ≡ None
      → take_told client x rows ≡ Some (Waits entry) → f client invoke ≡ None
      → ((c i : ℕ) → g c i ≡ cond (c == client && i == invoke) (Some (request_of invoke (key_of client x.name) entry)) (f c i))
      → Bound (asker (take_after client invoke now x rows)) g
  bound-waits sound client invoke now x entry g none is new more = by_row (lookup (key_eq (key_of client x.name)) rows) refl none is
    where
      by_row : (p : Option SemaphoreRow) → lookup (key_eq (key_of client x.name)) rows ≡ p → first_of (take_conditions client x p) ≡ None → take_told_of x p ≡ Some (Waits entry)
          → Bound (asker (take_after client invoke now x rows)) g
      by_row None e h j = absurd (cc j)
      by_row (Some row) e h j =
          let same : take_told_in x row.semaphore ≡ Waits entry = cc j in
          let is_sound = row_found rows (key_of client x.name) row sound.each e in
          let waits : Takes client invoke now x row.semaphore (Waits entry) =
          subst (Takes client invoke now x row.semaphore) same (takes client invoke now x row.semaphore is_sound h) in
          bound-more (asker rows) f bound (asker (take_after client invoke now x rows)) g (key_of client x.name) entry client invoke
          (ap (asker_in entry) e ∙ ap (λ m. asker_at m (entries_of row)) waits.0 ∙ next-none row.semaphore is_sound) new
          (λ d h. own-name client d x.name h)
          (changed-more (with_take client invoke x now) (key_of client x.name) rows row entry (client, invoke) e waits.1) more

  -- a request is cancelled
  pub bound-cancelled : (key : Key) (number client invoke : ℕ) (g : ℕ → ℕ → Option Waiting) → asker rows key number ≡ Some (client, invoke)
      → ((c i : ℕ) → g c i ≡ cond (c == client && i == invoke) None (f c i)) → Bound (asker (cancelled key number rows)) g
  bound-cancelled key number client invoke g is left =
      subst (λ (b : Bool). Bound (asker (if b then cancel_after key number rows else rows)) g) (sym (waits (entry_in key number rows) is)) (by_row (lookup (key_eq key) rows) refl)
    where
      waits : (o : Option SemEntry) → asker_of o ≡ Some (client, invoke) → entry_waits o ≡ true
      waits None h = absurd (cc h)
      waits (Some e) h = by_test (is_queued e) h
        where
          by_test : (b : Bool) → cond {A = Option (ℕ × ℕ)} b (Some (e.client, e.invoke)) None ≡ Some (client, invoke) → b ≡ true
          by_test true k = refl
          by_test false k = absurd (cc k)

      in_semaphore : (s : Semaphore) (n : ℕ) → asker_at n (entries_in (without_entry number s)) ≡ cond (n == number) None (asker_at n (entries_in s))
      in_semaphore (Token s) n = drops-without number s.entries n
      in_semaphore (Pool p) n = drops-without number p.entries n

      by_row : (p : Option SemaphoreRow) → lookup (key_eq key) rows ≡ p → Bound (asker (cancel_after key number rows)) g
      by_row None e = let none : asker rows key number ≡ None = ap (asker_in number) e in absurd (cc (sym is ∙ none))
      by_row (Some row) e =
          bound-drop (asker rows) f bound (asker (cancel_after key number rows)) g key number client invoke is
          (changed-less (without_entry number) key rows row number e (in_semaphore row.semaphore)) left

  -- a semaphore is defined
  pub bound-defined : (client : ℕ) (x : DefineSemaphore) → lookup (key_eq (key_of client x.name)) rows ≡ None → Bound (asker (define_after client x rows)) f
  bound-defined client x new =
      bound-same (asker rows) (asker (define_after client x rows)) f f bound (λ k n. ap (asker_in n) (put_lookup (new_row client x) rows k new) ∙ still k n rows) (λ c i. refl)
    where
      still : (k : Key) (n : ℕ) (all : Rows) → asker (all ++ new_row client x ∷ []) k n ≡ asker all k n
      still k n [] = by_test (key_eq k (key_of client x.name))
        where
          by_test : (b : Bool) → asker_in n (cond b (Some (record { configured = false; semaphore = new_semaphore x.tokens })) None) ≡ None
          by_test true = refl
          by_test false = refl
      still k n (row ∷ all) = by_test (key_eq k row.0) (still k n all)
        where
          by_test : (b : Bool) → asker (all ++ new_row client x ∷ []) k n ≡ asker all k n
              → asker_in n (cond b (Some row.1) (lookup (key_eq k) (all ++ new_row client x ∷ []))) ≡ asker_in n (cond b (Some row.1) (lookup (key_eq k) all))
          by_test true ih = refl
          by_test false ih = ih

  -- a semaphore is deleted, which has no entries
  pub bound-deleted : (sound : AreSound rows) (client : ℕ) (x : ObjectName) → delete_cause client x rows ≡ None → Bound (asker (deleted (key_of client x) rows)) f
  bound-deleted sound client x none =
      bound-same (asker rows) (asker (deleted key rows)) f f bound
      (λ k n. ap (asker_in n) (lookup-remove_entry keys_equal (key_eq key) (λ y z h. keys_equal.congr key y z h) k rows sound.names) ∙ by_test k n (key_eq key k) refl) (λ c i. refl)
    where
      key : Key
      key = key_of client x

      no-entries : (n : ℕ) (es : List SemEntry) → not (length es == 0) ≡ false → asker_at n es ≡ None
      no-entries n [] h = refl
      no-entries n (e ∷ es) h = by_length (length (e ∷ es) == 0) refl h
        where
          by_length : (b : Bool) → (length (e ∷ es) == 0) ≡ b → not b ≡ false → asker_at n (e ∷ es) ≡ None
          by_length true t g = let same = nat-same (length (e ∷ es)) 0 t in absurd (omega (arith, same))
          by_length false t g = absurd (cc g)

      empty : (n : ℕ) (p : Option SemaphoreRow) → first_of (delete_conditions p) ≡ None → asker_in n p ≡ None
      empty n None h = refl
      empty n (Some row) h =
          let last = (none_holds row.configured object_access_denied ((not (length (entries_of row) == 0), object_constraint_conflict) ∷ []) h).1 in
          no-entries n (entries_of row) (none_holds (not (length (entries_of row) == 0)) object_constraint_conflict [] last).0

      by_test : (k : Key) (n : ℕ) (b : Bool) → key_eq key k ≡ b → asker_in n (cond b None (lookup (key_eq k) rows)) ≡ asker rows k n
      by_test k n true e = sym (ap (λ (y : Key). asker rows y n) (sym (key-same key k e)) ∙ empty n (lookup (key_eq key) rows) none)
      by_test k n false e = refl
