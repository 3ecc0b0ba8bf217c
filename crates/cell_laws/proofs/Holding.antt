-- An entry that has a token stays among all semaphores, as one of them is changed or a client is lost.
use Rattle.std.proofs.Common.{◌≡◌, ℕ, ◌⊎◌, inl, inr, Bool, true, false, not, cond, ◌==◌, List, [], ◌∷◌, ◌++◌, length, Option, None, Some, is_some, option_and_then, option_map, if◌then◌else◌, refl, sym, ◌∙◌, ap, subst, arith}
use Rattle.std.specs.Map.{lookup}
use Rattle.std.proofs.lemmas.Map.{lookup-remove_entry, lookup-set_value}
use Rattle.mms_types.specs.Errors.{first_of, object_access_denied, object_constraint_conflict}
use Rattle.mms_types.specs.KeyLaws.{keys_equal}
use Rattle.mms_types.specs.Order.{key_eq, key_of, scope_eq}
use Rattle.mms_types.specs.declared.key.Key.{Key}
use Rattle.mms_types.specs.declared.key.Scope.TheVariants.{Association}
use Rattle.mms_types.specs.declared.moment.Moment.{Moment}
use Rattle.mms_types.specs.declared.object_name.ObjectName.{ObjectName}
use Rattle.mms_types.specs.declared.semaphore.DefineSemaphore.{DefineSemaphore}
use Rattle.token_sem.specs.declared.entry.SemEntry.{SemEntry}
use Rattle.token_sem.specs.Semaphore.{is_queued, numbered, owned_by, without}
use Rattle.token_sem.proofs.Keeping.{Among, among-find}
use Rattle.token_sem.proofs.Keeping as token-keeping
use Rattle.token_sem.proofs.Serving.{numbered-at}
use Rattle.pool_sem.proofs.Freeing as pool-free
use Rattle.mms_time.specs.Deadlines.{expire_after, without_due}
use Rattle.mms_time.specs.Loss.{lost, semaphore_without}
use Rattle.mms_time.specs.Semaphores.{IsSound, Rows, changed, changed_row, changed_to, entries_in, entries_of, entry_in, entry_waits, made_in}
use Rattle.mms_time.specs.Services.{cancel_after, cancelled, define_after, delete_cause, delete_conditions, deleted, without_entry}
use Rattle.mms_time.proofs.Defined.{new_row, put_lookup}
use Rattle.mms_time.specs.declared.row.Semaphore.{Semaphore}
use Rattle.mms_time.specs.declared.row.Semaphore.TheVariants.{Token, Pool}
use Rattle.mms_time.specs.declared.row.SemaphoreRow.{SemaphoreRow}
use Rattle.sem_ticks.specs.Sound.{AreSound}
use Rattle.sem_ticks.proofs.Kept.{keeps_changed, keeps_lost, row_found}
use Rattle.sem_ticks.proofs.Requests.{keeps_cancelled}
use Rattle.cell_laws.specs.Freed.{held_found, held_in, named_found, named_in, token_held, token_named}
use Rattle.cell_laws.specs.Lost.{hung}
use Rattle.cell_laws.proofs.Bound.{key-same, nat-same, nat-test}
use Rattle.mms_types.proofs.Conditions.{none_holds}
use Rattle.cell_laws.proofs.Entries.{leaving, rises-in}
use Rattle.cell_laws.proofs.Freeing.{Found, found-changed, numbered-found}
use Rattle.cell_laws.proofs.Left.{lost-at}
use Rattle.cell_laws.proofs.Meetings.{due-entries}
use Rattle.cell_laws.proofs.Stays.{LostIn, cancel-stays, client-stays, sparing, without-stays}

-- ---- it is found

-- its semaphore
pub record Holder (key : Key) (rows : Rows) (c : SemEntry) : Type 0 where
  pub sem : Semaphore
  pub found : Found key rows sem
  pub sound : IsSound sem
  pub among : Among (entries_in sem) c

pub holder : (key : Key) (rows : Rows) (c : SemEntry) → AreSound rows → entry_in key c.number rows ≡ Some c → Holder key rows c
holder key rows c sound is = by_row (lookup (key_eq key) rows) refl is
  where
    by_row : (o : Option SemaphoreRow) → lookup (key_eq key) rows ≡ o → option_and_then (λ row. numbered c.number (entries_of row)) o ≡ Some c → Holder key rows c
    by_row None e h = absurd (cc h)
    by_row (Some row) e h = record {
      sem = row.semaphore;
      found = record { row = row; there = e; is = refl };
      sound = row_found rows key row sound.each e;
      among = (among-find (λ x. x.number == c.number) (entries_of row) c h).0;
    }

pub there : (key : Key) (rows : Rows) (t : Semaphore) (c : SemEntry) → AreSound rows → Found key rows t → Among (entries_in t) c → entry_in key c.number rows ≡ Some c
there key rows t c sound found a = numbered-found key rows t found c.number ∙ numbered-at 0 (made_in t) (entries_in t) c (rises-in t is) a
  where
    is : IsSound t
    is = subst IsSound found.is (row_found rows key found.row sound.each found.there)

-- the token that it has, and the one of a name
pub held-there : (key : Key) (rows : Rows) (t : Semaphore) (c : SemEntry) → Found key rows t → token_held key c rows ≡ held_in c t
held-there key rows t c found = ap (held_found c) found.there ∙ ap (held_in c) found.is

pub named-there : (key : Key) (rows : Rows) (t : Semaphore) (name : Option (List ℕ)) → Found key rows t → token_named key name rows ≡ named_in name t
named-there key rows t name found = ap (named_found name) found.there ∙ ap (named_in name) found.is

-- ---- one semaphore is changed

changed-other : (f : Semaphore → Semaphore) (k : Key) (rows : Rows) (key : Key) → key_eq k key ≡ false → lookup (key_eq key) (changed f k rows) ≡ lookup (key_eq key) rows
changed-other f k rows key other = by_row (lookup (key_eq k) rows) refl
  where
    by_row : (o : Option SemaphoreRow) → lookup (key_eq k) rows ≡ o → lookup (key_eq key) (changed_to o f k rows) ≡ lookup (key_eq key) rows
    by_row None e = refl
    by_row (Some row) e =
        lookup-set_value keys_equal (key_eq k) (λ x y h. keys_equal.congr k x y h) key (changed_row f row) rows (ap is_some e)
        ∙ ap (λ b. cond b (Some (changed_row f row)) (lookup (key_eq key) rows)) other

-- another, and it stays; or its own
pub changed-cases : (f : Semaphore → Semaphore) (k : Key) (rows : Rows) (key : Key) (c : SemEntry) (t : Semaphore) → Found key rows t → entry_in key c.number rows ≡ Some c
    → (entry_in key c.number (changed f k rows) ≡ Some c) ⊎ ((k ≡ key) × Found key (changed f k rows) (f t))
changed-cases f k rows key c t found is = by_test (key_eq k key) refl
  where
    by_test : (b : Bool) → key_eq k key ≡ b → (entry_in key c.number (changed f k rows) ≡ Some c) ⊎ ((k ≡ key) × Found key (changed f k rows) (f t))
    by_test true e =
        let same : k ≡ key = key-same k key e in
        inr (same, subst (λ (x : Key). Found key (changed f x rows) (f t)) (sym same) (found-changed key rows t found f (f t) refl))
    by_test false e = inl (ap (λ (o : Option SemaphoreRow). option_and_then (λ row. numbered c.number (entries_of row)) o) (changed-other f k rows key e) ∙ is)

-- ---- another waits no more

pub cancelled-stays : (k : Key) (number : ℕ) (rows : Rows) (key : Key) (c : SemEntry) → AreSound rows → entry_in key c.number rows ≡ Some c → is_queued c ≡ false
    → entry_in key c.number (cancelled k number rows) ≡ Some c
cancelled-stays k number rows key c sound is holds = by_test (entry_waits (entry_in k number rows)) refl (keeps_cancelled k number rows sound)
  where
    its : Holder key rows c
    its = holder key rows c sound is

    -- it doesn't wait
    apart : k ≡ key → entry_waits (entry_in k number rows) ≡ true → c.number ≡ number → ⊥
    apart same waits at =
        cc (sym waits ∙ ap (λ (x : Key). entry_waits (entry_in x number rows)) same ∙ ap (λ (n : ℕ). entry_waits (entry_in key n rows)) (sym at) ∙ ap entry_waits is ∙ holds)

    by_test : (b : Bool) → entry_waits (entry_in k number rows) ≡ b → AreSound (if b then cancel_after k number rows else rows)
        → entry_in key c.number (if b then cancel_after k number rows else rows) ≡ Some c
    by_test false e after = is
    by_test true e after = by_case (changed-cases (without_entry number) k rows key c its.sem its.found is)
      where
        by_case : (entry_in key c.number (changed (without_entry number) k rows) ≡ Some c) ⊎ ((k ≡ key) × Found key (changed (without_entry number) k rows) (without_entry number its.sem))
            → entry_in key c.number (cancel_after k number rows) ≡ Some c
        by_case (inl h) = h
        by_case (inr h) = there key (cancel_after k number rows) (without_entry number its.sem) c after h.1 (cancel-stays number its.sem c its.among (apart h.0 e))

-- ---- a semaphore is defined, or one without entries is deleted

lookup-front : (test : Key → Bool) (rows more : Rows) (row : SemaphoreRow) → lookup test rows ≡ Some row → lookup test (rows ++ more) ≡ Some row
lookup-front test [] more row e = absurd (cc e)
lookup-front test (first ∷ rows) more row e = by_test (test first.0) e (lookup-front test rows more row)
  where
    by_test : (b : Bool) → cond b (Some first.1) (lookup test rows) ≡ Some row → (lookup test rows ≡ Some row → lookup test (rows ++ more) ≡ Some row)
        → cond b (Some first.1) (lookup test (rows ++ more)) ≡ Some row
    by_test true h ih = h
    by_test false h ih = ih h

pub defined-stays : (client : ℕ) (asked : DefineSemaphore) (rows : Rows) (key : Key) (c : SemEntry) → AreSound rows → entry_in key c.number rows ≡ Some c
    → lookup (key_eq (key_of client asked.name)) rows ≡ None → entry_in key c.number (define_after client asked rows) ≡ Some c
defined-stays client asked rows key c sound is new =
    let its = holder key rows c sound is in
    let row : SemaphoreRow = its.found.row in
    let at = put_lookup (new_row client asked) rows key new ∙ lookup-front (key_eq key) rows (new_row client asked ∷ []) row its.found.there in
    let was = sym (ap (λ (o : Option SemaphoreRow). option_and_then (λ row. numbered c.number (entries_of row)) o) its.found.there) ∙ is in
    ap (λ (o : Option SemaphoreRow). option_and_then (λ row. numbered c.number (entries_of row)) o) at ∙ was

pub deleted-stays : (client : ℕ) (x : ObjectName) (rows : Rows) (key : Key) (c : SemEntry) → AreSound rows → entry_in key c.number rows ≡ Some c → delete_cause client x rows ≡ None
    → entry_in key c.number (deleted (key_of client x) rows) ≡ Some c
deleted-stays client x rows key c sound is none =
    ap (λ (o : Option SemaphoreRow). option_and_then (λ row. numbered c.number (entries_of row)) o) (lookup-remove_entry keys_equal (key_eq k) (λ y z h. keys_equal.congr k y z h) key rows sound.names)
    ∙ by_test (key_eq k key) refl
  where
    k : Key
    k = key_of client x

    no-entries : (n : ℕ) (es : List SemEntry) → not (length es == 0) ≡ false → numbered n es ≡ Some c → ⊥
    no-entries n [] h at = cc at
    no-entries n (e ∷ es) h at = by_length (length (e ∷ es) == 0) refl h
      where
        by_length : (b : Bool) → (length (e ∷ es) == 0) ≡ b → not b ≡ false → ⊥
        by_length true t g = let same = nat-same (length (e ∷ es)) 0 t in absurd (omega (arith, same))
        by_length false t g = absurd (cc g)

    empty : (o : Option SemaphoreRow) → first_of (delete_conditions o) ≡ None → option_and_then (λ row. numbered c.number (entries_of row)) o ≡ Some c → ⊥
    empty None h at = cc at
    empty (Some row) h at =
        let last = (none_holds row.configured object_access_denied ((not (length (entries_of row) == 0), object_constraint_conflict) ∷ []) h).1 in
        no-entries c.number (entries_of row) (none_holds (not (length (entries_of row) == 0)) object_constraint_conflict [] last).0 at

    by_test : (b : Bool) → key_eq k key ≡ b → option_and_then (λ row. numbered c.number (entries_of row)) (cond b None (lookup (key_eq key) rows)) ≡ Some c
    by_test true e = absurd (empty (lookup (key_eq k) rows) none (ap (λ (y : Key). entry_in y c.number rows) (key-same k key e) ∙ is))
    by_test false e = is

-- ---- the deadline of an entry is met

due-stays : (number : ℕ) (now : Moment) (t : Semaphore) (c : SemEntry) → IsSound t → Among (entries_in t) c → is_queued c ≡ false → (c.number ≡ number → ⊥)
    → Among (entries_in (without_due number now t)) c
due-stays number now t c is a holds apart = by_entry (numbered number (entries_in t)) refl
  where
    by_queued : (y : SemEntry) (b : Bool) → (c.number ≡ y.number → ⊥) → Among (cond b (without y.number (entries_in t)) ((leaving t).entries now y (entries_in t))) c
    by_queued y true other = without-stays y.number (entries_in t) c a other
    by_queued y false other = (sparing t).spares (made_in t) now y (entries_in t) c (rises-in t is) a holds other

    none : (u : Semaphore) → numbered number (entries_in u) ≡ None → without_due number now u ≡ u
    none (Token s) e = ap (λ (o : Option SemEntry). Token (Rattle.token_sem.specs.Semaphore.expired_entry o now s)) e
    none (Pool p) e = ap (λ (o : Option SemEntry). Pool (Rattle.pool_sem.specs.Pools.expired_entry o now p)) e

    by_entry : (o : Option SemEntry) → numbered number (entries_in t) ≡ o → Among (entries_in (without_due number now t)) c
    by_entry None e = subst (λ (u : Semaphore). Among (entries_in u) c) (sym (none t e)) a
    by_entry (Some y) e =
        let at : y.number ≡ number = nat-same y.number number (among-find (λ x. x.number == number) (entries_in t) y e).1 in
        subst (λ (es : List SemEntry). Among es c) (sym (due-entries t number now y e)) (by_queued y (is_queued y) (λ same. apart (same ∙ at)))

sound-due : (number : ℕ) (now : Moment) (t : Semaphore) → IsSound t → IsSound (without_due number now t)
sound-due number now (Token s) is = token-keeping.expire-keeps s number now is
sound-due number now (Pool p) is = pool-free.expire-keeps p number now is

pub sound-expired : (k : Key) (number : ℕ) (now : Moment) (rows : Rows) → AreSound rows → AreSound (expire_after k number now rows)
sound-expired k number now rows sound = keeps_changed (without_due number now) k rows (λ row found is. sound-due number now row.semaphore is) sound

-- another's, and it stays; or its own
pub due-cases : (k : Key) (number : ℕ) (now : Moment) (rows : Rows) (key : Key) (c : SemEntry) → AreSound rows → entry_in key c.number rows ≡ Some c → is_queued c ≡ false
    → (entry_in key c.number (expire_after k number now rows) ≡ Some c) ⊎ ((k ≡ key) × (number ≡ c.number))
due-cases k number now rows key c sound is holds = by_case (changed-cases (without_due number now) k rows key c its.sem its.found is)
  where
    its : Holder key rows c
    its = holder key rows c sound is

    by_number : (b : Bool) → (c.number == number) ≡ b → k ≡ key → Found key (expire_after k number now rows) (without_due number now its.sem)
        → (entry_in key c.number (expire_after k number now rows) ≡ Some c) ⊎ ((k ≡ key) × (number ≡ c.number))
    by_number true t same found = inr (same, sym (nat-same c.number number t))
    by_number false t same found =
        inl (there key (expire_after k number now rows) (without_due number now its.sem) c (sound-expired k number now rows sound) found
        (due-stays number now its.sem c its.sound its.among holds (λ at. cc (sym t ∙ nat-test c.number number at))))

    by_case : (entry_in key c.number (changed (without_due number now) k rows) ≡ Some c) ⊎ ((k ≡ key) × Found key (changed (without_due number now) k rows) (without_due number now its.sem))
        → (entry_in key c.number (expire_after k number now rows) ≡ Some c) ⊎ ((k ≡ key) × (number ≡ c.number))
    by_case (inl h) = inl h
    by_case (inr h) = by_number (c.number == number) refl h.0 h.1

-- ---- a client is lost

-- it stays, or is one of the client's owner entries and becomes hung
pub lost-cases : (client : ℕ) (now : Moment) (rows : Rows) (key : Key) (c : SemEntry) → AreSound rows → entry_in key c.number rows ≡ Some c → is_queued c ≡ false
    → (owned_by client c ≡ true → c.keep ≡ true) → scope_eq key.scope (Association client) ≡ false
    → (entry_in key c.number (lost client now rows) ≡ Some c) ⊎ ((entry_in key c.number (lost client now rows) ≡ Some (hung c)) × (owned_by client c ≡ true))
lost-cases client now rows key c sound is holds keeps lasting = by_case (client-stays client now its.sem c its.sound its.among holds keeps)
  where
    its : Holder key rows c
    its = holder key rows c sound is

    found : Found key (lost client now rows) (semaphore_without client now its.sem)
    found = record {
      row = changed_row (semaphore_without client now) its.found.row;
      there = lost-at key rows client now lasting ∙ ap (option_map (changed_row (semaphore_without client now))) its.found.there;
      is = ap (semaphore_without client now) its.found.is;
    }

    by_case : LostIn client c (entries_in (semaphore_without client now its.sem))
        → (entry_in key c.number (lost client now rows) ≡ Some c) ⊎ ((entry_in key c.number (lost client now rows) ≡ Some (hung c)) × (owned_by client c ≡ true))
    by_case (inl h) = inl (there key (lost client now rows) (semaphore_without client now its.sem) c (keeps_lost client now rows sound) found h)
    by_case (inr h) = inr (there key (lost client now rows) (semaphore_without client now its.sem) (hung c) (keeps_lost client now rows sound) found h.0, h.1)
