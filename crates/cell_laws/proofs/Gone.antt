-- An entry that goes is there no more: none has its number, whatever else is done to its semaphore.
use Rattle.std.proofs.Common.{◌≡◌, ℕ, ◌+◌, ◌<◌, ◌≤◌, inl, inr, Bool, true, false, not, cond, ◌==◌, ◌&&◌, List, [], ◌∷◌, ◌++◌, map, filter, find, fold, length, Option, None, Some, is_some, option_and_then, option_map, if◌then◌else◌, refl, sym, ◌∙◌, ap, subst, arith}
use Rattle.std.specs.Map.{lookup}
use Rattle.std.proofs.lemmas.Bool.Decides.{nat_tests}
use Rattle.std.proofs.lemmas.Map.{lookup-set_value}
use Rattle.std.proofs.lemmas.Map.Entries.{lookup-filter-keys}
use Rattle.std.proofs.lemmas.Map.Made.{lookup-map_values}
use Rattle.mms_types.proofs.Conditions.{none_holds}
use Rattle.mms_types.specs.Errors.{first_of, object_non_existent, object_state_conflict, timeout, type_inconsistent}
use Rattle.mms_types.specs.KeyLaws.{keys_equal}
use Rattle.mms_types.specs.Order.{key_eq, scope_eq}
use Rattle.mms_types.specs.declared.key.Key.{Key}
use Rattle.mms_types.specs.declared.key.Scope.TheVariants.{Association}
use Rattle.mms_types.specs.declared.moment.Moment.{Moment}
use Rattle.mms_types.specs.declared.semaphore.TakeControl.{TakeControl}
use Rattle.mms_types.specs.declared.service_error.ServiceError.{ServiceError}
use Rattle.token_sem.specs.declared.entry.Ask.{Ask}
use Rattle.token_sem.specs.declared.entry.TakeOutcome.{TakeOutcome}
use Rattle.token_sem.specs.declared.entry.TakeOutcome.TheVariants.{Refused, Preempts}
use Rattle.token_sem.specs.declared.entry.SemEntry.{SemEntry}
use Rattle.token_sem.specs.declared.entry.SemState.TheVariants.{Hung}
use Rattle.token_sem.specs.Semaphore.{Loss, after_freeing, after_giving_back, effect_of, granted_entry, granted_to, has_claim, has_token, hung_entry, is_owner, is_queued, next, numbered, outcome_now, owned_by, owner_from, owner_of, without}
use Rattle.token_sem.proofs.Keeping.{Among, among-find, rises-above}
use Rattle.token_sem.proofs.Losing.{among-filter}
use Rattle.token_sem.proofs.Serving.{numbered-at}
use Rattle.pool_sem.specs.Pools as pool
use Rattle.pool_sem.specs.declared.outcome.PoolOutcome.{PoolOutcome}
use Rattle.pool_sem.specs.declared.outcome.PoolOutcome.TheVariants as pooled
use Rattle.pool_sem.proofs.Counting.{none-among}
use Rattle.pool_sem.proofs.Freeing as pool-free
use Rattle.pool_sem.proofs.Serving.{had-once}
use Rattle.mms_time.specs.Deadlines.{expire_after, without_due}
use Rattle.mms_time.specs.Loss.{all_changed, lost, semaphore_without}
use Rattle.mms_time.specs.Semaphores.{IsSound, Rows, changed, changed_row, changed_to, entries_in, entries_of, entry_in}
use Rattle.mms_time.specs.Services.{ask_of, is_missing, is_zero, place_asked, take_conditions_in, with_take, with_token_back}
use Rattle.mms_time.specs.declared.row.Semaphore.{Semaphore}
use Rattle.mms_time.specs.declared.row.Semaphore.TheVariants.{Token, Pool}
use Rattle.mms_time.specs.declared.row.SemaphoreRow.{SemaphoreRow}
use Rattle.mms_time.proofs.TwoSteps.{each_semaphore}
use Rattle.cell_laws.specs.Freed.{held_in, named_in}
use Rattle.cell_laws.specs.Lost.{preempted_in}
use Rattle.cell_laws.proofs.Bound.{both-true, key-same, nat-same, nat-test, of-both}
use Rattle.cell_laws.proofs.Claims.{only-one}
use Rattle.cell_laws.proofs.ClaimsKept.{SingleIn}
use Rattle.cell_laws.proofs.Entries.{freed_by, kept_by, leaving, one_gone, owned_owner}
use Rattle.cell_laws.proofs.Meetings.{due-entries}

-- ---- none of a number

-- it isn't the first, nor one of the others
not-there : (n : ℕ) (e : SemEntry) (es : List SemEntry) → numbered n (e ∷ es) ≡ None → ((e.number == n) ≡ false) × (numbered n es ≡ None)
not-there n e es h = by_test (e.number == n) refl h
  where
    by_test : (b : Bool) → (e.number == n) ≡ b → cond b (Some e) (numbered n es) ≡ None → ((e.number == n) ≡ false) × (numbered n es ≡ None)
    by_test true t g = absurd (cc g)
    by_test false t g = (t, g)

none-more : (n : ℕ) (e : SemEntry) (es : List SemEntry) → (e.number == n) ≡ false → numbered n es ≡ None → numbered n (e ∷ es) ≡ None
none-more n e es t none = ap (λ b. cond b (Some e) (numbered n es)) t ∙ none

none-filter : (p : SemEntry → Bool) (n : ℕ) (es : List SemEntry) → numbered n es ≡ None → numbered n (filter p es) ≡ None
none-filter p n [] h = refl
none-filter p n (e ∷ es) h = by_test (p e) (none-filter p n es (not-there n e es h).1)
  where
    by_test : (b : Bool) → numbered n (filter p es) ≡ None → numbered n (cond b (e ∷ filter p es) (filter p es)) ≡ None
    by_test true ih = none-more n e (filter p es) (not-there n e es h).0 ih
    by_test false ih = ih

none-map : (f : SemEntry → SemEntry) → ((e : SemEntry) → (f e).number ≡ e.number) → (n : ℕ) (es : List SemEntry) → numbered n es ≡ None → numbered n (map f es) ≡ None
none-map f same n [] h = refl
none-map f same n (e ∷ es) h =
    let at = not-there n e es h in
    none-more n (f e) (map f es) (ap (λ k. k == n) (same e) ∙ at.0) (none-map f same n es at.1)

none-without : (n : ℕ) (es : List SemEntry) → numbered n (without n es) ≡ None
none-without n [] = refl
none-without n (e ∷ es) = by_test (e.number == n) refl (none-without n es)
  where
    by_test : (b : Bool) → (e.number == n) ≡ b → numbered n (without n es) ≡ None → numbered n (cond (not b) (e ∷ without n es) (without n es)) ≡ None
    by_test true t ih = ih
    by_test false t ih = none-more n e (without n es) t ih

none-push : (n : ℕ) (es : List SemEntry) (e : SemEntry) → (e.number == n) ≡ false → numbered n es ≡ None → numbered n (es ++ e ∷ []) ≡ None
none-push n [] e t h = none-more n e [] t refl
none-push n (x ∷ es) e t h = let at = not-there n x es h in none-more n x (es ++ e ∷ []) at.0 (none-push n es e t at.1)

-- one that passes is found
find-there : (p : SemEntry → Bool) (es : List SemEntry) (c : SemEntry) → Among es c → p c ≡ true → find p es ≡ None → ⊥
find-there p [] c a h none = a
find-there p (e ∷ es) c (inl same) h none = by_test (p e) (ap p same ∙ h) none
  where
    by_test : (b : Bool) → b ≡ true → cond b (Some e) (find p es) ≡ None → ⊥
    by_test true t g = cc g
    by_test false t g = cc t
find-there p (e ∷ es) c (inr a) h none = by_test (p e) none (find-there p es c a h)
  where
    by_test : (b : Bool) → cond b (Some e) (find p es) ≡ None → (find p es ≡ None → ⊥) → ⊥
    by_test true g ih = cc g
    by_test false g ih = ih g

-- ---- a token is freed

granted-number : (m : ℕ) (now : Moment) (e : SemEntry) → (granted_entry m now e).number ≡ e.number
granted-number m now e = by_test (e.number == m)
  where
    by_test : (b : Bool) → (cond b (owner_from now e) e).number ≡ e.number
    by_test true = refl
    by_test false = refl

named-number : (m t : ℕ) (now : Moment) (e : SemEntry) → (pool.granted_entry m t now e).number ≡ e.number
named-number m t now e = by_test (e.number == m)
  where
    by_test : (b : Bool) → (cond b (pool.owner_from t now e) e).number ≡ e.number
    by_test true = refl
    by_test false = refl

hung-number : (m : ℕ) (e : SemEntry) → (hung_entry m e).number ≡ e.number
hung-number m e = by_test (e.number == m)
  where
    by_test : (b : Bool) → (cond b (record e { state = Hung }) e).number ≡ e.number
    by_test true = refl
    by_test false = refl

none-freed : (now : Moment) (n : ℕ) (es : List SemEntry) → numbered n es ≡ None → numbered n (after_freeing now es) ≡ None
none-freed now n es h = by_next (next es)
  where
    by_next : (o : Option SemEntry) → numbered n (granted_to o now es) ≡ None
    by_next None = h
    by_next (Some m) = none-map (granted_entry m.number now) (granted-number m.number now) n es h

none-named : (token : Option ℕ) (now : Moment) (n : ℕ) (es : List SemEntry) → numbered n es ≡ None → numbered n (pool.after_freeing_of token now es) ≡ None
none-named None now n es h = h
none-named (Some t) now n es h = by_next (pool.next t es)
  where
    by_next : (o : Option SemEntry) → numbered n (pool.granted_to o t now es) ≡ None
    by_next None = h
    by_next (Some m) = none-map (pool.granted_entry m.number t now) (named-number m.number t now) n es h

none-leaving : (s : Semaphore) (now : Moment) (o : SemEntry) (n : ℕ) (es : List SemEntry) → numbered n (without o.number es) ≡ None → numbered n ((leaving s).entries now o es) ≡ None
none-leaving (Token s) now o n es h = none-freed now n (without o.number es) h
none-leaving (Pool p) now o n es h = none-named o.token now n (without o.number es) h

-- ---- owners of a client are lost

module _ (s : Semaphore) (now : Moment) where
  one-none : (l : Loss) (o : SemEntry) (n : ℕ) → numbered n l.entries ≡ None → numbered n (one_gone (leaving s) now l o).entries ≡ None
  one-none l o n h = by_keep o.keep
    where
      by_keep : (b : Bool) → numbered n (if b then kept_by o l else freed_by (leaving s) now o l).entries ≡ None
      by_keep true = none-map (hung_entry o.number) (hung-number o.number) n l.entries h
      by_keep false = none-leaving s now o n l.entries (none-filter (λ e. not (e.number == o.number)) n l.entries h)

  all-none : (os : List SemEntry) (l : Loss) (n : ℕ) → numbered n l.entries ≡ None → numbered n (fold (one_gone (leaving s) now) l os).entries ≡ None
  all-none [] l n h = h
  all-none (o ∷ os) l n h = all-none os (one_gone (leaving s) now l o) n (one-none l o n h)

  -- one of them that isn't kept
  all-gone : (os : List SemEntry) (l : Loss) (c : SemEntry) → Among os c → c.keep ≡ false → numbered c.number (fold (one_gone (leaving s) now) l os).entries ≡ None
  all-gone [] l c a unkept = absurd a
  all-gone (o ∷ os) l c (inr a) unkept = all-gone os (one_gone (leaving s) now l o) c a unkept
  all-gone (o ∷ os) l c (inl same) unkept = all-none os (one_gone (leaving s) now l o) c.number (by_keep o.keep (ap (λ (e : SemEntry). e.keep) same ∙ unkept))
    where
      by_keep : (b : Bool) → b ≡ false → numbered c.number (if b then kept_by o l else freed_by (leaving s) now o l).entries ≡ None
      by_keep true k = absurd (cc k)
      by_keep false k =
          none-leaving s now o c.number l.entries
          (subst (λ (n : ℕ). numbered n (without o.number l.entries) ≡ None) (ap (λ (e : SemEntry). e.number) same) (none-without o.number l.entries))

client-none : (client : ℕ) (now : Moment) (s : Semaphore) (n : ℕ) → numbered n (entries_in s) ≡ None → numbered n (entries_in (semaphore_without client now s)) ≡ None
client-none client now (Token s) n h =
    all-none (Token s) now (filter (owned_by client) s.entries) (record { entries = filter _ s.entries; grants = [] }) n (none-filter _ n s.entries h)
client-none client now (Pool p) n h =
    all-none (Pool p) now (filter (owned_by client) p.entries) (record { entries = filter _ p.entries; grants = [] }) n (none-filter _ n p.entries h)

pub client-gone : (client : ℕ) (now : Moment) (s : Semaphore) (c : SemEntry) → Among (entries_in s) c → owned_by client c ≡ true → c.keep ≡ false
    → numbered c.number (entries_in (semaphore_without client now s)) ≡ None
client-gone client now (Token s) c a owned unkept =
    all-gone (Token s) now (filter (owned_by client) s.entries) (record { entries = filter _ s.entries; grants = [] }) c (among-filter (owned_by client) s.entries c a owned) unkept
client-gone client now (Pool p) c a owned unkept =
    all-gone (Pool p) now (filter (owned_by client) p.entries) (record { entries = filter _ p.entries; grants = [] }) c (among-filter (owned_by client) p.entries c a owned) unkept

-- ---- a deadline is met

due-none : (number : ℕ) (now : Moment) (t : Semaphore) (n : ℕ) → numbered n (entries_in t) ≡ None → numbered n (entries_in (without_due number now t)) ≡ None
due-none number now t n h = by_entry (numbered number (entries_in t)) refl
  where
    same : (u : Semaphore) → numbered number (entries_in u) ≡ None → without_due number now u ≡ u
    same (Token s) e = ap (λ (o : Option SemEntry). Token (Rattle.token_sem.specs.Semaphore.expired_entry o now s)) e
    same (Pool p) e = ap (λ (o : Option SemEntry). Pool (pool.expired_entry o now p)) e

    by_queued : (y : SemEntry) (b : Bool) → numbered n (cond b (without y.number (entries_in t)) ((leaving t).entries now y (entries_in t))) ≡ None
    by_queued y true = none-filter (λ e. not (e.number == y.number)) n (entries_in t) h
    by_queued y false = none-leaving t now y n (entries_in t) (none-filter (λ e. not (e.number == y.number)) n (entries_in t) h)

    by_entry : (o : Option SemEntry) → numbered number (entries_in t) ≡ o → numbered n (entries_in (without_due number now t)) ≡ None
    by_entry None e = ap (λ (u : Semaphore). numbered n (entries_in u)) (same t e) ∙ h
    by_entry (Some y) e = ap (numbered n) (due-entries t number now y e) ∙ by_queued y (is_queued y)

due-gone : (number : ℕ) (now : Moment) (t : Semaphore) (y : SemEntry) → numbered number (entries_in t) ≡ Some y → numbered number (entries_in (without_due number now t)) ≡ None
due-gone number now t y e = ap (numbered number) (due-entries t number now y e) ∙ by_queued (is_queued y)
  where
    at : y.number ≡ number
    at = nat-same y.number number (among-find (λ x. x.number == number) (entries_in t) y e).1

    gone : numbered number (without y.number (entries_in t)) ≡ None
    gone = subst (λ (n : ℕ). numbered n (without y.number (entries_in t)) ≡ None) at (none-without y.number (entries_in t))

    by_queued : (b : Bool) → numbered number (cond b (without y.number (entries_in t)) ((leaving t).entries now y (entries_in t))) ≡ None
    by_queued true = gone
    by_queued false = none-leaving t now y number (entries_in t) gone

-- ---- a token is given back

names-same : (a b : Option ℕ) → pool.names a b ≡ true → a ≡ b
names-same None b h = absurd (cc h)
names-same (Some x) None h = absurd (cc h)
names-same (Some x) (Some y) h = ap Some (pool-free.same-token x y h)

pub back-gone : (client : ℕ) (token : Option (List ℕ)) (now : Moment) (s : Semaphore) (c : SemEntry) → IsSound s → SingleIn s → Among (entries_in s) c → is_queued c ≡ false
    → owned_by client c ≡ true → named_in token s ≡ held_in c s → numbered c.number (entries_in (with_token_back client token now s)) ≡ None
back-gone client token now (Token s) c is single a holds owned which = by_owner (owner_of client s.entries) refl
  where
    tests : ((c.client == client) ≡ true) × (is_owner c ≡ true)
    tests = of-both (c.client == client) (is_owner c) owned

    by_owner : (o : Option SemEntry) → owner_of client s.entries ≡ o → numbered c.number (after_giving_back o now s).entries ≡ None
    by_owner None e = absurd (find-there (owned_by client) s.entries c a owned e)
    by_owner (Some o) e =
        let at = among-find (owned_by client) s.entries o e in
        let only = (only-one client s.entries c single a (nat-same c.client client tests.0) tests.1).owned in
        let one : Among (c ∷ []) o = subst (λ (l : List SemEntry). Among l o) only (among-filter (owned_by client) s.entries o at.0 at.1) in
        none-leaving (Token s) now o c.number s.entries (subst (λ (n : ℕ). numbered n (without o.number s.entries) ≡ None) (it one) (none-without o.number s.entries))
      where
        it : Among (c ∷ []) o → o.number ≡ c.number
        it (inl same) = ap (λ (x : SemEntry). x.number) (sym same)
        it (inr none) = absurd none
back-gone client token now (Pool p) c is single a holds owned which = by_owner (pool.owner_of client (place_asked token p.tokens) p.entries) refl
  where
    its : (t : ℕ) × (c.token ≡ Some t) × (t < length p.tokens)
    its = pool-free.token-there (length p.tokens) c (none-among (pool-free.unplaced (length p.tokens)) p.entries c a is.placed) (ap not holds)

    place : place_asked token p.tokens ≡ Some its.0
    place = which ∙ its.1

    found : (owned_by client c && pool.names (place_asked token p.tokens) c.token) ≡ true
    found =
        both-true (owned_by client c) (pool.names (place_asked token p.tokens) c.token) owned
        (ap (λ (x : Option ℕ). pool.names x c.token) place ∙ ap (pool.names (Some its.0)) its.1 ∙ nat-test its.0 its.0 refl)

    by_owner : (o : Option SemEntry) → pool.owner_of client (place_asked token p.tokens) p.entries ≡ o → numbered c.number (pool.after_giving_back o now p).entries ≡ None
    by_owner None e = absurd (find-there (λ x. owned_by client x && pool.names (place_asked token p.tokens) x.token) p.entries c a found e)
    by_owner (Some o) e =
        let at = among-find (λ x. owned_by client x && pool.names (place_asked token p.tokens) x.token) p.entries o e in
        let tests = of-both (owned_by client o) (pool.names (place_asked token p.tokens) o.token) at.1 in
        let has : o.token ≡ Some its.0 = sym (names-same (place_asked token p.tokens) o.token tests.1) ∙ place in
        let same : o ≡ c =
        had-once p its.0 o c is (numbered-at 0 p.made p.entries o is.rises at.0) (numbered-at 0 p.made p.entries c is.rises a)
        (pool-free.holder-has its.0 o (ap not (Rattle.token_sem.proofs.Losing.owner-not_queued o (owned_owner client o tests.0))) has)
        (pool-free.holder-has its.0 c (ap not holds) its.1) in
        none-leaving (Pool p) now o c.number p.entries
        (subst (λ (n : ℕ). numbered n (without o.number p.entries) ≡ None) (ap (λ (x : SemEntry). x.number) same) (none-without o.number p.entries))

-- ---- a hung entry is preempted

new-number : (made n : ℕ) → n ≤ made → (made + 1 == n) ≡ false
new-number made n low = grind (arith, nat_tests)

pub take-gone : (client invoke : ℕ) (asked : TakeControl) (now : Moment) (s : Semaphore) (c : SemEntry) → IsSound s → Among (entries_in s) c
    → first_of (take_conditions_in client asked s) ≡ None → preempted_in asked s ≡ Some c → numbered c.number (entries_in (with_take client invoke asked now s)) ≡ None
take-gone client invoke asked now (Token s) c is a none first =
    ap (λ (o : TakeOutcome). numbered c.number (effect_of o s ask now).entries) comes
    ∙ none-push c.number (without c.number s.entries) _ (new-number s.made c.number (rises-above 0 s.made s.entries c is.rises a).1) (none-without c.number s.entries)
  where
    ask : Ask
    ask = ask_of client invoke None asked

    last : List (Bool × ServiceError)
    last = (not (has_token asked.preempt s) && is_zero asked.delay, timeout) ∷ []

    unclaimed : has_claim client s.entries ≡ false
    unclaimed =
        (none_holds (has_claim client s.entries) object_state_conflict last
        (none_holds (is_some asked.token) type_inconsistent ((has_claim client s.entries, object_state_conflict) ∷ last) none).1).0

    comes : Rattle.token_sem.specs.Semaphore.outcome s ask now ≡ Preempts c.number
    comes =
        ap (λ (b : Bool). if b then Refused else outcome_now (Rattle.token_sem.specs.Semaphore.hung_to_preempt asked.preempt s.entries) s asked.delay now) unclaimed
        ∙ ap (λ (o : Option SemEntry). outcome_now o s asked.delay now) first
take-gone client invoke asked now (Pool p) c is a none first =
    ap (λ (o : PoolOutcome). numbered c.number (pool.effect_of o p ask now).entries) comes
    ∙ none-push c.number (without c.number p.entries) _ (new-number p.made c.number (rises-above 0 p.made p.entries c is.rises a).1) (none-without c.number p.entries)
  where
    place : Option ℕ
    place = place_asked asked.token p.tokens

    ask : Ask
    ask = ask_of client invoke place asked

    last : List (Bool × ServiceError)
    last = (not (pool.has_token asked.preempt place p) && is_zero asked.delay, timeout) ∷ []

    unclaimed : pool.has_claim client place p.entries ≡ false
    unclaimed =
        (none_holds (pool.has_claim client place p.entries) object_state_conflict last
        (none_holds (is_missing asked.token p.tokens) object_non_existent ((pool.has_claim client place p.entries, object_state_conflict) ∷ last) none).1).0

    comes : pool.outcome p ask now ≡ pooled.Preempts c.number c.token
    comes =
        ap (λ (b : Bool). if b then pooled.Refused else pool.outcome_now (pool.hung_to_preempt asked.preempt place p.entries) p ask now) unclaimed
        ∙ ap (λ (o : Option SemEntry). pool.outcome_now o p ask now) first

-- ---- in all semaphores

abbrev in-row : ℕ → Option SemaphoreRow → Option SemEntry
in-row n o = option_and_then (λ row. numbered n (entries_of row)) o

none-changed : (f : Semaphore → Semaphore) (k : Key) (rows : Rows) (key : Key) (n : ℕ) → ((t : Semaphore) → numbered n (entries_in t) ≡ None → numbered n (entries_in (f t)) ≡ None)
    → entry_in key n rows ≡ None → entry_in key n (changed f k rows) ≡ None
none-changed f k rows key n each h = by_row (lookup (key_eq k) rows) refl
  where
    by_row : (o : Option SemaphoreRow) → lookup (key_eq k) rows ≡ o → entry_in key n (changed_to o f k rows) ≡ None
    by_row None e = h
    by_row (Some row) e =
        ap (in-row n) (lookup-set_value keys_equal (key_eq k) (λ x y g. keys_equal.congr k x y g) key (changed_row f row) rows (ap is_some e)) ∙ by_test (key_eq k key) refl
      where
        by_test : (b : Bool) → key_eq k key ≡ b → in-row n (cond b (Some (changed_row f row)) (lookup (key_eq key) rows)) ≡ None
        by_test true t =
            let was : lookup (key_eq key) rows ≡ Some row = ap (λ (x : Key). lookup (key_eq x) rows) (sym (key-same k key t)) ∙ e in
            each row.semaphore (sym (ap (in-row n) was) ∙ h)
        by_test false t = h

pub none-expired : (k : Key) (number : ℕ) (now : Moment) (rows : Rows) (key : Key) (n : ℕ) → entry_in key n rows ≡ None → entry_in key n (expire_after k number now rows) ≡ None
none-expired k number now rows key n h = none-changed (without_due number now) k rows key n (λ t g. due-none number now t n g) h

pub gone-expired : (key : Key) (number : ℕ) (now : Moment) (rows : Rows) (y : SemEntry) → entry_in key number rows ≡ Some y → entry_in key number (expire_after key number now rows) ≡ None
gone-expired key number now rows y is = by_row (lookup (key_eq key) rows) refl is
  where
    by_row : (o : Option SemaphoreRow) → lookup (key_eq key) rows ≡ o → in-row number o ≡ Some y → entry_in key number (changed_to o (without_due number now) key rows) ≡ None
    by_row None e g = absurd (cc g)
    by_row (Some row) e g =
        ap (in-row number) (lookup-set_value keys_equal (key_eq key) (λ x z k. keys_equal.congr key x z k) key (changed_row (without_due number now) row) rows (ap is_some e))
        ∙ ap (λ b. in-row number (cond b (Some (changed_row (without_due number now) row)) (lookup (key_eq key) rows))) (keys_equal.refl key)
        ∙ due-gone number now row.semaphore y g

lost-look : (client : ℕ) (now : Moment) (rows : Rows) (key : Key)
    → lookup (key_eq key) (lost client now rows) ≡ cond (not (scope_eq key.scope (Association client))) (option_map (changed_row (semaphore_without client now)) (lookup (key_eq key) rows)) None
lost-look client now rows key =
    ap (λ (all : Rows). lookup (key_eq key) (filter (λ row. not (scope_eq row.0.scope (Association client))) all)) (sym (each_semaphore client now rows))
    ∙ lookup-filter-keys (key_eq key) (λ x. not (scope_eq x.scope (Association client))) (not (scope_eq key.scope (Association client)))
    (λ x h. ap (λ (y : Key). not (scope_eq y.scope (Association client))) (sym (key-same key x h))) (all_changed (semaphore_without client now) rows)
    ∙ ap (λ (o : Option SemaphoreRow). cond (not (scope_eq key.scope (Association client))) o None) (lookup-map_values (changed_row (semaphore_without client now)) (key_eq key) rows)

-- none is there of a semaphore of its association
pub scope-gone : (client : ℕ) (now : Moment) (rows : Rows) (key : Key) (n : ℕ) → scope_eq key.scope (Association client) ≡ true → entry_in key n (lost client now rows) ≡ None
scope-gone client now rows key n of =
    ap (in-row n) (lost-look client now rows key)
    ∙ ap (λ b. in-row n (cond (not b) (option_map (changed_row (semaphore_without client now)) (lookup (key_eq key) rows)) None)) of

both-none : (b : Bool) (o : Option SemaphoreRow) (n : ℕ) → in-row n o ≡ None → in-row n (cond (not b) o None) ≡ None
both-none true o n h = refl
both-none false o n h = h

pub none-lost : (client : ℕ) (now : Moment) (rows : Rows) (key : Key) (n : ℕ) → entry_in key n rows ≡ None → entry_in key n (lost client now rows) ≡ None
none-lost client now rows key n h =
    ap (in-row n) (lost-look client now rows key)
    ∙ both-none (scope_eq key.scope (Association client)) (option_map (changed_row (semaphore_without client now)) (lookup (key_eq key) rows)) n (by_row (lookup (key_eq key) rows) h)
  where
    by_row : (o : Option SemaphoreRow) → in-row n o ≡ None → in-row n (option_map (changed_row (semaphore_without client now)) o) ≡ None
    by_row None g = refl
    by_row (Some row) g = client-none client now row.semaphore n g

-- an owner entry of the client that isn't kept
pub gone-lost : (client : ℕ) (now : Moment) (rows : Rows) (key : Key) (c : SemEntry) → entry_in key c.number rows ≡ Some c → owned_by client c ≡ true → c.keep ≡ false
    → entry_in key c.number (lost client now rows) ≡ None
gone-lost client now rows key c is owned unkept =
    ap (in-row c.number) (lost-look client now rows key)
    ∙ both-none (scope_eq key.scope (Association client)) (option_map (changed_row (semaphore_without client now)) (lookup (key_eq key) rows)) c.number (by_row (lookup (key_eq key) rows) is)
  where
    by_row : (o : Option SemaphoreRow) → in-row c.number o ≡ Some c → in-row c.number (option_map (changed_row (semaphore_without client now)) o) ≡ None
    by_row None g = absurd (cc g)
    by_row (Some row) g = client-gone client now row.semaphore c (among-find (λ x. x.number == c.number) (entries_of row) c g).0 owned unkept
