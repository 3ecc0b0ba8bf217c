-- What holds of the client of each entry that isn't hung, as semaphores change: where it is lost it has none any more.
use Rattle.std.proofs.Common.{◌≡◌, ℕ, ◌⊎◌, inl, inr, Bool, true, false, not, cond, ◌==◌, ◌&&◌, ◌||◌, List, [], ◌∷◌, ◌++◌, filter, fold, map, Option, None, Some, if◌then◌else◌, refl, sym, ◌∙◌, ap, subst}
use Rattle.std.specs.List.{AllByRecursion, list_any}
use Rattle.std.specs.Map.{lookup, set_value, values_of}
use Rattle.std.proofs.lemmas.List.Elements.{recursion_from_All}
use Rattle.mms_types.specs.Order.{key_eq, scope_eq}
use Rattle.mms_types.specs.declared.key.Key.{Key}
use Rattle.mms_types.specs.declared.key.Scope.TheVariants.{Association as OfClient}
use Rattle.mms_types.specs.declared.moment.Moment.{Moment}
use Rattle.mms_types.specs.declared.semaphore.TakeControl.{TakeControl}
use Rattle.token_sem.specs.declared.entry.SemEntry.{SemEntry}
use Rattle.token_sem.specs.declared.entry.SemState.{SemState}
use Rattle.token_sem.specs.declared.entry.SemState.TheVariants.{Queued, Owner, Hung}
use Rattle.token_sem.specs.declared.entry.TakeOutcome.{TakeOutcome}
use Rattle.token_sem.specs.declared.entry.TakeOutcome.TheVariants as equal
use Rattle.token_sem.specs.Semaphore.{Loss, Rises, Sem, after_freeing, before, granted_to, hung_entry, is_hung, is_hung_state, is_owner_state, is_queued, is_queued_state, next, numbered, owned_by, owner_from, waits_for, without}
use Rattle.token_sem.specs.Semaphore as token
use Rattle.token_sem.proofs.Keeping.{Among, among-least, among-next, rises-without}
use Rattle.token_sem.proofs.Least.{Stands}
use Rattle.token_sem.proofs.Losing.{rises-filter}
use Rattle.token_sem.proofs.Serving.{numbered-at}
use Rattle.pool_sem.specs.Pools as pool
use Rattle.pool_sem.specs.declared.outcome.PoolOutcome.{PoolOutcome}
use Rattle.pool_sem.specs.declared.outcome.PoolOutcome.TheVariants as named
use Rattle.pool_sem.proofs.Freeing as pool-free
use Rattle.mms_time.specs.Deadlines.{without_due}
use Rattle.mms_time.specs.Loss.{all_changed, lost, without_owners, without_waiters}
use Rattle.mms_time.specs.Semaphores.{IsSound, Rows, changed, changed_row, changed_to, entries_in, made_in}
use Rattle.mms_time.specs.Services.{ask_of, place_asked, with_take, with_token_back, without_entry}
use Rattle.mms_time.specs.declared.row.Semaphore.{Semaphore}
use Rattle.mms_time.specs.declared.row.Semaphore.TheVariants.{Token, Pool}
use Rattle.mms_time.specs.declared.row.SemaphoreRow.{SemaphoreRow}
use Rattle.sem_ticks.specs.Sound.{AreSound}
use Rattle.cell_laws.proofs.Bound.{nat-same, nat-test}
use Rattle.cell_laws.proofs.Entries.{IsFreeing, Leaving, freed_by, freeing, kept_by, leaving, of_equal, of_named, one_gone, owners_gone, rises-hung, rises-in, stands-either}
use Rattle.cell_laws.proofs.Queues.{stands-any, stands-map}

-- ---- lists

pub stands-filter : {A : Type 0} (p : A → Bool) (xs : List A) (x : A) → Stands (filter p xs) x → Stands xs x × (p x ≡ true)
stands-filter p [] x s = absurd s
stands-filter p (y ∷ xs) x s = by_test (p y) refl (stands-filter p xs x) s
  where
    by_test : (b : Bool) → p y ≡ b → (Stands (filter p xs) x → Stands xs x × (p x ≡ true)) → Stands (cond b (y ∷ filter p xs) (filter p xs)) x → Stands (y ∷ xs) x × (p x ≡ true)
    by_test true h ih (inl same) = (inl same, ap p (sym same) ∙ h)
    by_test true h ih (inr t) = let found = ih t in (inr found.0, found.1)
    by_test false h ih t = let found = ih t in (inr found.0, found.1)

filter-stands : {A : Type 0} (p : A → Bool) (xs : List A) (x : A) → Stands xs x → p x ≡ true → Stands (filter p xs) x
filter-stands p [] x s h = absurd s
filter-stands p (y ∷ xs) x (inl same) h = subst (λ (b : Bool). Stands (cond b (y ∷ filter p xs) (filter p xs)) x) (sym (ap p same ∙ h)) (inl same)
filter-stands p (y ∷ xs) x (inr s) h = by_test (p y) (filter-stands p xs x s h)
  where
    by_test : (b : Bool) → Stands (filter p xs) x → Stands (cond b (y ∷ filter p xs) (filter p xs)) x
    by_test true t = inr t
    by_test false t = t

among-stands : (es : List SemEntry) (e : SemEntry) → Among es e → Stands es e
among-stands [] e s = absurd s
among-stands (x ∷ es) e (inl same) = inl same
among-stands (x ∷ es) e (inr s) = inr (among-stands es e s)

stands-among : (es : List SemEntry) (e : SemEntry) → Stands es e → Among es e
stands-among [] e s = absurd s
stands-among (x ∷ es) e (inl same) = inl same
stands-among (x ∷ es) e (inr s) = inr (stands-among es e s)

isn't : (b : Bool) → not b ≡ true → b ≡ false
isn't true h = absurd (cc h)
isn't false h = refl

-- ---- entries

-- of the client and the number of an entry that isn't hung
abbrev pub Fits : (ℕ → ℕ → Type 0) → SemEntry → Type 0
Fits P e = is_hung e ≡ false → P e.client e.number

abbrev pub AllFit : (ℕ → ℕ → Type 0) → List SemEntry → Type 0
AllFit P es = (e : SemEntry) → Stands es e → Fits P e

queued-unhung : (e : SemEntry) → is_queued e ≡ true → is_hung e ≡ false
queued-unhung e h = by_state e.state h
  where
    by_state : (s : SemState) → is_queued_state s ≡ true → is_hung_state s ≡ false
    by_state Queued h = refl
    by_state Owner h = refl
    by_state Hung h = absurd (cc h)

-- and that number is another
abbrev Apart : (ℕ → ℕ → Type 0) → ℕ → ℕ → ℕ → Type 0
Apart P n client number = P client number × ((number == n) ≡ false)

module _ (P : ℕ → ℕ → Type 0) where
  fewer : (p : SemEntry → Bool) (es : List SemEntry) → AllFit P es → AllFit P (filter p es)
  fewer p es all e s = all e (stands-filter p es e s).0

  -- the one of that number goes, or is hung
  apart : (n : ℕ) (es : List SemEntry) → AllFit P es → AllFit (Apart P n) (without n es)
  apart n es all e s h = let found = stands-filter (λ (x : SemEntry). not (x.number == n)) es e s in (all e found.0 h, isn't (e.number == n) found.1)

  hung : (n : ℕ) (es : List SemEntry) → AllFit P es → AllFit (Apart P n) (map (hung_entry n) es)
  hung n es all e s = let from = stands-map (hung_entry n) es e s in subst (Fits (Apart P n)) from.2 (one from.0 from.1)
    where
      one : (x : SemEntry) → Stands es x → Fits (Apart P n) (hung_entry n x)
      one x t = by_test (x.number == n) refl
        where
          by_test : (b : Bool) → (x.number == n) ≡ b → Fits (Apart P n) (cond b (record x { state = Hung }) x)
          by_test true e h = absurd (cc h)
          by_test false e h = (all x t h, e)

  -- one that is queued becomes owner
  granted : (f : SemEntry → SemEntry) → ((x : SemEntry) → P x.client x.number → Fits P (f x)) → (made : ℕ) (es : List SemEntry) (first : SemEntry) → Rises 0 es made → Among es first
      → is_queued first ≡ true → AllFit P es → AllFit P (map (λ x. if x.number == first.number then f x else x) es)
  granted f keeps made es first rises among queued all e s =
      let from = stands-map (λ (x : SemEntry). if x.number == first.number then f x else x) es e s in subst (Fits P) from.2 (one from.0 from.1)
    where
      one : (x : SemEntry) → Stands es x → Fits P (if x.number == first.number then f x else x)
      one x t = by_test (x.number == first.number) refl
        where
          by_test : (b : Bool) → (x.number == first.number) ≡ b → Fits P (cond b (f x) x)
          by_test true e =
              let both : Some x ≡ Some first = sym (numbered-at 0 made es x rises (stands-among es x t)) ∙ ap (λ (n : ℕ). numbered n es) (nat-same x.number first.number e) ∙ numbered-at 0 made es first rises among in
              let same : x ≡ first = cc both in
              keeps x (subst (λ (y : SemEntry). P y.client y.number) (sym same) (all first (among-stands es first among) (queued-unhung first queued)))
          by_test false e = all x t

  freed-equal : (made : ℕ) (now : Moment) (es : List SemEntry) → Rises 0 es made → AllFit P es → AllFit P (after_freeing now es)
  freed-equal made now es rises all = by_next (next es) refl
    where
      by_next : (o : Option SemEntry) → next es ≡ o → AllFit P (granted_to o now es)
      by_next None is = all
      by_next (Some first) is = let among = among-next es first is in granted (owner_from now) (λ x p h. p) made es first rises among.0 among.1 all

  freed-named : (made : ℕ) (t : Option ℕ) (now : Moment) (es : List SemEntry) → Rises 0 es made → AllFit P es → AllFit P (pool.after_freeing_of t now es)
  freed-named made None now es rises all = all
  freed-named made (Some t) now es rises all = by_next (pool.next t es) refl
    where
      by_next : (o : Option SemEntry) → pool.next t es ≡ o → AllFit P (pool.granted_to o t now es)
      by_next None is = all
      by_next (Some first) is =
          let among = among-least before (pool.wants t) es first is in
          granted (pool.owner_from t now) (λ x p h. p) made es first rises among.0 (pool-free.wants-queued t first among.1) all

-- an entry goes, and its token is freed
abbrev Leave : Leaving → Type 1
Leave v = (P : ℕ → ℕ → Type 0) (made : ℕ) (now : Moment) (es : List SemEntry) (o : SemEntry) → Rises 0 es made → AllFit P es → AllFit (Apart P o.number) (v.entries now o es)

equal-leaves : Leave of_equal
equal-leaves P made now es o rises all = freed-equal (Apart P o.number) made now (without o.number es) (rises-without 0 made o.number es rises) (apart P o.number es all)

named-leaves : Leave of_named
named-leaves P made now es o rises all = freed-named (Apart P o.number) made o.token now (without o.number es) (rises-without 0 made o.number es rises) (apart P o.number es all)

leaves : (s : Semaphore) → Leave (leaving s)
leaves (Token s) = equal-leaves
leaves (Pool p) = named-leaves

-- ---- a client is lost: none of its entries is left but hung ones

module _ (Q R : ℕ → Type 0) (client : ℕ) (other : (c : ℕ) → (c == client) ≡ false → Q c → R c) where
  -- what is left, while these of its owner entries are to come
  abbrev Left : List SemEntry → ℕ → ℕ → Type 0
  Left os c n = ((c == client) ≡ false → Q c) × ((c == client) ≡ true → list_any (λ (o : SemEntry). n == o.number) os ≡ true)

  one-less : (o : SemEntry) (os : List SemEntry) (c n : ℕ) → Apart (Left (o ∷ os)) o.number c n → Left os c n
  one-less o os c n is = (is.0.0, λ own. by_test (n == o.number) is.1 (is.0.1 own))
    where
      by_test : (b : Bool) → b ≡ false → (b || list_any (λ (x : SemEntry). n == x.number) os) ≡ true → list_any (λ (x : SemEntry). n == x.number) os ≡ true
      by_test true e h = absurd (cc e)
      by_test false e h = h

  module _ (v : Leaving) (is : IsFreeing v) (goes : Leave v) where
    one-lost : (made : ℕ) (now : Moment) (l : Loss) (o : SemEntry) (os : List SemEntry) → Rises 0 l.entries made → AllFit (Left (o ∷ os)) l.entries
        → AllFit (Left os) (one_gone v now l o).entries × Rises 0 (one_gone v now l o).entries made
    one-lost made now l o os rises all = by_keep o.keep
      where
        less : (es : List SemEntry) → AllFit (Apart (Left (o ∷ os)) o.number) es → AllFit (Left os) es
        less es fit e s h = one-less o os e.client e.number (fit e s h)

        by_keep : (b : Bool) → AllFit (Left os) (if b then kept_by o l else freed_by v now o l).entries × Rises 0 (if b then kept_by o l else freed_by v now o l).entries made
        by_keep true = (less (map (hung_entry o.number) l.entries) (hung (Left (o ∷ os)) o.number l.entries all), rises-hung 0 made o.number l.entries rises)
        by_keep false = (less (v.entries now o l.entries) (goes (Left (o ∷ os)) made now l.entries o rises all), is.rises made now l.entries o rises)

    some-lost : (made : ℕ) (now : Moment) (l : Loss) (os : List SemEntry) → Rises 0 l.entries made → AllFit (Left os) l.entries → AllFit (Left []) (fold (one_gone v now) l os).entries
    some-lost made now l [] rises all = all
    some-lost made now l (o ∷ os) rises all = let one = one-lost made now l o os rises all in some-lost made now (one_gone v now l o) os one.1 one.0

    all-lost : (made : ℕ) (now : Moment) (es : List SemEntry) → Rises 0 es made → ((e : SemEntry) → Stands es e → waits_for client e ≡ false) → AllFit (λ c n. Q c) es
        → AllFit (λ c n. R c) (owners_gone v client now es).entries
    all-lost made now es rises none all e s h = by_client (e.client == client) refl (some-lost made now (record { entries = es; grants = [] }) owners rises first e s h)
      where
        owners : List SemEntry
        owners = filter (owned_by client) es

        owner : (a : Bool) (state : SemState) → a ≡ true → is_hung_state state ≡ false → (a && is_queued_state state) ≡ false → (a && is_owner_state state) ≡ true
        owner true Queued a h q = absurd (cc q)
        owner true Owner a h q = refl
        owner true Hung a h q = absurd (cc h)
        owner false state a h q = absurd (cc a)

        first : AllFit (Left owners) es
        first x t h = (
          λ e. all x t h,
          λ own. stands-any (λ (o : SemEntry). x.number == o.number) owners x
              (filter-stands (owned_by client) es x t (owner (x.client == client) x.state own h (none x t))) (nat-test x.number x.number refl),
        )

        by_client : (b : Bool) → (e.client == client) ≡ b → Left [] e.client e.number → R e.client
        by_client true own is = let no : false ≡ true = is.1 own in absurd (cc no)
        by_client false apart is = other e.client apart (is.0 apart)

-- ---- semaphores

abbrev pub AllOf : (ℕ → Type 0) → Semaphore → Type 0
AllOf Q s = AllFit (λ c n. Q c) (entries_in s)

-- a client is lost
lost-fits : (Q R : ℕ → Type 0) (client : ℕ) → ((c : ℕ) → (c == client) ≡ false → Q c → R c) → (now : Moment) (s : Semaphore) → IsSound s → AllOf Q s
    → AllOf R (without_owners client now (without_waiters client s))
lost-fits Q R client other now s is all = by_kind s (made_in s) (rises-in s is) all
  where
    left : List SemEntry → List SemEntry
    left es = filter (λ e. not (waits_for client e)) es

    none : (es : List SemEntry) (e : SemEntry) → Stands (filter (λ x. not (waits_for client x)) es) e → waits_for client e ≡ false
    none es e t = isn't (waits_for client e) (stands-filter (λ x. not (waits_for client x)) es e t).1

    by_kind : (s : Semaphore) (made : ℕ) → Rises 0 (entries_in s) made → AllOf Q s → AllOf R (without_owners client now (without_waiters client s))
    by_kind (Token s) made rises all =
        all-lost Q R client other of_equal (freeing (Token s)) equal-leaves made now (filter (λ e. not (waits_for client e)) s.entries)
        (rises-filter (λ e. not (waits_for client e)) 0 made s.entries rises) (none s.entries) (fewer (λ c n. Q c) (λ e. not (waits_for client e)) s.entries all)
    by_kind (Pool p) made rises all =
        all-lost Q R client other of_named (freeing (Pool p)) named-leaves made now (filter (λ e. not (waits_for client e)) p.entries)
        (rises-filter (λ e. not (waits_for client e)) 0 made p.entries rises) (none p.entries) (fewer (λ c n. Q c) (λ e. not (waits_for client e)) p.entries all)

module _ (Q : ℕ → Type 0) where
  abbrev Each : ℕ → ℕ → Type 0
  Each c n = Q c

  dropped : (n : ℕ) (es : List SemEntry) → AllFit Each es → AllFit Each (without n es)
  dropped n es all = fewer Each (λ e. not (e.number == n)) es all

  one-more : (es : List SemEntry) (e : SemEntry) → Q e.client → AllFit Each es → AllFit Each (es ++ e ∷ [])
  one-more es e its all x s = by_part (stands-either es (e ∷ []) x s)
    where
      by_part : Stands es x ⊎ Stands (e ∷ []) x → Fits Each x
      by_part (inl a) = all x a
      by_part (inr (inl same)) = λ h. subst (λ (y : SemEntry). Q y.client) same its
      by_part (inr (inr none)) = absurd none

  left-all : (v : Leaving) → Leave v → (made : ℕ) (now : Moment) (es : List SemEntry) (o : SemEntry) → Rises 0 es made → AllFit Each es → AllFit Each (v.entries now o es)
  left-all v goes made now es o rises all e s h = (goes Each made now es o rises all e s h).0

  -- a client takes a token, or waits for one
  pub take-fits : (client invoke : ℕ) (x : TakeControl) (now : Moment) (s : Semaphore) → Q client → AllOf Q s → AllOf Q (with_take client invoke x now s)
  take-fits client invoke x now (Token s) its all = by_outcome (token.outcome s (ask_of client invoke None x) now)
    where
      by_outcome : (o : TakeOutcome) → AllFit Each (token.effect_of o s (ask_of client invoke None x) now).entries
      by_outcome equal.Refused = all
      by_outcome (equal.Preempts number) = one-more (without number s.entries) _ its (dropped number s.entries all)
      by_outcome equal.Gets = one-more s.entries _ its all
      by_outcome equal.TimesOut = all
      by_outcome (equal.WaitsUntil deadline) = one-more s.entries _ its all
      by_outcome equal.WaitsForEver = one-more s.entries _ its all
  take-fits client invoke x now (Pool p) its all = by_outcome (pool.outcome p (ask_of client invoke (place_asked x.token p.tokens) x) now)
    where
      by_outcome : (o : PoolOutcome) → AllFit Each (pool.effect_of o p (ask_of client invoke (place_asked x.token p.tokens) x) now).entries
      by_outcome named.Refused = all
      by_outcome (named.Preempts number token) = one-more (without number p.entries) _ its (dropped number p.entries all)
      by_outcome (named.Gets token) = one-more p.entries _ its all
      by_outcome named.TimesOut = all
      by_outcome (named.WaitsUntil deadline) = one-more p.entries _ its all
      by_outcome named.WaitsForEver = one-more p.entries _ its all

  -- gives one back
  pub back-fits : (client : ℕ) (name : Option (List ℕ)) (now : Moment) (s : Semaphore) → IsSound s → AllOf Q s → AllOf Q (with_token_back client name now s)
  back-fits client name now (Token s) is all = by_owner (token.owner_of client s.entries)
    where
      by_owner : (o : Option SemEntry) → AllFit Each (token.after_giving_back o now s).entries
      by_owner None = all
      by_owner (Some owner) = left-all of_equal equal-leaves s.made now s.entries owner is.rises all
  back-fits client name now (Pool p) is all = by_owner (pool.owner_of client (place_asked name p.tokens) p.entries)
    where
      by_owner : (o : Option SemEntry) → AllFit Each (pool.after_giving_back o now p).entries
      by_owner None = all
      by_owner (Some owner) = left-all of_named named-leaves p.made now p.entries owner is.rises all

  -- waits no more
  pub entry-fits : (number : ℕ) (s : Semaphore) → AllOf Q s → AllOf Q (without_entry number s)
  entry-fits number (Token s) all = dropped number s.entries all
  entry-fits number (Pool p) all = dropped number p.entries all

  -- a deadline is met
  pub due-fits : (number : ℕ) (now : Moment) (s : Semaphore) → IsSound s → AllOf Q s → AllOf Q (without_due number now s)
  due-fits number now (Token s) is all = by_entry (numbered number s.entries)
    where
      by_entry : (o : Option SemEntry) → AllFit Each (token.expired_entry o now s).entries
      by_entry None = all
      by_entry (Some e) = by_state (is_queued e)
        where
          by_state : (b : Bool) → AllFit Each (if b then token.after_cancel s e.number else record s { entries = after_freeing now (without e.number s.entries) }).entries
          by_state true = dropped e.number s.entries all
          by_state false = left-all of_equal equal-leaves s.made now s.entries e is.rises all
  due-fits number now (Pool p) is all = by_entry (numbered number p.entries)
    where
      by_entry : (o : Option SemEntry) → AllFit Each (pool.expired_entry o now p).entries
      by_entry None = all
      by_entry (Some e) = by_state (is_queued e)
        where
          by_state : (b : Bool) → AllFit Each (if b then pool.after_cancel p e.number else record p { entries = pool.after_leaving e now p.entries }).entries
          by_state true = dropped e.number p.entries all
          by_state false = left-all of_named named-leaves p.made now p.entries e is.rises all

-- ---- all semaphores

abbrev pub AllRows : (ℕ → Type 0) → Rows → Type 0
AllRows Q rows = AllByRecursion (λ (row : Key × SemaphoreRow). AllOf Q row.1.semaphore) rows

module _ (Q : ℕ → Type 0) where
  found-fits : (test : Key → Bool) (rows : Rows) (row : SemaphoreRow) → lookup test rows ≡ Some row → AllRows Q rows → AllOf Q row.semaphore
  found-fits test [] row found all = absurd (cc found)
  found-fits test (first ∷ rows) row found all = by_test (test first.0) (found-fits test rows row) found
    where
      by_test : (b : Bool) → (lookup test rows ≡ Some row → AllRows Q rows → AllOf Q row.semaphore) → cond b (Some first.1) (lookup test rows) ≡ Some row → AllOf Q row.semaphore
      by_test true rest h = let same : first.1 ≡ row = cc h in subst (λ (r : SemaphoreRow). AllOf Q r.semaphore) same all.0
      by_test false rest h = rest h all.1

  set-fits : (test : Key → Bool) (rows : Rows) (new : SemaphoreRow) → AllRows Q rows → AllOf Q new.semaphore → AllRows Q (set_value test rows new)
  set-fits test [] new all its = tt
  set-fits test (first ∷ rows) new all its = by_test (test first.0) (set-fits test rows new all.1 its)
    where
      by_test : (b : Bool) → AllRows Q (set_value test rows new) → AllRows Q (cond b ((first.0, new) ∷ rows) (first ∷ set_value test rows new))
      by_test true rest = (its, all.1)
      by_test false rest = (all.0, rest)

  -- one is changed
  pub changed-fits : (f : Semaphore → Semaphore) (key : Key) (rows : Rows) → ((row : SemaphoreRow) → lookup (key_eq key) rows ≡ Some row → AllOf Q row.semaphore → AllOf Q (f row.semaphore))
      → AllRows Q rows → AllRows Q (changed f key rows)
  changed-fits f key rows one all = by_row (lookup (key_eq key) rows) refl
    where
      by_row : (o : Option SemaphoreRow) → lookup (key_eq key) rows ≡ o → AllRows Q (changed_to o f key rows)
      by_row None e = all
      by_row (Some row) e = set-fits (key_eq key) rows (changed_row f row) all (one row e (found-fits (key_eq key) rows row e all))

  -- some go
  pub fewer-fit : (p : Key × SemaphoreRow → Bool) (rows : Rows) → AllRows Q rows → AllRows Q (filter p rows)
  fewer-fit p [] all = tt
  fewer-fit p (row ∷ rows) all = by_test (p row) (fewer-fit p rows all.1)
    where
      by_test : (b : Bool) → AllRows Q (filter p rows) → AllRows Q (cond b (row ∷ filter p rows) (filter p rows))
      by_test true rest = (all.0, rest)
      by_test false rest = rest

-- a client is lost
pub rows-lost : (Q R : ℕ → Type 0) (client : ℕ) → ((c : ℕ) → (c == client) ≡ false → Q c → R c) → (now : Moment) (rows : Rows) → AreSound rows → AllRows Q rows
    → AllRows R (lost client now rows)
rows-lost Q R client other now rows sound all =
    fewer-fit R (λ (row : Key × SemaphoreRow). not (scope_eq row.0.scope (OfClient client))) (all_changed (without_owners client now) (all_changed (without_waiters client) rows))
    (each rows (recursion_from_All (λ (row : SemaphoreRow). IsSound row.semaphore) (values_of rows) sound.each) all)
  where
    each : (rest : Rows) → AllByRecursion (λ (row : SemaphoreRow). IsSound row.semaphore) (values_of rest) → AllRows Q rest
        → AllRows R (all_changed (without_owners client now) (all_changed (without_waiters client) rest))
    each [] is fits = tt
    each (row ∷ rest) is fits = (lost-fits Q R client other now row.1.semaphore is.0 fits.0, each rest is.1 fits.1)
