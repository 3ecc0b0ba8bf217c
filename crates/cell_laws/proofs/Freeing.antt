-- A token of one semaphore is freed: it goes to the first that waits for it, or is free.
use Rattle.std.proofs.Common.{◌≡◌, ℕ, zero, suc, ◌+◌, ◌-◌, ◌<◌, ◌≤◌, inl, inr, Bool, true, false, not, cond, ◌==◌, List, [], ◌∷◌, map, filter, get_or, length, Option, None, Some, is_some, option_and_then, option_map, refl, sym, ◌∙◌, ap, subst, arith}
use Rattle.std.specs.List.{All, Contains}
use Rattle.std.specs.Map.{lookup}
use Rattle.std.proofs.lemmas.Bool.Decides.{nat_tests}
use Rattle.std.proofs.lemmas.Map.{lookup-set_value}
use Rattle.mms_types.specs.KeyLaws.{keys_equal}
use Rattle.mms_types.specs.Order.{key_eq}
use Rattle.mms_types.specs.declared.key.Key.{Key}
use Rattle.mms_types.specs.declared.moment.Moment.{Moment}
use Rattle.association.specs.Waiting.{is_waiting}
use Rattle.token_sem.specs.declared.entry.Grant.{Grant}
use Rattle.token_sem.specs.declared.entry.SemEntry.{SemEntry}
use Rattle.token_sem.specs.Semaphore.{IsSem, Rises, Sem, after_freeing, before, granted_entry, granted_to, holds, is_queued, least, next, numbered, tokens_held, without}
use Rattle.token_sem.specs.Semaphore as equal
use Rattle.token_sem.proofs.Keeping.{Among, among-least, among-next, held-granted, held-without, owned-and-hung, rises-above, rises-without}
use Rattle.token_sem.proofs.Least.{Stands, before-order, least-first, least-none, least-stands}
use Rattle.token_sem.proofs.Losing.{among-unique}
use Rattle.token_sem.proofs.Serving.{numbered-at, stands-get_or}
use Rattle.pool_sem.specs.Pools as pool
use Rattle.pool_sem.proofs.Bounding.{held-most}
use Rattle.pool_sem.proofs.Counting.{count-changed, count-without, none-among, weight, weight-no, weight-yes}
use Rattle.pool_sem.proofs.Freeing as pool-free
use Rattle.pool_sem.proofs.Serving as pool-serving
use Rattle.mms_time.specs.Semaphores.{IsSound, Rows, changed, changed_row, changed_to, entries_in, entry_in, entries_of, names_in}
use Rattle.mms_time.specs.Services.{grant_answer_of, named_answer, name_at}
use Rattle.mms_time.specs.declared.row.Semaphore.{Semaphore}
use Rattle.mms_time.specs.declared.row.Semaphore.TheVariants.{Token, Pool}
use Rattle.mms_time.specs.declared.row.SemaphoreRow.{SemaphoreRow}
use Rattle.mms_types.specs.declared.semaphore.TakeControlAnswer.{TakeControlAnswer}
use Rattle.sem_ticks.specs.Granted.{granted}
use Rattle.sem_ticks.specs.declared.granted.Granted.{Granted}
use Rattle.step_sound.specs.Answered.{grant_answer}
use Rattle.step_parts.specs.State.{State}
use Rattle.step_parts.specs.Step.{outbox_of}
use Rattle.cell_laws.specs.Freed.{IsPassedOn, IsUnheld, entries_at, entries_found, free_at, free_found, free_in, grant_of, held_in, owner_from, wanting_at, wants}
use Rattle.cell_laws.specs.Linked.{waiting_at}
use Rattle.cell_laws.proofs.Bound.{key-test, nat-same}
use Rattle.cell_laws.proofs.Entries.{leaving}

-- ---- lists

pub stands-contains : {A : Type 0} (xs : List A) (x : A) → Stands xs x → Contains xs x
stands-contains [] x s = absurd s
stands-contains (y ∷ xs) x (inl same) = (zero, omega arith, same)
stands-contains (y ∷ xs) x (inr s) = let found = stands-contains xs x s in let low = found.1 in (suc found.0, omega (arith, low), found.2)

pub contains-stands : {A : Type 0} (xs : List A) (x : A) → Contains xs x → Stands xs x
contains-stands [] x h = let low = h.1 in absurd (omega (arith, low))
contains-stands (y ∷ xs) x (zero, low, same) = inl same
contains-stands (y ∷ xs) x (suc k, low, same) = inr (contains-stands xs x (k, omega (arith, low), same))

-- where others go, as many pass a test
pub filter-left : (q p : SemEntry → Bool) (es : List SemEntry) → ((e : SemEntry) → Among es e → q e ≡ true → p e ≡ true) → filter q (filter p es) ≡ filter q es
filter-left q p [] stay = refl
filter-left q p (e ∷ es) stay = by_tests (p e) (q e) refl refl (filter-left q p es (λ x a. stay x (inr a)))
  where
    by_tests : (b c : Bool) → p e ≡ b → q e ≡ c → filter q (filter p es) ≡ filter q es
        → filter q (cond b (e ∷ filter p es) (filter p es)) ≡ cond c (e ∷ filter q es) (filter q es)
    by_tests true c eb eq ih =
        ap (λ t. cond t (e ∷ filter q (filter p es)) (filter q (filter p es))) eq ∙ ap (λ (l : List SemEntry). cond c (e ∷ l) l) ih
    by_tests false true eb eq ih = absurd (cc (sym (stay e (inl refl) eq) ∙ eb))
    by_tests false false eb eq ih = ih

-- ---- one semaphore

pub wants-queued : (token : Option ℕ) (e : SemEntry) → wants token e ≡ true → is_queued e ≡ true
wants-queued None e h = h
wants-queued (Some place) e h = pool-free.wants-queued place e h

-- the entry that is served first with a token
abbrev pub next_of : Option ℕ → List SemEntry → Option SemEntry
next_of token es = least before (filter (wants token) es)

-- the semaphore after this entry is gone, which had a token
abbrev pub freed : SemEntry → Moment → Semaphore → Semaphore
freed o now (Token s) = Token (record s { entries = after_freeing now (without o.number s.entries) })
freed o now (Pool p) = Pool (record p { entries = pool.after_leaving o now p.entries })

-- what becomes of its token
pub record Gone (t : Semaphore) (o : SemEntry) (now : Moment) : Type 0 where
  pub heir : (leaving t).heir o (entries_in t) ≡ option_map (grant_of (held_in o t)) (next_of (held_in o t) (entries_in t))
  pub goes-on : (e : SemEntry) → next_of (held_in o t) (entries_in t) ≡ Some e → numbered e.number (entries_in (freed o now t)) ≡ Some (owner_from (held_in o t) now e)
  pub goes-over : (e : SemEntry) → next_of (held_in o t) (entries_in t) ≡ Some e → free_in (freed o now t) ≡ free_in t
  pub goes-free : next_of (held_in o t) (entries_in t) ≡ None → free_in (freed o now t) ≡ free_in t + 1
  pub unheld : next_of (held_in o t) (entries_in t) ≡ None → IsUnheld (held_in o t) (entries_in (freed o now t))
  pub names : names_in (freed o now t) ≡ names_in t

granted-at : (low high : ℕ) (now : Moment) (es : List SemEntry) (e : SemEntry) → Rises low es high → Among es e
    → numbered e.number (map (granted_entry e.number now) es) ≡ Some (equal.owner_from now e)
granted-at low high now [] e rises a = absurd a
granted-at low high now (x ∷ es) e rises (inl same) =
    let t : (x.number == e.number) ≡ true = (let n : x.number ≡ e.number = ap (λ y. y.number) same in grind (arith, nat_tests)) in
    let first : granted_entry e.number now x ≡ equal.owner_from now x = ap (λ b. cond b (equal.owner_from now x) x) t in
    let rest = map (granted_entry e.number now) es in
    ap (λ (y : SemEntry). numbered e.number (y ∷ rest)) first ∙ ap (λ b. cond b (Some (equal.owner_from now x)) (numbered e.number rest)) t ∙ ap (λ y. Some (equal.owner_from now y)) same
granted-at low high now (x ∷ es) e rises (inr a) =
    let less = (rises-above x.number high es e rises.1 a).0 in
    let t : (x.number == e.number) ≡ false = grind (arith, nat_tests) in
    let first : granted_entry e.number now x ≡ x = ap (λ b. cond b (equal.owner_from now x) x) t in
    let rest = map (granted_entry e.number now) es in
    ap (λ (y : SemEntry). numbered e.number (y ∷ rest)) first ∙ ap (λ b. cond b (Some x) (numbered e.number rest)) t ∙ granted-at x.number high now es e rises.1 a

-- who waits isn't the one that has a token
waits-other : (made : ℕ) (es : List SemEntry) (o e : SemEntry) → Rises 0 es made → Among es o → is_queued o ≡ false → Among es e → is_queued e ≡ true → not (e.number == o.number) ≡ true
waits-other made es o e rises among holds a queued = by_test (e.number == o.number) refl
  where
    by_test : (b : Bool) → (e.number == o.number) ≡ b → not b ≡ true
    by_test true t =
        let same : e ≡ o = among-unique 0 made es e o rises a among (nat-same e.number o.number t) in
        absurd (cc (sym queued ∙ ap is_queued same ∙ holds))
    by_test false t = refl

-- equal tokens
module _ (s : Sem) (o : SemEntry) (is : IsSem s) (among : Among s.entries o) (holds : is_queued o ≡ false) (now : Moment) where
  -- who is served next is who was next
  next-left : next (without o.number s.entries) ≡ next s.entries
  next-left =
      ap (least before)
      (filter-left is_queued (λ e. not (e.number == o.number)) s.entries (λ e a queued. waits-other s.made s.entries o e is.rises among holds a queued))

  equal-on : (e : SemEntry) → next s.entries ≡ Some e → numbered e.number (after_freeing now (without o.number s.entries)) ≡ Some (equal.owner_from now e)
  equal-on e first =
      ap (λ (p : Option SemEntry). numbered e.number (granted_to p now (without o.number s.entries))) (next-left ∙ first)
      ∙ granted-at 0 s.made now (without o.number s.entries) e (rises-without 0 s.made o.number s.entries is.rises)
      (among-next (without o.number s.entries) e (next-left ∙ first)).0

  equal-over : (e : SemEntry) → next s.entries ≡ Some e → s.tokens - tokens_held (after_freeing now (without o.number s.entries)) ≡ s.tokens - tokens_held s.entries
  equal-over e first =
      let at = among-next (without o.number s.entries) e (next-left ∙ first) in
      let left : tokens_held (after_freeing now (without o.number s.entries)) ≡ tokens_held (map (granted_entry e.number now) (without o.number s.entries)) =
      ap (λ (p : Option SemEntry). tokens_held (granted_to p now (without o.number s.entries))) (next-left ∙ first) in
      let more : tokens_held (map (granted_entry e.number now) (without o.number s.entries)) ≡ tokens_held (without o.number s.entries) + 1 =
      held-granted 0 s.made now (without o.number s.entries) e (rises-without 0 s.made o.number s.entries is.rises) at.0 at.1 in
      let one : tokens_held (without o.number s.entries) + 1 ≡ tokens_held s.entries = held-without 0 s.made s.entries o is.rises among (ap not holds) in
      ap (λ (n : ℕ). s.tokens - n) (left ∙ more ∙ one)

  equal-free : next s.entries ≡ None → s.tokens - tokens_held (after_freeing now (without o.number s.entries)) ≡ s.tokens - tokens_held s.entries + 1
  equal-free none =
      let left : tokens_held (after_freeing now (without o.number s.entries)) ≡ tokens_held (without o.number s.entries) =
      ap (λ (p : Option SemEntry). tokens_held (granted_to p now (without o.number s.entries))) (next-left ∙ none) in
      let one : tokens_held (without o.number s.entries) + 1 ≡ tokens_held s.entries = held-without 0 s.made s.entries o is.rises among (ap not holds) in
      let few = is.few in
      omega (arith, left, one, few)

  equal-gone : Gone (Token s) o now
  equal-gone = record {
    heir = ap (option_map equal.grant_of) next-left;
    goes-on = equal-on;
    goes-over = equal-over;
    goes-free = equal-free;
    unheld = λ none. tt;
    names = refl;
  }

-- tokens that have names
module _ (p : pool.Pool) (o : SemEntry) (is : pool.IsPool p) (among : Among p.entries o) (holds : is_queued o ≡ false) (now : Moment) where
  its : (t : ℕ) × (o.token ≡ Some t) × (t < length p.tokens)
  its = pool-free.token-there (length p.tokens) o (none-among (pool-free.unplaced (length p.tokens)) p.entries o among is.placed) (ap not holds)

  abbrev left : List SemEntry
  left = without o.number p.entries

  abbrev then : List SemEntry
  then = pool.after_leaving o now p.entries

  rises-left : Rises 0 left p.made
  rises-left = rises-without 0 p.made o.number p.entries is.rises

  has : pool.has its.0 o ≡ true
  has = pool-free.holder-has its.0 o (ap not holds) its.1

  named-left : pool.next its.0 left ≡ pool.next its.0 p.entries
  named-left =
      ap (least before)
      (filter-left (pool.wants its.0) (λ e. not (e.number == o.number)) p.entries
      (λ e a w. waits-other p.made p.entries o e is.rises among holds a (pool-free.wants-queued its.0 e w)))

  one-less : tokens_held left + 1 ≡ tokens_held p.entries
  one-less =
      let goes = count-without equal.holds 0 p.made p.entries o is.rises among in
      let one : weight equal.holds o ≡ 1 = weight-yes equal.holds o (ap not holds) in
      omega (arith, goes, one)

  named-over : (e : SemEntry) → pool.next its.0 p.entries ≡ Some e → length p.tokens - tokens_held then ≡ length p.tokens - tokens_held p.entries
  named-over e first =
      let at = among-least before (pool.wants its.0) left e (named-left ∙ first) in
      let to : tokens_held then ≡ tokens_held (map (pool.granted_entry e.number its.0 now) left) =
      ap (λ k. tokens_held (pool.after_freeing_of k now left)) its.1 ∙ ap (λ (m : Option SemEntry). tokens_held (pool.granted_to m its.0 now left)) (named-left ∙ first) in
      let more = count-changed equal.holds 0 p.made (pool.owner_from its.0 now) left e rises-left at.0 in
      let not_it : weight equal.holds e ≡ 0 = weight-no equal.holds e (ap not (pool-free.wants-queued its.0 e at.1)) in
      let it : weight equal.holds (pool.owner_from its.0 now e) ≡ 1 = refl in
      let less = one-less in
      let same : tokens_held then ≡ tokens_held p.entries = omega (arith, to, more, not_it, it, less) in
      ap (λ (n : ℕ). length p.tokens - n) same

  held-few : tokens_held p.entries ≤ length p.tokens
  held-few = let most = held-most p is in let all = owned-and-hung p.entries in omega (arith, most, all)

  named-free : pool.next its.0 p.entries ≡ None → length p.tokens - tokens_held then ≡ length p.tokens - tokens_held p.entries + 1
  named-free none =
      let to : tokens_held then ≡ tokens_held left =
      ap (λ k. tokens_held (pool.after_freeing_of k now left)) its.1 ∙ ap (λ (m : Option SemEntry). tokens_held (pool.granted_to m its.0 now left)) (named-left ∙ none) in
      let less = one-less in
      let few = held-few in
      omega (arith, to, less, few)

  -- told of that place, and then of the entry's
  named-told : Gone (Pool p) o now
  named-told =
      let as-held = λ (P : Option ℕ → Type 0) (x : P (Some its.0)). subst P (sym its.1) x in
      record {
        heir = as-held (λ k. pool.grant_freeing k left ≡ option_map (grant_of k) (next_of k p.entries)) (ap (option_map (pool.grant_of its.0)) named-left);
        goes-on = as-held (λ k. (e : SemEntry) → next_of k p.entries ≡ Some e → numbered e.number then ≡ Some (owner_from k now e))
            (λ e first. pool-serving.left-served p o e its.0 now is has (named-left ∙ first));
        goes-over = as-held (λ k. (e : SemEntry) → next_of k p.entries ≡ Some e → length p.tokens - tokens_held then ≡ length p.tokens - tokens_held p.entries) named-over;
        goes-free = as-held (λ k. next_of k p.entries ≡ None → length p.tokens - tokens_held then ≡ length p.tokens - tokens_held p.entries + 1) named-free;
        unheld = as-held (λ k. next_of k p.entries ≡ None → IsUnheld k then)
            (λ none. (pool-serving.left-free p o its.0 now is (numbered-at 0 p.made p.entries o is.rises among) has (named-left ∙ none)).1);
        names = refl;
      }

pub gone : (t : Semaphore) (o : SemEntry) (now : Moment) → IsSound t → Among (entries_in t) o → is_queued o ≡ false → Gone t o now
gone (Token s) o now is among holds = equal-gone s o is among holds now
gone (Pool p) o now is among holds = named-told p o is among holds now

-- ---- in all semaphores

-- one is changed
pub row-changed : (f : Semaphore → Semaphore) (key : Key) (rows : Rows) (row : SemaphoreRow) → lookup (key_eq key) rows ≡ Some row
    → lookup (key_eq key) (changed f key rows) ≡ Some (changed_row f row)
row-changed f key rows row there =
    ap (λ (o : Option SemaphoreRow). lookup (key_eq key) (changed_to o f key rows)) there
    ∙ lookup-set_value keys_equal (key_eq key) (λ x y h. keys_equal.congr key x y h) key (changed_row f row) rows (ap is_some there)
    ∙ ap (λ b. cond b (Some (changed_row f row)) (lookup (key_eq key) rows)) (key-test key key refl)

-- the semaphore of that name
pub record Found (key : Key) (rows : Rows) (t : Semaphore) : Type 0 where
  pub row : SemaphoreRow
  pub there : lookup (key_eq key) rows ≡ Some row
  pub is : row.semaphore ≡ t

module _ (key : Key) (rows : Rows) (t : Semaphore) (found : Found key rows t) where
  pub entries-there : entries_at key rows ≡ entries_in t
  entries-there = ap entries_found found.there ∙ ap entries_in found.is

  pub numbered-found : (n : ℕ) → entry_in key n rows ≡ numbered n (entries_in t)
  numbered-found n =
      ap (λ (o : Option SemaphoreRow). option_and_then (λ row. numbered n (entries_of row)) o) found.there ∙ ap (λ (x : Semaphore). numbered n (entries_in x)) found.is

  pub free-found : free_at key rows ≡ free_in t
  free-found = ap free_found found.there ∙ ap free_in found.is

  -- what is told of a grant depends on the names of its tokens alone
  pub granted-found : (g : Grant) → granted rows (key, g) ≡ record { client = g.client; invoke = g.invoke; answer = named_answer (name_at g.token (names_in t)) }
  granted-found g =
      ap (λ (o : Option SemaphoreRow). told (grant_answer_of g o)) found.there ∙ ap (λ (x : Semaphore). told (named_answer (name_at g.token (names_in x)))) found.is
    where
      told : TakeControlAnswer → Granted
      told answer = record { client = g.client; invoke = g.invoke; answer = answer }

  -- it is changed
  pub found-changed : (f : Semaphore → Semaphore) (u : Semaphore) → f t ≡ u → Found key (changed f key rows) u
  found-changed f u same = record {
    row = changed_row f found.row;
    there = row-changed f key rows found.row found.there;
    is = ap f found.is ∙ same;
  }

pub granted-same : (key : Key) (old new : Rows) (t u : Semaphore) (g : Grant) → Found key old t → Found key new u → names_in u ≡ names_in t → granted new (key, g) ≡ granted old (key, g)
granted-same key old new t u g was is same =
    granted-found key new u is g ∙ ap (λ (names : List (List ℕ)). told (named_answer (name_at g.token names))) same ∙ sym (granted-found key old t was g)
  where
    told : TakeControlAnswer → Granted
    told answer = record { client = g.client; invoke = g.invoke; answer = answer }

-- what the one is told that gets the token
pub record IsTold (s : State) (waiter : SemEntry) (told : Granted) : Type 0 where
  pub waits : is_waiting waiter.invoke (waiting_at s waiter.client) ≡ false
  pub answered : Contains (outbox_of s waiter.client) (grant_answer told)

pub passes-on : (key : Key) (now : Moment) (old new : Rows) (s : State) (t : Semaphore) (o : SemEntry) → IsSound t → Among (entries_in t) o → is_queued o ≡ false
    → Found key old t → Found key new (freed o now t)
    → ((e : SemEntry) → next_of (held_in o t) (entries_in t) ≡ Some e → IsTold s e (granted old (key, grant_of (held_in o t) e))) → IsPassedOn key (held_in o t) now old new s
passes-on key now old new s t o is among holds was then told = by_next (next_of token (entries_in t)) refl
  where
    token : Option ℕ
    token = held_in o t

    goes : Gone t o now
    goes = gone t o now is among holds

    wanting : wanting_at key token old ≡ filter (wants token) (entries_in t)
    wanting = ap (filter (wants token)) (entries-there key old t was)

    by_next : (p : Option SemEntry) → next_of token (entries_in t) ≡ p → IsPassedOn key token now old new s
    by_next None none = inr (record {
      none = wanting ∙ least-none before (filter (wants token) (entries_in t)) none;
      unheld = subst (IsUnheld token) (sym (entries-there key new (freed o now t) then)) (goes.unheld none);
      more =
          let left = goes.goes-free none in
          let here = free-found key old t was in
          let there = free-found key new (freed o now t) then in
          omega (arith, left, here, there);
    })
    by_next (Some e) first = inl (
      e,
      record {
        waited = subst (λ (l : List SemEntry). Contains l e) (sym wanting)
            (stands-contains (filter (wants token) (entries_in t)) e (least-stands before (filter (wants token) (entries_in t)) e first));
        first = subst (λ (l : List SemEntry). All (λ x. before x e ≡ false) l) (sym wanting) (best e first);
        owner = numbered-found key new (freed o now t) then e.number ∙ goes.goes-on e first;
        moved = free-found key new (freed o now t) then ∙ goes.goes-over e first ∙ sym (free-found key old t was);
        waits = (told e first).waits;
        answered = (told e first).answered;
      },
    )
      where
        best : (e : SemEntry) → next_of token (entries_in t) ≡ Some e → All (λ x. before x e ≡ false) (filter (wants token) (entries_in t))
        best e first k d lt =
            least-first before before-order (filter (wants token) (entries_in t)) e (get_or (filter (wants token) (entries_in t)) k d) first (stands-get_or (filter (wants token) (entries_in t)) k d lt)
