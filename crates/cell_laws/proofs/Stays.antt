-- An entry that has a token stays in its semaphore, as others come and go there.
use Rattle.std.proofs.Common.{◌≡◌, ℕ, ◌+◌, ◌⊎◌, inl, inr, Bool, true, false, not, cond, ◌==◌, ◌&&◌, List, [], ◌∷◌, ◌++◌, map, filter, fold, Option, None, Some, if◌then◌else◌, refl, sym, ◌∙◌, ap, subst}
use Rattle.mms_types.specs.declared.moment.Moment.{Moment}
use Rattle.mms_types.specs.declared.semaphore.TakeControl.{TakeControl}
use Rattle.token_sem.specs.declared.entry.Ask.{Ask}
use Rattle.token_sem.specs.declared.entry.TakeOutcome.{TakeOutcome}
use Rattle.token_sem.specs.declared.entry.TakeOutcome.TheVariants.{Refused, Preempts, Gets, TimesOut, WaitsUntil}
use Rattle.token_sem.specs.declared.entry.SemEntry.{SemEntry}
use Rattle.token_sem.specs.declared.entry.SemState.TheVariants.{Owner}
use Rattle.token_sem.specs.Semaphore.{Loss, Rises, Sem, after, after_freeing, after_giving_back, before, deadline_after, effect_of, entry_of, granted_entry, granted_to, has_claim, hung_entry, hung_to_preempt, is_hung, is_owner, is_queued, next, outcome, outcome_later, outcome_now, owned_by, owner_from, owner_of, tokens_held, waits_for, without}
use Rattle.token_sem.proofs.Keeping.{Among, among-find, among-least, among-next, rises-without}
use Rattle.token_sem.proofs.Least.{Stands}
use Rattle.token_sem.proofs.Losing.{among-filter, among-map, among-unique, hung-other, rises-filter}
use Rattle.pool_sem.specs.Pools as pool
use Rattle.pool_sem.specs.declared.outcome.PoolOutcome.{PoolOutcome}
use Rattle.pool_sem.specs.declared.outcome.PoolOutcome.TheVariants as pooled
use Rattle.pool_sem.proofs.Freeing as pool-free
use Rattle.mms_time.specs.Loss.{semaphore_without}
use Rattle.mms_time.specs.Semaphores.{IsSound, entries_in}
use Rattle.mms_time.specs.Services.{ask_of, place_asked, with_take, with_token_back, without_entry}
use Rattle.mms_time.specs.declared.row.Semaphore.{Semaphore}
use Rattle.mms_time.specs.declared.row.Semaphore.TheVariants.{Token, Pool}
use Rattle.cell_laws.specs.Freed.{held_in, named_in}
use Rattle.cell_laws.specs.Lost.{hung, preempted_in}
use Rattle.cell_laws.proofs.Bound.{nat-same, nat-test, of-both}
use Rattle.cell_laws.proofs.Entries.{IsFreeing, Leaving, freed_by, freeing, kept_by, leaving, of_equal, of_named, one_gone, rises-hung, stands-among}

-- ---- lists

differ : (a b : ℕ) → (a ≡ b → ⊥) → (a == b) ≡ false
differ a b apart = by_test (a == b) refl
  where
    by_test : (t : Bool) → (a == b) ≡ t → t ≡ false
    by_test true h = absurd (apart (nat-same a b h))
    by_test false h = refl

among-push : (es : List SemEntry) (c e : SemEntry) → Among es c → Among (es ++ e ∷ []) c
among-push [] c e a = absurd a
among-push (x ∷ es) c e (inl same) = inl same
among-push (x ∷ es) c e (inr a) = inr (among-push es c e a)

among-last : (es : List SemEntry) (e : SemEntry) → Among (es ++ e ∷ []) e
among-last [] e = inl refl
among-last (x ∷ es) e = inr (among-last es e)

among-mapped : (f : SemEntry → SemEntry) (es : List SemEntry) (c : SemEntry) → Among es c → Among (map f es) (f c)
among-mapped f [] c a = absurd a
among-mapped f (x ∷ es) c (inl same) = inl (ap f same)
among-mapped f (x ∷ es) c (inr a) = inr (among-mapped f es c a)

pub without-stays : (n : ℕ) (es : List SemEntry) (c : SemEntry) → Among es c → (c.number ≡ n → ⊥) → Among (without n es) c
without-stays n es c a apart = among-filter (λ e. not (e.number == n)) es c a (ap not (differ c.number n apart))

-- ---- a token is freed that another has

module _ (made : ℕ) (now : Moment) (es : List SemEntry) (c : SemEntry) (rises : Rises 0 es made) (a : Among es c) (holds : is_queued c ≡ false) where
  -- who gets it waits
  other : (m : SemEntry) → Among es m → is_queued m ≡ true → (c.number == m.number) ≡ false
  other m among queued =
      differ c.number m.number (λ same. let is = among-unique 0 made es c m rises a among same in cc (sym holds ∙ ap is_queued is ∙ queued))

  freed-stays : Among (after_freeing now es) c
  freed-stays = by_next (next es) refl
    where
      by_next : (o : Option SemEntry) → next es ≡ o → Among (granted_to o now es) c
      by_next None e = a
      by_next (Some m) e =
          let first = among-next es m e in
          among-map (granted_entry m.number now) es c a (ap (λ b. cond b (owner_from now c) c) (other m first.0 first.1))

  named-stays : (token : Option ℕ) → Among (pool.after_freeing_of token now es) c
  named-stays None = a
  named-stays (Some t) = by_next (pool.next t es) refl
    where
      by_next : (o : Option SemEntry) → pool.next t es ≡ o → Among (pool.granted_to o t now es) c
      by_next None e = a
      by_next (Some m) e =
          let first = among-least before (pool.wants t) es m e in
          among-map (pool.granted_entry m.number t now) es c a (ap (λ b. cond b (pool.owner_from t now c) c) (other m first.0 (pool-free.wants-queued t m first.1)))

-- another entry goes, which had a token
pub record IsSparing (v : Leaving) : Type 0 where
  pub spares : (made : ℕ) (now : Moment) (o : SemEntry) (es : List SemEntry) (c : SemEntry) → Rises 0 es made → Among es c → is_queued c ≡ false → (c.number ≡ o.number → ⊥)
      → Among (v.entries now o es) c

pub sparing : (s : Semaphore) → IsSparing (leaving s)
sparing (Token s) = record {
  spares = λ made now o es c rises a holds apart.
      freed-stays made now (without o.number es) c (rises-without 0 made o.number es rises) (without-stays o.number es c a apart) holds;
}
sparing (Pool p) = record {
  spares = λ made now o es c rises a holds apart.
      named-stays made now (without o.number es) c (rises-without 0 made o.number es rises) (without-stays o.number es c a apart) holds o.token;
}

-- ---- the owners of a client are lost

module _ (v : Leaving) (is : IsFreeing v) (sp : IsSparing v) (made : ℕ) (now : Moment) (c : SemEntry) (holds : is_queued c ≡ false) where
  -- those of them that have its number are kept
  abbrev AreKept : List SemEntry → Type 0
  AreKept os = (o : SemEntry) → Stands os o → o.number ≡ c.number → o.keep ≡ true

  rises-one : (o : SemEntry) (l : Loss) → Rises 0 l.entries made → Rises 0 (one_gone v now l o).entries made
  rises-one o l rises = by_keep o.keep
    where
      by_keep : (b : Bool) → Rises 0 (if b then kept_by o l else freed_by v now o l).entries made
      by_keep true = rises-hung 0 made o.number l.entries rises
      by_keep false = is.rises made now l.entries o rises

  -- one that isn't kept is another
  apart : (o : SemEntry) (os : List SemEntry) → AreKept (o ∷ os) → o.keep ≡ false → c.number ≡ o.number → ⊥
  apart o os kept freed same = cc (sym freed ∙ kept o (inl refl) (sym same))

  -- it is hung already
  hung-stays : (os : List SemEntry) (l : Loss) → Rises 0 l.entries made → AreKept os → Among l.entries (hung c) → Among (fold (one_gone v now) l os).entries (hung c)
  hung-stays [] l rises kept a = a
  hung-stays (o ∷ os) l rises kept a =
      hung-stays os (one_gone v now l o) (rises-one o l rises) (λ p s. kept p (inr s)) (by_keep o.keep refl)
    where
      again : (b : Bool) → cond b (hung (hung c)) (hung c) ≡ hung c
      again true = refl
      again false = refl

      by_keep : (b : Bool) → o.keep ≡ b → Among (if b then kept_by o l else freed_by v now o l).entries (hung c)
      by_keep true k = among-map (hung_entry o.number) l.entries (hung c) a (again (c.number == o.number))
      by_keep false k = sp.spares made now o l.entries (hung c) rises a refl (apart o os kept k)

  -- it stays, or is one of them and becomes hung
  abbrev Becomes : List SemEntry → List SemEntry → Type 0
  Becomes os new = Among new c ⊎ (Among new (hung c) × ((o : SemEntry) × Stands os o × (o.number ≡ c.number)))

  loss-stays : (os : List SemEntry) (l : Loss) → Rises 0 l.entries made → AreKept os → Among l.entries c → Becomes os (fold (one_gone v now) l os).entries
  loss-stays [] l rises kept a = inl a
  loss-stays (o ∷ os) l rises kept a = by_keep o.keep refl (λ k. loss-stays os (one_gone v now l o) (rises-one o l rises) (λ p s. kept p (inr s)) k)
    where
      later : Becomes os (fold (one_gone v now) (one_gone v now l o) os).entries → Becomes (o ∷ os) (fold (one_gone v now) (one_gone v now l o) os).entries
      later (inl h) = inl h
      later (inr h) = inr (h.0, (h.1.0, inr h.1.1, h.1.2))

      stays : Among (one_gone v now l o).entries c → (Among (one_gone v now l o).entries c → Becomes os (fold (one_gone v now) (one_gone v now l o) os).entries)
          → Becomes (o ∷ os) (fold (one_gone v now) (one_gone v now l o) os).entries
      stays h rest = later (rest h)

      one_is : (b : Bool) → o.keep ≡ b → one_gone v now l o ≡ (if b then kept_by o l else freed_by v now o l)
      one_is b k = ap (λ t. if t then kept_by o l else freed_by v now o l) k

      by_number : (t : Bool) → (c.number == o.number) ≡ t → o.keep ≡ true → (Among (one_gone v now l o).entries c → Becomes os (fold (one_gone v now) (one_gone v now l o) os).entries)
          → Becomes (o ∷ os) (fold (one_gone v now) (one_gone v now l o) os).entries
      by_number true t k rest =
          let here : Among (kept_by o l).entries (hung c) =
          subst (Among (map (hung_entry o.number) l.entries)) (ap (λ b. cond b (hung c) c) t) (among-mapped (hung_entry o.number) l.entries c a) in
          let now_hung : Among (one_gone v now l o).entries (hung c) = subst (λ (x : Loss). Among x.entries (hung c)) (sym (one_is true k)) here in
          inr (
            hung-stays os (one_gone v now l o) (rises-one o l rises) (λ p s. kept p (inr s)) now_hung,
            (o, inl refl, sym (nat-same c.number o.number t)),
          )
      by_number false t k rest =
          stays (subst (λ (x : Loss). Among x.entries c) (sym (one_is true k)) (among-map (hung_entry o.number) l.entries c a (hung-other o.number c t))) rest

      by_keep : (b : Bool) → o.keep ≡ b → (Among (one_gone v now l o).entries c → Becomes os (fold (one_gone v now) (one_gone v now l o) os).entries)
          → Becomes (o ∷ os) (fold (one_gone v now) (one_gone v now l o) os).entries
      by_keep true k rest = by_number (c.number == o.number) refl k rest
      by_keep false k rest =
          stays (subst (λ (x : Loss). Among x.entries c) (sym (one_is false k)) (sp.spares made now o l.entries c rises a holds (apart o os kept k))) rest

-- in one semaphore, where it is kept if it is one of them
abbrev pub LostIn : ℕ → SemEntry → List SemEntry → Type 0
LostIn client c new = Among new c ⊎ (Among new (hung c) × (owned_by client c ≡ true))

owners-stay : (v : Leaving) → IsFreeing v → IsSparing v → (made client : ℕ) (now : Moment) (es : List SemEntry) (c : SemEntry) → Rises 0 es made → Among es c → is_queued c ≡ false
    → (owned_by client c ≡ true → c.keep ≡ true)
    → LostIn client c (fold (one_gone v now) (record { entries = filter (λ e. not (waits_for client e)) es; grants = [] }) (filter (owned_by client) es)).entries
owners-stay v is sp made client now es c rises a holds keeps =
    turned _
    (loss-stays v is sp made now c holds (filter (owned_by client) es) (record { entries = filter (λ e. not (waits_for client e)) es; grants = [] })
    (rises-filter (λ e. not (waits_for client e)) 0 made es rises) kept (among-filter (λ e. not (waits_for client e)) es c a (unwaiting (c.client == client) (is_queued c) holds)))
  where
    unwaiting : (s t : Bool) → t ≡ false → not (s && t) ≡ true
    unwaiting true true h = absurd (cc h)
    unwaiting true false h = refl
    unwaiting false t h = refl

    -- an owner of its number is it
    it : (o : SemEntry) → Stands (filter (owned_by client) es) o → o.number ≡ c.number → (o ≡ c) × (owned_by client c ≡ true)
    it o s same =
        let found = stands-among (owned_by client) es o s in
        let is_it = among-unique 0 made es o c rises found.0 a same in
        (is_it, ap (owned_by client) (sym is_it) ∙ found.1)

    kept : (o : SemEntry) → Stands (filter (owned_by client) es) o → o.number ≡ c.number → o.keep ≡ true
    kept o s same = let found = it o s same in ap (λ (e : SemEntry). e.keep) found.0 ∙ keeps found.1

    turned : (new : List SemEntry) → Among new c ⊎ (Among new (hung c) × ((o : SemEntry) × Stands (filter (owned_by client) es) o × (o.number ≡ c.number))) → LostIn client c new
    turned new (inl h) = inl h
    turned new (inr h) = inr (h.0, (it h.1.0 h.1.1 h.1.2).1)

pub client-stays : (client : ℕ) (now : Moment) (s : Semaphore) (c : SemEntry) → IsSound s → Among (entries_in s) c → is_queued c ≡ false → (owned_by client c ≡ true → c.keep ≡ true)
    → LostIn client c (entries_in (semaphore_without client now s))
client-stays client now (Token s) c is a holds keeps = owners-stay of_equal (freeing (Token s)) (sparing (Token s)) s.made client now s.entries c is.rises a holds keeps
client-stays client now (Pool p) c is a holds keeps = owners-stay of_named (freeing (Pool p)) (sparing (Pool p)) p.made client now p.entries c is.rises a holds keeps

-- ---- a token is given back

-- the owner entry that goes
pub record GivenUp (s : Semaphore) (client : ℕ) (token : Option (List ℕ)) (c : SemEntry) : Type 0 where
  pub owned : owned_by client c ≡ true
  pub which : named_in token s ≡ held_in c s

names-same : (a b : Option ℕ) → pool.names a b ≡ true → a ≡ b
names-same None b h = absurd (cc h)
names-same (Some x) None h = absurd (cc h)
names-same (Some x) (Some y) h = ap Some (pool-free.same-token x y h)

pub back-stays : (client : ℕ) (token : Option (List ℕ)) (now : Moment) (s : Semaphore) (c : SemEntry) → IsSound s → Among (entries_in s) c → is_queued c ≡ false
    → Among (entries_in (with_token_back client token now s)) c ⊎ GivenUp s client token c
back-stays client token now (Token s) c is a holds = by_owner (owner_of client s.entries) refl
  where
    by_owner : (o : Option SemEntry) → owner_of client s.entries ≡ o → Among (after_giving_back o now s).entries c ⊎ GivenUp (Token s) client token c
    by_owner None e = inl a
    by_owner (Some o) e = by_number (c.number == o.number) refl
      where
        at : Among s.entries o × (owned_by client o ≡ true)
        at = among-find (owned_by client) s.entries o e

        by_number : (t : Bool) → (c.number == o.number) ≡ t → Among (after_freeing now (without o.number s.entries)) c ⊎ GivenUp (Token s) client token c
        by_number true t =
            let same = among-unique 0 s.made s.entries c o is.rises a at.0 (nat-same c.number o.number t) in
            inr (record { owned = ap (owned_by client) same ∙ at.1; which = refl })
        by_number false t = inl ((sparing (Token s)).spares s.made now o s.entries c is.rises a holds (λ same. cc (sym t ∙ nat-test c.number o.number same)))
back-stays client token now (Pool p) c is a holds = by_owner (pool.owner_of client (place_asked token p.tokens) p.entries) refl
  where
    by_owner : (o : Option SemEntry) → pool.owner_of client (place_asked token p.tokens) p.entries ≡ o → Among (pool.after_giving_back o now p).entries c ⊎ GivenUp (Pool p) client token c
    by_owner None e = inl a
    by_owner (Some o) e = by_number (c.number == o.number) refl
      where
        at : Among p.entries o × ((owned_by client o && pool.names (place_asked token p.tokens) o.token) ≡ true)
        at = among-find (λ x. owned_by client x && pool.names (place_asked token p.tokens) x.token) p.entries o e

        by_number : (t : Bool) → (c.number == o.number) ≡ t → Among (pool.after_leaving o now p.entries) c ⊎ GivenUp (Pool p) client token c
        by_number true t =
            let same = among-unique 0 p.made p.entries c o is.rises a at.0 (nat-same c.number o.number t) in
            let tests = of-both (owned_by client o) (pool.names (place_asked token p.tokens) o.token) at.1 in
            inr (record {
              owned = ap (owned_by client) same ∙ tests.0;
              which = names-same (place_asked token p.tokens) o.token tests.1 ∙ ap (λ (e : SemEntry). e.token) (sym same);
            })
        by_number false t = inl ((sparing (Pool p)).spares p.made now o p.entries c is.rises a holds (λ same. cc (sym t ∙ nat-test c.number o.number same)))

-- ---- a token is taken

-- by an entry of that client, of a hung one
pub record TakenFrom (old new : Semaphore) (client : ℕ) (preempt : Option ℕ) (first : Option SemEntry) (c : SemEntry) : Type 0 where
  pub preempts : preempt ≡ Some c.client
  pub lost : is_hung c ≡ true
  pub first_is : first ≡ Some c
  pub taker : SemEntry
  pub there : Among (entries_in new) taker
  pub its : taker.client ≡ client
  pub owns : is_owner taker ≡ true
  pub has : held_in taker new ≡ held_in c old

-- what the hung entry is that is preempted
record HungOf (preempt : Option ℕ) (es : List SemEntry) (h : SemEntry) : Type 0 where
  among : Among es h
  preempts : preempt ≡ Some h.client
  lost : is_hung h ≡ true

equal-hung : (preempt : Option ℕ) (es : List SemEntry) (h : SemEntry) → hung_to_preempt preempt es ≡ Some h → HungOf preempt es h
equal-hung None es h e = absurd (cc e)
equal-hung (Some client) es h e =
    let at = among-find (λ x. x.client == client && is_hung x) es h e in
    let tests = of-both (h.client == client) (is_hung h) at.1 in
    record { among = at.0; preempts = ap Some (sym (nat-same h.client client tests.0)); lost = tests.1 }

named-hung : (preempt asked : Option ℕ) (es : List SemEntry) (h : SemEntry) → pool.hung_to_preempt preempt asked es ≡ Some h → HungOf preempt es h
named-hung None asked es h e = absurd (cc e)
named-hung (Some client) asked es h e =
    let at = among-least pool.lower (pool.is_hung_of client asked) es h e in
    let tests = three (h.client == client) (is_hung h) (pool.suits asked h.token) at.1 in
    record { among = at.0; preempts = ap Some (sym (nat-same h.client client tests.0)); lost = tests.1 }
  where
    three : (a b d : Bool) → a && b && d ≡ true → (a ≡ true) × (b ≡ true)
    three true true d h = (refl, refl)
    three true false d h = absurd (cc h)
    three false b d h = absurd (cc h)

abbrev EqualThen : Sem → Ask → Moment → SemEntry → TakeOutcome → Type 0
EqualThen s ask now c o = Among (effect_of o s ask now).entries c ⊎ TakenFrom (Token s) (Token (effect_of o s ask now)) ask.client ask.preempt (hung_to_preempt ask.preempt s.entries) c

equal-takes : (s : Sem) (ask : Ask) (now : Moment) (c : SemEntry) → Rises 0 s.entries s.made → Among s.entries c
    → Among (effect_of (outcome s ask now) s ask now).entries c ⊎ TakenFrom (Token s) (Token (effect_of (outcome s ask now) s ask now)) ask.client ask.preempt (hung_to_preempt ask.preempt s.entries) c
equal-takes s ask now c rises a = by_claim (has_claim ask.client s.entries)
  where
    preempted : (h : SemEntry) → hung_to_preempt ask.preempt s.entries ≡ Some h → HungOf ask.preempt s.entries h → (t : Bool) → (c.number == h.number) ≡ t → EqualThen s ask now c (Preempts h.number)
    preempted h e is true t =
        let same = among-unique 0 s.made s.entries c h rises a is.among (nat-same c.number h.number t) in
        inr (record {
          preempts = is.preempts ∙ ap (λ (e : SemEntry). Some e.client) (sym same);
          lost = ap is_hung same ∙ is.lost;
          first_is = e ∙ ap (λ (x : SemEntry). Some x) (sym same);
          taker = entry_of (s.made + 1) ask Owner (deadline_after now ask.control);
          there = among-last (without h.number s.entries) (entry_of (s.made + 1) ask Owner (deadline_after now ask.control));
          its = refl;
          owns = refl;
          has = refl;
        })
    preempted h e is false t =
        inl (among-push (without h.number s.entries) c _ (without-stays h.number s.entries c a (λ same. cc (sym t ∙ nat-test c.number h.number same))))

    by_zero : (ms : ℕ) (b : Bool) → EqualThen s ask now c (if b then TimesOut else WaitsUntil (after now ms))
    by_zero ms true = inl a
    by_zero ms false = inl (among-push s.entries c _ a)

    by_delay : (o : Option ℕ) → EqualThen s ask now c (outcome_later o now)
    by_delay None = inl (among-push s.entries c _ a)
    by_delay (Some ms) = by_zero ms (ms == 0)

    by_free : (b : Bool) → EqualThen s ask now c (if b then Gets else outcome_later ask.delay now)
    by_free true = inl (among-push s.entries c _ a)
    by_free false = by_delay ask.delay

    by_hung : (o : Option SemEntry) → hung_to_preempt ask.preempt s.entries ≡ o → EqualThen s ask now c (outcome_now o s ask.delay now)
    by_hung None e = by_free (Rattle.std.specs.Prelude.nat_lt (tokens_held s.entries) s.tokens)
    by_hung (Some h) e = preempted h e (equal-hung ask.preempt s.entries h e) (c.number == h.number) refl

    by_claim : (b : Bool) → EqualThen s ask now c (if b then Refused else outcome_now (hung_to_preempt ask.preempt s.entries) s ask.delay now)
    by_claim true = inl a
    by_claim false = by_hung (hung_to_preempt ask.preempt s.entries) refl

abbrev NamedThen : pool.Pool → Ask → Moment → SemEntry → PoolOutcome → Type 0
NamedThen p ask now c o = Among (pool.effect_of o p ask now).entries c ⊎ TakenFrom (Pool p) (Pool (pool.effect_of o p ask now)) ask.client ask.preempt (pool.hung_to_preempt ask.preempt ask.token p.entries) c

named-takes : (p : pool.Pool) (ask : Ask) (now : Moment) (c : SemEntry) → Rises 0 p.entries p.made → Among p.entries c
    → Among (pool.effect_of (pool.outcome p ask now) p ask now).entries c ⊎ TakenFrom (Pool p) (Pool (pool.effect_of (pool.outcome p ask now) p ask now)) ask.client ask.preempt (pool.hung_to_preempt ask.preempt ask.token p.entries) c
named-takes p ask now c rises a = by_claim (pool.has_claim ask.client ask.token p.entries)
  where
    preempted : (h : SemEntry) → pool.hung_to_preempt ask.preempt ask.token p.entries ≡ Some h → HungOf ask.preempt p.entries h → (t : Bool) → (c.number == h.number) ≡ t → NamedThen p ask now c (pooled.Preempts h.number h.token)
    preempted h e is true t =
        let same = among-unique 0 p.made p.entries c h rises a is.among (nat-same c.number h.number t) in
        inr (record {
          preempts = is.preempts ∙ ap (λ (e : SemEntry). Some e.client) (sym same);
          lost = ap is_hung same ∙ is.lost;
          first_is = e ∙ ap (λ (x : SemEntry). Some x) (sym same);
          taker = pool.owner_entry (p.made + 1) ask h.token now;
          there = among-last (without h.number p.entries) (pool.owner_entry (p.made + 1) ask h.token now);
          its = refl;
          owns = refl;
          has = ap (λ (e : SemEntry). e.token) (sym same);
        })
    preempted h e is false t =
        inl (among-push (without h.number p.entries) c _ (without-stays h.number p.entries c a (λ same. cc (sym t ∙ nat-test c.number h.number same))))

    by_zero : (ms : ℕ) (b : Bool) → NamedThen p ask now c (if b then pooled.TimesOut else pooled.WaitsUntil (after now ms))
    by_zero ms true = inl a
    by_zero ms false = inl (among-push p.entries c _ a)

    by_delay : (o : Option ℕ) → NamedThen p ask now c (pool.outcome_later o now)
    by_delay None = inl (among-push p.entries c _ a)
    by_delay (Some ms) = by_zero ms (ms == 0)

    by_free : (o : Option ℕ) → NamedThen p ask now c (pool.outcome_free o ask.delay now)
    by_free (Some token) = inl (among-push p.entries c _ a)
    by_free None = by_delay ask.delay

    by_hung : (o : Option SemEntry) → pool.hung_to_preempt ask.preempt ask.token p.entries ≡ o → NamedThen p ask now c (pool.outcome_now o p ask now)
    by_hung None e = by_free (pool.free_token ask.token (Rattle.std.specs.Prelude.length p.tokens) p.entries)
    by_hung (Some h) e = preempted h e (named-hung ask.preempt ask.token p.entries h e) (c.number == h.number) refl

    by_claim : (b : Bool) → NamedThen p ask now c (if b then pooled.Refused else pool.outcome_now (pool.hung_to_preempt ask.preempt ask.token p.entries) p ask now)
    by_claim true = inl a
    by_claim false = by_hung (pool.hung_to_preempt ask.preempt ask.token p.entries) refl

pub take-stays : (client invoke : ℕ) (asked : TakeControl) (now : Moment) (s : Semaphore) (c : SemEntry) → IsSound s → Among (entries_in s) c
    → Among (entries_in (with_take client invoke asked now s)) c ⊎ TakenFrom s (with_take client invoke asked now s) client asked.preempt (preempted_in asked s) c
take-stays client invoke asked now (Token s) c is a = equal-takes s (ask_of client invoke None asked) now c is.rises a
take-stays client invoke asked now (Pool p) c is a = named-takes p (ask_of client invoke (place_asked asked.token p.tokens) asked) now c is.rises a

-- ---- another waits no more, or its deadline is met

pub cancel-stays : (number : ℕ) (s : Semaphore) (c : SemEntry) → Among (entries_in s) c → (c.number ≡ number → ⊥) → Among (entries_in (without_entry number s)) c
cancel-stays number (Token s) c a apart = without-stays number s.entries c a apart
cancel-stays number (Pool p) c a apart = without-stays number p.entries c a apart
