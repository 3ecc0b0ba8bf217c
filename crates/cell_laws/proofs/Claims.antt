-- A client has one claim at most on a semaphore of equal tokens: it waits once, or owns one token. A hung entry is no
-- claim.
use Rattle.std.proofs.Common.{◌≡◌, ℕ, ◌+◌, inl, inr, Bool, true, false, not, cond, ◌==◌, ◌&&◌, ◌||◌, List, [], ◌∷◌, ◌++◌, map, filter, fold, Option, None, Some, option_map, option_to_list, if◌then◌else◌, refl, sym, ◌∙◌, ap, subst}
use Rattle.mms_types.specs.declared.moment.Moment.{Moment}
use Rattle.token_sem.specs.declared.entry.Ask.{Ask}
use Rattle.token_sem.specs.declared.entry.TakeOutcome.{TakeOutcome}
use Rattle.token_sem.specs.declared.entry.TakeOutcome.TheVariants.{Refused, Preempts, Gets, TimesOut, WaitsUntil, WaitsForEver}
use Rattle.token_sem.specs.declared.entry.SemEntry.{SemEntry}
use Rattle.token_sem.specs.declared.entry.SemState.{SemState}
use Rattle.token_sem.specs.declared.entry.SemState.TheVariants.{Queued, Owner, Hung}
use Rattle.token_sem.specs.Semaphore.{IsSem, Loss, Rises, Sem, after_cancel, after_freeing, after_giving_back, after_lose, after_take, deadline_after, effect_of, entry_of, expired_entry, granted_entry, granted_to, grant_of, has_claim, hung_entry, hung_to_preempt, is_hung, is_hung_state, is_owner, is_owner_state, is_queued, is_queued_state, loss_of, loss_of_one, next, outcome_now, owned_by, owner_from, waits_for, without}
use Rattle.token_sem.proofs.Keeping.{Among, among-next, rises-without}
use Rattle.token_sem.proofs.Losing.{among-unique, rises-filter}
use Rattle.cell_laws.proofs.Bound.{both-true, nat-same, nat-test, of-both}
use Rattle.cell_laws.proofs.Entries.{rises-freed, rises-hung}

-- it claims a token
abbrev pub claims : ℕ → SemEntry → Bool
claims c e = e.client == c && not (is_hung e)

-- who has a claim by an entry has none by a later one
abbrev pub Single : List SemEntry → Type 0
Single [] = Unit {0}
Single (e ∷ es) = (is_hung e ≡ false → has_claim e.client es ≡ false) × Single es

neither : (a b : Bool) → a || b ≡ false → (a ≡ false) × (b ≡ false)
neither true b h = absurd (cc h)
neither false b h = (refl, h)

-- ---- some go

claim-filter : (p : SemEntry → Bool) (es : List SemEntry) (c : ℕ) → has_claim c es ≡ false → has_claim c (filter p es) ≡ false
claim-filter p [] c none = refl
claim-filter p (e ∷ es) c none = by_test (p e) (claim-filter p es c (neither (claims c e) (has_claim c es) none).1)
  where
    by_test : (b : Bool) → has_claim c (filter p es) ≡ false → has_claim c (cond b (e ∷ filter p es) (filter p es)) ≡ false
    by_test true ih = ap (λ t. t || has_claim c (filter p es)) (neither (claims c e) (has_claim c es) none).0 ∙ ih
    by_test false ih = ih

pub single-filter : (p : SemEntry → Bool) (es : List SemEntry) → Single es → Single (filter p es)
single-filter p [] single = tt
single-filter p (e ∷ es) single = by_test (p e) (single-filter p es single.1)
  where
    by_test : (b : Bool) → Single (filter p es) → Single (cond b (e ∷ filter p es) (filter p es))
    by_test true rest = (λ h. claim-filter p es e.client (single.0 h), rest)
    by_test false rest = rest

-- ---- some become owners, or hung

-- of the same client, and hung where it was
pub record Same (e f : SemEntry) : Type 0 where
  pub client : f.client ≡ e.client
  pub hung : is_hung f ≡ false → is_hung e ≡ false

claims-same : (c : ℕ) (e f : SemEntry) → Same e f → claims c e ≡ false → claims c f ≡ false
claims-same c e f same none = by_tests (f.client == c) (is_hung f) refl refl
  where
    by_tests : (a b : Bool) → (f.client == c) ≡ a → is_hung f ≡ b → a && not b ≡ false
    by_tests true true ea eb = refl
    by_tests false b ea eb = refl
    by_tests true false ea eb =
        let here : (e.client == c) ≡ true = ap (λ (k : ℕ). k == c) (sym same.client) ∙ ea in
        absurd (cc (sym none ∙ both-true (e.client == c) (not (is_hung e)) here (ap not (same.hung eb))))

claim-map : (f : SemEntry → SemEntry) (es : List SemEntry) → ((e : SemEntry) → Among es e → Same e (f e)) → (c : ℕ) → has_claim c es ≡ false → has_claim c (map f es) ≡ false
claim-map f [] same c none = refl
claim-map f (e ∷ es) same c none =
    let both = neither (claims c e) (has_claim c es) none in
    ap (λ t. t || has_claim c (map f es)) (claims-same c e (f e) (same e (inl refl)) both.0) ∙ claim-map f es (λ x a. same x (inr a)) c both.1

pub single-map : (f : SemEntry → SemEntry) (es : List SemEntry) → ((e : SemEntry) → Among es e → Same e (f e)) → Single es → Single (map f es)
single-map f [] same single = tt
single-map f (e ∷ es) same single = (
  λ h.
      let is = same e (inl refl) in
      ap (λ (c : ℕ). has_claim c (map f es)) is.client ∙ claim-map f es (λ x a. same x (inr a)) e.client (single.0 (is.hung h)),
  single-map f es (λ x a. same x (inr a)) single.1,
)

pub single-hung : (n : ℕ) (es : List SemEntry) → Single es → Single (map (hung_entry n) es)
single-hung n es single = single-map (hung_entry n) es (λ e a. one e (e.number == n)) single
  where
    one : (e : SemEntry) (b : Bool) → Same e (cond b (record e { state = Hung }) e)
    one e true = record { client = refl; hung = λ h. absurd (cc h) }
    one e false = record { client = refl; hung = λ h. h }

queued-not_hung : (e : SemEntry) → is_queued e ≡ true → is_hung e ≡ false
queued-not_hung e h = by_state e.state h
  where
    by_state : (s : SemState) → is_queued_state s ≡ true → is_hung_state s ≡ false
    by_state Queued g = refl
    by_state Owner g = refl
    by_state Hung g = absurd (cc g)

pub single-freed : (made : ℕ) (now : Moment) (es : List SemEntry) → Rises 0 es made → Single es → Single (after_freeing now es)
single-freed made now es rises single = by_next (next es) refl
  where
    by_next : (o : Option SemEntry) → next es ≡ o → Single (granted_to o now es)
    by_next None none = single
    by_next (Some m) first = single-map (granted_entry m.number now) es (λ e a. one e a (e.number == m.number) refl) single
      where
        one : (e : SemEntry) → Among es e → (b : Bool) → (e.number == m.number) ≡ b → Same e (cond b (owner_from now e) e)
        one e a true t =
            let is = among-next es m first in
            let same : e ≡ m = among-unique 0 made es e m rises a is.0 (nat-same e.number m.number t) in
            record { client = refl; hung = λ h. queued-not_hung e (ap is_queued same ∙ is.1) }
        one e a false t = record { client = refl; hung = λ h. h }

-- ---- one more

claim-push : (c : ℕ) (es : List SemEntry) (e : SemEntry) → has_claim c es ≡ false → claims c e ≡ false → has_claim c (es ++ e ∷ []) ≡ false
claim-push c [] e none last = ap (λ t. t || false) last
claim-push c (x ∷ es) e none last =
    let both = neither (claims c x) (has_claim c es) none in
    ap (λ t. t || has_claim c (es ++ e ∷ [])) both.0 ∙ claim-push c es e both.1 last

pub single-push : (es : List SemEntry) (e : SemEntry) → has_claim e.client es ≡ false → Single es → Single (es ++ e ∷ [])
single-push [] e none single = (λ h. refl, tt)
single-push (x ∷ es) e none single = (
  λ h. claim-push x.client es e (single.0 h) (other h (e.client == x.client) refl),
  single-push es e (neither (claims e.client x) (has_claim e.client es) none).1 single.1,
)
  where
    other : is_hung x ≡ false → (b : Bool) → (e.client == x.client) ≡ b → claims x.client e ≡ false
    other h true t =
        let back : (x.client == e.client) ≡ true = nat-test x.client e.client (sym (nat-same e.client x.client t)) in
        absurd (cc (sym (neither (claims e.client x) (has_claim e.client es) none).0 ∙ both-true (x.client == e.client) (not (is_hung x)) back (ap not h)))
    other h false t = ap (λ (b : Bool). b && not (is_hung e)) t

-- ---- what is done to a semaphore

pub single-taken : (s : Sem) (ask : Ask) (now : Moment) → Single s.entries → Single (after_take s ask now).entries
single-taken s ask now single = by_claim (has_claim ask.client s.entries) refl
  where
    by_outcome : (o : TakeOutcome) → has_claim ask.client s.entries ≡ false → Single (effect_of o s ask now).entries
    by_outcome Refused none = single
    by_outcome (Preempts number) none =
        single-push (without number s.entries) (entry_of (s.made + 1) ask Owner (deadline_after now ask.control))
        (claim-filter (λ e. not (e.number == number)) s.entries ask.client none) (single-filter (λ e. not (e.number == number)) s.entries single)
    by_outcome Gets none = single-push s.entries (entry_of (s.made + 1) ask Owner (deadline_after now ask.control)) none single
    by_outcome TimesOut none = single
    by_outcome (WaitsUntil deadline) none = single-push s.entries (entry_of (s.made + 1) ask Queued (Some deadline)) none single
    by_outcome WaitsForEver none = single-push s.entries (entry_of (s.made + 1) ask Queued None) none single

    by_claim : (b : Bool) → has_claim ask.client s.entries ≡ b
        → Single (effect_of (if b then Refused else outcome_now (hung_to_preempt ask.preempt s.entries) s ask.delay now) s ask now).entries
    by_claim true h = single
    by_claim false h = by_outcome (outcome_now (hung_to_preempt ask.preempt s.entries) s ask.delay now) h

pub single-gone : (s : Sem) (number : ℕ) (now : Moment) → IsSem s → Single s.entries → Single (after_freeing now (without number s.entries))
single-gone s number now is single =
    single-freed s.made now (without number s.entries) (rises-without 0 s.made number s.entries is.rises) (single-filter (λ e. not (e.number == number)) s.entries single)

pub single-given : (s : Sem) (o : Option SemEntry) (now : Moment) → IsSem s → Single s.entries → Single (after_giving_back o now s).entries
single-given s None now is single = single
single-given s (Some owner) now is single = single-gone s owner.number now is single

pub single-expired : (s : Sem) (o : Option SemEntry) (now : Moment) → IsSem s → Single s.entries → Single (expired_entry o now s).entries
single-expired s None now is single = single
single-expired s (Some e) now is single = by_test (is_queued e)
  where
    by_test : (b : Bool) → Single (if b then after_cancel s e.number else record s { entries = after_freeing now (without e.number s.entries) }).entries
    by_test true = single-filter (λ x. not (x.number == e.number)) s.entries single
    by_test false = single-gone s e.number now is single

single-losing : (made : ℕ) (now : Moment) (os : List SemEntry) (l : Loss) → Rises 0 l.entries made → Single l.entries → Single (fold (loss_of_one now) l os).entries
single-losing made now [] l rises single = single
single-losing made now (o ∷ os) l rises single = single-losing made now os (loss_of_one now l o) (by_keep o.keep).0 (by_keep o.keep).1
  where
    by_keep : (b : Bool) → Rises 0 (if b then record l { entries = map (hung_entry o.number) l.entries } else record { entries = after_freeing now (without o.number l.entries); grants = l.grants ++ option_to_list (option_map grant_of (next (without o.number l.entries))) }).entries made
        × Single (if b then record l { entries = map (hung_entry o.number) l.entries } else record { entries = after_freeing now (without o.number l.entries); grants = l.grants ++ option_to_list (option_map grant_of (next (without o.number l.entries))) }).entries
    by_keep true = (rises-hung 0 made o.number l.entries rises, single-hung o.number l.entries single)
    by_keep false = (
      rises-freed made now (without o.number l.entries) (rises-without 0 made o.number l.entries rises),
      single-freed made now (without o.number l.entries) (rises-without 0 made o.number l.entries rises) (single-filter (λ e. not (e.number == o.number)) l.entries single),
    )

pub single-lost : (s : Sem) (client : ℕ) (now : Moment) → IsSem s → Single s.entries → Single (after_lose s client now).entries
single-lost s client now is single =
    single-losing s.made now (filter (owned_by client) s.entries) (record { entries = filter (λ e. not (waits_for client e)) s.entries; grants = [] })
    (rises-filter (λ e. not (waits_for client e)) 0 s.made s.entries is.rises) (single-filter (λ e. not (waits_for client e)) s.entries single)

-- ---- a client that owns a token waits for none, and owns no other

owner-not_hung : (e : SemEntry) → is_owner e ≡ true → is_hung e ≡ false
owner-not_hung e h = by_state e.state h
  where
    by_state : (s : SemState) → is_owner_state s ≡ true → is_hung_state s ≡ false
    by_state Queued g = absurd (cc g)
    by_state Owner g = refl
    by_state Hung g = absurd (cc g)

has-claim : (c : ℕ) (es : List SemEntry) (o : SemEntry) → Among es o → claims c o ≡ true → has_claim c es ≡ true
has-claim c [] o a h = absurd a
has-claim c (e ∷ es) o (inl same) h = ap (λ t. t || has_claim c es) (ap (claims c) same ∙ h)
has-claim c (e ∷ es) o (inr a) h = by_test (claims c e) (has-claim c es o a h)
  where
    by_test : (b : Bool) → has_claim c es ≡ true → b || has_claim c es ≡ true
    by_test true ih = refl
    by_test false ih = ih

-- an entry that is no claim of a client doesn't wait for it, nor is it its owner
no-claim : (c : ℕ) (e : SemEntry) → claims c e ≡ false → (owned_by c e ≡ false) × (waits_for c e ≡ false)
no-claim c e none = by_tests (e.client == c) e.state none
  where
    by_tests : (b : Bool) (s : SemState) → b && not (is_hung_state s) ≡ false → (b && is_owner_state s ≡ false) × (b && is_queued_state s ≡ false)
    by_tests true Queued h = absurd (cc h)
    by_tests true Owner h = absurd (cc h)
    by_tests true Hung h = (refl, refl)
    by_tests false s h = (refl, refl)

-- what is lost of a client that has no claim, and of one that owns a token
pub record Only (client : ℕ) (es owners : List SemEntry) : Type 0 where
  pub owned : filter (owned_by client) es ≡ owners
  pub waits : filter (λ e. not (waits_for client e)) es ≡ es

only-more : (client : ℕ) (e : SemEntry) (es owners : List SemEntry) → claims client e ≡ false → Only client es owners → Only client (e ∷ es) owners
only-more client e es owners none only =
    let not_its = no-claim client e none in
    record {
      owned = ap (λ t. cond t (e ∷ filter (owned_by client) es) (filter (owned_by client) es)) not_its.0 ∙ only.owned;
      waits = ap (λ t. cond (not t) (e ∷ filter (λ x. not (waits_for client x)) es) (filter (λ x. not (waits_for client x)) es)) not_its.1
          ∙ ap (λ (l : List SemEntry). e ∷ l) only.waits;
    }

only-none : (client : ℕ) (es : List SemEntry) → has_claim client es ≡ false → Only client es []
only-none client [] none = record { owned = refl; waits = refl }
only-none client (e ∷ es) none =
    let both = neither (claims client e) (has_claim client es) none in
    only-more client e es [] both.0 (only-none client es both.1)

pub only-one : (client : ℕ) (es : List SemEntry) (o : SemEntry) → Single es → Among es o → o.client ≡ client → is_owner o ≡ true → Only client es (o ∷ [])
only-one client [] o single a its owner = absurd a
only-one client (e ∷ es) o single (inl same) its owner =
    subst (λ (x : SemEntry). Only client (x ∷ es) (o ∷ [])) (sym same) first
  where
    rest : Only client es []
    rest =
        only-none client es
        (ap (λ (c : ℕ). has_claim c es) (sym (ap (λ (x : SemEntry). x.client) same ∙ its)) ∙ single.0 (ap is_hung same ∙ owner-not_hung o owner))

    queued : is_queued o ≡ false
    queued = by_state o.state owner
      where
        by_state : (s : SemState) → is_owner_state s ≡ true → is_queued_state s ≡ false
        by_state Queued g = absurd (cc g)
        by_state Owner g = refl
        by_state Hung g = absurd (cc g)

    not_waits : waits_for client o ≡ false
    not_waits = by_test (o.client == client)
      where
        by_test : (b : Bool) → b && is_queued o ≡ false
        by_test true = queued
        by_test false = refl

    first : Only client (o ∷ es) (o ∷ [])
    first = record {
      owned =
          ap (λ t. cond t (o ∷ filter (owned_by client) es) (filter (owned_by client) es)) (both-true (o.client == client) (is_owner o) (nat-test o.client client its) owner)
          ∙ ap (λ (l : List SemEntry). o ∷ l) rest.owned;
      waits =
          ap (λ t. cond (not t) (o ∷ filter (λ x. not (waits_for client x)) es) (filter (λ x. not (waits_for client x)) es)) not_waits
          ∙ ap (λ (l : List SemEntry). o ∷ l) rest.waits;
    }
only-one client (e ∷ es) o single (inr a) its owner = only-more client e es (o ∷ []) (none (claims client e) refl) (only-one client es o single.1 a its owner)
  where
    mine : has_claim client es ≡ true
    mine = has-claim client es o a (both-true (o.client == client) (not (is_hung o)) (nat-test o.client client its) (ap not (owner-not_hung o owner)))

    none : (b : Bool) → claims client e ≡ b → claims client e ≡ false
    none false h = h
    none true h =
        let tests = of-both (e.client == client) (not (is_hung e)) h in
        absurd (cc (sym mine ∙ ap (λ (c : ℕ). has_claim c es) (sym (nat-same e.client client tests.0)) ∙ single.0 (unhung (is_hung e) tests.1)))
      where
        unhung : (b : Bool) → not b ≡ true → b ≡ false
        unhung true g = absurd (cc g)
        unhung false g = refl

-- its one token is freed, which it doesn't keep
pub lost-one : (s : Sem) (client : ℕ) (now : Moment) (o : SemEntry) → Single s.entries → Among s.entries o → o.client ≡ client → is_owner o ≡ true → o.keep ≡ false
    → loss_of client now s.entries ≡ record { entries = after_freeing now (without o.number s.entries); grants = option_to_list (option_map grant_of (next (without o.number s.entries))) }
lost-one s client now o single a its owner unkept =
    let only = only-one client s.entries o single a its owner in
    ap (λ (os : List SemEntry). fold (loss_of_one now) (record { entries = filter (λ e. not (waits_for client e)) s.entries; grants = [] }) os) only.owned
    ∙ ap (λ (es : List SemEntry). loss_of_one now (record { entries = es; grants = [] }) o) only.waits
    ∙ ap (λ b. cond b (record { entries = map (hung_entry o.number) s.entries; grants = [] })
    (record { entries = after_freeing now (without o.number s.entries); grants = option_to_list (option_map grant_of (next (without o.number s.entries))) })) unkept
