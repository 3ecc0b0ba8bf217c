-- Along the trial: as many PDUs are sent as events are heard, but for the requests that wait then.
use Rattle.std.proofs.Common.{◌≡◌, ℕ, zero, suc, ◌+◌, ◌≤◌, ◌==◌, Bool, true, false, cond, List, [], ◌∷◌, ◌++◌, fold, if◌then◌else◌, refl, sym, ◌∙◌, subst, arith, length}
use Rattle.std.specs.List.{AllByRecursion, count_by}
use Rattle.std.proofs.lemmas.List.Sums.{sum_by-cons}
use Rattle.mms_types.specs.Actors.{actor_of, clients_to}
use Rattle.mms_types.specs.declared.event.CellEvent.{CellEvent}
use Rattle.mms_types.specs.declared.event.CellEvent.TheVariants.{Heard, Lost, Tick, Ends, Drain}
use Rattle.cell_record.specs.History.{events_of}
use Rattle.step_parts.specs.State.{State}
use Rattle.step_parts.specs.Step.{step}
use Rattle.step_parts.proofs.PartsAfter.{step_sized}
use Rattle.cell_laws.proofs.Bound.{nat-same, nat-test}
use Rattle.stress_laws.proofs.Balance.{of_client, waits_of}
use Rattle.stress_laws.proofs.Goes.{Goes, asks_for, goes_drain, goes_proposal, goes_request, goes_tick, has_open, trial_step}
use Rattle.stress_laws.proofs.Sending.{over, pdus_along, pdus_to, smaller_than}
use Rattle.stress_laws.proofs.Trial.{IsProposal, IsRequest, IsTrial}

-- a client sends something
abbrev pub is_heard : CellEvent → Bool
is_heard (Heard client octets) = true
is_heard (Lost client) = false
is_heard (Tick ms) = false
is_heard (Ends name) = false
is_heard (Drain client) = false

-- ---- what an actor's events may be

-- with an association a client makes a request; without one it proposes one
abbrev pub MaySend : ℕ → Bool → ℕ → List ℕ → Type 0
MaySend n true client octets = IsRequest octets
MaySend n false client octets = (1 ≤ client) × (client ≤ n) × IsProposal octets

-- the events that are left of an actor, of n clients, that has an association or not
abbrev pub MayDo : ℕ → Bool → List CellEvent → Type 0
MayDo n opened [] = Unit {0}
MayDo n opened (Heard client octets ∷ rest) = MaySend n opened client octets × MayDo n true rest
MayDo n opened (Lost client ∷ rest) = ⊥
MayDo n opened (Tick ms ∷ rest) = MayDo n opened rest
MayDo n opened (Ends name ∷ rest) = ⊥
MayDo n opened (Drain client ∷ rest) = MayDo n opened rest

-- and of all actors
abbrev pub AllMayDo : ℕ → State → List CellEvent → Type 0
AllMayDo n s events = (c : ℕ) → MayDo n (has_open c s.clients) (events_of c events)

-- the next event of its actor
next-own : (n : ℕ) (s : State) (event : CellEvent) (rest : List CellEvent) → AllMayDo n s (event ∷ rest)
    → MayDo n (has_open (actor_of event) s.clients) (event ∷ events_of (actor_of event) rest)
next-own n s event rest may =
    subst (λ (b : Bool). MayDo n (has_open (actor_of event) s.clients) (if b then event ∷ events_of (actor_of event) rest else events_of (actor_of event) rest))
    (nat-test (actor_of event) (actor_of event) refl) (may (actor_of event))

pub goes_next : (n count : ℕ) (s : State) (event : CellEvent) (rest : List CellEvent) → IsTrial count s → length s.clients ≡ n → AllMayDo n s (event ∷ rest) → Goes s event
goes_next n count s (Heard client octets) rest is many may = by_open (has_open client s.clients) refl (next-own n s (Heard client octets) rest may).0
  where
    by_open : (b : Bool) → has_open client s.clients ≡ b → MaySend n b client octets → Goes s (Heard client octets)
    by_open true e sends = goes_request count s is client octets e sends
    by_open false e sends = goes_proposal count s is client octets sends.0 (let few = sends.1 in omega (arith, few, many)) e sends.2
goes_next n count s (Lost client) rest is many may = absurd (next-own n s (Lost client) rest may)
goes_next n count s (Tick ms) rest is many may = goes_tick count s is ms
goes_next n count s (Ends name) rest is many may = absurd (next-own n s (Ends name) rest may)
goes_next n count s (Drain client) rest is many may = goes_drain count s is client

-- and those behind it
pub rest_may : (n : ℕ) (s : State) (event : CellEvent) (rest : List CellEvent) → Goes s event → AllMayDo n s (event ∷ rest) → AllMayDo n (step s event) rest
rest_may n s (Heard client octets) rest goes may c =
    subst (λ (b : Bool). MayDo n b (events_of c rest)) (sym (goes.opened c)) (by_test (c == client) (client == c) refl refl (may c))
  where
    by_test : (a b : Bool) → (c == client) ≡ a → (client == c) ≡ b
        → MayDo n (has_open c s.clients) (if b then Heard client octets ∷ events_of c rest else events_of c rest)
        → MayDo n (if a then true else has_open c s.clients) (events_of c rest)
    by_test true true e f m = m.1
    by_test false false e f m = m
    by_test true false e f m = absurd (let yes = nat-test client c (sym (nat-same c client e)) in let both : true ≡ false = sym yes ∙ f in cc both)
    by_test false true e f m = absurd (let yes = nat-test c client (sym (nat-same client c f)) in let both : true ≡ false = sym yes ∙ e in cc both)
rest_may n s (Lost client) rest goes may c = absurd (next-own n s (Lost client) rest may)
rest_may n s (Tick ms) rest goes may c = subst (λ (b : Bool). MayDo n b (events_of c rest)) (sym (goes.opened c)) (by_test (0 == c) (may c))
  where
    by_test : (b : Bool) → MayDo n (has_open c s.clients) (if b then Tick ms ∷ events_of c rest else events_of c rest) → MayDo n (has_open c s.clients) (events_of c rest)
    by_test true m = m
    by_test false m = m
rest_may n s (Ends name) rest goes may c = absurd (next-own n s (Ends name) rest may)
rest_may n s (Drain client) rest goes may c = subst (λ (b : Bool). MayDo n b (events_of c rest)) (sym (goes.opened c)) (by_test (client == c) (may c))
  where
    by_test : (b : Bool) → MayDo n (has_open c s.clients) (if b then Drain client ∷ events_of c rest else events_of c rest) → MayDo n (has_open c s.clients) (events_of c rest)
    by_test true m = m
    by_test false m = m

-- ---- sums over all clients

-- how many requests of a client wait
abbrev pub waits_at : State → ℕ → ℕ
waits_at s c = waits_of c s.clients

over-even : (f g h k : ℕ → ℕ) → ((c : ℕ) → f c + g c ≡ h c + k c) → (cs : List ℕ) → over f cs + over g cs ≡ over h cs + over k cs
over-even f g h k each [] = refl
over-even f g h k each (c ∷ cs) = let one = each c in let rest = over-even f g h k each cs in omega (arith, one, rest)

over-more : (f : ℕ → ℕ) (cs : List ℕ) (d : ℕ) → over f (cs ++ d ∷ []) ≡ over f cs + f d
over-more f [] d = omega arith
over-more f (c ∷ cs) d = let rest = over-more f cs d in omega (arith, rest)

-- the client is one of clients 1 to n
over-other : (client n : ℕ) → n + 1 ≤ client → over (λ c. of_client c client 1) (clients_to n) ≡ 0
over-other client zero low = refl
over-other client (suc n) low =
    let more = over-more (λ c. of_client c client 1) (clients_to n) (suc n) in
    let rest = over-other client n (omega (arith, low)) in
    let last : of_client (suc n) client 1 ≡ 0 = by_test (suc n == client) refl in
    omega (arith, more, rest, last)
  where
    by_test : (b : Bool) → (suc n == client) ≡ b → cond {A = ℕ} b 1 0 ≡ 0
    by_test true e = absurd (let same = nat-same (suc n) client e in omega (arith, same, low))
    by_test false e = refl

over-client : (client n : ℕ) → 1 ≤ client → client ≤ n → over (λ c. of_client c client 1) (clients_to n) ≡ 1
over-client client zero some few = absurd (omega (arith, some, few))
over-client client (suc n) some few =
    let more = over-more (λ c. of_client c client 1) (clients_to n) (suc n) in
    let all = by_test (suc n == client) refl (λ fewer. over-client client n some fewer) in
    omega (arith, more, all)
  where
    by_test : (b : Bool) → (suc n == client) ≡ b → (client ≤ n → over (λ c. of_client c client 1) (clients_to n) ≡ 1)
        → over (λ c. of_client c client 1) (clients_to n) + cond {A = ℕ} b 1 0 ≡ 1
    by_test true e rest = let same = nat-same (suc n) client e in let none = over-other client n (omega (arith, same)) in omega (arith, none)
    by_test false e rest = let one = rest (smaller_than client n few e) in omega (arith, one)

-- an event of one of n clients, or of the cell
abbrev pub IsOf : ℕ → CellEvent → Type 0
IsOf n (Heard client octets) = (1 ≤ client) × (client ≤ n)
IsOf n event = Unit {0}

asked-one : (n : ℕ) (event : CellEvent) → IsOf n event → over (λ c. asks_for c event) (clients_to n) ≡ cond (is_heard event) 1 0
asked-one n (Heard client octets) of = over-client client n of.0 of.1
asked-one n (Lost client) of = none (clients_to n)
  where
    none : (cs : List ℕ) → over (λ c. 0) cs ≡ 0
    none [] = refl
    none (c ∷ cs) = let rest = none cs in omega (arith, rest)
asked-one n (Tick ms) of = none (clients_to n)
  where
    none : (cs : List ℕ) → over (λ c. 0) cs ≡ 0
    none [] = refl
    none (c ∷ cs) = let rest = none cs in omega (arith, rest)
asked-one n (Ends name) of = none (clients_to n)
  where
    none : (cs : List ℕ) → over (λ c. 0) cs ≡ 0
    none [] = refl
    none (c ∷ cs) = let rest = none cs in omega (arith, rest)
asked-one n (Drain client) of = none (clients_to n)
  where
    none : (cs : List ℕ) → over (λ c. 0) cs ≡ 0
    none [] = refl
    none (c ∷ cs) = let rest = none cs in omega (arith, rest)

-- ---- all events

-- what is sent, and what waits then, is what waited and what is heard; and what holds along the trial holds then
pub record Fares (n count : ℕ) (s : State) (events : List CellEvent) : Type 0 where
  pub after : ℕ
  pub is : IsTrial after (fold step s events)
  pub many : length (fold step s events).clients ≡ n
  pub sums : pdus_along (clients_to n) s events + over (waits_at (fold step s events)) (clients_to n) ≡ over (waits_at s) (clients_to n) + count_by is_heard events

pub fares : (n count : ℕ) (s : State) (events : List CellEvent) → IsTrial count s → length s.clients ≡ n → AllMayDo n s events → AllByRecursion (IsOf n) events → Fares n count s events
fares n count s [] is many may of = record { after = count; is = is; many = many; sums = omega arith }
fares n count s (event ∷ rest) is many may of =
    let goes = goes_next n count s event rest is many may in
    let more = fares n (count + 1) (step s event) rest (trial_step count s is event goes) (step_sized s event ∙ many) (rest_may n s event rest goes may) of.1 in
    let one = over-even (pdus_to s event) (waits_at (step s event)) (waits_at s) (λ c. asks_for c event) goes.even (clients_to n) in
    let asked = asked-one n event of.0 in
    let counted = sum_by-cons (λ e. cond (is_heard e) 1 0) event rest in
    let sums = more.sums in
    record { after = more.after; is = more.is; many = more.many; sums = omega (arith, one, asked, counted, sums) }
