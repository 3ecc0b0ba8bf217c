-- What bodies that serve the phases of the trial have clients do.
use Rattle.std.specs.Prelude.{nat_le}
use Rattle.std.proofs.Common.{nat_lt, ◌≡◌, ℕ, zero, suc, ◌+◌, ◌%◌, ◌≤◌, ◌<◌, ◌^◌, ◌==◌, Bool, true, false, cond, List, [], ◌∷◌, ◌++◌, map, Ok, if◌then◌else◌, refl, sym, ◌∙◌, ap, subst, arith, length}
use Rattle.std.specs.List.{AllByRecursion}
use Rattle.std.proofs.lemmas.Bool.Decides.{nat_tests}
use Rattle.std.proofs.lemmas.List.{map-append}
use Rattle.rand_pcg.specs.Lcg.{Lcg, advance}
use Rattle.rand_pcg.specs.Pcg.{multiplier_64, pcg32}
use Rattle.mms_types.specs.Actors.{actor_of, clients_to}
use Rattle.mms_types.specs.declared.event.CellEvent.{CellEvent}
use Rattle.mms_types.specs.declared.event.CellEvent.TheVariants.{Heard, Lost, Tick, Ends, Drain}
use Rattle.mms_types.specs.declared.identifier.Edition.TheVariants.{One}
use Rattle.mms_types.specs.declared.pdu.Pdu.{Pdu}
use Rattle.mms_types.specs.declared.pdu.Pdu.TheVariants.{ConfirmedRequest, InitiateRequest}
use Rattle.pdu_names.specs.Editions.{lengths_of}
use Rattle.mms_pdu.specs.Asking.{IsAsking}
use Rattle.mms_pdu.specs.Heard.{IsHeard, as_pdu, pdu_heard}
use Rattle.mms_pdu.specs.Pdus.{pdu_octets}
use Rattle.mms_pdu.proofs.AskedAgain.{asking_heard}
use Rattle.mms_pdu.proofs.HeardAgain.{pdu_again}
use Rattle.cell_record.specs.History.{Interleaves, IsBodyOf, drains, events_of, history}
use Rattle.cell_stress.specs.Requests.{asked, define, invoke_of, proposal, read, relinquish, take, write}
use Rattle.cell_stress.specs.Stress.{asking, askings, opening, rounds_from, sent}
use Rattle.cell_stress.proofs.Heard.{asks, defines, invokes, opens}
use Rattle.cell_stress.proofs.Lengths.{asked_few, define_few, initiate_is, request_few}
use Rattle.cell_laws.proofs.Bound.{nat-same}
use Rattle.stress_laws.proofs.Along.{MayDo}
use Rattle.stress_laws.proofs.Bodies.{bodies_each}
use Rattle.stress_laws.proofs.Hearing.{IsOfTrial}
use Rattle.stress_laws.proofs.Sending.{smaller_than}
use Rattle.stress_laws.proofs.Trial.{AsksWell, IsProposal, IsRequest}

-- ---- what is sent is heard as it was meant

spelled-heard : (p : Pdu) → IsAsking One p → IsHeard p → length (pdu_octets p) < 2 ^ 64 → pdu_heard One (pdu_octets p) ≡ Ok p
spelled-heard p asking may short = ap as_pdu (asking_heard One (lengths_of One) p asking short) ∙ ap (λ (q : Pdu). Ok q) (pdu_again p may)

proposes : IsProposal (pdu_octets (InitiateRequest proposal))
proposes = spelled-heard (InitiateRequest proposal) opens tt (let long = initiate_is in omega (arith, long))

defines-it : IsRequest (pdu_octets (ConfirmedRequest 1 define))
defines-it = record {
  invoke = 1;
  asked = define;
  heard = spelled-heard (ConfirmedRequest 1 define) (defines 1 (omega arith)) tt (let few = (request_few 1 define define_few).1 in omega (arith, few));
  of = tt;
  well = tt;
}

asks-it : (client word round : ℕ) → round ≤ 1000 → IsRequest (pdu_octets (ConfirmedRequest (invoke_of client round) (asked word round)))
asks-it client word round most = record {
  invoke = invoke_of client round;
  asked = asked word round;
  heard = spelled-heard (ConfirmedRequest (invoke_of client round) (asked word round)) (asks (invoke_of client round) word round (invokes client round most) most) tt
      (let few = (request_few (invoke_of client round) (asked word round) (asked_few word round)).1 in omega (arith, few));
  of = of (word % 4 == 0) (word % 4 == 1) (word % 4 == 2);
  well = well (word % 4 == 0) (word % 4 == 1) (word % 4 == 2);
}
  where
    of : (a b c : Bool) → IsOfTrial (if a then read else if b then write round else if c then take else relinquish)
    of true b c = tt
    of false true c = tt
    of false false true = tt
    of false false false = tt

    well : (a b c : Bool) → AsksWell (if a then read else if b then write round else if c then take else relinquish)
    well true b c = tt
    well false true c = tt
    well false false true = record { delay = refl; abort = refl }
    well false false false = tt

-- ---- the rounds

-- a request of one of n clients, time that goes by, or a drain
abbrev pub IsAsk : ℕ → CellEvent → Type 0
IsAsk n (Heard client octets) = (1 ≤ client) × (client ≤ n) × IsRequest octets
IsAsk n (Lost client) = ⊥
IsAsk n (Tick ms) = Unit {0}
IsAsk n (Ends name) = ⊥
IsAsk n (Drain client) = Unit {0}

pub all_append : {X : Type 0} (P : X → Type 0) (xs ys : List X) → AllByRecursion P xs → AllByRecursion P ys → AllByRecursion P (xs ++ ys)
all_append P [] ys h k = k
all_append P (x ∷ xs) ys h k = (h.0, all_append P xs ys h.1 k)

askings-ask : (n : ℕ) (random : Lcg) (round client more : ℕ) → round ≤ 1000 → 1 ≤ client → client + more ≤ n + 1 → AllByRecursion (IsAsk n) (askings random round client more)
askings-ask n random round client zero most some few = tt
askings-ask n random round client (suc more) most some few =
    ((some, omega (arith, few), asks-it client (pcg32 random).0 round most), askings-ask n (pcg32 random).1 round (client + 1) more most (omega (arith, some)) (omega (arith, few)))

rounds-ask : (n : ℕ) (random : Lcg) (round more : ℕ) → round + more ≤ 1001 → AllByRecursion (AllByRecursion (IsAsk n)) (rounds_from random n round more)
rounds-ask n random round zero most = ((tt, tt), tt)
rounds-ask n random round (suc more) most = (
  all_append (IsAsk n) (askings random round 1 n) (Tick 3 ∷ []) (askings-ask n random round 1 n (omega (arith, most)) (omega arith) (omega arith)) (tt, tt),
  rounds-ask n (advance 64 multiplier_64 n random) (round + 1) more (omega (arith, most)),
)

drains-are : (P : CellEvent → Type 0) → ((c : ℕ) → P (Drain c)) → (cs : List ℕ) → AllByRecursion P (drains cs)
drains-are P each [] = tt
drains-are P each (c ∷ cs) = (each c, drains-are P each cs)

pub history_each : (P : CellEvent → Type 0) → ((c : ℕ) → P (Drain c)) → (n : ℕ) (bodies : List (List CellEvent)) → AllByRecursion (AllByRecursion P) bodies → AllByRecursion P (history n bodies)
history_each P each n [] all = tt
history_each P each n (b ∷ bodies) all =
    all_append P (b ++ drains (clients_to n)) (history n bodies) (all_append P b (drains (clients_to n)) all.0 (drains-are P each (clients_to n))) (history_each P each n bodies all.1)

-- ---- of each actor

own-append : (c : ℕ) (xs ys : List CellEvent) → events_of c (xs ++ ys) ≡ events_of c xs ++ events_of c ys
own-append c [] ys = refl
own-append c (x ∷ xs) ys = by_test (actor_of x == c) (own-append c xs ys)
  where
    by_test : (b : Bool) → events_of c (xs ++ ys) ≡ events_of c xs ++ events_of c ys
        → (if b then x ∷ events_of c (xs ++ ys) else events_of c (xs ++ ys)) ≡ (if b then x ∷ events_of c xs else events_of c xs) ++ events_of c ys
    by_test true rest = ap (λ l. x ∷ l) rest
    by_test false rest = rest

-- with an association
true-may : (n c : ℕ) (events : List CellEvent) → AllByRecursion (IsAsk n) events → MayDo n true (events_of c events)
true-may n c [] all = tt
true-may n c (Heard k octets ∷ rest) all = by_test (k == c) (true-may n c rest all.1)
  where
    by_test : (b : Bool) → MayDo n true (events_of c rest) → MayDo n true (if b then Heard k octets ∷ events_of c rest else events_of c rest)
    by_test true m = (all.0.2, m)
    by_test false m = m
true-may n c (Lost k ∷ rest) all = absurd all.0
true-may n c (Tick ms ∷ rest) all = by_test (0 == c) (true-may n c rest all.1)
  where
    by_test : (b : Bool) → MayDo n true (events_of c rest) → MayDo n true (if b then Tick ms ∷ events_of c rest else events_of c rest)
    by_test true m = m
    by_test false m = m
true-may n c (Ends name ∷ rest) all = absurd all.0
true-may n c (Drain k ∷ rest) all = by_test (k == c) (true-may n c rest all.1)
  where
    by_test : (b : Bool) → MayDo n true (events_of c rest) → MayDo n true (if b then Drain k ∷ events_of c rest else events_of c rest)
    by_test true m = m
    by_test false m = m

-- and who is none of the clients asks nothing
none-may : (n c : ℕ) → ((1 ≤ c) × (c ≤ n) → ⊥) → (events : List CellEvent) → AllByRecursion (IsAsk n) events → MayDo n false (events_of c events)
none-may n c out [] all = tt
none-may n c out (Heard k octets ∷ rest) all = by_test (k == c) refl (none-may n c out rest all.1)
  where
    by_test : (b : Bool) → (k == c) ≡ b → MayDo n false (events_of c rest) → MayDo n false (if b then Heard k octets ∷ events_of c rest else events_of c rest)
    by_test true e m = let same = nat-same k c e in let low = all.0.0 in let high = all.0.1 in absurd (out (omega (arith, same, low), omega (arith, same, high)))
    by_test false e m = m
none-may n c out (Lost k ∷ rest) all = absurd all.0
none-may n c out (Tick ms ∷ rest) all = by_test (0 == c) (none-may n c out rest all.1)
  where
    by_test : (b : Bool) → MayDo n false (events_of c rest) → MayDo n false (if b then Tick ms ∷ events_of c rest else events_of c rest)
    by_test true m = m
    by_test false m = m
none-may n c out (Ends name ∷ rest) all = absurd all.0
none-may n c out (Drain k ∷ rest) all = by_test (k == c) (none-may n c out rest all.1)
  where
    by_test : (b : Bool) → MayDo n false (events_of c rest) → MayDo n false (if b then Drain k ∷ events_of c rest else events_of c rest)
    by_test true m = m
    by_test false m = m

-- ---- the opening

abbrev proposal_of : ℕ → CellEvent
proposal_of client = sent client (InitiateRequest proposal)

own-more : (c m : ℕ) → events_of c (map proposal_of (clients_to (suc m))) ≡ events_of c (map proposal_of (clients_to m)) ++ (if suc m == c then proposal_of (suc m) ∷ [] else [])
own-more c m = ap (events_of c) (map-append proposal_of (clients_to m) (suc m ∷ [])) ∙ own-append c (map proposal_of (clients_to m)) (proposal_of (suc m) ∷ [])

own-none : (c m : ℕ) → ((1 ≤ c) × (c ≤ m) → ⊥) → events_of c (map proposal_of (clients_to m)) ≡ []
own-none c zero out = refl
own-none c (suc m) out =
    own-more c m ∙ ap (λ (l : List CellEvent). l ++ (if suc m == c then proposal_of (suc m) ∷ [] else [])) (own-none c m (λ is. out (is.0, let few = is.1 in omega (arith, few))))
    ∙ by_test (suc m == c) refl
  where
    by_test : (b : Bool) → (suc m == c) ≡ b → cond {A = List CellEvent} b (proposal_of (suc m) ∷ []) [] ≡ []
    by_test true e = absurd (let same = nat-same (suc m) c e in out (omega (arith, same), omega (arith, same)))
    by_test false e = refl

own-proposal : (c m : ℕ) → 1 ≤ c → c ≤ m → events_of c (map proposal_of (clients_to m)) ≡ proposal_of c ∷ []
own-proposal c zero some few = absurd (omega (arith, some, few))
own-proposal c (suc m) some few = own-more c m ∙ by_test (suc m == c) refl (λ fewer. own-proposal c m some fewer)
  where
    by_test : (b : Bool) → (suc m == c) ≡ b → (c ≤ m → events_of c (map proposal_of (clients_to m)) ≡ proposal_of c ∷ [])
        → events_of c (map proposal_of (clients_to m)) ++ cond {A = List CellEvent} b (proposal_of (suc m) ∷ []) [] ≡ proposal_of c ∷ []
    by_test true e rest =
        let same = nat-same (suc m) c e in
        ap (λ (l : List CellEvent). l ++ (proposal_of (suc m) ∷ [])) (own-none c m (λ is. let few = is.1 in omega (arith, same, few)))
        ∙ ap (λ (k : ℕ). proposal_of k ∷ []) same
    by_test false e rest = ap (λ (l : List CellEvent). l ++ []) (rest (smaller_than c m few e))

pub opening_may : (n : ℕ) → 1 ≤ n → (body rest : List CellEvent) → IsBodyOf body (opening n) → AllByRecursion (IsAsk n) rest → (c : ℕ) → MayDo n false (events_of c (body ++ rest))
opening_may n least body rest is asks c =
    subst (MayDo n false) (sym (own-append c body rest ∙ ap (λ (l : List CellEvent). l ++ events_of c rest) (is.each c ∙ own-append c (map proposal_of (clients_to n)) (sent 1 (ConfirmedRequest 1 define) ∷ []))))
    (by_range (nat_lt 0 c) (nat_le c n) refl refl)
  where
    late : (b : Bool) → MayDo n true ((if b then sent 1 (ConfirmedRequest 1 define) ∷ [] else []) ++ events_of c rest)
    late true = (defines-it, true-may n c rest asks)
    late false = true-may n c rest asks

    never : ((1 ≤ c) × (c ≤ n) → ⊥) → (b : Bool) → (1 == c) ≡ b → MayDo n false ((if b then sent 1 (ConfirmedRequest 1 define) ∷ [] else []) ++ events_of c rest)
    never out true e = let same = nat-same 1 c e in absurd (out (omega (arith, same), omega (arith, same, least)))
    never out false e = none-may n c out rest asks

    outside : ((1 ≤ c) × (c ≤ n) → ⊥) → MayDo n false ((events_of c (map proposal_of (clients_to n)) ++ (if 1 == c then sent 1 (ConfirmedRequest 1 define) ∷ [] else [])) ++ events_of c rest)
    outside out =
        subst (λ (l : List CellEvent). MayDo n false ((l ++ (if 1 == c then sent 1 (ConfirmedRequest 1 define) ∷ [] else [])) ++ events_of c rest)) (sym (own-none c n out)) (never out (1 == c) refl)

    by_range : (a b : Bool) → nat_lt 0 c ≡ a → nat_le c n ≡ b
        → MayDo n false ((events_of c (map proposal_of (clients_to n)) ++ (if 1 == c then sent 1 (ConfirmedRequest 1 define) ∷ [] else [])) ++ events_of c rest)
    by_range true true e f =
        let some : 1 ≤ c = grind (arith, nat_tests) in
        let few : c ≤ n = grind (arith, nat_tests) in
        subst (λ (l : List CellEvent). MayDo n false ((l ++ (if 1 == c then sent 1 (ConfirmedRequest 1 define) ∷ [] else [])) ++ events_of c rest)) (sym (own-proposal c n some few))
        ((some, few, proposes), late (1 == c))
    by_range false b e f = let none : c ≤ 0 = grind (arith, nat_tests) in outside (λ is. let some = is.0 in omega (arith, none, some))
    by_range true false e f = let more : n < c = grind (arith, nat_tests) in outside (λ is. let few = is.1 in omega (arith, more, few))

pub rounds_ask : (n : ℕ) (random : Lcg) (round more : ℕ) (bodies : List (List CellEvent)) → round + more ≤ 1001 → Interleaves bodies (rounds_from random n round more)
    → AllByRecursion (AllByRecursion (IsAsk n)) bodies
rounds_ask n random round more bodies most is = bodies_each (IsAsk n) bodies (rounds_from random n round more) is (rounds-ask n random round more most)
