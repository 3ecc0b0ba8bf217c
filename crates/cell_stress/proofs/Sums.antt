-- What a recording may have, and how much there is of it.
use Rattle.std.proofs.Common.{◌≡◌, ℕ, zero, suc, ◌+◌, ◌*◌, ◌≤◌, Bool, true, cond, List, [], ◌∷◌, ◌++◌, map, length, length-append, refl, sym, ap, subst, ◌∙◌, arith}
use Rattle.std.specs.List.{All, AllByRecursion, count_by, flat_map}
use Rattle.std.proofs.lemmas.Bool.{le-leb}
use Rattle.std.proofs.lemmas.List.{map-append}
use Rattle.std.proofs.lemmas.List.Elements.{All-from_recursion}
use Rattle.std.proofs.lemmas.List.Sums.{sum_by-append, sum_by-cons}
use Rattle.rand_pcg.specs.Lcg.{Lcg, advance}
use Rattle.rand_pcg.specs.Pcg.{multiplier_64, pcg32}
use Rattle.mms_types.specs.Actors.{clients_to}
use Rattle.mms_types.specs.declared.event.CellEvent.{CellEvent}
use Rattle.mms_types.specs.declared.event.CellEvent.TheVariants.{Tick}
use Rattle.mms_types.specs.declared.pdu.Pdu.TheVariants.{ConfirmedRequest, InitiateRequest}
use Rattle.mms_pdu.specs.Pdus.{pdu_octets}
use Rattle.cell_config.specs.Said.{IsConfig}
use Rattle.cell_record.specs.EventLine.{IsRecorded}
use Rattle.cell_record.specs.Grammar.{all_ms, phase_ms}
use Rattle.cell_record.specs.Report.{is_printed}
use Rattle.cell_record.specs.Words.{between}
use Rattle.cell_stress.specs.Counts.{events_in, is_request, requests_in}
use Rattle.cell_stress.specs.Requests.{asked, define, invoke_of, proposal}
use Rattle.cell_stress.specs.Stress.{asking, askings, opening, random_of, round_of, rounds_from, sent, stress_config, stress_phases}
use Rattle.cell_stress.proofs.Lengths.{asked_few, define_few, initiate_asks, initiate_is, request_asks, request_few}

-- ---- each event may be recorded

within : (low high n : ℕ) → low ≤ n → n ≤ high → between low high n ≡ true
within low high n le few = rw (le-leb low n le, le-leb n high few) refl

all_append : {X : Type 0} (P : X → Type 0) (xs ys : List X) → AllByRecursion P xs → AllByRecursion P ys → AllByRecursion P (xs ++ ys)
all_append P [] ys h k = k
all_append P (x ∷ xs) ys h k = (h.0, all_append P xs ys h.1 k)

module _ (clients : ℕ) where
  abbrev Is : List CellEvent → Type 0
  Is events = AllByRecursion (IsRecorded (stress_config clients)) events

  initiates : (client : ℕ) → 1 ≤ client → client ≤ clients → IsRecorded (stress_config clients) (sent client (InitiateRequest proposal))
  initiates client some few =
      let size = length (pdu_octets (InitiateRequest proposal)) in
      let n : size ≡ 40 = initiate_is in
      (within 1 clients client some few, within 1 65000 size (omega (arith, n)) (omega (arith, n)))

  opened_recorded : (n : ℕ) → n ≤ clients → Is (map (λ client. sent client (InitiateRequest proposal)) (clients_to n))
  opened_recorded zero le = tt
  opened_recorded (suc n) le =
      subst Is (sym (map-append (λ client. sent client (InitiateRequest proposal)) (clients_to n) (suc n ∷ [])))
      (all_append (IsRecorded (stress_config clients)) _ _ (opened_recorded n (omega (arith, le))) (initiates (suc n) (omega arith) le, tt))

  opening_recorded : 1 ≤ clients → Is (opening clients)
  opening_recorded some =
      let few = request_few 1 define define_few in
      all_append (IsRecorded (stress_config clients)) _ _ (opened_recorded clients (omega arith)) ((within 1 clients 1 (omega arith) some, within 1 65000 _ few.0 few.1), tt)

  askings_recorded : (random : Lcg) (round client more : ℕ) → 1 ≤ client → client + more ≤ clients + 1 → Is (askings random round client more)
  askings_recorded random round client zero some le = tt
  askings_recorded random round client (suc more) some le =
      let few = request_few (invoke_of client round) (asked (pcg32 random).0 round) (asked_few (pcg32 random).0 round) in (
        (within 1 clients client some (omega (arith, le)), within 1 65000 _ few.0 few.1),
        askings_recorded (pcg32 random).1 round (client + 1) more (omega (arith, some)) (omega (arith, le)),
      )

  round_recorded : (random : Lcg) (round : ℕ) → Is (round_of random clients round)
  round_recorded random round = all_append (IsRecorded (stress_config clients)) _ _ (askings_recorded random round 1 clients (omega arith) (omega arith)) (refl, tt)

  rounds_recorded : (random : Lcg) (round more : ℕ) → AllByRecursion Is (rounds_from random clients round more)
  rounds_recorded random round zero = ((refl, tt), tt)
  rounds_recorded random round (suc more) = (round_recorded random round, rounds_recorded (advance 64 multiplier_64 clients random) (round + 1) more)

  -- the phases, event by event
  pub phases_recorded : (seed rounds : ℕ) → 1 ≤ clients → AllByRecursion Is (stress_phases seed clients rounds)
  phases_recorded seed rounds some = (opening_recorded some, rounds_recorded (random_of seed) 1 rounds)

  -- ---- how long the phases are

  opened_length : (n : ℕ) → length (map (λ client. sent client (InitiateRequest proposal)) (clients_to n)) ≡ n
  opened_length zero = refl
  opened_length (suc n) =
      let rest = opened_length n in
      let more = ap length (map-append (λ client. sent client (InitiateRequest proposal)) (clients_to n) (suc n ∷ [])) in
      omega (arith, more, rest, length-append (map (λ client. sent client (InitiateRequest proposal)) (clients_to n)) (sent (suc n) (InitiateRequest proposal) ∷ []))

  askings_length : (random : Lcg) (round client more : ℕ) → length (askings random round client more) ≡ more
  askings_length random round client zero = refl
  askings_length random round client (suc more) = let rest = askings_length (pcg32 random).1 round (client + 1) more in omega (arith, rest)

  opening_length : length (opening clients) ≡ clients + 1
  opening_length =
      let n = opened_length clients in
      omega (arith, n, length-append (map (λ client. sent client (InitiateRequest proposal)) (clients_to clients)) (sent 1 (ConfirmedRequest 1 define) ∷ []))

  round_length : (random : Lcg) (round : ℕ) → length (round_of random clients round) ≡ clients + 1
  round_length random round =
      let n = askings_length random round 1 clients in
      omega (arith, n, length-append (askings random round 1 clients) (Tick 3 ∷ []))

  abbrev IsShort : List CellEvent → Type 0
  IsShort phase = length phase ≤ clients + 1

  rounds_short : (random : Lcg) (round more : ℕ) → AllByRecursion IsShort (rounds_from random clients round more)
  rounds_short random round zero = (omega arith, tt)
  rounds_short random round (suc more) = (let n = round_length random round in omega (arith, n), rounds_short (advance 64 multiplier_64 clients random) (round + 1) more)

  pub phases_short : (seed rounds : ℕ) → AllByRecursion IsShort (stress_phases seed clients rounds)
  phases_short seed rounds = (let n = opening_length in omega (arith, n), rounds_short (random_of seed) 1 rounds)

  -- ---- how many phases there are

  rounds_many : (random : Lcg) (round more : ℕ) → length (rounds_from random clients round more) ≡ more + 1
  rounds_many random round zero = refl
  rounds_many random round (suc more) = let rest = rounds_many (advance 64 multiplier_64 clients random) (round + 1) more in omega (arith, rest)

  pub phases_many : (seed rounds : ℕ) → length (stress_phases seed clients rounds) ≡ rounds + 2
  phases_many seed rounds = let rest = rounds_many (random_of seed) 1 rounds in omega (arith, rest)

  -- ---- the time that goes by

  opened_ms : (xs : List ℕ) (ys : List CellEvent) → phase_ms (map (λ client. sent client (InitiateRequest proposal)) xs ++ ys) ≡ phase_ms ys
  opened_ms [] ys = refl
  opened_ms (x ∷ xs) ys = let rest = opened_ms xs ys in omega (arith, rest)

  askings_ms : (random : Lcg) (round client more : ℕ) (ys : List CellEvent) → phase_ms (askings random round client more ++ ys) ≡ phase_ms ys
  askings_ms random round client zero ys = refl
  askings_ms random round client (suc more) ys = let rest = askings_ms (pcg32 random).1 round (client + 1) more ys in omega (arith, rest)

  rounds_ms : (random : Lcg) (round more : ℕ) → all_ms (rounds_from random clients round more) ≡ 3 * more + 10
  rounds_ms random round zero = refl
  rounds_ms random round (suc more) =
      let rest = rounds_ms (advance 64 multiplier_64 clients random) (round + 1) more in
      let one = askings_ms random round 1 clients (Tick 3 ∷ []) in
      omega (arith, rest, one)

  pub phases_ms : (seed rounds : ℕ) → all_ms (stress_phases seed clients rounds) ≡ 3 * rounds + 10
  phases_ms seed rounds =
      let rest = rounds_ms (random_of seed) 1 rounds in
      let one = opened_ms (clients_to clients) (sent 1 (ConfirmedRequest 1 define) ∷ []) in
      omega (arith, rest, one)

  -- ---- how many events and requests there are

  module _ (is : CellEvent → Bool) where
    abbrev Total : List (List CellEvent) → ℕ
    Total phases = count_by is (flat_map (λ phase. phase) phases)

    total-append : (xs ys : List CellEvent) → count_by is (xs ++ ys) ≡ count_by is xs + count_by is ys
    total-append xs ys = sum_by-append (λ e. cond (is e) 1 0) xs ys

    -- each of the rounds counts as much, and the last phase so much
    rounds_total : (each last : ℕ) → ((random : Lcg) (round : ℕ) → count_by is (round_of random clients round) ≡ each) → count_by is (Tick 10 ∷ []) ≡ last
        → (random : Lcg) (round more : ℕ) → Total (rounds_from random clients round more) ≡ more * each + last
    rounds_total each last one end random round zero = let t = total-append (Tick 10 ∷ []) [] in omega (arith, t, end)
    rounds_total each last one end random round (suc more) =
        let t = total-append (round_of random clients round) (flat_map (λ phase. phase) (rounds_from (advance 64 multiplier_64 clients random) clients (round + 1) more)) in
        let first = one random round in
        let rest = rounds_total each last one end (advance 64 multiplier_64 clients random) (round + 1) more in
        omega (arith, t, first, rest)

    phases_total : (each last first : ℕ) → ((random : Lcg) (round : ℕ) → count_by is (round_of random clients round) ≡ each) → count_by is (Tick 10 ∷ []) ≡ last → count_by is (opening clients) ≡ first
        → (seed rounds : ℕ) → Total (stress_phases seed clients rounds) ≡ first + (rounds * each + last)
    phases_total each last first one end begin seed rounds =
        let t = total-append (opening clients) (flat_map (λ phase. phase) (rounds_from (random_of seed) clients 1 rounds)) in
        let rest = rounds_total each last one end (random_of seed) 1 rounds in
        omega (arith, t, begin, rest)

  -- an item more
  counted : (is : CellEvent → Bool) (x : CellEvent) (xs : List CellEvent) → count_by is (x ∷ xs) ≡ cond (is x) 1 0 + count_by is xs
  counted is x xs = sum_by-cons (λ e. cond (is e) 1 0) x xs

  opened_events : (xs : List ℕ) → count_by is_printed (map (λ client. sent client (InitiateRequest proposal)) xs) ≡ length xs
  opened_events [] = refl
  opened_events (x ∷ xs) = let rest = opened_events xs in let one = counted is_printed (sent x (InitiateRequest proposal)) (map (λ client. sent client (InitiateRequest proposal)) xs) in omega (arith, rest, one)

  clients_many : (n : ℕ) → length (clients_to n) ≡ n
  clients_many zero = refl
  clients_many (suc n) = let rest = clients_many n in omega (arith, rest, length-append (clients_to n) (suc n ∷ []))

  askings_events : (random : Lcg) (round client more : ℕ) → count_by is_printed (askings random round client more) ≡ more
  askings_events random round client zero = refl
  askings_events random round client (suc more) =
      let rest = askings_events (pcg32 random).1 round (client + 1) more in
      let one = counted is_printed (asking round client (pcg32 random).0) (askings (pcg32 random).1 round (client + 1) more) in
      omega (arith, rest, one)

  opening_events : count_by is_printed (opening clients) ≡ clients + 1
  opening_events =
      let t = total-append is_printed (map (λ client. sent client (InitiateRequest proposal)) (clients_to clients)) (sent 1 (ConfirmedRequest 1 define) ∷ []) in
      let a = opened_events (clients_to clients) in
      let b = clients_many clients in
      omega (arith, t, a, b)

  round_events : (random : Lcg) (round : ℕ) → count_by is_printed (round_of random clients round) ≡ clients + 1
  round_events random round =
      let t = total-append is_printed (askings random round 1 clients) (Tick 3 ∷ []) in
      let a = askings_events random round 1 clients in
      omega (arith, t, a)

  pub phases_events : (seed rounds : ℕ) → events_in (flat_map (λ phase. phase) (stress_phases seed clients rounds)) ≡ (clients + 1) * (rounds + 1) + 1
  phases_events seed rounds =
      let t = phases_total is_printed (clients + 1) 1 (clients + 1) round_events refl opening_events seed rounds in
      t ∙ by rounds
    where
      by : (n : ℕ) → clients + 1 + (n * (clients + 1) + 1) ≡ (clients + 1) * (n + 1) + 1
      by n = omega arith

  opened_requests : (xs : List ℕ) → count_by is_request (map (λ client. sent client (InitiateRequest proposal)) xs) ≡ 0
  opened_requests [] = refl
  opened_requests (x ∷ xs) = let one = rw initiate_asks at (counted is_request (sent x (InitiateRequest proposal)) (map (λ client. sent client (InitiateRequest proposal)) xs)) in let rest = opened_requests xs in omega (arith, one, rest)

  askings_requests : (random : Lcg) (round client more : ℕ) → count_by is_request (askings random round client more) ≡ more
  askings_requests random round client zero = refl
  askings_requests random round client (suc more) =
      let rest = askings_requests (pcg32 random).1 round (client + 1) more in
      let one = rw (request_asks (invoke_of client round) (asked (pcg32 random).0 round)) at (counted is_request (asking round client (pcg32 random).0) (askings (pcg32 random).1 round (client + 1) more)) in
      omega (arith, rest, one)

  opening_requests : count_by is_request (opening clients) ≡ 1
  opening_requests =
      let t = total-append is_request (map (λ client. sent client (InitiateRequest proposal)) (clients_to clients)) (sent 1 (ConfirmedRequest 1 define) ∷ []) in
      let a = opened_requests (clients_to clients) in
      let one : count_by is_request (sent 1 (ConfirmedRequest 1 define) ∷ []) ≡ 1 = rw (request_asks 1 define) refl in
      omega (arith, t, a, one)

  round_requests : (random : Lcg) (round : ℕ) → count_by is_request (round_of random clients round) ≡ clients
  round_requests random round =
      let t = total-append is_request (askings random round 1 clients) (Tick 3 ∷ []) in
      let a = askings_requests random round 1 clients in
      omega (arith, t, a)

  pub phases_requests : (seed rounds : ℕ) → requests_in (flat_map (λ phase. phase) (stress_phases seed clients rounds)) ≡ 1 + rounds * clients
  phases_requests seed rounds =
      let t = phases_total is_request clients 0 1 round_requests refl opening_requests seed rounds in
      omega (arith, t)

-- ---- as clauses say it

all_of : {X : Type 0} (P Q : X → Type 0) → ((x : X) → P x → Q x) → (xs : List X) → AllByRecursion P xs → AllByRecursion Q xs
all_of P Q f [] h = tt
all_of P Q f (x ∷ xs) h = (f x h.0, all_of P Q f xs h.1)

pub phases_all : (clients seed rounds : ℕ) → 1 ≤ clients → All (All (IsRecorded (stress_config clients))) (stress_phases seed clients rounds)
phases_all clients seed rounds some =
    All-from_recursion (All (IsRecorded (stress_config clients))) (stress_phases seed clients rounds)
    (all_of (AllByRecursion (IsRecorded (stress_config clients))) (All (IsRecorded (stress_config clients))) (All-from_recursion (IsRecorded (stress_config clients))) (stress_phases seed clients rounds) (phases_recorded clients seed rounds some))

pub configured : (clients : ℕ) → 1 ≤ clients → clients ≤ 64 → IsConfig (stress_config clients)
configured clients some few = record {
  some_client = some;
  few_clients = few;
  dated = omega arith;
  vendor = refl;
  model = refl;
  revision = refl;
  cells = record { distinct = refl; small = refl; typed = refl };
  variables = record { distinct = refl; present = refl; few = omega arith };
  pools = record { distinct = refl; tokens = refl; few = omega arith };
}
