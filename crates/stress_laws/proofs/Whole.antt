-- The PDUs that answer the trial are as many as what its clients send.
use Rattle.std.proofs.Common.{◌≡◌, ℕ, zero, suc, ◌+◌, ◌*◌, ◌≤◌, ◌==◌, Bool, false, cond, List, [], ◌∷◌, ◌++◌, append-nil, append_assoc, map, fold, slice_get, unwrap_or, if◌then◌else◌, refl, sym, ◌∙◌, ap, subst, arith, length}
use Rattle.std.specs.List.{AllByRecursion, count_by, flat_map}
use Rattle.std.proofs.lemmas.List.{map-append}
use Rattle.std.proofs.lemmas.List.Sums.{sum_by-append, sum_by-cons}
use Rattle.rand_pcg.specs.Lcg.{Lcg, advance}
use Rattle.rand_pcg.specs.Pcg.{multiplier_64, pcg32}
use Rattle.mms_types.specs.Actors.{actor_of, clients_to}
use Rattle.mms_types.specs.declared.event.CellEvent.{CellEvent}
use Rattle.mms_types.specs.declared.event.CellEvent.TheVariants.{Heard, Tick, Drain}
use Rattle.mms_types.specs.declared.identifier.Edition.TheVariants.{One}
use Rattle.mms_types.specs.declared.pdu.Pdu.TheVariants.{ConfirmedRequest, InitiateRequest}
use Rattle.association.specs.Client.{new_row}
use Rattle.cell_record.specs.History.{Interleaves, IsBodyOf, drains, events_of, history}
use Rattle.parted_state.specs.Served.{row_at}
use Rattle.cell_stress.specs.Counts.{replies_in}
use Rattle.cell_stress.specs.Requests.{define, proposal}
use Rattle.cell_stress.specs.Stress.{asking, askings, opening, random_of, round_of, rounds_from, sent, stress_config, stress_phases}
use Rattle.cell_stress.proofs.Interleaved.{history_counts}
use Rattle.cell_stress.proofs.Sums.{configured}
use Rattle.step_parts.specs.Partition.{cell, no_client}
use Rattle.step_parts.specs.State.{State, device_of, start}
use Rattle.step_parts.specs.Step.{said, step}
use Rattle.step_parts.proofs.PartsAfter.{length-start, step_sized}
use Rattle.step_sound.proofs.Sound.{start_sound}
use Rattle.cell_laws.proofs.Replayed.{linked-start, none-at-first}
use Rattle.stress_laws.proofs.Along.{AllMayDo, MayDo, IsOf, fares, goes_next, is_heard, rest_may, waits_at}
use Rattle.stress_laws.proofs.Balance.{even-drains}
use Rattle.stress_laws.proofs.Bodies.{body_each, bodies_each}
use Rattle.stress_laws.proofs.Ended.{none_waits}
use Rattle.stress_laws.proofs.Goes.{goes_tick, has_open, is_open, no-more, trial_step}
use Rattle.stress_laws.proofs.Phases.{IsAsk, all_append, history_each, opening_may, rounds_ask}
use Rattle.stress_laws.proofs.Sending.{IsNoDrain, clients_are, fold-append, over, replies_sent}
use Rattle.stress_laws.proofs.Trial.{IsTrial}

-- ---- all phases

module _ (P : CellEvent → Type 0) (n : ℕ) (asks : (c : ℕ) (octets : List ℕ) → 1 ≤ c → c ≤ n → P (Heard c octets)) (ticks : (ms : ℕ) → P (Tick ms)) where
  proposals-each : (cs : List ℕ) → AllByRecursion (λ c. (1 ≤ c) × (c ≤ n)) cs → AllByRecursion P (map (λ client. sent client (InitiateRequest proposal)) cs)
  proposals-each [] are = tt
  proposals-each (c ∷ cs) are = (asks c _ are.0.0 are.0.1, proposals-each cs are.1)

  askings-each : (random : Lcg) (round client more : ℕ) → 1 ≤ client → client + more ≤ n + 1 → AllByRecursion P (askings random round client more)
  askings-each random round client zero some few = tt
  askings-each random round client (suc more) some few =
      (asks client _ some (omega (arith, few)), askings-each (pcg32 random).1 round (client + 1) more (omega (arith, some)) (omega (arith, few)))

  rounds-each : (random : Lcg) (round more : ℕ) → AllByRecursion (AllByRecursion P) (rounds_from random n round more)
  rounds-each random round zero = ((ticks 10, tt), tt)
  rounds-each random round (suc more) = (
    all_append P (askings random round 1 n) (Tick 3 ∷ []) (askings-each random round 1 n (omega arith) (omega arith)) (ticks 3, tt),
    rounds-each (advance 64 multiplier_64 n random) (round + 1) more,
  )

  phases-each : (seed rounds : ℕ) → 1 ≤ n → AllByRecursion (AllByRecursion P) (stress_phases seed n rounds)
  phases-each seed rounds some = (
    all_append P (map (λ client. sent client (InitiateRequest proposal)) (clients_to n)) (sent 1 (ConfirmedRequest 1 define) ∷ []) (proposals-each (clients_to n) (clients_are n)) (asks 1 _ (omega arith) some, tt),
    rounds-each (random_of seed) 1 rounds,
  )

-- ---- how much is heard

counted : (x : CellEvent) (xs : List CellEvent) → count_by is_heard (x ∷ xs) ≡ cond (is_heard x) 1 0 + count_by is_heard xs
counted x xs = sum_by-cons (λ e. cond (is_heard e) 1 0) x xs

counted-both : (xs ys : List CellEvent) → count_by is_heard (xs ++ ys) ≡ count_by is_heard xs + count_by is_heard ys
counted-both xs ys = sum_by-append (λ e. cond (is_heard e) 1 0) xs ys

opened-heard : (n : ℕ) → count_by is_heard (map (λ client. sent client (InitiateRequest proposal)) (clients_to n)) ≡ n
opened-heard zero = refl
opened-heard (suc n) =
    let rest = opened-heard n in
    let more = ap (count_by is_heard) (map-append (λ client. sent client (InitiateRequest proposal)) (clients_to n) (suc n ∷ [])) in
    let both = counted-both (map (λ client. sent client (InitiateRequest proposal)) (clients_to n)) (sent (suc n) (InitiateRequest proposal) ∷ []) in
    let one = counted (sent (suc n) (InitiateRequest proposal)) [] in
    omega (arith, rest, more, both, one)

askings-heard : (random : Lcg) (round client more : ℕ) → count_by is_heard (askings random round client more) ≡ more
askings-heard random round client zero = refl
askings-heard random round client (suc more) =
    let rest = askings-heard (pcg32 random).1 round (client + 1) more in
    let one = counted (asking round client (pcg32 random).0) (askings (pcg32 random).1 round (client + 1) more) in
    omega (arith, rest, one)

rounds-heard : (n : ℕ) (random : Lcg) (round more : ℕ) → count_by is_heard (flat_map (λ phase. phase) (rounds_from random n round more)) ≡ more * n
rounds-heard n random round zero = let none : count_by is_heard (flat_map (λ phase. phase) (rounds_from random n round zero)) ≡ 0 = refl in omega (arith, none)
rounds-heard n random round (suc more) =
    let rest = rounds-heard n (advance 64 multiplier_64 n random) (round + 1) more in
    let both = counted-both (round_of random n round) (flat_map (λ phase. phase) (rounds_from (advance 64 multiplier_64 n random) n (round + 1) more)) in
    let parts = counted-both (askings random round 1 n) (Tick 3 ∷ []) in
    let one = askings-heard random round 1 n in
    let none : count_by is_heard (Tick 3 ∷ []) ≡ 0 = refl in
    omega (arith, rest, both, parts, one, none)

phases-heard : (n seed rounds : ℕ) → count_by is_heard (flat_map (λ phase. phase) (stress_phases seed n rounds)) ≡ n + 1 + rounds * n
phases-heard n seed rounds =
    let both = counted-both (opening n) (flat_map (λ phase. phase) (rounds_from (random_of seed) n 1 rounds)) in
    let parts = counted-both (map (λ client. sent client (InitiateRequest proposal)) (clients_to n)) (sent 1 (ConfirmedRequest 1 define) ∷ []) in
    let first = opened-heard n in
    let one = counted (sent 1 (ConfirmedRequest 1 define)) [] in
    let none : count_by is_heard [] ≡ 0 = refl in
    let rest = rounds-heard n (random_of seed) 1 rounds in
    omega (arith, both, parts, first, one, none, rest)

-- ---- the end

own-all : (events : List CellEvent) → AllByRecursion (λ e. actor_of e ≡ 0) events → events_of 0 events ≡ events
own-all [] all = refl
own-all (e ∷ rest) all =
    ap (λ (a : ℕ). if a == 0 then e ∷ events_of 0 rest else events_of 0 rest) all.0 ∙ ap (λ (l : List CellEvent). e ∷ l) (own-all rest all.1)

last_body : (body : List CellEvent) → IsBodyOf body (Tick 10 ∷ []) → body ≡ Tick 10 ∷ []
last_body body is = sym (own-all body (body_each (λ e. actor_of e ≡ 0) body (Tick 10 ∷ []) is (refl, tt))) ∙ is.each 0

-- the last events are the last tick and its drains
pub record EndsSo (n : ℕ) (events : List CellEvent) : Type 0 where
  pub front : List CellEvent
  pub so : events ≡ front ++ (Tick 10 ∷ drains (clients_to n))

rounds_end : (n : ℕ) (random : Lcg) (round more : ℕ) (bodies : List (List CellEvent)) → Interleaves bodies (rounds_from random n round more) → EndsSo n (history n bodies)
rounds_end n random round zero [] is = absurd is
rounds_end n random round zero (b ∷ []) is =
    record { front = []; so = append-nil (b ++ drains (clients_to n)) ∙ ap (λ (l : List CellEvent). l ++ drains (clients_to n)) (last_body b is.0) }
rounds_end n random round zero (b ∷ d ∷ bodies) is = absurd is.1
rounds_end n random round (suc more) [] is = absurd is
rounds_end n random round (suc more) (b ∷ bodies) is =
    let rest = rounds_end n (advance 64 multiplier_64 n random) (round + 1) more bodies is.1 in
    record {
      front = (b ++ drains (clients_to n)) ++ rest.front;
      so = ap (λ (l : List CellEvent). (b ++ drains (clients_to n)) ++ l) rest.so ∙ sym (append_assoc (b ++ drains (clients_to n)) rest.front (Tick 10 ∷ drains (clients_to n)));
    }

front-may : (n count : ℕ) (s : State) (xs ys : List CellEvent) → IsTrial count s → length s.clients ≡ n → AllMayDo n s (xs ++ ys) → (after : ℕ) × IsTrial after (fold step s xs)
front-may n count s [] ys is many may = (count, is)
front-may n count s (event ∷ rest) ys is many may =
    let goes = goes_next n count s event (rest ++ ys) is many may in
    front-may n (count + 1) (step s event) rest ys (trial_step count s is event goes) (step_sized s event ∙ many) (rest_may n s event (rest ++ ys) goes may)

drained-waits : (s : State) (ds : List ℕ) (c : ℕ) → waits_at s c ≡ 0 → waits_at (fold step s (drains ds)) c ≡ 0
drained-waits s [] c none = none
drained-waits s (d ∷ ds) c none = drained-waits (step s (Drain d)) ds c (let one = even-drains c d s.clients in let zero_more = no-more c d in omega (arith, one, zero_more, none))

over-zero : (f : ℕ → ℕ) → ((c : ℕ) → f c ≡ 0) → (cs : List ℕ) → over f cs ≡ 0
over-zero f each [] = refl
over-zero f each (c ∷ cs) = let one = each c in let rest = over-zero f each cs in omega (arith, one, rest)

end-waits : (n count : ℕ) (s : State) (events : List CellEvent) → IsTrial count s → length s.clients ≡ n → AllMayDo n s events → EndsSo n events → (c : ℕ) → waits_at (fold step s events) c ≡ 0
end-waits n count s events is many may ends c =
    ap (λ (l : List CellEvent). waits_at (fold step s l) c) ends.so
    ∙ ap (λ (t : State). waits_at t c) (fold-append step s ends.front (Tick 10 ∷ drains (clients_to n)))
    ∙ (let before = front-may n count s ends.front (Tick 10 ∷ drains (clients_to n)) is many (subst (λ (l : List CellEvent). AllMayDo n s l) ends.so may) in
    drained-waits (step (fold step s ends.front) (Tick 10)) (clients_to n) c
    (none_waits before.0 (fold step s ends.front) 10 (omega arith) before.1 (before.0 + 1) (trial_step before.0 (fold step s ends.front) before.1 (Tick 10) (goes_tick before.0 (fold step s ends.front) before.1 10)) c))

-- ---- the start

first-edition : (n : ℕ) (xs : List ℕ) (k : ℕ) → (unwrap_or (slice_get (map (λ i. new_row i (device_of (stress_config n))) xs) k) no_client).constants.edition ≡ One
first-edition n [] k = refl
first-edition n (x ∷ xs) zero = refl
first-edition n (x ∷ xs) (suc k) = first-edition n xs k

first-idle : (n : ℕ) (xs : List ℕ) (k : ℕ) → is_open (unwrap_or (slice_get (map (λ i. new_row i (device_of (stress_config n))) xs) k) no_client).association ≡ false
first-idle n [] k = refl
first-idle n (x ∷ xs) zero = refl
first-idle n (x ∷ xs) (suc k) = first-idle n xs k

start-closed : (n c : ℕ) → has_open c (start (stress_config n)).clients ≡ false
start-closed n zero = refl
start-closed n (suc c) = first-idle n (clients_to n) c

start_trial : (n : ℕ) → 1 ≤ n → n ≤ 64 → IsTrial 0 (start (stress_config n))
start_trial n some few = record {
  sound = start_sound (stress_config n) (configured n some few);
  linked = linked-start (stress_config n);
  soon = tt;
  quiet = refl;
  edition = by_client;
}
  where
    by_client : (c : ℕ) → (row_at cell c (start (stress_config n)).clients).constants.edition ≡ One
    by_client zero = refl
    by_client (suc c) = first-edition n (clients_to n) c

-- ---- the law

pub replies : (seed n rounds : ℕ) (bodies : List (List CellEvent)) → 1 ≤ n → n ≤ 64 → rounds ≤ 1000 → Interleaves bodies (stress_phases seed n rounds)
    → replies_in (said (stress_config n)) n bodies ≡ n + 1 + rounds * n
replies seed n rounds [] some few most is = absurd is
replies seed n rounds (body ∷ bodies) some few most is =
    let sends = replies_sent (stress_config n) (body ∷ bodies) quiet in
    let all = fares n 0 s (history n (body ∷ bodies)) trial (length-start (stress_config n)) may of in
    let sums = all.sums in
    let first = over-zero (waits_at s) (λ c. ap length (none-at-first (stress_config n) c)) (clients_to n) in
    let last = over-zero (waits_at (fold step s (history n (body ∷ bodies)))) (end-waits n 0 s (history n (body ∷ bodies)) trial (length-start (stress_config n)) may ends) (clients_to n) in
    let heard = history_counts is_heard (λ d. refl) n (body ∷ bodies) (stress_phases seed n rounds) is ∙ phases-heard n seed rounds in
    omega (arith, sends, sums, first, last, heard)
  where
    s : State
    s = start (stress_config n)

    trial : IsTrial 0 s
    trial = start_trial n some few

    quiet : AllByRecursion (AllByRecursion IsNoDrain) (body ∷ bodies)
    quiet = bodies_each IsNoDrain (body ∷ bodies) (stress_phases seed n rounds) is (phases-each IsNoDrain n (λ c octets a b. tt) (λ ms. tt) seed rounds some)

    of : AllByRecursion (IsOf n) (history n (body ∷ bodies))
    of = history_each (IsOf n) (λ c. tt) n (body ∷ bodies) (bodies_each (IsOf n) (body ∷ bodies) (stress_phases seed n rounds) is (phases-each (IsOf n) n (λ c octets a b. (a, b)) (λ ms. tt) seed rounds some))

    later : AllByRecursion (IsAsk n) (history n bodies)
    later = history_each (IsAsk n) (λ c. tt) n bodies (rounds_ask n (random_of seed) 1 rounds bodies (omega (arith, most)) is.1)

    drains-ask : (cs : List ℕ) → AllByRecursion (IsAsk n) (drains cs)
    drains-ask [] = tt
    drains-ask (c ∷ cs) = (tt, drains-ask cs)

    may : AllMayDo n s (history n (body ∷ bodies))
    may c =
        subst (λ (b : Bool). MayDo n b (events_of c (history n (body ∷ bodies)))) (sym (start-closed n c))
        (subst (λ (l : List CellEvent). MayDo n false (events_of c l)) (sym (append_assoc body (drains (clients_to n)) (history n bodies)))
        (opening_may n some body (drains (clients_to n) ++ history n bodies) is.0 (all_append (IsAsk n) (drains (clients_to n)) (history n bodies) (drains-ask (clients_to n)) later) c))

    ends : EndsSo n (history n (body ∷ bodies))
    ends =
        let rest = rounds_end n (random_of seed) 1 rounds bodies is.1 in
        record {
          front = (body ++ drains (clients_to n)) ++ rest.front;
          so = ap (λ (l : List CellEvent). (body ++ drains (clients_to n)) ++ l) rest.so ∙ sym (append_assoc (body ++ drains (clients_to n)) rest.front (Tick 10 ∷ drains (clients_to n)));
        }
