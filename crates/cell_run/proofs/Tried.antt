-- Phases that are made, served and counted, one after the other.
use Rattle.std.proofs.Common.{◌≡◌, ℕ, zero, suc, ◌+◌, ◌-◌, ◌*◌, ◌^◌, ◌≤◌, ◌<◌, Bool, false, cond, List, [], ◌∷◌, ◌++◌, map, length, length-append, refl, sym, ap, ap₂, subst, ◌∙◌, arith, append_assoc, append-nil}
use Rattle.std.specs.List.{AllByRecursion, count_by}
use Rattle.std.proofs.lemmas.List.Elements.{All-from_recursion}
use Rattle.std.proofs.lemmas.List.Sums.{sum_by-append, sum_by-cons}
use Rattle.mms_types.specs.Actors.{clients_to}
use Rattle.mms_types.specs.declared.event.What.{What}
use Rattle.mms_types.specs.declared.event.CellEvent.{CellEvent}
use Rattle.mms_types.specs.declared.event.CellEvent.TheVariants.{Drain}
use Rattle.cell_config.specs.declared.config.Config.{Config}
use Rattle.step_parts.specs.Step.{said}
use Rattle.cell_record.specs.EventLine.{IsRecorded}
use Rattle.cell_record.specs.Grammar.{all_ms, phase_ms}
use Rattle.cell_record.specs.History.{Interleaves, drains, history}
use Rattle.cell_record.specs.Report.{is_printed, placed_from, taken}
use Rattle.cell_record.specs.declared.told.Told.{Told}
use Rattle.cell_stress.specs.Counts.{events_in, is_request, pdus_in, replies_from, requests_in}
use Rattle.cell_stress.specs.Stress.{stress_config, stress_phases}
use Rattle.cell_stress.proofs.Sums.{phases_many, phases_ms, phases_recorded, phases_short}
use Rattle.cell_run.specs.declared.crew.Crew.{Crew}
use Rattle.cell_run.specs.declared.stressing.Numbers.{Numbers}
use Rattle.cell_run.specs.Counted.{AreCounts, AreFew, HasCounted}
use Rattle.cell_run.specs.Running.{HasRun, MayRun, size_of}
use Rattle.cell_run.specs.Serving.{IsNext, ServesPhase}
use Rattle.cell_run.proofs.Fronts.{history-snoc}
use Rattle.cell_run.proofs.Phases.{interleaves_length}

-- ---- a phase among the phases

one_of : {X : Type 0} (P : X → Type 0) (done : List X) (x : X) (left : List X) → AllByRecursion P (done ++ x ∷ left) → P x
one_of P [] x left h = h.0
one_of P (y ∷ done) x left h = one_of P done x left h.1

sizes_of : (n : ℕ) (done left : List (List CellEvent)) → n ≤ 65 → AllByRecursion (λ phase. length phase ≤ n) (done ++ left) → size_of done ≤ 65 * length done
sizes_of n [] left few h = omega arith
sizes_of n (phase ∷ done) left few h = let rest = sizes_of n done left few h.1 in let one = h.0 in omega (arith, rest, one, few)

ms_of : (done left : List (List CellEvent)) (phase : List CellEvent) → all_ms (done ++ phase ∷ left) ≡ all_ms done + (phase_ms phase + all_ms left)
ms_of [] left phase = omega arith
ms_of (one ∷ done) left phase = let rest = ms_of done left phase in omega (arith, rest)

module _ (seed clients rounds : ℕ) (some : 1 ≤ clients) (few : clients ≤ 64) (most : rounds ≤ 1000) (done left : List (List CellEvent)) (phase : List CellEvent) (parts : done ++ phase ∷ left ≡ stress_phases seed clients rounds) where
  how_many : length done + 1 ≤ rounds + 2
  how_many =
      let n = ap length parts in
      let all = phases_many clients seed rounds in
      omega (arith, n, all, length-append done (phase ∷ left))

  short : AllByRecursion (λ (p : List CellEvent). length p ≤ clients + 1) (done ++ phase ∷ left)
  short = subst (AllByRecursion (λ (p : List CellEvent). length p ≤ clients + 1)) (sym parts) (phases_short clients seed rounds)

  -- it may come next
  pub comes_next : IsNext (stress_config clients) done phase
  comes_next = record {
    recorded = All-from_recursion (IsRecorded (stress_config clients)) phase
        (one_of (AllByRecursion (IsRecorded (stress_config clients))) done phase left (subst (AllByRecursion (AllByRecursion (IsRecorded (stress_config clients)))) (sym parts) (phases_recorded clients seed rounds some)));
    clock = (let whole = ms_of done left phase in let n = ap all_ms parts in let all = phases_ms clients seed rounds in omega (arith, whole, n, all, most));
    few = (let one = one_of (λ (p : List CellEvent). length p ≤ clients + 1) done phase left short in omega (arith, one, few));
    many = (let n = how_many in omega (arith, n, most));
  }

  pub sizes : size_of done + length phase ≤ 2 ^ 32
  sizes =
      let one = one_of (λ (p : List CellEvent). length p ≤ clients + 1) done phase left short in
      let all = sizes_of (clients + 1) done (phase ∷ left) (omega (arith, few)) short in
      let n = how_many in
      omega (arith, one, all, n, few, most)

-- ---- what is counted

counts-append : (is : CellEvent → Bool) (xs ys : List CellEvent) → count_by is (xs ++ ys) ≡ count_by is xs + count_by is ys
counts-append is xs ys = sum_by-append (λ e. cond (is e) 1 0) xs ys

-- where drains don't count, a body counts what it counts alone
body_more : (is : CellEvent → Bool) → ((c : ℕ) → is (Drain c) ≡ false) → (n : ℕ) (bodies : List (List CellEvent)) (body : List CellEvent)
    → count_by is (history n (bodies ++ body ∷ [])) ≡ count_by is (history n bodies) + count_by is body
body_more is none n bodies body =
    let whole = ap (count_by is) (history-snoc n bodies body) in
    let one = counts-append is (history n bodies) (body ++ drains (clients_to n)) in
    let two = counts-append is body (drains (clients_to n)) in
    let rest = drained (clients_to n) in
    omega (arith, whole, one, two, rest)
  where
    drained : (cs : List ℕ) → count_by is (drains cs) ≡ 0
    drained [] = refl
    drained (c ∷ cs) = let more = rw (none c) at (sum_by-cons (λ e. cond (is e) 1 0) (Drain c) (drains cs)) in let rest = drained cs in omega (arith, more, rest)

placed_events : (at : ℕ) (body : List CellEvent) → map (λ (placed : ℕ × CellEvent). placed.1) (placed_from at body) ≡ body
placed_events at [] = refl
placed_events at (event ∷ body) = ap (λ (l : List CellEvent). event ∷ l) (placed_events (at + 1) body)

replies_more : (said : List CellEvent → ℕ → List What) (n : ℕ) (before : List CellEvent) (bodies : List (List CellEvent)) (body : List CellEvent)
    → replies_from said n before (bodies ++ body ∷ []) ≡ replies_from said n before bodies + pdus_in (taken said ((before ++ history n bodies) ++ body) (clients_to n))
replies_more said n before [] body =
    let same = ap (λ (l : List CellEvent). pdus_in (taken said (l ++ body) (clients_to n))) (append-nil before) in omega (arith, same)
replies_more said n before (one ∷ bodies) body =
    let rest = replies_more said n (before ++ (one ++ drains (clients_to n))) bodies body in
    let same = ap (λ (l : List CellEvent). pdus_in (taken said (l ++ body) (clients_to n))) (append_assoc before (one ++ drains (clients_to n)) (history n bodies)) in
    omega (arith, rest, same)

taken_length : (said : List CellEvent → ℕ → List What) (before : List CellEvent) (cs : List ℕ) → length (taken said before cs) ≡ length cs
taken_length said before [] = refl
taken_length said before (c ∷ cs) = let rest = taken_length said (before ++ Drain c ∷ []) cs in omega (arith, rest)

clients_length : (n : ℕ) → length (clients_to n) ≡ n
clients_length zero = refl
clients_length (suc n) = let rest = clients_length n in omega (arith, rest, length-append (clients_to n) (suc n ∷ []))

-- ---- so far

-- some of the phases were served by bodies and counted, and these are left
pub record Tries (seed clients rounds : ℕ) (crew : Crew) (left : List (List CellEvent)) (numbers : Numbers) : Type 0 where
  pub done : List (List CellEvent)
  pub bodies : List (List CellEvent)
  pub parts : done ++ left ≡ stress_phases seed clients rounds
  pub run : HasRun crew (stress_config clients) done bodies
  pub counts : AreCounts (stress_config clients) bodies numbers
  pub few : AreFew numbers

pub begins : (seed clients rounds : ℕ) (crew : Crew) (config : Config) (left : List (List CellEvent)) (numbers : Numbers) → config ≡ stress_config clients → HasRun crew config [] [] → left ≡ stress_phases seed clients rounds
    → numbers ≡ record { phases = 0; events = 0; requests = 0; replies = 0 } → Tries seed clients rounds crew left numbers
begins seed clients rounds crew config left numbers is run all none = record {
  done = [];
  bodies = [];
  parts = all;
  run = subst (λ (k : Config). HasRun crew k [] []) is run;
  counts = subst (AreCounts (stress_config clients) []) (sym none) (record { phases = refl; events = refl; requests = refl; replies = refl });
  few = subst AreFew (sym none) (omega arith, omega arith, omega arith);
}

module _ (seed clients rounds : ℕ) (some : 1 ≤ clients) (small : clients ≤ 64) (most : rounds ≤ 1000) where
  module _ (crew : Crew) (old left : List (List CellEvent)) (phase : List CellEvent) (numbers : Numbers) (t : Tries seed clients rounds crew old numbers) (is : old ≡ phase ∷ left) where
    parts_are : t.done ++ phase ∷ left ≡ stress_phases seed clients rounds
    parts_are = ap (λ (l : List (List CellEvent)). t.done ++ l) (sym is) ∙ t.parts

    pub may_run_next : MayRun crew phase
    may_run_next = record {
      config = stress_config clients;
      phases = t.done;
      bodies = t.bodies;
      served = t.run;
      next = comes_next seed clients rounds some small most t.done left phase parts_are;
      size = sizes seed clients rounds some small most t.done left phase parts_are;
    }

    pub phases_few : numbers.phases < 2 ^ 32 - 1
    phases_few =
        let n = how_many seed clients rounds some small most t.done left phase parts_are in
        let same = interleaves_length t.bodies t.done t.run.interleave in
        let count = t.counts.phases in
        omega (arith, n, same, count, most)

    module _ (number : ℕ) (told : Told) (now : Crew) (s : ServesPhase (stress_config clients) t.done t.bodies number phase told (HasRun now)) where
      pub outputs_few : length told.outputs ≤ 64
      outputs_few =
          let n = ap length s.outputs in
          let a = taken_length (said (stress_config clients)) (history clients t.bodies ++ s.body) (clients_to clients) in
          let b = clients_length clients in
          omega (arith, n, a, b, small)

      pub goes_on : (after : Numbers) → after.phases ≡ numbers.phases + 1 → after.events ≡ numbers.events + events_in (map (λ placed. placed.1) told.served)
          → after.requests ≡ numbers.requests + requests_in (map (λ placed. placed.1) told.served) → after.replies ≡ numbers.replies + pdus_in told.outputs → AreFew after
          → Tries seed clients rounds now left after
      goes_on after phases events requests replies few =
          let body : map (λ (placed : ℕ × CellEvent). placed.1) told.served ≡ s.body = ap (map (λ (placed : ℕ × CellEvent). placed.1)) s.placed ∙ placed_events (length (history clients t.bodies) + 1) s.body in
          record {
            done = t.done ++ phase ∷ [];
            bodies = t.bodies ++ s.body ∷ [];
            parts = append_assoc t.done (phase ∷ []) left ∙ parts_are;
            run = s.served;
            counts = record {
              phases = phases ∙ ap (λ n. n + 1) t.counts.phases ∙ sym (length-append t.bodies (s.body ∷ []));
              events = events ∙ ap₂ (λ a b. a + b) t.counts.events (ap events_in body) ∙ sym (body_more is_printed (λ c. refl) clients t.bodies s.body);
              requests = requests ∙ ap₂ (λ a b. a + b) t.counts.requests (ap requests_in body) ∙ sym (body_more is_request (λ c. refl) clients t.bodies s.body);
              replies = replies ∙ ap₂ (λ a b. a + b) t.counts.replies (ap pdus_in s.outputs) ∙ sym (replies_more (said (stress_config clients)) clients [] t.bodies s.body);
            };
            few = few;
          }

  pub all_counted : (crew : Crew) (left : List (List CellEvent)) (numbers : Numbers) → Tries seed clients rounds crew left numbers → left ≡ [] → HasCounted seed clients rounds numbers
  all_counted crew left numbers t none = record {
    bodies = t.bodies;
    interleave = subst (Interleaves t.bodies) (sym (append-nil t.done) ∙ ap (λ (l : List (List CellEvent)). t.done ++ l) (sym none) ∙ t.parts) t.run.interleave;
    counts = t.counts;
  }
