-- What each event makes of a state.
use Rattle.std.specs.Prelude.{◌≡◌, ℕ, zero, suc, ◌+◌, ◌-◌, ◌≤◌, ◌<◌, Bool, true, false, Option, None, Some, List, [], ◌∷◌, ◌++◌, map, fold, length, if◌then◌else◌, refl}
use Rattle.std.proofs.Common.{ap, sym, ◌∙◌, arith, length-append}
use Rattle.std.proofs.lemmas.List.{length-map, map-append}
use Rattle.mms_types.specs.Actors.{clients_to}
use Rattle.mms_types.specs.declared.event.CellEvent.{CellEvent}
use Rattle.mms_types.specs.declared.event.CellEvent.TheVariants.{Heard, Lost, Tick, Ends, Drain}
use Rattle.association.specs.Client.{ClientRow, new_row, drained_row}
use Rattle.cell_config.specs.declared.config.Config.{Config}
use Rattle.cell_config.specs.Said.{IsConfig}
use Rattle.parted_state.specs.Served.{change}
use Rattle.parted_state.specs.Served as parted
use Rattle.parted_state.specs.ServedLaws as served
use Rattle.step_parts.specs.declared.part.Part.{Part}
use Rattle.step_parts.specs.declared.part.Part.TheVariants.{Clock, Variables, Domains, Programs, Events, Journals, Semaphores}
use Rattle.step_parts.specs.State.{State, start, device_of, first_rows, HasDate}
use Rattle.cell_services.specs.Tables.{Tables}
use Rattle.cell_client.specs.Effects.{Effect, felt, felt_all, tell}
use Rattle.cell_client.specs.Association.{Verdict, Takes, Cancels, verdict, Replies}
use Rattle.cell_services.specs.Services.{InArea, OfDevice, OfVariables, OfSemaphores, area_of, effect, effect_of, OfDomains, OfEvents, OfInvocations, OfJournals, OfPrograms, reply_in}
use Rattle.association.specs.declared.negotiation.Association.{Association}
use Rattle.association.specs.declared.negotiation.Association.TheVariants.{Idle, Open}
use Rattle.association.specs.declared.waiting.Waiting.{Waiting}
use Rattle.cell_services.specs.Serving.{is_served, tables_cancelled, tables_lost, tables_heard, services, waiting_of, is_served_in, resolved}
use Rattle.step_parts.specs.Partition.{cell, parts_of, client_part, client_place, on_client}
use Rattle.step_parts.specs.AfterLaws.{is_device}
use Rattle.step_parts.specs.Step.{step, replay, MayCome, MayFollow}

module _ {A : Type 0} where
  pub change-append : (f : A → A) (xs ys : List A) (i : ℕ) → i < length xs → change f (xs ++ ys) i ≡ change f xs i ++ ys
  change-append f [] ys i within = absurd (omega arith)
  change-append f (x ∷ xs) ys zero within = refl
  change-append f (x ∷ xs) ys (suc i) within =
      let rest : i < length xs = omega arith in ap (λ (l : List A). x ∷ l) (change-append f xs ys i rest)

  change-none : (xs : List A) (i : ℕ) → change (λ x. x) xs i ≡ xs
  change-none [] i = refl
  change-none (x ∷ xs) zero = refl
  change-none (x ∷ xs) (suc i) = ap (λ (l : List A). x ∷ l) (change-none xs i)

  change-twice : (f g : A → A) (xs : List A) (i : ℕ) → change f (change g xs i) i ≡ change (λ x. f (g x)) xs i
  change-twice f g [] i = refl
  change-twice f g (x ∷ xs) zero = refl
  change-twice f g (x ∷ xs) (suc i) = ap (λ (l : List A). x ∷ l) (change-twice f g xs i)
  -- what is changed is the one that stands there

pub change-map : {A B : Type 0} (g : B → B) (f : A → A) (h : A → B) → ((x : A) → g (h x) ≡ h (f x)) → (xs : List A) (i : ℕ)
    → change g (map h xs) i ≡ map h (change f xs i)
change-map g f h same [] i = refl
change-map {A} {B} g f h same (x ∷ xs) zero = ap (λ (y : B). y ∷ map h xs) (same x)
change-map {A} {B} g f h same (x ∷ xs) (suc i) = ap (λ (l : List B). h x ∷ l) (change-map g f h same xs i)

-- ---- a client's part among the parts

pub length-parts : (s : State) → length (parts_of s) ≡ length s.clients + 7
length-parts s =
    let rows : length (map client_part s.clients ++ Semaphores s.semaphores ∷ []) ≡ length (map client_part s.clients) + 1 = length-append (map client_part s.clients) (Semaphores s.semaphores ∷ []) in
    omega (arith, rows, length-map s.clients client_part)

-- the row of a client is changed
abbrev pub with_client : State → ℕ → (ClientRow → ClientRow) → State
with_client s client f = record s { clients = change f s.clients (client - 1) }

pub in_front : (client : ℕ) → 1 ≤ client → client_place client ≡ suc (suc (suc (suc (suc (suc (client - 1))))))
in_front client some = omega arith

pub client_changed : (s : State) (client : ℕ) (f : ClientRow → ClientRow) → 1 ≤ client → client ≤ length s.clients
    → parts_of (with_client s client f) ≡ change (on_client f) (parts_of s) (client_place client)
client_changed s client f some there =
    let within : client - 1 < length (map client_part s.clients) = omega (arith, length-map s.clients client_part) in
    let rest : change (on_client f) (map client_part s.clients ++ Semaphores s.semaphores ∷ []) (client - 1) ≡ map client_part (change f s.clients (client - 1)) ++ Semaphores s.semaphores ∷ [] =
    change-append (on_client f) (map client_part s.clients) (Semaphores s.semaphores ∷ []) (client - 1) within
    ∙ ap (λ (l : List Part). l ++ Semaphores s.semaphores ∷ []) (change-map (on_client f) f client_part (λ x. refl) s.clients (client - 1)) in
    ap (λ (l : List Part). Clock s.now ∷ Variables s.variables ∷ Domains s.domains ∷ Programs s.programs ∷ Events s.events ∷ Journals s.journals ∷ l) (sym rest)
    ∙ ap (λ (i : ℕ). change (on_client f) (parts_of s) i) (sym (in_front client some))

-- ---- what is told to one client changes its row

pub told_one : (effects : List Effect) (i : ℕ) (rows : List ClientRow) → parted.delivered cell (tell (suc i) effects) rows ≡ change (felt_all effects) rows i
told_one [] i rows = sym (change-none rows i)
told_one (effect ∷ effects) i rows = told_one effects i (change (felt effect) rows i) ∙ change-twice (felt_all effects) (felt effect) rows i

-- no request moves the clock, in no area
now_kept : (t : Tables) (row : ClientRow) (invoke : ℕ) (a : InArea) → (effect_of t row invoke a).tables.now ≡ t.now
now_kept t row invoke (OfDevice r) = refl
now_kept t row invoke (OfVariables r) = refl
now_kept t row invoke (OfDomains r) = refl
now_kept t row invoke (OfInvocations r) = refl
now_kept t row invoke (OfPrograms r) = refl
now_kept t row invoke (OfEvents r) = refl
now_kept t row invoke (OfJournals r) = refl
now_kept t row invoke (OfSemaphores r) = refl

now_heard : (t : Tables) (row : ClientRow) (v : Verdict) → (tables_heard t row v).now ≡ t.now
now_heard t row (Takes invoke asked) = by_test (is_served t row invoke asked)
  where
    by_test : (b : Bool) → (if b then (effect t row invoke asked).tables else t).now ≡ t.now
    by_test true = now_kept t row invoke (area_of asked)
    by_test false = refl
now_heard t row (Replies number came) = by_test (is_served_in t row number (reply_in number came))
  where
    by_test : (b : Bool) → (if b then (effect_of t row number (reply_in number came)).tables else t).now ≡ t.now
    by_test true = now_kept t row number (reply_in number came)
    by_test false = refl
now_heard t row (Cancels invoke) = by_waiting (waiting_of invoke row.waiting)
  where
    by_waiting : (o : Option Waiting) → (tables_cancelled o t).now ≡ t.now
    by_waiting None = refl
    by_waiting (Some request) = refl
now_heard t row other = refl

-- nor does a loss
pub now_lost : (a : Association) (client : ℕ) (t : Tables) → (tables_lost a client t).now ≡ t.now
now_lost Idle client t = refl
now_lost (Open values) client t = refl

-- ---- each event

pub step_drained : (s : State) (client : ℕ) → 1 ≤ client → client ≤ length s.clients → step s (Drain client) ≡ with_client s client drained_row
step_drained s zero some there = absurd (omega arith)
step_drained s (suc i) some there =
    let first : suc i - 1 ≡ i = omega arith in
    ap (λ (k : ℕ). at (change drained_row s.clients k)) (sym first)
  where
    at : List ClientRow → State
    at rows = record { now = s.now; variables = s.variables; domains = s.domains; programs = s.programs; events = s.events; journals = s.journals; semaphores = s.semaphores; clients = rows }

-- as many clients
pub step_sized : (s : State) (event : CellEvent) → length (step s event).clients ≡ length s.clients
step_sized s event = served.length-delivered cell is_device (parted.done_of cell services s event).told s.clients

-- the moment moves by ticks alone
pub step_still : (s : State) (client : ℕ) (octets : List ℕ) → (step s (Heard client octets)).now ≡ s.now
step_still s client octets =
    let row = parted.row_of cell services s (Heard client octets) in
    now_heard (cell.tables_of s) row (resolved (cell.tables_of s) row (verdict row octets))

-- ---- what holds of each state

pub length-clients_to : (n : ℕ) → length (clients_to n) ≡ n
length-clients_to zero = refl
length-clients_to (suc n) = length-append (clients_to n) (suc n ∷ []) ∙ omega (arith, length-clients_to n)

pub length-start : (config : Config) → length (start config).clients ≡ config.clients
length-start config = length-map (clients_to config.clients) (λ c. new_row c (device_of config)) ∙ length-clients_to config.clients

-- ---- and what holds where time ends no later than the last moment

step_dated : (s : State) (event : CellEvent) → HasDate s → MayCome s event → HasDate (step s event)
step_dated s (Heard client octets) dated may = let still = step_still s client octets in omega (arith, still, dated)
step_dated s (Lost client) dated may =
    let row = parted.row_of cell services s (Lost client) in
    let still = now_lost row.association row.client (cell.tables_of s) in
    omega (arith, still, dated)
step_dated s (Tick ms) dated may = may.time
step_dated s (Ends name) dated may = dated
step_dated s (Drain client) dated may = dated

dated_along : (s : State) (history : List CellEvent) → HasDate s → MayFollow s history → HasDate (fold step s history)
dated_along s [] dated may = dated
dated_along s (event ∷ rest) dated may = dated_along (step s event) rest (step_dated s event dated may.0) may.1

pub replay_dated : (config : Config) (history : List CellEvent) → IsConfig config → MayFollow (start config) history → HasDate (replay config history)
replay_dated config history is may = dated_along (start config) history (let d = is.dated in omega (arith, d)) may

-- one client more at the start
pub start_more : (config : Config) (n : ℕ)
    → map client_part (first_rows config (n + 1)) ≡ map client_part (first_rows config n) ++ client_part (new_row (n + 1) (device_of config)) ∷ []
start_more config n =
    let next : n + 1 ≡ suc n = omega arith in
    ap (λ (m : ℕ). map client_part (first_rows config m)) next
    ∙ ap (λ (l : List ClientRow). map client_part l) (map-append (λ c. new_row c (device_of config)) (clients_to n) (suc n ∷ []))
    ∙ map-append client_part (first_rows config n) (new_row (suc n) (device_of config) ∷ [])
    ∙ ap (λ (m : ℕ). map client_part (first_rows config n) ++ client_part (new_row m (device_of config)) ∷ []) (sym next)
