-- Each event of the trial: what it sends, and what it keeps.
use Rattle.std.proofs.Common.{◌≡◌, ℕ, zero, suc, ◌+◌, ◌≤◌, ◌<◌, ◌==◌, Bool, true, false, cond, nat_lt, List, [], ◌∷◌, slice_get, unwrap_or, option_map, if◌then◌else◌, refl, sym, ◌∙◌, ap, subst, arith, length}
use Rattle.mms_types.specs.declared.event.CellEvent.{CellEvent}
use Rattle.mms_types.specs.declared.event.CellEvent.TheVariants.{Heard, Tick, Drain}
use Rattle.mms_types.specs.declared.pdu.Pdu.TheVariants as pdu
use Rattle.mms_pdu.specs.Hearing.{depth_of}
use Rattle.association.specs.declared.constants.Constants.{Constants}
use Rattle.association.specs.declared.negotiation.Association.{Association}
use Rattle.association.specs.declared.negotiation.Association.TheVariants.{Idle, Open}
use Rattle.association.specs.declared.negotiation.Negotiated.{Negotiated}
use Rattle.association.specs.Client.{ClientRow}
use Rattle.association.specs.Negotiation.{answer_to}
use Rattle.parted_state.specs.ListsLaws.{get_changed}
use Rattle.parted_state.specs.Served.{delivered, reached, row_at}
use Rattle.cell_client.specs.Association.{Verdict, Tells, requested, sends, verdict}
use Rattle.cell_client.specs.Effects.{Opens, Drains, felt}
use Rattle.cell_ticks.specs.Ticks.{begun}
use Rattle.cell_services.specs.Serving.{hears, meanwhile, saying}
use Rattle.cell_services.specs.Tables.{Tables, moment_after}
use Rattle.cell_stress.specs.Requests.{proposal}
use Rattle.step_parts.specs.Partition.{cell, no_client}
use Rattle.step_parts.specs.State.{State}
use Rattle.step_parts.specs.Step.{step}
use Rattle.step_parts.proofs.PartsAfter.{step_still}
use Rattle.step_sound.proofs.Sound.{step_sound}
use Rattle.cell_laws.specs.Tally.{told_in}
use Rattle.cell_laws.proofs.Bound.{nat-same}
use Rattle.cell_laws.proofs.Hears.{row-other}
use Rattle.cell_laws.proofs.Linking.{linked_step}
use Rattle.stress_laws.proofs.Balance.{Even, Steady, even-both, even-drains, even-none, even-opens, even-sends, of_client, steady_association, told_constants}
use Rattle.stress_laws.proofs.Hearing.{asked_one}
use Rattle.stress_laws.proofs.Soon.{RowsSoon, rows_later}
use Rattle.stress_laws.proofs.Ticking.{EvenMeanwhile, even_ticked}
use Rattle.stress_laws.proofs.Trial.{IsProposal, IsRequest, IsTrial, opening_told, proposal_verdict, request_verdict, requested_well, values}

abbrev pub is_open : Association → Bool
is_open Idle = false
is_open (Open negotiated) = true

-- a client has an association
abbrev pub has_open : ℕ → List ClientRow → Bool
has_open c rows = is_open (row_at cell c rows).association

-- how much an event asks for a client
abbrev pub asks_for : ℕ → CellEvent → ℕ
asks_for c (Heard client octets) = of_client c client 1
asks_for c event = 0

-- a client has an association behind an event, where it had one or not
abbrev pub opens_by : ℕ → CellEvent → Bool → Bool
opens_by c (Heard client octets) was = if c == client then true else was
opens_by c event was = was

-- what an event of the trial sends and keeps
pub record Goes (s : State) (event : CellEvent) : Type 0 where
  pub even : (c : ℕ) → Even c (told_in s event) s.clients (asks_for c event)
  pub soon : RowsSoon (record { 0 = (step s event).now }) (step s event).semaphores
  pub quiet : (step s event).events.conditions ≡ []
  pub opened : (c : ℕ) → has_open c (step s event).clients ≡ opens_by c event (has_open c s.clients)

-- ---- a request

pub no-more : (c k : ℕ) → of_client c k 0 ≡ 0
no-more c k = by_test (c == k)
  where
    by_test : (b : Bool) → cond {A = ℕ} b 0 0 ≡ 0
    by_test true = refl
    by_test false = refl

module _ (count : ℕ) (s : State) (is : IsTrial count s) (client : ℕ) (octets : List ℕ) where
  abbrev its : ClientRow
  its = row_at cell client s.clients

  abbrev old : Tables
  old = cell.tables_of s

  now_soon : RowsSoon (record { 0 = s.now }) (step s (Heard client octets)).semaphores → RowsSoon (record { 0 = (step s (Heard client octets)).now }) (step s (Heard client octets)).semaphores
  now_soon soon = subst (λ (now : ℕ). RowsSoon (record { 0 = now }) (step s (Heard client octets)).semaphores) (sym (step_still s client octets)) soon

  goes-open : (negotiated : Negotiated) → its.association ≡ Open negotiated → IsRequest octets → Goes s (Heard client octets)
  goes-open negotiated opened asks = record {
    even = λ c. (one c).0;
    soon = now_soon well.0;
    quiet = well.1;
    opened = λ c. same c ∙ by_test c (c == client) refl;
  }
    where
      v : Verdict
      v = requested (nat_lt negotiated.nesting (depth_of (pdu.ConfirmedRequest asks.invoke asks.asked))) its asks.invoke asks.asked

      spoken : verdict its octets ≡ v
      spoken = request_verdict its octets negotiated asks opened (is.edition client)

      one : (c : ℕ) → Even c (told_in s (Heard client octets)) s.clients (of_client c client 1) × Steady (told_in s (Heard client octets))
      one c =
          subst (λ (w : Verdict). Even c (hears old its client w).told s.clients (of_client c client 1) × Steady (hears old its client w).told) (sym spoken)
          (asked_one count s is.sound is.linked.bound is.linked.distinct client c negotiated asks.invoke asks.asked asks.of)

      well : RowsSoon (record { 0 = s.now }) (hears old its client (verdict its octets)).tables.semaphores × ((hears old its client (verdict its octets)).tables.events.conditions ≡ [])
      well =
          subst (λ (w : Verdict). RowsSoon (record { 0 = s.now }) (hears old its client w).tables.semaphores × ((hears old its client w).tables.events.conditions ≡ [])) (sym spoken)
          (requested_well old its (is.soon, is.quiet) (nat_lt negotiated.nesting (depth_of (pdu.ConfirmedRequest asks.invoke asks.asked))) asks.invoke asks.asked asks.of asks.well)

      same : (c : ℕ) → has_open c (step s (Heard client octets)).clients ≡ has_open c s.clients
      same c = ap is_open (steady_association (told_in s (Heard client octets)) (one c).1 c s.clients)

      by_test : (c : ℕ) (b : Bool) → (c == client) ≡ b → has_open c s.clients ≡ (if b then true else has_open c s.clients)
      by_test c true e = ap (λ (d : ℕ). has_open d s.clients) (nat-same c client e) ∙ ap is_open opened
      by_test c false e = refl

  pub goes_request : has_open client s.clients ≡ true → IsRequest octets → Goes s (Heard client octets)
  goes_request opened asks = by_association its.association refl opened
    where
      by_association : (a : Association) → its.association ≡ a → is_open a ≡ true → Goes s (Heard client octets)
      by_association Idle e h = absurd (cc h)
      by_association (Open negotiated) e h = goes-open negotiated e asks

  -- ---- a proposal

  there : (rows : List ClientRow) (j : ℕ) → j < length rows → is_open (unwrap_or (option_map (felt (Opens values)) (slice_get rows j)) no_client).association ≡ true
  there [] j low = absurd (omega (arith, low))
  there (row ∷ rows) zero low = refl
  there (row ∷ rows) (suc j) low = there rows j (omega (arith, low))

  opened-row : (k : ℕ) → 1 ≤ k → k ≤ length s.clients → has_open k (reached cell k (Opens values) s.clients) ≡ true
  opened-row zero some few = absurd (omega (arith, some))
  opened-row (suc j) some few = ap (λ o. is_open (unwrap_or o no_client).association) (get_changed (felt (Opens values)) s.clients j) ∙ there s.clients j (omega (arith, few))

  pub goes_proposal : 1 ≤ client → client ≤ length s.clients → has_open client s.clients ≡ false → IsProposal octets → Goes s (Heard client octets)
  goes_proposal some few closed asks = record {
    even = λ c. subst (λ (w : Verdict). Even c (hears old its client w).told s.clients (of_client c client 1)) (sym spoken) (one c);
    soon = now_soon (subst (λ (w : Verdict). RowsSoon (record { 0 = s.now }) (hears old its client w).tables.semaphores) (sym spoken) is.soon);
    quiet = subst (λ (w : Verdict). (hears old its client w).tables.events.conditions ≡ []) (sym spoken) is.quiet;
    opened = λ c. subst (λ (w : Verdict). has_open c (delivered cell (hears old its client w).told s.clients) ≡ (if c == client then true else has_open c s.clients)) (sym spoken) (behind c);
  }
    where
      idle : (a : Association) → is_open a ≡ false → a ≡ Idle
      idle Idle h = refl
      idle (Open negotiated) h = absurd (cc h)

      spoken : verdict its octets ≡ Tells opening_told
      spoken = proposal_verdict its octets asks (idle its.association closed) (is.edition client)

      one : (c : ℕ) → Even c ((client, Opens values) ∷ (client, sends (pdu.InitiateResponse (answer_to proposal))) ∷ []) s.clients (of_client c client 1)
      one c =
          let both =
          even-both c ((client, Opens values) ∷ []) ((client, sends (pdu.InitiateResponse (answer_to proposal))) ∷ []) s.clients (of_client c client 0) (of_client c client 1)
          (even-opens c client values s.clients) (even-sends c client (pdu.InitiateResponse (answer_to proposal)) (reached cell client (Opens values) s.clients)) in
          let none = no-more c client in
          omega (arith, both, none)

      between : List ClientRow
      between = reached cell client (Opens values) s.clients

      behind : (c : ℕ) → has_open c (reached cell client (sends (pdu.InitiateResponse (answer_to proposal))) between) ≡ (if c == client then true else has_open c s.clients)
      behind c = ap is_open (steady_association ((client, sends (pdu.InitiateResponse (answer_to proposal))) ∷ []) (tt, tt) c between) ∙ by_test (c == client) refl
        where
          by_test : (b : Bool) → (c == client) ≡ b → has_open c between ≡ (if b then true else has_open c s.clients)
          by_test true e = ap (λ (d : ℕ). has_open d between) (nat-same c client e) ∙ opened-row client some few
          by_test false e = ap (λ (row : ClientRow). is_open row.association) (row-other (Opens values) client c s.clients e)

-- ---- time, and drains

module _ (count : ℕ) (s : State) (is : IsTrial count s) where
  ticked : (ms c : ℕ) → EvenMeanwhile c (record { 0 = s.now }) s.clients (meanwhile ms (cell.tables_of s))
  ticked ms c =
      even_ticked c (record { 0 = s.now }) s.clients is.linked.distinct (saying s.variables) (moment_after ms (cell.tables_of s)) (begun s.semaphores s.events.conditions s.events.enrolments)
      (record { link = record { bound = is.linked.bound; sound = is.sound.semaphores }; soon = is.soon; quiet = is.quiet; even = even-none c s.clients; steady = tt })

  -- who waits behind it began to wait before it
  pub tick_soon : (ms : ℕ) → RowsSoon (record { 0 = s.now }) (step s (Tick ms)).semaphores
  tick_soon ms = (ticked ms 0).soon

  pub goes_tick : (ms : ℕ) → Goes s (Tick ms)
  goes_tick ms = record {
    even = λ c. (ticked ms c).even;
    soon = rows_later (record { 0 = s.now }) (moment_after ms (cell.tables_of s)) (step s (Tick ms)).semaphores (omega arith) (tick_soon ms);
    quiet = (ticked ms 0).quiet;
    opened = λ c. ap is_open (steady_association (told_in s (Tick ms)) (ticked ms c).steady c s.clients);
  }

  pub goes_drain : (client : ℕ) → Goes s (Drain client)
  goes_drain client = record {
    even = λ c. let one = even-drains c client s.clients in let none = no-more c client in omega (arith, one, none);
    soon = is.soon;
    quiet = is.quiet;
    opened = λ c. ap is_open (steady_association ((client, Drains) ∷ []) (tt, tt) c s.clients);
  }

  -- what holds of each state of the trial is kept
  pub trial_step : (event : CellEvent) → Goes s event → IsTrial (count + 1) (step s event)
  trial_step event goes = record {
    sound = step_sound count s event is.sound;
    linked = linked_step count s event is.sound is.linked;
    soon = goes.soon;
    quiet = goes.quiet;
    edition = λ c. ap (λ (k : Constants). k.edition) (told_constants (told_in s event) c s.clients) ∙ is.edition c;
  }
