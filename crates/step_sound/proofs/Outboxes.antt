-- Who is granted a token has its answer in the outbox after the event.
use Rattle.std.specs.Prelude.{◌≡◌, ℕ, zero, suc, ◌-◌, ◌<◌, ◌≤◌, Bool, true, Option, None, Some, List, [], ◌∷◌, ◌++◌, length, slice_get, Contains, Result, Ok, Err, if◌then◌else◌, refl}
use Rattle.std.specs.Option.{option_map}
use Rattle.std.proofs.Common.{ap, sym, ◌∙◌, subst, arith}
use Rattle.std.proofs.lemmas.List.Elements.{Contains-append_left, Contains-append_right}
use native.Mathlib.Decide.{ℕ_discrete}
use Rattle.mms_types.specs.declared.event.CellEvent.TheVariants.{Heard, Lost, Tick}
use Rattle.mms_types.specs.declared.event.What.{What}
use Rattle.mms_types.specs.declared.event.What.TheVariants.{Octets}
use Rattle.mms_types.specs.declared.pdu.Request.TheVariants as request
use Rattle.mms_types.specs.declared.semaphore.RelinquishControl.{RelinquishControl}
use Rattle.association.specs.Admission.{admission, waiting_if}
use Rattle.association.specs.Client.{ClientRow}
use Rattle.association.specs.declared.client_part.NotAdmitted.{NotAdmitted}
use Rattle.association.specs.declared.negotiation.Association.{Association}
use Rattle.association.specs.declared.negotiation.Association.TheVariants.{Open}
use Rattle.association.specs.declared.negotiation.Negotiated.{Negotiated}
use Rattle.sem_ticks.specs.declared.granted.Granted.{Granted}
use Rattle.sem_ticks.specs.Granted.{lost_granted}
use Rattle.sem_ticks.specs.Granted.{relinquish_granted}
use Rattle.mms_types.specs.declared.moment.Moment.{Moment}
use Rattle.mms_types.specs.declared.condition.Notice.{Notice}
use Rattle.mms_types.specs.declared.condition.Turned.{Turned}
use Rattle.serve_events.specs.Told.{notices_told}
use Rattle.cell_ticks.specs.Ticks.{dated}
use Rattle.cell_ticks.specs.declared.happening.DatedHappening.{DatedHappening}
use Rattle.cell_ticks.specs.declared.happening.Happening.{Happening as DeviceHappening}
use Rattle.cell_ticks.specs.declared.happening.Happening.TheVariants as device
use Rattle.sem_ticks.specs.declared.ticks.Happening.TheVariants as happens
use Rattle.parted_state.specs.ListsLaws.{get_changed, get_change, length-change}
use Rattle.parted_state.specs.Served.{change, delivered, reached, row_at}
use Rattle.cell_client.specs.Association.{Verdict, Takes, Concludes, Aborts, loss_told, verdict, Exhausts}
use Rattle.cell_client.specs.Effects.{Effect, Sends, Opens, Closes, Waits, Answers, Drains, felt, tell, Asks, Settles, asking_octets}
use Rattle.cell_services.specs.Services.{effect, grant_told, grants_told, relinquish_outcome}
use Rattle.cell_services.specs.Serving.{all_told, also_lost, also_told, dated_told, happened_told, is_served, loss_also, meanwhile, own_told, resolved}
use Rattle.step_parts.specs.Partition.{cell}
use Rattle.step_parts.specs.State.{State}
use Rattle.step_parts.specs.Step.{outbox_in, step}
use Rattle.step_sound.specs.Answered.{grant_answer, IsAnswered, EndsIt}
use Rattle.step_parts.proofs.PartsAfter.{step_sized}
use Rattle.step_parts.proofs.Rows.{delivered_both}
use Rattle.step_parts.specs.AfterLaws.{is_device}
use Rattle.parted_state.specs.ServedLaws.{length-delivered}

-- ---- what is to be sent stays so until it is taken away

abbrev Stays : Effect → Type 0
Stays (Sends output) = Unit {0}
Stays (Opens values) = Unit {0}
Stays Closes = Unit {0}
Stays (Waits request) = Unit {0}
Stays (Answers invoke) = Unit {0}
Stays (Asks kind domain) = Unit {0}
Stays (Settles number) = Unit {0}
Stays Drains = ⊥

abbrev AllStay : List (ℕ × Effect) → Type 0
AllStay [] = Unit {0}
AllStay (t ∷ told) = Stays t.1 × AllStay told

both_stay : (xs ys : List (ℕ × Effect)) → AllStay xs → AllStay ys → AllStay (xs ++ ys)
both_stay [] ys a b = b
both_stay (x ∷ xs) ys a b = (a.0, both_stay xs ys a.1 b)

one_kept : (effect : Effect) (row : ClientRow) (output : What) → Stays effect → Contains row.outbox output → Contains (felt effect row).outbox output
one_kept (Sends more) row output stays is = Contains-append_left row.outbox (more ∷ []) output is
one_kept (Opens values) row output stays is = is
one_kept Closes row output stays is = is
one_kept (Waits request) row output stays is = by_admission (admission request.invoke row)
  where
    by_admission : (r : Result Unit NotAdmitted) → Contains (waiting_if r request row).outbox output
    by_admission (Ok taken) = is
    by_admission (Err refusal) = is
one_kept (Answers invoke) row output stays is = is
one_kept (Asks kind domain) row output stays is = Contains-append_left row.outbox (Octets (asking_octets row.next_invoke kind domain) ∷ []) output is
one_kept (Settles number) row output stays is = is
one_kept Drains row output stays is = absurd stays

row_kept : (effect : Effect) (o : Option ClientRow) (output : What) → Stays effect → Contains (outbox_in o) output → Contains (outbox_in (option_map (felt effect) o)) output
row_kept effect None output stays is = is
row_kept effect (Some row) output stays is = one_kept effect row output stays is

reached_kept : (client : ℕ) (effect : Effect) (rows : List ClientRow) (k : ℕ) (output : What) → Stays effect → Contains (outbox_in (slice_get rows k)) output
    → Contains (outbox_in (slice_get (reached cell client effect rows) k)) output
reached_kept zero effect rows k output stays is = is
reached_kept (suc i) effect rows k output stays is = by_place (ℕ_discrete k i)
  where
    by_place : Dec (k ≡ i) → Contains (outbox_in (slice_get (change (felt effect) rows i) k)) output
    by_place (yes same) =
        subst (λ (j : ℕ). Contains (outbox_in (slice_get (change (felt effect) rows i) j)) output) (sym same)
        (subst (λ (o : Option ClientRow). Contains (outbox_in o) output) (sym (get_changed (felt effect) rows i))
        (row_kept effect (slice_get rows i) output stays (subst (λ (j : ℕ). Contains (outbox_in (slice_get rows j)) output) same is)))
    by_place (no other) = subst (λ (o : Option ClientRow). Contains (outbox_in o) output) (sym (get_change (felt effect) rows i k other)) is

all_kept : (told : List (ℕ × Effect)) (rows : List ClientRow) (k : ℕ) (output : What) → AllStay told → Contains (outbox_in (slice_get rows k)) output
    → Contains (outbox_in (slice_get (delivered cell told rows) k)) output
all_kept [] rows k output stay is = is
all_kept (t ∷ told) rows k output stay is = all_kept told (reached cell t.0 t.1 rows) k output stay.1 (reached_kept t.0 t.1 rows k output stay.0 is)

-- ---- what is told is in the outbox

length-reached : (client : ℕ) (effect : Effect) (rows : List ClientRow) → length (reached cell client effect rows) ≡ length rows
length-reached zero effect rows = refl
length-reached (suc i) effect rows = length-change (felt effect) rows i

sent_there : (rows : List ClientRow) (k : ℕ) (output : What) → k < length rows → Contains (outbox_in (option_map (felt (Sends output)) (slice_get rows k))) output
sent_there [] k output within = absurd (omega (arith, within))
sent_there (row ∷ rows) zero output within = Contains-append_right row.outbox (output ∷ []) output (0, omega arith, refl)
sent_there (row ∷ rows) (suc k) output within = sent_there rows k output (omega (arith, within))

told_there : (told : List (ℕ × Effect)) (rows : List ClientRow) (k : ℕ) (output : What) → AllStay told → k < length rows → Contains told (suc k, Sends output)
    → Contains (outbox_in (slice_get (delivered cell told rows) k)) output
told_there [] rows k output stay within is = absurd (omega (arith, is.1))
told_there (t ∷ told) rows k output stay within (zero, low, e) =
    all_kept told (reached cell t.0 t.1 rows) k output stay.1
    (subst (λ (x : ℕ × Effect). Contains (outbox_in (slice_get (reached cell x.0 x.1 rows) k)) output) (sym e)
    (subst (λ (o : Option ClientRow). Contains (outbox_in o) output) (sym (get_changed (felt (Sends output)) rows k)) (sent_there rows k output within)))
told_there (t ∷ told) rows k output stay within (suc j, low, e) =
    let many = length-reached t.0 t.1 rows in
    told_there told (reached cell t.0 t.1 rows) k output stay.1 (omega (arith, many, within)) (j, omega (arith, low), e)

-- ---- grants are told

grants_stay : (grants : List Granted) → AllStay (grants_told grants)
grants_stay [] = tt
grants_stay (g ∷ grants) = both_stay (grant_told g) (grants_told grants) (tt, (tt, tt)) (grants_stay grants)

-- and what is told of transitions of event conditions
notices_stay : (turned : Turned) (list : List Notice) (rest : List (ℕ × Effect)) → AllStay rest → AllStay (notices_told turned list ++ rest)
notices_stay turned [] rest stay = stay
notices_stay turned (n ∷ ns) rest stay = (tt, notices_stay turned ns rest stay)

happened_stay : (happened : List DatedHappening) → AllStay (all_told happened)
happened_stay [] = tt
happened_stay (x ∷ rest) = by_one x.happening (happened_stay rest)
  where
    by_one : (h : DeviceHappening) → AllStay (all_told rest) → AllStay (happened_told h ++ all_told rest)
    by_one (device.Semaphores (happens.WaitEnds client invoke)) later = (tt, (tt, later))
    by_one (device.Semaphores (happens.Grants grant)) later = both_stay (grant_told grant) (all_told rest) (tt, (tt, tt)) later
    by_one (device.Semaphores (happens.Aborts client)) later = (tt, (tt, later))
    by_one (device.Turns told) later = notices_stay told.turned told.notices (all_told rest) later

grant_there : (g : Granted) → Contains (grant_told g) (g.client, Sends (grant_answer g))
grant_there g = (1, omega arith, refl)

grants_there : (grants : List Granted) (g : Granted) → Contains grants g → Contains (grants_told grants) (g.client, Sends (grant_answer g))
grants_there [] g is = absurd (omega (arith, is.1))
grants_there (h ∷ grants) g (zero, low, e) =
    Contains-append_left (grant_told h) (grants_told grants) (g.client, Sends (grant_answer g))
    (subst (λ (x : Granted). Contains (grant_told x) (g.client, Sends (grant_answer g))) (sym e) (grant_there g))
grants_there (h ∷ grants) g (suc j, low, e) =
    Contains-append_right (grant_told h) (grants_told grants) (g.client, Sends (grant_answer g)) (grants_there grants g (j, omega (arith, low), e))

happened_there : (happened : List DatedHappening) (at : Moment) (g : Granted) → Contains happened (dated at (device.Semaphores (happens.Grants g)))
    → Contains (all_told happened) (g.client, Sends (grant_answer g))
happened_there [] at g is = absurd (omega (arith, is.1))
happened_there (x ∷ rest) at g (zero, low, e) =
    Contains-append_left (dated_told x) (all_told rest) (g.client, Sends (grant_answer g))
    (subst (λ (y : DatedHappening). Contains (dated_told y) (g.client, Sends (grant_answer g))) (sym e) (grant_there g))
happened_there (x ∷ rest) at g (suc j, low, e) =
    Contains-append_right (dated_told x) (all_told rest) (g.client, Sends (grant_answer g)) (happened_there rest at g (j, omega (arith, low), e))

-- ---- each event

-- what is told besides is in the outbox
besides : (own also : List (ℕ × Effect)) (s : State) (g : Granted) → AllStay also → Contains also (g.client, Sends (grant_answer g)) → 1 ≤ g.client → g.client ≤ length (delivered cell own s.clients)
    → Contains (outbox_in (slice_get (delivered cell (own ++ also) s.clients) (g.client - 1))) (grant_answer g)
besides own also s g stay is some there =
    subst (λ (rows : List ClientRow). Contains (outbox_in (slice_get rows (g.client - 1))) (grant_answer g)) (sym (delivered_both own also s.clients))
    (told_there also (delivered cell own s.clients) (g.client - 1) (grant_answer g) stay (omega (arith, some, there))
    (subst (λ (k : ℕ). Contains also (k, Sends (grant_answer g))) next is))
  where
    next : g.client ≡ suc (g.client - 1)
    next = omega (arith, some)

module _ (s : State) (client : ℕ) (octets : List ℕ) (g : Granted) where
  abbrev pub row : ClientRow
  row = row_at cell client s.clients

  abbrev now : Verdict
  now = resolved (cell.tables_of s) row (verdict row octets)

  heard_besides : AllStay (also_told (cell.tables_of s) row now) → Contains (also_told (cell.tables_of s) row now) (g.client, Sends (grant_answer g))
      → IsAnswered (step s (Heard client octets)) g
  heard_besides stay is some there =
      let many = length-delivered cell is_device (tell client (own_told (cell.tables_of s) row now)) s.clients in
      let sized = step_sized s (Heard client octets) in
      besides (tell client (own_told (cell.tables_of s) row now)) (also_told (cell.tables_of s) row now) s g stay is some
      (omega (arith, many, sized, there))

  pub given_back : (invoke : ℕ) (asked : RelinquishControl) → verdict row octets ≡ Takes invoke (request.RelinquishControl asked)
      → is_served (cell.tables_of s) row invoke (request.RelinquishControl asked) ≡ true
      → relinquish_granted row.client asked s.semaphores ≡ Some (Some g) → IsAnswered (step s (Heard client octets)) g
  given_back invoke asked takes served grant =
      heard_besides (subst AllStay (sym told) (grants_stay (g ∷ [])))
      (subst (λ (l : List (ℕ × Effect)). Contains l (g.client, Sends (grant_answer g))) (sym told) (grants_there (g ∷ []) g (0, omega arith, refl)))
    where
      told : also_told (cell.tables_of s) row now ≡ grants_told (g ∷ [])
      told =
          ap (λ (v : Verdict). also_told (cell.tables_of s) row (resolved (cell.tables_of s) row v)) takes
          ∙ ap (λ (b : Bool). if b then (effect (cell.tables_of s) row invoke (request.RelinquishControl asked)).also else []) served
          ∙ ap (λ (o : Option (Option Granted)). (relinquish_outcome (cell.tables_of s) row.client asked o).also) grant

  pub left_to : EndsIt now → Contains (lost_granted row.client (record { 0 = s.now }) s.semaphores) g → IsAnswered (step s (Heard client octets)) g
  left_to ends grant =
      heard_besides (subst AllStay (sym told) (grants_stay (lost_granted row.client (record { 0 = s.now }) s.semaphores)))
      (subst (λ (l : List (ℕ × Effect)). Contains l (g.client, Sends (grant_answer g))) (sym told)
      (grants_there (lost_granted row.client (record { 0 = s.now }) s.semaphores) g grant))
    where
      by_end : (v : Verdict) → EndsIt v → also_told (cell.tables_of s) row v ≡ loss_also row.client (cell.tables_of s)
      by_end Concludes e = refl
      by_end Aborts e = refl
      by_end (Exhausts invoke) e = refl
      by_end other e = absurd e

      told : also_told (cell.tables_of s) row now ≡ loss_also row.client (cell.tables_of s)
      told = by_end now ends

pub lost_to : (s : State) (client : ℕ) (g : Granted) (values : Negotiated) → (row_at cell client s.clients).association ≡ Open values
    → Contains (lost_granted (row_at cell client s.clients).client (record { 0 = s.now }) s.semaphores) g → IsAnswered (step s (Lost client)) g
lost_to s client g values is grant some there =
    let many = length-delivered cell is_device (tell client (loss_told (row_at cell client s.clients).association)) s.clients in
    let sized = step_sized s (Lost client) in
    besides (tell client (loss_told (row_at cell client s.clients).association))
    (also_lost (row_at cell client s.clients).association (row_at cell client s.clients).client (cell.tables_of s)) s g
    (subst AllStay (sym told) (grants_stay (lost_granted (row_at cell client s.clients).client (record { 0 = s.now }) s.semaphores)))
    (subst (λ (l : List (ℕ × Effect)). Contains l (g.client, Sends (grant_answer g))) (sym told)
    (grants_there (lost_granted (row_at cell client s.clients).client (record { 0 = s.now }) s.semaphores) g grant))
    some (omega (arith, many, sized, there))
  where
    told : also_lost (row_at cell client s.clients).association (row_at cell client s.clients).client (cell.tables_of s) ≡ loss_also (row_at cell client s.clients).client (cell.tables_of s)
    told = ap (λ (a : Association). also_lost a (row_at cell client s.clients).client (cell.tables_of s)) is

pub ticked_to : (s : State) (ms : ℕ) (at : Moment) (g : Granted) → Contains (meanwhile ms (cell.tables_of s)).happened (dated at (device.Semaphores (happens.Grants g)))
    → IsAnswered (step s (Tick ms)) g
ticked_to s ms at g grant some there =
    let sized = step_sized s (Tick ms) in
    besides [] (all_told (meanwhile ms (cell.tables_of s)).happened) s g (happened_stay (meanwhile ms (cell.tables_of s)).happened)
    (happened_there (meanwhile ms (cell.tables_of s)).happened at g grant) some (omega (arith, sized, there))
