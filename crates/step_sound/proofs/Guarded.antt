-- The value of a guarded cell is changed by the writes of owners of its guard alone that name the cell.
use Rattle.std.specs.Prelude.{◌≡◌, ◌⊎◌, ◌||◌, ℕ, nat_eq, Bool, true, false, Contains, List, [], ◌∷◌, Option, None, Some, if◌then◌else◌, refl}
use Rattle.std.specs.List.{list_any, zip}
use Rattle.std.specs.Map.{lookup}
use Rattle.std.specs.Option.{option_and_then, option_map}
use Rattle.std.proofs.Common.{ap, ap₂, sym, arith, ◌∙◌, inl, inr}
use Rattle.std.proofs.lemmas.Bool.Decides.{nat_tests}
use Rattle.std.proofs.lemmas.List.Elements.{Contains-append_left, Contains-append_right, Contains-push}
use Rattle.mms_types.specs.declared.event.CellEvent.{CellEvent}
use Rattle.mms_types.specs.declared.event.CellEvent.TheVariants.{Heard, Lost, Tick, Ends, Drain}
use Rattle.mms_types.specs.declared.pdu.Request.{Request}
use Rattle.mms_types.specs.declared.pdu.Request.TheVariants as request
use Rattle.mms_types.specs.Datum.{Datum}
use Rattle.mms_types.specs.declared.variable.Spec.{Spec}
use Rattle.mms_types.specs.declared.variable.Spec.TheVariants as spec
use Rattle.mms_types.specs.declared.variable.Write.{Write}
use Rattle.association.specs.Client.{ClientRow}
use Rattle.association.specs.declared.negotiation.Association.{Association}
use Rattle.association.specs.declared.negotiation.Association.TheVariants.{Idle, Open}
use Rattle.association.specs.declared.waiting.Waiting.{Waiting}
use Rattle.variables.specs.Access.{change_cell, change_named, flagged, guard_in, with_value, writes, written as with_written}
use Rattle.variables.specs.Rows.{Rows, cell_at, number_named, number_told}
use Rattle.variables.specs.declared.rows.StoredCell.{StoredCell}
use Rattle.variable_services.specs.declared.tables.VariableTables.{VariableTables}
use Rattle.variable_services.proofs.Guards.{unowned_stays}
use Rattle.variable_services.specs.Services.{accessed_all, guards_owned, lost}
use Rattle.mms_time.specs.Guards.{owns_guard}
use Rattle.mms_time.specs.Services.{take_told}
use Rattle.sem_ticks.specs.Granted.{relinquish_granted}
use Rattle.sem_ticks.specs.declared.granted.Granted.{Granted}
use Rattle.mms_time.specs.declared.taking.TakeDone.{TakeDone}
use Rattle.mms_time.specs.declared.taking.TakeDone.TheVariants as taken
use Rattle.parted_state.specs.Served.{row_at}
use Rattle.cell_client.specs.Association.{Verdict, Tells, Takes, Concludes, Cancels, Aborts, verdict, Came, Replies, Exhausts}
use Rattle.cell_services.specs.Services.{effect, relinquish_outcome, take_outcome, effect_of, reply_in}
use Rattle.cell_services.specs.Serving.{is_served, lost_in, meanwhile, tables_cancelled, tables_heard, tables_lost, waiting_of, without_clients, is_served_in, resolved}
use Rattle.cell_services.specs.Tables.{Tables}
use Rattle.step_sound.specs.Guarded.{IsWrittenByOwner}
use Rattle.step_parts.specs.Partition.{cell}
use Rattle.step_parts.specs.State.{State}
use Rattle.step_parts.specs.Step.{step}
use Rattle.step_sound.proofs.Walked.{by_tables}

abbrev pub cells_of : VariableTables → List (ℕ × StoredCell)
cells_of v = v.vars.cells

-- of the cells alone
at_cells : (number : ℕ) (one other : VariableTables) → cells_of one ≡ cells_of other → cell_at number one.vars ≡ cell_at number other.vars
at_cells number one other same = ap (λ (cells : List (ℕ × StoredCell)). lookup (nat_eq number) cells) same

-- ---- a write that doesn't name the cell

abbrev tells : ℕ → Option ℕ → Bool
tells number None = false
tells number (Some told) = nat_eq number told

other_row : (number other : ℕ) (f : StoredCell → StoredCell) (cells : List (ℕ × StoredCell)) → nat_eq number other ≡ false
    → lookup (nat_eq number) (change_cell other f cells) ≡ lookup (nat_eq number) cells
other_row number other f [] apart = refl
other_row number other f (row ∷ rows) apart = by_numbers (nat_eq number row.0) (nat_eq other row.0) refl refl (other_row number other f rows apart)
  where
    differ : nat_eq number row.0 ≡ true → nat_eq other row.0 ≡ true → true ≡ false
    differ e g = let same : nat_eq number other ≡ true = grind (arith, nat_tests, e, g) in sym same ∙ apart

    by_numbers : (a b : Bool) → nat_eq number row.0 ≡ a → nat_eq other row.0 ≡ b → lookup (nat_eq number) (change_cell other f rows) ≡ lookup (nat_eq number) rows
        → lookup (nat_eq number) (change_cell other f (row ∷ rows)) ≡ lookup (nat_eq number) (row ∷ rows)
    by_numbers true true e g rest = cc (differ e g)
    by_numbers true false e g rest = rw (e, g) refl
    by_numbers false b e g rest = rw e rest

module _ (client number : ℕ) where
  -- the variables stay, and so what a specification tells
  told_stays : (s : Spec) (o : Option ℕ) (f : StoredCell → StoredCell) (rows : Rows) → number_told client s (change_named o f rows) ≡ number_told client s rows
  told_stays (spec.Address n) o f rows = refl
  told_stays (spec.Name name) None f rows = refl
  told_stays (spec.Name name) (Some n) f rows = refl

  named_told : (s : Spec) (rows : Rows) (m : ℕ) → number_named client s rows ≡ Some m → number_told client s rows ≡ Some m
  named_told s rows m e = by_told (number_told client s rows) e
    where
      by_cell : (n : ℕ) (o : Option StoredCell) → option_map (λ _. n) o ≡ Some m → Some n ≡ Some m
      by_cell n None h = cc
      by_cell n (Some cell) h = h

      by_told : (o : Option ℕ) → option_and_then (λ n. option_map (λ _. n) (cell_at n rows)) o ≡ Some m → o ≡ Some m
      by_told None h = cc
      by_told (Some n) h = by_cell n (cell_at n rows) h

  one_other : (owns : Bool) (x : Spec × Datum) (rows : Rows) → tells number (number_told client x.0 rows) ≡ false → cell_at number (with_written client (owns, x) rows) ≡ cell_at number rows
  one_other owns x rows other = by_named (number_named client x.0 rows) refl
    where
      by_named : (o : Option ℕ) → number_named client x.0 rows ≡ o → cell_at number (change_named o (with_value owns x.1) rows) ≡ cell_at number rows
      by_named None e = refl
      by_named (Some m) e = other_row number m (with_value owns x.1) rows.cells (sym (ap (tells number) (named_told x.0 rows m e)) ∙ other)

  abbrev is_told : Rows → List Spec → Bool
  is_told rows variables = list_any (λ s. tells number (number_told client s rows)) variables

  told_after : (x : Bool × (Spec × Datum)) (rows : Rows) (variables : List Spec) → is_told (with_written client x rows) variables ≡ is_told rows variables
  told_after x rows [] = refl
  told_after x rows (s ∷ later) =
      ap₂ (λ (a b : Bool). a || b) (ap (tells number) (told_stays s (number_named client x.1.0 rows) (with_value x.0 x.1.1) rows)) (told_after x rows later)

  left_out : (a b : Bool) → (a || b) ≡ false → (a ≡ false) × (b ≡ false)
  left_out true b e = cc
  left_out false b e = (refl, e)

  others_stay : (variables : List Spec) (flags : List Bool) (values : List Datum) (rows : Rows) → is_told rows variables ≡ false
      → cell_at number (writes client (flagged flags (zip variables values)) rows).0 ≡ cell_at number rows
  others_stay [] flags values rows none = refl
  others_stay (s ∷ later) flags [] rows none = refl
  others_stay (s ∷ later) [] (value ∷ others) rows none =
      let both = left_out (tells number (number_told client s rows)) (is_told rows later) none in
      others_stay later [] others (with_written client (false, (s, value)) rows) (told_after (false, (s, value)) rows later ∙ both.1) ∙ one_other false (s, value) rows both.0
  others_stay (s ∷ later) (owns ∷ flags) (value ∷ others) rows none =
      let both = left_out (tells number (number_told client s rows)) (is_told rows later) none in
      others_stay later flags others (with_written client (owns, (s, value)) rows) (told_after (owns, (s, value)) rows later ∙ both.1) ∙ one_other owns (s, value) rows both.0

  -- the variable that tells it
  record TellsCell (rows : Rows) (variables : List Spec) : Type 0 where
    variable : Spec
    among : Contains variables variable
    is : number_told client variable rows ≡ Some number

  one_tells : (o : Option ℕ) → tells number o ≡ true → o ≡ Some number
  one_tells None e = cc
  one_tells (Some told) e = let same : number ≡ told = grind (arith, nat_tests, e) in ap Some (sym same)

  found : (rows : Rows) (variables : List Spec) → is_told rows variables ≡ true → TellsCell rows variables
  found rows [] e = cc
  found rows (s ∷ later) e = by_first (tells number (number_told client s rows)) refl (found rows later) e
    where
      by_first : (b : Bool) → tells number (number_told client s rows) ≡ b → (is_told rows later ≡ true → TellsCell rows later) → (b || is_told rows later) ≡ true → TellsCell rows (s ∷ later)
      by_first true h rest k = record { variable = s; among = Contains-append_left (s ∷ []) later s (Contains-push [] s); is = one_tells (number_told client s rows) h }
      by_first false h rest k = let there = rest k in record { variable = there.variable; among = Contains-append_right (s ∷ []) later there.variable there.among; is = there.is }

-- ---- what no write does

pub lost_cells : (clients : List ℕ) (v : VariableTables) → cells_of (without_clients clients v) ≡ cells_of v
lost_cells [] v = refl
lost_cells (client ∷ clients) v = lost_cells clients (lost client v)

module _ (t : Tables) (row : ClientRow) (invoke : ℕ) where
  effect_cells : (asked : Request) → ((x : Write) → asked ≡ request.Write x → ⊥) → cells_of (effect t row invoke asked).tables.variables ≡ cells_of t.variables
  effect_cells (request.Write x) never = absurd (never x refl)
  effect_cells (request.TakeControl x) never = by_done (take_told row.client x t.semaphores)
    where
      by_done : (o : Option TakeDone) → cells_of (take_outcome t row.client invoke x o).tables.variables ≡ cells_of t.variables
      by_done None = refl
      by_done (Some (taken.Answered told)) = refl
      by_done (Some (taken.Waits entry)) = refl
  effect_cells (request.RelinquishControl x) never = by_grant (relinquish_granted row.client x t.semaphores)
    where
      by_grant : (o : Option (Option Granted)) → cells_of (relinquish_outcome t row.client x o).tables.variables ≡ cells_of t.variables
      by_grant None = refl
      by_grant (Some grant) = refl
  effect_cells asked never = refl

-- ---- what is heard

-- a write is served of a client that owns a token of the guard, and names the cell
record IsOwnersWrite (number : ℕ) (guard : List ℕ) (t : Tables) (row : ClientRow) (v : Verdict) : Type 0 where
  invoke : ℕ
  asked : Write
  taken : v ≡ Takes invoke (request.Write asked)
  served : is_served t row invoke (request.Write asked) ≡ true
  owner : owns_guard row.client guard t.semaphores ≡ true
  told : TellsCell row.client number t.variables.vars (accessed_all row.client asked.access t.variables)

module _ (t : Tables) (row : ClientRow) (number : ℕ) (was : StoredCell) (guard : List ℕ) (there : cell_at number t.variables.vars ≡ Some was) (is : was.guard ≡ Some guard) where
  abbrev Stays : VariableTables → Type 0
  Stays v = cell_at number v.vars ≡ Some was

  as_cells : (v : VariableTables) → cells_of v ≡ cells_of t.variables → Stays v
  as_cells v same = at_cells number v t.variables same ∙ there

  written : (invoke : ℕ) (x : Write) → is_served t row invoke (request.Write x) ≡ true
      → Stays (effect t row invoke (request.Write x)).tables.variables ⊎ IsOwnersWrite number guard t row (Takes invoke (request.Write x))
  written invoke x served = by_owner (owns_guard row.client guard t.semaphores) (is_told row.client number t.variables.vars (accessed_all row.client x.access t.variables)) refl refl
    where
      by_owner : (b c : Bool) → owns_guard row.client guard t.semaphores ≡ b → is_told row.client number t.variables.vars (accessed_all row.client x.access t.variables) ≡ c
          → Stays (effect t row invoke (request.Write x)).tables.variables ⊎ IsOwnersWrite number guard t row (Takes invoke (request.Write x))
      by_owner true true e f =
          inr (record { invoke = invoke; asked = x; taken = refl; served = served; owner = e; told = found row.client number t.variables.vars (accessed_all row.client x.access t.variables) f })
      by_owner true false e f =
          inl (others_stay row.client number (accessed_all row.client x.access t.variables) (guards_owned (λ name. owns_guard row.client name t.semaphores) row.client x t.variables) x.values t.variables.vars f ∙ there)
      by_owner false c e f =
          inl (unowned_stays (λ name. owns_guard row.client name t.semaphores) row.client x t.variables number guard (ap guard_in there ∙ is) e ∙ there)

  served_one : (invoke : ℕ) (asked : Request) → is_served t row invoke asked ≡ true
      → Stays (effect t row invoke asked).tables.variables ⊎ IsOwnersWrite number guard t row (Takes invoke asked)
  served_one invoke (request.Write x) served = written invoke x served
  served_one invoke asked served = inl (as_cells (effect t row invoke asked).tables.variables (effect_cells t row invoke asked (λ x same. cc same)))

  taken_one : (invoke : ℕ) (asked : Request) → Stays (tables_heard t row (Takes invoke asked)).variables ⊎ IsOwnersWrite number guard t row (Takes invoke asked)
  taken_one invoke asked = by_served (is_served t row invoke asked) refl
    where
      by_served : (b : Bool) → is_served t row invoke asked ≡ b
          → Stays (if b then (effect t row invoke asked).tables else t).variables ⊎ IsOwnersWrite number guard t row (Takes invoke asked)
      by_served true e = served_one invoke asked e
      by_served false e = inl there

  replied : (number : ℕ) (came : Came) → Stays (tables_heard t row (Replies number came)).variables
  replied number came = by_served (is_served_in t row number (reply_in number came))
    where
      by_served : (b : Bool) → Stays (if b then (effect_of t row number (reply_in number came)).tables else t).variables
      by_served true = there
      by_served false = there

  heard : (v : Verdict) → Stays (tables_heard t row v).variables ⊎ IsOwnersWrite number guard t row v
  heard (Takes invoke asked) = taken_one invoke asked
  heard (Tells effects) = inl there
  heard (Replies number came) = inl (replied number came)
  heard (Exhausts invoke) = inl there
  heard Concludes = inl there
  heard (Cancels invoke) = by_waiting (waiting_of invoke row.waiting)
    where
      by_waiting : (o : Option Waiting) → Stays (tables_cancelled o t).variables ⊎ IsOwnersWrite number guard t row (Cancels invoke)
      by_waiting None = inl there
      by_waiting (Some request) = inl there
  heard Aborts = inl there

  lost_one : (a : Association) (client : ℕ) → Stays (tables_lost a client t).variables
  lost_one Idle client = there
  lost_one (Open values) client = there

-- a request that is taken was one before
pub taken_before : (t : Tables) (row : ClientRow) (v : Verdict) (invoke : ℕ) (asked : Request) → resolved t row v ≡ Takes invoke asked → v ≡ Takes invoke asked
taken_before t row v invoke asked is =
    by_tables t row (λ w. w ≡ Takes invoke asked → v ≡ Takes invoke asked) (λ i e. absurd (cc e)) (λ e. absurd (cc e)) (λ e. absurd (cc e)) v (λ e. e) is

-- ---- each event

pub guarded_step : (s : State) (event : CellEvent) (number : ℕ) (was : StoredCell) (guard : List ℕ) → cell_at number s.variables.vars ≡ Some was → was.guard ≡ Some guard
    → (cell_at number (step s event).variables.vars ≡ Some was) ⊎ IsWrittenByOwner number guard s event
guarded_step s (Heard client octets) number was guard there is = by_heard (heard (cell.tables_of s) row number was guard there is now)
  where
    row : ClientRow
    row = row_at cell client s.clients

    now : Verdict
    now = resolved (cell.tables_of s) row (verdict row octets)

    by_heard : (cell_at number (tables_heard (cell.tables_of s) row now).variables.vars ≡ Some was) ⊎ IsOwnersWrite number guard (cell.tables_of s) row now
        → (cell_at number (step s (Heard client octets)).variables.vars ≡ Some was) ⊎ IsWrittenByOwner number guard s (Heard client octets)
    by_heard (inl stays) = inl stays
    by_heard (inr w) =
        inr (record { client = client; octets = octets; heard = refl; invoke = w.invoke; asked = w.asked; taken = taken_before (cell.tables_of s) row (verdict row octets) w.invoke (request.Write w.asked) w.taken; served = w.served; owner = w.owner; variable = w.told.variable; among = w.told.among; tells = w.told.is })
guarded_step s (Lost client) number was guard there is =
    inl (lost_one (cell.tables_of s) (row_at cell client s.clients) number was guard there is (row_at cell client s.clients).association (row_at cell client s.clients).client)
guarded_step s (Tick ms) number was guard there is =
    inl (as_cells (cell.tables_of s) (row_at cell 0 s.clients) number was guard there is (step s (Tick ms)).variables
    (lost_cells (lost_in (meanwhile ms (cell.tables_of s)).happened) s.variables))
guarded_step s (Ends name) number was guard there is = inl there
guarded_step s (Drain client) number was guard there is = inl there
