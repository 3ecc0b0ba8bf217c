-- What an event needs, stage by stage.
use Rattle.std.specs.Prelude.{◌≡◌, ◌≢◌, ℕ, zero, suc, ◌≤◌, ◌==◌, Bool, true, false, ◌&&◌, Option, Some, List, [], ◌∷◌, ◌++◌, is_some, length, unwrap_or, if◌then◌else◌, refl}
use Rattle.std.proofs.Common.{ap, ap₂, sym, ◌∙◌, subst, append-nil, arith}
use Rattle.std.proofs.lemmas.Bool.Decides.{nat_tests}
use Rattle.mms_types.specs.declared.event.CellEvent.{CellEvent}
use Rattle.mms_types.specs.declared.event.CellEvent.TheVariants.{Heard, Lost, Tick, Ends, Drain}
use Rattle.association.specs.Client.{ClientRow, Client as RoomyRow}
use Rattle.part_table.specs.Held.{held_at}
use Rattle.parted_state.specs.Cut.{are_held, missing}
use Rattle.parted_state.specs.Cut as cut
use Rattle.parted_state.specs.CutLaws as laws
use Rattle.parted_state.specs.Sets.{IsSetOf}
use Rattle.parted_state.proofs.SetLaws.{empty_set, missing_set}
use Rattle.parted_state.specs.DeviceLaws as device
use Rattle.parted_state.specs.Served as parted
use Rattle.step_parts.specs.declared.part.Part.{Part}
use Rattle.step_parts.specs.declared.part.Part.TheVariants.{Client}
use Rattle.cell_services.specs.Tables.{Tables}
use Rattle.cell_client.specs.Effects.{Drains, tell}
use Rattle.cell_client.specs.Association.{Verdict, verdict, loss_told}
use Rattle.cell_services.specs.Serving.{also_lost, also_told, heard_asks, heard_more, hears, loses, loss_asks, own_told, passes, resolved, services, time_asks}
use Rattle.step_parts.specs.Partition.{cell, parts_of, client_place, clients_among, row_in, state_in, no_client}
use Rattle.step_parts.specs.Needs.{is_held, footprint, placed, two_stages, heard_need, lost_need, need, time_need}
use Rattle.step_parts.specs.AfterLaws.{is_device}
use Rattle.step_parts.proofs.Others.{missing_both, own_skipped}

module _ {P : Type 0} where
  -- where nothing of a stage is missing, what is missing is that of the next
  pub next_missing : (hand : List (Option P)) (stage rest : List ℕ) → missing hand stage ≡ []
      → missing hand (stage ++ (if are_held hand stage then rest else [])) ≡ missing hand rest
  next_missing hand stage rest none =
      missing_both hand stage (if are_held hand stage then rest else [])
      ∙ ap₂ (λ (a b : List ℕ). a ++ b) none (ap (λ (b : Bool). missing hand (if b then rest else [])) (laws.none_missing hand stage none))

  -- and otherwise it is that of the stage alone
  pub first_missing : (hand : List (Option P)) (stage rest : List ℕ) → missing hand stage ≢ []
      → missing hand (stage ++ (if are_held hand stage then rest else [])) ≡ missing hand stage
  first_missing hand stage rest some = by_test (are_held hand stage) refl
    where
      by_test : (b : Bool) → are_held hand stage ≡ b → missing hand (stage ++ (if b then rest else [])) ≡ missing hand stage
      by_test false e = ap (missing hand) (append-nil stage)
      by_test true e = absurd (some (laws.missing_none hand stage e))

  -- as a test tells it of the set of them
  nothing_missing : (hand : List (Option P)) (stage gone : List ℕ) → IsSetOf gone (missing hand stage) → (length gone == 0) ≡ true → missing hand stage ≡ []
  nothing_missing hand stage gone is none = (empty_set gone (missing hand stage) is).0 (empty gone none)
    where
      empty : (xs : List ℕ) → (length xs == 0) ≡ true → xs ≡ []
      empty [] e = refl
      empty (x ∷ xs) e = let no : (length (x ∷ xs) == 0) ≡ false = grind (arith, nat_tests) in absurd (cc (sym no ∙ e))

  something_missing : (hand : List (Option P)) (stage gone : List ℕ) → IsSetOf gone (missing hand stage) → (length gone == 0) ≡ false → missing hand stage ≢ []
  something_missing hand stage gone is some none =
      let all : gone ≡ [] = (empty_set gone (missing hand stage) is).1 none in cc (sym (ap (λ (l : List ℕ). length l == 0) all) ∙ some)

  pub next_by_test : (hand : List (Option P)) (stage rest gone : List ℕ) → IsSetOf gone (missing hand stage) → (length gone == 0) ≡ true → (left : List ℕ)
      → IsSetOf left (missing hand rest) → IsSetOf left (missing hand (stage ++ (if are_held hand stage then rest else [])))
  next_by_test hand stage rest gone is none left behind = subst (IsSetOf left) (sym (next_missing hand stage rest (nothing_missing hand stage gone is none))) behind

  pub first_by_test : (hand : List (Option P)) (stage rest gone : List ℕ) → IsSetOf gone (missing hand stage) → (length gone == 0) ≡ false
      → IsSetOf gone (missing hand (stage ++ (if are_held hand stage then rest else [])))
  first_by_test hand stage rest gone is some = subst (IsSetOf gone) (sym (first_missing hand stage rest (something_missing hand stage gone is some))) is

  -- what stands behind a stage, by what isn't held of it
  missing_rest : (hand : List (Option P)) (stage one other : List ℕ) → missing hand one ≡ missing hand other
      → missing hand (stage ++ (if are_held hand stage then one else [])) ≡ missing hand (stage ++ (if are_held hand stage then other else []))
  missing_rest hand stage one other same = by_test (are_held hand stage)
    where
      by_test : (b : Bool) → missing hand (stage ++ (if b then one else [])) ≡ missing hand (stage ++ (if b then other else []))
      by_test true = missing_both hand stage one ∙ ap (λ (l : List ℕ). missing hand stage ++ l) same ∙ sym (missing_both hand stage other)
      by_test false = refl

  -- nothing stands behind the last
  missing_end : (hand : List (Option P)) (stage : List ℕ) → missing hand (stage ++ (if are_held hand stage then [] else [])) ≡ missing hand stage
  missing_end hand stage = by_test (are_held hand stage)
    where
      by_test : (b : Bool) → missing hand (stage ++ (if b then [] else [])) ≡ missing hand stage
      by_test true = ap (missing hand) (append-nil stage)
      by_test false = ap (missing hand) (append-nil stage)

nobody_told : (hand : List (Option Part)) (n : ℕ) → missing hand (parted.told_places cell [] n) ≡ []
nobody_told hand zero = refl
nobody_told hand (suc n) = missing_both hand (parted.told_places cell [] n) [] ∙ ap (λ (l : List ℕ). l ++ []) (nobody_told hand n)

-- ---- each event

pub many : (hand : List (Option Part)) → length (state_in hand).clients ≡ clients_among (length hand)
many hand = device.shown_many cell is_device hand

row_held : (hand : List (Option Part)) (client : ℕ) (part : RoomyRow) → 1 ≤ client → client ≤ clients_among (length hand) → held_at hand (client_place client) ≡ Some (Client part)
    → parted.row_at cell client (state_in hand).clients ≡ part.row
row_held hand zero part some there held = absurd (omega (arith, some))
row_held hand (suc i) part some there held =
    ap (λ (o : Option ClientRow). unwrap_or o no_client) (device.shown_row cell is_device hand i (omega (arith, there))) ∙ ap row_in held

-- what is shown behind the words
abbrev later : CellEvent → List (Option Part) → List ℕ
later event hand = cut.shown_of parts_of state_in (parted.table_stages cell services event (services.asks event)) hand

module _ (hand : List (Option Part)) (event : CellEvent) (n : ℕ) (counted : n ≡ clients_among (length hand)) where
  same_many : length (state_in hand).clients ≡ n
  same_many = many hand ∙ sym counted

  by_words : need event hand ≡ missing hand (footprint n event ++ (if are_held hand (footprint n event) then later event hand else []))
  by_words = ap (λ (m : ℕ). missing hand (footprint m event ++ (if are_held hand (footprint m event) then later event hand else []))) same_many

  -- what an event needs first
  pub need_first : missing hand (footprint n event) ≢ [] → need event hand ≡ missing hand (footprint n event)
  need_first some = by_words ∙ first_missing hand (footprint n event) (later event hand) some

  -- and where that is held
  pub need_later : missing hand (footprint n event) ≡ [] → need event hand ≡ missing hand (later event hand)
  need_later none = by_words ∙ next_missing hand (footprint n event) (later event hand) none

-- as a test tells it of the set of them
pub need_by_test : (hand : List (Option Part)) (event : CellEvent) (n : ℕ) (words gone : List ℕ) → n ≡ clients_among (length hand) → IsSetOf words (footprint n event)
    → IsSetOf gone (missing hand words) → (length gone == 0) ≡ false → IsSetOf gone (need event hand)
need_by_test hand event n words gone counted is left some =
    let first = missing_set hand words (footprint n event) gone is left in
    subst (IsSetOf gone) (sym (need_first hand event n counted (something_missing hand (footprint n event) gone first some))) first

pub words_by_test : (hand : List (Option Part)) (event : CellEvent) (n : ℕ) (words gone : List ℕ) → IsSetOf words (footprint n event)
    → IsSetOf gone (missing hand words) → (length gone == 0) ≡ true → missing hand (footprint n event) ≡ []
words_by_test hand event n words gone is left none = nothing_missing hand (footprint n event) gone (missing_set hand words (footprint n event) gone is left) none

-- the stages of what is heard, where the client's own part is held
heard_stages : (hand : List (Option Part)) (n client : ℕ) (t : Tables) (row : ClientRow) (v : Verdict) → is_held hand (client_place client) ≡ true
    → missing hand (placed n (heard_asks v) ++ (if are_held hand (placed n (heard_asks v))
    then placed n (heard_more t row v) ++ (if are_held hand (placed n (heard_more t row v))
    then parted.told_places cell (hears t row client v).told n ++ (if are_held hand (parted.told_places cell (hears t row client v).told n) then [] else []) else []) else []))
    ≡ two_stages hand (placed n (heard_asks v))
    (placed n (heard_more t row v) ++ (if are_held hand (placed n (heard_more t row v)) then parted.told_places cell (also_told t row (resolved t row v)) n else []))
heard_stages hand n client t row v held =
    missing_rest hand (placed n (heard_asks v)) _ _
    (missing_rest hand (placed n (heard_more t row v)) _ _
    (missing_end hand (parted.told_places cell (hears t row client v).told n) ∙ own_skipped hand client (own_told t row (resolved t row v)) (also_told t row (resolved t row v)) n held))

pub need_heard : (hand : List (Option Part)) (client : ℕ) (octets : List ℕ) (n : ℕ) (part : RoomyRow) → n ≡ clients_among (length hand)
    → missing hand (footprint n (Heard client octets)) ≡ [] → 1 ≤ client → client ≤ n → held_at hand (client_place client) ≡ Some (Client part)
    → need (Heard client octets) hand ≡ heard_need n hand part.row octets
need_heard hand client octets n part counted none some there held =
    need_later hand (Heard client octets) n counted none
    ∙ heard_stages hand (length (state_in hand).clients) client t row (verdict row octets) (ap (λ (o : Option Part). is_some o) held)
    ∙ ap₂ (λ (m : ℕ) (r : ClientRow). heard_need m hand r octets) (same_many hand (Heard client octets) n counted)
    (row_held hand client part some (omega (arith, there, counted)) held)
  where
    t : Tables
    t = cell.tables_of (state_in hand)

    row : ClientRow
    row = parted.row_at cell client (state_in hand).clients

-- the part of the client of an event is among what its words tell
pub own_footprint : (n client : ℕ) → 1 ≤ client → parted.own_place cell services client ++ [] ≡ client_place client ∷ []
own_footprint n zero some = absurd (omega (arith, some))
own_footprint n (suc i) some = refl

own_words : (hand : List (Option Part)) (client : ℕ) → 1 ≤ client → is_held hand (client_place client) ≡ true → missing hand (parted.own_place cell services client ++ []) ≡ []
own_words hand client some held =
    ap (λ (l : List ℕ). missing hand l) (own_footprint 0 client some)
    ∙ laws.missing_none hand (client_place client ∷ []) (ap (λ (b : Bool). b && true) held)

pub drain_needs_none : (hand : List (Option Part)) (client : ℕ) → 1 ≤ client → is_held hand (client_place client) ≡ true → need (Drain client) hand ≡ []
drain_needs_none hand client some held =
    need_later hand (Drain client) (clients_among (length hand)) refl (own_words hand client some held)
    ∙ missing_end hand (parted.told_places cell (tell client (Drains ∷ [])) (length (state_in hand).clients))
    ∙ (own_skipped hand client (Drains ∷ []) [] (length (state_in hand).clients) held ∙ nobody_told hand (length (state_in hand).clients))

pub need_lost : (hand : List (Option Part)) (client : ℕ) (n : ℕ) (part : RoomyRow) → n ≡ clients_among (length hand)
    → missing hand (footprint n (Lost client)) ≡ [] → 1 ≤ client → client ≤ n → held_at hand (client_place client) ≡ Some (Client part)
    → need (Lost client) hand ≡ lost_need n hand part.row
need_lost hand client n part counted none some there held =
    need_later hand (Lost client) n counted none
    ∙ missing_rest hand (placed (length (state_in hand).clients) (loss_asks row.association)) _ _
    (missing_end hand (parted.told_places cell (loses (cell.tables_of (state_in hand)) row client).told (length (state_in hand).clients))
    ∙ own_skipped hand client (loss_told row.association) (also_lost row.association row.client (cell.tables_of (state_in hand))) (length (state_in hand).clients)
    (ap (λ (o : Option Part). is_some o) held))
    ∙ ap₂ (λ (m : ℕ) (r : ClientRow). lost_need m hand r) (same_many hand (Lost client) n counted)
    (row_held hand client part some (omega (arith, there, counted)) held)
  where
    row : ClientRow
    row = parted.row_at cell client (state_in hand).clients

pub need_ticked : (hand : List (Option Part)) (ms n : ℕ) → n ≡ clients_among (length hand) → missing hand (footprint n (Tick ms)) ≡ [] → need (Tick ms) hand ≡ time_need n hand ms
need_ticked hand ms n counted none =
    need_later hand (Tick ms) n counted none
    ∙ missing_rest hand (placed (length (state_in hand).clients) (time_asks ms (cell.tables_of (state_in hand)))) _ _
    (missing_end hand (parted.told_places cell (passes ms (cell.tables_of (state_in hand))).told (length (state_in hand).clients)))
    ∙ ap (λ (m : ℕ). time_need m hand ms) (same_many hand (Tick ms) n counted)

-- other events need no more than their words tell
pub need_ended : (hand : List (Option Part)) (name : List ℕ) (n : ℕ) → n ≡ clients_among (length hand) → missing hand (footprint n (Ends name)) ≡ [] → need (Ends name) hand ≡ []
need_ended hand name n counted none =
    need_later hand (Ends name) n counted none
    ∙ missing_end hand (parted.told_places cell [] (length (state_in hand).clients)) ∙ (nobody_told hand (length (state_in hand).clients))
