-- What held parts of a state are, before an event and after it.
use Rattle.std.specs.Prelude.{◌≡◌, ℕ, zero, suc, ◌-◌, ◌≤◌, ◌<◌, true, Option, None, Some, List, [], ◌∷◌, ◌++◌, is_some, unwrap_or, map, length, slice_get, Contains, refl}
use Rattle.std.specs.Option.{option_map}
use Rattle.std.proofs.Common.{ap, ap₂, sym, ◌∙◌, subst, arith}
use Rattle.mms_types.specs.declared.event.CellEvent.{CellEvent}
use Rattle.association.specs.Client.{ClientRow}
use Rattle.part_table.specs.Held.{held_at, places_held, laid_over, IsHandOf}
use Rattle.part_table.specs.HeldLaws.{held_of_list}
use Rattle.parted_state.specs.CutLaws as laws
use Rattle.parted_state.specs.DeviceLaws as device
use Rattle.parted_state.specs.Served.{change}
use Rattle.mms_time.specs.Semaphores.{Rows}
use Rattle.step_parts.specs.declared.part.Part.{Part}
use Rattle.step_parts.specs.declared.part.Part.TheVariants.{Client, Semaphores}
use Rattle.step_parts.specs.State.{State}
use Rattle.step_parts.specs.Step.{step}
use Rattle.step_parts.specs.Partition.{IsInOrder, cell, parts_of, client_part, client_place, clients_among, client_in, state_in, IsClient}
use Rattle.step_parts.specs.Needs.{need, shown, wants, is_held}
use Rattle.step_parts.specs.After.{after, parts_after}
use Rattle.step_parts.specs.AfterLaws.{is_device, each_framed}
use Rattle.step_parts.proofs.PartsAfter.{length-parts, in_front}

-- ---- before an event

pub clients_counted : (s : State) (hand : List (Option Part)) → IsHandOf hand (parts_of s) → clients_among (length hand) ≡ length s.clients
clients_counted s hand of = let same = of.places in let all = length-parts s in omega arith

row_at : (semaphores : Rows) (rows : List ClientRow) (i : ℕ) → i < length rows
    → (row : ClientRow) × (slice_get (map client_part rows ++ Semaphores semaphores ∷ []) i ≡ Some (client_part row)) × (slice_get rows i ≡ Some row)
row_at semaphores [] i within = absurd (omega arith)
row_at semaphores (row ∷ rows) zero within = (row, refl, refl)
row_at semaphores (row ∷ rows) (suc i) within = row_at semaphores rows i (omega arith)

-- the part of a client, and its row
pub client_at : (s : State) (client : ℕ) → 1 ≤ client → client ≤ length s.clients
    → (row : ClientRow) × (slice_get (parts_of s) (client_place client) ≡ Some (client_part row)) × (slice_get s.clients (client - 1) ≡ Some row)
client_at s client some there =
    let found = row_at s.semaphores s.clients (client - 1) (omega arith) in
    (found.0, ap (λ (i : ℕ). slice_get (parts_of s) i) (in_front client some) ∙ found.1, found.2)

pub held_part : (hand : List (Option Part)) (parts : List Part) (place : ℕ) (part : Part) → IsHandOf hand parts → is_held hand place ≡ true → slice_get parts place ≡ Some part
    → held_at hand place ≡ Some part
held_part hand parts place part of held there = by_value (held_at hand place) refl held
  where
    by_value : (o : Option Part) → held_at hand place ≡ o → is_some o ≡ true → o ≡ Some part
    by_value None e h = absurd (cc h)
    by_value (Some x) e h = sym (held_of_list hand parts place x of e) ∙ there

pub held_client : (s : State) (hand : List (Option Part)) (client : ℕ) → IsHandOf hand (parts_of s) → 1 ≤ client → client ≤ length s.clients
    → is_held hand (client_place client) ≡ true → IsClient (held_at hand (client_place client))
held_client s hand client of some there held =
    let found = client_at s client some there in
    let is = held_part hand (parts_of s) (client_place client) (client_part found.0) of held found.1 in
    is ∙ sym (ap (λ (o : Option Part). Some (Client (client_in o))) is)

-- ---- an event

pub parts_step : (s : State) (event : CellEvent) → parts_of (step s event) ≡ parts_after event (parts_of s)
parts_step s event = laws.parts_step parts_of IsInOrder state_in (wants event) (λ u. step u event) (device.cut cell is_device) s tt (each_framed event s)

shows : (s : State) (hand : List (Option Part)) → IsHandOf hand (parts_of s) → laws.Shows parts_of IsInOrder state_in hand s
shows s hand of = laws.shows_state parts_of IsInOrder state_in (device.cut cell is_device) hand s of

pub step_of_hand : (s : State) (hand new : List (Option Part)) (event : CellEvent) → IsHandOf hand (parts_of s)
    → need event hand ≡ [] → new ≡ after event hand → IsHandOf new (parts_of (step s event))
step_of_hand s hand new event of enough is =
    subst (λ (h : List (Option Part)). IsHandOf h (parts_of (step s event))) (sym is)
    (laws.hand_after parts_of IsInOrder state_in (wants event) (λ u. step u event) (device.cut cell is_device) s hand tt (λ u ordered. each_framed event u) of enough)

-- a hand of the state after it that holds the same places
pub after_of_hand : (s : State) (hand new : List (Option Part)) (event : CellEvent) → IsHandOf hand (parts_of s) → need event hand ≡ []
    → IsHandOf new (parts_of (step s event)) → places_held new ≡ places_held hand → new ≡ after event hand
after_of_hand s hand new event of enough becomes same =
    laws.is_after parts_of IsInOrder state_in (wants event) (λ u. step u event) (device.cut cell is_device) s hand new tt (λ u ordered. each_framed event u) of enough becomes same

pub others_stay : (s : State) (hand : List (Option Part)) (event : CellEvent) (place : ℕ) → IsHandOf hand (parts_of s)
    → need event hand ≡ [] → held_at hand place ≡ None → slice_get (parts_of (step s event)) place ≡ slice_get (parts_of s) place
others_stay s hand event place of enough free =
    laws.others_stay parts_of IsInOrder state_in (wants event) (λ u. step u event) s hand (shows s hand of) (each_framed event s) enough place (ap is_some free)

pub held_determined : (s t : State) (hand : List (Option Part)) (event : CellEvent) (place : ℕ) → IsHandOf hand (parts_of s) → IsHandOf hand (parts_of t)
    → need event hand ≡ [] → is_held hand place ≡ true → slice_get (parts_of (step s event)) place ≡ slice_get (parts_of (step t event)) place
held_determined s t hand event place of_s of_t enough held = at s of_s ∙ sym (at t of_t)
  where
    at : (u : State) → IsHandOf hand (parts_of u) → slice_get (parts_of (step u event)) place ≡ slice_get (parts_of (step (state_in hand) event)) place
    at u of = laws.held_told parts_of IsInOrder state_in (wants event) (λ v. step v event) u hand (shows u hand of) (each_framed event u) enough (each_framed event (state_in hand)) place held

pub shown_grows : (s : State) (hand larger : List (Option Part)) (event : CellEvent) (place : ℕ) → IsHandOf hand (parts_of s) → IsHandOf larger (parts_of s)
    → ((other : ℕ) → is_held hand other ≡ true → is_held larger other ≡ true) → Contains (shown event hand) place → Contains (shown event larger) place
shown_grows s hand larger event place of of_larger more is =
    laws.in_contains (shown event larger) place
    (laws.shown_grows parts_of IsInOrder state_in (wants event) s hand larger [] (shows s hand of) (shows s larger of_larger) (each_framed event s).stages_told refl more place
    (laws.contains_in (shown event hand) place is))

-- ---- with all parts

pub all_of_them : {P : Type 0} (parts : List P) → IsHandOf (map Some parts) parts
all_of_them parts = laws.all_of_them parts

-- a hand that holds the same places as all parts
pub still_all : {P : Type 0} (hand : List (Option P)) (parts before : List P) → IsHandOf hand parts → places_held hand ≡ places_held (map Some before) → hand ≡ map Some parts
still_all hand parts before of same = laws.still_all hand parts before of same

-- all parts of a state show the state
pub shows_itself : (s : State) → state_in (map Some (parts_of s)) ≡ s
shows_itself s = (device.cut cell is_device).whole s tt

-- ---- a part that is changed

module _ {P : Type 0} where
  -- a part that is held is changed in the hand as in the list
  pub change_is_held : (f : P → P) (hand : List (Option P)) (parts : List P) (i : ℕ) → IsHandOf hand parts → is_some (held_at hand i) ≡ true
      → IsHandOf (change (option_map f) hand i) (change f parts i)
  change_is_held f [] [] i of held = of
  change_is_held f [] (y ∷ parts) i of held = absurd (cc held)
  change_is_held f (h ∷ hand) [] i of held = let same = of.places in absurd (omega (arith, same))
  change_is_held f (h ∷ hand) (part ∷ parts) i of held = by_place h i (first of.values) (rest of.values) held
      (λ j e. change_is_held f hand parts j (record { places = fewer; values = rest of.values }) e)
    where
      first : {p q : P} {ps qs : List P} → p ∷ ps ≡ q ∷ qs → p ≡ q
      first e = cc e

      rest : {p q : P} {ps qs : List P} → p ∷ ps ≡ q ∷ qs → ps ≡ qs
      rest e = cc e

      fewer : length hand ≡ length parts
      fewer = let same = of.places in omega (arith, same)

      by_place : (o : Option P) (j : ℕ) → unwrap_or o part ≡ part → laid_over hand parts ≡ parts → is_some (held_at (o ∷ hand) j) ≡ true
          → ((k : ℕ) → is_some (held_at hand k) ≡ true → IsHandOf (change (option_map f) hand k) (change f parts k))
          → IsHandOf (change (option_map f) (o ∷ hand) j) (change f (part ∷ parts) j)
      by_place None zero a b e more = absurd (cc e)
      by_place (Some x) zero a b e more = record { places = omega (arith, fewer); values = ap₂ (λ (p : P) (l : List P). p ∷ l) (ap f a) b }
      by_place o (suc k) a b e more =
          let tail = more k e in
          let many = tail.places in
          record { places = omega (arith, many); values = ap₂ (λ (p : P) (l : List P). p ∷ l) a tail.values }
