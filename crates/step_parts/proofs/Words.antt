-- Where nothing is missing of what an event's words tell, the part of its client is held.
use Rattle.std.specs.Prelude.{◌≡◌, ℕ, zero, suc, ◌+◌, ◌-◌, ◌≤◌, Bool, true, false, not, ◌&&◌, ◌||◌, Option, Some, List, [], ◌∷◌, filter, is_some, length, refl}
use Rattle.std.specs.List.{list_all}
use Rattle.std.proofs.Common.{ap, sym, ◌∙◌, subst, arith}
use Rattle.mms_types.specs.Actors.{IsAmong, actor_of}
use Rattle.mms_types.specs.declared.event.CellEvent.{CellEvent}
use Rattle.association.specs.Client.{ClientRow, Client as RoomyRow}
use Rattle.part_table.specs.Held.{held_at, IsHandOf}
use Rattle.part_table.specs.HeldLaws.{held_of_list}
use Rattle.parted_state.specs.Cut.{are_held, missing}
use Rattle.parted_state.specs.CutLaws as laws
use Rattle.parted_state.specs.Served as parted
use Rattle.step_parts.specs.declared.part.Part.{Part}
use Rattle.step_parts.specs.declared.part.Part.TheVariants.{Client}
use Rattle.step_parts.specs.State.{State, IsSound}
use Rattle.cell_services.specs.Serving.{services}
use Rattle.step_parts.specs.Partition.{cell, parts_of, state_in, client_place, clients_among, client_part, row_in, IsClient}
use Rattle.step_parts.specs.Needs.{need, is_held, footprint, shown}
use Rattle.step_parts.proofs.Holding.{client_at, clients_counted, held_client}

-- parts of a sound state
abbrev pub OfState : List (Option Part) → Type 0
OfState hand = (s : State) × ((count : ℕ) × IsSound count s) × IsHandOf hand (parts_of s)

abbrev pub OfSome : List (Option Part) → Type 0
OfSome hand = (s : State) × IsHandOf hand (parts_of s)

-- where nothing is missing, the first that is wanted is held
pub first_held : (hand : List (Option Part)) (place : ℕ) (rest : List ℕ) → filter (λ p. not (is_held hand p)) (place ∷ rest) ≡ [] → is_held hand place ≡ true
first_held hand place rest none = by_test (is_held hand place) refl (laws.none_missing hand (place ∷ rest) none)
  where
    by_test : (b : Bool) → is_held hand place ≡ b → (b && list_all (is_held hand) rest) ≡ true → b ≡ true
    by_test true e all = refl
    by_test false e all = absurd (cc all)

pub among_state : (s : State) (hand : List (Option Part)) (event : CellEvent) → IsHandOf hand (parts_of s) → IsAmong (clients_among (length hand)) event → IsAmong (length s.clients) event
among_state s hand event of among = subst (λ (n : ℕ). IsAmong n event) (clients_counted s hand of) among

-- ---- the part of a client is held where an event wants it

-- where no part is missing that the words of an event tell, that of its client is held
pub own_is_held : (hand : List (Option Part)) (n : ℕ) (event : CellEvent) (client : ℕ) → actor_of event ≡ client → 1 ≤ client → missing hand (footprint n event) ≡ []
    → is_held hand (client_place client) ≡ true
own_is_held hand n event zero whose some enough = absurd (omega (arith, some))
own_is_held hand n event (suc i) whose some enough =
    let all = laws.none_missing hand (footprint n event) enough in
    let own = (laws.held_parted hand (parted.own_place cell services (actor_of event)) (parted.places cell services n (services.words event)) all).0 in
    laws.held_in hand (client_place (suc i) ∷ []) (client_place (suc i)) (ap (λ (c : ℕ). are_held hand (parted.own_place cell services c)) (sym whose) ∙ own)
    (ap (λ (c : Bool). c || false) (laws.same_itself (client_place (suc i))))

-- where nothing is needed, nothing is missing of what the words tell
pub words_held : (hand : List (Option Part)) (event : CellEvent) → need event hand ≡ [] → missing hand (footprint (length (state_in hand).clients) event) ≡ []
words_held hand event enough =
    laws.missing_none hand (footprint (length (state_in hand).clients) event)
    (laws.held_parted hand (footprint (length (state_in hand).clients) event) _ (laws.none_missing hand (shown event hand) enough)).0

-- there are 64 clients at most
pub few_held : (hand : List (Option Part)) (n : ℕ) → OfState hand → n ≡ clients_among (length hand) → n ≤ 64
few_held hand n (s, sound, of) many = let counted = clients_counted s hand of in let few = sound.1.few in omega (arith, many, counted, few)

-- the row in a client's part that is held has the client's number
pub own_held : (hand : List (Option Part)) (client n : ℕ) (part : RoomyRow) → OfState hand → n ≡ clients_among (length hand) → 1 ≤ client → client ≤ n
    → held_at hand (client_place client) ≡ Some (Client part) → is_held hand (client_place part.row.client) ≡ true
own_held hand client n part (s, sound, of) many some few held =
    let counted = clients_counted s hand of in
    let found = client_at s client some (omega (arith, few, many, counted)) in
    let both : Some (client_part found.0) ≡ Some (Client part) = sym found.1 ∙ held_of_list hand (parts_of s) (client_place client) (Client part) of held in
    let same : client_part found.0 ≡ Client part = cc both in
    let row : found.0 ≡ part.row = ap (λ (p : Part). row_in (Some p)) same in
    let number = (sound.1.rows (client - 1) found.0 found.2).number in
    let its : client - 1 + 1 ≡ client = omega (arith, some) in
    let is : part.row.client ≡ client = sym (ap (λ (r : ClientRow). r.client) row) ∙ number ∙ its in
    ap (λ (k : ℕ). is_held hand (client_place k)) is ∙ ap (λ (o : Option Part). is_some o) held

pub client_is_held : (hand : List (Option Part)) (event : CellEvent) (client : ℕ) → OfState hand → (1 ≤ client) × (client ≤ clients_among (length hand)) → actor_of event ≡ client
    → need event hand ≡ [] → IsClient (held_at hand (client_place client))
client_is_held hand event client (s, sound, of) among whose enough =
    let counted = clients_counted s hand of in
    held_client s hand client of among.0 (omega (arith, counted, among.1))
    (own_is_held hand (length (state_in hand).clients) event client whose among.0 (words_held hand event enough))

pub client_by_words : (hand : List (Option Part)) (event : CellEvent) (client n : ℕ) → OfState hand → n ≡ clients_among (length hand) → (1 ≤ client) × (client ≤ n) → actor_of event ≡ client
    → missing hand (footprint n event) ≡ [] → IsClient (held_at hand (client_place client))
client_by_words hand event client n (s, sound, of) same among whose enough =
    let counted = clients_counted s hand of in
    held_client s hand client of among.0 (omega (arith, counted, same, among.1)) (own_is_held hand n event client whose among.0 enough)
