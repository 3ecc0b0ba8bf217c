-- The device that holds all parts, before and after an event.
use Rattle.std.specs.Prelude.{◌≡◌, ℕ, ◌+◌, ◌≤◌, true, Option, Some, List, [], ◌∷◌, map, length, refl}
use Rattle.std.proofs.Common.{ap, sym, ◌∙◌, subst, arith}
use Rattle.mms_types.specs.declared.event.CellEvent.{CellEvent}
use Rattle.std.specs.declared.boxed.Box.{Box}
use Rattle.std.specs.Box.{box_value}
use Rattle.part_table.specs.Held.{held_at, places_held, unboxed, IsHandOf}
use Rattle.step_parts.specs.declared.part.Part.{Part}
use Rattle.mms_types.specs.Actors.{IsAmong}
use Rattle.step_parts.specs.State.{State, IsSound}
use Rattle.step_parts.specs.Step.{step, MayCome, outbox_in, outbox_of}
use Rattle.step_parts.specs.Partition.{parts_of, state_in, client_part, client_place, clients_among, outbox_held, IsClient}
use Rattle.step_parts.specs.Needs.{need, is_held}
use Rattle.step_parts.specs.After.{after}
use Rattle.step_parts.proofs.PartsAfter.{length-parts}
use Rattle.step_sound.proofs.Sound.{step_sound}
use Rattle.step_parts.proofs.Holding.{all_of_them, still_all, shows_itself, clients_counted, client_at, held_part, held_client, step_of_hand}
use Rattle.step_parts.specs.AfterLaws.{after_holds_the_same}
use Rattle.step_sound.proofs.AllParts.{nothing_needed, is_held_there}

-- boxes in places are parts that are held
pub unboxed_all : {P A : Type 0} (boxes : List (Box P A)) → unboxed (map Some boxes) ≡ map Some (map box_value boxes)
unboxed_all [] = refl
unboxed_all {P} (b ∷ boxes) = ap (λ (l : List (Option P)). Some (box_value b) ∷ l) (unboxed_all boxes)

-- all parts of a state are held
abbrev pub HoldsAll : List (Option Part) → Type 0
HoldsAll hand = hand ≡ map Some (parts_of (state_in hand))

pub is_of_its_state : (hand : List (Option Part)) → HoldsAll hand → IsHandOf hand (parts_of (state_in hand))
is_of_its_state hand all = subst (λ (h : List (Option Part)). IsHandOf h (parts_of (state_in hand))) (sym all) (all_of_them (parts_of (state_in hand)))

-- after a step the hand holds all parts of the state after it
pub still_holds_all : (hand new : List (Option Part)) (after : State) → HoldsAll hand → IsHandOf new (parts_of after) → places_held new ≡ places_held hand
    → new ≡ map Some (parts_of after)
still_holds_all hand new after all of same =
    still_all new (parts_of after) (parts_of (state_in hand)) of (same ∙ ap (λ (h : List (Option Part)). places_held h) all)

pub state_after : (new : List (Option Part)) (after : State) → new ≡ map Some (parts_of after) → state_in new ≡ after
state_after new after is = ap state_in is ∙ shows_itself after

pub holds_all_after : (new : List (Option Part)) (after : State) → new ≡ map Some (parts_of after) → HoldsAll new
holds_all_after new after is = is ∙ ap (λ (s : State). map Some (parts_of s)) (sym (state_after new after is))

-- ---- one event

-- what the device keeps, and the state after the event
pub record Serves (count : ℕ) (hand new : List (Option Part)) (event : CellEvent) : Type 0 where
  pub all : HoldsAll new
  pub sound : IsSound (count + 1) (state_in new)
  pub state : state_in new ≡ step (state_in hand) event

pub serves : (count : ℕ) (hand new : List (Option Part)) (event : CellEvent) → HoldsAll hand → IsSound count (state_in hand) → MayCome (state_in hand) event
    → ((s : State) → IsHandOf hand (parts_of s) → IsHandOf new (parts_of (step s event))) → places_held new ≡ places_held hand → Serves count hand new event
serves count hand new event all sound may stepped same =
    let after = step (state_in hand) event in
    let is = still_holds_all hand new after all (stepped (state_in hand) (is_of_its_state hand all)) same in
    let shown = state_after new after is in
    record { all = holds_all_after new after is; sound = subst (IsSound (count + 1)) (sym shown) (step_sound count (state_in hand) event sound); state = shown }

pub none_needed : (hand : List (Option Part)) (event : CellEvent) → HoldsAll hand → IsAmong (length (state_in hand).clients) event → need event hand ≡ []
none_needed hand event all among = ap (λ (h : List (Option Part)). need event h) all ∙ nothing_needed (state_in hand) event among

-- a client's part is held, with the row of the state
pub client_of_all : (hand : List (Option Part)) (client : ℕ) → HoldsAll hand → 1 ≤ client → client ≤ length (state_in hand).clients
    → IsClient (held_at hand (client_place client)) × (outbox_held (held_at hand (client_place client)) ≡ outbox_of (state_in hand) client)
client_of_all hand client all some there =
    let found = client_at (state_in hand) client some there in
    let of = is_of_its_state hand all in
    let held : is_held hand (client_place client) ≡ true = client_held hand client all some there in
    let is = held_part hand (parts_of (state_in hand)) (client_place client) (client_part found.0) of held found.1 in
    (held_client (state_in hand) hand client of some there held, ap outbox_held is ∙ sym (ap outbox_in found.2))
  where
    client_held : (hand : List (Option Part)) (client : ℕ) → HoldsAll hand → 1 ≤ client → client ≤ length (state_in hand).clients → is_held hand (client_place client) ≡ true
    client_held hand client all some there =
        let counted = length-parts (state_in hand) in
        subst (λ (h : List (Option Part)). is_held h (client_place client) ≡ true) (sym all)
        (is_held_there (parts_of (state_in hand)) (client_place client) (omega (arith, counted, there)))

-- the drain of a client
pub drains : (count : ℕ) (hand new : List (Option Part)) (event : CellEvent) → HoldsAll hand → IsSound count (state_in hand) → MayCome (state_in hand) event → new ≡ after event hand → Serves count hand new event
drains count hand new event all sound may is =
    serves count hand new event all sound may
    (λ s of. step_of_hand s hand new event of (none_needed hand event all may.among) is)
    (ap (λ (h : List (Option Part)). places_held h) is ∙ after_holds_the_same event hand)
