-- Room is made in the parts of clients, and they are told: what becomes of the parts, place by place.
use Rattle.std.specs.Prelude.{◌≡◌, ◌≢◌, ℕ, zero, suc, ◌+◌, ◌-◌, ◌<◌, ◌≤◌, ◌==◌, ◌&&◌, ◌||◌, nat_lt, Bool, true, false, Option, None, Some, List, [], ◌∷◌, ◌++◌, filter, length, slice_get, unwrap_or, if◌then◌else◌, refl}
use Rattle.std.specs.List.{list_any}
use Rattle.std.specs.Option.{option_map}
use Rattle.std.proofs.Common.{ap, ap₂, sym, ◌∙◌, subst, arith}
use Rattle.std.proofs.lemmas.List.{map-append}
use native.Mathlib.Decide.{ℕ_discrete}
use Rattle.std.proofs.lemmas.Bool.Decides.{nat_tests}
use Rattle.association.specs.Client.{Client as RoomyRow}
use Rattle.part_table.specs.Held.{held_at}
use Rattle.parted_state.specs.Cut.{with_places}
use Rattle.parted_state.specs.CutLaws.{same_itself}
use Rattle.parted_state.specs.Lifted.{part_told, told_to, told_all}
use Rattle.parted_state.proofs.LiftedLaws.{held_else}
use Rattle.parted_state.specs.ListsLaws.{get_changed}
use Rattle.parted_state.specs.Served.{change}
use Rattle.step_parts.specs.declared.part.Part.{Part}
use Rattle.step_parts.specs.declared.part.Part.TheVariants.{Client}
use Rattle.cell_client.specs.declared.told.ClientTold.{ClientTold}
use Rattle.cell_client.specs.Effects.{Effect, felt}
use Rattle.step_parts.specs.Partition.{cell, client_place}
use Rattle.cell_client.specs.Telling.{effect_of, effects_told, is_output, is_wait, output_count, wait_count}
use Rattle.step_apply.specs.declared.telling.Room.{Room}
use Rattle.step_apply.specs.Rooms.{no_room, room_to, with_room, room_or_same, with_rooms, without_rooms, is_before, room_before, IsSettled, telling, HasRoom, MayBeClient, AreClients}

-- ---- lists that are changed by place

module _ {A : Type 0} where
  pub placed_same : (f g : ℕ → A → A) (xs : List A) → ((j : ℕ) (x : A) → slice_get xs j ≡ Some x → f j x ≡ g j x) → with_places f xs ≡ with_places g xs
  placed_same f g [] same = refl
  placed_same f g (x ∷ xs) same =
      ap₂ (λ (y : A) (ys : List A). y ∷ ys) (same 0 x refl) (placed_same (λ j. f (suc j)) (λ j. g (suc j)) xs (λ j y there. same (suc j) y there))

  placed_twice : (f g : ℕ → A → A) (xs : List A) → with_places f (with_places g xs) ≡ with_places (λ j x. f j (g j x)) xs
  placed_twice f g [] = refl
  placed_twice f g (x ∷ xs) = ap (λ (ys : List A). f 0 (g 0 x) ∷ ys) (placed_twice (λ j. f (suc j)) (λ j. g (suc j)) xs)

  pub placed_none : (xs : List A) → with_places (λ j x. x) xs ≡ xs
  placed_none [] = refl
  placed_none (x ∷ xs) = ap (λ (ys : List A). x ∷ ys) (placed_none xs)

  pub get_placed : (f : ℕ → A → A) (xs : List A) (i : ℕ) → slice_get (with_places f xs) i ≡ option_map (f i) (slice_get xs i)
  get_placed f [] i = refl
  get_placed f (x ∷ xs) zero = refl
  get_placed f (x ∷ xs) (suc i) = get_placed (λ j. f (suc j)) xs i

  -- one place is changed behind and before what is done by place
  pub change_placed : (f g : ℕ → A → A) (after before : A → A) (xs : List A) (i : ℕ) → ((j : ℕ) → j ≢ i → (x : A) → slice_get xs j ≡ Some x → f j x ≡ g j x)
      → ((x : A) → slice_get xs i ≡ Some x → after (f i x) ≡ g i (before x)) → change after (with_places f xs) i ≡ with_places g (change before xs i)
  change_placed f g after before [] i others here = refl
  change_placed f g after before (x ∷ xs) zero others here =
      ap₂ (λ (y : A) (ys : List A). y ∷ ys) (here x refl)
      (placed_same (λ j. f (suc j)) (λ j. g (suc j)) xs (λ j y there. others (suc j) (λ same. absurd (cc same)) y there))
  change_placed f g after before (x ∷ xs) (suc i) others here =
      ap₂ (λ (y : A) (ys : List A). y ∷ ys) (others 0 (λ same. absurd (cc same)) x refl)
      (change_placed (λ j. f (suc j)) (λ j. g (suc j)) after before xs i (λ j other y there. others (suc j) (λ same. other (let e : j ≡ i = cc same in e)) y there) here)

  pub change_same : (xs : List A) (i : ℕ) → change (λ x. x) xs i ≡ xs
  change_same [] i = refl
  change_same (x ∷ xs) zero = refl
  change_same (x ∷ xs) (suc i) = ap (λ (ys : List A). x ∷ ys) (change_same xs i)

-- ---- room

abbrev pub at_place : ℕ → (ℕ → Room) → ℕ → Option Part → Option Part
at_place last room place held = option_map (room_or_same (room_before last room (place - 5))) held

with_room_twice : (a b : Room) (part : Part) → with_room a (with_room b part) ≡ with_room a part
with_room_twice a b (Client client) = refl
with_room_twice a b other = refl

-- a part that is no client's has no room and is told nothing
pub with_room_other : (room : Room) (part : Part) → ((client : RoomyRow) → part ≡ Client client → ⊥) → with_room room part ≡ part
with_room_other room (Client client) other = absurd (other client refl)
with_room_other room part other = refl

pub telling_other : (t : ClientTold) (part : Part) → ((client : RoomyRow) → part ≡ Client client → ⊥) → telling t part ≡ part
telling_other t (Client client) other = absurd (other client refl)
telling_other t part other = refl

next_test : (last m : ℕ) → m ≢ last → is_before last m ≡ is_before (last + 1) m
next_test last m other = by_test (nat_lt m last) refl
  where
    by_test : (b : Bool) → nat_lt m last ≡ b → (nat_lt 0 m && nat_lt m last) ≡ (nat_lt 0 m && nat_lt m (last + 1))
    by_test true e = grind (arith, nat_tests)
    by_test false e =
        let past : last ≤ m = grind (arith, nat_tests) in
        let above : (nat_lt m (last + 1)) ≡ false = let less : last + 1 ≤ m = omega (arith, past, other) in grind (arith, nat_tests) in
        ap (λ (c : Bool). nat_lt 0 m && c) (e ∙ sym above)

at_next : (last : ℕ) (room : ℕ → Room) (place : ℕ) (held : Option Part) → 1 ≤ last → place ≢ client_place last → at_place last room place held ≡ at_place (last + 1) room place held
at_next last room place held some other =
    ap (λ (b : Bool). option_map (room_or_same (if b then Some (room (place - 5)) else None)) held)
    (next_test last (place - 5) (λ same. other (omega (arith, same, some))))

before_itself : (last : ℕ) → is_before last last ≡ false
before_itself last = grind (arith, nat_tests)

before_next : (last : ℕ) → 1 ≤ last → is_before (last + 1) last ≡ true
before_next last some = grind (arith, nat_tests)

here_before : (last : ℕ) (room : ℕ → Room) (held : Option Part) → at_place last room (client_place last) held ≡ held
here_before last room held =
    let same : client_place last - 5 ≡ last = omega arith in
    ap (λ (m : ℕ). option_map (room_or_same (room_before last room m)) held) same
    ∙ ap (λ (b : Bool). option_map (room_or_same (if b then Some (room last) else None)) held) (before_itself last)
    ∙ by_value held
  where
    by_value : (held : Option Part) → option_map (room_or_same None) held ≡ held
    by_value None = refl
    by_value (Some part) = refl

here_next : (last : ℕ) (room : ℕ → Room) (held : Option Part) → 1 ≤ last → at_place (last + 1) room (client_place last) held ≡ option_map (with_room (room last)) held
here_next last room held some =
    let same : client_place last - 5 ≡ last = omega arith in
    ap (λ (m : ℕ). option_map (room_or_same (room_before (last + 1) room m)) held) same
    ∙ ap (λ (b : Bool). option_map (room_or_same (if b then Some (room last) else None)) held) (before_next last some)

-- room is made for one more client
pub room_made : (last : ℕ) (room : ℕ → Room) (hand : List (Option Part)) → 1 ≤ last
    → change (option_map (with_room (room last))) (with_rooms last room hand) (client_place last) ≡ with_rooms (last + 1) room hand
room_made last room hand some =
    change_placed (at_place last room) (at_place (last + 1) room) (option_map (with_room (room last))) (λ held. held) hand (client_place last)
    (λ j other held there. at_next last room j held some other)
    (λ held there. ap (option_map (with_room (room last))) (here_before last room held) ∙ sym (here_next last room held some))
    ∙ ap (λ (l : List (Option Part)). with_rooms (last + 1) room l) (change_same hand (client_place last))

settled_at : (n : ℕ) (hand : List (Option Part)) (place : ℕ) (held : Option Part) → IsSettled n hand → slice_get hand place ≡ Some held → at_place n (λ client. no_room) place held ≡ held
settled_at n hand place held settled there =
    let both : Some (at_place n (λ client. no_room) place held) ≡ Some held =
    sym (get_placed (at_place n (λ client. no_room)) hand place ∙ ap (option_map (at_place n (λ client. no_room) place)) there)
    ∙ ap (λ (l : List (Option Part)). slice_get l place) settled ∙ there in
    cc both

before_last : (last n : ℕ) → 1 ≤ last → last < n → is_before n last ≡ true
before_last last n some within = grind (arith, nat_tests)

untold : (client : ℕ) (test : ClientTold → Bool) (list : List (ℕ × ClientTold)) → list_any (λ (t : ℕ × ClientTold). t.0 == client) list ≡ false → filter (λ (t : ℕ × ClientTold). (t.0 == client) && test t.1) list ≡ []
untold client test [] none = refl
untold client test (t ∷ list) none = by_test (t.0 == client) none (λ e. untold client test list e)
  where
    by_test : (b : Bool) → (b || list_any (λ (t : ℕ × ClientTold). t.0 == client) list) ≡ false
        → (list_any (λ (t : ℕ × ClientTold). t.0 == client) list ≡ false → filter (λ (t : ℕ × ClientTold). (t.0 == client) && test t.1) list ≡ [])
        → (if b && test t.1 then t ∷ filter (λ (t : ℕ × ClientTold). (t.0 == client) && test t.1) list else filter (λ (t : ℕ × ClientTold). (t.0 == client) && test t.1) list) ≡ []
    by_test false e rest = rest e
    by_test true e rest = absurd (cc e)

-- who isn't told anything needs none
pub untold_room : (client : ℕ) (told : List (ℕ × ClientTold)) → list_any (λ (t : ℕ × ClientTold). t.0 == client) told ≡ false → room_to told client ≡ no_room
untold_room client told none =
    ap₂ at (ap (λ (l : List (ℕ × ClientTold)). length l) (untold client (λ t. is_output t) told none)) (ap (λ (l : List (ℕ × ClientTold)). length l) (untold client (λ t. is_wait t) told none))
  where
    at : ℕ → ℕ → Room
    at m n = record { outputs = m; waiting = n }

-- and none has to be made where it is told nothing
pub room_needless : (last n : ℕ) (room : ℕ → Room) (hand : List (Option Part)) → 1 ≤ last → last < n → IsSettled n hand → room last ≡ no_room
    → with_rooms last room hand ≡ with_rooms (last + 1) room hand
room_needless last n room hand some within settled none =
    sym (change_same (with_rooms last room hand) (client_place last))
    ∙ change_placed (at_place last room) (at_place (last + 1) room) (λ held. held) (λ held. held) hand (client_place last)
    (λ j other held there. at_next last room j held some other)
    (λ held there.
    here_before last room held
    ∙ sym (settled_at n hand (client_place last) held settled there)
    ∙ here held
    ∙ ap (λ (r : Room). option_map (with_room r) held) (sym none)
    ∙ sym (here_next last room held some))
    ∙ ap (λ (l : List (Option Part)). with_rooms (last + 1) room l) (change_same hand (client_place last))
  where
    here : (held : Option Part) → at_place n (λ client. no_room) (client_place last) held ≡ option_map (with_room no_room) held
    here held =
        let same : client_place last - 5 ≡ last = omega arith in
        ap (λ (m : ℕ). option_map (room_or_same (room_before n (λ client. no_room) m)) held) same
        ∙ ap (λ (b : Bool). option_map (room_or_same (if b then Some no_room else None)) held) (before_last last n some within)

-- room that is given up again
pub rooms_gone : (last n : ℕ) (room : ℕ → Room) (hand : List (Option Part)) → last ≤ n → without_rooms n (with_rooms last room hand) ≡ without_rooms n hand
rooms_gone last n room hand within =
    placed_twice (at_place n (λ client. no_room)) (at_place last room) hand
    ∙ placed_same (λ j held. at_place n (λ client. no_room) j (at_place last room j held)) (at_place n (λ client. no_room)) hand (λ j held there. at_each (j - 5) held)
  where
    by_tests : (m : ℕ) (held : Option Part) (b c : Bool) → (b ≡ true → c ≡ true)
        → option_map (room_or_same (if c then Some no_room else None)) (option_map (room_or_same (if b then Some (room m) else None)) held)
        ≡ option_map (room_or_same (if c then Some no_room else None)) held
    by_tests m None b c more = refl
    by_tests m (Some part) false c more = refl
    by_tests m (Some part) true true more = ap Some (with_room_twice no_room (room m) part)
    by_tests m (Some part) true false more = absurd (cc (more refl))

    at_each : (m : ℕ) (held : Option Part)
        → option_map (room_or_same (room_before n (λ client. no_room) m)) (option_map (room_or_same (room_before last room m)) held)
        ≡ option_map (room_or_same (room_before n (λ client. no_room) m)) held
    at_each m held = by_tests m held (is_before last m) (is_before n m) (λ e. wider m e)
      where
        wider : (m : ℕ) → is_before last m ≡ true → is_before n m ≡ true
        wider m e = grind (arith, nat_tests)

-- no room is made for anybody before the first client
pub no_rooms_yet : (room : ℕ → Room) (hand : List (Option Part)) → with_rooms 1 room hand ≡ hand
no_rooms_yet room hand = placed_same (at_place 1 room) (λ j held. held) hand (λ j held there. here (j - 5) held) ∙ placed_none hand
  where
    nobody : (m : ℕ) → is_before 1 m ≡ false
    nobody m = grind (arith, nat_tests)

    by_value : (held : Option Part) → option_map (room_or_same None) held ≡ held
    by_value None = refl
    by_value (Some part) = refl

    here : (m : ℕ) (held : Option Part) → option_map (room_or_same (room_before 1 room m)) held ≡ held
    here m held = ap (λ (b : Bool). option_map (room_or_same (if b then Some (room m) else None)) held) (nobody m) ∙ by_value held

-- ---- telling

outputs_else : (client : ℕ) (t : ClientTold) (list : List (ℕ × ClientTold)) (other : ℕ) → other ≢ client → room_to ((client, t) ∷ list) other ≡ room_to list other
outputs_else client t list other apart =
    let no : (client == other) ≡ false = grind (arith, nat_tests) in
    ap (λ (b : Bool). at b) no
  where
    counted : (ClientTold → Bool) → Bool → ℕ
    counted p b = length (if b && p t then (client, t) ∷ filter (λ x. (x.0 == other) && p x.1) list else filter (λ x. (x.0 == other) && p x.1) list)

    at : Bool → Room
    at b = record { outputs = counted is_output b; waiting = counted is_wait b }

own_counted : (p : ClientTold → Bool) (client : ℕ) (t : ClientTold) (list : List (ℕ × ClientTold))
    → length (filter (λ x. (x.0 == client) && p x.1) ((client, t) ∷ list)) ≡ length (filter (λ x. (x.0 == client) && p x.1) list) + (if p t then 1 else 0)
own_counted p client t list =
    ap (λ (b : Bool). length (if b && p t then (client, t) ∷ mine else mine)) (same_itself client) ∙ by_test (p t)
  where
    mine : List (ℕ × ClientTold)
    mine = filter (λ x. (x.0 == client) && p x.1) list

    by_test : (b : Bool) → length (if b then (client, t) ∷ mine else mine) ≡ length mine + (if b then 1 else 0)
    by_test true = omega arith
    by_test false = omega arith

within : (n client : ℕ) → 1 ≤ client → client ≤ n → is_before (n + 1) client ≡ true
within n client some few = grind (arith, nat_tests)

here_room : (n : ℕ) (room : ℕ → Room) (client : ℕ) (held : Option Part) → 1 ≤ client → client ≤ n
    → at_place (n + 1) room (client_place client) held ≡ option_map (with_room (room client)) held
here_room n room client held some few =
    let same : client_place client - 5 ≡ client = omega arith in
    ap (λ (m : ℕ). option_map (room_or_same (room_before (n + 1) room m)) held) same
    ∙ ap (λ (b : Bool). option_map (room_or_same (if b then Some (room client) else None)) held) (within n client some few)

-- the rooms of other clients
else_room : (n : ℕ) (client : ℕ) (t : ClientTold) (rest : List (ℕ × ClientTold)) (place : ℕ) (held : Option Part) → place ≢ client_place client
    → at_place (n + 1) (room_to ((client, t) ∷ rest)) place held ≡ at_place (n + 1) (room_to rest) place held
else_room n client t rest place held other = by_test (is_before (n + 1) (place - 5)) refl
  where
    by_test : (b : Bool) → is_before (n + 1) (place - 5) ≡ b
        → option_map (room_or_same (if b then Some (room_to ((client, t) ∷ rest) (place - 5)) else None)) held
        ≡ option_map (room_or_same (if b then Some (room_to rest (place - 5)) else None)) held
    by_test false e = refl
    by_test true e =
        let some : 0 < place - 5 = grind (arith, nat_tests) in
        ap (λ (r : Room). option_map (with_room r) held) (outputs_else client t rest (place - 5) (λ same. other (omega (arith, same, some))))

may_be : (hand : List (Option Part)) (place : ℕ) (held : Option Part) → slice_get hand place ≡ Some held → MayBeClient (held_at hand place) → MayBeClient held
may_be hand place held there may = subst MayBeClient (ap (λ (o : Option (Option Part)). unwrap_or o None) there) may

-- a client is told the first of what is left, for all of which there is room
pub one_told : (n client : ℕ) (t : ClientTold) (rest : List (ℕ × ClientTold)) (hand : List (Option Part)) → 1 ≤ client → client ≤ n → AreClients n hand
    → change (option_map (telling t)) (with_rooms (n + 1) (room_to ((client, t) ∷ rest)) hand) (client_place client)
    ≡ with_rooms (n + 1) (room_to rest) (change (option_map (part_told cell (effect_of t))) hand (client_place client))
one_told n client t rest hand some few clients =
    change_placed (at_place (n + 1) (room_to ((client, t) ∷ rest))) (at_place (n + 1) (room_to rest)) (option_map (telling t))
    (option_map (part_told cell (effect_of t))) hand (client_place client)
    (λ j other held there. else_room n client t rest j held other)
    (λ held there.
    ap (option_map (telling t)) (here_room n (room_to ((client, t) ∷ rest)) client held some few)
    ∙ here held (may_be hand (client_place client) held there (clients client some few))
    ∙ sym (here_room n (room_to rest) client (option_map (part_told cell (effect_of t)) held) some few))
  where
    left : (room_to ((client, t) ∷ rest) client).outputs - output_count t ≡ (room_to rest client).outputs
    left = let own = own_counted is_output client t rest in omega (arith, own)

    fewer : (room_to ((client, t) ∷ rest) client).waiting - wait_count t ≡ (room_to rest client).waiting
    fewer = let own = own_counted is_wait client t rest in omega (arith, own)

    here : (held : Option Part) → MayBeClient held
        → option_map (telling t) (option_map (with_room (room_to ((client, t) ∷ rest) client)) held)
        ≡ option_map (with_room (room_to rest client)) (option_map (part_told cell (effect_of t)) held)
    here None may = refl
    here (Some (Client r)) may = ap₂ (λ (m w : ℕ). Some (Client (record { row = felt (effect_of t) r.row; output_room = m; waiting_room = w; asked_room = 0 }))) left fewer
    here (Some other) may = absurd may

-- for which there is room
pub has_room : (n client : ℕ) (t : ClientTold) (rest : List (ℕ × ClientTold)) (hand : List (Option Part)) → 1 ≤ client → client ≤ n → AreClients n hand
    → HasRoom t (held_at (with_rooms (n + 1) (room_to ((client, t) ∷ rest)) hand) (client_place client))
has_room n client t rest hand some few clients =
    subst (HasRoom t) (sym (ap (λ (o : Option (Option Part)). unwrap_or o None) (get_placed (at_place (n + 1) (room_to ((client, t) ∷ rest))) hand (client_place client))))
    (by_value (slice_get hand (client_place client)))
  where
    enough : output_count t ≤ (room_to ((client, t) ∷ rest) client).outputs
    enough = let own = own_counted is_output client t rest in omega (arith, own)

    enough_waiting : wait_count t ≤ (room_to ((client, t) ∷ rest) client).waiting
    enough_waiting = let own = own_counted is_wait client t rest in omega (arith, own)

    there : (held : Option Part) → HasRoom t (option_map (with_room (room_to ((client, t) ∷ rest) client)) held)
    there None = tt
    there (Some (Client r)) = (enough, enough_waiting)
    there (Some other) = tt

    by_value : (o : Option (Option Part)) → HasRoom t (unwrap_or (option_map (at_place (n + 1) (room_to ((client, t) ∷ rest)) (client_place client)) o) None)
    by_value None = tt
    by_value (Some held) = subst (HasRoom t) (sym (here_room n (room_to ((client, t) ∷ rest)) client held some few)) (there held)

-- one that is told to nobody
pub none_told : (n client : ℕ) (t : ClientTold) (rest : List (ℕ × ClientTold)) (hand : List (Option Part)) → (1 ≤ client → client ≤ n → ⊥)
    → with_rooms (n + 1) (room_to ((client, t) ∷ rest)) hand ≡ with_rooms (n + 1) (room_to rest) hand
none_told n client t rest hand nobody =
    placed_same (at_place (n + 1) (room_to ((client, t) ∷ rest))) (at_place (n + 1) (room_to rest)) hand (λ j held there. at_each j held)
  where
    at_each : (place : ℕ) (held : Option Part) → at_place (n + 1) (room_to ((client, t) ∷ rest)) place held ≡ at_place (n + 1) (room_to rest) place held
    at_each place held = by_test (is_before (n + 1) (place - 5)) refl
      where
        by_test : (b : Bool) → is_before (n + 1) (place - 5) ≡ b
            → option_map (room_or_same (if b then Some (room_to ((client, t) ∷ rest) (place - 5)) else None)) held
            ≡ option_map (room_or_same (if b then Some (room_to rest (place - 5)) else None)) held
        by_test false e = refl
        by_test true e =
            let some : 0 < place - 5 = grind (arith, nat_tests) in
            let few : place - 5 < n + 1 = grind (arith, nat_tests) in
            ap (λ (r : Room). option_map (with_room r) held)
            (outputs_else client t rest (place - 5) (λ same. nobody (omega (arith, same, some)) (omega (arith, same, few))))

-- ---- told in order

pub told_to_one : (n client : ℕ) (effect : Effect) (hand : List (Option Part)) → 1 ≤ client → client ≤ n
    → told_to cell n client effect hand ≡ change (option_map (part_told cell effect)) hand (client_place client)
told_to_one n zero effect hand some few = absurd (omega (arith, some))
told_to_one n (suc i) effect hand some few =
    let below : nat_lt i n ≡ true = grind (arith, nat_tests) in
    ap (λ (b : Bool). if b then change (option_map (part_told cell effect)) hand (client_place (suc i)) else hand) below

pub told_to_none : (n client : ℕ) (effect : Effect) (hand : List (Option Part)) → (1 ≤ client → client ≤ n → ⊥) → told_to cell n client effect hand ≡ hand
told_to_none n zero effect hand nobody = refl
told_to_none n (suc i) effect hand nobody = by_test (nat_lt i n) refl
  where
    by_test : (b : Bool) → nat_lt i n ≡ b → (if b then change (option_map (part_told cell effect)) hand (client_place (suc i)) else hand) ≡ hand
    by_test false e = refl
    by_test true e = let below : i < n = grind (arith, nat_tests) in absurd (nobody (omega arith) (omega (arith, below)))

pub told_more : (n : ℕ) (done : List (ℕ × Effect)) (client : ℕ) (effect : Effect) (hand : List (Option Part))
    → told_all cell n (done ++ (client, effect) ∷ []) hand ≡ told_to cell n client effect (told_all cell n done hand)
told_more n [] client effect hand = refl
told_more n (t ∷ done) client effect hand = told_more n done client effect (told_to cell n t.0 t.1 hand)

clients_changed : (n : ℕ) (effect : Effect) (hand : List (Option Part)) (place : ℕ) → AreClients n hand → AreClients n (change (option_map (part_told cell effect)) hand place)
clients_changed n effect hand place clients client some few = by_place (ℕ_discrete (client_place client) place)
  where
    by_value : (o : Option (Option Part)) → MayBeClient (unwrap_or (option_map (option_map (part_told cell effect)) o) None)
    by_value None = tt
    by_value (Some None) = tt
    by_value (Some (Some part)) = tt

    by_place : Dec (client_place client ≡ place) → MayBeClient (held_at (change (option_map (part_told cell effect)) hand place) (client_place client))
    by_place (yes same) =
        subst MayBeClient
        (ap (λ (o : Option (Option Part)). unwrap_or o None) (sym (get_changed (option_map (part_told cell effect)) hand place))
        ∙ ap (λ (m : ℕ). held_at (change (option_map (part_told cell effect)) hand place) m) (sym same))
        (by_value (slice_get hand place))
    by_place (no other) = subst MayBeClient (sym (held_else (option_map (part_told cell effect)) hand place (client_place client) other)) (clients client some few)

settled_changed : (n client : ℕ) (effect : Effect) (hand : List (Option Part)) → 1 ≤ client → client ≤ n → IsSettled (n + 1) hand
    → IsSettled (n + 1) (change (option_map (part_told cell effect)) hand (client_place client))
settled_changed n client effect hand some few settled =
    sym (change_placed (at_place (n + 1) (λ c. no_room)) (at_place (n + 1) (λ c. no_room)) (option_map (part_told cell effect)) (option_map (part_told cell effect)) hand (client_place client)
    (λ j other held there. refl)
    (λ held there.
    ap (option_map (part_told cell effect)) (here_room n (λ c. no_room) client held some few)
    ∙ here held
    ∙ sym (here_room n (λ c. no_room) client (option_map (part_told cell effect) held) some few)))
    ∙ ap (λ (l : List (Option Part)). change (option_map (part_told cell effect)) l (client_place client)) settled
  where
    here : (held : Option Part) → option_map (part_told cell effect) (option_map (with_room no_room) held) ≡ option_map (with_room no_room) (option_map (part_told cell effect) held)
    here None = refl
    here (Some (Client r)) = refl
    here (Some other) = refl

-- what holds of the parts while clients are told what is left
pub record Tells (n : ℕ) (hand now : List (Option Part)) (done rest : List (ℕ × ClientTold)) : Type 0 where
  pub parts : now ≡ with_rooms (n + 1) (room_to rest) (told_all cell n (effects_told done) hand)
  pub settled : IsSettled (n + 1) (told_all cell n (effects_told done) hand)
  pub clients : AreClients n (told_all cell n (effects_told done) hand)

told_next : (n : ℕ) (hand : List (Option Part)) (done : List (ℕ × ClientTold)) (client : ℕ) (t : ClientTold)
    → told_all cell n (effects_told (done ++ (client, t) ∷ [])) hand ≡ told_to cell n client (effect_of t) (told_all cell n (effects_told done) hand)
told_next n hand done client t =
    ap (λ (l : List (ℕ × Effect)). told_all cell n l hand) (map-append (λ x. (x.0, effect_of x.1)) done ((client, t) ∷ []))
    ∙ told_more n (effects_told done) client (effect_of t) hand

pub tells_one : (n : ℕ) (hand now new : List (Option Part)) (done rest : List (ℕ × ClientTold)) (client : ℕ) (t : ClientTold) → 1 ≤ client → client ≤ n
    → Tells n hand now done ((client, t) ∷ rest) → new ≡ change (option_map (telling t)) now (client_place client) → Tells n hand new (done ++ (client, t) ∷ []) rest
tells_one n hand now new done rest client t some few tells is =
    let so_far = told_all cell n (effects_told done) hand in
    let next = told_next n hand done client t ∙ told_to_one n client (effect_of t) so_far some few in
    record {
      parts =
          is ∙ ap (λ (l : List (Option Part)). change (option_map (telling t)) l (client_place client)) tells.parts
          ∙ one_told n client t rest so_far some few tells.clients
          ∙ ap (with_rooms (n + 1) (room_to rest)) (sym next);
      settled = subst (IsSettled (n + 1)) (sym next) (settled_changed n client (effect_of t) so_far some few tells.settled);
      clients = subst (AreClients n) (sym next) (clients_changed n (effect_of t) so_far (client_place client) tells.clients);
    }

pub tells_none : (n : ℕ) (hand now : List (Option Part)) (done rest : List (ℕ × ClientTold)) (client : ℕ) (t : ClientTold) → (1 ≤ client → client ≤ n → ⊥)
    → Tells n hand now done ((client, t) ∷ rest) → Tells n hand now (done ++ (client, t) ∷ []) rest
tells_none n hand now done rest client t nobody tells =
    let so_far = told_all cell n (effects_told done) hand in
    let next = told_next n hand done client t ∙ told_to_none n client (effect_of t) so_far nobody in
    record {
      parts = tells.parts ∙ none_told n client t rest so_far nobody ∙ ap (with_rooms (n + 1) (room_to rest)) (sym next);
      settled = subst (IsSettled (n + 1)) (sym next) tells.settled;
      clients = subst (AreClients n) (sym next) tells.clients;
    }

-- when all is told no room is left
pub tells_all : (n : ℕ) (hand now : List (Option Part)) (done : List (ℕ × ClientTold)) → Tells n hand now done [] → now ≡ told_all cell n (effects_told done) hand
tells_all n hand now done tells = tells.parts ∙ tells.settled

pub tells_next : (n : ℕ) (hand now new : List (Option Part)) (done rest : List (ℕ × ClientTold)) (client : ℕ) (t : ClientTold) → Tells n hand now done ((client, t) ∷ rest)
    → (1 ≤ client → client ≤ n → new ≡ change (option_map (telling t)) now (client_place client)) → ((1 ≤ client → client ≤ n → ⊥) → new ≡ now)
    → Tells n hand new (done ++ (client, t) ∷ []) rest
tells_next n hand now new done rest client t tells one nobody = by_tests (nat_lt 0 client) (nat_lt n client) refl refl
  where
    outside : (1 ≤ client → client ≤ n → ⊥) → Tells n hand new (done ++ (client, t) ∷ []) rest
    outside none =
        subst (λ (h : List (Option Part)). Tells n hand h (done ++ (client, t) ∷ []) rest) (sym (nobody none)) (tells_none n hand now done rest client t none tells)

    by_tests : (b c : Bool) → nat_lt 0 client ≡ b → nat_lt n client ≡ c → Tells n hand new (done ++ (client, t) ∷ []) rest
    by_tests false c e f = let none : client ≤ 0 = grind (arith, nat_tests) in outside (λ some few. omega (arith, none, some))
    by_tests true true e f = let past : n < client = grind (arith, nat_tests) in outside (λ some few. omega (arith, past, few))
    by_tests true false e f =
        let some : 1 ≤ client = grind (arith, nat_tests) in
        let few : client ≤ n = grind (arith, nat_tests) in
        tells_one n hand now new done rest client t some few tells (one some few)

pub clients_roomed : (n last : ℕ) (room : ℕ → Room) (hand : List (Option Part)) → AreClients n hand → AreClients n (with_rooms last room hand)
clients_roomed n last room hand clients client some few =
    subst MayBeClient (sym (ap (λ (o : Option (Option Part)). unwrap_or o None) (get_placed (at_place last room) hand (client_place client))))
    (by_value (at_place last room (client_place client)) kind (slice_get hand (client_place client)) (clients client some few))
  where
    by_room : (o : Option Room) (r : RoomyRow) → MayBeClient (Some (room_or_same o (Client r)))
    by_room None r = tt
    by_room (Some m) r = tt

    kind : (held : Option Part) → MayBeClient held → MayBeClient (at_place last room (client_place client) held)
    kind None may = tt
    kind (Some (Client r)) may = by_room (room_before last room (client_place client - 5)) r
    kind (Some other) may = absurd may

    by_value : (f : Option Part → Option Part) → ((held : Option Part) → MayBeClient held → MayBeClient (f held)) → (o : Option (Option Part)) → MayBeClient (unwrap_or o None)
        → MayBeClient (unwrap_or (option_map f o) None)
    by_value f each None may = tt
    by_value f each (Some held) may = each held may

-- at first nobody was told anything
pub tells_first : (n : ℕ) (hand : List (Option Part)) (list : List (ℕ × ClientTold)) → hand ≡ with_rooms (n + 1) (room_to list) (without_rooms (n + 1) hand) → AreClients n hand
    → Tells n (without_rooms (n + 1) hand) hand [] list
tells_first n hand list rooms clients = record {
  parts = rooms;
  settled = rooms_gone (n + 1) (n + 1) (λ client. no_room) hand (omega arith);
  clients = clients_roomed n (n + 1) (λ client. no_room) hand clients;
}

pub room_there : (n : ℕ) (hand now : List (Option Part)) (done rest : List (ℕ × ClientTold)) (client : ℕ) (t : ClientTold) → Tells n hand now done ((client, t) ∷ rest)
    → 1 ≤ client → client ≤ n → HasRoom t (held_at now (client_place client))
room_there n hand now done rest client t tells some few =
    subst (λ (h : List (Option Part)). HasRoom t (held_at h (client_place client))) (sym tells.parts)
    (has_room n client t rest (told_all cell n (effects_told done) hand) some few tells.clients)
