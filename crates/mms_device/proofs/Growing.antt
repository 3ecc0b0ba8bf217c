-- A hand that grows.
use Rattle.std.specs.Prelude.{◌≡◌, ◌⊎◌, ℕ, zero, suc, ◌<◌, ◌≤◌, Bool, true, false, not, Option, None, Some, List, [], ◌∷◌, ◌++◌, is_some, filter, length, slice_set, Contains, refl}
use Rattle.std.proofs.Common.{ap, sym, ◌∙◌, inl, inr, subst, arith}
use native.Mathlib.Decide.{ℕ_discrete}
use Rattle.std.proofs.lemmas.List.Elements.{All-filter, All-contains_itself, All-contains, filter_passes}
use Rattle.part_table.specs.Held.{held_at, IsHandOf}
use Rattle.part_table.specs.HeldLaws.{held_set_else, held_of_list, hand_of}
use Rattle.parted_state.specs.CutLaws as laws
use Rattle.step_parts.specs.declared.part.Part.{Part}
use Rattle.mms_types.specs.declared.event.CellEvent.{CellEvent}
use Rattle.mms_types.specs.declared.event.CellEvent.TheVariants.{Heard, Lost, Tick, Ends, Drain}
use Rattle.cell_client.specs.Association.{verdict}
use Rattle.cell_client.specs.declared.verdict.Found.{Found}
use Rattle.step_parts.specs.declared.part.Part.TheVariants.{Client}
use Rattle.step_parts.specs.Needs.{is_held}
use Rattle.step_parts.specs.Partition.{client_in, client_place, row_in, IsClient}
use Rattle.step_parts.specs.Found.{IsFoundOf}
use Rattle.mms_device.specs.Shared.{Caller}
use Rattle.mms_device.specs.Taken.{HasGrown, HasTaken, free_count}
use Rattle.mms_device.proofs.Steps.{the_held}

pub the_one : (part i : ℕ) → Contains (part ∷ []) i → i ≡ part
the_one part i (zero, within, same) = sym same
the_one part i (suc k, within, same) = absurd (omega arith)

pub not_free : (hand : List (Option Part)) (i : ℕ) → is_held hand i ≡ true → held_at hand i ≡ None → ⊥
not_free hand i held free = let x = the_held hand i held in let e = x.1 in cc (sym e ∙ free)

pub still_held : (asked : List ℕ) (before after : List (Option Part)) (i : ℕ) → HasGrown asked before after → is_held before i ≡ true → is_held after i ≡ true
still_held asked before after i grown held = let x = the_held before i held in ap is_some (grown.kept i x.0 x.1)

pub grown_none : (asked : List ℕ) (hand : List (Option Part)) → HasGrown asked hand hand
grown_none asked hand = record { places = refl; kept = λ i x e. e; only = λ i held. inl held }

pub grown_more : (asked : List ℕ) (part : ℕ) (a b c : List (Option Part)) → Contains asked part → HasGrown asked a b → HasGrown (part ∷ []) b c → HasGrown asked a c
grown_more asked part a b c is first next = record {
  places = next.places ∙ first.places;
  kept = λ i x e. next.kept i x (first.kept i x e);
  only = λ i held. from i (next.only i held);
}
  where
    from : (i : ℕ) → (is_held b i ≡ true) ⊎ Contains (part ∷ []) i → (is_held a i ≡ true) ⊎ Contains asked i
    from i (inl held) = first.only i held
    from i (inr one) = inr (subst (λ (j : ℕ). Contains asked j) (sym (the_one part i one)) is)

pub sub_hand : (asked : List ℕ) (before after : List (Option Part)) (parts : List Part) → HasGrown asked before after → IsHandOf after parts → IsHandOf before parts
sub_hand asked before after parts grown of = hand_of before parts (sym grown.places ∙ of.places) (λ i x e. held_of_list after parts i x of (grown.kept i x e))

-- what was found of the octets of an event stays so: the part of its client is held as it was
pub found_grown : (found : Option Found) (event : CellEvent) (asked : List ℕ) (before after : List (Option Part)) → HasGrown asked before after → IsFoundOf found event before
    → IsFoundOf found event after
found_grown None event asked before after grown of = tt
found_grown (Some f) (Heard client octets) asked before after grown of =
    let same : held_at after (client_place client) ≡ held_at before (client_place client) = grown.kept (client_place client) (Client (client_in (held_at before (client_place client)))) of.0 ∙ sym of.0 in (
      subst (λ (o : Option Part). IsClient o) (sym same) of.0,
      of.1 ∙ ap (λ (o : Option Part). verdict (row_in o) octets) (sym same),
    )
found_grown (Some f) (Lost client) asked before after grown of = tt
found_grown (Some f) (Tick ms) asked before after grown of = tt
found_grown (Some f) (Ends name) asked before after grown of = tt
found_grown (Some f) (Drain client) asked before after grown of = tt

-- ---- passes

-- as it does by a pass that saw the history, and took parts
pub found_seen : (found : Option Found) (event : CellEvent) (old saw : Caller) → saw ≡ record old { seen = saw.seen } → IsFoundOf found event old.taken → IsFoundOf found event saw.taken
found_seen found event old saw is of = subst (λ (h : List (Option Part)). IsFoundOf found event h) (sym (ap (λ (p : Caller). p.taken) is)) of

pub found_taken : (found : Option Found) (event : CellEvent) (old saw new : Caller) (asked : List ℕ) → saw ≡ record old { seen = saw.seen } → HasTaken asked saw new
    → IsFoundOf found event old.taken → IsFoundOf found event new.taken
found_taken found event old saw new asked is took of = found_grown found event asked saw.taken new.taken took.grown (found_seen found event old saw is of)

pub taken_none : (asked : List ℕ) (pass : Caller) → pass.hand ≡ pass.taken → HasTaken asked pass pass
taken_none asked pass same = record { pass = refl; hand = same; grown = grown_none asked pass.taken }

pub taken_more : (asked : List ℕ) (part : ℕ) (a b c : Caller) → Contains asked part → HasTaken asked a b → HasTaken (part ∷ []) b c → HasTaken asked a c
taken_more asked part a b c is first next = record {
  pass = next.pass ∙ ap {A = Caller} {B = Caller} (λ p. record p { lost = c.lost; taken = c.taken; hand = c.hand; order = c.order }) first.pass;
  hand = next.hand;
  grown = grown_more asked part a.taken b.taken c.taken is first.grown next.grown;
}

-- parts in their order, of which one is next
pub is_next : (all done left : List ℕ) (part : ℕ) → all ≡ done ++ part ∷ left → Contains all part
is_next all done left part is =
    subst (λ (l : List ℕ). Contains l part) (sym is)
    (laws.in_contains (done ++ part ∷ left) part (laws.in_back done (part ∷ left) part (laws.contains_in (part ∷ left) part (0, omega arith, refl))))

pub held_next : (asked : List ℕ) (before after : List (Option Part)) (done : List ℕ) (part : ℕ) → HasGrown asked before after → ((i : ℕ) → Contains done i → is_held before i ≡ true)
    → is_held after part ≡ true → (i : ℕ) → Contains (done ++ part ∷ []) i → is_held after i ≡ true
held_next asked before after done part grown each here i is =
    elim (laws.in_either done (part ∷ []) i (laws.contains_in (done ++ part ∷ []) i is)) [
      | inl a ↦ still_held asked before after i grown (each i (laws.in_contains done i a))
      | inr b ↦ ap (λ (j : ℕ). is_held after j) (the_one part i (laws.in_contains (part ∷ []) i b)) ∙ here
    ]

-- ---- counting

pub fewer_free : (before after : List (Option Part)) → length after ≡ length before → ((i : ℕ) → is_held before i ≡ true → is_held after i ≡ true) → free_count after ≤ free_count before
fewer_free [] [] same more = omega arith
fewer_free [] (y ∷ after) same more = absurd (cc same)
fewer_free (x ∷ before) [] same more = absurd (cc same)
fewer_free (None ∷ before) (None ∷ after) same more =
    let rest = fewer_free before after (cc same) (λ i h. more (suc i) h) in omega arith
fewer_free (None ∷ before) (Some y ∷ after) same more =
    let rest = fewer_free before after (cc same) (λ i h. more (suc i) h) in omega arith
fewer_free (Some x ∷ before) (None ∷ after) same more = absurd (let e = more 0 refl in cc e)
fewer_free (Some x ∷ before) (Some y ∷ after) same more =
    let rest = fewer_free before after (cc same) (λ i h. more (suc i) h) in omega arith

pub one_fewer_free : (before after : List (Option Part)) (i : ℕ) → length after ≡ length before → ((j : ℕ) → is_held before j ≡ true → is_held after j ≡ true)
    → is_held before i ≡ false → is_held after i ≡ true → free_count after < free_count before
one_fewer_free [] [] i same more free held = absurd (cc held)
one_fewer_free [] (y ∷ after) i same more free held = absurd (cc same)
one_fewer_free (x ∷ before) [] i same more free held = absurd (cc same)
one_fewer_free (None ∷ before) (None ∷ after) zero same more free held = absurd (cc held)
one_fewer_free (None ∷ before) (Some y ∷ after) zero same more free held =
    let rest = fewer_free before after (cc same) (λ j h. more (suc j) h) in omega arith
one_fewer_free (Some x ∷ before) (y ∷ after) zero same more free held = absurd (cc free)
one_fewer_free (None ∷ before) (None ∷ after) (suc i) same more free held =
    let rest = one_fewer_free before after i (cc same) (λ j h. more (suc j) h) free held in omega arith
one_fewer_free (None ∷ before) (Some y ∷ after) (suc i) same more free held =
    let rest = one_fewer_free before after i (cc same) (λ j h. more (suc j) h) free held in omega arith
one_fewer_free (Some x ∷ before) (None ∷ after) (suc i) same more free held = absurd (let e = more 0 refl in cc e)
one_fewer_free (Some x ∷ before) (Some y ∷ after) (suc i) same more free held =
    let rest = one_fewer_free before after i (cc same) (λ j h. more (suc j) h) free held in omega arith

-- ---- what is missing

pub of_the_list : (p : ℕ → Bool) (xs : List ℕ) (i : ℕ) → Contains (filter p xs) i → Contains xs i
of_the_list p xs i is = All-contains (λ j. Contains xs j) (filter p xs) i (All-filter p (λ j. Contains xs j) xs (All-contains_itself xs)) is

pub is_missing : (hand : List (Option Part)) (xs : List ℕ) (i : ℕ) → Contains (filter (λ place. not (is_held hand place)) xs) i → is_held hand i ≡ false
is_missing hand xs i is = by (is_held hand i) (All-contains (λ j. not (is_held hand j) ≡ true) (filter (λ place. not (is_held hand place)) xs) i (filter_passes (λ place. not (is_held hand place)) xs) is)
  where
    by : (b : Bool) → not b ≡ true → b ≡ false
    by true e = absurd (cc e)
    by false e = refl
