-- What the example's callers make of a pass.
use Rattle.std.proofs.Common.{◌≡◌, ◌++◌, ℕ, List, [], ◌∷◌, Option, Some, None, set, sym, ◌∙◌, ap}
use Rattle.part_table.specs.Held.{held_at}
use Rattle.part_table.specs.History.{StartsWith}
use Rattle.part_table.specs.Known.{Known, nothing, without}
use Rattle.part_table.specs.Passes.{times}
use Rattle.part_table.proofs.Hands.{put_and_taken}
use Rattle.part_table.proofs.Order.{without_again}

module _ {T E : Type 0} where
  -- all that was held is given back
  pub all_given : (old new : Known T E) (parts : ℕ) → new ≡ record old { taken = new.taken; hand = new.hand; order = new.order } → new.hand ≡ new.taken → new.taken ≡ nothing parts
      → new.order ≡ [] → new ≡ record old { taken = nothing parts; hand = nothing parts; order = [] }
  all_given old new parts kept same idle none =
      kept ∙ ap {A = List (Option T)} {B = Known T E} (λ t. record old { taken = t; hand = new.hand; order = new.order }) idle
      ∙ ap {A = List (Option T)} {B = Known T E} (λ h. record old { taken = nothing parts; hand = h; order = new.order }) (same ∙ idle)
      ∙ ap {A = List ℕ} {B = Known T E} (λ o. record old { taken = nothing parts; hand = nothing parts; order = o }) none

  module _ (old taken saw given : Known T E) (part : ℕ) (x : T)
      (took : taken ≡ record old { taken = set old.taken part (Some x); hand = set old.hand part (Some x); order = part ∷ old.order }) (kept : saw ≡ record taken { seen = saw.seen }) where
    -- a part was taken, and then the history was seen
    pub seen_with : saw ≡ record old { seen = saw.seen; taken = set old.taken part (Some x); hand = set old.hand part (Some x); order = part ∷ old.order }
    seen_with = kept ∙ ap {A = Known T E} {B = Known T E} (λ p. record p { seen = saw.seen }) took

    -- and the part was given back
    pub seen_without : given ≡ record saw { taken = set saw.taken part None; hand = set saw.hand part None; order = without part saw.order } → old.hand ≡ old.taken → held_at old.taken part ≡ None
        → times part old.order ≡ 0 → StartsWith saw.seen taken.seen
        → (given ≡ record old { seen = given.seen }) × StartsWith given.seen old.seen
    seen_without gave same free other starts =
        let all : given ≡ record old { seen = saw.seen; taken = set (set old.taken part (Some x)) part None; hand = set (set old.hand part (Some x)) part None; order = without part (part ∷ old.order) } =
        gave ∙ ap {A = Known T E} {B = Known T E} (λ p. record p { taken = set p.taken part None; hand = set p.hand part None; order = without part p.order }) seen_with in
        let back = put_and_taken old.taken part x free in
        let back_hand = put_and_taken old.hand part x (ap (λ l. held_at l part) same ∙ free) in
        let seen : given.seen ≡ saw.seen = ap (λ (p : Known T E). p.seen) all in (
          all
              ∙ ap {A = List (Option T)} {B = Known T E} (λ t. record old { seen = saw.seen; taken = t; hand = set (set old.hand part (Some x)) part None; order = without part (part ∷ old.order) }) back
              ∙ ap {A = List (Option T)} {B = Known T E} (λ h. record old { seen = saw.seen; hand = h; order = without part (part ∷ old.order) }) back_hand
              ∙ ap {A = List ℕ} {B = Known T E} (λ o. record old { seen = saw.seen; order = o }) (without_again part old.order other)
              ∙ ap {A = List (ℕ × E)} {B = Known T E} (λ s. record old { seen = s }) (sym seen),
          (starts.0, seen ∙ starts.1 ∙ ap (λ (p : Known T E). p.seen ++ starts.0) took),
        )

  -- a part was not to be had, the history was seen, and all that was held was given back
  pub given_after_loss : (old took saw given : Known T E) (parts : ℕ) (lost : List (ℕ × ℕ))
      → took ≡ record old { lost = took.lost; taken = took.taken; hand = took.hand; order = took.order } → saw ≡ record took { seen = saw.seen }
      → given ≡ record saw { taken = nothing parts; hand = nothing parts; order = [] } → old.taken ≡ nothing parts → old.hand ≡ nothing parts → old.order ≡ [] → took.lost ≡ lost
      → given ≡ record old { seen = given.seen; lost = lost }
  given_after_loss old took saw given parts lost took_is saw_is given_is free free_hand none lost_is =
      let saw_all : saw ≡ record old { seen = saw.seen; lost = took.lost; taken = took.taken; hand = took.hand; order = took.order } =
      saw_is ∙ ap {A = Known T E} {B = Known T E} (λ p. record p { seen = saw.seen }) took_is in
      let all : given ≡ record old { seen = saw.seen; lost = took.lost; taken = nothing parts; hand = nothing parts; order = [] } =
      given_is ∙ ap {A = Known T E} {B = Known T E} (λ p. record p { taken = nothing parts; hand = nothing parts; order = [] }) saw_all in
      let seen : given.seen ≡ saw.seen = ap (λ (p : Known T E). p.seen) all in
      all
      ∙ ap {A = List (ℕ × E)} {B = Known T E} (λ h. record old { seen = h; lost = took.lost; taken = nothing parts; hand = nothing parts; order = [] }) (sym seen)
      ∙ ap {A = List (ℕ × ℕ)} {B = Known T E} (λ l. record old { seen = given.seen; lost = l; taken = nothing parts; hand = nothing parts; order = [] }) lost_is
      ∙ ap {A = List (Option T)} {B = Known T E} (λ t. record old { seen = given.seen; lost = lost; taken = t; hand = nothing parts; order = [] }) (sym free)
      ∙ ap {A = List (Option T)} {B = Known T E} (λ t. record old { seen = given.seen; lost = lost; hand = t; order = [] }) (sym free_hand)
      ∙ ap {A = List ℕ} {B = Known T E} (λ o. record old { seen = given.seen; lost = lost; order = o }) (sym none)
