-- What an event wants, by the parts that are held.
use Rattle.std.specs.Prelude.{◌≡◌, ◌⊎◌, ℕ, true, Option, None, List, length, Contains}
use Rattle.std.proofs.Common.{sym, ◌∙◌, inl, inr, subst}
use Rattle.mms_types.specs.declared.event.CellEvent.{CellEvent}
use Rattle.part_table.specs.Held.{held_at, IsHandOf}
use Rattle.step_parts.specs.declared.part.Part.{Part}
use Rattle.step_parts.specs.State.{State}
use Rattle.step_parts.specs.Partition.{parts_of, clients_among}
use Rattle.step_parts.specs.Needs.{footprint, shown, is_held}
use Rattle.mms_device.specs.Taken.{HasGrown, Wants, HoldsWanted}
use Rattle.mms_device.proofs.Growing.{not_free, sub_hand}
use Rattle.mms_device.proofs.Steps.{clients_counted, words_wanted, shown_wanted}

-- the parts that the words tell were taken
module _ (event : CellEvent) (clients : ℕ) (before after : List (Option Part)) (free : (i : ℕ) → held_at before i ≡ None) (many : clients_among (length after) ≡ clients) where
  pub told_wants : (part : ℕ) → Contains (footprint clients event) part → Wants event after part
  told_wants part is s of = words_wanted s event part (subst (λ (n : ℕ). Contains (footprint n event) part) (sym many ∙ clients_counted s after of) is)

  pub told_held : (asked : List ℕ) → HasGrown asked before after → ((i : ℕ) → Contains asked i → Contains (footprint clients event) i) → HoldsWanted event after
  unfolding told_wants
  told_held asked grown all part held = from (grown.only part held)
    where
      from : (is_held before part ≡ true) ⊎ Contains asked part → Wants event after part
      from (inl was) = absurd (not_free before part was (free part))
      from (inr is) = told_wants part (all part is)

-- parts that the held ones show were taken
module _ (event : CellEvent) (asked : List ℕ) (before after : List (Option Part)) (grown : HasGrown asked before after) where
  pub still_wants : (part : ℕ) → Wants event before part → Wants event after part
  still_wants part wants s of = wants s (sub_hand asked before after (parts_of s) grown of)

  pub shown_wants : (part : ℕ) → Contains (shown event before) part → Wants event after part
  shown_wants part is s of = shown_wanted s before event part (sub_hand asked before after (parts_of s) grown of) is

  pub shown_held : HoldsWanted event before → ((i : ℕ) → Contains asked i → Contains (shown event before) i) → HoldsWanted event after
  unfolding still_wants shown_wants
  shown_held wanted all part held = from (grown.only part held)
    where
      from : (is_held before part ≡ true) ⊎ Contains asked part → Wants event after part
      from (inl was) = still_wants part (wanted part was)
      from (inr is) = shown_wants part (all part is)
