-- What passes know once they have gathered (this profile's choice).
use Rattle.std.specs.Prelude.{◌≡◌, ℕ, ◌+◌, List, [], ◌∷◌, length, slice_get, Some}
use Rattle.part_table.specs.History.{StartsWith, places_of, IsMade}
use Rattle.part_table.specs.Known.{Known, Opened, IsTrueOf}

module _ {T E : Type 0} where
  -- the passes are all passes of the table, in the order of their numbers
  pub record AreAll (table : Opened T) (passes : List (Known T E)) : Type 0 where
    pub count : length passes ≡ table.callers
    pub each : (i : ℕ) (p : Known T E) → slice_get passes i ≡ Some p → (p.table ≡ table) × (p.by ≡ i)

  -- how many own places passes have together
  abbrev pub own_places : List (Known T E) → ℕ
  own_places [] = 0
  own_places (p ∷ passes) = length p.own + own_places passes

  -- a pass has met another: it is as before, but knows a history that begins with what both had seen, and what it knows is true
  pub record HasMet (may_make : ℕ → E → Type 0) (other : List (ℕ × E)) (p q : Known T E) : Type 0 where
    pub kept : q ≡ record p { seen = q.seen }
    pub mine : StartsWith q.seen p.seen
    pub theirs : StartsWith q.seen other
    pub true_before : IsTrueOf may_make p
    pub true_of : IsTrueOf may_make q

  -- a pass has met each of others in turn
  pub record HasMetEach (may_make : ℕ → E → Type 0) (first last : Known T E) (before after : List (Known T E)) : Type 0 where
    pub kept : last ≡ record first { seen = last.seen }
    pub seen : StartsWith last.seen first.seen
    pub same : length after ≡ length before
    pub met : (i : ℕ) (p : Known T E) → slice_get before i ≡ Some p → (q : Known T E) × (slice_get after i ≡ Some q) × HasMet may_make first.seen p q × StartsWith last.seen p.seen

  -- the first k places are the same for all passes, and begin with what each had seen. Each of them names a caller, and those that name a caller are exactly the own places of
  -- its pass; so each is an own place of exactly one pass, and they hold every own place. Nothing else of a pass has changed.
  pub record HaveGathered (may_make : ℕ → E → Type 0) (before after : List (Known T E)) (k : ℕ) (common : List (ℕ × E)) : Type 0 where
    pub size : k ≡ length common
    pub count : k ≡ own_places before
    pub made : IsMade (length before) may_make common
    pub same : length after ≡ length before
    pub kept : (i : ℕ) (p : Known T E) → slice_get before i ≡ Some p → (q : Known T E) × (slice_get after i ≡ Some q) × (q ≡ record p { seen = q.seen })
        × StartsWith q.seen common × StartsWith common p.seen × (p.own ≡ places_of i common)
