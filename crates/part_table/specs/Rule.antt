-- The rule of the table, which holds between any two atomic steps. Word 0 counts the one history, and the owner word of the part i says who owns it: 0 is nobody, and b + 1 the caller b.
-- The history exists in proofs alone.
use Rattle.std.specs.Prelude.{◌≡◌, ℕ, ◌+◌, ◌*◌, ◌^◌, ◌<◌, ◌≤◌, ◌⊎◌, List, [], ◌∷◌, length, slice_index, slice_get, Option, Some, map}
use mathlib.Core.Option.{some}
use lib.ListN.{get_elem?}
use Rattle.std.specs.Box.{box_value}
use Rattle.atomic_table.specs.Table.{State}
use Rattle.part_table.specs.declared.view.Key.{Key}
use Rattle.part_table.specs.declared.view.Setting.{Setting}
use Rattle.part_table.specs.declared.view.Account.{Account}
use Rattle.part_table.specs.declared.view.View.{View}
use Rattle.part_table.specs.History.{StartsWith, BeginsEach, replayed, places_of, IsMade}
use Rattle.part_table.specs.Held.{held_at}
use Rattle.part_table.specs.Lines.{owner_word, slot_of}

-- what callers know of what a table is told
abbrev pub setting_of : {T : Type 0} → Key T → Setting T
setting_of key = record { opening = map box_value key.opening.value.items; callers = key.callers; quota = key.quota }

-- the account is one of these
abbrev pub IsIn : List Account → Account → Type 0
IsIn [] a = ⊥
IsIn (b ∷ accounts) a = (b ≡ a) ⊎ IsIn accounts a

-- the commits left of all of these
abbrev pub lefts : List Account → ℕ
lefts [] = 0
lefts (a ∷ accounts) = a.left + lefts accounts

module _ {T E : Type 0} where
  -- the view keeps the number of that caller
  abbrev pub Keeps : View T E → ℕ → Type 0
  Keeps v b = (a : Account) × IsIn v.callers a × (a.number ≡ b)

  -- the view holds that part
  abbrev pub Holds : View T E → ℕ → Type 0
  Holds v i = (x : T) × (held_at v.held i ≡ Some x)

  -- the commits left of all views
  abbrev pub total_left : List (View T E) → ℕ
  total_left [] = 0
  total_left (v ∷ views) = lefts v.callers + total_left views

  -- it is so of the view of some seat
  abbrev pub Somewhere : (View T E → Type 0) → List (View T E) → Type 0
  Somewhere Q views = (seat : ℕ) × (v : View T E) × (get_elem? views seat ≡ some v) × Q v

module _ {B T E : Type 0} (value : B → T) (step : E → List T → List T) (may_make : ℕ → E → Type 0) (setting : Setting T) where
  -- the opening parts, replayed along a history
  abbrev pub parts_after : List (ℕ × E) → List T
  parts_after history = replayed step setting.opening history

  -- a view that keeps a caller's number knows the table's opening parts and has a place for each; the number is a caller's of the table;
  -- the own places kept for it are exactly those that name it, and with the commits left they are the quota
  pub record IsAccount (history : List (ℕ × E)) (v : View T E) (a : Account) : Type 0 where
    pub table : v.setting ≡ setting
    pub places : length v.held ≡ length setting.opening
    pub number : a.number < setting.callers
    pub own : a.own ≡ places_of a.number history
    pub quota : length a.own + a.left ≡ setting.quota

  -- what a view has seen and was told begins the history; its accounts are true; and what it holds is what the parts replayed have there, under an owner word that
  -- shows a number that it keeps
  pub record Fits (words : List ℕ) (history : List (ℕ × E)) (v : View T E) : Type 0 where
    pub seen : StartsWith history v.seen
    pub told : BeginsEach history v.told
    pub accounts : (a : Account) → IsIn v.callers a → IsAccount history v a
    pub rows : (i : ℕ) (x : T) → held_at v.held i ≡ Some x
        → (slice_get (parts_after history) i ≡ Some x) × ((b : ℕ) × Keeps v b × (slice_index words (owner_word i) ≡ b + 1))

  pub record KeptAt (history : List (ℕ × E)) (s : State (Option B) (View T E)) : Type 0 where
    -- the commit word and an owner word for each opening part, a slot for each, and as many parts after the history
    pub sized : length s.words ≡ owner_word (length setting.opening)
    pub opened : length s.homes ≡ slot_of (length setting.opening)
    pub parts : length (parts_after history) ≡ length setting.opening
    -- the quotas together fit the commit word
    pub limit : setting.callers * setting.quota ≤ 65 * 2 ^ 40
    -- the commit word is the history's length, which with all commits left is at most the quotas together
    pub count : slice_index s.words 0 ≡ length history
    pub room : length history + total_left s.views ≤ setting.callers * setting.quota
    -- each place names a caller of the table who may make its event
    pub made : IsMade setting.callers may_make history
    -- every view fits the history, and one that keeps a number has seen all of it
    pub fits : (seat : ℕ) (v : View T E) → get_elem? s.views seat ≡ some v → Fits s.words history v
    pub whole : Somewhere (λ v. (v.seen ≡ history) × ((a : Account) × IsIn v.callers a)) s.views
    -- a number is kept by one view
    pub one : (p q : ℕ) (v w : View T E) (b : ℕ) → get_elem? s.views p ≡ some v → get_elem? s.views q ≡ some w → Keeps v b → Keeps w b → p ≡ q
    -- a part that nobody owns is at home, and is that of the parts replayed
    pub home : (i : ℕ) → i < length setting.opening → slice_index s.words (owner_word i) ≡ 0
        → (x : B) × (get_elem? s.homes (slot_of i) ≡ some (some (Some x))) × (slice_get (parts_after history) i ≡ Some (value x))
    -- where the owner word shows a caller, the view that keeps its number holds the part
    pub owned : (i b : ℕ) → i < length setting.opening → slice_index s.words (owner_word i) ≡ b + 1 → Somewhere (λ v. Keeps v b × Holds v i) s.views

  -- there is one history
  abbrev pub Kept : State (Option B) (View T E) → Type 0
  Kept s = (history : List (ℕ × E)) × KeptAt history s
