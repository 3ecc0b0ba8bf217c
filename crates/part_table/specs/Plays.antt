-- What each kind of step tells the seat that makes it.
use Rattle.std.specs.Prelude.{◌≡◌, ◌≢◌, ℕ, zero, suc, ◌+◌, ◌-◌, ◌<◌, length, List, [], ◌∷◌, ◌++◌, Option, None, Some, slice_set, nat_lt, if◌then◌else◌}
use Rattle.atomic_table.specs.Table.{Me, Step, rest}
use Rattle.atomic_table.specs.Seated.{TableId}
use Rattle.part_table.specs.declared.view.Setting.{Setting}
use Rattle.part_table.specs.declared.view.Account.{Account}
use Rattle.part_table.specs.declared.view.View.{View}
use Rattle.part_table.specs.History.{StartsWith, BeginsEach, replayed}
use Rattle.part_table.specs.Held.{IsHandOf}
use Rattle.part_table.specs.Known.{IsTrueOf, nothing}
use Rattle.part_table.specs.Lines.{owner_word, slot_of}
use Rattle.part_table.specs.Passes.{number_of, known}
use Rattle.part_table.specs.Rule.{setting_of}
use Rattle.part_table.specs.declared.view.Key.{Key}

-- the accounts of the callers from a number on, at the start
abbrev pub accounts_from : ℕ → ℕ → ℕ → List Account
accounts_from quota from zero = []
accounts_from quota from (suc callers) = record { number = from; own = []; left = quota } ∷ accounts_from quota (from + 1) callers

abbrev pub first_account : List Account → List Account
first_account [] = []
first_account (a ∷ accounts) = a ∷ []

abbrev pub other_accounts : List Account → List Account
other_accounts [] = []
other_accounts (a ∷ accounts) = accounts

-- a place more in the first account, and a commit less
abbrev pub noted : List Account → ℕ → List Account
noted [] place = []
noted (a ∷ accounts) place = record { number = a.number; own = a.own ++ place ∷ []; left = a.left - 1 } ∷ accounts

-- the longer and the shorter of two histories
abbrev pub longer : {X : Type 0} → List X → List X → List X
longer xs ys = if nat_lt (length xs) (length ys) then ys else xs

abbrev pub shorter : {X : Type 0} → List X → List X → List X
shorter xs ys = if nat_lt (length xs) (length ys) then xs else ys

module _ {T E : Type 0} where
  -- a view at the start, which keeps these numbers
  abbrev pub starting : Setting T → List Account → View T E
  starting setting accounts = record { setting = setting; callers = accounts; seen = []; told = []; held = nothing (length setting.opening); lost = [] }

  -- a view that lost a claim of a part to that caller
  abbrev pub with_loss : ℕ → ℕ → View T E → View T E
  with_loss part owner v = record v { lost = v.lost ++ (part, owner) ∷ [] }

  -- the first one, which keeps all numbers
  abbrev pub founder : Key T → View T E
  founder key = starting (setting_of key) (accounts_from key.quota 0 key.callers)

  -- a view without its first number, and a new one with that number
  abbrev pub without_first : View T E → View T E
  without_first v = record v { callers = other_accounts v.callers }

  abbrev pub with_first : View T E → View T E
  with_first v = record { setting = v.setting; callers = first_account v.callers; seen = v.seen; told = v.told; held = nothing (length v.setting.opening); lost = [] }

  -- a view that only knows what this one has seen
  abbrev pub note_of : View T E → View T E
  note_of v = record { setting = v.setting; callers = []; seen = v.seen; told = v.told; held = []; lost = [] }

  -- this view, with the numbers of that one and what that one has seen
  abbrev pub joined : View T E → View T E → View T E
  joined v w = record v { callers = w.callers ++ v.callers; seen = longer v.seen w.seen; told = shorter v.seen w.seen ∷ v.told }

  -- what is left of a view that was joined into another
  abbrev pub spent : View T E
  spent = record { setting = record { opening = []; callers = 0; quota = 0 }; callers = []; seen = []; told = []; held = []; lost = [] }

module _ {B T E : Type 0} where
  -- the claim was lost to another caller of the table
  abbrev pub Loses : ℕ → ℕ → Me (Option B) (View T E) → Me (Option B) (View T E) → Type 0
  Loses i b m w = (b ≢ number_of m.0.callers) × (b < m.0.setting.callers) × (w ≡ (record m.0 { lost = m.0.lost ++ (i, b) ∷ [] }, m.1))

  -- the part of the word went back, and with it its slot
  abbrev pub Gives : Step (Option B) → Me (Option B) (View T E) → ℕ → Me (Option B) (View T E) → Type 0
  Gives st m found w = (i : ℕ) → st.word ≡ owner_word i → w ≡ (record m.0 { held = slice_set m.0.held i None }, rest m.1)

module _ {B T E : Type 0} (value : B → T) where
  -- the part was taken, and with it its slot
  abbrev pub Takes : ℕ → Me (Option B) (View T E) → Me (Option B) (View T E) → Type 0
  Takes i m w = (x : B) × (w ≡ (record m.0 { held = slice_set m.0.held i (Some (value x)) }, (slot_of i, Some x) ∷ m.1))

  -- the word of the part showed nobody, or another owner
  abbrev pub Claims : Step (Option B) → Me (Option B) (View T E) → ℕ → Me (Option B) (View T E) → Type 0
  Claims st m found w = (i : ℕ) → st.word ≡ owner_word i → (found ≡ 0 → Takes i m w) × (found ≢ 0 → Loses i (found - 1) m w)

module _ {T E : Type 0} (step : E → List T → List T) (may_make : ℕ → E → Type 0) where
  -- of a seat at which the history h was seen: it begins with what was seen before, and what is held is as the parts replayed have it
  pub record SeesTo (h : List (ℕ × E)) (v : View T E) : Type 0 where
    pub seen : StartsWith h v.seen
    pub held : IsHandOf v.held (replayed step v.setting.opening h)
    pub true_of : (id : TableId) (hand : List (Option T)) → IsTrueOf may_make (known id (record v { seen = h }) hand)

-- a seat that was told what another had seen, and then saw the history so far
abbrev pub Informed : {S T E : Type 0} → (E → List T → List T) → (ℕ → E → Type 0) → Me S (View T E) → View T E → Me S (View T E) → Type 0
Informed {S} {T} {E} step may_make m v w =
    (seen : List (ℕ × E)) × (told : List (List (ℕ × E))) × (w ≡ (record m.0 { seen = seen; told = told }, m.1)) × SeesTo step may_make seen m.0 × StartsWith seen v.seen

-- a view that has seen h after the commit of e at its end
abbrev pub committed : {T E : Type 0} → (E → List (Option T) → List (Option T)) → E → List (ℕ × E) → View T E → View T E
committed after e h v = record v { callers = noted v.callers (length h + 1); seen = h ++ (number_of v.callers, e) ∷ []; held = after e v.held }

module _ {B T E : Type 0} (step : E → List T → List T) (may_make : ℕ → E → Type 0) where
  -- the history so far was seen, of which the word tells the length
  abbrev pub Sees : Step (Option B) → Me (Option B) (View T E) → ℕ → Me (Option B) (View T E) → Type 0
  Sees st m found w = (h : List (ℕ × E)) × (w ≡ (record m.0 { seen = h }, m.1)) × (found ≡ length h) × SeesTo step may_make h m.0 × BeginsEach h m.0.told

  -- the event was added to the history so far
  abbrev pub Commits : (E → List (Option T) → List (Option T)) → E → Step (Option B) → Me (Option B) (View T E) → ℕ → Me (Option B) (View T E) → Type 0
  Commits after e st m found w = (h : List (ℕ × E)) × (w ≡ (committed after e h m.0, m.1)) × (found ≡ length h) × SeesTo step may_make h m.0
      × ((id : TableId) (hand : List (Option T)) → IsTrueOf may_make (known id (committed after e h m.0) hand))
