-- What is inside a pass: its seat at the table, and the slots that are out with it.
use Rattle.std.specs.Prelude.{◌≡◌, ℕ, ◌+◌, ◌≤◌, List, [], ◌∷◌, Option, None, length, is_some, ◌==◌, if◌then◌else◌}
use Rattle.atomic_table.specs.Seated.{TableId}
use Rattle.atomic_table.specs.Table.{Me}
use Rattle.part_table.specs.declared.view.Account.{Account}
use Rattle.part_table.specs.declared.view.Setting.{Setting}
use Rattle.part_table.specs.declared.view.View.{View}
use Rattle.part_table.specs.Held.{held_at}
use Rattle.part_table.specs.Known.{Known, Opened, IsTrueOf}
use Rattle.part_table.specs.Lines.{slot_of}

-- the number, the own places and the commits left of the first account
abbrev pub number_of : List Account → ℕ
number_of [] = 0
number_of (a ∷ accounts) = a.number

abbrev pub own_of : List Account → List ℕ
own_of [] = []
own_of (a ∷ accounts) = a.own

abbrev pub left_of : List Account → ℕ
left_of [] = 0
left_of (a ∷ accounts) = a.left

-- the account of one caller alone
abbrev pub IsAlone : List Account → Type 0
IsAlone accounts = accounts ≡ record { number = number_of accounts; own = own_of accounts; left = left_of accounts } ∷ []

-- and of the one that has that number
abbrev pub IsAloneAs : ℕ → List Account → Type 0
IsAloneAs by accounts = accounts ≡ record { number = by; own = own_of accounts; left = left_of accounts } ∷ []

-- the slots of these parts, each empty
abbrev pub empties : {S : Type 0} → List ℕ → List (ℕ × Option S)
empties [] = []
empties (i ∷ parts) = (slot_of i, None) ∷ empties parts

-- how often a number stands in a list
abbrev pub times : ℕ → List ℕ → ℕ
times i [] = 0
times i (j ∷ numbers) = (if i == j then 1 else 0) + times i numbers

module _ {T : Type 0} where
  -- the table of that number that was set up so, as contracts see it
  abbrev pub table_of : TableId → Setting T → Opened T
  table_of id setting = record { id = id; opening = setting.opening; callers = setting.callers; quota = setting.quota }

  -- 1 where the part is held
  abbrev pub one_if_held : Option T → ℕ
  one_if_held held = if is_some held then 1 else 0

  -- how many parts are held
  abbrev pub held_count : List (Option T) → ℕ
  held_count [] = 0
  held_count (held ∷ hand) = one_if_held held + held_count hand

module _ {T E : Type 0} where
  -- the pass of a seat that holds nothing, as contracts see it
  abbrev pub known : TableId → View T E → List (Option T) → Known T E
  known id v hand = record {
    table = record { id = id; opening = v.setting.opening; callers = v.setting.callers; quota = v.setting.quota };
    by = number_of v.callers;
    seen = v.seen;
    own = own_of v.callers;
    left = left_of v.callers;
    lost = v.lost;
    taken = v.held;
    hand = hand;
    order = [];
  }

  -- the same with the parts that it holds, in their order
  abbrev pub known_with : TableId → View T E → List (Option T) → List ℕ → Known T E
  known_with id v hand order = record (known id v hand) { order = order }

  -- a pass keeps one number; the slots that are out with it are those of the parts that it holds, in the order kept beside it, which has room for all; and what it
  -- knows is true
  pub record IsPass {S : Type 0} (may_make : ℕ → E → Type 0) (id : TableId) (me : Me (Option S) (View T E)) (order : List ℕ) (capacity by left : ℕ) : Type 0 where
    pub account : me.0.callers ≡ record { number = by; own = own_of me.0.callers; left = left } ∷ []
    pub slots : me.1 ≡ empties order
    pub turns : (i : ℕ) → times i order ≡ one_if_held (held_at me.0.held i)
    pub count : length order ≡ held_count me.0.held
    pub room : length me.0.held ≤ capacity
    pub places : length me.0.held ≡ length me.0.setting.opening
    pub few : (length me.0.held ≤ 256) × (me.0.setting.callers ≤ 65)
    pub true_of : (hand : List (Option T)) → IsTrueOf may_make (known id me.0 hand)
