-- A table of parts and the passes of its callers, as contracts see them (this profile's choice).
use Rattle.std.specs.Prelude.{◌≡◌, ℕ, ◌+◌, ◌-◌, ◌*◌, ◌^◌, ◌<◌, ◌≤◌, List, [], ◌∷◌, ◌++◌, Option, None, Some, filter, length, not, replicate, slice_set, ◌==◌}
use Rattle.atomic_table.specs.Seated.{TableId}
use Rattle.part_table.specs.History.{places_of, IsMade}
use Rattle.part_table.specs.Held.{places_held}

-- a table: which one it is, its opening parts, how many callers it has, and how many commits each of them has in all
pub record Opened (T : Type 0) : Type 0 where
  pub id : TableId
  pub opening : List T
  pub callers : ℕ
  pub quota : ℕ

-- a pass: its table, its caller's number, the history seen, the places of its own events, the commits left, the claims lost as parts and owners,
-- the parts held, as taken or committed and as the hand has them now, and their numbers, the one that was taken last first
pub record Known (T E : Type 0) : Type 0 where
  pub table : Opened T
  pub by : ℕ
  pub seen : List (ℕ × E)
  pub own : List ℕ
  pub left : ℕ
  pub lost : List (ℕ × ℕ)
  pub taken : List (Option T)
  pub hand : List (Option T)
  pub order : List ℕ

-- the numbers of parts but that one
abbrev pub without : ℕ → List ℕ → List ℕ
without part parts = filter (λ other. not (other == part)) parts

-- nothing is held, of that many parts
abbrev pub nothing : {T : Type 0} → ℕ → List (Option T)
nothing parts = replicate parts None

module _ {T E : Type 0} where
  -- a pass that took a part, of that value
  abbrev pub with_part : ℕ → T → Known T E → Known T E
  with_part part value pass = record pass {
    taken = slice_set pass.taken part (Some value);
    hand = slice_set pass.hand part (Some value);
    order = part ∷ pass.order;
  }

  -- a pass that gave a part back
  abbrev pub without_part : ℕ → Known T E → Known T E
  without_part part pass = record pass {
    taken = slice_set pass.taken part None;
    hand = slice_set pass.hand part None;
    order = without part pass.order;
  }

  -- a pass that lost a claim of a part to that caller
  abbrev pub with_claim_lost : ℕ → ℕ → Known T E → Known T E
  with_claim_lost part owner pass = record pass { lost = pass.lost ++ (part, owner) ∷ [] }

  -- a pass that committed an event at that place, behind that history: what its hand has is what it took
  abbrev pub with_commit : List (ℕ × E) → E → ℕ → Known T E → Known T E
  with_commit before event place pass = record pass {
    seen = before ++ (pass.by, event) ∷ [];
    own = pass.own ++ place ∷ [];
    left = pass.left - 1;
    taken = pass.hand;
  }

  -- the pass of a caller at the start
  abbrev pub newcomer : Opened T → ℕ → Known T E
  newcomer table by = record {
    table = table;
    by = by;
    seen = [];
    own = [];
    left = table.quota;
    lost = [];
    taken = nothing (length table.opening);
    hand = nothing (length table.opening);
    order = [];
  }

  -- the pass holds no part
  abbrev pub HoldsNothing : Known T E → Type 0
  HoldsNothing pass = (pass.taken ≡ nothing (length pass.table.opening)) × (pass.hand ≡ nothing (length pass.table.opening)) × (pass.order ≡ [])

  -- the hand holds exactly the parts that were taken, and has a place for each part
  abbrev pub IsInHand : Known T E → Type 0
  IsInHand pass = places_held pass.hand ≡ places_held pass.taken

  -- of a history that a pass knows: the places that name its caller are exactly its own, and with the commits left they are its quota;
  -- each place names a caller of the table who may make its event; and it is no longer than the largest quotas of the most callers together
  pub record IsTrueOf (may_make : ℕ → E → Type 0) (pass : Known T E) : Type 0 where
    pub number : pass.by < pass.table.callers
    pub own : pass.own ≡ places_of pass.by pass.seen
    pub quota : length pass.own + pass.left ≡ pass.table.quota
    pub made : IsMade pass.table.callers may_make pass.seen
    pub size : length pass.seen ≤ 65 * 2 ^ 40
