-- Jobs with their places, and the workers that keep them: the words of clauses inside the crate.
use Rattle.std.specs.Prelude.{◌≡◌, ◌<◌, ◌≤◌, ◌+◌, ℕ, Bool, false, IsFalse, List, [], length}
use Rattle.std.specs.Prelude.{Option, Vec, vec_capacity}
use Rattle.std.specs.List.{All}
use Rattle.crossbeam_queue.specs.declared.array_queue.Doing.{Doing}
use Rattle.crossbeam_queue.specs.declared.array_queue.Slotted.{Slotted}
use Rattle.crossbeam_queue.specs.Passes.{Pass, view, IsPassOf, ruled_capacity}
use Rattle.cell_pool.specs.declared.rule.Hand.{Hand}
use Rattle.cell_pool.specs.declared.turn.Turn.{Ghosts as TurnOf}
use Rattle.cell_pool.specs.declared.given.Given.{Ghosts as GivenOf}
use Rattle.cell_pool.specs.declared.item.Item.{Item}
use Rattle.cell_pool.specs.declared.work.Worker.{Worker}
use Rattle.cell_pool.specs.declared.phase.Means.{Means}
use Rattle.cell_pool.specs.Rule.{hand, is, weigh, weigh_all}
use Rattle.cell_pool.specs.Rule as rule

-- what a queue of these is seen as
abbrev pub QueueOf : Type 0 → Type 0 → Type 0 → Type 0
QueueOf I Q A = Slotted (Option I) (Doing I Hand) Q A

module _ {T C J : Type 0} {turn : TurnOf T J} {given : GivenOf C J} where
  -- ---- items in lists and slots

  -- one of them has the place p
  abbrev pub HasPlace : List (Item T C J turn given) → ℕ → Type 0
  HasPlace items p = 0 < weigh (λ i. is p i.place) items

  -- the item of the place p lies there
  abbrev pub LiesAt : List (Option (Item T C J turn given)) → ℕ → Type 0
  LiesAt slots p = rule.IsLaid (λ i. i.place) slots p

  -- what is laid is what the list had, where each place stands in it once
  abbrev pub Lays : List (Option (Item T C J turn given)) → List (Item T C J turn given)
      → List (Option (Item T C J turn given)) → Type 0
  Lays old items new = rule.LaysSame (λ i. i.place) old items new

  -- all that lie there have ended, or one is short
  abbrev pub AreAtEnd : List (Option (Item T C J turn given)) → Type 0
  AreAtEnd slots = rule.Told (λ i. i.ended) (λ i. i.short) slots

  -- ---- lists of items

  module _ {A : Type 0} where
    -- one item of the lists has the place p
    abbrev pub OneHasPlace : List (Vec (Item T C J turn given) A) → ℕ → Type 0
    OneHasPlace lists p = 0 < weigh_all (λ list. list.items) (λ i. is p i.place) lists

    -- what is laid is what the lists had
    abbrev pub LaysAll : List (Option (Item T C J turn given))
        → List (Vec (Item T C J turn given) A) → List (Option (Item T C J turn given)) → Type 0
    LaysAll old lists new = rule.LaysSameIn (λ i. i.place) (λ list. list.items) old lists new

    -- the first n places are those that the queue and the other workers hold, and the lists
    abbrev pub Owes : ℕ → Hand → List (Vec (Item T C J turn given) A) → Type 0
    Owes n v lists = rule.Owes (λ i. i.place) (λ list. list.items) n v lists

    -- the lists hold the first n places, each once
    abbrev pub HoldsEach : ℕ → List (Vec (Item T C J turn given) A) → Type 0
    HoldsEach n lists = rule.HoldsEach (λ i. i.place) (λ list. list.items) n lists

    -- the flag tells of what the lists hold: one is short, or all have ended
    abbrev pub Flagged : Bool → List (Vec (Item T C J turn given) A) → Type 0
    Flagged flag lists = rule.Flagged (λ list. list.items) (λ i. i.ended) (λ i. i.short) flag lists

    -- all that the lists hold have ended, or one is short
    abbrev pub Settled : List (Vec (Item T C J turn given) A) → Type 0
    Settled lists = rule.Settled (λ list. list.items) (λ i. i.ended) (λ i. i.short) lists

    -- one list more, whose items rest one after the other: each has ended, until one is short, or
    -- one was before, and after it none was begun
    abbrev pub AddsInTurn : Bool → List (Vec (Item T C J turn given) A)
        → List (Vec (Item T C J turn given) A) → Type 0
    AddsInTurn stopped before after =
        rule.EndsWith (λ list. rule.InTurn (λ i. i.ended) (λ i. i.short) stopped list.items)
        before after

  -- ---- workers

  module _ {Q A : Type 0} where
    -- A worker that takes nothing: it has one part of the right to know the whole, and keeps what
    -- it has taken and not put back. That rests one after the other, and the flag tells whether one
    -- is short, after which none was begun.
    abbrev pub Keeps : QueueOf (Item T C J turn given) Q A → Bool
        → Worker T C J turn given → Type 0
    Keeps queue is_short worker =
        IsPassOf queue worker.pass × ((view worker.pass).parts ≡ 1)
        × rule.Keeps (λ i. i.place) (view worker.pass) worker.kept.items
        × rule.Rests (λ i. i.ended) (λ i. i.short) false is_short worker.kept.items

    -- it may begin: no turn has found memory wanting
    abbrev pub IsReady : QueueOf (Item T C J turn given) Q A → Worker T C J turn given → Type 0
    IsReady queue worker = Keeps queue false worker × IsFalse worker.is_short

    -- it has worked: its own flag tells whether a turn found memory wanting
    abbrev pub HasWorked : QueueOf (Item T C J turn given) Q A → Worker T C J turn given → Type 0
    HasWorked queue worker = Keeps queue worker.is_short worker

    -- Who called has all parts again: what the queue holds are those of the first n places that the
    -- lists don't hold, the flag tells of what they hold, and there is room for one list more.
    pub record HasAll (q : QueueOf (Item T C J turn given) Q A)
        (pass : Pass (Item T C J turn given) Hand) (n : ℕ) (flag : Bool)
        (lists : Vec (Vec (Item T C J turn given) A) A) : Type 0 where
      pub queue : IsPassOf q pass
      pub parts : (view pass).parts ≡ 64
      pub owes : Owes n (view pass) lists.items
      pub flagged : Flagged flag lists.items
      pub room : length lists.items + 1 ≤ vec_capacity lists

  -- what a phase of so many jobs needs: for each worker room and a place in the crew, room for what
  -- each keeps and for what is left, for all jobs in their order, and a queue that is empty
  pub record Suffice (size : ℕ) (means : Means T C J turn given) : Type 0 where
    pub rooms : All (λ room. room.items ≡ []) means.rooms.items
    pub crew : (means.crew.items ≡ []) × (length means.rooms.items ≤ vec_capacity means.crew)
    pub lists : (means.lists.items ≡ []) × (length means.rooms.items + 1 ≤ vec_capacity means.lists)
    pub left : (means.left.items ≡ []) × (size ≤ vec_capacity means.left)
    pub slots : (means.slots.items ≡ []) × (size ≤ vec_capacity means.slots)
    pub order : (means.order.items ≡ []) × (size ≤ vec_capacity means.order)
    pub queue : ruled_capacity means.queue ≡ size
    pub pass : IsPassOf means.queue means.pass × (view means.pass ≡ hand 64 [] [])
