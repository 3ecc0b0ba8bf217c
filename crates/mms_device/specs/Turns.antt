-- Jobs of actors on a device that many callers share (this profile's choice).
use Rattle.std.specs.Prelude.{◌≡◌, ◌↔◌, ◌≤◌, ℕ, ◌+◌, List, [], ◌∷◌, ◌++◌, map, length, vec_capacity, refl}
use Rattle.std.proofs.Common.{sym, ap, subst, ◌∙◌, append_assoc, append-nil, length-append, arith}
use Rattle.mms_types.specs.declared.event.CellEvent.{CellEvent}
use Rattle.part_table.specs.History.{StartsWith, events_of}
use Rattle.part_table.specs.Known.{HoldsNothing}
use Rattle.cell_pool.specs.declared.turn.Step.{Step}
use Rattle.cell_pool.specs.declared.turn.Step.TheVariants as step
use Rattle.cell_services.specs.Tables.{last_moment}
use Rattle.mms_device.specs.Making.{MayMake}
use Rattle.mms_device.specs.Shared.{Shared, Caller, History, IsAsBefore, IsBusy, IsServed, ticks_in}
use Rattle.mms_device.specs.declared.turns.CellJob.{CellJob}

-- each of the events is one that the caller may make
abbrev pub AreOf : ℕ → List CellEvent → Type 0
AreOf caller [] = Unit {0}
AreOf caller (event ∷ events) = MayMake caller event × AreOf caller events

-- The pass is the device's and holds nothing, it has a commit left for each of the events, these are its actor's, and
-- time doesn't end before them.
pub record CanServe (device : Shared) (pass : Caller) (events : List CellEvent) : Type 0 where
  pub of_table : pass.table ≡ device.table
  pub idle : HoldsNothing pass
  pub left : length events ≤ pass.left
  pub actor : AreOf pass.by events
  pub time : device.config.start.0 + (ticks_in (events_of pass.by pass.seen) + ticks_in events) ≤ last_moment

-- the pass can serve the events that are left, and there is room for the place of each
pub record IsFit (device : Shared) (job : CellJob) : Type 0 where
  pub serve : CanServe device job.pass job.rest
  pub room : length job.log.items + length job.rest ≤ vec_capacity job.log

abbrev pub places : List (ℕ × CellEvent) → List ℕ
places placed = map (λ p. p.0) placed

abbrev pub events : List (ℕ × CellEvent) → List CellEvent
events placed = map (λ p. p.1) placed

-- What turns make of a job: some first events of those that were left are served. Their places are the new own places
-- of the pass, and these events are those that it has made since, in the history that it then knows, which begins with
-- the one that it knew. So many commits fewer are left. It is the same caller's.
pub record MadeOf (a b : CellJob) : Type 0 where
  pub placed : List (ℕ × CellEvent)
  pub log : b.log.items ≡ a.log.items ++ placed
  pub rest : a.rest ≡ events placed ++ b.rest
  pub own : b.pass.own ≡ a.pass.own ++ places placed
  pub known : events_of a.pass.by b.pass.seen ≡ events_of a.pass.by a.pass.seen ++ events placed
  pub seen : StartsWith b.pass.seen a.pass.seen
  pub left : b.pass.left + length placed ≡ a.pass.left
  pub pass : b.pass ≡ record a.pass { seen = b.pass.seen; own = b.pass.own; left = b.pass.left; lost = b.pass.lost }

-- the same events are served and left, and the pass has the same own places and commits left
pub record SameWork (a b : CellJob) : Type 0 where
  pub rest : b.rest ≡ a.rest
  pub log : b.log ≡ a.log
  pub own : b.pass.own ≡ a.pass.own
  pub left : b.pass.left ≡ a.pass.left

-- The first event that was left was served, once. With its place it is the last of the served ones, and those behind it
-- are left.
pub record HasMoved (a b : CellJob) : Type 0 where
  pub event : CellEvent
  pub more : List CellEvent
  pub place : ℕ
  pub before : History
  pub next : a.rest ≡ event ∷ more
  pub rest : b.rest ≡ more
  pub log : b.log.items ≡ a.log.items ++ (place, event) ∷ []
  pub pass : IsServed event a.pass b.pass place before

-- A claim was lost: on a part that the first event that was left wants, and to another caller. The same events are
-- served and left.
pub record IsHeldUp (device : Shared) (a b : CellJob) : Type 0 where
  pub event : CellEvent
  pub more : List CellEvent
  pub part : ℕ
  pub by : ℕ
  pub next : a.rest ≡ event ∷ more
  pub rest : b.rest ≡ a.rest
  pub log : b.log ≡ a.log
  pub pass : IsBusy device.config event a.pass b.pass part by

-- What the answer of a turn tells of a job: it is done exactly where no event was left, has moved exactly where the first
-- one was served, and is busy exactly where a claim was lost on a part that it wants. A job that was done is as before,
-- and so is, but for what it knows of others, the pass of one for which there was not enough memory.
pub record IsTurn (device : Shared) (a b : CellJob) (answer : Step) : Type 0 where
  pub ended : (answer ≡ step.Done) ↔ (a.rest ≡ [])
  pub kept : answer ≡ step.Done → b ≡ a
  pub moved : (answer ≡ step.Moved) ↔ HasMoved a b
  pub held_up : (answer ≡ step.Busy) ↔ IsHeldUp device a b
  pub as_before : answer ≡ step.Memory → IsAsBefore a.pass b.pass

pub made_of_itself : (a : CellJob) → MadeOf a a
made_of_itself a = record {
  placed = [];
  log = sym (append-nil _);
  rest = refl;
  own = sym (append-nil _);
  known = sym (append-nil _);
  seen = ([], sym (append-nil _));
  left = omega arith;
  pass = refl;
}

pub map-append : {A B : Type 0} (f : A → B) (xs ys : List A) → map f (xs ++ ys) ≡ map f xs ++ map f ys
map-append f [] ys = refl
map-append f (x ∷ xs) ys = ap (λ l. f x ∷ l) (map-append f xs ys)

pub made_of_made : (a b c : CellJob) → MadeOf a b → MadeOf b c → MadeOf a c
made_of_made a b c m n =
    let by : b.pass.by ≡ a.pass.by = ap (λ (p : Caller). p.by) m.pass in
    let es = map-append (λ (p : ℕ × CellEvent). p.1) m.placed n.placed in
    let ps = map-append (λ (p : ℕ × CellEvent). p.0) m.placed n.placed in
    let known : events_of a.pass.by c.pass.seen ≡ events_of a.pass.by b.pass.seen ++ events n.placed = subst (λ (k : ℕ). events_of k c.pass.seen ≡ events_of k b.pass.seen ++ events n.placed) by n.known in
    record {
      placed = m.placed ++ n.placed;
      log = n.log ∙ ap (λ (l : List (ℕ × CellEvent)). l ++ n.placed) m.log ∙ append_assoc a.log.items m.placed n.placed;
      rest = m.rest ∙ ap (λ (l : List CellEvent). events m.placed ++ l) n.rest ∙ sym (append_assoc (events m.placed) (events n.placed) c.rest) ∙ ap (λ (l : List CellEvent). l ++ c.rest) (sym es);
      own = n.own ∙ ap (λ (l : List ℕ). l ++ places n.placed) m.own ∙ append_assoc a.pass.own (places m.placed) (places n.placed) ∙ ap (λ (l : List ℕ). a.pass.own ++ l) (sym ps);
      known = known ∙ ap (λ (l : List CellEvent). l ++ events n.placed) m.known ∙ append_assoc (events_of a.pass.by a.pass.seen) (events m.placed) (events n.placed)
          ∙ ap (λ (l : List CellEvent). events_of a.pass.by a.pass.seen ++ l) (sym es);
      seen = (m.seen.0 ++ n.seen.0, n.seen.1 ∙ ap (λ (l : List (ℕ × CellEvent)). l ++ n.seen.0) m.seen.1 ∙ append_assoc a.pass.seen m.seen.0 n.seen.0);
      left = (let one = m.left in let two = n.left in omega (arith, length-append m.placed n.placed));
      pass = n.pass ∙ ap (λ (p : Caller). record p { seen = c.pass.seen; own = c.pass.own; left = c.pass.left; lost = c.pass.lost }) m.pass;
    }
