-- The jobs of a phase: the words of clauses inside the crate.
use Rattle.std.specs.Prelude.{◌≡◌, ◌≤◌, ◌<◌, ℕ, ◌+◌, List, [], ◌∷◌, Some, length, slice_get, vec_capacity}
use Rattle.mms_types.specs.Actors.{actor_of}
use Rattle.mms_types.specs.declared.event.CellEvent.{CellEvent}
use Rattle.mms_device.specs.Shared.{Caller}
use Rattle.mms_device.specs.declared.turns.CellJob.{CellJob}
use Rattle.cell_record.specs.History.{events_of}

-- The job of this actor's pass, to which the actor's events among these are left. None was served,
-- and there is room for the place of each.
pub record IsJobOf (actor : ℕ) (events : List CellEvent) (caller : Caller) (job : CellJob)
    : Type 0 where
  pub pass : job.pass ≡ caller
  pub rest : job.rest ≡ events_of actor events
  pub log : job.log.items ≡ []
  pub room : length job.log.items + length job.rest ≤ vec_capacity job.log

-- the jobs of passes that stand in the order of their actors
pub record AreJobsOf (events : List CellEvent) (passes : List Caller) (jobs : List CellJob)
    : Type 0 where
  pub count : length jobs ≡ length passes
  pub each : (actor : ℕ) (pass : Caller) (job : CellJob) → slice_get passes actor ≡ Some pass
      → slice_get jobs actor ≡ Some job → IsJobOf actor events pass job

-- each event is of an actor below that number
abbrev pub AreBelow : ℕ → List CellEvent → Type 0
AreBelow actors [] = Unit {0}
AreBelow actors (event ∷ events) = (actor_of event < actors) × AreBelow actors events
