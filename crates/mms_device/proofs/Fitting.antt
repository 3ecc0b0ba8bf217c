-- That a job is fit has one proof at most.
use Rattle.std.proofs.Common.{ℕ, List, [], ◌∷◌}
use Rattle.std.proofs.Props.{props}
use Rattle.std.specs.Coded.{codes}
use Rattle.mms_types.specs.Actors.{IsAmong}
use Rattle.mms_types.specs.DatumCode.{datum_code}
use Rattle.mms_types.specs.ShapeCode.{shape_code}
use Rattle.mms_types.specs.declared.event.CellEvent.{CellEvent}
use Rattle.mms_types.specs.declared.event.CellEvent.TheVariants.{Heard, Lost, Tick, Ends, Drain}
use Rattle.mms_device.specs.Shared.{Shared, Caller}
use Rattle.mms_device.specs.Turns.{AreOf, CanServe, IsFit}
use Rattle.mms_device.specs.declared.turns.CellJob.{CellJob}

among_prop : (n : ℕ) (event : CellEvent) → IsProp (IsAmong n event)
among_prop n (Heard client octets) = hlevel props
among_prop n (Lost client) = hlevel props
among_prop n (Tick ms) = hlevel props
among_prop n (Ends name) = hlevel props
among_prop n (Drain client) = hlevel props

are_of_prop : (caller : ℕ) (events : List CellEvent) → IsProp (AreOf caller events)
are_of_prop caller [] = hlevel props
are_of_prop caller (event ∷ events) =
    let first = among_prop caller event in
    let others = are_of_prop caller events in
    hlevel (props, first, others)

serve_prop : (device : Shared) (pass : Caller) (events : List CellEvent) → IsProp (CanServe device pass events)
serve_prop device pass events =
    let actor = are_of_prop pass.by events in
    hlevel (props, codes, datum_code, shape_code, actor)

pub fit_prop : (device : Shared) (job : CellJob) → IsProp (IsFit device job)
fit_prop device job =
    let serve = serve_prop device job.pass job.rest in
    hlevel (props, serve)
