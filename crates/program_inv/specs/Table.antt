-- What becomes of a program invocation (ISO 9506-1, program invocation state machine): one table. Transient states aren't seen.
use Rattle.std.specs.Prelude.{Bool, if◌then◌else◌, Option, None, Some}
use Rattle.std.specs.Option.{option_map}
use Rattle.mms_types.specs.declared.invocation.InvocationState.{InvocationState}
use Rattle.mms_types.specs.declared.invocation.InvocationState.TheVariants.{Unrunnable, Idle, Running, Stopped}
use Rattle.program_inv.specs.declared.command.Command.{Command}
use Rattle.program_inv.specs.declared.command.Command.TheVariants as bid

-- the state of an invocation that is reusable, and of one that isn't
abbrev pub Both : Type 0
Both = InvocationState × InvocationState

-- a state by its column: what a client commands, and that the invocation ends by itself, which is never refused
pub record Row : Type 0 where
  pub start : Option Both
  pub stop : Option Both
  pub resume : Option Both
  pub reset : Option Both
  pub kill : Option Both
  pub ends : Both

abbrev both : InvocationState → Both
both state = (state, state)

abbrev to : InvocationState → Option Both
to state = Some (both state)

abbrev refused : Option Both
refused = None

-- idle, or unrunnable where it isn't reusable
abbrev over : Both
over = (Idle, Unrunnable)

-- ---- the table

abbrev pub row : InvocationState → Row
row Idle = record { start = to Running; stop = refused; resume = refused; reset = refused; kill = to Unrunnable; ends = both Idle }
row Running = record { start = refused; stop = to Stopped; resume = refused; reset = refused; kill = to Unrunnable; ends = over }
row Stopped = record { start = refused; stop = refused; resume = to Running; reset = Some over; kill = to Unrunnable; ends = both Stopped }
row Unrunnable = record { start = refused; stop = refused; resume = refused; reset = refused; kill = refused; ends = both Unrunnable }

-- ---- what it says

abbrev column : Command → Row → Option Both
column bid.Start r = r.start
column bid.Stop r = r.stop
column bid.Resume r = r.resume
column bid.Reset r = r.reset
column bid.Kill r = r.kill

abbrev of_both : Bool → Both → InvocationState
of_both reusable states = if reusable then states.0 else states.1

-- the state after a command: none where it is refused
abbrev pub next : Command → Bool → InvocationState → Option InvocationState
next command reusable state = option_map (of_both reusable) (column command (row state))

-- the state after its end
abbrev pub ended : Bool → InvocationState → InvocationState
ended reusable state = of_both reusable (row state).ends
