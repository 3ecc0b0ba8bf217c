-- Writes of guarded variables (this profile's choice).
use Rattle.std.specs.Prelude.{◌≡◌, ℕ, true, Contains, List, Some}
use Rattle.mms_types.specs.declared.event.CellEvent.{CellEvent}
use Rattle.mms_types.specs.declared.event.CellEvent.TheVariants.{Heard}
use Rattle.mms_types.specs.declared.pdu.Request.TheVariants as request
use Rattle.mms_types.specs.declared.variable.Spec.{Spec}
use Rattle.mms_types.specs.declared.variable.Write.{Write}
use Rattle.variables.specs.Rows.{number_told}
use Rattle.variable_services.specs.Services.{accessed_all}
use Rattle.mms_time.specs.Guards.{owns_guard}
use Rattle.cell_client.specs.Association.{Takes, verdict}
use Rattle.cell_services.specs.Serving.{is_served}
use Rattle.step_parts.specs.Partition.{cell, row_of}
use Rattle.step_parts.specs.State.{State}

-- By the event a client writes that has an owner entry of the semaphore of the VMD of that name: its request is taken,
-- and isn't refused, and one of the variables that it names is the cell of that number.
pub record IsWrittenByOwner (number : ℕ) (guard : List ℕ) (s : State) (event : CellEvent) : Type 0 where
  pub client : ℕ
  pub octets : List ℕ
  pub heard : event ≡ Heard client octets
  pub invoke : ℕ
  pub asked : Write
  pub taken : verdict (row_of s client) octets ≡ Takes invoke (request.Write asked)
  pub served : is_served (cell.tables_of s) (row_of s client) invoke (request.Write asked) ≡ true
  pub owner : owns_guard (row_of s client).client guard s.semaphores ≡ true
  pub variable : Spec
  pub among : Contains (accessed_all (row_of s client).client asked.access s.variables) variable
  pub tells : number_told (row_of s client).client variable s.variables.vars ≡ Some number
