-- A request for program invocations is served: refused, or answered.
use Rattle.std.proofs.Common.{◌≡◌, refl, ℕ, Bool, true, false, [], Option, None, Some, if◌then◌else◌}
use Rattle.std.specs.Prelude.{Result, Ok, Err, OnOk}
use Rattle.mms_types.specs.declared.memory.Memory.{Memory}
use Rattle.mms_types.specs.declared.pdu.Answer.{Answer}
use Rattle.mms_types.specs.declared.service_error.ServiceError.{ServiceError}
use Rattle.association.specs.Client.{ClientRow, Client as RoomyRow}
use Rattle.cell_client.specs.Areas.{IsServedIn, RequestIn}
use Rattle.cell_client.specs.Effects.{felt, felt_all, settled}
use Rattle.cell_client.specs.Facts.{Facts}
use Rattle.cell_client.specs.Requests.{fits, refuses, request_told, size_of}
use Rattle.cell_client.proofs.ServedLaws.{became, refused}

-- on one table, or on two
module _ {A : Type 0} (r : RequestIn A) (row : ClientRow) (invoke : ℕ) (was : A) (new : RoomyRow) where
  pub refused_so : (result : Result (Unit {0}) Memory) (e : ServiceError) → ((facts : Facts) → r.cause facts was row ≡ Some e)
      → OnOk result (new ≡ settled (felt (refuses invoke e) row)) → OnOk result ((facts : Facts) → IsServedIn r facts invoke row was was new)
  refused_so (Ok done) e why is = λ facts. refused r facts invoke row was was new e (why facts) refl is
  refused_so (Err memory) e why is = tt

  pub became_so : (result : Result (Unit {0}) Memory) (now t : A) (answer : Option Answer) → ((facts : Facts) → r.cause facts was row ≡ None)
      → ((facts : Facts) → r.effect facts was row invoke ≡ record { tables = t; answer = answer; also = [] })
      → OnOk result (now ≡ (if fits (size_of row.association) invoke answer then t else was))
      → OnOk result (new ≡ settled (felt_all (request_told (size_of row.association) invoke None answer) row))
      → OnOk result ((facts : Facts) → IsServedIn r facts invoke row was now new)
  became_so (Ok done) now t answer why effect table is = λ facts. became r facts invoke row was now new None t answer (why facts) (effect facts) table is
  became_so (Err memory) now t answer why effect table is = tt
