-- A semaphore is defined, or deleted.
use Rattle.std.proofs.Common.{◌≡◌, ◌∙◌, ap, ap₂, sym, refl, ℕ, Bool, Option, None, Some, if◌then◌else◌}
use Rattle.std.specs.Prelude.{Result, Ok, Err, OnOk}
use Rattle.mms_types.specs.declared.memory.Memory.{Memory}
use Rattle.mms_types.specs.declared.object_name.ObjectName.{ObjectName}
use Rattle.mms_types.specs.declared.pdu.Answer.TheVariants as answer
use Rattle.mms_types.specs.declared.semaphore.DefineSemaphore.{DefineSemaphore}
use Rattle.mms_types.specs.declared.service_error.ServiceError.{ServiceError}
use Rattle.association.specs.Client.{ClientRow, Client as RoomyRow}
use Rattle.mms_time.specs.Semaphores.{Rows}
use Rattle.mms_time.specs.Services.{define_after, define_cause, delete_after, delete_cause}
use Rattle.cell_client.specs.Areas.{IsServedIn}
use Rattle.cell_client.specs.Effects.{felt, felt_all, settled}
use Rattle.cell_client.specs.Facts.{Facts}
use Rattle.cell_client.specs.Requests.{fits, refuses, request_told, size_of}
use Rattle.serve_semaphores.specs.Semaphores.{define_semaphore, delete_semaphore}
use Rattle.cell_client.proofs.ServedLaws.{became, refused}

module _ (row : ClientRow) (invoke client : ℕ) (by : client ≡ row.client) (rows : Rows) (new : RoomyRow) where
  define_why : (live : Bool) (x : DefineSemaphore) (why : Option ServiceError) → why ≡ define_cause live client x rows
      → (facts : Facts) → facts.live ≡ live → define_cause facts.live row.client x rows ≡ why
  define_why live x why is facts same = ap₂ (λ (l : Bool) (n : ℕ). define_cause l n x rows) same (sym by) ∙ sym is

  pub define_refused : (result : Result (Unit {0}) Memory) (live : Bool) (x : DefineSemaphore) (e : ServiceError) → Some e ≡ define_cause live client x rows
      → OnOk result (new ≡ settled (felt (refuses invoke e) row))
      → OnOk result ((facts : Facts) → facts.live ≡ live → IsServedIn (define_semaphore x) facts invoke row rows rows new)
  define_refused (Ok done) live x e why is = λ facts same. refused (define_semaphore x) facts invoke row rows rows new e (define_why live x (Some e) why facts same) refl is
  define_refused (Err memory) live x e why is = tt

  pub define_served : (result : Result (Unit {0}) Memory) (become : Rows) (live : Bool) (x : DefineSemaphore) → None ≡ define_cause live client x rows
      → OnOk result (become ≡ (if fits (size_of row.association) invoke (Some answer.DefineSemaphore) then define_after row.client x rows else rows))
      → OnOk result (new ≡ settled (felt_all (request_told (size_of row.association) invoke None (Some answer.DefineSemaphore)) row))
      → OnOk result ((facts : Facts) → facts.live ≡ live → IsServedIn (define_semaphore x) facts invoke row rows become new)
  define_served (Ok done) become live x why table is =
      λ facts same. became (define_semaphore x) facts invoke row rows become new None (define_after row.client x rows) (Some answer.DefineSemaphore)
      (define_why live x None why facts same) refl table is
  define_served (Err memory) become live x why table is = tt

  delete_why : (x : ObjectName) (why : Option ServiceError) → why ≡ delete_cause client x rows → delete_cause row.client x rows ≡ why
  delete_why x why is = ap (λ (n : ℕ). delete_cause n x rows) (sym by) ∙ sym is

  pub delete_refused : (result : Result (Unit {0}) Memory) (x : ObjectName) (e : ServiceError) → Some e ≡ delete_cause client x rows
      → OnOk result (new ≡ settled (felt (refuses invoke e) row))
      → OnOk result ((facts : Facts) → IsServedIn (delete_semaphore x) facts invoke row rows rows new)
  delete_refused (Ok done) x e why is = λ facts. refused (delete_semaphore x) facts invoke row rows rows new e (delete_why x (Some e) why) refl is
  delete_refused (Err memory) x e why is = tt

  pub delete_served : (result : Result (Unit {0}) Memory) (become : Rows) (x : ObjectName) → None ≡ delete_cause client x rows
      → OnOk result (become ≡ (if fits (size_of row.association) invoke (Some answer.DeleteSemaphore) then delete_after row.client x rows else rows))
      → OnOk result (new ≡ settled (felt_all (request_told (size_of row.association) invoke None (Some answer.DeleteSemaphore)) row))
      → OnOk result ((facts : Facts) → IsServedIn (delete_semaphore x) facts invoke row rows become new)
  delete_served (Ok done) become x why table is =
      λ facts. became (delete_semaphore x) facts invoke row rows become new None (delete_after row.client x rows) (Some answer.DeleteSemaphore) (delete_why x None why) refl table is
  delete_served (Err memory) become x why table is = tt
