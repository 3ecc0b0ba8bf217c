-- What PDUs tell of semaphores by a number (ISO 9506-2, semaphore management).
use Rattle.std.specs.Prelude.{ℕ}
use Rattle.mms_types.specs.declared.semaphore.SemaphoreClass.{SemaphoreClass}
use Rattle.mms_types.specs.declared.semaphore.SemaphoreClass.TheVariants.{Token, Pool}
use Rattle.mms_types.specs.declared.semaphore.EntryState.{EntryState}
use Rattle.mms_types.specs.declared.semaphore.EntryState.TheVariants.{Queued, Owner, Hung}
use Rattle.mms_types.specs.declared.semaphore.EntryClass.{EntryClass}
use Rattle.mms_types.specs.declared.semaphore.EntryClass.TheVariants.{Simple, Modifier}

-- the number of a class of semaphores
abbrev pub semaphore_class_number : SemaphoreClass → ℕ
semaphore_class_number Token = 0
semaphore_class_number Pool = 1

-- the number of a state of entries
abbrev pub entry_state_number : EntryState → ℕ
entry_state_number Queued = 0
entry_state_number Owner = 1
entry_state_number Hung = 2

-- the number of a class of entries
abbrev pub entry_class_number : EntryClass → ℕ
entry_class_number Simple = 0
entry_class_number Modifier = 1
