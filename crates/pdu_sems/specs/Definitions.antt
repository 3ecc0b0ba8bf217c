-- Semaphores (ISO 9506-2, semaphore management): their definition, and what they are and have.
use Rattle.std.specs.Prelude.{◌≡◌, ℕ, List, [], ◌∷◌, get_or, refl}
use Rattle.mms_types.specs.Semaphores.{semaphore_class_number}
use Rattle.mms_types.specs.declared.semaphore.DefineSemaphore.{DefineSemaphore}
use Rattle.mms_types.specs.declared.semaphore.SemaphoreClass.{SemaphoreClass}
use Rattle.mms_types.specs.declared.semaphore.SemaphoreClass.TheVariants.{Token, Pool}
use Rattle.mms_types.specs.declared.semaphore.SemaphoreStatus.{SemaphoreStatus}
use Rattle.pdu_names.specs.Names.{names}
use Rattle.pdu_names.specs.Kinds.{Kind, natural, boolean, unsigned16, enumerated, context, choice, sequence, required, no_more}

-- DefineSemaphore-Request: semaphoreName, and numberOfTokens, at least 1
abbrev pub define_semaphore : Kind DefineSemaphore
define_semaphore = sequence (
    required (context 0 (choice names)) (λ x. x.name) (
    required (context 1 (natural 1 65535)) (λ x. x.tokens) no_more))
    (λ name tokens. record { name = name; tokens = tokens }) (λ x. refl)

-- class: token 0, pool 1
abbrev class_numbered : ℕ → SemaphoreClass
class_numbered n = get_or (Token ∷ []) n Pool

pub class_again : (c : SemaphoreClass) → class_numbered (semaphore_class_number c) ≡ c
class_again Token = refl
class_again Pool = refl

abbrev pub semaphore_class : Kind SemaphoreClass
semaphore_class = enumerated 1 semaphore_class_number class_numbered class_again

-- ReportSemaphoreStatus-Response: mmsDeletable, class, numberOfTokens, numberOfOwnedTokens and numberOfHungTokens
abbrev pub semaphore_status : Kind SemaphoreStatus
semaphore_status = sequence (
    required (context 0 boolean) (λ x. x.deletable) (
    required (context 1 semaphore_class) (λ x. x.class) (
    required (context 2 unsigned16) (λ x. x.tokens) (
    required (context 3 unsigned16) (λ x. x.owned) (
    required (context 4 unsigned16) (λ x. x.hung) no_more)))))
    (λ deletable class tokens owned hung. record { deletable = deletable; class = class; tokens = tokens; owned = owned; hung = hung })
    (λ x. refl)
