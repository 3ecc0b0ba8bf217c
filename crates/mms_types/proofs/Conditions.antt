-- Where no refusal is told, the first condition doesn't hold, and of the others none is told.
use Rattle.std.proofs.Common.{◌≡◌, Bool, true, false, List, ◌∷◌, None, refl}
use Rattle.mms_types.specs.Errors.{first_of}
use Rattle.mms_types.specs.declared.service_error.ServiceError.{ServiceError}

pub none_holds : (b : Bool) (error : ServiceError) (rest : List (Bool × ServiceError)) → first_of ((b, error) ∷ rest) ≡ None → (b ≡ false) × (first_of rest ≡ None)
none_holds true error rest e = absurd cc
none_holds false error rest e = (refl, e)
