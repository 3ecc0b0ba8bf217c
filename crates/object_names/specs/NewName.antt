-- Why a name can't be given to a new object (this profile's order): the domain of its scope is not live, or an object of the class has it.
use Rattle.std.specs.Prelude.{Bool, true, false, not, ◌&&◌, List, [], ◌∷◌}
use Rattle.mms_types.specs.Errors.{object_undefined, object_exists}
use Rattle.mms_types.specs.declared.object_name.ObjectName.{ObjectName}
use Rattle.mms_types.specs.declared.object_name.ObjectName.TheVariants as name
use Rattle.mms_types.specs.declared.service_error.ServiceError.{ServiceError}

-- the name belongs to a domain
abbrev pub is_of_domain : ObjectName → Bool
is_of_domain (name.Domain domain item) = true
is_of_domain (name.Vmd item) = false
is_of_domain (name.Association item) = false

abbrev pub new_name : Bool → ObjectName → Bool → List (Bool × ServiceError)
new_name live given exists = (is_of_domain given && not live, object_undefined) ∷ (exists, object_exists) ∷ []
