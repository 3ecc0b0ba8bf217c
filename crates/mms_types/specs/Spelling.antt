-- What an identifier is: ISO 9506-2, Identifier, in this profile.
use Rattle.std.specs.Prelude.{ℕ, Bool, false, not, ◌&&◌, ◌||◌, ◌==◌, nat_lt, nat_le, if◌then◌else◌, IsTrue, Option, None, Some, Result, Ok, Err, List, [], ◌∷◌, length}
use Rattle.std.specs.List.{list_all}
use Rattle.std.specs.Char.{is_ascii_alphanumeric, is_ascii_digit}
use Rattle.mms_types.specs.declared.identifier.Edition.{Edition}
use Rattle.mms_types.specs.declared.identifier.Edition.TheVariants.{One, Two}
use Rattle.mms_types.specs.declared.identifier.Unnamed.{Unnamed}
use Rattle.mms_types.specs.declared.identifier.Unnamed.TheVariants.{Bad, Memory}
use Rattle.mms_types.specs.declared.identifier.BadName.{BadName}
use Rattle.mms_types.specs.declared.identifier.BadName.TheVariants.{Empty, TooLong, BadOctet}

-- a letter, a digit, '_' or '$' (ISO 9506-2, Identifier)
abbrev pub is_name_octet : ℕ → Bool
is_name_octet octet = is_ascii_alphanumeric octet || octet == 0x5F || octet == 0x24

abbrev pub begins_with_digit : List ℕ → Bool
begins_with_digit [] = false
begins_with_digit (octet ∷ rest) = is_ascii_digit octet

-- no digit in front, and octets of names alone (ISO 9506-2, Identifier)
abbrev pub is_spelled : List ℕ → Bool
is_spelled octets = not (begins_with_digit octets) && list_all is_name_octet octets

-- the most octets that an identifier has (this profile's choice)
abbrev pub longest : Edition → ℕ
longest One = 32
longest Two = 64

-- the rule that octets break, the first where they break several (this profile's choice of their order)
abbrev pub bad_name : Edition → List ℕ → Option BadName
bad_name edition octets =
    if length octets == 0 then Some Empty
    else if nat_lt (longest edition) (length octets) then Some TooLong
    else if is_spelled octets then None else Some BadOctet

-- the rule that a reading tells, and none with an identifier or want of memory
abbrev pub rule_told : {T : Type 0} → Result T Unnamed → Option BadName
rule_told (Ok name) = None
rule_told (Err (Bad rule)) = Some rule
rule_told (Err Memory) = None

-- 1 octet to the most of the edition, spelled as names are
abbrev pub is_identifier : Edition → List ℕ → Bool
is_identifier edition octets = nat_lt 0 (length octets) && nat_le (length octets) (longest edition) && is_spelled octets

-- the octets are an identifier of the edition
abbrev pub IsIdentifier : Edition → List ℕ → Type 0
IsIdentifier edition octets = IsTrue (is_identifier edition octets)

-- the edition whose identifiers are the most: each identifier of another one is one of this
abbrev pub widest : Edition
widest = Two

-- the octets are an identifier of some edition
abbrev pub IsName : List ℕ → Type 0
IsName octets = IsIdentifier widest octets
