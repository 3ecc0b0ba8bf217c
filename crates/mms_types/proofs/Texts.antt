-- Names are text.
use Rattle.std.proofs.Common.{◌≡◌, ℕ, zero, suc, ◌<◌, true, not, List, [], ◌∷◌, arith}
use Rattle.std.specs.Cmp.{first_so, second_so}
use Rattle.std.specs.List.{list_all}
use Rattle.std.specs.Str.{IsAscii, IsUtf8}
use Rattle.std.proofs.lemmas.Str.{IsUtf8-from_ascii}
use Rattle.std.proofs.lemmas.Bool.Decides.{nat_tests}
use Rattle.mms_types.specs.declared.identifier.Edition.{Edition}
use Rattle.mms_types.specs.declared.identifier.Edition.TheVariants.{One, Two}
use Rattle.mms_types.specs.Spelling.{is_name_octet, begins_with_digit, is_spelled, IsIdentifier, IsName}

-- an octet of names is ASCII
name_octet_is_ascii : (octet : ℕ) → is_name_octet octet ≡ true → octet < 128
name_octet_is_ascii octet h = grind (arith, nat_tests)

name_octets_are_ascii : (octets : List ℕ) → list_all is_name_octet octets ≡ true → IsAscii octets
name_octets_are_ascii [] h i = omega arith
name_octets_are_ascii (octet ∷ octets) h zero = name_octet_is_ascii octet (first_so (is_name_octet octet) (list_all is_name_octet octets) h)
name_octets_are_ascii (octet ∷ octets) h (suc i) = name_octets_are_ascii octets (second_so (is_name_octet octet) (list_all is_name_octet octets) h) i

-- an identifier is text
pub identifier_is_text : (edition : Edition) (octets : List ℕ) → IsIdentifier edition octets → IsUtf8 octets
identifier_is_text edition octets h =
    let spelled : is_spelled octets ≡ true = grind arith in
    IsUtf8-from_ascii octets (name_octets_are_ascii octets (second_so (not (begins_with_digit octets)) (list_all is_name_octet octets) spelled))

-- an identifier of an edition is one of the widest
pub is_name : (edition : Edition) (octets : List ℕ) → IsIdentifier edition octets → IsName octets
is_name One octets h = grind (arith, nat_tests)
is_name Two octets h = h
