-- How the octets of an edition are read.
use Rattle.ber_core.specs.declared.element.Lengths.{Lengths}
use Rattle.ber_core.specs.declared.element.Lengths.TheVariants.{Definite, Either}
use Rattle.mms_types.specs.declared.identifier.Edition.{Edition}
use Rattle.mms_types.specs.declared.identifier.Edition.TheVariants.{One, Two}

-- the forms of lengths (ITU-T X.690, 8.1.3): edition 1 has definite ones alone, edition 2 also indefinite ones (this profile's choice)
abbrev pub lengths_of : Edition → Lengths
lengths_of One = Definite
lengths_of Two = Either
