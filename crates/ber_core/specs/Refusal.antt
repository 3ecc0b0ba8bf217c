-- Why octets begin with no element. At most one of the three holds, and one does where no element is in front.
use Rattle.std.specs.Prelude.{◌≡◌, true, false, ℕ, ◌<◌, ◌≤◌, ◌%◌, ◌⊎◌, List, [], ◌∷◌, ◌++◌, length}
use Rattle.ber_core.specs.declared.element.Tag.{Tag}
use Rattle.ber_core.specs.declared.element.Lengths.{Lengths}
use Rattle.ber_core.specs.declared.element.Lengths.TheVariants.{Definite, Either}
use Rattle.ber_core.specs.Part.{Part}
use Rattle.ber_core.specs.Element.{IsIdentifier, IsElement, AreContents}

-- octets that begin a number above 30 and are refused: it is below 31, or begins with 80, or needs more than two
-- (ITU-T X.690, 8.1.2.4; no more than two: this profile's choice)
abbrev pub IsBadNumber : List ℕ → Type 0
IsBadNumber [] = ⊥
IsBadNumber (b ∷ []) = (b < 31) ⊎ (b ≡ 128)
IsBadNumber (b ∷ c ∷ more) = (b < 31) ⊎ ((b ≡ 128) ⊎ ((128 ≤ b) × (128 ≤ c)))

-- the first octet announces a number above 30, and the octets after it are refused
abbrev pub HasBadNumber : List ℕ → Type 0
HasBadNumber [] = ⊥
HasBadNumber (a ∷ rest) = (a % 32 ≡ 31) × IsBadNumber rest

-- after an identifier, the octet 80 (no definite length), or one that announces more than eight length octets
-- (ITU-T X.690, 8.1.3.5 and 8.1.3.6; no more than eight: this profile's choice)
pub record HasBadDefiniteLength (octets : List ℕ) : Type 0 where
  pub identifier : List ℕ
  pub tag : Tag
  pub first : ℕ
  pub rest : List ℕ
  pub is_identifier : IsIdentifier identifier tag
  pub is_bad : (first ≡ 128) ⊎ (136 < first)
  pub whole : octets ≡ identifier ++ first ∷ rest

-- after the identifier of a tag without the constructed bit, the octet 80, or after any identifier one that announces more than eight
-- length octets (ITU-T X.690, 8.1.3.2, 8.1.3.5)
pub record HasBadEitherLength (octets : List ℕ) : Type 0 where
  pub identifier : List ℕ
  pub tag : Tag
  pub first : ℕ
  pub rest : List ℕ
  pub is_identifier : IsIdentifier identifier tag
  pub is_bad : ((first ≡ 128) × (tag.constructed ≡ false)) ⊎ (136 < first)
  pub whole : octets ≡ identifier ++ first ∷ rest

-- The octets begin an element of indefinite length, and these are left after whole elements of its contents, or within the next of
-- them by the same rule; or they are the octets themselves.
pub data IsLeftWithin : List ℕ → List ℕ → Type 0 where
  itself : (octets : List ℕ) → IsLeftWithin octets octets
  within : (octets identifier contents next left : List ℕ) (t : Tag) → IsIdentifier identifier t → t.constructed ≡ true → AreContents contents
      → octets ≡ identifier ++ 128 ∷ (contents ++ next) → IsLeftWithin next left → IsLeftWithin octets left

-- the octets are refused, or what is left of them within elements of indefinite length
abbrev pub Within : (List ℕ → Type 0) → List ℕ → Type 0
Within P octets = (left : List ℕ) × IsLeftWithin octets left × P left

abbrev pub HasBadTag : Lengths → List ℕ → Type 0
HasBadTag Definite octets = HasBadNumber octets
HasBadTag Either octets = Within HasBadNumber octets

abbrev pub HasBadLength : Lengths → List ℕ → Type 0
HasBadLength Definite octets = HasBadDefiniteLength octets
HasBadLength Either octets = Within HasBadEitherLength octets

-- The octets are the beginning of an element without its end: no octet is left, or they end within its identifier,
-- its length or its contents.
abbrev pub EndsEarly : Lengths → List ℕ → Type 0
EndsEarly lengths octets = (more : List ℕ) × (p : Part) × (0 < length more) × IsElement lengths (octets ++ more) p
