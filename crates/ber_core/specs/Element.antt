-- What an element is.
use Rattle.std.specs.Prelude.{◌≡◌, ℕ, ◌+◌, ◌*◌, ◌-◌, ◌<◌, ◌≤◌, Bool, true, false, ◌&&◌, ◌==◌, List, [], ◌∷◌, ◌++◌, length, fold}
use Rattle.ber_core.specs.declared.element.Tag.{Tag}
use Rattle.ber_core.specs.declared.element.Lengths.{Lengths}
use Rattle.ber_core.specs.declared.element.Lengths.TheVariants.{Definite, Either}
use Rattle.ber_core.specs.Part.{Part}

-- the class and the form, in the high three bits (ITU-T X.690, 8.1.2.2 and 8.1.2.5)
abbrev pub form_bit : Bool → ℕ
form_bit true = 32
form_bit false = 0

abbrev pub head_of : Tag → ℕ
head_of t = 64 * t.class + form_bit t.constructed

-- the identifier of a tag: one octet for a number up to 30, else the low five bits are ones and one or two
-- octets in base 128 follow, the first of them not 80 (ITU-T X.690, 8.1.2; no more than two: this profile's choice)
abbrev pub IsIdentifier : List ℕ → Tag → Type 0
IsIdentifier [] t = ⊥
IsIdentifier (a ∷ []) t = (t.class < 4) × (t.number < 31) × (a ≡ head_of t + t.number)
IsIdentifier (a ∷ b ∷ []) t = (t.class < 4) × (a ≡ head_of t + 31) × (31 ≤ b) × (b < 128) × (t.number ≡ b)
IsIdentifier (a ∷ b ∷ c ∷ []) t = (t.class < 4) × (a ≡ head_of t + 31) × (128 < b) × (b < 256) × (c < 128) × (t.number ≡ 128 * (b - 128) + c)
IsIdentifier (a ∷ b ∷ c ∷ d ∷ more) t = ⊥

-- the number that octets spell, the most significant first
abbrev pub number_of : List ℕ → ℕ
number_of octets = fold (λ n b. 256 * n + b) 0 octets

-- a definite length, also one longer than needed: an octet below 80, or how many octets follow and these
-- (ITU-T X.690, 8.1.3.3 to 8.1.3.5; no more than eight: this profile's choice)
abbrev pub Announces : List ℕ → ℕ → Type 0
Announces [] n = ⊥
Announces (a ∷ []) n = (a < 128) × (n ≡ a)
Announces (a ∷ b ∷ more) n = (128 < a) × (a < 137) × (length (b ∷ more) + 128 ≡ a) × (n ≡ number_of (b ∷ more))

-- an identifier, a length that announces so many contents octets, and these (ITU-T X.690, 8.1.1)
pub record IsDefiniteElement (octets : List ℕ) (p : Part) : Type 0 where
  pub identifier : List ℕ
  pub announced : List ℕ
  pub tag : IsIdentifier identifier p.tag
  pub size : Announces announced (length p.contents)
  pub whole : octets ≡ identifier ++ announced ++ p.contents

-- 00 00, the end of contents of indefinite length, stands in front (ITU-T X.690, 8.1.5)
abbrev pub begins_end : List ℕ → Bool
begins_end (a ∷ b ∷ rest) = (a == 0) && (b == 0)
begins_end octets = false

mutual
  -- an element with a definite length, or a constructed one with the octet 80 in the place of a length and 00 00 after
  -- its contents (ITU-T X.690, 8.1.3.6)
  pub data IsEitherElement : List ℕ → Part → Type 0 where
    of_definite : (octets : List ℕ) (p : Part) → IsDefiniteElement octets p → IsEitherElement octets p
    of_indefinite : (octets identifier : List ℕ) (p : Part) → IsIdentifier identifier p.tag → p.tag.constructed ≡ true → AreContents p.contents
        → octets ≡ identifier ++ 128 ∷ (p.contents ++ 0 ∷ 0 ∷ []) → IsEitherElement octets p

  -- contents of indefinite length: elements one after the other, none of which begins with 00 00
  pub data AreContents : List ℕ → Type 0 where
    without_element : AreContents []
    with_element : (octets first rest : List ℕ) (p : Part) → IsEitherElement first p → begins_end first ≡ false → AreContents rest
        → octets ≡ first ++ rest → AreContents octets

-- the octets of one element, with lengths of these forms
abbrev pub IsElement : Lengths → List ℕ → Part → Type 0
IsElement Definite octets p = IsDefiniteElement octets p
IsElement Either octets p = IsEitherElement octets p

-- the elements that octets are cut into, one after the other and nothing between them
abbrev pub IsCut : Lengths → List ℕ → List Part → Type 0
IsCut lengths octets [] = octets ≡ []
IsCut lengths octets (p ∷ ps) = (first : List ℕ) × (rest : List ℕ) × IsElement lengths first p × (octets ≡ first ++ rest) × IsCut lengths rest ps
