-- Which contents nest too deep: the parts before some part are of their form, and that one is too deep.
use Rattle.std.specs.Prelude.{◌≡◌, ℕ, ◌⊎◌, true, false, IsTrue, MatchBool, List, ◌++◌}
use Rattle.ber_core.specs.declared.element.Lengths.{Lengths}
use Rattle.ber_core.specs.Part.{Part}
use Rattle.ber_core.specs.Element.{IsElement, IsCut}
use Rattle.ber_forms.specs.Value.{Value}
use Rattle.ber_forms.specs.Form.{Form, Member, Alternatives, Components, sequence, choice, list_of, such_that, too_deep, tagged, one_of, no_other, or, no_more, any_more, required, optional, defaulted, skipped}
use Rattle.ber_forms.specs.Reading.{is_constructed, is_tag}
use Rattle.ber_forms.specs.InForm.{begins, AreMembers, IsMember}

-- Each of these takes which forms of lengths elements have first.
module _ (lengths : Lengths) where
  -- the octets begin with this element, and these are left
  abbrev pub BeginsWith : List ℕ → Part → List ℕ → Type 0
  BeginsWith octets p rest = (first : List ℕ) × IsElement lengths first p × (octets ≡ first ++ rest)

  -- no element of such a tag stands in front
  abbrev pub BeginsOtherwise : Member → List ℕ → Type 0
  BeginsOtherwise m octets = (p : Part) (rest : List ℕ) → BeginsWith octets p rest → begins m p.tag ≡ false

  -- one that may be missing is there, and it or what comes later is too deep, or it is missing, and what comes later is
  abbrev pub HereOrLater : Member → (Part → Type 0) → (List ℕ → Type 0) → List ℕ → Type 0
  HereOrLater m Here Later c =
      ((p : Part) × (rest : List ℕ) × BeginsWith c p rest × (begins m p.tag ≡ true) × (Here p ⊎ ((v : Value) × IsMember lengths m p v × Later rest)))
      ⊎ (BeginsOtherwise m c × Later c)

  abbrev mutual
    pub IsTooDeep : Form → List ℕ → Type 0
    IsTooDeep (sequence cs) c = IsPartTooDeep cs c
    IsTooDeep (choice others) c = (p : Part) × (rest : List ℕ) × BeginsWith c p rest × IsAlternativeTooDeep others p
    IsTooDeep (list_of test m) c =
        (front : List ℕ) × (ps : List Part) × (vs : List Value) × (more : List ℕ) × (p : Part) × (rest : List ℕ)
        × (c ≡ front ++ more) × IsCut lengths front ps × AreMembers (IsMember lengths m) ps vs × BeginsWith more p rest × IsMemberTooDeep m p
    IsTooDeep (such_that test f) c = IsTooDeep f c
    IsTooDeep too_deep c = Unit {0}
    IsTooDeep f c = ⊥

    pub IsMemberTooDeep : Member → Part → Type 0
    IsMemberTooDeep (tagged class n f) p = IsTrue (is_tag class (is_constructed f) n p.tag) × IsTooDeep f p.contents
    IsMemberTooDeep (one_of others) p = IsAlternativeTooDeep others p

    pub IsAlternativeTooDeep : Alternatives → Part → Type 0
    IsAlternativeTooDeep no_other p = ⊥
    IsAlternativeTooDeep (or n f others) p = MatchBool (is_tag 2 (is_constructed f) n p.tag) (IsTooDeep f p.contents) (IsAlternativeTooDeep others p)

    pub IsPartTooDeep : Components → List ℕ → Type 0
    IsPartTooDeep no_more c = ⊥
    IsPartTooDeep any_more c = ⊥
    IsPartTooDeep (required m cs) c = (p : Part) × (rest : List ℕ) × BeginsWith c p rest × (IsMemberTooDeep m p ⊎ ((v : Value) × IsMember lengths m p v × IsPartTooDeep cs rest))
    IsPartTooDeep (optional m cs) c = HereOrLater m (IsMemberTooDeep m) (IsPartTooDeep cs) c
    IsPartTooDeep (defaulted w m d cs) c = HereOrLater m (IsMemberTooDeep m) (IsPartTooDeep cs) c
    IsPartTooDeep (skipped m cs) c = HereOrLater m (IsMemberTooDeep m) (IsPartTooDeep cs) c
