-- What is of a form stays so where the elements of other octets are the same, one for one.
use Rattle.std.proofs.Common.{◌≡◌, ℕ, Bool, true, false, ◌&&◌, List, [], ◌∷◌, ◌++◌, refl, sym, ap, subst, ◌∙◌}
use Rattle.std.specs.Prelude.{IsTrue, MatchBool, ◌==◌}
use Rattle.std.proofs.lemmas.List.{append-nil}
use Rattle.ber_core.specs.declared.element.Tag.{Tag}
use Rattle.ber_core.specs.declared.element.Lengths.{Lengths}
use Rattle.ber_core.specs.Part.{Part}
use Rattle.ber_core.specs.Element.{IsElement, IsCut}
use Rattle.ber_forms.specs.Value.{Value, Slots, text, missing, given, done, slot, chosen}
use Rattle.ber_forms.specs.Form.{Form, Member, Alternatives, Components, null, boolean, integer, bit_string, named_bits, octet_string, sequence, choice, list_of, such_that, opaque, elements, too_deep, tagged, one_of, no_other, or, no_more, any_more, required, optional, defaulted, skipped}
use Rattle.ber_forms.specs.Reading.{same_form, is_constructed, is_tag}
use Rattle.ber_forms.specs.InForm.{begins, AreMembers, InForm, IsMember, IsAlternative, AreComponents}
use Rattle.ber_forms.specs.Kept.{is_looked_into, member_looked_into, alternatives_looked_into, components_looked_into}

pub both : (x y : Bool) → IsTrue (x && y) → IsTrue x × IsTrue y
both true true e = (refl, refl)
both true false e = absurd cc
both false y e = absurd cc

no_truth : {A : Type 0} → IsTrue false → A
no_truth e = absurd cc

same_bit : (x y : Bool) → IsTrue (same_form x y) → x ≡ y
same_bit true true e = refl
same_bit true false e = absurd cc
same_bit false true e = absurd cc
same_bit false false e = refl

-- the tag's constructed bit is the form's
tag_bit : (class n : ℕ) (constructed : Bool) (t : Tag) → IsTrue (is_tag class constructed n t) → constructed ≡ t.constructed
tag_bit class n constructed t e = same_bit constructed t.constructed (middle (t.class == class) (same_form constructed t.constructed) (t.number == n) e)
  where
    middle : (x y z : Bool) → IsTrue (x && y && z) → IsTrue y
    middle true true z h = refl
    middle true false true h = absurd cc
    middle true false false h = absurd cc
    middle false y true h = absurd cc
    middle false y false h = absurd cc

matched : (b : Bool) (P Q R S : Type 0) → (b ≡ true → P → R) → (Q → S) → MatchBool b P Q → MatchBool b R S
matched true P Q R S here there h = here refl h
matched false P Q R S here there h = there h

-- ---- contents that are no elements say the same whatever the lengths

pub plain : (before after : Lengths) (f : Form) → is_constructed f ≡ false → (c : List ℕ) (v : Value) → InForm before f c v → InForm after f c v
plain before after null e c v h = h
plain before after boolean e c v h = h
plain before after (integer low high) e c v h = h
plain before after bit_string e c v h = h
plain before after (named_bits n) e c v h = h
plain before after (octet_string test) e c v h = h
plain before after (sequence cs) e c v h = absurd cc
plain before after (choice others) e c v h = absurd cc
plain before after (list_of test m) e c v h = absurd cc
plain before after (such_that test f) e c v h = (plain before after f e c v h.0, h.1)
plain before after (opaque constructed) e c v h = h
plain before after elements e c v h = absurd cc
plain before after too_deep e c v h = absurd h

module _ (before after : Lengths) (Same : List ℕ → List ℕ → Type 0) where
  -- the same tag, and the same contents, or related ones where the tag has the constructed bit
  pub record IsSamePart (p q : Part) : Type 0 where
    pub tag : p.tag ≡ q.tag
    pub plain_contents : p.tag.constructed ≡ false → p.contents ≡ q.contents
    pub contents : p.tag.constructed ≡ true → Same p.contents q.contents

  abbrev pub AreSameParts : List Part → List Part → Type 0
  AreSameParts [] [] = Unit {0}
  AreSameParts (p ∷ ps) (q ∷ qs) = IsSamePart p q × AreSameParts ps qs
  AreSameParts ps qs = ⊥

  -- related octets are cut into the same parts
  abbrev pub Carries : Type 0
  Carries = (c d : List ℕ) → Same c d → (ps : List Part) → IsCut before c ps → (qs : List Part) × AreSameParts ps qs × IsCut after d qs

-- Either no octets of an element with the constructed bit are kept as they are, or related ones are the same.
module _ (before after : Lengths) (Same : List ℕ → List ℕ → Type 0) (carries : Carries before after Same)
    (looks : Bool) (equal : looks ≡ false → (c d : List ℕ) → Same c d → c ≡ d) where
  kept_as : (P : Bool → Type 0) → (looks ≡ true → P true) → (looks ≡ false → P false) → P looks
  kept_as P here there = by_cases looks refl
    where
      by_cases : (b : Bool) → looks ≡ b → P looks
      by_cases true e = subst P (sym e) (here e)
      by_cases false e = subst P (sym e) (there e)

  -- one element is the same element
  carried_element : (c d : List ℕ) → Same c d → (p : Part) → IsElement before c p → (q : Part) × IsSamePart before after Same p q × IsElement after d q
  carried_element c d same p is = by_parts (carries c d same (p ∷ []) (c, [], is, sym (append-nil c), refl))
    where
      by_parts : ((qs : List Part) × AreSameParts before after Same (p ∷ []) qs × IsCut after d qs) → (q : Part) × IsSamePart before after Same p q × IsElement after d q
      by_parts ([], are, cut) = absurd are
      by_parts (q ∷ [], are, (first, rest, element, split, none)) =
          (q, are.0, subst (λ (s : List ℕ). IsElement after s q) (sym (split ∙ ap (λ (s : List ℕ). first ++ s) none ∙ append-nil first)) element)
      by_parts (q ∷ r ∷ qs, are, cut) = absurd are.1

  -- contents of an element, by its constructed bit
  by_bit : (f : Form) (p q : Part) (v : Value) → is_constructed f ≡ p.tag.constructed → IsSamePart before after Same p q
      → (is_constructed f ≡ true → Same p.contents q.contents → InForm before f p.contents v → InForm after f q.contents v) → InForm before f p.contents v → InForm after f q.contents v
  by_bit f p q v bit same deep h = by_cases (p.tag.constructed) refl
    where
      by_cases : (b : Bool) → p.tag.constructed ≡ b → InForm after f q.contents v
      by_cases true e = deep (bit ∙ e) (same.contents e) h
      by_cases false e = plain before after f (bit ∙ e) q.contents v (subst (λ (s : List ℕ). InForm before f s v) (same.plain_contents e) h)

  members_same : (R S : Part → Value → Type 0) → ((p q : Part) (v : Value) → IsSamePart before after Same p q → R p v → S q v)
      → (ps qs : List Part) (vs : List Value) → AreSameParts before after Same ps qs → AreMembers R ps vs → AreMembers S qs vs
  members_same R S each [] [] [] same h = tt
  members_same R S each [] [] (v ∷ vs) same h = absurd h
  members_same R S each [] (q ∷ qs) vs same h = absurd same
  members_same R S each (p ∷ ps) [] vs same h = absurd same
  members_same R S each (p ∷ ps) (q ∷ qs) [] same h = absurd h
  members_same R S each (p ∷ ps) (q ∷ qs) (v ∷ vs) same h = (each p q v same.0 h.0, members_same R S each ps qs vs same.1 h.1)

  mutual
    pub form_carried : (f : Form) → (looks ≡ true → IsTrue (is_looked_into f)) → is_constructed f ≡ true → (c d : List ℕ) (v : Value) → Same c d → InForm before f c v → InForm after f d v
    form_carried null looked e c d v same h = absurd cc
    form_carried boolean looked e c d v same h = absurd cc
    form_carried (integer low high) looked e c d v same h = absurd cc
    form_carried bit_string looked e c d v same h = absurd cc
    form_carried (named_bits n) looked e c d v same h = absurd cc
    form_carried (octet_string test) looked e c d v same h = absurd cc
    form_carried (sequence cs) looked e c d v same (ps, vs, cut, are, is) =
        let q = carries c d same ps cut in (q.0, vs, q.2, components_carried cs looked ps q.0 vs q.1 are, is)
    form_carried (choice others) looked e c d v same (p, is, h) =
        let q = carried_element c d same p is in (q.0, q.2, alternative_carried others looked p q.0 v q.1 h)
    form_carried (list_of test m) looked e c d v same (ps, vs, cut, are, count, is) =
        let q = carries c d same ps cut in (q.0, vs, q.2, members_same (IsMember before m) (IsMember after m) (λ r t w s h. member_carried m looked r t w s h) ps q.0 vs q.1 are, count, is)
    form_carried (such_that test f) looked e c d v same h = (form_carried f looked e c d v same h.0, h.1)
    form_carried (opaque true) looked e c d v same h = kept_as (λ (b : Bool). v ≡ text d) (λ yes. no_truth (looked yes)) (λ no. h ∙ ap (λ (s : List ℕ). text s) (equal no c d same))
    form_carried (opaque false) looked e c d v same h = absurd cc
    form_carried elements looked e c d v same (ps, cut, is) = let q = carries c d same ps cut in (q.0, q.2, is)
    form_carried too_deep looked e c d v same h = absurd h

    member_carried : (m : Member) → (looks ≡ true → IsTrue (member_looked_into m)) → (p q : Part) (v : Value) → IsSamePart before after Same p q → IsMember before m p v → IsMember after m q v
    member_carried (tagged class n f) looked p q v same (t, h) = (
      subst (λ (s : Tag). IsTrue (is_tag class (is_constructed f) n s)) same.tag t,
      by_bit f p q v (tag_bit class n (is_constructed f) p.tag t) same (λ e s k. form_carried f looked e p.contents q.contents v s k) h,
    )
    member_carried (one_of others) looked p q v same h = alternative_carried others looked p q v same h

    alternative_carried : (others : Alternatives) → (looks ≡ true → IsTrue (alternatives_looked_into others)) → (p q : Part) (v : Value) → IsSamePart before after Same p q → IsAlternative before others p v → IsAlternative after others q v
    alternative_carried no_other looked p q v same h = absurd h
    alternative_carried (or n f others) looked p q v same h =
        let first = λ (e : looks ≡ true). (both (is_looked_into f) (alternatives_looked_into others) (looked e)).0 in
        let later = λ (e : looks ≡ true). (both (is_looked_into f) (alternatives_looked_into others) (looked e)).1 in
        subst (λ (s : Tag). MatchBool (is_tag 2 (is_constructed f) n s) ((w : Value) × InForm after f q.contents w × (v ≡ chosen n w)) (IsAlternative after others q v)) same.tag
        (matched (is_tag 2 (is_constructed f) n p.tag) ((w : Value) × InForm before f p.contents w × (v ≡ chosen n w)) (IsAlternative before others p v)
        ((w : Value) × InForm after f q.contents w × (v ≡ chosen n w)) (IsAlternative after others q v)
        (λ t k. (k.0, by_bit f p q k.0 (tag_bit 2 n (is_constructed f) p.tag t) same (λ e s j. form_carried f first e p.contents q.contents k.0 s j) k.1, k.2)) (λ k. alternative_carried others later p q v same k) h)

    components_carried : (cs : Components) → (looks ≡ true → IsTrue (components_looked_into cs)) → (ps qs : List Part) (vs : Slots) → AreSameParts before after Same ps qs → AreComponents before cs ps vs → AreComponents after cs qs vs
    components_carried cs looked [] (q ∷ qs) vs same h = absurd same
    components_carried cs looked (p ∷ ps) [] vs same h = absurd same
    components_carried no_more looked [] [] done same h = tt
    components_carried any_more looked [] [] done same h = tt
    components_carried any_more looked (p ∷ ps) (q ∷ qs) done same h = tt
    components_carried (required m cs) looked (p ∷ ps) (q ∷ qs) (slot (given v) vs) same h =
        let first = λ (e : looks ≡ true). (both (member_looked_into m) (components_looked_into cs) (looked e)).0 in
        let others = λ (e : looks ≡ true). (both (member_looked_into m) (components_looked_into cs) (looked e)).1 in
        (member_carried m first p q v same.0 h.0, components_carried cs others ps qs vs same.1 h.1)
    components_carried (optional m cs) looked [] [] (slot missing vs) same h =
        components_carried cs (λ e. (both (member_looked_into m) (components_looked_into cs) (looked e)).1) [] [] vs same h
    components_carried (optional m cs) looked (p ∷ ps) (q ∷ qs) (slot missing vs) same h =
        (subst (λ (t : Tag). begins m t ≡ false) same.0.tag h.0, components_carried cs (λ e. (both (member_looked_into m) (components_looked_into cs) (looked e)).1) (p ∷ ps) (q ∷ qs) vs same h.1)
    components_carried (optional m cs) looked (p ∷ ps) (q ∷ qs) (slot (given v) vs) same h =
        let first = λ (e : looks ≡ true). (both (member_looked_into m) (components_looked_into cs) (looked e)).0 in
        let others = λ (e : looks ≡ true). (both (member_looked_into m) (components_looked_into cs) (looked e)).1 in
        (subst (λ (t : Tag). begins m t ≡ true) same.0.tag h.0, member_carried m first p q v same.0 h.1, components_carried cs others ps qs vs same.1 h.2)
    components_carried (defaulted w m d cs) looked [] [] (slot (given v) vs) same h =
        (h.0, components_carried cs (λ e. (both (member_looked_into m) (components_looked_into cs) (looked e)).1) [] [] vs same h.1)
    components_carried (defaulted w m d cs) looked (p ∷ ps) (q ∷ qs) (slot (given v) vs) same h =
        let first = λ (e : looks ≡ true). (both (member_looked_into m) (components_looked_into cs) (looked e)).0 in
        let others = λ (e : looks ≡ true). (both (member_looked_into m) (components_looked_into cs) (looked e)).1 in
        subst (λ (t : Tag). MatchBool (begins m t) (IsMember after m q v × AreComponents after cs qs vs) ((v ≡ d) × AreComponents after cs (q ∷ qs) vs)) same.0.tag
        (matched (begins m p.tag) (IsMember before m p v × AreComponents before cs ps vs) ((v ≡ d) × AreComponents before cs (p ∷ ps) vs)
        (IsMember after m q v × AreComponents after cs qs vs) ((v ≡ d) × AreComponents after cs (q ∷ qs) vs)
        (λ t k. (member_carried m first p q v same.0 k.0, components_carried cs others ps qs vs same.1 k.1)) (λ k. (k.0, components_carried cs others (p ∷ ps) (q ∷ qs) vs same k.1)) h)
    components_carried (skipped m cs) looked [] [] vs same h =
        components_carried cs (λ e. (both (member_looked_into m) (components_looked_into cs) (looked e)).1) [] [] vs same h
    components_carried (skipped m cs) looked (p ∷ ps) (q ∷ qs) vs same h =
        let first = λ (e : looks ≡ true). (both (member_looked_into m) (components_looked_into cs) (looked e)).0 in
        let others = λ (e : looks ≡ true). (both (member_looked_into m) (components_looked_into cs) (looked e)).1 in
        subst (λ (t : Tag). MatchBool (begins m t) ((v : Value) × IsMember after m q v × AreComponents after cs qs vs) (AreComponents after cs (q ∷ qs) vs)) same.0.tag
        (matched (begins m p.tag) ((v : Value) × IsMember before m p v × AreComponents before cs ps vs) (AreComponents before cs (p ∷ ps) vs)
        ((v : Value) × IsMember after m q v × AreComponents after cs qs vs) (AreComponents after cs (q ∷ qs) vs)
        (λ t k. (k.0, member_carried m first p q k.0 same.0 k.1, components_carried cs others ps qs vs same.1 k.2)) (λ k. components_carried cs others (p ∷ ps) (q ∷ qs) vs same k) h)
    components_carried cs looked ps qs vs same h = absurd h
