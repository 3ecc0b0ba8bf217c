-- What is read is of the form.
use Rattle.std.proofs.Common.{◌≡◌, ℕ, zero, suc, ◌+◌, ◌<◌, ℤ, ◌≤ℤ◌, ◌⊎◌, inl, inr, Bool, true, false, cond, ltb, eqb, ◌&&◌, List, [], ◌∷◌, ◌++◌, length, get_or, Option, Some, None, Result, Ok, Err, refl, sym, ap, subst, ◌∙◌, arith}
use Rattle.ber_core.specs.declared.element.Lengths.{Lengths}
use Rattle.ber_core.specs.declared.element.Lengths.TheVariants.{Definite, Either}
use Rattle.std.specs.Prelude.{IsTrue, MatchBool, int_le}
use Rattle.std.proofs.lemmas.List.{get_or_append_left, get_or-append_right, get_or_past, append-nil}
use Rattle.std.proofs.lemmas.Bool.{cases_lt, ltb-false, eqb-true}
use Rattle.ber_core.specs.declared.element.Tag.{Tag}
use Rattle.ber_core.specs.declared.fault.BerError.{BerError}
use Rattle.ber_core.specs.declared.fault.BerError.TheVariants.{BadContents}
use Rattle.ber_core.specs.Part.{Part}
use Rattle.ber_core.specs.Element.{IsElement, IsCut}
use Rattle.ber_core.specs.Leaf.{integer_at, boolean_at, bits_at, IsInteger, IsBoolean, IsBits}
use Rattle.ber_core.specs.Reading.{element_at}
use Rattle.ber_core.proofs.Definites.{IsBytes, chosen as which}
use Rattle.ber_core.proofs.Elements.{element_takes}
use Rattle.ber_core.proofs.Respelled.{is_part}
use Rattle.ber_core.proofs.Leaves.{integer_takes}
use Rattle.ber_forms.specs.Fault.{Fault}
use Rattle.ber_forms.specs.Fault as fault
use Rattle.ber_forms.specs.Value.{Value, Slot, Slots, nothing, truth, number, bits, text, chosen, parts, missing, given, done, slot, all_of}
use Rattle.ber_forms.specs.Form.{Form, Member, Alternatives, Components, AtDefault, null, boolean, integer, bit_string, named_bits, octet_string, sequence, choice, list_of, such_that, opaque, elements, too_deep, tagged, one_of, no_other, or, no_more, any_more, required, optional, defaulted, skipped}
use Rattle.ber_forms.specs.Reading.{◌>>=◌, well, is_constructed, is_tag, next_at, part_at, must, required_part, is_ahead, optional_part, integer_in, at_end, read_slot, or_else, required_by, chosen_by, optional_by, defaulting, members_by, elements_at, counted, bits_in, reading, alternatives, required_at, optional_at, components}
use Rattle.ber_forms.specs.Bits.{cleared, first_bits, unused_for}
use Rattle.ber_forms.specs.TooDeep.{BeginsWith, BeginsOtherwise}
use Rattle.ber_forms.proofs.InFront.{ahead_is}
use Rattle.ber_forms.proofs.Complete.{next_again}
use Rattle.ber_forms.specs.InForm.{begins, AreMembers, InForm, IsMember, IsAlternative, AreComponents}

abbrev pub fine : {A : Type 0} → A → Result A Fault
fine x = Ok x

abbrev pub wrong : {A : Type 0} → Fault → Result A Fault
wrong e = Err e

pub fine_is : {A : Type 0} (x y : A) → fine x ≡ fine y → x ≡ y
fine_is x y e = cc

pub not_fine : {A P : Type 0} (e : Fault) (x : A) → wrong {A = A} e ≡ fine x → P
not_fine e x h = absurd cc

pub bound : {A B : Type 0} (r : Result A Fault) (f : A → Result B Fault) (y : B) → (r >>= f) ≡ Ok y → (x : A) × (r ≡ Ok x) × (f x ≡ Ok y)
bound (Ok x) f y e = (x, refl, e)
bound (Err d) f y e = absurd cc

pub well_ok : {A : Type 0} (r : Result A BerError) (x : A) → well r ≡ Ok x → r ≡ Ok x
well_ok (Ok y) x e = cc
well_ok (Err d) x e = absurd cc

pub guard : {A : Type 0} (b : Bool) (e : Fault) (x y : A) → cond b (fine x) (wrong e) ≡ fine y → (b ≡ true) × (x ≡ y)
guard true e x y h = (refl, cc)
guard false e x y h = absurd cc

pub bytes_left : (a b : List ℕ) → IsBytes (a ++ b) → IsBytes a
bytes_left a b h i =
    elim (cases_lt i (length a)) [
      | inl lt ↦ rw (sym (get_or_append_left a b 0 i lt)) (h i)
      | inr le ↦ rw (get_or_past a i 0 le) (omega arith)
    ]

pub bytes_right : (a b : List ℕ) → IsBytes (a ++ b) → IsBytes b
bytes_right a b h i = subst (λ (n : ℕ). n < 256) (there a b i) (h (length a + i))
  where
    there : (a b : List ℕ) (i : ℕ) → get_or (a ++ b) (length a + i) 0 ≡ get_or b i 0
    there a b i = get_or-append_right a b (length a) (length a + i) 0 refl (omega arith) ∙ ap (λ (n : ℕ). get_or b n 0) (omega arith)

-- the contents of an element are octets where the element is
element_bytes : (lengths : Lengths) (octets : List ℕ) (p : Part) → IsElement lengths octets p → IsBytes octets → IsBytes p.contents
element_bytes Definite octets p h fits = bytes_right (h.identifier ++ h.announced) p.contents (subst IsBytes h.whole fits)
element_bytes Either octets p h fits = (is_part octets p h).bytes fits

pub end_is : (octets : List ℕ) (u : Unit {0}) → at_end octets ≡ Ok u → octets ≡ []
unfolding at_end
end_is [] u e = refl
end_is (a ∷ rest) u e = absurd cc

pub integer_within : (low high : ℤ) (c : List ℕ) (n : ℤ) → integer_in low high c ≡ Ok n → (low ≤ℤ n) × (n ≤ℤ high)
unfolding integer_in
integer_within low high c n e =
    let x = bound (well (integer_at c)) (λ n. cond (int_le low n && int_le n high) (fine n) (wrong fault.malformed)) n e in
    let g = guard (int_le low x.0 && int_le x.0 high) fault.malformed x.0 n x.2 in
    subst (λ (m : ℤ). (low ≤ℤ m) × (m ≤ℤ high)) g.1 (grind arith, grind arith)

pub integer_sound : (low high : ℤ) (c : List ℕ) (n : ℤ) → IsBytes c → integer_in low high c ≡ Ok n → IsInteger c n × (low ≤ℤ n) × (n ≤ℤ high)
unfolding integer_in
integer_sound low high c n fits e =
    let x = bound (well (integer_at c)) (λ n. cond (int_le low n && int_le n high) (fine n) (wrong fault.malformed)) n e in
    let g = guard (int_le low x.0 && int_le x.0 high) fault.malformed x.0 n x.2 in
    subst (λ (m : ℤ). IsInteger c m × (low ≤ℤ m) × (m ≤ℤ high)) g.1 (integer_takes c x.0 fits (well_ok (integer_at c) x.0 x.1), grind arith, grind arith)

boolean_sound : (c : List ℕ) (b : Bool) → boolean_at c ≡ Ok b → IsBoolean c b
boolean_sound [] b e = absurd cc
boolean_sound (a ∷ []) b e = cc
boolean_sound (a ∷ c ∷ rest) b e = absurd cc

bits_sound : (c : List ℕ) (x : ℕ × List ℕ) → bits_at c ≡ Ok x → IsBits c x.0 x.1
bits_sound [] x e = absurd cc
bits_sound (u ∷ []) x e =
    elim (which (eqb u 0) (Ok (0, [])) (Err BadContents) (Ok x) e) [
      | inl w ↦ subst (λ (y : ℕ × List ℕ). IsBits (u ∷ []) y.0 y.1) (cc w.1) (eqb-true _ _ w.0, refl, refl)
      | inr w ↦ absurd (cc w.1)
    ]
bits_sound (u ∷ a ∷ rest) x e =
    elim (which (ltb 7 u) (Err BadContents) (Ok (u, a ∷ rest)) (Ok x) e) [
      | inl w ↦ absurd (cc w.1)
      | inr w ↦ subst (λ (y : ℕ × List ℕ). IsBits (u ∷ a ∷ rest) y.0 y.1) (cc w.1) (ltb-false _ _ w.0, refl, refl)
    ]

pub bits_in_sound : (c : List ℕ) (x : ℕ × List ℕ) → bits_in c ≡ Ok x → IsBits c x.0 x.1
unfolding bits_in
bits_in_sound c x e = bits_sound c x (well_ok (bits_at c) x e)

at_true : (P Q : Type 0) (b : Bool) → b ≡ true → P → MatchBool b P Q
at_true P Q true e h = h
at_true P Q false e h = absurd cc

at_false : (P Q : Type 0) (b : Bool) → b ≡ false → Q → MatchBool b P Q
at_false P Q true e h = absurd cc
at_false P Q false e h = h

by_tag : (b : Bool) (r : Result Value Fault) (n : ℕ) (q : Result Value Fault) (v : Value) → cond b (r >>= λ w. fine (chosen n w)) q ≡ Ok v → (P : Value → Type 0) (Q : Type 0)
    → ((w : Value) → r ≡ Ok w → P w) → (q ≡ Ok v → Q) → MatchBool b ((w : Value) × P w × (v ≡ chosen n w)) Q
by_tag true r n q v e P Q here there =
    let w = bound r (λ w. fine (chosen n w)) v e in (w.0, here w.0 w.1, sym (fine_is (chosen n w.0) v w.2))
by_tag false r n q v e P Q here there = there e

pub defaulting_is : (d : Value) (r : Result (Slot × List ℕ) Fault) (x : Slot × List ℕ) → defaulting d r ≡ Ok x → (y : Slot × List ℕ) × (r ≡ Ok y) × ((or_else d y.0, y.1) ≡ x)
unfolding defaulting
defaulting_is d r x e =
    let y = bound r (λ y. fine (or_else d y.0, y.1)) x e in (y.0, y.1, fine_is (or_else d y.0.0, y.0.1) x y.2)

module _ (lengths : Lengths) where
  -- the element in front
  pub record Cut (octets : List ℕ) (p : Part) (rest : List ℕ) : Type 0 where
    pub first : List ℕ
    pub is : IsElement lengths first p
    pub parts : octets ≡ first ++ rest
    pub inner_fits : IsBytes p.contents
    pub rest_fits : IsBytes rest

  pub next_sound : (octets : List ℕ) (p : Part) (rest : List ℕ) → IsBytes octets → next_at lengths octets ≡ Ok (Some (p, rest)) → Cut octets p rest
  unfolding next_at
  next_sound [] p rest fits e = absurd cc
  next_sound (a ∷ more) p rest fits e =
      let x = bound (well (element_at lengths (a ∷ more))) (λ x. Ok (Some x)) (Some (p, rest)) e in
      let is : x.0 ≡ (p, rest) = cc (x.2) in
      let f = element_takes lengths (a ∷ more) p rest fits (subst (λ (y : Part × List ℕ). element_at lengths (a ∷ more) ≡ Ok y) is (well_ok (element_at lengths (a ∷ more)) x.0 x.1)) in
      let front_fits = bytes_left f.taken rest (subst IsBytes f.parts fits) in
      let h = f.holds in
      record {
        first = f.taken;
        is = h;
        parts = f.parts;
        inner_fits = element_bytes lengths f.taken p h front_fits;
        rest_fits = bytes_right f.taken rest (subst IsBytes f.parts fits);
      }

  pub part_sound : (octets : List ℕ) (x : Part × List ℕ) → IsBytes octets → part_at lengths octets ≡ Ok x → Cut octets x.0 x.1
  unfolding part_at
  part_sound octets x fits e =
      let y = bound (next_at lengths octets) must x e in
      next_sound octets x.0 x.1 fits (y.1 ∙ ap (λ (o : Option (Part × List ℕ)). Ok o) (there y.0 x y.2))
    where
      there : (o : Option (Part × List ℕ)) (x : Part × List ℕ) → must o ≡ Ok x → o ≡ Some x
      there None x e = absurd cc
      there (Some y) x e = cc

  pub record Taken (R : Part → Value → Type 0) (octets : List ℕ) (x : Value × List ℕ) : Type 0 where
    pub part : Part
    pub cut : Cut octets part x.1
    pub holds : R part x.0

  pub record Found (test : Tag → Bool) (octets : List ℕ) (p : Part) (rest : List ℕ) : Type 0 where
    pub cut : Cut octets p rest
    pub tag : test p.tag ≡ true

  pub required_sound : (test : Tag → Bool) (octets : List ℕ) (x : Part × List ℕ) → IsBytes octets → required_part lengths test octets ≡ Ok x → Found test octets x.0 x.1
  unfolding required_part
  required_sound test octets x fits e =
      let y = bound (part_at lengths octets) (λ y. cond (test y.0.tag) (fine y) (wrong fault.malformed)) x e in
      let g = guard (test y.0.0.tag) fault.malformed y.0 x y.2 in
      let cut = part_sound octets y.0 fits y.1 in
      subst (λ (z : Part × List ℕ). Found test octets z.0 z.1) g.1 (record { cut = cut; tag = g.0 })

  -- members to the end
  pub members_sound : (R : Part → Value → Type 0) (take : List ℕ → Result (Value × List ℕ) Fault) → ((octets : List ℕ) (x : Value × List ℕ) → IsBytes octets → take octets ≡ Ok x → Taken R octets x)
      → (k : ℕ) (octets : List ℕ) (vs : List Value) → IsBytes octets → members_by take k octets ≡ Ok vs → (ps : List Part) × IsCut lengths octets ps × AreMembers R ps vs
  unfolding members_by
  members_sound R take each zero octets vs fits e =
      let y = bound (at_end octets) (λ _. fine []) vs e in
      let none : [] ≡ vs = fine_is [] vs y.2 in
      ([], end_is octets y.0 y.1, subst (λ (ws : List Value). AreMembers R [] ws) none tt)
  members_sound R take each (suc k) [] vs fits e =
      let none : [] ≡ vs = fine_is [] vs e in
      ([], refl, subst (λ (ws : List Value). AreMembers R [] ws) none tt)
  members_sound R take each (suc k) (a ∷ more) vs fits e =
      let x = bound (take (a ∷ more)) (λ x. members_by take k x.1 >>= λ ws. fine (x.0 ∷ ws)) vs e in
      let y = bound (members_by take k x.0.1) (λ ws. fine (x.0.0 ∷ ws)) vs x.2 in
      let t = each (a ∷ more) x.0 fits x.1 in
      let rest = members_sound R take each k x.0.1 y.0 t.cut.rest_fits y.1 in
      let is : x.0.0 ∷ y.0 ≡ vs = fine_is (x.0.0 ∷ y.0) vs y.2 in
      (t.part ∷ rest.0, (t.cut.first, x.0.1, t.cut.is, t.cut.parts, rest.1), subst (λ (ws : List Value). AreMembers R (t.part ∷ rest.0) ws) is (t.holds, rest.2))

  -- what stands where a component may be missing
  abbrev pub OptionalSound : (m : Member) → List ℕ → Slot × List ℕ → Type 0
  OptionalSound m octets (given v, rest) = (p : Part) × Cut octets p rest × (begins m p.tag ≡ true) × IsMember lengths m p v
  OptionalSound m octets (missing, rest) = (rest ≡ octets) × BeginsOtherwise lengths m octets

  -- the tag in front is that of any element in front
  ahead_of : (test : Tag → Bool) (octets : List ℕ) (p : Part) (rest : List ℕ) → BeginsWith lengths octets p rest → is_ahead test octets ≡ test p.tag
  ahead_of test octets p rest b = ahead_is lengths test octets p rest (next_again lengths octets b.0 rest p b.1 b.2)

  pub optional_found : (test : Tag → Bool) (octets : List ℕ) (y : Option Part × List ℕ) → IsBytes octets → optional_part lengths test octets ≡ Ok y
      → ((y ≡ (None, octets)) × (is_ahead test octets ≡ false)) ⊎ ((q : Part) × (rest : List ℕ) × Cut octets q rest × (test q.tag ≡ true) × (y ≡ (Some q, rest)))
  unfolding optional_part
  optional_found test octets y fits e =
      elim (which (is_ahead test octets) (part_at lengths octets >>= λ x. fine (Some x.0, x.1)) (fine (None, octets)) (fine y) e) [
        | inl w ↦
            let x = bound (part_at lengths octets) (λ x. fine (Some x.0, x.1)) y w.1 in
            let cut = part_sound octets x.0 fits x.1 in
            inr (x.0.0, x.0.1, cut, sym (ahead_of test octets x.0.0 x.0.1 (cut.first, cut.is, cut.parts)) ∙ w.0, sym (fine_is (Some x.0.0, x.0.1) y x.2))
        | inr w ↦ inl (sym (fine_is (None, octets) y w.1), w.0)
      ]

  optional_sound_by : (m : Member) (read : Part → Result Value Fault) (octets : List ℕ) (x : Slot × List ℕ) → IsBytes octets
      → ((p : Part) (v : Value) → IsBytes p.contents → begins m p.tag ≡ true → read p ≡ Ok v → IsMember lengths m p v)
      → optional_by lengths (begins m) read octets ≡ Ok x → OptionalSound m octets x
  unfolding optional_by
  optional_sound_by m read octets x fits each e =
      let y = bound (optional_part lengths (begins m) octets) (λ y. read_slot read y.0 >>= λ v. fine (v, y.1)) x e in
      let s = bound (read_slot read y.0.0) (λ v. fine (v, y.0.1)) x y.2 in
      subst (λ (z : Slot × List ℕ). OptionalSound m octets z) (fine_is (s.0, y.0.1) x s.2) (by_found (optional_found (begins m) octets y.0 fits y.1) s.0 s.1)
    where
      by_found : {y : Option Part × List ℕ} → ((y ≡ (None, octets)) × (is_ahead (begins m) octets ≡ false)) ⊎ ((q : Part) × (rest : List ℕ) × Cut octets q rest × (begins m q.tag ≡ true) × (y ≡ (Some q, rest)))
          → (s : Slot) → read_slot read y.0 ≡ Ok s → OptionalSound m octets (s, y.1)
      by_found (inl (is, t)) s reads =
          subst (λ (z : Option Part × List ℕ). read_slot read z.0 ≡ Ok s → OptionalSound m octets (s, z.1)) (sym is)
          (λ h. subst (λ (u : Slot). OptionalSound m octets (u, octets)) (fine_is missing s h) (refl, λ p rest b. sym (ahead_of (begins m) octets p rest b) ∙ t)) reads
      by_found (inr (q, rest, cut, t, is)) s reads =
          subst (λ (z : Option Part × List ℕ). read_slot read z.0 ≡ Ok s → OptionalSound m octets (s, z.1)) (sym is)
          (λ h. let r = bound (read q) (λ v. fine (given v)) s h in
          subst (λ (u : Slot). OptionalSound m octets (u, rest)) (fine_is (given r.0) s r.2) (q, cut, t, each q r.0 cut.inner_fits t r.1)) reads

  -- some parts that the octets are cut into, and that are the components
  abbrev pub CutAs : Components → List ℕ → Slots → Type 0
  CutAs cs octets vs = (ps : List Part) × IsCut lengths octets ps × AreComponents lengths cs ps vs

  optional_join : (m : Member) (cs : Components) (octets : List ℕ) (s : Slot) (rest : List ℕ) (ws : Slots) → OptionalSound m octets (s, rest) → CutAs cs rest ws → CutAs (optional m cs) octets (slot s ws)
  optional_join m cs octets (given v) rest ws found others =
      (found.0 ∷ others.0, (found.1.first, rest, found.1.is, found.1.parts, others.1), (found.2, found.3, others.2))
  optional_join m cs octets missing rest ws found others =
      by_parts others.0 (subst (λ (o : List ℕ). IsCut lengths o others.0) found.0 others.1) others.2
    where
      by_parts : (ps : List Part) → IsCut lengths octets ps → AreComponents lengths cs ps ws → CutAs (optional m cs) octets (slot missing ws)
      by_parts [] cut are = ([], cut, are)
      by_parts (p ∷ ps) cut are = (p ∷ ps, cut, (found.1 p cut.1 (cut.0, cut.2, cut.3), are))

  defaulted_join : (w : AtDefault) (m : Member) (d : Value) (cs : Components) (octets : List ℕ) (s : Slot) (rest : List ℕ) (ws : Slots) → OptionalSound m octets (s, rest) → CutAs cs rest ws → CutAs (defaulted w m d cs) octets (slot (or_else d s) ws)
  defaulted_join w m d cs octets (given v) rest ws found others =
      (found.0 ∷ others.0, (found.1.first, rest, found.1.is, found.1.parts, others.1), at_true _ _ (begins m found.0.tag) found.2 (found.3, others.2))
  defaulted_join w m d cs octets missing rest ws found others =
      by_parts others.0 (subst (λ (o : List ℕ). IsCut lengths o others.0) found.0 others.1) others.2
    where
      by_parts : (ps : List Part) → IsCut lengths octets ps → AreComponents lengths cs ps ws → CutAs (defaulted w m d cs) octets (slot (given d) ws)
      by_parts [] cut are = ([], cut, (refl, are))
      by_parts (p ∷ ps) cut are = (p ∷ ps, cut, at_false _ _ (begins m p.tag) (found.1 p cut.1 (cut.0, cut.2, cut.3)) (refl, are))

  skipped_join : (m : Member) (cs : Components) (octets : List ℕ) (s : Slot) (rest : List ℕ) (ws : Slots) → OptionalSound m octets (s, rest) → CutAs cs rest ws → CutAs (skipped m cs) octets ws
  skipped_join m cs octets (given v) rest ws found others =
      (found.0 ∷ others.0, (found.1.first, rest, found.1.is, found.1.parts, others.1), at_true _ _ (begins m found.0.tag) found.2 (v, found.3, others.2))
  skipped_join m cs octets missing rest ws found others =
      by_parts others.0 (subst (λ (o : List ℕ). IsCut lengths o others.0) found.0 others.1) others.2
    where
      by_parts : (ps : List Part) → IsCut lengths octets ps → AreComponents lengths cs ps ws → CutAs (skipped m cs) octets ws
      by_parts [] cut are = ([], cut, are)
      by_parts (p ∷ ps) cut are = (p ∷ ps, cut, at_false _ _ (begins m p.tag) (found.1 p cut.1 (cut.0, cut.2, cut.3)) are)

  pub optional_fits : (m : Member) (c : List ℕ) (x : Slot × List ℕ) → IsBytes c → OptionalSound m c x → IsBytes x.1
  optional_fits m c (given v, rest) fits o = o.1.rest_fits
  optional_fits m c (missing, rest) fits o = subst IsBytes (sym o.0) fits

  taken_by : (R : Part → Value → Type 0) (read : Part → Result Value Fault) → ((p : Part) (v : Value) → IsBytes p.contents → read p ≡ Ok v → R p v)
      → (c : List ℕ) (x : Value × List ℕ) → IsBytes c → chosen_by lengths read c ≡ Ok x → Taken R c x
  unfolding chosen_by
  taken_by R read each c x fits e =
      let y = bound (part_at lengths c) (λ y. read y.0 >>= λ v. fine (v, y.1)) x e in
      let v = bound (read y.0.0) (λ v. fine (v, y.0.1)) x y.2 in
      let cut = part_sound c y.0 fits y.1 in
      subst (λ (z : Value × List ℕ). Taken R c z) (fine_is (v.0, y.0.1) x v.2) (record { part = y.0.0; cut = cut; holds = each y.0.0 v.0 cut.inner_fits v.1 })

  elements_sound : (c : List ℕ) (u : Unit {0}) → IsBytes c → elements_at lengths c ≡ Ok u → (ps : List Part) × IsCut lengths c ps
  unfolding elements_at
  elements_sound c u fits e =
      let x = bound (members_by (chosen_by lengths (λ _. fine nothing)) (length c) c) (λ _. fine tt) u e in
      let k = members_sound (λ p v. Unit {0}) (chosen_by lengths (λ _. fine nothing)) (taken_by (λ p v. Unit {0}) (λ _. fine nothing) (λ p v h r. tt)) (length c) c x.0 fits x.1 in
      (k.0, k.1)

  required_taken : (test : Tag → Bool) (read : List ℕ → Result Value Fault) (R : List ℕ → Value → Type 0) → ((d : List ℕ) (v : Value) → IsBytes d → read d ≡ Ok v → R d v)
      → (c : List ℕ) (x : Value × List ℕ) → IsBytes c → required_by lengths test read c ≡ Ok x → Taken (λ p v. IsTrue (test p.tag) × R p.contents v) c x
  unfolding required_by
  required_taken test read R each c x fits e =
      let y = bound (required_part lengths test c) (λ y. read y.0.contents >>= λ v. fine (v, y.1)) x e in
      let v = bound (read y.0.0.contents) (λ v. fine (v, y.0.1)) x y.2 in
      let found = required_sound test c y.0 fits y.1 in
      subst (λ (z : Value × List ℕ). Taken (λ p w. IsTrue (test p.tag) × R p.contents w) c z) (fine_is (v.0, y.0.1) x v.2)
      (record { part = y.0.0; cut = found.cut; holds = (found.tag, each y.0.0.contents v.0 found.cut.inner_fits v.1) })

  -- one element, and nothing after it
  whole : (c rest : List ℕ) (p : Part) → Cut c p rest → rest ≡ [] → IsElement lengths c p
  whole c rest p cut none = subst (λ (o : List ℕ). IsElement lengths o p) (sym (cut.parts ∙ ap (λ (r : List ℕ). cut.first ++ r) none ∙ append-nil cut.first)) cut.is

  mutual
    -- What is read is of the form.
    pub reading_sound : (f : Form) (c : List ℕ) (v : Value) → IsBytes c → reading lengths f c ≡ Ok v → InForm lengths f c v
    reading_sound null c v fits e =
        let x = bound (at_end c) (λ _. fine nothing) v e in (end_is c x.0 x.1, sym (fine_is nothing v x.2))
    reading_sound boolean c v fits e =
        let x = bound (well (boolean_at c)) (λ b. fine (truth b)) v e in
        (x.0, boolean_sound c x.0 (well_ok (boolean_at c) x.0 x.1), sym (fine_is (truth x.0) v x.2))
    reading_sound (integer low high) c v fits e =
        let x = bound (integer_in low high c) (λ n. fine (number n)) v e in
        let n = integer_sound low high c x.0 fits x.1 in
        (x.0, n.0, n.1, n.2, sym (fine_is (number x.0) v x.2))
    reading_sound bit_string c v fits e =
        let x = bound (bits_in c) (λ b. fine (bits b.0 (cleared b.0 b.1))) v e in
        (x.0.0, x.0.1, bits_in_sound c x.0 x.1, sym (fine_is (bits x.0.0 (cleared x.0.0 x.0.1)) v x.2))
    reading_sound (named_bits n) c v fits e =
        let x = bound (bits_in c) (λ b. fine (bits (unused_for n) (first_bits n b.0 b.1))) v e in
        (x.0.0, x.0.1, bits_in_sound c x.0 x.1, sym (fine_is (bits (unused_for n) (first_bits n x.0.0 x.0.1)) v x.2))
    reading_sound (octet_string test) c v fits e =
        let g = guard (test c) fault.malformed (text c) v e in (g.0, sym g.1)
    reading_sound (sequence cs) c v fits e =
        let x = bound (components lengths cs c) (λ vs. fine (parts vs)) v e in
        let k = components_sound cs c x.0 fits x.1 in
        (k.0, x.0, k.1, k.2, sym (fine_is (parts x.0) v x.2))
    reading_sound (choice others) c v fits e =
        let x = bound (chosen_by lengths (alternatives lengths others) c) (λ x. at_end x.1 >>= λ _. fine x.0) v e in
        let u = bound (at_end x.0.1) (λ _. fine x.0.0) v x.2 in
        let t = taken_by (IsAlternative lengths others) (alternatives lengths others) (alternatives_sound others) c x.0 fits x.1 in
        (t.part, whole c x.0.1 t.part t.cut (end_is x.0.1 u.0 u.1), subst (λ (w : Value). IsAlternative lengths others t.part w) (fine_is x.0.0 v u.2) t.holds)
    reading_sound (list_of test m) c v fits e =
        let x = bound (members_by (required_at lengths m) (length c) c) (counted test) v e in
        let k = members_sound (IsMember lengths m) (required_at lengths m) (member_sound m) (length c) c x.0 fits x.1 in
        let g = guard (test (length x.0)) fault.malformed (parts (all_of x.0)) v x.2 in
        (k.0, x.0, k.1, k.2, g.0, sym g.1)
    reading_sound (such_that test f) c v fits e =
        let x = bound (reading lengths f c) (λ w. cond (test w) (fine w) (wrong fault.malformed)) v e in
        let g = guard (test x.0) fault.malformed x.0 v x.2 in
        subst (λ (w : Value). InForm lengths f c w × IsTrue (test w)) g.1 (reading_sound f c x.0 fits x.1, g.0)
    reading_sound (opaque constructed) c v fits e = sym (fine_is (text c) v e)
    reading_sound elements c v fits e =
        let x = bound (elements_at lengths c) (λ _. fine nothing) v e in
        let k = elements_sound c x.0 fits x.1 in
        (k.0, k.1, sym (fine_is nothing v x.2))
    reading_sound too_deep c v fits e = not_fine fault.too_deep v e

    pub alternatives_sound : (others : Alternatives) (p : Part) (v : Value) → IsBytes p.contents → alternatives lengths others p ≡ Ok v → IsAlternative lengths others p v
    alternatives_sound no_other p v fits e = not_fine fault.malformed v e
    alternatives_sound (or n f others) p v fits e =
        by_tag (is_tag 2 (is_constructed f) n p.tag) (reading lengths f p.contents) n (alternatives lengths others p) v e (InForm lengths f p.contents) (IsAlternative lengths others p v)
        (λ w h. reading_sound f p.contents w fits h) (λ h. alternatives_sound others p v fits h)

    pub member_sound : (m : Member) (c : List ℕ) (x : Value × List ℕ) → IsBytes c → required_at lengths m c ≡ Ok x → Taken (IsMember lengths m) c x
    member_sound (tagged class n f) c x fits e =
        required_taken (is_tag class (is_constructed f) n) (reading lengths f) (InForm lengths f) (λ d v h k. reading_sound f d v h k) c x fits e
    member_sound (one_of others) c x fits e = taken_by (IsAlternative lengths others) (alternatives lengths others) (alternatives_sound others) c x fits e

    pub optional_sound : (m : Member) (c : List ℕ) (x : Slot × List ℕ) → IsBytes c → optional_at lengths m c ≡ Ok x → OptionalSound m c x
    optional_sound (tagged class n f) c x fits e =
        optional_sound_by (tagged class n f) (λ p. reading lengths f p.contents) c x fits (λ p v h t r. (t, reading_sound f p.contents v h r)) e
    optional_sound (one_of others) c x fits e =
        optional_sound_by (one_of others) (alternatives lengths others) c x fits (λ p v h t r. alternatives_sound others p v h r) e

    components_sound : (cs : Components) (c : List ℕ) (vs : Slots) → IsBytes c → components lengths cs c ≡ Ok vs → CutAs cs c vs
    components_sound no_more c vs fits e =
        let x = bound (at_end c) (λ _. fine done) vs e in
        ([], end_is c x.0 x.1, subst (λ (ws : Slots). AreComponents lengths no_more [] ws) (fine_is done vs x.2) tt)
    components_sound any_more c vs fits e =
        let x = bound (elements_at lengths c) (λ _. fine done) vs e in
        let k = elements_sound c x.0 fits x.1 in
        subst (λ (ws : Slots). CutAs any_more c ws) (fine_is done vs x.2) (k.0, k.1, tt)
    components_sound (required m cs) c vs fits e =
        let x = bound (required_at lengths m c) (λ x. components lengths cs x.1 >>= λ ws. fine (slot (given x.0) ws)) vs e in
        let y = bound (components lengths cs x.0.1) (λ ws. fine (slot (given x.0.0) ws)) vs x.2 in
        let t = member_sound m c x.0 fits x.1 in
        let k = components_sound cs x.0.1 y.0 t.cut.rest_fits y.1 in
        subst (λ (ws : Slots). CutAs (required m cs) c ws) (fine_is (slot (given x.0.0) y.0) vs y.2)
        (t.part ∷ k.0, (t.cut.first, x.0.1, t.cut.is, t.cut.parts, k.1), (t.holds, k.2))
    components_sound (optional m cs) c vs fits e =
        let x = bound (optional_at lengths m c) (λ x. components lengths cs x.1 >>= λ ws. fine (slot x.0 ws)) vs e in
        let y = bound (components lengths cs x.0.1) (λ ws. fine (slot x.0.0 ws)) vs x.2 in
        let o = optional_sound m c x.0 fits x.1 in
        let k = components_sound cs x.0.1 y.0 (optional_fits m c x.0 fits o) y.1 in
        subst (λ (ws : Slots). CutAs (optional m cs) c ws) (fine_is (slot x.0.0 y.0) vs y.2) (optional_join m cs c x.0.0 x.0.1 y.0 o k)
    components_sound (defaulted w m d cs) c vs fits e =
        let x = bound (defaulting d (optional_at lengths m c)) (λ x. components lengths cs x.1 >>= λ ws. fine (slot x.0 ws)) vs e in
        let y = bound (components lengths cs x.0.1) (λ ws. fine (slot x.0.0 ws)) vs x.2 in
        let z = defaulting_is d (optional_at lengths m c) x.0 x.1 in
        let o = optional_sound m c z.0 fits z.1 in
        let k = components_sound cs z.0.1 y.0 (optional_fits m c z.0 fits o) (ap (λ (q : Slot × List ℕ). components lengths cs q.1) z.2 ∙ y.1) in
        subst (λ (ws : Slots). CutAs (defaulted w m d cs) c ws) (ap (λ (q : Slot × List ℕ). slot q.0 y.0) z.2 ∙ fine_is (slot x.0.0 y.0) vs y.2) (defaulted_join w m d cs c z.0.0 z.0.1 y.0 o k)
    components_sound (skipped m cs) c vs fits e =
        let x = bound (optional_at lengths m c) (λ x. components lengths cs x.1) vs e in
        let o = optional_sound m c x.0 fits x.1 in
        let k = components_sound cs x.0.1 vs (optional_fits m c x.0 fits o) x.2 in
        skipped_join m cs c x.0.0 x.0.1 vs o k
