-- What is read as too deep nests too deep.
use Rattle.std.proofs.Common.{◌≡◌, ℕ, zero, suc, ℤ, ◌⊎◌, inl, inr, Bool, true, false, cond, List, [], ◌∷◌, ◌++◌, length, Option, Some, None, Result, Ok, Err, refl, sym, ap, subst, ◌∙◌, append_assoc}
use Rattle.ber_core.specs.declared.element.Lengths.{Lengths}
use Rattle.std.specs.Prelude.{MatchBool}
use Rattle.ber_core.specs.declared.element.Tag.{Tag}
use Rattle.ber_core.specs.declared.fault.BerError.{BerError}
use Rattle.ber_core.specs.Part.{Part}
use Rattle.ber_core.specs.Leaf.{integer_at, boolean_at, bits_at}
use Rattle.ber_core.specs.Reading.{element_at}
use Rattle.ber_core.proofs.Definites.{IsBytes, chosen as which}
use Rattle.ber_forms.specs.Fault.{Fault}
use Rattle.ber_forms.specs.Fault as fault
use Rattle.ber_forms.specs.Value.{Value, Slot, nothing, truth, number, bits, text, chosen, parts, missing, given, done, slot, all_of}
use Rattle.ber_forms.specs.Form.{Form, Member, Alternatives, Components, null, boolean, integer, bit_string, named_bits, octet_string, sequence, choice, list_of, such_that, opaque, elements, too_deep, tagged, one_of, no_other, or, no_more, any_more, required, optional, defaulted, skipped}
use Rattle.ber_forms.specs.Reading.{◌>>=◌, well, is_constructed, is_tag, has_tag, next_at, part_at, must, required_part, is_ahead, optional_part, integer_in, at_end, read_slot, or_else, required_by, chosen_by, optional_by, defaulting, members_by, elements_at, counted, bits_in, reading, alternatives, required_at, optional_at, components}
use Rattle.ber_forms.specs.Bits.{cleared, first_bits, unused_for}
use Rattle.ber_forms.specs.InForm.{begins, IsMember}
use Rattle.ber_forms.specs.TooDeep.{BeginsWith, IsTooDeep, IsMemberTooDeep, IsAlternativeTooDeep, IsPartTooDeep}
use Rattle.ber_forms.proofs.Sound.{fine, wrong, Cut, Taken, OptionalSound, part_sound, required_sound, member_sound, optional_found, optional_sound, optional_fits, defaulting_is}

abbrev deep : {A : Type 0} → Result A Fault
deep = Err fault.too_deep

same_fault : (A B : Type 0) (d : Fault) → wrong {A = B} d ≡ deep → wrong {A = A} d ≡ deep
same_fault A B d e = ap (λ (w : Fault). wrong {A = A} w) (only d e)
  where
    only : (d : Fault) → wrong {A = B} d ≡ deep → d ≡ fault.too_deep
    only d e = cc

-- a step that ends too deep
bound_deep : {A B : Type 0} (r : Result A Fault) (f : A → Result B Fault) → (r >>= f) ≡ deep → (r ≡ deep) ⊎ ((x : A) × (r ≡ Ok x) × (f x ≡ deep))
bound_deep (Ok x) f e = inr (x, refl, e)
bound_deep {A} {B} (Err d) f e = inl (same_fault A B d e)

fine_not : {A P : Type 0} (x : A) → fine x ≡ deep → P
fine_not x e = absurd cc

well_not : {A P : Type 0} (r : Result A BerError) → well r ≡ deep → P
well_not (Ok x) e = absurd cc
well_not (Err d) e = absurd cc

guard_not : {A P : Type 0} (b : Bool) (x : A) → cond b (fine x) (wrong fault.malformed) ≡ deep → P
guard_not true x e = absurd cc
guard_not false x e = absurd cc

end_not : {P : Type 0} (c : List ℕ) → at_end c ≡ deep → P
unfolding at_end
end_not [] e = absurd cc
end_not (a ∷ rest) e = absurd cc

integer_not : {P : Type 0} (low high : ℤ) (c : List ℕ) → integer_in low high c ≡ deep → P
unfolding integer_in
integer_not low high c e = elim (bound_deep (well (integer_at c)) _ e) [ inl h ↦ well_not (integer_at c) h | inr h ↦ guard_not _ h.0 h.2 ]

by_tag_deep : (b : Bool) (r : Result Value Fault) (n : ℕ) (q : Result Value Fault) → cond b (r >>= λ w. fine (chosen n w)) q ≡ deep → (P Q : Type 0)
    → (r ≡ deep → P) → (q ≡ deep → Q) → MatchBool b P Q
by_tag_deep true r n q e P Q here there = elim (bound_deep r (λ w. fine (chosen n w)) e) [ inl h ↦ here h | inr h ↦ fine_not (chosen n h.0) h.2 ]
by_tag_deep false r n q e P Q here there = there e

defaulting_deep : (d : Value) (r : Result (Slot × List ℕ) Fault) → defaulting d r ≡ deep → r ≡ deep
unfolding defaulting
defaulting_deep d r e = elim (bound_deep r (λ x. fine (or_else d x.0, x.1)) e) [ inl h ↦ h | inr h ↦ fine_not (or_else d h.0.0, h.0.1) h.2 ]

bits_not : {P : Type 0} (c : List ℕ) → bits_in c ≡ deep → P
unfolding bits_in
bits_not c e = well_not (bits_at c) e

members_not : {P : Type 0} (take : List ℕ → Result (Value × List ℕ) Fault) → ((c : List ℕ) → take c ≡ deep → P) → (k : ℕ) (c : List ℕ) → members_by take k c ≡ deep → P
unfolding members_by
members_not take never zero c e = elim (bound_deep (at_end c) (λ _. fine []) e) [ inl h ↦ end_not c h | inr h ↦ fine_not [] h.2 ]
members_not take never (suc k) [] e = fine_not [] e
members_not take never (suc k) (a ∷ more) e =
    elim (bound_deep (take (a ∷ more)) (λ x. members_by take k x.1 >>= λ ws. fine (x.0 ∷ ws)) e) [
      | inl h ↦ never (a ∷ more) h
      | inr h ↦ elim (bound_deep (members_by take k h.0.1) (λ ws. fine (h.0.0 ∷ ws)) h.2) [
        | inl i ↦ members_not take never k h.0.1 i
        | inr i ↦ fine_not (h.0.0 ∷ i.0) i.2
      ]
    ]

module _ (lengths : Lengths) where
  next_not : {P : Type 0} (c : List ℕ) → next_at lengths c ≡ deep → P
  unfolding next_at
  next_not [] e = absurd cc
  next_not (a ∷ rest) e = elim (bound_deep (well (element_at lengths (a ∷ rest))) (λ x. fine (Some x)) e) [ inl h ↦ well_not (element_at lengths (a ∷ rest)) h | inr h ↦ fine_not (Some h.0) h.2 ]

  part_not : {P : Type 0} (c : List ℕ) → part_at lengths c ≡ deep → P
  unfolding part_at
  part_not c e = elim (bound_deep (next_at lengths c) must e) [ inl h ↦ next_not c h | inr h ↦ must_not h.0 h.2 ]
    where
      must_not : {P : Type 0} (o : Option (Part × List ℕ)) → must o ≡ deep → P
      must_not None e = absurd cc
      must_not (Some x) e = absurd cc

  required_not : {P : Type 0} (test : Tag → Bool) (c : List ℕ) → required_part lengths test c ≡ deep → P
  unfolding required_part
  required_not test c e = elim (bound_deep (part_at lengths c) (λ x. cond (test x.0.tag) (fine x) (wrong fault.malformed)) e) [ inl h ↦ part_not c h | inr h ↦ guard_not (test h.0.0.tag) h.0 h.2 ]

  optional_not : {P : Type 0} (test : Tag → Bool) (c : List ℕ) → optional_part lengths test c ≡ deep → P
  unfolding optional_part
  optional_not test c e =
      elim (which (is_ahead test c) (part_at lengths c >>= λ x. fine (Some x.0, x.1)) (fine (None, c)) deep e) [
        | inl w ↦ elim (bound_deep (part_at lengths c) (λ x. fine (Some x.0, x.1)) w.1) [ inl h ↦ part_not c h | inr h ↦ fine_not (Some h.0.0, h.0.1) h.2 ]
        | inr w ↦ fine_not (None, c) w.1
      ]

  begins_with : (octets : List ℕ) (p : Part) (rest : List ℕ) → Cut lengths octets p rest → BeginsWith lengths octets p rest
  begins_with octets p rest cut = (cut.first, cut.is, cut.parts)

  required_deep : (test : Tag → Bool) (read : List ℕ → Result Value Fault) (c : List ℕ) → IsBytes c → required_by lengths test read c ≡ deep
      → (p : Part) × (rest : List ℕ) × Cut lengths c p rest × (test p.tag ≡ true) × (read p.contents ≡ deep)
  unfolding required_by
  required_deep test read c fits e =
      elim (bound_deep (required_part lengths test c) (λ x. read x.0.contents >>= λ v. fine (v, x.1)) e) [
        | inl h ↦ required_not test c h
        | inr h ↦ elim (bound_deep (read h.0.0.contents) (λ v. fine (v, h.0.1)) h.2) [
          | inl k ↦ let f = required_sound lengths test c h.0 fits h.1 in (h.0.0, h.0.1, f.cut, f.tag, k)
          | inr k ↦ fine_not (k.0, h.0.1) k.2
        ]
      ]

  chosen_deep : (read : Part → Result Value Fault) (c : List ℕ) → IsBytes c → chosen_by lengths read c ≡ deep → (p : Part) × (rest : List ℕ) × Cut lengths c p rest × (read p ≡ deep)
  unfolding chosen_by
  chosen_deep read c fits e =
      elim (bound_deep (part_at lengths c) (λ x. read x.0 >>= λ v. fine (v, x.1)) e) [
        | inl h ↦ part_not c h
        | inr h ↦ elim (bound_deep (read h.0.0) (λ v. fine (v, h.0.1)) h.2) [
          | inl k ↦ (h.0.0, h.0.1, part_sound lengths c h.0 fits h.1, k)
          | inr k ↦ fine_not (k.0, h.0.1) k.2
        ]
      ]

  optional_deep : (test : Tag → Bool) (read : Part → Result Value Fault) (c : List ℕ) → IsBytes c → optional_by lengths test read c ≡ deep
      → (p : Part) × (rest : List ℕ) × Cut lengths c p rest × (test p.tag ≡ true) × (read p ≡ deep)
  unfolding optional_by
  optional_deep test read c fits e =
      elim (bound_deep (optional_part lengths test c) (λ y. read_slot read y.0 >>= λ v. fine (v, y.1)) e) [
        | inl h ↦ optional_not test c h
        | inr h ↦ elim (bound_deep (read_slot read h.0.0) (λ v. fine (v, h.0.1)) h.2) [
          | inl k ↦ by_found (optional_found lengths test c h.0 fits h.1) k
          | inr k ↦ fine_not (k.0, h.0.1) k.2
        ]
      ]
    where
      by_found : {y : Option Part × List ℕ} → ((y ≡ (None, c)) × (is_ahead test c ≡ false)) ⊎ ((q : Part) × (rest : List ℕ) × Cut lengths c q rest × (test q.tag ≡ true) × (y ≡ (Some q, rest)))
          → read_slot read y.0 ≡ deep → (p : Part) × (rest : List ℕ) × Cut lengths c p rest × (test p.tag ≡ true) × (read p ≡ deep)
      by_found (inl (is, t)) e = fine_not missing (ap (λ (z : Option Part × List ℕ). read_slot read z.0) (sym is) ∙ e)
      by_found (inr (q, rest, cut, t, is)) e =
          elim (bound_deep (read q) (λ v. fine (given v)) (ap (λ (z : Option Part × List ℕ). read_slot read z.0) (sym is) ∙ e)) [ inl h ↦ (q, rest, cut, t, h) | inr h ↦ fine_not (given h.0) h.2 ]

  members_deep : (m : Member) (take : List ℕ → Result (Value × List ℕ) Fault) → ((c : List ℕ) (x : Value × List ℕ) → IsBytes c → take c ≡ Ok x → Taken lengths (IsMember lengths m) c x)
      → ((c : List ℕ) → IsBytes c → take c ≡ deep → (p : Part) × (rest : List ℕ) × Cut lengths c p rest × IsMemberTooDeep lengths m p)
      → (test : ℕ → Bool) (k : ℕ) (c : List ℕ) → IsBytes c → members_by take k c ≡ deep → IsTooDeep lengths (list_of test m) c
  unfolding members_by
  members_deep m take each ends test zero c fits e =
      elim (bound_deep (at_end c) (λ _. fine []) e) [ inl h ↦ end_not c h | inr h ↦ fine_not [] h.2 ]
  members_deep m take each ends test (suc k) [] fits e = fine_not [] e
  members_deep m take each ends test (suc k) (a ∷ more) fits e =
      elim (bound_deep (take (a ∷ more)) (λ x. members_by take k x.1 >>= λ ws. fine (x.0 ∷ ws)) e) [
        | inl h ↦ let d = ends (a ∷ more) fits h in ([], [], [], a ∷ more, d.0, d.1, refl, refl, tt, begins_with (a ∷ more) d.0 d.1 d.2, d.3)
        | inr h ↦
            let t = each (a ∷ more) h.0 fits h.1 in
            elim (bound_deep (members_by take k h.0.1) (λ ws. fine (h.0.0 ∷ ws)) h.2) [
              | inl i ↦
                  let d = members_deep m take each ends test k h.0.1 t.cut.rest_fits i in (
                    t.cut.first ++ d.0,
                    t.part ∷ d.1,
                    h.0.0 ∷ d.2,
                    d.3,
                    d.4,
                    d.5,
                    t.cut.parts ∙ ap (λ (o : List ℕ). t.cut.first ++ o) d.6 ∙ sym (append_assoc t.cut.first d.0 d.3),
                    (t.cut.first, d.0, t.cut.is, refl, d.7),
                    (t.holds, d.8),
                    d.9,
                    d.10,
                  )
              | inr i ↦ fine_not (h.0.0 ∷ i.0) i.2
            ]
      ]

  optional_goes_on : (m : Member) (cs : Components) (c : List ℕ) (s : Slot) (rest : List ℕ) → OptionalSound lengths m c (s, rest) → IsPartTooDeep lengths cs rest → IsPartTooDeep lengths (optional m cs) c
  optional_goes_on m cs c (given v) rest found after = inl (found.0, rest, begins_with c found.0 rest found.1, found.2, inr (v, found.3, after))
  optional_goes_on m cs c missing rest found after = inr (found.1, subst (λ (o : List ℕ). IsPartTooDeep lengths cs o) found.0 after)

  elements_not : {P : Type 0} (c : List ℕ) → elements_at lengths c ≡ deep → P
  unfolding elements_at chosen_by
  elements_not c e =
      elim (bound_deep (members_by (chosen_by lengths (λ _. fine nothing)) (length c) c) (λ _. fine tt) e) [
        | inl h ↦ members_not (chosen_by lengths (λ _. fine nothing)) one_not (length c) c h
        | inr h ↦ fine_not tt h.2
      ]
    where
      one_not : {P : Type 0} (c : List ℕ) → chosen_by lengths (λ _. fine nothing) c ≡ deep → P
      one_not c e =
          elim (bound_deep (part_at lengths c) (λ x. fine nothing >>= λ v. fine (v, x.1)) e) [ inl h ↦ part_not c h | inr h ↦ fine_not (nothing, h.0.1) h.2 ]

  mutual
    -- What is read as too deep nests too deep.
    pub reading_deep : (f : Form) (c : List ℕ) → IsBytes c → reading lengths f c ≡ deep → IsTooDeep lengths f c
    reading_deep null c fits e = elim (bound_deep (at_end c) (λ _. fine nothing) e) [ inl h ↦ end_not c h | inr h ↦ fine_not nothing h.2 ]
    reading_deep boolean c fits e = elim (bound_deep (well (boolean_at c)) (λ b. fine (truth b)) e) [ inl h ↦ well_not (boolean_at c) h | inr h ↦ fine_not (truth h.0) h.2 ]
    reading_deep (integer low high) c fits e = elim (bound_deep (integer_in low high c) (λ n. fine (number n)) e) [ inl h ↦ integer_not low high c h | inr h ↦ fine_not (number h.0) h.2 ]
    reading_deep bit_string c fits e = elim (bound_deep (bits_in c) (λ b. fine (bits b.0 (cleared b.0 b.1))) e) [ inl h ↦ bits_not c h | inr h ↦ fine_not (bits h.0.0 (cleared h.0.0 h.0.1)) h.2 ]
    reading_deep (named_bits n) c fits e =
        elim (bound_deep (bits_in c) (λ b. fine (bits (unused_for n) (first_bits n b.0 b.1))) e) [ inl h ↦ bits_not c h | inr h ↦ fine_not (bits (unused_for n) (first_bits n h.0.0 h.0.1)) h.2 ]
    reading_deep (octet_string test) c fits e = guard_not (test c) (text c) e
    reading_deep (sequence cs) c fits e = elim (bound_deep (components lengths cs c) (λ vs. fine (parts vs)) e) [ inl h ↦ components_deep cs c fits h | inr h ↦ fine_not (parts h.0) h.2 ]
    reading_deep (choice others) c fits e =
        elim (bound_deep (chosen_by lengths (alternatives lengths others) c) (λ x. at_end x.1 >>= λ _. fine x.0) e) [
          | inl h ↦ let d = chosen_deep (alternatives lengths others) c fits h in (d.0, d.1, begins_with c d.0 d.1 d.2, alternatives_deep others d.0 d.2.inner_fits d.3)
          | inr h ↦ elim (bound_deep (at_end h.0.1) (λ _. fine h.0.0) h.2) [ inl k ↦ end_not h.0.1 k | inr k ↦ fine_not h.0.0 k.2 ]
        ]
    reading_deep (list_of test m) c fits e =
        elim (bound_deep (members_by (required_at lengths m) (length c) c) (counted test) e) [
          | inl h ↦ members_deep m (required_at lengths m) (member_sound lengths m) (member_ends m) test (length c) c fits h
          | inr h ↦ guard_not (test (length h.0)) (parts (all_of h.0)) h.2
        ]
    reading_deep (such_that test f) c fits e =
        elim (bound_deep (reading lengths f c) (λ w. cond (test w) (fine w) (wrong fault.malformed)) e) [ inl h ↦ reading_deep f c fits h | inr h ↦ guard_not (test h.0) h.0 h.2 ]
    reading_deep (opaque constructed) c fits e = fine_not (text c) e
    reading_deep elements c fits e = elim (bound_deep (elements_at lengths c) (λ _. fine nothing) e) [ inl h ↦ elements_not c h | inr h ↦ fine_not nothing h.2 ]
    reading_deep too_deep c fits e = tt

    alternatives_deep : (others : Alternatives) (p : Part) → IsBytes p.contents → alternatives lengths others p ≡ deep → IsAlternativeTooDeep lengths others p
    alternatives_deep no_other p fits e = absurd cc
    alternatives_deep (or n f others) p fits e =
        by_tag_deep (is_tag 2 (is_constructed f) n p.tag) (reading lengths f p.contents) n (alternatives lengths others p) e (IsTooDeep lengths f p.contents) (IsAlternativeTooDeep lengths others p)
        (λ h. reading_deep f p.contents fits h) (λ h. alternatives_deep others p fits h)

    member_ends : (m : Member) (c : List ℕ) → IsBytes c → required_at lengths m c ≡ deep → (p : Part) × (rest : List ℕ) × Cut lengths c p rest × IsMemberTooDeep lengths m p
    member_ends (tagged class n f) c fits e =
        let d = required_deep (is_tag class (is_constructed f) n) (reading lengths f) c fits e in (d.0, d.1, d.2, (d.3, reading_deep f d.0.contents d.2.inner_fits d.4))
    member_ends (one_of others) c fits e =
        let d = chosen_deep (alternatives lengths others) c fits e in (d.0, d.1, d.2, alternatives_deep others d.0 d.2.inner_fits d.3)

    optional_ends : (m : Member) (c : List ℕ) → IsBytes c → optional_at lengths m c ≡ deep → (p : Part) × (rest : List ℕ) × Cut lengths c p rest × (begins m p.tag ≡ true) × IsMemberTooDeep lengths m p
    optional_ends (tagged class n f) c fits e =
        let d = optional_deep (is_tag class (is_constructed f) n) (λ p. reading lengths f p.contents) c fits e in (d.0, d.1, d.2, d.3, (d.3, reading_deep f d.0.contents d.2.inner_fits d.4))
    optional_ends (one_of others) c fits e =
        let d = optional_deep (has_tag others) (alternatives lengths others) c fits e in (d.0, d.1, d.2, d.3, alternatives_deep others d.0 d.2.inner_fits d.4)

    components_deep : (cs : Components) (c : List ℕ) → IsBytes c → components lengths cs c ≡ deep → IsPartTooDeep lengths cs c
    components_deep no_more c fits e = elim (bound_deep (at_end c) (λ _. fine done) e) [ inl h ↦ end_not c h | inr h ↦ fine_not done h.2 ]
    components_deep any_more c fits e = elim (bound_deep (elements_at lengths c) (λ _. fine done) e) [ inl h ↦ elements_not c h | inr h ↦ fine_not done h.2 ]
    components_deep (required m cs) c fits e =
        elim (bound_deep (required_at lengths m c) (λ x. components lengths cs x.1 >>= λ ws. fine (slot (given x.0) ws)) e) [
          | inl h ↦ let d = member_ends m c fits h in (d.0, d.1, begins_with c d.0 d.1 d.2, inl d.3)
          | inr h ↦
              let t = member_sound lengths m c h.0 fits h.1 in
              elim (bound_deep (components lengths cs h.0.1) (λ ws. fine (slot (given h.0.0) ws)) h.2) [
                | inl k ↦ (t.part, h.0.1, begins_with c t.part h.0.1 t.cut, inr (h.0.0, t.holds, components_deep cs h.0.1 t.cut.rest_fits k))
                | inr k ↦ fine_not (slot (given h.0.0) k.0) k.2
              ]
        ]
    components_deep (optional m cs) c fits e =
        elim (bound_deep (optional_at lengths m c) (λ x. components lengths cs x.1 >>= λ ws. fine (slot x.0 ws)) e) [
          | inl h ↦ let d = optional_ends m c fits h in inl (d.0, d.1, begins_with c d.0 d.1 d.2, d.3, inl d.4)
          | inr h ↦
              let o = optional_sound lengths m c h.0 fits h.1 in
              elim (bound_deep (components lengths cs h.0.1) (λ ws. fine (slot h.0.0 ws)) h.2) [
                | inl k ↦ optional_goes_on m cs c h.0.0 h.0.1 o (components_deep cs h.0.1 (optional_fits lengths m c h.0 fits o) k)
                | inr k ↦ fine_not (slot h.0.0 k.0) k.2
              ]
        ]
    components_deep (defaulted w m d cs) c fits e =
        elim (bound_deep (defaulting d (optional_at lengths m c)) (λ x. components lengths cs x.1 >>= λ ws. fine (slot x.0 ws)) e) [
          | inl h ↦ let g = optional_ends m c fits (defaulting_deep d (optional_at lengths m c) h) in inl (g.0, g.1, begins_with c g.0 g.1 g.2, g.3, inl g.4)
          | inr h ↦
              let z = defaulting_is d (optional_at lengths m c) h.0 h.1 in
              let o = optional_sound lengths m c z.0 fits z.1 in
              elim (bound_deep (components lengths cs h.0.1) (λ ws. fine (slot h.0.0 ws)) h.2) [
                | inl k ↦ optional_goes_on m cs c z.0.0 z.0.1 o (components_deep cs z.0.1 (optional_fits lengths m c z.0 fits o) (ap (λ (q : Slot × List ℕ). components lengths cs q.1) z.2 ∙ k))
                | inr k ↦ fine_not (slot h.0.0 k.0) k.2
              ]
        ]
    components_deep (skipped m cs) c fits e =
        elim (bound_deep (optional_at lengths m c) (λ x. components lengths cs x.1) e) [
          | inl h ↦ let g = optional_ends m c fits h in inl (g.0, g.1, begins_with c g.0 g.1 g.2, g.3, inl g.4)
          | inr h ↦
              let o = optional_sound lengths m c h.0 fits h.1 in
              optional_goes_on m cs c h.0.0 h.0.1 o (components_deep cs h.0.1 (optional_fits lengths m c h.0 fits o) h.2)
        ]
