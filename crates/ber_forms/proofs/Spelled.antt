-- What is spelled is of the form, and says the value.
use Rattle.std.proofs.Common.{◌≡◌, ℕ, ◌^◌, ◌<◌, ℤ, pos, negsuc, ◌≤ℤ◌, ◌⊎◌, inl, inr, Bool, true, false, not, cond, ltb, eqb, ◌&&◌, List, [], ◌∷◌, ◌++◌, length, take, replicate, refl, sym, ap, subst, ◌∙◌, arith, lit<}
use Rattle.ber_core.specs.declared.element.Lengths.{Lengths}
use Rattle.std.specs.Prelude.{MatchBool, int_le}
use Rattle.std.specs.Ordering.{int_eq}
use Rattle.std.proofs.lemmas.List.{length-append, take_at}
use Rattle.std.proofs.lemmas.Int.{ints}
use Rattle.std.proofs.lemmas.Bool.Decides.{Decides-int_eq}
use Rattle.std.proofs.lemmas.Bool.{ltb-true, eqb-true, eqb-false, eq-eqb, ne_eqb}
use Rattle.ber_core.specs.declared.element.Tag.{Tag}
use Rattle.ber_core.specs.Part.{Part}
use Rattle.ber_core.specs.Element.{IsElement, IsCut}
use Rattle.ber_core.specs.Leaf.{IsBoolean, IsBits}
use Rattle.ber_core.specs.Spelling.{element_octets}
use Rattle.ber_core.proofs.Spelled.{FitsLong, integer_spelled, element_spelled, contents_shorter}
use Rattle.ber_forms.specs.Value.{Value, Slots, nothing, truth, number, bits, text, chosen, parts, missing, given, done, slot, all_of}
use Rattle.ber_forms.specs.ByNumber.{has_number}
use Rattle.ber_forms.specs.Form.{Form, Member, Alternatives, Components, AtDefault, left_out, written, null, boolean, integer, bit_string, named_bits, octet_string, sequence, choice, list_of, such_that, opaque, elements, tagged, one_of, no_other, or, no_more, any_more, required, optional, defaulted, skipped}
use Rattle.ber_forms.specs.Reading.{is_constructed, same_form, is_tag, has_tag}
use Rattle.ber_forms.specs.InForm.{begins, AreMembers, InForm, IsMember, IsAlternative, AreComponents}
use Rattle.ber_forms.specs.Spelling.{tag_of, same_bool, is_default, truth_octet, each_octets, spelling, member_octets, alternative_octets, component_octets}
use Rattle.ber_forms.specs.Bits.{cleared, octets_for, unused_for, first_bits}
use Rattle.ber_forms.proofs.Joined.{joined}
use Rattle.ber_forms.specs.Fits.{alternative_tags, tags_of, first_tags, apart, is_sound, sound_member, sound_alternatives, sound_components, can_be_default, Every, AreUnused, Fits, FitsMember, FitsOne, FitsAll}

both : (a b : Bool) → a && b ≡ true → (a ≡ true) × (b ≡ true)
both true b e = (refl, e)
both false b e = absurd cc

abbrev IsIn : Tag → List Tag → Type 0
IsIn t [] = ⊥
IsIn t (u ∷ us) = (t ≡ u) ⊎ IsIn t us

in_left : (t : Tag) (us ws : List Tag) → IsIn t us → IsIn t (us ++ ws)
in_left t [] ws h = absurd h
in_left t (u ∷ us) ws (inl e) = inl e
in_left t (u ∷ us) ws (inr h) = inr (in_left t us ws h)

in_right : (t : Tag) (us ws : List Tag) → IsIn t ws → IsIn t (us ++ ws)
in_right t [] ws h = h
in_right t (u ∷ us) ws h = inr (in_right t us ws h)

not_true : (b : Bool) → not b ≡ true → b ≡ false
not_true true e = absurd cc
not_true false e = refl

apart_from : (m : Member) (t : Tag) (ts : List Tag) → apart m ts ≡ true → IsIn t ts → begins m t ≡ false
apart_from m t [] e h = absurd h
apart_from m t (u ∷ us) e (inl is) = ap (λ (w : Tag). begins m w) is ∙ not_true (begins m u) (both (not (begins m u)) (apart m us) e).0
apart_from m t (u ∷ us) e (inr h) = apart_from m t us (both (not (begins m u)) (apart m us) e).1 h

same_form_itself : (b : Bool) → same_form b b ≡ true
same_form_itself true = refl
same_form_itself false = refl

own_tag : (class n : ℕ) (f : Form) → is_tag class (is_constructed f) n (tag_of class n f) ≡ true
own_tag class n f = rw (eq-eqb class class refl, same_form_itself (is_constructed f), eq-eqb n n refl) refl

other_number : (class n : ℕ) (b : Bool) (t : Tag) → (t.number ≡ n → ⊥) → is_tag class b n t ≡ false
other_number class n b t ne = last (eqb t.class class && same_form b t.constructed) (eqb t.number n) (ne_eqb t.number n ne)
  where
    last : (p q : Bool) → q ≡ false → p && q ≡ false
    last true q e = e
    last false q e = refl

-- an alternative begins with its tag
has_own : (others : Alternatives) (t : Tag) → IsIn t (alternative_tags others) → has_tag others t ≡ true
has_own no_other t h = absurd h
has_own (or n f others) t (inl is) = ap (λ (w : Tag). has_tag (or n f others) w) is ∙ ap (λ (b : Bool). cond b true (has_tag others (tag_of 2 n f))) (own_tag 2 n f)
has_own (or n f others) t (inr h) = either (is_tag 2 (is_constructed f) n t) (has_tag others t) (has_own others t h)
  where
    either : (b c : Bool) → c ≡ true → cond b true c ≡ true
    either true c e = refl
    either false c e = e

begins_own : (m : Member) (t : Tag) → IsIn t (tags_of m) → begins m t ≡ true
begins_own (tagged class n f) t (inl is) = ap (λ (w : Tag). is_tag class (is_constructed f) n w) is ∙ own_tag class n f
begins_own (tagged class n f) t (inr h) = absurd h
begins_own (one_of others) t h = has_own others t h

abbrev HasNumber : Value → Tag → Type 0
HasNumber (chosen k w) t = t.number ≡ k
HasNumber v t = ⊥

abbrev StartsIn : List Part → List Tag → Type 0
StartsIn [] ts = Unit {0}
StartsIn (p ∷ ps) ts = IsIn p.tag ts

if_true : (P Q : Type 0) (b : Bool) → b ≡ true → P → MatchBool b P Q
if_true P Q true e h = h
if_true P Q false e h = absurd cc

if_false : (P Q : Type 0) (b : Bool) → b ≡ false → Q → MatchBool b P Q
if_false P Q true e h = absurd cc
if_false P Q false e h = h

same_bool_is : (b d : Bool) → same_bool b d ≡ true → b ≡ d
same_bool_is true d e = sym e
same_bool_is false true e = absurd cc
same_bool_is false false e = refl

int_eq_is : (n m : ℤ) → int_eq n m ≡ true → n ≡ m
int_eq_is n m e = (Decides-int_eq n m).0 e

default_is : (v d : Value) → is_default v d ≡ true → v ≡ d
default_is (number n) (number m) e = ap number (int_eq_is n m e)
default_is (truth b) (truth d) e = ap truth (same_bool_is b d e)
default_is v d e = absurd cc

fits_long : (low high n : ℤ) → int_le (negsuc 9223372036854775807) low ≡ true → int_le high (pos 9223372036854775807) ≡ true → low ≤ℤ n → n ≤ℤ high → FitsLong n
fits_long low high (pos n) l h a b = grind (arith, ints)
fits_long low high (negsuc n) l h a b = grind (arith, ints)

boolean_spelled : (b : Bool) → IsBoolean (truth_octet b ∷ []) b
boolean_spelled true = refl
boolean_spelled false = refl

bits_spelled : (u : ℕ) (octets : List ℕ) → AreUnused u octets → IsBits (u ∷ octets) u octets
bits_spelled u [] h = (h, h, refl)
bits_spelled u (a ∷ rest) h = (h, refl, refl)

named_unused : (n u : ℕ) (octets : List ℕ) → u ≡ unused_for n → length octets ≡ octets_for n → AreUnused u octets
named_unused n u [] is few = omega (arith, is, few)
named_unused n u (a ∷ rest) is few = omega (arith, is)

first_bits_are : (n u : ℕ) (octets : List ℕ) → u ≡ unused_for n → length octets ≡ octets_for n → cleared u octets ≡ octets → first_bits n u octets ≡ octets
unfolding first_bits
first_bits_are n u octets is few clear =
    ap (λ (o : List ℕ). cleared (unused_for n) (take (octets_for n) (o ++ replicate (octets_for n) 0))) clear
    ∙ ap (cleared (unused_for n)) (take_at octets (replicate (octets_for n) 0) (octets_for n) few)
    ∙ ap (λ (k : ℕ). cleared k octets) (sym is) ∙ clear

module _ (lengths : Lengths) where
  record SpelledOne (others : Alternatives) (o : List ℕ) (v : Value) : Type 0 where
    pub part : Part
    pub is : IsElement lengths o part
    pub holds : IsAlternative lengths others part v
    pub tag : IsIn part.tag (alternative_tags others)
    pub numbered : HasNumber v part.tag

  pub record SpelledMember (m : Member) (o : List ℕ) (v : Value) : Type 0 where
    pub part : Part
    pub is : IsElement lengths o part
    pub holds : IsMember lengths m part v
    pub tag : IsIn part.tag (tags_of m)

  record SpelledAll (cs : Components) (o : List ℕ) (vs : Slots) : Type 0 where
    pub list : List Part
    pub cut : IsCut lengths o list
    pub are : AreComponents lengths cs list vs
    pub starts : StartsIn list (first_tags cs)

  members_spelled : (R : Part → Value → Type 0) (F : Value → Type 0) (spell : Value → List ℕ)
      → ((v : Value) → F v → length (spell v) < 2 ^ 64 → (p : Part) × IsElement lengths (spell v) p × R p v)
      → (ws : List Value) → Every F ws → length (each_octets spell (all_of ws)) < 2 ^ 64 → (ps : List Part) × IsCut lengths (each_octets spell (all_of ws)) ps × AreMembers R ps ws
  members_spelled R F spell each [] fits room = ([], refl, tt)
  members_spelled R F spell each (v ∷ ws) fits room =
      let len = length-append (spell v) (each_octets spell (all_of ws)) in
      let first = each v fits.0 (omega (arith, room, len)) in
      let rest = members_spelled R F spell each ws fits.1 (omega (arith, room, len)) in
      (first.0 ∷ rest.0, (spell v, each_octets spell (all_of ws), first.1, refl, rest.1), (first.2, rest.2))

  -- one component more
  with_required : (m : Member) (cs : Components) (v : Value) (vs : Slots) (o : List ℕ) → SpelledMember m (member_octets m v) v → SpelledAll cs o vs → SpelledAll (required m cs) (member_octets m v ++ o) (slot (given v) vs)
  with_required m cs v vs o first others = record {
    list = first.part ∷ others.list;
    cut = (member_octets m v, o, first.is, refl, others.cut);
    are = (first.holds, others.are);
    starts = first.tag;
  }

  with_optional : (m : Member) (cs : Components) (v : Value) (vs : Slots) (o : List ℕ) → SpelledMember m (member_octets m v) v → SpelledAll cs o vs → SpelledAll (optional m cs) (member_octets m v ++ o) (slot (given v) vs)
  with_optional m cs v vs o first others = record {
    list = first.part ∷ others.list;
    cut = (member_octets m v, o, first.is, refl, others.cut);
    are = (begins_own m first.part.tag first.tag, first.holds, others.are);
    starts = in_left first.part.tag (tags_of m) (first_tags cs) first.tag;
  }

  without_optional : (m : Member) (cs : Components) (vs : Slots) (o : List ℕ) → apart m (first_tags cs) ≡ true → SpelledAll cs o vs → SpelledAll (optional m cs) o (slot missing vs)
  without_optional m cs vs o told others = by_list others.list others.cut others.are others.starts
    where
      by_list : (ps : List Part) → IsCut lengths o ps → AreComponents lengths cs ps vs → StartsIn ps (first_tags cs) → SpelledAll (optional m cs) o (slot missing vs)
      by_list [] cut are starts = record { list = []; cut = cut; are = are; starts = tt }
      by_list (p ∷ ps) cut are starts = record { list = p ∷ ps; cut = cut; are = (apart_from m p.tag (first_tags cs) told starts, are); starts = in_right p.tag (tags_of m) (first_tags cs) starts }

  without_skipped : (m : Member) (cs : Components) (vs : Slots) (o : List ℕ) → apart m (first_tags cs) ≡ true → SpelledAll cs o vs → SpelledAll (skipped m cs) o vs
  without_skipped m cs vs o told others = by_list others.list others.cut others.are others.starts
    where
      by_list : (ps : List Part) → IsCut lengths o ps → AreComponents lengths cs ps vs → StartsIn ps (first_tags cs) → SpelledAll (skipped m cs) o vs
      by_list [] cut are starts = record { list = []; cut = cut; are = are; starts = tt }
      by_list (p ∷ ps) cut are starts = record { list = p ∷ ps; cut = cut; are = if_false _ _ (begins m p.tag) (apart_from m p.tag (first_tags cs) told starts) are; starts = in_right p.tag (tags_of m) (first_tags cs) starts }

  with_defaulted : (w : AtDefault) (m : Member) (d : Value) (cs : Components) (v : Value) (vs : Slots) (o : List ℕ) → SpelledMember m (member_octets m v) v → SpelledAll cs o vs → SpelledAll (defaulted w m d cs) (member_octets m v ++ o) (slot (given v) vs)
  with_defaulted w m d cs v vs o first others = record {
    list = first.part ∷ others.list;
    cut = (member_octets m v, o, first.is, refl, others.cut);
    are = if_true _ _ (begins m first.part.tag) (begins_own m first.part.tag first.tag) (first.holds, others.are);
    starts = in_left first.part.tag (tags_of m) (first_tags cs) first.tag;
  }

  without_defaulted : (w : AtDefault) (m : Member) (d : Value) (cs : Components) (v : Value) (vs : Slots) (o : List ℕ) → v ≡ d → apart m (first_tags cs) ≡ true → SpelledAll cs o vs → SpelledAll (defaulted w m d cs) o (slot (given v) vs)
  without_defaulted w m d cs v vs o is told others = by_list others.list others.cut others.are others.starts
    where
      by_list : (ps : List Part) → IsCut lengths o ps → AreComponents lengths cs ps vs → StartsIn ps (first_tags cs) → SpelledAll (defaulted w m d cs) o (slot (given v) vs)
      by_list [] cut are starts = record { list = []; cut = cut; are = (is, are); starts = tt }
      by_list (p ∷ ps) cut are starts = record { list = p ∷ ps; cut = cut; are = if_false _ _ (begins m p.tag) (apart_from m p.tag (first_tags cs) told starts) (is, are); starts = in_right p.tag (tags_of m) (first_tags cs) starts }

  defaulted_either : (w : AtDefault) (m : Member) (d : Value) (cs : Components) (v : Value) (vs : Slots) (o : List ℕ) (b : Bool) → is_default v d ≡ b → apart m (first_tags cs) ≡ true
      → (b ≡ false → SpelledMember m (member_octets m v) v) → SpelledAll cs o vs → SpelledAll (defaulted w m d cs) (cond b [] (member_octets m v) ++ o) (slot (given v) vs)
  defaulted_either w m d cs v vs o true e told first others = without_defaulted w m d cs v vs o (default_is v d e) told others
  defaulted_either w m d cs v vs o false e told first others = with_defaulted w m d cs v vs o (first refl) others

  -- the alternative of that number, or a later one
  here : (n : ℕ) (f : Form) (others : Alternatives) (k : ℕ) (v : Value) → k ≡ n → n < 16384 → length (spelling f v) < 2 ^ 64 → InForm lengths f (spelling f v) v → SpelledOne (or n f others) (element_octets (tag_of 2 n f) (spelling f v)) (chosen k v)
  here n f others k v is small room inner = record {
    part = record { tag = tag_of 2 n f; contents = spelling f v };
    is = element_spelled lengths (tag_of 2 n f) (spelling f v) (lit< tt) small room;
    holds = if_true _ _ (is_tag 2 (is_constructed f) n (tag_of 2 n f)) (own_tag 2 n f) (v, inner, ap (λ (j : ℕ). chosen j v) is);
    tag = inl refl;
    numbered = sym is;
  }

  later : (n : ℕ) (f : Form) (others : Alternatives) (k : ℕ) (v : Value) (o : List ℕ) → (k ≡ n → ⊥) → SpelledOne others o (chosen k v) → SpelledOne (or n f others) o (chosen k v)
  later n f others k v o ne one = record {
    part = one.part;
    is = one.is;
    holds = if_false _ _ (is_tag 2 (is_constructed f) n one.part.tag) (other_number 2 n (is_constructed f) one.part.tag (λ e. ne (sym one.numbered ∙ e))) one.holds;
    tag = inr one.tag;
    numbered = one.numbered;
  }

  one_either : (n : ℕ) (f : Form) (others : Alternatives) (k : ℕ) (v : Value) (b : Bool) → eqb k n ≡ b → n < 16384
      → (Fits f v → length (spelling f v) < 2 ^ 64 → InForm lengths f (spelling f v) v) → (FitsOne others (chosen k v) → length (alternative_octets others (chosen k v)) < 2 ^ 64 → SpelledOne others (alternative_octets others (chosen k v)) (chosen k v))
      → MatchBool b (Fits f v) (FitsOne others (chosen k v)) → length (cond b (element_octets (tag_of 2 n f) (spelling f v)) (alternative_octets others (chosen k v))) < 2 ^ 64
      → SpelledOne (or n f others) (cond b (element_octets (tag_of 2 n f) (spelling f v)) (alternative_octets others (chosen k v))) (chosen k v)
  one_either n f others k v true e small inner outer fits room =
      let short : length (spelling f v) < 2 ^ 64 = omega (arith, room, contents_shorter (tag_of 2 n f) (spelling f v)) in
      here n f others k v (eqb-true _ _ e) small short (inner fits short)
  one_either n f others k v false e small inner outer fits room = later n f others k v (alternative_octets others (chosen k v)) (eqb-false _ _ e) (outer fits room)

  mutual
    -- What is spelled is of the form, and says the value.
    pub form_spelled : (f : Form) (v : Value) → is_sound f ≡ true → Fits f v → length (spelling f v) < 2 ^ 64 → InForm lengths f (spelling f v) v
    form_spelled null nothing told fits room = (refl, refl)
    form_spelled boolean (truth b) told fits room = (b, boolean_spelled b, refl)
    form_spelled (integer low high) (number n) told fits room =
        let t = both (int_le (negsuc 9223372036854775807) low) (int_le high (pos 9223372036854775807)) told in
        (n, integer_spelled n (fits_long low high n t.0 t.1 fits.0 fits.1), fits.0, fits.1, refl)
    form_spelled bit_string (bits u octets) told fits room = (u, octets, bits_spelled u octets fits.0, ap (λ (o : List ℕ). bits u o) (sym fits.1))
    form_spelled (named_bits n) (bits u octets) told fits room = (
      u,
      octets,
      bits_spelled u octets (named_unused n u octets fits.0 fits.1),
      ap (λ (k : ℕ). bits k octets) fits.0 ∙ ap (λ (o : List ℕ). bits (unused_for n) o) (sym (first_bits_are n u octets fits.0 fits.1 fits.2)),
    )
    form_spelled (octet_string test) (text octets) told fits room = (fits, refl)
    form_spelled (sequence cs) (parts vs) told fits room =
        let k = components_spelled cs vs told fits room in (k.list, vs, k.cut, k.are, refl)
    form_spelled (choice others) v told fits room =
        let k = one_spelled others v told fits room in (k.part, k.is, k.holds)
    form_spelled (list_of test m) (parts vs) told fits room =
        let ws = fits.0 in
        let k = members_spelled (IsMember lengths m) (FitsMember m) (member_octets m) (λ v h r. let s = member_spelled m v told h r in (s.part, s.is, s.holds)) ws fits.2
        (subst (λ (x : Slots). length (each_octets (member_octets m) x) < 2 ^ 64) fits.1 room) in
        (k.0, ws, subst (λ (x : Slots). IsCut lengths (each_octets (member_octets m) x) k.0) (sym fits.1) k.1, k.2, fits.3, ap parts fits.1)
    form_spelled (such_that test f) v told fits room = (form_spelled f v told fits.0 room, fits.1)
    form_spelled (opaque constructed) (text octets) told fits room = refl
    form_spelled elements nothing told fits room = ([], refl, refl)
    form_spelled f v told fits room = absurd fits

    one_spelled : (others : Alternatives) (v : Value) → sound_alternatives others ≡ true → FitsOne others v → length (alternative_octets others v) < 2 ^ 64 → SpelledOne others (alternative_octets others v) v
    one_spelled (or n f others) (chosen k v) told fits room =
        let t = both (ltb n 16384 && is_sound f) (sound_alternatives others) (both (ltb n 16384 && is_sound f && sound_alternatives others) (not (has_number others n)) told).0 in
        let u = both (ltb n 16384) (is_sound f) t.0 in
        one_either n f others k v (eqb k n) refl (ltb-true _ _ u.0) (λ h r. form_spelled f v u.1 h r) (λ h r. one_spelled others (chosen k v) t.1 h r) fits room
    one_spelled others v told fits room = absurd fits

    pub member_spelled : (m : Member) (v : Value) → sound_member m ≡ true → FitsMember m v → length (member_octets m v) < 2 ^ 64 → SpelledMember m (member_octets m v) v
    member_spelled (tagged class n f) v told fits room =
        let t = both (ltb class 4 && ltb n 16384) (is_sound f) told in
        let u = both (ltb class 4) (ltb n 16384) t.0 in
        let short : length (spelling f v) < 2 ^ 64 = omega (arith, room, contents_shorter (tag_of class n f) (spelling f v)) in
        record {
          part = record { tag = tag_of class n f; contents = spelling f v };
          is = element_spelled lengths (tag_of class n f) (spelling f v) (ltb-true _ _ u.0) (ltb-true _ _ u.1) short;
          holds = (own_tag class n f, form_spelled f v t.1 fits short);
          tag = inl refl;
        }
    member_spelled (one_of others) v told fits room =
        let k = one_spelled others v told fits room in record { part = k.part; is = k.is; holds = k.holds; tag = k.tag }

    components_spelled : (cs : Components) (vs : Slots) → sound_components cs ≡ true → FitsAll cs vs → length (component_octets cs vs []) < 2 ^ 64 → SpelledAll cs (component_octets cs vs []) vs
    components_spelled no_more done told fits room = record { list = []; cut = refl; are = tt; starts = tt }
    components_spelled any_more done told fits room = record { list = []; cut = refl; are = tt; starts = tt }
    components_spelled (skipped m cs) vs told fits room =
        let t = both (sound_member m && apart m (first_tags cs)) (sound_components cs) told in
        let u = both (sound_member m) (apart m (first_tags cs)) t.0 in
        without_skipped m cs vs (component_octets cs vs []) u.1 (components_spelled cs vs t.1 fits room)
    components_spelled (required m cs) (slot (given v) vs) told fits room =
        let t = both (sound_member m) (sound_components cs) told in
        let j = joined cs vs (member_octets m v) in
        let len = ap length j ∙ length-append (member_octets m v) (component_octets cs vs []) in
        subst (λ (o : List ℕ). SpelledAll (required m cs) o (slot (given v) vs)) (sym j)
        (with_required m cs v vs (component_octets cs vs []) (member_spelled m v t.0 fits.0 (omega (arith, room, len))) (components_spelled cs vs t.1 fits.1 (omega (arith, room, len))))
    components_spelled (optional m cs) (slot missing vs) told fits room =
        let t = both (sound_member m && apart m (first_tags cs)) (sound_components cs) told in
        let u = both (sound_member m) (apart m (first_tags cs)) t.0 in
        without_optional m cs vs (component_octets cs vs []) u.1 (components_spelled cs vs t.1 fits.1 room)
    components_spelled (optional m cs) (slot (given v) vs) told fits room =
        let t = both (sound_member m && apart m (first_tags cs)) (sound_components cs) told in
        let u = both (sound_member m) (apart m (first_tags cs)) t.0 in
        let j = joined cs vs (member_octets m v) in
        let len = ap length j ∙ length-append (member_octets m v) (component_octets cs vs []) in
        subst (λ (o : List ℕ). SpelledAll (optional m cs) o (slot (given v) vs)) (sym j)
        (with_optional m cs v vs (component_octets cs vs []) (member_spelled m v u.0 fits.0 (omega (arith, room, len))) (components_spelled cs vs t.1 fits.1 (omega (arith, room, len))))
    components_spelled (defaulted left_out m d cs) (slot (given v) vs) told fits room =
        let t = both (sound_member m && apart m (first_tags cs)) (sound_components cs) (both (sound_member m && apart m (first_tags cs) && sound_components cs) (can_be_default left_out d) told).0 in
        let u = both (sound_member m) (apart m (first_tags cs)) t.0 in
        let o = cond (is_default v d) [] (member_octets m v) in
        let j = joined cs vs o in
        let len = ap length j ∙ length-append o (component_octets cs vs []) in
        subst (λ (x : List ℕ). SpelledAll (defaulted left_out m d cs) x (slot (given v) vs)) (sym j)
        (defaulted_either left_out m d cs v vs (component_octets cs vs []) (is_default v d) refl u.1
        (λ e. member_spelled m v u.0 fits.0 (omega (arith, room, len, ap (λ (b : Bool). length (cond b [] (member_octets m v))) e))) (components_spelled cs vs t.1 fits.1 (omega (arith, room, len))))
    components_spelled (defaulted written m d cs) (slot (given v) vs) told fits room =
        let t = both (sound_member m && apart m (first_tags cs)) (sound_components cs) (both (sound_member m && apart m (first_tags cs) && sound_components cs) true told).0 in
        let u = both (sound_member m) (apart m (first_tags cs)) t.0 in
        let j = joined cs vs (member_octets m v) in
        let len = ap length j ∙ length-append (member_octets m v) (component_octets cs vs []) in
        subst (λ (o : List ℕ). SpelledAll (defaulted written m d cs) o (slot (given v) vs)) (sym j)
        (with_defaulted written m d cs v vs (component_octets cs vs []) (member_spelled m v u.0 fits.0 (omega (arith, room, len))) (components_spelled cs vs t.1 fits.1 (omega (arith, room, len))))
    components_spelled cs vs told fits room = absurd fits
