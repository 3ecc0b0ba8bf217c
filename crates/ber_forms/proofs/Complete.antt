-- What is of the form is read.
use Rattle.std.proofs.Common.{◌≡◌, ◌≢◌, ℕ, suc, ◌+◌, ◌-◌, ◌≤◌, ℤ, ◌≤ℤ◌, Bool, true, false, cond, ltb, eqb, ◌&&◌, List, [], ◌∷◌, ◌++◌, length, Some, Result, Ok, Err, refl, sym, ap, ◌∙◌, arith}
use Rattle.ber_core.specs.declared.element.Lengths.{Lengths}
use Rattle.std.specs.Prelude.{MatchBool, int_le}
use Rattle.std.proofs.lemmas.List.{length-append, append-nil}
use Rattle.std.proofs.lemmas.Bool.{eq-eqb, le-ltb}
use Rattle.ber_core.specs.declared.element.Tag.{Tag}
use Rattle.ber_core.specs.declared.fault.BerError.{BerError}
use Rattle.ber_core.specs.Part.{Part}
use Rattle.ber_core.specs.Element.{IsElement, IsCut}
use Rattle.ber_core.specs.Leaf.{boolean_at, bits_at, IsInteger, IsBoolean, IsBits}
use Rattle.ber_core.specs.Reading.{element_at}
use Rattle.ber_core.proofs.Elements.{element_again, element_long}
use Rattle.ber_core.proofs.Leaves.{integer_again}
use Rattle.ber_forms.specs.Fault.{Fault}
use Rattle.ber_forms.specs.Fault as fault
use Rattle.ber_forms.specs.Value.{Value, Slot, Slots, nothing, truth, number, bits, text, chosen, parts, missing, given, done, slot, all_of}
use Rattle.ber_forms.specs.Form.{Form, Member, Alternatives, Components, null, boolean, integer, bit_string, named_bits, octet_string, sequence, choice, list_of, such_that, opaque, elements, too_deep, tagged, one_of, no_other, or, no_more, any_more, required, optional, defaulted, skipped}
use Rattle.ber_forms.specs.Reading.{◌>>=◌, well, is_constructed, is_tag, has_tag, next_at, part_at, required_part, is_ahead, optional_part, integer_in, at_end, or_else, required_by, chosen_by, optional_by, defaulting, members_by, elements_at, counted, bits_in, reading, alternatives, required_at, optional_at, components}
use Rattle.ber_forms.specs.Bits.{cleared, first_bits, unused_for}
use Rattle.ber_forms.specs.InForm.{begins, AreMembers, InForm, IsMember, IsAlternative, AreComponents}
use Rattle.ber_forms.proofs.Loop.{step, nothing_left}
use Rattle.ber_forms.proofs.InFront.{none_ahead, ahead_is}

pub then_ok : {A B : Type 0} (r : Result A Fault) (f : A → Result B Fault) (x : A) (y : B) → r ≡ Ok x → f x ≡ Ok y → (r >>= f) ≡ Ok y
then_ok r f x y first second = ap (λ (s : Result _ Fault). s >>= f) first ∙ second

pub integer_complete : (low high : ℤ) (c : List ℕ) (n : ℤ) → IsInteger c n → low ≤ℤ n → n ≤ℤ high → integer_in low high c ≡ Ok n
unfolding integer_in
integer_complete low high c n h l u =
    let within : int_le low n && int_le n high ≡ true = grind arith in
    rw (integer_again c n h, within) refl

boolean_complete : (c : List ℕ) (b : Bool) → IsBoolean c b → boolean_at c ≡ Ok b
boolean_complete [] b h = absurd h
boolean_complete (a ∷ []) b h = ap (λ (x : Bool). Ok x) (sym h)
boolean_complete (a ∷ c ∷ rest) b h = absurd h

bits_complete : (c : List ℕ) (u : ℕ) (octets : List ℕ) → IsBits c u octets → bits_at c ≡ Ok (u, octets)
bits_complete [] u octets h = absurd h
bits_complete (a ∷ []) u octets h =
    let none : eqb a 0 ≡ true = eq-eqb _ _ h.0 in rw (none, h.1, h.2) refl
bits_complete (a ∷ b ∷ rest) u octets h =
    let few : ltb 7 a ≡ false = le-ltb _ _ h.0 in rw (few, h.1, h.2) refl

bits_in_complete : (c : List ℕ) (u : ℕ) (octets : List ℕ) → IsBits c u octets → bits_in c ≡ Ok (u, octets)
unfolding bits_in
bits_in_complete c u octets h = ap well (bits_complete c u octets h)

pub end_again : at_end [] ≡ Ok tt
unfolding at_end
end_again = refl

pub at_end_of : (c : List ℕ) → c ≡ [] → at_end c ≡ Ok tt
at_end_of c none = ap at_end none ∙ end_again

pub if_true : {A : Type 0} (b : Bool) (x y : A) → b ≡ true → cond b x y ≡ x
if_true true x y e = refl
if_true false x y e = absurd cc

by_tag_again : (b : Bool) (r : Result Value Fault) (n : ℕ) (q : Result Value Fault) (v : Value) (P : Value → Type 0) (Q : Type 0)
    → ((w : Value) → P w → r ≡ Ok w) → (Q → q ≡ Ok v) → MatchBool b ((w : Value) × P w × (v ≡ chosen n w)) Q → cond b (r >>= λ w. Ok (chosen n w)) q ≡ Ok v
by_tag_again true r n q v P Q here there h = then_ok r (λ w. Ok (chosen n w)) h.0 v (here h.0 h.1) (ap (λ (x : Value). Ok x) (sym h.2))
by_tag_again false r n q v P Q here there h = there h

defaulted_by : (b : Bool) (P Q C : Type 0) → MatchBool b P Q → (b ≡ true → P → C) → (b ≡ false → Q → C) → C
defaulted_by true P Q C h here there = here refl h
defaulted_by false P Q C h here there = there refl h

pub default_ok : (d : Value) (r : Result (Slot × List ℕ) Fault) (x : Slot × List ℕ) → r ≡ Ok x → defaulting d r ≡ Ok (or_else d x.0, x.1)
unfolding defaulting
default_ok d r x e = rw e refl

module _ (lengths : Lengths) where
  pub next_again : (octets first rest : List ℕ) (p : Part) → IsElement lengths first p → octets ≡ first ++ rest → next_at lengths octets ≡ Ok (Some (p, rest))
  unfolding next_at
  next_again [] first rest p is split = absurd (omega (arith, element_long lengths first p is, ap length split, length-append first rest))
  next_again (a ∷ more) first rest p is split =
      ap (λ (r : Result (Part × List ℕ) BerError). well r >>= λ x. Ok (Some x)) (ap (element_at lengths) split ∙ element_again lengths first p rest is)

  pub part_again : (octets first rest : List ℕ) (p : Part) → IsElement lengths first p → octets ≡ first ++ rest → part_at lengths octets ≡ Ok (p, rest)
  unfolding part_at
  part_again octets first rest p is split = rw (next_again octets first rest p is split) refl

  pub required_ok : (test : Tag → Bool) (read : List ℕ → Result Value Fault) (c : List ℕ) (p : Part) (rest : List ℕ) (v : Value) → part_at lengths c ≡ Ok (p, rest) → test p.tag ≡ true → read p.contents ≡ Ok v → required_by lengths test read c ≡ Ok (v, rest)
  unfolding required_by required_part
  required_ok test read c p rest v e t r = rw (e, t, r) refl

  pub chosen_again : (read : Part → Result Value Fault) (c : List ℕ) (p : Part) (rest : List ℕ) (v : Value) → part_at lengths c ≡ Ok (p, rest) → read p ≡ Ok v → chosen_by lengths read c ≡ Ok (v, rest)
  unfolding chosen_by
  chosen_again read c p rest v e r = rw (e, r) refl

  pub given_ok : (test : Tag → Bool) (read : Part → Result Value Fault) (c : List ℕ) (p : Part) (rest : List ℕ) (v : Value) → next_at lengths c ≡ Ok (Some (p, rest)) → test p.tag ≡ true → read p ≡ Ok v → optional_by lengths test read c ≡ Ok (given v, rest)
  unfolding optional_by optional_part part_at
  given_ok test read c p rest v e t r = rw (ahead_is lengths test c p rest e ∙ t, e, r) refl

  missing_ok : (test : Tag → Bool) (read : Part → Result Value Fault) (c : List ℕ) → is_ahead test c ≡ false → optional_by lengths test read c ≡ Ok (missing, c)
  unfolding optional_by optional_part
  missing_ok test read c t = rw t refl

  -- No such tag is in front, whatever follows.
  pub not_ahead : (m : Member) (c : List ℕ) → is_ahead (begins m) c ≡ false → optional_at lengths m c ≡ Ok (missing, c)
  not_ahead (tagged class n f) c t = missing_ok (is_tag class (is_constructed f) n) (λ p. reading lengths f p.contents) c t
  not_ahead (one_of others) c t = missing_ok (has_tag others) (alternatives lengths others) c t

  optional_missing_end : (m : Member) (c : List ℕ) → c ≡ [] → optional_at lengths m c ≡ Ok (missing, c)
  optional_missing_end m c none = not_ahead m c (ap (is_ahead (begins m)) none ∙ none_ahead (begins m))

  pub optional_missing : (m : Member) (c : List ℕ) (p : Part) (rest : List ℕ) → next_at lengths c ≡ Ok (Some (p, rest)) → begins m p.tag ≡ false → optional_at lengths m c ≡ Ok (missing, c)
  optional_missing m c p rest e t = not_ahead m c (ahead_is lengths (begins m) c p rest e ∙ t)

  members_complete : (R : Part → Value → Type 0) (take : List ℕ → Result (Value × List ℕ) Fault)
      → ((c first rest : List ℕ) (p : Part) (v : Value) → IsElement lengths first p → c ≡ first ++ rest → R p v → take c ≡ Ok (v, rest))
      → (ps : List Part) (k : ℕ) (c : List ℕ) (vs : List Value) → length c ≤ k → IsCut lengths c ps → AreMembers R ps vs → members_by take k c ≡ Ok vs
  members_complete R take each [] k c [] room cut are = ap (members_by take k) cut ∙ nothing_left take k
  members_complete R take each [] k c (v ∷ vs) room cut are = absurd are
  members_complete R take each (p ∷ ps) k c [] room cut are = absurd are
  members_complete R take each (p ∷ ps) k c (v ∷ vs) room cut are =
      let first = cut.0 in
      let rest = cut.1 in
      let long = element_long lengths first p cut.2 in
      let len : length c ≡ length first + length rest = ap length cut.3 ∙ length-append first rest in
      let some : c ≢ [] = λ none. absurd (omega (arith, long, len, ap length none)) in
      let k-is : k ≡ suc (k - 1) = omega (arith, long, len, room) in
      let others = members_complete R take each ps (k - 1) rest vs (omega (arith, long, len, room)) cut.4 are.1 in
      ap (λ (n : ℕ). members_by take n c) k-is ∙ step take (k - 1) c some
      ∙ then_ok (take c) (λ x. members_by take (k - 1) x.1 >>= λ ws. Ok (x.0 ∷ ws)) (v, rest) (v ∷ vs) (each c first rest p v cut.2 cut.3 are.0)
      (then_ok (members_by take (k - 1) rest) (λ ws. Ok (v ∷ ws)) vs (v ∷ vs) others refl)

  unkept : (ps : List Part) → (vs : List Value) × AreMembers (λ p v. v ≡ nothing) ps vs
  unkept [] = ([], tt)
  unkept (p ∷ ps) = let k = unkept ps in (nothing ∷ k.0, (refl, k.1))

  elements_complete : (c : List ℕ) (ps : List Part) → IsCut lengths c ps → elements_at lengths c ≡ Ok tt
  unfolding elements_at
  elements_complete c ps cut =
      let k = unkept ps in
      then_ok (members_by (chosen_by lengths (λ _. Ok nothing)) (length c) c) (λ _. Ok tt) k.0 tt
      (members_complete (λ p v. v ≡ nothing) (chosen_by lengths (λ _. Ok nothing)) (λ d first rest p v is split h. chosen_again (λ _. Ok nothing) d p rest v (part_again d first rest p is split) (ap (λ (x : Value). Ok x) (sym h))) ps (length c) c k.0 (omega arith) cut k.1)
      refl

  mutual
    -- What is of the form is read.
    pub reading_complete : (f : Form) (c : List ℕ) (v : Value) → InForm lengths f c v → reading lengths f c ≡ Ok v
    reading_complete null c v h = then_ok (at_end c) (λ _. Ok nothing) tt v (at_end_of c h.0) (ap (λ (x : Value). Ok x) (sym h.1))
    reading_complete boolean c v h = then_ok (well (boolean_at c)) (λ b. Ok (truth b)) h.0 v (ap well (boolean_complete c h.0 h.1)) (ap (λ (x : Value). Ok x) (sym h.2))
    reading_complete (integer low high) c v h = then_ok (integer_in low high c) (λ n. Ok (number n)) h.0 v (integer_complete low high c h.0 h.1 h.2 h.3) (ap (λ (x : Value). Ok x) (sym h.4))
    reading_complete bit_string c v h = then_ok (bits_in c) (λ b. Ok (bits b.0 (cleared b.0 b.1))) (h.0, h.1) v (bits_in_complete c h.0 h.1 h.2) (ap (λ (x : Value). Ok x) (sym h.3))
    reading_complete (named_bits n) c v h = then_ok (bits_in c) (λ b. Ok (bits (unused_for n) (first_bits n b.0 b.1))) (h.0, h.1) v (bits_in_complete c h.0 h.1 h.2) (ap (λ (x : Value). Ok x) (sym h.3))
    reading_complete (octet_string test) c v h = if_true (test c) (Ok (text c)) (Err fault.malformed) h.0 ∙ ap (λ (x : Value). Ok x) (sym h.1)
    reading_complete (sequence cs) c v h = then_ok (components lengths cs c) (λ vs. Ok (parts vs)) h.1 v (components_complete cs h.0 c h.1 h.2 h.3) (ap (λ (x : Value). Ok x) (sym h.4))
    reading_complete (choice others) c v h =
        then_ok (chosen_by lengths (alternatives lengths others) c) (λ x. at_end x.1 >>= λ _. Ok x.0) (v, []) v
        (chosen_again (alternatives lengths others) c h.0 [] v (part_again c c [] h.0 h.1 (sym (append-nil c))) (alternatives_complete others h.0 v h.2))
        (then_ok (at_end []) (λ _. Ok v) tt v end_again refl)
    reading_complete (list_of test m) c v h =
        then_ok (members_by (required_at lengths m) (length c) c) (counted test) h.1 v
        (members_complete (IsMember lengths m) (required_at lengths m) (member_complete m) h.0 (length c) c h.1 (omega arith) h.2 h.3)
        (if_true (test (length h.1)) (Ok (parts (all_of h.1))) (Err fault.malformed) h.4 ∙ ap (λ (x : Value). Ok x) (sym h.5))
    reading_complete (such_that test f) c v h = then_ok (reading lengths f c) (λ w. cond (test w) (Ok w) (Err fault.malformed)) v v (reading_complete f c v h.0) (if_true (test v) (Ok v) (Err fault.malformed) h.1)
    reading_complete (opaque constructed) c v h = ap (λ (x : Value). Ok x) (sym h)
    reading_complete elements c v h = then_ok (elements_at lengths c) (λ _. Ok nothing) tt v (elements_complete c h.0 h.1) (ap (λ (x : Value). Ok x) (sym h.2))
    reading_complete too_deep c v h = absurd h

    alternatives_complete : (others : Alternatives) (p : Part) (v : Value) → IsAlternative lengths others p v → alternatives lengths others p ≡ Ok v
    alternatives_complete no_other p v h = absurd h
    alternatives_complete (or n f others) p v h =
        by_tag_again (is_tag 2 (is_constructed f) n p.tag) (reading lengths f p.contents) n (alternatives lengths others p) v (InForm lengths f p.contents) (IsAlternative lengths others p v)
        (λ w k. reading_complete f p.contents w k) (λ k. alternatives_complete others p v k) h

    pub member_complete : (m : Member) (c first rest : List ℕ) (p : Part) (v : Value) → IsElement lengths first p → c ≡ first ++ rest → IsMember lengths m p v → required_at lengths m c ≡ Ok (v, rest)
    member_complete (tagged class n f) c first rest p v is split h =
        required_ok (is_tag class (is_constructed f) n) (reading lengths f) c p rest v (part_again c first rest p is split) h.0 (reading_complete f p.contents v h.1)
    member_complete (one_of others) c first rest p v is split h =
        chosen_again (alternatives lengths others) c p rest v (part_again c first rest p is split) (alternatives_complete others p v h)

    pub given_complete : (m : Member) (c first rest : List ℕ) (p : Part) (v : Value) → IsElement lengths first p → c ≡ first ++ rest → begins m p.tag ≡ true → IsMember lengths m p v → optional_at lengths m c ≡ Ok (given v, rest)
    given_complete (tagged class n f) c first rest p v is split t h =
        given_ok (is_tag class (is_constructed f) n) (λ q. reading lengths f q.contents) c p rest v (next_again c first rest p is split) t (reading_complete f p.contents v h.1)
    given_complete (one_of others) c first rest p v is split t h =
        given_ok (has_tag others) (alternatives lengths others) c p rest v (next_again c first rest p is split) t (alternatives_complete others p v h)

    components_complete : (cs : Components) (ps : List Part) (c : List ℕ) (vs : Slots) → IsCut lengths c ps → AreComponents lengths cs ps vs → components lengths cs c ≡ Ok vs
    components_complete no_more [] c done cut are = then_ok (at_end c) (λ _. Ok done) tt done (at_end_of c cut) refl
    components_complete no_more [] c (slot s vs) cut are = absurd are
    components_complete no_more (p ∷ ps) c vs cut are = absurd are
    components_complete any_more ps c done cut are = then_ok (elements_at lengths c) (λ _. Ok done) tt done (elements_complete c ps cut) refl
    components_complete any_more ps c (slot s vs) cut are = absurd are
    components_complete (required m cs) [] c vs cut are = absurd are
    components_complete (required m cs) (p ∷ ps) c done cut are = absurd are
    components_complete (required m cs) (p ∷ ps) c (slot missing vs) cut are = absurd are
    components_complete (required m cs) (p ∷ ps) c (slot (given v) vs) cut are =
        then_ok (required_at lengths m c) (λ x. components lengths cs x.1 >>= λ ws. Ok (slot (given x.0) ws)) (v, cut.1) (slot (given v) vs)
        (member_complete m c cut.0 cut.1 p v cut.2 cut.3 are.0)
        (then_ok (components lengths cs cut.1) (λ ws. Ok (slot (given v) ws)) vs (slot (given v) vs) (components_complete cs ps cut.1 vs cut.4 are.1) refl)
    components_complete (optional m cs) [] c done cut are = absurd are
    components_complete (optional m cs) [] c (slot (given v) vs) cut are = absurd are
    components_complete (optional m cs) [] c (slot missing vs) cut are =
        then_ok (optional_at lengths m c) (λ x. components lengths cs x.1 >>= λ ws. Ok (slot x.0 ws)) (missing, c) (slot missing vs) (optional_missing_end m c cut)
        (then_ok (components lengths cs c) (λ ws. Ok (slot missing ws)) vs (slot missing vs) (components_complete cs [] c vs cut are) refl)
    components_complete (optional m cs) (p ∷ ps) c done cut are = absurd are
    components_complete (optional m cs) (p ∷ ps) c (slot missing vs) cut are =
        then_ok (optional_at lengths m c) (λ x. components lengths cs x.1 >>= λ ws. Ok (slot x.0 ws)) (missing, c) (slot missing vs) (optional_missing m c p cut.1 (next_again c cut.0 cut.1 p cut.2 cut.3) are.0)
        (then_ok (components lengths cs c) (λ ws. Ok (slot missing ws)) vs (slot missing vs) (components_complete cs (p ∷ ps) c vs cut are.1) refl)
    components_complete (optional m cs) (p ∷ ps) c (slot (given v) vs) cut are =
        then_ok (optional_at lengths m c) (λ x. components lengths cs x.1 >>= λ ws. Ok (slot x.0 ws)) (given v, cut.1) (slot (given v) vs)
        (given_complete m c cut.0 cut.1 p v cut.2 cut.3 are.0 are.1)
        (then_ok (components lengths cs cut.1) (λ ws. Ok (slot (given v) ws)) vs (slot (given v) vs) (components_complete cs ps cut.1 vs cut.4 are.2) refl)
    components_complete (defaulted w m d cs) [] c done cut are = absurd are
    components_complete (defaulted w m d cs) [] c (slot missing vs) cut are = absurd are
    components_complete (defaulted w m d cs) [] c (slot (given v) vs) cut are =
        then_ok (defaulting d (optional_at lengths m c)) (λ x. components lengths cs x.1 >>= λ ws. Ok (slot x.0 ws)) (given d, c) (slot (given v) vs) (default_ok d (optional_at lengths m c) (missing, c) (optional_missing_end m c cut))
        (then_ok (components lengths cs c) (λ ws. Ok (slot (given d) ws)) vs (slot (given v) vs) (components_complete cs [] c vs cut are.1) (ap (λ (w : Value). Ok (slot (given w) vs)) (sym are.0)))
    components_complete (defaulted w m d cs) (p ∷ ps) c done cut are = absurd are
    components_complete (defaulted w m d cs) (p ∷ ps) c (slot missing vs) cut are = absurd are
    components_complete (defaulted w m d cs) (p ∷ ps) c (slot (given v) vs) cut are =
        defaulted_by (begins m p.tag) (IsMember lengths m p v × AreComponents lengths cs ps vs) ((v ≡ d) × AreComponents lengths cs (p ∷ ps) vs) (components lengths (defaulted w m d cs) c ≡ Ok (slot (given v) vs)) are
        (λ t h. then_ok (defaulting d (optional_at lengths m c)) (λ x. components lengths cs x.1 >>= λ ws. Ok (slot x.0 ws)) (given v, cut.1) (slot (given v) vs)
        (default_ok d (optional_at lengths m c) (given v, cut.1) (given_complete m c cut.0 cut.1 p v cut.2 cut.3 t h.0))
        (then_ok (components lengths cs cut.1) (λ ws. Ok (slot (given v) ws)) vs (slot (given v) vs) (components_complete cs ps cut.1 vs cut.4 h.1) refl))
        (λ t h. then_ok (defaulting d (optional_at lengths m c)) (λ x. components lengths cs x.1 >>= λ ws. Ok (slot x.0 ws)) (given d, c) (slot (given v) vs) (default_ok d (optional_at lengths m c) (missing, c) (optional_missing m c p cut.1 (next_again c cut.0 cut.1 p cut.2 cut.3) t))
        (then_ok (components lengths cs c) (λ ws. Ok (slot (given d) ws)) vs (slot (given v) vs) (components_complete cs (p ∷ ps) c vs cut h.1) (ap (λ (w : Value). Ok (slot (given w) vs)) (sym h.0))))
    components_complete (skipped m cs) [] c vs cut are =
        then_ok (optional_at lengths m c) (λ x. components lengths cs x.1) (missing, c) vs (optional_missing_end m c cut) (components_complete cs [] c vs cut are)
    components_complete (skipped m cs) (p ∷ ps) c vs cut are =
        defaulted_by (begins m p.tag) ((v : Value) × IsMember lengths m p v × AreComponents lengths cs ps vs) (AreComponents lengths cs (p ∷ ps) vs) (components lengths (skipped m cs) c ≡ Ok vs) are
        (λ t h. then_ok (optional_at lengths m c) (λ x. components lengths cs x.1) (given h.0, cut.1) vs (given_complete m c cut.0 cut.1 p h.0 cut.2 cut.3 t h.1) (components_complete cs ps cut.1 vs cut.4 h.2))
        (λ t h. then_ok (optional_at lengths m c) (λ x. components lengths cs x.1) (missing, c) vs (optional_missing m c p cut.1 (next_again c cut.0 cut.1 p cut.2 cut.3) t) (components_complete cs (p ∷ ps) c vs cut h))
