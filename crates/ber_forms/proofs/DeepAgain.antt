-- What nests too deep is read as too deep.
use Rattle.std.proofs.Common.{◌≡◌, ◌≢◌, ℕ, suc, ◌+◌, ◌-◌, ◌<◌, ◌≤◌, inl, inr, Bool, true, false, cond, List, [], ◌∷◌, ◌++◌, length, Some, Result, Ok, Err, refl, ap, ◌∙◌, append_assoc, arith}
use Rattle.ber_core.specs.declared.element.Lengths.{Lengths}
use Rattle.std.specs.Prelude.{MatchBool}
use Rattle.std.proofs.lemmas.List.{length-append}
use Rattle.ber_core.specs.declared.element.Tag.{Tag}
use Rattle.ber_core.specs.Part.{Part}
use Rattle.ber_core.specs.Element.{IsElement, IsCut}
use Rattle.ber_core.proofs.Elements.{element_long}
use Rattle.ber_forms.specs.Fault.{Fault}
use Rattle.ber_forms.specs.Fault as fault
use Rattle.ber_forms.specs.Value.{Value, Slot, parts, chosen, missing, given, slot}
use Rattle.ber_forms.specs.Form.{Form, Member, Alternatives, Components, sequence, choice, list_of, such_that, too_deep, tagged, one_of, no_other, or, no_more, any_more, required, optional, defaulted, skipped}
use Rattle.ber_forms.specs.Reading.{◌>>=◌, is_constructed, is_tag, has_tag, next_at, part_at, required_part, optional_part, at_end, required_by, chosen_by, optional_by, defaulting, members_by, counted, reading, alternatives, required_at, optional_at, components}
use Rattle.ber_forms.specs.InForm.{begins, AreMembers, IsMember}
use Rattle.ber_forms.specs.TooDeep.{BeginsWith, BeginsOtherwise, IsTooDeep, IsMemberTooDeep, IsAlternativeTooDeep, IsPartTooDeep}
use Rattle.ber_forms.proofs.Loop.{step}
use Rattle.ber_forms.proofs.InFront.{ahead_is}
use Rattle.ber_forms.proofs.Complete.{next_again, part_again, optional_missing, default_ok, member_complete, given_complete}

abbrev deep : {A : Type 0} → Result A Fault
deep = Err fault.too_deep

then_deep : {A B : Type 0} (r : Result A Fault) (f : A → Result B Fault) → r ≡ deep → (r >>= f) ≡ deep
then_deep r f e = ap (λ (s : Result _ Fault). s >>= f) e

after_ok : {A B : Type 0} (r : Result A Fault) (f : A → Result B Fault) (x : A) (q : Result B Fault) → r ≡ Ok x → f x ≡ q → (r >>= f) ≡ q
after_ok r f x q first second = ap (λ (s : Result _ Fault). s >>= f) first ∙ second

default_ends : (d : Value) (r : Result (Slot × List ℕ) Fault) → r ≡ deep → defaulting d r ≡ deep
unfolding defaulting
default_ends d r e = rw e refl

by_tag_ends : (b : Bool) (r : Result Value Fault) (n : ℕ) (q : Result Value Fault) (P Q : Type 0) → (P → r ≡ deep) → (Q → q ≡ deep) → MatchBool b P Q → cond b (r >>= λ w. Ok (chosen n w)) q ≡ deep
by_tag_ends true r n q P Q here there h = then_deep r (λ w. Ok (chosen n w)) (here h)
by_tag_ends false r n q P Q here there h = there h

module _ (lengths : Lengths) where
  required_ends : (test : Tag → Bool) (read : List ℕ → Result Value Fault) (c : List ℕ) (p : Part) (rest : List ℕ) → part_at lengths c ≡ Ok (p, rest) → test p.tag ≡ true → read p.contents ≡ deep → required_by lengths test read c ≡ deep
  unfolding required_by required_part
  required_ends test read c p rest e t r = rw (e, t, r) refl

  chosen_ends : (read : Part → Result Value Fault) (c : List ℕ) (p : Part) (rest : List ℕ) → part_at lengths c ≡ Ok (p, rest) → read p ≡ deep → chosen_by lengths read c ≡ deep
  unfolding chosen_by
  chosen_ends read c p rest e r = rw (e, r) refl

  given_ends : (test : Tag → Bool) (read : Part → Result Value Fault) (c : List ℕ) (p : Part) (rest : List ℕ) → next_at lengths c ≡ Ok (Some (p, rest)) → test p.tag ≡ true → read p ≡ deep → optional_by lengths test read c ≡ deep
  unfolding optional_by optional_part part_at
  given_ends test read c p rest e t r = rw (ahead_is lengths test c p rest e ∙ t, e, r) refl

  -- some element stands in front
  part_begins : (cs : Components) (c : List ℕ) → IsPartTooDeep lengths cs c → (p : Part) × (rest : List ℕ) × BeginsWith lengths c p rest
  part_begins no_more c h = absurd h
  part_begins any_more c h = absurd h
  part_begins (required m cs) c h = (h.0, h.1, h.2)
  part_begins (optional m cs) c (inl h) = (h.0, h.1, h.2)
  part_begins (optional m cs) c (inr h) = part_begins cs c h.1
  part_begins (defaulted w m d cs) c (inl h) = (h.0, h.1, h.2)
  part_begins (defaulted w m d cs) c (inr h) = part_begins cs c h.1
  part_begins (skipped m cs) c (inl h) = (h.0, h.1, h.2)
  part_begins (skipped m cs) c (inr h) = part_begins cs c h.1

  not_here : (m : Member) (cs : Components) (c : List ℕ) → BeginsOtherwise lengths m c → IsPartTooDeep lengths cs c → optional_at lengths m c ≡ Ok (missing, c)
  not_here m cs c other h =
      let b = part_begins cs c h in
      optional_missing lengths m c b.0 b.1 (next_again lengths c b.2.0 b.1 b.0 b.2.1 b.2.2) (other b.0 b.1 b.2)

  positive : (c first rest : List ℕ) (p : Part) → IsElement lengths first p → c ≡ first ++ rest → (0 < length first) × (length c ≡ length first + length rest) × (c ≢ [])
  positive c first rest p is split =
      let long = element_long lengths first p is in
      let len : length c ≡ length first + length rest = ap length split ∙ length-append first rest in
      (long, len, λ none. absurd (omega (arith, long, len, ap length none)))

  members_end : (m : Member) (take : List ℕ → Result (Value × List ℕ) Fault)
      → ((c first rest : List ℕ) (p : Part) (v : Value) → IsElement lengths first p → c ≡ first ++ rest → IsMember lengths m p v → take c ≡ Ok (v, rest))
      → ((c : List ℕ) (p : Part) (rest : List ℕ) → BeginsWith lengths c p rest → IsMemberTooDeep lengths m p → take c ≡ deep)
      → (ps : List Part) (front : List ℕ) (vs : List Value) (more : List ℕ) (p : Part) (rest : List ℕ) (k : ℕ) (c : List ℕ)
      → length c ≤ k → c ≡ front ++ more → IsCut lengths front ps → AreMembers (IsMember lengths m) ps vs → BeginsWith lengths more p rest → IsMemberTooDeep lengths m p → members_by take k c ≡ deep
  members_end m take each ends [] front [] more p rest k c room split cut are b h =
      let is : c ≡ more = split ∙ ap (λ (o : List ℕ). o ++ more) cut in
      let at : BeginsWith lengths c p rest = (b.0, b.1, is ∙ b.2) in
      let w = positive c b.0 rest p b.1 at.2 in
      let k-is : k ≡ suc (k - 1) = omega (arith, w.0, w.1, room) in
      ap (λ (n : ℕ). members_by take n c) k-is ∙ step take (k - 1) c w.2 ∙ then_deep (take c) (λ x. members_by take (k - 1) x.1 >>= λ ws. Ok (x.0 ∷ ws)) (ends c p rest at h)
  members_end m take each ends [] front (v ∷ vs) more p rest k c room split cut are b h = absurd are
  members_end m take each ends (q ∷ ps) front [] more p rest k c room split cut are b h = absurd are
  members_end m take each ends (q ∷ ps) front (v ∷ vs) more p rest k c room split cut are b h =
      let whole : c ≡ cut.0 ++ (cut.1 ++ more) = split ∙ ap (λ (o : List ℕ). o ++ more) cut.3 ∙ append_assoc cut.0 cut.1 more in
      let w = positive c cut.0 (cut.1 ++ more) q cut.2 whole in
      let k-is : k ≡ suc (k - 1) = omega (arith, w.0, w.1, room) in
      let after = members_end m take each ends ps cut.1 vs more p rest (k - 1) (cut.1 ++ more) (omega (arith, w.0, w.1, room)) refl cut.4 are.1 b h in
      ap (λ (n : ℕ). members_by take n c) k-is ∙ step take (k - 1) c w.2
      ∙ after_ok (take c) (λ x. members_by take (k - 1) x.1 >>= λ ws. Ok (x.0 ∷ ws)) (v, cut.1 ++ more) deep (each c cut.0 (cut.1 ++ more) q v cut.2 whole are.0)
      (then_deep (members_by take (k - 1) (cut.1 ++ more)) (λ ws. Ok (v ∷ ws)) after)

  mutual
    -- What nests too deep is read as too deep.
    pub deep_again : (f : Form) (c : List ℕ) → IsTooDeep lengths f c → reading lengths f c ≡ deep
    deep_again (sequence cs) c h = then_deep (components lengths cs c) (λ vs. Ok (parts vs)) (components_end cs c h)
    deep_again (choice others) c h =
        then_deep (chosen_by lengths (alternatives lengths others) c) (λ x. at_end x.1 >>= λ _. Ok x.0) (chosen_ends (alternatives lengths others) c h.0 h.1 (part_again lengths c h.2.0 h.1 h.0 h.2.1 h.2.2) (alternatives_end others h.0 h.3))
    deep_again (list_of test m) c h =
        then_deep (members_by (required_at lengths m) (length c) c) (counted test)
        (members_end m (required_at lengths m) (member_complete lengths m) (member_end m) h.1 h.0 h.2 h.3 h.4 h.5 (length c) c (omega arith) h.6 h.7 h.8 h.9 h.10)
    deep_again (such_that test f) c h = then_deep (reading lengths f c) (λ w. cond (test w) (Ok w) (Err fault.malformed)) (deep_again f c h)
    deep_again too_deep c h = refl
    deep_again f c h = absurd h

    alternatives_end : (others : Alternatives) (p : Part) → IsAlternativeTooDeep lengths others p → alternatives lengths others p ≡ deep
    alternatives_end no_other p h = absurd h
    alternatives_end (or n f others) p h =
        by_tag_ends (is_tag 2 (is_constructed f) n p.tag) (reading lengths f p.contents) n (alternatives lengths others p) (IsTooDeep lengths f p.contents) (IsAlternativeTooDeep lengths others p)
        (λ k. deep_again f p.contents k) (λ k. alternatives_end others p k) h

    member_end : (m : Member) (c : List ℕ) (p : Part) (rest : List ℕ) → BeginsWith lengths c p rest → IsMemberTooDeep lengths m p → required_at lengths m c ≡ deep
    member_end (tagged class n f) c p rest b h = required_ends (is_tag class (is_constructed f) n) (reading lengths f) c p rest (part_again lengths c b.0 rest p b.1 b.2) h.0 (deep_again f p.contents h.1)
    member_end (one_of others) c p rest b h = chosen_ends (alternatives lengths others) c p rest (part_again lengths c b.0 rest p b.1 b.2) (alternatives_end others p h)

    optional_end : (m : Member) (c : List ℕ) (p : Part) (rest : List ℕ) → BeginsWith lengths c p rest → begins m p.tag ≡ true → IsMemberTooDeep lengths m p → optional_at lengths m c ≡ deep
    optional_end (tagged class n f) c p rest b t h = given_ends (is_tag class (is_constructed f) n) (λ q. reading lengths f q.contents) c p rest (next_again lengths c b.0 rest p b.1 b.2) t (deep_again f p.contents h.1)
    optional_end (one_of others) c p rest b t h = given_ends (has_tag others) (alternatives lengths others) c p rest (next_again lengths c b.0 rest p b.1 b.2) t (alternatives_end others p h)

    components_end : (cs : Components) (c : List ℕ) → IsPartTooDeep lengths cs c → components lengths cs c ≡ deep
    components_end no_more c h = absurd h
    components_end any_more c h = absurd h
    components_end (required m cs) c (p, rest, b, inl h) = then_deep (required_at lengths m c) (λ x. components lengths cs x.1 >>= λ ws. Ok (slot (given x.0) ws)) (member_end m c p rest b h)
    components_end (required m cs) c (p, rest, b, inr h) =
        after_ok (required_at lengths m c) (λ x. components lengths cs x.1 >>= λ ws. Ok (slot (given x.0) ws)) (h.0, rest) deep (member_complete lengths m c b.0 rest p h.0 b.1 b.2 h.1)
        (then_deep (components lengths cs rest) (λ ws. Ok (slot (given h.0) ws)) (components_end cs rest h.2))
    components_end (optional m cs) c (inl (p, rest, b, t, inl h)) = then_deep (optional_at lengths m c) (λ x. components lengths cs x.1 >>= λ ws. Ok (slot x.0 ws)) (optional_end m c p rest b t h)
    components_end (optional m cs) c (inl (p, rest, b, t, inr h)) =
        after_ok (optional_at lengths m c) (λ x. components lengths cs x.1 >>= λ ws. Ok (slot x.0 ws)) (given h.0, rest) deep (given_complete lengths m c b.0 rest p h.0 b.1 b.2 t h.1)
        (then_deep (components lengths cs rest) (λ ws. Ok (slot (given h.0) ws)) (components_end cs rest h.2))
    components_end (optional m cs) c (inr h) =
        after_ok (optional_at lengths m c) (λ x. components lengths cs x.1 >>= λ ws. Ok (slot x.0 ws)) (missing, c) deep (not_here m cs c h.0 h.1)
        (then_deep (components lengths cs c) (λ ws. Ok (slot missing ws)) (components_end cs c h.1))
    components_end (defaulted w m d cs) c (inl (p, rest, b, t, inl h)) =
        then_deep (defaulting d (optional_at lengths m c)) (λ x. components lengths cs x.1 >>= λ ws. Ok (slot x.0 ws)) (default_ends d (optional_at lengths m c) (optional_end m c p rest b t h))
    components_end (defaulted w m d cs) c (inl (p, rest, b, t, inr h)) =
        after_ok (defaulting d (optional_at lengths m c)) (λ x. components lengths cs x.1 >>= λ ws. Ok (slot x.0 ws)) (given h.0, rest) deep (default_ok d (optional_at lengths m c) (given h.0, rest) (given_complete lengths m c b.0 rest p h.0 b.1 b.2 t h.1))
        (then_deep (components lengths cs rest) (λ ws. Ok (slot (given h.0) ws)) (components_end cs rest h.2))
    components_end (defaulted w m d cs) c (inr h) =
        after_ok (defaulting d (optional_at lengths m c)) (λ x. components lengths cs x.1 >>= λ ws. Ok (slot x.0 ws)) (given d, c) deep (default_ok d (optional_at lengths m c) (missing, c) (not_here m cs c h.0 h.1))
        (then_deep (components lengths cs c) (λ ws. Ok (slot (given d) ws)) (components_end cs c h.1))
    components_end (skipped m cs) c (inl (p, rest, b, t, inl h)) = then_deep (optional_at lengths m c) (λ x. components lengths cs x.1) (optional_end m c p rest b t h)
    components_end (skipped m cs) c (inl (p, rest, b, t, inr h)) =
        after_ok (optional_at lengths m c) (λ x. components lengths cs x.1) (given h.0, rest) deep (given_complete lengths m c b.0 rest p h.0 b.1 b.2 t h.1) (components_end cs rest h.2)
    components_end (skipped m cs) c (inr h) =
        after_ok (optional_at lengths m c) (λ x. components lengths cs x.1) (missing, c) deep (not_here m cs c h.0 h.1) (components_end cs c h.1)
