-- Octets of the form of a PDU that is kept whole are heard as it.
use Rattle.std.proofs.Common.{◌≡◌, ℕ, ℤ, pos, negsuc, ◌≤ℤ◌, Bool, true, false, cond, eqb, List, Option, Some, None, Result, Ok, refl, sym, ap, subst, ◌∙◌, arith}
use Rattle.std.specs.Prelude.{nat_le}
use Rattle.std.proofs.lemmas.Bool.{eqb-true, eq-eqb}
use Rattle.ber_forms.specs.ByNumber.{has_number, form_at, read_as}
use Rattle.ber_forms.proofs.Numbered.{tag_class, other_number, sound_distinct, by_number}
use Rattle.ber_core.specs.declared.element.Lengths.{Lengths}
use Rattle.ber_core.specs.Part.{Part}
use Rattle.ber_forms.specs.Fault.{Fault}
use Rattle.ber_forms.specs.Value.{Value, Slots, number, chosen, parts, given, done, slot}
use Rattle.ber_forms.specs.Form.{Form, Alternatives, Components, choice, no_other, or, one_of, required, no_more, universal, unsigned32}
use Rattle.ber_forms.specs.Reading.{◌>>=◌, integer_in, is_tag, is_constructed, next_at, part_at, must, required_part, optional_part, at_end, required_by, chosen_by, reading, alternatives, required_at, components}
use Rattle.ber_forms.specs.InForm.{InForm}
use Rattle.ber_forms.proofs.Sound.{fine_is, bound, integer_within}
use Rattle.ber_forms.proofs.Complete.{reading_complete}
use Rattle.ber_forms.proofs.NotWhole.{as_cut}
use Rattle.pdu_names.specs.Said.{natural_of}
use Rattle.mms_types.specs.declared.identifier.Edition.{Edition}
use Rattle.mms_pdu.specs.Services.{requests, requests_sound}
use Rattle.mms_pdu.specs.Pdus.{asked}
use Rattle.mms_pdu.specs.Hearing.{Asked, asking, is_pdu, kept_pdus, whole_pdus, valid, and_then, argued, served, sole_part, asked_at, request_told, part_told, heard}

-- a confirmed-Request as it is read
abbrev pub with_service : ℕ → Value → Value
with_service invoke service = parts (slot (given (number (pos invoke))) (slot (given service) done))

-- ---- tags

-- the number of a kept PDU is that of a PDU, and none of reject and of what is noted
abbrev IsKeptNumber : ℕ → Type 0
IsKeptNumber n = (nat_le n 13 ≡ true) × (n ≡ 4 → ⊥) × (n ≡ 3 → ⊥) × (n ≡ 6 → ⊥) × (n ≡ 7 → ⊥)

this_or_later : {P : Type 0} (n k : ℕ) (later : Bool) → cond (eqb n k) true later ≡ true → (n ≡ k → P) → (later ≡ true → P) → P
this_or_later {P} n k later e here there = by_number (eqb n k) refl
  where
    by_number : (b : Bool) → eqb n k ≡ b → P
    by_number true f = here (eqb-true n k f)
    by_number false f = there (sym (ap (λ (b : Bool). cond b true later) f) ∙ e)

kept_number : (edition : Edition) (n : ℕ) → has_number (kept_pdus edition) n ≡ true → IsKeptNumber n
kept_number edition n e =
    this_or_later n 1 _ e (at 1 (refl, λ f. omega (arith, f), λ f. omega (arith, f), λ f. omega (arith, f), λ f. omega (arith, f)))
    (λ e. this_or_later n 2 _ e (at 2 (refl, λ f. omega (arith, f), λ f. omega (arith, f), λ f. omega (arith, f), λ f. omega (arith, f)))
    (λ e. this_or_later n 5 _ e (at 5 (refl, λ f. omega (arith, f), λ f. omega (arith, f), λ f. omega (arith, f), λ f. omega (arith, f)))
    (λ e. this_or_later n 8 _ e (at 8 (refl, λ f. omega (arith, f), λ f. omega (arith, f), λ f. omega (arith, f), λ f. omega (arith, f)))
    (λ e. this_or_later n 11 _ e (at 11 (refl, λ f. omega (arith, f), λ f. omega (arith, f), λ f. omega (arith, f), λ f. omega (arith, f))) (λ e. absurd cc)))))
  where
    at : (k : ℕ) → IsKeptNumber k → n ≡ k → IsKeptNumber n
    at k h is = subst IsKeptNumber (sym is) h

-- an alternative's tag is a context tag of one of the numbers
module _ (lengths : Lengths) where
  pub alternative_tag : (others : Alternatives) (p : Part) (v : Value) → alternatives lengths others p ≡ Ok v → (p.tag.class ≡ 2) × (has_number others p.tag.number ≡ true)
  alternative_tag no_other p v e = absurd cc
  alternative_tag (or n f others) p v e = by_tag (is_tag 2 (is_constructed f) n p.tag) refl (alternative_tag others p v)
    where
      by_number : (k : Bool) → has_number others p.tag.number ≡ true → cond k true (has_number others p.tag.number) ≡ true
      by_number true h = refl
      by_number false h = h

      by_tag : (b : Bool) → is_tag 2 (is_constructed f) n p.tag ≡ b → (alternatives lengths others p ≡ Ok v → (p.tag.class ≡ 2) × (has_number others p.tag.number ≡ true))
          → (p.tag.class ≡ 2) × (has_number (or n f others) p.tag.number ≡ true)
      by_tag true t later =
          let is = tag_class (is_constructed f) n p.tag t in
          (is.0, rw (eq-eqb p.tag.number n is.1) refl)
      by_tag false t later =
          let h = later (sym (ap (λ (b : Bool). cond b (reading lengths f p.contents >>= λ w. Ok (chosen n w)) (alternatives lengths others p)) t) ∙ e) in
          (h.0, by_number (eqb p.tag.number n) h.1)

  -- ---- one element

  pub record Sole (read : Part → Result Value Fault) (c : List ℕ) (v : Value) (rest : List ℕ) : Type 0 where
    pub part : Part
    pub first : part_at lengths c ≡ Ok (part, rest)
    pub sole : sole_part lengths c ≡ Ok part
    pub read_so : read part ≡ Ok v

  sole_ok : (c : List ℕ) (p : Part) (rest : List ℕ) (u : Unit {0}) → part_at lengths c ≡ Ok (p, rest) → at_end rest ≡ Ok u → sole_part lengths c ≡ Ok p
  unfolding sole_part
  sole_ok c p rest u e f = rw (e, f) refl

  pub sole_again : (read : Part → Result Value Fault) (c : List ℕ) (x : Value × List ℕ) (u : Unit {0}) → chosen_by lengths read c ≡ Ok x → at_end x.1 ≡ Ok u → Sole read c x.0 x.1
  unfolding chosen_by
  sole_again read c x u e ends =
      let b = bound (part_at lengths c) (λ y. read y.0 >>= λ w. Ok (w, y.1)) x e in
      let d = bound (read b.0.0) (λ w. Ok (w, b.0.1)) x b.2 in
      let is : (d.0, b.0.1) ≡ x = fine_is (d.0, b.0.1) x d.2 in
      let rest : b.0.1 ≡ x.1 = ap (λ (y : Value × List ℕ). y.1) is in
      record {
        part = b.0.0;
        first = b.1 ∙ ap (λ (o : List ℕ). Ok (b.0.0, o)) rest;
        sole = sole_ok c b.0.0 x.1 u (b.1 ∙ ap (λ (o : List ℕ). Ok (b.0.0, o)) rest) ends;
        read_so = d.1 ∙ ap (λ (y : Value × List ℕ). Ok y.0) is;
      }

  -- ---- a confirmed-Request

  pub served_ok : (n : ℕ) (p : Part) (o : Option Form) (v : Value) → read_as lengths p o ≡ Ok v → served lengths n p o ≡ Ok v
  served_ok n p None v e = absurd cc
  served_ok n p (Some f) v e = ap (argued n) e

  next_of : (c : List ℕ) (x : Part × List ℕ) → part_at lengths c ≡ Ok x → next_at lengths c ≡ Ok (Some x)
  unfolding part_at
  next_of c x e =
      let b = bound (next_at lengths c) must x e in
      b.1 ∙ ap (λ (o : Option (Part × List ℕ)). Ok o) (by_next b.0 b.2)
    where
      by_next : (o : Option (Part × List ℕ)) → must o ≡ Ok x → o ≡ Some x
      by_next None h = absurd cc
      by_next (Some y) h = ap (λ (z : Part × List ℕ). Some z) (fine_is y x h)

  unmodified : (c : List ℕ) (p : Part) (rest : List ℕ) → part_at lengths c ≡ Ok (p, rest) → p.tag.class ≡ 2 → optional_part lengths (is_tag 0 true 16) c ≡ Ok (None, c)
  unmodified c p rest e k = rw (as_cut lengths (is_tag 0 true 16) c (Some (p, rest)) (next_of c (p, rest) e), k) refl

  pub natural : (n : ℤ) → pos 0 ≤ℤ n → number n ≡ number (pos (natural_of (number n)))
  natural (pos k) h = refl
  natural (negsuc k) h = absurd (grind (arith, h))

  pub invoke_is : (c : List ℕ) (x : Value × List ℕ) → required_at lengths (universal 2 unsigned32) c ≡ Ok x → x.0 ≡ number (pos (natural_of x.0))
  unfolding required_by
  invoke_is c x e =
      let test = is_tag 0 false 2 in
      let b = bound (required_part lengths test c) (λ y. reading lengths unsigned32 y.0.contents >>= λ w. Ok (w, y.1)) x e in
      let d = bound (reading lengths unsigned32 b.0.0.contents) (λ w. Ok (w, b.0.1)) x b.2 in
      let f = bound (integer_in (pos 0) (pos 4294967295) b.0.0.contents) (λ n. Ok (number n)) d.0 d.1 in
      let low = (integer_within (pos 0) (pos 4294967295) b.0.0.contents f.0 f.1).0 in
      let is : number f.0 ≡ x.0 = fine_is (number f.0) d.0 f.2 ∙ ap (λ (y : Value × List ℕ). y.0) (fine_is (d.0, b.0.1) x d.2) in
      subst (λ (v : Value). v ≡ number (pos (natural_of v))) is (natural f.0 low)

  asked_again : (c : List ℕ) (x : Value × List ℕ) (p : Part) (rest : List ℕ) → required_at lengths (universal 2 unsigned32) c ≡ Ok x → part_at lengths x.1 ≡ Ok (p, rest) → sole_part lengths x.1 ≡ Ok p → p.tag.class ≡ 2
      → asked_at lengths c ≡ Ok (asking (natural_of x.0) None p)
  unfolding asked_at
  asked_again c x p rest e f s k = rw (e, unmodified x.1 p rest f k, s, eq-eqb p.tag.class 2 k) refl

-- what of this depends on the edition
module _ (lengths : Lengths) (edition : Edition) where
  argued_again : (n : ℕ) (p : Part) (v : Value) → alternatives lengths (requests.alternatives edition) p ≡ Ok v → request_told lengths edition (asking n None p) ≡ Ok (chosen 0 (with_service n v))
  unfolding request_told
  argued_again n p v e =
      let others = requests.alternatives edition in
      let is = by_number lengths p others (sound_distinct others (requests_sound edition)) in
      rw (served_ok lengths n p (form_at p.tag.number others) v (sym is ∙ e)) refl

  request_again : (c : List ℕ) (w : Value) → reading lengths (asked.form edition) c ≡ Ok w → and_then (valid (asked_at lengths c)) (request_told lengths edition) ≡ Ok (chosen 0 w)
  request_again c w e =
      let tail : Components = required (one_of (requests.alternatives edition)) no_more in
      let a = bound (components lengths (required (universal 2 unsigned32) tail) c) (λ vs. Ok (parts vs)) w e in
      let b = bound (required_at lengths (universal 2 unsigned32) c) (λ x. components lengths tail x.1 >>= λ vs. Ok (slot (given x.0) vs)) a.0 a.1 in
      let d = bound (components lengths tail b.0.1) (λ vs. Ok (slot (given b.0.0) vs)) a.0 b.2 in
      let f = bound (chosen_by lengths (alternatives lengths (requests.alternatives edition)) b.0.1) (λ y. (at_end y.1 >>= λ _. Ok done) >>= λ vs. Ok (slot (given y.0) vs)) d.0 d.1 in
      let g = bound (at_end f.0.1 >>= λ _. Ok done) (λ vs. Ok (slot (given f.0.0) vs)) d.0 f.2 in
      let h = bound (at_end f.0.1) (λ _. Ok done) g.0 g.1 in
      let s = sole_again lengths (alternatives lengths (requests.alternatives edition)) b.0.1 f.0 h.0 f.1 h.1 in
      let t = alternative_tag lengths (requests.alternatives edition) s.part f.0.0 s.read_so in
      let ends : done ≡ g.0 = fine_is done g.0 h.2 in
      let service : slot (given f.0.0) done ≡ d.0 = ap (λ (vs : Slots). slot (given f.0.0) vs) ends ∙ fine_is (slot (given f.0.0) g.0) d.0 g.2 in
      let whole : parts (slot (given b.0.0) (slot (given f.0.0) done)) ≡ w =
      ap (λ (vs : Slots). parts (slot (given b.0.0) vs)) service ∙ ap parts (fine_is (slot (given b.0.0) d.0) a.0 d.2) ∙ fine_is (parts a.0) w a.2 in
      let told : with_service (natural_of b.0.0) f.0.0 ≡ w =
      ap (λ (v : Value). parts (slot (given v) (slot (given f.0.0) done))) (sym (invoke_is lengths c b.0 b.1)) ∙ whole in
      ap (λ (r : Result Asked Fault). and_then (valid r) (request_told lengths edition)) (asked_again lengths c b.0 s.part f.0.1 b.1 s.first s.sole t.0)
      ∙ argued_again (natural_of b.0.0) s.part f.0.0 s.read_so
      ∙ ap (λ (v : Value). Ok (chosen 0 v)) told

  -- ---- a PDU

  part_again : (p : Part) (v : Value) → alternatives lengths (whole_pdus edition) p ≡ Ok v → part_told lengths edition p ≡ Ok v
  unfolding part_told
  part_again p v e = by_tag (is_tag 2 true 0 p.tag) refl
    where
      by_tag : (b : Bool) → is_tag 2 true 0 p.tag ≡ b → part_told lengths edition p ≡ Ok v
      by_tag true t =
          let is = tag_class true 0 p.tag t in
          let own = sym (ap (λ (b : Bool). cond b (reading lengths (asked.form edition) p.contents >>= λ w. Ok (chosen 0 w)) (alternatives lengths (kept_pdus edition) p)) t) ∙ e in
          let b = bound (reading lengths (asked.form edition) p.contents) (λ w. Ok (chosen 0 w)) v own in
          let pdu : is_pdu p.tag ≡ true = rw (eq-eqb p.tag.class 2 is.0, is.1) refl in
          rw (pdu, t) (request_again p.contents b.0 b.1 ∙ ap (λ (w : Value). Ok w) (fine_is (chosen 0 b.0) v b.2))
      by_tag false t =
          let own = sym (ap (λ (b : Bool). cond b (reading lengths (asked.form edition) p.contents >>= λ w. Ok (chosen 0 w)) (alternatives lengths (kept_pdus edition) p)) t) ∙ e in
          let is = alternative_tag lengths (kept_pdus edition) p v own in
          let k = kept_number edition p.tag.number is.1 in
          let pdu : is_pdu p.tag ≡ true = rw (eq-eqb p.tag.class 2 is.0, k.0) refl in
          rw (pdu, t, other_number true 4 p.tag k.1, other_number true 3 p.tag k.2, other_number false 6 p.tag k.3, other_number true 7 p.tag k.4, own) refl

  pub heard_again : (c : List ℕ) (v : Value) → InForm lengths (choice (whole_pdus edition)) c v → heard lengths edition c ≡ Ok v
  unfolding heard
  heard_again c v h =
      let e = reading_complete lengths (choice (whole_pdus edition)) c v h in
      let a = bound (chosen_by lengths (alternatives lengths (whole_pdus edition)) c) (λ x. at_end x.1 >>= λ _. Ok x.0) v e in
      let b = bound (at_end a.0.1) (λ _. Ok a.0.0) v a.2 in
      let s = sole_again lengths (alternatives lengths (whole_pdus edition)) c a.0 b.0 a.1 b.1 in
      ap (λ (r : Result Part Fault). and_then (valid r) (part_told lengths edition)) s.sole ∙ part_again s.part a.0.0 s.read_so ∙ ap (λ (w : Value). Ok w) (fine_is a.0.0 v b.2)
