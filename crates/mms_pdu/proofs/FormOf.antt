-- What is heard as a PDU that is kept whole is of its form.
use Rattle.std.proofs.Common.{◌≡◌, ◌⊎◌, ℕ, pos, inl, inr, Bool, true, false, cond, eqb, List, Option, Some, None, Result, Ok, Err, refl, sym, ap, subst, ◌∙◌}
use Rattle.ber_core.specs.declared.element.Tag.{Tag}
use Rattle.ber_core.specs.declared.element.Lengths.{Lengths}
use Rattle.ber_core.specs.Part.{Part}
use Rattle.ber_core.proofs.Definites.{IsBytes, chosen as which}
use Rattle.ber_forms.specs.Fault.{Fault}
use Rattle.ber_forms.specs.Fault as fault
use Rattle.ber_forms.specs.Value.{Value, nothing, number, chosen, parts, given, done, slot}
use Rattle.ber_forms.specs.Form.{Form, Alternatives, choice, universal, unsigned32}
use Rattle.ber_forms.specs.Reading.{◌>>=◌, is_tag, has_tag, is_ahead, part_at, optional_part, at_end, chosen_by, reading, alternatives, required_at}
use Rattle.ber_forms.specs.InForm.{InForm}
use Rattle.ber_forms.proofs.Sound.{fine_is, bound, reading_sound}
use Rattle.pdu_names.specs.Said.{natural_of}
use Rattle.pdu_assoc.specs.Heard.{heard_error, heard_reject_form, answered}
use Rattle.mms_pdu.specs.declared.refusal.Refusal.{Refusal}
use Rattle.mms_pdu.specs.declared.refusal.Refusal.TheVariants as refusal
use Rattle.mms_types.specs.declared.identifier.Edition.{Edition}
use Rattle.ber_forms.specs.ByNumber.{form_at, read_as}
use Rattle.ber_forms.proofs.Numbered.{sound_distinct, by_number}
use Rattle.mms_pdu.specs.Services.{requests, requests_sound}
use Rattle.mms_pdu.specs.Pdus.{asked, heard_reject}
use Rattle.mms_pdu.specs.Hearing.{Asked, asking, is_pdu, kept_pdus, whole_pdus, noted_pdus, valid, and_then, argued, served, sole_part, service_of, asked_at, modifier_at, listed, modified_value, service_told, told_with, request_told, reject_told, part_told, heard}
use Rattle.mms_pdu.proofs.Whole.{with_service, invoke_is}

-- ---- steps

abbrev pub heard_as : {A : Type 0} → A → Result A Refusal
heard_as x = Ok x

pub told_is : {A : Type 0} (x y : A) → heard_as x ≡ heard_as y → x ≡ y
told_is x y e = cc

pub stepped : {A B : Type 0} (r : Result A Refusal) (f : A → Result B Refusal) (y : B) → and_then r f ≡ Ok y → (x : A) × (r ≡ Ok x) × (f x ≡ Ok y)
stepped (Ok x) f y e = (x, refl, e)
stepped (Err d) f y e = absurd cc

pub valid_is : {A : Type 0} (r : Result A Fault) (x : A) → valid r ≡ Ok x → r ≡ Ok x
valid_is (Ok y) x e = cc
valid_is (Err d) x e = absurd cc

service_is : (p s : Part) → service_of p ≡ Ok s → p ≡ s
service_is p s e = by_class (eqb p.tag.class 2) e
  where
    by_class : (b : Bool) → cond b (Ok p) (Err fault.malformed) ≡ Ok s → p ≡ s
    by_class true f = fine_is p s f
    by_class false f = absurd cc

argued_is : (invoke : ℕ) (r : Result Value Fault) (v : Value) → argued invoke r ≡ Ok v → r ≡ Ok v
argued_is invoke (Ok w) v e = cc
argued_is invoke (Err fault.malformed) v e = absurd cc
argued_is invoke (Err fault.too_deep) v e = absurd cc

served_is : (lengths : Lengths) (invoke : ℕ) (p : Part) (o : Option Form) (v : Value) → served lengths invoke p o ≡ Ok v → read_as lengths p o ≡ Ok v
served_is lengths invoke p None v e = absurd cc
served_is lengths invoke p (Some f) v e = argued_is invoke (read_as lengths p (Some f)) v e

module _ (lengths : Lengths) where
  -- nothing is taken where no modifiers are found
  untouched : (test : Tag → Bool) (octets : List ℕ) (m : Option Part × List ℕ) → optional_part lengths test octets ≡ Ok m → m.0 ≡ None → m.1 ≡ octets
  unfolding optional_part
  untouched test octets m e none =
      elim (which (is_ahead test octets) (part_at lengths octets >>= λ x. Ok (Some x.0, x.1)) (Ok (None, octets)) (Ok m) e) [
        | inl w ↦
            let x = bound (part_at lengths octets) (λ x. Ok (Some x.0, x.1)) m w.1 in
            absurd (cc (none, ap (λ (y : Option Part × List ℕ). y.0) (fine_is (Some x.0.0, x.0.1) m x.2)))
        | inr w ↦ ap (λ (y : Option Part × List ℕ). y.1) (sym (fine_is (None, octets) m w.1))
      ]

  pub record Alone (c : List ℕ) (p : Part) : Type 0 where
    pub rest : List ℕ
    pub first : part_at lengths c ≡ Ok (p, rest)
    pub ends : at_end rest ≡ Ok tt

  alone : (c : List ℕ) (p : Part) → sole_part lengths c ≡ Ok p → Alone c p
  unfolding sole_part
  alone c p e =
      let b = bound (part_at lengths c) (λ x. at_end x.1 >>= λ _. Ok x.0) p e in
      let d = bound (at_end b.0.1) (λ _. Ok b.0.0) p b.2 in
      record { rest = b.0.1; first = b.1 ∙ ap (λ (q : Part). Ok (q, b.0.1)) (fine_is b.0.0 p d.2); ends = d.1 }

  chosen_so : (others : Alternatives) (c : List ℕ) (p : Part) (rest : List ℕ) (v : Value) → part_at lengths c ≡ Ok (p, rest) → alternatives lengths others p ≡ Ok v → chosen_by lengths (alternatives lengths others) c ≡ Ok (v, rest)
  unfolding chosen_by
  chosen_so others c p rest v e f = rw (e, f) refl

  -- ---- a confirmed-Request

  pub record Parted (c : List ℕ) (a : Asked) : Type 0 where
    pub invoke : Value × List ℕ
    pub invoked : required_at lengths (universal 2 unsigned32) c ≡ Ok invoke
    pub number_is : natural_of invoke.0 ≡ a.invoke
    pub service : a.modifiers ≡ None → Alone invoke.1 a.service

  parted : (c : List ℕ) (a : Asked) → asked_at lengths c ≡ Ok a → Parted c a
  unfolding asked_at
  parted c a e =
      let test = is_tag 0 true 16 in
      let i = bound (required_at lengths (universal 2 unsigned32) c) (λ i. optional_part lengths test i.1 >>= λ m. sole_part lengths m.1 >>= λ p. service_of p >>= λ s. Ok (asking (natural_of i.0) m.0 s)) a e in
      let m = bound (optional_part lengths test i.0.1) (λ m. sole_part lengths m.1 >>= λ p. service_of p >>= λ s. Ok (asking (natural_of i.0.0) m.0 s)) a i.2 in
      let p = bound (sole_part lengths m.0.1) (λ p. service_of p >>= λ s. Ok (asking (natural_of i.0.0) m.0.0 s)) a m.2 in
      let s = bound (service_of p.0) (λ s. Ok (asking (natural_of i.0.0) m.0.0 s)) a p.2 in
      let is : asking (natural_of i.0.0) m.0.0 s.0 ≡ a = fine_is (asking (natural_of i.0.0) m.0.0 s.0) a s.2 in
      let same : p.0 ≡ a.service = service_is p.0 s.0 s.1 ∙ ap (λ (b : Asked). b.service) is in
      record {
        invoke = i.0;
        invoked = i.1;
        number_is = ap (λ (b : Asked). b.invoke) is;
        service = λ plain.
            let none : m.0.0 ≡ None = ap (λ (b : Asked). b.modifiers) is ∙ plain in
            subst (λ (o : List ℕ). Alone o a.service) (untouched test i.0.1 m.0 m.1 none) (alone m.0.1 a.service (p.1 ∙ ap (λ (q : Part). Ok q) same));
      }

-- what of this depends on the edition
module _ (lengths : Lengths) (edition : Edition) where
  reject_is : (c : List ℕ) (n : ℕ) (w : Value) → reject_told lengths edition c ≡ Ok (chosen n w) → n ≡ 4
  unfolding reject_told
  reject_is c n w e =
      let s = stepped (valid (reading lengths heard_reject_form c)) (λ _. Ok (chosen 4 (heard_reject.value (answered (reading lengths (heard_error.form edition) c))))) (chosen n w) e in
      cc (s.2)

  request_read : (c : List ℕ) (x : Value × List ℕ) (rest : List ℕ) (w : Value) → required_at lengths (universal 2 unsigned32) c ≡ Ok x → chosen_by lengths (alternatives lengths (requests.alternatives edition)) x.1 ≡ Ok (w, rest) → at_end rest ≡ Ok tt
      → reading lengths (asked.form edition) c ≡ Ok (parts (slot (given x.0) (slot (given w) done)))
  request_read c x rest w e f ends = rw (e, f, ends) refl

  pub record Granted (a : Asked) (v : Value) : Type 0 where
    pub argument : Value
    pub read_so : alternatives lengths (requests.alternatives edition) a.service ≡ Ok argument
    pub is : chosen 0 (with_service a.invoke argument) ≡ v

  granted : (a : Asked) (v : Value) → a.modifiers ≡ None → request_told lengths edition a ≡ Ok v → Granted a v
  unfolding request_told
  granted a v plain e =
      let others = requests.alternatives edition in
      let f : told_with lengths edition a.invoke None a.service ≡ Ok v = sym (ap (λ (o : Option Part). told_with lengths edition a.invoke o a.service) plain) ∙ e in
      let s = stepped (service_told lengths edition a.invoke a.service) (λ v. Ok (chosen 0 (with_service a.invoke v))) v f in
      let is = by_number lengths a.service others (sound_distinct others (requests_sound edition)) in record {
        argument = s.0;
        read_so = is ∙ served_is lengths a.invoke a.service (form_at a.service.tag.number others) s.0 s.1;
        is = told_is (chosen 0 (with_service a.invoke s.0)) v s.2;
      }

  -- a request with a list, and the modifier and the argument of its service
  pub record GrantedWith (a : Asked) (v : Value) : Type 0 where
    pub list : Part
    pub listed_is : a.modifiers ≡ Some list
    pub modifier : Value
    pub modifier_is : modifier_at lengths edition list a.service ≡ Ok modifier
    pub argument : Value
    pub read_so : alternatives lengths (requests.alternatives edition) a.service ≡ Ok argument
    pub is : modified_value a.invoke modifier argument ≡ v

  listed_ok : (invoke : ℕ) (r : Result Value Fault) (m : Value) → listed invoke r ≡ Ok m → r ≡ Ok m
  listed_ok invoke (Ok w) m e = cc e
  listed_ok invoke (Err d) m e = absurd cc

  granted_with : (a : Asked) (v : Value) (list : Part) → a.modifiers ≡ Some list → request_told lengths edition a ≡ Ok v → GrantedWith a v
  unfolding request_told
  granted_with a v list some e =
      let others = requests.alternatives edition in
      let f : told_with lengths edition a.invoke (Some list) a.service ≡ Ok v = sym (ap (λ (o : Option Part). told_with lengths edition a.invoke o a.service) some) ∙ e in
      let l = stepped (listed a.invoke (modifier_at lengths edition list a.service)) (λ m. and_then (service_told lengths edition a.invoke a.service) (λ w. Ok (modified_value a.invoke m w))) v f in
      let s = stepped (service_told lengths edition a.invoke a.service) (λ w. Ok (modified_value a.invoke l.0 w)) v l.2 in
      let is = by_number lengths a.service others (sound_distinct others (requests_sound edition)) in record {
        list = list;
        listed_is = some;
        modifier = l.0;
        modifier_is = listed_ok a.invoke (modifier_at lengths edition list a.service) l.0 l.1;
        argument = s.0;
        read_so = is ∙ served_is lengths a.invoke a.service (form_at a.service.tag.number others) s.0 s.1;
        is = told_is (modified_value a.invoke l.0 s.0) v s.2;
      }

  -- contents that are read as a confirmed-Request with a modifier
  pub record Modified (c : List ℕ) (v : Value) : Type 0 where
    pub asked : Asked
    pub read_so : asked_at lengths c ≡ Ok asked
    pub granted_so : GrantedWith asked v

  pub request_of : (c : List ℕ) (v : Value) → and_then (valid (asked_at lengths c)) (request_told lengths edition) ≡ Ok v → ((reading lengths (asked.form edition) c >>= λ w. Ok (chosen 0 w)) ≡ Ok v) ⊎ Modified c v
  request_of c v e = by_list s.0.modifiers refl
    where
      s : (a : Asked) × (valid (asked_at lengths c) ≡ Ok a) × (request_told lengths edition a ≡ Ok v)
      s = stepped (valid (asked_at lengths c)) (request_told lengths edition) v e

      read_so : asked_at lengths c ≡ Ok s.0
      read_so = valid_is (asked_at lengths c) s.0 s.1

      plain_of : s.0.modifiers ≡ None → (reading lengths (asked.form edition) c >>= λ w. Ok (chosen 0 w)) ≡ Ok v
      plain_of plain =
          let a = parted lengths c s.0 read_so in
          let g = granted s.0 v plain s.2 in
          let service = a.service plain in
          let read = request_read c a.invoke service.rest g.argument a.invoked (chosen_so lengths (requests.alternatives edition) a.invoke.1 s.0.service service.rest g.argument service.first g.read_so) service.ends in
          let is : parts (slot (given a.invoke.0) (slot (given g.argument) done)) ≡ with_service s.0.invoke g.argument =
          ap (λ (n : Value). parts (slot (given n) (slot (given g.argument) done))) (invoke_is lengths c a.invoke a.invoked ∙ ap (λ (n : ℕ). number (pos n)) a.number_is) in
          ap (λ (r : Result Value Fault). r >>= λ w. Ok (chosen 0 w)) read ∙ ap (λ (w : Value). Ok (chosen 0 w)) is ∙ ap (λ (w : Value). Ok w) g.is

      by_list : (o : Option Part) → s.0.modifiers ≡ o → ((reading lengths (asked.form edition) c >>= λ w. Ok (chosen 0 w)) ≡ Ok v) ⊎ Modified c v
      by_list None plain = inl (plain_of plain)
      by_list (Some list) some = inr (record { asked = s.0; read_so = read_so; granted_so = granted_with s.0 v list some s.2 })

  chosen_of : (c : List ℕ) (n : ℕ) (w : Value) → and_then (valid (asked_at lengths c)) (request_told lengths edition) ≡ Ok (chosen n w) → (reading lengths (asked.form edition) c >>= λ w. Ok (chosen 0 w)) ≡ Ok (chosen n w)
  chosen_of c n w e = elim (request_of c (chosen n w) e) [ inl read ↦ read | inr m ↦ absurd (cc m.granted_so.is) ]

  -- ---- a PDU

  part_of : (p : Part) (n : ℕ) (w : Value) → (n ≡ 4 → ⊥) → part_told lengths edition p ≡ Ok (chosen n w) → alternatives lengths (whole_pdus edition) p ≡ Ok (chosen n w)
  unfolding part_told
  part_of p n w ne e = by_tags (is_pdu p.tag) (is_tag 2 true 0 p.tag) (is_tag 2 true 4 p.tag) (has_tag noted_pdus p.tag) e
    where
      by_tags : (a b d f : Bool)
          → cond a (cond b (and_then (valid (asked_at lengths p.contents)) (request_told lengths edition)) (cond d (reject_told lengths edition p.contents) (cond f (Ok nothing) (valid (alternatives lengths (kept_pdus edition) p))))) (Err refusal.UnknownType) ≡ Ok (chosen n w)
          → cond b (reading lengths (asked.form edition) p.contents >>= λ w. Ok (chosen 0 w)) (alternatives lengths (kept_pdus edition) p) ≡ Ok (chosen n w)
      by_tags false b d f e = absurd cc
      by_tags true true d f e = chosen_of p.contents n w e
      by_tags true false true f e = absurd (ne (reject_is p.contents n w e))
      by_tags true false false true e = absurd cc
      by_tags true false false false e = valid_is (alternatives lengths (kept_pdus edition) p) (chosen n w) e

  choice_read : (c : List ℕ) (p : Part) (rest : List ℕ) (v : Value) → chosen_by lengths (alternatives lengths (whole_pdus edition)) c ≡ Ok (v, rest) → at_end rest ≡ Ok tt → reading lengths (choice (whole_pdus edition)) c ≡ Ok v
  choice_read c p rest v e ends = rw (e, ends) refl

  pub heard_of : (c : List ℕ) (n : ℕ) (w : Value) → IsBytes c → (n ≡ 4 → ⊥) → heard lengths edition c ≡ Ok (chosen n w) → InForm lengths (choice (whole_pdus edition)) c (chosen n w)
  unfolding heard
  heard_of c n w fits ne e =
      let s = stepped (valid (sole_part lengths c)) (part_told lengths edition) (chosen n w) e in
      let a = alone lengths c s.0 (valid_is (sole_part lengths c) s.0 s.1) in
      reading_sound lengths (choice (whole_pdus edition)) c (chosen n w) fits
      (choice_read c s.0 a.rest (chosen n w) (chosen_so lengths (whole_pdus edition) c s.0 a.rest (chosen n w) a.first (part_of s.0 n w ne s.2)) a.ends)
