-- The invokeID of a request that is heard is an Unsigned32.
use Rattle.std.proofs.Common.{◌≡◌, ℕ, ℤ, pos, negsuc, ◌<◌, ◌^◌, ◌≤ℤ◌, Bool, true, false, cond, List, Option, Some, None, Result, Ok, Err, refl, ap, subst, ◌∙◌, arith}
use Rattle.ber_core.specs.declared.element.Lengths.{Lengths}
use Rattle.ber_core.specs.Part.{Part}
use Rattle.ber_forms.specs.Fault.{Fault}
use Rattle.ber_forms.specs.Value.{Value, nothing, number, chosen}
use Rattle.ber_forms.specs.Form.{Form, Alternatives, no_other, or, universal, null, unsigned32}
use Rattle.ber_forms.specs.ByNumber.{form_at}
use Rattle.ber_forms.specs.Reading.{◌>>=◌, integer_in, is_tag, has_tag, is_constructed, required_part, optional_part, required_by, reading, alternatives, required_at}
use Rattle.ber_forms.proofs.Sound.{fine_is, bound, integer_within}
use Rattle.mms_types.specs.declared.identifier.Edition.{Edition}
use Rattle.mms_types.specs.declared.semaphore.Modifier.{Modifier}
use Rattle.mms_types.specs.declared.pdu.Request.{Request}
use Rattle.mms_types.specs.declared.pdu.Pdu.{Pdu}
use Rattle.mms_types.specs.declared.pdu.Pdu.TheVariants as pdu
use Rattle.pdu_names.specs.Editions.{lengths_of}
use Rattle.pdu_names.specs.Said.{natural_of}
use Rattle.pdu_assoc.specs.Initiate.{initiate}
use Rattle.pdu_assoc.specs.Heard.{heard_error, heard_reject_form, answered}
use Rattle.mms_pdu.specs.declared.refusal.Refusal.{Refusal}
use Rattle.mms_pdu.specs.declared.refusal.Refusal.TheVariants as refusal
use Rattle.mms_pdu.specs.Services.{requests}
use Rattle.mms_pdu.specs.Pdus.{client_answered, heard_reject}
use Rattle.mms_pdu.specs.Hearing.{Asked, asking, is_pdu, kept_pdus, noted_pdus, valid, and_then, listed, asked_value, modified_value, sole_part, service_of, asked_at, modifier_at, reject_told, service_told, told_with, request_told, part_told, heard}
use Rattle.mms_pdu.specs.Heard.{pdu_of, as_pdu, pdu_heard}

abbrev pub AsksSmall : Pdu → Type 0
AsksSmall (pdu.ConfirmedRequest invoke request) = invoke < 2 ^ 32
AsksSmall (pdu.ModifiedRequest invoke modifier request) = invoke < 2 ^ 32
AsksSmall p = Unit {0}

abbrev pub HeardSmall : Result Pdu Refusal → Type 0
HeardSmall (Ok p) = AsksSmall p
HeardSmall (Err e) = Unit {0}

abbrev IsSmall : Result Value Refusal → Type 0
IsSmall r = HeardSmall (as_pdu r)

natural_small : (n : ℤ) → n ≤ℤ pos 4294967295 → natural_of (number n) < 2 ^ 32
natural_small (pos k) h = grind (arith, h)
natural_small (negsuc k) h = omega arith

module _ (lengths : Lengths) where
  required_small : (c : List ℕ) (x : Value × List ℕ) → required_at lengths (universal 2 unsigned32) c ≡ Ok x → natural_of x.0 < 2 ^ 32
  unfolding required_by
  required_small c x e =
      let b = bound (required_part lengths (is_tag 0 false 2) c) (λ y. reading lengths unsigned32 y.0.contents >>= λ w. Ok (w, y.1)) x e in
      let d = bound (reading lengths unsigned32 b.0.0.contents) (λ w. Ok (w, b.0.1)) x b.2 in
      let f = bound (integer_in (pos 0) (pos 4294967295) b.0.0.contents) (λ n. Ok (number n)) d.0 d.1 in
      let high = (integer_within (pos 0) (pos 4294967295) b.0.0.contents f.0 f.1).1 in
      let is : number f.0 ≡ x.0 = fine_is (number f.0) d.0 f.2 ∙ ap (λ (y : Value × List ℕ). y.0) (fine_is (d.0, b.0.1) x d.2) in
      subst (λ (v : Value). natural_of v < 2 ^ 32) is (natural_small f.0 high)

  asked_small : (c : List ℕ) (a : Asked) → asked_at lengths c ≡ Ok a → a.invoke < 2 ^ 32
  unfolding asked_at
  asked_small c a e =
      let test = is_tag 0 true 16 in
      let i = bound (required_at lengths (universal 2 unsigned32) c) (λ i. optional_part lengths test i.1 >>= λ m. sole_part lengths m.1 >>= λ p. service_of p >>= λ s. Ok (asking (natural_of i.0) m.0 s)) a e in
      let m = bound (optional_part lengths test i.0.1) (λ m. sole_part lengths m.1 >>= λ p. service_of p >>= λ s. Ok (asking (natural_of i.0.0) m.0 s)) a i.2 in
      let p = bound (sole_part lengths m.0.1) (λ p. service_of p >>= λ s. Ok (asking (natural_of i.0.0) m.0.0 s)) a m.2 in
      let s = bound (service_of p.0) (λ s. Ok (asking (natural_of i.0.0) m.0.0 s)) a p.2 in
      let is = fine_is (asking (natural_of i.0.0) m.0.0 s.0) a s.2 in
      subst (λ (b : Asked). b.invoke < 2 ^ 32) is (required_small c i.0 i.1)

  or_small : (n : ℕ) (f : Form) (others : Alternatives) (p : Part) → ((w : Value) → AsksSmall (pdu_of (chosen n w))) → IsSmall (valid (alternatives lengths others p))
      → IsSmall (valid (alternatives lengths (or n f others) p))
  or_small n f others p this later = by_tag (is_tag 2 (is_constructed f) n p.tag) (reading lengths f p.contents)
    where
      by_tag : (b : Bool) (r : Result Value Fault) → IsSmall (valid (cond b (r >>= λ w. Ok (chosen n w)) (alternatives lengths others p)))
      by_tag true (Ok w) = this w
      by_tag true (Err e) = tt
      by_tag false r = later

module _ (lengths : Lengths) (edition : Edition) where
  request_small : (a : Asked) → a.invoke < 2 ^ 32 → IsSmall (request_told lengths edition a)
  unfolding request_told
  request_small a small = by_list a.modifiers
    where
      plain : (r : Result Value Refusal) → IsSmall (and_then r (λ v. Ok (asked_value a.invoke v)))
      plain (Ok v) = small
      plain (Err e) = tt

      modified : (m : Value) (r : Result Value Refusal) → IsSmall (and_then r (λ v. Ok (modified_value a.invoke m v)))
      modified m (Ok v) = small
      modified m (Err e) = tt

      with_list : (r t : Result Value Refusal) → IsSmall (and_then r (λ m. and_then t (λ v. Ok (modified_value a.invoke m v))))
      with_list (Ok m) t = modified m t
      with_list (Err e) t = tt

      by_list : (o : Option Part) → IsSmall (told_with lengths edition a.invoke o a.service)
      by_list None = plain (service_told lengths edition a.invoke a.service)
      by_list (Some list) = with_list (listed a.invoke (modifier_at lengths edition list a.service)) (service_told lengths edition a.invoke a.service)

  asked_told : (c : List ℕ) → IsSmall (and_then (valid (asked_at lengths c)) (request_told lengths edition))
  asked_told c = by_asked (asked_at lengths c) refl
    where
      by_asked : (r : Result Asked Fault) → asked_at lengths c ≡ r → IsSmall (and_then (valid r) (request_told lengths edition))
      by_asked (Ok a) e = request_small a (asked_small lengths c a e)
      by_asked (Err e) is = tt

  reject_small : (c : List ℕ) → IsSmall (reject_told lengths edition c)
  unfolding reject_told
  reject_small c = by_elements (reading lengths heard_reject_form c)
    where
      by_elements : (r : Result Value Fault) → IsSmall (and_then (valid r) (λ _. Ok (chosen 4 (heard_reject.value (answered (reading lengths (heard_error.form edition) c))))))
      by_elements (Ok w) = tt
      by_elements (Err e) = tt

  none_small : (p : Part) → IsSmall (valid (alternatives lengths no_other p))
  none_small p = tt

  kept_small : (p : Part) → IsSmall (valid (alternatives lengths (kept_pdus edition) p))
  kept_small p =
      let from_11 = or 11 null no_other in
      let from_8 = or 8 (initiate.form edition) from_11 in
      let from_5 = or 5 unsigned32 from_8 in
      let from_2 = or 2 (heard_error.form edition) from_5 in
      or_small lengths 1 (client_answered.form edition) from_2 p (λ w. tt)
      (or_small lengths 2 (heard_error.form edition) from_5 p (λ w. tt)
      (or_small lengths 5 unsigned32 from_8 p (λ w. tt)
      (or_small lengths 8 (initiate.form edition) from_11 p (λ w. tt)
      (or_small lengths 11 null no_other p (λ w. tt) (none_small p)))))

  part_small : (p : Part) → IsSmall (part_told lengths edition p)
  unfolding part_told
  part_small p = by_tag (is_pdu p.tag) (is_tag 2 true 0 p.tag) (is_tag 2 true 4 p.tag) (has_tag noted_pdus p.tag)
    where
      by_tag : (a b c d : Bool)
          → IsSmall (cond a (cond b (and_then (valid (asked_at lengths p.contents)) (request_told lengths edition))
          (cond c (reject_told lengths edition p.contents) (cond d (Ok nothing) (valid (alternatives lengths (kept_pdus edition) p))))) (Err refusal.UnknownType))
      by_tag false b c d = tt
      by_tag true true c d = asked_told p.contents
      by_tag true false true d = reject_small p.contents
      by_tag true false false true = tt
      by_tag true false false false = kept_small p

pub heard_small : (edition : Edition) (octets : List ℕ) → HeardSmall (pdu_heard edition octets)
unfolding heard
heard_small edition octets = by_sole (sole_part (lengths_of edition) octets)
  where
    by_sole : (r : Result Part Fault) → IsSmall (and_then (valid r) (part_told (lengths_of edition) edition))
    by_sole (Ok p) = part_small (lengths_of edition) edition p
    by_sole (Err e) = tt

pub request_heard : (edition : Edition) (octets : List ℕ) (invoke : ℕ) (asked : Request) → pdu_heard edition octets ≡ Ok (pdu.ConfirmedRequest invoke asked) → invoke < 2 ^ 32
request_heard edition octets invoke asked e = subst HeardSmall e (heard_small edition octets)

pub modified_heard : (edition : Edition) (octets : List ℕ) (invoke : ℕ) (modifier : Modifier) (asked : Request) → pdu_heard edition octets ≡ Ok (pdu.ModifiedRequest invoke modifier asked) → invoke < 2 ^ 32
modified_heard edition octets invoke modifier asked e = subst HeardSmall e (heard_small edition octets)
