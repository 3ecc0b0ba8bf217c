-- A request for a token that is heard tells an acceptable delay and a control time-out of 32 bits at most.
use Rattle.std.proofs.Common.{◌≡◌, ℕ, ◌≤◌, ℤ, pos, negsuc, ◌≤ℤ◌, Bool, true, false, cond, ◌==◌, List, Option, None, Some, Result, Ok, Err, refl, sym, ◌∙◌, ap, subst, arith}
use Rattle.std.proofs.lemmas.Bool.{eqb-true}
use Rattle.ber_core.specs.Part.{Part}
use Rattle.ber_core.specs.declared.element.Lengths.{Lengths}
use Rattle.ber_forms.specs.ByNumber.{form_at}
use Rattle.ber_forms.specs.Fault.{Fault}
use Rattle.ber_forms.specs.Fault as fault
use Rattle.ber_forms.specs.Fits.{IfGiven}
use Rattle.ber_forms.specs.Form.{Form, Member, Alternatives, Components, integer, sequence, tagged, no_other, or, no_more, any_more, required, optional, defaulted, skipped}
use Rattle.ber_forms.specs.Reading.{◌>>=◌, is_constructed, is_tag, has_tag, integer_in, read_slot, optional_part, optional_by, reading, alternatives, required_at, optional_at, components, defaulting}
use Rattle.ber_forms.specs.Value.{Value, Slot, Slots, nothing, number, chosen, parts, missing, given, done, slot}
use Rattle.ber_forms.proofs.Sound.{fine, bound, fine_is, integer_within}
use Rattle.pdu_names.specs.Said.{natural_of, if_given}
use Rattle.pdu_sems.specs.Control.{take_control}
use Rattle.mms_types.specs.declared.identifier.Edition.{Edition}
use Rattle.mms_types.specs.declared.pdu.Pdu.{Pdu}
use Rattle.mms_types.specs.declared.pdu.Pdu.TheVariants as pdu
use Rattle.mms_types.specs.declared.pdu.Request.{Request}
use Rattle.mms_types.specs.declared.pdu.Request.TheVariants as request
use Rattle.mms_types.specs.declared.semaphore.TakeControl.{TakeControl}
use Rattle.mms_pdu.specs.declared.refusal.Refusal.{Refusal}
use Rattle.mms_pdu.specs.declared.refusal.Refusal.TheVariants as refusal
use Rattle.mms_pdu.specs.Heard.{as_pdu, pdu_heard, pdu_of}
use Rattle.mms_pdu.specs.Hearing.{Asked, and_then, argued, asked_at, asked_value, heard, is_pdu, kept_pdus, listed, modified_value, modifier_at, noted_pdus, part_told, reject_told, request_told, served, service_told, sole_part, told_with, valid}
use Rattle.mms_pdu.specs.Services.{request_shares, requests}
use Rattle.pdu_areas.specs.Joined.{joined}
use Rattle.pdu_areas.specs.Services.{arms_of}
use Rattle.pdu_names.specs.Kinds.{Arms}
use Rattle.pdu_names.specs.Editions.{lengths_of}

-- ---- components that are numbers lie in their range

abbrev InRange : Member → Value → Type 0
InRange (tagged class n (integer low high)) v = (k : ℤ) × (low ≤ℤ k) × (k ≤ℤ high) × (number k ≡ v)
InRange m v = Unit {0}

-- those that may be missing
abbrev AreInRange : Components → Slots → Type 0
AreInRange no_more vs = Unit {0}
AreInRange any_more vs = Unit {0}
AreInRange (required m cs) (slot s vs) = AreInRange cs vs
AreInRange (optional m cs) (slot s vs) = IfGiven (InRange m) s × AreInRange cs vs
AreInRange (defaulted w m d cs) (slot s vs) = AreInRange cs vs
AreInRange (skipped m cs) vs = Unit {0}
AreInRange cs done = ⊥

if-each : (F : Value → Type 0) → ((v : Value) → F v) → (s : Slot) → IfGiven F s
if-each F each missing = tt
if-each F each (given v) = each v

module _ (lengths : Lengths) where
  number-within : (low high : ℤ) (c : List ℕ) (v : Value) → reading lengths (integer low high) c ≡ Ok v → (k : ℤ) × (low ≤ℤ k) × (k ≤ℤ high) × (number k ≡ v)
  number-within low high c v e =
      let x = bound (integer_in low high c) (λ n. fine (number n)) v e in
      let within = integer_within low high c x.0 x.1 in
      (x.0, within.0, within.1, fine_is (number x.0) v x.2)

  slot-within : (m : Member) (read : Part → Result Value Fault) → ((p : Part) (v : Value) → read p ≡ Ok v → InRange m v)
      → (o : Option Part) (s : Slot) → read_slot read o ≡ Ok s → IfGiven (InRange m) s
  slot-within m read each None s e = subst (IfGiven (InRange m)) (fine_is missing s e) tt
  slot-within m read each (Some p) s e =
      let x = bound (read p) (λ v. fine (given v)) s e in
      subst (IfGiven (InRange m)) (fine_is (given x.0) s x.2) (each p x.0 x.1)

  optional-within : (m : Member) (c : List ℕ) (x : Slot × List ℕ) → optional_at lengths m c ≡ Ok x → IfGiven (InRange m) x.0
  unfolding optional_by
  optional-within (tagged class n (integer low high)) c x e =
      let read : Part → Result Value Fault = λ p. reading lengths (integer low high) p.contents in
      let y = bound (optional_part lengths (is_tag class false n) c) (λ y. read_slot read y.0 >>= λ v. fine (v, y.1)) x e in
      let s = bound (read_slot read y.0.0) (λ v. fine (v, y.0.1)) x y.2 in
      let is : (s.0, y.0.1) ≡ x = fine_is (s.0, y.0.1) x s.2 in
      subst (λ (z : Slot × List ℕ). IfGiven (InRange (tagged class n (integer low high))) z.0) is
      (slot-within (tagged class n (integer low high)) read (λ p v h. number-within low high p.contents v h) y.0.0 s.0 s.1)
  optional-within m c x e = if-each (InRange m) (λ v. tt) x.0

  components-within : (cs : Components) (c : List ℕ) (vs : Slots) → components lengths cs c ≡ Ok vs → AreInRange cs vs
  components-within no_more c vs e = tt
  components-within any_more c vs e = tt
  components-within (required m cs) c vs e =
      let x = bound (required_at lengths m c) (λ x. components lengths cs x.1 >>= λ vs. fine (slot (given x.0) vs)) vs e in
      let y = bound (components lengths cs x.0.1) (λ vs. fine (slot (given x.0.0) vs)) vs x.2 in
      subst (AreInRange (required m cs)) (fine_is (slot (given x.0.0) y.0) vs y.2) (components-within cs x.0.1 y.0 y.1)
  components-within (optional m cs) c vs e =
      let x = bound (optional_at lengths m c) (λ x. components lengths cs x.1 >>= λ vs. fine (slot x.0 vs)) vs e in
      let y = bound (components lengths cs x.0.1) (λ vs. fine (slot x.0.0 vs)) vs x.2 in
      subst (AreInRange (optional m cs)) (fine_is (slot x.0.0 y.0) vs y.2) (optional-within m c x.0 x.1, components-within cs x.0.1 y.0 y.1)
  components-within (defaulted w m d cs) c vs e =
      let x = bound (defaulting d (optional_at lengths m c)) (λ x. components lengths cs x.1 >>= λ vs. fine (slot x.0 vs)) vs e in
      let y = bound (components lengths cs x.0.1) (λ vs. fine (slot x.0.0 vs)) vs x.2 in
      subst (AreInRange (defaulted w m d cs)) (fine_is (slot x.0.0 y.0) vs y.2) (components-within cs x.0.1 y.0 y.1)
  components-within (skipped m cs) c vs e = tt

-- ---- a request for a token

-- a number of 32 bits at most, if there is one
abbrev pub Few : Option ℕ → Type 0
Few None = Unit {0}
Few (Some ms) = ms ≤ 4294967295

pub record AsksFew (asked : TakeControl) : Type 0 where
  pub delay : Few asked.delay
  pub control : Few asked.control

natural-few : (k : ℤ) → k ≤ℤ pos 4294967295 → natural_of (number k) ≤ 4294967295
natural-few (pos n) le = grind (arith, le)
natural-few (negsuc n) le = omega arith

slot-few : (n : ℕ) (s : Slot) → IfGiven (InRange (tagged 2 n (integer (pos 0) (pos 4294967295)))) s → Few (if_given natural_of s)
slot-few n missing h = tt
slot-few n (given v) h = subst (λ (w : Value). natural_of w ≤ 4294967295) h.3 (natural-few h.0 h.2)

-- a service asks for no token, or for one so
abbrev pub FewAsked : Request → Type 0
FewAsked (request.TakeControl x) = AsksFew x
FewAsked other = Unit {0}

pub record RequestFew (asked : Request) : Type 0 where
  pub few : FewAsked asked

-- ---- and whatever else is heard

abbrev PduFew : Pdu → Type 0
PduFew (pdu.ConfirmedRequest invoke asked) = RequestFew asked
PduFew p = Unit {0}

abbrev Good : Result Value Refusal → Type 0
Good (Ok v) = PduFew (pdu_of v)
Good (Err e) = Unit {0}

either : (b : Bool) (x y : Request) → RequestFew x → RequestFew y → RequestFew (cond b x y)
either true x y few more = few
either false x y few more = more

second : (b : Bool) (x y : Request) → b ≡ false → RequestFew y → RequestFew (cond b x y)
second true x y none more = absurd (cc none)
second false x y none more = more

-- what clients ask
abbrev asked_arms : Arms Request
asked_arms = arms_of request.Identify (joined request_shares)

-- other services than that of number 19
other-few : (n : ℕ) (v : Value) → (n == 19) ≡ false → RequestFew (asked_arms.made n v)
other-few n v none =
    either (n == 0) _ _ (record { few = tt })
    (either (n == 1) _ _ (record { few = tt })
    (either (n == 2) _ _ (record { few = tt })
    (either (n == 4) _ _ (record { few = tt })
    (either (n == 5) _ _ (record { few = tt })
    (either (n == 6) _ _ (record { few = tt })
    (either (n == 7) _ _ (record { few = tt })
    (either (n == 10) _ _ (record { few = tt })
    (either (n == 11) _ _ (record { few = tt })
    (either (n == 12) _ _ (record { few = tt })
    (either (n == 13) _ _ (record { few = tt })
    (second (n == 19) _ _ none
    (either (n == 20) _ _ (record { few = tt })
    (either (n == 21) _ _ (record { few = tt })
    (either (n == 22) _ _ (record { few = tt })
    (either (n == 23) _ _ (record { few = tt })
    (either (n == 24) _ _ (record { few = tt })
    (either (n == 25) _ _ (record { few = tt })
    (either (n == 26) _ _ (record { few = tt })
    (either (n == 29) _ _ (record { few = tt })
    (either (n == 30) _ _ (record { few = tt })
    (either (n == 31) _ _ (record { few = tt })
    (either (n == 36) _ _ (record { few = tt })
    (either (n == 37) _ _ (record { few = tt })
    (either (n == 38) _ _ (record { few = tt })
    (either (n == 39) _ _ (record { few = tt })
    (either (n == 40) _ _ (record { few = tt })
    (either (n == 41) _ _ (record { few = tt })
    (either (n == 42) _ _ (record { few = tt })
    (either (n == 43) _ _ (record { few = tt })
    (either (n == 44) _ _ (record { few = tt })
    (either (n == 45) _ _ (record { few = tt })
    (either (n == 47) _ _ (record { few = tt })
    (either (n == 48) _ _ (record { few = tt })
    (either (n == 50) _ _ (record { few = tt })
    (either (n == 51) _ _ (record { few = tt })
    (either (n == 52) _ _ (record { few = tt })
    (either (n == 57) _ _ (record { few = tt })
    (either (n == 58) _ _ (record { few = tt })
    (either (n == 65) _ _ (record { few = tt })
    (either (n == 66) _ _ (record { few = tt })
    (either (n == 67) _ _ (record { few = tt })
    (either (n == 68) _ _ (record { few = tt })
    (either (n == 69) _ _ (record { few = tt })
    (either (n == 70) _ _ (record { few = tt }) (record { few = tt })))))))))))))))))))))))))))))))))))))))))))))

abbrev members : Form → Components
members (sequence cs) = cs
members f = no_more

kept-one : (n : ℕ) → ((v : Value) → PduFew (pdu_of (chosen n v))) → (b : Bool) (r q : Result Value Fault) → Good (valid q) → Good (valid (cond b (r >>= λ v. fine (chosen n v)) q))
kept-one n each true (Ok v) q more = each v
kept-one n each true (Err e) q more = tt
kept-one n each false r q more = more

-- none of them is a request
abbrev Harmless : Alternatives → Type 0
Harmless no_other = Unit {0}
Harmless (or n f others) = ((v : Value) → PduFew (pdu_of (chosen n v))) × Harmless others

noted : (w : Value) (r : Result Value Refusal) → Good (and_then r (λ x. Ok (chosen 4 w)))
noted w (Ok x) = tt
noted w (Err e) = tt

module _ (lengths : Lengths) (edition : Edition) where
  slots-few : (vs : Slots) → AreInRange (members (take_control.form edition)) vs → AsksFew (take_control.said (parts vs))
  slots-few done h = absurd h
  slots-few (slot a done) h = absurd h
  slots-few (slot a (slot b done)) h = absurd h.1
  slots-few (slot a (slot b (slot p done))) h = absurd h.1
  slots-few (slot a (slot b (slot p (slot d done)))) h = absurd h.1.1
  slots-few (slot a (slot b (slot p (slot d (slot t rest))))) h = record { delay = slot-few 3 d h.1.0; control = slot-few 4 t h.1.1.0 }

  take-few : (c : List ℕ) (v : Value) → reading lengths (take_control.form edition) c ≡ Ok v → AsksFew (take_control.said v)
  take-few c v e =
      let x = bound (components lengths (members (take_control.form edition)) c) (λ vs. fine (parts vs)) v e in
      subst (λ (w : Value). AsksFew (take_control.said w)) (fine_is (parts x.0) v x.2)
      (slots-few x.0 (components-within lengths (members (take_control.form edition)) c x.0 x.1))

  read-few : (n : ℕ) (f : Form) (c : List ℕ) (w : Value) → form_at n (requests.alternatives edition) ≡ Some f → reading lengths f c ≡ Ok w → RequestFew (requests.said (chosen n w))
  unfolding requests
  read-few n f c w found e = by_test (n == 19) refl
    where
      by_test : (b : Bool) → (n == 19) ≡ b → RequestFew (asked_arms.made n w)
      by_test false h = other-few n w h
      by_test true h = subst (λ (k : ℕ). form_at k (asked_arms.alternatives edition) ≡ Some f → RequestFew (asked_arms.made k w)) (sym (eqb-true n 19 h))
          (λ g.
          let same : take_control.form edition ≡ f = cc g in
          record { few = take-few c w (ap (λ (x : Form). reading lengths x c) same ∙ e) }) found

  good-served : (invoke : ℕ) (p : Part) (o : Option Form) → form_at p.tag.number (requests.alternatives edition) ≡ o
      → Good (and_then (served lengths invoke p o) (λ v. Ok (asked_value invoke v)))
  good-served invoke p None found = tt
  good-served invoke p (Some f) found = by_tag (is_tag 2 (is_constructed f) p.tag.number p.tag)
    where
      by_read : (r : Result Value Fault) → reading lengths f p.contents ≡ r → Good (and_then (argued invoke (r >>= λ v. fine (chosen p.tag.number v))) (λ v. Ok (asked_value invoke v)))
      by_read (Ok w) e = read-few p.tag.number f p.contents w found e
      by_read (Err fault.malformed) e = tt
      by_read (Err fault.too_deep) e = tt

      by_tag : (b : Bool) → Good (and_then (argued invoke (cond b (reading lengths f p.contents >>= λ v. fine (chosen p.tag.number v)) (Err fault.malformed))) (λ v. Ok (asked_value invoke v)))
      by_tag true = by_read (reading lengths f p.contents) refl
      by_tag false = tt

  good-request : (asked : Asked) → Good (request_told lengths edition asked)
  unfolding request_told
  good-request asked = by_list asked.modifiers
    where
      by_service : (m : Value) (t : Result Value Refusal) → Good (and_then t (λ v. Ok (modified_value asked.invoke m v)))
      by_service m (Ok v) = tt
      by_service m (Err e) = tt

      by_modifier : (r t : Result Value Refusal) → Good (and_then r (λ m. and_then t (λ v. Ok (modified_value asked.invoke m v))))
      by_modifier (Ok m) t = by_service m t
      by_modifier (Err e) t = tt

      by_list : (o : Option Part) → Good (told_with lengths edition asked.invoke o asked.service)
      by_list None = good-served asked.invoke asked.service (form_at asked.service.tag.number (requests.alternatives edition)) refl
      by_list (Some list) = by_modifier (listed asked.invoke (modifier_at lengths edition list asked.service)) (service_told lengths edition asked.invoke asked.service)

  good-reject : (c : List ℕ) → Good (reject_told lengths edition c)
  unfolding reject_told
  good-reject c = noted _ _

  good-alternatives : (others : Alternatives) → Harmless others → (p : Part) → Good (valid (alternatives lengths others p))
  good-alternatives no_other h p = tt
  good-alternatives (or n f others) h p =
      kept-one n h.0 (is_tag 2 (is_constructed f) n p.tag) (reading lengths f p.contents) (alternatives lengths others p) (good-alternatives others h.1 p)

  good-kept : (p : Part) → Good (valid (alternatives lengths (kept_pdus edition) p))
  good-kept p = good-alternatives (kept_pdus edition) (λ v. tt, (λ v. tt, (λ v. tt, (λ v. tt, (λ v. tt, tt))))) p

  good-part : (p : Part) → Good (part_told lengths edition p)
  unfolding part_told
  good-part p = by_tags (is_pdu p.tag) (is_tag 2 true 0 p.tag) (is_tag 2 true 4 p.tag) (has_tag noted_pdus p.tag)
    where
      by_asked : (r : Result Asked Refusal) → Good (and_then r (request_told lengths edition))
      by_asked (Ok asked) = good-request asked
      by_asked (Err e) = tt

      by_tags : (a b d f : Bool)
          → Good (cond a (cond b (and_then (valid (asked_at lengths p.contents)) (request_told lengths edition)) (cond d (reject_told lengths edition p.contents)
          (cond f (Ok nothing) (valid (alternatives lengths (kept_pdus edition) p))))) (Err refusal.UnknownType))
      by_tags false b d f = tt
      by_tags true true d f = by_asked (valid (asked_at lengths p.contents))
      by_tags true false true f = good-reject p.contents
      by_tags true false false true = tt
      by_tags true false false false = good-kept p

  good-heard : (octets : List ℕ) → Good (heard lengths edition octets)
  unfolding heard
  good-heard octets = by_part (valid (sole_part lengths octets))
    where
      by_part : (r : Result Part Refusal) → Good (and_then r (part_told lengths edition))
      by_part (Ok p) = good-part p
      by_part (Err e) = tt

-- ---- as a PDU

abbrev pub HeardFew : Result Pdu Refusal → Type 0
HeardFew (Ok (pdu.ConfirmedRequest invoke asked)) = RequestFew asked
HeardFew heard = Unit {0}

pub heard-few : (edition : Edition) (octets : List ℕ) → HeardFew (pdu_heard edition octets)
heard-few edition octets = by_value (heard (lengths_of edition) edition octets) (good-heard (lengths_of edition) edition octets)
  where
    by_pdu : (p : Pdu) → PduFew p → HeardFew (Ok p)
    by_pdu (pdu.ConfirmedRequest invoke asked) few = few
    by_pdu p few = tt

    by_value : (r : Result Value Refusal) → Good r → HeardFew (as_pdu r)
    by_value (Ok v) good = by_pdu (pdu_of v) good
    by_value (Err e) good = tt
