-- The refusal that is told is that of the first cause that holds.
use Rattle.std.proofs.Common.{◌≡◌, ◌≢◌, ◌⊎◌, ℕ, inl, inr, Bool, true, false, cond, eqb, List, Option, Some, None, Result, Ok, Err, refl, sym, ap, subst, ◌∙◌}
use Rattle.std.specs.Prelude.{[], ◌↔◌}
use Rattle.ber_core.specs.declared.element.Lengths.{Lengths}
use Rattle.ber_core.specs.Part.{Part}
use Rattle.ber_core.specs.Element.{IsElement}
use Rattle.ber_core.proofs.Definites.{IsBytes}
use Rattle.ber_core.proofs.Elements.{one_element}
use Rattle.ber_forms.specs.Fault.{Fault}
use Rattle.ber_forms.specs.Fault as fault
use Rattle.ber_forms.specs.Value.{Value, nothing, text, chosen}
use Rattle.ber_forms.specs.Form.{Form, Alternatives, no_other, or, choice}
use Rattle.ber_forms.specs.Reading.{◌>>=◌, is_tag, has_tag, reading, alternatives}
use Rattle.ber_forms.specs.ByNumber.{has_number, form_at, read_as}
use Rattle.ber_forms.specs.InForm.{InForm, IsAlternative}
use Rattle.ber_forms.proofs.Sound.{fine_is, reading_sound, alternatives_sound}
use Rattle.ber_forms.proofs.Complete.{reading_complete}
use Rattle.ber_forms.proofs.Numbered.{tag_class, sound_distinct, by_number}
use Rattle.mms_types.specs.declared.identifier.Edition.{Edition}
use Rattle.mms_types.specs.declared.identifier.Edition.TheVariants.{One, Two}
use Rattle.mms_types.specs.FirstCause.{◌else◌, told, Tells, now, later}
use Rattle.mms_types.specs.declared.pdu.Pdu.{Pdu}
use Rattle.pdu_names.specs.Editions.{lengths_of}
use Rattle.pdu_sems.specs.Control.{modifiers}
use Rattle.pdu_assoc.specs.Heard.{heard_error, heard_reject_form, answered}
use Rattle.mms_pdu.specs.declared.refusal.Refusal.{Refusal}
use Rattle.mms_pdu.specs.declared.refusal.Refusal.TheVariants as refusal
use Rattle.mms_pdu.specs.Services.{requests, requests_sound}
use Rattle.mms_pdu.specs.Pdus.{heard_reject, may_wait}
use Rattle.mms_pdu.specs.Hearing.{Asked, is_pdu, kept_pdus, noted_pdus, noted_and, valid, and_then, argued, listed, asked_value, modified_value, served, sole_part, asked_at, modifier_at, reject_told, service_told, told_with, request_told, part_told, heard, Hears}
use Rattle.mms_pdu.specs.Heard.{as_pdu, pdu_heard}
use Rattle.mms_pdu.specs.Refused.{Asks, other_pdus, IsNoElement, HasUnknownTag, IsNoPdu, IsBadList, HasBadList, IsNotOffered, NestsTooDeep, HasBadArgument, of_request, IsRefused, RefusesFirst}
use Rattle.mms_pdu.proofs.Whole.{alternative_tag}
use Rattle.mms_pdu.proofs.Causes.{AskedSo, sole_is, sole_only, one_only, one_deep, one_deep_only, asked_is, asks_part}

-- ---- the first cause

abbrev refusal_in : {A : Type 0} → Result A Refusal → Option Refusal
refusal_in (Ok x) = None
refusal_in (Err r) = Some r

-- ---- numbers

no_form : (k : ℕ) (others : Alternatives) → form_at k others ≡ None → has_number others k ≡ false
no_form k no_other e = refl
no_form k (or n f others) e = by_number (eqb k n) e (no_form k others)
  where
    by_number : (b : Bool) → cond b (Some f) (form_at k others) ≡ None → (form_at k others ≡ None → has_number others k ≡ false) → cond b true (has_number others k) ≡ false
    by_number true e rest = absurd cc
    by_number false e rest = rest e

some_form : (k : ℕ) (others : Alternatives) (f : Form) → form_at k others ≡ Some f → has_number others k ≡ true
some_form k no_other f e = absurd cc
some_form k (or n g others) f e = by_number (eqb k n) e (some_form k others f)
  where
    by_number : (b : Bool) → cond b (Some g) (form_at k others) ≡ Some f → (form_at k others ≡ Some f → has_number others k ≡ true) → cond b true (has_number others k) ≡ true
    by_number true e rest = refl
    by_number false e rest = rest e

not_both : {P : Type 0} (b : Bool) → b ≡ true → b ≡ false → P
not_both b e f = absurd (cc (e, f))

-- ---- a list of modifiers

abbrev some : Part → Option Part
some p = Some p

some_is : (p q : Part) → some p ≡ some q → p ≡ q
some_is p q e = cc e

module _ (lengths : Lengths) where
  -- one that is read is good
  good_list : (edition : Edition) (list service : Part) (m : Value) → IsBytes list.contents → modifier_at lengths edition list service ≡ Ok m → IsBadList lengths edition list service → ⊥
  good_list One list service m fits e bad = absurd cc
  good_list Two list service m fits e bad = by_number (may_wait service.tag.number) refl e bad
    where
      by_number : (b : Bool) → may_wait service.tag.number ≡ b → cond b (reading lengths (modifiers.form Two) list.contents) (Err fault.malformed) ≡ Ok m
          → (may_wait service.tag.number ≡ false) ⊎ ((v : Value) → InForm lengths (modifiers.form Two) list.contents v → ⊥) → ⊥
      by_number false n f bad = absurd cc
      by_number true n f (inl refused) = not_both (may_wait service.tag.number) n refused
      by_number true n f (inr none) = none m (reading_sound lengths (modifiers.form Two) list.contents m fits f)

  -- and one that can't be read is bad
  bad_list : (edition : Edition) (list service : Part) (d : Fault) → IsBytes list.contents → modifier_at lengths edition list service ≡ Err d → IsBadList lengths edition list service
  bad_list One list service d fits e = tt
  bad_list Two list service d fits e = by_number (may_wait service.tag.number) refl e
    where
      by_number : (b : Bool) → may_wait service.tag.number ≡ b → cond b (reading lengths (modifiers.form Two) list.contents) (Err fault.malformed) ≡ Err d
          → (may_wait service.tag.number ≡ false) ⊎ ((v : Value) → InForm lengths (modifiers.form Two) list.contents v → ⊥)
      by_number false n f = inl n
      by_number true n f = inr (λ v h. absurd (cc (f, reading_complete lengths (modifiers.form Two) list.contents v h)))

module _ (lengths : Lengths) (edition : Edition) (octets : List ℕ) where
  abbrev NoElement : Refusal → Type 0
  NoElement = told refusal.InvalidPdu (IsNoElement lengths edition octets)

  abbrev UnknownTag : Refusal → Type 0
  UnknownTag = told refusal.UnknownType (HasUnknownTag lengths edition octets)

  abbrev NoPdu : Refusal → Type 0
  NoPdu = told refusal.InvalidPdu (IsNoPdu lengths edition octets)

  abbrev Modified : Refusal → Type 0
  Modified = of_request lengths octets refusal.Modifier (HasBadList lengths edition)

  abbrev NotOffered : Refusal → Type 0
  NotOffered = of_request lengths octets refusal.Service (IsNotOffered lengths edition)

  abbrev TooDeep : Refusal → Type 0
  TooDeep = of_request lengths octets refusal.Recursion (NestsTooDeep lengths edition)

  abbrev BadArgument : Refusal → Type 0
  BadArgument = of_request lengths octets refusal.Argument (HasBadArgument lengths edition)

  abbrev FromRequests : Refusal → Type 0
  FromRequests = Modified else NotOffered else TooDeep else BadArgument

  others : Alternatives
  others = requests.alternatives edition

  -- ---- a confirmed-Request

  module _ (a : Asked) (k : Asks lengths octets a) (unique : (b : Asked) → Asks lengths octets b → b ≡ a) where
    holds : (told : ℕ → Refusal) (Cause : Asked → Type 0) → Cause a → Tells (of_request lengths octets told Cause) (Some (told a.invoke))
    holds told Cause h = ((a, k, h, refl), λ r c. c.3 ∙ ap (λ (b : Asked). told b.invoke) (unique c.0 c.1))

    holds_not : (told : ℕ → Refusal) (Cause : Asked → Type 0) → (Cause a → ⊥) → Tells (of_request lengths octets told Cause) None
    holds_not told Cause h = λ r c. h (subst Cause (unique c.0 c.1) c.2)

    request_tells : (c : List ℕ) → AskedSo lengths c a → Tells FromRequests (refusal_in (request_told lengths edition a))
    unfolding request_told
    request_tells c so = by_list a.modifiers refl
      where
        is : alternatives lengths (requests.alternatives edition) a.service ≡ read_as lengths a.service (form_at a.service.tag.number (requests.alternatives edition))
        is = by_number lengths a.service (requests.alternatives edition) (sound_distinct (requests.alternatives edition) (requests_sound edition))

        not_deep : (r : Result Value Fault) → alternatives lengths (requests.alternatives edition) a.service ≡ r → r ≢ Err fault.too_deep → NestsTooDeep lengths edition a → ⊥
        not_deep r e ne h = ne (sym e ∙ one_deep_only lengths (requests.alternatives edition) so.service a.service so.service_is h)

        by_read : (made : Value → Value) (r : Result Value Fault) → alternatives lengths (requests.alternatives edition) a.service ≡ r
            → Tells (TooDeep else BadArgument) (refusal_in (and_then (argued a.invoke r) (λ v. Ok (made v))))
        by_read made (Ok v) e =
            later TooDeep BadArgument None (holds_not refusal.Recursion (NestsTooDeep lengths edition) (not_deep (Ok v) e (λ f. absurd cc)))
            (holds_not refusal.Argument (HasBadArgument lengths edition) (λ bad. bad v (alternatives_sound lengths (requests.alternatives edition) a.service v so.inner_fits e)))
        by_read made (Err fault.too_deep) e =
            now TooDeep BadArgument (refusal.Recursion a.invoke)
            (holds refusal.Recursion (NestsTooDeep lengths edition) (one_deep lengths (requests.alternatives edition) so.service a.service so.fits so.service_is e))
        by_read made (Err fault.malformed) e =
            later TooDeep BadArgument (Some (refusal.Argument a.invoke)) (holds_not refusal.Recursion (NestsTooDeep lengths edition) (not_deep (Err fault.malformed) e (λ f. absurd cc)))
            (holds refusal.Argument (HasBadArgument lengths edition) (λ v h. absurd (cc (e, one_only lengths (requests.alternatives edition) so.service a.service v so.service_is h))))

        by_form : (made : Value → Value) (o : Option Form) → form_at a.service.tag.number (requests.alternatives edition) ≡ o
            → Tells (NotOffered else TooDeep else BadArgument) (refusal_in (and_then (served lengths a.invoke a.service o) (λ v. Ok (made v))))
        by_form made None e =
            now NotOffered (TooDeep else BadArgument) (refusal.Service a.invoke)
            (holds refusal.Service (IsNotOffered lengths edition) (no_form a.service.tag.number (requests.alternatives edition) e))
        by_form made (Some f) e =
            let there = some_form a.service.tag.number (requests.alternatives edition) f e in
            let read = read_as lengths a.service (Some f) in
            later NotOffered (TooDeep else BadArgument) (refusal_in (and_then (argued a.invoke read) (λ v. Ok (made v))))
            (holds_not refusal.Service (IsNotOffered lengths edition) (λ h. not_both (has_number (requests.alternatives edition) a.service.tag.number) there h))
            (by_read made read (is ∙ ap (λ (o : Option Form). read_as lengths a.service o) e))

        service : (made : Value → Value) → Tells (NotOffered else TooDeep else BadArgument) (refusal_in (and_then (service_told lengths edition a.invoke a.service) (λ v. Ok (made v))))
        service made = by_form made (form_at a.service.tag.number (requests.alternatives edition)) refl

        -- the list is refused, or the request is told as one without
        by_modifier : (list : Part) → a.modifiers ≡ Some list → (r : Result Value Fault) → modifier_at lengths edition list a.service ≡ r
            → Tells FromRequests (refusal_in (and_then (listed a.invoke r) (λ m. and_then (service_told lengths edition a.invoke a.service) (λ v. Ok (modified_value a.invoke m v)))))
        by_modifier list some (Ok m) e =
            later Modified (NotOffered else TooDeep else BadArgument) (refusal_in (and_then (service_told lengths edition a.invoke a.service) (λ v. Ok (modified_value a.invoke m v))))
            (holds_not refusal.Modifier (HasBadList lengths edition) (λ h.
            let same : h.0 ≡ list = some_is h.0 list (sym h.1 ∙ some) in
            good_list lengths edition list a.service m (so.list_fits list some) e (subst (λ (l : Part). IsBadList lengths edition l a.service) same h.2)))
            (service (λ v. modified_value a.invoke m v))
        by_modifier list some (Err d) e =
            now Modified (NotOffered else TooDeep else BadArgument) (refusal.Modifier a.invoke)
            (holds refusal.Modifier (HasBadList lengths edition) (list, some, bad_list lengths edition list a.service d (so.list_fits list some) e))

        by_list : (o : Option Part) → a.modifiers ≡ o → Tells FromRequests (refusal_in (told_with lengths edition a.invoke o a.service))
        by_list (Some list) some = by_modifier list some (modifier_at lengths edition list a.service) refl
        by_list None plain =
            later Modified (NotOffered else TooDeep else BadArgument) (refusal_in (and_then (service_told lengths edition a.invoke a.service) (λ v. Ok (asked_value a.invoke v))))
            (holds_not refusal.Modifier (HasBadList lengths edition) (λ h. absurd (cc (sym plain ∙ h.1))))
            (service (λ v. asked_value a.invoke v))

  -- ---- one element

  module _ (p : Part) (is : IsElement lengths octets p) (fits : IsBytes p.contents) where
    same : (q : Part) → IsElement lengths octets q → q ≡ p
    same q also = (one_element lengths octets octets [] [] q p also is refl).1

    read_other : (v : Value) → InForm lengths (choice (other_pdus edition)) octets v → alternatives lengths (other_pdus edition) p ≡ Ok v
    read_other v h = one_only lengths (other_pdus edition) octets p v is (subst (λ (q : Part). IsAlternative lengths (other_pdus edition) q v) (same h.0 h.1) h.2)

    -- of no confirmed-Request a cause holds
    asks_none : is_tag 2 true 0 p.tag ≡ false → (a : Asked) → Asks lengths octets a → ⊥
    asks_none t a k = not_both (is_tag 2 true 0 p.tag) (asks_part lengths octets a p is k).0 t

    no_requests : ((a : Asked) → Asks lengths octets a → ⊥) → Tells FromRequests None
    no_requests none =
        later Modified (NotOffered else TooDeep else BadArgument) None (λ r c. none c.0 c.1)
        (later NotOffered (TooDeep else BadArgument) None (λ r c. none c.0 c.1)
        (later TooDeep BadArgument None (λ r c. none c.0 c.1) (λ r c. none c.0 c.1)))

    -- another PDU is told where it is of its form, and is invalid where it isn't
    other_tells : is_tag 2 true 0 p.tag ≡ false
        → Tells (NoPdu else FromRequests) (refusal_in (cond (is_tag 2 true 4 p.tag) (reject_told lengths edition p.contents) (cond (has_tag noted_pdus p.tag) (Ok nothing) (valid (alternatives lengths (kept_pdus edition) p)))))
    unfolding reject_told
    other_tells t = by_reject (is_tag 2 true 4 p.tag) refl
      where
        none : (a : Asked) → Asks lengths octets a → ⊥
        none = asks_none t

        is_pdu_of : (w : Value) → alternatives lengths (other_pdus edition) p ≡ Ok w → Tells (NoPdu else FromRequests) None
        is_pdu_of w e = later NoPdu FromRequests None (λ r c. c.1.other w (p, is, alternatives_sound lengths (other_pdus edition) p w fits e)) (no_requests none)

        is_no_pdu : ((w : Value) → alternatives lengths (other_pdus edition) p ≡ Ok w → ⊥) → Tells (NoPdu else FromRequests) (Some refusal.InvalidPdu)
        is_no_pdu h =
            now NoPdu FromRequests refusal.InvalidPdu
            ((refl, record { asked = none; other = λ v k. h v (read_other v k) }), λ r c. c.0)

        by_elements : (r : Result Value Fault) → alternatives lengths (other_pdus edition) p ≡ (r >>= λ w. Ok (chosen 4 w)) → (x : Value) → Tells (NoPdu else FromRequests) (refusal_in (and_then (valid r) (λ _. Ok x)))
        by_elements (Ok w) e x = is_pdu_of (chosen 4 w) e
        by_elements (Err d) e x = is_no_pdu (λ w k. absurd (cc (e, k)))

        by_kept : (r : Result Value Fault) → alternatives lengths (other_pdus edition) p ≡ r → Tells (NoPdu else FromRequests) (refusal_in (valid r))
        by_kept (Ok w) e = is_pdu_of w e
        by_kept (Err d) e = is_no_pdu (λ w k. absurd (cc (e, k)))

        noted_is : has_tag noted_pdus p.tag ≡ true → (w : Value) × (alternatives lengths (noted_and (kept_pdus edition)) p ≡ Ok w)
        noted_is e = by_tags (is_tag 2 true 3 p.tag) (is_tag 2 false 6 p.tag) (is_tag 2 true 7 p.tag) refl refl refl
          where
            by_tags : (x y z : Bool) → is_tag 2 true 3 p.tag ≡ x → is_tag 2 false 6 p.tag ≡ y → is_tag 2 true 7 p.tag ≡ z → (w : Value) × (alternatives lengths (noted_and (kept_pdus edition)) p ≡ Ok w)
            by_tags true y z f g h = (chosen 3 (text p.contents), rw f refl)
            by_tags false true z f g h = (chosen 6 (text p.contents), rw (f, g) refl)
            by_tags false false true f g h = (chosen 7 (text p.contents), rw (f, g, h) refl)
            by_tags false false false f g h = not_both (has_tag noted_pdus p.tag) e (rw (f, g, h) refl)

        noted_not : has_tag noted_pdus p.tag ≡ false → alternatives lengths (noted_and (kept_pdus edition)) p ≡ alternatives lengths (kept_pdus edition) p
        noted_not e = by_tags (is_tag 2 true 3 p.tag) (is_tag 2 false 6 p.tag) (is_tag 2 true 7 p.tag) refl refl refl
          where
            by_tags : (x y z : Bool) → is_tag 2 true 3 p.tag ≡ x → is_tag 2 false 6 p.tag ≡ y → is_tag 2 true 7 p.tag ≡ z → alternatives lengths (noted_and (kept_pdus edition)) p ≡ alternatives lengths (kept_pdus edition) p
            by_tags false false false f g h = rw (f, g, h) refl
            by_tags true y z f g h = not_both (has_tag noted_pdus p.tag) (rw f refl) e
            by_tags false true z f g h = not_both (has_tag noted_pdus p.tag) (rw (f, g) refl) e
            by_tags false false true f g h = not_both (has_tag noted_pdus p.tag) (rw (f, g, h) refl) e

        by_noted : (b : Bool) → has_tag noted_pdus p.tag ≡ b → is_tag 2 true 4 p.tag ≡ false → Tells (NoPdu else FromRequests) (refusal_in (cond b (Ok nothing) (valid (alternatives lengths (kept_pdus edition) p))))
        by_noted true n f = let w = noted_is n in is_pdu_of w.0 (rw f w.1)
        by_noted false n f = by_kept (alternatives lengths (kept_pdus edition) p) (rw f (noted_not n))

        by_reject : (b : Bool) → is_tag 2 true 4 p.tag ≡ b
            → Tells (NoPdu else FromRequests) (refusal_in (cond b (reject_told lengths edition p.contents) (cond (has_tag noted_pdus p.tag) (Ok nothing) (valid (alternatives lengths (kept_pdus edition) p)))))
        by_reject true f =
            by_elements (reading lengths heard_reject_form p.contents) (rw f refl) (chosen 4 (heard_reject.value (answered (reading lengths (heard_error.form edition) p.contents))))
        by_reject false f = by_noted (has_tag noted_pdus p.tag) refl f

    asked_tells : is_tag 2 true 0 p.tag ≡ true → Tells (NoPdu else FromRequests) (refusal_in (and_then (valid (asked_at lengths p.contents)) (request_told lengths edition)))
    asked_tells t = by_asked (asked_at lengths p.contents) refl
      where
        no_number : has_number (other_pdus edition) 0 ≡ false
        no_number = refl

        not_other : (v : Value) → InForm lengths (choice (other_pdus edition)) octets v → ⊥
        not_other v h =
            let k = alternative_tag lengths (other_pdus edition) p v (read_other v h) in
            not_both (has_number (other_pdus edition) 0) (subst (λ (n : ℕ). has_number (other_pdus edition) n ≡ true) (tag_class true 0 p.tag t).1 k.1) no_number

        by_asked : (r : Result Asked Fault) → asked_at lengths p.contents ≡ r → Tells (NoPdu else FromRequests) (refusal_in (and_then (valid r) (request_told lengths edition)))
        by_asked (Err d) e =
            now NoPdu FromRequests refusal.InvalidPdu
            ((refl, record { asked = λ a k. absurd (cc (e, (asks_part lengths octets a p is k).1)); other = not_other }), λ r c. c.0)
        by_asked (Ok a) e =
            let so = asked_is lengths p.contents a fits e in
            let k : Asks lengths octets a = record { part = p; whole = is; tag = t; components = so.list; cut = so.cut; are = so.are } in
            let unique : (b : Asked) → Asks lengths octets b → b ≡ a = λ b j. fine_is b a (sym (asks_part lengths octets b p is j).1 ∙ e) in
            later NoPdu FromRequests (refusal_in (request_told lengths edition a)) (λ r c. c.1.asked a k) (request_tells a k unique p.contents so)

    part_tells : Tells (UnknownTag else NoPdu else FromRequests) (refusal_in (part_told lengths edition p))
    unfolding part_told
    part_tells = by_pdu (is_pdu p.tag) refl
      where
        by_zero : (b : Bool) → is_tag 2 true 0 p.tag ≡ b
            → Tells (NoPdu else FromRequests) (refusal_in (cond b (and_then (valid (asked_at lengths p.contents)) (request_told lengths edition))
            (cond (is_tag 2 true 4 p.tag) (reject_told lengths edition p.contents) (cond (has_tag noted_pdus p.tag) (Ok nothing) (valid (alternatives lengths (kept_pdus edition) p))))))
        by_zero true t = asked_tells t
        by_zero false t = other_tells t

        by_pdu : (b : Bool) → is_pdu p.tag ≡ b
            → Tells (UnknownTag else NoPdu else FromRequests) (refusal_in (cond b (cond (is_tag 2 true 0 p.tag) (and_then (valid (asked_at lengths p.contents)) (request_told lengths edition))
            (cond (is_tag 2 true 4 p.tag) (reject_told lengths edition p.contents) (cond (has_tag noted_pdus p.tag) (Ok nothing) (valid (alternatives lengths (kept_pdus edition) p))))) (Err refusal.UnknownType)))
        by_pdu false e = now UnknownTag (NoPdu else FromRequests) refusal.UnknownType ((refl, (p, is, e)), λ r c. c.0)
        by_pdu true e =
            later UnknownTag (NoPdu else FromRequests) _
            (λ r c. not_both (is_pdu p.tag) e (subst (λ (q : Part). is_pdu q.tag ≡ false) (same c.1.0 c.1.1) c.1.2))
            (by_zero (is_tag 2 true 0 p.tag) refl)

  -- ---- all octets

  pub heard_tells : IsBytes octets → Tells (IsRefused lengths edition octets) (refusal_in (heard lengths edition octets))
  unfolding heard
  heard_tells fits = by_sole (sole_part lengths octets) refl
    where
      by_sole : (r : Result Part Fault) → sole_part lengths octets ≡ r → Tells (NoElement else UnknownTag else NoPdu else FromRequests) (refusal_in (and_then (valid r) (part_told lengths edition)))
      by_sole (Err d) e =
          now NoElement (UnknownTag else NoPdu else FromRequests) refusal.InvalidPdu
          ((refl, λ p is. absurd (cc (e, sole_only lengths octets p is))), λ r c. c.0)
      by_sole (Ok p) e =
          let x = sole_is lengths octets p fits e in
          later NoElement (UnknownTag else NoPdu else FromRequests) (refusal_in (part_told lengths edition p)) (λ r c. c.1 p x.0) (part_tells p x.0 x.1)

-- ---- what a call answers

abbrev refused : {X : Type 0} → Refusal → Result X Refusal
refused e = Err e

err_is : {X : Type 0} (e r : Refusal) → refused {X = X} e ≡ refused r → e ≡ r
err_is e r h = cc

pub refuses_first : {X : Type 0} (lengths : Lengths) (edition : Edition) (octets : List ℕ) (view : X → Value) (result : Result X Refusal) → IsBytes octets
    → Hears view result (heard lengths edition octets) → RefusesFirst lengths edition octets result
refuses_first {X} lengths edition octets view (Ok x) fits h = record {
  first = λ r ne e. absurd cc;
  only = λ r c. absurd (subst (λ (t : Result Value Refusal). Tells (IsRefused lengths edition octets) (refusal_in t)) h (heard_tells lengths edition octets fits) r c);
}
refuses_first {X} lengths edition octets view (Err e) fits h = by_memory e h
  where
    tells : (e : Refusal) → heard lengths edition octets ≡ Err e → Tells (IsRefused lengths edition octets) (Some e)
    tells e is = subst (λ (t : Result Value Refusal). Tells (IsRefused lengths edition octets) (refusal_in t)) is (heard_tells lengths edition octets fits)

    answers : (e : Refusal) → heard lengths edition octets ≡ Err e → RefusesFirst lengths edition octets (refused {X = X} e)
    answers e is = record {
      first = λ r ne same. subst (λ (t : Refusal). IsRefused lengths edition octets t) (err_is {X = X} e r same) (tells e is).0;
      only = λ r c. inl (ap (λ (t : Refusal). Err t) (sym ((tells e is).1 r c)));
    }

    by_memory : (e : Refusal) → Hears view (Err e) (heard lengths edition octets) → RefusesFirst lengths edition octets (refused {X = X} e)
    by_memory refusal.Memory h = record { first = λ r ne same. absurd (ne (sym (err_is {X = X} refusal.Memory r same))); only = λ r c. inr refl }
    by_memory refusal.InvalidPdu h = answers refusal.InvalidPdu h
    by_memory refusal.UnknownType h = answers refusal.UnknownType h
    by_memory (refusal.Modifier n) h = answers (refusal.Modifier n) h
    by_memory (refusal.Service n) h = answers (refusal.Service n) h
    by_memory (refusal.Recursion n) h = answers (refusal.Recursion n) h
    by_memory (refusal.Argument n) h = answers (refusal.Argument n) h

-- ---- what octets are heard as

module _ (lengths : Lengths) (edition : Edition) (octets : List ℕ) (e : Refusal) (fits : IsBytes octets) where
  refused_by : {X : Type 0} (r : Result X Refusal) → Tells (IsRefused lengths edition octets) (refusal_in r) → (r ≡ Err e) ↔ IsRefused lengths edition octets e
  refused_by {X} (Ok v) tells = (λ is. absurd (cc is), λ c. absurd (tells e c))
  refused_by {X} (Err r) tells = (
    λ is. subst (λ (t : Refusal). IsRefused lengths edition octets t) (err_is {X = X} r e is) tells.0,
    λ c. ap (λ (t : Refusal). Err t) (sym (tells.1 e c)),
  )

  pub refused_is_heard : (heard lengths edition octets ≡ Err e) ↔ IsRefused lengths edition octets e
  refused_is_heard = refused_by (heard lengths edition octets) (heard_tells lengths edition octets fits)

pub heard_refused : (edition : Edition) (octets : List ℕ) (e : Refusal) → IsBytes octets → (pdu_heard edition octets ≡ Err e) ↔ IsRefused (lengths_of edition) edition octets e
heard_refused edition octets e fits = by_result (heard (lengths_of edition) edition octets) (heard_tells (lengths_of edition) edition octets fits)
  where
    by_result : (r : Result Value Refusal) → Tells (IsRefused (lengths_of edition) edition octets) (refusal_in r) → (as_pdu r ≡ Err e) ↔ IsRefused (lengths_of edition) edition octets e
    by_result (Ok v) tells = (λ is. absurd (cc is), λ c. absurd (tells e c))
    by_result (Err r) tells = (
      λ is. subst (λ (t : Refusal). IsRefused (lengths_of edition) edition octets t) (err_is {X = Pdu} r e is) tells.0,
      λ c. ap (λ (t : Refusal). Err t) (sym (tells.1 e c)),
    )

abbrev Never : (Refusal → Type 0) → Type 0
Never Cause = Cause refusal.Memory → ⊥

neither : (C D : Refusal → Type 0) → Never C → Never D → Never (C else D)
neither C D c d (inl h) = c h
neither C D c d (inr h) = d h.1

module _ (lengths : Lengths) (edition : Edition) (octets : List ℕ) where
  of_none : (told : ℕ → Refusal) (Cause : Asked → Type 0) → ((n : ℕ) → refusal.Memory ≢ told n) → Never (of_request lengths octets told Cause)
  of_none told Cause other c = other c.0.invoke c.3

  -- want of memory is no cause
  pub memory_no_cause : Never (IsRefused lengths edition octets)
  memory_no_cause =
      neither (NoElement lengths edition octets) (UnknownTag lengths edition octets else NoPdu lengths edition octets else FromRequests lengths edition octets) (λ c. cc c.0)
      (neither (UnknownTag lengths edition octets) (NoPdu lengths edition octets else FromRequests lengths edition octets) (λ c. cc c.0)
      (neither (NoPdu lengths edition octets) (FromRequests lengths edition octets) (λ c. cc c.0)
      (neither (Modified lengths edition octets) (NotOffered lengths edition octets else TooDeep lengths edition octets else BadArgument lengths edition octets)
      (of_none refusal.Modifier (HasBadList lengths edition) (λ n e. cc e))
      (neither (NotOffered lengths edition octets) (TooDeep lengths edition octets else BadArgument lengths edition octets) (of_none refusal.Service (IsNotOffered lengths edition) (λ n e. cc e))
      (neither (TooDeep lengths edition octets) (BadArgument lengths edition octets) (of_none refusal.Recursion (NestsTooDeep lengths edition) (λ n e. cc e))
      (of_none refusal.Argument (HasBadArgument lengths edition) (λ n e. cc e)))))))
