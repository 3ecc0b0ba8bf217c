-- What is told of a request with its modifier.
use Rattle.std.proofs.Common.{◌≡◌, ℕ, true, Option, Some, None, Result, Ok, Err, refl, sym, ap, ◌∙◌}
use Rattle.std.specs.Prelude.{IfOk}
use Rattle.ber_core.specs.declared.element.Lengths.{Lengths}
use Rattle.ber_core.specs.Part.{Part}
use Rattle.ber_forms.specs.Value.{Value}
use Rattle.ber_forms.specs.declared.unread.Unread.{Unread}
use Rattle.ber_forms.specs.declared.unread.Unread.TheVariants as unread
use Rattle.ber_forms.specs.Reading.{Fails, reading}
use Rattle.mms_types.specs.declared.identifier.Edition.{Edition}
use Rattle.mms_types.specs.declared.identifier.Edition.TheVariants.{One, Two}
use Rattle.mms_types.specs.declared.semaphore.Modifier.{Modifier}
use Rattle.mms_types.specs.declared.pdu.Request.{Request}
use Rattle.mms_types.specs.declared.pdu.Pdu.{Pdu}
use Rattle.mms_types.specs.declared.pdu.Pdu.TheVariants as pdu
use Rattle.pdu_sems.specs.Control.{modifiers}
use Rattle.mms_pdu.specs.declared.refusal.Refusal.{Refusal}
use Rattle.mms_pdu.specs.declared.refusal.Refusal.TheVariants as refusal
use Rattle.mms_pdu.specs.declared.reading.Read.{Read}
use Rattle.mms_pdu.specs.Services.{requests}
use Rattle.mms_pdu.specs.Pdus.{asked, may_wait, pdu_value}
use Rattle.mms_pdu.specs.Heard.{IsHeard, request_in, modified_by, told_modified}
use Rattle.mms_pdu.specs.Hearing.{Hears, Refuses, asking, and_then, listed, refusal_of_list, asked_value, modifier_at, modified_value, service_told, request_told, depth_of}

abbrev fine : Value → Result Value Refusal
fine v = Ok v

same_value : (v w : Value) → fine v ≡ fine w → v ≡ w
same_value v w e = cc e

plain_parts : (invoke i : ℕ) (m v : Value) (q : Request) → asked_value invoke v ≡ asked_value i (requests.value q) → modified_value invoke m v ≡ modified_value i m (requests.value q)
plain_parts invoke i m v q e = cc e

-- a request that is told with its modifier is that of the parts
pdu_told : (m : Modifier) (invoke : ℕ) (v : Value) (p : Pdu) → IsHeard p → asked_value invoke v ≡ pdu_value p → modified_value invoke (modifiers.value m) v ≡ pdu_value (modified_by m p)
pdu_told m invoke v (pdu.ConfirmedRequest i q) h e = plain_parts invoke i (modifiers.value m) v q e
pdu_told m invoke v (pdu.ModifiedRequest i n q) h e = absurd (cc e)
pdu_told m invoke v (pdu.HeardResponse i answer) h e = absurd (cc e)
pdu_told m invoke v (pdu.HeardError i) h e = absurd (cc e)
pdu_told m invoke v (pdu.HeardReject i) h e = absurd (cc e)
pdu_told m invoke v (pdu.CancelRequest i) h e = absurd (cc e)
pdu_told m invoke v pdu.HeardOther h e = absurd (cc e)
pdu_told m invoke v (pdu.InitiateRequest proposal) h e = absurd (cc e)
pdu_told m invoke v pdu.ConcludeRequest h e = absurd (cc e)
pdu_told m invoke v p h e = absurd h

refuses_both : (e : Refusal) (invoke : ℕ) (m : Value) (t : Result Value Refusal) → Refuses e (and_then t (λ v. Ok (asked_value invoke v))) → Refuses e (and_then t (λ v. Ok (modified_value invoke m v)))
refuses_both refusal.Memory invoke m t h = tt
refuses_both refusal.InvalidPdu invoke m (Ok v) h = absurd cc
refuses_both refusal.UnknownType invoke m (Ok v) h = absurd cc
refuses_both (refusal.Modifier n) invoke m (Ok v) h = absurd cc
refuses_both (refusal.Service n) invoke m (Ok v) h = absurd cc
refuses_both (refusal.Recursion n) invoke m (Ok v) h = absurd cc
refuses_both (refusal.Argument n) invoke m (Ok v) h = absurd cc
refuses_both refusal.InvalidPdu invoke m (Err d) h = h
refuses_both refusal.UnknownType invoke m (Err d) h = h
refuses_both (refusal.Modifier n) invoke m (Err d) h = h
refuses_both (refusal.Service n) invoke m (Err d) h = h
refuses_both (refusal.Recursion n) invoke m (Err d) h = h
refuses_both (refusal.Argument n) invoke m (Err d) h = h

abbrev seen : Read → Value
seen r = pdu_value r.pdu

abbrev some : ℕ × Request × ℕ → Option (ℕ × Request × ℕ)
some x = Some x

some_is : (x y : ℕ × Request × ℕ) → some x ≡ some y → x ≡ y
some_is x y e = cc e

pub attached_hears : (m : Modifier) (invoke : ℕ) (t : Result Value Refusal) (r : Result Read Refusal) → IfOk r (λ r. IsHeard r.pdu) → Hears (λ r. pdu_value r.pdu) r (and_then t (λ v. Ok (asked_value invoke v)))
    → Hears (λ r. pdu_value r.pdu) (told_modified m r) (and_then t (λ v. Ok (modified_value invoke (modifiers.value m) v)))
attached_hears m invoke t (Err e) client h = refuses_both e invoke (modifiers.value m) t h
attached_hears m invoke (Ok v) (Ok r) client h = ap (λ (w : Value). Ok w) (pdu_told m invoke v r.pdu client (same_value (asked_value invoke v) (seen r) h))
attached_hears m invoke (Err d) (Ok r) client h = absurd cc

-- what is told of a list that is read, and of one that is refused
module _ (lengths : Lengths) (edition : Edition) (invoke : ℕ) (list service : Part) where
  abbrev going : Result Value Refusal → Result Value Refusal
  going r = and_then r (λ m. and_then (service_told lengths edition invoke service) (λ v. Ok (modified_value invoke m v)))

  pub list_told : (m : Modifier) (r : Result Read Refusal) → listed invoke (modifier_at lengths edition list service) ≡ Ok (modifiers.value m) → IfOk r (λ r. IsHeard r.pdu)
      → Hears (λ r. pdu_value r.pdu) r (request_told lengths edition (asking invoke None service)) → Hears (λ r. pdu_value r.pdu) (told_modified m r) (request_told lengths edition (asking invoke (Some list) service))
  unfolding request_told
  list_told m r e client h = rw e (attached_hears m invoke (service_told lengths edition invoke service) r client h)

  pub list_refused : (e : Refusal) → Refuses e (listed invoke (modifier_at lengths edition list service)) → Refuses e (request_told lengths edition (asking invoke (Some list) service))
  unfolding request_told
  list_refused refusal.Memory h = tt
  list_refused refusal.InvalidPdu h = ap going h
  list_refused refusal.UnknownType h = ap going h
  list_refused (refusal.Modifier n) h = ap going h
  list_refused (refusal.Service n) h = ap going h
  list_refused (refusal.Recursion n) h = ap going h
  list_refused (refusal.Argument n) h = ap going h

module _ (lengths : Lengths) (edition : Edition) (invoke : ℕ) (list service : Part) (two : edition ≡ Two) (may : may_wait service.tag.number ≡ true) where
  pub list_read : (v : Value) → reading lengths (modifiers.form edition) list.contents ≡ Ok v → listed invoke (modifier_at lengths edition list service) ≡ Ok v
  list_read v e = by_edition edition two e
    where
      by_edition : (d : Edition) → d ≡ Two → reading lengths (modifiers.form d) list.contents ≡ Ok v → listed invoke (modifier_at lengths d list service) ≡ Ok v
      by_edition One is e = absurd (cc is)
      by_edition Two is e = rw (may, e) refl

  pub list_unread : (e : Unread) → Fails e (reading lengths (modifiers.form edition) list.contents) → Refuses (refusal_of_list invoke e) (listed invoke (modifier_at lengths edition list service))
  list_unread e fails = by_edition edition two e fails
    where
      by_edition : (d : Edition) → d ≡ Two → (e : Unread) → Fails e (reading lengths (modifiers.form d) list.contents) → Refuses (refusal_of_list invoke e) (listed invoke (modifier_at lengths d list service))
      by_edition One is e fails = absurd (cc is)
      by_edition Two is unread.Memory fails = tt
      by_edition Two is unread.Malformed fails = rw (may, fails) refl
      by_edition Two is unread.TooDeep fails = rw (may, fails) refl

heard_still : (m : Modifier) (p : Pdu) → IsHeard p → IsHeard (modified_by m p)
heard_still m (pdu.ConfirmedRequest i q) h = tt
heard_still m p h = h

pub attached_is_heard : (m : Modifier) (r : Result Read Refusal) → IfOk r (λ r. IsHeard r.pdu) → IfOk (told_modified m r) (λ r. IsHeard r.pdu)
attached_is_heard m (Ok r) h = heard_still m r.pdu h
attached_is_heard m (Err e) h = h

deep_still : (m : Modifier) (p : Pdu) → depth_of p ≡ depth_of (modified_by m p)
deep_still m (pdu.ConfirmedRequest i q) = refl
deep_still m p = refl

pub attached_deep : (m : Modifier) (r : Result Read Refusal) → IfOk r (λ r. r.depth ≡ depth_of r.pdu) → IfOk (told_modified m r) (λ r. r.depth ≡ depth_of r.pdu)
attached_deep m (Ok r) h = h ∙ deep_still m r.pdu
attached_deep m (Err e) h = h

abbrev told : Pdu → ℕ → Result Read Refusal
told p depth = Ok (record { pdu = p; depth = depth })

pub taken_told : (m : Modifier) (t : Result Read Refusal) (x : ℕ × Request × ℕ) → request_in t ≡ Some x → told_modified m t ≡ told (pdu.ModifiedRequest x.0 m x.1) x.2
taken_told m (Err e) x h = absurd cc
taken_told m (Ok r) x h = by_pdu r.pdu h
  where
    by_pdu : (p : Pdu) → request_in (told p r.depth) ≡ Some x → told (modified_by m p) r.depth ≡ told (pdu.ModifiedRequest x.0 m x.1) x.2
    by_pdu (pdu.ConfirmedRequest i q) h = ap (λ (y : ℕ × Request × ℕ). told (pdu.ModifiedRequest y.0 m y.1) y.2) (some_is (i, q, r.depth) x h)
    by_pdu p h = absurd cc

pub untaken_told : (m : Modifier) (t : Result Read Refusal) → request_in t ≡ None → told_modified m t ≡ t
untaken_told m (Err e) h = refl
untaken_told m (Ok r) h = by_pdu r.pdu h
  where
    by_pdu : (p : Pdu) → request_in (told p r.depth) ≡ None → told (modified_by m p) r.depth ≡ told p r.depth
    by_pdu (pdu.ConfirmedRequest i q) h = absurd cc
    by_pdu p h = refl
