-- PDUs by which a client asks: what is spelled is heard as what it says, and says nothing else.
use Rattle.std.proofs.Common.{◌≡◌, ℕ, ◌<◌, ◌^◌, Bool, true, false, List, ◌++◌, length, Result, Ok, refl, sym, ap, subst, ◌∙◌, arith}
use Rattle.std.specs.Prelude.{IsTrue, ◌==◌, ◌||◌}
use Rattle.ber_core.specs.declared.element.Lengths.{Lengths}
use Rattle.ber_forms.specs.Value.{Value, nothing, chosen}
use Rattle.ber_forms.specs.Form.{choice, one_of}
use Rattle.ber_forms.specs.InForm.{InForm}
use Rattle.ber_forms.specs.Spelling.{spelling, alternative_octets}
use Rattle.ber_forms.specs.Fits.{is_sound, FitsOne}
use Rattle.ber_forms.proofs.Spelled.{form_spelled}
use Rattle.ber_forms.proofs.Again.{no_other_member}
use Rattle.mms_types.specs.declared.identifier.Edition.{Edition}
use Rattle.mms_types.specs.declared.pdu.Pdu.{Pdu}
use Rattle.mms_types.specs.declared.pdu.Pdu.TheVariants as pdu
use Rattle.mms_types.specs.declared.pdu.Request.{Request}
use Rattle.mms_types.specs.declared.pdu.Request.TheVariants as request
use Rattle.mms_types.specs.declared.pdu.ServerRequest.{ServerRequest}
use Rattle.mms_types.specs.declared.pdu.ServerRequest.TheVariants as server_request
use Rattle.mms_types.specs.Spelling.{widest}
use Rattle.pdu_names.specs.Names.{identifier}
use Rattle.pdu_programs.specs.Download.{terminate_download}
use Rattle.pdu_programs.specs.Services.{server_requests}
use Rattle.mms_pdu.specs.declared.refusal.Refusal.{Refusal}
use Rattle.mms_pdu.specs.Services.{requests, requests_sound}
use Rattle.mms_pdu.specs.Pdus.{whole_arms, pdu_value, pdu_octets}
use Rattle.mms_pdu.specs.Hearing.{whole_pdus, heard, asked_value}
use Rattle.mms_pdu.specs.Heard.{pdu_of}
use Rattle.mms_pdu.specs.Asking.{IsAsking}
use Rattle.mms_pdu.proofs.HeardAgain.{pdu_again}
use Rattle.mms_pdu.proofs.Whole.{heard_again}

-- ---- a value tells what was asked

abbrev asks : Value → Bool
asks (chosen n v) = (n == 0) || (n == 5) || (n == 8) || (n == 11)
asks v = false

-- the PDU is a request of the server
abbrev IsOfServer : Pdu → Type 0
IsOfServer (pdu.ServerRequest invoke request) = Unit {0}
IsOfServer p = ⊥

asked_back : (p : Pdu) → asks (pdu_value p) ≡ true → (IsOfServer p → ⊥) → pdu_of (pdu_value p) ≡ p
asked_back (pdu.ConfirmedRequest invoke request) e other = pdu_again (pdu.ConfirmedRequest invoke request) tt
asked_back (pdu.CancelRequest invoke) e other = refl
asked_back (pdu.InitiateRequest proposal) e other = pdu_again (pdu.InitiateRequest proposal) tt
asked_back pdu.ConcludeRequest e other = refl
asked_back (pdu.ServerRequest invoke request) e other = absurd (other tt)
asked_back p e other = absurd cc

-- ---- what clients ask, the server doesn't

said_identify : (r : Request) (v : Value) → requests.value r ≡ v → requests.said v ≡ request.Identify → requests.value request.Identify ≡ v
said_identify r v e other =
    let is : r ≡ request.Identify = sym (requests.again r) ∙ ap requests.said e ∙ other in
    ap requests.value (sym is) ∙ e

same_number : (m n : ℕ) (v w : Value) → chosen m v ≡ chosen n w → m ≡ n
same_number m n v w e = cc e

not_both : (r : Request) (s : ServerRequest) → requests.value r ≡ server_requests.value s → ⊥
unfolding requests
not_both r (server_request.DownloadSegment x) e =
    let is = same_number 2 27 nothing (identifier.value x) (said_identify r (chosen 27 (identifier.value x)) e refl) in
    absurd (omega (arith, is))
not_both r (server_request.TerminateDownloadSequence x) e =
    let is = same_number 2 28 nothing (terminate_download.value x) (said_identify r (chosen 28 (terminate_download.value x)) e refl) in
    absurd (omega (arith, is))

service_told : (i j : ℕ) (v w : Value) → asked_value i v ≡ asked_value j w → v ≡ w
service_told i j v w e = cc e

same_told : (v w : Value) (r : Result Value Refusal) → r ≡ Ok v → r ≡ Ok w → v ≡ w
same_told v w r e f = cc (e, f)

module _ (edition : Edition) where
  asking_asks : (p : Pdu) → IsAsking edition p → asks (pdu_value p) ≡ true
  asking_asks (pdu.ConfirmedRequest invoke request) h = refl
  asking_asks (pdu.CancelRequest invoke) h = refl
  asking_asks (pdu.InitiateRequest proposal) h = refl
  asking_asks pdu.ConcludeRequest h = refl
  asking_asks p h = absurd h

  asking_clients : (p : Pdu) → IsAsking edition p → IsOfServer p → ⊥
  asking_clients (pdu.ServerRequest invoke request) h s = absurd h
  asking_clients p h s = absurd s

  other_asks : (p q : Pdu) → IsAsking edition p → pdu_value p ≡ pdu_value q → IsOfServer q → ⊥
  other_asks (pdu.ConfirmedRequest invoke r) (pdu.ServerRequest other s) h e is = not_both r s (service_told invoke other (requests.value r) (server_requests.value s) e)
  other_asks (pdu.CancelRequest invoke) (pdu.ServerRequest other s) h e is = absurd (cc e)
  other_asks (pdu.InitiateRequest proposal) (pdu.ServerRequest other s) h e is = absurd (cc e)
  other_asks pdu.ConcludeRequest (pdu.ServerRequest other s) h e is = absurd (cc e)
  other_asks p (pdu.ServerRequest other s) h e is = absurd h
  other_asks p q h e is = absurd is

  told : (p q : Pdu) → IsAsking edition p → pdu_value p ≡ pdu_value q → p ≡ q
  told p q h e =
      let asked = asking_asks p h in
      sym (asked_back p asked (asking_clients p h)) ∙ ap pdu_of e ∙ asked_back q (sym (ap asks e) ∙ asked) (other_asks p q h e)

  -- ---- what is asked fits, and is spelled

  asking_fits : (p : Pdu) → IsAsking edition p → FitsOne (whole_pdus edition) (pdu_value p)
  asking_fits (pdu.ConfirmedRequest invoke request) h = h
  asking_fits (pdu.CancelRequest invoke) h = h
  asking_fits (pdu.InitiateRequest proposal) h = h
  asking_fits pdu.ConcludeRequest h = tt
  asking_fits p h = absurd h

  sent_so : (p : Pdu) → IsAsking edition p → alternative_octets (whole_pdus widest) (pdu_value p) ≡ pdu_octets p
  sent_so (pdu.ConfirmedRequest invoke request) h = refl
  sent_so (pdu.CancelRequest invoke) h = refl
  sent_so (pdu.InitiateRequest proposal) h = refl
  sent_so pdu.ConcludeRequest h = refl
  sent_so p h = absurd h

  asking_spelled : (p : Pdu) → IsAsking edition p → spelling (choice (whole_pdus edition)) (pdu_value p) ≡ pdu_octets p
  asking_spelled p h = whole_arms.alike edition (pdu_value p) ∙ sent_so p h

  whole_sound : IsTrue (is_sound (choice (whole_pdus edition)))
  whole_sound = rw (requests_sound edition) refl

  -- ---- the laws

  pub asking_heard : (lengths : Lengths) (p : Pdu) → IsAsking edition p → length (pdu_octets p) < 2 ^ 64 → heard lengths edition (pdu_octets p) ≡ Ok (pdu_value p)
  asking_heard lengths p h room =
      let same = asking_spelled p h in
      heard_again lengths edition (pdu_octets p) (pdu_value p)
      (subst (λ (o : List ℕ). InForm lengths (choice (whole_pdus edition)) o (pdu_value p)) same
      (form_spelled lengths (choice (whole_pdus edition)) (pdu_value p) whole_sound (asking_fits p h) (subst (λ (o : List ℕ). length o < 2 ^ 64) (sym same) room)))

  pub asking_only : (lengths : Lengths) (p q : Pdu) → IsAsking edition p → length (pdu_octets p) < 2 ^ 64 → heard lengths edition (pdu_octets p) ≡ Ok (pdu_value q) → p ≡ q
  asking_only lengths p q h room e = told p q h (same_told (pdu_value p) (pdu_value q) (heard lengths edition (pdu_octets p)) (asking_heard lengths p h room) e)

  pub asking_one : (lengths : Lengths) (p q : Pdu) → IsAsking edition p → IsAsking edition q → length (pdu_octets p) < 2 ^ 64 → pdu_octets p ≡ pdu_octets q → p ≡ q
  asking_one lengths p q h k room e =
      asking_only lengths p q h room (ap (heard lengths edition) e ∙ asking_heard lengths q k (subst (λ (o : List ℕ). length o < 2 ^ 64) e room))

  pub asking_whole : (p q : Pdu) (a b : List ℕ) → IsAsking edition p → IsAsking edition q → length (pdu_octets p) < 2 ^ 64 → length (pdu_octets q) < 2 ^ 64 → pdu_octets p ++ a ≡ pdu_octets q ++ b → pdu_octets p ≡ pdu_octets q
  asking_whole p q a b h k room space e =
      let same = asking_spelled p h in
      let alike = asking_spelled q k in
      sym same
      ∙ no_other_member (one_of (whole_pdus edition)) (one_of (whole_pdus edition)) (pdu_value p) (pdu_value q) a b whole_sound whole_sound (asking_fits p h) (asking_fits q k)
      (subst (λ (o : List ℕ). length o < 2 ^ 64) (sym same) room) (subst (λ (o : List ℕ). length o < 2 ^ 64) (sym alike) space)
      (ap (λ (o : List ℕ). o ++ a) same ∙ e ∙ ap (λ (o : List ℕ). o ++ b) (sym alike))
      ∙ alike
