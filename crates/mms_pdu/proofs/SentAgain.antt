-- PDUs that a server sends: what is spelled says one of them.
use Rattle.std.proofs.Common.{◌≡◌, ℕ, ◌<◌, ◌^◌, List, ◌++◌, length, refl, sym, ap, subst, ◌∙◌, arith}
use Rattle.std.specs.Prelude.{IsTrue}
use Rattle.ber_forms.specs.Form.{choice, one_of}
use Rattle.ber_forms.specs.Spelling.{spelling, alternative_octets}
use Rattle.ber_forms.specs.Fits.{is_sound, FitsOne}
use Rattle.ber_forms.proofs.Again.{one_spelling, no_other_member}
use Rattle.mms_types.specs.declared.identifier.Edition.{Edition}
use Rattle.mms_types.specs.declared.pdu.Answer.{Answer}
use Rattle.mms_types.specs.declared.pdu.ServerRequest.{ServerRequest}
use Rattle.mms_types.specs.declared.pdu.Pdu.{Pdu}
use Rattle.mms_types.specs.declared.pdu.Pdu.TheVariants as pdu
use Rattle.mms_types.specs.Spelling.{widest}
use Rattle.pdu_names.specs.Kinds.{Arms, unsigned32, null, or, no_other, made_of}
use Rattle.pdu_names.specs.Names.{names_sound}
use Rattle.pdu_assoc.specs.Initiate.{initiate_answer}
use Rattle.pdu_assoc.specs.Reject.{reject}
use Rattle.pdu_assoc.specs.ServiceErrors.{service_error, confirmed_error, cancel_error, classes_sound, states_sound}
use Rattle.mms_pdu.specs.Services.{answers_sound}
use Rattle.mms_pdu.specs.Pdus.{server_asked, responded, notified, pdu_value, pdu_octets}
use Rattle.mms_pdu.specs.Answering.{IsSent, HasUnsigned32}

abbrev sent_arms : Arms Pdu
sent_arms =
    or 0 server_asked (λ x. pdu.ServerRequest x.0 x.1) (
    or 1 responded (λ x. pdu.ConfirmedResponse x.0 x.1) (
    or 2 confirmed_error pdu.ConfirmedError (
    or 3 notified pdu.EventNotification (
    or 4 reject pdu.Reject (
    or 6 unsigned32 pdu.CancelResponse (
    or 7 cancel_error pdu.CancelError (
    or 9 initiate_answer pdu.InitiateResponse (
    or 10 service_error pdu.InitiateError (
    or 12 null (λ _. pdu.ConcludeResponse) (
    or 13 service_error pdu.ConcludeError (
    no_other pdu.HeardOther)))))))))))

module _ (edition : Edition) where
  -- a value tells what was sent
  sent_again : (p : Pdu) → IsSent edition p → made_of sent_arms (pdu_value p) ≡ p
  sent_again (pdu.ServerRequest invoke request) h = ap (λ (x : ℕ × ServerRequest). pdu.ServerRequest x.0 x.1) (server_asked.again (invoke, request))
  sent_again (pdu.ConfirmedResponse invoke answer) h = ap (λ (x : ℕ × Answer). pdu.ConfirmedResponse x.0 x.1) (responded.again (invoke, answer))
  sent_again (pdu.ConfirmedError error) h = ap pdu.ConfirmedError (confirmed_error.again error)
  sent_again (pdu.EventNotification x) h = ap pdu.EventNotification (notified.again x)
  sent_again (pdu.Reject x) h = ap pdu.Reject (reject.again x)
  sent_again (pdu.CancelResponse invoke) h = refl
  sent_again (pdu.CancelError error) h = ap pdu.CancelError (cancel_error.again error)
  sent_again (pdu.InitiateResponse negotiated) h = ap pdu.InitiateResponse (initiate_answer.again negotiated)
  sent_again (pdu.InitiateError error) h = ap pdu.InitiateError (service_error.again error)
  sent_again pdu.ConcludeResponse h = refl
  sent_again (pdu.ConcludeError error) h = ap pdu.ConcludeError (service_error.again error)
  sent_again p h = absurd h

  told : (p q : Pdu) → IsSent edition p → IsSent edition q → pdu_value p ≡ pdu_value q → p ≡ q
  told p q h k e = sym (sent_again p h) ∙ ap (made_of sent_arms) e ∙ sent_again q k

  -- it fits, and is spelled
  sent_fits : (p : Pdu) → IsSent edition p → FitsOne (sent_arms.alternatives edition) (pdu_value p)
  sent_fits (pdu.ServerRequest invoke request) h = h
  sent_fits (pdu.ConfirmedResponse invoke answer) h = h
  sent_fits (pdu.ConfirmedError error) h = h
  sent_fits (pdu.EventNotification x) h = h
  sent_fits (pdu.Reject x) h = h
  sent_fits (pdu.CancelResponse invoke) h = h
  sent_fits (pdu.CancelError error) h = h
  sent_fits (pdu.InitiateResponse negotiated) h = h
  sent_fits (pdu.InitiateError error) h = h
  sent_fits pdu.ConcludeResponse h = tt
  sent_fits (pdu.ConcludeError error) h = h
  sent_fits p h = absurd h

  sent_so : (p : Pdu) → IsSent edition p → alternative_octets (sent_arms.alternatives widest) (pdu_value p) ≡ pdu_octets p
  sent_so (pdu.ServerRequest invoke request) h = refl
  sent_so (pdu.ConfirmedResponse invoke answer) h = refl
  sent_so (pdu.ConfirmedError error) h = refl
  sent_so (pdu.EventNotification x) h = refl
  sent_so (pdu.Reject x) h = refl
  sent_so (pdu.CancelResponse invoke) h = refl
  sent_so (pdu.CancelError error) h = refl
  sent_so (pdu.InitiateResponse negotiated) h = refl
  sent_so (pdu.InitiateError error) h = refl
  sent_so pdu.ConcludeResponse h = refl
  sent_so (pdu.ConcludeError error) h = refl
  sent_so p h = absurd h

  sent_spelled : (p : Pdu) → IsSent edition p → spelling (choice (sent_arms.alternatives edition)) (pdu_value p) ≡ pdu_octets p
  sent_spelled p h = sent_arms.alike edition (pdu_value p) ∙ sent_so p h

  sent_sound : IsTrue (is_sound (choice (sent_arms.alternatives edition)))
  sent_sound = rw (answers_sound edition, classes_sound, states_sound, names_sound edition) refl

  -- ---- the laws

  pub sent_one : (p q : Pdu) → IsSent edition p → IsSent edition q → length (pdu_octets p) < 2 ^ 64 → pdu_octets p ≡ pdu_octets q → p ≡ q
  sent_one p q h k room e =
      let same = sent_spelled p h in
      told p q h k
      (one_spelling (choice (sent_arms.alternatives edition)) (pdu_value p) (pdu_value q) sent_sound (sent_fits p h) (sent_fits q k)
      (subst (λ (o : List ℕ). length o < 2 ^ 64) (sym same) room) (same ∙ e ∙ sym (sent_spelled q k)))

  pub sent_whole : (p q : Pdu) (a b : List ℕ) → IsSent edition p → IsSent edition q → length (pdu_octets p) < 2 ^ 64 → length (pdu_octets q) < 2 ^ 64 → pdu_octets p ++ a ≡ pdu_octets q ++ b → pdu_octets p ≡ pdu_octets q
  sent_whole p q a b h k room space e =
      let same = sent_spelled p h in
      let alike = sent_spelled q k in
      sym same
      ∙ no_other_member (one_of (sent_arms.alternatives edition)) (one_of (sent_arms.alternatives edition)) (pdu_value p) (pdu_value q) a b sent_sound sent_sound (sent_fits p h) (sent_fits q k)
      (subst (λ (o : List ℕ). length o < 2 ^ 64) (sym same) room) (subst (λ (o : List ℕ). length o < 2 ^ 64) (sym alike) space)
      (ap (λ (o : List ℕ). o ++ a) same ∙ e ∙ ap (λ (o : List ℕ). o ++ b) (sym alike))
      ∙ alike

  pub sent_small : (p : Pdu) → IsSent edition p → HasUnsigned32 p
  sent_small (pdu.ServerRequest invoke request) h = tt
  sent_small (pdu.ConfirmedResponse invoke answer) h = grind (arith, h.0)
  sent_small (pdu.ConfirmedError error) h = grind (arith, h.0)
  sent_small (pdu.EventNotification x) h = tt
  sent_small (pdu.Reject x) h = tt
  sent_small (pdu.CancelResponse invoke) h = tt
  sent_small (pdu.CancelError error) h = tt
  sent_small (pdu.InitiateResponse negotiated) h = tt
  sent_small (pdu.InitiateError error) h = tt
  sent_small pdu.ConcludeResponse h = tt
  sent_small (pdu.ConcludeError error) h = tt
  sent_small p h = absurd h
