-- A PDU that a client may send is seen again in what it says.
use Rattle.std.proofs.Common.{◌≡◌, ℕ, refl, ap}
use Rattle.mms_types.specs.declared.pdu.Request.{Request}
use Rattle.mms_types.specs.declared.pdu.ClientAnswer.{ClientAnswer}
use Rattle.mms_types.specs.declared.pdu.Pdu.{Pdu}
use Rattle.mms_types.specs.declared.pdu.Pdu.TheVariants as pdu
use Rattle.pdu_assoc.specs.Initiate.{initiate}
use Rattle.mms_pdu.specs.Pdus.{asked, modified, client_answered, heard_reject, pdu_value}
use Rattle.mms_pdu.specs.Heard.{modified_of, pdu_of, IsHeard}

pub pdu_again : (p : Pdu) → IsHeard p → pdu_of (pdu_value p) ≡ p
pdu_again (pdu.ConfirmedRequest invoke request) h = ap (λ (x : ℕ × Request). pdu.ConfirmedRequest x.0 x.1) (asked.again (invoke, request))
pdu_again (pdu.ModifiedRequest invoke modifier request) h = ap modified_of (modified.again (invoke, modifier, request))
pdu_again (pdu.HeardResponse invoke answer) h = ap (λ (x : ℕ × ClientAnswer). pdu.HeardResponse x.0 x.1) (client_answered.again (invoke, answer))
pdu_again (pdu.HeardError invoke) h = refl
pdu_again (pdu.HeardReject invoke) h = ap pdu.HeardReject (heard_reject.again invoke)
pdu_again (pdu.CancelRequest invoke) h = refl
pdu_again pdu.HeardOther h = refl
pdu_again (pdu.InitiateRequest proposal) h = ap pdu.InitiateRequest (initiate.again proposal)
pdu_again pdu.ConcludeRequest h = refl
pdu_again p h = absurd h
