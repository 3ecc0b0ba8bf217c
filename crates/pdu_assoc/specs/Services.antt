-- Services of the device (ISO 9506-2, VMD support): Status, GetNameList and Identify.
use Rattle.std.specs.Prelude.{◌≡◌, true, List, [], ◌∷◌, Option, Some, None}
use Rattle.std.proofs.Common.{refl, ap}
use Rattle.ber_forms.specs.Value.{Value, chosen}
use Rattle.ber_forms.specs.Fits.{sound_alternatives}
use Rattle.mms_types.specs.declared.identifier.Edition.{Edition}
use Rattle.mms_types.specs.declared.pdu.Request.{Request}
use Rattle.mms_types.specs.declared.pdu.Request.TheVariants as request
use Rattle.mms_types.specs.declared.pdu.Answer.{Answer}
use Rattle.mms_types.specs.declared.pdu.Answer.TheVariants as answer
use Rattle.pdu_names.specs.Kinds.{null}
use Rattle.pdu_areas.specs.Services.{Service, service, forms_of}
use Rattle.pdu_areas.specs.Joined.{IsMade}
use Rattle.pdu_areas.specs.Areas.{Area, asks_of, answers_of}
use Rattle.pdu_assoc.specs.Status.{status, status_answer, identify_answer}
use Rattle.pdu_assoc.specs.NameList.{name_list, name_list_answer}

-- in the order of their numbers
abbrev pub device_services : List Service
device_services =
    service 0 status request.Status status_answer answer.Status ∷
    service 1 name_list request.GetNameList name_list_answer answer.GetNameList ∷
    service 2 null (λ _. request.Identify) identify_answer answer.Identify ∷
    []

-- ---- what is asked

abbrev device_asked : Request → Option Value
device_asked (request.Status x) = Some (chosen 0 (status.value x))
device_asked (request.GetNameList x) = Some (chosen 1 (name_list.value x))
device_asked request.Identify = Some (chosen 2 (null.value tt))
device_asked other = None

abbrev asked : Request → Option Request
asked r = Some r

pub asked_again : (r : Request) → IsMade (asks_of device_services) (device_asked r) r
asked_again (request.Status x) = ap (λ y. asked (request.Status y)) (status.again x)
asked_again (request.GetNameList x) = ap (λ y. asked (request.GetNameList y)) (name_list.again x)
asked_again request.Identify = refl
asked_again other = tt

pub asks_sound : (e : Edition) → sound_alternatives (forms_of (asks_of device_services) e) ≡ true
asks_sound e = refl

-- ---- what is answered

abbrev device_answered : Answer → Option Value
device_answered (answer.Status x) = Some (chosen 0 (status_answer.value x))
device_answered (answer.GetNameList x) = Some (chosen 1 (name_list_answer.value x))
device_answered (answer.Identify x) = Some (chosen 2 (identify_answer.value x))
device_answered other = None

abbrev answered : Answer → Option Answer
answered a = Some a

pub answered_again : (a : Answer) → IsMade (answers_of device_services) (device_answered a) a
answered_again (answer.Status x) = ap (λ y. answered (answer.Status y)) (status_answer.again x)
answered_again (answer.GetNameList x) = ap (λ y. answered (answer.GetNameList y)) (name_list_answer.again x)
answered_again (answer.Identify x) = ap (λ y. answered (answer.Identify y)) (identify_answer.again x)
answered_again other = tt

pub answers_sound : (e : Edition) → sound_alternatives (forms_of (answers_of device_services) e) ≡ true
answers_sound e = refl

abbrev pub device_area : Area
device_area = record {
  services = device_services;
  requests = record { arms = asks_of device_services; value = device_asked; again = asked_again; sound = asks_sound };
  answers = record { arms = answers_of device_services; value = device_answered; again = answered_again; sound = answers_sound };
}
