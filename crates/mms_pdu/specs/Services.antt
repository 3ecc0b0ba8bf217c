-- The confirmed services that are offered (ISO 9506-2, ConfirmedServiceRequest and ConfirmedServiceResponse): those of the areas, each
-- asked by clients or by the server.
use Rattle.std.specs.Prelude.{◌≡◌, ℕ, true, List, [], ◌∷◌, refl}
use Rattle.ber_forms.specs.Fits.{sound_alternatives}
use Rattle.mms_types.specs.declared.identifier.Edition.{Edition}
use Rattle.mms_types.specs.declared.pdu.Request.{Request}
use Rattle.mms_types.specs.declared.pdu.Request.TheVariants as request
use Rattle.mms_types.specs.declared.pdu.Answer.{Answer}
use Rattle.mms_types.specs.declared.pdu.Answer.TheVariants as answer
use Rattle.pdu_names.specs.Kinds.{Choice}
use Rattle.pdu_areas.specs.Services.{Service, forms_of}
use Rattle.pdu_areas.specs.Joined.{Share, claims, choice_of, sound_in}
use Rattle.pdu_areas.specs.Areas.{Area, services_of, requests_of, answers_in, numbers_of, asks_of, answers_of, server_asks_of, client_answers_of}
use Rattle.pdu_assoc.specs.Services.{device_area}
use Rattle.pdu_vars.specs.Services.{variable_area}
use Rattle.pdu_sems.specs.Services.{semaphore_area}
use Rattle.pdu_programs.specs.Services.{domain_area, program_area, server_requests, client_answers}
use Rattle.pdu_events.specs.Services.{event_area}

-- the areas, in the order of their numbers
abbrev pub areas : List Area
areas = device_area ∷ variable_area ∷ semaphore_area ∷ domain_area ∷ program_area ∷ event_area ∷ []

-- The one list of services: from it follow the services that an initiate-Response names, what clients ask and are answered, and what the
-- server asks and is answered.
abbrev pub services : List Service
services = services_of areas

-- the services that an initiate-Response names: all of them, whoever asks them
abbrev pub service_numbers : List ℕ
service_numbers = numbers_of services

abbrev pub request_shares : List (Share Request)
request_shares = requests_of areas

abbrev pub answer_shares : List (Share Answer)
answer_shares = answers_in areas

-- what is said back of a value of another form
abbrev other_answer : Answer
other_answer = answer.Status (record { logical = 0; physical = 0 })

-- ---- ConfirmedServiceRequest of a client: each service by its number, with its argument

-- each request is of one area alone
pub one_asks : (r : Request) → claims request_shares r ≡ 1
one_asks request.Identify = refl
one_asks r = refl

unfoldable pub requests : Choice Request
requests = choice_of request.Identify request_shares refl one_asks

pub requests_sound : (e : Edition) → sound_alternatives (requests.alternatives e) ≡ true
unfolding requests
requests_sound = sound_in request_shares refl

-- a client may ask what clients ask by the list, and nothing else
pub clients_ask : (e : Edition) → requests.alternatives e ≡ forms_of (asks_of services) e
unfolding requests
clients_ask e = refl

-- ---- ConfirmedServiceResponse of the server: each service by its number, with its answer

-- and so is each answer
pub one_answers : (a : Answer) → claims answer_shares a ≡ 1
one_answers (answer.Status x) = refl
one_answers a = refl

unfoldable pub answers : Choice Answer
answers = choice_of other_answer answer_shares refl one_answers

pub answers_sound : (e : Edition) → sound_alternatives (answers.alternatives e) ≡ true
unfolding answers
answers_sound = sound_in answer_shares refl

pub clients_are_answered : (e : Edition) → answers.alternatives e ≡ forms_of (answers_of services) e
unfolding answers
clients_are_answered e = refl

-- ---- ConfirmedServiceRequest of the server and ConfirmedServiceResponse of a client

pub server_asks : (e : Edition) → server_requests.alternatives e ≡ forms_of (server_asks_of services) e
server_asks e = refl

-- a client may answer what the server asks by the list, and nothing else
pub clients_answer : (e : Edition) → client_answers.alternatives e ≡ forms_of (client_answers_of services) e
clients_answer e = refl
