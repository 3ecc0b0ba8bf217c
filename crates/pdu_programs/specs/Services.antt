-- Services for domains and for program invocations (ISO 9506-2, domain management and program invocation management).
use Rattle.std.specs.Prelude.{◌≡◌, true, List, [], ◌∷◌, Option, Some, None}
use Rattle.std.proofs.Common.{refl, ap}
use Rattle.ber_forms.specs.Value.{Value, chosen}
use Rattle.ber_forms.specs.Fits.{sound_alternatives}
use Rattle.mms_types.specs.declared.identifier.Edition.{Edition}
use Rattle.mms_types.specs.declared.pdu.Request.{Request}
use Rattle.mms_types.specs.declared.pdu.Request.TheVariants as request
use Rattle.mms_types.specs.declared.pdu.Answer.{Answer}
use Rattle.mms_types.specs.declared.pdu.Answer.TheVariants as answer
use Rattle.mms_types.specs.declared.pdu.ServerRequest.{ServerRequest}
use Rattle.mms_types.specs.declared.pdu.ServerRequest.TheVariants as server_request
use Rattle.mms_types.specs.declared.pdu.ClientAnswer.{ClientAnswer}
use Rattle.mms_types.specs.declared.pdu.ClientAnswer.TheVariants as client_answer
use Rattle.pdu_names.specs.Kinds.{null, int32, Choice, Arms, alternatives, made_of}
use Rattle.pdu_names.specs.Names.{identifier}
use Rattle.pdu_assoc.specs.ServiceErrors.{classes_sound, states_sound}
use Rattle.pdu_areas.specs.Services.{Service, service, server_service, forms_of, arms_of}
use Rattle.pdu_areas.specs.Joined.{IsMade}
use Rattle.pdu_areas.specs.Areas.{Area, asks_of, answers_of, server_asks_of, client_answers_of}
use Rattle.pdu_programs.specs.Download.{initiate_download, loaded_segment, terminate_download}
use Rattle.pdu_programs.specs.Upload.{upload_begun, sent_segment}
use Rattle.pdu_programs.specs.Attributes.{domain_attributes}
use Rattle.pdu_programs.specs.Invocations.{create_program, invocation_attributes, named_program, run_program}

-- in the order of their numbers; the server asks for a segment and for the end of a load
abbrev pub domain_services : List Service
domain_services =
    service 26 initiate_download request.InitiateDownloadSequence null (λ _. answer.InitiateDownloadSequence) ∷
    server_service 27 identifier server_request.DownloadSegment loaded_segment client_answer.DownloadSegment ∷
    server_service 28 terminate_download server_request.TerminateDownloadSequence null (λ _. client_answer.TerminateDownloadSequence) ∷
    service 29 identifier request.InitiateUploadSequence upload_begun answer.InitiateUploadSequence ∷
    service 30 int32 request.UploadSegment sent_segment answer.UploadSegment ∷
    service 31 int32 request.TerminateUploadSequence null (λ _. answer.TerminateUploadSequence) ∷
    service 36 identifier request.DeleteDomain null (λ _. answer.DeleteDomain) ∷
    service 37 identifier request.GetDomainAttributes domain_attributes answer.GetDomainAttributes ∷
    []

-- ---- what clients ask

abbrev domain_asked : Request → Option Value
domain_asked (request.InitiateDownloadSequence x) = Some (chosen 26 (initiate_download.value x))
domain_asked (request.InitiateUploadSequence x) = Some (chosen 29 (identifier.value x))
domain_asked (request.UploadSegment x) = Some (chosen 30 (int32.value x))
domain_asked (request.TerminateUploadSequence x) = Some (chosen 31 (int32.value x))
domain_asked (request.DeleteDomain x) = Some (chosen 36 (identifier.value x))
domain_asked (request.GetDomainAttributes x) = Some (chosen 37 (identifier.value x))
domain_asked other = None

abbrev asked : Request → Option Request
asked r = Some r

pub asked_again : (r : Request) → IsMade (asks_of domain_services) (domain_asked r) r
asked_again (request.InitiateDownloadSequence x) = ap (λ y. asked (request.InitiateDownloadSequence y)) (initiate_download.again x)
asked_again (request.InitiateUploadSequence x) = ap (λ y. asked (request.InitiateUploadSequence y)) (identifier.again x)
asked_again (request.UploadSegment x) = ap (λ y. asked (request.UploadSegment y)) (int32.again x)
asked_again (request.TerminateUploadSequence x) = ap (λ y. asked (request.TerminateUploadSequence y)) (int32.again x)
asked_again (request.DeleteDomain x) = ap (λ y. asked (request.DeleteDomain y)) (identifier.again x)
asked_again (request.GetDomainAttributes x) = ap (λ y. asked (request.GetDomainAttributes y)) (identifier.again x)
asked_again other = tt

pub asks_sound : (e : Edition) → sound_alternatives (forms_of (asks_of domain_services) e) ≡ true
asks_sound e = refl

-- ---- what the server answers

abbrev domain_answered : Answer → Option Value
domain_answered answer.InitiateDownloadSequence = Some (chosen 26 (null.value tt))
domain_answered (answer.InitiateUploadSequence x) = Some (chosen 29 (upload_begun.value x))
domain_answered (answer.UploadSegment x) = Some (chosen 30 (sent_segment.value x))
domain_answered answer.TerminateUploadSequence = Some (chosen 31 (null.value tt))
domain_answered answer.DeleteDomain = Some (chosen 36 (null.value tt))
domain_answered (answer.GetDomainAttributes x) = Some (chosen 37 (domain_attributes.value x))
domain_answered other = None

abbrev answered : Answer → Option Answer
answered a = Some a

pub answered_again : (a : Answer) → IsMade (answers_of domain_services) (domain_answered a) a
answered_again answer.InitiateDownloadSequence = refl
answered_again (answer.InitiateUploadSequence x) = ap (λ y. answered (answer.InitiateUploadSequence y)) (upload_begun.again x)
answered_again (answer.UploadSegment x) = ap (λ y. answered (answer.UploadSegment y)) (sent_segment.again x)
answered_again answer.TerminateUploadSequence = refl
answered_again answer.DeleteDomain = refl
answered_again (answer.GetDomainAttributes x) = ap (λ y. answered (answer.GetDomainAttributes y)) (domain_attributes.again x)
answered_again other = tt

pub answers_sound : (e : Edition) → sound_alternatives (forms_of (answers_of domain_services) e) ≡ true
answers_sound e = refl

abbrev pub domain_area : Area
domain_area = record {
  services = domain_services;
  requests = record { arms = asks_of domain_services; value = domain_asked; again = asked_again; sound = asks_sound };
  answers = record { arms = answers_of domain_services; value = domain_answered; again = answered_again; sound = answers_sound };
}

-- ---- services for program invocations, in the order of their numbers

abbrev pub program_services : List Service
program_services =
    service 38 create_program request.CreateProgramInvocation null (λ _. answer.CreateProgramInvocation) ∷
    service 39 identifier request.DeleteProgramInvocation null (λ _. answer.DeleteProgramInvocation) ∷
    service 40 run_program request.Start null (λ _. answer.Start) ∷
    service 41 named_program request.Stop null (λ _. answer.Stop) ∷
    service 42 run_program request.Resume null (λ _. answer.Resume) ∷
    service 43 named_program request.Reset null (λ _. answer.Reset) ∷
    service 44 named_program request.Kill null (λ _. answer.Kill) ∷
    service 45 identifier request.GetProgramInvocationAttributes invocation_attributes answer.GetProgramInvocationAttributes ∷
    []

abbrev program_asked : Request → Option Value
program_asked (request.CreateProgramInvocation x) = Some (chosen 38 (create_program.value x))
program_asked (request.DeleteProgramInvocation x) = Some (chosen 39 (identifier.value x))
program_asked (request.Start x) = Some (chosen 40 (run_program.value x))
program_asked (request.Stop x) = Some (chosen 41 (named_program.value x))
program_asked (request.Resume x) = Some (chosen 42 (run_program.value x))
program_asked (request.Reset x) = Some (chosen 43 (named_program.value x))
program_asked (request.Kill x) = Some (chosen 44 (named_program.value x))
program_asked (request.GetProgramInvocationAttributes x) = Some (chosen 45 (identifier.value x))
program_asked other = None

pub programs_asked_again : (r : Request) → IsMade (asks_of program_services) (program_asked r) r
programs_asked_again (request.CreateProgramInvocation x) = ap (λ y. asked (request.CreateProgramInvocation y)) (create_program.again x)
programs_asked_again (request.DeleteProgramInvocation x) = ap (λ y. asked (request.DeleteProgramInvocation y)) (identifier.again x)
programs_asked_again (request.Start x) = ap (λ y. asked (request.Start y)) (run_program.again x)
programs_asked_again (request.Stop x) = ap (λ y. asked (request.Stop y)) (named_program.again x)
programs_asked_again (request.Resume x) = ap (λ y. asked (request.Resume y)) (run_program.again x)
programs_asked_again (request.Reset x) = ap (λ y. asked (request.Reset y)) (named_program.again x)
programs_asked_again (request.Kill x) = ap (λ y. asked (request.Kill y)) (named_program.again x)
programs_asked_again (request.GetProgramInvocationAttributes x) = ap (λ y. asked (request.GetProgramInvocationAttributes y)) (identifier.again x)
programs_asked_again other = tt

pub program_asks_sound : (e : Edition) → sound_alternatives (forms_of (asks_of program_services) e) ≡ true
program_asks_sound e = refl

abbrev program_answered : Answer → Option Value
program_answered answer.CreateProgramInvocation = Some (chosen 38 (null.value tt))
program_answered answer.DeleteProgramInvocation = Some (chosen 39 (null.value tt))
program_answered answer.Start = Some (chosen 40 (null.value tt))
program_answered answer.Stop = Some (chosen 41 (null.value tt))
program_answered answer.Resume = Some (chosen 42 (null.value tt))
program_answered answer.Reset = Some (chosen 43 (null.value tt))
program_answered answer.Kill = Some (chosen 44 (null.value tt))
program_answered (answer.GetProgramInvocationAttributes x) = Some (chosen 45 (invocation_attributes.value x))
program_answered other = None

pub programs_answered_again : (a : Answer) → IsMade (answers_of program_services) (program_answered a) a
programs_answered_again answer.CreateProgramInvocation = refl
programs_answered_again answer.DeleteProgramInvocation = refl
programs_answered_again answer.Start = refl
programs_answered_again answer.Stop = refl
programs_answered_again answer.Resume = refl
programs_answered_again answer.Reset = refl
programs_answered_again answer.Kill = refl
programs_answered_again (answer.GetProgramInvocationAttributes x) = ap (λ y. answered (answer.GetProgramInvocationAttributes y)) (invocation_attributes.again x)
programs_answered_again other = tt

pub program_answers_sound : (e : Edition) → sound_alternatives (forms_of (answers_of program_services) e) ≡ true
program_answers_sound e = refl

abbrev pub program_area : Area
program_area = record {
  services = program_services;
  requests = record { arms = asks_of program_services; value = program_asked; again = programs_asked_again; sound = program_asks_sound };
  answers = record { arms = answers_of program_services; value = program_answered; again = programs_answered_again; sound = program_answers_sound };
}

-- ---- what the server asks, with what is said back of a value of another form

abbrev server_arms : Arms ServerRequest
server_arms = arms_of (server_request.DownloadSegment []) (server_asks_of domain_services)

abbrev server_asked : ServerRequest → Value
server_asked (server_request.DownloadSegment x) = chosen 27 (identifier.value x)
server_asked (server_request.TerminateDownloadSequence x) = chosen 28 (terminate_download.value x)

pub server_asked_again : (r : ServerRequest) → made_of server_arms (server_asked r) ≡ r
server_asked_again (server_request.DownloadSegment x) = ap server_request.DownloadSegment (identifier.again x)
server_asked_again (server_request.TerminateDownloadSequence x) = ap server_request.TerminateDownloadSequence (terminate_download.again x)

abbrev pub server_requests : Choice ServerRequest
server_requests = alternatives server_arms server_asked server_asked_again

pub server_requests_sound : (e : Edition) → sound_alternatives (server_requests.alternatives e) ≡ true
server_requests_sound e = rw (classes_sound, states_sound) refl

-- ---- what a client answers it

abbrev client_arms : Arms ClientAnswer
client_arms = arms_of client_answer.TerminateDownloadSequence (client_answers_of domain_services)

abbrev client_answered : ClientAnswer → Value
client_answered (client_answer.DownloadSegment x) = chosen 27 (loaded_segment.value x)
client_answered client_answer.TerminateDownloadSequence = chosen 28 (null.value tt)

pub client_answered_again : (a : ClientAnswer) → made_of client_arms (client_answered a) ≡ a
client_answered_again (client_answer.DownloadSegment x) = ap client_answer.DownloadSegment (loaded_segment.again x)
client_answered_again client_answer.TerminateDownloadSequence = refl

abbrev pub client_answers : Choice ClientAnswer
client_answers = alternatives client_arms client_answered client_answered_again

pub client_answers_sound : (e : Edition) → sound_alternatives (client_answers.alternatives e) ≡ true
client_answers_sound e = refl
