-- Who is told something beside the client that is heard.
use Rattle.std.specs.Prelude.{◌≡◌, ◌≢◌, ◌==◌, ◌||◌, ℕ, Bool, true, false, Option, None, Some, List, [], ◌∷◌, map, option_to_list, refl, if◌then◌else◌}
use Rattle.std.specs.List.{flat_map, list_any}
use Rattle.std.proofs.Common.{ap, ap₂, sym, ◌∙◌, arith}
use Rattle.std.proofs.lemmas.Bool.Decides.{nat_tests}
use Rattle.std.proofs.lemmas.List.Folds.{list_any-append}
use Rattle.mms_types.specs.Areas.{device_request, domain_request, event_request, invocation_request, journal_request, program_request, semaphore_request, variable_request}
use Rattle.mms_types.specs.declared.asked.Asked.{Asked}
use Rattle.mms_types.specs.declared.area.DomainRequest.{DomainRequest}
use Rattle.mms_types.specs.declared.area.DomainRequest.TheVariants as domain
use Rattle.mms_types.specs.declared.area.DeviceRequest.{DeviceRequest}
use Rattle.mms_types.specs.declared.area.EventRequest.{EventRequest}
use Rattle.mms_types.specs.declared.area.SemaphoreRequest.{SemaphoreRequest}
use Rattle.mms_types.specs.declared.area.InvocationRequest.{InvocationRequest}
use Rattle.mms_types.specs.declared.area.JournalRequest.{JournalRequest}
use Rattle.mms_types.specs.declared.area.ProgramRequest.{ProgramRequest}
use Rattle.mms_types.specs.declared.area.VariableRequest.{VariableRequest}
use Rattle.mms_types.specs.declared.condition.Notice.{Notice}
use Rattle.mms_types.specs.declared.condition.Turned.{Turned}
use Rattle.mms_types.specs.declared.moment.Moment.{Moment}
use Rattle.mms_types.specs.declared.pdu.Request.{Request}
use Rattle.sem_ticks.specs.declared.granted.Granted.{Granted}
use Rattle.sem_ticks.specs.Granted.{lost_granted}
use Rattle.mms_time.specs.Semaphores.{Rows}
use Rattle.sem_ticks.specs.declared.ticks.Happening.{Happening}
use Rattle.sem_ticks.specs.declared.ticks.Happening.TheVariants as happens
use Rattle.association.specs.Client.{ClientRow, negotiated_of}
use Rattle.association.specs.declared.negotiation.Negotiated.{Negotiated}
use Rattle.association.specs.declared.negotiation.Association.{Association}
use Rattle.association.specs.declared.negotiation.Association.TheVariants.{Idle, Open}
use Rattle.parted_state.specs.Served.{is_told}
use Rattle.cell_services.proofs.TimeLaws.{moment_given}
use Rattle.cell_client.specs.Effects.{Effect}
use Rattle.association.specs.Asked.{asked_of}
use Rattle.cell_client.specs.Association.{Came, Takes, Replies, Exhausts, Concludes, Tells, Aborts, keeps_open}
use Rattle.cell_client.specs.declared.verdict.Found.{Found}
use Rattle.cell_client.specs.declared.verdict.Found.TheVariants as found
use Rattle.cell_client.specs.Meant.{meant}
use Rattle.domain_load.specs.Loading.{asked_next}
use Rattle.domain_upload.specs.Uploads.{has_upload}
use Rattle.serve_domains.specs.Domains as domains
use Rattle.serve_domains.specs.Tables.{DomainTables}
use Rattle.cell_services.specs.Others.{AlsoTells, client_of, clients_meanwhile, clients_told, grant_clients}
use Rattle.cell_services.proofs.AreaTableLaws.{device_alone, in_device, in_domains, in_events, in_invocations, in_journals, in_programs, in_semaphores, in_variables, variables_alone}
use Rattle.cell_services.specs.Device as device
use Rattle.cell_services.specs.Requests.{told_in}
use Rattle.cell_services.specs.Services.{InArea, OfDevice, OfDomains, OfEvents, OfInvocations, OfJournals, OfPrograms, OfSemaphores, OfVariables, area_of, reply_in, cause_of, effect_of, grants_told, lacks_number}
use Rattle.cell_client.specs.Areas.{also_in, lacks_number_in}
use Rattle.cell_client.specs.Facts.{Facts, no_facts}
use Rattle.cell_client.specs.Requests.{is_done, size_of}
use Rattle.cell_services.specs.Serving.{all_told, also_lost, also_served, also_told, happened_told, happening_told, is_served_in, loss_also, resolved}
use Rattle.cell_services.specs.Tables.{Tables, own_domains, own_events, own_invocations, own_journals, own_programs, own_semaphores, own_variables}
use Rattle.parted_state.specs.Area.{no_table}
use Rattle.serve_semaphores.specs.Semaphores as semaphores
use Rattle.serve_semaphores.specs.Tokens.{is_the_one}
use Rattle.serve_journals.proofs.AnswerLaws.{journals_alone}
use Rattle.serve_journals.specs.Journals as journals
use Rattle.serve_programs.proofs.AnswerLaws.{makes_alone, programs_alone}
use Rattle.serve_programs.specs.Programs as programs
use Rattle.serve_variables.specs.Variables as variables
use Rattle.serve_events.specs.Events as events
use Rattle.serve_events.specs.Told.{notices_told}
use Rattle.serve_events.specs.Turns.{is_one_of}
use Rattle.serve_events.specs.declared.tables.EventTables.{EventTables}
use Rattle.cell_ticks.specs.declared.happening.DatedHappening.{DatedHappening}
use Rattle.cell_ticks.specs.declared.happening.Happening.{Happening as DeviceHappening}
use Rattle.cell_ticks.specs.declared.happening.Happening.TheVariants as on_device
use Rattle.cell_services.proofs.AreaLaws.{events_now}

-- ---- grants, and what happens

twice : (b r s : Bool) → r ≡ s → (b || (b || r)) ≡ (b || s)
twice true r s same = refl
twice false r s same = same

pub grants_reach : (grants : List Granted) (k : ℕ) → is_told (grants_told grants) k ≡ list_any (λ c. c == k) (grant_clients grants)
grants_reach [] k = refl
grants_reach (g ∷ grants) k = twice (g.client == k) _ _ (grants_reach grants k)

pub happening_reaches : (happened : List Happening) (k : ℕ) → is_told (flat_map happening_told happened) k ≡ list_any (λ c. c == k) (map client_of happened)
happening_reaches [] k = refl
happening_reaches (happens.WaitEnds client invoke ∷ rest) k = twice (client == k) _ _ (happening_reaches rest k)
happening_reaches (happens.Grants g ∷ rest) k = twice (g.client == k) _ _ (happening_reaches rest k)
happening_reaches (happens.Aborts client ∷ rest) k = twice (client == k) _ _ (happening_reaches rest k)

-- so the clients that are collected are those that are told
pub happened_clients : (happened : List Happening) (clients : List ℕ) → clients ≡ map client_of happened
    → (k : ℕ) → is_told (flat_map happening_told happened) k ≡ list_any (λ c. c == k) clients
happened_clients happened clients is k = happening_reaches happened k ∙ ap (list_any (λ (c : ℕ). c == k)) (sym is)

-- ---- what happens on the device

notices_reach : (turned : Turned) (notices : List Notice) (k : ℕ) → is_told (notices_told turned notices) k ≡ list_any (λ c. c == k) (map (λ n. n.client) notices)
notices_reach turned [] k = refl
notices_reach turned (n ∷ notices) k = ap (λ (b : Bool). n.client == k || b) (notices_reach turned notices k)

one_reaches : (x : DeviceHappening) (k : ℕ) → is_told (happened_told x) k ≡ list_any (λ c. c == k) (clients_told x)
one_reaches (on_device.Semaphores (happens.WaitEnds client invoke)) k = twice (client == k) false false refl
one_reaches (on_device.Semaphores (happens.Grants g)) k = twice (g.client == k) false false refl
one_reaches (on_device.Semaphores (happens.Aborts client)) k = twice (client == k) false false refl
one_reaches (on_device.Turns told) k = notices_reach told.turned told.notices k

all_reach : (happened : List DatedHappening) (k : ℕ) → is_told (all_told happened) k ≡ list_any (λ c. c == k) (clients_meanwhile happened)
all_reach [] k = refl
all_reach (h ∷ happened) k =
    list_any-append (λ (t : ℕ × Effect). t.0 == k) (happened_told h.happening) (all_told happened)
    ∙ ap₂ (λ (a b : Bool). a || b) (one_reaches h.happening k) (all_reach happened k)
    ∙ sym (list_any-append (λ (c : ℕ). c == k) (clients_told h.happening) (clients_meanwhile happened))

pub meanwhile_clients : (happened : List DatedHappening) (clients : List ℕ) → clients ≡ clients_meanwhile happened
    → (k : ℕ) → is_told (all_told happened) k ≡ list_any (λ c. c == k) clients
meanwhile_clients happened clients is k = all_reach happened k ∙ ap (list_any (λ (c : ℕ). c == k)) (sym is)

-- ---- a client is lost

pub loss_reaches : (rows : Rows) (now : Moment) (client : ℕ) (clients : List ℕ) → clients ≡ grant_clients (lost_granted client now rows)
    → (t : Tables) → t.semaphores ≡ rows → t.now ≡ now.0 → (k : ℕ) → is_told (loss_also client t) k ≡ list_any (λ c. c == k) clients
loss_reaches rows now client clients is t same at k =
    ap₂ (λ (m : Moment) (r : Rows). is_told (grants_told (lost_granted client m r)) k) (sym (moment_given t now (sym at))) same
    ∙ grants_reach (lost_granted client now rows) k
    ∙ ap (list_any (λ (c : ℕ). c == k)) (sym is)

-- ---- a request is served: others are told what its area says

abbrev nobody : List (ℕ × Effect)
nobody = []

chosen_none : (b : Bool) → (if b then nobody else nobody) ≡ nobody
chosen_none true = refl
chosen_none false = refl

-- the one that there is
the_one : (told : Option ℕ) (k : ℕ) → is_the_one told k ≡ list_any (λ c. c == k) (option_to_list told)
the_one None k = refl
the_one (Some c) k = by_test (c == k)
  where
    by_test : (b : Bool) → b ≡ (b || false)
    by_test true = refl
    by_test false = refl

-- a client that isn't the one that is told
not_it : (client k : ℕ) → client ≢ k → (client == k) ≡ false
not_it client k other = by_test (client == k) refl
  where
    by_test : (b : Bool) → (client == k) ≡ b → b ≡ false
    by_test false is = refl
    by_test true is = absurd (other (grind (arith, nat_tests)))

-- a request for domains tells its client alone something
domains_alone : (x : DomainRequest) (facts : Facts) (d : DomainTables) (row : ClientRow) (invoke k : ℕ) → row.client ≢ k
    → is_told ((domains.request_in x).effect facts d row invoke).also k ≡ false
domains_alone (domain.InitiateDownloadSequence x) facts d row invoke k other = ap (λ (b : Bool). b || false) (not_it row.client k other)
domains_alone x facts d row invoke k other = refl

-- and so does what a client answers to the server
reply_alone : (number : ℕ) (came : Came) (o : Option (Asked × List ℕ)) (d : DomainTables) (client k : ℕ) → client ≢ k
    → is_told (domains.replied_to client number came o d).also k ≡ false
reply_alone number came None d client k other = refl
reply_alone number came (Some of) d client k other =
    ap₂ (λ (b c : Bool). b || c) (not_it client k other) (next (asked_next (domains.reply_of came of) d.domains))
  where
    next : (o : Option Asked) → is_told (domains.asks_next client o of.1) k ≡ false
    next None = refl
    next (Some kind) = ap (λ (b : Bool). b || false) (not_it client k other)

module _ (t : Tables) (row : ClientRow) (invoke : ℕ) (asked : Request) where
  -- what is told besides, in the area of the request
  also_as : (a : InArea) → area_of asked ≡ a
      → also_told t row (resolved t row (Takes invoke asked)) ≡ (if lacks_number t row invoke a then loss_also row.client t else also_served t row invoke a)
  also_as a is =
      by_test (lacks_number t row invoke (area_of asked))
      ∙ ap (λ (x : InArea). if lacks_number t row invoke x then loss_also row.client t else also_served t row invoke x) is
    where
      by_test : (b : Bool) → also_told t row (if b then Exhausts invoke else Takes invoke asked)
          ≡ (if b then loss_also row.client t else also_served t row invoke (area_of asked))
      by_test true = refl
      by_test false = refl

  -- where it is aborted, others are told that it is lost
  pub domains_lost : (x : DomainRequest) (clients : List ℕ) → domain_request x ≡ asked → lacks_number_in (domains.request_in x) no_facts row invoke t.domains ≡ true
      → ((k : ℕ) → is_told (loss_also row.client t) k ≡ list_any (λ c. c == k) clients) → AlsoTells t row (Takes invoke asked) clients
  domains_lost x clients is lacking reach k other =
      ap (λ (l : List (ℕ × Effect)). is_told l k)
      (also_as (OfDomains (domains.request_in x)) (ap area_of (sym is) ∙ in_domains x)
      ∙ ap (λ (b : Bool). if b then loss_also row.client t else also_served t row invoke (OfDomains (domains.request_in x))) lacking)
      ∙ reach k

  pub domains_own : (x : DomainRequest) (clients : List ℕ) → domain_request x ≡ asked → lacks_number_in (domains.request_in x) no_facts row invoke t.domains ≡ false
      → clients ≡ [] → AlsoTells t row (Takes invoke asked) clients
  domains_own x clients is numbered none k other =
      ap (λ (l : List (ℕ × Effect)). is_told l k)
      (also_as (OfDomains (domains.request_in x)) (ap area_of (sym is) ∙ in_domains x)
      ∙ ap (λ (b : Bool). if b then loss_also row.client t else also_served t row invoke (OfDomains (domains.request_in x))) numbered)
      ∙ by_test (is_served_in t row invoke (OfDomains (domains.request_in x)))
      ∙ ap (list_any (λ (c : ℕ). c == k)) (sym none)
    where
      by_test : (b : Bool) → is_told (if b then (effect_of t row invoke (OfDomains (domains.request_in x))).also else []) k ≡ false
      by_test true = domains_alone x (told_in own_domains t row (domains.request_in x)) t.domains row invoke k other
      by_test false = refl

  pub device_tells : (x : DeviceRequest) (clients : List ℕ) → device_request x ≡ asked → clients ≡ [] → AlsoTells t row (Takes invoke asked) clients
  device_tells x clients is none k other =
      ap (λ (l : List (ℕ × Effect)). is_told l k)
      (also_as (OfDevice (device.request_in x)) (ap area_of (sym is) ∙ in_device x)
      ∙ ap (λ (l : List (ℕ × Effect)). if is_done (size_of row.association) invoke (cause_of t row (OfDevice (device.request_in x)))
      (effect_of t row invoke (OfDevice (device.request_in x))).answer then l else [])
      (device_alone x (told_in no_table t row (device.request_in x)) row invoke)
      ∙ chosen_none _)
      ∙ ap (list_any (λ (c : ℕ). c == k)) (sym none)

  pub variables_tell : (x : VariableRequest) (clients : List ℕ) → variable_request x ≡ asked → clients ≡ [] → AlsoTells t row (Takes invoke asked) clients
  variables_tell x clients is none k other =
      ap (λ (l : List (ℕ × Effect)). is_told l k)
      (also_as (OfVariables (variables.request_in x)) (ap area_of (sym is) ∙ in_variables x)
      ∙ ap (λ (l : List (ℕ × Effect)). if is_done (size_of row.association) invoke (cause_of t row (OfVariables (variables.request_in x)))
      (effect_of t row invoke (OfVariables (variables.request_in x))).answer then l else [])
      (variables_alone x (told_in own_variables t row (variables.request_in x)) t.variables row invoke)
      ∙ chosen_none _)
      ∙ ap (list_any (λ (c : ℕ). c == k)) (sym none)

  pub invocations_tell : (x : InvocationRequest) (clients : List ℕ) → invocation_request x ≡ asked → clients ≡ [] → AlsoTells t row (Takes invoke asked) clients
  invocations_tell x clients is none k other =
      ap (λ (l : List (ℕ × Effect)). is_told l k)
      (also_as (OfInvocations (programs.invocation_in x)) (ap area_of (sym is) ∙ in_invocations x)
      ∙ ap (λ (l : List (ℕ × Effect)). if is_done (size_of row.association) invoke (cause_of t row (OfInvocations (programs.invocation_in x)))
      (effect_of t row invoke (OfInvocations (programs.invocation_in x))).answer then l else [])
      (makes_alone (told_in own_invocations t row (programs.invocation_in x)) row invoke (t.domains, t.programs) x)
      ∙ chosen_none _)
      ∙ ap (list_any (λ (c : ℕ). c == k)) (sym none)

  pub programs_tell : (x : ProgramRequest) (clients : List ℕ) → program_request x ≡ asked → clients ≡ [] → AlsoTells t row (Takes invoke asked) clients
  programs_tell x clients is none k other =
      ap (λ (l : List (ℕ × Effect)). is_told l k)
      (also_as (OfPrograms (programs.program_in x)) (ap area_of (sym is) ∙ in_programs x)
      ∙ ap (λ (l : List (ℕ × Effect)). if is_done (size_of row.association) invoke (cause_of t row (OfPrograms (programs.program_in x)))
      (effect_of t row invoke (OfPrograms (programs.program_in x))).answer then l else [])
      (programs_alone (told_in own_programs t row (programs.program_in x)) row invoke t.programs x)
      ∙ chosen_none _)
      ∙ ap (list_any (λ (c : ℕ). c == k)) (sym none)

  pub journals_tell : (x : JournalRequest) (clients : List ℕ) → journal_request x ≡ asked → clients ≡ [] → AlsoTells t row (Takes invoke asked) clients
  journals_tell x clients is none k other =
      ap (λ (l : List (ℕ × Effect)). is_told l k)
      (also_as (OfJournals (journals.request_in x)) (ap area_of (sym is) ∙ in_journals x)
      ∙ ap (λ (l : List (ℕ × Effect)). if is_done (size_of row.association) invoke (cause_of t row (OfJournals (journals.request_in x)))
      (effect_of t row invoke (OfJournals (journals.request_in x))).answer then l else [])
      (journals_alone (told_in own_journals t row (journals.request_in x)) row invoke t.journals x)
      ∙ chosen_none _)
      ∙ ap (list_any (λ (c : ℕ). c == k)) (sym none)

  pub semaphores_tell : (x : SemaphoreRequest) (rows : Rows) (told : Option ℕ) (clients : List ℕ) → semaphore_request x ≡ asked → t.semaphores ≡ rows
      → ((facts : Facts) (k : ℕ) → row.client ≢ k → list_any (λ told. told.0 == k) (also_in (semaphores.request_in x) facts row invoke rows) ≡ is_the_one told k)
      → clients ≡ option_to_list told → AlsoTells t row (Takes invoke asked) clients
  semaphores_tell x rows told clients is same reach are k other =
      ap (λ (l : List (ℕ × Effect)). is_told l k) (also_as (OfSemaphores (semaphores.request_in x)) (ap area_of (sym is) ∙ in_semaphores x))
      ∙ ap (λ (r : Rows). is_told (also_in (semaphores.request_in x) (told_in own_semaphores t row (semaphores.request_in x)) row invoke r) k) same
      ∙ reach (told_in own_semaphores t row (semaphores.request_in x)) k other
      ∙ the_one told k
      ∙ ap (list_any (λ (c : ℕ). c == k)) (sym are)

  -- whom a request for event conditions tells of transitions
  pub events_tell : (x : EventRequest) (now : Moment) (says : Bool) (was : EventTables) (clients : List ℕ) → event_request x ≡ asked → t.events ≡ was → t.now ≡ now.0
      → (told_in own_events t row (events.request_in x)).truth ≡ says
      → ((facts : Facts) → facts.now ≡ now → facts.truth ≡ says → (k : ℕ) → is_told (also_in (events.request_in x) facts row invoke was) k ≡ is_one_of clients k)
      → AlsoTells t row (Takes invoke asked) clients
  events_tell x now says was clients is same at true_then reach k other =
      ap (λ (l : List (ℕ × Effect)). is_told l k) (also_as (OfEvents (events.request_in x)) (ap area_of (sym is) ∙ in_events x))
      ∙ ap (λ (u : EventTables). is_told (also_in (events.request_in x) (told_in own_events t row (events.request_in x)) row invoke u) k) same
      ∙ reach (told_in own_events t row (events.request_in x)) (events_now x t row ∙ sym (moment_given t now (sym at))) true_then k

-- ---- what is heard

-- it is the client of that row that is lost
pub own_loss : (t : Tables) (own client : ℕ) (clients : List ℕ) → client ≡ own → ((k : ℕ) → is_told (loss_also client t) k ≡ list_any (λ c. c == k) clients)
    → (k : ℕ) → is_told (loss_also own t) k ≡ list_any (λ c. c == k) clients
own_loss t own client clients is reach k = ap (λ (n : ℕ). is_told (loss_also n t) k) (sym is) ∙ reach k

-- a conclusion, by whether an open upload refuses it
pub conclusion_lost : (t : Tables) (row : ClientRow) (clients : List ℕ) → has_upload row.client t.domains.uploads ≡ false
    → ((k : ℕ) → is_told (loss_also row.client t) k ≡ list_any (λ c. c == k) clients) → AlsoTells t row Concludes clients
conclusion_lost t row clients free reach k other =
    ap (λ (b : Bool). is_told (also_told t row (if b then Tells keeps_open else Concludes)) k) free ∙ reach k

pub conclusion_own : (t : Tables) (row : ClientRow) (clients : List ℕ) → has_upload row.client t.domains.uploads ≡ true → clients ≡ []
    → AlsoTells t row Concludes clients
conclusion_own t row clients kept none k other =
    ap (λ (b : Bool). is_told (also_told t row (if b then Tells keeps_open else Concludes)) k) kept
    ∙ ap (list_any (λ (c : ℕ). c == k)) (sym none)

-- a proposal aborts it
pub aborts_lost : (t : Tables) (row : ClientRow) (f : Found) (clients : List ℕ) → f ≡ found.Aborts
    → ((k : ℕ) → is_told (loss_also row.client t) k ≡ list_any (λ c. c == k) clients) → AlsoTells t row (meant f) clients
aborts_lost t row f clients is reach k other = ap (λ (g : Found). is_told (also_told t row (resolved t row (meant g))) k) is ∙ reach k

-- what a client answers, by whether a number is lacking
pub reply_lost : (t : Tables) (row : ClientRow) (number : ℕ) (came : Came) (clients : List ℕ)
    → lacks_number_in (domains.replied number came) no_facts row number t.domains ≡ true
    → ((k : ℕ) → is_told (loss_also row.client t) k ≡ list_any (λ c. c == k) clients) → AlsoTells t row (Replies number came) clients
reply_lost t row number came clients lacking reach k other =
    ap (λ (b : Bool). is_told (also_told t row (if b then Aborts else Replies number came)) k) lacking ∙ reach k

pub reply_own : (t : Tables) (row : ClientRow) (number : ℕ) (came : Came) (clients : List ℕ)
    → lacks_number_in (domains.replied number came) no_facts row number t.domains ≡ false → clients ≡ [] → AlsoTells t row (Replies number came) clients
reply_own t row number came clients numbered none k other =
    ap (λ (b : Bool). is_told (also_told t row (if b then Aborts else Replies number came)) k) numbered
    ∙ by_test (is_served_in t row number (reply_in number came))
    ∙ ap (list_any (λ (c : ℕ). c == k)) (sym none)
  where
    by_test : (b : Bool) → is_told (if b then (effect_of t row number (reply_in number came)).also else []) k ≡ false
    by_test true = reply_alone number came (asked_of number row.asked) t.domains row.client k other
    by_test false = refl

also_open : (a : Association) (v : Negotiated) → negotiated_of a ≡ Some v → (client : ℕ) (t : Tables) → also_lost a client t ≡ loss_also client t
also_open Idle v is client t = absurd (cc is)
also_open (Open values) v is client t = refl

pub open_loss : (rows : Rows) (now : Moment) (row : ClientRow) (v : Negotiated) (client : ℕ) (clients : List ℕ) → negotiated_of row.association ≡ Some v → client ≡ row.client
    → ((t : Tables) → t.semaphores ≡ rows → t.now ≡ now.0 → (k : ℕ) → is_told (loss_also client t) k ≡ list_any (λ c. c == k) clients)
    → (t : Tables) → t.semaphores ≡ rows → t.now ≡ now.0 → (k : ℕ) → is_told (also_lost row.association row.client t) k ≡ list_any (λ c. c == k) clients
open_loss rows now row v client clients is own reach t same at k =
    ap (λ (l : List (ℕ × Effect)). is_told l k) (also_open row.association v is row.client t) ∙ ap (λ (n : ℕ). is_told (loss_also n t) k) (sym own) ∙ reach t same at k
