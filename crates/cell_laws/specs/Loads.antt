-- How each domain was loaded, told from what clients send (ISO 9506-1, domain management): who began the last load of a
-- name, and what was answered in it.
use Rattle.std.specs.Prelude.{◌≡◌, ◌⊎◌, ℕ, Bool, true, false, List, [], ◌∷◌, ◌++◌, fold, length, map, Option, None, Some, option_map, option_to_list, All, Contains, if◌then◌else◌}
use Rattle.mms_types.specs.declared.asked.Reply.{Reply}
use Rattle.mms_types.specs.declared.asked.Reply.TheVariants as reply
use Rattle.mms_types.specs.declared.domain.InitiateDownloadSequence.{InitiateDownloadSequence}
use Rattle.mms_types.specs.declared.event.CellEvent.{CellEvent}
use Rattle.mms_types.specs.declared.event.CellEvent.TheVariants.{Heard, Lost, Tick, Ends, Drain}
use Rattle.mms_types.specs.declared.pdu.Request.{Request}
use Rattle.mms_types.specs.declared.pdu.Request.TheVariants as request
use Rattle.cell_config.specs.declared.config.Config.{Config}
use Rattle.association.specs.Asked.{asked_of}
use Rattle.association.specs.Client.{ClientRow}
use Rattle.domain_load.specs.Domains.{Rows, is_there, name_eq, named}
use Rattle.domain_load.specs.Loading.{brings, brought, domain_of, would_pass}
use Rattle.domain_load.specs.Standing.{is_loaded_by}
use Rattle.domain_load.specs.declared.domain.Domain.{Domain}
use Rattle.parted_state.specs.Served.{row_at}
use Rattle.cell_client.specs.Association.{Verdict, Takes, Replies, verdict}
use Rattle.serve_domains.specs.Domains.{reply_of}
use Rattle.cell_services.specs.Serving.{is_served, lost_in, meanwhile, resolved}
use Rattle.cell_services.specs.Tables.{Tables}
use Rattle.step_parts.specs.Partition.{cell}
use Rattle.step_parts.specs.State.{State, start}
use Rattle.step_parts.specs.Step.{step}
use Rattle.cell_laws.specs.Freed.{Leaves}

-- ---- what events tell of loads

-- what a client may do to the load of a domain
pub data LoadStep : Type 0 where
  -- a load that it asks for begins
  Begins : ℕ → InitiateDownloadSequence → LoadStep
  -- it answers a request of the server that is of a load that goes on
  Answers : ℕ → Reply → LoadStep

-- a request that is done begins a load, or none
abbrev pub load_begun : ℕ → Request → Option LoadStep
load_begun client (request.InitiateDownloadSequence asked) = Some (Begins client asked)
load_begun client other = None

-- what a client does, by what its octets come to
abbrev pub load_heard : Tables → ClientRow → Verdict → Option LoadStep
load_heard t row (Takes invoke asked) = if is_served t row invoke asked then load_begun row.client asked else None
load_heard t row (Replies number came) = option_map (λ of. Answers row.client (reply_of came of)) (asked_of number row.asked)
load_heard t row other = None

-- what an event does, if anything
abbrev pub load_step : State → CellEvent → Option LoadStep
load_step s (Heard client octets) =
    load_heard (cell.tables_of s) (row_at cell client s.clients) (resolved (cell.tables_of s) (row_at cell client s.clients) (verdict (row_at cell client s.clients) octets))
load_step s (Lost client) = None
load_step s (Tick ms) = None
load_step s (Ends name) = None
load_step s (Drain client) = None

-- what the events of a history do, one after the other
abbrev pub load_steps : State → List CellEvent → List LoadStep
load_steps s [] = []
load_steps s (event ∷ rest) = option_to_list (load_step s event) ++ load_steps (step s event) rest

-- ---- the last load of a name

-- a load: who began it, what it asked for, and who answered what since then
pub record Load : Type 0 where
  pub client : ℕ
  pub asked : InitiateDownloadSequence
  pub answers : List (ℕ × Reply)

-- one answer more
abbrev pub with_answer : ℕ → Reply → Load → Load
with_answer client answer load = record load { answers = load.answers ++ (client, answer) ∷ [] }

abbrev pub load_after : List ℕ → Option Load → LoadStep → Option Load
load_after name last (Begins client asked) = if name_eq name asked.domain then Some (record { client = client; asked = asked; answers = [] }) else last
load_after name last (Answers client answer) = if name_eq name (domain_of answer) then option_map (with_answer client answer) last else last

abbrev pub last_load : List ℕ → List LoadStep → Option Load
last_load name steps = fold (load_after name) None steps

-- that in a history of the configured device
abbrev pub last_load_in : Config → List CellEvent → List ℕ → Option Load
last_load_in config history name = last_load name (load_steps (start config) history)

-- ---- what a domain is by its last load

-- one client answers these
abbrev pub answers_of : ℕ → List Reply → List (ℕ × Reply)
answers_of client answers = map (λ answer. (client, answer)) answers

-- all but the last one
abbrev pub but_last : {A : Type 0} → List A → List A
but_last [] = []
but_last (x ∷ []) = []
but_last (x ∷ y ∷ ys) = x ∷ but_last (y ∷ ys)

-- The domain was loaded by the one client that began its last load: this client answered with these segments, each but
-- the last one with more to come, and then that the load has ended. The domain has these segments, and what was asked
-- for.
pub record WasLoaded (name : List ℕ) (domain : Domain) (last : Option Load) : Type 0 where
  pub client : ℕ
  pub asked : InitiateDownloadSequence
  pub parts : List (List ℕ × Bool)
  pub final : List ℕ
  pub is : last ≡ Some (record {
    client = client;
    asked = asked;
    answers = answers_of client (brings name (parts ++ (final, false) ∷ []) ++ reply.Ended name ∷ []);
  })
  pub more : All (λ part. part.1 ≡ true) parts
  pub segments : domain.segments ≡ brought (parts ++ (final, false) ∷ [])
  pub capabilities : domain.capabilities ≡ asked.capabilities
  pub sharable : domain.sharable ≡ asked.sharable

-- The client loads the domain: it began the last load, and answered with these segments so far, each but the last one
-- with more to come, and with nothing else. The domain has these segments, and what was asked for.
pub record IsLoading (name : List ℕ) (client : ℕ) (domain : Domain) (last : Option Load) : Type 0 where
  pub asked : InitiateDownloadSequence
  pub parts : List (List ℕ × Bool)
  pub is : last ≡ Some (record { client = client; asked = asked; answers = answers_of client (brings name parts) })
  pub more : All (λ part. part.1 ≡ true) (but_last parts)
  pub segments : domain.segments ≡ brought parts
  pub capabilities : domain.capabilities ≡ asked.capabilities
  pub sharable : domain.sharable ≡ asked.sharable

-- ---- the end of a load

-- the domain of that name, if there is one
abbrev pub domain_at : List ℕ → State → Option Domain
domain_at name s = named name s.domains.domains

-- the client is loading it
abbrev pub loads : ℕ → List ℕ → State → Bool
loads client name s = is_there (is_loaded_by client) name s.domains.domains

-- the clients whose associations are aborted while so many milliseconds go by
abbrev pub lost_meanwhile : ℕ → State → List ℕ
lost_meanwhile ms s = lost_in (meanwhile ms (cell.tables_of s)).happened

-- the answer breaks the load off: with its octets there would be too many, or it is an error or a reject
abbrev pub breaks_off : Reply → Rows → Bool
breaks_off (reply.Segment name octets more) rows = is_there (would_pass (length octets)) name rows
breaks_off (reply.Ended name) rows = false
breaks_off (reply.Failed name kind) rows = true

-- an answer of the client breaks off its load of that name
pub record IsBrokenOff (name : List ℕ) (client : ℕ) (s : State) (event : CellEvent) : Type 0 where
  pub answer : Reply
  pub answers : load_step s event ≡ Some (Answers client answer)
  pub its : domain_of answer ≡ name
  pub breaks : breaks_off answer s.domains.domains ≡ true

-- the association of the client is aborted while time goes by
pub record IsAbortedMeanwhile (client : ℕ) (s : State) (event : CellEvent) : Type 0 where
  pub ms : ℕ
  pub passes : event ≡ Tick ms
  pub among : Contains (lost_meanwhile ms s) client

-- why the client's load of that name ends before it is whole
abbrev pub EndsLoad : List ℕ → ℕ → State → CellEvent → Type 0
EndsLoad name client s event = IsBrokenOff name client s event ⊎ (Leaves client s event ⊎ IsAbortedMeanwhile client s event)
