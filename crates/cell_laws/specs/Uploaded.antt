-- What was told of an upload since it began (ISO 9506-1, domain management: UploadSegment).
use Rattle.std.specs.Prelude.{◌≡◌, ℕ, ℤ, ◌==◌, ◌&&◌, Bool, true, false, List, [], ◌++◌, fold, take, Option, None, Some, if◌then◌else◌}
use Rattle.std.specs.List.{concat}
use Rattle.std.specs.Ordering.{int_eq}
use Rattle.mms_types.specs.declared.event.CellEvent.{CellEvent}
use Rattle.mms_types.specs.declared.event.CellEvent.TheVariants.{Heard, Lost, Tick, Ends, Drain}
use Rattle.mms_types.specs.declared.pdu.Answer.{Answer}
use Rattle.mms_types.specs.declared.pdu.Answer.TheVariants as answer
use Rattle.mms_types.specs.declared.pdu.Request.{Request}
use Rattle.mms_types.specs.declared.pdu.Request.TheVariants as request
use Rattle.association.specs.Client.{ClientRow}
use Rattle.cell_config.specs.declared.config.Config.{Config}
use Rattle.domain_load.specs.Domains.{named}
use Rattle.domain_load.specs.declared.domain.Domain.{Domain}
use Rattle.domain_upload.specs.Uploads.{upload_of}
use Rattle.domain_upload.specs.declared.upload.Upload.{Upload}
use Rattle.parted_state.specs.Served.{row_at}
use Rattle.cell_client.specs.Association.{Verdict, Takes, verdict}
use Rattle.cell_services.specs.Services.{effect}
use Rattle.cell_services.specs.Serving.{is_served, resolved}
use Rattle.cell_services.specs.Tables.{Tables}
use Rattle.step_parts.specs.Partition.{cell}
use Rattle.step_parts.specs.State.{State, start}
use Rattle.step_parts.specs.Step.{step}

-- the octets of a segment that an answer tells
abbrev pub octets_told : Option Answer → List ℕ
octets_told (Some (answer.UploadSegment segment)) = segment.octets
octets_told other = []

-- the request is for the next segment of that upload of the client
abbrev pub asks_segment : ℕ → ℤ → ClientRow → Request → Bool
asks_segment client number row (request.UploadSegment asked) = row.client == client && int_eq asked number
asks_segment client number row other = false

-- the octets that are told of it, by what a client's octets come to: where a request for a segment is taken and isn't
-- refused, those of its answer
abbrev pub heard_told : ℕ → ℤ → Tables → ClientRow → Verdict → List ℕ
heard_told client number t row (Takes invoke asked) =
    if asks_segment client number row asked && is_served t row invoke asked then octets_told (effect t row invoke asked).answer else []
heard_told client number t row other = []

abbrev pub event_told : ℕ → ℤ → State → CellEvent → List ℕ
event_told client number s (Heard from octets) =
    heard_told client number (cell.tables_of s) (row_at cell from s.clients) (resolved (cell.tables_of s) (row_at cell from s.clients) (verdict (row_at cell from s.clients) octets))
event_told client number s (Lost from) = []
event_told client number s (Tick ms) = []
event_told client number s (Ends name) = []
event_told client number s (Drain from) = []

-- a state, and what was told of the upload since it began
pub record Sending : Type 0 where
  pub state : State
  pub told : List ℕ

-- nothing was told of an upload that isn't there
abbrev pub if_open : Option Upload → List ℕ → List ℕ
if_open None told = []
if_open (Some upload) told = told

abbrev pub sending_after : ℕ → ℤ → Sending → CellEvent → Sending
sending_after client number a event = record {
  state = step a.state event;
  told = if_open (upload_of client number (step a.state event).domains.uploads) (a.told ++ event_told client number a.state event);
}

-- the octets that a client was told of its upload of that number, in order, in a history of the configured device
abbrev pub told_of : Config → List CellEvent → ℕ → ℤ → List ℕ
told_of config history client number = (fold (sending_after client number) (record { state = start config; told = [] }) history).told

-- What was told is a front of the octets of the upload's domain: as many as the upload counts, and all of them where it
-- has ended.
pub record IsFront (told : List ℕ) (upload : Upload) (s : State) : Type 0 where
  pub domain : Domain
  pub there : named upload.domain s.domains.domains ≡ Some domain
  pub front : told ≡ take upload.sent (concat domain.segments)
  pub whole : upload.ended ≡ true → told ≡ concat domain.segments
