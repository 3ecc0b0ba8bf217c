-- Requests for domains (ISO 9506-1, domain management), and what clients answer to the server's: the services on the tables that hold domains and uploads, with whether
-- any object has a domain for its scope.
use Rattle.std.specs.Prelude.{◌≡◌, ℕ, ℤ, Bool, true, List, [], ◌∷◌, Option, None, Some, is_none, length, nat_lt, if◌then◌else◌}
use Rattle.std.specs.Option.{option_map}
use Rattle.mms_types.specs.Errors.{first_of, object_non_existent}
use Rattle.mms_types.specs.declared.asked.Asked.{Asked}
use Rattle.mms_types.specs.declared.asked.Asked.TheVariants as asked
use Rattle.mms_types.specs.declared.asked.Reply.{Reply}
use Rattle.mms_types.specs.declared.asked.Reply.TheVariants as reply
use Rattle.mms_types.specs.declared.area.DomainRequest.{DomainRequest}
use Rattle.mms_types.specs.declared.area.DomainRequest.TheVariants as request
use Rattle.mms_types.specs.declared.domain.InitiateDownloadSequence.{InitiateDownloadSequence}
use Rattle.mms_types.specs.declared.pdu.Answer.TheVariants as answer
use Rattle.mms_types.specs.declared.pdu.Pdu.TheVariants as pdu
use Rattle.association.specs.declared.negotiation.Association.{Association}
use Rattle.association.specs.declared.negotiation.Association.TheVariants.{Idle, Open}
use Rattle.association.specs.Asked.{asked_of}
use Rattle.association.specs.Client.{ClientRow}
use Rattle.domain_load.specs.Domains as domain
use Rattle.domain_load.specs.Loading as load
use Rattle.domain_upload.specs.Uploads as upload
use Rattle.cell_client.specs.Association.{Came, Arrives, Ends, Fails, other_error, sends}
use Rattle.cell_client.specs.Areas.{OutcomeIn, RequestIn, answers, changes}
use Rattle.cell_client.specs.Effects.{Effect, Asks, Settles}
use Rattle.cell_client.specs.Facts.{Scoped}
use Rattle.cell_client.specs.Requests.{fits, refuses, size_of}
use Rattle.serve_domains.specs.Tables.{DomainTables}

-- ---- InitiateDownloadSequence

-- how many requests of the server a client leaves unanswered at most
abbrev pub calling_of : Association → ℕ
calling_of Idle = 0
calling_of (Open values) = values.calling

-- it may be asked one thing more
abbrev pub calling_left : ClientRow → Bool
calling_left row = nat_lt (length row.asked) (calling_of row.association)

-- a load begins: it is answered, and then the first segment is asked for
abbrev pub initiate_download : InitiateDownloadSequence → RequestIn DomainTables
initiate_download x = record {
  words = [];
  more = λ t row. [];
  cause = λ facts t row. load.initiate_cause (calling_left row) x t.domains;
  effect = λ facts t row invoke. record {
    tables = record t { domains = load.initiate_after row.client x t.domains };
    answer = Some answer.InitiateDownloadSequence;
    also = (row.client, Asks asked.Segment x.domain) ∷ [];
  };
}

-- what a client is told whose load begins: the answer, and behind it what is asked; or that the answer is too long
abbrev pub download_told : ℕ → ℕ → List ℕ → List Effect
download_told size invoke domain =
    if fits size invoke (Some answer.InitiateDownloadSequence)
    then sends (pdu.ConfirmedResponse invoke answer.InitiateDownloadSequence) ∷ Asks asked.Segment domain ∷ []
    else refuses invoke other_error ∷ []

-- ---- what a client answers to DownloadSegment, and to TerminateDownloadSequence without a discard

-- by what was asked, and of which domain
abbrev pub reply_of : Came → Asked × List ℕ → Reply
reply_of (Arrives segment) of = reply.Segment of.1 segment.octets segment.more
reply_of Ends of = reply.Ended of.1
reply_of Fails of = reply.Failed of.1 of.0

-- what is asked next, where anything is
abbrev pub asks_next : ℕ → Option Asked → List ℕ → List (ℕ × Effect)
asks_next client None domain = []
asks_next client (Some kind) domain = (client, Asks kind domain) ∷ []

abbrev pub replied_to : ℕ → ℕ → Came → Option (Asked × List ℕ) → DomainTables → OutcomeIn DomainTables
replied_to client number came None t = answers t None
replied_to client number came (Some of) t = record {
  tables = record t { domains = load.reply_after (reply_of came of) t.domains };
  answer = None;
  also = (client, Settles number) ∷ asks_next client (load.asked_next (reply_of came of) t.domains) of.1;
}

abbrev pub replied : ℕ → Came → RequestIn DomainTables
replied number came = record {
  words = [];
  more = λ t row. [];
  cause = λ facts t row. None;
  effect = λ facts t row invoke. replied_to row.client number came (asked_of number row.asked) t;
}

-- what a client is told that answers: its request is unanswered no more, and what is asked next
abbrev pub reply_told : ℕ → Option Asked → List ℕ → List Effect
reply_told number None domain = Settles number ∷ []
reply_told number (Some kind) domain = Settles number ∷ Asks kind domain ∷ []

-- It answers a request of a load that goes on: the client loads the domain of which the request of that number is.
pub record AnswersLoad (row : ClientRow) (number : ℕ) (came : Came) (t : DomainTables) : Type 0 where
  pub of : Asked × List ℕ
  pub asked : asked_of number row.asked ≡ Some of
  pub loads : load.answers_load row.client (reply_of came of) t.domains ≡ true
  pub of_load : load.is_of_load (reply_of came of) ≡ true

-- ---- InitiateUploadSequence, UploadSegment, TerminateUploadSequence

abbrev pub initiate_upload : List ℕ → RequestIn DomainTables
initiate_upload name = record {
  words = [];
  more = λ t row. [];
  cause = λ facts t row. upload.initiate_cause name t.domains t.uploads;
  effect = λ facts t row invoke. record {
    tables = record t { uploads = upload.after_initiate row.client name t.uploads };
    answer = option_map answer.InitiateUploadSequence (upload.initiate_answer name t.domains t.uploads);
    also = [];
  };
}

abbrev pub upload_segment : ℤ → RequestIn DomainTables
upload_segment number = record {
  words = [];
  more = λ t row. [];
  cause = λ facts t row. upload.segment_cause row.client number t.uploads;
  effect = λ facts t row invoke. record {
    tables = record t { uploads = upload.after_segment row.client number (size_of row.association) t.domains t.uploads };
    answer = option_map answer.UploadSegment (upload.segment_answer row.client number (size_of row.association) t.domains t.uploads);
    also = [];
  };
}

abbrev pub terminate_upload : ℤ → RequestIn DomainTables
terminate_upload number = record {
  words = [];
  more = λ t row. [];
  cause = λ facts t row. upload.terminate_cause row.client number t.uploads;
  effect = λ facts t row invoke.
      changes (record t { uploads = upload.after_terminate row.client number t.uploads }) answer.TerminateUploadSequence;
}

-- the tables after an upload was begun, or a segment of one sent, which they are where the client could be told; else they are as they were
abbrev pub upload_begun : ClientRow → ℕ → List ℕ → DomainTables → DomainTables
upload_begun row invoke name t =
    if fits (size_of row.association) invoke (option_map answer.InitiateUploadSequence (upload.initiate_answer name t.domains t.uploads))
    then record t { uploads = upload.after_initiate row.client name t.uploads }
    else t

abbrev pub segment_sent : ClientRow → ℕ → ℤ → DomainTables → DomainTables
segment_sent row invoke number t =
    if fits (size_of row.association) invoke
    (option_map answer.UploadSegment (upload.segment_answer row.client number (size_of row.association) t.domains t.uploads))
    then record t { uploads = upload.after_segment row.client number (size_of row.association) t.domains t.uploads }
    else t

-- ---- DeleteDomain, GetDomainAttributes

abbrev pub delete : List ℕ → RequestIn DomainTables
delete name = record {
  words = Scoped name ∷ [];
  more = λ t row. [];
  cause = λ facts t row. domain.delete_cause name (upload.uploads_of name t.uploads) facts.scoped t.domains;
  effect = λ facts t row invoke. changes (record t { domains = domain.without name t.domains }) answer.DeleteDomain;
}

abbrev pub attributes : List ℕ → RequestIn DomainTables
attributes name = record {
  words = [];
  more = λ t row. [];
  cause = λ facts t row. first_of ((is_none (domain.named name t.domains), object_non_existent) ∷ []);
  effect = λ facts t row invoke.
      answers t (option_map answer.GetDomainAttributes (domain.attributes name (upload.uploads_of name t.uploads) t.domains));
}

-- ---- each of them, as it is looked at

abbrev pub request_in : DomainRequest → RequestIn DomainTables
request_in (request.InitiateDownloadSequence x) = initiate_download x.now
request_in (request.InitiateUploadSequence x) = initiate_upload x.now
request_in (request.UploadSegment number) = upload_segment number
request_in (request.TerminateUploadSequence number) = terminate_upload number
request_in (request.DeleteDomain x) = delete x.now
request_in (request.GetDomainAttributes x) = attributes x.now
