-- Each request for domains that is not refused is answered at once; a client's answer to the server's request is not answered. Either tells that client alone something.
use Rattle.std.specs.Prelude.{◌≡◌, ◌≤◌, ℕ, Bool, true, false, All, Option, None, Some, List, [], ◌∷◌, IsSomeAnd, is_none, is_some, length, nat_le, refl}
use Rattle.std.specs.Option.{option_and_then, option_map}
use Rattle.std.proofs.Common.{inl, ap}
use Rattle.std.proofs.lemmas.List.Elements.{All-cons, All-nil}
use Rattle.mms_types.specs.Errors.{capability_unavailable, first_of, object_non_existent, object_state_conflict}
use Rattle.mms_types.specs.declared.area.DomainRequest.{DomainRequest}
use Rattle.mms_types.specs.declared.area.DomainRequest.TheVariants as request
use Rattle.mms_types.specs.declared.asked.Asked.{Asked}
use Rattle.mms_types.specs.declared.domain.Segment.{Segment}
use Rattle.mms_types.specs.declared.pdu.Answer.{Answer}
use Rattle.mms_types.specs.declared.pdu.Answer.TheVariants as answer
use Rattle.mms_types.specs.declared.service_error.ServiceError.{ServiceError}
use Rattle.association.specs.Asked.{asked_of}
use Rattle.association.specs.Client.{ClientRow}
use Rattle.domain_load.specs.Domains.{attributes_of, is_there, named, octets}
use Rattle.domain_load.specs.Loading.{asked_next}
use Rattle.domain_load.specs.Standing.{is_loading}
use Rattle.domain_load.specs.declared.domain.Domain.{Domain}
use Rattle.domain_upload.specs.Pieces.{next_piece}
use Rattle.domain_upload.specs.Uploads.{AreOf, IsOf, after_initiate, after_segment, is_upload, last_number, most_uploads, next_number, piece_of, upload_of, uploads_of}
use Rattle.domain_upload.specs.declared.upload.Upload.{Upload}
use Rattle.domain_upload.proofs.Rows.{found, is_open}
use Rattle.cell_client.specs.Areas.{AnswersOrWaitsIn}
use Rattle.cell_client.specs.Association.{Came}
use Rattle.cell_client.specs.Effects.{Effect, Settles, waits_told}
use Rattle.cell_client.specs.Facts.{Facts}
use Rattle.cell_client.specs.Requests.{size_of}
use Rattle.serve_domains.specs.Domains.{asks_next, replied, replied_to, reply_of, request_in}
use Rattle.serve_domains.specs.Tables.{DomainTables}

-- each of what is told is told to that client
abbrev pub AreOwn : ℕ → List (ℕ × Effect) → Type 0
AreOwn client told = All (λ t. t.0 ≡ client) told

module _ (facts : Facts) (t : DomainTables) (row : ClientRow) (invoke : ℕ) where
  -- there is a domain to be told of
  found_one : {X : Type 0} (rest : List (Bool × ServiceError)) (wrap : X → Answer) (f : Domain → X) (after : DomainTables) (o : Option Domain)
      → first_of ((is_none o, object_non_existent) ∷ rest) ≡ None
      → AnswersOrWaitsIn row.client invoke (record { tables = after; answer = option_map wrap (option_map f o); also = [] })
  found_one rest wrap f after None e = absurd (cc e)
  found_one rest wrap f after (Some d) e = inl (_, refl, refl)

  -- there is an upload, and its domain
  some_piece : (u : Upload) (p : Option Domain) → IsSomeAnd p (λ d. (is_loading d ≡ false) × (u.sent ≤ octets d))
      → (s : Segment) × (option_map (next_piece (size_of row.association) u.sent) p ≡ Some s)
  some_piece u None h = absurd h
  some_piece u (Some d) h = (_, refl)

  sent_one : (after : DomainTables) (o : Option Upload) → is_some o ≡ true → ((u : Upload) → o ≡ Some u → IsOf t.domains u)
      → AnswersOrWaitsIn row.client invoke
      (record { tables = after; answer = option_map answer.UploadSegment (option_and_then (piece_of (size_of row.association) t.domains) o); also = [] })
  sent_one after None e each = absurd (cc e)
  sent_one after (Some u) e each =
      let p = some_piece u (named u.domain t.domains) (each u refl) in
      inl (answer.UploadSegment p.0, ap (option_map answer.UploadSegment) p.1, refl)

  -- a request that is not refused is answered: the domain of each open upload is there
  pub answers_or_waits : AreOf t.uploads t.domains → (asked : DomainRequest) → (request_in asked).cause facts t row ≡ None
      → AnswersOrWaitsIn row.client invoke ((request_in asked).effect facts t row invoke)
  answers_or_waits of (request.InitiateDownloadSequence x) none = inl (_, refl, refl)
  answers_or_waits of (request.InitiateUploadSequence x) none =
      found_one ((is_there is_loading x.now t.domains, object_state_conflict) ∷ (nat_le most_uploads (length t.uploads.rows), capability_unavailable)
      ∷ (nat_le last_number t.uploads.given, capability_unavailable) ∷ [])
      answer.InitiateUploadSequence (λ d. record { number = next_number t.uploads; capabilities = d.capabilities })
      (record t { uploads = after_initiate row.client x.now t.uploads }) (named x.now t.domains) none
  answers_or_waits of (request.UploadSegment number) none =
      sent_one (record t { uploads = after_segment row.client number (size_of row.association) t.domains t.uploads }) (upload_of row.client number t.uploads)
      (is_open row.client number t.uploads none) (λ u is. found (IsOf t.domains) (is_upload row.client number) t.uploads.rows u of.each is)
  answers_or_waits of (request.TerminateUploadSequence number) none = inl (_, refl, refl)
  answers_or_waits of (request.DeleteDomain x) none = inl (_, refl, refl)
  answers_or_waits of (request.GetDomainAttributes x) none =
      found_one [] answer.GetDomainAttributes (attributes_of (uploads_of x.now t.uploads)) t (named x.now t.domains) none

  -- nobody else is told anything
  pub requests_tell_their_client : (asked : DomainRequest) → AreOwn row.client ((request_in asked).effect facts t row invoke).also
  requests_tell_their_client (request.InitiateDownloadSequence x) = All-cons (λ told. told.0 ≡ row.client) _ [] refl (All-nil (λ told. told.0 ≡ row.client))
  requests_tell_their_client other = All-nil (λ told. told.0 ≡ row.client)

  -- ---- a client's answer

  asks_its_client : (next : Option Asked) (domain : List ℕ) → AreOwn row.client (asks_next row.client next domain)
  asks_its_client None domain = All-nil (λ told. told.0 ≡ row.client)
  asks_its_client (Some kind) domain = All-cons (λ told. told.0 ≡ row.client) _ [] refl (All-nil (λ told. told.0 ≡ row.client))

  own_replied : (number : ℕ) (came : Came) (of : Option (Asked × List ℕ)) → AreOwn row.client (replied_to row.client number came of t).also
  own_replied number came None = All-nil (λ told. told.0 ≡ row.client)
  own_replied number came (Some of) =
      All-cons (λ told. told.0 ≡ row.client) (row.client, Settles number) _ refl (asks_its_client (asked_next (reply_of came of) t.domains) of.1)

  pub replies_tell_their_client : (number : ℕ) (came : Came) → AreOwn row.client ((replied number came).effect facts t row invoke).also
  replies_tell_their_client number came = own_replied number came (asked_of number row.asked)

  asks_wait_not : (client number : ℕ) (next : Option Asked) (domain : List ℕ) → waits_told ((client, Settles number) ∷ asks_next client next domain) ≡ []
  asks_wait_not client number None domain = refl
  asks_wait_not client number (Some kind) domain = refl

  waits_replied : (number : ℕ) (came : Came) (of : Option (Asked × List ℕ)) → waits_told (replied_to row.client number came of t).also ≡ []
  waits_replied number came None = refl
  waits_replied number came (Some of) = asks_wait_not row.client number (asked_next (reply_of came of) t.domains) of.1

  -- no request waits by it
  pub replies_wait_not : (number : ℕ) (came : Came) → waits_told ((replied number came).effect facts t row invoke).also ≡ []
  replies_wait_not number came = waits_replied number came (asked_of number row.asked)

  answer_replied : (number : ℕ) (came : Came) (of : Option (Asked × List ℕ)) → (replied_to row.client number came of t).answer ≡ None
  answer_replied number came None = refl
  answer_replied number came (Some of) = refl

  -- and none is answered
  pub replies_have_no_answer : (number : ℕ) (came : Came) → ((replied number came).effect facts t row invoke).answer ≡ None
  replies_have_no_answer number came = answer_replied number came (asked_of number row.asked)
