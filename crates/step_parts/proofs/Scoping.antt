-- What requests for domains ask: whether an object has one for its scope, and whether a number is left for what would
-- be asked of their client.
use Rattle.std.specs.Prelude.{◌≡◌, ℕ, Bool, true, List, [], ◌∷◌, ◌++◌, if◌then◌else◌, refl}
use Rattle.std.proofs.Common.{ap, ap₂, sym, ◌∙◌}
use Rattle.mms_types.specs.Areas.{domain_request}
use Rattle.mms_types.specs.declared.area.DomainRequest.{DomainRequest}
use Rattle.mms_types.specs.declared.area.DomainRequest.TheVariants as request
use Rattle.association.specs.Client.{ClientRow}
use Rattle.parted_state.specs.Area.{facts_told}
use Rattle.cell_client.specs.Areas.{lacks_number_in}
use Rattle.cell_client.specs.Association.{Came, Aborts, Exhausts, Replies, Takes}
use Rattle.cell_client.specs.Facts.{Question, Scoped, no_facts}
use Rattle.serve_domains.specs.Domains.{replied, request_in}
use Rattle.serve_domains.specs.Tables.{DomainTables}
use Rattle.cell_services.proofs.AreaTableLaws.{in_domains}
use Rattle.cell_services.specs.Facts.{is_scope_used, tells}
use Rattle.cell_services.specs.Requests.{told_in}
use Rattle.cell_services.specs.Services.{area_of, lacks_number}
use Rattle.cell_services.specs.Serving.{comes_of, hears}
use Rattle.cell_services.specs.Tables.{Tables, own_domains}

-- a request for domains is told nothing by what its own table shows
no_more : (asked : DomainRequest) (t : DomainTables) (row : ClientRow) → (request_in asked).more t row ≡ []
no_more (request.InitiateDownloadSequence x) t row = refl
no_more (request.InitiateUploadSequence x) t row = refl
no_more (request.UploadSegment number) t row = refl
no_more (request.TerminateUploadSequence number) t row = refl
no_more (request.DeleteDomain x) t row = refl
no_more (request.GetDomainAttributes x) t row = refl

-- ---- whether an object has a domain for its scope

module _ (asked : DomainRequest) (t : Tables) (row : ClientRow) where
  pub scoped_unasked : (request_in asked).words ≡ [] → (told_in own_domains t row (request_in asked)).scoped ≡ true
  scoped_unasked none = ap₂ (λ (w m : List Question). (facts_told tells (w ++ m) t).scoped) none (no_more asked t.domains row)

  pub scoped_asked : (domain : List ℕ) → (request_in asked).words ≡ Scoped domain ∷ [] → (told_in own_domains t row (request_in asked)).scoped ≡ is_scope_used domain t
  scoped_asked domain is = ap₂ (λ (w m : List Question). (facts_told tells (w ++ m) t).scoped) is (no_more asked t.domains row)

-- ---- where no number is left for what would be asked

module _ (t : Tables) (row : ClientRow) where
  pub lacks_request : (invoke : ℕ) (asked : DomainRequest) (tables : DomainTables) (lacks : Bool) → t.domains ≡ tables
      → lacks ≡ lacks_number_in (request_in asked) no_facts row invoke tables → lacks ≡ lacks_number t row invoke (area_of (domain_request asked))
  lacks_request invoke asked tables lacks shown is =
      is ∙ ap (lacks_number_in (request_in asked) no_facts row invoke) (sym shown) ∙ ap (lacks_number t row invoke) (sym (in_domains asked))

  pub exhausts : (client invoke : ℕ) (asked : DomainRequest) (tables : DomainTables) → t.domains ≡ tables
      → true ≡ lacks_number_in (request_in asked) no_facts row invoke tables
      → comes_of t row client (Exhausts invoke) ≡ hears t row client (Takes invoke (domain_request asked))
  exhausts client invoke asked tables shown lacks =
      ap (λ (b : Bool). comes_of t row client (if b then Exhausts invoke else Takes invoke (domain_request asked))) (lacks_request invoke asked tables true shown lacks)

  pub aborts : (client number : ℕ) (came : Came) (tables : DomainTables) → t.domains ≡ tables → true ≡ lacks_number_in (replied number came) no_facts row number tables
      → hears t row client Aborts ≡ hears t row client (Replies number came)
  aborts client number came tables shown lacks =
      ap (λ (b : Bool). comes_of t row client (if b then Aborts else Replies number came))
      (lacks ∙ ap (lacks_number_in (replied number came) no_facts row number) (sym shown))
