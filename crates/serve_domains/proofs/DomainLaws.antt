-- A request for domains is served: refused, answered, or a load begins; and what a client answers is.
use Rattle.std.proofs.Common.{◌≡◌, ◌∙◌, ap, subst, sym, refl, ℕ, Bool, true, false, List, [], ◌∷◌, ◌++◌, Option, None, Some, if◌then◌else◌}
use Rattle.std.specs.Prelude.{Result, Ok, Err, OnOk}
use Rattle.mms_types.specs.declared.area.DomainRequest.{DomainRequest}
use Rattle.mms_types.specs.declared.asked.Asked.{Asked}
use Rattle.mms_types.specs.declared.asked.Asked.TheVariants as asked
use Rattle.mms_types.specs.declared.asked.Reply.{Reply}
use Rattle.mms_types.specs.declared.domain.InitiateDownloadSequence.{InitiateDownloadSequence}
use Rattle.mms_types.specs.declared.memory.Memory.{Memory}
use Rattle.mms_types.specs.declared.pdu.Answer.{Answer}
use Rattle.mms_types.specs.declared.pdu.Answer.TheVariants as answer
use Rattle.mms_types.specs.declared.service_error.ServiceError.{ServiceError}
use Rattle.association.specs.Asked.{asked_of}
use Rattle.association.specs.Client.{ClientRow, Client as RoomyRow}
use Rattle.domain_load.specs.Domains.{delete_cause, without}
use Rattle.domain_load.specs.Loading.{answers_load, asked_next, domain_of, initiate_after, initiate_cause, is_of_load, reply_after}
use Rattle.domain_upload.specs.Uploads.{uploads_of}
use Rattle.cell_client.specs.Areas.{IsServedIn, RequestIn}
use Rattle.cell_client.specs.Association.{Came, Arrives, Ends, Fails, other_error}
use Rattle.cell_client.specs.Effects.{Asks, Settles, felt, felt_all, settled, tell}
use Rattle.cell_client.specs.Facts.{Facts}
use Rattle.cell_client.specs.Requests.{answer_told, fits, refuses, request_told, size_of}
use Rattle.serve_domains.specs.Domains.{AnswersLoad, asks_next, calling_left, delete, download_told, initiate_download, replied, replied_to, reply_of, reply_told, request_in}
use Rattle.serve_domains.specs.Tables.{DomainTables}
use Rattle.cell_client.proofs.ServedLaws.{became, by_outcome, refused}

-- ---- refused, or answered

module _ (r : RequestIn DomainTables) (row : ClientRow) (invoke : ℕ) (tables : DomainTables) (new : RoomyRow) where
  pub refused_so : (result : Result (Unit {0}) Memory) (e : ServiceError) → ((facts : Facts) → r.cause facts tables row ≡ Some e)
      → OnOk result (new ≡ settled (felt (refuses invoke e) row))
      → OnOk result ((facts : Facts) → IsServedIn r facts invoke row tables tables new)
  refused_so (Ok done) e why is = λ facts. refused r facts invoke row tables tables new e (why facts) refl is
  refused_so (Err memory) e why is = tt

  pub became_so : (result : Result (Unit {0}) Memory) (become t : DomainTables) (answer : Option Answer) → ((facts : Facts) → r.cause facts tables row ≡ None)
      → ((facts : Facts) → r.effect facts tables row invoke ≡ record { tables = t; answer = answer; also = [] })
      → OnOk result (become ≡ (if fits (size_of row.association) invoke answer then t else tables))
      → OnOk result (new ≡ settled (felt_all (request_told (size_of row.association) invoke None answer) row))
      → OnOk result ((facts : Facts) → IsServedIn r facts invoke row tables become new)
  became_so (Ok done) become t answer why effect table is = λ facts. became r facts invoke row tables become new None t answer (why facts) (effect facts) table is
  became_so (Err memory) become t answer why effect table is = tt

-- ---- deleted, by whether any object has the domain for its scope

module _ (name : List ℕ) (row : ClientRow) (invoke : ℕ) (tables : DomainTables) (new : RoomyRow) where
  delete_why : (scoped : Bool) (why : Option ServiceError) → why ≡ delete_cause name (uploads_of name tables.uploads) scoped tables.domains
      → (facts : Facts) → facts.scoped ≡ scoped → (delete name).cause facts tables row ≡ why
  delete_why scoped why is facts same = ap (λ (b : Bool). delete_cause name (uploads_of name tables.uploads) b tables.domains) same ∙ sym is

  pub delete_refused : (result : Result (Unit {0}) Memory) (scoped : Bool) (e : ServiceError) → Some e ≡ delete_cause name (uploads_of name tables.uploads) scoped tables.domains
      → OnOk result (new ≡ settled (felt (refuses invoke e) row))
      → OnOk result ((facts : Facts) → facts.scoped ≡ scoped → IsServedIn (delete name) facts invoke row tables tables new)
  delete_refused (Ok done) scoped e why is = λ facts same. refused (delete name) facts invoke row tables tables new e (delete_why scoped (Some e) why facts same) refl is
  delete_refused (Err memory) scoped e why is = tt

  pub deleted_so : (result : Result (Unit {0}) Memory) (become : DomainTables) (scoped : Bool) → None ≡ delete_cause name (uploads_of name tables.uploads) scoped tables.domains
      → OnOk result (become ≡ (if fits (size_of row.association) invoke (Some answer.DeleteDomain) then record tables { domains = without name tables.domains } else tables))
      → OnOk result (new ≡ settled (felt_all (request_told (size_of row.association) invoke None (Some answer.DeleteDomain)) row))
      → OnOk result ((facts : Facts) → facts.scoped ≡ scoped → IsServedIn (delete name) facts invoke row tables become new)
  deleted_so (Ok done) become scoped why table is =
      λ facts same. became (delete name) facts invoke row tables become new None (record tables { domains = without name tables.domains }) (Some answer.DeleteDomain)
      (delete_why scoped None why facts same) refl table is
  deleted_so (Err memory) become scoped why table is = tt

-- ---- a load begins

module _ (x : InitiateDownloadSequence) (row : ClientRow) (invoke : ℕ) (tables : DomainTables) (new : RoomyRow) where
  abbrev begun_tables : DomainTables
  begun_tables = record tables { domains = initiate_after row.client x tables.domains }

  told_then_asked : (b : Bool)
      → tell row.client (if b then answer_told invoke (Some answer.InitiateDownloadSequence) else refuses invoke other_error ∷ [])
      ++ (if b then (row.client, Asks asked.Segment x.domain) ∷ [] else [])
      ≡ tell row.client (if b then answer_told invoke (Some answer.InitiateDownloadSequence) ++ Asks asked.Segment x.domain ∷ [] else refuses invoke other_error ∷ [])
  told_then_asked true = refl
  told_then_asked false = refl

  pub begun_so : (result : Result (Unit {0}) Memory) (become : DomainTables) → initiate_cause (calling_left row) x tables.domains ≡ None
      → OnOk result (become ≡ (if fits (size_of row.association) invoke (Some answer.InitiateDownloadSequence) then begun_tables else tables))
      → OnOk result (new ≡ settled (felt_all (download_told (size_of row.association) invoke x.domain) row))
      → OnOk result ((facts : Facts) → IsServedIn (initiate_download x) facts invoke row tables become new)
  begun_so (Ok done) become why table is =
      λ facts. by_outcome (initiate_download x) facts invoke row tables become new None ((initiate_download x).effect facts tables row invoke)
      (download_told (size_of row.association) invoke x.domain) why refl
      (told_then_asked (fits (size_of row.association) invoke (Some answer.InitiateDownloadSequence))) table is
  begun_so (Err memory) become why table is = tt

-- ---- a client answers

domain_answered : (came : Came) (of : Asked × List ℕ) → domain_of (reply_of came of) ≡ of.1
domain_answered (Arrives segment) of = refl
domain_answered Ends of = refl
domain_answered Fails of = refl

asked_so : (client number : ℕ) (next : Option Asked) (domain : List ℕ) → (client, Settles number) ∷ asks_next client next domain ≡ tell client (reply_told number next domain)
asked_so client number None domain = refl
asked_so client number (Some kind) domain = refl

module _ (row : ClientRow) (number : ℕ) (came : Came) (tables : DomainTables) where
  pub it_loads : AnswersLoad row number came tables → (of : Asked × List ℕ) (reply : Reply) → asked_of number row.asked ≡ Some of → reply ≡ reply_of came of
      → (answers_load row.client reply tables.domains ≡ true) × (is_of_load reply ≡ true)
  it_loads load of reply asked is =
      let same : load.of ≡ of = cc (load.asked, asked) in
      let that : reply ≡ reply_of came load.of = is ∙ ap (reply_of came) (sym same) in
      (ap (λ r. answers_load row.client r tables.domains) that ∙ load.loads, ap is_of_load that ∙ load.of_load)

  pub replied_so : (result : Result (Unit {0}) Memory) (become : DomainTables) (new : RoomyRow) (of : Asked × List ℕ) (reply : Reply) (next : Option Asked)
      → asked_of number row.asked ≡ Some of → reply ≡ reply_of came of → next ≡ asked_next reply tables.domains
      → OnOk result (become ≡ record tables { domains = reply_after reply tables.domains })
      → OnOk result (new ≡ settled (felt_all (reply_told number next (domain_of reply)) row))
      → OnOk result ((facts : Facts) (invoke : ℕ) → IsServedIn (replied number came) facts invoke row tables become new)
  replied_so (Ok done) become new of reply next asked is follows table told =
      let next_is : asked_next (reply_of came of) tables.domains ≡ next = sym (follows ∙ ap (λ r. asked_next r tables.domains) is) in
      let domain_is : domain_of reply ≡ of.1 = ap domain_of is ∙ domain_answered came of in
      λ facts invoke. by_outcome (replied number came) facts invoke row tables become new None (replied_to row.client number came (Some of) tables)
      (reply_told number next of.1) refl (ap (λ (o : Option (Asked × List ℕ)). replied_to row.client number came o tables) asked)
      (ap (λ (n : Option Asked). (row.client, Settles number) ∷ asks_next row.client n of.1) next_is ∙ asked_so row.client number next of.1)
      (table ∙ ap (λ (r : Reply). record tables { domains = reply_after r tables.domains }) is)
      (told ∙ ap (λ (d : List ℕ). settled (felt_all (reply_told number next d) row)) domain_is)
  replied_so (Err memory) become new of reply next asked is follows table told = tt

-- ---- a request that asks nothing of other tables

pub whatever_is_scoped : (result : Result (Unit {0}) Memory) (request this : DomainRequest) (invoke : ℕ) (row : ClientRow) (was now : DomainTables) (new : RoomyRow) (scoped : Bool)
    → request ≡ this → OnOk result ((facts : Facts) → IsServedIn (request_in this) facts invoke row was now new)
    → OnOk result ((facts : Facts) → facts.scoped ≡ scoped → IsServedIn (request_in request) facts invoke row was now new)
whatever_is_scoped (Ok done) request this invoke row was now new scoped is served =
    λ facts same. subst (λ (q : DomainRequest). IsServedIn (request_in q) facts invoke row was now new) (sym is) (served facts)
whatever_is_scoped (Err memory) request this invoke row was now new scoped is served = tt
