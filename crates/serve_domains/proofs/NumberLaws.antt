-- Whether no number is left for what would be asked of a client.
use Rattle.std.proofs.Common.{◌≡◌, ◌∙◌, ap, sym, refl, ℕ, Bool, true, false, List, ◌∷◌, Option, None, Some}
use Rattle.std.specs.Prelude.{◌&&◌, is_none, is_some}
use Rattle.std.specs.List.{list_any}
use Rattle.mms_types.specs.declared.asked.Asked.{Asked}
use Rattle.mms_types.specs.declared.asked.Reply.{Reply}
use Rattle.mms_types.specs.declared.domain.InitiateDownloadSequence.{InitiateDownloadSequence}
use Rattle.mms_types.specs.declared.pdu.Answer.TheVariants as answer
use Rattle.mms_types.specs.declared.service_error.ServiceError.{ServiceError}
use Rattle.association.specs.Asked.{asked_of}
use Rattle.association.specs.Client.{ClientRow, next_ask}
use Rattle.domain_load.specs.Loading.{asked_next, initiate_cause}
use Rattle.cell_client.specs.Areas.{RequestIn, is_done_in, lacks_number_in}
use Rattle.cell_client.specs.Association.{Came}
use Rattle.cell_client.specs.Effects.{Settles, is_ask}
use Rattle.cell_client.specs.Facts.{Facts, no_facts}
use Rattle.cell_client.specs.Requests.{fits, is_done, size_of}
use Rattle.serve_domains.specs.Domains.{asks_next, calling_left, initiate_download, replied, replied_to, reply_of}
use Rattle.serve_domains.specs.Tables.{DomainTables}

-- a number is left
pub number_left : {A : Type 0} (r : RequestIn A) (facts : Facts) (row : ClientRow) (invoke : ℕ) (own : A) → is_some (next_ask row) ≡ true
    → false ≡ lacks_number_in r facts row invoke own
number_left r facts row invoke own left =
    by_tests (is_done_in r facts row invoke own) (list_any (λ told. is_ask told.1) (r.effect facts own row invoke).also) (next_ask row) left
  where
    by_tests : (done asks : Bool) (next : Option ℕ) → is_some next ≡ true → false ≡ (done && asks && is_none next)
    by_tests true true None e = absurd (cc e)
    by_tests true true (Some n) e = refl
    by_tests true false next e = refl
    by_tests false asks next e = refl

-- nothing would be asked
pub nothing_asked : {A : Type 0} (r : RequestIn A) (facts : Facts) (row : ClientRow) (invoke : ℕ) (own : A) → list_any (λ told. is_ask told.1) (r.effect facts own row invoke).also ≡ false
    → false ≡ lacks_number_in r facts row invoke own
nothing_asked r facts row invoke own none =
    by_tests (is_done_in r facts row invoke own) ∙ ap (λ (b : Bool). is_done_in r facts row invoke own && b && is_none (next_ask row)) (sym none)
  where
    by_tests : (done : Bool) → false ≡ (done && false && is_none (next_ask row))
    by_tests true = refl
    by_tests false = refl

-- a load would begin, for which there is no number
pub load_lacks : (x : InitiateDownloadSequence) (facts : Facts) (row : ClientRow) (invoke : ℕ) (tables : DomainTables) (begins : Bool) → is_some (next_ask row) ≡ false
    → begins ≡ is_done (size_of row.association) invoke (initiate_cause (calling_left row) x tables.domains) (Some answer.InitiateDownloadSequence)
    → begins ≡ lacks_number_in (initiate_download x) facts row invoke tables
load_lacks x facts row invoke tables begins none is =
    is ∙ by_tests (is_done (size_of row.association) invoke (initiate_cause (calling_left row) x tables.domains) (Some answer.InitiateDownloadSequence)) (next_ask row) none
  where
    by_tests : (done : Bool) (next : Option ℕ) → is_some next ≡ false → done ≡ (done && true && is_none next)
    by_tests true None e = refl
    by_tests true (Some n) e = absurd (cc e)
    by_tests false next e = refl

-- a load begins: a number is left
pub load_has : (x : InitiateDownloadSequence) (row : ClientRow) (invoke : ℕ) (tables : DomainTables)
    → ((facts : Facts) → lacks_number_in (initiate_download x) facts row invoke tables ≡ false)
    → initiate_cause (calling_left row) x tables.domains ≡ None → fits (size_of row.association) invoke (Some answer.InitiateDownloadSequence) ≡ true
    → is_none (next_ask row) ≡ false
load_has x row invoke tables lacks none fit =
    sym (ap (λ (why : Option ServiceError). is_done (size_of row.association) invoke why (Some answer.InitiateDownloadSequence) && true && is_none (next_ask row)) none
    ∙ ap (λ (b : Bool). b && true && is_none (next_ask row)) fit)
    ∙ lacks no_facts

-- ---- a client's answer

module _ (row : ClientRow) (number : ℕ) (came : Came) (tables : DomainTables) where
  asks_it : (client : ℕ) (next : Option Asked) (domain : List ℕ) → list_any (λ told. is_ask told.1) ((client, Settles number) ∷ asks_next client next domain) ≡ is_some next
  asks_it client None domain = refl
  asks_it client (Some kind) domain = refl

  abbrev asks_after : Option (Asked × List ℕ) → Bool
  asks_after None = false
  asks_after (Some of) = is_some (asked_next (reply_of came of) tables.domains)

  reply_lacks_by : (invoke : ℕ) (o : Option (Asked × List ℕ)) → (is_done (size_of row.association) invoke None (replied_to row.client number came o tables).answer
      && list_any (λ told. is_ask told.1) (replied_to row.client number came o tables).also && is_none (next_ask row)) ≡ (asks_after o && is_none (next_ask row))
  reply_lacks_by invoke None = refl
  reply_lacks_by invoke (Some of) = ap (λ (b : Bool). b && is_none (next_ask row)) (asks_it row.client (asked_next (reply_of came of) tables.domains) of.1)

  pub reply_lacks : (facts : Facts) (invoke : ℕ) (o : Option (Asked × List ℕ)) → asked_of number row.asked ≡ o
      → lacks_number_in (replied number came) facts row invoke tables ≡ (asks_after o && is_none (next_ask row))
  reply_lacks facts invoke o is =
      reply_lacks_by invoke (asked_of number row.asked) ∙ ap (λ (p : Option (Asked × List ℕ)). asks_after p && is_none (next_ask row)) is

  pub reply_has : ((facts : Facts) (invoke : ℕ) → lacks_number_in (replied number came) facts row invoke tables ≡ false)
      → (of : Asked × List ℕ) (reply : Reply) (kind : Asked) → asked_of number row.asked ≡ Some of → reply ≡ reply_of came of → Some kind ≡ asked_next reply tables.domains
      → is_none (next_ask row) ≡ false
  reply_has lacks of reply kind asked is next =
      let asks : is_some (asked_next (reply_of came of) tables.domains) ≡ true = sym (ap is_some (next ∙ ap (λ r. asked_next r tables.domains) is)) in
      sym (reply_lacks no_facts 0 (Some of) asked ∙ ap (λ (b : Bool). b && is_none (next_ask row)) asks) ∙ lacks no_facts 0

-- the same, as it is told without the tables
module _ (row : ClientRow) (number : ℕ) (came : Came) where
  pub none_answered : (facts : Facts) (invoke : ℕ) (tables : DomainTables) → asked_of number row.asked ≡ None → false ≡ lacks_number_in (replied number came) facts row invoke tables
  none_answered facts invoke tables none = sym (reply_lacks row number came tables facts invoke None none)

  pub asks_as_told : (of : Asked × List ℕ) (asks : Bool) → asked_of number row.asked ≡ Some of → is_some (next_ask row) ≡ false
      → (facts : Facts) (invoke : ℕ) (tables : DomainTables) → asks ≡ is_some (asked_next (reply_of came of) tables.domains)
      → asks ≡ lacks_number_in (replied number came) facts row invoke tables
  asks_as_told of asks asked none facts invoke tables is =
      is ∙ by_tests (is_some (asked_next (reply_of came of) tables.domains)) (next_ask row) none ∙ sym (reply_lacks row number came tables facts invoke (Some of) asked)
    where
      by_tests : (b : Bool) (next : Option ℕ) → is_some next ≡ false → b ≡ (b && is_none next)
      by_tests true None e = refl
      by_tests true (Some n) e = absurd (cc e)
      by_tests false next e = refl
