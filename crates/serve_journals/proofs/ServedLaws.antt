-- A request for journals is served: refused, or answered.
use Rattle.std.proofs.Common.{◌≡◌, ◌∙◌, ap, sym, subst, refl, ℕ, Bool, true, false, List, [], Option, None, Some, if◌then◌else◌}
use Rattle.std.specs.Prelude.{Result, Ok, Err, OnOk}
use Rattle.mms_types.specs.Serves.{Serves}
use Rattle.mms_types.specs.declared.memory.Memory.{Memory}
use Rattle.mms_types.specs.declared.object_name.ObjectName.{ObjectName}
use Rattle.mms_types.specs.declared.pdu.Answer.{Answer}
use Rattle.mms_types.specs.declared.pdu.Answer.TheVariants as answer
use Rattle.mms_types.specs.declared.journal.JournalEntry.{JournalEntry}
use Rattle.mms_types.specs.declared.refuse.Refuse.{Refuse}
use Rattle.mms_types.specs.declared.refuse.Refuse.TheVariants.{Service}
use Rattle.mms_types.specs.declared.service_error.ServiceError.{ServiceError}
use Rattle.mms_journal.specs.Journals.{Rows}
use Rattle.mms_journal.specs.Services as journal
use Rattle.association.specs.Client.{ClientRow, Client as RoomyRow}
use Rattle.cell_client.specs.Areas.{IsServedIn, RequestIn}
use Rattle.cell_client.specs.Effects.{felt, felt_all, settled}
use Rattle.cell_client.specs.Facts.{Facts}
use Rattle.cell_client.specs.Requests.{fits, refuses, request_told, size_of}
use Rattle.cell_client.proofs.ServedLaws.{answered, became, refused}
use Rattle.serve_journals.specs.Journals.{create}

module _ (r : RequestIn Rows) (row : ClientRow) (invoke : ℕ) (was : Rows) (new : RoomyRow) where
  pub refused_so : (result : Result (Unit {0}) Memory) (e : ServiceError) → ((facts : Facts) → r.cause facts was row ≡ Some e)
      → OnOk result (new ≡ settled (felt (refuses invoke e) row)) → OnOk result ((facts : Facts) → IsServedIn r facts invoke row was was new)
  refused_so (Ok done) e why is = λ facts. refused r facts invoke row was was new e (why facts) refl is
  refused_so (Err memory) e why is = tt

  pub became_so : (result : Result (Unit {0}) Memory) (now t : Rows) (answer : Option Answer) → ((facts : Facts) → r.cause facts was row ≡ None)
      → ((facts : Facts) → r.effect facts was row invoke ≡ record { tables = t; answer = answer; also = [] })
      → OnOk result (now ≡ (if fits (size_of row.association) invoke answer then t else was))
      → OnOk result (new ≡ settled (felt_all (request_told (size_of row.association) invoke None answer) row))
      → OnOk result ((facts : Facts) → IsServedIn r facts invoke row was now new)
  became_so (Ok done) now t answer why effect table is = λ facts. became r facts invoke row was now new None t answer (why facts) (effect facts) table is
  became_so (Err memory) now t answer why effect table is = tt

  -- what is told changes nothing
  pub told_so : (said : Result Answer Refuse) (client : ℕ) (by : client ≡ row.client) (why : ℕ → Option ServiceError) (told : ℕ → Option Answer)
      → ((facts : Facts) → r.cause facts was row ≡ why row.client)
      → ((facts : Facts) → r.effect facts was row invoke ≡ record { tables = was; answer = told row.client; also = [] })
      → Serves said (why client) (told client)
      → ((w : Option ServiceError) (a : Option Answer) → Serves said w a → new ≡ settled (felt_all (request_told (size_of row.association) invoke w a) row))
      → (facts : Facts) → IsServedIn r facts invoke row was was new
  told_so said client by why told cause effect serves is facts =
      answered r facts invoke row was new (why row.client) (told row.client) (cause facts) (effect facts)
      (is (why row.client) (told row.client) (subst (λ (n : ℕ). Serves said (why n) (told n)) by serves))

-- a journal is made where its domain is live, if it has one
module _ (row : ClientRow) (invoke : ℕ) (was : Rows) (new : RoomyRow) (live : Bool) (name : ObjectName) where
  pub create_refused : (result : Result (Unit {0}) Memory) (e : ServiceError) → journal.create_cause live row.client name was ≡ Some e
      → OnOk result (new ≡ settled (felt (refuses invoke e) row))
      → OnOk result ((facts : Facts) → facts.live ≡ live → IsServedIn (create name) facts invoke row was was new)
  create_refused (Ok done) e why is =
      λ facts l. refused (create name) facts invoke row was was new e (ap (λ (b : Bool). journal.create_cause b row.client name was) l ∙ why) refl is
  create_refused (Err memory) e why is = tt

  pub create_served : (result : Result (Unit {0}) Memory) (now : Rows) → journal.create_cause live row.client name was ≡ None
      → OnOk result (now ≡ (if fits (size_of row.association) invoke (Some answer.CreateJournal) then journal.after_create row.client name was else was))
      → OnOk result (new ≡ settled (felt_all (request_told (size_of row.association) invoke None (Some answer.CreateJournal)) row))
      → OnOk result ((facts : Facts) → facts.live ≡ live → IsServedIn (create name) facts invoke row was now new)
  create_served (Ok done) now why table is =
      λ facts l. became (create name) facts invoke row was now new None (journal.after_create row.client name was) (Some answer.CreateJournal)
      (ap (λ (b : Bool). journal.create_cause b row.client name was) l ∙ why) refl table is
  create_served (Err memory) now why table is = tt

-- why entries aren't written
pub unprepared : (refusal : Refuse) (e : ServiceError) (cause : Option ServiceError) (entries : List JournalEntry) → refusal ≡ Service e
    → journal.IsPrepared (Err refusal) cause entries → cause ≡ Some e
unprepared refusal e cause entries is said = subst (λ (r : Refuse). journal.IsPrepared (Err r) cause entries) is said
