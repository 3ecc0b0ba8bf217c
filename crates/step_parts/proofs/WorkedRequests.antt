-- Worked examples: which parts what a client sends wants, of the device of two clients that `Worked` has, in the rows of
-- the table of parts in docs/PROFILE.md that tell of the areas and of what held parts show. Parts are 0 the clock, 1
-- variables, 2 domains, 3 program invocations, 4 event conditions, 5 journals, 6 and 7 the clients, 8 semaphores.
use Rattle.std.specs.Prelude.{ℕ, Bool, List, [], ◌∷◌, codes, Some, None, false, true}
use Rattle.std.proofs.Common.{refl}
use Rattle.mms_types.specs.Datum as datum
use Rattle.mms_types.specs.Shape.{boolean}
use Rattle.mms_types.specs.declared.asked.Asked.TheVariants as asked
use Rattle.mms_types.specs.declared.condition.DeleteEventEnrollment.TheVariants as deleted
use Rattle.mms_types.specs.declared.event.CellEvent.TheVariants.{Tick}
use Rattle.mms_types.specs.declared.key.Scope.TheVariants as scope
use Rattle.mms_types.specs.declared.object_name.ObjectName.{ObjectName}
use Rattle.mms_types.specs.declared.object_name.ObjectName.TheVariants as name
use Rattle.mms_types.specs.declared.variable.Spec.{Spec}
use Rattle.mms_types.specs.declared.variable.Spec.TheVariants as spec
use Rattle.mms_types.specs.declared.variable.Access.TheVariants as access
use Rattle.mms_types.specs.declared.name_list.ObjectClass.TheVariants as class
use Rattle.mms_types.specs.declared.name_list.ObjectScope.TheVariants as listed
use Rattle.mms_types.specs.declared.variable.DeleteScope.TheVariants as deleting
use Rattle.mms_types.specs.declared.pdu.Request.{Request}
use Rattle.mms_types.specs.declared.pdu.Request.TheVariants as request
use Rattle.association.specs.Client.{ClientRow}
use Rattle.token_sem.specs.declared.entry.SemState.TheVariants.{Owner, Queued}
use Rattle.mms_time.specs.declared.row.Semaphore.TheVariants.{Token}
use Rattle.variable_services.specs.Services.{no_variables}
use Rattle.serve_domains.specs.Tables.{no_domains}
use Rattle.cell_client.specs.Association.{Verdict, Takes, Replies, Arrives, Ends, Fails}
use Rattle.step_parts.specs.State.{State}
use Rattle.cell_services.specs.Services.{class_tables, effect}
use Rattle.parted_state.specs.Served.{told_places}
use Rattle.step_parts.specs.Partition.{cell, parts_of}
use Rattle.step_parts.specs.Needs.{verdict_need, wanted}
use Rattle.step_parts.proofs.Worked.{Answers, among, device, entry, hold, open_row, watching}

-- what is needed of a verdict on what a client of that row sends, where these parts of a state are held
abbrev needs : State → ClientRow → List ℕ → Verdict → List ℕ
needs s row places v = among (verdict_need 2 (hold places 0 (parts_of s)) row v)

-- names of the VMD and of the domain D
abbrev vmd : List ℕ → ObjectName
vmd item = name.Vmd item

abbrev of_domain : List ℕ → ObjectName
of_domain item = name.Domain (codes "D") item

abbrev load : Request
load = request.InitiateDownloadSequence (record { domain = codes "D"; capabilities = []; sharable = false })

-- ---- areas, with the client's own part alone

domains_need : Answers (needs device (open_row 1) (6 ∷ [])) (
    (Takes 1 load, 2 ∷ []) ∷
    (Takes 1 (request.InitiateUploadSequence (codes "D")), 2 ∷ []) ∷
    (Takes 1 (request.GetDomainAttributes (codes "D")), 2 ∷ []) ∷
    (Replies 1 (Arrives (record { octets = 65 ∷ []; more = true })), 2 ∷ []) ∷
    (Replies 1 Ends, 2 ∷ []) ∷
    (Replies 1 Fails, 2 ∷ []) ∷
    [])
domains_need = refl

journals_need : Answers (needs device (open_row 1) (6 ∷ [])) (
    (Takes 1 (request.CreateJournal (vmd (codes "J"))), 5 ∷ []) ∷
    (Takes 1 (request.CreateJournal (of_domain (codes "J"))), 2 ∷ 5 ∷ []) ∷
    (Takes 1 (request.DeleteJournal (vmd (codes "J"))), 5 ∷ []) ∷
    (Takes 1 (request.ReportJournalStatus (of_domain (codes "J"))), 2 ∷ 5 ∷ []) ∷
    (Takes 1 (request.InitializeJournal (record { name = vmd (codes "J"); limit = None })), 5 ∷ []) ∷
    (Takes 1 (request.WriteJournal (record { name = vmd (codes "J"); entries = [] })), 5 ∷ []) ∷
    (Takes 1 (request.ReadJournal (record { name = vmd (codes "J"); start = None; stop = None; tags = None; after = None })), 5 ∷ []) ∷
    [])
journals_need = refl

-- names are listed from the table of their class, and four classes have none
names_need : Answers (λ c. needs device (open_row 1) (6 ∷ []) (Takes 1 (request.GetNameList (record { class = c; scope = listed.Vmd; after = None })))) (
    (class.NamedVariable, 1 ∷ []) ∷
    (class.NamedVariableList, 1 ∷ []) ∷
    (class.Semaphore, 8 ∷ []) ∷
    (class.EventCondition, 4 ∷ []) ∷
    (class.EventEnrollment, 4 ∷ []) ∷
    (class.Journal, 5 ∷ []) ∷
    (class.Domain, 2 ∷ []) ∷
    (class.ProgramInvocation, 3 ∷ []) ∷
    [])
names_need = refl

no_tables : Answers class_tables ((class.ScatteredAccess, []) ∷ (class.NamedType, []) ∷ (class.EventAction, []) ∷ (class.OperatorStation, []) ∷ [])
no_tables = refl

variables_need : Answers (needs device (open_row 1) (6 ∷ [])) (
    (Takes 1 (request.Write (record { access = access.List (of_domain (codes "L")); values = [] })), 1 ∷ 2 ∷ []) ∷
    (Takes 1 (request.DefineNamedVariable (record { name = of_domain (codes "V"); address = 1; of = None })), 1 ∷ 2 ∷ []) ∷
    (Takes 1 (request.DeleteVariableAccess (record { scope = deleting.Domain; names = None; domain = Some (codes "D") })), 1 ∷ 2 ∷ []) ∷
    (Takes 1 (request.DefineNamedVariableList (record { name = vmd (codes "L"); variables = spec.Address 1 ∷ [] })), 1 ∷ []) ∷
    (Takes 1 (request.DefineNamedVariableList (record { name = vmd (codes "L"); variables = spec.Name (of_domain (codes "V")) ∷ [] })), 1 ∷ 2 ∷ []) ∷
    (Takes 1 (request.GetNamedVariableListAttributes (vmd (codes "L"))), 1 ∷ []) ∷
    (Takes 1 (request.DeleteNamedVariableList (record { scope = deleting.Specific; names = Some (vmd (codes "L") ∷ []); domain = None })), 1 ∷ []) ∷
    [])
variables_need = refl

programs_need : Answers (needs device (open_row 1) (6 ∷ [])) (
    (Takes 1 (request.Start (record { name = codes "P"; argument = None })), 3 ∷ []) ∷
    (Takes 1 (request.Resume (record { name = codes "P"; argument = None })), 3 ∷ []) ∷
    (Takes 1 (request.Reset (codes "P")), 3 ∷ []) ∷
    (Takes 1 (request.Kill (codes "P")), 3 ∷ []) ∷
    (Takes 1 (request.GetProgramInvocationAttributes (codes "P")), 3 ∷ []) ∷
    [])
programs_need = refl

abbrev alter : ObjectName → Request
alter of = request.AlterEventConditionMonitoring (record { name = of; enabled = Some false; priority = None; summary = None; interval = None })

abbrev enroll : ObjectName → ObjectName → Request
enroll of on = request.DefineEventEnrollment (record { name = of; condition = on; transitions = record { octets = 0xFE ∷ [] }; rule = 0 })

events_need : Answers (needs device (open_row 1) (6 ∷ [])) (
    (Takes 1 (request.DeleteEventCondition (vmd (codes "M") ∷ [])), 0 ∷ 4 ∷ []) ∷
    (Takes 1 (request.DeleteEventCondition (vmd (codes "M") ∷ of_domain (codes "M") ∷ [])), 0 ∷ 2 ∷ 4 ∷ []) ∷
    (Takes 1 (request.ReportEventConditionStatus (vmd (codes "M"))), 0 ∷ 4 ∷ []) ∷
    (Takes 1 (alter (vmd (codes "M"))), 0 ∷ 4 ∷ []) ∷
    (Takes 1 (request.TriggerEvent (record { name = of_domain (codes "M"); priority = None })), 0 ∷ 2 ∷ 4 ∷ []) ∷
    (Takes 1 (enroll (vmd (codes "N")) (of_domain (codes "M"))), 0 ∷ 2 ∷ 4 ∷ []) ∷
    (Takes 1 (request.DeleteEventEnrollment (deleted.Names (vmd (codes "N") ∷ []))), 0 ∷ 4 ∷ []) ∷
    [])
events_need = refl

-- ---- further, by what the held parts show

-- A condition that is there and monitored wants the variables, by whichever service it is named.
monitored_need : Answers (needs watching (open_row 1) (0 ∷ 4 ∷ 6 ∷ [])) (
    (Takes 1 (request.DeleteEventCondition (vmd (codes "M") ∷ [])), 1 ∷ []) ∷
    (Takes 1 (request.ReportEventConditionStatus (vmd (codes "M"))), 1 ∷ []) ∷
    (Takes 1 (alter (vmd (codes "M"))), 1 ∷ []) ∷
    (Takes 1 (request.TriggerEvent (record { name = vmd (codes "M"); priority = None })), 1 ∷ []) ∷
    (Takes 1 (enroll (vmd (codes "K")) (vmd (codes "M"))), 1 ∷ []) ∷
    (Takes 1 (request.DeleteEventEnrollment (deleted.Condition (vmd (codes "M")))), 1 ∷ []) ∷
    (Takes 1 (request.ReportEventConditionStatus (vmd (codes "E"))), []) ∷
    [])
monitored_need = refl

-- The cell 1 is guarded by the semaphore S, and the cell 2 by none.
abbrev guarded : State
guarded = record device {
  variables = record no_variables {
    vars = record {
      cells = (1, record { of = boolean; value = datum.boolean false; guard = Some (codes "S") })
          ∷ (2, record { of = boolean; value = datum.boolean false; guard = None }) ∷ [];
      variables = [];
    };
  };
}

abbrev write : List Spec → Request
write variables = request.Write (record { access = access.Specs variables; values = [] })

-- a guard wants the semaphores, where its variable is written and is there
guards_need : Answers (needs guarded (open_row 1) (1 ∷ 6 ∷ [])) (
    (Takes 1 (write (spec.Address 1 ∷ [])), 8 ∷ []) ∷
    (Takes 1 (write (spec.Address 2 ∷ spec.Address 1 ∷ [])), 8 ∷ []) ∷
    (Takes 1 (write (spec.Address 2 ∷ [])), []) ∷
    (Takes 1 (write (spec.Address 3 ∷ [])), []) ∷
    [])
guards_need = refl

-- ---- what a request tells others, where its answer fits

-- the parts of those whom a request of invokeID 1 tells something besides: whether its answer fits isn't computed here
abbrev tells : State → ClientRow → Request → List ℕ
tells s row asked = among (told_places cell (effect (cell.tables_of s) row 1 asked).also 2)

-- client 2 is granted the token that client 1 gives back, and client 1 is told what client 2 makes of a condition
others_told : Answers (λ (at : State × (ClientRow × Request)). tells at.0 at.1.0 at.1.1) (
    ((device, (open_row 1, request.RelinquishControl (record { name = vmd (codes "S"); token = None }))), 7 ∷ []) ∷
    ((device, (open_row 1, request.DeleteSemaphore (vmd (codes "S")))), []) ∷
    ((watching, (open_row 2, request.DeleteEventCondition (vmd (codes "M") ∷ []))), 6 ∷ []) ∷
    ((watching, (open_row 2, alter (vmd (codes "M")))), 6 ∷ []) ∷
    ((watching, (open_row 2, request.DeleteEventEnrollment (deleted.Names (vmd (codes "N") ∷ [])))), []) ∷
    [])
others_told = refl

-- ---- numbers of the server's requests

-- No number is left for a request of client 1, and the last one is.
abbrev spent : ClientRow
spent = record (open_row 1) { next_invoke = 4294967296 }

abbrev last : ClientRow
last = record (open_row 1) { next_invoke = 4294967295 }

-- The domain D is loaded by client 1, which was asked for a segment, or for the end of the load.
abbrev loading : State
loading = record device {
  domains = record no_domains {
    domains = (codes "D", record { capabilities = []; sharable = false; loader = Some 1; segments = []; invocations = [] }) ∷ [];
  };
}

abbrev asked_once : ClientRow → ClientRow
asked_once row = record row { asked = record { invoke = 1; kind = asked.Segment; domain = codes "D" } ∷ [] }

abbrev asked_last : ClientRow → ClientRow
asked_last row = record row { asked = record { invoke = 1; kind = asked.Terminate; domain = codes "D" } ∷ [] }

abbrev segment : Bool → Verdict
segment more = Replies 1 (Arrives (record { octets = 65 ∷ []; more = more }))

abbrev where_one_is_lost : List ℕ
where_one_is_lost = 0 ∷ 1 ∷ 4 ∷ 5 ∷ 8 ∷ []

-- a segment that comes, whether or not it is the last, and one that is refused: each asks
spent_need : Answers (λ (at : State × (ClientRow × Verdict)). needs at.0 at.1.0 (2 ∷ 6 ∷ []) at.1.1) (
    ((loading, (asked_once spent, segment true)), where_one_is_lost) ∷
    ((loading, (asked_once spent, segment false)), where_one_is_lost) ∷
    ((loading, (asked_once spent, Replies 1 Fails)), where_one_is_lost) ∷
    -- a load of a domain that is there is refused, and the end of a load asks nothing
    ((loading, (spent, Takes 1 load)), []) ∷
    ((loading, (asked_last spent, Replies 1 Ends)), []) ∷
    ((loading, (asked_last spent, Replies 1 Fails)), []) ∷
    -- the last number is given as any other
    ((loading, (asked_once last, segment true)), []) ∷
    [])
spent_need = refl

-- ---- time

-- A client whose control ends is aborted, where it asked for that: then time wants what a loss wants.
abbrev aborting : State
aborting = record device {
  semaphores = (
    record { scope = scope.Vmd; item = codes "S" },
    record {
      configured = false;
      semaphore = Token (record { tokens = 1; made = 2; entries = record (entry 1 Owner (Some (record { 0 = 3 }))) { abort = Some true } ∷ entry 2 Queued None ∷ [] });
    },
  ) ∷ [];
}

abortion_wants : Answers (λ event. among (wanted event aborting)) (
    (Tick 2, 0 ∷ 4 ∷ 8 ∷ []) ∷
    (Tick 3, 0 ∷ 1 ∷ 2 ∷ 4 ∷ 5 ∷ 6 ∷ 7 ∷ 8 ∷ []) ∷
    [])
abortion_wants = refl
