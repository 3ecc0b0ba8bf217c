-- Worked examples: which parts an event wants, of a device of two clients, in the rows of the table of parts in
-- docs/PROFILE.md; `WorkedRequests` has those of further requests. Its parts are 0 the clock, 1 variables, 2 domains, 3
-- program invocations, 4 event conditions, 5 journals, 6 and 7 the clients, 8 semaphores.
use Rattle.std.specs.Prelude.{◌≡◌, ℕ, suc, nat_eq, List, [], ◌∷◌, map, filter, codes, Option, Some, None, false, true, if◌then◌else◌}
use Rattle.std.specs.List.{list_any, range_with_len}
use Rattle.std.proofs.Common.{refl}
use Rattle.mms_types.specs.Order.{key_of}
use Rattle.mms_types.specs.declared.condition.DeleteEventEnrollment.TheVariants as deleted
use Rattle.event_cond.specs.declared.condition.ConditionClass.TheVariants.{Monitored}
use Rattle.mms_types.specs.declared.event.CellEvent.TheVariants.{Heard, Lost, Tick, Ends, Drain}
use Rattle.mms_types.specs.declared.key.Scope.TheVariants as scope
use Rattle.mms_types.specs.declared.moment.Moment.{Moment}
use Rattle.mms_types.specs.declared.object_name.ObjectName.TheVariants as name
use Rattle.mms_types.specs.declared.name_list.ObjectScope.TheVariants as listed
use Rattle.mms_types.specs.declared.name_list.ObjectClass.TheVariants as class
use Rattle.mms_types.specs.declared.variable.Spec.TheVariants as spec
use Rattle.mms_types.specs.declared.variable.Access.TheVariants as access
use Rattle.mms_types.specs.declared.pdu.Request.TheVariants as request
use Rattle.association.specs.Client.{ClientRow, new_row, opened_row}
use Rattle.token_sem.specs.declared.entry.SemEntry.{SemEntry}
use Rattle.token_sem.specs.declared.entry.SemState.{SemState}
use Rattle.token_sem.specs.declared.entry.SemState.TheVariants.{Owner, Queued}
use Rattle.mms_time.specs.declared.row.Semaphore.TheVariants.{Token}
use Rattle.variable_services.specs.Services.{no_variables}
use Rattle.serve_domains.specs.Tables.{no_domains}
use Rattle.serve_events.specs.Tables.{no_events}
use Rattle.cell_client.specs.Association.{Verdict, Tells, Takes, Concludes, Cancels, Aborts}
use Rattle.step_parts.specs.declared.part.Part.{Part}
use Rattle.step_parts.specs.State.{State}
use Rattle.step_parts.specs.Partition.{no_device, parts_of}
use Rattle.step_parts.specs.Needs.{footprint, verdict_need, wanted}

-- a function answers each row of a table with its second column
abbrev pub Answers : {A B : Type 0} → (A → B) → List (A × B) → Type 0
Answers f rows = map (λ row. f row.0) rows ≡ map (λ row. row.1) rows

abbrev pub open_row : ℕ → ClientRow
open_row client = opened_row (new_row client no_device) (record { size = 65000; calling = 10; called = 10; nesting = 5 })

abbrev pub entry : ℕ → SemState → Option Moment → SemEntry
entry client state deadline = record {
  number = client;
  client = client;
  invoke = 1;
  token = None;
  priority = 64;
  control = None;
  abort = None;
  keep = false;
  state = state;
  deadline = deadline;
}

-- Both clients are in an association. Client 1 owns the one token of the semaphore S until moment 3, and client 2 waits
-- for it.
abbrev pub device : State
device = record {
  now = 0;
  variables = no_variables;
  domains = no_domains;
  programs = [];
  events = no_events;
  journals = [];
  semaphores = (
    record { scope = scope.Vmd; item = codes "S" },
    record {
      configured = false;
      semaphore = Token (record { tokens = 1; made = 2; entries = entry 1 Owner (Some (record { 0 = 3 })) ∷ entry 2 Queued None ∷ [] });
    },
  ) ∷ [];
  clients = open_row 1 ∷ open_row 2 ∷ [];
}

-- its parts, of which those at these places are held
abbrev pub hold : List ℕ → ℕ → List Part → List (Option Part)
hold places place [] = []
hold places place (part ∷ parts) = (if list_any (nat_eq place) places then Some part else None) ∷ hold places (suc place) parts

-- what the words of an event alone tell
words_tell : Answers (footprint 2) (
    (Heard 1 (139 ∷ 0 ∷ []), 6 ∷ []) ∷
    (Lost 2, 7 ∷ []) ∷
    (Tick 1, 0 ∷ 4 ∷ 8 ∷ []) ∷
    (Ends (codes "P"), 3 ∷ []) ∷
    (Drain 2, 7 ∷ []) ∷
    [])
words_tell = refl

-- those of the nine parts that are among these
abbrev pub among : List ℕ → List ℕ
among places = filter (λ part. list_any (nat_eq part) places) (range_with_len 0 9)

-- all that an event wants: client 2 is granted the token that client 1 had until it was lost, or until moment 3, and is
-- told so
events_want : Answers (λ event. among (wanted event device)) (
    (Lost 1, 0 ∷ 1 ∷ 2 ∷ 4 ∷ 5 ∷ 6 ∷ 7 ∷ 8 ∷ []) ∷
    (Lost 2, 0 ∷ 1 ∷ 2 ∷ 4 ∷ 5 ∷ 7 ∷ 8 ∷ []) ∷
    (Tick 2, 0 ∷ 4 ∷ 8 ∷ []) ∷
    (Tick 3, 0 ∷ 4 ∷ 7 ∷ 8 ∷ []) ∷
    (Ends (codes "P"), 3 ∷ []) ∷
    (Drain 2, 7 ∷ []) ∷
    [])
events_want = refl

-- The condition M is active and is evaluated at moment 10, where its cell isn't TRUE; client 1 is enrolled on it.
abbrev pub watching : State
watching = record device {
  semaphores = [];
  events = record {
    conditions = (
      key_of 1 (name.Vmd (codes "M")),
      record {
        priority = 64;
        severity = 64;
        class = Monitored (record { cell = 1; interval = 10; defined = record { 0 = 0 }; evaluation = Some (record { is_active = true; next = record { 0 = 10 } }) });
        to_active = None;
        to_idle = None;
      },
    ) ∷ [];
    enrolments = (
      key_of 1 (name.Vmd (codes "N")),
      record {
        client = 1;
        condition = key_of 1 (name.Vmd (codes "M"));
        transitions = record { octets = 0xFE ∷ [] };
        rule = 0;
      },
    ) ∷ [];
  };
}

-- until then a tick wants no cell, and tells nobody anything
evaluations_want : Answers (λ event. among (wanted event watching)) ((Tick 9, 0 ∷ 4 ∷ 8 ∷ []) ∷ (Tick 10, 0 ∷ 1 ∷ 4 ∷ 6 ∷ 8 ∷ []) ∷ [])
evaluations_want = refl

-- what is needed of client 1's verdict where these parts are held
abbrev needed : List ℕ → Verdict → List ℕ
needed places v = verdict_need 2 (hold places 0 (parts_of device)) (open_row 1) v

-- with its own part alone: what its words tell
octets_need : Answers (λ v. among (needed (6 ∷ []) v)) (
    (Tells [], []) ∷
    (Aborts, 0 ∷ 1 ∷ 2 ∷ 4 ∷ 5 ∷ 8 ∷ []) ∷
    (Concludes, 2 ∷ []) ∷
    (Cancels 1, 0 ∷ 8 ∷ []) ∷
    (Takes 1 (request.GetNameList (record { class = class.NamedVariable; scope = listed.Vmd; after = None })), 1 ∷ []) ∷
    (Takes 1 (request.GetNameList (record { class = class.Semaphore; scope = listed.Domain (codes "D"); after = None })), 2 ∷ 8 ∷ []) ∷
    (Takes 1 (request.Read (record { with_access = false; access = access.List (name.Vmd (codes "L")) })), 1 ∷ []) ∷
    (Takes 1 (request.GetVariableAccessAttributes (spec.Name (name.Domain (codes "D") (codes "V")))), 1 ∷ 2 ∷ []) ∷
    (Takes 1 (request.DeleteSemaphore (name.Vmd (codes "S"))), 0 ∷ 8 ∷ []) ∷
    (Takes 1 (request.DeleteSemaphore (name.Domain (codes "D") (codes "S"))), 0 ∷ 2 ∷ 8 ∷ []) ∷
    (Takes 1 (request.CreateProgramInvocation (record { name = codes "P"; domains = codes "D" ∷ []; reusable = true })), 2 ∷ 3 ∷ []) ∷
    (Takes 1 (request.DeleteProgramInvocation (codes "P")), 2 ∷ 3 ∷ []) ∷
    (Takes 1 (request.Stop (codes "P")), 3 ∷ []) ∷
    (Takes 1 (request.TriggerEvent (record { name = name.Vmd (codes "E"); priority = None })), 0 ∷ 4 ∷ []) ∷
    (Takes 1 (request.DeleteEventEnrollment (deleted.Condition (name.Domain (codes "D") (codes "E")))), 0 ∷ 2 ∷ 4 ∷ []) ∷ (
      Takes 1 (request.DefineEventCondition (record {
        name = name.Vmd (codes "E");
        priority = 64;
        severity = 64;
        summary = None;
        monitored = Some (record { variable = spec.Name (name.Vmd (codes "V")); interval = 10 });
      })),
      0 ∷ 1 ∷ 4 ∷ [],
    ) ∷
    (Takes 1 (request.DeleteDomain (codes "D")), 1 ∷ 2 ∷ 4 ∷ 5 ∷ 8 ∷ []) ∷
    [])
octets_need = refl

-- further, by what the held parts show: a conclusion once the domains are held
concluded : among (needed (6 ∷ 2 ∷ []) Concludes) ≡ 0 ∷ 1 ∷ 4 ∷ 5 ∷ 8 ∷ []
concluded = refl
