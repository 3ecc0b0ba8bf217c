-- The tables that held parts show.
use Rattle.std.specs.Prelude.{◌≡◌, ℕ, Option, None, List, length, unwrap_or}
use Rattle.std.proofs.Common.{ap, ap₂, sym, ◌∙◌}
use Rattle.part_table.specs.Held.{held_at}
use Rattle.parted_state.specs.Lifted.{tables_shown}
use Rattle.parted_state.specs.DeviceLaws.{around_at}
use Rattle.parted_state.specs.Served.{around}
use Rattle.mms_time.specs.Semaphores.{Rows}
use Rattle.step_parts.specs.declared.part.Part.{Part}
use Rattle.mms_journal.specs.Journals.{Rows as Books}
use Rattle.program_inv.specs.Programs.{Rows as Invocations}
use Rattle.serve_domains.specs.Tables.{DomainTables}
use Rattle.serve_events.specs.declared.tables.EventTables.{EventTables}
use Rattle.cell_services.specs.Tables.{Tables}
use Rattle.variable_services.specs.declared.tables.VariableTables.{VariableTables}
use Rattle.step_parts.specs.Partition.{cell, clients_among, clock_in, domains_in, events_in, journals_in, programs_in, semaphores_in, semaphores_place, variables_in}
use Rattle.step_parts.specs.AfterLaws.{is_device}

-- the place of the semaphores is told by the number of parts
abbrev pub behind_clients : List (Option Part) → ℕ
behind_clients hand = semaphores_place (clients_among (length hand))

-- the tables of the parts themselves
abbrev pub own_tables : List (Option Part) → Tables
own_tables hand = record {
  now = clock_in (held_at hand 0);
  variables = variables_in (held_at hand 1);
  domains = domains_in (held_at hand 2);
  programs = programs_in (held_at hand 3);
  events = events_in (held_at hand 4);
  journals = journals_in (held_at hand 5);
  semaphores = semaphores_in (held_at hand (behind_clients hand));
}

abbrev pub seven : ℕ → VariableTables → DomainTables → Invocations → EventTables → Books → Rows → Tables
seven now variables domains programs events journals semaphores =
    record { now = now; variables = variables; domains = domains; programs = programs; events = events; journals = journals; semaphores = semaphores }

pub shown_own : (hand : List (Option Part)) → own_tables hand ≡ tables_shown cell hand
shown_own hand =
    ap₂ (λ (o p : Option (Option Part)). of (unwrap_or o None) (unwrap_or p None) (held_at hand 2) (held_at hand 3) (held_at hand 4) (held_at hand 5) (held_at hand (behind_clients hand)))
    (sym (around_at cell is_device (clients_among (length hand)) hand 0)) (sym (around_at cell is_device (clients_among (length hand)) hand 1))
    ∙ ap₂ (λ (q r : Option (Option Part)). of (held_at shown 0) (held_at shown 1) (unwrap_or q None) (unwrap_or r None) (held_at hand 4) (held_at hand 5) (held_at hand (behind_clients hand)))
    (sym (around_at cell is_device (clients_among (length hand)) hand 2)) (sym (around_at cell is_device (clients_among (length hand)) hand 3))
    ∙ ap₂ (λ (q r : Option (Option Part)). of (held_at shown 0) (held_at shown 1) (held_at shown 2) (held_at shown 3) (unwrap_or q None) (unwrap_or r None) (held_at hand (behind_clients hand)))
    (sym (around_at cell is_device (clients_among (length hand)) hand 4)) (sym (around_at cell is_device (clients_among (length hand)) hand 5))
    ∙ ap (λ (q : Option (Option Part)). of (held_at shown 0) (held_at shown 1) (held_at shown 2) (held_at shown 3) (held_at shown 4) (held_at shown 5) (unwrap_or q None))
    (sym (around_at cell is_device (clients_among (length hand)) hand 6))
  where
    shown : List (Option Part)
    shown = around 6 (clients_among (length hand)) hand

    of : Option Part → Option Part → Option Part → Option Part → Option Part → Option Part → Option Part → Tables
    of o p q r e j b =
        seven (clock_in o) (variables_in p) (domains_in q) (programs_in r) (events_in e) (journals_in j) (semaphores_in b)

-- ---- the tables that held parts show

pub shown_semaphores : (hand : List (Option Part)) (n : ℕ) → n ≡ clients_among (length hand)
    → (tables_shown cell hand).semaphores ≡ semaphores_in (held_at hand (semaphores_place n))
shown_semaphores hand n many =
    ap (λ (t : Tables). t.semaphores) (sym (shown_own hand)) ∙ ap (λ (m : ℕ). semaphores_in (held_at hand (semaphores_place m))) (sym many)

pub shown_variables : (hand : List (Option Part)) → (tables_shown cell hand).variables ≡ variables_in (held_at hand 1)
shown_variables hand = ap (λ (t : Tables). t.variables) (sym (shown_own hand))

pub shown_domains : (hand : List (Option Part)) → (tables_shown cell hand).domains ≡ domains_in (held_at hand 2)
shown_domains hand = ap (λ (t : Tables). t.domains) (sym (shown_own hand))

pub shown_events : (hand : List (Option Part)) → (tables_shown cell hand).events ≡ events_in (held_at hand 4)
shown_events hand = ap (λ (t : Tables). t.events) (sym (shown_own hand))

pub shown_journals : (hand : List (Option Part)) → (tables_shown cell hand).journals ≡ journals_in (held_at hand 5)
shown_journals hand = ap (λ (t : Tables). t.journals) (sym (shown_own hand))

pub shown_now : (hand : List (Option Part)) → (tables_shown cell hand).now ≡ clock_in (held_at hand 0)
shown_now hand = ap (λ (t : Tables). t.now) (sym (shown_own hand))
