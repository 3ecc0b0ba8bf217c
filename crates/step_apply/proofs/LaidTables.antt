-- The tables of held parts are exchanged, each laid over its own part, one after the other.
use Rattle.std.specs.Prelude.{◌≡◌, ℕ, suc, ◌+◌, ◌≤◌, nat_le, true, Option, List, [], ◌∷◌, length, take, refl}
use Rattle.std.specs.Option.{option_map}
use Rattle.std.proofs.Common.{ap, ap₂, ◌∙◌, arith}
use Rattle.std.proofs.lemmas.Bool.Decides.{nat_tests}
use Rattle.part_table.specs.Held.{held_at}
use Rattle.parted_state.specs.Lifted.{laid_from}
use Rattle.parted_state.specs.Served.{change, table_place}
use Rattle.parted_state.proofs.LiftedLaws.{held_else, other_table}
use Rattle.mms_time.specs.Semaphores.{Rows}
use Rattle.mms_journal.specs.Journals.{Rows as Books}
use Rattle.program_inv.specs.Programs.{Rows as Invocations}
use Rattle.serve_domains.specs.Tables.{DomainTables}
use Rattle.serve_events.specs.declared.tables.EventTables.{EventTables}
use Rattle.variable_services.specs.declared.tables.VariableTables.{VariableTables}
use Rattle.cell_services.specs.Meant.{no_tables}
use Rattle.cell_services.specs.Tables.{Tables}
use Rattle.step_parts.specs.declared.part.Part.{Part}
use Rattle.step_parts.specs.declared.part.Part.TheVariants.{Clock, Variables, Domains, Programs, Events, Journals, Semaphores}
use Rattle.step_parts.specs.AfterLaws.{is_device}
use Rattle.step_parts.specs.Partition.{cell, clients_among, clock_or, domains_or, events_or, journals_or, programs_or, semaphores_or, tables_held, variables_or}
use Rattle.step_apply.specs.Lifting.{laid_at, tabled}
use Rattle.step_parts.specs.Slots.{over}

abbrev pub seven : ℕ → VariableTables → DomainTables → Invocations → EventTables → Books → Rows → Tables
seven now variables domains programs events journals semaphores =
    record { now = now; variables = variables; domains = domains; programs = programs; events = events; journals = journals; semaphores = semaphores }

-- what stands in the place of a table is as it was while others are laid over theirs
still_past : (n l : ℕ) (parts : List Part) (k : ℕ) (hand : List (Option Part)) → k + length parts ≤ l
    → held_at (laid_from cell over n k parts hand) (table_place cell n l) ≡ held_at hand (table_place cell n l)
still_past n l [] k hand past = refl
still_past n l (part ∷ parts) k hand past =
    still_past n l parts (suc k) (change (option_map (over part)) hand (table_place cell n k)) (omega (arith, past))
    ∙ held_else (option_map (over part)) hand (table_place cell n k) (table_place cell n l) (other_table cell is_device n l k (λ same. omega (arith, same, past)))

module _ (was : Tables) (n : ℕ) (hand first second third fourth fifth sixth : List (Option Part))
    (one : first ≡ laid_at (Clock was.now) hand 0) (two : second ≡ laid_at (Variables was.variables) first 1) (three : third ≡ laid_at (Domains was.domains) second 2)
    (four : fourth ≡ laid_at (Programs was.programs) third 3) (five : fifth ≡ laid_at (Events was.events) fourth 4) (six : sixth ≡ laid_at (Journals was.journals) fifth 5) where
  -- the first k tables are laid over theirs
  abbrev first_laid : ℕ → List (Option Part)
  first_laid k = laid_from cell over n 0 (take k (cell.table_parts was)) hand

  second_is : second ≡ first_laid 2
  second_is = two ∙ ap (λ (h : List (Option Part)). laid_at (Variables was.variables) h 1) one

  third_is : third ≡ first_laid 3
  third_is = three ∙ ap (λ (h : List (Option Part)). laid_at (Domains was.domains) h 2) second_is

  fourth_is : fourth ≡ first_laid 4
  fourth_is = four ∙ ap (λ (h : List (Option Part)). laid_at (Programs was.programs) h 3) third_is

  fifth_is : fifth ≡ first_laid 5
  fifth_is = five ∙ ap (λ (h : List (Option Part)). laid_at (Events was.events) h 4) fourth_is

  sixth_is : sixth ≡ first_laid 6
  sixth_is = six ∙ ap (λ (h : List (Option Part)). laid_at (Journals was.journals) h 5) fifth_is

  pub exchanged : (t : Tables) (last : List (Option Part)) → was ≡ t → n ≡ clients_among (length hand) → last ≡ laid_at (Semaphores was.semaphores) sixth (6 + n) → last ≡ tabled t hand
  exchanged t last is many seventh =
      seventh ∙ ap (λ (h : List (Option Part)). laid_at (Semaphores was.semaphores) h (6 + n)) sixth_is
      ∙ ap₂ (λ (m : ℕ) (u : Tables). laid_from cell over m 0 (cell.table_parts u) hand) many is

  -- so what is lifted is what was held
  still : (l : ℕ) (h : List (Option Part)) → h ≡ first_laid l → nat_le (length (take l (cell.table_parts was))) l ≡ true
      → held_at h (table_place cell n l) ≡ held_at hand (table_place cell n l)
  still l h is few =
      let past : length (take l (cell.table_parts was)) ≤ l = grind (arith, nat_tests) in
      ap (λ (g : List (Option Part)). held_at g (table_place cell n l)) is ∙ still_past n l (take l (cell.table_parts was)) 0 hand (omega (arith, past))

  pub lifted : (now : ℕ) (variables : VariableTables) (domains : DomainTables) (programs : Invocations) (events : EventTables) (journals : Books) (semaphores : Rows) → was ≡ no_tables
      → now ≡ clock_or was.now (held_at hand 0) → variables ≡ variables_or was.variables (held_at first 1) → domains ≡ domains_or was.domains (held_at second 2)
      → programs ≡ programs_or was.programs (held_at third 3) → events ≡ events_or was.events (held_at fourth 4) → journals ≡ journals_or was.journals (held_at fifth 5)
      → semaphores ≡ semaphores_or was.semaphores (held_at sixth (6 + n)) → seven now variables domains programs events journals semaphores ≡ tables_held n hand
  lifted now variables domains programs events journals semaphores empty has0 has1 has2 has3 has4 has5 has6 =
      ap₂ (λ (m : ℕ) (v : VariableTables). seven m v domains programs events journals semaphores) has0 (has1 ∙ ap (variables_or was.variables) (still 1 first one refl))
      ∙ ap₂ (λ (m : DomainTables) (v : Invocations). seven at0 at1 m v events journals semaphores)
      (has2 ∙ ap (domains_or was.domains) (still 2 second second_is refl)) (has3 ∙ ap (programs_or was.programs) (still 3 third third_is refl))
      ∙ ap₂ (λ (m : EventTables) (v : Books). seven at0 at1 at2 at3 m v semaphores)
      (has4 ∙ ap (events_or was.events) (still 4 fourth fourth_is refl)) (has5 ∙ ap (journals_or was.journals) (still 5 fifth fifth_is refl))
      ∙ ap (λ (v : Rows). seven at0 at1 at2 at3 at4 at5 v) (has6 ∙ ap (semaphores_or was.semaphores) (still 6 sixth sixth_is refl))
      ∙ ap (λ (t : Tables). seven (clock_or t.now (held_at hand 0)) (variables_or t.variables (held_at hand 1)) (domains_or t.domains (held_at hand 2))
      (programs_or t.programs (held_at hand 3)) (events_or t.events (held_at hand 4)) (journals_or t.journals (held_at hand 5)) (semaphores_or t.semaphores (held_at hand (6 + n)))) empty
    where
      at0 : ℕ
      at0 = clock_or was.now (held_at hand 0)

      at1 : VariableTables
      at1 = variables_or was.variables (held_at hand 1)

      at2 : DomainTables
      at2 = domains_or was.domains (held_at hand 2)

      at3 : Invocations
      at3 = programs_or was.programs (held_at hand 3)

      at4 : EventTables
      at4 = events_or was.events (held_at hand 4)

      at5 : Books
      at5 = journals_or was.journals (held_at hand 5)
