-- What the tables tell requests of areas that aren't theirs (this profile's choice): the tables that questions are for, and the answers as facts.
use Rattle.std.specs.Prelude.{ℕ, Bool, false, ◌||◌, List, [], ◌∷◌, Option, None, Some, is_some, if◌then◌else◌}
use Rattle.std.specs.List.{list_any}
use Rattle.std.specs.Option.{unwrap_or}
use Rattle.mms_types.specs.declared.condition.CellFact.{CellFact}
use Rattle.mms_types.specs.declared.condition.CellFact.TheVariants.{Missing}
use Rattle.mms_types.specs.declared.variable.Spec.{Spec}
use Rattle.mms_types.specs.declared.key.Scope.{Scope}
use Rattle.mms_types.specs.declared.name_list.ObjectClass.{ObjectClass}
use Rattle.mms_types.specs.declared.name_list.ObjectClass.TheVariants as class
use Rattle.mms_types.specs.declared.key.Scope.TheVariants as scope
use Rattle.object_names.specs.Listing.{names_after}
use Rattle.object_names.specs.Scopes.{has_any_of}
use Rattle.domain_load.specs.Domains as loaded
use Rattle.domain_load.specs.Standing.{is_live}
use Rattle.program_inv.specs.Programs as programs
use Rattle.serve_domains.specs.Tables.{DomainTables}
use Rattle.variables.specs.Access.{flags_of}
use Rattle.variables.specs.Rows.{Rows as Variables}
use Rattle.variables.specs.Truth.{cell_fact, truth_at}
use Rattle.mms_time.specs.Guards.{owns_guard}
use Rattle.parted_state.specs.Area.{Tells}
pub use Rattle.cell_client.specs.Facts.{Question, Now, Live, Owned, Scoped, Names, Cell, Truth, Facts, no_facts}
use Rattle.cell_services.specs.Tables.{Tables, moment_of, clock_table, variables_table, domains_table, programs_table, conditions_table, journals_table, semaphores_table}

-- ---- whom a question is for

-- the table of the domains, where the name of one is written
abbrev pub domain_tables : Bool → List ℕ
domain_tables of_domain = if of_domain then domains_table ∷ [] else []

-- the table of the semaphores, where a guard is looked up
abbrev pub guard_tables : Bool → List ℕ
guard_tables guarded = if guarded then semaphores_table ∷ [] else []

-- the table with the names of a class; some classes have no names
abbrev pub class_tables : ObjectClass → List ℕ
class_tables class.NamedVariable = variables_table ∷ []
class_tables class.NamedVariableList = variables_table ∷ []
class_tables class.Semaphore = semaphores_table ∷ []
class_tables class.EventCondition = conditions_table ∷ []
class_tables class.EventEnrollment = conditions_table ∷ []
class_tables class.Journal = journals_table ∷ []
class_tables class.Domain = domains_table ∷ []
class_tables class.ProgramInvocation = programs_table ∷ []
class_tables class.ScatteredAccess = []
class_tables class.NamedType = []
class_tables class.EventAction = []
class_tables class.OperatorStation = []

-- the table of the variables, where a cell is asked for
abbrev pub cell_tables : Bool → List ℕ
cell_tables asked = if asked then variables_table ∷ [] else []

-- the tables whose objects have a scope
abbrev pub scope_tables : List ℕ
scope_tables = variables_table ∷ conditions_table ∷ journals_table ∷ semaphores_table ∷ []

abbrev pub tables_for : Question → List ℕ
tables_for Now = clock_table ∷ []
tables_for (Live of_domain domain) = domain_tables of_domain
tables_for (Scoped domain) = scope_tables
tables_for (Owned client guards) = guard_tables (list_any is_some guards)
tables_for (Names c) = class_tables c
tables_for (Cell variable) = cell_tables (is_some variable)
tables_for (Truth cell) = cell_tables (is_some cell)

-- ---- what it is told

-- the names of domains, which have no scope but that of the device
abbrev pub domains_listed : DomainTables → Scope → Option (List ℕ) → List (List ℕ)
domains_listed domains scope.Vmd after = loaded.names_after after domains.domains
domains_listed domains s after = []

-- and those of program invocations
abbrev pub programs_listed : programs.Rows → Scope → Option (List ℕ) → List (List ℕ)
programs_listed rows scope.Vmd after = programs.names_after after rows
programs_listed rows s after = []

-- the names of a class and a scope that come after that one, in order of octets; other classes have no names
abbrev pub names_in : Tables → Scope → ObjectClass → Option (List ℕ) → List (List ℕ)
names_in t s class.NamedVariable after = names_after s after t.variables.vars.variables
names_in t s class.NamedVariableList after = names_after s after t.variables.lists
names_in t s class.Semaphore after = names_after s after t.semaphores
names_in t s class.EventCondition after = names_after s after t.events.conditions
names_in t s class.EventEnrollment after = names_after s after t.events.enrolments
names_in t s class.Journal after = names_after s after t.journals
names_in t s class.Domain after = domains_listed t.domains s after
names_in t s class.ProgramInvocation after = programs_listed t.programs s after
names_in t s c after = []

-- a domain is live, where one has to be: it is READY or IN-USE
abbrev pub is_domain_live : Option (List ℕ) → DomainTables → Bool
is_domain_live None domains = false
is_domain_live (Some domain) domains = loaded.is_there is_live domain domains.domains

-- some object has the domain for its scope: a variable, a list, an event condition, an enrollment, a journal or a semaphore
abbrev pub is_scope_used : List ℕ → Tables → Bool
is_scope_used domain t =
    has_any_of (scope.Domain domain) t.variables.vars.variables || has_any_of (scope.Domain domain) t.variables.lists || has_any_of (scope.Domain domain) t.events.conditions
    || has_any_of (scope.Domain domain) t.events.enrolments || has_any_of (scope.Domain domain) t.journals || has_any_of (scope.Domain domain) t.semaphores

-- what becomes of the cell of the variable that a client names so; none where none is asked for
abbrev pub cell_of : Option Spec → Variables → ℕ → CellFact
cell_of None rows client = Missing
cell_of (Some variable) rows client = cell_fact client variable rows

-- the cell of that number is TRUE
abbrev pub is_true : Option ℕ → Variables → Bool
is_true None rows = false
is_true (Some cell) rows = unwrap_or (truth_at cell rows) false

abbrev pub noted : Question → Tables → Facts → Facts
noted Now t facts = record facts { now = moment_of t }
noted (Live of_domain domain) t facts = record facts { live = if of_domain then is_domain_live domain t.domains else false }
noted (Scoped domain) t facts = record facts { scoped = is_scope_used domain t }
noted (Owned client guards) t facts = record facts { owned = flags_of (λ guard. owns_guard client guard t.semaphores) guards }
noted (Cell variable) t facts = record facts { cell = cell_of variable t.variables.vars }
noted (Truth cell) t facts = record facts { truth = is_true cell t.variables.vars }
noted (Names c) t facts = record facts { names = λ s after. names_in t s c after }

abbrev pub tells : Tells Tables Question Facts
tells = record { nothing = no_facts; tables = tables_for; noted = noted }
