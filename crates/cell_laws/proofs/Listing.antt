-- The names of each class, listed on after a name.
use Rattle.std.proofs.Common.{◌≡◌, ℕ, List, [], ◌∷◌, ◌++◌, Option, Some}
use Rattle.std.specs.Map.{keys_of}
use Rattle.mms_types.specs.declared.event.CellEvent.{CellEvent}
use Rattle.mms_types.specs.declared.key.Scope.{Scope}
use Rattle.mms_types.specs.declared.key.Scope.TheVariants.{Vmd, Domain, Association}
use Rattle.mms_types.specs.declared.name_list.ObjectClass.{ObjectClass}
use Rattle.mms_types.specs.declared.name_list.ObjectClass.TheVariants as class
use Rattle.cell_config.specs.declared.config.Config.{Config}
use Rattle.cell_config.specs.Said.{IsConfig}
use Rattle.cell_services.specs.Facts.{names_in}
use Rattle.step_parts.specs.Partition.{cell}
use Rattle.step_parts.specs.State.{State}
use Rattle.step_parts.specs.Step.{replay}
use Rattle.cell_laws.specs.Limits.{HaveLimits}
use Rattle.cell_laws.proofs.FewAlong.{replay_limits}
use Rattle.cell_laws.proofs.NamesOn.{listed_on, of_scope_on, once_each}

none_there : (front : List (List ℕ)) (name : List ℕ) (rest : List (List ℕ)) → [] ≡ front ++ name ∷ rest → [] ≡ rest
none_there [] name rest e = cc
none_there (x ∷ front) name rest e = cc

behind : (s : State) → HaveLimits s → (of : Scope) (c : ObjectClass) (last : Option (List ℕ)) (front : List (List ℕ)) (name : List ℕ) (rest : List (List ℕ))
    → names_in (cell.tables_of s) of c last ≡ front ++ name ∷ rest → names_in (cell.tables_of s) of c (Some name) ≡ rest
behind s h of class.NamedVariable last front name rest e = of_scope_on of s.variables.vars.variables h.variables.distinct last front name rest e
behind s h of class.NamedVariableList last front name rest e = of_scope_on of s.variables.lists h.lists.distinct last front name rest e
behind s h of class.Semaphore last front name rest e = of_scope_on of s.semaphores h.semaphores.distinct last front name rest e
behind s h of class.EventCondition last front name rest e = of_scope_on of s.events.conditions h.conditions.distinct last front name rest e
behind s h of class.EventEnrollment last front name rest e = of_scope_on of s.events.enrolments h.enrolments.distinct last front name rest e
behind s h of class.Journal last front name rest e = of_scope_on of s.journals h.journals.distinct last front name rest e
behind s h Vmd class.Domain last front name rest e = listed_on (keys_of s.domains.domains) (once_each (keys_of s.domains.domains) h.domains.distinct) last front name rest e
behind s h (Domain domain) class.Domain last front name rest e = none_there front name rest e
behind s h (Association client) class.Domain last front name rest e = none_there front name rest e
behind s h Vmd class.ProgramInvocation last front name rest e = listed_on (keys_of s.programs) (once_each (keys_of s.programs) h.programs.distinct) last front name rest e
behind s h (Domain domain) class.ProgramInvocation last front name rest e = none_there front name rest e
behind s h (Association client) class.ProgramInvocation last front name rest e = none_there front name rest e
behind s h of class.ScatteredAccess last front name rest e = none_there front name rest e
behind s h of class.NamedType last front name rest e = none_there front name rest e
behind s h of class.EventAction last front name rest e = none_there front name rest e
behind s h of class.OperatorStation last front name rest e = none_there front name rest e

pub listed_behind : (config : Config) (history : List CellEvent) (of : Scope) (c : ObjectClass) (last : Option (List ℕ)) (front : List (List ℕ)) (name : List ℕ) (rest : List (List ℕ))
    → IsConfig config → names_in (cell.tables_of (replay config history)) of c last ≡ front ++ name ∷ rest → names_in (cell.tables_of (replay config history)) of c (Some name) ≡ rest
listed_behind config history of c last front name rest is e = behind (replay config history) (replay_limits config history is) of c last front name rest e
