-- Tables that are parts (this profile's choice): what is said of each of them alike, wherever its part stands.
use Rattle.std.specs.Prelude.{Option}
use Rattle.step_parts.specs.declared.part.Part.{Part}
use Rattle.step_parts.specs.declared.part.Part.TheVariants.{Clock, Variables, Domains, Programs, Events, Journals, Semaphores}
use Rattle.step_parts.specs.declared.slots.ShownTable.{ShownTable}
use Rattle.step_parts.specs.declared.slots.ShownTable.TheVariants.{Held, Empty}

-- A table A that is a part: which part it makes; what is shown by what stands in one place, where this is its part, and
-- else another; and an empty one
pub record Slot (A : Type 0) : Type 0 where
  pub wrap : A → Part
  pub shown_or : A → Option Part → A
  pub none : A

-- A part is laid over another of its kind; one of another kind stays.
abbrev pub over : Part → Part → Part
over (Clock new) (Clock old) = Clock new
over (Variables new) (Variables old) = Variables new
over (Domains new) (Domains old) = Domains new
over (Programs new) (Programs old) = Programs new
over (Events new) (Events old) = Events new
over (Journals new) (Journals old) = Journals new
over (Semaphores new) (Semaphores old) = Semaphores new
over new old = old

-- a table as it is shown: that which is held, or an empty one
abbrev pub shown_by : {A : Type 0} → ShownTable A → A
shown_by (Held table) = table.now
shown_by (Empty table) = table
