-- What a request asks tables that aren't its area's own, and what they tell it (this profile's choice): questions, and their answers as facts.
use Rattle.std.specs.Prelude.{ℕ, Bool, true, false, List, [], Option}
use Rattle.mms_types.specs.declared.condition.CellFact.{CellFact}
use Rattle.mms_types.specs.declared.condition.CellFact.TheVariants.{Missing}
use Rattle.mms_types.specs.declared.moment.Moment.{Moment}
use Rattle.mms_types.specs.declared.key.Scope.{Scope}
use Rattle.mms_types.specs.declared.name_list.ObjectClass.{ObjectClass}
use Rattle.mms_types.specs.declared.variable.Spec.{Spec}

pub data Question : Type 0 where
  -- the moment
  Now : Question
  -- where the name of a domain is written in the request, whether that one is live, where it has to be
  Live : Bool → Option (List ℕ) → Question
  -- of each variable, in order, whether that client owns a token of the semaphore that guards it: by their guards, where one has any
  Owned : ℕ → List (Option (List ℕ)) → Question
  -- whether any object has that domain for its scope
  Scoped : List ℕ → Question
  -- the names of a class of objects
  Names : ObjectClass → Question
  -- where a variable is to be watched, what becomes of its cell
  Cell : Option Spec → Question
  -- where a condition is named that is monitored, whether the cell of that number, which it watches, is TRUE
  Truth : Option ℕ → Question

pub record Facts : Type 0 where
  pub now : Moment
  pub live : Bool
  pub owned : List Bool
  pub scoped : Bool
  -- in a scope, from the one on that comes after that name, in order of octets
  pub names : Scope → Option (List ℕ) → List (List ℕ)
  -- of the variable as that client names it
  pub cell : ℕ → CellFact
  pub truth : Bool

-- where nobody asks: no domain is live, nobody owns a token, objects have the domain for their scope, there are no names, and no cell is there or TRUE
abbrev pub no_facts : Facts
no_facts = record { now = record { 0 = 0 }; live = false; owned = []; scoped = true; names = λ s after. []; cell = λ client. Missing; truth = false }
