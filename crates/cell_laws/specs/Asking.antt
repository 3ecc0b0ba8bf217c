-- A service by the answers to its own questions, beside whatever else is so (this profile's choice: what a service asks
-- tables that aren't its own).
use Rattle.std.specs.Prelude.{ℕ, List, [], ◌∷◌, ◌++◌, Option}
use Rattle.mms_types.specs.declared.service_error.ServiceError.{ServiceError}
use Rattle.association.specs.Client.{ClientRow}
use Rattle.parted_state.specs.Area.{Own, no_table}
use Rattle.cell_services.specs.Facts.{Facts, Question, Now, Live, Owned, Scoped, Names, Cell, Truth, is_domain_live, noted}
use Rattle.cell_services.specs.Requests.{RequestIn, among}
use Rattle.cell_services.specs.Services.{InArea, OfDevice, OfVariables, OfDomains, OfInvocations, OfPrograms, OfEvents, OfJournals, OfSemaphores, Outcome}
use Rattle.cell_services.specs.Tables.{Tables, own_variables, own_domains, own_invocations, own_programs, own_events, own_journals, own_semaphores}

-- what the tables answer to a question, in the place of what facts have there; whether a domain is live is looked up
-- wherever one has to be, its name written in the request or not
abbrev pub answered : Question → Tables → Facts → Facts
answered (Live of_domain domain) t facts = record facts { live = is_domain_live domain t.domains }
answered Now t facts = noted Now t facts
answered (Owned client guards) t facts = noted (Owned client guards) t facts
answered (Scoped domain) t facts = noted (Scoped domain) t facts
answered (Names class) t facts = noted (Names class) t facts
answered (Cell variable) t facts = noted (Cell variable) t facts
answered (Truth cell) t facts = noted (Truth cell) t facts

abbrev pub all_answered : List Question → Tables → Facts → Facts
all_answered [] t facts = facts
all_answered (question ∷ questions) t facts = answered question t (all_answered questions t facts)

module _ {A : Type 0} (own : Own Tables A) (facts : Facts) (t : Tables) (row : ClientRow) where
  -- these facts, with the answers to all that the request asks
  abbrev pub facts_beside : RequestIn A → Facts
  facts_beside r = all_answered (r.words ++ r.more (own.of t) row) t facts

  abbrev pub cause_beside_in : RequestIn A → Option ServiceError
  cause_beside_in r = r.cause (facts_beside r) (own.of t) row

  abbrev pub effect_beside_in : ℕ → RequestIn A → Outcome
  effect_beside_in invoke r = among own t (r.effect (facts_beside r) (own.of t) row invoke)

-- why what is asked of an area is refused, and what it does otherwise, beside these facts
abbrev pub cause_beside : Facts → Tables → ClientRow → InArea → Option ServiceError
cause_beside facts t row (OfDevice r) = cause_beside_in no_table facts t row r
cause_beside facts t row (OfVariables r) = cause_beside_in own_variables facts t row r
cause_beside facts t row (OfDomains r) = cause_beside_in own_domains facts t row r
cause_beside facts t row (OfInvocations r) = cause_beside_in own_invocations facts t row r
cause_beside facts t row (OfPrograms r) = cause_beside_in own_programs facts t row r
cause_beside facts t row (OfEvents r) = cause_beside_in own_events facts t row r
cause_beside facts t row (OfJournals r) = cause_beside_in own_journals facts t row r
cause_beside facts t row (OfSemaphores r) = cause_beside_in own_semaphores facts t row r

abbrev pub effect_beside : Facts → Tables → ClientRow → ℕ → InArea → Outcome
effect_beside facts t row invoke (OfDevice r) = effect_beside_in no_table facts t row invoke r
effect_beside facts t row invoke (OfVariables r) = effect_beside_in own_variables facts t row invoke r
effect_beside facts t row invoke (OfDomains r) = effect_beside_in own_domains facts t row invoke r
effect_beside facts t row invoke (OfInvocations r) = effect_beside_in own_invocations facts t row invoke r
effect_beside facts t row invoke (OfPrograms r) = effect_beside_in own_programs facts t row invoke r
effect_beside facts t row invoke (OfEvents r) = effect_beside_in own_events facts t row invoke r
effect_beside facts t row invoke (OfJournals r) = effect_beside_in own_journals facts t row invoke r
effect_beside facts t row invoke (OfSemaphores r) = effect_beside_in own_semaphores facts t row invoke r
