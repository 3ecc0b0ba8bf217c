-- Event conditions and the enrollments on them, in a state of the device (ISO 9506-1, event management).
use Rattle.std.specs.Prelude.{◌≡◌, ◌<◌, true, is_some, All}
use Rattle.association.specs.declared.negotiation.Association.TheVariants.{Open}
use Rattle.association.specs.declared.negotiation.Negotiated.{Negotiated}
use Rattle.event_cond.specs.Conditions.{named}
use Rattle.event_cond.specs.Evaluations.{evaluations}
use Rattle.parted_state.specs.Served.{row_at}
use Rattle.step_parts.specs.Partition.{cell}
use Rattle.step_parts.specs.State.{State}

-- the condition of each enrollment is there
abbrev pub HaveTheirConditions : State → Type 0
HaveTheirConditions s = All (λ row. is_some (named row.1.condition s.events.conditions) ≡ true) s.events.enrolments

-- the client that defined it has an association
abbrev pub HaveTheirClients : State → Type 0
HaveTheirClients s = All (λ row. (values : Negotiated) × ((row_at cell row.1.client s.clients).association ≡ Open values)) s.events.enrolments

-- each evaluation that is to come lies after the moment of the device
abbrev pub AreToCome : State → Type 0
AreToCome s = All (λ evaluation. s.now < evaluation.0.0) (evaluations s.events.conditions)
