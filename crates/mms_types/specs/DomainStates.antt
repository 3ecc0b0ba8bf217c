-- Where a domain stands (ISO 9506-2, DomainState).
use Rattle.std.specs.Prelude.{ℕ}
use Rattle.mms_types.specs.declared.domain.DomainState.{DomainState}
use Rattle.mms_types.specs.declared.domain.DomainState.TheVariants.{Loading, Ready, InUse}

-- the number of a state
abbrev pub domain_state_number : DomainState → ℕ
domain_state_number Loading = 1
domain_state_number Ready = 2
domain_state_number InUse = 3
