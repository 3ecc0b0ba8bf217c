-- Names whose scope is a domain (ISO 9506-1, the scope of names).
use Rattle.std.specs.Prelude.{◌≡◌, true, List, All}
use Rattle.std.specs.Map.{keys_of}
use Rattle.mms_types.specs.declared.key.Key.{Key}
use Rattle.mms_types.specs.declared.key.Scope.{Scope}
use Rattle.mms_types.specs.declared.key.Scope.TheVariants.{Vmd, Domain, Association}
use Rattle.domain_load.specs.Domains.{Rows, is_there}
use Rattle.domain_load.specs.Standing.{is_live}
use Rattle.step_parts.specs.State.{State}

-- where the scope is a domain, that domain is READY or IN-USE
abbrev pub IsScopeLive : Rows → Scope → Type 0
IsScopeLive domains (Domain name) = is_there is_live name domains ≡ true
IsScopeLive domains Vmd = Unit {0}
IsScopeLive domains (Association client) = Unit {0}

-- so it is with the scope of each of these names
abbrev pub AreScopesLive : Rows → List Key → Type 0
AreScopesLive domains keys = All (λ key. IsScopeLive domains key.scope) keys

-- of the named variables, of the variable lists, of the event conditions and the enrollments, of the journals, and of the semaphores
pub record HaveLiveScopes (s : State) : Type 0 where
  pub variables : AreScopesLive s.domains.domains (keys_of s.variables.vars.variables)
  pub lists : AreScopesLive s.domains.domains (keys_of s.variables.lists)
  pub conditions : AreScopesLive s.domains.domains (keys_of s.events.conditions)
  pub enrolments : AreScopesLive s.domains.domains (keys_of s.events.enrolments)
  pub journals : AreScopesLive s.domains.domains (keys_of s.journals)
  pub semaphores : AreScopesLive s.domains.domains (keys_of s.semaphores)
