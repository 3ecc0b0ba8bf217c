-- Whatever is a client's: it has an association (ISO 9506-1, environment and general management: what belongs to an
-- association ends with it).
use Rattle.std.specs.Prelude.{◌≡◌, ℕ, false, List, IfSome, All, Contains}
use Rattle.std.specs.Map.{keys_of, values_of}
use Rattle.mms_types.specs.declared.key.Key.{Key}
use Rattle.mms_types.specs.declared.key.Scope.{Scope}
use Rattle.mms_types.specs.declared.key.Scope.TheVariants.{Vmd, Domain, Association}
use Rattle.association.specs.declared.negotiation.Association.TheVariants.{Open}
use Rattle.association.specs.declared.negotiation.Negotiated.{Negotiated}
use Rattle.association.specs.declared.waiting.Waiting.{Waiting}
use Rattle.token_sem.specs.Semaphore.{is_hung}
use Rattle.mms_time.specs.Semaphores.{entries_of}
use Rattle.parted_state.specs.Served.{row_at}
use Rattle.step_parts.specs.Partition.{cell}
use Rattle.step_parts.specs.State.{State}
use Rattle.cell_laws.specs.Enrolled.{HaveTheirClients}
use Rattle.cell_laws.specs.Linked.{waiting_at}

-- the client has an association
abbrev pub IsAssociated : State → ℕ → Type 0
IsAssociated s client = (values : Negotiated) × ((row_at cell client s.clients).association ≡ Open values)

-- where the scope is a client's association, that client has one
abbrev pub IsScopeOpen : State → Scope → Type 0
IsScopeOpen s (Association client) = IsAssociated s client
IsScopeOpen s Vmd = Unit {0}
IsScopeOpen s (Domain name) = Unit {0}

-- so it is with the scope of each of these names
abbrev pub AreScopesOpen : State → List Key → Type 0
AreScopesOpen s keys = All (λ key. IsScopeOpen s key.scope) keys

pub record HaveAssociations (s : State) : Type 0 where
  -- the scopes of the named variables, of the variable lists, of the event conditions and the enrollments, of the
  -- journals, and of the semaphores
  pub variables : AreScopesOpen s (keys_of s.variables.vars.variables)
  pub lists : AreScopesOpen s (keys_of s.variables.lists)
  pub conditions : AreScopesOpen s (keys_of s.events.conditions)
  pub enrolments : AreScopesOpen s (keys_of s.events.enrolments)
  pub journals : AreScopesOpen s (keys_of s.journals)
  pub semaphores : AreScopesOpen s (keys_of s.semaphores)
  -- whoever defined an enrollment, loads a domain, or uploads one
  pub definers : HaveTheirClients s
  pub loaders : All (λ domain. IfSome domain.loader (IsAssociated s)) (values_of s.domains.domains)
  pub uploads : All (λ upload. IsAssociated s upload.client) s.domains.uploads.rows
  -- whoever owns a token or waits for one: a hung entry outlives the association of its client
  pub entries : All (λ row. All (λ entry. is_hung entry ≡ false → IsAssociated s entry.client) (entries_of row)) (values_of s.semaphores)
  -- whoever has a request that waits
  pub waiting : (client : ℕ) (request : Waiting) → Contains (waiting_at s client) request → IsAssociated s client
