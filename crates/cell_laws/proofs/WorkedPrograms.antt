-- Worked examples of domains and the program invocations that name them, typed by hand from the definitions.
use Rattle.std.specs.Prelude.{◌≡◌, ℕ, Bool, true, false, List, [], ◌∷◌, Option, None, Some}
use Rattle.std.proofs.Common.{refl, arith}
use Rattle.mms_types.specs.declared.invocation.InvocationState.TheVariants.{Idle}
use Rattle.domain_load.specs.Domains.{Rows as DomainRows}
use Rattle.domain_load.specs.declared.domain.Domain.{Domain}
use Rattle.program_inv.specs.Programs.{Rows}
use Rattle.program_inv.specs.declared.invocation.Invocation.{Invocation}
use Rattle.serve_programs.specs.Users.{users_of}
use Rattle.serve_events.specs.Tables.{no_events}
use Rattle.step_parts.specs.State.{State}
use Rattle.cell_laws.specs.Programs.{AreForOne, HaveTheirDomains}

-- the domains D1, D2, .., and the invocations A and P
abbrev d : ℕ → List ℕ
d number = 68 ∷ number ∷ []

abbrev a : List ℕ
a = 65 ∷ []

abbrev p : List ℕ
p = 80 ∷ []

abbrev of : List (List ℕ) → Invocation
of domains = record { domains = domains; reusable = true; state = Idle; argument = [] }

-- P is of D1 and D2, and A was made after it, of D1
abbrev both : Rows
both = (p, of (d 49 ∷ d 50 ∷ [])) ∷ (a, of (d 49 ∷ [])) ∷ []

-- ---- the names of a domain, in order of octets

of_two : users_of (d 49) both ≡ a ∷ p ∷ []
of_two = refl

of_one : users_of (d 50) both ≡ p ∷ []
of_one = refl

of_none : users_of (d 51) both ≡ []
of_none = refl

-- ---- a device

abbrev domain : Bool → Option ℕ → List (List ℕ) → Domain
domain sharable loader invocations = record { capabilities = []; sharable = sharable; loader = loader; segments = []; invocations = invocations }

abbrev device : DomainRows → Rows → State
device domains programs = record {
  now = 0;
  variables = record { vars = record { cells = []; variables = [] }; lists = [] };
  domains = record { domains = domains; uploads = record { rows = []; given = 0 } };
  programs = programs;
  events = no_events;
  journals = [];
  semaphores = [];
  clients = [];
}

-- no invocation names a domain that is LOADING, or one that isn't there
loading : HaveTheirDomains (device ((d 49, domain true (Some 7) []) ∷ []) ((a, of (d 49 ∷ [])) ∷ [])) → ⊥
loading have = cc (have 0 (a, of []) (omega arith) 0 [] (omega arith))

missing : HaveTheirDomains (device [] ((a, of (d 49 ∷ [])) ∷ [])) → ⊥
missing have = cc (have 0 (a, of []) (omega arith) 0 [] (omega arith))

-- and no two name one that isn't for several
for_one : AreForOne (device ((d 50, domain false None (a ∷ p ∷ [])) ∷ []) both) → ⊥
for_one are = let few = are (d 50) (domain false None (a ∷ p ∷ [])) refl refl in omega (arith, few)
