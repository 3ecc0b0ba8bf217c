-- Worked examples of what clients answer to the server's requests, and what is asked of them next.
use Rattle.std.specs.Prelude.{◌≡◌, ℕ, Bool, true, false, List, [], ◌∷◌, Option, Some, None, map}
use Rattle.std.proofs.Common.{refl}
use Rattle.mms_types.specs.declared.asked.Asked.{Asked}
use Rattle.mms_types.specs.declared.asked.Asked.TheVariants.{Segment, Terminate, Discard}
use Rattle.mms_types.specs.declared.key.Scope.TheVariants as scope
use Rattle.association.specs.declared.negotiation.Association.TheVariants.{Idle, Open}
use Rattle.domain_load.specs.Domains.{Rows}
use Rattle.domain_load.specs.declared.domain.Domain.{Domain}
use Rattle.cell_client.specs.Areas.{OutcomeIn}
use Rattle.cell_client.specs.Association.{Came, Arrives, Ends, Fails}
use Rattle.cell_client.specs.Effects.{Effect, Asks, Settles}
use Rattle.serve_domains.specs.Domains.{calling_of, replied_to}
use Rattle.serve_domains.specs.Tables.{DomainTables, is_scope_live, lost}

-- a function answers each row of a table with its second column
abbrev Answers : {A B : Type 0} → (A → B) → List (A × B) → Type 0
Answers f table = map (λ row. f row.0) table ≡ map (λ row. row.1) table

-- the domains D and E
abbrev d : List ℕ
d = 68 ∷ []

abbrev e : List ℕ
e = 69 ∷ []

-- a domain with these segments, and who loads it
abbrev domain : Option ℕ → List (List ℕ) → Domain
domain loader segments = record { capabilities = []; sharable = false; loader = loader; segments = segments; invocations = [] }

abbrev with_rows : Rows → DomainTables
with_rows rows = record { domains = rows; uploads = record { rows = []; given = 0 } }

-- client 7 loads D, of which one segment came, and E is READY
abbrev loading : DomainTables
loading = with_rows ((d, domain (Some 7) ((1 ∷ 2 ∷ []) ∷ [])) ∷ (e, domain None []) ∷ [])

abbrev segment : List ℕ → Bool → Came
segment octets more = Arrives (record { octets = octets; more = more })

-- what is told client 7 by its answer to request 4, and the domains after it
abbrev outcome : Rows → List Effect → OutcomeIn DomainTables
outcome rows effects = record { tables = with_rows rows; answer = None; also = map (λ effect. (7, effect)) effects }

-- a segment is put behind those that came, and more are asked for, or the end; the end makes the domain READY; a load that fails is gone, with a discard where a segment
-- failed; and a request that is not unanswered changes nothing
answered : Answers (λ (it : Came × Option (Asked × List ℕ)). replied_to 7 4 it.0 it.1 loading) ((
  (segment (3 ∷ []) true, Some (Segment, d)),
  outcome ((d, domain (Some 7) ((1 ∷ 2 ∷ []) ∷ (3 ∷ []) ∷ [])) ∷ (e, domain None []) ∷ []) (Settles 4 ∷ Asks Segment d ∷ []),
) ∷ (
  (segment [] false, Some (Segment, d)),
  outcome ((d, domain (Some 7) ((1 ∷ 2 ∷ []) ∷ [] ∷ [])) ∷ (e, domain None []) ∷ []) (Settles 4 ∷ Asks Terminate d ∷ []),
) ∷
    ((Ends, Some (Terminate, d)), outcome ((d, domain None ((1 ∷ 2 ∷ []) ∷ [])) ∷ (e, domain None []) ∷ []) (Settles 4 ∷ [])) ∷
    ((Fails, Some (Segment, d)), outcome ((e, domain None []) ∷ []) (Settles 4 ∷ Asks Discard d ∷ [])) ∷
    ((Fails, Some (Terminate, d)), outcome ((e, domain None []) ∷ []) (Settles 4 ∷ [])) ∷
    ((Ends, None), outcome loading.domains []) ∷
    [])
answered = refl

-- a scope is live where its domain is there and not LOADING
live : Answers (λ s. is_scope_live s loading) (
    (scope.Domain d, false) ∷
    (scope.Domain e, true) ∷
    (scope.Domain (70 ∷ []), false) ∷
    (scope.Vmd, false) ∷
    (scope.Association 7, false) ∷
    [])
live = refl

-- a client that is lost takes with it what it loads, and nothing else
losses : Answers (λ (client : ℕ). (lost client loading).domains) (
    (7, (e, domain None []) ∷ []) ∷
    (8, loading.domains) ∷
    [])
losses = refl

-- without an association nothing may be asked
allowed : Answers calling_of ((Idle, 0) ∷ (Open (record { size = 512; calling = 2; called = 1; nesting = 5 }), 2) ∷ [])
allowed = refl
