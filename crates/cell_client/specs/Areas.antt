-- A confirmed request to an area of the device (ISO 9506-1): what it asks, why it is refused, and what it does otherwise.
use Rattle.std.specs.Prelude.{◌≡◌, ℕ, Bool, true, false, ◌&&◌, List, [], ◌∷◌, ◌++◌, Option, None, Some, is_none, ◌⊎◌, if◌then◌else◌}
use Rattle.std.specs.List.{list_any}
use Rattle.mms_types.specs.declared.object_name.ObjectName.{ObjectName}
use Rattle.mms_types.specs.declared.object_name.ObjectName.TheVariants as name
use Rattle.mms_types.specs.declared.service_error.ServiceError.{ServiceError}
use Rattle.mms_types.specs.declared.pdu.Answer.{Answer}
use Rattle.association.specs.Client.{ClientRow, Client as RoomyRow, next_ask}
use Rattle.association.specs.declared.waiting.Waiting.{Waiting}
use Rattle.cell_client.specs.Effects.{Effect, Waits, felt_all, is_ask, settled, tell, waits_told}
use Rattle.cell_client.specs.Facts.{Question, Facts}
use Rattle.cell_client.specs.Requests.{is_done, request_told, size_of}

-- what a request does that is not refused: its table or tables after it, its answer or none yet, and what else is told to whom
pub record OutcomeIn (A : Type 0) : Type 0 where
  pub tables : A
  pub answer : Option Answer
  pub also : List (ℕ × Effect)

-- A request of a client to an area with the table A: what its words ask other tables, what its own table shows to be asked besides; the first condition for which it is
-- refused, and what it does otherwise, under its invokeID, both by what the others tell it.
pub record RequestIn (A : Type 0) : Type 0 where
  pub words : List Question
  pub more : A → ClientRow → List Question
  pub cause : Facts → A → ClientRow → Option ServiceError
  pub effect : Facts → A → ClientRow → ℕ → OutcomeIn A

-- a request is answered, and nothing changes
abbrev pub answers : {A : Type 0} → A → Option Answer → OutcomeIn A
answers own told = record { tables = own; answer = told; also = [] }

-- a request is answered, and its table becomes this
abbrev pub changes : {A : Type 0} → A → Answer → OutcomeIn A
changes new told = record { tables = new; answer = Some told; also = [] }

-- ---- names of domains that are written in requests

abbrev pub is_of_domain : ObjectName → Bool
is_of_domain (name.Domain domain item) = true
is_of_domain (name.Vmd item) = false
is_of_domain (name.Association item) = false

-- the domain of which it is a name
abbrev pub domain_in : ObjectName → Option (List ℕ)
domain_in (name.Domain domain item) = Some domain
domain_in (name.Vmd item) = None
domain_in (name.Association item) = None

-- ---- a request, settled on the row of its client and the table of its area

module _ {A : Type 0} (r : RequestIn A) (facts : Facts) (row : ClientRow) (invoke : ℕ) where
  -- whether it is done: nothing stands against it, and its answer fits
  abbrev pub is_done_in : A → Bool
  is_done_in own = is_done (size_of row.association) invoke (r.cause facts own row) (r.effect facts own row invoke).answer

  -- the table after it
  abbrev pub table_in : A → A
  table_in own = if is_done_in own then (r.effect facts own row invoke).tables else own

  -- what its client is told
  abbrev pub own_told_in : A → List Effect
  own_told_in own = request_told (size_of row.association) invoke (r.cause facts own row) (r.effect facts own row invoke).answer

  -- it would ask the client something, and no number is left for that
  abbrev pub lacks_number_in : A → Bool
  lacks_number_in own = is_done_in own && list_any (λ told. is_ask told.1) (r.effect facts own row invoke).also && is_none (next_ask row)

  -- and what is told besides
  abbrev pub also_in : A → List (ℕ × Effect)
  also_in own = if is_done_in own then (r.effect facts own row invoke).also else []

-- It is served on these two alone: its client alone is told something, and the table becomes what the request makes of it.
pub record IsServedIn {A : Type 0} (r : RequestIn A) (facts : Facts) (invoke : ℕ) (row : ClientRow) (was now : A) (new : RoomyRow) : Type 0 where
  pub effects : List Effect
  pub is : new ≡ settled (felt_all effects row)
  pub told : tell row.client (own_told_in r facts row invoke was) ++ also_in r facts row invoke was ≡ tell row.client effects
  pub table : now ≡ table_in r facts row invoke was

-- It tells others something, too: the table that it makes, and what is told to whom, in order.
pub record IsToldIn {A : Type 0} (r : RequestIn A) (facts : Facts) (invoke : ℕ) (row : ClientRow) (was now : A) (told : List (ℕ × Effect)) : Type 0 where
  pub is : told ≡ tell row.client (own_told_in r facts row invoke was) ++ also_in r facts row invoke was
  pub table : now ≡ table_in r facts row invoke was

-- ---- a request that is not refused

-- it has an answer, and no request waits by it; or it waits, and nothing else is told
abbrev pub AnswersOrWaitsIn : {A : Type 0} → ℕ → ℕ → OutcomeIn A → Type 0
AnswersOrWaitsIn client invoke o =
    ((told : Answer) × (o.answer ≡ Some told) × (waits_told o.also ≡ []))
    ⊎ ((request : Waiting) × (request.invoke ≡ invoke) × (o.answer ≡ None) × (o.also ≡ (client, Waits request) ∷ []))
