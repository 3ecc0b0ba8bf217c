-- A request is served on the table of its area and the row of its client: it waits, or its answer is too long.
use Rattle.std.proofs.Common.{◌≡◌, ◌∙◌, ap, sym, refl, ℕ, Bool, false, List, [], ◌∷◌, ◌++◌, Option, None, Some, if◌then◌else◌}
use Rattle.mms_types.specs.declared.pdu.Answer.{Answer}
use Rattle.mms_types.specs.declared.service_error.ServiceError.{ServiceError}
use Rattle.association.specs.Client.{ClientRow, Client as RoomyRow}
use Rattle.association.specs.declared.waiting.Waiting.{Waiting}
use Rattle.cell_client.specs.Areas.{IsServedIn, OutcomeIn, RequestIn}
use Rattle.cell_client.specs.Effects.{Effect, Waits, felt, felt_all, settled, tell}
use Rattle.cell_client.specs.Facts.{Facts}
use Rattle.cell_client.specs.Association.{other_error}
use Rattle.cell_client.specs.Requests.{answer_told, fits, is_done, refuses, request_told, size_of}
use Rattle.cell_client.proofs.ServedLaws.{by_outcome}

module _ {A : Type 0} (r : RequestIn A) (facts : Facts) (invoke : ℕ) (row : ClientRow) (was now : A) (new : RoomyRow) where
  -- it waits
  pub waits : (t : A) (request : Waiting) → r.cause facts was row ≡ None
      → r.effect facts was row invoke ≡ record { tables = t; answer = None; also = (row.client, Waits request) ∷ [] }
      → now ≡ t → new ≡ settled (felt (Waits request) row) → IsServedIn r facts invoke row was now new
  waits t request cause effect table is =
      by_outcome r facts invoke row was now new None (record { tables = t; answer = None; also = (row.client, Waits request) ∷ [] }) (Waits request ∷ []) cause effect refl table is

  -- its answer is too long
  pub unfitting : (a : Answer) → r.cause facts was row ≡ None → (r.effect facts was row invoke).answer ≡ Some a → fits (size_of row.association) invoke (Some a) ≡ false
      → now ≡ was → new ≡ settled (felt (refuses invoke other_error) row) → IsServedIn r facts invoke row was now new
  unfitting a cause answer fit same is =
      by_outcome r facts invoke row was now new None o (refuses invoke other_error ∷ []) cause refl
      (ap (λ (p : Option Answer). tell row.client (request_told (size_of row.association) invoke None p) ++ (if is_done (size_of row.association) invoke None p then o.also else [])) answer
      ∙ ap (λ (b : Bool). tell row.client (if b then answer_told invoke (Some a) else refuses invoke other_error ∷ []) ++ (if b then o.also else [])) fit)
      (same ∙ sym (ap (λ (p : Option Answer). if is_done (size_of row.association) invoke None p then o.tables else was) answer ∙ ap (λ (b : Bool). if b then o.tables else was) fit))
      is
    where
      o : OutcomeIn A
      o = r.effect facts was row invoke
