-- Laws of a request that is served on the tables of its area and the row of its client: it is refused, or answered.
use Rattle.std.proofs.Common.{◌≡◌, ◌∙◌, ap, sym, refl, ℕ, Bool, true, false, List, [], ◌∷◌, ◌++◌, Option, Some, if◌then◌else◌}
use Rattle.mms_types.specs.declared.pdu.Answer.{Answer}
use Rattle.mms_types.specs.declared.service_error.ServiceError.{ServiceError}
use Rattle.association.specs.Client.{ClientRow, Client as RoomyRow}
use Rattle.cell_client.specs.Areas.{IsServedIn, OutcomeIn, RequestIn}
use Rattle.cell_client.specs.Effects.{Effect, felt, felt_all, settled, tell}
use Rattle.cell_client.specs.Facts.{Facts}
use Rattle.cell_client.specs.Requests.{is_done, refuses, request_told, size_of}

pub append_none : {X : Type 0} (xs : List X) → xs ++ [] ≡ xs
append_none [] = refl
append_none {X} (x ∷ xs) = ap (λ (l : List X). x ∷ l) (append_none xs)

module _ {A : Type 0} (r : RequestIn A) (facts : Facts) (invoke : ℕ) (row : ClientRow) (was now : A) (new : RoomyRow) where
  abbrev done : Option ServiceError → OutcomeIn A → Bool
  done why o = is_done (size_of row.association) invoke why o.answer

  -- by its cause and its outcome
  pub by_outcome : (why : Option ServiceError) (o : OutcomeIn A) (effects : List Effect) → r.cause facts was row ≡ why → r.effect facts was row invoke ≡ o
      → tell row.client (request_told (size_of row.association) invoke why o.answer) ++ (if done why o then o.also else []) ≡ tell row.client effects
      → now ≡ (if done why o then o.tables else was) → new ≡ settled (felt_all effects row) → IsServedIn r facts invoke row was now new
  by_outcome why o effects cause effect told table is = record {
    effects = effects;
    is = is;
    told = ap (λ (w : Option ServiceError). told_by w (r.effect facts was row invoke)) cause ∙ ap (told_by why) effect ∙ told;
    table = table ∙ sym (ap (λ (w : Option ServiceError). table_by w (r.effect facts was row invoke)) cause ∙ ap (table_by why) effect);
  }
    where
      told_by : Option ServiceError → OutcomeIn A → List (ℕ × Effect)
      told_by w p = tell row.client (request_told (size_of row.association) invoke w p.answer) ++ (if done w p then p.also else [])

      table_by : Option ServiceError → OutcomeIn A → A
      table_by w p = if done w p then p.tables else was

  -- it is refused
  pub refused : (e : ServiceError) → r.cause facts was row ≡ Some e → now ≡ was → new ≡ settled (felt (refuses invoke e) row)
      → IsServedIn r facts invoke row was now new
  refused e cause same is = by_outcome (Some e) (r.effect facts was row invoke) (refuses invoke e ∷ []) cause refl refl same is

  -- it is refused, or answered and the tables become these
  pub became : (why : Option ServiceError) (t : A) (answer : Option Answer) → r.cause facts was row ≡ why
      → r.effect facts was row invoke ≡ record { tables = t; answer = answer; also = [] }
      → now ≡ (if is_done (size_of row.association) invoke why answer then t else was)
      → new ≡ settled (felt_all (request_told (size_of row.association) invoke why answer) row) → IsServedIn r facts invoke row was now new
  became why t answer cause effect table is =
      by_outcome why (record { tables = t; answer = answer; also = [] }) told cause effect
      (by_test (is_done (size_of row.association) invoke why answer) ∙ append_none (tell row.client told)) table is
    where
      told : List Effect
      told = request_told (size_of row.association) invoke why answer

      by_test : (b : Bool) → tell row.client told ++ (if b then [] else []) ≡ tell row.client told ++ []
      by_test true = refl
      by_test false = refl

-- it is refused, or answered and nothing changes
pub answered : {A : Type 0} (r : RequestIn A) (facts : Facts) (invoke : ℕ) (row : ClientRow) (was : A) (new : RoomyRow) (why : Option ServiceError) (answer : Option Answer)
    → r.cause facts was row ≡ why → r.effect facts was row invoke ≡ record { tables = was; answer = answer; also = [] }
    → new ≡ settled (felt_all (request_told (size_of row.association) invoke why answer) row) → IsServedIn r facts invoke row was was new
answered {A} r facts invoke row was new why answer cause effect is =
    became r facts invoke row was was new why was answer cause effect (by_test (is_done (size_of row.association) invoke why answer)) is
  where
    by_test : (b : Bool) → was ≡ (if b then was else was)
    by_test true = refl
    by_test false = refl
