-- A request of an area that tells nobody but its client, on the table of its area and the row of its client: it is refused, its answer is too long, or it is done.
use Rattle.std.specs.Prelude.{◌≡◌, ℕ, Bool, true, false, Option, None, Some, List, [], ◌∷◌, ◌++◌, Err, IfNone, IfSome, OnSome, is_some, if◌then◌else◌, refl}
use Rattle.std.proofs.Common.{ap, ap₂, sym, subst, ◌∙◌}
use Rattle.std.proofs.lemmas.List.{append-nil}
use Rattle.mms_types.specs.declared.event.What.TheVariants as what
use Rattle.mms_types.specs.declared.pdu.Answer.{Answer}
use Rattle.mms_types.specs.declared.pdu.Pdu.TheVariants as pdu
use Rattle.mms_types.specs.declared.refuse.Refuse.{Refuse}
use Rattle.mms_types.specs.declared.refuse.Refuse.TheVariants as refuse
use Rattle.mms_types.specs.declared.service_error.ServiceError.{ServiceError}
use Rattle.mms_types.specs.Serves.{Serves}
use Rattle.mms_pdu.specs.Pdus.{pdu_octets}
use Rattle.association.specs.Client.{ClientRow, Client as RoomyRow}
use Rattle.cell_client.specs.Areas.{IsServedIn, RequestIn, also_in, is_done_in, own_told_in, table_in}
use Rattle.cell_client.specs.Association.{other_error}
use Rattle.cell_client.specs.Effects.{Effect, Sends, felt, felt_all, settled, tell}
use Rattle.cell_client.specs.Facts.{Facts}
use Rattle.cell_client.specs.Requests.{answer_told, fits, is_done, refuses, request_told, size_of}
use Rattle.cell_client.specs.Telling.{told_row}

module _ {A : Type 0} (r : RequestIn A) (facts : Facts) (row : ClientRow) (invoke : ℕ) (was : A) where
  alone : (r.effect facts was row invoke).also ≡ []
      → tell row.client (own_told_in r facts row invoke was) ++ also_in r facts row invoke was ≡ tell row.client (own_told_in r facts row invoke was)
  alone nobody = ap (λ (also : List (ℕ × Effect)). tell row.client (own_told_in r facts row invoke was) ++ also) (by_test (is_done_in r facts row invoke was) _ nobody)
      ∙ append-nil (tell row.client (own_told_in r facts row invoke was))
    where
      by_test : (b : Bool) (also : List (ℕ × Effect)) → also ≡ [] → (if b then also else []) ≡ []
      by_test true also none = none
      by_test false also none = refl

  settles : (now : A) (new : RoomyRow) → (r.effect facts was row invoke).also ≡ []
      → new ≡ settled (felt_all (own_told_in r facts row invoke was) row) → now ≡ table_in r facts row invoke was → IsServedIn r facts invoke row was now new
  settles now new nobody is table = record { effects = own_told_in r facts row invoke was; is = is; told = alone nobody; table = table }

  -- refused or answered, and nothing changes
  pub answered : (new : RoomyRow) → (r.effect facts was row invoke).also ≡ [] → (r.effect facts was row invoke).tables ≡ was
      → new ≡ settled (felt_all (own_told_in r facts row invoke was) row) → IsServedIn r facts invoke row was was new
  answered new nobody stays is = settles was new nobody is (by_test (is_done_in r facts row invoke was) _ (sym stays))
    where
      by_test : (b : Bool) (after : A) → was ≡ after → was ≡ (if b then after else was)
      by_test true after same = same
      by_test false after same = refl

  -- refused for its cause
  pub refused : (error : ServiceError) (new : RoomyRow) → (r.effect facts was row invoke).also ≡ [] → r.cause facts was row ≡ Some error
      → new ≡ settled (felt (refuses invoke error) row) → IsServedIn r facts invoke row was was new
  refused error new nobody cause is = settles was new nobody
      (is ∙ ap (λ (why : Option ServiceError). settled (felt_all (request_told (size_of row.association) invoke why (r.effect facts was row invoke).answer) row)) (sym cause))
      (ap (λ (why : Option ServiceError). if is_done (size_of row.association) invoke why (r.effect facts was row invoke).answer then (r.effect facts was row invoke).tables else was) (sym cause))

  -- what is not refused, by whether its answer fits
  told_by : (told : Answer) → r.cause facts was row ≡ None → (r.effect facts was row invoke).answer ≡ Some told
      → own_told_in r facts row invoke was ≡ (if fits (size_of row.association) invoke (Some told) then answer_told invoke (Some told) else refuses invoke other_error ∷ [])
  told_by told cause answer = ap₂ (λ (why : Option ServiceError) (o : Option Answer). request_told (size_of row.association) invoke why o) cause answer

  done_by : (told : Answer) → r.cause facts was row ≡ None → (r.effect facts was row invoke).answer ≡ Some told
      → table_in r facts row invoke was ≡ (if fits (size_of row.association) invoke (Some told) then (r.effect facts was row invoke).tables else was)
  done_by told cause answer =
      ap₂ (λ (why : Option ServiceError) (o : Option Answer). if is_done (size_of row.association) invoke why o then (r.effect facts was row invoke).tables else was) cause answer

  -- refused since its answer is too long
  pub too_long : (told : Answer) (ready : Option (List ℕ)) (new : RoomyRow) → (r.effect facts was row invoke).also ≡ [] → r.cause facts was row ≡ None
      → (r.effect facts was row invoke).answer ≡ Some told → ready ≡ None → is_some ready ≡ fits (size_of row.association) invoke (Some told)
      → IfNone ready (new ≡ settled (felt (refuses invoke other_error) row)) → IsServedIn r facts invoke row was was new
  too_long told ready new nobody cause answer none fit refuse = settles was new nobody
      (subst (λ (o : Option (List ℕ)). IfNone o (new ≡ settled (felt (refuses invoke other_error) row))) none refuse
      ∙ sym (ap (λ (effects : List Effect). settled (felt_all effects row)) (told_by told cause answer
      ∙ ap (λ (b : Bool). if b then answer_told invoke (Some told) else refuses invoke other_error ∷ []) long)))
      (sym (done_by told cause answer ∙ ap (λ (b : Bool). if b then (r.effect facts was row invoke).tables else was) long))
    where
      long : fits (size_of row.association) invoke (Some told) ≡ false
      long = sym fit ∙ ap (λ (o : Option (List ℕ)). is_some o) none

  -- answered, and its table becomes what the request makes of it
  pub done : (told : Answer) (now : A) (ready : Option (List ℕ)) (octets : List ℕ) (own new : RoomyRow) → (r.effect facts was row invoke).also ≡ []
      → r.cause facts was row ≡ None → (r.effect facts was row invoke).answer ≡ Some told → now ≡ (r.effect facts was row invoke).tables
      → ready ≡ Some octets → is_some ready ≡ fits (size_of row.association) invoke (Some told)
      → IfSome ready (λ o. o ≡ pdu_octets (pdu.ConfirmedResponse invoke told)) → OnSome ready (own ≡ record { row = row; output_room = 1; waiting_room = 0; asked_room = 0 })
      → new ≡ told_row (Sends (what.Octets octets)) 1 0 own → IsServedIn r facts invoke row was now new
  done told now ready octets own new nobody cause answer becomes some fit spelled room is = settles now new nobody
      (is ∙ ap₂ (λ (o : List ℕ) (client : RoomyRow). told_row (Sends (what.Octets o)) 1 0 client)
      (subst (λ (o : Option (List ℕ)). IfSome o (λ p. p ≡ pdu_octets (pdu.ConfirmedResponse invoke told))) some spelled)
      (subst (λ (o : Option (List ℕ)). OnSome o (own ≡ record { row = row; output_room = 1; waiting_room = 0; asked_room = 0 })) some room)
      ∙ sym (ap (λ (effects : List Effect). settled (felt_all effects row)) (told_by told cause answer
      ∙ ap (λ (b : Bool). if b then answer_told invoke (Some told) else refuses invoke other_error ∷ []) fitting)))
      (becomes ∙ sym (done_by told cause answer ∙ ap (λ (b : Bool). if b then (r.effect facts was row invoke).tables else was) fitting))
    where
      fitting : fits (size_of row.association) invoke (Some told) ≡ true
      fitting = sym fit ∙ ap (λ (o : Option (List ℕ)). is_some o) some

-- the client that a part has, as code asks for it
pub same_client : (client : ℕ) (part own : RoomyRow) → client ≡ part.row.client → part ≡ own → own.row.client ≡ client
same_client client part own is same = sym (is ∙ ap (λ (p : RoomyRow). p.row.client) same)

-- a service that says an error is refused for it
pub error_said : {X : Type 0} (said : Refuse) (error : ServiceError) (why : Option ServiceError) (answer : Option X) → said ≡ refuse.Service error
    → Serves (Err said) why answer → why ≡ Some error
error_said {X} said error why answer is serves = subst (λ (e : Refuse). Serves {X = X} (Err e) why answer) is serves
