-- Requests that the row of their client alone answers, and what is left to be done on the tables.
use Rattle.std.specs.Prelude.{◌≡◌, ℕ, Bool, true, false, Option, None, Some, List, [], ◌∷◌, ◌++◌, Result, Ok, Err, IfOk, IfNone, if◌then◌else◌, is_none, is_some, refl}
use Rattle.std.proofs.Common.{ap, ap₂, sym, ◌∙◌, subst}
use Rattle.mms_types.specs.declared.memory.Memory.{Memory}
use Rattle.mms_types.specs.declared.pdu.Request.{Request}
use Rattle.mms_types.specs.declared.pdu.Request.TheVariants as request
use Rattle.mms_types.specs.declared.pdu.Answer.{Answer}
use Rattle.mms_types.specs.declared.service_error.ServiceError.{ServiceError}
use Rattle.std.specs.Borrow.{Bor}
use Rattle.association.specs.Client.{ClientRow, Client as RoomyRow}
use Rattle.parted_state.specs.Served.{Done}
use Rattle.cell_client.specs.declared.acts.Act.TheVariants as act
use Rattle.cell_services.specs.Tables.{Tables}
use Rattle.cell_client.specs.Effects.{Effect, felt_all, settled, tell}
use Rattle.cell_client.specs.declared.acts.Act.{Act}
use Rattle.cell_client.specs.Meant.{act_verdict, came, told_alone, uses_no_table}
use Rattle.cell_client.specs.declared.verdict.Came.{Came as Borrowed}
use Rattle.cell_client.specs.Association.{Verdict, Tells, Takes, Replies, Exhausts, Concludes, Cancels, Aborts}
use Rattle.cell_services.specs.Services.{Outcome, answers, area_of, cause, effect, lacks_number}
use Rattle.cell_client.specs.Requests.{plain_answer, fits, is_done, request_told, size_of}
use Rattle.cell_services.specs.Serving.{comes_of, hears, loses, own_told}
use Rattle.cell_services.specs.Meant.{no_tables, IsPlainlyHeard}
use Rattle.cell_services.specs.Acts.{IsActOf, act_done}

pub append_none : {A : Type 0} (xs : List A) → xs ++ [] ≡ xs
append_none [] = refl
append_none {A} (x ∷ xs) = ap (λ (l : List A). x ∷ l) (append_none xs)

no_cause : (t : Tables) (row : ClientRow) (asked : Request) (a : Answer) → plain_answer row asked ≡ Some a → cause t row asked ≡ None
no_cause t row (request.Status y) a is = refl
no_cause t row request.Identify a is = refl
no_cause t row asked a is = absurd (cc is)

plain_effect : (t : Tables) (row : ClientRow) (invoke : ℕ) (asked : Request) (a : Answer) → plain_answer row asked ≡ Some a → effect t row invoke asked ≡ answers t (Some a)
plain_effect t row invoke (request.Status y) a is = ap (answers t) is
plain_effect t row invoke request.Identify a is = ap (answers t) is
plain_effect t row invoke asked a is = absurd (cc is)

-- nothing is asked of the client
plain_numbered : (t : Tables) (row : ClientRow) (invoke : ℕ) (asked : Request) (a : Answer) → plain_answer row asked ≡ Some a
    → lacks_number t row invoke (area_of asked) ≡ false
plain_numbered t row invoke (request.Status y) a is = refl
plain_numbered t row invoke request.Identify a is = refl
plain_numbered t row invoke asked a is = absurd (cc is)

plain_own : (t : Tables) (row : ClientRow) (invoke : ℕ) (asked : Request) (a : Answer) → plain_answer row asked ≡ Some a
    → own_told t row (Takes invoke asked) ≡ request_told (size_of row.association) invoke None (Some a)
plain_own t row invoke asked a is =
    ap₂ (λ (c : Option ServiceError) (o : Outcome). request_told (size_of row.association) invoke c o.answer) (no_cause t row asked a is) (plain_effect t row invoke asked a is)

plain_alone : (t : Tables) (row : ClientRow) (client invoke : ℕ) (asked : Request) (a : Answer) → plain_answer row asked ≡ Some a
    → hears t row client (Takes invoke asked) ≡ record { tables = t; told = tell client (request_told (size_of row.association) invoke None (Some a)) }
plain_alone t row client invoke asked a is =
    ap (λ (b : Bool). comes_of t row client (if b then Exhausts invoke else Takes invoke asked)) (plain_numbered t row invoke asked a is)
    ∙ ap₂ (λ (c : Option ServiceError) (o : Outcome). at c o) (no_cause t row asked a is) (plain_effect t row invoke asked a is)
    ∙ by_test (fits (size_of row.association) invoke (Some a))
    ∙ ap (λ (l : List (ℕ × Effect)). done t l) (append_none (tell client (request_told (size_of row.association) invoke None (Some a))))
  where
    done : Tables → List (ℕ × Effect) → Done Tables Effect
    done x l = record { tables = x; told = l }

    at : Option ServiceError → Outcome → Done Tables Effect
    at c o = record {
      tables = if is_done (size_of row.association) invoke c o.answer then o.tables else t;
      told = tell client (request_told (size_of row.association) invoke c o.answer) ++ (if is_done (size_of row.association) invoke c o.answer then o.also else []);
    }

    by_test : (b : Bool)
        → done (if b then t else t) (tell client (request_told (size_of row.association) invoke None (Some a)) ++ (if b then [] else []))
        ≡ done t (tell client (request_told (size_of row.association) invoke None (Some a)) ++ [])
    by_test true = refl
    by_test false = refl

pub plainly_answered : (row : ClientRow) (new : RoomyRow) (invoke : ℕ) (asked : Request) (a : Answer) → Some a ≡ plain_answer row asked
    → new ≡ settled (felt_all (request_told (size_of row.association) invoke None (Some a)) row) → IsPlainlyHeard row new (Takes invoke asked)
plainly_answered row new invoke asked a is told = record {
  is = told ∙ ap (λ (l : List Effect). settled (felt_all l row)) (sym (plain_own no_tables row invoke asked a (sym is)));
  alone = λ t client. plain_alone t row client invoke asked a (sym is)
      ∙ ap (λ (l : List Effect). at t (tell client l)) (sym (plain_own no_tables row invoke asked a (sym is)));
}
  where
    at : Tables → List (ℕ × Effect) → Done Tables Effect
    at x l = record { tables = x; told = l }

pub plainly_told : (row : ClientRow) (new : RoomyRow) (effects : List Effect) → new ≡ settled (felt_all effects row) → IsPlainlyHeard row new (Tells effects)
plainly_told row new effects told = record { is = told; alone = λ t client. ap (λ (l : List (ℕ × Effect)). at t l) (append_none (tell client effects)) }
  where
    at : Tables → List (ℕ × Effect) → Done Tables Effect
    at x l = record { tables = x; told = l }

-- ---- what is left

pub request_left : (row : ClientRow) (invoke : ℕ) (asked : Bor Request) (v : Verdict) → Takes invoke asked.now ≡ v → IsActOf row v (act.Request invoke asked)
request_left row invoke asked v is = λ t client. ap (λ (w : Verdict). hears t row client w) is

pub reply_left : (row : ClientRow) (number : ℕ) (answer : Borrowed) (v : Verdict) → Replies number (came answer) ≡ v → IsActOf row v (act.Reply number answer)
reply_left row number answer v is = λ t client. ap (λ (w : Verdict). hears t row client w) is

pub exhausted_left : (row : ClientRow) (invoke : ℕ) (v : Verdict) → Exhausts invoke ≡ v → IsActOf row v (act.Exhausts invoke)
exhausted_left row invoke v is = λ t client. ap (λ (w : Verdict). hears t row client w) is

pub conclusion_left : (row : ClientRow) (v : Verdict) → Concludes ≡ v → IsActOf row v act.Conclusion
conclusion_left row v is = λ t client. ap (λ (w : Verdict). hears t row client w) is

pub cancel_left : (row : ClientRow) (invoke : ℕ) (v : Verdict) → Cancels invoke ≡ v → IsActOf row v (act.Cancel invoke)
cancel_left row invoke v is = λ t client. ap (λ (w : Verdict). hears t row client w) is

pub abort_left : (row : ClientRow) (v : Verdict) → Aborts ≡ v → IsActOf row v act.Abort
abort_left row v is = λ t client. ap (λ (w : Verdict). hears t row client w) is

pub plain_as : (row : ClientRow) (new : RoomyRow) (v w : Verdict) → v ≡ w → IsPlainlyHeard row new v → IsPlainlyHeard row new w
plain_as row new v w same heard = subst (IsPlainlyHeard row new) same heard

-- ---- what a client hears

some_of : (o : Option Answer) → is_some o ≡ true → (a : Answer) × (o ≡ Some a)
some_of (Some a) is = (a, refl)
some_of None is = absurd (cc is)

heard_alone : (row : ClientRow) (new : RoomyRow) (v : Verdict) → uses_no_table row v ≡ true → new ≡ settled (felt_all (told_alone row v) row) → IsPlainlyHeard row new v
heard_alone row new (Tells effects) plain is = plainly_told row new effects is
heard_alone row new (Takes invoke asked) plain is =
    let found : (a : Answer) × (plain_answer row asked ≡ Some a) = some_of (plain_answer row asked) plain in
    plainly_answered row new invoke asked found.0 (sym found.1)
    (is ∙ ap (λ (o : Option Answer). settled (felt_all (request_told (size_of row.association) invoke None o) row)) found.1)
heard_alone row new v plain is = absurd (cc plain)

pub heard_plainly : (left : Option Act) (row : ClientRow) (new : RoomyRow) (v : Verdict) → uses_no_table row v ≡ true
    → IfNone left (new ≡ settled (felt_all (told_alone row v) row)) → is_none left ≡ uses_no_table row v → IsPlainlyHeard row new v
heard_plainly None row new v plain told exact = heard_alone row new v plain told
heard_plainly (Some a) row new v plain told exact = absurd (cc (exact ∙ plain))

pub left_of : (row : ClientRow) (v : Verdict) (a : Act) → act_verdict a ≡ Some v → IsActOf row v a
left_of row v (act.Request invoke asked) is = request_left row invoke asked v (cc is)
left_of row v (act.Reply number answer) is = reply_left row number answer v (cc is)
left_of row v (act.Exhausts invoke) is = exhausted_left row invoke v (cc is)
left_of row v act.Conclusion is = conclusion_left row v (cc is)
left_of row v (act.Cancel invoke) is = cancel_left row invoke v (cc is)
left_of row v act.Abort is = abort_left row v (cc is)
left_of row v act.Loss is = absurd (cc is)

-- and what is of no verdict is a loss
pub lost_of : (t : Tables) (row : ClientRow) (client : ℕ) (a : Act) → act_verdict a ≡ None → act_done t row client a ≡ loses t row client
lost_of t row client (act.Request invoke asked) is = absurd (cc is)
lost_of t row client (act.Reply number answer) is = absurd (cc is)
lost_of t row client (act.Exhausts invoke) is = absurd (cc is)
lost_of t row client act.Conclusion is = absurd (cc is)
lost_of t row client (act.Cancel invoke) is = absurd (cc is)
lost_of t row client act.Abort is = absurd (cc is)
lost_of t row client act.Loss is = refl
