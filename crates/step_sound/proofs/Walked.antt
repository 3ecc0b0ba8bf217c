-- What a verdict comes to, case by case, whatever is to hold of it.
use Rattle.std.specs.Prelude.{◌≡◌, ℕ, Bool, true, false, Option, None, Some, List, [], if◌then◌else◌, refl}
use Rattle.mms_types.specs.declared.pdu.Request.{Request}
use Rattle.mms_types.specs.declared.service_error.ServiceError.{ServiceError}
use Rattle.association.specs.Client.{ClientRow}
use Rattle.association.specs.declared.waiting.Waiting.{Waiting}
use Rattle.cell_client.specs.Association.{Came, Verdict, Tells, Takes, Replies, Exhausts, Concludes, Cancels, Aborts, keeps_open}
use Rattle.cell_client.specs.Effects.{Effect}
use Rattle.cell_client.specs.Requests.{fits, is_done, size_of}
use Rattle.cell_services.specs.Services.{area_of, cause, effect, effect_of, lacks_number, reply_in}
use Rattle.cell_services.specs.Serving.{also_told, is_served, is_served_in, keeps_upload, loss_also, resolved, tables_cancelled, tables_heard, waiting_of, without_client}
use Rattle.cell_services.specs.Tables.{Tables}

module _ (t : Tables) (row : ClientRow) where
  -- what the tables make of it
  pub by_tables : (P : Verdict → Type 0) → ((invoke : ℕ) → P (Exhausts invoke)) → P Aborts → P (Tells keeps_open) → (v : Verdict) → P v → P (resolved t row v)
  by_tables P exhausts aborts keeps (Takes invoke asked) is = by_test (lacks_number t row invoke (area_of asked))
    where
      by_test : (b : Bool) → P (if b then Exhausts invoke else Takes invoke asked)
      by_test true = exhausts invoke
      by_test false = is
  by_tables P exhausts aborts keeps (Replies number came) is = by_test (lacks_number t row number (reply_in number came))
    where
      by_test : (b : Bool) → P (if b then Aborts else Replies number came)
      by_test true = aborts
      by_test false = is
  by_tables P exhausts aborts keeps Concludes is = by_test (keeps_upload t row)
    where
      by_test : (b : Bool) → P (if b then Tells keeps_open else Concludes)
      by_test true = keeps
      by_test false = is
  by_tables P exhausts aborts keeps (Tells effects) is = is
  by_tables P exhausts aborts keeps v is = is

  -- the tables after it
  pub by_heard : (P : Tables → Type 0) → P t → P (without_client row.client t) → ((invoke : ℕ) (asked : Request) → cause t row asked ≡ None → P (effect t row invoke asked).tables)
      → ((number : ℕ) (came : Came) → P (effect_of t row number (reply_in number came)).tables) → ((request : Waiting) → P (tables_cancelled (Some request) t)) → (v : Verdict)
      → P (tables_heard t row v)
  by_heard P stays lost served replied cancelled (Takes invoke asked) = by_cause (cause t row asked) (served invoke asked)
    where
      by_fit : (b : Bool) → P (effect t row invoke asked).tables → P (if b then (effect t row invoke asked).tables else t)
      by_fit true is = is
      by_fit false is = stays

      by_cause : (o : Option ServiceError) → (o ≡ None → P (effect t row invoke asked).tables)
          → P (if is_done (size_of row.association) invoke o (effect t row invoke asked).answer then (effect t row invoke asked).tables else t)
      by_cause None is = by_fit (fits (size_of row.association) invoke (effect t row invoke asked).answer) (is refl)
      by_cause (Some refusal) is = stays
  by_heard P stays lost served replied cancelled (Replies number came) = by_test (is_served_in t row number (reply_in number came))
    where
      by_test : (b : Bool) → P (if b then (effect_of t row number (reply_in number came)).tables else t)
      by_test true = replied number came
      by_test false = stays
  by_heard P stays lost served replied cancelled (Cancels invoke) = by_waiting (waiting_of invoke row.waiting)
    where
      by_waiting : (o : Option Waiting) → P (tables_cancelled o t)
      by_waiting None = stays
      by_waiting (Some request) = cancelled request
  by_heard P stays lost served replied cancelled (Tells effects) = stays
  by_heard P stays lost served replied cancelled (Exhausts invoke) = lost
  by_heard P stays lost served replied cancelled Concludes = lost
  by_heard P stays lost served replied cancelled Aborts = lost

  -- what others are told by it
  pub by_also : (P : List (ℕ × Effect) → Type 0) → P [] → P (loss_also row.client t) → ((invoke : ℕ) (asked : Request) → P (effect t row invoke asked).also)
      → ((number : ℕ) (came : Came) → P (effect_of t row number (reply_in number came)).also) → (v : Verdict) → P (also_told t row v)
  by_also P none lost served replied (Takes invoke asked) = by_test (is_served t row invoke asked)
    where
      by_test : (b : Bool) → P (if b then (effect t row invoke asked).also else [])
      by_test true = served invoke asked
      by_test false = none
  by_also P none lost served replied (Replies number came) = by_test (is_served_in t row number (reply_in number came))
    where
      by_test : (b : Bool) → P (if b then (effect_of t row number (reply_in number came)).also else [])
      by_test true = replied number came
      by_test false = none
  by_also P none lost served replied (Tells effects) = none
  by_also P none lost served replied (Cancels invoke) = none
  by_also P none lost served replied (Exhausts invoke) = lost
  by_also P none lost served replied Concludes = lost
  by_also P none lost served replied Aborts = lost
