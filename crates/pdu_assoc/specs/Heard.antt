-- What a client sends that the server only takes note of (this profile's choice of how much is read).
use Rattle.std.specs.Prelude.{ℕ, refl, true, false, Option, Some, None, Result, Ok, Err}
use Rattle.ber_forms.specs.Fault.{Fault}
use Rattle.ber_forms.specs.Value.{Value}
use Rattle.ber_forms.specs.Form.{Form, opaque, elements}
use Rattle.pdu_names.specs.Kinds.{Kind, unsigned32, context, sequence, required, any_more}

-- an unconfirmed PDU, a cancel-Response and a cancel-Error: whatever their contents
abbrev pub unconfirmed_form : Form
unconfirmed_form = opaque true

abbrev pub heard_cancel_form : Form
heard_cancel_form = opaque false

abbrev pub heard_cancel_error_form : Form
heard_cancel_error_form = opaque true

-- a confirmed-Error: the invokeID, and then any elements
abbrev pub heard_error : Kind ℕ
heard_error = sequence (required (context 0 unsigned32) (λ n. n) any_more) (λ n. n) (λ n. refl)

-- a reject: any elements
abbrev pub heard_reject_form : Form
heard_reject_form = elements

-- the invokeID of a reject: the one that it says where it is read as a confirmed-Error is, and none where it isn't
abbrev pub answered : Result Value Fault → Option ℕ
answered (Ok v) = Some (heard_error.said v)
answered (Err e) = None
