-- Which octets answer a confirmed request, and the PDUs that a server sends (ISO 9506-2, MMSpdu).
use Rattle.std.specs.Prelude.{◌≡◌, ◌⊎◌, ℕ, pos, ◌<◌, ◌^◌, Bool, true, false, ◌==◌, List, ◌++◌}
use Rattle.ber_core.specs.declared.element.Tag.{Tag}
use Rattle.ber_core.specs.Spelling.{integer_octets, element_octets}
use Rattle.mms_types.specs.declared.identifier.Edition.{Edition}
use Rattle.mms_types.specs.declared.pdu.Pdu.{Pdu}
use Rattle.mms_types.specs.declared.pdu.Pdu.TheVariants as pdu
use Rattle.pdu_names.specs.Kinds.{IsOf, unsigned32}
use Rattle.pdu_assoc.specs.Initiate.{initiate_answer}
use Rattle.pdu_assoc.specs.Reject.{reject}
use Rattle.pdu_assoc.specs.ServiceErrors.{service_error, confirmed_error, cancel_error}
use Rattle.mms_pdu.specs.Pdus.{server_asked, responded, notified}

-- ---- octets that answer

-- the tag of INTEGER, and those of context class
abbrev pub integer_tag : Tag
integer_tag = record { class = 0; constructed = false; number = 2 }

abbrev pub primitive_tag : ℕ → Tag
primitive_tag n = record { class = 2; constructed = false; number = n }

abbrev pub constructed_tag : ℕ → Tag
constructed_tag n = record { class = 2; constructed = true; number = n }

-- an element whose first component is a number: each has its tag
abbrev pub FirstSays : Tag → Tag → ℕ → List ℕ → Type 0
FirstSays tag first n octets = (rest : List ℕ) × (octets ≡ element_octets tag (element_octets first (integer_octets (pos n)) ++ rest))

-- The octets answer the request of that invokeID, an Unsigned32: they are a confirmed-Response, [1], whose first
-- component is it, an INTEGER; or a confirmed-Error, [2], whose first component is it, under [0].
abbrev pub IsAnswer : ℕ → List ℕ → Type 0
IsAnswer invoke octets =
    (invoke < 2 ^ 32) × (FirstSays (constructed_tag 1) integer_tag invoke octets ⊎ FirstSays (constructed_tag 2) (primitive_tag 0) invoke octets)

-- ---- PDUs that do

-- a confirmed response or a confirmed error of that invokeID
abbrev pub is_answer : ℕ → Pdu → Bool
is_answer invoke (pdu.ConfirmedResponse other answer) = invoke == other
is_answer invoke (pdu.ConfirmedError error) = invoke == error.invoke
is_answer invoke p = false

-- the invokeID of an answer is an Unsigned32
abbrev pub HasUnsigned32 : Pdu → Type 0
HasUnsigned32 (pdu.ConfirmedResponse invoke answer) = invoke < 2 ^ 32
HasUnsigned32 (pdu.ConfirmedError error) = error.invoke < 2 ^ 32
HasUnsigned32 p = Unit {0}

-- ---- what a server sends

-- the PDUs that a server sends, of their forms in the edition
abbrev pub IsSent : Edition → Pdu → Type 0
IsSent edition (pdu.ServerRequest invoke request) = IsOf server_asked edition (invoke, request)
IsSent edition (pdu.ConfirmedResponse invoke answer) = IsOf responded edition (invoke, answer)
IsSent edition (pdu.ConfirmedError error) = IsOf confirmed_error edition error
IsSent edition (pdu.EventNotification x) = IsOf notified edition x
IsSent edition (pdu.Reject x) = IsOf reject edition x
IsSent edition (pdu.CancelResponse invoke) = IsOf unsigned32 edition invoke
IsSent edition (pdu.CancelError error) = IsOf cancel_error edition error
IsSent edition (pdu.InitiateResponse negotiated) = IsOf initiate_answer edition negotiated
IsSent edition (pdu.InitiateError error) = IsOf service_error edition error
IsSent edition pdu.ConcludeResponse = Unit {0}
IsSent edition (pdu.ConcludeError error) = IsOf service_error edition error
IsSent edition p = ⊥
