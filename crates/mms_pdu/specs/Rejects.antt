-- How a refusal is told to the client (ISO 9506-2, RejectPDU).
use Rattle.std.specs.Prelude.{Some, None, Result, Ok, Err}
use Rattle.mms_types.specs.declared.memory.Memory.{Memory}
use Rattle.mms_types.specs.Wanting.{wanting}
use Rattle.mms_types.specs.declared.pdu.Reject.{Reject}
use Rattle.mms_types.specs.declared.pdu.RejectReason.TheVariants as reason
use Rattle.mms_pdu.specs.declared.refusal.Refusal.{Refusal}
use Rattle.mms_pdu.specs.declared.refusal.Refusal.TheVariants as refusal

-- the reject, with the invokeID of the request that is refused; want of memory is told to nobody
abbrev pub reject_of : Refusal → Result Reject Memory
reject_of refusal.InvalidPdu = Ok (record { invoke = None; reason = reason.InvalidPdu })
reject_of refusal.UnknownType = Ok (record { invoke = None; reason = reason.UnknownPduType })
reject_of (refusal.Modifier invoke) = Ok (record { invoke = Some invoke; reason = reason.UnrecognizedModifier })
reject_of (refusal.Service invoke) = Ok (record { invoke = Some invoke; reason = reason.UnrecognizedService })
reject_of (refusal.Recursion invoke) = Ok (record { invoke = Some invoke; reason = reason.MaxRecursionExceeded })
reject_of (refusal.Argument invoke) = Ok (record { invoke = Some invoke; reason = reason.InvalidArgument })
reject_of refusal.Memory = Err wanting
