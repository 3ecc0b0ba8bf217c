-- The PDUs by which a client asks: what they say is kept whole.
use Rattle.mms_types.specs.declared.identifier.Edition.{Edition}
use Rattle.mms_types.specs.declared.pdu.Pdu.{Pdu}
use Rattle.mms_types.specs.declared.pdu.Pdu.TheVariants as pdu
use Rattle.pdu_names.specs.Kinds.{IsOf, unsigned32}
use Rattle.pdu_assoc.specs.Initiate.{initiate}
use Rattle.mms_pdu.specs.Pdus.{asked}

-- a client's confirmed-Request without modifiers, cancel-Request, initiate-Request and conclude-Request, of their forms in the edition
abbrev pub IsAsking : Edition → Pdu → Type 0
IsAsking edition (pdu.ConfirmedRequest invoke request) = IsOf asked edition (invoke, request)
IsAsking edition (pdu.CancelRequest invoke) = IsOf unsigned32 edition invoke
IsAsking edition (pdu.InitiateRequest proposal) = IsOf initiate edition proposal
IsAsking edition pdu.ConcludeRequest = Unit {0}
IsAsking edition p = ⊥
