-- Which PDUs of a client are read without memory: all but confirmed requests and confirmed responses, whose names and octets are copied.
use Rattle.std.specs.Prelude.{◌≢◌, ℕ, Bool, true, ◌||◌, not, List, Result, Ok, Err, IfErr}
use Rattle.ber_core.specs.declared.element.Tag.{Tag}
use Rattle.ber_core.specs.declared.element.Lengths.{Lengths}
use Rattle.ber_core.specs.Part.{Part}
use Rattle.ber_forms.specs.Fault.{Fault}
use Rattle.ber_forms.specs.Reading.{is_tag}
use Rattle.mms_pdu.specs.declared.refusal.Refusal.{Refusal}
use Rattle.mms_pdu.specs.declared.refusal.Refusal.TheVariants as refusal
use Rattle.mms_pdu.specs.Hearing.{sole_part}

-- the tag is that of a confirmed request or a confirmed response
abbrev pub is_copied : Tag → Bool
is_copied t = is_tag 2 true 0 t || is_tag 2 true 1 t

-- it is no element, or one of another tag
abbrev pub needs_no_copy : Result Part Fault → Bool
needs_no_copy (Ok p) = not (is_copied p.tag)
needs_no_copy (Err e) = true

-- nothing of these octets is copied, whatever they are
abbrev pub copies_nothing : Lengths → List ℕ → Bool
copies_nothing lengths octets = needs_no_copy (sole_part lengths octets)

-- what was read is told, or why it is refused, and not that memory was wanting
abbrev pub NoMemoryWanting : {X : Type 0} → Result X Refusal → Type 0
NoMemoryWanting result = IfErr result (λ e. e ≢ refusal.Memory)
