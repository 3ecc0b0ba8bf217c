-- Alternatives by their numbers.
use Rattle.std.specs.Prelude.{ℕ, Bool, true, false, not, ◌&&◌, Option, Some, None, Result, Ok, Err, ◌==◌, if◌then◌else◌}
use Rattle.ber_core.specs.declared.element.Lengths.{Lengths}
use Rattle.ber_core.specs.Part.{Part}
use Rattle.ber_forms.specs.Fault.{Fault}
use Rattle.ber_forms.specs.Fault as fault
use Rattle.ber_forms.specs.Value.{Value, chosen}
use Rattle.ber_forms.specs.Form.{Form, Alternatives, no_other, or}
use Rattle.ber_forms.specs.Reading.{◌>>=◌, is_tag, is_constructed, reading}

-- one of them has this number
abbrev pub has_number : Alternatives → ℕ → Bool
has_number no_other k = false
has_number (or n f others) k = if k == n then true else has_number others k

-- no number stands twice
abbrev pub are_distinct : Alternatives → Bool
are_distinct no_other = true
are_distinct (or n f others) = not (has_number others n) && are_distinct others

-- the form under this number
abbrev pub form_at : ℕ → Alternatives → Option Form
form_at k no_other = None
form_at k (or n f others) = if k == n then Some f else form_at k others

-- the element as one of that form under its own number
abbrev pub read_as : Lengths → Part → Option Form → Result Value Fault
read_as lengths p None = Err fault.malformed
read_as lengths p (Some f) =
    if is_tag 2 (is_constructed f) p.tag.number p.tag then (reading lengths f p.contents >>= λ v. Ok (chosen p.tag.number v))
    else Err fault.malformed
