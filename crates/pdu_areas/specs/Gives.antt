-- What an area's readers and writers answer.
use Rattle.std.specs.Prelude.{ℕ, List, [], Option, Some, None, option_map, Result, Ok}
use Rattle.ber_core.specs.declared.element.Lengths.{Lengths}
use Rattle.ber_core.specs.Part.{Part}
use Rattle.ber_forms.specs.declared.unread.Unread.{Unread}
use Rattle.ber_forms.specs.Fault.{Fault}
use Rattle.ber_forms.specs.Value.{Value}
use Rattle.ber_forms.specs.Form.{Form, Alternatives}
use Rattle.ber_forms.specs.ByNumber.{form_at, read_as}
use Rattle.ber_forms.specs.Reading.{◌>>=◌, Gives}
use Rattle.ber_forms.specs.Spelling.{alternative_octets}
use Rattle.mms_types.specs.declared.identifier.Edition.{Edition}
use Rattle.pdu_names.specs.Editions.{lengths_of}
use Rattle.pdu_areas.specs.Services.{forms_of}
use Rattle.pdu_areas.specs.Joined.{Share}

-- the element by the form under its number, and None where there is no such form
abbrev pub read_under : Lengths → Part → Option Form → Result (Option (Option Value)) Fault
read_under lengths p None = Ok None
read_under lengths p (Some f) = read_as lengths p (Some f) >>= λ v. Ok (Some (Some v))

-- what the element says under its number, and None where the share has no such number, unless memory runs out
abbrev pub GivesUnder : {R : Type 0} → Share R → Edition → Part → Result (Option R) Unread → Type 0
GivesUnder share edition p result =
    Gives (option_map share.value) result (read_under (lengths_of edition) p (form_at p.tag.number (forms_of share.arms edition)))

-- the spelling of what is said, and nothing where nothing is
abbrev pub octets_if : Alternatives → Option Value → List ℕ
octets_if others None = []
octets_if others (Some v) = alternative_octets others v
