-- Lists of texts (ISO 9506-2, MMSString).
use Rattle.std.specs.Prelude.{ℕ, ◌&&◌, nat_le, Bool, List, length}
use Rattle.ber_forms.specs.Form.{any_number, from_to, are_visible}
use Rattle.pdu_names.specs.Kinds.{Kind, octets, visible_string, universal, list_of}

-- texts one after the other, each a VisibleString
abbrev pub texts : Kind (List (List ℕ))
texts = list_of any_number (universal 26 visible_string)

abbrev pub is_capability : List ℕ → Bool
is_capability text = are_visible text && nat_le (length text) 64

-- a VisibleString of at most 64 octets (this profile's choice)
abbrev pub capability : Kind (List ℕ)
capability = octets is_capability

-- at most 16 of them (this profile's choice)
abbrev pub capabilities : Kind (List (List ℕ))
capabilities = list_of (from_to 0 16) (universal 26 capability)
