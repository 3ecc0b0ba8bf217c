-- What holds of a form that is read and written.
use Rattle.std.specs.Prelude.{◌≡◌, ℕ, ◌<◌, ◌^◌, List, ◌++◌, length}
use Rattle.ber_core.specs.declared.element.Lengths.{Lengths}
use Rattle.ber_forms.specs.Value.{Value}
use Rattle.ber_forms.specs.Form.{Form, tagged}
use Rattle.ber_forms.specs.InForm.{InForm}
use Rattle.ber_forms.specs.Spelling.{spelling, member_octets}
use Rattle.ber_forms.specs.Fits.{Fits}

-- The values in range, by their views, have a spelling of the form that says them and no other, and two of one spelling are one.
-- No element that holds a spelling begins another. A spelling is as long as a length can announce.
pub record Spells {X : Type 0} (f : Form) (view : X → Value) (InRange : X → Type 0) : Type 0 where
  pub fits : (x : X) → InRange x → Fits f (view x)
  pub says : (lengths : Lengths) (x : X) → InRange x → length (spelling f (view x)) < 2 ^ 64 → InForm lengths f (spelling f (view x)) (view x)
  pub only : (lengths : Lengths) (x y : X) → InRange x → length (spelling f (view x)) < 2 ^ 64 → InForm lengths f (spelling f (view x)) (view y) → x ≡ y
  pub one : (x y : X) → InRange x → InRange y → length (spelling f (view x)) < 2 ^ 64 → spelling f (view x) ≡ spelling f (view y) → x ≡ y
  pub whole : (class n : ℕ) (x y : X) (a b : List ℕ) → class < 4 → n < 16384 → InRange x → InRange y
      → length (member_octets (tagged class n f) (view x)) < 2 ^ 64 → length (member_octets (tagged class n f) (view y)) < 2 ^ 64
      → member_octets (tagged class n f) (view x) ++ a ≡ member_octets (tagged class n f) (view y) ++ b
      → member_octets (tagged class n f) (view x) ≡ member_octets (tagged class n f) (view y)
