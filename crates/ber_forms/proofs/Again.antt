-- What was spelled is read again.
use Rattle.std.proofs.Common.{◌≡◌, ℕ, ◌^◌, ◌<◌, List, ◌++◌, length, sym, subst}
use Rattle.std.specs.Prelude.{IsTrue}
use Rattle.ber_core.specs.declared.element.Lengths.{Lengths}
use Rattle.ber_core.specs.declared.element.Lengths.TheVariants.{Definite}
use Rattle.ber_core.proofs.Elements.{one_element}
use Rattle.ber_forms.specs.Value.{Value}
use Rattle.ber_forms.specs.Form.{Form, Member}
use Rattle.ber_forms.specs.InForm.{InForm}
use Rattle.ber_forms.specs.Spelling.{spelling, member_octets}
use Rattle.ber_forms.specs.Fits.{is_sound, sound_member, Fits, FitsMember}
use Rattle.ber_forms.proofs.Spelled.{form_spelled, member_spelled}
use Rattle.ber_forms.proofs.Answered.{one_value}

-- Contents that spell a value say that value alone.
pub spelled_says : (lengths : Lengths) (f : Form) (v w : Value) → IsTrue (is_sound f) → Fits f v → length (spelling f v) < 2 ^ 64 → InForm lengths f (spelling f v) w → v ≡ w
spelled_says lengths f v w told fits room h = one_value lengths f (spelling f v) v w (form_spelled lengths f v told fits room) h

pub one_spelling : (f : Form) (v w : Value) → IsTrue (is_sound f) → Fits f v → Fits f w → length (spelling f v) < 2 ^ 64 → spelling f v ≡ spelling f w → v ≡ w
one_spelling f v w told fits also room e =
    spelled_says Definite f v w told fits room
    (subst (λ (o : List ℕ). InForm Definite f o w) (sym e) (form_spelled Definite f w told also (subst (λ (o : List ℕ). length o < 2 ^ 64) e room)))

pub no_other_member : (m n : Member) (v w : Value) (x y : List ℕ) → IsTrue (sound_member m) → IsTrue (sound_member n) → FitsMember m v → FitsMember n w
    → length (member_octets m v) < 2 ^ 64 → length (member_octets n w) < 2 ^ 64 → member_octets m v ++ x ≡ member_octets n w ++ y → member_octets m v ≡ member_octets n w
no_other_member m n v w x y told also fits suits room space e =
    let a = member_spelled Definite m v told fits room in
    let b = member_spelled Definite n w also suits space in
    (one_element Definite (member_octets m v) (member_octets n w) x y a.part b.part a.is b.is e).0
