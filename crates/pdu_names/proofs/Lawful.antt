-- A form that is sound, whose views fit it and tell what they are of, is lawful.
use Rattle.std.proofs.Common.{◌≡◌, ℕ, ◌<◌, sym, ap, ◌∙◌}
use Rattle.std.specs.Prelude.{IsTrue}
use Rattle.std.proofs.lemmas.Bool.{lt-ltb}
use Rattle.ber_forms.specs.Value.{Value}
use Rattle.ber_forms.specs.Form.{Form, tagged}
use Rattle.ber_forms.specs.Fits.{Fits, is_sound, sound_member}
use Rattle.ber_forms.proofs.Spelled.{form_spelled}
use Rattle.ber_forms.proofs.Again.{spelled_says, one_spelling, no_other_member}
pub use Rattle.pdu_names.specs.AgainLaws.{if_given_again, each_given_again}
use Rattle.pdu_names.specs.Spells.{Spells}

member_sound : (class n : ℕ) (f : Form) → class < 4 → n < 16384 → IsTrue (is_sound f) → IsTrue (sound_member (tagged class n f))
member_sound class n f low few told = rw (lt-ltb class 4 low, lt-ltb n 16384 few) told

-- by an inverse of the view
pub lawful : {X : Type 0} (f : Form) (view : X → Value) (InRange : X → Type 0) → IsTrue (is_sound f) → ((x : X) → InRange x → Fits f (view x))
    → (back : Value → X) → ((x : X) → back (view x) ≡ x) → Spells f view InRange
lawful f view InRange sound fits back again = record {
  fits = fits;
  says = λ lengths x h room. form_spelled lengths f (view x) sound (fits x h) room;
  only = λ lengths x y h room e. told x y (spelled_says lengths f (view x) (view y) sound (fits x h) room e);
  one = λ x y h k room e. told x y (one_spelling f (view x) (view y) sound (fits x h) (fits y k) room e);
  whole = λ class n x y a b low few h k room space e.
      let is = member_sound class n f low few sound in
      no_other_member (tagged class n f) (tagged class n f) (view x) (view y) a b is is (fits x h) (fits y k) room space e;
}
  where
    told : (x y : _) → view x ≡ view y → x ≡ y
    told x y e = sym (again x) ∙ ap back e ∙ again y
