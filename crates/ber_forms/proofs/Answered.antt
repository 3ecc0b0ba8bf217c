-- What a reader answers where its reading is the form's, in the words of the form.
use Rattle.std.proofs.Common.{◌≡◌, ℕ, inl, inr, List, Result, Ok, Err, refl, sym, ◌∙◌}
use Rattle.ber_core.specs.declared.element.Lengths.{Lengths}
use Rattle.ber_core.proofs.Definites.{IsBytes}
use Rattle.ber_forms.specs.declared.unread.Unread.{Unread}
use Rattle.ber_forms.specs.declared.unread.Unread.TheVariants as unread
use Rattle.ber_forms.specs.Fault.{Fault}
use Rattle.ber_forms.specs.Fault as fault
use Rattle.ber_forms.specs.Value.{Value}
use Rattle.ber_forms.specs.Form.{Form}
use Rattle.ber_forms.specs.Reading.{Gives, reading}
use Rattle.ber_forms.specs.Reads.{IsMalformed, Reads}
use Rattle.ber_forms.specs.InForm.{InForm}
use Rattle.ber_forms.proofs.Sound.{fine_is, reading_sound}
use Rattle.ber_forms.proofs.Complete.{reading_complete}
use Rattle.ber_forms.proofs.Deep.{reading_deep}
use Rattle.ber_forms.proofs.DeepAgain.{deep_again}

-- a reading is one of three
not_both : {P : Type 0} (r : Result Value Fault) (v : Value) (e : Fault) → r ≡ Ok v → r ≡ Err e → P
not_both r v e a b = absurd (cc (a, b))

not_two : {P : Type 0} (r : Result Value Fault) → r ≡ Err fault.malformed → r ≡ Err fault.too_deep → P
not_two r a b = absurd (cc (a, b))

pub one_value : (lengths : Lengths) (f : Form) (c : List ℕ) (v w : Value) → InForm lengths f c v → InForm lengths f c w → v ≡ w
one_value lengths f c v w a b = fine_is v w (sym (reading_complete lengths f c v a) ∙ reading_complete lengths f c w b)

pub malformed_read : (lengths : Lengths) (f : Form) (c : List ℕ) → reading lengths f c ≡ Err fault.malformed → IsMalformed lengths f c
malformed_read lengths f c e =
    (λ v h. not_both (reading lengths f c) v fault.malformed (reading_complete lengths f c v h) e, λ h. not_two (reading lengths f c) e (deep_again lengths f c h))

pub malformed_only : (lengths : Lengths) (f : Form) (c : List ℕ) → IsBytes c → IsMalformed lengths f c → reading lengths f c ≡ Err fault.malformed
malformed_only lengths f c fits h = by_reading (reading lengths f c) refl
  where
    by_reading : (r : Result Value Fault) → reading lengths f c ≡ r → r ≡ Err fault.malformed
    by_reading (Ok v) e = absurd (h.0 v (reading_sound lengths f c v fits e))
    by_reading (Err fault.malformed) e = refl
    by_reading (Err fault.too_deep) e = absurd (h.1 (reading_deep lengths f c fits e))

-- A reader whose answer is the form's reading reads the form.
pub reads : {X : Type 0} (lengths : Lengths) (f : Form) (view : X → Value) (c : List ℕ) (result : Result X Unread) → IsBytes c → Gives view result (reading lengths f c) → Reads lengths f view c result
reads lengths f view c (Ok x) fits g = record {
  found = reading_sound lengths f c (view x) fits g;
  only = λ v h. fine_is (view x) v (sym g ∙ reading_complete lengths f c v h);
  malformed = λ e. absurd cc;
  malformed_only = λ h. not_both (reading lengths f c) (view x) fault.malformed g (malformed_only lengths f c fits h);
  too_deep = λ e. absurd cc;
  too_deep_only = λ h. not_both (reading lengths f c) (view x) fault.too_deep g (deep_again lengths f c h);
}
reads lengths f view c (Err unread.Malformed) fits g = record {
  found = tt;
  only = λ v h. not_both (reading lengths f c) v fault.malformed (reading_complete lengths f c v h) g;
  malformed = λ e. malformed_read lengths f c g;
  malformed_only = λ h. inl refl;
  too_deep = λ e. absurd cc;
  too_deep_only = λ h. not_two (reading lengths f c) g (deep_again lengths f c h);
}
reads lengths f view c (Err unread.TooDeep) fits g = record {
  found = tt;
  only = λ v h. not_both (reading lengths f c) v fault.too_deep (reading_complete lengths f c v h) g;
  malformed = λ e. absurd cc;
  malformed_only = λ h. not_two (reading lengths f c) (malformed_only lengths f c fits h) g;
  too_deep = λ e. reading_deep lengths f c fits g;
  too_deep_only = λ h. inl refl;
}
reads lengths f view c (Err unread.Memory) fits g = record {
  found = tt;
  only = λ v h. refl;
  malformed = λ e. absurd cc;
  malformed_only = λ h. inr refl;
  too_deep = λ e. absurd cc;
  too_deep_only = λ h. inr refl;
}
