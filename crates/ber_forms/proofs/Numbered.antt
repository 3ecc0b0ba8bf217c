-- The alternative of a number is the one that is read.
use Rattle.std.proofs.Common.{◌≡◌, ℕ, Bool, true, false, cond, eqb, Some, Err, refl, sym, ap, subst, ◌∙◌, arith}
use Rattle.std.proofs.lemmas.Bool.{eqb-true, eqb-false}
use Rattle.std.specs.Prelude.{not, ◌&&◌, IsTrue, nat_lt}
use Rattle.ber_core.specs.declared.element.Tag.{Tag}
use Rattle.ber_core.specs.declared.element.Lengths.{Lengths}
use Rattle.ber_core.specs.Part.{Part}
use Rattle.ber_forms.specs.Fault as fault
use Rattle.ber_forms.specs.Form.{Form, Alternatives, no_other, or}
use Rattle.ber_forms.specs.Reading.{is_tag, is_constructed, alternatives}
use Rattle.ber_forms.specs.ByNumber.{form_at, has_number, are_distinct, read_as}
use Rattle.ber_forms.specs.Fits.{sound_alternatives, is_sound}

pub tag_class : (b : Bool) (n : ℕ) (t : Tag) → is_tag 2 b n t ≡ true → (t.class ≡ 2) × (t.number ≡ n)
tag_class b n t e = by_class (eqb t.class 2) (eqb t.number n) refl refl
  where
    by_class : (x y : Bool) → eqb t.class 2 ≡ x → eqb t.number n ≡ y → (t.class ≡ 2) × (t.number ≡ n)
    by_class true true f g = (eqb-true t.class 2 f, eqb-true t.number n g)
    by_class false y f g = absurd (grind (arith, e, f))
    by_class true false f g = absurd (grind (arith, e, f, g))

pub other_number : (b : Bool) (n : ℕ) (t : Tag) → (t.number ≡ n → ⊥) → is_tag 2 b n t ≡ false
other_number b n t ne = by_tag (is_tag 2 b n t) refl
  where
    by_tag : (x : Bool) → is_tag 2 b n t ≡ x → is_tag 2 b n t ≡ false
    by_tag true e = absurd (ne (tag_class b n t e).1)
    by_tag false e = e

both : (a b : Bool) → a && b ≡ true → (a ≡ true) × (b ≡ true)
both true b e = (refl, e)
both false b e = absurd cc

-- sound alternatives have distinct numbers
pub sound_distinct : (others : Alternatives) → IsTrue (sound_alternatives others) → IsTrue (are_distinct others)
sound_distinct no_other told = refl
sound_distinct (or n f others) told =
    let t = both (nat_lt n 16384 && is_sound f && sound_alternatives others) (not (has_number others n)) told in
    let u = both (nat_lt n 16384 && is_sound f) (sound_alternatives others) t.0 in
    rw t.1 (sound_distinct others u.1)

module _ (l : Lengths) (p : Part) where
  absent : (others : Alternatives) → has_number others p.tag.number ≡ false → alternatives l others p ≡ Err fault.malformed
  absent no_other e = refl
  absent (or n f others) e = by_cases (eqb p.tag.number n) refl (absent others)
    where
      by_cases : (b : Bool) → eqb p.tag.number n ≡ b → (has_number others p.tag.number ≡ false → alternatives l others p ≡ Err fault.malformed) → alternatives l (or n f others) p ≡ Err fault.malformed
      by_cases true g later = absurd (cc (sym (ap (λ (b : Bool). cond b true (has_number others p.tag.number)) g) ∙ e))
      by_cases false g later = rw (other_number (is_constructed f) n p.tag (eqb-false p.tag.number n g)) (later (sym (ap (λ (b : Bool). cond b true (has_number others p.tag.number)) g) ∙ e))

  here : (n : ℕ) (f : Form) (others : Alternatives) → p.tag.number ≡ n → has_number others n ≡ false → alternatives l (or n f others) p ≡ read_as l p (Some f)
  here n f others is alone = subst (λ (k : ℕ). alternatives l (or k f others) p ≡ read_as l p (Some f)) is (by_tag (is_tag 2 (is_constructed f) p.tag.number p.tag) refl)
    where
      none : alternatives l others p ≡ Err fault.malformed
      none = absent others (ap (has_number others) is ∙ alone)

      by_tag : (b : Bool) → is_tag 2 (is_constructed f) p.tag.number p.tag ≡ b → alternatives l (or p.tag.number f others) p ≡ read_as l p (Some f)
      by_tag true g = rw g refl
      by_tag false g = rw g none

  pub by_number : (others : Alternatives) → IsTrue (are_distinct others) → alternatives l others p ≡ read_as l p (form_at p.tag.number others)
  by_number no_other told = refl
  by_number (or n f others) told = by_cases (eqb p.tag.number n) (has_number others n) refl refl (by_number others)
    where
      by_cases : (b d : Bool) → eqb p.tag.number n ≡ b → has_number others n ≡ d → (IsTrue (are_distinct others) → alternatives l others p ≡ read_as l p (form_at p.tag.number others))
          → alternatives l (or n f others) p ≡ read_as l p (form_at p.tag.number (or n f others))
      by_cases b true g h later = absurd (cc (sym (ap (λ (d : Bool). not d && are_distinct others) h) ∙ told))
      by_cases true false g h later = here n f others (eqb-true p.tag.number n g) h ∙ sym (ap (λ (b : Bool). read_as l p (cond b (Some f) (form_at p.tag.number others))) g)
      by_cases false false g h later =
          let rest : IsTrue (are_distinct others) = sym (ap (λ (d : Bool). not d && are_distinct others) h) ∙ told in
          let other = other_number (is_constructed f) n p.tag (eqb-false p.tag.number n g) in
          rw other (later rest) ∙ sym (ap (λ (b : Bool). read_as l p (cond b (Some f) (form_at p.tag.number others))) g)
