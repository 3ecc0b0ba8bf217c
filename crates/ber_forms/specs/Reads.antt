-- What a reader of a form answers.
use Rattle.std.specs.Prelude.{◌≡◌, ◌≢◌, ℕ, ◌⊎◌, List, Result, Ok, Err, IfOk, IfErr}
use Rattle.ber_core.specs.declared.element.Lengths.{Lengths}
use Rattle.ber_forms.specs.declared.unread.Unread.{Unread}
use Rattle.ber_forms.specs.declared.unread.Unread.TheVariants.{Malformed, TooDeep, Memory}
use Rattle.ber_forms.specs.Value.{Value}
use Rattle.ber_forms.specs.Form.{Form}
use Rattle.ber_forms.specs.InForm.{InForm}
use Rattle.ber_forms.specs.TooDeep.{IsTooDeep}

-- the contents are of the form in no way, and not too deep
abbrev pub IsMalformed : Lengths → Form → List ℕ → Type 0
IsMalformed lengths f c = ((v : Value) → InForm lengths f c v → ⊥) × (IsTooDeep lengths f c → ⊥)

-- the error, or want of memory
abbrev pub FailsBy : {X : Type 0} → Unread → Result X Unread → Type 0
FailsBy e result = (result ≡ Err e) ⊎ (result ≡ Err Memory)

-- the value, or want of memory
abbrev pub SeenAs : {X : Type 0} → (X → Value) → Value → Result X Unread → Type 0
SeenAs view v (Ok x) = view x ≡ v
SeenAs view v (Err e) = e ≡ Memory

-- the answer is not want of memory
abbrev pub NeedsNoMemory : {X : Type 0} → Result X Unread → Type 0
NeedsNoMemory result = IfErr result (λ e. e ≢ Memory)

-- Unless memory runs out, the answer is the value that the contents say exactly where they are of the form, TooDeep
-- exactly where they are too deep, and Malformed exactly where they are neither.
pub record Reads {X : Type 0} (lengths : Lengths) (f : Form) (view : X → Value) (c : List ℕ) (result : Result X Unread) : Type 0 where
  pub found : IfOk result (λ x. InForm lengths f c (view x))
  pub only : (v : Value) → InForm lengths f c v → SeenAs view v result
  pub malformed : result ≡ Err Malformed → IsMalformed lengths f c
  pub malformed_only : IsMalformed lengths f c → FailsBy Malformed result
  pub too_deep : result ≡ Err TooDeep → IsTooDeep lengths f c
  pub too_deep_only : IsTooDeep lengths f c → FailsBy TooDeep result
