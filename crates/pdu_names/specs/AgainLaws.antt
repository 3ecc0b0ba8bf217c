-- What a view says is said back: of a component that may be missing, and of a list.
use Rattle.std.specs.Prelude.{◌≡◌, Option, Some, None, List, [], ◌∷◌, map}
use Rattle.std.proofs.Common.{refl, ap, ap₂}
use Rattle.ber_forms.specs.Value.{Value, optionally, all_of}
use Rattle.pdu_names.specs.Said.{if_given, each_given}

-- a component that may be missing, turned round
pub if_given_again : {X : Type 0} (view : X → Value) (back : Value → X) → ((x : X) → back (view x) ≡ x) → (o : Option X) → if_given back (optionally view o) ≡ o
if_given_again view back again None = refl
if_given_again {X} view back again (Some x) = ap (λ (y : X). Some y) (again x)

-- the members of a list, turned round
pub each_given_again : {X : Type 0} (view : X → Value) (back : Value → X) → ((x : X) → back (view x) ≡ x) → (xs : List X) → each_given back (all_of (map view xs)) ≡ xs
each_given_again view back again [] = refl
each_given_again {X} view back again (x ∷ xs) = ap₂ (λ (y : X) (ys : List X). y ∷ ys) (again x) (each_given_again view back again xs)
