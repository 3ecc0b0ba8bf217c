-- Worked examples of the words of `stress`.
use Rattle.std.specs.Prelude.{◌≡◌, [], ◌∷◌, Some, None, codes}
use Rattle.std.proofs.Common.{refl}
use Rattle.cell_words.specs.declared.words.Command.TheVariants.{Stress}
use Rattle.cell_words.specs.Words.{command_of}

-- in any order, in either spelling, with leading zeros
in_order : command_of (codes "stress" ∷ codes "--seed" ∷ codes "1" ∷ codes "--clients" ∷ codes "2" ∷ codes "--rounds" ∷ codes "3" ∷ codes "--workers" ∷ codes "4" ∷ []) ≡ Some (Stress 1 2 3 4)
in_order = refl

joined : command_of (codes "stress" ∷ codes "--workers=16" ∷ codes "--rounds=1000" ∷ codes "--clients" ∷ codes "00000000000000000064" ∷ codes "--seed=18446744073709551615" ∷ []) ≡ Some (Stress 18446744073709551615 64 1000 16)
joined = refl

-- one more, one less, one twice, a number too great, a sign, and options before the form's word
a_fifth : command_of (codes "stress" ∷ codes "--seed=1" ∷ codes "--clients=2" ∷ codes "--rounds=3" ∷ codes "--workers=4" ∷ codes "--gate=5" ∷ []) ≡ None
a_fifth = refl

three : command_of (codes "stress" ∷ codes "--seed=1" ∷ codes "--clients=2" ∷ codes "--rounds=3" ∷ []) ≡ None
three = refl

twice : command_of (codes "stress" ∷ codes "--seed=1" ∷ codes "--clients=2" ∷ codes "--rounds=3" ∷ codes "--seed" ∷ codes "1" ∷ []) ≡ None
twice = refl

too_great : command_of (codes "stress" ∷ codes "--seed=18446744073709551616" ∷ codes "--clients=2" ∷ codes "--rounds=3" ∷ codes "--workers=4" ∷ []) ≡ None
too_great = refl

a_sign : command_of (codes "stress" ∷ codes "--seed=+1" ∷ codes "--clients=2" ∷ codes "--rounds=3" ∷ codes "--workers=4" ∷ []) ≡ None
a_sign = refl

before : command_of (codes "--seed=1" ∷ codes "stress" ∷ codes "--clients=2" ∷ codes "--rounds=3" ∷ codes "--workers=4" ∷ []) ≡ None
before = refl

-- the last option has no text, and the text of the first is an option
open_end : command_of (codes "stress" ∷ codes "--seed=1" ∷ codes "--clients=2" ∷ codes "--rounds=3" ∷ codes "--workers" ∷ []) ≡ None
open_end = refl

option_as_text : command_of (codes "stress" ∷ codes "--seed" ∷ codes "--clients=2" ∷ codes "--clients=2" ∷ codes "--rounds=3" ∷ codes "--workers=4" ∷ []) ≡ None
option_as_text = refl
