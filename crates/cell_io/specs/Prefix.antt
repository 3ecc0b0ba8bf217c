-- What a sink may have taken of a text.
use Rattle.std.specs.Prelude.{◌≡◌, ℕ, List, ◌++◌}
use Rattle.std.specs.Io.KnownBytes.{Appends}
use Rattle.std.specs.declared.option.Option.{Option}

-- known bytes stay at the front, and a prefix of the text follows
pub record AppendsPrefix (old new : Option (List ℕ)) (text : List ℕ) : Type 0 where
  pub written : List ℕ
  pub rest : List ℕ
  pub appended : Appends old new written
  pub parts : text ≡ written ++ rest

-- known bytes stay at the front, and the text follows up to what waits, which is its end
pub record AppendsBefore (old new : Option (List ℕ)) (waiting text : List ℕ) : Type 0 where
  pub written : List ℕ
  pub appended : Appends old new written
  pub parts : text ≡ written ++ waiting
