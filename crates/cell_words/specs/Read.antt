-- The options of the words, as they are read without memory.
use Rattle.std.specs.Prelude.{◌≡◌, ℕ, List, [], ◌∷◌, Option, Some, None, String, length}
use Rattle.std.specs.Borrow.{Bor}
use Rattle.std.specs.Global.{Global}
use Rattle.cell_words.specs.Words.{Given as Pair, Text, options_in, texts, with_option}
use Rattle.cell_words.specs.declared.options.Given.{Given}

-- the option as the definitions have it
abbrev pub given : Given → Pair
given option = (option.name.now, option.text.now)

-- the words have no first option
abbrev pub HaveNone : List Text → Type 0
HaveNone words = (option : Pair) (more : List Pair) → ¬ (options_in words ≡ Some (option ∷ more))

-- the first option, and the words behind it
abbrev pub BeginsWith : List Text → Option (Given × Bor (List (String Global))) → Type 0
BeginsWith words None = HaveNone words
BeginsWith words (Some p) = options_in words ≡ with_option (given p.0) (options_in (texts p.1.now))

-- the words are no options, or not n
abbrev pub AreNot : ℕ → List Text → Type 0
AreNot n words = (options : List Pair) → options_in words ≡ Some options → ¬ (length options ≡ n)

-- the option that the words are, and none besides
abbrev pub AreOne : List Text → Option Given → Type 0
AreOne words None = AreNot 1 words
AreOne words (Some option) = options_in words ≡ Some (given option ∷ [])

-- the four options that the words are
abbrev pub AreFour : List Text → Option (Given × Given × Given × Given) → Type 0
AreFour words None = AreNot 4 words
AreFour words (Some four) = options_in words ≡ Some (given four.0 ∷ given four.1 ∷ given four.2 ∷ given four.3 ∷ [])
