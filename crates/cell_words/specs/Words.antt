-- The words of the command (this profile's choice).
use Rattle.std.specs.Prelude.{◌&&◌, ◌||◌, ◌==◌, ◌++◌, ℕ, Bool, true, not, if◌then◌else◌, List, [], ◌∷◌, Option, Some, None, codes, find, length, map, nat_eq, nat_le, option_and_then, option_map}
use Rattle.std.specs.Prelude.{String}
use Rattle.std.specs.Global.{Global}
use Rattle.std.specs.List.{after_first, before_first, list_all, list_any, starts_with}
use Rattle.std.specs.Str.{bytes_eq}
use Rattle.std.specs.Str.Parse.{digits_value}
use Rattle.std.specs.String.{string_bytes}
use Rattle.cell_words.specs.declared.words.Command.{Command}
use Rattle.cell_words.specs.declared.words.Command.TheVariants.{Replay, Run, Stress}

-- a word, as its octets
abbrev pub Text : Type 0
Text = List ℕ

abbrev pub texts : List (String Global) → List Text
texts words = map (λ w. string_bytes w) words

abbrev pub is_digit : ℕ → Bool
is_digit octet = nat_le 48 octet && nat_le octet 57

-- a value is 1 to 20 decimal digits in range
abbrev pub is_value : ℕ → ℕ → Text → Bool
is_value least most text = list_all is_digit text && ((nat_le 1 (length text) && nat_le (length text) 20)
    && (nat_le least (digits_value 10 text) && nat_le (digits_value 10 text) most))

abbrev pub number_in : ℕ → ℕ → Text → Option ℕ
number_in least most text = if is_value least most text then Some (digits_value 10 text) else None

-- an option's name, with its hyphens, and its text
abbrev pub Given : Type 0
Given = Text × Text

abbrev pub is_equals : ℕ → Bool
is_equals octet = octet == 61

-- the word is `--name=text`, which is cut at its first equals sign
abbrev pub is_joined : Text → Bool
is_joined word = list_any is_equals word

abbrev pub joined : Text → Given
joined word = (before_first is_equals word, after_first is_equals word)

abbrev pub with_option : Given → Option (List Given) → Option (List Given)
with_option option more = option_map (λ options. option ∷ options) more

-- the options that the words are, each with its text: as `--name=text`, or as `--name text`
abbrev pub options_in : List Text → Option (List Given)
options_in [] = Some []
options_in (word ∷ []) = if is_joined word then Some (joined word ∷ []) else None
options_in (word ∷ text ∷ rest) = if is_joined word then with_option (joined word) (options_in (text ∷ rest))
    else with_option (word, text) (options_in rest)

-- the text that the option of this name has
abbrev pub text_of : Text → List Given → Option Text
text_of name options = option_map (λ option. option.1) (find (λ option. bytes_eq option.0 name) options)

-- `run --workers N`, where N is 1 to 16
abbrev pub run_with : Option Text → Option Command
run_with workers = option_map (λ n. Run n) (option_and_then (number_in 1 16) workers)

-- its option is given, and none besides
abbrev pub run_of : List Given → Option Command
run_of options = if length options == 1 then run_with (text_of (codes "--workers") options) else None

-- `stress --seed N --clients N --rounds N --workers N`: any seed below 2 ^ 64, 1 to 64 clients, 1 to 1,000 rounds and 1 to 16 workers
abbrev pub stress_with : Option Text → Option Text → Option Text → Option Text → Option Command
stress_with seed clients rounds workers =
    option_and_then (λ s. option_and_then (λ c. option_and_then (λ r. option_map (λ n. Stress s c r n)
    (option_and_then (number_in 1 16) workers))
    (option_and_then (number_in 1 1000) rounds))
    (option_and_then (number_in 1 64) clients))
    (option_and_then (number_in 0 18446744073709551615) seed)

-- its four options are given, in any order, each once and none besides
abbrev pub stress_of : List Given → Option Command
stress_of options = if length options == 4
    then stress_with (text_of (codes "--seed") options) (text_of (codes "--clients") options) (text_of (codes "--rounds") options) (text_of (codes "--workers") options)
    else None

-- `replay`
abbrev pub replay_of : List Text → Option Command
replay_of [] = Some Replay
replay_of _ = None

-- what the words ask for: the form's word, and its options behind it; anything else is usage
abbrev pub command_of : List Text → Option Command
command_of [] = None
command_of (form ∷ rest) = if bytes_eq (codes "replay") form then replay_of rest
    else (if bytes_eq (codes "run") form then option_and_then run_of (options_in rest)
    else (if bytes_eq (codes "stress") form then option_and_then stress_of (options_in rest) else None))

-- ---- the words that are refused before the parser is asked

-- the word is the option, or the option, an equals sign and a value
abbrev pub names : Text → Text → Bool
names option word = bytes_eq option word || starts_with nat_eq word (option ++ codes "=")

abbrev pub is_option : Text → Bool
is_option word = names (codes "--seed") word || (names (codes "--clients") word || (names (codes "--rounds") word || names (codes "--workers") word))

-- the word is empty, or begins with a hyphen and is no option
abbrev pub is_refused : Text → Bool
is_refused [] = true
is_refused (x ∷ xs) = (x == 45) && not (is_option (x ∷ xs))
