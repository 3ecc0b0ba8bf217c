-- How the program ends (this profile's choice).
use Rattle.std.specs.Prelude.{◌≡◌, ℕ, Option, None}
use Rattle.cell_words.specs.Words.{command_of, texts}
use Rattle.cell_words.specs.declared.words.Command.{Command}
use Rattle.cell_run.specs.Ending.{Seen, EndsWith}
use Rattle.cell_main.specs.declared.words.Words.{Words}
use Rattle.cell_main.specs.declared.words.Words.TheVariants.{Texts, NotText, Memory}

-- the command that the words ask for: a word that isn't UTF-8 is of none
abbrev pub asked : Words → Option Command
asked (Texts words) = command_of (texts words.items)
asked NotText = None
asked Memory = None

-- with which exit status, and what was read and written; without memory for the words nothing was
abbrev pub EndsFor : Words → ℕ → Seen → Seen → Seen → Seen → Type 0
EndsFor (Texts words) code input rest out after =
    EndsWith (command_of (texts words.items)) code input rest out after
EndsFor NotText code input rest out after = EndsWith None code input rest out after
EndsFor Memory code input rest out after = (code ≡ 3) × (rest ≡ input) × (after ≡ out)

-- it is the exit status for some words, input and output: std tells nothing of those that the program is given
pub record IsExit (code : ℕ) : Type 0 where
  pub words : Words
  pub input : Seen
  pub rest : Seen
  pub out : Seen
  pub after : Seen
  pub ends : EndsFor words code input rest out after
