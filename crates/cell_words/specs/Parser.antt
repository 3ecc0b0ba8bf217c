-- The parser of the words.
use Rattle.std.specs.Prelude.{◌≡◌, true, List, [], Option, Some, None, codes, if◌then◌else◌}
use Rattle.std.specs.Str.{bytes_eq}
use Rattle.clap.specs.Simple.{App, Shape, new_app, new_rule, with_rule, with_subcommand, subcommand_of, subcommand_rows_of}
use Rattle.clap.specs.Walk.{Row, Rule, Text, first_of}
use Rattle.clap.specs.Faults.{fault_of}
use Rattle.clap.specs.declared.builder.action.ArgAction.TheVariants.{Set}
use Rattle.clap.specs.declared.parser.matches.ArgMatches.{ArgMatches}
use Rattle.cell_words.specs.declared.words.Command.{Command}
use Rattle.cell_words.specs.declared.words.Command.TheVariants.{Replay}
use Rattle.cell_words.specs.Words.{run_with, stress_with}

-- an option that the words have to give
abbrev pub wanted : Text → Rule
wanted name = record (new_rule name) { long = Some name; required = true; action = Some Set }

abbrev pub replay : Shape
replay = (new_app (codes "replay")).top

abbrev pub run : Shape
run = (with_rule (new_app (codes "run")) (wanted (codes "workers"))).top

abbrev pub stress : Shape
stress = (with_rule (with_rule (with_rule (with_rule (new_app (codes "stress")) (wanted (codes "seed"))) (wanted (codes "clients"))) (wanted (codes "rounds"))) (wanted (codes "workers"))).top

abbrev pub set_up : App → App
set_up a = record a { top = record a.top { no_binary_name = true; disable_help_flag = true; disable_help_subcommand = true; subcommand_required = true } }

abbrev pub mmscell : App
mmscell = with_subcommand (with_subcommand (with_subcommand (set_up (new_app (codes "mmscell"))) replay) run) stress

-- the parser takes the words
abbrev pub AreTaken : List Text → Type 0
AreTaken words = fault_of mmscell words ≡ []

-- what is made of the texts that the parser found
abbrev pub run_found : List Row → Option Command
run_found rows = run_with (first_of (codes "workers") rows)

abbrev pub stress_found : List Row → Option Command
stress_found rows = stress_with (first_of (codes "seed") rows) (first_of (codes "clients") rows) (first_of (codes "rounds") rows) (first_of (codes "workers") rows)

abbrev pub asked_of : Option (Text × List Row) → Option Command
asked_of None = None
asked_of (Some p) = if bytes_eq p.0 (codes "replay") then Some Replay
    else (if bytes_eq p.0 (codes "run") then run_found p.1
    else (if bytes_eq p.0 (codes "stress") then stress_found p.1 else None))

-- the parser's answer to the words
abbrev pub Answers : List Text → Option ArgMatches → Type 0
Answers words None = ¬ AreTaken words
Answers words (Some m) = AreTaken words × (subcommand_rows_of m ≡ subcommand_of mmscell words)
