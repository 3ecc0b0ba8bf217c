-- What `replay` prints: the words of clauses inside the crate.
use Rattle.std.specs.Prelude.{ℕ, List, ◌++◌, Some, Ok, Err}
use Rattle.cell_config.specs.declared.config.Config.{Config}
use Rattle.cell_record.specs.Recording.{Reading, Opening, after_opening, opening_of_text}
use Rattle.cell_run.specs.Outcome.{last_line, report_of}

-- of what is said after the configuration: the report of the complete phases, and why no more are
-- served
abbrev pub printed_for : Config → Reading → List ℕ
printed_for config r = report_of config r.phases ++ last_line r.refusal

-- where the lines up to `end` are refused, that alone is told
abbrev pub printed_by : Opening → List ℕ
printed_by (Err e) = last_line (Some e)
printed_by (Ok o) = printed_for o.config (after_opening (Ok o))

abbrev pub printed : List ℕ → List ℕ
printed text = printed_by (opening_of_text text)
