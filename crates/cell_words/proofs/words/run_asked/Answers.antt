use Rattle.std.proofs.Common.{◌∙◌, ap}
use Rattle.clap.specs.Words.{found_of}
use Rattle.cell_words.specs.Words.{run_with}
use Rattle.cell_words.proofs.Asked.{run_is}
use Rattle.cell_words.proofs.words.run_asked.Goals as goal

pub returns : goal.returns
returns c = c.run_with.ensures ∙ (ap run_with c.get_str.ensures ∙ run_is (found_of c.args.matches.now))
