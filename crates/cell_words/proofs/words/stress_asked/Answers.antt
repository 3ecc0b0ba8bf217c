use Rattle.std.proofs.Common.{◌∙◌}
use Rattle.clap.specs.Words.{found_of}
use Rattle.cell_words.proofs.Asked.{stress_is, stress_same}
use Rattle.cell_words.proofs.words.stress_asked.Goals as goal

pub returns : goal.returns
returns c = c.stress_with.ensures
    ∙ (stress_same _ _ _ _ _ _ _ _ c.get_str.ensures c.get_str-2.ensures c.get_str-3.ensures c.get_str-4.ensures ∙ stress_is (found_of c.args.matches.now))
