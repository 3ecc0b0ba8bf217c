use Rattle.std.proofs.Common.{◌≡◌, drop, map}
use Rattle.cell_words.specs.Read.{given}
use Rattle.cell_words.specs.Words.{text_of}
use Rattle.cell_words.proofs.options.text_of.Given as goal

-- the options that are left have the text where all have
abbrev pub invariant-loop-option : goal.invariant-loop-option
invariant-loop-option l = text_of l.name (map given (drop l.option-index l.options)) ≡ text_of l.name (map given l.options)
