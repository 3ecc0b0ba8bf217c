use Rattle.ber_core.proofs.writer.+width.Given as goal

abbrev pub decreases-width : goal.decreases-width
decreases-width l = l.most
