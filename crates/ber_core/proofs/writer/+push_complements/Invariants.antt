use Rattle.ber_core.proofs.writer.+push_complements.Given as goal

abbrev pub decreases-push_complements : goal.decreases-push_complements
decreases-push_complements l = l.most
