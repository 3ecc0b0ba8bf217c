use Rattle.cell_main.proofs.top.run_words.Goals as goal

pub returns-clause-complete : goal.returns-clause-complete
returns-clause-complete g c = rw c.from.ensures c.serve_words-status.ensures.complete

pub returns-clause-counted : goal.returns-clause-counted
returns-clause-counted g c = rw c.from.ensures c.serve_words-status.ensures.counted
