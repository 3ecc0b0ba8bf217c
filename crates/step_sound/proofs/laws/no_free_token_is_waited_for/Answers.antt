use Rattle.pool_sem.proofs.Serving.{free-unwanted}
use Rattle.step_sound.proofs.Sound.{pool_sound, tokens_sound}
use Rattle.step_sound.proofs.laws.no_free_token_is_waited_for.Goals as goal

pub returns-clause-equal : goal.returns-clause-equal
returns-clause-equal c config history key row tokens is found of = (tokens_sound config history key row tokens is found of).served

pub returns-clause-named : goal.returns-clause-named
returns-clause-named c config history key row pool token is found of = free-unwanted pool token (pool_sound config history key row pool is found of)
