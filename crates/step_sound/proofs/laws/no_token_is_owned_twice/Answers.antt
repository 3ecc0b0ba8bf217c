use Rattle.step_sound.proofs.Sound.{pool_sound, tokens_sound}
use Rattle.step_sound.proofs.laws.no_token_is_owned_twice.Goals as goal

pub returns-clause-held : goal.returns-clause-held
returns-clause-held c config history key row tokens is found of = (tokens_sound config history key row tokens is found of).few

pub returns-clause-numbers : goal.returns-clause-numbers
returns-clause-numbers c config history key row tokens is found of = (tokens_sound config history key row tokens is found of).rises

pub returns-clause-named : goal.returns-clause-named
returns-clause-named c config history key row pool token is found of = (pool_sound config history key row pool is found of).once token
