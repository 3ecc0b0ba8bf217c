use Rattle.ber_forms.proofs.Answered.{malformed_read, malformed_only}
use Rattle.ber_forms.proofs.laws.tells_malformed.Goals as goal

pub returns-clause-read : goal.returns-clause-read
returns-clause-read c = malformed_read

pub returns-clause-only : goal.returns-clause-only
returns-clause-only c = malformed_only
