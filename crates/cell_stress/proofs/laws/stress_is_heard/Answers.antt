use Rattle.std.proofs.Common.{arith}
use Rattle.cell_stress.specs.Requests.{invoke_of}
use Rattle.cell_stress.proofs.Heard.{asks, defines, invokes, opens}
use Rattle.cell_stress.proofs.laws.stress_is_heard.Goals as goal

pub returns-clause-opened : goal.returns-clause-opened
returns-clause-opened c = (opens, defines 1 (omega arith))

pub returns-clause-asked : goal.returns-clause-asked
returns-clause-asked c = λ client word round most. asks (invoke_of client round) word round (invokes client round most) most
