use Rattle.program_inv.proofs.Free.{all_free}
use Rattle.program_inv.proofs.laws.a_new_program_may_have_its_domains.Goals as goal

pub returns : goal.returns
returns c = all_free
