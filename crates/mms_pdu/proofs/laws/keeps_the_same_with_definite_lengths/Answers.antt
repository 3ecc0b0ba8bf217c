use Rattle.mms_pdu.proofs.Anew.{kept_anew}
use Rattle.mms_pdu.proofs.laws.keeps_the_same_with_definite_lengths.Goals as goal

pub returns : goal.returns
returns c = λ edition octets p v fits is short. kept_anew edition octets p fits is short v
