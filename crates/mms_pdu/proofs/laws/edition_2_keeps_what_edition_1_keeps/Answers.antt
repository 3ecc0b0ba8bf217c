use Rattle.mms_pdu.proofs.ByEdition.{kept_by_two}
use Rattle.mms_pdu.proofs.laws.edition_2_keeps_what_edition_1_keeps.Goals as goal

pub returns : goal.returns
returns c = kept_by_two
