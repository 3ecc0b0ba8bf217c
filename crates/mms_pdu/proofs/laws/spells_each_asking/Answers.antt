use Rattle.ber_core.specs.declared.element.Lengths.TheVariants.{Definite}
use Rattle.mms_pdu.proofs.AskedAgain.{asking_heard, asking_only, asking_one, asking_whole}
use Rattle.mms_pdu.proofs.laws.spells_each_asking.Goals as goal

pub returns-clause-heard : goal.returns-clause-heard
returns-clause-heard c = λ lengths edition. asking_heard edition lengths

pub returns-clause-only : goal.returns-clause-only
returns-clause-only c = λ lengths edition. asking_only edition lengths

pub returns-clause-one : goal.returns-clause-one
returns-clause-one c = λ edition. asking_one edition Definite

pub returns-clause-whole : goal.returns-clause-whole
returns-clause-whole c = asking_whole
