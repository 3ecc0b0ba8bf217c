use Rattle.mms_types.specs.Spelling.{widest}
use Rattle.pdu_data.proofs.TypeLaws.{type_written}
use Rattle.pdu_data.proofs.type_writing.put_type.Goals as goal

pub returns-clause-ok : goal.returns-clause-ok
returns-clause-ok c = type_written widest 10 c.args.of.now c.args.out.now c.put_one.new.out c.put_one.result c.put_one.ensures.shallow c.put_one.ensures.ok
