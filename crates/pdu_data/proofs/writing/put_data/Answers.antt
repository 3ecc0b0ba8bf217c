use Rattle.pdu_data.proofs.DataLaws.{data_written}
use Rattle.pdu_data.proofs.writing.put_data.Goals as goal

pub returns-clause-ok : goal.returns-clause-ok
returns-clause-ok c = data_written 10 c.args.item.now c.args.out.now c.put_one.new.out c.put_one.result c.put_one.ensures.shallow c.put_one.ensures.ok
