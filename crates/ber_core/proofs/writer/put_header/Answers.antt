use Rattle.std.proofs.Common.{arith}
use Rattle.ber_core.specs.Spelling.{identifier_octets, length_octets}
use Rattle.ber_core.proofs.Written.{written_over}
use Rattle.ber_core.proofs.writer.put_header.Goals as goal

pub returns : goal.returns
returns c = written_over c.args.bytes.now.items c.put_identifier-next.new.bytes.items c.put_length-end.new.bytes.items (identifier_octets c.args.tag) (length_octets c.args.size) c.args.at c.put_identifier-next.result c.put_length-end.result
    (omega arith) (omega arith) c.put_identifier-next.ensures.front c.put_identifier-next.ensures.rest c.put_length-end.ensures.front c.put_length-end.ensures.rest
