use Rattle.mms_types.specs.Spelling.{widest}
use Rattle.mms_types.proofs.Texts.{identifier_is_text}
use Rattle.mms_types.proofs.identifier.text_of.Goals as goal

pub from_utf8_unchecked-requires : goal.from_utf8_unchecked-requires
from_utf8_unchecked-requires c = rw c.in_ok-copied.ensures.items (identifier_is_text widest c.args.octets.now c.requires)
