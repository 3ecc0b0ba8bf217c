use Rattle.cell_record.proofs.Valid.{recording_is_read, read_is_recording}
use Rattle.cell_record.proofs.laws.recordings_are_read.Goals as goal

pub returns : goal.returns
returns c = λ text configured phases. (recording_is_read text configured phases, read_is_recording text configured phases)
