use Rattle.domain_upload.proofs.Told.{number_told, piece_told}
use Rattle.domain_upload.proofs.laws.what_is_told_is_done.Goals as goal

pub returns : goal.returns
returns c = record { initiate = number_told; segment = piece_told }
