use Rattle.cell_laws.proofs.Uploaded.{tells_a_front}
use Rattle.cell_laws.proofs.uploads.an_upload_tells_a_front_of_its_domain.Goals as goal

pub returns : goal.returns
returns c = tells_a_front
