use Rattle.domain_upload.proofs.Numbered.{fewer}
use Rattle.domain_upload.proofs.uploads.Uploads.terminate.Goals as goal

pub invariant_of-self : goal.invariant_of-self
invariant_of-self c = fewer _ _ _ _ c.self.invariant c.remove.ensures
