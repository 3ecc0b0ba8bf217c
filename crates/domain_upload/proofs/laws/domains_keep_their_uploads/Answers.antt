use Rattle.domain_upload.proofs.Others.{begin_keeps, delete_keeps, loss_keeps, reply_keeps}
use Rattle.domain_upload.proofs.laws.domains_keep_their_uploads.Goals as goal

pub returns : goal.returns
returns c = record { initiate = begin_keeps; reply = reply_keeps; delete = delete_keeps; lose = loss_keeps }
