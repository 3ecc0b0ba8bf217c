use Rattle.domain_upload.proofs.Kept.{initiate_keeps, lose_keeps, none_kept, segment_keeps, terminate_keeps}
use Rattle.domain_upload.proofs.laws.uploads_keep_their_domains.Goals as goal

pub returns : goal.returns
returns c = record { none = none_kept; initiate = initiate_keeps; segment = segment_keeps; terminate = terminate_keeps; lose = lose_keeps }
