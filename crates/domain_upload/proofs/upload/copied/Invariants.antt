use Rattle.std.proofs.Common.{◌≡◌, take}
use Rattle.domain_upload.proofs.upload.copied.Given as goal

-- the uploads up to the index are copied
abbrev pub invariant-loop-upload : goal.invariant-loop-upload
invariant-loop-upload l = l.copies.items ≡ take l.upload-index l.rows
