use Rattle.std.proofs.Common.{◌≡◌, map, take, drop, ◌++◌}
use Rattle.domain_upload.specs.Uploads.{upload_after}
use Rattle.domain_upload.proofs.upload.advance.Given as goal

-- the uploads up to the index are what they are after a piece, and the others are as before
abbrev pub invariant-loop-upload : goal.invariant-loop-upload
invariant-loop-upload l =
    l.rows ≡ map (upload_after l.client l.number l.size l.domains) (take l.upload-index l.initial.rows) ++ drop l.upload-index l.initial.rows
