use Rattle.std.proofs.Common.{◌≡◌, ◌<◌, length, arith}
use Rattle.std.proofs.lemmas.List.{get_or_default}
use Rattle.std.proofs.lemmas.List.Edits.{map_over_more}
use Rattle.domain_upload.proofs.upload.advance.Goals as goal

pub loop-upload-preserved : goal.loop-upload-preserved
loop-upload-preserved c =
    let kept : length c.loop-upload.rows ≡ length c.args.rows.now = c.loop-upload.auto.rows in
    let within : c.loop-upload.upload-index < length c.loop-upload.rows = omega arith in
    rw c.advance.ensures (map_over_more _ _ _ _ _ c.loop-upload-test.true c.loop-upload.invariant (get_or_default c.loop-upload.rows c.loop-upload.upload-index _ _ within))
