use Rattle.std.proofs.Common.{◌∙◌}
use Rattle.std.specs.Map.{keys_of}
use Rattle.mms_time.specs.Loss.{sorted_keys}
use Rattle.mms_time.proofs.TwoSteps.{each_grant}
use Rattle.mms_time.proofs.losing.lose.Goals as goal

pub returns-clause-grants : goal.returns-clause-grants
returns-clause-grants c =
    let rows = c.args.semaphores.now in
    c.in_ok-grants.ensures ∙ each_grant c.args.client c.args.now rows (sorted_keys (keys_of rows))
