use Rattle.std.proofs.Common.{◌∙◌}
use Rattle.std.specs.Map.{keys_of}
use Rattle.mms_time.specs.Loss.{sorted_keys}
use Rattle.mms_time.proofs.TwoSteps.{each_grant}
use Rattle.mms_time.proofs.losing.lose_told.Goals as goal

pub returns-clause-told : goal.returns-clause-told
returns-clause-told c =
    let rows = c.args.semaphores.now in
    c.in_ok-grants.ensures ∙ each_grant c.args.client c.args.now rows (sorted_keys (keys_of rows))
