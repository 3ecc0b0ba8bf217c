use Rattle.std.proofs.Common.{◌∙◌, ap}
use Rattle.mms_types.specs.declared.key.Scope.TheVariants.{Association}
use Rattle.object_names.specs.Scopes.{without_all_of}
use Rattle.mms_time.proofs.TwoSteps.{each_semaphore}
use Rattle.mms_time.proofs.losing.lose_with.Goals as goal

pub returns : goal.returns
returns c =
    c.remove_all_of.ensures ∙ ap (without_all_of (Association c.args.client)) (c.lose_each.ensures ∙ each_semaphore c.args.client c.args.now c.args.semaphores.now)
