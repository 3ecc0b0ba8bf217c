use Rattle.std.proofs.Common.{◌≡◌, ◌∙◌, ◌≤◌, List, ap, length, not, subst, sym}
use Rattle.mms_types.specs.Order.{key_eq}
use Rattle.mms_types.specs.declared.key.Key.{Key}
use Rattle.object_names.proofs.Changed.{others}
use Rattle.object_names.proofs.Fewer.{still_few}
use Rattle.event_cond.specs.Deletion.{without}
use Rattle.event_cond.specs.declared.condition.Condition.{Condition}
use Rattle.event_cond.proofs.conditions.Conditions.remove.Goals as goal

pub invariant_of-self : goal.invariant_of-self
invariant_of-self c =
    subst (λ (rows : List (Key × Condition)). length rows ≤ 256)
    (sym (c.remove.ensures.rows ∙ others c.args.key.now c.self.inside.rows c.len-distinct.ensures.distinct))
    (still_few (λ row. not (key_eq c.args.key.now row.0)) c.self.inside.rows 256 c.self.invariant)

pub returns : goal.returns
returns c =
    c.remove.ensures.rows ∙ others c.args.key.now c.self.inside.rows c.len-distinct.ensures.distinct ∙ ap (without c.args.key.now) c.self.view_is
