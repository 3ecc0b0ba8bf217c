use Rattle.std.proofs.Common.{◌∙◌, ◌≤◌, List, length, not, subst, sym}
use Rattle.mms_types.specs.Order.{key_eq}
use Rattle.mms_types.specs.declared.key.Key.{Key}
use Rattle.object_names.proofs.Changed.{others}
use Rattle.object_names.proofs.Fewer.{still_few}
use Rattle.mms_journal.specs.Journals.{Log}
use Rattle.mms_journal.proofs.journals.Journals.delete.Goals as goal

pub invariant_of-self : goal.invariant_of-self
invariant_of-self c =
    subst (λ (rows : List (Key × Log)). length rows ≤ 64)
    (sym (c.remove.ensures.rows ∙ others c.args.key.now c.self.inside.rows c.len-distinct.ensures.distinct))
    (still_few (λ row. not (key_eq c.args.key.now row.0)) c.self.inside.rows 64 c.self.invariant)
