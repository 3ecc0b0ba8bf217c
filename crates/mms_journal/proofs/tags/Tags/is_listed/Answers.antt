use Rattle.std.proofs.Common.{◌∙◌, ap}
use Rattle.mms_journal.specs.Entries.{is_among}
use Rattle.mms_journal.proofs.Tagged.{looked_up}
use Rattle.mms_journal.proofs.tags.Tags.is_listed.Goals as goal

pub returns : goal.returns
returns c =
    c.contains.ensures ∙ looked_up c.self.inside.set.keys c.args.tag ∙ c.self.invariant.0 c.args.tag.now
    ∙ ap (λ tags. is_among tags c.args.tag.now) c.self.view_is
