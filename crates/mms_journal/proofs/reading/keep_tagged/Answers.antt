use Rattle.std.proofs.Common.{◌∙◌, ap, filter, rules}
use Rattle.std.proofs.lemmas.Fn.{filter_same}
use Rattle.mms_journal.specs.Entries.{is_tagged}
use Rattle.mms_journal.proofs.reading.keep_tagged.Goals as goal

pub returns : goal.returns
returns c =
    c.from.ensures ∙ filter_same _ _ _ (λ x b f' k. search rules) _ _ c.retain.ensures.filtered
    ∙ ap (filter (is_tagged c.args.tags.now)) (c.into_vec-list.ensures ∙ c.replace.ensures.value)
