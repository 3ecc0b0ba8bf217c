use Rattle.std.proofs.Common.{◌≡◌, ◌∙◌, ◌++◌, List, ap, append-nil, false, map, sym}
use Rattle.sem_ticks.specs.Losing.{has_entry}
use Rattle.sem_ticks.specs.declared.granted.Granted.{Granted}
use Rattle.sem_ticks.specs.declared.ticks.Happening.TheVariants.{Grants}
use Rattle.sem_ticks.proofs.AllLost.{none_told, not_lost}
use Rattle.sem_ticks.proofs.losing.lose_draft.Goals as goal

pub returns-then-not-has_entry-clause-lost : goal.returns-then-not-has_entry-clause-lost
returns-then-not-has_entry-clause-lost c =
    let none : has_entry c.args.client c.args.draft.now.row ≡ false = sym c.has_entry.ensures ∙ c.if-not-has_entry.true in
    not_lost c.args.client c.args.now c.args.draft.now none c.requires.least

pub returns-then-not-has_entry-clause-told : goal.returns-then-not-has_entry-clause-told
returns-then-not-has_entry-clause-told c =
    let none : has_entry c.args.client c.args.draft.now.row ≡ false = sym c.has_entry.ensures ∙ c.if-not-has_entry.true in
    sym (append-nil c.args.happened.now.items)
    ∙ ap (λ (l : List Granted). c.args.happened.now.items ++ map Grants l) (sym (none_told c.args.client c.args.now c.args.draft.now none))
