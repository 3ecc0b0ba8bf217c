use Rattle.std.proofs.Common.{◌≡◌, ◌∙◌, List, ap, filter, not, subst, sym}
use Rattle.mms_journal.specs.Journals.{IsJournal, octets_in}
use Rattle.mms_journal.specs.Services.{goes}
use Rattle.mms_journal.specs.declared.journal.Written.{Written}
use Rattle.mms_journal.proofs.Counted.{fewer_sound}
use Rattle.mms_journal.proofs.journal.Journal.initialize.Goals as goal

pub invariant_of-self : goal.invariant_of-self
invariant_of-self c =
    let before = c.self.inside.entries.items in
    let left : c.take_out.new.entries.items ≡ filter (λ w. not (goes c.args.limit w)) before = c.take_out.ensures in (
      subst (λ (ws : List Written). IsJournal (record { entries = ws; written = c.self.inside.written })) (sym left)
          (fewer_sound c.args.limit (record { entries = before; written = c.self.inside.written }) c.self.invariant.0),
      c.octets_left-self-inside.ensures ∙ ap (λ (ws : List Written). octets_in (filter (λ w. not (goes c.args.limit w)) ws)) c.deref.ensures.value ∙ ap octets_in (sym left),
    )
