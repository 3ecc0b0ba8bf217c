use Rattle.std.proofs.Common.{◌≡◌, ◌∙◌, Ok, subst, sym}
use Rattle.ber_forms.specs.Reading.{Fails, reading}
use Rattle.mms_types.specs.declared.identifier.Edition.TheVariants.{Two}
use Rattle.pdu_names.specs.Editions.{lengths_of}
use Rattle.pdu_events.specs.Entries.{journal_entry}
use Rattle.mms_journal.proofs.Spelled.{entry_found, only_memory}
use Rattle.mms_journal.proofs.kept.Kept.read.Goals as goal

pub unreachable-requires : goal.unreachable-requires
unreachable-requires c =
    let fails = subst (λ o. Fails c.in-Err-Malformed.field-0 (reading (lengths_of Two) (journal_entry.form Two) o)) c.as_slice.ensures c.in-Err-Malformed.ensures.exact in
    let memory = only_memory c.self.inside.octets _ c.in-Err-Malformed.field-0 c.self.invariant.read fails in
    absurd (cc (c.in-Err-Malformed.field-0-is, memory))

pub unreachable-requires-in-Err-TooDeep : goal.unreachable-requires-in-Err-TooDeep
unreachable-requires-in-Err-TooDeep c =
    let fails = subst (λ o. Fails c.in-Err-TooDeep.field-0 (reading (lengths_of Two) (journal_entry.form Two) o)) c.as_slice.ensures c.in-Err-TooDeep.ensures.exact in
    let memory = only_memory c.self.inside.octets _ c.in-Err-TooDeep.field-0 c.self.invariant.read fails in
    absurd (cc (c.in-Err-TooDeep.field-0-is, memory))

pub returns-in-Ok : goal.returns-in-Ok
returns-in-Ok c =
    sym (entry_found c.self.inside.octets c.in-Ok.entry
    (subst (λ o. reading (lengths_of Two) (journal_entry.form Two) o ≡ Ok (journal_entry.value c.in-Ok.entry)) c.as_slice.ensures c.in-Ok.ensures.exact))
    ∙ c.self.view_is
