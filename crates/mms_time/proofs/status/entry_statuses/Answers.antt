use Rattle.std.proofs.Common.{◌∙◌, ap₂, sym, Bool, List}
use Rattle.mms_types.specs.declared.semaphore.EntryStatus.{EntryStatus}
use Rattle.mms_types.specs.declared.semaphore.EntryStatuses.{EntryStatuses}
use Rattle.mms_time.specs.Statuses.{entry_status, is_listed}
use Rattle.mms_time.proofs.Listed.{listed_more}
use Rattle.mms_time.proofs.status.entry_statuses.Goals as goal

abbrev answer_of : List EntryStatus → Bool → EntryStatuses
answer_of entries more = record { entries = entries; more = more }

pub returns-then-len-eq-MOST_ENTRIES : goal.returns-then-len-eq-MOST_ENTRIES
returns-then-len-eq-MOST_ENTRIES c =
    let told = listed_more (entry_status c.args.names.now c.args.now) (is_listed c.args.state c.args.after) 6 c.args.entries.now c.loop-entry.entry-index _ c.loop-entry.list c.loop-entry-test.true
    (sym c.is_listed.ensures ∙ c.if-is_listed.true) c.loop-entry.invariant.0 (sym c.len.ensures ∙ c.if-len-eq-MOST_ENTRIES.true) in
    ap₂ answer_of told.0 told.1
