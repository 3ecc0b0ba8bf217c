use Rattle.std.proofs.Common.{◌≡◌, ◌∙◌, ◌+◌, List, None, ap, arith, false, subst, sym}
use Rattle.std.specs.List.{list_any}
use Rattle.std.specs.Map.{lookup}
use Rattle.mms_types.specs.Order.{key_eq}
use Rattle.sem_ticks.specs.Drafts.{become, drafted, AreDrafts}
use Rattle.sem_ticks.specs.declared.drafts.Draft.{Draft}
use Rattle.sem_ticks.proofs.Inserted.{drafts_then, named_by, none_in_all, none_named, none_named_then, none_then, none_without, same_then, HasNoneBefore}
use Rattle.sem_ticks.proofs.losing.draft_those_of.Goals as goal
use Rattle.sem_ticks.proofs.losing.draft_those_of.Goals.{then-has_entry+then-not-is_named+in_ok-draft_of+in_ok-insert_draft, else-has_entry, else-has_entry-via-then-has_entry+else-not-is_named, else-has_entry-via-else-has_entry}

pub loop-place-preserved : goal.loop-place-preserved
loop-place-preserved c =
    let rows = c.args.semaphores.now in
    let place = c.loop-place.place in
    let before = c.args.drafts.now.items in
    let ds = c.loop-place.drafts.items in
    let key = c.in-Some.key.now in
    let row = c.in-Some.row.now in
    let at = c.in-Some.ensures.row in
    let none = c.loop-place.invariant.none in
    elim c.if-has_entry.branch [
      | then-has_entry+then-not-is_named+in_ok-draft_of+in_ok-insert_draft w ↦
          let new = w.in_ok-draft_of.field-0 in
          let of = w.in_ok-draft_of.ensures in
          let named : list_any (λ d. key_eq key d.key.now) ds ≡ false =
          ap (list_any (λ (d : Draft). key_eq key d.key.now)) (sym w.deref.ensures.value) ∙ sym w.is_named.ensures ∙ w.if-not-is_named.true in
          let unnamed : lookup (key_eq key) (drafted ds) ≡ None = none_named (lookup (key_eq key) (drafted ds)) (sym (named_by key ds) ∙ named) in
          let es = w.insert_draft.new.drafts.items in
          let is = w.in_ok-insert_draft.ensures in
          let so = ap (λ v. v.items) w.drafts-is in
          let distinct = c.len-place-end.ensures.distinct in
          let are = c.loop-place.invariant.drafts in
          let same = c.loop-place.invariant.same in
          record {
            drafts = subst (λ (l : List Draft). AreDrafts c.args.until rows l) (sym so)
                (drafts_then c.args.until c.args.client place rows before ds key row at none new es distinct are same of.key.0 of.key.1 of.row of.least unnamed is);
            same = ap (λ (l : List Draft). become (drafted l) rows) so
                ∙ same_then c.args.until c.args.client place rows before ds key row at none new es distinct are same of.key.0 of.key.1 of.row of.least unnamed is;
            none = subst (λ (l : List Draft). HasNoneBefore c.args.client (place + 1) rows l) (sym so)
                (none_then c.args.until c.args.client place rows before ds key row at none new es distinct are same of.key.0 of.key.1 of.row of.least unnamed is);
            end = c.loop-place.invariant.end;
          }
      | else-has_entry w ↦
          let so = ap (λ v. v.items) w.drafts-is in
          let then : HasNoneBefore c.args.client (place + 1) rows ds = elim w.else-has_entry.branch [
            | else-has_entry-via-then-has_entry+else-not-is_named v ↦
                none_named_then c.args.until c.args.client place rows before ds key row at none
                (ap (list_any (λ (d : Draft). key_eq key d.key.now)) (sym v.deref.ensures.value) ∙ sym v.is_named.ensures ∙ v.if-not-is_named.false)
            | else-has_entry-via-else-has_entry v ↦
                none_without c.args.until c.args.client place rows before ds key row at none (sym c.has_entry.ensures ∙ v.if-has_entry.false)
          ] in
          record {
            drafts = subst (λ (l : List Draft). AreDrafts c.args.until rows l) (sym so) c.loop-place.invariant.drafts;
            same = ap (λ (l : List Draft). become (drafted l) rows) so ∙ c.loop-place.invariant.same;
            none = subst (λ (l : List Draft). HasNoneBefore c.args.client (place + 1) rows l) (sym so) then;
            end = c.loop-place.invariant.end;
          }
    ]

pub returns-clause-none : goal.returns-clause-none
returns-clause-none c =
    let end = c.loop-place.invariant.end in
    let past = c.loop-place-test.false in
    none_in_all c.args.client c.loop-place.place c.args.semaphores.now c.loop-place.drafts.items (omega (arith, end, past)) c.loop-place.invariant.none
