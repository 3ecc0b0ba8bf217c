use Rattle.std.proofs.Common.{◌≡◌, ◌∙◌, ◌++◌, List, None, Ok, Some, [], ap, drop, fold, length, map, option_and_then, option_map, sym}
use Rattle.mms_types.specs.declared.moment.Moment.{Moment}
use Rattle.mms_time.specs.Deadlines.{next_due}
use Rattle.mms_time.specs.Semaphores.{Rows}
use Rattle.sem_ticks.specs.Dated.{dated_on, met_dated}
use Rattle.sem_ticks.specs.Drafts.{become, drafted, next_named}
use Rattle.sem_ticks.specs.Meant.{drafting_of, with_moments}
use Rattle.sem_ticks.specs.Renewed.{put_at}
use Rattle.sem_ticks.specs.Ticks.{met, ticked_on}
use Rattle.sem_ticks.specs.declared.drafts.Draft.{Draft}
use Rattle.sem_ticks.specs.declared.ticks.Happening.{Happening}
use Rattle.sem_ticks.proofs.Dated.{dated_meets, dated_rests, dated_so}
use Rattle.sem_ticks.proofs.Drafting.{all_put, own_names}
use Rattle.sem_ticks.proofs.Fewer.{falls}
use Rattle.sem_ticks.proofs.Twice.{tick_meets, tick_rests}
use Rattle.sem_ticks.proofs.meeting.ticked_in_drafts.Goals as goal

pub loop-next-init : goal.loop-next-init
loop-next-init c =
    let rows = c.args.semaphores.now in
    let ds = c.in_ok-drafts.drafts.items in
    record {
      drafts = c.in_ok-drafts.ensures.drafts;
      ticked =
          ap (λ (happened : List Happening). ticked_on c.args.until (drafting_of rows ds happened)) c.new-happened.ensures.items
          ∙ ap (λ (rows : Rows). ticked_on c.args.until (record { rows = rows; happened = [] })) c.in_ok-drafts.ensures.copies;
      dated =
          ap (λ (moments : List Moment). dated_on c.args.until (with_moments (drafting_of rows ds c.new-happened.result.items) moments)) c.new-moments.ensures.items
          ∙ ap (λ (rows : Rows). dated_on c.args.until (record { rows = rows; happened = [] })) c.in_ok-drafts.ensures.copies;
      long = ap (λ (l : List Moment). length l) c.new-moments.ensures.items ∙ sym (ap (λ (l : List Happening). length l) c.new-happened.ensures.items);
    }

pub loop-next-smaller : goal.loop-next-smaller
loop-next-smaller c =
    let rows = c.args.semaphores.now in
    let s = drafting_of rows c.loop-next.drafts.items c.loop-next.happened.items in
    let t = drafting_of rows c.meet_in.new.drafts.items c.meet_in.new.happened.items in
    let due : next_due c.args.until s.rows ≡ Some (next_named c.in-Some.next) =
    ap (λ (l : List Draft). next_due c.args.until (become (drafted l) rows)) (sym c.deref.ensures.value) ∙ sym c.next_of.ensures.least ∙ ap (option_map next_named) c.in-Some.is in
    falls c.args.until s t (ap (option_and_then (met s)) due ∙ c.meet_in.ensures.met (c.in_ok-meet_in.was ∙ ap Ok c.if-not-branch.false))

pub loop-next-preserved : goal.loop-next-preserved
loop-next-preserved c =
    let rows = c.args.semaphores.now in
    let s = drafting_of rows c.loop-next.drafts.items c.loop-next.happened.items in
    let t = drafting_of rows c.meet_in.new.drafts.items c.meet_in.new.happened.items in
    let due : next_due c.args.until s.rows ≡ Some (next_named c.in-Some.next) =
    ap (λ (l : List Draft). next_due c.args.until (become (drafted l) rows)) (sym c.deref.ensures.value) ∙ sym c.next_of.ensures.least ∙ ap (option_map next_named) c.in-Some.is in
    let goes_on = c.in_ok-meet_in.was ∙ ap Ok c.if-not-branch.false in
    let so = dated_so c.args.until s t (next_named c.in-Some.next) c.loop-next.moments.items c.date.new.moments.items due (c.meet_in.ensures.met goes_on) c.loop-next.invariant.long
    (c.in_ok-date.ensures ∙ ap (λ (l : List Happening). c.loop-next.moments.items ++ map (λ (h : Happening). c.in-Some.next.due.at) (drop (length c.loop-next.moments.items) l)) c.deref-in-Some.ensures.value) in
    record {
      drafts = c.meet_in.ensures.drafts goes_on;
      ticked = sym (tick_meets c.args.until s t (ap (option_and_then (met s)) due ∙ c.meet_in.ensures.met goes_on)) ∙ c.loop-next.invariant.ticked;
      dated = sym (dated_meets c.args.until (with_moments s c.loop-next.moments.items) (with_moments t c.date.new.moments.items) so.next) ∙ c.loop-next.invariant.dated;
      long = so.long;
    }

pub returns : goal.returns
returns c =
    let rows = c.args.semaphores.now in
    let ds = c.loop-next.drafts.items in
    let happened = c.loop-next.happened.items in
    let moments = c.loop-next.moments.items in
    let s = drafting_of rows ds happened in
    let none : next_due c.args.until s.rows ≡ None =
    ap (λ (l : List Draft). next_due c.args.until (become (drafted l) rows)) (sym c.deref.ensures.value) ∙ sym c.next_of.ensures.least ∙ ap (option_map next_named) c.in_default.is in
    let put = ap (fold put_at rows) c.in_ok-rows_of.ensures ∙ all_put ds rows c.len-rows.ensures.distinct (own_names ds c.loop-next.invariant.drafts.ascend) c.loop-next.invariant.drafts.places in
    record {
      met =
          ap (λ (rows : Rows). record { rows = rows; happened = happened }) put
          ∙ sym (tick_rests c.args.until s (ap (option_and_then (met s)) none))
          ∙ c.loop-next.invariant.ticked;
      dated =
          ap (λ (rows : Rows). with_moments (record { rows = rows; happened = happened }) moments) put
          ∙ sym (dated_rests c.args.until (with_moments s moments) (ap (option_and_then (met_dated (with_moments s moments))) none))
          ∙ c.loop-next.invariant.dated;
      long = c.loop-next.invariant.long;
    }
