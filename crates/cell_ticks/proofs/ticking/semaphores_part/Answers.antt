use Rattle.std.proofs.Common.{◌≡◌, ◌∙◌, IfNone, IfSome, List, None, Option, ap, length, map, subst, sym, zip}
use Rattle.mms_types.specs.declared.moment.Moment.{Moment}
use Rattle.mms_time.specs.Deadlines.{next_due}
use Rattle.sem_ticks.specs.Dated.{Dating, dated}
use Rattle.sem_ticks.specs.Meant.{dating_of, state_of}
use Rattle.sem_ticks.specs.Renewed.{renewed}
use Rattle.sem_ticks.specs.Ticks.{Ticking, ticked}
use Rattle.sem_ticks.specs.declared.renewed.Renewed.{Renewed}
use Rattle.sem_ticks.specs.declared.ticks.DatedTicked.{DatedTicked}
use Rattle.cell_ticks.specs.Parts.{in_semaphores, losses_of, of_semaphores}
use Rattle.cell_ticks.specs.declared.ticking.DeviceTicked.{DeviceTicked}
use Rattle.cell_ticks.proofs.Coded.{none_happened, none_lost, none_rows, on_ok, put_none}
use Rattle.cell_ticks.proofs.ticking.semaphores_part.Goals as goal

pub returns-in-None-clause-rows : goal.returns-in-None-clause-rows
returns-in-None-clause-rows c =
    let rows = c.args.semaphores.now in
    let none = subst (λ (o : Option DatedTicked). IfNone o (next_due c.args.until rows ≡ None)) c.in-None.is c.in_ok-tick_dated.ensures.none in
    put_none rows c.new.result.items c.new.ensures.items ∙ none_rows c.args.until rows none

pub returns-in-None-clause-losses : goal.returns-in-None-clause-losses
returns-in-None-clause-losses c =
    let rows = c.args.semaphores.now in
    let none = subst (λ (o : Option DatedTicked). IfNone o (next_due c.args.until rows ≡ None)) c.in-None.is c.in_ok-tick_dated.ensures.none in
    c.new-in-None.ensures.items ∙ none_lost c.args.until rows none

pub returns-in-None-clause-happened : goal.returns-in-None-clause-happened
returns-in-None-clause-happened c =
    let rows = c.args.semaphores.now in
    let none = subst (λ (o : Option DatedTicked). IfNone o (next_due c.args.until rows ≡ None)) c.in-None.is c.in_ok-tick_dated.ensures.none in
    c.new-in-None-2.ensures.items ∙ none_happened c.args.until rows none

pub dated_part-requires : goal.dated_part-requires
dated_part-requires c = subst (λ (o : Option DatedTicked). IfSome o (λ t. length t.moments.items ≡ length t.ticked.happened.items)) c.in-Some.is c.in_ok-tick_dated.ensures.long

pub returns-in-Some-clause-rows : goal.returns-in-Some-clause-rows
returns-in-Some-clause-rows c =
    let rows = c.args.semaphores.now in
    let met = subst (λ (o : Option DatedTicked). IfSome o (λ t. state_of t.ticked rows ≡ ticked c.args.until rows)) c.in-Some.is c.in_ok-tick_dated.ensures.met in
    on_ok (λ (t : DeviceTicked). t.changed ≡ c.in-Some.dated.ticked.changed) (λ (t : DeviceTicked). renewed t.changed rows ≡ (ticked c.args.until rows).rows)
    (λ t e. ap (λ (r : Renewed). renewed r rows) e ∙ ap (λ (s : Ticking). s.rows) met) c.dated_part.result c.dated_part.ensures.changed

pub returns-in-Some-clause-losses : goal.returns-in-Some-clause-losses
returns-in-Some-clause-losses c =
    let rows = c.args.semaphores.now in
    let d = c.in-Some.dated in
    let is = subst (λ (o : Option DatedTicked). IfSome o (λ t. dating_of t rows ≡ dated c.args.until rows)) c.in-Some.is c.in_ok-tick_dated.ensures.dated in
    on_ok (λ (t : DeviceTicked). t.losses.items ≡ losses_of (zip d.moments.items d.ticked.happened.items)) (λ (t : DeviceTicked). t.losses.items ≡ losses_of (of_semaphores c.args.until rows))
    (λ t e. e ∙ ap (λ (s : Dating). losses_of s.happened) is) c.dated_part.result c.dated_part.ensures.losses

pub returns-in-Some-clause-happened : goal.returns-in-Some-clause-happened
returns-in-Some-clause-happened c =
    let rows = c.args.semaphores.now in
    let d = c.in-Some.dated in
    let is = subst (λ (o : Option DatedTicked). IfSome o (λ t. dating_of t rows ≡ dated c.args.until rows)) c.in-Some.is c.in_ok-tick_dated.ensures.dated in
    on_ok (λ (t : DeviceTicked). t.happened.items ≡ map in_semaphores (zip d.moments.items d.ticked.happened.items))
    (λ (t : DeviceTicked). t.happened.items ≡ map in_semaphores (of_semaphores c.args.until rows)) (λ t e. e ∙ ap (λ (s : Dating). map in_semaphores s.happened) is) c.dated_part.result
    c.dated_part.ensures.happened
