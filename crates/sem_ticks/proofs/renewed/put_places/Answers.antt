use Rattle.std.proofs.Common.{◌∙◌, ap, fold, sym}
use Rattle.mms_time.specs.Semaphores.{Rows}
use Rattle.sem_ticks.specs.Renewed.{put_at}
use Rattle.sem_ticks.proofs.Become.{set_past}
use Rattle.sem_ticks.proofs.renewed.put_places.Goals as goal

pub loop-placed-preserved : goal.loop-placed-preserved
loop-placed-preserved c =
    ap (λ (rows : Rows). fold put_at rows c.next.new.self.rest.items) (sym (set_past c.loop-placed.semaphores c.in-Some.placed.0 c.in-Some.placed.1 (sym c.in_default.ensures.value)))
    ∙ ap (fold put_at c.loop-placed.semaphores) (sym c.in-Some.ensures.steps.0)
    ∙ c.loop-placed.invariant
