-- What holds of the semaphores and the event conditions of a device at any time.
use Rattle.mms_types.specs.declared.moment.Moment.{Moment}
use Rattle.sem_ticks.specs.Sound as sem
use Rattle.event_ticks.specs.Sound as events
use Rattle.cell_ticks.specs.Ticks.{Ticking}

pub record IsSound (s : Ticking) : Type 0 where
  pub semaphores : sem.AreSound s.semaphores
  pub conditions : events.AreSound s.conditions
