use Rattle.std.proofs.Common.{◌≡◌, IfSome, Some, length, option_map, take}
use Rattle.mms_time.specs.Deadlines.{deadline_in, due_meant, first_due}
use Rattle.mms_time.proofs.due.first_due.Given as goal

-- the least deadline of the semaphores up to the place
abbrev pub invariant-loop-place : goal.invariant-loop-place
invariant-loop-place l = record {
  least : option_map due_meant l.first ≡ first_due (take l.place l.semaphores);
  stands : IfSome (option_map due_meant l.first) (λ due. deadline_in due.key due.entry l.semaphores ≡ Some due.at);
  end : l.place-end ≡ length l.semaphores;
}
