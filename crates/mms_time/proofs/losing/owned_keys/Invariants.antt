use Rattle.std.proofs.Common.{◌≡◌, length, map, take}
use Rattle.std.specs.Map.{keys_of}
use Rattle.mms_time.specs.Loss.{owned_rows}
use Rattle.mms_time.proofs.losing.owned_keys.Given as goal

-- the names of those up to the place are there
abbrev pub invariant-loop-place : goal.invariant-loop-place
invariant-loop-place l = record {
  keys : map (λ key. key.now) l.keys.items ≡ keys_of (owned_rows l.client (take l.place l.semaphores));
  end : l.place-end ≡ length l.semaphores;
}
