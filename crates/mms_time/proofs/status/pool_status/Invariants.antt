use Rattle.std.proofs.Common.{◌≡◌, ◌≤◌, filter, length, map, option_copied, take}
use Rattle.mms_time.specs.Statuses.{is_told, places_from, token_status}
use Rattle.mms_time.proofs.status.pool_status.Given as goal

-- the tokens up to the place that are listed are told, and there are no more of them than are told at once
abbrev pub invariant-loop-place : goal.invariant-loop-place
invariant-loop-place l = record {
  told : l.list ≡ map (token_status l.pool) (filter (is_told (option_copied l.after)) (take l.place (places_from 0 l.pool.tokens)));
  few : length l.list ≤ 12;
  names : l.names ≡ l.pool.tokens;
  end : l.place-end ≡ length l.pool.tokens;
}
