use Rattle.std.proofs.Common.{◌≡◌, ◌++◌, length, map, take}
use Rattle.sem_ticks.specs.Losing.{drafts_told}
use Rattle.sem_ticks.specs.declared.ticks.Happening.TheVariants.{Grants}
use Rattle.sem_ticks.proofs.AllLost.{AreLostUpto}
use Rattle.sem_ticks.proofs.losing.lose_drafts.Given as goal

-- those up to the place have lost the client, and that is told
abbrev pub invariant-loop-place : goal.invariant-loop-place
invariant-loop-place l = record {
  lost : AreLostUpto l.client l.now l.place l.initial.drafts.items l.drafts.items;
  told : l.happened.items ≡ l.initial.happened.items ++ map Grants (drafts_told l.client l.now (take l.place l.initial.drafts.items));
  end : l.place-end ≡ length l.initial.drafts.items;
}
