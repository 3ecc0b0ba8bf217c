use Rattle.std.proofs.Common.{◌≡◌, ◌≤◌, filter, length, take}
use Rattle.object_names.proofs.Ranked.{AreRanksUpTo}
use Rattle.object_names.proofs.index.rank.Given as goal

-- those up to the place have their ranks
abbrev pub invariant-loop-place : goal.invariant-loop-place
invariant-loop-place g l = record {
  kept : l.kept ≡ length (filter (g.K.Keeps.stays l.by) (take l.place l.rows.entries));
  few : l.kept ≤ l.place;
  done : AreRanksUpTo (g.K.Keeps.stays l.by) l.rows.entries l.ranks.items l.place;
  end : l.place-end ≡ length l.rows.entries;
  len : length l.ranks.items ≡ length l.fn.ranks.items;
}
