use Rattle.std.proofs.Common.{◌≡◌, length}
use Rattle.cell_record.specs.Placed.{places_from}
use Rattle.cell_record.proofs.told.places_from.Given as goal

abbrev pub invariant-loop-index : goal.invariant-loop-index
invariant-loop-index l = record {
  places : l.places.items ≡ places_from l.first l.index;
  count : length l.places.items ≡ l.index;
}
