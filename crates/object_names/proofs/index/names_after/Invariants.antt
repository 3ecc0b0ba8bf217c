use Rattle.std.proofs.Common.{◌≡◌, drop, length, map}
use Rattle.std.specs.Map.{keys_of}
use Rattle.std.specs.Option.{option_copied}
use Rattle.object_names.specs.Borrowed.{scope_meant}
use Rattle.object_names.specs.Index.{key_at}
use Rattle.object_names.specs.Listing.{names_after}
use Rattle.object_names.proofs.Walked.{IsWalked}
use Rattle.object_names.proofs.index.names_after.Given as goal

-- the names listed so far, and then those of the scope among the keys that are left, are all of them
abbrev pub invariant-loop-at : goal.invariant-loop-at
invariant-loop-at g l = record {
  walked : IsWalked (names_after (scope_meant l.scope) (option_copied l.after) l.rows.entries) (scope_meant l.scope) (option_copied l.after)
      (drop l.at (map (key_at (keys_of l.rows.entries)) l.places)) l.list l.most;
  end : l.at-end ≡ length l.places;
}
