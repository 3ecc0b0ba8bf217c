use Rattle.std.proofs.Common.{◌≡◌, ◌≤◌, take, fold, [], vec_len, vec_capacity}
use Rattle.token_sem.specs.Entries.{loss_of_one}
use Rattle.token_sem.proofs.table.Entries.lose_owners.Given as goal

abbrev pub invariant-loop-owner : goal.invariant-loop-owner
invariant-loop-owner l = record {
  state : fold (loss_of_one l.initial.self.named l.now) (record { entries = l.initial.self.list; grants = [] }) (take l.owner-index l.owners) ≡ record { entries = l.self.list; grants = l.grants.items };
  named : l.self.named ≡ l.initial.self.named;
  room : vec_len l.grants ≤ l.owner-index;
  capacity : vec_capacity l.grants ≡ vec_capacity l.initial.grants;
}
