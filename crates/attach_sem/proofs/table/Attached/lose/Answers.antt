use Rattle.std.proofs.Common.{◌≡◌, ◌+◌, ◌-◌, ℕ, List, length, ap, ap₂, count_by, arith}
use Rattle.attach_sem.specs.Table.{is_by}
use Rattle.attach_sem.specs.declared.table.Pair.{Pair}
use Rattle.attach_sem.proofs.Going.{parted, still-distinct}
use Rattle.attach_sem.proofs.table.Attached.lose.Goals as goal

pub invariant_of-self : goal.invariant_of-self
invariant_of-self c = (
  omega (arith, c.lose.ensures.len, c.lose.ensures.capacity, c.len-before.ensures, c.len.ensures, c.self.invariant.0),
  rw c.lose.ensures.pairs (still-distinct (is_by c.args.client) c.self.inside.pairs.items c.self.invariant.1),
)

pub returns : goal.returns
returns c =
    let i = c.self.inside in
    let went = parted (is_by c.args.client) i.pairs.items in
    let left = ap length c.lose.ensures.pairs in
    let room : c.len-before.result - c.len.result ≡ count_by (is_by c.args.client) i.pairs.items =
    omega (arith, went, left, c.len-before.ensures, c.len.ensures, i.pairs.ok.0, c.lose.new.pairs.ok.0) in
    rw (← c.self.view_is) (ap₂ (λ (l : List Pair) (n : ℕ). record { pairs = l; spare = n }) c.lose.ensures.pairs (ap (λ n. i.spare + n) room))
