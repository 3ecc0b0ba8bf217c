use Rattle.std.proofs.Common.{◌∙◌, ℕ, Option, not, filter, List, sym, ap}
use Rattle.token_sem.specs.declared.entry.SemEntry.{SemEntry}
use Rattle.token_sem.specs.Semaphore.{waits_for}
use Rattle.token_sem.specs.Entries.{Table}
use Rattle.token_sem.proofs.Tabled.{no-waiter, waiter-goes}
use Rattle.token_sem.proofs.table.Entries.lose_waiters.Goals as goal

pub loop-entry-smaller : goal.loop-entry-smaller
loop-entry-smaller c =
    let goes = waiter-goes c.args.client c.loop-entry.self c.in-Some.entry c.in-Some.ensures.always (sym c.in-Some.ensures.waiter) in
    rw c.remove.ensures goes.1

pub loop-entry-preserved : goal.loop-entry-preserved
loop-entry-preserved c =
    let goes = waiter-goes c.args.client c.loop-entry.self c.in-Some.entry c.in-Some.ensures.always (sym c.in-Some.ensures.waiter) in
    record {
      same = ap (λ (t : Table). filter (λ e. not (waits_for c.args.client e)) t.list) c.remove.ensures ∙ goes.0 ∙ c.loop-entry.invariant.same;
      named = ap (λ (t : Table). t.named) c.remove.ensures ∙ c.loop-entry.invariant.named;
    }

pub returns : goal.returns
returns c =
    let all = no-waiter c.args.client c.loop-entry.self.list (sym c.in_default.ensures.waiter) in
    let list = sym all ∙ c.loop-entry.invariant.same in
    ap (λ (l : List SemEntry). record { list = l; named = c.loop-entry.self.named }) list
    ∙ ap (λ (n : Option ℕ). record { list = filter (λ e. not (waits_for c.args.client e)) c.args.self.now.list; named = n }) c.loop-entry.invariant.named
