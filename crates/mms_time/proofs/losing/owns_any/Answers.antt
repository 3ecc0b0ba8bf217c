use Rattle.std.proofs.Common.{◌≡◌, false, sym, true}
use Rattle.std.specs.List.{list_any}
use Rattle.token_sem.specs.Semaphore.{owned_by}
use Rattle.mms_time.specs.Semaphores.{entries_of}
use Rattle.mms_time.proofs.Unowned.{any_at, none_more}
use Rattle.mms_time.proofs.losing.owns_any.Goals as goal

pub returns-then-owns : goal.returns-then-owns
returns-then-owns c =
    let yes : list_any (owned_by c.args.client) (entries_of c.in-Some.row.now) ≡ true = cc in
    sym (any_at (λ row. list_any (owned_by c.args.client) (entries_of row.1)) c.args.semaphores.now c.loop-place.place _ c.in-Some.ensures.row yes)

pub loop-place-preserved : goal.loop-place-preserved
loop-place-preserved c =
    let no : list_any (owned_by c.args.client) (entries_of c.in-Some.row.now) ≡ false = cc in (
      none_more (λ row. list_any (owned_by c.args.client) (entries_of row.1)) c.args.semaphores.now c.loop-place.place _ c.in-Some.ensures.row no c.loop-place.invariant.0,
      c.loop-place.invariant.1,
    )
