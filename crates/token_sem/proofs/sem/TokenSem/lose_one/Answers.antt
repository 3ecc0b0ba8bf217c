use Rattle.std.proofs.Common.{◌≡◌, ◌∙◌, [], None, ap, sym, subst}
use Rattle.token_sem.specs.Semaphore.{Sem, IsSem, Loss}
use Rattle.token_sem.specs.Entries as e
use Rattle.token_sem.specs.Entries.{Table}
use Rattle.token_sem.proofs.LosingOne.{lose_one-keeps}
use Rattle.token_sem.proofs.Tabled.{lose_one-equal}
use Rattle.token_sem.proofs.sem.TokenSem.lose_one.Goals as goal

pub invariant_of-self : goal.invariant_of-self
invariant_of-self c =
    let t : Table = c.self.inside.entries in
    let s : Sem = record { tokens = c.self.inside.tokens; made = c.self.inside.made; entries = t.list } in
    let state = ap (λ (u : Table). record s { entries = u.list }) c.lose_one.ensures.state
    ∙ ap (λ (l : Loss). record s { entries = l.entries }) (lose_one-equal t.named c.args.client c.args.now (record { entries = t.list; grants = [] }) c.self.invariant.1) in
    (subst IsSem (sym state) (lose_one-keeps s c.args.client c.args.now c.self.invariant.0), ap (λ (u : Table). u.named) c.lose_one.ensures.state ∙ c.self.invariant.1)
