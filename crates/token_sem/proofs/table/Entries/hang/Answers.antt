use Rattle.std.proofs.Common.{◌==◌, ◌∙◌, List, sym, ap}
use Rattle.token_sem.specs.declared.entry.SemEntry.{SemEntry}
use Rattle.token_sem.specs.Entries.{lists_of}
use Rattle.token_sem.proofs.Keeping.{among-find}
use Rattle.token_sem.proofs.Tabled.{hung-state, hung-none, hung-ranks, placed-among}
use Rattle.token_sem.proofs.table.Entries.hang.Goals as goal

pub returns-in_default : goal.returns-in_default
returns-in_default c = ap (λ (l : List SemEntry). record c.args.self.now { list = l }) (sym (hung-none c.args.number c.args.self.now.list (sym c.in_default.ensures.entry)))

pub put-requires-clause-placed : goal.put-requires-clause-placed
put-requires-clause-placed c =
    let t = c.args.self.now in
    let found = among-find (λ e. e.number == c.args.number) t.list c.in-Some.entry (sym c.in-Some.ensures.entry) in
    placed-among (lists_of t.named) t.list c.in-Some.entry c.in-Some.ensures.always.placed found.0

pub put-requires-clause-ranked : goal.put-requires-clause-ranked
put-requires-clause-ranked c = hung-ranks c.args.number c.args.self.now.list c.in-Some.entry (sym c.in-Some.ensures.entry)

pub returns : goal.returns
returns c =
    let t = c.args.self.now in
    c.put.ensures ∙ ap (λ (l : List SemEntry). record t { list = l }) (hung-state c.args.number c.in-Some.ensures.always.rises.0 t.list c.in-Some.entry c.in-Some.ensures.always.rises.1 (sym c.in-Some.ensures.entry))
