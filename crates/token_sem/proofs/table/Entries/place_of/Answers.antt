use Rattle.std.proofs.Common.{rules, ◌<◌, Ok, Err, List, length, subst}
use Rattle.std.specs.List.Sorted.{IsBinarySearchResult}
use Rattle.std.specs.Ordering.{nat_cmp}
use Rattle.std.proofs.lemmas.List.Sorted.{answers_always}
use Rattle.token_sem.specs.declared.entry.SemEntry.{SemEntry}
use Rattle.token_sem.proofs.Positions.{no_entry, search-found, search-missing}
use Rattle.token_sem.proofs.table.Entries.place_of.Goals as goal

pub returns-in-Ok-clause-there : goal.returns-in-Ok-clause-there
returns-in-Ok-clause-there c =
    let i = c.self.inside in
    let by_number : IsBinarySearchResult (λ (e : SemEntry). nat_cmp e.number c.args.number) i.list.items (Ok c.in-Ok.place) =
    subst (λ (l : List SemEntry). IsBinarySearchResult (λ (e : SemEntry). nat_cmp e.number c.args.number) l (Ok c.in-Ok.place)) c.as_slice.ensures.value
    (c.in-Ok.ensures.position (λ (e : SemEntry). e.number) (answers_always _ _ _ (λ f a r g called. search rules))) in
    let lt : c.in-Ok.place < length i.list.items = subst (λ (l : List SemEntry). c.in-Ok.place < length l) c.as_slice.ensures.value c.in-Ok.ensures.bound in
    rw (← c.self.view_is) (search-found i.list.items c.self.invariant.rises.0 c.self.invariant.rises.1 c.args.number c.in-Ok.place lt by_number no_entry).1

pub returns-in-Err-clause-absent : goal.returns-in-Err-clause-absent
returns-in-Err-clause-absent c _ =
    let i = c.self.inside in
    let by_number : IsBinarySearchResult (λ (e : SemEntry). nat_cmp e.number c.args.number) i.list.items (Err c.in-Err.field-0) =
    subst (λ (l : List SemEntry). IsBinarySearchResult (λ (e : SemEntry). nat_cmp e.number c.args.number) l (Err c.in-Err.field-0)) c.as_slice.ensures.value
    (c.in-Err.ensures.position (λ (e : SemEntry). e.number) (answers_always _ _ _ (λ f a r g called. search rules))) in
    rw (← c.self.view_is) (search-missing i.list.items c.self.invariant.rises.0 c.self.invariant.rises.1 c.args.number c.in-Err.field-0 by_number)
