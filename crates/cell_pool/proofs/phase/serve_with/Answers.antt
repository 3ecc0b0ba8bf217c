use Rattle.std.proofs.Common.{rules, ap, length}
use Rattle.cell_pool.specs.Items.{HasWorked}
use Rattle.cell_pool.proofs.Flags.{told}
use Rattle.cell_pool.proofs.Laying.{covered, laid_kept}
use Rattle.cell_pool.proofs.Served.{made_by, served}
use Rattle.cell_pool.proofs.Taking.{All_kept, told_kept}
use Rattle.cell_pool.proofs.phase.serve_with.Goals as goal

pub take_out-requires-clause-laid : goal.take_out-requires-clause-laid
take_out-requires-clause-laid g c κs within p lt =
    let e = ap (λ l. length l) c.requires.given in
    laid_kept (λ i. i.place) c.lay_all.new.slots _ _ p (search rules)
    (c.lay_all.ensures.laid p (covered (λ i. i.place) (λ list. list.items) _ p _ c.serve_left-lists.ensures.each lt))

pub returns-clause-served : goal.returns-clause-served
returns-clause-served g c =
    let e = c.take_out.ensures in
    let len = ap (λ l. length l) c.requires.given in
    served g.C.Given.fit g.T.Turn.made _ _ (search rules) e.fit (made_by g.T.Turn.made _ _ _ c.requires.given e.made)

pub take_out-requires-clause-told : goal.take_out-requires-clause-told
take_out-requires-clause-told g c κs within =
    let e = ap (λ l. length l) c.requires.given in
    told_kept (λ i. i.ended) (λ i. i.short) c.lay_all.new.slots _ _ (search rules)
    (told (λ i. i.place) (λ list. list.items) (λ i. i.ended) (λ i. i.short) _ _ _ c.lay_all.new.slots c.lay_all.ensures.len c.serve_left-lists.ensures.each c.serve_left-lists.ensures.settled c.lay_all.ensures.same)

pub join_all-lists-requires-clause-crew : goal.join_all-lists-requires-clause-crew
join_all-lists-requires-clause-crew g c κs within =
    All_kept (HasWorked c.args.means.queue) c.serve_all.new.crew _ _ (search rules) c.serve_all.ensures.crew
