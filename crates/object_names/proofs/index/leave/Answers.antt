use Rattle.std.proofs.Common.{◌∙◌, ◌-◌, ap, sym, subst, filter, get_or, map}
use Rattle.std.specs.Map.{keys_of}
use Rattle.object_names.specs.Index.{AreRanks, IsIndexOf}
use Rattle.object_names.proofs.Ranked.{leave_index}
use Rattle.object_names.proofs.index.leave.Goals as goal

pub returns-clause-index : goal.returns-clause-index
returns-clause-index g c =
    let stays = g.K.Keeps.stays c.args.by.now in
    let rows = c.args.rows.now.entries in
    let numbers = c.as_slice-numbers.result.now in
    let are : AreRanks stays rows numbers = subst (AreRanks stays rows) (sym c.as_slice-numbers.ensures.value) c.rank.ensures.ranks in
    subst (IsIndexOf (keys_of (filter stays rows)))
    (sym (c.renumber.ensures ∙ ap (map (λ place. get_or numbers place 0 - 1)) c.drop_unranked.ensures))
    (leave_index stays rows c.args.places.now.items numbers c.requires.index are)
