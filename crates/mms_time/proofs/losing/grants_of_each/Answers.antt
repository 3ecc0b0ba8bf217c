use Rattle.std.proofs.Common.{◌≡◌, ◌∙◌, ap, map, sym, List}
use Rattle.std.specs.List.{flat_map}
use Rattle.mms_types.specs.declared.key.Key.{Key}
use Rattle.mms_time.specs.Loss.{sorted_keys}
use Rattle.mms_time.proofs.Owned.{all_named, grants_here, owned_tell}
use Rattle.mms_time.proofs.losing.grants_of_each.Goals as goal

pub returns : goal.returns
returns c =
    let rows = c.args.semaphores.now in
    c.loop-key.invariant
    ∙ ap (flat_map (grants_here c.args.client c.args.now rows))
    (all_named c.deref-key-items.result.now c.loop-key.key-index c.loop-key-test.false ∙ ap (map (λ key. key.now)) c.deref-key-items.ensures.value ∙ c.in_order-keys.ensures
    ∙ ap sorted_keys c.in_ok-owned_keys.ensures)
    ∙ owned_tell c.args.client c.args.now rows c.len-rows.ensures.distinct
