use Rattle.std.proofs.Common.{◌≡◌, ◌-◌, arith, length, refl, suc}
use Rattle.std.proofs.lemmas.Result.{on_err_weaker, on_ok_weaker}
use Rattle.domain_load.proofs.BlockLemmas.{fill_last, keep_last}
use Rattle.domain_load.proofs.store.fill.Goals as goal

pub returns-in-Some-clause-filled : goal.returns-in-Some-clause-filled
returns-in-Some-clause-filled c =
    let some = c.in-Some.ensures.variant.0 refl in
    let ok = c.args.blocks.now.ok in
    let last : suc (c.args.blocks.now.len - 1) ≡ length c.args.blocks.now.items = omega (arith, some, ok) in
    on_ok_weaker c.extend.result
    (fill_last (λ block. block.items) c.args.blocks.now.items (c.args.blocks.now.len - 1) c.in-Some.last.now c.extend.new.block c.args.octets.now last c.in-Some.ensures.value)
    c.extend.ensures.appended

pub returns-in-Some-clause-kept : goal.returns-in-Some-clause-kept
returns-in-Some-clause-kept c =
    let some = c.in-Some.ensures.variant.0 refl in
    let ok = c.args.blocks.now.ok in
    let last : suc (c.args.blocks.now.len - 1) ≡ length c.args.blocks.now.items = omega (arith, some, ok) in
    on_err_weaker c.extend.result
    (keep_last (λ block. block.items) c.args.blocks.now.items (c.args.blocks.now.len - 1) c.in-Some.last.now c.extend.new.block last c.in-Some.ensures.value)
    c.extend.ensures.kept
