use Rattle.std.proofs.Common.{◌∙◌, ap, length, sym}
use Rattle.std.proofs.lemmas.Map.{length-set_value}
use Rattle.std.proofs.lemmas.Map.Steps.{set_value_same}
use Rattle.std.proofs.lemmas.Result.{on_err_weaker}
use Rattle.std.specs.Map.{set_value}
use Rattle.mms_types.specs.Order.{key_eq, key_of}
use Rattle.mms_journal.proofs.writing.write_named.Goals as goal

pub returns-in-Some-clause-kept : goal.returns-in-Some-clause-kept
returns-in-Some-clause-kept c =
    let rows = c.args.rows.now in
    let key = key_of c.args.client c.args.name.now in
    let through = c.named_mut.follows.holds c.write.new.self in
    on_err_weaker c.write.result
    (λ kept. through ∙ ap (λ journal. set_value (key_eq key) rows journal) kept ∙ set_value_same (key_eq key) rows c.in-Some.journal.now (sym c.in-Some.ensures.value))
    c.write.ensures.kept

pub returns-in-Some-clause-many : goal.returns-in-Some-clause-many
returns-in-Some-clause-many c =
    let through = c.named_mut.follows.holds c.write.new.self in
    ap length through ∙ length-set_value (key_eq (key_of c.args.client c.args.name.now)) c.args.rows.now c.write.new.self
