use Rattle.std.proofs.Common.{List, ℕ, arith, length-drop, ap, ◌∙◌, drop, take, ◌-◌, ◌+◌}
use Rattle.ber_core.proofs.Written.{enclosed}
use Rattle.ber_core.proofs.writer.enclose_any.Goals as goal

pub returns-clause-ok : goal.returns-clause-ok
returns-clause-ok c =
    let since = c.args.since in
    enclosed c.args.bytes.now.items c.open.new.bytes.items c.put_header.new.bytes.items c.args.tag since (c.len.result - since) (c.identifier_width.result + c.length_width.result)
    (omega (arith, length-drop since c.args.bytes.now.items)) (omega arith)
    (c.open.ensures.front ∙ ap (λ (s : List ℕ). take since s) c.reserve.ensures.items)
    (c.open.ensures.rest ∙ ap (λ (s : List ℕ). drop since s) c.reserve.ensures.items)
    c.put_header.ensures
