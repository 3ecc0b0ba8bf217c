use Rattle.std.proofs.Common.{◌≡◌, ◌∙◌, ap, sym, false, Option, List, ℕ}
use Rattle.std.specs.Prelude.{is_some}
use Rattle.serve_semaphores.proofs.TokenLaws.{give_unanswered, none_of, when_none}
use Rattle.serve_semaphores.proofs.granting.granting.Goals as goal

pub returns-in_default-clause-served : goal.returns-in_default-clause-served
returns-in_default-clause-served c facts =
    let none = none_of c.in_ok-octets.field-0 c.in_default.not-Some in
    give_unanswered c.args.own.now.row c.answer_of.new.own c.args.invoke facts c.args.asked.now c.args.rows.now c.requires.grants
    (sym c.in_ok-octets.ensures.fits ∙ ap (λ (o : Option (List ℕ)). is_some o) none)
    (when_none c.in_ok-octets.field-0 none c.in_ok-octets.ensures.refused)
