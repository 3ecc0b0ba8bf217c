use Rattle.std.proofs.Common.{Some, ap, refl, sym, ◌∙◌}
use Rattle.cell_words.specs.declared.words.Command.{Command}
use Rattle.cell_words.specs.declared.words.Command.TheVariants.{Replay, Run}
use Rattle.cell_words.specs.Words.{command_of, texts}
use Rattle.cell_run.proofs.Endings.{asked_ends, asked_stress}
use Rattle.cell_words.proofs.Ranges.{asked_range, stress_range}
use Rattle.cell_run.proofs.top.serve.Goals as goal

pub run-requires-clause-workers : goal.run-requires-clause-workers
run-requires-clause-workers g c κs within =
    let w = c.in-Some-Run in
    asked_range (texts c.args.words.now) w.workers (sym w.ensures ∙ ap (λ (x : Command). Some x) w.field-0-is)

pub returns-in-Some-Replay-clause-ends : goal.returns-in-Some-Replay-clause-ends
returns-in-Some-Replay-clause-ends g c =
    let w = c.in-Some-Replay in
    asked_ends Replay (command_of (texts c.args.words.now)) c.serve_alone.result _ _ _ _ tt (sym w.ensures ∙ ap (λ (x : Command). Some x) w.field-0-is) c.serve_alone.ensures.ends

pub returns-in-Some-Run-clause-ends : goal.returns-in-Some-Run-clause-ends
returns-in-Some-Run-clause-ends g c =
    let w = c.in-Some-Run in
    asked_ends (Run w.workers) (command_of (texts c.args.words.now)) c.run.result _ _ _ _ tt (sym w.ensures ∙ ap (λ (x : Command). Some x) w.field-0-is) c.run.ensures.ends

pub stress-requires-clause-clients : goal.stress-requires-clause-clients
stress-requires-clause-clients g c κs within =
    let w = c.in-Some-Stress in
    (stress_range (texts c.args.words.now) w.seed w.clients w.rounds w.workers (sym w.ensures ∙ ap (λ (x : Command). Some x) w.field-0-is)).0

pub stress-requires-clause-rounds : goal.stress-requires-clause-rounds
stress-requires-clause-rounds g c κs within =
    let w = c.in-Some-Stress in
    (stress_range (texts c.args.words.now) w.seed w.clients w.rounds w.workers (sym w.ensures ∙ ap (λ (x : Command). Some x) w.field-0-is)).1.1

pub stress-requires-clause-workers : goal.stress-requires-clause-workers
stress-requires-clause-workers g c κs within =
    let w = c.in-Some-Stress in
    (stress_range (texts c.args.words.now) w.seed w.clients w.rounds w.workers (sym w.ensures ∙ ap (λ (x : Command). Some x) w.field-0-is)).2

pub returns-in-Some-Stress-clause-ends : goal.returns-in-Some-Stress-clause-ends
returns-in-Some-Stress-clause-ends g c =
    let w = c.in-Some-Stress in
    asked_stress w.seed w.clients w.rounds w.workers (command_of (texts c.args.words.now)) c.stress.result _ _ _ _ (sym w.ensures ∙ ap (λ (x : Command). Some x) w.field-0-is) refl c.stress.ensures.ends
