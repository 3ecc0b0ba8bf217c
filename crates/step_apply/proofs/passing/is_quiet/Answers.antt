use Rattle.std.proofs.Common.{◌≡◌, ◌+◌, ◌||◌, ◌∙◌, ap, sym, ℕ, Bool, is_some, rules}
use Rattle.mms_types.specs.declared.moment.Moment.{Moment}
use Rattle.mms_time.specs.Deadlines.{next_due}
use Rattle.event_cond.specs.Skips.{any_due}
use Rattle.part_table.specs.Held.{held_at}
use Rattle.step_parts.specs.Partition.{clock_in, events_in, semaphores_in, semaphores_place}
use Rattle.step_apply.proofs.QuietTime.{loud, not_so, or_true, quiet, quiet_alone, so_then}
use Rattle.step_apply.proofs.passing.is_quiet.Goals as goal

moment : ℕ → Moment
moment m = record { 0 = m }

pub returns-then-not-are_held-clause-due : goal.returns-then-not-are_held-clause-due
unfolding moment
returns-then-not-are_held-clause-due c told =
    let same : clock_in (held_at c.args.held.now 0) + c.args.ms ≡ c.now.result.0 + c.from.result = search rules in
    quiet_alone (record { 0 = clock_in (held_at c.args.held.now 0) + c.args.ms }) (semaphores_in (held_at c.args.held.now (semaphores_place c.args.clients))) (events_in (held_at c.args.held.now 4)).conditions
    (c.are_held.ensures.none c.if-not-are_held.true)
    (ap (λ (m : ℕ). any_due (moment m) (events_in (held_at c.args.held.now 4)).conditions) same ∙ sym c.evaluates.ensures ∙ c.if-evaluates.false)

pub returns-clause-due : goal.returns-clause-due
unfolding moment
returns-clause-due c told =
    let same : clock_in (held_at c.args.held.now 0) + c.args.ms ≡ c.now.result.0 + c.from.result = search rules in
    quiet (record { 0 = clock_in (held_at c.args.held.now 0) + c.args.ms }) (semaphores_in (held_at c.args.held.now (semaphores_place c.args.clients))) (events_in (held_at c.args.held.now 4)).conditions
    (ap (λ (m : ℕ). is_some (next_due (moment m) (semaphores_in (held_at c.args.held.now (semaphores_place c.args.clients))))) same
    ∙ sym c.comes_due.ensures.due ∙ not_so c.comes_due.result told)
    (ap (λ (m : ℕ). any_due (moment m) (events_in (held_at c.args.held.now 4)).conditions) same ∙ sym c.evaluates.ensures ∙ c.if-evaluates.false)

pub returns-then-evaluates-clause-wants : goal.returns-then-evaluates-clause-wants
unfolding moment
returns-then-evaluates-clause-wants c told clock =
    let same : clock_in (held_at c.args.held.now 0) + c.args.ms ≡ c.now.result.0 + c.from.result = search rules in
    let semaphores = semaphores_in (held_at c.args.held.now (semaphores_place c.args.clients)) in
    let conditions = (events_in (held_at c.args.held.now 4)).conditions in
    loud (record { 0 = clock_in (held_at c.args.held.now 0) + c.args.ms }) semaphores conditions
    (ap (λ (b : Bool). is_some (next_due (record { 0 = clock_in (held_at c.args.held.now 0) + c.args.ms }) semaphores) || b)
    (ap (λ (m : ℕ). any_due (moment m) conditions) same ∙ sym c.evaluates.ensures ∙ c.if-evaluates.true)
    ∙ or_true (is_some (next_due (record { 0 = clock_in (held_at c.args.held.now 0) + c.args.ms }) semaphores)))

pub returns-clause-wants : goal.returns-clause-wants
unfolding moment
returns-clause-wants c told clock =
    let same : clock_in (held_at c.args.held.now 0) + c.args.ms ≡ c.now.result.0 + c.from.result = search rules in
    let semaphores = semaphores_in (held_at c.args.held.now (semaphores_place c.args.clients)) in
    let conditions = (events_in (held_at c.args.held.now 4)).conditions in
    loud (record { 0 = clock_in (held_at c.args.held.now 0) + c.args.ms }) semaphores conditions
    (ap (λ (b : Bool). b || any_due (record { 0 = clock_in (held_at c.args.held.now 0) + c.args.ms }) conditions)
    (ap (λ (m : ℕ). is_some (next_due (moment m) semaphores)) same ∙ sym c.comes_due.ensures.due ∙ so_then c.comes_due.result told))
