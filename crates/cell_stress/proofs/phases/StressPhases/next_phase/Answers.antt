use Rattle.std.proofs.Common.{◌+◌, ◌-◌, ◌∷◌, ◌≡◌, sym, ap, ◌∙◌}
use Rattle.rand_pcg.specs.Lcg.{Lcg, advance}
use Rattle.rand_pcg.specs.Pcg.{multiplier_64}
use Rattle.cell_stress.specs.Stress.{phases_left, random_at, round_of}
use Rattle.cell_stress.proofs.Made.{next_round}
use Rattle.cell_stress.proofs.phases.StressPhases.next_phase.Goals as goal

pub returns-in_ok-events-in-Rounds-2-clause-made : goal.returns-in_ok-events-in-Rounds-2-clause-made
returns-in_ok-events-in-Rounds-2-clause-made c =
    let s = c.self.inside in
    let begun = c.from_state-random.ensures in
    let events = c.in_ok-events-in-Rounds-2.events in
    let made = c.in_ok-events-in-Rounds-2.ensures.events ∙ ap (λ (g : Lcg). round_of g s.clients s.round) begun in
    let moved = c.in_ok-events-in-Rounds-2.ensures.random ∙ ap (advance 64 multiplier_64 s.clients) begun in
    let after : random_at c.state-self-inside.result ≡ advance 64 multiplier_64 s.clients (random_at s.state) = ap random_at (c.state-self-inside.ensures ∙ ap (λ (g : Lcg). g.state) moved) in
    sym c.self.view_is ∙ ap (λ t. phases_left t (random_at s.state) s.clients s.round s.left) c.in-Rounds.is
    ∙ next_round (random_at s.state) s.clients s.round s.left events (random_at c.state-self-inside.result) c.if-self-eq0.false made after
    ∙ ap (λ t. events ∷ phases_left t (random_at c.state-self-inside.result) s.clients (s.round + 1) (s.left - 1)) (sym c.in-Rounds.is)
