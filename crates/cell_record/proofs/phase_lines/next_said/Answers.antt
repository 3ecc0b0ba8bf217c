use Rattle.std.proofs.Common.{ℕ, List, subst, rules}
use Rattle.cell_record.specs.PhaseLines.{BeginsWithLine, SaysSent}
use Rattle.cell_record.proofs.Plain.{still_open}
use Rattle.cell_record.proofs.phase_lines.next_said.Goals as goal

pub held_said-requires : goal.held_said-requires
held_said-requires g c =
    let front = rw c.in-Some.is at c.in_ok-sent.ensures.line in
    let told = rw c.in-Some.is at c.in_ok-sent.ensures.says in
    let unended = still_open c.args.lines.now.held.ended c.held.result.now c.args.lines.now.held.octets c.held.ensures.octets c.held.ensures.none front.feed in
    let same = c.held.ensures.octets unended in
    record {
      counts = c.requires;
      line = record {
        unended = unended;
        line = subst (λ (text : List ℕ). BeginsWithLine text c.in-Some.sent.size) same front;
        few = search rules;
      };
      says = subst (λ (text : List ℕ). SaysSent text c.in-Some.sent.client c.in-Some.sent.octets) same told;
    }

pub returns-in-Ok-clause-says : goal.returns-in-Ok-clause-says
returns-in-Ok-clause-says g c = c.in-Ok.ensures.says (g.S.Source.left c.args.input.now)
