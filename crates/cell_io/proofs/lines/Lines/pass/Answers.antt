use Rattle.std.proofs.Common.{arith, ◌≡◌, ◌-◌, List, ℕ, take, drop, length, ap, ◌∙◌, length-take}
use Rattle.cell_io.specs.Held.{Held}
use Rattle.cell_io.proofs.Texts.{given_of}
use Rattle.cell_io.proofs.lines.Lines.pass.Goals as goal

pub returns-clause-octets : goal.returns-clause-octets
returns-clause-octets c =
    let s = c.self.inside in
    let held : take (s.end - s.start) (drop s.start s.chunk.items) ≡ c.args.self.now.octets = ap (λ (h : Held). h.octets) c.self.view_is in
    let size = length-take (s.end - s.start) (drop s.start s.chunk.items) in
    let same = ap (λ (l : List ℕ). length l) held in
    given_of s.chunk.items s.start s.end c.args.size (omega (arith, c.requires.held, size, same, c.self.invariant.0)) ∙ ap (drop c.args.size) held
