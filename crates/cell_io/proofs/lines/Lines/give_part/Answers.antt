use Rattle.std.proofs.Common.{arith, ◌≡◌, ◌-◌, List, ℕ, take, drop, ap, sym, ◌∙◌, length-take, rules}
use Rattle.cell_io.specs.Held.{Held}
use Rattle.cell_io.specs.Lines.{after_line}
use Rattle.cell_io.proofs.Texts.{given_of}
use Rattle.cell_io.proofs.lines.Lines.give_part.Goals as goal

pub returns-clause-part : goal.returns-clause-part
returns-clause-part c =
    let s = c.self.inside in
    let window = λ (l : List ℕ). take (s.end - s.start) (drop s.start l) in
    let held : window c.deref.result.now ≡ c.args.self.now.octets = ap window c.deref.ensures.value ∙ ap (λ (h : Held). h.octets) c.self.view_is in
    let size = length-take (s.end - s.start) (drop s.start c.deref.result.now) in
    record {
      line = search rules;
      rest = given_of s.chunk.items s.start s.end c.first_part-part.result.size (omega (arith, c.first_part-part.ensures.within, size, c.self.invariant.0))
          ∙ ap (λ (l : List ℕ). drop c.first_part-part.result.size (window l)) (sym c.deref.ensures.value)
          ∙ c.first_part-part.ensures.after ∙ ap after_line held;
      size = search rules;
    }
