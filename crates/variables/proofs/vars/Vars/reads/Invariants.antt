use Rattle.std.proofs.Common.{◌≡◌, map, take}
use Rattle.variables.specs.Access.{read_of}
use Rattle.variables.proofs.vars.Vars.reads.Given as goal

-- the variables up to the index are read
abbrev pub invariant-loop-spec : goal.invariant-loop-spec
invariant-loop-spec l = l.answers ≡ map (read_of l.client l.self) (take l.spec-index l.variables)
