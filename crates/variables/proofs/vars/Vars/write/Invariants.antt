use Rattle.std.proofs.Common.{◌≡◌}
use Rattle.variables.specs.NewValues.{with_new_values}
use Rattle.variables.proofs.vars.Vars.write.Given as goal

-- the values that are left come to the same as all
abbrev pub invariant-loop-new : goal.invariant-loop-new
invariant-loop-new l = with_new_values l.new-iterator.rest.items l.self ≡ with_new_values l.fn.values l.fn.self
