use Rattle.std.proofs.Common.{◌≡◌, ◌++◌, map}
use Rattle.std.specs.List.{zip}
use Rattle.variables.specs.Access.{result_of}
use Rattle.variables.proofs.NewValues.{asked, news}
use Rattle.variables.proofs.vars.Vars.results.Given as goal

-- what became of the variables so far, with the new values of these, and then of those that are left
abbrev pub invariant-loop-spec : goal.invariant-loop-spec
invariant-loop-spec g l =
    (l.results ++ map (result_of l.client l.self) (map (asked (g.O.OwnsGuards.owns l.by) l.client l.self) (zip l.spec-iterator.a.rest.now l.spec-iterator.b.rest.now))
    ≡ map (result_of l.client l.self) (map (asked (g.O.OwnsGuards.owns l.by) l.client l.self) (zip l.variables l.values)))
    × (l.new ++ news l.client l.self (map (asked (g.O.OwnsGuards.owns l.by) l.client l.self) (zip l.spec-iterator.a.rest.now l.spec-iterator.b.rest.now))
    ≡ news l.client l.self (map (asked (g.O.OwnsGuards.owns l.by) l.client l.self) (zip l.variables l.values)))
