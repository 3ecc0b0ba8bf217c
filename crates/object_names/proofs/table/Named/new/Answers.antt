use Rattle.std.proofs.Common.{ap, arith, length, subst, sym, []}
use Rattle.std.specs.Map.{keys_of}
use Rattle.object_names.specs.Index.{IsIndexOf}
use Rattle.object_names.proofs.Places.{no_rows}
use Rattle.object_names.proofs.table.Named.new.Goals as goal

pub invariant_of-result : goal.invariant_of-result
invariant_of-result g c =
    let none = ap (λ es. length es) c.new.ensures.empty in (
      subst (λ ps. IsIndexOf (keys_of c.new.result.entries) ps) (sym c.new-2.ensures.items) (subst (λ es. IsIndexOf (keys_of es) []) (sym c.new.ensures.empty) no_rows),
      omega (arith, none),
    )
