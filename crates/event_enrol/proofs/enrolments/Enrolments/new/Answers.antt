use Rattle.std.proofs.Common.{ap, arith, length, refl, subst, sym, []}
use Rattle.std.specs.List.{list_all}
use Rattle.event_enrol.specs.Enrolments.{has_own_names}
use Rattle.event_enrol.specs.Groups.{IsIndexOf}
use Rattle.event_enrol.proofs.enrolments.Enrolments.new.Goals as goal

pub invariant_of-result : goal.invariant_of-result
invariant_of-result c =
    let none = ap (λ es. length es) c.new.ensures.empty in
    let nothing : IsIndexOf [] [] = λ k. refl in (
      omega (arith, none),
      ap (list_all has_own_names) c.new.ensures.empty,
      subst (λ gs. IsIndexOf c.new.result.entries gs) (sym c.new-2.ensures.empty) (subst (λ es. IsIndexOf es []) (sym c.new.ensures.empty) nothing),
    )
