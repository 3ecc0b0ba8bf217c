use Rattle.std.proofs.Common.{◌≡◌, ◌++◌, sym, ap, subst}
use Rattle.ber_core.specs.Element.{IsElement}
use Rattle.ber_core.specs.Part.{Remaining}
use Rattle.ber_core.proofs.reader.Reader.next.Goals as goal

pub returns-clause-only : goal.returns-clause-only
returns-clause-only c = λ taken rest p e split.
    let here : c.self.inside.bytes.now ≡ taken ++ rest = cc (split, c.self.view_is) in
    c.in_ok-found.ensures.only taken rest p (subst (λ l. IsElement l taken p) (ap (λ (r : Remaining). r.lengths) (sym c.self.view_is)) e) here

pub returns-in_err-found-clause-only : goal.returns-in_err-found-clause-only
returns-in_err-found-clause-only c = λ taken rest p e split.
    let here : c.self.inside.bytes.now ≡ taken ++ rest = cc (split, c.self.view_is) in
    absurd (c.in_err-found.ensures.only taken rest p (subst (λ l. IsElement l taken p) (ap (λ (r : Remaining). r.lengths) (sym c.self.view_is)) e) here)
