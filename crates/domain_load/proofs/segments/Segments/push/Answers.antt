use Rattle.std.proofs.Common.{◌≡◌, ◌∙◌, ◌∷◌, ◌++◌, [], ap, arith, length, sum, sym}
use Rattle.std.proofs.lemmas.List.{length-append}
use Rattle.domain_load.specs.Kept.{cut}
use Rattle.domain_load.specs.Segmented.{octets_in}
use Rattle.domain_load.proofs.Cuts.{cut_append, octets_cut, sum_more}
use Rattle.domain_load.proofs.segments.Segments.push.Goals as goal

pub invariant_of-self-2 : goal.invariant_of-self-2
invariant_of-self-2 c =
    let octets = c.args.octets.now in
    let joined = c.self.inside.joined in
    let lengths = c.self.inside.lengths.items in
    let is : c.push.new.self.items ≡ lengths ++ length octets ∷ [] = c.in-Ok.ensures.items ∙ ap (λ ns. ns ++ length octets ∷ []) c.in_ok-reserve.ensures.items in
    let many = octets_cut lengths joined c.self.invariant.0 in
    let seen = ap octets_in c.self.view_is in
    let long = ap length c.in_ok-append.ensures.appended in
    let more = length-append joined octets in
    (ap sum is ∙ sum_more lengths joined octets c.self.invariant.0 ∙ sym long, omega (arith, many, seen, long, more, c.requires))

pub returns-clause-appended : goal.returns-clause-appended
returns-clause-appended c =
    let octets = c.args.octets.now in
    let joined = c.self.inside.joined in
    let lengths = c.self.inside.lengths.items in
    let is : c.push.new.self.items ≡ lengths ++ length octets ∷ [] = c.in-Ok.ensures.items ∙ ap (λ ns. ns ++ length octets ∷ []) c.in_ok-reserve.ensures.items in
    ap (λ ns. cut ns c.append.new.self) is
    ∙ ap (cut (lengths ++ length octets ∷ [])) c.in_ok-append.ensures.appended
    ∙ cut_append lengths joined octets c.self.invariant.0
    ∙ ap (λ xs. xs ++ octets ∷ []) c.self.view_is
