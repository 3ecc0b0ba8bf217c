-- Pieces one after the other are the octets of a domain.
use Rattle.std.proofs.Common.{◌≡◌, ℕ, ◌+◌, ◌<◌, ◌≤◌, true, false, List, ◌++◌, drop, length, take, ap, sym, ◌∙◌, arith}
use Rattle.std.specs.List.{concat}
use Rattle.std.proofs.Math.Seq.{take-add}
use Rattle.std.proofs.lemmas.Bool.Decides.{nat_tests}
use Rattle.std.proofs.lemmas.List.{length-take, take_min}
use Rattle.domain_load.specs.Domains.{octets}
use Rattle.domain_load.specs.declared.domain.Domain.{Domain}
use Rattle.domain_upload.specs.Pieces.{most_of_piece, next_octets, next_piece}
use Rattle.domain_upload.proofs.Lengths.{length_next}

pub in_order : (size sent : ℕ) (domain : Domain)
    → take sent (concat domain.segments) ++ next_octets size sent domain ≡ take (sent + length (next_octets size sent domain)) (concat domain.segments)
in_order size sent domain =
    let all = concat domain.segments in
    let most = most_of_piece size in
    sym (take-add sent (length (take most (drop sent all))) all ∙ ap (λ (ys : List ℕ). take sent all ++ ys) (ap (λ n. take n (drop sent all)) (length-take most (drop sent all)) ∙ take_min most (drop sent all)))

pub all_with_last : (size sent : ℕ) (domain : Domain) → sent ≤ octets domain → (next_piece size sent domain).more ≡ false → sent + length (next_octets size sent domain) ≡ octets domain
all_with_last size sent domain few e =
    let l = length_next size sent domain in
    let past : octets domain ≤ sent + length (next_octets size sent domain) = grind (arith, nat_tests, e) in
    omega (arith, l, past)

pub full_before_last : (size sent : ℕ) (domain : Domain) → (next_piece size sent domain).more ≡ true → length (next_octets size sent domain) ≡ most_of_piece size
full_before_last size sent domain e =
    let l = length_next size sent domain in
    let below : sent + length (next_octets size sent domain) + 1 ≤ octets domain = grind (arith, nat_tests, e) in
    omega (arith, l, below)

pub some_while_left : (size sent : ℕ) (domain : Domain) → 64 < size → sent < octets domain → 0 < length (next_octets size sent domain)
some_while_left size sent domain more left = omega (arith, length_next size sent domain)

pub leaves_room : (size sent : ℕ) (domain : Domain) → 64 ≤ size → length (next_octets size sent domain) + 64 ≤ size
leaves_room size sent domain more = omega (arith, length_next size sent domain)
