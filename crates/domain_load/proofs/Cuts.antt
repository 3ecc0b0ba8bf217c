-- Octets that are kept joined, cut into segments again.
use Rattle.std.proofs.Common.{◌≡◌, ◌∙◌, ℕ, ◌+◌, ◌≤◌, List, [], ◌∷◌, ◌++◌, ap, arith, drop, length, refl, sum, suc, sym, take}
use Rattle.std.proofs.lemmas.List.{length-append, length-drop, length-take-le, take-append-drop, take-append-le, drop-append-le, nil_from_length, take_all}
use Rattle.std.proofs.lemmas.List.Sums.{sum_by-cons}
use Rattle.std.specs.List.{concat}
use Rattle.domain_load.specs.Kept.{cut}
use Rattle.domain_load.specs.Segmented.{octets_in}

pub length_cut : (ns xs : List ℕ) → length (cut ns xs) ≡ length ns
length_cut [] xs = refl
length_cut (n ∷ ns) xs = ap suc (length_cut ns (drop n xs))

sum_step : (n : ℕ) (ns : List ℕ) → sum (n ∷ ns) ≡ n + sum ns
sum_step n ns = sum_by-cons (λ x. x) n ns

octets_step : (x : List ℕ) (xs : List (List ℕ)) → octets_in (x ∷ xs) ≡ length x + octets_in xs
octets_step x xs = sum_by-cons length x xs

-- what is behind the first segment has the lengths that are left
left : (n : ℕ) (ns xs : List ℕ) → sum (n ∷ ns) ≡ length xs → sum ns ≡ length (drop n xs)
left n ns xs e =
    let l = length-drop n xs in
    let step = sum_step n ns in
    omega (arith, e, l, step)

front : (n : ℕ) (ns xs : List ℕ) → sum (n ∷ ns) ≡ length xs → n ≤ length xs
front n ns xs e = let step = sum_step n ns in omega (arith, e, step)

-- the segments have as many octets as there are
pub octets_cut : (ns xs : List ℕ) → sum ns ≡ length xs → octets_in (cut ns xs) ≡ length xs
octets_cut [] xs e = e
octets_cut (n ∷ ns) xs e =
    let first = length-take-le n xs (front n ns xs e) in
    let rest = octets_cut ns (drop n xs) (left n ns xs e) in
    let l = length-drop n xs in
    let step = octets_step (take n xs) (cut ns (drop n xs)) in
    let few = front n ns xs e in
    omega (arith, first, rest, l, step, few)

-- the segments joined are the octets
pub concat_cut : (ns xs : List ℕ) → sum ns ≡ length xs → concat (cut ns xs) ≡ xs
concat_cut [] xs e = sym (nil_from_length xs (sym e))
concat_cut (n ∷ ns) xs e = ap (λ ys. take n xs ++ ys) (concat_cut ns (drop n xs) (left n ns xs e)) ∙ take-append-drop n xs

-- octets that are joined behind are one more segment
pub cut_append : (ns xs ys : List ℕ) → sum ns ≡ length xs → cut (ns ++ length ys ∷ []) (xs ++ ys) ≡ cut ns xs ++ ys ∷ []
cut_append [] xs ys e = rw (nil_from_length xs (sym e)) (ap (λ zs. zs ∷ []) (take_all (length ys) ys (omega arith)))
cut_append (n ∷ ns) xs ys e =
    let few = front n ns xs e in
    ap (λ zs. zs ∷ cut (ns ++ length ys ∷ []) (drop n (xs ++ ys))) (take-append-le n xs ys few)
    ∙ ap (λ zs. take n xs ∷ cut (ns ++ length ys ∷ []) zs) (drop-append-le n xs ys few)
    ∙ ap (λ zs. take n xs ∷ zs) (cut_append ns (drop n xs) ys (left n ns xs e))

-- one more length
pub sum_more : (ns xs ys : List ℕ) → sum ns ≡ length xs → sum (ns ++ length ys ∷ []) ≡ length (xs ++ ys)
sum_more [] xs ys e = rw (nil_from_length xs (sym e)) (let step = sum_step (length ys) [] in omega (arith, step))
sum_more (n ∷ ns) xs ys e =
    let rest = sum_more ns (drop n xs) ys (left n ns xs e) in
    let parts = ap length (drop-append-le n xs ys (front n ns xs e)) in
    let l = length-drop n (xs ++ ys) in
    let all = length-append xs ys in
    let few = front n ns xs e in
    let step = sum_step n (ns ++ length ys ∷ []) in
    omega (arith, rest, parts, l, all, few, step)
