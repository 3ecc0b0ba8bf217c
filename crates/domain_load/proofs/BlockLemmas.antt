-- Octets in blocks of one size, of which all but the last are full.
use Rattle.std.proofs.Common.{◌≡◌, ◌∙◌, ◌≢◌, ℕ, zero, suc, ◌+◌, ◌-◌, ◌*◌, ◌<◌, ◌≤◌, ◌/◌, ◌%◌, Bool, true, false, nat_le, List, [], ◌∷◌, ◌++◌, ap, append-nil, append_assoc, arith, drop, get_or, length, map, min, refl, set, subst, sym, take}
use Rattle.std.proofs.lemmas.List.{drop-drop, drop_all, drop_at, drop_min, length-append, length-drop, length-take, map-append, nil_from_length, take-append-drop, take_min}
use Rattle.std.proofs.lemmas.Bool.Decides.{nat_tests}
use Rattle.std.proofs.lemmas.Nat.{div-add-mod'}
use Rattle.std.proofs.lemmas.List.Folds.{concat-append}
use Rattle.std.specs.List.{concat}
use Rattle.domain_load.specs.Kept.{AreBlocks, AreFull, block_size, filled, room}

-- full blocks before others
pub full_then : (xs ys : List (List ℕ)) → AreFull xs → AreBlocks ys → AreBlocks (xs ++ ys)
full_then [] ys full blocks = blocks
full_then (x ∷ []) [] full blocks = omega (arith, full.0)
full_then (x ∷ []) (y ∷ ys) full blocks = (full.0, blocks)
full_then (x ∷ z ∷ zs) ys full blocks = (full.0, full_then (z ∷ zs) ys full.1 blocks)

pub full_more : (xs : List (List ℕ)) (y : List ℕ) → AreFull xs → length y ≡ block_size → AreFull (xs ++ y ∷ [])
full_more [] y full e = (e, _)
full_more (x ∷ xs) y full e = (full.0, full_more xs y full.1 e)

-- the octets and what the last block has room for make up all blocks
pub room_left : (bs : List (List ℕ)) → AreBlocks bs → length (concat bs) + room bs ≡ block_size * length bs
room_left [] blocks = refl
room_left (b ∷ []) blocks = let l = length-append b [] in omega (arith, blocks, l)
room_left (b ∷ c ∷ bs) blocks =
    let rest = room_left (c ∷ bs) blocks.1 in
    let l = length-append b (concat (c ∷ bs)) in
    omega (arith, rest, l, blocks.0)

pub room_small : (bs : List (List ℕ)) → room bs ≤ block_size
room_small [] = omega arith
room_small (b ∷ []) = omega arith
room_small (b ∷ c ∷ bs) = room_small (c ∷ bs)

-- so it is told from how many blocks and octets there are
pub room_is : (bs : List (List ℕ)) (octets n : ℕ) → AreBlocks bs → octets ≡ length (concat bs) → octets ≤ 1048576 → length bs ≡ n
    → (n * 4096 < 18446744073709551616) × (octets ≤ n * 4096) × (n * 4096 - octets ≡ room bs)
room_is bs octets n blocks count few long =
    let all = room_left bs blocks in
    let small = room_small bs in
    (omega (arith, all, small, count, few, long), omega (arith, all, small, count, few, long), omega (arith, all, small, count, few, long))

-- blocks that are filled and others behind them
pub filled_then : (octets : List ℕ) (bs fresh : List (List ℕ)) → AreBlocks bs → AreBlocks fresh → length octets ≤ room bs
    → (fresh ≢ [] → length octets ≡ room bs)
    → AreBlocks (filled octets bs ++ fresh)
filled_then octets [] fresh blocks new few full = new
filled_then octets (b ∷ []) [] blocks new few full = let l = length-append b octets in omega (arith, l, few, blocks)
filled_then octets (b ∷ []) (f ∷ fs) blocks new few full =
    let l = length-append b octets in
    let all = full (λ e. absurd cc) in
    (omega (arith, l, all, blocks), new)
filled_then octets (b ∷ c ∷ []) fresh blocks new few full = (blocks.0, filled_then octets (c ∷ []) fresh blocks.1 new few full)
filled_then octets (b ∷ c ∷ d ∷ bs) fresh blocks new few full = (blocks.0, filled_then octets (c ∷ d ∷ bs) fresh blocks.1 new few full)

-- the octets of blocks that are filled
pub concat_filled : (octets : List ℕ) (bs : List (List ℕ)) → length octets ≤ room bs → concat (filled octets bs) ≡ concat bs ++ octets
concat_filled octets [] few = sym (nil_from_length octets (omega (arith, few)))
concat_filled octets (b ∷ []) few = append_assoc b octets [] ∙ ap (λ ys. b ++ ys) (append-nil octets) ∙ ap (λ ys. ys ++ octets) (sym (append-nil b))
concat_filled octets (b ∷ c ∷ bs) few = ap (λ ys. b ++ ys) (concat_filled octets (c ∷ bs) few) ∙ sym (append_assoc b (concat (c ∷ bs)) octets)

nothing : (n : ℕ) → drop {A = ℕ} n [] ≡ []
nothing zero = refl
nothing (suc n) = refl

-- octets from a place on are those from its rest on, of the blocks from its block on
pub from_block : (bs : List (List ℕ)) (k r : ℕ) → AreBlocks bs → r < block_size → drop (k * block_size + r) (concat bs) ≡ drop r (concat (drop k bs))
from_block [] zero r blocks small = let e : zero * block_size + r ≡ r = omega arith in ap (λ n. drop n []) e
from_block (b ∷ bs) zero r blocks small = let e : zero * block_size + r ≡ r = omega arith in ap (λ n. drop n (b ++ concat bs)) e
from_block [] (suc k) r blocks small = nothing (suc k * block_size + r) ∙ sym (nothing r)
from_block (b ∷ []) (suc k) r blocks small =
    let l = length-append b [] in
    drop_all (suc k * block_size + r) (b ++ []) (omega (arith, l, blocks)) ∙ sym (nothing r) ∙ sym (ap (λ ys. drop r (concat ys)) (drop_none k))
  where
    drop_none : (k : ℕ) → drop {A = List ℕ} k [] ≡ []
    drop_none zero = refl
    drop_none (suc k) = refl
from_block (b ∷ c ∷ bs) (suc k) r blocks small =
    let split : suc k * block_size + r ≡ length b + (k * block_size + r) = omega (arith, blocks.0) in
    ap (λ n. drop n (b ++ concat (c ∷ bs))) split
    ∙ sym (drop-drop (k * block_size + r) (length b) (b ++ concat (c ∷ bs)))
    ∙ ap (drop (k * block_size + r)) (drop_at b (concat (c ∷ bs)) (length b) refl)
    ∙ from_block (c ∷ bs) k r blocks.1 small

-- octets of two lists, from one on
drop_over : (s : ℕ) (xs ys : List ℕ) → drop s (xs ++ ys) ≡ drop s xs ++ drop (s - length xs) ys
drop_over zero [] [] = refl
drop_over zero [] (y ∷ ys) = refl
drop_over zero (x ∷ xs) ys =
    let none : 0 - length (x ∷ xs) ≡ 0 = omega arith in
    ap (λ zs. x ∷ (xs ++ zs)) (sym (drop_zero ys)) ∙ ap (λ n. x ∷ (xs ++ drop n ys)) (sym none)
  where
    drop_zero : (ys : List ℕ) → drop 0 ys ≡ ys
    drop_zero [] = refl
    drop_zero (y ∷ ys) = refl
drop_over (suc s) [] ys = let all : suc s - 0 ≡ suc s = omega arith in ap (λ n. drop n ys) (sym all)
drop_over (suc s) (x ∷ xs) ys = let less : suc s - length (x ∷ xs) ≡ s - length xs = omega arith in drop_over s xs ys ∙ ap (λ n. drop s xs ++ drop n ys) (sym less)

-- so many octets of two lists
take_over : (n : ℕ) (xs ys : List ℕ) → take n (xs ++ ys) ≡ take n xs ++ take (n - length xs) ys
take_over zero [] [] = refl
take_over zero [] (y ∷ ys) = refl
take_over zero (x ∷ xs) ys =
    let none : 0 - length (x ∷ xs) ≡ 0 = omega arith in
    sym (take_zero ys) ∙ ap (λ n. take n ys) (sym none)
  where
    take_zero : (ys : List ℕ) → take 0 ys ≡ []
    take_zero [] = refl
    take_zero (y ∷ ys) = refl
take_over (suc n) [] ys = let all : suc n - 0 ≡ suc n = omega arith in ap (λ m. take m ys) (sym all)
take_over (suc n) (x ∷ xs) ys =
    let less : suc n - length (x ∷ xs) ≡ n - length xs = omega arith in
    ap (λ zs. x ∷ zs) (take_over n xs ys) ∙ ap (λ m. x ∷ (take n xs ++ take m ys)) (sym less)

-- what is wanted of blocks is taken of the first, and then of the others
pub gather_step : (block : List ℕ) (later : List (List ℕ)) (out goal : List ℕ) (skip most : ℕ)
    → out ++ take (most - length out) (drop skip (concat (block ∷ later))) ≡ goal
    → (out ++ take (most - length out) (drop skip block))
    ++ take (most - length (out ++ take (most - length out) (drop skip block))) (drop (skip - length block) (concat later)) ≡ goal
gather_step block later out goal skip most e =
    let n = most - length out in
    let part = take n (drop skip block) in
    let rest = drop (skip - length block) (concat later) in
    let a = length-append out part in
    let b = length-take n (drop skip block) in
    let left : most - length (out ++ part) ≡ n - length (drop skip block) = omega (arith, a, b) in
    ap (λ m. (out ++ part) ++ take m rest) left
    ∙ append_assoc out part (take (n - length (drop skip block)) rest)
    ∙ ap (λ ys. out ++ ys) (sym (take_over n (drop skip block) rest))
    ∙ ap (λ ys. out ++ take n ys) (sym (drop_over skip block (concat later)))
    ∙ e

-- octets that are cut off go into one more block
pub cut_off : (bs : List (List ℕ)) (front later rest octets : List ℕ) (k : ℕ) → concat bs ++ rest ≡ octets → AreFull bs → k ≡ min block_size (length rest)
    → front ≡ take k rest → later ≡ drop k rest
    → (concat (bs ++ front ∷ []) ++ later ≡ octets) × AreBlocks (bs ++ front ∷ []) × (later ≢ [] → AreFull (bs ++ front ∷ []))
cut_off bs front later rest octets k joined full least is_front is_later =
    let l = length-take k rest in
    let size : length front ≡ min k (length rest) = ap length is_front ∙ l in (
      ap (λ ys. ys ++ later) (concat-append bs (front ∷ []) ∙ ap (λ ys. concat bs ++ ys) (append-nil front))
          ∙ append_assoc (concat bs) front later
          ∙ ap (λ ys. concat bs ++ ys) (ap (λ ys. ys ++ later) is_front ∙ ap (λ ys. take k rest ++ ys) is_later ∙ take-append-drop k rest)
          ∙ joined,
      full_then bs (front ∷ []) full (omega (arith, size, least)),
      λ there. full_more bs front full (is_full there size),
    )
  where
    is_full : later ≢ [] → length front ≡ min k (length rest) → length front ≡ block_size
    is_full there size = by_length later refl
      where
        by_length : (ys : List ℕ) → later ≡ ys → length front ≡ block_size
        by_length [] none = absurd (there none)
        by_length (y ∷ ys) some =
            let l = length-drop k rest in
            let long : length (drop k rest) ≡ suc (length ys) = ap length (sym is_later ∙ some) in
            omega (arith, l, long, size, least)

-- the last of several has octets at its end, or is as before
pub fill_last : {V : Type 0} (f : V → List ℕ) (vs : List V) (k : ℕ) (last new : V) (octets : List ℕ) → suc k ≡ length vs → last ≡ get_or vs k last → f new ≡ f last ++ octets
    → map f (set vs k new) ≡ filled octets (map f vs)
fill_last f [] k last new octets long is more = absurd (omega (arith, long))
fill_last f (v ∷ []) zero last new octets long is more = ap (λ b. b ∷ []) (more ∙ ap (λ w. f w ++ octets) is)
fill_last f (v ∷ []) (suc k) last new octets long is more = absurd (omega (arith, long))
fill_last f (v ∷ w ∷ vs) zero last new octets long is more = absurd (omega (arith, long))
fill_last f (v ∷ w ∷ vs) (suc k) last new octets long is more = ap (λ bs. f v ∷ bs) (fill_last f (w ∷ vs) k last new octets (omega (arith, long)) is more)

pub keep_last : {V : Type 0} (f : V → List ℕ) (vs : List V) (k : ℕ) (last new : V) → suc k ≡ length vs → last ≡ get_or vs k last → f new ≡ f last
    → map f (set vs k new) ≡ map f vs
keep_last f [] k last new long is same = absurd (omega (arith, long))
keep_last f (v ∷ vs) zero last new long is same = ap (λ b. b ∷ map f vs) (same ∙ ap f is)
keep_last f (v ∷ vs) (suc k) last new long is same = ap (λ bs. f v ∷ bs) (keep_last f vs k last new (omega (arith, long)) is same)

-- blocks with octets appended: the last is filled, and further ones hold what it has no room for
pub appended : (bs fresh : List (List ℕ)) (octets front back : List ℕ) (k : ℕ) → AreBlocks bs → k ≡ min (room bs) (length octets) → front ≡ take k octets → back ≡ drop k octets
    → concat fresh ≡ back → AreBlocks fresh → (back ≡ [] → fresh ≡ []) → AreBlocks (filled front bs ++ fresh) × (concat (filled front bs ++ fresh) ≡ concat bs ++ octets)
appended bs fresh octets front back k blocks least is_front is_back joined new none =
    let l = length-take k octets in
    let size : length front ≡ min k (length octets) = ap length is_front ∙ l in
    let few : length front ≤ room bs = omega (arith, size, least) in (
      filled_then front bs fresh blocks new few (λ there. full there size (nat_le (room bs) (length octets)) refl),
      concat-append (filled front bs) fresh
          ∙ ap (λ ys. ys ++ concat fresh) (concat_filled front bs few)
          ∙ append_assoc (concat bs) front (concat fresh)
          ∙ ap (λ ys. concat bs ++ ys) (ap (λ ys. ys ++ concat fresh) is_front ∙ ap (λ ys. take k octets ++ ys) (joined ∙ is_back) ∙ take-append-drop k octets),
    )
  where
    full : fresh ≢ [] → length front ≡ min k (length octets) → (b : Bool) → nat_le (room bs) (length octets) ≡ b → length front ≡ room bs
    full there size true e = let h : room bs ≤ length octets = grind (arith, nat_tests, e) in omega (arith, h, size, least)
    full there size false e =
        let h : length octets ≤ k = grind (arith, nat_tests, e, least) in
        absurd (there (none (is_back ∙ drop_all k octets h)))

-- what holds blocks has the new octets behind those that it had
pub appended_to : {V : Type 0} (f : V → List ℕ) (kept full fresh new : List V) (octets front back : List ℕ) (k : ℕ)
    → new ≡ full ++ fresh → map f full ≡ filled front (map f kept) → AreBlocks (map f kept) → k ≡ min (room (map f kept)) (length octets)
    → front ≡ take k octets → back ≡ drop k octets → concat (map f fresh) ≡ back → AreBlocks (map f fresh) → (back ≡ [] → fresh ≡ [])
    → AreBlocks (map f new) × (concat (map f new) ≡ concat (map f kept) ++ octets)
appended_to f kept full fresh new octets front back k is is_full blocks least is_front is_back joined more none =
    let done = appended (map f kept) (map f fresh) octets front back k blocks least is_front is_back joined more (λ e. ap (map f) (none e)) in
    let all : map f new ≡ filled front (map f kept) ++ map f fresh = ap (map f) is ∙ map-append f full fresh ∙ ap (λ xs. xs ++ map f fresh) is_full in
    (subst AreBlocks (sym all) done.0, ap concat all ∙ done.1)

-- a piece is gathered from the block on in which it begins
pub piece_is : (bs : List (List ℕ)) (from most count : ℕ) → AreBlocks bs → count ≡ min most (length (concat bs) - from)
    → take count (drop (from % block_size) (concat (drop (min (from / block_size) (length bs)) bs))) ≡ take most (drop from (concat bs))
piece_is bs from most count blocks is =
    let small : from % block_size < block_size = omega arith in
    let split = div-add-mod' from block_size in
    let left = length-drop from (concat bs) in
    let short : count ≡ min most (length (drop from (concat bs))) = is ∙ ap (min most) (sym left) in
    ap (λ ds. take count (drop (from % block_size) (concat ds))) (drop_min (from / block_size) bs)
    ∙ ap (take count) (sym (from_block bs (from / block_size) (from % block_size) blocks small))
    ∙ ap (λ n. take count (drop n (concat bs))) split
    ∙ ap (λ n. take n (drop from (concat bs))) short
    ∙ take_min most (drop from (concat bs))
