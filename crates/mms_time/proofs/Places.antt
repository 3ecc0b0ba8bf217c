-- Names of tokens with their places, and those of them that are told.
use Rattle.std.proofs.Common.{◌≡◌, ◌≢◌, ◌∙◌, ap, ap₂, sym, refl, ℕ, zero, suc, ◌+◌, ◌<◌, ◌≤◌, Bool, true, false, List, [], ◌∷◌, ◌++◌, filter, map, take, length, length-append, get_or, slice_get, Option, Some, arith}
use Rattle.mms_types.specs.declared.semaphore.NamedToken.{NamedToken}
use Rattle.mms_types.specs.declared.semaphore.PoolStatus.{PoolStatus}
use Rattle.pool_sem.specs.Pools.{Pool}
use Rattle.mms_time.specs.Statuses.{is_told, most_tokens, name_follows, places_from, pool_status, token_status}
use Rattle.mms_time.proofs.Listed.{at_place, listed_all, listed_more, low_place, passed_over, take_whole, told_more}

abbrev placed : ℕ → List ℕ → Option (ℕ × List ℕ)
placed place name = Some (place, name)

pub found_at : {X : Type 0} (xs : List X) (i : ℕ) (x : X) → i < length xs → x ≡ get_or xs i x → slice_get xs i ≡ Some x
found_at [] i x low e = absurd (omega (arith, low))
found_at (y ∷ ys) zero x low e = ap Some (sym e)
found_at (y ∷ ys) (suc i) x low e = found_at ys i x (omega (arith, low)) e

-- where there is room for one more
pub still_few : {X : Type 0} (told new : List X) (x : X) (n : ℕ) → new ≡ told ++ x ∷ [] → length told ≤ n → length told ≢ n → length new ≤ n
still_few told new x n set few room = omega (arith, ap length set, length-append told (x ∷ []), few, room)

-- the name at a place stands there with it
pub places_at : (names : List (List ℕ)) (n i : ℕ) (name : List ℕ) → slice_get names i ≡ Some name → slice_get (places_from n names) i ≡ Some (n + i, name)
places_at [] n zero name e = absurd cc
places_at [] n (suc i) name e = absurd cc
places_at (x ∷ xs) n zero name e =
    let same : x ≡ name = cc in
    let place : n ≡ n + 0 = omega arith in
    ap₂ placed place same
places_at (x ∷ xs) n (suc i) name e =
    let place : n + 1 + i ≡ n + suc i = omega arith in
    places_at xs (n + 1) i name e ∙ ap (λ (m : ℕ). placed m name) place

pub as_many_places : (names : List (List ℕ)) (n : ℕ) → length (places_from n names) ≡ length names
as_many_places [] n = refl
as_many_places (x ∷ xs) n = ap suc (as_many_places xs (n + 1))

abbrev answer_of : List NamedToken → Bool → PoolStatus
answer_of tokens more = record { tokens = tokens; more = more }

module _ (after : Option (List ℕ)) (p : Pool) where
  -- what is told of the tokens up to a place
  abbrev pub IsToldTo : ℕ → List NamedToken → Type 0
  IsToldTo i told = told ≡ map (token_status p) (filter (is_told after) (take i (places_from 0 p.tokens)))

  here : (i : ℕ) (name : List ℕ) → slice_get p.tokens i ≡ Some name → slice_get (places_from 0 p.tokens) i ≡ Some (i, name)
  here i name at =
      let place : 0 + i ≡ i = omega arith in
      places_at p.tokens 0 i name at ∙ ap (λ (m : ℕ). placed m name) place

  -- a token whose name doesn't come after changes nothing
  pub name_passed : (i : ℕ) (name : List ℕ) (told : List NamedToken) → slice_get p.tokens i ≡ Some name → name_follows after name ≡ false → IsToldTo i told → IsToldTo (i + 1) told
  name_passed i name told at fails is = passed_over (token_status p) (is_told after) (places_from 0 p.tokens) i (i, name) told (here i name at) fails is

  -- one whose name comes after is told
  pub name_told : (i : ℕ) (name : List ℕ) (told new : List NamedToken) → slice_get p.tokens i ≡ Some name → name_follows after name ≡ true → IsToldTo i told
      → new ≡ told ++ token_status p (i, name) ∷ [] → IsToldTo (i + 1) new
  name_told i name told new at passes is set = told_more (token_status p) (is_told after) (places_from 0 p.tokens) i (i, name) told new (here i name at) passes is set

  -- where as many are told as may be, and one more name comes after, there are more
  pub names_more : (i : ℕ) (name : List ℕ) (told : List NamedToken) → slice_get p.tokens i ≡ Some name → name_follows after name ≡ true → IsToldTo i told → length told ≡ most_tokens
      → record { tokens = told; more = true } ≡ pool_status after p
  names_more i name told at passes is full =
      let xs = places_from 0 p.tokens in
      let there = here i name at in
      let one = listed_more (token_status p) (is_told after) most_tokens xs i (i, name) told (low_place xs i (i, name) there) (ap (is_told after) (at_place xs i (i, name) there) ∙ passes) is full in
      ap₂ answer_of one.0 one.1

  -- at the end all are told
  pub names_end : (i : ℕ) (told : List NamedToken) → IsToldTo i told → length told ≤ most_tokens → length p.tokens ≤ i → record { tokens = told; more = false } ≡ pool_status after p
  names_end i told is few end =
      let xs = places_from 0 p.tokens in
      let low : length xs ≤ i = omega (arith, as_many_places p.tokens 0) in
      let all = is ∙ ap (λ (l : List (ℕ × List ℕ)). map (token_status p) (filter (is_told after) l)) (take_whole xs i low) in
      let one = listed_all (token_status p) (is_told after) most_tokens xs told all few in
      ap₂ answer_of one.0 one.1
