-- Invocations come to domains, and leave them again.
use Rattle.std.proofs.Common.{◌≡◌, ◌∙◌, ℕ, suc, ◌-◌, ◌≤◌, arith, Bool, true, false, not, ◌&&◌, ◌||◌, cond, if◌then◌else◌, List, [], ◌∷◌, drop, filter, get_or, length, take, Option, Some, ap, refl, sym}
use Rattle.std.proofs.lemmas.List.{take_all}
use Rattle.std.proofs.lemmas.Cmp.{nat_list_eq_equiv}
use Rattle.std.proofs.lemmas.List.Elements.{All-from_recursion, recursion_from_All}
use Rattle.std.proofs.lemmas.Map.Steps.{set_value_same}
use Rattle.std.specs.List.{AllByRecursion, IsDistinct, list_any}
use Rattle.std.specs.Map.{set_value}
use Rattle.std.specs.Option.{option_map_or}
use Rattle.std.specs.Ordering.{is_lt}
use Rattle.mms_types.specs.Order.{name_order}
use Rattle.object_names.specs.Listing.{insert_name}
use Rattle.object_names.proofs.Changed.{all_stay}
use Rattle.domain_load.specs.Domains.{Rows, is_there, name_eq, named}
use Rattle.domain_load.specs.Loading.{changed}
use Rattle.domain_load.specs.Standing.{is_live}
use Rattle.domain_load.specs.Used.{AreFreeFor, had_by, is_free_for, is_had_by, is_taken, left_by}
use Rattle.domain_load.specs.declared.domain.Domain.{Domain}
use Rattle.domain_load.proofs.Outcomes.{found_changed, is_changed, there}

-- the later of two values stays
set_twice : {X : Type 0} (test : List ℕ → Bool) (rows : List (List ℕ × X)) (v w : X) → set_value test (set_value test rows v) w ≡ set_value test rows w
set_twice test [] v w = refl
set_twice {X} test (row ∷ rows) v w = by_test (test row.0) refl (set_twice test rows v w)
  where
    by_test : (b : Bool) → test row.0 ≡ b → set_value test (set_value test rows v) w ≡ set_value test rows w
        → set_value test (cond b ((row.0, v) ∷ rows) (row ∷ set_value test rows v)) w ≡ cond b ((row.0, w) ∷ rows) (row ∷ set_value test rows w)
    by_test true e rest = ap (λ (b : Bool). cond b ((row.0, w) ∷ rows) ((row.0, v) ∷ set_value test rows w)) e
    by_test false e rest = ap (λ (b : Bool). cond b ((row.0, w) ∷ set_value test rows v) (row ∷ set_value test (set_value test rows v) w)) e ∙ ap (λ (rs : List (List ℕ × X)). row ∷ rs) rest

-- a change that another one takes back
changed_back : (name : List ℕ) (f g : Domain → Domain) (rows : Rows) (domain : Domain) → named name rows ≡ Some domain → g (f domain) ≡ domain
    → changed name g (changed name f rows) ≡ rows
changed_back name f g rows domain found back =
    ap (λ (o : Option Domain). option_map_or (λ d. set_value (name_eq name) (changed name f rows) (g d)) o (changed name f rows)) (is_changed name f rows domain found)
    ∙ ap (λ (rs : Rows). set_value (name_eq name) rs (g (f domain))) (ap (λ (o : Option Domain). option_map_or (λ d. set_value (name_eq name) rows (f d)) o rows) found)
    ∙ set_twice (name_eq name) rows (f domain) (g (f domain))
    ∙ ap (λ (d : Domain). set_value (name_eq name) rows d) back
    ∙ set_value_same (name_eq name) rows domain found

neither : (a b : Bool) → (a || b) ≡ false → (a ≡ false) × (b ≡ false)
neither true b e = absurd cc
neither false b e = (refl, e)

-- a name that is put among names that don't have it, and taken away again
put_and_taken : (by : List ℕ) (names : List (List ℕ)) → list_any (λ name. name_eq name by) names ≡ false → filter (λ name. not (name_eq name by)) (insert_name by names) ≡ names
put_and_taken by [] none = ap (λ (b : Bool). cond (not b) (by ∷ []) []) (nat_list_eq_equiv.refl by)
put_and_taken by (name ∷ names) none =
    let each = neither (name_eq name by) (list_any (λ other. name_eq other by) names) none in
    by_place (is_lt (name_order name by)) each.0 (put_and_taken by names each.1)
  where
    rest : List (List ℕ) → List (List ℕ)
    rest xs = filter (λ other. not (name_eq other by)) xs

    by_place : (b : Bool) → name_eq name by ≡ false → filter (λ other. not (name_eq other by)) (insert_name by names) ≡ names
        → filter (λ other. not (name_eq other by)) (if b then name ∷ insert_name by names else by ∷ name ∷ names) ≡ name ∷ names
    by_place true other back =
        ap (λ (b : Bool). cond (not b) (name ∷ rest (insert_name by names)) (rest (insert_name by names))) other
        ∙ ap (λ xs. name ∷ xs) back
    by_place false other back =
        ap (λ (b : Bool). cond (not b) (by ∷ rest (name ∷ names)) (rest (name ∷ names))) (nat_list_eq_equiv.refl by)
        ∙ all_stay (λ other. name_eq other by) (name ∷ names) none

-- where the invocation didn't have the domain, the domain is as before when it has left it
pub come_and_gone : (by : List ℕ) (domain : Domain) → is_had_by by domain ≡ false → left_by by (had_by by domain) ≡ domain
come_and_gone by domain none = ap (λ names. record domain { invocations = names }) (put_and_taken by domain.invocations none)

hasnt : (a b c : Bool) → (a && b && not c) ≡ true → c ≡ false
hasnt true true false e = refl
hasnt true true true e = absurd cc
hasnt true false c e = absurd cc
hasnt false b c e = absurd cc

first_free : (by name : List ℕ) (names : List (List ℕ)) (rows : Rows) → AreFreeFor by (name ∷ names) rows → is_there (is_free_for by) name rows ≡ true
first_free by name names rows free = (recursion_from_All (λ other. is_there (is_free_for by) other rows ≡ true) (name ∷ names) free.each).0

-- the first of the domains, when the invocation has come to it and left it again
pub first_back : (by name : List ℕ) (names : List (List ℕ)) (rows : Rows) → AreFreeFor by (name ∷ names) rows
    → changed name (left_by by) (changed name (had_by by) rows) ≡ rows
first_back by name names rows free =
    let (domain, found, is) = there (is_free_for by) (named name rows) (first_free by name names rows free) in
    changed_back name (had_by by) (left_by by) rows domain found (come_and_gone by domain (hasnt (is_live domain) (not (is_taken domain)) (is_had_by by domain) is))

-- the others are free when the invocation has come to the first
pub others_free : (by name : List ℕ) (names : List (List ℕ)) (rows : Rows) → AreFreeFor by (name ∷ names) rows → AreFreeFor by names (changed name (had_by by) rows)
unfolding IsDistinct
others_free by name names rows free =
    let (domain, found, is) = there (is_free_for by) (named name rows) (first_free by name names rows free) in
    record {
      each = All-from_recursion (λ other. is_there (is_free_for by) other (changed name (had_by by) rows) ≡ true) names
          (still domain found names (recursion_from_All (λ other. is_there (is_free_for by) other rows ≡ true) (name ∷ names) free.each).1 free.once.0);
      once = free.once.1;
    }
  where
    still : (domain : Domain) → named name rows ≡ Some domain → (others : List (List ℕ)) → AllByRecursion (λ other. is_there (is_free_for by) other rows ≡ true) others
        → AllByRecursion (λ other. name_eq name other ≡ false) others
        → AllByRecursion (λ other. is_there (is_free_for by) other (changed name (had_by by) rows) ≡ true) others
    still domain found [] each apart = tt
    still domain found (other ∷ others) each apart = (
      ap (λ (o : Option Domain). option_map_or (is_free_for by) o false)
          (found_changed name other (had_by by) rows domain found ∙ ap (λ (b : Bool). cond b (Some (had_by by domain)) (named other rows)) apart.0)
          ∙ each.0,
      still domain found others each.1 apart.1,
    )

-- a list that has a first item
pub first_rest : {A : Type 0} (xs : List A) (x : A) → 1 ≤ length xs → x ≡ get_or xs 0 x → xs ≡ x ∷ take (length xs - 1) (drop 1 xs)
first_rest [] x some is = absurd (omega (arith, some))
first_rest {A} (y ∷ ys) x some is =
    let same : suc (length ys) - 1 ≡ length ys = omega arith in
    ap (λ z. z ∷ ys) (sym is)
    ∙ ap (λ zs. x ∷ zs) (sym (ap (λ n. take n (drop 1 (y ∷ ys))) same ∙ ap (take (length ys)) (none ys) ∙ take_all (length ys) ys (omega arith)))
  where
    none : (zs : List A) → drop 0 zs ≡ zs
    none [] = refl
    none (z ∷ zs) = refl
