-- Names of a scope in order of octets, of which only the first so many are kept.
use Rattle.std.proofs.Common.{◌≡◌, ◌∙◌, ℕ, ◌+◌, ◌≤◌, Bool, true, false, List, ◌∷◌, ap, arith, cond, filter, length, map, Option, sym, take}
use Rattle.mms_types.specs.declared.key.Key.{Key}
use Rattle.mms_types.specs.declared.key.Scope.{Scope}
use Rattle.object_names.specs.Listing.{insert_name, is_listed, names_after, sorted_names}
use Rattle.domain_load.proofs.FirstNames.{length-insert_name, put_first}

-- the names of rows, of which the first so many are there and all are counted
pub record AreFirst {T : Type 0} (most : ℕ) (scope : Scope) (after : Option (List ℕ)) (rows : List (Key × T)) (names : List (List ℕ)) (number : ℕ) : Type 0 where
  pub first : names ≡ take most (names_after scope after rows)
  pub count : number ≡ length (names_after scope after rows)
  pub few : number ≤ length rows

names_more : {T : Type 0} (scope : Scope) (after : Option (List ℕ)) (row : Key × T) (rows : List (Key × T)) (b : Bool) → is_listed scope after row.0 ≡ b
    → names_after scope after (row ∷ rows) ≡ cond b (insert_name row.0.item (names_after scope after rows)) (names_after scope after rows)
names_more {T} scope after row rows true e =
    ap (λ (b : Bool). sorted_names (map (λ (row : Key × T). row.0.item) (cond b (row ∷ filter (λ (row : Key × T). is_listed scope after row.0) rows) (filter (λ (row : Key × T). is_listed scope after row.0) rows)))) e
names_more {T} scope after row rows false e =
    ap (λ (b : Bool). sorted_names (map (λ (row : Key × T). row.0.item) (cond b (row ∷ filter (λ (row : Key × T). is_listed scope after row.0) rows) (filter (λ (row : Key × T). is_listed scope after row.0) rows)))) e

pub one_more : {T : Type 0} (most : ℕ) (scope : Scope) (after : Option (List ℕ)) (row : Key × T) (rows : List (Key × T)) (first new : List (List ℕ)) (count : ℕ) → AreFirst most scope after rows first count
    → is_listed scope after row.0 ≡ true → new ≡ take most (insert_name row.0.item first) → AreFirst most scope after (row ∷ rows) new (count + 1)
one_more most scope after row rows first new count are listed is =
    let all = names_more scope after row rows true listed in
    let l = length-insert_name row.0.item (names_after scope after rows) in
    let long = ap length all in
    record {
      first = is ∙ ap (λ xs. take most (insert_name row.0.item xs)) are.first ∙ put_first most row.0.item (names_after scope after rows) ∙ ap (take most) (sym all);
      count = omega (arith, l, long, are.count);
      few = omega (arith, are.few);
    }

pub none_more : {T : Type 0} (most : ℕ) (scope : Scope) (after : Option (List ℕ)) (row : Key × T) (rows : List (Key × T)) (first : List (List ℕ)) (count : ℕ) → AreFirst most scope after rows first count
    → is_listed scope after row.0 ≡ false → AreFirst most scope after (row ∷ rows) first count
none_more most scope after row rows first count are listed =
    let all = names_more scope after row rows false listed in
    let long = ap length all in
    record {
      first = are.first ∙ ap (take most) (sym all);
      count = omega (arith, long, are.count);
      few = omega (arith, are.few);
    }
