-- Each domain that a program invocation names is live where the names that domains have are those of the invocations
-- that name them.
use Rattle.std.specs.Prelude.{◌≡◌, ◌≢◌, ℕ, Bool, true, false, ◌||◌, All, List, [], ◌∷◌, cond, if◌then◌else◌, filter, refl}
use Rattle.std.specs.List.{AllByRecursion, list_any}
use Rattle.std.specs.Map.{keys_of}
use Rattle.std.specs.Ordering.{is_lt}
use Rattle.std.proofs.Common.{◌∙◌, ap, sym}
use Rattle.std.proofs.lemmas.Cmp.{nat_list_eq_equiv}
use Rattle.std.proofs.lemmas.List.Elements.{All-from_recursion}
use Rattle.mms_types.specs.Order.{name_order}
use Rattle.object_names.specs.Listing.{insert_name, sorted_names}
use Rattle.domain_load.specs.Domains.{Rows as DomainRows, is_there, name_eq}
use Rattle.domain_load.specs.Standing.{is_live}
use Rattle.program_inv.specs.Programs.{Rows}
use Rattle.program_inv.specs.declared.invocation.Invocation.{Invocation}
use Rattle.serve_programs.specs.Users.{AreUsed, is_of}

insert_some : (name : List ℕ) (names : List (List ℕ)) → insert_name name names ≡ [] → ⊥
insert_some name [] e = cc e
insert_some name (other ∷ others) e = by_place (is_lt (name_order other name)) e
  where
    by_place : (b : Bool) → (if b then other ∷ insert_name name others else name ∷ other ∷ others) ≡ [] → ⊥
    by_place true h = cc h
    by_place false h = cc h

sorted_none : (names : List (List ℕ)) → sorted_names names ≡ [] → names ≡ []
sorted_none [] e = refl
sorted_none (name ∷ names) e = absurd (insert_some name (sorted_names names) e)

-- what holds of each name that is among these holds of all of them
each_among : (P : List ℕ → Type 0) (names : List (List ℕ)) → ((name : List ℕ) → list_any (name_eq name) names ≡ true → P name) → AllByRecursion P names
each_among P [] holds = tt
each_among P (name ∷ names) holds = (
  holds name (ap (λ (b : Bool). b || list_any (name_eq name) names) (nat_list_eq_equiv.refl name)),
  each_among P names (λ other e. holds other (by_rest (name_eq other name) (list_any (name_eq other) names) e)),
)
  where
    by_rest : (a b : Bool) → b ≡ true → (a || b) ≡ true
    by_rest true b e = refl
    by_rest false b e = e

module _ (ds : DomainRows) where
  abbrev Live : List ℕ → Type 0
  Live name = is_there is_live name ds ≡ true

  abbrev users : List ℕ → Rows → List (List ℕ)
  users name rows = keys_of (filter (is_of name) rows)

  more_users : (name : List ℕ) (row : List ℕ × Invocation) (rows : Rows) → users name (row ∷ rows) ≡ [] → users name rows ≡ []
  more_users name row rows = by_test (is_of name row)
    where
      by_test : (b : Bool) → keys_of (cond b (row ∷ filter (is_of name) rows) (filter (is_of name) rows)) ≡ [] → users name rows ≡ []
      by_test true e = absurd (cc e)
      by_test false e = e

  first_user : (name : List ℕ) (row : List ℕ × Invocation) (rows : Rows) → is_of name row ≡ true → users name (row ∷ rows) ≡ [] → ⊥
  first_user name row rows its none =
      cc (sym (ap (λ (b : Bool). keys_of (cond b (row ∷ filter (is_of name) rows) (filter (is_of name) rows))) its) ∙ none)

  each_row : (rows : Rows) → ((name : List ℕ) → users name rows ≢ [] → Live name) → AllByRecursion (λ (row : List ℕ × Invocation). All Live row.1.domains) rows
  each_row [] live = tt
  each_row (row ∷ rows) live = (
    All-from_recursion Live row.1.domains (each_among Live row.1.domains (λ name its. live name (λ none. first_user name row rows its none))),
    each_row rows (λ name some. live name (λ none. some (more_users name row rows none))),
  )

  pub all_live : (rows : Rows) → AreUsed ds rows → All (λ (row : List ℕ × Invocation). All Live row.1.domains) rows
  all_live rows used =
      All-from_recursion (λ (row : List ℕ × Invocation). All Live row.1.domains) rows
      (each_row rows (λ name some. used.live name (λ none. some (sorted_none (users name rows) none))))
