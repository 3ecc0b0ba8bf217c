-- What comes back of a phase: the words of what serving one promises.
use Rattle.std.specs.Prelude.{◌≡◌, ◌⊎◌, ℕ, List, length, Some, slice_get, IfSome}
use Rattle.std.specs.List.{All}

-- each of the jobs is fit
abbrev pub AreFit : {J : Type 0} → (J → Type 0) → List J → Type 0
AreFit fit jobs = All (λ job. ∥ fit job ∥₁) jobs

-- each element is as its place asks
abbrev pub EachAt : {X : Type 0} → (ℕ → X → Type 0) → List X → Type 0
EachAt Q xs = (p : ℕ) → IfSome (slice_get xs p) (Q p)

-- each of the jobs is so
abbrev pub EachIs : {J : Type 0} → (J → Type 0) → List J → Type 0
EachIs P jobs = EachAt (λ p job. ∥ P job ∥₁) jobs

-- one of the elements is so
abbrev pub OneIs : {X : Type 0} → (X → Type 0) → List X → Type 0
OneIs {X} P xs = (p : ℕ) × (x : X) × (slice_get xs p ≡ Some x) × P x

-- each of the jobs is made of the one that was given at its place, if there was one
abbrev pub EachMadeOf : {J : Type 0} → (J → J → Type 0) → List J → List J → Type 0
EachMadeOf made given jobs =
    EachAt (λ p job. ∥ IfSome (slice_get given p) (λ from. made from job) ∥₁) jobs

-- as many came back, each fit, and of each that was given the one at its place was made
abbrev pub IsServed : {J : Type 0} → (J → Type 0) → (J → J → Type 0) → List J → List J → Type 0
IsServed fit made given back =
    (length back ≡ length given) × EachIs fit back
    × ((p : ℕ) → IfSome (slice_get given p)
    (λ from. IfSome (slice_get back p) (λ job. ∥ made from job ∥₁)))

-- memory was wanting: before the first turn, so that all came back as they were given, or to a
-- turn of one that came back, and is short
abbrev pub IsForWant : {J : Type 0} → (J → Type 0) → List J → List J → Type 0
IsForWant short given back = (back ≡ given) ⊎ OneIs (λ job. ∥ short job ∥₁) back
