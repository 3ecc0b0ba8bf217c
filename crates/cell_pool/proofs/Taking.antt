-- Jobs are taken out of their places.
use Rattle.std.proofs.Common.{◌≡◌, ◌⊎◌, ℕ, ◌<◌, Bool, false, IsTrue, IsFalse, List, [], ◌∷◌, ◌++◌, length, Option, Some, slice_get, zero, suc, refl, true≢false, sym, ap, ◌∙◌, subst, arith, ⊎_elim, take}
use Rattle.std.specs.List.{All}
use Rattle.cell_pool.specs.Rule.{Told}
use Rattle.cell_pool.specs.Served.{EachAt, OneIs}
use Rattle.cell_pool.proofs.Laying.{below, un_some, take_front}
use Rattle.cell_pool.proofs.Lists.{at_seam}

-- one that lies there hasn't ended
abbrev pub IsOpen : {I : Type 0} → (I → Bool) → List (Option I) → Type 0
IsOpen {I} ended slots = (p : ℕ) × (item : I) × (slice_get slots p ≡ Some (Some item)) × IsFalse (ended item)

-- the one that lies there is short
abbrev pub LiesShort : {I : Type 0} → (I → Bool) → List (Option I) → ℕ → Type 0
LiesShort {I} short slots p = (item : I) × (slice_get slots p ≡ Some (Some item)) × IsTrue (short item)

get_below : {X : Type 0} (xs : List X) (p : ℕ) → p < length xs → (x : X) × (slice_get xs p ≡ Some x)
get_below [] p lt = absurd (omega arith)
get_below (x ∷ xs) zero lt = (x, refl)
get_below (x ∷ xs) (suc p) lt = get_below xs p (omega arith)

at_one : {X : Type 0} (Q : ℕ → X → Type 0) (xs : List X) (p : ℕ) (x : X) → EachAt Q xs → slice_get xs p ≡ Some x → Q p x
at_one Q [] p x each there = absurd (let lt = below [] p x there in omega arith)
at_one Q (y ∷ xs) zero x each there = subst (Q zero) (un_some y x there) (each zero)
at_one Q (y ∷ xs) (suc p) x each there = at_one (λ n. Q (suc n)) xs p x (λ n. each (suc n)) there

pub All_kept : {X : Type 0} (P : X → Type 0) (xs zs : List X) (n : ℕ) → length xs ≡ n → All P xs → All P (take n (xs ++ zs))
All_kept {X = X} P xs zs n len h = subst (λ (l : List X). All P l) (sym (take_front n xs zs len)) h

module _ {I : Type 0} where
  -- the item that lies at the seam
  pub here : (slots ys zs : List (Option I)) (o : Option I) (x : I) → slots ≡ ys ++ o ∷ zs → o ≡ Some x → slice_get slots (length ys) ≡ Some (Some x)
  here slots ys zs o x seam there = at_seam slots ys zs o seam ∙ ap Some there

  pub open_more : (ended : I → Bool) (slots ys zs : List (Option I)) (o : Option I) (x : I) (all : Bool) → slots ≡ ys ++ o ∷ zs → o ≡ Some x → (IsFalse all → IsOpen ended slots)
      → IsFalse all ⊎ IsFalse (ended x) → IsOpen ended slots
  open_more ended slots ys zs o x all seam there before which = ⊎_elim (λ (f : all ≡ false). before f) (λ (f : ended x ≡ false). (length ys, x, here slots ys zs o x seam there, f)) which

  pub short_here : (short : I → Bool) (slots ys zs : List (Option I)) (o : Option I) (x : I) (n : ℕ) → slots ≡ ys ++ o ∷ zs → o ≡ Some x → n ≡ length ys → LiesShort short slots n → IsTrue (short x)
  short_here short slots ys zs o x n seam there len l =
      ap short (un_some x l.0 (un_some (Some x) (Some l.0) (sym (here slots ys zs o x seam there) ∙ (ap (slice_get slots) (sym len) ∙ l.1)))) ∙ l.2

  -- where one hasn't ended, one that was taken out is short
  pub one_short : {X : Type 0} (ended short : I → Bool) (Q : X → Type 0) (slots : List (Option I)) (jobs : List X) → length jobs ≡ length slots → Told ended short slots → IsOpen ended slots
      → EachAt (λ p job. LiesShort short slots p → Q job) jobs → OneIs Q jobs
  one_short {X = X} ended short Q slots jobs len told unended each = ⊎_elim
      (λ (all : (p : ℕ) (item : I) → slice_get slots p ≡ Some (Some item) → IsTrue (ended item)). absurd (true≢false (sym (all unended.0 unended.1 unended.2) ∙ unended.3)))
      (λ (one : (p : ℕ) × (item : I) × (slice_get slots p ≡ Some (Some item)) × IsTrue (short item)).
      let lt = below slots one.0 (Some one.1) one.2 in
      let job = get_below jobs one.0 (omega arith) in
      (one.0, job.0, job.1, at_one (λ p j. LiesShort short slots p → Q j) jobs one.0 job.0 each job.1 (one.1, one.2, one.3))) told

  pub told_kept : (ended short : I → Bool) (slots zs : List (Option I)) (n : ℕ) → length slots ≡ n → Told ended short slots → Told ended short (take n (slots ++ zs))
  told_kept ended short slots zs n len t = subst (λ (s : List (Option I)). Told ended short s) (sym (take_front n slots zs len)) t
