-- Journals up to a place are sound, and one more.
use Rattle.std.proofs.Common.{◌≡◌, ℕ, zero, suc, ◌+◌, ◌<◌, Bool, true, false, nat_lt, List, [], ◌∷◌, get_or, slice_get, Some, refl, sym, subst, arith}
use Rattle.std.proofs.lemmas.Bool.Decides.{nat_tests}
use Rattle.mms_types.specs.declared.key.Key.{Key}
use Rattle.mms_journal.specs.Journals.{IsJournal, Log, Rows}

get_there : {X : Type 0} (xs : List X) (n : ℕ) (x d : X) → slice_get xs n ≡ Some x → get_or xs n d ≡ x
get_there [] zero x d e = absurd cc
get_there [] (suc n) x d e = absurd cc
get_there (y ∷ ys) zero x d e = cc
get_there (y ∷ ys) (suc n) x d e = get_there ys n x d e

pub one_more : (rows : Rows) (place : ℕ) (row : Key × Log) → slice_get rows place ≡ Some row → IsJournal row.1
    → ((k : ℕ) (d : Key × Log) → k < place → IsJournal (get_or rows k d).1) → (k : ℕ) (d : Key × Log) → k < place + 1 → IsJournal (get_or rows k d).1
one_more rows place row at sound before k d low = by_test (nat_lt k place) refl
  where
    by_test : (b : Bool) → nat_lt k place ≡ b → IsJournal (get_or rows k d).1
    by_test true t = before k d (grind (arith, nat_tests, t))
    by_test false t =
        let same : place ≡ k = grind (arith, nat_tests, t, low) in
        subst (λ (n : ℕ). IsJournal (get_or rows n d).1) same (subst (λ (r : Key × Log). IsJournal r.1) (sym (get_there rows place row d at)) sound)
