-- The least free token, by the first without a mark.
use Rattle.std.proofs.Common.{◌≡◌, ℕ, zero, suc, ◌+◌, ◌-◌, ◌<◌, ◌≤◌, Bool, true, false, not, List, find, Option, None, Some, refl, sym, ◌∙◌, ap, arith}
use Rattle.std.specs.List.{range_with_len}
use Rattle.token_sem.specs.declared.entry.SemEntry.{SemEntry}
use Rattle.pool_sem.specs.declared.marks.Marks.{Marks}
use Rattle.pool_sem.specs.Marks.{AreMarks, is_marked}
use Rattle.pool_sem.specs.Pools.{free_token, is_free, meets}
use Rattle.pool_sem.proofs.Finding.{found-in, search-on, search-ends}

-- the search goes on over numbers that fail
skip : (p : ℕ → Bool) (n r k a : ℕ) → r ≡ a + k → r ≤ n → ((t : ℕ) → t < r → p t ≡ false) → find p (range_with_len a (n - a)) ≡ find p (range_with_len r (n - r))
skip p n r zero a e le fails =
    let same : a ≡ r = omega arith in
    ap (λ x. find p (range_with_len x (n - x))) same
skip p n r (suc k) a e le fails = search-on p n a (omega arith) (fails a (omega arith)) ∙ skip p n r k (a + 1) (omega arith) le fails

first-found : (p : ℕ → Bool) (n r : ℕ) → r < n → ((t : ℕ) → t < r → p t ≡ false) → p r ≡ true → find p (range_with_len 0 n) ≡ Some r
first-found p n r lt fails passes =
    let whole : n ≡ n - 0 = omega arith in
    ap (λ x. find p (range_with_len 0 x)) whole ∙ skip p n r r 0 (omega arith) (omega arith) fails ∙ search-ends p n r lt passes

none-found : (p : ℕ → Bool) (n : ℕ) → ((t : ℕ) → t < n → p t ≡ false) → find p (range_with_len 0 n) ≡ None
none-found p n fails = by_found (find p (range_with_len 0 n)) refl
  where
    by_found : (o : Option ℕ) → find p (range_with_len 0 n) ≡ o → o ≡ None
    by_found None f = refl
    by_found (Some t) f =
        let is = found-in p n 0 t f in
        let below : t < 0 + n = is.1 in
        let not_it = fails t (omega arith) in
        absurd (let it = is.0 in cc (it, not_it))

pub free-marked : (m : Marks) (es : List SemEntry) (t : ℕ) (b : Bool) → AreMarks m es → t < 256 → is_marked m t ≡ b → is_free t es ≡ not b
free-marked m es t b a lt e = ap not (sym (a t lt) ∙ e)

pub least-found : (m : Marks) (es : List SemEntry) (count r : ℕ) → AreMarks m es → count ≤ 256 → ((t : ℕ) → t < r → is_marked m t ≡ true) → (r < 256 → is_marked m r ≡ false) → r < count
    → free_token None count es ≡ Some r
least-found m es count r a few before there lt =
    first-found (meets None es) count r lt (λ t below. free-marked m es t true a (omega arith) (before t below)) (free-marked m es r false a (omega arith) (there (omega arith)))

pub least-missing : (m : Marks) (es : List SemEntry) (count r : ℕ) → AreMarks m es → count ≤ 256 → ((t : ℕ) → t < r → is_marked m t ≡ true) → count ≤ r → free_token None count es ≡ None
least-missing m es count r a few before le = none-found (meets None es) count (λ t below. free-marked m es t true a (omega arith) (before t (omega arith)))
