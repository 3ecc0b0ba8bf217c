-- Lists and their last elements.
use Rattle.std.proofs.Common.{◌≡◌, ℕ, zero, suc, ◌+◌, List, [], ◌∷◌, ◌++◌, length, Option, Some, None, slice_get, option_to_list, sym, refl, ap, ◌∙◌, subst, arith, length-append}
use Rattle.std.specs.List.{All, range_with_len}
use Rattle.std.proofs.lemmas.List.{get_or_append_left}
use Rattle.std.proofs.Math.Seq.{get_or-append_seam}
use Rattle.cell_pool.specs.Served.{EachAt}

module _ {A : Type 0} where
  pub popped : (all rest : List A) (o : Option A) (x : A) → all ≡ rest ++ option_to_list o → o ≡ Some x → all ≡ rest ++ x ∷ []
  popped all rest o x less there = less ∙ ap (λ p. rest ++ option_to_list p) there

  pub none_left : (all rest : List A) (o : Option A) → all ≡ rest ++ option_to_list o → o ≡ None → length rest ≡ 0 → all ≡ []
  none_left all [] o less there none = less ∙ ap (λ p. option_to_list p) there
  none_left all (x ∷ rest) o less there none = absurd (omega arith)

  pub All_init : (P : A → Type 0) (all ys : List A) (x : A) → all ≡ ys ++ x ∷ [] → All P all → All P ys
  All_init P all ys x is h k d lt = subst P (get_or_append_left ys (x ∷ []) d k lt) (subst (All P) is h k d (omega (arith, length-append ys (x ∷ []))))

  pub All_last : (P : A → Type 0) (all ys : List A) (x : A) → all ≡ ys ++ x ∷ [] → All P all → P x
  All_last P all ys x is h = subst P (get_or-append_seam ys x [] x) (subst (All P) is h (length ys) x (omega (arith, length-append ys (x ∷ []))))

  pub All_first : (P : A → Type 0) (x : A) (xs : List A) → All P (x ∷ xs) → P x
  All_first P x xs h = h 0 x (omega arith)

  pub All_rest : (P : A → Type 0) (x : A) (xs : List A) → All P (x ∷ xs) → All P xs
  All_rest P x xs h k d lt = h (suc k) d (omega arith)

  pub All_snoc : (P : A → Type 0) (all ys : List A) (x : A) → all ≡ ys ++ x ∷ [] → All P ys → P x → All P all
  All_snoc P all ys x is h p = subst (All P) (sym is) (by ys h)
    where
      by : (zs : List A) → All P zs → All P (zs ++ x ∷ [])
      by [] i zero d lt = p
      by [] i (suc k) d lt = absurd (omega arith)
      by (z ∷ zs) i zero d lt = i 0 d (omega arith)
      by (z ∷ zs) i (suc k) d lt = by zs (λ j e l. i (suc j) e (omega arith)) k d (omega arith)

  pub at_seam : (all ys zs : List A) (x : A) → all ≡ ys ++ x ∷ zs → slice_get all (length ys) ≡ Some x
  at_seam all ys zs x is = ap (λ l. slice_get l (length ys)) is ∙ by ys
    where
      by : (ws : List A) → slice_get (ws ++ x ∷ zs) (length ws) ≡ Some x
      by [] = refl
      by (w ∷ ws) = by ws

  pub All_seam : (P : A → Type 0) (all ys zs : List A) (x : A) → all ≡ ys ++ x ∷ zs → All P all → P x
  All_seam P all ys zs x is h = subst P (get_or-append_seam ys x zs x) (subst (All P) is h (length ys) x (omega (arith, length-append ys (x ∷ zs))))

  pub EachAt_snoc : (Q : ℕ → A → Type 0) (all ys : List A) (x : A) → all ≡ ys ++ x ∷ [] → EachAt Q ys → Q (length ys) x → EachAt Q all
  EachAt_snoc Q all ys x is h q = subst (EachAt Q) (sym is) (by Q ys h q)
    where
      by : (R : ℕ → A → Type 0) (zs : List A) → EachAt R zs → R (length zs) x → EachAt R (zs ++ x ∷ [])
      by R [] i r zero = r
      by R [] i r (suc p) = tt
      by R (z ∷ zs) i r zero = i 0
      by R (z ∷ zs) i r (suc p) = by (λ j. R (suc j)) zs (λ j. i (suc j)) r p

pub range_more : (a n : ℕ) → range_with_len a (n + 1) ≡ range_with_len a n ++ (a + n) ∷ []
range_more a zero = let e : a ≡ a + 0 = omega arith in ap (λ (b : ℕ). b ∷ []) e
range_more a (suc n) =
    let grow : suc n + 1 ≡ suc (n + 1) = omega arith in
    let e : a + 1 + n ≡ a + suc n = omega arith in
    ap (range_with_len a) grow ∙ ap (λ l. a ∷ l) (range_more (a + 1) n ∙ ap (λ (b : ℕ). range_with_len (a + 1) n ++ b ∷ []) e)

pub grown : {A : Type 0} (all ys : List A) (x : A) → all ≡ ys ++ x ∷ [] → length all ≡ length ys + 1
grown all ys x is = let e = ap length is in omega (arith, length-append ys (x ∷ []))

pub range_next : (n : ℕ) → range_with_len 0 n ++ n ∷ [] ≡ range_with_len 0 (n + 1)
range_next n = let e : n ≡ 0 + n = omega arith in ap (λ (b : ℕ). range_with_len 0 n ++ b ∷ []) e ∙ sym (range_more 0 n)
