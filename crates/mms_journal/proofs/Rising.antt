-- Numbers rise: they still do where entries go and where more come, and those that are too low stand in front.
use Rattle.std.proofs.Common.{◌≡◌, ◌∙◌, ap, sym, subst, refl, ℕ, zero, suc, ◌+◌, ◌<◌, ◌≤◌, Bool, true, false, not, ◌||◌, cond, List, [], ◌∷◌, ◌++◌, Option, None, Some, filter, drop, get_or, length, arith}
use Rattle.std.proofs.lemmas.Bool.Decides.{nat_tests}
use Rattle.std.specs.List.Sorted.{IsPartitionPoint, IsPartitionedBy}
use Rattle.mms_types.specs.declared.journal.EntryToStartAfter.{EntryToStartAfter}
use Rattle.mms_types.specs.declared.journal.JournalEntry.{JournalEntry}
use Rattle.mms_types.specs.declared.journal.JournalStart.{JournalStart}
use Rattle.mms_types.specs.declared.journal.JournalStart.TheVariants as start
use Rattle.mms_journal.specs.Journals.{Rises}
use Rattle.mms_journal.specs.Range.{is_before, is_below, is_passed}
use Rattle.mms_journal.specs.Services.{numbered}
use Rattle.mms_journal.specs.declared.journal.Written.{Written}

lower : (a b : ℕ) (ws : List Written) (high : ℕ) → a ≤ b → Rises b ws high → Rises a ws high
lower a b [] high le h = omega (arith, le, h)
lower a b (w ∷ ws) high le h = (omega (arith, le, h.0), h.1)

pub fewer_rise : (p : Written → Bool) (low : ℕ) (ws : List Written) (high : ℕ) → Rises low ws high → Rises low (filter p ws) high
fewer_rise p low [] high h = h
fewer_rise p low (w ∷ ws) high h = by_first (p w) (fewer_rise p w.number ws high h.1)
  where
    by_first : (b : Bool) → Rises w.number (filter p ws) high → Rises low (cond b (w ∷ filter p ws) (filter p ws)) high
    by_first true rest = (h.0, rest)
    by_first false rest = lower low w.number (filter p ws) high (omega (arith, h.0)) rest

numbered_rise : (client low n : ℕ) (es : List JournalEntry) → low ≤ n → Rises low (numbered client n es) (n + length es)
numbered_rise client low n [] le = omega (arith, le)
numbered_rise client low n (e ∷ es) le =
    let same : n + 1 + length es ≡ n + length (e ∷ es) = omega arith in
    (omega (arith, le), subst (Rises (n + 1) (numbered client (n + 1) es)) same (numbered_rise client (n + 1) (n + 1) es (omega arith)))

pub more_rise : (client low n : ℕ) (ws : List Written) (es : List JournalEntry) → Rises low ws n → Rises low (ws ++ numbered client n es) (n + length es)
more_rise client low n [] es h = numbered_rise client low n es h
more_rise client low n (w ∷ ws) es h = (h.0, more_rise client w.number n ws es h.1)

-- ---- those that come before others

each_later : (low : ℕ) (ws : List Written) (high : ℕ) (j : ℕ) (d : Written) → Rises low ws high → j < length ws → low < (get_or ws j d).number
each_later low [] high j d h is = absurd (omega (arith, is))
each_later low (w ∷ ws) high zero d h is = h.0
each_later low (w ∷ ws) high (suc j) d h is = let rest = each_later w.number ws high j d h.1 (omega (arith, is)) in omega (arith, h.0, rest)

below_falls : (s : Option JournalStart) (m n : ℕ) → m ≤ n → is_below s n ≡ true → is_below s m ≡ true
below_falls None m n le h = absurd cc
below_falls (Some (start.Time time)) m n le h = absurd cc
below_falls (Some (start.Entry first)) m n le h = grind (arith, nat_tests, le, h)

passed_falls : (a : Option EntryToStartAfter) (m n : ℕ) → m ≤ n → is_passed a n ≡ true → is_passed a m ≡ true
passed_falls None m n le h = absurd cc
passed_falls (Some after) m n le h = grind (arith, nat_tests, le, h)

before_falls : (s : Option JournalStart) (a : Option EntryToStartAfter) (m n : ℕ) → m ≤ n → is_before s a n ≡ true → is_before s a m ≡ true
before_falls s a m n le h = by_below (is_below s n) refl
  where
    either : (b : Bool) → b ≡ true → (b || is_passed a m) ≡ true
    either b e = rw e refl

    or : (b : Bool) → is_passed a m ≡ true → (b || is_passed a m) ≡ true
    or true e = refl
    or false e = e

    by_below : (b : Bool) → is_below s n ≡ b → is_before s a m ≡ true
    by_below true e = either (is_below s m) (below_falls s m n le e)
    by_below false e = or (is_below s m) (passed_falls a m n le (sym (ap (λ (c : Bool). c || is_passed a n) e) ∙ h))

module _ (s : Option JournalStart) (a : Option EntryToStartAfter) where
  pub parted : (low : ℕ) (ws : List Written) (high : ℕ) → Rises low ws high → IsPartitionedBy (λ w. is_before s a w.number) ws
  parted low [] high h i j d le is t = absurd (omega (arith, is))
  parted low (w ∷ ws) high h zero zero d le is t = t
  parted low (w ∷ ws) high h zero (suc j) d le is t =
      let later = each_later w.number ws high j d h.1 (omega (arith, is)) in
      before_falls s a w.number (get_or ws j d).number (omega (arith, later)) t
  parted low (w ∷ ws) high h (suc i) zero d le is t = absurd (omega (arith, le))
  parted low (w ∷ ws) high h (suc i) (suc j) d le is t = parted w.number ws high h.1 i j d (omega (arith, le)) (omega (arith, is)) t

-- those from that point on are the ones that don't pass
pub behind : (p : Written → Bool) (ws : List Written) (k : ℕ) → k ≤ length ws → IsPartitionPoint (λ w. p w ≡ true) (λ w. p w ≡ false) ws k → drop k ws ≡ filter (λ w. not (p w)) ws
behind p [] zero le h = refl
behind p [] (suc k) le h = refl
behind p (w ∷ ws) zero le h =
    ap (λ l. w ∷ l) (behind p ws zero (omega arith) (
      λ i d low high. absurd (omega (arith, high)),
      λ i d low high. h.1 (suc i) d (omega arith) (omega (arith, high)),
    ))
    ∙ sym (ap (λ (b : Bool). cond (not b) (w ∷ filter (λ x. not (p x)) ws) (filter (λ x. not (p x)) ws)) (h.1 zero w (omega arith) (omega arith)))
behind p (w ∷ ws) (suc k) le h =
    behind p ws k (omega (arith, le)) (
      λ i d low high. h.0 (suc i) d (omega arith) (omega (arith, high)),
      λ i d low high. h.1 (suc i) d (omega (arith, low)) (omega (arith, high)),
    )
    ∙ sym (ap (λ (b : Bool). cond (not b) (w ∷ filter (λ x. not (p x)) ws) (filter (λ x. not (p x)) ws)) (h.0 zero w (omega arith) (omega arith)))
