-- The first line of a text and of a joining of texts.
use Rattle.std.proofs.Common.{◌≡◌, ℕ, suc, zero, ◌+◌, ◌-◌, ◌<◌, ◌≤◌, ◌==◌, Bool, true, false, List, [], ◌∷◌, ◌++◌, length, take, drop, refl, sym, ap, ◌∙◌, arith, add-one}
use Rattle.std.proofs.lemmas.List.{drop-take, drop-drop}
use Rattle.std.proofs.lemmas.Grind.{common_steps}
use Rattle.std.proofs.lemmas.Bool.Decides.{nat_tests}
use Rattle.std.specs.List.{concat}
use Rattle.memchr.specs.Find.{Nowhere, NoneBefore, Passes, is_byte}
use Rattle.cell_io.specs.Lines.{onto_first, lines_of, has_feed, first_line, after_line, whole_lines}

-- ---- where the first line feed is

abbrev Feeds : List ℕ → ℕ → Type 0
Feeds xs = Passes (is_byte 10) xs

none_here : (xs : List ℕ) → ((k : ℕ) → k < length xs → ¬ Feeds xs k) → has_feed xs ≡ false
none_here [] h = refl
none_here (b ∷ bs) h =
    let rest = none_here bs (λ k l. h (suc k) (omega arith)) in
    let first = h 0 (omega arith) in grind (arith, nat_tests, common_steps)

-- where there is none, the line goes on to the end
pub without_feed : (xs : List ℕ) → Nowhere (Feeds xs) 0 (length xs) → has_feed xs ≡ false
without_feed xs h = none_here xs (λ k l. h k (omega arith) l)

there : (xs : List ℕ) (n : ℕ) → n < length xs → Feeds xs n → has_feed xs ≡ true
there [] n l h = absurd (omega arith)
there (b ∷ bs) zero l h = grind (arith, nat_tests, common_steps)
there (b ∷ bs) (suc n) l h = let rest = there bs n (omega arith) h in grind (arith, nat_tests, common_steps)

front_here : (xs : List ℕ) (n : ℕ) → n < length xs → Feeds xs n → ((k : ℕ) → k < n → ¬ Feeds xs k) → take (suc n) xs ≡ first_line xs
front_here [] n l h before = absurd (omega arith)
front_here (b ∷ bs) zero l h before = grind (arith, nat_tests, common_steps)
front_here (b ∷ bs) (suc n) l h before =
    let rest = front_here bs n (omega arith) h (λ k j. before (suc k) (omega arith)) in
    let first = before 0 (omega arith) in grind (arith, nat_tests, common_steps)

back_here : (xs : List ℕ) (n : ℕ) → n < length xs → Feeds xs n → ((k : ℕ) → k < n → ¬ Feeds xs k) → drop (suc n) xs ≡ after_line xs
back_here [] n l h before = absurd (omega arith)
back_here (b ∷ bs) zero l h before = grind (arith, nat_tests, common_steps)
back_here (b ∷ bs) (suc n) l h before =
    let rest = back_here bs n (omega arith) h (λ k j. before (suc k) (omega arith)) in
    let first = before 0 (omega arith) in grind (arith, nat_tests, common_steps)

pub feed_at : (xs : List ℕ) (n : ℕ) → NoneBefore (Feeds xs) 0 (length xs) n → Feeds xs n → has_feed xs ≡ true
feed_at xs n p h = there xs n p.high h

pub front_at : (xs : List ℕ) (n : ℕ) → NoneBefore (Feeds xs) 0 (length xs) n → Feeds xs n → take (n + 1) xs ≡ first_line xs
front_at xs n p h = rw add-one (front_here xs n p.high h (λ k l. p.before k (omega arith) l))

pub back_at : (xs : List ℕ) (n : ℕ) → NoneBefore (Feeds xs) 0 (length xs) n → Feeds xs n → drop (n + 1) xs ≡ after_line xs
back_at xs n p h = rw add-one (back_here xs n p.high h (λ k l. p.before k (omega arith) l))

-- ---- a text without a line feed

pub first_all : (xs : List ℕ) → has_feed xs ≡ false → first_line xs ≡ xs
first_all [] h = refl
first_all (b ∷ bs) h = grind (arith, nat_tests, common_steps, first_all bs)

pub after_none : (xs : List ℕ) → has_feed xs ≡ false → after_line xs ≡ []
after_none [] h = refl
after_none (b ∷ bs) h = grind (arith, nat_tests, common_steps, after_none bs)

-- ---- a joining whose front has no line feed

pub first_later : (xs ys : List ℕ) → has_feed xs ≡ false → first_line (xs ++ ys) ≡ xs ++ first_line ys
first_later [] ys h = refl
first_later (b ∷ bs) ys h = grind (arith, nat_tests, common_steps, first_later bs ys)

pub after_later : (xs ys : List ℕ) → has_feed xs ≡ false → after_line (xs ++ ys) ≡ after_line ys
after_later [] ys h = refl
after_later (b ∷ bs) ys h = grind (arith, nat_tests, common_steps, after_later bs ys)

pub feed_later : (xs ys : List ℕ) → has_feed xs ≡ false → has_feed (xs ++ ys) ≡ has_feed ys
feed_later [] ys h = refl
feed_later (b ∷ bs) ys h = grind (arith, nat_tests, common_steps, feed_later bs ys)

-- ---- a joining whose front has one

pub first_here : (xs ys : List ℕ) → has_feed xs ≡ true → first_line (xs ++ ys) ≡ first_line xs
first_here [] ys h = cc
first_here (b ∷ bs) ys h = grind (arith, nat_tests, common_steps, first_here bs ys)

pub after_here : (xs ys : List ℕ) → has_feed xs ≡ true → after_line (xs ++ ys) ≡ after_line xs ++ ys
after_here [] ys h = cc
after_here (b ∷ bs) ys h = grind (arith, nat_tests, common_steps, after_here bs ys)

pub feed_here : (xs ys : List ℕ) → has_feed xs ≡ true → has_feed (xs ++ ys) ≡ true
feed_here [] ys h = cc
feed_here (b ∷ bs) ys h = grind (arith, nat_tests, common_steps, feed_here bs ys)

pub longer : (xs ys : List ℕ) → length (first_line xs) ≤ length (first_line (xs ++ ys))
longer [] ys = omega arith
longer (b ∷ bs) ys = grind (arith, nat_tests, common_steps, longer bs ys)

-- ---- the lines of a text

-- they are its first line, and the lines of what stands after it
pub lines_first : (text : List ℕ) → ¬ (text ≡ []) → lines_of text ≡ first_line text ∷ lines_of (after_line text)
lines_first [] h = absurd (h refl)
lines_first (b ∷ []) h = grind (arith, nat_tests, common_steps)
lines_first (b ∷ c ∷ bs) h = let rest = lines_first (c ∷ bs) (λ e. cc) in grind (arith, nat_tests, common_steps, rest)

onto_first-concat : (b : ℕ) (lines : List (List ℕ)) → concat (onto_first b lines) ≡ b ∷ concat lines
onto_first-concat b [] = refl
onto_first-concat b (line ∷ rest) = refl

-- joined, they are the text
pub lines_joined : (text : List ℕ) → concat (lines_of text) ≡ text
lines_joined [] = refl
lines_joined (b ∷ bs) = grind (arith, nat_tests, common_steps, lines_joined bs, onto_first-concat b (lines_of bs))

-- the first line and what stands after it are the text
pub first-after : (text : List ℕ) → first_line text ++ after_line text ≡ text
first-after [] = refl
first-after (b ∷ bs) = grind (arith, nat_tests, common_steps, first-after bs)

-- ---- the whole lines of octets

pub whole_none : (bs : List ℕ) → has_feed bs ≡ false → whole_lines bs ≡ []
whole_none [] h = refl
whole_none (b ∷ bs) h = rw h refl

feed_first : (text ys : List ℕ) → has_feed text ≡ true → has_feed (first_line text ++ ys) ≡ true
feed_first [] ys h = cc
feed_first (b ∷ bs) ys h = grind (arith, nat_tests, common_steps, feed_first bs ys)

whole_step : (b : ℕ) (bs ys : List ℕ) (t : Bool) → (b == 10) ≡ t → has_feed (b ∷ bs) ≡ true → (has_feed bs ≡ true → whole_lines (first_line bs ++ ys) ≡ first_line bs ++ whole_lines ys)
    → whole_lines (first_line (b ∷ bs) ++ ys) ≡ first_line (b ∷ bs) ++ whole_lines ys
whole_step b bs ys true e h rest = rw (e, e) refl
whole_step b bs ys false e h rest =
    let here : has_feed bs ≡ true = rw e at h in
    let more : has_feed (first_line bs ++ ys) ≡ true = feed_first bs ys here in
    rw (e, e, more) (ap (λ (l : List ℕ). b ∷ l) (rest here))

pub whole_first : (text ys : List ℕ) → has_feed text ≡ true → whole_lines (first_line text ++ ys) ≡ first_line text ++ whole_lines ys
whole_first [] ys h = cc
whole_first (b ∷ bs) ys h = whole_step b bs ys (b == 10) refl h (λ k. whole_first bs ys k)

pub lines_here : (text ys : List ℕ) → has_feed text ≡ true → lines_of (first_line text ++ ys) ≡ first_line text ∷ lines_of ys
lines_here [] ys h = cc
lines_here (b ∷ bs) ys h = grind (arith, nat_tests, common_steps, lines_here bs ys)

-- ---- a window of a buffer

-- what is held of the buffer after its first n octets were given
pub given_of : (xs : List ℕ) (a e n : ℕ) → a + n ≤ e → take (e - (a + n)) (drop (a + n) xs) ≡ drop n (take (e - a) (drop a xs))
given_of xs a e n h =
    let size : e - a ≡ n + (e - (a + n)) = omega arith in
    sym (ap (λ (k : ℕ). drop n (take k (drop a xs))) size ∙ drop-take n (e - (a + n)) (drop a xs) ∙ ap (take (e - (a + n))) (drop-drop n a xs))
