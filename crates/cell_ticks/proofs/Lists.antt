-- Two lists of what happens, in one.
use Rattle.std.proofs.Common.{◌≡◌, ◌∙◌, ap, sym, subst, refl, ◌+◌, ◌<◌, ◌≤◌, nat_lt, Bool, true, false, List, [], ◌∷◌, ◌++◌, append_assoc, map, if◌then◌else◌, arith}
use Rattle.std.proofs.lemmas.Bool.Decides.{nat_tests}
use Rattle.std.specs.List.{AllByRecursion}
use Rattle.mms_types.specs.declared.moment.Moment.{Moment}
use Rattle.sem_ticks.specs.Dated.{HappenFrom, dated_at}
use Rattle.sem_ticks.specs.declared.ticks.Happening as sem_happening
use Rattle.cell_ticks.specs.Meant.{AreInOrder, From, StartsFrom, starts_before}
use Rattle.cell_ticks.specs.Parts.{in_semaphores, merged, put_in}
use Rattle.cell_ticks.specs.Ticks.{dated}
use Rattle.cell_ticks.specs.declared.happening.DatedHappening.{DatedHappening}
use Rattle.cell_ticks.specs.declared.happening.Happening.TheVariants.{Semaphores}

-- all after it
abbrev pub After : Moment → List DatedHappening → Type 0
After at xs = AllByRecursion (λ x. at.0 < x.at.0) xs

module _ (at : Moment) where
  pub from_more : (xs ys : List DatedHappening) → From at xs → From at ys → From at (xs ++ ys)
  from_more [] ys some all = all
  from_more (x ∷ xs) ys some all = (some.0, from_more xs ys some.1 all)

  put_from : (x : DatedHappening) (ys : List DatedHappening) → at.0 ≤ x.at.0 → From at ys → From at (put_in x ys)
  put_from x [] le all = (le, tt)
  put_from x (y ∷ ys) le all = by_test (nat_lt y.at.0 x.at.0) (put_from x ys le all.1)
    where
      by_test : (b : Bool) → From at (put_in x ys) → From at (if b then y ∷ put_in x ys else x ∷ y ∷ ys)
      by_test true rest = (all.0, rest)
      by_test false rest = (le, all)

  pub merged_from : (xs ys : List DatedHappening) → From at xs → From at ys → From at (merged xs ys)
  merged_from [] ys some all = all
  merged_from (x ∷ xs) ys some all = put_from x (merged xs ys) some.0 (merged_from xs ys some.1 all)

  pub semaphores_from : (happened : List (Moment × sem_happening.Happening)) → HappenFrom at happened → From at (map in_semaphores happened)
  semaphores_from [] all = tt
  semaphores_from (h ∷ happened) all = (all.0, semaphores_from happened all.1)

  pub semaphores_after : (happened : List (Moment × sem_happening.Happening)) → HappenFrom (record { 0 = at.0 + 1 }) happened → After at (map in_semaphores happened)
  semaphores_after [] all = tt
  semaphores_after (h ∷ happened) all = let first = all.0 in (omega (arith, first), semaphores_after happened all.1)

-- before all that isn't earlier
pub put_first : (x : DatedHappening) (ys : List DatedHappening) → From x.at ys → put_in x ys ≡ x ∷ ys
put_first x [] all = refl
put_first x (y ∷ ys) all =
    let first = all.0 in
    let not_earlier : nat_lt y.at.0 x.at.0 ≡ false = grind (arith, nat_tests) in
    ap (λ (b : Bool). if b then y ∷ put_in x ys else x ∷ y ∷ ys) not_earlier

-- what happens to semaphores at a moment comes before what isn't earlier
pub first_ones : (at : Moment) (told : List sem_happening.Happening) (rest : List (Moment × sem_happening.Happening)) (ys : List DatedHappening) → HappenFrom at rest → From at ys
    → merged (map in_semaphores (dated_at at told ++ rest)) ys ≡ map (λ h. dated at (Semaphores h)) told ++ merged (map in_semaphores rest) ys
first_ones at [] rest ys later all = refl
first_ones at (h ∷ told) rest ys later all =
    ap (put_in (dated at (Semaphores h))) (first_ones at told rest ys later all)
    ∙ put_first (dated at (Semaphores h)) (map (λ h. dated at (Semaphores h)) told ++ merged (map in_semaphores rest) ys)
    (from_more at (map (λ h. dated at (Semaphores h)) told) (merged (map in_semaphores rest) ys) (at_once told) (merged_from at (map in_semaphores rest) ys (semaphores_from at rest later) all))
  where
    at_once : (told : List sem_happening.Happening) → From at (map (λ h. dated at (Semaphores h)) told)
    at_once [] = tt
    at_once (h ∷ told) = (omega arith, at_once told)

-- one of the second list that is earlier than all of the first
pub second_first : (y : DatedHappening) (xs ys : List DatedHappening) → After y.at xs → merged xs (y ∷ ys) ≡ y ∷ merged xs ys
second_first y [] ys later = refl
second_first y (x ∷ xs) ys later =
    let first = later.0 in
    let earlier : nat_lt y.at.0 x.at.0 ≡ true = grind (arith, nat_tests) in
    ap (put_in x) (second_first y xs ys later.1) ∙ ap (λ (b : Bool). if b then y ∷ put_in x (merged xs ys) else x ∷ y ∷ merged xs ys) earlier

pub second_ones : (zs xs ys : List DatedHappening) → AllByRecursion (λ z. After z.at xs) zs → merged xs (zs ++ ys) ≡ zs ++ merged xs ys
second_ones [] xs ys later = refl
second_ones (z ∷ zs) xs ys later = second_first z xs (zs ++ ys) later.0 ∙ ap (λ l. z ∷ l) (second_ones zs xs ys later.1)

-- ---- as code does it, where the first list is in order

put_next : (x : DatedHappening) (ys : List DatedHappening) → StartsFrom x.at ys → put_in x ys ≡ x ∷ ys
put_next x [] first = refl
put_next x (y ∷ ys) first =
    let not_earlier : nat_lt y.at.0 x.at.0 ≡ false = grind (arith, nat_tests) in
    ap (λ (b : Bool). if b then y ∷ put_in x ys else x ∷ y ∷ ys) not_earlier

starts_with : (at : Moment) (x : DatedHappening) (ys : List DatedHappening) → at.0 ≤ x.at.0 → StartsFrom at ys → StartsFrom at (put_in x ys)
starts_with at x [] le first = le
starts_with at x (y ∷ ys) le first = by_test (nat_lt y.at.0 x.at.0)
  where
    by_test : (b : Bool) → StartsFrom at (if b then y ∷ put_in x ys else x ∷ y ∷ ys)
    by_test true = first
    by_test false = le

starts_merged : (at : Moment) (xs ys : List DatedHappening) → From at xs → StartsFrom at ys → StartsFrom at (merged xs ys)
starts_merged at [] ys all first = first
starts_merged at (x ∷ xs) ys all first = starts_with at x (merged xs ys) all.0 (starts_merged at xs ys all.1 first)

-- the first of both
pub merged_first : (x : DatedHappening) (xs ys : List DatedHappening) → From x.at xs → StartsFrom x.at ys → merged (x ∷ xs) ys ≡ x ∷ merged xs ys
merged_first x xs ys all first = put_next x (merged xs ys) (starts_merged x.at xs ys all first)

-- one that is earlier than that moment, and than all of the first list
after_of : (y : DatedHappening) (at : Moment) (xs : List DatedHappening) → y.at.0 < at.0 → From at xs → After y.at xs
after_of y at [] lt all = tt
after_of y at (x ∷ xs) lt all = let first = all.0 in (omega (arith, lt, first), after_of y at xs lt all.1)

pub merged_second : (y : DatedHappening) (at : Moment) (xs ys : List DatedHappening) → y.at.0 < at.0 → From at xs → merged xs (y ∷ ys) ≡ y ∷ merged xs ys
merged_second y at xs ys lt all = second_first y xs ys (after_of y at xs lt all)

pub merged_none : (xs : List DatedHappening) → AreInOrder xs → merged xs [] ≡ xs
merged_none [] order = refl
merged_none (x ∷ xs) order = ap (put_in x) (merged_none xs order.1) ∙ put_first x xs order.0

-- one more of the second list
pub earlier_more : (at : Moment) (all new left rest : List DatedHappening) (first : DatedHappening) → left ≡ first ∷ rest → starts_before at left ≡ true → new ≡ all ++ first ∷ []
    → (xs : List DatedHappening) → From at xs → new ++ merged xs rest ≡ all ++ merged xs left
earlier_more at all new left rest first is test pushed xs from =
    let lt : nat_lt first.at.0 at.0 ≡ true = ap (starts_before at) (sym is) ∙ test in
    let low : first.at.0 < at.0 = grind (arith, nat_tests) in
    ap (λ l. l ++ merged xs rest) pushed ∙ append_assoc all (first ∷ []) (merged xs rest)
    ∙ ap (λ l. all ++ l) (sym (merged_second first at xs rest low from) ∙ ap (merged xs) (sym is))

-- one more of the first list
pub merged_more : (all earlier new xs rest left after : List DatedHappening) (x : DatedHappening) → xs ≡ x ∷ rest → AreInOrder xs
    → ((ys : List DatedHappening) → From x.at ys → earlier ++ merged ys after ≡ all ++ merged ys left) → StartsFrom x.at after → new ≡ earlier ++ x ∷ []
    → (new ++ merged rest after ≡ all ++ merged xs left) × AreInOrder rest
merged_more all earlier new xs rest left after x is order same starts pushed =
    let o = subst AreInOrder is order in
    let from : From x.at (x ∷ rest) = (omega arith, o.0) in (
      ap (λ l. l ++ merged rest after) pushed ∙ append_assoc earlier (x ∷ []) (merged rest after)
          ∙ ap (λ l. earlier ++ l) (sym (merged_first x rest after o.0 starts))
          ∙ same (x ∷ rest) from
          ∙ ap (λ l. all ++ merged l left) (sym is),
      o.1,
    )
