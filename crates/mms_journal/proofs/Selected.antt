-- The filters of a read, one after the other, select what is asked for by number and then what is in range.
use Rattle.std.proofs.Common.{◌≡◌, ◌∙◌, ap, sym, refl, ℕ, nat_le, nat_lt, Bool, true, false, not, ◌&&◌, ◌||◌, cond, List, [], ◌∷◌, Option, None, Some, filter, arith}
use Rattle.std.proofs.lemmas.Bool.Decides.{nat_tests}
use Rattle.mms_types.specs.declared.journal.EntryToStartAfter.{EntryToStartAfter}
use Rattle.mms_types.specs.declared.journal.JournalStart.{JournalStart}
use Rattle.mms_types.specs.declared.journal.JournalStart.TheVariants as start
use Rattle.mms_types.specs.declared.journal.JournalStop.{JournalStop}
use Rattle.mms_types.specs.declared.journal.JournalStop.TheVariants as stop
use Rattle.mms_types.specs.declared.journal.ReadJournal.{ReadJournal}
use Rattle.mms_journal.specs.Entries.{moment_in}
use Rattle.mms_journal.specs.Journals.{Log}
use Rattle.mms_journal.specs.Range.{IsRangeOf, count_of, first_counted, has_wanted, if_counted, in_range, is_before, is_below, is_by, is_passed, since_of, until_of}
use Rattle.mms_journal.specs.Selection.{counted, followed, listed, read, selected, started, stopped, tagged}
use Rattle.mms_journal.specs.declared.journal.Written.{Written}
use Rattle.mms_journal.specs.declared.reading.Range.{Range}

-- ---- filters

pub same_filter : {X : Type 0} (p q : X → Bool) → ((x : X) → p x ≡ q x) → (xs : List X) → filter p xs ≡ filter q xs
same_filter p q same [] = refl
same_filter p q same (x ∷ xs) = ap (λ b. cond b (x ∷ filter p xs) (filter p xs)) (same x) ∙ ap (λ l. cond (q x) (x ∷ l) l) (same_filter p q same xs)

pub twice : {X : Type 0} (p q : X → Bool) (xs : List X) → filter p (filter q xs) ≡ filter (λ x. q x && p x) xs
twice p q [] = refl
twice p q (x ∷ xs) = by_first (q x) refl (twice p q xs)
  where
    by_first : (b : Bool) → q x ≡ b → filter p (filter q xs) ≡ filter (λ y. q y && p y) xs → filter p (filter q (x ∷ xs)) ≡ filter (λ y. q y && p y) (x ∷ xs)
    by_first true e rest = rw e (ap (λ l. cond (p x) (x ∷ l) l) rest)
    by_first false e rest = rw e rest

pub all_pass : {X : Type 0} (p : X → Bool) → ((x : X) → p x ≡ true) → (xs : List X) → xs ≡ filter p xs
all_pass p each [] = refl
all_pass p each (x ∷ xs) = ap (λ l. x ∷ l) (all_pass p each xs) ∙ sym (ap (λ b. cond b (x ∷ filter p xs) (filter p xs)) (each x))

-- ---- each condition as one

abbrev since_start : Option JournalStart → Written → Bool
since_start start w = not (is_below start w.number) && nat_le (since_of start) (moment_in w.entry)

no_least : (m : ℕ) → nat_le 0 m ≡ true
no_least m = grind (arith, nat_tests)

at_least : (a n m : ℕ) → nat_le n a ≡ (not (nat_lt a n) && nat_le 0 m)
at_least a n m = by_test (nat_lt a n) refl ∙ ap (λ b. not (nat_lt a n) && b) (sym (no_least m))
  where
    by_test : (b : Bool) → nat_lt a n ≡ b → nat_le n a ≡ (not (nat_lt a n) && true)
    by_test true e = rw e (grind (arith, nat_tests, e))
    by_test false e = rw e (grind (arith, nat_tests, e))

above : (a n : ℕ) → nat_lt n a ≡ not (nat_le a n)
above a n = by_test (nat_le a n) refl
  where
    by_test : (b : Bool) → nat_le a n ≡ b → nat_lt n a ≡ not b
    by_test true e = grind (arith, nat_tests, e)
    by_test false e = grind (arith, nat_tests, e)

started_is : (s : Option JournalStart) (ws : List Written) → started s ws ≡ filter (since_start s) ws
started_is None ws = all_pass (since_start None) (λ w. no_least (moment_in w.entry)) ws
started_is (Some (start.Time time)) ws = refl
started_is (Some (start.Entry first)) ws = same_filter _ (since_start (Some (start.Entry first))) (λ w. at_least w.number _ (moment_in w.entry)) ws

stopped_is : (s : Option JournalStop) (ws : List Written) → stopped s ws ≡ filter (λ w. is_by (until_of s) (moment_in w.entry)) ws
stopped_is None ws = all_pass (λ w. true) (λ w. refl) ws
stopped_is (Some (stop.Time time)) ws = refl
stopped_is (Some (stop.Count count)) ws = all_pass (λ w. true) (λ w. refl) ws

followed_is : (a : Option EntryToStartAfter) (ws : List Written) → followed a ws ≡ filter (λ w. not (is_passed a w.number)) ws
followed_is None ws = all_pass (λ w. true) (λ w. refl) ws
followed_is (Some after) ws = same_filter _ (λ w. not (is_passed (Some after) w.number)) (λ w. above w.number _) ws

tagged_is : (t : Option (List (List ℕ))) (ws : List Written) → tagged t ws ≡ filter (λ w. has_wanted t w.entry) ws
tagged_is None ws = all_pass (λ w. true) (λ w. refl) ws
tagged_is (Some tags) ws = refl

-- ---- all of them

same_test : (below since by passed tags : Bool) → ((not below && since) && (by && (not passed && tags))) ≡ (not (below || passed) && (since && (by && tags)))
same_test true since by passed tags = refl
same_test false true true true tags = refl
same_test false true false true tags = refl
same_test false false by true tags = refl
same_test false since by false tags = refl

-- what is left by all conditions but the number of entries
pub conditions_are : (b : Option JournalStart) (s : Option JournalStop) (a : Option EntryToStartAfter) (t : Option (List (List ℕ))) (ws : List Written)
    → tagged t (followed a (stopped s (started b ws)))
    ≡ filter (in_range (record { since = since_of b; until = until_of s; tags = t })) (filter (λ w. not (is_before b a w.number)) ws)
conditions_are b s a t ws =
    let p1 : Written → Bool = since_start b in
    let p2 : Written → Bool = λ w. is_by (until_of s) (moment_in w.entry) in
    let p3 : Written → Bool = λ w. not (is_passed a w.number) in
    let p4 : Written → Bool = λ w. has_wanted t w.entry in
    let range : Range = record { since = since_of b; until = until_of s; tags = t } in
    tagged_is t (followed a (stopped s (started b ws)))
    ∙ ap (filter p4) (followed_is a (stopped s (started b ws)))
    ∙ twice p4 p3 (stopped s (started b ws))
    ∙ ap (filter (λ w. p3 w && p4 w)) (stopped_is s (started b ws))
    ∙ twice (λ w. p3 w && p4 w) p2 (started b ws)
    ∙ ap (filter (λ w. p2 w && (p3 w && p4 w))) (started_is b ws)
    ∙ twice (λ w. p2 w && (p3 w && p4 w)) p1 ws
    ∙ same_filter (λ w. p1 w && (p2 w && (p3 w && p4 w))) (λ w. not (is_before b a w.number) && in_range range w)
    (λ w. same_test (is_below b w.number) (nat_le (since_of b) (moment_in w.entry)) (p2 w) (is_passed a w.number) (p4 w)) ws
    ∙ sym (twice (in_range range) (λ w. not (is_before b a w.number)) ws)

counted_is : (s : Option JournalStop) (ws : List Written) → counted s ws ≡ if_counted (count_of s) ws
counted_is None ws = refl
counted_is (Some (stop.Time time)) ws = refl
counted_is (Some (stop.Count count)) ws = refl

range_is : (asked : ReadJournal) (range : Range) → IsRangeOf asked range → record { since = since_of asked.start; until = until_of asked.stop; tags = listed asked.tags } ≡ range
range_is asked range is = λ i. record { since = sym is.since i; until = sym is.until i; tags = sym is.tags i }

pub selected_is : (asked : ReadJournal) (range : Range) (ws front : List Written) → IsRangeOf asked range → front ≡ filter (λ w. not (is_before asked.start asked.after w.number)) ws
    → selected asked ws ≡ if_counted (count_of asked.stop) (filter (in_range range) front)
selected_is asked range ws front is behind =
    counted_is asked.stop _
    ∙ ap (if_counted (count_of asked.stop)) (conditions_are asked.start asked.stop asked.after (listed asked.tags) ws
    ∙ ap (λ r. filter (in_range r) (filter (λ w. not (is_before asked.start asked.after w.number)) ws)) (range_is asked range is)
    ∙ ap (filter (in_range range)) (sym behind))

-- what is told of a journal is told of what is in range
pub read_is : (asked : ReadJournal) (range : Range) (j : Log) (front : List Written) → IsRangeOf asked range → front ≡ filter (λ w. not (is_before asked.start asked.after w.number)) j.entries
    → first_counted range (count_of asked.stop) front ≡ read asked j
read_is asked range j front is behind =
    let all = selected_is asked range j.entries front is behind in
    rw (all, sym is.tags) refl
