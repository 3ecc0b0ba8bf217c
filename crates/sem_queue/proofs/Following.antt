-- The rows in the order in which they are served, from two places that are followed.
use Rattle.std.proofs.Common.{◌≡◌, ◌≢◌, ◌⊎◌, inl, inr, ℕ, ◌+◌, ◌<◌, ◌≤◌, Bool, true, false, not, ◌&&◌, ◌||◌, ◌==◌, List, length, get_or, count_by, filter, option_map, Option, Some, refl, sym, ap, ap₂, ◌∙◌, arith}
use Rattle.std.specs.Prelude.{nat_lt}
use Rattle.std.proofs.lemmas.Bool.{cases_lt, cases_eq}
use Rattle.std.proofs.lemmas.Bool.Decides.{nat_tests}
use Rattle.std.proofs.lemmas.List.Sums.{count_by-le-length}
use Rattle.sem_queue.specs.declared.row.Row.{Row}
use Rattle.sem_queue.specs.declared.order.Order.TheVariants.{Rank}
use Rattle.sem_queue.specs.Rows.{AreDistinct, before, has_rank, least, list_of, number_above, number_after, numbered, wants}
use Rattle.sem_queue.specs.Marks.{no_row, precedes, Rises, IsChoice, IsWithin, Stands, AreBefore, lists_below, is_up_to}
use Rattle.sem_queue.proofs.Lists.{count-at, count-le, count-two}
use Rattle.sem_queue.proofs.Least.{among-count}
use Rattle.sem_queue.proofs.Firsts.{numbered-is}
use Rattle.sem_queue.proofs.Heads.{begins-below, above-stands, above-within}

before-chain : (a b c : Row) → before a b ≡ true → before b c ≡ true → before a c ≡ true
before-chain a b c t u = grind (arith, nat_tests)

-- of two lists the row at a place of one is served: it comes before those that are left
module _ (tokens : ℕ) (ranked : List Row) (rises : Rises (Rank tokens) ranked) (a b p q : ℕ)
    (a_from : count_by (lists_below tokens a) ranked ≤ p) (a_to : p < count_by (lists_below tokens (a + 1)) ranked)
    (b_from : count_by (lists_below tokens b) ranked ≤ q) (b_to : q ≤ count_by (lists_below tokens (b + 1)) ranked)
    (past : AreBefore ranked (count_by (lists_below tokens b) ranked) q p (count_by (lists_below tokens (a + 1)) ranked))
    (front : q < count_by (lists_below tokens (b + 1)) ranked → before (get_or ranked p no_row) (get_or ranked q no_row) ≡ true) where
  abbrev rank : Row
  rank = get_or ranked p no_row

  in_range : p < length ranked
  in_range = omega (arith, a_to, count_by-le-length (lists_below tokens (a + 1)) ranked)

  q_range : q ≤ length ranked
  q_range = omega (arith, b_to, count_by-le-length (lists_below tokens (b + 1)) ranked)

  list-is : list_of tokens (get_or ranked p no_row).token ≡ a
  list-is =
      let from = (begins-below tokens ranked rises a p in_range).1 a_from in
      let to = (begins-below tokens ranked rises (a + 1) p in_range).0 a_to in
      omega (arith, from, to)

  pub own-count : count_by (is_up_to tokens a (get_or ranked p no_row)) ranked ≡ p + 1
  own-count = above-stands tokens ranked rises a rank p (record {
    in_range = in_range;
    is = ap (λ (l : ℕ). record { first = l; second = rank.priority; number = rank.number }) list-is;
  })

  -- a row that is left in the other list
  pub later : (j : ℕ) → q ≤ j → j < count_by (lists_below tokens (b + 1)) ranked → before (get_or ranked p no_row) (get_or ranked j no_row) ≡ true
  later j from to = elim (cases_eq j q) [
    | inl same ↦ ap (λ (k : ℕ). before rank (get_or ranked k no_row)) same ∙ front (omega arith)
    | inr differs ↦
        let j_range : j < length ranked = omega (arith, to, count_by-le-length (lists_below tokens (b + 1)) ranked) in
        before-chain rank (get_or ranked q no_row) (get_or ranked j no_row) (front (omega arith)) (up j (omega arith) j_range to)
  ]
    where
      up : (j : ℕ) → q < j → j < length ranked → j < count_by (lists_below tokens (b + 1)) ranked → before (get_or ranked q no_row) (get_or ranked j no_row) ≡ true
      up j less lt below =
          let rise = rises q j no_row less lt in
          let from_q = (begins-below tokens ranked rises b q (omega arith)).1 b_from in
          let to_j = (begins-below tokens ranked rises (b + 1) j lt).0 below in
          grind (arith, nat_tests)

  within : IsWithin (Rank tokens) ranked (record { first = b; second = (get_or ranked p no_row).priority; number = (get_or ranked p no_row).number }) q q
  within = record {
    before = λ j lt. passed j lt (omega (arith, lt, q_range)) (cases_lt j (count_by (lists_below tokens b) ranked));
    after = λ j from lt. left j from lt (cases_lt j (count_by (lists_below tokens (b + 1)) ranked));
  }
    where
      passed : (j : ℕ) → j < q → j < length ranked → (j < count_by (lists_below tokens b) ranked) ⊎ (count_by (lists_below tokens b) ranked ≤ j)
          → precedes (record { first = list_of tokens (get_or ranked j no_row).token; second = (get_or ranked j no_row).priority; number = (get_or ranked j no_row).number })
          (record { first = b; second = (get_or ranked p no_row).priority; number = (get_or ranked p no_row).number }) ≡ true
      passed j less lt (inl below) = let less_list = (begins-below tokens ranked rises b j lt).0 below in grind (arith, nat_tests)
      passed j less lt (inr from) =
          let to_j = (begins-below tokens ranked rises (b + 1) j lt).0 (omega arith) in
          let from_j = (begins-below tokens ranked rises b j lt).1 from in
          let comes = past j p from less (omega arith) a_to in
          grind (arith, nat_tests)

      left : (j : ℕ) → q ≤ j → j < length ranked → (j < count_by (lists_below tokens (b + 1)) ranked) ⊎ (count_by (lists_below tokens (b + 1)) ranked ≤ j)
          → precedes (record { first = b; second = (get_or ranked p no_row).priority; number = (get_or ranked p no_row).number })
          (record { first = list_of tokens (get_or ranked j no_row).token; second = (get_or ranked j no_row).priority; number = (get_or ranked j no_row).number }) ≡ true
      left j from lt (inl below) =
          let to_j = (begins-below tokens ranked rises (b + 1) j lt).0 below in
          let from_j = (begins-below tokens ranked rises b j lt).1 (omega arith) in
          let comes = later j from below in
          grind (arith, nat_tests)
      left j from lt (inr above) = let more = (begins-below tokens ranked rises (b + 1) j lt).1 above in grind (arith, nat_tests)

  pub any-count : count_by (is_up_to tokens b (get_or ranked p no_row)) ranked ≡ q
  any-count = above-within tokens ranked rises b rank q q_range within

  -- the places after it
  pub own-moved : AreBefore ranked (count_by (lists_below tokens a) ranked) p q (count_by (lists_below tokens (b + 1)) ranked)
      → AreBefore ranked (count_by (lists_below tokens a) ranked) (p + 1) q (count_by (lists_below tokens (b + 1)) ranked)
  own-moved own i j from to other end = elim (cases_lt i p) [
    | inl less ↦ own i j from less other end
    | inr more ↦ let same : i ≡ p = omega arith in ap (λ (k : ℕ). before (get_or ranked k no_row) (get_or ranked j no_row)) same ∙ later j other end
  ]

  pub any-moved : AreBefore ranked (count_by (lists_below tokens b) ranked) q (p + 1) (count_by (lists_below tokens (a + 1)) ranked)
  any-moved i j from to other end = past i j from to (omega arith) end

-- rows of one number are one
module _ (rows ranked : List Row) (choice : IsChoice (λ r. r.queued) rows ranked) (distinct : AreDistinct rows) where
  one-ranked : (k : ℕ) → count_by (λ r. r.number == k) ranked ≤ 1
  one-ranked k =
      let most : count_by (λ r. r.number == k) rows ≤ 1 = distinct k in
      omega (arith, most, choice (λ r. r.number == k), count-le (λ r. r.queued && r.number == k) (λ r. r.number == k) (λ r t. second r.queued (r.number == k) t) rows)
    where
      second : (b c : Bool) → (b && c) ≡ true → c ≡ true
      second true c t = t
      second false c t = absurd cc

  pub strict : (p q : ℕ) → p ≢ q → p < length ranked → q < length ranked → before (get_or ranked p no_row) (get_or ranked q no_row) ≡ false
      → before (get_or ranked q no_row) (get_or ranked p no_row) ≡ true
  strict p q differ p_range q_range t = by_test (before (get_or ranked q no_row) (get_or ranked p no_row)) refl
    where
      tied : (x y : Row) → before x y ≡ false → before y x ≡ false → (y.number == x.number) ≡ true
      tied x y u v = grind (arith, nat_tests)

      itself : (x : Row) → (x.number == x.number) ≡ true
      itself x = grind (arith, nat_tests)

      by_test : (b : Bool) → before (get_or ranked q no_row) (get_or ranked p no_row) ≡ b → b ≡ true
      by_test true u = refl
      by_test false u =
          let is : Row → Bool = λ r. r.number == (get_or ranked p no_row).number in
          let here : is (get_or ranked p no_row) ≡ true = itself (get_or ranked p no_row) in
          let there : is (get_or ranked q no_row) ≡ true = tied (get_or ranked p no_row) (get_or ranked q no_row) t u in
          absurd (elim (cases_lt p q) [
            | inl less ↦ omega (arith, one-ranked (get_or ranked p no_row).number, count-two is ranked p q no_row less q_range here there)
            | inr more ↦ omega (arith, one-ranked (get_or ranked p no_row).number, count-two is ranked q p no_row (omega arith) p_range there here)
          ])

  -- the row of the number has the rank
  pub above-number : (token p : ℕ) → p < length ranked → number_above (Some (get_or ranked p no_row)) token rows ≡ number_after (get_or ranked p no_row).number token rows
  above-number token p lt = by_row (get_or ranked p no_row) (count-at (has_rank (get_or ranked p no_row).priority (get_or ranked p no_row).number) ranked p no_row lt (ranked-itself (get_or ranked p no_row)))
    where
      ranked-itself : (m : Row) → has_rank m.priority m.number m ≡ true
      ranked-itself m = grind (arith, nat_tests)

      same : (m r : Row) → (r.queued && has_rank m.priority m.number r) ≡ true → (m.priority ≡ r.priority) × (m.number ≡ r.number)
      same m r t = by_queued r.queued t
        where
          by_queued : (b : Bool) → (b && has_rank m.priority m.number r) ≡ true → (m.priority ≡ r.priority) × (m.number ≡ r.number)
          by_queued true t = (grind (arith, nat_tests), grind (arith, nat_tests))
          by_queued false t = absurd cc

      by_row : (m : Row) → 0 < count_by (has_rank m.priority m.number) ranked → number_above (Some m) token rows ≡ number_after m.number token rows
      by_row m some =
          let found = among-count (λ r. r.queued && has_rank m.priority m.number r) rows (omega (arith, some, choice (has_rank m.priority m.number))) in
          let r : Row = found.0 in
          let is = same m r found.2 in
          let above : ℕ → ℕ → Option ℕ = λ priority number. option_map (λ (x : Row). x.number) (least before (filter (λ x. wants token x && (nat_lt priority x.priority || (priority == x.priority && nat_lt number x.number))) rows)) in
          let moved : number_above (Some m) token rows ≡ number_above (Some r) token rows = ap₂ above is.0 is.1 in
          moved ∙ ap (λ (o : Option Row). number_above o token rows) (sym (numbered-is rows r distinct found.1)) ∙ ap (λ (n : ℕ). number_after n token rows) (sym is.1)
