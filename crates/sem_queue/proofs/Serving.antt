-- A row is served, and the places in the two lists are followed.
use Rattle.std.proofs.Common.{◌≡◌, ◌≢◌, inl, inr, ℕ, ◌+◌, ◌<◌, ◌≤◌, Bool, true, false, cond, List, length, get_or, Option, None, Some, refl, sym, ap, ap₂, ◌∙◌, arith}
use Rattle.std.specs.Prelude.{nat_lt, slice_index, count_by, IfSome, Vec}
use Rattle.std.specs.declared.alloc.Global.{Global}
use Rattle.std.proofs.lemmas.Bool.Decides.{nat_tests}
use Rattle.std.proofs.lemmas.List.{length-map}
use Rattle.std.proofs.lemmas.List.Sums.{count_by-le-length}
use Rattle.slab.specs.Slab.{Slab}
use Rattle.sem_queue.specs.declared.row.Row.{Row}
use Rattle.sem_queue.specs.Rows.{before, earlier_number, list_of, next_after, number_after}
use Rattle.sem_queue.specs.Marks.{no_row, row_at, rows_at, row_from, lists_below, AreBefore, IsRanks, IsServing}
use Rattle.sem_queue.proofs.Lists.{count-le}
use Rattle.sem_queue.proofs.Kept.{row_from-is}
use Rattle.sem_queue.proofs.Moves.{distinct}
use Rattle.sem_queue.proofs.Queued.{above-is}
use Rattle.sem_queue.proofs.Following.{own-count, any-count, own-moved, any-moved, above-number, strict}

-- where a list has a row at a place, the place is one of it
from-some : (slots : Slab Row) (keys : List ℕ) (end place : ℕ) (m : Row) → Some m ≡ row_from slots keys end place → (place < end) × (get_or (rows_at slots keys) place no_row ≡ m)
from-some slots keys end place m e = by_test (nat_lt place end) refl e
  where
    by_test : (b : Bool) → nat_lt place end ≡ b → Some m ≡ cond b (Some (get_or (rows_at slots keys) place no_row)) None → (place < end) × (get_or (rows_at slots keys) place no_row ≡ m)
    by_test true t e = (grind (arith, nat_tests), sym cc)
    by_test false t e = absurd cc

from-lt : (slots : Slab Row) (keys : List ℕ) (end place : ℕ) → place < end → Some (get_or (rows_at slots keys) place no_row) ≡ row_from slots keys end place
from-lt slots keys end place lt =
    let t : nat_lt place end ≡ true = grind (arith, nat_tests) in
    sym (ap (λ b. cond b (Some (get_or (rows_at slots keys) place no_row)) None) t)

module _ (tokens token : ℕ) (slots : Slab Row) (keys starts : List ℕ) (rows : List Row) (own any : ℕ) (is : IsServing tokens token slots keys starts rows own any) where
  abbrev ranked : List Row
  ranked = rows_at slots keys

  abbrev first : ℕ → ℕ
  first list = count_by (lists_below tokens list) (rows_at slots keys)

  abbrev own_row : ℕ → Option Row
  own_row place = row_from slots keys (slice_index starts (token + 1)) place

  abbrev any_row : ℕ → Option Row
  any_row place = row_from slots keys (slice_index starts (tokens + 1)) place

  pub ends : (list : ℕ) → list ≤ tokens → slice_index starts (list + 1) ≤ length keys
  ends list le = omega (arith, is.begins (list + 1) (omega arith), count_by-le-length (lists_below tokens (list + 1)) ranked, length-map keys (row_at slots))

  token_from : slice_index starts token ≡ first token
  token_from = is.begins token (let small = is.small in omega arith)

  token_to : slice_index starts (token + 1) ≡ first (token + 1)
  token_to = is.begins (token + 1) (let small = is.small in omega arith)

  tokens_from : slice_index starts tokens ≡ first tokens
  tokens_from = is.begins tokens (omega arith)

  tokens_to : slice_index starts (tokens + 1) ≡ first (tokens + 1)
  tokens_to = is.begins (tokens + 1) (omega arith)

  own_past : AreBefore ranked (first token) own any (first (tokens + 1))
  own_past i j from to other end = is.own_before i j (omega (arith, from, token_from)) to other (omega (arith, end, tokens_to))

  any_past : AreBefore ranked (first tokens) any own (first (token + 1))
  any_past i j from to other end = is.any_before i j (omega (arith, from, tokens_from)) to other (omega (arith, end, token_to))

  own_within : own < slice_index starts (token + 1) → own < length ranked
  own_within lt = omega (arith, lt, token_to, count_by-le-length (lists_below tokens (token + 1)) ranked)

  any_within : any < slice_index starts (tokens + 1) → any < length ranked
  any_within lt = omega (arith, lt, tokens_to, count_by-le-length (lists_below tokens (tokens + 1)) ranked)

  -- the two lists have no place in common
  apart : own < slice_index starts (token + 1) → any ≢ own
  apart lt same = omega (arith, lt, token_to, is.small, is.any_from, tokens_from, one-list, same)
    where
      lower : (l : ℕ) → nat_lt l (token + 1) ≡ true → nat_lt l tokens ≡ true
      lower l t = let small = is.small in grind (arith, nat_tests)

      one-list : count_by (lists_below tokens (token + 1)) (rows_at slots keys) ≤ count_by (lists_below tokens tokens) (rows_at slots keys)
      one-list = count-le (lists_below tokens (token + 1)) (lists_below tokens tokens) (λ r t. lower (list_of tokens r.token) t) (rows_at slots keys)

  -- the row in the list of the token is served
  module _ (m : Row) (other : Option Row) (here : Some m ≡ own_row own) (there : other ≡ any_row any) (leads : IfSome other (λ n. before m n ≡ true)) where
    own_lt : own < slice_index starts (token + 1)
    own_lt = (from-some slots keys (slice_index starts (token + 1)) own m here).0

    own_is : get_or (rows_at slots keys) own no_row ≡ m
    own_is = (from-some slots keys (slice_index starts (token + 1)) own m here).1

    front : any < first (tokens + 1) → before (get_or (rows_at slots keys) own no_row) (get_or (rows_at slots keys) any no_row) ≡ true
    front lt = by_other other there leads
      where
        at_any : Some (get_or (rows_at slots keys) any no_row) ≡ any_row any
        at_any = from-lt slots keys (slice_index starts (tokens + 1)) any (omega (arith, lt, tokens_to))

        by_other : (o : Option Row) → o ≡ any_row any → IfSome o (λ n. before m n ≡ true) → before (get_or (rows_at slots keys) own no_row) (get_or (rows_at slots keys) any no_row) ≡ true
        by_other None e t = absurd (let both : Some (get_or (rows_at slots keys) any no_row) ≡ None = at_any ∙ sym e in cc both)
        by_other (Some n) e t =
            let both : Some (get_or (rows_at slots keys) any no_row) ≡ Some n = at_any ∙ sym e in
            let same : get_or (rows_at slots keys) any no_row ≡ n = cc both in
            rw (own_is, same) t

    pub own-served : IsServing tokens token slots keys starts rows (own + 1) any
    own-served = record {
      small = is.small;
      ranks = is.ranks;
      queued = is.queued;
      placed = is.placed;
      distinct = is.distinct;
      lists = is.lists;
      begins = is.begins;
      own_from = omega (arith, is.own_from);
      own_to = omega (arith, own_lt);
      any_from = is.any_from;
      any_to = is.any_to;
      own_before = λ i j from to other end.
          own-moved tokens ranked is.ranks.rises token tokens own any (omega (arith, is.own_from, token_from)) (omega (arith, own_lt, token_to)) (omega (arith, is.any_from, tokens_from)) (omega (arith, is.any_to, tokens_to)) any_past front
          own_past i j (omega (arith, from, token_from)) to other (omega (arith, end, tokens_to));
      any_before = λ i j from to other end. is.any_before i j from to (omega arith) end;
    }

    own-above : earlier_number (own_row (own + 1)) (any_row any) ≡ number_after m.number token rows
    own-above =
        let rank = get_or (rows_at slots keys) own no_row in
        let count = own-count tokens ranked is.ranks.rises token tokens own any (omega (arith, is.own_from, token_from)) (omega (arith, own_lt, token_to)) (omega (arith, is.any_from, tokens_from)) (omega (arith, is.any_to, tokens_to)) any_past front in
        let other_count = any-count tokens ranked is.ranks.rises token tokens own any (omega (arith, is.own_from, token_from)) (omega (arith, own_lt, token_to)) (omega (arith, is.any_from, tokens_from)) (omega (arith, is.any_to, tokens_to)) any_past front in
        above-is tokens rows slots keys is.queued is.ranks.rises token is.small is.placed rank (own_row (own + 1)) (any_row any)
        (row_from-is slots keys keys _ _ _ _ refl token_to (sym count)) (row_from-is slots keys keys _ _ _ _ refl tokens_to (sym other_count))
        ∙ above-number rows ranked is.queued is.distinct token own (own_within own_lt)
        ∙ ap (λ (r : Row). number_after r.number token rows) own_is

    pub own-next : earlier_number (own_row (own + 1)) (any_row any) ≡ next_after (earlier_number (own_row own) (any_row any)) token rows
    own-next = own-above ∙ sym (ap₂ (λ (o p : Option Row). next_after (earlier_number o p) token rows) (sym here) (sym there) ∙ ap (λ (o : Option ℕ). next_after o token rows) (leads-number other leads))
      where
        leads-number : (o : Option Row) → IfSome o (λ n. before m n ≡ true) → earlier_number (Some m) o ≡ Some m.number
        leads-number None t = refl
        leads-number (Some n) t = ap (λ b. Some (cond b m.number n.number)) t

  -- the row in the list of those that want any is served
  module _ (n : Row) (other : Option Row) (here : Some n ≡ any_row any) (there : other ≡ own_row own) (follows : IfSome other (λ m. before m n ≡ false)) where
    any_lt : any < slice_index starts (tokens + 1)
    any_lt = (from-some slots keys (slice_index starts (tokens + 1)) any n here).0

    any_is : get_or (rows_at slots keys) any no_row ≡ n
    any_is = (from-some slots keys (slice_index starts (tokens + 1)) any n here).1

    back : own < first (token + 1) → before (get_or (rows_at slots keys) any no_row) (get_or (rows_at slots keys) own no_row) ≡ true
    back lt = by_other other there follows
      where
        own_lt' : own < slice_index starts (token + 1)
        own_lt' = omega (arith, lt, token_to)

        at_own : Some (get_or (rows_at slots keys) own no_row) ≡ own_row own
        at_own = from-lt slots keys (slice_index starts (token + 1)) own own_lt'

        by_other : (o : Option Row) → o ≡ own_row own → IfSome o (λ m. before m n ≡ false) → before (get_or (rows_at slots keys) any no_row) (get_or (rows_at slots keys) own no_row) ≡ true
        by_other None e t = absurd (let both : Some (get_or (rows_at slots keys) own no_row) ≡ None = at_own ∙ sym e in cc both)
        by_other (Some m) e t =
            let both : Some (get_or (rows_at slots keys) own no_row) ≡ Some m = at_own ∙ sym e in
            let same : get_or (rows_at slots keys) own no_row ≡ m = cc both in
            let not_before : before (get_or (rows_at slots keys) own no_row) (get_or (rows_at slots keys) any no_row) ≡ false = rw (any_is, same) t in
            strict rows ranked is.queued is.distinct own any (λ e. apart own_lt' (sym e)) (own_within own_lt') (any_within any_lt) not_before

    pub any-served : IsServing tokens token slots keys starts rows own (any + 1)
    any-served = record {
      small = is.small;
      ranks = is.ranks;
      queued = is.queued;
      placed = is.placed;
      distinct = is.distinct;
      lists = is.lists;
      begins = is.begins;
      own_from = is.own_from;
      own_to = is.own_to;
      any_from = omega (arith, is.any_from);
      any_to = omega (arith, any_lt);
      own_before = λ i j from to other end. is.own_before i j from to (omega arith) end;
      any_before = λ i j from to other end.
          own-moved tokens ranked is.ranks.rises tokens token any own (omega (arith, is.any_from, tokens_from)) (omega (arith, any_lt, tokens_to)) (omega (arith, is.own_from, token_from)) (omega (arith, is.own_to, token_to)) own_past back
          any_past i j (omega (arith, from, tokens_from)) to other (omega (arith, end, token_to));
    }

    any-above : earlier_number (own_row own) (any_row (any + 1)) ≡ number_after n.number token rows
    any-above =
        let rank = get_or (rows_at slots keys) any no_row in
        let count = own-count tokens ranked is.ranks.rises tokens token any own (omega (arith, is.any_from, tokens_from)) (omega (arith, any_lt, tokens_to)) (omega (arith, is.own_from, token_from)) (omega (arith, is.own_to, token_to)) own_past back in
        let other_count = any-count tokens ranked is.ranks.rises tokens token any own (omega (arith, is.any_from, tokens_from)) (omega (arith, any_lt, tokens_to)) (omega (arith, is.own_from, token_from)) (omega (arith, is.own_to, token_to)) own_past back in
        above-is tokens rows slots keys is.queued is.ranks.rises token is.small is.placed rank (own_row own) (any_row (any + 1))
        (row_from-is slots keys keys _ _ _ _ refl token_to (sym other_count)) (row_from-is slots keys keys _ _ _ _ refl tokens_to (sym count))
        ∙ above-number rows ranked is.queued is.distinct token any (any_within any_lt)
        ∙ ap (λ (r : Row). number_after r.number token rows) any_is

    pub any-next : earlier_number (own_row own) (any_row (any + 1)) ≡ next_after (earlier_number (own_row own) (any_row any)) token rows
    any-next = any-above ∙ sym (ap₂ (λ (o p : Option Row). next_after (earlier_number o p) token rows) (sym there) (sym here) ∙ ap (λ (o : Option ℕ). next_after o token rows) (follows-number other follows))
      where
        follows-number : (o : Option Row) → IfSome o (λ m. before m n ≡ false) → earlier_number o (Some n) ≡ Some n.number
        follows-number None t = refl
        follows-number (Some m) t = ap (λ b. Some (cond b m.number n.number)) t

-- before any row is served
pub serving : (tokens spare : ℕ) (slots : Slab Row) (numbers ranks deadlines : Vec ℕ Global) (begins : List ℕ) → IsRanks tokens spare slots numbers ranks deadlines begins
    → (token : ℕ) → token < tokens → (by_number by_rank starts : List ℕ) (own any : ℕ) → by_number ≡ numbers.items → by_rank ≡ ranks.items → starts ≡ begins → own ≡ slice_index starts token → any ≡ slice_index starts tokens
    → IsServing tokens token slots by_rank starts (rows_at slots by_number) own any
serving tokens spare slots numbers ranks deadlines begins is token small by_number by_rank starts own any n r b own_is any_is =
    rw (own_is, any_is, n, r, b) (record {
      small = small;
      ranks = is.ranks;
      queued = is.queued;
      placed = is.placed;
      distinct = distinct (rows_at slots numbers.items) is.numbers.rises;
      lists = is.lists;
      begins = is.begins;
      own_from = omega arith;
      own_to = omega (arith, is.begins token (omega arith), is.begins (token + 1) (omega arith), more token);
      any_from = omega arith;
      any_to = omega (arith, is.begins tokens (omega arith), is.begins (tokens + 1) (omega arith), more tokens);
      own_before = λ i j from to other end. absurd (omega arith);
      any_before = λ i j from to other end. absurd (omega arith);
    })
  where
    higher : (l list : ℕ) → nat_lt l list ≡ true → nat_lt l (list + 1) ≡ true
    higher l list t = grind (arith, nat_tests)

    more : (list : ℕ) → count_by (lists_below tokens list) (rows_at slots ranks.items) ≤ count_by (lists_below tokens (list + 1)) (rows_at slots ranks.items)
    more list = count-le (lists_below tokens list) (lists_below tokens (list + 1)) (λ r t. higher (list_of tokens r.token) list t) (rows_at slots ranks.items)
