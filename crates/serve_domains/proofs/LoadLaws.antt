-- What clients are asked of loads, and which domains they load, agree whatever happens.
use Rattle.std.proofs.Common.{◌≡◌, ◌≢◌, ◌∙◌, ℕ, suc, ◌+◌, Bool, true, false, cond, not, List, [], ◌∷◌, ◌++◌, Option, None, Some, is_some, length, refl, ap, sym, subst, arith}
use Rattle.std.specs.Prelude.{All, ◌==◌, ◌&&◌, ◌||◌, count_by, if◌then◌else◌}
use Rattle.std.specs.List.{IsDistinct}
use Rattle.std.specs.Map.{keys_of, set_value}
use Rattle.std.specs.Option.{option_map, option_map_or}
use Rattle.std.proofs.lemmas.Bool.Decides.{Decides-eqb, nat_tests}
use Rattle.std.proofs.lemmas.Cmp.{nat_list_eq_equiv}
use Rattle.std.proofs.lemmas.List.Elements.{All-head, All-tail}
use Rattle.std.proofs.lemmas.List.Sums.{sum_by-cons, sum_by_push}
use Rattle.std.proofs.lemmas.Map.Entries.{lookup-filter-values, option_filter}
use Rattle.std.proofs.lemmas.Slice.Eq.{slice_eq-Decides}
use Rattle.mms_types.specs.declared.asked.Asked.{Asked}
use Rattle.mms_types.specs.declared.asked.Asked.TheVariants as asked
use Rattle.mms_types.specs.declared.asked.Reply.{Reply}
use Rattle.mms_types.specs.declared.asked.Reply.TheVariants as reply
use Rattle.mms_types.specs.declared.domain.InitiateDownloadSequence.{InitiateDownloadSequence}
use Rattle.association.specs.Asked.{AreApart, asked_of, is_asked, row_asked, unsettled}
use Rattle.association.specs.declared.unanswered.Unanswered.{Unanswered}
use Rattle.association.proofs.Rows.{unsettled_none}
use Rattle.domain_load.specs.Domains.{Rows, is_there, name_eq, named, without, without_loads}
use Rattle.domain_load.specs.Loading.{answers_load, asked_next, begun, changed, domain_of, goes_on, initiate_after, initiate_cause, loaded, reply_after, with_segment, would_pass}
use Rattle.domain_load.specs.Standing.{is_loaded_by, is_loading}
use Rattle.domain_load.specs.Used.{after_unused, after_used, had_by, left_by}
use Rattle.domain_load.specs.declared.domain.Domain.{Domain}
use Rattle.domain_load.proofs.Outcomes.{begin_others, begins, found_changed, gone, gone_others, is_changed, loads, lost_none, reply_others, there}
use Rattle.domain_load.proofs.Unopposed.{nothing_against}
use Rattle.serve_domains.specs.Loads.{AreLoads, asked_after, asks_load, is_of_load_kind}

names_same : (a b : List ℕ) → name_eq a b ≡ true → a ≡ b
names_same a b e = (slice_eq-Decides Decides-eqb a b (name_eq a b) refl).0 e

abbrev once : Bool → ℕ
once b = if b then 1 else 0

-- what holds of the domain of a name that is there
abbrev of_found : (Domain → Bool) → Option Domain → Bool
of_found p o = option_map_or p o false

-- ---- rows by their numbers

not_asked : (number client : ℕ) (rows : List Unanswered) → All (λ row. client ≢ row.invoke) rows → client ≡ number → is_asked number rows ≡ false
not_asked number client [] apart same = refl
not_asked number client (row ∷ rows) apart same = by_test (row.invoke == number) refl (not_asked number client rows (All-tail (λ row. client ≢ row.invoke) row rows apart) same)
  where
    other : client ≢ row.invoke
    other = All-head (λ row. client ≢ row.invoke) row rows apart

    by_test : (b : Bool) → (row.invoke == number) ≡ b → is_asked number rows ≡ false → (b || is_asked number rows) ≡ false
    by_test true is later = absurd (other (grind (arith, nat_tests)))
    by_test false is later = later

-- where the one row of a number is gone, it is counted no more
pub count_settled : (p : Unanswered → Bool) (number : ℕ) (rows : List Unanswered) (u : Unanswered) → AreApart rows → row_asked number rows ≡ Some u
    → count_by p (unsettled number rows) + once (p u) ≡ count_by p rows
count_settled p number [] u apart found = absurd (cc found)
count_settled p number (row ∷ rows) u apart found = by_test (row.invoke == number) refl (λ later. count_settled p number rows u rest later) found
  where
    all : count_by p (row ∷ rows) ≡ once (p row) + count_by p rows
    all = sum_by-cons (λ x. cond (p x) 1 0) row rows

    left : count_by p (row ∷ unsettled number rows) ≡ once (p row) + count_by p (unsettled number rows)
    left = sum_by-cons (λ x. cond (p x) 1 0) row (unsettled number rows)

    first : All (λ other. row.invoke ≢ other.invoke) rows
    first = λ i d below. apart 0 (suc i) d (omega arith) (omega arith)

    rest : AreApart rows
    rest = λ i j d before below. apart (suc i) (suc j) d (omega arith) (omega arith)

    by_test : (b : Bool) → (row.invoke == number) ≡ b → (row_asked number rows ≡ Some u → count_by p (unsettled number rows) + once (p u) ≡ count_by p rows)
        → cond b (Some row) (row_asked number rows) ≡ Some u
        → count_by p (cond (not b) (row ∷ unsettled number rows) (unsettled number rows)) + once (p u) ≡ count_by p (row ∷ rows)
    by_test true is others same =
        let it : row ≡ u = cc same in
        let number_is : row.invoke ≡ number = grind (arith, nat_tests, is) in
        let none : count_by p (unsettled number rows) ≡ count_by p rows = ap (count_by p) (unsettled_none number rows (not_asked number row.invoke rows first number_is)) in
        let its : once (p u) ≡ once (p row) = ap (λ x. once (p x)) (sym it) in
        omega (arith, all, none, its)
    by_test false is others later =
        let fewer = others later in
        omega (arith, all, left, fewer)

-- one more row
count_asked : (p : Unanswered → Bool) (rows : List Unanswered) (u : Unanswered) → count_by p (rows ++ u ∷ []) ≡ count_by p rows + once (p u)
count_asked p rows u = sum_by_push (λ x. cond (p x) 1 0) rows u

-- the row of a number, where what it asks is told
pub asked_row : (number : ℕ) (rows : List Unanswered) (of : Asked × List ℕ) → asked_of number rows ≡ Some of → (u : Unanswered) × (row_asked number rows ≡ Some u) × (u.kind ≡ of.0) × (u.domain ≡ of.1)
asked_row number rows of e = by_row (row_asked number rows) refl e
  where
    by_row : (o : Option Unanswered) → row_asked number rows ≡ o → option_map (λ row. (row.kind, row.domain)) o ≡ Some of
        → (u : Unanswered) × (row_asked number rows ≡ Some u) × (u.kind ≡ of.0) × (u.domain ≡ of.1)
    by_row None is e = absurd (cc e)
    by_row (Some u) is e = (u, is, cc e, cc e)

-- a row that is counted is there
found_counts : (p : Unanswered → Bool) (number : ℕ) (rows : List Unanswered) (u : Unanswered) → row_asked number rows ≡ Some u → p u ≡ true → count_by p rows ≢ 0
found_counts p number [] u found counts none = absurd (cc found)
found_counts p number (row ∷ rows) u found counts none = by_test (row.invoke == number) (λ later less. found_counts p number rows u later counts less) found
  where
    all : count_by p (row ∷ rows) ≡ once (p row) + count_by p rows
    all = sum_by-cons (λ x. cond (p x) 1 0) row rows

    by_test : (b : Bool) → (row_asked number rows ≡ Some u → count_by p rows ≢ 0) → cond b (Some row) (row_asked number rows) ≡ Some u → ⊥
    by_test true others same =
        let it : row ≡ u = cc same in
        let one : once (p row) ≡ 1 = ap (λ x. once (p x)) it ∙ ap once counts in
        absurd (omega (arith, all, one, none))
    by_test false others later = others later (omega (arith, all, none))

-- ---- laws

pub none_loaded : (client : ℕ) → AreLoads client [] []
none_loaded client = record { each = λ name. refl }

-- what a client answers to a request of a load is of a domain that it loads
pub row_is_loaded : (client number : ℕ) (rows : List Unanswered) (domains : Rows) (of : Asked × List ℕ) → AreLoads client rows domains
    → asked_of number rows ≡ Some of → is_of_load_kind of.0 ≡ true → is_there (is_loaded_by client) of.1 domains ≡ true
row_is_loaded client number rows domains of agree asked kind =
    let u = asked_row number rows of asked in
    let asks : asks_load of.1 u.0 ≡ true =
    ap (λ (k : Asked). is_of_load_kind k && name_eq u.0.domain of.1) u.2 ∙ ap (λ (b : Bool). b && name_eq u.0.domain of.1) kind
    ∙ ap (λ (n : List ℕ). name_eq n of.1) u.3 ∙ nat_list_eq_equiv.refl of.1 in
    by_loaded (is_there (is_loaded_by client) of.1 domains) (agree.each of.1) (found_counts (asks_load of.1) number rows u.0 u.1 asks)
  where
    by_loaded : (b : Bool) → count_by (asks_load of.1) rows ≡ once b → count_by (asks_load of.1) rows ≢ 0 → b ≡ true
    by_loaded true e some = refl
    by_loaded false e some = absurd (some e)

-- where other domains are loaded by a client as before, and no other rows
pub still_loaded : (client : ℕ) (rows : List Unanswered) (domains after : Rows) → ((name : List ℕ) → is_there (is_loaded_by client) name after ≡ is_there (is_loaded_by client) name domains)
    → AreLoads client rows domains → AreLoads client rows after
still_loaded client rows domains after same agree = record { each = λ name. agree.each name ∙ ap once (sym (same name)) }

-- ---- a load begins

module _ (client : ℕ) (left : Bool) (request : InitiateDownloadSequence) (domains : Rows) (none : initiate_cause left request domains ≡ None) where
  was_missing : (p : Domain → Bool) → is_there p request.domain domains ≡ false
  was_missing p = ap (of_found p) (nothing_against left request domains none).0

  is_begun : (p : Domain → Bool) → is_there p request.domain (initiate_after client request domains) ≡ p (begun client request)
  is_begun p = ap (of_found p) (begins client left request domains none)

  others_begun : (p : Domain → Bool) (name : List ℕ) → name_eq request.domain name ≡ false → is_there p name (initiate_after client request domains) ≡ is_there p name domains
  others_begun p name other = ap (of_found p) (begin_others client request domains name (nat_list_eq_equiv.symm name request.domain ∙ other))

  pub begins_asked : (number : ℕ) (rows : List Unanswered) → AreLoads client rows domains
      → AreLoads client (rows ++ record { invoke = number; kind = asked.Segment; domain = request.domain } ∷ []) (initiate_after client request domains)
  begins_asked number rows agree = record { each = λ name. by_name name (name_eq request.domain name) refl }
    where
      new : Unanswered
      new = record { invoke = number; kind = asked.Segment; domain = request.domain }

      itself : (client == client) ≡ true
      itself = grind (arith, nat_tests)

      by_name : (name : List ℕ) (b : Bool) → name_eq request.domain name ≡ b
          → count_by (asks_load name) (rows ++ new ∷ []) ≡ once (is_there (is_loaded_by client) name (initiate_after client request domains))
      by_name name true same =
          let it = names_same request.domain name same in
          subst (λ (n : List ℕ). count_by (asks_load n) (rows ++ new ∷ []) ≡ once (is_there (is_loaded_by client) n (initiate_after client request domains))) it
          (let more = count_asked (asks_load request.domain) rows new in
          let was : count_by (asks_load request.domain) rows ≡ 0 = agree.each request.domain ∙ ap once (was_missing (is_loaded_by client)) in
          let its : once (asks_load request.domain new) ≡ 1 = ap once (nat_list_eq_equiv.refl request.domain) in
          let one : count_by (asks_load request.domain) (rows ++ new ∷ []) ≡ 1 = omega (arith, more, was, its) in
          one ∙ ap once (sym itself) ∙ ap once (sym (is_begun (is_loaded_by client))))
      by_name name false other =
          let more = count_asked (asks_load name) rows new in
          let none_more : once (asks_load name new) ≡ 0 = ap once other in
          let same : count_by (asks_load name) (rows ++ new ∷ []) ≡ count_by (asks_load name) rows = omega (arith, more, none_more) in
          same ∙ agree.each name ∙ ap once (sym (others_begun (is_loaded_by client) name other))

  pub begins_elsewhere : (k : ℕ) (rows : List Unanswered) → client ≢ k → AreLoads k rows domains → AreLoads k rows (initiate_after client request domains)
  begins_elsewhere k rows other = still_loaded k rows domains (initiate_after client request domains) (λ name. by_name name (name_eq request.domain name) refl)
    where
      not_it : (client == k) ≡ false
      not_it = grind (arith, nat_tests, other)

      by_name : (name : List ℕ) (b : Bool) → name_eq request.domain name ≡ b
          → is_there (is_loaded_by k) name (initiate_after client request domains) ≡ is_there (is_loaded_by k) name domains
      by_name name true same =
          let it = names_same request.domain name same in
          subst (λ (n : List ℕ). is_there (is_loaded_by k) n (initiate_after client request domains) ≡ is_there (is_loaded_by k) n domains) it
          (is_begun (is_loaded_by k) ∙ not_it ∙ sym (was_missing (is_loaded_by k)))
      by_name name false apart = others_begun (is_loaded_by k) name apart

-- ---- a client answers

-- what is asked next, in a row
abbrev next_rows : ℕ → Option Asked → List ℕ → List Unanswered
next_rows number None domain = []
next_rows number (Some kind) domain = record { invoke = number; kind = kind; domain = domain } ∷ []

module _ (number : ℕ) (domain : List ℕ) where
  counted : (p : Unanswered → Bool) (rows : List Unanswered) (next : Option Asked)
      → count_by p (asked_after rows number next domain) ≡ count_by p rows + count_by p (next_rows number next domain)
  counted p rows None = omega arith
  counted p rows (Some kind) =
      let u : Unanswered = record { invoke = number; kind = kind; domain = domain } in
      let more = count_asked p rows u in
      let one = sum_by-cons (λ x. cond (p x) 1 0) u [] in
      omega (arith, more, one)

  next_one : (p : Unanswered → Bool) (kind : Asked) → count_by p (next_rows number (Some kind) domain) ≡ once (p (record { invoke = number; kind = kind; domain = domain }))
  next_one p kind =
      let one = sum_by-cons (λ x. cond (p x) 1 0) (record { invoke = number; kind = kind; domain = domain }) [] in
      omega (arith, one)

  next_counts : (next : Option Asked) → count_by (asks_load domain) (next_rows number next domain) ≡ once (goes_on next)
  next_counts None = refl
  next_counts (Some asked.Segment) = next_one (asks_load domain) asked.Segment ∙ ap once (nat_list_eq_equiv.refl domain)
  next_counts (Some asked.Terminate) = next_one (asks_load domain) asked.Terminate ∙ ap once (nat_list_eq_equiv.refl domain)
  next_counts (Some asked.Discard) = next_one (asks_load domain) asked.Discard

  next_counts_not : (name : List ℕ) → name_eq domain name ≡ false → (next : Option Asked) → count_by (asks_load name) (next_rows number next domain) ≡ 0
  next_counts_not name other None = refl
  next_counts_not name other (Some asked.Segment) = next_one (asks_load name) asked.Segment ∙ ap once other
  next_counts_not name other (Some asked.Terminate) = next_one (asks_load name) asked.Terminate ∙ ap once other
  next_counts_not name other (Some asked.Discard) = next_one (asks_load name) asked.Discard

-- a domain that one client loads is loaded by no other
one_loader : (client k : ℕ) → client ≢ k → (d : Domain) → is_loaded_by client d ≡ true → is_loaded_by k d ≡ false
one_loader client k other d by = by_loader d.loader by
  where
    by_loader : (o : Option ℕ) → option_map_or (λ l. l == client) o false ≡ true → option_map_or (λ l. l == k) o false ≡ false
    by_loader None e = absurd (cc e)
    by_loader (Some l) e = grind (arith, nat_tests, e, other)

-- the domain of an answer is loaded by no other client, before and after it
others_load_not : (client k : ℕ) → client ≢ k → (answer : Reply) (domains : Rows) → IsDistinct name_eq (keys_of domains) → answers_load client answer domains ≡ true
    → is_there (is_loaded_by k) (domain_of answer) (reply_after answer domains) ≡ false
others_load_not client k other (reply.Segment name octets more) domains distinct own = by_passes (is_there (would_pass (length octets)) name domains)
  where
    by_passes : (b : Bool) → is_there (is_loaded_by k) name (if b then without name domains else changed name (with_segment octets) domains) ≡ false
    by_passes true = ap (of_found (is_loaded_by k)) (gone name domains distinct)
    by_passes false =
        let d = there (is_loaded_by client) (named name domains) own in
        ap (of_found (is_loaded_by k)) (is_changed name (with_segment octets) domains d.0 d.1) ∙ one_loader client k other d.0 d.2
others_load_not client k other (reply.Ended name) domains distinct own =
    let d = there (is_loaded_by client) (named name domains) own in
    ap (of_found (is_loaded_by k)) (is_changed name loaded domains d.0 d.1)
others_load_not client k other (reply.Failed name kind) domains distinct own = ap (of_found (is_loaded_by k)) (gone name domains distinct)

module _ (client : ℕ) (answer : Reply) (domains : Rows) (distinct : IsDistinct name_eq (keys_of domains)) (own : answers_load client answer domains ≡ true) where
  others_replied : (p : Domain → Bool) (name : List ℕ) → name_eq (domain_of answer) name ≡ false → is_there p name (reply_after answer domains) ≡ is_there p name domains
  others_replied p name apart = ap (of_found p) (reply_others client answer domains name distinct own apart)

  pub replied_elsewhere : (k : ℕ) (rows : List Unanswered) → client ≢ k → AreLoads k rows domains → AreLoads k rows (reply_after answer domains)
  replied_elsewhere k rows other = still_loaded k rows domains (reply_after answer domains) (λ name. by_name name (name_eq (domain_of answer) name) refl)
    where
      before : is_there (is_loaded_by k) (domain_of answer) domains ≡ false
      before =
          let d = there (is_loaded_by client) (named (domain_of answer) domains) own in
          ap (of_found (is_loaded_by k)) d.1 ∙ one_loader client k other d.0 d.2

      by_name : (name : List ℕ) (b : Bool) → name_eq (domain_of answer) name ≡ b
          → is_there (is_loaded_by k) name (reply_after answer domains) ≡ is_there (is_loaded_by k) name domains
      by_name name true same =
          subst (λ (n : List ℕ). is_there (is_loaded_by k) n (reply_after answer domains) ≡ is_there (is_loaded_by k) n domains) (names_same (domain_of answer) name same)
          (others_load_not client k other answer domains distinct own ∙ sym before)
      by_name name false apart = others_replied (is_loaded_by k) name apart

  pub replied_asked : (number next_number : ℕ) (rows : List Unanswered) (of : Asked × List ℕ) → AreApart rows → asked_of number rows ≡ Some of → is_of_load_kind of.0 ≡ true
      → of.1 ≡ domain_of answer → AreLoads client rows domains
      → AreLoads client (asked_after (unsettled number rows) next_number (asked_next answer domains) (domain_of answer)) (reply_after answer domains)
  replied_asked number next_number rows of apart asked kind domain agree = record { each = λ name. by_name name (name_eq (domain_of answer) name) refl }
    where
      after : Rows
      after = reply_after answer domains

      rest : List Unanswered
      rest = unsettled number rows

      own_name : List ℕ
      own_name = domain_of answer

      next : Option Asked
      next = asked_next answer domains

      -- the row that is answered
      row : (u : Unanswered) × (row_asked number rows ≡ Some u) × (u.kind ≡ of.0) × (u.domain ≡ of.1)
      row = asked_row number rows of asked

      asks_of : (name : List ℕ) → asks_load name row.0 ≡ name_eq own_name name
      asks_of name =
          ap (λ (k : Asked). is_of_load_kind k && name_eq row.0.domain name) row.2 ∙ ap (λ (b : Bool). b && name_eq row.0.domain name) kind
          ∙ ap (λ (n : List ℕ). name_eq n name) (row.3 ∙ domain)

      by_name : (name : List ℕ) (b : Bool) → name_eq own_name name ≡ b
          → count_by (asks_load name) (asked_after rest next_number next own_name) ≡ once (is_there (is_loaded_by client) name after)
      by_name name true same =
          subst (λ (n : List ℕ). count_by (asks_load n) (asked_after rest next_number next own_name) ≡ once (is_there (is_loaded_by client) n after)) (names_same own_name name same)
          (let all = counted next_number own_name (asks_load own_name) rest next in
          let gone = count_settled (asks_load own_name) number rows row.0 apart row.1 in
          let its : once (asks_load own_name row.0) ≡ 1 = ap once (asks_of own_name ∙ nat_list_eq_equiv.refl own_name) in
          let one : count_by (asks_load own_name) rows ≡ 1 = agree.each own_name ∙ ap once own in
          let more = next_counts next_number own_name next in
          let sum : count_by (asks_load own_name) (asked_after rest next_number next own_name) ≡ once (goes_on next) = omega (arith, all, gone, its, one, more) in
          sum ∙ ap once (sym (loads client answer domains distinct own)))
      by_name name false other =
          let all = counted next_number own_name (asks_load name) rest next in
          let gone = count_settled (asks_load name) number rows row.0 apart row.1 in
          let its : once (asks_load name row.0) ≡ 0 = ap once (asks_of name ∙ other) in
          let more = next_counts_not next_number own_name name other next in
          let same : count_by (asks_load name) (asked_after rest next_number next own_name) ≡ count_by (asks_load name) rows = omega (arith, all, gone, its, more) in
          same ∙ agree.each name ∙ ap once (sym (others_replied (is_loaded_by client) name other))

-- ---- a domain is deleted, or a client is lost

pub deleted : (client : ℕ) (rows : List Unanswered) (domains : Rows) (name : List ℕ) → IsDistinct name_eq (keys_of domains) → is_there is_loading name domains ≡ false
    → AreLoads client rows domains → AreLoads client rows (without name domains)
deleted client rows domains name distinct stands = still_loaded client rows domains (without name domains) (λ other. by_name other (name_eq name other) refl)
  where
    no_load : (o : Option Domain) → of_found is_loading o ≡ false → of_found (is_loaded_by client) o ≡ false
    no_load None e = refl
    no_load (Some d) e = by_loader d.loader e
      where
        by_loader : (o : Option ℕ) → is_some o ≡ false → option_map_or (λ l. l == client) o false ≡ false
        by_loader None e = refl
        by_loader (Some l) e = absurd (cc e)

    by_name : (other : List ℕ) (b : Bool) → name_eq name other ≡ b → is_there (is_loaded_by client) other (without name domains) ≡ is_there (is_loaded_by client) other domains
    by_name other true same =
        subst (λ (n : List ℕ). is_there (is_loaded_by client) n (without name domains) ≡ is_there (is_loaded_by client) n domains) (names_same name other same)
        (ap (of_found (is_loaded_by client)) (gone name domains distinct) ∙ sym (no_load (named name domains) stands))
    by_name other false apart = ap (of_found (is_loaded_by client)) (gone_others name other domains distinct apart)

-- a client that is lost loads nothing, and nothing is asked of it
pub lost : (client : ℕ) (domains : Rows) → IsDistinct name_eq (keys_of domains) → AreLoads client [] (without_loads client domains)
lost client domains distinct = record { each = λ name. ap once (sym (lost_none client name domains distinct)) }

pub lost_elsewhere : (client k : ℕ) (rows : List Unanswered) (domains : Rows) → client ≢ k → IsDistinct name_eq (keys_of domains) → AreLoads k rows domains
    → AreLoads k rows (without_loads client domains)
lost_elsewhere client k rows domains other distinct = still_loaded k rows domains (without_loads client domains) (λ name. by_name name)
  where
    by_test : (d : Domain) (b : Bool) → is_loaded_by client d ≡ b → of_found (is_loaded_by k) (cond (not b) (Some d) None) ≡ is_loaded_by k d
    by_test d true by = sym (one_loader client k other d by)
    by_test d false by = refl

    by_found : (o : Option Domain) → of_found (is_loaded_by k) (option_filter (λ d. not (is_loaded_by client d)) o) ≡ of_found (is_loaded_by k) o
    by_found None = refl
    by_found (Some d) = by_test d (is_loaded_by client d) refl

    by_name : (name : List ℕ) → is_there (is_loaded_by k) name (without_loads client domains) ≡ is_there (is_loaded_by k) name domains
    by_name name =
        ap (of_found (is_loaded_by k)) (lookup-filter-values nat_list_eq_equiv (λ d. not (is_loaded_by client d)) name domains distinct)
        ∙ by_found (named name domains)

-- ---- program invocations come to domains, and leave them

-- who loads a domain stays, where the domain that changes has its loader still
module _ (p : Domain → Bool) (f : Domain → Domain) (same : (d : Domain) → p (f d) ≡ p d) where
  there_same : (name : List ℕ) (domains : Rows) (n : List ℕ) → is_there p n (changed name f domains) ≡ is_there p n domains
  there_same name domains n = by_found (named name domains) refl
    where
      by_found : (o : Option Domain) → named name domains ≡ o → is_there p n (changed name f domains) ≡ is_there p n domains
      by_found None e = ap (λ (o : Option Domain). is_there p n (option_map_or (λ d. set_value (name_eq name) domains (f d)) o domains)) e
      by_found (Some d) e = ap (of_found p) (found_changed name n f domains d e) ∙ by_name (name_eq name n) refl
        where
          by_name : (b : Bool) → name_eq name n ≡ b → of_found p (cond b (Some (f d)) (named n domains)) ≡ is_there p n domains
          by_name true is = same d ∙ sym (ap (of_found p) (ap (λ (m : List ℕ). named m domains) (sym (names_same name n is)) ∙ e))
          by_name false is = refl

module _ (p : Domain → Bool) (by : List ℕ) (come : (d : Domain) → p (had_by by d) ≡ p d) (gone : (d : Domain) → p (left_by by d) ≡ p d) where
  there_used : (names : List (List ℕ)) (domains : Rows) (n : List ℕ) → is_there p n (after_used names by domains) ≡ is_there p n domains
  there_used [] domains n = refl
  there_used (name ∷ names) domains n = there_used names (changed name (had_by by) domains) n ∙ there_same p (had_by by) come name domains n

  there_unused : (names : List (List ℕ)) (domains : Rows) (n : List ℕ) → is_there p n (after_unused names by domains) ≡ is_there p n domains
  there_unused [] domains n = refl
  there_unused (name ∷ names) domains n = there_unused names (changed name (left_by by) domains) n ∙ there_same p (left_by by) gone name domains n

pub used_loads : (client : ℕ) (by : List ℕ) (names : List (List ℕ)) (rows : List Unanswered) (domains : Rows) → AreLoads client rows domains
    → AreLoads client rows (after_used names by domains)
used_loads client by names rows domains = still_loaded client rows domains (after_used names by domains) (there_used (is_loaded_by client) by (λ d. refl) (λ d. refl) names domains)

pub unused_loads : (client : ℕ) (by : List ℕ) (names : List (List ℕ)) (rows : List Unanswered) (domains : Rows) → AreLoads client rows domains
    → AreLoads client rows (after_unused names by domains)
unused_loads client by names rows domains = still_loaded client rows domains (after_unused names by domains) (there_unused (is_loaded_by client) by (λ d. refl) (λ d. refl) names domains)
