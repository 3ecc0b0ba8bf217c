-- Who is served with a token: the links of rows by rank.
use Rattle.std.proofs.Common.{◌≡◌, ◌↔◌, inl, inr, ℕ, zero, suc, ◌<◌, ◌≤◌, Bool, true, false, not, cond, ◌&&◌, List, [], ◌∷◌, length, map, filter, count_by, option_map, Option, None, Some, refl, sym, ◌∙◌, ap, arith}
use Rattle.std.specs.Prelude.{All, Contains}
use Rattle.sem_queue.specs.declared.row.Row.{Row}
use Rattle.sem_queue.specs.Rows.{least, before, wants}
use Rattle.sem_queue.proofs.Least.{Among, least-among, least-first, least-ties, before-order, tied, all-among, none-served}
use Rattle.sem_queue.proofs.Firsts.{among-contains, contains-among, among-filter, filter-among, count-zero}
use Rattle.attach_sem.specs.Chains.{ended, link, links, chain, all_served, takes, AreInOrder}
use Rattle.attach_sem.specs.declared.chain.Chain.{Chain}

module _ {X : Type 0} where
  -- one that doesn't pass makes a filter shorter
  shorter : (p : X → Bool) (xs : List X) → length (filter p xs) ≤ length xs
  shorter p [] = omega arith
  shorter p (x ∷ xs) = by_test (p x) (shorter p xs)
    where
      by_test : (b : Bool) → length (filter p xs) ≤ length xs → length (cond b (x ∷ filter p xs) (filter p xs)) ≤ length (x ∷ xs)
      by_test true rest = omega (arith, rest)
      by_test false rest = omega (arith, rest)

  pub fewer : (p : X → Bool) (xs : List X) (x : X) → Among xs x → p x ≡ false → length (filter p xs) < length xs
  fewer p [] x h t = absurd h
  fewer p (y ∷ ys) x (inl same) t =
      let short = shorter p ys in
      let out : filter p (y ∷ ys) ≡ filter p ys = ap (λ b. cond b (y ∷ filter p ys) (filter p ys)) (ap p same ∙ t) in
      rw out (omega (arith, short))
  fewer p (y ∷ ys) x (inr h) t = by_test (p y) (fewer p ys x h t)
    where
      by_test : (b : Bool) → length (filter p ys) < length ys → length (cond b (y ∷ filter p ys) (filter p ys)) < length (y ∷ ys)
      by_test true rest = omega (arith, rest)
      by_test false rest = omega (arith, rest)

  -- those that pass two tests, one after the other
  pub filter-both : (p q : X → Bool) (xs : List X) → filter q (filter p xs) ≡ filter (λ x. p x && q x) xs
  filter-both p q [] = refl
  filter-both p q (x ∷ xs) = by_test (p x) (filter-both p q xs)
    where
      by_test : (b : Bool) → filter q (filter p xs) ≡ filter (λ y. p y && q y) xs
          → filter q (cond b (x ∷ filter p xs) (filter p xs)) ≡ cond (b && q x) (x ∷ filter (λ y. p y && q y) xs) (filter (λ y. p y && q y) xs)
      by_test true rest = ap (λ (ys : List X). cond (q x) (x ∷ ys) ys) rest
      by_test false rest = rest

  -- a filter by two tests that agree on the list
  pub filter-agree : (p q : X → Bool) (xs : List X) → ((x : X) → Among xs x → p x ≡ q x) → filter p xs ≡ filter q xs
  filter-agree p q [] same = refl
  filter-agree p q (x ∷ xs) same =
      let rest = filter-agree p q xs (λ y h. same y (inr h)) in
      ap (λ (ys : List X). cond (p x) (x ∷ ys) ys) rest ∙ ap (λ b. cond b (x ∷ filter q xs) (filter q xs)) (same x (inl refl))

pub not-before-itself : (r : Row) → before r r ≡ false
not-before-itself r = by_test (before r r) refl
  where
    by_test : (b : Bool) → before r r ≡ b → b ≡ false
    by_test true t = sym t ∙ before-order.one_way r r t
    by_test false t = refl

-- what the first comes before is fewer
pub fewer-left : (rows : List Row) (r : Row) → least before rows ≡ Some r → length (filter (before r) rows) < length rows
fewer-left rows r e = fewer (before r) rows r (least-among before rows r e) (not-before-itself r)

nothing : (rows : List Row) → length rows ≤ 0 → rows ≡ []
nothing [] le = refl
nothing (r ∷ rows) le = absurd (omega arith)

-- one that isn't before the first comes after it, or is of its number
module _ (rows : List Row) (q : Row) (first : least before rows ≡ Some q) where
  pub not-before : (r : Row) → Among rows r → before r q ≡ false
  not-before r h = least-first before before-order rows q r first h

  pub comes-later : (r : Row) → Among rows r → before q r ≡ false → r.number ≡ q.number
  comes-later r h t = tied r q (not-before r h) t

module _ (attached : ℕ → Bool) where
  -- a greater bound makes no difference
  pub bound : (n m : ℕ) (rows : List Row) → length rows ≤ n → length rows ≤ m → links attached n rows ≡ links attached m rows
  bound zero zero rows le le' = refl
  bound zero (suc m) rows le le' = let none = nothing rows le in rw none refl
  bound (suc n) zero rows le le' = let none = nothing rows le' in rw none refl
  bound (suc n) (suc m) rows le le' = by_least (least before rows) refl (λ l k k'. bound n m l k k')
    where
      by_least : (o : Option Row) → least before rows ≡ o → ((l : List Row) → length l ≤ n → length l ≤ m → links attached n l ≡ links attached m l)
          → link attached o (λ r. links attached n (filter (before r) rows)) ≡ link attached o (λ r. links attached m (filter (before r) rows))
      by_least None e ih = refl
      by_least (Some q) e ih =
          let few = fewer-left rows q e in
          ap (λ (c : Chain). cond (attached q.number) (record c { attached = q.number ∷ c.attached }) (ended (Some q.number)))
          (ih (filter (before q) rows) (omega (arith, few)) (omega (arith, few)))

  abbrev untaken : Row → Bool
  untaken r = not (attached r.number)

  -- the last is the first by rank of those that aren't attached
  last : (n : ℕ) (rows : List Row) → length rows ≤ n → (links attached n rows).last ≡ option_map (λ r. r.number) (least before (filter untaken rows))
  last zero rows le = let none = nothing rows le in rw none refl
  last (suc n) rows le = by_least (least before rows) refl (λ l k. last n l k)
    where
      by_least : (o : Option Row) → least before rows ≡ o → ((l : List Row) → length l ≤ n → (links attached n l).last ≡ option_map (λ r. r.number) (least before (filter untaken l)))
          → (link attached o (λ r. links attached n (filter (before r) rows))).last ≡ option_map (λ r. r.number) (least before (filter untaken rows))
      by_least None e ih =
          let none : rows ≡ [] = none-served rows (ap (option_map (λ (r : Row). r.number)) e) in
          sym (ap (λ (l : List Row). option_map (λ (r : Row). r.number) (least before (filter untaken l))) none)
      by_least (Some q) e ih = by_test (attached q.number) refl
        where
          by_before : attached q.number ≡ true → (x : Row) → Among rows x → (b : Bool) → before q x ≡ b → (b && untaken x) ≡ untaken x
          by_before t x h true u = refl
          by_before t x h false u = sym (ap not (ap attached (comes-later rows q e x h u) ∙ t))

          by_test : (b : Bool) → attached q.number ≡ b
              → (cond b (record (links attached n (filter (before q) rows)) { attached = q.number ∷ (links attached n (filter (before q) rows)).attached }) (ended (Some q.number))).last
              ≡ option_map (λ r. r.number) (least before (filter untaken rows))
          by_test true t =
              let few = fewer-left rows q e in
              let same = filter-both (before q) untaken rows ∙ filter-agree (λ x. before q x && untaken x) untaken rows (λ x h. by_before t x h (before q x) refl) in
              ih (filter (before q) rows) (omega (arith, few)) ∙ ap (λ (l : List Row). option_map (λ (r : Row). r.number) (least before l)) same
          by_test false t =
              let kept = filter untaken rows in
              let here : Among kept q = filter-among untaken rows q (least-among before rows q e) (ap not t) in
              let none : count_by (λ x. before x q) kept ≡ 0 = count-zero (λ x. before x q) kept (λ x h. not-before rows q e x (among-filter untaken rows x h).0) in
              let found = least-ties before before-order kept q q none here (not-before-itself q) in
              sym (ap (option_map (λ (r : Row). r.number)) found.1 ∙ ap (λ (m : ℕ). Some m) (tied found.0 q found.2 found.3))

  -- each but the last is attached
  each : (n : ℕ) (rows : List Row) (m : ℕ) → Among (links attached n rows).attached m → attached m ≡ true
  each zero rows m h = absurd h
  each (suc n) rows m h = by_least (least before rows) (λ l k. each n l m k) h
    where
      by_least : (o : Option Row) → ((l : List Row) → Among (links attached n l).attached m → attached m ≡ true)
          → Among (link attached o (λ r. links attached n (filter (before r) rows))).attached m → attached m ≡ true
      by_least None ih h = absurd h
      by_least (Some q) ih h = by_test (attached q.number) refl h
        where
          by_test : (b : Bool) → attached q.number ≡ b
              → Among (cond b (record (links attached n (filter (before q) rows)) { attached = q.number ∷ (links attached n (filter (before q) rows)).attached }) (ended (Some q.number))).attached m
              → attached m ≡ true
          by_test true t (inl same) = ap attached (sym same) ∙ t
          by_test true t (inr h) = ih (filter (before q) rows) h
          by_test false t h = absurd h

  -- an attached one that comes before each that isn't is served
  whole : (n : ℕ) (rows : List Row) (r : Row) → length rows ≤ n → Among rows r → attached r.number ≡ true
      → ((x : Row) → Among rows x → untaken x ≡ true → before r x ≡ true) → Among (links attached n rows).attached r.number
  whole zero rows r le h t first = absurd (let none = nothing rows le in empty rows none h)
    where
      empty : (l : List Row) → l ≡ [] → Among l r → ⊥
      empty [] e h = h
      empty (x ∷ l) e h = absurd cc
  whole (suc n) rows r le h t first = by_least (least before rows) refl (λ l k j f. whole n l r k j t f)
    where
      empty : (l : List Row) → l ≡ [] → Among l r → ⊥
      empty [] e h = h
      empty (x ∷ l) e h = absurd cc

      by_least : (o : Option Row) → least before rows ≡ o
          → ((l : List Row) → length l ≤ n → Among l r → ((x : Row) → Among l x → untaken x ≡ true → before r x ≡ true) → Among (links attached n l).attached r.number)
          → Among (link attached o (λ q. links attached n (filter (before q) rows))).attached r.number
      by_least None e ih = absurd (empty rows (none-served rows (ap (option_map (λ (r : Row). r.number)) e)) h)
      by_least (Some q) e ih = by_test (attached q.number) refl
        where
          by_before : (b : Bool) → before q r ≡ b → Among (q.number ∷ (links attached n (filter (before q) rows)).attached) r.number
          by_before true u =
              let few = fewer-left rows q e in
              inr (ih (filter (before q) rows) (omega (arith, few)) (filter-among (before q) rows r h u) (λ x k. first x (among-filter (before q) rows x k).0))
          by_before false u = inl (sym (comes-later rows q e r h u))

          by_test : (b : Bool) → attached q.number ≡ b
              → Among (cond b (record (links attached n (filter (before q) rows)) { attached = q.number ∷ (links attached n (filter (before q) rows)).attached }) (ended (Some q.number))).attached r.number
          by_test true u = by_before (before q r) refl
          by_test false u = absurd (let k = first q (least-among before rows q e) (ap not u) in let f = not-before rows q e r h in cc (k, f))

  -- those that are served, as rows
  abbrev Served : List Row → Chain → Type 0
  Served rows c = (served : List Row) × (map (λ r. r.number) served ≡ all_served c) × ((x : Row) → Among served x → Among rows x) × AreInOrder served

  order : (n : ℕ) (rows : List Row) → Served rows (links attached n rows)
  order zero rows = ([], refl, (λ x h. absurd h), tt)
  order (suc n) rows = by_least (least before rows) refl (λ l. order n l)
    where
      by_least : (o : Option Row) → least before rows ≡ o → ((l : List Row) → Served l (links attached n l)) → Served rows (link attached o (λ r. links attached n (filter (before r) rows)))
      by_least None e ih = ([], refl, (λ x h. absurd h), tt)
      by_least (Some q) e ih = by_test (attached q.number)
        where
          there : Among rows q
          there = least-among before rows q e

          more : (l : List Row) → ((x : Row) → Among l x → Among rows x) → (x : Row) → Among (q ∷ l) x → Among rows x
          more l h x (inl same) = rw (← same) there
          more l h x (inr k) = h x k

          by_test : (b : Bool)
              → Served rows (cond b (record (links attached n (filter (before q) rows)) { attached = q.number ∷ (links attached n (filter (before q) rows)).attached }) (ended (Some q.number)))
          by_test true =
              let rest = ih (filter (before q) rows) in (
                q ∷ rest.0,
                ap (λ (l : List ℕ). q.number ∷ l) rest.1,
                more rest.0 (λ x h. (among-filter (before q) rows x (rest.2 x h)).0),
                (all-among (λ x. before q x ≡ true) rest.0 (λ x h. (among-filter (before q) rows x (rest.2 x h)).1), rest.3),
              )
          by_test false = (q ∷ [], refl, more [] (λ x h. absurd h), (all-among (λ x. before q x ≡ true) [] (λ x h. absurd h), tt))

-- all rows
module _ (attached : ℕ → Bool) (token : ℕ) (rows : List Row) where
  enough : length (filter (wants token) rows) ≤ length rows
  enough = shorter (wants token) rows

  pub chain-last : (chain attached token rows).last ≡ option_map (λ r. r.number) (least before (filter (takes attached token) rows))
  chain-last =
      last attached (length rows) (filter (wants token) rows) enough
      ∙ ap (λ (l : List Row). option_map (λ (r : Row). r.number) (least before l)) (filter-both (wants token) (untaken attached) rows)

  pub chain-none : ((chain attached token rows).last ≡ None) ↔ (filter (takes attached token) rows ≡ [])
  chain-none = (
    λ e. none-served (filter (takes attached token) rows) (sym chain-last ∙ e),
    λ e. chain-last ∙ ap (λ (l : List Row). option_map (λ (r : Row). r.number) (least before l)) e,
  )

  pub chain-each : All (λ entry. attached entry ≡ true) (chain attached token rows).attached
  chain-each = all-among (λ entry. attached entry ≡ true) (chain attached token rows).attached (each attached (length rows) (filter (wants token) rows))

  pub chain-order : (served : List Row) × (map (λ r. r.number) served ≡ all_served (chain attached token rows)) × All (λ r. Contains rows r × (wants token r ≡ true)) served × AreInOrder served
  chain-order =
      let all = order attached (length rows) (filter (wants token) rows) in (
        all.0,
        all.1,
        all-among (λ r. Contains rows r × (wants token r ≡ true)) all.0 (λ r h. let here = among-filter (wants token) rows r (all.2 r h) in (among-contains rows r here.0, here.1)),
        all.3,
      )

  pub chain-whole : (r : Row) → Contains rows r → wants token r ≡ true → attached r.number ≡ true
      → ((x : Row) → Among rows x → takes attached token x ≡ true → before r x ≡ true) → Contains (chain attached token rows).attached r.number
  chain-whole r h w t first =
      among-contains (chain attached token rows).attached r.number (whole attached (length rows) (filter (wants token) rows) r enough (filter-among (wants token) rows r (contains-among rows r h) w) t
      (λ x k u. let here = among-filter (wants token) rows x k in first x here.0 (rw here.1 u)))
