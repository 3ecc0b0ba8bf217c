-- The links of a chain, one after the other, by what is left to be served.
use Rattle.std.proofs.Common.{◌≡◌, inl, inr, ℕ, zero, suc, ◌+◌, ◌<◌, ◌≤◌, Bool, true, false, cond, ◌&&◌, ◌==◌, List, [], ◌∷◌, ◌++◌, length, filter, find, option_map, Option, None, Some, refl, sym, ◌∙◌, ap, ap₂, subst, arith}
use Rattle.std.specs.Prelude.{IfSome}
use Rattle.std.proofs.lemmas.Bool.Decides.{nat_tests}
use Rattle.std.proofs.lemmas.List.{append-nil, append_assoc, length-append}
use Rattle.sem_queue.specs.declared.row.Row.{Row}
use Rattle.sem_queue.specs.Rows.{least, before, wants, least_number, number_after, number_above, numbered, waits_numbered, AreDistinct}
use Rattle.sem_queue.proofs.Least.{Among, least-among}
use Rattle.sem_queue.proofs.Firsts.{among-filter, numbered-is}
use Rattle.attach_sem.specs.Chains.{ended, link, links, chain}
use Rattle.attach_sem.specs.declared.chain.Chain.{Chain}
use Rattle.attach_sem.proofs.Linked.{bound, filter-both, filter-agree, fewer-left}

before-chain : (a b c : Row) → before a b ≡ true → before b c ≡ true → before a c ≡ true
before-chain a b c t u = grind (arith, nat_tests)

-- the rows that want the token and pass
abbrev pub left : ℕ → (Row → Bool) → List Row → List Row
left token test rows = filter (λ r. wants token r && test r) rows

-- these are served, and then those that pass a test: with each row that passes, so do those that it comes before
pub record IsLeft (attached : ℕ → Bool) (token : ℕ) (rows : List Row) (served : List ℕ) (next : Option ℕ) : Type 0 where
  pub test : Row → Bool
  pub up : (a b : Row) → test a ≡ true → before a b ≡ true → test b ≡ true
  pub head : next ≡ option_map (λ r. r.number) (least before (left token test rows))
  pub served_is : served ++ (links attached (length (left token test rows)) (left token test rows)).attached ≡ (chain attached token rows).attached
  pub last_is : (links attached (length (left token test rows)) (left token test rows)).last ≡ (chain attached token rows).last
  pub few : length served + length (left token test rows) ≤ length rows

all-few : (p : Row → Bool) (rows : List Row) → length (filter p rows) ≤ length rows
all-few p [] = omega arith
all-few p (r ∷ rows) = by_test (p r) (all-few p rows)
  where
    by_test : (b : Bool) → length (filter p rows) ≤ length rows → length (cond b (r ∷ filter p rows) (filter p rows)) ≤ length (r ∷ rows)
    by_test true rest = omega (arith, rest)
    by_test false rest = omega (arith, rest)

both : (b : Bool) → b ≡ (b && true)
both true = refl
both false = refl

-- before any is served
pub start : (attached : ℕ → Bool) (token : ℕ) (rows : List Row) (next : Option ℕ) → next ≡ least_number token rows → IsLeft attached token rows [] next
start attached token rows next h =
    let same : filter (wants token) rows ≡ left token (λ r. true) rows = filter-agree (wants token) (λ r. wants token r && true) rows (λ x k. both (wants token x)) in
    let few = all-few (wants token) rows in
    let links_are : links attached (length (left token (λ r. true) rows)) (left token (λ r. true) rows) ≡ chain attached token rows =
    ap (λ (l : List Row). links attached (length l) l) (sym same) ∙ bound attached (length (filter (wants token) rows)) (length rows) (filter (wants token) rows) (omega arith) few in
    record {
      test = λ r. true;
      up = λ a b t u. refl;
      head = h ∙ ap (λ (l : List Row). option_map (λ (r : Row). r.number) (least before l)) same;
      served_is = ap (λ (c : Chain). c.attached) links_are;
      last_is = ap (λ (c : Chain). c.last) links_are;
      few = let most = all-few (λ r. wants token r && true) rows in omega (arith, most);
    }

-- the row that is next
abbrev Next : (attached : ℕ → Bool) (token : ℕ) (rows : List Row) (served : List ℕ) (n : ℕ) → IsLeft attached token rows served (Some n) → Type 0
Next attached token rows served n is = (q : Row) × (least before (left token is.test rows) ≡ Some q) × (q.number ≡ n)

next-row : (attached : ℕ → Bool) (token : ℕ) (rows : List Row) (served : List ℕ) (n : ℕ) (is : IsLeft attached token rows served (Some n)) → Next attached token rows served n is
next-row attached token rows served n is = by_least (least before (left token is.test rows)) refl is.head
  where
    by_least : (o : Option Row) → least before (left token is.test rows) ≡ o → Some n ≡ option_map (λ (r : Row). r.number) o → (q : Row) × (o ≡ Some q) × (q.number ≡ n)
    by_least None e h = absurd cc
    by_least (Some q) e h = (q, refl, cc h)

passes : (a b : Bool) → (a && b) ≡ true → (a ≡ true) × (b ≡ true)
passes true true t = (refl, refl)
passes true false t = absurd cc
passes false b t = absurd cc

-- it is served, and those that it comes before are left
module _ (attached : ℕ → Bool) (token : ℕ) (rows : List Row) (served : List ℕ) (n : ℕ) (distinct : AreDistinct rows) (is : IsLeft attached token rows served (Some n)) where
  next : Next attached token rows served n is
  next = next-row attached token rows served n is

  abbrev q : Row
  q = next.0

  abbrev old : List Row
  old = left token is.test rows

  here : Among rows q × ((wants token q && is.test q) ≡ true)
  here = among-filter (λ r. wants token r && is.test r) rows q (least-among before old q next.1)

  agree : (x : Row) (t b : Bool) → is.test x ≡ t → before q x ≡ b → ((wants token x && t) && b) ≡ (wants token x && b)
  agree x true b e f = ap (λ c. c && b) (sym (both (wants token x)))
  agree x false true e f = absurd (let u = is.up q x (passes (wants token q) (is.test q) here.1).1 f in cc (u, e))
  agree x false false e f = refl_of (wants token x)
    where
      refl_of : (w : Bool) → ((w && false) && false) ≡ (w && false)
      refl_of true = refl
      refl_of false = refl

  same : filter (before q) old ≡ left token (before q) rows
  same = filter-both (λ r. wants token r && is.test r) (before q) rows
      ∙ filter-agree (λ r. (wants token r && is.test r) && before q r) (λ r. wants token r && before q r) rows (λ x h. agree x (is.test x) (before q x) refl refl)

  fewer_left : length (left token (before q) rows) < length old
  fewer_left = subst (λ (l : List Row). length l < length old) same (fewer-left old q next.1)

  abbrev others : Chain
  others = links attached (length (left token (before q) rows)) (left token (before q) rows)

  unfolded : (m : ℕ) → length old ≤ m → attached n ≡ true → links attached m old ≡ record others { attached = n ∷ others.attached }
  unfolded zero le t = absurd (omega (arith, fewer_left))
  unfolded (suc m) le t =
      ap (λ (o : Option Row). link attached o (λ r. links attached m (filter (before r) old))) next.1
      ∙ ap (λ b. cond b (record (links attached m (filter (before q) old)) { attached = q.number ∷ (links attached m (filter (before q) old)).attached }) (ended (Some q.number))) (ap attached next.2 ∙ t)
      ∙ ap (λ (c : Chain). record c { attached = q.number ∷ c.attached }) (ap (links attached m) same ∙ bound attached m (length (left token (before q) rows)) (left token (before q) rows) (omega (arith, fewer_left)) (omega arith))
      ∙ ap (λ k. record others { attached = k ∷ others.attached }) next.2

  pub room : length served < length rows
  room = let few = is.few in omega (arith, few, fewer_left)

  pub step : (next' : Option ℕ) → attached n ≡ true → next' ≡ number_after n token rows → IsLeft attached token rows (served ++ n ∷ []) next'
  step next' t h =
      let links_are = unfolded (length old) (omega arith) t in
      let few = is.few in
      let long = length-append served (n ∷ []) in
      record {
        test = before q;
        up = λ a b u v. before-chain q a b u v;
        head = h ∙ ap (λ m. number_after m token rows) (sym next.2) ∙ ap (λ (o : Option Row). number_above o token rows) (numbered-is rows q distinct here.0);
        served_is = append_assoc served (n ∷ []) others.attached ∙ ap (λ (c : Chain). served ++ c.attached) (sym links_are) ∙ is.served_is;
        last_is = ap (λ (c : Chain). c.last) (sym links_are) ∙ is.last_is;
        few = omega (arith, few, fewer_left, long);
      }

-- the next isn't attached, or there is none: the chain is whole
by-least : (attached : ℕ → Bool) (o : Option Row) (others : Row → Chain) (next : Option ℕ) → next ≡ option_map (λ (r : Row). r.number) o → IfSome next (λ n. attached n ≡ false)
    → link attached o others ≡ ended next
by-least attached None others None h t = refl
by-least attached None others (Some n) h t = absurd cc
by-least attached (Some q) others None h t = absurd cc
by-least attached (Some q) others (Some n) h t =
    let same : n ≡ q.number = cc h in
    ap (λ b. cond b (record (others q) { attached = q.number ∷ (others q).attached }) (ended (Some q.number))) (ap attached (sym same) ∙ t) ∙ ap (λ (m : ℕ). ended (Some m)) (sym same)

short : (attached : ℕ → Bool) (next : Option ℕ) (m : ℕ) (old : List Row) → length old ≤ m → next ≡ option_map (λ (r : Row). r.number) (least before old) → IfSome next (λ n. attached n ≡ false)
    → links attached m old ≡ ended next
short attached next zero [] le h t = ap ended (sym h)
short attached next zero (x ∷ old) le h t = absurd (omega arith)
short attached next (suc m) old le h t = by-least attached (least before old) (λ r. links attached m (filter (before r) old)) next h t

pub done : (attached : ℕ → Bool) (token : ℕ) (rows : List Row) (served : List ℕ) (next : Option ℕ) → IsLeft attached token rows served next → IfSome next (λ n. attached n ≡ false)
    → record { attached = served; last = next } ≡ chain attached token rows
done attached token rows served next is take =
    let old = left token is.test rows in
    let is_end : links attached (length old) old ≡ ended next = short attached next (length old) old (omega arith) is.head take in
    let list : served ≡ (chain attached token rows).attached = sym (append-nil served) ∙ ap (λ (k : Chain). served ++ k.attached) (sym is_end) ∙ is.served_is in
    let last : next ≡ (chain attached token rows).last = ap (λ (k : Chain). k.last) (sym is_end) ∙ is.last_is in
    ap₂ (λ (s : List ℕ) (l : Option ℕ). record { attached = s; last = l }) list last
