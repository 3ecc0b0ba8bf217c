-- To lose a client's owners one after the other is to lose the client.
use Rattle.std.proofs.Common.{◌≡◌, ◌↔◌, ◌⊎◌, inl, inr, ℕ, zero, suc, ◌+◌, ◌<◌, ◌≤◌, Bool, true, false, not, cond, ◌==◌, ◌&&◌, List, [], ◌∷◌, ◌++◌, length, map, filter, find, fold, drop, count_by, Option, None, Some, option_to_list, refl, sym, ◌∙◌, ap, ap₂, subst, arith}
use Rattle.std.proofs.lemmas.Bool.Decides.{nat_tests}
use Rattle.std.proofs.lemmas.List.{append-nil}
use Rattle.std.proofs.lemmas.List.Sums.{sum_by-cons}
use Rattle.mms_types.specs.declared.moment.Moment.{Moment}
use Rattle.token_sem.specs.declared.entry.SemEntry.{SemEntry}
use Rattle.token_sem.specs.declared.entry.SemState.{SemState}
use Rattle.token_sem.specs.declared.entry.SemState.TheVariants.{Queued, Owner, Hung as IsHung}
use Rattle.token_sem.specs.declared.entry.LostOne.{LostOne}
use Rattle.token_sem.specs.declared.entry.LostOne.TheVariants.{Freed, Hung, Done}
use Rattle.token_sem.specs.Semaphore as s
use Rattle.token_sem.specs.Semaphore.{Rises, Loss, is_queued, is_owner, is_queued_state, is_owner_state, owned_by, waits_for, owner_of, without, without_waiters, hung_entry, granted_of}
use Rattle.token_sem.specs.Named as named
use Rattle.token_sem.specs.Entries.{freed, left, told_left, token_of, next_of, loss_of_one, loss_of, losing, lose_one, lose_each, lost_of, lost_one}
use Rattle.token_sem.proofs.Keeping.{Among, rises-without, without-same, without-none}
use Rattle.token_sem.proofs.Losing.{among-unique, rises-filter}
use Rattle.token_sem.proofs.Tabled.{next-among, left-none, left-some}

module _ {X : Type 0} where
  abbrev cons : X → List X → List X
  cons x xs = x ∷ xs

  filter-swap : (p q : X → Bool) (xs : List X) → filter p (filter q xs) ≡ filter q (filter p xs)
  filter-swap p q [] = refl
  filter-swap p q (x ∷ xs) = by_test (p x) (q x) refl refl (filter-swap p q xs)
    where
      by_test : (a b : Bool) → p x ≡ a → q x ≡ b → filter p (filter q xs) ≡ filter q (filter p xs)
          → filter p (cond b (x ∷ filter q xs) (filter q xs)) ≡ filter q (cond a (x ∷ filter p xs) (filter p xs))
      by_test true true t u ih = ap (λ c. cond c (x ∷ filter p (filter q xs)) (filter p (filter q xs))) t ∙ ap (cons x) ih ∙ sym (ap (λ c. cond c (x ∷ filter q (filter p xs)) (filter q (filter p xs))) u)
      by_test true false t u ih = ih ∙ sym (ap (λ c. cond c (x ∷ filter q (filter p xs)) (filter q (filter p xs))) u)
      by_test false true t u ih = ap (λ c. cond c (x ∷ filter p (filter q xs)) (filter p (filter q xs))) t ∙ ih
      by_test false false t u ih = ih

  -- the first that passes, and that none does
  find-head : (p : X → Bool) (xs : List X) (o : X) (os : List X) → filter p xs ≡ o ∷ os → find p xs ≡ Some o
  find-head p [] o os f = absurd cc
  find-head p (x ∷ xs) o os f = by_test (p x) f (λ g. find-head p xs o os g)
    where
      by_test : (b : Bool) → cond b (x ∷ filter p xs) (filter p xs) ≡ o ∷ os → (filter p xs ≡ o ∷ os → find p xs ≡ Some o) → cond b (Some x) (find p xs) ≡ Some o
      by_test true g ih = cc g
      by_test false g ih = ih g

  find-nothing : (p : X → Bool) (xs : List X) → filter p xs ≡ [] → find p xs ≡ None
  find-nothing p [] f = refl
  find-nothing p (x ∷ xs) f = by_test (p x) f (λ g. find-nothing p xs g)
    where
      by_test : (b : Bool) → cond b (x ∷ filter p xs) (filter p xs) ≡ [] → (filter p xs ≡ [] → find p xs ≡ None) → cond b (Some x) (find p xs) ≡ None
      by_test true g ih = absurd cc
      by_test false g ih = ih g

  counted : (p : X → Bool) (xs : List X) → count_by p xs ≡ length (filter p xs)
  counted p [] = refl
  counted p (x ∷ xs) = sum_by-cons (λ y. cond {A = ℕ} (p y) 1 0) x xs ∙ by_test (p x) (counted p xs)
    where
      by_test : (b : Bool) → count_by p xs ≡ length (filter p xs) → cond {A = ℕ} b 1 0 + count_by p xs ≡ length (cond b (x ∷ filter p xs) (filter p xs))
      by_test true ih = omega (arith, ih)
      by_test false ih = omega (arith, ih)

  dropped : (n : ℕ) (xs : List X) → (drop n xs ≡ []) ↔ (length xs ≤ n)
  dropped n xs = (forth n xs, back n xs)
    where
      forth : (n : ℕ) (xs : List X) → drop n xs ≡ [] → length xs ≤ n
      forth n [] e = omega arith
      forth zero (x ∷ xs) e = absurd cc
      forth (suc n) (x ∷ xs) e = let rest = forth n xs e in omega (arith, rest)

      back : (n : ℕ) (xs : List X) → length xs ≤ n → drop n xs ≡ []
      back zero [] le = refl
      back (suc n) [] le = refl
      back zero (x ∷ xs) le = absurd (omega arith)
      back (suc n) (x ∷ xs) le = back n xs (omega arith)

filter-in : (p : SemEntry → Bool) (es : List SemEntry) (e : SemEntry) → Among (filter p es) e → Among es e × (p e ≡ true)
filter-in p [] e a = absurd a
filter-in p (x ∷ es) e a = by_test (p x) refl a (λ k. filter-in p es e k)
  where
    by_test : (b : Bool) → p x ≡ b → Among (cond b (x ∷ filter p es) (filter p es)) e → (Among (filter p es) e → Among es e × (p e ≡ true)) → Among (x ∷ es) e × (p e ≡ true)
    by_test true t (inl same) ih = (inl same, ap p (sym same) ∙ t)
    by_test true t (inr a) ih = let rest = ih a in (inr rest.0, rest.1)
    by_test false t a ih = let rest = ih a in (inr rest.0, rest.1)

no : (b : Bool) → (b && false) ≡ false
no true = refl
no false = refl

module _ (tokens : Option ℕ) (client : ℕ) (now : Moment) where
  abbrev own : SemEntry → Bool
  own = owned_by client

  abbrev NoneWaits : List SemEntry → Type 0
  NoneWaits es = (e : SemEntry) → Among es e → waits_for client e ≡ false

  -- the client's owners are these, and it doesn't wait
  record IsLosing (es os : List SemEntry) : Type 0 where
    pub owners : filter own es ≡ os
    pub quiet : NoneWaits es
    pub rises : (high : ℕ) × Rises 0 es high

  -- another entry changes, that is not the client's
  module _ (g : SemEntry → SemEntry) (number : (e : SemEntry) → (g e).number ≡ e.number) where
    abbrev Spares : SemEntry → Type 0
    Spares e = (g e ≡ e) ⊎ ((own e ≡ false) × (own (g e) ≡ false) × (waits_for client (g e) ≡ false))

    map-own : (es : List SemEntry) → ((e : SemEntry) → Among es e → Spares e) → filter own (map g es) ≡ filter own es
    map-own [] h = refl
    map-own (e ∷ es) h = by_kind (h e (inl refl)) (map-own es (λ x a. h x (inr a)))
      where
        by_kind : Spares e → filter own (map g es) ≡ filter own es → cond (own (g e)) (g e ∷ filter own (map g es)) (filter own (map g es)) ≡ cond (own e) (e ∷ filter own es) (filter own es)
        by_kind (inl same) ih = ap₂ (λ (x : SemEntry) (l : List SemEntry). cond (own x) (x ∷ l) l) same ih
        by_kind (inr other) ih =
            ap (λ b. cond b (g e ∷ filter own (map g es)) (filter own (map g es))) other.1 ∙ ih ∙ sym (ap (λ b. cond b (e ∷ filter own es) (filter own es)) other.0)

    map-quiet : (es : List SemEntry) → ((e : SemEntry) → Among es e → Spares e) → NoneWaits es → NoneWaits (map g es)
    map-quiet [] h q x a = absurd a
    map-quiet (e ∷ es) h q x (inl same) = ap (waits_for client) (sym same) ∙ by_kind (h e (inl refl))
      where
        by_kind : Spares e → waits_for client (g e) ≡ false
        by_kind (inl same) = ap (waits_for client) same ∙ q e (inl refl)
        by_kind (inr other) = other.2
    map-quiet (e ∷ es) h q x (inr a) = map-quiet es (λ y b. h y (inr b)) (λ y b. q y (inr b)) x a

    map-rises : (low high : ℕ) (es : List SemEntry) → Rises low es high → Rises low (map g es) high
    map-rises low high [] r = r
    map-rises low high (e ∷ es) r =
        let rest : Rises e.number (map g es) high = map-rises e.number high es r.1 in
        let P : ℕ → Type 0 = λ m. (low < m) × Rises m (map g es) high in
        subst P (sym (number e)) (r.0, rest)

  -- one that waits is not an owner
  spared : (now' : Moment) (e : SemEntry) (b : Bool) → is_queued e ≡ true → (b && is_queued e) ≡ false → (b && is_owner e ≡ false) × (b && true ≡ false) × (b && false ≡ false)
  spared now' e b q w = by_state e.state b q w
    where
      by_state : (st : SemState) (b : Bool) → is_queued_state st ≡ true → (b && is_queued_state st) ≡ false → (b && is_owner_state st ≡ false) × (b && true ≡ false) × (b && false ≡ false)
      by_state Queued true q w = absurd cc
      by_state Queued false q w = (refl, refl, refl)
      by_state Owner b q w = absurd cc
      by_state IsHung b q w = absurd cc

  number-granted : (n : ℕ) (e : SemEntry) → (s.granted_entry n now e).number ≡ e.number
  number-granted n e = by_test (e.number == n)
    where
      by_test : (b : Bool) → (cond b (s.owner_from now e) e).number ≡ e.number
      by_test true = refl
      by_test false = refl

  number-named : (n t : ℕ) (e : SemEntry) → (named.granted_entry n t now e).number ≡ e.number
  number-named n t e = by_test (e.number == n)
    where
      by_test : (b : Bool) → (cond b (named.owner_from t now e) e).number ≡ e.number
      by_test true = refl
      by_test false = refl

  number-hung : (n : ℕ) (e : SemEntry) → (hung_entry n e).number ≡ e.number
  number-hung n e = by_test (e.number == n)
    where
      by_test : (b : Bool) → (cond b (record e { state = IsHung }) e).number ≡ e.number
      by_test true = refl
      by_test false = refl

  -- whoever is served is another client's
  is-served : (es : List SemEntry) (m e : SemEntry) (high : ℕ) → Rises 0 es high → NoneWaits es → Among es m → is_queued m ≡ true → Among es e → (e.number == m.number) ≡ true
      → (own e ≡ false) × ((e.client == client && true) ≡ false) × ((e.client == client && false) ≡ false)
  is-served es m e high r quiet a q b t =
      let n : e.number ≡ m.number = grind (arith, nat_tests) in
      let same : e ≡ m = among-unique 0 high es e m r b a n in
      spared now e (e.client == client) (ap is_queued same ∙ q) (quiet e b)

  served-equal : (es os : List SemEntry) → IsLosing es os → (o : Option SemEntry) → next_of None 0 es ≡ o → IsLosing (s.granted_to o now es) os
  served-equal es os is None f = is
  served-equal es os is (Some m) f =
      let g = s.granted_entry m.number now in
      let there = next-among None 0 es m f in
      let spares : (e : SemEntry) → Among es e → Spares g (number-granted m.number) e = λ e b. by_test e b (e.number == m.number) refl in
      record {
        owners = map-own g (number-granted m.number) es spares ∙ is.owners;
        quiet = map-quiet g (number-granted m.number) es spares is.quiet;
        rises = (is.rises.0, map-rises g (number-granted m.number) 0 is.rises.0 es is.rises.1);
      }
    where
      by_test : (e : SemEntry) → Among es e → (b : Bool) → (e.number == m.number) ≡ b
          → (cond b (s.owner_from now e) e ≡ e) ⊎ ((own e ≡ false) × (own (cond b (s.owner_from now e) e) ≡ false) × (waits_for client (cond b (s.owner_from now e) e) ≡ false))
      by_test e b false t = inl refl
      by_test e b true t = let there = next-among None 0 es m f in inr (is-served es m e is.rises.0 is.rises.1 is.quiet there.0 there.1 b t)

  served-named : (count t : ℕ) (es os : List SemEntry) → IsLosing es os → (o : Option SemEntry) → next_of (Some count) t es ≡ o → IsLosing (named.granted_to o t now es) os
  served-named count t es os is None f = is
  served-named count t es os is (Some m) f =
      let g = named.granted_entry m.number t now in
      let spares : (e : SemEntry) → Among es e → Spares g (number-named m.number t) e = λ e b. by_test e b (e.number == m.number) refl in
      record {
        owners = map-own g (number-named m.number t) es spares ∙ is.owners;
        quiet = map-quiet g (number-named m.number t) es spares is.quiet;
        rises = (is.rises.0, map-rises g (number-named m.number t) 0 is.rises.0 es is.rises.1);
      }
    where
      by_test : (e : SemEntry) → Among es e → (b : Bool) → (e.number == m.number) ≡ b
          → (cond b (named.owner_from t now e) e ≡ e) ⊎ ((own e ≡ false) × (own (cond b (named.owner_from t now e) e) ≡ false) × (waits_for client (cond b (named.owner_from t now e) e) ≡ false))
      by_test e b false u = inl refl
      by_test e b true u = let there = next-among (Some count) t es m f in inr (is-served es m e is.rises.0 is.rises.1 is.quiet there.0 there.1 b u)

  is-freed : (some : Option ℕ) (t : ℕ) (es os : List SemEntry) → IsLosing es os → IsLosing (freed some t now es) os
  is-freed None t es os is = served-equal es os is (s.next es) refl
  is-freed (Some count) t es os is = served-named count t es os is (named.next t es) refl

  -- the first of the owners goes
  is-without : (es os : List SemEntry) (o : SemEntry) → IsLosing es (o ∷ os) → IsLosing (without o.number es) os
  is-without es os o is =
      let risen : Rises 0 (o ∷ os) is.rises.0 = subst (λ (l : List SemEntry). Rises 0 l is.rises.0) is.owners (rises-filter own 0 is.rises.0 es is.rises.1) in
      record {
        owners = filter-swap own (λ e. not (e.number == o.number)) es ∙ ap (without o.number) is.owners ∙ without-same o o.number os refl ∙ without-none o.number is.rises.0 o.number os (omega arith) risen.1;
        quiet = λ e a. is.quiet e (filter-in (λ x. not (x.number == o.number)) es e a).0;
        rises = (is.rises.0, rises-without 0 is.rises.0 o.number es is.rises.1);
      }

  is-left : (es os : List SemEntry) (o : SemEntry) → IsLosing es (o ∷ os) → IsLosing (left tokens o now es) os
  is-left es os o is = by_token (token_of tokens o.token) refl
    where
      by_token : (t : Option ℕ) → token_of tokens o.token ≡ t → IsLosing (left tokens o now es) os
      by_token None f = subst (λ (l : List SemEntry). IsLosing l os) (left-none tokens o now es f).0 (is-without es os o is)
      by_token (Some t) f = subst (λ (l : List SemEntry). IsLosing l os) (left-some tokens o now es t f).0 (is-freed tokens t (without o.number es) os (is-without es os o is))

  -- or becomes hung
  hung-own : (n : ℕ) (es : List SemEntry) → filter own (map (hung_entry n) es) ≡ filter own (without n es)
  hung-own n [] = refl
  hung-own n (e ∷ es) = by_test (e.number == n) (hung-own n es)
    where
      by_test : (b : Bool) → filter own (map (hung_entry n) es) ≡ filter own (without n es)
          → filter own (cond b (record e { state = IsHung }) e ∷ map (hung_entry n) es) ≡ filter own (cond (not b) (e ∷ without n es) (without n es))
      by_test true ih = ap (λ b. cond b (record e { state = IsHung } ∷ filter own (map (hung_entry n) es)) (filter own (map (hung_entry n) es))) (no (e.client == client)) ∙ ih
      by_test false ih = ap (λ (l : List SemEntry). cond (own e) (e ∷ l) l) ih

  hung-quiet : (n : ℕ) (es : List SemEntry) → NoneWaits es → NoneWaits (map (hung_entry n) es)
  hung-quiet n [] q x a = absurd a
  hung-quiet n (e ∷ es) q x (inl same) = ap (waits_for client) (sym same) ∙ by_test (e.number == n)
    where
      by_test : (b : Bool) → waits_for client (cond b (record e { state = IsHung }) e) ≡ false
      by_test true = no (e.client == client)
      by_test false = q e (inl refl)
  hung-quiet n (e ∷ es) q x (inr a) = hung-quiet n es (λ y b. q y (inr b)) x a

  is-hung : (es os : List SemEntry) (o : SemEntry) → IsLosing es (o ∷ os) → IsLosing (map (hung_entry o.number) es) os
  is-hung es os o is = record {
    owners = hung-own o.number es ∙ (is-without es os o is).owners;
    quiet = hung-quiet o.number es is.quiet;
    rises = (is.rises.0, map-rises (hung_entry o.number) (number-hung o.number) 0 is.rises.0 es is.rises.1);
  }

  is-lost : (l : Loss) (os : List SemEntry) (o : SemEntry) → IsLosing l.entries (o ∷ os) → IsLosing (loss_of_one tokens now l o).entries os
  is-lost l os o is = by_keep o.keep
    where
      by_keep : (b : Bool) → IsLosing (cond b (record l { entries = map (hung_entry o.number) l.entries }) (record { entries = left tokens o now l.entries; grants = l.grants ++ option_to_list (told_left tokens o l.entries) })).entries os
      by_keep true = is-hung l.entries os o is
      by_keep false = is-left l.entries os o is

  -- where the client doesn't wait, all stay
  all-stay : (es : List SemEntry) → NoneWaits es → without_waiters client es ≡ es
  all-stay [] q = refl
  all-stay (e ∷ es) q =
      ap (λ b. cond (not b) (e ∷ without_waiters client es) (without_waiters client es)) (q e (inl refl)) ∙ ap (cons e) (all-stay es (λ x a. q x (inr a)))

  one : (l : Loss) (os : List SemEntry) (o : SemEntry) → IsLosing l.entries (o ∷ os) → lose_one tokens client now l ≡ loss_of_one tokens now l o
  one l os o is =
      ap (λ (m : Option SemEntry). losing tokens m now (record l { entries = without_waiters client l.entries })) (find-head own l.entries o os is.owners)
      ∙ ap (λ (es : List SemEntry). loss_of_one tokens now (record l { entries = es }) o) (all-stay l.entries is.quiet)

  none : (l : Loss) → IsLosing l.entries [] → lose_one tokens client now l ≡ l
  none l is =
      ap (λ (m : Option SemEntry). losing tokens m now (record l { entries = without_waiters client l.entries })) (find-nothing own l.entries is.owners)
      ∙ ap (λ (es : List SemEntry). record l { entries = es }) (all-stay l.entries is.quiet)

  -- so many are lost
  after-each : (n : ℕ) (l : Loss) (os : List SemEntry) → IsLosing l.entries os → IsLosing (lose_each tokens n client now l).entries (drop n os)
  after-each zero l os is = is
  after-each (suc n) l [] is =
      let same = none l is in
      let rest = after-each n (lose_one tokens client now l) [] (rw same is) in
      subst (IsLosing (lose_each tokens n client now (lose_one tokens client now l)).entries) (nothing n) rest
    where
      nothing : (n : ℕ) → drop {A = SemEntry} n [] ≡ []
      nothing zero = refl
      nothing (suc n) = refl
  after-each (suc n) l (o ∷ os) is = after-each n (lose_one tokens client now l) os (rw (one l os o is) (is-lost l os o is))

  all-each : (l : Loss) (os : List SemEntry) → IsLosing l.entries os → lose_each tokens (suc (length os)) client now l ≡ fold (loss_of_one tokens now) l os
  all-each l [] is = none l is
  all-each l (o ∷ os) is =
      let first = one l os o is in
      ap (lose_each tokens (suc (length os)) client now) first ∙ all-each (loss_of_one tokens now l o) os (is-lost l os o is)

  -- it is told whether there was one
  is-done : (es : List SemEntry) → (lost_one tokens client es ≡ Done) ↔ (filter own es ≡ [])
  is-done es = by_owners (filter own es) refl
    where
      told : (o : SemEntry) (w : List SemEntry) (b : Bool) → cond b Hung (Freed (told_left tokens o w)) ≡ Done → ⊥
      told o w true e = absurd cc
      told o w false e = absurd cc

      by_owners : (os : List SemEntry) → filter own es ≡ os → (lost_one tokens client es ≡ Done) ↔ (os ≡ [])
      by_owners [] f = (λ e. refl, λ e. ap (λ (m : Option SemEntry). lost_of tokens m (without_waiters client es)) (find-nothing own es f))
      by_owners (o ∷ os) f = (
        λ e. absurd (told o (without_waiters client es) o.keep (sym (ap (λ (m : Option SemEntry). lost_of tokens m (without_waiters client es)) (find-head own es o os f)) ∙ e)),
        λ e. absurd cc,
      )

  -- the client waits no more
  module _ (es : List SemEntry) (high : ℕ) (r : Rises 0 es high) where
    abbrev waiting : List SemEntry
    waiting = without_waiters client es

    owner-stays : (e : SemEntry) → own e ≡ true → not (waits_for client e) ≡ true
    owner-stays e t = by_state e.state (e.client == client) t
      where
        by_state : (st : SemState) (b : Bool) → (b && is_owner_state st) ≡ true → not (b && is_queued_state st) ≡ true
        by_state Owner true t = refl
        by_state Owner false t = refl
        by_state Queued true t = absurd cc
        by_state Queued false t = refl
        by_state IsHung true t = refl
        by_state IsHung false t = refl

    same-owners : (l : List SemEntry) → filter own (without_waiters client l) ≡ filter own l
    same-owners [] = refl
    same-owners (e ∷ l) = by_test (not (waits_for client e)) refl (same-owners l)
      where
        by_test : (b : Bool) → not (waits_for client e) ≡ b → filter own (without_waiters client l) ≡ filter own l
            → filter own (cond b (e ∷ without_waiters client l) (without_waiters client l)) ≡ cond (own e) (e ∷ filter own l) (filter own l)
        by_test true t ih = ap (λ (k : List SemEntry). cond (own e) (e ∷ k) k) ih
        by_test false t ih = ih ∙ by_own (own e) refl
          where
            by_own : (b : Bool) → own e ≡ b → filter own l ≡ cond b (e ∷ filter own l) (filter own l)
            by_own true u = absurd (let stays = owner-stays e u in cc (stays, t))
            by_own false u = refl

    is-quiet : NoneWaits waiting
    is-quiet e a = by_test (waits_for client e) (filter-in (λ x. not (waits_for client x)) es e a).1
      where
        by_test : (b : Bool) → not b ≡ true → b ≡ false
        by_test true t = absurd cc
        by_test false t = refl

    start : IsLosing waiting (filter own es)
    start = record {
      owners = same-owners es;
      quiet = is-quiet;
      rises = (high, rises-filter (λ e. not (waits_for client e)) 0 high es r);
    }

    same-owner : owner_of client waiting ≡ owner_of client es
    same-owner = by_owners (filter own es) refl
      where
        by_owners : (os : List SemEntry) → filter own es ≡ os → find own waiting ≡ find own es
        by_owners [] f = find-nothing own waiting (same-owners es ∙ f) ∙ sym (find-nothing own es f)
        by_owners (o ∷ os) f = find-head own waiting o os (same-owners es ∙ f) ∙ sym (find-head own es o os f)

    abbrev whole : Loss
    whole = record { entries = es; grants = [] }

    abbrev calm : Loss
    calm = record { entries = waiting; grants = [] }

    same-first : lose_one tokens client now whole ≡ lose_one tokens client now calm
    same-first =
        ap (λ (m : Option SemEntry). losing tokens m now calm) (sym same-owner)
        ∙ ap (λ (k : List SemEntry). losing tokens (owner_of client waiting) now (record { entries = k; grants = [] })) (sym (all-stay waiting is-quiet))

    same-told : lost_one tokens client es ≡ lost_one tokens client waiting
    same-told =
        ap (λ (m : Option SemEntry). lost_of tokens m waiting) (sym same-owner)
        ∙ ap (λ (k : List SemEntry). lost_of tokens (owner_of client waiting) k) (sym (all-stay waiting is-quiet))

    pub each-whole : lose_each tokens (suc (count_by (owned_by client) es)) client now whole ≡ loss_of tokens client now es
    each-whole =
        ap (λ n. lose_each tokens (suc n) client now whole) (counted own es)
        ∙ ap (lose_each tokens (length (filter own es)) client now) same-first
        ∙ all-each calm (filter own es) start

    told-after : (n : ℕ) → lost_one tokens client (lose_each tokens n client now whole).entries ≡ lost_one tokens client (lose_each tokens n client now calm).entries
    told-after zero = same-told
    told-after (suc n) = ap (λ (l : Loss). lost_one tokens client (lose_each tokens n client now l).entries) same-first

    pub each-ends : (n : ℕ) → (lost_one tokens client (lose_each tokens n client now whole).entries ≡ Done) ↔ (count_by (owned_by client) es ≤ n)
    each-ends n =
        let is = after-each n calm (filter own es) start in
        let end = is-done (lose_each tokens n client now calm).entries in
        let few = dropped n (filter own es) in
        let long = counted own es in (
          λ e. (let le = few.0 (sym is.owners ∙ end.0 (sym (told-after n) ∙ e)) in omega (arith, le, long)),
          λ le. told-after n ∙ end.1 (is.owners ∙ few.1 (omega (arith, le, long))),
        )

  told-by : (l : Loss) (w : List SemEntry) (o : Option SemEntry) → (losing tokens o now (record l { entries = w })).grants ≡ l.grants ++ granted_of (lost_of tokens o w)
  told-by l w None = sym (append-nil l.grants)
  told-by l w (Some o) = by_keep o.keep
    where
      by_keep : (b : Bool) → (cond b (record l { entries = map (hung_entry o.number) w }) (record { entries = left tokens o now w; grants = l.grants ++ option_to_list (told_left tokens o w) })).grants
          ≡ l.grants ++ granted_of (cond b Hung (Freed (told_left tokens o w)))
      by_keep true = sym (append-nil l.grants)
      by_keep false = refl

  pub told-grants : (l : Loss) → (lose_one tokens client now l).grants ≡ l.grants ++ granted_of (lost_one tokens client l.entries)
  told-grants l = told-by l (without_waiters client l.entries) (owner_of client l.entries)
