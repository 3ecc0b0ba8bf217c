-- After two rounds of meetings all passes know one beginning, which holds every own place.
use Rattle.std.proofs.Common.{◌≢◌, get_or, length-set, ◌≡◌, ℕ, zero, suc, ◌+◌, ◌<◌, ◌≤◌, List, [], ◌∷◌, ◌++◌, length, set, slice_get, Some, refl, sym, ◌∙◌, ap, subst, arith}
use Rattle.part_table.specs.History.{StartsWith, places_of, IsMade}
use Rattle.part_table.specs.Known.{Known, Opened, IsTrueOf}
use Rattle.part_table.specs.Gathered.{AreAll, HasMet, HasMetEach, HaveGathered}
use native.Mathlib.Decide.{ℕ_discrete}
use Rattle.part_table.proofs.Histories.{starts_refl, starts_trans}
use Rattle.part_table.proofs.Counting.{made_front, places_between, count_own}

module _ {T E : Type 0} (may_make : ℕ → E → Type 0) where
  -- a pass that knew less and one that knows more have the same places in between
  own_between : (p q : Known T E) (mid : List (ℕ × E)) → q ≡ record p { seen = q.seen } → IsTrueOf may_make p → IsTrueOf may_make q → StartsWith mid p.seen → StartsWith q.seen mid → p.own ≡ places_of p.by mid
  own_between p q mid kept before after low high =
      let own : p.own ≡ places_of p.by q.seen = sym (ap (λ (k : Known T E). k.own) kept) ∙ after.own ∙ ap (λ n. places_of n q.seen) (ap (λ (k : Known T E). k.by) kept) in
      places_between p.by p.own p.seen mid q.seen low high before.own own

  kept_twice : (p q r : Known T E) → q ≡ record p { seen = q.seen } → r ≡ record q { seen = r.seen } → r ≡ record p { seen = r.seen }
  kept_twice p q r first second = second ∙ ap (λ (k : Known T E). record k { seen = r.seen }) first

  module _ (table : Opened T) (f0 f1 f2 f3 : Known T E) (ps qs rs : List (Known T E)) (k : ℕ) (all : AreAll table (f0 ∷ ps)) (true_of : IsTrueOf may_make f0) (first : HasMetEach may_make f0 f1 ps qs)
      (looked : f2 ≡ record f1 { seen = f2.seen }) (saw : StartsWith f2.seen f1.seen) (size : k ≡ length f2.seen) (second : HasMetEach may_make f2 f3 qs rs) (true_then : IsTrueOf may_make f3) where
    abbrev Kept : ℕ → Known T E → Type 0
    Kept i p = (q : Known T E) × (slice_get (f3 ∷ rs) i ≡ Some q) × (q ≡ record p { seen = q.seen }) × StartsWith q.seen f2.seen × StartsWith f2.seen p.seen × (p.own ≡ places_of i f2.seen)

    first_kept : f3 ≡ record f0 { seen = f3.seen }
    first_kept = kept_twice f0 f2 f3 (kept_twice f0 f1 f2 first.kept looked) second.kept

    first_saw : StartsWith f2.seen f0.seen
    first_saw = starts_trans f2.seen f1.seen f0.seen saw first.seen

    of_first : Kept 0 f0
    of_first =
        let number : f0.by ≡ 0 = (all.each 0 f0 refl).1 in
        (f3, refl, first_kept, second.seen, first_saw, own_between f0 f3 f2.seen first_kept true_of true_then first_saw second.seen ∙ ap (λ n. places_of n f2.seen) number)

    of_other : (i : ℕ) (p : Known T E) → slice_get ps i ≡ Some p → Kept (suc i) p
    of_other i p at =
        let q = first.met i p at in
        let r = second.met i q.0 q.1 in
        let number : p.by ≡ suc i = (all.each (suc i) p at).1 in
        let kept = kept_twice p q.0 r.0 q.2.kept r.2.kept in
        let low : StartsWith f2.seen p.seen = starts_trans f2.seen f1.seen p.seen saw q.3 in
        (r.0, r.1, kept, r.2.theirs, low, own_between p r.0 f2.seen kept q.2.true_before r.2.true_of low r.2.theirs ∙ ap (λ n. places_of n f2.seen) number)

    each : (i : ℕ) (p : Known T E) → slice_get (f0 ∷ ps) i ≡ Some p → Kept i p
    each zero p at = let same : f0 ≡ p = cc at in subst (Kept 0) same of_first
    each (suc i) p at = of_other i p at

    made : IsMade (length (f0 ∷ ps)) may_make f2.seen
    made =
        let front = made_front f3.table.callers may_make f2.seen second.seen.0 (subst (λ (h : List (ℕ × E)). IsMade f3.table.callers may_make h) second.seen.1 true_then.made) in
        let same : f3.table.callers ≡ length (f0 ∷ ps) = ap (λ (q : Known T E). q.table.callers) first_kept ∙ ap (λ (t : Opened T). t.callers) (all.each 0 f0 refl).0 ∙ sym all.count in
        subst (λ n. IsMade n may_make f2.seen) same front

    pub gathered : HaveGathered may_make (f0 ∷ ps) (f3 ∷ rs) k f2.seen
    gathered = record {
      size = size;
      count = size ∙ count_own may_make (f0 ∷ ps) f2.seen made (λ i p at. (each i p at).5);
      made = made;
      same = (let a = first.same in let b = second.same in omega arith);
      kept = each;
    }

module _ {T E : Type 0} (may_make : ℕ → E → Type 0) where
  -- as far as a place, a pass has met each of others
  pub record HasMetBefore (first now : Known T E) (before after : List (Known T E)) (place : ℕ) : Type 0 where
    pub kept : now ≡ record first { seen = now.seen }
    pub seen : StartsWith now.seen first.seen
    pub same : length after ≡ length before
    pub met : (i : ℕ) (p : Known T E) → i < place → slice_get before i ≡ Some p → (q : Known T E) × (slice_get after i ≡ Some q) × HasMet may_make first.seen p q × StartsWith now.seen p.seen
    pub rest : (i : ℕ) → place ≤ i → slice_get after i ≡ slice_get before i

  pub met_none : (first : Known T E) (others : List (Known T E)) → HasMetBefore first first others others 0
  met_none first others = record {
    kept = refl;
    seen = starts_refl first.seen;
    same = refl;
    met = λ i p lt at. absurd (omega arith);
    rest = λ i le. refl;
  }

  slice_set_here : (l : List (Known T E)) (i : ℕ) (q : Known T E) → i < length l → slice_get (set l i q) i ≡ Some q
  slice_set_here [] i q lt = absurd (omega arith)
  slice_set_here (x ∷ xs) zero q lt = refl
  slice_set_here (x ∷ xs) (suc i) q lt = slice_set_here xs i q (omega arith)

  slice_set_else : (l : List (Known T E)) (i j : ℕ) (q : Known T E) → j ≢ i → slice_get (set l i q) j ≡ slice_get l j
  slice_set_else [] i j q ne = refl
  slice_set_else (x ∷ xs) zero zero q ne = absurd (ne refl)
  slice_set_else (x ∷ xs) zero (suc j) q ne = refl
  slice_set_else (x ∷ xs) (suc i) zero q ne = refl
  slice_set_else (x ∷ xs) (suc i) (suc j) q ne = slice_set_else xs i j q (λ e. ne (ap suc e))

  pub slice_at : (l : List (Known T E)) (i : ℕ) (p : Known T E) → i < length l → p ≡ get_or l i p → slice_get l i ≡ Some p
  slice_at [] i p lt is = absurd (omega arith)
  slice_at (x ∷ xs) zero p lt is = ap (λ (q : Known T E). Some q) (sym is)
  slice_at (x ∷ xs) (suc i) p lt is = slice_at xs i p (omega arith) is

  module _ (first now then : Known T E) (before after next : List (Known T E)) (place : ℕ) (m : HasMetBefore first now before after place) (p q : Known T E) (lt : place < length after)
      (at : slice_get after place ≡ Some p) (kept : then ≡ record now { seen = then.seen }) (other_kept : q ≡ record p { seen = q.seen })
      (mine : StartsWith then.seen now.seen × StartsWith then.seen p.seen) (theirs : StartsWith q.seen now.seen × StartsWith q.seen p.seen)
      (true_before : IsTrueOf may_make p) (true_of : IsTrueOf may_make q) (is : next ≡ set after place q) where
    met_then : (i : ℕ) (r : Known T E) → Dec (i ≡ place) → i < place + 1 → slice_get before i ≡ Some r
        → (u : Known T E) × (slice_get (set after place q) i ≡ Some u) × HasMet may_make first.seen r u × StartsWith then.seen r.seen
    met_then i r (yes e) below there =
        let old : slice_get after i ≡ slice_get before i = m.rest i (let z : place ≡ i = sym e in omega arith) in
        let same : Some p ≡ Some r = sym at ∙ ap (slice_get after) (sym e) ∙ old ∙ there in
        let is_r : p ≡ r = cc same in
        let met : HasMet may_make first.seen p q = record { kept = other_kept; mine = theirs.1; theirs = starts_trans q.seen now.seen first.seen theirs.0 m.seen; true_before = true_before; true_of = true_of } in
        (q, ap (slice_get (set after place q)) e ∙ slice_set_here after place q lt, subst (λ (k : Known T E). HasMet may_make first.seen k q) is_r met, subst (λ (k : Known T E). StartsWith then.seen k.seen) is_r mine.1)
    met_then i r (no ne) below there =
        let t = m.met i r (omega arith) there in
        (t.0, slice_set_else after place i q ne ∙ t.1, t.2, starts_trans then.seen now.seen r.seen mine.0 t.3)

    pub met_one : HasMetBefore first then before next (place + 1)
    met_one =
        let base : HasMetBefore first then before (set after place q) (place + 1) = record {
          kept = kept_twice may_make first now then m.kept kept;
          seen = starts_trans then.seen now.seen first.seen mine.0 m.seen;
          same = length-set after place q ∙ m.same;
          met = λ i r below there. met_then i r (ℕ_discrete i place) below there;
          rest = λ i le. slice_set_else after place i q (λ e. omega arith) ∙ m.rest i (omega arith);
        } in
        subst (λ (l : List (Known T E)). HasMetBefore first then before l (place + 1)) (sym is) base

  slice_within : (l : List (Known T E)) (i : ℕ) (p : Known T E) → slice_get l i ≡ Some p → i < length l
  slice_within [] i p e = absurd (cc e)
  slice_within (x ∷ xs) zero p e = omega arith
  slice_within (x ∷ xs) (suc i) p e = let h = slice_within xs i p e in omega arith

  pub met_all : (first now : Known T E) (before after : List (Known T E)) (place : ℕ) → HasMetBefore first now before after place → length before ≤ place → HasMetEach may_make first now before after
  met_all first now before after place m le = record {
    kept = m.kept;
    seen = m.seen;
    same = m.same;
    met = λ i p at. m.met i p (let h = slice_within before i p at in omega arith) at;
  }

  single : (front : List (Known T E)) (f : Known T E) → length front ≡ 1 → f ≡ get_or front 0 f → front ≡ f ∷ []
  single [] f one is = absurd (omega arith)
  single (x ∷ []) f one is = ap (λ (k : Known T E). k ∷ []) (sym is)
  single (x ∷ y ∷ l) f one is = absurd (omega arith)

  slice_there : (l : List (Known T E)) (i : ℕ) → i < length l → (p : Known T E) × (slice_get l i ≡ Some p)
  slice_there [] i lt = absurd (omega arith)
  slice_there (x ∷ xs) zero lt = (x, refl)
  slice_there (x ∷ xs) (suc i) lt = slice_there xs i (omega arith)

  module _ (table : Opened T) (passes front ps : List (Known T E)) (f0 : Known T E) (split : passes ≡ front ++ ps) (one : length front ≡ 1) (first_is : f0 ≡ get_or front 0 f0) (all : AreAll table passes) where
    all_are : passes ≡ f0 ∷ ps
    all_are = split ∙ ap (λ (l : List (Known T E)). l ++ ps) (single front f0 one first_is)

    all_there : AreAll table (f0 ∷ ps)
    all_there = subst (AreAll table) all_are all

    pub tables_kept : (f1 : Known T E) (qs : List (Known T E)) → HasMetEach may_make f0 f1 ps qs → (i : ℕ) (q : Known T E) → slice_get qs i ≡ Some q → q.table ≡ table
    tables_kept f1 qs met i q at =
        let within = slice_within qs i q at in
        let same = met.same in
        let p = slice_there ps i (omega arith) in
        let m = met.met i p.0 p.1 in
        let is : m.0 ≡ q = (let e : Some m.0 ≡ Some q = sym m.1 ∙ at in cc e) in
        sym (ap (λ (k : Known T E). k.table) is) ∙ ap (λ (k : Known T E). k.table) m.2.kept ∙ (all_there.each (suc i) p.0 p.1).0

    pub gathered_all : (f1 f2 f3 : Known T E) (qs rs after : List (Known T E)) (k : ℕ) → IsTrueOf may_make f0 → HasMetEach may_make f0 f1 ps qs → f2 ≡ record f1 { seen = f2.seen } → StartsWith f2.seen f1.seen
        → k ≡ length f2.seen → HasMetEach may_make f2 f3 qs rs → IsTrueOf may_make f3 → after ≡ set front 0 f3 ++ rs
        → (common : List (ℕ × E)) × HaveGathered may_make passes after k common
    gathered_all f1 f2 f3 qs rs after k true_of first looked saw size second true_then is =
        let after_is : after ≡ f3 ∷ rs = is ∙ ap (λ (l : List (Known T E)). set l 0 f3 ++ rs) (single front f0 one first_is) in
        let g = gathered may_make table f0 f1 f2 f3 ps qs rs k all_there true_of first looked saw size second true_then in
        (f2.seen, subst (λ (l : List (Known T E)). HaveGathered may_make l after k f2.seen) (sym all_are) (subst (λ (l : List (Known T E)). HaveGathered may_make (f0 ∷ ps) l k f2.seen) (sym after_is) g))
