-- Clients that are drained one after the other.
use Rattle.std.proofs.Common.{◌≡◌, get_or, length-set, set, ◌≢◌, ◌++◌, ◌+◌, ◌-◌, ◌<◌, ◌≤◌, ℕ, zero, suc, List, [], ◌∷◌, refl, ap, ap₂, sym, ◌∙◌, subst, map, length, length-append, arith, append_assoc, append-nil, Some, slice_get, Result, Ok, Err, IfOk}
use native.Mathlib.Decide.{ℕ_discrete}
use Rattle.part_table.specs.History.{StartsWith}
use Rattle.part_table.proofs.Histories.{starts_trans, starts_refl, starts_whole, starts_length}
use Rattle.mms_types.specs.Actors.{clients_to}
use Rattle.mms_types.specs.declared.event.CellEvent.{CellEvent}
use Rattle.mms_types.specs.declared.event.CellEvent.TheVariants.{Drain}
use Rattle.mms_types.specs.declared.event.What.{What}
use Rattle.part_table.specs.Known.{HoldsNothing}
use Rattle.mms_device.specs.Shared.{Shared, Caller, History, HasTried, IsServed, all_events}
use Rattle.mms_device.proofs.Trying.{tried_served}
use Rattle.cell_record.specs.Report.{taken}
use Rattle.cell_run.specs.Drained.{drains_of, DrainAll, HasDrained, IsDrained, HaveDrained}

module _ {A : Type 0} where
  map-append : {B : Type 0} (f : A → B) (xs ys : List A) → map f (xs ++ ys) ≡ map f xs ++ map f ys
  map-append f [] ys = refl
  map-append f (x ∷ xs) ys = ap (λ l. f x ∷ l) (map-append f xs ys)

  set_at : (xs : List A) (i : ℕ) (y : A) → i < length xs → slice_get (set xs i y) i ≡ Some y
  set_at [] i y lt = absurd (omega arith)
  set_at (x ∷ xs) zero y lt = refl
  set_at (x ∷ xs) (suc i) y lt = set_at xs i y (omega arith)

  set_else : (xs : List A) (i j : ℕ) (y : A) → j ≢ i → slice_get (set xs i y) j ≡ slice_get xs j
  set_else [] i j y ne = refl
  set_else (x ∷ xs) zero zero y ne = absurd (ne refl)
  set_else (x ∷ xs) zero (suc j) y ne = refl
  set_else (x ∷ xs) (suc i) zero y ne = refl
  set_else (x ∷ xs) (suc i) (suc j) y ne = set_else xs i j y (λ e. ne (ap suc e))

drains_more : (cs : List ℕ) (c : ℕ) → drains_of (cs ++ c ∷ []) ≡ drains_of cs ++ (c, Drain c) ∷ []
drains_more [] c = refl
drains_more (x ∷ cs) c = ap (λ (l : History). (x, Drain x) ∷ l) (drains_more cs c)

drains_events : (cs : List ℕ) → map (λ (m : ℕ × CellEvent). m.1) (drains_of cs) ≡ map Drain cs
drains_events [] = refl
drains_events (c ∷ cs) = ap (λ (l : List CellEvent). Drain c ∷ l) (drains_events cs)

taken_more : (said : List CellEvent → ℕ → List What) (before : List CellEvent) (cs : List ℕ) (c : ℕ)
    → taken said before (cs ++ c ∷ []) ≡ taken said before cs ++ said (before ++ map Drain cs) c ∷ []
taken_more said before [] c = ap (λ b. said b c ∷ []) (sym (append-nil before))
taken_more said before (x ∷ cs) c =
    ap (λ (l : List (List What)). said before x ∷ l) (taken_more said (before ++ Drain x ∷ []) cs c
    ∙ ap (λ b. taken said (before ++ Drain x ∷ []) cs ++ said b c ∷ []) (append_assoc before (Drain x ∷ []) (map Drain cs)))

-- a client that tried in vain was drained at last
pub drained_at_last : (said : List CellEvent → ℕ → List What) (old p new : Caller) (ticket : ℕ) (out : List What) → HasTried old p
    → (h : History) × IsServed (Drain p.by) p new ticket h × (out ≡ said (all_events h) p.by)
    → (h : History) × IsServed (Drain old.by) (record old { lost = new.lost }) new ticket h × (out ≡ said (all_events h) old.by)
drained_at_last said old p new ticket out tried d =
    let by : p.by ≡ old.by = ap (λ (k : Caller). k.by) tried.pass in
    (d.0, tried_served old p tried (Drain old.by) new ticket d.0 (subst (λ n. IsServed (Drain n) p new ticket d.0) by d.1), d.2 ∙ ap (λ n. said (all_events d.0) n) by)

module _ (said : List CellEvent → ℕ → List What) where
  pub drained_none : (common : History) (first : Caller) (others : List Caller) → StartsWith first.seen common → HaveDrained said common first first others others 0 []
  drained_none common first others starts = record {
    kept = refl;
    seen = starts_refl first.seen;
    least = (let l = starts_length first.seen common starts in omega arith);
    exact = λ le. (sym (starts_whole first.seen common starts (omega arith)) ∙ sym (append-nil common), refl);
    same = refl;
    done = λ i p lt at. absurd (omega arith);
    rest = λ i le. refl;
  }

  -- between two meetings
  pub one_drained : (now met last p p1 p2 p3 : Caller) (ticket : ℕ) (out : List What) → met ≡ record now { seen = met.seen } → p1 ≡ record p { seen = p1.seen } → StartsWith met.seen now.seen
      → StartsWith p1.seen now.seen → StartsWith p1.seen p.seen → (h : History) × IsServed (Drain p1.by) (record p1 { lost = p2.lost }) p2 ticket h × (out ≡ said (all_events h) p1.by)
      → last ≡ record met { seen = last.seen } → p3 ≡ record p2 { seen = p3.seen } → StartsWith last.seen met.seen → StartsWith last.seen p2.seen → StartsWith p3.seen p2.seen
      → HasDrained said now last p p3 out
  one_drained now met last p p1 p2 p3 ticket out met_kept p1_kept met_seen p1_seen p1_own d last_kept p3_kept last_seen last_knows p3_seen =
      let by : p1.by ≡ p.by = ap (λ (k : Caller). k.by) p1_kept in
      let seen : p2.seen ≡ d.0 ++ (p1.by, Drain p1.by) ∷ [] = ap (λ (k : Caller). k.seen) d.1.pass in
      record {
        h = d.0;
        kept = last_kept ∙ ap (λ (k : Caller). record k { seen = last.seen }) met_kept;
        seen = starts_trans last.seen met.seen now.seen last_seen met_seen;
        drained = record {
          ticket = ticket;
          pass = p3_kept ∙ ap (λ (k : Caller). record k { seen = p3.seen }) d.1.pass
              ∙ ap (λ (k : Caller). record k { seen = p3.seen; own = k.own ++ ticket ∷ []; left = k.left - 1; lost = p2.lost }) p1_kept
              ∙ ap (λ l. record p { seen = p3.seen; own = p.own ++ ticket ∷ []; left = p.left - 1; lost = l }) (sym (ap (λ (k : Caller). k.lost) p3_kept));
          seen = starts_trans p3.seen p2.seen p.seen p3_seen (starts_trans p2.seen d.0 p.seen ((p1.by, Drain p1.by) ∷ [], seen) (starts_trans d.0 p1.seen p.seen d.1.seen p1_own));
        };
        ahead = starts_trans d.0 p1.seen now.seen d.1.seen p1_seen;
        knows = subst (λ n. StartsWith last.seen (d.0 ++ (n, Drain n) ∷ [])) by (subst (λ (l : History). StartsWith last.seen l) seen last_knows);
        told = d.2 ∙ ap (λ n. said (all_events d.0) n) by;
      }

  module _ (common : History) (first now last : Caller) (before after next : List Caller) (place : ℕ) (outputs more_out : List (List What)) (m : HaveDrained said common first now before after place outputs)
      (p q : Caller) (out : List What) (lt : place < length after) (at : slice_get after place ≡ Some p) (by : p.by ≡ place + 1) (d : HasDrained said now last p q out)
      (is : next ≡ set after place q) (grew : more_out ≡ outputs ++ out ∷ []) where
    by1 : p.by ≡ suc place
    by1 = let n : place + 1 ≡ suc place = omega arith in by ∙ n

    knows1 : StartsWith last.seen (d.h ++ (suc place, Drain (suc place)) ∷ [])
    knows1 = subst (λ n. StartsWith last.seen (d.h ++ (n, Drain n) ∷ [])) by1 d.knows

    length2 : length (d.h ++ (suc place, Drain (suc place)) ∷ []) ≡ length d.h + 1
    length2 = length-append d.h ((suc place, Drain (suc place)) ∷ [])

    exact_one : length last.seen ≤ length common + (place + 1) → (last.seen ≡ common ++ drains_of (clients_to (suc place))) × (more_out ≡ taken said (all_events common) (clients_to (suc place)))
    exact_one le =
        let long = starts_length last.seen (d.h ++ (suc place, Drain (suc place)) ∷ []) knows1 in
        let more = starts_length d.h now.seen d.ahead in
        let least = m.least in
        let two = length2 in
        let short : length now.seen ≤ length common + place = omega arith in
        let e = m.exact short in
        let same_h : now.seen ≡ d.h = starts_whole d.h now.seen d.ahead (omega arith) in
        let h_is : d.h ≡ common ++ drains_of (clients_to place) = sym same_h ∙ e.0 in
        let whole : d.h ++ (suc place, Drain (suc place)) ∷ [] ≡ last.seen = starts_whole last.seen (d.h ++ (suc place, Drain (suc place)) ∷ []) knows1 (omega arith) in
        let events : all_events d.h ≡ all_events common ++ map Drain (clients_to place) =
        ap (λ (l : History). all_events l) h_is ∙ map-append (λ (m : ℕ × CellEvent). m.1) common (drains_of (clients_to place))
        ∙ ap (λ (l : List CellEvent). all_events common ++ l) (drains_events (clients_to place)) in (
          sym whole ∙ ap (λ (l : History). l ++ (suc place, Drain (suc place)) ∷ []) h_is ∙ append_assoc common (drains_of (clients_to place)) ((suc place, Drain (suc place)) ∷ [])
              ∙ ap (λ (l : History). common ++ l) (sym (drains_more (clients_to place) (suc place))),
          grew ∙ ap (λ (l : List (List What)). l ++ out ∷ []) e.1
              ∙ ap (λ (w : List What). taken said (all_events common) (clients_to place) ++ w ∷ []) (d.told ∙ ap₂ said events by1)
              ∙ sym (taken_more said (all_events common) (clients_to place) (suc place)),
        )

    done_one : (i : ℕ) (r : Caller) → Dec (i ≡ place) → i < place + 1 → slice_get before i ≡ Some r → (u : Caller) × (slice_get (set after place q) i ≡ Some u) × IsDrained r u
    done_one i r (yes e) below there =
        let old : slice_get after i ≡ slice_get before i = m.rest i (let z : place ≡ i = sym e in omega arith) in
        let same : Some p ≡ Some r = sym at ∙ ap (slice_get after) (sym e) ∙ old ∙ there in
        let is_r : p ≡ r = cc same in
        (q, ap (slice_get (set after place q)) e ∙ set_at after place q lt, subst (λ (k : Caller). IsDrained k q) is_r d.drained)
    done_one i r (no ne) below there =
        let t = m.done i r (omega arith) there in
        (t.0, set_else after place i q ne ∙ t.1, t.2)

    pub drained_one : HaveDrained said common first last before next (place + 1) more_out
    drained_one =
        let suc_is : suc place ≡ place + 1 = omega arith in
        let base : HaveDrained said common first last before (set after place q) (place + 1) more_out = record {
          kept = d.kept ∙ ap (λ (k : Caller). record k { seen = last.seen }) m.kept;
          seen = starts_trans last.seen now.seen first.seen d.seen m.seen;
          least = (let a = m.least in let b = starts_length d.h now.seen d.ahead in let e = starts_length last.seen (d.h ++ (suc place, Drain (suc place)) ∷ []) knows1 in let two = length2 in omega arith);
          exact = λ le. subst (λ n. (last.seen ≡ common ++ drains_of (clients_to n)) × (more_out ≡ taken said (all_events common) (clients_to n))) suc_is (exact_one le);
          same = length-set after place q ∙ m.same;
          done = λ i r below there. done_one i r (ℕ_discrete i place) below there;
          rest = λ i le. set_else after place i q (λ e. omega arith) ∙ m.rest i (omega arith);
        } in
        subst (λ (l : List Caller). HaveDrained said common first last before l (place + 1) more_out) (sym is) base

-- what is asked of the client that comes next
pub client_fit : (device : Shared) (said : List CellEvent → ℕ → List What) (common : History) (first now : Caller) (before after : List Caller) (place : ℕ) (outputs : List (List What)) (p : Caller)
    → HaveDrained said common first now before after place outputs
    → ((i : ℕ) (p : Caller) → slice_get before i ≡ Some p → (p.table ≡ device.table) × (p.by ≡ i + 1) × (0 < p.left) × HoldsNothing p) → slice_get after place ≡ Some p
    → (p.table ≡ device.table) × (p.by ≡ place + 1) × (0 < p.left) × HoldsNothing p
client_fit device said common first now before after place outputs p m fit at = fit place p (sym (m.rest place (omega arith)) ∙ at)

-- ---- the pass of the cell, and those of the clients

pub slice_of : {X : Type 0} (l : List X) (i : ℕ) (p : X) → i < length l → p ≡ get_or l i p → slice_get l i ≡ Some p
slice_of [] i p lt is = absurd (omega arith)
slice_of (x ∷ xs) zero p lt is = ap (λ q. Some q) (sym is)
slice_of (x ∷ xs) (suc i) p lt is = slice_of xs i p (omega arith) is

single : {X : Type 0} (front : List X) (f : X) → length front ≡ 1 → f ≡ get_or front 0 f → front ≡ f ∷ []
single [] f one is = absurd (omega arith)
single (x ∷ []) f one is = ap (λ k. k ∷ []) (sym is)
single (x ∷ y ∷ l) f one is = absurd (omega arith)

module _ (passes front clients : List Caller) (f : Caller) (split : passes ≡ front ++ clients) (one : length front ≡ 1) (is : f ≡ get_or front 0 f) where
  passes_are : passes ≡ f ∷ clients
  passes_are = split ∙ ap (λ (l : List Caller). l ++ clients) (single front f one is)

  pub cell_there : slice_get passes 0 ≡ Some f
  cell_there = ap (λ (l : List Caller). slice_get l 0) passes_are

  pub client_there : (i : ℕ) (p : Caller) → slice_get clients i ≡ Some p → slice_get passes (suc i) ≡ Some p
  client_there i p at = ap (λ (l : List Caller). slice_get l (suc i)) passes_are ∙ at

  pub all_drained : (said : List CellEvent → ℕ → List What) (last : Caller) (after now : List Caller) (common : History) (first : Caller) (others : List Caller) (outputs : List (List What))
      → now ≡ set front 0 last ++ after → passes ≡ first ∷ others → HaveDrained said common f last clients after (length clients) outputs
      → DrainAll said common first others now outputs
  all_drained said last after now common first others outputs are same d =
      let both : f ∷ clients ≡ first ∷ others = sym passes_are ∙ same in
      let a : f ≡ first = cc both in
      let b : clients ≡ others = cc both in
      record {
        last = last;
        after = after;
        are = are ∙ ap (λ (l : List Caller). set l 0 last ++ after) (single front f one is);
        drained = subst (λ (k : Caller). HaveDrained said common k last others after (length others) outputs) a (subst (λ (l : List Caller). HaveDrained said common f last l after (length l) outputs) b d);
      }

  pub cell_is : (first : Caller) (others : List Caller) → passes ≡ first ∷ others → first ≡ f
  cell_is first others same = cc (sym same ∙ passes_are)

pub each_fit : (device : Shared) (i : ℕ) (p : Caller) → (p.table ≡ device.table) × (p.by ≡ suc i) × (0 < p.left) × HoldsNothing p → (p.table ≡ device.table) × (p.by ≡ i + 1) × (0 < p.left) × HoldsNothing p
each_fit device i p fit = (fit.0, (let by = fit.1 in omega arith), fit.2, fit.3)

pub if_ok : {A E : Type 0} (r : Result A E) (P Q : A → Type 0) → IfOk r P → ((a : A) → P a → Q a) → IfOk r Q
if_ok (Ok a) P Q h f = f a h
if_ok (Err e) P Q h f = tt

pub if_ok_both : {A E : Type 0} (r : Result A E) (P Q R : A → Type 0) → IfOk r P → IfOk r Q → ((a : A) → P a → Q a → R a) → IfOk r R
if_ok_both (Ok a) P Q R h k f = f a h k
if_ok_both (Err e) P Q R h k f = tt
