-- Jobs that were served, and the passes that they had.
use Rattle.std.proofs.Common.{◌≡◌, ◌≤◌, ◌<◌, ◌+◌, ℕ, zero, suc, List, [], ◌∷◌, ◌++◌, refl, sym, ap, ◌∙◌, subst, map, length, take, drop, arith, append-nil, IfSome, Some, slice_get, get_or}
use native.Mathlib.Decide.{ℕ_discrete}
use Rattle.std.proofs.Math.Logic.{∥∥₁_elim}
use Rattle.std.proofs.lemmas.List.{length-map}
use Rattle.std.proofs.lemmas.Option.{slice_get-get_or, slice_get_within}
use Rattle.std.specs.List.{All}
use Rattle.std.specs.Coded.{codes}
use Rattle.mms_types.specs.DatumCode.{datum_code}
use Rattle.mms_types.specs.ShapeCode.{shape_code}
use Rattle.mms_types.specs.declared.event.CellEvent.{CellEvent}
use Rattle.cell_pool.specs.Served.{EachIs, IsServed}
use Rattle.part_table.specs.History.{events_of}
use Rattle.mms_device.specs.Shared.{Shared, Caller}
use Rattle.mms_device.specs.Turns.{CanServe, IsFit, MadeOf, events, places}
use Rattle.mms_device.specs.declared.turns.CellJob.{CellJob}
use Rattle.cell_record.specs.History.{events_of as acts_of}
use Rattle.cell_run.specs.Jobs.{AreJobsOf}
use Rattle.cell_run.specs.Laying.{Log}
use Rattle.cell_run.specs.Running.{AreReady, AreServed, CanServeAll, HaveServed, IsWhole}

module _ {X : Type 0} where
  pub all_of_each : (P : X → Type 0) (xs : List X) → ((i : ℕ) (x : X) → slice_get xs i ≡ Some x → P x) → All P xs
  all_of_each P xs h = λ k d lt. h k (get_or xs k d) (slice_get-get_or xs k d lt)

  pub slice_there : (xs : List X) (i : ℕ) → i < length xs → (x : X) × (slice_get xs i ≡ Some x)
  slice_there [] i lt = absurd (omega arith)
  slice_there (x ∷ xs) zero lt = (x, refl)
  slice_there (x ∷ xs) (suc i) lt = slice_there xs i (omega arith)

  -- what holds of each before a place, and of the one there
  pub each_more : (P : X → Type 0) (xs : List X) (n : ℕ) (y : X) → n < length xs → y ≡ get_or xs n y → ((i : ℕ) (x : X) → i < n → slice_get xs i ≡ Some x → P x) → P y
      → (i : ℕ) (x : X) → i < n + 1 → slice_get xs i ≡ Some x → P x
  each_more P xs n y lt is before here i x below at = by (ℕ_discrete i n)
    where
      by : Dec (i ≡ n) → P x
      by (yes e) = let same : y ≡ x = cc (sym (slice_get-get_or xs n y lt ∙ ap (λ z. Some z) (sym is)) ∙ ap (slice_get xs) (sym e) ∙ at) in subst P same here
      by (no ne) = before i x (omega arith) at

  pub map_there : {Y : Type 0} (f : X → Y) (xs : List X) (i : ℕ) (y : Y) → slice_get (map f xs) i ≡ Some y → (x : X) × (slice_get xs i ≡ Some x) × (y ≡ f x)
  map_there f [] i y at = absurd (cc at)
  map_there f (x ∷ xs) zero y at = let e : f x ≡ y = cc at in (x, refl, sym e)
  map_there f (x ∷ xs) (suc i) y at = map_there f xs i y at

  drop_here : (xs ys : List X) → drop (length xs) (xs ++ ys) ≡ ys
  drop_here [] ys = refl
  drop_here (x ∷ xs) ys = drop_here xs ys

  drop_all : (n : ℕ) (xs : List X) → length xs ≤ n → drop n xs ≡ []
  drop_all zero [] le = refl
  drop_all zero (x ∷ xs) le = absurd (omega arith)
  drop_all (suc n) [] le = refl
  drop_all (suc n) (x ∷ xs) le = drop_all n xs (omega arith)

  take_all : (n : ℕ) (xs : List X) → length xs ≤ n → take n xs ≡ xs
  take_all zero [] le = refl
  take_all zero (x ∷ xs) le = absurd (omega arith)
  take_all (suc n) [] le = refl
  take_all (suc n) (x ∷ xs) le = ap (λ (l : List X). x ∷ l) (take_all n xs (omega arith))

  -- a vector of which all elements were written
  pub written : (items new : List X) (len : ℕ) → length new ≡ length items → len ≡ length items → take len (new ++ drop (length new) items) ≡ new
  written items new len same is =
      ap (λ (l : List X). take len (new ++ l)) (drop_all (length new) items (omega arith)) ∙ ap (take len) (append-nil new) ∙ take_all len new (omega arith)

-- ---- what turns made of a job

whole_of : (device : Shared) (a b : CellJob) → a.log.items ≡ [] → MadeOf a b → IsFit device b → b.rest ≡ [] → IsWhole device a.rest a.pass b.pass b.log.items
whole_of device a b none m f done =
    let s : m.placed ≡ b.log.items = sym (m.log ∙ ap (λ (l : Log). l ++ m.placed) none) in
    record {
      work = m.rest ∙ ap (λ (l : List CellEvent). events m.placed ++ l) done ∙ append-nil (events m.placed) ∙ ap events s;
      own = m.own ∙ ap (λ (l : Log). a.pass.own ++ places l) s;
      known = m.known ∙ ap (λ (l : Log). events_of a.pass.by a.pass.seen ++ events l) s;
      seen = m.seen.1 ∙ ap (λ (l : List (ℕ × CellEvent)). a.pass.seen ++ l) (sym (ap (drop (length a.pass.seen)) m.seen.1 ∙ drop_here a.pass.seen m.seen.0));
      left = subst (λ (l : Log). b.pass.left + length l ≡ a.pass.left) s m.left;
      by = ap (λ (p : Caller). p.by) m.pass;
      of_table = f.serve.of_table;
      idle = f.serve.idle;
    }

abbrev Ended : Shared → CellJob → CellJob → Type 0
Ended device a b = (b.rest ≡ []) × IsWhole device a.rest a.pass b.pass b.log.items

whole_prop : (device : Shared) (given : List CellEvent) (before after : Caller) (log : Log) → IsProp (IsWhole device given before after log)
whole_prop device given before after log = hlevel (codes, datum_code, shape_code)

ended_prop : (device : Shared) (a b : CellJob) → IsProp (Ended device a b)
ended_prop device a b =
    let whole = whole_prop device a.rest a.pass b.pass b.log.items in
    hlevel (codes, datum_code, shape_code, whole)

pub jobs_whole : (device : Shared) (given back : List CellJob) → AreReady device given → IsServed (IsFit device) MadeOf given back → EachIs (λ job. job.rest ≡ []) back
    → AreServed device given back
jobs_whole device given back fit s done i a b at bt =
    let f : ∥ IsFit device b ∥₁ = subst (λ o. IfSome o (λ j. ∥ IsFit device j ∥₁)) bt (s.1 i) in
    let m : ∥ MadeOf a b ∥₁ = subst (λ o. IfSome o (λ j. ∥ MadeOf a j ∥₁)) bt (subst (λ o. IfSome o (λ from. IfSome (slice_get back i) (λ j. ∥ MadeOf from j ∥₁))) at (s.2 i)) in
    let d : ∥ b.rest ≡ [] ∥₁ = subst (λ o. IfSome o (λ (j : CellJob). ∥ j.rest ≡ [] ∥₁)) bt (done i) in
    let none = (fit i a at).1 in
    ∥∥₁_elim f (ended_prop device a b) (λ x. ∥∥₁_elim m (ended_prop device a b) (λ y. ∥∥₁_elim d (ended_prop device a b) (λ z. (z, whole_of device a b none y x z))))

-- ---- the jobs of passes

pub jobs_fit : (device : Shared) (passes : List Caller) (es : List CellEvent) (jobs : List CellJob) → AreJobsOf es passes jobs → CanServeAll device passes es → AreReady device jobs
jobs_fit device passes es jobs are can i job at =
    let lt = slice_get_within jobs i job at in
    let same = are.count in
    let p = slice_there passes i (omega arith) in
    let j = are.each i p.0 job p.1 at in
    (record { serve = subst (λ (q : Caller). CanServe device q job.rest) (sym j.pass) (subst (CanServe device p.0) (sym j.rest) (can i p.0 p.1)); room = j.room }, j.log)

pub passes_served : (device : Shared) (passes : List Caller) (es : List CellEvent) (jobs back : List CellJob) (after : List Caller) (logs : List Log) → AreJobsOf es passes jobs → length back ≡ length jobs
    → AreServed device jobs back
    → after ≡ map (λ (job : CellJob). job.pass) back → logs ≡ map (λ (job : CellJob). job.log.items) back → HaveServed device passes es after logs
passes_served device passes es jobs back after logs are count whole after_is logs_is = record {
  same = ap length after_is ∙ length-map back (λ (job : CellJob). job.pass) ∙ count ∙ are.count;
  all = ap length logs_is ∙ length-map back (λ (job : CellJob). job.log.items) ∙ count ∙ are.count;
  each = λ i p q log at qt lt. one i p q log at qt lt;
}
  where
    one : (i : ℕ) (p q : Caller) (log : Log) → slice_get passes i ≡ Some p → slice_get after i ≡ Some q → slice_get logs i ≡ Some log → IsWhole device (acts_of i es) p q log
    one i p q log at qt lt =
        let x = map_there (λ (job : CellJob). job.pass) back i q (ap (λ (l : List Caller). slice_get l i) (sym after_is) ∙ qt) in
        let y = map_there (λ (job : CellJob). job.log.items) back i log (ap (λ (l : List Log). slice_get l i) (sym logs_is) ∙ lt) in
        let same : x.0 ≡ y.0 = cc (sym x.1 ∙ y.1) in
        let log_is : x.0.log.items ≡ log = ap (λ (j : CellJob). j.log.items) same ∙ sym y.2 in
        let within = slice_get_within back i x.0 x.1 in
        let a = slice_there jobs i (omega arith) in
        let j = are.each i p a.0 at a.1 in
        let w1 : IsWhole device (acts_of i es) a.0.pass x.0.pass x.0.log.items = subst (λ (l : List CellEvent). IsWhole device l a.0.pass x.0.pass x.0.log.items) j.rest (whole i a.0 x.0 a.1 x.1).1 in
        let w2 : IsWhole device (acts_of i es) p x.0.pass x.0.log.items = subst (λ (r : Caller). IsWhole device (acts_of i es) r x.0.pass x.0.log.items) j.pass w1 in
        let w3 : IsWhole device (acts_of i es) p q x.0.log.items = subst (λ (r : Caller). IsWhole device (acts_of i es) p r x.0.log.items) (sym x.2) w2 in
        subst (IsWhole device (acts_of i es) p q) log_is w3
