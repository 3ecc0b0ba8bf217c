-- Events that are given to jobs.
use Rattle.std.proofs.Common.{◌≡◌, ◌≢◌, ◌≤◌, ◌<◌, ◌+◌, ◌==◌, ◌⊎◌, ℕ, zero, suc, Bool, true, false, if◌then◌else◌, List, [], ◌∷◌, ◌++◌, refl, sym, ap, ◌∙◌, subst, length, length-append, length-set, arith, append-nil, Some, slice_get, set, get_or, eq-eqb, ne_eqb, inl, inr, vec_capacity, Result, Ok, Err, OnOk}
use native.Mathlib.Decide.{ℕ_discrete}
use Rattle.std.proofs.lemmas.Option.{slice_get-get_or, slice_get_within}
use Rattle.mms_types.specs.Actors.{actor_of}
use Rattle.mms_types.specs.declared.event.CellEvent.{CellEvent}
use Rattle.mms_device.specs.Shared.{Caller}
use Rattle.mms_device.specs.declared.turns.CellJob.{CellJob}
use Rattle.cell_record.specs.History.{events_of}
use Rattle.cell_run.specs.Jobs.{AreBelow, AreJobsOf, IsJobOf}
use Rattle.cell_run.proofs.OwnEvents.{set_at, set_else}

-- ---- no events yet

snoc_at : {X : Type 0} (xs : List X) (x : X) (i : ℕ) (y : X) → slice_get (xs ++ x ∷ []) i ≡ Some y → (slice_get xs i ≡ Some y) ⊎ ((i ≡ length xs) × (x ≡ y))
snoc_at [] x zero y at = inr (refl, cc at)
snoc_at [] x (suc i) y at = absurd (cc at)
snoc_at (z ∷ xs) x zero y at = inl at
snoc_at (z ∷ xs) x (suc i) y at = elim (snoc_at xs x i y at) [ inl there ↦ inl there | inr last ↦ inr (ap suc last.0, last.1) ]

-- one more pass
pub jobs_more : (passes : List Caller) (jobs : List CellJob) (p : Caller) (job : CellJob) → AreJobsOf [] passes jobs → job.pass ≡ p → job.rest ≡ [] → job.log.items ≡ [] → AreJobsOf [] (passes ++ p ∷ []) (jobs ++ job ∷ [])
jobs_more passes jobs p job are pass rest log = record {
  count = (let n = are.count in let a = length-append jobs (job ∷ []) in let b = length-append passes (p ∷ []) in omega arith);
  each = λ i q j at jt. by i q j (snoc_at passes p i q at) (snoc_at jobs job i j jt);
}
  where
    by : (i : ℕ) (q : Caller) (j : CellJob) → (slice_get passes i ≡ Some q) ⊎ ((i ≡ length passes) × (p ≡ q)) → (slice_get jobs i ≡ Some j) ⊎ ((i ≡ length jobs) × (job ≡ j)) → IsJobOf i [] q j
    by i q j (inl at) (inl jt) = are.each i q j at jt
    by i q j (inl at) (inr jt) = let lt = slice_get_within passes i q at in let n = are.count in let last = jt.0 in absurd (omega arith)
    by i q j (inr at) (inl jt) = let lt = slice_get_within jobs i j jt in let n = are.count in let last = at.0 in absurd (omega arith)
    by i q j (inr at) (inr jt) =
        subst (λ (k : CellJob). IsJobOf i [] q k) jt.1
        (record { pass = pass ∙ at.1; rest = rest; log = log; room = (let a = ap length rest in let b = ap length log in omega arith) })

-- ---- one event

mine : (a : ℕ) (e : CellEvent) → actor_of e ≡ a → events_of a (e ∷ []) ≡ e ∷ []
mine a e is = ap (λ b. if b then e ∷ [] else []) (eq-eqb (actor_of e) a is)

others : (a : ℕ) (e : CellEvent) → actor_of e ≢ a → events_of a (e ∷ []) ≡ []
others a e ne = ap (λ b. if b then e ∷ [] else []) (ne_eqb (actor_of e) a ne)

acts_append : (a : ℕ) (xs ys : List CellEvent) → events_of a (xs ++ ys) ≡ events_of a xs ++ events_of a ys
acts_append a [] ys = refl
acts_append a (x ∷ xs) ys = by (actor_of x == a) (acts_append a xs ys)
  where
    by : (b : Bool) → events_of a (xs ++ ys) ≡ events_of a xs ++ events_of a ys
        → (if b then x ∷ events_of a (xs ++ ys) else events_of a (xs ++ ys)) ≡ (if b then x ∷ events_of a xs else events_of a xs) ++ events_of a ys
    by true r = ap (λ (l : List CellEvent). x ∷ l) r
    by false r = r

-- its actor's job
given_one : (i : ℕ) (given : List CellEvent) (p : Caller) (e : CellEvent) (old new : CellJob) → actor_of e ≡ i → IsJobOf i given p old → new.pass ≡ old.pass → new.rest ≡ old.rest ++ e ∷ [] → new.log.items ≡ old.log.items
    → length new.log.items + length new.rest ≤ vec_capacity new.log → IsJobOf i (given ++ e ∷ []) p new
given_one i given p e old new is job pass rest log room = record {
  pass = pass ∙ job.pass;
  rest = rest ∙ ap (λ (l : List CellEvent). l ++ e ∷ []) job.rest ∙ ap (λ (l : List CellEvent). events_of i given ++ l) (sym (mine i e is)) ∙ sym (acts_append i given (e ∷ []));
  log = log ∙ job.log;
  room = room;
}

-- another's
given_other : (i : ℕ) (given : List CellEvent) (p : Caller) (e : CellEvent) (job : CellJob) → actor_of e ≢ i → IsJobOf i given p job → IsJobOf i (given ++ e ∷ []) p job
given_other i given p e job ne is = record {
  pass = is.pass;
  rest = is.rest ∙ sym (acts_append i given (e ∷ []) ∙ ap (λ (l : List CellEvent). events_of i given ++ l) (others i e ne) ∙ append-nil (events_of i given));
  log = is.log;
  room = is.room;
}

pub give_job : {A E : Type 0} (given : List CellEvent) (passes : List Caller) (jobs : List CellJob) (place : ℕ) (d new : CellJob) (e : CellEvent) (r : Result A E) → actor_of e < length jobs → place ≡ actor_of e
    → new.pass ≡ (get_or jobs place d).pass → OnOk r (new.rest ≡ (get_or jobs place d).rest ++ e ∷ []) → new.log.items ≡ (get_or jobs place d).log.items
    → OnOk r (length new.log.items + length new.rest ≤ vec_capacity new.log) → AreJobsOf given passes jobs → OnOk r (AreJobsOf (given ++ e ∷ []) passes (set jobs place new))
give_job given passes jobs place d new e (Err u) lt is pass rest log room are = tt
give_job given passes jobs place d new e (Ok u) lt is pass rest log room are = record {
  count = length-set jobs place new ∙ are.count;
  each = λ i p job at jt. by i p job at jt (ℕ_discrete i place);
}
  where
    by : (i : ℕ) (p : Caller) (job : CellJob) → slice_get passes i ≡ Some p → slice_get (set jobs place new) i ≡ Some job → Dec (i ≡ place) → IsJobOf i (given ++ e ∷ []) p job
    by i p job at jt (yes here) =
        let there : slice_get jobs i ≡ Some (get_or jobs place d) = ap (slice_get jobs) here ∙ slice_get-get_or jobs place d (omega arith) in
        let same : new ≡ job = cc (sym (set_at jobs place new (omega arith)) ∙ ap (slice_get (set jobs place new)) (sym here) ∙ jt) in
        subst (λ (j : CellJob). IsJobOf i (given ++ e ∷ []) p j) same (given_one i given p e (get_or jobs place d) new (omega arith) (are.each i p (get_or jobs place d) at there) pass rest log room)
    by i p job at jt (no ne) =
        given_other i given p e job (λ same. ne (omega arith)) (are.each i p job at (sym (set_else jobs place i new (λ same. ne (sym same))) ∙ jt))

-- ---- and all

pub below_at : (n : ℕ) (all xs ys : List CellEvent) (e : CellEvent) → all ≡ xs ++ e ∷ ys → AreBelow n all → actor_of e < n
below_at n all xs ys e is below = by xs (subst (AreBelow n) is below)
  where
    by : (ws : List CellEvent) → AreBelow n (ws ++ e ∷ ys) → actor_of e < n
    by [] b = b.0
    by (w ∷ ws) b = by ws b.1
