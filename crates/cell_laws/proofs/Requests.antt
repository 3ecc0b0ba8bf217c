-- What requests for tokens do to the entries that are queued, and to the requests that wait.
use Rattle.std.proofs.Common.{◌≡◌, ℕ, ◌+◌, ◌<◌, ◌≤◌, Bool, true, false, not, cond, ◌==◌, List, [], ◌∷◌, ◌++◌, Option, None, Some, Ok, if◌then◌else◌, refl, sym, ◌∙◌, ap, arith}
use Rattle.std.proofs.lemmas.Bool.Decides.{nat_tests}
use Rattle.mms_types.specs.Errors.{first_of}
use Rattle.mms_types.specs.Order.{key_of, scope_eq}
use Rattle.mms_types.specs.declared.key.Scope.TheVariants.{Association}
use Rattle.mms_types.specs.declared.moment.Moment.{Moment}
use Rattle.mms_types.specs.declared.object_name.ObjectName.{ObjectName}
use Rattle.mms_types.specs.declared.object_name.ObjectName.TheVariants as name
use Rattle.mms_types.specs.declared.semaphore.TakeControl.{TakeControl}
use Rattle.mms_types.specs.declared.semaphore.TakeControlAnswer.TheVariants.{NoResult}
use Rattle.token_sem.specs.declared.entry.Ask.{Ask}
use Rattle.token_sem.specs.declared.entry.TakeOutcome.{TakeOutcome}
use Rattle.token_sem.specs.declared.entry.TakeOutcome.TheVariants.{Refused, Preempts, Gets, TimesOut, WaitsUntil, WaitsForEver}
use Rattle.token_sem.specs.declared.entry.SemEntry.{SemEntry}
use Rattle.token_sem.specs.declared.entry.SemState.TheVariants.{Queued, Owner}
use Rattle.token_sem.specs.declared.entry.Taken.TheVariants as token
use Rattle.token_sem.specs.Semaphore.{Rises, Sem, answer_of, deadline_after, effect_of, entry_of, grant_to, has_token, is_queued, numbered, outcome, without}
use Rattle.token_sem.proofs.Taking.{outcome-preempts}
use Rattle.pool_sem.specs.Pools as pool
use Rattle.pool_sem.specs.declared.outcome.PoolOutcome.{PoolOutcome}
use Rattle.pool_sem.specs.declared.outcome.PoolOutcome.TheVariants as comes_to
use Rattle.pool_sem.proofs.Taking as pool-taking
use Rattle.mms_time.proofs.Told.{pool_take_told, take_told}
use Rattle.mms_time.specs.Semaphores.{IsSound, entries_in, made_in}
use Rattle.mms_time.specs.Services.{ask_of, place_asked, pool_answer, take_conditions_in, take_told_in, with_take}
use Rattle.mms_time.specs.declared.row.Semaphore.{Semaphore}
use Rattle.mms_time.specs.declared.row.Semaphore.TheVariants.{Token, Pool}
use Rattle.mms_time.specs.declared.taking.TakeDone.{TakeDone}
use Rattle.mms_time.specs.declared.taking.TakeDone.TheVariants.{Answered, Waits}
use Rattle.cell_laws.specs.Linked.{asker_of}
use Rattle.cell_laws.proofs.Bound.{nat-same, nat-test}
use Rattle.cell_laws.proofs.Entries.{asker_at, at-head, at-tail, drops-nothing, drops-without, not_queued}

-- ---- one more entry

push-owner : (n : ℕ) (es : List SemEntry) (e : SemEntry) → is_queued e ≡ false → asker_at n (es ++ e ∷ []) ≡ asker_at n es
push-owner n [] e unqueued = by_test (e.number == n)
  where
    by_test : (b : Bool) → asker_of (cond b (Some e) None) ≡ None
    by_test true = ap (λ t. cond t (Some (e.client, e.invoke)) None) unqueued
    by_test false = refl
push-owner n (x ∷ es) e unqueued = by_test (x.number == n) (push-owner n es e unqueued)
  where
    by_test : (b : Bool) → asker_at n (es ++ e ∷ []) ≡ asker_at n es → asker_of (cond b (Some x) (numbered n (es ++ e ∷ []))) ≡ asker_of (cond b (Some x) (numbered n es))
    by_test true ih = refl
    by_test false ih = ih

push-waiter : (low high n : ℕ) (es : List SemEntry) (e : SemEntry) → Rises low es high → high < e.number → is_queued e ≡ true
    → asker_at n (es ++ e ∷ []) ≡ cond (n == e.number) (Some (e.client, e.invoke)) (asker_at n es)
push-waiter low high n [] e rises above queued = by_tests (e.number == n) (n == e.number) refl refl
  where
    by_tests : (a b : Bool) → (e.number == n) ≡ a → (n == e.number) ≡ b → asker_of (cond a (Some e) None) ≡ cond b (Some (e.client, e.invoke)) None
    by_tests true true ea eb = ap (λ t. cond t (Some (e.client, e.invoke)) None) queued
    by_tests false false ea eb = refl
    by_tests true false ea eb = let same : e.number ≡ n = nat-same e.number n ea in absurd (cc (sym (nat-test n e.number (sym same)) ∙ eb))
    by_tests false true ea eb = let same : n ≡ e.number = nat-same n e.number eb in absurd (cc (sym (nat-test e.number n (sym same)) ∙ ea))
push-waiter low high n (x ∷ es) e rises above queued = by_test (x.number == n) refl (push-waiter x.number high n es e rises.1 above queued)
  where
    low-high : (l h : ℕ) (xs : List SemEntry) → Rises l xs h → l ≤ h
    low-high l h [] r = r
    low-high l h (y ∷ xs) r = let a = low-high y.number h xs r.1 in let b = r.0 in omega (arith, a, b)

    by_test : (b : Bool) → (x.number == n) ≡ b → asker_at n (es ++ e ∷ []) ≡ cond (n == e.number) (Some (e.client, e.invoke)) (asker_at n es)
        → asker_at n (x ∷ (es ++ e ∷ [])) ≡ cond (n == e.number) (Some (e.client, e.invoke)) (asker_at n (x ∷ es))
    by_test true en ih =
        let same = nat-same x.number n en in
        let few = low-high x.number high es rises.1 in
        let other : (n == e.number) ≡ false = grind (arith, nat_tests) in
        at-head n x (es ++ e ∷ []) en ∙ sym (at-head n x es en) ∙ sym (ap (λ t. cond t (Some (e.client, e.invoke)) (asker_at n (x ∷ es))) other)
    by_test false en ih = at-tail n x (es ++ e ∷ []) en ∙ ih ∙ ap (cond (n == e.number) (Some (e.client, e.invoke))) (sym (at-tail n x es en))

-- who has a token doesn't wait
holder : (e : SemEntry) → not (is_queued e) ≡ true → is_queued e ≡ false
holder e h = by_test (is_queued e) refl h
  where
    by_test : (b : Bool) → is_queued e ≡ b → not b ≡ true → is_queued e ≡ false
    by_test true k g = absurd (cc g)
    by_test false k g = k

-- ---- TakeControl

module _ (s : Sem) (ask : Ask) (now : Moment) (rises : Rises 0 s.entries s.made) where
  -- a request that has a token at once changes nothing of those that are queued
  has-one : (o : TakeOutcome) → outcome s ask now ≡ o → answer_of o (s.made + 1) ask ≡ Ok (token.Granted (grant_to (s.made + 1) ask))
      → (n : ℕ) → asker_at n (effect_of o s ask now).entries ≡ asker_at n s.entries
  has-one Refused is h n = refl
  has-one (Preempts number) is h n =
      let at = outcome-preempts s ask now number is in
      push-owner n (without number s.entries) (entry_of (s.made + 1) ask Owner (deadline_after now ask.control)) refl
      ∙ drops-nothing number s.entries (without number s.entries)
      (ap (λ m. asker_at m s.entries) (sym at.number) ∙ not_queued s.made s.entries at.hung rises at.among (holder at.hung at.is_hung)) (drops-without number s.entries) n
  has-one Gets is h n = push-owner n s.entries (entry_of (s.made + 1) ask Owner (deadline_after now ask.control)) refl
  has-one TimesOut is h n = refl
  has-one (WaitsUntil deadline) is h n = absurd (cc h)
  has-one WaitsForEver is h n = absurd (cc h)

  waits-one : (o : TakeOutcome) → answer_of o (s.made + 1) ask ≡ Ok (token.Waits (s.made + 1))
      → (n : ℕ) → asker_at n (effect_of o s ask now).entries ≡ cond (n == s.made + 1) (Some (ask.client, ask.invoke)) (asker_at n s.entries)
  waits-one Refused h n = absurd (cc h)
  waits-one (Preempts number) h n = absurd (cc h)
  waits-one Gets h n = absurd (cc h)
  waits-one TimesOut h n = absurd (cc h)
  waits-one (WaitsUntil deadline) h n = push-waiter 0 s.made n s.entries (entry_of (s.made + 1) ask Queued (Some deadline)) rises (omega arith) refl
  waits-one WaitsForEver h n = push-waiter 0 s.made n s.entries (entry_of (s.made + 1) ask Queued None) rises (omega arith) refl

-- the same of a pool
module _ (p : pool.Pool) (ask : Ask) (now : Moment) (rises : Rises 0 p.entries p.made) where
  has-named : (o : PoolOutcome) (g : Option ℕ) → pool.outcome p ask now ≡ o → pool.answer_of o (p.made + 1) ask ≡ Ok (token.Granted (pool.grant_to (p.made + 1) ask g))
      → (n : ℕ) → asker_at n (pool.effect_of o p ask now).entries ≡ asker_at n p.entries
  has-named comes_to.Refused g is h n = refl
  has-named (comes_to.Preempts number k) g is h n =
      let at = pool-taking.outcome-preempts p ask now number k is in
      push-owner n (without number p.entries) (pool.owner_entry (p.made + 1) ask k now) refl
      ∙ drops-nothing number p.entries (without number p.entries)
      (ap (λ m. asker_at m p.entries) (sym at.number) ∙ not_queued p.made p.entries at.hung rises at.among (holder at.hung at.is_hung)) (drops-without number p.entries) n
  has-named (comes_to.Gets t) g is h n = push-owner n p.entries (pool.owner_entry (p.made + 1) ask (Some t) now) refl
  has-named comes_to.TimesOut g is h n = refl
  has-named (comes_to.WaitsUntil deadline) g is h n = absurd (cc h)
  has-named comes_to.WaitsForEver g is h n = absurd (cc h)

  waits-named : (o : PoolOutcome) → pool.answer_of o (p.made + 1) ask ≡ Ok (token.Waits (p.made + 1))
      → (n : ℕ) → asker_at n (pool.effect_of o p ask now).entries ≡ cond (n == p.made + 1) (Some (ask.client, ask.invoke)) (asker_at n p.entries)
  waits-named comes_to.Refused h n = absurd (cc h)
  waits-named (comes_to.Preempts number k) h n = absurd (cc h)
  waits-named (comes_to.Gets t) h n = absurd (cc h)
  waits-named comes_to.TimesOut h n = absurd (cc h)
  waits-named (comes_to.WaitsUntil deadline) h n = push-waiter 0 p.made n p.entries (pool.queued_entry (p.made + 1) ask (Some deadline)) rises (omega arith) refl
  waits-named comes_to.WaitsForEver h n = push-waiter 0 p.made n p.entries (pool.queued_entry (p.made + 1) ask None) rises (omega arith) refl

-- what a request for a token does to a semaphore
abbrev pub Takes : ℕ → ℕ → Moment → TakeControl → Semaphore → TakeDone → Type 0
Takes client invoke now x s (Answered told) = (n : ℕ) → asker_at n (entries_in (with_take client invoke x now s)) ≡ asker_at n (entries_in s)
Takes client invoke now x s (Waits entry) = (entry ≡ made_in s + 1)
    × ((n : ℕ) → asker_at n (entries_in (with_take client invoke x now s)) ≡ cond (n == entry) (Some (client, invoke)) (asker_at n (entries_in s)))

pub takes : (client invoke : ℕ) (now : Moment) (x : TakeControl) (s : Semaphore) → IsSound s → first_of (take_conditions_in client x s) ≡ None
    → Takes client invoke now x s (take_told_in x s)
takes client invoke now x (Token s) is none = by_token (has_token x.preempt s) (take_told s client invoke x now none)
  where
    ask : Ask
    ask = ask_of client invoke None x

    by_token : (b : Bool) → answer_of (outcome s ask now) (s.made + 1) ask ≡ Ok (if b then token.Granted (grant_to (s.made + 1) ask) else token.Waits (s.made + 1))
        → Takes client invoke now x (Token s) (if b then Answered NoResult else Waits (s.made + 1))
    by_token true h = has-one s ask now is.rises (outcome s ask now) refl h
    by_token false h = (refl, waits-one s ask now is.rises (outcome s ask now) h)
takes client invoke now x (Pool p) is none = by_token (pool.has_token x.preempt place p) (pool_take_told p client invoke x now none)
  where
    place : Option ℕ
    place = place_asked x.token p.tokens

    ask : Ask
    ask = ask_of client invoke place x

    by_token : (b : Bool)
        → pool.answer_of (pool.outcome p ask now) (p.made + 1) ask
        ≡ Ok (if b then token.Granted (pool.grant_to (p.made + 1) ask (pool.token_got x.preempt place p)) else token.Waits (p.made + 1))
        → Takes client invoke now x (Pool p) (if b then Answered (pool_answer x.preempt place p) else Waits (p.made + 1))
    by_token true h = has-named p ask now is.rises (pool.outcome p ask now) (pool.token_got x.preempt place p) refl h
    by_token false h = (refl, waits-named p ask now is.rises (pool.outcome p ask now) h)

pub own-name : (client d : ℕ) (asked : ObjectName) → scope_eq (key_of client asked).scope (Association d) ≡ true → client ≡ d
own-name client d (name.Vmd item) h = absurd (cc h)
own-name client d (name.Domain domain item) h = absurd (cc h)
own-name client d (name.Association item) h = nat-same client d h
