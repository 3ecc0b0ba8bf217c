-- What a request for a token makes of a semaphore is what the client is told, and every other entry stays.
use Rattle.std.proofs.Common.{◌≡◌, ◌∙◌, refl, sym, ap, subst, ℕ, ◌+◌, ◌<◌, ◌≤◌, ◌⊎◌, inl, inr, Bool, true, false, not, ◌&&◌, ◌==◌, nat_lt, if◌then◌else◌, cond, List, [], ◌∷◌, ◌++◌, find, length, Option, None, Some, is_none, is_some, Result, Ok, arith}
use Rattle.std.proofs.lemmas.Bool.{eqb-true}
use Rattle.std.proofs.lemmas.Bool.Decides.{nat_tests}
use Rattle.mms_types.proofs.Conditions.{none_holds}
use Rattle.mms_types.specs.Errors.{first_of, object_non_existent, object_state_conflict, timeout}
use Rattle.mms_types.specs.declared.moment.Moment.{Moment}
use Rattle.mms_types.specs.declared.semaphore.TakeControl.{TakeControl}
use Rattle.mms_types.specs.declared.semaphore.TakeControlAnswer.TheVariants.{NoResult}
use Rattle.mms_types.specs.declared.service_error.ServiceError.{ServiceError}
use Rattle.pool_sem.proofs.Taking.{outcome-gets}
use Rattle.pool_sem.specs.Pools as pool
use Rattle.pool_sem.specs.Pools.{suits}
use Rattle.pool_sem.specs.declared.outcome.PoolOutcome.{PoolOutcome}
use Rattle.pool_sem.specs.declared.outcome.PoolOutcome.TheVariants as comes_to
use Rattle.token_sem.proofs.Keeping.{Among, among-find, among-least, different, rises-above, rises-without, same_number}
use Rattle.token_sem.proofs.Serving.{numbered-at}
use Rattle.token_sem.specs.Semaphore.{Rises, Sem, after, answer_of, deadline_after, effect_of, entry_of, grant_to, has_claim, has_token, hung_to_preempt, is_hung, numbered, outcome, outcome_later, outcome_now, tokens_held, without}
use Rattle.token_sem.specs.declared.entry.Ask.{Ask}
use Rattle.token_sem.specs.declared.entry.Grant.{Grant}
use Rattle.token_sem.specs.declared.entry.TakeOutcome.{TakeOutcome}
use Rattle.token_sem.specs.declared.entry.TakeOutcome.TheVariants.{Gets, Preempts, Refused, TimesOut, WaitsForEver, WaitsUntil}
use Rattle.token_sem.specs.declared.entry.SemEntry.{SemEntry}
use Rattle.token_sem.specs.declared.entry.SemState.TheVariants.{Owner, Queued}
use Rattle.token_sem.specs.declared.entry.TakeRefused.{TakeRefused}
use Rattle.token_sem.specs.declared.entry.Taken.{Taken}
use Rattle.token_sem.specs.declared.entry.Taken.TheVariants as taken
use Rattle.mms_time.specs.Entered.{IsAnswered, IsTaken, IsWaiting, MayBePreempted}
use Rattle.mms_time.specs.Semaphores.{IsSound, entries_in, made_in}
use Rattle.mms_time.specs.Services.{ask_of, is_missing, is_zero, name_at, named_answer, place_asked, pool_answer, take_conditions_in, take_told_in, with_take}
use Rattle.mms_time.specs.declared.row.Semaphore.{Semaphore}
use Rattle.mms_time.specs.declared.row.Semaphore.TheVariants.{Token, Pool}
use Rattle.mms_time.specs.declared.taking.TakeDone.TheVariants.{Answered, Waits}
use Rattle.mms_time.proofs.Told.{pool_take_told, take_told}

both : (a b : Bool) → a && b ≡ true → (a ≡ true) × (b ≡ true)
both true b e = (refl, e)
both false b e = absurd cc

find_passes : {X : Type 0} (p : X → Bool) (xs : List X) (x : X) → find p xs ≡ Some x → p x ≡ true
find_passes p [] x f = absurd (cc f)
find_passes p (y ∷ xs) x f = by_test (p y) refl f (find_passes p xs x)
  where
    by_test : (b : Bool) → p y ≡ b → cond b (Some y) (find p xs) ≡ Some x → (find p xs ≡ Some x → p x ≡ true) → p x ≡ true
    by_test true t g rest = let same : y ≡ x = cc g in ap p (sym same) ∙ t
    by_test false t g rest = rest g

-- ---- one entry more

in_front : (n : ℕ) (es more : List SemEntry) (e : SemEntry) → numbered n es ≡ Some e → numbered n (es ++ more) ≡ Some e
in_front n [] more e h = absurd (cc h)
in_front n (x ∷ es) more e h = by_test (x.number == n) h (in_front n es more e)
  where
    by_test : (b : Bool) → cond b (Some x) (numbered n es) ≡ Some e → (numbered n es ≡ Some e → numbered n (es ++ more) ≡ Some e) → cond b (Some x) (numbered n (es ++ more)) ≡ Some e
    by_test true k rest = k
    by_test false k rest = rest k

comes_last : (low high : ℕ) (es : List SemEntry) (e : SemEntry) → Rises low es high → high < e.number → numbered e.number (es ++ e ∷ []) ≡ Some e
comes_last low high [] e r above = ap (λ b. cond b (Some e) None) (same_number e.number e.number refl)
comes_last low high (x ∷ es) e r above =
    let under : x.number ≤ high = (rises-above low high (x ∷ es) x r (inl refl)).1 in
    ap (λ b. cond b (Some x) (numbered e.number (es ++ e ∷ []))) (different x.number e.number (omega (arith, under, above))) ∙ comes_last x.number high es e r.1 above

is_old_or_last : (n : ℕ) (es : List SemEntry) (x e : SemEntry) → numbered n (es ++ x ∷ []) ≡ Some e → (numbered n es ≡ Some e) ⊎ (x ≡ e)
is_old_or_last n [] x e h = by_test (x.number == n) h
  where
    by_test : (b : Bool) → cond b (Some x) None ≡ Some e → (numbered n [] ≡ Some e) ⊎ (x ≡ e)
    by_test true k = inr (cc k)
    by_test false k = absurd (cc k)
is_old_or_last n (y ∷ es) x e h = by_test (y.number == n) h (is_old_or_last n es x e)
  where
    by_test : (b : Bool) → cond b (Some y) (numbered n (es ++ x ∷ [])) ≡ Some e → (numbered n (es ++ x ∷ []) ≡ Some e → (numbered n es ≡ Some e) ⊎ (x ≡ e))
        → (cond b (Some y) (numbered n es) ≡ Some e) ⊎ (x ≡ e)
    by_test true k rest = inl k
    by_test false k rest = rest k

-- ---- one entry gone

without_other : (n m : ℕ) (es : List SemEntry) → (n == m) ≡ false → numbered n (without m es) ≡ numbered n es
without_other n m [] d = refl
without_other n m (x ∷ es) d = by_test (x.number == m) refl (without_other n m es d)
  where
    by_test : (b : Bool) → (x.number == m) ≡ b → numbered n (without m es) ≡ numbered n es
        → numbered n (cond (not b) (x ∷ without m es) (without m es)) ≡ cond (x.number == n) (Some x) (numbered n es)
    by_test false t rest = ap (cond (x.number == n) (Some x)) rest
    by_test true t rest =
        let other : (x.number == n) ≡ false = grind (arith, nat_tests) in
        rest ∙ sym (ap (λ b. cond b (Some x) (numbered n es)) other)

without_gone : (m : ℕ) (es : List SemEntry) → numbered m (without m es) ≡ None
without_gone m [] = refl
without_gone m (x ∷ es) = by_test (x.number == m) refl (without_gone m es)
  where
    by_test : (b : Bool) → (x.number == m) ≡ b → numbered m (without m es) ≡ None → numbered m (cond (not b) (x ∷ without m es) (without m es)) ≡ None
    by_test true t rest = rest
    by_test false t rest = ap (λ b. cond b (Some x) (numbered m (without m es))) t ∙ rest

was_there : (n m : ℕ) (es : List SemEntry) (e : SemEntry) → numbered n (without m es) ≡ Some e → numbered n es ≡ Some e
was_there n m es e h = by_test (n == m) refl
  where
    by_test : (b : Bool) → (n == m) ≡ b → numbered n es ≡ Some e
    by_test false t = sym (without_other n m es t) ∙ h
    by_test true t =
        let gone : numbered n (without m es) ≡ None = ap (λ k. numbered k (without m es)) (eqb-true n m t) ∙ without_gone m es in
        absurd (cc (gone, h))

-- the hung entry that goes where a request preempts it
record Preempted (preempt : Option ℕ) (es : List SemEntry) (n : ℕ) : Type 0 where
  hung : SemEntry
  among : Among es hung
  is_so : is_hung hung ≡ true
  client_is : preempt ≡ Some hung.client
  number_is : hung.number ≡ n

stays_but_one : (made n : ℕ) (preempt : Option ℕ) (es : List SemEntry) (x e : SemEntry) → Rises 0 es made → Preempted preempt es n → numbered e.number es ≡ Some e
    → (numbered e.number (without n es ++ x ∷ []) ≡ Some e) ⊎ ((is_hung e ≡ true) × (preempt ≡ Some e.client))
stays_but_one made n preempt es x e rises p h = by_test (e.number == n) refl
  where
    by_test : (b : Bool) → (e.number == n) ≡ b → (numbered e.number (without n es ++ x ∷ []) ≡ Some e) ⊎ ((is_hung e ≡ true) × (preempt ≡ Some e.client))
    by_test false t = inl (in_front e.number (without n es) (x ∷ []) e (without_other e.number n es t ∙ h))
    by_test true t =
        let number : e.number ≡ p.hung.number = eqb-true e.number n t ∙ sym p.number_is in
        let found : numbered e.number es ≡ Some p.hung = ap (λ k. numbered k es) number ∙ numbered-at 0 made es p.hung rises p.among in
        let same : p.hung ≡ e = cc (sym found ∙ h) in
        inr (ap is_hung (sym same) ∙ p.is_so, p.client_is ∙ ap (λ (y : SemEntry). Some y.client) same)

no_other_but_last : (n : ℕ) (es : List SemEntry) (x e : SemEntry) → numbered e.number (without n es ++ x ∷ []) ≡ Some e → (numbered e.number es ≡ Some e) ⊎ (x ≡ e)
no_other_but_last n es x e h = elim (is_old_or_last e.number (without n es) x e h) [ inl k ↦ inl (was_there e.number n es e k) | inr k ↦ inr k ]

-- ---- equal tokens

module _ (s : Sem) (ask : Ask) (now : Moment) where
  hung_named : (preempt : Option ℕ) (o : SemEntry) → hung_to_preempt preempt s.entries ≡ Some o → Preempted preempt s.entries o.number
  hung_named None o h = absurd (cc h)
  hung_named (Some client) o h =
      let f = among-find (λ e. e.client == client && is_hung e) s.entries o h in
      let t = both (o.client == client) (is_hung o) f.1 in
      record { hung = o; among = f.0; is_so = t.1; client_is = ap Some (sym (eqb-true o.client client t.0)); number_is = refl }

  no_later : (delay : Option ℕ) (n : ℕ) → outcome_later delay now ≡ Preempts n → ⊥
  no_later None n h = cc h
  no_later (Some ms) n h = by_test (ms == 0) h
    where
      by_test : (b : Bool) → cond b TimesOut (WaitsUntil (after now ms)) ≡ Preempts n → ⊥
      by_test true g = cc g
      by_test false g = cc g

  preempts_so : (n : ℕ) → outcome s ask now ≡ Preempts n → Preempted ask.preempt s.entries n
  preempts_so n h = by_claim (has_claim ask.client s.entries) h
    where
      by_room : (b : Bool) → cond b Gets (outcome_later ask.delay now) ≡ Preempts n → Preempted ask.preempt s.entries n
      by_room true g = absurd (cc g)
      by_room false g = absurd (no_later ask.delay n g)

      by_hung : (o : Option SemEntry) → hung_to_preempt ask.preempt s.entries ≡ o → outcome_now o s ask.delay now ≡ Preempts n → Preempted ask.preempt s.entries n
      by_hung (Some o) t g = let same : o.number ≡ n = cc g in subst (Preempted ask.preempt s.entries) same (hung_named ask.preempt o t)
      by_hung None t g = by_room (nat_lt (tokens_held s.entries) s.tokens) g

      by_claim : (b : Bool) → cond b Refused (outcome_now (hung_to_preempt ask.preempt s.entries) s ask.delay now) ≡ Preempts n → Preempted ask.preempt s.entries n
      by_claim true g = absurd (cc g)
      by_claim false g = by_hung (hung_to_preempt ask.preempt s.entries) refl g

  each_stays : Rises 0 s.entries s.made → (o : TakeOutcome) → outcome s ask now ≡ o → (e : SemEntry) → numbered e.number s.entries ≡ Some e
      → (numbered e.number (effect_of o s ask now).entries ≡ Some e) ⊎ ((is_hung e ≡ true) × (ask.preempt ≡ Some e.client))
  each_stays rises Refused is e h = inl h
  each_stays rises (Preempts n) is e h = stays_but_one s.made n ask.preempt s.entries (entry_of (s.made + 1) ask Owner (deadline_after now ask.control)) e rises (preempts_so n is) h
  each_stays rises Gets is e h = inl (in_front e.number s.entries _ e h)
  each_stays rises TimesOut is e h = inl h
  each_stays rises (WaitsUntil d) is e h = inl (in_front e.number s.entries _ e h)
  each_stays rises WaitsForEver is e h = inl (in_front e.number s.entries _ e h)

  one_comes : (o : TakeOutcome) (e : SemEntry) → numbered e.number (effect_of o s ask now).entries ≡ Some e → (numbered e.number s.entries ≡ Some e) ⊎ (e.number ≡ s.made + 1)
  one_comes o e h = by_outcome o h
    where
      last : (x : SemEntry) → x.number ≡ s.made + 1 → (numbered e.number s.entries ≡ Some e) ⊎ (x ≡ e) → (numbered e.number s.entries ≡ Some e) ⊎ (e.number ≡ s.made + 1)
      last x is (inl k) = inl k
      last x is (inr k) = inr (ap (λ (y : SemEntry). y.number) (sym k) ∙ is)

      by_outcome : (o : TakeOutcome) → numbered e.number (effect_of o s ask now).entries ≡ Some e → (numbered e.number s.entries ≡ Some e) ⊎ (e.number ≡ s.made + 1)
      by_outcome Refused k = inl k
      by_outcome (Preempts n) k = last (entry_of (s.made + 1) ask Owner (deadline_after now ask.control)) refl (no_other_but_last n s.entries _ e k)
      by_outcome Gets k = last (entry_of (s.made + 1) ask Owner (deadline_after now ask.control)) refl (is_old_or_last e.number s.entries _ e k)
      by_outcome TimesOut k = inl k
      by_outcome (WaitsUntil d) k = last (entry_of (s.made + 1) ask Queued (Some d)) refl (is_old_or_last e.number s.entries _ e k)
      by_outcome WaitsForEver k = last (entry_of (s.made + 1) ask Queued None) refl (is_old_or_last e.number s.entries _ e k)

  -- the new entry
  comes_owner : Rises 0 s.entries s.made → (o : TakeOutcome) (g : Grant) → answer_of o (s.made + 1) ask ≡ Ok (taken.Granted g)
      → numbered (s.made + 1) (effect_of o s ask now).entries ≡ Some (entry_of (s.made + 1) ask Owner (deadline_after now ask.control))
  comes_owner rises Refused g h = absurd (cc h)
  comes_owner rises (Preempts n) g h = comes_last 0 s.made (without n s.entries) (entry_of (s.made + 1) ask Owner (deadline_after now ask.control)) (rises-without 0 s.made n s.entries rises) (omega arith)
  comes_owner rises Gets g h = comes_last 0 s.made s.entries (entry_of (s.made + 1) ask Owner (deadline_after now ask.control)) rises (omega arith)
  comes_owner rises TimesOut g h = absurd (cc h)
  comes_owner rises (WaitsUntil d) g h = absurd (cc h)
  comes_owner rises WaitsForEver g h = absurd (cc h)

  comes_waiter : Rises 0 s.entries s.made → (o : TakeOutcome) (n : ℕ) → answer_of o (s.made + 1) ask ≡ Ok (taken.Waits n)
      → (d : Option Moment) × (numbered (s.made + 1) (effect_of o s ask now).entries ≡ Some (entry_of (s.made + 1) ask Queued d))
  comes_waiter rises Refused n h = absurd (cc h)
  comes_waiter rises (Preempts k) n h = absurd (cc h)
  comes_waiter rises Gets n h = absurd (cc h)
  comes_waiter rises TimesOut n h = absurd (cc h)
  comes_waiter rises (WaitsUntil d) n h = (Some d, comes_last 0 s.made s.entries (entry_of (s.made + 1) ask Queued (Some d)) rises (omega arith))
  comes_waiter rises WaitsForEver n h = (None, comes_last 0 s.made s.entries (entry_of (s.made + 1) ask Queued None) rises (omega arith))

-- a token semaphore's tokens have no names
no_place : (o : Option (List ℕ)) → suits (place_asked o []) None ≡ true
no_place None = refl
no_place (Some name) = refl

no_name : (o : Option (List ℕ)) → NoResult ≡ named_answer (if is_some o then None else name_at None [])
no_name None = refl
no_name (Some name) = refl

token_taken : (s : Sem) (client invoke : ℕ) (asked : TakeControl) (now : Moment) → Rises 0 s.entries s.made → first_of (take_conditions_in client asked (Token s)) ≡ None
    → IsTaken client invoke asked (take_told_in asked (Token s)) (Token s) (with_take client invoke asked now (Token s))
token_taken s client invoke asked now rises none = by_token (has_token asked.preempt s) (take_told s client invoke asked now none)
  where
    ask : Ask
    ask = ask_of client invoke None asked

    by_token : (b : Bool) → answer_of (outcome s ask now) (s.made + 1) ask ≡ Ok (if b then taken.Granted (grant_to (s.made + 1) ask) else taken.Waits (s.made + 1))
        → IsTaken client invoke asked (if b then Answered NoResult else Waits (s.made + 1)) (Token s) (with_take client invoke asked now (Token s))
    by_token true h = record {
      entry = entry_of (s.made + 1) ask Owner (deadline_after now ask.control);
      entered = record {
        found = comes_owner s ask now rises (outcome s ask now) (grant_to (s.made + 1) ask) h;
        number_is = refl;
        client_is = refl;
        invoke_is = refl;
        priority_is = refl;
        token_is = no_place asked.token;
      };
      owns = refl;
      named = no_name asked.token;
    }
    by_token false h =
        let w = comes_waiter s ask now rises (outcome s ask now) (s.made + 1) h in (
          refl,
          record {
            entry = entry_of (s.made + 1) ask Queued w.0;
            entered = record { found = w.1; number_is = refl; client_is = refl; invoke_is = refl; priority_is = refl; token_is = no_place asked.token };
            waits = refl;
          },
        )

-- ---- tokens with names

suits_itself : (o : Option ℕ) → suits o o ≡ true
suits_itself None = refl
suits_itself (Some k) = same_number k k refl

module _ (p : pool.Pool) (ask : Ask) (now : Moment) where
  record Takes (n : ℕ) (k : Option ℕ) : Type 0 where
    is_preempted : Preempted ask.preempt p.entries n
    token_suits : suits ask.token k ≡ true

  pool_hung_named : (preempt : Option ℕ) (o : SemEntry) → pool.hung_to_preempt preempt ask.token p.entries ≡ Some o → Preempted preempt p.entries o.number × (suits ask.token o.token ≡ true)
  pool_hung_named None o h = absurd (cc h)
  pool_hung_named (Some client) o h =
      let f = among-least pool.lower (pool.is_hung_of client ask.token) p.entries o h in
      let t = both (o.client == client && is_hung o) (suits ask.token o.token) f.1 in
      let u = both (o.client == client) (is_hung o) t.0 in
      (record { hung = o; among = f.0; is_so = u.1; client_is = ap Some (sym (eqb-true o.client client u.0)); number_is = refl }, t.1)

  pool_no_later : (delay : Option ℕ) (n : ℕ) (k : Option ℕ) → pool.outcome_later delay now ≡ comes_to.Preempts n k → ⊥
  pool_no_later None n k h = cc h
  pool_no_later (Some ms) n k h = by_test (ms == 0) h
    where
      by_test : (b : Bool) → cond b comes_to.TimesOut (comes_to.WaitsUntil (after now ms)) ≡ comes_to.Preempts n k → ⊥
      by_test true g = cc g
      by_test false g = cc g

  pool_preempts_so : (n : ℕ) (k : Option ℕ) → pool.outcome p ask now ≡ comes_to.Preempts n k → Takes n k
  pool_preempts_so n k h = by_claim (pool.has_claim ask.client ask.token p.entries) h
    where
      by_free : (f : Option ℕ) → pool.outcome_free f ask.delay now ≡ comes_to.Preempts n k → Takes n k
      by_free (Some u) g = absurd (cc g)
      by_free None g = absurd (pool_no_later ask.delay n k g)

      by_hung : (o : Option SemEntry) → pool.hung_to_preempt ask.preempt ask.token p.entries ≡ o → pool.outcome_now o p ask now ≡ comes_to.Preempts n k → Takes n k
      by_hung (Some o) t g =
          let number : o.number ≡ n = cc g in
          let token : o.token ≡ k = cc g in
          let is = pool_hung_named ask.preempt o t in
          record { is_preempted = subst (Preempted ask.preempt p.entries) number is.0; token_suits = subst (λ (u : Option ℕ). suits ask.token u ≡ true) token is.1 }
      by_hung None t g = by_free (pool.free_token ask.token (length p.tokens) p.entries) g

      by_claim : (b : Bool) → cond b comes_to.Refused (pool.outcome_now (pool.hung_to_preempt ask.preempt ask.token p.entries) p ask now) ≡ comes_to.Preempts n k → Takes n k
      by_claim true g = absurd (cc g)
      by_claim false g = by_hung (pool.hung_to_preempt ask.preempt ask.token p.entries) refl g

  gets_so : (t : ℕ) → pool.outcome p ask now ≡ comes_to.Gets t → suits ask.token (Some t) ≡ true
  gets_so t h =
      let f = find_passes (pool.meets ask.token p.entries) _ t (outcome-gets p ask now t h) in
      (both (suits ask.token (Some t)) (pool.is_free t p.entries) f).0

  pool_each_stays : Rises 0 p.entries p.made → (o : PoolOutcome) → pool.outcome p ask now ≡ o → (e : SemEntry) → numbered e.number p.entries ≡ Some e
      → (numbered e.number (pool.effect_of o p ask now).entries ≡ Some e) ⊎ ((is_hung e ≡ true) × (ask.preempt ≡ Some e.client))
  pool_each_stays rises comes_to.Refused is e h = inl h
  pool_each_stays rises (comes_to.Preempts n k) is e h = stays_but_one p.made n ask.preempt p.entries (pool.owner_entry (p.made + 1) ask k now) e rises (pool_preempts_so n k is).is_preempted h
  pool_each_stays rises (comes_to.Gets t) is e h = inl (in_front e.number p.entries _ e h)
  pool_each_stays rises comes_to.TimesOut is e h = inl h
  pool_each_stays rises (comes_to.WaitsUntil d) is e h = inl (in_front e.number p.entries _ e h)
  pool_each_stays rises comes_to.WaitsForEver is e h = inl (in_front e.number p.entries _ e h)

  pool_one_comes : (o : PoolOutcome) (e : SemEntry) → numbered e.number (pool.effect_of o p ask now).entries ≡ Some e → (numbered e.number p.entries ≡ Some e) ⊎ (e.number ≡ p.made + 1)
  pool_one_comes o e h = by_outcome o h
    where
      last : (x : SemEntry) → x.number ≡ p.made + 1 → (numbered e.number p.entries ≡ Some e) ⊎ (x ≡ e) → (numbered e.number p.entries ≡ Some e) ⊎ (e.number ≡ p.made + 1)
      last x is (inl k) = inl k
      last x is (inr k) = inr (ap (λ (y : SemEntry). y.number) (sym k) ∙ is)

      by_outcome : (o : PoolOutcome) → numbered e.number (pool.effect_of o p ask now).entries ≡ Some e → (numbered e.number p.entries ≡ Some e) ⊎ (e.number ≡ p.made + 1)
      by_outcome comes_to.Refused k = inl k
      by_outcome (comes_to.Preempts n t) k = last (pool.owner_entry (p.made + 1) ask t now) refl (no_other_but_last n p.entries _ e k)
      by_outcome (comes_to.Gets t) k = last (pool.owner_entry (p.made + 1) ask (Some t) now) refl (is_old_or_last e.number p.entries _ e k)
      by_outcome comes_to.TimesOut k = inl k
      by_outcome (comes_to.WaitsUntil d) k = last (pool.queued_entry (p.made + 1) ask (Some d)) refl (is_old_or_last e.number p.entries _ e k)
      by_outcome comes_to.WaitsForEver k = last (pool.queued_entry (p.made + 1) ask None) refl (is_old_or_last e.number p.entries _ e k)

-- which name is told
told_name : (o : Option (List ℕ)) (tokens : List (List ℕ)) (t : Option ℕ) → is_missing o tokens ≡ false → name_at (pool.token_told (place_asked o tokens) t) tokens ≡ (if is_some o then None else name_at t tokens)
told_name None tokens t h = refl
told_name (Some name) tokens t h = by_place (pool.place_of name tokens) h
  where
    by_place : (k : Option ℕ) → is_none k ≡ false → name_at (pool.token_told k t) tokens ≡ None
    by_place None g = absurd (cc g)
    by_place (Some k) g = refl

-- the token that an answer names
abbrev granted_token : Result Taken TakeRefused → Option ℕ
granted_token (Ok (taken.Granted g)) = g.token
granted_token other = None

module _ (p : pool.Pool) (client invoke : ℕ) (asked : TakeControl) (now : Moment) (rises : Rises 0 p.entries p.made) (none : first_of (take_conditions_in client asked (Pool p)) ≡ None) where
  abbrev asks : Ask
  asks = ask_of client invoke (place_asked asked.token p.tokens) asked

  known : is_missing asked.token p.tokens ≡ false
  known =
      let last : List (Bool × ServiceError) =
      (pool.has_claim client (place_asked asked.token p.tokens) p.entries, object_state_conflict)
      ∷ (not (pool.has_token asked.preempt (place_asked asked.token p.tokens) p) && is_zero asked.delay, timeout) ∷ [] in
      (none_holds (is_missing asked.token p.tokens) object_non_existent last none).0

  pool_owner : (o : PoolOutcome) (g : Option ℕ) → pool.outcome p asks now ≡ o → pool.answer_of o (p.made + 1) asks ≡ Ok (taken.Granted (pool.grant_to (p.made + 1) asks g))
      → IsAnswered client invoke (p.made + 1) asked (named_answer (name_at (pool.token_told (place_asked asked.token p.tokens) g) p.tokens)) (Pool (pool.effect_of o p asks now))
  pool_owner o g is h = by_outcome o is h
    where
      named_so : (t : Option ℕ) → pool.token_told (place_asked asked.token p.tokens) t ≡ pool.token_told (place_asked asked.token p.tokens) g
          → named_answer (name_at (pool.token_told (place_asked asked.token p.tokens) g) p.tokens) ≡ named_answer (if is_some asked.token then None else name_at t p.tokens)
      named_so t e =
          ap (λ (u : Option ℕ). named_answer (name_at u p.tokens)) (sym e) ∙ ap named_answer (told_name asked.token p.tokens t known)

      by_outcome : (o : PoolOutcome) → pool.outcome p asks now ≡ o → pool.answer_of o (p.made + 1) asks ≡ Ok (taken.Granted (pool.grant_to (p.made + 1) asks g))
          → IsAnswered client invoke (p.made + 1) asked (named_answer (name_at (pool.token_told (place_asked asked.token p.tokens) g) p.tokens)) (Pool (pool.effect_of o p asks now))
      by_outcome comes_to.Refused is h = absurd (cc h)
      by_outcome (comes_to.Preempts n t) is h = record {
        entry = pool.owner_entry (p.made + 1) asks t now;
        entered = record {
          found = comes_last 0 p.made (without n p.entries) (pool.owner_entry (p.made + 1) asks t now) (rises-without 0 p.made n p.entries rises) (omega arith);
          number_is = refl;
          client_is = refl;
          invoke_is = refl;
          priority_is = refl;
          token_is = (pool_preempts_so p asks now n t is).token_suits;
        };
        owns = refl;
        named = named_so t (ap granted_token h);
      }
      by_outcome (comes_to.Gets t) is h = record {
        entry = pool.owner_entry (p.made + 1) asks (Some t) now;
        entered = record {
          found = comes_last 0 p.made p.entries (pool.owner_entry (p.made + 1) asks (Some t) now) rises (omega arith);
          number_is = refl;
          client_is = refl;
          invoke_is = refl;
          priority_is = refl;
          token_is = gets_so p asks now t is;
        };
        owns = refl;
        named = named_so (Some t) (ap granted_token h);
      }
      by_outcome comes_to.TimesOut is h = absurd (cc h)
      by_outcome (comes_to.WaitsUntil d) is h = absurd (cc h)
      by_outcome comes_to.WaitsForEver is h = absurd (cc h)

  pool_waiter : (o : PoolOutcome) → pool.answer_of o (p.made + 1) asks ≡ Ok (taken.Waits (p.made + 1)) → IsWaiting client invoke (p.made + 1) asked (Pool (pool.effect_of o p asks now))
  pool_waiter comes_to.Refused h = absurd (cc h)
  pool_waiter (comes_to.Preempts n t) h = absurd (cc h)
  pool_waiter (comes_to.Gets t) h = absurd (cc h)
  pool_waiter comes_to.TimesOut h = absurd (cc h)
  pool_waiter (comes_to.WaitsUntil d) h = record {
    entry = pool.queued_entry (p.made + 1) asks (Some d);
    entered = record {
      found = comes_last 0 p.made p.entries (pool.queued_entry (p.made + 1) asks (Some d)) rises (omega arith);
      number_is = refl;
      client_is = refl;
      invoke_is = refl;
      priority_is = refl;
      token_is = suits_itself (place_asked asked.token p.tokens);
    };
    waits = refl;
  }
  pool_waiter comes_to.WaitsForEver h = record {
    entry = pool.queued_entry (p.made + 1) asks None;
    entered = record {
      found = comes_last 0 p.made p.entries (pool.queued_entry (p.made + 1) asks None) rises (omega arith);
      number_is = refl;
      client_is = refl;
      invoke_is = refl;
      priority_is = refl;
      token_is = suits_itself (place_asked asked.token p.tokens);
    };
    waits = refl;
  }

  pool_taken : IsTaken client invoke asked (take_told_in asked (Pool p)) (Pool p) (with_take client invoke asked now (Pool p))
  pool_taken = by_token (pool.has_token asked.preempt (place_asked asked.token p.tokens) p) (pool_take_told p client invoke asked now none)
    where
      by_token : (b : Bool)
          → pool.answer_of (pool.outcome p asks now) (p.made + 1) asks
          ≡ Ok (if b then taken.Granted (pool.grant_to (p.made + 1) asks (pool.token_got asked.preempt (place_asked asked.token p.tokens) p)) else taken.Waits (p.made + 1))
          → IsTaken client invoke asked (if b then Answered (pool_answer asked.preempt (place_asked asked.token p.tokens) p) else Waits (p.made + 1)) (Pool p) (with_take client invoke asked now (Pool p))
      by_token true h = pool_owner (pool.outcome p asks now) (pool.token_got asked.preempt (place_asked asked.token p.tokens) p) refl h
      by_token false h = (refl, pool_waiter (pool.outcome p asks now) h)

-- ---- either

pub is_taken : (s : Semaphore) (client invoke : ℕ) (asked : TakeControl) (now : Moment) → IsSound s → first_of (take_conditions_in client asked s) ≡ None
    → IsTaken client invoke asked (take_told_in asked s) s (with_take client invoke asked now s)
is_taken (Token s) client invoke asked now sound none = token_taken s client invoke asked now sound.rises none
is_taken (Pool p) client invoke asked now sound none = pool_taken p client invoke asked now sound.rises none

pub stays : (s : Semaphore) (client invoke : ℕ) (asked : TakeControl) (now : Moment) (e : SemEntry) → IsSound s → numbered e.number (entries_in s) ≡ Some e
    → (numbered e.number (entries_in (with_take client invoke asked now s)) ≡ Some e) ⊎ MayBePreempted asked e
stays (Token s) client invoke asked now e sound h =
    let ask = ask_of client invoke None asked in
    each_stays s ask now sound.rises (outcome s ask now) refl e h
stays (Pool p) client invoke asked now e sound h =
    let ask = ask_of client invoke (place_asked asked.token p.tokens) asked in
    pool_each_stays p ask now sound.rises (pool.outcome p ask now) refl e h

pub no_other : (s : Semaphore) (client invoke : ℕ) (asked : TakeControl) (now : Moment) (e : SemEntry) → numbered e.number (entries_in (with_take client invoke asked now s)) ≡ Some e
    → (numbered e.number (entries_in s) ≡ Some e) ⊎ (e.number ≡ made_in s + 1)
no_other (Token s) client invoke asked now e h =
    let ask = ask_of client invoke None asked in
    one_comes s ask now (outcome s ask now) e h
no_other (Pool p) client invoke asked now e h =
    let ask = ask_of client invoke (place_asked asked.token p.tokens) asked in
    pool_one_comes p ask now (pool.outcome p ask now) e h
