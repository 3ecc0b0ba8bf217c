-- What a request for a token does keeps what holds of a pool.
use Rattle.std.proofs.Common.{◌≡◌, ℕ, ◌+◌, ◌<◌, ◌≤◌, Bool, true, false, not, cond, ◌==◌, ◌&&◌, List, [], ◌∷◌, ◌++◌, length, Option, None, Some, refl, sym, ◌∙◌, ap, subst, arith}
use Rattle.std.specs.Prelude.{count_by, nat_lt}
use Rattle.std.proofs.lemmas.List.Elements.{filter-append}
use Rattle.std.proofs.lemmas.Bool.Decides.{nat_tests}
use Rattle.mms_types.specs.declared.moment.Moment.{Moment}
use Rattle.token_sem.specs.declared.entry.Ask.{Ask}
use Rattle.token_sem.specs.declared.entry.SemEntry.{SemEntry}
use Rattle.token_sem.specs.declared.entry.SemState.{SemState}
use Rattle.token_sem.specs.declared.entry.SemState.TheVariants.{Queued, Owner, Hung}
use Rattle.token_sem.specs.Semaphore.{is_queued_state, is_hung_state, holds, Rises, without, after}
use Rattle.token_sem.proofs.Keeping.{Among, among-least, rises-above, rises-without}
use Rattle.token_sem.proofs.Taking.{rises-push}
use Rattle.pool_sem.specs.declared.outcome.PoolOutcome.{PoolOutcome}
use Rattle.pool_sem.specs.declared.outcome.PoolOutcome.TheVariants.{Refused, Preempts, Gets, TimesOut, WaitsUntil, WaitsForEver}
use Rattle.pool_sem.specs.Pools.{Pool, IsPool, has, wants, suits, lower, is_hung_of, hung_to_preempt, has_claim, free_token, is_place, outcome, outcome_now, outcome_free, outcome_later, effect_of, after_take, owner_entry, queued_entry}
use Rattle.pool_sem.proofs.Counting.{weight, weight-yes, weight-no, weight-most, count-push, none-among}
use Rattle.pool_sem.proofs.Freeing.{Fair, Vacant, fair, is-pool, unplaced, same-token, holder-has, holder-lacks, token-there, vacated, vacant-free}
use Rattle.pool_sem.proofs.Finding.{free-found, free-missing}

-- a new owner of a token that nobody has
pub pushed-owner : (count number t : ℕ) (es : List SemEntry) (ask : Ask) (now : Moment) → Vacant count t es → Fair count (es ++ owner_entry number ask (Some t) now ∷ [])
pushed-owner count number t es ask now v =
    let comes = λ (p : SemEntry → Bool). count-push p es (owner_entry number ask (Some t) now) in
    let placed : count_by (unplaced count) es ≡ 0 = v.placed in
    let within : nat_lt t count ≡ true = (let lt : t < count = v.within in grind (arith, nat_tests)) in
    let there : weight (unplaced count) (owner_entry number ask (Some t) now) ≡ 0 = weight-no (unplaced count) (owner_entry number ask (Some t) now) (ap (λ b. not (b && true)) within) in
    record {
      placed = omega (arith, comes (unplaced count), placed, there);
      once = λ u. once u (u == t) refl (comes (has u));
      served = λ u below z. served u (u == t) refl below z (comes (has u)) (comes (wants u));
    }
  where
    once : (u : ℕ) (b : Bool) → (u == t) ≡ b → count_by (has u) (es ++ owner_entry number ask (Some t) now ∷ []) ≡ count_by (has u) es + weight (has u) (owner_entry number ask (Some t) now)
        → count_by (has u) (es ++ owner_entry number ask (Some t) now ∷ []) ≤ 1
    once u true d e =
        let z : count_by (has u) es ≡ 0 = subst (λ w. count_by (has w) es ≡ 0) (sym (same-token u t d)) v.none in
        let one : weight (has u) (owner_entry number ask (Some t) now) ≤ 1 = weight-most (has u) (owner_entry number ask (Some t) now) in
        omega (arith, e, z, one)
    once u false d e =
        let lacks : weight (has u) (owner_entry number ask (Some t) now) ≡ 0 = weight-no (has u) (owner_entry number ask (Some t) now) (holder-lacks t u (owner_entry number ask (Some t) now) refl refl d) in
        let most : count_by (has u) es ≤ 1 = v.once u in
        omega (arith, e, lacks, most)

    served : (u : ℕ) (b : Bool) → (u == t) ≡ b → u < count → count_by (has u) (es ++ owner_entry number ask (Some t) now ∷ []) ≡ 0
        → count_by (has u) (es ++ owner_entry number ask (Some t) now ∷ []) ≡ count_by (has u) es + weight (has u) (owner_entry number ask (Some t) now)
        → count_by (wants u) (es ++ owner_entry number ask (Some t) now ∷ []) ≡ count_by (wants u) es + weight (wants u) (owner_entry number ask (Some t) now)
        → count_by (wants u) (es ++ owner_entry number ask (Some t) now ∷ []) ≡ 0
    served u true d below z e w =
        let one : weight (has u) (owner_entry number ask (Some t) now) ≡ 1 = weight-yes (has u) (owner_entry number ask (Some t) now) (holder-has u (owner_entry number ask (Some t) now) refl (ap Some (sym (same-token u t d)))) in
        absurd (omega (arith, z, e, one))
    served u false d below z e w =
        let z_before : count_by (has u) es ≡ 0 = omega (arith, z, e) in
        let none : count_by (wants u) es ≡ 0 = v.others u below d z_before in
        let not_it : weight (wants u) (owner_entry number ask (Some t) now) ≡ 0 = refl in
        omega (arith, w, none, not_it)

-- a new waiter, where no token that suits it is free
pub pushed-waiter : (count number : ℕ) (es : List SemEntry) (ask : Ask) (deadline : Option Moment) → Fair count es → is_place count ask.token ≡ true
    → free_token ask.token count es ≡ None → Fair count (es ++ queued_entry number ask deadline ∷ [])
pushed-waiter count number es ask deadline f there missing =
    let comes = λ (p : SemEntry → Bool). count-push p es (queued_entry number ask deadline) in
    let placed : count_by (unplaced count) es ≡ 0 = f.placed in
    let is_there : weight (unplaced count) (queued_entry number ask deadline) ≡ 0 = weight-no (unplaced count) (queued_entry number ask deadline) (ap (λ b. not (b && true)) there) in
    record {
      placed = omega (arith, comes (unplaced count), placed, is_there);
      once = λ u.
          let most : count_by (has u) es ≤ 1 = f.once u in
          let lacks : weight (has u) (queued_entry number ask deadline) ≡ 0 = refl in
          omega (arith, comes (has u), most, lacks);
      served = λ u below z.
          let lacks : weight (has u) (queued_entry number ask deadline) ≡ 0 = refl in
          let z_before : count_by (has u) es ≡ 0 = omega (arith, z, comes (has u), lacks) in
          let none : count_by (wants u) es ≡ 0 = f.served u below z_before in
          let no : weight (wants u) (queued_entry number ask deadline) ≡ 0 = weight-no (wants u) (queued_entry number ask deadline) (free-missing ask.token count u es missing below z_before) in
          omega (arith, comes (wants u), none, no);
    }

-- what each outcome shows

later-gets : (delay : Option ℕ) (now : Moment) (t : ℕ) → outcome_later delay now ≡ Gets t → ⊥
later-gets None now t h = cc h
later-gets (Some ms) now t h = by_test (ms == 0) h
  where
    by_test : (b : Bool) → cond b TimesOut (WaitsUntil (after now ms)) ≡ Gets t → ⊥
    by_test true g = cc g
    by_test false g = cc g

later-preempts : (delay : Option ℕ) (now : Moment) (n : ℕ) (k : Option ℕ) → outcome_later delay now ≡ Preempts n k → ⊥
later-preempts None now n k h = cc h
later-preempts (Some ms) now n k h = by_test (ms == 0) h
  where
    by_test : (b : Bool) → cond b TimesOut (WaitsUntil (after now ms)) ≡ Preempts n k → ⊥
    by_test true g = cc g
    by_test false g = cc g

pub outcome-gets : (p : Pool) (ask : Ask) (now : Moment) (t : ℕ) → outcome p ask now ≡ Gets t → free_token ask.token (length p.tokens) p.entries ≡ Some t
outcome-gets p ask now t h = by_claim (has_claim ask.client ask.token p.entries) h
  where
    by_free : (k : Option ℕ) → outcome_free k ask.delay now ≡ Gets t → k ≡ Some t
    by_free (Some u) g = let same : u ≡ t = cc g in ap Some same
    by_free None g = absurd (later-gets ask.delay now t g)

    by_hung : (o : Option SemEntry) → outcome_now o p ask now ≡ Gets t → free_token ask.token (length p.tokens) p.entries ≡ Some t
    by_hung (Some o) g = absurd (cc g)
    by_hung None g = by_free (free_token ask.token (length p.tokens) p.entries) g

    by_claim : (b : Bool) → cond b Refused (outcome_now (hung_to_preempt ask.preempt ask.token p.entries) p ask now) ≡ Gets t → free_token ask.token (length p.tokens) p.entries ≡ Some t
    by_claim true g = absurd (cc g)
    by_claim false g = by_hung (hung_to_preempt ask.preempt ask.token p.entries) g

-- one that waits finds no token free that suits it
abbrev pub is_wait : PoolOutcome → Bool
is_wait WaitsForEver = true
is_wait (WaitsUntil d) = true
is_wait other = false

pub outcome-waits : (p : Pool) (ask : Ask) (now : Moment) → is_wait (outcome p ask now) ≡ true → free_token ask.token (length p.tokens) p.entries ≡ None
outcome-waits p ask now h = by_claim (has_claim ask.client ask.token p.entries) h
  where
    by_free : (k : Option ℕ) → is_wait (outcome_free k ask.delay now) ≡ true → k ≡ None
    by_free (Some u) g = absurd (cc g)
    by_free None g = refl

    by_hung : (o : Option SemEntry) → is_wait (outcome_now o p ask now) ≡ true → free_token ask.token (length p.tokens) p.entries ≡ None
    by_hung (Some o) g = absurd (cc g)
    by_hung None g = by_free (free_token ask.token (length p.tokens) p.entries) g

    by_claim : (b : Bool) → is_wait (cond b Refused (outcome_now (hung_to_preempt ask.preempt ask.token p.entries) p ask now)) ≡ true → free_token ask.token (length p.tokens) p.entries ≡ None
    by_claim true g = absurd (cc g)
    by_claim false g = by_hung (hung_to_preempt ask.preempt ask.token p.entries) g

-- a hung entry of that number and that token
pub record HungAt (es : List SemEntry) (n : ℕ) (k : Option ℕ) : Type 0 where
  pub hung : SemEntry
  pub among : Among es hung
  pub is_hung : holds hung ≡ true
  pub number : hung.number ≡ n
  pub token : hung.token ≡ k

hung-holds : (client : ℕ) (asked : Option ℕ) (o : SemEntry) → is_hung_of client asked o ≡ true → holds o ≡ true
hung-holds client asked o h = by_state o.state (o.client == client) h
  where
    by_state : (s : SemState) (b : Bool) → (b && is_hung_state s && suits asked o.token) ≡ true → not (is_queued_state s) ≡ true
    by_state Owner b h = refl
    by_state Hung b h = refl
    by_state Queued true h = absurd (cc h)
    by_state Queued false h = absurd (cc h)

preempted-hung : (client asked : Option ℕ) (es : List SemEntry) (o : SemEntry) → hung_to_preempt client asked es ≡ Some o → HungAt es o.number o.token
preempted-hung None asked es o h = absurd (cc h)
preempted-hung (Some client) asked es o h =
    let is = among-least lower (is_hung_of client asked) es o h in
    record { hung = o; among = is.0; is_hung = hung-holds client asked o is.1; number = refl; token = refl }

pub outcome-preempts : (p : Pool) (ask : Ask) (now : Moment) (n : ℕ) (k : Option ℕ) → outcome p ask now ≡ Preempts n k → HungAt p.entries n k
outcome-preempts p ask now n k h = by_claim (has_claim ask.client ask.token p.entries) h
  where
    by_free : (f : Option ℕ) → outcome_free f ask.delay now ≡ Preempts n k → HungAt p.entries n k
    by_free (Some u) g = absurd (cc g)
    by_free None g = absurd (later-preempts ask.delay now n k g)

    by_hung : (o : Option SemEntry) → hung_to_preempt ask.preempt ask.token p.entries ≡ o → outcome_now o p ask now ≡ Preempts n k → HungAt p.entries n k
    by_hung (Some o) t g =
        let same : o.number ≡ n = cc g in
        let token : o.token ≡ k = cc g in
        let is = preempted-hung ask.preempt ask.token p.entries o t in
        record { hung = is.hung; among = is.among; is_hung = is.is_hung; number = is.number ∙ same; token = is.token ∙ token }
    by_hung None t g = by_free (free_token ask.token (length p.tokens) p.entries) g

    by_claim : (b : Bool) → cond b Refused (outcome_now (hung_to_preempt ask.preempt ask.token p.entries) p ask now) ≡ Preempts n k → HungAt p.entries n k
    by_claim true g = absurd (cc g)
    by_claim false g = by_hung (hung_to_preempt ask.preempt ask.token p.entries) refl g

-- a hung entry goes and a new owner comes, in either order
pub swapped : (p : Pool) (e : SemEntry) (n : ℕ) (k : Option ℕ) → IsPool p → HungAt p.entries n k → e.number ≡ p.made + 1 → without n (p.entries ++ e ∷ []) ≡ without n p.entries ++ e ∷ []
swapped p e n k is h new =
    let low : n ≤ p.made = (let up = (rises-above 0 p.made p.entries h.hung is.rises h.among).1 in let same = h.number in omega arith) in
    let d : (e.number == n) ≡ false = grind (arith, nat_tests) in
    filter-append (λ e. not (e.number == n)) p.entries (e ∷ []) ∙ ap (λ b. without n p.entries ++ cond (not b) (e ∷ []) []) d

-- the new owner has the token of the hung entry
pub preempts : (p : Pool) (ask : Ask) (now : Moment) (n : ℕ) (k : Option ℕ) → IsPool p → HungAt p.entries n k
    → IsPool (record p { made = p.made + 1; entries = without n p.entries ++ owner_entry (p.made + 1) ask k now ∷ [] })
preempts p ask now n k is h =
    let there = token-there (length p.tokens) h.hung (none-among (unplaced (length p.tokens)) p.entries h.hung h.among is.placed) h.is_hung in
    let t : ℕ = there.0 in
    let v : Vacant (length p.tokens) t (without h.hung.number p.entries) = vacated (length p.tokens) p.made p.entries h.hung t is.rises (fair p is) h.among h.is_hung there.1 there.2 in
    let rest : Rises 0 (without h.hung.number p.entries) p.made = rises-without 0 p.made h.hung.number p.entries is.rises in
    let whole : IsPool (record p { made = p.made + 1; entries = without h.hung.number p.entries ++ owner_entry (p.made + 1) ask (Some t) now ∷ [] }) =
    is-pool p (without h.hung.number p.entries ++ owner_entry (p.made + 1) ask (Some t) now ∷ []) (p.made + 1) is
    (rises-push 0 p.made (without h.hung.number p.entries) (owner_entry (p.made + 1) ask (Some t) now) rest refl)
    (pushed-owner (length p.tokens) (p.made + 1) t (without h.hung.number p.entries) ask now v) in
    let with_token : IsPool (record p { made = p.made + 1; entries = without h.hung.number p.entries ++ owner_entry (p.made + 1) ask k now ∷ [] }) =
    subst (λ x. IsPool (record p { made = p.made + 1; entries = without h.hung.number p.entries ++ owner_entry (p.made + 1) ask x now ∷ [] })) (sym there.1 ∙ h.token) whole in
    subst (λ m. IsPool (record p { made = p.made + 1; entries = without m p.entries ++ owner_entry (p.made + 1) ask k now ∷ [] })) h.number with_token

waits : (p : Pool) (ask : Ask) (deadline : Option Moment) → IsPool p → is_place (length p.tokens) ask.token ≡ true → free_token ask.token (length p.tokens) p.entries ≡ None
    → IsPool (record p { made = p.made + 1; entries = p.entries ++ queued_entry (p.made + 1) ask deadline ∷ [] })
waits p ask deadline is there missing =
    is-pool p (p.entries ++ queued_entry (p.made + 1) ask deadline ∷ []) (p.made + 1) is
    (rises-push 0 p.made p.entries (queued_entry (p.made + 1) ask deadline) is.rises refl)
    (pushed-waiter (length p.tokens) (p.made + 1) p.entries ask deadline (fair p is) there missing)

-- a request for a token keeps what holds of a pool
pub took-keeps : (o : PoolOutcome) (p : Pool) (ask : Ask) (now : Moment) → IsPool p → is_place (length p.tokens) ask.token ≡ true → outcome p ask now ≡ o → IsPool (effect_of o p ask now)
took-keeps Refused p ask now is there e = is
took-keeps TimesOut p ask now is there e = is
took-keeps (Gets t) p ask now is there e =
    let free = free-found ask.token (length p.tokens) t p.entries (outcome-gets p ask now t e) in
    is-pool p (p.entries ++ owner_entry (p.made + 1) ask (Some t) now ∷ []) (p.made + 1) is
    (rises-push 0 p.made p.entries (owner_entry (p.made + 1) ask (Some t) now) is.rises refl)
    (pushed-owner (length p.tokens) (p.made + 1) t p.entries ask now (vacant-free (length p.tokens) p.entries t (fair p is) free.0 free.1))
took-keeps (Preempts n k) p ask now is there e = preempts p ask now n k is (outcome-preempts p ask now n k e)
took-keeps (WaitsUntil d) p ask now is there e = waits p ask (Some d) is there (outcome-waits p ask now (ap is_wait e))
took-keeps WaitsForEver p ask now is there e = waits p ask None is there (outcome-waits p ask now (ap is_wait e))

pub take-keeps : (p : Pool) (ask : Ask) (now : Moment) → IsPool p → is_place (length p.tokens) ask.token ≡ true → IsPool (after_take p ask now)
take-keeps p ask now is there = took-keeps (outcome p ask now) p ask now is there refl

pub preempted-state : (p : Pool) (ask : Ask) (now : Moment) (n : ℕ) (k : Option ℕ) (entries : List SemEntry) → IsPool p → outcome p ask now ≡ Preempts n k
    → entries ≡ without n (p.entries ++ owner_entry (p.made + 1) ask k now ∷ []) → record p { made = p.made + 1; entries = entries } ≡ after_take p ask now
preempted-state p ask now n k entries is e items =
    let new = owner_entry (p.made + 1) ask k now in
    let both : entries ≡ without n p.entries ++ new ∷ [] = items ∙ swapped p new n k is (outcome-preempts p ask now n k e) refl in
    let with : List SemEntry → Pool = λ l. record p { made = p.made + 1; entries = l } in
    ap with both ∙ ap (λ o. effect_of o p ask now) (sym e)
