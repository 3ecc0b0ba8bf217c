-- What is marked stays what the entries have.
use Rattle.std.proofs.Common.{◌≡◌, ℕ, ◌+◌, ◌<◌, ◌≤◌, Bool, true, false, not, cond, ◌==◌, ◌&&◌, ◌||◌, List, [], ◌∷◌, ◌++◌, length, Option, None, Some, option_map, refl, sym, ◌∙◌, ap, subst, arith}
use Rattle.std.specs.Prelude.{count_by, nat_eq, nat_lt, is_some, IfSome}
use Rattle.std.specs.Option.{option_eq}
use Rattle.std.specs.List.{list_any}
use Rattle.std.proofs.lemmas.Bool.Decides.{nat_tests}
use Rattle.mms_types.specs.declared.moment.Moment.{Moment}
use Rattle.token_sem.specs.declared.entry.Ask.{Ask}
use Rattle.token_sem.specs.declared.entry.SemEntry.{SemEntry}
use Rattle.token_sem.specs.Semaphore.{Loss, Rises, before, holds, is_owner, is_queued, numbered, owned_by, without}
use Rattle.token_sem.specs.Entries as of_any
use Rattle.token_sem.specs.Entries.{lists_of, after_end}
use Rattle.sem_queue.specs.Rows as q
use Rattle.token_sem.proofs.Keeping.{Among, among-find, among-least, rises-without}
use Rattle.token_sem.proofs.Serving.{numbered-at}
use Rattle.pool_sem.specs.Pools.{IsPool, Pool, after_cancel, after_freeing_of, after_leaving, grant_freeing, grant_leaving, grant_of, granted_to, expired_entry, has, has_claim, is_claim, is_place, lose_one, loss_of, lost_one, names, next, outcome, owner_entry, owner_from, owner_of, queued_entry, wants}
use Rattle.pool_sem.specs.declared.marks.Marks.{Marks}
use Rattle.pool_sem.specs.Marks.{AreMarks, is_marked}
use Rattle.pool_sem.proofs.Counting.{weight, weight-yes, weight-no, count-cons, count-without, count-changed, count-push, none-among, none-any}
use Rattle.pool_sem.proofs.Freeing.{owner-holds, queued-lacks, same-token, token-there, unplaced, wants-queued}
use Rattle.pool_sem.proofs.Taking.{HungAt, outcome-gets, outcome-preempts}
use Rattle.pool_sem.proofs.Finding.{free-found}
use Rattle.pool_sem.proofs.Ends.{count-weaker}
use Rattle.pool_sem.specs.declared.outcome.PoolOutcome.TheVariants.{Gets, Preempts}

-- one passes where the count isn't 0
pub any-counted : (p : SemEntry → Bool) (es : List SemEntry) → list_any p es ≡ nat_lt 0 (count_by p es)
any-counted p [] = refl
any-counted p (e ∷ es) = by_test (p e) refl (any-counted p es)
  where
    by_test : (b : Bool) → p e ≡ b → list_any p es ≡ nat_lt 0 (count_by p es) → (b || list_any p es) ≡ nat_lt 0 (count_by p (e ∷ es))
    by_test true t ih =
        let one : weight p e ≡ 1 = weight-yes p e t in
        let some : 0 < count_by p (e ∷ es) = omega (arith, count-cons p e es, one) in
        let test : nat_lt 0 (count_by p (e ∷ es)) ≡ true = grind (arith, nat_tests) in
        sym test
    by_test false t ih =
        let none : weight p e ≡ 0 = weight-no p e t in
        let same : count_by p (e ∷ es) ≡ count_by p es = omega (arith, count-cons p e es, none) in
        ih ∙ ap (λ n. nat_lt 0 n) (sym same)

pub same-any : (p : SemEntry → Bool) (es fs : List SemEntry) → count_by p fs ≡ count_by p es → list_any p fs ≡ list_any p es
same-any p es fs e = any-counted p fs ∙ ap (λ n. nat_lt 0 n) e ∙ sym (any-counted p es)

any-none : (p : SemEntry → Bool) (es : List SemEntry) → count_by p es ≡ 0 → list_any p es ≡ false
any-none p es z = any-counted p es ∙ ap (λ n. nat_lt 0 n) z

any-push : (p : SemEntry → Bool) (es : List SemEntry) (e : SemEntry) → list_any p (es ++ e ∷ []) ≡ (p e || list_any p es)
any-push p es e = by_test (p e) refl
  where
    by_test : (b : Bool) → p e ≡ b → list_any p (es ++ e ∷ []) ≡ (b || list_any p es)
    by_test true t =
        let one : weight p e ≡ 1 = weight-yes p e t in
        let some : 0 < count_by p (es ++ e ∷ []) = omega (arith, count-push p es e, one) in
        let test : nat_lt 0 (count_by p (es ++ e ∷ [])) ≡ true = grind (arith, nat_tests) in
        any-counted p (es ++ e ∷ []) ∙ test
    by_test false t =
        let none : weight p e ≡ 0 = weight-no p e t in
        same-any p es (es ++ e ∷ []) (omega (arith, count-push p es e, none))

flip-eq : (a b : ℕ) → nat_eq a b ≡ nat_eq b a
flip-eq a b = by_test (a == b) refl
  where
    by_test : (c : Bool) → (a == b) ≡ c → c ≡ (b == a)
    by_test true e = (let n : a ≡ b = grind (arith, nat_tests) in let t : (b == a) ≡ true = grind (arith, nat_tests) in sym t)
    by_test false e = (let t : (b == a) ≡ false = grind (arith, nat_tests) in sym t)

-- a new owner
pub owner-marked : (m n : Marks) (es : List SemEntry) (number t : ℕ) (ask : Ask) (now : Moment) → AreMarks m es
    → ((u : ℕ) → u < 256 → is_marked n u ≡ (nat_eq u t || is_marked m u)) → AreMarks n (es ++ owner_entry number ask (Some t) now ∷ [])
owner-marked m n es number t ask now a h u lt =
    h u lt ∙ ap (λ b. nat_eq u t || b) (a u lt) ∙ ap (λ b. b || list_any (has u) es) (flip-eq u t) ∙ sym (any-push (has u) es (owner_entry number ask (Some t) now))

-- a new waiter
pub waiter-marked : (m : Marks) (es : List SemEntry) (number : ℕ) (ask : Ask) (deadline : Option Moment) → AreMarks m es → AreMarks m (es ++ queued_entry number ask deadline ∷ [])
waiter-marked m es number ask deadline a u lt = a u lt ∙ sym (any-push (has u) es (queued_entry number ask deadline))

-- where as many have each token
same-had : (m : Marks) (es fs : List SemEntry) → AreMarks m es → ((u : ℕ) → count_by (has u) fs ≡ count_by (has u) es) → (u : ℕ) → u < 256 → is_marked m u ≡ list_any (has u) fs
same-had m es fs a h u lt = a u lt ∙ sym (same-any (has u) es fs (h u))

holder-weight : (u : ℕ) (o e : SemEntry) → has u e ≡ has u o → weight (has u) e ≡ weight (has u) o
holder-weight u o e h = ap (λ b. cond {A = ℕ} b 1 0) h

-- a hung entry goes, and a new owner has its token
pub preempted-marked : (m : Marks) (p : Pool) (number n : ℕ) (k : Option ℕ) (ask : Ask) (now : Moment) → IsPool p → HungAt p.entries n k → AreMarks m p.entries
    → AreMarks m (without n p.entries ++ owner_entry number ask k now ∷ [])
preempted-marked m p number n k ask now is h a =
    let goes = λ (test : SemEntry → Bool). count-without test 0 p.made p.entries h.hung is.rises h.among in
    let whole : AreMarks m (without h.hung.number p.entries ++ owner_entry number ask k now ∷ []) =
    same-had m p.entries (without h.hung.number p.entries ++ owner_entry number ask k now ∷ []) a (λ u.
    let same : weight (has u) (owner_entry number ask k now) ≡ weight (has u) h.hung = holder-weight u h.hung (owner_entry number ask k now) (has-same u) in
    omega (arith, count-push (has u) (without h.hung.number p.entries) (owner_entry number ask k now), goes (has u), same)) in
    subst (λ x. AreMarks m (without x p.entries ++ owner_entry number ask k now ∷ [])) h.number whole
  where
    has-same : (u : ℕ) → has u (owner_entry number ask k now) ≡ has u h.hung
    has-same u = ap (λ x. option_eq nat_eq x (Some u)) (sym h.token) ∙ sym (ap (λ b. b && option_eq nat_eq h.hung.token (Some u)) h.is_hung)

-- an entry that has a token goes

has-token : (t u : ℕ) (o : SemEntry) → holds o ≡ true → o.token ≡ Some t → has u o ≡ nat_eq t u
has-token t u o h k = ap (λ b. b && option_eq nat_eq o.token (Some u)) h ∙ ap (λ x. option_eq nat_eq x (Some u)) k

left-at : (m n : Marks) (p : Pool) (o : SemEntry) (t : ℕ) (now : Moment) → IsPool p → Among p.entries o → holds o ≡ true → o.token ≡ Some t → AreMarks m p.entries
    → (first : Option SemEntry) → next t (without o.number p.entries) ≡ first
    → ((u : ℕ) → u < 256 → is_marked n u ≡ ((is_some (option_map (grant_of t) first) || not (nat_eq t u)) && is_marked m u))
    → AreMarks n (granted_to first t now (without o.number p.entries))
left-at m n p o t now is a h k marks None f g u lt = by_token u lt (t == u) refl (g u lt)
  where
    by_token : (u : ℕ) → u < 256 → (b : Bool) → (t == u) ≡ b → is_marked n u ≡ (not (t == u) && is_marked m u) → is_marked n u ≡ list_any (has u) (without o.number p.entries)
    by_token u lt true e r =
        let one : weight (has u) o ≡ 1 = weight-yes (has u) o (has-token t u o h k ∙ e) in
        let most : count_by (has u) p.entries ≤ 1 = is.once u in
        let none : count_by (has u) (without o.number p.entries) ≡ 0 = omega (arith, count-without (has u) 0 p.made p.entries o is.rises a, one, most) in
        r ∙ ap (λ b. not b && is_marked m u) e ∙ sym (any-none (has u) (without o.number p.entries) none)
    by_token u lt false e r =
        let zero_weight : weight (has u) o ≡ 0 = weight-no (has u) o (has-token t u o h k ∙ e) in
        let same : count_by (has u) (without o.number p.entries) ≡ count_by (has u) p.entries = omega (arith, count-without (has u) 0 p.made p.entries o is.rises a, zero_weight) in
        r ∙ ap (λ b. not b && is_marked m u) e ∙ marks u lt ∙ sym (same-any (has u) p.entries (without o.number p.entries) same)
left-at m n p o t now is a h k marks (Some x) f g u lt =
    let rest : Rises 0 (without o.number p.entries) p.made = rises-without 0 p.made o.number p.entries is.rises in
    let among = among-least before (wants t) (without o.number p.entries) x f in
    let waits : is_queued x ≡ true = wants-queued t x among.1 in
    g u lt ∙ same-had m p.entries (granted_to (Some x) t now (without o.number p.entries)) marks (as-many rest among.0 waits) u lt
  where
    as-many : Rises 0 (without o.number p.entries) p.made → Among (without o.number p.entries) x → is_queued x ≡ true
        → (u : ℕ) → count_by (has u) (granted_to (Some x) t now (without o.number p.entries)) ≡ count_by (has u) p.entries
    as-many rest among waits u =
        let comes : count_by (has u) (granted_to (Some x) t now (without o.number p.entries)) + weight (has u) x ≡ count_by (has u) (without o.number p.entries) + weight (has u) (owner_from t now x) =
        count-changed (has u) 0 p.made (owner_from t now) (without o.number p.entries) x rest among in
        let goes = count-without (has u) 0 p.made p.entries o is.rises a in
        let lacked : weight (has u) x ≡ 0 = weight-no (has u) x (queued-lacks u x waits) in
        let same : weight (has u) (owner_from t now x) ≡ weight (has u) o = holder-weight u o (owner_from t now x) (sym (has-token t u o h k)) in
        omega (arith, comes, goes, lacked, same)

pub left-marked : (m n : Marks) (p : Pool) (o : SemEntry) (now : Moment) → IsPool p → Among p.entries o → holds o ≡ true → AreMarks m p.entries
    → ((u : ℕ) → u < 256 → is_marked n u ≡ ((is_some (grant_leaving o p.entries) || not (option_eq nat_eq o.token (Some u))) && is_marked m u))
    → AreMarks n (after_leaving o now p.entries)
left-marked m n p o now is a h marks g =
    let there = token-there (length p.tokens) o (none-among (unplaced (length p.tokens)) p.entries o a is.placed) h in
    let rest : List SemEntry = without o.number p.entries in
    let had : (u : ℕ) → u < 256 → is_marked n u ≡ ((is_some (grant_freeing (Some there.0) (without o.number p.entries)) || not (nat_eq there.0 u)) && is_marked m u) =
    subst (λ (k : Option ℕ). (u : ℕ) → u < 256 → is_marked n u ≡ ((is_some (grant_freeing k (without o.number p.entries)) || not (option_eq nat_eq k (Some u))) && is_marked m u)) there.1 g in
    subst (λ k. AreMarks n (after_freeing_of k now (without o.number p.entries))) (sym there.1)
    (left-at m n p o there.0 now is a h there.1 marks (next there.0 (without o.number p.entries)) refl had)

-- the token of one that goes is one of the first
pub left-place : (p : Pool) (o : SemEntry) → IsPool p → Among p.entries o → holds o ≡ true → is_place 256 o.token ≡ true
left-place p o is a h =
    let there = token-there (length p.tokens) o (none-among (unplaced (length p.tokens)) p.entries o a is.placed) h in
    let below : there.0 < length p.tokens = there.2 in
    let few : length p.tokens ≤ 256 = is.few in
    let lt : nat_lt there.0 256 ≡ true = grind (arith, nat_tests) in
    ap (is_place 256) there.1 ∙ lt

-- an entry that waited goes
pub cancelled-marked : (m : Marks) (p : Pool) (o : SemEntry) → IsPool p → Among p.entries o → is_queued o ≡ true → AreMarks m p.entries → AreMarks m (without o.number p.entries)
cancelled-marked m p o is a q marks = same-had m p.entries (without o.number p.entries) marks (λ u.
    let none : weight (has u) o ≡ 0 = weight-no (has u) o (queued-lacks u o q) in
    omega (arith, count-without (has u) 0 p.made p.entries o is.rises a, none))

pub cancel-marked : (m : Marks) (p : Pool) (number : ℕ) → IsPool p → option_map is_queued (numbered number p.entries) ≡ Some true → AreMarks m p.entries → AreMarks m (without number p.entries)
cancel-marked m p number is f marks = by_entry (numbered number p.entries) refl f
  where
    by_entry : (o : Option SemEntry) → numbered number p.entries ≡ o → option_map is_queued o ≡ Some true → AreMarks m (without number p.entries)
    by_entry None t g = absurd (cc g)
    by_entry (Some o) t g =
        let a = among-find (λ e. e.number == number) p.entries o t in
        let same : o.number ≡ number = same-token o.number number a.1 in
        subst (λ n. AreMarks m (without n p.entries)) same (cancelled-marked m p o is a.0 (cc g) marks)

-- where none waits

pub no-claim : (client : ℕ) (es : List SemEntry) → list_any is_queued es ≡ false → has_claim client None es ≡ false
no-claim client es f =
    let none : count_by is_queued es ≡ 0 = none-any is_queued es f in
    let fewer : count_by (is_claim client None) es ≤ count_by is_queued es = count-weaker (is_claim client None) is_queued queued es in
    any-none (is_claim client None) es (omega (arith, none, fewer))
  where
    by_test : (b c d : Bool) → (b && (c || (d && false))) ≡ true → c ≡ true
    by_test true true d g = refl
    by_test true false true g = absurd (cc g)
    by_test true false false g = absurd (cc g)
    by_test false c d g = absurd (cc g)

    queued : (e : SemEntry) → is_claim client None e ≡ true → is_queued e ≡ true
    queued e g = by_test (e.client == client) (is_queued e) (is_owner e) g

-- a token that is got has a mark
pub gets-place : (p : Pool) (ask : Ask) (now : Moment) (t : ℕ) → IsPool p → outcome p ask now ≡ Gets t → t < 256
gets-place p ask now t is e =
    let free = free-found ask.token (length p.tokens) t p.entries (outcome-gets p ask now t e) in
    let below : t < length p.tokens = free.0 in
    let few : length p.tokens ≤ 256 = is.few in
    omega arith

-- an owner stands among the entries, and has a token
pub owner-stands : (p : Pool) (client : ℕ) (token : Option ℕ) (o : Option SemEntry) → IsPool p → owner_of client token p.entries ≡ o
    → IfSome o (λ e. numbered e.number p.entries ≡ Some e) × IfSome o (λ e. holds e ≡ true)
owner-stands p client token None is f = (tt, tt)
owner-stands p client token (Some o) is f =
    let a = among-find (λ e. owned_by client e && names token e.token) p.entries o f in
    (numbered-at 0 p.made p.entries o is.rises a.0, owner-holds client token o a.1)

-- the entries of a pool are those of tokens that have names

same-place : (count : ℕ) (o : Option ℕ) → q.is_placed count o ≡ is_place count o
same-place count None = refl
same-place count (Some t) = refl

first : (b c : Bool) → not (b && c) ≡ false → b ≡ true
first true c t = refl
first false c t = absurd cc

-- each token that an entry has or wants is there
pub placed-in : (p : Pool) (tokens : Option ℕ) (e : SemEntry) → IsPool p → tokens ≡ Some (length p.tokens) → Among p.entries e → q.is_placed (lists_of tokens) e.token ≡ true
placed-in p tokens e is named a =
    ap (λ (o : Option ℕ). q.is_placed (lists_of o) e.token) named ∙ same-place (length p.tokens) e.token
    ∙ first (is_place (length p.tokens) e.token) (is_queued e || is_some e.token) (none-among (unplaced (length p.tokens)) p.entries e a is.placed)

pub got-in : (p : Pool) (tokens : Option ℕ) (ask : Ask) (now : Moment) (t : ℕ) → IsPool p → tokens ≡ Some (length p.tokens) → outcome p ask now ≡ Gets t → q.is_placed (lists_of tokens) (Some t) ≡ true
got-in p tokens ask now t is named e =
    let free = free-found ask.token (length p.tokens) t p.entries (outcome-gets p ask now t e) in
    let lt : t < length p.tokens = free.0 in
    let below : nat_lt t (length p.tokens) ≡ true = grind (arith, nat_tests) in
    ap (λ (o : Option ℕ). q.is_placed (lists_of o) (Some t)) named ∙ below

pub preempted-in : (p : Pool) (tokens : Option ℕ) (ask : Ask) (now : Moment) (n : ℕ) (k : Option ℕ) → IsPool p → tokens ≡ Some (length p.tokens) → outcome p ask now ≡ Preempts n k → q.is_placed (lists_of tokens) k ≡ true
preempted-in p tokens ask now n k is named e =
    let h = outcome-preempts p ask now n k e in
    ap (q.is_placed (lists_of tokens)) (sym h.token) ∙ placed-in p tokens h.hung is named h.among

pub ended-in : (tokens : Option ℕ) (count : ℕ) (p : Pool) (e : SemEntry) (now : Moment) → tokens ≡ Some count → record p { entries = after_end tokens e now p.entries } ≡ expired_entry (Some e) now p
ended-in tokens count p e now named = ap (λ (o : Option ℕ). record p { entries = after_end o e now p.entries }) named ∙ by_test (is_queued e)
  where
    by_test : (b : Bool) → record p { entries = cond b (without e.number p.entries) (after_leaving e now p.entries) } ≡ cond b (after_cancel p e.number) (record p { entries = after_leaving e now p.entries })
    by_test true = refl
    by_test false = refl

pub loss-in : (tokens : Option ℕ) (count client : ℕ) (now : Moment) (es : List SemEntry) → tokens ≡ Some count → of_any.loss_of tokens client now es ≡ loss_of client now es
loss-in tokens count client now es named = ap (λ (o : Option ℕ). of_any.loss_of o client now es) named

pub lose_one-in : (tokens : Option ℕ) (count client : ℕ) (now : Moment) (l : Loss) → tokens ≡ Some count → of_any.lose_one tokens client now l ≡ lose_one client now l
lose_one-in tokens count client now l named = ap (λ (o : Option ℕ). of_any.lose_one o client now l) named

pub lost_one-in : (tokens : Option ℕ) (count client : ℕ) (es : List SemEntry) → tokens ≡ Some count → of_any.lost_one tokens client es ≡ lost_one client es
lost_one-in tokens count client es named = ap (λ (o : Option ℕ). of_any.lost_one o client es) named
