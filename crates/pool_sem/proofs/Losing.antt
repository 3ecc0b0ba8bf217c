-- Losing a client keeps what holds of a pool.
use Rattle.std.proofs.Common.{◌≡◌, ℕ, ◌<◌, ◌≤◌, Bool, true, false, not, cond, ◌==◌, ◌&&◌, ◌||◌, List, [], ◌∷◌, ◌++◌, map, filter, fold, length, Option, None, Some, option_to_list, refl, sym, ◌∙◌, ap, arith}
use Rattle.std.specs.Prelude.{count_by, nat_eq, is_some}
use Rattle.std.specs.Option.{option_eq}
use Rattle.std.proofs.lemmas.Bool.Decides.{nat_tests}
use Rattle.mms_types.specs.declared.moment.Moment.{Moment}
use Rattle.token_sem.specs.declared.entry.SemEntry.{SemEntry}
use Rattle.token_sem.specs.declared.entry.SemState.TheVariants.{Hung}
use Rattle.token_sem.specs.Semaphore.{Rises, is_queued, is_owner, holds, without, hung_entry, waits_for, owned_by, Loss}
use Rattle.token_sem.proofs.Keeping.{Among, among-least, rises-lower, rises-above, rises-without}
use Rattle.token_sem.proofs.Losing.{Each, each-owned, rises-filter, waits-queued, among-map, among-filter, among-unique, owner-not_queued, hung-other}
use Rattle.token_sem.proofs.LosingOne.{stays}
use Rattle.token_sem.proofs.Tabled.{owner-is}
use Rattle.token_sem.specs.Semaphore as of_tokens
use Rattle.pool_sem.specs.Pools.{Pool, IsPool, has, wants, is_place, next, owner_from, granted_to, granted_entry, after_freeing, after_freeing_of, after_leaving, grant_leaving, loss_of_one, losing, after_lose, after_lose_one}
use Rattle.pool_sem.proofs.Counting.{weight, rises-changed, count-changed, count-kept, count-fewer}
use Rattle.pool_sem.proofs.Freeing.{is-pool, unplaced, wants-queued, queued-lacks, left}

-- an owner becomes hung with its token
hung-same : (u : ℕ) (o : SemEntry) → holds o ≡ true → has u (record o { state = Hung }) ≡ has u o
hung-same u o h = sym (ap (λ b. b && option_eq nat_eq o.token (Some u)) h)

hung-placed : (count : ℕ) (o : SemEntry) → holds o ≡ true → unplaced count (record o { state = Hung }) ≡ unplaced count o
hung-placed count o h = sym (ap (λ b. not (is_place count o.token && (b || is_some o.token))) (by_test (is_queued o) h))
  where
    by_test : (b : Bool) → not b ≡ true → b ≡ false
    by_test true g = absurd (cc g)
    by_test false g = refl

hung-keeps : (p : Pool) (o : SemEntry) → IsPool p → Among p.entries o → holds o ≡ true → IsPool (record p { entries = map (hung_entry o.number) p.entries })
hung-keeps p o is a h =
    let becomes = λ (test : SemEntry → Bool). count-changed test 0 p.made (λ e. record e { state = Hung }) p.entries o is.rises a in
    let placed : count_by (unplaced (length p.tokens)) p.entries ≡ 0 = is.placed in
    let there : weight (unplaced (length p.tokens)) (record o { state = Hung }) ≡ weight (unplaced (length p.tokens)) o = ap (λ b. cond {A = ℕ} b 1 0) (hung-placed (length p.tokens) o h) in
    is-pool p (map (hung_entry o.number) p.entries) p.made is (rises-changed 0 p.made o.number (λ e. record e { state = Hung }) (λ e. refl) p.entries is.rises) (record {
      placed = omega (arith, becomes (unplaced (length p.tokens)), placed, there);
      once = λ u.
          let most : count_by (has u) p.entries ≤ 1 = is.once u in
          let same : weight (has u) (record o { state = Hung }) ≡ weight (has u) o = ap (λ b. cond {A = ℕ} b 1 0) (hung-same u o h) in
          omega (arith, becomes (has u), most, same);
      served = λ u below z.
          let same : weight (has u) (record o { state = Hung }) ≡ weight (has u) o = ap (λ b. cond {A = ℕ} b 1 0) (hung-same u o h) in
          let z_before : count_by (has u) p.entries ≡ 0 = omega (arith, becomes (has u), z, same) in
          let none : count_by (wants u) p.entries ≡ 0 = is.served u below z_before in
          let not_it : weight (wants u) (record o { state = Hung }) ≡ 0 = refl in
          omega (arith, becomes (wants u), none, not_it);
    })

-- an owner stays where a token is freed
among-freed : (made t : ℕ) (now : Moment) (es : List SemEntry) (o : SemEntry) → Rises 0 es made → Among es o → is_owner o ≡ true → Among (after_freeing t now es) o
among-freed made t now es o r a own = by_next (next t es) refl
  where
    by_next : (m : Option SemEntry) → next t es ≡ m → Among (granted_to m t now es) o
    by_next None f = a
    by_next (Some m) f = among-map (granted_entry m.number t now) es o a (by_test (o.number == m.number) refl)
      where
        by_test : (b : Bool) → (o.number == m.number) ≡ b → cond b (owner_from t now o) o ≡ o
        by_test true e = absurd (
            let is = among-least of_tokens.before (wants t) es m f in
            let n : o.number ≡ m.number = grind (arith, nat_tests) in
            let same : o ≡ m = among-unique 0 made es o m r a is.0 n in
            let q : is_queued o ≡ true = ap is_queued same ∙ wants-queued t m is.1 in
            let not_q = owner-not_queued o own in cc (q, not_q))
        by_test false e = refl

among-left : (made : ℕ) (k : Option ℕ) (now : Moment) (es : List SemEntry) (o : SemEntry) → Rises 0 es made → Among es o → is_owner o ≡ true → Among (after_freeing_of k now es) o
among-left made None now es o r a own = a
among-left made (Some t) now es o r a own = among-freed made t now es o r a own

each-later : (n made : ℕ) (k : Option ℕ) (now : Moment) (es os : List SemEntry) → Rises 0 es made → Rises n os made → Each es os
    → Each (after_freeing_of k now (without n es)) os × Each (map (hung_entry n) es) os
each-later n made k now es [] r q h = (tt, tt)
each-later n made k now es (o ∷ os) r q h =
    let lt : n < o.number = q.0 in
    let other : (o.number == n) ≡ false = grind (arith, nat_tests) in
    let rest = each-later n made k now es os r (rises-lower o.number n made os (omega arith) q.1) h.1 in
    let kept = among-filter (λ e. not (e.number == n)) es o h.0.0 (ap not other) in (
      ((among-left made k now (without n es) o (rises-without 0 made n es r) kept h.0.1, h.0.1), rest.0),
      ((among-map (hung_entry n) es o h.0.0 (hung-other n o other), h.0.1), rest.1),
    )

-- where one of a client's owners is lost, what holds of a pool is kept, and the others stay
pub one-lost : (p : Pool) (l : Loss) (o : SemEntry) (os : List SemEntry) (now : Moment) → IsPool (record p { entries = l.entries }) → Each l.entries (o ∷ os) → Rises o.number os p.made
    → IsPool (record p { entries = (loss_of_one now l o).entries }) × Each (loss_of_one now l o).entries os
one-lost p l o os now is h r = by_keep o.keep
  where
    by_keep : (b : Bool) → IsPool (record p { entries = (cond b (record l { entries = map (hung_entry o.number) l.entries }) (record { entries = after_leaving o now l.entries; grants = l.grants ++ option_to_list (grant_leaving o l.entries) })).entries })
        × Each (cond b (record l { entries = map (hung_entry o.number) l.entries }) (record { entries = after_leaving o now l.entries; grants = l.grants ++ option_to_list (grant_leaving o l.entries) })).entries os
    by_keep true = (hung-keeps (record p { entries = l.entries }) o is h.0.0 (ap not (owner-not_queued o h.0.1)), (each-later o.number p.made o.token now l.entries os is.rises r h.1).1)
    by_keep false = (left (record p { entries = l.entries }) o now is h.0.0 (ap not (owner-not_queued o h.0.1)), (each-later o.number p.made o.token now l.entries os is.rises r h.1).0)

lost-fold : (p : Pool) (os : List SemEntry) (l : Loss) (low : ℕ) (now : Moment) → IsPool (record p { entries = l.entries }) → Each l.entries os → Rises low os p.made
    → IsPool (record p { entries = (fold (loss_of_one now) l os).entries })
lost-fold p [] l low now is h r = is
lost-fold p (o ∷ os) l low now is h r = let k = one-lost p l o os now is h r.1 in lost-fold p os (loss_of_one now l o) o.number now k.0 k.1 r.1

-- the client waits no more
pub unqueued : (p : Pool) (client : ℕ) → IsPool p → IsPool (record p { entries = filter (λ e. not (waits_for client e)) p.entries })
unqueued p client is =
    let lacks = λ (u : ℕ) (e : SemEntry) (f : not (waits_for client e) ≡ false). queued-lacks u e (waits-queued client e f) in
    let placed : count_by (unplaced (length p.tokens)) p.entries ≡ 0 = is.placed in
    let fewer = λ (test : SemEntry → Bool). count-fewer test (λ e. not (waits_for client e)) p.entries in
    let same = λ (u : ℕ). count-kept (has u) (λ e. not (waits_for client e)) (lacks u) p.entries in
    is-pool p (filter (λ e. not (waits_for client e)) p.entries) p.made is (rises-filter (λ e. not (waits_for client e)) 0 p.made p.entries is.rises) (record {
      placed = omega (arith, fewer (unplaced (length p.tokens)), placed);
      once = λ u. let most : count_by (has u) p.entries ≤ 1 = is.once u in omega (arith, same u, most);
      served = λ u below z.
          let z_before : count_by (has u) p.entries ≡ 0 = omega (arith, same u, z) in
          let none : count_by (wants u) p.entries ≡ 0 = is.served u below z_before in
          omega (arith, fewer (wants u), none);
    })

pub lose-keeps : (p : Pool) (client : ℕ) (now : Moment) → IsPool p → IsPool (after_lose p client now)
lose-keeps p client now is =
    lost-fold p (filter (owned_by client) p.entries) (record { entries = filter (λ e. not (waits_for client e)) p.entries; grants = [] }) 0 now (unqueued p client is)
    (each-owned client p.entries) (rises-filter (owned_by client) 0 p.made p.entries is.rises)

-- and where one of its owners is lost
pub lose_one-keeps : (p : Pool) (client : ℕ) (now : Moment) → IsPool p → IsPool (after_lose_one p client now)
lose_one-keeps p client now is = by_owner (of_tokens.owner_of client p.entries) refl
  where
    by_owner : (o : Option SemEntry) → of_tokens.owner_of client p.entries ≡ o
        → IsPool (record p { entries = (losing o now (record { entries = filter (λ e. not (waits_for client e)) p.entries; grants = [] })).entries })
    by_owner None f = unqueued p client is
    by_owner (Some o) f =
        let there = owner-is client p.entries o f in
        let kept = among-filter (λ e. not (waits_for client e)) p.entries o there.0 (stays client o (owner-not_queued o there.1)) in
        let above : o.number ≤ p.made = (rises-above 0 p.made p.entries o is.rises there.0).1 in
        (one-lost p (record { entries = filter (λ e. not (waits_for client e)) p.entries; grants = [] }) o [] now (unqueued p client is) ((kept, there.1), tt) above).0
