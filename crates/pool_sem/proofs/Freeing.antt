-- A token that is freed keeps what holds of a pool.
use Rattle.std.proofs.Common.{◌≡◌, ℕ, ◌+◌, ◌<◌, ◌≤◌, Bool, true, false, not, cond, ◌==◌, ◌&&◌, ◌||◌, List, [], map, filter, length, Option, None, Some, option_map, refl, sym, ◌∙◌, ap, subst, arith}
use Rattle.std.specs.Prelude.{count_by, nat_eq, nat_lt, is_some}
use Rattle.std.specs.Option.{option_eq}
use Rattle.std.proofs.lemmas.List.Sums.{length-filter}
use Rattle.std.proofs.lemmas.Bool.Decides.{nat_tests}
use Rattle.mms_types.specs.declared.moment.Moment.{Moment}
use Rattle.token_sem.specs.declared.entry.SemEntry.{SemEntry}
use Rattle.token_sem.specs.declared.entry.SemState.{SemState}
use Rattle.token_sem.specs.declared.entry.SemState.TheVariants.{Queued, Owner, Hung}
use Rattle.token_sem.specs.Semaphore.{is_queued, is_queued_state, is_owner_state, holds, before, Rises, without, numbered, owned_by}
use Rattle.token_sem.proofs.Keeping.{Among, among-least, among-find, rises-without}
use Rattle.token_sem.proofs.Least.{least-none}
use Rattle.pool_sem.specs.Pools.{Pool, IsPool, has, wants, suits, names, next, owner_from, granted_entry, granted_to, after_freeing, after_freeing_of, after_leaving, owner_of, after_giving_back, after_relinquish, after_cancel, expired_entry, after_expire, is_place, is_placed}
use Rattle.pool_sem.proofs.Counting.{weight, weight-yes, weight-no, weight-most, count-without, count-changed, rises-changed, none-among}

-- the token of the entry isn't there
abbrev pub unplaced : ℕ → SemEntry → Bool
unplaced count e = not (is_placed count e)

-- what holds of the entries of a pool with so many tokens
pub record Fair (count : ℕ) (es : List SemEntry) : Type 0 where
  pub placed : count_by (unplaced count) es ≡ 0
  pub once : (u : ℕ) → count_by (has u) es ≤ 1
  pub served : (u : ℕ) → u < count → count_by (has u) es ≡ 0 → count_by (wants u) es ≡ 0

-- the same but for one token that nobody has
pub record Vacant (count t : ℕ) (es : List SemEntry) : Type 0 where
  pub within : t < count
  pub placed : count_by (unplaced count) es ≡ 0
  pub none : count_by (has t) es ≡ 0
  pub once : (u : ℕ) → count_by (has u) es ≤ 1
  pub others : (u : ℕ) → u < count → (u == t) ≡ false → count_by (has u) es ≡ 0 → count_by (wants u) es ≡ 0

pub fair : (p : Pool) → IsPool p → Fair (length p.tokens) p.entries
fair p is = record { placed = is.placed; once = is.once; served = is.served }

pub is-pool : (p : Pool) (es : List SemEntry) (made : ℕ) → IsPool p → Rises 0 es made → Fair (length p.tokens) es → IsPool (record p { made = made; entries = es })
is-pool p es made is r f = record { sorted = is.sorted; some = is.some; few = is.few; rises = r; placed = f.placed; once = f.once; served = f.served }

pub same-token : (a b : ℕ) → (a == b) ≡ true → a ≡ b
same-token a b t = grind (arith, nat_tests)

-- what each test tells

pub wants-queued : (t : ℕ) (e : SemEntry) → wants t e ≡ true → is_queued e ≡ true
wants-queued t e h = by_test (is_queued e) h
  where
    by_test : (b : Bool) → (b && suits e.token (Some t)) ≡ true → b ≡ true
    by_test true g = refl
    by_test false g = absurd (cc g)

pub queued-lacks : (u : ℕ) (e : SemEntry) → is_queued e ≡ true → has u e ≡ false
queued-lacks u e q = ap (λ b. not b && option_eq nat_eq e.token (Some u)) q

pub holder-wants : (u : ℕ) (e : SemEntry) → holds e ≡ true → wants u e ≡ false
holder-wants u e h = by_test (is_queued e) h
  where
    by_test : (b : Bool) → not b ≡ true → (b && suits e.token (Some u)) ≡ false
    by_test true g = absurd (cc g)
    by_test false g = refl

-- an entry that has a token has one that is there
pub token-there : (count : ℕ) (e : SemEntry) → unplaced count e ≡ false → holds e ≡ true → (t : ℕ) × (e.token ≡ Some t) × (t < count)
token-there count e u h = by_token e.token (is_queued e) refl u h
  where
    by_token : (k : Option ℕ) (b : Bool) → e.token ≡ k → not (is_place count k && (b || is_some k)) ≡ false → not b ≡ true → (t : ℕ) × (e.token ≡ Some t) × (t < count)
    by_token k true f g q = absurd (cc q)
    by_token None false f g q = absurd (cc g)
    by_token (Some t) false f g q = by_room (nat_lt t count) refl g
      where
        by_room : (c : Bool) → nat_lt t count ≡ c → not (c && true) ≡ false → (t : ℕ) × (e.token ≡ Some t) × (t < count)
        by_room true w g = (t, f, grind (arith, nat_tests))
        by_room false w g = absurd (cc g)

pub holder-has : (t : ℕ) (e : SemEntry) → holds e ≡ true → e.token ≡ Some t → has t e ≡ true
holder-has t e h f =
    let same : (t == t) ≡ true = grind (arith, nat_tests) in
    ap (λ b. b && option_eq nat_eq e.token (Some t)) h ∙ ap (λ k. option_eq nat_eq k (Some t)) f ∙ same

pub holder-lacks : (t u : ℕ) (e : SemEntry) → holds e ≡ true → e.token ≡ Some t → (u == t) ≡ false → has u e ≡ false
holder-lacks t u e h f d =
    let other : (t == u) ≡ false = grind (arith, nat_tests) in
    ap (λ b. b && option_eq nat_eq e.token (Some u)) h ∙ ap (λ k. option_eq nat_eq k (Some u)) f ∙ other

pub owner-placed : (count t : ℕ) (now : Moment) (e : SemEntry) → t < count → unplaced count (owner_from t now e) ≡ false
owner-placed count t now e lt =
    let within : nat_lt t count ≡ true = grind (arith, nat_tests) in
    ap (λ b. not (b && true)) within

-- an entry that has a token goes: nobody has the token then
pub vacated : (count made : ℕ) (es : List SemEntry) (o : SemEntry) (t : ℕ) → Rises 0 es made → Fair count es → Among es o → holds o ≡ true → o.token ≡ Some t → t < count
    → Vacant count t (without o.number es)
vacated count made es o t r f a h k lt =
    let goes = λ (p : SemEntry → Bool). count-without p 0 made es o r a in
    let placed : count_by (unplaced count) es ≡ 0 = f.placed in
    let there : weight (has t) o ≡ 1 = weight-yes (has t) o (holder-has t o h k) in
    let had : count_by (has t) es ≤ 1 = f.once t in
    record {
      within = lt;
      placed = omega (arith, goes (unplaced count), placed);
      none = omega (arith, goes (has t), there, had);
      once = λ u. let most : count_by (has u) es ≤ 1 = f.once u in omega (arith, goes (has u), most);
      others = λ u below d z.
          let no : weight (has u) o ≡ 0 = weight-no (has u) o (holder-lacks t u o h k d) in
          let before_too : count_by (has u) es ≡ 0 = omega (arith, goes (has u), no, z) in
          let none : count_by (wants u) es ≡ 0 = f.served u below before_too in
          omega (arith, goes (wants u), none);
    }

-- a token of a pool that nobody has
pub vacant-free : (count : ℕ) (es : List SemEntry) (t : ℕ) → Fair count es → t < count → count_by (has t) es ≡ 0 → Vacant count t es
vacant-free count es t f lt z = record { within = lt; placed = f.placed; none = z; once = f.once; others = λ u below d. f.served u below }

-- where none waits that wants it, the token stays free
pub none-wanted : (t : ℕ) (es : List SemEntry) → next t es ≡ None → count_by (wants t) es ≡ 0
none-wanted t es f =
    let none : filter (wants t) es ≡ [] = least-none before (filter (wants t) es) f in
    sym (length-filter (wants t) es) ∙ ap length none

-- the token goes to the one that is served first, or is free
pub freed-fair : (count made t : ℕ) (now : Moment) (es : List SemEntry) → Rises 0 es made → Vacant count t es → Fair count (after_freeing t now es)
freed-fair count made t now es r v = by_next (next t es) refl
  where
    by_next : (first : Option SemEntry) → next t es ≡ first → Fair count (granted_to first t now es)
    by_next None f = record { placed = v.placed; once = v.once; served = λ u below z. by_token u below z (u == t) refl }
      where
        by_token : (u : ℕ) → u < count → count_by (has u) es ≡ 0 → (b : Bool) → (u == t) ≡ b → count_by (wants u) es ≡ 0
        by_token u below z true d = subst (λ w. count_by (wants w) es ≡ 0) (sym (same-token u t d)) (none-wanted t es f)
        by_token u below z false d = v.others u below d z
    by_next (Some o) f =
        let is = among-least before (wants t) es o f in
        let waits : is_queued o ≡ true = wants-queued t o is.1 in
        let comes = λ (p : SemEntry → Bool). count-changed p 0 made (owner_from t now) es o r is.0 in
        let placed : count_by (unplaced count) es ≡ 0 = v.placed in
        let there : weight (unplaced count) (owner_from t now o) ≡ 0 = weight-no (unplaced count) (owner_from t now o) (owner-placed count t now o v.within) in
        record {
          placed = omega (arith, comes (unplaced count), placed, there);
          once = λ u. once u (u == t) refl (comes (has u)) (weight-no (has u) o (queued-lacks u o waits));
          served = λ u below z. served u (u == t) refl below z (comes (has u)) (comes (wants u)) (weight-no (has u) o (queued-lacks u o waits));
        }
      where
        once : (u : ℕ) (b : Bool) → (u == t) ≡ b → count_by (has u) (map (granted_entry o.number t now) es) + weight (has u) o ≡ count_by (has u) es + weight (has u) (owner_from t now o)
            → weight (has u) o ≡ 0 → count_by (has u) (map (granted_entry o.number t now) es) ≤ 1
        once u true d e lacked =
            let same : u ≡ t = same-token u t d in
            let z : count_by (has u) es ≡ 0 = subst (λ w. count_by (has w) es ≡ 0) (sym same) v.none in
            let one : weight (has u) (owner_from t now o) ≤ 1 = weight-most (has u) (owner_from t now o) in
            omega (arith, e, lacked, z, one)
        once u false d e lacked =
            let lacks : weight (has u) (owner_from t now o) ≡ 0 = weight-no (has u) (owner_from t now o) (holder-lacks t u (owner_from t now o) refl refl d) in
            let most : count_by (has u) es ≤ 1 = v.once u in
            omega (arith, e, lacked, lacks, most)

        served : (u : ℕ) (b : Bool) → (u == t) ≡ b → u < count → count_by (has u) (map (granted_entry o.number t now) es) ≡ 0
            → count_by (has u) (map (granted_entry o.number t now) es) + weight (has u) o ≡ count_by (has u) es + weight (has u) (owner_from t now o)
            → count_by (wants u) (map (granted_entry o.number t now) es) + weight (wants u) o ≡ count_by (wants u) es + weight (wants u) (owner_from t now o)
            → weight (has u) o ≡ 0 → count_by (wants u) (map (granted_entry o.number t now) es) ≡ 0
        served u true d below z e w lacked =
            let same : u ≡ t = same-token u t d in
            let one : weight (has u) (owner_from t now o) ≡ 1 = weight-yes (has u) (owner_from t now o) (holder-has u (owner_from t now o) refl (ap Some (sym same))) in
            absurd (omega (arith, z, e, lacked, one))
        served u false d below z e w lacked =
            let z_before : count_by (has u) es ≡ 0 = omega (arith, z, e, lacked) in
            let none : count_by (wants u) es ≡ 0 = v.others u below d z_before in
            let not_it : weight (wants u) (owner_from t now o) ≡ 0 = refl in
            omega (arith, w, none, not_it)

pub rises-freed : (made t : ℕ) (now : Moment) (es : List SemEntry) → Rises 0 es made → Rises 0 (after_freeing t now es) made
rises-freed made t now es r = by_next (next t es)
  where
    by_next : (first : Option SemEntry) → Rises 0 (granted_to first t now es) made
    by_next None = r
    by_next (Some o) = rises-changed 0 made o.number (owner_from t now) (λ e. refl) es r

-- an entry that has a token goes, and the token is freed
pub left : (p : Pool) (o : SemEntry) (now : Moment) → IsPool p → Among p.entries o → holds o ≡ true → IsPool (record p { entries = after_leaving o now p.entries })
left p o now is a h =
    let there = token-there (length p.tokens) o (none-among (unplaced (length p.tokens)) p.entries o a is.placed) h in
    let t : ℕ = there.0 in
    let rest : Rises 0 (without o.number p.entries) p.made = rises-without 0 p.made o.number p.entries is.rises in
    let v : Vacant (length p.tokens) t (without o.number p.entries) = vacated (length p.tokens) p.made p.entries o t is.rises (fair p is) a h there.1 there.2 in
    let whole : IsPool (record p { entries = after_freeing t now (without o.number p.entries) }) =
    is-pool p (after_freeing t now (without o.number p.entries)) p.made is (rises-freed p.made t now (without o.number p.entries) rest) (freed-fair (length p.tokens) p.made t now (without o.number p.entries) rest v) in
    subst (λ k. IsPool (record p { entries = after_freeing_of k now (without o.number p.entries) })) (sym there.1) whole

pub owner-holds : (client : ℕ) (token : Option ℕ) (o : SemEntry) → (owned_by client o && names token o.token) ≡ true → holds o ≡ true
owner-holds client token o h = by_state o.state (o.client == client) h
  where
    by_state : (s : SemState) (b : Bool) → ((b && is_owner_state s) && names token o.token) ≡ true → not (is_queued_state s) ≡ true
    by_state Owner b h = refl
    by_state Hung b h = refl
    by_state Queued true h = absurd (cc h)
    by_state Queued false h = absurd (cc h)

pub relinquish-keeps : (p : Pool) (client : ℕ) (token : Option ℕ) (now : Moment) → IsPool p → IsPool (after_relinquish p client token now)
relinquish-keeps p client token now is = by_owner (owner_of client token p.entries) refl
  where
    by_owner : (o : Option SemEntry) → owner_of client token p.entries ≡ o → IsPool (after_giving_back o now p)
    by_owner None f = is
    by_owner (Some o) f =
        let a = among-find (λ e. owned_by client e && names token e.token) p.entries o f in
        left p o now is a.0 (owner-holds client token o a.1)

-- a queued entry goes
pub cancelled : (p : Pool) (o : SemEntry) → IsPool p → Among p.entries o → is_queued o ≡ true → IsPool (after_cancel p o.number)
cancelled p o is a q =
    let goes = λ (test : SemEntry → Bool). count-without test 0 p.made p.entries o is.rises a in
    let placed : count_by (unplaced (length p.tokens)) p.entries ≡ 0 = is.placed in
    is-pool p (without o.number p.entries) p.made is (rises-without 0 p.made o.number p.entries is.rises) (record {
      placed = omega (arith, goes (unplaced (length p.tokens)), placed);
      once = λ u. let most : count_by (has u) p.entries ≤ 1 = is.once u in omega (arith, goes (has u), most);
      served = λ u below z.
          let no : weight (has u) o ≡ 0 = weight-no (has u) o (queued-lacks u o q) in
          let before_too : count_by (has u) p.entries ≡ 0 = omega (arith, goes (has u), no, z) in
          let none : count_by (wants u) p.entries ≡ 0 = is.served u below before_too in
          omega (arith, goes (wants u), none);
    })

pub expired : (p : Pool) (o : Option SemEntry) (number : ℕ) (now : Moment) → IsPool p → numbered number p.entries ≡ o → IsPool (expired_entry o now p)
expired p None number now is f = is
expired p (Some o) number now is f = by_state (is_queued o) refl
  where
    among : Among p.entries o
    among = (among-find (λ e. e.number == number) p.entries o f).0

    by_state : (b : Bool) → is_queued o ≡ b → IsPool (cond b (after_cancel p o.number) (record p { entries = after_leaving o now p.entries }))
    by_state true t = cancelled p o is among t
    by_state false t = left p o now is among (ap not t)

pub expire-keeps : (p : Pool) (number : ℕ) (now : Moment) → IsPool p → IsPool (after_expire p number now)
expire-keeps p number now is = expired p (numbered number p.entries) number now is refl

-- a queued entry of that number goes
pub cancel-keeps : (p : Pool) (number : ℕ) → IsPool p → option_map is_queued (numbered number p.entries) ≡ Some true → IsPool (after_cancel p number)
cancel-keeps p number is f = by_entry (numbered number p.entries) refl f
  where
    by_entry : (o : Option SemEntry) → numbered number p.entries ≡ o → option_map is_queued o ≡ Some true → IsPool (after_cancel p number)
    by_entry None t g = absurd (cc g)
    by_entry (Some o) t g =
        let a = among-find (λ e. e.number == number) p.entries o t in
        let same : o.number ≡ number = same-token o.number number a.1 in
        subst (λ n. IsPool (after_cancel p n)) same (cancelled p o is a.0 (cc g))
