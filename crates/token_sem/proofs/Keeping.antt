-- What holds of a semaphore at any time stays so.
use Rattle.std.proofs.Common.{option_map, ◌≡◌, ℕ, ◌+◌, ◌<◌, ◌≤◌, ◌⊎◌, inl, inr, Bool, true, false, not, cond, ◌==◌, ◌&&◌, List, [], ◌∷◌, map, filter, find, fold, count_by, Option, None, Some, refl, sym, ◌∙◌, ap, ap₂, subst, arith}
use Rattle.std.proofs.lemmas.List.Sums.{sum_by-cons}
use Rattle.std.proofs.lemmas.Bool.Decides.{nat_tests}
use Rattle.mms_types.specs.declared.moment.Moment.{Moment}
use Rattle.token_sem.specs.declared.entry.SemEntry.{SemEntry}
use Rattle.token_sem.specs.declared.entry.SemState.{SemState}
use Rattle.token_sem.specs.declared.entry.SemState.TheVariants.{Queued, Owner, Hung}
use Rattle.token_sem.specs.Semaphore.{is_owner_state, is_hung_state, is_hung, is_queued_state, Sem, IsSem, Rises, is_queued, is_owner, holds, tokens_held, without, granted_entry, owner_from, after_freeing, granted_to, next, least, earlier, before, owner_of, after_relinquish, after_giving_back, after_expire, expired_entry, numbered, after_cancel}
use Rattle.token_sem.proofs.Least.{least-none}

-- the entry stands in the list
abbrev pub Among : List SemEntry → SemEntry → Type 0
Among [] o = ⊥
Among (e ∷ es) o = (e ≡ o) ⊎ Among es o

abbrev pub weight : SemEntry → ℕ
weight e = cond (holds e) 1 0

abbrev cons : SemEntry → List SemEntry → List SemEntry
cons e es = e ∷ es

pub held-cons : (e : SemEntry) (es : List SemEntry) → tokens_held (e ∷ es) ≡ weight e + tokens_held es
held-cons e es = sum_by-cons (λ x. cond (holds x) 1 0) e es

pub among-find : (p : SemEntry → Bool) (es : List SemEntry) (o : SemEntry) → find p es ≡ Some o → Among es o × (p o ≡ true)
among-find p [] o f = absurd (cc f)
among-find p (e ∷ es) o f = found (p e) refl (among-find p es o) f
  where
    found : (b : Bool) → p e ≡ b → (find p es ≡ Some o → Among es o × (p o ≡ true)) → cond b (Some e) (find p es) ≡ Some o → Among (e ∷ es) o × (p o ≡ true)
    found true t ih g = let same : e ≡ o = cc g in (inl same, ap p (sym same) ∙ t)
    found false t ih g = (inr (ih g).0, (ih g).1)

-- the least is one of them
among-fold : (less : SemEntry → SemEntry → Bool) (p : SemEntry → Bool) (es : List SemEntry) (best : Option SemEntry) (o : SemEntry) → fold (earlier less) best (filter p es) ≡ Some o → (best ≡ Some o) ⊎ (Among es o × (p o ≡ true))
among-fold less p [] best o f = inl f
among-fold less p (e ∷ es) best o f = kept (p e) refl (λ b. among-fold less p es b o) f
  where
    which : (best : Option SemEntry) → p e ≡ true → (earlier less best e ≡ Some o) ⊎ (Among es o × (p o ≡ true)) → (best ≡ Some o) ⊎ (Among (e ∷ es) o × (p o ≡ true))
    which best t (inr h) = inr (inr h.0, h.1)
    which None t (inl h) = let same : e ≡ o = cc h in inr (inl same, ap p (sym same) ∙ t)
    which (Some b) t (inl h) = first (less e b) h
      where
        first : (c : Bool) → Some (cond c e b) ≡ Some o → (Some b ≡ Some o) ⊎ (Among (e ∷ es) o × (p o ≡ true))
        first true g = let same : e ≡ o = cc g in inr (inl same, ap p (sym same) ∙ t)
        first false g = inl g

    other : (best : Option SemEntry) → (best ≡ Some o) ⊎ (Among es o × (p o ≡ true)) → (best ≡ Some o) ⊎ (Among (e ∷ es) o × (p o ≡ true))
    other best (inl h) = inl h
    other best (inr h) = inr (inr h.0, h.1)

    kept : (b : Bool) → p e ≡ b → ((c : Option SemEntry) → fold (earlier less) c (filter p es) ≡ Some o → (c ≡ Some o) ⊎ (Among es o × (p o ≡ true))) → fold (earlier less) best (cond b (e ∷ filter p es) (filter p es)) ≡ Some o → (best ≡ Some o) ⊎ (Among (e ∷ es) o × (p o ≡ true))
    kept true t ih g = which best t (ih (earlier less best e) g)
    kept false t ih g = other best (ih best g)

pub among-least : (less : SemEntry → SemEntry → Bool) (p : SemEntry → Bool) (es : List SemEntry) (o : SemEntry) → least less (filter p es) ≡ Some o → Among es o × (p o ≡ true)
among-least less p es o f = elim (among-fold less p es None o f) [ inl h ↦ absurd (cc h) | inr h ↦ h ]

pub among-next : (es : List SemEntry) (o : SemEntry) → next es ≡ Some o → Among es o × (is_queued o ≡ true)
among-next es o f = among-least before is_queued es o f

pub rises-lower : (low less high : ℕ) (es : List SemEntry) → less ≤ low → Rises low es high → Rises less es high
rises-lower low less high [] le r = omega arith
rises-lower low less high (e ∷ es) le r = let above : low < e.number = r.0 in (omega arith, r.1)

pub rises-above : (low high : ℕ) (es : List SemEntry) (o : SemEntry) → Rises low es high → Among es o → (low < o.number) × (o.number ≤ high)
rises-above low high [] o r a = absurd a
rises-above low high (e ∷ es) o r (inl same) =
    let n : e.number ≡ o.number = ap (λ x. x.number) same in
    let up : e.number ≤ high = top e.number es r.1 in
    let above : low < e.number = r.0 in
    (omega arith, omega arith)
  where
    top : (low : ℕ) (es : List SemEntry) → Rises low es high → low ≤ high
    top low [] r = r
    top low (e ∷ es) r = let t : e.number ≤ high = top e.number es r.1 in let above : low < e.number = r.0 in omega arith
rises-above low high (e ∷ es) o r (inr a) =
    let rest = rises-above e.number high es o r.1 a in
    let above : low < e.number = r.0 in
    let next : e.number < o.number = rest.0 in
    (omega arith, rest.1)

pub different : (a b : ℕ) → a < b → (a == b) ≡ false
different a b lt = grind (arith, nat_tests)

pub same_number : (a b : ℕ) → a ≡ b → (a == b) ≡ true
same_number a b e = grind (arith, nat_tests)

pub without-other : (e : SemEntry) (n : ℕ) (es : List SemEntry) → e.number < n → without n (e ∷ es) ≡ e ∷ without n es
without-other e n es lt = ap (λ b. cond (not b) (e ∷ without n es) (without n es)) (different e.number n lt)

pub without-later : (e : SemEntry) (n : ℕ) (es : List SemEntry) → n < e.number → without n (e ∷ es) ≡ e ∷ without n es
without-later e n es lt = ap (λ b. cond (not b) (e ∷ without n es) (without n es)) (let d : (e.number == n) ≡ false = grind (arith, nat_tests) in d)

pub without-same : (e : SemEntry) (n : ℕ) (es : List SemEntry) → e.number ≡ n → without n (e ∷ es) ≡ without n es
without-same e n es same = ap (λ b. cond (not b) (e ∷ without n es) (without n es)) (same_number e.number n same)

pub without-none : (low high n : ℕ) (es : List SemEntry) → n ≤ low → Rises low es high → without n es ≡ es
without-none low high n [] le r = refl
without-none low high n (e ∷ es) le r =
    let above : low < e.number = r.0 in
    without-later e n es (omega arith) ∙ ap (λ (l : List SemEntry). e ∷ l) (without-none e.number high n es (omega arith) r.1)

pub rises-without : (low high n : ℕ) (es : List SemEntry) → Rises low es high → Rises low (without n es) high
rises-without low high n [] r = r
rises-without low high n (e ∷ es) r = kept (e.number == n) (rises-without e.number high n es r.1)
  where
    kept : (b : Bool) → Rises e.number (without n es) high → Rises low (cond (not b) (e ∷ without n es) (without n es)) high
    kept true rest = rises-lower e.number low high (without n es) (let above : low < e.number = r.0 in omega arith) rest
    kept false rest = (r.0, rest)

-- one that holds a token goes
pub held-without : (low high : ℕ) (es : List SemEntry) (o : SemEntry) → Rises low es high → Among es o → holds o ≡ true → tokens_held (without o.number es) + 1 ≡ tokens_held es
held-without low high [] o r a h = absurd a
held-without low high (e ∷ es) o r (inl same) h =
    let n : e.number ≡ o.number = ap (λ x. x.number) same in
    let gone : without o.number (e ∷ es) ≡ es = without-same e o.number es n ∙ without-none e.number high o.number es (omega arith) r.1 in
    let rest : tokens_held (without o.number (e ∷ es)) ≡ tokens_held es = ap tokens_held gone in
    let one : weight e ≡ 1 = ap (λ b. cond {A = ℕ} b 1 0) (ap holds same ∙ h) in
    omega (arith, rest, held-cons e es, one)
held-without low high (e ∷ es) o r (inr a) h =
    let lt : e.number < o.number = (rises-above e.number high es o r.1 a).0 in
    let ih : tokens_held (without o.number es) + 1 ≡ tokens_held es = held-without e.number high es o r.1 a h in
    let kept : tokens_held (without o.number (e ∷ es)) ≡ tokens_held (e ∷ without o.number es) = ap tokens_held (without-other e o.number es lt) in
    omega (arith, kept, held-cons e (without o.number es), held-cons e es, ih)

-- a queued one goes
pub held-cancel : (low high : ℕ) (es : List SemEntry) (o : SemEntry) → Rises low es high → Among es o → is_queued o ≡ true → tokens_held (without o.number es) ≡ tokens_held es
held-cancel low high [] o r a h = absurd a
held-cancel low high (e ∷ es) o r (inl same) h =
    let n : e.number ≡ o.number = ap (λ x. x.number) same in
    let gone : without o.number (e ∷ es) ≡ es = without-same e o.number es n ∙ without-none e.number high o.number es (omega arith) r.1 in
    let rest : tokens_held (without o.number (e ∷ es)) ≡ tokens_held es = ap tokens_held gone in
    let none : weight e ≡ 0 = ap (λ b. cond {A = ℕ} (not b) 1 0) (ap is_queued same ∙ h) in
    omega (arith, rest, held-cons e es, none)
held-cancel low high (e ∷ es) o r (inr a) h =
    let lt : e.number < o.number = (rises-above e.number high es o r.1 a).0 in
    let ih : tokens_held (without o.number es) ≡ tokens_held es = held-cancel e.number high es o r.1 a h in
    let kept : tokens_held (without o.number (e ∷ es)) ≡ tokens_held (e ∷ without o.number es) = ap tokens_held (without-other e o.number es lt) in
    omega (arith, kept, held-cons e (without o.number es), held-cons e es, ih)

-- one that waits becomes owner
granted-number : (n : ℕ) (now : Moment) (e : SemEntry) → (granted_entry n now e).number ≡ e.number
granted-number n now e = by_test (e.number == n)
  where
    by_test : (b : Bool) → (cond b (owner_from now e) e).number ≡ e.number
    by_test true = refl
    by_test false = refl

pub rises-granted : (low high n : ℕ) (now : Moment) (es : List SemEntry) → Rises low es high → Rises low (map (granted_entry n now) es) high
rises-granted low high n now [] r = r
rises-granted low high n now (e ∷ es) r =
    let same = granted-number n now e in
    let above : low < e.number = r.0 in
    let rest = rises-granted e.number high n now es r.1 in
    (omega (arith, same), let P : ℕ → Type 0 = λ m. Rises m (map (granted_entry n now) es) high in subst P (sym same) rest)

granted-later : (low high n : ℕ) (now : Moment) (es : List SemEntry) → n ≤ low → Rises low es high → map (granted_entry n now) es ≡ es
granted-later low high n now [] le r = refl
granted-later low high n now (e ∷ es) le r =
    let above : low < e.number = r.0 in
    let d : (e.number == n) ≡ false = grind (arith, nat_tests) in
    let first : granted_entry n now e ≡ e = ap (λ b. cond b (owner_from now e) e) d in
    rw (first, granted-later e.number high n now es (omega arith) r.1) refl

pub held-granted : (low high : ℕ) (now : Moment) (es : List SemEntry) (o : SemEntry) → Rises low es high → Among es o → is_queued o ≡ true → tokens_held (map (granted_entry o.number now) es) ≡ tokens_held es + 1
held-granted low high now [] o r a h = absurd a
held-granted low high now (e ∷ es) o r (inl same) h =
    let n : e.number ≡ o.number = ap (λ x. x.number) same in
    let first : granted_entry o.number now e ≡ owner_from now e = ap (λ b. cond b (owner_from now e) e) (same_number e.number o.number n) in
    let rest = granted-later e.number high o.number now es (omega arith) r.1 in
    let whole : tokens_held (map (granted_entry o.number now) (e ∷ es)) ≡ tokens_held (owner_from now e ∷ es) = ap tokens_held (ap₂ cons first rest) in
    let none : weight e ≡ 0 = ap (λ b. cond {A = ℕ} (not b) 1 0) (ap is_queued same ∙ h) in
    omega (arith, whole, held-cons (owner_from now e) es, held-cons e es, none)
held-granted low high now (e ∷ es) o r (inr a) h =
    let lt : e.number < o.number = (rises-above e.number high es o r.1 a).0 in
    let d : (e.number == o.number) ≡ false = different e.number o.number lt in
    let first : granted_entry o.number now e ≡ e = ap (λ b. cond b (owner_from now e) e) d in
    let ih : tokens_held (map (granted_entry o.number now) es) ≡ tokens_held es + 1 = held-granted e.number high now es o r.1 a h in
    let whole : tokens_held (map (granted_entry o.number now) (e ∷ es)) ≡ tokens_held (e ∷ map (granted_entry o.number now) es) = ap (λ (x : SemEntry). tokens_held (x ∷ map (granted_entry o.number now) es)) first in
    omega (arith, whole, held-cons e (map (granted_entry o.number now) es), held-cons e es, ih)

-- none of the rest waits
pub none-filter : (q : SemEntry → Bool) (es : List SemEntry) → filter is_queued es ≡ [] → filter is_queued (filter q es) ≡ []
none-filter q [] f = refl
none-filter q (e ∷ es) f = by_test (is_queued e) refl f (none-filter q es)
  where
    kept : is_queued e ≡ false → filter is_queued (filter q es) ≡ [] → (c : Bool) → filter is_queued (cond c (e ∷ filter q es) (filter q es)) ≡ []
    kept t rest true = ap (λ b. cond b (e ∷ filter is_queued (filter q es)) (filter is_queued (filter q es))) t ∙ rest
    kept t rest false = rest

    by_test : (b : Bool) → is_queued e ≡ b → cond b (e ∷ filter is_queued es) (filter is_queued es) ≡ [] → (filter is_queued es ≡ [] → filter is_queued (filter q es) ≡ []) → filter is_queued (filter q (e ∷ es)) ≡ []
    by_test true t g ih = absurd (cc g)
    by_test false t g ih = kept t (ih g) (q e)

-- a token is after_freeing
pub freed-keeps : (tokens made : ℕ) (now : Moment) (es : List SemEntry) → Rises 0 es made → tokens_held es < tokens → (tokens_held es + 1 < tokens → filter is_queued es ≡ [])
    → IsSem (record { tokens = tokens; made = made; entries = after_freeing now es })
freed-keeps tokens made now es r few served = by_next (next es) refl
  where
    by_next : (first : Option SemEntry) → next es ≡ first → IsSem (record { tokens = tokens; made = made; entries = granted_to first now es })
    by_next None f = record { rises = r; few = omega arith; served = λ free. least-none before (filter is_queued es) f }
    by_next (Some o) f =
        let is = among-next es o f in
        let more = held-granted 0 made now es o r is.0 is.1 in
        record {
          rises = rises-granted 0 made o.number now es r;
          few = omega (arith, more);
          served = λ free. absurd (let none : next es ≡ None = ap (least before) (served (omega (arith, more))) in cc (none, f));
        }

-- an owner gives its token back
pub gave_back : (s : Sem) (o : SemEntry) (now : Moment) → IsSem s → Among s.entries o → holds o ≡ true → IsSem (record s { entries = after_freeing now (without o.number s.entries) })
gave_back s o now is a h =
    let one = held-without 0 s.made s.entries o is.rises a h in
    let few : tokens_held s.entries ≤ s.tokens = is.few in
    freed-keeps s.tokens s.made now (without o.number s.entries) (rises-without 0 s.made o.number s.entries is.rises) (omega (arith, one))
    (λ free. none-filter (λ e. not (e.number == o.number)) s.entries (is.served (omega (arith, one))))

pub owner_holds : (client : ℕ) (o : SemEntry) → (o.client == client && is_owner o) ≡ true → holds o ≡ true
owner_holds client o h = by_state o.state (o.client == client) h
  where
    by_state : (s : SemState) (b : Bool) → (b && is_owner_state s) ≡ true → not (is_queued_state s) ≡ true
    by_state Owner b h = refl
    by_state Hung b h = refl
    by_state Queued true h = absurd (cc h)
    by_state Queued false h = absurd (cc h)

pub relinquish-keeps : (s : Sem) (client : ℕ) (now : Moment) → IsSem s → IsSem (after_relinquish s client now)
relinquish-keeps s client now is = by_owner (owner_of client s.entries) refl
  where
    by_owner : (o : Option SemEntry) → owner_of client s.entries ≡ o → IsSem (after_giving_back o now s)
    by_owner None f = is
    by_owner (Some o) f =
        let a = among-find (λ e. e.client == client && is_owner e) s.entries o f in
        gave_back s o now is a.0 (owner_holds client o a.1)

-- a queued entry goes
pub cancelled : (s : Sem) (o : SemEntry) → IsSem s → Among s.entries o → is_queued o ≡ true → IsSem (after_cancel s o.number)
cancelled s o is a h =
    let same = held-cancel 0 s.made s.entries o is.rises a h in
    let few : tokens_held s.entries ≤ s.tokens = is.few in
    record {
      rises = rises-without 0 s.made o.number s.entries is.rises;
      few = omega (arith, same);
      served = λ free. none-filter (λ e. not (e.number == o.number)) s.entries (is.served (omega (arith, same)));
    }

pub expired : (s : Sem) (o : Option SemEntry) (number : ℕ) (now : Moment) → IsSem s → numbered number s.entries ≡ o → IsSem (expired_entry o now s)
expired s None number now is f = is
expired s (Some o) number now is f = by_state (is_queued o) refl
  where
    among : Among s.entries o
    among = (among-find (λ e. e.number == number) s.entries o f).0

    by_state : (b : Bool) → is_queued o ≡ b → IsSem (cond b (after_cancel s o.number) (record s { entries = after_freeing now (without o.number s.entries) }))
    by_state true t = cancelled s o is among t
    by_state false t = gave_back s o now is among (ap not t)

pub expire-keeps : (s : Sem) (number : ℕ) (now : Moment) → IsSem s → IsSem (after_expire s number now)
expire-keeps s number now is = expired s (numbered number s.entries) number now is refl

-- a queued entry of that number
pub cancel-keeps : (s : Sem) (number : ℕ) → IsSem s → option_map is_queued (numbered number s.entries) ≡ Some true → IsSem (after_cancel s number)
cancel-keeps s number is f = by_entry (numbered number s.entries) refl f
  where
    by_entry : (o : Option SemEntry) → numbered number s.entries ≡ o → option_map is_queued o ≡ Some true → IsSem (after_cancel s number)
    by_entry None t g = absurd (cc g)
    by_entry (Some o) t g =
        let a = among-find (λ e. e.number == number) s.entries o t in
        let same : o.number ≡ number = (let h : (o.number == number) ≡ true = a.1 in grind (arith, nat_tests)) in
        subst (λ n. IsSem (after_cancel s n)) same (cancelled s o is a.0 (cc g))

-- a token that is held is owned or hung
pub owned-and-hung : (es : List SemEntry) → count_by is_owner es + count_by is_hung es ≡ tokens_held es
owned-and-hung [] = refl
owned-and-hung (e ∷ es) =
    let owned = sum_by-cons (λ (x : SemEntry). cond (is_owner x) 1 0) e es in
    let hung = sum_by-cons (λ (x : SemEntry). cond (is_hung x) 1 0) e es in
    let held = held-cons e es in
    let rest = owned-and-hung es in
    let here = weights e.state in
    omega arith
  where
    weights : (state : SemState) → cond (is_owner_state state) 1 0 + cond (is_hung_state state) 1 0 ≡ cond (not (is_queued_state state)) 1 0
    weights Queued = refl
    weights Owner = refl
    weights Hung = refl

-- and so no more are owned than there are, nor hung
pub few-owned : (s : Sem) → IsSem s → count_by is_owner s.entries ≤ s.tokens
few-owned s is = omega (arith, owned-and-hung s.entries, is.few)

pub few-hung : (s : Sem) → IsSem s → count_by is_hung s.entries ≤ s.tokens
few-hung s is = omega (arith, owned-and-hung s.entries, is.few)
