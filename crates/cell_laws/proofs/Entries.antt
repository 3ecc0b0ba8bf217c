-- Which entries of one semaphore are queued, as its entries change.
use Rattle.std.proofs.Common.{◌≡◌, ℕ, ◌≤◌, ◌⊎◌, inl, inr, Bool, true, false, not, cond, ◌==◌, ◌&&◌, ◌||◌, List, [], ◌∷◌, ◌++◌, map, filter, fold, Option, None, Some, option_map, option_to_list, if◌then◌else◌, refl, sym, ◌∙◌, ap, subst, arith}
use Rattle.std.specs.List.{list_any}
use Rattle.std.proofs.lemmas.Bool.Decides.{nat_tests}
use Rattle.mms_types.specs.declared.moment.Moment.{Moment}
use Rattle.token_sem.specs.declared.entry.Grant.{Grant}
use Rattle.token_sem.specs.declared.entry.SemEntry.{SemEntry}
use Rattle.token_sem.specs.declared.entry.SemState.TheVariants.{Hung}
use Rattle.token_sem.specs.Semaphore.{Loss, Rises, after_freeing, before, granted_entry, granted_to, grant_of, hung_entry, is_queued, is_owner, next, numbered, owned_by, owner_from, without}
use Rattle.token_sem.proofs.Keeping.{Among, among-least, among-next, rises-granted, rises-without}
use Rattle.token_sem.proofs.Least.{Stands}
use Rattle.token_sem.proofs.Losing.{owner-not_queued}
use Rattle.token_sem.proofs.Serving.{numbered-at}
use Rattle.pool_sem.specs.Pools as pool
use Rattle.pool_sem.proofs.Freeing as pool-free
use Rattle.mms_time.specs.Semaphores.{IsSound, entries_in, made_in}
use Rattle.mms_time.specs.declared.row.Semaphore.{Semaphore}
use Rattle.mms_time.specs.declared.row.Semaphore.TheVariants.{Token, Pool}
use Rattle.cell_laws.specs.Linked.{asker_of}

-- whose request the entry of that number is, where it is queued
abbrev pub asker_at : ℕ → List SemEntry → Option (ℕ × ℕ)
asker_at n es = asker_of (numbered n es)

pub at-head : (n : ℕ) (e : SemEntry) (es : List SemEntry) → (e.number == n) ≡ true → asker_at n (e ∷ es) ≡ asker_of (Some e)
at-head n e es h = ap (λ t. asker_of (cond t (Some e) (numbered n es))) h

pub at-tail : (n : ℕ) (e : SemEntry) (es : List SemEntry) → (e.number == n) ≡ false → asker_at n (e ∷ es) ≡ asker_at n es
at-tail n e es h = ap (λ t. asker_of (cond t (Some e) (numbered n es))) h

-- one request less
abbrev pub Drops : ℕ → List SemEntry → List SemEntry → Type 0
Drops m es new = (n : ℕ) → asker_at n new ≡ cond (n == m) None (asker_at n es)

cond-true : {A : Type 0} (b : Bool) (x y : A) → b ≡ true → cond b x y ≡ x
cond-true b x y h = ap (λ t. cond t x y) h

cond-false : {A : Type 0} (b : Bool) (x y : A) → b ≡ false → cond b x y ≡ y
cond-false b x y h = ap (λ t. cond t x y) h

cond-both : {A : Type 0} (b : Bool) (x : A) → cond b x x ≡ x
cond-both true x = refl
cond-both false x = refl

same_test : (a b n : ℕ) → (a == b) ≡ true → (a == n) ≡ (b == n)
same_test a b n h = let same : a ≡ b = grind (arith, nat_tests) in ap (λ k. k == n) same

turned : (a b : ℕ) → (a == b) ≡ (b == a)
turned a b = by_test (a == b) (b == a) refl refl
  where
    by_test : (s t : Bool) → (a == b) ≡ s → (b == a) ≡ t → s ≡ t
    by_test true true e f = refl
    by_test false false e f = refl
    by_test true false e f = grind (arith, nat_tests)
    by_test false true e f = grind (arith, nat_tests)

pub drops-without : (m : ℕ) (es : List SemEntry) → Drops m es (without m es)
drops-without m [] n = sym (cond-both (n == m) None)
drops-without m (e ∷ es) n = by_test (e.number == m) (e.number == n) refl refl (drops-without m es n)
  where
    by_test : (b c : Bool) → (e.number == m) ≡ b → (e.number == n) ≡ c → asker_at n (without m es) ≡ cond (n == m) None (asker_at n es)
        → asker_at n (cond (not b) (e ∷ without m es) (without m es)) ≡ cond (n == m) None (asker_at n (e ∷ es))
    by_test true true em en ih =
        let same : (n == m) ≡ true = sym (same_test e.number n m en) ∙ em in
        ih ∙ cond-true (n == m) None (asker_at n es) same ∙ sym (cond-true (n == m) None (asker_at n (e ∷ es)) same)
    by_test true false em en ih = ih ∙ ap (cond (n == m) None) (sym (at-tail n e es en))
    by_test false true em en ih =
        let other : (n == m) ≡ false = sym (same_test e.number n m en) ∙ em in
        at-head n e (without m es) en ∙ sym (at-head n e es en) ∙ sym (cond-false (n == m) None (asker_at n (e ∷ es)) other)
    by_test false false em en ih = at-tail n e (without m es) en ∙ ih ∙ ap (cond (n == m) None) (sym (at-tail n e es en))

-- an entry that is changed in its place, to one that isn't queued
module _ (m : ℕ) (f : SemEntry → SemEntry) (number : (e : SemEntry) → (f e).number ≡ e.number) (one : (e : SemEntry) → asker_of (Some (f e)) ≡ cond (e.number == m) None (asker_of (Some e))) where
  drops-map : (es : List SemEntry) → Drops m es (map f es)
  drops-map [] n = sym (cond-both (n == m) None)
  drops-map (e ∷ es) n = by_test (e.number == n) refl (drops-map es n)
    where
      by_test : (c : Bool) → (e.number == n) ≡ c → asker_at n (map f es) ≡ cond (n == m) None (asker_at n es)
          → asker_at n (f e ∷ map f es) ≡ cond (n == m) None (asker_at n (e ∷ es))
      by_test true en ih =
          at-head n (f e) (map f es) (ap (λ k. k == n) (number e) ∙ en) ∙ one e ∙ ap (λ t. cond t None (asker_of (Some e))) (same_test e.number n m en)
          ∙ ap (cond (n == m) None) (sym (at-head n e es en))
      by_test false en ih = at-tail n (f e) (map f es) (ap (λ k. k == n) (number e) ∙ en) ∙ ih ∙ ap (cond (n == m) None) (sym (at-tail n e es en))

pub drops-hung : (m : ℕ) (es : List SemEntry) → Drops m es (map (hung_entry m) es)
drops-hung m es = drops-map m (hung_entry m) number one es
  where
    number : (e : SemEntry) → (hung_entry m e).number ≡ e.number
    number e = by_test (e.number == m)
      where
        by_test : (b : Bool) → (cond b (record e { state = Hung }) e).number ≡ e.number
        by_test true = refl
        by_test false = refl

    one : (e : SemEntry) → asker_of (Some (hung_entry m e)) ≡ cond (e.number == m) None (asker_of (Some e))
    one e = by_test (e.number == m)
      where
        by_test : (b : Bool) → asker_of (Some (cond b (record e { state = Hung }) e)) ≡ cond b None (asker_of (Some e))
        by_test true = refl
        by_test false = refl

drops-granted : (m : ℕ) (now : Moment) (es : List SemEntry) → Drops m es (map (granted_entry m now) es)
drops-granted m now es = drops-map m (granted_entry m now) number one es
  where
    number : (e : SemEntry) → (granted_entry m now e).number ≡ e.number
    number e = by_test (e.number == m)
      where
        by_test : (b : Bool) → (cond b (owner_from now e) e).number ≡ e.number
        by_test true = refl
        by_test false = refl

    one : (e : SemEntry) → asker_of (Some (granted_entry m now e)) ≡ cond (e.number == m) None (asker_of (Some e))
    one e = by_test (e.number == m)
      where
        by_test : (b : Bool) → asker_of (Some (cond b (owner_from now e) e)) ≡ cond b None (asker_of (Some e))
        by_test true = refl
        by_test false = refl

-- and of a pool
drops-named : (m t : ℕ) (now : Moment) (es : List SemEntry) → Drops m es (map (pool.granted_entry m t now) es)
drops-named m t now es = drops-map m (pool.granted_entry m t now) number one es
  where
    number : (e : SemEntry) → (pool.granted_entry m t now e).number ≡ e.number
    number e = by_test (e.number == m)
      where
        by_test : (b : Bool) → (cond b (pool.owner_from t now e) e).number ≡ e.number
        by_test true = refl
        by_test false = refl

    one : (e : SemEntry) → asker_of (Some (pool.granted_entry m t now e)) ≡ cond (e.number == m) None (asker_of (Some e))
    one e = by_test (e.number == m)
      where
        by_test : (b : Bool) → asker_of (Some (cond b (pool.owner_from t now e) e)) ≡ cond b None (asker_of (Some e))
        by_test true = refl
        by_test false = refl

-- what isn't queued may go
pub drops-nothing : (m : ℕ) (es new : List SemEntry) → asker_at m es ≡ None → Drops m es new → (n : ℕ) → asker_at n new ≡ asker_at n es
drops-nothing m es new none drops n = drops n ∙ by_test (n == m) refl
  where
    by_test : (b : Bool) → (n == m) ≡ b → cond b None (asker_at n es) ≡ asker_at n es
    by_test true e = let same : n ≡ m = grind (arith, nat_tests) in sym (ap (λ k. asker_at k es) same ∙ none)
    by_test false e = refl

-- ---- some requests less, which are granted tokens

abbrev pub is_granted : ℕ → List Grant → Bool
is_granted n grants = list_any (λ g. n == g.entry) grants

pub record Frees (es : List SemEntry) (grants : List Grant) (new : List SemEntry) : Type 0 where
  pub left : (n : ℕ) → asker_at n new ≡ cond (is_granted n grants) None (asker_at n es)
  pub each : (g : Grant) → Stands grants g → asker_at g.entry es ≡ Some (g.client, g.invoke)

-- an entry that is queued is a request
pub queued-asks : (made : ℕ) (es : List SemEntry) (e : SemEntry) → Rises 0 es made → Among es e → is_queued e ≡ true → asker_at e.number es ≡ Some (e.client, e.invoke)
queued-asks made es e rises among queued = ap asker_of (numbered-at 0 made es e rises among) ∙ ap (λ t. cond t (Some (e.client, e.invoke)) None) queued

-- the one whose entry of that number is queued is granted a token
granted-one : (es new : List SemEntry) (g : Grant) → Drops g.entry es new → asker_at g.entry es ≡ Some (g.client, g.invoke) → Frees es (g ∷ []) new
granted-one es new g drops asks = record { left = λ n. drops n ∙ by_test n (n == g.entry); each = each }
  where
    by_test : (n : ℕ) (b : Bool) → cond b None (asker_at n es) ≡ cond (list_any (λ (t : Bool). t) (b ∷ [])) None (asker_at n es)
    by_test n true = refl
    by_test n false = refl

    each : (h : Grant) → Stands (g ∷ []) h → asker_at h.entry es ≡ Some (h.client, h.invoke)
    each h (inl same) = subst (λ (x : Grant). asker_at x.entry es ≡ Some (x.client, x.invoke)) same asks
    each h (inr s) = absurd s

pub none-granted : (es : List SemEntry) → Frees es [] es
none-granted es = record { left = λ n. refl; each = λ g s. absurd s }

-- a token is freed
frees-one : (made : ℕ) (now : Moment) (es : List SemEntry) → Rises 0 es made → Frees es (option_to_list (option_map grant_of (next es))) (after_freeing now es)
frees-one made now es rises = by_next (next es) refl
  where
    by_next : (o : Option SemEntry) → next es ≡ o → Frees es (option_to_list (option_map grant_of o)) (granted_to o now es)
    by_next None is = none-granted es
    by_next (Some e) is =
        let among = among-next es e is in
        granted-one es (map (granted_entry e.number now) es) (grant_of e) (drops-granted e.number now es) (queued-asks made es e rises among.0 among.1)

-- a token of a pool is freed, if it is one
frees-named : (made : ℕ) (token : Option ℕ) (now : Moment) (es : List SemEntry) → Rises 0 es made
    → Frees es (option_to_list (pool.grant_freeing token es)) (pool.after_freeing_of token now es)
frees-named made None now es rises = none-granted es
frees-named made (Some t) now es rises = by_next (pool.next t es) refl
  where
    by_next : (o : Option SemEntry) → pool.next t es ≡ o → Frees es (option_to_list (option_map (pool.grant_of t) o)) (pool.granted_to o t now es)
    by_next None is = none-granted es
    by_next (Some e) is =
        let among = among-least before (pool.wants t) es e is in
        granted-one es (map (pool.granted_entry e.number t now) es) (pool.grant_of t e) (drops-named e.number t now es)
        (queued-asks made es e rises among.0 (pool-free.wants-queued t e among.1))

-- ---- none of that number

pub above-none : (low high n : ℕ) (es : List SemEntry) → n ≤ low → Rises low es high → asker_at n es ≡ None
above-none low high n [] le rises = refl
above-none low high n (e ∷ es) le rises =
    let less = rises.0 in
    let other : (e.number == n) ≡ false = grind (arith, nat_tests) in
    at-tail n e es other ∙ above-none e.number high n es (omega (arith, le, less)) rises.1

-- ---- the owners of a client are lost

pub rises-hung : (low high n : ℕ) (es : List SemEntry) → Rises low es high → Rises low (map (hung_entry n) es) high
rises-hung low high n [] rises = rises
rises-hung low high n (e ∷ es) rises = by_test (e.number == n) (rises-hung e.number high n es rises.1)
  where
    by_test : (b : Bool) → Rises e.number (map (hung_entry n) es) high → Rises low (cond b (record e { state = Hung }) e ∷ map (hung_entry n) es) high
    by_test true rest = (rises.0, rest)
    by_test false rest = (rises.0, rest)

pub rises-freed : (made : ℕ) (now : Moment) (es : List SemEntry) → Rises 0 es made → Rises 0 (after_freeing now es) made
rises-freed made now es rises = by_next (next es)
  where
    by_next : (o : Option SemEntry) → Rises 0 (granted_to o now es) made
    by_next None = rises
    by_next (Some e) = rises-granted 0 made e.number now es rises

pub any-append : {A : Type 0} (p : A → Bool) (xs ys : List A) → list_any p (xs ++ ys) ≡ list_any p xs || list_any p ys
any-append p [] ys = refl
any-append p (x ∷ xs) ys = by_test (p x) (any-append p xs ys)
  where
    by_test : (b : Bool) → list_any p (xs ++ ys) ≡ list_any p xs || list_any p ys → b || list_any p (xs ++ ys) ≡ (b || list_any p xs) || list_any p ys
    by_test true ih = refl
    by_test false ih = ih

pub stands-either : {A : Type 0} (xs ys : List A) (x : A) → Stands (xs ++ ys) x → Stands xs x ⊎ Stands ys x
stands-either [] ys x s = inr s
stands-either (y ∷ xs) ys x (inl same) = inl (inl same)
stands-either (y ∷ xs) ys x (inr s) = by_part (stands-either xs ys x s)
  where
    by_part : Stands xs x ⊎ Stands ys x → Stands (y ∷ xs) x ⊎ Stands ys x
    by_part (inl a) = inl (inr a)
    by_part (inr b) = inr b

-- what a test leaves, where it is something
left-some : (b : Bool) (o : Option (ℕ × ℕ)) (x : ℕ × ℕ) → cond b None o ≡ Some x → o ≡ Some x
left-some true o x h = absurd (cc h)
left-some false o x h = h

-- one after the other
pub frees-more : (es mid new : List SemEntry) (xs ys : List Grant) → Frees es xs mid → Frees mid ys new → Frees es (xs ++ ys) new
frees-more es mid new xs ys first second = record { left = left; each = each }
  where
    left : (n : ℕ) → asker_at n new ≡ cond (is_granted n (xs ++ ys)) None (asker_at n es)
    left n =
        second.left n ∙ ap (cond (is_granted n ys) None) (first.left n) ∙ by_tests (is_granted n xs) (is_granted n ys)
        ∙ ap (λ t. cond t None (asker_at n es)) (sym (any-append (λ g. n == g.entry) xs ys))
      where
        by_tests : (a b : Bool) → cond b None (cond a None (asker_at n es)) ≡ cond (a || b) None (asker_at n es)
        by_tests true b = cond-both b None
        by_tests false b = refl

    each : (g : Grant) → Stands (xs ++ ys) g → asker_at g.entry es ≡ Some (g.client, g.invoke)
    each g s = by_part (stands-either xs ys g s)
      where
        by_part : Stands xs g ⊎ Stands ys g → asker_at g.entry es ≡ Some (g.client, g.invoke)
        by_part (inl a) = first.each g a
        by_part (inr b) = left-some (is_granted g.entry xs) (asker_at g.entry es) (g.client, g.invoke) (sym (first.left g.entry) ∙ second.each g b)

-- what isn't queued is none of them
pub same-frees : (es mid new : List SemEntry) (grants : List Grant) → ((n : ℕ) → asker_at n mid ≡ asker_at n es) → Frees mid grants new → Frees es grants new
same-frees es mid new grants same frees = record {
  left = λ n. frees.left n ∙ ap (cond (is_granted n grants) None) (same n);
  each = λ g s. sym (same g.entry) ∙ frees.each g s;
}

-- ---- an owner entry isn't queued

pub stands-among : (p : SemEntry → Bool) (es : List SemEntry) (o : SemEntry) → Stands (filter p es) o → Among es o × (p o ≡ true)
stands-among p [] o s = absurd s
stands-among p (e ∷ es) o s = by_test (p e) refl (stands-among p es o) s
  where
    by_test : (b : Bool) → p e ≡ b → (Stands (filter p es) o → Among es o × (p o ≡ true)) → Stands (cond b (e ∷ filter p es) (filter p es)) o → Among (e ∷ es) o × (p o ≡ true)
    by_test true h ih (inl same) = (inl same, ap p (sym same) ∙ h)
    by_test true h ih (inr t) = let found = ih t in (inr found.0, found.1)
    by_test false h ih t = let found = ih t in (inr found.0, found.1)

pub not_queued : (made : ℕ) (es : List SemEntry) (o : SemEntry) → Rises 0 es made → Among es o → is_queued o ≡ false → asker_at o.number es ≡ None
not_queued made es o rises among not = ap asker_of (numbered-at 0 made es o rises among) ∙ ap (λ t. cond t (Some (o.client, o.invoke)) None) not

pub owned_owner : (client : ℕ) (o : SemEntry) → owned_by client o ≡ true → is_owner o ≡ true
owned_owner client o h = by_tests (o.client == client) (is_owner o) refl h
  where
    by_tests : (a b : Bool) → is_owner o ≡ b → a && b ≡ true → is_owner o ≡ true
    by_tests true true is h = is
    by_tests true false is h = absurd (cc h)
    by_tests false b is h = absurd (cc h)

-- ---- an entry goes, and the token that it has is freed

-- the entries then, and who is granted the token
pub record Leaving : Type 0 where
  pub entries : Moment → SemEntry → List SemEntry → List SemEntry
  pub heir : SemEntry → List SemEntry → Option Grant

abbrev pub of_equal : Leaving
of_equal = record { entries = λ now o es. after_freeing now (without o.number es); heir = λ o es. option_map grant_of (next (without o.number es)) }

abbrev pub of_named : Leaving
of_named = record { entries = λ now o es. pool.after_leaving o now es; heir = λ o es. pool.grant_leaving o es }

-- in a semaphore
abbrev pub leaving : Semaphore → Leaving
leaving (Token s) = of_equal
leaving (Pool p) = of_named

-- what holds of each
pub record IsFreeing (v : Leaving) : Type 0 where
  pub frees : (made : ℕ) (now : Moment) (es : List SemEntry) (o : SemEntry) → Rises 0 es made → asker_at o.number es ≡ None
      → Frees es (option_to_list (v.heir o es)) (v.entries now o es)
  pub rises : (made : ℕ) (now : Moment) (es : List SemEntry) (o : SemEntry) → Rises 0 es made → Rises 0 (v.entries now o es) made

equal-freeing : IsFreeing of_equal
equal-freeing = record {
  frees = λ made now es o rises none.
      same-frees es (without o.number es) (after_freeing now (without o.number es)) (option_to_list (option_map grant_of (next (without o.number es))))
      (drops-nothing o.number es (without o.number es) none (drops-without o.number es))
      (frees-one made now (without o.number es) (rises-without 0 made o.number es rises));
  rises = λ made now es o rises. rises-freed made now (without o.number es) (rises-without 0 made o.number es rises);
}

named-rises : (made : ℕ) (token : Option ℕ) (now : Moment) (es : List SemEntry) → Rises 0 es made → Rises 0 (pool.after_freeing_of token now es) made
named-rises made None now es rises = rises
named-rises made (Some t) now es rises = pool-free.rises-freed made t now es rises

named-freeing : IsFreeing of_named
named-freeing = record {
  frees = λ made now es o rises none.
      same-frees es (without o.number es) (pool.after_leaving o now es) (option_to_list (pool.grant_leaving o es))
      (drops-nothing o.number es (without o.number es) none (drops-without o.number es))
      (frees-named made o.token now (without o.number es) (rises-without 0 made o.number es rises));
  rises = λ made now es o rises. named-rises made o.token now (without o.number es) (rises-without 0 made o.number es rises);
}

pub freeing : (s : Semaphore) → IsFreeing (leaving s)
freeing (Token s) = equal-freeing
freeing (Pool p) = named-freeing

-- the entries of a semaphore rise in number
pub rises-in : (s : Semaphore) → IsSound s → Rises 0 (entries_in s) (made_in s)
rises-in (Token s) is = is.rises
rises-in (Pool p) is = is.rises

-- ---- one owner is lost: its token is kept, or freed

abbrev pub kept_by : SemEntry → Loss → Loss
kept_by o l = record l { entries = map (hung_entry o.number) l.entries }

abbrev pub freed_by : Leaving → Moment → SemEntry → Loss → Loss
freed_by v now o l = record { entries = v.entries now o l.entries; grants = l.grants ++ option_to_list (v.heir o l.entries) }

abbrev pub one_gone : Leaving → Moment → Loss → SemEntry → Loss
one_gone v now l o = if o.keep then kept_by o l else freed_by v now o l

-- all owners of a client are lost
abbrev pub owners_gone : Leaving → ℕ → Moment → List SemEntry → Loss
owners_gone v client now es = fold (one_gone v now) (record { entries = es; grants = [] }) (filter (owned_by client) es)

module _ (v : Leaving) (is : IsFreeing v) where
  pub frees-owner : (made : ℕ) (now : Moment) (es : List SemEntry) (l : Loss) (o : SemEntry) → Rises 0 l.entries made → Frees es l.grants l.entries → asker_at o.number es ≡ None
      → Frees es (one_gone v now l o).grants (one_gone v now l o).entries × Rises 0 (one_gone v now l o).entries made
  frees-owner made now es l o rises frees none = by_keep o.keep
    where
      gone : asker_at o.number l.entries ≡ None
      gone = frees.left o.number ∙ ap (cond (is_granted o.number l.grants) None) none ∙ cond-both (is_granted o.number l.grants) None

      by_keep : (b : Bool) → Frees es (if b then kept_by o l else freed_by v now o l).grants (if b then kept_by o l else freed_by v now o l).entries
          × Rises 0 (if b then kept_by o l else freed_by v now o l).entries made
      by_keep true = (
        record { left = λ n. drops-nothing o.number l.entries (map (hung_entry o.number) l.entries) gone (drops-hung o.number l.entries) n ∙ frees.left n; each = frees.each },
        rises-hung 0 made o.number l.entries rises,
      )
      by_keep false = (
        frees-more es l.entries (v.entries now o l.entries) l.grants (option_to_list (v.heir o l.entries)) frees (is.frees made now l.entries o rises gone),
        is.rises made now l.entries o rises,
      )

  frees-owners : (made : ℕ) (now : Moment) (es : List SemEntry) (os : List SemEntry) (l : Loss) → Rises 0 l.entries made → Frees es l.grants l.entries
      → ((o : SemEntry) → Stands os o → asker_at o.number es ≡ None) → Frees es (fold (one_gone v now) l os).grants (fold (one_gone v now) l os).entries
  frees-owners made now es [] l rises frees none = frees
  frees-owners made now es (o ∷ os) l rises frees none =
      let one = frees-owner made now es l o rises frees (none o (inl refl)) in
      frees-owners made now es os (one_gone v now l o) one.1 one.0 (λ p s. none p (inr s))

  pub frees-lost : (made client : ℕ) (now : Moment) (es : List SemEntry) → Rises 0 es made → Frees es (owners_gone v client now es).grants (owners_gone v client now es).entries
  frees-lost made client now es rises =
      frees-owners made now es (filter (owned_by client) es) (record { entries = es; grants = [] }) rises (none-granted es)
      (λ o s.
      let found = stands-among (owned_by client) es o s in
      not_queued made es o rises found.0 (owner-not_queued o (owned_owner client o found.1)))
