-- Where the entry of a number stands, and what an edit at that place does.
use Rattle.std.proofs.Common.{◌≡◌, ℕ, zero, suc, ◌+◌, ◌<◌, ◌≤◌, inl, inr, Bool, true, false, not, cond, ◌==◌, List, [], ◌∷◌, ◌++◌, length, get_or, set, take, drop, map, filter, slice_get, None, Some, Ok, Err, refl, sym, ◌∙◌, ap, ap₂, arith}
use Rattle.std.specs.List.Sorted.{IsBinarySearchResult, IsNonDecreasingBy}
use Rattle.std.specs.Ordering.{nat_cmp, ordering_index}
use Rattle.std.proofs.lemmas.Cmp.{ranked}
use Rattle.std.proofs.lemmas.List.Sorted.{IsNonDecreasingBy-from_default}
use Rattle.std.proofs.lemmas.Bool.Decides.{nat_tests}
use Rattle.std.proofs.lemmas.Bool.{cases_eq, cases_lt}
use Rattle.token_sem.specs.declared.entry.SemEntry.{SemEntry}
use Rattle.token_sem.specs.declared.entry.SemState.TheVariants.{Queued}
use Rattle.token_sem.specs.Semaphore.{Rises, numbered, without}
use Rattle.token_sem.specs.Entries.{put_entry}
use Rattle.token_sem.proofs.Keeping.{Among, among-find, rises-above, different, same_number, without-other, without-none, without-same}
use Rattle.token_sem.proofs.Losing.{among-unique}
use Rattle.token_sem.proofs.Serving.{numbered-at}

-- what stands for an entry where there is none
abbrev pub no_entry : SemEntry
no_entry = record { number = 0; client = 0; invoke = 0; token = None; priority = 0; control = None; abort = None; keep = false; state = Queued; deadline = None }

abbrev cons : SemEntry → List SemEntry → List SemEntry
cons e es = e ∷ es

pub among-at : (es : List SemEntry) (i : ℕ) (d : SemEntry) → i < length es → Among es (get_or es i d)
among-at [] i d lt = absurd (omega arith)
among-at (e ∷ es) zero d lt = inl refl
among-at (e ∷ es) (suc i) d lt = inr (among-at es i d (omega arith))

rises-pair : (low high : ℕ) (es : List SemEntry) (i j : ℕ) (d : SemEntry) → Rises low es high → i < j → j < length es → (get_or es i d).number < (get_or es j d).number
rises-pair low high [] i j d r lt within = absurd (omega arith)
rises-pair low high (e ∷ es) i zero d r lt within = absurd (omega arith)
rises-pair low high (e ∷ es) zero (suc j) d r lt within = (rises-above e.number high es (get_or es j d) r.1 (among-at es j d (omega arith))).0
rises-pair low high (e ∷ es) (suc i) (suc j) d r lt within = rises-pair e.number high es i j d r.1 (omega arith) (omega arith)

pub numbered-none : (n : ℕ) (es : List SemEntry) → ((j : ℕ) (d : SemEntry) → j < length es → (get_or es j d).number ≡ n → ⊥) → numbered n es ≡ None
numbered-none n [] never = refl
numbered-none n (e ∷ es) never =
    let d : (e.number == n) ≡ false = grind (arith, nat_tests, never 0 e) in
    ap (λ b. cond b (Some e) (numbered n es)) d ∙ numbered-none n es (λ j d lt. never (suc j) d (omega arith))

get-there : (es : List SemEntry) (i : ℕ) (d : SemEntry) → i < length es → slice_get es i ≡ Some (get_or es i d)
get-there [] i d lt = absurd (omega arith)
get-there (e ∷ es) zero d lt = refl
get-there (e ∷ es) (suc i) d lt = get-there es i d (omega arith)

-- a binary search by numbers ends at the entry of the number, or tells that there is none
module _ (es : List SemEntry) (high : ℕ) (rises : Rises 0 es high) (n : ℕ) where
  comparisons_rise : (d : SemEntry) → IsNonDecreasingBy (λ (e : SemEntry). ordering_index (nat_cmp e.number n)) es
  comparisons_rise d = IsNonDecreasingBy-from_default (λ (e : SemEntry). ordering_index (nat_cmp e.number n)) es d (λ i j le in_range. elim (cases_eq i j) [
    | inl same ↦ (let k : (get_or es i d).number ≡ (get_or es j d).number = ap (λ (m : ℕ). (get_or es m d).number) same in grind (arith, nat_tests))
    | inr differs ↦ (let k = rises-pair 0 high es i j d rises (omega arith) in_range in grind (arith, nat_tests))
  ])

  pub search-found : (place : ℕ) → place < length es → IsBinarySearchResult (λ (e : SemEntry). nat_cmp e.number n) es (Ok place) → (d : SemEntry)
      → ((get_or es place d).number ≡ n) × (slice_get es place ≡ numbered n es)
  search-found place lt equal d =
      let same : (get_or es place d).number ≡ n = ranked _ n _ (sym (equal d)) in
      (same, get-there es place d lt ∙ sym (ap (λ (m : ℕ). numbered m es) (sym same) ∙ numbered-at 0 high es (get_or es place d) rises (among-at es place d lt)))

  pub search-missing : (place : ℕ) → IsBinarySearchResult (λ (e : SemEntry). nat_cmp e.number n) es (Err place) → numbered n es ≡ None
  search-missing place parted = numbered-none n es (λ j d lt same. elim (cases_lt j place) [
    | inl before ↦ (let smaller : (get_or es j d).number < n = ranked _ n _ (sym ((parted (comparisons_rise d)).0 j d (omega arith) before)) in omega arith)
    | inr later ↦ (let greater : n < (get_or es j d).number = ranked _ n _ (sym ((parted (comparisons_rise d)).1 j d later lt)) in omega arith)
  ])

-- the entry at the place goes
pub without-at : (low high : ℕ) (es : List SemEntry) (place n : ℕ) (d : SemEntry) → Rises low es high → place < length es → (get_or es place d).number ≡ n → take place es ++ drop (suc place) es ≡ without n es
without-at low high [] place n d r lt same = absurd (omega arith)
without-at low high (e ∷ es) zero n d r lt same = sym (without-same e n es same ∙ without-none e.number high n es (omega arith) r.1)
without-at low high (e ∷ es) (suc place) n d r lt same =
    let above = (rises-above e.number high es (get_or es place d) r.1 (among-at es place d (omega arith))).0 in
    ap (cons e) (without-at e.number high es place n d r.1 (omega arith) same) ∙ sym (without-other e n es (omega arith))

-- an entry takes the place of the one of its number
put-later : (low high : ℕ) (new : SemEntry) (es : List SemEntry) → new.number ≤ low → Rises low es high → map (put_entry new) es ≡ es
put-later low high new [] le r = refl
put-later low high new (e ∷ es) le r =
    let up : low < e.number = r.0 in
    let d : (e.number == new.number) ≡ false = grind (arith, nat_tests) in
    ap₂ cons (ap (λ b. cond b new e) d) (put-later e.number high new es (omega arith) r.1)

pub put-at : (low high : ℕ) (es : List SemEntry) (place : ℕ) (new d : SemEntry) → Rises low es high → place < length es → (get_or es place d).number ≡ new.number → set es place new ≡ map (put_entry new) es
put-at low high [] place new d r lt same = absurd (omega arith)
put-at low high (e ∷ es) zero new d r lt same = ap₂ cons (sym (ap (λ b. cond b new e) (same_number e.number new.number same))) (sym (put-later e.number high new es (omega arith) r.1))
put-at low high (e ∷ es) (suc place) new d r lt same =
    let above = (rises-above e.number high es (get_or es place d) r.1 (among-at es place d (omega arith))).0 in
    let other : (e.number == new.number) ≡ false = different e.number new.number (omega arith) in
    ap₂ cons (sym (ap (λ b. cond b new e) other)) (put-at e.number high es place new d r.1 (omega arith) same)

-- none has its number
pub put-none : (new : SemEntry) (es : List SemEntry) → numbered new.number es ≡ None → map (put_entry new) es ≡ es
put-none new [] f = refl
put-none new (e ∷ es) f = by_test (e.number == new.number) f (put-none new es)
  where
    by_test : (b : Bool) → cond b (Some e) (numbered new.number es) ≡ None → (numbered new.number es ≡ None → map (put_entry new) es ≡ es) → cond b new e ∷ map (put_entry new) es ≡ e ∷ es
    by_test true f ih = absurd cc
    by_test false f ih = ap (cons e) (ih f)

pub without-missing : (n : ℕ) (es : List SemEntry) → numbered n es ≡ None → without n es ≡ es
without-missing n [] f = refl
without-missing n (e ∷ es) f = by_test (e.number == n) f (without-missing n es)
  where
    by_test : (b : Bool) → cond b (Some e) (numbered n es) ≡ None → (numbered n es ≡ None → without n es ≡ es) → cond (not b) (e ∷ without n es) (without n es) ≡ e ∷ es
    by_test true f ih = absurd cc
    by_test false f ih = ap (cons e) (ih f)

-- a change of the entry of a number alone
pub put-is : (f : SemEntry → SemEntry) (n : ℕ) (new o : SemEntry) (high : ℕ) (es : List SemEntry) → Rises 0 es high → Among es o → o.number ≡ n → new ≡ f o → new.number ≡ n
    → ((e : SemEntry) → (e.number == n) ≡ false → f e ≡ e) → map f es ≡ map (put_entry new) es
put-is f n new o high es r a same is kept other = each es (λ e h. h)
  where
    here : (e : SemEntry) → Among es e → f e ≡ put_entry new e
    here e h = elim (cases_eq e.number n) [
      | inl t ↦
          let whole : e ≡ o = among-unique 0 high es e o r h a (t ∙ sym same) in
          ap f whole ∙ sym is ∙ sym (ap (λ b. cond b new e) (same_number e.number new.number (t ∙ sym kept)))
      | inr t ↦
          let d : (e.number == n) ≡ false = grind (arith, nat_tests) in
          let d' : (e.number == new.number) ≡ false = grind (arith, nat_tests) in
          other e d ∙ sym (ap (λ b. cond b new e) d')
    ]

    each : (xs : List SemEntry) → ((e : SemEntry) → Among xs e → Among es e) → map f xs ≡ map (put_entry new) xs
    each [] all = refl
    each (x ∷ xs) all = ap₂ cons (here x (all x (inl refl))) (each xs (λ e h. all e (inr h)))

-- what the entry of a number doesn't pass stays when it goes
pub filter-without : (p : SemEntry → Bool) (o : SemEntry) (low high : ℕ) (es : List SemEntry) → Rises low es high → Among es o → p o ≡ false → filter p (without o.number es) ≡ filter p es
filter-without p o low high [] r a t = refl
filter-without p o low high (e ∷ es) r (inl same) t =
    let n : e.number ≡ o.number = ap (λ (x : SemEntry). x.number) same in
    let gone : without o.number (e ∷ es) ≡ es = without-same e o.number es n ∙ without-none e.number high o.number es (omega arith) r.1 in
    ap (filter p) gone ∙ sym (ap (λ b. cond b (e ∷ filter p es) (filter p es)) (ap p same ∙ t))
filter-without p o low high (e ∷ es) r (inr a) t =
    let lt : e.number < o.number = (rises-above e.number high es o r.1 a).0 in
    ap (filter p) (without-other e o.number es lt) ∙ ap (λ (rest : List SemEntry). cond (p e) (e ∷ rest) rest) (filter-without p o e.number high es r.1 a t)

pub length-without : (o : SemEntry) (low high : ℕ) (es : List SemEntry) → Rises low es high → Among es o → length (without o.number es) < length es
length-without o low high [] r a = absurd a
length-without o low high (e ∷ es) r (inl same) =
    let n : e.number ≡ o.number = ap (λ (x : SemEntry). x.number) same in
    let gone : without o.number (e ∷ es) ≡ es = without-same e o.number es n ∙ without-none e.number high o.number es (omega arith) r.1 in
    rw gone (omega arith)
length-without o low high (e ∷ es) r (inr a) =
    let lt : e.number < o.number = (rises-above e.number high es o r.1 a).0 in
    let ih = length-without o e.number high es r.1 a in
    rw (without-other e o.number es lt) (omega arith)

-- the entry at the place of a number
pub found-at : (n high : ℕ) (es : List SemEntry) (place : ℕ) → Rises 0 es high → place < length es → slice_get es place ≡ numbered n es
    → (numbered n es ≡ Some (get_or es place no_entry)) × Among es (get_or es place no_entry) × ((get_or es place no_entry).number ≡ n)
found-at n high es place r lt is =
    let there : numbered n es ≡ Some (get_or es place no_entry) = sym is ∙ get-there es place no_entry lt in
    let found = among-find (λ e. e.number == n) es (get_or es place no_entry) there in
    (there, found.0, (let t : ((get_or es place no_entry).number == n) ≡ true = found.1 in grind (arith, nat_tests)))

pub removed-at : (n high : ℕ) (es : List SemEntry) (place : ℕ) → Rises 0 es high → place < length es → slice_get es place ≡ numbered n es → take place es ++ drop (place + 1) es ≡ without n es
removed-at n high es place r lt is =
    let next : place + 1 ≡ suc place = omega arith in
    ap (λ (m : ℕ). take place es ++ drop m es) next ∙ without-at 0 high es place n no_entry r lt (found-at n high es place r lt is).2
