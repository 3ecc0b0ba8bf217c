-- What holds of the entries of a semaphore and their rows stays so, and who is served by the rows is who is served.
use Rattle.std.proofs.Common.{◌≡◌, ℕ, ◌+◌, ◌-◌, ◌<◌, inl, inr, Bool, true, false, not, cond, ◌&&◌, ◌||◌, ◌==◌, List, [], ◌∷◌, ◌++◌, map, filter, find, fold, length, get_or, option_map, Option, None, Some, is_some, refl, sym, ◌∙◌, ap, subst, arith}
use Rattle.std.specs.List.{list_any}
use Rattle.std.proofs.lemmas.Bool.Decides.{nat_tests}
use Rattle.mms_types.specs.declared.moment.Moment.{Moment}
use Rattle.token_sem.specs.declared.entry.SemEntry.{SemEntry}
use Rattle.token_sem.specs.declared.entry.SemState.TheVariants.{Hung}
use Rattle.token_sem.specs.Semaphore as s
use Rattle.token_sem.specs.Semaphore.{is_queued, Rises, without, numbered, hung_entry, waits_for, owned_by}
use Rattle.token_sem.specs.Named as named
use Rattle.token_sem.specs.Entries.{Table, row_of, rows_of, is_ranked, put_entry, IsTable, AreEntries, ArePlaced, lists_of, next_of, name_of, token_of, owner_from, grant_of, freed, told_freed, left, told_left, after_end, lose_one, loss_of, loss_of_one}
use Rattle.token_sem.proofs.Keeping.{Among, among-find, among-least, rises-without, same_number}
use Rattle.token_sem.proofs.Serving.{numbered-at}
use Rattle.token_sem.proofs.Unowned.{none_passes}
use Rattle.token_sem.proofs.Taking.{rises-push}
use Rattle.token_sem.proofs.Positions.{put-is, filter-without, length-without, among-at}
use Rattle.token_sem.proofs.Ranked.{chosen-rows, least-map, without-row, left-rows, left-tokens, left-spare, numbered-row, add-row, add-none, put-row, gone-row, unranked-is}
use Rattle.sem_queue.specs.declared.row.Row.{Row}
use Rattle.sem_queue.specs.Rows as q
use Rattle.sem_queue.specs.Rows.{Queue, with_row, is_placed}

abbrev cons : SemEntry → List SemEntry → List SemEntry
cons e es = e ∷ es

-- places of tokens
pub placed-filter : (count : ℕ) (p : SemEntry → Bool) (es : List SemEntry) → ArePlaced count es → ArePlaced count (filter p es)
placed-filter count p [] h = tt
placed-filter count p (e ∷ es) h = by_test (p e) (placed-filter count p es h.1)
  where
    by_test : (b : Bool) → ArePlaced count (filter p es) → ArePlaced count (cond b (e ∷ filter p es) (filter p es))
    by_test true rest = (h.0, rest)
    by_test false rest = rest

pub placed-map : (count : ℕ) (f : SemEntry → SemEntry) (es : List SemEntry) → ((e : SemEntry) → is_placed count e.token ≡ true → is_placed count (f e).token ≡ true) → ArePlaced count es → ArePlaced count (map f es)
placed-map count f [] keeps h = tt
placed-map count f (e ∷ es) keeps h = (keeps e h.0, placed-map count f es keeps h.1)

placed-put : (count : ℕ) (new : SemEntry) (es : List SemEntry) → is_placed count new.token ≡ true → ArePlaced count es → ArePlaced count (map (put_entry new) es)
placed-put count new es t h = placed-map count (put_entry new) es (λ e k. by_test e (e.number == new.number) k) h
  where
    by_test : (e : SemEntry) (b : Bool) → is_placed count e.token ≡ true → is_placed count (cond b new e).token ≡ true
    by_test e true k = t
    by_test e false k = k

placed-push : (count : ℕ) (es : List SemEntry) (e : SemEntry) → ArePlaced count es → is_placed count e.token ≡ true → ArePlaced count (es ++ e ∷ [])
placed-push count [] e h t = (t, tt)
placed-push count (x ∷ es) e h t = (h.0, placed-push count es e h.1 t)

pub placed-among : (count : ℕ) (es : List SemEntry) (e : SemEntry) → ArePlaced count es → Among es e → is_placed count e.token ≡ true
placed-among count [] e h a = absurd a
placed-among count (x ∷ es) e h (inl same) = ap (λ (y : SemEntry). is_placed count y.token) (sym same) ∙ h.0
placed-among count (x ∷ es) e h (inr a) = placed-among count es e h.1 a

-- numbers
rises-put : (low high : ℕ) (new : SemEntry) (es : List SemEntry) → Rises low es high → Rises low (map (put_entry new) es) high
rises-put low high new [] r = r
rises-put low high new (e ∷ es) r = (subst (λ (m : ℕ). low < m) (sym (number e)) r.0, let P : ℕ → Type 0 = λ m. Rises m (map (put_entry new) es) high in subst P (sym (number e)) (rises-put e.number high new es r.1))
  where
    number : (e : SemEntry) → (put_entry new e).number ≡ e.number
    number e = by_test (e.number == new.number) refl
      where
        by_test : (b : Bool) → (e.number == new.number) ≡ b → (cond b new e).number ≡ e.number
        by_test true t = grind (arith, nat_tests)
        by_test false t = refl

-- an entry comes
pub added : (tokens : Option ℕ) (es : List SemEntry) (e : SemEntry) (k k₁ k₂ : Queue) → IsTable tokens es k → 0 < e.number → Rises 0 es (e.number - 1) → is_placed (lists_of tokens) e.token ≡ true → is_ranked e ≡ true
    → k₁ ≡ record k { spare = k₁.spare } → k₂ ≡ record k₁ { rows = with_row (row_of e) k₁.rows; spare = k₁.spare - 1 } → IsTable tokens (es ++ e ∷ []) k₂
added tokens es e k k₁ k₂ is some above t ranked room come = record {
  rows = ap (λ (x : Queue). x.rows) come ∙ ap (λ (x : Queue). with_row (row_of e) x.rows) room ∙ ap (with_row (row_of e)) is.rows ∙ add-row 0 (e.number - 1) es e above (omega (arith, some)) ranked;
  lists = ap (λ (x : Queue). x.tokens) come ∙ ap (λ (x : Queue). x.tokens) room ∙ is.lists;
  rises = (e.number - 1 + 1, rises-push 0 (e.number - 1) es e above (omega (arith, some)));
  placed = placed-push (lists_of tokens) es e is.placed t;
}

pub added-unranked : (tokens : Option ℕ) (es : List SemEntry) (e : SemEntry) (k : Queue) → IsTable tokens es k → 0 < e.number → Rises 0 es (e.number - 1) → is_placed (lists_of tokens) e.token ≡ true → is_ranked e ≡ false
    → IsTable tokens (es ++ e ∷ []) k
added-unranked tokens es e k is some above t unranked = record {
  rows = is.rows ∙ sym (add-none es e unranked);
  lists = is.lists;
  rises = (e.number - 1 + 1, rises-push 0 (e.number - 1) es e above (omega (arith, some)));
  placed = placed-push (lists_of tokens) es e is.placed t;
}

pub roomy : (tokens : Option ℕ) (es : List SemEntry) (k k₁ : Queue) → IsTable tokens es k → k₁ ≡ record k { spare = k₁.spare } → IsTable tokens es k₁
roomy tokens es k k₁ is room = record {
  rows = ap (λ (x : Queue). x.rows) room ∙ is.rows;
  lists = ap (λ (x : Queue). x.tokens) room ∙ is.lists;
  rises = is.rises;
  placed = is.placed;
}

-- an entry goes
pub removed : (tokens : Option ℕ) (n : ℕ) (es : List SemEntry) (k k₁ : Queue) → IsTable tokens es k → k₁ ≡ q.after_remove (q.numbered n k.rows) k → IsTable tokens (without n es) k₁
removed tokens n es k k₁ is gone = record {
  rows = ap (λ (x : Queue). x.rows) gone ∙ left-rows n k ∙ ap (q.without n) is.rows ∙ without-row n es;
  lists = ap (λ (x : Queue). x.tokens) gone ∙ left-tokens (q.numbered n k.rows) k ∙ is.lists;
  rises = (is.rises.0, rises-without 0 is.rises.0 n es is.rises.1);
  placed = placed-filter (lists_of tokens) (λ e. not (e.number == n)) es is.placed;
}

-- an entry that is in no order goes
unranked-rows : (low high : ℕ) (e : SemEntry) (es : List SemEntry) → Rises low es high → Among es e → is_ranked e ≡ false → rows_of (without e.number es) ≡ rows_of es
unranked-rows low high e es r a t = ap (map row_of) (filter-without is_ranked e low high es r a t)

pub removed-unranked : (tokens : Option ℕ) (e : SemEntry) (es : List SemEntry) (k : Queue) → IsTable tokens es k → Among es e → is_ranked e ≡ false → IsTable tokens (without e.number es) k
removed-unranked tokens e es k is a t = record {
  rows = is.rows ∙ sym (unranked-rows 0 is.rises.0 e es is.rises.1 a t);
  lists = is.lists;
  rises = (is.rises.0, rises-without 0 is.rises.0 e.number es is.rises.1);
  placed = placed-filter (lists_of tokens) (λ x. not (x.number == e.number)) es is.placed;
}

-- an entry takes the place of another, and neither is in an order
pub put-neither : (tokens : Option ℕ) (es : List SemEntry) (new o : SemEntry) (k : Queue) → IsTable tokens es k → Among es o → o.number ≡ new.number → is_placed (lists_of tokens) new.token ≡ true
    → is_ranked o ≡ false → is_ranked new ≡ false → IsTable tokens (map (put_entry new) es) k
put-neither tokens es new o k is a same t u r = record {
  rows = is.rows ∙ sym (unranked-rows 0 is.rises.0 o es is.rises.1 a u) ∙ ap (λ (n : ℕ). rows_of (without n es)) same ∙ sym (without-row new.number es)
      ∙ put-row 0 is.rises.0 es new o false is.rises.1 a same r;
  lists = is.lists;
  rises = (is.rises.0, rises-put 0 is.rises.0 new es is.rises.1);
  placed = placed-put (lists_of tokens) new es t is.placed;
}

-- an entry takes the place of another
module _ (tokens : Option ℕ) (es : List SemEntry) (new o : SemEntry) (k k₁ : Queue) (is : IsTable tokens es k) (a : Among es o) (same : o.number ≡ new.number)
    (t : is_placed (lists_of tokens) new.token ≡ true) (gone : k₁ ≡ q.after_remove (q.numbered new.number k.rows) k) where
  kept_rows : k₁.rows ≡ q.without new.number (rows_of es)
  kept_rows = ap (λ (x : Queue). x.rows) gone ∙ left-rows new.number k ∙ ap (q.without new.number) is.rows

  pub put-absent : q.count_numbered new.number k₁.rows ≡ 0
  put-absent = ap (q.count_numbered new.number) kept_rows ∙ gone-row new.number (rows_of es)

  pub put-room : is_ranked o ≡ true → 0 < k₁.spare
  put-room r =
      let there : q.numbered new.number k.rows ≡ Some (row_of o) =
      ap (q.numbered new.number) is.rows ∙ numbered-row new.number o es (ap (λ (m : ℕ). numbered m es) (sym same) ∙ numbered-at 0 is.rises.0 es o is.rises.1 a) r in
      rw gone (left-spare (q.numbered new.number k.rows) k (row_of o) there)

  pub put-ranked : (k₂ : Queue) → is_ranked new ≡ true → k₂ ≡ record k₁ { rows = with_row (row_of new) k₁.rows; spare = k₁.spare - 1 } → IsTable tokens (map (put_entry new) es) k₂
  put-ranked k₂ r come = record {
    rows = ap (λ (x : Queue). x.rows) come ∙ ap (with_row (row_of new)) kept_rows ∙ put-row 0 is.rises.0 es new o true is.rises.1 a same r;
    lists = ap (λ (x : Queue). x.tokens) come ∙ ap (λ (x : Queue). x.tokens) gone ∙ left-tokens (q.numbered new.number k.rows) k ∙ is.lists;
    rises = (is.rises.0, rises-put 0 is.rises.0 new es is.rises.1);
    placed = placed-put (lists_of tokens) new es t is.placed;
  }

  pub put-unranked : is_ranked new ≡ false → IsTable tokens (map (put_entry new) es) k₁
  put-unranked r = record {
    rows = kept_rows ∙ put-row 0 is.rises.0 es new o false is.rises.1 a same r;
    lists = ap (λ (x : Queue). x.tokens) gone ∙ left-tokens (q.numbered new.number k.rows) k ∙ is.lists;
    rises = (is.rises.0, rises-put 0 is.rises.0 new es is.rises.1);
    placed = placed-put (lists_of tokens) new es t is.placed;
  }

-- who wants a token, by the entries and by their rows
suits-same : (token : ℕ) (o : Option ℕ) → q.suits token o ≡ named.suits o (Some token)
suits-same token None = refl
suits-same token (Some n) = refl

-- of equal tokens each that is wanted is the one that there is
wants-equal : (token : ℕ) (e : SemEntry) → token < 1 → is_placed 1 e.token ≡ true → q.wants token (row_of e) ≡ is_queued e
wants-equal token e lt t = by_token e.token t (is_queued e)
  where
    by_token : (o : Option ℕ) → is_placed 1 o ≡ true → (b : Bool) → (b && q.suits token o) ≡ b
    by_token None t true = refl
    by_token None t false = refl
    by_token (Some n) t false = refl
    by_token (Some n) t true = let z : n < 1 = grind (arith, nat_tests) in grind (arith, nat_tests)

equal-rows : (token : ℕ) (es : List SemEntry) → token < 1 → ArePlaced 1 es → filter (q.wants token) (rows_of es) ≡ map row_of (filter is_queued es)
equal-rows token es lt h = by_rows es h
  where
    by_rows : (es : List SemEntry) → ArePlaced 1 es → filter (q.wants token) (rows_of es) ≡ map row_of (filter is_queued es)
    by_rows [] h = refl
    by_rows (e ∷ es) h = by_ranked (is_ranked e) refl (by_rows es h.1) (wants-equal token e lt h.0)
      where
        take_in : (b : Bool) → is_queued e ≡ b → q.wants token (row_of e) ≡ is_queued e → filter (q.wants token) (rows_of es) ≡ map row_of (filter is_queued es)
            → cond (q.wants token (row_of e)) (row_of e ∷ filter (q.wants token) (rows_of es)) (filter (q.wants token) (rows_of es)) ≡ map row_of (filter is_queued (e ∷ es))
        take_in true t w ih =
            ap (λ (b : Bool). cond b (row_of e ∷ filter (q.wants token) (rows_of es)) (filter (q.wants token) (rows_of es))) (w ∙ t) ∙ ap (λ (rows : List Row). row_of e ∷ rows) ih
            ∙ sym (ap (λ (b : Bool). map row_of (cond b (e ∷ filter is_queued es) (filter is_queued es))) t)
        take_in false t w ih =
            ap (λ (b : Bool). cond b (row_of e ∷ filter (q.wants token) (rows_of es)) (filter (q.wants token) (rows_of es))) (w ∙ t) ∙ ih
            ∙ sym (ap (λ (b : Bool). map row_of (cond b (e ∷ filter is_queued es) (filter is_queued es))) t)

        by_ranked : (b : Bool) → is_ranked e ≡ b → filter (q.wants token) (rows_of es) ≡ map row_of (filter is_queued es) → q.wants token (row_of e) ≡ is_queued e
            → filter (q.wants token) (rows_of (e ∷ es)) ≡ map row_of (filter is_queued (e ∷ es))
        by_ranked true t ih w = ap (filter (q.wants token)) (ap (λ (b : Bool). map row_of (cond b (e ∷ filter is_ranked es) (filter is_ranked es))) t) ∙ take_in (is_queued e) refl w ih
        by_ranked false t ih w =
            ap (filter (q.wants token)) (ap (λ (b : Bool). map row_of (cond b (e ∷ filter is_ranked es) (filter is_ranked es))) t) ∙ ih
            ∙ sym (ap (λ (b : Bool). map row_of (cond b (e ∷ filter is_queued es) (filter is_queued es))) (unranked-is e t).0)

named-rows : (token : ℕ) (es : List SemEntry) → filter (q.wants token) (rows_of es) ≡ map row_of (filter (named.wants token) es)
named-rows token es = chosen-rows (q.wants token) (named.wants token) (λ e. ap (λ (b : Bool). is_queued e && b) (suits-same token e.token)) (λ e t. ap (λ (b : Bool). b && named.suits e.token (Some token)) (unranked-is e t).0) es

number-first : (o : Option SemEntry) → option_map (λ (r : Row). r.number) (option_map row_of o) ≡ option_map (λ (e : SemEntry). e.number) o
number-first None = refl
number-first (Some e) = refl

first-number : (rows : List Row) (es : List SemEntry) (token : ℕ) → filter (q.wants token) rows ≡ map row_of es → q.least_number token rows ≡ option_map (λ (e : SemEntry). e.number) (s.least s.before es)
first-number rows es token h =
    ap (λ (kept : List Row). option_map (λ (r : Row). r.number) (q.least q.before kept)) h
    ∙ ap (option_map (λ (r : Row). r.number)) (least-map row_of s.before q.before (λ a b. refl) es)
    ∙ number-first (s.least s.before es)

-- the number of who is served
pub next-number : (tokens : Option ℕ) (token : ℕ) (es : List SemEntry) (k : Queue) → IsTable tokens es k → token < lists_of tokens → q.least_number token k.rows ≡ option_map (λ e. e.number) (next_of tokens token es)
next-number None token es k is lt = ap (q.least_number token) is.rows ∙ first-number (rows_of es) (filter is_queued es) token (equal-rows token es lt is.placed)
next-number (Some count) token es k is lt = ap (q.least_number token) is.rows ∙ first-number (rows_of es) (filter (named.wants token) es) token (named-rows token es)

-- who is served waits among them
pub next-among : (tokens : Option ℕ) (token : ℕ) (es : List SemEntry) (e : SemEntry) → next_of tokens token es ≡ Some e → Among es e × (is_queued e ≡ true)
next-among None token es e f = among-least s.before is_queued es e f
next-among (Some count) token es e f = let found = among-least s.before (named.wants token) es e f in (found.0, first (is_queued e) (named.suits e.token (Some token)) found.1)
  where
    first : (b c : Bool) → (b && c) ≡ true → b ≡ true
    first true c t = refl
    first false c t = absurd cc

-- the entry of the number that the rows tell
pub next-is : (tokens : Option ℕ) (token : ℕ) (es : List SemEntry) (k : Queue) (o : Option ℕ) → IsTable tokens es k → token < lists_of tokens → o ≡ q.least_number token k.rows
    → ((n : ℕ) → o ≡ Some n → numbered n es ≡ next_of tokens token es) × (o ≡ None → next_of tokens token es ≡ None)
next-is tokens token es k o is lt told = by_next (next_of tokens token es) refl (told ∙ next-number tokens token es k is lt)
  where
    by_next : (m : Option SemEntry) → next_of tokens token es ≡ m → o ≡ option_map (λ (e : SemEntry). e.number) m → ((n : ℕ) → o ≡ Some n → numbered n es ≡ m) × (o ≡ None → m ≡ None)
    by_next None f h = (λ n g. absurd (cc (h, g)), λ g. refl)
    by_next (Some e) f h =
        (λ n g. (let same : e.number ≡ n = cc (h, g) in ap (λ (m : ℕ). numbered m es) (sym same) ∙ numbered-at 0 is.rises.0 es e is.rises.1 (next-among tokens token es e f).0), λ g. absurd (cc (h, g)))

-- the entry that is served becomes owner
owner-number : (name : Option ℕ) (now : Moment) (e : SemEntry) → (owner_from name now e).number ≡ e.number
owner-number None now e = refl
owner-number (Some token) now e = refl

pub owner-placed : (tokens : Option ℕ) (token : ℕ) (now : Moment) (e : SemEntry) → token < lists_of tokens → is_placed (lists_of tokens) e.token ≡ true → is_placed (lists_of tokens) (owner_from (name_of tokens token) now e).token ≡ true
owner-placed None token now e lt t = t
owner-placed (Some count) token now e lt t = grind (arith, nat_tests)

-- it was in an order, since it waited
pub owner-ranks : (t : Table) (token : ℕ) (now : Moment) (e : SemEntry) → AreEntries t → next_of t.named token t.list ≡ Some e
    → ((owner_from (name_of t.named token) now e).number ≡ e.number) × ((x : SemEntry) → numbered e.number t.list ≡ Some x → is_ranked x ≡ true)
owner-ranks t token now e is f = (
  owner-number (name_of t.named token) now e,
  λ x there.
      let a = next-among t.named token t.list e f in
      let here : numbered e.number t.list ≡ Some e = numbered-at 0 is.rises.0 t.list e is.rises.1 a.0 in
      let same : e ≡ x = cc (here, there) in
      ap (λ (b : Bool). b || is_some x.deadline) (ap is_queued (sym same) ∙ a.1),
)

pub freed-state : (tokens : Option ℕ) (token : ℕ) (now : Moment) (es : List SemEntry) (e : SemEntry) → AreEntries (record { list = es; named = tokens }) → next_of tokens token es ≡ Some e
    → map (put_entry (owner_from (name_of tokens token) now e)) es ≡ freed tokens token now es
freed-state None token now es e is f =
    sym (ap (λ (o : Option SemEntry). s.granted_to o now es) f
    ∙ put-is (s.granted_entry e.number now) e.number (s.owner_from now e) e is.rises.0 es is.rises.1 (next-among None token es e f).0 refl
    (sym (ap (λ (b : Bool). cond b (s.owner_from now e) e) (same_number e.number e.number refl))) refl (λ x d. ap (λ (b : Bool). cond b (s.owner_from now x) x) d))
freed-state (Some count) token now es e is f =
    sym (ap (λ (o : Option SemEntry). named.granted_to o token now es) f
    ∙ put-is (named.granted_entry e.number token now) e.number (named.owner_from token now e) e is.rises.0 es is.rises.1 (next-among (Some count) token es e f).0 refl
    (sym (ap (λ (b : Bool). cond b (named.owner_from token now e) e) (same_number e.number e.number refl))) refl (λ x d. ap (λ (b : Bool). cond b (named.owner_from token now x) x) d))

pub freed-none : (tokens : Option ℕ) (token : ℕ) (now : Moment) (es : List SemEntry) → next_of tokens token es ≡ None → (es ≡ freed tokens token now es) × (None ≡ told_freed tokens token es)
freed-none None token now es f = (sym (ap (λ (o : Option SemEntry). s.granted_to o now es) f), sym (ap (option_map s.grant_of) f))
freed-none (Some count) token now es f = (sym (ap (λ (o : Option SemEntry). named.granted_to o token now es) f), sym (ap (option_map (named.grant_of token)) f))

pub freed-told : (tokens : Option ℕ) (token : ℕ) (es : List SemEntry) (e : SemEntry) → next_of tokens token es ≡ Some e → Some (grant_of (name_of tokens token) e) ≡ told_freed tokens token es
freed-told None token es e f = sym (ap (option_map s.grant_of) f)
freed-told (Some count) token es e f = sym (ap (option_map (named.grant_of token)) f)

-- an entry that has a token goes
pub token-lists : (tokens : Option ℕ) (o : Option ℕ) (token : ℕ) → is_placed (lists_of tokens) o ≡ true → token_of tokens o ≡ Some token → token < lists_of tokens
token-lists None o token t f = let z : 0 ≡ token = cc f in omega arith
token-lists (Some count) None token t f = absurd cc
token-lists (Some count) (Some n) token t f = let same : n ≡ token = cc f in grind (arith, nat_tests)

pub left-none : (tokens : Option ℕ) (e : SemEntry) (now : Moment) (es : List SemEntry) → token_of tokens e.token ≡ None → (without e.number es ≡ left tokens e now es) × (None ≡ told_left tokens e es)
left-none None e now es f = absurd cc
left-none (Some count) e now es f =
    (sym (ap (λ (o : Option ℕ). named.after_freeing_of o now (without e.number es)) f), sym (ap (λ (o : Option ℕ). named.grant_freeing o (without e.number es)) f))

pub left-some : (tokens : Option ℕ) (e : SemEntry) (now : Moment) (es : List SemEntry) (token : ℕ) → token_of tokens e.token ≡ Some token
    → (freed tokens token now (without e.number es) ≡ left tokens e now es) × (told_freed tokens token (without e.number es) ≡ told_left tokens e es)
left-some None e now es token f = (refl, refl)
left-some (Some count) e now es token f =
    (sym (ap (λ (o : Option ℕ). named.after_freeing_of o now (without e.number es)) f), sym (ap (λ (o : Option ℕ). named.grant_freeing o (without e.number es)) f))

-- where nobody waits, none is served
any-fewer : (p q : SemEntry → Bool) → ((e : SemEntry) → p e ≡ false → q e ≡ false) → (es : List SemEntry) → list_any p es ≡ false → list_any q es ≡ false
any-fewer p q fewer [] f = refl
any-fewer p q fewer (e ∷ es) f = by_test (p e) refl f (any-fewer p q fewer es)
  where
    by_test : (b : Bool) → p e ≡ b → (b || list_any p es) ≡ false → (list_any p es ≡ false → list_any q es ≡ false) → (q e || list_any q es) ≡ false
    by_test true t f ih = absurd cc
    by_test false t f ih = ap (λ (b : Bool). b || list_any q es) (fewer e t) ∙ ih f

any-without : (p : SemEntry → Bool) (n : ℕ) (es : List SemEntry) → list_any p es ≡ false → list_any p (without n es) ≡ false
any-without p n [] f = refl
any-without p n (e ∷ es) f = by_test (p e) refl f (any-without p n es) (not (e.number == n))
  where
    by_test : (b : Bool) → p e ≡ b → (b || list_any p es) ≡ false → (list_any p es ≡ false → list_any p (without n es) ≡ false) → (c : Bool) → list_any p (cond c (e ∷ without n es) (without n es)) ≡ false
    by_test true t f ih c = absurd cc
    by_test false t f ih true = ap (λ (b : Bool). b || list_any p (without n es)) t ∙ ih f
    by_test false t f ih false = ih f

pub next-nobody : (tokens : Option ℕ) (token : ℕ) (es : List SemEntry) → list_any is_queued es ≡ false → next_of tokens token es ≡ None
next-nobody None token es f = ap (s.least s.before) (none_passes is_queued es f)
next-nobody (Some count) token es f =
    ap (s.least s.before) (none_passes (named.wants token) es (any-fewer is_queued (named.wants token) (λ e t. ap (λ (b : Bool). b && named.suits e.token (Some token)) t) es f))

pub told-nobody : (tokens : Option ℕ) (e : SemEntry) (es : List SemEntry) → list_any is_queued es ≡ false → None ≡ told_left tokens e es
told-nobody tokens e es f = by_token (token_of tokens e.token) refl
  where
    by_token : (o : Option ℕ) → token_of tokens e.token ≡ o → None ≡ told_left tokens e es
    by_token None g = (left-none tokens e record { 0 = 0 } es g).1
    by_token (Some token) g =
        (freed-none tokens token record { 0 = 0 } (without e.number es) (next-nobody tokens token (without e.number es) (any-without is_queued e.number es f))).1
        ∙ (left-some tokens e record { 0 = 0 } es token g).1

-- one that doesn't wait is not who is served
pub next-without : (tokens : Option ℕ) (token : ℕ) (es : List SemEntry) (high : ℕ) (e : SemEntry) → Rises 0 es high → Among es e → is_queued e ≡ false → next_of tokens token (without e.number es) ≡ next_of tokens token es
next-without None token es high e r a t = ap (s.least s.before) (filter-without is_queued e 0 high es r a t)
next-without (Some count) token es high e r a t =
    ap (s.least s.before) (filter-without (named.wants token) e 0 high es r a (ap (λ (b : Bool). b && named.suits e.token (Some token)) t))

pub told-next : (tokens : Option ℕ) (token : ℕ) (es es' : List SemEntry) → next_of tokens token es ≡ next_of tokens token es' → told_freed tokens token es ≡ told_freed tokens token es'
told-next None token es es' f = ap (option_map s.grant_of) f
told-next (Some count) token es es' f = ap (option_map (named.grant_of token)) f

-- an entry becomes hung
pub hung-state : (n high : ℕ) (es : List SemEntry) (e : SemEntry) → Rises 0 es high → numbered n es ≡ Some e → map (put_entry (record e { state = Hung })) es ≡ map (hung_entry n) es
hung-state n high es e r f =
    let found = among-find (λ x. x.number == n) es e f in
    let same : e.number ≡ n = (let t : (e.number == n) ≡ true = found.1 in grind (arith, nat_tests)) in
    sym (put-is (hung_entry n) n (record e { state = Hung }) e high es r found.0 same (sym (ap (λ (b : Bool). cond b (record e { state = Hung }) e) found.1)) same (λ x d. ap (λ (b : Bool). cond b (record x { state = Hung }) x) d))

pub hung-none : (n : ℕ) (es : List SemEntry) → numbered n es ≡ None → map (hung_entry n) es ≡ es
hung-none n [] f = refl
hung-none n (e ∷ es) f = by_test (e.number == n) f (hung-none n es)
  where
    by_test : (b : Bool) → cond b (Some e) (numbered n es) ≡ None → (numbered n es ≡ None → map (hung_entry n) es ≡ es) → cond b (record e { state = Hung }) e ∷ map (hung_entry n) es ≡ e ∷ es
    by_test true f ih = absurd cc
    by_test false f ih = ap (cons e) (ih f)

-- a hung entry is in an order where it was before
pub hung-ranks : (n : ℕ) (es : List SemEntry) (e : SemEntry) → numbered n es ≡ Some e
    → (x : SemEntry) → numbered e.number es ≡ Some x → is_ranked (record e { state = Hung }) ≡ true → is_ranked x ≡ true
hung-ranks n es e f x there ranked =
    let found = among-find (λ y. y.number == n) es e f in
    let same : e.number ≡ n = (let t : (e.number == n) ≡ true = found.1 in grind (arith, nat_tests)) in
    let again : numbered n es ≡ Some x = ap (λ (m : ℕ). numbered m es) (sym same) ∙ there in
    let is : e ≡ x = cc (f, again) in
    ap is_ranked (sym is) ∙ by_test (is_queued e) ranked
  where
    by_test : (b : Bool) → is_some e.deadline ≡ true → (b || is_some e.deadline) ≡ true
    by_test true h = refl
    by_test false h = h

-- owners have tokens that are there
pub placed-at : (count : ℕ) (es : List SemEntry) (i : ℕ) (d : SemEntry) → ArePlaced count es → i < length es → is_placed count (get_or es i d).token ≡ true
placed-at count es i d h lt = placed-among count es (get_or es i d) h (among-at es i d lt)

-- a client that owns none leaves none
pub none-lost : (tokens : Option ℕ) (client : ℕ) (now : Moment) (es : List SemEntry) → list_any (owned_by client) es ≡ false
    → loss_of tokens client now es ≡ record { entries = filter (λ e. not (waits_for client e)) es; grants = [] }
none-lost tokens client now es e =
    ap (λ (owners : List SemEntry). fold (loss_of_one tokens now) (record { entries = filter (λ x. not (waits_for client x)) es; grants = [] }) owners) (none_passes (owned_by client) es e)

-- where none waits for the client, none goes
pub no-waiter : (client : ℕ) (es : List SemEntry) → find (waits_for client) es ≡ None → filter (λ e. not (waits_for client e)) es ≡ es
no-waiter client [] f = refl
no-waiter client (e ∷ es) f = by_test (waits_for client e) f (no-waiter client es)
  where
    by_test : (b : Bool) → cond b (Some e) (find (waits_for client) es) ≡ None → (find (waits_for client) es ≡ None → filter (λ x. not (waits_for client x)) es ≡ es)
        → cond (not b) (e ∷ filter (λ x. not (waits_for client x)) es) (filter (λ x. not (waits_for client x)) es) ≡ e ∷ es
    by_test true f ih = absurd cc
    by_test false f ih = ap (cons e) (ih f)

-- where nobody waits, none waits for the client
pub nobody-waits : (client : ℕ) (es : List SemEntry) → list_any is_queued es ≡ false → None ≡ find (waits_for client) es
nobody-waits client [] f = refl
nobody-waits client (e ∷ es) f = by_test (is_queued e) refl f (nobody-waits client es)
  where
    both : (b c : Bool) → c ≡ false → (b && c) ≡ false
    both true c f = f
    both false c f = refl

    by_test : (b : Bool) → is_queued e ≡ b → (b || list_any is_queued es) ≡ false → (list_any is_queued es ≡ false → None ≡ find (waits_for client) es) → None ≡ find (waits_for client) (e ∷ es)
    by_test true t f ih = absurd cc
    by_test false t f ih = ih f ∙ sym (ap (λ (b : Bool). cond b (Some e) (find (waits_for client) es)) (both (e.client == client) (is_queued e) t))

pub waiter-goes : (client : ℕ) (t : Table) (e : SemEntry) → AreEntries t → find (waits_for client) t.list ≡ Some e
    → (filter (λ x. not (waits_for client x)) (without e.number t.list) ≡ filter (λ x. not (waits_for client x)) t.list) × (length (without e.number t.list) < length t.list)
waiter-goes client t e is f =
    let found = among-find (waits_for client) t.list e f in
    (filter-without (λ x. not (waits_for client x)) e 0 is.rises.0 t.list is.rises.1 found.0 (ap not found.1), length-without e 0 is.rises.0 t.list is.rises.1 found.0)

-- of equal tokens

pub owner-is : (client : ℕ) (es : List SemEntry) (o : SemEntry) → s.owner_of client es ≡ Some o → Among es o × (s.is_owner o ≡ true)
owner-is client es o f =
    let found = among-find (λ e. e.client == client && s.is_owner e) es o f in
    (found.0, second (o.client == client) (s.is_owner o) found.1)
  where
    second : (b c : Bool) → (b && c) ≡ true → c ≡ true
    second true c t = t
    second false c t = absurd cc

pub left-equal : (tokens : Option ℕ) (e : SemEntry) (now : Moment) (es : List SemEntry) → tokens ≡ None → left tokens e now es ≡ s.after_freeing now (without e.number es)
left-equal tokens e now es f = ap (λ (o : Option ℕ). left o e now es) f

pub ended-equal : (tokens : Option ℕ) (sem : s.Sem) (e : SemEntry) (now : Moment) → tokens ≡ None → record sem { entries = after_end tokens e now sem.entries } ≡ s.expired_entry (Some e) now sem
ended-equal tokens sem e now f = ap (λ (o : Option ℕ). record sem { entries = after_end o e now sem.entries }) f ∙ by_test (is_queued e)
  where
    by_test : (b : Bool) → record sem { entries = cond b (without e.number sem.entries) (s.after_freeing now (without e.number sem.entries)) } ≡ cond b (s.after_cancel sem e.number) (record sem { entries = s.after_freeing now (without e.number sem.entries) })
    by_test true = refl
    by_test false = refl

pub loss-equal : (tokens : Option ℕ) (client : ℕ) (now : Moment) (es : List SemEntry) → tokens ≡ None → loss_of tokens client now es ≡ s.loss_of client now es
loss-equal tokens client now es f = ap (λ (o : Option ℕ). loss_of o client now es) f

pub lose_one-equal : (tokens : Option ℕ) (client : ℕ) (now : Moment) (l : s.Loss) → tokens ≡ None → lose_one tokens client now l ≡ s.lose_one client now l
lose_one-equal tokens client now l f = ap (λ (o : Option ℕ). lose_one o client now l) f
