-- What a client asks is answered by one PDU, or waits; and what waited is answered by one.
use Rattle.std.proofs.Common.{◌≡◌, ◌≢◌, ℕ, zero, suc, ◌+◌, ◌<◌, Bool, true, false, cond, not, ◌==◌, List, [], ◌∷◌, ◌++◌, append-nil, append_assoc, get_or, length, length-append, slice_get, unwrap_or, Option, None, Some, option_map, Result, Ok, Err, if◌then◌else◌, refl, sym, ◌∙◌, ap, subst, arith}
use Rattle.std.specs.List.{AllByRecursion, count_by}
use Rattle.std.proofs.lemmas.List.Sums.{sum_by-append}
use Rattle.mms_types.specs.declared.event.What.{What}
use Rattle.mms_types.specs.declared.pdu.Pdu.{Pdu}
use Rattle.mms_types.specs.declared.pdu.Pdu.TheVariants as pdu
use Rattle.mms_types.specs.declared.pdu.Answer.TheVariants as answer
use Rattle.association.specs.declared.client_part.NotAdmitted.{NotAdmitted}
use Rattle.association.specs.declared.negotiation.Negotiated.{Negotiated}
use Rattle.association.specs.declared.waiting.Waiting.{Waiting}
use Rattle.association.specs.Admission.{admission, waiting_if}
use Rattle.association.specs.Client.{ClientRow}
use Rattle.association.specs.Waiting.{AreDistinct, without}
use Rattle.parted_state.specs.ListsLaws.{get_changed}
use Rattle.parted_state.specs.Served.{delivered, reached, row_at}
use Rattle.sem_ticks.specs.declared.granted.Granted.{Granted}
use Rattle.cell_client.specs.Association.{sends}
use Rattle.cell_client.specs.Effects.{Effect, Sends, Opens, Closes, Waits, Answers, Asks, Settles, Drains, felt}
use Rattle.cell_services.specs.Services.{grant_told}
use Rattle.cell_services.specs.Serving.{waiting_of}
use Rattle.cell_stress.specs.Counts.{is_pdu}
use Rattle.step_parts.specs.Partition.{cell, no_client}
use Rattle.step_sound.proofs.Sound.{delivered_both}
use Rattle.cell_laws.specs.Tally.{sent_by, sent_to}
use Rattle.cell_laws.proofs.Bound.{nat-same}
use Rattle.cell_laws.proofs.Hears.{IsAdmitted, IsStill, RowsDistinct, nobody-admitted, row-other, waits_in}

-- how many requests of a client wait
abbrev pub waits_of : ℕ → List ClientRow → ℕ
waits_of c rows = length (row_at cell c rows).waiting

-- how many PDUs a client is sent by what is told
abbrev pub pdus_told : ℕ → List ClientRow → List (ℕ × Effect) → ℕ
pdus_told c rows told = count_by is_pdu (sent_to c rows told)

-- what is told sends a client a PDU for each request that it asked and for each that waits no more, but for those that wait now
abbrev pub Even : ℕ → List (ℕ × Effect) → List ClientRow → ℕ → Type 0
Even c told rows asked = pdus_told c rows told + waits_of c (delivered cell told rows) ≡ waits_of c rows + asked

-- ---- one after the other

count-append : (xs ys : List What) → count_by is_pdu (xs ++ ys) ≡ count_by is_pdu xs + count_by is_pdu ys
count-append xs ys = sum_by-append (λ e. cond (is_pdu e) 1 0) xs ys

pub sent-append : (c : ℕ) (xs ys : List (ℕ × Effect)) (rows : List ClientRow) → sent_to c rows (xs ++ ys) ≡ sent_to c rows xs ++ sent_to c (delivered cell xs rows) ys
sent-append c [] ys rows = refl
sent-append c (x ∷ xs) ys rows =
    let first = if c == x.0 then sent_by (row_at cell c rows) x.1 else [] in
    let next = reached cell x.0 x.1 rows in
    ap (λ l. first ++ l) (sent-append c xs ys next) ∙ sym (append_assoc first (sent_to c next xs) (sent_to c (delivered cell xs next) ys))

pub even-both : (c : ℕ) (xs ys : List (ℕ × Effect)) (rows : List ClientRow) (t u : ℕ) → Even c xs rows t → Even c ys (delivered cell xs rows) u → Even c (xs ++ ys) rows (t + u)
even-both c xs ys rows t u first second =
    let sums = ap (λ (l : List What). count_by is_pdu l) (sent-append c xs ys rows) ∙ count-append (sent_to c rows xs) (sent_to c (delivered cell xs rows) ys) in
    let after = ap (waits_of c) (delivered_both xs ys rows) in
    omega (arith, first, second, sums, after)

pub even-none : (c : ℕ) (rows : List ClientRow) → Even c [] rows 0
even-none c rows = omega arith

-- ---- one effect

-- so many, if that is the client
abbrev pub of_client : ℕ → ℕ → ℕ → ℕ
of_client c k n = if c == k then n else 0

piece : (c k : ℕ) (e : Effect) (rows : List ClientRow) (t : ℕ) → count_by is_pdu (sent_by (row_at cell k rows) e) + waits_of k (reached cell k e rows) ≡ waits_of k rows + t
    → Even c ((k, e) ∷ []) rows (of_client c k t)
piece c k e rows t here = by_test (c == k) refl
  where
    by_test : (b : Bool) → (c == k) ≡ b
        → count_by is_pdu ((if b then sent_by (row_at cell c rows) e else []) ++ []) + waits_of c (reached cell k e rows) ≡ waits_of c rows + (if b then t else 0)
    by_test true same =
        let is = nat-same c k same in
        ap (λ (l : List What). count_by is_pdu l + waits_of c (reached cell k e rows)) (append-nil (sent_by (row_at cell c rows) e))
        ∙ subst (λ (d : ℕ). count_by is_pdu (sent_by (row_at cell d rows) e) + waits_of d (reached cell k e rows) ≡ waits_of d rows + t) (sym is) here
    by_test false other =
        let same = ap (λ (row : ClientRow). length row.waiting) (row-other e k c rows other) in
        omega (arith, same)

-- an effect by which no request waits more or less
still-many : (e : Effect) → IsStill e → (k : ℕ) (rows : List ClientRow) → waits_of k (reached cell k e rows) ≡ waits_of k rows
still-many e still zero rows = refl
still-many e still (suc k) rows = ap (λ (o : Option ClientRow). length (unwrap_or o no_client).waiting) (get_changed (felt e) rows k) ∙ by_row (slice_get rows k)
  where
    one : (x : Effect) → IsStill x → (row : ClientRow) → (felt x row).waiting ≡ row.waiting
    one (Sends output) s row = refl
    one (Opens values) s row = refl
    one Closes s row = absurd s
    one (Waits request) s row = absurd s
    one (Answers invoke) s row = absurd s
    one (Asks kind domain) s row = refl
    one (Settles number) s row = refl
    one Drains s row = refl

    by_row : (o : Option ClientRow) → length (unwrap_or (option_map (felt e) o) no_client).waiting ≡ length (unwrap_or o no_client).waiting
    by_row None = refl
    by_row (Some row) = ap (λ (l : List Waiting). length l) (one e still row)

-- a PDU is sent
pub even-sends : (c k : ℕ) (p : Pdu) (rows : List ClientRow) → Even c ((k, sends p) ∷ []) rows (of_client c k 1)
even-sends c k p rows = piece c k (sends p) rows 1 (let same = still-many (sends p) tt k rows in omega (arith, same))

-- an association opens, or what was to be sent is taken away
pub even-opens : (c k : ℕ) (values : Negotiated) (rows : List ClientRow) → Even c ((k, Opens values) ∷ []) rows (of_client c k 0)
even-opens c k values rows = piece c k (Opens values) rows 0 (let same = still-many (Opens values) tt k rows in omega (arith, same))

pub even-drains : (c k : ℕ) (rows : List ClientRow) → Even c ((k, Drains) ∷ []) rows (of_client c k 0)
even-drains c k rows = piece c k Drains rows 0 (let same = still-many Drains tt k rows in omega (arith, same))

-- a request waits that is admitted
one-more-waits : (w : Waiting) (k : ℕ) (rows : List ClientRow) → IsAdmitted w.invoke (row_at cell k rows) → waits_of k (reached cell k (Waits w) rows) ≡ waits_of k rows + 1
one-more-waits w zero rows may = absurd (nobody-admitted w.invoke may)
one-more-waits w (suc k) rows may = ap (λ (o : Option ClientRow). length (unwrap_or o no_client).waiting) (get_changed (felt (Waits w)) rows k) ∙ by_row (slice_get rows k) may
  where
    by_row : (o : Option ClientRow) → IsAdmitted w.invoke (unwrap_or o no_client)
        → length (unwrap_or (option_map (felt (Waits w)) o) no_client).waiting ≡ length (unwrap_or o no_client).waiting + 1
    by_row None h = absurd (nobody-admitted w.invoke h)
    by_row (Some row) h =
        let more = ap (λ (r : Result Unit NotAdmitted). length (waiting_if r w row).waiting) h in
        let long = length-append row.waiting (w ∷ []) in
        omega (arith, more, long)

pub even-waits : (c k : ℕ) (w : Waiting) (rows : List ClientRow) → IsAdmitted w.invoke (row_at cell k rows) → Even c ((k, Waits w) ∷ []) rows (of_client c k 1)
even-waits c k w rows may = piece c k (Waits w) rows 1 (let more = one-more-waits w k rows may in omega (arith, more))

-- ---- a request that waited is answered

-- none of that invokeID
abbrev HasNone : ℕ → List Waiting → Type 0
HasNone j ws = AllByRecursion (λ w. (w.invoke == j) ≡ false) ws

none-less : (j : ℕ) (ws : List Waiting) → HasNone j ws → length (without j ws) ≡ length ws
none-less j [] none = refl
none-less j (w ∷ ws) none =
    ap (λ (b : Bool). length (cond (not b) (w ∷ without j ws) (without j ws))) none.0 ∙ ap (λ (n : ℕ). suc n) (none-less j ws none.1)

has-none : (j : ℕ) (ws : List Waiting) → ((i : ℕ) (d : Waiting) → i < length ws → (get_or ws i d).invoke ≢ j) → HasNone j ws
has-none j [] each = tt
has-none j (w ∷ ws) each = (by_test (w.invoke == j) refl, has-none j ws (λ i d low. each (suc i) d (omega (arith, low))))
  where
    by_test : (b : Bool) → (w.invoke == j) ≡ b → b ≡ false
    by_test true e = absurd (each 0 w (omega arith) (nat-same w.invoke j e))
    by_test false e = refl

one-less : (j : ℕ) (ws : List Waiting) (w : Waiting) → waiting_of j ws ≡ Some w → AreDistinct ws → length (without j ws) + 1 ≡ length ws
one-less j [] w there distinct = absurd (cc there)
one-less j (x ∷ ws) w there distinct = by_test (x.invoke == j) refl there (λ more. one-less j ws w more (λ a b d less low. distinct (suc a) (suc b) d (omega (arith, less)) (omega (arith, low))))
  where
    by_test : (b : Bool) → (x.invoke == j) ≡ b → cond b (Some x) (waiting_of j ws) ≡ Some w → (waiting_of j ws ≡ Some w → length (without j ws) + 1 ≡ length ws)
        → length (cond (not b) (x ∷ without j ws) (without j ws)) + 1 ≡ length (x ∷ ws)
    by_test true e h rest =
        let same = nat-same x.invoke j e in
        let none = none-less j ws (has-none j ws (λ i d low is. distinct 0 (suc i) d (omega arith) (omega (arith, low)) (same ∙ sym is))) in
        omega (arith, none)
    by_test false e h rest = let less = rest h in omega (arith, less)

one-waits-no-more : (j k : ℕ) (rows : List ClientRow) (w : Waiting) → waits_in rows k j ≡ Some w → RowsDistinct rows → waits_of k (reached cell k (Answers j) rows) + 1 ≡ waits_of k rows
one-waits-no-more j zero rows w there distinct = absurd (cc there)
one-waits-no-more j (suc k) rows w there distinct =
    let less = one-less j (row_at cell (suc k) rows).waiting w there (distinct (suc k)) in
    let same = ap (λ (o : Option ClientRow). length (unwrap_or o no_client).waiting) (get_changed (felt (Answers j)) rows k) ∙ by_row (slice_get rows k) in
    omega (arith, less, same)
  where
    by_row : (o : Option ClientRow) → length (unwrap_or (option_map (felt (Answers j)) o) no_client).waiting ≡ length (without j (unwrap_or o no_client).waiting)
    by_row None = refl
    by_row (Some row) = refl

-- it waits no more, and that is sent
pub even-answered : (c k j : ℕ) (p : Pdu) (rows : List ClientRow) (w : Waiting) → waits_in rows k j ≡ Some w → RowsDistinct rows → Even c ((k, Answers j) ∷ (k, sends p) ∷ []) rows 0
even-answered c k j p rows w there distinct = by_test (c == k) refl
  where
    between : List ClientRow
    between = reached cell k (Answers j) rows

    by_test : (b : Bool) → (c == k) ≡ b
        → count_by is_pdu ((if b then [] else []) ++ ((if b then sent_by (row_at cell c between) (sends p) else []) ++ [])) + waits_of c (reached cell k (sends p) between) ≡ waits_of c rows + 0
    by_test true e =
        let is = nat-same c k e in
        let less = one-waits-no-more j k rows w there distinct in
        let same = still-many (sends p) tt k between in
        let after = ap (λ (d : ℕ). waits_of d (reached cell k (sends p) between)) is in
        let before = ap (λ (d : ℕ). waits_of d rows) is in
        omega (arith, less, same, after, before)
    by_test false e =
        let one = ap (λ (row : ClientRow). length row.waiting) (row-other (sends p) k c between e) in
        let two = ap (λ (row : ClientRow). length row.waiting) (row-other (Answers j) k c rows e) in
        omega (arith, one, two)

-- a token is granted to one that waited for it
pub even-grant : (c : ℕ) (g : Granted) (rows : List ClientRow) (w : Waiting) → waits_in rows g.client g.invoke ≡ Some w → RowsDistinct rows → Even c (grant_told g) rows 0
even-grant c g rows w there distinct = even-answered c g.client g.invoke (pdu.ConfirmedResponse g.invoke (answer.TakeControl g.answer)) rows w there distinct

-- ---- associations

-- an effect by which no association opens or ends
abbrev pub IsSteady : Effect → Type 0
IsSteady (Sends output) = Unit {0}
IsSteady (Opens values) = ⊥
IsSteady Closes = ⊥
IsSteady (Waits request) = Unit {0}
IsSteady (Answers invoke) = Unit {0}
IsSteady (Asks kind domain) = Unit {0}
IsSteady (Settles number) = Unit {0}
IsSteady Drains = Unit {0}

abbrev pub Steady : List (ℕ × Effect) → Type 0
Steady [] = Unit {0}
Steady (t ∷ told) = IsSteady t.1 × Steady told

pub steady-both : (xs ys : List (ℕ × Effect)) → Steady xs → Steady ys → Steady (xs ++ ys)
steady-both [] ys a b = b
steady-both (x ∷ xs) ys a b = (a.0, steady-both xs ys a.1 b)

felt-steady : (e : Effect) → IsSteady e → (row : ClientRow) → (felt e row).association ≡ row.association
felt-steady (Sends output) s row = refl
felt-steady (Opens values) s row = absurd s
felt-steady Closes s row = absurd s
felt-steady (Waits request) s row = by_admission (admission request.invoke row)
  where
    by_admission : (r : Result Unit NotAdmitted) → (waiting_if r request row).association ≡ row.association
    by_admission (Ok may) = refl
    by_admission (Err refusal) = refl
felt-steady (Answers invoke) s row = refl
felt-steady (Asks kind domain) s row = refl
felt-steady (Settles number) s row = refl
felt-steady Drains s row = refl

felt-constants : (e : Effect) (row : ClientRow) → (felt e row).constants ≡ row.constants
felt-constants (Sends output) row = refl
felt-constants (Opens values) row = refl
felt-constants Closes row = refl
felt-constants (Waits request) row = by_admission (admission request.invoke row)
  where
    by_admission : (r : Result Unit NotAdmitted) → (waiting_if r request row).constants ≡ row.constants
    by_admission (Ok may) = refl
    by_admission (Err refusal) = refl
felt-constants (Answers invoke) row = refl
felt-constants (Asks kind domain) row = refl
felt-constants (Settles number) row = refl
felt-constants Drains row = refl

-- what an effect leaves of each row it leaves of all rows
module _ {A : Type 0} (of : ClientRow → A) (e : Effect) (same : (row : ClientRow) → of (felt e row) ≡ of row) where
  reached-keeps : (k c : ℕ) (rows : List ClientRow) → of (row_at cell c (reached cell k e rows)) ≡ of (row_at cell c rows)
  reached-keeps zero c rows = refl
  reached-keeps (suc k) c rows = by_test (c == suc k) refl
    where
      by_row : (o : Option ClientRow) → of (unwrap_or (option_map (felt e) o) no_client) ≡ of (unwrap_or o no_client)
      by_row None = refl
      by_row (Some row) = same row

      by_test : (b : Bool) → (c == suc k) ≡ b → of (row_at cell c (reached cell (suc k) e rows)) ≡ of (row_at cell c rows)
      by_test true is =
          subst (λ (d : ℕ). of (row_at cell d (reached cell (suc k) e rows)) ≡ of (row_at cell d rows)) (sym (nat-same c (suc k) is))
          (ap (λ (o : Option ClientRow). of (unwrap_or o no_client)) (get_changed (felt e) rows k) ∙ by_row (slice_get rows k))
      by_test false other = ap of (row-other e (suc k) c rows other)

pub steady_association : (told : List (ℕ × Effect)) → Steady told → (c : ℕ) (rows : List ClientRow) → (row_at cell c (delivered cell told rows)).association ≡ (row_at cell c rows).association
steady_association [] s c rows = refl
steady_association (t ∷ told) s c rows =
    steady_association told s.1 c (reached cell t.0 t.1 rows) ∙ reached-keeps (λ row. row.association) t.1 (felt-steady t.1 s.0) t.0 c rows

pub told_constants : (told : List (ℕ × Effect)) (c : ℕ) (rows : List ClientRow) → (row_at cell c (delivered cell told rows)).constants ≡ (row_at cell c rows).constants
told_constants [] c rows = refl
told_constants (t ∷ told) c rows = told_constants told c (reached cell t.0 t.1 rows) ∙ reached-keeps (λ row. row.constants) t.1 (felt-constants t.1) t.0 c rows
