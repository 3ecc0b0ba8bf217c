-- What a client is told answers as many of its requests as are taken, but for those that wait.
use Rattle.std.proofs.Common.{◌≡◌, ℕ, zero, suc, ◌+◌, ◌⊎◌, inl, inr, Bool, true, false, cond, ◌==◌, ◌&&◌, List, [], ◌∷◌, ◌++◌, slice_get, unwrap_or, Option, None, Some, is_some, option_map, Result, Ok, Err, if◌then◌else◌, refl, sym, ◌∙◌, ap, subst, arith}
use Rattle.mms_types.specs.declared.asked.Asked.{Asked}
use Rattle.mms_types.specs.declared.event.What.{What}
use Rattle.mms_types.specs.declared.event.What.TheVariants.{Octets, Abort}
use Rattle.mms_types.specs.declared.pdu.Pdu.{Pdu}
use Rattle.mms_types.specs.declared.pdu.Pdu.TheVariants as pdu
use Rattle.association.specs.declared.client_part.NotAdmitted.{NotAdmitted}
use Rattle.association.specs.declared.negotiation.Association.TheVariants.{Idle}
use Rattle.association.specs.declared.waiting.Waiting.{Waiting}
use Rattle.association.specs.Admission.{admission, waiting_if}
use Rattle.association.specs.Client.{ClientRow}
use Rattle.mms_pdu.specs.Answering.{is_answer}
use Rattle.mms_pdu.specs.Pdus.{pdu_octets}
use Rattle.parted_state.specs.ListsLaws.{get_changed}
use Rattle.parted_state.specs.Served.{row_at, reached, delivered}
use Rattle.cell_client.specs.Association.{sends}
use Rattle.cell_client.specs.Effects.{Effect, Sends, Opens, Closes, Waits, Answers, Asks, Settles, Drains, felt, server_request}
use Rattle.cell_services.specs.Serving.{waiting_of}
use Rattle.step_parts.specs.Partition.{cell, no_client}
use Rattle.step_sound.proofs.Sound.{delivered_both}
use Rattle.cell_laws.specs.Tally.{AreSpelled, is_opening, sent_by, sent_to}
use Rattle.cell_laws.proofs.Bound.{nat-same}
use Rattle.cell_laws.proofs.Counting.{many}
use Rattle.cell_laws.proofs.Hears.{IsAdmitted, admitted-none, reached-answered, reached-still, reached-waits, row-other, waits_in}

-- a test as a number
abbrev pub bit : Bool → ℕ
bit b = if b then 1 else 0

-- how many requests of that client and that invokeID wait
abbrev pub waits : List ClientRow → ℕ → ℕ → ℕ
waits rows c i = bit (is_some (waits_in rows c i))

abbrev pub IsIdle : ℕ → List ClientRow → Type 0
IsIdle c rows = (row_at cell c rows).association ≡ Idle

-- one of the client and the invokeID
abbrev pub one_of : ℕ → ℕ → ℕ → ℕ → ℕ
one_of k j c i = bit (c == k && i == j)

-- what is told to a client answers what was taken and what waited, but for what waits then
pub record Fair (c : ℕ) (told : List (ℕ × Effect)) (rows : List ClientRow) (taken : ℕ → ℕ) : Type 0 where
  pub pdus : List Pdu
  pub spelled : AreSpelled (sent_to c rows told) pdus
  pub balance : (i : ℕ) → taken i + waits rows c i ≡ many (is_answer i) pdus + waits (delivered cell told rows) c i

-- or there is no association then
abbrev pub Outcome : ℕ → List (ℕ × Effect) → List ClientRow → (ℕ → ℕ) → Type 0
Outcome c told rows taken = Fair c told rows taken ⊎ IsIdle c (delivered cell told rows)

abbrev pub none_taken : ℕ → ℕ
none_taken i = 0

-- ---- lists

pub many-append : {A : Type 0} (p : A → Bool) (xs ys : List A) → many p (xs ++ ys) ≡ many p xs + many p ys
many-append p [] ys = omega arith
many-append p (x ∷ xs) ys =
    let rest = many-append p xs ys in
    let first : ℕ = bit (p x) in
    let all : first + many p (xs ++ ys) ≡ first + many p xs + many p ys = omega (arith, rest) in all

append-all : {A : Type 0} (xs ys zs : List A) → (xs ++ ys) ++ zs ≡ xs ++ (ys ++ zs)
append-all [] ys zs = refl
append-all (x ∷ xs) ys zs = ap (λ l. x ∷ l) (append-all xs ys zs)

sent-append : (c : ℕ) (xs ys : List (ℕ × Effect)) (rows : List ClientRow) → sent_to c rows (xs ++ ys) ≡ sent_to c rows xs ++ sent_to c (delivered cell xs rows) ys
sent-append c [] ys rows = refl
sent-append c (x ∷ xs) ys rows =
    let first = if c == x.0 then sent_by (row_at cell c rows) x.1 else [] in
    let next = reached cell x.0 x.1 rows in
    ap (λ l. first ++ l) (sent-append c xs ys next) ∙ sym (append-all first (sent_to c next xs) (sent_to c (delivered cell xs next) ys))

pub spelled-append : (xs ys : List What) (ps qs : List Pdu) → AreSpelled xs ps → AreSpelled ys qs → AreSpelled (xs ++ ys) (ps ++ qs)
spelled-append [] ys ps qs a b = subst (λ (l : List Pdu). AreSpelled ys (l ++ qs)) (sym a) b
spelled-append (Octets octets ∷ xs) ys [] qs a b = absurd a
spelled-append (Octets octets ∷ xs) ys (p ∷ ps) qs a b = (a.0, spelled-append xs ys ps qs a.1 b)
spelled-append (Abort ∷ xs) ys ps qs a b = spelled-append xs ys ps qs a b

-- ---- where there is no association, none opens

abbrev pub Unopening : List (ℕ × Effect) → Type 0
Unopening [] = Unit {0}
Unopening (t ∷ told) = (is_opening t.1 ≡ false) × Unopening told

pub unopening-both : (xs ys : List (ℕ × Effect)) → Unopening xs → Unopening ys → Unopening (xs ++ ys)
unopening-both [] ys a b = b
unopening-both (x ∷ xs) ys a b = (a.0, unopening-both xs ys a.1 b)

felt-idle : (effect : Effect) (row : ClientRow) → is_opening effect ≡ false → row.association ≡ Idle → (felt effect row).association ≡ Idle
felt-idle (Sends output) row no_open idle = idle
felt-idle (Opens values) row no_open idle = absurd (cc no_open)
felt-idle Closes row no_open idle = refl
felt-idle (Waits request) row no_open idle = by_admission (admission request.invoke row)
  where
    by_admission : (r : Result Unit NotAdmitted) → (waiting_if r request row).association ≡ Idle
    by_admission (Ok may) = idle
    by_admission (Err refusal) = idle
felt-idle (Answers invoke) row no_open idle = idle
felt-idle (Asks kind domain) row no_open idle = idle
felt-idle (Settles number) row no_open idle = idle
felt-idle Drains row no_open idle = idle

reached-idle : (effect : Effect) (k c : ℕ) (rows : List ClientRow) → is_opening effect ≡ false → IsIdle c rows → IsIdle c (reached cell k effect rows)
reached-idle effect zero c rows no_open idle = idle
reached-idle effect (suc k) c rows no_open idle = by_test (c == suc k) refl
  where
    by_row : (o : Option ClientRow) → (unwrap_or o no_client).association ≡ Idle → (unwrap_or (option_map (felt effect) o) no_client).association ≡ Idle
    by_row None h = refl
    by_row (Some row) h = felt-idle effect row no_open h

    by_test : (b : Bool) → (c == suc k) ≡ b → IsIdle c (reached cell (suc k) effect rows)
    by_test true e =
        let same = nat-same c (suc k) e in
        subst (λ (d : ℕ). IsIdle d (reached cell (suc k) effect rows)) (sym same)
        (subst (λ (o : Option ClientRow). (unwrap_or o no_client).association ≡ Idle) (sym (get_changed (felt effect) rows k))
        (by_row (slice_get rows k) (subst (λ (d : ℕ). IsIdle d rows) same idle)))
    by_test false e = subst (λ (row : ClientRow). row.association ≡ Idle) (sym (row-other effect (suc k) c rows e)) idle

pub idle-stays : (told : List (ℕ × Effect)) (c : ℕ) (rows : List ClientRow) → Unopening told → IsIdle c rows → IsIdle c (delivered cell told rows)
idle-stays [] c rows un idle = idle
idle-stays (t ∷ told) c rows un idle = idle-stays told c (reached cell t.0 t.1 rows) un.1 (reached-idle t.1 t.0 c rows un.0 idle)

-- ---- one after the other

pub join : (c : ℕ) (xs ys : List (ℕ × Effect)) (rows : List ClientRow) (t u : ℕ → ℕ) → Unopening ys → Outcome c xs rows t → Outcome c ys (delivered cell xs rows) u
    → Outcome c (xs ++ ys) rows (λ i. t i + u i)
join c xs ys rows t u un (inr idle) second = inr (subst (IsIdle c) (sym (delivered_both xs ys rows)) (idle-stays ys c (delivered cell xs rows) un idle))
join c xs ys rows t u un (inl first) (inr idle) = inr (subst (IsIdle c) (sym (delivered_both xs ys rows)) idle)
join c xs ys rows t u un (inl first) (inl second) = inl (record {
  pdus = first.pdus ++ second.pdus;
  spelled = subst (λ (l : List What). AreSpelled l (first.pdus ++ second.pdus)) (sym (sent-append c xs ys rows))
      (spelled-append (sent_to c rows xs) (sent_to c (delivered cell xs rows) ys) first.pdus second.pdus first.spelled second.spelled);
  balance = λ i.
      let a = first.balance i in
      let b = second.balance i in
      let m = many-append (is_answer i) first.pdus second.pdus in
      let same : waits (delivered cell (xs ++ ys) rows) c i ≡ waits (delivered cell ys (delivered cell xs rows)) c i = ap (λ (l : List ClientRow). waits l c i) (delivered_both xs ys rows) in
      omega (arith, a, b, m, same);
})

-- ---- pieces

sent-single : (c k : ℕ) (effect : Effect) (rows : List ClientRow) (ps : List Pdu) (b : Bool) → (c == k) ≡ b → AreSpelled (sent_by (row_at cell c rows) effect) ps
    → AreSpelled (sent_to c rows ((k, effect) ∷ [])) (if b then ps else [])
sent-single c k effect rows ps true e spelled =
    subst (λ (t : Bool). AreSpelled ((if t then sent_by (row_at cell c rows) effect else []) ++ []) ps) (sym e)
    (subst (λ (l : List What). AreSpelled l ps) (sym (nothing-more (sent_by (row_at cell c rows) effect))) spelled)
  where
    nothing-more : (xs : List What) → xs ++ [] ≡ xs
    nothing-more [] = refl
    nothing-more (x ∷ xs) = ap (λ l. x ∷ l) (nothing-more xs)
sent-single c k effect rows ps false e spelled = subst (λ (t : Bool). AreSpelled ((if t then sent_by (row_at cell c rows) effect else []) ++ []) []) (sym e) refl

-- one effect, by what it does to the client and to others
piece : (c k : ℕ) (effect : Effect) (rows : List ClientRow) (ps : List Pdu) (taken : ℕ → ℕ) → AreSpelled (sent_by (row_at cell c rows) effect) ps
    → ((c == k) ≡ true → (i : ℕ) → taken i + waits rows c i ≡ many (is_answer i) ps + waits (reached cell k effect rows) c i)
    → ((c == k) ≡ false → (i : ℕ) → taken i ≡ 0) → Fair c ((k, effect) ∷ []) rows taken
piece c k effect rows ps taken spelled here there = by_test (c == k) refl
  where
    by_test : (b : Bool) → (c == k) ≡ b → Fair c ((k, effect) ∷ []) rows taken
    by_test true e = record { pdus = ps; spelled = sent-single c k effect rows ps true e spelled; balance = here e }
    by_test false e = record {
      pdus = [];
      spelled = sent-single c k effect rows ps false e spelled;
      balance = λ i.
          let none = there e i in
          let same : waits (reached cell k effect rows) c i ≡ waits rows c i = ap (λ (row : ClientRow). bit (is_some (waiting_of i row.waiting))) (row-other effect k c rows e) in
          omega (arith, none, same);
    }

-- a PDU that answers no request
abbrev pub IsQuiet : Pdu → Type 0
IsQuiet p = (i : ℕ) → is_answer i p ≡ false

pub piece-quiet : (c k : ℕ) (p : Pdu) (rows : List ClientRow) → IsQuiet p → Fair c ((k, sends p) ∷ []) rows none_taken
piece-quiet c k p rows quiet =
    piece c k (sends p) rows (p ∷ []) none_taken (refl, refl)
    (λ e i.
    let none : (bit (is_answer i p)) ≡ 0 = ap (λ (b : Bool). bit (b)) (quiet i) in
    let same : waits (reached cell k (sends p) rows) c i ≡ waits rows c i = ap (λ (o : Option Waiting). bit (is_some o)) (reached-still (sends p) tt k rows c i) in
    omega (arith, none, same))
    (λ e i. refl)

pub piece-abort : (c k : ℕ) (rows : List ClientRow) → Fair c ((k, Sends Abort) ∷ []) rows none_taken
piece-abort c k rows =
    piece c k (Sends Abort) rows [] none_taken refl
    (λ e i.
    let same : waits (reached cell k (Sends Abort) rows) c i ≡ waits rows c i = ap (λ (o : Option Waiting). bit (is_some o)) (reached-still (Sends Abort) tt k rows c i) in
    omega (arith, same))
    (λ e i. refl)

pub piece-drains : (c k : ℕ) (rows : List ClientRow) → Fair c ((k, Drains) ∷ []) rows none_taken
piece-drains c k rows =
    piece c k Drains rows [] none_taken refl
    (λ e i.
    let same : waits (reached cell k Drains rows) c i ≡ waits rows c i = ap (λ (o : Option Waiting). bit (is_some o)) (reached-still Drains tt k rows c i) in
    omega (arith, same))
    (λ e i. refl)

-- a request of the server is no answer
pub piece-asks : (c k : ℕ) (kind : Asked) (domain : List ℕ) (rows : List ClientRow) → Fair c ((k, Asks kind domain) ∷ []) rows none_taken
piece-asks c k kind domain rows =
    piece c k (Asks kind domain) rows (pdu.ServerRequest (row_at cell c rows).next_invoke (server_request kind domain) ∷ []) none_taken (refl, refl)
    (λ e i.
    let same : waits (reached cell k (Asks kind domain) rows) c i ≡ waits rows c i =
    ap (λ (o : Option Waiting). bit (is_some o)) (reached-still (Asks kind domain) tt k rows c i) in
    omega (arith, same))
    (λ e i. refl)

pub piece-settles : (c k number : ℕ) (rows : List ClientRow) → Fair c ((k, Settles number) ∷ []) rows none_taken
piece-settles c k number rows =
    piece c k (Settles number) rows [] none_taken refl
    (λ e i.
    let same : waits (reached cell k (Settles number) rows) c i ≡ waits rows c i = ap (λ (o : Option Waiting). bit (is_some o)) (reached-still (Settles number) tt k rows c i) in
    omega (arith, same))
    (λ e i. refl)

pub piece-closes : (c k : ℕ) (rows : List ClientRow) → Outcome c ((k, Closes) ∷ []) rows none_taken
piece-closes c k rows = by_test (c == k) refl
  where
    closed-row : (l : ℕ) → IsIdle l (reached cell l Closes rows)
    closed-row zero = refl
    closed-row (suc l) = subst (λ (o : Option ClientRow). (unwrap_or o no_client).association ≡ Idle) (sym (get_changed (felt Closes) rows l)) (by_row (slice_get rows l))
      where
        by_row : (o : Option ClientRow) → (unwrap_or (option_map (felt Closes) o) no_client).association ≡ Idle
        by_row None = refl
        by_row (Some row) = refl

    by_test : (b : Bool) → (c == k) ≡ b → Outcome c ((k, Closes) ∷ []) rows none_taken
    by_test true e = inr (subst (λ (d : ℕ). IsIdle d (reached cell k Closes rows)) (sym (nat-same c k e)) (closed-row k))
    by_test false e = inl (piece c k Closes rows [] none_taken refl (λ f i. absurd (cc (sym f ∙ e))) (λ f i. refl))

-- a PDU that answers the request of that invokeID
abbrev pub IsAnswerTo : ℕ → Pdu → Type 0
IsAnswerTo j p = (i : ℕ) → is_answer i p ≡ (i == j)

-- a request that is taken is answered at once
pub piece-own : (c k j : ℕ) (p : Pdu) (rows : List ClientRow) → IsAnswerTo j p → Fair c ((k, sends p) ∷ []) rows (one_of k j c)
piece-own c k j p rows is =
    piece c k (sends p) rows (p ∷ []) (one_of k j c) (refl, refl)
    (λ e i.
    let one : (bit (is_answer i p)) ≡ (bit (i == j)) = ap (λ (b : Bool). bit (b)) (is i) in
    let taken : one_of k j c i ≡ (bit (i == j)) = ap (λ (b : Bool). bit (b && i == j)) e in
    let same : waits (reached cell k (sends p) rows) c i ≡ waits rows c i = ap (λ (o : Option Waiting). bit (is_some o)) (reached-still (sends p) tt k rows c i) in
    omega (arith, one, taken, same))
    (λ e i. ap (λ (b : Bool). bit (b && i == j)) e)

-- or it waits
pub piece-waits : (c k : ℕ) (w : Waiting) (rows : List ClientRow) → IsAdmitted w.invoke (row_at cell k rows) → Fair c ((k, Waits w) ∷ []) rows (one_of k w.invoke c)
piece-waits c k w rows may =
    piece c k (Waits w) rows [] (one_of k w.invoke c) refl
    (λ e i. by_test i (i == w.invoke) refl e)
    (λ e i. ap (λ (b : Bool). bit (b && i == w.invoke)) e)
  where
    by_test : (i : ℕ) (b : Bool) → (i == w.invoke) ≡ b → (c == k) ≡ true → one_of k w.invoke c i + waits rows c i ≡ 0 + waits (reached cell k (Waits w) rows) c i
    by_test i b f e =
        let taken : one_of k w.invoke c i ≡ (bit (b)) = ap (λ (t : Bool). bit (t && i == w.invoke)) e ∙ ap (λ (t : Bool). bit (t)) f in
        let after : waits (reached cell k (Waits w) rows) c i ≡ (if is_some (cond b (Some w) (waits_in rows c i)) then 1 else 0) =
        ap (λ (o : Option Waiting). bit (is_some o)) (reached-waits w k rows may c i
        ∙ ap (λ (t : Bool). cond (t && i == w.invoke) (Some w) (waits_in rows c i)) e ∙ ap (λ (t : Bool). cond t (Some w) (waits_in rows c i)) f) in
        by_value b f after taken
      where
        by_value : (b : Bool) → (i == w.invoke) ≡ b → waits (reached cell k (Waits w) rows) c i ≡ (if is_some (cond b (Some w) (waits_in rows c i)) then 1 else 0)
            → one_of k w.invoke c i ≡ (bit (b)) → one_of k w.invoke c i + waits rows c i ≡ 0 + waits (reached cell k (Waits w) rows) c i
        by_value true g after taken =
            let before : waits rows c i ≡ 0 =
            ap (λ (o : Option Waiting). bit (is_some o))
            (ap (λ (d : ℕ). waits_in rows d i) (nat-same c k e) ∙ ap (waits_in rows k) (nat-same i w.invoke g) ∙ admitted-none w.invoke k rows may) in
            omega (arith, before, after, taken)
        by_value false g after taken = omega (arith, after, taken)

-- a request that waited is answered: it waits no more, and that is sent
pub piece-answered : (c k j : ℕ) (p : Pdu) (rows : List ClientRow) (w : Waiting) → waits_in rows k j ≡ Some w → IsAnswerTo j p
    → Fair c ((k, Answers j) ∷ (k, sends p) ∷ []) rows none_taken
piece-answered c k j p rows w there is = by_test (c == k) refl
  where
    after : (i : ℕ) → waits_in (reached cell k (sends p) (reached cell k (Answers j) rows)) c i ≡ cond (c == k && i == j) None (waits_in rows c i)
    after i = reached-still (sends p) tt k (reached cell k (Answers j) rows) c i ∙ reached-answered j k rows c i

    spells : (b : Bool) → AreSpelled ((if b then [] else []) ++ ((if b then Octets (pdu_octets p) ∷ [] else []) ++ [])) (if b then p ∷ [] else [])
    spells true = (refl, refl)
    spells false = refl

    by_test : (b : Bool) → (c == k) ≡ b → Fair c ((k, Answers j) ∷ (k, sends p) ∷ []) rows none_taken
    by_test true e = record {
      pdus = p ∷ [];
      spelled = subst (λ (t : Bool). AreSpelled ((if t then [] else []) ++ ((if t then Octets (pdu_octets p) ∷ [] else []) ++ [])) (p ∷ [])) (sym e) (refl, refl);
      balance = λ i. by_invoke i (i == j) refl;
    }
      where
        by_invoke : (i : ℕ) (b : Bool) → (i == j) ≡ b
            → 0 + waits rows c i ≡ many (is_answer i) (p ∷ []) + waits (reached cell k (sends p) (reached cell k (Answers j) rows)) c i
        by_invoke i true f =
            let one : (bit (is_answer i p)) ≡ 1 = ap (λ (b : Bool). bit (b)) (is i ∙ f) in
            let before : waits rows c i ≡ 1 =
            ap (λ (o : Option Waiting). bit (is_some o)) (ap (λ (d : ℕ). waits_in rows d i) (nat-same c k e) ∙ ap (waits_in rows k) (nat-same i j f) ∙ there) in
            let later : waits (reached cell k (sends p) (reached cell k (Answers j) rows)) c i ≡ 0 =
            ap (λ (o : Option Waiting). bit (is_some o)) (after i ∙ ap (λ t. cond (t && i == j) None (waits_in rows c i)) e ∙ ap (λ t. cond t None (waits_in rows c i)) f) in
            omega (arith, one, before, later)
        by_invoke i false f =
            let one : (bit (is_answer i p)) ≡ 0 = ap (λ (b : Bool). bit (b)) (is i ∙ f) in
            let later : waits (reached cell k (sends p) (reached cell k (Answers j) rows)) c i ≡ waits rows c i =
            ap (λ (o : Option Waiting). bit (is_some o)) (after i ∙ ap (λ t. cond (t && i == j) None (waits_in rows c i)) e ∙ ap (λ t. cond t None (waits_in rows c i)) f) in
            omega (arith, one, later)
    by_test false e = record {
      pdus = [];
      spelled = subst (λ (t : Bool). AreSpelled ((if t then [] else []) ++ ((if t then Octets (pdu_octets p) ∷ [] else []) ++ [])) []) (sym e) refl;
      balance = λ i.
          let later : waits (reached cell k (sends p) (reached cell k (Answers j) rows)) c i ≡ waits rows c i =
          ap (λ (o : Option Waiting). bit (is_some o)) (after i ∙ ap (λ t. cond (t && i == j) None (waits_in rows c i)) e) in
          omega (arith, later);
    }
