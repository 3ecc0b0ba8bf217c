-- Which requests of clients wait, as clients are told of effects.
use Rattle.std.proofs.Common.{◌≡◌, ◌≢◌, ℕ, zero, suc, ◌<◌, Bool, true, false, not, cond, ◌==◌, ◌&&◌, ◌||◌, List, [], ◌∷◌, ◌++◌, length, get_or, slice_get, unwrap_or, nat_le, Option, None, Some, option_map, Result, Ok, Err, if◌then◌else◌, refl, sym, ◌∙◌, ap, subst, arith}
use Rattle.std.proofs.lemmas.Bool.Decides.{nat_tests}
use Rattle.std.proofs.lemmas.List.Kept.{AllPairs-filter}
use Rattle.std.proofs.lemmas.List.Quantifiers.{all_pairs_push}
use Rattle.mms_types.specs.declared.asked.Asked.{Asked}
use Rattle.association.specs.declared.client_part.NotAdmitted.{NotAdmitted}
use Rattle.association.specs.declared.client_part.NotAdmitted.TheVariants as not_admitted
use Rattle.association.specs.declared.negotiation.Association.TheVariants.{Idle}
use Rattle.association.specs.declared.waiting.Waiting.{Waiting}
use Rattle.association.specs.Admission.{admission, called_of, waiting_if}
use Rattle.association.specs.Client.{ClientRow}
use Rattle.association.specs.Waiting.{AreDistinct, is_waiting, without}
use Rattle.sem_ticks.specs.declared.granted.Granted.{Granted}
use Rattle.parted_state.specs.ListsLaws.{get_changed, get_change}
use Rattle.parted_state.specs.Served.{row_at, reached, delivered}
use Rattle.cell_client.specs.Effects.{Effect, Sends, Opens, Closes, Waits, Answers, Asks, Settles, Drains, felt, tell}
use Rattle.cell_services.specs.Services.{grant_told, grants_told}
use Rattle.cell_services.specs.Serving.{waiting_of}
use Rattle.serve_domains.specs.Domains.{asks_next}
use Rattle.step_parts.specs.Partition.{cell, no_client}
use Rattle.cell_laws.proofs.Bound.{nat-same, nat-test}
use Rattle.cell_laws.proofs.Queues.{is_answered}

-- the request of that client and that invokeID that waits
abbrev pub waits_in : List ClientRow → ℕ → ℕ → Option Waiting
waits_in rows c i = waiting_of i (row_at cell c rows).waiting

-- ---- one effect

waits-without : (i j : ℕ) (waiting : List Waiting) → waiting_of i (without j waiting) ≡ cond (i == j) None (waiting_of i waiting)
waits-without i j [] = both-none (i == j)
  where
    both-none : (b : Bool) → None ≡ cond {A = Option Waiting} b None None
    both-none true = refl
    both-none false = refl
waits-without i j (w ∷ waiting) = by_tests (w.invoke == j) (w.invoke == i) refl refl (waits-without i j waiting)
  where
    by_tests : (a b : Bool) → (w.invoke == j) ≡ a → (w.invoke == i) ≡ b → waiting_of i (without j waiting) ≡ cond (i == j) None (waiting_of i waiting)
        → waiting_of i (cond (not a) (w ∷ without j waiting) (without j waiting)) ≡ cond (i == j) None (cond b (Some w) (waiting_of i waiting))
    by_tests true true ea eb ih =
        let one = nat-same w.invoke j ea in
        let other = nat-same w.invoke i eb in
        let same : (i == j) ≡ true = nat-test i j (sym other ∙ one) in
        ih ∙ ap (λ t. cond t None (waiting_of i waiting)) same ∙ sym (ap (λ t. cond t None (Some w)) same)
    by_tests true false ea eb ih = ih
    by_tests false true ea eb ih =
        let other = nat-same w.invoke i eb in
        let apart : (i == j) ≡ false = ap (λ k. k == j) (sym other) ∙ ea in
        ap (λ t. cond t (Some w) (waiting_of i (without j waiting))) eb ∙ sym (ap (λ t. cond t None (Some w)) apart)
    by_tests false false ea eb ih = ap (λ t. cond t (Some w) (waiting_of i (without j waiting))) eb ∙ ih

waits-push : (i : ℕ) (waiting : List Waiting) (request : Waiting) → is_waiting request.invoke waiting ≡ false
    → waiting_of i (waiting ++ request ∷ []) ≡ cond (i == request.invoke) (Some request) (waiting_of i waiting)
waits-push i [] request new = by_tests (request.invoke == i) (i == request.invoke) refl refl
  where
    by_tests : (a b : Bool) → (request.invoke == i) ≡ a → (i == request.invoke) ≡ b → cond a (Some request) None ≡ cond b (Some request) None
    by_tests true true ea eb = refl
    by_tests false false ea eb = refl
    by_tests true false ea eb = absurd (cc (sym (nat-test i request.invoke (sym (nat-same request.invoke i ea))) ∙ eb))
    by_tests false true ea eb = absurd (cc (sym (nat-test request.invoke i (sym (nat-same i request.invoke eb))) ∙ ea))
waits-push i (w ∷ waiting) request new = by_test (w.invoke == i) (w.invoke == request.invoke) refl refl new (waits-push i waiting request)
  where
    by_test : (a b : Bool) → (w.invoke == i) ≡ a → (w.invoke == request.invoke) ≡ b → b || is_waiting request.invoke waiting ≡ false
        → (is_waiting request.invoke waiting ≡ false → waiting_of i (waiting ++ request ∷ []) ≡ cond (i == request.invoke) (Some request) (waiting_of i waiting))
        → cond a (Some w) (waiting_of i (waiting ++ request ∷ [])) ≡ cond (i == request.invoke) (Some request) (cond a (Some w) (waiting_of i waiting))
    by_test a true ea eb h ih = absurd (cc h)
    by_test true false ea eb h ih =
        let apart : (i == request.invoke) ≡ false = ap (λ k. k == request.invoke) (sym (nat-same w.invoke i ea)) ∙ eb in
        sym (ap (λ t. cond t (Some request) (Some w)) apart)
    by_test false false ea eb h ih = ih h

-- ---- one effect on one of the rows

pub row-other : (effect : Effect) (k c : ℕ) (rows : List ClientRow) → (c == k) ≡ false → row_at cell c (reached cell k effect rows) ≡ row_at cell c rows
row-other effect zero c rows other = refl
row-other effect (suc k) zero rows other = refl
row-other effect (suc k) (suc c) rows other =
    ap (λ (o : Option ClientRow). unwrap_or o no_client) (get_change (felt effect) rows k c (λ same. cc (sym (nat-test (suc c) (suc k) (ap suc same)) ∙ other)))

-- what an effect makes of the request of an invokeID
module _ (effect : Effect) (t : ℕ → Option Waiting → Option Waiting) (none : (i : ℕ) → t i None ≡ None)
    (one : (row : ClientRow) (i : ℕ) → waiting_of i (felt effect row).waiting ≡ t i (waiting_of i row.waiting)) where
  here-is : (k i : ℕ) (rows : List ClientRow) → waits_in (reached cell k effect rows) k i ≡ t i (waits_in rows k i)
  here-is zero i rows = sym (none i)
  here-is (suc k) i rows = ap (λ (o : Option ClientRow). waiting_of i (unwrap_or o no_client).waiting) (get_changed (felt effect) rows k) ∙ by_row (slice_get rows k)
    where
      by_row : (o : Option ClientRow) → waiting_of i (unwrap_or (option_map (felt effect) o) no_client).waiting ≡ t i (waiting_of i (unwrap_or o no_client).waiting)
      by_row None = sym (none i)
      by_row (Some row) = one row i

  reached-by : (k : ℕ) (rows : List ClientRow) (c i : ℕ) → waits_in (reached cell k effect rows) c i ≡ cond (c == k) (t i (waits_in rows c i)) (waits_in rows c i)
  reached-by k rows c i = by_test (c == k) refl
    where
      by_test : (b : Bool) → (c == k) ≡ b → waits_in (reached cell k effect rows) c i ≡ cond b (t i (waits_in rows c i)) (waits_in rows c i)
      by_test true e =
          let same = nat-same c k e in
          ap (λ (d : ℕ). waits_in (reached cell k effect rows) d i) same ∙ here-is k i rows ∙ ap (λ (d : ℕ). t i (waits_in rows d i)) (sym same)
      by_test false e = ap (λ (row : ClientRow). waiting_of i row.waiting) (row-other effect k c rows e)

-- an effect by which no request waits more or less
abbrev pub IsStill : Effect → Type 0
IsStill (Sends output) = Unit {0}
IsStill (Opens values) = Unit {0}
IsStill Closes = ⊥
IsStill (Waits request) = ⊥
IsStill (Answers invoke) = ⊥
IsStill (Asks kind domain) = Unit {0}
IsStill (Settles number) = Unit {0}
IsStill Drains = Unit {0}

both : {A : Type 0} (b : Bool) (o : A) → cond b o o ≡ o
both true o = refl
both false o = refl

pub reached-still : (effect : Effect) → IsStill effect → (k : ℕ) (rows : List ClientRow) (c i : ℕ) → waits_in (reached cell k effect rows) c i ≡ waits_in rows c i
reached-still effect still k rows c i = reached-by effect (λ j o. o) (λ j. refl) (one effect still) k rows c i ∙ both (c == k) (waits_in rows c i)
  where
    one : (e : Effect) → IsStill e → (row : ClientRow) (j : ℕ) → waiting_of j (felt e row).waiting ≡ waiting_of j row.waiting
    one (Sends output) s row j = refl
    one (Opens values) s row j = refl
    one Closes s row j = absurd s
    one (Waits request) s row j = absurd s
    one (Answers invoke) s row j = absurd s
    one (Asks kind domain) s row j = refl
    one (Settles number) s row j = refl
    one Drains s row j = refl

pub reached-closed : (k : ℕ) (rows : List ClientRow) (c i : ℕ) → waits_in (reached cell k Closes rows) c i ≡ cond (c == k) None (waits_in rows c i)
reached-closed k rows c i = reached-by Closes (λ j o. None) (λ j. refl) (λ row j. refl) k rows c i

pub reached-answered : (invoke k : ℕ) (rows : List ClientRow) (c i : ℕ) → waits_in (reached cell k (Answers invoke) rows) c i ≡ cond (c == k && i == invoke) None (waits_in rows c i)
reached-answered invoke k rows c i =
    reached-by (Answers invoke) (λ j o. cond (j == invoke) None o) (λ j. both (j == invoke) None) (λ row j. waits-without j invoke row.waiting) k rows c i
    ∙ by_tests (c == k) (i == invoke)
  where
    by_tests : (a b : Bool) → cond a (cond b None (waits_in rows c i)) (waits_in rows c i) ≡ cond (a && b) None (waits_in rows c i)
    by_tests true b = refl
    by_tests false b = refl

-- a request waits that is admitted
abbrev pub IsAdmitted : ℕ → ClientRow → Type 0
IsAdmitted invoke row = admission invoke row ≡ Ok tt

abbrev may_be : Bool → Bool → Result Unit NotAdmitted
may_be b c = if b then Err not_admitted.Waiting else if c then Err not_admitted.Outstanding else Ok tt

admitted-new : (invoke : ℕ) (row : ClientRow) → IsAdmitted invoke row → is_waiting invoke row.waiting ≡ false
admitted-new invoke row is = by_waiting (is_waiting invoke row.waiting) (nat_le (called_of row.association) (length row.waiting)) is
  where
    by_waiting : (b c : Bool) → may_be b c ≡ Ok tt → b ≡ false
    by_waiting true c h = absurd (cc h)
    by_waiting false c h = refl

-- nothing is admitted without an association
pub admitted-open : (invoke : ℕ) (row : ClientRow) → IsAdmitted invoke row → row.association ≡ Idle → ⊥
admitted-open invoke row is idle = by_tests (is_waiting invoke row.waiting) (nat_le (called_of row.association) (length row.waiting)) refl is
  where
    by_tests : (b c : Bool) → nat_le (called_of row.association) (length row.waiting) ≡ c → may_be b c ≡ Ok tt → ⊥
    by_tests true c e h = cc h
    by_tests false true e h = cc h
    by_tests false false e h =
        let room : length row.waiting < called_of row.association = grind (arith, nat_tests) in
        let none : called_of row.association ≡ 0 = ap called_of idle in
        omega (arith, room, none)

pub nobody-admitted : (invoke : ℕ) → IsAdmitted invoke no_client → ⊥
nobody-admitted invoke h = cc h

pub reached-waits : (request : Waiting) (k : ℕ) (rows : List ClientRow) → IsAdmitted request.invoke (row_at cell k rows)
    → (c i : ℕ) → waits_in (reached cell k (Waits request) rows) c i ≡ cond (c == k && i == request.invoke) (Some request) (waits_in rows c i)
reached-waits request k rows may c i = by_test (c == k) refl
  where
    here : (l : ℕ) → IsAdmitted request.invoke (row_at cell l rows) → waits_in (reached cell l (Waits request) rows) l i ≡ cond (i == request.invoke) (Some request) (waits_in rows l i)
    here zero is = absurd (nobody-admitted request.invoke is)
    here (suc l) is = ap (λ (o : Option ClientRow). waiting_of i (unwrap_or o no_client).waiting) (get_changed (felt (Waits request)) rows l) ∙ by_row (slice_get rows l) is
      where
        by_row : (o : Option ClientRow) → IsAdmitted request.invoke (unwrap_or o no_client)
            → waiting_of i (unwrap_or (option_map (felt (Waits request)) o) no_client).waiting ≡ cond (i == request.invoke) (Some request) (waiting_of i (unwrap_or o no_client).waiting)
        by_row None h = absurd (nobody-admitted request.invoke h)
        by_row (Some row) h =
            ap (λ (r : Result Unit NotAdmitted). waiting_of i (waiting_if r request row).waiting) h ∙ waits-push i row.waiting request (admitted-new request.invoke row h)

    by_test : (b : Bool) → (c == k) ≡ b → waits_in (reached cell k (Waits request) rows) c i ≡ cond (b && i == request.invoke) (Some request) (waits_in rows c i)
    by_test true e =
        let same = nat-same c k e in
        ap (λ (d : ℕ). waits_in (reached cell k (Waits request) rows) d i) same ∙ here k may ∙ ap (λ (d : ℕ). cond (i == request.invoke) (Some request) (waits_in rows d i)) (sym same)
    by_test false e = ap (λ (row : ClientRow). waiting_of i row.waiting) (row-other (Waits request) k c rows e)

-- an invokeID of a request that is admitted doesn't wait
pub admitted-none : (invoke k : ℕ) (rows : List ClientRow) → IsAdmitted invoke (row_at cell k rows) → waits_in rows k invoke ≡ None
admitted-none invoke k rows may = none (row_at cell k rows).waiting (admitted-new invoke (row_at cell k rows) may)
  where
    none : (waiting : List Waiting) → is_waiting invoke waiting ≡ false → waiting_of invoke waiting ≡ None
    none [] h = refl
    none (w ∷ waiting) h = by_test (w.invoke == invoke) h (none waiting)
      where
        by_test : (b : Bool) → b || is_waiting invoke waiting ≡ false → (is_waiting invoke waiting ≡ false → waiting_of invoke waiting ≡ None) → cond b (Some w) (waiting_of invoke waiting) ≡ None
        by_test true g ih = absurd (cc g)
        by_test false g ih = ih g

-- ---- several effects

abbrev pub AreStill : List Effect → Type 0
AreStill [] = Unit {0}
AreStill (effect ∷ effects) = IsStill effect × AreStill effects

pub told-still : (k : ℕ) (effects : List Effect) (rows : List ClientRow) → AreStill effects → (c i : ℕ) → waits_in (delivered cell (tell k effects) rows) c i ≡ waits_in rows c i
told-still k [] rows still c i = refl
told-still k (effect ∷ effects) rows still c i = told-still k effects (reached cell k effect rows) still.1 c i ∙ reached-still effect still.0 k rows c i

-- also where several clients are told
abbrev pub AllStill : List (ℕ × Effect) → Type 0
AllStill [] = Unit {0}
AllStill (t ∷ told) = IsStill t.1 × AllStill told

pub all-still : (told : List (ℕ × Effect)) (rows : List ClientRow) → AllStill told → (c i : ℕ) → waits_in (delivered cell told rows) c i ≡ waits_in rows c i
all-still [] rows still c i = refl
all-still (t ∷ told) rows still c i = all-still told (reached cell t.0 t.1 rows) still.1 c i ∙ reached-still t.1 still.0 t.0 rows c i

-- what is asked next, where anything is
pub next-still : (client : ℕ) (o : Option Asked) (domain : List ℕ) → AllStill (asks_next client o domain)
next-still client None domain = tt
next-still client (Some kind) domain = (tt, tt)

pub granted-left : (grants : List Granted) (rows : List ClientRow) (c i : ℕ) → waits_in (delivered cell (grants_told grants) rows) c i ≡ cond (is_answered grants c i) None (waits_in rows c i)
granted-left [] rows c i = refl
granted-left (g ∷ grants) rows c i =
    granted-left grants (delivered cell (grant_told g) rows) c i
    ∙ ap (cond (is_answered grants c i) None) (reached-still _ tt g.client (reached cell g.client (Answers g.invoke) rows) c i ∙ reached-answered g.invoke g.client rows c i)
    ∙ by_tests (is_answered grants c i) (c == g.client && i == g.invoke)
  where
    by_tests : (a b : Bool) → cond a None (cond b None (waits_in rows c i)) ≡ cond (b || a) None (waits_in rows c i)
    by_tests true true = refl
    by_tests true false = refl
    by_tests false true = refl
    by_tests false false = refl

-- ---- no two requests of a client that wait have one invokeID

distinct-push : (waiting : List Waiting) (request : Waiting) → is_waiting request.invoke waiting ≡ false → AreDistinct waiting → AreDistinct (waiting ++ request ∷ [])
distinct-push waiting request new distinct = all_pairs_push (λ one other. one.invoke ≢ other.invoke) waiting request distinct (λ k d low. each waiting k d low new)
  where
    each : (ws : List Waiting) (k : ℕ) (d : Waiting) → k < length ws → is_waiting request.invoke ws ≡ false → (get_or ws k d).invoke ≢ request.invoke
    each [] k d low h same = absurd (omega (arith, low))
    each (w ∷ ws) k d low h same = by_test (w.invoke == request.invoke) refl h k low same (λ j less. each ws j d less)
      where
        by_test : (b : Bool) → (w.invoke == request.invoke) ≡ b → b || is_waiting request.invoke ws ≡ false → (j : ℕ) → j < length (w ∷ ws) → (get_or (w ∷ ws) j d).invoke ≡ request.invoke
            → ((l : ℕ) → l < length ws → is_waiting request.invoke ws ≡ false → (get_or ws l d).invoke ≢ request.invoke) → ⊥
        by_test true e g j less eq ih = absurd (cc g)
        by_test false e g zero less eq ih = absurd (cc (sym (nat-test w.invoke request.invoke eq) ∙ e))
        by_test false e g (suc j) less eq ih = ih j (omega (arith, less)) g eq

distinct-felt : (effect : Effect) (row : ClientRow) → AreDistinct row.waiting → AreDistinct (felt effect row).waiting
distinct-felt (Sends output) row distinct = distinct
distinct-felt (Opens values) row distinct = distinct
distinct-felt Closes row distinct = λ i j d less low. absurd (omega (arith, low))
distinct-felt (Waits request) row distinct = by_admission (admission request.invoke row) refl
  where
    by_admission : (r : Result Unit NotAdmitted) → admission request.invoke row ≡ r → AreDistinct (waiting_if r request row).waiting
    by_admission (Ok may) h = distinct-push row.waiting request (admitted-new request.invoke row h) distinct
    by_admission (Err refusal) h = distinct
distinct-felt (Answers invoke) row distinct = AllPairs-filter (λ one other. one.invoke ≢ other.invoke) (λ w. not (w.invoke == invoke)) row.waiting distinct
distinct-felt (Asks kind domain) row distinct = distinct
distinct-felt (Settles number) row distinct = distinct
distinct-felt Drains row distinct = distinct

abbrev pub RowsDistinct : List ClientRow → Type 0
RowsDistinct rows = (c : ℕ) → AreDistinct (row_at cell c rows).waiting

distinct-reached : (effect : Effect) (k : ℕ) (rows : List ClientRow) → RowsDistinct rows → RowsDistinct (reached cell k effect rows)
distinct-reached effect zero rows distinct c = distinct c
distinct-reached effect (suc k) rows distinct c = by_test (c == suc k) refl
  where
    none : AreDistinct []
    none i j d less low = absurd (omega (arith, low))

    by_row : (o : Option ClientRow) → AreDistinct (unwrap_or o no_client).waiting → AreDistinct (unwrap_or (option_map (felt effect) o) no_client).waiting
    by_row None h = none
    by_row (Some row) h = distinct-felt effect row h

    by_test : (b : Bool) → (c == suc k) ≡ b → AreDistinct (row_at cell c (reached cell (suc k) effect rows)).waiting
    by_test true e =
        subst (λ (d : ℕ). AreDistinct (row_at cell d (reached cell (suc k) effect rows)).waiting) (sym (nat-same c (suc k) e))
        (subst (λ (o : Option ClientRow). AreDistinct (unwrap_or o no_client).waiting) (sym (get_changed (felt effect) rows k)) (by_row (slice_get rows k) (distinct (suc k))))
    by_test false e = subst (λ (row : ClientRow). AreDistinct row.waiting) (sym (row-other effect (suc k) c rows e)) (distinct c)

pub distinct-told : (told : List (ℕ × Effect)) (rows : List ClientRow) → RowsDistinct rows → RowsDistinct (delivered cell told rows)
distinct-told [] rows distinct = distinct
distinct-told (t ∷ told) rows distinct = distinct-told told (reached cell t.0 t.1 rows) (distinct-reached t.1 t.0 rows distinct)
