-- What was sent is counted by its octets: each invokeID is one that was heard, an Unsigned32.
use Rattle.std.proofs.Common.{◌≡◌, ℕ, ◌+◌, ◌<◌, ◌≤◌, ◌^◌, inl, inr, Bool, true, false, ◌==◌, nat_lt, List, [], ◌∷◌, ◌++◌, fold, Result, Ok, Err, if◌then◌else◌, refl, sym, ap, subst, arith}
use Rattle.std.specs.List.{AllByRecursion}
use Rattle.std.proofs.lemmas.Bool.{eqb-true, eq-eqb}
use Rattle.mms_types.specs.declared.event.CellEvent.{CellEvent}
use Rattle.mms_types.specs.declared.event.CellEvent.TheVariants.{Heard, Lost, Tick, Ends, Drain}
use Rattle.mms_types.specs.declared.event.What.{What}
use Rattle.mms_types.specs.declared.event.What.TheVariants.{Octets, Abort}
use Rattle.mms_types.specs.declared.pdu.Pdu.{Pdu}
use Rattle.mms_types.specs.declared.pdu.Pdu.TheVariants as pdu
use Rattle.mms_types.specs.declared.pdu.Request.{Request}
use Rattle.mms_pdu.specs.declared.refusal.Refusal.{Refusal}
use Rattle.mms_pdu.specs.Answering.{IsAnswer, is_answer, HasUnsigned32}
use Rattle.mms_pdu.specs.Heard.{pdu_heard}
use Rattle.mms_pdu.specs.Hearing.{depth_of}
use Rattle.mms_pdu.proofs.AnswerTold.{answers_by_octets, octets_answer}
use Rattle.mms_pdu.proofs.Invokes.{HeardSmall, heard_small}
use Rattle.association.specs.declared.client_part.NotAdmitted.{NotAdmitted}
use Rattle.association.specs.declared.client_part.NotAdmitted.TheVariants as not_admitted
use Rattle.association.specs.declared.negotiation.Association.{Association}
use Rattle.association.specs.declared.negotiation.Association.TheVariants.{Idle, Open}
use Rattle.association.specs.declared.negotiation.Negotiated.{Negotiated}
use Rattle.association.specs.Admission.{admission}
use Rattle.association.specs.Asked.{asked_of}
use Rattle.association.specs.Client.{ClientRow}
use Rattle.association.specs.Waiting.{is_waiting}
use Rattle.parted_state.specs.Served.{row_at}
use Rattle.cell_client.specs.Association.{Verdict, admitted, cancelled, idle_verdict, open_verdict, requested, verdict, verdict_by}
use Rattle.step_parts.specs.Partition.{cell}
use Rattle.step_parts.specs.State.{State}
use Rattle.cell_laws.specs.Tally.{Account, AreSpelled, HaveAnswers, account_after, opens, taken_by, taken_from, told_in}
use Rattle.cell_laws.proofs.Counting.{many}
use Rattle.cell_laws.proofs.Verdicts.{by-conclusion, by-error, by-rejected, by-response}

-- ---- what is taken

abbrev pub AreSmall : List ℕ → Type 0
AreSmall is = AllByRecursion (λ (i : ℕ). i < 2 ^ 32) is

small-append : (xs ys : List ℕ) → AreSmall xs → AreSmall ys → AreSmall (xs ++ ys)
small-append [] ys a b = b
small-append (x ∷ xs) ys a b = (a.0, small-append xs ys a.1 b)

admitted-small : (may : Result Unit NotAdmitted) (invoke : ℕ) (asked : Request) → invoke < 2 ^ 32 → AreSmall (taken_by (admitted may invoke asked))
admitted-small (Err not_admitted.Waiting) invoke asked small = tt
admitted-small (Err not_admitted.Outstanding) invoke asked small = tt
admitted-small (Ok may) invoke asked small = (small, tt)

requested-small : (row : ClientRow) (too_deep : Bool) (invoke : ℕ) (asked : Request) → invoke < 2 ^ 32 → AreSmall (taken_by (requested too_deep row invoke asked))
requested-small row true invoke asked small = tt
requested-small row false invoke asked small = admitted-small (admission invoke row) invoke asked small

abbrev TakesSmall : Verdict → Type 0
TakesSmall v = AreSmall (taken_by v)

cancelled-small : (waits : Bool) (invoke : ℕ) → AreSmall (taken_by (cancelled waits invoke))
cancelled-small true invoke = tt
cancelled-small false invoke = tt

idle-small : (heard : Result Pdu Refusal) → AreSmall (taken_by (idle_verdict heard))
idle-small (Ok (pdu.InitiateRequest proposal)) = tt
idle-small heard = tt

open-small : (values : Negotiated) (row : ClientRow) (heard : Result Pdu Refusal) → HeardSmall heard → AreSmall (taken_by (open_verdict values row heard))
open-small values row (Err refusal) small = tt
open-small values row (Ok (pdu.InitiateRequest proposal)) small = tt
open-small values row (Ok pdu.ConcludeRequest) small = by-conclusion TakesSmall tt tt row.waiting row.asked
open-small values row (Ok (pdu.CancelRequest invoke)) small = cancelled-small (is_waiting invoke row.waiting) invoke
open-small values row (Ok (pdu.ConfirmedRequest invoke asked)) small = requested-small row (nat_lt values.nesting (depth_of (pdu.ConfirmedRequest invoke asked))) invoke asked small
open-small values row (Ok (pdu.HeardResponse number told)) small = by-response TakesSmall (λ n came. tt) (λ n. tt) tt tt number told (asked_of number row.asked)
open-small values row (Ok (pdu.HeardError number)) small = by-error TakesSmall (λ n came. tt) (λ n. tt) tt tt number (asked_of number row.asked)
open-small values row (Ok (pdu.HeardReject number)) small = by-rejected TakesSmall (λ n came. tt) (λ n. tt) tt tt number row.asked
open-small values row (Ok heard) small = tt

by-small : (row : ClientRow) (a : Association) (heard : Result Pdu Refusal) → HeardSmall heard → AreSmall (taken_by (verdict_by a row heard))
by-small row Idle heard small = idle-small heard
by-small row (Open values) heard small = open-small values row heard small

verdict-small : (row : ClientRow) (octets : List ℕ) → AreSmall (taken_by (verdict row octets))
verdict-small row octets = by-small row row.association (pdu_heard row.constants.edition octets) (heard_small row.constants.edition octets)

taken-small : (client : ℕ) (s : State) (event : CellEvent) → AreSmall (taken_from client s event)
taken-small client s (Heard other octets) = by_test (client == other) (verdict-small (row_at cell other s.clients) octets)
  where
    by_test : (b : Bool) → AreSmall (taken_by (verdict (row_at cell other s.clients) octets)) → AreSmall (if b then taken_by (verdict (row_at cell other s.clients) octets) else [])
    by_test true small = small
    by_test false small = tt
taken-small client s (Lost other) = tt
taken-small client s (Tick ms) = tt
taken-small client s (Ends name) = tt
taken-small client s (Drain other) = tt

pub small-along : (client : ℕ) (a : Account) (history : List CellEvent) → AreSmall a.taken → AreSmall (fold (account_after client) a history).taken
small-along client a [] small = small
small-along client a (event ∷ rest) small =
    small-along client (account_after client a event) rest
    (small-append (if opens client (told_in a.state event) then [] else a.taken) (taken_from client a.state event) (kept (opens client (told_in a.state event))) (taken-small client a.state event))
  where
    kept : (b : Bool) → AreSmall (if b then [] else a.taken)
    kept true = tt
    kept false = small

-- ---- what is answered was taken

many-small : (i : ℕ) (taken : List ℕ) → AreSmall taken → 1 ≤ many (λ j. i == j) taken → i < 2 ^ 32
many-small i [] small some = absurd (omega (arith, some))
many-small i (j ∷ taken) small some = by_test (i == j) refl some (many-small i taken small.1)
  where
    by_test : (b : Bool) → (i == j) ≡ b → 1 ≤ (if b then 1 else 0) + many (λ k. i == k) taken → (1 ≤ many (λ k. i == k) taken → i < 2 ^ 32) → i < 2 ^ 32
    by_test true e h later = subst (λ (n : ℕ). n < 2 ^ 32) (sym (eqb-true i j e)) small.0
    by_test false e h later = later (omega (arith, h))

abbrev pub AreUnsigned32 : List Pdu → Type 0
AreUnsigned32 ps = AllByRecursion HasUnsigned32 ps

some-counted : (b : Bool) (n m : ℕ) → b ≡ true → (if b then 1 else 0) + n ≤ m → 1 ≤ m
some-counted true n m e h = omega (arith, h)
some-counted false n m e h = absurd (cc e)

fewer-counted : (b : Bool) (n m : ℕ) → (if b then 1 else 0) + n ≤ m → n ≤ m
fewer-counted true n m h = omega (arith, h)
fewer-counted false n m h = omega (arith, h)

unsigned-so : (p : Pdu) → ((i : ℕ) → is_answer i p ≡ true → i < 2 ^ 32) → HasUnsigned32 p
unsigned-so (pdu.ConfirmedResponse i answer) bound = bound i (eq-eqb i i refl)
unsigned-so (pdu.ConfirmedError error) bound = bound error.invoke (eq-eqb error.invoke error.invoke refl)
unsigned-so p bound = tt

pub answers-small : (taken : List ℕ) (pdus : List Pdu) → AreSmall taken → ((i : ℕ) → many (is_answer i) pdus ≤ many (λ j. i == j) taken) → AreUnsigned32 pdus
answers-small taken [] small few = tt
answers-small taken (p ∷ ps) small few = (
  unsigned-so p (λ i is. many-small i taken small (some-counted (is_answer i p) (many (is_answer i) ps) (many (λ j. i == j) taken) is (few i))),
  answers-small taken ps small (λ i. fewer-counted (is_answer i p) (many (is_answer i) ps) (many (λ j. i == j) taken) (few i)),
)

-- ---- PDUs are counted by their octets

not-both : {P : Type 0} (b : Bool) → b ≡ true → b ≡ false → P
not-both b e f = absurd (cc (e, f))

pub octets-counted : (i : ℕ) (sent : List What) (pdus : List Pdu) → AreSpelled sent pdus → AreUnsigned32 pdus → HaveAnswers i sent (many (is_answer i) pdus)
octets-counted i [] pdus spelled small = ap (many (is_answer i)) spelled
octets-counted i (Octets octets ∷ sent) [] spelled small = absurd spelled
octets-counted i (Octets octets ∷ sent) (p ∷ ps) spelled small = by_test (octets-counted i sent ps spelled.1 small.1) (is_answer i p) refl
  where
    by_test : HaveAnswers i sent (many (is_answer i) ps) → (b : Bool) → is_answer i p ≡ b → HaveAnswers i (Octets octets ∷ sent) ((if b then 1 else 0) + many (is_answer i) ps)
    by_test later true e = inl (subst (IsAnswer i) (sym spelled.0) (answers_by_octets i p small.0 e), many (is_answer i) ps, omega arith, later)
    by_test later false e =
        let same : many (is_answer i) ps ≡ (if false then 1 else 0) + many (is_answer i) ps = omega arith in
        inr (λ is. not-both (is_answer i p) (octets_answer i p small.0 (subst (IsAnswer i) spelled.0 is)) e, subst (λ (n : ℕ). HaveAnswers i sent n) same later)
octets-counted i (Abort ∷ sent) pdus spelled small = octets-counted i sent pdus spelled small
