-- When ten milliseconds went by no request of the trial waits.
use Rattle.std.proofs.Common.{◌≡◌, ℕ, ◌+◌, ◌<◌, ◌==◌, Bool, true, false, cond, List, [], ◌∷◌, Option, None, Some, option_and_then, refl, ◌∙◌, ap, arith, length}
use Rattle.std.specs.List.{All}
use Rattle.std.specs.Map.{lookup}
use Rattle.mms_types.specs.Order.{key_eq}
use Rattle.mms_types.specs.declared.event.CellEvent.TheVariants.{Tick}
use Rattle.mms_types.specs.declared.key.Key.{Key}
use Rattle.mms_types.specs.declared.moment.Moment.{Moment}
use Rattle.association.specs.declared.waiting.Waiting.{Waiting}
use Rattle.token_sem.specs.Semaphore.{is_queued, numbered}
use Rattle.token_sem.specs.declared.entry.SemEntry.{SemEntry}
use Rattle.token_sem.proofs.Keeping.{among-find}
use Rattle.mms_time.specs.Deadlines.{all_deadlines}
use Rattle.mms_time.specs.Semaphores.{Rows, entries_of}
use Rattle.mms_time.proofs.EachEntry.{Each, each_among, found_each}
use Rattle.sem_ticks.proofs.Dues.{AreAt, Ends, IsAt, ahead_rows}
use Rattle.mms_time.specs.declared.row.SemaphoreRow.{SemaphoreRow}
use Rattle.parted_state.specs.Served.{row_at}
use Rattle.cell_services.specs.Serving.{waiting_of}
use Rattle.step_parts.specs.Partition.{cell}
use Rattle.step_parts.specs.State.{State}
use Rattle.step_parts.specs.Step.{step}
use Rattle.cell_laws.specs.Linked.{asker, asker_of}
use Rattle.cell_laws.proofs.Bound.{nat-test}
use Rattle.stress_laws.proofs.Along.{waits_at}
use Rattle.stress_laws.proofs.Goes.{tick_soon}
use Rattle.stress_laws.proofs.Soon.{EndsSoon, IsSoon, RowsSoon}
use Rattle.stress_laws.proofs.Trial.{IsTrial}

-- a moment lies after that one
abbrev IsAhead : Moment → Moment → Type 0
IsAhead now at = now.0 < at.0

-- no entry is queued where each deadline lies more than five milliseconds ahead
nobody_queued : (until now : Moment) (rows : Rows) → until.0 + 5 < now.0 → RowsSoon until rows → All (λ d. now.0 < d.at.0) (all_deadlines rows)
    → (key : Key) (number : ℕ) (a : ℕ × ℕ) → asker rows key number ≡ Some a → ⊥
nobody_queued until now rows late soon ahead key number a is = by_row (lookup (key_eq key) rows) refl is
  where
    by_deadline : (o : Option Moment) → EndsSoon until o → IsAt (IsAhead now) o → ⊥
    by_deadline None ends lies = ends
    by_deadline (Some at) ends lies = omega (arith, late, ends, lies)

    by_queued : (e : SemEntry) (b : Bool) → is_queued e ≡ b → (is_queued e ≡ true → EndsSoon until e.deadline) → IsAt (IsAhead now) e.deadline → cond b (Some (e.client, e.invoke)) None ≡ Some a → ⊥
    by_queued e true q ends lies h = by_deadline e.deadline (ends q) lies
    by_queued e false q ends lies h = cc h

    by_entry : (es : List SemEntry) → Each (IsSoon until) es → AreAt (IsAhead now) es → (o : Option SemEntry) → numbered number es ≡ o → asker_of o ≡ Some a → ⊥
    by_entry es soon lie None e h = cc h
    by_entry es soon lie (Some entry) e h =
        let there = (among-find (λ x. x.number == number) es entry e).0 in
        by_queued entry (is_queued entry) refl (each_among (IsSoon until) es entry soon there).ends (each_among (Ends (IsAhead now)) es entry lie there) h

    by_row : (o : Option SemaphoreRow) → lookup (key_eq key) rows ≡ o → asker_of (option_and_then (λ row. numbered number (entries_of row)) o) ≡ Some a → ⊥
    by_row None e h = cc h
    by_row (Some row) e h =
        by_entry (entries_of row) (found_each (IsSoon until) (key_eq key) rows row soon e)
        (found_each (Ends (IsAhead now)) (key_eq key) rows row (ahead_rows (IsAhead now) rows ahead) e) (numbered number (entries_of row)) refl h

pub none_waits : (count : ℕ) (s : State) (ms : ℕ) → 5 < ms → IsTrial count s → (after : ℕ) → IsTrial after (step s (Tick ms)) → (c : ℕ) → waits_at (step s (Tick ms)) c ≡ 0
none_waits count s ms late is after then_is c = by_waiting (row_at cell c (step s (Tick ms)).clients).waiting refl
  where
    here : (w : Waiting) (ws : List Waiting) → waiting_of w.invoke (w ∷ ws) ≡ Some w
    here w ws = ap (λ (b : Bool). cond b (Some w) (waiting_of w.invoke ws)) (nat-test w.invoke w.invoke refl)

    by_waiting : (ws : List Waiting) → (row_at cell c (step s (Tick ms)).clients).waiting ≡ ws → length ws ≡ 0
    by_waiting [] e = refl
    by_waiting (w ∷ ws) e =
        absurd (nobody_queued (record { 0 = s.now }) (record { 0 = (step s (Tick ms)).now }) (step s (Tick ms)).semaphores (omega (arith, late)) (tick_soon count s is ms) then_is.sound.ahead
        w.key w.entry (c, w.invoke) (then_is.linked.bound.queued c w.invoke w (ap (waiting_of w.invoke) e ∙ here w ws)))
