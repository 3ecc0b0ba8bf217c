-- Who is granted a token waits no more, and its answer is to be sent.
use Rattle.std.proofs.Common.{◌≡◌, ℕ, zero, suc, ◌≤◌, inl, Bool, true, false, cond, ◌==◌, ◌&&◌, List, [], ◌∷◌, ◌++◌, length, slice_get, unwrap_or, Option, None, Some, is_some, refl, sym, ◌∙◌, ap, subst, arith}
use Rattle.std.specs.List.{Contains}
use Rattle.mms_types.specs.declared.key.Key.{Key}
use Rattle.mms_types.specs.declared.moment.Moment.{Moment}
use Rattle.association.specs.declared.waiting.Waiting.{Waiting}
use Rattle.association.specs.Client.{ClientRow}
use Rattle.token_sem.specs.declared.entry.SemEntry.{SemEntry}
use Rattle.token_sem.specs.Semaphore.{before}
use Rattle.token_sem.proofs.Keeping.{among-least}
use Rattle.token_sem.proofs.Least.{Stands}
use Rattle.mms_time.specs.Semaphores.{IsSound, Rows, entries_in, made_in}
use Rattle.mms_time.specs.declared.row.Semaphore.{Semaphore}
use Rattle.parted_state.specs.Served.{delivered, row_at}
use Rattle.sem_ticks.specs.Granted.{granted}
use Rattle.sem_ticks.specs.declared.granted.Granted.{Granted}
use Rattle.sem_ticks.specs.declared.ticks.Happening.{Happening}
use Rattle.sem_ticks.specs.declared.ticks.Happening.TheVariants as happens
use Rattle.cell_client.specs.Effects.{Effect}
use Rattle.cell_services.specs.Services.{grants_told}
use Rattle.cell_ticks.specs.Ticks.{dated}
use Rattle.cell_ticks.specs.declared.happening.DatedHappening.{DatedHappening}
use Rattle.cell_ticks.specs.declared.happening.Happening.{Happening as DeviceHappening}
use Rattle.cell_ticks.specs.declared.happening.Happening.TheVariants as device
use Rattle.serve_events.specs.Told.{notices_told}
use Rattle.cell_services.specs.Serving.{all_told, dated_told, happened_told, happening_told, waiting_of}
use Rattle.step_sound.specs.Answered.{IsAnswered}
use Rattle.step_parts.specs.Partition.{cell, no_client}
use Rattle.step_parts.specs.State.{State}
use Rattle.step_sound.proofs.Sound.{delivered_both}
use Rattle.cell_laws.specs.Freed.{grant_of, wants}
use Rattle.cell_laws.specs.Linked.{asker, asker_of}
use Rattle.cell_laws.proofs.Accounts.{waits-is}
use Rattle.cell_laws.proofs.Bound.{Bound, both-true, nat-test}
use Rattle.cell_laws.proofs.Entries.{queued-asks, rises-in}
use Rattle.cell_laws.proofs.Freeing.{Found, IsTold, next_of, numbered-found, wants-queued}
use Rattle.cell_laws.proofs.Hears.{all-still, granted-left, reached-answered, reached-closed, reached-still, waits_in}
use Rattle.cell_laws.proofs.Notices.{notices-still, told-notices}
use Rattle.cell_laws.proofs.Queues.{stands-any}

-- ---- whose request waits is a client

pub in-range : (clients : List ClientRow) (c i : ℕ) (w : Waiting) → waits_in clients c i ≡ Some w → (1 ≤ c) × (c ≤ length clients)
in-range clients zero i w h = absurd (cc h)
in-range clients (suc k) i w h = (omega arith, few clients k h)
  where
    few : (rows : List ClientRow) (j : ℕ) → waiting_of i (unwrap_or (slice_get rows j) no_client).waiting ≡ Some w → suc j ≤ length rows
    few [] j g = absurd (cc g)
    few (row ∷ rows) zero g = omega arith
    few (row ∷ rows) (suc j) g = let rest = few rows j g in omega (arith, rest)

-- who is served next is such a client
pub next-range : (key : Key) (rows : Rows) (t : Semaphore) (clients : List ClientRow) → Found key rows t → IsSound t → Bound (asker rows) (waits_in clients)
    → (token : Option ℕ) (e : SemEntry) → next_of token (entries_in t) ≡ Some e → (1 ≤ e.client) × (e.client ≤ length clients)
next-range key rows t clients found is bound token e first = in-range clients e.client e.invoke _ (bound.waiting key e.number e.client e.invoke asks)
  where
    asks : asker rows key e.number ≡ Some (e.client, e.invoke)
    asks =
        let among = among-least before (wants token) (entries_in t) e first in
        ap asker_of (numbered-found key rows t found e.number) ∙ queued-asks (made_in t) (entries_in t) e (rises-in t is) among.0 (wants-queued token e among.1)

-- ---- it waits no more

pub answered-none : (own : List (ℕ × Effect)) (grants : List Granted) (clients : List ClientRow) (g : Granted) → Stands grants g
    → waits_in (delivered cell (own ++ grants_told grants) clients) g.client g.invoke ≡ None
answered-none own grants clients g s =
    ap (λ (rows : List ClientRow). waits_in rows g.client g.invoke) (delivered_both own (grants_told grants) clients)
    ∙ granted-left grants (delivered cell own clients) g.client g.invoke
    ∙ ap (λ b. cond b None (waits_in (delivered cell own clients) g.client g.invoke))
    (stands-any (λ x. g.client == x.client && g.invoke == x.invoke) grants g s
    (both-true (g.client == g.client) (g.invoke == g.invoke) (nat-test g.client g.client refl) (nat-test g.invoke g.invoke refl)))

both-none : (b : Bool) (o : Option Waiting) → o ≡ None → cond b None o ≡ None
both-none true o h = refl
both-none false o h = h

-- nothing that happens makes a request wait
stays-one : (happening : Happening) (clients : List ClientRow) (c i : ℕ) → waits_in clients c i ≡ None → waits_in (delivered cell (happening_told happening) clients) c i ≡ None
stays-one (happens.WaitEnds client invoke) clients c i none =
    reached-still _ tt client _ c i ∙ reached-answered invoke client clients c i ∙ both-none (c == client && i == invoke) (waits_in clients c i) none
stays-one (happens.Grants g) clients c i none =
    reached-still _ tt g.client _ c i ∙ reached-answered g.invoke g.client clients c i ∙ both-none (c == g.client && i == g.invoke) (waits_in clients c i) none
stays-one (happens.Aborts client) clients c i none = reached-closed client _ c i ∙ both-none (c == client) _ (reached-still _ tt client clients c i ∙ none)

stays-then : (happening : DeviceHappening) (clients : List ClientRow) (c i : ℕ) → waits_in clients c i ≡ None → waits_in (delivered cell (happened_told happening) clients) c i ≡ None
stays-then (device.Semaphores happening) clients c i none = stays-one happening clients c i none
stays-then (device.Turns told) clients c i none =
    all-still (notices_told told.turned told.notices) clients (notices-still (notices_told told.turned told.notices) (told-notices told.turned told.notices)) c i ∙ none

stays-none : (happened : List DatedHappening) (clients : List ClientRow) (c i : ℕ) → waits_in clients c i ≡ None → waits_in (delivered cell (all_told happened) clients) c i ≡ None
stays-none [] clients c i none = none
stays-none (x ∷ rest) clients c i none =
    ap (λ (rows : List ClientRow). waits_in rows c i) (delivered_both (dated_told x) (all_told rest) clients)
    ∙ stays-none rest (delivered cell (dated_told x) clients) c i (stays-then x.happening clients c i none)

pub happened-none : (happened : List DatedHappening) (clients : List ClientRow) (at : Moment) (g : Granted) → Contains happened (dated at (device.Semaphores (happens.Grants g)))
    → waits_in (delivered cell (all_told happened) clients) g.client g.invoke ≡ None
happened-none [] clients at g is = let low = is.1 in absurd (omega (arith, low))
happened-none (x ∷ rest) clients at g (zero, low, same) =
    ap (λ (rows : List ClientRow). waits_in rows g.client g.invoke) (delivered_both (dated_told x) (all_told rest) clients)
    ∙ stays-none rest (delivered cell (dated_told x) clients) g.client g.invoke
    (subst (λ (y : DatedHappening). waits_in (delivered cell (dated_told y) clients) g.client g.invoke ≡ None) (sym same) (answered-none [] (g ∷ []) clients g (inl refl)))
happened-none (x ∷ rest) clients at g (suc k, low, same) =
    ap (λ (rows : List ClientRow). waits_in rows g.client g.invoke) (delivered_both (dated_told x) (all_told rest) clients)
    ∙ happened-none rest (delivered cell (dated_told x) clients) at g (k, omega (arith, low), same)

-- ---- what it is told

pub told-of : (t : State) (key : Key) (rows : Rows) (token : Option ℕ) (e : SemEntry) → 1 ≤ e.client → e.client ≤ length t.clients
    → waits_in t.clients e.client e.invoke ≡ None → IsAnswered t (granted rows (key, grant_of token e)) → IsTold t e (granted rows (key, grant_of token e))
told-of t key rows token e some few none answered = record {
  waits = sym (waits-is e.invoke (row_at cell e.client t.clients).waiting) ∙ ap is_some none;
  answered = answered some few;
}
