-- After any history the requests that wait are those of the entries that are queued.
use Rattle.std.proofs.Common.{◌≡◌, ℕ, zero, suc, ◌+◌, ◌<◌, ◌≤◌, Bool, true, false, cond, ◌==◌, List, [], ◌∷◌, map, fold, length, get_or, slice_get, unwrap_or, Option, None, Some, refl, sym, ◌∙◌, ap, subst, arith}
use Rattle.std.specs.List.{Contains}
use Rattle.std.specs.Map.{lookup}
use Rattle.mms_types.specs.Actors.{clients_to}
use Rattle.mms_types.specs.Order.{key_eq}
use Rattle.mms_types.specs.declared.cells.PoolRow.{PoolRow}
use Rattle.mms_types.specs.declared.event.CellEvent.{CellEvent}
use Rattle.mms_types.specs.declared.key.Key.{Key}
use Rattle.association.specs.declared.negotiation.Association.{Association}
use Rattle.association.specs.declared.negotiation.Association.TheVariants.{Idle}
use Rattle.association.specs.declared.waiting.Waiting.{Waiting}
use Rattle.association.specs.Admission.{called_of}
use Rattle.association.specs.Client.{ClientRow, new_row}
use Rattle.association.specs.Waiting.{AreDistinct}
use Rattle.cell_config.specs.declared.config.Config.{Config}
use Rattle.cell_config.specs.Said.{IsConfig}
use Rattle.mms_time.specs.Opening.{configured, pool_row}
use Rattle.parted_state.specs.Served.{row_at}
use Rattle.cell_services.specs.Serving.{waiting_of}
use Rattle.step_parts.specs.Partition.{cell, no_client}
use Rattle.step_parts.specs.State.{State, IsSound, device_of, start}
use Rattle.step_parts.specs.Step.{step, replay}
use Rattle.step_sound.proofs.Sound.{replay_sound, start_sound, step_sound}
use Rattle.cell_laws.specs.Linked.{AreLinked, asker, waiting_at}
use Rattle.cell_laws.proofs.Bound.{nat-same, nat-test, request_of}
use Rattle.cell_laws.proofs.Linking.{Linked, linked_step}
use Rattle.cell_laws.proofs.Queues.{asker_in}

-- ---- at the start nothing waits

pub none-at-first : (config : Config) (c : ℕ) → (row_at cell c (start config).clients).waiting ≡ []
none-at-first config zero = refl
none-at-first config (suc k) = get (clients_to config.clients) k
  where
    get : (xs : List ℕ) (j : ℕ) → (unwrap_or (slice_get (map (λ c. new_row c (device_of config)) xs) j) no_client).waiting ≡ []
    get [] j = refl
    get (x ∷ xs) zero = refl
    get (x ∷ xs) (suc j) = get xs j

-- the pools that there are have no entries
none-queued : (pools : List PoolRow) (k : Key) (n : ℕ) → asker (configured pools) k n ≡ None
none-queued [] k n = refl
none-queued (pool ∷ pools) k n = by_test (key_eq k (pool_row pool).0) (none-queued pools k n)
  where
    by_test : (b : Bool) → asker (configured pools) k n ≡ None → asker_in n (cond b (Some (pool_row pool).1) (lookup (key_eq k) (configured pools))) ≡ None
    by_test true rest = refl
    by_test false rest = rest

pub linked-start : (config : Config) → Linked (start config)
linked-start config = record {
  bound = record {
    queued = λ c i w h. absurd (cc (sym h ∙ ap (waiting_of i) (none-at-first config c)));
    waiting = λ k n c i h. absurd (cc (sym h ∙ none-queued config.pools k n));
    own = λ k n c i d h is. absurd (cc (sym h ∙ none-queued config.pools k n));
  };
  distinct = λ c. subst AreDistinct (sym (none-at-first config c)) (λ i j d less low. absurd (omega (arith, low)));
}

linked-along : (count : ℕ) (s : State) (history : List CellEvent) → IsSound count s → Linked s → Linked (fold step s history)
linked-along count s [] sound linked = linked
linked-along count s (event ∷ rest) sound linked = linked-along (count + 1) (step s event) rest (step_sound count s event sound) (linked_step count s event sound linked)

pub replay_linked : (config : Config) (history : List CellEvent) → IsConfig config → Linked (replay config history)
replay_linked config history is = linked-along 0 (start config) history (start_sound config is) (linked-start config)

-- ---- in the words of lists

found-by : (ws : List Waiting) (w : Waiting) (k : ℕ) → k < length ws → get_or ws k w ≡ w → AreDistinct ws → waiting_of w.invoke ws ≡ Some w
found-by [] w k low is distinct = absurd (omega (arith, low))
found-by (x ∷ ws) w zero low is distinct =
    ap (λ t. cond t (Some x) (waiting_of w.invoke ws)) (nat-test x.invoke w.invoke (ap (λ (y : Waiting). y.invoke) is)) ∙ ap (λ (y : Waiting). Some y) is
found-by (x ∷ ws) w (suc k) low is distinct =
    by_test (x.invoke == w.invoke) refl (found-by ws w k (omega (arith, low)) is (λ i j d less within. distinct (suc i) (suc j) d (omega (arith, less)) (omega (arith, within))))
  where
    apart : x.invoke ≡ w.invoke → ⊥
    apart same = distinct zero (suc k) w (omega arith) low (same ∙ ap (λ (y : Waiting). y.invoke) (sym is))

    by_test : (b : Bool) → (x.invoke == w.invoke) ≡ b → waiting_of w.invoke ws ≡ Some w → cond b (Some x) (waiting_of w.invoke ws) ≡ Some w
    by_test true e ih = absurd (apart (nat-same x.invoke w.invoke e))
    by_test false e ih = ih

found-in : (i : ℕ) (ws : List Waiting) (w : Waiting) → waiting_of i ws ≡ Some w → Contains ws w
found-in i [] w h = absurd (cc h)
found-in i (x ∷ ws) w h = by_test (x.invoke == i) (found-in i ws w) h
  where
    by_test : (b : Bool) → (waiting_of i ws ≡ Some w → Contains ws w) → cond b (Some x) (waiting_of i ws) ≡ Some w → Contains (x ∷ ws) w
    by_test true ih g = let same : x ≡ w = cc g in (zero, omega arith, same)
    by_test false ih g = let found = ih g in let low = found.1 in (suc found.0, omega (arith, low), found.2)

pub none-unopened : (count : ℕ) (s : State) → IsSound count s → (c : ℕ) → (row_at cell c s.clients).association ≡ Idle → (row_at cell c s.clients).waiting ≡ []
none-unopened count s sound zero idle = refl
none-unopened count s sound (suc k) idle = by_row (slice_get s.clients k) refl idle
  where
    none : (ws : List Waiting) → length ws ≤ 0 → ws ≡ []
    none [] few = refl
    none (w ∷ ws) few = absurd (omega (arith, few))

    by_row : (o : Option ClientRow) → slice_get s.clients k ≡ o → (unwrap_or o no_client).association ≡ Idle → (unwrap_or o no_client).waiting ≡ []
    by_row None e h = refl
    by_row (Some row) e h =
        let few = (sound.rows k row e).allowed in
        none row.waiting (subst (λ (a : Association). length row.waiting ≤ called_of a) h few)

pub replay_are_linked : (config : Config) (history : List CellEvent) → IsConfig config → AreLinked (replay config history)
replay_are_linked config history is =
    let linked = replay_linked config history is in
    let sound = replay_sound config history is in
    record {
      queued = λ client w has.
          linked.bound.queued client w.invoke w (found-by (waiting_at (replay config history) client) w has.0 has.1 has.2 (linked.distinct client));
      waiting = λ client invoke key number h.
          found-in invoke (waiting_at (replay config history) client) (request_of invoke key number) (linked.bound.waiting key number client invoke h);
      distinct = linked.distinct;
      closed = none-unopened (length history) (replay config history) sound;
    }
