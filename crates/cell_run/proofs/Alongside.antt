-- The device along events.
use Rattle.std.proofs.Common.{◌≡◌, ℕ, zero, suc, ◌+◌, ◌≤◌, ◌<◌, ◌&&◌, Bool, true, false, List, [], ◌∷◌, ◌++◌, fold, length, take, drop, get_or, nat_le, refl, sym, ap, ◌∙◌, subst, arith, append-nil, append_assoc, length-append}
use Rattle.std.proofs.lemmas.Bool.Decides.{nat_tests}
use Rattle.std.proofs.lemmas.List.{take_more, take-append-drop, map-append}
use Rattle.mms_types.specs.Actors.{clients_to, IsAmong}
use Rattle.mms_types.specs.declared.event.What.{What}
use Rattle.mms_types.specs.declared.event.CellEvent.{CellEvent}
use Rattle.mms_types.specs.declared.event.CellEvent.TheVariants.{Heard, Lost, Tick, Ends, Drain}
use Rattle.cell_config.specs.declared.config.Config.{Config}
use Rattle.association.specs.declared.negotiation.Association.{Association}
use Rattle.association.specs.declared.negotiation.Association.TheVariants.{Idle, Open}
use Rattle.parted_state.specs.Served as parted
use Rattle.step_parts.specs.Partition.{cell}
use Rattle.cell_services.specs.Serving.{services, tables_lost}
use Rattle.step_parts.specs.State.{State, start}
use Rattle.cell_services.specs.Tables.{last_moment}
use Rattle.cell_services.specs.Tables.{Tables}
use Rattle.step_parts.specs.Step.{step, replay, said, outbox_of, MayCome, IsInTime}
use Rattle.step_parts.proofs.PartsAfter.{length-start, step_still}
use Rattle.step_parts.proofs.PartsAfter.{step_sized as as_many_clients}
use Rattle.mms_device.specs.Served.{Served, served, device_after}
use Rattle.cell_record.specs.EventLine.{IsRecorded}
use Rattle.cell_record.specs.Words.{between}
use Rattle.cell_record.specs.Recording.{ms_in}
use Rattle.cell_record.specs.Grammar.{phase_ms}
use Rattle.cell_record.specs.History.{drains}
use Rattle.cell_record.specs.Report.{taken}
use Rattle.cell_run.specs.Along.{AreRecorded, along, taken_along}

-- ---- one event

-- as many clients
pub step_sized : (s : State) (e : CellEvent) → length (step s e).clients ≡ length s.clients
step_sized s e = as_many_clients s e

-- a loss leaves the moment as it is
lost_still : (a : Association) (client : ℕ) (t : Tables) → (tables_lost a client t).now ≡ t.now
lost_still Idle client t = refl
lost_still (Open values) client t = refl

-- as much time as the event takes
pub step_now : (s : State) (e : CellEvent) → (step s e).now ≡ s.now + ms_in e
step_now s (Heard client octets) = let still = step_still s client octets in omega (arith, still)
step_now s (Lost client) =
    let row = parted.row_of cell services s (Lost client) in
    let still = lost_still row.association row.client (cell.tables_of s) in
    omega (arith, still)
step_now s (Tick ms) = refl
step_now s (Ends name) = omega arith
step_now s (Drain client) = omega arith

in_range : (low high n : ℕ) → between low high n ≡ true → (low ≤ n) × (n ≤ high)
in_range low high n e = both (nat_le low n) (nat_le n high) refl refl e
  where
    both : (a b : Bool) → nat_le low n ≡ a → nat_le n high ≡ b → (a && b) ≡ true → (low ≤ n) × (n ≤ high)
    both true true p q e = (grind (arith, nat_tests, p), grind (arith, nat_tests, q))
    both true false p q e = absurd (cc e)
    both false b p q e = absurd (cc e)

among_recorded : (config : Config) (e : CellEvent) → IsRecorded config e → IsAmong config.clients e
among_recorded n (Heard client octets) h = in_range 1 n.clients client h.0
among_recorded n (Lost client) h = in_range 1 n.clients client h
among_recorded n (Tick ms) h = tt
among_recorded n (Ends name) h = tt
among_recorded n (Drain client) h = absurd h

in_time : (now ms : ℕ) (e : CellEvent) → ms_in e ≤ ms → now + ms ≤ last_moment → IsInTime now e
in_time now ms (Heard client octets) less h = tt
in_time now ms (Lost client) less h = tt
in_time now ms (Tick ticks) less h = omega (arith, less, h)
in_time now ms (Ends name) less h = tt
in_time now ms (Drain client) less h = tt

pub phase_ms-append : (xs ys : List CellEvent) → phase_ms (xs ++ ys) ≡ phase_ms xs + phase_ms ys
phase_ms-append [] ys = omega arith
phase_ms-append (e ∷ xs) ys = let rest = phase_ms-append xs ys in omega (arith, rest)

-- the time of the events up to one, with it and after it
pub ms_more : (es : List CellEvent) (i : ℕ) (d : CellEvent) → i < length es → phase_ms (take (i + 1) es) ≡ phase_ms (take i es) + ms_in (get_or es i d)
ms_more es i d h =
    ap phase_ms (take_more es i d h) ∙ phase_ms-append (take i es) (get_or es i d ∷ []) ∙ omega arith

ms_front : (es : List CellEvent) (i : ℕ) → phase_ms (take i es) ≤ phase_ms es
ms_front es i = let all = ap phase_ms (sym (take-append-drop i es)) ∙ phase_ms-append (take i es) (drop i es) in omega (arith, all)

-- an event of a phase may come in its turn
pub may_come : (d : Served) (n now : ℕ) (es : List CellEvent) (i : ℕ) (e : CellEvent) → AreRecorded n es → i < length es → e ≡ get_or es i e
    → length d.state.clients ≡ n → d.state.now ≡ now + phase_ms (take i es) → now + phase_ms es ≤ last_moment → MayCome d.state e
may_come d n now es i e all there is sized at time = record {
  among = subst (λ (m : ℕ). IsAmong m e) (sym (sized ∙ all.same)) (among_recorded all.config e (subst (IsRecorded all.config) (sym is) (all.each i e there)));
  time = in_time d.state.now (ms_in e) e (omega arith) (
      let more = ms_more es i e there in let front = ms_front es (i + 1) in let here = ap ms_in is in omega (arith, more, front, at, time, here));
}

-- ---- one after the other

pub along-append : (d : Served) (xs ys : List CellEvent) → along d (xs ++ ys) ≡ along (along d xs) ys
along-append d [] ys = refl
along-append d (x ∷ xs) ys = along-append (served d x) xs ys

pub one_more : (d : Served) (es : List CellEvent) (i : ℕ) (e : CellEvent) → i < length es → along d (take (i + 1) es) ≡ served (along d (take i es)) (get_or es i e)
one_more d es i e h = ap (along d) (take_more es i e h) ∙ along-append d (take i es) (get_or es i e ∷ [])

pub along_sized : (d : Served) (es : List CellEvent) → length (along d es).state.clients ≡ length d.state.clients
along_sized d [] = refl
along_sized d (e ∷ es) = along_sized (served d e) es ∙ step_sized d.state e

pub along_now : (d : Served) (es : List CellEvent) → (along d es).state.now ≡ d.state.now + phase_ms es
along_now d [] = omega arith
along_now d (e ∷ es) = let rest = along_now (served d e) es in let here = step_now d.state e in omega (arith, rest, here)

pub along_count : (d : Served) (es : List CellEvent) → (along d es).count ≡ d.count + length es
along_count d [] = omega arith
along_count d (e ∷ es) = let rest = along_count (served d e) es in omega (arith, rest)

-- ---- drains

pub taken-append : (d : Served) (xs : List ℕ) (c : ℕ) → taken_along d (xs ++ c ∷ []) ≡ taken_along d xs ++ outbox_of (along d (drains xs)).state c ∷ []
taken-append d [] c = refl
taken-append d (x ∷ xs) c = ap (λ (l : List (List What)). outbox_of d.state x ∷ l) (taken-append (served d (Drain x)) xs c)

clients_more : (n : ℕ) → clients_to (n + 1) ≡ clients_to n ++ (n + 1) ∷ []
clients_more n = let next : n + 1 ≡ suc n = omega arith in ap clients_to next ∙ ap (λ (m : ℕ). clients_to n ++ m ∷ []) (sym next)

pub one_taken : (d : Served) (n : ℕ) → taken_along d (clients_to (n + 1)) ≡ taken_along d (clients_to n) ++ outbox_of (along d (drains (clients_to n))).state (n + 1) ∷ []
one_taken d n = ap (taken_along d) (clients_more n) ∙ taken-append d (clients_to n) (n + 1)

pub one_drain : (d : Served) (n : ℕ) → along d (drains (clients_to (n + 1))) ≡ served (along d (drains (clients_to n))) (Drain (n + 1))
one_drain d n =
    ap (λ (l : List ℕ). along d (drains l)) (clients_more n)
    ∙ ap (along d) (map-append Drain (clients_to n) ((n + 1) ∷ []))
    ∙ along-append d (drains (clients_to n)) (Drain (n + 1) ∷ [])

no_time : (cs : List ℕ) → phase_ms (drains cs) ≡ 0
no_time [] = refl
no_time (c ∷ cs) = let rest = no_time cs in omega (arith, rest)

length-clients : (n : ℕ) → length (clients_to n) ≡ n
length-clients zero = refl
length-clients (suc n) = length-append (clients_to n) (suc n ∷ []) ∙ omega (arith, length-clients n)

length-drains : (cs : List ℕ) → length (drains cs) ≡ length cs
length-drains [] = refl
length-drains (c ∷ cs) = let rest = length-drains cs in omega (arith, rest)

-- a phase takes the time of its ticks
pub phase_now : (d : Served) (es : List CellEvent) (n : ℕ) → (along d (es ++ drains (clients_to n))).state.now ≡ d.state.now + phase_ms es
phase_now d es n = along_now d (es ++ drains (clients_to n)) ∙ (let all = phase_ms-append es (drains (clients_to n)) in let none = no_time (clients_to n) in omega (arith, all, none))

pub phase_count : (d : Served) (es : List CellEvent) (n : ℕ) → (along d (es ++ drains (clients_to n))).count ≡ d.count + length es + n
phase_count d es n =
    along_count d (es ++ drains (clients_to n))
    ∙ (let all = length-append es (drains (clients_to n)) in let some = length-drains (clients_to n) in let many = length-clients n in omega (arith, all, some, many))

-- ---- after a history

pub after-append : (config : Config) (h es : List CellEvent) → along (device_after config h) es ≡ device_after config (h ++ es)
after-append config h [] = ap (device_after config) (sym (append-nil h))
after-append config h (e ∷ es) = ap (λ (d : Served). along d es) (one config h e) ∙ after-append config (h ++ e ∷ []) es ∙ ap (device_after config) (append_assoc h (e ∷ []) es)
  where
    fold_more : (s : State) (h : List CellEvent) (e : CellEvent) → fold step s (h ++ e ∷ []) ≡ step (fold step s h) e
    fold_more s [] e = refl
    fold_more s (x ∷ h) e = fold_more (step s x) h e

    at : State → ℕ → Served
    at s k = record { state = s; count = k }

    one : (config : Config) (h : List CellEvent) (e : CellEvent) → served (device_after config h) e ≡ device_after config (h ++ e ∷ [])
    one config h e =
        ap (λ (s : State). at s (length h + 1)) (sym (fold_more (start config) h e))
        ∙ ap (λ (k : ℕ). at (replay config (h ++ e ∷ [])) k) (sym (length-append h (e ∷ [])))

pub after_sized : (config : Config) (h : List CellEvent) → length (device_after config h).state.clients ≡ config.clients
after_sized config h =
    ap (λ (d : Served). length d.state.clients) (sym (after-append config [] h)) ∙ along_sized (device_after config []) h ∙ length-start config

taken_after : (config : Config) (h : List CellEvent) (cs : List ℕ) → taken_along (device_after config h) cs ≡ taken (said config) h cs
taken_after config h [] = refl
taken_after config h (c ∷ cs) =
    ap (λ (d : Served). outbox_of (replay config h) c ∷ taken_along d cs) (after-append config h (Drain c ∷ []))
    ∙ ap (λ (l : List (List What)). said config h c ∷ l) (taken_after config (h ++ Drain c ∷ []) cs)

-- what is taken behind a phase that is served after a history
pub taken_so : (config : Config) (h body : List CellEvent)
    → taken_along (along (device_after config h) body) (clients_to (length (device_after config h).state.clients)) ≡ taken (said config) (h ++ body) (clients_to config.clients)
taken_so config h body =
    ap (λ (m : ℕ). taken_along (along (device_after config h) body) (clients_to m)) (after_sized config h)
    ∙ ap (λ (d : Served). taken_along d (clients_to config.clients)) (after-append config h body)
    ∙ taken_after config (h ++ body) (clients_to config.clients)
