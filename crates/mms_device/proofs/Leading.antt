-- Where a history leads, and when.
use Rattle.std.specs.Prelude.{◌≡◌, ◌≢◌, ℕ, ◌+◌, ◌<◌, ◌≤◌, ◌==◌, Bool, true, false, if◌then◌else◌, Option, List, [], ◌∷◌, ◌++◌, fold, length, refl}
use Rattle.std.proofs.Common.{ap, ap₂, sym, ◌∙◌, subst, arith, length-append}
use Rattle.std.proofs.lemmas.Bool.Decides.{nat_tests}
use Rattle.mms_types.specs.Actors.{actor_of, IsAmong}
use Rattle.mms_types.specs.declared.event.CellEvent.{CellEvent}
use Rattle.mms_types.specs.declared.event.CellEvent.TheVariants.{Heard, Lost, Tick, Ends, Drain}
use Rattle.cell_config.specs.declared.config.Config.{Config}
use Rattle.part_table.specs.Held.{held_at, IsHandOf}
use Rattle.part_table.specs.History.{StartsWith, replayed, events_of, places_of, IsMade}
use Rattle.part_table.proofs.Own.{own_events}
use Rattle.part_table.proofs.Histories.{places_more}
use Rattle.step_parts.specs.declared.part.Part.{Part}
use Rattle.step_parts.specs.State.{State, start}
use Rattle.step_parts.specs.Step.{step, IsInTime}
use Rattle.step_parts.specs.Partition.{parts_of, clock_in}
use Rattle.step_parts.specs.Needs.{need}
use Rattle.step_parts.specs.After.{parts_after}
use Rattle.mms_device.specs.Making.{MayMake}
use Rattle.part_table.specs.Known.{IsTrueOf}
use Rattle.mms_device.specs.Shared.{Shared, Caller, History, IsTimely, MayMakeNow, all_events, led_to, goes_by, ticks_in}
use Rattle.mms_device.proofs.Steps.{parts_step, step_sized, length-start, now_step, clock_below}

pub among_more : (event : CellEvent) (few many : ℕ) → few ≤ many → IsAmong few event → IsAmong many event
among_more (Heard client octets) few many le among = (among.0, omega (arith, among.1))
among_more (Lost client) few many le among = (among.0, omega (arith, among.1))
among_more (Tick ms) few many le among = tt
among_more (Ends name) few many le among = tt
among_more (Drain client) few many le among = (among.0, omega (arith, among.1))

-- the parts replayed are those of the state
leads_from : (s : State) (n : ℕ) (history : History) → length s.clients ≡ n
    → (replayed parts_after (parts_of s) history ≡ parts_of (fold step s (all_events history))) × (length (fold step s (all_events history)).clients ≡ n)
leads_from s n [] same = (refl, same)
leads_from s n (first ∷ history) same =
    let rest = leads_from (step s first.1) n history (step_sized s first.1 ∙ same) in
    (ap (λ (parts : List Part). replayed parts_after parts history) (sym (parts_step s first.1)) ∙ rest.0, rest.1)

pub leads : (config : Config) (history : History)
    → (replayed parts_after (parts_of (start config)) history ≡ parts_of (led_to config history)) × (length (led_to config history).clients ≡ config.clients)
leads config history = leads_from (start config) config.clients history (length-start config)

-- ---- a caller's own events

-- what a caller knows of its own events doesn't grow by what it learns of others
pub same_own : (by : ℕ) (old new : History) (own : List ℕ) → StartsWith new old → own ≡ places_of by old → own ≡ places_of by new → events_of by new ≡ events_of by old
same_own by old new own starts was is = own_events by old new starts (sym is ∙ was)

-- one more event of its own
pub events_more : (by : ℕ) (history : History) (event : CellEvent) → events_of by (history ++ (by, event) ∷ []) ≡ events_of by history ++ event ∷ []
events_more by [] event = let same : (by == by) ≡ true = grind (arith, nat_tests) in ap (λ (b : Bool). if b then event ∷ [] else []) same
events_more by (first ∷ history) event = by_test (first.0 == by) (events_more by history event)
  where
    by_test : (b : Bool) → events_of by (history ++ (by, event) ∷ []) ≡ events_of by history ++ event ∷ []
        → (if b then first.1 ∷ events_of by (history ++ (by, event) ∷ []) else events_of by (history ++ (by, event) ∷ []))
        ≡ (if b then first.1 ∷ events_of by history else events_of by history) ++ event ∷ []
    by_test true rest = ap (λ (l : List CellEvent). first.1 ∷ l) rest
    by_test false rest = rest

front_same : {A : Type 0} (xs ys : List A) (a b : A) → xs ++ a ∷ [] ≡ ys ++ b ∷ [] → xs ≡ ys
front_same [] [] a b same = refl
front_same {A} [] (y ∷ ys) a b same = let l = ap length same in let m = length-append ys (b ∷ []) in absurd (omega (arith, l, m))
front_same {A} (x ∷ xs) [] a b same = let l = ap length same in let m = length-append xs (a ∷ []) in absurd (omega (arith, l, m))
front_same {A} (x ∷ xs) (y ∷ ys) a b same =
    let first : x ≡ y = cc same in
    let rest : xs ++ a ∷ [] ≡ ys ++ b ∷ [] = cc same in
    ap₂ (λ (z : A) (l : List A). z ∷ l) first (front_same xs ys a b rest)

-- the own places before it
pub own_front : (by : ℕ) (history : History) (event : CellEvent) (own : List ℕ) (ticket : ℕ) → own ++ ticket ∷ [] ≡ places_of by (history ++ (by, event) ∷ []) → own ≡ places_of by history
own_front by history event own ticket is =
    front_same own (places_of by history) ticket (1 + length history) (is ∙ places_more 1 by history (by, event) refl)

-- ---- the moment

now_from : (s : State) (history : History) → (fold step s (all_events history)).now ≡ s.now + ticks_in (all_events history)
now_from s [] = omega arith
now_from s (first ∷ history) =
    let rest = now_from (step s first.1) history in
    let one = now_step s first.1 in
    omega (arith, rest, one)

no_tick : (caller : ℕ) (event : CellEvent) → caller ≢ 0 → MayMake caller event → goes_by event ≡ 0
no_tick caller (Tick ms) ne may = absurd (ne (sym may.0))
no_tick caller (Heard client octets) ne may = refl
no_tick caller (Lost client) ne may = refl
no_tick caller (Ends name) ne may = refl
no_tick caller (Drain client) ne may = refl

-- all ticks are the cell's own events
ticks_own : (callers : ℕ) (history : History) → IsMade callers MayMake history → ticks_in (all_events history) ≡ ticks_in (events_of 0 history)
ticks_own callers [] made = refl
ticks_own callers (first ∷ history) made = by_test (first.0 == 0) refl (ticks_own callers history made.2)
  where
    by_test : (b : Bool) → (first.0 == 0) ≡ b → ticks_in (all_events history) ≡ ticks_in (events_of 0 history)
        → goes_by first.1 + ticks_in (all_events history) ≡ ticks_in (if b then first.1 ∷ events_of 0 history else events_of 0 history)
    by_test true e rest = omega (arith, rest)
    by_test false e rest =
        let other : first.0 ≢ 0 = grind (arith, nat_tests) in
        let none = no_tick first.0 first.1 other made.1 in
        omega (arith, rest, none)

pub now_led : (config : Config) (callers : ℕ) (history : History) → IsMade callers MayMake history → (led_to config history).now ≡ config.start.0 + ticks_in (events_of 0 history)
now_led config callers history made =
    let now = now_from (start config) history in
    let own = ticks_own callers history made in
    omega (arith, now, own)

-- an event of a caller in time is in time by the clock that is held, whatever others did meanwhile
pub in_time : (config : Config) (callers by : ℕ) (old new : History) (hand : List (Option Part)) (event : CellEvent) → IsMade callers MayMake new
    → IsHandOf hand (parts_of (led_to config new)) → actor_of event ≡ by → events_of by new ≡ events_of by old
    → IsInTime (config.start.0 + ticks_in (events_of by old)) event → IsInTime (clock_in (held_at hand 0)) event
in_time config callers by old new hand (Tick ms) made of actor own time =
    let shows = clock_below (led_to config new) hand of in
    let now = now_led config callers new made in
    let same : ticks_in (events_of 0 new) ≡ ticks_in (events_of by old) = ap (λ (b : ℕ). ticks_in (events_of b new)) actor ∙ ap ticks_in own in
    omega (arith, shows, now, same, time)
in_time config callers by old new hand (Heard client octets) made of actor own time = tt
in_time config callers by old new hand (Lost client) made of actor own time = tt
in_time config callers by old new hand (Ends name) made of actor own time = tt
in_time config callers by old new hand (Drain client) made of actor own time = tt

-- a caller's event that was in time is in time for what the pass knows now
pub timely_seen : (config : Config) (event : CellEvent) (old saw : Caller) → saw ≡ record old { seen = saw.seen } → StartsWith saw.seen old.seen → IsTrueOf MayMake old → IsTrueOf MayMake saw
    → IsTimely config old event → IsTimely config saw event
timely_seen config event old saw kept starts knew knows time =
    subst (λ (events : List CellEvent). IsInTime (config.start.0 + ticks_in events) event) (sym own) time
  where
    by : saw.by ≡ old.by
    by = ap (λ (x : Caller). x.by) kept

    own : events_of saw.by saw.seen ≡ events_of old.by old.seen
    own =
        ap (λ (b : ℕ). events_of b saw.seen) by
        ∙ same_own old.by old.seen saw.seen old.own starts knew.own
        (sym (ap (λ (x : Caller). x.own) kept) ∙ knows.own ∙ ap (λ (b : ℕ). places_of b saw.seen) by)

-- and it is while parts are taken
pub timely_taken : (config : Config) (event : CellEvent) (old p : Caller) → p ≡ record old { lost = p.lost; taken = p.taken; hand = p.hand; order = p.order }
    → IsTimely config old event → IsTimely config p event
timely_taken config event old p same time =
    subst (λ (events : List CellEvent). IsInTime (config.start.0 + ticks_in events) event)
    (sym (ap₂ (λ (b : ℕ) (h : History). events_of b h) (ap (λ (x : Caller). x.by) same) (ap (λ (x : Caller). x.seen) same))) time

-- a caller that may make an event now may make it when it has seen the history
pub may_seen : (device : Shared) (event : CellEvent) (old saw : Caller) → saw ≡ record old { seen = saw.seen } → StartsWith saw.seen old.seen → IsTrueOf MayMake old → IsTrueOf MayMake saw
    → MayMakeNow device event old → MayMakeNow device event saw
may_seen device event old saw kept starts knew knows may = record {
  table = ap (λ (x : Caller). x.table) kept ∙ may.table;
  actor = subst (λ (b : ℕ). MayMake b event) (sym (ap (λ (x : Caller). x.by) kept)) may.actor;
  time = timely_seen device.config event old saw kept starts knew knows may.time;
}

-- and when it has taken parts
pub may_taken : (device : Shared) (event : CellEvent) (old p : Caller) → p ≡ record old { lost = p.lost; taken = p.taken; hand = p.hand; order = p.order }
    → MayMakeNow device event old → MayMakeNow device event p
may_taken device event old p same may = record {
  table = ap (λ (x : Caller). x.table) same ∙ may.table;
  actor = subst (λ (b : ℕ). MayMake b event) (sym (ap (λ (x : Caller). x.by) same)) may.actor;
  time = timely_taken device.config event old p same may.time;
}
