-- What a call makes of a pass, step by step.
use Rattle.std.specs.Prelude.{◌≡◌, ◌≢◌, ℕ, ◌+◌, ◌-◌, ◌<◌, true, not, Option, None, Some, List, [], ◌∷◌, ◌++◌, map, length, Contains, refl}
use Rattle.std.proofs.Common.{ap, sym, ◌∙◌, subst, arith, get_or, append-nil, length-append}
use Rattle.std.specs.Prelude.{Result, Ok, Err, IfOk, OnOk}
use Rattle.std.proofs.lemmas.List.{nil_from_length}
use Rattle.std.proofs.lemmas.List.Elements.{Contains-get_or}
use Rattle.mms_types.specs.Actors.{IsAmong, actor_of}
use Rattle.mms_types.specs.declared.event.CellEvent.{CellEvent}
use Rattle.cell_config.specs.declared.config.Config.{Config}
use Rattle.cell_config.specs.Said.{IsConfig}
use Rattle.part_table.specs.Held.{held_at, IsHandOf}
use Rattle.part_table.specs.History.{StartsWith, replayed, events_of, places_of}
use Rattle.part_table.specs.Known.{nothing, HoldsNothing, IsTrueOf, Opened}
use Rattle.part_table.proofs.Hands.{nothing_held, nothing_long}
use Rattle.part_table.proofs.Histories.{starts_trans}
use Rattle.parted_state.specs.Sets.{IsSetOf}
use Rattle.parted_state.specs.CutLaws as laws
use Rattle.step_parts.specs.declared.part.Part.{Part}
use Rattle.cell_client.specs.declared.verdict.Found.{Found}
use Rattle.step_parts.specs.State.{State, start, IsSound}
use Rattle.step_parts.specs.Partition.{parts_of, clients_among, clock_in}
use Rattle.step_parts.specs.Step.{IsInTime}
use Rattle.step_parts.specs.Needs.{footprint, shown, need, wanted, is_held}
use Rattle.step_parts.specs.After.{parts_after}
use Rattle.mms_device.specs.declared.answers.Busy.{Busy}
use Rattle.mms_device.specs.declared.answers.Refused.{Refused}
use Rattle.mms_device.specs.declared.answers.Refused.TheVariants as refused
use Rattle.mms_device.specs.Making.{MayMake}
use Rattle.mms_device.specs.Shared.{Shared, Caller, History, IsServed, IsAsBefore, IsBusy, IsOf, IsTimely, all_events, led_to}
use Rattle.mms_device.specs.Taken.{AreHeld, CanTake, HasGrown, HasTaken, HoldsWanted, HasLost, IsStopped, IsTaking, Wants, free_count}
use Rattle.mms_device.specs.Refusals.{IsRefused}
use Rattle.mms_device.proofs.Steps.{clients_counted, parts_many, replay_sound, words_wanted, shown_wanted, wanted_within, length-start}
use Rattle.mms_device.proofs.Growing.{taken_none, found_seen, found_taken, of_the_list, is_missing, one_fewer_free, still_held}
use Rattle.mms_device.proofs.Wanting.{told_held, told_wants, shown_held, shown_wants, still_wants}
use Rattle.mms_device.proofs.Leading.{leads, among_more, same_own, events_more, in_time, may_seen, may_taken, own_front}

-- ---- sets

pub of_set : (set places : List ℕ) (i : ℕ) → IsSetOf set places → Contains set i → Contains places i
of_set set places i is there = laws.in_contains places i (sym (is.members i) ∙ laws.contains_in set i there)

pub in_set : (set places : List ℕ) (i : ℕ) → IsSetOf set places → Contains places i → Contains set i
in_set set places i is there = laws.in_contains set i (is.members i ∙ laws.contains_in places i there)

-- ---- a pass that saw the history holds parts of the state to which it leads

pub hand_led : (config : Config) (pass : Caller) → IsOf pass.table config → IsHandOf pass.taken (replayed parts_after pass.table.opening pass.seen)
    → IsHandOf pass.taken (parts_of (led_to config pass.seen))
hand_led config pass is of =
    subst (λ (l : List Part). IsHandOf pass.taken l) (ap (λ (l : List Part). replayed parts_after l pass.seen) is.opening ∙ (leads config pass.seen).0) of

pub opening_many : (config : Config) (table : Opened Part) (history : History) → IsOf table config → length table.opening ≡ length (parts_of (led_to config history))
opening_many config table history is =
    ap length is.opening ∙ parts_many (start config) (led_to config history) (length-start config ∙ sym (leads config history).1)

-- as many clients by the places of a hand of the table
pub clients_by_opening : (config : Config) (table : Opened Part) → IsOf table config → clients_among (length table.opening) ≡ config.clients
clients_by_opening config table is =
    let parts = parts_of (start config) in
    ap (λ (l : List Part). clients_among (length l)) is.opening
    ∙ ap clients_among (sym ((laws.all_of_them parts).places))
    ∙ clients_counted (start config) (map Some parts) (laws.all_of_them parts)
    ∙ length-start config

pub record SeesState (config : Config) (pass : Caller) : Type 0 where
  pub sound : IsSound (length (all_events pass.seen)) (led_to config pass.seen)
  pub hand : IsHandOf pass.taken (parts_of (led_to config pass.seen))
  pub clients : length (led_to config pass.seen).clients ≡ config.clients
  pub same : pass.hand ≡ pass.taken
  pub opening : length pass.table.opening ≡ length (parts_of (led_to config pass.seen))

pub sees : (config : Config) (pass : Caller) → IsConfig config → IsOf pass.table config → IsHandOf pass.taken (parts_of (led_to config pass.seen)) → pass.hand ≡ pass.taken
    → SeesState config pass
sees config pass is_config is of same = record {
  sound = replay_sound config (all_events pass.seen) is_config;
  hand = of;
  clients = (leads config pass.seen).1;
  same = same;
  opening = opening_many config pass.table pass.seen is;
}

module _ (config : Config) (pass : Caller) (state : SeesState config pass) where
  pub state_shown : (hand : List (Option Part)) → hand ≡ pass.hand → (s : State) × ((count : ℕ) × IsSound count s) × IsHandOf hand (parts_of s)
  state_shown hand is = (
    led_to config pass.seen,
    (length (all_events pass.seen), state.sound),
    subst (λ (h : List (Option Part)). IsHandOf h (parts_of (led_to config pass.seen))) (sym (is ∙ state.same)) state.hand,
  )

  pub among_shown : (event : CellEvent) (hand : List (Option Part)) → hand ≡ pass.hand → IsAmong config.clients event → IsAmong (clients_among (length hand)) event
  among_shown event hand is among =
      subst (λ (n : ℕ). IsAmong n event)
      (sym (ap (λ (h : List (Option Part)). clients_among (length h)) (is ∙ state.same) ∙ clients_counted (led_to config pass.seen) pass.taken state.hand ∙ state.clients)) among

  module _ (event : CellEvent) (hand : List (Option Part)) (missing : List ℕ) (is : hand ≡ pass.hand) (told : IsSetOf missing (need event hand)) where
    needed : (i : ℕ) → Contains missing i → Contains (need event pass.taken) i
    needed i there = subst (λ (h : List (Option Part)). Contains (need event h) i) (is ∙ state.same) (of_set missing (need event hand) i told there)

    pub missing_shown : (i : ℕ) → Contains missing i → Contains (shown event pass.taken) i
    missing_shown i there = of_the_list (λ place. not (is_held pass.taken place)) (shown event pass.taken) i (needed i there)

    pub missing_within : IsAmong config.clients event → (i : ℕ) → Contains missing i → i < length pass.table.opening
    missing_within among i there =
        let s = led_to config pass.seen in
        let wants = shown_wanted s pass.taken event i state.hand (missing_shown i there) in
        let lt = wanted_within s event i (subst (λ (n : ℕ). IsAmong n event) (sym state.clients) among) wants in
        let same = state.opening in
        omega (arith, lt, same)

    fewer : (new : Caller) → missing ≢ [] → HasTaken missing pass new → ((i : ℕ) → Contains missing i → is_held new.taken i ≡ true) → free_count new.taken < free_count pass.taken
    fewer new some took held =
        let apart : length missing ≢ 0 = λ none. some (nil_from_length missing none) in
        let lt : 0 < length missing = omega (arith, apart) in
        let first = get_or missing 0 0 in
        let there = Contains-get_or missing 0 0 lt in
        let free = is_missing pass.taken (shown event pass.taken) first (needed first there) in
        one_fewer_free pass.taken new.taken first took.grown.places (λ j h. still_held missing pass.taken new.taken j took.grown h) free (held first there)

    pub fewer_on : (new : Caller) (result : Result Unit Busy) → HasTaken missing pass new → IfOk result (λ _. AreHeld new.taken missing × (new.lost ≡ pass.lost))
        → OnOk result (missing ≢ [] → free_count new.taken < free_count pass.taken)
    fewer_on new (Ok x) took held = λ some. fewer new some took held.0
    fewer_on new (Err e) took held = tt

-- ---- taking

module _ (event : CellEvent) where
  -- a pass saw the history, and took parts that its held ones show
  pub more_taken : (old saw new : Caller) (asked : List ℕ) → saw ≡ record old { seen = saw.seen } → StartsWith saw.seen old.seen → HoldsWanted event old.taken
      → HasTaken asked saw new → ((i : ℕ) → Contains asked i → Contains (shown event saw.taken) i) → IsTaking event old new
  more_taken old saw new asked is starts wanted took all =
      let seen : new.seen ≡ saw.seen = ap (λ (p : Caller). p.seen) took.pass in
      let held : saw.taken ≡ old.taken = ap (λ (p : Caller). p.taken) is in record {
        pass = took.pass ∙ ap {A = Caller} {B = Caller} (λ p. record p { lost = new.lost; taken = new.taken; hand = new.hand; order = new.order }) is
            ∙ ap {A = History} {B = Caller} (λ h. record old { seen = h; lost = new.lost; taken = new.taken; hand = new.hand; order = new.order }) (sym seen);
        seen = subst (λ (h : History). StartsWith h old.seen) (sym seen) starts;
        hand = took.hand;
        places = took.grown.places ∙ ap length held;
        wanted = shown_held event asked saw.taken new.taken took.grown (subst (λ (h : List (Option Part)). HoldsWanted event h) (sym held) wanted) all;
      }

  none_contained : (i : ℕ) → Contains [] i → ⊥
  none_contained i (k, within, same) = omega arith

  pub looked : (old saw : Caller) → saw ≡ record old { seen = saw.seen } → StartsWith saw.seen old.seen → HoldsWanted event old.taken → old.hand ≡ old.taken → IsTaking event old saw
  looked old saw is starts wanted same =
      let hand : saw.hand ≡ saw.taken = ap (λ (p : Caller). p.hand) is ∙ same ∙ sym (ap (λ (p : Caller). p.taken) is) in
      more_taken old saw saw [] is starts wanted (taken_none [] saw hand) (λ i none. absurd (none_contained i none))

  -- it can take more when it has seen the history, and when it has taken parts then
  pub can_seen : (device : Shared) (found : Option Found) (old saw : Caller) → saw ≡ record old { seen = saw.seen } → StartsWith saw.seen old.seen → IsTrueOf MayMake old → IsTrueOf MayMake saw
      → CanTake device event found old → CanTake device event found saw
  can_seen device found old saw is starts knew knows can =
      let looks = looked old saw is starts can.wanted can.hand in record {
        may = may_seen device event old saw is starts knew knows can.may;
        hand = looks.hand;
        wanted = looks.wanted;
        found_of = found_seen found event old saw is can.found_of;
      }

  pub can_more : (device : Shared) (found : Option Found) (old saw new : Caller) (asked : List ℕ) → CanTake device event found saw → HasTaken asked saw new → IsTaking event old new
      → CanTake device event found new
  can_more device found old saw new asked can took taking = record {
    may = may_taken device event saw new took.pass can.may;
    hand = taking.hand;
    wanted = taking.wanted;
    found_of = found_taken found event saw saw new asked refl took can.found_of;
  }

  pub taken_on : (a b c : Caller) → IsTaking event a b → IsTaking event b c → IsTaking event a c
  taken_on a b c first next = record {
    pass = next.pass ∙ ap {A = Caller} {B = Caller} (λ p. record p { seen = c.seen; lost = c.lost; taken = c.taken; hand = c.hand; order = c.order }) first.pass;
    seen = starts_trans c.seen b.seen a.seen next.seen first.seen;
    hand = next.hand;
    places = next.places ∙ first.places;
    wanted = next.wanted;
  }

  -- a claim that was lost since, on a part that what is held shows
  pub lost_more : (old saw new : Caller) (asked : List ℕ) (part by : ℕ) → saw ≡ record old { seen = saw.seen } → HasTaken asked saw new → Contains (shown event saw.taken) part
      → by ≢ saw.by → new.lost ≡ saw.lost ++ (part, by) ∷ [] → HasLost event old new part by
  lost_more old saw new asked part by is took shows other lost = (
    (λ e. other (e ∙ sym (ap (λ (p : Caller). p.by) is))),
    lost ∙ ap (λ (p : Caller). p.lost ++ (part, by) ∷ []) is,
    shown_wants event asked saw.taken new.taken took.grown part shows,
  )

  -- a pass that held nothing took parts that the words tell
  module _ (clients : ℕ) (old new : Caller) (parts : List ℕ) (idle : HoldsNothing old) (many : clients_among (length old.table.opening) ≡ clients) (is : IsSetOf parts (footprint clients event))
      (took : HasTaken parts old new) where
    free : (i : ℕ) → held_at old.taken i ≡ None
    free i = ap (λ (h : List (Option Part)). held_at h i) idle.0 ∙ nothing_held Part (length old.table.opening) i

    counted : clients_among (length new.taken) ≡ clients
    counted = ap clients_among (took.grown.places ∙ ap length idle.0 ∙ nothing_long Part (length old.table.opening)) ∙ many

    pub first_taken : IsTaking event old new
    first_taken =
        let seen : new.seen ≡ old.seen = ap (λ (p : Caller). p.seen) took.pass in record {
          pass = took.pass ∙ ap {A = History} {B = Caller} (λ h. record old { seen = h; lost = new.lost; taken = new.taken; hand = new.hand; order = new.order }) (sym seen);
          seen = ([], seen ∙ sym (append-nil old.seen));
          hand = took.hand;
          places = took.grown.places;
          wanted = told_held event clients old.taken new.taken free counted parts took.grown (λ i there. of_set parts (footprint clients event) i is there);
        }

    pub first_wants : (part : ℕ) → Contains parts part → Wants event new.taken part
    first_wants part there = told_wants event clients old.taken new.taken free counted part (of_set parts (footprint clients event) part is there)

-- the caller of an event is one of the device's
pub actor_among : (config : Config) (pass : Caller) (event : CellEvent) → IsOf pass.table config → pass.by < pass.table.callers → MayMake pass.by event → IsAmong config.clients event
actor_among config pass event is number may =
    let many = is.callers in
    among_more event pass.by config.clients (omega (arith, number, many)) may.1

-- what the words tell is a part of the table
pub told_within : (config : Config) (table : Opened Part) (event : CellEvent) (parts : List ℕ) (clients : ℕ) → IsOf table config → clients ≡ config.clients → IsAmong config.clients event
    → IsSetOf parts (footprint clients event) → (i : ℕ) → Contains parts i → i < length table.opening
told_within config table event parts clients is same among set i there =
    let n = length-start config in
    let told = subst (λ (m : ℕ). Contains (footprint m event) i) (same ∙ sym n) (of_set parts (footprint clients event) i set there) in
    let lt = wanted_within (start config) event i (subst (λ (m : ℕ). IsAmong m event) (sym n) among) (words_wanted (start config) event i told) in
    let opening = ap length is.opening in
    omega (arith, lt, opening)

-- ---- at the end

module _ (event : CellEvent) (old p : Caller) (taking : IsTaking event old p) (idle : HoldsNothing old) (knew : IsTrueOf MayMake old) where
  module _ (q r g : Caller) (ticket : ℕ) (h : History) (lost : p.lost ≡ old.lost) (is_q : q ≡ record p { hand = q.hand })
      (is_r : r ≡ record q { seen = h ++ (q.by, event) ∷ []; own = q.own ++ ticket ∷ []; left = q.left - 1; taken = q.hand }) (starts : StartsWith h q.seen) (place : ticket ≡ length r.seen)
      (knows : IsTrueOf MayMake r) (is_g : g ≡ record r { taken = nothing (length r.table.opening); hand = nothing (length r.table.opening); order = [] }) where
    abbrev f : Caller → Caller
    f x = record x {
      seen = h ++ (x.by, event) ∷ [];
      own = x.own ++ ticket ∷ [];
      left = x.left - 1;
      taken = nothing (length x.table.opening);
      hand = nothing (length x.table.opening);
      order = [];
    }

    all : g ≡ record old { seen = h ++ (old.by, event) ∷ []; own = old.own ++ ticket ∷ []; left = old.left - 1 }
    all =
        is_g
        ∙ ap {A = Caller} {B = Caller} (λ x. record x { taken = nothing (length x.table.opening); hand = nothing (length x.table.opening); order = [] }) is_r
        ∙ ap {A = Caller} {B = Caller} f is_q
        ∙ ap {A = Caller} {B = Caller} f taking.pass
        ∙ ap {A = List (ℕ × ℕ)} {B = Caller} (λ l. record (f old) { lost = l }) lost
        ∙ ap {A = List (Option Part)} {B = Caller} (λ t. record old { seen = h ++ (old.by, event) ∷ []; own = old.own ++ ticket ∷ []; left = old.left - 1; taken = t; hand = nothing (length old.table.opening); order = [] }) (sym idle.0)
        ∙ ap {A = List (Option Part)} {B = Caller} (λ t. record old { seen = h ++ (old.by, event) ∷ []; own = old.own ++ ticket ∷ []; left = old.left - 1; hand = t; order = [] }) (sym idle.1)
        ∙ ap {A = List ℕ} {B = Caller} (λ o. record old { seen = h ++ (old.by, event) ∷ []; own = old.own ++ ticket ∷ []; left = old.left - 1; order = o }) (sym idle.2)

    r_seen : r.seen ≡ h ++ (old.by, event) ∷ []
    r_seen = ap (λ (x : Caller). x.seen) is_r ∙ ap (λ (x : Caller). h ++ (x.by, event) ∷ []) is_q ∙ ap (λ (x : Caller). h ++ (x.by, event) ∷ []) taking.pass

    r_own : r.own ≡ old.own ++ ticket ∷ []
    r_own = ap (λ (x : Caller). x.own) is_r ∙ ap (λ (x : Caller). x.own ++ ticket ∷ []) is_q ∙ ap (λ (x : Caller). x.own ++ ticket ∷ []) taking.pass

    r_by : r.by ≡ old.by
    r_by = ap (λ (x : Caller). x.by) is_r ∙ ap (λ (x : Caller). x.by) is_q ∙ ap (λ (x : Caller). x.by) taking.pass

    begins : StartsWith h old.seen
    begins = starts_trans h p.seen old.seen (subst (λ (l : History). StartsWith h l) (ap (λ (x : Caller). x.seen) is_q) starts) taking.seen

    front : old.own ≡ places_of old.by h
    front = own_front old.by h event old.own ticket (sym r_own ∙ knows.own ∙ ap (λ (b : ℕ). places_of b r.seen) r_by ∙ ap (λ (l : History). places_of old.by l) r_seen)

    pub served : IsServed event old g ticket h
    served = record {
      pass = all;
      seen = begins;
      place = place ∙ ap length r_seen ∙ length-append h ((old.by, event) ∷ []);
      own = ap (λ (x : Caller). events_of old.by x.seen) all
          ∙ events_more old.by h event
          ∙ ap (λ (l : List CellEvent). l ++ event ∷ []) (same_own old.by old.seen h old.own begins knew.own front);
    }

  module _ (saw g : Caller) (is_s : saw ≡ record p { seen = saw.seen }) (starts : StartsWith saw.seen p.seen) (knows : IsTrueOf MayMake saw)
      (is_g : g ≡ record saw { taken = nothing (length saw.table.opening); hand = nothing (length saw.table.opening); order = [] }) where
    g_seen : g.seen ≡ saw.seen
    g_seen = ap (λ (x : Caller). x.seen) is_g

    given : (lost : List (ℕ × ℕ)) → p.lost ≡ lost → g ≡ record old { seen = g.seen; lost = lost }
    given lost same =
        is_g
        ∙ ap {A = Caller} {B = Caller} (λ x. record x { taken = nothing (length x.table.opening); hand = nothing (length x.table.opening); order = [] }) is_s
        ∙ ap {A = Caller} {B = Caller} (λ x. record x { seen = saw.seen; taken = nothing (length x.table.opening); hand = nothing (length x.table.opening); order = [] }) taking.pass
        ∙ ap {A = List (ℕ × ℕ)} {B = Caller} (λ l. record old { seen = saw.seen; lost = l; taken = nothing (length old.table.opening); hand = nothing (length old.table.opening); order = [] }) same
        ∙ ap {A = List (Option Part)} {B = Caller} (λ t. record old { seen = saw.seen; lost = lost; taken = t; hand = nothing (length old.table.opening); order = [] }) (sym idle.0)
        ∙ ap {A = List (Option Part)} {B = Caller} (λ t. record old { seen = saw.seen; lost = lost; hand = t; order = [] }) (sym idle.1)
        ∙ ap {A = List ℕ} {B = Caller} (λ o. record old { seen = saw.seen; lost = lost; order = o }) (sym idle.2)
        ∙ ap {A = History} {B = Caller} (λ h. record old { seen = h; lost = lost }) (sym g_seen)

    g_starts : StartsWith g.seen old.seen
    g_starts = subst (λ (h : History). StartsWith h old.seen) (sym g_seen) (starts_trans saw.seen p.seen old.seen starts taking.seen)

    g_own : events_of old.by g.seen ≡ events_of old.by old.seen
    g_own =
        let by : saw.by ≡ old.by = ap (λ (x : Caller). x.by) is_s ∙ ap (λ (x : Caller). x.by) taking.pass in
        let own : saw.own ≡ old.own = ap (λ (x : Caller). x.own) is_s ∙ ap (λ (x : Caller). x.own) taking.pass in
        same_own old.by old.seen g.seen old.own g_starts knew.own
        (sym own ∙ knows.own ∙ ap (λ (b : ℕ). places_of b saw.seen) by ∙ ap (λ (l : History). places_of old.by l) (sym g_seen))

    -- without memory
    pub without_memory : p.lost ≡ old.lost → IsAsBefore old g
    without_memory lost = record { pass = given old.lost lost; seen = g_starts; own = g_own }

    -- a claim was lost
    pub is_busy : (config : Config) (part by : ℕ) → IsHandOf saw.taken (parts_of (led_to config saw.seen)) → HasLost event old p part by → IsBusy config event old g part by
    is_busy config part by led lost =
        let held : saw.taken ≡ p.taken = ap (λ (x : Caller). x.taken) is_s in
        let of_p = subst (λ (h : List (Option Part)). IsHandOf h (parts_of (led_to config saw.seen))) held led in record {
          pass = given (old.lost ++ (part, by) ∷ []) lost.1;
          seen = g_starts;
          own = g_own;
          another = lost.0;
          wants = subst (λ (h : History). Contains (wanted event (led_to config h)) part) (sym g_seen) (lost.2 (led_to config saw.seen) of_p);
        }

    pub refuses : (config : Config) (why : Refused) → IsHandOf saw.taken (parts_of (led_to config saw.seen)) → IsStopped event old p why → IsRefused config event old g why
    refuses config (refused.Busy busy) led stopped = is_busy config busy.part busy.by led stopped
    refuses config refused.Memory led stopped = without_memory stopped

  -- without memory at the step
  pub kept : (q g : Caller) → IsTrueOf MayMake p → p.lost ≡ old.lost → q ≡ p → g ≡ record q { taken = nothing (length q.table.opening); hand = nothing (length q.table.opening); order = [] } → IsAsBefore old g
  kept q g knows lost is_q is_g =
      let same = is_g ∙ ap {A = Caller} {B = Caller} (λ x. record x { taken = nothing (length x.table.opening); hand = nothing (length x.table.opening); order = [] }) is_q in
      without_memory p g refl ([], sym (append-nil p.seen)) knows same lost
