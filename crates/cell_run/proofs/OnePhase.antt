-- A phase that the passes of a device serve, and then drain.
use Rattle.std.proofs.Common.{◌≡◌, ◌==◌, Bool, true, false, if◌then◌else◌, ne_eqb, ◌≤◌, ◌+◌, ◌-◌, ◌^◌, ℕ, zero, suc, List, [], ◌∷◌, ◌++◌, refl, sym, ap, ap₂, ◌∙◌, subst, map, length, length-append, drop, arith, append_assoc, Option, Some, None, slice_get}
use Rattle.std.specs.List.{All}
use Rattle.std.proofs.lemmas.List.{length-map}
use Rattle.std.proofs.lemmas.Option.{slice_get_within}
use Rattle.mms_types.specs.Actors.{actor_of, clients_to}
use Rattle.mms_types.specs.declared.event.CellEvent.{CellEvent}
use Rattle.mms_types.specs.declared.event.CellEvent.TheVariants.{Drain}
use Rattle.mms_types.specs.declared.event.What.{What}
use Rattle.cell_config.specs.declared.config.Config.{Config}
use Rattle.part_table.specs.History.{StartsWith, events_of, places_of, IsMade}
use Rattle.part_table.specs.Known.{HoldsNothing, IsTrueOf}
use Rattle.part_table.specs.Gathered.{AreAll, HaveGathered, own_places}
use Rattle.part_table.proofs.Histories.{starts_trans, starts_whole, starts_length}
use Rattle.part_table.proofs.Own.{own_events}
use Rattle.step_parts.specs.Step.{said}
use Rattle.mms_device.specs.Making.{MayMake}
use Rattle.mms_device.specs.Shared.{Shared, Caller, History, IsOf, all_events, ticks_in}
use Rattle.mms_device.specs.Turns.{AreOf, CanServe, events}
use Rattle.cell_record.specs.EventLine.{IsRecorded}
use Rattle.cell_record.specs.Grammar.{all_ms}
use Rattle.cell_record.specs.History.{IsBodyOf, Interleaves, drains, history, events_of as acts_of}
use Rattle.cell_record.specs.Report.{placed_from, taken}
use Rattle.cell_run.specs.declared.crew.Crew.{Crew}
use Rattle.cell_run.specs.Drained.{AreKnown, DrainAll, drains_of}
use Rattle.cell_run.specs.Jobs.{AreBelow}
use Rattle.cell_run.specs.Laying.{IsServedBy, Log, placed_of}
use Rattle.cell_run.specs.Running.{HasRun, HaveServed, IsWhole, size_of}
use Rattle.cell_run.specs.Serving.{IsNext}
use Rattle.cell_run.proofs.Before.{actor_few, actor_makes, actor_time, recorded_below}
use Rattle.cell_run.proofs.Fronts.{history-snoc}
use Rattle.cell_run.proofs.OwnCounts.{by_actor, made_rest, none_above, own_one, own_same}
use Rattle.cell_run.proofs.OwnEvents.{events_append, placed_events}
use Rattle.cell_run.proofs.Phases.{all_ms-append, interleaves-append, size-append}
use Rattle.cell_run.proofs.SinceGathered.{gathered_known, served_since}
use Rattle.cell_run.proofs.Worked.{slice_there}

module _ {X : Type 0} where
  beyond : (xs : List X) (i : ℕ) → slice_get xs i ≡ None → length xs ≤ i
  beyond [] i at = omega arith
  beyond (x ∷ xs) zero at = absurd (cc at)
  beyond (x ∷ xs) (suc i) at = let r = beyond xs i at in omega arith

  map-append : {Y : Type 0} (f : X → Y) (xs ys : List X) → map f (xs ++ ys) ≡ map f xs ++ map f ys
  map-append f [] ys = refl
  map-append f (x ∷ xs) ys = ap (λ l. f x ∷ l) (map-append f xs ys)

own_actor : (c : ℕ) (e : CellEvent) → MayMake c e → actor_of e ≡ c
own_actor c e made = made.0

-- nobody with a higher number acts
none_act : (actor actors : ℕ) (es : List CellEvent) → AreBelow actors es → actors ≤ actor → acts_of actor es ≡ []
none_act actor actors [] below le = refl
none_act actor actors (e ∷ es) below le =
    let other : (actor_of e == actor) ≡ false = ne_eqb (actor_of e) actor (λ same. let lt = below.0 in omega arith) in
    ap (λ b. if b then e ∷ acts_of actor es else acts_of actor es) other ∙ none_act actor actors es below.1 le

ticks-append : (xs ys : List CellEvent) → ticks_in (xs ++ ys) ≡ ticks_in xs + ticks_in ys
ticks-append [] ys = omega arith
ticks-append (e ∷ xs) ys = let rest = ticks-append xs ys in omega (arith, rest)

drains_still : (caller : ℕ) (cs : List ℕ) → ticks_in (events_of caller (drains_of cs)) ≡ 0
drains_still caller [] = refl
drains_still caller (c ∷ cs) = by (c == caller) (drains_still caller cs)
  where
    by : (b : Bool) → ticks_in (events_of caller (drains_of cs)) ≡ 0
        → ticks_in (if b then Drain c ∷ events_of caller (drains_of cs) else events_of caller (drains_of cs)) ≡ 0
    by true r = omega (arith, r)
    by false r = r

drains_all : (cs : List ℕ) → all_events (drains_of cs) ≡ drains cs
drains_all [] = refl
drains_all (c ∷ cs) = ap (λ (l : List CellEvent). Drain c ∷ l) (drains_all cs)

module _ (device : Shared) (config : Config) (common : History) (passes : List Caller) (es : List CellEvent) (of : IsOf device.table config) (is : device.config ≡ config) (known : AreKnown device.table passes common)
    (true_of : (i : ℕ) (p : Caller) → slice_get passes i ≡ Some p → IsTrueOf MayMake p) (recorded : All (IsRecorded config) es) where
  module _ (phases : List (List CellEvent)) (left : (i : ℕ) (p : Caller) → slice_get passes i ≡ Some p → 2 ^ 33 ≤ size_of phases + length phases + p.left)
      (time : (caller : ℕ) → ticks_in (events_of caller common) ≤ all_ms phases) (next : IsNext config phases es) (size : size_of phases + length es ≤ 2 ^ 32) where
    -- each pass is fit to serve its events
    pub each_fit : (i : ℕ) (p : Caller) → slice_get passes i ≡ Some p → CanServe device p (acts_of i es)
    each_fit i p at =
        let one = known.each i p at in
        let tr = true_of i p at in
        let same : places_of i p.seen ≡ places_of i common = subst (λ n. places_of n p.seen ≡ p.own) one.by (sym tr.own) ∙ one.own in
        let seen : ticks_in (events_of p.by p.seen) ≡ ticks_in (events_of i common) = ap (λ n. ticks_in (events_of n p.seen)) one.by ∙ ap ticks_in (own_events i common p.seen one.seen same) in
        let start : device.config.start.0 ≡ config.start.0 = ap (λ (k : Config). k.start.0) is in
        let few = actor_few config i es in
        let ms = actor_time config i es in
        let enough = left i p at in
        let many = next.many in
        let clock = next.clock in
        let now = time i in
        record {
          of_table = one.of_table;
          idle = one.idle;
          left = omega arith;
          actor = subst (λ n. AreOf n (acts_of i es)) (sym one.by) (actor_makes config i es recorded);
          time = omega arith;
        }

  pub below : AreBelow (length passes) es
  below = recorded_below config (length passes) es (known.count ∙ of.callers) recorded

  module _ (after : List Caller) (logs : List Log) (s : HaveServed device passes es after logs) (true_after : (i : ℕ) (q : Caller) → slice_get after i ≡ Some q → IsTrueOf MayMake q) where
    before_of : (i : ℕ) (q : Caller) → slice_get after i ≡ Some q
        → (p : Caller) × (log : Log) × (slice_get passes i ≡ Some p) × (slice_get logs i ≡ Some log) × IsWhole device (acts_of i es) p q log
    before_of i q at =
        let lt = slice_get_within after i q at in
        let same = s.same in
        let all = s.all in
        let p = slice_there passes i (omega arith) in
        let a = slice_there logs i (omega arith) in
        (p.0, a.0, p.1, a.1, s.each i p.0 q a.0 p.1 at a.1)

    pub all_after : AreAll device.table after
    all_after = record { count = s.same ∙ known.count; each = λ i q at. let b = before_of i q at in (b.4.of_table, b.4.by ∙ (known.each i b.0 b.2).by) }

    module _ (gathered : List Caller) (k : ℕ) (now : History) (g : HaveGathered MayMake after gathered k now) where
      pub known_now : AreKnown device.table gathered now
      known_now = gathered_known MayMake device.table after gathered k now all_after.count (λ i q at. (all_after.each i q at).0) (λ i q at. (all_after.each i q at).1) (λ i q at. (before_of i q at).4.idle) g

      pub from_first : StartsWith now common
      from_first =
          let callers = of.callers in
          let count = all_after.count in
          let q = slice_there after 0 (omega arith) in
          let b = before_of 0 q.0 q.1 in
          let kept = g.kept 0 q.0 q.1 in
          starts_trans now q.0.seen common kept.4 (starts_trans q.0.seen b.0.seen common (drop (length b.0.seen) q.0.seen, b.4.seen) (known.each 0 b.0 b.2).seen)

      abbrev pub body : History
      body = from_first.0

      actors : length logs ≡ length after
      actors = s.all ∙ sym s.same

      body_made : IsMade (length after) MayMake body
      body_made = made_rest actor_of MayMake own_actor (length after) common body (subst (λ (l : History). IsMade (length after) MayMake l) from_first.1 g.made)

      served_at : (i : ℕ) (log : Log) → slice_get logs i ≡ Some log → (log ≡ placed_of (1 + length common) i body) × (acts_of i es ≡ events log)
      served_at i log at =
          let lt = slice_get_within logs i log at in
          let same = actors in
          let q = slice_there after i (omega arith) in
          let b = before_of i q.0 q.1 in
          let e : b.1 ≡ log = cc (sym b.3 ∙ at) in
          let w : IsWhole device (acts_of i es) b.0 q.0 log = subst (λ (x : Log). IsWhole device (acts_of i es) b.0 q.0 x) e b.4 in
          let kept = g.kept i q.0 q.1 in
          let one = known.each i b.0 b.2 in
          let mine : events_of i q.0.seen ≡ events_of i b.0.seen ++ events log = subst (λ n. events_of n q.0.seen ≡ events_of n b.0.seen ++ events log) one.by w.known in
          (served_since MayMake device.table common now body i b.0 q.0 log one (true_of i b.0 b.2) (true_after i q.0 q.1) (w.by ∙ one.by) w.own mine kept.4 kept.5 from_first.1, w.work)

      pub served_by : IsServedBy (1 + length common) logs body
      served_by = record {
        made = subst (λ n. IsMade n MayMake body) (sym actors) body_made;
        served = λ i log at. (served_at i log at).0;
      }

      -- a caller's events in the body are those of the phase
      acted : (actor : ℕ) → events_of actor body ≡ acts_of actor es
      acted actor = by (slice_get logs actor) refl
        where
          by : (o : Option Log) → slice_get logs actor ≡ o → events_of actor body ≡ acts_of actor es
          by (Some log) at = let v = served_at actor log at in sym (placed_events (1 + length common) actor body) ∙ ap events (sym v.0) ∙ sym v.1
          by None at =
              let le = beyond logs actor at in
              let same = actors in
              let count = s.same in
              none_above actor_of MayMake own_actor (length after) actor body body_made (omega arith) ∙ sym (none_act actor (length passes) es below (omega arith))

      pub interleaved : IsBodyOf (all_events body) es
      interleaved = record { each = λ actor. by_actor actor_of MayMake own_actor (length after) actor body body_made ∙ acted actor }

      -- how many commits a pass has left then
      pub still_left : (i : ℕ) (r : Caller) → slice_get gathered i ≡ Some r → (p : Caller) × (slice_get passes i ≡ Some p) × (p.left ≤ r.left + length es)
      still_left i r at =
          let lt = slice_get_within gathered i r at in
          let same = g.same in
          let q = slice_there after i (omega arith) in
          let b = before_of i q.0 q.1 in
          let kept = g.kept i q.0 q.1 in
          let e : kept.0 ≡ r = cc (sym kept.1 ∙ at) in
          let l : r.left ≡ q.0.left = ap (λ (x : Caller). x.left) (sym e) ∙ ap (λ (x : Caller). x.left) kept.2 in
          let w = b.4.left in
          let n : length (acts_of i es) ≡ length b.1 = ap length b.4.work ∙ length-map b.1 (λ (x : ℕ × CellEvent). x.1) in
          let few = actor_few config i es in
          (b.0, b.2, omega (arith, l, w, n, few))

      own_now : own_places gathered ≡ length now
      own_now = own_same after gathered g.same (λ i q at. let kept = g.kept i q at in (kept.0, kept.1, ap (λ (x : Caller). length x.own) kept.2)) ∙ sym g.count ∙ g.size

      module _ (first : Caller) (clients : List Caller) (are : gathered ≡ first ∷ clients) (passed : List Caller) (outputs : List (List What)) (d : DrainAll (said device.config) now first clients passed outputs) where
        abbrev pub all : List Caller
        all = d.last ∷ d.after

        -- what a drain leaves of a pass
        drained_of : (i : ℕ) (q : Caller) → slice_get all i ≡ Some q
            → (p : Caller) × (slice_get gathered i ≡ Some p) × (q.table ≡ p.table) × (q.by ≡ p.by) × HoldsNothing q × (p.left ≤ q.left + 1)
        drained_of zero q at =
            let e : d.last ≡ q = cc at in
            let k = d.drained.kept in
            let here : slice_get gathered 0 ≡ Some first = ap (λ (l : List Caller). slice_get l 0) are in
            let one = known_now.each 0 first here in
            let left : d.last.left ≡ first.left = ap (λ (x : Caller). x.left) k in
            let idle : HoldsNothing d.last = subst HoldsNothing (sym k) one.idle in
            subst (λ (x : Caller). (p : Caller) × (slice_get gathered 0 ≡ Some p) × (x.table ≡ p.table) × (x.by ≡ p.by) × HoldsNothing x × (p.left ≤ x.left + 1)) e
            (first, here, ap (λ (x : Caller). x.table) k, ap (λ (x : Caller). x.by) k, idle, omega (arith, left))
        drained_of (suc i) q at =
            let lt = slice_get_within d.after i q at in
            let same = d.drained.same in
            let p = slice_there clients i (omega arith) in
            let r = d.drained.done i p.0 (omega arith) p.1 in
            let e : r.0 ≡ q = cc (sym r.1 ∙ at) in
            let k = r.2.pass in
            let there : slice_get gathered (suc i) ≡ Some p.0 = ap (λ (l : List Caller). slice_get l (suc i)) are ∙ p.1 in
            let one = known_now.each (suc i) p.0 there in
            let left : r.0.left ≡ p.0.left - 1 = ap (λ (x : Caller). x.left) k in
            let idle : HoldsNothing r.0 = subst HoldsNothing (sym k) one.idle in
            subst (λ (x : Caller). (p : Caller) × (slice_get gathered (suc i) ≡ Some p) × (x.table ≡ p.table) × (x.by ≡ p.by) × HoldsNothing x × (p.left ≤ x.left + 1)) e
            (p.0, there, ap (λ (x : Caller). x.table) k, ap (λ (x : Caller). x.by) k, idle, omega (arith, left))

        pub all_drained : AreAll device.table all
        all_drained = record {
          count = (let n = ap length are in let same = d.drained.same in let count = known_now.count in omega arith);
          each = λ i q at. let p = drained_of i q at in (p.2 ∙ (known_now.each i p.0 p.1).of_table, p.3 ∙ (known_now.each i p.0 p.1).by);
        }

        own_drained : own_places all ≡ length now + length clients
        own_drained =
            let here : length d.last.own ≡ length first.own = ap (λ (x : Caller). length x.own) d.drained.kept in
            let others = own_one clients d.after d.drained.same (λ i p at. let r = d.drained.done i p (slice_get_within clients i p at) at in
            (r.0, r.1, ap (λ (x : Caller). length x.own) r.2.pass ∙ length-append p.own (r.2.ticket ∷ []))) in
            let whole : own_places gathered ≡ length first.own + own_places clients = ap own_places are in
            let was = own_now in
            omega arith

        module _ (again : List Caller) (k2 : ℕ) (last_now : History) (g2 : HaveGathered MayMake all again k2 last_now) where
          pub known_last : AreKnown device.table again last_now
          known_last = gathered_known MayMake device.table all again k2 last_now all_drained.count (λ i q at. (all_drained.each i q at).0) (λ i q at. (all_drained.each i q at).1) (λ i q at. (drained_of i q at).4) g2

          how_long : length last_now ≡ length now + length clients
          how_long = sym g2.size ∙ g2.count ∙ own_drained

          first_knows : StartsWith last_now d.last.seen
          first_knows = (g2.kept 0 d.last refl).4

          exactly : (d.last.seen ≡ now ++ drains_of (clients_to (length clients))) × (outputs ≡ taken (said device.config) (all_events now) (clients_to (length clients)))
          exactly = d.drained.exact (let shorter = starts_length last_now d.last.seen first_knows in let long = how_long in omega arith)

          clients_are : length clients ≡ config.clients
          clients_are = let n = ap length are in let count = known_now.count in let callers = of.callers in omega arith

          last_is : last_now ≡ now ++ drains_of (clients_to config.clients)
          last_is =
              sym (starts_whole last_now d.last.seen first_knows (let least = d.drained.least in let long = how_long in omega arith)) ∙ exactly.0
              ∙ ap (λ n. now ++ drains_of (clients_to n)) clients_are

          -- the events of the whole history
          events_are : all_events last_now ≡ all_events common ++ (all_events body ++ drains (clients_to config.clients))
          events_are =
              let one = λ (m : ℕ × CellEvent). m.1 in
              ap all_events last_is ∙ map-append one now (drains_of (clients_to config.clients))
              ∙ ap₂ (λ (a b : List CellEvent). a ++ b) (ap all_events from_first.1 ∙ map-append one common body) (drains_all (clients_to config.clients))
              ∙ append_assoc (all_events common) (all_events body) (drains (clients_to config.clients))

          ticks_are : (caller : ℕ) → ticks_in (events_of caller last_now) ≡ ticks_in (events_of caller common) + ticks_in (acts_of caller es)
          ticks_are caller =
              let a = ap (λ (l : History). ticks_in (events_of caller l)) last_is ∙ ap ticks_in (events_append caller now (drains_of (clients_to config.clients)))
              ∙ ticks-append (events_of caller now) (events_of caller (drains_of (clients_to config.clients))) in
              let b = ap (λ (l : History). ticks_in (events_of caller l)) from_first.1 ∙ ap ticks_in (events_append caller common body) ∙ ticks-append (events_of caller common) (events_of caller body) in
              let none = drains_still caller (clients_to config.clients) in
              let mine = ap ticks_in (acted caller) in
              omega (arith, a, b, none, mine)

          module _ (phases bodies : List (List CellEvent)) (along : all_events common ≡ history config.clients bodies) where
            -- what is told of it
            pub told_served : (before : ℕ) (served : List (ℕ × CellEvent)) → before ≡ length common → served ≡ placed_from (before + 1) (all_events body)
                → served ≡ placed_from (length (history config.clients bodies) + 1) (all_events body)
            told_served before served count is_served =
                let size : before + 1 ≡ length (history config.clients bodies) + 1 = ap (λ n. n + 1) (count ∙ sym (length-map common (λ (m : ℕ × CellEvent). m.1)) ∙ ap length along) in
                is_served ∙ ap (λ n. placed_from n (all_events body)) size

            pub told_outputs : outputs ≡ taken (said config) (history config.clients bodies ++ all_events body) (clients_to config.clients)
            told_outputs =
                let front : all_events now ≡ history config.clients bodies ++ all_events body = ap all_events from_first.1 ∙ map-append (λ (m : ℕ × CellEvent). m.1) common body ∙ ap (λ (l : List CellEvent). l ++ all_events body) along in
                exactly.1 ∙ ap (λ n. taken (said device.config) (all_events now) (clients_to n)) clients_are ∙ ap (λ (k : Config). taken (said k) (all_events now) (clients_to config.clients)) is
                ∙ ap (λ (l : List CellEvent). taken (said config) l (clients_to config.clients)) front

            -- and what has been served then
            pub has_run : (crew : Crew) → Interleaves bodies phases → crew.device ≡ device → crew.passes.items ≡ again → crew.count ≡ k2 → (1 ≤ crew.workers) × (crew.workers ≤ 16)
                → ((i : ℕ) (p : Caller) → slice_get passes i ≡ Some p → 2 ^ 33 ≤ size_of phases + length phases + p.left) → ((caller : ℕ) → ticks_in (events_of caller common) ≤ all_ms phases)
                → HasRun crew config (phases ++ es ∷ []) (bodies ++ all_events body ∷ [])
            has_run crew before same items count workers left time = record {
              common = last_now;
              along = events_are ∙ ap (λ (l : List CellEvent). l ++ (all_events body ++ drains (clients_to config.clients))) along ∙ sym (history-snoc config.clients bodies (all_events body));
              interleave = interleaves-append bodies phases (all_events body ∷ []) (es ∷ []) before (interleaved, tt);
              device = ap (λ (x : Shared). x.config) same ∙ is;
              of = subst (λ (x : Shared). IsOf x.table config) (sym same) of;
              known = subst (λ (x : Shared). AreKnown x.table crew.passes.items last_now) (sym same) (subst (λ (l : List Caller). AreKnown device.table l last_now) (sym items) known_last);
              made = subst (λ n. IsMade n MayMake last_now) (all_drained.count ∙ of.callers) g2.made;
              count = count ∙ g2.size;
              workers = workers;
              left = λ i q at. left_then i q (ap (λ (l : List Caller). slice_get l i) (sym items) ∙ at);
              time = λ caller. (let a = ticks_are caller in let b = actor_time config caller es in let c = time caller in let more = all_ms-append phases es in omega arith);
            }
              where
                left_then : (i : ℕ) (q : Caller) → slice_get again i ≡ Some q → 2 ^ 33 ≤ size_of (phases ++ es ∷ []) + length (phases ++ es ∷ []) + q.left
                left_then i q at =
                    let lt = slice_get_within again i q at in
                    let same_size = g2.same in
                    let p = slice_there all i (omega arith) in
                    let kept = g2.kept i p.0 p.1 in
                    let e : kept.0 ≡ q = cc (sym kept.1 ∙ at) in
                    let l : q.left ≡ p.0.left = ap (λ (x : Caller). x.left) (sym e) ∙ ap (λ (x : Caller). x.left) kept.2 in
                    let r = drained_of i p.0 p.1 in
                    let o = still_left i r.0 r.1 in
                    let drop_one = r.5 in
                    let drop_all = o.2 in
                    let had = left i o.0 o.1 in
                    let size = size-append phases es in
                    let many = length-append phases (es ∷ []) in
                    omega arith
