-- A phase of a crew.
use Rattle.std.proofs.Common.{◌≡◌, ◌≤◌, ◌<◌, ◌+◌, ◌-◌, ◌*◌, ◌^◌, ℕ, List, [], ◌∷◌, refl, sym, ap, ◌∙◌, subst, length, length-append, arith, Some, slice_get}
use Rattle.std.specs.List.{All}
use Rattle.mms_types.specs.declared.event.CellEvent.{CellEvent}
use Rattle.mms_types.specs.declared.event.What.{What}
use Rattle.cell_config.specs.declared.config.Config.{Config}
use Rattle.part_table.specs.History.{StartsWith}
use Rattle.part_table.specs.Known.{HoldsNothing, IsTrueOf}
use Rattle.part_table.specs.Gathered.{AreAll, HaveGathered}
use Rattle.part_table.proofs.Histories.{starts_length}
use Rattle.step_parts.specs.Step.{said}
use Rattle.mms_device.specs.Making.{MayMake}
use Rattle.mms_device.specs.Shared.{Caller, History, all_events}
use Rattle.mms_device.specs.Turns.{CanServe}
use Rattle.cell_record.specs.EventLine.{IsRecorded}
use Rattle.cell_record.specs.History.{events_of as acts_of}
use Rattle.cell_record.specs.Report.{placed_from}
use Rattle.cell_run.specs.declared.crew.Crew.{Crew}
use Rattle.cell_run.specs.Drained.{AreKnown, DrainAll}
use Rattle.cell_run.specs.Jobs.{AreBelow}
use Rattle.cell_run.specs.Laying.{IsServedBy, Log}
use Rattle.cell_run.specs.Running.{HasRun, HaveServed, size_of}
use Rattle.cell_run.specs.Serving.{IsNext, ServesPhase}
use Rattle.cell_run.proofs.OnePhase as phase
use Rattle.cell_run.proofs.Worked.{slice_there}

front_of : {X : Type 0} (l : List X) → 0 < length l → (x : X) × (xs : List X) × (l ≡ x ∷ xs)
front_of [] lt = absurd (omega arith)
front_of (x ∷ xs) lt = (x, xs, refl)

module _ (self : Crew) (config : Config) (phases bodies : List (List CellEvent)) (es : List CellEvent) (h : HasRun self config phases bodies) (recorded : All (IsRecorded config) es) (passes : List Caller) (items : passes ≡ self.passes.items)
    (true_of : (i : ℕ) (p : Caller) → slice_get passes i ≡ Some p → IsTrueOf MayMake p) where
  pub known : AreKnown self.device.table passes h.common
  known = subst (λ (l : List Caller). AreKnown self.device.table l h.common) (sym items) h.known

  pub left : (i : ℕ) (p : Caller) → slice_get passes i ≡ Some p → 2 ^ 33 ≤ size_of phases + length phases + p.left
  left i p at = h.left i p (ap (λ (l : List Caller). slice_get l i) (sym items) ∙ at)

  pub crew_fit : IsNext config phases es → size_of phases + length es ≤ 2 ^ 32 → (i : ℕ) (p : Caller) → slice_get passes i ≡ Some p → CanServe self.device p (acts_of i es)
  crew_fit next size i p at = phase.each_fit self.device config h.common passes es h.of h.device known true_of recorded phases left h.time next size i p at

  pub crew_below : AreBelow (length passes) es
  crew_below = phase.below self.device config h.common passes es h.of h.device known true_of recorded

  module _ (after : List Caller) (logs : List Log) (s : HaveServed self.device passes es after logs) (true_after : (i : ℕ) (q : Caller) → slice_get after i ≡ Some q → IsTrueOf MayMake q) where
    pub crew_all : AreAll self.device.table after
    crew_all = phase.all_after self.device config h.common passes es h.of h.device known true_of recorded after logs s true_after

    module _ (gathered : List Caller) (k : ℕ) (now : History) (g : HaveGathered MayMake after gathered k now) where
      known_now : AreKnown self.device.table gathered now
      known_now = phase.known_now self.device config h.common passes es h.of h.device known true_of recorded after logs s true_after gathered k now g

      abbrev from_first : StartsWith now h.common
      from_first = phase.from_first self.device config h.common passes es h.of h.device known true_of recorded after logs s true_after gathered k now g

      pub count_grows : self.count ≤ k
      count_grows = let a = starts_length now h.common from_first in let b = h.count in let c = g.size in omega arith

      some : 0 < length gathered
      some = let a = known_now.count in let b = h.of.callers in omega arith

      pub count_small : ((i : ℕ) (q : Caller) → slice_get gathered i ≡ Some q → IsTrueOf MayMake q) → k ≤ 65 * 2 ^ 40
      count_small true_now =
          let q = slice_there gathered 0 some in
          let size = (true_now 0 q.0 q.1).size in
          let longer = starts_length q.0.seen now (known_now.each 0 q.0 q.1).seen in
          let c = g.size in
          omega arith

      abbrev pub crew_body : (body : History) × (length body ≡ k - self.count) × IsServedBy (self.count + 1) logs body
      crew_body =
          let n : 1 + length h.common ≡ self.count + 1 = (let b = h.count in omega arith) in
          let whole = ap length from_first.1 ∙ length-append h.common from_first.0 in (
            from_first.0,
            (let b = h.count in let c = g.size in omega arith),
            subst (λ first. IsServedBy first logs from_first.0) n (phase.served_by self.device config h.common passes es h.of h.device known true_of recorded after logs s true_after gathered k now g),
          )

      pub crew_may_drain : IsNext config phases es → size_of phases + length es ≤ 2 ^ 32 → (i : ℕ) (p : Caller) → slice_get gathered i ≡ Some p → (p.table ≡ self.device.table) × (p.by ≡ i) × (0 < p.left) × HoldsNothing p
      crew_may_drain next size i p at =
          let one = known_now.each i p at in
          let o = phase.still_left self.device config h.common passes es h.of h.device known true_of recorded after logs s true_after gathered k now g i p at in
          let kept = o.2 in
          let had = left i o.0 o.1 in
          let many = next.many in
          (one.of_table, one.by, omega arith, one.idle)

      pub crew_front : (first : Caller) × (clients : List Caller) × (gathered ≡ first ∷ clients) × StartsWith first.seen now
      crew_front =
          let f = front_of gathered some in
          (f.0, f.1, f.2, (known_now.each 0 f.0 (ap (λ (l : List Caller). slice_get l 0) f.2)).seen)

      module _ (first : Caller) (clients : List Caller) (are : gathered ≡ first ∷ clients) (passed : List Caller) (outputs : List (List What)) (d : DrainAll (said self.device.config) now first clients passed outputs) where
        pub crew_drained : AreAll self.device.table passed
        crew_drained = subst (AreAll self.device.table) (sym d.are) (phase.all_drained self.device config h.common passes es h.of h.device known true_of recorded after logs s true_after gathered k now g first clients are passed outputs d)

        module _ (again : List Caller) (k2 : ℕ) (last_now : History) (g2 : HaveGathered MayMake passed again k2 last_now) where
          g3 : HaveGathered MayMake (d.last ∷ d.after) again k2 last_now
          g3 = subst (λ (l : List Caller). HaveGathered MayMake l again k2 last_now) d.are g2

          pub crew_serves : (number : ℕ) (served : List (ℕ × CellEvent)) (crew : Crew) → served ≡ placed_from (self.count + 1) (all_events crew_body.0) → crew.device ≡ self.device → crew.passes.items ≡ again → crew.count ≡ k2
              → crew.workers ≡ self.workers → ServesPhase config phases bodies number es (record { number = number; served = served; outputs = outputs }) (HasRun crew)
          crew_serves number served crew is same there count workers = record {
            body = all_events crew_body.0;
            number_is = refl;
            placed = phase.told_served self.device config h.common passes es h.of h.device known true_of recorded after logs s true_after gathered k now g first clients are passed outputs d again k2 last_now g3 phases bodies h.along
                self.count served h.count is;
            outputs = phase.told_outputs self.device config h.common passes es h.of h.device known true_of recorded after logs s true_after gathered k now g first clients are passed outputs d again k2 last_now g3 phases bodies h.along;
            served = phase.has_run self.device config h.common passes es h.of h.device known true_of recorded after logs s true_after gathered k now g first clients are passed outputs d again k2 last_now g3 phases bodies h.along
                crew h.interleave same there count (subst (λ n. (1 ≤ n) × (n ≤ 16)) (sym workers) h.workers) left h.time;
          }
