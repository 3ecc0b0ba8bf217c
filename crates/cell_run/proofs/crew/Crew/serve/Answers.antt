use Rattle.std.proofs.Common.{◌≡◌, ℕ, Some, List, length, map, slice_get, vec_items, ap, refl, sym, subst, ◌∙◌, arith}
use Rattle.std.specs.List.{All}
use Rattle.cell_config.specs.declared.config.Config.{Config}
use Rattle.part_table.specs.Known.{IsTrueOf}
use Rattle.part_table.specs.Gathered.{AreAll, HaveGathered}
use Rattle.mms_device.specs.Making.{MayMake}
use Rattle.mms_device.specs.Shared.{Caller}
use Rattle.cell_record.specs.EventLine.{IsRecorded}
use Rattle.cell_run.proofs.CrewPhase.{count_grows, count_small, crew_all, crew_below, crew_body, crew_drained, crew_fit, crew_front, crew_may_drain, crew_serves}
use Rattle.cell_run.proofs.Worked.{written}
use Rattle.cell_run.proofs.crew.Crew.serve.Goals as goal

pub serve_all-requires-clause-fit : goal.serve_all-requires-clause-fit
serve_all-requires-clause-fit g c κs within =
    let self = c.args.self.now in
    let es = c.args.phase.events in
    let passes = c.replace-passes.result.items in
    let items : passes ≡ self.passes.items = ap (λ v. v.items) c.replace-passes.ensures.value in
    let true_of : (i : ℕ) (p : Caller) → slice_get passes i ≡ Some p → IsTrueOf MayMake p = λ i p at. c.know_all.ensures i p (ap (λ (l : List Caller). slice_get l i) c.deref.ensures.value ∙ at) in
    let n = c.requires.next in
    crew_fit self n.config n.phases n.bodies es n.served n.next.recorded passes items true_of n.next n.size

pub serve_all-requires-clause-below : goal.serve_all-requires-clause-below
serve_all-requires-clause-below g c κs within =
    let self = c.args.self.now in
    let es = c.args.phase.events in
    let passes = c.replace-passes.result.items in
    let items : passes ≡ self.passes.items = ap (λ v. v.items) c.replace-passes.ensures.value in
    let true_of : (i : ℕ) (p : Caller) → slice_get passes i ≡ Some p → IsTrueOf MayMake p = λ i p at. c.know_all.ensures i p (ap (λ (l : List Caller). slice_get l i) c.deref.ensures.value ∙ at) in
    let n = c.requires.next in
    crew_below self n.config n.phases n.bodies es n.served n.next.recorded passes items true_of

pub gather-count-requires : goal.gather-count-requires
gather-count-requires g c =
    let self = c.args.self.now in
    let es = c.args.phase.events in
    let passes = c.replace-passes.result.items in
    let items : passes ≡ self.passes.items = ap (λ v. v.items) c.replace-passes.ensures.value in
    let true_of : (i : ℕ) (p : Caller) → slice_get passes i ≡ Some p → IsTrueOf MayMake p = λ i p at. c.know_all.ensures i p (ap (λ (l : List Caller). slice_get l i) c.deref.ensures.value ∙ at) in
    let n = c.requires.next in
    let after = c.in_ok-passes.passes.items in
    let logs = map vec_items c.in_ok-passes.logs.items in
    let true_after : (i : ℕ) (p : Caller) → slice_get after i ≡ Some p → IsTrueOf MayMake p = λ i p at. c.know_all-2.ensures i p (ap (λ (l : List Caller). slice_get l i) c.deref-2.ensures.value ∙ at) in
    record { all = subst (AreAll self.device.table) (sym c.as_mut_slice.ensures.value) (crew_all self n.config n.phases n.bodies es n.served n.next.recorded passes items true_of after logs c.in_ok-passes.ensures true_after) }

pub overflow_add-self : goal.overflow_add-self
overflow_add-self g c =
    let self = c.args.self.now in
    let es = c.args.phase.events in
    let passes = c.replace-passes.result.items in
    let items : passes ≡ self.passes.items = ap (λ v. v.items) c.replace-passes.ensures.value in
    let true_of : (i : ℕ) (p : Caller) → slice_get passes i ≡ Some p → IsTrueOf MayMake p = λ i p at. c.know_all.ensures i p (ap (λ (l : List Caller). slice_get l i) c.deref.ensures.value ∙ at) in
    let n = c.requires.next in
    let after = c.in_ok-passes.passes.items in
    let logs = map vec_items c.in_ok-passes.logs.items in
    let true_after : (i : ℕ) (p : Caller) → slice_get after i ≡ Some p → IsTrueOf MayMake p = λ i p at. c.know_all-2.ensures i p (ap (λ (l : List Caller). slice_get l i) c.deref-2.ensures.value ∙ at) in
    let gathered = c.gather-count.new.passes in
    let now = c.gather-count.ensures.gathered.0 in
    let g1 : HaveGathered MayMake after gathered c.gather-count.result now = subst (λ (l : List Caller). HaveGathered MayMake l gathered c.gather-count.result now) c.as_mut_slice.ensures.value c.gather-count.ensures.gathered.1 in
    let v = c.in_ok-passes.passes in
    let w1 = written v.items gathered v.len g1.same (omega (arith, v.ok)) in
    let true_now : (i : ℕ) (p : Caller) → slice_get gathered i ≡ Some p → IsTrueOf MayMake p = λ i p at. c.know_all-3.ensures i p (ap (λ (l : List Caller). slice_get l i) (c.deref-3.ensures.value ∙ w1) ∙ at) in
    let grows = count_grows self n.config n.phases n.bodies es n.served n.next.recorded passes items true_of after logs c.in_ok-passes.ensures true_after gathered c.gather-count.result now g1 in
    let small = count_small self n.config n.phases n.bodies es n.served n.next.recorded passes items true_of after logs c.in_ok-passes.ensures true_after gathered c.gather-count.result now g1 true_now in
    omega arith

pub overflow_sub-count : goal.overflow_sub-count
overflow_sub-count g c =
    let self = c.args.self.now in
    let es = c.args.phase.events in
    let passes = c.replace-passes.result.items in
    let items : passes ≡ self.passes.items = ap (λ v. v.items) c.replace-passes.ensures.value in
    let true_of : (i : ℕ) (p : Caller) → slice_get passes i ≡ Some p → IsTrueOf MayMake p = λ i p at. c.know_all.ensures i p (ap (λ (l : List Caller). slice_get l i) c.deref.ensures.value ∙ at) in
    let n = c.requires.next in
    let after = c.in_ok-passes.passes.items in
    let logs = map vec_items c.in_ok-passes.logs.items in
    let true_after : (i : ℕ) (p : Caller) → slice_get after i ≡ Some p → IsTrueOf MayMake p = λ i p at. c.know_all-2.ensures i p (ap (λ (l : List Caller). slice_get l i) c.deref-2.ensures.value ∙ at) in
    let gathered = c.gather-count.new.passes in
    let now = c.gather-count.ensures.gathered.0 in
    let g1 : HaveGathered MayMake after gathered c.gather-count.result now = subst (λ (l : List Caller). HaveGathered MayMake l gathered c.gather-count.result now) c.as_mut_slice.ensures.value c.gather-count.ensures.gathered.1 in
    let v = c.in_ok-passes.passes in
    let w1 = written v.items gathered v.len g1.same (omega (arith, v.ok)) in
    count_grows self n.config n.phases n.bodies es n.served n.next.recorded passes items true_of after logs c.in_ok-passes.ensures true_after gathered c.gather-count.result now g1

pub placed-requires-clause-body : goal.placed-requires-clause-body
placed-requires-clause-body g c =
    let self = c.args.self.now in
    let es = c.args.phase.events in
    let passes = c.replace-passes.result.items in
    let items : passes ≡ self.passes.items = ap (λ v. v.items) c.replace-passes.ensures.value in
    let true_of : (i : ℕ) (p : Caller) → slice_get passes i ≡ Some p → IsTrueOf MayMake p = λ i p at. c.know_all.ensures i p (ap (λ (l : List Caller). slice_get l i) c.deref.ensures.value ∙ at) in
    let n = c.requires.next in
    let after = c.in_ok-passes.passes.items in
    let logs = map vec_items c.in_ok-passes.logs.items in
    let true_after : (i : ℕ) (p : Caller) → slice_get after i ≡ Some p → IsTrueOf MayMake p = λ i p at. c.know_all-2.ensures i p (ap (λ (l : List Caller). slice_get l i) c.deref-2.ensures.value ∙ at) in
    let gathered = c.gather-count.new.passes in
    let now = c.gather-count.ensures.gathered.0 in
    let g1 : HaveGathered MayMake after gathered c.gather-count.result now = subst (λ (l : List Caller). HaveGathered MayMake l gathered c.gather-count.result now) c.as_mut_slice.ensures.value c.gather-count.ensures.gathered.1 in
    let v = c.in_ok-passes.passes in
    let w1 = written v.items gathered v.len g1.same (omega (arith, v.ok)) in
    crew_body self n.config n.phases n.bodies es n.served n.next.recorded passes items true_of after logs c.in_ok-passes.ensures true_after gathered c.gather-count.result now g1

pub placed-requires-clause-few : goal.placed-requires-clause-few
placed-requires-clause-few g c =
    let self = c.args.self.now in
    let es = c.args.phase.events in
    let passes = c.replace-passes.result.items in
    let items : passes ≡ self.passes.items = ap (λ v. v.items) c.replace-passes.ensures.value in
    let true_of : (i : ℕ) (p : Caller) → slice_get passes i ≡ Some p → IsTrueOf MayMake p = λ i p at. c.know_all.ensures i p (ap (λ (l : List Caller). slice_get l i) c.deref.ensures.value ∙ at) in
    let n = c.requires.next in
    let after = c.in_ok-passes.passes.items in
    let logs = map vec_items c.in_ok-passes.logs.items in
    let true_after : (i : ℕ) (p : Caller) → slice_get after i ≡ Some p → IsTrueOf MayMake p = λ i p at. c.know_all-2.ensures i p (ap (λ (l : List Caller). slice_get l i) c.deref-2.ensures.value ∙ at) in
    let gathered = c.gather-count.new.passes in
    let now = c.gather-count.ensures.gathered.0 in
    let g1 : HaveGathered MayMake after gathered c.gather-count.result now = subst (λ (l : List Caller). HaveGathered MayMake l gathered c.gather-count.result now) c.as_mut_slice.ensures.value c.gather-count.ensures.gathered.1 in
    let v = c.in_ok-passes.passes in
    let w1 = written v.items gathered v.len g1.same (omega (arith, v.ok)) in
    let true_now : (i : ℕ) (p : Caller) → slice_get gathered i ≡ Some p → IsTrueOf MayMake p = λ i p at. c.know_all-3.ensures i p (ap (λ (l : List Caller). slice_get l i) (c.deref-3.ensures.value ∙ w1) ∙ at) in
    let grows = count_grows self n.config n.phases n.bodies es n.served n.next.recorded passes items true_of after logs c.in_ok-passes.ensures true_after gathered c.gather-count.result now g1 in
    let small = count_small self n.config n.phases n.bodies es n.served n.next.recorded passes items true_of after logs c.in_ok-passes.ensures true_after gathered c.gather-count.result now g1 true_now in
    omega arith

pub drain_all-requires-clause-passes : goal.drain_all-requires-clause-passes
drain_all-requires-clause-passes g c = λ i p at.
    let self = c.args.self.now in
    let es = c.args.phase.events in
    let passes = c.replace-passes.result.items in
    let items : passes ≡ self.passes.items = ap (λ v. v.items) c.replace-passes.ensures.value in
    let true_of : (i : ℕ) (p : Caller) → slice_get passes i ≡ Some p → IsTrueOf MayMake p = λ i p at. c.know_all.ensures i p (ap (λ (l : List Caller). slice_get l i) c.deref.ensures.value ∙ at) in
    let n = c.requires.next in
    let after = c.in_ok-passes.passes.items in
    let logs = map vec_items c.in_ok-passes.logs.items in
    let true_after : (i : ℕ) (p : Caller) → slice_get after i ≡ Some p → IsTrueOf MayMake p = λ i p at. c.know_all-2.ensures i p (ap (λ (l : List Caller). slice_get l i) c.deref-2.ensures.value ∙ at) in
    let gathered = c.gather-count.new.passes in
    let now = c.gather-count.ensures.gathered.0 in
    let g1 : HaveGathered MayMake after gathered c.gather-count.result now = subst (λ (l : List Caller). HaveGathered MayMake l gathered c.gather-count.result now) c.as_mut_slice.ensures.value c.gather-count.ensures.gathered.1 in
    let v = c.in_ok-passes.passes in
    let w1 = written v.items gathered v.len g1.same (omega (arith, v.ok)) in
    crew_may_drain self n.config n.phases n.bodies es n.served n.next.recorded passes items true_of after logs c.in_ok-passes.ensures true_after gathered c.gather-count.result now g1 n.next n.size i p (ap (λ (l : List Caller). slice_get l i) (sym w1 ∙ sym c.as_mut_slice-2.ensures.value) ∙ at)

pub gather-self-requires : goal.gather-self-requires
gather-self-requires g c =
    let self = c.args.self.now in
    let es = c.args.phase.events in
    let passes = c.replace-passes.result.items in
    let items : passes ≡ self.passes.items = ap (λ v. v.items) c.replace-passes.ensures.value in
    let true_of : (i : ℕ) (p : Caller) → slice_get passes i ≡ Some p → IsTrueOf MayMake p = λ i p at. c.know_all.ensures i p (ap (λ (l : List Caller). slice_get l i) c.deref.ensures.value ∙ at) in
    let n = c.requires.next in
    let after = c.in_ok-passes.passes.items in
    let logs = map vec_items c.in_ok-passes.logs.items in
    let true_after : (i : ℕ) (p : Caller) → slice_get after i ≡ Some p → IsTrueOf MayMake p = λ i p at. c.know_all-2.ensures i p (ap (λ (l : List Caller). slice_get l i) c.deref-2.ensures.value ∙ at) in
    let gathered = c.gather-count.new.passes in
    let now = c.gather-count.ensures.gathered.0 in
    let g1 : HaveGathered MayMake after gathered c.gather-count.result now = subst (λ (l : List Caller). HaveGathered MayMake l gathered c.gather-count.result now) c.as_mut_slice.ensures.value c.gather-count.ensures.gathered.1 in
    let v = c.in_ok-passes.passes in
    let w1 = written v.items gathered v.len g1.same (omega (arith, v.ok)) in
    let f = crew_front self n.config n.phases n.bodies es n.served n.next.recorded passes items true_of after logs c.in_ok-passes.ensures true_after gathered c.gather-count.result now g1 in
    let d = c.in_ok-outputs.ensures.drained now f.0 f.1 (c.as_mut_slice-2.ensures.value ∙ w1 ∙ f.2) f.3 in
    let passed = c.drain_all.new.passes in
    let all = crew_drained self n.config n.phases n.bodies es n.served n.next.recorded passes items true_of after logs c.in_ok-passes.ensures true_after gathered c.gather-count.result now g1 f.0 f.1 f.2 passed c.in_ok-outputs.outputs d in
    let same2 = all.count ∙ sym (crew_all self n.config n.phases n.bodies es n.served n.next.recorded passes items true_of after logs c.in_ok-passes.ensures true_after).count ∙ sym (ap length w1 ∙ g1.same) in
    let w2 = written _ passed v.len same2 (let n1 = ap length w1 ∙ g1.same in omega (arith, v.ok, n1)) in
    record { all = subst (AreAll self.device.table) (sym (c.as_mut_slice-3.ensures.value ∙ w2)) all }

pub returns : goal.returns
returns g c = record {
  told = λ config phases bodies h.
      let self = c.args.self.now in
      let es = c.args.phase.events in
      let passes = c.replace-passes.result.items in
      let items : passes ≡ self.passes.items = ap (λ v. v.items) c.replace-passes.ensures.value in
      let true_of : (i : ℕ) (p : Caller) → slice_get passes i ≡ Some p → IsTrueOf MayMake p = λ i p at. c.know_all.ensures i p (ap (λ (l : List Caller). slice_get l i) c.deref.ensures.value ∙ at) in
      let n0 = c.requires.next in
      let recorded : All (IsRecorded config) es = subst (λ (k : Config). All (IsRecorded k) es) (sym n0.served.device ∙ h.device) n0.next.recorded in
      let after = c.in_ok-passes.passes.items in
      let logs = map vec_items c.in_ok-passes.logs.items in
      let true_after : (i : ℕ) (p : Caller) → slice_get after i ≡ Some p → IsTrueOf MayMake p = λ i p at. c.know_all-2.ensures i p (ap (λ (l : List Caller). slice_get l i) c.deref-2.ensures.value ∙ at) in
      let gathered = c.gather-count.new.passes in
      let now = c.gather-count.ensures.gathered.0 in
      let g1 : HaveGathered MayMake after gathered c.gather-count.result now = subst (λ (l : List Caller). HaveGathered MayMake l gathered c.gather-count.result now) c.as_mut_slice.ensures.value c.gather-count.ensures.gathered.1 in
      let v = c.in_ok-passes.passes in
      let w1 = written v.items gathered v.len g1.same (omega (arith, v.ok)) in
      let f = crew_front self config phases bodies es h recorded passes items true_of after logs c.in_ok-passes.ensures true_after gathered c.gather-count.result now g1 in
      let d = c.in_ok-outputs.ensures.drained now f.0 f.1 (c.as_mut_slice-2.ensures.value ∙ w1 ∙ f.2) f.3 in
      let passed = c.drain_all.new.passes in
      let all = crew_drained self config phases bodies es h recorded passes items true_of after logs c.in_ok-passes.ensures true_after gathered c.gather-count.result now g1 f.0 f.1 f.2 passed c.in_ok-outputs.outputs d in
      let n1 = ap length w1 ∙ g1.same in
      let same2 = all.count ∙ sym (crew_all self config phases bodies es h recorded passes items true_of after logs c.in_ok-passes.ensures true_after).count ∙ sym n1 in
      let w2 = written _ passed v.len same2 (omega (arith, v.ok, n1)) in
      let again = c.gather-self.new.passes in
      let later = c.gather-self.ensures.gathered.0 in
      let g2 : HaveGathered MayMake passed again c.gather-self.result later = subst (λ (l : List Caller). HaveGathered MayMake l again c.gather-self.result later) (c.as_mut_slice-3.ensures.value ∙ w2) c.gather-self.ensures.gathered.1 in
      let n2 = ap length w2 in
      let w3 = written _ again v.len (g2.same ∙ sym n2) (omega (arith, v.ok, n1, same2, n2)) in
      let body = crew_body self config phases bodies es h recorded passes items true_of after logs c.in_ok-passes.ensures true_after gathered c.gather-count.result now g1 in
      crew_serves self config phases bodies es h recorded passes items true_of after logs c.in_ok-passes.ensures true_after gathered c.gather-count.result now g1 f.0 f.1 f.2 passed c.in_ok-outputs.outputs d again c.gather-self.result later g2 c.args.phase.number c.in_ok-served.served _
      (c.in_ok-served.ensures body.0 body.1 body.2) refl w3 refl refl;
  workers = refl;
}
