-- A device at its start.
use Rattle.std.proofs.Common.{◌≡◌, ◌≤◌, ◌+◌, ℕ, zero, suc, List, [], refl, sym, ap, ◌∙◌, subst, map, length, arith, Some, slice_get}
use Rattle.std.specs.List.{range_with_len}
use Rattle.std.proofs.lemmas.List.{length-map}
use Rattle.cell_config.specs.declared.config.Config.{Config}
use Rattle.part_table.specs.Known.{newcomer}
use Rattle.part_table.proofs.Histories.{starts_refl}
use Rattle.mms_device.specs.Shared.{Caller, IsOf}
use Rattle.cell_run.specs.declared.crew.Crew.{Crew}
use Rattle.cell_run.specs.Drained.{IsOne}
use Rattle.cell_run.specs.Running.{HasRun}
use Rattle.cell_run.proofs.Worked.{map_there}

range_at : (a n i x : ℕ) → slice_get (range_with_len a n) i ≡ Some x → x ≡ a + i
range_at a zero i x at = absurd (cc at)
range_at a (suc n) zero x at = let e : a ≡ x = cc at in omega arith
range_at a (suc n) (suc i) x at = let e = range_at (a + 1) n i x at in omega arith

range_length : (a n : ℕ) → length (range_with_len a n) ≡ n
range_length a zero = refl
range_length a (suc n) = let e = range_length (a + 1) n in omega arith

pub begun : (crew : Crew) (config : Config) → crew.device.config ≡ config → IsOf crew.device.table config → crew.passes.items ≡ map (newcomer crew.device.table) (range_with_len 0 (config.clients + 1)) → crew.count ≡ 0
    → (1 ≤ crew.workers) × (crew.workers ≤ 16) → HasRun crew config [] []
begun crew config is of passes none workers = record {
  common = [];
  along = refl;
  interleave = tt;
  device = is;
  of = of;
  known = record {
    count = ap length passes ∙ length-map (range_with_len 0 (config.clients + 1)) (newcomer crew.device.table) ∙ range_length 0 (config.clients + 1) ∙ sym of.callers;
    each = λ i p at. one i p at;
  };
  made = tt;
  count = none;
  workers = workers;
  left = λ i p at. (let n = there i p at in let left : p.left ≡ crew.device.table.quota = ap (λ (k : Caller). k.left) n in let quota = of.quota in omega arith);
  time = λ caller. omega arith;
}
  where
    there : (i : ℕ) (p : Caller) → slice_get crew.passes.items i ≡ Some p → p ≡ newcomer crew.device.table i
    there i p at =
        let x = map_there (newcomer crew.device.table) (range_with_len 0 (config.clients + 1)) i p (ap (λ (l : List Caller). slice_get l i) (sym passes) ∙ at) in
        let n : x.0 ≡ i = (let e = range_at 0 (config.clients + 1) i x.0 x.1 in omega arith) in
        x.2 ∙ ap (newcomer crew.device.table) n

    one : (i : ℕ) (p : Caller) → slice_get crew.passes.items i ≡ Some p → IsOne crew.device.table [] i p
    one i p at = subst (λ (k : Caller). IsOne crew.device.table [] i k) (sym (there i p at)) (record { of_table = refl; by = refl; idle = (refl, refl, refl); seen = starts_refl []; own = refl })
