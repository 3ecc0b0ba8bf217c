use Rattle.std.proofs.Common.{◌≡◌, ◌∙◌, ◌+◌, ◌≤◌, ℕ, zero, suc, ap, arith, if◌then◌else◌, is_none, is_some, length, not, refl, sym, take, map, List, [], ◌∷◌, ◌++◌, Option, None, Some}
use Rattle.std.specs.Map.{lookup}
use Rattle.mms_types.specs.Order.{key_eq, key_of}
use Rattle.mms_types.specs.declared.object_name.ObjectName.{ObjectName}
use Rattle.object_names.specs.Borrowed.{key_meant}
use Rattle.object_names.specs.Deletion.{mentioned, missing}
use Rattle.object_names.proofs.Listed.{take_more}
use Rattle.object_names.proofs.Gathered.{all_listed, missing_more, set_next}
use Rattle.event_enrol.proofs.enrolments.Enrolments.listed.Goals.{then-added+then-not-contains_key, else-added, else-added-via-else-added, else-added-via-then-added+else-not-contains_key}
use Rattle.event_enrol.proofs.enrolments.Enrolments.listed.Goals as goal

none_is : {A : Type 0} (o : Option A) → is_none o ≡ not (is_some o)
none_is None = refl
none_is (Some x) = refl

all_taken : {A : Type 0} (xs : List A) (n : ℕ) → length xs ≤ n → take n xs ≡ xs
all_taken [] zero few = refl
all_taken [] (suc n) few = refl
all_taken (x ∷ xs) zero few = absurd (omega (arith, few))
all_taken (x ∷ xs) (suc n) few = ap (λ l. x ∷ l) (all_taken xs n (omega (arith, few)))

pub loop-name-preserved : goal.loop-name-preserved
loop-name-preserved c =
    let names = c.args.names.now in
    let client = c.args.client in
    let rows = c.args.self.now in
    let name = c.name-item.result in
    let before = take c.loop-name.name-index names in
    let i = c.loop-name.invariant in
    let step = take_more c.loop-name.name-index names name c.loop-name-test.true c.name-item.is in
    elim c.if-added.branch [
      | then-added+then-not-contains_key w ↦
          let absent : is_none (lookup (key_eq (key_of client name)) rows) ≡ not w.contains_key.result =
          none_is (lookup (key_eq (key_of client name)) rows)
          ∙ ap not (sym (w.contains_key.ensures ∙ (λ j. is_some (lookup (key_eq (c.of-key.ensures j)) (c.self.view_is j))))) in
          let all : missing client (take (c.loop-name.name-index + 1) names) rows
          ≡ missing client before rows + (if c.in_ok-added.added then (if not w.contains_key.result then 1 else 0) else 0) =
          ap (λ (l : List ObjectName). missing client l rows) step
          ∙ missing_more client before name c.loop-name.set.keys c.of-key.result rows c.in_ok-added.added (not w.contains_key.result) i.set c.of-key.ensures c.in_ok-added.ensures.added absent in
          let one : ◌≡◌ {A = ℕ} (if c.in_ok-added.added then (if not w.contains_key.result then 1 else 0) else 0) 1 =
          (λ j. if w.if-added.true j then (if not (w.if-not-contains_key.true j) then 1 else 0) else 0) in
          record {
            set = ap (map key_meant) c.in_ok-added.ensures.keys
                ∙ set_next client before name c.loop-name.set.keys c.of-key.result i.set c.of-key.ensures
                ∙ ap (mentioned client) (sym step);
            count = omega (arith, all, one, i.count, w.count-is);
            few = omega (arith, i.few, w.count-is);
          }
      | else-added w ↦
          let none : missing client (before ++ name ∷ []) rows ≡ missing client before rows =
          elim w.else-added.branch [
            | else-added-via-then-added+else-not-contains_key v ↦
                missing_more client before name c.loop-name.set.keys c.of-key.result rows c.in_ok-added.added (not v.contains_key.result) i.set c.of-key.ensures c.in_ok-added.ensures.added
                (none_is (lookup (key_eq (key_of client name)) rows)
                ∙ ap not (sym (v.contains_key.ensures ∙ (λ j. is_some (lookup (key_eq (c.of-key.ensures j)) (c.self.view_is j))))))
                ∙ (λ j. missing client before rows + (if v.if-added.true j then (if not (v.if-not-contains_key.false j) then 1 else 0) else 0))
                ∙ omega arith
            | else-added-via-else-added v ↦
                missing_more client before name c.loop-name.set.keys c.of-key.result rows c.in_ok-added.added (is_none (lookup (key_eq (key_of client name)) rows)) i.set c.of-key.ensures
                c.in_ok-added.ensures.added refl
                ∙ (λ j. missing client before rows + (if v.if-added.false j then (if is_none (lookup (key_eq (key_of client name)) rows) then 1 else 0) else 0))
                ∙ omega arith
          ] in
          let all : missing client (take (c.loop-name.name-index + 1) names) rows ≡ missing client before rows =
          ap (λ (l : List ObjectName). missing client l rows) step ∙ none in
          record {
            set = ap (map key_meant) c.in_ok-added.ensures.keys
                ∙ set_next client before name c.loop-name.set.keys c.of-key.result i.set c.of-key.ensures
                ∙ ap (mentioned client) (sym step);
            count = omega (arith, all, i.count, w.count-is);
            few = omega (arith, i.few, w.count-is);
          }
    ]

pub returns-clause-set : goal.returns-clause-set
returns-clause-set c =
    all_listed c.args.client c.args.names.now c.loop-name.set.keys
    (c.loop-name.invariant.set ∙ ap (mentioned c.args.client) (all_taken c.args.names.now c.loop-name.name-index (omega (arith, c.loop-name-test.false))))
