use Rattle.std.proofs.Common.{◌≡◌, ◌∙◌, ◌+◌, ◌++◌, ◌∷◌, [], Bool, List, ap, append-nil, arith, if◌then◌else◌, is_none, map, refl, sym, take}
use Rattle.mms_types.specs.Order.{key_of}
use Rattle.mms_types.specs.declared.object_name.ObjectName.{ObjectName}
use Rattle.object_names.specs.Borrowed.{key_meant}
use Rattle.object_names.specs.Deletion.{mentioned, missing}
use Rattle.object_names.proofs.Gathered.{missing_more, set_next}
use Rattle.object_names.proofs.Listed.{take_more}
use Rattle.event_cond.specs.Conditions.{condition}
use Rattle.event_cond.specs.Deletion.{deletions, deletions_of}
use Rattle.event_cond.proofs.Walked.{at_most_one, told_next}
use Rattle.event_cond.proofs.conditions.Conditions.told.Goals.{then-added+in_ok-missing, else-added}
use Rattle.event_cond.proofs.conditions.Conditions.told.Goals as goal

pub loop-name-preserved : goal.loop-name-preserved
loop-name-preserved c =
    let names = c.args.names.now in
    let client = c.args.client in
    let now = c.args.now in
    let rows = c.args.self.now in
    let name = c.name-item.result in
    let before = take c.loop-name.name-index names in
    let i = c.loop-name.invariant in
    let lacks = is_none (condition client name rows) in
    let turn = deletions_of now (key_of client name ∷ []) rows in
    let step = take_more c.loop-name.name-index names name c.loop-name-test.true c.name-item.is in
    let all : missing client (take (c.loop-name.name-index + 1) names) rows ≡ missing client before rows + (if c.in_ok-added.added then (if lacks then 1 else 0) else 0) =
    ap (λ (l : List ObjectName). missing client l rows) step
    ∙ missing_more client before name c.loop-name.mentioned.keys c.of.result rows c.in_ok-added.added lacks i.set c.of.ensures c.in_ok-added.ensures.added refl in
    let said : deletions client now (take (c.loop-name.name-index + 1) names) rows ≡ deletions client now before rows ++ (if c.in_ok-added.added then turn else []) =
    ap (λ (l : List ObjectName). deletions client now l rows) step
    ∙ told_next client now before name c.loop-name.mentioned.keys c.of.result rows c.in_ok-added.added i.set c.of.ensures c.in_ok-added.ensures.added in
    elim c.if-added.branch [
      | then-added+in_ok-missing w ↦ record {
        set = ap (map key_meant) c.in_ok-added.ensures.keys
            ∙ set_next client before name c.loop-name.mentioned.keys c.of.result i.set c.of.ensures
            ∙ ap (mentioned client) (sym step);
        count = w.missing-is ∙ w.in_ok-missing.ensures.missing ∙ ap (λ n. n + (if lacks then 1 else 0)) i.count
            ∙ sym (all ∙ ap (λ (b : Bool). missing client before rows + (if b then (if lacks then 1 else 0) else 0)) w.if-added.true);
        told = w.turned-is ∙ w.in_ok-missing.ensures.turned ∙ ap (λ l. l ++ turn) i.told
            ∙ sym (said ∙ ap (λ (b : Bool). deletions client now before rows ++ (if b then turn else [])) w.if-added.true);
        few = omega (arith, at_most_one lacks, w.in_ok-missing.ensures.missing, w.missing-is, i.few);
      }
      | else-added w ↦
          let none : missing client (take (c.loop-name.name-index + 1) names) rows ≡ missing client before rows + 0 =
          all ∙ ap (λ (b : Bool). missing client before rows + (if b then (if lacks then 1 else 0) else 0)) w.if-added.false in
          record {
            set = ap (map key_meant) c.in_ok-added.ensures.keys
                ∙ set_next client before name c.loop-name.mentioned.keys c.of.result i.set c.of.ensures
                ∙ ap (mentioned client) (sym step);
            count = omega (arith, none, i.count, w.missing-is);
            told = w.turned-is ∙ i.told
                ∙ sym (said ∙ ap (λ (b : Bool). deletions client now before rows ++ (if b then turn else [])) w.if-added.false ∙ append-nil (deletions client now before rows));
            few = omega (arith, w.missing-is, i.few);
          }
    ]
