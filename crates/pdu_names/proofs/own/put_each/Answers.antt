use Rattle.std.proofs.Common.{ℕ, List, ◌++◌, map, take, sym, ap, ◌∙◌, append_assoc}
use Rattle.ber_forms.specs.Value.{all_of}
use Rattle.ber_forms.specs.Spelling.{member_octets, each_octets}
use Rattle.mms_types.specs.Spelling.{widest}
use Rattle.ber_forms.proofs.Joined.{each_next}
use Rattle.pdu_names.proofs.own.put_each.Goals as goal

pub loop-item-preserved : goal.loop-item-preserved
loop-item-preserved g c =
    let spell = member_octets (g.T.Own.item.member widest) in
    let see = g.T.Own.item.value in
    let before = each_octets spell (all_of (map see (take c.loop-item.item-index c.args.items.now))) in
    c.in_ok-put_own.ensures.ok ∙ ap (λ (o : List ℕ). o ++ spell (see c.item-item.result)) c.loop-item.invariant
    ∙ append_assoc c.args.out.now before (spell (see c.item-item.result))
    ∙ ap (λ (o : List ℕ). c.args.out.now ++ o) (sym (each_next spell see c.args.items.now c.loop-item.item-index c.item-item.result c.loop-item-test.true c.item-item.is))
