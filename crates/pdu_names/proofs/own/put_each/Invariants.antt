use Rattle.std.proofs.Common.{◌≡◌, ◌++◌, map, take}
use Rattle.mms_types.specs.Spelling.{widest}
use Rattle.ber_forms.specs.Value.{all_of}
use Rattle.ber_forms.specs.Spelling.{member_octets, each_octets}
use Rattle.pdu_names.proofs.own.put_each.Given as goal

abbrev pub invariant-loop-item : goal.invariant-loop-item
invariant-loop-item g l = l.out ≡ l.fn.out ++ each_octets (member_octets (g.T.Own.item.member widest)) (all_of (map (g.T.Own.item.value) (take l.item-index l.items)))
