use Rattle.std.proofs.Common.{◌≡◌, filter, map, take}
use Rattle.event_enrol.specs.Groups.{is_member_told, member_notice}
use Rattle.event_enrol.proofs.notices.notices_of.Given as goal

-- of the members up to the index those that are told have their notices
abbrev pub invariant-loop-member : goal.invariant-loop-member
invariant-loop-member l = l.told ≡ map (member_notice l.turned) (filter (is_member_told l.turned) (take l.member-index l.members))
