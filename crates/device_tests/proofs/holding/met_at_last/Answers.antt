use Rattle.std.proofs.Common.{◌≡◌, IfSome, subst}
use Rattle.part_table.specs.Known.{HoldsNothing}
use Rattle.device_tests.proofs.holding.met_at_last.Goals as goal

pub finish-requires-clause-first : goal.finish-requires-clause-first
finish-requires-clause-first c = (
  subst (λ o. IfSome o (λ read. read.0.table ≡ c.args.device.table)) c.in_ok-first.was c.requires.first_table,
  subst (λ o. IfSome o (λ read. read.0.by ≡ 1)) c.in_ok-first.was c.requires.first_by,
  subst (λ o. IfSome o (λ read. HoldsNothing read.0)) c.in_ok-first.was c.requires.first_idle,
)

pub finish-requires-clause-second : goal.finish-requires-clause-second
finish-requires-clause-second c = (
  subst (λ o. IfSome o (λ asked. asked.0.table ≡ c.args.device.table)) c.in_ok-second.was c.requires.second_table,
  subst (λ o. IfSome o (λ asked. asked.0.by ≡ 2)) c.in_ok-second.was c.requires.second_by,
  subst (λ o. IfSome o (λ asked. HoldsNothing asked.0)) c.in_ok-second.was c.requires.second_idle,
)
