use Rattle.std.proofs.Common.{◌≡◌, drop, length}
use Rattle.domain_load.specs.Used.{after_unused}
use Rattle.domain_load.proofs.used.take_all.Given as goal

-- the invocation leaves the domains from the index on
abbrev pub invariant-loop-domain : goal.invariant-loop-domain
invariant-loop-domain l = record {
  left : after_unused (drop l.domain-index l.domains) l.by l.rows.entries ≡ after_unused l.domains l.by l.initial.rows.entries;
  many : length l.rows.entries ≡ length l.initial.rows.entries;
}
