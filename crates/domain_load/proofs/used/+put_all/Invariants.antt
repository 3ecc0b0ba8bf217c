use Rattle.std.proofs.Common.{length}
use Rattle.domain_load.proofs.used.+put_all.Given as goal

-- fewer domains are left
abbrev pub decreases-put_all : goal.decreases-put_all
decreases-put_all l = length l.domains.now
