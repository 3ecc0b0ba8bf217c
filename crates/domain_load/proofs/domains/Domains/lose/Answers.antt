use Rattle.std.proofs.Common.{not, rules}
use Rattle.indexmap.proofs.CallerLemmas.{filter-RetainsPairs}
use Rattle.domain_load.specs.Standing.{is_loaded_by}
use Rattle.domain_load.proofs.domains.Domains.lose.Goals as goal

pub returns : goal.returns
returns c =
    rw (← c.self.view_is)
    (filter-RetainsPairs _ (λ row. not (is_loaded_by c.args.client row.1)) _ (λ k v b w h call. search rules) _ _ c.retain.ensures.filtered)
