-- Domains, and the uploads of them that are open (ISO 9506-1, domain management).
use Rattle.std.specs.Prelude.{ℕ, Bool, false, []}
use Rattle.domain_load.specs.Domains.{Rows, is_there, without_loads}
use Rattle.domain_load.specs.Standing.{is_live}
use Rattle.domain_upload.specs.Uploads.{OpenUploads, after_lose}
use Rattle.mms_types.specs.declared.key.Scope.{Scope}
use Rattle.mms_types.specs.declared.key.Scope.TheVariants as scope

pub record DomainTables : Type 0 where
  pub domains : Rows
  pub uploads : OpenUploads

-- there is no domain, and no upload was ever begun
abbrev pub no_domains : DomainTables
no_domains = record { domains = []; uploads = record { rows = []; given = 0 } }

-- the domain that is the scope is live: it is READY or IN-USE
abbrev pub is_scope_live : Scope → DomainTables → Bool
is_scope_live (scope.Domain domain) t = is_there is_live domain t.domains
is_scope_live scope.Vmd t = false
is_scope_live (scope.Association client) t = false

-- a client that is lost takes with it the domains that it loads, and its uploads
abbrev pub lost : ℕ → DomainTables → DomainTables
lost client t = record { domains = without_loads client t.domains; uploads = after_lose client t.uploads }
