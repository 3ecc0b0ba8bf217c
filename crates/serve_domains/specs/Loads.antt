-- What clients are asked of the domains that they load, and which they load (ISO 9506-1, domain management).
use Rattle.std.specs.Prelude.{◌≡◌, ℕ, Bool, true, false, ◌&&◌, List, [], ◌∷◌, ◌++◌, Option, None, Some, count_by, if◌then◌else◌}
use Rattle.mms_types.specs.declared.asked.Asked.{Asked}
use Rattle.mms_types.specs.declared.asked.Asked.TheVariants as asked
use Rattle.mms_types.specs.declared.asked.Reply.{Reply}
use Rattle.association.specs.Asked.{unsettled}
use Rattle.association.specs.declared.unanswered.Unanswered.{Unanswered}
use Rattle.domain_load.specs.Domains.{Rows, is_there, name_eq}
use Rattle.domain_load.specs.Loading.{asked_next, domain_of, reply_after}
use Rattle.domain_load.specs.Standing.{is_loaded_by}

-- it is of a load that goes on: a discard comes after its end
abbrev pub is_of_load_kind : Asked → Bool
is_of_load_kind asked.Segment = true
is_of_load_kind asked.Terminate = true
is_of_load_kind asked.Discard = false

-- a segment of that domain, or the end of its load, is asked
abbrev pub asks_load : List ℕ → Unanswered → Bool
asks_load name row = is_of_load_kind row.kind && name_eq row.domain name

-- of each domain a client is asked that once where it loads the domain, and else never
pub record AreLoads (client : ℕ) (rows : List Unanswered) (domains : Rows) : Type 0 where
  pub each : (name : List ℕ) → count_by (asks_load name) rows ≡ (if is_there (is_loaded_by client) name domains then 1 else 0)

-- what is unanswered once that is asked by that number, where anything is
abbrev pub asked_after : List Unanswered → ℕ → Option Asked → List ℕ → List Unanswered
asked_after rows number None domain = rows
asked_after rows number (Some kind) domain = rows ++ record { invoke = number; kind = kind; domain = domain } ∷ []

-- what a client is asked and what it loads agree once it answered the request of that number so, and was asked by the next number what comes next
abbrev pub LoadsAfterReply : ℕ → ℕ → ℕ → Reply → List Unanswered → Rows → Type 0
LoadsAfterReply client number next answer rows domains =
    AreLoads client (asked_after (unsettled number rows) next (asked_next answer domains) (domain_of answer)) (reply_after answer domains)
