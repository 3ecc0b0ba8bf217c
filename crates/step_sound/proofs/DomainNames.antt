-- No two domains have one name, whatever is done to them.
use Rattle.std.proofs.Common.{◌≡◌, ◌∙◌, ℕ, Bool, true, false, List, [], ◌∷◌, Option, None, Some, is_some, ap, sym, subst}
use Rattle.std.specs.Prelude.{if◌then◌else◌, length, not}
use Rattle.std.specs.List.{IsDistinct, list_any}
use Rattle.std.specs.Map.{keys_of, set_value}
use Rattle.std.specs.Option.{option_map_or}
use Rattle.std.proofs.lemmas.Cmp.{nat_list_eq_equiv}
use Rattle.std.proofs.lemmas.List.{map-append}
use Rattle.std.proofs.lemmas.Map.{keys-set_value}
use Rattle.std.proofs.lemmas.Map.Keys.{IsDistinct-push}
use Rattle.std.proofs.lemmas.Map.Made.{IsDistinct-keys_filter, is_some-lookup}
use Rattle.mms_types.specs.declared.asked.Reply.{Reply}
use Rattle.mms_types.specs.declared.asked.Reply.TheVariants as reply
use Rattle.mms_types.specs.declared.domain.InitiateDownloadSequence.{InitiateDownloadSequence}
use Rattle.object_names.proofs.Distinct.{distinct_removed}
use Rattle.domain_load.specs.Domains.{Rows, is_there, name_eq, named, without, without_loads}
use Rattle.domain_load.specs.Loading.{begun, changed, initiate_after, initiate_cause, loaded, reply_after, with_segment, would_pass}
use Rattle.domain_load.specs.Standing.{is_loaded_by}
use Rattle.domain_load.specs.Used.{after_unused, after_used, had_by, left_by}
use Rattle.domain_load.specs.declared.domain.Domain.{Domain}
use Rattle.domain_load.proofs.Unopposed.{nothing_against}

-- each has a name of its own
abbrev pub HaveNames : Rows → Type 0
HaveNames domains = IsDistinct name_eq (keys_of domains)

none_named : (name : List ℕ) (domains : Rows) → named name domains ≡ None → list_any (name_eq name) (keys_of domains) ≡ false
none_named name domains none = sym (is_some-lookup (name_eq name) domains) ∙ ap is_some none

pub begun_names : (client : ℕ) (left : Bool) (request : InitiateDownloadSequence) (domains : Rows) → initiate_cause left request domains ≡ None → HaveNames domains
    → HaveNames (initiate_after client request domains)
begun_names client left request domains none names =
    subst (λ (l : List (List ℕ)). IsDistinct name_eq l) (sym (map-append (λ (e : List ℕ × Domain). e.0) domains ((request.domain, begun client request) ∷ [])))
    (IsDistinct-push nat_list_eq_equiv (keys_of domains) request.domain names (none_named request.domain domains (nothing_against left request domains none).0))

pub deleted_names : (name : List ℕ) (domains : Rows) → HaveNames domains → HaveNames (without name domains)
deleted_names name domains names = distinct_removed name_eq (name_eq name) domains names

pub lost_names : (client : ℕ) (domains : Rows) → HaveNames domains → HaveNames (without_loads client domains)
lost_names client domains names = IsDistinct-keys_filter name_eq (λ row. not (is_loaded_by client row.1)) domains names

changed_names : (name : List ℕ) (f : Domain → Domain) (domains : Rows) → HaveNames domains → HaveNames (changed name f domains)
changed_names name f domains names = by_found (named name domains)
  where
    by_found : (o : Option Domain) → HaveNames (option_map_or (λ d. set_value (name_eq name) domains (f d)) o domains)
    by_found None = names
    by_found (Some d) = subst (λ (l : List (List ℕ)). IsDistinct name_eq l) (sym (keys-set_value (name_eq name) domains (f d))) names

pub replied_names : (answer : Reply) (domains : Rows) → HaveNames domains → HaveNames (reply_after answer domains)
replied_names (reply.Segment name octets more) domains names = by_passes (is_there (would_pass (length octets)) name domains)
  where
    by_passes : (b : Bool) → HaveNames (if b then without name domains else changed name (with_segment octets) domains)
    by_passes true = deleted_names name domains names
    by_passes false = changed_names name (with_segment octets) domains names
replied_names (reply.Ended name) domains names = changed_names name loaded domains names
replied_names (reply.Failed name kind) domains names = deleted_names name domains names

-- program invocations come to domains, and leave them
pub used_names : (names : List (List ℕ)) (by : List ℕ) (domains : Rows) → HaveNames domains → HaveNames (after_used names by domains)
used_names [] by domains distinct = distinct
used_names (name ∷ names) by domains distinct = used_names names by (changed name (had_by by) domains) (changed_names name (had_by by) domains distinct)

pub unused_names : (names : List (List ℕ)) (by : List ℕ) (domains : Rows) → HaveNames domains → HaveNames (after_unused names by domains)
unused_names [] by domains distinct = distinct
unused_names (name ∷ names) by domains distinct = unused_names names by (changed name (left_by by) domains) (changed_names name (left_by by) domains distinct)
