-- The domains of open uploads stay there, whatever is done to the uploads.
use Rattle.std.proofs.Common.{◌≡◌, ℕ, ℤ, ◌≤◌, true, false, cond, not, ◌==◌, List, [], Option, None, Some, is_some, option_map, refl, arith}
use Rattle.std.specs.Prelude.{IsSomeAnd}
use Rattle.std.specs.Option.{option_map_or}
use Rattle.std.proofs.lemmas.List.Elements.{All-filter, All-map, All-nil, All-push, All-weaker}
use Rattle.mms_types.specs.declared.domain.Segment.{Segment}
use Rattle.domain_load.specs.Domains.{Rows, named, octets}
use Rattle.domain_load.specs.Standing.{is_loading}
use Rattle.domain_load.specs.declared.domain.Domain.{Domain}
use Rattle.domain_upload.specs.Pieces.{next_piece}
use Rattle.domain_upload.specs.Uploads.{AreOf, IsOf, OpenUploads, after_initiate, after_lose, after_next, after_piece, after_segment, after_terminate, begun, initiate_cause, is_upload, piece_of, upload_after}
use Rattle.domain_upload.specs.declared.upload.Upload.{Upload}
use Rattle.domain_upload.proofs.Lengths.{length_next}
use Rattle.domain_upload.proofs.Rows.{nothing_against}

abbrev Allows : ℕ → Option Domain → Type 0
Allows sent domain = IsSomeAnd domain (λ d. (is_loading d ≡ false) × (sent ≤ octets d))

new_allowed : (o : Option Domain) → is_some o ≡ true → option_map_or is_loading o false ≡ false → Allows 0 o
new_allowed None there loaded = absurd (cc there)
new_allowed (Some d) there loaded = (loaded, omega arith)

pub none_kept : (domains : Rows) → AreOf (record { rows = []; given = 0 }) domains
none_kept domains = record { each = All-nil (IsOf domains) }

pub initiate_keeps : (client : ℕ) (name : List ℕ) (domains : Rows) (s : OpenUploads) → initiate_cause name domains s ≡ None → AreOf s domains → AreOf (after_initiate client name s) domains
initiate_keeps client name domains s none h =
    let n = nothing_against name domains s none in
    record { each = All-push (IsOf domains) s.rows (begun client name s) h.each (new_allowed (named name domains) n.0 n.1) }

-- no more octets are sent than there are
next_allowed : (size sent : ℕ) (o : Option Domain) (u : Upload) → Allows u.sent o → Allows (option_map_or (after_piece u) (option_map (next_piece size u.sent) o) u).sent o
next_allowed size sent None u h = h
next_allowed size sent (Some d) u h = (h.0, let few = h.1 in omega (arith, few, length_next size u.sent d))

same_domain : (size : ℕ) (u : Upload) (p : Option Segment) → (option_map_or (after_piece u) p u).domain ≡ u.domain
same_domain size u None = refl
same_domain size u (Some p) = refl

advance_keeps : (client : ℕ) (number : ℤ) (size : ℕ) (domains : Rows) (u : Upload) → IsOf domains u → IsOf domains (upload_after client number size domains u)
advance_keeps client number size domains u h = elim (is_upload client number u) as (λ b. IsOf domains (cond b (after_next size domains u) u)) [ true ↦ next | false ↦ h ]
  where
    next : IsOf domains (after_next size domains u)
    next = rw (same_domain size u (piece_of size domains u)) (next_allowed size u.sent (named u.domain domains) u h)

pub segment_keeps : (client : ℕ) (number : ℤ) (size : ℕ) (domains : Rows) (s : OpenUploads) → AreOf s domains → AreOf (after_segment client number size domains s) domains
segment_keeps client number size domains s h =
    let f = upload_after client number size domains in
    record { each = All-map (IsOf domains) f s.rows (All-weaker (IsOf domains) (λ u. IsOf domains (f u)) (λ u k. advance_keeps client number size domains u k) s.rows h.each) }

pub terminate_keeps : (client : ℕ) (number : ℤ) (domains : Rows) (s : OpenUploads) → AreOf s domains → AreOf (after_terminate client number s) domains
terminate_keeps client number domains s h = record { each = All-filter (λ u. not (is_upload client number u)) (IsOf domains) s.rows h.each }

pub lose_keeps : (client : ℕ) (domains : Rows) (s : OpenUploads) → AreOf s domains → AreOf (after_lose client s) domains
lose_keeps client domains s h = record { each = All-filter (λ u. not (u.client == client)) (IsOf domains) s.rows h.each }
