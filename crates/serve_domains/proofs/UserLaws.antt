-- Invocations come to domains and leave them, and the domains of open uploads stay as uploads have them.
use Rattle.std.proofs.Common.{◌≡◌, ◌∙◌, ℕ, ◌≤◌, Bool, true, false, if◌then◌else◌, List, [], ◌∷◌, Option, None, Some, refl, ap, sym, subst}
use Rattle.std.specs.Prelude.{IsSomeAnd, OnErr, OnOk, Result, Ok, Err}
use Rattle.std.specs.Map.{set_value}
use Rattle.std.specs.Option.{option_map_or}
use Rattle.std.proofs.lemmas.Bool.Decides.{Decides-eqb}
use Rattle.std.proofs.lemmas.List.Elements.{All-weaker}
use Rattle.std.proofs.lemmas.Slice.Eq.{slice_eq-Decides}
use Rattle.mms_types.specs.declared.memory.Memory.{Memory}
use Rattle.domain_load.specs.Domains.{Rows, name_eq, named, octets}
use Rattle.domain_load.specs.Loading.{changed}
use Rattle.domain_load.specs.Standing.{is_loading}
use Rattle.domain_load.specs.Used.{after_unused, after_used, had_by, left_by}
use Rattle.domain_load.specs.declared.domain.Domain.{Domain}
use Rattle.domain_load.proofs.Outcomes.{found_changed}
use Rattle.domain_upload.specs.Uploads.{AreOf, IsOf, OpenUploads}

names_same : (a b : List ℕ) → name_eq a b ≡ true → a ≡ b
names_same a b e = (slice_eq-Decides Decides-eqb a b (name_eq a b) refl).0 e

-- the domain is not LOADING, and has as many octets as were sent
abbrev Allows : ℕ → Domain → Type 0
Allows sent d = (is_loading d ≡ false) × (sent ≤ octets d)

-- one domain changes, and stays so
module _ (sent : ℕ) (who name : List ℕ) (f : Domain → Domain) (okay : (d : Domain) → Allows sent d → Allows sent (f d)) (rows : Rows) where
  unchanged : named name rows ≡ None → changed name f rows ≡ rows
  unchanged e = ap (λ (o : Option Domain). option_map_or (λ d. set_value (name_eq name) rows (f d)) o rows) e

  by_found : (o : Option Domain) → named name rows ≡ o → IsSomeAnd (named who rows) (Allows sent) → IsSomeAnd (named who (changed name f rows)) (Allows sent)
  by_found None e h = subst (λ (rs : Rows). IsSomeAnd (named who rs) (Allows sent)) (sym (unchanged e)) h
  by_found (Some d) e h = subst (λ (o : Option Domain). IsSomeAnd o (Allows sent)) (sym (found_changed name who f rows d e)) (by_name (name_eq name who) refl)
    where
      by_name : (b : Bool) → name_eq name who ≡ b → IsSomeAnd (if b then Some (f d) else named who rows) (Allows sent)
      by_name true is =
          let there : named who rows ≡ Some d = ap (λ (n : List ℕ). named n rows) (sym (names_same name who is)) ∙ e in
          okay d (subst (λ (o : Option Domain). IsSomeAnd o (Allows sent)) there h)
      by_name false is = h

  still : IsSomeAnd (named who rows) (Allows sent) → IsSomeAnd (named who (changed name f rows)) (Allows sent)
  still = by_found (named name rows) refl

module _ (sent : ℕ) (who by : List ℕ) where
  still_used : (names : List (List ℕ)) (rows : Rows) → IsSomeAnd (named who rows) (Allows sent) → IsSomeAnd (named who (after_used names by rows)) (Allows sent)
  still_used [] rows h = h
  still_used (name ∷ names) rows h = still_used names (changed name (had_by by) rows) (still sent who name (had_by by) (λ d a. a) rows h)

  still_unused : (names : List (List ℕ)) (rows : Rows) → IsSomeAnd (named who rows) (Allows sent) → IsSomeAnd (named who (after_unused names by rows)) (Allows sent)
  still_unused [] rows h = h
  still_unused (name ∷ names) rows h = still_unused names (changed name (left_by by) rows) (still sent who name (left_by by) (λ d a. a) rows h)

pub used_keeps : (names : List (List ℕ)) (by : List ℕ) (domains : Rows) (s : OpenUploads) → AreOf s domains → AreOf s (after_used names by domains)
used_keeps names by domains s h = record {
  each = All-weaker (IsOf domains) (IsOf (after_used names by domains)) (λ u k. still_used u.sent u.domain by names domains k) s.rows h.each;
}

pub unused_keeps : (names : List (List ℕ)) (by : List ℕ) (domains : Rows) (s : OpenUploads) → AreOf s domains → AreOf s (after_unused names by domains)
unused_keeps names by domains s h = record {
  each = All-weaker (IsOf domains) (IsOf (after_unused names by domains)) (λ u k. still_unused u.sent u.domain by names domains k) s.rows h.each;
}

-- also where memory is wanting, and all domains are as before
pub used_or_kept : (result : Result (Unit {0}) Memory) (names : List (List ℕ)) (by : List ℕ) (was now : Rows) (s : OpenUploads) → OnOk result (now ≡ after_used names by was)
    → OnErr result (now ≡ was) → AreOf s was → AreOf s now
used_or_kept (Ok done) names by was now s used kept h = subst (AreOf s) (sym used) (used_keeps names by was s h)
used_or_kept (Err memory) names by was now s used kept h = subst (AreOf s) (sym kept) h
