-- What is known of a row where no condition stands against a service.
use Rattle.std.proofs.Common.{◌≡◌, ℕ, ℤ, ◌<◌, Bool, true, false, cond, nat_le, List, [], ◌∷◌, Option, None, Some, is_some, is_none, find, length, refl, ap, sym, ◌∙◌, arith}
use Rattle.std.specs.Prelude.{All}
use Rattle.std.specs.Borrow.{Bor}
use Rattle.std.specs.Option.{option_copied, option_map_or}
use Rattle.std.proofs.lemmas.Bool.Decides.{nat_tests}
use Rattle.std.proofs.lemmas.List.Elements.{All-head, All-tail}
use Rattle.mms_types.proofs.Conditions.{none_holds}
use Rattle.mms_types.specs.Errors.{capability_unavailable, object_non_existent, object_state_conflict}
use Rattle.mms_types.specs.declared.service_error.ServiceError.{ServiceError}
use Rattle.domain_load.specs.Domains.{Rows, is_there, named}
use Rattle.domain_load.specs.Standing.{is_loading}
use Rattle.domain_load.specs.declared.domain.Domain.{Domain}
use Rattle.domain_upload.specs.declared.upload.Upload.{Upload}
use Rattle.domain_upload.specs.Uploads.{AreOf, IsOf, OpenUploads, initiate_cause, last_number, most_uploads, segment_cause, upload_of}

not_missing : {A : Type 0} (o : Option A) → is_none o ≡ false → is_some o ≡ true
not_missing None e = absurd (cc e)
not_missing (Some x) e = refl

-- the domain is there and not LOADING, and there is room for one more upload and a number for it
pub nothing_against : (name : List ℕ) (domains : Rows) (s : OpenUploads) → initiate_cause name domains s ≡ None
    → (is_some (named name domains) ≡ true) × (is_there is_loading name domains ≡ false) × (length s.rows < most_uploads) × (s.given < last_number)
nothing_against name domains s e =
    let numbers : List (Bool × ServiceError) = (nat_le last_number s.given, capability_unavailable) ∷ [] in
    let rooms : List (Bool × ServiceError) = (nat_le most_uploads (length s.rows), capability_unavailable) ∷ numbers in
    let loads : List (Bool × ServiceError) = (is_there is_loading name domains, object_state_conflict) ∷ rooms in
    let a = none_holds (is_none (named name domains)) object_non_existent loads e in
    let b = none_holds (is_there is_loading name domains) object_state_conflict rooms a.1 in
    let c = none_holds (nat_le most_uploads (length s.rows)) capability_unavailable numbers b.1 in
    let d = none_holds (nat_le last_number s.given) capability_unavailable [] c.1 in
    (not_missing (named name domains) a.0, b.0, grind (arith, nat_tests, c.0), grind (arith, nat_tests, d.0))

-- the client has the upload
pub is_open : (client : ℕ) (number : ℤ) (s : OpenUploads) → segment_cause client number s ≡ None → is_some (upload_of client number s) ≡ true
is_open client number s e =
    let ends : List (Bool × ServiceError) = (option_map_or (λ (u : Upload). u.ended) (upload_of client number s) false, object_state_conflict) ∷ [] in
    not_missing (upload_of client number s) (none_holds (is_none (upload_of client number s)) object_non_existent ends e).0

-- what holds of each holds of the one that is found
pub found : (P : Upload → Type 0) (p : Upload → Bool) (rows : List Upload) (u : Upload) → All P rows → find p rows ≡ Some u → P u
found P p [] u h e = absurd (cc e)
found P p (r ∷ rows) u h e = by_test (p r) (found P p rows u (All-tail P r rows h)) e
  where
    by_test : (b : Bool) → (find p rows ≡ Some u → P u) → cond b (Some r) (find p rows) ≡ Some u → P u
    by_test true later same = let is : r ≡ u = cc same in rw is at (All-head P r rows h)
    by_test false later same = later same

-- its domain is there
pub is_there_when_found : (s : OpenUploads) (domains : Rows) (rows : List Upload) (p : Upload → Bool) (r : Option (Bor Upload)) (x : Bor Upload) (d : Option (Bor Domain))
    → option_copied r ≡ find p rows → r ≡ Some x → option_copied d ≡ named x.now.domain domains → s.rows ≡ rows → AreOf s domains → d ≡ None → ⊥
is_there_when_found s domains rows p r x d e is f same h none =
    let one : find p s.rows ≡ Some x.now = ap (find p) same ∙ sym e ∙ ap option_copied is in
    let missing : named x.now.domain domains ≡ None = sym f ∙ ap option_copied none in
    rw missing at (found (IsOf domains) p s.rows x.now h.each one)
