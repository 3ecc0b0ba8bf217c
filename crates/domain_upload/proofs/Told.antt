-- What is told of an upload is what becomes of it.
use Rattle.std.proofs.Common.{◌≡◌, ◌∙◌, ℕ, ℤ, Bool, true, false, cond, List, [], ◌∷◌, Option, None, Some, find, map, refl, ap, sym}
use Rattle.std.specs.Option.{option_and_then, option_map}
use Rattle.mms_types.specs.declared.domain.InitiateUploadSequenceAnswer.{InitiateUploadSequenceAnswer}
use Rattle.mms_types.specs.declared.domain.Segment.{Segment}
use Rattle.domain_load.specs.Domains.{Rows, named}
use Rattle.domain_load.specs.declared.domain.Domain.{Domain}
use Rattle.domain_upload.specs.Uploads.{OpenUploads, after_piece, after_segment, begun, initiate_answer, is_upload, next_number, piece_of, segment_answer, upload_after, upload_of}
use Rattle.domain_upload.specs.declared.upload.Upload.{Upload}

pub number_told : (client : ℕ) (name : List ℕ) (domains : Rows) (s : OpenUploads) (a : InitiateUploadSequenceAnswer) → initiate_answer name domains s ≡ Some a
    → (begun client name s).number ≡ a.number
number_told client name domains s a e = by_domain (named name domains) e
  where
    by_domain : (o : Option Domain) → option_map (λ (d : Domain). record { number = next_number s; capabilities = d.capabilities }) o ≡ Some a → next_number s ≡ a.number
    by_domain None e = absurd (cc e)
    by_domain (Some d) e = let same : record { number = next_number s; capabilities = d.capabilities } ≡ a = cc e in ap (λ (a : InitiateUploadSequenceAnswer). a.number) same

-- the upload that is found becomes what it is after the piece, and is found again
found_again : (client : ℕ) (number : ℤ) (size : ℕ) (domains : Rows) (rows : List Upload) (u : Upload) (p : Segment) → find (is_upload client number) rows ≡ Some u
    → piece_of size domains u ≡ Some p → find (is_upload client number) (map (upload_after client number size domains) rows) ≡ Some (after_piece u p)
found_again client number size domains [] u p e told = absurd (cc e)
found_again client number size domains (r ∷ rows) u p e told =
    by_test (is_upload client number r) refl (found_again client number size domains rows u p) e
  where
    by_test : (b : Bool) → is_upload client number r ≡ b
        → (find (is_upload client number) rows ≡ Some u → piece_of size domains u ≡ Some p → find (is_upload client number) (map (upload_after client number size domains) rows) ≡ Some (after_piece u p))
        → cond b (Some r) (find (is_upload client number) rows) ≡ Some u
        → find (is_upload client number) (upload_after client number size domains r ∷ map (upload_after client number size domains) rows) ≡ Some (after_piece u p)
    by_test true is later same =
        let one : r ≡ u = cc same in
        let piece : piece_of size domains r ≡ Some p = ap (piece_of size domains) one ∙ told in
        rw (is, piece, is, one) refl
    by_test false is later same = rw (is, is) (later same told)

pub piece_told : (client : ℕ) (number : ℤ) (size : ℕ) (domains : Rows) (s : OpenUploads) (u : Upload) (p : Segment) → upload_of client number s ≡ Some u
    → segment_answer client number size domains s ≡ Some p → upload_of client number (after_segment client number size domains s) ≡ Some (after_piece u p)
piece_told client number size domains s u p e told =
    found_again client number size domains s.rows u p e (sym (ap (option_and_then (piece_of size domains)) e) ∙ told)
