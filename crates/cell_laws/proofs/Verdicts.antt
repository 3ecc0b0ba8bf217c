-- What octets of a client come to, case by case: conclusions, answers to the server's requests, and what the tables
-- make of it.
use Rattle.std.proofs.Common.{ℕ, Bool, true, false, List, [], ◌∷◌, Option, None, Some, if◌then◌else◌}
use Rattle.mms_types.specs.declared.asked.Asked.{Asked}
use Rattle.mms_types.specs.declared.asked.Asked.TheVariants as asks
use Rattle.mms_types.specs.declared.pdu.ClientAnswer.{ClientAnswer}
use Rattle.mms_types.specs.declared.pdu.ClientAnswer.TheVariants.{DownloadSegment, TerminateDownloadSequence}
use Rattle.mms_types.specs.declared.pdu.Request.{Request}
use Rattle.association.specs.declared.unanswered.Unanswered.{Unanswered}
use Rattle.association.specs.declared.waiting.Waiting.{Waiting}
use Rattle.association.specs.Asked.{asked_of}
use Rattle.association.specs.Client.{ClientRow}
use Rattle.cell_client.specs.Association.{Came, Arrives, Ends, Fails, Verdict, Tells, Takes, Replies, Exhausts, Concludes, Cancels, Aborts, answered_by, concluded, failed_by, heard_error, heard_reject, heard_response, keeps_open, rejected, rejects_invalid}
use Rattle.cell_client.specs.Effects.{Settles}
use Rattle.cell_services.specs.Services.{area_of, lacks_number, reply_in}
use Rattle.cell_services.specs.Serving.{keeps_upload, resolved}
use Rattle.cell_services.specs.Tables.{Tables}

module _ (P : Verdict → Type 0) where
  -- ---- what a client answers to the server

  module _ (replies : (number : ℕ) (came : Came) → P (Replies number came)) (settles : (number : ℕ) → P (Tells (Settles number ∷ []))) (invalid : P (Tells (rejects_invalid ∷ [])))
      (nothing : P (Tells [])) where
    answered : (number : ℕ) (kind : Asked) (told : ClientAnswer) → P (answered_by number kind told)
    answered number asks.Segment (DownloadSegment segment) = replies number (Arrives segment)
    answered number asks.Segment TerminateDownloadSequence = invalid
    answered number asks.Terminate TerminateDownloadSequence = replies number Ends
    answered number asks.Terminate (DownloadSegment segment) = invalid
    answered number asks.Discard TerminateDownloadSequence = settles number
    answered number asks.Discard (DownloadSegment segment) = invalid

    failed : (number : ℕ) (kind : Asked) → P (failed_by number kind)
    failed number asks.Segment = replies number Fails
    failed number asks.Terminate = replies number Fails
    failed number asks.Discard = settles number

    pub by-response : (number : ℕ) (told : ClientAnswer) (o : Option (Asked × List ℕ)) → P (heard_response number told o)
    by-response number told None = invalid
    by-response number told (Some of) = answered number of.0 told

    pub by-error : (number : ℕ) (o : Option (Asked × List ℕ)) → P (heard_error number o)
    by-error number None = invalid
    by-error number (Some of) = failed number of.0

    by-reject : (number : ℕ) (o : Option (Asked × List ℕ)) → P (heard_reject number o)
    by-reject number None = nothing
    by-reject number (Some of) = failed number of.0

    pub by-rejected : (number : Option ℕ) (rows : List Unanswered) → P (rejected number rows)
    by-rejected None rows = nothing
    by-rejected (Some number) rows = by-reject number (asked_of number rows)

  -- ---- a conclusion

  pub by-conclusion : P Concludes → P (Tells keeps_open) → (waiting : List Waiting) (rows : List Unanswered) → P (concluded waiting rows)
  by-conclusion ends keeps [] [] = ends
  by-conclusion ends keeps [] (first ∷ rest) = keeps
  by-conclusion ends keeps (first ∷ rest) rows = keeps

  -- ---- what the tables make of it

  pub by-tables : (t : Tables) (row : ClientRow) → ((invoke : ℕ) (asked : Request) → P (Takes invoke asked) → P (Exhausts invoke))
      → ((number : ℕ) (came : Came) → P (Replies number came) → P Aborts) → (P Concludes → P (Tells keeps_open)) → (v : Verdict) → P v → P (resolved t row v)
  by-tables t row exhausts aborts keeps (Takes invoke asked) is = by_test (lacks_number t row invoke (area_of asked))
    where
      by_test : (b : Bool) → P (if b then Exhausts invoke else Takes invoke asked)
      by_test true = exhausts invoke asked is
      by_test false = is
  by-tables t row exhausts aborts keeps (Replies number came) is = by_test (lacks_number t row number (reply_in number came))
    where
      by_test : (b : Bool) → P (if b then Aborts else Replies number came)
      by_test true = aborts number came is
      by_test false = is
  by-tables t row exhausts aborts keeps Concludes is = by_test (keeps_upload t row)
    where
      by_test : (b : Bool) → P (if b then Tells keeps_open else Concludes)
      by_test true = keeps is
      by_test false = is
  by-tables t row exhausts aborts keeps (Tells effects) is = is
  by-tables t row exhausts aborts keeps (Exhausts invoke) is = is
  by-tables t row exhausts aborts keeps (Cancels invoke) is = is
  by-tables t row exhausts aborts keeps Aborts is = is
