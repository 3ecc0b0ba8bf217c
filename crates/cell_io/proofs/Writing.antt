-- Text that is put to what waits, and passed on to the sink now and then.
use Rattle.std.proofs.Common.{◌≡◌, ℕ, List, ◌++◌, sym, ap, ◌∙◌, append_assoc}
use Rattle.std.proofs.KnownBytes.{Appends-trans}
use Rattle.std.specs.declared.option.Option.{Option}
use Rattle.cell_io.specs.Prefix.{AppendsPrefix, AppendsBefore}
use Rattle.cell_io.proofs.Prefixes.{before_waits, before_more, prefix_flushed, prefix_between, prefix_put}

-- what waited was partly written
pub passed : (a b c : Option (List ℕ)) (w v x : List ℕ) → AppendsBefore a b w x → AppendsBefore b c v w → AppendsBefore a c v x
passed a b c w v x p q = record {
  written = p.written ++ q.written;
  appended = Appends-trans a b c p.written q.written p.appended q.appended;
  parts = p.parts ∙ ap (λ (l : List ℕ). p.written ++ l) q.parts ∙ sym (append_assoc p.written q.written v);
}

-- a piece more was put, and then what waited was partly written
pub wrote_more : (a b c : Option (List ℕ)) (w longer v before done done_more piece : List ℕ) → AppendsBefore a b w (before ++ done) → longer ≡ w ++ piece → AppendsBefore b c v longer → done_more ≡ done ++ piece
    → AppendsBefore a c v (before ++ done_more)
wrote_more a b c w longer v before done done_more piece p e q d =
    passed a b c longer v (before ++ done_more) (before_waits a b w (before ++ done) piece longer (before ++ done_more) p e (ap (λ (l : List ℕ). before ++ l) d ∙ sym (append_assoc before done piece))) q

-- the sink failed when a piece more waited
pub wrote_partly : (a b c : Option (List ℕ)) (w longer before done done_more piece rest whole : List ℕ) → AppendsBefore a b w (before ++ done) → longer ≡ w ++ piece → AppendsPrefix b c longer → done_more ≡ done ++ piece
    → whole ≡ done_more ++ rest → AppendsPrefix a c (before ++ whole)
wrote_partly a b c w longer before done done_more piece rest whole p e q d f =
    prefix_flushed a b c longer (before ++ done_more) rest (before ++ whole) (before_waits a b w (before ++ done) piece longer (before ++ done_more) p e (ap (λ (l : List ℕ). before ++ l) d ∙ sym (append_assoc before done piece))) q
    (ap (λ (l : List ℕ). before ++ l) f ∙ sym (append_assoc before done_more rest))

-- memory ran out between two pieces
pub wrote_between : (a b : Option (List ℕ)) (w before done rest whole : List ℕ) → AppendsBefore a b w (before ++ done) → whole ≡ done ++ rest → AppendsPrefix a b (before ++ whole)
wrote_between a b w before done rest whole p f = prefix_between a b w (before ++ done) rest (before ++ whole) p (ap (λ (l : List ℕ). before ++ l) f ∙ sym (append_assoc before done rest))

-- the front was put, and the sink failed in a further piece of all
pub wrote_piece : (a b c : Option (List ℕ)) (w before done piece rest whole : List ℕ) → AppendsBefore a b w (before ++ done) → AppendsPrefix b c (w ++ piece) → whole ≡ (done ++ piece) ++ rest → AppendsPrefix a c (before ++ whole)
wrote_piece a b c w before done piece rest whole p q e =
    prefix_put a b c w (before ++ done) piece rest (before ++ whole) p q
    (ap (λ (l : List ℕ). before ++ l) e ∙ sym (append_assoc before (done ++ piece) rest) ∙ ap (λ (l : List ℕ). l ++ rest) (sym (append_assoc before done piece)))

-- the front was put, and a further piece
pub wrote_pieces : (a b c : Option (List ℕ)) (w v before done piece whole : List ℕ) → AppendsBefore a b w (before ++ done) → AppendsBefore b c v (w ++ piece) → whole ≡ done ++ piece → AppendsBefore a c v (before ++ whole)
wrote_pieces a b c w v before done piece whole p q e =
    before_more a b c w v (before ++ done) piece (before ++ whole) p q (ap (λ (l : List ℕ). before ++ l) e ∙ sym (append_assoc before done piece))
