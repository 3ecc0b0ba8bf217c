-- What is done to uploads keeps them few, and their numbers distinct and among those that were given.
use Rattle.std.proofs.Common.{◌≡◌, ◌≢◌, ℕ, suc, ℤ, pos, ◌+◌, ◌<◌, ◌≤◌, ◌≤ℤ◌, Bool, true, false, List, [], ◌∷◌, ◌++◌, Option, None, Some, filter, get_or, length, map, refl, sym, ◌∙◌, arith}
use Rattle.std.specs.Prelude.{AllPairs, cond}
use Rattle.std.specs.Option.{option_map_or}
use Rattle.std.proofs.lemmas.List.{length-append, length-map}
use Rattle.std.proofs.lemmas.List.Elements.{All-filter, All-map, All-push, All-weaker}
use Rattle.std.proofs.lemmas.List.Kept.{AllPairs-cons, AllPairs-filter}
use Rattle.std.proofs.lemmas.List.Quantifiers.{all_pairs_push}
use Rattle.std.proofs.lemmas.List.Sums.{length-filter, count_by-le-length}
use Rattle.std.proofs.lemmas.Int.{ints}
use Rattle.mms_types.specs.declared.domain.Segment.{Segment}
use Rattle.domain_load.specs.Domains.{Rows, name_eq}
use Rattle.domain_upload.specs.declared.upload.Upload.{Upload}
use Rattle.domain_upload.specs.Uploads.{AreNumbered, OpenUploads, after_next, after_piece, is_upload, last_number, most_uploads, piece_of, upload_after, uploads_of}

abbrev Differ : Upload → Upload → Type 0
Differ one other = one.number ≢ other.number

abbrev Positive : Upload → Type 0
Positive u = pos 1 ≤ℤ u.number

abbrev Reached : ℕ → Upload → Type 0
Reached given u = u.number ≤ℤ pos given

-- where some go
pub fewer : (p : Upload → Bool) (given : ℕ) (old new : List Upload) → AreNumbered (record { rows = old; given = given }) → new ≡ filter p old
    → AreNumbered (record { rows = new; given = given })
fewer p given old new h e = rw e (record {
  few = omega (arith, h.few, length-filter p old, count_by-le-length p old);
  last = h.last;
  distinct = AllPairs-filter Differ p old h.distinct;
  positive = All-filter p Positive old h.positive;
  reached = All-filter p (Reached given) old h.reached;
})

-- where one more has the next number
pub one_more : (given : ℕ) (old new : List Upload) (u : Upload) → new ≡ old ++ u ∷ [] → AreNumbered (record { rows = old; given = given }) → length old < most_uploads
    → given < last_number → u.number ≡ pos (given + 1) → AreNumbered (record { rows = new; given = given + 1 })
one_more given old new u e h room left number = rw e (record {
  few = omega (arith, length-append old (u ∷ []));
  last = omega arith;
  distinct = all_pairs_push Differ old u h.distinct (λ k d below same. let r : (get_or old k d).number ≤ℤ pos given = h.reached k d below in absurd (omega (arith, ints)));
  positive = All-push Positive old u h.positive (omega (arith, ints));
  reached = All-push (Reached (given + 1)) old u (All-weaker (Reached given) (Reached (given + 1)) (λ x r. omega (arith, ints)) old h.reached) (omega (arith, ints));
})

-- an upload keeps its number
pub same_number : (client : ℕ) (number : ℤ) (size : ℕ) (domains : Rows) (u : Upload) → (upload_after client number size domains u).number ≡ u.number
same_number client number size domains u = elim (is_upload client number u) as (λ b. (cond b (after_next size domains u) u).number ≡ u.number) [ true ↦ by_piece (piece_of size domains u) | false ↦ refl ]
  where
    by_piece : (p : Option Segment) → (option_map_or (after_piece u) p u).number ≡ u.number
    by_piece None = refl
    by_piece (Some p) = refl

-- where each keeps its number
pub advanced : (f : Upload → Upload) (given : ℕ) (old new : List Upload) → new ≡ map f old → AreNumbered (record { rows = old; given = given })
    → ((u : Upload) → (f u).number ≡ u.number) → AreNumbered (record { rows = new; given = given })
advanced f given old new e h same = rw e (record {
  few = rw length-map h.few;
  last = h.last;
  distinct = AllPairs-map f old (λ one other differ s. differ (sym (same one) ∙ s ∙ same other)) h.distinct;
  positive = All-map Positive f old (All-weaker Positive (λ u. Positive (f u)) (λ u r. rw same r) old h.positive);
  reached = All-map (Reached given) f old (All-weaker (Reached given) (λ u. Reached given (f u)) (λ u r. rw same r) old h.reached);
})
  where
    AllPairs-map : (f : Upload → Upload) (xs : List Upload) → ((one other : Upload) → Differ one other → Differ (f one) (f other)) → AllPairs Differ xs → AllPairs Differ (map f xs)
    AllPairs-map f [] k h = h
    AllPairs-map f (x ∷ xs) k h =
        AllPairs-cons Differ (f x) (map f xs)
        (All-map (Differ (f x)) f xs (All-weaker (Differ x) (λ u. Differ (f x) (f u)) (λ u r. k x u r) xs (λ i d below. h 0 (suc i) d (omega arith) (omega arith))))
        (AllPairs-map f xs k (λ i j d before below. h (suc i) (suc j) d (omega arith) (omega arith)))

-- of one domain there are no more than of all
pub few_of_domain : (domain : List ℕ) (s : OpenUploads) → AreNumbered s → uploads_of domain s ≤ 64
few_of_domain domain s h = omega (arith, h.few, count_by-le-length (λ u. name_eq u.domain domain) s.rows)
