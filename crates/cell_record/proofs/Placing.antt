-- Places and events, side by side.
use Rattle.std.proofs.Common.{◌≡◌, ℕ, zero, suc, ◌+◌, ◌<◌, List, [], ◌∷◌, ◌++◌, length, slice_get, get_or, Some, refl, ap, ◌∙◌, arith}
use Rattle.std.specs.List.{zip}
use Rattle.mms_types.specs.declared.event.CellEvent.{CellEvent}
use Rattle.cell_record.specs.Placed.{places_from}
use Rattle.cell_record.specs.Report.{placed_from}

pub zip_more : (places : List ℕ) (events : List CellEvent) (place : ℕ) (event : CellEvent) → length places ≡ length events
    → zip (places ++ place ∷ []) (events ++ event ∷ []) ≡ zip places events ++ (place, event) ∷ []
zip_more [] [] place event same = refl
zip_more [] (e ∷ events) place event same = absurd (cc same)
zip_more (p ∷ places) [] place event same = absurd (cc same)
zip_more (p ∷ places) (e ∷ events) place event same =
    let rest : length places ≡ length events = omega arith in ap (λ (l : List (ℕ × CellEvent)). (p, e) ∷ l) (zip_more places events place event rest)

pub zip_places : (first : ℕ) (events : List CellEvent) → zip (places_from first (length events)) events ≡ placed_from first events
zip_places first [] = refl
zip_places first (e ∷ events) = ap (λ (l : List (ℕ × CellEvent)). (first, e) ∷ l) (zip_places (first + 1) events)

pub zip_length : (places : List ℕ) (events : List CellEvent) → length places ≡ length events → length (zip places events) ≡ length events
zip_length [] [] same = refl
zip_length [] (e ∷ events) same = absurd (cc same)
zip_length (p ∷ places) [] same = absurd (cc same)
zip_length (p ∷ places) (e ∷ events) same = let fewer : length places ≡ length events = omega arith in let rest = zip_length places events fewer in omega (arith, rest)

pub zip_at : (places : List ℕ) (events : List CellEvent) (i p : ℕ) (e : CellEvent) → length places ≡ length events → i < length (zip places events)
    → slice_get (zip places events) i ≡ Some (get_or places i p, get_or events i e)
zip_at [] events i p d same there = absurd (omega (arith, there))
zip_at (x ∷ places) [] i p d same there = absurd (omega (arith, there))
zip_at (x ∷ places) (e ∷ events) zero p d same there = refl
zip_at (x ∷ places) (e ∷ events) (suc i) p d same there =
    let fewer : length places ≡ length events = omega arith in
    let within : i < length (zip places events) = omega (arith, there) in
    zip_at places events i p d fewer within

pub length-places : (first count : ℕ) → length (places_from first count) ≡ count
length-places first zero = refl
length-places first (suc count) = let rest = length-places (first + 1) count in omega (arith, rest)

pub places_more : (first count : ℕ) → places_from first (count + 1) ≡ places_from first count ++ (first + count) ∷ []
places_more first zero = ap (λ (n : ℕ). n ∷ []) (omega arith)
places_more first (suc count) =
    let next : first + 1 + count ≡ first + suc count = omega arith in
    let one : suc count + 1 ≡ suc (count + 1) = omega arith in
    ap (places_from first) one ∙ ap (λ (l : List ℕ). first ∷ l) (places_more (first + 1) count ∙ ap (λ (n : ℕ). places_from (first + 1) count ++ n ∷ []) next)
