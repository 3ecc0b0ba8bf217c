-- The names of some semaphores and of one more.
use Rattle.std.proofs.Common.{◌≡◌, ◌∙◌, ap, sym, refl, ℕ, ◌+◌, Bor, List, [], ◌∷◌, ◌++◌, map, take, slice_get, Some}
use Rattle.std.specs.Map.{keys_of}
use Rattle.mms_types.specs.declared.key.Key.{Key}
use Rattle.mms_time.specs.Semaphores.{Rows}
use Rattle.mms_time.specs.declared.row.SemaphoreRow.{SemaphoreRow}
use Rattle.object_names.proofs.Listed.{take_next}

pub map_more : {X Y : Type 0} (f : X → Y) (xs : List X) (x : X) → map f (xs ++ x ∷ []) ≡ map f xs ++ f x ∷ []
map_more f [] x = refl
map_more f (y ∷ ys) x = ap (λ l. f y ∷ l) (map_more f ys x)

pub pushed : (keys : List (Bor Key)) (key : Bor Key) (new : List (Bor Key)) → new ≡ keys ++ key ∷ [] → map (λ (k : Bor Key). k.now) new ≡ map (λ (k : Bor Key). k.now) keys ++ key.now ∷ []
pushed keys key new is = ap (map (λ (k : Bor Key). k.now)) is ∙ map_more (λ (k : Bor Key). k.now) keys key

pub keys_more : (rows : Rows) (i : ℕ) (key : Key) (row : SemaphoreRow) (keys new : List Key) → slice_get rows i ≡ Some (key, row) → keys ≡ keys_of (take i rows)
    → new ≡ keys ++ key ∷ [] → new ≡ keys_of (take (i + 1) rows)
keys_more rows i key row keys new at is set =
    set ∙ ap (λ (l : List Key). l ++ key ∷ []) is ∙ sym (map_more (λ (r : Key × SemaphoreRow). r.0) (take i rows) (key, row)) ∙ ap keys_of (sym (take_next rows i (key, row) at))
