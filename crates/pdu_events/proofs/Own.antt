-- What an arm of an area appends.
use Rattle.std.proofs.Common.{◌≡◌, ap}
use Rattle.std.specs.Prelude.{Result, Ok, Err, OnOk, is_ok}

-- where the arm's element is written, the answer that it is the area's own tells so
pub own_put : {A B E : Type 0} (own : Result A E) (written : Result B E) (P : Type 0) → is_ok own ≡ is_ok written → OnOk written P → OnOk own P
own_put (Ok x) (Ok y) P e p = p
own_put (Ok x) (Err y) P e p = absurd cc
own_put (Err x) written P e p = tt
