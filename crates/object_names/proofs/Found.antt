-- A look-up finds a value exactly where the key is among the keys.
use Rattle.std.proofs.Common.{◌≡◌, ◌↔◌, Bor, MutBor, List, Option, None, Some, IsSome, Contains}
use Rattle.std.specs.Option.{option_copied, option_copied_mut}
use Rattle.std.specs.Map.{lookup, keys_of}
use Rattle.std.proofs.lemmas.Map.Views.{Contains-keys_from_lookup, IsSome-lookup_from_Contains}
use Rattle.mms_types.specs.declared.key.Key.{Key}
use Rattle.mms_types.specs.Order.{key_eq}
use Rattle.mms_types.specs.KeyLaws.{keys_equal}
use Rattle.mms_types.proofs.Precedence.{key_eq_tells}

among : {X : Type 0} (key : Key) (rows : List (Key × X)) → IsSome (lookup (key_eq key) rows) ↔ Contains (keys_of rows) key
among key rows = (
  Contains-keys_from_lookup (λ a b. (key_eq_tells a b).0) key rows,
  IsSome-lookup_from_Contains keys_equal key rows,
)

pub found : {X : Type 0} (value : Option X) (key : Key) (rows : List (Key × X)) → value ≡ lookup (key_eq key) rows → IsSome value ↔ Contains (keys_of rows) key
found value key rows is = rw is (among key rows)

pub found_shared : {X : Type 0} (value : Option (Bor X)) (key : Key) (rows : List (Key × X)) → option_copied value ≡ lookup (key_eq key) rows → IsSome value ↔ Contains (keys_of rows) key
found_shared None key rows is = found None key rows is
found_shared (Some x) key rows is = found (Some x.now) key rows is

pub found_lent : {X : Type 0} (value : Option (MutBor X)) (key : Key) (rows : List (Key × X)) → option_copied_mut value ≡ lookup (key_eq key) rows → IsSome value ↔ Contains (keys_of rows) key
found_lent None key rows is = found None key rows is
found_lent (Some x) key rows is = found (Some x.now) key rows is
