-- Names of semaphores in order: there is one list of them.
use Rattle.std.proofs.Common.{◌≡◌, Bool, List, filter, map}
use Rattle.std.specs.declared.cmp.Ordering.TheVariants.{Equal}
use Rattle.std.specs.List.Sorted.{IsPermutation, IsSorted}
use Rattle.mms_types.specs.KeyLaws.{keys_total}
use Rattle.mms_types.specs.Order.{key_order}
use Rattle.mms_types.specs.declared.key.Key.{Key}
use Rattle.mms_types.proofs.Precedence.{key_order_tells_apart}
use Rattle.object_names.proofs.InOrder as order
use Rattle.mms_time.specs.Loss.{sorted_keys}

apart : (a b : Key) → key_order a b ≡ Equal → a ≡ b
apart a b = (key_order_tells_apart a b).0

-- what a sort gives is the names in order
pub sort_gives : {P : Type 0} (f : P → Key) (xs ys : List P) → IsPermutation xs ys → IsSorted (λ x y. key_order (f x) (f y)) ys → map f ys ≡ sorted_keys (map f xs)
sort_gives = order.sort_gives key_order keys_total apart

-- some of the names in order are those that are some, in order
pub sorted_filtered : (q : Key → Bool) (names : List Key) → sorted_keys (filter q names) ≡ filter q (sorted_keys names)
sorted_filtered q = order.sorted_filtered key_order q keys_total apart
