-- Names in order of octets: there is one list of them.
use Rattle.std.proofs.Common.{◌≡◌, ℕ, ◌+◌, List, length, map, take, sum_by, false}
use Rattle.std.specs.Ordering.{is_gt, is_lt}
use Rattle.std.specs.List.Sorted.{IsPermutation, IsSorted}
use Rattle.std.specs.Cmp.Lexicographic.{nat_list_cmp_total}
use Rattle.std.proofs.lemmas.Map.Lookups.{exact_bytes}
use Rattle.mms_types.specs.Order.{name_order}
use Rattle.object_names.specs.Listing.{insert_name, sorted_names}
use Rattle.object_names.proofs.InOrder as order
use Rattle.object_names.proofs.Ordered.{IsOrdered, before}

pub gt_lt : (a b : List ℕ) → is_gt (name_order a b) ≡ is_lt (name_order b a)
gt_lt = order.gt_lt name_order nat_list_cmp_total

pub not_before : (a b : List ℕ) → is_lt (name_order b a) ≡ false → before a b ≡ 0
not_before = order.not_before name_order nat_list_cmp_total

pub was_false : (a b : List ℕ) → before a b ≡ 0 → is_gt (name_order a b) ≡ false
was_false = order.was_false name_order nat_list_cmp_total

pub further : (a b : List ℕ) (others : List (List ℕ)) → before a b ≡ 0 → sum_by (before b) others ≡ 0 → sum_by (before a) others ≡ 0
further = order.further name_order nat_list_cmp_total

pub sum_inserted : (f : List ℕ → ℕ) (name : List ℕ) (names : List (List ℕ)) → sum_by f (insert_name name names) ≡ f name + sum_by f names
sum_inserted = order.sum_inserted name_order

pub ordered_inserted : (name : List ℕ) (names : List (List ℕ)) → IsOrdered names → IsOrdered (insert_name name names)
ordered_inserted = order.ordered_inserted name_order nat_list_cmp_total

pub sorted_ordered : (names : List (List ℕ)) → IsOrdered (sorted_names names)
sorted_ordered = order.sorted_ordered name_order nat_list_cmp_total

pub sum_sorted : (f : List ℕ → ℕ) (names : List (List ℕ)) → sum_by f (sorted_names names) ≡ sum_by f names
sum_sorted = order.sum_sorted name_order

-- two lists in order that have each name as often are one
pub unique : (ys zs : List (List ℕ)) → IsOrdered ys → IsOrdered zs → ((f : List ℕ → ℕ) → sum_by f ys ≡ sum_by f zs) → ys ≡ zs
unique = order.unique name_order nat_list_cmp_total exact_bytes

-- of what a sort gives, the first so many
pub sort_taken : {P : Type 0} (f : P → List ℕ) (xs ys : List P) (most : ℕ) → IsPermutation xs ys → IsSorted (λ x y. name_order (f x) (f y)) ys → map f (take most ys) ≡ take most (sorted_names (map f xs))
sort_taken = order.sort_taken name_order nat_list_cmp_total exact_bytes

-- names in order are the same names
pub same_names : (names : List (List ℕ)) → IsPermutation names (sorted_names names)
same_names = order.same_elements name_order

-- no name comes before the one in front of it
pub stand_in_order : (names : List (List ℕ)) → IsSorted name_order (sorted_names names)
stand_in_order = order.stand_in_order name_order nat_list_cmp_total

-- there are as many of them
pub count_sorted : {P : Type 0} (f : P → List ℕ) (xs : List P) → length (sorted_names (map f xs)) ≡ length xs
count_sorted = order.count_sorted name_order
