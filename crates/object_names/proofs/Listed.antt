-- A name that is listed once more changes nothing of the set of those that are.
use Rattle.std.proofs.Common.{◌≡◌, ℕ, suc, ◌+◌, ◌<◌, arith, length, take, get_or, slice_get, Some, Bool, true, false, ◌||◌, List, [], ◌∷◌, ◌++◌, refl, sym, ap, ◌∙◌, if◌then◌else◌}
use Rattle.std.proofs.Math.Seq.{take-suc}
use Rattle.std.proofs.lemmas.Option.{get_or_from_slice_get, slice_get_within}
use Rattle.std.specs.List.{list_any}
use Rattle.indexmap.specs.IndexSet.{insert_key}
use Rattle.mms_types.specs.declared.key.Key.{Key}
use Rattle.mms_types.specs.declared.object_name.ObjectName.{ObjectName}
use Rattle.mms_types.specs.Order.{key_eq, key_of}
use Rattle.mms_types.proofs.Precedence.{key_eq_tells}
use Rattle.object_names.specs.declared.borrowed.KeyRef.{KeyRef}
use Rattle.object_names.specs.Borrowed.{key_meant}
use Rattle.object_names.specs.BorrowedHash.{borrowed_eq, equal_alike}
use Rattle.object_names.specs.Deletion.{is_listed_by}
use Rattle.object_names.specs.Selected.{is_among}

pub any_more : {A : Type 0} (f : A → Bool) (xs : List A) (y : A) → list_any f (xs ++ y ∷ []) ≡ (list_any f xs || f y)
any_more f [] y = or_false (f y)
  where
    or_false : (b : Bool) → (b || false) ≡ b
    or_false true = refl
    or_false false = refl
any_more f (x ∷ xs) y = by_first (f x) (any_more f xs y)
  where
    by_first : (b : Bool) → list_any f (xs ++ y ∷ []) ≡ (list_any f xs || f y) → (b || list_any f (xs ++ y ∷ [])) ≡ ((b || list_any f xs) || f y)
    by_first true rest = refl
    by_first false rest = rest

-- a name that is among them is so in any of its spellings
among_already : (names : List KeyRef) (new : KeyRef) (key : Key) → list_any (borrowed_eq new) names ≡ true → (is_among names key || key_eq (key_meant new) key) ≡ is_among names key
among_already [] new key there = absurd cc
among_already (name ∷ names) new key there = by_first (borrowed_eq new name) refl (among_already names new key)
  where
    same_or : (a : Bool) → (a || a) ≡ a
    same_or true = refl
    same_or false = refl

    or_twice : (a b : Bool) → ((a || b) || a) ≡ (a || b)
    or_twice true b = refl
    or_twice false true = refl
    or_twice false false = refl

    or_later : (a b c : Bool) → (b || c) ≡ b → ((a || b) || c) ≡ (a || b)
    or_later true b c e = refl
    or_later false b c e = e

    by_first : (b : Bool) → borrowed_eq new name ≡ b → (list_any (borrowed_eq new) names ≡ true → (is_among names key || key_eq (key_meant new) key) ≡ is_among names key)
        → (is_among (name ∷ names) key || key_eq (key_meant new) key) ≡ is_among (name ∷ names) key
    by_first true e rest =
        let one : key_meant new ≡ key_meant name = (key_eq_tells (key_meant new) (key_meant name)).0 (sym (equal_alike new name) ∙ e) in
        ap (λ (k : Key). (key_eq (key_meant name) key || is_among names key) || key_eq k key) one
        ∙ or_twice (key_eq (key_meant name) key) (is_among names key)
    by_first false e rest =
        or_later (key_eq (key_meant name) key) (is_among names key) (key_eq (key_meant new) key)
        (rest (sym (ap (λ (b : Bool). b || list_any (borrowed_eq new) names) e) ∙ there))

grown : (names : List KeyRef) (new : KeyRef) (key : Key) → is_among (insert_key borrowed_eq names new) key ≡ (is_among names key || key_eq (key_meant new) key)
grown names new key = by_there (list_any (borrowed_eq new) names) refl
  where
    by_there : (b : Bool) → list_any (borrowed_eq new) names ≡ b → is_among (if b then names else names ++ new ∷ []) key ≡ (is_among names key || key_eq (key_meant new) key)
    by_there true e = sym (among_already names new key e)
    by_there false e = any_more (λ name. key_eq (key_meant name) key) names new

pub listed_more : (client : ℕ) (names : List ObjectName) (name : ObjectName) (set : List KeyRef) (new : KeyRef) → key_meant new ≡ key_of client name
    → is_among set ≡ is_listed_by client names → is_among (insert_key borrowed_eq set new) ≡ is_listed_by client (names ++ name ∷ [])
listed_more client names name set new is same = λ i key. by_key key i
  where
    by_key : (key : Key) → is_among (insert_key borrowed_eq set new) key ≡ is_listed_by client (names ++ name ∷ []) key
    by_key key =
        grown set new key ∙ ap (λ (f : Key → Bool). f key || key_eq (key_meant new) key) same ∙ ap (λ (k : Key). is_listed_by client names key || key_eq k key) is
        ∙ sym (any_more (λ other. key_eq (key_of client other) key) names name)

-- one more than those up to an index
pub take_more : {A : Type 0} (i : ℕ) (xs : List A) (x : A) → i < length xs → x ≡ get_or xs i x → take (i + 1) xs ≡ take i xs ++ x ∷ []
take_more {A} i xs x h e =
    let step : i + 1 ≡ suc i = omega arith in
    ap (λ (n : ℕ). take n xs) step ∙ take-suc xs i x h ∙ ap (λ (y : A). take i xs ++ y ∷ []) (sym e)

pub take_next : {A : Type 0} (xs : List A) (i : ℕ) (x : A) → slice_get xs i ≡ Some x → take (i + 1) xs ≡ take i xs ++ x ∷ []
take_next xs i x at = take_more i xs x (slice_get_within xs i x at) (sym (get_or_from_slice_get xs i x x at))
