-- Names that a client gives, gathered one after the other, each once.
use Rattle.std.proofs.Common.{◌≡◌, ◌∙◌, ℕ, ◌+◌, Bool, true, false, cond, not, ◌||◌, if◌then◌else◌, List, [], ◌∷◌, ◌++◌, map, is_none, refl, sym, ap}
use Rattle.std.specs.List.{list_any}
use Rattle.std.specs.Map.{lookup}
use Rattle.indexmap.specs.IndexSet.{insert_key}
use Rattle.mms_types.specs.declared.key.Key.{Key}
use Rattle.mms_types.specs.declared.object_name.ObjectName.{ObjectName}
use Rattle.mms_types.specs.Order.{key_eq, key_of}
use Rattle.mms_types.specs.KeyLaws.{keys_equal}
use Rattle.object_names.specs.Deletion.{is_listed_by, mentioned, missing}
use Rattle.object_names.proofs.Mentioned.{among, listed_mentioned, mentioned_more, missing_next}
use Rattle.object_names.specs.declared.borrowed.KeyRef.{KeyRef}
use Rattle.object_names.specs.Borrowed.{key_meant}
use Rattle.object_names.specs.Selected.{is_among}
use Rattle.object_names.specs.BorrowedHash.{borrowed_eq, equal_alike}

-- a set has a name exactly where it has the key
pub has_alike : (names : List KeyRef) (new : KeyRef) → list_any (borrowed_eq new) names ≡ list_any (key_eq (key_meant new)) (map key_meant names)
has_alike [] new = refl
has_alike (name ∷ names) new = (λ i. equal_alike new name i || has_alike names new i)

map_more : {A B : Type 0} (f : A → B) (xs : List A) (x : A) → map f (xs ++ x ∷ []) ≡ map f xs ++ f x ∷ []
map_more f [] x = refl
map_more f (y ∷ ys) x = ap (λ l. f y ∷ l) (map_more f ys x)

-- and takes a name as it takes the key
grown : (names : List KeyRef) (new : KeyRef) → map key_meant (insert_key borrowed_eq names new) ≡ insert_key key_eq (map key_meant names) (key_meant new)
grown names new = by_there (list_any (borrowed_eq new) names) ∙ ap (λ (b : Bool). cond b (map key_meant names) (map key_meant names ++ key_meant new ∷ [])) (has_alike names new)
  where
    by_there : (b : Bool) → map key_meant (cond b names (names ++ new ∷ [])) ≡ cond b (map key_meant names) (map key_meant names ++ key_meant new ∷ [])
    by_there true = refl
    by_there false = map_more key_meant names new

-- the set with one name more
pub set_next : (client : ℕ) (names : List ObjectName) (name : ObjectName) (set : List KeyRef) (new : KeyRef) → map key_meant set ≡ mentioned client names → key_meant new ≡ key_of client name
    → map key_meant (insert_key borrowed_eq set new) ≡ mentioned client (names ++ name ∷ [])
set_next client names name set new is same =
    grown set new ∙ ap (λ (ks : List Key). insert_key key_eq ks (key_meant new)) is ∙ mentioned_more client names name (key_meant new) same

-- the name is in the set exactly where it was listed before
listed_before : (client : ℕ) (names : List ObjectName) (name : ObjectName) (set : List KeyRef) (new : KeyRef) → map key_meant set ≡ mentioned client names → key_meant new ≡ key_of client name
    → list_any (borrowed_eq new) set ≡ is_listed_by client names (key_of client name)
listed_before client names name set new is same =
    has_alike set new
    ∙ ap (λ (ks : List Key). list_any (key_eq (key_meant new)) ks) is
    ∙ ap (λ (k : Key). list_any (key_eq k) (mentioned client names)) same
    ∙ turned (key_of client name) (mentioned client names)
    ∙ listed_mentioned client names (key_of client name)
  where
    turned : (key : Key) (keys : List Key) → list_any (key_eq key) keys ≡ among keys key
    turned key [] = refl
    turned key (k ∷ ks) = (λ i. keys_equal.symm key k i || turned key ks i)

-- how many are missing with one name more
pub missing_more : {T : Type 0} (client : ℕ) (names : List ObjectName) (name : ObjectName) (set : List KeyRef) (new : KeyRef) (rows : List (Key × T)) (added absent : Bool)
    → map key_meant set ≡ mentioned client names → key_meant new ≡ key_of client name → added ≡ not (list_any (borrowed_eq new) set)
    → is_none (lookup (key_eq (key_of client name)) rows) ≡ absent
    → missing client (names ++ name ∷ []) rows ≡ missing client names rows + (if added then (if absent then 1 else 0) else 0)
missing_more client names name set new rows added absent is same add e =
    missing_next client names name rows added absent (sym (listed_before client names name set new is same) ∙ sym (not_not (list_any (borrowed_eq new) set)) ∙ ap not (sym add)) e
  where
    not_not : (b : Bool) → not (not b) ≡ b
    not_not true = refl
    not_not false = refl

-- a set of all names has those that the client lists
pub all_listed : (client : ℕ) (names : List ObjectName) (set : List KeyRef) → map key_meant set ≡ mentioned client names → is_among set ≡ is_listed_by client names
all_listed client names set is = (λ i key. by_key key i)
  where
    meant : (set : List KeyRef) (key : Key) → is_among set key ≡ among (map key_meant set) key
    meant [] key = refl
    meant (name ∷ set) key = ap (λ (b : Bool). key_eq (key_meant name) key || b) (meant set key)

    by_key : (key : Key) → is_among set key ≡ is_listed_by client names key
    by_key key = meant set key ∙ ap (λ (ks : List Key). among ks key) is ∙ listed_mentioned client names key
