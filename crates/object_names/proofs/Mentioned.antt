-- Names that are mentioned once more, and rows of which those go that are mentioned.
use Rattle.std.proofs.Common.{◌≡◌, ◌∙◌, ap, sym, refl, ℕ, ◌+◌, arith, Bool, true, false, cond, not, ◌||◌, List, [], ◌∷◌, ◌++◌, append-nil, filter, length, map, is_none, if◌then◌else◌}
use Rattle.std.proofs.lemmas.List.{length_push}
use Rattle.std.specs.List.{list_any}
use Rattle.std.specs.Map.{lookup}
use Rattle.mms_types.specs.KeyLaws.{keys_equal}
use Rattle.mms_types.specs.Order.{key_eq, key_of}
use Rattle.mms_types.specs.declared.key.Key.{Key}
use Rattle.mms_types.specs.declared.object_name.ObjectName.{ObjectName}
use Rattle.mms_types.proofs.Precedence.{key_eq_tells}
use Rattle.indexmap.specs.IndexSet.{insert_key}
use Rattle.object_names.specs.Deletion.{is_listed_by, mentioned, missing, missing_of, once}

-- the name stands among them
abbrev pub among : List Key → Key → Bool
among keys key = list_any (λ other. key_eq other key) keys

same_name : (a b : Key) → key_eq a b ≡ true → a ≡ b
same_name a b e = (key_eq_tells a b).0 e

-- a name that differs from those that are left out stands among the rest as it did
among_left : (out key : Key) (keys : List Key) → key_eq out key ≡ false → among (filter (λ other. not (key_eq out other)) keys) key ≡ among keys key
among_left out key [] differs = refl
among_left out key (k ∷ ks) differs = by_test (key_eq out k) refl (among_left out key ks differs)
  where
    by_test : (b : Bool) → key_eq out k ≡ b → among (filter (λ other. not (key_eq out other)) ks) key ≡ among ks key
        → among (cond (not b) (k ∷ filter (λ other. not (key_eq out other)) ks) (filter (λ other. not (key_eq out other)) ks)) key ≡ (key_eq k key || among ks key)
    by_test true e rest =
        let other : key_eq k key ≡ false = ap (λ (x : Key). key_eq x key) (sym (same_name out k e)) ∙ differs in
        rest ∙ sym (ap (λ (b : Bool). b || among ks key) other)
    by_test false e rest = ap (λ (b : Bool). key_eq k key || b) rest

-- each name stands among those that are mentioned
pub among_once : (keys : List Key) (key : Key) → among (once keys) key ≡ among keys key
among_once [] key = refl
among_once (k ∷ ks) key = by_test (key_eq k key) refl (among_once ks key)
  where
    by_test : (b : Bool) → key_eq k key ≡ b → among (once ks) key ≡ among ks key
        → (b || among (filter (λ other. not (key_eq k other)) (once ks)) key) ≡ (b || among ks key)
    by_test true e rest = refl
    by_test false e rest = among_left k key (once ks) e ∙ rest

pub filter_more : {A : Type 0} (p : A → Bool) (xs : List A) (y : A) → filter p (xs ++ y ∷ []) ≡ filter p xs ++ (if p y then y ∷ [] else [])
filter_more p [] y = by_last (p y)
  where
    by_last : (b : Bool) → cond b (y ∷ []) [] ≡ (if b then y ∷ [] else [])
    by_last true = refl
    by_last false = refl
filter_more p (x ∷ xs) y = by_first (p x) (filter_more p xs y)
  where
    by_first : (b : Bool) → filter p (xs ++ y ∷ []) ≡ filter p xs ++ (if p y then y ∷ [] else [])
        → cond b (x ∷ filter p (xs ++ y ∷ [])) (filter p (xs ++ y ∷ [])) ≡ cond b (x ∷ filter p xs) (filter p xs) ++ (if p y then y ∷ [] else [])
    by_first true rest = ap (λ l. x ∷ l) rest
    by_first false rest = rest

no_more : {A : Type 0} (xs : List A) → xs ++ [] ≡ xs
no_more [] = refl
no_more (x ∷ xs) = ap (λ l. x ∷ l) (no_more xs)

-- one name more: it is mentioned first here, or was before
pub once_more : (keys : List Key) (key : Key) → once (keys ++ key ∷ []) ≡ (if among keys key then once keys else once keys ++ key ∷ [])
once_more [] key = refl
once_more (k ∷ ks) key =
    ap (λ (l : List Key). k ∷ filter (λ other. not (key_eq k other)) l) (once_more ks key)
    ∙ by_tests (key_eq k key) refl (among ks key)
  where
    rest : List Key
    rest = filter (λ other. not (key_eq k other)) (once ks)

    by_tests : (a : Bool) → key_eq k key ≡ a → (b : Bool)
        → k ∷ filter (λ other. not (key_eq k other)) (cond b (once ks) (once ks ++ key ∷ [])) ≡ (cond (a || b) (k ∷ filter (λ other. not (key_eq k other)) (once ks)) (k ∷ filter (λ other. not (key_eq k other)) (once ks) ++ key ∷ []))
    by_tests true e true = refl
    by_tests false e true = refl
    by_tests true e false =
        ap (λ (l : List Key). k ∷ l)
        (filter_more (λ other. not (key_eq k other)) (once ks) key
        ∙ ap (λ (b : Bool). filter (λ other. not (key_eq k other)) (once ks) ++ (if not b then key ∷ [] else [])) e
        ∙ no_more (filter (λ other. not (key_eq k other)) (once ks)))
    by_tests false e false =
        ap (λ (l : List Key). k ∷ l)
        (filter_more (λ other. not (key_eq k other)) (once ks) key
        ∙ ap (λ (b : Bool). filter (λ other. not (key_eq k other)) (once ks) ++ (if not b then key ∷ [] else [])) e)

any_same : {A : Type 0} (f g : A → Bool) → ((x : A) → f x ≡ g x) → (xs : List A) → list_any f xs ≡ list_any g xs
any_same f g same [] = refl
any_same f g same (x ∷ xs) = ap (λ (b : Bool). b || list_any f xs) (same x) ∙ ap (λ (b : Bool). g x || b) (any_same f g same xs)

-- a set of the names that are mentioned takes one more
pub set_more : (keys : List Key) (key : Key) → insert_key key_eq (once keys) key ≡ once (keys ++ key ∷ [])
set_more keys key =
    ap (λ (b : Bool). cond b (once keys) (once keys ++ key ∷ []))
    (any_same (key_eq key) (λ other. key_eq other key) (λ other. keys_equal.symm key other) (once keys) ∙ among_once keys key)
    ∙ sym (once_more keys key)

map_more : {A B : Type 0} (f : A → B) (xs : List A) (x : A) → map f (xs ++ x ∷ []) ≡ map f xs ++ f x ∷ []
map_more f [] x = refl
map_more f (y ∷ ys) x = ap (λ l. f y ∷ l) (map_more f ys x)

pub mentioned_more : (client : ℕ) (names : List ObjectName) (name : ObjectName) (key : Key) → key ≡ key_of client name
    → insert_key key_eq (mentioned client names) key ≡ mentioned client (names ++ name ∷ [])
mentioned_more client names name key is =
    set_more (map (key_of client) names) key
    ∙ ap (λ (k : Key). once (map (key_of client) names ++ k ∷ [])) is
    ∙ ap once (sym (map_more (key_of client) names name))

-- what a client lists stands among what its names mention
pub listed_mentioned : (client : ℕ) (names : List ObjectName) (key : Key) → among (mentioned client names) key ≡ is_listed_by client names key
listed_mentioned client names key = among_once (map (key_of client) names) key ∙ by_names names
  where
    by_names : (names : List ObjectName) → among (map (key_of client) names) key ≡ is_listed_by client names key
    by_names [] = refl
    by_names (name ∷ names) = ap (λ (b : Bool). key_eq (key_of client name) key || b) (by_names names)

-- ---- names that have no row

pub missing_with : {T : Type 0} (keys : List Key) (key : Key) (rows : List (Key × T)) (b : Bool) → is_none (lookup (key_eq key) rows) ≡ b
    → missing_of (keys ++ key ∷ []) rows ≡ missing_of keys rows + (if b then 1 else 0)
missing_with keys key rows true e =
    ap length (filter_more (λ k. is_none (lookup (key_eq k) rows)) keys key ∙ ap (λ (b : Bool). filter (λ k. is_none (lookup (key_eq k) rows)) keys ++ (if b then key ∷ [] else [])) e)
    ∙ length_push (filter (λ k. is_none (lookup (key_eq k) rows)) keys) key ∙ omega arith
missing_with keys key rows false e =
    ap length
    (filter_more (λ k. is_none (lookup (key_eq k) rows)) keys key ∙ ap (λ (b : Bool). filter (λ k. is_none (lookup (key_eq k) rows)) keys ++ (if b then key ∷ [] else [])) e
    ∙ append-nil (filter (λ k. is_none (lookup (key_eq k) rows)) keys))
    ∙ omega arith

-- one name more: where it is new and has no row, one more is missing
pub missing_next : {T : Type 0} (client : ℕ) (names : List ObjectName) (name : ObjectName) (rows : List (Key × T)) (new absent : Bool)
    → is_listed_by client names (key_of client name) ≡ not new → is_none (lookup (key_eq (key_of client name)) rows) ≡ absent
    → missing client (names ++ name ∷ []) rows ≡ missing client names rows + (if new then (if absent then 1 else 0) else 0)
missing_next client names name rows new absent listed e =
    ap (λ (ks : List Key). missing_of (once ks) rows) (map_more (key_of client) names name)
    ∙ ap (λ (ks : List Key). missing_of ks rows) (once_more (map (key_of client) names) (key_of client name))
    ∙ by_new new (by_names names ∙ listed)
  where
    by_names : (names : List ObjectName) → among (map (key_of client) names) (key_of client name) ≡ is_listed_by client names (key_of client name)
    by_names [] = refl
    by_names (n ∷ ns) = ap (λ (b : Bool). key_eq (key_of client n) (key_of client name) || b) (by_names ns)

    more : (b : Bool) → List Key
    more b = cond b (mentioned client names) (mentioned client names ++ key_of client name ∷ [])

    by_new : (b : Bool) → among (map (key_of client) names) (key_of client name) ≡ not b
        → missing_of (more (among (map (key_of client) names) (key_of client name))) rows ≡ missing client names rows + (if b then (if absent then 1 else 0) else 0)
    by_new true there = ap (λ (b : Bool). missing_of (more b) rows) there ∙ missing_with (mentioned client names) (key_of client name) rows absent e
    by_new false there = ap (λ (b : Bool). missing_of (more b) rows) there ∙ omega arith
