-- A tag that is listed once more changes nothing of the set of those that are.
use Rattle.std.proofs.Common.{◌≡◌, ◌∙◌, ap, sym, refl, ℕ, suc, ◌+◌, ◌<◌, nat_eq, Bool, true, false, true≢false, ◌||◌, cond, Bor, List, [], ◌∷◌, ◌++◌, arith, get_or, length, map, slice_index_or, slice_set, take}
use Rattle.std.proofs.Math.Seq.{take-suc}
use Rattle.std.proofs.lemmas.Bool.Decides.{nat_tests}
use Rattle.std.proofs.lemmas.Grind.{get_or-set_at}
use Rattle.std.proofs.lemmas.List.{get_or-set_other}
use Rattle.std.specs.Cmp.Lexicographic.{pointwise, same_text}
use Rattle.std.specs.List.{list_any}
use Rattle.indexmap.specs.IndexSet.{insert_key}
use Rattle.mms_journal.specs.Entries.{is_among}
use Rattle.mms_journal.specs.Tags.{AreSlots, slot_of, tags_in}

abbrev pub lent_eq : Bor (List ℕ) → Bor (List ℕ) → Bool
lent_eq a b = pointwise nat_eq a.now b.now

pub any_more : {A : Type 0} (f : A → Bool) (xs : List A) (y : A) → list_any f (xs ++ y ∷ []) ≡ (list_any f xs || f y)
any_more f [] y = or_false (f y)
  where
    or_false : (b : Bool) → (b || false) ≡ b
    or_false true = refl
    or_false false = refl
any_more f (x ∷ xs) y = by_first (f x) (any_more f xs y)
  where
    by_first : (b : Bool) → list_any f (xs ++ y ∷ []) ≡ (list_any f xs || f y) → (b || list_any f (xs ++ y ∷ [])) ≡ ((b || list_any f xs) || f y)
    by_first true rest = refl
    by_first false rest = rest

same_or : (a : Bool) → (a || a) ≡ a
same_or true = refl
same_or false = refl

or_twice : (a b : Bool) → ((a || b) || a) ≡ (a || b)
or_twice true b = refl
or_twice false b = same_twice b
  where
    same_twice : (c : Bool) → (c || false) ≡ c
    same_twice true = refl
    same_twice false = refl

or_later : (a b c : Bool) → (b || c) ≡ b → ((a || b) || c) ≡ (a || b)
or_later true b c e = refl
or_later false b c e = e

already : (keys : List (Bor (List ℕ))) (new : Bor (List ℕ)) (tag : List ℕ) → list_any (lent_eq new) keys ≡ true → (is_among (tags_in keys) tag || pointwise nat_eq tag new.now) ≡ is_among (tags_in keys) tag
already [] new tag there = absurd cc
already (key ∷ keys) new tag there = by_first (lent_eq new key) refl (already keys new tag)
  where
    by_first : (b : Bool) → lent_eq new key ≡ b → (list_any (lent_eq new) keys ≡ true → (is_among (tags_in keys) tag || pointwise nat_eq tag new.now) ≡ is_among (tags_in keys) tag)
        → (is_among (tags_in (key ∷ keys)) tag || pointwise nat_eq tag new.now) ≡ is_among (tags_in (key ∷ keys)) tag
    by_first true e rest =
        let one : new.now ≡ key.now = same_text new.now key.now (sym e) in
        ap (λ (o : List ℕ). is_among (tags_in (key ∷ keys)) tag || pointwise nat_eq tag o) one ∙ or_twice (pointwise nat_eq tag key.now) (is_among (tags_in keys) tag)
    by_first false e rest =
        or_later (pointwise nat_eq tag key.now) (is_among (tags_in keys) tag) (pointwise nat_eq tag new.now)
        (rest (sym (ap (λ (b : Bool). b || list_any (lent_eq new) keys) e) ∙ there))

map_more : {A B : Type 0} (f : A → B) (xs : List A) (x : A) → map f (xs ++ x ∷ []) ≡ map f xs ++ f x ∷ []
map_more f [] x = refl
map_more f (y ∷ ys) x = ap (λ l. f y ∷ l) (map_more f ys x)

grown : (keys : List (Bor (List ℕ))) (new : Bor (List ℕ)) (tag : List ℕ) → is_among (tags_in (insert_key lent_eq keys new)) tag ≡ (is_among (tags_in keys) tag || pointwise nat_eq tag new.now)
grown keys new tag = by_there (list_any (lent_eq new) keys) refl
  where
    by_there : (b : Bool) → list_any (lent_eq new) keys ≡ b → is_among (tags_in (cond b keys (keys ++ new ∷ []))) tag ≡ (is_among (tags_in keys) tag || pointwise nat_eq tag new.now)
    by_there true e = sym (already keys new tag e)
    by_there false e = ap (λ (l : List (List ℕ)). is_among l tag) (map_more (λ (k : Bor (List ℕ)). k.now) keys new) ∙ any_more (pointwise nat_eq tag) (tags_in keys) new.now

-- one more of the texts up to a place
pub listed_next : (texts : List (List ℕ)) (i : ℕ) (x : List ℕ) (keys : List (Bor (List ℕ))) (new : Bor (List ℕ)) → i < length texts → x ≡ get_or texts i x → new.now ≡ x
    → ((tag : List ℕ) → is_among (tags_in keys) tag ≡ is_among (take i texts) tag) → (tag : List ℕ) → is_among (tags_in (insert_key lent_eq keys new)) tag ≡ is_among (take (i + 1) texts) tag
listed_next texts i x keys new low at is same tag =
    let step : i + 1 ≡ suc i = omega arith in
    let next : take (i + 1) texts ≡ take i texts ++ x ∷ [] = ap (λ (n : ℕ). take n texts) step ∙ take-suc texts i x low ∙ ap (λ (y : List ℕ). take i texts ++ y ∷ []) (sym at) in
    grown keys new tag
    ∙ ap (λ (b : Bool). b || pointwise nat_eq tag new.now) (same tag)
    ∙ ap (λ (o : List ℕ). is_among (take i texts) tag || pointwise nat_eq tag o) is
    ∙ sym (ap (λ (l : List (List ℕ)). is_among l tag) next ∙ any_more (pointwise nat_eq tag) (take i texts) x)

-- a tag that is looked up
pub looked_up : (keys : List (Bor (List ℕ))) (tag : Bor (List ℕ)) → list_any (lent_eq tag) keys ≡ is_among (tags_in keys) tag.now
looked_up [] tag = refl
looked_up (key ∷ keys) tag = ap (λ (b : Bool). lent_eq tag key || b) (looked_up keys tag)

-- ---- slots

pub no_tags : (tag : List ℕ) → is_among [] tag ≡ true → ⊥
no_tags tag e = true≢false (sym e)

slot_there : (slots : List Bool) (k j : ℕ) → j ≡ k → k < length slots → slice_index_or (slice_set slots k true) j false ≡ true
slot_there slots k j same within = get_or-set_at slots k j true false same within

slot_kept : (slots : List Bool) (k j : ℕ) → k < length slots → slice_index_or slots j false ≡ true → slice_index_or (slice_set slots k true) j false ≡ true
slot_kept slots k j within there = by_place (nat_eq k j) refl
  where
    by_place : (b : Bool) → nat_eq k j ≡ b → slice_index_or (slice_set slots k true) j false ≡ true
    by_place true same = slot_there slots k j (grind (arith, nat_tests, same)) within
    by_place false other = get_or-set_other slots k j true false (λ q. absurd (grind (arith, nat_tests, other, q))) ∙ there

without : (b : Bool) → (b || false) ≡ true → b ≡ true
without true e = refl
without false e = e

-- one more of the texts up to a place has its slot
pub slots_next : (texts : List (List ℕ)) (i : ℕ) (x : List ℕ) (slots : List Bool) (k : ℕ) → i < length texts → x ≡ get_or texts i x → k ≡ slot_of x → k < length slots
    → AreSlots slots (take i texts) → AreSlots (slice_set slots k true) (take (i + 1) texts)
slots_next texts i x slots k low at is within before tag there =
    let step : i + 1 ≡ suc i = omega arith in
    let next : take (i + 1) texts ≡ take i texts ++ x ∷ [] = ap (λ (n : ℕ). take n texts) step ∙ take-suc texts i x low ∙ ap (λ (y : List ℕ). take i texts ++ y ∷ []) (sym at) in
    let either : (is_among (take i texts) tag || pointwise nat_eq tag x) ≡ true =
    sym (ap (λ (l : List (List ℕ)). is_among l tag) next ∙ any_more (pointwise nat_eq tag) (take i texts) x) ∙ there in
    by_new (pointwise nat_eq tag x) refl either
  where
    by_new : (b : Bool) → pointwise nat_eq tag x ≡ b → (is_among (take i texts) tag || pointwise nat_eq tag x) ≡ true → slice_index_or (slice_set slots k true) (slot_of tag) false ≡ true
    by_new true e either = slot_there slots k (slot_of tag) (ap slot_of (same_text tag x (sym e)) ∙ sym is) within
    by_new false e either =
        slot_kept slots k (slot_of tag) within (before tag (without (is_among (take i texts) tag) (sym (ap (λ (b : Bool). is_among (take i texts) tag || b) e) ∙ either)))

-- a tag without a slot isn't listed
pub slot_told : (slots : List Bool) (listed : List (List ℕ)) (tag : List ℕ) → AreSlots slots listed → slice_index_or slots (slot_of tag) false ≡ false → false ≡ is_among listed tag
slot_told slots listed tag are none = by_listed (is_among listed tag) refl
  where
    by_listed : (b : Bool) → is_among listed tag ≡ b → false ≡ is_among listed tag
    by_listed true e = absurd (true≢false (sym (are tag e) ∙ none))
    by_listed false e = sym e
