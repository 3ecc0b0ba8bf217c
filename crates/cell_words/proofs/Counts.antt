-- The options of words, and how often a name is among them.
use Rattle.std.proofs.Common.{◌≡◌, ◌∙◌, ◌⊎◌, ◌||◌, ◌==◌, ◌+◌, ◌≤◌, ◌<◌, ◌++◌, refl, sym, ap, subst, inl, inr, ℕ, suc, Bool, true, false, cond, true≢false, not, List, [], ◌∷◌, Option, Some, None, option_map, length, map, arith, length-append}
use Rattle.std.specs.Prelude.{find}
use Rattle.std.specs.List.{after_first, before_first, position_or_len}
use Rattle.std.specs.Str.{bytes_eq}
use Rattle.std.proofs.lemmas.Slice.Eq.{bytes_eq-Decides}
use Rattle.cell_words.specs.Words.{Given, Text, is_equals, is_joined, joined, options_in, text_of, with_option}
use Rattle.cell_words.specs.Read.{AreNot, HaveNone}

-- ---- the first of the options

-- the name and the text of a word with an equals sign
pub joined_first : (word : Text) (rest : List Text) → is_joined word ≡ true → options_in (word ∷ rest) ≡ with_option (joined word) (options_in rest)
joined_first word [] e = ap (λ b. cond b (Some (joined word ∷ [])) None) e
joined_first word (text ∷ rest) e = ap (λ b. cond b (with_option (joined word) (options_in (text ∷ rest))) (with_option (word, text) (options_in rest))) e

pub parted_first : (word text : Text) (rest : List Text) → is_joined word ≡ false → options_in (word ∷ text ∷ rest) ≡ with_option (word, text) (options_in rest)
parted_first word text rest e = ap (λ b. cond b (with_option (joined word) (options_in (text ∷ rest))) (with_option (word, text) (options_in rest))) e

pub lone_none : (word : Text) → is_joined word ≡ false → options_in (word ∷ []) ≡ None
lone_none word e = ap (λ b. cond b (Some (joined word ∷ [])) None) e

-- where the first is known, all begin with it
pub head_is : (o : Given) (os : Option (List Given)) (options : List Given) → with_option o os ≡ Some options → (more : List Given) × (os ≡ Some more) × (options ≡ o ∷ more)
head_is o None options e = absurd (cc e)
head_is o (Some more) options e = (more, refl, cc e)

-- the first option of a word that is none, or ends the words
pub first_of_word : (word : Text) (rest : List Text) (options : List Given) → options_in (word ∷ rest) ≡ Some options
    → (o : Given) × (more : List Given) × (options ≡ o ∷ more) × ((o.0 ≡ word) ⊎ (o.0 ≡ before_first is_equals word))
first_of_word word [] options e = go (is_joined word) e
  where
    go : (b : Bool) → cond b (Some (joined word ∷ [])) None ≡ Some options → (o : Given) × (more : List Given) × (options ≡ o ∷ more) × ((o.0 ≡ word) ⊎ (o.0 ≡ before_first is_equals word))
    go true e = (joined word, [], cc e, inr refl)
    go false e = absurd (cc e)
first_of_word word (text ∷ rest) options e = go (is_joined word) e
  where
    go : (b : Bool) → cond b (with_option (joined word) (options_in (text ∷ rest))) (with_option (word, text) (options_in rest)) ≡ Some options
        → (o : Given) × (more : List Given) × (options ≡ o ∷ more) × ((o.0 ≡ word) ⊎ (o.0 ≡ before_first is_equals word))
    go true e = let k = head_is (joined word) (options_in (text ∷ rest)) options e in (joined word, k.0, k.2, inr refl)
    go false e = let k = head_is (word, text) (options_in rest) options e in ((word, text), k.0, k.2, inl refl)

-- ---- as the code cuts words

has_equals : (word : Text) → position_or_len is_equals word < length word → is_joined word ≡ true
has_equals [] lt = absurd (omega (arith, lt))
has_equals (x ∷ xs) lt = go (is_equals x) lt (has_equals xs)
  where
    go : (b : Bool) → cond (not b) (1 + position_or_len is_equals xs) 0 < suc (length xs) → (position_or_len is_equals xs < length xs → is_joined xs ≡ true) → (b || is_joined xs) ≡ true
    go true lt rest = refl
    go false lt rest = rest (omega (arith, lt))

pub lacks_equals : (word : Text) → position_or_len is_equals word ≡ length word → is_joined word ≡ false
lacks_equals [] e = refl
lacks_equals (x ∷ xs) e = go (is_equals x) e (lacks_equals xs)
  where
    go : (b : Bool) → cond (not b) (1 + position_or_len is_equals xs) 0 ≡ suc (length xs) → (position_or_len is_equals xs ≡ length xs → is_joined xs ≡ false) → (b || is_joined xs) ≡ false
    go true e rest = absurd (omega (arith, e))
    go false e rest = rest (omega (arith, e))

pub cut_joined : (word name text : Text) (rest : List Text) → position_or_len is_equals word < length word → name ≡ before_first is_equals word → text ≡ after_first is_equals word
    → options_in (word ∷ rest) ≡ with_option (name, text) (options_in rest)
cut_joined word name text rest lt n t = joined_first word rest (has_equals word lt) ∙ sym (ap (λ o. with_option o (options_in rest)) (ap (λ k. (k, text)) n ∙ ap (λ k. (before_first is_equals word, k)) t))

-- ---- no options, or another number of them

pub not_some : (n : ℕ) (words : List Text) → HaveNone words → AreNot (suc n) words
not_some n words none [] is many = absurd (omega (arith, many))
not_some n words none (o ∷ os) is many = none o os is

pub not_more : (n : ℕ) (o : Given) (words rest : List Text) → options_in words ≡ with_option o (options_in rest) → AreNot n rest → AreNot (suc n) words
not_more n o words rest reads none options is many =
    let k = head_is o (options_in rest) options (sym reads ∙ is) in
    let size : length options ≡ suc (length k.0) = ap length k.2 in
    none k.0 k.1 (omega (arith, size, many))

pub not_end : (word : Text) (rest : List Text) → AreNot 0 (word ∷ rest)
not_end word rest options is none =
    let k = first_of_word word rest options is in
    let size : length options ≡ suc (length k.1) = ap length k.2 in
    absurd (omega (arith, size, none))

pub not_empty : {X : Type 0} (f : X → Text) (xs : List X) → 1 ≤ length xs → AreNot 0 (map f xs)
not_empty f [] some = absurd (omega (arith, some))
not_empty f (x ∷ xs) some = not_end (f x) (map f xs)

-- ---- how often a name is among options

-- a name with its hyphens
abbrev pub dashed : Text → Text
dashed n = 45 ∷ 45 ∷ n

abbrev pub dash : Given → Given
dash o = (dashed o.0, o.1)

abbrev pub bit : Bool → ℕ
bit b = cond b 1 0

abbrev pub count : Text → List Given → ℕ
count name [] = 0
count name (o ∷ os) = bit (bytes_eq o.0 name) + count name os

pub count_append : (name : Text) (xs ys : List Given) → count name (xs ++ ys) ≡ count name xs + count name ys
count_append name [] ys = omega arith
count_append name (x ∷ xs) ys = let rest = count_append name xs ys in omega (arith, rest)

-- how often names of these are
abbrev pub total : List Text → List Given → ℕ
total [] options = 0
total (n ∷ ns) options = count (dashed n) options + total ns options

total_append : (names : List Text) (xs ys : List Given) → total names (xs ++ ys) ≡ total names xs + total names ys
total_append [] xs ys = refl
total_append (n ∷ ns) xs ys =
    let first = count_append (dashed n) xs ys in
    let rest = total_append ns xs ys in
    omega (arith, first, rest)

total_nil : (names : List Text) → total names [] ≡ 0
total_nil [] = refl
total_nil (n ∷ ns) = let rest = total_nil ns in omega (arith, rest)

abbrev pub In : Text → List Text → Type 0
In n [] = ⊥
In n (m ∷ ns) = (m ≡ n) ⊎ In n ns

-- each of the names is there
at_least : (names : List Text) (options : List Given) → ((n : Text) → In n names → 1 ≤ count (dashed n) options) → length names ≤ total names options
at_least [] options f = omega arith
at_least (n ∷ ns) options f =
    let first = f n (inl refl) in
    let rest = at_least ns options (λ m i. f m (inr i)) in
    omega (arith, first, rest)

-- and one of them twice
more_than : (names : List Text) (options : List Given) (n : Text) → In n names → 2 ≤ count (dashed n) options
    → ((m : Text) → In m names → 1 ≤ count (dashed m) options) → suc (length names) ≤ total names options
more_than [] options n i two f = absurd i
more_than (m ∷ ns) options n (inl e) two f =
    let first : 2 ≤ count (dashed m) options = subst (λ k. 2 ≤ count (dashed k) options) (sym e) two in
    let rest = at_least ns options (λ k j. f k (inr j)) in
    omega (arith, first, rest)
more_than (m ∷ ns) options n (inr i) two f =
    let first = f m (inl refl) in
    let rest = more_than ns options n i two (λ k j. f k (inr j)) in
    omega (arith, first, rest)

-- each of the names is there once at most
at_single : (names : List Text) (options : List Given) → ((n : Text) → In n names → count (dashed n) options ≤ 1) → total names options ≤ length names
at_single [] options f = omega arith
at_single (n ∷ ns) options f =
    let first = f n (inl refl) in
    let rest = at_single ns options (λ m i. f m (inr i)) in
    omega (arith, first, rest)

-- no option has two of the names
abbrev pub AreApart : List Text → Type 0
AreApart names = (o : Given) → total names (o ∷ []) ≤ 1

at_most : (names : List Text) → AreApart names → (options : List Given) → total names options ≤ length options
at_most names apart [] = let none = total_nil names in omega (arith, none)
at_most names apart (o ∷ os) =
    let all = total_append names (o ∷ []) os in
    let one = apart o in
    let rest = at_most names apart os in
    omega (arith, all, one, rest)

inside : (names : List Text) (n t : Text) → In n names → 1 ≤ total names ((dashed n, t) ∷ [])
inside [] n t i = absurd i
inside (m ∷ ns) n t (inl e) =
    let hit : bit (bytes_eq (dashed n) (dashed m)) ≡ 1 = ap bit ((bytes_eq-Decides (dashed n) (dashed m)).1 (ap dashed (sym e))) in
    omega (arith, hit)
inside (m ∷ ns) n t (inr i) = let rest = inside ns n t i in omega (arith, rest)

-- ---- the options that a form takes

abbrev pub is_hyphened : Text → Bool
is_hyphened [] = false
is_hyphened (x ∷ xs) = x == 45

-- the text may be a number
abbrev pub begins : Text → Bool
begins [] = false
begins (x ∷ xs) = not (x == 45)

-- as many options as names, and at each name a text that may be a number
pub record Accepts (names : List Text) (options : List Given) : Type 0 where
  pub number : length options ≡ length names
  pub texts : (n : Text) → In n names → (t : Text) × (text_of (dashed n) options ≡ Some t) × (begins t ≡ true)

found_count : (name : Text) (options : List Given) (t : Text) → text_of name options ≡ Some t → 1 ≤ count name options
found_count name [] t e = absurd (cc e)
found_count name (o ∷ os) t e = go (bytes_eq o.0 name) e (found_count name os t)
  where
    go : (b : Bool) → option_map (λ (p : Given). p.1) (cond b (Some o) (find (λ p. bytes_eq p.0 name) os)) ≡ Some t → (text_of name os ≡ Some t → 1 ≤ count name os) → 1 ≤ bit b + count name os
    go true e rest = omega arith
    go false e rest = let less = rest e in omega (arith, less)

all_there : (names : List Text) (options : List Given) → Accepts names options → (n : Text) → In n names → 1 ≤ count (dashed n) options
all_there names options a n i = let k = a.texts n i in found_count (dashed n) options k.0 k.1

-- an option of no name
pub outside : (names : List Text) → AreApart names → (before : List Given) (o : Given) (behind : List Given) → total names (o ∷ []) ≡ 0 → ¬ Accepts names (before ++ o ∷ behind)
outside names apart before o behind none a =
    let least = at_least names (before ++ o ∷ behind) (all_there names (before ++ o ∷ behind) a) in
    let front = at_most names apart before in
    let back = at_most names apart behind in
    let cut = total_append names before (o ∷ behind) in
    let first = total_append names (o ∷ []) behind in
    let size = length-append before (o ∷ behind) in
    let number = a.number in
    absurd (omega (arith, least, front, back, cut, first, size, number, none))

same_name : (n : Text) → bytes_eq (dashed n) (dashed n) ≡ true
same_name n = (bytes_eq-Decides (dashed n) (dashed n)).1 refl

-- an option of a name that is there already
pub repeated : (names : List Text) → AreApart names → (n t : Text) → In n names → (before behind : List Given) → 1 ≤ count (dashed n) before
    → ¬ Accepts names (before ++ (dashed n, t) ∷ behind)
repeated names apart n t i before behind one a =
    let all = count_append (dashed n) before ((dashed n, t) ∷ behind) in
    let hit : bit (bytes_eq (dashed n) (dashed n)) ≡ 1 = ap bit (same_name n) in
    let two : 2 ≤ count (dashed n) (before ++ (dashed n, t) ∷ behind) = omega (arith, all, hit, one) in
    let least = more_than names (before ++ (dashed n, t) ∷ behind) n i two (all_there names (before ++ (dashed n, t) ∷ behind) a) in
    let most = at_most names apart (before ++ (dashed n, t) ∷ behind) in
    let number = a.number in
    absurd (omega (arith, least, most, number))

text_first : (name : Text) (before : List Given) (o : Given) (behind : List Given) → count name before ≡ 0 → bytes_eq o.0 name ≡ true
    → text_of name (before ++ o ∷ behind) ≡ Some o.1
text_first name [] o behind z e = ap (λ b. option_map (λ (p : Given). p.1) (cond b (Some o) (find (λ p. bytes_eq p.0 name) behind))) e
text_first name (x ∷ before) o behind z e = go (bytes_eq x.0 name) z (λ k. text_first name before o behind k e)
  where
    go : (b : Bool) → bit b + count name before ≡ 0 → (count name before ≡ 0 → text_of name (before ++ o ∷ behind) ≡ Some o.1)
        → option_map (λ (p : Given). p.1) (cond b (Some x) (find (λ p. bytes_eq p.0 name) (before ++ o ∷ behind))) ≡ Some o.1
    go true z rest = absurd (omega (arith, z))
    go false z rest = rest (omega (arith, z))

-- an option whose text is no number
pub hyphened : (names : List Text) (n t : Text) → In n names → (before behind : List Given) → count (dashed n) before ≡ 0 → begins t ≡ false
    → ¬ Accepts names (before ++ (dashed n, t) ∷ behind)
hyphened names n t i before behind z h a =
    let k = a.texts n i in
    let is : Some t ≡ Some k.0 = sym (text_first (dashed n) before (dashed n, t) behind z (same_name n)) ∙ k.1 in
    let same : t ≡ k.0 = cc is in
    absurd (true≢false (sym k.2 ∙ (ap begins (sym same) ∙ h)))

-- a name that isn't there
pub missing : (names : List Text) (options : List Given) (n : Text) → In n names → count (dashed n) options ≡ 0 → ¬ Accepts names options
missing names options n i z a = let one = all_there names options a n i in absurd (omega (arith, one, z))

-- each option has one of the names, and none has that of another
pub record Fine (names : List Text) (options : List Given) : Type 0 where
  pub whole : total names options ≡ length options
  pub single : (n : Text) → In n names → count (dashed n) options ≤ 1

pub fine_nil : (names : List Text) → Fine names []
fine_nil names = record { whole = total_nil names; single = λ n i. omega arith }

pub fine_more : (names : List Text) → AreApart names → (xs : List Given) (n t : Text) → In n names → count (dashed n) xs ≡ 0 → Fine names xs → Fine names (xs ++ (dashed n, t) ∷ [])
fine_more names apart xs n t i z f = record { whole = all; single = λ m j. one m (bytes_eq (dashed n) (dashed m)) refl j }
  where
    all : total names (xs ++ (dashed n, t) ∷ []) ≡ length (xs ++ (dashed n, t) ∷ [])
    all =
        let cut = total_append names xs ((dashed n, t) ∷ []) in
        let least = inside names n t i in
        let most = apart (dashed n, t) in
        let size = length-append xs ((dashed n, t) ∷ []) in
        let whole = f.whole in
        omega (arith, cut, least, most, size, whole)

    one : (m : Text) (b : Bool) → bytes_eq (dashed n) (dashed m) ≡ b → In m names → count (dashed m) (xs ++ (dashed n, t) ∷ []) ≤ 1
    one m true h j =
        let same : dashed n ≡ dashed m = (bytes_eq-Decides (dashed n) (dashed m)).0 h in
        let none : count (dashed m) xs ≡ 0 = ap (λ k. count k xs) (sym same) ∙ z in
        let cut = count_append (dashed m) xs ((dashed n, t) ∷ []) in
        let hit : bit (bytes_eq (dashed n) (dashed m)) ≡ 1 = ap bit h in
        omega (arith, none, cut, hit)
    one m false h j =
        let few = f.single m j in
        let cut = count_append (dashed m) xs ((dashed n, t) ∷ []) in
        let hit : bit (bytes_eq (dashed n) (dashed m)) ≡ 0 = ap bit h in
        omega (arith, few, cut, hit)

-- where all names are there, they are all
pub full : (names : List Text) (options : List Given) → Fine names options → ((n : Text) → In n names → 1 ≤ count (dashed n) options) → length options ≡ length names
full names options f there =
    let least = at_least names options there in
    let most = at_single names options f.single in
    let whole = f.whole in
    omega (arith, least, most, whole)
