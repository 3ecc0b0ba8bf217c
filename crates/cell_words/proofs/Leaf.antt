-- What the parser makes of the words behind a form's word, however many they are.
use Rattle.std.proofs.Common.{◌≡◌, ◌∙◌, ◌⊎◌, ◌&&◌, ◌||◌, ◌==◌, ◌+◌, ◌≤◌, ◌++◌, refl, sym, ap, ap₂, subst, inl, inr, ℕ, suc, Bool, true, false, cond, codes, List, [], ◌∷◌, Option, Some, None, option_map, append-nil, length, map, not, take, arith}
use Rattle.std.specs.Prelude.{find, fold, nat_lt, option_and_then, slice_get}
use Rattle.std.specs.List.{before_first, list_any, position_or_len}
use Rattle.std.specs.Option.{option_map_or}
use Rattle.std.specs.Str.{bytes_eq}
use Rattle.std.proofs.lemmas.Slice.Eq.{bytes_eq-Decides}
use Rattle.clap.proofs.OnLiterals.{clap_on_literals}
use Rattle.clap.specs.Facts.{explicit_source}
use Rattle.clap.specs.Lexer.{long_of, short_of, strip_byte, long_of_rest, short_of_rest}
use Rattle.clap.specs.Kinds.{Kinds, or_else}
use Rattle.clap.specs.Takes.{is_given}
use Rattle.clap.specs.Walk.{Held, Names, Row, Rule, Step, Waiting, Walk, after_flag, after_step, arg_by_id, arg_by_index, arg_by_long, at_row, default_rows, first_of, has_row, idle, long_met, long_or_other, long_word, more_values, next, nothing_held, option, option_word, plain_word, reacted, reading_by, rows_after, settled, short_or_plain, subcommand_met, subcommand_or_other, trailing, used, used_by_id, walk_from, walked, with_default, with_values, without, word_met}
use Rattle.clap.specs.Simple.{Shape, filled, new_shape}
use Rattle.clap.specs.Faults.{bundle_fault, check_fault, defaults_fault, flag_word_fault, given_default_fault, level_fault, long_fault, other_fault, positional_fault, react_fault, settle_fault, step_fault, stray_fault, turn_fault, use_fault, walk_fault, word_fault}
use Rattle.clap.specs.declared.error.kind.ErrorKind.{ErrorKind}
use Rattle.clap.specs.declared.error.kind.ErrorKind.TheVariants as kind
use Rattle.clap.specs.declared.parser.matches.ValueSource.TheVariants.{CommandLine}
use Rattle.cell_words.specs.Parser.{wanted}
use Rattle.cell_words.specs.Words.{Given, Text, is_equals, is_joined, joined, options_in, text_of, with_option}
use Rattle.cell_words.proofs.Counts.{Accepts, AreApart, Fine, In, begins, bit, count, dash, dashed, fine_more, fine_nil, first_of_word, full, head_is, hyphened, is_hyphened, joined_first, lone_none, missing, outside, parted_first, repeated, total}

-- ---- of lists of kinds

pub else_left : (x y : Kinds) → ¬ (x ≡ []) → ¬ (or_else x y ≡ [])
else_left [] y n e = n refl
else_left (k ∷ ks) y n e = cc

pub not_nil : (x : Kinds) (k : ErrorKind) → x ≡ k ∷ [] → ¬ (x ≡ [])
not_nil x k e z = let bad : (k ∷ []) ≡ [] = sym e ∙ z in cc

-- ---- a word with no hyphen at its head

plain_long : (x : ℕ) (xs : Text) → (x == 45) ≡ false → long_of (x ∷ xs) ≡ None
plain_long x xs e = ap (λ b. option_and_then long_of_rest (option_and_then (strip_byte 45) (cond b (Some xs) None))) e

plain_short : (x : ℕ) (xs : Text) → (x == 45) ≡ false → short_of (x ∷ xs) ≡ None
plain_short x xs e = ap (λ b. option_and_then short_of_rest (cond b (Some xs) None)) e

plain_dashes : (x : ℕ) (xs : Text) → (x == 45) ≡ false → bytes_eq (x ∷ xs) (45 ∷ 45 ∷ []) ≡ false
plain_dashes x xs e = ap (λ b. b && bytes_eq xs (45 ∷ [])) e

plain_met : (c : List Rule) (names : Names) (waiting : Waiting) (p : ℕ) (x : ℕ) (xs : Text) (h : Held) → (x == 45) ≡ false
    → subcommand_met names waiting (x ∷ xs) ≡ None → word_met c names false waiting p (x ∷ xs) h ≡ plain_word c waiting (x ∷ xs) h
plain_met c names waiting p x xs h e none =
    ap (λ o. subcommand_or_other c o waiting p (x ∷ xs) h) none
    ∙ (ap (λ b. cond b (h, trailing p) (long_or_other c waiting (x ∷ xs) (long_of (x ∷ xs)) h)) (plain_dashes x xs e)
    ∙ (ap (λ o. long_or_other c waiting (x ∷ xs) o h) (plain_long x xs e)
    ∙ ap (λ o. short_or_plain c waiting (x ∷ xs) o h) (plain_short x xs e)))

plain_fault : (s : Shape) (names : Names) (waiting : Waiting) (x : ℕ) (xs : Text) (h : Held) → (x == 45) ≡ false
    → subcommand_met names waiting (x ∷ xs) ≡ None → word_fault s names false waiting (x ∷ xs) h ≡ []
plain_fault s names waiting x xs h e none =
    ap (λ o. other_fault s o (x ∷ xs) h) none
    ∙ (ap (λ b. cond b [] (flag_word_fault s.rules s.args_override_self (long_of (x ∷ xs)) (x ∷ xs) h)) (plain_dashes x xs e)
    ∙ (ap (λ o. flag_word_fault s.rules s.args_override_self o (x ∷ xs) h) (plain_long x xs e)
    ∙ ap (λ o. option_map_or (λ flags. bundle_fault s.rules s.args_override_self flags h) o []) (plain_short x xs e)))

-- it is astray where nothing waits for it
pub stray : (s : Shape) (names : Names) (h : Held) (x : ℕ) (xs : Text) → (x == 45) ≡ false
    → subcommand_met names idle (x ∷ xs) ≡ None → arg_by_index s.rules 1 ≡ None
    → turn_fault s names (walk_from h) (x ∷ xs) ≡ stray_fault s
stray s names h x xs e none no_place =
    ap₂ (λ a (m : Held × Step). or_else a (step_fault s 1 m.0 m.1)) (plain_fault s names idle x xs h e none) (plain_met s.rules names idle 1 x xs h e none)
    ∙ ap (λ o. option_map_or (λ a. positional_fault s.rules s.args_override_self a h) o (stray_fault s)) no_place

-- ---- the words that the parser is asked

-- the names of the options
pub data Name : Text → Type 0 where
  seed : Name (codes "seed")
  clients : Name (codes "clients")
  rounds : Name (codes "rounds")
  workers : Name (codes "workers")

pub data Word : Text → Type 0 where
  plain : (x : ℕ) (xs : Text) → (x == 45) ≡ false → Word (x ∷ xs)
  bare : (n : Text) → Name n → Word (dashed n)
  valued : (n text : Text) → Name n → Word (dashed n ++ 61 ∷ text)

pub data Kept : List Text → Type 0 where
  no_word : Kept []
  and_word : (word : Text) (words : List Text) → Word word → Kept words → Kept (word ∷ words)

-- the word is an option of this name, with this value or none
abbrev pub IsFlag : Text → Text → Option Text → Type 0
IsFlag word n v = (bytes_eq word (45 ∷ 45 ∷ []) ≡ false) × (long_of word ≡ Some (n, v))

pub bare_flag : (n : Text) → Name n → IsFlag (dashed n) n None
bare_flag n seed = (refl, refl)
bare_flag n clients = (refl, refl)
bare_flag n rounds = (refl, refl)
bare_flag n workers = (refl, refl)

pub valued_flag : (n text : Text) → Name n → IsFlag (dashed n ++ 61 ∷ text) n (Some text)
valued_flag n text seed = (refl, refl)
valued_flag n text clients = (refl, refl)
valued_flag n text rounds = (refl, refl)
valued_flag n text workers = (refl, refl)

bare_parted : (n : Text) → Name n → is_joined (dashed n) ≡ false
bare_parted n seed = refl
bare_parted n clients = refl
bare_parted n rounds = refl
bare_parted n workers = refl

valued_joined : (n text : Text) → Name n → (is_joined (dashed n ++ 61 ∷ text) ≡ true) × (joined (dashed n ++ 61 ∷ text) ≡ (dashed n, text))
valued_joined n text seed = (refl, refl)
valued_joined n text clients = (refl, refl)
valued_joined n text rounds = (refl, refl)
valued_joined n text workers = (refl, refl)

pub valued_option : (n text : Text) → Name n → (rest : List Text) → options_in ((dashed n ++ 61 ∷ text) ∷ rest) ≡ with_option (dashed n, text) (options_in rest)
valued_option n text m rest =
    let k = valued_joined n text m in
    joined_first (dashed n ++ 61 ∷ text) rest k.0 ∙ ap (λ o. with_option o (options_in rest)) k.1

-- ---- a form

-- the rule of an option as the parser fills it in
abbrev pub rule : Text → Rule
rule n = filled (wanted n)

abbrev pub rules : List Text → List Rule
rules names = map rule names

abbrev pub leaf : Text → List Text → Shape
leaf word names = record (new_shape word) { rules = rules names; no_binary_name = true; disable_help_flag = true; disable_help_subcommand = true; is_built = true }

-- the form has the option, or doesn't
pub data Status (names : List Text) (n : Text) : Type 0 where
  known : In n names → arg_by_long (rules names) n ≡ Some (rule n) → arg_by_id (rules names) n ≡ Some (rule n) → Status names n
  unknown : arg_by_long (rules names) n ≡ None → ((t : Text) → total names ((dashed n, t) ∷ []) ≡ 0) → Status names n

pub record Form (names : List Text) : Type 0 where
  pub apart : AreApart names
  pub status : (n : Text) → Name n → Status names n
  pub no_place : arg_by_index (rules names) 1 ≡ None

-- ---- what is held

abbrev pub row : Given → Row
row o = record { id = o.0; values = o.1 ∷ []; count = None; source = Some CommandLine; reading = reading_by (rule o.0) }

abbrev pub rows_in : List Given → List Row
rows_in opts = map row opts

abbrev held : List Given → Option (Text × List Text) → Held
held opts pending = record { rows = rows_in opts; pending = pending; skip = 0 }

-- a name is among the rows as often as among the options
has_or_not : (n : Text) (opts : List Given)
    → ((has_row n (rows_in opts) ≡ false) × (count (dashed n) (map dash opts) ≡ 0)) ⊎ ((has_row n (rows_in opts) ≡ true) × (1 ≤ count (dashed n) (map dash opts)))
has_or_not n [] = inl (refl, refl)
has_or_not n (o ∷ os) = go (bytes_eq o.0 n) (has_or_not n os)
  where
    go : (b : Bool) → ((has_row n (rows_in os) ≡ false) × (count (dashed n) (map dash os) ≡ 0)) ⊎ ((has_row n (rows_in os) ≡ true) × (1 ≤ count (dashed n) (map dash os)))
        → (((b || has_row n (rows_in os)) ≡ false) × ((bit b + count (dashed n) (map dash os)) ≡ 0))
        ⊎ (((b || has_row n (rows_in os)) ≡ true) × (1 ≤ (bit b + count (dashed n) (map dash os))))
    go true r = inr (refl, omega arith)
    go false (inl k) = let none = k.1 in inl (k.0, omega (arith, none))
    go false (inr k) = let some = k.1 in inr (k.0, omega (arith, some))

given_or_not : (n : Text) (opts : List Given)
    → ((is_given n (rows_in opts) ≡ false) × (count (dashed n) (map dash opts) ≡ 0)) ⊎ ((is_given n (rows_in opts) ≡ true) × (1 ≤ count (dashed n) (map dash opts)))
given_or_not n [] = inl (refl, refl)
given_or_not n (o ∷ os) = go (bytes_eq o.0 n) (given_or_not n os)
  where
    go : (b : Bool) → ((is_given n (rows_in os) ≡ false) × (count (dashed n) (map dash os) ≡ 0)) ⊎ ((is_given n (rows_in os) ≡ true) × (1 ≤ count (dashed n) (map dash os)))
        → ((option_map_or (λ (r : Row). explicit_source r.source) (cond b (Some (row o)) (find (λ (r : Row). bytes_eq r.id n) (rows_in os))) false ≡ false) × ((bit b + count (dashed n) (map dash os)) ≡ 0))
        ⊎ ((option_map_or (λ (r : Row). explicit_source r.source) (cond b (Some (row o)) (find (λ (r : Row). bytes_eq r.id n) (rows_in os))) false ≡ true) × (1 ≤ (bit b + count (dashed n) (map dash os))))
    go true r = inr (refl, omega arith)
    go false (inl k) = let none = k.1 in inl (k.0, omega (arith, none))
    go false (inr k) = let some = k.1 in inr (k.0, omega (arith, some))

-- the text at a name
pub first_rows : (n : Text) (opts : List Given) → first_of n (rows_in opts) ≡ text_of (dashed n) (map dash opts)
first_rows n [] = refl
first_rows n (o ∷ os) = go (bytes_eq o.0 n) (first_rows n os)
  where
    go : (b : Bool) → first_of n (rows_in os) ≡ text_of (dashed n) (map dash os)
        → option_and_then (λ (r : Row). slice_get r.values 0) (cond b (Some (row o)) (find (λ (r : Row). bytes_eq r.id n) (rows_in os)))
        ≡ option_map (λ (p : Given). p.1) (cond b (Some (dash o)) (find (λ (p : Given). bytes_eq p.0 (dashed n)) (map dash os)))
    go true rest = refl
    go false rest = rest

-- ---- a use of an option

at_missing : (id : Text) (change : Row → List Row) (none rows : List Row) → has_row id rows ≡ false → at_row id change none rows ≡ rows ++ none
at_missing id change none [] e = refl
at_missing id change none (r ∷ rs) e = go (bytes_eq r.id id) e (at_missing id change none rs)
  where
    go : (b : Bool) → (b || has_row id rs) ≡ false → (has_row id rs ≡ false → at_row id change none rs ≡ rs ++ none) → cond b (change r ++ rs) (r ∷ at_row id change none rs) ≡ r ∷ (rs ++ none)
    go true e rest = absurd (cc e)
    go false e rest = ap (λ l. r ∷ l) (rest e)

join : (xs : List Given) (y : Given) (ys : List Given) → (xs ++ y ∷ []) ++ ys ≡ xs ++ (y ∷ ys)
join [] y ys = refl
join (x ∷ xs) y ys = ap (λ l. x ∷ l) (join xs y ys)

seam : (xs : List Given) (y : Given) (ys : List Given) → map dash (xs ++ y ∷ []) ++ ys ≡ map dash xs ++ (dash y ∷ ys)
seam [] y ys = refl
seam (x ∷ xs) y ys = ap (λ l. dash x ∷ l) (seam xs y ys)

dash_last : (xs : List Given) (y : Given) → map dash (xs ++ y ∷ []) ≡ map dash xs ++ dash y ∷ []
dash_last [] y = refl
dash_last (x ∷ xs) y = ap (λ l. dash x ∷ l) (dash_last xs y)

rows_last : (xs : List Given) (y : Given) → rows_in (xs ++ y ∷ []) ≡ rows_in xs ++ row y ∷ []
rows_last [] y = refl
rows_last (x ∷ xs) y = ap (λ l. row x ∷ l) (rows_last xs y)

used_new : (n t : Text) (opts : List Given) → has_row n (rows_in opts) ≡ false → used (rule n) (t ∷ []) (rows_in opts) ≡ rows_in (opts ++ (n, t) ∷ [])
used_new n t opts e =
    let same : without n (rows_in opts) ≡ rows_in opts = at_missing n (λ _. []) [] (rows_in opts) e ∙ append-nil (rows_in opts) in
    ap (with_values n (reading_by (rule n)) CommandLine (t ∷ [])) same
    ∙ (at_missing n (more_values CommandLine (t ∷ [])) (row (n, t) ∷ []) (rows_in opts) e ∙ sym (rows_last opts (n, t)))

use_new : (n t : Text) (rows : List Row) → has_row n rows ≡ false → use_fault false (rule n) (t ∷ []) rows ≡ []
use_new n t rows e = ap (λ b. or_else (cond (b && true) (kind.ArgumentConflict ∷ []) []) []) e

use_again : (n t : Text) (rows : List Row) → has_row n rows ≡ true → use_fault false (rule n) (t ∷ []) rows ≡ kind.ArgumentConflict ∷ []
use_again n t rows e = ap (λ b. or_else (cond (b && true) (kind.ArgumentConflict ∷ []) []) []) e

take_next : (x n : ℕ) (xs : Text) → take (1 + n) (x ∷ xs) ≡ x ∷ take n xs
take_next x n xs =
    let one : (1 + n) ≡ suc n = omega arith in
    ap (λ k. take k (x ∷ xs)) one

-- no name of a form
plain_outside : (names : List Text) (o : Given) → is_hyphened o.0 ≡ false → total names (o ∷ []) ≡ 0
plain_outside [] o e = refl
plain_outside (n ∷ ns) o e =
    let hit : bit (bytes_eq o.0 (dashed n)) ≡ 0 = ap bit (by o.0 e) in
    let rest = plain_outside ns o e in
    omega (arith, hit, rest)
  where
    by : (name : Text) → is_hyphened name ≡ false → bytes_eq name (dashed n) ≡ false
    by [] e = refl
    by (x ∷ xs) e = ap (λ b. b && bytes_eq xs (45 ∷ n)) e

-- ---- one word

same_text : (n : Text) → bytes_eq n n ≡ true
same_text n = (bytes_eq-Decides n n).1 refl

abbrev at : Waiting → Held → Walk
at waiting h = record (walk_from h) { waiting = waiting }

module _ (word : Text) (names : List Text) (form : Form names) where
  abbrev met_fault : Kinds → Held × Step → Kinds
  met_fault fault met = or_else fault (step_fault (leaf word names) 1 met.0 met.1)

  abbrev moved : Text → Waiting → Held → Held × Step → Walk
  moved w waiting h met = after_step (rules names) w (at waiting h) met.0 met.1

  flag_met : (w n : Text) (v : Option Text) (waiting : Waiting) (h : Held) → IsFlag w n v → subcommand_met [] waiting w ≡ None
      → word_met (rules names) [] false waiting 1 w h ≡ long_word (rules names) waiting w n v h
  flag_met w n v waiting h flag none =
      ap (λ o. subcommand_or_other (rules names) o waiting 1 w h) none
      ∙ (ap (λ b. cond b (h, trailing 1) (long_or_other (rules names) waiting w (long_of w) h)) flag.0
      ∙ ap (λ o. long_or_other (rules names) waiting w o h) flag.1)

  flag_fault : (w n : Text) (v : Option Text) (waiting : Waiting) (h : Held) → IsFlag w n v → subcommand_met [] waiting w ≡ None
      → word_fault (leaf word names) [] false waiting w h ≡ long_fault (rules names) false (arg_by_long (rules names) n) v h
  flag_fault w n v waiting h flag none =
      ap (λ o. other_fault (leaf word names) o w h) none
      ∙ (ap (λ b. cond b [] (flag_word_fault (rules names) false (long_of w) w h)) flag.0
      ∙ ap (λ o. flag_word_fault (rules names) false o w h) flag.1)

  -- `--name=text`
  joined_step : (w n t : Text) (waiting : Waiting) (h : Held) → IsFlag w n (Some t) → subcommand_met [] waiting w ≡ None → arg_by_long (rules names) n ≡ Some (rule n)
      → (turn_fault (leaf word names) [] (at waiting h) w ≡ or_else (react_fault (rules names) false (rule n) (t ∷ []) h) [])
      × (walked (rules names) [] (at waiting h) w ≡ walk_from (reacted (rules names) (rule n) (t ∷ []) h))
  unfolding clap_on_literals
  joined_step w n t waiting h flag none is =
      let fault = flag_fault w n (Some t) waiting h flag none ∙ ap (λ a. long_fault (rules names) false a (Some t) h) is in
      let met = flag_met w n (Some t) waiting h flag none
      ∙ ap (λ a. after_flag (rules names) waiting w (long_met (rules names) a (Some t) h).0 (long_met (rules names) a (Some t) h).1) is in
      (ap₂ met_fault fault met, ap (moved w waiting h) met)

  -- `--name`
  parted_step : (w n : Text) (waiting : Waiting) (h : Held) → IsFlag w n None → subcommand_met [] waiting w ≡ None → arg_by_long (rules names) n ≡ Some (rule n)
      → (turn_fault (leaf word names) [] (at waiting h) w ≡ or_else (settle_fault (rules names) false h) [])
      × (walked (rules names) [] (at waiting h) w ≡ at (option n) (record (settled (rules names) h) { pending = Some (n, []) }))
  unfolding clap_on_literals
  parted_step w n waiting h flag none is =
      let fault = flag_fault w n None waiting h flag none ∙ ap (λ a. long_fault (rules names) false a None h) is in
      let met = flag_met w n None waiting h flag none
      ∙ ap (λ a. after_flag (rules names) waiting w (long_met (rules names) a None h).0 (long_met (rules names) a None h).1) is in
      (ap₂ met_fault fault met, ap (moved w waiting h) met)

  -- an option that the form doesn't have
  unknown_step : (w n : Text) (v : Option Text) (waiting : Waiting) (h : Held) → IsFlag w n v → subcommand_met [] waiting w ≡ None → arg_by_long (rules names) n ≡ None
      → turn_fault (leaf word names) [] (at waiting h) w ≡ kind.UnknownArgument ∷ []
  unfolding clap_on_literals
  unknown_step w n v waiting h flag none is =
      let fault = flag_fault w n v waiting h flag none ∙ ap (λ a. long_fault (rules names) false a v h) is in
      ap (λ f. met_fault f (word_met (rules names) [] false waiting 1 w h)) fault

  -- the text of an option that waits for it
  text_step : (n : Text) (x : ℕ) (xs : Text) (opts : List Given) → (x == 45) ≡ false → arg_by_id (rules names) n ≡ Some (rule n)
      → (turn_fault (leaf word names) [] (at (option n) (held opts (Some (n, [])))) (x ∷ xs) ≡ [])
      × (walked (rules names) [] (at (option n) (held opts (Some (n, [])))) (x ∷ xs) ≡ walk_from (held opts (Some (n, (x ∷ xs) ∷ []))))
  unfolding clap_on_literals
  text_step n x xs opts e is =
      let before = held opts (Some (n, [])) in
      let after = held opts (Some (n, (x ∷ xs) ∷ [])) in
      let fault = plain_fault (leaf word names) [] (option n) x xs before e refl in
      let met = plain_met (rules names) [] (option n) 1 x xs before e refl
      ∙ (ap (λ (a : Option Rule). ((option_word a n (x ∷ xs) before).0, next (option_word a n (x ∷ xs) before).1)) is
      ∙ ap (λ b. (after, next (cond (nat_lt (cond b 1 0) 1) (option n) idle))) (same_text n)) in
      (ap₂ met_fault fault met, ap (moved (x ∷ xs) (option n) before) met)

  -- ---- all words

  abbrev end_of : Walk → List Text → Held
  end_of w words = (fold (walked (rules names) []) w words).held

  abbrev Passes : Walk → List Text → Type 0
  Passes w words = (walk_fault (leaf word names) [] w words ≡ []) × (settle_fault (rules names) false (end_of w words) ≡ [])

  -- the words pass, and what is held then is what was held with the options that they are
  abbrev Good : Walk → List Text → List Given → Type 0
  Good w words opts = (more : List Given) × (options_in words ≡ Some (map dash more)) × Passes w words
      × ((settled (rules names) (end_of w words)).rows ≡ rows_in (opts ++ more)) × Fine names (map dash (opts ++ more))

  -- they don't pass, and with their options the form accepts none
  abbrev Bad : Walk → List Text → List Given → Type 0
  Bad w words opts = (¬ Passes w words) × ((options : List Given) → options_in words ≡ Some options → ¬ Accepts names (map dash opts ++ options))

  abbrev Walks : Walk → List Text → List Given → Type 0
  Walks w words opts = Good w words opts ⊎ Bad w words opts

  -- what is held is these options, the last of them perhaps not yet settled
  abbrev Holds : Held → List Given → Type 0
  Holds h opts = (settle_fault (rules names) false h ≡ []) × (settled (rules names) h ≡ held opts None) × Fine names (map dash opts)

  stops : (w : Walk) (first : Text) (rest : List Text) → ¬ (turn_fault (leaf word names) [] w first ≡ []) → ¬ Passes w (first ∷ rest)
  unfolding clap_on_literals
  stops w first rest n p = else_left (turn_fault (leaf word names) [] w first) (walk_fault (leaf word names) [] (walked (rules names) [] w first) rest) n p.0

  rejected : (opts : List Given) (words rest : List Text) (o : Given) → options_in words ≡ with_option o (options_in rest)
      → ((more : List Given) → ¬ Accepts names (map dash opts ++ o ∷ more)) → (options : List Given) → options_in words ≡ Some options → ¬ Accepts names (map dash opts ++ options)
  rejected opts words rest o reads f options is =
      let k = head_is o (options_in rest) options (sym reads ∙ is) in
      subst (λ l. ¬ Accepts names (map dash opts ++ l)) (sym k.2) (f k.0)

  -- the words after an option that is held go on as all
  carry : (opts : List Given) (n t : Text) (w v : Walk) (words rest : List Text) → (Passes v rest → Passes w words) → (Passes w words → Passes v rest)
      → (settled (rules names) (end_of w words)).rows ≡ (settled (rules names) (end_of v rest)).rows → options_in words ≡ with_option (dashed n, t) (options_in rest)
      → Walks v rest (opts ++ (n, t) ∷ []) → Walks w words opts
  carry opts n t w v words rest on back same reads (inl g) = inl (
    (n, t) ∷ g.0,
    reads ∙ ap (with_option (dashed n, t)) g.1,
    on g.2,
    same ∙ (g.3 ∙ ap rows_in (join opts (n, t) g.0)),
    subst (λ l. Fine names (map dash l)) (join opts (n, t) g.0) g.4,
  )
  carry opts n t w v words rest on back same reads (inr b) = inr (
    (λ p. b.0 (back p)),
    λ options is.
        let k = head_is (dashed n, t) (options_in rest) options (sym reads ∙ is) in
        subst (λ l. ¬ Accepts names l) (seam opts (n, t) k.0 ∙ ap (λ l. map dash opts ++ l) (sym k.2)) (b.1 k.0 k.1),
  )

  -- one word on, of an option that is held
  step_on : (w v : Walk) (first : Text) (rest : List Text) → turn_fault (leaf word names) [] w first ≡ [] → walked (rules names) [] w first ≡ v
      → (walk_fault (leaf word names) [] w (first ∷ rest) ≡ walk_fault (leaf word names) [] v rest) × (end_of w (first ∷ rest) ≡ end_of v rest)
  unfolding clap_on_literals
  step_on w v first rest none is =
      (ap₂ (λ f u. or_else f (walk_fault (leaf word names) [] u rest)) none is, ap (λ u. end_of u rest) is)

  -- where what is held can't be settled, no word passes
  bare_stops : (m : Text) → Name m → (waiting : Waiting) (h : Held) → subcommand_met [] waiting (dashed m) ≡ None → ¬ (settle_fault (rules names) false h ≡ [])
      → ¬ (turn_fault (leaf word names) [] (at waiting h) (dashed m) ≡ [])
  bare_stops m j waiting h none n = by (form.status m j)
    where
      by : Status names m → ¬ (turn_fault (leaf word names) [] (at waiting h) (dashed m) ≡ [])
      by (known i long id) = λ z. else_left (settle_fault (rules names) false h) [] n (sym (parted_step (dashed m) m waiting h (bare_flag m j) none long).0 ∙ z)
      by (unknown lacks_it out) = not_nil _ kind.UnknownArgument (unknown_step (dashed m) m None waiting h (bare_flag m j) none lacks_it)

  valued_stops : (m t : Text) → Name m → (waiting : Waiting) (h : Held) → subcommand_met [] waiting (dashed m ++ 61 ∷ t) ≡ None → ¬ (settle_fault (rules names) false h ≡ [])
      → ¬ (turn_fault (leaf word names) [] (at waiting h) (dashed m ++ 61 ∷ t) ≡ [])
  valued_stops m t j waiting h none n = by (form.status m j)
    where
      by : Status names m → ¬ (turn_fault (leaf word names) [] (at waiting h) (dashed m ++ 61 ∷ t) ≡ [])
      by (known i long id) = λ z. else_left (react_fault (rules names) false (rule m) (t ∷ []) h) []
          (else_left (settle_fault (rules names) false h) (use_fault false (rule m) (t ∷ []) (settled (rules names) h).rows) n)
          (sym (joined_step (dashed m ++ 61 ∷ t) m t waiting h (valued_flag m t j) none long).0 ∙ z)
      by (unknown lacks_it out) = not_nil _ kind.UnknownArgument (unknown_step (dashed m ++ 61 ∷ t) m (Some t) waiting h (valued_flag m t j) none lacks_it)

  unsettled : (words : List Text) → Kept words → (h : Held) → ¬ (settle_fault (rules names) false h ≡ []) → ¬ Passes (walk_from h) words
  unsettled words no_word h n p = n p.1
  unsettled words (and_word first rest k ks) h n p = stops (walk_from h) first rest (by first k) p
    where
      by : (w : Text) → Word w → ¬ (turn_fault (leaf word names) [] (walk_from h) w ≡ [])
      by w (plain x xs e) = not_nil _ kind.UnknownArgument (stray (leaf word names) [] h x xs e refl form.no_place)
      by w (bare m j) = bare_stops m j idle h refl n
      by w (valued m t j) = valued_stops m t j idle h refl n

  -- an option that waits for its text can't be settled
  open_stays : (n : Text) (opts : List Given) → arg_by_id (rules names) n ≡ Some (rule n) → ¬ (settle_fault (rules names) false (held opts (Some (n, []))) ≡ [])
  open_stays n opts is = not_nil _ kind.InvalidValue (ap (λ a. option_map_or (λ r. use_fault false r [] (rows_in opts)) a []) is)

  -- an option with its text is settled, unless its name is there already
  settles : (n t : Text) (opts : List Given) → arg_by_id (rules names) n ≡ Some (rule n) → has_row n (rows_in opts) ≡ false
      → (settle_fault (rules names) false (held opts (Some (n, t ∷ []))) ≡ []) × (settled (rules names) (held opts (Some (n, t ∷ []))) ≡ held (opts ++ (n, t) ∷ []) None)
  settles n t opts is e = (
    ap (λ a. option_map_or (λ r. use_fault false r (t ∷ []) (rows_in opts)) a []) is ∙ use_new n t (rows_in opts) e,
    ap (λ rows. record (held opts None) { rows = rows }) (ap (λ a. used_by_id a (t ∷ []) (rows_in opts)) is ∙ used_new n t opts e),
  )

  settles_not : (n t : Text) (opts : List Given) → arg_by_id (rules names) n ≡ Some (rule n) → has_row n (rows_in opts) ≡ true
      → ¬ (settle_fault (rules names) false (held opts (Some (n, t ∷ []))) ≡ [])
  settles_not n t opts is e = not_nil _ kind.ArgumentConflict (ap (λ a. option_map_or (λ r. use_fault false r (t ∷ []) (rows_in opts)) a []) is ∙ use_again n t (rows_in opts) e)

  fine_last : (opts : List Given) (n t : Text) → In n names → count (dashed n) (map dash opts) ≡ 0 → Fine names (map dash opts) → Fine names (map dash (opts ++ (n, t) ∷ []))
  fine_last opts n t i z f = subst (Fine names) (sym (dash_last opts (n, t))) (fine_more names form.apart (map dash opts) n t i z f)

  again : (opts : List Given) (n t : Text) → In n names → 1 ≤ count (dashed n) (map dash opts) → (more : List Given) → ¬ Accepts names (map dash opts ++ (dashed n, t) ∷ more)
  again opts n t i one more = repeated names form.apart n t i (map dash opts) more one

  -- ---- from a word that isn't the text of an option

  plain_walks : (x : ℕ) (xs : Text) (rest : List Text) (h : Held) (opts : List Given) → (x == 45) ≡ false → Walks (walk_from h) ((x ∷ xs) ∷ rest) opts
  plain_walks x xs rest h opts e = inr (
    stops (walk_from h) (x ∷ xs) rest (not_nil _ kind.UnknownArgument (stray (leaf word names) [] h x xs e refl form.no_place)),
    λ options is.
        let k = first_of_word (x ∷ xs) rest options is in
        subst (λ l. ¬ Accepts names (map dash opts ++ l)) (sym k.2) (outside names form.apart (map dash opts) k.0 k.1 (plain_outside names k.0 (of_word k.0.0 k.3))),
  )
    where
      of_word : (name : Text) → (name ≡ x ∷ xs) ⊎ (name ≡ before_first is_equals (x ∷ xs)) → is_hyphened name ≡ false
      of_word name (inl is) = ap is_hyphened is ∙ e
      of_word name (inr is) = ap is_hyphened is ∙ go (is_equals x)
        where
          go : (b : Bool) → is_hyphened (take (cond (not b) (1 + position_or_len is_equals xs) 0) (x ∷ xs)) ≡ false
          go true = refl
          go false = ap is_hyphened (take_next x (position_or_len is_equals xs) xs) ∙ e

  valued_walks : (n t : Text) → Name n → (rest : List Text) → ((h : Held) (opts : List Given) → Holds h opts → Walks (walk_from h) rest opts) → Status names n
      → (h : Held) (opts : List Given) → Holds h opts → Walks (walk_from h) ((dashed n ++ 61 ∷ t) ∷ rest) opts
  valued_walks n t m rest go (unknown lacks_it out) h opts a = inr (
    stops (walk_from h) (dashed n ++ 61 ∷ t) rest (not_nil _ kind.UnknownArgument (unknown_step (dashed n ++ 61 ∷ t) n (Some t) idle h (valued_flag n t m) refl lacks_it)),
    rejected opts ((dashed n ++ 61 ∷ t) ∷ rest) rest (dashed n, t) (valued_option n t m rest) (λ more. outside names form.apart (map dash opts) (dashed n, t) more (out t)),
  )
  valued_walks n t m rest go (known i long id) h opts a = by (has_or_not n opts)
    where
      step : (turn_fault (leaf word names) [] (walk_from h) (dashed n ++ 61 ∷ t) ≡ or_else (react_fault (rules names) false (rule n) (t ∷ []) h) [])
          × (walked (rules names) [] (walk_from h) (dashed n ++ 61 ∷ t) ≡ walk_from (reacted (rules names) (rule n) (t ∷ []) h))
      step = joined_step (dashed n ++ 61 ∷ t) n t idle h (valued_flag n t m) refl long

      fault : turn_fault (leaf word names) [] (walk_from h) (dashed n ++ 61 ∷ t) ≡ or_else (use_fault false (rule n) (t ∷ []) (rows_in opts)) []
      fault = step.0 ∙ ap₂ (λ f (k : Held). or_else (or_else f (use_fault false (rule n) (t ∷ []) k.rows)) []) a.0 a.1

      by : ((has_row n (rows_in opts) ≡ false) × (count (dashed n) (map dash opts) ≡ 0)) ⊎ ((has_row n (rows_in opts) ≡ true) × (1 ≤ count (dashed n) (map dash opts)))
          → Walks (walk_from h) ((dashed n ++ 61 ∷ t) ∷ rest) opts
      by (inl new) =
          let none : turn_fault (leaf word names) [] (walk_from h) (dashed n ++ 61 ∷ t) ≡ [] = fault ∙ ap (λ f. or_else f []) (use_new n t (rows_in opts) new.0) in
          let to : walked (rules names) [] (walk_from h) (dashed n ++ 61 ∷ t) ≡ walk_from (held (opts ++ (n, t) ∷ []) None) =
          step.1 ∙ (ap (λ (k : Held). walk_from (record k { rows = used (rule n) (t ∷ []) k.rows })) a.1
          ∙ ap (λ rows. walk_from (record (held opts None) { rows = rows })) (used_new n t opts new.0)) in
          let on = step_on (walk_from h) (walk_from (held (opts ++ (n, t) ∷ []) None)) (dashed n ++ 61 ∷ t) rest none to in
          carry opts n t (walk_from h) (walk_from (held (opts ++ (n, t) ∷ []) None)) ((dashed n ++ 61 ∷ t) ∷ rest) rest
          (λ p. (on.0 ∙ p.0, ap (settle_fault (rules names) false) on.1 ∙ p.1)) (λ p. (sym on.0 ∙ p.0, sym (ap (settle_fault (rules names) false) on.1) ∙ p.1))
          (ap (λ k. (settled (rules names) k).rows) on.1) (valued_option n t m rest)
          (go (held (opts ++ (n, t) ∷ []) None) (opts ++ (n, t) ∷ []) (refl, refl, fine_last opts n t i new.1 a.2))
      by (inr old) = inr (
        stops (walk_from h) (dashed n ++ 61 ∷ t) rest (not_nil _ kind.ArgumentConflict (fault ∙ ap (λ f. or_else f []) (use_again n t (rows_in opts) old.0))),
        rejected opts ((dashed n ++ 61 ∷ t) ∷ rest) rest (dashed n, t) (valued_option n t m rest) (again opts n t i old.1),
      )

  no_words : (w : Walk) → walk_fault (leaf word names) [] w [] ≡ []
  unfolding clap_on_literals
  no_words w = refl

  -- ---- from an option whose text is the next word

  abbrev opened : List Given → Text → Walk
  opened opts n = at (option n) (held opts (Some (n, [])))

  opens : (n : Text) → Name n → arg_by_long (rules names) n ≡ Some (rule n) → (h : Held) (opts : List Given) → Holds h opts
      → (turn_fault (leaf word names) [] (walk_from h) (dashed n) ≡ []) × (walked (rules names) [] (walk_from h) (dashed n) ≡ opened opts n)
  opens n m long h opts a =
      let step = parted_step (dashed n) n idle h (bare_flag n m) refl long in
      (step.0 ∙ ap (λ f. or_else f []) a.0, step.1 ∙ ap (λ (k : Held). at (option n) (record k { pending = Some (n, []) })) a.1)

  -- it has no text
  ends_open : (n : Text) → Name n → Status names n → (h : Held) (opts : List Given) → Holds h opts → Walks (walk_from h) (dashed n ∷ []) opts
  ends_open n m s h opts a = inr (by s, λ options is. absurd (cc (sym (lone_none (dashed n) (bare_parted n m)) ∙ is)))
    where
      by : Status names n → ¬ Passes (walk_from h) (dashed n ∷ [])
      by (unknown lacks_it out) p = stops (walk_from h) (dashed n) [] (not_nil _ kind.UnknownArgument (unknown_step (dashed n) n None idle h (bare_flag n m) refl lacks_it)) p
      by (known i long id) p =
          let k = opens n m long h opts a in
          let on = step_on (walk_from h) (opened opts n) (dashed n) [] k.0 k.1 in
          open_stays n opts id (sym (ap (settle_fault (rules names) false) on.1) ∙ p.1)

  -- its text is an option
  flag_follows : (n : Text) → Name n → (text : Text) (rest : List Text) → begins text ≡ false → Status names n
      → ((opts : List Given) → arg_by_id (rules names) n ≡ Some (rule n) → ¬ (turn_fault (leaf word names) [] (opened opts n) text ≡ []))
      → (h : Held) (opts : List Given) → Holds h opts → Walks (walk_from h) (dashed n ∷ text ∷ rest) opts
  flag_follows n m text rest hy s n_stops h opts a = inr (pass s, rejected opts (dashed n ∷ text ∷ rest) rest (dashed n, text) (parted_first (dashed n) text rest (bare_parted n m)) (reject s))
    where
      pass : Status names n → ¬ Passes (walk_from h) (dashed n ∷ text ∷ rest)
      pass (unknown lacks_it out) p = stops (walk_from h) (dashed n) (text ∷ rest) (not_nil _ kind.UnknownArgument (unknown_step (dashed n) n None idle h (bare_flag n m) refl lacks_it)) p
      pass (known i long id) p =
          let k = opens n m long h opts a in
          let on = step_on (walk_from h) (opened opts n) (dashed n) (text ∷ rest) k.0 k.1 in
          stops (opened opts n) text rest (n_stops opts id) (sym on.0 ∙ p.0, sym (ap (settle_fault (rules names) false) on.1) ∙ p.1)

      reject : Status names n → (more : List Given) → ¬ Accepts names (map dash opts ++ (dashed n, text) ∷ more)
      reject (unknown lacks_it out) more = outside names form.apart (map dash opts) (dashed n, text) more (out text)
      reject (known i long id) more = by (has_or_not n opts)
        where
          by : ((has_row n (rows_in opts) ≡ false) × (count (dashed n) (map dash opts) ≡ 0)) ⊎ ((has_row n (rows_in opts) ≡ true) × (1 ≤ count (dashed n) (map dash opts)))
              → ¬ Accepts names (map dash opts ++ (dashed n, text) ∷ more)
          by (inl new) = hyphened names n text i (map dash opts) more new.1 hy
          by (inr old) = again opts n text i old.1 more

  -- its text is a plain word
  text_follows : (n : Text) → Name n → (x : ℕ) (xs : Text) (rest : List Text) → (x == 45) ≡ false → Kept rest
      → ((h : Held) (opts : List Given) → Holds h opts → Walks (walk_from h) rest opts) → Status names n
      → (h : Held) (opts : List Given) → Holds h opts → Walks (walk_from h) (dashed n ∷ (x ∷ xs) ∷ rest) opts
  text_follows n m x xs rest e kept go (unknown lacks_it out) h opts a = inr (
    stops (walk_from h) (dashed n) ((x ∷ xs) ∷ rest) (not_nil _ kind.UnknownArgument (unknown_step (dashed n) n None idle h (bare_flag n m) refl lacks_it)),
    rejected opts (dashed n ∷ (x ∷ xs) ∷ rest) rest (dashed n, x ∷ xs) (parted_first (dashed n) (x ∷ xs) rest (bare_parted n m))
        (λ more. outside names form.apart (map dash opts) (dashed n, x ∷ xs) more (out (x ∷ xs))),
  )
  text_follows n m x xs rest e kept go (known i long id) h opts a = by (has_or_not n opts)
    where
      first : (turn_fault (leaf word names) [] (walk_from h) (dashed n) ≡ []) × (walked (rules names) [] (walk_from h) (dashed n) ≡ opened opts n)
      first = opens n m long h opts a

      second : (turn_fault (leaf word names) [] (opened opts n) (x ∷ xs) ≡ []) × (walked (rules names) [] (opened opts n) (x ∷ xs) ≡ walk_from (held opts (Some (n, (x ∷ xs) ∷ []))))
      second = text_step n x xs opts e id

      on : (walk_fault (leaf word names) [] (walk_from h) (dashed n ∷ (x ∷ xs) ∷ rest) ≡ walk_fault (leaf word names) [] (walk_from (held opts (Some (n, (x ∷ xs) ∷ [])))) rest)
          × (end_of (walk_from h) (dashed n ∷ (x ∷ xs) ∷ rest) ≡ end_of (walk_from (held opts (Some (n, (x ∷ xs) ∷ [])))) rest)
      on =
          let one = step_on (walk_from h) (opened opts n) (dashed n) ((x ∷ xs) ∷ rest) first.0 first.1 in
          let two = step_on (opened opts n) (walk_from (held opts (Some (n, (x ∷ xs) ∷ [])))) (x ∷ xs) rest second.0 second.1 in
          (one.0 ∙ two.0, one.1 ∙ two.1)

      back : Passes (walk_from h) (dashed n ∷ (x ∷ xs) ∷ rest) → Passes (walk_from (held opts (Some (n, (x ∷ xs) ∷ [])))) rest
      back p = (sym on.0 ∙ p.0, sym (ap (settle_fault (rules names) false) on.1) ∙ p.1)

      by : ((has_row n (rows_in opts) ≡ false) × (count (dashed n) (map dash opts) ≡ 0)) ⊎ ((has_row n (rows_in opts) ≡ true) × (1 ≤ count (dashed n) (map dash opts)))
          → Walks (walk_from h) (dashed n ∷ (x ∷ xs) ∷ rest) opts
      by (inl new) =
          let k = settles n (x ∷ xs) opts id new.0 in
          carry opts n (x ∷ xs) (walk_from h) (walk_from (held opts (Some (n, (x ∷ xs) ∷ [])))) (dashed n ∷ (x ∷ xs) ∷ rest) rest
          (λ p. (on.0 ∙ p.0, ap (settle_fault (rules names) false) on.1 ∙ p.1)) back
          (ap (λ k. (settled (rules names) k).rows) on.1) (parted_first (dashed n) (x ∷ xs) rest (bare_parted n m))
          (go (held opts (Some (n, (x ∷ xs) ∷ []))) (opts ++ (n, x ∷ xs) ∷ []) (k.0, k.1, fine_last opts n (x ∷ xs) i new.1 a.2))
      by (inr old) = inr (
        λ p. unsettled rest kept (held opts (Some (n, (x ∷ xs) ∷ []))) (settles_not n (x ∷ xs) opts id old.0) (back p),
        rejected opts (dashed n ∷ (x ∷ xs) ∷ rest) rest (dashed n, x ∷ xs) (parted_first (dashed n) (x ∷ xs) rest (bare_parted n m)) (again opts n (x ∷ xs) i old.1),
      )

  -- however many words follow
  pub walks : (words : List Text) → Kept words → (h : Held) (opts : List Given) → Holds h opts → Walks (walk_from h) words opts
  walks words no_word h opts a = inl (
    [],
    refl,
    (no_words (walk_from h), a.0),
    ap (λ (k : Held). k.rows) a.1 ∙ ap rows_in (sym (append-nil opts)),
    subst (λ l. Fine names (map dash l)) (sym (append-nil opts)) a.2,
  )
  walks words (and_word w rest (plain x xs e) ks) h opts a = plain_walks x xs rest h opts e
  walks words (and_word w rest (valued n t m) ks) h opts a = valued_walks n t m rest (λ k os b. walks rest ks k os b) (form.status n m) h opts a
  walks words (and_word w rest (bare n m) no_word) h opts a = ends_open n m (form.status n m) h opts a
  walks words (and_word w rest (bare n m) (and_word text behind (plain x xs e) ks)) h opts a =
      text_follows n m x xs behind e ks (λ k os b. walks behind ks k os b) (form.status n m) h opts a
  walks words (and_word w rest (bare n m) (and_word text behind (bare j l) ks)) h opts a =
      flag_follows n m (dashed j) behind refl (form.status n m) (λ os id. bare_stops j l (option n) (held os (Some (n, []))) refl (open_stays n os id)) h opts a
  walks words (and_word w rest (bare n m) (and_word text behind (valued j t l) ks)) h opts a =
      flag_follows n m (dashed j ++ 61 ∷ t) behind refl (form.status n m) (λ os id. valued_stops j t l (option n) (held os (Some (n, []))) refl (open_stays n os id)) h opts a

-- ---- at the end of the words

else_nil : (x y : Kinds) → or_else x y ≡ [] → (x ≡ []) × (y ≡ [])
else_nil [] y e = (refl, e)
else_nil (k ∷ ks) y e = absurd (cc e)

or_true : (b : Bool) → (b || true) ≡ true
or_true true = refl
or_true false = refl

with_same : (n : Text) (rows : List Row) → with_default rows (rule n) ≡ rows
with_same n rows = go (has_row n rows)
  where
    go : (b : Bool) → cond b rows (default_rows n (reading_by (rule n)) [] rows) ≡ rows
    go true = refl
    go false = refl

no_defaults : (names : List Text) (rows : List Row) → defaults_fault rows (rules names) ≡ []
unfolding clap_on_literals
no_defaults [] rows = refl
no_defaults (n ∷ ns) rows = ap₂ or_else (ap (λ b. cond b [] (given_default_fault (rule n) [])) (or_true (has_row n rows)))
    (ap (λ r. defaults_fault r (rules ns)) (with_same n rows) ∙ no_defaults ns rows)

finished_same : (names : List Text) (rows : List Row) → fold with_default rows (rules names) ≡ rows
finished_same [] rows = refl
finished_same (n ∷ ns) rows = ap (λ r. fold with_default r (rules ns)) (with_same n rows) ∙ finished_same ns rows

abbrev lacks : List Row → Rule → Bool
lacks rows a = a.required && not (is_given a.id rows)

all_given : (names : List Text) (rows : List Row) → list_any (lacks rows) (rules names) ≡ false → (n : Text) → In n names → is_given n rows ≡ true
all_given [] rows e n i = absurd i
all_given (m ∷ ns) rows e n i = go (is_given m rows) refl e i (all_given ns rows)
  where
    go : (b : Bool) → is_given m rows ≡ b → (not b || list_any (lacks rows) (rules ns)) ≡ false → (m ≡ n) ⊎ In n ns
        → (list_any (lacks rows) (rules ns) ≡ false → (k : Text) → In k ns → is_given k rows ≡ true) → is_given n rows ≡ true
    go true h e (inl is) rest = ap (λ k. is_given k rows) (sym is) ∙ h
    go true h e (inr i) rest = rest e n i
    go false h e i rest = absurd (cc e)

one_lacks : (names : List Text) (rows : List Row) → list_any (lacks rows) (rules names) ≡ true → (n : Text) × In n names × (is_given n rows ≡ false)
one_lacks [] rows e = absurd (cc e)
one_lacks (m ∷ ns) rows e = go (is_given m rows) refl e (one_lacks ns rows)
  where
    go : (b : Bool) → is_given m rows ≡ b → (not b || list_any (lacks rows) (rules ns)) ≡ true
        → (list_any (lacks rows) (rules ns) ≡ true → (n : Text) × In n ns × (is_given n rows ≡ false)) → (n : Text) × In n (m ∷ ns) × (is_given n rows ≡ false)
    go true h e rest = let k = rest e in (k.0, inr k.1, k.2)
    go false h e rest = (m, inl refl, h)

module _ (word : Text) (names : List Text) (form : Form names) where
  -- the level takes the words, which are its options then, each once
  abbrev pub Takes : List Text → Type 0
  Takes words = (level_fault (leaf word names) [] nothing_held words false [] ≡ []) × (opts : List Given) × (options_in words ≡ Some (map dash opts))
      × (rows_after (rules names) [] words ≡ rows_in opts) × (length (map dash opts) ≡ length names)

  -- or it doesn't, and the form accepts none that they are
  abbrev pub Refuses : List Text → Type 0
  Refuses words = (¬ (level_fault (leaf word names) [] nothing_held words false [] ≡ [])) × ((options : List Given) → options_in words ≡ Some options → ¬ Accepts names options)

  pub level : (words : List Text) → Kept words → Takes words ⊎ Refuses words
  level words kept = by (walks word names form words kept nothing_held [] (refl, refl, fine_nil names))
    where
      by : Walks word names form (walk_from nothing_held) words [] → Takes words ⊎ Refuses words
      by (inr b) = inr (
        (λ z.
            let one = else_nil (walk_fault (leaf word names) [] (walk_from nothing_held) words) _ z in
            let two = else_nil (settle_fault (rules names) false (end_of word names form (walk_from nothing_held) words)) _ one.1 in
            b.0 (one.0, two.0)),
        b.1,
      )
      by (inl g) = last (list_any (lacks (rows_in g.0)) (rules names)) refl
        where
          rows_are : rows_after (rules names) [] words ≡ rows_in g.0
          rows_are = finished_same names (settled (rules names) (end_of word names form (walk_from nothing_held) words)).rows ∙ g.3

          level_is : level_fault (leaf word names) [] nothing_held words false [] ≡ cond (list_any (lacks (rows_in g.0)) (rules names)) (kind.MissingRequiredArgument ∷ []) []
          level_is =
              ap₂ (λ f s. or_else f (or_else s (or_else (defaults_fault (settled (rules names) (end_of word names form (walk_from nothing_held) words)).rows (rules names))
              (check_fault (leaf word names) (rows_after (rules names) [] words) false)))) g.2.0 g.2.1
              ∙ ap₂ (λ d rows. or_else d (check_fault (leaf word names) rows false)) (no_defaults names (settled (rules names) (end_of word names form (walk_from nothing_held) words)).rows) rows_are

          last : (b : Bool) → list_any (lacks (rows_in g.0)) (rules names) ≡ b → Takes words ⊎ Refuses words
          last false h = inl (level_is ∙ ap (λ b. cond b (kind.MissingRequiredArgument ∷ []) []) h, g.0, g.1, rows_are, full names (map dash g.0) g.4 there)
            where
              there : (n : Text) → In n names → 1 ≤ count (dashed n) (map dash g.0)
              there n i = of (given_or_not n g.0)
                where
                  of : ((is_given n (rows_in g.0) ≡ false) × (count (dashed n) (map dash g.0) ≡ 0)) ⊎ ((is_given n (rows_in g.0) ≡ true) × (1 ≤ count (dashed n) (map dash g.0)))
                      → 1 ≤ count (dashed n) (map dash g.0)
                  of (inl k) = let bad : true ≡ false = sym (all_given names (rows_in g.0) h n i) ∙ k.0 in absurd (cc bad)
                  of (inr k) = k.1
          last true h = inr (
            not_nil _ kind.MissingRequiredArgument (level_is ∙ ap (λ b. cond b (kind.MissingRequiredArgument ∷ []) []) h),
            λ options is.
                let same : map dash g.0 ≡ options = cc (sym g.1 ∙ is) in
                subst (λ l. ¬ Accepts names l) same (lacking (one_lacks names (rows_in g.0) h)),
          )
            where
              lacking : (n : Text) × In n names × (is_given n (rows_in g.0) ≡ false) → ¬ Accepts names (map dash g.0)
              lacking l = of (given_or_not l.0 g.0)
                where
                  of : ((is_given l.0 (rows_in g.0) ≡ false) × (count (dashed l.0) (map dash g.0) ≡ 0)) ⊎ ((is_given l.0 (rows_in g.0) ≡ true) × (1 ≤ count (dashed l.0) (map dash g.0)))
                      → ¬ Accepts names (map dash g.0)
                  of (inl k) = missing names (map dash g.0) l.0 l.1 k.1
                  of (inr k) = let bad : true ≡ false = sym k.0 ∙ l.2 in absurd (cc bad)
