-- The parser takes the command forms, and nothing else.
use Rattle.std.proofs.Common.{◌≡◌, ◌∙◌, ◌⊎◌, ◌&&◌, ◌||◌, ◌==◌, ◌++◌, refl, sym, ap, ap₂, subst, inl, inr, ℕ, suc, Bool, true, false, cond, not, codes, List, [], ◌∷◌, Option, Some, None, option_map, drop, length, map, append_assoc}
use Rattle.std.proofs.Common.{◌+◌, ◌≤◌, arith}
use Rattle.std.specs.Prelude.{fold, nat_eq, nat_le, option_and_then}
use Rattle.std.specs.List.{list_all, starts_with}
use Rattle.std.specs.Option.{is_some}
use Rattle.std.specs.Str.{bytes_eq}
use Rattle.std.specs.Str.Parse.{digits_value}
use Rattle.std.proofs.lemmas.Bool.{leb-true, ne_eqb}
use Rattle.std.proofs.lemmas.Bool.Decides.{Decides-eqb}
use Rattle.std.proofs.lemmas.Slice.Eq.{bytes_eq-Decides, starts_is}
use Rattle.clap.proofs.OnLiterals.{clap_on_literals}
use Rattle.clap.specs.Kinds.{Kinds, or_else}
use Rattle.clap.specs.Walk.{Names, Row, Rule, Walk, finished, idle, nothing_held, rows_after, rows_of, settled, subcommand_met, walk_from, walked}
use Rattle.clap.specs.Simple.{Shape, built, entered, names_of, subcommand_of, subcommand_rows_of}
use Rattle.clap.specs.Faults.{check_fault, defaults_fault, entered_fault, fault_of, level_fault, settle_fault, stray_fault, turn_fault, walk_fault}
use Rattle.clap.specs.declared.parser.matches.ArgMatches.{ArgMatches}
use Rattle.clap.specs.declared.parser.matches.Found.{Found}
use Rattle.clap.proofs.WalkLemmas.{first_value-rows}
use Rattle.clap.specs.Matches.{first_value}
use Rattle.cell_words.specs.declared.words.Command.{Command}
use Rattle.cell_words.specs.declared.words.Command.TheVariants.{Run, Stress}
use Rattle.cell_words.specs.Parser.{Answers, asked_of, mmscell, run_found, stress_found}
use Rattle.cell_words.specs.Words.{Given, Text, command_of, is_digit, is_refused, names, number_in, options_in, replay_of, run_of, run_with, stress_of, stress_with, text_of}
use Rattle.cell_words.specs.Read.{AreNot}
use Rattle.cell_words.proofs.Counts.{Accepts, In, begins, bit, dash, dashed, first_of_word, total}
use Rattle.cell_words.proofs.Leaf.{Form, Kept, Name, Refuses, Status, Takes, Word, clients, else_left, first_rows, leaf, level, plain, bare, valued, no_word, and_word, known, unknown, rounds, rules, seed, stray, workers}

-- ---- the forms

abbrev run_names : List Text
run_names = codes "workers" ∷ []

abbrev stress_names : List Text
stress_names = codes "seed" ∷ codes "clients" ∷ codes "rounds" ∷ codes "workers" ∷ []

replay_form : Form []
replay_form = record { apart = λ o. omega arith; status = λ n m. unknown refl (λ t. refl); no_place = refl }

run_form : Form run_names
run_form = record { apart = λ o. one (bytes_eq o.0 (codes "--workers")); status = has; no_place = refl }
  where
    one : (b : Bool) → (bit b + 0) + 0 ≤ 1
    one true = omega arith
    one false = omega arith

    has : (n : Text) → Name n → Status run_names n
    has n seed = unknown refl (λ t. refl)
    has n clients = unknown refl (λ t. refl)
    has n rounds = unknown refl (λ t. refl)
    has n workers = known (inl refl) refl refl

-- a name is one of the four at most
at_name : (n t : Text) → Name n → total stress_names ((dashed n, t) ∷ []) ≤ 1
at_name n t seed = omega arith
at_name n t clients = omega arith
at_name n t rounds = omega arith
at_name n t workers = omega arith

at_one : (n x t : Text) → Name n → bytes_eq x (dashed n) ≡ true → total stress_names ((x, t) ∷ []) ≤ 1
at_one n x t m h = subst (λ k. total stress_names ((k, t) ∷ []) ≤ 1) (sym ((bytes_eq-Decides x (dashed n)).0 h)) (at_name n t m)

stress_apart : (x t : Text) (a b c d : Bool) → bytes_eq x (codes "--seed") ≡ a → bytes_eq x (codes "--clients") ≡ b → bytes_eq x (codes "--rounds") ≡ c → bytes_eq x (codes "--workers") ≡ d
    → total stress_names ((x, t) ∷ []) ≤ 1
stress_apart x t true b c d h i j k = at_one (codes "seed") x t seed h
stress_apart x t false true c d h i j k = at_one (codes "clients") x t clients i
stress_apart x t false false true d h i j k = at_one (codes "rounds") x t rounds j
stress_apart x t false false false true h i j k = at_one (codes "workers") x t workers k
stress_apart x t false false false false h i j k =
    let one : bit (bytes_eq x (codes "--seed")) ≡ 0 = ap bit h in
    let two : bit (bytes_eq x (codes "--clients")) ≡ 0 = ap bit i in
    let three : bit (bytes_eq x (codes "--rounds")) ≡ 0 = ap bit j in
    let four : bit (bytes_eq x (codes "--workers")) ≡ 0 = ap bit k in
    omega (arith, one, two, three, four)

stress_form : Form stress_names
stress_form = record { apart = λ o. stress_apart o.0 o.1 _ _ _ _ refl refl refl refl; status = has; no_place = refl }
  where
    has : (n : Text) → Name n → Status stress_names n
    has n seed = known (inl refl) refl refl
    has n clients = known (inr (inl refl)) refl refl
    has n rounds = known (inr (inr (inl refl))) refl refl
    has n workers = known (inr (inr (inr (inl refl)))) refl refl

-- ---- what their options may be

both : (a b : Bool) → (a && b) ≡ true → (a ≡ true) × (b ≡ true)
both true b e = (refl, e)
both false b e = cc

begins_number : (least most v : ℕ) (text : Text) → number_in least most text ≡ Some v → begins text ≡ true
begins_number least most v [] e = absurd (cc e)
begins_number least most v (x ∷ xs) e = go (is_digit x) refl e
  where
    go : (b : Bool) → is_digit x ≡ b
        → cond ((b && list_all is_digit xs) && ((nat_le 1 (length (x ∷ xs)) && nat_le (length (x ∷ xs)) 20) && (nat_le least (digits_value 10 (x ∷ xs)) && nat_le (digits_value 10 (x ∷ xs)) most)))
        (Some (digits_value 10 (x ∷ xs))) None ≡ Some v → not (x == 45) ≡ true
    go true h e = let low = leb-true 48 x (both (nat_le 48 x) (nat_le x 57) h).0 in ap not (ne_eqb x 45 (λ z. omega arith))
    go false h e = absurd (cc e)

-- a text that is a number
has_number : (least most v : ℕ) (text : Option Text) → option_and_then (number_in least most) text ≡ Some v → (t : Text) × (text ≡ Some t) × (begins t ≡ true)
has_number least most v None e = absurd (cc e)
has_number least most v (Some t) e = (t, refl, begins_number least most v t e)

mapped : {X Y : Type 0} (f : X → Y) (o : Option X) (y : Y) → option_map f o ≡ Some y → (x : X) × (o ≡ Some x)
mapped f None y e = absurd (cc e)
mapped f (Some x) y e = (x, refl)

-- four numbers of which each is there
pub four_some : (a b d f : Option ℕ) (command : Command)
    → option_and_then (λ s. option_and_then (λ c. option_and_then (λ r. option_map (λ n. Stress s c r n) f) d) b) a ≡ Some command
    → (s : ℕ) × (c : ℕ) × (r : ℕ) × (n : ℕ) × (a ≡ Some s) × (b ≡ Some c) × (d ≡ Some r) × (f ≡ Some n) × (Stress s c r n ≡ command)
four_some None b d f command e = absurd (cc e)
four_some (Some s) None d f command e = absurd (cc e)
four_some (Some s) (Some c) None f command e = absurd (cc e)
four_some (Some s) (Some c) (Some r) None command e = absurd (cc e)
four_some (Some s) (Some c) (Some r) (Some n) command e = (s, c, r, n, refl, refl, refl, refl, cc e)

pub counted : (n m : ℕ) (o : Option Command) (c : Command) → cond (n == m) o None ≡ Some c → (n ≡ m) × (o ≡ Some c)
counted n m o c e = go (n == m) refl e
  where
    go : (b : Bool) → (n == m) ≡ b → cond b o None ≡ Some c → (n ≡ m) × (o ≡ Some c)
    go true h e = ((Decides-eqb n m).0 h, e)
    go false h e = absurd (cc e)

run_accepts : (options : List Given) (c : Command) → run_of options ≡ Some c → Accepts run_names options
run_accepts options c e = record { number = k.0; texts = λ n i. at n i }
  where
    k : (length options ≡ 1) × (run_with (text_of (codes "--workers") options) ≡ Some c)
    k = counted (length options) 1 (run_with (text_of (codes "--workers") options)) c e

    at : (n : Text) → In n run_names → (t : Text) × (text_of (dashed n) options ≡ Some t) × (begins t ≡ true)
    at n (inr i) = absurd i
    at n (inl is) =
        let m = mapped (λ (n : ℕ). Run n) (option_and_then (number_in 1 16) (text_of (codes "--workers") options)) c k.1 in
        subst (λ name. (t : Text) × (text_of (dashed name) options ≡ Some t) × (begins t ≡ true)) is (has_number 1 16 m.0 (text_of (codes "--workers") options) m.1)

abbrev HasText : List Given → Text → Type 0
HasText options name = (t : Text) × (text_of (dashed name) options ≡ Some t) × (begins t ≡ true)

stress_accepts : (options : List Given) (command : Command) → stress_of options ≡ Some command → Accepts stress_names options
stress_accepts options command e = record { number = k.0; texts = λ n i. at n i }
  where
    k : (length options ≡ 4) × (stress_with (text_of (codes "--seed") options) (text_of (codes "--clients") options) (text_of (codes "--rounds") options) (text_of (codes "--workers") options) ≡ Some command)
    k = counted (length options) 4 (stress_with (text_of (codes "--seed") options) (text_of (codes "--clients") options) (text_of (codes "--rounds") options) (text_of (codes "--workers") options)) command e

    numbers : (s : ℕ) × (c : ℕ) × (r : ℕ) × (n : ℕ) × (option_and_then (number_in 0 18446744073709551615) (text_of (codes "--seed") options) ≡ Some s)
        × (option_and_then (number_in 1 64) (text_of (codes "--clients") options) ≡ Some c) × (option_and_then (number_in 1 1000) (text_of (codes "--rounds") options) ≡ Some r)
        × (option_and_then (number_in 1 16) (text_of (codes "--workers") options) ≡ Some n) × (Stress s c r n ≡ command)
    numbers = four_some (option_and_then (number_in 0 18446744073709551615) (text_of (codes "--seed") options)) (option_and_then (number_in 1 64) (text_of (codes "--clients") options))
        (option_and_then (number_in 1 1000) (text_of (codes "--rounds") options)) (option_and_then (number_in 1 16) (text_of (codes "--workers") options)) command k.1

    at : (n : Text) → In n stress_names → (t : Text) × (text_of (dashed n) options ≡ Some t) × (begins t ≡ true)
    at n (inl is) = subst (HasText options) is (has_number 0 18446744073709551615 numbers.0 (text_of (codes "--seed") options) numbers.4)
    at n (inr (inl is)) = subst (HasText options) is (has_number 1 64 numbers.1 (text_of (codes "--clients") options) numbers.5)
    at n (inr (inr (inl is))) = subst (HasText options) is (has_number 1 1000 numbers.2 (text_of (codes "--rounds") options) numbers.6)
    at n (inr (inr (inr (inl is)))) = subst (HasText options) is (has_number 1 16 numbers.3 (text_of (codes "--workers") options) numbers.7)
    at n (inr (inr (inr (inr i)))) = absurd i

-- ---- what is to be shown of a list of words

abbrev pub Reads : List Text → Type 0
Reads words = ((fault_of mmscell words ≡ []) × (asked_of (subcommand_of mmscell words) ≡ command_of words))
    ⊎ ((¬ (fault_of mmscell words ≡ [])) × (command_of words ≡ None))

abbrev top : Shape
top = (built mmscell).top

-- ---- what follows the form's word is its level alone, for any number of words

abbrev at_stop : Walk → Text → List Text → Walk
at_stop w name words = record w { stopped = Some (name, words) }

last : (xs : List Text) (y : Text) (ys : List Text) → (xs ++ y ∷ []) ++ ys ≡ xs ++ (y ∷ ys)
last [] y ys = refl
last (x ∷ xs) y ys = ap (λ l. x ∷ l) (last xs y ys)

none_left : (xs : List Text) → xs ≡ xs ++ []
none_left [] = refl
none_left (x ∷ xs) = ap (λ l. x ∷ l) (none_left xs)

fold_stopped : (c : List Rule) (names : Names) (w : Walk) (name : Text) (words rest : List Text) → fold (walked c names) (at_stop w name words) rest ≡ at_stop w name (words ++ rest)
unfolding clap_on_literals
fold_stopped c names w name words [] = ap (at_stop w name) (none_left words)
fold_stopped c names w name words (x ∷ rest) = fold_stopped c names w name (words ++ x ∷ []) rest ∙ ap (at_stop w name) (last words x rest)

fault_stopped : (s : Shape) (names : Names) (w : Walk) (name : Text) (words rest : List Text) → walk_fault s names (at_stop w name words) rest ≡ []
unfolding clap_on_literals
fault_stopped s names w name words [] = refl
fault_stopped s names w name words (x ∷ rest) = fault_stopped s names w name (words ++ x ∷ []) rest

abbrev at_end : Kinds → Walk → Kinds
at_end fault w = or_else fault (or_else (entered_fault (built mmscell) w.stopped) (or_else (settle_fault top.rules top.args_override_self w.held)
    (or_else (defaults_fault (settled top.rules w.held).rows top.rules) (check_fault top (finished top.rules w.held) (is_some (entered (built mmscell) w.stopped))))))

abbrev faults : Text → List Text → List Text → Kinds
faults form names rest = or_else (level_fault (leaf form names) [] nothing_held rest false []) []

abbrev found : Text → List Text → List Text → Option (Text × List Row)
found form names rest = Some (form, rows_after (rules names) [] rest)

of_replay : (rest : List Text) → (fault_of mmscell (codes "replay" ∷ rest) ≡ faults (codes "replay") [] rest) × (subcommand_of mmscell (codes "replay" ∷ rest) ≡ found (codes "replay") [] rest)
unfolding clap_on_literals
of_replay rest =
    let end = fold_stopped top.rules (names_of (built mmscell)) (walk_from nothing_held) (codes "replay") [] rest in
    (ap₂ at_end (fault_stopped top (names_of (built mmscell)) (walk_from nothing_held) (codes "replay") [] rest) end, ap (λ (w : Walk). entered (built mmscell) w.stopped) end)

of_run : (rest : List Text) → (fault_of mmscell (codes "run" ∷ rest) ≡ faults (codes "run") run_names rest) × (subcommand_of mmscell (codes "run" ∷ rest) ≡ found (codes "run") run_names rest)
unfolding clap_on_literals
of_run rest =
    let end = fold_stopped top.rules (names_of (built mmscell)) (walk_from nothing_held) (codes "run") [] rest in
    (ap₂ at_end (fault_stopped top (names_of (built mmscell)) (walk_from nothing_held) (codes "run") [] rest) end, ap (λ (w : Walk). entered (built mmscell) w.stopped) end)

of_stress : (rest : List Text) → (fault_of mmscell (codes "stress" ∷ rest) ≡ faults (codes "stress") stress_names rest) × (subcommand_of mmscell (codes "stress" ∷ rest) ≡ found (codes "stress") stress_names rest)
unfolding clap_on_literals
of_stress rest =
    let end = fold_stopped top.rules (names_of (built mmscell)) (walk_from nothing_held) (codes "stress") [] rest in
    (ap₂ at_end (fault_stopped top (names_of (built mmscell)) (walk_from nothing_held) (codes "stress") [] rest) end, ap (λ (w : Walk). entered (built mmscell) w.stopped) end)

-- ---- the forms' words

or_none : (x : Kinds) → or_else x [] ≡ [] → x ≡ []
or_none [] e = refl
or_none (k ∷ ks) e = absurd (cc e)

none_of : (f : List Given → Option Command) (os : Option (List Given)) → ((options : List Given) → os ≡ Some options → (c : Command) → f options ≡ Some c → ⊥) → option_and_then f os ≡ None
none_of f None never = refl
none_of f (Some options) never = by (f options) refl
  where
    by : (o : Option Command) → f options ≡ o → o ≡ None
    by None e = refl
    by (Some c) e = absurd (never options refl c e)

replay_reads : (rest : List Text) → Kept rest → Reads (codes "replay" ∷ rest)
replay_reads [] kept = by (level (codes "replay") [] replay_form [] kept)
  where
    by : Takes (codes "replay") [] replay_form [] ⊎ Refuses (codes "replay") [] replay_form [] → Reads (codes "replay" ∷ [])
    by (inl k) = inl ((of_replay []).0 ∙ ap (λ f. or_else f []) k.0, ap asked_of (of_replay []).1)
    by (inr k) = absurd (k.1 [] refl (record { number = refl; texts = λ n i. absurd i }))
replay_reads (word ∷ rest) kept = by (level (codes "replay") [] replay_form (word ∷ rest) kept)
  where
    by : Takes (codes "replay") [] replay_form (word ∷ rest) ⊎ Refuses (codes "replay") [] replay_form (word ∷ rest) → Reads (codes "replay" ∷ word ∷ rest)
    by (inl k) =
        let m = first_of_word word rest (map dash k.1) k.2 in
        let size : length (map dash k.1) ≡ suc (length m.1) = ap length m.2 in
        let none : length (map dash k.1) ≡ 0 = k.4 in
        absurd (omega (arith, size, none))
    by (inr k) = inr ((λ z. k.0 (or_none (level_fault (leaf (codes "replay") []) [] nothing_held (word ∷ rest) false []) (sym (of_replay (word ∷ rest)).0 ∙ z))), refl)

run_reads : (rest : List Text) → Kept rest → Reads (codes "run" ∷ rest)
run_reads rest kept = by (level (codes "run") run_names run_form rest kept)
  where
    by : Takes (codes "run") run_names run_form rest ⊎ Refuses (codes "run") run_names run_form rest → Reads (codes "run" ∷ rest)
    by (inl k) = inl (
      (of_run rest).0 ∙ ap (λ f. or_else f []) k.0,
      ap asked_of ((of_run rest).1 ∙ ap (λ rows. Some (codes "run", rows)) k.3) ∙ (ap run_with (first_rows (codes "workers") k.1)
          ∙ sym (ap (option_and_then run_of) k.2 ∙ ap (λ n. cond (n == 1) (run_with (text_of (codes "--workers") (map dash k.1))) None) k.4)),
    )
    by (inr k) = inr (
      (λ z. k.0 (or_none (level_fault (leaf (codes "run") run_names) [] nothing_held rest false []) (sym (of_run rest).0 ∙ z))),
      none_of run_of (options_in rest) (λ options is c e. k.1 options is (run_accepts options c e)),
    )

pub stress_same : (a b c d e f g h : Option Text) → a ≡ e → b ≡ f → c ≡ g → d ≡ h → stress_with a b c d ≡ stress_with e f g h
stress_same a b c d e f g h i j k l = ap₂ (λ s t. stress_with s t c d) i j ∙ ap₂ (λ s t. stress_with e f s t) k l

stress_reads : (rest : List Text) → Kept rest → Reads (codes "stress" ∷ rest)
stress_reads rest kept = by (level (codes "stress") stress_names stress_form rest kept)
  where
    by : Takes (codes "stress") stress_names stress_form rest ⊎ Refuses (codes "stress") stress_names stress_form rest → Reads (codes "stress" ∷ rest)
    by (inl k) = inl (
      (of_stress rest).0 ∙ ap (λ f. or_else f []) k.0,
      ap asked_of ((of_stress rest).1 ∙ ap (λ rows. Some (codes "stress", rows)) k.3)
          ∙ (stress_same _ _ _ _ _ _ _ _ (first_rows (codes "seed") k.1) (first_rows (codes "clients") k.1) (first_rows (codes "rounds") k.1) (first_rows (codes "workers") k.1)
          ∙ sym (ap (option_and_then stress_of) k.2
          ∙ ap (λ n. cond (n == 4) (stress_with (text_of (codes "--seed") (map dash k.1)) (text_of (codes "--clients") (map dash k.1)) (text_of (codes "--rounds") (map dash k.1)) (text_of (codes "--workers") (map dash k.1))) None) k.4)),
    )
    by (inr k) = inr (
      (λ z. k.0 (or_none (level_fault (leaf (codes "stress") stress_names) [] nothing_held rest false []) (sym (of_stress rest).0 ∙ z))),
      none_of stress_of (options_in rest) (λ options is c e. k.1 options is (stress_accepts options c e)),
    )

nothing_reads : Reads []
unfolding clap_on_literals
nothing_reads = inr ((λ e. cc), refl)

-- ---- a first word that is no form's

abbrev is_first : Text → Bool → Bool → Bool → Option Text
is_first word p q r = option_map (λ (s : Text × List Text). s.0) (cond (p || false) (Some (codes "replay", [])) (cond (q || false) (Some (codes "run", [])) (cond (r || false) (Some (codes "stress", [])) None)))

no_form : (word : Text) → bytes_eq (codes "replay") word ≡ false → bytes_eq (codes "run") word ≡ false → bytes_eq (codes "stress") word ≡ false
    → subcommand_met (names_of (built mmscell)) idle word ≡ None
no_form word a b c = ap₂ (λ p q. is_first word p q (bytes_eq (codes "stress") word)) a b ∙ ap (λ r. is_first word false false r) c

no_command : (word : Text) (rest : List Text) → bytes_eq (codes "replay") word ≡ false → bytes_eq (codes "run") word ≡ false → bytes_eq (codes "stress") word ≡ false
    → command_of (word ∷ rest) ≡ None
no_command word rest a b c =
    ap₂ (λ p q. cond p (replay_of rest) (cond q (option_and_then run_of (options_in rest)) (cond (bytes_eq (codes "stress") word) (option_and_then stress_of (options_in rest)) None))) a b
    ∙ ap (λ r. cond r (option_and_then stress_of (options_in rest)) None) c

first_fails : (word : Text) (rest : List Text) → ¬ (turn_fault top (names_of (built mmscell)) (walk_from nothing_held) word ≡ []) → ¬ (fault_of mmscell (word ∷ rest) ≡ [])
unfolding clap_on_literals
first_fails word rest n =
    else_left (walk_fault top (names_of (built mmscell)) (walk_from nothing_held) (word ∷ rest)) _
    (else_left (turn_fault top (names_of (built mmscell)) (walk_from nothing_held) word) (walk_fault top (names_of (built mmscell)) (walked top.rules (names_of (built mmscell)) (walk_from nothing_held) word) rest) n)

bare_fails : (n : Text) → Name n → ¬ (turn_fault top (names_of (built mmscell)) (walk_from nothing_held) (dashed n) ≡ [])
unfolding clap_on_literals
bare_fails n seed e = cc
bare_fails n clients e = cc
bare_fails n rounds e = cc
bare_fails n workers e = cc

valued_fails : (n t : Text) → Name n → ¬ (turn_fault top (names_of (built mmscell)) (walk_from nothing_held) (dashed n ++ 61 ∷ t) ≡ [])
unfolding clap_on_literals
valued_fails n t seed e = cc
valued_fails n t clients e = cc
valued_fails n t rounds e = cc
valued_fails n t workers e = cc

other_reads : (word : Text) → Word word → (rest : List Text) → bytes_eq (codes "replay") word ≡ false → bytes_eq (codes "run") word ≡ false → bytes_eq (codes "stress") word ≡ false
    → Reads (word ∷ rest)
other_reads word w rest a b c = inr (first_fails word rest (fails word w (no_form word a b c)), no_command word rest a b c)
  where
    fails : (word : Text) → Word word → subcommand_met (names_of (built mmscell)) idle word ≡ None → ¬ (turn_fault top (names_of (built mmscell)) (walk_from nothing_held) word ≡ [])
    fails word (plain x xs e) none z = let bad : stray_fault top ≡ [] = sym (stray top (names_of (built mmscell)) nothing_held x xs e none refl) ∙ z in cc
    fails word (bare n m) none z = bare_fails n m z
    fails word (valued n t m) none z = valued_fails n t m z

words_read : (words : List Text) → Kept words → Reads words
words_read words no_word = nothing_reads
words_read words (and_word form rest w kept) = by (bytes_eq (codes "replay") form) (bytes_eq (codes "run") form) (bytes_eq (codes "stress") form) refl refl refl
  where
    by : (p q r : Bool) → bytes_eq (codes "replay") form ≡ p → bytes_eq (codes "run") form ≡ q → bytes_eq (codes "stress") form ≡ r → Reads (form ∷ rest)
    by true q r a b c = subst (λ w. Reads (w ∷ rest)) ((bytes_eq-Decides (codes "replay") form).0 a) (replay_reads rest kept)
    by false true r a b c = subst (λ w. Reads (w ∷ rest)) ((bytes_eq-Decides (codes "run") form).0 b) (run_reads rest kept)
    by false false true a b c = subst (λ w. Reads (w ∷ rest)) ((bytes_eq-Decides (codes "stress") form).0 c) (stress_reads rest kept)
    by false false false a b c = other_reads form w rest a b c

-- ---- the words that are asked

named : (n : Text) → Name n → (word : Text) → names (dashed n) word ≡ true → Word word
named n m word e = by (bytes_eq (dashed n) word) (starts_with nat_eq word (dashed n ++ codes "=")) refl refl e
  where
    by : (p q : Bool) → bytes_eq (dashed n) word ≡ p → starts_with nat_eq word (dashed n ++ codes "=") ≡ q → (p || q) ≡ true → Word word
    by true q a b e = subst Word ((bytes_eq-Decides (dashed n) word).0 a) (bare n m)
    by false true a b e =
        let is = (starts_is Decides-eqb word (dashed n ++ codes "=") _ refl).0 b in
        subst Word (sym (is ∙ append_assoc (dashed n) (codes "=") (drop (length (dashed n ++ codes "=")) word))) (valued n (drop (length (dashed n ++ codes "=")) word) m)
    by false false a b e = absurd (cc e)

-- a word that is not refused
word_of : (word : Text) → not (is_refused word) ≡ true → Word word
word_of [] e = absurd (cc e)
word_of (x ∷ xs) e = head (x == 45) refl e
  where
    head : (b : Bool) → (x == 45) ≡ b → not (b && not (names (codes "--seed") (x ∷ xs) || (names (codes "--clients") (x ∷ xs) || (names (codes "--rounds") (x ∷ xs) || names (codes "--workers") (x ∷ xs))))) ≡ true
        → Word (x ∷ xs)
    head false h e = plain x xs h
    head true h e = option (names (codes "--seed") (x ∷ xs)) (names (codes "--clients") (x ∷ xs)) (names (codes "--rounds") (x ∷ xs)) (names (codes "--workers") (x ∷ xs)) refl refl refl refl e
      where
        option : (p q r s : Bool) → names (codes "--seed") (x ∷ xs) ≡ p → names (codes "--clients") (x ∷ xs) ≡ q → names (codes "--rounds") (x ∷ xs) ≡ r → names (codes "--workers") (x ∷ xs) ≡ s
            → not (not (p || (q || (r || s)))) ≡ true → Word (x ∷ xs)
        option true q r s a b c d e = named (codes "seed") seed (x ∷ xs) a
        option false true r s a b c d e = named (codes "clients") clients (x ∷ xs) b
        option false false true s a b c d e = named (codes "rounds") rounds (x ∷ xs) c
        option false false false true a b c d e = named (codes "workers") workers (x ∷ xs) d
        option false false false false a b c d e = absurd (cc e)

kept_of : {X : Type 0} (f : X → Text) (xs : List X) → list_all (λ x. not (is_refused (f x))) xs ≡ true → Kept (map f xs)
kept_of f [] e = no_word
kept_of f (x ∷ xs) e =
    let k = both (not (is_refused (f x))) (list_all (λ x. not (is_refused (f x))) xs) e in
    and_word (f x) (map f xs) (word_of (f x) k.0) (kept_of f xs k.1)

-- ---- the answers of the functions

pub some_reads : {X : Type 0} (f : X → Text) (xs : List X) (m : ArgMatches) → list_all (λ x. not (is_refused (f x))) xs ≡ true → Answers (map f xs) (Some m)
    → asked_of (subcommand_rows_of m) ≡ command_of (map f xs)
some_reads f xs m kept answer = go (words_read (map f xs) (kept_of f xs kept))
  where
    go : Reads (map f xs) → asked_of (subcommand_rows_of m) ≡ command_of (map f xs)
    go (inl k) = ap asked_of answer.1 ∙ k.1
    go (inr k) = absurd (k.0 answer.0)

pub none_reads : {X : Type 0} (f : X → Text) (xs : List X) → list_all (λ x. not (is_refused (f x))) xs ≡ true → Answers (map f xs) None → None ≡ command_of (map f xs)
none_reads f xs kept answer = go (words_read (map f xs) (kept_of f xs kept))
  where
    go : Reads (map f xs) → None ≡ command_of (map f xs)
    go (inl k) = absurd (answer k.0)
    go (inr k) = sym k.1

pub run_is : (f : Found) → run_with (first_value f (codes "workers")) ≡ run_found (rows_of f)
run_is f = ap run_with (first_value-rows f (codes "workers"))

pub stress_is : (f : Found) → stress_with (first_value f (codes "seed")) (first_value f (codes "clients")) (first_value f (codes "rounds")) (first_value f (codes "workers")) ≡ stress_found (rows_of f)
stress_is f = stress_same _ _ _ _ _ _ _ _ (first_value-rows f (codes "seed")) (first_value-rows f (codes "clients")) (first_value-rows f (codes "rounds")) (first_value-rows f (codes "workers"))

-- an option by its two spellings
pub named_by : (option spelled word : Text) (r : Bool) → spelled ≡ option ++ codes "=" → bytes_eq option word ≡ false → r ≡ starts_with nat_eq word spelled → r ≡ names option word
named_by option spelled word r is other starts = starts ∙ (ap (starts_with nat_eq word) is ∙ sym (ap (λ b. b || starts_with nat_eq word (option ++ codes "=")) other))

-- words that aren't so many options
pub run_not : (words : List Text) → AreNot 1 words → option_and_then run_of (options_in words) ≡ None
run_not words never = none_of run_of (options_in words)
    (λ options is c e. never options is (counted (length options) 1 (run_with (text_of (codes "--workers") options)) c e).0)

pub stress_not : (words : List Text) → AreNot 4 words → option_and_then stress_of (options_in words) ≡ None
stress_not words never = none_of stress_of (options_in words) (λ options is c e. never options is
    (counted (length options) 4 (stress_with (text_of (codes "--seed") options) (text_of (codes "--clients") options) (text_of (codes "--rounds") options) (text_of (codes "--workers") options)) c e).0)
