-- Which numbers words may ask for.
use Rattle.std.proofs.Common.{◌≡◌, ◌≤◌, ◌&&◌, ℕ, Bool, true, false, cond, List, [], ◌∷◌, refl, subst, Option, Some, None, codes, length}
use Rattle.std.specs.Prelude.{option_and_then, option_map}
use Rattle.std.specs.Str.{bytes_eq}
use Rattle.std.specs.Str.Parse.{digits_value}
use Rattle.std.proofs.lemmas.Bool.{leb-true}
use Rattle.cell_words.specs.declared.words.Command.{Command}
use Rattle.cell_words.specs.declared.words.Command.TheVariants.{Run, Stress}
use Rattle.cell_words.specs.Words.{Given, Text, command_of, is_value, number_in, options_in, replay_of, run_of, run_with, stress_of, stress_with, text_of}
use Rattle.cell_words.proofs.Asked.{counted, four_some}

both : (a b : Bool) → (a && b) ≡ true → (a ≡ true) × (b ≡ true)
both true b e = (refl, e)
both false b e = cc

number_range : (least most v : ℕ) (text : Option Text) → option_and_then (number_in least most) text ≡ Some v → (least ≤ v) × (v ≤ most)
number_range least most v None e = absurd (cc e)
number_range least most v (Some text) e = go (is_value least most text) refl e
  where
    go : (b : Bool) → is_value least most text ≡ b → cond b (Some (digits_value 10 text)) None ≡ Some v → (least ≤ v) × (v ≤ most)
    go true is e =
        let same : digits_value 10 text ≡ v = cc e in
        let range = both _ _ (both _ _ (both _ _ is).1).1 in
        (subst (λ k. least ≤ k) same (leb-true least (digits_value 10 text) range.0), subst (λ k. k ≤ most) same (leb-true (digits_value 10 text) most range.1))
    go false is e = absurd (cc e)

thens : (f : List Given → Option Command) (o : Option (List Given)) (c : Command) → option_and_then f o ≡ Some c → (options : List Given) × (f options ≡ Some c)
thens f None c e = absurd (cc e)
thens f (Some options) c e = (options, e)

run_some : (o : Option ℕ) (c : Command) → option_map (λ (n : ℕ). Run n) o ≡ Some c → (n : ℕ) × (o ≡ Some n) × (Run n ≡ c)
run_some None c e = absurd (cc e)
run_some (Some n) c e = (n, refl, cc e)

-- what `run` asks for
of_run : (rest : List Text) (c : Command) → option_and_then run_of (options_in rest) ≡ Some c → (n : ℕ) × (Run n ≡ c) × (1 ≤ n) × (n ≤ 16)
of_run rest c e =
    let k = thens run_of (options_in rest) c e in
    let m = run_some (option_and_then (number_in 1 16) (text_of (codes "--workers") k.0)) c (counted (length k.0) 1 (run_with (text_of (codes "--workers") k.0)) c k.1).1 in
    let range = number_range 1 16 m.0 (text_of (codes "--workers") k.0) m.1 in
    (m.0, m.2, range.0, range.1)

-- what `stress` asks for
of_stress : (rest : List Text) (command : Command) → option_and_then stress_of (options_in rest) ≡ Some command
    → (s : ℕ) × (c : ℕ) × (r : ℕ) × (n : ℕ) × (Stress s c r n ≡ command) × ((1 ≤ c) × (c ≤ 64)) × ((1 ≤ r) × (r ≤ 1000)) × ((1 ≤ n) × (n ≤ 16))
of_stress rest command e =
    let k = thens stress_of (options_in rest) command e in
    let seed = text_of (codes "--seed") k.0 in
    let clients = text_of (codes "--clients") k.0 in
    let rounds = text_of (codes "--rounds") k.0 in
    let workers = text_of (codes "--workers") k.0 in
    let m = four_some (option_and_then (number_in 0 18446744073709551615) seed) (option_and_then (number_in 1 64) clients) (option_and_then (number_in 1 1000) rounds)
    (option_and_then (number_in 1 16) workers) command (counted (length k.0) 4 (stress_with seed clients rounds workers) command k.1).1 in
    (m.0, m.1, m.2, m.3, m.8, number_range 1 64 m.1 clients m.5, number_range 1 1000 m.2 rounds m.6, number_range 1 16 m.3 workers m.7)

no_replay : (rest : List Text) (n : ℕ) → ¬ (replay_of rest ≡ Some (Run n))
no_replay [] n e = cc
no_replay (word ∷ rest) n e = cc

no_replay_stress : (rest : List Text) (s c r n : ℕ) → ¬ (replay_of rest ≡ Some (Stress s c r n))
no_replay_stress [] s c r n e = cc
no_replay_stress (word ∷ rest) s c r n e = cc

pub asked_range : (words : List Text) (n : ℕ) → command_of words ≡ Some (Run n) → (1 ≤ n) × (n ≤ 16)
asked_range [] n is = absurd (cc is)
asked_range (form ∷ rest) n is = by (bytes_eq (codes "replay") form) (bytes_eq (codes "run") form) (bytes_eq (codes "stress") form) is
  where
    by : (a b c : Bool) → cond a (replay_of rest) (cond b (option_and_then run_of (options_in rest)) (cond c (option_and_then stress_of (options_in rest)) None)) ≡ Some (Run n) → (1 ≤ n) × (n ≤ 16)
    by true b c e = absurd (no_replay rest n e)
    by false true c e =
        let k = of_run rest (Run n) e in
        let same : k.0 ≡ n = cc k.1 in
        (subst (λ m. 1 ≤ m) same k.2, subst (λ m. m ≤ 16) same k.3)
    by false false true e =
        let k = of_stress rest (Run n) e in
        let bad : Stress k.0 k.1 k.2 k.3 ≡ Run n = k.4 in
        absurd (cc bad)
    by false false false e = absurd (cc e)

pub stress_range : (words : List Text) (s c r n : ℕ) → command_of words ≡ Some (Stress s c r n) → ((1 ≤ c) × (c ≤ 64)) × ((1 ≤ r) × (r ≤ 1000)) × ((1 ≤ n) × (n ≤ 16))
stress_range [] s c r n is = absurd (cc is)
stress_range (form ∷ rest) s c r n is = by (bytes_eq (codes "replay") form) (bytes_eq (codes "run") form) (bytes_eq (codes "stress") form) is
  where
    by : (p q w : Bool) → cond p (replay_of rest) (cond q (option_and_then run_of (options_in rest)) (cond w (option_and_then stress_of (options_in rest)) None)) ≡ Some (Stress s c r n)
        → ((1 ≤ c) × (c ≤ 64)) × ((1 ≤ r) × (r ≤ 1000)) × ((1 ≤ n) × (n ≤ 16))
    by true q w e = absurd (no_replay_stress rest s c r n e)
    by false true w e =
        let k = of_run rest (Stress s c r n) e in
        let bad : Run k.0 ≡ Stress s c r n = k.1 in
        absurd (cc bad)
    by false false true e =
        let k = of_stress rest (Stress s c r n) e in
        let clients : k.1 ≡ c = cc k.4 in
        let rounds : k.2 ≡ r = cc k.4 in
        let workers : k.3 ≡ n = cc k.4 in
        (subst (λ m. (1 ≤ m) × (m ≤ 64)) clients k.5, subst (λ m. (1 ≤ m) × (m ≤ 1000)) rounds k.6, subst (λ m. (1 ≤ m) × (m ≤ 16)) workers k.7)
    by false false false e = absurd (cc e)
