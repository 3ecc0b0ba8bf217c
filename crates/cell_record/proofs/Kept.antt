-- What is kept of a line is enough to tell what it says.
use Rattle.cell_config.specs.declared.config.Config.{Config}
use Rattle.std.proofs.Common.{◌≡◌, ℕ, ◌+◌, ◌-◌, ◌<◌, ◌≤◌, Bool, true, false, List, [], ◌∷◌, length, take, refl, sym, ap, ◌∙◌, arith, length-append, Some, None, Err, nat_le, nat_lt, nat_eq, if◌then◌else◌}
use Rattle.std.proofs.lemmas.Bool.Decides.{nat_tests}
use Rattle.std.proofs.lemmas.List.{take_all, length-take-le}
use Rattle.std.proofs.lemmas.Grind.{common_steps}
use Rattle.std.specs.Cmp.Lexicographic.{pointwise}
use Rattle.cell_io.specs.Lines.{kept_of}
use Rattle.cell_record.specs.Words.{ends_with, dropped, content, is_long}
use Rattle.cell_record.specs.EventLine.{same, said_of}
use Rattle.cell_record.specs.Recording.{in_text, size_by, setup_word}
use Rattle.cell_record.specs.declared.refusal.BadWord.TheVariants as bad

-- ---- lengths

shorter : (line : List ℕ) → length line ≤ length (take (length line - 1) line) + 1
shorter line = omega (arith, length-take-le (length line - 1) line (omega arith))

one_less : (t : Bool) (line : List ℕ) → length line ≤ length (if t then take (length line - 1) line else line) + 1
one_less true line = shorter line
one_less false line = omega arith

two_less : (t : Bool) (line : List ℕ) → length line ≤ length (if t then dropped 13 (take (length line - 1) line) else line) + 2
two_less true line = let body = take (length line - 1) line in omega (arith, shorter line, one_less (ends_with 13 body) body)
two_less false line = omega arith

content_length : (line : List ℕ) → length line ≤ length (content line) + 2
content_length line = two_less (ends_with 10 line) line

long_content : (line : List ℕ) → 196612 ≤ length line → 196608 < length (content line)
long_content line h = omega (arith, h, content_length line)

long_is : (line : List ℕ) → 196612 ≤ length line → is_long line ≡ true
long_is line h = let l = long_content line h in grind (arith, nat_tests, l)

kept_whole : (line : List ℕ) → length line ≤ 196612 → kept_of line ≡ line
kept_whole line h = take_all 196612 line h

kept_size : (line : List ℕ) → 196612 ≤ length line → 196612 ≤ length (kept_of line)
kept_size line h = omega (arith, length-take-le 196612 line h)

-- ---- what is told of a line and of what is kept of it is the same, where it is the same of all long lines

kept : {T : Type 0} (f : List ℕ → T) (r : T) (line : List ℕ) (b : Bool) → nat_le (length line) 196612 ≡ b → ((l : List ℕ) → 196612 ≤ length l → f l ≡ r) → f (kept_of line) ≡ f line
kept f r line true e h = ap f (kept_whole line (grind (arith, nat_tests, e)))
kept f r line false e h =
    let long : 196612 ≤ length line = grind (arith, nat_tests, e) in
    h (kept_of line) (kept_size line long) ∙ sym (h line long)

other_size : (xs ys : List ℕ) → length ys < length xs → pointwise nat_eq xs ys ≡ false
other_size [] ys h = absurd (omega (arith, h))
other_size (x ∷ xs) [] h = refl
other_size (x ∷ xs) (y ∷ ys) h = grind (arith, nat_tests, common_steps, other_size xs ys)

pub kept_same : (line want : List ℕ) → length want < 196608 → same (content (kept_of line)) want ≡ same (content line) want
kept_same line want s = kept (λ l. same (content l) want) false line (nat_le (length line) 196612) refl (λ l h. other_size (content l) want (omega (arith, s, long_content l h)))

pub kept_said : (config : Config) (line : List ℕ) → said_of config (content (kept_of line)) ≡ said_of config (content line)
kept_said config line = kept (λ l. said_of config (content l)) (Err bad.Long) line (nat_le (length line) 196612) refl (λ l h. rw (long_is l h) refl)

pub kept_by : (size : ℕ) (line : List ℕ) → size_by size (kept_of line) ≡ size_by size line
kept_by size line = kept (size_by size) size line (nat_le (length line) 196612) refl (λ l h. rw (long_is l h) refl)

pub kept_word : (total : ℕ) (line : List ℕ) → setup_word total (kept_of line) ≡ setup_word total line
kept_word total line = kept (setup_word total) (if nat_lt 1048576 total then Some bad.Config else Some bad.Long) line (nat_le (length line) 196612) refl (λ l h. rw (long_is l h) refl)

-- of a line that isn't too long all is kept
pub kept_text : (line : List ℕ) → is_long line ≡ false → in_text (kept_of line) ≡ in_text line
kept_text line short = by_size (nat_le (length line) 196612) refl
  where
    by_size : (b : Bool) → nat_le (length line) 196612 ≡ b → in_text (kept_of line) ≡ in_text line
    by_size true e = ap in_text (kept_whole line (grind (arith, nat_tests, e)))
    by_size false e = let k = long_is line (grind (arith, nat_tests, e)) in absurd (cc (k, short))

-- a line that the text may have isn't too long, and adds its content and one line feed
pub no_word : (total : ℕ) (line : List ℕ) → setup_word total line ≡ None → (total ≤ 1048576) × (is_long line ≡ false)
no_word total line h = two (nat_lt 1048576 total) (is_long line) refl refl h
  where
    two : (a b : Bool) → nat_lt 1048576 total ≡ a → is_long line ≡ b → (if a then Some bad.Config else if b then Some bad.Long else None) ≡ None → (total ≤ 1048576) × (is_long line ≡ false)
    two true b x y e = cc
    two false true x y e = cc
    two false false x y e = (grind (arith, nat_tests, x), y)

pub short_size : (whole : ℕ) (line : List ℕ) → is_long line ≡ false → size_by whole line ≡ length (in_text line)
short_size whole line short = rw short (sym (length-append (content line) (10 ∷ [])))
