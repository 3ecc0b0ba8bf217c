-- A line `<client> <hex>`, as it is cut in one pass.
use Rattle.cell_config.specs.declared.config.Config.{Config}
use Rattle.std.proofs.Common.{◌≡◌, ℕ, suc, ◌+◌, ◌-◌, ◌*◌, ◌<◌, ◌≤◌, ◌==◌, ◌&&◌, Bool, true, false, List, [], ◌∷◌, ◌++◌, length, take, drop, set, get_or, refl, sym, ap, ap₂, ◌∙◌, arith, append_assoc, length-append, Some, None, nat_lt}
use Rattle.std.proofs.lemmas.Bool.Decides.{nat_tests}
use Rattle.std.proofs.lemmas.Grind.{common_steps}
use Rattle.std.proofs.lemmas.List.{drop_more, take_more, take_more_set, take_all, length-take-le, take-append-drop, length-drop}
use Rattle.std.proofs.lemmas.List.Folds.{list_all-append}
use Rattle.std.proofs.Math.Seq.{take-append_seam, drop-append_seam, get_or-append_seam, take-append-add}
use Rattle.std.specs.List.{list_all, prefix_len}
use Rattle.std.specs.declared.option.Option.{Option}
use Rattle.cell_io.specs.Lines.{has_feed, first_line, after_line, kept_of}
use Rattle.cell_io.specs.Held.{Held, ahead}
use Rattle.std.specs.Io.KnownBytes.{prepend_known}
use Rattle.std.specs.Prelude.{IfSome}
use Rattle.cell_record.specs.Numbered.{Gives}
use Rattle.cell_io.proofs.Texts.{first_later, after_later, feed_later, first_here, after_here, feed_here}
use Rattle.cell_record.specs.Words.{is_blank, in_word, content, trim, trim_front, trim_back, word_of, argument_of, is_digit, is_hex, value_of, number_of, nibble_of, pairs_of}
use Rattle.cell_record.specs.EventLine.{said_of, heard_of}
use Rattle.cell_record.proofs.Trims.{back_kept}

-- ---- digits are no blanks and end no line

hex_feed : (b : ℕ) → is_hex b ≡ true → (b == 10) ≡ false
hex_feed b h = grind (arith, nat_tests, h)

hex_return : (b : ℕ) → is_hex b ≡ true → (b == 13) ≡ false
hex_return b h = grind (arith, nat_tests, h)

hex_blank : (b : ℕ) → is_hex b ≡ true → is_blank b ≡ false
hex_blank b h = grind (arith, nat_tests, h)

digit_hex : (b : ℕ) → is_digit b ≡ true → is_hex b ≡ true
digit_hex b h = grind (arith, nat_tests, h)

and_both : (a b : Bool) → (a && b) ≡ true → (a ≡ true) × (b ≡ true)
and_both true true h = (refl, refl)
and_both true false h = cc
and_both false b h = cc

hex_no_feed : (xs : List ℕ) → list_all is_hex xs ≡ true → has_feed xs ≡ false
hex_no_feed [] h = refl
hex_no_feed (b ∷ bs) h =
    let t = and_both (is_hex b) (list_all is_hex bs) h in
    rw (hex_feed b t.0) (hex_no_feed bs t.1)

digits_no_feed : (xs : List ℕ) → list_all is_digit xs ≡ true → has_feed xs ≡ false
digits_no_feed [] h = refl
digits_no_feed (b ∷ bs) h =
    let t = and_both (is_digit b) (list_all is_digit bs) h in
    rw (hex_feed b (digit_hex b t.0)) (digits_no_feed bs t.1)

-- ---- one pair more

pairs_appended : (xs os : List ℕ) (a b : ℕ) → list_all is_hex xs ≡ true → pairs_of xs ≡ Some os → is_hex a ≡ true → is_hex b ≡ true → pairs_of (xs ++ a ∷ b ∷ []) ≡ Some (os ++ (nibble_of a * 16 + nibble_of b) ∷ [])
pairs_appended [] os a b h e p q = grind (arith, nat_tests, common_steps, e, p, q)
pairs_appended (x ∷ []) os a b h e p q =
    let t = and_both (is_hex x) true h in
    let blank = hex_blank x t.0 in
    grind (arith, nat_tests, common_steps, e, t.0)
pairs_appended (x ∷ y ∷ xs) os a b h e p q =
    let t = and_both (is_hex x) (is_hex y && list_all is_hex xs) h in
    let u = and_both (is_hex y) (list_all is_hex xs) t.1 in
    by_rest (pairs_of xs) refl t.0 u.0 (λ us f. pairs_appended xs us a b u.1 f p q)
  where
    by_rest : (r : Option (List ℕ)) → pairs_of xs ≡ r → is_hex x ≡ true → is_hex y ≡ true → ((us : List ℕ) → pairs_of xs ≡ Some us → pairs_of (xs ++ a ∷ b ∷ []) ≡ Some (us ++ (nibble_of a * 16 + nibble_of b) ∷ []))
        → pairs_of (x ∷ y ∷ xs ++ a ∷ b ∷ []) ≡ Some (os ++ (nibble_of a * 16 + nibble_of b) ∷ [])
    by_rest None f m n more = grind (arith, nat_tests, common_steps, e, f, m, n)
    by_rest (Some us) f m n more = let rest = more us f in grind (arith, nat_tests, common_steps, e, f, rest, m, n)

two_more : (xs : List ℕ) (i d : ℕ) → i + 1 < length xs → take (i + 2) xs ≡ take i xs ++ get_or xs i d ∷ get_or xs (i + 1) d ∷ []
two_more xs i d h =
    let two : i + 1 + 1 ≡ i + 2 = omega arith in
    ap (λ (n : ℕ). take n xs) (sym two) ∙ take_more xs (i + 1) d h ∙ ap (λ (l : List ℕ). l ++ get_or xs (i + 1) d ∷ []) (take_more xs i d (omega (arith, h))) ∙ append_assoc (take i xs) (get_or xs i d ∷ []) (get_or xs (i + 1) d ∷ [])

whole_digits : (a b high low : ℕ) → high ≡ nibble_of a → low ≡ nibble_of b → high ≤ 15 → low ≤ 15 → (is_hex a ≡ true) × (is_hex b ≡ true)
whole_digits a b high low h l s t = (grind (arith, nat_tests, h, s), grind (arith, nat_tests, l, t))

-- a pair more was decoded from the front of a text
pub one_pair_more : (text to : List ℕ) (i high low d : ℕ) → 2 * i + 1 < length text → i < length to → high ≡ nibble_of (get_or text (2 * i) d) → low ≡ nibble_of (get_or text (2 * i + 1) d) → high ≤ 15 → low ≤ 15
    → list_all is_hex (take (2 * i) text) ≡ true → pairs_of (take (2 * i) text) ≡ Some (take i to)
    → (list_all is_hex (take (2 * (i + 1)) text) ≡ true) × (pairs_of (take (2 * (i + 1)) text) ≡ Some (take (i + 1) (set to i (high * 16 + low))))
one_pair_more text to i high low d l m h g s t hex octets =
    let a = get_or text (2 * i) d in
    let b = get_or text (2 * i + 1) d in
    let both = whole_digits a b high low h g s t in
    let next : 2 * (i + 1) ≡ 2 * i + 2 = omega arith in
    let front = ap (λ (n : ℕ). take n text) next ∙ two_more text (2 * i) d l in
    let octet : nibble_of a * 16 + nibble_of b ≡ high * 16 + low = ap₂ (λ (m n : ℕ). m * 16 + n) (sym h) (sym g) in (
      ap (list_all is_hex) front ∙ list_all-append is_hex (take (2 * i) text) (a ∷ b ∷ []) ∙ rw (hex, both.0, both.1) refl,
      ap pairs_of front ∙ pairs_appended (take (2 * i) text) (take i to) a b hex octets both.0 both.1 ∙ ap Some (ap (λ (o : ℕ). take i to ++ o ∷ []) octet ∙ sym (take_more_set to i (high * 16 + low) m)),
    )

-- ---- a line that is held whole

held_gives : (octets : List ℕ) (size given : ℕ) (left : Option (List ℕ)) → has_feed octets ≡ true → first_line octets ≡ take size octets → after_line octets ≡ drop size octets → 1 ≤ size → size ≤ length octets → size ≤ 196608
    → Gives (prepend_known octets left) (prepend_known (drop size octets) left) (first_line octets) given (given + size)
held_gives octets size given None f l r some within short = tt
held_gives octets size given (Some more) f l r some within short =
    let first : first_line (octets ++ more) ≡ first_line octets = first_here octets more f in
    let long : length (first_line octets) ≡ size = ap length l ∙ length-take-le size octets within in (
      omega (arith, some, within, length-append octets more),
      sym (ap kept_of first ∙ take_all 196612 (first_line octets) (omega (arith, long, short))),
      ap Some (ap (λ (front : List ℕ). front ++ more) (sym r) ∙ sym (after_here octets more f)),
      ap (λ (n : ℕ). given + n) (sym (ap length first ∙ long)),
    )

pub passed_gives : (held new : Held) (size : ℕ) (left : Option (List ℕ)) → held.ended ≡ false → new.ended ≡ held.ended → new.octets ≡ drop size held.octets → new.given ≡ held.given + size
    → has_feed held.octets ≡ true → first_line held.octets ≡ take size held.octets → after_line held.octets ≡ drop size held.octets → 1 ≤ size → size ≤ length held.octets → size ≤ 196608
    → Gives (ahead held left) (ahead new left) (first_line held.octets) held.given new.given
passed_gives held new size left e n o g f l r some within short =
    let still : new.ended ≡ false = n ∙ e in
    rw (e, still, o, g) (held_gives held.octets size held.given left f l r some within short)

feed_held : (octets : List ℕ) (left : Option (List ℕ)) → has_feed octets ≡ true → IfSome (prepend_known octets left) (λ text. has_feed text ≡ true)
feed_held octets None f = tt
feed_held octets (Some more) f = feed_here octets more f

pub passed_feed : (held : Held) (left : Option (List ℕ)) → held.ended ≡ false → has_feed held.octets ≡ true → IfSome (ahead held left) (λ text. has_feed text ≡ true)
passed_feed held left e f = rw e (feed_held held.octets left f)

-- ---- what the line says

blank_is : is_blank 32 ≡ true
blank_is = refl

-- without blanks at its ends
front_plain : (d : ℕ) (rest : List ℕ) → is_digit d ≡ true → trim_front (d ∷ rest) ≡ d ∷ rest
front_plain d rest h = rw (hex_blank d (digit_hex d h)) refl

digits_len : (ds rest : List ℕ) → list_all is_digit ds ≡ true → prefix_len in_word (ds ++ 32 ∷ rest) ≡ length ds
digits_len [] rest h = refl
digits_len (d ∷ ds) rest h =
    let t = and_both (is_digit d) (list_all is_digit ds) h in
    let more = digits_len ds rest t.1 in rw (hex_blank d (digit_hex d t.0)) (omega (arith, more))

hex_front : (hs : List ℕ) → list_all is_hex hs ≡ true → trim_front hs ≡ hs
hex_front [] h = refl
hex_front (b ∷ bs) h = rw (hex_blank b (and_both (is_hex b) (list_all is_hex bs) h).0) refl

word_plain : (ds hs : List ℕ) → list_all is_digit ds ≡ true → word_of (ds ++ 32 ∷ hs) ≡ ds
word_plain ds hs h = ap (λ (n : ℕ). take n (ds ++ 32 ∷ hs)) (digits_len ds hs h) ∙ take-append_seam ds (32 ∷ hs)

argument_plain : (ds hs : List ℕ) → list_all is_digit ds ≡ true → list_all is_hex hs ≡ true → argument_of (ds ++ 32 ∷ hs) ≡ hs
argument_plain ds hs h g = ap (λ (n : ℕ). trim_front (drop n (ds ++ 32 ∷ hs))) (digits_len ds hs h) ∙ ap trim_front (drop-append_seam ds (32 ∷ hs)) ∙ hex_front hs g

number_plain : (ds : List ℕ) → 1 ≤ length ds → length ds ≤ 9 → list_all is_digit ds ≡ true → number_of ds ≡ Some (value_of ds)
number_plain ds l m h = grind (arith, nat_tests, l, m, h)

trim_plain : (d : ℕ) (es gs : List ℕ) (h : ℕ) → is_digit d ≡ true → is_hex h ≡ true → trim ((d ∷ es) ++ 32 ∷ (gs ++ h ∷ [])) ≡ (d ∷ es) ++ 32 ∷ (gs ++ h ∷ [])
trim_plain d es gs h i g =
    let line = (d ∷ es) ++ 32 ∷ (gs ++ h ∷ []) in
    let seen : ((d ∷ es) ++ 32 ∷ gs) ++ h ∷ [] ≡ line = append_assoc (d ∷ es) (32 ∷ gs) (h ∷ []) in
    ap trim_back (front_plain d (es ++ 32 ∷ (gs ++ h ∷ [])) i) ∙ ap trim_back (sym seen) ∙ back_kept ((d ∷ es) ++ 32 ∷ gs) h (hex_blank h g) ∙ seen

plain_says : (config : Config) (d : ℕ) (es gs os : List ℕ) (h : ℕ) → list_all is_digit (d ∷ es) ≡ true → length (d ∷ es) ≤ 9 → list_all is_hex (gs ++ h ∷ []) ≡ true → is_hex h ≡ true → pairs_of (gs ++ h ∷ []) ≡ Some os
    → length ((d ∷ es) ++ 32 ∷ (gs ++ h ∷ [])) ≤ 196608 → said_of config ((d ∷ es) ++ 32 ∷ (gs ++ h ∷ [])) ≡ heard_of config (Some (value_of (d ∷ es))) (Some os)
plain_says config d es gs os h digits few hex last octets short =
    let hs = gs ++ h ∷ [] in
    let line = (d ∷ es) ++ 32 ∷ hs in
    let first = (and_both (is_digit d) (list_all is_digit es) digits).0 in
    let not_long : nat_lt 196608 (length line) ≡ false = grind (arith, nat_tests, short) in
    rw (not_long, trim_plain d es gs h first last, first, word_plain (d ∷ es) hs digits, argument_plain (d ∷ es) hs digits hex, number_plain (d ∷ es) (omega arith) few digits, octets) refl

-- the content of a line that ends with a digit and a line feed
content_plain : (xs : List ℕ) (h : ℕ) → is_hex h ≡ true → content ((xs ++ h ∷ []) ++ 10 ∷ []) ≡ xs ++ h ∷ []
content_plain xs h g =
    let body = xs ++ h ∷ [] in
    let size : length (body ++ 10 ∷ []) - 1 ≡ length body = omega (arith, length-append body (10 ∷ [])) in
    let less : length body - 1 ≡ length xs = omega (arith, length-append xs (h ∷ [])) in
    let some : nat_lt 0 (length (body ++ 10 ∷ [])) ≡ true = grind (arith, nat_tests, length-append body (10 ∷ [])) in
    let any : nat_lt 0 (length body) ≡ true = grind (arith, nat_tests, length-append xs (h ∷ [])) in
    rw (some, size, get_or-append_seam body 10 [] 0, take-append_seam body (10 ∷ []), any, less, get_or-append_seam xs h [] 0, hex_return h g) refl

says_cut : (config : Config) (ds gs os : List ℕ) (h : ℕ) → 1 ≤ length ds → length ds ≤ 9 → list_all is_digit ds ≡ true → list_all is_hex (gs ++ h ∷ []) ≡ true → is_hex h ≡ true → pairs_of (gs ++ h ∷ []) ≡ Some os
    → length (ds ++ 32 ∷ (gs ++ h ∷ [])) ≤ 196608 → said_of config (content ((ds ++ 32 ∷ (gs ++ h ∷ [])) ++ 10 ∷ [])) ≡ heard_of config (Some (value_of ds)) (Some os)
says_cut config [] gs os h some few digits hex last octets short = absurd (omega (arith, some))
says_cut config (d ∷ es) gs os h some few digits hex last octets short =
    let seen : ((d ∷ es) ++ 32 ∷ gs) ++ h ∷ [] ≡ (d ∷ es) ++ 32 ∷ (gs ++ h ∷ []) = append_assoc (d ∷ es) (32 ∷ gs) (h ∷ []) in
    ap (λ (l : List ℕ). said_of config (content (l ++ 10 ∷ []))) (sym seen)
    ∙ ap (said_of config) (content_plain ((d ∷ es) ++ 32 ∷ gs) h last ∙ seen)
    ∙ plain_says config d es gs os h digits few hex last octets short

last_hex : (gs : List ℕ) (h : ℕ) → list_all is_hex (gs ++ h ∷ []) ≡ true → is_hex h ≡ true
last_hex [] h e = (and_both (is_hex h) true e).0
last_hex (g ∷ gs) h e = last_hex gs h (and_both (is_hex g) (list_all is_hex (gs ++ h ∷ [])) e).1

-- ---- a text that begins with the line

-- its front, up to the line feed
cut_body : (text : List ℕ) (n k : ℕ) → n < length text → get_or text n 0 ≡ 32 → take (n + suc k) text ≡ take n text ++ 32 ∷ take k (drop (n + 1) text)
cut_body text n k h e =
    let front : length (take n text) ≡ n = length-take-le n text (omega (arith, h)) in
    let whole : text ≡ take n text ++ 32 ∷ drop (n + 1) text = sym (take-append-drop n text) ∙ ap (λ (l : List ℕ). take n text ++ l) (drop_more text n 0 h ∙ ap (λ (b : ℕ). b ∷ drop (n + 1) text) e) in
    ap (take (n + suc k)) whole
    ∙ ap (λ (i : ℕ). take (i + suc k) (take n text ++ 32 ∷ drop (n + 1) text)) (sym front)
    ∙ take-append-add (take n text) (32 ∷ drop (n + 1) text) (suc k)

-- what it says, its line feed and what stands after it
cut_is : (text os : List ℕ) (n m size : ℕ) → list_all is_digit (take n text) ≡ true → 1 ≤ n → n ≤ 9 → n < length text → get_or text n 0 ≡ 32
    → 1 ≤ m → list_all is_hex (take (2 * m) (drop (n + 1) text)) ≡ true → pairs_of (take (2 * m) (drop (n + 1) text)) ≡ Some os
    → size ≡ n + 2 * m + 2 → size ≤ length text → get_or text (size - 1) 0 ≡ 10 → size ≤ 196608
    → (has_feed text ≡ true) × (first_line text ≡ take size text) × (after_line text ≡ drop size text) × ((config : Config) → said_of config (content (first_line text)) ≡ heard_of config (Some (value_of (take n text))) (Some os))
cut_is text os n m size digits some few there blank any hex octets is within feed short =
    let ds = take n text in
    let tail = drop (n + 1) text in
    let hs = take (2 * m) tail in
    let body = ds ++ 32 ∷ hs in
    let k = n + suc (2 * m) in
    let next : size - 1 ≡ k = omega (arith, is) in
    let one : k + 1 ≡ size = omega (arith, is) in
    let front : take k text ≡ body = cut_body text n (2 * m) there blank in
    let at_k : get_or text k 0 ≡ 10 = ap (λ (i : ℕ). get_or text i 0) (sym next) ∙ feed in
    let in_text : k < length text = omega (arith, is, within) in
    let rest : drop k text ≡ 10 ∷ drop size text = drop_more text k 0 in_text ∙ ap₂ (λ (b i : ℕ). b ∷ drop i text) at_k one in
    let whole : text ≡ body ++ 10 ∷ drop size text = sym (take-append-drop k text) ∙ ap₂ (λ (xs ys : List ℕ). xs ++ ys) front rest in
    let line : take size text ≡ body ++ 10 ∷ [] = ap (λ (i : ℕ). take i text) (sym one) ∙ take_more text k 0 in_text ∙ ap₂ (λ (xs : List ℕ) (b : ℕ). xs ++ b ∷ []) front at_k in
    let no_feed : has_feed body ≡ false = feed_later ds (32 ∷ hs) (digits_no_feed ds digits) ∙ hex_no_feed hs hex in
    let first : first_line text ≡ body ++ 10 ∷ [] = ap first_line whole ∙ first_later body (10 ∷ drop size text) no_feed in
    let h = get_or tail (2 * m - 1) 0 in
    let gs = take (2 * m - 1) tail in
    let length_ds : length ds ≡ n = length-take-le n text (omega (arith, there)) in
    let tail_long : length tail ≡ length text - (n + 1) = length-drop (n + 1) text in
    let long_enough : 2 * m - 1 < length tail = omega (arith, tail_long, is, within, any) in
    let last_two : 2 * m - 1 + 1 ≡ 2 * m = omega (arith, any) in
    let parts : hs ≡ gs ++ h ∷ [] = ap (λ (i : ℕ). take i tail) (sym last_two) ∙ take_more tail (2 * m - 1) 0 long_enough in
    let hex_parts : list_all is_hex (gs ++ h ∷ []) ≡ true = ap (list_all is_hex) (sym parts) ∙ hex in
    let last : is_hex h ≡ true = last_hex gs h hex_parts in
    let hs_long : length hs ≡ 2 * m = length-take-le (2 * m) tail (omega (arith, tail_long, is, within)) in
    let parts_long : length (gs ++ h ∷ []) ≡ 2 * m = ap length (sym parts) ∙ hs_long in (
      ap has_feed whole ∙ feed_later body (10 ∷ drop size text) no_feed,
      first ∙ sym line,
      ap after_line whole ∙ after_later body (10 ∷ drop size text) no_feed,
      λ config. ap (λ (l : List ℕ). said_of config (content l)) (first ∙ ap (λ (l : List ℕ). (ds ++ 32 ∷ l) ++ 10 ∷ []) parts)
          ∙ says_cut config ds gs os h (omega (arith, some, length_ds)) (omega (arith, few, length_ds)) digits hex_parts last (ap pairs_of (sym parts) ∙ octets)
          (omega (arith, length-append ds (32 ∷ (gs ++ h ∷ [])), length_ds, parts_long, is, short)),
    )

-- the same, where what stands behind the blank is a piece of the text up to its end
pub cut_found : (text os : List ℕ) (n m size value : ℕ) → value ≡ value_of (take n text) → list_all is_digit (take n text) ≡ true → 1 ≤ n → n ≤ 9 → n < length text → get_or text n 0 ≡ 32
    → 1 ≤ m → list_all is_hex (take (2 * m) (take (length text - (n + 1)) (drop (n + 1) text))) ≡ true → pairs_of (take (2 * m) (take (length text - (n + 1)) (drop (n + 1) text))) ≡ Some os
    → size ≡ n + 2 * m + 2 → size ≤ length text → get_or text (size - 1) 0 ≡ 10 → size ≤ 196608
    → (has_feed text ≡ true) × (first_line text ≡ take size text) × (after_line text ≡ drop size text) × ((config : Config) → said_of config (content (first_line text)) ≡ heard_of config (Some value) (Some os))
cut_found text os n m size value v digits some few there blank any hex octets is within feed short =
    let whole : take (length text - (n + 1)) (drop (n + 1) text) ≡ drop (n + 1) text = take_all (length text - (n + 1)) (drop (n + 1) text) (omega (arith, length-drop (n + 1) text)) in
    let all = cut_is text os n m size digits some few there blank any (ap (λ (l : List ℕ). list_all is_hex (take (2 * m) l)) (sym whole) ∙ hex) (ap (λ (l : List ℕ). pairs_of (take (2 * m) l)) (sym whole) ∙ octets) is within feed short in
    (all.0, all.1, all.2, λ config. all.3 config ∙ ap (λ (n : ℕ). heard_of config (Some n) (Some os)) (sym v))

-- where a line feed is held, the end wasn't seen
pub still_open : (ended : Bool) (held octets : List ℕ) → (ended ≡ false → held ≡ octets) → (ended ≡ true → held ≡ []) → has_feed held ≡ true → ended ≡ false
still_open false held octets h k f = refl
still_open true held octets h k f =
    let none : has_feed [] ≡ true = ap has_feed (sym (k refl)) ∙ f in
    absurd (cc none)
