-- A line's content and its words (this profile's choice).
use Rattle.std.specs.Prelude.{ℕ, ◌+◌, ◌-◌, ◌*◌, ◌==◌, ◌&&◌, ◌||◌, not, true, false, Bool}
use Rattle.std.specs.Prelude.{if◌then◌else◌, List, [], ◌∷◌, length, drop, take, fold, slice_index}
use Rattle.std.specs.Prelude.{Some, None, nat_le, nat_lt}
use Rattle.std.specs.List.{prefix_len, list_all}
use Rattle.std.specs.declared.option.Option.{Option}

abbrev pub between : ℕ → ℕ → ℕ → Bool
between low high n = nat_le low n && nat_le n high

-- ---- the content

abbrev pub ends_with : ℕ → List ℕ → Bool
ends_with octet line = nat_lt 0 (length line) && (slice_index line (length line - 1) == octet)

-- without that octet at the end, where it stands there
abbrev pub dropped : ℕ → List ℕ → List ℕ
dropped octet line = if ends_with octet line then take (length line - 1) line else line

-- a line without its line feed (10), and without one carriage return (13) before that
abbrev pub content : List ℕ → List ℕ
content line = if ends_with 10 line then dropped 13 (take (length line - 1) line) else line

-- a line has at most 196,608 octets, its end not counted
abbrev pub is_long : List ℕ → Bool
is_long line = nat_lt 196608 (length (content line))

-- ---- words

-- a space or a tab
abbrev pub is_blank : ℕ → Bool
is_blank b = (b == 32) || (b == 9)

abbrev pub trim_front : List ℕ → List ℕ
trim_front [] = []
trim_front (b ∷ bs) = if is_blank b then trim_front bs else b ∷ bs

abbrev pub onto_kept : ℕ → List ℕ → List ℕ
onto_kept b [] = if is_blank b then [] else b ∷ []
onto_kept b (c ∷ kept) = b ∷ c ∷ kept

abbrev pub trim_back : List ℕ → List ℕ
trim_back [] = []
trim_back (b ∷ bs) = onto_kept b (trim_back bs)

-- without the spaces and tabs at both ends
abbrev pub trim : List ℕ → List ℕ
trim line = trim_back (trim_front line)

abbrev pub in_word : ℕ → Bool
in_word b = not (is_blank b)

-- the first word: the octets up to the first blank
abbrev pub word_of : List ℕ → List ℕ
word_of line = take (prefix_len in_word line) line

-- what stands after the first word and the blanks behind it
abbrev pub argument_of : List ℕ → List ℕ
argument_of line = trim_front (drop (prefix_len in_word line) line)

-- empty, or a comment, which begins with `#`
abbrev pub is_remark : List ℕ → Bool
is_remark [] = true
is_remark (b ∷ rest) = b == 35

-- ---- numbers

abbrev pub is_digit : ℕ → Bool
is_digit b = between 48 57 b

abbrev pub begins_with_digit : List ℕ → Bool
begins_with_digit [] = false
begins_with_digit (b ∷ rest) = is_digit b

abbrev pub value_of : List ℕ → ℕ
value_of digits = fold (λ n d. n * 10 + (d - 48)) 0 digits

-- the number that 1 to 9 decimal digits say, also with zeros in front
abbrev pub number_of : List ℕ → Option ℕ
number_of digits = if between 1 9 (length digits) && list_all is_digit digits
    then Some (value_of digits) else None

-- ---- octets

-- the value of a hexadecimal digit of either case, and 255 for other octets
abbrev pub nibble_of : ℕ → ℕ
nibble_of b =
    if between 48 57 b then b - 48
    else (if between 65 70 b then b - 55 else (if between 97 102 b then b - 87 else 255))

-- a hexadecimal digit of either case
abbrev pub is_hex : ℕ → Bool
is_hex b = nat_le (nibble_of b) 15

-- the octet of two digits in front of the others
abbrev pub with_octet : ℕ → ℕ → Option (List ℕ) → Option (List ℕ)
with_octet high low None = None
with_octet high low (Some octets) = if nat_lt 15 high || nat_lt 15 low then None
    else Some ((high * 16 + low) ∷ octets)

-- the octets of pairs of hexadecimal digits, with or without spaces (32) between pairs
abbrev pub pairs_of : List ℕ → Option (List ℕ)
pairs_of [] = Some []
pairs_of (a ∷ []) = if a == 32 then Some [] else None
pairs_of (a ∷ b ∷ rest) = if a == 32 then pairs_of (b ∷ rest)
    else with_octet (nibble_of a) (nibble_of b) (pairs_of rest)
