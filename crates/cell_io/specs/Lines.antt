-- The lines of a text: a line feed (10) ends a line and belongs to it. This profile's choice.
use Rattle.std.specs.Prelude.{ℕ, ◌==◌, Bool, true, false, cond, List, [], ◌∷◌, take}

-- an octet more at the front of the first line
abbrev pub onto_first : ℕ → List (List ℕ) → List (List ℕ)
onto_first b [] = (b ∷ []) ∷ []
onto_first b (line ∷ rest) = (b ∷ line) ∷ rest

-- the lines of a text, each with its line feed, which the last one may lack
abbrev pub lines_of : List ℕ → List (List ℕ)
lines_of [] = []
lines_of (b ∷ bs) = cond (b == 10) ((b ∷ []) ∷ lines_of bs) (onto_first b (lines_of bs))

-- some line ends here
abbrev pub has_feed : List ℕ → Bool
has_feed [] = false
has_feed (b ∷ bs) = cond (b == 10) true (has_feed bs)

-- the first line, with its line feed
abbrev pub first_line : List ℕ → List ℕ
first_line [] = []
first_line (b ∷ bs) = cond (b == 10) (b ∷ []) (b ∷ first_line bs)

-- what stands after the first line
abbrev pub after_line : List ℕ → List ℕ
after_line [] = []
after_line (b ∷ bs) = cond (b == 10) bs (after_line bs)

-- what is kept of a line: its first 196,612 octets
abbrev pub kept_of : List ℕ → List ℕ
kept_of line = take 196612 line

-- the whole lines of some octets: up to the last line feed
abbrev pub whole_lines : List ℕ → List ℕ
whole_lines [] = []
whole_lines (b ∷ bs) = cond (has_feed (b ∷ bs)) (b ∷ whole_lines bs) []
