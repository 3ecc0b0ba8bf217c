-- A reader of lines in the middle of a line.
use Rattle.std.proofs.Common.{◌≡◌, ℕ, ◌+◌, ◌<◌, ◌≤◌, true, false, List, [], ◌∷◌, ◌++◌, length, refl, sym, ap, ◌∙◌, arith, Some, None, IfSome, subst, append_assoc, append-nil, length-append}
use Rattle.std.proofs.lemmas.Grind.{common_steps}
use Rattle.std.proofs.lemmas.Bool.Decides.{nat_tests}
use Rattle.std.specs.Io.KnownBytes.{Consumes, Keeps, prepend_known, IsAtEnd}
use Rattle.std.proofs.KnownBytes.{Consumes-nil, Consumes-kept}
use Rattle.std.specs.declared.option.Option.{Option}
use Rattle.cell_io.specs.Lines.{has_feed, first_line, after_line, kept_of}
use Rattle.cell_io.specs.Held.{Held, IsLaterPart, FailsInLine, StopsInLine}
use Rattle.cell_io.specs.Giving.{GivesLine, HadLine, HadNoLine, StopsFor, GoesAhead, GivesPart, StopsAtPart, FailsToRead}
use Rattle.cell_io.specs.declared.lines.Stop.{Stop}
use Rattle.cell_io.specs.declared.lines.Stop.TheVariants.{Fault}
use Rattle.cell_io.proofs.Kept.{kept_more, kept_length}
use Rattle.cell_io.proofs.Texts.{first_all, after_none, first_later, after_later, feed_later, first_here, after_here, longer, feed_here}

-- octets with no line feed were given since the line began, and kept in `line`
pub record Passed (before now : Option (List ℕ)) (began given : ℕ) (line : List ℕ) : Type 0 where
  pub octets : List ℕ
  pub consumed : Consumes before now octets
  pub no_feed : has_feed octets ≡ false
  pub kept : line ≡ kept_of octets
  pub size : given ≡ began + length octets

pub begun : (before : Option (List ℕ)) (began : ℕ) (line : List ℕ) → line ≡ [] → Passed before before began began line
begun before began line h = record {
  octets = [];
  consumed = Consumes-nil before;
  no_feed = refl;
  kept = h;
  size = omega arith;
}

moved : (before left : Option (List ℕ)) (bs held : List ℕ) → Consumes before (prepend_known held left) bs → Consumes before left (bs ++ held)
moved None left bs held p = tt
moved (Some x) None bs held p = absurd p
moved (Some x) (Some y) bs held p = p ∙ sym (append_assoc bs held y)

kept_then : (bs held line next : List ℕ) → line ≡ kept_of bs → next ≡ kept_of (line ++ held) → next ≡ kept_of (bs ++ held)
kept_then bs held line next h e = e ∙ ap (λ (l : List ℕ). kept_of (l ++ held)) h ∙ kept_more 196612 bs held

-- all that was held was given, and more comes
pub goes_on : (before left next : Option (List ℕ)) (mid new : Held) (began after : ℕ) (line longer : List ℕ) → Passed before (prepend_known mid.octets left) began mid.given line
    → has_feed mid.octets ≡ false → GivesPart mid new line longer → after ≡ new.given → Keeps left next
    → Passed before next began after longer
goes_on before left next mid new began after line longer p h g s k =
    let all = first_all mid.octets h in record {
      octets = p.octets ++ mid.octets;
      consumed = Consumes-kept before left next (p.octets ++ mid.octets) (moved before left p.octets mid.octets p.consumed) k;
      no_feed = feed_later p.octets mid.octets p.no_feed ∙ h;
      kept = kept_then p.octets mid.octets line longer p.kept (g.line ∙ ap (λ (l : List ℕ). kept_of (line ++ l)) all);
      size = omega (arith, p.size, s, g.size, ap length all, length-append p.octets mid.octets);
    }

-- ---- the line ends in what is held

some_first : (xs : List ℕ) → has_feed xs ≡ true → 0 < length (first_line xs)
some_first [] h = cc
some_first (b ∷ bs) h = grind (arith, nat_tests, common_steps)

given_some : (held : List ℕ) (began given after : ℕ) → began ≤ given → has_feed held ≡ true → after ≡ given + length (first_line held) → began < after
given_some held began given after p h s = omega (arith, some_first held h)

first_of : (x bs held y : List ℕ) → x ≡ bs ++ (held ++ y) → has_feed bs ≡ false → has_feed held ≡ true → first_line x ≡ bs ++ first_line held
first_of x bs held y p n h = ap first_line p ∙ first_later bs (held ++ y) n ∙ ap (λ (l : List ℕ). bs ++ l) (first_here held y h)

line_ended : (before left : Option (List ℕ)) (held : List ℕ) (began given : ℕ) (line whole : List ℕ) → Passed before (prepend_known held left) began given line
    → has_feed held ≡ true → whole ≡ kept_of (line ++ first_line held) → IfSome before (λ text. whole ≡ kept_of (first_line text))
line_ended None left held began given line whole p h e = tt
line_ended (Some x) None held began given line whole p h e = absurd p.consumed
line_ended (Some x) (Some y) held began given line whole p h e =
    kept_then p.octets (first_line held) line whole p.kept e ∙ sym (ap kept_of (first_of x p.octets held y p.consumed p.no_feed h))

rest_ended : (before left : Option (List ℕ)) (held rest : List ℕ) (began given : ℕ) (line : List ℕ) → Passed before (prepend_known held left) began given line
    → has_feed held ≡ true → rest ≡ after_line held → IfSome before (λ text. prepend_known rest left ≡ Some (after_line text))
rest_ended None left held rest began given line p h e = tt
rest_ended (Some x) None held rest began given line p h e = absurd p.consumed
rest_ended (Some x) (Some y) held rest began given line p h e =
    let after : after_line x ≡ after_line held ++ y = ap after_line p.consumed ∙ after_later p.octets (held ++ y) p.no_feed ∙ after_here held y h in
    ap Some (ap (λ (l : List ℕ). l ++ y) e ∙ sym after)

size_ended : (before left : Option (List ℕ)) (held : List ℕ) (began given after : ℕ) (line : List ℕ) → Passed before (prepend_known held left) began given line
    → has_feed held ≡ true → after ≡ given + length (first_line held) → IfSome before (λ text. after ≡ began + length (first_line text))
size_ended None left held began given after line p h e = tt
size_ended (Some x) None held began given after line p h e = absurd p.consumed
size_ended (Some x) (Some y) held began given after line p h e =
    omega (arith, e, p.size, ap length (first_of x p.octets held y p.consumed p.no_feed h), length-append p.octets (first_line held))

some_held : (xs : List ℕ) → has_feed xs ≡ true → 0 < length xs
some_held [] h = cc
some_held (b ∷ bs) h = omega arith

text_there : (before left : Option (List ℕ)) (held : List ℕ) (began given : ℕ) (line : List ℕ) → Passed before (prepend_known held left) began given line
    → has_feed held ≡ true → IfSome before (λ text. 0 < length text)
text_there None left held began given line p h = tt
text_there (Some x) None held began given line p h = absurd p.consumed
text_there (Some x) (Some y) held began given line p h =
    omega (arith, some_held held h, ap length p.consumed, length-append p.octets (held ++ y), length-append held y)

feed_there : (before left : Option (List ℕ)) (held : List ℕ) (began given : ℕ) (line : List ℕ) → Passed before (prepend_known held left) began given line
    → has_feed held ≡ true → IfSome before (λ text. has_feed text ≡ true)
feed_there None left held began given line p h = tt
feed_there (Some x) None held began given line p h = absurd p.consumed
feed_there (Some x) (Some y) held began given line p h = ap has_feed p.consumed ∙ feed_later p.octets (held ++ y) p.no_feed ∙ feed_here held y h

-- it is given
pub gives_ended : (old mid new : Held) (before left : Option (List ℕ)) (line longer : List ℕ) → old.ended ≡ false → new.ended ≡ false
    → Passed (prepend_known old.octets before) (prepend_known mid.octets left) old.given mid.given line → has_feed mid.octets ≡ true → GivesPart mid new line longer
    → GivesLine old before new left longer
gives_ended old mid new before left line longer o n p h g = record {
  line = rw o (line_ended _ left mid.octets _ _ _ longer p h g.line);
  rest = rw (o, n) (rest_ended _ left mid.octets new.octets _ _ _ p h g.rest);
  size = rw o (size_ended _ left mid.octets _ _ new.given _ p h g.size);
  kept = kept_length 196612 _ _ g.line;
}

pub had_ended : (old mid new : Held) (before left : Option (List ℕ)) (line longer : List ℕ) → old.ended ≡ false → old.given ≤ mid.given
    → Passed (prepend_known old.octets before) (prepend_known mid.octets left) old.given mid.given line → has_feed mid.octets ≡ true → GivesPart mid new line longer
    → HadLine old before new
had_ended old mid new before left line longer o order p h g = record {
  unended = o;
  there = rw o (text_there _ left mid.octets _ _ _ p h);
  grows = given_some mid.octets _ _ new.given order h g.size;
  feed = λ _. rw o (feed_there _ left mid.octets _ _ _ p h);
}

-- ---- the line ends with the input

whole_text : (x y bs : List ℕ) → x ≡ bs ++ y → y ≡ [] → x ≡ bs
whole_text x y bs p e = p ∙ ap (λ (l : List ℕ). bs ++ l) e ∙ append-nil bs

line_open : (before now : Option (List ℕ)) (began given : ℕ) (line : List ℕ) → Passed before now began given line → IsAtEnd now
    → IfSome before (λ text. line ≡ kept_of (first_line text))
line_open None now began given line p e = tt
line_open (Some x) None began given line p e = absurd p.consumed
line_open (Some x) (Some y) began given line p e =
    p.kept ∙ sym (ap kept_of (ap first_line (whole_text x y p.octets p.consumed e) ∙ first_all p.octets p.no_feed))

rest_open : (before now : Option (List ℕ)) (began given : ℕ) (line : List ℕ) → Passed before now began given line → IsAtEnd now
    → IfSome before (λ text. Some [] ≡ Some (after_line text))
rest_open None now began given line p e = tt
rest_open (Some x) None began given line p e = absurd p.consumed
rest_open (Some x) (Some y) began given line p e =
    ap Some (sym (ap after_line (whole_text x y p.octets p.consumed e) ∙ after_none p.octets p.no_feed))

size_open : (before now : Option (List ℕ)) (began given : ℕ) (line : List ℕ) → Passed before now began given line → IsAtEnd now
    → IfSome before (λ text. given ≡ began + length (first_line text))
size_open None now began given line p e = tt
size_open (Some x) None began given line p e = absurd p.consumed
size_open (Some x) (Some y) began given line p e =
    omega (arith, p.size, ap length (ap first_line (whole_text x y p.octets p.consumed e) ∙ first_all p.octets p.no_feed))

text_some : (before now : Option (List ℕ)) (began given : ℕ) (line : List ℕ) → Passed before now began given line → began < given
    → IfSome before (λ text. 0 < length text)
text_some None now began given line p e = tt
text_some (Some x) None began given line p e = absurd p.consumed
text_some (Some x) (Some y) began given line p e = omega (arith, p.size, ap length p.consumed, length-append p.octets y)

none_long : (bs : List ℕ) → length bs ≡ 0 → bs ≡ []
none_long [] h = refl
none_long (b ∷ bs) h = absurd (omega arith)

text_none : (before now : Option (List ℕ)) (began given : ℕ) (line : List ℕ) → Passed before now began given line → IsAtEnd now → ¬ (began < given)
    → IfSome before (λ text. text ≡ [])
text_none None now began given line p e n = tt
text_none (Some x) None began given line p e n = absurd p.consumed
text_none (Some x) (Some y) began given line p e n =
    whole_text x y p.octets p.consumed e ∙ none_long p.octets (omega (arith, p.size, n))

pub held_end : (left : Option (List ℕ)) (held : List ℕ) → held ≡ [] → IsAtEnd left → IsAtEnd (prepend_known held left)
held_end None held h e = tt
held_end (Some y) held h e = ap (λ (l : List ℕ). l ++ y) h ∙ e

-- it is given
pub gives_open : (old new : Held) (before left now : Option (List ℕ)) (line : List ℕ) → old.ended ≡ false → new.ended ≡ true
    → Passed (prepend_known old.octets before) now old.given new.given line → IsAtEnd now → GivesLine old before new left line
gives_open old new before left now line o n p e = record {
  line = rw o (line_open _ now _ _ line p e);
  rest = rw (o, n) (rest_open _ now _ _ line p e);
  size = rw o (size_open _ now _ _ line p e);
  kept = kept_length 196612 _ _ p.kept;
}

pub had_open : (old new : Held) (before now : Option (List ℕ)) (line : List ℕ) → old.ended ≡ false → new.ended ≡ true
    → Passed (prepend_known old.octets before) now old.given new.given line → old.given < new.given → HadLine old before new
had_open old new before now line o n p more = record {
  unended = o;
  there = rw o (text_some _ now _ _ line p more);
  grows = more;
  feed = λ x. cc;
}

pub had_none : (old new : Held) (before now : Option (List ℕ)) (line : List ℕ) → old.ended ≡ false → new.ended ≡ true
    → Passed (prepend_known old.octets before) now old.given new.given line → IsAtEnd now → ¬ (old.given < new.given) → HadNoLine old before new
had_none old new before now line o n p e none = record {
  none = rw o (text_none _ now _ _ line p e none);
  stays = omega (arith, p.size, none);
  over = n;
}

-- ---- the reader stops

-- the line goes past the most octets
past : (before left : Option (List ℕ)) (held : List ℕ) (began given most : ℕ) (line : List ℕ) → Passed before (prepend_known held left) began given line
    → most < given + length (first_line held) → IfSome before (λ text. most < began + length (first_line text))
past None left held began given most line p h = tt
past (Some x) None held began given most line p h = absurd p.consumed
past (Some x) (Some y) held began given most line p h =
    let first : first_line x ≡ p.octets ++ first_line (held ++ y) = ap first_line p.consumed ∙ first_later p.octets (held ++ y) p.no_feed in
    omega (arith, p.size, ap length first, length-append p.octets (first_line (held ++ y)), longer held y)

-- the source failed: the front of a line was read
fails : (held : Held) (before left : Option (List ℕ)) (given : ℕ) (line : List ℕ) → held.ended ≡ false → Passed (prepend_known held.octets before) left held.given given line
    → FailsInLine held before left given
fails held before left given line o p = record {
  unended = o;
  octets = p.octets;
  consumed = rw o p.consumed;
  no_feed = p.no_feed;
  size = p.size;
}

-- the front of a line was given
stops : (held after : Held) (before left : Option (List ℕ)) (line : List ℕ) → held.ended ≡ false → after.ended ≡ false → Passed (prepend_known held.octets before) (prepend_known after.octets left) held.given after.given line
    → StopsInLine held before after left
stops held after before left line o e p = record {
  unended = (o, e);
  octets = p.octets;
  consumed = rw (o, e) p.consumed;
  no_feed = p.no_feed;
  size = p.size;
}

none_held : (octets : List ℕ) (left : Option (List ℕ)) → octets ≡ [] → left ≡ prepend_known octets left
none_held octets None h = refl
none_held octets (Some y) h = ap (λ (l : List ℕ). Some (l ++ y)) (sym h)

-- and nothing is held
stops_empty : (held after : Held) (before left : Option (List ℕ)) (line : List ℕ) → held.ended ≡ false → after.ended ≡ false → after.octets ≡ [] → Passed (prepend_known held.octets before) left held.given after.given line
    → StopsInLine held before after left
stops_empty held after before left line o e h p =
    stops held after before left line o e (subst (λ (x : Option (List ℕ)). Passed (prepend_known held.octets before) x held.given after.given line) (none_held after.octets left h) p)

-- a part of the line wasn't given
pub stops_at_part : (stop : Stop) (old mid new : Held) (before left : Option (List ℕ)) (line : List ℕ) → old.ended ≡ false → mid.ended ≡ false
    → Passed (prepend_known old.octets before) (prepend_known mid.octets left) old.given mid.given line → StopsAtPart stop mid new → StopsFor stop old before new left
stops_at_part stop old mid new before left line o m p s = record {
  too_much = λ e. rw o (past _ left mid.octets _ mid.given 4294967296 line p (s.too_much e));
  before_end = λ e. absurd (s.cause e);
  stops = rw s.stays (stops old mid before left line o m p);
}

-- the source failed
pub stops_at_read : (old mid new : Held) (before left last : Option (List ℕ)) (line : List ℕ) → old.ended ≡ false → mid.ended ≡ false
    → Passed (prepend_known old.octets before) last old.given new.given line → FailsToRead mid left new last → StopsFor Fault old before new last
stops_at_read old mid new before left last line o m p f = record {
  too_much = λ e. cc;
  before_end = λ _. fails old before last new.given line o p;
  stops = stops_empty old new before last line o (f.same ∙ m) f.emptied p;
}

-- ---- what is left in the source

pub later_none : (a : Option (List ℕ)) → IsLaterPart a a
later_none a = ([], Consumes-nil a)

pub later_kept : (a b c : Option (List ℕ)) → IsLaterPart a b → Keeps b c → IsLaterPart a c
later_kept a b c p k = (p.0, Consumes-kept a b c p.0 p.1 k)

-- what was read is held
pub later_held : (a b c : Option (List ℕ)) (held : List ℕ) → IsLaterPart a b → Keeps b (prepend_known held c) → IsLaterPart a c
later_held a b c held p k = (p.0 ++ held, moved a c p.0 held (Consumes-kept a b (prepend_known held c) p.0 p.1 k))

-- the end isn't seen
pub goes_unended : (old new : Held) (before left : Option (List ℕ)) → old.given ≤ new.given → new.given ≤ 4294967296 → new.ended ≡ false → IsLaterPart before left
    → GoesAhead old before new left
goes_unended old new before left order most unended later = record {
  order = order;
  most = most;
  seen = λ _ e. cc;
  left = later;
}

-- it is seen
pub goes_ended : (old new : Held) (before left : Option (List ℕ)) → old.given ≤ new.given → new.given ≤ 4294967296 → IsAtEnd left → IsLaterPart before left
    → GoesAhead old before new left
goes_ended old new before left order most end later = record {
  order = order;
  most = most;
  seen = λ _ _. end;
  left = later;
}
