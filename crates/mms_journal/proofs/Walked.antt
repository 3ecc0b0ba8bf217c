-- Spelled variables begin with the element of the first, and that with its tag.
use Rattle.std.proofs.Common.{◌≡◌, ◌∙◌, ap, sym, refl, ℕ, ◌<◌, ◌^◌, ◌==◌, Bool, true, false, true≢false, ◌||◌, List, [], ◌∷◌, ◌++◌, length, arith, length-append, ◌%◌, ◌≤◌, nat_lt, drop, take, Result, Ok, Err, ◌-◌, suc, length-take, ◌+◌}
use Rattle.std.proofs.lemmas.Bool.Decides.{nat_tests}
use Rattle.std.specs.List.{list_any}
use Rattle.ber_core.proofs.Elements.{element_again}
use Rattle.ber_core.proofs.Spelled.{element_spelled}
use Rattle.ber_core.specs.Element.{IsElement}
use Rattle.ber_core.specs.Part.{Part}
use Rattle.ber_core.specs.Reading.{definite_at, element_at, identifier_at, length_at, tag_at}
use Rattle.ber_core.specs.Spelling.{element_octets, identifier_octets, length_octets}
use Rattle.ber_core.specs.declared.fault.BerError.{BerError}
use Rattle.ber_core.specs.declared.element.Lengths.TheVariants.{Definite}
use Rattle.ber_core.specs.declared.element.Tag.{Tag}
use Rattle.ber_forms.specs.Spelling.{member_octets, spelling, tag_of}
use Rattle.mms_types.specs.Spelling.{widest}
use Rattle.mms_types.specs.declared.journal.JournalVariable.{JournalVariable}
use Rattle.pdu_data.specs.Data.{data_choice}
use Rattle.pdu_names.specs.Kinds.{choice, context, visible_string}
use Rattle.pdu_events.specs.Entries.{journal_variable}
use Rattle.mms_journal.specs.Cuts.{CutNone, CutSome, FirstNone, FirstSome}
use Rattle.mms_journal.specs.Entries.{is_among, is_tagged}
use Rattle.mms_journal.specs.Kept.{variables_octets}
use Rattle.mms_journal.proofs.Told.{take_less}

abbrev pub variable_tag : Tag
variable_tag = tag_of 0 16 (journal_variable.form widest)

abbrev pub tag_tag : Tag
tag_tag = tag_of 2 0 (visible_string.form widest)

pub variable_octets : JournalVariable → List ℕ
variable_octets v = spelling (journal_variable.form widest) (journal_variable.value v)

pub value_octets : JournalVariable → List ℕ
value_octets v = member_octets ((context 1 (choice data_choice)).member widest) (data_choice.value v.value)

pub first_variable : (v : JournalVariable) (vs : List JournalVariable) → variables_octets (v ∷ vs) ≡ element_octets variable_tag (variable_octets v) ++ variables_octets vs
unfolding variables_octets variable_octets element_octets
first_variable v vs = refl

pub first_tag : (v : JournalVariable) → variable_octets v ≡ element_octets tag_tag v.tag ++ value_octets v
unfolding variable_octets value_octets element_octets identifier_octets
first_tag v = refl

pub none_left : variables_octets [] ≡ []
unfolding variables_octets
none_left = refl

not_empty : (v : JournalVariable) (vs : List JournalVariable) → variables_octets (v ∷ vs) ≡ [] → ⊥
unfolding variables_octets element_octets identifier_octets
not_empty v vs e = absurd cc

-- ---- the first element

contents_short : (octets rest contents : List ℕ) (tag : Tag) → octets ≡ element_octets tag contents ++ rest → length octets < 2 ^ 64 → length contents < 2 ^ 64
unfolding element_octets
contents_short octets rest contents tag split short =
    let a = length-append (element_octets tag contents) rest in
    let b = length-append (identifier_octets tag) (length_octets (length contents) ++ contents) in
    let c = length-append (length_octets (length contents)) contents in
    omega (arith, ap length split, a, b, c, short)

-- ---- from left to right

pub cut_some : (octets after : List ℕ) (q : Part) → length octets < 2 ^ 64
    → ((taken rest : List ℕ) (p : Part) → IsElement Definite taken p → octets ≡ taken ++ rest → (q ≡ p) × (after ≡ rest)) → CutSome octets q.contents after
cut_some octets after q short only tag contents rest class number split =
    let h = only (element_octets tag contents) rest (record { tag = tag; contents = contents })
    (element_spelled Definite tag contents class number (contents_short octets rest contents tag split short)) split in
    (ap (λ (p : Part). p.contents) h.0, h.1)

pub cut_none : (octets : List ℕ) → length octets < 2 ^ 64 → ((taken rest : List ℕ) (p : Part) → IsElement Definite taken p → octets ≡ taken ++ rest → ⊥) → CutNone octets
cut_none octets short only tag contents rest class number split =
    only (element_octets tag contents) rest (record { tag = tag; contents = contents })
    (element_spelled Definite tag contents class number (contents_short octets rest contents tag split short)) split

-- an identifier and a length of one octet each
found_in : Result (Part × List ℕ) BerError → Part × List ℕ
found_in (Ok x) = x
found_in (Err e) = (record { tag = tag_at 0 0; contents = [] }, [])

short_at : (a n : ℕ) (rest : List ℕ) → nat_lt (a % 32) 31 ≡ true → nat_lt n 128 ≡ true → nat_lt (length rest) n ≡ false
    → element_at Definite (a ∷ n ∷ rest) ≡ Ok (record { tag = tag_at a (a % 32); contents = take n rest }, drop n rest)
unfolding definite_at identifier_at length_at
short_at a n rest one short whole = rw (one, short, whole) refl

pub cut_short : (a n : ℕ) (rest : List ℕ) → length (a ∷ n ∷ rest) < 2 ^ 64 → a % 32 < 31 → n < 128 → n ≤ length rest → CutSome (a ∷ n ∷ rest) (take n rest) (drop n rest)
unfolding found_in
cut_short a n rest fits one short whole tag contents after class number split =
    let octets = a ∷ n ∷ rest in
    let p : Part = record { tag = tag; contents = contents } in
    let is = element_spelled Definite tag contents class number (contents_short octets after contents tag split fits) in
    let there : element_at Definite octets ≡ Ok (p, after) = ap (element_at Definite) split ∙ element_again Definite (element_octets tag contents) p after is in
    let here = short_at a n rest (grind (arith, nat_tests, one)) (grind (arith, nat_tests, short)) (grind (arith, nat_tests, whole)) in
    let same : found_in (element_at Definite octets) ≡ (p, after) = ap found_in there in
    let told = ap found_in here in
    (ap (λ (x : Part × List ℕ). x.0.contents) (sym told ∙ same), ap (λ (x : Part × List ℕ). x.1) (sym told ∙ same))

pub some_left : (rest : List ℕ) (b : Bool) → b ≡ (length rest == 0) → b ≡ false → rest ≡ [] → ⊥
some_left rest b is some none = true≢false (sym (is ∙ ap (λ (l : List ℕ). length l == 0) none) ∙ some)

pub nothing_left : (rest : List ℕ) (b : Bool) → b ≡ (length rest == 0) → b ≡ true → rest ≡ []
nothing_left [] b is none = refl
nothing_left (x ∷ rest) b is none = absurd (grind (arith, nat_tests, is, none))

-- ---- the first variable

pub tag_cut : (octets variable after tag value : List ℕ) → CutSome octets variable after → CutSome variable tag value → FirstSome octets tag after
tag_cut octets variable after tag value outer inner w ws split =
    let found = outer variable_tag (variable_octets w) (variables_octets ws) (omega arith) (omega arith) (split ∙ first_variable w ws) in
    ((inner tag_tag w.tag (value_octets w) (omega arith) (omega arith) (found.0 ∙ first_tag w)).0, found.1)

pub no_variable : (octets : List ℕ) → CutNone octets → FirstNone octets
no_variable octets cut w ws split = cut variable_tag (variable_octets w) (variables_octets ws) (omega arith) (omega arith) (split ∙ first_variable w ws)

pub no_tag : (octets variable after : List ℕ) → CutSome octets variable after → CutNone variable → FirstNone octets
no_tag octets variable after outer cut w ws split =
    let found = outer variable_tag (variable_octets w) (variables_octets ws) (omega arith) (omega arith) (split ∙ first_variable w ws) in
    cut tag_tag w.tag (value_octets w) (omega arith) (omega arith) (found.0 ∙ first_tag w)

take_two : (n a b : ℕ) (xs : List ℕ) → 2 ≤ n → take n (a ∷ b ∷ xs) ≡ a ∷ b ∷ take (n - 2) xs
take_two n a b xs le = let e : n ≡ suc (suc (n - 2)) = omega (arith, le) in ap (λ k. take k (a ∷ b ∷ xs)) e

drop_two : (n a b : ℕ) (xs : List ℕ) → 2 ≤ n → drop n (a ∷ b ∷ xs) ≡ drop (n - 2) xs
drop_two n a b xs le = let e : n ≡ suc (suc (n - 2)) = omega (arith, le) in ap (λ k. drop k (a ∷ b ∷ xs)) e

pub first_short : (count tag : ℕ) (rest : List ℕ) → length rest + 4 < 2 ^ 64 → count < 128 → tag + 2 ≤ count → count - 2 ≤ length rest
    → FirstSome (48 ∷ count ∷ 128 ∷ tag ∷ rest) (take tag rest) (drop (count - 2) rest)
first_short count tag rest fits few within long w ws split =
    let outer = cut_short 48 count (128 ∷ tag ∷ rest) (omega (arith, fits)) (omega arith) few (omega (arith, long))
    variable_tag (variable_octets w) (variables_octets ws) (omega arith) (omega arith) (split ∙ first_variable w ws) in
    let front = take (count - 2) rest in
    let variable : 128 ∷ tag ∷ front ≡ variable_octets w = sym (take_two count 128 tag rest (omega (arith, within))) ∙ outer.0 in
    let size : length front ≡ count - 2 = omega (arith, length-take (count - 2) rest, long) in
    let inner = cut_short 128 tag front (omega (arith, size, few)) (omega arith) (omega (arith, within, few)) (omega (arith, size, within))
    tag_tag w.tag (value_octets w) (omega arith) (omega arith) (variable ∙ first_tag w) in
    (sym (take_less tag (count - 2) rest (omega (arith, within))) ∙ inner.0, sym (drop_two count 128 tag rest (omega (arith, within))) ∙ outer.1)

-- ---- from left to right

module _ (p : JournalVariable → Bool) where
  -- whatever variables the whole spells, the rest spells some of which one passes exactly where one of them does
  abbrev pub Left : List ℕ → List ℕ → Type 0
  Left whole rest = (vs : List JournalVariable) → whole ≡ variables_octets vs → (ws : List JournalVariable) × (rest ≡ variables_octets ws) × (list_any p vs ≡ list_any p ws)

  pub ends : (whole rest : List ℕ) → rest ≡ [] → Left whole rest → (vs : List JournalVariable) → whole ≡ variables_octets vs → false ≡ list_any p vs
  ends whole rest none left vs is = by_left (left vs is)
    where
      by_left : (ws : List JournalVariable) × (rest ≡ variables_octets ws) × (list_any p vs ≡ list_any p ws) → false ≡ list_any p vs
      by_left ([], split, same) = sym same
      by_left (w ∷ ws, split, same) = absurd (not_empty w ws (sym split ∙ none))

  pub none_cut : (whole rest : List ℕ) → (rest ≡ [] → ⊥) → FirstNone rest → Left whole rest → (vs : List JournalVariable) → whole ≡ variables_octets vs → ⊥
  none_cut whole rest some cut left vs is = by_left (left vs is)
    where
      by_left : (ws : List JournalVariable) × (rest ≡ variables_octets ws) × (list_any p vs ≡ list_any p ws) → ⊥
      by_left ([], split, same) = some (split ∙ none_left)
      by_left (w ∷ ws, split, same) = cut w ws split

  -- the first of those that are left
  abbrev Here : List ℕ → List ℕ → List ℕ → Type 0
  Here whole tag after = (vs : List JournalVariable) → whole ≡ variables_octets vs
      → (w : JournalVariable) × (ws : List JournalVariable) × (tag ≡ w.tag) × (after ≡ variables_octets ws) × (list_any p vs ≡ (p w || list_any p ws))

  one_cut : (whole rest tag after : List ℕ) → (rest ≡ [] → ⊥) → FirstSome rest tag after → Left whole rest → Here whole tag after
  one_cut whole rest tag after some cut left vs is = by_left (left vs is)
    where
      by_left : (ws : List JournalVariable) × (rest ≡ variables_octets ws) × (list_any p vs ≡ list_any p ws)
          → (w : JournalVariable) × (ws : List JournalVariable) × (tag ≡ w.tag) × (after ≡ variables_octets ws) × (list_any p vs ≡ (p w || list_any p ws))
      by_left ([], split, same) = absurd (some (split ∙ none_left))
      by_left (w ∷ ws, split, same) = let found = cut w ws split in (w, ws, found.0, found.1, same)

-- by the tags alone
module _ (tags : List (List ℕ)) where
  pub passes : (whole rest tag after : List ℕ) → (rest ≡ [] → ⊥) → FirstSome rest tag after → Left (is_tagged tags) whole rest → is_among tags tag ≡ true
      → (vs : List JournalVariable) → whole ≡ variables_octets vs → true ≡ list_any (is_tagged tags) vs
  passes whole rest tag after some cut left has vs is =
      let h = one_cut (is_tagged tags) whole rest tag after some cut left vs is in
      let one : is_tagged tags h.0 ≡ true = ap (is_among tags) (sym h.2) ∙ has in
      sym (h.4 ∙ ap (λ b. b || list_any (is_tagged tags) h.1) one)

  pub goes_on : (whole rest tag after : List ℕ) → (rest ≡ [] → ⊥) → FirstSome rest tag after → Left (is_tagged tags) whole rest → is_among tags tag ≡ false
      → Left (is_tagged tags) whole after
  goes_on whole rest tag after some cut left has vs is =
      let h = one_cut (is_tagged tags) whole rest tag after some cut left vs is in
      let one : is_tagged tags h.0 ≡ false = ap (is_among tags) (sym h.2) ∙ has in
      (h.1, h.3, h.4 ∙ ap (λ b. b || list_any (is_tagged tags) h.1) one)
