-- What is refused within an element of indefinite length, and why.
use Rattle.std.proofs.Common.{◌≡◌, ℕ, zero, suc, ◌+◌, ◌-◌, ◌<◌, ◌≤◌, ◌⊎◌, inl, inr, Bool, true, false, eqb, ltb, List, [], ◌∷◌, ◌++◌, length, drop, Option, Some, None, Result, Ok, Err, refl, sym, ap, subst, ◌∙◌, append_assoc, arith}
use Rattle.std.proofs.lemmas.Bool.{le-ltb, ne_eqb}
use Rattle.std.proofs.lemmas.List.{length-append, append-nil}
use Rattle.ber_core.specs.declared.element.Tag.{Tag}
use Rattle.ber_core.specs.declared.element.Lengths.TheVariants.{Definite, Either}
use Rattle.ber_core.specs.declared.fault.BerError.{BerError}
use Rattle.ber_core.specs.declared.fault.BerError.TheVariants.{Short, BadTag, BadLength, BadContents}
use Rattle.ber_core.specs.Part.{Part}
use Rattle.ber_core.specs.Element.{IsIdentifier, IsDefiniteElement, begins_end, IsEitherElement, of_definite, of_indefinite, AreContents, without_element, with_element}
use Rattle.ber_core.specs.Reading.{◌>>=◌, identifier_at, length_at, definite_at, opening_by, opening_at, passed_by, passed_at, closing, ended, either_by, either_at}
use Rattle.ber_core.specs.Refusal.{HasBadNumber, HasBadDefiniteLength, HasBadEitherLength, IsLeftWithin, itself, within, Within, EndsEarly}
use Rattle.ber_core.proofs.Definites.{IsBytes, ok_is, chosen, identifier_again, definite_again}
use Rattle.ber_core.proofs.DefiniteRefused.{IsRefused, definite_refused, tag_bad, length_bad, identifier_bad, same_error}
use Rattle.ber_core.proofs.Closed.{end_in_front, begins_same, identifier_no_end, definite_two, opening_takes, opening_again, Closes, closes_element, closes_opening, Passed, passed_takes, passed_bytes, bytes_after, passed_opening, closing_step, stop_step, closing_zero, passed_shorter, made, contents_skipped}

abbrev done : {A : Type 0} → A → Result A BerError
done x = Ok x

abbrev bad : {A : Type 0} → BerError → Result A BerError
bad e = Err e

-- ---- what is left of open contents, up to what is refused

-- The octets are the rest of so many open contents, and these are left after some of it, or within the next element by IsLeftWithin.
abbrev Leaves : ℕ → List ℕ → List ℕ → Type 0
Leaves zero octets left = ⊥
Leaves (suc depth) octets left =
    (contents : List ℕ) × (next : List ℕ) × AreContents contents × (octets ≡ contents ++ next)
    × (IsLeftWithin next left ⊎ ((rest : List ℕ) × (next ≡ 0 ∷ 0 ∷ rest) × Leaves depth rest left))

leaves_element : (depth : ℕ) (first rest left : List ℕ) (p : Part) → IsEitherElement first p → begins_end first ≡ false → Leaves (suc depth) rest left → Leaves (suc depth) (first ++ rest) left
leaves_element depth first rest left p is other (contents, next, are, split, h) =
    (first ++ contents, next, with_element (first ++ contents) first contents p is other are refl, ap (λ (s : List ℕ). first ++ s) split ∙ sym (append_assoc first contents next), h)

leaves_opening : (depth : ℕ) (i rest left : List ℕ) (t : Tag) → IsIdentifier i t → t.constructed ≡ true → Leaves (suc (suc depth)) rest left → Leaves (suc depth) (i ++ 128 ∷ rest) left
leaves_opening depth i rest left t is constructed (contents, next, are, split, inl h) =
    ([], i ++ 128 ∷ rest, without_element, refl, inl (within (i ++ 128 ∷ rest) i contents next left t is constructed are (ap (λ (s : List ℕ). i ++ 128 ∷ s) split) h))
leaves_opening depth i rest left t is constructed (contents, next, are, split, inr (after, last, h)) =
    let first : List ℕ = i ++ 128 ∷ (contents ++ 0 ∷ 0 ∷ []) in
    let spread : first ++ after ≡ i ++ 128 ∷ (contents ++ 0 ∷ 0 ∷ after) = simp append_assoc in
    let whole : first ++ after ≡ i ++ 128 ∷ rest = spread ∙ ap (λ (s : List ℕ). i ++ 128 ∷ (contents ++ s)) (sym last) ∙ ap (λ (s : List ℕ). i ++ 128 ∷ s) (sym split) in
    subst (λ (s : List ℕ). Leaves (suc depth) s left) whole
    (leaves_element depth first after left (made t contents) (of_indefinite first i (made t contents) is constructed are refl) (identifier_no_end i t 128 (contents ++ 0 ∷ 0 ∷ []) is (omega arith)) h)

passed_leaves : (depth : ℕ) (octets : List ℕ) (after : ℕ) (rest left : List ℕ) → Passed depth octets after rest → Leaves after rest left → Leaves (suc depth) octets left
passed_leaves depth octets after rest left (inl e) h = ([], octets, without_element, refl, inr (rest, e.1, subst (λ (n : ℕ). Leaves n rest left) e.0 h))
passed_leaves depth octets after rest left (inr (inl (p, e, other, f))) h =
    let kept : begins_end f.taken ≡ false = sym (begins_same f.taken rest (definite_two f.taken p f.holds)) ∙ ap begins_end (sym f.parts) ∙ other in
    subst (λ (s : List ℕ). Leaves (suc depth) s left) (sym f.parts)
    (leaves_element depth f.taken rest left p (of_definite f.taken p f.holds) kept (subst (λ (n : ℕ). Leaves n rest left) e h))
passed_leaves depth octets after rest left (inr (inr (t, e, constructed, f))) h =
    subst (λ (s : List ℕ). Leaves (suc depth) s left) (sym f.parts)
    (leaves_opening depth f.taken rest left t f.holds constructed (subst (λ (n : ℕ). Leaves n rest left) e h))

-- ---- octets that end within open contents

-- some more octets close them
record Unclosed (depth : ℕ) (octets : List ℕ) : Type 0 where
  more : List ℕ
  some : 0 < length more
  closes : Closes depth (octets ++ more) []

-- so many ends
ends : ℕ → List ℕ
ends zero = []
ends (suc depth) = 0 ∷ 0 ∷ ends depth

ends_close : (depth : ℕ) → Closes depth (ends depth) []
unfolding ends
ends_close zero = refl
ends_close (suc depth) = ([], ends depth, without_element, refl, ends_close depth)

ends_some : (depth : ℕ) → 0 < length (ends (suc depth))
unfolding ends
ends_some depth = omega arith

unclosed_passed : (depth : ℕ) (octets : List ℕ) (after : ℕ) (rest : List ℕ) → Passed depth octets after rest → Unclosed after rest → Unclosed (suc depth) octets
unclosed_passed depth octets after rest (inl e) u = record {
  more = u.more;
  some = u.some;
  closes = ([], rest ++ u.more, without_element, ap (λ (s : List ℕ). s ++ u.more) e.1, subst (λ (n : ℕ). Closes n (rest ++ u.more) []) e.0 u.closes);
}
unclosed_passed depth octets after rest (inr (inl (p, e, other, f))) u =
    let kept : begins_end f.taken ≡ false = sym (begins_same f.taken rest (definite_two f.taken p f.holds)) ∙ ap begins_end (sym f.parts) ∙ other in
    let whole : f.taken ++ (rest ++ u.more) ≡ octets ++ u.more = sym (append_assoc f.taken rest u.more) ∙ ap (λ (s : List ℕ). s ++ u.more) (sym f.parts) in
    record {
      more = u.more;
      some = u.some;
      closes = subst (λ (s : List ℕ). Closes (suc depth) s []) whole
          (closes_element depth f.taken (rest ++ u.more) [] p (of_definite f.taken p f.holds) kept (subst (λ (n : ℕ). Closes n (rest ++ u.more) []) e u.closes));
    }
unclosed_passed depth octets after rest (inr (inr (t, e, constructed, f))) u =
    let whole : f.taken ++ 128 ∷ (rest ++ u.more) ≡ octets ++ u.more = sym (append_assoc f.taken (128 ∷ rest) u.more) ∙ ap (λ (s : List ℕ). s ++ u.more) (sym f.parts) in
    record {
      more = u.more;
      some = u.some;
      closes = subst (λ (s : List ℕ). Closes (suc depth) s []) whole
          (closes_opening depth f.taken (rest ++ u.more) [] t f.holds constructed (subst (λ (n : ℕ). Closes n (rest ++ u.more) []) e u.closes));
    }

abbrev end_part : Part
end_part = record { tag = record { class = 0; constructed = false; number = 0 }; contents = [] }

end_read : (rest : List ℕ) → definite_at (0 ∷ 0 ∷ rest) ≡ Ok (end_part, rest)
unfolding definite_at identifier_at length_at
end_read rest = let long : ltb (length rest) 0 ≡ false = le-ltb _ _ (omega arith) in rw long refl

-- an element of definite length that is the end of contents
definite_end : (octets : List ℕ) (p : Part) → IsDefiniteElement octets p → begins_end octets ≡ true → octets ≡ 0 ∷ 0 ∷ []
definite_end octets p is e =
    let front = end_in_front octets e in
    let read = definite_again octets p [] is in
    let same = ok_is (p, []) (end_part, drop 2 octets) (sym read ∙ ap definite_at (append-nil octets ∙ front) ∙ end_read (drop 2 octets)) in
    front ∙ ap (λ (s : List ℕ). 0 ∷ 0 ∷ s) (sym (ap (λ (z : Part × List ℕ). z.1) same))

early_unclosed : (depth : ℕ) (octets : List ℕ) → EndsEarly Definite octets → Unclosed (suc depth) octets
early_unclosed depth octets (more, p, some, is) = by_end (begins_end (octets ++ more)) refl
  where
    by_end : (b : Bool) → begins_end (octets ++ more) ≡ b → Unclosed (suc depth) octets
    by_end true e = record {
      more = more ++ ends depth;
      some = omega (arith, some, length-append more (ends depth));
      closes = ([], ends depth, without_element, sym (append_assoc octets more (ends depth)) ∙ ap (λ (s : List ℕ). s ++ ends depth) (definite_end (octets ++ more) p is e), ends_close depth);
    }
    by_end false e = record {
      more = more ++ ends (suc depth);
      some = omega (arith, some, length-append more (ends (suc depth)));
      closes = subst (λ (s : List ℕ). Closes (suc depth) s []) (append_assoc octets more (ends (suc depth)))
          (closes_element depth (octets ++ more) (ends (suc depth)) [] p (of_definite (octets ++ more) p is) e (ends_close (suc depth)));
    }

-- ---- from the refusal to the condition

-- the condition of each refusal within so many open contents
abbrev IsRefusedIn : ℕ → List ℕ → BerError → Type 0
IsRefusedIn depth octets Short = Unclosed depth octets
IsRefusedIn depth octets BadTag = (left : List ℕ) × Leaves depth octets left × HasBadNumber left
IsRefusedIn depth octets BadLength = (left : List ℕ) × Leaves depth octets left × HasBadEitherLength left
IsRefusedIn depth octets BadContents = ⊥

passed_refused : (depth : ℕ) (octets : List ℕ) (after : ℕ) (rest : List ℕ) (e : BerError) → Passed depth octets after rest → IsRefusedIn after rest e → IsRefusedIn (suc depth) octets e
passed_refused depth octets after rest Short passed h = unclosed_passed depth octets after rest passed h
passed_refused depth octets after rest BadTag passed (left, leaves, why) = (left, passed_leaves depth octets after rest left passed leaves, why)
passed_refused depth octets after rest BadLength passed (left, leaves, why) = (left, passed_leaves depth octets after rest left passed leaves, why)
passed_refused depth octets after rest BadContents passed h = absurd h

no_some : {A P : Type 0} (x : A) → Some x ≡ None → P
no_some x e = absurd cc

-- a bad definite length that is not the octet 80
either_length : (octets : List ℕ) → opening_at octets ≡ None → HasBadDefiniteLength octets → HasBadEitherLength octets
either_length octets none h = by_kind h.is_bad
  where
    by_kind : (h.first ≡ 128) ⊎ (136 < h.first) → HasBadEitherLength octets
    by_kind (inl is) =
        no_some (h.tag, h.rest) (sym (opening_again h.identifier h.tag h.rest h.is_identifier) ∙ ap opening_at (sym (h.whole ∙ ap (λ (k : ℕ). h.identifier ++ k ∷ h.rest) is)) ∙ none)
    by_kind (inr many) = record { identifier = h.identifier; tag = h.tag; first = h.first; rest = h.rest; is_identifier = h.is_identifier; is_bad = inr many; whole = h.whole }

leaves_itself : (depth : ℕ) (octets : List ℕ) → Leaves (suc depth) octets octets
leaves_itself depth octets = ([], octets, without_element, refl, inl (itself octets))

definite_refused_in : (depth : ℕ) (octets : List ℕ) (e : BerError) → opening_at octets ≡ None → IsRefused Definite octets e → IsRefusedIn (suc depth) octets e
definite_refused_in depth octets Short none h = early_unclosed depth octets h
definite_refused_in depth octets BadTag none h = (octets, leaves_itself depth octets, h)
definite_refused_in depth octets BadLength none h = (octets, leaves_itself depth octets, either_length octets none h)
definite_refused_in depth octets BadContents none h = absurd h

-- the octet 80 after the identifier of a tag without the constructed bit
primitive_length : (octets : List ℕ) (x : Tag × List ℕ) → IsBytes octets → opening_at octets ≡ Some x → x.0.constructed ≡ false → HasBadEitherLength octets
primitive_length octets x fits is primitive =
    let f = opening_takes octets x fits is in
    record { identifier = f.taken; tag = x.0; first = 128; rest = x.1; is_identifier = f.holds; is_bad = inl (refl, primitive); whole = f.parts }

bind_bad : {A B : Type 0} (r : Result A BerError) (f : A → Result B BerError) (e : BerError) → (r >>= f) ≡ Err e → (r ≡ Err e) ⊎ ((x : A) × (r ≡ Ok x) × (f x ≡ Err e))
bind_bad (Ok x) f e h = inr (x, refl, h)
bind_bad (Err d) f e h = inl (cc h)

no_error : {A P : Type 0} (x : A) (e : BerError) → done x ≡ bad e → P
no_error x e h = absurd cc

step_refused : (depth : ℕ) (octets : List ℕ) (e : BerError) → IsBytes octets → passed_at depth octets ≡ Err e → IsRefusedIn (suc depth) octets e
unfolding passed_at
step_refused depth octets e fits h =
    elim (chosen (begins_end octets) (done (depth, drop 2 octets)) (passed_by depth octets (opening_at octets)) (bad e) h) [
      | inl w ↦ no_error (depth, drop 2 octets) e w.1
      | inr w ↦ by_opening (opening_at octets) refl w.1
    ]
  where
    by_opening : (o : Option (Tag × List ℕ)) → opening_at octets ≡ o → passed_by depth octets o ≡ Err e → IsRefusedIn (suc depth) octets e
    by_opening None is r =
        elim (bind_bad (definite_at octets) (λ y. done (suc depth, y.1)) e r) [
          | inl w ↦ definite_refused_in depth octets e is (definite_refused octets e fits w)
          | inr w ↦ no_error (suc depth, w.0.1) e w.2
        ]
    by_opening (Some y) is r =
        elim (chosen y.0.constructed (done (suc (suc depth), y.1)) (bad BadLength) (bad e) r) [
          | inl w ↦ no_error (suc (suc depth), y.1) e w.1
          | inr w ↦ subst (IsRefusedIn (suc depth) octets) (sym (same_error BadLength e w.1)) (octets, leaves_itself depth octets, primitive_length octets y fits is w.0)
        ]

no_octets : (octets : List ℕ) → length octets ≤ 0 → octets ≡ []
no_octets [] le = refl
no_octets (a ∷ octets) le = absurd (omega (arith, le))

closing_refused : (steps depth : ℕ) (octets : List ℕ) (e : BerError) → IsBytes octets → length octets ≤ steps → closing steps depth octets ≡ Err e → IsRefusedIn depth octets e
unfolding closing
closing_refused steps zero octets e fits le h = no_error octets e (sym (closing_zero steps octets) ∙ h)
closing_refused zero (suc depth) octets e fits le h =
    subst (IsRefusedIn (suc depth) octets) (sym (same_error Short e h))
    (record { more = ends (suc depth); some = ends_some depth; closes = subst (λ (s : List ℕ). Closes (suc depth) (s ++ ends (suc depth)) []) (sym (no_octets octets le)) (ends_close (suc depth)) })
closing_refused (suc steps) (suc depth) octets e fits le h =
    elim (bind_bad (passed_at depth octets) (λ x. closing steps x.0 x.1) e h) [
      | inl w ↦ step_refused depth octets e fits w
      | inr w ↦
          let passed = passed_takes depth octets w.0 fits w.1 in
          passed_refused depth octets w.0.0 w.0.1 e passed
          (closing_refused steps w.0.0 w.0.1 e (passed_bytes depth octets w.0.0 w.0.1 fits passed) (omega (arith, le, passed_shorter depth octets w.0.0 w.0.1 passed)) w.2)
    ]

-- what is refused within an opening
opened_refused : (octets i inner : List ℕ) (t : Tag) (e : BerError) → IsIdentifier i t → t.constructed ≡ true → octets ≡ i ++ 128 ∷ inner → IsRefusedIn 1 inner e → IsRefused Either octets e
opened_refused octets i inner t Short is constructed split u = (
  u.more,
  record { tag = t; contents = u.closes.0 },
  u.some,
  of_indefinite (octets ++ u.more) i (record { tag = t; contents = u.closes.0 }) is constructed u.closes.2
      (ap (λ (s : List ℕ). s ++ u.more) split ∙ append_assoc i (128 ∷ inner) u.more ∙ ap (λ (s : List ℕ). i ++ 128 ∷ s) (u.closes.3 ∙ ap (λ (s : List ℕ). u.closes.0 ++ 0 ∷ 0 ∷ s) u.closes.4)),
)
opened_refused octets i inner t BadTag is constructed split (left, (contents, next, are, parts, inl h), why) =
    (left, within octets i contents next left t is constructed are (split ∙ ap (λ (s : List ℕ). i ++ 128 ∷ s) parts) h, why)
opened_refused octets i inner t BadTag is constructed split (left, (contents, next, are, parts, inr (rest, last, h)), why) = absurd h
opened_refused octets i inner t BadLength is constructed split (left, (contents, next, are, parts, inl h), why) =
    (left, within octets i contents next left t is constructed are (split ∙ ap (λ (s : List ℕ). i ++ 128 ∷ s) parts) h, why)
opened_refused octets i inner t BadLength is constructed split (left, (contents, next, are, parts, inr (rest, last, h)), why) = absurd h
opened_refused octets i inner t BadContents is constructed split h = absurd h

whole_refused : (octets : List ℕ) (e : BerError) → opening_at octets ≡ None → IsRefused Definite octets e → IsRefused Either octets e
whole_refused octets Short none (more, p, some, is) = (more, p, some, of_definite (octets ++ more) p is)
whole_refused octets BadTag none h = (octets, itself octets, h)
whole_refused octets BadLength none h = (octets, itself octets, either_length octets none h)
whole_refused octets BadContents none h = absurd h

-- What is refused is refused for its reason.
pub either_refused : (octets : List ℕ) (e : BerError) → IsBytes octets → either_at octets ≡ Err e → IsRefused Either octets e
unfolding either_at
either_refused octets e fits h = by_opening (opening_at octets) refl h
  where
    by_opening : (o : Option (Tag × List ℕ)) → opening_at octets ≡ o → either_by octets o ≡ Err e → IsRefused Either octets e
    by_opening None is r = whole_refused octets e is (definite_refused octets e fits r)
    by_opening (Some x) is r =
        elim (chosen x.0.constructed (closing (length x.1) 1 x.1 >>= λ last. done (ended x.0 x.1 last)) (bad BadLength) (bad e) r) [
          | inl w ↦ elim (bind_bad (closing (length x.1) 1 x.1) (λ last. done (ended x.0 x.1 last)) e w.1) [
            | inl u ↦
                let f = opening_takes octets x fits is in
                opened_refused octets f.taken x.1 x.0 e f.holds w.0 f.parts
                (closing_refused (length x.1) 1 x.1 e (λ i. bytes_after f.taken (128 ∷ x.1) (subst IsBytes f.parts fits) (suc i)) (omega arith) u)
            | inr u ↦ no_error (ended x.0 x.1 u.0) e u.2
          ]
          | inr w ↦ subst (IsRefused Either octets) (sym (same_error BadLength e w.1)) (octets, itself octets, primitive_length octets x fits is w.0)
        ]

-- ---- from the condition to the refusal

-- a step on these octets is refused so
abbrev Stops : List ℕ → BerError → Type 0
Stops left e = (0 < length left) × ((depth : ℕ) → passed_at depth left ≡ Err e) × (either_at left ≡ Err e)

number_stops : (left : List ℕ) → HasBadNumber left → Stops left BadTag
unfolding passed_at either_at opening_at
number_stops [] h = absurd h
number_stops (a ∷ []) h = absurd h.1
number_stops (a ∷ b ∷ rest) h =
    let some : eqb a 0 ≡ false = ne_eqb _ _ (λ e. absurd (omega (arith, h.0, e))) in
    let bad_tag = identifier_bad (a ∷ b ∷ rest) h in
    (omega arith, λ depth. rw (some, bad_tag, tag_bad (a ∷ b ∷ rest) h) refl, rw (bad_tag, tag_bad (a ∷ b ∷ rest) h) refl)

opening_other : (i : List ℕ) (t : Tag) (a : ℕ) (rest : List ℕ) → IsIdentifier i t → 136 < a → opening_at (i ++ a ∷ rest) ≡ None
unfolding opening_at
opening_other i t a rest is many =
    let other : eqb a 128 ≡ false = ne_eqb _ _ (λ e. absurd (omega (arith, many, e))) in
    ap opening_by (identifier_again i t (a ∷ rest) is) ∙ rw other refl

length_stops : (left : List ℕ) → HasBadEitherLength left → Stops left BadLength
unfolding passed_at either_at
length_stops left h = by_kind h.is_bad
  where
    some : 0 < length left
    some = omega (arith, ap length h.whole, length-append h.identifier (h.first ∷ h.rest))

    by_kind : ((h.first ≡ 128) × (h.tag.constructed ≡ false)) ⊎ (136 < h.first) → Stops left BadLength
    by_kind (inl (is, primitive)) =
        let whole : left ≡ h.identifier ++ 128 ∷ h.rest = h.whole ∙ ap (λ (k : ℕ). h.identifier ++ k ∷ h.rest) is in
        let opens = opening_again h.identifier h.tag h.rest h.is_identifier in
        let other = identifier_no_end h.identifier h.tag 128 h.rest h.is_identifier (omega arith) in
        (some, λ depth. rw (whole, other, opens, primitive) refl, rw (whole, opens, primitive) refl)
    by_kind (inr many) =
        let whole : left ≡ h.identifier ++ h.first ∷ h.rest = h.whole in
        let opens = opening_other h.identifier h.tag h.first h.rest h.is_identifier many in
        let other = identifier_no_end h.identifier h.tag h.first h.rest h.is_identifier (omega (arith, many)) in
        let refused = length_bad (h.identifier ++ h.first ∷ h.rest) (record { identifier = h.identifier; tag = h.tag; first = h.first; rest = h.rest; is_identifier = h.is_identifier; is_bad = inr many; whole = refl }) in
        (some, λ depth. rw (whole, other, opens, refused) refl, rw (whole, opens, refused) refl)

within_stops : (octets left : List ℕ) (e : BerError) → IsLeftWithin octets left → Stops left e → (steps depth : ℕ) → length octets ≤ steps → closing steps (suc depth) octets ≡ Err e
within_stops octets left e (itself _) stops zero depth le = absurd (omega (arith, stops.0, le))
within_stops octets left e (itself _) stops (suc steps) depth le = stop_step steps depth octets e (stops.1 depth)
within_stops octets left e (within _ i contents next _ t is constructed are split h) stops zero depth le = absurd (omega (arith, le, ap length split, length-append i (128 ∷ (contents ++ next))))
within_stops octets left e (within _ i contents next _ t is constructed are split h) stops (suc steps) depth le =
    let s = contents_skipped contents are in
    let j = steps - s.steps in
    let enough : steps ≡ s.steps + j = omega (arith, le, s.few, ap length split, length-append i (128 ∷ (contents ++ next)), length-append contents next) in
    ap (λ (o : List ℕ). closing (suc steps) (suc depth) o) split
    ∙ closing_step steps depth (i ++ 128 ∷ (contents ++ next)) (suc (suc depth)) (contents ++ next) (passed_opening depth i (contents ++ next) t is constructed)
    ∙ ap (λ (n : ℕ). closing n (suc (suc depth)) (contents ++ next)) enough
    ∙ s.passed j (suc depth) next
    ∙ within_stops next left e h stops j (suc depth) (omega (arith, le, s.few, ap length split, length-append i (128 ∷ (contents ++ next)), length-append contents next))

stopped : (octets left : List ℕ) (e : BerError) → IsLeftWithin octets left → Stops left e → either_at octets ≡ Err e
unfolding either_at
stopped octets left e (itself _) stops = stops.2
stopped octets left e (within _ i contents next _ t is constructed are split h) stops =
    let s = contents_skipped contents are in
    let inner : List ℕ = contents ++ next in
    let j = length inner - s.steps in
    let enough : length inner ≡ s.steps + j = omega (arith, s.few, length-append contents next) in
    let refused : closing (length inner) 1 inner ≡ Err e = ap (λ (n : ℕ). closing n 1 inner) enough ∙ s.passed j 0 next ∙ within_stops next left e h stops j 0 (omega (arith, s.few, length-append contents next)) in
    ap (λ (o : List ℕ). either_by o (opening_at o)) split
    ∙ ap (either_by (i ++ 128 ∷ inner)) (opening_again i t inner is)
    ∙ rw (constructed, refused) refl

pub tag_bad_within : (octets : List ℕ) → Within HasBadNumber octets → either_at octets ≡ Err BadTag
tag_bad_within octets (left, h, why) = stopped octets left BadTag h (number_stops left why)

pub length_bad_within : (octets : List ℕ) → Within HasBadEitherLength octets → either_at octets ≡ Err BadLength
length_bad_within octets (left, h, why) = stopped octets left BadLength h (length_stops left why)

-- ---- more octets change nothing

left_more : (octets left more : List ℕ) → IsLeftWithin octets left → IsLeftWithin (octets ++ more) (left ++ more)
left_more octets left more (itself _) = itself (octets ++ more)
left_more octets left more (within _ i contents next _ t is constructed are split h) =
    within (octets ++ more) i contents (next ++ more) (left ++ more) t is constructed are (ap (λ (s : List ℕ). s ++ more) split ∙ simp append_assoc) (left_more next left more h)

pub within_more : {P : List ℕ → Type 0} → ((octets more : List ℕ) → P octets → P (octets ++ more)) → (octets more : List ℕ) → Within P octets → Within P (octets ++ more)
within_more keeps octets more (left, h, why) = (left ++ more, left_more octets left more h, keeps left more why)

pub bad_either_length_more : (octets more : List ℕ) → HasBadEitherLength octets → HasBadEitherLength (octets ++ more)
bad_either_length_more octets more h = record {
  identifier = h.identifier;
  tag = h.tag;
  first = h.first;
  rest = h.rest ++ more;
  is_identifier = h.is_identifier;
  is_bad = h.is_bad;
  whole = ap (λ (s : List ℕ). s ++ more) h.whole ∙ append_assoc h.identifier (h.first ∷ h.rest) more;
}
