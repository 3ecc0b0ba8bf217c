-- Which causes hold of an event line by itself.
use Rattle.std.proofs.Common.{◌≡◌, ℕ, suc, ◌+◌, ◌≤◌, inl, inr, ◌&&◌, Bool, true, false, List, [], ◌∷◌, length, take, get_or, codes, refl, sym, ap, subst, ◌∙◌, arith, Some, None, Result, Ok, Err, nat_eq, if◌then◌else◌}
use Rattle.std.proofs.lemmas.Bool.Decides.{nat_tests}
use Rattle.std.specs.List.{prefix_len, list_all}
use Rattle.std.specs.declared.option.Option.{Option}
use Rattle.mms_types.specs.Spelling.{is_identifier}
use Rattle.cell_config.specs.declared.config.Config.{Config}
use Rattle.cell_record.specs.Words.{between, trim, word_of, argument_of, in_word, is_digit, is_remark, begins_with_digit, number_of, value_of, pairs_of}
use Rattle.cell_record.specs.EventLine.{same, heard_of, lost_of, tick_of, ends_of, worded, trimmed_says}
use Rattle.cell_record.specs.Refused.{IsHeard, IsLost, IsTick, IsEnds, IsWorded, HasNoForm, HasNoOctets, NamesNoClient}
use Rattle.mms_types.specs.declared.event.CellEvent.TheVariants.{Lost, Tick, Ends}
use Rattle.cell_record.specs.declared.said.LineMeaning.{LineMeaning}
use Rattle.cell_record.specs.declared.said.LineMeaning.TheVariants.{Nothing, Phase, Happens}
use Rattle.cell_record.specs.declared.refusal.BadWord.{BadWord}
use Rattle.cell_record.specs.declared.refusal.BadWord.TheVariants as bad
use Rattle.cell_record.proofs.Valid.{same_text}

-- ---- words and digits

true_false : true ≡ false → ⊥
true_false e = cc

none_some : {A : Type 0} (x : A) → None ≡ Some x → ⊥
none_some x e = cc

some_same : {A : Type 0} (x y : A) → Some x ≡ Some y → x ≡ y
some_same x y e = cc

word_front : (b : ℕ) (bs : List ℕ) (c : ℕ) (cs : List ℕ) → word_of (b ∷ bs) ≡ c ∷ cs → b ≡ c
word_front b bs c cs e = by_blank (in_word b) refl e
  where
    by_blank : (t : Bool) → in_word b ≡ t → take (prefix_len in_word (b ∷ bs)) (b ∷ bs) ≡ c ∷ cs → b ≡ c
    by_blank true t e =
        let n = prefix_len in_word bs in
        let one : suc n ≡ 1 + n = omega arith in
        let k : b ∷ take n bs ≡ c ∷ cs = ap (λ (m : ℕ). take m (b ∷ bs)) one ∙ (rw t at e) in
        cc
    by_blank false t e = let k : [] ≡ c ∷ cs = rw t at e in cc

abbrev first : List ℕ → ℕ
first text = get_or text 0 0

-- a line whose first word is `lost` begins with no digit and is no comment
lost_word : (t : List ℕ) → word_of t ≡ codes "lost" → (begins_with_digit t ≡ false) × (is_remark t ≡ false)
lost_word [] e = absurd cc
lost_word (b ∷ bs) e =
    let front : b ≡ 108 = word_front b bs 108 (codes "ost") e in
    (ap is_digit front, ap (λ (n : ℕ). nat_eq n 35) front)

-- a line whose first word is a number begins with a digit
number_digit : (t : List ℕ) (c : ℕ) → number_of (word_of t) ≡ Some c → begins_with_digit t ≡ true
number_digit [] c e = absurd cc
number_digit (b ∷ bs) c e = by_word (word_of (b ∷ bs)) refl e
  where
    by_digit : (w : List ℕ) (a d : Bool) → is_digit b ≡ d → (if a && (d && list_all is_digit w) then Some (value_of (b ∷ w)) else None) ≡ Some c → is_digit b ≡ true
    by_digit w a true k e = k
    by_digit w true false k e = absurd cc
    by_digit w false false k e = absurd cc

    by_word : (w : List ℕ) → word_of (b ∷ bs) ≡ w → number_of w ≡ Some c → is_digit b ≡ true
    by_word [] k e = absurd cc
    by_word (a ∷ w) k e =
        let front : b ≡ a = word_front b bs a w k in
        let f : number_of (b ∷ w) ≡ Some c = rw (← front) at e in
        by_digit w (between 1 9 (length (b ∷ w))) (is_digit b) refl f

-- ---- the line

-- what holds of a line with this content that comes to this
abbrev pub Line : Config → List LineMeaning → List ℕ → Result LineMeaning BadWord → Type 0
Line config said x (Ok s) = (HasNoForm config said x → ⊥) × (HasNoOctets config said x → ⊥) × (NamesNoClient config said x → ⊥)
Line config said x (Err bad.Event) = HasNoForm config said x
Line config said x (Err bad.Hex) = (HasNoForm config said x → ⊥) × HasNoOctets config said x
Line config said x (Err bad.Client) = (HasNoForm config said x → ⊥) × (HasNoOctets config said x → ⊥) × NamesNoClient config said x
Line config said x (Err bad.Header) = ⊥
Line config said x (Err bad.Config) = ⊥
Line config said x (Err bad.Long) = ⊥
Line config said x (Err bad.Clock) = ⊥

either : (P : Result LineMeaning BadWord → Type 0) (b : Bool) (r s : Result LineMeaning BadWord) → (b ≡ true → P r) → (b ≡ false → P s) → P (if b then r else s)
either P true r s f g = f refl
either P false r s f g = g refl

within : (low high n : ℕ) → between low high n ≡ true → (low ≤ n) × (n ≤ high)
within low high n h = (grind (arith, nat_tests, h), grind (arith, nat_tests, h))

between_is : (low high n : ℕ) → (low ≤ n) × (n ≤ high) → between low high n ≡ true
between_is low high n h = let a = h.0 in let b = h.1 in grind (arith, nat_tests, a, b)

module _ (config : Config) (said : List LineMeaning) (x : List ℕ) where
  abbrev t : List ℕ
  t = trim x

  -- ---- of a line that begins with a digit

  digit_form : begins_with_digit t ≡ true → HasNoForm config said x → ⊥
  digit_form d h = true_false (sym d ∙ h.0)

  heard_line : begins_with_digit t ≡ true → (o : Option ℕ) (q : Option (List ℕ)) → number_of (word_of t) ≡ o → pairs_of (argument_of t) ≡ q → Line config said x (heard_of config o q)
  heard_line d None q e f = (digit_form d, (d, λ c os h. none_some c (sym e ∙ h.number)))
  heard_line d (Some c) None e f = (digit_form d, (d, λ k os h. none_some os (sym f ∙ h.pairs)))
  heard_line d (Some c) (Some os) e f =
      either (Line config said x) (between 1 65000 (length os)) _ _
      (λ l. let w = within 1 65000 (length os) l in
      let is : IsHeard c os t = record { number = e; pairs = f; some = w.0; few = w.1 } in
      let octets : HasNoOctets config said x → ⊥ = λ h. h.1 c os is in
      either (Line config said x) (between 1 config.clients c) _ _
      (λ k. (digit_form d, octets, known k))
      (λ k. (digit_form d, octets, (c, inl (os, is), λ h. true_false (sym (between_is 1 config.clients c h) ∙ k)))))
      (λ l. (
        digit_form d,
        (
          d,
          λ k os2 h.
              let same : os2 ≡ os = some_same os2 os (sym h.pairs ∙ f) in
              true_false (sym (between_is 1 65000 (length os) (subst (λ (l : List ℕ). (1 ≤ length l) × (length l ≤ 65000)) same (h.some, h.few))) ∙ l),
        ),
      ))
    where
      known : between 1 config.clients c ≡ true → NamesNoClient config said x → ⊥
      known k (n, inl (o, h), out) =
          let same : n ≡ c = some_same n c (sym h.number ∙ e) in
          out (subst (λ (m : ℕ). (1 ≤ m) × (m ≤ config.clients)) (sym same) (within 1 config.clients c k))
      known k (n, inr h, out) = true_false (sym d ∙ (lost_word t h.0).0)

  -- ---- of a line that doesn't

  word_octets : begins_with_digit t ≡ false → HasNoOctets config said x → ⊥
  word_octets d h = true_false (sym h.0 ∙ d)

  -- the line is of a form, and names no client where its word isn't `lost`
  worded_form : begins_with_digit t ≡ false → IsWorded config.edition t → ((n : ℕ) → IsLost n t → (1 ≤ n) × (n ≤ config.clients)) → (s : LineMeaning) → Line config said x (Ok s)
  worded_form d is lost s = ((λ h. h.1 is), word_octets d, known)
    where
      known : NamesNoClient config said x → ⊥
      known (n, inl (o, h), out) = true_false (sym (number_digit t n h.number) ∙ d)
      known (n, inr h, out) = out (lost n h)

  -- of a line that is no comment and not `phase`, by its first word
  only : {P : Type 0} → is_remark t ≡ false → (t ≡ codes "phase" → ⊥) → ((n : ℕ) → IsLost n t → P) → (IsTick t → P) → (IsEnds config.edition t → P) → IsWorded config.edition t → P
  only r p l k e (inl h) = absurd (true_false (sym h ∙ r))
  only r p l k e (inr (inl h)) = absurd (p h)
  only r p l k e (inr (inr (inl h))) = l h.0 h.1
  only r p l k e (inr (inr (inr (inl h)))) = k h
  only r p l k e (inr (inr (inr (inr h)))) = e h

  two_words : (a b : List ℕ) → word_of t ≡ a → word_of t ≡ b → first a ≡ first b
  two_words a b w v = ap first (sym w ∙ v)

  lost_line : begins_with_digit t ≡ false → is_remark t ≡ false → (t ≡ codes "phase" → ⊥) → word_of t ≡ codes "lost" → (o : Option ℕ) → number_of (argument_of t) ≡ o → Line config said x (lost_of config o)
  lost_line d r p w None e = (d, only r p (λ n h. none_some n (sym e ∙ h.1)) (λ h. omega (arith, two_words (codes "lost") (codes "tick") w h.0)) (λ h. omega (arith, two_words (codes "lost") (codes "ends") w h.0)))
  lost_line d r p w (Some c) e =
      either (Line config said x) (between 1 config.clients c) _ _
      (λ k. worded_form d (inr (inr (inl (c, (w, e))))) (λ n h. subst (λ (m : ℕ). (1 ≤ m) × (m ≤ config.clients)) (some_same c n (sym e ∙ h.1)) (within 1 config.clients c k)) (Happens (Lost c)))
      (λ k. ((λ h. h.1 (inr (inr (inl (c, (w, e)))))), word_octets d, (c, inr (w, e), λ h. true_false (sym (between_is 1 config.clients c h) ∙ k))))

  tick_line : begins_with_digit t ≡ false → is_remark t ≡ false → (t ≡ codes "phase" → ⊥) → word_of t ≡ codes "tick" → (o : Option ℕ) → number_of (argument_of t) ≡ o → Line config said x (tick_of o)
  tick_line d r p w None e = (d, only r p (λ n h. omega (arith, two_words (codes "tick") (codes "lost") w h.0)) (λ h. none_some h.1 (sym e ∙ h.2)) (λ h. omega (arith, two_words (codes "tick") (codes "ends") w h.0)))
  tick_line d r p w (Some ms) e =
      either (Line config said x) (between 1 3600000 ms) _ _
      (λ k. let i = within 1 3600000 ms k in
      worded_form d (inr (inr (inr (inl (w, ms, e, i.0, i.1))))) (λ n h. absurd (omega (arith, two_words (codes "tick") (codes "lost") w h.0))) (Happens (Tick ms)))
      (λ k. (
        d,
        only r p (λ n h. omega (arith, two_words (codes "tick") (codes "lost") w h.0))
            (λ h. true_false (sym (between_is 1 3600000 ms (subst (λ (m : ℕ). (1 ≤ m) × (m ≤ 3600000)) (some_same h.1 ms (sym h.2 ∙ e)) (h.3, h.4))) ∙ k))
            (λ h. omega (arith, two_words (codes "tick") (codes "ends") w h.0)),
      ))

  ends_line : begins_with_digit t ≡ false → is_remark t ≡ false → (t ≡ codes "phase" → ⊥) → word_of t ≡ codes "ends" → Line config said x (ends_of config (argument_of t))
  ends_line d r p w =
      either (Line config said x) (is_identifier config.edition (argument_of t)) _ _
      (λ k. worded_form d (inr (inr (inr (inr (w, k))))) (λ n h. absurd (omega (arith, two_words (codes "ends") (codes "lost") w h.0))) (Happens (Ends (argument_of t))))
      (λ k. (d, only r p (λ n h. omega (arith, two_words (codes "ends") (codes "lost") w h.0)) (λ h. omega (arith, two_words (codes "ends") (codes "tick") w h.0)) (λ h. true_false (sym h.1 ∙ k))))

  other_word : (word : List ℕ) → same (word_of t) word ≡ false → word_of t ≡ word → ⊥
  other_word word k e = true_false (sym ((same_text (word_of t) word).1 e) ∙ k)

  worded_line : begins_with_digit t ≡ false → is_remark t ≡ false → Line config said x (worded config t (word_of t) (argument_of t))
  worded_line d r =
      either (Line config said x) (same t (codes "phase")) _ _
      (λ k. let is = (same_text t (codes "phase")).0 k in
      worded_form d (inr (inl is)) (λ n h. absurd (omega (arith, two_words (codes "phase") (codes "lost") (ap word_of is) h.0))) Phase)
      (λ k. let p : t ≡ codes "phase" → ⊥ = λ e. true_false (sym ((same_text t (codes "phase")).1 e) ∙ k) in
      either (Line config said x) (same (word_of t) (codes "lost")) _ _
      (λ w. lost_line d r p ((same_text (word_of t) (codes "lost")).0 w) (number_of (argument_of t)) refl)
      (λ l. either (Line config said x) (same (word_of t) (codes "tick")) _ _
      (λ w. tick_line d r p ((same_text (word_of t) (codes "tick")).0 w) (number_of (argument_of t)) refl)
      (λ m. either (Line config said x) (same (word_of t) (codes "ends")) _ _
      (λ w. ends_line d r p ((same_text (word_of t) (codes "ends")).0 w))
      (λ e. (d, only r p (λ n h. other_word (codes "lost") l h.0) (λ h. other_word (codes "tick") m h.0) (λ h. other_word (codes "ends") e h.0))))))

  pub line_is : Line config said x (trimmed_says config t)
  line_is =
      either (Line config said x) (begins_with_digit t) _ _
      (λ d. heard_line d (number_of (word_of t)) (pairs_of (argument_of t)) refl refl)
      (λ d. either (Line config said x) (is_remark t) _ _
      (λ r. worded_form d (inl r) (λ n h. absurd (true_false (sym r ∙ (lost_word t h.0).1))) Nothing)
      (λ r. worded_line d r))
