-- What isn't whole is told by the next step: contents are read as if the next element were cut before its tag is looked at.
use Rattle.std.proofs.Common.{◌≡◌, ◌≢◌, ℕ, ◌⊎◌, inl, inr, Bool, true, false, List, [], ◌∷◌, Option, Some, None, Result, Ok, Err, refl, sym, ap, ◌∙◌, if◌then◌else◌}
use Rattle.ber_core.specs.declared.element.Tag.{Tag}
use Rattle.ber_core.specs.declared.element.Lengths.{Lengths}
use Rattle.ber_core.specs.declared.fault.BerError.{BerError}
use Rattle.ber_core.specs.Part.{Part}
use Rattle.ber_core.specs.Reading.{element_at}
use Rattle.ber_forms.specs.declared.unread.Unread.TheVariants as unread
use Rattle.ber_forms.specs.Fault.{Fault}
use Rattle.ber_forms.specs.Fault as fault
use Rattle.ber_forms.specs.Value.{Value, Slot, Slots, missing, given, done, slot}
use Rattle.ber_forms.specs.Form.{Member, Components, AtDefault, tagged, one_of, no_more, any_more, required, optional, defaulted, skipped}
use Rattle.ber_forms.specs.Reading.{◌>>=◌, well, is_constructed, is_tag, has_tag, is_ahead, next_at, part_at, required_part, optional_part, at_end, read_slot, or_else, required_by, chosen_by, optional_by, defaulting, elements_at, required_at, optional_at, reading, alternatives, components}
use Rattle.ber_forms.specs.InForm.{begins}
use Rattle.ber_forms.proofs.Loop.{passed_none, passed_not}
use Rattle.ber_forms.proofs.InFront.{none_ahead, ahead_is}
use Rattle.ber_forms.proofs.Complete.{not_ahead}

abbrev bad : {A : Type 0} → Result A Fault
bad = Err fault.malformed

then_bad : {A B : Type 0} (r : Result A Fault) (f : A → Result B Fault) → r ≡ bad → (r >>= f) ≡ bad
then_bad r f e = ap (λ (s : Result _ Fault). s >>= f) e

after_ok : {A B : Type 0} (r : Result A Fault) (f : A → Result B Fault) (x : A) → r ≡ Ok x → f x ≡ bad → (r >>= f) ≡ bad
after_ok r f x first second = ap (λ (s : Result _ Fault). s >>= f) first ∙ second

regroup : {A B C : Type 0} (r : Result A Fault) (f : A → Result B Fault) (g : B → Result C Fault) → ((r >>= f) >>= g) ≡ (r >>= λ x. f x >>= g)
regroup (Ok x) f g = refl
regroup (Err e) f g = refl

-- the element, and what is left after it, where its tag passes the test
abbrev pub if_tag : (Tag → Bool) → List ℕ → Option (Part × List ℕ) → Option Part × List ℕ
if_tag test octets None = (None, octets)
if_tag test octets (Some x) = if test x.0.tag then (Some x.0, x.1) else (None, octets)

end_left : (c : List ℕ) → c ≢ [] → at_end c ≡ bad
unfolding at_end
end_left [] some = absurd (some refl)
end_left (a ∷ rest) some = refl

default_bad : (d : Value) (r : Result (Slot × List ℕ) Fault) → r ≡ bad → defaulting d r ≡ bad
unfolding defaulting
default_bad d r e = rw e refl

default_missing : (d : Value) (r : Result (Slot × List ℕ) Fault) (c : List ℕ) → r ≡ Ok (missing, c) → defaulting d r ≡ Ok (given d, c)
unfolding defaulting
default_missing d r c e = rw e refl

module _ (lengths : Lengths) where
  part_bad : (c : List ℕ) → next_at lengths c ≡ bad → part_at lengths c ≡ bad
  unfolding part_at
  part_bad c e = rw e refl

  some_left : (c : List ℕ) → next_at lengths c ≡ bad → c ≢ []
  unfolding next_at
  some_left [] e = λ none. absurd (cc e)
  some_left (a ∷ rest) e = λ none. absurd (cc none)

  none_left : (c : List ℕ) → next_at lengths c ≡ Ok None → c ≡ []
  unfolding next_at
  none_left [] e = refl
  none_left (a ∷ rest) e = by_element (element_at lengths (a ∷ rest)) e
    where
      by_element : (r : Result (Part × List ℕ) BerError) → (well r >>= λ x. Ok (Some x)) ≡ Ok None → a ∷ rest ≡ []
      by_element (Ok x) h = absurd (cc h)
      by_element (Err d) h = absurd (cc h)

  never_deep : {P : Type 0} (c : List ℕ) → next_at lengths c ≡ Err fault.too_deep → P
  unfolding next_at
  never_deep [] e = absurd cc
  never_deep {P} (a ∷ rest) e = by_element (element_at lengths (a ∷ rest)) e
    where
      by_element : (r : Result (Part × List ℕ) BerError) → (well r >>= λ x. Ok (Some x)) ≡ Err fault.too_deep → P
      by_element (Ok x) h = absurd (cc h)
      by_element (Err d) h = absurd (cc h)

  elements_bad : (c : List ℕ) → next_at lengths c ≡ bad → elements_at lengths c ≡ bad
  elements_bad c e = passed_not lengths unread.Malformed c c (some_left c e) (part_bad c e) (passed_none lengths c)

  required_bad : (m : Member) (c : List ℕ) → next_at lengths c ≡ bad → required_at lengths m c ≡ bad
  unfolding required_by chosen_by required_part
  required_bad (tagged class n f) c e = rw (part_bad c e) refl
  required_bad (one_of others) c e = rw (part_bad c e) refl

  ahead_bad : (m : Member) (c : List ℕ) → next_at lengths c ≡ bad → is_ahead (begins m) c ≡ true → optional_at lengths m c ≡ bad
  unfolding optional_by optional_part
  ahead_bad (tagged class n f) c e t = rw (t, part_bad c e) refl
  ahead_bad (one_of others) c e t = rw (t, part_bad c e) refl

  optional_bad : (m : Member) (c : List ℕ) → next_at lengths c ≡ bad → (optional_at lengths m c ≡ bad) ⊎ (optional_at lengths m c ≡ Ok (missing, c))
  optional_bad m c e = by_tag (is_ahead (begins m) c) refl
    where
      by_tag : (b : Bool) → is_ahead (begins m) c ≡ b → (optional_at lengths m c ≡ bad) ⊎ (optional_at lengths m c ≡ Ok (missing, c))
      by_tag true t = inl (ahead_bad m c e t)
      by_tag false t = inr (not_ahead lengths m c t)

  -- Where something is left that no whole element begins, it is malformed, whatever the components.
  pub not_whole : (cs : Components) (c : List ℕ) → next_at lengths c ≡ bad → components lengths cs c ≡ bad
  not_whole no_more c e = then_bad (at_end c) (λ _. Ok done) (end_left c (some_left c e))
  not_whole any_more c e = then_bad (elements_at lengths c) (λ _. Ok done) (elements_bad c e)
  not_whole (required m cs) c e = then_bad (required_at lengths m c) (λ x. components lengths cs x.1 >>= λ vs. Ok (slot (given x.0) vs)) (required_bad m c e)
  not_whole (optional m cs) c e =
      elim (optional_bad m c e) [
        | inl h ↦ then_bad (optional_at lengths m c) (λ x. components lengths cs x.1 >>= λ vs. Ok (slot x.0 vs)) h
        | inr h ↦ after_ok (optional_at lengths m c) (λ x. components lengths cs x.1 >>= λ vs. Ok (slot x.0 vs)) (missing, c) h (then_bad (components lengths cs c) (λ vs. Ok (slot missing vs)) (not_whole cs c e))
      ]
  not_whole (defaulted w m d cs) c e =
      elim (optional_bad m c e) [
        | inl h ↦ then_bad (defaulting d (optional_at lengths m c)) (λ x. components lengths cs x.1 >>= λ vs. Ok (slot x.0 vs)) (default_bad d (optional_at lengths m c) h)
        | inr h ↦
            after_ok (defaulting d (optional_at lengths m c)) (λ x. components lengths cs x.1 >>= λ vs. Ok (slot x.0 vs)) (given d, c) (default_missing d (optional_at lengths m c) c h)
            (then_bad (components lengths cs c) (λ vs. Ok (slot (given d) vs)) (not_whole cs c e))
      ]
  not_whole (skipped m cs) c e =
      elim (optional_bad m c e) [
        | inl h ↦ then_bad (optional_at lengths m c) (λ x. components lengths cs x.1) h
        | inr h ↦ after_ok (optional_at lengths m c) (λ x. components lengths cs x.1) (missing, c) h (not_whole cs c e)
      ]

  -- Where nothing is left or a whole element is in front, it is as if that were cut first.
  pub as_cut : (test : Tag → Bool) (c : List ℕ) (n : Option (Part × List ℕ)) → next_at lengths c ≡ Ok n → optional_part lengths test c ≡ Ok (if_tag test c n)
  unfolding optional_part part_at
  as_cut test c None e = rw (ap (is_ahead test) (none_left c e) ∙ none_ahead test) refl
  as_cut test c (Some x) e = by_tag (test x.0.tag) refl
    where
      by_tag : (b : Bool) → test x.0.tag ≡ b → optional_part lengths test c ≡ Ok (if_tag test c (Some x))
      by_tag true t = rw (ahead_is lengths test c x.0 x.1 e ∙ t, e, t) refl
      by_tag false t = rw (ahead_is lengths test c x.0 x.1 e ∙ t, t) refl

  ahead_fails : {A : Type 0} (test : Tag → Bool) (c : List ℕ) (later : Option Part × List ℕ → Result A Fault) (b : Bool) → is_ahead test c ≡ b → next_at lengths c ≡ bad → later (None, c) ≡ bad → (optional_part lengths test c >>= later) ≡ bad
  unfolding optional_part
  ahead_fails test c later true t e tells = rw (t, part_bad c e) refl
  ahead_fails test c later false t e tells = rw t tells

  as_cut_first : {A : Type 0} (test : Tag → Bool) (c : List ℕ) (later : Option Part × List ℕ → Result A Fault) → (next_at lengths c ≡ bad → later (None, c) ≡ bad)
      → (optional_part lengths test c >>= later) ≡ ((next_at lengths c >>= λ n. Ok (if_tag test c n)) >>= later)
  as_cut_first test c later tells = by_next (next_at lengths c) refl
    where
      by_next : (r : Result (Option (Part × List ℕ)) Fault) → next_at lengths c ≡ r → (optional_part lengths test c >>= later) ≡ ((r >>= λ n. Ok (if_tag test c n)) >>= later)
      by_next (Ok n) e = ap (λ (s : Result _ Fault). s >>= later) (as_cut test c n e)
      by_next (Err fault.malformed) e = ahead_fails test c later (is_ahead test c) refl e (tells e)
      by_next (Err fault.too_deep) e = never_deep c e

  -- a component that may be missing, where the next element is cut before its tag is looked at
  abbrev pub cut_by : (Tag → Bool) → (Part → Result Value Fault) → List ℕ → Result (Slot × List ℕ) Fault
  cut_by test read c = (next_at lengths c >>= λ n. Ok (if_tag test c n)) >>= λ x. read_slot read x.0 >>= λ v. Ok (v, x.1)

  abbrev pub cut_at : Member → List ℕ → Result (Slot × List ℕ) Fault
  cut_at (tagged class n f) c = cut_by (is_tag class (is_constructed f) n) (λ p. reading lengths f p.contents) c
  cut_at (one_of others) c = cut_by (has_tag others) (alternatives lengths others) c

  same_by : {A : Type 0} (test : Tag → Bool) (read : Part → Result Value Fault) (c : List ℕ) (later : Slot × List ℕ → Result A Fault) → (next_at lengths c ≡ bad → later (missing, c) ≡ bad)
      → (optional_by lengths test read c >>= later) ≡ (cut_by test read c >>= later)
  unfolding optional_by
  same_by test read c later tells =
      let read_it : Option Part × List ℕ → Result (Slot × List ℕ) Fault = λ x. read_slot read x.0 >>= λ v. Ok (v, x.1) in
      regroup (optional_part lengths test c) read_it later
      ∙ as_cut_first test c (λ x. read_it x >>= later) tells
      ∙ sym (regroup (next_at lengths c >>= λ n. Ok (if_tag test c n)) read_it later)

  same_at : {A : Type 0} (m : Member) (c : List ℕ) (later : Slot × List ℕ → Result A Fault) → (next_at lengths c ≡ bad → later (missing, c) ≡ bad) → (optional_at lengths m c >>= later) ≡ (cut_at m c >>= later)
  same_at (tagged class n f) c later tells = same_by (is_tag class (is_constructed f) n) (λ p. reading lengths f p.contents) c later tells
  same_at (one_of others) c later tells = same_by (has_tag others) (alternatives lengths others) c later tells

  -- Components are read by the same equations as where the next element is cut first, and so as the same values and faults.
  pub optional_as_cut : (m : Member) (cs : Components) (c : List ℕ) → components lengths (optional m cs) c ≡ (cut_at m c >>= λ x. components lengths cs x.1 >>= λ vs. Ok (slot x.0 vs))
  optional_as_cut m cs c =
      same_at m c (λ x. components lengths cs x.1 >>= λ vs. Ok (slot x.0 vs)) (λ e. then_bad (components lengths cs c) (λ vs. Ok (slot missing vs)) (not_whole cs c e))

  pub defaulted_as_cut : (w : AtDefault) (m : Member) (d : Value) (cs : Components) (c : List ℕ)
      → components lengths (defaulted w m d cs) c ≡ (defaulting d (cut_at m c) >>= λ x. components lengths cs x.1 >>= λ vs. Ok (slot x.0 vs))
  unfolding defaulting
  defaulted_as_cut w m d cs c =
      let stands : Slot × List ℕ → Result (Slot × List ℕ) Fault = λ x. Ok (or_else d x.0, x.1) in
      let later : Slot × List ℕ → Result Slots Fault = λ x. components lengths cs x.1 >>= λ vs. Ok (slot x.0 vs) in
      regroup (optional_at lengths m c) stands later
      ∙ same_at m c (λ x. stands x >>= later) (λ e. then_bad (components lengths cs c) (λ vs. Ok (slot (given d) vs)) (not_whole cs c e))
      ∙ sym (regroup (cut_at m c) stands later)

  pub skipped_as_cut : (m : Member) (cs : Components) (c : List ℕ) → components lengths (skipped m cs) c ≡ (cut_at m c >>= λ x. components lengths cs x.1)
  skipped_as_cut m cs c = same_at m c (λ x. components lengths cs x.1) (not_whole cs c)
