-- The events of a caller, in a history that begins with what the caller knows.
use Rattle.std.proofs.Common.{◌≡◌, ◌++◌, ◌+◌, ◌==◌, ℕ, Bool, true, false, if◌then◌else◌, List, [], ◌∷◌, refl, ap, sym, ◌∙◌}
use Rattle.part_table.specs.History.{StartsWith, events_of, places_from, places_of}

module _ {E : Type 0} where
  -- where no place names a caller, it made no event
  none_further : (at caller : ℕ) (rest : List (ℕ × E)) → places_from at caller rest ≡ [] → events_of caller rest ≡ []
  none_further at caller [] none = refl
  none_further at caller (made ∷ rest) none = by_test (made.0 == caller) (λ e. none_further (at + 1) caller rest e) none
    where
      by_test : (b : Bool) → (places_from (at + 1) caller rest ≡ [] → events_of caller rest ≡ []) → (if b then at ∷ places_from (at + 1) caller rest else places_from (at + 1) caller rest) ≡ []
          → (if b then made.1 ∷ events_of caller rest else events_of caller rest) ≡ []
      by_test true further e = absurd (cc e)
      by_test false further e = further e

  no_more : (at caller : ℕ) (known rest : List (ℕ × E)) → places_from at caller (known ++ rest) ≡ places_from at caller known
      → events_of caller (known ++ rest) ≡ events_of caller known
  no_more at caller [] rest same = none_further at caller rest same
  no_more at caller (made ∷ known) rest same = by_test (made.0 == caller) (λ e. no_more (at + 1) caller known rest e) same
    where
      by_test : (b : Bool)
          → (places_from (at + 1) caller (known ++ rest) ≡ places_from (at + 1) caller known → events_of caller (known ++ rest) ≡ events_of caller known)
          → (if b then at ∷ places_from (at + 1) caller (known ++ rest) else places_from (at + 1) caller (known ++ rest))
          ≡ (if b then at ∷ places_from (at + 1) caller known else places_from (at + 1) caller known)
          → (if b then made.1 ∷ events_of caller (known ++ rest) else events_of caller (known ++ rest))
          ≡ (if b then made.1 ∷ events_of caller known else events_of caller known)
      by_test true further e =
          let same_rest : places_from (at + 1) caller (known ++ rest) ≡ places_from (at + 1) caller known = cc e in
          ap (λ (l : List E). made.1 ∷ l) (further same_rest)
      by_test false further e = further e

  pub own_events : (caller : ℕ) (known history : List (ℕ × E)) → StartsWith history known → places_of caller history ≡ places_of caller known
      → events_of caller history ≡ events_of caller known
  own_events caller known history (rest, is) same =
      ap (λ (l : List (ℕ × E)). events_of caller l) is ∙ no_more 1 caller known rest (ap (λ (l : List (ℕ × E)). places_of caller l) (sym is) ∙ same)
