-- A claim, won or lost, and a release keep the rule.
use Rattle.std.proofs.Common.{◌≡◌, ◌≢◌, ℕ, ◌+◌, ◌-◌, ◌<◌, List, [], ◌∷◌, ◌++◌, length, set, get_or, slice_get, eqb, eq-eqb, ne_eqb, Option, None, Some, inl, refl, sym, ◌∙◌, ap, subst, arith, length-set}
use Rattle.std.proofs.lemmas.List.{set-get_or}
use native.Mathlib.Decide.{ℕ_discrete}
use mathlib.Core.Option.{some, none, some-injective}
use prog.Atomic.{either}
use lib.ListN.{get_elem?}
use Rattle.atomic_table.specs.Table.{State, Me, Act, keeps, takes, gives, stepped, step as stepping, Allows, carried_after, Valid, rest}
use Rattle.atomic_table.proofs.Lists.{set_here, set_else}
use Rattle.part_table.specs.declared.view.Setting.{Setting}
use Rattle.part_table.specs.declared.view.Account.{Account}
use Rattle.part_table.specs.declared.view.View.{View}
use Rattle.part_table.specs.HeldLaws.{held_set_here, held_set_else, held_within}
use Rattle.part_table.specs.Held.{held_at}
use Rattle.part_table.specs.Lines.{owner_word, slot_of}
use Rattle.part_table.specs.Passes.{number_of}
use Rattle.part_table.specs.Plays.{Takes, Loses, Claims, Gives}
use Rattle.part_table.specs.Rule.{IsIn, Keeps, parts_after, Kept, KeptAt}
use Rattle.part_table.proofs.Apart.{part_of_word}
use Rattle.part_table.proofs.Moves.{Moves, moved, quiet}

module _ {B T E : Type 0} (value : B → T) (step : E → List T → List T) (may_make : ℕ → E → Type 0) (setting : Setting T) where
  -- who keeps a number has a place for each part
  places_of_keeper : (history : List (ℕ × E)) (s : State (Option B) (View T E)) (k : KeptAt value step may_make setting history s) (id : ℕ) (v : View T E)
      → get_elem? s.views id ≡ some v → (a : Account) → IsIn v.callers a → length v.held ≡ length setting.opening
  places_of_keeper history s k id v at a in_ = ((k.fits id v at).accounts a in_).places

  won : (history : List (ℕ × E)) (s : State (Option B) (View T E)) (k : KeptAt value step may_make setting history s) (id : ℕ) (v : View T E) (at : get_elem? s.views id ≡ some v)
      (a : Account) (in_ : IsIn v.callers a) (i : ℕ) (lt : i < length setting.opening) (free : get_or s.words (owner_word i) 0 ≡ 0) (x : B) → slice_get (parts_after value step may_make setting history) i ≡ Some (value x)
      → KeptAt value step may_make setting history
      (record { words = set s.words (owner_word i) (a.number + 1); homes = set s.homes (slot_of i) none; views = set s.views id (record v { held = set v.held i (Some (value x)) }) })
  won history s k id v at a in_ i lt free x is =
      let places = places_of_keeper history s k id v at a in_ in
      let there : i < length v.held = omega arith in
      moved value step may_make setting history s k id v at i lt (a.number + 1) (set s.homes (slot_of i) none) (set v.held i (Some (value x))) (record {
        places = length-set v.held i (Some (value x));
        size = length-set s.homes (slot_of i) none;
        other_homes = λ j ne. set_else s.homes (slot_of i) j none ne;
        home_here = λ z. absurd (omega arith);
        row_here = λ y h.
            let same : Some (value x) ≡ Some y = sym (held_set_here v.held i (Some (value x)) there) ∙ h in
            (is ∙ same, (a.number, (a, in_, refl), refl));
        other_rows = λ j ne. held_set_else v.held i j (Some (value x)) ne;
        owned_here = λ b e. ((a, in_, omega arith), (value x, held_set_here v.held i (Some (value x)) there));
        alone = λ q u ne e h. let f = (k.fits q u e).rows i h.0 h.1 in absurd (let z = sym free ∙ f.1.2 in omega arith);
      })

  module _ (n id : ℕ) (v : View T E) (c : List (ℕ × Option B)) (a : Account) (in_ : IsIn v.callers a) (named : number_of v.callers ≡ a.number) (i : ℕ) (small : i < length setting.opening) (fresh : held_at v.held i ≡ None)
      (s : State (Option B) (View T E)) (history : List (ℕ × E)) (k : KeptAt value step may_make setting history s) (at : get_elem? s.views id ≡ some v) where
    abbrev found : ℕ
    found = get_or s.words (owner_word i) 0

    abbrev Claimed : Type 0
    Claimed = (w : View T E) × (t : Act (Option B)) × Valid s.homes c t × Kept value step may_make setting (stepped s (owner_word i) (either (eqb found 0) (a.number + 1) found) id c w t)
        × Claims value (stepping n (owner_word i) 0 (a.number + 1) none) (v, c) found (w, carried_after c t)

    -- what is said of the part is said of each whose word it is
    of_part : (j : ℕ) → owner_word i ≡ owner_word j → (m : Me (Option B) (View T E)) → ((found ≡ 0 → Takes value i (v, c) m) × (found ≢ 0 → Loses i (found - 1) (v, c) m))
        → (found ≡ 0 → Takes value j (v, c) m) × (found ≢ 0 → Loses j (found - 1) (v, c) m)
    of_part j word m h = subst (λ q. (found ≡ 0 → Takes value q (v, c) m) × (found ≢ 0 → Loses q (found - 1) (v, c) m)) (part_of_word i j word) h

    -- the word was 0
    hit : found ≡ 0 → Claimed
    hit e =
        let home = k.home i small e in
        let x = home.0 in
        let w = record v { held = set v.held i (Some (value x)) } in
        let t : Act (Option B) = takes (slot_of i) (Some x) in
        let kept : Kept value step may_make setting (stepped s (owner_word i) (a.number + 1) id c w t) = (history, won history s k id v at a in_ i small e x home.2) in (
          w,
          t,
          home.1,
          subst (λ b. Kept value step may_make setting (stepped s (owner_word i) (either b (a.number + 1) found) id c w t)) (sym (eq-eqb found 0 e)) kept,
          (λ j word. of_part j word (w, (slot_of i, Some x) ∷ c) ((λ z. (x, refl)), (λ ne. absurd (ne e)))),
        )

    -- the word showed another owner
    miss : found ≢ 0 → Claimed
    miss ne =
        let b = found - 1 in
        let lost = v.lost ++ (i, b) ∷ [] in
        let w = record v { lost = lost } in
        let t : Act (Option B) = keeps in
        let o = k.owned i b small (omega arith) in
        let other : b ≢ number_of v.callers = λ e.
        (let seat : o.0 ≡ id = k.one o.0 id o.1 v b o.2 at o.3.0 (a, in_, sym (e ∙ named)) in
        let same : o.1 ≡ v = some-injective o.1 v (sym o.2 ∙ ap (λ q. get_elem? s.views q) seat ∙ at) in
        let held : held_at v.held i ≡ Some o.3.1.0 = subst (λ (q : View T E). held_at q.held i ≡ Some o.3.1.0) same o.3.1.1 in
        cc (fresh, held)) in
        let owner = o.3.0 in
        let below : b < v.setting.callers =
        (let f = (k.fits o.0 o.1 o.2).accounts owner.0 owner.1 in
        let mine = (k.fits id v at).accounts a in_ in
        let less : b < setting.callers = subst (λ q. q < setting.callers) owner.2 f.number in
        subst (λ (q : Setting T). b < q.callers) (sym mine.table) less) in
        let f = k.fits id v at in
        let kept : Kept value step may_make setting (record { words = s.words; homes = s.homes; views = set s.views id w }) = (history, quiet value step may_make setting history s k id v at v.seen v.told lost f.seen f.told (λ h. h)) in
        let kept_words : Kept value step may_make setting (stepped s (owner_word i) found id c w t) =
        subst (λ l. Kept value step may_make setting (record { words = l; homes = s.homes; views = set s.views id w })) (sym (set-get_or s.words (owner_word i) 0)) kept in (
          w,
          t,
          tt,
          subst (λ q. Kept value step may_make setting (stepped s (owner_word i) (either q (a.number + 1) found) id c w t)) (sym (ne_eqb found 0 ne)) kept_words,
          (λ j word. of_part j word (w, c) ((λ z. absurd (ne z)), (λ z. (other, below, refl)))),
        )

    claimed : Dec (found ≡ 0) → Claimed
    claimed (yes e) = hit e
    claimed (no ne) = miss ne

  claims : (n id : ℕ) (v : View T E) (c : List (ℕ × Option B)) (a : Account) → IsIn v.callers a → number_of v.callers ≡ a.number → (i : ℕ) → i < length setting.opening → held_at v.held i ≡ None
      → Allows (Kept value step may_make setting) n id (v, c) (owner_word i) (λ m. either (eqb m 0) (a.number + 1) m) (Claims value (stepping n (owner_word i) 0 (a.number + 1) none) (v, c))
  claims n id v c a in_ named i small fresh s kept len at bound =
      claimed n id v c a in_ named i small fresh s kept.0 kept.1 at (ℕ_discrete (get_or s.words (owner_word i) 0) 0)

  -- a claim keeps the rule, won or lost
  pub claims_by : (n id b : ℕ) (m : Me (Option B) (View T E)) (a : Account) (i : ℕ) → m.0.callers ≡ a ∷ [] → a.number ≡ b → i < length setting.opening → held_at m.0.held i ≡ None
      → Allows (Kept value step may_make setting) n id m (owner_word i) (λ q. either (eqb q 0) (b + 1) q) (Claims value (stepping n (owner_word i) 0 (b + 1) none) m)
  claims_by n id b m a i is e small fresh =
      let in_ : IsIn m.0.callers a = subst (λ l. IsIn l a) (sym is) (inl refl) in
      let named : number_of m.0.callers ≡ a.number = ap number_of is in
      let P : ℕ → Type 0 = λ y. Allows (Kept value step may_make setting) n id m (owner_word i) (λ q. either (eqb q 0) (y + 1) q) (Claims value (stepping n (owner_word i) 0 (y + 1) none) m) in
      subst P e (claims n id m.0 m.1 a in_ named i small fresh)

  releases : (n id : ℕ) (v : View T E) (c : List (ℕ × Option B)) (i : ℕ) (x : B) → i < length setting.opening → held_at v.held i ≡ Some (value x)
      → Allows (Kept value step may_make setting) n id (v, (slot_of i, Some x) ∷ c) (owner_word i) (λ _. 0) (λ _. Gives (stepping n (owner_word i) 0 0 none) (v, (slot_of i, Some x) ∷ c) 0)
  releases n id v c i x small row s kept len at bound =
      let H = kept.0 in
      let k = kept.1 in
      let opened = k.opened in
      let slot : slot_of i < length s.homes = omega arith in
      let f = (k.fits id v at).rows i (value x) row in
      let there : i < length v.held = held_within v.held i (value x) row in
      let hand = set v.held i None in
      let w = record v { held = hand } in
      let t : Act (Option B) = gives in
      let homes = set s.homes (slot_of i) (some (Some x)) in
      let m : Moves value step may_make setting H s k id v at i small 0 homes hand = record {
        places = length-set v.held i None;
        size = length-set s.homes (slot_of i) (some (Some x));
        other_homes = λ j ne. set_else s.homes (slot_of i) j (some (Some x)) ne;
        home_here = λ z. (x, set_here s.homes (slot_of i) (some (Some x)) slot, f.0);
        row_here = λ y h. absurd (let none_here = held_set_here v.held i None there in cc (none_here, h));
        other_rows = λ j ne. held_set_else v.held i j None ne;
        owned_here = λ b e. absurd (omega arith);
        alone = λ q u ne e h.
            (let g = (k.fits q u e).rows i h.0 h.1 in
            let both : f.1.0 ≡ g.1.0 = (let z = sym g.1.2 ∙ f.1.2 in omega arith) in
            ne (k.one q id u v g.1.0 e at g.1.1 (subst (λ b. Keeps v b) both f.1.1)));
      } in
      (w, t, tt, (H, moved value step may_make setting H s k id v at i small 0 homes hand m), (λ j word. ap (λ q. (record v { held = set v.held q None }, c)) (part_of_word i j word)))

  -- a release of the part whose slot was taken last
  pub releases_at : (n id : ℕ) (m : Me (Option B) (View T E)) (v : View T E) (r : List (ℕ × Option B)) (i : ℕ) (x : B) → m ≡ (v, (slot_of i, Some x) ∷ r) → i < length setting.opening → held_at v.held i ≡ Some (value x)
      → Allows (Kept value step may_make setting) n id m (owner_word i) (λ _. 0) (λ _. Gives (stepping n (owner_word i) 0 0 none) m 0)
  releases_at n id m v r i x e small row =
      let P : Me (Option B) (View T E) → Type 0 = λ y. Allows (Kept value step may_make setting) n id y (owner_word i) (λ _. 0) (λ _. Gives (stepping n (owner_word i) 0 0 none) y 0) in
      subst P (sym e) (releases n id v r i x small row)

-- ---- as calls have them, by the word that they stepped on

first_value : {B : Type 0} → List (ℕ × Option B) → Option B
first_value [] = None
first_value (x ∷ slots) = x.1

module _ {B T E : Type 0} (value : B → T) where
  pub taken : (i word : ℕ) (m w : Me (Option B) (View T E)) (f : ℕ) → word ≡ owner_word i → f ≡ 0 → Claims value (stepping 0 word 0 0 none) m f w → Takes value i m w
  taken i word m w f at e h = (h i at).0 e

  pub lost : (i word : ℕ) (m w : Me (Option B) (View T E)) (f : ℕ) → word ≡ owner_word i → f ≢ 0 → Claims value (stepping 0 word 0 0 none) m f w → Loses i (f - 1) m w
  lost i word m w f at ne h = (h i at).1 ne

  module _ (i slot : ℕ) (m w : Me (Option B) (View T E)) (o : Option B) (at : slot ≡ slot_of i) (t : Takes value i m w) (out : w.1 ≡ (slot, o) ∷ rest w.1) where
    -- what came out of the slot of a part that was taken
    pub came_out : o ≡ Some t.0
    unfolding first_value
    came_out = ap first_value (sym out ∙ ap (λ q. q.1) t.1)

    pub taken_out : (n : Me (Option B) (View T E)) (x : B) → o ≡ Some x → n ≡ (w.0, (slot, None) ∷ rest w.1) → n ≡ (record m.0 { held = set m.0.held i (Some (value x)) }, (slot_of i, None) ∷ m.1)
    taken_out n x is e =
        let both : Some t.0 ≡ Some x = sym came_out ∙ is in
        let same : t.0 ≡ x = cc both in
        e ∙ ap (λ (q : Me (Option B) (View T E)). (q.0, (slot, None) ∷ rest q.1)) t.1
        ∙ ap (λ k. (record m.0 { held = set m.0.held i (Some (value t.0)) }, (k, None) ∷ m.1)) at
        ∙ ap (λ y. (record m.0 { held = set m.0.held i (Some (value y)) }, (slot_of i, None) ∷ m.1)) same
