-- One owner word is changed by one seat, as by a claim that wins and by a release; or only what one seat knows changes.
use Rattle.std.proofs.Common.{◌≡◌, ◌≢◌, ℕ, ◌+◌, ◌<◌, List, length, set, get_or, slice_get, Option, Some, refl, sym, ◌∙◌, ap, subst, arith, length-set, get_or-set_same, get_or-set_other}
use native.Mathlib.Decide.{ℕ_discrete}
use mathlib.Core.Option.{Option as Maybe, some}
use lib.ListN.{get_elem?}
use Rattle.atomic_table.specs.Table.{State}
use Rattle.atomic_table.proofs.Lists.{set_here}
use Rattle.part_table.specs.declared.view.Setting.{Setting}
use Rattle.part_table.specs.declared.view.Account.{Account}
use Rattle.part_table.specs.declared.view.View.{View}
use Rattle.part_table.specs.History.{StartsWith, BeginsEach}
use Rattle.part_table.specs.Held.{held_at}
use Rattle.part_table.specs.Lines.{owner_word, slot_of}
use Rattle.part_table.specs.Rule.{Keeps, Holds, Somewhere, parts_after, IsAccount, Fits, KeptAt}
use Rattle.part_table.proofs.Apart.{another_word, no_commit_word, another_slot}
use Rattle.part_table.proofs.Views.{get_at, total_set, still_once, each_set, somewhere_set}

module _ {B T E : Type 0} (value : B → T) (step : E → List T → List T) (may_make : ℕ → E → Type 0) (setting : Setting T)
    (history : List (ℕ × E)) (s : State (Option B) (View T E)) (k : KeptAt value step may_make setting history s)
    (id : ℕ) (v : View T E) (at : get_elem? s.views id ≡ some v) where
  abbrev parts : List T
  parts = parts_after value step may_make setting history

  -- an account of a view that changed in nothing that it speaks of
  pub same_account : (w : View T E) → w.setting ≡ v.setting → length w.held ≡ length v.held → (a : Account) → IsAccount value step may_make setting history v a
      → IsAccount value step may_make setting history w a
  same_account w same size a h = record { table = same ∙ h.table; places = size ∙ h.places; number = h.number; own = h.own; quota = h.quota }

  module _ (i : ℕ) (lt : i < length setting.opening) where
    -- what the step does to the word of i, to the homes and to the hand
    pub record Moves (n : ℕ) (homes : List (Maybe (Option B))) (hand : List (Option T)) : Type 0 where
      pub places : length hand ≡ length v.held
      pub size : length homes ≡ length s.homes
      pub other_homes : (j : ℕ) → j ≢ slot_of i → get_elem? homes j ≡ get_elem? s.homes j
      pub home_here : n ≡ 0 → (x : B) × (get_elem? homes (slot_of i) ≡ some (some (Some x))) × (slice_get parts i ≡ Some (value x))
      pub row_here : (x : T) → held_at hand i ≡ Some x → (slice_get parts i ≡ Some x) × ((b : ℕ) × Keeps v b × (n ≡ b + 1))
      pub other_rows : (j : ℕ) → j ≢ i → held_at hand j ≡ held_at v.held j
      pub owned_here : (b : ℕ) → n ≡ b + 1 → Keeps v b × ((x : T) × (held_at hand i ≡ Some x))
      pub alone : (a : ℕ) (u : View T E) → a ≢ id → get_elem? s.views a ≡ some u → ¬ Holds u i

    module _ (n : ℕ) (homes : List (Maybe (Option B))) (hand : List (Option T)) (m : Moves n homes hand) where
      abbrev w : View T E
      w = record v { held = hand }

      words : List ℕ
      words = set s.words (owner_word i) n

      here : get_or words (owner_word i) 0 ≡ n
      unfolding words
      here = get_or-set_same s.words (owner_word i) n 0 (omega (arith, k.sized))

      else : (j : ℕ) → j ≢ owner_word i → get_or words j 0 ≡ get_or s.words j 0
      unfolding words
      else j ne = get_or-set_other s.words (owner_word i) j n 0 ne

      Row : View T E → ℕ → T → Type 0
      Row u j x = (slice_get parts j ≡ Some x) × ((b : ℕ) × Keeps u b × (get_or words (owner_word j) 0 ≡ b + 1))

      row_of : (j : ℕ) (x : T) → Dec (j ≡ i) → held_at hand j ≡ Some x → Row w j x
      unfolding Row
      row_of j x (yes e) h =
          let t = m.row_here x (ap (λ q. held_at hand q) (sym e) ∙ h) in
          (ap (λ q. slice_get parts q) e ∙ t.0, (t.1.0, t.1.1, ap (λ q. get_or words (owner_word q) 0) e ∙ here ∙ t.1.2))
      row_of j x (no ne) h =
          let t = (k.fits id v at).rows j x (sym (m.other_rows j ne) ∙ h) in
          (t.0, (t.1.0, t.1.1, else (owner_word j) (another_word j i ne) ∙ t.1.2))

      row_else : (a : ℕ) (u : View T E) → a ≢ id → get_elem? s.views a ≡ some u → (j : ℕ) (x : T) → held_at u.held j ≡ Some x → Row u j x
      unfolding Row
      row_else a u ne e j x h =
          let t = (k.fits a u e).rows j x h in
          let other : j ≢ i = λ q. m.alone a u ne e (x, ap (λ p. held_at u.held p) (sym q) ∙ h) in
          (t.0, (t.1.0, t.1.1, else (owner_word j) (another_word j i other) ∙ t.1.2))

      fits : (a : ℕ) (u : View T E) → get_elem? (set s.views id w) a ≡ some u → Fits value step may_make setting words history u
      unfolding Row
      fits = each_set s.views id v w at (λ a u. Fits value step may_make setting words history u)
          (let f = k.fits id v at in record { seen = f.seen; told = f.told; accounts = λ a h. same_account w refl m.places a (f.accounts a h); rows = λ j x h. row_of j x (ℕ_discrete j i) h })
          (λ a u ne e. (let f = k.fits a u e in record { seen = f.seen; told = f.told; accounts = f.accounts; rows = row_else a u ne e }))

      home : (j : ℕ) → Dec (j ≡ i) → j < length setting.opening → get_or words (owner_word j) 0 ≡ 0 → (x : B) × (get_elem? homes (slot_of j) ≡ some (some (Some x))) × (slice_get parts j ≡ Some (value x))
      home j (yes e) l z =
          subst (λ q. (x : B) × (get_elem? homes (slot_of q) ≡ some (some (Some x))) × (slice_get parts q ≡ Some (value x))) (sym e)
          (m.home_here (sym here ∙ ap (λ q. get_or words (owner_word q) 0) (sym e) ∙ z))
      home j (no ne) l z =
          let t = k.home j l (sym (else (owner_word j) (another_word j i ne)) ∙ z) in
          (t.0, m.other_homes (slot_of j) (another_slot j i ne) ∙ t.1, t.2)

      owned : (j b : ℕ) → Dec (j ≡ i) → j < length setting.opening → get_or words (owner_word j) 0 ≡ b + 1 → Somewhere (λ u. Keeps u b × Holds u j) (set s.views id w)
      owned j b (yes e) l z =
          let t = m.owned_here b (sym here ∙ ap (λ q. get_or words (owner_word q) 0) (sym e) ∙ z) in
          (id, w, set_here s.views id w (get_at s.views id v at), (t.0, (t.1.0, ap (λ q. held_at hand q) e ∙ t.1.1)))
      owned j b (no ne) l z =
          somewhere_set s.views id v w at (λ u. Keeps u b × Holds u j) (λ u. Keeps u b × Holds u j) (λ h. (h.0, (h.1.0, m.other_rows j ne ∙ h.1.1))) (λ u h. h)
          (k.owned j b l (sym (else (owner_word j) (another_word j i ne)) ∙ z))

      -- the rule is kept
      pub moved : KeptAt value step may_make setting history (record { words = set s.words (owner_word i) n; homes = homes; views = set s.views id (record v { held = hand }) })
      unfolding words
      moved = record {
        sized = length-set s.words (owner_word i) n ∙ k.sized;
        opened = m.size ∙ k.opened;
        parts = k.parts;
        limit = k.limit;
        count = else 0 (λ e. no_commit_word i (sym e)) ∙ k.count;
        room = (let t = total_set s.views id v w at in omega (arith, k.room));
        made = k.made;
        fits = fits;
        whole = somewhere_set s.views id v w at _ _ (λ h. h) (λ u h. h) k.whole;
        one = still_once s.views id v w at (λ b h. h) k.one;
        home = λ j l z. home j (ℕ_discrete j i) l z;
        owned = λ j b l z. owned j b (ℕ_discrete j i) l z;
      }

  -- the rule is kept where only what one seat knows changes
  pub quiet : (seen : List (ℕ × E)) (told : List (List (ℕ × E))) (lost : List (ℕ × ℕ)) → StartsWith history seen → BeginsEach history told → (v.seen ≡ history → seen ≡ history)
      → KeptAt value step may_make setting history (record { words = s.words; homes = s.homes; views = set s.views id (record v { seen = seen; told = told; lost = lost }) })
  quiet seen told lost saw heard whole =
      let w : View T E = record v { seen = seen; told = told; lost = lost } in
      record {
        sized = k.sized;
        opened = k.opened;
        parts = k.parts;
        limit = k.limit;
        count = k.count;
        room = (let t = total_set s.views id v w at in omega (arith, k.room));
        made = k.made;
        fits = each_set s.views id v w at (λ a u. Fits value step may_make setting s.words history u)
            (let f = k.fits id v at in record { seen = saw; told = heard; accounts = λ a h. same_account w refl refl a (f.accounts a h); rows = f.rows })
            (λ a u ne e. k.fits a u e);
        whole = somewhere_set s.views id v w at _ _ (λ h. (whole h.0, h.1)) (λ u h. h) k.whole;
        one = still_once s.views id v w at (λ b h. h) k.one;
        home = k.home;
        owned = λ j b l z. somewhere_set s.views id v w at _ _ (λ h. h) (λ u h. h) (k.owned j b l z);
      }
