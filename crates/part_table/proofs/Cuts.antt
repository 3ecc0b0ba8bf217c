-- A view is cut in two: a number is given to a new one, or a note is made.
use Rattle.std.proofs.Common.{◌≡◌, ◌≢◌, ◌⊎◌, ℕ, zero, suc, ◌+◌, ◌-◌, ◌≤◌, ◌<◌, List, [], ◌∷◌, ◌++◌, length, map, set, Option, None, Some, inl, inr, refl, sym, ◌∙◌, ap, subst, arith, length-set}
use native.Mathlib.Decide.{ℕ_discrete}
use mathlib.Core.Option.{some, some-injective, some-ne-none}
use lib.ListN.{get_elem?}
use Rattle.std.proofs.lemmas.List.FromFn.{map-range_with_len_more}
use Rattle.std.specs.List.{range_with_len}
use Rattle.atomic_table.specs.Seated.{TableId}
use Rattle.atomic_table.specs.Table.{State, Me, Splits}
use Rattle.atomic_table.proofs.Lists.{set_here, set_else, at_longer, at_last}
use Rattle.part_table.specs.declared.view.Setting.{Setting}
use Rattle.part_table.specs.declared.view.Account.{Account}
use Rattle.part_table.specs.declared.view.View.{View}
use Rattle.part_table.specs.Held.{held_at}
use Rattle.part_table.specs.Known.{Known, newcomer, nothing}
use Rattle.part_table.specs.Tables.{opened}
use Rattle.part_table.specs.declared.view.Key.{Key}
use Rattle.part_table.specs.Plays.{starting, accounts_from, first_account, other_accounts, with_first, without_first, note_of}
use Rattle.part_table.specs.Rule.{setting_of, IsIn, lefts, Keeps, Holds, Somewhere, Fits, Kept, KeptAt}
use Rattle.part_table.proofs.Views.{get_at, total_set, total_snoc, before, still_once, each_set, IsKeptOnce}
use Rattle.part_table.proofs.Hands.{nothing_held, nothing_long}
use Rattle.part_table.proofs.Moves.{same_account}
use Rattle.part_table.proofs.Opening.{fresh}

pub at_end : {A : Type 0} (l : List A) (a b : A) (j : ℕ) → get_elem? (l ++ a ∷ []) j ≡ some b → (get_elem? l j ≡ some b) ⊎ ((j ≡ length l) × (a ≡ b))
at_end [] a b zero e = inr (refl, some-injective a b e)
at_end [] a b (suc j) e = absurd (some-ne-none b (sym e))
at_end (x ∷ xs) a b zero e = inl e
at_end (x ∷ xs) a b (suc j) e = elim (at_end xs a b j e) [ inl h ↦ inl h | inr t ↦ inr (let p = t.0 in omega arith, t.1) ]

module _ {B T E : Type 0} (value : B → T) (step : E → List T → List T) (may_make : ℕ → E → Type 0) (setting : Setting T) where
  -- the numbers of a view are given to two, and the second holds nothing
  pub record Shares (v : View T E) (l r : List Account) (hand : List (Option T)) : Type 0 where
    pub from_left : (a : Account) → IsIn l a → IsIn v.callers a
    pub from_right : (a : Account) → IsIn r a → IsIn v.callers a
    pub either : (a : Account) → IsIn v.callers a → IsIn l a ⊎ IsIn r a
    pub apart : (a b : Account) → IsIn l a → IsIn r b → a.number ≢ b.number
    pub sum : lefts l + lefts r ≡ lefts v.callers
    pub empty : (i : ℕ) → held_at hand i ≡ None
    pub places : (a : Account) → IsIn r a → length hand ≡ length v.held
    pub stays : (i : ℕ) (x : T) → held_at v.held i ≡ Some x → (a : Account) → IsIn v.callers a → IsIn l a

  module _ (history : List (ℕ × E)) (s : State (Option B) (View T E)) (k : KeptAt value step may_make setting history s) (id : ℕ) (v : View T E) (at : get_elem? s.views id ≡ some v)
      (l r : List Account) (hand : List (Option T)) (h : Shares v l r hand) where
    abbrev left : View T E
    left = record v { callers = l }

    abbrev right : View T E
    right = record { setting = v.setting; callers = r; seen = v.seen; told = v.told; held = hand; lost = [] }

    abbrev views : List (View T E)
    views = set s.views id left ++ right ∷ []

    size : length (set s.views id left) ≡ length s.views
    size = length-set s.views id left

    left_fits : Fits value step may_make setting s.words history left
    left_fits =
        let f = k.fits id v at in
        record {
          seen = f.seen;
          told = f.told;
          accounts = λ a i. same_account value step may_make setting history s k id v at left refl refl a (f.accounts a (h.from_left a i));
          rows = λ j x e. let t = f.rows j x e in (t.0, (t.1.0, (t.1.1.0, h.stays j x e t.1.1.0 t.1.1.1, t.1.1.2), t.1.2));
        }

    right_fits : Fits value step may_make setting s.words history right
    right_fits =
        let f = k.fits id v at in
        record {
          seen = f.seen;
          told = f.told;
          accounts = λ a i. same_account value step may_make setting history s k id v at right refl (h.places a i) a (f.accounts a (h.from_right a i));
          rows = λ j x e. absurd (let n = h.empty j in cc (n, e));
        }

    old_fits : (a : ℕ) (u : View T E) → get_elem? (set s.views id left) a ≡ some u → Fits value step may_make setting s.words history u
    old_fits = each_set s.views id v left at (λ a u. Fits value step may_make setting s.words history u) left_fits (λ a u ne e. k.fits a u e)

    fits : (a : ℕ) (u : View T E) → get_elem? views a ≡ some u → Fits value step may_make setting s.words history u
    fits a u e =
        elim (at_end (set s.views id left) right u a e) [
          | inl o ↦ old_fits a u o
          | inr t ↦ subst (Fits value step may_make setting s.words history) t.1 right_fits
        ]

    -- who keeps a number that the second has
    strange : (a : ℕ) (u : View T E) (b : ℕ) → get_elem? (set s.views id left) a ≡ some u → Keeps u b → Keeps right b → ⊥
    strange a u b e mine theirs =
        elim (before s.views id v left at a u e) [
          | inl t ↦
              let q : Keeps left b = subst (λ (y : View T E). Keeps y b) (sym t.1) mine in
              h.apart q.0 theirs.0 q.1 theirs.1 (q.2 ∙ sym theirs.2)
          | inr t ↦ t.0 (k.one a id u v b t.1 at mine (theirs.0, h.from_right theirs.0 theirs.1, theirs.2))
        ]

    one : IsKeptOnce views
    one p q x y b xp yq kx ky =
        elim (at_end (set s.views id left) right x p xp) [
          | inl o ↦ elim (at_end (set s.views id left) right y q yq) [
            | inl n ↦ still_once s.views id v left at (λ c g. (g.0, h.from_left g.0 g.1, g.2)) k.one p q x y b o n kx ky
            | inr t ↦ absurd (strange p x b o kx (subst (λ (z : View T E). Keeps z b) (sym t.1) ky))
          ]
          | inr t ↦ elim (at_end (set s.views id left) right y q yq) [
            | inl n ↦ absurd (strange q y b n ky (subst (λ (z : View T E). Keeps z b) (sym t.1) kx))
            | inr u ↦ t.0 ∙ sym u.0
          ]
        ]

    -- it is so of the one or the other of the two, or of another view
    somewhere : (Q : View T E → Type 0) → (Q v → Q left ⊎ Q right) → Somewhere Q s.views → Somewhere Q views
    somewhere Q mine o = by (ℕ_discrete o.0 id)
      where
        by : Dec (o.0 ≡ id) → Somewhere Q views
        by (yes e) =
            let same : o.1 ≡ v = some-injective o.1 v (sym o.2 ∙ ap (λ n. get_elem? s.views n) e ∙ at) in
            elim (mine (subst Q same o.3)) [
              | inl q ↦ (id, left, at_longer (set s.views id left) (right ∷ []) id left (set_here s.views id left (get_at s.views id v at)), q)
              | inr q ↦ (length (set s.views id left), right, at_last (set s.views id left) right (length (set s.views id left)) refl, q)
            ]
        by (no ne) = (o.0, o.1, at_longer (set s.views id left) (right ∷ []) o.0 o.1 (set_else s.views id o.0 left ne ∙ o.2), o.3)

    pub cut : KeptAt value step may_make setting history (record { words = s.words; homes = s.homes; views = set s.views id (record v { callers = l }) ++ record { setting = v.setting; callers = r; seen = v.seen; told = v.told; held = hand; lost = [] } ∷ [] })
    cut = record {
      sized = k.sized;
      opened = k.opened;
      parts = k.parts;
      limit = k.limit;
      count = k.count;
      room = (let t = total_set s.views id v left at in let u = total_snoc (set s.views id left) right in let q = h.sum in omega (arith, k.room));
      made = k.made;
      fits = fits;
      whole = somewhere (λ u. (u.seen ≡ history) × ((a : Account) × IsIn u.callers a))
          (λ q. elim (h.either q.1.0 q.1.1) [ inl i ↦ inl (q.0, (q.1.0, i)) | inr i ↦ inr (q.0, (q.1.0, i)) ]) k.whole;
      one = one;
      home = k.home;
      owned = λ j b lt z. somewhere (λ u. Keeps u b × Holds u j) (λ q. inl ((q.0.0, h.stays j q.1.0 q.1.1 q.0.0 q.0.1, q.0.2), q.1)) (k.owned j b lt z);
    }

  -- a note is made
  pub splits_note : (id : ℕ) (v : View T E) → Splits (Kept value step may_make setting) id v v (note_of v)
  splits_note id v s kept at = (
    kept.0,
    cut kept.0 s kept.1 id v at v.callers [] [] (record {
      from_left = λ a i. i;
      from_right = λ a i. absurd i;
      either = λ a i. inl i;
      apart = λ a b i j. absurd j;
      sum = omega arith;
      empty = λ i. refl;
      places = λ a i. absurd i;
      stays = λ i x e a j. j;
    }),
  )

  -- the first number is given to a new view
  pub splits_first : (id : ℕ) (v : View T E) (quota from callers : ℕ) → v.callers ≡ accounts_from quota from (suc callers) → ((i : ℕ) → held_at v.held i ≡ None) → length v.held ≡ length v.setting.opening
      → Splits (Kept value step may_make setting) id v (without_first v) (with_first v)
  splits_first id v quota from callers is empty places s kept at = (
    kept.0,
    cut kept.0 s kept.1 id v at (other_accounts v.callers) (first_account v.callers) (nothing (length v.setting.opening)) (record {
      from_left = λ a i. later v.callers a i;
      from_right = λ a i. first v.callers a i;
      either = λ a i. cases v.callers a i;
      apart = λ a b i j same.
          (let x = subst (λ (q : List Account). IsIn (other_accounts q) a) is i in
          let f = fresh quota (from + 1) callers a x in
          let above = f.above in
          let y : (record { number = from; own = []; left = quota } ≡ b) ⊎ ⊥ = subst (λ (q : List Account). IsIn (first_account q) b) is j in
          let z : from ≡ b.number = elim y [ inl p ↦ ap (λ (q : Account). q.number) p | inr t ↦ absurd t ] in
          omega arith);
      sum = added v.callers;
      empty = nothing_held T (length v.setting.opening);
      places = λ a i. nothing_long T (length v.setting.opening) ∙ sym places;
      stays = λ i x e a j. absurd (let n = empty i in cc (n, e));
    }),
  )
    where
      later : (l : List Account) (a : Account) → IsIn (other_accounts l) a → IsIn l a
      later [] a h = h
      later (b ∷ l) a h = inr h

      first : (l : List Account) (a : Account) → IsIn (first_account l) a → IsIn l a
      first [] a h = h
      first (b ∷ l) a h = elim h [ inl p ↦ inl p | inr t ↦ absurd t ]

      cases : (l : List Account) (a : Account) → IsIn l a → IsIn (other_accounts l) a ⊎ IsIn (first_account l) a
      cases [] a h = absurd h
      cases (b ∷ l) a h = elim h [ inl p ↦ inr (inl p) | inr t ↦ inl t ]

      added : (l : List Account) → lefts (other_accounts l) + lefts (first_account l) ≡ lefts l
      added [] = omega arith
      added (b ∷ l) = omega arith

-- the numbers from one on are that one and those from the next on
pub one_more : (quota from callers : ℕ) → from < callers → accounts_from quota from (callers - from) ≡ record { number = from; own = []; left = quota } ∷ accounts_from quota (from + 1) (callers - (from + 1))
one_more quota from callers lt = let e : callers - from ≡ suc (callers - (from + 1)) = omega arith in ap (λ n. accounts_from quota from n) e

module _ {B T E : Type 0} (setting : Setting T) where
  abbrev Starts : Me B (View T E) → List Account → Type 0
  Starts m accounts = m ≡ (starting setting accounts, [])

  -- the seat that gives a number away, and the seat that gets it
  pub rest_starts : (m w : Me B (View T E)) (quota from callers : ℕ) → Starts m (accounts_from quota from (callers - from)) → from < callers → w ≡ (without_first m.0, m.1)
      → w ≡ (starting setting (accounts_from quota (from + 1) (callers - (from + 1))), [])
  rest_starts m w quota from callers is lt e =
      e ∙ ap (λ (q : Me B (View T E)). (without_first q.0, q.1)) is
      ∙ ap (λ (l : List Account). (starting setting (other_accounts l), [])) (one_more quota from callers lt)

  pub first_starts : (m w : Me B (View T E)) (quota from callers : ℕ) → Starts m (accounts_from quota from (callers - from)) → from < callers → w ≡ (with_first m.0, [])
      → w ≡ (starting setting (record { number = from; own = []; left = quota } ∷ []), [])
  first_starts m w quota from callers is lt e =
      e ∙ ap (λ (q : Me B (View T E)). (with_first q.0, [])) is
      ∙ ap (λ (l : List Account). (starting setting (first_account l), [])) (one_more quota from callers lt)

  pub last_starts : (m : Me B (View T E)) (quota callers : ℕ) → Starts m (accounts_from quota (callers - 1) (callers - (callers - 1))) → 1 ≤ callers
      → m ≡ (starting setting (record { number = callers - 1; own = []; left = quota } ∷ []), [])
  last_starts m quota callers is any =
      let one : callers - (callers - 1) ≡ suc zero = omega arith in
      is ∙ ap (λ n. (starting setting (accounts_from quota (callers - 1) n), [])) one

module _ {C B T E : Type 0} (value : B → T) (step : E → List T → List T) (may_make : ℕ → E → Type 0) (setting : Setting T) where
  pub splits_next : (id : ℕ) (m : Me C (View T E)) (quota from callers : ℕ) → m ≡ (starting setting (accounts_from quota from (callers - from)), []) → from < callers
      → Splits (Kept value step may_make setting) id m.0 (without_first m.0) (with_first m.0)
  splits_next id m quota from callers is lt =
      let e : callers - from ≡ suc (callers - (from + 1)) = omega arith in
      splits_first value step may_make setting id m.0 quota from (callers - (from + 1))
      (ap (λ (q : Me C (View T E)). q.0.callers) is ∙ ap (λ n. accounts_from quota from n) e)
      (λ i. ap (λ (q : Me C (View T E)). held_at q.0.held i) is ∙ nothing_held T (length setting.opening) i)
      (ap (λ (q : Me C (View T E)). length q.0.held) is ∙ nothing_long T (length setting.opening) ∙ ap (λ (q : Me C (View T E)). length q.0.setting.opening) (sym is))

module _ {B T E : Type 0} (setting : Setting T) (accounts : List Account) (m : Me B (View T E)) (is : m ≡ (starting setting accounts, [])) where
  pub settled : m.0.setting ≡ setting
  settled = ap (λ (q : Me B (View T E)). q.0.setting) is

  pub starts_so : m ≡ (starting m.0.setting accounts, [])
  starts_so = is ∙ ap (λ (s : Setting T). (starting s accounts, [])) (sym settled)

module _ {B T E : Type 0} (id : TableId) (key : Key T) where
  -- the pass that is made of a seat at the start
  pub seated : (other : TableId) (m : Me B (View T E)) (accounts : List Account) (by : ℕ) (p : Known T E) → other ≡ id → m ≡ (starting (setting_of key) accounts, [])
      → p ≡ newcomer (record { id = other; opening = m.0.setting.opening; callers = m.0.setting.callers; quota = m.0.setting.quota }) by → p ≡ newcomer (opened id key) by
  seated other m accounts by p same is e =
      e ∙ ap (λ (i : TableId). newcomer (record { id = i; opening = m.0.setting.opening; callers = m.0.setting.callers; quota = m.0.setting.quota }) by) same
      ∙ ap (λ (s : Setting T). newcomer (record { id = id; opening = s.opening; callers = s.callers; quota = s.quota }) by) (settled (setting_of key) accounts m is)

module _ {T E : Type 0} (id : TableId) (key : Key T) where
  -- one pass more
  pub one_pass_more : (passes longer : List (Known T E)) (by : ℕ) (p : Known T E) → passes ≡ map (newcomer (opened id key)) (range_with_len 0 by) → longer ≡ passes ++ p ∷ [] → p ≡ newcomer (opened id key) by
      → longer ≡ map (newcomer (opened id key)) (range_with_len 0 (by + 1))
  one_pass_more passes longer by p is more e =
      more ∙ ap (λ l. l ++ p ∷ []) is ∙ ap (λ q. map (newcomer (opened id key)) (range_with_len 0 by) ++ q ∷ []) e
      ∙ sym (map-range_with_len_more (newcomer (opened id key)) 0 by by (omega arith))
