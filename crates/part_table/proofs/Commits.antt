-- A commit and a look at the commit word keep the rule.
use Rattle.std.proofs.Common.{◌≡◌, ◌≢◌, ℕ, ◌+◌, ◌-◌, ◌*◌, ◌^◌, ◌%◌, ◌<◌, ◌≤◌, List, [], ◌∷◌, ◌++◌, length, set, get_or, slice_get, Option, None, Some, inl, inr, refl, sym, ◌∙◌, ap, subst, arith, length-append, length-set, get_or-set_same, get_or-set_other}
use Rattle.std.proofs.Math.Nat.{mod-eq_of_lt}
use Rattle.std.proofs.lemmas.List.{set-get_or}
use mathlib.Core.Option.{some, none}
use lib.ListN.{get_elem?}
use Rattle.atomic_table.specs.Seated.{TableId}
use Rattle.atomic_table.specs.Table.{State, Me, Act, keeps, step as stepping, Allows, carried_after}
use Rattle.part_table.specs.declared.view.Setting.{Setting}
use Rattle.part_table.specs.declared.view.Account.{Account}
use Rattle.part_table.specs.declared.view.View.{View}
use Rattle.part_table.specs.History.{replayed, places_of}
use Rattle.part_table.specs.Held.{held_at, places_held, laid_over, IsHandOf}
use Rattle.part_table.specs.HeldLaws.{hand_of, laid_over-held, laid_over-free, length-laid_over, free_by_places, length-by_places}
use Rattle.part_table.specs.Known.{IsTrueOf}
use Rattle.part_table.specs.Lines.{owner_word}
use Rattle.part_table.specs.Passes.{known, number_of}
use Rattle.part_table.specs.Plays.{SeesTo, Sees, Commits, committed, noted}
use Rattle.part_table.specs.Rule.{IsIn, lefts, Keeps, Holds, parts_after, IsAccount, Fits, Kept, KeptAt}
use Rattle.part_table.proofs.Histories.{starts_refl, starts_more, each_more, replayed_more, places_more, places_same, made_more}
use Rattle.part_table.proofs.Apart.{no_commit_word}
use Rattle.part_table.proofs.Views.{total_set, total_at, still_once, each_set, somewhere_set, here}
use Rattle.part_table.proofs.Moves.{quiet}

-- where the same places are held, what is held in the one is held in the other
held_by_places : {T : Type 0} (one other : List (Option T)) (i : ℕ) (y : T) → places_held one ≡ places_held other → held_at one i ≡ Some y → (x : T) × (held_at other i ≡ Some x)
held_by_places {T} one other i y same held = by (held_at other i) refl
  where
    by : (o : Option T) → held_at other i ≡ o → (x : T) × (held_at other i ≡ Some x)
    by None e = absurd (let free = free_by_places other one i (sym same) e in cc (free, held))
    by (Some x) e = (x, e)

module _ {B T E : Type 0} (value : B → T) (step : E → List T → List T) (may_make : ℕ → E → Type 0) (setting : Setting T) where
  -- what a view that has seen the whole history knows is true
  truth : (history : List (ℕ × E)) (s : State (Option B) (View T E)) (k : KeptAt value step may_make setting history s) (v : View T E) (a : Account) → v.callers ≡ a ∷ []
      → IsAccount value step may_make setting history v a → (id : TableId) (hand : List (Option T)) → IsTrueOf may_make (known id (record v { seen = history }) hand)
  truth history s k v a is account id hand =
      let P : List Account → Setting T → Type 0 = λ c q. IsTrueOf may_make (known id (record v { seen = history; callers = c; setting = q }) hand) in
      let base : P (a ∷ []) setting = record { number = account.number; own = account.own; quota = account.quota; made = k.made; size = (let r = k.room in let l = k.limit in omega arith) } in
      subst (λ c. P c v.setting) (sym is) (subst (λ q. P (a ∷ []) q) (sym account.table) base)

  module _ (history : List (ℕ × E)) (s : State (Option B) (View T E)) (k : KeptAt value step may_make setting history s) (id : ℕ) (v : View T E) (at : get_elem? s.views id ≡ some v)
      (a : Account) (is : v.callers ≡ a ∷ []) where
    abbrev parts : List T
    parts = parts_after value step may_make setting history

    kept_in : IsIn v.callers a
    kept_in = subst (λ l. IsIn l a) (sym is) (inl refl)

    account : IsAccount value step may_make setting history v a
    account = (k.fits id v at).accounts a kept_in

    -- what the view holds is as the parts replayed have it
    hand : IsHandOf v.held parts
    hand = hand_of v.held parts (account.places ∙ sym k.parts) (λ i x h. ((k.fits id v at).rows i x h).0)

    pub sees_to : SeesTo step may_make history v
    sees_to =
        let f = k.fits id v at in
        record {
          seen = f.seen;
          held = subst (λ (q : Setting T). IsHandOf v.held (replayed step q.opening history)) (sym account.table) hand;
          true_of = truth history s k v a is account;
        }

  -- a load of the commit word
  pub sees : (n id : ℕ) (m : Me (Option B) (View T E)) (a : Account) → m.0.callers ≡ a ∷ []
      → Allows (Kept value step may_make setting) n id m 0 (λ q. q) (Sees step may_make (stepping n 0 0 0 none) m)
  sees n id m a is s kept len at bound =
      let H = kept.0 in
      let k = kept.1 in
      let v = m.0 in
      let f = k.fits id v at in
      let w = record v { seen = H } in
      let t : Act (Option B) = keeps in
      let same : Kept value step may_make setting (record { words = s.words; homes = s.homes; views = set s.views id w }) =
      (H, quiet value step may_make setting H s k id v at H v.told v.lost (starts_refl H) f.told (λ h. refl)) in (
        w,
        t,
        tt,
        subst (λ l. Kept value step may_make setting (record { words = l; homes = s.homes; views = set s.views id w })) (sym (set-get_or s.words 0 0)) same,
        (H, refl, k.count, sees_to H s k id v at a is, f.told),
      )

  module _ (suffices : E → List (Option T) → Type 0) (after : E → List (Option T) → List (Option T))
      (same_parts : (e : E) (hand : List (Option T)) (parts : List T) → IsHandOf hand parts → suffices e hand → places_held (after e hand) ≡ places_held hand)
      (law : (e : E) (hand : List (Option T)) (parts : List T) → IsHandOf hand parts → suffices e hand → step e parts ≡ laid_over (after e hand) parts) where
    module _ (e : E) (id : ℕ) (v : View T E) (a : Account) (is : v.callers ≡ a ∷ []) (some_left : 0 < a.left) (enough : suffices e v.held) (may : may_make a.number e)
        (s : State (Option B) (View T E)) (history : List (ℕ × E)) (k : KeptAt value step may_make setting history s) (at : get_elem? s.views id ≡ some v) where
      abbrev old_parts : List T
      old_parts = parts_after value step may_make setting history

      abbrev made : ℕ × E
      made = (a.number, e)

      abbrev longer_history : List (ℕ × E)
      longer_history = history ++ made ∷ []

      abbrev new_parts : List T
      new_parts = parts_after value step may_make setting longer_history

      abbrev account_after : Account
      account_after = record { number = a.number; own = a.own ++ (length history + 1) ∷ []; left = a.left - 1 }

      abbrev w : View T E
      w = record v { callers = account_after ∷ []; seen = longer_history; held = after e v.held }

      abbrev words : List ℕ
      words = set s.words 0 ((get_or s.words 0 0 + 1) % 2 ^ 64)

      old_hand : IsHandOf v.held old_parts
      old_hand = hand history s k id v at a is

      old_account : IsAccount value step may_make setting history v a
      old_account = account history s k id v at a is

      same : places_held (after e v.held) ≡ places_held v.held
      same = same_parts e v.held old_parts old_hand enough

      laid : new_parts ≡ laid_over (after e v.held) old_parts
      laid = replayed_more step setting.opening history made ∙ law e v.held old_parts old_hand enough

      size_after : length (after e v.held) ≡ length v.held
      size_after = length-by_places (after e v.held) v.held same

      parts_size : length new_parts ≡ length old_parts
      parts_size = ap length laid ∙ length-laid_over (after e v.held) old_parts

      else : (j : ℕ) → get_or words (owner_word j) 0 ≡ get_or s.words (owner_word j) 0
      else j = get_or-set_other s.words 0 (owner_word j) _ 0 (no_commit_word j)

      -- a part that the caller doesn't hold stays as it is
      free_value : (j : ℕ) → held_at v.held j ≡ None → slice_get new_parts j ≡ slice_get old_parts j
      free_value j free = ap (λ (l : List T). slice_get l j) laid ∙ laid_over-free (after e v.held) old_parts j (free_by_places v.held (after e v.held) j (sym same) free)

      kept_value : (j : ℕ) → ((b : ℕ) → Keeps v b → get_or s.words (owner_word j) 0 ≢ b + 1) → slice_get new_parts j ≡ slice_get old_parts j
      kept_value j strange = by (held_at v.held j) refl
        where
          by : (o : Option T) → held_at v.held j ≡ o → slice_get new_parts j ≡ slice_get old_parts j
          by None h = free_value j h
          by (Some x) h = let r = (k.fits id v at).rows j x h in absurd (strange r.1.0 r.1.1 r.1.2)

      is_a : (b : Account) → IsIn v.callers b → a ≡ b
      is_a b i = elim (subst (λ l. IsIn l b) is i) [ inl p ↦ p | inr t ↦ absurd t ]

      keeps_too : (b : ℕ) → Keeps v b → Keeps w b
      keeps_too b q = (account_after, inl refl, ap (λ (c : Account). c.number) (is_a q.0 q.1) ∙ q.2)

      kept_before : (b : ℕ) → Keeps w b → Keeps v b
      kept_before b q =
          elim q.1 [
            | inl p ↦ (a, kept_in history s k id v at a is, ap (λ (c : Account). c.number) p ∙ q.2)
            | inr t ↦ absurd t
          ]

      -- what the caller holds is as the parts replayed have it then
      row_of : (j : ℕ) (y : T) → held_at (after e v.held) j ≡ Some y → (slice_get new_parts j ≡ Some y) × ((b : ℕ) × Keeps w b × (get_or words (owner_word j) 0 ≡ b + 1))
      row_of j y h =
          let was = held_by_places (after e v.held) v.held j y same h in
          let r = (k.fits id v at).rows j was.0 was.1 in
          let here_is : slice_get new_parts j ≡ Some y = ap (λ (l : List T). slice_get l j) laid ∙ laid_over-held (after e v.held) old_parts j y (size_after ∙ old_hand.places) h in
          (here_is, (r.1.0, keeps_too r.1.0 r.1.1, else j ∙ r.1.2))

      new_account : IsAccount value step may_make setting longer_history w account_after
      new_account = record {
        table = old_account.table;
        places = size_after ∙ old_account.places;
        number = old_account.number;
        own = ap (λ (l : List ℕ). l ++ (length history + 1) ∷ []) old_account.own ∙ ap (λ n. places_of a.number history ++ n ∷ []) counted ∙ sym (places_more 1 a.number history made refl);
        quota = (let q = old_account.quota in let n = length-append a.own ((length history + 1) ∷ []) in omega arith);
      }
        where
          counted : length history + 1 ≡ 1 + length history
          counted = omega arith

      mine_fits : Fits value step may_make setting words longer_history w
      mine_fits = record {
        seen = starts_refl longer_history;
        told = each_more history v.told made (k.fits id v at).told;
        accounts = λ b i. elim i [ inl p ↦ subst (λ (c : Account). IsAccount value step may_make setting longer_history w c) p new_account | inr t ↦ absurd t ];
        rows = row_of;
      }

      other_fits : (p : ℕ) (u : View T E) → p ≢ id → get_elem? s.views p ≡ some u → Fits value step may_make setting words longer_history u
      other_fits p u ne there =
          let f = k.fits p u there in
          record {
            seen = starts_more history u.seen made f.seen;
            told = each_more history u.told made f.told;
            accounts = λ b i.
                let q = f.accounts b i in
                let strange : a.number ≢ b.number = λ n. ne (k.one p id u v b.number there at (b, i, refl) (a, kept_in history s k id v at a is, n)) in
                record { table = q.table; places = q.places; number = q.number; own = q.own ∙ sym (places_same 1 b.number history made strange); quota = q.quota };
            rows = λ j x h.
                let r = f.rows j x h in
                let strange : (b : ℕ) → Keeps v b → get_or s.words (owner_word j) 0 ≢ b + 1 = λ b q z.
                (let one_number : b ≡ r.1.0 = (let y = sym r.1.2 ∙ z in omega arith) in
                ne (k.one p id u v r.1.0 there at r.1.1 (subst (λ n. Keeps v n) one_number q))) in
                (kept_value j strange ∙ r.0, (r.1.0, r.1.1, else j ∙ r.1.2));
          }

      lefts_before : lefts v.callers ≡ a.left
      lefts_before = ap lefts is ∙ (let z : a.left + 0 ≡ a.left = omega arith in z)

      size : length history + a.left ≤ setting.callers * setting.quota
      size = let t = total_at s.views id v at in let l = lefts_before in let r = k.room in omega arith

      next : (get_or s.words 0 0 + 1) % 2 ^ 64 ≡ length history + 1
      next = let n : get_or s.words 0 0 ≡ length history = k.count in let l = k.limit in let z = size in let small : get_or s.words 0 0 + 1 < 2 ^ 64 = omega arith in mod-eq_of_lt small ∙ ap (λ q. q + 1) n

      pub added : KeptAt value step may_make setting longer_history (record { words = words; homes = s.homes; views = set s.views id w })
      added = record {
        sized = length-set s.words 0 ((get_or s.words 0 0 + 1) % 2 ^ 64) ∙ k.sized;
        opened = k.opened;
        parts = parts_size ∙ k.parts;
        limit = k.limit;
        count = get_or-set_same s.words 0 _ 0 (let z = k.sized in omega arith) ∙ next ∙ sym (length-append history (made ∷ []));
        room = (let t = total_set s.views id v w at in let r = k.room in let l = lefts_before in let n = length-append history (made ∷ []) in omega arith);
        made = made_more setting.callers may_make history made k.made old_account.number may;
        fits = each_set s.views id v w at (λ p u. Fits value step may_make setting words longer_history u) mine_fits other_fits;
        whole = here s.views id v w at (λ u. (u.seen ≡ longer_history) × ((b : Account) × IsIn u.callers b)) (refl, (account_after, inl refl));
        one = still_once s.views id v w at kept_before k.one;
        home = λ j lt z.
            let free : get_or s.words (owner_word j) 0 ≡ 0 = sym (else j) ∙ z in
            let t = k.home j lt free in
            (t.0, t.1, kept_value j (λ b q y. (let n = sym free ∙ y in omega arith)) ∙ t.2);
        owned = λ j b lt z. somewhere_set s.views id v w at (λ u. Keeps u b × Holds u j) (λ u. Keeps u b × Holds u j)
            (λ q. (keeps_too b q.0, held_by_places v.held (after e v.held) j q.1.0 (sym same) q.1.1)) (λ u q. q) (k.owned j b lt (sym (else j) ∙ z));
      }

      -- the view as it is told
      view_is : w ≡ committed after e history v
      view_is =
          ap (λ (l : List Account). record v { callers = l; seen = longer_history; held = after e v.held }) (sym (ap (λ (l : List Account). noted l (length history + 1)) is))
          ∙ ap (λ n. record v { callers = noted v.callers (length history + 1); seen = history ++ (n, e) ∷ []; held = after e v.held }) (sym (ap number_of is))

    -- a step on the commit word adds the event
    commits : (n id : ℕ) (m : Me (Option B) (View T E)) (a : Account) (e : E) → m.0.callers ≡ a ∷ [] → 0 < a.left → suffices e m.0.held → may_make a.number e
        → Allows (Kept value step may_make setting) n id m 0 (λ q. (q + 1) % 2 ^ 64) (Commits step may_make after e (stepping n 0 1 0 none) m)
    commits n id m a e is some_left enough may s kept len at bound =
        let H = kept.0 in
        let k = kept.1 in
        let t : Act (Option B) = keeps in
        let new : View T E = w e id m.0 a is some_left enough may s H k at in
        let after_it = added e id m.0 a is some_left enough may s H k at in
        let same_view = view_is e id m.0 a is some_left enough may s H k at in
        let true_then = truth (H ++ (a.number, e) ∷ []) _ after_it new (account_after e id m.0 a is some_left enough may s H k at) refl (new_account e id m.0 a is some_left enough may s H k at) in (
          new,
          t,
          tt,
          (H ++ (a.number, e) ∷ [], after_it),
          (H, ap (λ (q : View T E). (q, m.1)) same_view, k.count, sees_to H s k id m.0 at a is, (λ i hand. subst (λ (q : View T E). IsTrueOf may_make (known i q hand)) same_view (true_then i hand))),
        )

    only_one : (a b : E) → a ∷ [] ≡ b ∷ [] → a ≡ b
    only_one a b p = cc

    -- the same, for an event that is chosen at the call
    pub commits_chosen : (n id : ℕ) (m : Me (Option B) (View T E)) (a : Account) (chosen : List E) (e : E) → chosen ≡ e ∷ [] → m.0.callers ≡ a ∷ [] → 0 < a.left → suffices e m.0.held
        → may_make a.number e
        → Allows (Kept value step may_make setting) n id m 0 (λ q. (q + 1) % 2 ^ 64) (λ found w. (d : E) → chosen ≡ d ∷ [] → Commits step may_make after d (stepping n 0 1 0 none) m found w)
    commits_chosen n id m a chosen e picks is some_left enough may s kept len at bound =
        let t = commits n id m a e is some_left enough may s kept len at bound in
        (t.0, t.1, t.2, t.3, (λ d q. subst (λ y. Commits step may_make after y (stepping n 0 1 0 none) m (get_or s.words 0 0) (t.0, carried_after m.1 t.1)) (only_one e d (sym picks ∙ q)) t.4))
