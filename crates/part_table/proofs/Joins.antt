-- A view is joined into another, as a note is, or at the end the pass of another caller.
use Rattle.std.proofs.Common.{◌≡◌, ◌≢◌, ◌⊎◌, ℕ, ◌<◌, List, [], ◌∷◌, length, set, Option, None, inl, inr, refl, sym, ◌∙◌, ap, subst, arith}
use native.Mathlib.Decide.{ℕ_discrete}
use mathlib.Core.Option.{some, some-injective}
use lib.ListN.{get_elem?}
use Rattle.atomic_table.specs.Table.{State, Joins}
use Rattle.atomic_table.proofs.Lists.{set_here, set_else}
use Rattle.part_table.specs.declared.view.Setting.{Setting}
use Rattle.part_table.specs.declared.view.Account.{Account}
use Rattle.part_table.specs.declared.view.View.{View}
use Rattle.part_table.specs.Held.{held_at}
use Rattle.part_table.specs.Plays.{joined, spent}
use Rattle.part_table.specs.Rule.{IsIn, Keeps, Holds, Somewhere, Fits, Kept, KeptAt}
use Rattle.part_table.proofs.Histories.{starts_nil, longer_starts, shorter_starts, longer_whole}
use Rattle.part_table.proofs.Views.{get_at, in_either, in_left, in_right, lefts-append, total_set, before, each_set, IsKeptOnce}
use Rattle.part_table.proofs.Moves.{same_account}

module _ {B T E : Type 0} (value : B → T) (step : E → List T → List T) (may_make : ℕ → E → Type 0) (setting : Setting T) where
  module _ (history : List (ℕ × E)) (s : State (Option B) (View T E)) (k : KeptAt value step may_make setting history s) (id : ℕ) (v : View T E) (at : get_elem? s.views id ≡ some v)
      (other : ℕ) (w : View T E) (apart : other ≢ id) (there : get_elem? s.views other ≡ some w) (a : Account) (mine : IsIn v.callers a) (empty : (i : ℕ) → held_at w.held i ≡ None) where
    abbrev both : View T E
    both = joined v w

    abbrev between : List (View T E)
    between = set s.views id both

    abbrev views : List (View T E)
    views = set between other spent

    there_still : get_elem? between other ≡ some w
    there_still = set_else s.views id other both apart ∙ there

    -- who keeps a number kept it in the one or the other, or in a third view
    keeps_either : (b : ℕ) → Keeps both b → Keeps v b ⊎ Keeps w b
    keeps_either b q = elim (in_either w.callers v.callers q.0 q.1) [ inl i ↦ inr (q.0, i, q.2) | inr i ↦ inl (q.0, i, q.2) ]

    abbrev Origin : ℕ → ℕ → Type 0
    Origin p b = (o : ℕ) × (u : View T E) × (get_elem? s.views o ≡ some u) × Keeps u b × (((p ≡ o) × (o ≢ other)) ⊎ ((p ≡ id) × (o ≡ other)))

    from_between : (p : ℕ) (u : View T E) (b : ℕ) → p ≢ other → get_elem? between p ≡ some u → Keeps u b → Origin p b
    from_between p u b ne e q =
        elim (before s.views id v both at p u e) [
          | inl t ↦ elim (keeps_either b (subst (λ (y : View T E). Keeps y b) (sym t.1) q)) [
            | inl m ↦ (id, v, at, m, inl (t.0, λ z. apart (sym z)))
            | inr m ↦ (other, w, there, m, inr (t.0, refl))
          ]
          | inr t ↦ (p, u, t.1, q, inl (refl, ne))
        ]

    origin : (p : ℕ) (u : View T E) (b : ℕ) → get_elem? views p ≡ some u → Keeps u b → Origin p b
    origin p u b e q =
        elim (before between other w spent there_still p u e) [
          | inl t ↦ absurd (let z : Keeps {T = T} {E = E} spent b = subst (λ (y : View T E). Keeps y b) (sym t.1) q in z.1)
          | inr t ↦ from_between p u b t.0 t.1 q
        ]

    one : IsKeptOnce views
    one p q x y b xp yq kx ky =
        let c = origin p x b xp kx in
        let d = origin q y b yq ky in
        let same : c.0 ≡ d.0 = k.one c.0 d.0 c.1 d.1 b c.2 d.2 c.3 d.3 in
        elim c.4 [
          | inl m ↦ elim d.4 [ inl n ↦ m.0 ∙ same ∙ sym n.0 | inr n ↦ absurd (m.1 (same ∙ n.1)) ]
          | inr m ↦ elim d.4 [ inl n ↦ absurd (n.1 (sym same ∙ m.1)) | inr n ↦ m.0 ∙ sym n.0 ]
        ]

    -- what is so of the one or the other is so of both together
    somewhere : (Q : View T E → Type 0) → (Q v → Q both) → (Q w → Q both) → Somewhere Q s.views → Somewhere Q views
    somewhere Q left right o = by (ℕ_discrete o.0 id) (ℕ_discrete o.0 other)
      where
        together : Q both → Somewhere Q views
        together q = (id, both, set_else between other id spent (λ z. apart (sym z)) ∙ set_here s.views id both (get_at s.views id v at), q)

        by : Dec (o.0 ≡ id) → Dec (o.0 ≡ other) → Somewhere Q views
        by (yes e) c = let same : o.1 ≡ v = some-injective o.1 v (sym o.2 ∙ ap (λ n. get_elem? s.views n) e ∙ at) in together (left (subst Q same o.3))
        by (no ne) (yes e) = let same : o.1 ≡ w = some-injective o.1 w (sym o.2 ∙ ap (λ n. get_elem? s.views n) e ∙ there) in together (right (subst Q same o.3))
        by (no ne) (no n) = (o.0, o.1, set_else between other o.0 spent n ∙ set_else s.views id o.0 both ne ∙ o.2, o.3)

    both_fits : Fits value step may_make setting s.words history both
    both_fits =
        let f = k.fits id v at in
        let g = k.fits other w there in
        let my = f.accounts a mine in
        record {
          seen = longer_starts history v.seen w.seen f.seen g.seen;
          told = (shorter_starts history v.seen w.seen f.seen g.seen, f.told);
          accounts = λ b i.
              elim (in_either w.callers v.callers b i) [
                | inl j ↦ (let q = g.accounts b j in record { table = my.table; places = my.places; number = q.number; own = q.own; quota = q.quota })
                | inr j ↦ same_account value step may_make setting history s k id v at both refl refl b (f.accounts b j)
              ];
          rows = λ j x h. let r = f.rows j x h in (r.0, (r.1.0, (r.1.1.0, in_right w.callers v.callers r.1.1.0 r.1.1.1, r.1.1.2), r.1.2));
        }

    spent_fits : Fits value step may_make setting s.words history spent
    spent_fits = record { seen = starts_nil history; told = tt; accounts = λ b i. absurd i; rows = λ j x h. absurd (cc h) }

    fits : (p : ℕ) (u : View T E) → get_elem? views p ≡ some u → Fits value step may_make setting s.words history u
    fits = each_set between other w spent there_still (λ p u. Fits value step may_make setting s.words history u) spent_fits
        (λ p u ne e. each_set s.views id v both at (λ p u. Fits value step may_make setting s.words history u) both_fits (λ p u ne e. k.fits p u e) p u e)

    pub united : KeptAt value step may_make setting history (record { words = s.words; homes = s.homes; views = set (set s.views id (joined v w)) other spent })
    united = record {
      sized = k.sized;
      opened = k.opened;
      parts = k.parts;
      limit = k.limit;
      count = k.count;
      room = (let t = total_set s.views id v both at in let u = total_set between other w spent there_still in let l = lefts-append w.callers v.callers in let r = k.room in omega arith);
      made = k.made;
      fits = fits;
      whole = somewhere (λ u. (u.seen ≡ history) × ((b : Account) × IsIn u.callers b))
          (λ q. (longer_whole history v.seen w.seen (k.fits id v at).seen (k.fits other w there).seen (inl q.0), (q.1.0, in_right w.callers v.callers q.1.0 q.1.1)))
          (λ q. (longer_whole history v.seen w.seen (k.fits id v at).seen (k.fits other w there).seen (inr q.0), (q.1.0, in_left w.callers v.callers q.1.0 q.1.1))) k.whole;
      one = one;
      home = k.home;
      owned = λ j b lt z. somewhere (λ u. Keeps u b × Holds u j) (λ q. ((q.0.0, in_right w.callers v.callers q.0.0 q.0.1, q.0.2), q.1))
          (λ q. absurd (let none_held = empty j in let h = q.1.1 in cc (none_held, h))) (k.owned j b lt z);
    }

  -- a view that holds nothing is joined into one that keeps a number
  pub joins : (id : ℕ) (v : View T E) (other : ℕ) (w : View T E) (a : Account) → IsIn v.callers a → ((i : ℕ) → held_at w.held i ≡ None)
      → Joins (Kept value step may_make setting) id v other w (joined v w) spent
  joins id v other w a mine empty s kept at apart at_other =
      let there : get_elem? s.views other ≡ some w = sym (set_else s.views id other (joined v w) apart) ∙ at_other in
      (kept.0, united kept.0 s kept.1 id v at other w apart there a mine empty)

  some_account : (l : List Account) → 0 < length l → (a : Account) × IsIn l a
  some_account [] h = absurd (omega arith)
  some_account (a ∷ l) h = (a, inl refl)

  pub joins_any : (id : ℕ) (v : View T E) (other : ℕ) (w : View T E) → 0 < length v.callers → ((i : ℕ) → held_at w.held i ≡ None)
      → Joins (Kept value step may_make setting) id v other w (joined v w) spent
  joins_any id v other w keeper empty = let a = some_account v.callers keeper in joins id v other w a.0 a.1 empty
