-- Events that are laid, log by log.
use Rattle.std.proofs.Common.{◌≡◌, ◌<◌, ◌+◌, ◌-◌, ◌++◌, ◌⊎◌, ℕ, zero, suc, List, [], ◌∷◌, refl, ap, sym, ◌∙◌, subst, map, flat_map, length, length-append, arith, Option, Some, None, slice_get, slice_set, inl, inr}
use Rattle.std.proofs.lemmas.List.{length-map}
use Rattle.std.proofs.lemmas.Option.{slice_get_within}
use Rattle.mms_types.specs.declared.event.CellEvent.{CellEvent}
use Rattle.part_table.specs.History.{IsMade}
use Rattle.mms_device.specs.Making.{MayMake}
use Rattle.mms_device.specs.Shared.{History, all_events}
use Rattle.cell_run.specs.Laying.{Has, IsLaid, IsServedBy, Log, Stands, filled}
use Rattle.cell_run.proofs.OwnEvents.{all_filled, has_cases, has_flat, has_left, has_right, lay_one, placed_stands, placed_there}
use Rattle.cell_run.proofs.Worked.{map_there, slice_there}

module _ {X : Type 0} where
  pub at_seam : (all ys zs : List X) (x : X) → all ≡ ys ++ x ∷ zs → slice_get all (length ys) ≡ Some x
  at_seam all ys zs x is = ap (λ (l : List X). slice_get l (length ys)) is ∙ by ys
    where
      by : (ws : List X) → slice_get (ws ++ x ∷ zs) (length ws) ≡ Some x
      by [] = refl
      by (w ∷ ws) = by ws

-- ---- what is there

pub filled_none : (xs : List (Option CellEvent)) (o : Option CellEvent) → o ≡ None → filled (xs ++ o ∷ []) ≡ filled xs
filled_none [] o is = ap (λ (z : Option CellEvent). filled (z ∷ [])) is
filled_none (None ∷ xs) o is = filled_none xs o is
filled_none (Some e ∷ xs) o is = ap (λ (l : List CellEvent). e ∷ l) (filled_none xs o is)

pub filled_more : (xs : List (Option CellEvent)) (o : Option CellEvent) (e : CellEvent) → o ≡ Some e → filled (xs ++ o ∷ []) ≡ filled xs ++ e ∷ []
filled_more [] o e is = ap (λ (z : Option CellEvent). filled (z ∷ [])) is
filled_more (None ∷ xs) o e is = filled_more xs o e is
filled_more (Some x ∷ xs) o e is = ap (λ (l : List CellEvent). x ∷ l) (filled_more xs o e is)

-- ---- the events of one, from the last to the first

module _ (all_tickets tickets : Log) (x : ℕ × CellEvent) (less : all_tickets ≡ tickets ++ x ∷ []) where
  pub has_last : Has all_tickets x
  has_last = subst (λ (l : Log). Has l x) (sym less) (has_right tickets (x ∷ []) x (inl refl))

  pub has_before : (q : ℕ × CellEvent) → Has tickets q → Has all_tickets q
  has_before q h = subst (λ (l : Log). Has l q) (sym less) (has_left tickets (x ∷ []) q h)

  pub laid_one : (first index : ℕ) (slots now : List (Option CellEvent)) (all : List CellEvent) → now ≡ slice_set slots (x.0 - first) (Some x.1) → x.0 - first < length slots → Stands first all x
      → IsLaid slots all index ⊎ ((event : CellEvent) → slice_get all index ≡ Some event → Has all_tickets (first + index, event))
      → IsLaid now all index ⊎ ((event : CellEvent) → slice_get all index ≡ Some event → Has tickets (first + index, event))
  laid_one first index slots now all is within stands before =
      lay_one first slots now all tickets x index is within stands
      (elim before [
        | inl l ↦ inl l
        | inr f ↦ inr (λ event at. subst (λ (l : Log). Has l (first + index, event)) less (f event at))
      ])

pub in_slots : (first : ℕ) (all : List CellEvent) (slots : ℕ) (x : ℕ × CellEvent) → length all ≡ slots → Stands first all x → x.0 - first < slots
in_slots first all slots x size stands = let lt = slice_get_within all (x.0 - first) x.1 stands.1 in omega arith

pub laid_end : (first index : ℕ) (slots : List (Option CellEvent)) (all : List CellEvent) (log : Log) → length log ≡ 0
    → IsLaid slots all index ⊎ ((event : CellEvent) → slice_get all index ≡ Some event → Has log (first + index, event)) → IsLaid slots all index
laid_end first index slots all [] none (inl l) = l
laid_end first index slots all [] none (inr f) = λ e at. absurd (f e at)
laid_end first index slots all (x ∷ log) none h = absurd (omega arith)

-- ---- and those of all

made_at : (callers : ℕ) (body : History) (i : ℕ) (m : ℕ × CellEvent) → IsMade callers MayMake body → slice_get body i ≡ Some m → m.0 < callers
made_at callers [] i m made at = absurd (cc at)
made_at callers (x ∷ body) zero m made at = let e : x ≡ m = cc at in subst (λ (k : ℕ × CellEvent). k.0 < callers) e made.0
made_at callers (x ∷ body) (suc i) m made at = made_at callers body i m made.2 at

at_map : {X Y : Type 0} (f : X → Y) (xs : List X) (i : ℕ) (x : X) → slice_get xs i ≡ Some x → slice_get (map f xs) i ≡ Some (f x)
at_map f [] i x at = absurd (cc at)
at_map f (y ∷ xs) zero x at = let e : y ≡ x = cc at in ap (λ z. Some (f z)) e
at_map f (y ∷ xs) (suc i) x at = at_map f xs i x at

none_left : {X : Type 0} (all ys rest : List X) → all ≡ ys ++ rest → length all ≡ length ys → rest ≡ []
none_left all ys [] is same = refl
none_left all ys (x ∷ rest) is same = absurd (let n = ap length is in omega (arith, n, length-append ys (x ∷ rest)))

module _ {J : Type 0} (f : J → Log) where
  pub none_laid : (first : ℕ) (logs rest : List J) (body : History) (index : ℕ) (slots : List (Option CellEvent)) → logs ≡ rest → IsServedBy first (map f logs) body
      → IsLaid slots (all_events body) index ⊎ ((e : CellEvent) → slice_get (all_events body) index ≡ Some e → Has (flat_map f rest) (first + index, e))
  none_laid first logs rest body index slots same s = inr (λ e at. one e at)
    where
      one : (e : CellEvent) → slice_get (all_events body) index ≡ Some e → Has (flat_map f rest) (first + index, e)
      one e at =
          let m = map_there (λ (m : ℕ × CellEvent). m.1) body index e at in
          let lt = made_at (length (map f logs)) body index m.0 s.made m.1 in
          let many = length-map logs f in
          let a = slice_there logs m.0.0 (omega arith) in
          let pair : m.0 ≡ (m.0.0, e) = ap (λ (x : CellEvent). (m.0.0, x)) (sym m.2) in
          let there = placed_there first m.0.0 body index e (m.1 ∙ ap (λ z. Some z) pair) in
          let h = subst (λ (l : Log). Has l (first + index, e)) (sym (s.served m.0.0 (f a.0) (at_map f logs m.0.0 a.0 a.1))) there in
          subst (λ (l : List J). Has (flat_map f l) (first + index, e)) same (has_flat f logs m.0.0 a.0 (first + index, e) a.1 h)

  pub log_stands : (first : ℕ) (logs : List J) (body : History) (i : ℕ) (a : J) → IsServedBy first (map f logs) body → slice_get logs i ≡ Some a → (q : ℕ × CellEvent) → Has (f a) q → Stands first (all_events body) q
  log_stands first logs body i a s at q h = placed_stands first i body q (subst (λ (l : Log). Has l q) (s.served i (f a) (at_map f logs i a at)) h)

  pub log_laid : (first index : ℕ) (slots now : List (Option CellEvent)) (all : List CellEvent) (a : J) (old rest : List J) → old ≡ a ∷ rest
      → (IsLaid slots all index ⊎ ((e : CellEvent) → slice_get all index ≡ Some e → Has (f a) (first + index, e)) → IsLaid now all index)
      → IsLaid slots all index ⊎ ((e : CellEvent) → slice_get all index ≡ Some e → Has (flat_map f old) (first + index, e))
      → IsLaid now all index ⊎ ((e : CellEvent) → slice_get all index ≡ Some e → Has (flat_map f rest) (first + index, e))
  log_laid first index slots now all a old rest steps lay before = by (slice_get all index) refl before
    where
      by : (o : Option CellEvent) → slice_get all index ≡ o → IsLaid slots all index ⊎ ((e : CellEvent) → slice_get all index ≡ Some e → Has (flat_map f old) (first + index, e))
          → IsLaid now all index ⊎ ((e : CellEvent) → slice_get all index ≡ Some e → Has (flat_map f rest) (first + index, e))
      by o at (inl l) = inl (lay (inl l))
      by None at (inr g) = inl (λ e there. absurd (cc (sym at ∙ there)))
      by (Some x) at (inr g) =
          let here = subst (λ (l : List J). Has (flat_map f l) (first + index, x)) steps (g x at) in
          elim (has_cases (f a) (flat_map f rest) (first + index, x) here) [
            | inl k ↦ inl (lay (inr (λ e there. let same : x ≡ e = cc (sym at ∙ there) in subst (λ (y : CellEvent). Has (f a) (first + index, y)) same k)))
            | inr k ↦ inr (λ e there. let same : x ≡ e = cc (sym at ∙ there) in subst (λ (y : CellEvent). Has (flat_map f rest) (first + index, y)) same k)
          ]

  pub all_laid : (first index : ℕ) (slots : List (Option CellEvent)) (all : List CellEvent) (logs ys rest : List J) → logs ≡ ys ++ rest → length logs ≡ length ys
      → IsLaid slots all index ⊎ ((e : CellEvent) → slice_get all index ≡ Some e → Has (flat_map f rest) (first + index, e)) → IsLaid slots all index
  all_laid first index slots all logs ys rest is same (inl l) = l
  all_laid first index slots all logs ys rest is same (inr g) = λ e at. absurd (subst (λ (l : List J). Has (flat_map f l) (first + index, e)) (none_left logs ys rest is same) (g e at))

-- what is placed are the events of the body
pub body_laid : (body : History) (count : ℕ) (items now vec : List (Option CellEvent)) (events : List CellEvent) → length body ≡ count → length items ≡ count → length now ≡ length items → vec ≡ now → events ≡ filled vec
    → ((index : ℕ) → IsLaid now (all_events body) index) → events ≡ all_events body
body_laid body count items now vec events size slots same is filled_is laid =
    let n = length-map body (λ (m : ℕ × CellEvent). m.1) in
    filled_is ∙ ap filled is ∙ all_filled now (all_events body) (omega arith) laid
