-- What a seat knows once it was told what another had seen.
use Rattle.std.proofs.Common.{◌≡◌, ℕ, ◌<◌, List, [], ◌∷◌, length, None, sym, ◌∙◌, ap, subst, arith}
use Rattle.atomic_table.specs.Table.{Me}
use Rattle.part_table.specs.declared.view.Account.{Account}
use Rattle.part_table.specs.declared.view.View.{View}
use Rattle.part_table.specs.History.{BeginsEach}
use Rattle.part_table.specs.Held.{held_at}
use Rattle.part_table.specs.Passes.{number_of, own_of, left_of}
use Rattle.part_table.specs.Plays.{SeesTo, Informed, joined, note_of, longer, shorter}
use Rattle.part_table.proofs.Histories.{starts_left, starts_right}

-- the one account of these
abbrev pub IsOneAccount : List Account → Type 0
IsOneAccount callers = callers ≡ record { number = number_of callers; own = own_of callers; left = left_of callers } ∷ []

pub one_account : (l : List Account) → IsOneAccount l → 0 < length l
one_account l one = let n = ap length one in omega arith

-- a note has nothing to hold
pub note_empty : {T E : Type 0} (v n : View T E) → n ≡ note_of v → (i : ℕ) → held_at n.held i ≡ None
note_empty {T} {E} v n is i = ap (λ (q : View T E). held_at q.held i) is

module _ {S T E : Type 0} where
  pub note_joined : (m w : Me S (View T E)) (v n : View T E) → n ≡ note_of v → w ≡ (joined m.0 n, m.1)
      → w ≡ (record m.0 { seen = longer m.0.seen v.seen; told = shorter m.0.seen v.seen ∷ m.0.told }, m.1)
  note_joined m w v n is e = e ∙ ap (λ (q : View T E). (joined m.0 q, m.1)) is

  pub account_kept : (m w : Me S (View T E)) (seen : List (ℕ × E)) (told : List (List (ℕ × E))) → w ≡ (record m.0 { seen = seen; told = told }, m.1) → IsOneAccount m.0.callers → IsOneAccount w.0.callers
  account_kept m w seen told is one = subst (λ (q : Me S (View T E)). IsOneAccount q.0.callers) (sym is) one

  pub informed : (step : E → List T → List T) (may_make : ℕ → E → Type 0) (m m1 w : Me S (View T E)) (v : View T E) (h : List (ℕ × E))
      → m1 ≡ (record m.0 { seen = longer m.0.seen v.seen; told = shorter m.0.seen v.seen ∷ m.0.told }, m.1) → w ≡ (record m1.0 { seen = h }, m1.1) → SeesTo step may_make h m1.0 → BeginsEach h m1.0.told
      → Informed step may_make m v w
  informed step may_make m m1 w v h is saw sees told =
      let P : Me S (View T E) → Type 0 = λ q. (w ≡ (record q.0 { seen = h }, q.1)) × SeesTo step may_make h q.0 × BeginsEach h q.0.told in
      let p = subst P is (saw, sees, told) in
      (h, shorter m.0.seen v.seen ∷ m.0.told, p.0, record { seen = starts_left h m.0.seen v.seen p.1.seen p.2.0; held = p.1.held; true_of = p.1.true_of }, starts_right h m.0.seen v.seen p.1.seen p.2.0)
