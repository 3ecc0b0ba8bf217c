-- The table at the start keeps the rule.
use Rattle.std.proofs.Common.{◌≡◌, ℕ, zero, suc, ◌+◌, ◌-◌, ◌*◌, ◌^◌, ◌≤◌, ◌<◌, List, [], ◌∷◌, ◌++◌, length, map, get_or, replicate, slice_get, Option, None, Some, inl, inr, refl, sym, ◌∙◌, ap, subst, arith, suc-mul, zero-mul}
use Rattle.std.proofs.lemmas.List.{length-map}
use mathlib.Core.Option.{some, some-injective, some-ne-none}
use lib.ListN.{get_elem?}
use Rattle.atomic_table.specs.Table.{opening}
use Rattle.part_table.specs.declared.lines.TheConstants.{SLOTS_APART}
use Rattle.part_table.specs.declared.view.Setting.{Setting}
use Rattle.part_table.specs.declared.view.Account.{Account}
use Rattle.part_table.specs.declared.view.View.{View}
use Rattle.part_table.specs.Lines.{owner_word, slot_of, laid_apart}
use Rattle.part_table.specs.Plays.{accounts_from, starting}
use Rattle.part_table.specs.Rule.{IsIn, lefts, Fits, Kept}
use Rattle.part_table.proofs.Hands.{nothing_held, nothing_long}

-- every word is 0
abbrev pub AllZero : List ℕ → Type 0
AllZero ws = (i : ℕ) → get_or ws i 0 ≡ 0

pub zeros_zero : (n : ℕ) → AllZero (replicate n 0)
zeros_zero zero i = refl
zeros_zero (suc n) zero = refl
zeros_zero (suc n) (suc i) = zeros_zero n i

pub zeros_length : (n : ℕ) → length {A = ℕ} (replicate n 0) ≡ n
zeros_length zero = refl
zeros_length (suc n) = let h = zeros_length n in omega arith

-- a slot for each part
length_row : {X : Type 0} (n : ℕ) (x : X) (ys : List X) → length (replicate n x ++ ys) ≡ n + length ys
length_row zero x ys = omega arith
length_row (suc n) x ys = let h = length_row n x ys in omega arith

pub length_laid : {B : Type 0} (xs : List B) → length (laid_apart xs) ≡ slot_of (length xs)
length_laid [] = refl
length_laid {B} (x ∷ xs) = let h = length_laid xs in let row = length_row {X = Option B} (SLOTS_APART - 1) None (laid_apart xs) in omega arith

-- an account at the start
pub record IsFresh (quota from callers : ℕ) (a : Account) : Type 0 where
  pub above : from ≤ a.number
  pub below : a.number < from + callers
  pub own : a.own ≡ []
  pub left : a.left ≡ quota

pub fresh : (quota from callers : ℕ) (a : Account) → IsIn (accounts_from quota from callers) a → IsFresh quota from callers a
fresh quota from zero a h = absurd h
fresh quota from (suc callers) a h =
    elim h [
      | inl p ↦
          let number : from ≡ a.number = ap (λ (q : Account). q.number) p in
          record { above = omega arith; below = omega arith; own = ap (λ (q : Account). q.own) (sym p); left = ap (λ (q : Account). q.left) (sym p) }
      | inr t ↦ let r = fresh quota (from + 1) callers a t in let f = r.above in let b = r.below in record { above = omega arith; below = omega arith; own = r.own; left = r.left }
    ]

pub lefts_fresh : (quota from callers : ℕ) → lefts (accounts_from quota from callers) ≡ callers * quota
lefts_fresh quota from zero = sym (zero-mul quota)
lefts_fresh quota from (suc callers) = let h = lefts_fresh quota (from + 1) callers in let m : suc callers * quota ≡ callers * quota + quota = suc-mul callers quota in omega arith

module _ {B T E : Type 0} (value : B → T) (step : E → List T → List T) (may_make : ℕ → E → Type 0) (boxes : List B) (callers quota : ℕ) where
  abbrev setting : Setting T
  setting = record { opening = map value boxes; callers = callers; quota = quota }

  abbrev founding : View T E
  founding = starting setting (accounts_from quota 0 callers)

  -- behind so many empty slots
  behind : (n i m : ℕ) (ys : List (Option B)) → m ≡ n + i → get_elem? (map some (replicate n None ++ ys)) m ≡ get_elem? (map some ys) i
  behind zero i m ys e = let same : m ≡ i = omega arith in ap (λ q. get_elem? (map some ys) q) same
  behind (suc n) i zero ys e = absurd (omega arith)
  behind (suc n) i (suc m) ys e = behind n i m ys (omega arith)

  home_at : (xs : List B) (i : ℕ) → i < length xs → (x : B) × (get_elem? (map some (laid_apart xs)) (slot_of i) ≡ some (some (Some x))) × (slice_get (map value xs) i ≡ Some (value x))
  home_at [] i lt = absurd (omega arith)
  home_at (y ∷ ys) zero lt = (y, refl, refl)
  home_at (y ∷ ys) (suc i) lt =
      let t = home_at ys i (omega arith) in
      let next : slot_of (suc i) ≡ suc (SLOTS_APART - 1 + slot_of i) = omega arith in
      (t.0, ap (λ q. get_elem? (map some (laid_apart (y ∷ ys))) q) next ∙ behind (SLOTS_APART - 1) (slot_of i) (SLOTS_APART - 1 + slot_of i) (laid_apart ys) refl ∙ t.1, t.2)

  length_slots : (xs : List B) → length (map some (laid_apart xs)) ≡ slot_of (length xs)
  length_slots xs = length-map (laid_apart xs) some ∙ length_laid xs

  length_parts : (xs : List B) → length (map value xs) ≡ length xs
  length_parts [] = refl
  length_parts (x ∷ xs) = let h = length_parts xs in omega arith

  alone : (a : ℕ) (v : View T E) → get_elem? (founding ∷ []) a ≡ some v → (a ≡ 0) × (founding ≡ v)
  alone zero v e = (refl, some-injective founding v e)
  alone (suc a) v e = absurd (some-ne-none v (sym e))

  first_fits : (ws : List ℕ) → Fits value step may_make setting ws [] founding
  first_fits ws = record {
    seen = ([], refl);
    told = tt;
    accounts = λ a h.
        let f = fresh quota 0 callers a h in
        let below = f.below in
        record {
          table = refl;
          places = nothing_long T (length (map value boxes));
          number = omega arith;
          own = f.own;
          quota = let own : length a.own ≡ 0 = ap length f.own in let left = f.left in omega arith;
        };
    rows = λ i x h. absurd (let n = nothing_held T (length (map value boxes)) i in cc (n, h));
  }

  first_number : (n : ℕ) → 0 < n → (a : Account) × IsIn (accounts_from quota 0 n) a
  first_number zero h = absurd (omega arith)
  first_number (suc n) h = (record { number = 0; own = []; left = quota }, inl refl)

  opens_words : (ws : List ℕ) → length ws ≡ owner_word (length boxes) → AllZero ws → 0 < callers → callers * quota ≤ 65 * 2 ^ 40
      → Kept value step may_make setting (opening ws (laid_apart boxes) founding)
  opens_words ws size zeros some_caller limit = (
    [],
    record {
      sized = size ∙ ap owner_word (sym (length_parts boxes));
      opened = length_slots boxes ∙ ap slot_of (sym (length_parts boxes));
      parts = refl;
      limit = limit;
      count = zeros 0;
      room = (let l = lefts_fresh quota 0 callers in omega arith);
      made = tt;
      fits = λ a v e. let t = alone a v e in subst (Fits value step may_make setting ws []) t.1 (first_fits ws);
      whole = (0, founding, refl, (refl, first_number callers some_caller));
      one = λ a b v w c e f kv kw. let t = alone a v e in let u = alone b w f in omega arith;
      home = λ i l z. home_at boxes i (let n = length_parts boxes in omega arith);
      owned = λ i b l z. absurd (let y = zeros (owner_word i) in omega arith);
    },
  )

  pub opens : (ws : List ℕ) (slots : List (Option B)) → slots ≡ laid_apart boxes → ws ≡ replicate (owner_word (length boxes)) 0 → 0 < callers → callers * quota ≤ 65 * 2 ^ 40
      → Kept value step may_make (record { opening = map value boxes; callers = callers; quota = quota })
      (opening ws slots (starting (record { opening = map value boxes; callers = callers; quota = quota }) (accounts_from quota 0 callers)))
  opens ws slots all e some_caller limit =
      subst (λ (xs : List (Option B)). Kept value step may_make setting (opening ws xs founding)) (sym all)
      (opens_words ws (ap length e ∙ zeros_length (owner_word (length boxes))) (subst AllZero (sym e) (zeros_zero (owner_word (length boxes)))) some_caller limit)
