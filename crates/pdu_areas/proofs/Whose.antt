-- Of several shares, the one whose number or whose value it is decides.
use Rattle.std.proofs.Common.{◌≡◌, ℕ, ◌≤◌, Bool, true, false, cond, List, [], ◌∷◌, ◌++◌, Option, Some, None, refl, sym, ap, subst, ◌∙◌, arith}
use Rattle.std.specs.Prelude.{◌&&◌, ◌==◌, nat_le, is_some, unwrap_or, if◌then◌else◌}
use Rattle.std.proofs.lemmas.Bool.{eqb-true}
use Rattle.ber_core.specs.Spelling.{element_octets}
use Rattle.ber_forms.specs.Value.{Value, chosen}
use Rattle.ber_forms.specs.Form.{Form, Alternatives}
use Rattle.ber_forms.specs.ByNumber.{form_at}
use Rattle.ber_forms.specs.Spelling.{tag_of, spelling, alternative_octets}
use Rattle.mms_types.specs.declared.identifier.Edition.{Edition}
use Rattle.pdu_areas.specs.Services.{Arm, forms_of, made_by}
use Rattle.pdu_areas.specs.Gives.{octets_if}
use Rattle.pdu_areas.specs.Joined.{IsMade, Share, joined, value_in, counted, claims, has, are_apart, all_apart, made_has, apart_has}

both : (a b : Bool) → a && b ≡ true → (a ≡ true) × (b ≡ true)
both true b e = (refl, e)
both false b e = absurd cc

-- ---- which numbers alternatives have

has_either : {R : Type 0} (xs ys : List (Arm R)) (n : ℕ) → has (xs ++ ys) n ≡ false → (has xs n ≡ false) × (has ys n ≡ false)
has_either [] ys n e = (refl, e)
has_either (a ∷ xs) ys n e = by_number (n == a.number) e (has_either xs ys n)
  where
    by_number : (b : Bool) → cond b true (has (xs ++ ys) n) ≡ false → (has (xs ++ ys) n ≡ false → (has xs n ≡ false) × (has ys n ≡ false)) → (cond b true (has xs n) ≡ false) × (has ys n ≡ false)
    by_number true e rest = absurd cc
    by_number false e rest = rest e

has_first : {R : Type 0} (xs ys : List (Arm R)) (n : ℕ) → has xs n ≡ true → has (xs ++ ys) n ≡ true
has_first [] ys n e = absurd cc
has_first (a ∷ xs) ys n e = by_number (n == a.number) e (has_first xs ys n)
  where
    by_number : (b : Bool) → cond b true (has xs n) ≡ true → (has xs n ≡ true → has (xs ++ ys) n ≡ true) → cond b true (has (xs ++ ys) n) ≡ true
    by_number true e rest = refl
    by_number false e rest = rest e

has_second : {R : Type 0} (xs ys : List (Arm R)) (n : ℕ) → has ys n ≡ true → has (xs ++ ys) n ≡ true
has_second [] ys n e = e
has_second (a ∷ xs) ys n e = by_number (n == a.number) (has_second xs ys n e)
  where
    by_number : (b : Bool) → has (xs ++ ys) n ≡ true → cond b true (has (xs ++ ys) n) ≡ true
    by_number true rest = refl
    by_number false rest = rest

-- all numbers lie from the first to the second
abbrev pub within : {R : Type 0} → ℕ → ℕ → List (Arm R) → Bool
within low high [] = true
within low high (a ∷ more) = nat_le low a.number && nat_le a.number high && within low high more

leb_true : (a b : ℕ) → nat_le a b ≡ true → a ≤ b
leb_true a b e = grind (arith, e)

pub none_within : {R : Type 0} (low high : ℕ) (xs : List (Arm R)) (n : ℕ) → within low high xs ≡ true → (low ≤ n → n ≤ high → ⊥) → has xs n ≡ false
none_within low high [] n e out = refl
none_within low high (a ∷ xs) n e out = by_number (n == a.number) refl (none_within low high xs n)
  where
    t : (nat_le low a.number && nat_le a.number high ≡ true) × (within low high xs ≡ true)
    t = both (nat_le low a.number && nat_le a.number high) (within low high xs) e

    u : (nat_le low a.number ≡ true) × (nat_le a.number high ≡ true)
    u = both (nat_le low a.number) (nat_le a.number high) t.0

    by_number : (b : Bool) → (n == a.number) ≡ b → (within low high xs ≡ true → (low ≤ n → n ≤ high → ⊥) → has xs n ≡ false) → cond b true (has xs n) ≡ false
    by_number true g rest =
        let is = eqb-true n a.number g in
        absurd (out (omega (arith, leb_true low a.number u.0, is)) (omega (arith, leb_true a.number high u.1, is)))
    by_number false g rest = rest t.1 out

-- ---- the form under a number

form_later : {R : Type 0} (xs ys : List (Arm R)) (n : ℕ) (edition : Edition) → has xs n ≡ false → form_at n (forms_of (xs ++ ys) edition) ≡ form_at n (forms_of ys edition)
form_later [] ys n edition e = refl
form_later (a ∷ xs) ys n edition e = by_number (n == a.number) e (form_later xs ys n edition)
  where
    by_number : (b : Bool) → cond b true (has xs n) ≡ false → (has xs n ≡ false → form_at n (forms_of (xs ++ ys) edition) ≡ form_at n (forms_of ys edition))
        → cond b (Some (a.form edition)) (form_at n (forms_of (xs ++ ys) edition)) ≡ form_at n (forms_of ys edition)
    by_number true e rest = absurd cc
    by_number false e rest = rest e

pub no_form : {R : Type 0} (xs : List (Arm R)) (n : ℕ) (edition : Edition) → has xs n ≡ false → form_at n (forms_of xs edition) ≡ None
no_form [] n edition e = refl
no_form (a ∷ xs) n edition e = by_number (n == a.number) e (no_form xs n edition)
  where
    by_number : (b : Bool) → cond b true (has xs n) ≡ false → (has xs n ≡ false → form_at n (forms_of xs edition) ≡ None) → cond b (Some (a.form edition)) (form_at n (forms_of xs edition)) ≡ None
    by_number true e rest = absurd cc
    by_number false e rest = rest e

form_first : {R : Type 0} (xs ys : List (Arm R)) (n : ℕ) (edition : Edition) → has ys n ≡ false → form_at n (forms_of (xs ++ ys) edition) ≡ form_at n (forms_of xs edition)
form_first [] ys n edition e = no_form ys n edition e
form_first (a ∷ xs) ys n edition e = ap (λ (o : Option Form). if n == a.number then Some (a.form edition) else o) (form_first xs ys n edition e)

-- a number that no other share has
pub form_there : {R : Type 0} (xs : List (Share R)) (s : Share R) (ys : List (Share R)) (n : ℕ) (edition : Edition) → has (joined xs) n ≡ false → has (joined ys) n ≡ false
    → form_at n (forms_of (joined (xs ++ s ∷ ys)) edition) ≡ form_at n (forms_of s.arms edition)
form_there [] s ys n edition e f = form_first s.arms (joined ys) n edition f
form_there (x ∷ xs) s ys n edition e f =
    let t = has_either x.arms (joined xs) n e in
    form_later x.arms (joined (xs ++ s ∷ ys)) n edition t.0 ∙ form_there xs s ys n edition t.1 f

-- ---- the value of an R

one_there : {R : Type 0} (xs : List (Share R)) (s : Share R) (ys : List (Share R)) (r : R) (v : Value) → s.value r ≡ Some v → 1 ≤ claims (xs ++ s ∷ ys) r
one_there [] s ys r v e = subst (λ (o : Option Value). 1 ≤ counted o (claims ys r)) (sym e) (omega arith)
one_there (x ∷ xs) s ys r v e = by_value (x.value r) (one_there xs s ys r v e)
  where
    by_value : (o : Option Value) → 1 ≤ claims (xs ++ s ∷ ys) r → 1 ≤ counted o (claims (xs ++ s ∷ ys) r)
    by_value None rest = rest
    by_value (Some w) rest = omega (arith, rest)

pub value_there : {R : Type 0} (xs : List (Share R)) (s : Share R) (ys : List (Share R)) (r : R) (v : Value) → claims (xs ++ s ∷ ys) r ≡ 1 → s.value r ≡ Some v → value_in (xs ++ s ∷ ys) r ≡ v
value_there [] s ys r v one e = ap (λ (o : Option Value). unwrap_or o (value_in ys r)) e
value_there (x ∷ xs) s ys r v one e = by_value (x.value r) one (one_there xs s ys r v e) (λ k. value_there xs s ys r v k e)
  where
    by_value : (o : Option Value) → counted o (claims (xs ++ s ∷ ys) r) ≡ 1 → 1 ≤ claims (xs ++ s ∷ ys) r → (claims (xs ++ s ∷ ys) r ≡ 1 → value_in (xs ++ s ∷ ys) r ≡ v)
        → unwrap_or o (value_in (xs ++ s ∷ ys) r) ≡ v
    by_value None one some rest = rest one
    by_value (Some w) one some rest = absurd (omega (arith, one, some))

-- ---- how it is spelled

octets_later : {R : Type 0} (xs ys : List (Arm R)) (n : ℕ) (w : Value) (edition : Edition) → has xs n ≡ false
    → alternative_octets (forms_of (xs ++ ys) edition) (chosen n w) ≡ alternative_octets (forms_of ys edition) (chosen n w)
octets_later [] ys n w edition e = refl
octets_later (a ∷ xs) ys n w edition e = by_number (n == a.number) e (octets_later xs ys n w edition)
  where
    by_number : (b : Bool) → cond b true (has xs n) ≡ false
        → (has xs n ≡ false → alternative_octets (forms_of (xs ++ ys) edition) (chosen n w) ≡ alternative_octets (forms_of ys edition) (chosen n w))
        → cond b (element_octets (tag_of 2 a.number (a.form edition)) (spelling (a.form edition) w)) (alternative_octets (forms_of (xs ++ ys) edition) (chosen n w)) ≡ alternative_octets (forms_of ys edition) (chosen n w)
    by_number true e rest = absurd cc
    by_number false e rest = rest e

octets_first : {R : Type 0} (xs ys : List (Arm R)) (n : ℕ) (w : Value) (edition : Edition) → has xs n ≡ true
    → alternative_octets (forms_of (xs ++ ys) edition) (chosen n w) ≡ alternative_octets (forms_of xs edition) (chosen n w)
octets_first [] ys n w edition e = absurd cc
octets_first (a ∷ xs) ys n w edition e = by_number (n == a.number) e (octets_first xs ys n w edition)
  where
    octets : List ℕ
    octets = element_octets (tag_of 2 a.number (a.form edition)) (spelling (a.form edition) w)

    by_number : (b : Bool) → cond b true (has xs n) ≡ true
        → (has xs n ≡ true → alternative_octets (forms_of (xs ++ ys) edition) (chosen n w) ≡ alternative_octets (forms_of xs edition) (chosen n w))
        → cond b (element_octets (tag_of 2 a.number (a.form edition)) (spelling (a.form edition) w)) (alternative_octets (forms_of (xs ++ ys) edition) (chosen n w))
        ≡ cond b (element_octets (tag_of 2 a.number (a.form edition)) (spelling (a.form edition) w)) (alternative_octets (forms_of xs edition) (chosen n w))
    by_number true e rest = refl
    by_number false e rest = rest e

there_has : {R : Type 0} (xs : List (Share R)) (s : Share R) (ys : List (Share R)) (n : ℕ) → has s.arms n ≡ true → has (joined (xs ++ s ∷ ys)) n ≡ true
there_has [] s ys n e = has_first s.arms (joined ys) n e
there_has (x ∷ xs) s ys n e = has_second x.arms (joined (xs ++ s ∷ ys)) n (there_has xs s ys n e)

number_there : {R : Type 0} (xs : List (Share R)) (s : Share R) (ys : List (Share R)) (n : ℕ) (w : Value) (edition : Edition) → all_apart (xs ++ s ∷ ys) ≡ true → has s.arms n ≡ true
    → alternative_octets (forms_of (joined (xs ++ s ∷ ys)) edition) (chosen n w) ≡ alternative_octets (forms_of s.arms edition) (chosen n w)
number_there [] s ys n w edition apart e = octets_first s.arms (joined ys) n w edition e
number_there (x ∷ xs) s ys n w edition apart e =
    let t = both (are_apart x.arms (joined (xs ++ s ∷ ys))) (all_apart (xs ++ s ∷ ys)) apart in
    octets_later x.arms (joined (xs ++ s ∷ ys)) n w edition (apart_has x.arms (joined (xs ++ s ∷ ys)) n t.0 (there_has xs s ys n e)) ∙ number_there xs s ys n w edition t.1 e

pub octets_there : {R : Type 0} (xs : List (Share R)) (s : Share R) (ys : List (Share R)) (r : R) (v : Value) (edition : Edition) → all_apart (xs ++ s ∷ ys) ≡ true → s.value r ≡ Some v
    → alternative_octets (forms_of (joined (xs ++ s ∷ ys)) edition) v ≡ alternative_octets (forms_of s.arms edition) v
octets_there xs s ys r v edition apart e = by_value v (subst (λ (o : Option Value). IsMade s.arms o r) e (s.again r))
  where
    by_value : (v : Value) → made_by s.arms v ≡ Some r → alternative_octets (forms_of (joined (xs ++ s ∷ ys)) edition) v ≡ alternative_octets (forms_of s.arms edition) v
    by_value (chosen n w) is = number_there xs s ys n w edition apart (made_has s.arms n w r is)
    by_value v is = absurd cc

-- an R of the share is spelled as all spell it
pub octets_own : {R : Type 0} (xs : List (Share R)) (s : Share R) (ys : List (Share R)) (r : R) (edition : Edition) → all_apart (xs ++ s ∷ ys) ≡ true → claims (xs ++ s ∷ ys) r ≡ 1
    → is_some (s.value r) ≡ true → octets_if (forms_of s.arms edition) (s.value r) ≡ alternative_octets (forms_of (joined (xs ++ s ∷ ys)) edition) (value_in (xs ++ s ∷ ys) r)
octets_own xs s ys r edition apart one some = by_value (s.value r) refl some
  where
    by_value : (o : Option Value) → s.value r ≡ o → is_some o ≡ true → octets_if (forms_of s.arms edition) o ≡ alternative_octets (forms_of (joined (xs ++ s ∷ ys)) edition) (value_in (xs ++ s ∷ ys) r)
    by_value None e is = absurd cc
    by_value (Some v) e is =
        sym (octets_there xs s ys r v edition apart e)
        ∙ ap (alternative_octets (forms_of (joined (xs ++ s ∷ ys)) edition)) (sym (value_there xs s ys r v one e))

-- what is not of the share is not spelled
pub octets_none : (others : Alternatives) (o : Option Value) → is_some o ≡ false → octets_if others o ≡ []
octets_none others None e = refl
octets_none others (Some v) e = absurd cc
