-- Shares of one choice: each has some of the alternatives, and each value is of one share alone. Together they are the choice.
use Rattle.std.specs.Prelude.{◌≡◌, ◌≢◌, ℕ, ◌+◌, Bool, true, false, cond, not, ◌&&◌, nat_lt, List, [], ◌∷◌, ◌++◌, Option, Some, None, unwrap_or, ◌==◌, if◌then◌else◌}
use Rattle.std.proofs.Common.{refl, sym, ap, ◌∙◌}
use Rattle.std.proofs.lemmas.Bool.{eqb-true}
use Rattle.ber_forms.specs.Value.{Value, nothing, chosen}
use Rattle.ber_forms.specs.ByNumber.{has_number}
use Rattle.ber_forms.specs.Fits.{is_sound, sound_alternatives}
use Rattle.mms_types.specs.declared.identifier.Edition.{Edition}
use Rattle.pdu_names.specs.Kinds.{Choice, alternatives, made_of}
use Rattle.pdu_areas.specs.Services.{Arm, forms_of, made_at, made_by, made_or, arms_of}

-- what an R says is made an R again
abbrev pub IsMade : {R : Type 0} → List (Arm R) → Option Value → R → Type 0
IsMade arms None r = Unit {0}
IsMade arms (Some v) r = made_by arms v ≡ Some r

-- some alternatives; what an R says that is one of them, and None of another; and that it is made of it again
pub record Share (R : Type 0) : Type 0 where
  pub arms : List (Arm R)
  pub value : R → Option Value
  pub again : (r : R) → IsMade arms (value r) r
  pub sound : (edition : Edition) → sound_alternatives (forms_of arms edition) ≡ true

-- ---- several shares

-- all their alternatives, in their order
abbrev pub joined : {R : Type 0} → List (Share R) → List (Arm R)
joined [] = []
joined (s ∷ more) = s.arms ++ joined more

-- what an R says: that of its share
abbrev pub value_in : {R : Type 0} → List (Share R) → R → Value
value_in [] r = nothing
value_in (s ∷ more) r = unwrap_or (s.value r) (value_in more r)

-- one more where there is something
abbrev pub counted : Option Value → ℕ → ℕ
counted None n = n
counted (Some v) n = n + 1

-- how many shares an R is of
abbrev pub claims : {R : Type 0} → List (Share R) → R → ℕ
claims [] r = 0
claims (s ∷ more) r = counted (s.value r) (claims more r)

-- one of the alternatives has the number
abbrev pub has : {R : Type 0} → List (Arm R) → ℕ → Bool
has [] k = false
has (a ∷ more) k = if k == a.number then true else has more k

-- none of the first has a number of the others
abbrev pub are_apart : {R : Type 0} → List (Arm R) → List (Arm R) → Bool
are_apart [] others = true
are_apart (a ∷ more) others = not (has others a.number) && are_apart more others

-- no two shares have a number in common
abbrev pub all_apart : {R : Type 0} → List (Share R) → Bool
all_apart [] = true
all_apart (s ∷ more) = are_apart s.arms (joined more) && all_apart more

-- ---- what is made of a value

both : (a b : Bool) → a && b ≡ true → (a ≡ true) × (b ≡ true)
both true b e = (refl, e)
both false b e = absurd cc

is_not : (b : Bool) → not b ≡ true → b ≡ false
is_not true e = absurd cc
is_not false e = refl

differ : {P : Type 0} (b : Bool) → b ≡ true → b ≡ false → P
differ b e f = absurd (cc (e, f))

made_first : {R : Type 0} (xs ys : List (Arm R)) (n : ℕ) (v : Value) (r : R) → made_at xs n v ≡ Some r → made_at (xs ++ ys) n v ≡ Some r
made_first [] ys n v r e = absurd cc
made_first (a ∷ xs) ys n v r e = by_number (n == a.number) e (made_first xs ys n v r)
  where
    by_number : (b : Bool) → cond b (Some (a.made v)) (made_at xs n v) ≡ Some r → (made_at xs n v ≡ Some r → made_at (xs ++ ys) n v ≡ Some r)
        → cond b (Some (a.made v)) (made_at (xs ++ ys) n v) ≡ Some r
    by_number true e rest = e
    by_number false e rest = rest e

made_later : {R : Type 0} (xs ys : List (Arm R)) (n : ℕ) (v : Value) → has xs n ≡ false → made_at (xs ++ ys) n v ≡ made_at ys n v
made_later [] ys n v e = refl
made_later (a ∷ xs) ys n v e = by_number (n == a.number) e (made_later xs ys n v)
  where
    by_number : (b : Bool) → cond b true (has xs n) ≡ false → (has xs n ≡ false → made_at (xs ++ ys) n v ≡ made_at ys n v) → cond b (Some (a.made v)) (made_at (xs ++ ys) n v) ≡ made_at ys n v
    by_number true e rest = absurd cc
    by_number false e rest = rest e

pub made_has : {R : Type 0} (xs : List (Arm R)) (n : ℕ) (v : Value) (r : R) → made_at xs n v ≡ Some r → has xs n ≡ true
made_has [] n v r e = absurd cc
made_has (a ∷ xs) n v r e = by_number (n == a.number) e (made_has xs n v r)
  where
    by_number : (b : Bool) → cond b (Some (a.made v)) (made_at xs n v) ≡ Some r → (made_at xs n v ≡ Some r → has xs n ≡ true) → cond b true (has xs n) ≡ true
    by_number true e rest = refl
    by_number false e rest = rest e

pub apart_has : {R : Type 0} (xs ys : List (Arm R)) (n : ℕ) → are_apart xs ys ≡ true → has ys n ≡ true → has xs n ≡ false
apart_has [] ys n e h = refl
apart_has (a ∷ xs) ys n e h = by_number (n == a.number) refl (apart_has xs ys n)
  where
    t : (not (has ys a.number) ≡ true) × (are_apart xs ys ≡ true)
    t = both (not (has ys a.number)) (are_apart xs ys) e

    by_number : (b : Bool) → (n == a.number) ≡ b → (are_apart xs ys ≡ true → has ys n ≡ true → has xs n ≡ false) → cond b true (has xs n) ≡ false
    by_number true g rest = differ (has ys a.number) (sym (ap (has ys) (eqb-true n a.number g)) ∙ h) (is_not (has ys a.number) t.0)
    by_number false g rest = rest t.1 h

total : {R : Type 0} (other : R) (xs : List (Arm R)) (n : ℕ) (v : Value) (r : R) → made_at xs n v ≡ Some r → made_or other xs n v ≡ r
total other [] n v r e = absurd cc
total other (a ∷ xs) n v r e = by_number (n == a.number) e (total other xs n v r)
  where
    by_number : (b : Bool) → cond b (Some (a.made v)) (made_at xs n v) ≡ Some r → (made_at xs n v ≡ Some r → made_or other xs n v ≡ r) → cond b (a.made v) (made_or other xs n v) ≡ r
    by_number true e rest = cc
    by_number false e rest = rest e

-- ---- an R is made of what it says

joined_first : {R : Type 0} (xs ys : List (Arm R)) (v : Value) (r : R) → made_by xs v ≡ Some r → made_by (xs ++ ys) v ≡ Some r
joined_first xs ys (chosen n v) r e = made_first xs ys n v r e
joined_first xs ys v r e = absurd cc

joined_later : {R : Type 0} (xs ys : List (Arm R)) (v : Value) (r : R) → are_apart xs ys ≡ true → made_by ys v ≡ Some r → made_by (xs ++ ys) v ≡ Some r
joined_later xs ys (chosen n v) r apart e = made_later xs ys n v (apart_has xs ys n apart (made_has ys n v r e)) ∙ e
joined_later xs ys v r apart e = absurd cc

pub made_in : {R : Type 0} (shares : List (Share R)) (r : R) → all_apart shares ≡ true → claims shares r ≢ 0 → made_by (joined shares) (value_in shares r) ≡ Some r
made_in [] r apart some = absurd (some refl)
made_in (s ∷ more) r apart some = by_value (s.value r) (s.again r) some (made_in more r)
  where
    t : (are_apart s.arms (joined more) ≡ true) × (all_apart more ≡ true)
    t = both (are_apart s.arms (joined more)) (all_apart more) apart

    by_value : (o : Option Value) → IsMade s.arms o r → counted o (claims more r) ≢ 0 → (all_apart more ≡ true → claims more r ≢ 0 → made_by (joined more) (value_in more r) ≡ Some r)
        → made_by (s.arms ++ joined more) (unwrap_or o (value_in more r)) ≡ Some r
    by_value None is there later = joined_later s.arms (joined more) (value_in more r) r t.0 (later t.1 there)
    by_value (Some v) is there later = joined_first s.arms (joined more) v r is

made_again : {R : Type 0} (other : R) (arms : List (Arm R)) (v : Value) (r : R) → made_by arms v ≡ Some r → made_of (arms_of other arms) v ≡ r
made_again other arms (chosen n v) r e = total other arms n v r e
made_again other arms v r e = absurd cc

pub again_in : {R : Type 0} (other : R) (shares : List (Share R)) → all_apart shares ≡ true → ((r : R) → claims shares r ≡ 1)
    → (r : R) → made_of (arms_of other (joined shares)) (value_in shares r) ≡ r
again_in other shares apart one r = made_again other (joined shares) (value_in shares r) r (made_in shares r apart (λ none. absurd (cc (one r, none))))

-- ---- they can be told apart

has_forms : {R : Type 0} (xs : List (Arm R)) (edition : Edition) (k : ℕ) → has_number (forms_of xs edition) k ≡ has xs k
has_forms [] edition k = refl
has_forms (a ∷ xs) edition k = ap (λ (b : Bool). if k == a.number then true else b) (has_forms xs edition k)

has_joined : {R : Type 0} (xs ys : List (Arm R)) (k : ℕ) → has xs k ≡ false → has ys k ≡ false → has (xs ++ ys) k ≡ false
has_joined [] ys k e f = f
has_joined (a ∷ xs) ys k e f = by_number (k == a.number) e (has_joined xs ys k)
  where
    by_number : (b : Bool) → cond b true (has xs k) ≡ false → (has xs k ≡ false → has ys k ≡ false → has (xs ++ ys) k ≡ false) → cond b true (has (xs ++ ys) k) ≡ false
    by_number true e rest = absurd cc
    by_number false e rest = rest e f

sound_joined : {R : Type 0} (xs ys : List (Arm R)) (edition : Edition) → are_apart xs ys ≡ true → sound_alternatives (forms_of xs edition) ≡ true → sound_alternatives (forms_of ys edition) ≡ true
    → sound_alternatives (forms_of (xs ++ ys) edition) ≡ true
sound_joined [] ys edition apart e f = f
sound_joined (a ∷ xs) ys edition apart e f =
    let t = both (not (has ys a.number)) (are_apart xs ys) apart in
    let u = both (nat_lt a.number 16384 && is_sound (a.form edition) && sound_alternatives (forms_of xs edition)) (not (has_number (forms_of xs edition) a.number)) e in
    let w = both (nat_lt a.number 16384 && is_sound (a.form edition)) (sound_alternatives (forms_of xs edition)) u.0 in
    let own : has xs a.number ≡ false = sym (has_forms xs edition a.number) ∙ is_not (has_number (forms_of xs edition) a.number) u.1 in
    let none : has_number (forms_of (xs ++ ys) edition) a.number ≡ false = has_forms (xs ++ ys) edition a.number ∙ has_joined xs ys a.number own (is_not (has ys a.number) t.0) in
    rw (w.0, sound_joined xs ys edition t.1 w.1 f, none) refl

pub sound_in : {R : Type 0} (shares : List (Share R)) → all_apart shares ≡ true → (edition : Edition) → sound_alternatives (forms_of (joined shares) edition) ≡ true
sound_in [] apart edition = refl
sound_in (s ∷ more) apart edition =
    let t = both (are_apart s.arms (joined more)) (all_apart more) apart in
    sound_joined s.arms (joined more) edition t.0 (s.sound edition) (sound_in more t.1 edition)

-- ---- the choice

-- What shares make together: no two of them have a number in common, and each R is of one of them alone. The first is said back of a value
-- of another form.
abbrev pub choice_of : {R : Type 0} → R → (shares : List (Share R)) → all_apart shares ≡ true → ((r : R) → claims shares r ≡ 1) → Choice R
choice_of other shares apart one = alternatives (arms_of other (joined shares)) (value_in shares) (again_in other shares apart one)

-- what an R of the share says is what it says in the choice
abbrev pub IsSaid : {R : Type 0} → Share R → Choice R → Type 0
IsSaid {R} share choice = (r : R) (v : Value) → share.value r ≡ Some v → choice.value r ≡ v
