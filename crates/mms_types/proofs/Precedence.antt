-- The order of keys is the one that its words say.
use Rattle.std.proofs.Common.{◌≡◌, ◌∙◌, IsTrue, sym, refl, ap, ℕ, ◌<◌, ◌↔◌, ◌⊎◌, inl, inr, List, [], ◌∷◌, arith}
use Rattle.std.specs.declared.cmp.Ordering.{Ordering}
use Rattle.std.specs.declared.cmp.Ordering.TheVariants.{Less, Equal, Greater}
use Rattle.std.specs.Ordering.{is_eq, nat_cmp, ordering_then}
use Rattle.std.proofs.lemmas.Bool.Decides.{nat_tests}
use Rattle.mms_types.specs.declared.key.Key.{Key}
use Rattle.mms_types.specs.declared.key.Scope.{Scope}
use Rattle.mms_types.specs.declared.key.Scope.TheVariants.{Vmd, Domain, Association}
use Rattle.std.specs.Cmp.{tied_itself, Equal-is}
use Rattle.mms_types.specs.KeyLaws.{scopes_total, keys_total, keys_tie}
use Rattle.mms_types.specs.Order.{name_order, scope_order, key_order, key_eq, NamePrecedes, ScopePrecedes, KeyPrecedes}

nat_less : (x y : ℕ) → nat_cmp x y ≡ Less → x < y
nat_less x y h = grind (arith, nat_tests)

less_nat : (x y : ℕ) → x < y → nat_cmp x y ≡ Less
less_nat x y h = grind (arith, nat_tests)

nat_equal : (x y : ℕ) → nat_cmp x y ≡ Equal → x ≡ y
nat_equal x y h = grind (arith, nat_tests)

equal_nat : (x y : ℕ) → x ≡ y → nat_cmp x y ≡ Equal
equal_nat x y h = grind (arith, nat_tests)

-- the first of two is less, or they are level and the second is
then_less : (o p : Ordering) → ordering_then o p ≡ Less → (o ≡ Less) ⊎ ((o ≡ Equal) × (p ≡ Less))
then_less Less p h = inl refl
then_less Equal p h = inr (refl, h)
then_less Greater p h = cc

then_equal : (o p : Ordering) → ordering_then o p ≡ Equal → (o ≡ Equal) × (p ≡ Equal)
then_equal Less p h = cc
then_equal Equal p h = (refl, h)
then_equal Greater p h = cc

names_equal : (a b : List ℕ) → name_order a b ≡ Equal → a ≡ b
names_equal [] [] h = refl
names_equal [] (y ∷ ys) h = cc
names_equal (x ∷ xs) [] h = cc
names_equal (x ∷ xs) (y ∷ ys) h =
    let e = then_equal (nat_cmp x y) (name_order xs ys) h in
    let first = nat_equal x y e.0 in
    let rest = names_equal xs ys e.1 in cc

names_before : (a b : List ℕ) → name_order a b ≡ Less → NamePrecedes a b
names_before [] [] h = cc
names_before [] (y ∷ ys) h = tt
names_before (x ∷ xs) [] h = cc
names_before (x ∷ xs) (y ∷ ys) h = elim (then_less (nat_cmp x y) (name_order xs ys) h) [
  | inl first ↦ inl (nat_less x y first)
  | inr rest ↦ inr (nat_equal x y rest.0, names_before xs ys rest.1)
]

before_names : (a b : List ℕ) → NamePrecedes a b → name_order a b ≡ Less
before_names [] [] h = absurd h
before_names [] (y ∷ ys) h = refl
before_names (x ∷ xs) [] h = absurd h
before_names (x ∷ xs) (y ∷ ys) (inl first) = rw (less_nat x y first)
before_names (x ∷ xs) (y ∷ ys) (inr rest) = rw (equal_nat x y rest.0) (before_names xs ys rest.1)

scopes_equal : (a b : Scope) → scope_order a b ≡ Equal → a ≡ b
scopes_equal Vmd Vmd h = refl
scopes_equal Vmd (Domain b) h = cc
scopes_equal Vmd (Association b) h = cc
scopes_equal (Domain a) Vmd h = cc
scopes_equal (Domain a) (Domain b) h = ap Domain (names_equal a b h)
scopes_equal (Domain a) (Association b) h = cc
scopes_equal (Association a) Vmd h = cc
scopes_equal (Association a) (Domain b) h = cc
scopes_equal (Association a) (Association b) h = ap Association (nat_equal a b h)

level_scopes : (a b : Scope) → a ≡ b → scope_order a b ≡ Equal
level_scopes a b same = rw same (tied_itself scopes_total b)

scopes_before : (a b : Scope) → scope_order a b ≡ Less → ScopePrecedes a b
scopes_before Vmd Vmd h = cc
scopes_before Vmd (Domain b) h = tt
scopes_before Vmd (Association b) h = tt
scopes_before (Domain a) Vmd h = cc
scopes_before (Domain a) (Domain b) h = names_before a b h
scopes_before (Domain a) (Association b) h = tt
scopes_before (Association a) Vmd h = cc
scopes_before (Association a) (Domain b) h = cc
scopes_before (Association a) (Association b) h = nat_less a b h

before_scopes : (a b : Scope) → ScopePrecedes a b → scope_order a b ≡ Less
before_scopes Vmd Vmd h = absurd h
before_scopes Vmd (Domain b) h = refl
before_scopes Vmd (Association b) h = refl
before_scopes (Domain a) Vmd h = absurd h
before_scopes (Domain a) (Domain b) h = before_names a b h
before_scopes (Domain a) (Association b) h = refl
before_scopes (Association a) Vmd h = absurd h
before_scopes (Association a) (Domain b) h = absurd h
before_scopes (Association a) (Association b) h = less_nat a b h

keys_before : (a b : Key) → key_order a b ≡ Less → KeyPrecedes a b
keys_before a b h = elim (then_less (scope_order a.scope b.scope) (name_order a.item b.item) h) [
  | inl first ↦ inl (scopes_before a.scope b.scope first)
  | inr rest ↦ inr (scopes_equal a.scope b.scope rest.0, names_before a.item b.item rest.1)
]

before_keys : (a b : Key) → KeyPrecedes a b → key_order a b ≡ Less
before_keys a b (inl first) = rw (before_scopes a.scope b.scope first)
before_keys a b (inr rest) = rw (level_scopes a.scope b.scope rest.0) (before_names a.item b.item rest.1)

pub key_order_in_words : (a b : Key) → (key_order a b ≡ Less) ↔ KeyPrecedes a b
key_order_in_words a b = (keys_before a b, before_keys a b)

keys_equal : (a b : Key) → key_order a b ≡ Equal → a ≡ b
keys_equal a b h =
    let level = then_equal (scope_order a.scope b.scope) (name_order a.item b.item) h in
    let scopes = scopes_equal a.scope b.scope level.0 in
    let names = names_equal a.item b.item level.1 in
    λ i. record { scope = scopes i; item = names i }

pub key_order_tells_apart : (a b : Key) → (key_order a b ≡ Equal) ↔ (a ≡ b)
key_order_tells_apart a b = (keys_equal a b, λ same. rw same (tied_itself keys_total b))

-- keys that are equal are one
pub key_eq_tells : (a b : Key) → IsTrue (key_eq a b) ↔ (a ≡ b)
key_eq_tells a b = (
  λ h. keys_equal a b ((Equal-is (key_order a b)).0 (sym (keys_tie a b) ∙ h)),
  λ same. keys_tie a b ∙ ap is_eq ((key_order_tells_apart a b).1 same),
)
