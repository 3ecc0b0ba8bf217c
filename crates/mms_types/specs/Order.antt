-- The order of names: by scope, and then by octets.
use Rattle.std.specs.Prelude.{◌≡◌, ℕ, ◌<◌, ⊤, ◌⊎◌, List, [], ◌∷◌, Bool, true, false, ◌&&◌, ◌==◌, nat_eq}
use Rattle.std.specs.declared.cmp.Ordering.{Ordering}
use Rattle.std.specs.declared.cmp.Ordering.TheVariants.{Less, Equal, Greater}
use Rattle.std.specs.Ordering.{nat_cmp, ordering_then}
use Rattle.std.specs.Cmp.Lexicographic.{pointwise, slice_cmp}
use Rattle.mms_types.specs.declared.key.Scope.{Scope}
use Rattle.mms_types.specs.declared.key.Scope.TheVariants.{Vmd, Domain, Association}
use Rattle.mms_types.specs.declared.key.Key.{Key}
use Rattle.mms_types.specs.declared.object_name.ObjectName.{ObjectName}
use Rattle.mms_types.specs.declared.object_name.ObjectName.TheVariants as named

-- the order of octets: the first that differ decide, and the shorter of two that do not is first
abbrev pub name_order : List ℕ → List ℕ → Ordering
name_order = slice_cmp nat_cmp

-- the VMD is first, then come the domains by name, then the associations by client (this profile's choice)
abbrev pub scope_order : Scope → Scope → Ordering
scope_order Vmd Vmd = Equal
scope_order Vmd (Domain b) = Less
scope_order Vmd (Association b) = Less
scope_order (Domain a) Vmd = Greater
scope_order (Domain a) (Domain b) = name_order a b
scope_order (Domain a) (Association b) = Less
scope_order (Association a) Vmd = Greater
scope_order (Association a) (Domain b) = Greater
scope_order (Association a) (Association b) = nat_cmp a b

-- the scopes decide, and where they are the same the octets
abbrev pub key_order : Key → Key → Ordering
key_order a b = ordering_then (scope_order a.scope b.scope) (name_order a.item b.item)

-- octets stand before others where they begin them, or are less at the first place where the two differ
abbrev pub NamePrecedes : List ℕ → List ℕ → Type 0
NamePrecedes [] [] = ⊥
NamePrecedes [] (y ∷ ys) = ⊤
NamePrecedes (x ∷ xs) [] = ⊥
NamePrecedes (x ∷ xs) (y ∷ ys) = (x < y) ⊎ ((x ≡ y) × NamePrecedes xs ys)

-- the VMD stands before all other scopes, a domain before associations and the domains of later names,
-- and an association before those of greater clients
abbrev pub ScopePrecedes : Scope → Scope → Type 0
ScopePrecedes Vmd Vmd = ⊥
ScopePrecedes Vmd (Domain b) = ⊤
ScopePrecedes Vmd (Association b) = ⊤
ScopePrecedes (Domain a) Vmd = ⊥
ScopePrecedes (Domain a) (Domain b) = NamePrecedes a b
ScopePrecedes (Domain a) (Association b) = ⊤
ScopePrecedes (Association a) Vmd = ⊥
ScopePrecedes (Association a) (Domain b) = ⊥
ScopePrecedes (Association a) (Association b) = a < b

-- a key stands before another where its scope does, or in one scope its name does
abbrev pub KeyPrecedes : Key → Key → Type 0
KeyPrecedes a b = ScopePrecedes a.scope b.scope ⊎ ((a.scope ≡ b.scope) × NamePrecedes a.item b.item)

-- whether two scopes are the same
abbrev pub scope_eq : Scope → Scope → Bool
scope_eq Vmd Vmd = true
scope_eq (Domain a) (Domain b) = pointwise nat_eq a b
scope_eq (Association a) (Association b) = a == b
scope_eq a b = false

-- whether two keys are the same, in scope and in octets
abbrev pub key_eq : Key → Key → Bool
key_eq a b = scope_eq a.scope b.scope && pointwise nat_eq a.item b.item

-- the key of the object that a client names so: an aa-specific name belongs to its association (ISO 9506-2, ObjectName)
abbrev pub key_of : ℕ → ObjectName → Key
key_of client (named.Vmd item) = record { scope = Vmd; item = item }
key_of client (named.Domain domain item) = record { scope = Domain domain; item = item }
key_of client (named.Association item) = record { scope = Association client; item = item }
