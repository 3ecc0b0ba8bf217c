-- The laws of the order of scopes and keys, and of their equality.
use Rattle.std.proofs.Common.{◌≡◌, refl, sym, subst, ℕ, List, []}
use Rattle.std.specs.declared.cmp.Ordering.{Ordering}
use Rattle.std.specs.declared.cmp.Ordering.TheVariants.{Less, Equal, Greater}
use Rattle.std.specs.Ordering.{nat_cmp, ordering_then, then_cmp, on, eq_by_cmp, as_partial_cmp}
use Rattle.std.specs.Cmp.{IsTotalOrder, IsEquivalence, IsPartialOrder, on_total, then_total, nat_cmp_total, eq_by_cmp_equiv, po, unsigned_ties, both_tied}
use Rattle.std.specs.Cmp.Lexicographic.{nat_list_cmp_total, texts_ties}
use Rattle.mms_types.specs.declared.key.Key.{Key}
use Rattle.mms_types.specs.declared.key.Scope.{Scope}
use Rattle.mms_types.specs.declared.key.Scope.TheVariants.{Vmd, Domain, Association}
use Rattle.mms_types.specs.Order.{name_order, scope_order, key_order, scope_eq, key_eq}

-- the kind of a scope, by its place
abbrev rank : Scope → ℕ
rank Vmd = 0
rank (Domain name) = 1
rank (Association client) = 2

abbrev domain_of : Scope → List ℕ
domain_of Vmd = []
domain_of (Domain name) = name
domain_of (Association client) = []

abbrev client_of : Scope → ℕ
client_of Vmd = 0
client_of (Domain name) = 0
client_of (Association client) = client

-- by kind, then by name, then by client
abbrev ranked : Scope → Scope → Ordering
ranked = then_cmp (on rank nat_cmp) (then_cmp (on domain_of name_order) (on client_of nat_cmp))

ranked_total : IsTotalOrder ranked
ranked_total = then_total (on_total rank nat_cmp_total) (then_total (on_total domain_of nat_list_cmp_total) (on_total client_of nat_cmp_total))

then_equal : (o : Ordering) → ordering_then o Equal ≡ o
then_equal Less = refl
then_equal Equal = refl
then_equal Greater = refl

ranked_is : (a b : Scope) → ranked a b ≡ scope_order a b
ranked_is Vmd Vmd = refl
ranked_is Vmd (Domain b) = refl
ranked_is Vmd (Association b) = refl
ranked_is (Domain a) Vmd = refl
ranked_is (Domain a) (Domain b) = then_equal (name_order a b)
ranked_is (Domain a) (Association b) = refl
ranked_is (Association a) Vmd = refl
ranked_is (Association a) (Domain b) = refl
ranked_is (Association a) (Association b) = refl

pub scopes_total : IsTotalOrder scope_order
scopes_total = subst IsTotalOrder (λ i a b. ranked_is a b i) ranked_total

pub keys_total : IsTotalOrder key_order
keys_total = then_total (on_total (λ key. key.scope) scopes_total) (on_total (λ key. key.item) nat_list_cmp_total)

pub scopes_tie : (a b : Scope) → scope_eq a b ≡ eq_by_cmp scope_order a b
scopes_tie Vmd Vmd = refl
scopes_tie Vmd (Domain b) = refl
scopes_tie Vmd (Association b) = refl
scopes_tie (Domain a) Vmd = refl
scopes_tie (Domain a) (Domain b) = texts_ties a b
scopes_tie (Domain a) (Association b) = refl
scopes_tie (Association a) Vmd = refl
scopes_tie (Association a) (Domain b) = refl
scopes_tie (Association a) (Association b) = unsigned_ties a b

pub keys_tie : (a b : Key) → key_eq a b ≡ eq_by_cmp key_order a b
keys_tie a b = both_tied _ _ (scope_order a.scope b.scope) (name_order a.item b.item) (scopes_tie a.scope b.scope) (texts_ties a.item b.item)

pub scopes_equal : IsEquivalence scope_eq
scopes_equal = subst IsEquivalence (λ i a b. sym (scopes_tie a b) i) (eq_by_cmp_equiv scopes_total)

pub keys_equal : IsEquivalence key_eq
keys_equal = subst IsEquivalence (λ i a b. sym (keys_tie a b) i) (eq_by_cmp_equiv keys_total)

pub scopes_in_order : IsPartialOrder scope_eq (as_partial_cmp scope_order)
scopes_in_order = po scopes_total scopes_tie

pub keys_in_order : IsPartialOrder key_eq (as_partial_cmp key_order)
keys_in_order = po keys_total keys_tie
