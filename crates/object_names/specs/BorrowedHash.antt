-- A borrowed name is hashed, and is equal to another, as the key that it stands for.
use Rattle.std.proofs.Common.{◌≡◌, ◌∙◌, ap, sym, refl, ℕ, List, Bor, IsTrue, Bool}
use Rattle.mms_types.specs.declared.key.Key.{Key}
use Rattle.mms_types.specs.Order.{key_eq}
use Rattle.mms_types.proofs.Precedence.{key_eq_tells}
use Rattle.mms_types.specs.contracts.key.KeyHash.TheImpl as key_hash
use Rattle.mms_types.specs.KeyLaws.{keys_equal}
use Rattle.object_names.specs.contracts.borrowed.KeyRefHash.TheImpl as key_ref_hash
use Rattle.object_names.specs.contracts.borrowed.KeyRefPartialEq.TheImpl as key_ref_eq
use Rattle.object_names.specs.declared.borrowed.ScopeRef.{ScopeRef}
use Rattle.object_names.specs.declared.borrowed.ScopeRef.TheVariants as borrowed
use Rattle.object_names.specs.declared.borrowed.KeyRef.{KeyRef}
use Rattle.object_names.specs.Borrowed.{scope_meant, key_meant}

by_scope : (s : ScopeRef) (item : Bor (List ℕ)) → key_ref_hash.ghosts.hash_input (record { scope = s; item = item }) ≡ key_hash.ghosts.hash_input (record { scope = scope_meant s; item = item.now })
by_scope borrowed.Vmd item = refl
by_scope (borrowed.Domain domain) item = refl
by_scope (borrowed.Association client) item = refl

-- it is equal to no other
pub keys_hash : (q : KeyRef) (k : Key) → IsTrue (key_eq (key_meant q) k) → key_ref_hash.ghosts.hash_input q ≡ key_hash.ghosts.hash_input k
keys_hash q k same = by_scope q.scope q.item ∙ ap key_hash.ghosts.hash_input ((key_eq_tells (key_meant q) k).0 same)

-- two borrowed names are the same where they stand for the same key
abbrev pub borrowed_eq : KeyRef → KeyRef → Bool
borrowed_eq = key_ref_eq.ghosts.eq

by_scopes : (s t : ScopeRef) (i j : Bor (List ℕ)) → borrowed_eq (record { scope = s; item = i }) (record { scope = t; item = j })
    ≡ key_eq (record { scope = scope_meant s; item = i.now }) (record { scope = scope_meant t; item = j.now })
by_scopes borrowed.Vmd borrowed.Vmd i j = refl
by_scopes borrowed.Vmd (borrowed.Domain d) i j = refl
by_scopes borrowed.Vmd (borrowed.Association c) i j = refl
by_scopes (borrowed.Domain d) borrowed.Vmd i j = refl
by_scopes (borrowed.Domain d) (borrowed.Domain e) i j = refl
by_scopes (borrowed.Domain d) (borrowed.Association c) i j = refl
by_scopes (borrowed.Association c) borrowed.Vmd i j = refl
by_scopes (borrowed.Association c) (borrowed.Domain d) i j = refl
by_scopes (borrowed.Association c) (borrowed.Association d) i j = refl

pub equal_alike : (x y : KeyRef) → borrowed_eq x y ≡ key_eq (key_meant x) (key_meant y)
equal_alike x y = by_scopes x.scope y.scope x.item y.item

pub keys_alike : (q : Bor Key) (x y : KeyRef) → IsTrue (key_eq (key_meant x) q.now) → key_eq (key_meant y) q.now ≡ borrowed_eq x y
keys_alike q x y same =
    ap (key_eq (key_meant y)) (sym ((key_eq_tells (key_meant x) q.now).0 same)) ∙ keys_equal.symm (key_meant y) (key_meant x) ∙ sym (equal_alike x y)
