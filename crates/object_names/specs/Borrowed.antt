-- A name whose octets stand elsewhere, and the key that it stands for.
use Rattle.mms_types.specs.declared.key.Key.{Key}
use Rattle.mms_types.specs.declared.key.Scope.{Scope}
use Rattle.mms_types.specs.declared.key.Scope.TheVariants as scope
use Rattle.object_names.specs.declared.borrowed.ScopeRef.{ScopeRef}
use Rattle.object_names.specs.declared.borrowed.ScopeRef.TheVariants as borrowed
use Rattle.object_names.specs.declared.borrowed.KeyRef.{KeyRef}

abbrev pub scope_meant : ScopeRef → Scope
scope_meant borrowed.Vmd = scope.Vmd
scope_meant (borrowed.Domain domain) = scope.Domain domain.now
scope_meant (borrowed.Association client) = scope.Association client

abbrev pub key_meant : KeyRef → Key
key_meant key = record { scope = scope_meant key.scope; item = key.item.now }
