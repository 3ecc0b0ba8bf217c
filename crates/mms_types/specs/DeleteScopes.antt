-- Which names are deleted (ISO 9506-2, scopeOfDelete).
use Rattle.std.specs.Prelude.{ℕ}
use Rattle.mms_types.specs.declared.variable.DeleteScope.{DeleteScope}
use Rattle.mms_types.specs.declared.variable.DeleteScope.TheVariants.{Specific, Association, Domain, Vmd}

-- the number of a scope
abbrev pub scope_number : DeleteScope → ℕ
scope_number Specific = 0
scope_number Association = 1
scope_number Domain = 2
scope_number Vmd = 3
