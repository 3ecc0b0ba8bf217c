use Rattle.std.proofs.Common.{◌≡◌, take}
use Rattle.mms_types.proofs.copying.+copy_type.Given as goal

-- the components up to the index are copied
abbrev pub invariant-copied_components-loop-component : goal.invariant-copied_components-loop-component
invariant-copied_components-loop-component l = l.found.items ≡ take l.component-index l.from
