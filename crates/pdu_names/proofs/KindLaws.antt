-- What holds of each kind.
use Rattle.std.specs.Prelude.{IsTrue}
use Rattle.ber_forms.specs.Fits.{is_sound}
use Rattle.mms_types.specs.declared.identifier.Edition.{Edition}
use Rattle.pdu_names.specs.Spells.{Spells}
use Rattle.pdu_names.proofs.Lawful.{lawful}
use Rattle.pdu_names.specs.Kinds.{Kind, IsOf}

pub spells : {X : Type 0} (k : Kind X) (edition : Edition) → IsTrue (is_sound (k.form edition)) → Spells (k.form edition) k.value (IsOf k edition)
spells k edition sound = lawful (k.form edition) k.value (IsOf k edition) sound (λ x h. h) k.said k.again
