-- What a deletion selects.
use Rattle.std.specs.Prelude.{Bool}
use Rattle.mms_types.specs.declared.key.Key.{Key}
use Rattle.event_enrol.specs.Going.{goes}
use Rattle.event_enrol.specs.declared.deleting.Deletion.{Deletion}
use Rattle.event_enrol.specs.declared.enrolment.Enrolment.{Enrolment}

abbrev pub selected : Deletion → Key × Enrolment → Bool
selected deletion row = goes deletion.going row.0 row.1.client row.1.condition
