-- What was read of a variable is spelled and read as its data is.
use Rattle.std.proofs.Common.{◌≡◌, refl}
use Rattle.ber_forms.specs.Spelling.{alternative_octets}
use Rattle.mms_types.specs.Spelling.{widest}
use Rattle.mms_types.specs.Datum.{Datum, array, structure, boolean, bits, integer, unsigned, floating, octets, visible, time}
use Rattle.mms_types.specs.declared.access_result.AccessResult.TheVariants.{Success}
use Rattle.pdu_data.specs.Data.{data_choice}
use Rattle.pdu_vars.specs.Results.{access_results}

-- no data has the number of a failure
pub data_spelled : (x : Datum) → alternative_octets (access_results.alternatives widest) (access_results.value (Success x)) ≡ alternative_octets (data_choice.alternatives widest) (data_choice.value x)
unfolding access_results data_choice
data_spelled (array r) = refl
data_spelled (structure r) = refl
data_spelled (boolean b) = refl
data_spelled (bits u o) = refl
data_spelled (integer n) = refl
data_spelled (unsigned n) = refl
data_spelled (floating o) = refl
data_spelled (octets o) = refl
data_spelled (visible o) = refl
data_spelled (time o) = refl
