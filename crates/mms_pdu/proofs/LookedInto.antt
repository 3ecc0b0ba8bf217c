-- Of the PDUs that are kept whole, no octets of a constructed element are kept as they are.
use Rattle.std.proofs.Common.{◌≡◌, ℕ, zero, suc, true, refl}
use Rattle.std.specs.Prelude.{IsTrue}
use Rattle.ber_forms.specs.Form.{choice}
use Rattle.ber_forms.specs.Kept.{is_looked_into, alternatives_looked_into}
use Rattle.mms_types.specs.declared.identifier.Edition.{Edition}
use Rattle.mms_types.specs.declared.identifier.Edition.TheVariants.{Two}
use Rattle.pdu_names.specs.Names.{names}
use Rattle.pdu_data.specs.Data.{data_alternatives, data_choice}
use Rattle.pdu_data.specs.Types.{type_alternatives, type_choice}
use Rattle.pdu_vars.specs.Variables.{specifications, accesses}
use Rattle.pdu_events.specs.Entries.{journal_event, entry_contents}
use Rattle.mms_pdu.specs.Services.{requests}
use Rattle.mms_pdu.specs.Hearing.{whole_pdus}
use Rattle.mms_pdu.specs.ClientPdus.{modified_pdu}

names_looked : (e : Edition) → alternatives_looked_into (names.alternatives e) ≡ true
unfolding names
names_looked e = refl

data_within : (d : ℕ) → alternatives_looked_into (data_alternatives d) ≡ true
unfolding data_alternatives
data_within zero = refl
data_within (suc d) = rw (data_within d) refl

data_looked : (e : Edition) → alternatives_looked_into (data_choice.alternatives e) ≡ true
unfolding data_choice
data_looked e = data_within 10

types_within : (e : Edition) (d : ℕ) → alternatives_looked_into (type_alternatives e d) ≡ true
unfolding type_alternatives
types_within e zero = refl
types_within e (suc d) = rw (types_within e d) refl

types_looked : (e : Edition) → alternatives_looked_into (type_choice.alternatives e) ≡ true
unfolding type_choice
types_looked e = types_within e 10

specifications_looked : (e : Edition) → alternatives_looked_into (specifications.alternatives e) ≡ true
unfolding specifications
specifications_looked e = rw (names_looked e) refl

accesses_looked : (e : Edition) → alternatives_looked_into (accesses.alternatives e) ≡ true
unfolding accesses
accesses_looked e = rw (specifications_looked e, names_looked e) refl

entries_looked : (e : Edition) → alternatives_looked_into (entry_contents.alternatives e) ≡ true
unfolding entry_contents journal_event
entries_looked e = rw (names_looked e, data_looked e) refl

requests_looked : (e : Edition) → alternatives_looked_into (requests.alternatives e) ≡ true
unfolding requests
requests_looked e = rw (accesses_looked e, specifications_looked e, entries_looked e, names_looked e, data_looked e, types_looked e) refl

pub whole_looked : (e : Edition) → IsTrue (is_looked_into (choice (whole_pdus e)))
whole_looked e = rw (requests_looked e) refl

pub modified_looked : IsTrue (is_looked_into modified_pdu)
modified_looked = rw (names_looked Two, requests_looked Two) refl
