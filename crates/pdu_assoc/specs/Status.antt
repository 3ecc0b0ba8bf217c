-- Status and Identify (ISO 9506-2, VMD support): their requests and their answers.
use Rattle.std.specs.Prelude.{refl}
use Rattle.mms_types.specs.declared.status.Status.{Status}
use Rattle.mms_types.specs.declared.status.StatusAnswer.{StatusAnswer}
use Rattle.mms_types.specs.declared.status.IdentifyAnswer.{IdentifyAnswer}
use Rattle.pdu_names.specs.Kinds.{Kind, boolean, natural, visible_string, of_one, context, sequence, required, no_more}

-- Status-Request: extendedDerivation
abbrev pub status : Kind Status
status = of_one boolean (λ s. s.derivation) (λ b. record { derivation = b }) (λ s. refl)

-- Status-Response: vmdLogicalStatus state-changes-allowed 0 and vmdPhysicalStatus operational 0 (this profile's choice: no others)
abbrev pub status_answer : Kind StatusAnswer
status_answer = sequence (
    required (context 0 (natural 0 0)) (λ a. a.logical) (
    required (context 1 (natural 0 0)) (λ a. a.physical) no_more))
    (λ logical physical. record { logical = logical; physical = physical }) (λ a. refl)

-- Identify-Response: vendorName, modelName and revision
abbrev pub identify_answer : Kind IdentifyAnswer
identify_answer = sequence (
    required (context 0 visible_string) (λ a. a.vendor) (
    required (context 1 visible_string) (λ a. a.model) (
    required (context 2 visible_string) (λ a. a.revision) no_more)))
    (λ vendor model revision. record { vendor = vendor; model = model; revision = revision }) (λ a. refl)
