-- What a domain is (ISO 9506-2, GetDomainAttributes).
use Rattle.std.specs.Prelude.{◌≡◌, ℕ, [], ◌∷◌, get_or, refl}
use Rattle.mms_types.specs.DomainStates.{domain_state_number}
use Rattle.mms_types.specs.declared.domain.DomainState.{DomainState}
use Rattle.mms_types.specs.declared.domain.DomainState.TheVariants.{Loading, Ready, InUse}
use Rattle.mms_types.specs.declared.domain.DomainAttributes.{DomainAttributes}
use Rattle.pdu_names.specs.Names.{identifiers}
use Rattle.pdu_names.specs.Kinds.{Kind, boolean, natural, int8, of_one, context, sequence, required, no_more}
use Rattle.pdu_programs.specs.Texts.{texts}

abbrev state_numbered : ℕ → DomainState
state_numbered n = get_or (Loading ∷ Loading ∷ Ready ∷ []) n InUse

pub state_again : (s : DomainState) → state_numbered (domain_state_number s) ≡ s
state_again Loading = refl
state_again Ready = refl
state_again InUse = refl

-- state: loading 1, ready 2, in-use 3; the others aren't reached (this profile's choice)
abbrev pub domain_state : Kind DomainState
domain_state = of_one (natural 1 3) domain_state_number state_numbered state_again

-- GetDomainAttributes-Response: listOfCapabilities, state, mmsDeletable, sharable, listOfProgramInvocations and uploadInProgress
abbrev pub domain_attributes : Kind DomainAttributes
domain_attributes = sequence (
    required (context 0 texts) (λ x. x.capabilities) (
    required (context 1 domain_state) (λ x. x.state) (
    required (context 2 boolean) (λ x. x.deletable) (
    required (context 3 boolean) (λ x. x.sharable) (
    required (context 4 identifiers) (λ x. x.invocations) (
    required (context 5 int8) (λ x. x.uploads) no_more))))))
    (λ capabilities state deletable sharable invocations uploads.
    record { capabilities = capabilities; state = state; deletable = deletable; sharable = sharable; invocations = invocations; uploads = uploads })
    (λ x. refl)
