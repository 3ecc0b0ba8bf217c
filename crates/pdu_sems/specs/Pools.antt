-- The tokens of a pool (ISO 9506-2, ReportPoolSemaphoreStatus).
use Rattle.std.specs.Prelude.{◌≡◌, List, [], refl}
use Rattle.ber_forms.specs.Value.{Value, chosen}
use Rattle.ber_forms.specs.Form.{any_number}
use Rattle.mms_types.specs.declared.semaphore.ReportPoolSemaphoreStatus.{ReportPoolSemaphoreStatus}
use Rattle.mms_types.specs.declared.semaphore.NamedToken.{NamedToken}
use Rattle.mms_types.specs.declared.semaphore.NamedToken.TheVariants.{Free, Owned, Hung}
use Rattle.mms_types.specs.declared.semaphore.PoolStatus.{PoolStatus}
use Rattle.pdu_names.specs.Names.{identifier, names}
use Rattle.pdu_names.specs.Kinds.{Kind, Choice, Arms, boolean, context, one_of, list_of, choice, sequence, required, optional, no_more, alternatives, made_of, or, no_other}

-- ReportPoolSemaphoreStatus-Request: semaphoreName and nameToStartAfter
abbrev pub report_pool : Kind ReportPoolSemaphoreStatus
report_pool = sequence (
    required (context 0 (choice names)) (λ x. x.name) (
    optional (context 1 identifier) (λ x. x.after) no_more))
    (λ name after. record { name = name; after = after }) (λ x. refl)

-- freeNamedToken 0, ownedNamedToken 1, hungNamedToken 2
abbrev token_arms : Arms NamedToken
token_arms = or 0 identifier Free (or 1 identifier Owned (or 2 identifier Hung (no_other (Free []))))

abbrev token_value : NamedToken → Value
token_value (Free name) = chosen 0 (identifier.value name)
token_value (Owned name) = chosen 1 (identifier.value name)
token_value (Hung name) = chosen 2 (identifier.value name)

pub token_again : (t : NamedToken) → made_of token_arms (token_value t) ≡ t
token_again (Free name) = refl
token_again (Owned name) = refl
token_again (Hung name) = refl

abbrev pub named_tokens : Choice NamedToken
named_tokens = alternatives token_arms token_value token_again

-- ReportPoolSemaphoreStatus-Response: listOfNamedTokens, and moreFollows, which is always written (this profile's choice)
abbrev pub pool_status : Kind PoolStatus
pool_status = sequence (
    required (context 0 (list_of any_number (one_of named_tokens))) (λ x. x.tokens) (
    required (context 1 boolean) (λ x. x.more) no_more))
    (λ tokens more. record { tokens = tokens; more = more }) (λ x. refl)
