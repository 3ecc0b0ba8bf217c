-- Control of tokens (ISO 9506-2, semaphore management): a token is taken and given back, and a request waits for one.
use Rattle.std.specs.Prelude.{◌≡◌, ℕ, Bool, true, List, [], Option, refl}
use Rattle.ber_forms.specs.Value.{Value, chosen, nothing}
use Rattle.mms_types.specs.declared.object_name.ObjectName.{ObjectName}
use Rattle.mms_types.specs.declared.semaphore.Modifier.{Modifier}
use Rattle.mms_types.specs.declared.semaphore.TakeControl.{TakeControl}
use Rattle.mms_types.specs.declared.semaphore.TakeControlAnswer.{TakeControlAnswer}
use Rattle.mms_types.specs.declared.semaphore.TakeControlAnswer.TheVariants.{NoResult, NamedToken}
use Rattle.mms_types.specs.declared.semaphore.RelinquishControl.{RelinquishControl}
use Rattle.pdu_names.specs.Names.{identifier, names}
use Rattle.pdu_names.specs.Kinds.{Kind, Choice, Arms, Fields, null, natural, boolean, unsigned32, application_reference, explicit, context, choice, sequence, required, optional, defaulted, no_more, alternatives, made_of, or, no_other}

-- Priority: from 0 to 127
abbrev pub priority : Kind ℕ
priority = natural 0 127

-- which token is wanted, and on what terms: semaphoreName, namedToken, priority, 64 where it is absent, acceptableDelay,
-- controlTimeOut, abortOnTimeOut and relinquishIfConnectionLost, TRUE where it is absent; and then the rest
abbrev control : {R C : Type 0} → (R → ObjectName) → (R → Option (List ℕ)) → (R → ℕ) → (R → Option ℕ) → (R → Option ℕ) → (R → Option Bool) → (R → Bool) → Fields R C
    → Fields R (ObjectName → Option (List ℕ) → ℕ → Option ℕ → Option ℕ → Option Bool → Bool → C)
control name token terms delay time abort relinquish rest =
    required (context 0 (choice names)) name (
    optional (context 1 identifier) token (
    defaulted (context 2 priority) 64 terms (
    optional (context 3 unsigned32) delay (
    optional (context 4 unsigned32) time (
    optional (context 5 boolean) abort (
    defaulted (context 6 boolean) true relinquish rest))))))

-- TakeControl-Request: these, and applicationToPreempt
abbrev pub take_control : Kind TakeControl
take_control = sequence (
    control (λ x. x.name) (λ x. x.token) (λ x. x.priority) (λ x. x.delay) (λ x. x.control) (λ x. x.abort) (λ x. x.relinquish) (
    optional (context 7 application_reference) (λ x. x.preempt) no_more))
    (λ name token priority delay control abort relinquish preempt.
    record { name = name; token = token; priority = priority; delay = delay; control = control; abort = abort; relinquish = relinquish; preempt = preempt })
    (λ x. refl)

-- AttachToSemaphore: these alone
abbrev pub modifier : Kind Modifier
modifier = sequence (
    control (λ x. x.name) (λ x. x.token) (λ x. x.priority) (λ x. x.delay) (λ x. x.control) (λ x. x.abort) (λ x. x.relinquish) no_more)
    (λ name token priority delay control abort relinquish.
    record { name = name; token = token; priority = priority; delay = delay; control = control; abort = abort; relinquish = relinquish })
    (λ x. refl)

-- a list of modifiers (ISO 9506-2, Modifier): one, that attaches to a semaphore, 1 (this profile's choice)
abbrev pub modifiers : Kind Modifier
modifiers = explicit (context 1 modifier)

-- noResult 0, namedToken 1
abbrev taken_arms : Arms TakeControlAnswer
taken_arms = or 0 null (λ _. NoResult) (or 1 identifier NamedToken (no_other NoResult))

abbrev taken_value : TakeControlAnswer → Value
taken_value NoResult = chosen 0 nothing
taken_value (NamedToken name) = chosen 1 (identifier.value name)

pub taken_again : (x : TakeControlAnswer) → made_of taken_arms (taken_value x) ≡ x
taken_again NoResult = refl
taken_again (NamedToken name) = refl

-- TakeControl-Response
abbrev pub take_control_answers : Choice TakeControlAnswer
take_control_answers = alternatives taken_arms taken_value taken_again

-- RelinquishControl-Request: semaphoreName and namedToken
abbrev pub relinquish_control : Kind RelinquishControl
relinquish_control = sequence (
    required (context 0 (choice names)) (λ x. x.name) (
    optional (context 1 identifier) (λ x. x.token) no_more))
    (λ name token. record { name = name; token = token }) (λ x. refl)
