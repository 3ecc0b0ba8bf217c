-- What a step of a cursor answers.
use Rattle.std.specs.Prelude.{Option, Result}
use Rattle.ber_forms.specs.declared.unread.Unread.{Unread}
use Rattle.ber_forms.specs.Ahead.{Ahead}
use Rattle.ber_forms.specs.Value.{Value, optionally, given}
use Rattle.ber_forms.specs.Form.{Member}
use Rattle.ber_forms.specs.Reading.{Gives, required_at, optional_at, defaulted_at}

-- what the next element says, which is of the member, and what is left after it
abbrev pub RequiredGives : {X : Type 0} → (X → Value) → Member → Ahead → Ahead → Result X Unread → Type 0
RequiredGives view m before after result = Gives (λ x. (view x, after.octets)) result (required_at before.lengths m before.octets)

-- the same where the next element has the member's tag, and nothing where it has another or there is none
abbrev pub OptionalGives : {X : Type 0} → (X → Value) → Member → Ahead → Ahead → Result (Option X) Unread → Type 0
OptionalGives view m before after result = Gives (λ o. (optionally view o, after.octets)) result (optional_at before.lengths m before.octets)

-- the same with the default where it is missing
abbrev pub DefaultedGives : {X : Type 0} → (X → Value) → Member → Value → Ahead → Ahead → Result X Unread → Type 0
DefaultedGives view m d before after result = Gives (λ x. (given (view x), after.octets)) result (defaulted_at before.lengths m d before.octets)
