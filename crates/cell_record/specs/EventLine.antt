-- What an event line says (this profile's choice).
use Rattle.cell_config.specs.declared.config.Config.{Config}
use Rattle.std.specs.Prelude.{ℕ, ◌≡◌, true, Bool, if◌then◌else◌, List, length, codes, Result, Ok}
use Rattle.std.specs.Prelude.{Err, Some, None, nat_lt, nat_eq}
use Rattle.std.specs.Cmp.Lexicographic.{pointwise}
use Rattle.std.specs.declared.option.Option.{Option}
use Rattle.mms_types.specs.Spelling.{is_identifier}
use Rattle.mms_types.specs.declared.event.CellEvent.{CellEvent}
use Rattle.mms_types.specs.declared.event.CellEvent.TheVariants.{Heard, Lost, Tick, Ends, Drain}
use Rattle.cell_record.specs.Words.{between, trim, word_of, argument_of, is_remark}
use Rattle.cell_record.specs.Words.{begins_with_digit, number_of, pairs_of}
use Rattle.cell_record.specs.declared.said.LineMeaning.{LineMeaning}
use Rattle.cell_record.specs.declared.said.LineMeaning.TheVariants.{Nothing, Phase, Happens}
use Rattle.cell_record.specs.declared.said.LineError.{LineError}
use Rattle.cell_record.specs.declared.said.LineError.TheVariants.{Bad, Memory}
use Rattle.cell_record.specs.declared.refusal.BadWord.{BadWord}
use Rattle.cell_record.specs.declared.refusal.BadWord.TheVariants as bad

abbrev pub same : List ℕ → List ℕ → Bool
same line word = pointwise nat_eq line word

-- `<client> <hex>` with 1 to 65,000 octets
abbrev pub heard_of : Config → Option ℕ → Option (List ℕ) → Result LineMeaning BadWord
heard_of config None octets = Err bad.Hex
heard_of config (Some client) None = Err bad.Hex
heard_of config (Some client) (Some octets) =
    if between 1 65000 (length octets)
    then (if between 1 config.clients client
    then Ok (Happens (Heard client octets))
    else Err bad.Client)
    else Err bad.Hex

-- `lost <client>`
abbrev pub lost_of : Config → Option ℕ → Result LineMeaning BadWord
lost_of config None = Err bad.Event
lost_of config (Some client) = if between 1 config.clients client then Ok (Happens (Lost client))
    else Err bad.Client

-- `tick <ms>` with 1 to 3,600,000 milliseconds
abbrev pub tick_of : Option ℕ → Result LineMeaning BadWord
tick_of None = Err bad.Event
tick_of (Some ms) = if between 1 3600000 ms then Ok (Happens (Tick ms)) else Err bad.Event

-- `ends <name>` with an Identifier
abbrev pub ends_of : Config → List ℕ → Result LineMeaning BadWord
ends_of config name = if is_identifier config.edition name then Ok (Happens (Ends name))
    else Err bad.Event

-- a line that begins with no digit, by its first word and what follows
abbrev pub worded : Config → List ℕ → List ℕ → List ℕ → Result LineMeaning BadWord
worded config line word argument =
    if same line (codes "phase") then Ok Phase
    else if same word (codes "lost") then lost_of config (number_of argument)
    else if same word (codes "tick") then tick_of (number_of argument)
    else if same word (codes "ends") then ends_of config argument
    else Err bad.Event

-- what a line says that has no blanks at its ends
abbrev pub trimmed_says : Config → List ℕ → Result LineMeaning BadWord
trimmed_says config line =
    if begins_with_digit line
    then heard_of config (number_of (word_of line)) (pairs_of (argument_of line))
    else if is_remark line then Ok Nothing
    else worded config line (word_of line) (argument_of line)

-- what the content of an event line says, or the first rule that it breaks
abbrev pub said_of : Config → List ℕ → Result LineMeaning BadWord
said_of config line = if nat_lt 196608 (length line) then Err bad.Long
    else trimmed_says config (trim line)

-- want of memory, or the rule that the line breaks
abbrev pub IsCause : Result LineMeaning BadWord → LineError → Type 0
IsCause r Memory = Unit {0}
IsCause r (Bad word) = r ≡ Err word

-- an event that a recording with this configuration has
abbrev pub IsRecorded : Config → CellEvent → Type 0
IsRecorded config (Heard client octets) = (between 1 config.clients client ≡ true)
    × (between 1 65000 (length octets) ≡ true)
IsRecorded config (Lost client) = between 1 config.clients client ≡ true
IsRecorded config (Tick ms) = between 1 3600000 ms ≡ true
IsRecorded config (Ends name) = is_identifier config.edition name ≡ true
IsRecorded config (Drain client) = ⊥

abbrev pub MayHappen : Config → LineMeaning → Type 0
MayHappen config Nothing = Unit {0}
MayHappen config Phase = Unit {0}
MayHappen config (Happens event) = IsRecorded config event
