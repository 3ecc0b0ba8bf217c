-- Why a text is refused: the causes in their order, each a condition on a line and the lines before
-- it (this profile's choice).
use Rattle.std.specs.Prelude.{ℕ, ◌+◌, ◌≡◌, ◌≢◌, ◌<◌, ◌≤◌, ◌++◌, ◌⊎◌, true, false, List, [], ◌∷◌}
use Rattle.std.specs.Prelude.{length, codes, Some, None, IfSome, Ok}
use Rattle.std.specs.Option.{option_map}
use Rattle.std.specs.declared.option.Option.{Option}
use Rattle.cell_io.specs.Lines.{lines_of}
use Rattle.mms_types.specs.Spelling.{IsIdentifier}
use Rattle.mms_types.specs.FirstCause.{Holds, ◌else◌, told}
use Rattle.mms_types.specs.declared.identifier.Edition.{Edition}
use Rattle.mms_types.specs.declared.event.CellEvent.{CellEvent}
use Rattle.cell_config.specs.declared.config.Config.{Config}
use Rattle.cell_config.specs.Rules.{document_of, least_broken}
use Rattle.cell_config.specs.Said.{config_of}
use Rattle.cell_record.specs.Words.{content, is_long, trim, word_of, argument_of, is_remark}
use Rattle.cell_record.specs.Words.{begins_with_digit, number_of, pairs_of}
use Rattle.cell_record.specs.EventLine.{said_of}
use Rattle.cell_record.specs.Recording.{header_of, size_in_text, ms_in, octets_in}
use Rattle.cell_record.specs.Grammar.{text_of, Says, phases_of, pdu_octets, all_ms}
use Rattle.cell_record.specs.declared.said.LineMeaning.{LineMeaning}
use Rattle.cell_record.specs.declared.said.LineMeaning.TheVariants.{Happens}
use Rattle.cell_record.specs.declared.refusal.BadWord.TheVariants as bad
use Rattle.cell_record.specs.declared.refusal.RecordError.{RecordError}
use Rattle.cell_record.specs.declared.refusal.RecordError.TheVariants.{Bad, BadConfig, Memory}
use Rattle.cell_record.specs.declared.refusal.RecordError.TheVariants.{ReadFault, TooMuch}

-- ---- where a line stands

-- the octets of lines
abbrev pub octets_of : List (List ℕ) → ℕ
octets_of [] = 0
octets_of (line ∷ lines) = length line + octets_of lines

-- none of the lines is `end`
abbrev pub HaveNoEnd : List (List ℕ) → Type 0
HaveNoEnd [] = Unit {0}
HaveNoEnd (line ∷ lines) = (content line ≢ codes "end") × HaveNoEnd lines

-- a line of the configuration stands behind these lines: the header, `config`, and lines of which
-- none is `end`
pub record InSetup (before setup : List (List ℕ)) : Type 0 where
  pub header : List ℕ
  pub second : List ℕ
  pub lines : before ≡ header ∷ second ∷ setup
  pub endless : HaveNoEnd setup

-- an event line stands behind these lines: they tell a configuration, and the event lines among
-- them say this
pub record InEvents (before : List (List ℕ)) (config : Config) (said : List LineMeaning) : Type 0 where
  pub header : List ℕ
  pub second : List ℕ
  pub setup : List (List ℕ)
  pub last : List ℕ
  pub body : List (List ℕ)
  pub lines : before ≡ header ∷ second ∷ (setup ++ last ∷ body)
  pub is_header : header_of (content header) ≡ Some config.edition
  pub endless : HaveNoEnd setup
  pub is_end : content last ≡ codes "end"
  pub says : option_map (config_of config.edition) (document_of (text_of setup)) ≡ Some config
  pub each : Says config body said

-- the phase in which the next event would be
abbrev pub last_phase : List (List CellEvent) → List CellEvent
last_phase [] = []
last_phase (phase ∷ []) = phase
last_phase (phase ∷ next ∷ rest) = last_phase (next ∷ rest)

-- ---- the forms of an event line, without blanks at its ends

-- `<client> <hex>`, with 1 to 65,000 octets
pub record IsHeard (client : ℕ) (octets line : List ℕ) : Type 0 where
  pub number : number_of (word_of line) ≡ Some client
  pub pairs : pairs_of (argument_of line) ≡ Some octets
  pub some : 1 ≤ length octets
  pub few : length octets ≤ 65000

-- `lost <client>`
abbrev pub IsLost : ℕ → List ℕ → Type 0
IsLost client line = (word_of line ≡ codes "lost") × (number_of (argument_of line) ≡ Some client)

-- `tick <ms>`, with 1 to 3,600,000 milliseconds
abbrev pub IsTick : List ℕ → Type 0
IsTick line =
    (word_of line ≡ codes "tick")
    × (ms : ℕ) × (number_of (argument_of line) ≡ Some ms) × (1 ≤ ms) × (ms ≤ 3600000)

-- `ends <name>`
abbrev pub IsEnds : Edition → List ℕ → Type 0
IsEnds edition line = (word_of line ≡ codes "ends") × IsIdentifier edition (argument_of line)

-- a line that begins with no digit and is of some form: empty or a comment, `phase`, `lost`, `tick`
-- or `ends`
abbrev pub IsWorded : Edition → List ℕ → Type 0
IsWorded edition line =
    (is_remark line ≡ true) ⊎ (line ≡ codes "phase") ⊎ ((client : ℕ) × IsLost client line)
    ⊎ IsTick line ⊎ IsEnds edition line

-- the line is of a form with a client's number
abbrev pub Names : ℕ → List ℕ → Type 0
Names client line = ((octets : List ℕ) × IsHeard client octets line) ⊎ IsLost client line

-- ---- the causes, each of a line, or of a missing one behind the last

-- with the line the input has more than 4,294,967,296 octets
abbrev pub IsOver : List (List ℕ) → Option (List ℕ) → Type 0
IsOver before here = (line : List ℕ) × (here ≡ Some line)
    × (4294967296 < octets_of before + length line)

-- line 1 names no edition, or is missing
abbrev pub LacksHeader : List (List ℕ) → Option (List ℕ) → Type 0
LacksHeader before here = (before ≡ []) × IfSome here (λ line. header_of (content line) ≡ None)

-- line 2 isn't `config`, or is missing
abbrev pub LacksConfig : List (List ℕ) → Option (List ℕ) → Type 0
LacksConfig before here = (length before ≡ 1) × IfSome here (λ line. content line ≢ codes "config")

-- behind `config` no line is `end`
abbrev pub LacksEnd : List (List ℕ) → Option (List ℕ) → Type 0
LacksEnd before here = (here ≡ None) × (setup : List (List ℕ)) × InSetup before setup

-- with the line the configuration's text has more than 1,048,576 octets
abbrev pub IsMuchSetup : List (List ℕ) → Option (List ℕ) → Type 0
IsMuchSetup before here = (setup : List (List ℕ)) × InSetup before setup
    × (line : List ℕ) × (here ≡ Some line) × (content line ≢ codes "end")
    × (1048576 < length (text_of setup) + size_in_text line)

-- the line is too long
abbrev pub IsLong : Option (List ℕ) → Type 0
IsLong here = (line : List ℕ) × (here ≡ Some line) × (is_long line ≡ true)

-- an event line stands there of whose content this holds, by the configuration and what is said
-- before it
abbrev pub OfEventLine : (Config → List LineMeaning → List ℕ → Type 0) → List (List ℕ) → Option (List ℕ)
    → Type 0
OfEventLine Cause before here = (config : Config) × (said : List LineMeaning) × InEvents before config said
    × (line : List ℕ) × (here ≡ Some line) × Cause config said (content line)

-- it begins with no digit and is of no form
abbrev pub HasNoForm : Config → List LineMeaning → List ℕ → Type 0
HasNoForm config said line = (begins_with_digit (trim line) ≡ false)
    × (IsWorded config.edition (trim line) → ⊥)

-- it begins with a digit and is not of the form
abbrev pub HasNoOctets : Config → List LineMeaning → List ℕ → Type 0
HasNoOctets config said line = (begins_with_digit (trim line) ≡ true)
    × ((client : ℕ) (octets : List ℕ) → IsHeard client octets (trim line) → ⊥)

-- there is no client of its number
abbrev pub NamesNoClient : Config → List LineMeaning → List ℕ → Type 0
NamesNoClient config said line = (client : ℕ) × Names client (trim line)
    × ((1 ≤ client) × (client ≤ config.clients) → ⊥)

-- with its event the moment is later than the last millisecond of day 65,535
abbrev pub PassesTime : Config → List LineMeaning → List ℕ → Type 0
PassesTime config said line = (event : CellEvent) × (said_of config line ≡ Ok (Happens event))
    × (5662310399999 < config.start.0 + all_ms (phases_of said) + ms_in event)

-- with its event the phase has more than 16,384 events, or 67,108,864 octets of PDUs
abbrev pub IsMuchPhase : Config → List LineMeaning → List ℕ → Type 0
IsMuchPhase config said line = (event : CellEvent) × (said_of config line ≡ Ok (Happens event))
    × ((16384 < length (last_phase (phases_of said)) + 1)
    ⊎ (67108864 < pdu_octets (last_phase (phases_of said)) + octets_in event))

-- the line is the first `end`, and the configuration's text breaks rules in the edition of the
-- header, the least of them this one
abbrev pub BreaksRule : List (List ℕ) → Option (List ℕ) → RecordError → Type 0
BreaksRule before here e = (setup : List (List ℕ)) × (behind : InSetup before setup)
    × (line : List ℕ) × (here ≡ Some line) × (content line ≡ codes "end")
    × (edition : Edition) × (header_of (content behind.header) ≡ Some edition)
    × (rule : ℕ) × (least_broken edition (text_of setup) ≡ Some rule) × (e ≡ BadConfig rule)

-- ---- the first of them

-- why a line behind these lines is refused, or that it is missing: the first cause that holds
abbrev pub Refuses : List (List ℕ) → Option (List ℕ) → RecordError → Type 0
Refuses before here =
    told (TooMuch (length before + 1)) (IsOver before here)
    else told (Bad (length before + 1) bad.Header) (LacksHeader before here)
    else told (Bad (length before + 1) bad.Config)
    (LacksConfig before here ⊎ LacksEnd before here ⊎ IsMuchSetup before here)
    else told (Bad (length before + 1) bad.Long) (IsLong here)
    else told (Bad (length before + 1) bad.Event) (OfEventLine HasNoForm before here)
    else told (Bad (length before + 1) bad.Hex) (OfEventLine HasNoOctets before here)
    else told (Bad (length before + 1) bad.Client) (OfEventLine NamesNoClient before here)
    else told (Bad (length before + 1) bad.Clock) (OfEventLine PassesTime before here)
    else told (TooMuch (length before + 1)) (OfEventLine IsMuchPhase before here)
    else BreaksRule before here

-- of the lines, these stand before that one, which is none behind the last
abbrev pub StandsBehind : List (List ℕ) → Option (List ℕ) → List (List ℕ) → Type 0
StandsBehind before None lines = lines ≡ before
StandsBehind before (Some line) lines = (rest : List (List ℕ)) × (lines ≡ before ++ line ∷ rest)

-- no line of these is refused
abbrev pub NoneRefused : List (List ℕ) → Type 0
NoneRefused lines = (before rest : List (List ℕ)) (line : List ℕ)
    → lines ≡ before ++ line ∷ rest → Holds (Refuses before (Some line)) → ⊥

-- a line of these, or a missing one behind the last, is the first that is refused, and this is its
-- refusal
pub record IsFirstRefusal (lines : List (List ℕ)) (e : RecordError) : Type 0 where
  pub before : List (List ℕ)
  pub here : Option (List ℕ)
  pub stands : StandsBehind before here lines
  pub first : NoneRefused before
  pub refuses : Refuses before here e

-- so a text is refused
abbrev pub IsRefused : List ℕ → RecordError → Type 0
IsRefused text e = IsFirstRefusal (lines_of text) e

-- ---- the phases before it

-- the line that a refusal names
abbrev pub NamesLine : RecordError → ℕ → Type 0
NamesLine (Bad line word) n = line ≡ n
NamesLine (TooMuch line) n = line ≡ n
NamesLine (BadConfig rule) n = ⊥
NamesLine ReadFault n = ⊥
NamesLine Memory n = ⊥

-- the phases that end in event lines: all but the one that was begun last
abbrev pub all_but_last : List (List CellEvent) → List (List CellEvent)
all_but_last [] = []
all_but_last (phase ∷ []) = []
all_but_last (phase ∷ next ∷ rest) = phase ∷ all_but_last (next ∷ rest)

-- the phases are those that end in the lines before the one that the refusal names
pub record EndBefore (lines : List (List ℕ)) (config : Config) (e : RecordError)
    (phases : List (List CellEvent)) : Type 0 where
  pub before : List (List ℕ)
  pub here : List ℕ
  pub rest : List (List ℕ)
  pub stands : lines ≡ before ++ here ∷ rest
  pub number : NamesLine e (length before + 1)
  pub said : List LineMeaning
  pub events : InEvents before config said
  pub ends : phases ≡ all_but_last (phases_of said)
