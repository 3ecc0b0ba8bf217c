-- What a recording says: the lines up to `end`, and then its phases (this profile's choice).
use Rattle.std.specs.Prelude.{ℕ, ◌+◌, ◌||◌, Bool, if◌then◌else◌, List, [], ◌∷◌, ◌++◌, length, codes}
use Rattle.std.specs.Prelude.{Result, Ok, Err, Some, None, nat_le, nat_lt}
use Rattle.std.specs.Option.{option_map}
use Rattle.std.specs.declared.option.Option.{Option}
use Rattle.cell_io.specs.Lines.{lines_of}
use Rattle.mms_types.specs.declared.event.CellEvent.{CellEvent}
use Rattle.mms_types.specs.declared.event.CellEvent.TheVariants.{Heard, Lost, Tick, Ends, Drain}
use Rattle.mms_types.specs.declared.identifier.Edition.{Edition}
use Rattle.mms_types.specs.declared.identifier.Edition.TheVariants.{One, Two}
use Rattle.cell_config.specs.declared.config.Config.{Config}
use Rattle.cell_config.specs.Rules.{document_of, least_broken}
use Rattle.cell_config.specs.Said.{config_of}
use Rattle.cell_record.specs.Words.{content, is_long}
use Rattle.cell_record.specs.EventLine.{same, said_of}
use Rattle.cell_record.specs.declared.said.LineMeaning.{LineMeaning}
use Rattle.cell_record.specs.declared.said.LineMeaning.TheVariants.{Nothing, Phase, Happens}
use Rattle.cell_record.specs.declared.counts.Counts.{Counts}
use Rattle.cell_record.specs.declared.refusal.BadWord.{BadWord}
use Rattle.cell_record.specs.declared.refusal.BadWord.TheVariants as bad
use Rattle.cell_record.specs.declared.refusal.RecordError.{RecordError}
use Rattle.cell_record.specs.declared.refusal.RecordError.TheVariants.{Bad, BadConfig, TooMuch}

-- how far a reading has come: the lines and the octets so far
pub record Place : Type 0 where
  pub lines : ℕ
  pub octets : ℕ

-- the place behind a line
abbrev pub behind : Place → List ℕ → Place
behind p line = record { lines = p.lines + 1; octets = p.octets + length line }

-- the input has at most 4,294,967,296 octets up to the line's end
abbrev pub fits : Place → List ℕ → Bool
fits p line = nat_le (p.octets + length line) 4294967296

-- ---- event lines

-- the complete phases, and what refuses the text after them
pub record Reading : Type 0 where
  pub phases : List (List CellEvent)
  pub refusal : Option RecordError

-- the end of the text ends a phase
abbrev pub whole : Reading
whole = record { phases = [] ∷ []; refusal = None }

-- nothing more
abbrev pub ended : Reading
ended = record { phases = []; refusal = None }

abbrev pub refused : RecordError → Reading
refused e = record { phases = []; refusal = Some e }

-- an event at the front of the first phase, where that is completed
abbrev pub onto : CellEvent → List (List CellEvent) → List (List CellEvent)
onto event [] = []
onto event (phase ∷ rest) = (event ∷ phase) ∷ rest

abbrev pub with_event : CellEvent → Reading → Reading
with_event event r = record { phases = onto event r.phases; refusal = r.refusal }

-- a phase in front
abbrev pub with_phase : List CellEvent → Reading → Reading
with_phase events r = record { phases = events ∷ r.phases; refusal = r.refusal }

-- how many milliseconds go by in an event
abbrev pub ms_in : CellEvent → ℕ
ms_in (Heard client octets) = 0
ms_in (Lost client) = 0
ms_in (Tick ms) = ms
ms_in (Ends name) = 0
ms_in (Drain client) = 0

-- how many octets of PDUs an event has
abbrev pub octets_in : CellEvent → ℕ
octets_in (Heard client octets) = length octets
octets_in (Lost client) = 0
octets_in (Tick ms) = 0
octets_in (Ends name) = 0
octets_in (Drain client) = 0

-- a phase begins, at a moment
abbrev pub fresh : ℕ → Counts
fresh moment = record { events = 0; octets = 0; moment = moment }

-- an event more
abbrev pub counted : Counts → CellEvent → Counts
counted c event = record {
  events = c.events + 1;
  octets = c.octets + octets_in event;
  moment = c.moment + ms_in event;
}

-- a phase has at most 16,384 events and 67,108,864 octets of PDUs
abbrev pub is_much : Counts → Bool
is_much c = nat_lt 16384 c.events || nat_lt 67108864 c.octets

-- a moment is no later than the last millisecond of day 65,535 (ISO 9506-2, TimeOfDay)
abbrev pub is_past : Counts → Bool
is_past c = nat_lt 5662310399999 c.moment

-- why the line of this number is refused, with which there would be so much
abbrev pub excess : ℕ → Counts → Option RecordError
excess line c =
    if is_past c then Some (Bad line bad.Clock) else if is_much c then Some (TooMuch line) else None

abbrev pub unless : Option RecordError → Reading → Reading
unless None r = r
unless (Some e) r = refused e

-- what there is of the phase after a line that says this
abbrev pub moved : Counts → LineMeaning → Counts
moved c Nothing = c
moved c Phase = fresh c.moment
moved c (Happens event) = counted c event

-- why the line of this number is refused that says this, where there is so much after it
abbrev pub refusal_of : ℕ → Counts → LineMeaning → Option RecordError
refusal_of line after Nothing = None
refusal_of line after Phase = None
refusal_of line after (Happens event) = excess line after

-- what a line that says this makes of what the rest says
abbrev pub makes : LineMeaning → Reading → Reading
makes Nothing r = r
makes Phase r = with_phase [] r
makes (Happens event) r = with_event event r

-- what a line of this number makes of what the rest says
abbrev pub with_said : ℕ → Counts → Result LineMeaning BadWord → (Counts → Reading) → Reading
with_said line c (Err word) rest = refused (Bad line word)
with_said line c (Ok said) rest = unless (refusal_of line (moved c said) said)
    (makes said (rest (moved c said)))

-- what event lines say under a configuration from a place on, with so much of the phase before them
abbrev pub reading_of : Config → List (List ℕ) → Place → Counts → Reading
reading_of config [] p c = whole
reading_of config (line ∷ rest) p c =
    if fits p line
    then with_said (p.lines + 1) c (said_of config (content line))
    (λ d. reading_of config rest (behind p line) d)
    else refused (TooMuch (p.lines + 1))

-- ---- the lines before them

-- the configuration, what stands behind the line `end`, and where that is
pub record Opened : Type 0 where
  pub config : Config
  pub rest : List (List ℕ)
  pub place : Place

abbrev pub Opening : Type 0
Opening = Result Opened RecordError

-- the line that is to stand here, or else the word that refuses it
abbrev pub expected : List ℕ → BadWord → (List (List ℕ) → Place → Opening)
    → List (List ℕ) → Place → Opening
expected want word next [] p = Err (Bad (p.lines + 1) word)
expected want word next (line ∷ rest) p =
    if fits p line
    then (if same (content line) want then next rest (behind p line)
    else Err (Bad (p.lines + 1) word))
    else Err (TooMuch (p.lines + 1))

-- the edition of which the recording is that begins with this line
abbrev pub header_of : List ℕ → Option Edition
header_of line =
    if same line (codes "mms-recording 1") then Some One
    else if same line (codes "mms-recording 2") then Some Two else None

-- what stands behind a header of that edition
abbrev pub under : Option Edition → (Edition → List (List ℕ) → Place → Opening)
    → List (List ℕ) → ℕ → Place → Opening
under None next rest line p = Err (Bad line bad.Header)
under (Some edition) next rest line p = next edition rest p

-- what a line adds to the configuration's text: its content and one line feed
abbrev pub in_text : List ℕ → List ℕ
in_text line = content line ++ 10 ∷ []

-- how much that is, of a line that has so many octets as it stands; a line that is too long counts
-- with all that it has
abbrev pub size_by : ℕ → List ℕ → ℕ
size_by size line = if is_long line then size else length (content line) + 1

abbrev pub size_in_text : List ℕ → ℕ
size_in_text line = size_by (length line) line

-- the rule that a line of the configuration breaks, with which the text has so many octets
abbrev pub setup_word : ℕ → List ℕ → Option BadWord
setup_word total line =
    if nat_lt 1048576 total then Some bad.Config
    else if is_long line then Some bad.Long
    else None

abbrev pub unless_word : ℕ → Option BadWord → Opening → Opening
unless_word line None r = r
unless_word line (Some word) r = Err (Bad line word)

-- the line `end` was read, behind a configuration
abbrev pub opened : Config → List (List ℕ) → Place → Opening
opened config lines p = Ok (record { config = config; rest = lines; place = p })

-- the least rule that the configuration's text breaks refuses the recording; one that breaks none
-- is a document, so that the second case never comes
abbrev pub opened_unless : Option ℕ → Option Config → List (List ℕ) → Place → Opening
opened_unless (Some rule) config lines p = Err (BadConfig rule)
opened_unless None None lines p = Err (BadConfig 0)
opened_unless None (Some config) lines p = opened config lines p

-- the line `end` was read, behind a configuration's text
abbrev pub configured : Edition → List ℕ → List (List ℕ) → Place → Opening
configured edition text = opened_unless (least_broken edition text)
    (option_map (config_of edition) (document_of text))

-- the configuration's lines, up to the line `end`, behind those that have this text
abbrev pub setup_of : Edition → List (List ℕ) → Place → List ℕ → Opening
setup_of edition [] p text = Err (Bad (p.lines + 1) bad.Config)
setup_of edition (line ∷ rest) p text =
    if fits p line
    then (if same (content line) (codes "end")
    then configured edition text rest (behind p line)
    else unless_word (p.lines + 1) (setup_word (length text + size_in_text line) line)
    (setup_of edition rest (behind p line) (text ++ in_text line)))
    else Err (TooMuch (p.lines + 1))

-- the header in line 1, and what stands behind it
abbrev pub headed : (Edition → List (List ℕ) → Place → Opening) → List (List ℕ) → Place → Opening
headed next [] p = Err (Bad (p.lines + 1) bad.Header)
headed next (line ∷ rest) p =
    if fits p line
    then under (header_of (content line)) next rest (p.lines + 1) (behind p line)
    else Err (TooMuch (p.lines + 1))

-- the line `config`, and the configuration's lines up to `end`
abbrev pub setup_in : Edition → List (List ℕ) → Place → Opening
setup_in edition = expected (codes "config") bad.Config (λ rest p. setup_of edition rest p [])

-- all lines up to `end`
abbrev pub opening_of : List (List ℕ) → Place → Opening
opening_of = headed setup_in

-- ---- the whole text

-- where the reading of a text begins
abbrev pub front : Place
front = record { lines = 0; octets = 0 }

abbrev pub opening_of_text : List ℕ → Opening
opening_of_text text = opening_of (lines_of text) front

-- the configuration of a text that was opened
abbrev pub config_in : Opening → Option Config
config_in (Err e) = None
config_in (Ok o) = Some o.config

abbrev pub config_of_text : List ℕ → Option Config
config_of_text text = config_in (opening_of_text text)

-- the phases of a text that was opened, for the clients of its configuration and from its moment on
abbrev pub after_opening : Opening → Reading
after_opening (Err e) = refused e
after_opening (Ok o) = reading_of o.config o.rest o.place (fresh o.config.start.0)

-- what a whole text says
abbrev pub reading_of_text : List ℕ → Reading
reading_of_text text = after_opening (opening_of_text text)
