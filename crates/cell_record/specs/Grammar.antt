-- What a recording is, said of its whole text (this profile's choice).
use Rattle.std.specs.Prelude.{ℕ, ◌+◌, ◌≡◌, ◌≢◌, ◌≤◌, ◌++◌, false, List, [], ◌∷◌, length, codes, Ok}
use Rattle.std.specs.Prelude.{Some, None}
use Rattle.std.specs.Option.{option_map}
use Rattle.cell_io.specs.Lines.{lines_of}
use Rattle.mms_types.specs.declared.event.CellEvent.{CellEvent}
use Rattle.cell_config.specs.declared.config.Config.{Config}
use Rattle.cell_config.specs.Rules.{document_of, least_broken}
use Rattle.cell_config.specs.Said.{config_of}
use Rattle.cell_record.specs.Words.{content, is_long}
use Rattle.cell_record.specs.EventLine.{said_of}
use Rattle.cell_record.specs.Recording.{header_of, in_text, onto, ms_in, octets_in}
use Rattle.cell_record.specs.declared.said.LineMeaning.{LineMeaning}
use Rattle.cell_record.specs.declared.said.LineMeaning.TheVariants.{Nothing, Phase, Happens}

-- none of the configuration's lines is too long, and none is `end`
abbrev pub AreShort : List (List ℕ) → Type 0
AreShort [] = Unit {0}
AreShort (line ∷ lines) = (is_long line ≡ false) × (content line ≢ codes "end") × AreShort lines

-- the configuration's text: each line with one line feed
abbrev pub text_of : List (List ℕ) → List ℕ
text_of [] = []
text_of (line ∷ lines) = in_text line ++ text_of lines

-- each event line says this
abbrev pub Says : Config → List (List ℕ) → List LineMeaning → Type 0
Says config [] [] = Unit {0}
Says config (line ∷ lines) (said ∷ more) = (said_of config (content line) ≡ Ok said)
    × Says config lines more
Says config lines said = ⊥

-- a line `phase` stands between two phases
abbrev pub phases_of : List LineMeaning → List (List CellEvent)
phases_of [] = [] ∷ []
phases_of (Nothing ∷ rest) = phases_of rest
phases_of (Phase ∷ rest) = [] ∷ phases_of rest
phases_of (Happens event ∷ rest) = onto event (phases_of rest)

-- the octets of a phase's PDUs
abbrev pub pdu_octets : List CellEvent → ℕ
pdu_octets [] = 0
pdu_octets (event ∷ rest) = octets_in event + pdu_octets rest

-- the milliseconds that go by in a phase
abbrev pub phase_ms : List CellEvent → ℕ
phase_ms [] = 0
phase_ms (event ∷ rest) = ms_in event + phase_ms rest

-- the milliseconds that go by in all phases
abbrev pub all_ms : List (List CellEvent) → ℕ
all_ms [] = 0
all_ms (phase ∷ rest) = phase_ms phase + all_ms rest

-- no phase has more than 16,384 events and 67,108,864 octets of PDUs, where so much stands before
-- the first of these
abbrev pub AreFew : ℕ → ℕ → List (List CellEvent) → Type 0
AreFew events octets [] = Unit {0}
AreFew events octets (phase ∷ rest) = (events + length phase ≤ 16384)
    × (octets + pdu_octets phase ≤ 67108864) × AreFew 0 0 rest

-- a text that is a recording, its configuration and its phases
pub record ReadsRecording (text : List ℕ) (configured : Config)
    (phases : List (List CellEvent)) : Type 0 where
  pub header : List ℕ
  pub config : List ℕ
  pub setup : List (List ℕ)
  pub last : List ℕ
  pub body : List (List ℕ)
  pub said : List LineMeaning
  pub lines : lines_of text ≡ header ∷ config ∷ (setup ++ last ∷ body)
  pub is_header : header_of (content header) ≡ Some configured.edition
  pub is_config : content config ≡ codes "config"
  pub short : AreShort setup
  pub small : length (text_of setup) ≤ 1048576
  pub rules : least_broken configured.edition (text_of setup) ≡ None
  pub says : option_map (config_of configured.edition) (document_of (text_of setup))
      ≡ Some configured
  pub is_end : content last ≡ codes "end"
  pub each : Says configured body said
  pub split : phases ≡ phases_of said
  pub few : AreFew 0 0 phases
  pub clock : configured.start.0 + all_ms phases ≤ 5662310399999
  pub size : length text ≤ 4294967296
