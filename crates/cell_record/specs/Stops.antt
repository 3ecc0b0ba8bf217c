-- What was read of a text when its source failed.
use Rattle.std.specs.Prelude.{◌≡◌, ℕ, ◌+◌, ◌≤◌, false, List, [], ◌∷◌, ◌++◌, length, Some, None, Err}
use Rattle.std.specs.Prelude.{IfSome}
use Rattle.std.specs.Io.KnownBytes.{Consumes}
use Rattle.std.specs.declared.option.Option.{Option}
use Rattle.cell_io.specs.Lines.{lines_of, whole_lines}
use Rattle.cell_io.specs.Held.{Held, ahead, IsLaterPart}
use Rattle.mms_types.specs.declared.event.CellEvent.{CellEvent}
use Rattle.cell_config.specs.declared.config.Config.{Config}
use Rattle.cell_record.specs.Recording.{Place, Opening, Reading, opening_of_text, config_of_text}
use Rattle.cell_record.specs.Recording.{reading_of_text}
use Rattle.cell_record.specs.declared.refusal.BadWord.{BadWord}
use Rattle.cell_record.specs.declared.refusal.RecordError.TheVariants.{Bad}

-- the lines of octets that were read whole: a last one without its line feed isn't
abbrev pub lines_in : List ℕ → List (List ℕ)
lines_in octets = lines_of (whole_lines octets)

-- of a text all but its end `tail` was read, up to the place `end`, and its whole lines say `r`
-- from the place `p` on
pub record ReadsTo {T : Type 0} (f : List (List ℕ) → Place → T) (p : Place) (text tail : List ℕ)
    (end : Place) (r : T) : Type 0 where
  pub octets : List ℕ
  pub parts : text ≡ octets ++ tail
  pub size : p.octets + length octets ≡ end.octets
  pub count : p.lines + length (lines_in octets) ≡ end.lines
  pub says : f (lines_in octets) p ≡ r

-- the source fails with so much left, and the whole lines that were read of what is ahead say `r`
pub record Stops {T : Type 0} (f : List (List ℕ) → Place → T) (held : Held) (p : Place)
    (left last : Option (List ℕ)) (end : Place) (r : T) : Type 0 where
  pub unended : held.ended ≡ false
  pub reads : (tail : List ℕ) → last ≡ Some tail
      → IfSome (ahead held left) (λ text. ReadsTo f p text tail end r)

-- wherever the source fails later, what is said by the whole lines up to there is what `g` makes of
-- what they say behind this place
abbrev pub Leads : {T : Type 0} → (List (List ℕ) → Place → T) → Held → Place → Option (List ℕ)
    → (T → T) → (List (List ℕ) → Place → T) → Held → Place → Option (List ℕ) → Type 0
Leads {T} f held p left g f' held' p' left' = (last : Option (List ℕ)) (end : Place) (r : T)
    → Stops f' held' p' left' last end r → Stops f held p left last end (g r)

-- the source failed in the lines up to `end`: none of those that were read is refused
pub record StopsOpening (f : List (List ℕ) → Place → Opening) (held : Held) (p : Place)
    (left last : Option (List ℕ)) : Type 0 where
  pub end : Place
  pub word : BadWord
  pub most : end.octets ≤ 4294967296
  pub stops : Stops f held p left last end (Err (Bad (end.lines + 1) word))

-- the source failed in a phase, of which these events were read: no line of it is refused
pub record StopsInPhase (f : List (List ℕ) → Place → Reading) (held : Held) (p : Place)
    (left last : Option (List ℕ)) : Type 0 where
  pub end : Place
  pub events : List CellEvent
  pub most : end.octets ≤ 4294967296
  pub stops : Stops f held p left last end (record { phases = events ∷ []; refusal = None })

-- ---- a whole text

-- of a text so much was read when its source failed
pub record IsRead (text : List ℕ) (last : Option (List ℕ)) (octets : List ℕ) : Type 0 where
  pub consumed : Consumes (Some text) last octets
  pub most : length octets ≤ 4294967296

-- the source failed in the lines up to `end`: what was read lacks but the next line
pub record IsCutInOpening (text : List ℕ) (last : Option (List ℕ)) : Type 0 where
  pub octets : List ℕ
  pub read : IsRead text last octets
  pub word : BadWord
  pub says : opening_of_text (whole_lines octets) ≡ Err (Bad (length (lines_in octets) + 1) word)

-- the source failed with so much left, where the whole lines that were read tell this configuration
-- and say `r`
pub record ReadsText (text : List ℕ) (last : Option (List ℕ)) (config : Config) (end : Place)
    (r : Reading) : Type 0 where
  pub octets : List ℕ
  pub consumed : Consumes (Some text) last octets
  pub size : length octets ≡ end.octets
  pub tells : config_of_text (whole_lines octets) ≡ Some config
  pub says : reading_of_text (whole_lines octets) ≡ r

-- wherever the source fails later, the whole lines up to there tell this configuration, and say
-- what they say behind this place
abbrev pub LeadsText : Option (List ℕ) → Config → (List (List ℕ) → Place → Reading) → Held → Place
    → Option (List ℕ) → Type 0
LeadsText left config f held p now = (last : Option (List ℕ)) (end : Place) (r : Reading)
    → IsLaterPart now last → Stops f held p now last end r
    → IfSome left (λ text. ReadsText text last config end r)
