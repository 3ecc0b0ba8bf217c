-- What is still to be read of a recording, and what a step of the reading leaves to be read
-- (this profile's choice).
use Rattle.std.specs.Prelude.{◌≡◌, ◌+◌, ◌<◌, ◌≤◌, ◌^◌, ℕ, true, false, List, length, All, Result}
use Rattle.std.specs.Prelude.{Some, Err, IfSome}
use Rattle.std.specs.Option.{option_map}
use Rattle.std.specs.declared.option.Option.{Option}
use Rattle.cell_io.specs.Faults.{CountsFaultAs}
use Rattle.cell_io.specs.Lines.{lines_of}
use Rattle.cell_io.specs.Held.{Held, ahead, IsEndSeen, IsLaterPart}
use Rattle.mms_types.specs.declared.event.CellEvent.{CellEvent}
use Rattle.cell_config.specs.declared.config.Config.{Config}
use Rattle.cell_config.specs.Said.{IsConfig}
use Rattle.cell_record.specs.EventLine.{IsRecorded}
use Rattle.cell_record.specs.Grammar.{phase_ms}
use Rattle.cell_record.specs.Recording.{Place, Opening, Reading, config_of_text, opened}
use Rattle.cell_record.specs.Recording.{opening_of_text, reading_of_text, refused, with_phase}
use Rattle.cell_record.specs.Numbered.{Numbered, place_at}
use Rattle.cell_record.specs.Progress.{Progress, place_of, rest_in, rest_of, Becomes, IsStated}
use Rattle.cell_record.specs.Stops.{IsCutInOpening, Leads, LeadsText, StopsOpening, StopsInPhase}
use Rattle.cell_record.specs.declared.refusal.RecordError.{RecordError}
use Rattle.cell_record.specs.declared.refusal.RecordError.TheVariants.{ReadFault}

-- what lines say from here on, what the reader of lines holds, where it stands, and what is left in
-- its source
pub record ToRead (T : Type 0) : Type 0 where
  pub says : List (List ℕ) → Place → T
  pub held : Held
  pub place : Place
  pub left : Option (List ℕ)

-- what is said of all that is still to be read, where the source tells what is left
abbrev pub still_said : {T : Type 0} → ToRead T → Option T
still_said a = option_map (λ text. a.says (lines_of text) a.place) (ahead a.held a.left)

-- behind the lines that a reader gave
abbrev pub to_read : {T : Type 0} → (List (List ℕ) → Place → T) → Numbered → Option (List ℕ)
    → ToRead T
to_read says n left = record { says = says; held = n.held; place = place_at n; left = left }

-- behind the phases that a recording gave
abbrev pub rest_to_read : Progress → Option (List ℕ) → ToRead Reading
rest_to_read p left = record { says = rest_in p; held = p.held; place = place_of p; left = left }

-- what is said here is what `g` makes of what is said there: of all lines, and of the whole lines
-- up to wherever the source fails later
pub record Follows {T : Type 0} (here : ToRead T) (g : T → T) (there : ToRead T) : Type 0 where
  pub says : Becomes (still_said here) g (still_said there)
  pub leads : Leads here.says here.held here.place here.left g
      there.says there.held there.place there.left

-- why the lines up to `end` aren't all read: that is what is said, or the source failed and no line
-- that was read is refused
pub record FailsInOpening (here : ToRead Opening) (e : RecordError)
    (last : Option (List ℕ)) : Type 0 where
  pub refused : IsStated e → IfSome (still_said here) (λ r. r ≡ Err e)
  pub stops : e ≡ ReadFault → StopsOpening here.says here.held here.place here.left last

-- why a phase isn't read to its end: that is what is said next, or the source failed and no line
-- that was read is refused
pub record FailsInPhase (here : ToRead Reading) (e : RecordError)
    (last : Option (List ℕ)) : Type 0 where
  pub refused : IsStated e → IfSome (still_said here) (λ r. r ≡ refused e)
  pub stops : e ≡ ReadFault → StopsInPhase here.says here.held here.place here.left last

-- one fault more is counted exactly where it is told
abbrev pub CountsFaults : {T : Type 0} → ℕ → ℕ → Result T RecordError → Type 0
CountsFaults before now result = CountsFaultAs ReadFault before now result

-- the next phase was read: its events are the first of what is still said, each stands in a line of
-- its own, and the moment goes on with its ticks
pub record IsNextPhase (config : Config) (events : List CellEvent) (here : ToRead Reading)
    (start : ℕ) (there : ToRead Reading) (end : ℕ) : Type 0 where
  pub phase : Follows here (with_phase events) there
  pub recorded : All (IsRecorded config) events
  pub few : length events ≤ 16384
  pub lines : here.held.given + length events ≤ there.held.given
  pub most : there.held.given ≤ 4294967296
  pub moment : end ≡ start + phase_ms events

-- ---- a recording that is being read

-- the phase of this number, with these events, is the next; where it is the last, the end of the
-- source was seen
pub record GivesPhase (n : ℕ) (events : List CellEvent) (old : Progress) (before : Option (List ℕ))
    (new : Progress) (after : Option (List ℕ)) : Type 0 where
  pub phase : IsNextPhase new.config events (rest_to_read old before) old.moment
      (rest_to_read new after) new.moment
  pub more : old.over ≡ false
  pub ended : new.over ≡ true → new.held.ended ≡ true
  pub number : (n ≡ old.number + 1) × (new.number ≡ n) × (n < 2 ^ 32)

-- the configuration stays, the moment passes no last one, and what is left of the source is a later
-- part of it
pub record GoesFurther (old : Progress) (before : Option (List ℕ)) (new : Progress)
    (after : Option (List ℕ)) : Type 0 where
  pub config : new.config ≡ old.config
  pub dated : new.moment ≤ 5662310399999
  pub seen : IsEndSeen old.held before → IsEndSeen new.held after
  pub left : IsLaterPart before after

-- the text of a source has lines up to `end` that tell the configuration, and says the phases that
-- are ahead behind them
pub record IsOpened (text : Option (List ℕ)) (r : Progress) (left : Option (List ℕ)) : Type 0 where
  pub opens : Becomes (option_map opening_of_text text) (λ o. o)
      (option_map (λ octets. opened r.config (lines_of octets) (place_of r)) (ahead r.held left))
  pub begins : Becomes (option_map reading_of_text text) (λ s. s) (rest_of r left)
  pub leads : LeadsText text r.config (rest_in r) r.held (place_of r) left
  pub tells : IfSome text (λ octets. config_of_text octets ≡ Some r.config)
  pub config : IsConfig r.config
  pub seen : IsEndSeen r.held left

-- why the lines up to `end` of a source's text aren't all read: the text is refused so, or the
-- source failed and lacks but the next line
pub record FailsToOpen (text : Option (List ℕ)) (e : RecordError)
    (last : Option (List ℕ)) : Type 0 where
  pub refused : IsStated e → IfSome text (λ octets. opening_of_text octets ≡ Err e)
  pub stops : e ≡ ReadFault → IfSome text (λ octets. IsCutInOpening octets last)
