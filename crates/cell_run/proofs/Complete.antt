-- A recording that no fault hinders is served and reported.
use Rattle.std.proofs.Common.{◌≡◌, ◌⊎◌, inl, inr, ℕ, List, ap, subst, refl, ◌∙◌, Some, None, IfSome, append-nil, ◌++◌, Ok, Err}
use Rattle.std.specs.declared.option.Option.{Option}
use Rattle.std.specs.Io.KnownBytes.{Appends}
use Rattle.mms_types.specs.declared.event.CellEvent.{CellEvent}
use Rattle.cell_config.specs.declared.config.Config.{Config}
use Rattle.cell_record.specs.Grammar.{ReadsRecording}
use Rattle.cell_record.specs.History.{Interleaves}
use Rattle.cell_record.specs.Recording.{Reading, Opening, config_in, after_opening, opening_of_text}
use Rattle.cell_record.proofs.Valid.{recording_is_read}
use Rattle.cell_words.specs.declared.words.Command.{Command}
use Rattle.cell_run.specs.Bodies.{Serves}
use Rattle.cell_run.specs.declared.status.Status.{Status}
use Rattle.cell_run.specs.declared.status.Status.TheVariants as status
use Rattle.cell_run.specs.Outcome.{Completes, IsFinal, PrintsBy, WritesAll, last_line, report_of, status_of, status_for}

-- what is promised of a text
abbrev pub Promise : Command → Status → Option (List ℕ) → Option (List ℕ) → Type 0 → Type 0 → List ℕ → Type 0
Promise command s a b R K text =
    (config : Config) (phases : List (List CellEvent)) → ReadsRecording text config phases → (R → ⊥) → (K → ⊥) → (s ≡ status.Memory) ⊎ ((s ≡ status.Done) × Completes command config phases a b)

is_done : (text : List ℕ) (config : Config) (phases : List (List CellEvent)) → ReadsRecording text config phases → status_of text ≡ status.Done
is_done text config phases r = ap (λ (y : Reading). status_for y.refusal) (recording_is_read text config phases r).1

-- what is printed of a recording is the report of bodies that serve its phases
report_so : (command : Command) (config : Config) (phases : List (List CellEvent)) (opening : Opening) (printed : List ℕ) (a b : Option (List ℕ)) → config_in opening ≡ Some config
    → after_opening opening ≡ record { phases = phases; refusal = None } → PrintsBy command opening printed → Appends a b printed → Completes command config phases a b
report_so command config phases (Err e) printed a b is said p w = absurd (cc is)
report_so command config phases (Ok o) printed a b is said p w =
    let same : o.config ≡ config = cc is in
    let all = ap (λ (r : Reading). r.phases) said in
    let whole : printed ≡ report_of config p.bodies = p.is ∙ ap (λ (r : Reading). report_of o.config p.bodies ++ last_line r.refusal) said ∙ append-nil (report_of o.config p.bodies) ∙ ap (λ (x : Config). report_of x p.bodies) same in
    record {
      bodies = p.bodies;
      interleave = subst (Interleaves p.bodies) all p.interleave;
      serve = subst (Serves command p.bodies) all p.serve;
      written = subst (Appends a b) whole w;
    }

reported : (command : Command) (text : List ℕ) (config : Config) (phases : List (List CellEvent)) (a b : Option (List ℕ)) → ReadsRecording text config phases → WritesAll command text a b → Completes command config phases a b
reported command text config phases a b r w =
    let read = recording_is_read text config phases r in report_so command config phases (opening_of_text text) w.printed a b read.0 read.1 w.prints w.written

pub completes : (command : Command) (s : Status) (left a b : Option (List ℕ)) (R K : Type 0) → (IsFinal s → IfSome left (λ text. (s ≡ status_of text) × WritesAll command text a b))
    → (s ≡ status.ReadFault → R) → (s ≡ status.WriteFault → K) → (s ≡ status.Usage → ⊥) → IfSome left (Promise command s a b R K)
completes command s None a b R K stated read write usage = tt
completes command status.Done (Some text) a b R K stated read write usage = λ config phases r nr nk. inr (refl, reported command text config phases a b r (stated tt).1)
completes command status.Memory (Some text) a b R K stated read write usage = λ config phases r nr nk. inl refl
completes command status.ReadFault (Some text) a b R K stated read write usage = λ config phases r nr nk. absurd (nr (read refl))
completes command status.WriteFault (Some text) a b R K stated read write usage = λ config phases r nr nk. absurd (nk (write refl))
completes command status.Usage (Some text) a b R K stated read write usage = λ config phases r nr nk. absurd (usage refl)
completes command status.Bad (Some text) a b R K stated read write usage = λ config phases r nr nk. let e = (stated tt).0 ∙ is_done text config phases r in cc
completes command status.BadConfig (Some text) a b R K stated read write usage = λ config phases r nr nk. let e = (stated tt).0 ∙ is_done text config phases r in cc
completes command status.TooMuch (Some text) a b R K stated read write usage = λ config phases r nr nk. let e = (stated tt).0 ∙ is_done text config phases r in cc
