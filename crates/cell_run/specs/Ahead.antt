-- What is read of a recording while a phase is served, and what is written meanwhile: the words of
-- clauses inside the crate.
use Rattle.std.specs.Prelude.{◌≡◌, ◌≢◌, ◌≤◌, ◌<◌, ◌^◌, ℕ, ◌+◌, true, List, [], length, None, Some}
use Rattle.std.specs.Prelude.{IfSome, IfErr, OnOk, OnErr, Result}
use Rattle.std.specs.Io.KnownBytes.{Appends}
use Rattle.std.specs.List.{All}
use Rattle.std.specs.declared.option.Option.{Option}
use Rattle.cell_io.specs.Faults.{Rose, SteadyBut}
use Rattle.cell_io.specs.Held.{IsEndSeen, IsLaterPart}
use Rattle.cell_io.specs.Prefix.{AppendsPrefix}
use Rattle.cell_io.specs.declared.want.WriteError.{WriteError}
use Rattle.cell_io.specs.declared.want.WriteError.TheVariants.{Fault}
use Rattle.cell_record.specs.EventLine.{IsRecorded}
use Rattle.cell_record.specs.Grammar.{phase_ms}
use Rattle.cell_record.specs.Progress.{Becomes, IsStated, Progress, place_of, rest_in, rest_of}
use Rattle.cell_record.specs.Recording.{with_phase}
use Rattle.cell_record.specs.Report.{phase_text}
use Rattle.cell_record.specs.Stops.{Leads, StopsInPhase}
use Rattle.cell_record.specs.declared.recording.Phase.{Phase}
use Rattle.cell_record.specs.declared.refusal.RecordError.{RecordError}
use Rattle.cell_record.specs.declared.refusal.RecordError.TheVariants.{ReadFault}
use Rattle.cell_record.specs.declared.told.Told.{Told}
use Rattle.cell_run.specs.Ending.{Seen}
use Rattle.cell_run.specs.declared.workers.Next.{Next}
use Rattle.cell_run.specs.declared.workers.Next.TheVariants as next

-- what is still to be written of a phase that was served, if there is one
abbrev pub text_told : Option Told → List ℕ
text_told None = []
text_told (Some t) = phase_text t.number t.served t.outputs

-- it was written whole, or else a prefix of it: one fault of the sink is counted where it is told
pub record Writes {T : Type 0} (text : List ℕ) (out after : Seen) (result : Result T WriteError)
    : Type 0 where
  pub whole : OnOk result (Appends out.octets after.octets text)
  pub part : OnErr result (AppendsPrefix out.octets after.octets text)
  pub cause : IfErr result (λ e. e ≡ Fault → Rose out.faults after.faults)
  pub steady : SteadyBut Fault out.faults after.faults result

-- a phase was read: it is the first of what a recording that was read up to here, with so much left
-- of the source, still says
pub record ReadsPhase (p : Progress) (left : Option (List ℕ)) (phase : Phase)
    (q : Progress) (rest : Option (List ℕ)) : Type 0 where
  pub first : Becomes (rest_of p left) (with_phase phase.events) (rest_of q rest)
  pub leads : Leads (rest_in p) p.held (place_of p) left (with_phase phase.events)
      (rest_in q) q.held (place_of q) rest
  pub over : q.over ≡ true → q.held.ended ≡ true
  pub number : (phase.number ≡ p.number + 1) × (q.number ≡ phase.number)
      × (phase.number < 2 ^ 32)
  pub recorded : All (IsRecorded q.config) phase.events
  pub few : length phase.events ≤ 16384
  pub lines : p.held.given + length phase.events ≤ q.held.given
  pub most : q.held.given ≤ 4294967296
  pub moment : q.moment ≡ p.moment + phase_ms phase.events
  pub unrefused : q.refusal ≡ None

-- what is read says so: the end, or a refusal that the text itself states
abbrev pub IsSaid : Option RecordError → Type 0
IsSaid None = Unit {0}
IsSaid (Some e) = IsStated e

-- no more phases come, for this reason
pub record ReadsEnd (p : Progress) (left : Option (List ℕ)) (faults : ℕ)
    (refusal : Option RecordError) (rest : Option (List ℕ)) (counted : ℕ) : Type 0 where
  pub said : IsSaid refusal
      → IfSome (rest_of p left) (λ r. r ≡ record { phases = []; refusal = refusal })
  pub ended : refusal ≡ None → (p.over ≡ true) × (rest ≡ left)
  pub stops : refusal ≡ Some ReadFault → p.refusal ≡ None
      → StopsInPhase (rest_in p) p.held (place_of p) left rest
  pub fault : refusal ≡ Some ReadFault → p.refusal ≡ None → Rose faults counted
  pub steady : refusal ≢ Some ReadFault → counted ≡ faults

abbrev pub Comes : Progress → Option (List ℕ) → ℕ → Next
    → Progress → Option (List ℕ) → ℕ → Type 0
Comes p left faults (next.Phase phase) q rest counted =
    ReadsPhase p left phase q rest × (counted ≡ faults)
Comes p left faults (next.End refusal) q rest counted = ReadsEnd p left faults refusal rest counted

-- what was read next
pub record HasRead (p : Progress) (left : Option (List ℕ)) (faults : ℕ) (next : Next)
    (q : Progress) (rest : Option (List ℕ)) (counted : ℕ) : Type 0 where
  pub comes : Comes p left faults next q rest counted
  pub config : q.config ≡ p.config
  pub dated : q.moment ≤ 5662310399999
  pub seen : IsEndSeen p.held left → IsEndSeen q.held rest
  pub later : IsLaterPart left rest
