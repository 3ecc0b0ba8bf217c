-- What is read and written while a phase is served.
use Rattle.std.proofs.Common.{◌≡◌, ◌≤◌, ◌⊎◌, inl, inr, ℕ, ◌+◌, true, false, List, [], ◌∷◌, ◌++◌, length, ap, subst, refl, sym, ◌∙◌, append_assoc, append-nil, None, Some, IfSome, arith}
use Rattle.std.specs.List.{All}
use Rattle.std.specs.declared.option.Option.{Option}
use Rattle.std.specs.Io.KnownBytes.{Appends}
use Rattle.std.proofs.KnownBytes.{Appends-trans, Consumes-nil}
use Rattle.cell_io.specs.Faults.{Rose}
use Rattle.cell_io.specs.Held.{IsEndSeen, IsLaterPart}
use Rattle.cell_io.specs.Prefix.{AppendsBefore, AppendsPrefix}
use Rattle.cell_io.specs.declared.want.WriteError.{WriteError}
use Rattle.cell_io.specs.declared.want.WriteError.TheVariants as write
use Rattle.mms_types.specs.declared.event.CellEvent.{CellEvent}
use Rattle.cell_config.specs.declared.config.Config.{Config}
use Rattle.cell_record.specs.EventLine.{IsRecorded}
use Rattle.cell_record.specs.Grammar.{all_ms}
use Rattle.cell_record.specs.History.{Interleaves, history}
use Rattle.cell_record.specs.Progress.{Becomes, Progress, place_of, rest_in, rest_of}
use Rattle.cell_record.specs.Recording.{Reading, with_phase}
use Rattle.cell_record.specs.Stops.{Leads}
use Rattle.cell_record.specs.declared.recording.Phase.{Phase}
use Rattle.cell_record.specs.declared.refusal.RecordError.{RecordError}
use Rattle.cell_record.specs.declared.refusal.RecordError.TheVariants.{Bad, BadConfig, TooMuch, ReadFault, Memory}
use Rattle.cell_record.proofs.Readings.{then}
use Rattle.cell_words.specs.declared.words.Command.{Command}
use Rattle.cell_run.specs.Ahead.{HasRead, IsSaid, ReadsEnd, ReadsPhase}
use Rattle.cell_run.specs.Bodies.{Serves}
use Rattle.cell_run.specs.Outcome.{IsFinal, last_line, report_of, status_for}
use Rattle.cell_run.specs.Running.{HasRun, MayRun, size_of}
use Rattle.cell_run.specs.Serving.{WritesAllOf, WritesSomeOf, body_text}
use Rattle.cell_run.specs.declared.crew.Crew.{Crew}
use Rattle.cell_run.specs.declared.status.Status.{Status}
use Rattle.cell_run.specs.declared.status.Status.TheVariants as status
use Rattle.cell_run.specs.declared.workers.Next.{Next}
use Rattle.cell_run.specs.declared.workers.Next.TheVariants as next
use Rattle.cell_run.proofs.Fronts.{with_phases, phases-then, later_then, leads_phases}
use Rattle.cell_run.proofs.Phases.{all_ms-append, all_told, line_told, longer_part, size-append, some_of, told_so}

-- ---- what is still to be written

-- the rest is written
pub then_whole : (out0 out1 out2 : Option (List ℕ)) (owed line report : List ℕ) → AppendsBefore out0 out1 owed report → Appends out1 out2 (owed ++ line) → Appends out0 out2 (report ++ line)
then_whole out0 out1 out2 owed line report p q =
    subst (Appends out0 out2) (sym (append_assoc p.written owed line) ∙ ap (λ (l : List ℕ). l ++ line) (sym p.parts)) (Appends-trans out0 out1 out2 p.written (owed ++ line) p.appended q)

pub then_told : (out0 out1 out2 : Option (List ℕ)) (owed report : List ℕ) → AppendsBefore out0 out1 owed report → Appends out1 out2 owed → Appends out0 out2 report
then_told out0 out1 out2 owed report p q = subst (Appends out0 out2) (sym p.parts) (Appends-trans out0 out1 out2 p.written owed p.appended q)

-- or a prefix of it
pub then_part : (out0 out1 out2 : Option (List ℕ)) (owed line report : List ℕ) → AppendsBefore out0 out1 owed report → AppendsPrefix out1 out2 (owed ++ line) → AppendsPrefix out0 out2 (report ++ line)
then_part out0 out1 out2 owed line report p q =
    subst (AppendsPrefix out0 out2) (sym (append_assoc p.written owed line) ∙ ap (λ (l : List ℕ). l ++ line) (sym p.parts)) (longer_part out0 out1 out2 p.written (owed ++ line) p.appended q)

pub then_some : (out0 out1 out2 : Option (List ℕ)) (owed report : List ℕ) → AppendsBefore out0 out1 owed report → AppendsPrefix out1 out2 owed → AppendsPrefix out0 out2 report
then_some out0 out1 out2 owed report p q = subst (AppendsPrefix out0 out2) (sym p.parts) (longer_part out0 out1 out2 p.written owed p.appended q)

-- nothing more is written
pub so_far : (out0 out1 : Option (List ℕ)) (owed report : List ℕ) → AppendsBefore out0 out1 owed report → AppendsPrefix out0 out1 report
so_far out0 out1 owed report p = record { written = p.written; rest = owed; appended = p.appended; parts = p.parts }

-- a phase more was served, and isn't written yet
pub owes : (config : Config) (bodies : List (List CellEvent)) (number : ℕ) (body : List CellEvent) (text : List ℕ) (out0 out1 : Option (List ℕ)) → text ≡ body_text config number (history config.clients bodies) body
    → number ≡ 1 + length bodies → Appends out0 out1 (report_of config bodies) → AppendsBefore out0 out1 text (report_of config (bodies ++ body ∷ []))
owes config bodies number body text out0 out1 e n p = record { written = report_of config bodies; appended = p; parts = sym (told_so config bodies number body text e n) }

-- want of memory is no fault
pub memory_no_fault : (e : WriteError) → e ≡ write.Memory → e ≡ write.Fault → ⊥
memory_no_fault e memory fault = cc (memory, fault)

-- ---- the end

said_final : (s : Status) (o : Option RecordError) → s ≡ status_for o → IsFinal s → IsSaid o
said_final s None is final = tt
said_final s (Some (Bad line word)) is final = tt
said_final s (Some (BadConfig rule)) is final = tt
said_final s (Some (TooMuch line)) is final = tt
said_final s (Some ReadFault) is final = subst IsFinal is final
said_final s (Some Memory) is final = subst IsFinal is final

-- all was written, with its status
pub end_all : (command : Command) (config : Config) (s : Status) (rest0 restn : Option Reading) (phases bodies : List (List CellEvent)) (o : Option RecordError) (out0 out1 out2 : Option (List ℕ)) (owed : List ℕ)
    → Becomes rest0 (with_phases phases) restn → (IsSaid o → IfSome restn (λ r. r ≡ record { phases = []; refusal = o })) → Interleaves bodies phases × Serves command bodies phases
    → AppendsBefore out0 out1 owed (report_of config bodies) → (IsFinal s → (s ≡ status_for o) × Appends out1 out2 (owed ++ last_line o)) → IsFinal s
    → IfSome rest0 (λ r. (s ≡ status_for r.refusal) × WritesAllOf command config r out0 out2)
end_all command config s rest0 restn phases bodies o out0 out1 out2 owed b h serve p q final =
    let line = q final in
    all_told command config s rest0 restn phases bodies o out0 out2 b (h (said_final s o line.0 final)) line.0 serve (then_whole out0 out1 out2 owed (last_line o) (report_of config bodies) p line.1)

-- a prefix of it was written
pub end_some : (command : Command) (config : Config) (rest0 restn : Option Reading) (phases bodies : List (List CellEvent)) (o : Option RecordError) (out0 out1 out2 : Option (List ℕ)) (owed : List ℕ)
    → Becomes rest0 (with_phases phases) restn → (IsSaid o → IfSome restn (λ r. r ≡ record { phases = []; refusal = o })) → Interleaves bodies phases × Serves command bodies phases
    → AppendsBefore out0 out1 owed (report_of config bodies) → AppendsPrefix out1 out2 (owed ++ last_line o) → IfSome rest0 (λ r. WritesSomeOf command config r out0 out2)
end_some command config rest0 restn phases bodies o out0 out1 out2 owed b h serve p q = by_cause o h (then_part out0 out1 out2 owed (last_line o) (report_of config bodies) p q)
  where
    by_cause : (o : Option RecordError) → (IsSaid o → IfSome restn (λ r. r ≡ record { phases = []; refusal = o })) → AppendsPrefix out0 out2 (report_of config bodies ++ last_line o)
        → IfSome rest0 (λ r. WritesSomeOf command config r out0 out2)
    by_cause None h q = line_told command config rest0 restn phases bodies None out0 out2 b (h tt) serve q
    by_cause (Some (Bad line word)) h q = line_told command config rest0 restn phases bodies (Some (Bad line word)) out0 out2 b (h tt) serve q
    by_cause (Some (BadConfig rule)) h q = line_told command config rest0 restn phases bodies (Some (BadConfig rule)) out0 out2 b (h tt) serve q
    by_cause (Some (TooMuch line)) h q = line_told command config rest0 restn phases bodies (Some (TooMuch line)) out0 out2 b (h tt) serve q
    by_cause (Some ReadFault) h q = some_of command config rest0 restn phases bodies out0 out2 b serve (subst (AppendsPrefix out0 out2) (append-nil (report_of config bodies)) q)
    by_cause (Some Memory) h q = some_of command config rest0 restn phases bodies out0 out2 b serve (subst (AppendsPrefix out0 out2) (append-nil (report_of config bodies)) q)

-- a status that what was read decides, or the end, tells no fault
pub unfailed_end : (p : Progress) (left rest : Option (List ℕ)) (faults counted : ℕ) (s : Status) (o : Option RecordError) → ReadsEnd p left faults o rest counted → IsFinal s → s ≡ status_for o → counted ≡ faults
unfailed_end p left rest faults counted s o h final is = h.steady (λ at. subst IsFinal (is ∙ ap status_for at) final)

-- one fault at most is counted there
pub once_end : (p : Progress) (left rest : Option (List ℕ)) (faults counted : ℕ) (o : Option RecordError) → ReadsEnd p left faults o rest counted → p.refusal ≡ None → (counted ≡ faults) ⊎ Rose faults counted
once_end p left rest faults counted None h none = inl (h.steady (λ e. cc))
once_end p left rest faults counted (Some (Bad line word)) h none = inl (h.steady (λ e. cc))
once_end p left rest faults counted (Some (BadConfig rule)) h none = inl (h.steady (λ e. cc))
once_end p left rest faults counted (Some (TooMuch line)) h none = inl (h.steady (λ e. cc))
once_end p left rest faults counted (Some Memory) h none = inl (h.steady (λ e. cc))
once_end p left rest faults counted (Some ReadFault) h none = inr (h.fault refl none)

-- the end alone is done
pub done_end : (s : Status) (o : Option RecordError) → s ≡ status.Done → s ≡ status_for o → o ≡ None
done_end s None done is = refl
done_end s (Some (Bad line word)) done is = absurd (cc (done, is))
done_end s (Some (BadConfig rule)) done is = absurd (cc (done, is))
done_end s (Some (TooMuch line)) done is = absurd (cc (done, is))
done_end s (Some ReadFault) done is = absurd (cc (done, is))
done_end s (Some Memory) done is = absurd (cc (done, is))

-- ---- what was read

-- one fault at most is counted by a reading
pub once_read : (p q : Progress) (left rest : Option (List ℕ)) (faults counted : ℕ) (n : Next) → HasRead p left faults n q rest counted → p.refusal ≡ None → (counted ≡ faults) ⊎ Rose faults counted
once_read p q left rest faults counted (next.Phase phase) h none = inl h.comes.1
once_read p q left rest faults counted (next.End o) h none = once_end p left rest faults counted o h.comes none

-- The place before the last reading: what was read of the recording up to there, of which the phases were served, and what is still said behind it.
pub record Behind (first : Progress) (start : Option (List ℕ)) (phases : List (List CellEvent)) (turn : ℕ) (p : Progress) (left : Option (List ℕ)) : Type 0 where
  pub becomes : Becomes (rest_of first start) (with_phases phases) (rest_of p left)
  pub leads : Leads (rest_in first) first.held (place_of first) start (with_phases phases) (rest_in p) p.held (place_of p) left
  pub moment : p.moment ≡ first.config.start.0 + all_ms phases
  pub size : size_of phases ≤ p.held.given
  pub refusal : p.refusal ≡ None
  pub config : p.config ≡ first.config
  pub over : p.over ≡ true → p.held.ended ≡ true
  pub seen : IsEndSeen p.held left
  pub later : IsLaterPart start left
  pub number : p.number ≡ turn

-- no phase yet
pub behind_none : (p : Progress) (left : Option (List ℕ)) → p.moment ≡ p.config.start.0 → p.number ≡ 0 → p.over ≡ false → p.refusal ≡ None → IsEndSeen p.held left → Behind p left [] 0 p left
behind_none p left moment number over refusal seen = record {
  becomes = same (rest_of p left);
  leads = λ last end r s. s;
  moment = omega (arith, moment);
  size = omega arith;
  refusal = refusal;
  config = refl;
  over = λ e. absurd (cc (e, over));
  seen = seen;
  later = ([], Consumes-nil left);
  number = number;
}
  where
    same : (o : Option Reading) → Becomes o (with_phases []) o
    same None = tt
    same (Some r) = refl

-- a phase more
pub behind_more : (first p q : Progress) (start left rest : Option (List ℕ)) (phases : List (List CellEvent)) (turn faults counted : ℕ) (phase : Phase) → Behind first start phases turn p left
    → ReadsPhase p left phase q rest → HasRead p left faults (next.Phase phase) q rest counted → Behind first start (phases ++ phase.events ∷ []) (turn + 1) q rest
behind_more first p q start left rest phases turn faults counted phase b r h =
    let clock = all_ms-append phases phase.events in
    let size = size-append phases phase.events in
    record {
      becomes = then _ _ _ (with_phases phases) (with_phase phase.events) (with_phases (phases ++ phase.events ∷ [])) (phases-then phases phase.events) b.becomes r.first;
      leads = leads_phases first p q start left rest phases phase.events b.leads r.leads;
      moment = omega (arith, r.moment, b.moment, clock);
      size = omega (arith, r.lines, b.size, size);
      refusal = r.unrefused;
      config = h.config ∙ b.config;
      over = r.over;
      seen = h.seen b.seen;
      later = later_then start left rest b.later h.later;
      number = omega (arith, r.number.1, r.number.0, b.number);
    }

-- it may be served
pub may_run : (crew : Crew) (first p q : Progress) (start left rest : Option (List ℕ)) (phases bodies : List (List CellEvent)) (turn faults counted : ℕ) (phase : Phase) → HasRun crew first.config phases bodies → length phases ≡ turn
    → Behind first start phases turn p left → ReadsPhase p left phase q rest → HasRead p left faults (next.Phase phase) q rest counted → MayRun crew phase.events
may_run crew first p q start left rest phases bodies turn faults counted phase served count b r h = record {
  config = first.config;
  phases = phases;
  bodies = bodies;
  served = served;
  next = record {
    recorded = subst (λ (config : Config). All (IsRecorded config) phase.events) (h.config ∙ b.config) r.recorded;
    clock = omega (arith, r.moment, b.moment, h.dated);
    few = r.few;
    many = omega (arith, r.number.0, r.number.2, b.number, count);
  };
  size = omega (arith, b.size, r.lines, r.most);
}
