-- Phases that are served, and what is written of them.
use Rattle.std.proofs.Common.{◌≡◌, ℕ, ◌+◌, List, [], ◌∷◌, ◌++◌, length, refl, sym, ap, ◌∙◌, subst, append_assoc, append-nil, None, Some, IfSome, arith}
use Rattle.std.specs.declared.option.Option.{Option}
use Rattle.std.specs.Io.KnownBytes.{Appends}
use Rattle.std.proofs.KnownBytes.{Appends-trans}
use Rattle.cell_io.specs.Prefix.{AppendsPrefix}
use Rattle.mms_types.specs.declared.event.CellEvent.{CellEvent}
use Rattle.step_parts.specs.Step.{said}
use Rattle.cell_config.specs.declared.config.Config.{Config}
use Rattle.cell_record.specs.declared.refusal.RecordError.{RecordError}
use Rattle.cell_record.specs.declared.refusal.RecordError.TheVariants.{Bad, BadConfig, TooMuch, ReadFault, Memory}
use Rattle.cell_record.specs.Recording.{Reading, refused}
use Rattle.cell_record.specs.Progress.{Becomes, IsStated}
use Rattle.cell_record.specs.Grammar.{all_ms, phase_ms}
use Rattle.cell_record.specs.History.{Interleaves, history}
use Rattle.cell_record.specs.Report.{phase_text, placed_from, report_from}
use Rattle.cell_record.specs.declared.told.Told.{Told}
use Rattle.cell_words.specs.declared.words.Command.{Command}
use Rattle.cell_words.specs.declared.words.Command.TheVariants.{Replay, Run, Stress}
use Rattle.cell_run.specs.declared.status.Status.{Status}
use Rattle.cell_run.specs.Bodies.{Serves}
use Rattle.cell_run.specs.Outcome.{IsFinal, last_line, report_of, status_for}
use Rattle.cell_run.specs.Running.{size_of}
use Rattle.cell_run.specs.Serving.{ServesPhase, body_text, interleaves_self, WritesAllOf, WritesSomeOf}
use Rattle.cell_run.proofs.Fronts.{with_phases, report-append, report-snoc, final_stated}

-- ---- bodies

pub interleaves-append : (bs ps cs qs : List (List CellEvent)) → Interleaves bs ps → Interleaves cs qs → Interleaves (bs ++ cs) (ps ++ qs)
interleaves-append [] [] cs qs h k = k
interleaves-append [] (p ∷ ps) cs qs h k = absurd h
interleaves-append (b ∷ bs) [] cs qs h k = absurd h
interleaves-append (b ∷ bs) (p ∷ ps) cs qs h k = (h.0, interleaves-append bs ps cs qs h.1 k)

pub interleaves_length : (bs ps : List (List CellEvent)) → Interleaves bs ps → length bs ≡ length ps
interleaves_length [] [] h = refl
interleaves_length [] (p ∷ ps) h = absurd h
interleaves_length (b ∷ bs) [] h = absurd h
interleaves_length (b ∷ bs) (p ∷ ps) h = let rest = interleaves_length bs ps h.1 in omega (arith, rest)

-- phases that are still to come may be served by themselves
serves_more : (command : Command) (bs ps more : List (List CellEvent)) → Serves command bs ps → Serves command (bs ++ more) (ps ++ more)
serves_more Replay bs ps more h = ap (λ (l : List (List CellEvent)). l ++ more) h
serves_more (Run workers) bs ps more h = tt
serves_more (Stress seed clients rounds workers) bs ps more h = tt

pub all_ms-append : (ps : List (List CellEvent)) (x : List CellEvent) → all_ms (ps ++ x ∷ []) ≡ all_ms ps + phase_ms x
all_ms-append [] x = omega arith
all_ms-append (p ∷ ps) x = let rest = all_ms-append ps x in omega (arith, rest)

pub size-append : (ps : List (List CellEvent)) (x : List CellEvent) → size_of (ps ++ x ∷ []) ≡ size_of ps + length x
size-append [] x = omega arith
size-append (p ∷ ps) x = let rest = size-append ps x in omega (arith, rest)

-- ---- what is written

-- all phases were served, and then it is told why there are no more
pub all_told : (command : Command) (config : Config) (s : Status) (rest0 restn : Option Reading) (phases bodies : List (List CellEvent)) (o : Option RecordError) (out0 out1 : Option (List ℕ))
    → Becomes rest0 (with_phases phases) restn → IfSome restn (λ r. r ≡ record { phases = []; refusal = o }) → s ≡ status_for o → Interleaves bodies phases × Serves command bodies phases
    → Appends out0 out1 (report_of config bodies ++ last_line o) → IfSome rest0 (λ r. (s ≡ status_for r.refusal) × WritesAllOf command config r out0 out1)
all_told command config s None restn phases bodies o out0 out1 b e is serve p = tt
all_told command config s (Some x) None phases bodies o out0 out1 b e is serve p = absurd (cc b)
all_told command config s (Some x) (Some r) phases bodies o out0 out1 b e is serve p =
    let at : with_phases phases r ≡ x = cc b in
    let whole : record { phases = phases; refusal = o } ≡ x = ap (λ (l : List (List CellEvent)). record { phases = l; refusal = o }) (sym (append-nil phases)) ∙ ap (with_phases phases) (sym e) ∙ at in (
      is ∙ ap (λ (y : Reading). status_for y.refusal) whole,
      record {
        printed = report_of config bodies ++ last_line o;
        prints = record {
          bodies = bodies;
          interleave = subst (λ (y : Reading). Interleaves bodies y.phases) whole serve.0;
          serve = subst (λ (y : Reading). Serves command bodies y.phases) whole serve.1;
          is = ap (λ (y : Reading). report_of config bodies ++ last_line y.refusal) whole;
        };
        written = p;
      },
    )

pub all_of : (command : Command) (config : Config) (s : Status) (rest0 restn : Option Reading) (phases bodies : List (List CellEvent)) (o : Option RecordError) (out0 out1 out2 : Option (List ℕ))
    → Becomes rest0 (with_phases phases) restn → IfSome restn (λ r. r ≡ record { phases = []; refusal = o }) → s ≡ status_for o → Interleaves bodies phases × Serves command bodies phases
    → Appends out0 out1 (report_of config bodies) → Appends out1 out2 (last_line o) → IfSome rest0 (λ r. (s ≡ status_for r.refusal) × WritesAllOf command config r out0 out2)
all_of command config s rest0 restn phases bodies o out0 out1 out2 b e is serve p q =
    all_told command config s rest0 restn phases bodies o out0 out2 b e is serve (Appends-trans out0 out1 out2 (report_of config bodies) (last_line o) p q)

-- of these phases a prefix of the report was written
pub some_of : (command : Command) (config : Config) (rest0 restn : Option Reading) (phases bodies : List (List CellEvent)) (out0 out1 : Option (List ℕ))
    → Becomes rest0 (with_phases phases) restn → Interleaves bodies phases × Serves command bodies phases → AppendsPrefix out0 out1 (report_of config bodies)
    → IfSome rest0 (λ r. WritesSomeOf command config r out0 out1)
some_of command config None restn phases bodies out0 out1 b serve p = tt
some_of command config (Some x) None phases bodies out0 out1 b serve p = absurd (cc b)
some_of command config (Some x) (Some r) phases bodies out0 out1 b serve p =
    let at : with_phases phases r ≡ x = cc b in
    let later = report_from (said config) config.clients (1 + length bodies) (history config.clients bodies) r.phases in
    let all = report-append config 1 [] bodies r.phases in
    subst (λ (y : Reading). WritesSomeOf command config y out0 out1) at (record {
      printed = report_of config (bodies ++ r.phases) ++ last_line r.refusal;
      prints = record {
        bodies = bodies ++ r.phases;
        interleave = interleaves-append bodies phases r.phases r.phases serve.0 (interleaves_self r.phases);
        serve = serves_more command bodies phases r.phases serve.1;
        is = refl;
      };
      written = record {
        written = p.written;
        rest = p.rest ++ (later ++ last_line r.refusal);
        appended = p.appended;
        parts = ap (λ (l : List ℕ). l ++ last_line r.refusal) all ∙ append_assoc (report_of config bodies) later (last_line r.refusal) ∙ ap (λ (l : List ℕ). l ++ (later ++ last_line r.refusal)) p.parts
            ∙ append_assoc p.written p.rest (later ++ last_line r.refusal);
      };
    })

whole_front : (out0 out1 out2 : Option (List ℕ)) (text : List ℕ) → Appends out0 out1 text → AppendsPrefix out1 out2 [] → AppendsPrefix out0 out2 text
whole_front out0 out1 out2 text p q = record {
  written = text ++ q.written;
  rest = q.rest;
  appended = Appends-trans out0 out1 out2 text q.written p q.appended;
  parts = sym (append-nil text) ∙ ap (λ (l : List ℕ). text ++ l) q.parts ∙ sym (append_assoc text q.written q.rest);
}

pub whole_report : (out0 out1 : Option (List ℕ)) (text : List ℕ) → Appends out0 out1 text → AppendsPrefix out0 out1 text
whole_report out0 out1 text p = record { written = text; rest = []; appended = p; parts = sym (append-nil text) }

-- and a prefix of that was written
pub line_told : (command : Command) (config : Config) (rest0 restn : Option Reading) (phases bodies : List (List CellEvent)) (o : Option RecordError) (out0 out1 : Option (List ℕ))
    → Becomes rest0 (with_phases phases) restn → IfSome restn (λ r. r ≡ record { phases = []; refusal = o }) → Interleaves bodies phases × Serves command bodies phases
    → AppendsPrefix out0 out1 (report_of config bodies ++ last_line o) → IfSome rest0 (λ r. WritesSomeOf command config r out0 out1)
line_told command config None restn phases bodies o out0 out1 b e serve p = tt
line_told command config (Some x) None phases bodies o out0 out1 b e serve p = absurd (cc b)
line_told command config (Some x) (Some r) phases bodies o out0 out1 b e serve p =
    let at : with_phases phases r ≡ x = cc b in
    let whole : record { phases = phases; refusal = o } ≡ x = ap (λ (l : List (List CellEvent)). record { phases = l; refusal = o }) (sym (append-nil phases)) ∙ ap (with_phases phases) (sym e) ∙ at in
    record {
      printed = report_of config bodies ++ last_line o;
      prints = record {
        bodies = bodies;
        interleave = subst (λ (y : Reading). Interleaves bodies y.phases) whole serve.0;
        serve = subst (λ (y : Reading). Serves command bodies y.phases) whole serve.1;
        is = ap (λ (y : Reading). report_of config bodies ++ last_line y.refusal) whole;
      };
      written = p;
    }

pub longer_part : (out0 out1 out2 : Option (List ℕ)) (text line : List ℕ) → Appends out0 out1 text → AppendsPrefix out1 out2 line → AppendsPrefix out0 out2 (text ++ line)
longer_part out0 out1 out2 text line p q = record {
  written = text ++ q.written;
  rest = q.rest;
  appended = Appends-trans out0 out1 out2 text q.written p q.appended;
  parts = ap (λ (l : List ℕ). text ++ l) q.parts ∙ sym (append_assoc text q.written q.rest);
}

line_of : (command : Command) (config : Config) (rest0 restn : Option Reading) (phases bodies : List (List CellEvent)) (o : Option RecordError) (out0 out1 out2 : Option (List ℕ))
    → Becomes rest0 (with_phases phases) restn → IfSome restn (λ r. r ≡ record { phases = []; refusal = o }) → Interleaves bodies phases × Serves command bodies phases
    → Appends out0 out1 (report_of config bodies) → AppendsPrefix out1 out2 (last_line o) → IfSome rest0 (λ r. WritesSomeOf command config r out0 out2)
line_of command config rest0 restn phases bodies o out0 out1 out2 b e serve p q =
    line_told command config rest0 restn phases bodies o out0 out2 b e serve (longer_part out0 out1 out2 (report_of config bodies) (last_line o) p q)

-- a prefix of the line that tells the refusal was written
pub refusal_of : (command : Command) (config : Config) (rest0 restn : Option Reading) (phases bodies : List (List CellEvent)) (e : RecordError) (out0 out1 out2 : Option (List ℕ))
    → Becomes rest0 (with_phases phases) restn → (IsStated e → IfSome restn (λ r. r ≡ refused e)) → Interleaves bodies phases × Serves command bodies phases
    → Appends out0 out1 (report_of config bodies) → AppendsPrefix out1 out2 (last_line (Some e)) → IfSome rest0 (λ r. WritesSomeOf command config r out0 out2)
refusal_of command config rest0 restn phases bodies ReadFault out0 out1 out2 b h serve p q = some_of command config rest0 restn phases bodies out0 out2 b serve (whole_front out0 out1 out2 (report_of config bodies) p q)
refusal_of command config rest0 restn phases bodies Memory out0 out1 out2 b h serve p q = some_of command config rest0 restn phases bodies out0 out2 b serve (whole_front out0 out1 out2 (report_of config bodies) p q)
refusal_of command config rest0 restn phases bodies (Bad line word) out0 out1 out2 b h serve p q = line_of command config rest0 restn phases bodies (Some (Bad line word)) out0 out1 out2 b (h tt) serve p q
refusal_of command config rest0 restn phases bodies (BadConfig rule) out0 out1 out2 b h serve p q = line_of command config rest0 restn phases bodies (Some (BadConfig rule)) out0 out1 out2 b (h tt) serve p q
refusal_of command config rest0 restn phases bodies (TooMuch line) out0 out1 out2 b h serve p q = line_of command config rest0 restn phases bodies (Some (TooMuch line)) out0 out1 out2 b (h tt) serve p q

pub refusal_all : (command : Command) (config : Config) (s : Status) (rest0 restn : Option Reading) (phases bodies : List (List CellEvent)) (e : RecordError) (out0 out1 out2 : Option (List ℕ))
    → Becomes rest0 (with_phases phases) restn → (IsStated e → IfSome restn (λ r. r ≡ refused e)) → Interleaves bodies phases × Serves command bodies phases
    → Appends out0 out1 (report_of config bodies) → (IsFinal s → (s ≡ status_for (Some e)) × Appends out1 out2 (last_line (Some e))) → IsFinal s
    → IfSome rest0 (λ r. (s ≡ status_for r.refusal) × WritesAllOf command config r out0 out2)
refusal_all command config s rest0 restn phases bodies e out0 out1 out2 b h serve p q final =
    let line = q final in all_of command config s rest0 restn phases bodies (Some e) out0 out1 out2 b (h (final_stated s e line.0 final)) line.0 serve p line.1

-- ---- a phase more

pub told_so : (config : Config) (bodies : List (List CellEvent)) (number : ℕ) (body : List CellEvent) (text : List ℕ) → text ≡ body_text config number (history config.clients bodies) body → number ≡ 1 + length bodies
    → report_of config bodies ++ text ≡ report_of config (bodies ++ body ∷ [])
told_so config bodies number body text e n =
    ap (λ (l : List ℕ). report_of config bodies ++ l) (e ∙ ap (λ (k : ℕ). body_text config k (history config.clients bodies) body) n) ∙ sym (report-snoc config bodies body)

-- the text of a phase that was served by a body
pub text_is : (config : Config) (phases bodies : List (List CellEvent)) (number : ℕ) (events : List CellEvent) (told : Told) (has_served : Config → List (List CellEvent) → List (List CellEvent) → Type 0)
    → (t : ServesPhase config phases bodies number events told has_served) → phase_text told.number told.served told.outputs ≡ body_text config number (history config.clients bodies) t.body
text_is config phases bodies number events told has_served t =
    ap (λ k. phase_text k told.served told.outputs) t.number_is ∙ ap (λ l. phase_text number l told.outputs) t.placed
    ∙ ap (λ l. phase_text number (placed_from (length (history config.clients bodies) + 1) t.body) l) t.outputs

pub body_whole : (config : Config) (bodies : List (List CellEvent)) (number : ℕ) (body : List CellEvent) (text : List ℕ) (out0 out1 out2 : Option (List ℕ)) → text ≡ body_text config number (history config.clients bodies) body
    → number ≡ 1 + length bodies → Appends out0 out1 (report_of config bodies) → Appends out1 out2 text → Appends out0 out2 (report_of config (bodies ++ body ∷ []))
body_whole config bodies number body text out0 out1 out2 e n p q = subst (Appends out0 out2) (told_so config bodies number body text e n) (Appends-trans out0 out1 out2 (report_of config bodies) text p q)

pub body_part : (config : Config) (bodies : List (List CellEvent)) (number : ℕ) (body : List CellEvent) (text : List ℕ) (out0 out1 out2 : Option (List ℕ)) → text ≡ body_text config number (history config.clients bodies) body
    → number ≡ 1 + length bodies → Appends out0 out1 (report_of config bodies) → AppendsPrefix out1 out2 text → AppendsPrefix out0 out2 (report_of config (bodies ++ body ∷ []))
body_part config bodies number body text out0 out1 out2 e n p q = record {
  written = report_of config bodies ++ q.written;
  rest = q.rest;
  appended = Appends-trans out0 out1 out2 (report_of config bodies) q.written p q.appended;
  parts = sym (told_so config bodies number body text e n) ∙ ap (λ (l : List ℕ). report_of config bodies ++ l) q.parts ∙ sym (append_assoc (report_of config bodies) q.written q.rest);
}
