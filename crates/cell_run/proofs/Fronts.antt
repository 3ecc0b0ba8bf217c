-- What was written of the first phases, and what is stated of the rest.
use Rattle.std.proofs.Common.{◌≡◌, ℕ, ◌+◌, List, [], ◌∷◌, ◌++◌, length, refl, sym, ap, ◌∙◌, subst, append_assoc, append-nil, None, Some, IfSome, Err, arith}
use Rattle.std.specs.declared.option.Option.{Option}
use Rattle.std.specs.Io.KnownBytes.{Appends, Keeps}
use Rattle.std.proofs.KnownBytes.{Appends-kept, Appends-nil, Consumes-trans}
use Rattle.cell_io.specs.Held.{IsLaterPart}
use Rattle.cell_io.specs.Prefix.{AppendsPrefix}
use Rattle.mms_types.specs.Actors.{clients_to}
use Rattle.mms_types.specs.declared.event.CellEvent.{CellEvent}
use Rattle.step_parts.specs.Step.{said}
use Rattle.cell_record.specs.declared.refusal.RecordError.{RecordError}
use Rattle.cell_record.specs.declared.refusal.RecordError.TheVariants.{Bad, BadConfig, TooMuch, ReadFault, Memory}
use Rattle.cell_config.specs.declared.config.Config.{Config}
use Rattle.cell_record.specs.Recording.{Reading, Opening, with_phase, opening_of_text, config_of_text, after_opening}
use Rattle.cell_record.specs.Progress.{Progress, IsStated, place_of, rest_in}
use Rattle.cell_record.specs.Stops.{IsCutInOpening, Leads, Stops, lines_in}
use Rattle.cell_record.specs.History.{drains, history}
use Rattle.cell_record.specs.Report.{placed_from, taken, phase_text, report_from}
use Rattle.cell_run.specs.Outcome.{IsCut, IsFinal, WritesCut, last_line, status_of, status_for}
use Rattle.cell_run.proofs.Printed.{printed, printed_by}
use Rattle.cell_words.specs.declared.words.Command.{Command}
use Rattle.cell_run.specs.declared.status.Status.{Status}

-- phases before those of a reading
abbrev pub with_phases : List (List CellEvent) → Reading → Reading
with_phases done r = record { phases = done ++ r.phases; refusal = r.refusal }

-- ---- the configuration that the lines up to `end` tell

-- a text whose lines up to `end` tell this configuration
abbrev pub Tells : Config → List ℕ → Type 0
Tells config text = config_of_text text ≡ Some config

-- the text of one phase more
abbrev pub next_text : Config → ℕ → List CellEvent → List CellEvent → List ℕ
next_text config number before body = phase_text number (placed_from (length before + 1) body) (taken (said config) (before ++ body) (clients_to config.clients))

pub report-append : (config : Config) (number : ℕ) (before : List CellEvent) (xs ys : List (List CellEvent))
    → report_from (said config) config.clients number before (xs ++ ys) ≡ report_from (said config) config.clients number before xs ++ report_from (said config) config.clients (number + length xs) (before ++ history config.clients xs) ys
report-append config number before [] ys =
    ap (λ (k : ℕ). report_from (said config) config.clients k before ys) (omega arith)
    ∙ ap (λ (h : List CellEvent). report_from (said config) config.clients (number + 0) h ys) (sym (append-nil before))
report-append config number before (x ∷ xs) ys =
    let count : number + 1 + length xs ≡ number + length (x ∷ xs) = omega arith in
    let later = before ++ (x ++ drains (clients_to config.clients)) in
    let same : later ++ history config.clients xs ≡ before ++ history config.clients (x ∷ xs) = append_assoc before (x ++ drains (clients_to config.clients)) (history config.clients xs) in
    ap (λ (l : List ℕ). next_text config number before x ++ l) (report-append config (number + 1) later xs ys
    ∙ ap (λ (k : ℕ). report_from (said config) config.clients (number + 1) later xs ++ report_from (said config) config.clients k (later ++ history config.clients xs) ys) count
    ∙ ap (λ (h : List CellEvent). report_from (said config) config.clients (number + 1) later xs ++ report_from (said config) config.clients (number + length (x ∷ xs)) h ys) same)
    ∙ sym (append_assoc (next_text config number before x) (report_from (said config) config.clients (number + 1) later xs) (report_from (said config) config.clients (number + length (x ∷ xs)) (before ++ history config.clients (x ∷ xs)) ys))

pub report-snoc : (config : Config) (done : List (List CellEvent)) (x : List CellEvent)
    → report_from (said config) config.clients 1 [] (done ++ x ∷ []) ≡ report_from (said config) config.clients 1 [] done ++ next_text config (1 + length done) (history config.clients done) x
report-snoc config done x =
    report-append config 1 [] done (x ∷ []) ∙ ap (λ (l : List ℕ). report_from (said config) config.clients 1 [] done ++ l) (append-nil (next_text config (1 + length done) (history config.clients done) x))

pub history-snoc : (n : ℕ) (done : List (List CellEvent)) (x : List CellEvent) → history n (done ++ x ∷ []) ≡ history n done ++ (x ++ drains (clients_to n))
history-snoc n [] x = append-nil (x ++ drains (clients_to n))
history-snoc n (y ∷ done) x =
    ap (λ (l : List CellEvent). (y ++ drains (clients_to n)) ++ l) (history-snoc n done x) ∙ sym (append_assoc (y ++ drains (clients_to n)) (history n done) (x ++ drains (clients_to n)))

pub phases-then : (done : List (List CellEvent)) (x : List CellEvent) (r : Reading) → with_phases done (with_phase x r) ≡ with_phases (done ++ x ∷ []) r
phases-then done x r = ap (λ (l : List (List CellEvent)). record { phases = l; refusal = r.refusal }) (sym (append_assoc done (x ∷ []) r.phases))

pub final_stated : (s : Status) (e : RecordError) → s ≡ status_for (Some e) → IsFinal s → IsStated e
final_stated s (Bad line word) is final = tt
final_stated s (BadConfig rule) is final = tt
final_stated s (TooMuch line) is final = tt
final_stated s ReadFault is final = subst IsFinal is final
final_stated s Memory is final = subst IsFinal is final

-- ---- where the source fails

-- nothing was written before the line `end`
pub cut_in_opening : (command : Command) (left last out0 out1 : Option (List ℕ)) → Keeps out0 out1 → IfSome left (λ text. IsCutInOpening text last) → IfSome left (λ text. IsCut command text last out0 out1)
cut_in_opening command None last out0 out1 p k = tt
cut_in_opening command (Some text) last out0 out1 p k = record {
  octets = k.octets;
  read = k.read;
  written = subst (λ (o : Opening). WritesCut command o (length (lines_in k.octets)) out0 out1) (sym k.says) (k.word, refl, Appends-kept out0 out0 out1 [] (Appends-nil out0) p);
}

pub later_then : (a b c : Option (List ℕ)) → IsLaterPart a b → IsLaterPart b c → IsLaterPart a c
later_then a b c p q = (p.0 ++ q.0, Consumes-trans a b c p.0 q.0 p.1 q.1)

-- a phase more
pub leads_phases : (r s t : Progress) (left left' left'' : Option (List ℕ)) (done : List (List CellEvent)) (x : List CellEvent)
    → Leads (rest_in r) r.held (place_of r) left (with_phases done) (rest_in s) s.held (place_of s) left'
    → Leads (rest_in s) s.held (place_of s) left' (with_phase x) (rest_in t) t.held (place_of t) left''
    → Leads (rest_in r) r.held (place_of r) left (with_phases (done ++ x ∷ [])) (rest_in t) t.held (place_of t) left''
leads_phases r s t left left' left'' done x p q = λ last end k z.
    subst (Stops (rest_in r) r.held (place_of r) left last end) (phases-then done x k) (p last end (with_phase x k) (q last end k z))

-- ---- where the lines up to `end` are refused

nothing_partly : (text : List ℕ) (out0 out1 : Option (List ℕ)) → AppendsPrefix out0 out1 [] → AppendsPrefix out0 out1 text
nothing_partly text out0 out1 q = record {
  written = q.written;
  rest = q.rest ++ text;
  appended = q.appended;
  parts = ap (λ (l : List ℕ). l ++ text) q.parts ∙ append_assoc q.written q.rest text;
}

-- the refusal is a prefix of what is printed
pub opening_partly : (left : Option (List ℕ)) (e : RecordError) (out0 out1 : Option (List ℕ)) → (IsStated e → IfSome left (λ text. opening_of_text text ≡ Err e))
    → AppendsPrefix out0 out1 (last_line (Some e)) → IfSome left (λ text. AppendsPrefix out0 out1 (printed text))
opening_partly None e out0 out1 h q = tt
opening_partly (Some text) ReadFault out0 out1 h q = nothing_partly (printed text) out0 out1 q
opening_partly (Some text) Memory out0 out1 h q = nothing_partly (printed text) out0 out1 q
opening_partly (Some text) (Bad line word) out0 out1 h q = subst (AppendsPrefix out0 out1) (sym (ap printed_by (h tt))) q
opening_partly (Some text) (BadConfig rule) out0 out1 h q = subst (AppendsPrefix out0 out1) (sym (ap printed_by (h tt))) q
opening_partly (Some text) (TooMuch line) out0 out1 h q = subst (AppendsPrefix out0 out1) (sym (ap printed_by (h tt))) q

-- the refusal is told whole
pub opening_written : (s : Status) (left : Option (List ℕ)) (e : RecordError) (out0 out1 : Option (List ℕ)) → (IsStated e → IfSome left (λ text. opening_of_text text ≡ Err e))
    → (IsFinal s → (s ≡ status_for (Some e)) × Appends out0 out1 (last_line (Some e))) → IsFinal s
    → IfSome left (λ text. (s ≡ status_of text) × Appends out0 out1 (printed text))
opening_written s None e out0 out1 h q final = tt
opening_written s (Some text) e out0 out1 h q final =
    let line = q final in
    let is : opening_of_text text ≡ Err e = h (final_stated s e line.0 final) in
    (line.0 ∙ sym (ap (λ (o : Opening). status_for (after_opening o).refusal) is), subst (Appends out0 out1) (sym (ap printed_by is)) line.1)

pub none_written : (left out : Option (List ℕ)) → IfSome left (λ text. AppendsPrefix out out (printed text))
none_written None out = tt
none_written (Some text) out = record { written = []; rest = printed text; appended = Appends-nil out; parts = refl }
