-- How a command that serves a recording ends.
use Rattle.std.proofs.Common.{◌≡◌, ◌≢◌, ◌⊎◌, inl, inr, ℕ, List, [], ◌∷◌, ◌++◌, length, ap, subst, refl, sym, ◌∙◌, Some, None, Ok, Err, IfSome, arith}
use Rattle.std.specs.declared.option.Option.{Option}
use Rattle.std.proofs.KnownBytes.{Appends-nil}
use Rattle.std.specs.Io.KnownBytes.{Appends, IsAtEnd}
use Rattle.cell_io.specs.Faults.{Rose}
use Rattle.cell_io.specs.Prefix.{AppendsPrefix}
use Rattle.mms_types.specs.declared.event.CellEvent.{CellEvent}
use Rattle.cell_config.specs.declared.config.Config.{Config}
use Rattle.cell_record.specs.Grammar.{ReadsRecording}
use Rattle.cell_record.specs.Recording.{Place, Reading, Opening, after_opening, config_in, opening_of_text, reading_of_text}
use Rattle.cell_words.specs.declared.words.Command.{Command}
use Rattle.cell_words.specs.declared.words.Command.TheVariants.{Replay, Run, Stress}
use Rattle.cell_run.specs.Bodies.{ReadsInput, Serves}
use Rattle.cell_run.specs.declared.status.Status.{Status}
use Rattle.cell_run.specs.declared.status.Status.TheVariants as status
use Rattle.cell_run.specs.Codes.{code_of}
use Rattle.cell_run.specs.Counted.{AreCounts, HasCounted, WritesCounts, WritesSomeCounts, counts_of, lines_of}
use Rattle.cell_run.specs.declared.stressing.Numbers.{Numbers}
use Rattle.cell_stress.specs.Stress.{stress_config, stress_phases}
use Rattle.cell_run.specs.Outcome.{Completes, IsCut, IsFinal, PrintsBy, PrintsFor, WritesAll, WritesCut, WritesSome, report_of, status_for, status_of}
use Rattle.cell_run.proofs.Printed.{printed, printed_by}
use Rattle.cell_run.specs.Ending.{Seen, Ends, EndsServing, EndsStress, MayReadAhead, WritesLines}
use Rattle.std.specs.Option.{option_map}
use Rattle.cell_io.specs.Lines.{whole_lines}
use Rattle.cell_io.specs.Held.{Held, IsLaterPart}
use Rattle.cell_record.specs.Progress.{Becomes, IsStated}
use Rattle.cell_record.specs.declared.refusal.RecordError.{RecordError}
use Rattle.cell_record.specs.declared.refusal.RecordError.TheVariants as refusal
use Rattle.cell_record.specs.Stops.{LeadsText, ReadsText, lines_in}
use Rattle.cell_run.specs.Serving.{WritesAllOf, WritesSomeOf, WritesToStop, interleaves_self}
use Rattle.cell_run.proofs.Fronts.{Tells}
use Rattle.cell_run.proofs.Complete.{Promise, completes}

-- phases may be served by themselves
serves_self : (command : Command) (phases : List (List CellEvent)) → Serves command phases phases
serves_self Replay phases = refl
serves_self (Run workers) phases = tt
serves_self (Stress seed clients rounds workers) phases = tt

prints : (command : Command) (opening : Opening) → PrintsBy command opening (printed_by opening)
prints command (Err e) = refl
prints command (Ok o) = let said = after_opening (Ok o) in record { bodies = said.phases; interleave = interleaves_self said.phases; serve = serves_self command said.phases; is = refl }

all : (command : Command) (s : Status) (left old new : Option (List ℕ)) → IfSome left (λ text. (s ≡ status_of text) × Appends old new (printed text)) → IfSome left (λ text. (s ≡ status_of text) × WritesAll command text old new)
all command s None old new h = tt
all command s (Some text) old new h = (h.0, record { printed = printed text; prints = prints command (opening_of_text text); written = h.1 })

some : (command : Command) (left old new : Option (List ℕ)) → IfSome left (λ text. AppendsPrefix old new (printed text)) → IfSome left (λ text. WritesSome command text old new)
some command None old new h = tt
some command (Some text) old new h = record { printed = printed text; prints = prints command (opening_of_text text); written = h }

-- one fault at most is counted where one is counted exactly where it is told
pub once_of : (s : Status) (input rest : Seen) → (s ≡ status.ReadFault → Rose input.faults rest.faults) → (s ≢ status.ReadFault → rest.faults ≡ input.faults)
    → (rest.faults ≡ input.faults) ⊎ Rose input.faults rest.faults
once_of status.ReadFault input rest read same = inr (read refl)
once_of status.Done input rest read same = inl (same (λ e. cc))
once_of status.Usage input rest read same = inl (same (λ e. cc))
once_of status.Bad input rest read same = inl (same (λ e. cc))
once_of status.Memory input rest read same = inl (same (λ e. cc))
once_of status.WriteFault input rest read same = inl (same (λ e. cc))
once_of status.BadConfig input rest read same = inl (same (λ e. cc))
once_of status.TooMuch input rest read same = inl (same (λ e. cc))

-- of `run`, where nothing was met ahead
pub unfailed_run : (workers : ℕ) (s : Status) (before now : ℕ) → (IsFinal s → now ≡ before) → s ≢ status.ReadFault → (MayReadAhead (Run workers) s → ⊥) → now ≡ before
unfailed_run workers status.Done before now final n k = final tt
unfailed_run workers status.Usage before now final n k = final tt
unfailed_run workers status.Bad before now final n k = final tt
unfailed_run workers status.BadConfig before now final n k = final tt
unfailed_run workers status.TooMuch before now final n k = final tt
unfailed_run workers status.Memory before now final n k = absurd (k tt)
unfailed_run workers status.WriteFault before now final n k = absurd (k tt)
unfailed_run workers status.ReadFault before now final n k = absurd (n refl)

-- how it ends where the lines up to `end` are refused, or memory is wanting
pub opening_ends : (command : Command) (s : Status) (input rest out after : Seen) → s ≢ status.Usage → (IsFinal s → IfSome input.octets (λ text. (s ≡ status_of text) × Appends out.octets after.octets (printed text)))
    → IfSome input.octets (λ text. AppendsPrefix out.octets after.octets (printed text)) → (s ≡ status.Done → IsAtEnd rest.octets) → (s ≡ status.ReadFault → Rose input.faults rest.faults)
    → (s ≢ status.ReadFault → rest.faults ≡ input.faults) → (s ≡ status.ReadFault → IfSome input.octets (λ text. IsCut command text rest.octets out.octets after.octets))
    → (s ≡ status.WriteFault → Rose out.faults after.faults) → (s ≢ status.WriteFault → after.faults ≡ out.faults) → EndsServing command s input rest out after
opening_ends command s input rest out after known whole part ended read unfailed cut write accepted = record {
  known = known;
  whole = λ final. all command s input.octets out.octets after.octets (whole final);
  part = some command input.octets out.octets after.octets part;
  ended = ended;
  read = read;
  unfailed = λ n ahead. unfailed n;
  once = once_of s input rest read unfailed;
  cut = cut;
  write = write;
  accepted = accepted;
}

-- ---- the phases of a text

prints_so : (command : Command) (config : Config) (opening : Opening) (r : Reading) (printed : List ℕ) → config_in opening ≡ Some config → r ≡ after_opening opening → PrintsFor command config r printed → PrintsBy command opening printed
prints_so command config (Err e) r printed is said p = absurd (cc is)
prints_so command config (Ok o) r printed is said p =
    let same : config ≡ o.config = cc is in subst (λ (x : Config). PrintsFor command x (after_opening (Ok o)) printed) same (subst (λ (x : Reading). PrintsFor command config x printed) said p)

all_said : (command : Command) (config : Config) (s : Status) (left : Option (List ℕ)) (a : Option Reading) (old new : Option (List ℕ)) → Becomes (option_map reading_of_text left) (λ r. r) a → IfSome left (Tells config)
    → IfSome a (λ r. (s ≡ status_for r.refusal) × WritesAllOf command config r old new) → IfSome left (λ text. (s ≡ status_of text) × WritesAll command text old new)
all_said command config s None a old new b t w = tt
all_said command config s (Some x) None old new b t w = absurd (cc b)
all_said command config s (Some x) (Some r) old new b t w =
    let is : r ≡ reading_of_text x = cc b in
    (w.0 ∙ ap (λ (y : Reading). status_for y.refusal) is, record { printed = w.1.printed; prints = prints_so command config (opening_of_text x) r w.1.printed t is w.1.prints; written = w.1.written })

some_said : (command : Command) (config : Config) (left : Option (List ℕ)) (a : Option Reading) (old new : Option (List ℕ)) → Becomes (option_map reading_of_text left) (λ r. r) a → IfSome left (Tells config)
    → IfSome a (λ r. WritesSomeOf command config r old new) → IfSome left (λ text. WritesSome command text old new)
some_said command config None a old new b t w = tt
some_said command config (Some x) None old new b t w = absurd (cc b)
some_said command config (Some x) (Some r) old new b t w =
    let is : r ≡ reading_of_text x = cc b in
    record { printed = w.printed; prints = prints_so command config (opening_of_text x) r w.printed t is w.prints; written = w.written }

complete_with : (command : Command) (config : Config) (opening : Opening) (lines : ℕ) (f : List (List ℕ) → Place → Reading) (held : Held) (p : Place) (now last old new : Option (List ℕ)) (w : WritesToStop command config f held p now last old new)
    → config_in opening ≡ Some config → after_opening opening ≡ record { phases = w.done ++ w.events ∷ []; refusal = None } → WritesCut command opening lines old new
complete_with command config (Err e) lines f held p now last old new w is said = absurd (cc is)
complete_with command config (Ok o) lines f held p now last old new w is said =
    let same : config ≡ o.config = cc is in
    record { done = w.done; events = w.events; said_is = said; bodies = w.bodies; interleave = w.interleave; serve = w.serve; written = subst (λ (x : Config). Appends old new (report_of x w.bodies)) same w.written }

pub cut_said : (command : Command) (config : Config) (f : List (List ℕ) → Place → Reading) (held : Held) (p : Place) (left now last old new : Option (List ℕ)) → IsLaterPart now last → LeadsText left config f held p now
    → WritesToStop command config f held p now last old new → IfSome left (λ text. IsCut command text last old new)
cut_said command config f held p left now last old new later leads w = at left (leads last w.end (record { phases = w.done ++ w.events ∷ []; refusal = None }) later w.stops)
  where
    at : (l : Option (List ℕ)) → IfSome l (λ text. ReadsText text last config w.end (record { phases = w.done ++ w.events ∷ []; refusal = None })) → IfSome l (λ text. IsCut command text last old new)
    at None k = tt
    at (Some text) k = record {
      octets = k.octets;
      read = record { consumed = k.consumed; most = omega (arith, w.most, k.size) };
      written = complete_with command config (opening_of_text (whole_lines k.octets)) (length (lines_in k.octets)) f held p now last old new w k.tells k.says;
    }

-- how it ends where the lines up to `end` were read
pub phases_end : (command : Command) (config : Config) (s : Status) (input rest out after : Seen) (a : Option Reading) → Becomes (option_map reading_of_text input.octets) (λ r. r) a → IfSome input.octets (Tells config)
    → s ≢ status.Usage → (IsFinal s → IfSome a (λ r. (s ≡ status_for r.refusal) × WritesAllOf command config r out.octets after.octets)) → IfSome a (λ r. WritesSomeOf command config r out.octets after.octets)
    → (s ≡ status.Done → IsAtEnd rest.octets) → (s ≡ status.ReadFault → Rose input.faults rest.faults) → (s ≢ status.ReadFault → (MayReadAhead command s → ⊥) → rest.faults ≡ input.faults)
    → (rest.faults ≡ input.faults) ⊎ Rose input.faults rest.faults
    → (s ≡ status.ReadFault → IfSome input.octets (λ text. IsCut command text rest.octets out.octets after.octets)) → (s ≡ status.WriteFault → Rose out.faults after.faults) → (s ≢ status.WriteFault → after.faults ≡ out.faults)
    → EndsServing command s input rest out after
phases_end command config s input rest out after a b tells known whole part ended read unfailed once cut write accepted = record {
  known = known;
  whole = λ final. all_said command config s input.octets a out.octets after.octets b tells (whole final);
  part = some_said command config input.octets a out.octets after.octets b tells part;
  ended = ended;
  read = read;
  unfailed = unfailed;
  once = once;
  cut = cut;
  write = write;
  accepted = accepted;
}

-- nothing had failed before
pub rose_first : (a b c : ℕ) → b ≡ a → Rose b c → Rose a c
rose_first a b c h r = subst (λ (n : ℕ). Rose n c) h r

pub once_first : (a b c : ℕ) → b ≡ a → (c ≡ b) ⊎ Rose b c → (c ≡ a) ⊎ Rose a c
once_first a b c h r = subst (λ (n : ℕ). (c ≡ n) ⊎ Rose n c) h r

-- a fault of the source is told as one
pub told_fault : (s : Status) (e : RecordError) (X : Type 0) → (¬ (IsStated e) → (s ≡ status_for (Some e)) × X) → e ≡ refusal.ReadFault → s ≡ status.ReadFault
told_fault s e X kept is = (kept (λ h. subst IsStated is h)).0 ∙ ap (λ (x : RecordError). status_for (Some x)) is

-- a recording that no fault hinders
pub done_or_memory : (command : Command) (s : Status) (input rest out after : Seen) → EndsServing command s input rest out after
    → IfSome input.octets (Promise command s out.octets after.octets (Rose input.faults rest.faults) (Rose out.faults after.faults))
done_or_memory command s input rest out after e = completes command s input.octets out.octets after.octets (Rose input.faults rest.faults) (Rose out.faults after.faults) e.whole e.read e.write e.known

-- and by its exit status
serving_completes : (command : Command) (s : Status) (code : ℕ) (input rest out after : Seen) → code ≡ code_of s → EndsServing command s input rest out after
    → IfSome input.octets (λ text. (config : Config) (phases : List (List CellEvent)) → ReadsRecording text config phases → (Rose input.faults rest.faults → ⊥) → (Rose out.faults after.faults → ⊥)
    → (code ≡ 3) ⊎ ((code ≡ 0) × Completes command config phases out.octets after.octets))
serving_completes command s code input rest out after is e = at input.octets (done_or_memory command s input rest out after e)
  where
    in_code : {X : Type 0} → (s ≡ status.Memory) ⊎ ((s ≡ status.Done) × X) → (code ≡ 3) ⊎ ((code ≡ 0) × X)
    in_code (inl m) = inl (is ∙ ap code_of m)
    in_code (inr d) = inr (is ∙ ap code_of d.0, d.1)

    at : (left : Option (List ℕ)) → IfSome left (Promise command s out.octets after.octets (Rose input.faults rest.faults) (Rose out.faults after.faults))
        → IfSome left (λ text. (config : Config) (phases : List (List CellEvent)) → ReadsRecording text config phases → (Rose input.faults rest.faults → ⊥) → (Rose out.faults after.faults → ⊥)
        → (code ≡ 3) ⊎ ((code ≡ 0) × Completes command config phases out.octets after.octets))
    at None p = tt
    at (Some text) p = λ config phases r nr nk. in_code (p config phases r nr nk)

-- how a command that reads a recording ends
reads_serving : (command : Command) (s : Status) (input rest out after : Seen) → ReadsInput command → Ends (Some command) s input rest out after → EndsServing command s input rest out after
reads_serving Replay s input rest out after reads ends = ends
reads_serving (Run workers) s input rest out after reads ends = ends
reads_serving (Stress seed clients rounds workers) s input rest out after reads ends = absurd reads

serving_ends : (command : Command) (s : Status) (input rest out after : Seen) → ReadsInput command → EndsServing command s input rest out after → Ends (Some command) s input rest out after
serving_ends Replay s input rest out after reads ends = ends
serving_ends (Run workers) s input rest out after reads ends = ends
serving_ends (Stress seed clients rounds workers) s input rest out after reads ends = absurd reads

pub completes_with : (command : Command) (asked : Option Command) (s : Status) (code : ℕ) (input rest out after : Seen) → ReadsInput command → code ≡ code_of s → asked ≡ Some command → Ends asked s input rest out after
    → IfSome input.octets (λ text. (config : Config) (phases : List (List CellEvent)) → ReadsRecording text config phases → (Rose input.faults rest.faults → ⊥) → (Rose out.faults after.faults → ⊥)
    → (code ≡ 3) ⊎ ((code ≡ 0) × Completes command config phases out.octets after.octets))
completes_with command asked s code input rest out after reads is e ends =
    serving_completes command s code input rest out after is (reads_serving command s input rest out after reads (subst (λ (x : Option Command). Ends x s input rest out after) e ends))

-- the words ask for the command
pub asked_ends : (command : Command) (asked : Option Command) (s : Status) (input rest out after : Seen) → ReadsInput command → asked ≡ Some command → EndsServing command s input rest out after → Ends asked s input rest out after
asked_ends command asked s input rest out after reads is e = subst (λ (x : Option Command). Ends x s input rest out after) (sym is) (serving_ends command s input rest out after reads e)

-- ---- `stress`

pub asked_stress : (seed clients rounds workers : ℕ) (asked : Option Command) (s : Status) (input rest out after : Seen) → asked ≡ Some (Stress seed clients rounds workers) → rest ≡ input
    → EndsStress seed clients rounds s out after → Ends asked s input rest out after
asked_stress seed clients rounds workers asked s input rest out after is unread ends = subst (λ (x : Option Command). Ends x s input rest out after) (sym is) (unread, ends)

-- nothing was written
none_counted : (seed clients rounds : ℕ) (held : Option (List ℕ)) → WritesSomeCounts seed clients rounds held held
none_counted seed clients rounds held = record {
  bodies = stress_phases seed clients rounds;
  interleave = interleaves_self (stress_phases seed clients rounds);
  written = record { written = []; rest = counts_of (stress_config clients) (stress_phases seed clients rounds); appended = Appends-nil held; parts = refl };
}

pub wanting_stress : (seed clients rounds : ℕ) (out : Seen) → EndsStress seed clients rounds status.Memory out out
wanting_stress seed clients rounds out = (refl, none_counted seed clients rounds out.octets)

-- the four lines of what was counted are those of the bodies
lines_are : (config : Config) (bodies : List (List CellEvent)) (numbers : Numbers) → AreCounts config bodies numbers → lines_of numbers.phases numbers.events numbers.requests numbers.replies ≡ counts_of config bodies
lines_are config bodies numbers counts = rw (counts.phases, counts.events, counts.requests, counts.replies) refl

pub lines_end : (seed clients rounds : ℕ) (numbers : Numbers) (s : Status) (out after : Seen) → HasCounted seed clients rounds numbers
    → WritesLines (lines_of numbers.phases numbers.events numbers.requests numbers.replies) s out after → EndsStress seed clients rounds s out after
lines_end seed clients rounds numbers status.Done out after h w =
    (w.0, record { bodies = h.bodies; interleave = h.interleave; written = subst (Appends out.octets after.octets) (lines_are (stress_config clients) h.bodies numbers h.counts) w.1 })
lines_end seed clients rounds numbers status.Memory out after h w = subst (λ (x : Seen). EndsStress seed clients rounds status.Memory out x) (sym w) (wanting_stress seed clients rounds out)
lines_end seed clients rounds numbers status.WriteFault out after h w =
    (w.0, record { bodies = h.bodies; interleave = h.interleave; written = subst (AppendsPrefix out.octets after.octets) (lines_are (stress_config clients) h.bodies numbers h.counts) w.1 })
lines_end seed clients rounds numbers status.Usage out after h w = absurd w
lines_end seed clients rounds numbers status.Bad out after h w = absurd w
lines_end seed clients rounds numbers status.ReadFault out after h w = absurd w
lines_end seed clients rounds numbers status.BadConfig out after h w = absurd w
lines_end seed clients rounds numbers status.TooMuch out after h w = absurd w

-- where the sink doesn't fail, all is written or memory is wanting
done_or_wanting : (seed clients rounds : ℕ) (s : Status) (code : ℕ) (out after : Seen) → code ≡ code_of s → EndsStress seed clients rounds s out after → (Rose out.faults after.faults → ⊥)
    → (code ≡ 3) ⊎ ((code ≡ 0) × WritesCounts seed clients rounds out.octets after.octets)
done_or_wanting seed clients rounds status.Done code out after is e steady = inr (is, e.1)
done_or_wanting seed clients rounds status.Memory code out after is e steady = inl is
done_or_wanting seed clients rounds status.WriteFault code out after is e steady = absurd (steady e.0)
done_or_wanting seed clients rounds status.Usage code out after is e steady = absurd e
done_or_wanting seed clients rounds status.Bad code out after is e steady = absurd e
done_or_wanting seed clients rounds status.ReadFault code out after is e steady = absurd e
done_or_wanting seed clients rounds status.BadConfig code out after is e steady = absurd e
done_or_wanting seed clients rounds status.TooMuch code out after is e steady = absurd e

pub counted_with : (seed clients rounds workers : ℕ) (asked : Option Command) (s : Status) (code : ℕ) (input rest out after : Seen) → code ≡ code_of s → asked ≡ Some (Stress seed clients rounds workers)
    → Ends asked s input rest out after → (Rose out.faults after.faults → ⊥) → (code ≡ 3) ⊎ ((code ≡ 0) × WritesCounts seed clients rounds out.octets after.octets)
counted_with seed clients rounds workers asked s code input rest out after is e ends steady =
    done_or_wanting seed clients rounds s code out after is (subst (λ (x : Option Command). Ends x s input rest out after) e ends).1 steady
