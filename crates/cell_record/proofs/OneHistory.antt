-- A report has one history.
use Rattle.std.proofs.Common.{◌≡◌, ℕ, ◌+◌, ◌/◌, ◌%◌, ◌<◌, ◌≤◌, ◌^◌, ◌&&◌, Bool, true, false, if◌then◌else◌, List, [], ◌∷◌, ◌++◌, length, drop, get_or, flat_map, codes, refl, sym, ap, ◌∙◌, subst, arith, append_assoc, Some, None, Result, Ok, Err, nat_lt, nat_le, not}
use Rattle.std.proofs.lemmas.Bool.Decides.{nat_tests}
use Rattle.std.proofs.lemmas.Grind.{common_steps}
use Rattle.std.proofs.lemmas.List.{append_cancel_left}
use Rattle.std.proofs.lemmas.Fmt.{decimal_is_IsNumeral, decimal_injective}
use Rattle.std.proofs.lemmas.Str.Parse.{digit_from_value}
use Rattle.std.specs.Fmt.{decimal}
use Rattle.std.specs.List.{list_all}
use Rattle.std.specs.Str.Parse.{AllDigits, IsNumeral}
use Rattle.std.specs.declared.option.Option.{Option}
use Rattle.cell_io.specs.Hex.{upper, upper_digit}
use Rattle.mms_types.specs.Spelling.{is_name_octet, longest, is_identifier, is_spelled, begins_with_digit as begins}
use Rattle.mms_types.specs.declared.identifier.Edition.{Edition}
use Rattle.mms_types.specs.declared.event.What.{What}
use Rattle.mms_types.specs.declared.event.CellEvent.{CellEvent}
use Rattle.mms_types.specs.declared.event.CellEvent.TheVariants.{Heard, Lost, Tick, Ends, Drain}
use Rattle.cell_config.specs.declared.config.Config.{Config}
use Rattle.cell_config.specs.Said.{IsConfig}
use Rattle.cell_config.proofs.Holding.{configuration_holds}
use Rattle.cell_record.specs.Words.{between, content, trim, word_of, argument_of, is_remark, begins_with_digit, number_of, pairs_of}
use Rattle.cell_record.specs.EventLine.{IsRecorded, MayHappen, same, heard_of, lost_of, tick_of, worded, said_of}
use Rattle.cell_record.specs.Recording.{Place, Reading, Opened, Opening, behind, fits, refused, onto, fresh, unless, moved, refusal_of, makes, with_said, reading_of, config_in, config_of_text, after_opening, opening_of_text, reading_of_text}
use Rattle.cell_record.specs.Grammar.{text_of, Says, phases_of, ReadsRecording}
use Rattle.mms_types.specs.Actors.{clients_to}
use Rattle.cell_record.specs.History.{drains, Interleaves}
use Rattle.cell_record.specs.Report.{event_text, placed_line, served_line, sections, phase_head, placed_from, taken, report_from, report}
use Rattle.cell_record.specs.declared.said.LineMeaning.{LineMeaning}
use Rattle.cell_record.specs.declared.said.LineMeaning.TheVariants.{Nothing, Phase, Happens}
use Rattle.cell_record.specs.declared.counts.Counts.{Counts}
use Rattle.cell_record.specs.declared.refusal.BadWord.{BadWord}
use Rattle.cell_record.specs.declared.refusal.RecordError.{RecordError}
use Rattle.cell_record.specs.declared.refusal.RecordError.TheVariants.{TooMuch}
use Rattle.cell_record.proofs.Valid.{opened_holds}
use Rattle.cell_record.proofs.Bodies.{Each, same_length, each_of_body}

-- ---- texts that lack an octet, up to where it stands

abbrev pub Lacks : ℕ → List ℕ → Type 0
Lacks k [] = Unit {0}
Lacks k (x ∷ xs) = ¬ (x ≡ k) × Lacks k xs

pub lacks-append : (k : ℕ) (xs ys : List ℕ) → Lacks k xs → Lacks k ys → Lacks k (xs ++ ys)
lacks-append k [] ys h g = g
lacks-append k (x ∷ xs) ys h g = (h.0, lacks-append k xs ys h.1 g)

pub cut : (k : ℕ) (xs ys rs ss : List ℕ) → Lacks k xs → Lacks k ys → xs ++ k ∷ rs ≡ ys ++ k ∷ ss → (xs ≡ ys) × (rs ≡ ss)
cut k [] [] rs ss h g e = (refl, ap (drop 1) e)
cut k [] (y ∷ ys) rs ss h g e = absurd (g.0 (sym (ap (λ (l : List ℕ). get_or l 0 0) e)))
cut k (x ∷ xs) [] rs ss h g e = absurd (h.0 (ap (λ (l : List ℕ). get_or l 0 0) e))
cut k (x ∷ xs) (y ∷ ys) rs ss h g e =
    let first : x ≡ y = ap (λ (l : List ℕ). get_or l 0 0) e in
    let r = cut k xs ys rs ss h.1 g.1 (ap (drop 1) e) in
    (ap (λ (l : List ℕ). x ∷ l) r.0 ∙ ap (λ (n : ℕ). n ∷ ys) first, r.1)

-- ---- texts of numbers, octets and names

digits_lack : (k : ℕ) (xs : List ℕ) → k < 48 → AllDigits 10 xs → Lacks k xs
digits_lack k [] h d = tt
digits_lack k (x ∷ xs) h d = ((λ e. omega (arith, digit_from_value x d.0, h, e)), digits_lack k xs h d.1)

number_lacks : (k n : ℕ) → k < 48 → n < 2 ^ 64 → Lacks k (decimal n)
number_lacks k n h s = digits_lack k (decimal n) h (decimal_is_IsNumeral n s).0.1

numeral_first : (ds rest : List ℕ) → IsNumeral 10 ds → get_or (ds ++ rest) 0 0 ≤ 57
numeral_first [] rest d = absurd (omega (arith, d.0))
numeral_first (c ∷ cs) rest d = omega (arith, digit_from_value c d.1.0)

-- a number begins with no letter
number_first : (n : ℕ) (rest : List ℕ) → n < 2 ^ 64 → get_or (decimal n ++ rest) 0 0 ≤ 57
number_first n rest s = numeral_first (decimal n) rest (decimal_is_IsNumeral n s).0

digit_from : (n : ℕ) → 48 ≤ upper_digit n
digit_from n = grind (arith, nat_tests, common_steps)

digit_one : (m n : ℕ) → upper_digit m ≡ upper_digit n → m ≡ n
digit_one m n e = grind (arith, nat_tests, common_steps, e)

octets_lack : (k : ℕ) (os : List ℕ) → k < 48 → Lacks k (upper os)
octets_lack k [] h = tt
octets_lack k (o ∷ os) h = ((λ e. omega (arith, digit_from (o / 16), h, e)), ((λ e. omega (arith, digit_from (o % 16), h, e)), octets_lack k os h))

octets_one : (os ps : List ℕ) → upper os ≡ upper ps → os ≡ ps
octets_one [] [] e = refl
octets_one [] (p ∷ ps) e = absurd (omega (arith, ap length e))
octets_one (o ∷ os) [] e = absurd (omega (arith, ap length e))
octets_one (o ∷ os) (p ∷ ps) e =
    let high = digit_one (o / 16) (p / 16) (ap (λ (l : List ℕ). get_or l 0 0) e) in
    let low = digit_one (o % 16) (p % 16) (ap (λ (l : List ℕ). get_or l 1 0) e) in
    let here : o ≡ p = omega (arith, high, low) in
    ap (λ (n : ℕ). n ∷ os) here ∙ ap (λ (l : List ℕ). p ∷ l) (octets_one os ps (ap (drop 2) e))

both : (a b : Bool) → (a && b) ≡ true → (a ≡ true) × (b ≡ true)
both true b e = (refl, e)
both false b e = cc

name_octets_lack : (xs : List ℕ) → list_all is_name_octet xs ≡ true → Lacks 10 xs
name_octets_lack [] h = tt
name_octets_lack (x ∷ xs) h =
    let t = both (is_name_octet x) (list_all is_name_octet xs) h in
    ((λ e. let feed : is_name_octet 10 ≡ true = subst (λ (n : ℕ). is_name_octet n ≡ true) e t.0 in cc), name_octets_lack xs t.1)

name_lacks : (edition : Edition) (name : List ℕ) → is_identifier edition name ≡ true → Lacks 10 name
name_lacks edition name h =
    let spelled = (both (nat_lt 0 (length name) && nat_le (length name) (longest edition)) (is_spelled name) h).1 in
    name_octets_lack name (both (not (begins name)) (list_all is_name_octet name) spelled).1

-- ---- the text of an event

heard_text : (c : ℕ) (os : List ℕ) → event_text (Heard c os) ≡ decimal c ++ 32 ∷ upper os
heard_text c os = append_assoc (decimal c) (32 ∷ []) (upper os)

at_most : (low high n : ℕ) → between low high n ≡ true → n ≤ high
at_most low high n h = let t = (both (nat_le low n) (nat_le n high) h).1 in grind (arith, nat_tests, t)

event_lacks : (config : Config) (e : CellEvent) → config.clients < 2 ^ 64 → IsRecorded config e → Lacks 10 (event_text e)
event_lacks n (Heard c os) s h = subst (Lacks 10) (sym (heard_text c os)) (lacks-append 10 (decimal c) (32 ∷ upper os) (number_lacks 10 c (omega arith) (omega (arith, s, at_most 1 n.clients c h.0))) ((λ e. omega (arith, e)), octets_lack 10 os (omega arith)))
event_lacks n (Lost c) s h = lacks-append 10 (codes "lost ") (decimal c) ((λ e. omega (arith, e)), ((λ e. omega (arith, e)), ((λ e. omega (arith, e)), ((λ e. omega (arith, e)), ((λ e. omega (arith, e)), tt))))) (number_lacks 10 c (omega arith) (omega (arith, s, at_most 1 n.clients c h)))
event_lacks n (Tick ms) s h = lacks-append 10 (codes "tick ") (decimal ms) ((λ e. omega (arith, e)), ((λ e. omega (arith, e)), ((λ e. omega (arith, e)), ((λ e. omega (arith, e)), ((λ e. omega (arith, e)), tt))))) (number_lacks 10 ms (omega arith) (omega (arith, at_most 1 3600000 ms h)))
event_lacks n (Ends name) s h = lacks-append 10 (codes "ends ") name ((λ e. omega (arith, e)), ((λ e. omega (arith, e)), ((λ e. omega (arith, e)), ((λ e. omega (arith, e)), ((λ e. omega (arith, e)), tt))))) (name_lacks n.edition name h)
event_lacks n (Drain c) s h = absurd h

abbrev first : List ℕ → ℕ
first text = get_or text 0 0

-- equal texts are of equal events
event_one : (n : Config) (e f : CellEvent) → n.clients < 2 ^ 64 → IsRecorded n e → IsRecorded n f → event_text e ≡ event_text f → e ≡ f
event_one n (Heard c os) (Heard d ps) s h g e =
    let c_small : c < 2 ^ 64 = omega (arith, s, at_most 1 n.clients c h.0) in
    let d_small : d < 2 ^ 64 = omega (arith, s, at_most 1 n.clients d g.0) in
    let t = cut 32 (decimal c) (decimal d) (upper os) (upper ps) (number_lacks 32 c (omega arith) c_small) (number_lacks 32 d (omega arith) d_small) (sym (heard_text c os) ∙ e ∙ heard_text d ps) in
    ap (λ (k : ℕ). Heard k os) (decimal_injective c d c_small d_small t.0) ∙ ap (λ (l : List ℕ). Heard d l) (octets_one os ps t.1)
event_one n (Heard c os) (Lost d) s h g e = absurd (omega (arith, number_first c (32 ∷ upper os) (omega (arith, s, at_most 1 n.clients c h.0)), ap first (sym (heard_text c os) ∙ e)))
event_one n (Heard c os) (Tick d) s h g e = absurd (omega (arith, number_first c (32 ∷ upper os) (omega (arith, s, at_most 1 n.clients c h.0)), ap first (sym (heard_text c os) ∙ e)))
event_one n (Heard c os) (Ends d) s h g e = absurd (omega (arith, number_first c (32 ∷ upper os) (omega (arith, s, at_most 1 n.clients c h.0)), ap first (sym (heard_text c os) ∙ e)))
event_one n (Heard c os) (Drain d) s h g e = absurd g
event_one n (Lost c) (Heard d ps) s h g e = absurd (omega (arith, number_first d (32 ∷ upper ps) (omega (arith, s, at_most 1 n.clients d g.0)), ap first (e ∙ heard_text d ps)))
event_one n (Lost c) (Lost d) s h g e = ap Lost (decimal_injective c d (omega (arith, s, at_most 1 n.clients c h)) (omega (arith, s, at_most 1 n.clients d g)) (ap (drop 5) e))
event_one n (Lost c) (Tick d) s h g e = absurd (omega (arith, ap first e))
event_one n (Lost c) (Ends d) s h g e = absurd (omega (arith, ap first e))
event_one n (Lost c) (Drain d) s h g e = absurd g
event_one n (Tick c) (Heard d ps) s h g e = absurd (omega (arith, number_first d (32 ∷ upper ps) (omega (arith, s, at_most 1 n.clients d g.0)), ap first (e ∙ heard_text d ps)))
event_one n (Tick c) (Lost d) s h g e = absurd (omega (arith, ap first e))
event_one n (Tick c) (Tick d) s h g e = ap Tick (decimal_injective c d (omega (arith, at_most 1 3600000 c h)) (omega (arith, at_most 1 3600000 d g)) (ap (drop 5) e))
event_one n (Tick c) (Ends d) s h g e = absurd (omega (arith, ap first e))
event_one n (Tick c) (Drain d) s h g e = absurd g
event_one n (Ends c) (Heard d ps) s h g e = absurd (omega (arith, number_first d (32 ∷ upper ps) (omega (arith, s, at_most 1 n.clients d g.0)), ap first (e ∙ heard_text d ps)))
event_one n (Ends c) (Lost d) s h g e = absurd (omega (arith, ap first e))
event_one n (Ends c) (Tick d) s h g e = absurd (omega (arith, ap first e))
event_one n (Ends c) (Ends d) s h g e = ap Ends (ap (drop 5) e)
event_one n (Ends c) (Drain d) s h g e = absurd g
event_one n (Drain c) f s h g e = absurd h

-- ---- the lines of a body

line_form : (number text : List ℕ) → ((number ++ 32 ∷ []) ++ text) ++ 10 ∷ [] ≡ number ++ 32 ∷ (text ++ 10 ∷ [])
line_form number text = append_assoc (number ++ 32 ∷ []) text (10 ∷ []) ∙ append_assoc number (32 ∷ []) (text ++ 10 ∷ [])

printed : (n : Config) (place : ℕ) (e : CellEvent) → IsRecorded n e → placed_line place e ≡ decimal place ++ 32 ∷ (event_text e ++ 10 ∷ [])
printed n place (Heard c os) h = line_form (decimal place) (event_text (Heard c os))
printed n place (Lost c) h = line_form (decimal place) (event_text (Lost c))
printed n place (Tick ms) h = line_form (decimal place) (event_text (Tick ms))
printed n place (Ends name) h = line_form (decimal place) (event_text (Ends name))
printed n place (Drain c) h = absurd h

line_first : (n : Config) (place : ℕ) (e : CellEvent) (lines rest : List ℕ) → IsRecorded n e → (placed_line place e ++ lines) ++ rest ≡ decimal place ++ 32 ∷ (event_text e ++ 10 ∷ (lines ++ rest))
line_first n place e lines rest h =
    rw (printed n place e h)
    (append_assoc (decimal place ++ 32 ∷ (event_text e ++ 10 ∷ [])) lines rest ∙ append_assoc (decimal place) (32 ∷ (event_text e ++ 10 ∷ [])) (lines ++ rest)
    ∙ ap (λ (l : List ℕ). decimal place ++ 32 ∷ l) (append_assoc (event_text e) (10 ∷ []) (lines ++ rest)))

abbrev lines_from : ℕ → List CellEvent → List ℕ
lines_from place body = flat_map served_line (placed_from place body)

lines_one : (n : Config) (place : ℕ) (xs ys : List CellEvent) (rs ss : List ℕ) → n.clients < 2 ^ 64 → Each (IsRecorded n) xs → Each (IsRecorded n) ys → length xs ≡ length ys → lines_from place xs ++ rs ≡ lines_from place ys ++ ss → (xs ≡ ys) × (rs ≡ ss)
lines_one n place [] [] rs ss s h g l e = (refl, e)
lines_one n place [] (y ∷ ys) rs ss s h g l e = absurd (omega (arith, l))
lines_one n place (x ∷ xs) [] rs ss s h g l e = absurd (omega (arith, l))
lines_one n place (x ∷ xs) (y ∷ ys) rs ss s h g l e =
    let whole = sym (line_first n place x (lines_from (place + 1) xs) rs h.0) ∙ e ∙ line_first n place y (lines_from (place + 1) ys) ss g.0 in
    let behind = ap (drop 1) (append_cancel_left (decimal place) _ _ whole) in
    let t = cut 10 (event_text x) (event_text y) (lines_from (place + 1) xs ++ rs) (lines_from (place + 1) ys ++ ss) (event_lacks n x s h.0) (event_lacks n y s g.0) behind in
    let r = lines_one n (place + 1) xs ys rs ss s h.1 g.1 (omega (arith, l)) t.1 in
    (ap (λ (k : CellEvent). k ∷ xs) (event_one n x y s h.0 g.0 t.0) ∙ ap (λ (k : List CellEvent). y ∷ k) r.0, r.1)

-- ---- what a recording's phases hold

abbrev IsSaid : Config → Result LineMeaning BadWord → Type 0
IsSaid config (Ok said) = MayHappen config said
IsSaid config (Err word) = Unit {0}

either : (n : Config) (b : Bool) (x y : Result LineMeaning BadWord) → (b ≡ true → IsSaid n x) → (b ≡ false → IsSaid n y) → IsSaid n (if b then x else y)
either n true x y h g = h refl
either n false x y h g = g refl

heard_said : (n : Config) (c : Option ℕ) (os : Option (List ℕ)) → IsSaid n (heard_of n c os)
heard_said n None os = tt
heard_said n (Some c) None = tt
heard_said n (Some c) (Some os) = either n (between 1 65000 (length os)) _ _ (λ l. either n (between 1 n.clients c) _ _ (λ k. (k, l)) (λ _. tt)) (λ _. tt)

lost_said : (n : Config) (c : Option ℕ) → IsSaid n (lost_of n c)
lost_said n None = tt
lost_said n (Some c) = either n (between 1 n.clients c) _ _ (λ k. k) (λ _. tt)

tick_said : (n : Config) (ms : Option ℕ) → IsSaid n (tick_of ms)
tick_said n None = tt
tick_said n (Some ms) = either n (between 1 3600000 ms) _ _ (λ k. k) (λ _. tt)

worded_said : (n : Config) (line word argument : List ℕ) → IsSaid n (worded n line word argument)
worded_said n line word argument =
    either n (same line (codes "phase")) _ _ (λ _. tt)
    (λ _. either n (same word (codes "lost")) _ _ (λ _. lost_said n (number_of argument))
    (λ _. either n (same word (codes "tick")) _ _ (λ _. tick_said n (number_of argument))
    (λ _. either n (same word (codes "ends")) _ _ (λ _. either n (is_identifier n.edition argument) _ _ (λ k. k) (λ _. tt)) (λ _. tt))))

line_said : (n : Config) (line : List ℕ) → IsSaid n (said_of n line)
line_said n line =
    let t = trim line in
    either n (nat_lt 196608 (length line)) _ _ (λ _. tt)
    (λ _. either n (begins_with_digit t) _ _ (λ _. heard_said n (number_of (word_of t)) (pairs_of (argument_of t)))
    (λ _. either n (is_remark t) _ _ (λ _. tt) (λ _. worded_said n t (word_of t) (argument_of t))))

onto_recorded : (n : Config) (e : CellEvent) (phases : List (List CellEvent)) → IsRecorded n e → Each (Each (IsRecorded n)) phases → Each (Each (IsRecorded n)) (onto e phases)
onto_recorded n e [] h g = g
onto_recorded n e (p ∷ ps) h g = ((h, g.0), g.1)

said_more : (n : Config) (s : LineMeaning) (more : List LineMeaning) → MayHappen n s → Each (Each (IsRecorded n)) (phases_of more) → Each (Each (IsRecorded n)) (phases_of (s ∷ more))
said_more n Nothing more h g = g
said_more n Phase more h g = (tt, g)
said_more n (Happens e) more h g = onto_recorded n e (phases_of more) h g

phases_recorded : (n : Config) (lines : List (List ℕ)) (said : List LineMeaning) → Says n lines said → Each (Each (IsRecorded n)) (phases_of said)
phases_recorded n [] [] h = (tt, tt)
phases_recorded n [] (s ∷ more) h = absurd h
phases_recorded n (l ∷ ls) [] h = absurd h
phases_recorded n (l ∷ ls) (s ∷ more) h = said_more n s more (subst (IsSaid n) h.0 (line_said n (content l))) (phases_recorded n ls more h.1)

-- ---- the report

regrouped : (a b c d : List ℕ) → (a ++ (b ++ c)) ++ d ≡ a ++ (b ++ (c ++ d))
regrouped a b c d = append_assoc a (b ++ c) d ∙ ap (λ (l : List ℕ). a ++ l) (append_assoc b c d)

from_one : (said : List CellEvent → ℕ → List What) (n : ℕ) (m : Config) (number : ℕ) (before : List CellEvent) (phases xs ys : List (List CellEvent)) → m.clients < 2 ^ 64 → Each (Each (IsRecorded m)) phases → Interleaves xs phases → Interleaves ys phases
    → report_from said n number before xs ≡ report_from said n number before ys → xs ≡ ys
from_one said n m number before [] [] [] s a i j e = refl
from_one said n m number before [] [] (y ∷ ys) s a i j e = absurd j
from_one said n m number before [] (x ∷ xs) ys s a i j e = absurd i
from_one said n m number before (p ∷ ps) [] ys s a i j e = absurd i
from_one said n m number before (p ∷ ps) (x ∷ xs) [] s a i j e = absurd j
from_one said n m number before (p ∷ ps) (x ∷ xs) (y ∷ ys) s a i j e =
    let sent : List CellEvent → List ℕ = λ b. sections 1 (taken said (before ++ b) (clients_to n)) in
    let later : List CellEvent → List (List CellEvent) → List ℕ = λ b rest. report_from said n (number + 1) (before ++ (b ++ drains (clients_to n))) rest in
    let place = length before + 1 in
    let whole = sym (regrouped (phase_head number) (lines_from place x) (sent x) (later x xs)) ∙ e ∙ regrouped (phase_head number) (lines_from place y) (sent y) (later y ys) in
    let body = lines_one m place x y (sent x ++ later x xs) (sent y ++ later y ys) s (each_of_body (IsRecorded m) x p i.0 a.0) (each_of_body (IsRecorded m) y p j.0 a.0) (same_length x y (λ k. i.0.each k ∙ sym (j.0.each k)))
    (append_cancel_left (phase_head number) _ _ whole) in
    let behind = append_cancel_left (sent x) _ _ (body.1 ∙ sym (ap (λ (b : List CellEvent). sent b ++ later b ys) body.0)) in
    let rest = from_one said n m (number + 1) (before ++ (x ++ drains (clients_to n))) ps xs ys s a.1 i.1 j.1 behind in
    ap (λ (b : List CellEvent). b ∷ xs) body.0 ∙ ap (λ (r : List (List CellEvent)). y ∷ r) rest

pub one_history : (said : List CellEvent → ℕ → List What) (text : List ℕ) (configured : Config) (phases bodies others : List (List CellEvent)) → ReadsRecording text configured phases → Interleaves bodies phases → Interleaves others phases
    → report said configured.clients bodies ≡ report said configured.clients others → bodies ≡ others
one_history said text configured phases bodies others r i j e =
    let n = configured.clients in
    let few = (configuration_holds configured.edition (text_of r.setup) configured r.rules r.says).few_clients in
    from_one said n configured 1 [] phases bodies others (omega (arith, few)) (subst (Each (Each (IsRecorded configured))) (sym r.split) (phases_recorded configured r.body r.said r.each)) i j e

-- ---- what any text says, also one that is refused or cut

makes_recorded : (n : Config) (s : LineMeaning) (r : Reading) → MayHappen n s → Each (Each (IsRecorded n)) r.phases → Each (Each (IsRecorded n)) (makes s r).phases
makes_recorded n Nothing r h g = g
makes_recorded n Phase r h g = (tt, g)
makes_recorded n (Happens e) r h g = onto_recorded n e r.phases h g

unless_recorded : (n : Config) (o : Option RecordError) (r : Reading) → Each (Each (IsRecorded n)) r.phases → Each (Each (IsRecorded n)) (unless o r).phases
unless_recorded n None r g = g
unless_recorded n (Some e) r g = tt

with_recorded : (n : Config) (line : ℕ) (c : Counts) (s : Result LineMeaning BadWord) (rest : Counts → Reading) → IsSaid n s → ((d : Counts) → Each (Each (IsRecorded n)) (rest d).phases) → Each (Each (IsRecorded n)) (with_said line c s rest).phases
with_recorded n line c (Err word) rest h g = tt
with_recorded n line c (Ok s) rest h g = unless_recorded n (refusal_of line (moved c s) s) (makes s (rest (moved c s))) (makes_recorded n s (rest (moved c s)) h (g (moved c s)))

if_recorded : (n : Config) (b : Bool) (r : Reading) (e : RecordError) → Each (Each (IsRecorded n)) r.phases → Each (Each (IsRecorded n)) (if b then r else refused e).phases
if_recorded n true r e g = g
if_recorded n false r e g = tt

reading_recorded : (n : Config) (lines : List (List ℕ)) (p : Place) (c : Counts) → Each (Each (IsRecorded n)) (reading_of n lines p c).phases
reading_recorded n [] p c = (tt, tt)
reading_recorded n (l ∷ ls) p c =
    let rest : Counts → Reading = λ d. reading_of n ls (behind p l) d in
    if_recorded n (fits p l) (with_said (p.lines + 1) c (said_of n (content l)) rest) (TooMuch (p.lines + 1))
    (with_recorded n (p.lines + 1) c (said_of n (content l)) rest (line_said n (content l)) (λ d. reading_recorded n ls (behind p l) d))

front_each : (P : List CellEvent → Type 0) (done rest : List (List CellEvent)) → Each P (done ++ rest) → Each P done
front_each P [] rest h = tt
front_each P (x ∷ xs) rest h = (h.0, front_each P xs rest h.1)

opened_as : (x : Opening) (config : Config) → config_in x ≡ Some config → (o : Opened) × (x ≡ Ok o) × (o.config ≡ config)
opened_as (Err e) config c = cc
opened_as (Ok o) config c = (o, refl, cc)

-- what a text tells is a configuration
pub told_holds : (text : List ℕ) (configured : Config) → config_of_text text ≡ Some configured → IsConfig configured
told_holds text configured c =
    let x = opened_as (opening_of_text text) configured c in
    subst IsConfig x.2 (opened_holds text x.0 x.1)

pub one_history_so_far : (said : List CellEvent → ℕ → List What) (text : List ℕ) (configured : Config) (done rest bodies others : List (List CellEvent)) → config_of_text text ≡ Some configured → (reading_of_text text).phases ≡ done ++ rest
    → Interleaves bodies done → Interleaves others done → report said configured.clients bodies ≡ report said configured.clients others → bodies ≡ others
one_history_so_far said text configured done rest bodies others c f i j e =
    let x = opened_as (opening_of_text text) configured c in
    let o = x.0 in
    let holds : IsConfig configured = told_holds text configured c in
    let all : Each (Each (IsRecorded o.config)) (reading_of_text text).phases =
    subst (λ (y : Opening). Each (Each (IsRecorded o.config)) (after_opening y).phases) (sym x.1) (reading_recorded o.config o.rest o.place (fresh o.config.start.0)) in
    let of_text : Each (Each (IsRecorded configured)) (reading_of_text text).phases = subst (λ (n : Config). Each (Each (IsRecorded n)) (reading_of_text text).phases) x.2 all in
    let recorded = front_each (Each (IsRecorded configured)) done rest (subst (Each (Each (IsRecorded configured))) f of_text) in
    from_one said configured.clients configured 1 [] done bodies others (omega (arith, holds.few_clients)) recorded i j e
