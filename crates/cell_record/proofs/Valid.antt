-- The texts that are recordings are those that are read.
use Rattle.std.proofs.Common.{◌≡◌, ℕ, ◌+◌, ◌<◌, ◌≤◌, ◌||◌, Bool, true, false, List, [], ◌∷◌, ◌++◌, length, codes, refl, sym, ap, ◌∙◌, subst, arith, append_assoc, append-nil, length-append, Some, None, Result, Ok, Err, nat_lt, nat_eq, if◌then◌else◌, ◌↔◌}
use Rattle.std.proofs.lemmas.Bool.Decides.{nat_tests}
use Rattle.std.proofs.lemmas.Grind.{common_steps}
use Rattle.std.specs.Cmp.Lexicographic.{pointwise}
use Rattle.std.specs.declared.option.Option.{Option}
use Rattle.cell_io.specs.Lines.{lines_of, onto_first}
use Rattle.mms_types.specs.declared.event.CellEvent.{CellEvent}
use Rattle.std.specs.Option.{option_map}
use Rattle.cell_config.specs.declared.config.Config.{Config}
use Rattle.mms_types.specs.declared.identifier.Edition.{Edition}
use Rattle.cell_config.specs.Rules.{document_of, least_broken}
use Rattle.cell_config.specs.Said.{config_of, IsConfig}
use Rattle.cell_config.proofs.Holding.{configuration_holds, edition_of}
use Rattle.cell_record.specs.Words.{content}
use Rattle.cell_record.specs.EventLine.{same, said_of}
use Rattle.cell_record.specs.Recording.{Place, Reading, Opened, Opening, behind, front, fits, refused, onto, with_event, with_phase, fresh, counted, is_past, excess, unless, with_said, reading_of, header_of, headed, under, setup_in, expected, in_text, size_in_text, setup_word, unless_word, opened, opened_unless, configured, config_in, config_of_text, setup_of, opening_of, after_opening, reading_of_text, opening_of_text, ms_in, octets_in}
use Rattle.cell_record.specs.Grammar.{AreShort, text_of, Says, phases_of, all_ms, AreFew, ReadsRecording}
use Rattle.cell_record.specs.declared.said.LineMeaning.{LineMeaning}
use Rattle.cell_record.specs.declared.said.LineMeaning.TheVariants.{Nothing, Phase, Happens}
use Rattle.cell_record.specs.declared.counts.Counts.{Counts}
use Rattle.cell_record.specs.declared.refusal.BadWord.{BadWord}
use Rattle.cell_record.specs.declared.refusal.BadWord.TheVariants as bad
use Rattle.cell_record.specs.declared.refusal.RecordError.{RecordError}
use Rattle.cell_record.specs.declared.refusal.RecordError.TheVariants.{Bad, TooMuch}
use Rattle.cell_record.proofs.Kept.{no_word, short_size}

-- ---- texts and sizes

pub same_text : (xs ys : List ℕ) → (pointwise nat_eq xs ys ≡ true) ↔ (xs ≡ ys)
same_text [] [] = (λ e. refl, λ e. refl)
same_text [] (y ∷ ys) = (λ e. cc, λ e. cc)
same_text (x ∷ xs) [] = (λ e. cc, λ e. cc)
same_text (x ∷ xs) (y ∷ ys) = let ih = same_text xs ys in (λ e. grind (arith, nat_tests, common_steps, ih.0), λ e. grind (arith, nat_tests, common_steps, ih.1))

abbrev total : List (List ℕ) → ℕ
total [] = 0
total (line ∷ lines) = length line + total lines

total-onto : (b : ℕ) (ls : List (List ℕ)) → total (onto_first b ls) ≡ 1 + total ls
total-onto b [] = refl
total-onto b (l ∷ ls) = omega arith

total_is : (text : List ℕ) → total (lines_of text) ≡ length text
total_is [] = refl
total_is (b ∷ bs) = grind (arith, nat_tests, common_steps, total_is bs, total-onto b (lines_of bs))

fit : (p : Place) (l : List ℕ) → p.octets + length l ≤ 4294967296 → fits p l ≡ true
fit p l h = grind (arith, nat_tests, h)

fit_is : (p : Place) (l : List ℕ) → fits p l ≡ true → p.octets + length l ≤ 4294967296
fit_is p l h = grind (arith, nat_tests, h)

abbrev place_after : Place → List (List ℕ) → Place
place_after p [] = p
place_after p (l ∷ ls) = place_after (behind p l) ls

-- ---- a recording is read: its event lines

onto_some : (e : CellEvent) (ps : List (List CellEvent)) → 0 < length ps → 0 < length (onto e ps)
onto_some e [] s = absurd (omega (arith, s))
onto_some e (p ∷ ps) s = omega arith

pub some_phase : (ss : List LineMeaning) → 0 < length (phases_of ss)
some_phase [] = omega arith
some_phase (Nothing ∷ ss) = some_phase ss
some_phase (Phase ∷ ss) = omega arith
some_phase (Happens e ∷ ss) = onto_some e (phases_of ss) (some_phase ss)

onto-few : (n o : ℕ) (e : CellEvent) (ps : List (List CellEvent)) → AreFew n o (onto e ps) → AreFew (n + 1) (o + octets_in e) ps
onto-few n o e [] h = tt
onto-few n o e (p ∷ ps) h = (omega (arith, h.0), omega (arith, h.1), h.2)

first_few : (n o : ℕ) (e : CellEvent) (ps : List (List CellEvent)) → 0 < length ps → AreFew n o (onto e ps) → (n + 1 ≤ 16384) × (o + octets_in e ≤ 67108864)
first_few n o e [] s h = absurd (omega (arith, s))
first_few n o e (p ∷ ps) s h = (omega (arith, h.0), omega (arith, h.1))

onto-ms : (e : CellEvent) (ps : List (List CellEvent)) → 0 < length ps → all_ms (onto e ps) ≡ ms_in e + all_ms ps
onto-ms e [] s = absurd (omega (arith, s))
onto-ms e (p ∷ ps) s = omega arith

no_excess : (line : ℕ) (c : Counts) → c.events ≤ 16384 → c.octets ≤ 67108864 → c.moment ≤ 5662310399999 → excess line c ≡ None
no_excess line c a b m =
    let past : is_past c ≡ false = grind (arith, nat_tests, m) in
    let events : nat_lt 16384 c.events ≡ false = grind (arith, nat_tests, a) in
    let octets : nat_lt 67108864 c.octets ≡ false = grind (arith, nat_tests, b) in
    rw (past, events, octets) refl

reads : (config : Config) (lines : List (List ℕ)) (p : Place) (c : Counts) (ss : List LineMeaning) → Says config lines ss → AreFew c.events c.octets (phases_of ss) → c.moment + all_ms (phases_of ss) ≤ 5662310399999 → p.octets + total lines ≤ 4294967296
    → reading_of config lines p c ≡ record { phases = phases_of ss; refusal = None }
reads n [] p c [] h f m t = refl
reads n [] p c (s ∷ ss) h f m t = absurd h
reads n (l ∷ ls) p c [] h f m t = absurd h
reads n (l ∷ ls) p c (Nothing ∷ ss) h f m t =
    rw (fit p l (omega (arith, t)), h.0) (reads n ls (behind p l) c ss h.1 f m (omega (arith, t)))
reads n (l ∷ ls) p c (Phase ∷ ss) h f m t =
    rw (fit p l (omega (arith, t)), h.0) (ap (with_phase []) (reads n ls (behind p l) (fresh c.moment) ss h.1 f.2 (omega (arith, m)) (omega (arith, t))))
reads n (l ∷ ls) p c (Happens e ∷ ss) h f m t =
    let some = some_phase ss in
    let small = first_few c.events c.octets e (phases_of ss) some f in
    let ms = onto-ms e (phases_of ss) some in
    let d = counted c e in
    rw (fit p l (omega (arith, t)), h.0, no_excess (p.lines + 1) d small.0 small.1 (omega (arith, m, ms)))
    (ap (with_event e) (reads n ls (behind p l) d ss h.1 (onto-few c.events c.octets e (phases_of ss) f) (omega (arith, m, ms)) (omega (arith, t))))

-- ---- and the lines before them

decide : (b : Bool) → (P : Type 0) → (b ≡ true → P) → (b ≡ false → P) → P
decide true P t f = t refl
decide false P t f = f refl

no_end : (l : List ℕ) → ¬ (content l ≡ codes "end") → same (content l) (codes "end") ≡ false
no_end l h = decide (same (content l) (codes "end")) (same (content l) (codes "end") ≡ false) (λ t. absurd (h ((same_text (content l) (codes "end")).0 t))) (λ f. f)

more_text : (text : List ℕ) (l : List ℕ) (ls : List (List ℕ)) → (text ++ in_text l) ++ text_of ls ≡ text ++ text_of (l ∷ ls)
more_text text l ls = append_assoc text (in_text l) (text_of ls)

reads_setup : (edition : Edition) (setup body : List (List ℕ)) (last : List ℕ) (p : Place) (text : List ℕ) → AreShort setup → content last ≡ codes "end" → length (text ++ text_of setup) ≤ 1048576 → p.octets + total (setup ++ last ∷ body) ≤ 4294967296
    → setup_of edition (setup ++ last ∷ body) p text ≡ configured edition (text ++ text_of setup) body (behind (place_after p setup) last)
reads_setup edition [] body last p text h e s t =
    let is : same (content last) (codes "end") ≡ true = (same_text (content last) (codes "end")).1 e in
    rw (fit p last (omega (arith, t)), is) (ap (λ (x : List ℕ). configured edition x body (behind p last)) (sym (append-nil text)))
reads_setup edition (l ∷ ls) body last p text h e s t =
    let more = more_text text l ls in
    let size = short_size (length l) l h.0 in
    let sum = length-append (text ++ in_text l) (text_of ls) in
    let one = length-append text (in_text l) in
    let within : length text + size_in_text l ≤ 1048576 = omega (arith, s, ap length more, sum, one, size) in
    let few : nat_lt 1048576 (length text + size_in_text l) ≡ false = grind (arith, nat_tests, within) in
    let rest = reads_setup edition ls body last (behind p l) (text ++ in_text l) h.2 e (omega (arith, s, ap length more)) (omega (arith, t)) in
    rw (fit p l (omega (arith, t)), no_end l h.1, few, h.0) (rest ∙ ap (λ (x : List ℕ). configured edition x body (behind (place_after (behind p l) ls) last)) more)

configured_is : (edition : Edition) (text : List ℕ) (config : Config) (lines : List (List ℕ)) (p : Place) → least_broken edition text ≡ None → option_map (config_of edition) (document_of text) ≡ Some config → configured edition text lines p ≡ opened config lines p
configured_is edition text config lines p r s = rw (r, s) refl

octets_after : (setup body : List (List ℕ)) (last : List ℕ) (p : Place) → (behind (place_after p setup) last).octets + total body ≡ p.octets + total (setup ++ last ∷ body)
octets_after [] body last p = omega arith
octets_after (l ∷ ls) body last p = let k = octets_after ls body last (behind p l) in omega (arith, k)

pub recording_is_read : (text : List ℕ) (config : Config) (phases : List (List CellEvent)) → ReadsRecording text config phases → (config_of_text text ≡ Some config) × (reading_of_text text ≡ record { phases = phases; refusal = None })
recording_is_read text config phases r =
    let p = front in
    let q = behind (behind p r.header) r.config in
    let o = behind (place_after q r.setup) r.last in
    let whole : length r.header + (length r.config + total (r.setup ++ r.last ∷ r.body)) ≤ 4294967296 = omega (arith, ap total (sym r.lines), total_is text, r.size) in
    let named : same (content r.config) (codes "config") ≡ true = (same_text (content r.config) (codes "config")).1 r.is_config in
    let setup = reads_setup config.edition r.setup r.body r.last q [] r.short r.is_end r.small (omega (arith, whole)) ∙ configured_is config.edition (text_of r.setup) config r.body o r.rules r.says in
    let opening : opening_of_text text ≡ opened config r.body o =
    ap (λ (ls : List (List ℕ)). opening_of ls p) r.lines
    ∙ rw (fit p r.header (omega (arith, whole)), r.is_header, fit (behind p r.header) r.config (omega (arith, whole)), named) setup in
    let body = reads config r.body o (fresh config.start.0) r.said r.each (subst (AreFew 0 0) r.split r.few) (omega (arith, r.clock, ap all_ms r.split)) (omega (arith, whole, octets_after r.setup r.body r.last q)) in
    (ap config_in opening, ap after_opening opening ∙ body ∙ ap (λ (ps : List (List CellEvent)). record { phases = ps; refusal = None }) (sym r.split))

-- ---- a text that is read is a recording: its event lines

few-onto : (n o : ℕ) (e : CellEvent) (ps : List (List CellEvent)) → AreFew (n + 1) (o + octets_in e) ps → AreFew n o (onto e ps)
few-onto n o e [] h = tt
few-onto n o e (p ∷ ps) h = (omega (arith, h.0), omega (arith, h.1), h.2)

pub record IsRead (config : Config) (octets : ℕ) (c : Counts) (lines : List (List ℕ)) (phases : List (List CellEvent)) : Type 0 where
  pub said : List LineMeaning
  pub each : Says config lines said
  pub split : phases ≡ phases_of said
  pub few : AreFew c.events c.octets phases
  pub clock : c.moment + all_ms phases ≤ 5662310399999
  pub size : octets + total lines ≤ 4294967296

true_false : true ≡ false → ⊥
true_false e = cc

no_refusal : (r : Reading) → r.refusal ≡ None → r ≡ record { phases = r.phases; refusal = None }
no_refusal r e = ap (λ (o : Option RecordError). record { phases = r.phases; refusal = o }) e

is_within : (line : ℕ) (c : Counts) → excess line c ≡ None → (c.events ≤ 16384) × (c.octets ≤ 67108864) × (c.moment ≤ 5662310399999)
is_within line c h = three (nat_lt 5662310399999 c.moment) (nat_lt 16384 c.events) (nat_lt 67108864 c.octets) refl refl refl h
  where
    three : (a b d : Bool) → nat_lt 5662310399999 c.moment ≡ a → nat_lt 16384 c.events ≡ b → nat_lt 67108864 c.octets ≡ d → (if a then Some (Bad line bad.Clock) else if (b || d) then Some (TooMuch line) else None) ≡ None
        → (c.events ≤ 16384) × (c.octets ≤ 67108864) × (c.moment ≤ 5662310399999)
    three true b d x y z e = cc
    three false true d x y z e = cc
    three false false true x y z e = cc
    three false false false x y z e = (grind (arith, nat_tests, y), grind (arith, nat_tests, z), grind (arith, nat_tests, x))

unless_none : (o : Option RecordError) (r : Reading) (phases : List (List CellEvent)) → unless o r ≡ record { phases = phases; refusal = None } → (o ≡ None) × (r ≡ record { phases = phases; refusal = None })
unless_none None r phases h = (refl, h)
unless_none (Some e) r phases h = let k = ap (λ (r : Reading). r.refusal) h in cc

fits_line : (phases : List (List CellEvent)) (b : Bool) (r : Reading) (e : RecordError) → (if b then r else refused e) ≡ record { phases = phases; refusal = None } → (b ≡ true) × (r ≡ record { phases = phases; refusal = None })
fits_line phases true r e h = (refl, h)
fits_line phases false r e h = let k = ap (λ (r : Reading). r.refusal) h in cc

onto_ms : (e : CellEvent) (ps : List (List CellEvent)) (m : ℕ) → m + ms_in e ≤ 5662310399999 → m + ms_in e + all_ms ps ≤ 5662310399999 → m + all_ms (onto e ps) ≤ 5662310399999
onto_ms e [] m h k = omega (arith, h)
onto_ms e (p ∷ ps) m h k = omega (arith, k)

read_line : (n : Config) (l : List ℕ) (ls : List (List ℕ)) (p : Place) (c : Counts) (phases : List (List CellEvent)) (rest : Counts → Reading) (s : Result LineMeaning BadWord) → (c.events ≤ 16384) × (c.octets ≤ 67108864) × (c.moment ≤ 5662310399999)
    → said_of n (content l) ≡ s
    → ((d : Counts) (ps : List (List CellEvent)) → (d.events ≤ 16384) × (d.octets ≤ 67108864) × (d.moment ≤ 5662310399999) → rest d ≡ record { phases = ps; refusal = None } → IsRead n (p.octets + length l) d ls ps)
    → with_said (p.lines + 1) c s rest ≡ record { phases = phases; refusal = None } → IsRead n p.octets c (l ∷ ls) phases
read_line n l ls p c phases rest (Err word) m e ih h = let k = ap (λ (r : Reading). r.refusal) h in cc
read_line n l ls p c phases rest (Ok Nothing) m e ih h = let i = ih c phases m h in
    record { said = Nothing ∷ i.said; each = (e, i.each); split = i.split; few = i.few; clock = i.clock; size = omega (arith, i.size) }
read_line n l ls p c phases rest (Ok Phase) m e ih h =
    let r = rest (fresh c.moment) in
    let i = ih (fresh c.moment) r.phases (omega arith, omega arith, m.2) (no_refusal r (ap (λ (r : Reading). r.refusal) h)) in
    let ps = ap (λ (r : Reading). r.phases) h in
    record {
      said = Phase ∷ i.said;
      each = (e, i.each);
      split = sym ps ∙ ap (λ (l : List (List CellEvent)). [] ∷ l) i.split;
      few = subst (AreFew c.events c.octets) ps (omega (arith, m.0), omega (arith, m.1), i.few);
      clock = subst (λ (l : List (List CellEvent)). c.moment + all_ms l ≤ 5662310399999) ps (omega (arith, i.clock));
      size = omega (arith, i.size);
    }
read_line n l ls p c phases rest (Ok (Happens x)) m e ih h =
    let d = counted c x in
    let r = rest d in
    let u = unless_none (excess (p.lines + 1) d) (with_event x r) phases h in
    let w = is_within (p.lines + 1) d u.0 in
    let i = ih d r.phases w (no_refusal r (ap (λ (r : Reading). r.refusal) u.1)) in
    let ps = ap (λ (r : Reading). r.phases) u.1 in
    record {
      said = Happens x ∷ i.said;
      each = (e, i.each);
      split = sym ps ∙ ap (onto x) i.split;
      few = subst (AreFew c.events c.octets) ps (few-onto c.events c.octets x r.phases i.few);
      clock = subst (λ (l : List (List CellEvent)). c.moment + all_ms l ≤ 5662310399999) ps (onto_ms x r.phases c.moment w.2 i.clock);
      size = omega (arith, i.size);
    }

read : (n : Config) (lines : List (List ℕ)) (p : Place) (c : Counts) (phases : List (List CellEvent)) → (c.events ≤ 16384) × (c.octets ≤ 67108864) × (c.moment ≤ 5662310399999) → p.octets ≤ 4294967296 → reading_of n lines p c ≡ record { phases = phases; refusal = None }
    → IsRead n p.octets c lines phases
read n [] p c phases m o h = let ps = ap (λ (r : Reading). r.phases) h in
    record {
      said = [];
      each = tt;
      split = sym ps;
      few = subst (AreFew c.events c.octets) ps (omega (arith, m.0), omega (arith, m.1), tt);
      clock = subst (λ (l : List (List CellEvent)). c.moment + all_ms l ≤ 5662310399999) ps (omega (arith, m.2));
      size = omega (arith, o);
    }
read n (l ∷ ls) p c phases m o h =
    let rest : Counts → Reading = λ d. reading_of n ls (behind p l) d in
    let f = fits_line phases (fits p l) (with_said (p.lines + 1) c (said_of n (content l)) rest) (TooMuch (p.lines + 1)) h in
    read_line n l ls p c phases rest (said_of n (content l)) m refl (λ d ps k e. read n ls (behind p l) d ps k (fit_is p l f.0) e) f.1

-- ---- and the lines before them

if_ok : (b : Bool) (r : Opening) (e : RecordError) (o : Opened) → (if b then r else Err e) ≡ Ok o → (b ≡ true) × (r ≡ Ok o)
if_ok true r e o h = (refl, h)
if_ok false r e o h = cc

word_ok : (line : ℕ) (w : Option BadWord) (r : Opening) (o : Opened) → unless_word line w r ≡ Ok o → (w ≡ None) × (r ≡ Ok o)
word_ok line None r o h = (refl, h)
word_ok line (Some w) r o h = cc

pub record IsSetup (edition : Edition) (lines : List (List ℕ)) (p : Place) (text : List ℕ) (o : Opened) : Type 0 where
  pub setup : List (List ℕ)
  pub last : List ℕ
  pub lines_are : lines ≡ setup ++ last ∷ o.rest
  pub short : AreShort setup
  pub small : length (text ++ text_of setup) ≤ 1048576
  pub is_end : content last ≡ codes "end"
  pub rules : least_broken edition (text ++ text_of setup) ≡ None
  pub says : option_map (config_of edition) (document_of (text ++ text_of setup)) ≡ Some o.config
  pub count : o.place.lines ≡ p.lines + length setup + 1
  pub octets : o.place.octets + total o.rest ≡ p.octets + total lines
  pub most : o.place.octets ≤ 4294967296

pub record IsConfigured (edition : Edition) (text : List ℕ) (lines : List (List ℕ)) (p : Place) (o : Opened) : Type 0 where
  pub rules : least_broken edition text ≡ None
  pub says : option_map (config_of edition) (document_of text) ≡ Some o.config
  pub rest : lines ≡ o.rest
  pub place : p ≡ o.place

abbrev config_from : Opening → Config → Config
config_from (Ok o) c = o.config
config_from (Err e) c = c

abbrev rest_in : Opening → List (List ℕ)
rest_in (Ok o) = o.rest
rest_in (Err e) = []

abbrev place_in : Opening → Place
place_in (Ok o) = o.place
place_in (Err e) = front

is_configured : (edition : Edition) (text : List ℕ) (lines : List (List ℕ)) (p : Place) (o : Opened) → configured edition text lines p ≡ Ok o → IsConfigured edition text lines p o
is_configured edition text lines p o h = by_rule (least_broken edition text) (option_map (config_of edition) (document_of text)) refl refl h
  where
    by_rule : (rule : Option ℕ) (config : Option Config) → least_broken edition text ≡ rule → option_map (config_of edition) (document_of text) ≡ config → opened_unless rule config lines p ≡ Ok o → IsConfigured edition text lines p o
    by_rule (Some rule) config r s e = cc
    by_rule None None r s e = cc
    by_rule None (Some config) r s e =
        record {
          rules = r;
          says = s ∙ ap (λ (x : Opening). Some (config_from x config)) e;
          rest = ap rest_in e;
          place = ap place_in e;
        }

pub read_setup : (edition : Edition) (lines : List (List ℕ)) (p : Place) (text : List ℕ) (o : Opened) → length text ≤ 1048576 → setup_of edition lines p text ≡ Ok o → IsSetup edition lines p text o
read_setup edition [] p text o s h = cc
read_setup edition (l ∷ ls) p text o s h =
    let f = if_ok (fits p l) (if same (content l) (codes "end") then configured edition text ls (behind p l) else unless_word (p.lines + 1) (setup_word (length text + size_in_text l) l) (setup_of edition ls (behind p l) (text ++ in_text l))) (TooMuch (p.lines + 1)) o h in
    decided (λ n e. read_setup edition ls (behind p l) (text ++ in_text l) o n e) (same (content l) (codes "end")) refl (fit_is p l f.0) f.1
  where
    decided : (length (text ++ in_text l) ≤ 1048576 → setup_of edition ls (behind p l) (text ++ in_text l) ≡ Ok o → IsSetup edition ls (behind p l) (text ++ in_text l) o) → (b : Bool) → same (content l) (codes "end") ≡ b → p.octets + length l ≤ 4294967296
        → (if b then configured edition text ls (behind p l) else unless_word (p.lines + 1) (setup_word (length text + size_in_text l) l) (setup_of edition ls (behind p l) (text ++ in_text l))) ≡ Ok o → IsSetup edition (l ∷ ls) p text o
    decided ih true e f k =
        let x = is_configured edition text ls (behind p l) o k in
        let none = append-nil text in
        record {
          setup = [];
          last = l;
          lines_are = ap (λ (r : List (List ℕ)). l ∷ r) x.rest;
          short = tt;
          small = omega (arith, s, ap length none);
          is_end = (same_text (content l) (codes "end")).0 e;
          rules = ap (least_broken edition) none ∙ x.rules;
          says = ap (λ (t : List ℕ). option_map (config_of edition) (document_of t)) none ∙ x.says;
          count = let a = ap (λ (q : Place). q.lines) x.place in omega (arith, a);
          octets = let a = ap (λ (q : Place). q.octets) x.place in let b = ap total x.rest in omega (arith, a, b);
          most = let a = ap (λ (q : Place). q.octets) x.place in omega (arith, a, f);
        }
    decided ih false e f k =
        let w = word_ok (p.lines + 1) (setup_word (length text + size_in_text l) l) (setup_of edition ls (behind p l) (text ++ in_text l)) o k in
        let t = no_word (length text + size_in_text l) l w.0 in
        let n : length (text ++ in_text l) ≤ 1048576 = omega (arith, t.0, length-append text (in_text l), short_size (length l) l t.1) in
        let i = ih n w.1 in
        let more = more_text text l i.setup in
        record {
          setup = l ∷ i.setup;
          last = i.last;
          lines_are = ap (λ (r : List (List ℕ)). l ∷ r) i.lines_are;
          short = (t.1, (λ is. true_false (sym ((same_text (content l) (codes "end")).1 is) ∙ e)), i.short);
          small = omega (arith, i.small, ap length more);
          is_end = i.is_end;
          rules = ap (least_broken edition) (sym more) ∙ i.rules;
          says = ap (λ (t : List ℕ). option_map (config_of edition) (document_of t)) (sym more) ∙ i.says;
          count = omega (arith, i.count);
          octets = omega (arith, i.octets);
          most = i.most;
        }

pub record IsExpected (want : List ℕ) (next : List (List ℕ) → Place → Opening) (lines : List (List ℕ)) (p : Place) (o : Opened) : Type 0 where
  pub line : List ℕ
  pub rest : List (List ℕ)
  pub lines_are : lines ≡ line ∷ rest
  pub is : content line ≡ want
  pub next_is : next rest (behind p line) ≡ Ok o

pub read_expected : (want : List ℕ) (word : BadWord) (next : List (List ℕ) → Place → Opening) (lines : List (List ℕ)) (p : Place) (o : Opened) → expected want word next lines p ≡ Ok o → IsExpected want next lines p o
read_expected want word next [] p o h = cc
read_expected want word next (l ∷ ls) p o h =
    let f = if_ok (fits p l) (if same (content l) want then next ls (behind p l) else Err (Bad (p.lines + 1) word)) (TooMuch (p.lines + 1)) o h in
    let s = if_ok (same (content l) want) (next ls (behind p l)) (Bad (p.lines + 1) word) o f.1 in
    record { line = l; rest = ls; lines_are = refl; is = (same_text (content l) want).0 s.0; next_is = s.1 }

pub record IsHeaded (next : Edition → List (List ℕ) → Place → Opening) (lines : List (List ℕ)) (p : Place) (o : Opened) : Type 0 where
  pub line : List ℕ
  pub rest : List (List ℕ)
  pub edition : Edition
  pub lines_are : lines ≡ line ∷ rest
  pub is : header_of (content line) ≡ Some edition
  pub next_is : next edition rest (behind p line) ≡ Ok o

pub read_headed : (next : Edition → List (List ℕ) → Place → Opening) (lines : List (List ℕ)) (p : Place) (o : Opened) → headed next lines p ≡ Ok o → IsHeaded next lines p o
read_headed next [] p o h = cc
read_headed next (l ∷ ls) p o h =
    let f = if_ok (fits p l) (under (header_of (content l)) next ls (p.lines + 1) (behind p l)) (TooMuch (p.lines + 1)) o h in
    by_edition (header_of (content l)) refl f.1
  where
    by_edition : (edition : Option Edition) → header_of (content l) ≡ edition → under edition next ls (p.lines + 1) (behind p l) ≡ Ok o → IsHeaded next (l ∷ ls) p o
    by_edition None e k = cc
    by_edition (Some edition) e k = record { line = l; rest = ls; edition = edition; lines_are = refl; is = e; next_is = k }

-- what a text that was opened tells is a configuration
pub opened_holds : (text : List ℕ) (o : Opened) → opening_of_text text ≡ Ok o → IsConfig o.config
opened_holds text o x =
    let p = front in
    let a = read_headed setup_in (lines_of text) p o x in
    let b = read_expected (codes "config") bad.Config (λ rest q. setup_of a.edition rest q []) a.rest (behind p a.line) o a.next_is in
    let s = read_setup a.edition b.rest (behind (behind p a.line) b.line) [] o (omega arith) b.next_is in
    configuration_holds a.edition (text_of s.setup) o.config s.rules s.says

was_opened : (x : Opening) (config : Config) (phases : List (List CellEvent)) → config_in x ≡ Some config → after_opening x ≡ record { phases = phases; refusal = None }
    → (o : Opened) × (x ≡ Ok o) × (o.config ≡ config) × (reading_of o.config o.rest o.place (fresh o.config.start.0) ≡ record { phases = phases; refusal = None })
was_opened (Err e) config phases c h = let k = ap (λ (r : Reading). r.refusal) h in cc
was_opened (Ok o) config phases c h = (o, refl, cc, h)

is_recording : (text : List ℕ) (phases : List (List CellEvent)) (o : Opened) → opening_of_text text ≡ Ok o → reading_of o.config o.rest o.place (fresh o.config.start.0) ≡ record { phases = phases; refusal = None } → ReadsRecording text o.config phases
is_recording text phases o x h =
    let p = front in
    let a = read_headed setup_in (lines_of text) p o x in
    let b = read_expected (codes "config") bad.Config (λ rest q. setup_of a.edition rest q []) a.rest (behind p a.line) o a.next_is in
    let s = read_setup a.edition b.rest (behind (behind p a.line) b.line) [] o (omega arith) b.next_is in
    let dated = (configuration_holds a.edition (text_of s.setup) o.config s.rules s.says).dated in
    let edition = edition_of a.edition (document_of (text_of s.setup)) o.config s.says in
    let i = read o.config o.rest o.place (fresh o.config.start.0) phases (omega arith, omega arith, omega (arith, dated)) s.most h in
    let whole : lines_of text ≡ a.line ∷ b.line ∷ (s.setup ++ s.last ∷ o.rest) = a.lines_are ∙ ap (λ (r : List (List ℕ)). a.line ∷ r) (b.lines_are ∙ ap (λ (r : List (List ℕ)). b.line ∷ r) s.lines_are) in
    record {
      header = a.line;
      config = b.line;
      setup = s.setup;
      last = s.last;
      body = o.rest;
      said = i.said;
      lines = whole;
      is_header = subst (λ (e : Edition). header_of (content a.line) ≡ Some e) edition a.is;
      is_config = b.is;
      short = s.short;
      small = s.small;
      rules = subst (λ (e : Edition). least_broken e (text_of s.setup) ≡ None) edition s.rules;
      says = subst (λ (e : Edition). option_map (config_of e) (document_of (text_of s.setup)) ≡ Some o.config) edition s.says;
      is_end = s.is_end;
      each = i.each;
      split = i.split;
      few = i.few;
      clock = i.clock;
      size = omega (arith, i.size, s.octets, ap total whole, ap total s.lines_are, total_is text);
    }

pub read_is_recording : (text : List ℕ) (config : Config) (phases : List (List CellEvent)) → (config_of_text text ≡ Some config) × (reading_of_text text ≡ record { phases = phases; refusal = None }) → ReadsRecording text config phases
read_is_recording text config phases h =
    let x = was_opened (opening_of_text text) config phases h.0 h.1 in
    subst (λ (c : Config). ReadsRecording text c phases) x.2 (is_recording text phases x.0 x.1 x.3)
