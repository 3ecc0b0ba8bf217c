-- Of each line, and of a missing one behind the last, the first cause that holds is told as the line is read.
use Rattle.std.proofs.Common.{◌≡◌, ℕ, ◌+◌, ◌<◌, ◌≤◌, ◌⊎◌, inl, inr, ◌||◌, Bool, true, false, List, [], ◌∷◌, ◌++◌, length, codes, refl, sym, ap, subst, ◌∙◌, arith, append_assoc, length-append, Some, None, Result, Ok, Err, nat_lt, if◌then◌else◌}
use Rattle.std.proofs.lemmas.Bool.Decides.{nat_tests}
use Rattle.std.specs.Option.{option_map}
use Rattle.std.specs.declared.option.Option.{Option}
use Rattle.mms_types.specs.FirstCause.{◌else◌, told, Tells, now, later}
use Rattle.mms_types.specs.declared.identifier.Edition.{Edition}
use Rattle.mms_types.specs.declared.event.CellEvent.{CellEvent}
use Rattle.cell_config.specs.declared.config.Config.{Config}
use Rattle.cell_config.specs.Rules.{document_of}
use Rattle.cell_config.specs.Said.{config_of}
use Rattle.cell_record.specs.Words.{content}
use Rattle.cell_record.specs.EventLine.{said_of}
use Rattle.cell_record.specs.Recording.{onto, moved, refusal_of, counted, excess, header_of, ms_in, octets_in}
use Rattle.cell_record.specs.Grammar.{text_of, Says, phases_of, pdu_octets, phase_ms, all_ms}
use Rattle.cell_record.specs.Refused.{HaveNoEnd, InSetup, InEvents, last_phase, IsOver, LacksHeader, LacksConfig, LacksEnd, IsMuchSetup, IsLong, OfEventLine, HasNoForm, HasNoOctets, NamesNoClient, PassesTime, IsMuchPhase, BreaksRule, Refuses}
use Rattle.cell_record.specs.declared.said.LineMeaning.{LineMeaning}
use Rattle.cell_record.specs.declared.said.LineMeaning.TheVariants.{Nothing, Phase, Happens}
use Rattle.cell_record.specs.declared.counts.Counts.{Counts}
use Rattle.cell_record.specs.declared.refusal.BadWord.{BadWord}
use Rattle.cell_record.specs.declared.refusal.BadWord.TheVariants as bad
use Rattle.cell_record.specs.declared.refusal.RecordError.{RecordError}
use Rattle.cell_record.specs.declared.refusal.RecordError.TheVariants.{Bad, TooMuch}
use Rattle.cell_record.proofs.Valid.{some_phase}
use Rattle.cell_record.proofs.LineCauses.{Line}

pub true_false : true ≡ false → ⊥
true_false e = cc

pub some_same : {A : Type 0} (x y : A) → Some x ≡ Some y → x ≡ y
some_same x y e = cc

pub none_some : {A : Type 0} (x : A) → None ≡ Some x → ⊥
none_some x e = cc

-- ---- the first cause

module _ (before : List (List ℕ)) (here : Option (List ℕ)) where
  abbrev pub line : ℕ
  line = length before + 1

  abbrev pub Over : RecordError → Type 0
  Over = told (TooMuch line) (IsOver before here)

  abbrev pub Header : RecordError → Type 0
  Header = told (Bad line bad.Header) (LacksHeader before here)

  abbrev pub InConfig : Type 0
  InConfig = LacksConfig before here ⊎ LacksEnd before here ⊎ IsMuchSetup before here

  abbrev pub Configured : RecordError → Type 0
  Configured = told (Bad line bad.Config) InConfig

  abbrev pub Long : RecordError → Type 0
  Long = told (Bad line bad.Long) (IsLong here)

  abbrev pub Event : RecordError → Type 0
  Event = told (Bad line bad.Event) (OfEventLine HasNoForm before here)

  abbrev pub Hex : RecordError → Type 0
  Hex = told (Bad line bad.Hex) (OfEventLine HasNoOctets before here)

  abbrev pub Client : RecordError → Type 0
  Client = told (Bad line bad.Client) (OfEventLine NamesNoClient before here)

  abbrev pub Clock : RecordError → Type 0
  Clock = told (Bad line bad.Clock) (OfEventLine PassesTime before here)

  abbrev pub Much : RecordError → Type 0
  Much = told (TooMuch line) (OfEventLine IsMuchPhase before here)

  abbrev pub Rule : RecordError → Type 0
  Rule = BreaksRule before here

  abbrev pub FromMuch : RecordError → Type 0
  FromMuch = Much else Rule

  abbrev pub FromClock : RecordError → Type 0
  FromClock = Clock else FromMuch

  abbrev pub FromClient : RecordError → Type 0
  FromClient = Client else FromClock

  abbrev pub FromHex : RecordError → Type 0
  FromHex = Hex else FromClient

  abbrev pub FromEvent : RecordError → Type 0
  FromEvent = Event else FromHex

  abbrev pub FromLong : RecordError → Type 0
  FromLong = Long else FromEvent

  abbrev pub FromConfig : RecordError → Type 0
  FromConfig = Configured else FromLong

  abbrev pub FromHeader : RecordError → Type 0
  FromHeader = Header else FromConfig

  pub over_tells : IsOver before here → Tells (Refuses before here) (Some (TooMuch line))
  over_tells h = now Over FromHeader (TooMuch line) ((refl, h), λ e c. c.0)

  pub header_tells : (IsOver before here → ⊥) → LacksHeader before here → Tells (Refuses before here) (Some (Bad line bad.Header))
  header_tells over h = later Over FromHeader (Some (Bad line bad.Header)) (λ e c. over c.1) (now Header FromConfig (Bad line bad.Header) ((refl, h), λ e c. c.0))

  pub from_config : (o : Option RecordError) → (IsOver before here → ⊥) → (LacksHeader before here → ⊥) → Tells FromConfig o → Tells (Refuses before here) o
  from_config o over header h = later Over FromHeader o (λ e c. over c.1) (later Header FromConfig o (λ e c. header c.1) h)

  pub config_tells : (IsOver before here → ⊥) → (LacksHeader before here → ⊥) → InConfig → Tells (Refuses before here) (Some (Bad line bad.Config))
  config_tells over header h = from_config (Some (Bad line bad.Config)) over header (now Configured FromLong (Bad line bad.Config) ((refl, h), λ e c. c.0))

  pub from_long : (o : Option RecordError) → (IsOver before here → ⊥) → (LacksHeader before here → ⊥) → (InConfig → ⊥) → Tells FromLong o → Tells (Refuses before here) o
  from_long o over header config h = from_config o over header (later Configured FromLong o (λ e c. config c.1) h)

  pub long_tells : IsLong here → Tells FromLong (Some (Bad line bad.Long))
  long_tells h = now Long FromEvent (Bad line bad.Long) ((refl, h), λ e c. c.0)

  pub from_event : (o : Option RecordError) → (IsLong here → ⊥) → Tells FromEvent o → Tells FromLong o
  from_event o long h = later Long FromEvent o (λ e c. long c.1) h

  -- no cause of an event line holds
  pub no_event : (o : Option RecordError) → ((Cause : Config → List LineMeaning → List ℕ → Type 0) → OfEventLine Cause before here → ⊥) → Tells Rule o → Tells FromEvent o
  no_event o none h =
      later Event FromHex o (λ e c. none HasNoForm c.1)
      (later Hex FromClient o (λ e c. none HasNoOctets c.1)
      (later Client FromClock o (λ e c. none NamesNoClient c.1)
      (later Clock FromMuch o (λ e c. none PassesTime c.1)
      (later Much Rule o (λ e c. none IsMuchPhase c.1) h))))

-- ---- where a line stands

pub few_setup : (before setup : List (List ℕ)) → length before ≤ 1 → InSetup before setup → ⊥
few_setup before setup h i = let k = ap length i.lines in omega (arith, h, k)

pub few_events : (before : List (List ℕ)) (config : Config) (said : List LineMeaning) → length before ≤ 1 → InEvents before config said → ⊥
few_events before config said h i = let k = ap length i.lines in omega (arith, h, k)

pub no_end_there : (xs ys : List (List ℕ)) (l : List ℕ) → HaveNoEnd (xs ++ l ∷ ys) → content l ≡ codes "end" → ⊥
no_end_there [] ys l h e = h.0 e
no_end_there (x ∷ xs) ys l h e = no_end_there xs ys l h.1 e

pub tails : (a b c d : List ℕ) (xs ys : List (List ℕ)) → a ∷ b ∷ xs ≡ c ∷ d ∷ ys → (a ≡ c) × (b ≡ d) × (xs ≡ ys)
tails a b c d xs ys e = (cc, cc, cc)

pub setup_same : (before xs ys : List (List ℕ)) → InSetup before xs → InSetup before ys → xs ≡ ys
setup_same before xs ys i j = (tails i.header i.second j.header j.second xs ys (sym i.lines ∙ j.lines)).2

pub header_same : (before xs ys : List (List ℕ)) (i : InSetup before xs) (j : InSetup before ys) → i.header ≡ j.header
header_same before xs ys i j = (tails i.header i.second j.header j.second xs ys (sym i.lines ∙ j.lines)).0

pub not_both : (before setup : List (List ℕ)) (config : Config) (said : List LineMeaning) → InSetup before setup → InEvents before config said → ⊥
not_both before setup config said i j =
    let same = (tails i.header i.second j.header j.second setup (j.setup ++ j.last ∷ j.body) (sym i.lines ∙ j.lines)).2 in
    no_end_there j.setup j.body j.last (subst HaveNoEnd same i.endless) j.is_end

pub first_end : (xs ys : List (List ℕ)) (l m : List ℕ) (us vs : List (List ℕ)) → HaveNoEnd xs → HaveNoEnd ys → content l ≡ codes "end" → content m ≡ codes "end" → xs ++ l ∷ us ≡ ys ++ m ∷ vs → (xs ≡ ys) × (us ≡ vs)
first_end [] [] l m us vs a b c d e = (refl, cc)
first_end [] (y ∷ ys) l m us vs a b c d e = let k : l ≡ y = cc in absurd (b.0 (ap content (sym k) ∙ c))
first_end (x ∷ xs) [] l m us vs a b c d e = let k : x ≡ m = cc in absurd (a.0 (ap content k ∙ d))
first_end (x ∷ xs) (y ∷ ys) l m us vs a b c d e =
    let front : x ≡ y = cc in
    let rest : xs ++ l ∷ us ≡ ys ++ m ∷ vs = cc in
    let k = first_end xs ys l m us vs a.1 b.1 c d rest in
    (ap (λ (z : List ℕ). z ∷ xs) front ∙ ap (λ (zs : List (List ℕ)). y ∷ zs) k.0, k.1)

abbrev pub says : LineMeaning → Result LineMeaning BadWord
says s = Ok s

pub ok_same : (s t : LineMeaning) → says s ≡ says t → s ≡ t
ok_same s t e = some_same s t (ap said_in e)
  where
    said_in : Result LineMeaning BadWord → Option LineMeaning
    said_in (Ok s) = Some s
    said_in (Err w) = None

pub says_same : (config : Config) (lines : List (List ℕ)) (ss ts : List LineMeaning) → Says config lines ss → Says config lines ts → ss ≡ ts
says_same config [] [] [] h g = refl
says_same config [] [] (t ∷ ts) h g = absurd g
says_same config [] (s ∷ ss) ts h g = absurd h
says_same config (l ∷ ls) [] ts h g = absurd h
says_same config (l ∷ ls) (s ∷ ss) [] h g = absurd g
says_same config (l ∷ ls) (s ∷ ss) (t ∷ ts) h g =
    ap (λ (z : LineMeaning). z ∷ ss) (ok_same s t (sym h.0 ∙ g.0)) ∙ ap (λ (zs : List LineMeaning). t ∷ zs) (says_same config ls ss ts h.1 g.1)

pub events_same : (before : List (List ℕ)) (c d : Config) (ss ts : List LineMeaning) → InEvents before c ss → InEvents before d ts → (c ≡ d) × (ss ≡ ts)
events_same before c d ss ts i j =
    let t = tails i.header i.second j.header j.second (i.setup ++ i.last ∷ i.body) (j.setup ++ j.last ∷ j.body) (sym i.lines ∙ j.lines) in
    let f = first_end i.setup j.setup i.last j.last i.body j.body i.endless j.endless i.is_end j.is_end t.2 in
    let edition : c.edition ≡ d.edition = some_same c.edition d.edition (sym i.is_header ∙ ap (λ (l : List ℕ). header_of (content l)) t.0 ∙ j.is_header) in
    let config : c ≡ d =
    some_same c d (sym i.says ∙ ap (λ (e : Edition). option_map (config_of e) (document_of (text_of i.setup))) edition ∙ ap (λ (s : List (List ℕ)). option_map (config_of d.edition) (document_of (text_of s))) f.0 ∙ j.says) in
    let each : Says d j.body ss = subst (λ (k : Config). Says k j.body ss) config (subst (λ (b : List (List ℕ)). Says c b ss) f.1 i.each) in
    (config, says_same d j.body ss ts each j.each)

-- a cause doesn't hold of an event line, where it doesn't by the configuration and what is said before it
pub none_of : (Cause : Config → List LineMeaning → List ℕ → Type 0) (before : List (List ℕ)) (l : List ℕ) (config : Config) (said : List LineMeaning) → InEvents before config said → (Cause config said (content l) → ⊥) → OfEventLine Cause before (Some l) → ⊥
none_of Cause before l config said i never h =
    let u = events_same before h.0 config h.1 said h.2 i in
    let same : h.3 ≡ l = sym (some_same l h.3 h.4) in
    never (subst (λ (c : Config). Cause c said (content l)) u.0 (subst (λ (s : List LineMeaning). Cause h.0 s (content l)) u.1 (subst (λ (x : List ℕ). Cause h.0 h.1 (content x)) same h.5)))

-- ---- an event line

pub record Counted (config : Config) (said : List LineMeaning) (c : Counts) : Type 0 where
  pub events : c.events ≡ length (last_phase (phases_of said))
  pub octets : c.octets ≡ pdu_octets (last_phase (phases_of said))
  pub moment : c.moment ≡ config.start.0 + all_ms (phases_of said)

abbrev pub outcome : ℕ → Counts → Result LineMeaning BadWord → Option RecordError
outcome line c (Err word) = Some (Bad line word)
outcome line c (Ok s) = refusal_of line (moved c s) s

module _ (before : List (List ℕ)) (l : List ℕ) (config : Config) (said : List LineMeaning) (c : Counts) (i : InEvents before config said) (k : Counted config said c) where
  abbrev pub at : ℕ
  at = length before + 1

  pub no_rule : (e : RecordError) → Rule before (Some l) e → ⊥
  no_rule e r = not_both before r.0 config said r.1 i

  pub from_clock : (o : Option RecordError) → (HasNoForm config said (content l) → ⊥) × (HasNoOctets config said (content l) → ⊥) × (NamesNoClient config said (content l) → ⊥) → Tells (FromClock before (Some l)) o
      → Tells (FromEvent before (Some l)) o
  from_clock o h t =
      later (Event before (Some l)) (FromHex before (Some l)) o (λ e c. none_of HasNoForm before l config said i h.0 c.1)
      (later (Hex before (Some l)) (FromClient before (Some l)) o (λ e c. none_of HasNoOctets before l config said i h.1 c.1)
      (later (Client before (Some l)) (FromClock before (Some l)) o (λ e c. none_of NamesNoClient before l config said i h.2 c.1) t))

  -- a line that says no event
  pub quiet : (s : LineMeaning) → said_of config (content l) ≡ Ok s → ((event : CellEvent) → s ≡ Happens event → ⊥) → Tells (FromClock before (Some l)) None
  quiet s e never =
      later (Clock before (Some l)) (FromMuch before (Some l)) None (λ x c. none_of PassesTime before l config said i (λ p. never p.0 (ok_same s (Happens p.0) (sym e ∙ p.1))) c.1)
      (later (Much before (Some l)) (Rule before (Some l)) None (λ x c. none_of IsMuchPhase before l config said i (λ p. never p.0 (ok_same s (Happens p.0) (sym e ∙ p.1))) c.1) no_rule)

  abbrev pub event_in : LineMeaning → CellEvent → CellEvent
  event_in (Happens event) d = event
  event_in Nothing d = d
  event_in Phase d = d

  pub counts_tell : (event : CellEvent) → said_of config (content l) ≡ Ok (Happens event) → Tells (FromClock before (Some l)) (excess at (counted c event))
  counts_tell event e = three (nat_lt 5662310399999 (c.moment + ms_in event)) (nat_lt 16384 (c.events + 1)) (nat_lt 67108864 (c.octets + octets_in event)) refl refl refl
    where
      same_event : (x : CellEvent) → said_of config (content l) ≡ Ok (Happens x) → x ≡ event
      same_event x f = ap (λ (s : LineMeaning). event_in s event) (ok_same (Happens x) (Happens event) (sym f ∙ e))

      three : (a b d : Bool) → nat_lt 5662310399999 (c.moment + ms_in event) ≡ a → nat_lt 16384 (c.events + 1) ≡ b → nat_lt 67108864 (c.octets + octets_in event) ≡ d
          → Tells (FromClock before (Some l)) (if a then Some (Bad at bad.Clock) else if (b || d) then Some (TooMuch at) else None)
      three true b d x y z =
          let past : 5662310399999 < c.moment + ms_in event = grind (arith, nat_tests, x) in
          now (Clock before (Some l)) (FromMuch before (Some l)) (Bad at bad.Clock) ((refl, (config, said, i, l, refl, (event, e, omega (arith, past, k.moment)))), λ e c. c.0)
      three false b d x y z =
          let early : c.moment + ms_in event ≤ 5662310399999 = grind (arith, nat_tests, x) in
          later (Clock before (Some l)) (FromMuch before (Some l)) (if (b || d) then Some (TooMuch at) else None)
          (λ x c2. none_of PassesTime before l config said i
          (λ p. let ms = ap ms_in (same_event p.0 p.1) in omega (arith, p.2, ms, early, k.moment)) c2.1)
          (much b d y z)
        where
          much : (b d : Bool) → nat_lt 16384 (c.events + 1) ≡ b → nat_lt 67108864 (c.octets + octets_in event) ≡ d → Tells (FromMuch before (Some l)) (if (b || d) then Some (TooMuch at) else None)
          much true d y z =
              let many : 16384 < c.events + 1 = grind (arith, nat_tests, y) in
              now (Much before (Some l)) (Rule before (Some l)) (TooMuch at) ((refl, (config, said, i, l, refl, (event, e, inl (omega (arith, many, k.events))))), λ e c. c.0)
          much false true y z =
              let many : 67108864 < c.octets + octets_in event = grind (arith, nat_tests, z) in
              now (Much before (Some l)) (Rule before (Some l)) (TooMuch at) ((refl, (config, said, i, l, refl, (event, e, inr (omega (arith, many, k.octets))))), λ e c. c.0)
          much false false y z =
              let few : c.events + 1 ≤ 16384 = grind (arith, nat_tests, y) in
              let small : c.octets + octets_in event ≤ 67108864 = grind (arith, nat_tests, z) in
              later (Much before (Some l)) (Rule before (Some l)) None (λ x c2. none_of IsMuchPhase before l config said i (no_more few small) c2.1) no_rule
            where
              no_more : c.events + 1 ≤ 16384 → c.octets + octets_in event ≤ 67108864 → IsMuchPhase config said (content l) → ⊥
              no_more few small (x, f, inl h) = omega (arith, h, few, k.events)
              no_more few small (x, f, inr h) = let os = ap octets_in (same_event x f) in omega (arith, h, small, os, k.octets)

  pub event_tells : (r : Result LineMeaning BadWord) → said_of config (content l) ≡ r → Line config said (content l) r → Tells (FromEvent before (Some l)) (outcome at c r)
  event_tells (Err bad.Event) e h = now (Event before (Some l)) (FromHex before (Some l)) (Bad at bad.Event) ((refl, (config, said, i, l, refl, h)), λ e c. c.0)
  event_tells (Err bad.Hex) e h =
      later (Event before (Some l)) (FromHex before (Some l)) (Some (Bad at bad.Hex)) (λ e c. none_of HasNoForm before l config said i h.0 c.1)
      (now (Hex before (Some l)) (FromClient before (Some l)) (Bad at bad.Hex) ((refl, (config, said, i, l, refl, h.1)), λ e c. c.0))
  event_tells (Err bad.Client) e h =
      later (Event before (Some l)) (FromHex before (Some l)) (Some (Bad at bad.Client)) (λ e c. none_of HasNoForm before l config said i h.0 c.1)
      (later (Hex before (Some l)) (FromClient before (Some l)) (Some (Bad at bad.Client)) (λ e c. none_of HasNoOctets before l config said i h.1 c.1)
      (now (Client before (Some l)) (FromClock before (Some l)) (Bad at bad.Client) ((refl, (config, said, i, l, refl, h.2)), λ e c. c.0)))
  event_tells (Err bad.Header) e h = absurd h
  event_tells (Err bad.Config) e h = absurd h
  event_tells (Err bad.Long) e h = absurd h
  event_tells (Err bad.Clock) e h = absurd h
  event_tells (Ok Nothing) e h = from_clock None h (quiet Nothing e (λ event s. cc))
  event_tells (Ok Phase) e h = from_clock None h (quiet Phase e (λ event s. cc))
  event_tells (Ok (Happens event)) e h = from_clock (excess at (counted c event)) h (counts_tell event e)

-- ---- what event lines count

pub onto_behind : (e : CellEvent) (ps : List (List CellEvent)) → 0 < length ps → onto e (ps ++ [] ∷ []) ≡ onto e ps ++ [] ∷ []
onto_behind e [] h = absurd (omega (arith, h))
onto_behind e (p ∷ ps) h = refl

-- an event at the end of the last phase
abbrev pub into_last : CellEvent → List (List CellEvent) → List (List CellEvent)
into_last e [] = []
into_last e (p ∷ []) = (p ++ e ∷ []) ∷ []
into_last e (p ∷ q ∷ ps) = p ∷ into_last e (q ∷ ps)

pub into_onto : (e f : CellEvent) (ps : List (List CellEvent)) → onto f (into_last e ps) ≡ into_last e (onto f ps)
into_onto e f [] = refl
into_onto e f (p ∷ []) = refl
into_onto e f (p ∷ q ∷ ps) = refl

pub into_behind : (e : CellEvent) (p : List CellEvent) (ps : List (List CellEvent)) → 0 < length ps → p ∷ into_last e ps ≡ into_last e (p ∷ ps)
into_behind e p [] h = absurd (omega (arith, h))
into_behind e p (q ∷ ps) h = refl

pub nothing_more : (ss : List LineMeaning) → phases_of (ss ++ Nothing ∷ []) ≡ phases_of ss
nothing_more [] = refl
nothing_more (Nothing ∷ ss) = nothing_more ss
nothing_more (Phase ∷ ss) = ap (λ (ps : List (List CellEvent)). [] ∷ ps) (nothing_more ss)
nothing_more (Happens e ∷ ss) = ap (onto e) (nothing_more ss)

pub phase_more : (ss : List LineMeaning) → phases_of (ss ++ Phase ∷ []) ≡ phases_of ss ++ [] ∷ []
phase_more [] = refl
phase_more (Nothing ∷ ss) = phase_more ss
phase_more (Phase ∷ ss) = ap (λ (ps : List (List CellEvent)). [] ∷ ps) (phase_more ss)
phase_more (Happens e ∷ ss) = ap (onto e) (phase_more ss) ∙ onto_behind e (phases_of ss) (some_phase ss)

pub event_more : (f : CellEvent) (ss : List LineMeaning) → phases_of (ss ++ Happens f ∷ []) ≡ into_last f (phases_of ss)
event_more f [] = refl
event_more f (Nothing ∷ ss) = event_more f ss
event_more f (Phase ∷ ss) = ap (λ (ps : List (List CellEvent)). [] ∷ ps) (event_more f ss) ∙ into_behind f [] (phases_of ss) (some_phase ss)
event_more f (Happens e ∷ ss) = ap (onto e) (event_more f ss) ∙ into_onto f e (phases_of ss)

pub last_behind : (ps : List (List CellEvent)) → last_phase (ps ++ [] ∷ []) ≡ []
last_behind [] = refl
last_behind (p ∷ []) = refl
last_behind (p ∷ q ∷ ps) = last_behind (q ∷ ps)

pub ms_behind : (ps : List (List CellEvent)) → all_ms (ps ++ [] ∷ []) ≡ all_ms ps
ms_behind [] = refl
ms_behind (p ∷ ps) = ap (λ (n : ℕ). phase_ms p + n) (ms_behind ps)

pub last_into : (e : CellEvent) (ps : List (List CellEvent)) → 0 < length ps → last_phase (into_last e ps) ≡ last_phase ps ++ e ∷ []
last_into e [] h = absurd (omega (arith, h))
last_into e (p ∷ []) h = refl
last_into e (p ∷ q ∷ []) h = refl
last_into e (p ∷ q ∷ r ∷ ps) h = last_into e (q ∷ r ∷ ps) (omega arith)

pub phase_ms_more : (e : CellEvent) (p : List CellEvent) → phase_ms (p ++ e ∷ []) ≡ phase_ms p + ms_in e
phase_ms_more e [] = omega arith
phase_ms_more e (f ∷ p) = let k = phase_ms_more e p in omega (arith, k)

pub octets_more : (e : CellEvent) (p : List CellEvent) → pdu_octets (p ++ e ∷ []) ≡ pdu_octets p + octets_in e
octets_more e [] = omega arith
octets_more e (f ∷ p) = let k = octets_more e p in omega (arith, k)

pub ms_into : (e : CellEvent) (ps : List (List CellEvent)) → 0 < length ps → all_ms (into_last e ps) ≡ all_ms ps + ms_in e
ms_into e [] h = absurd (omega (arith, h))
ms_into e (p ∷ []) h = let k = phase_ms_more e p in omega (arith, k)
ms_into e (p ∷ q ∷ ps) h = let k = ms_into e (q ∷ ps) (omega arith) in omega (arith, k)

pub counted_more : (config : Config) (said : List LineMeaning) (c : Counts) (s : LineMeaning) → Counted config said c → Counted config (said ++ s ∷ []) (moved c s)
counted_more config said c Nothing k =
    let ps = nothing_more said in
    record {
      events = k.events ∙ ap (λ (p : List (List CellEvent)). length (last_phase p)) (sym ps);
      octets = k.octets ∙ ap (λ (p : List (List CellEvent)). pdu_octets (last_phase p)) (sym ps);
      moment = k.moment ∙ ap (λ (p : List (List CellEvent)). config.start.0 + all_ms p) (sym ps);
    }
counted_more config said c Phase k =
    let ps = phase_more said in
    let last = ap last_phase ps ∙ last_behind (phases_of said) in
    let ms = ap all_ms ps ∙ ms_behind (phases_of said) in
    record {
      events = ap length (sym last);
      octets = ap pdu_octets (sym last);
      moment = omega (arith, k.moment, ms);
    }
counted_more config said c (Happens e) k =
    let ps = event_more e said in
    let last = ap last_phase ps ∙ last_into e (phases_of said) (some_phase said) in
    let ms = ap all_ms ps ∙ ms_into e (phases_of said) (some_phase said) in
    let events = ap length last ∙ length-append (last_phase (phases_of said)) (e ∷ []) in
    let octets = ap pdu_octets last ∙ octets_more e (last_phase (phases_of said)) in
    record {
      events = omega (arith, k.events, events);
      octets = omega (arith, k.octets, octets);
      moment = omega (arith, k.moment, ms);
    }

pub says_more : (config : Config) (lines : List (List ℕ)) (ss : List LineMeaning) (l : List ℕ) (s : LineMeaning) → Says config lines ss → said_of config (content l) ≡ Ok s → Says config (lines ++ l ∷ []) (ss ++ s ∷ [])
says_more config [] [] l s h e = (e, tt)
says_more config [] (t ∷ ss) l s h e = absurd h
says_more config (x ∷ ls) [] l s h e = absurd h
says_more config (x ∷ ls) (t ∷ ss) l s h e = (h.0, says_more config ls ss l s h.1 e)

pub events_more : (before : List (List ℕ)) (config : Config) (said : List LineMeaning) (l : List ℕ) (s : LineMeaning) → InEvents before config said → said_of config (content l) ≡ Ok s → InEvents (before ++ l ∷ []) config (said ++ s ∷ [])
events_more before config said l s i e = record {
  header = i.header;
  second = i.second;
  setup = i.setup;
  last = i.last;
  body = i.body ++ l ∷ [];
  lines = ap (λ (b : List (List ℕ)). b ++ l ∷ []) i.lines ∙ ap (λ (b : List (List ℕ)). i.header ∷ i.second ∷ b) (append_assoc i.setup (i.last ∷ i.body) (l ∷ []));
  is_header = i.is_header;
  endless = i.endless;
  is_end = i.is_end;
  says = i.says;
  each = says_more config i.body said l s i.each e;
}
