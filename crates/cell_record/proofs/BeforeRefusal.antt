-- The phases before a refusal stand in the lines before it.
use Rattle.std.proofs.Common.{◌≡◌, ℕ, ◌+◌, ◌<◌, Bool, true, false, List, [], ◌∷◌, ◌++◌, length, codes, refl, sym, ap, ◌∙◌, subst, arith, append_assoc, length-append, Some, None, Result, Ok, Err, if◌then◌else◌}
use Rattle.std.specs.Option.{option_map}
use Rattle.std.specs.declared.option.Option.{Option}
use Rattle.cell_io.specs.Lines.{lines_of}
use Rattle.mms_types.specs.declared.event.CellEvent.{CellEvent}
use Rattle.mms_types.specs.declared.identifier.Edition.{Edition}
use Rattle.cell_config.specs.declared.config.Config.{Config}
use Rattle.cell_config.specs.Rules.{document_of}
use Rattle.cell_config.specs.Said.{config_of}
use Rattle.cell_config.proofs.Holding.{edition_of}
use Rattle.cell_record.specs.Words.{content}
use Rattle.cell_record.specs.EventLine.{said_of}
use Rattle.cell_record.specs.Recording.{Place, Reading, Opened, Opening, behind, front, fits, refused, onto, fresh, is_past, is_much, excess, unless, refusal_of, makes, moved, with_said, reading_of, header_of, setup_in, config_in, config_of_text, setup_of, after_opening, reading_of_text, opening_of_text}
use Rattle.cell_record.specs.Grammar.{AreShort, text_of, Says, phases_of}
use Rattle.cell_record.specs.Refused.{HaveNoEnd, NamesLine, all_but_last, EndBefore}
use Rattle.cell_record.specs.declared.said.LineMeaning.{LineMeaning}
use Rattle.cell_record.specs.declared.said.LineMeaning.TheVariants.{Nothing, Phase, Happens}
use Rattle.cell_record.specs.declared.counts.Counts.{Counts}
use Rattle.cell_record.specs.declared.refusal.BadWord.{BadWord}
use Rattle.cell_record.specs.declared.refusal.BadWord.TheVariants as bad
use Rattle.cell_record.specs.declared.refusal.RecordError.{RecordError}
use Rattle.cell_record.specs.declared.refusal.RecordError.TheVariants.{Bad, TooMuch}
use Rattle.cell_record.proofs.Valid.{some_phase, read_setup, read_expected, read_headed}

-- ---- the phases that ended

last-begun : (ps : List (List CellEvent)) → 0 < length ps → all_but_last ([] ∷ ps) ≡ [] ∷ all_but_last ps
last-begun [] h = absurd (omega (arith, h))
last-begun (p ∷ ps) h = refl

last-onto : (e : CellEvent) (ps : List (List CellEvent)) → all_but_last (onto e ps) ≡ onto e (all_but_last ps)
last-onto e [] = refl
last-onto e (p ∷ []) = refl
last-onto e (p ∷ q ∷ ps) = refl

-- a line more in front
line_ends : (s : LineMeaning) (r : Reading) (ss : List LineMeaning) → r.phases ≡ all_but_last (phases_of ss) → (makes s r).phases ≡ all_but_last (phases_of (s ∷ ss))
line_ends Nothing r ss h = h
line_ends Phase r ss h = ap (λ (ps : List (List CellEvent)). [] ∷ ps) h ∙ sym (last-begun (phases_of ss) (some_phase ss))
line_ends (Happens e) r ss h = ap (onto e) h ∙ sym (last-onto e (phases_of ss))

same_refusal : (s : LineMeaning) (r : Reading) → (makes s r).refusal ≡ r.refusal
same_refusal Nothing r = refl
same_refusal Phase r = refl
same_refusal (Happens e) r = refl

excess_names : (line : ℕ) (c : Counts) (x : RecordError) → excess line c ≡ Some x → NamesLine x line
excess_names line c x h = by_tests (is_past c) (is_much c) h
  where
    by_tests : (a b : Bool) → (if a then Some (Bad line bad.Clock) else if b then Some (TooMuch line) else None) ≡ Some x → NamesLine x line
    by_tests true b k = let e : Bad line bad.Clock ≡ x = cc in subst (λ (y : RecordError). NamesLine y line) e refl
    by_tests false true k = let e : TooMuch line ≡ x = cc in subst (λ (y : RecordError). NamesLine y line) e refl
    by_tests false false k = cc

refusal_names : (line : ℕ) (c : Counts) (s : LineMeaning) (x : RecordError) → refusal_of line c s ≡ Some x → NamesLine x line
refusal_names line c Nothing x h = cc
refusal_names line c Phase x h = cc
refusal_names line c (Happens e) x h = excess_names line c x h

-- ---- the event lines

-- event lines up to the one that is refused, the number of it, and the phases that end before it
record Ended (config : Config) (lines : List (List ℕ)) (first : ℕ) (e : RecordError) (phases : List (List CellEvent)) : Type 0 where
  pub before : List (List ℕ)
  pub here : List ℕ
  pub rest : List (List ℕ)
  pub stands : lines ≡ before ++ here ∷ rest
  pub number : NamesLine e (first + length before + 1)
  pub said : List LineMeaning
  pub each : Says config before said
  pub ends : phases ≡ all_but_last (phases_of said)

-- the first of them is refused
ends_here : (config : Config) (l : List ℕ) (ls : List (List ℕ)) (first : ℕ) (x e : RecordError) → NamesLine x (first + 1) → Some x ≡ Some e → Ended config (l ∷ ls) first e []
ends_here config l ls first x e n h =
    let same : x ≡ e = cc in
    let line : first + 1 ≡ first + 0 + 1 = omega arith in
    record {
      before = [];
      here = l;
      rest = ls;
      stands = refl;
      number = subst (λ (y : RecordError). NamesLine y (first + 0 + 1)) same (subst (NamesLine x) line n);
      said = [];
      each = tt;
      ends = refl;
    }

-- the first of them says this
ends_later : (config : Config) (l : List ℕ) (ls : List (List ℕ)) (first : ℕ) (e : RecordError) (s : LineMeaning) (r : Reading) → said_of config (content l) ≡ Ok s → Ended config ls (first + 1) e r.phases
    → Ended config (l ∷ ls) first e (makes s r).phases
ends_later config l ls first e s r is k =
    let line : first + 1 + length k.before + 1 ≡ first + length (l ∷ k.before) + 1 = omega arith in
    record {
      before = l ∷ k.before;
      here = k.here;
      rest = k.rest;
      stands = ap (λ (x : List (List ℕ)). l ∷ x) k.stands;
      number = subst (NamesLine e) line k.number;
      said = s ∷ k.said;
      each = (is, k.each);
      ends = line_ends s r k.said k.ends;
    }

body_ends : (config : Config) (lines : List (List ℕ)) (p : Place) (c : Counts) (e : RecordError) → (reading_of config lines p c).refusal ≡ Some e → Ended config lines p.lines e (reading_of config lines p c).phases
body_ends config [] p c e h = cc
body_ends config (l ∷ ls) p c e h = by_fit (λ d k. body_ends config ls (behind p l) d e k) (fits p l) h
  where
    by_excess : (s : LineMeaning) (r : Reading) (o : Option RecordError) → said_of config (content l) ≡ Ok s → (r.refusal ≡ Some e → Ended config ls (p.lines + 1) e r.phases) → refusal_of (p.lines + 1) (moved c s) s ≡ o
        → (unless o (makes s r)).refusal ≡ Some e → Ended config (l ∷ ls) p.lines e (unless o (makes s r)).phases
    by_excess s r None is ih x k = ends_later config l ls p.lines e s r is (ih (sym (same_refusal s r) ∙ k))
    by_excess s r (Some y) is ih x k = ends_here config l ls p.lines y e (refusal_names (p.lines + 1) (moved c s) s y x) k

    by_said : ((d : Counts) → (reading_of config ls (behind p l) d).refusal ≡ Some e → Ended config ls (p.lines + 1) e (reading_of config ls (behind p l) d).phases)
        → (r : Result LineMeaning BadWord) → said_of config (content l) ≡ r → (with_said (p.lines + 1) c r (λ d. reading_of config ls (behind p l) d)).refusal ≡ Some e
        → Ended config (l ∷ ls) p.lines e (with_said (p.lines + 1) c r (λ d. reading_of config ls (behind p l) d)).phases
    by_said ih (Err word) is k = ends_here config l ls p.lines (Bad (p.lines + 1) word) e refl k
    by_said ih (Ok s) is k = by_excess s (reading_of config ls (behind p l) (moved c s)) (refusal_of (p.lines + 1) (moved c s) s) is (ih (moved c s)) refl k

    by_fit : ((d : Counts) → (reading_of config ls (behind p l) d).refusal ≡ Some e → Ended config ls (p.lines + 1) e (reading_of config ls (behind p l) d).phases)
        → (b : Bool) → (if b then with_said (p.lines + 1) c (said_of config (content l)) (λ d. reading_of config ls (behind p l) d) else refused (TooMuch (p.lines + 1))).refusal ≡ Some e
        → Ended config (l ∷ ls) p.lines e (if b then with_said (p.lines + 1) c (said_of config (content l)) (λ d. reading_of config ls (behind p l) d) else refused (TooMuch (p.lines + 1))).phases
    by_fit ih true k = by_said ih (said_of config (content l)) refl k
    by_fit ih false k = ends_here config l ls p.lines (TooMuch (p.lines + 1)) e refl k

-- ---- a text

endless : (setup : List (List ℕ)) → AreShort setup → HaveNoEnd setup
endless [] h = tt
endless (l ∷ setup) h = (h.1, endless setup h.2)

ends_in_text : (text : List ℕ) (o : Opened) (e : RecordError) → opening_of_text text ≡ Ok o → (reading_of o.config o.rest o.place (fresh o.config.start.0)).refusal ≡ Some e
    → EndBefore (lines_of text) o.config e (reading_of o.config o.rest o.place (fresh o.config.start.0)).phases
ends_in_text text o e x h =
    let p = front in
    let a = read_headed setup_in (lines_of text) p o x in
    let b = read_expected (codes "config") bad.Config (λ rest q. setup_of a.edition rest q []) a.rest (behind p a.line) o a.next_is in
    let s = read_setup a.edition b.rest (behind (behind p a.line) b.line) [] o (omega arith) b.next_is in
    let edition = edition_of a.edition (document_of (text_of s.setup)) o.config s.says in
    let k = body_ends o.config o.rest o.place (fresh o.config.start.0) e h in
    let whole : lines_of text ≡ a.line ∷ b.line ∷ (s.setup ++ s.last ∷ o.rest) = a.lines_are ∙ ap (λ (r : List (List ℕ)). a.line ∷ r) (b.lines_are ∙ ap (λ (r : List (List ℕ)). b.line ∷ r) s.lines_are) in
    let parts : s.setup ++ s.last ∷ o.rest ≡ (s.setup ++ s.last ∷ k.before) ++ k.here ∷ k.rest =
    ap (λ (r : List (List ℕ)). s.setup ++ s.last ∷ r) k.stands ∙ sym (append_assoc s.setup (s.last ∷ k.before) (k.here ∷ k.rest)) in
    let size = length-append s.setup (s.last ∷ k.before) in
    let line : o.place.lines + length k.before + 1 ≡ length (a.line ∷ b.line ∷ (s.setup ++ s.last ∷ k.before)) + 1 = omega (arith, s.count, size) in
    record {
      before = a.line ∷ b.line ∷ (s.setup ++ s.last ∷ k.before);
      here = k.here;
      rest = k.rest;
      stands = whole ∙ ap (λ (r : List (List ℕ)). a.line ∷ b.line ∷ r) parts;
      number = subst (NamesLine e) line k.number;
      said = k.said;
      events = record {
        header = a.line;
        second = b.line;
        setup = s.setup;
        last = s.last;
        body = k.before;
        lines = refl;
        is_header = subst (λ (d : Edition). header_of (content a.line) ≡ Some d) edition a.is;
        endless = endless s.setup s.short;
        is_end = s.is_end;
        says = subst (λ (d : Edition). option_map (config_of d) (document_of (text_of s.setup)) ≡ Some o.config) edition s.says;
        each = k.each;
      };
      ends = k.ends;
    }

pub ends_before : (text : List ℕ) (config : Config) (e : RecordError) → config_of_text text ≡ Some config → (reading_of_text text).refusal ≡ Some e → EndBefore (lines_of text) config e (reading_of_text text).phases
ends_before text config e c h = by_opening (opening_of_text text) refl c h
  where
    by_opening : (x : Opening) → opening_of_text text ≡ x → config_in x ≡ Some config → (after_opening x).refusal ≡ Some e → EndBefore (lines_of text) config e (after_opening x).phases
    by_opening (Err y) is c h = cc
    by_opening (Ok o) is c h =
        let same : o.config ≡ config = cc in
        subst (λ (d : Config). EndBefore (lines_of text) d e (reading_of o.config o.rest o.place (fresh o.config.start.0)).phases) same (ends_in_text text o e is h)

pub none_without : (text : List ℕ) → config_of_text text ≡ None → (reading_of_text text).phases ≡ []
none_without text c = by_opening (opening_of_text text) c
  where
    by_opening : (x : Opening) → config_in x ≡ None → (after_opening x).phases ≡ []
    by_opening (Err y) c = refl
    by_opening (Ok o) c = cc
