-- What was read when the source failed, line by line.
use Rattle.std.proofs.Common.{◌≡◌, ℕ, ◌+◌, ◌≤◌, Bool, true, false, List, [], ◌∷◌, ◌++◌, length, refl, sym, ap, ◌∙◌, subst, arith, append_assoc, length-append, Some, None, IfSome, Err}
use Rattle.std.proofs.lemmas.Bool.Decides.{nat_tests}
use Rattle.std.specs.Io.KnownBytes.{Consumes}
use Rattle.std.specs.declared.option.Option.{Option}
use Rattle.cell_io.specs.Lines.{lines_of, first_line, after_line, kept_of, has_feed, whole_lines}
use Rattle.cell_io.specs.Held.{Held, ahead, FailsInLine, IsLaterPart}
use Rattle.cell_io.proofs.Texts.{first-after, whole_none, whole_first, lines_here}
use Rattle.mms_types.specs.declared.event.CellEvent.{CellEvent}
use Rattle.cell_config.specs.declared.config.Config.{Config}
use Rattle.cell_record.specs.Recording.{Place, Reading, Opening, behind, fits, whole, front, opening_of, opening_of_text, opened, reading_of, fresh, config_in, after_opening}
use Rattle.cell_record.specs.Numbered.{Gives, phases, after_phase}
use Rattle.cell_record.specs.Progress.{Progress, rest_in}
use Rattle.cell_record.specs.declared.counts.Counts.{Counts}
use Rattle.cell_record.specs.Stops.{lines_in, ReadsTo, ReadsText, IsCutInOpening, Stops, Leads, LeadsText, StopsOpening, StopsInPhase}
use Rattle.cell_record.specs.declared.refusal.BadWord.{BadWord}
use Rattle.cell_record.specs.declared.refusal.RecordError.TheVariants.{Bad}
use Rattle.cell_record.proofs.Readings.{with_events, join-nil}

-- ---- one line more

lines_first : (text bs : List ℕ) → has_feed text ≡ true → lines_in (first_line text ++ bs) ≡ first_line text ∷ lines_in bs
lines_first text bs h = ap lines_of (whole_first text bs h) ∙ lines_here text (whole_lines bs) h

line_more : {T : Type 0} (f g : List (List ℕ) → Place → T) (h : T → T) (text tail : List ℕ) (p q end : Place) (r : T) → has_feed text ≡ true → q ≡ behind p (first_line text)
    → ((rest : List (List ℕ)) → f (first_line text ∷ rest) p ≡ h (g rest q)) → ReadsTo g q (after_line text) tail end r → ReadsTo f p text tail end (h r)
line_more f g h text tail p q end r feed is e k =
    let line = first_line text in
    let whole = lines_first text k.octets feed in
    record {
      octets = line ++ k.octets;
      parts = sym (first-after text) ∙ ap (λ (l : List ℕ). line ++ l) k.parts ∙ sym (append_assoc line k.octets tail);
      size = omega (arith, k.size, ap (λ (x : Place). x.octets) is, length-append line k.octets);
      count = omega (arith, k.count, ap (λ (x : Place). x.lines) is, ap (λ (l : List (List ℕ)). length l) whole);
      says = ap (λ (l : List (List ℕ)). f l p) whole ∙ e (lines_in k.octets) ∙ ap h k.says;
    }

pub leads_there : {T : Type 0} (f g : List (List ℕ) → Place → T) (h : T → T) (old new : Held) (left left' : Option (List ℕ)) (line : List ℕ) (p : Place) → old.ended ≡ false → new.given ≤ 4294967296
    → Gives (ahead old left) (ahead new left') line p.octets new.given → (new.ended ≡ false → IfSome (ahead old left) (λ text. has_feed text ≡ true))
    → ((l : List ℕ) (rest : List (List ℕ)) → line ≡ kept_of l → new.given ≡ p.octets + length l → fits p l ≡ true → f (l ∷ rest) p ≡ h (g rest (behind p l)))
    → Leads f old p left h g new (record { lines = p.lines + 1; octets = new.given }) left'
leads_there {T} f g h old new left left' line p unended m s feed e = λ last end r k. record {
  unended = unended;
  reads = λ tail t. at tail end r (ahead old left) (ahead new left') s (feed k.unended) (k.reads tail t);
}
  where
    at : (tail : List ℕ) (end : Place) (r : T) (a b : Option (List ℕ)) → Gives a b line p.octets new.given → IfSome a (λ text. has_feed text ≡ true)
        → IfSome b (λ text. ReadsTo g (record { lines = p.lines + 1; octets = new.given }) text tail end r) → IfSome a (λ text. ReadsTo f p text tail end (h r))
    at tail end r None b s feed k = tt
    at tail end r (Some text) b s feed k =
        let fit : fits p (first_line text) ≡ true = grind (arith, nat_tests, m, s.3) in
        let here : ReadsTo g (record { lines = p.lines + 1; octets = new.given }) (after_line text) tail end r =
        subst (λ (x : Option (List ℕ)). IfSome x (λ text. ReadsTo g (record { lines = p.lines + 1; octets = new.given }) text tail end r)) s.2 k in
        let place : record { lines = p.lines + 1; octets = new.given } ≡ behind p (first_line text) = ap (λ (n : ℕ). record { lines = p.lines + 1; octets = n }) s.3 in
        line_more f g h text tail p (record { lines = p.lines + 1; octets = new.given }) end r feed place
        (λ rest. e (first_line text) rest s.1 s.3 fit ∙ ap (λ (x : Place). h (g rest x)) (sym place)) here

-- ---- one after the other

pub leads_then : {T : Type 0} (f g k : List (List ℕ) → Place → T) (h i j : T → T) (a b c : Held) (p q s : Place) (left left' left'' : Option (List ℕ)) → ((r : T) → h (i r) ≡ j r)
    → Leads f a p left h g b q left' → Leads g b q left' i k c s left'' → Leads f a p left j k c s left''
leads_then {T} f g k h i j a b c p q s left left' left'' e x y = λ last end r z. subst (Stops f a p left last end) (e r) (x last end (i r) (y last end r z))

pub leads_begun : {T : Type 0} (f : List (List ℕ) → Place → T) (a : Held) (p : Place) (left : Option (List ℕ)) → Leads f a p left (λ r. r) f a p left
leads_begun f a p left = λ last end r z. z

-- what two readings say alike of all lines leads to the same
pub leads_told : {T : Type 0} (f g : List (List ℕ) → Place → T) (a : Held) (p : Place) (left : Option (List ℕ)) → ((lines : List (List ℕ)) (q : Place) → f lines q ≡ g lines q)
    → Leads f a p left (λ r. r) g a p left
leads_told {T} f g a p left e = λ last end r z. record { unended = z.unended; reads = λ tail t. at tail end r (ahead a left) (z.reads tail t) }
  where
    at : (tail : List ℕ) (end : Place) (r : T) (x : Option (List ℕ)) → IfSome x (λ text. ReadsTo g p text tail end r) → IfSome x (λ text. ReadsTo f p text tail end r)
    at tail end r None k = tt
    at tail end r (Some text) k = record { octets = k.octets; parts = k.parts; size = k.size; count = k.count; says = e (lines_in k.octets) p ∙ k.says }

-- nothing fails behind the end
pub leads_nowhere : {T : Type 0} (f g : List (List ℕ) → Place → T) (h : T → T) (a b : Held) (p q : Place) (left left' : Option (List ℕ)) → b.ended ≡ true → Leads f a p left h g b q left'
leads_nowhere f g h a b p q left left' e = λ last end r z. absurd (let o = z.unended in cc (e, o))

-- ---- the source fails in a line

pub stops_here : {T : Type 0} (f : List (List ℕ) → Place → T) (held : Held) (left last : Option (List ℕ)) (given lines : ℕ) → FailsInLine held left last given
    → Stops f held (record { lines = lines; octets = held.given }) left last (record { lines = lines; octets = given }) (f [] (record { lines = lines; octets = held.given }))
stops_here {T} f held left last given lines k = record { unended = k.unended; reads = λ tail t. at tail (ahead held left) (subst (λ (x : Option (List ℕ)). Consumes (ahead held left) x k.octets) t k.consumed) }
  where
    none : lines_in k.octets ≡ []
    none = ap lines_of (whole_none k.octets k.no_feed)

    at : (tail : List ℕ) (x : Option (List ℕ)) → Consumes x (Some tail) k.octets
        → IfSome x (λ text. ReadsTo f (record { lines = lines; octets = held.given }) text tail (record { lines = lines; octets = given }) (f [] (record { lines = lines; octets = held.given })))
    at tail None c = tt
    at tail (Some text) c = record {
      octets = k.octets;
      parts = c;
      size = sym k.size;
      count = omega (arith, ap (λ (l : List (List ℕ)). length l) none);
      says = ap (λ (l : List (List ℕ)). f l (record { lines = lines; octets = held.given })) none;
    }

-- ---- the lines up to `end`

pub opening_stops : (f : List (List ℕ) → Place → Opening) (held : Held) (left last : Option (List ℕ)) (given lines : ℕ) (word : BadWord) → given ≤ 4294967296
    → f [] (record { lines = lines; octets = held.given }) ≡ Err (Bad (lines + 1) word) → FailsInLine held left last given → StopsOpening f held (record { lines = lines; octets = held.given }) left last
opening_stops f held left last given lines word m e k = record {
  end = record { lines = lines; octets = given };
  word = word;
  most = m;
  stops = subst (Stops f held (record { lines = lines; octets = held.given }) left last (record { lines = lines; octets = given })) e (stops_here f held left last given lines k);
}

pub opening_then : (f g : List (List ℕ) → Place → Opening) (a b : Held) (p q : Place) (left left' last : Option (List ℕ)) → Leads f a p left (λ r. r) g b q left' → StopsOpening g b q left' last → StopsOpening f a p left last
opening_then f g a b p q left left' last x s = record { end = s.end; word = s.word; most = s.most; stops = x last s.end (Err (Bad (s.end.lines + 1) s.word)) s.stops }

-- ---- a phase

pub phase_stops : (f : List (List ℕ) → Place → Reading) (held : Held) (left last : Option (List ℕ)) (given lines : ℕ) → given ≤ 4294967296
    → f [] (record { lines = lines; octets = held.given }) ≡ whole → FailsInLine held left last given → StopsInPhase f held (record { lines = lines; octets = held.given }) left last
phase_stops f held left last given lines m e k = record {
  end = record { lines = lines; octets = given };
  events = [];
  most = m;
  stops = subst (Stops f held (record { lines = lines; octets = held.given }) left last (record { lines = lines; octets = given })) e (stops_here f held left last given lines k);
}

pub phase_then : (f g : List (List ℕ) → Place → Reading) (es : List CellEvent) (a b : Held) (p q : Place) (left left' last : Option (List ℕ)) → Leads f a p left (with_events es) g b q left' → StopsInPhase g b q left' last
    → StopsInPhase f a p left last
phase_then f g es a b p q left left' last x s = record { end = s.end; events = es ++ s.events; most = s.most; stops = x last s.end (record { phases = s.events ∷ []; refusal = None }) s.stops }

pub leads_begin : (f : List (List ℕ) → Place → Reading) (a : Held) (p : Place) (left : Option (List ℕ)) → Leads f a p left (with_events []) f a p left
leads_begin f a p left = λ last end r z. subst (Stops f a p left last end) (sym (ap (λ (ps : List (List CellEvent)). record { phases = ps; refusal = r.refusal }) (join-nil r.phases))) z

-- ---- a recording that is being read

pub rest_told : (s : Progress) (c : Counts) (lines : List (List ℕ)) (q : Place) → s.over ≡ false → s.refusal ≡ None → c ≡ fresh s.moment → rest_in s lines q ≡ phases s.config c lines q
rest_told s c lines q o r m = rw (o, r, m) refl

pub rest_after : (s t : Progress) (last : Bool) (lines : List (List ℕ)) (q : Place) → t.refusal ≡ None → t.config ≡ s.config → t.over ≡ last → after_phase s.config last t.moment lines q ≡ rest_in t lines q
rest_after s t last lines q r c o = rw (r, o, c) refl

-- ---- a whole text

read_all : (text tail octets : List ℕ) (last : Option (List ℕ)) → last ≡ Some tail → text ≡ octets ++ tail → Consumes (Some text) last octets
read_all text tail octets last is e = rw is e

told_one : (x : List ℕ) (last : Option (List ℕ)) → IsLaterPart (Some x) last → (tail : List ℕ) × (last ≡ Some tail)
told_one x None p = absurd p.1
told_one x (Some tail) p = (tail, refl)

-- the reader holds nothing yet
pub fresh_held : (held : Held) (left : Option (List ℕ)) → held.octets ≡ [] → held.ended ≡ false → ahead held left ≡ left
fresh_held held None o e = rw e refl
fresh_held held (Some x) o e = rw (e, o) refl

pub cut_in_opening : (held : Held) (p : Place) (left last : Option (List ℕ)) → held.octets ≡ [] → held.ended ≡ false → p ≡ front → IsLaterPart left last → StopsOpening opening_of held p left last
    → IfSome left (λ text. IsCutInOpening text last)
cut_in_opening held p None last o e f later s = tt
cut_in_opening held p (Some x) last o e f later s =
    let t = told_one x last later in
    let k : ReadsTo opening_of p x t.0 s.end (Err (Bad (s.end.lines + 1) s.word)) =
    subst (λ (y : Option (List ℕ)). IfSome y (λ text. ReadsTo opening_of p text t.0 s.end (Err (Bad (s.end.lines + 1) s.word)))) (fresh_held held (Some x) o e) (s.stops.reads t.0 t.1) in
    let size = ap (λ (q : Place). q.octets) f in
    let count = ap (λ (q : Place). q.lines) f in
    let lines : s.end.lines ≡ length (lines_in k.octets) = omega (arith, k.count, count) in
    record {
      octets = k.octets;
      read = record { consumed = read_all x t.0 k.octets last t.1 k.parts; most = omega (arith, k.size, size, s.most) };
      word = s.word;
      says = ap (opening_of (lines_in k.octets)) (sym f) ∙ k.says ∙ ap (λ (n : ℕ). Err (Bad (n + 1) s.word)) lines;
    }

-- what is said behind the line `end` of a configuration
abbrev phases_in : Config → List (List ℕ) → Place → Reading
phases_in config lines s = reading_of config lines s (fresh config.start.0)

ahead_told : (now : Held) (y : List ℕ) → now.ended ≡ false → ahead now (Some y) ≡ Some (now.octets ++ y)
ahead_told now y e = rw e refl

same_tail : (last : Option (List ℕ)) (a b : List ℕ) → last ≡ Some a → last ≡ Some b → a ≡ b
same_tail last a b p q = let k = sym p ∙ q in cc k

opened_stops : (config : Config) (now : Held) (q end : Place) (left last : Option (List ℕ)) (text tail : List ℕ) (r : Reading) → last ≡ Some tail → ahead now left ≡ Some text → now.ended ≡ false
    → (k : ReadsTo (phases_in config) q text tail end r) → Stops (opened config) now q left last end (opened config (lines_in k.octets) q)
opened_stops config now q end left last text tail r t a e k = record {
  unended = e;
  reads = λ other u. subst (λ (x : Option (List ℕ)). IfSome x (λ text. ReadsTo (opened config) q text other end (opened config (lines_in k.octets) q))) (sym a) (record {
    octets = k.octets;
    parts = k.parts ∙ ap (λ (l : List ℕ). k.octets ++ l) (same_tail last tail other t u);
    size = k.size;
    count = k.count;
    says = refl;
  });
}

text_read : (config : Config) (p q end : Place) (text tail : List ℕ) (last : Option (List ℕ)) (lines : List (List ℕ)) (r : Reading) → last ≡ Some tail → p ≡ front → phases_in config lines q ≡ r
    → ReadsTo opening_of p text tail end (opened config lines q) → ReadsText text last config end r
text_read config p q end text tail last lines r t f e k =
    let says : opening_of_text (whole_lines k.octets) ≡ opened config lines q = ap (opening_of (lines_in k.octets)) (sym f) ∙ k.says in
    let size = ap (λ (x : Place). x.octets) f in
    record {
      octets = k.octets;
      consumed = read_all text tail k.octets last t k.parts;
      size = omega (arith, k.size, size);
      tells = ap config_in says;
      says = ap after_opening says ∙ e;
    }

-- the configuration was read, and then so much of the phases
pub leads_text : (held now : Held) (p q : Place) (left left' : Option (List ℕ)) (config : Config) → held.octets ≡ [] → held.ended ≡ false → p ≡ front → IsLaterPart left left'
    → Leads opening_of held p left (λ r. r) (opened config) now q left' → LeadsText left config (phases_in config) now q left'
leads_text held now p q None left' config o e f part x = λ last end r later z. tt
leads_text held now p q (Some y) None config o e f part x = absurd part.1
leads_text held now p q (Some y) (Some y') config o e f part x = λ last end r later z.
    let t = told_one y' last later in
    let a = ahead_told now y' z.unended in
    let k : ReadsTo (phases_in config) q (now.octets ++ y') t.0 end r = subst (λ (b : Option (List ℕ)). IfSome b (λ text. ReadsTo (phases_in config) q text t.0 end r)) a (z.reads t.0 t.1) in
    let s = x last end (opened config (lines_in k.octets) q) (opened_stops config now q end (Some y') last (now.octets ++ y') t.0 r t.1 a z.unended k) in
    let there = subst (λ (b : Option (List ℕ)). IfSome b (λ text. ReadsTo opening_of p text t.0 end (opened config (lines_in k.octets) q))) (fresh_held held (Some y) o e) (s.reads t.0 t.1) in
    text_read config p q end y t.0 last (lines_in k.octets) r t.1 f k.says there
