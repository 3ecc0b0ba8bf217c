-- A text is read up to the first line that is refused.
use Rattle.std.proofs.Common.{◌≡◌, ℕ, ◌+◌, ◌<◌, ◌≤◌, ◌⊎◌, inl, inr, Bool, true, false, List, [], ◌∷◌, ◌++◌, length, codes, refl, sym, ap, subst, ◌∙◌, arith, append_assoc, append-nil, length-append, Some, None, Result, Ok, Err, nat_lt, if◌then◌else◌}
use Rattle.std.proofs.lemmas.Bool.Decides.{nat_tests}
use Rattle.std.specs.Option.{option_map}
use Rattle.std.specs.declared.option.Option.{Option}
use Rattle.cell_io.specs.Lines.{lines_of}
use Rattle.mms_types.specs.FirstCause.{Holds, Tells}
use Rattle.mms_types.specs.declared.identifier.Edition.{Edition}
use Rattle.mms_types.specs.declared.identifier.Edition.TheVariants.{One, Two}
use Rattle.cell_config.specs.declared.config.Config.{Config}
use Rattle.cell_config.specs.Rules.{document_of, least_broken}
use Rattle.cell_config.specs.Said.{config_of}
use Rattle.cell_config.proofs.Holding.{edition_of, configuration_there}
use Rattle.cell_record.specs.Words.{content, is_long, trim}
use Rattle.cell_record.specs.EventLine.{same, said_of, trimmed_says}
use Rattle.cell_record.specs.Recording.{Place, Reading, Opening, behind, front, fits, refused, makes, moved, refusal_of, fresh, unless, with_said, reading_of, header_of, under, setup_in, in_text, size_in_text, setup_word, unless_word, opened_unless, configured, setup_of, opening_of, after_opening, reading_of_text}
use Rattle.cell_record.specs.Grammar.{text_of}
use Rattle.cell_record.specs.Refused.{octets_of, HaveNoEnd, InSetup, InEvents, IsOver, LacksHeader, LacksConfig, IsLong, OfEventLine, Refuses, StandsBehind, NoneRefused, IsFirstRefusal, IsRefused}
use Rattle.cell_record.specs.declared.said.LineMeaning.{LineMeaning}
use Rattle.cell_record.specs.declared.said.LineMeaning.TheVariants.{Nothing, Phase, Happens}
use Rattle.cell_record.specs.declared.counts.Counts.{Counts}
use Rattle.cell_record.specs.declared.refusal.BadWord.{BadWord}
use Rattle.cell_record.specs.declared.refusal.BadWord.TheVariants as bad
use Rattle.cell_record.specs.declared.refusal.RecordError.{RecordError}
use Rattle.cell_record.specs.declared.refusal.RecordError.TheVariants.{Bad, BadConfig, TooMuch}
use Rattle.cell_record.proofs.Valid.{same_text}
use Rattle.cell_record.proofs.LineCauses.{line_is}
use Rattle.cell_record.proofs.FirstCause.{Counted, InConfig, Rule, config_tells, counted_more, event_tells, events_more, few_events, few_setup, from_event, from_long, header_same, header_tells, line, long_tells, no_event, none_some, not_both, outcome, over_tells, says, setup_same, some_same, true_false}

-- ---- the first line that is refused

-- the place at which reading stops, and that it is told there
record Stopped (lines : List (List ℕ)) (e : RecordError) : Type 0 where
  pub before : List (List ℕ)
  pub here : Option (List ℕ)
  pub stands : StandsBehind before here lines
  pub first : NoneRefused before
  pub tells : Tells (Refuses before here) (Some e)

abbrev Ends : List (List ℕ) → Option RecordError → Type 0
Ends lines (Some e) = Stopped lines e
Ends lines None = NoneRefused lines × (Holds (Refuses lines None) → ⊥)

not_empty : (b r : List (List ℕ)) (m : List ℕ) → [] ≡ b ++ m ∷ r → ⊥
not_empty [] r m e = cc
not_empty (x ∷ b) r m e = cc

split_last : (before b r : List (List ℕ)) (l m : List ℕ) → before ++ l ∷ [] ≡ b ++ m ∷ r → ((b ≡ before) × (m ≡ l)) ⊎ ((rest : List (List ℕ)) × (before ≡ b ++ m ∷ rest))
split_last [] [] r l m e = inl (refl, cc)
split_last [] (x ∷ b) r l m e = let k : [] ≡ b ++ m ∷ r = cc in absurd (not_empty b r m k)
split_last (y ∷ ys) [] r l m e = let k : y ≡ m = cc in inr (ys, ap (λ (z : List ℕ). z ∷ ys) k)
split_last (y ∷ ys) (x ∷ b) r l m e =
    let front : x ≡ y = cc in
    let k : ys ++ l ∷ [] ≡ b ++ m ∷ r = cc in
    more front (split_last ys b r l m k)
  where
    more : x ≡ y → ((b ≡ ys) × (m ≡ l)) ⊎ ((rest : List (List ℕ)) × (ys ≡ b ++ m ∷ rest)) → ((x ∷ b ≡ y ∷ ys) × (m ≡ l)) ⊎ ((rest : List (List ℕ)) × (y ∷ ys ≡ x ∷ (b ++ m ∷ rest)))
    more front (inl h) = inl (ap (λ (z : List ℕ). z ∷ b) front ∙ ap (λ (zs : List (List ℕ)). y ∷ zs) h.0, h.1)
    more front (inr h) = inr (h.0, ap (λ (z : List ℕ). z ∷ ys) (sym front) ∙ ap (λ (zs : List (List ℕ)). x ∷ zs) h.1)

one_more : (before : List (List ℕ)) (l : List ℕ) → NoneRefused before → Tells (Refuses before (Some l)) None → NoneRefused (before ++ l ∷ [])
one_more before l n t b r m e h = by_split (split_last before b r l m e)
  where
    by_split : ((b ≡ before) × (m ≡ l)) ⊎ ((rest : List (List ℕ)) × (before ≡ b ++ m ∷ rest)) → ⊥
    by_split (inl s) = t h.0 (subst (λ (x : List (List ℕ)). Refuses x (Some l) h.0) s.0 (subst (λ (x : List ℕ). Refuses b (Some x) h.0) s.1 h.1))
    by_split (inr s) = n b s.0 m s.1 h

stop_here : (before : List (List ℕ)) (l : List ℕ) (rest : List (List ℕ)) (e : RecordError) → NoneRefused before → Tells (Refuses before (Some l)) (Some e) → Ends (before ++ l ∷ rest) (Some e)
stop_here before l rest e n t = record { before = before; here = Some l; stands = (rest, refl); first = n; tells = t }

stop_behind : (before : List (List ℕ)) (e : RecordError) → NoneRefused before → Tells (Refuses before None) (Some e) → Ends (before ++ []) (Some e)
stop_behind before e n t = record { before = before; here = None; stands = append-nil before; first = n; tells = t }

pass_behind : (before : List (List ℕ)) → NoneRefused before → Tells (Refuses before None) None → Ends (before ++ []) None
pass_behind before n t = subst (λ (ls : List (List ℕ)). NoneRefused ls × (Holds (Refuses ls None) → ⊥)) (sym (append-nil before)) (n, λ h. t h.0 h.1)

go_on : (before : List (List ℕ)) (l : List ℕ) (rest : List (List ℕ)) (o : Option RecordError) → Ends ((before ++ l ∷ []) ++ rest) o → Ends (before ++ l ∷ rest) o
go_on before l rest o h = subst (λ (ls : List (List ℕ)). Ends ls o) (append_assoc before (l ∷ []) rest) h

octets_further : (before : List (List ℕ)) (l : List ℕ) → octets_of (before ++ l ∷ []) ≡ octets_of before + length l
octets_further [] l = omega arith
octets_further (x ∷ before) l = let k = octets_further before l in omega (arith, k)

-- where a line stands, the place says how many lines and octets stand before it
record IsPlace (p : Place) (before : List (List ℕ)) : Type 0 where
  pub lines : p.lines ≡ length before
  pub octets : p.octets ≡ octets_of before

place_further : (p : Place) (before : List (List ℕ)) (l : List ℕ) → IsPlace p before → IsPlace (behind p l) (before ++ l ∷ [])
place_further p before l k =
    let lines = length-append before (l ∷ []) in
    let octets = octets_further before l in
    record { lines = omega (arith, k.lines, lines); octets = omega (arith, k.octets, octets) }

over_is : (p : Place) (before : List (List ℕ)) (l : List ℕ) → IsPlace p before → fits p l ≡ false → IsOver before (Some l)
over_is p before l k f = let m : 4294967296 < p.octets + length l = grind (arith, nat_tests, f) in (l, refl, omega (arith, m, k.octets))

not_over : (p : Place) (before : List (List ℕ)) (l : List ℕ) → IsPlace p before → fits p l ≡ true → IsOver before (Some l) → ⊥
not_over p before l k f h =
    let m : p.octets + length l ≤ 4294967296 = grind (arith, nat_tests, f) in
    let same = ap length (some_same l h.0 h.1) in
    omega (arith, m, k.octets, h.2, same)

-- ---- the event lines

-- behind event lines nothing is missing
end_tells : (before : List (List ℕ)) (config : Config) (said : List LineMeaning) → InEvents before config said → Tells (Refuses before None) None
end_tells before config said i =
    from_long before None None
    (λ h. none_some h.0 h.1)
    (λ h. few_events before config said (let k = ap length h.0 in omega (arith, k)) i)
    in_config
    (from_event before None None (λ h. none_some h.0 h.1)
    (no_event before None None (λ Cause h. none_some h.3 h.4) (λ e r. not_both before r.0 config said r.1 i)))
  where
    in_config : InConfig before None → ⊥
    in_config (inl h) = few_events before config said (omega (arith, h.0)) i
    in_config (inr (inl h)) = not_both before h.1 config said h.2 i
    in_config (inr (inr h)) = not_both before h.0 config said h.1 i

line_tells : (before : List (List ℕ)) (l : List ℕ) (config : Config) (said : List LineMeaning) (c : Counts) → InEvents before config said → Counted config said c → (IsOver before (Some l) → ⊥)
    → Tells (Refuses before (Some l)) (outcome (length before + 1) c (said_of config (content l)))
line_tells before l config said c i k over = by_long (is_long l) refl
  where
    in_config : InConfig before (Some l) → ⊥
    in_config (inl h) = few_events before config said (omega (arith, h.0)) i
    in_config (inr (inl h)) = none_some l (sym h.0)
    in_config (inr (inr h)) = not_both before h.0 config said h.1 i

    header : LacksHeader before (Some l) → ⊥
    header h = few_events before config said (let k = ap length h.0 in omega (arith, k)) i

    not_long : is_long l ≡ false → IsLong (Some l) → ⊥
    not_long e h = true_false (sym h.2 ∙ ap is_long (sym (some_same l h.0 h.1)) ∙ e)

    by_long : (b : Bool) → is_long l ≡ b → Tells (Refuses before (Some l)) (outcome (length before + 1) c (said_of config (content l)))
    by_long true e =
        let is : said_of config (content l) ≡ Err bad.Long = rw e refl in
        rw is (from_long before (Some l) (Some (Bad (length before + 1) bad.Long)) over header in_config (long_tells before (Some l) (l, refl, e)))
    by_long false e =
        let is : said_of config (content l) ≡ trimmed_says config (trim (content l)) = rw e refl in
        let o = outcome (length before + 1) c (trimmed_says config (trim (content l))) in
        rw is (from_long before (Some l) o over header in_config (from_event before (Some l) o (not_long e) (event_tells before l config said c i k (trimmed_says config (trim (content l))) is (line_is config said (content l)))))

makes_refusal : (s : LineMeaning) (r : Reading) → (makes s r).refusal ≡ r.refusal
makes_refusal Nothing r = refl
makes_refusal Phase r = refl
makes_refusal (Happens e) r = refl

-- a line, and then what the rest comes to
line_ends : (before : List (List ℕ)) (l : List ℕ) (ls : List (List ℕ)) (config : Config) (c : Counts) (rest : Counts → Reading) (r : Result LineMeaning BadWord) → NoneRefused before
    → said_of config (content l) ≡ r → Tells (Refuses before (Some l)) (outcome (length before + 1) c r)
    → ((s : LineMeaning) → said_of config (content l) ≡ Ok s → Tells (Refuses before (Some l)) None → Ends (before ++ l ∷ ls) (rest (moved c s)).refusal)
    → Ends (before ++ l ∷ ls) (with_said (length before + 1) c r rest).refusal
line_ends before l ls config c rest (Err word) n e t ih = stop_here before l ls (Bad (length before + 1) word) n t
line_ends before l ls config c rest (Ok s) n e t ih = by_excess (refusal_of (length before + 1) (moved c s) s) t
  where
    by_excess : (o : Option RecordError) → Tells (Refuses before (Some l)) o → Ends (before ++ l ∷ ls) (unless o (makes s (rest (moved c s)))).refusal
    by_excess (Some x) t = stop_here before l ls x n t
    by_excess None t = subst (λ (o : Option RecordError). Ends (before ++ l ∷ ls) o) (sym (makes_refusal s (rest (moved c s)))) (ih s e t)

body : (config : Config) (lines before : List (List ℕ)) (said : List LineMeaning) (p : Place) (c : Counts) → InEvents before config said → Counted config said c → IsPlace p before → NoneRefused before
    → Ends (before ++ lines) (reading_of config lines p c).refusal
body config [] before said p c i k q n = pass_behind before n (end_tells before config said i)
body config (l ∷ ls) before said p c i k q n =
    by_fit (λ s e t. go_on before l ls _ (body config ls (before ++ l ∷ []) (said ++ s ∷ []) (behind p l) (moved c s) (events_more before config said l s i e) (counted_more config said c s k) (place_further p before l q) (one_more before l n t)))
    (fits p l) refl
  where
    by_fit : ((s : LineMeaning) → said_of config (content l) ≡ Ok s → Tells (Refuses before (Some l)) None → Ends (before ++ l ∷ ls) (reading_of config ls (behind p l) (moved c s)).refusal)
        → (b : Bool) → fits p l ≡ b → Ends (before ++ l ∷ ls) (if b then with_said (p.lines + 1) c (said_of config (content l)) (λ d. reading_of config ls (behind p l) d) else refused (TooMuch (p.lines + 1))).refusal
    by_fit ih true e =
        subst (λ (n : ℕ). Ends (before ++ l ∷ ls) (with_said n c (said_of config (content l)) (λ d. reading_of config ls (behind p l) d)).refusal) (ap (λ (n : ℕ). n + 1) (sym q.lines))
        (line_ends before l ls config c (λ d. reading_of config ls (behind p l) d) (said_of config (content l)) n refl (line_tells before l config said c i k (not_over p before l q e)) ih)
    by_fit ih false e = rw q.lines (stop_here before l ls (TooMuch (length before + 1)) n (over_tells before (Some l) (over_is p before l q e)))

-- ---- the configuration's lines

text_more : (setup : List (List ℕ)) (l : List ℕ) → text_of (setup ++ l ∷ []) ≡ text_of setup ++ in_text l
text_more [] l = append-nil (in_text l)
text_more (x ∷ setup) l = ap (λ (t : List ℕ). in_text x ++ t) (text_more setup l) ∙ sym (append_assoc (in_text x) (text_of setup) (in_text l))

endless_more : (setup : List (List ℕ)) (l : List ℕ) → HaveNoEnd setup → (content l ≡ codes "end" → ⊥) → HaveNoEnd (setup ++ l ∷ [])
endless_more [] l h e = (e, tt)
endless_more (x ∷ setup) l h e = (h.0, endless_more setup l h.1 e)

setup_more : (before setup : List (List ℕ)) (l : List ℕ) → InSetup before setup → (content l ≡ codes "end" → ⊥) → InSetup (before ++ l ∷ []) (setup ++ l ∷ [])
setup_more before setup l i e = record {
  header = i.header;
  second = i.second;
  lines = ap (λ (b : List (List ℕ)). b ++ l ∷ []) i.lines;
  endless = endless_more setup l i.endless e;
}

-- behind the line `end` the first event line stands
first_event : (before setup : List (List ℕ)) (l : List ℕ) (config : Config) (i : InSetup before setup) → header_of (content i.header) ≡ Some config.edition → content l ≡ codes "end"
    → option_map (config_of config.edition) (document_of (text_of setup)) ≡ Some config → InEvents (before ++ l ∷ []) config []
first_event before setup l config i h e says = record {
  header = i.header;
  second = i.second;
  setup = setup;
  last = l;
  body = [];
  lines = ap (λ (b : List (List ℕ)). b ++ l ∷ []) i.lines;
  is_header = h;
  endless = i.endless;
  is_end = e;
  says = says;
  each = tt;
}

first_counts : (config : Config) → Counted config [] (fresh config.start.0)
first_counts config = record { events = refl; octets = refl; moment = omega arith }

module _ (before setup : List (List ℕ)) (l : List ℕ) (i : InSetup before setup) (over : IsOver before (Some l) → ⊥) where
  setup_header : LacksHeader before (Some l) → ⊥
  setup_header h = few_setup before setup (let k = ap length h.0 in omega (arith, k)) i

  setup_events : (Cause : Config → List LineMeaning → List ℕ → Type 0) → OfEventLine Cause before (Some l) → ⊥
  setup_events Cause h = not_both before setup h.0 h.1 i h.2

  -- the line `end`
  end_config : content l ≡ codes "end" → InConfig before (Some l) → ⊥
  end_config e (inl h) = few_setup before setup (omega (arith, h.0)) i
  end_config e (inr (inl h)) = none_some l (sym h.0)
  end_config e (inr (inr h)) = h.4 (ap content (sym (some_same l h.2 h.3)) ∙ e)

  end_short : content l ≡ codes "end" → IsLong (Some l) → ⊥
  end_short e h = true_false (sym h.2 ∙ ap is_long (sym (some_same l h.0 h.1)) ∙ ap (λ (x : List ℕ). nat_lt 196608 (length x)) e)

  at_end : content l ≡ codes "end" → (o : Option RecordError) → Tells (Rule before (Some l)) o → Tells (Refuses before (Some l)) o
  at_end e o t = from_long before (Some l) o over setup_header (end_config e) (from_event before (Some l) o (end_short e) (no_event before (Some l) o setup_events t))

  -- the least broken rule is that of the one edition and the one text
  same_rule : (edition : Edition) → header_of (content i.header) ≡ Some edition
      → (other : List (List ℕ)) (j : InSetup before other) (e : Edition) → header_of (content j.header) ≡ Some e → least_broken e (text_of other) ≡ least_broken edition (text_of setup)
  same_rule edition of other j e is =
      let one : e ≡ edition = some_same e edition (sym is ∙ ap (λ (h : List ℕ). header_of (content h)) (header_same before other setup j i) ∙ of) in
      ap (λ (d : Edition). least_broken d (text_of other)) one ∙ ap (λ (s : List (List ℕ)). least_broken edition (text_of s)) (setup_same before other setup j i)

  rule_tells : content l ≡ codes "end" → (edition : Edition) → header_of (content i.header) ≡ Some edition → (rule : ℕ) → least_broken edition (text_of setup) ≡ Some rule
      → Tells (Rule before (Some l)) (Some (BadConfig rule))
  rule_tells e edition of rule r = ((setup, i, l, refl, e, edition, of, rule, r, refl), unique)
    where
      unique : (x : RecordError) → Rule before (Some l) x → x ≡ BadConfig rule
      unique x h = h.9 ∙ ap BadConfig (some_same h.7 rule (sym h.8 ∙ same_rule edition of h.0 h.1 h.5 h.6 ∙ r))

  no_rule_tells : (edition : Edition) → header_of (content i.header) ≡ Some edition → least_broken edition (text_of setup) ≡ None → Tells (Rule before (Some l)) None
  no_rule_tells edition of r x h = none_some h.7 (sym r ∙ sym (same_rule edition of h.0 h.1 h.5 h.6) ∙ h.8)

  -- another line
  not_end : (content l ≡ codes "end" → ⊥) → (e : RecordError) → Rule before (Some l) e → ⊥
  not_end e x h = e (ap content (some_same l h.2 h.3) ∙ h.4)

  setup_config : length (text_of setup) + size_in_text l ≤ 1048576 → InConfig before (Some l) → ⊥
  setup_config few (inl h) = few_setup before setup (omega (arith, h.0)) i
  setup_config few (inr (inl h)) = none_some l (sym h.0)
  setup_config few (inr (inr h)) =
      let same = ap (λ (s : List (List ℕ)). length (text_of s)) (setup_same before h.0 setup h.1 i) in
      let size = ap size_in_text (some_same l h.2 h.3) in
      omega (arith, few, h.5, same, size)

  much_setup : (content l ≡ codes "end" → ⊥) → 1048576 < length (text_of setup) + size_in_text l → Tells (Refuses before (Some l)) (Some (Bad (length before + 1) bad.Config))
  much_setup e m = config_tells before (Some l) over setup_header (inr (inr (setup, i, l, refl, e, m)))

  long_setup : length (text_of setup) + size_in_text l ≤ 1048576 → is_long l ≡ true → Tells (Refuses before (Some l)) (Some (Bad (length before + 1) bad.Long))
  long_setup few e = from_long before (Some l) (Some (Bad (length before + 1) bad.Long)) over setup_header (setup_config few) (long_tells before (Some l) (l, refl, e))

  short_setup : (content l ≡ codes "end" → ⊥) → length (text_of setup) + size_in_text l ≤ 1048576 → is_long l ≡ false → Tells (Refuses before (Some l)) None
  short_setup e few s =
      from_long before (Some l) None over setup_header (setup_config few)
      (from_event before (Some l) None (λ h. true_false (sym h.2 ∙ ap is_long (sym (some_same l h.0 h.1)) ∙ s)) (no_event before (Some l) None setup_events (not_end e)))

-- what is refused of what an opening comes to
abbrev refusal_behind : Opening → Option RecordError
refusal_behind o = (after_opening o).refusal

setup_ends : (edition : Edition) (lines before setup : List (List ℕ)) (p : Place) (text : List ℕ) (i : InSetup before setup) → header_of (content i.header) ≡ Some edition → text ≡ text_of setup → IsPlace p before → NoneRefused before
    → Ends (before ++ lines) (refusal_behind (setup_of edition lines p text))
unfolding setup_more
setup_ends edition [] before setup p text i h x q n =
    rw q.lines (stop_behind before (Bad (length before + 1) bad.Config) n
    (config_tells before None (λ h. none_some h.0 h.1) (λ h. few_setup before setup (let k = ap length h.0 in omega (arith, k)) i) (inr (inl (refl, setup, i)))))
setup_ends edition (l ∷ ls) before setup p text i h x q n =
    by_fit (λ e t. go_on before l ls _ (setup_ends edition ls (before ++ l ∷ []) (setup ++ l ∷ []) (behind p l) (text ++ in_text l) (setup_more before setup l i e) h (ap (λ (y : List ℕ). y ++ in_text l) x ∙ sym (text_more setup l)) (place_further p before l q) (one_more before l n t)))
    (fits p l) refl
  where
    by_rule : (e : content l ≡ codes "end") → (IsOver before (Some l) → ⊥) → (rule : Option ℕ) (config : Option Config) → least_broken edition text ≡ rule → option_map (config_of edition) (document_of text) ≡ config
        → Ends (before ++ l ∷ ls) (refusal_behind (opened_unless rule config ls (behind p l)))
    by_rule e over (Some rule) config r s =
        stop_here before l ls (BadConfig rule) n (at_end before setup l i over e (Some (BadConfig rule)) (rule_tells before setup l i over e edition h rule (ap (least_broken edition) (sym x) ∙ r)))
    by_rule e over None None r s = absurd (configuration_there edition text r s)
    by_rule e over None (Some config) r s =
        let same = edition_of edition (document_of text) config s in
        let says : option_map (config_of config.edition) (document_of (text_of setup)) ≡ Some config =
        ap (λ (d : Edition). option_map (config_of d) (document_of (text_of setup))) (sym same) ∙ ap (λ (y : List ℕ). option_map (config_of edition) (document_of y)) (sym x) ∙ s in
        let t = at_end before setup l i over e None (no_rule_tells before setup l i over edition h (ap (least_broken edition) (sym x) ∙ r)) in
        go_on before l ls _
        (body config ls (before ++ l ∷ []) [] (behind p l) (fresh config.start.0) (first_event before setup l config i (h ∙ ap Some same) e says) (first_counts config) (place_further p before l q) (one_more before l n t))

    by_word : (e : content l ≡ codes "end" → ⊥) → (IsOver before (Some l) → ⊥) → (Tells (Refuses before (Some l)) None → Ends (before ++ l ∷ ls) (refusal_behind (setup_of edition ls (behind p l) (text ++ in_text l))))
        → (a b : Bool) → nat_lt 1048576 (length text + size_in_text l) ≡ a → is_long l ≡ b
        → Ends (before ++ l ∷ ls) (refusal_behind (unless_word (length before + 1) (if a then Some bad.Config else if b then Some bad.Long else None) (setup_of edition ls (behind p l) (text ++ in_text l))))
    by_word e over ih true b y z =
        let much : 1048576 < length text + size_in_text l = grind (arith, nat_tests, y) in
        stop_here before l ls (Bad (length before + 1) bad.Config) n (much_setup before setup l i over e (omega (arith, much, ap length x)))
    by_word e over ih false true y z =
        let few : length text + size_in_text l ≤ 1048576 = grind (arith, nat_tests, y) in
        stop_here before l ls (Bad (length before + 1) bad.Long) n (long_setup before setup l i over (omega (arith, few, ap length x)) z)
    by_word e over ih false false y z =
        let few : length text + size_in_text l ≤ 1048576 = grind (arith, nat_tests, y) in
        ih (short_setup before setup l i over e (omega (arith, few, ap length x)) z)

    by_end : (IsOver before (Some l) → ⊥) → ((e : content l ≡ codes "end" → ⊥) → Tells (Refuses before (Some l)) None → Ends (before ++ l ∷ ls) (refusal_behind (setup_of edition ls (behind p l) (text ++ in_text l))))
        → (b : Bool) → same (content l) (codes "end") ≡ b
        → Ends (before ++ l ∷ ls) (refusal_behind (if b then configured edition text ls (behind p l) else unless_word (length before + 1) (setup_word (length text + size_in_text l) l) (setup_of edition ls (behind p l) (text ++ in_text l))))
    by_end over ih true e = by_rule ((same_text (content l) (codes "end")).0 e) over (least_broken edition text) (option_map (config_of edition) (document_of text)) refl refl
    by_end over ih false e =
        let never : content l ≡ codes "end" → ⊥ = λ is. true_false (sym ((same_text (content l) (codes "end")).1 is) ∙ e) in
        by_word never over (ih never) (nat_lt 1048576 (length text + size_in_text l)) (is_long l) refl refl

    by_fit : ((e : content l ≡ codes "end" → ⊥) → Tells (Refuses before (Some l)) None → Ends (before ++ l ∷ ls) (refusal_behind (setup_of edition ls (behind p l) (text ++ in_text l)))) → (b : Bool) → fits p l ≡ b
        → Ends (before ++ l ∷ ls) (refusal_behind (if b then (if same (content l) (codes "end") then configured edition text ls (behind p l) else unless_word (p.lines + 1) (setup_word (length text + size_in_text l) l) (setup_of edition ls (behind p l) (text ++ in_text l))) else Err (TooMuch (p.lines + 1))))
    by_fit ih true e =
        subst (λ (n : ℕ). Ends (before ++ l ∷ ls) (refusal_behind (if same (content l) (codes "end") then configured edition text ls (behind p l) else unless_word n (setup_word (length text + size_in_text l) l) (setup_of edition ls (behind p l) (text ++ in_text l))))) (ap (λ (n : ℕ). n + 1) (sym q.lines))
        (by_end (not_over p before l q e) ih (same (content l) (codes "end")) refl)
    by_fit ih false e = rw q.lines (stop_here before l ls (TooMuch (length before + 1)) n (over_tells before (Some l) (over_is p before l q e)))

-- ---- the first two lines

-- behind at most one line no event line and no line of the configuration stands
front_tells : (before : List (List ℕ)) (l : List ℕ) (want : List ℕ) → length before ≤ 1 → length want ≤ 196608 → content l ≡ want → (IsOver before (Some l) → ⊥) → (LacksHeader before (Some l) → ⊥)
    → (LacksConfig before (Some l) → ⊥) → Tells (Refuses before (Some l)) None
front_tells before l want few short is over header config =
    from_long before (Some l) None over header in_config
    (from_event before (Some l) None (λ h. let long = ap is_long (some_same l h.0 h.1) ∙ h.2 in not_long long)
    (no_event before (Some l) None (λ Cause h. few_events before h.0 h.1 few h.2) (λ e r. few_setup before r.0 few r.1)))
  where
    in_config : InConfig before (Some l) → ⊥
    in_config (inl h) = config h
    in_config (inr (inl h)) = none_some l (sym h.0)
    in_config (inr (inr h)) = few_setup before h.0 few h.1

    not_long : is_long l ≡ true → ⊥
    not_long e =
        let long : 196608 < length (content l) = grind (arith, nat_tests, e) in
        let size = ap length is in
        omega (arith, long, size, short)

no_line_setup : (before : List (List ℕ)) → length before ≤ 1 → InConfig before None → LacksConfig before None
no_line_setup before few (inl h) = h
no_line_setup before few (inr (inl h)) = absurd (few_setup before h.1 few h.2)
no_line_setup before few (inr (inr h)) = absurd (few_setup before h.0 few h.1)

config_ends : (edition : Edition) (header : List ℕ) (lines : List (List ℕ)) (p : Place) → header_of (content header) ≡ Some edition → IsPlace p (header ∷ []) → NoneRefused (header ∷ [])
    → Ends (header ∷ lines) (refusal_behind (setup_in edition lines p))
config_ends edition header [] p h q n =
    rw q.lines (stop_behind (header ∷ []) (Bad 2 bad.Config) n (config_tells (header ∷ []) None (λ k. none_some k.0 k.1) (λ k. cc k.0) (inl (refl, tt))))
config_ends edition header (l ∷ ls) p h q n = by_fit (fits p l) refl
  where
    no_header : LacksHeader (header ∷ []) (Some l) → ⊥
    no_header k = let e = ap length k.0 in omega (arith, e)

    by_want : (fits p l ≡ true) → (b : Bool) → same (content l) (codes "config") ≡ b → Ends (header ∷ l ∷ ls) (refusal_behind (if b then setup_of edition ls (behind p l) [] else Err (Bad 2 bad.Config)))
    by_want f true e =
        let is : content l ≡ codes "config" = (same_text (content l) (codes "config")).0 e in
        let t = front_tells (header ∷ []) l (codes "config") (omega arith) (omega arith) is (not_over p (header ∷ []) l q f) no_header (λ k. k.1 is) in
        let i : InSetup (header ∷ l ∷ []) [] = record { header = header; second = l; lines = refl; endless = tt } in
        setup_ends edition ls (header ∷ l ∷ []) [] (behind p l) [] i h refl (place_further p (header ∷ []) l q) (one_more (header ∷ []) l n t)
    by_want f false e =
        let never : content l ≡ codes "config" → ⊥ = λ is. true_false (sym ((same_text (content l) (codes "config")).1 is) ∙ e) in
        stop_here (header ∷ []) l ls (Bad 2 bad.Config) n (config_tells (header ∷ []) (Some l) (not_over p (header ∷ []) l q f) no_header (inl (refl, never)))

    by_fit : (b : Bool) → fits p l ≡ b
        → Ends (header ∷ l ∷ ls) (refusal_behind (if b then (if same (content l) (codes "config") then setup_of edition ls (behind p l) [] else Err (Bad (p.lines + 1) bad.Config)) else Err (TooMuch (p.lines + 1))))
    by_fit true e =
        subst (λ (n : ℕ). Ends (header ∷ l ∷ ls) (refusal_behind (if same (content l) (codes "config") then setup_of edition ls (behind p l) [] else Err (Bad n bad.Config)))) (ap (λ (n : ℕ). n + 1) (sym q.lines))
        (by_want e (same (content l) (codes "config")) refl)
    by_fit false e = rw q.lines (stop_here (header ∷ []) l ls (TooMuch 2) n (over_tells (header ∷ []) (Some l) (over_is p (header ∷ []) l q e)))

header_is : (line : List ℕ) (edition : Edition) → header_of line ≡ Some edition → (line ≡ codes "mms-recording 1") ⊎ (line ≡ codes "mms-recording 2")
header_is line edition h = by_first (same line (codes "mms-recording 1")) refl h
  where
    by_second : (b : Bool) → same line (codes "mms-recording 2") ≡ b → (if b then Some Two else None) ≡ Some edition → line ≡ codes "mms-recording 2"
    by_second true e k = (same_text line (codes "mms-recording 2")).0 e
    by_second false e k = absurd (none_some edition k)

    by_first : (b : Bool) → same line (codes "mms-recording 1") ≡ b → (if b then Some One else (if same line (codes "mms-recording 2") then Some Two else None)) ≡ Some edition
        → (line ≡ codes "mms-recording 1") ⊎ (line ≡ codes "mms-recording 2")
    by_first true e k = inl ((same_text line (codes "mms-recording 1")).0 e)
    by_first false e k = inr (by_second (same line (codes "mms-recording 2")) refl k)

none_before : NoneRefused []
none_before b r l e h = not_empty b r l e

at_front : IsPlace front []
at_front = record { lines = refl; octets = refl }

opening_ends : (lines : List (List ℕ)) → Ends lines (refusal_behind (opening_of lines front))
opening_ends [] = stop_behind [] (Bad 1 bad.Header) none_before (header_tells [] None (λ h. none_some h.0 h.1) (refl, tt))
opening_ends (l ∷ ls) = by_fit (fits front l) refl
  where
    by_edition : fits front l ≡ true → (edition : Option Edition) → header_of (content l) ≡ edition → Ends (l ∷ ls) (refusal_behind (under edition setup_in ls 1 (behind front l)))
    by_edition f None e = stop_here [] l ls (Bad 1 bad.Header) none_before (header_tells [] (Some l) (not_over front [] l at_front f) (refl, e))
    by_edition f (Some edition) e =
        config_ends edition l ls (behind front l) e (place_further front [] l at_front) (one_more [] l none_before (by_header (header_is (content l) edition e)))
      where
        by_header : (content l ≡ codes "mms-recording 1") ⊎ (content l ≡ codes "mms-recording 2") → Tells (Refuses [] (Some l)) None
        by_header (inl is) = front_tells [] l (codes "mms-recording 1") (omega arith) (omega arith) is (not_over front [] l at_front f) (λ k. none_some edition (sym k.1 ∙ e)) (λ k. let z = k.0 in absurd (omega (arith, z)))
        by_header (inr is) = front_tells [] l (codes "mms-recording 2") (omega arith) (omega arith) is (not_over front [] l at_front f) (λ k. none_some edition (sym k.1 ∙ e)) (λ k. let z = k.0 in absurd (omega (arith, z)))

    by_fit : (b : Bool) → fits front l ≡ b → Ends (l ∷ ls) (refusal_behind (if b then under (header_of (content l)) setup_in ls 1 (behind front l) else Err (TooMuch 1)))
    by_fit true e = by_edition e (header_of (content l)) refl
    by_fit false e = stop_here [] l ls (TooMuch 1) none_before (over_tells [] (Some l) (over_is front [] l at_front e))

-- ---- a text

-- a line that is refused stands before where the other one stands
IsEarlier : List (List ℕ) → Option (List ℕ) → List (List ℕ) → Type 0
IsEarlier a x b = (l : List ℕ) × (rest : List (List ℕ)) × (x ≡ Some l) × (b ≡ a ++ l ∷ rest)

compared : (a b : List (List ℕ)) (m n : List ℕ) (r s : List (List ℕ)) → a ++ m ∷ r ≡ b ++ n ∷ s → ((a ≡ b) × (m ≡ n)) ⊎ ((rest : List (List ℕ)) × (b ≡ a ++ m ∷ rest)) ⊎ ((rest : List (List ℕ)) × (a ≡ b ++ n ∷ rest))
compared [] [] m n r s e = inl (refl, cc)
compared [] (y ∷ b) m n r s e = let k : m ≡ y = cc in inr (inl (b, ap (λ (z : List ℕ). z ∷ b) (sym k)))
compared (x ∷ a) [] m n r s e = let k : x ≡ n = cc in inr (inr (a, ap (λ (z : List ℕ). z ∷ a) k))
compared (x ∷ a) (y ∷ b) m n r s e =
    let front : x ≡ y = cc in
    let rest : a ++ m ∷ r ≡ b ++ n ∷ s = cc in
    further front (compared a b m n r s rest)
  where
    further : x ≡ y → ((a ≡ b) × (m ≡ n)) ⊎ ((rest : List (List ℕ)) × (b ≡ a ++ m ∷ rest)) ⊎ ((rest : List (List ℕ)) × (a ≡ b ++ n ∷ rest))
        → ((x ∷ a ≡ y ∷ b) × (m ≡ n)) ⊎ ((rest : List (List ℕ)) × (y ∷ b ≡ x ∷ (a ++ m ∷ rest))) ⊎ ((rest : List (List ℕ)) × (x ∷ a ≡ y ∷ (b ++ n ∷ rest)))
    further f (inl h) = inl (ap (λ (z : List ℕ). z ∷ a) f ∙ ap (λ (zs : List (List ℕ)). y ∷ zs) h.0, h.1)
    further f (inr (inl h)) = inr (inl (h.0, ap (λ (z : List ℕ). z ∷ b) (sym f) ∙ ap (λ (zs : List (List ℕ)). x ∷ zs) h.1))
    further f (inr (inr h)) = inr (inr (h.0, ap (λ (z : List ℕ). z ∷ a) f ∙ ap (λ (zs : List (List ℕ)). y ∷ zs) h.1))

-- two first refusals of the same lines are one
one_first : (lines : List (List ℕ)) (e f : RecordError) → Stopped lines e → IsFirstRefusal lines f → f ≡ e
one_first lines e f s r = by_here s.here r.here s.stands r.stands s.tells r.refuses
  where
    same : (a b : List (List ℕ)) (x y : Option (List ℕ)) → a ≡ b → x ≡ y → Tells (Refuses a x) (Some e) → Refuses b y f → f ≡ e
    same a b x y p q t h = t.1 f (subst (λ (z : Option (List ℕ)). Refuses a z f) (sym q) (subst (λ (z : List (List ℕ)). Refuses z y f) (sym p) h))

    by_here : (x y : Option (List ℕ)) → StandsBehind s.before x lines → StandsBehind r.before y lines → Tells (Refuses s.before x) (Some e) → Refuses r.before y f → f ≡ e
    by_here None None a b t h = same s.before r.before None None (sym a ∙ b) refl t h
    by_here None (Some n) a b t h = absurd (s.first r.before b.0 n (sym a ∙ b.1) (f, h))
    by_here (Some m) None a b t h = absurd (r.first s.before a.0 m (sym b ∙ a.1) (e, t.0))
    by_here (Some m) (Some n) a b t h = by_place (compared s.before r.before m n a.0 b.0 (sym a.1 ∙ b.1))
      where
        by_place : ((s.before ≡ r.before) × (m ≡ n)) ⊎ ((rest : List (List ℕ)) × (r.before ≡ s.before ++ m ∷ rest)) ⊎ ((rest : List (List ℕ)) × (s.before ≡ r.before ++ n ∷ rest)) → f ≡ e
        by_place (inl k) = same s.before r.before (Some m) (Some n) k.0 (ap Some k.1) t h
        by_place (inr (inl k)) = absurd (r.first s.before k.0 m k.1 (e, t.0))
        by_place (inr (inr k)) = absurd (s.first r.before k.0 n k.1 (f, h))

-- where no line is refused and none is missing, there is no first refusal
none_first : (lines : List (List ℕ)) (f : RecordError) → Ends lines None → IsFirstRefusal lines f → ⊥
none_first lines f n r = by_here r.here r.stands r.refuses
  where
    by_here : (x : Option (List ℕ)) → StandsBehind r.before x lines → Refuses r.before x f → ⊥
    by_here None a h = n.1 (f, subst (λ (z : List (List ℕ)). Refuses z None f) (sym a) h)
    by_here (Some l) a h = n.0 r.before a.0 l a.1 (f, h)

pub is_refused : (text : List ℕ) (e : RecordError) → (reading_of_text text).refusal ≡ Some e → IsRefused text e
is_refused text e h =
    let s : Stopped (lines_of text) e = subst (λ (o : Option RecordError). Ends (lines_of text) o) h (opening_ends (lines_of text)) in
    record { before = s.before; here = s.here; stands = s.stands; first = s.first; refuses = s.tells.0 }

pub refused_is : (text : List ℕ) (e : RecordError) → IsRefused text e → (reading_of_text text).refusal ≡ Some e
refused_is text e r = by_refusal (reading_of_text text).refusal (opening_ends (lines_of text))
  where
    by_refusal : (o : Option RecordError) → Ends (lines_of text) o → o ≡ Some e
    by_refusal None n = absurd (none_first (lines_of text) e n r)
    by_refusal (Some f) s = ap Some (sym (one_first (lines_of text) f e s r))
