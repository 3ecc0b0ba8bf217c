-- What one line makes of what is said of the lines ahead.
use Rattle.cell_config.specs.declared.config.Config.{Config}
use Rattle.mms_types.specs.declared.identifier.Edition.{Edition}
use Rattle.mms_types.specs.declared.identifier.Edition.TheVariants.{One, Two}
use Rattle.std.proofs.Common.{◌≡◌, ℕ, ◌+◌, ◌-◌, ◌<◌, ◌≤◌, Bool, true, false, if◌then◌else◌, List, [], ◌∷◌, ◌++◌, length, codes, refl, sym, ap, ◌∙◌, arith, Some, None, IfSome, Ok, Err}
use Rattle.std.proofs.lemmas.Bool.Decides.{nat_tests}
use Rattle.std.specs.Option.{option_map}
use Rattle.std.specs.declared.option.Option.{Option}
use Rattle.cell_io.specs.Lines.{lines_of, first_line, after_line, kept_of}
use Rattle.cell_io.proofs.Texts.{lines_first}
use Rattle.cell_record.specs.Words.{content}
use Rattle.cell_record.specs.EventLine.{same, said_of, IsCause}
use Rattle.cell_record.specs.Recording.{Place, Opening, behind, fits, header_of, headed, under, expected, in_text, size_by, size_in_text, setup_word, configured, refusal_of, moved, makes, refused}
use Rattle.cell_record.specs.Numbered.{Gives, EndsThere, setup, phases}
use Rattle.cell_record.specs.Progress.{Becomes, IsStated}
use Rattle.cell_record.specs.Turned.{line_told}
use Rattle.cell_record.specs.declared.said.LineMeaning.{LineMeaning}
use Rattle.cell_record.specs.declared.said.LineError.{LineError}
use Rattle.cell_record.specs.declared.said.LineError.TheVariants as unsaid
use Rattle.cell_record.specs.declared.counts.Counts.{Counts}
use Rattle.cell_record.specs.declared.refusal.BadWord.{BadWord}
use Rattle.cell_record.specs.declared.refusal.RecordError.{RecordError}
use Rattle.cell_record.specs.declared.refusal.RecordError.TheVariants.{Bad, TooMuch}
use Rattle.cell_record.proofs.Kept.{kept_same, kept_said, kept_by, kept_word, kept_text, no_word}

-- what is said of the lines of a text, where that is told
abbrev pub told : {T : Type 0} → (List (List ℕ) → Place → T) → Place → Option (List ℕ) → Option T
told f p text = option_map (λ t. f (lines_of t) p) text

-- the place one line on
abbrev pub next_to : Place → ℕ → Place
next_to p given = record { lines = p.lines + 1; octets = given }

some : (text : List ℕ) → 0 < length text → ¬ (text ≡ [])
some text h e = let z = ap length e in omega (arith, h, z)

first_step : {T : Type 0} (f : List (List ℕ) → Place → T) (text : List ℕ) (p : Place) → 0 < length text → f (lines_of text) p ≡ f (first_line text ∷ lines_of (after_line text)) p
first_step f text p h = ap (λ (ls : List (List ℕ)). f ls p) (lines_first text (some text h))

-- ---- a line

pub there : {T : Type 0} (f g : List (List ℕ) → Place → T) (h : T → T) (a b : Option (List ℕ)) (line : List ℕ) (p : Place) (given : ℕ) → given ≤ 4294967296 → Gives a b line p.octets given
    → ((l : List ℕ) (rest : List (List ℕ)) → line ≡ kept_of l → given ≡ p.octets + length l → fits p l ≡ true → f (l ∷ rest) p ≡ h (g rest (behind p l)))
    → Becomes (told f p a) h (told g (next_to p given) b)
there f g h None b line p given m s e = tt
there f g h (Some text) b line p given m s e =
    let fit : fits p (first_line text) ≡ true = grind (arith, nat_tests, m, s.3) in
    let is = first_step f text p s.0 ∙ e (first_line text) (lines_of (after_line text)) s.1 s.3 fit in
    rw (s.2, s.3) (ap Some (sym is))

pub is : {T : Type 0} (f : List (List ℕ) → Place → T) (r : T) (a b : Option (List ℕ)) (line : List ℕ) (p : Place) (given : ℕ) → given ≤ 4294967296 → Gives a b line p.octets given
    → ((l : List ℕ) (rest : List (List ℕ)) → line ≡ kept_of l → given ≡ p.octets + length l → fits p l ≡ true → f (l ∷ rest) p ≡ r) → IfSome (told f p a) (λ x. x ≡ r)
is f r None b line p given m s e = tt
is f r (Some text) b line p given m s e =
    let fit : fits p (first_line text) ≡ true = grind (arith, nat_tests, m, s.3) in
    first_step f text p s.0 ∙ e (first_line text) (lines_of (after_line text)) s.1 s.3 fit

-- ---- too much

nonempty_line : (text : List ℕ) → 0 < length (first_line text) → 0 < length text
nonempty_line [] h = h
nonempty_line (b ∷ bs) h = omega arith

pub much : {T : Type 0} (f : List (List ℕ) → Place → T) (r : T) (a : Option (List ℕ)) (p : Place) → p.octets ≤ 4294967296 → IfSome a (λ text. 4294967296 < p.octets + length (first_line text))
    → ((l : List ℕ) (rest : List (List ℕ)) → fits p l ≡ false → f (l ∷ rest) p ≡ r) → IfSome (told f p a) (λ x. x ≡ r)
much f r None p m h e = tt
much f r (Some text) p m h e =
    let over : fits p (first_line text) ≡ false = grind (arith, nat_tests, h) in
    first_step f text p (nonempty_line text (omega (arith, m, h))) ∙ e (first_line text) (lines_of (after_line text)) over

-- ---- the end

pub missing : {T : Type 0} (f : List (List ℕ) → Place → T) (r : T) (a b : Option (List ℕ)) (p : Place) → EndsThere a b → f [] p ≡ r → IfSome (told f p a) (λ x. x ≡ r)
missing f r None b p h e = tt
missing f r (Some text) b p h e = rw h.0 e

pub missing_both : {T : Type 0} (f : List (List ℕ) → Place → T) (r : T) (a b : Option (List ℕ)) (p q : Place) → EndsThere a b → f [] p ≡ r → f [] q ≡ r → IfSome (told f p a) (λ x. (x ≡ r) × (told f q b ≡ Some x))
missing_both f r None b p q h e k = tt
missing_both f r (Some text) b p q h e k = rw (h.0, h.1) (e, ap Some (k ∙ sym e))

-- ---- the same is said of all lines

pub all_told : {T : Type 0} (f : List (List ℕ) → Place → T) (r : T) (p : Place) (a : Option (List ℕ)) → ((lines : List (List ℕ)) (q : Place) → f lines q ≡ r) → IfSome (told f p a) (λ x. x ≡ r)
all_told f r p None e = tt
all_told f r p (Some text) e = e (lines_of text) p

-- ---- a wanted line

pub wanted : (want : List ℕ) (word : BadWord) (next : List (List ℕ) → Place → Opening) (p : Place) (line l : List ℕ) (rest : List (List ℕ)) → length want < 196608 → same (content line) want ≡ true
    → line ≡ kept_of l → fits p l ≡ true → expected want word next (l ∷ rest) p ≡ next rest (behind p l)
wanted want word next p line l rest s e k f =
    let is : same (content l) want ≡ true = sym (kept_same l want s) ∙ ap (λ (x : List ℕ). same (content x) want) (sym k) ∙ e in
    rw (f, is) refl

pub unwanted : (want : List ℕ) (word : BadWord) (next : List (List ℕ) → Place → Opening) (p : Place) (line l : List ℕ) (rest : List (List ℕ)) → length want < 196608 → same (content line) want ≡ false
    → line ≡ kept_of l → fits p l ≡ true → expected want word next (l ∷ rest) p ≡ Err (Bad (p.lines + 1) word)
unwanted want word next p line l rest s e k f =
    let is : same (content l) want ≡ false = sym (kept_same l want s) ∙ ap (λ (x : List ℕ). same (content x) want) (sym k) ∙ e in
    rw (f, is) refl

pub much_wanted : (want : List ℕ) (word : BadWord) (next : List (List ℕ) → Place → Opening) (p : Place) (l : List ℕ) (rest : List (List ℕ)) → fits p l ≡ false → expected want word next (l ∷ rest) p ≡ Err (TooMuch (p.lines + 1))
much_wanted want word next p l rest f = rw f refl

-- ---- the header

kept_header : (line l : List ℕ) → line ≡ kept_of l → header_of (content l) ≡ header_of (content line)
kept_header line l k =
    let first : same (content l) (codes "mms-recording 1") ≡ same (content line) (codes "mms-recording 1") = sym (kept_same l (codes "mms-recording 1") (omega arith)) ∙ ap (λ (x : List ℕ). same (content x) (codes "mms-recording 1")) (sym k) in
    let second : same (content l) (codes "mms-recording 2") ≡ same (content line) (codes "mms-recording 2") = sym (kept_same l (codes "mms-recording 2") (omega arith)) ∙ ap (λ (x : List ℕ). same (content x) (codes "mms-recording 2")) (sym k) in
    ap (λ (b : Bool). if b then Some One else (if same (content l) (codes "mms-recording 2") then Some Two else None)) first
    ∙ ap (λ (b : Bool). if same (content line) (codes "mms-recording 1") then Some One else (if b then Some Two else None)) second

pub is_headed : (next : Edition → List (List ℕ) → Place → Opening) (p : Place) (line l : List ℕ) (rest : List (List ℕ)) (edition : Option Edition) → header_of (content line) ≡ edition
    → line ≡ kept_of l → fits p l ≡ true → headed next (l ∷ rest) p ≡ under edition next rest (p.lines + 1) (behind p l)
is_headed next p line l rest edition e k f =
    rw f (ap (λ (o : Option Edition). under o next rest (p.lines + 1) (behind p l)) (kept_header line l k ∙ e))

pub much_headed : (next : Edition → List (List ℕ) → Place → Opening) (p : Place) (l : List ℕ) (rest : List (List ℕ)) → fits p l ≡ false → headed next (l ∷ rest) p ≡ Err (TooMuch (p.lines + 1))
much_headed next p l rest f = rw f refl

-- ---- a line of the configuration

pub at_end : (edition : Edition) (text : List ℕ) (p : Place) (line l : List ℕ) (rest : List (List ℕ)) → same (content line) (codes "end") ≡ true → line ≡ kept_of l → fits p l ≡ true → setup edition text (l ∷ rest) p ≡ configured edition text rest (behind p l)
at_end edition text p line l rest e k f =
    let is : same (content l) (codes "end") ≡ true = sym (kept_same l (codes "end") (omega arith)) ∙ ap (λ (x : List ℕ). same (content x) (codes "end")) (sym k) ∙ e in
    rw (f, is) refl

total_is : (size whole : ℕ) (p : Place) (given : ℕ) (line l : List ℕ) → line ≡ kept_of l → given ≡ p.octets + length l → whole ≡ given - p.octets → size + size_by whole line ≡ size + size_in_text l
total_is size whole p given line l k g w =
    let n : whole ≡ length l = omega (arith, g, w) in
    ap (λ (x : List ℕ). size + size_by whole x) k ∙ ap (λ (n : ℕ). size + n) (kept_by whole l) ∙ ap (λ (m : ℕ). size + size_by m l) n

word_is : (size whole : ℕ) (p : Place) (given : ℕ) (line l : List ℕ) → line ≡ kept_of l → given ≡ p.octets + length l → whole ≡ given - p.octets → setup_word (size + size_in_text l) l ≡ setup_word (size + size_by whole line) line
word_is size whole p given line l k g w =
    sym (ap (λ (x : List ℕ). setup_word (size + size_by whole line) x) k ∙ kept_word (size + size_by whole line) l ∙ ap (λ (n : ℕ). setup_word n l) (total_is size whole p given line l k g w))

pub not_end : (edition : Edition) (text : List ℕ) (whole : ℕ) (p : Place) (given : ℕ) (line l : List ℕ) (rest : List (List ℕ)) → same (content line) (codes "end") ≡ false → None ≡ setup_word (length text + size_by whole line) line → whole ≡ given - p.octets
    → line ≡ kept_of l → given ≡ p.octets + length l → fits p l ≡ true → setup edition text (l ∷ rest) p ≡ setup edition (text ++ in_text line) rest (behind p l)
not_end edition text whole p given line l rest e s w k g f =
    let is : same (content l) (codes "end") ≡ false = sym (kept_same l (codes "end") (omega arith)) ∙ ap (λ (x : List ℕ). same (content x) (codes "end")) (sym k) ∙ e in
    let none : setup_word (length text + size_in_text l) l ≡ None = word_is (length text) whole p given line l k g w ∙ sym s in
    let added : in_text line ≡ in_text l = ap in_text k ∙ kept_text l (no_word (length text + size_in_text l) l none).1 in
    rw (f, is, none) (ap (λ (x : List ℕ). setup edition (text ++ x) rest (behind p l)) (sym added))

pub bad_setup : (edition : Edition) (text : List ℕ) (whole : ℕ) (p : Place) (given : ℕ) (line l : List ℕ) (rest : List (List ℕ)) (word : BadWord) → same (content line) (codes "end") ≡ false → Some word ≡ setup_word (length text + size_by whole line) line → whole ≡ given - p.octets
    → line ≡ kept_of l → given ≡ p.octets + length l → fits p l ≡ true → setup edition text (l ∷ rest) p ≡ Err (Bad (p.lines + 1) word)
bad_setup edition text whole p given line l rest word e s w k g f =
    let is : same (content l) (codes "end") ≡ false = sym (kept_same l (codes "end") (omega arith)) ∙ ap (λ (x : List ℕ). same (content x) (codes "end")) (sym k) ∙ e in
    let there : setup_word (length text + size_in_text l) l ≡ Some word = word_is (length text) whole p given line l k g w ∙ sym s in
    rw (f, is, there) refl

pub much_setup : (edition : Edition) (text : List ℕ) (p : Place) (l : List ℕ) (rest : List (List ℕ)) → fits p l ≡ false → setup edition text (l ∷ rest) p ≡ Err (TooMuch (p.lines + 1))
much_setup edition text p l rest f = rw f refl

-- ---- an event line

pub says : (config : Config) (c d : Counts) (p : Place) (line l : List ℕ) (rest : List (List ℕ)) (s : LineMeaning) → said_of config (content line) ≡ Ok s → d ≡ moved c s → None ≡ refusal_of (p.lines + 1) d s
    → line ≡ kept_of l → fits p l ≡ true → phases config c (l ∷ rest) p ≡ makes s (phases config d rest (behind p l))
says config c d p line l rest s e m n k f =
    let is : said_of config (content l) ≡ Ok s = sym (kept_said config l) ∙ ap (λ (x : List ℕ). said_of config (content x)) (sym k) ∙ e in
    let none : refusal_of (p.lines + 1) (moved c s) s ≡ None = ap (λ (x : Counts). refusal_of (p.lines + 1) x s) (sym m) ∙ sym n in
    rw (f, is, none, m) refl

pub says_much : (config : Config) (c d : Counts) (p : Place) (line l : List ℕ) (rest : List (List ℕ)) (s : LineMeaning) (x : RecordError) → said_of config (content line) ≡ Ok s → d ≡ moved c s → Some x ≡ refusal_of (p.lines + 1) d s
    → line ≡ kept_of l → fits p l ≡ true → phases config c (l ∷ rest) p ≡ refused x
says_much config c d p line l rest s x e m n k f =
    let is : said_of config (content l) ≡ Ok s = sym (kept_said config l) ∙ ap (λ (x : List ℕ). said_of config (content x)) (sym k) ∙ e in
    let there : refusal_of (p.lines + 1) (moved c s) s ≡ Some x = ap (λ (y : Counts). refusal_of (p.lines + 1) y s) (sym m) ∙ sym n in
    rw (f, is, there) refl

pub says_bad : (config : Config) (c : Counts) (p : Place) (line l : List ℕ) (rest : List (List ℕ)) (word : BadWord) → said_of config (content line) ≡ Err word
    → line ≡ kept_of l → fits p l ≡ true → phases config c (l ∷ rest) p ≡ refused (Bad (p.lines + 1) word)
says_bad config c p line l rest word e k f =
    let is : said_of config (content l) ≡ Err word = sym (kept_said config l) ∙ ap (λ (x : List ℕ). said_of config (content x)) (sym k) ∙ e in
    rw (f, is) refl

-- a line that says nothing refuses the text, unless memory was wanting for it
pub says_nothing : (config : Config) (c : Counts) (p : Place) (line l : List ℕ) (rest : List (List ℕ)) (error : LineError) → IsCause (said_of config (content line)) error → IsStated (line_told (p.lines + 1) error)
    → line ≡ kept_of l → fits p l ≡ true → phases config c (l ∷ rest) p ≡ refused (line_told (p.lines + 1) error)
says_nothing config c p line l rest (unsaid.Bad word) e s k f = says_bad config c p line l rest word e k f
says_nothing config c p line l rest unsaid.Memory e s k f = absurd s

pub much_says : (config : Config) (c : Counts) (p : Place) (l : List ℕ) (rest : List (List ℕ)) → fits p l ≡ false → phases config c (l ∷ rest) p ≡ refused (TooMuch (p.lines + 1))
much_says config c p l rest f = rw f refl
