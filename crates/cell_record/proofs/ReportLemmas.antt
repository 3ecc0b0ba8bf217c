-- Texts that go on, one line or one client further.
use Rattle.std.proofs.Common.{◌≡◌, ℕ, ◌+◌, ◌<◌, List, [], ◌∷◌, ◌++◌, length, take, drop, get_or, refl, sym, ap, ◌∙◌, arith, append_assoc, append-nil, take-append-drop}
use Rattle.std.proofs.lemmas.List.{take_more, length-take-le}
use Rattle.std.specs.List.{flat_map}
use Rattle.std.specs.declared.option.Option.{Option}
use Rattle.cell_io.specs.Prefix.{AppendsPrefix, AppendsBefore}
use Rattle.cell_io.proofs.Prefixes.{before_more, prefix_longer, prefix_put}
use Rattle.mms_types.specs.declared.event.What.{What}
use Rattle.cell_record.specs.Report.{output_text, section_head, section, sections}

-- ---- lines

pub flat-append : {A : Type 0} (f : A → List ℕ) (xs ys : List A) → flat_map f (xs ++ ys) ≡ flat_map f xs ++ flat_map f ys
flat-append f [] ys = refl
flat-append f (x ∷ xs) ys = ap (λ (l : List ℕ). f x ++ l) (flat-append f xs ys) ∙ sym (append_assoc (f x) (flat_map f xs) (flat_map f ys))

pub flat_more : {A : Type 0} (f : A → List ℕ) (xs : List A) (i : ℕ) (d : A) → i < length xs → flat_map f (take (i + 1) xs) ≡ flat_map f (take i xs) ++ f (get_or xs i d)
flat_more f xs i d h =
    rw (take_more xs i d h) (flat-append f (take i xs) (get_or xs i d ∷ []) ∙ ap (λ (l : List ℕ). flat_map f (take i xs) ++ l) (append-nil (f (get_or xs i d))))

pub flat_rest : {A : Type 0} (f : A → List ℕ) (xs : List A) (i : ℕ) → flat_map f xs ≡ flat_map f (take i xs) ++ flat_map f (drop i xs)
flat_rest f xs i = ap (flat_map f) (sym (take-append-drop i xs)) ∙ flat-append f (take i xs) (drop i xs)

-- ---- clients

pub section_some : (c : ℕ) (os : List What) → ¬ (os ≡ []) → section c os ≡ section_head c ++ flat_map output_text os
section_some c [] h = absurd (h refl)
section_some c (o ∷ os) h = refl

sections-append : (n : ℕ) (xs ys : List (List What)) → sections n (xs ++ ys) ≡ sections n xs ++ sections (n + length xs) ys
sections-append n [] ys = ap (λ (k : ℕ). sections k ys) (omega arith)
sections-append n (x ∷ xs) ys =
    let k : n + 1 + length xs ≡ n + length (x ∷ xs) = omega arith in
    ap (λ (l : List ℕ). section n x ++ l) (sections-append (n + 1) xs ys ∙ ap (λ (m : ℕ). sections (n + 1) xs ++ sections m ys) k)
    ∙ sym (append_assoc (section n x) (sections (n + 1) xs) (sections (n + length (x ∷ xs)) ys))

pub sections_more : (os : List (List What)) (i : ℕ) → i < length os → sections 1 (take (i + 1) os) ≡ sections 1 (take i os) ++ section (i + 1) (get_or os i [])
sections_more os i h =
    let size : 1 + length (take i os) ≡ i + 1 = omega (arith, length-take-le i os (omega (arith, h))) in
    rw (take_more os i [] h) (sections-append 1 (take i os) (get_or os i [] ∷ []) ∙ ap (λ (l : List ℕ). sections 1 (take i os) ++ l) (append-nil (section (1 + length (take i os)) (get_or os i [])))
    ∙ ap (λ (n : ℕ). sections 1 (take i os) ++ section n (get_or os i [])) size)

pub sections_rest : (os : List (List What)) (i : ℕ) → sections 1 os ≡ sections 1 (take i os) ++ sections (1 + length (take i os)) (drop i os)
sections_rest os i = ap (sections 1) (sym (take-append-drop i os)) ∙ sections-append 1 (take i os) (drop i os)

-- ---- a phase: its head, its events, its sections

-- the sink failed in the events
pub phase_partly : (a b : Option (List ℕ)) (w before head events tail : List ℕ) → w ≡ before ++ head → AppendsPrefix a b (w ++ events) → AppendsPrefix a b (before ++ (head ++ (events ++ tail)))
phase_partly a b w before head events tail e p =
    prefix_longer a b (w ++ events) tail (before ++ (head ++ (events ++ tail))) p
    (sym (append_assoc before head (events ++ tail)) ∙ ap (λ (l : List ℕ). l ++ (events ++ tail)) (sym e) ∙ sym (append_assoc w events tail))

-- all of it was put
pub phase_more : (a b c : Option (List ℕ)) (w v u before head events tail : List ℕ) → w ≡ before ++ head → AppendsBefore a b v (w ++ events) → AppendsBefore b c u (v ++ tail) → AppendsBefore a c u (before ++ (head ++ (events ++ tail)))
phase_more a b c w v u before head events tail e p q =
    before_more a b c v u (w ++ events) tail (before ++ (head ++ (events ++ tail))) p q
    (sym (append_assoc before head (events ++ tail)) ∙ ap (λ (l : List ℕ). l ++ (events ++ tail)) (sym e) ∙ sym (append_assoc w events tail))

-- the sink failed in the sections
pub phase_last : (a b c : Option (List ℕ)) (w v before head events tail : List ℕ) → w ≡ before ++ head → AppendsBefore a b v (w ++ events) → AppendsPrefix b c (v ++ tail) → AppendsPrefix a c (before ++ (head ++ (events ++ tail)))
phase_last a b c w v before head events tail e p q =
    prefix_put a b c v (w ++ events) tail [] (before ++ (head ++ (events ++ tail))) p q
    (sym (append_assoc before head (events ++ tail)) ∙ ap (λ (l : List ℕ). l ++ (events ++ tail)) (sym e) ∙ sym (append_assoc w events tail) ∙ sym (append-nil ((w ++ events) ++ tail)))
