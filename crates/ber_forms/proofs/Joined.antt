-- Octets that are written one after the other.
use Rattle.std.proofs.Common.{◌≡◌, ℕ, ◌+◌, ◌≤◌, ◌<◌, List, [], ◌∷◌, ◌++◌, length, map, take, drop, get_or, refl, sym, ap, subst, ◌∙◌, append_assoc, arith}
use Rattle.std.proofs.Math.Seq.{take-append_seam, take-length}
use Rattle.std.proofs.lemmas.List.{append-nil, length-take, take-append-le, take-append-drop, drop_at, map_push}
use Rattle.std.proofs.lemmas.Grind.{take_at_read}
use Rattle.ber_core.specs.declared.element.Tag.{Tag}
use Rattle.ber_core.specs.Spelling.{element_octets}
use Rattle.ber_forms.specs.Value.{Value, Slots, done, slot, parts, all_of}
use Rattle.ber_forms.specs.Form.{Form, Components, sequence, no_more, any_more, required, optional, defaulted, skipped}
use Rattle.ber_forms.specs.Spelling.{slot_octets, default_octets, each_octets, spelling, member_octets, component_octets, appended, Begins}

-- ---- what stood before

pub begins_itself : (a : List ℕ) → Begins a a
unfolding Begins
begins_itself a = take-length a

pub begins_more : (a b c : List ℕ) → Begins a b → Begins a (b ++ c)
unfolding Begins
begins_more a b c e =
    let short : length a ≤ length b = omega (arith, sym (ap length e) ∙ length-take (length a) b) in
    take-append-le (length a) b c short ∙ e

pub begins_after : (a b c : List ℕ) → Begins a b → Begins b c → Begins a c
unfolding Begins
begins_after a b c e f =
    let within : c ≡ b ++ drop (length b) c = sym (take-append-drop (length b) c) ∙ ap (λ (o : List ℕ). o ++ drop (length b) c) f in
    subst (λ (o : List ℕ). take (length a) o ≡ a) (sym within) (begins_more a b (drop (length b) c) e)

pub begins_long : (a b : List ℕ) → Begins a b → length a ≤ length b
unfolding Begins
begins_long a b e = omega (arith, sym (ap length e) ∙ length-take (length a) b)

pub begins_taken : (a b : List ℕ) → Begins a b → take (length a) b ≡ a
unfolding Begins
begins_taken a b e = e

-- ---- components

onto : (first before : List ℕ) (next : List ℕ → List ℕ) → ((b : List ℕ) → next b ≡ b ++ next []) → next (before ++ first) ≡ before ++ next first
onto first before next each = each (before ++ first) ∙ append_assoc before first (next []) ∙ ap (λ (o : List ℕ). before ++ o) (sym (each first))

pub joined : (cs : Components) (vs : Slots) (before : List ℕ) → component_octets cs vs before ≡ before ++ component_octets cs vs []
joined no_more vs before = sym (append-nil before)
joined any_more vs before = sym (append-nil before)
joined (required m cs) done before = sym (append-nil before)
joined (required m cs) (slot s vs) before = onto (slot_octets (member_octets m) s) before (λ b. component_octets cs vs b) (λ b. joined cs vs b)
joined (optional m cs) done before = sym (append-nil before)
joined (optional m cs) (slot s vs) before = onto (slot_octets (member_octets m) s) before (λ b. component_octets cs vs b) (λ b. joined cs vs b)
joined (defaulted w m d cs) done before = sym (append-nil before)
joined (defaulted w m d cs) (slot s vs) before = onto (default_octets w (member_octets m) d s) before (λ b. component_octets cs vs b) (λ b. joined cs vs b)
joined (skipped m cs) vs before = joined cs vs before

pub appended_is : (f : Form) (v : Value) (before : List ℕ) → appended f v before ≡ before ++ spelling f v
unfolding appended
appended_is (sequence cs) (parts vs) before = joined cs vs before
appended_is f v before = refl

pub begins_appended : (f : Form) (v : Value) (a b : List ℕ) → Begins a b → Begins a (appended f v b)
begins_appended f v a b e = subst (λ (o : List ℕ). Begins a o) (sym (appended_is f v b)) (begins_more a b (spelling f v) e)

-- contents that were written after what stood before, and made an element
pub enclosed : (f : Form) (v : Value) (t : Tag) (b : List ℕ)
    → take (length b) (appended f v b) ++ element_octets t (drop (length b) (appended f v b)) ≡ b ++ element_octets t (spelling f v)
enclosed f v t b =
    let e = appended_is f v b in
    rw (e, take-append_seam b (spelling f v), drop_at b (spelling f v) (length b) refl) refl

pub enclosed_after : (t : Tag) (b c : List ℕ) → take (length b) (b ++ c) ++ element_octets t (drop (length b) (b ++ c)) ≡ b ++ element_octets t c
enclosed_after t b c = rw (take-append_seam b c, drop_at b c (length b) refl) refl

-- What writing into one buffer rests on: name it by `using` on each function that does.
pub ruleset writing = (begins_itself, begins_more, begins_long, begins_taken, appended_is, enclosed, enclosed_after)

-- ---- members of a list

-- one member more
pub each_more : (spell : Value → List ℕ) (vs : List Value) (v : Value) → each_octets spell (all_of (vs ++ v ∷ [])) ≡ each_octets spell (all_of vs) ++ spell v
each_more spell [] v = append-nil (spell v)
each_more spell (w ∷ vs) v = ap (λ (o : List ℕ). spell w ++ o) (each_more spell vs v) ∙ sym (append_assoc (spell w) (each_octets spell (all_of vs)) (spell v))

-- the members before the next one, and it
pub each_next : {X : Type 0} (spell : Value → List ℕ) (view : X → Value) (xs : List X) (i : ℕ) (x : X) → i < length xs → x ≡ get_or xs i x
    → each_octets spell (all_of (map view (take (i + 1) xs))) ≡ each_octets spell (all_of (map view (take i xs))) ++ spell (view x)
each_next spell view xs i x lt is =
    ap (λ ys. each_octets spell (all_of (map view ys))) ((take_at_read xs i x lt).1 ∙ ap (λ y. take i xs ++ y ∷ []) (sym is))
    ∙ ap (λ vs. each_octets spell (all_of vs)) (map_push view (take i xs) x) ∙ each_more spell (map view (take i xs)) (view x)
