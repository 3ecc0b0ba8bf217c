-- Data and types that are too deep, in the words of their elements.
use Rattle.std.proofs.Common.{◌≡◌, ℕ, zero, suc, pos, Bool, true, false, ◌||◌, inl, inr, List, refl}
use Rattle.std.specs.Prelude.{◌⊎◌, IsTrue, MatchBool}
use Rattle.ber_core.specs.declared.element.Lengths.{Lengths}
use Rattle.ber_core.specs.Part.{Part}
use Rattle.ber_forms.specs.Value.{Value}
use Rattle.ber_forms.specs.Form.{Member, Components, list_of, any_number, one_of, context, choice, required, no_more, universal, unsigned8}
use Rattle.ber_forms.specs.Form as form
use Rattle.ber_forms.specs.Reading.{is_tag}
use Rattle.ber_forms.specs.InForm.{begins, IsMember}
use Rattle.ber_forms.specs.TooDeep.{IsTooDeep, IsAlternativeTooDeep, IsMemberTooDeep, IsPartTooDeep, HereOrLater, BeginsWith}
use Rattle.mms_types.specs.declared.identifier.Edition.{Edition}
use Rattle.pdu_names.specs.Names.{identifier}
use Rattle.pdu_data.specs.Data.{simple_data, data_alternatives}
use Rattle.pdu_data.specs.Types.{simple_types, type_alternatives, array_form, structure_form, component_member}
use Rattle.pdu_data.specs.Deep.{IsDeepData, IsBehind, IsBehindOptional, BeginsWithType, BeginsWithComponents, IsDeepArray, IsDeepComponent, IsDeepStructure, IsDeepType}

neither : (b : Bool) (Q : Type 0) → (Q → ⊥) → MatchBool b ⊥ Q → ⊥
neither true Q never h = h
neither false Q never h = never h

-- a simple element never is
simple_not : (lengths : Lengths) (p : Part) → IsAlternativeTooDeep lengths simple_data p → ⊥
simple_not lengths p =
    neither (is_tag 2 false 3 p.tag) _ (neither (is_tag 2 false 4 p.tag) _ (neither (is_tag 2 false 5 p.tag) _ (neither (is_tag 2 false 6 p.tag) _ (
    neither (is_tag 2 false 7 p.tag) _ (neither (is_tag 2 false 9 p.tag) _ (neither (is_tag 2 false 10 p.tag) _ (neither (is_tag 2 false 12 p.tag) _ (λ h. h))))))))

split : (a b : Bool) (P Q : Type 0) → (Q → ⊥) → MatchBool a P (MatchBool b P Q) → IsTrue (a || b) × P
split true b P Q never h = (refl, h)
split false true P Q never h = (refl, h)
split false false P Q never h = absurd (never h)

join : (a b : Bool) (P Q : Type 0) → IsTrue (a || b) → P → MatchBool a P (MatchBool b P Q)
join true b P Q is h = h
join false true P Q is h = h
join false false P Q is h = absurd cc

-- what is too deep in a list of data
abbrev Within : Lengths → ℕ → Part → Type 0
Within lengths d p = IsTooDeep lengths (list_of any_number (one_of (data_alternatives d))) p.contents

pub deep_said : (lengths : Lengths) (d : ℕ) (p : Part) → IsAlternativeTooDeep lengths (data_alternatives d) p → IsDeepData lengths d p
unfolding data_alternatives
deep_said lengths zero p h = (split (is_tag 2 true 1 p.tag) (is_tag 2 true 2 p.tag) (Unit {0}) (IsAlternativeTooDeep lengths simple_data p) (simple_not lengths p) h).0
deep_said lengths (suc d) p h =
    let k = split (is_tag 2 true 1 p.tag) (is_tag 2 true 2 p.tag) (Within lengths d p) (IsAlternativeTooDeep lengths simple_data p) (simple_not lengths p) h in
    let w = k.1 in
    (k.0, (w.0, w.1, w.2, w.3, w.4, w.5, w.6, w.7, w.8, w.9, deep_said lengths d w.4 w.10))

pub deep_meant : (lengths : Lengths) (d : ℕ) (p : Part) → IsDeepData lengths d p → IsAlternativeTooDeep lengths (data_alternatives d) p
unfolding data_alternatives
deep_meant lengths zero p h = join (is_tag 2 true 1 p.tag) (is_tag 2 true 2 p.tag) (Unit {0}) (IsAlternativeTooDeep lengths simple_data p) h tt
deep_meant lengths (suc d) p h =
    let w = h.1 in
    join (is_tag 2 true 1 p.tag) (is_tag 2 true 2 p.tag) (Within lengths d p) (IsAlternativeTooDeep lengths simple_data p) h.0
    (w.0, w.1, w.2, w.3, w.4, w.5, w.6, w.7, w.8, w.9, deep_meant lengths d w.4 w.10)

-- ---- types

of_two : {P Q : Type 0} → (P → ⊥) → (Q → ⊥) → P ⊎ Q → ⊥
of_two f g (inl a) = f a
of_two f g (inr b) = g b

-- the widths of a format never are
last_width_not : (lengths : Lengths) (c : List ℕ) → IsPartTooDeep lengths (required (universal 2 unsigned8) no_more) c → ⊥
last_width_not lengths c h = of_two (λ a. a.1) (λ b. b.2) h.3

format_not : (lengths : Lengths) (c : List ℕ) → IsPartTooDeep lengths (required (universal 2 unsigned8) (required (universal 2 unsigned8) no_more)) c → ⊥
format_not lengths c h = of_two (λ a. a.1) (λ b. last_width_not lengths h.1 b.2) h.3

either_not : (b : Bool) (P Q : Type 0) → (P → ⊥) → (Q → ⊥) → MatchBool b P Q → ⊥
either_not true P Q f g h = f h
either_not false P Q f g h = g h

simple_types_not : (lengths : Lengths) (p : Part) → IsAlternativeTooDeep lengths simple_types p → ⊥
simple_types_not lengths p =
    neither (is_tag 2 false 3 p.tag) _ (neither (is_tag 2 false 4 p.tag) _ (neither (is_tag 2 false 5 p.tag) _ (neither (is_tag 2 false 6 p.tag) _ (
    either_not (is_tag 2 true 7 p.tag) _ _ (format_not lengths p.contents) (
    neither (is_tag 2 false 9 p.tag) _ (neither (is_tag 2 false 10 p.tag) _ (neither (is_tag 2 false 12 p.tag) _ (λ h. h))))))))

both : (b : Bool) {P P2 Q Q2 : Type 0} → (P → P2) → (Q → Q2) → MatchBool b P Q → MatchBool b P2 Q2
both true f g h = f h
both false f g h = g h

the_first : (b : Bool) {P P2 Q : Type 0} → (P → P2) → (Q → ⊥) → MatchBool b P Q → IsTrue b × P2
the_first true f never h = (refl, f h)
the_first false f never h = absurd (never h)

first_of_two : (b : Bool) (Q : Type 0) {P P2 : Type 0} → (P2 → P) → IsTrue b × P2 → MatchBool b P Q
first_of_two true Q f h = f h.1
first_of_two false Q f h = absurd cc

module _ (lengths : Lengths) where
  -- a component that may be missing, and what comes behind it
  optional_said : (m : Member) (Here : Part → Type 0) (Later IsSo : List ℕ → Type 0) (c : List ℕ) → ((p : Part) → Here p → ⊥) → ((r : List ℕ) → Later r → IsSo r)
      → HereOrLater lengths m Here Later c → IsBehindOptional lengths m IsSo c
  optional_said m Here Later IsSo c not to (inr b) = inr (b.0, to c b.1)
  optional_said m Here Later IsSo c not to (inl a) = inl (a.0, a.1, a.2, behind a.4)
    where
      behind : Here a.0 ⊎ ((v : Value) × IsMember lengths m a.0 v × Later a.1) → (v : Value) × IsMember lengths m a.0 v × IsSo a.1
      behind (inl x) = absurd (not a.0 x)
      behind (inr y) = (y.0, y.1, to a.1 y.2)

  optional_meant : (m : Member) (Here : Part → Type 0) (Later IsSo : List ℕ → Type 0) (c : List ℕ) → ((p : Part) (v : Value) → IsMember lengths m p v → begins m p.tag ≡ true) → ((r : List ℕ) → IsSo r → Later r)
      → IsBehindOptional lengths m IsSo c → HereOrLater lengths m Here Later c
  optional_meant m Here Later IsSo c begun to (inr b) = inr (b.0, to c b.1)
  optional_meant m Here Later IsSo c begun to (inl a) = inl (a.0, a.1, a.2, begun a.0 a.3.0 a.3.1, inr (a.3.0, a.3.1, to a.1 a.3.2))

  -- one that has to be there, and what comes behind it
  required_said : (m : Member) (cs : Components) (IsSo : List ℕ → Type 0) (c : List ℕ) → ((p : Part) → IsMemberTooDeep lengths m p → ⊥) → ((r : List ℕ) → IsPartTooDeep lengths cs r → IsSo r)
      → IsPartTooDeep lengths (required m cs) c → IsBehind lengths m IsSo c
  required_said m cs IsSo c not to h = (h.0, h.1, h.2, behind h.3)
    where
      behind : IsMemberTooDeep lengths m h.0 ⊎ ((v : Value) × IsMember lengths m h.0 v × IsPartTooDeep lengths cs h.1) → (v : Value) × IsMember lengths m h.0 v × IsSo h.1
      behind (inl x) = absurd (not h.0 x)
      behind (inr y) = (y.0, y.1, to h.1 y.2)

  -- the last one, which is too deep
  last_said : (m : Member) (c : List ℕ) → IsPartTooDeep lengths (required m no_more) c → (p : Part) × (rest : List ℕ) × BeginsWith lengths c p rest × IsMemberTooDeep lengths m p
  last_said m c h = (h.0, h.1, h.2, here h.3)
    where
      here : IsMemberTooDeep lengths m h.0 ⊎ ((v : Value) × IsMember lengths m h.0 v × IsPartTooDeep lengths no_more h.1) → IsMemberTooDeep lengths m h.0
      here (inl x) = x
      here (inr y) = absurd y.2

  name_not : (e : Edition) (p : Part) → IsMemberTooDeep lengths (context 0 (identifier.form e)) p → ⊥
  name_not e p h = h.1

  abbrev TypeIn : Edition → ℕ → Part → Type 0
  TypeIn e d = IsAlternativeTooDeep lengths (type_alternatives e d)

  module _ (e : Edition) (d : ℕ) (said : (p : Part) → TypeIn e d p → IsDeepType lengths e d p) where
    typed_said : (n : ℕ) (c : List ℕ) → IsPartTooDeep lengths (required (context n (choice (type_alternatives e d))) no_more) c → BeginsWithType lengths n (IsDeepType lengths e d) c
    typed_said n c h =
        let w = last_said (context n (choice (type_alternatives e d))) c h in
        (w.0, w.1, w.2, (w.3.0, (w.3.1.0, w.3.1.1, w.3.1.2, said w.3.1.0 w.3.1.3)))

    array_said : (c : List ℕ) → IsTooDeep lengths (array_form (type_alternatives e d)) c → IsDeepArray lengths (IsDeepType lengths e d) c
    array_said c =
        let count = context 1 (form.integer (pos 0) (pos 4096)) in
        let inner = required (context 2 (choice (type_alternatives e d))) no_more in
        optional_said (context 0 form.boolean) (IsMemberTooDeep lengths (context 0 form.boolean)) (IsPartTooDeep lengths (required count inner)) (IsBehind lengths count (BeginsWithType lengths 2 (IsDeepType lengths e d))) c
        (λ p h. h.1)
        (λ r. required_said count inner (BeginsWithType lengths 2 (IsDeepType lengths e d)) r (λ p h. h.1) (typed_said 2))

    component_said : (p : Part) → IsMemberTooDeep lengths (component_member e (type_alternatives e d)) p → IsDeepComponent lengths e (IsDeepType lengths e d) p
    component_said p h = (
      h.0,
      optional_said (context 0 (identifier.form e)) (IsMemberTooDeep lengths (context 0 (identifier.form e))) (IsPartTooDeep lengths (required (context 1 (choice (type_alternatives e d))) no_more)) (BeginsWithType lengths 1 (IsDeepType lengths e d)) p.contents
          (name_not e) (typed_said 1) h.1,
    )

    components_said : (c : List ℕ) → IsPartTooDeep lengths (required (context 1 (list_of any_number (component_member e (type_alternatives e d)))) no_more) c → BeginsWithComponents lengths e d (IsDeepType lengths e d) c
    components_said c h =
        let w = last_said (context 1 (list_of any_number (component_member e (type_alternatives e d)))) c h in
        let k = w.3.1 in
        (w.0, w.1, w.2, (w.3.0, (k.0, k.1, k.2, k.3, k.4, k.5, k.6, k.7, k.8, k.9, component_said k.4 k.10)))

    structure_said : (c : List ℕ) → IsTooDeep lengths (structure_form e (type_alternatives e d)) c → IsDeepStructure lengths e d (IsDeepType lengths e d) c
    structure_said c =
        optional_said (context 0 form.boolean) (IsMemberTooDeep lengths (context 0 form.boolean)) (IsPartTooDeep lengths (required (context 1 (list_of any_number (component_member e (type_alternatives e d)))) no_more)) (BeginsWithComponents lengths e d (IsDeepType lengths e d)) c
        (λ p h. h.1) components_said

  module _ (e : Edition) (d : ℕ) (meant : (p : Part) → IsDeepType lengths e d p → TypeIn e d p) where
    typed_meant : (n : ℕ) (c : List ℕ) → BeginsWithType lengths n (IsDeepType lengths e d) c → IsPartTooDeep lengths (required (context n (choice (type_alternatives e d))) no_more) c
    typed_meant n c w = (w.0, w.1, w.2, inl (w.3.0, (w.3.1.0, w.3.1.1, w.3.1.2, meant w.3.1.0 w.3.1.3)))

    array_meant : (c : List ℕ) → IsDeepArray lengths (IsDeepType lengths e d) c → IsTooDeep lengths (array_form (type_alternatives e d)) c
    array_meant c =
        let count = context 1 (form.integer (pos 0) (pos 4096)) in
        let inner = required (context 2 (choice (type_alternatives e d))) no_more in
        optional_meant (context 0 form.boolean) (IsMemberTooDeep lengths (context 0 form.boolean)) (IsPartTooDeep lengths (required count inner)) (IsBehind lengths count (BeginsWithType lengths 2 (IsDeepType lengths e d))) c
        (λ p v k. k.0)
        (λ r k. (k.0, k.1, k.2, inr (k.3.0, k.3.1, typed_meant 2 k.1 k.3.2)))

    component_meant : (p : Part) → IsDeepComponent lengths e (IsDeepType lengths e d) p → IsMemberTooDeep lengths (component_member e (type_alternatives e d)) p
    component_meant p h = (
      h.0,
      optional_meant (context 0 (identifier.form e)) (IsMemberTooDeep lengths (context 0 (identifier.form e))) (IsPartTooDeep lengths (required (context 1 (choice (type_alternatives e d))) no_more)) (BeginsWithType lengths 1 (IsDeepType lengths e d)) p.contents
          (λ q v k. k.0) (typed_meant 1) h.1,
    )

    components_meant : (c : List ℕ) → BeginsWithComponents lengths e d (IsDeepType lengths e d) c → IsPartTooDeep lengths (required (context 1 (list_of any_number (component_member e (type_alternatives e d)))) no_more) c
    components_meant c w =
        let k = w.3.1 in
        (w.0, w.1, w.2, inl (w.3.0, (k.0, k.1, k.2, k.3, k.4, k.5, k.6, k.7, k.8, k.9, component_meant k.4 k.10)))

    structure_meant : (c : List ℕ) → IsDeepStructure lengths e d (IsDeepType lengths e d) c → IsTooDeep lengths (structure_form e (type_alternatives e d)) c
    structure_meant c =
        optional_meant (context 0 form.boolean) (IsMemberTooDeep lengths (context 0 form.boolean)) (IsPartTooDeep lengths (required (context 1 (list_of any_number (component_member e (type_alternatives e d)))) no_more)) (BeginsWithComponents lengths e d (IsDeepType lengths e d)) c
        (λ p v k. k.0) components_meant

pub type_said : (lengths : Lengths) (e : Edition) (d : ℕ) (p : Part) → IsAlternativeTooDeep lengths (type_alternatives e d) p → IsDeepType lengths e d p
unfolding type_alternatives
type_said lengths e zero p h = (split (is_tag 2 true 1 p.tag) (is_tag 2 true 2 p.tag) (Unit {0}) (IsAlternativeTooDeep lengths simple_types p) (simple_types_not lengths p) h).0
type_said lengths e (suc d) p h =
    both (is_tag 2 true 1 p.tag) (array_said lengths e d (type_said lengths e d) p.contents)
    (the_first (is_tag 2 true 2 p.tag) (structure_said lengths e d (type_said lengths e d) p.contents) (simple_types_not lengths p)) h

pub type_meant : (lengths : Lengths) (e : Edition) (d : ℕ) (p : Part) → IsDeepType lengths e d p → IsAlternativeTooDeep lengths (type_alternatives e d) p
unfolding type_alternatives
type_meant lengths e zero p h = join (is_tag 2 true 1 p.tag) (is_tag 2 true 2 p.tag) (Unit {0}) (IsAlternativeTooDeep lengths simple_types p) h tt
type_meant lengths e (suc d) p h =
    both (is_tag 2 true 1 p.tag) (array_meant lengths e d (type_meant lengths e d) p.contents)
    (first_of_two (is_tag 2 true 2 p.tag) _ (structure_meant lengths e d (type_meant lengths e d) p.contents)) h
