-- Kinds of values: each with its form in every edition, what a value of it says in the form, and what is said back. The words are those of
-- ber_forms' forms: a component also names its field.
use Rattle.std.specs.Prelude.{◌≡◌, ℕ, ℤ, pos, negsuc, Bool, List, Option, map, ◌==◌, if◌then◌else◌}
use Rattle.std.proofs.Common.{refl, ap, ◌∙◌}
use Rattle.ber_forms.specs.Value.{Value, Slot, Slots, nothing, truth, number, bits, text, chosen, parts, missing, given, done, slot, optionally, all_of}
use Rattle.ber_forms.specs.Bits.{unused_for}
use Rattle.ber_forms.specs.Form as asn
use Rattle.ber_forms.specs.Form.{Form, Member, Components, Alternatives, AtDefault, left_out, written}
use Rattle.ber_forms.specs.Fits.{Fits}
use Rattle.ber_forms.specs.Wider.{Widens, MemberWidens, ComponentsWiden, ChoiceWidens, BeginAlike}
use Rattle.ber_forms.proofs.Wider.{widens_itself, tagged_wider, tagged_begin, one_of_wider, no_more_wider, any_more_wider, required_wider, optional_wider, defaulted_wider, skipped_wider, sequence_wider, list_wider, such_wider, no_other_wider, or_wider, choice_wider}
use Rattle.mms_types.specs.declared.identifier.Edition.{Edition}
use Rattle.mms_types.specs.Spelling.{widest}
use Rattle.pdu_names.specs.Said.{truth_of, natural_of, number_of, bits_of, text_of, if_given, members_of}
use Rattle.pdu_names.specs.AgainLaws.{if_given_again, each_given_again}
use Rattle.pdu_names.specs.Alike.{SpellAlike, MembersAlike, ComponentsAlike, ChoicesAlike, tagged_alike, required_alike, optional_alike, defaulted_alike, skipped_alike, sequence_alike, list_alike, such_alike, or_alike, choice_alike, alike_itself}

-- Of each edition, the form spells alike as that of the widest (alike), and what is of it is of that of the widest and says the same (wider).

-- contents
pub record Kind (X : Type 0) : Type 0 where
  pub form : Edition → Form
  pub value : X → Value
  pub said : Value → X
  pub again : (x : X) → said (value x) ≡ x
  pub alike : (edition : Edition) → SpellAlike (form edition) (form widest)
  pub wider : (edition : Edition) → Widens (form edition) (form widest)

-- whether an element begins with the same tags in each edition, or an edition may add some
pub data Tags : Type 0 where
  settled : Tags
  growing : Tags

abbrev pub Begins : Tags → (Edition → Member) → Type 0
Begins settled member = (edition : Edition) → BeginAlike (member edition) (member widest)
Begins growing member = Unit {0}

-- an element
pub record Item (tags : Tags) (X : Type 0) : Type 0 where
  pub member : Edition → Member
  pub value : X → Value
  pub said : Value → X
  pub again : (x : X) → said (value x) ≡ x
  pub alike : (edition : Edition) → MembersAlike (member edition) (member widest)
  pub wider : (edition : Edition) → MemberWidens (member edition) (member widest)
  pub begins : Begins tags member

-- components, each a field of R; C makes an R of the fields that are still to come
pub record Fields (R C : Type 0) : Type 0 where
  pub components : Edition → Components
  pub slots : R → Slots
  pub made : C → Slots → R
  pub filled : C → R → R
  pub again : (c : C) (r : R) → made c (slots r) ≡ filled c r
  pub alike : (edition : Edition) → ComponentsAlike (components edition) (components widest)
  pub wider : (edition : Edition) → ComponentsWiden (components edition) (components widest)

-- alternatives, each of which makes an R
pub record Arms (R : Type 0) : Type 0 where
  pub alternatives : Edition → Alternatives
  pub made : ℕ → Value → R
  pub alike : (edition : Edition) → ChoicesAlike (alternatives edition) (alternatives widest)
  pub wider : (edition : Edition) → ChoiceWidens (alternatives edition) (alternatives widest)

-- a choice
pub record Choice (R : Type 0) : Type 0 where
  pub alternatives : Edition → Alternatives
  pub value : R → Value
  pub said : Value → R
  pub again : (r : R) → said (value r) ≡ r
  pub alike : (edition : Edition) → ChoicesAlike (alternatives edition) (alternatives widest)
  pub wider : (edition : Edition) → ChoiceWidens (alternatives edition) (alternatives widest)

-- the value is of the form
abbrev pub IsOf : {X : Type 0} → Kind X → Edition → X → Type 0
IsOf k edition x = Fits (k.form edition) (k.value x)

-- ---- contents that are no elements

abbrev pub null : Kind (Unit {0})
null = record { form = λ _. asn.null; value = λ _. nothing; said = λ _. tt; again = λ u. refl; alike = λ _. alike_itself asn.null; wider = λ _. widens_itself asn.null }

abbrev pub boolean : Kind Bool
boolean = record { form = λ _. asn.boolean; value = truth; said = truth_of; again = λ b. refl; alike = λ _. alike_itself asn.boolean; wider = λ _. widens_itself asn.boolean }

-- from the first number to the second
abbrev pub integer : ℤ → ℤ → Kind ℤ
integer low high = record { form = λ _. asn.integer low high; value = number; said = number_of; again = λ n. refl; alike = λ _. alike_itself (asn.integer low high); wider = λ _. widens_itself (asn.integer low high) }

abbrev pub natural : ℕ → ℕ → Kind ℕ
natural low high = record {
  form = λ _. asn.integer (pos low) (pos high);
  value = λ n. number (pos n);
  said = natural_of;
  again = λ n. refl;
  alike = λ _. alike_itself (asn.integer (pos low) (pos high));
  wider = λ _. widens_itself (asn.integer (pos low) (pos high));
}

abbrev pub int8 : Kind ℤ
int8 = integer (negsuc 127) (pos 127)

abbrev pub int16 : Kind ℤ
int16 = integer (negsuc 32767) (pos 32767)

abbrev pub int32 : Kind ℤ
int32 = integer (negsuc 2147483647) (pos 2147483647)

abbrev pub unsigned8 : Kind ℕ
unsigned8 = natural 0 255

abbrev pub unsigned16 : Kind ℕ
unsigned16 = natural 0 65535

abbrev pub unsigned32 : Kind ℕ
unsigned32 = natural 0 4294967295

-- an enumeration, by the number of each and what is of a number
abbrev pub enumerated : {X : Type 0} → ℕ → (number_of : X → ℕ) (numbered : ℕ → X) → ((x : X) → numbered (number_of x) ≡ x) → Kind X
enumerated most number_of numbered again = record {
  form = λ _. asn.integer (pos 0) (pos most);
  value = λ x. number (pos (number_of x));
  said = λ v. numbered (natural_of v);
  again = again;
  alike = λ _. alike_itself (asn.integer (pos 0) (pos most));
  wider = λ _. widens_itself (asn.integer (pos 0) (pos most));
}

abbrev pub octets : (List ℕ → Bool) → Kind (List ℕ)
octets test = record { form = λ _. asn.octet_string test; value = text; said = text_of; again = λ o. refl; alike = λ _. alike_itself (asn.octet_string test); wider = λ _. widens_itself (asn.octet_string test) }

abbrev pub octet_string : Kind (List ℕ)
octet_string = octets asn.any_octets

abbrev pub visible_string : Kind (List ℕ)
visible_string = octets asn.are_visible

abbrev pub named_bits : ℕ → Kind (List ℕ)
named_bits n = record {
  form = λ _. asn.named_bits n;
  value = bits (unused_for n);
  said = bits_of;
  again = λ o. refl;
  alike = λ _. alike_itself (asn.named_bits n);
  wider = λ _. widens_itself (asn.named_bits n);
}

-- of the kind, with a value that passes the test
abbrev pub such_that : {X : Type 0} → (Value → Bool) → Kind X → Kind X
such_that test k = record {
  form = λ e. asn.such_that test (k.form e);
  value = k.value;
  said = k.said;
  again = k.again;
  alike = λ e. such_alike test (k.form e) (k.form widest) (k.alike e);
  wider = λ e. such_wider test (k.form e) (k.form widest) (k.wider e);
}

-- an R that is nothing but an X
abbrev pub of_one : {R X : Type 0} → Kind X → (get : R → X) (make : X → R) → ((r : R) → make (get r) ≡ r) → Kind R
of_one {R} k get make all = record {
  form = k.form;
  value = λ r. k.value (get r);
  said = λ v. make (k.said v);
  again = λ r. ap make (k.again (get r)) ∙ all r;
  alike = k.alike;
  wider = k.wider;
}

-- ---- elements

abbrev pub context : {X : Type 0} → ℕ → Kind X → Item settled X
context n k = record {
  member = λ e. asn.context n (k.form e);
  value = k.value;
  said = k.said;
  again = k.again;
  alike = λ e. tagged_alike 2 n (k.form e) (k.form widest) (k.alike e);
  wider = λ e. tagged_wider 2 n (k.form e) (k.form widest) (k.wider e);
  begins = λ e. tagged_begin 2 n (k.form e) (k.form widest) (k.wider e);
}

abbrev pub universal : {X : Type 0} → ℕ → Kind X → Item settled X
universal n k = record {
  member = λ e. asn.universal n (k.form e);
  value = k.value;
  said = k.said;
  again = k.again;
  alike = λ e. tagged_alike 0 n (k.form e) (k.form widest) (k.alike e);
  wider = λ e. tagged_wider 0 n (k.form e) (k.form widest) (k.wider e);
  begins = λ e. tagged_begin 0 n (k.form e) (k.form widest) (k.wider e);
}

-- so many that pass the test
abbrev pub list_of : {tags : Tags} {X : Type 0} → (ℕ → Bool) → Item tags X → Kind (List X)
list_of test m = record {
  form = λ e. asn.list_of test (m.member e);
  value = λ xs. parts (all_of (map m.value xs));
  said = members_of m.said;
  again = each_given_again m.value m.said m.again;
  alike = λ e. list_alike test (m.member e) (m.member widest) (m.alike e);
  wider = λ e. list_wider test (m.member e) (m.member widest) (m.wider e);
}

-- ---- components

abbrev first_slot : Slots → Slot
first_slot done = missing
first_slot (slot s vs) = s

abbrev later_slots : Slots → Slots
later_slots done = done
later_slots (slot s vs) = vs

abbrev in_slot : Slot → Value
in_slot missing = nothing
in_slot (given v) = v

abbrev slots_of : Value → Slots
slots_of (parts vs) = vs
slots_of v = done

abbrev pub no_more : {R : Type 0} → Fields R R
no_more = record {
  components = λ _. asn.no_more;
  slots = λ _. done;
  made = λ r vs. r;
  filled = λ r x. r;
  again = λ c r. refl;
  alike = λ _ vs before. refl;
  wider = λ _. no_more_wider;
}

-- any elements, none of which is kept
abbrev pub any_more : {R : Type 0} → Fields R R
any_more = record {
  components = λ _. asn.any_more;
  slots = λ _. done;
  made = λ r vs. r;
  filled = λ r x. r;
  again = λ c r. refl;
  alike = λ _ vs before. refl;
  wider = λ _. any_more_wider;
}

abbrev pub required : {tags : Tags} {R X C : Type 0} → Item tags X → (R → X) → Fields R C → Fields R (X → C)
required {tags} {R} {X} {C} m get more = record {
  components = λ e. asn.required (m.member e) (more.components e);
  slots = λ r. slot (given (m.value (get r))) (more.slots r);
  made = λ c vs. more.made (c (m.said (in_slot (first_slot vs)))) (later_slots vs);
  filled = λ c r. more.filled (c (get r)) r;
  again = λ c r. ap (λ (x : X). more.made (c x) (more.slots r)) (m.again (get r)) ∙ more.again (c (get r)) r;
  alike = λ e. required_alike (m.member e) (m.member widest) (more.components e) (more.components widest) (m.alike e) (more.alike e);
  wider = λ e. required_wider (m.member e) (m.member widest) (more.components e) (more.components widest) (m.wider e) (more.wider e);
}

abbrev pub optional : {R X C : Type 0} → Item settled X → (R → Option X) → Fields R C → Fields R (Option X → C)
optional {R} {X} {C} m get more = record {
  components = λ e. asn.optional (m.member e) (more.components e);
  slots = λ r. slot (optionally m.value (get r)) (more.slots r);
  made = λ c vs. more.made (c (if_given m.said (first_slot vs))) (later_slots vs);
  filled = λ c r. more.filled (c (get r)) r;
  again = λ c r. ap (λ (o : Option X). more.made (c o) (more.slots r)) (if_given_again m.value m.said m.again (get r)) ∙ more.again (c (get r)) r;
  alike = λ e. optional_alike (m.member e) (m.member widest) (more.components e) (more.components widest) (m.alike e) (more.alike e);
  wider = λ e. optional_wider (m.member e) (m.member widest) (more.components e) (more.components widest) (m.begins e) (m.wider e) (more.wider e);
}

abbrev with_default : {R X C : Type 0} → AtDefault → Item settled X → X → (R → X) → Fields R C → Fields R (X → C)
with_default {R} {X} {C} w m d get more = record {
  components = λ e. asn.defaulted w (m.member e) (m.value d) (more.components e);
  slots = λ r. slot (given (m.value (get r))) (more.slots r);
  made = λ c vs. more.made (c (m.said (in_slot (first_slot vs)))) (later_slots vs);
  filled = λ c r. more.filled (c (get r)) r;
  again = λ c r. ap (λ (x : X). more.made (c x) (more.slots r)) (m.again (get r)) ∙ more.again (c (get r)) r;
  alike = λ e. defaulted_alike w (m.member e) (m.member widest) (m.value d) (more.components e) (more.components widest) (m.alike e) (more.alike e);
  wider = λ e. defaulted_wider w (m.member e) (m.member widest) (m.value d) (more.components e) (more.components widest) (m.begins e) (m.wider e) (more.wider e);
}

-- the value that absence means: a component that is equal to it isn't written
abbrev pub defaulted : {R X C : Type 0} → Item settled X → X → (R → X) → Fields R C → Fields R (X → C)
defaulted m d get more = with_default left_out m d get more

-- the same, always written
abbrev pub implied : {R X C : Type 0} → Item settled X → X → (R → X) → Fields R C → Fields R (X → C)
implied m d get more = with_default written m d get more

-- one that may be there, and isn't kept and never written
abbrev pub skipped : {R X C : Type 0} → Item settled X → Fields R C → Fields R C
skipped m more = record {
  components = λ e. asn.skipped (m.member e) (more.components e);
  slots = more.slots;
  made = more.made;
  filled = more.filled;
  again = more.again;
  alike = λ e. skipped_alike (m.member e) (m.member widest) (more.components e) (more.components widest) (more.alike e);
  wider = λ e. skipped_wider (m.member e) (m.member widest) (more.components e) (more.components widest) (m.begins e) (m.wider e) (more.wider e);
}

-- what makes an R of its fields, and that these are all
abbrev pub sequence : {R C : Type 0} → (p : Fields R C) → (c : C) → ((r : R) → p.filled c r ≡ r) → Kind R
sequence p c all = record {
  form = λ e. asn.sequence (p.components e);
  value = λ r. parts (p.slots r);
  said = λ v. p.made c (slots_of v);
  again = λ r. p.again c r ∙ all r;
  alike = λ e. sequence_alike (p.components e) (p.components widest) (p.alike e);
  wider = λ e. sequence_wider (p.components e) (p.components widest) (p.wider e);
}

-- ---- alternatives

-- none of them: what is said back of a value of another form
abbrev pub no_other : {R : Type 0} → R → Arms R
no_other r = record { alternatives = λ _. asn.no_other; made = λ n v. r; alike = λ _ v. refl; wider = λ _. no_other_wider asn.no_other }

abbrev pub or : {R X : Type 0} → ℕ → Kind X → (X → R) → Arms R → Arms R
or n k make more = record {
  alternatives = λ e. asn.or n (k.form e) (more.alternatives e);
  made = λ i v. if i == n then make (k.said v) else more.made i v;
  alike = λ e. or_alike n (k.form e) (k.form widest) (more.alternatives e) (more.alternatives widest) (k.alike e) (more.alike e);
  wider = λ e. or_wider n (k.form e) (k.form widest) (more.alternatives e) (more.alternatives widest) (k.wider e) (more.wider e);
}

abbrev pub made_of : {R : Type 0} → Arms R → Value → R
made_of arms (chosen n v) = arms.made n v
made_of arms v = arms.made 0 v

-- the alternatives, how an R is one of them, and that it is made of what it says
abbrev pub alternatives : {R : Type 0} → (arms : Arms R) (value : R → Value) → ((r : R) → made_of arms (value r) ≡ r) → Choice R
alternatives arms value again = record {
  alternatives = arms.alternatives;
  value = value;
  said = made_of arms;
  again = again;
  alike = arms.alike;
  wider = arms.wider;
}

abbrev pub choice : {R : Type 0} → Choice R → Kind R
choice c = record {
  form = λ e. asn.choice (c.alternatives e);
  value = c.value;
  said = c.said;
  again = c.again;
  alike = λ e. choice_alike (c.alternatives e) (c.alternatives widest) (c.alike e);
  wider = λ e. choice_wider (c.alternatives e) (c.alternatives widest) (c.wider e);
}

-- a choice with no tag of its own, to which an edition may add alternatives
abbrev pub one_of : {R : Type 0} → Choice R → Item growing R
one_of c = record {
  member = λ e. asn.one_of (c.alternatives e);
  value = c.value;
  said = c.said;
  again = c.again;
  alike = c.alike;
  wider = λ e. one_of_wider (c.alternatives e) (c.alternatives widest) (c.wider e);
  begins = tt;
}

-- ---- ApplicationReference

-- an explicit tag: contents that are one element
abbrev pub explicit : {tags : Tags} {X : Type 0} → Item tags X → Kind X
explicit m = sequence (required m (λ x. x) no_more) (λ x. x) (λ x. refl)

-- the client's number under an explicit tag 1, and no other component (this profile's choice)
abbrev pub application_reference : Kind ℕ
application_reference = explicit (context 1 (explicit (universal 2 unsigned32)))
