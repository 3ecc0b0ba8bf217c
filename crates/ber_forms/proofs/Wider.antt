-- A form is wider than another where its parts are: constructor by constructor.
use Rattle.std.proofs.Common.{◌≡◌, ℕ, Bool, true, false, List, [], ◌∷◌, refl, sym, ap, subst, ◌∙◌}
use Rattle.std.specs.Prelude.{IsTrue, MatchBool}
use Rattle.ber_core.specs.declared.element.Lengths.{Lengths}
use Rattle.ber_core.specs.Part.{Part}
use Rattle.ber_forms.specs.Value.{Value, chosen, missing, given, done, slot}
use Rattle.ber_forms.specs.Form.{Form, Member, Components, Alternatives, AtDefault, tagged, one_of, no_other, no_more, any_more, required, optional, defaulted, skipped, octet_string, sequence, choice, list_of, such_that, or}
use Rattle.ber_forms.specs.Reading.{is_constructed, is_tag}
use Rattle.ber_forms.specs.InForm.{begins, AreMembers, InForm, IsMember, IsAlternative, AreComponents}
use Rattle.ber_forms.specs.Wider.{Widens, MemberWidens, ComponentsWiden, ChoiceWidens, BeginAlike}

pub widens_itself : (f : Form) → Widens f f
widens_itself f = record { bit = refl; takes = λ lengths c v h. h }

pub tagged_wider : (class n : ℕ) (f g : Form) → Widens f g → MemberWidens (tagged class n f) (tagged class n g)
tagged_wider class n f g h = λ lengths p v k. (subst (λ (b : Bool). IsTrue (is_tag class b n p.tag)) h.bit k.0, h.takes lengths p.contents v k.1)

pub tagged_begin : (class n : ℕ) (f g : Form) → Widens f g → BeginAlike (tagged class n f) (tagged class n g)
tagged_begin class n f g h t = ap (λ (b : Bool). is_tag class b n t) h.bit

pub one_of_wider : (others more : Alternatives) → ChoiceWidens others more → MemberWidens (one_of others) (one_of more)
one_of_wider others more h = h

pub no_more_wider : ComponentsWiden no_more no_more
no_more_wider = λ lengths ps vs are. are

pub any_more_wider : ComponentsWiden any_more any_more
any_more_wider = λ lengths ps vs are. are

matched : (b : Bool) (P Q R S : Type 0) → (P → R) → (Q → S) → MatchBool b P Q → MatchBool b R S
matched true P Q R S here there h = here h
matched false P Q R S here there h = there h

pub required_wider : (m n : Member) (cs ds : Components) → MemberWidens m n → ComponentsWiden cs ds → ComponentsWiden (required m cs) (required n ds)
required_wider m n cs ds h k lengths [] vs are = absurd are
required_wider m n cs ds h k lengths (p ∷ ps) done are = absurd are
required_wider m n cs ds h k lengths (p ∷ ps) (slot missing vs) are = absurd are
required_wider m n cs ds h k lengths (p ∷ ps) (slot (given v) vs) are = (h lengths p v are.0, k lengths ps vs are.1)

pub optional_wider : (m n : Member) (cs ds : Components) → BeginAlike m n → MemberWidens m n → ComponentsWiden cs ds → ComponentsWiden (optional m cs) (optional n ds)
optional_wider m n cs ds first h k lengths [] done are = absurd are
optional_wider m n cs ds first h k lengths [] (slot missing vs) are = k lengths [] vs are
optional_wider m n cs ds first h k lengths [] (slot (given v) vs) are = absurd are
optional_wider m n cs ds first h k lengths (p ∷ ps) done are = absurd are
optional_wider m n cs ds first h k lengths (p ∷ ps) (slot missing vs) are = (sym (first p.tag) ∙ are.0, k lengths (p ∷ ps) vs are.1)
optional_wider m n cs ds first h k lengths (p ∷ ps) (slot (given v) vs) are = (sym (first p.tag) ∙ are.0, h lengths p v are.1, k lengths ps vs are.2)

pub defaulted_wider : (w : AtDefault) (m n : Member) (d : Value) (cs ds : Components) → BeginAlike m n → MemberWidens m n → ComponentsWiden cs ds → ComponentsWiden (defaulted w m d cs) (defaulted w n d ds)
defaulted_wider w m n d cs ds first h k lengths [] done are = absurd are
defaulted_wider w m n d cs ds first h k lengths [] (slot missing vs) are = absurd are
defaulted_wider w m n d cs ds first h k lengths [] (slot (given v) vs) are = (are.0, k lengths [] vs are.1)
defaulted_wider w m n d cs ds first h k lengths (p ∷ ps) done are = absurd are
defaulted_wider w m n d cs ds first h k lengths (p ∷ ps) (slot missing vs) are = absurd are
defaulted_wider w m n d cs ds first h k lengths (p ∷ ps) (slot (given v) vs) are =
    subst (λ (b : Bool). MatchBool b (IsMember lengths n p v × AreComponents lengths ds ps vs) ((v ≡ d) × AreComponents lengths ds (p ∷ ps) vs)) (first p.tag)
    (matched (begins m p.tag) (IsMember lengths m p v × AreComponents lengths cs ps vs) ((v ≡ d) × AreComponents lengths cs (p ∷ ps) vs)
    (IsMember lengths n p v × AreComponents lengths ds ps vs) ((v ≡ d) × AreComponents lengths ds (p ∷ ps) vs)
    (λ x. (h lengths p v x.0, k lengths ps vs x.1)) (λ x. (x.0, k lengths (p ∷ ps) vs x.1)) are)

pub skipped_wider : (m n : Member) (cs ds : Components) → BeginAlike m n → MemberWidens m n → ComponentsWiden cs ds → ComponentsWiden (skipped m cs) (skipped n ds)
skipped_wider m n cs ds first h k lengths [] vs are = k lengths [] vs are
skipped_wider m n cs ds first h k lengths (p ∷ ps) vs are =
    subst (λ (b : Bool). MatchBool b ((v : Value) × IsMember lengths n p v × AreComponents lengths ds ps vs) (AreComponents lengths ds (p ∷ ps) vs)) (first p.tag)
    (matched (begins m p.tag) ((v : Value) × IsMember lengths m p v × AreComponents lengths cs ps vs) (AreComponents lengths cs (p ∷ ps) vs)
    ((v : Value) × IsMember lengths n p v × AreComponents lengths ds ps vs) (AreComponents lengths ds (p ∷ ps) vs)
    (λ x. (x.0, h lengths p x.0 x.1, k lengths ps vs x.2)) (λ x. k lengths (p ∷ ps) vs x) are)

pub sequence_wider : (cs ds : Components) → ComponentsWiden cs ds → Widens (sequence cs) (sequence ds)
sequence_wider cs ds k = record { bit = refl; takes = λ lengths c v h. (h.0, h.1, h.2, k lengths h.0 h.1 h.3, h.4) }

members_wider : (m n : Member) (lengths : Lengths) → MemberWidens m n → (ps : List Part) (vs : List Value) → AreMembers (IsMember lengths m) ps vs → AreMembers (IsMember lengths n) ps vs
members_wider m n lengths h [] [] are = tt
members_wider m n lengths h [] (v ∷ vs) are = absurd are
members_wider m n lengths h (p ∷ ps) [] are = absurd are
members_wider m n lengths h (p ∷ ps) (v ∷ vs) are = (h lengths p v are.0, members_wider m n lengths h ps vs are.1)

pub list_wider : (test : ℕ → Bool) (m n : Member) → MemberWidens m n → Widens (list_of test m) (list_of test n)
list_wider test m n h = record { bit = refl; takes = λ lengths c v k. (k.0, k.1, k.2, members_wider m n lengths h k.0 k.1 k.3, k.4, k.5) }

pub such_wider : (test : Value → Bool) (f g : Form) → Widens f g → Widens (such_that test f) (such_that test g)
such_wider test f g h = record { bit = h.bit; takes = λ lengths c v k. (h.takes lengths c v k.0, k.1) }

pub choice_wider : (others more : Alternatives) → ChoiceWidens others more → Widens (choice others) (choice more)
choice_wider others more h = record { bit = refl; takes = λ lengths c v k. (k.0, k.1, h lengths k.0 v k.2) }

-- alternatives may be added
pub no_other_wider : (more : Alternatives) → ChoiceWidens no_other more
no_other_wider more = λ lengths p v h. absurd h

pub or_wider : (n : ℕ) (f g : Form) (others more : Alternatives) → Widens f g → ChoiceWidens others more → ChoiceWidens (or n f others) (or n g more)
or_wider n f g others more h k lengths p v x =
    subst (λ (b : Bool). MatchBool (is_tag 2 b n p.tag) ((w : Value) × InForm lengths g p.contents w × (v ≡ chosen n w)) (IsAlternative lengths more p v)) h.bit
    (matched (is_tag 2 (is_constructed f) n p.tag) ((w : Value) × InForm lengths f p.contents w × (v ≡ chosen n w)) (IsAlternative lengths others p v)
    ((w : Value) × InForm lengths g p.contents w × (v ≡ chosen n w)) (IsAlternative lengths more p v)
    (λ y. (y.0, h.takes lengths p.contents y.0 y.1, y.2)) (λ y. k lengths p v y) x)

-- octets that pass the one test pass the other
pub texts_wider : (test other : List ℕ → Bool) → ((o : List ℕ) → IsTrue (test o) → IsTrue (other o)) → Widens (octet_string test) (octet_string other)
texts_wider test other h = record { bit = refl; takes = λ lengths c v k. (h c k.0, k.1) }
