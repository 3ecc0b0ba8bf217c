-- Octets tell whether they answer a request, and which.
use Rattle.std.proofs.Common.{◌≡◌, ℕ, pos, ◌+◌, ◌<◌, ◌^◌, ◌⊎◌, inl, inr, Bool, true, false, cond, ltb, List, [], ◌∷◌, ◌++◌, length, append_assoc, refl, sym, ap, subst, ◌∙◌, arith}
use Rattle.std.specs.Prelude.{slice_index}
use Rattle.std.proofs.lemmas.Bool.{eqb-true, eq-eqb, ltb-true, lt-ltb}
use Rattle.std.proofs.lemmas.List.{append_cancel_left}
use Rattle.ber_core.specs.declared.element.Tag.{Tag}
use Rattle.ber_core.specs.declared.element.Lengths.TheVariants.{Definite}
use Rattle.ber_core.specs.Part.{Part}
use Rattle.ber_core.specs.Leaf.{IsInteger}
use Rattle.ber_core.specs.Spelling.{identifier_octets, digits, length_octets, integer_octets, element_octets}
use Rattle.ber_core.proofs.Elements.{one_element}
use Rattle.ber_core.proofs.Leaves.{one_number}
use Rattle.ber_core.proofs.Spelled.{integer_spelled, element_spelled}
use Rattle.ber_core.proofs.Written.{integer_few}
use Rattle.ber_forms.specs.Value.{number, optionally}
use Rattle.ber_forms.specs.Form as asn
use Rattle.ber_forms.specs.Spelling.{member_octets, optional_octets, alternative_octets}
use Rattle.mms_types.specs.Spelling.{widest}
use Rattle.mms_types.specs.declared.pdu.Answer.{Answer}
use Rattle.mms_types.specs.declared.service_error.ConfirmedError.{ConfirmedError}
use Rattle.pdu_assoc.specs.ServiceErrors.{service_error}
use Rattle.mms_pdu.specs.Services.{answers}
use Rattle.mms_types.specs.declared.pdu.Pdu.{Pdu}
use Rattle.mms_types.specs.declared.pdu.Pdu.TheVariants as pdu
use Rattle.mms_pdu.specs.Pdus.{pdu_octets}
use Rattle.mms_pdu.specs.Answering.{integer_tag, primitive_tag, constructed_tag, FirstSays, IsAnswer, is_answer, HasUnsigned32}

-- ---- an element tells its contents, however many they are

same_length : (xs ys : List ℕ) (c d : List ℕ) → length xs ≡ length ys → xs ++ c ≡ ys ++ d → c ≡ d
same_length [] [] c d n e = e
same_length [] (y ∷ ys) c d n e = absurd (omega (arith, n))
same_length (x ∷ xs) [] c d n e = absurd (omega (arith, n))
same_length (x ∷ xs) (y ∷ ys) c d n e = same_length xs ys c d (omega (arith, n)) (cc e)

after_length : (m n : ℕ) (c d : List ℕ) → length_octets m ++ c ≡ length_octets n ++ d → c ≡ d
unfolding length_octets
after_length m n c d e = by_test (ltb m 128) refl (ltb n 128) refl e
  where
    by_test : (a : Bool) → ltb m 128 ≡ a → (b : Bool) → ltb n 128 ≡ b
        → cond a (m ∷ []) ((128 + length (digits 256 8 m)) ∷ digits 256 8 m) ++ c ≡ cond b (n ∷ []) ((128 + length (digits 256 8 n)) ∷ digits 256 8 n) ++ d → c ≡ d
    by_test true f true g h = cc h
    by_test true f false g h =
        let first : m ≡ 128 + length (digits 256 8 n) = cc h in
        absurd (omega (arith, first, ltb-true m 128 f))
    by_test false f true g h =
        let first : 128 + length (digits 256 8 m) ≡ n = cc h in
        absurd (omega (arith, first, ltb-true n 128 g))
    by_test false f false g h =
        let first : 128 + length (digits 256 8 m) ≡ 128 + length (digits 256 8 n) = cc h in
        same_length (digits 256 8 m) (digits 256 8 n) c d (omega (arith, first)) (cc h)

contents_told : (t : Tag) (c d : List ℕ) → element_octets t c ≡ element_octets t d → c ≡ d
unfolding element_octets
contents_told t c d e = after_length (length c) (length d) c d (append_cancel_left (identifier_octets t) _ _ e)

-- ---- and the number that comes first in them

first_told : (t : Tag) (m n : ℕ) (c d : List ℕ) → t.class < 4 → t.number < 16384 → m < 2 ^ 32 → n < 2 ^ 32
    → element_octets t (integer_octets (pos m)) ++ c ≡ element_octets t (integer_octets (pos n)) ++ d → m ≡ n
first_told t m n c d class few small little e =
    let a = element_spelled Definite t (integer_octets (pos m)) class few (omega (arith, integer_few (pos m))) in
    let b = element_spelled Definite t (integer_octets (pos n)) class few (omega (arith, integer_few (pos n))) in
    let same = (one_element Definite _ _ c d _ _ a b e).1 in
    let octets : integer_octets (pos m) ≡ integer_octets (pos n) = ap (λ (p : Part). p.contents) same in
    cc (one_number (integer_octets (pos m)) (pos m) (pos n) (integer_spelled (pos m) (omega (arith, small)))
    (subst (λ (o : List ℕ). IsInteger o (pos n)) (sym octets) (integer_spelled (pos n) (omega (arith, little)))))

-- ---- PDUs by their first octets

abbrev first_octet : Pdu → ℕ
first_octet (pdu.ConfirmedRequest invoke request) = 160
first_octet (pdu.ModifiedRequest invoke modifier request) = 0
first_octet (pdu.ServerRequest invoke request) = 160
first_octet (pdu.ConfirmedResponse invoke answer) = 161
first_octet (pdu.HeardResponse invoke answer) = 0
first_octet (pdu.ConfirmedError error) = 162
first_octet (pdu.HeardError invoke) = 0
first_octet (pdu.EventNotification x) = 163
first_octet (pdu.Reject x) = 164
first_octet (pdu.HeardReject invoke) = 0
first_octet (pdu.CancelRequest invoke) = 133
first_octet (pdu.CancelResponse invoke) = 134
first_octet (pdu.CancelError error) = 167
first_octet pdu.HeardOther = 0
first_octet (pdu.InitiateRequest proposal) = 168
first_octet (pdu.InitiateResponse negotiated) = 169
first_octet (pdu.InitiateError error) = 170
first_octet pdu.ConcludeRequest = 139
first_octet pdu.ConcludeResponse = 140
first_octet (pdu.ConcludeError error) = 173

first_is : (p : Pdu) → slice_index (pdu_octets p) 0 ≡ first_octet p
unfolding element_octets identifier_octets
first_is (pdu.ConfirmedRequest invoke request) = refl
first_is (pdu.ModifiedRequest invoke modifier request) = refl
first_is (pdu.ServerRequest invoke request) = refl
first_is (pdu.ConfirmedResponse invoke answer) = refl
first_is (pdu.HeardResponse invoke answer) = refl
first_is (pdu.ConfirmedError error) = refl
first_is (pdu.HeardError invoke) = refl
first_is (pdu.EventNotification x) = refl
first_is (pdu.Reject x) = refl
first_is (pdu.HeardReject invoke) = refl
first_is (pdu.CancelRequest invoke) = refl
first_is (pdu.CancelResponse invoke) = refl
first_is (pdu.CancelError error) = refl
first_is pdu.HeardOther = refl
first_is (pdu.InitiateRequest proposal) = refl
first_is (pdu.InitiateResponse negotiated) = refl
first_is (pdu.InitiateError error) = refl
first_is pdu.ConcludeRequest = refl
first_is pdu.ConcludeResponse = refl
first_is (pdu.ConcludeError error) = refl

first_of_tag : (n : ℕ) (first : Tag) (invoke : ℕ) (octets : List ℕ) → n < 31 → FirstSays (constructed_tag n) first invoke octets → slice_index octets 0 ≡ 160 + n
unfolding element_octets identifier_octets
first_of_tag n first invoke octets low says = ap (λ (o : List ℕ). slice_index o 0) says.1 ∙ rw (lt-ltb n 31 low) (omega arith)

-- ---- responses and errors as they are spelled

response_is : (invoke : ℕ) (answer : Answer) → (rest : List ℕ) × (pdu_octets (pdu.ConfirmedResponse invoke answer) ≡ element_octets (constructed_tag 1) (element_octets integer_tag (integer_octets (pos invoke)) ++ rest))
response_is invoke answer = (alternative_octets (answers.alternatives widest) (answers.value answer), refl)

error_is : (error : ConfirmedError) → (rest : List ℕ) × (pdu_octets (pdu.ConfirmedError error) ≡ element_octets (constructed_tag 2) (element_octets (primitive_tag 0) (integer_octets (pos error.invoke)) ++ rest))
error_is error =
    let first = member_octets (asn.context 0 asn.unsigned32) (number (pos error.invoke)) in
    let modifier = optional_octets (asn.context 1 asn.unsigned32) (optionally (λ n. number (pos n)) error.modifier) in
    let told = member_octets (asn.context 2 (service_error.form widest)) (service_error.value error.error) in
    (modifier ++ told, ap (element_octets (constructed_tag 2)) (append_assoc first modifier told))

-- ---- the laws

module _ (invoke : ℕ) where
  pub answers_by_octets : (p : Pdu) → HasUnsigned32 p → is_answer invoke p ≡ true → IsAnswer invoke (pdu_octets p)
  answers_by_octets (pdu.ConfirmedResponse other answer) small e =
      subst (λ (n : ℕ). IsAnswer n (pdu_octets (pdu.ConfirmedResponse other answer))) (sym (eqb-true invoke other e)) (small, inl (response_is other answer))
  answers_by_octets (pdu.ConfirmedError error) small e =
      subst (λ (n : ℕ). IsAnswer n (pdu_octets (pdu.ConfirmedError error))) (sym (eqb-true invoke error.invoke e)) (small, inr (error_is error))
  answers_by_octets p small e = absurd (cc e)

  responds : (p : Pdu) → HasUnsigned32 p → invoke < 2 ^ 32 → FirstSays (constructed_tag 1) integer_tag invoke (pdu_octets p) → first_octet p ≡ 161 → is_answer invoke p ≡ true
  responds (pdu.ConfirmedResponse other answer) small little says first =
      let is = response_is other answer in
      let same = contents_told (constructed_tag 1) _ _ (sym says.1 ∙ is.1) in
      eq-eqb invoke other (first_told integer_tag invoke other says.0 is.0 (omega arith) (omega arith) little small same)
  responds p small little says first = absurd (omega (arith, first))

  refuses : (p : Pdu) → HasUnsigned32 p → invoke < 2 ^ 32 → FirstSays (constructed_tag 2) (primitive_tag 0) invoke (pdu_octets p) → first_octet p ≡ 162 → is_answer invoke p ≡ true
  refuses (pdu.ConfirmedError error) small little says first =
      let is = error_is error in
      let same = contents_told (constructed_tag 2) _ _ (sym says.1 ∙ is.1) in
      eq-eqb invoke error.invoke (first_told (primitive_tag 0) invoke error.invoke says.0 is.0 (omega arith) (omega arith) little small same)
  refuses p small little says first = absurd (omega (arith, first))

  pub octets_answer : (p : Pdu) → HasUnsigned32 p → IsAnswer invoke (pdu_octets p) → is_answer invoke p ≡ true
  octets_answer p small is = by_kind is.1
    where
      by_kind : FirstSays (constructed_tag 1) integer_tag invoke (pdu_octets p) ⊎ FirstSays (constructed_tag 2) (primitive_tag 0) invoke (pdu_octets p) → is_answer invoke p ≡ true
      by_kind (inl says) = responds p small is.0 says (sym (first_is p) ∙ first_of_tag 1 integer_tag invoke (pdu_octets p) (omega arith) says)
      by_kind (inr says) = refuses p small is.0 says (sym (first_is p) ∙ first_of_tag 2 (primitive_tag 0) invoke (pdu_octets p) (omega arith) says)

same_test : (a b : Bool) → (a ≡ true → b ≡ true) → (b ≡ true → a ≡ true) → a ≡ b
same_test true b f g = sym (f refl)
same_test false true f g = g refl
same_test false false f g = refl

pub answer_alike : (p q : Pdu) → HasUnsigned32 p → HasUnsigned32 q → pdu_octets p ≡ pdu_octets q → (invoke : ℕ) → is_answer invoke p ≡ is_answer invoke q
answer_alike p q small little e invoke =
    same_test (is_answer invoke p) (is_answer invoke q)
    (λ is. octets_answer invoke q little (subst (IsAnswer invoke) e (answers_by_octets invoke p small is)))
    (λ is. octets_answer invoke p small (subst (IsAnswer invoke) (sym e) (answers_by_octets invoke q little is)))
