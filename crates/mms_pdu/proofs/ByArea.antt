-- A service is that of its area: how it is read, and how it is spelled.
use Rattle.std.proofs.Common.{◌≡◌, ℕ, ◌≤◌, ◌<◌, true, false, List, [], ◌∷◌, ◌++◌, Option, Some, None, Result, Ok, Err, refl, sym, ap, ◌∙◌, arith}
use Rattle.std.specs.Prelude.{is_some}
use Rattle.std.proofs.lemmas.List.{append-nil}
use Rattle.ber_core.specs.declared.element.Lengths.{Lengths}
use Rattle.ber_core.specs.Part.{Part}
use Rattle.ber_forms.specs.declared.unread.Unread.{Unread}
use Rattle.ber_forms.specs.declared.unread.Unread.TheVariants as unread
use Rattle.ber_forms.specs.Fault.{Fault}
use Rattle.ber_forms.specs.Fault as fault
use Rattle.ber_forms.specs.Value.{Value}
use Rattle.ber_forms.specs.Form.{Form, Alternatives}
use Rattle.ber_forms.specs.ByNumber.{form_at, read_as}
use Rattle.ber_forms.specs.Reading.{◌>>=◌, Fails}
use Rattle.ber_forms.specs.Spelling.{alternative_octets}
use Rattle.mms_types.specs.declared.identifier.Edition.{Edition}
use Rattle.mms_types.specs.declared.pdu.Request.{Request}
use Rattle.mms_types.specs.declared.pdu.Answer.{Answer}
use Rattle.mms_types.specs.Spelling.{widest}
use Rattle.pdu_areas.specs.Services.{forms_of}
use Rattle.pdu_areas.specs.Joined.{Share, IsSaid, joined, counted}
use Rattle.pdu_areas.specs.Gives.{read_under, octets_if}
use Rattle.pdu_areas.proofs.Whose.{none_within, no_form, form_there, value_there, octets_own, octets_none}
use Rattle.pdu_assoc.specs.Services.{device_area}
use Rattle.pdu_vars.specs.Services.{variable_area}
use Rattle.pdu_sems.specs.Services.{semaphore_area}
use Rattle.pdu_programs.specs.Services.{domain_area, program_area}
use Rattle.pdu_events.specs.Services.{event_area}
use Rattle.mms_pdu.specs.declared.refusal.Refusal.{Refusal}
use Rattle.mms_pdu.specs.declared.refusal.Refusal.TheVariants as refusal
use Rattle.mms_pdu.specs.Services.{requests, answers, request_shares, one_asks, one_answers}
use Rattle.mms_pdu.specs.Hearing.{asking, and_then, argued, asked_value, served, request_told, refusal_of_argument, Refuses}

-- ---- what is read by the form of a share is what is read by that of all

module _ (lengths : Lengths) (edition : Edition) (invoke : ℕ) (p : Part) (share : Share Request) where
  abbrev Own : Type 0
  Own = form_at p.tag.number (requests.alternatives edition) ≡ form_at p.tag.number (forms_of share.arms edition)

  abbrev told_by : Option Form → Result Value Refusal
  told_by o = and_then (served lengths invoke p o) (λ v. Ok (asked_value invoke v))

  told_own : Own → request_told lengths edition (asking invoke None p) ≡ told_by (form_at p.tag.number (forms_of share.arms edition))
  unfolding request_told
  told_own own = ap told_by own

  pub request_by : (r : Request) → Own → IsSaid share requests → read_under lengths p (form_at p.tag.number (forms_of share.arms edition)) ≡ Ok (Some (share.value r))
      → request_told lengths edition (asking invoke None p) ≡ Ok (asked_value invoke (requests.value r))
  request_by r own said e = told_own own ∙ by_form (form_at p.tag.number (forms_of share.arms edition)) e
    where
      by_read : (q : Result Value Fault) → (q >>= λ v. Ok (Some (Some v))) ≡ Ok (Some (share.value r)) → and_then (argued invoke q) (λ v. Ok (asked_value invoke v)) ≡ Ok (asked_value invoke (requests.value r))
      by_read (Ok v) e =
          let is : Some v ≡ share.value r = cc e in
          ap (λ w. Ok (asked_value invoke w)) (sym (said r v (sym is)))
      by_read (Err fault.malformed) e = absurd cc
      by_read (Err fault.too_deep) e = absurd cc

      by_form : (o : Option Form) → read_under lengths p o ≡ Ok (Some (share.value r)) → told_by o ≡ Ok (asked_value invoke (requests.value r))
      by_form None e = absurd cc
      by_form (Some f) e = by_read (read_as lengths p (Some f)) e

  pub not_offered : Own → read_under lengths p (form_at p.tag.number (forms_of share.arms edition)) ≡ Ok None → request_told lengths edition (asking invoke None p) ≡ Err (refusal.Service invoke)
  not_offered own e = told_own own ∙ by_form (form_at p.tag.number (forms_of share.arms edition)) e
    where
      by_read : (q : Result Value Fault) → (q >>= λ v. Ok (Some (Some v))) ≡ Ok None → and_then (argued invoke q) (λ v. Ok (asked_value invoke v)) ≡ Err (refusal.Service invoke)
      by_read (Ok v) e = absurd cc
      by_read (Err d) e = absurd cc

      by_form : (o : Option Form) → read_under lengths p o ≡ Ok None → told_by o ≡ Err (refusal.Service invoke)
      by_form None e = refl
      by_form (Some f) e = by_read (read_as lengths p (Some f)) e

  refused_by : (e : Fault) → Own → read_under lengths p (form_at p.tag.number (forms_of share.arms edition)) ≡ Err e
      → request_told lengths edition (asking invoke None p) ≡ and_then (argued invoke (Err e)) (λ v. Ok (asked_value invoke v))
  refused_by d own e = told_own own ∙ by_form (form_at p.tag.number (forms_of share.arms edition)) e
    where
      by_read : (q : Result Value Fault) → (q >>= λ v. Ok (Some (Some v))) ≡ Err d
          → and_then (argued invoke q) (λ v. Ok (asked_value invoke v)) ≡ and_then (argued invoke (Err d)) (λ v. Ok (asked_value invoke v))
      by_read (Ok v) e = absurd cc
      by_read (Err f) e =
          let same : f ≡ d = cc e in
          ap (λ (x : Fault). and_then (argued invoke (Err x)) (λ v. Ok (asked_value invoke v))) same

      by_form : (o : Option Form) → read_under lengths p o ≡ Err d → told_by o ≡ and_then (argued invoke (Err d)) (λ v. Ok (asked_value invoke v))
      by_form None e = absurd cc
      by_form (Some f) e = by_read (read_as lengths p (Some f)) e

  pub unread_request : (e : Unread) → Own → Fails e (read_under lengths p (form_at p.tag.number (forms_of share.arms edition)))
      → Refuses (refusal_of_argument invoke e) (request_told lengths edition (asking invoke None p))
  unread_request unread.Memory own e = tt
  unread_request unread.Malformed own e = refused_by fault.malformed own e
  unread_request unread.TooDeep own e = refused_by fault.too_deep own e

-- ---- the areas, by their numbers: 0 to 3, 4 to 18, 19 to 25, 26 to 37, 38 to 45 and 46 to 70

abbrev after_device : List (Share Request)
after_device = variable_area.requests ∷ semaphore_area.requests ∷ domain_area.requests ∷ program_area.requests ∷ event_area.requests ∷ []

abbrev after_variables : List (Share Request)
after_variables = semaphore_area.requests ∷ domain_area.requests ∷ program_area.requests ∷ event_area.requests ∷ []

abbrev after_semaphores : List (Share Request)
after_semaphores = domain_area.requests ∷ program_area.requests ∷ event_area.requests ∷ []

abbrev after_domains : List (Share Request)
after_domains = program_area.requests ∷ event_area.requests ∷ []

abbrev before_semaphores : List (Share Request)
before_semaphores = device_area.requests ∷ variable_area.requests ∷ []

abbrev before_domains : List (Share Request)
before_domains = device_area.requests ∷ variable_area.requests ∷ semaphore_area.requests ∷ []

abbrev before_programs : List (Share Request)
before_programs = device_area.requests ∷ variable_area.requests ∷ semaphore_area.requests ∷ domain_area.requests ∷ []

abbrev before_events : List (Share Request)
before_events = device_area.requests ∷ variable_area.requests ∷ semaphore_area.requests ∷ domain_area.requests ∷ program_area.requests ∷ []

module _ (n : ℕ) (edition : Edition) where
  pub device_form : n ≤ 3 → form_at n (requests.alternatives edition) ≡ form_at n (forms_of device_area.requests.arms edition)
  unfolding requests
  device_form few =
      form_there [] device_area.requests after_device n edition refl (none_within 4 70 (joined after_device) n refl (λ low high. omega (arith, few, low)))

  pub variable_form : 4 ≤ n → n ≤ 18 → form_at n (requests.alternatives edition) ≡ form_at n (forms_of variable_area.requests.arms edition)
  unfolding requests
  variable_form most few =
      form_there (device_area.requests ∷ []) variable_area.requests after_variables n edition
      (none_within 0 3 (joined (device_area.requests ∷ [])) n refl (λ low high. omega (arith, most, high)))
      (none_within 19 70 (joined after_variables) n refl (λ low high. omega (arith, few, low)))

  pub semaphore_form : 19 ≤ n → n ≤ 25 → form_at n (requests.alternatives edition) ≡ form_at n (forms_of semaphore_area.requests.arms edition)
  unfolding requests
  semaphore_form most few =
      form_there before_semaphores semaphore_area.requests after_semaphores n edition
      (none_within 0 18 (joined before_semaphores) n refl (λ low high. omega (arith, most, high)))
      (none_within 26 70 (joined after_semaphores) n refl (λ low high. omega (arith, few, low)))

  pub domain_form : 26 ≤ n → n ≤ 37 → form_at n (requests.alternatives edition) ≡ form_at n (forms_of domain_area.requests.arms edition)
  unfolding requests
  domain_form most few =
      form_there before_domains domain_area.requests after_domains n edition
      (none_within 0 25 (joined before_domains) n refl (λ low high. omega (arith, most, high)))
      (none_within 38 70 (joined after_domains) n refl (λ low high. omega (arith, few, low)))

  pub program_form : 38 ≤ n → n ≤ 45 → form_at n (requests.alternatives edition) ≡ form_at n (forms_of program_area.requests.arms edition)
  unfolding requests
  program_form most few =
      form_there before_programs program_area.requests (event_area.requests ∷ []) n edition
      (none_within 0 37 (joined before_programs) n refl (λ low high. omega (arith, most, high)))
      (none_within 46 70 (joined (event_area.requests ∷ [])) n refl (λ low high. omega (arith, few, low)))

  pub event_form : 46 ≤ n → form_at n (requests.alternatives edition) ≡ form_at n (forms_of event_area.requests.arms edition)
  unfolding requests
  event_form most =
      form_there before_events event_area.requests [] n edition (none_within 0 45 (joined before_events) n refl (λ low high. omega (arith, most, high))) refl

  pub no_request_form : 70 < n → form_at n (requests.alternatives edition) ≡ None
  unfolding requests
  no_request_form many = no_form (joined request_shares) n edition (none_within 0 70 (joined request_shares) n refl (λ low high. omega (arith, many, high)))

-- ---- what an area's requests say

pub device_said : IsSaid device_area.requests requests
unfolding requests
device_said = λ r v. value_there [] device_area.requests after_device r v (one_asks r)

pub variable_said : IsSaid variable_area.requests requests
unfolding requests
variable_said = λ r v. value_there (device_area.requests ∷ []) variable_area.requests after_variables r v (one_asks r)

pub semaphore_said : IsSaid semaphore_area.requests requests
unfolding requests
semaphore_said = λ r v. value_there before_semaphores semaphore_area.requests after_semaphores r v (one_asks r)

pub domain_said : IsSaid domain_area.requests requests
unfolding requests
domain_said = λ r v. value_there before_domains domain_area.requests after_domains r v (one_asks r)

pub program_said : IsSaid program_area.requests requests
unfolding requests
program_said = λ r v. value_there before_programs program_area.requests (event_area.requests ∷ []) r v (one_asks r)

pub event_said : IsSaid event_area.requests requests
unfolding requests
event_said = λ r v. value_there before_events event_area.requests [] r v (one_asks r)

-- ---- how they are spelled: the areas are asked in turn

-- where none of the first five has it, the last does
last_has : (a b c d p o : Option Value) → counted a (counted b (counted c (counted d (counted p (counted o 0))))) ≡ 1 → is_some a ≡ false → is_some b ≡ false → is_some c ≡ false
    → is_some d ≡ false → is_some p ≡ false → is_some o ≡ true
last_has None None None None None None one e f g h i = absurd (omega (arith, one))
last_has None None None None None (Some v) one e f g h i = refl
last_has None None None None (Some v) o one e f g h i = absurd cc
last_has None None None (Some v) p o one e f g h i = absurd cc
last_has None None (Some v) d p o one e f g h i = absurd cc
last_has None (Some v) c d p o one e f g h i = absurd cc
last_has (Some v) b c d p o one e f g h i = absurd cc

-- nothing is appended of an area that doesn't have it
nothing_put : (others : Alternatives) (o : Option Value) (before after : List ℕ) → after ≡ before ++ octets_if others o → is_some o ≡ false → after ≡ before
nothing_put others o before after e none = e ∙ ap (λ (x : List ℕ). before ++ x) (octets_none others o none) ∙ append-nil before

-- what is appended after nothing was
put_next : (old before after octets told : List ℕ) → after ≡ before ++ octets → before ≡ old → octets ≡ told → after ≡ old ++ told
put_next old before after octets told e same is = e ∙ ap (λ (x : List ℕ). x ++ octets) same ∙ ap (λ (x : List ℕ). old ++ x) is

module _ (r : Request) where
  abbrev pub IsSpelled : List ℕ → Type 0
  IsSpelled octets = octets ≡ alternative_octets (requests.alternatives widest) (requests.value r)

  pub device_spelled : is_some (device_area.requests.value r) ≡ true → IsSpelled (octets_if (forms_of device_area.requests.arms widest) (device_area.requests.value r))
  unfolding requests
  device_spelled e = octets_own [] device_area.requests after_device r widest refl (one_asks r) e

  pub variable_spelled : is_some (variable_area.requests.value r) ≡ true → IsSpelled (octets_if (forms_of variable_area.requests.arms widest) (variable_area.requests.value r))
  unfolding requests
  variable_spelled e = octets_own (device_area.requests ∷ []) variable_area.requests after_variables r widest refl (one_asks r) e

  pub semaphore_spelled : is_some (semaphore_area.requests.value r) ≡ true → IsSpelled (octets_if (forms_of semaphore_area.requests.arms widest) (semaphore_area.requests.value r))
  unfolding requests
  semaphore_spelled e = octets_own before_semaphores semaphore_area.requests after_semaphores r widest refl (one_asks r) e

  pub domain_spelled : is_some (domain_area.requests.value r) ≡ true → IsSpelled (octets_if (forms_of domain_area.requests.arms widest) (domain_area.requests.value r))
  unfolding requests
  domain_spelled e = octets_own before_domains domain_area.requests after_domains r widest refl (one_asks r) e

  pub program_spelled : is_some (program_area.requests.value r) ≡ true → IsSpelled (octets_if (forms_of program_area.requests.arms widest) (program_area.requests.value r))
  unfolding requests
  program_spelled e = octets_own before_programs program_area.requests (event_area.requests ∷ []) r widest refl (one_asks r) e

  pub event_spelled : is_some (device_area.requests.value r) ≡ false → is_some (variable_area.requests.value r) ≡ false → is_some (semaphore_area.requests.value r) ≡ false
      → is_some (domain_area.requests.value r) ≡ false → is_some (program_area.requests.value r) ≡ false → IsSpelled (octets_if (forms_of event_area.requests.arms widest) (event_area.requests.value r))
  unfolding requests
  event_spelled e f g h i =
      octets_own before_events event_area.requests [] r widest refl (one_asks r)
      (last_has (device_area.requests.value r) (variable_area.requests.value r) (semaphore_area.requests.value r) (domain_area.requests.value r) (program_area.requests.value r) (event_area.requests.value r) (one_asks r) e f g h i)

module _ (r : Request) (old one : List ℕ) (first : one ≡ old ++ octets_if (forms_of device_area.requests.arms widest) (device_area.requests.value r)) where
  abbrev RequestPut : List ℕ → Type 0
  RequestPut after = after ≡ old ++ alternative_octets (requests.alternatives widest) (requests.value r)

  pub first_put : is_some (device_area.requests.value r) ≡ true → RequestPut one
  first_put e = first ∙ ap (λ (o : List ℕ). old ++ o) (device_spelled r e)

  module _ (two : List ℕ) (second : two ≡ one ++ octets_if (forms_of variable_area.requests.arms widest) (variable_area.requests.value r)) (none : is_some (device_area.requests.value r) ≡ false) where
    none_yet : one ≡ old
    none_yet = nothing_put (forms_of device_area.requests.arms widest) (device_area.requests.value r) old one first none

    pub second_put : is_some (variable_area.requests.value r) ≡ true → RequestPut two
    second_put e = put_next old one two (octets_if (forms_of variable_area.requests.arms widest) (variable_area.requests.value r)) (alternative_octets (requests.alternatives widest) (requests.value r)) second none_yet (variable_spelled r e)

    module _ (three : List ℕ) (third : three ≡ two ++ octets_if (forms_of semaphore_area.requests.arms widest) (semaphore_area.requests.value r)) (no : is_some (variable_area.requests.value r) ≡ false) where
      still_none : two ≡ old
      still_none = nothing_put (forms_of variable_area.requests.arms widest) (variable_area.requests.value r) one two second no ∙ none_yet

      pub third_put : is_some (semaphore_area.requests.value r) ≡ true → RequestPut three
      third_put e = put_next old two three (octets_if (forms_of semaphore_area.requests.arms widest) (semaphore_area.requests.value r)) (alternative_octets (requests.alternatives widest) (requests.value r)) third still_none (semaphore_spelled r e)

      module _ (four : List ℕ) (fourth : four ≡ three ++ octets_if (forms_of domain_area.requests.arms widest) (domain_area.requests.value r)) (not : is_some (semaphore_area.requests.value r) ≡ false) where
        none_still : three ≡ old
        none_still = nothing_put (forms_of semaphore_area.requests.arms widest) (semaphore_area.requests.value r) two three third not ∙ still_none

        pub fourth_put : is_some (domain_area.requests.value r) ≡ true → RequestPut four
        fourth_put e = put_next old three four (octets_if (forms_of domain_area.requests.arms widest) (domain_area.requests.value r)) (alternative_octets (requests.alternatives widest) (requests.value r)) fourth none_still (domain_spelled r e)

        module _ (five : List ℕ) (fifth : five ≡ four ++ octets_if (forms_of program_area.requests.arms widest) (program_area.requests.value r)) (nor : is_some (domain_area.requests.value r) ≡ false) where
          none_even : four ≡ old
          none_even = nothing_put (forms_of domain_area.requests.arms widest) (domain_area.requests.value r) three four fourth nor ∙ none_still

          pub fifth_put : is_some (program_area.requests.value r) ≡ true → RequestPut five
          fifth_put e = put_next old four five (octets_if (forms_of program_area.requests.arms widest) (program_area.requests.value r)) (alternative_octets (requests.alternatives widest) (requests.value r)) fifth none_even (program_spelled r e)

          pub sixth_put : (six : List ℕ) → is_some (program_area.requests.value r) ≡ false → six ≡ five ++ octets_if (forms_of event_area.requests.arms widest) (event_area.requests.value r) → RequestPut six
          sixth_put six e sixth =
              put_next old five six (octets_if (forms_of event_area.requests.arms widest) (event_area.requests.value r)) (alternative_octets (requests.alternatives widest) (requests.value r)) sixth
              (nothing_put (forms_of program_area.requests.arms widest) (program_area.requests.value r) four five fifth e ∙ none_even) (event_spelled r none no not nor e)

abbrev after_device_answers : List (Share Answer)
after_device_answers = variable_area.answers ∷ semaphore_area.answers ∷ domain_area.answers ∷ program_area.answers ∷ event_area.answers ∷ []

abbrev after_variable_answers : List (Share Answer)
after_variable_answers = semaphore_area.answers ∷ domain_area.answers ∷ program_area.answers ∷ event_area.answers ∷ []

abbrev after_semaphore_answers : List (Share Answer)
after_semaphore_answers = domain_area.answers ∷ program_area.answers ∷ event_area.answers ∷ []

abbrev after_domain_answers : List (Share Answer)
after_domain_answers = program_area.answers ∷ event_area.answers ∷ []

abbrev before_semaphore_answers : List (Share Answer)
before_semaphore_answers = device_area.answers ∷ variable_area.answers ∷ []

abbrev before_domain_answers : List (Share Answer)
before_domain_answers = device_area.answers ∷ variable_area.answers ∷ semaphore_area.answers ∷ []

abbrev before_program_answers : List (Share Answer)
before_program_answers = device_area.answers ∷ variable_area.answers ∷ semaphore_area.answers ∷ domain_area.answers ∷ []

abbrev before_event_answers : List (Share Answer)
before_event_answers = device_area.answers ∷ variable_area.answers ∷ semaphore_area.answers ∷ domain_area.answers ∷ program_area.answers ∷ []

module _ (a : Answer) where
  abbrev pub IsAnswered : List ℕ → Type 0
  IsAnswered octets = octets ≡ alternative_octets (answers.alternatives widest) (answers.value a)

  pub device_answered : is_some (device_area.answers.value a) ≡ true → IsAnswered (octets_if (forms_of device_area.answers.arms widest) (device_area.answers.value a))
  unfolding answers
  device_answered e = octets_own [] device_area.answers after_device_answers a widest refl (one_answers a) e

  pub variable_answered : is_some (variable_area.answers.value a) ≡ true → IsAnswered (octets_if (forms_of variable_area.answers.arms widest) (variable_area.answers.value a))
  unfolding answers
  variable_answered e = octets_own (device_area.answers ∷ []) variable_area.answers after_variable_answers a widest refl (one_answers a) e

  pub semaphore_answered : is_some (semaphore_area.answers.value a) ≡ true → IsAnswered (octets_if (forms_of semaphore_area.answers.arms widest) (semaphore_area.answers.value a))
  unfolding answers
  semaphore_answered e = octets_own before_semaphore_answers semaphore_area.answers after_semaphore_answers a widest refl (one_answers a) e

  pub domain_answered : is_some (domain_area.answers.value a) ≡ true → IsAnswered (octets_if (forms_of domain_area.answers.arms widest) (domain_area.answers.value a))
  unfolding answers
  domain_answered e = octets_own before_domain_answers domain_area.answers after_domain_answers a widest refl (one_answers a) e

  pub program_answered : is_some (program_area.answers.value a) ≡ true → IsAnswered (octets_if (forms_of program_area.answers.arms widest) (program_area.answers.value a))
  unfolding answers
  program_answered e = octets_own before_program_answers program_area.answers (event_area.answers ∷ []) a widest refl (one_answers a) e

  pub event_answered : is_some (device_area.answers.value a) ≡ false → is_some (variable_area.answers.value a) ≡ false → is_some (semaphore_area.answers.value a) ≡ false
      → is_some (domain_area.answers.value a) ≡ false → is_some (program_area.answers.value a) ≡ false → IsAnswered (octets_if (forms_of event_area.answers.arms widest) (event_area.answers.value a))
  unfolding answers
  event_answered e f g h i =
      octets_own before_event_answers event_area.answers [] a widest refl (one_answers a)
      (last_has (device_area.answers.value a) (variable_area.answers.value a) (semaphore_area.answers.value a) (domain_area.answers.value a) (program_area.answers.value a) (event_area.answers.value a) (one_answers a) e f g h i)

module _ (a : Answer) (old one : List ℕ) (first : one ≡ old ++ octets_if (forms_of device_area.answers.arms widest) (device_area.answers.value a)) where
  abbrev AnswerPut : List ℕ → Type 0
  AnswerPut after = after ≡ old ++ alternative_octets (answers.alternatives widest) (answers.value a)

  pub first_put_answer : is_some (device_area.answers.value a) ≡ true → AnswerPut one
  first_put_answer e = first ∙ ap (λ (o : List ℕ). old ++ o) (device_answered a e)

  module _ (two : List ℕ) (second : two ≡ one ++ octets_if (forms_of variable_area.answers.arms widest) (variable_area.answers.value a)) (none : is_some (device_area.answers.value a) ≡ false) where
    no_answer_yet : one ≡ old
    no_answer_yet = nothing_put (forms_of device_area.answers.arms widest) (device_area.answers.value a) old one first none

    pub second_put_answer : is_some (variable_area.answers.value a) ≡ true → AnswerPut two
    second_put_answer e = put_next old one two (octets_if (forms_of variable_area.answers.arms widest) (variable_area.answers.value a)) (alternative_octets (answers.alternatives widest) (answers.value a)) second no_answer_yet (variable_answered a e)

    module _ (three : List ℕ) (third : three ≡ two ++ octets_if (forms_of semaphore_area.answers.arms widest) (semaphore_area.answers.value a)) (no : is_some (variable_area.answers.value a) ≡ false) where
      still_no_answer : two ≡ old
      still_no_answer = nothing_put (forms_of variable_area.answers.arms widest) (variable_area.answers.value a) one two second no ∙ no_answer_yet

      pub third_put_answer : is_some (semaphore_area.answers.value a) ≡ true → AnswerPut three
      third_put_answer e = put_next old two three (octets_if (forms_of semaphore_area.answers.arms widest) (semaphore_area.answers.value a)) (alternative_octets (answers.alternatives widest) (answers.value a)) third still_no_answer (semaphore_answered a e)

      module _ (four : List ℕ) (fourth : four ≡ three ++ octets_if (forms_of domain_area.answers.arms widest) (domain_area.answers.value a)) (not : is_some (semaphore_area.answers.value a) ≡ false) where
        no_answer_still : three ≡ old
        no_answer_still = nothing_put (forms_of semaphore_area.answers.arms widest) (semaphore_area.answers.value a) two three third not ∙ still_no_answer

        pub fourth_put_answer : is_some (domain_area.answers.value a) ≡ true → AnswerPut four
        fourth_put_answer e = put_next old three four (octets_if (forms_of domain_area.answers.arms widest) (domain_area.answers.value a)) (alternative_octets (answers.alternatives widest) (answers.value a)) fourth no_answer_still (domain_answered a e)

        module _ (five : List ℕ) (fifth : five ≡ four ++ octets_if (forms_of program_area.answers.arms widest) (program_area.answers.value a)) (nor : is_some (domain_area.answers.value a) ≡ false) where
          no_answer_even : four ≡ old
          no_answer_even = nothing_put (forms_of domain_area.answers.arms widest) (domain_area.answers.value a) three four fourth nor ∙ no_answer_still

          pub fifth_put_answer : is_some (program_area.answers.value a) ≡ true → AnswerPut five
          fifth_put_answer e = put_next old four five (octets_if (forms_of program_area.answers.arms widest) (program_area.answers.value a)) (alternative_octets (answers.alternatives widest) (answers.value a)) fifth no_answer_even (program_answered a e)

          pub sixth_put_answer : (six : List ℕ) → is_some (program_area.answers.value a) ≡ false → six ≡ five ++ octets_if (forms_of event_area.answers.arms widest) (event_area.answers.value a) → AnswerPut six
          sixth_put_answer six e sixth =
              put_next old five six (octets_if (forms_of event_area.answers.arms widest) (event_area.answers.value a)) (alternative_octets (answers.alternatives widest) (answers.value a)) sixth
              (nothing_put (forms_of program_area.answers.arms widest) (program_area.answers.value a) four five fifth e ∙ no_answer_even) (event_answered a none no not nor e)
