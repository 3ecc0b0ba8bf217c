-- How long the PDUs are that clients send, and which of them ask something.
use Rattle.std.proofs.Common.{◌≡◌, ℕ, pos, ◌+◌, ◌≤◌, ◌<◌, ◌%◌, ◌==◌, Bool, true, false, if◌then◌else◌, List, [], ◌∷◌, ◌++◌, length, length-append, refl, ap, arith}
use Rattle.ber_core.specs.declared.element.Tag.{Tag}
use Rattle.ber_core.specs.Spelling.{digits, element_octets, identifier_octets, integer_octets, length_octets}
use Rattle.ber_core.proofs.Short.{element}
use Rattle.ber_core.proofs.Written.{integer_few}
use Rattle.ber_forms.specs.Spelling.{alternative_octets}
use Rattle.mms_types.specs.Spelling.{widest}
use Rattle.mms_types.specs.declared.pdu.Request.{Request}
use Rattle.mms_types.specs.declared.pdu.Pdu.TheVariants.{ConfirmedRequest, InitiateRequest}
use Rattle.pdu_names.specs.Names.{names}
use Rattle.pdu_data.specs.Data.{data_alternatives, data_choice}
use Rattle.pdu_vars.specs.Variables.{accesses, specifications}
use Rattle.mms_pdu.specs.Answering.{constructed_tag, integer_tag, primitive_tag}
use Rattle.mms_pdu.specs.Pdus.{pdu_octets}
use Rattle.mms_pdu.specs.Services.{requests}
use Rattle.cell_stress.specs.Counts.{asks}
use Rattle.cell_stress.specs.Requests.{asked, define, proposal, read, relinquish, take, write}

-- an element whose contents are few
small : (t : Tag) (c : List ℕ) (n : ℕ) → t.number < 31 → length c ≤ n → n < 128 → length (element_octets t c) ≡ 2 + length c
small t c n low few short = let whole = ap length (element t c low (omega (arith, few, short))) in omega (arith, whole)

-- the service of a request
abbrev service : Request → List ℕ
service request = alternative_octets (requests.alternatives widest) (requests.value request)

request_is : (invoke : ℕ) (request : Request) → pdu_octets (ConfirmedRequest invoke request) ≡ element_octets (constructed_tag 0) (element_octets integer_tag (integer_octets (pos invoke)) ++ service request)
request_is invoke request = refl

define_is : length (service define) ≡ 10
unfolding requests names specifications accesses data_choice data_alternatives element_octets identifier_octets length_octets digits
define_is = refl

read_is : length (service read) ≡ 13
unfolding requests names specifications accesses data_choice data_alternatives element_octets identifier_octets length_octets digits
read_is = refl

take_is : length (service take) ≡ 10
unfolding requests names specifications accesses data_choice data_alternatives element_octets identifier_octets length_octets digits
take_is = refl

relinquish_is : length (service relinquish) ≡ 7
unfolding requests names specifications accesses data_choice data_alternatives element_octets identifier_octets length_octets digits
relinquish_is = refl

abbrev number_written : ℕ → List ℕ
number_written round = element_octets (constructed_tag 0) (element_octets (primitive_tag 5) (integer_octets (pos round)) ++ [])

write_is : (round : ℕ) → service (write round) ≡ element_octets (constructed_tag 5) ((160 ∷ 7 ∷ 48 ∷ 5 ∷ 160 ∷ 3 ∷ 128 ∷ 1 ∷ 86 ∷ []) ++ number_written round)
unfolding requests names specifications accesses data_choice data_alternatives element_octets identifier_octets length_octets digits
write_is round = refl

write_few : (round : ℕ) → length (service (write round)) ≤ 30
write_few round =
    let few = integer_few (pos round) in
    let one = small (primitive_tag 5) (integer_octets (pos round)) 8 (omega arith) few (omega arith) in
    let alone = length-append (element_octets (primitive_tag 5) (integer_octets (pos round))) [] in
    let two = small (constructed_tag 0) (element_octets (primitive_tag 5) (integer_octets (pos round)) ++ []) 10 (omega arith) (omega (arith, one, alone, few)) (omega arith) in
    let three = small (constructed_tag 5) ((160 ∷ 7 ∷ 48 ∷ 5 ∷ 160 ∷ 3 ∷ 128 ∷ 1 ∷ 86 ∷ []) ++ number_written round) 21 (omega arith) (omega (arith, one, alone, two, few)) (omega arith) in
    let whole = ap length (write_is round) in
    omega (arith, few, one, alone, two, three, whole)

pub asked_few : (word round : ℕ) → length (service (asked word round)) ≤ 30
asked_few word round = by (word % 4 == 0) (word % 4 == 1) (word % 4 == 2)
  where
    by : (a b c : Bool) → length (service (if a then read else if b then write round else if c then take else relinquish)) ≤ 30
    by true b c = let n = read_is in omega (arith, n)
    by false true c = write_few round
    by false false true = let n = take_is in omega (arith, n)
    by false false false = let n = relinquish_is in omega (arith, n)

-- a confirmed request of few octets
pub request_few : (invoke : ℕ) (request : Request) → length (service request) ≤ 30 → (1 ≤ length (pdu_octets (ConfirmedRequest invoke request))) × (length (pdu_octets (ConfirmedRequest invoke request)) ≤ 65000)
request_few invoke request few =
    let number = integer_few (pos invoke) in
    let one = small integer_tag (integer_octets (pos invoke)) 8 (omega arith) number (omega arith) in
    let both = length-append (element_octets integer_tag (integer_octets (pos invoke))) (service request) in
    let two = small (constructed_tag 0) (element_octets integer_tag (integer_octets (pos invoke)) ++ service request) 40 (omega arith) (omega (arith, number, one, both, few)) (omega arith) in
    let whole = ap length (request_is invoke request) in
    (omega (arith, two, whole), omega (arith, number, one, both, few, two, whole))

pub define_few : length (service define) ≤ 30
define_few = let n = define_is in omega (arith, n)

pub initiate_is : length (pdu_octets (InitiateRequest proposal)) ≡ 40
unfolding requests names specifications accesses data_choice data_alternatives element_octets identifier_octets length_octets digits
initiate_is = refl

-- ---- which PDUs ask something that is to be confirmed

pub request_asks : (invoke : ℕ) (request : Request) → asks (pdu_octets (ConfirmedRequest invoke request)) ≡ true
unfolding element_octets identifier_octets
request_asks invoke request = refl

pub initiate_asks : asks (pdu_octets (InitiateRequest proposal)) ≡ false
unfolding element_octets identifier_octets
initiate_asks = refl
