-- What clients send is of its form.
use Rattle.std.proofs.Common.{◌≤ℤ◌, ◌+◌, ◌%◌, ◌==◌, Bool, true, false, if◌then◌else◌, ℕ, pos, List, [], ◌∷◌, ◌<◌, ◌^◌, ◌≤◌, refl, arith}
use Rattle.std.proofs.lemmas.Bool.{le-leb}
use Rattle.ber_forms.specs.Value.{Value, chosen, done, given, number, parts, slot, text}
use Rattle.mms_types.specs.declared.identifier.Edition.TheVariants.{One}
use Rattle.mms_types.specs.declared.pdu.Pdu.TheVariants.{ConfirmedRequest, InitiateRequest}
use Rattle.mms_pdu.specs.Asking.{IsAsking}
use Rattle.mms_pdu.specs.Services.{requests}
use Rattle.pdu_data.specs.Data.{data_alternatives, data_choice}
use Rattle.pdu_names.specs.Names.{names}
use Rattle.pdu_vars.specs.Variables.{accesses, specifications}
use Rattle.cell_stress.specs.Requests.{asked, define, invoke_of, proposal, read, relinquish, take, write}

-- the variable, as a list has it
abbrev named : List Value
named = parts (slot (given (chosen 0 (chosen 0 (text (86 ∷ []))))) done) ∷ []

fits : (n : ℕ) → n < 2 ^ 32 → (pos 0 ≤ℤ pos n) × (pos n ≤ℤ pos 4294967295)
fits n few = (record { le = rw (le-leb 0 n (omega arith)) tt }, record { le = rw (le-leb n 4294967295 (omega (arith, few))) tt })

pub defines : (invoke : ℕ) → invoke < 2 ^ 32 → IsAsking One (ConfirmedRequest invoke define)
unfolding requests names specifications accesses data_choice data_alternatives
defines invoke few = (fits invoke few, ((refl, ((record { le = tt }, record { le = tt }), tt)), tt))

pub takes : (invoke : ℕ) → invoke < 2 ^ 32 → IsAsking One (ConfirmedRequest invoke take)
unfolding requests names specifications accesses data_choice data_alternatives
takes invoke few = (fits invoke few, ((refl, (tt, ((record { le = tt }, record { le = tt }), ((record { le = tt }, record { le = tt }), (tt, (tt, (tt, (tt, tt)))))))), tt))

pub relinquishes : (invoke : ℕ) → invoke < 2 ^ 32 → IsAsking One (ConfirmedRequest invoke relinquish)
unfolding requests names specifications accesses data_choice data_alternatives
relinquishes invoke few = (fits invoke few, ((refl, (tt, tt)), tt))

pub reads : (invoke : ℕ) → invoke < 2 ^ 32 → IsAsking One (ConfirmedRequest invoke read)
unfolding requests names specifications accesses data_choice data_alternatives
reads invoke few = (fits invoke few, ((tt, ((named, refl, ((refl, tt), tt), refl), tt)), tt))

pub writes : (invoke round : ℕ) → invoke < 2 ^ 32 → round ≤ 1000 → IsAsking One (ConfirmedRequest invoke (write round))
unfolding requests names specifications accesses data_choice data_alternatives
writes invoke round few most = (fits invoke few, (((named, refl, ((refl, tt), tt), refl), ((chosen 5 (number (pos round)) ∷ [], refl, ((record { le = tt }, record { le = rw (le-leb round 9223372036854775807 (omega (arith, most))) tt }), tt), refl), tt)), tt))

pub opens : IsAsking One (InitiateRequest proposal)
unfolding requests names specifications accesses data_choice data_alternatives
opens = ((record { le = tt }, record { le = tt }), ((record { le = tt }, record { le = tt }), ((record { le = tt }, record { le = tt }), ((record { le = tt }, record { le = tt }), (((record { le = tt }, record { le = tt }), ((refl, refl, refl), ((refl, refl, refl), tt))), tt)))))

pub asks : (invoke word round : ℕ) → invoke < 2 ^ 32 → round ≤ 1000 → IsAsking One (ConfirmedRequest invoke (asked word round))
asks invoke word round few most = by (word % 4 == 0) (word % 4 == 1) (word % 4 == 2)
  where
    by : (a b c : Bool) → IsAsking One (ConfirmedRequest invoke (if a then read else if b then write round else if c then take else relinquish))
    by true b c = reads invoke few
    by false true c = writes invoke round few most
    by false false true = takes invoke few
    by false false false = relinquishes invoke few

pub invokes : (client round : ℕ) → round ≤ 1000 → invoke_of client round < 2 ^ 32
invokes client round most = by (client == 1)
  where
    by : (b : Bool) → (if b then round + 1 else round) < 2 ^ 32
    by true = omega (arith, most)
    by false = omega (arith, most)
