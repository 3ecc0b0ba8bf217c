-- A worked example: the recording of seed 1 with two clients and three rounds, octet by octet, with octets typed from ITU-T X.690 and ISO 9506-2.
use Rattle.std.specs.Prelude.{◌≡◌, ℕ, zero, suc, List, [], ◌∷◌, map}
use Rattle.std.proofs.Common.{refl}
use Rattle.ber_core.specs.Spelling.{digits, element_octets, identifier_octets, length_octets}
use Rattle.rand_pcg.specs.Lcg.{Lcg, state_after}
use Rattle.rand_pcg.specs.Pcg.{pcg32}
use Rattle.mms_types.specs.declared.event.CellEvent.{CellEvent}
use Rattle.mms_types.specs.declared.event.CellEvent.TheVariants.{Heard, Tick}
use Rattle.mms_types.specs.declared.pdu.Pdu.TheVariants.{ConfirmedRequest}
use Rattle.pdu_data.specs.Data.{data_alternatives, data_choice}
use Rattle.pdu_names.specs.Names.{names}
use Rattle.pdu_vars.specs.Variables.{accesses, specifications}
use Rattle.mms_pdu.specs.Pdus.{pdu_octets}
use Rattle.mms_pdu.specs.Services.{requests}
use Rattle.cell_stress.specs.Requests.{write}
use Rattle.cell_stress.specs.Stress.{random_of, stress_phases}

abbrev words : Lcg → ℕ → List ℕ
words random zero = []
words random (suc more) = (pcg32 random).0 ∷ words (pcg32 random).1 more

-- PCG's reference code begun so gives these, which are 1, 0, 3, 0, 2 and 3 modulo 4
begins : words (random_of 1) 6 ≡ 2607537577 ∷ 204602440 ∷ 3466066159 ∷ 2183922644 ∷ 2487127282 ∷ 460709347 ∷ []
begins = refl

-- both open their associations, and client 1 makes T
abbrev opens : List CellEvent
opens =
    Heard 1 (168 ∷ 38 ∷ 128 ∷ 3 ∷ 0 ∷ 253 ∷ 232 ∷ 129 ∷ 1 ∷ 10 ∷ 130 ∷ 1 ∷ 10 ∷ 131 ∷ 1 ∷ 5 ∷ 164 ∷ 22 ∷ 128 ∷ 1 ∷ 1 ∷ 129 ∷ 3 ∷ 5 ∷ 241 ∷ 0 ∷ 130 ∷ 12 ∷ 3 ∷ 238 ∷ 28 ∷ 0 ∷ 0 ∷ 4 ∷ 8 ∷ 0 ∷ 0 ∷ 121 ∷ 239 ∷ 24 ∷ []) ∷
    Heard 2 (168 ∷ 38 ∷ 128 ∷ 3 ∷ 0 ∷ 253 ∷ 232 ∷ 129 ∷ 1 ∷ 10 ∷ 130 ∷ 1 ∷ 10 ∷ 131 ∷ 1 ∷ 5 ∷ 164 ∷ 22 ∷ 128 ∷ 1 ∷ 1 ∷ 129 ∷ 3 ∷ 5 ∷ 241 ∷ 0 ∷ 130 ∷ 12 ∷ 3 ∷ 238 ∷ 28 ∷ 0 ∷ 0 ∷ 4 ∷ 8 ∷ 0 ∷ 0 ∷ 121 ∷ 239 ∷ 24 ∷ []) ∷
    Heard 1 (160 ∷ 13 ∷ 2 ∷ 1 ∷ 1 ∷ 181 ∷ 8 ∷ 160 ∷ 3 ∷ 128 ∷ 1 ∷ 84 ∷ 129 ∷ 1 ∷ 1 ∷ []) ∷
    []

-- client 1 writes 1 to V, and client 2 reads it
abbrev first : List CellEvent
first =
    Heard 1 (160 ∷ 19 ∷ 2 ∷ 1 ∷ 2 ∷ 165 ∷ 14 ∷ 160 ∷ 7 ∷ 48 ∷ 5 ∷ 160 ∷ 3 ∷ 128 ∷ 1 ∷ 86 ∷ 160 ∷ 3 ∷ 133 ∷ 1 ∷ 1 ∷ []) ∷
    Heard 2 (160 ∷ 16 ∷ 2 ∷ 1 ∷ 1 ∷ 164 ∷ 11 ∷ 161 ∷ 9 ∷ 160 ∷ 7 ∷ 48 ∷ 5 ∷ 160 ∷ 3 ∷ 128 ∷ 1 ∷ 86 ∷ []) ∷
    Tick 3 ∷
    []

-- client 1 gives T back, which it doesn't own, and client 2 reads V
abbrev second : List CellEvent
second =
    Heard 1 (160 ∷ 10 ∷ 2 ∷ 1 ∷ 3 ∷ 180 ∷ 5 ∷ 160 ∷ 3 ∷ 128 ∷ 1 ∷ 84 ∷ []) ∷
    Heard 2 (160 ∷ 16 ∷ 2 ∷ 1 ∷ 2 ∷ 164 ∷ 11 ∷ 161 ∷ 9 ∷ 160 ∷ 7 ∷ 48 ∷ 5 ∷ 160 ∷ 3 ∷ 128 ∷ 1 ∷ 86 ∷ []) ∷
    Tick 3 ∷
    []

-- client 1 takes T, and client 2 gives it back
abbrev third : List CellEvent
third =
    Heard 1 (160 ∷ 13 ∷ 2 ∷ 1 ∷ 4 ∷ 179 ∷ 8 ∷ 160 ∷ 3 ∷ 128 ∷ 1 ∷ 84 ∷ 131 ∷ 1 ∷ 5 ∷ []) ∷
    Heard 2 (160 ∷ 10 ∷ 2 ∷ 1 ∷ 3 ∷ 180 ∷ 5 ∷ 160 ∷ 3 ∷ 128 ∷ 1 ∷ 84 ∷ []) ∷
    Tick 3 ∷
    []

phases_are : stress_phases 1 2 3 ≡ opens ∷ first ∷ second ∷ third ∷ (Tick 10 ∷ []) ∷ []
unfolding requests names specifications accesses data_choice data_alternatives element_octets identifier_octets length_octets digits state_after
phases_are = refl

-- a number is written in its fewest octets
spelled : map (λ number. pdu_octets (ConfirmedRequest number (write number))) (127 ∷ 128 ∷ 1000 ∷ []) ≡
    (160 ∷ 19 ∷ 2 ∷ 1 ∷ 127 ∷ 165 ∷ 14 ∷ 160 ∷ 7 ∷ 48 ∷ 5 ∷ 160 ∷ 3 ∷ 128 ∷ 1 ∷ 86 ∷ 160 ∷ 3 ∷ 133 ∷ 1 ∷ 127 ∷ []) ∷
    (160 ∷ 21 ∷ 2 ∷ 2 ∷ 0 ∷ 128 ∷ 165 ∷ 15 ∷ 160 ∷ 7 ∷ 48 ∷ 5 ∷ 160 ∷ 3 ∷ 128 ∷ 1 ∷ 86 ∷ 160 ∷ 4 ∷ 133 ∷ 2 ∷ 0 ∷ 128 ∷ []) ∷
    (160 ∷ 21 ∷ 2 ∷ 2 ∷ 3 ∷ 232 ∷ 165 ∷ 15 ∷ 160 ∷ 7 ∷ 48 ∷ 5 ∷ 160 ∷ 3 ∷ 128 ∷ 1 ∷ 86 ∷ 160 ∷ 4 ∷ 133 ∷ 2 ∷ 3 ∷ 232 ∷ []) ∷
    []
unfolding requests names specifications accesses data_choice data_alternatives element_octets identifier_octets length_octets digits
spelled = refl
