-- Worked examples of the forms of the services for domains: contents typed from ISO 9506-2 and ITU-T X.690.
use Rattle.std.specs.Prelude.{◌≡◌, ℕ, zero, suc, pos, negsuc, true, false, List, [], ◌∷◌, ◌++◌, map, replicate, Some, None, Result, Ok, Err}
use Rattle.std.proofs.Common.{refl}
use Rattle.ber_core.specs.Leaf.{integer_at}
use Rattle.ber_core.specs.Reading.{definite_at, identifier_at, second_at, third_at, length_at, long_length_at}
use Rattle.ber_core.specs.Spelling.{digits, identifier_octets, length_octets, element_octets}
use Rattle.ber_forms.specs.Fault.{Fault}
use Rattle.ber_forms.specs.Fault as fault
use Rattle.ber_forms.specs.Value.{Value}
use Rattle.ber_forms.specs.Reading.{reading, at_end, integer_in, defaulting, members_by, part_at, next_at, required_part, optional_part, required_by, chosen_by, optional_by, elements_at}
use Rattle.ber_forms.specs.Spelling.{spelling}
use Rattle.mms_types.specs.Errors.{domain_transfer_problem, other}
use Rattle.mms_types.specs.declared.identifier.Edition.TheVariants.{One}
use Rattle.mms_types.specs.declared.domain.DomainState.TheVariants.{Loading, Ready, InUse}
use Rattle.pdu_assoc.specs.ServiceErrors.{numbered}
use Rattle.pdu_names.specs.Editions.{lengths_of}
use Rattle.pdu_names.specs.Names.{identifier}
use Rattle.pdu_names.specs.Kinds.{Kind, null, int32, context, explicit}
use Rattle.pdu_programs.specs.Download.{initiate_download, loaded_segment, terminate_download}
use Rattle.pdu_programs.specs.Upload.{upload_begun, sent_segment}
use Rattle.pdu_programs.specs.Attributes.{domain_attributes}

-- a function answers each row of a table with its second column
abbrev Answers : {A B : Type 0} → (A → B) → List (A × B) → Type 0
Answers f table = map (λ row. f row.0) table ≡ map (λ row. row.1) table

abbrev read : {X : Type 0} → Kind X → List ℕ → Result Value Fault
read k octets = reading (lengths_of One) (k.form One) octets

-- what contents are read as this
abbrev says : {X : Type 0} → Kind X → X → Result Value Fault
says k x = Ok (k.value x)

abbrev written : {X : Type 0} → Kind X → X → List ℕ
written k x = spelling (k.form One) (k.value x)

-- the one element of a service, by its number
abbrev service : {X : Type 0} → ℕ → Kind X → Kind X
service n k = explicit (context n k)

-- octets so many times
abbrev times : ℕ → List ℕ → List ℕ
times zero octets = []
times (suc n) octets = octets ++ times n octets

-- ---- services by their numbers: a load of one segment, the domain's attributes, an upload, and a load that is thrown away

-- a client asks that D1 be loaded
begins : Answers (read (service 26 initiate_download)) (
    (186 ∷ 9 ∷ 128 ∷ 2 ∷ 68 ∷ 49 ∷ 161 ∷ 0 ∷ 130 ∷ 1 ∷ 1 ∷ [], says (service 26 initiate_download) (record { domain = 68 ∷ 49 ∷ []; capabilities = []; sharable = true })) ∷
    (154 ∷ 9 ∷ 128 ∷ 2 ∷ 68 ∷ 49 ∷ 161 ∷ 0 ∷ 130 ∷ 1 ∷ 1 ∷ [], Err fault.malformed) ∷
    (187 ∷ 9 ∷ 128 ∷ 2 ∷ 68 ∷ 49 ∷ 161 ∷ 0 ∷ 130 ∷ 1 ∷ 1 ∷ [], Err fault.malformed) ∷
    [])
unfolding at_end integer_in part_at next_at required_part required_by chosen_by members_by elements_at optional_part optional_by defaulting integer_at definite_at identifier_at second_at third_at length_at long_length_at
begins = refl

-- the server asks for a segment
segments_asked : Answers (read (service 27 identifier)) (
    (155 ∷ 2 ∷ 68 ∷ 49 ∷ [], says (service 27 identifier) (68 ∷ 49 ∷ [])) ∷
    (187 ∷ 2 ∷ 68 ∷ 49 ∷ [], Err fault.malformed) ∷
    [])
unfolding at_end integer_in part_at next_at required_part required_by chosen_by members_by elements_at optional_part optional_by defaulting integer_at definite_at identifier_at second_at third_at length_at long_length_at
segments_asked = refl

-- the client sends it
segment_given : Answers (read (service 27 loaded_segment)) (
    (187 ∷ 7 ∷ 128 ∷ 2 ∷ 170 ∷ 187 ∷ 129 ∷ 1 ∷ 0 ∷ [], says (service 27 loaded_segment) (record { octets = 170 ∷ 187 ∷ []; more = false })) ∷
    [])
unfolding at_end integer_in part_at next_at required_part required_by chosen_by members_by elements_at optional_part optional_by defaulting integer_at definite_at identifier_at second_at third_at length_at long_length_at
segment_given = refl

-- the server asks for the end, without and with a discard
ends_asked : Answers (read (service 28 terminate_download)) (
    (188 ∷ 4 ∷ 128 ∷ 2 ∷ 68 ∷ 49 ∷ [], says (service 28 terminate_download) (record { domain = 68 ∷ 49 ∷ []; discard = None })) ∷
    (188 ∷ 11 ∷ 128 ∷ 2 ∷ 68 ∷ 49 ∷ 161 ∷ 5 ∷ 160 ∷ 3 ∷ 128 ∷ 1 ∷ 3 ∷ [], says (service 28 terminate_download) (record { domain = 68 ∷ 49 ∷ []; discard = Some domain_transfer_problem })) ∷
    [])
unfolding at_end integer_in part_at next_at required_part required_by chosen_by members_by elements_at optional_part optional_by defaulting integer_at definite_at identifier_at second_at third_at length_at long_length_at numbered
ends_asked = refl

-- an upload is begun, and a piece and the end are asked for
uploads_asked : Answers (read (service 29 identifier)) (
    (157 ∷ 2 ∷ 68 ∷ 49 ∷ [], says (service 29 identifier) (68 ∷ 49 ∷ [])) ∷
    [])
unfolding at_end integer_in part_at next_at required_part required_by chosen_by members_by elements_at optional_part optional_by defaulting integer_at definite_at identifier_at second_at third_at length_at long_length_at
uploads_asked = refl

upload_given : Answers (read (service 29 upload_begun)) (
    (189 ∷ 5 ∷ 128 ∷ 1 ∷ 1 ∷ 161 ∷ 0 ∷ [], says (service 29 upload_begun) (record { number = pos 1; capabilities = [] })) ∷
    [])
unfolding at_end integer_in part_at next_at required_part required_by chosen_by members_by elements_at optional_part optional_by defaulting integer_at definite_at identifier_at second_at third_at length_at long_length_at
upload_given = refl

piece_asked : Answers (read (service 30 int32)) (
    (158 ∷ 1 ∷ 1 ∷ [], says (service 30 int32) (pos 1)) ∷
    (190 ∷ 1 ∷ 1 ∷ [], Err fault.malformed) ∷
    [])
unfolding at_end integer_in part_at next_at required_part required_by chosen_by members_by elements_at optional_part optional_by defaulting integer_at definite_at identifier_at second_at third_at length_at long_length_at
piece_asked = refl

piece_given : Answers (read (service 30 sent_segment)) (
    (190 ∷ 7 ∷ 128 ∷ 2 ∷ 170 ∷ 187 ∷ 129 ∷ 1 ∷ 0 ∷ [], says (service 30 sent_segment) (record { octets = 170 ∷ 187 ∷ []; more = false })) ∷
    [])
unfolding at_end integer_in part_at next_at required_part required_by chosen_by members_by elements_at optional_part optional_by defaulting integer_at definite_at identifier_at second_at third_at length_at long_length_at
piece_given = refl

-- numbers above 30 have an identifier of two octets
upload_ended : Answers (read (service 31 int32)) (
    (159 ∷ 31 ∷ 1 ∷ 1 ∷ [], says (service 31 int32) (pos 1)) ∷
    [])
unfolding at_end integer_in part_at next_at required_part required_by chosen_by members_by elements_at optional_part optional_by defaulting integer_at definite_at identifier_at second_at third_at length_at long_length_at
upload_ended = refl

deletion_asked : Answers (read (service 36 identifier)) (
    (159 ∷ 36 ∷ 2 ∷ 68 ∷ 49 ∷ [], says (service 36 identifier) (68 ∷ 49 ∷ [])) ∷
    (191 ∷ 36 ∷ 2 ∷ 68 ∷ 49 ∷ [], Err fault.malformed) ∷
    [])
unfolding at_end integer_in part_at next_at required_part required_by chosen_by members_by elements_at optional_part optional_by defaulting integer_at definite_at identifier_at second_at third_at length_at long_length_at
deletion_asked = refl

attributes_asked : Answers (read (service 37 identifier)) (
    (159 ∷ 37 ∷ 2 ∷ 68 ∷ 49 ∷ [], says (service 37 identifier) (68 ∷ 49 ∷ [])) ∷
    [])
unfolding at_end integer_in part_at next_at required_part required_by chosen_by members_by elements_at optional_part optional_by defaulting integer_at definite_at identifier_at second_at third_at length_at long_length_at
attributes_asked = refl

attributes_given : Answers (read (service 37 domain_attributes)) (
    (191 ∷ 37 ∷ 16 ∷ 160 ∷ 0 ∷ 129 ∷ 1 ∷ 2 ∷ 130 ∷ 1 ∷ 255 ∷ 131 ∷ 1 ∷ 255 ∷ 164 ∷ 0 ∷ 133 ∷ 1 ∷ 0 ∷ [], says (service 37 domain_attributes) (record { capabilities = []; state = Ready; deletable = true; sharable = true; invocations = []; uploads = pos 0 })) ∷
    [])
unfolding at_end integer_in part_at next_at required_part required_by chosen_by members_by elements_at optional_part optional_by defaulting integer_at definite_at identifier_at second_at third_at length_at long_length_at
attributes_given = refl

nothing_given : Answers (read (service 36 null)) (
    (159 ∷ 36 ∷ 0 ∷ [], says (service 36 null) (tt)) ∷
    (159 ∷ 36 ∷ 1 ∷ 0 ∷ [], Err fault.malformed) ∷
    (191 ∷ 36 ∷ 0 ∷ [], Err fault.malformed) ∷
    [])
unfolding at_end integer_in part_at next_at required_part required_by chosen_by members_by elements_at optional_part optional_by defaulting integer_at definite_at identifier_at second_at third_at length_at long_length_at
nothing_given = refl

-- the same, as they are spelled: TRUE is FF
begins_written : Answers (written (service 26 initiate_download)) (
    (record { domain = 68 ∷ 49 ∷ []; capabilities = []; sharable = true }, 186 ∷ 9 ∷ 128 ∷ 2 ∷ 68 ∷ 49 ∷ 161 ∷ 0 ∷ 130 ∷ 1 ∷ 255 ∷ []) ∷
    [])
unfolding element_octets identifier_octets length_octets digits
begins_written = refl

segments_asked_written : Answers (written (service 27 identifier)) (
    (68 ∷ 49 ∷ [], 155 ∷ 2 ∷ 68 ∷ 49 ∷ []) ∷
    [])
unfolding element_octets identifier_octets length_octets digits
segments_asked_written = refl

segment_given_written : Answers (written (service 27 loaded_segment)) (
    (record { octets = 170 ∷ 187 ∷ []; more = false }, 187 ∷ 7 ∷ 128 ∷ 2 ∷ 170 ∷ 187 ∷ 129 ∷ 1 ∷ 0 ∷ []) ∷
    [])
unfolding element_octets identifier_octets length_octets digits
segment_given_written = refl

ends_asked_written : Answers (written (service 28 terminate_download)) (
    (record { domain = 68 ∷ 49 ∷ []; discard = None }, 188 ∷ 4 ∷ 128 ∷ 2 ∷ 68 ∷ 49 ∷ []) ∷
    (record { domain = 68 ∷ 49 ∷ []; discard = Some domain_transfer_problem }, 188 ∷ 11 ∷ 128 ∷ 2 ∷ 68 ∷ 49 ∷ 161 ∷ 5 ∷ 160 ∷ 3 ∷ 128 ∷ 1 ∷ 3 ∷ []) ∷
    [])
unfolding element_octets identifier_octets length_octets digits numbered
ends_asked_written = refl

uploads_asked_written : Answers (written (service 29 identifier)) (
    (68 ∷ 49 ∷ [], 157 ∷ 2 ∷ 68 ∷ 49 ∷ []) ∷
    [])
unfolding element_octets identifier_octets length_octets digits
uploads_asked_written = refl

upload_given_written : Answers (written (service 29 upload_begun)) (
    (record { number = pos 1; capabilities = [] }, 189 ∷ 5 ∷ 128 ∷ 1 ∷ 1 ∷ 161 ∷ 0 ∷ []) ∷
    [])
unfolding element_octets identifier_octets length_octets digits
upload_given_written = refl

piece_asked_written : Answers (written (service 30 int32)) (
    (pos 1, 158 ∷ 1 ∷ 1 ∷ []) ∷
    [])
unfolding element_octets identifier_octets length_octets digits
piece_asked_written = refl

piece_given_written : Answers (written (service 30 sent_segment)) (
    (record { octets = 170 ∷ 187 ∷ []; more = false }, 190 ∷ 7 ∷ 128 ∷ 2 ∷ 170 ∷ 187 ∷ 129 ∷ 1 ∷ 0 ∷ []) ∷
    [])
unfolding element_octets identifier_octets length_octets digits
piece_given_written = refl

upload_ended_written : Answers (written (service 31 int32)) (
    (pos 1, 159 ∷ 31 ∷ 1 ∷ 1 ∷ []) ∷
    [])
unfolding element_octets identifier_octets length_octets digits
upload_ended_written = refl

deletion_asked_written : Answers (written (service 36 identifier)) (
    (68 ∷ 49 ∷ [], 159 ∷ 36 ∷ 2 ∷ 68 ∷ 49 ∷ []) ∷
    [])
unfolding element_octets identifier_octets length_octets digits
deletion_asked_written = refl

attributes_asked_written : Answers (written (service 37 identifier)) (
    (68 ∷ 49 ∷ [], 159 ∷ 37 ∷ 2 ∷ 68 ∷ 49 ∷ []) ∷
    [])
unfolding element_octets identifier_octets length_octets digits
attributes_asked_written = refl

attributes_given_written : Answers (written (service 37 domain_attributes)) (
    (record { capabilities = []; state = Ready; deletable = true; sharable = true; invocations = []; uploads = pos 0 }, 191 ∷ 37 ∷ 16 ∷ 160 ∷ 0 ∷ 129 ∷ 1 ∷ 2 ∷ 130 ∷ 1 ∷ 255 ∷ 131 ∷ 1 ∷ 255 ∷ 164 ∷ 0 ∷ 133 ∷ 1 ∷ 0 ∷ []) ∷
    [])
unfolding element_octets identifier_octets length_octets digits
attributes_given_written = refl

nothing_given_26 : Answers (written (service 26 null)) (
    (tt, 154 ∷ 0 ∷ []) ∷
    [])
unfolding element_octets identifier_octets length_octets digits
nothing_given_26 = refl

nothing_given_28 : Answers (written (service 28 null)) (
    (tt, 156 ∷ 0 ∷ []) ∷
    [])
unfolding element_octets identifier_octets length_octets digits
nothing_given_28 = refl

nothing_given_31 : Answers (written (service 31 null)) (
    (tt, 159 ∷ 31 ∷ 0 ∷ []) ∷
    [])
unfolding element_octets identifier_octets length_octets digits
nothing_given_31 = refl

nothing_given_36 : Answers (written (service 36 null)) (
    (tt, 159 ∷ 36 ∷ 0 ∷ []) ∷
    [])
unfolding element_octets identifier_octets length_octets digits
nothing_given_36 = refl

-- ---- each form at its edges

-- InitiateDownloadSequence-Request: no text, an empty one, one of 64 octets, 16 texts; FALSE, another TRUE, longer lengths
loads : Answers (read initiate_download) (
    (128 ∷ 2 ∷ 68 ∷ 49 ∷ 161 ∷ 0 ∷ 130 ∷ 1 ∷ 0 ∷ [], says initiate_download (record { domain = 68 ∷ 49 ∷ []; capabilities = []; sharable = false })) ∷
    (128 ∷ 2 ∷ 68 ∷ 49 ∷ 161 ∷ 0 ∷ 130 ∷ 1 ∷ 1 ∷ [], says initiate_download (record { domain = 68 ∷ 49 ∷ []; capabilities = []; sharable = true })) ∷
    (128 ∷ 2 ∷ 68 ∷ 49 ∷ 161 ∷ 2 ∷ 26 ∷ 0 ∷ 130 ∷ 1 ∷ 255 ∷ [], says initiate_download (record { domain = 68 ∷ 49 ∷ []; capabilities = [] ∷ []; sharable = true })) ∷
    (128 ∷ 2 ∷ 68 ∷ 49 ∷ 161 ∷ 5 ∷ 26 ∷ 0 ∷ 26 ∷ 1 ∷ 65 ∷ 130 ∷ 1 ∷ 255 ∷ [], says initiate_download (record { domain = 68 ∷ 49 ∷ []; capabilities = [] ∷ (65 ∷ []) ∷ []; sharable = true })) ∷
    (128 ∷ 2 ∷ 68 ∷ 49 ∷ 161 ∷ 4 ∷ 26 ∷ 2 ∷ 32 ∷ 126 ∷ 130 ∷ 1 ∷ 255 ∷ [], says initiate_download (record { domain = 68 ∷ 49 ∷ []; capabilities = (32 ∷ 126 ∷ []) ∷ []; sharable = true })) ∷
    (128 ∷ 2 ∷ 68 ∷ 49 ∷ 161 ∷ 66 ∷ 26 ∷ 64 ∷ (times 64 (65 ∷ []) ++ (130 ∷ 1 ∷ 255 ∷ [])), says initiate_download (record { domain = 68 ∷ 49 ∷ []; capabilities = replicate 64 65 ∷ []; sharable = true })) ∷
    (128 ∷ 2 ∷ 68 ∷ 49 ∷ 161 ∷ 48 ∷ (times 16 (26 ∷ 1 ∷ 65 ∷ []) ++ (130 ∷ 1 ∷ 255 ∷ [])), says initiate_download (record { domain = 68 ∷ 49 ∷ []; capabilities = replicate 16 (65 ∷ []); sharable = true })) ∷
    (128 ∷ 2 ∷ 68 ∷ 49 ∷ 161 ∷ 32 ∷ (times 16 (26 ∷ 0 ∷ []) ++ (130 ∷ 1 ∷ 255 ∷ [])), says initiate_download (record { domain = 68 ∷ 49 ∷ []; capabilities = replicate 16 []; sharable = true })) ∷
    (128 ∷ 129 ∷ 2 ∷ 68 ∷ 49 ∷ 161 ∷ 129 ∷ 3 ∷ 26 ∷ 129 ∷ 0 ∷ 130 ∷ 129 ∷ 1 ∷ 255 ∷ [], says initiate_download (record { domain = 68 ∷ 49 ∷ []; capabilities = [] ∷ []; sharable = true })) ∷
    [])
unfolding at_end integer_in part_at next_at required_part required_by chosen_by members_by elements_at optional_part optional_by defaulting integer_at definite_at identifier_at second_at third_at length_at long_length_at
loads = refl

-- a 17th text, a 65th octet, octets that aren't visible, a text under another tag or constructed, a component missing, twice, out of order or of a wrong length, no identifier, an octet behind
no_loads : Answers (read initiate_download) (
    (128 ∷ 2 ∷ 68 ∷ 49 ∷ 161 ∷ 51 ∷ (times 17 (26 ∷ 1 ∷ 65 ∷ []) ++ (130 ∷ 1 ∷ 255 ∷ [])), Err fault.malformed) ∷
    (128 ∷ 2 ∷ 68 ∷ 49 ∷ 161 ∷ 34 ∷ (times 17 (26 ∷ 0 ∷ []) ++ (130 ∷ 1 ∷ 255 ∷ [])), Err fault.malformed) ∷
    (128 ∷ 2 ∷ 68 ∷ 49 ∷ 161 ∷ 67 ∷ 26 ∷ 65 ∷ (times 65 (65 ∷ []) ++ (130 ∷ 1 ∷ 255 ∷ [])), Err fault.malformed) ∷
    (128 ∷ 2 ∷ 68 ∷ 49 ∷ 161 ∷ 3 ∷ 26 ∷ 1 ∷ 31 ∷ 130 ∷ 1 ∷ 255 ∷ [], Err fault.malformed) ∷
    (128 ∷ 2 ∷ 68 ∷ 49 ∷ 161 ∷ 3 ∷ 26 ∷ 1 ∷ 127 ∷ 130 ∷ 1 ∷ 255 ∷ [], Err fault.malformed) ∷
    (128 ∷ 2 ∷ 68 ∷ 49 ∷ 161 ∷ 3 ∷ 12 ∷ 1 ∷ 65 ∷ 130 ∷ 1 ∷ 255 ∷ [], Err fault.malformed) ∷
    (128 ∷ 2 ∷ 68 ∷ 49 ∷ 161 ∷ 3 ∷ 58 ∷ 1 ∷ 65 ∷ 130 ∷ 1 ∷ 255 ∷ [], Err fault.malformed) ∷
    (128 ∷ 2 ∷ 68 ∷ 49 ∷ 129 ∷ 0 ∷ 130 ∷ 1 ∷ 255 ∷ [], Err fault.malformed) ∷
    ([], Err fault.malformed) ∷
    (161 ∷ 0 ∷ 130 ∷ 1 ∷ 255 ∷ [], Err fault.malformed) ∷
    (128 ∷ 2 ∷ 68 ∷ 49 ∷ 130 ∷ 1 ∷ 255 ∷ [], Err fault.malformed) ∷
    (128 ∷ 2 ∷ 68 ∷ 49 ∷ 161 ∷ 0 ∷ [], Err fault.malformed) ∷
    (128 ∷ 2 ∷ 68 ∷ 49 ∷ 161 ∷ 0 ∷ 161 ∷ 0 ∷ 130 ∷ 1 ∷ 255 ∷ [], Err fault.malformed) ∷
    (161 ∷ 0 ∷ 128 ∷ 2 ∷ 68 ∷ 49 ∷ 130 ∷ 1 ∷ 255 ∷ [], Err fault.malformed) ∷
    (128 ∷ 2 ∷ 68 ∷ 49 ∷ 161 ∷ 0 ∷ 130 ∷ 0 ∷ [], Err fault.malformed) ∷
    (128 ∷ 2 ∷ 68 ∷ 49 ∷ 161 ∷ 0 ∷ 130 ∷ 2 ∷ 0 ∷ 0 ∷ [], Err fault.malformed) ∷
    (128 ∷ 0 ∷ 161 ∷ 0 ∷ 130 ∷ 1 ∷ 255 ∷ [], Err fault.malformed) ∷
    (128 ∷ 2 ∷ 49 ∷ 68 ∷ 161 ∷ 0 ∷ 130 ∷ 1 ∷ 255 ∷ [], Err fault.malformed) ∷
    (128 ∷ 2 ∷ 68 ∷ 49 ∷ 161 ∷ 0 ∷ 130 ∷ 1 ∷ 255 ∷ 131 ∷ 0 ∷ [], Err fault.malformed) ∷
    (128 ∷ 2 ∷ 68 ∷ 49 ∷ 161 ∷ 0 ∷ 130 ∷ 1 ∷ 255 ∷ 0 ∷ [], Err fault.malformed) ∷
    [])
unfolding at_end integer_in part_at next_at required_part required_by chosen_by members_by elements_at optional_part optional_by defaulting integer_at definite_at identifier_at second_at third_at length_at long_length_at
no_loads = refl

-- DownloadSegment-Response: moreFollows is TRUE where it is absent, and may be there; no octets; octets missing, constructed or twice, a component out of order, of a wrong length or not known
segments : Answers (read loaded_segment) (
    (128 ∷ 2 ∷ 170 ∷ 187 ∷ [], says loaded_segment (record { octets = 170 ∷ 187 ∷ []; more = true })) ∷
    (128 ∷ 2 ∷ 170 ∷ 187 ∷ 129 ∷ 1 ∷ 255 ∷ [], says loaded_segment (record { octets = 170 ∷ 187 ∷ []; more = true })) ∷
    (128 ∷ 2 ∷ 170 ∷ 187 ∷ 129 ∷ 1 ∷ 1 ∷ [], says loaded_segment (record { octets = 170 ∷ 187 ∷ []; more = true })) ∷
    (128 ∷ 2 ∷ 170 ∷ 187 ∷ 129 ∷ 1 ∷ 0 ∷ [], says loaded_segment (record { octets = 170 ∷ 187 ∷ []; more = false })) ∷
    (128 ∷ 0 ∷ [], says loaded_segment (record { octets = []; more = true })) ∷
    (128 ∷ 0 ∷ 129 ∷ 1 ∷ 0 ∷ [], says loaded_segment (record { octets = []; more = false })) ∷
    ([], Err fault.malformed) ∷
    (129 ∷ 1 ∷ 0 ∷ [], Err fault.malformed) ∷
    (160 ∷ 2 ∷ 170 ∷ 187 ∷ [], Err fault.malformed) ∷
    (128 ∷ 1 ∷ 170 ∷ 128 ∷ 1 ∷ 187 ∷ [], Err fault.malformed) ∷
    (129 ∷ 1 ∷ 0 ∷ 128 ∷ 0 ∷ [], Err fault.malformed) ∷
    (128 ∷ 0 ∷ 129 ∷ 0 ∷ [], Err fault.malformed) ∷
    (128 ∷ 0 ∷ 129 ∷ 2 ∷ 0 ∷ 0 ∷ [], Err fault.malformed) ∷
    (128 ∷ 0 ∷ 129 ∷ 1 ∷ 0 ∷ 129 ∷ 1 ∷ 0 ∷ [], Err fault.malformed) ∷
    (128 ∷ 0 ∷ 130 ∷ 1 ∷ 0 ∷ [], Err fault.malformed) ∷
    (128 ∷ 0 ∷ 161 ∷ 1 ∷ 0 ∷ [], Err fault.malformed) ∷
    (128 ∷ 2 ∷ 170 ∷ [], Err fault.malformed) ∷
    [])
unfolding at_end integer_in part_at next_at required_part required_by chosen_by members_by elements_at optional_part optional_by defaulting integer_at definite_at identifier_at second_at third_at length_at long_length_at
segments = refl

-- TerminateDownloadSequence-Request: what stands in an error and isn't kept; an error without a class, a class beyond the last, a primitive discard, a name missing, a discard twice or before it
ends : Answers (read terminate_download) (
    (128 ∷ 2 ∷ 68 ∷ 49 ∷ [], says terminate_download (record { domain = 68 ∷ 49 ∷ []; discard = None })) ∷
    (128 ∷ 2 ∷ 68 ∷ 49 ∷ 161 ∷ 5 ∷ 160 ∷ 3 ∷ 128 ∷ 1 ∷ 3 ∷ [], says terminate_download (record { domain = 68 ∷ 49 ∷ []; discard = Some domain_transfer_problem })) ∷
    (128 ∷ 2 ∷ 68 ∷ 49 ∷ 161 ∷ 10 ∷ 160 ∷ 3 ∷ 128 ∷ 1 ∷ 3 ∷ 129 ∷ 1 ∷ 7 ∷ 130 ∷ 0 ∷ [], says terminate_download (record { domain = 68 ∷ 49 ∷ []; discard = Some domain_transfer_problem })) ∷
    (128 ∷ 2 ∷ 68 ∷ 49 ∷ 161 ∷ 5 ∷ 160 ∷ 3 ∷ 132 ∷ 1 ∷ 0 ∷ [], says terminate_download (record { domain = 68 ∷ 49 ∷ []; discard = Some other })) ∷
    ([], Err fault.malformed) ∷
    (161 ∷ 5 ∷ 160 ∷ 3 ∷ 128 ∷ 1 ∷ 3 ∷ [], Err fault.malformed) ∷
    (128 ∷ 2 ∷ 68 ∷ 49 ∷ 161 ∷ 0 ∷ [], Err fault.malformed) ∷
    (128 ∷ 2 ∷ 68 ∷ 49 ∷ 161 ∷ 5 ∷ 160 ∷ 3 ∷ 141 ∷ 1 ∷ 3 ∷ [], Err fault.malformed) ∷
    (128 ∷ 2 ∷ 68 ∷ 49 ∷ 129 ∷ 5 ∷ 160 ∷ 3 ∷ 128 ∷ 1 ∷ 3 ∷ [], Err fault.malformed) ∷
    (128 ∷ 2 ∷ 68 ∷ 49 ∷ 161 ∷ 5 ∷ 160 ∷ 3 ∷ 128 ∷ 1 ∷ 3 ∷ 161 ∷ 5 ∷ 160 ∷ 3 ∷ 128 ∷ 1 ∷ 3 ∷ [], Err fault.malformed) ∷
    (161 ∷ 5 ∷ 160 ∷ 3 ∷ 128 ∷ 1 ∷ 3 ∷ 128 ∷ 2 ∷ 68 ∷ 49 ∷ [], Err fault.malformed) ∷
    [])
unfolding at_end integer_in part_at next_at required_part required_by chosen_by members_by elements_at optional_part optional_by defaulting integer_at definite_at identifier_at second_at third_at length_at long_length_at numbered
ends = refl

-- InitiateUploadSequence-Response: the least and the greatest number, and texts of any number and length; a number missing or beyond 32 bits, texts missing
begun : Answers (read upload_begun) (
    (128 ∷ 1 ∷ 1 ∷ 161 ∷ 0 ∷ [], says upload_begun (record { number = pos 1; capabilities = [] })) ∷
    (128 ∷ 1 ∷ 255 ∷ 161 ∷ 0 ∷ [], says upload_begun (record { number = negsuc 0; capabilities = [] })) ∷
    (128 ∷ 4 ∷ 127 ∷ 255 ∷ 255 ∷ 255 ∷ 161 ∷ 3 ∷ 26 ∷ 1 ∷ 65 ∷ [], says upload_begun (record { number = pos 2147483647; capabilities = (65 ∷ []) ∷ [] })) ∷
    (128 ∷ 4 ∷ 128 ∷ 0 ∷ 0 ∷ 0 ∷ 161 ∷ 0 ∷ [], says upload_begun (record { number = negsuc 2147483647; capabilities = [] })) ∷
    (128 ∷ 1 ∷ 1 ∷ 161 ∷ 67 ∷ 26 ∷ 65 ∷ (times 65 (65 ∷ [])), says upload_begun (record { number = pos 1; capabilities = replicate 65 65 ∷ [] })) ∷
    (128 ∷ 1 ∷ 1 ∷ 161 ∷ 51 ∷ (times 17 (26 ∷ 1 ∷ 65 ∷ [])), says upload_begun (record { number = pos 1; capabilities = replicate 17 (65 ∷ []) })) ∷
    ([], Err fault.malformed) ∷
    (161 ∷ 0 ∷ [], Err fault.malformed) ∷
    (128 ∷ 1 ∷ 1 ∷ [], Err fault.malformed) ∷
    (128 ∷ 5 ∷ 0 ∷ 128 ∷ 0 ∷ 0 ∷ 0 ∷ 161 ∷ 0 ∷ [], Err fault.malformed) ∷
    (128 ∷ 5 ∷ 255 ∷ 127 ∷ 255 ∷ 255 ∷ 255 ∷ 161 ∷ 0 ∷ [], Err fault.malformed) ∷
    (128 ∷ 0 ∷ 161 ∷ 0 ∷ [], Err fault.malformed) ∷
    (128 ∷ 1 ∷ 1 ∷ 161 ∷ 3 ∷ 26 ∷ 1 ∷ 127 ∷ [], Err fault.malformed) ∷
    (161 ∷ 0 ∷ 128 ∷ 1 ∷ 1 ∷ [], Err fault.malformed) ∷
    [])
unfolding at_end integer_in part_at next_at required_part required_by chosen_by members_by elements_at optional_part optional_by defaulting integer_at definite_at identifier_at second_at third_at length_at long_length_at
begun = refl

-- UploadSegment-Request and TerminateUploadSequence-Request: a negative number is of the form
numbers_asked : Answers (read int32) (
    (1 ∷ [], says int32 (pos 1)) ∷
    (255 ∷ [], says int32 (negsuc 0)) ∷
    (0 ∷ [], says int32 (pos 0)) ∷
    (127 ∷ 255 ∷ 255 ∷ 255 ∷ [], says int32 (pos 2147483647)) ∷
    (128 ∷ 0 ∷ 0 ∷ 0 ∷ [], says int32 (negsuc 2147483647)) ∷
    (0 ∷ 0 ∷ 0 ∷ 0 ∷ 0 ∷ 0 ∷ 0 ∷ 1 ∷ [], says int32 (pos 1)) ∷
    ([], Err fault.malformed) ∷
    (0 ∷ 128 ∷ 0 ∷ 0 ∷ 0 ∷ [], Err fault.malformed) ∷
    (255 ∷ 127 ∷ 255 ∷ 255 ∷ 255 ∷ [], Err fault.malformed) ∷
    (0 ∷ 0 ∷ 0 ∷ 0 ∷ 0 ∷ 0 ∷ 0 ∷ 0 ∷ 1 ∷ [], Err fault.malformed) ∷
    [])
unfolding at_end integer_in part_at next_at required_part required_by chosen_by members_by elements_at optional_part optional_by defaulting integer_at definite_at identifier_at second_at third_at length_at long_length_at
numbers_asked = refl

-- UploadSegment-Response: moreFollows has no default
pieces : Answers (read sent_segment) (
    (128 ∷ 2 ∷ 170 ∷ 187 ∷ 129 ∷ 1 ∷ 0 ∷ [], says sent_segment (record { octets = 170 ∷ 187 ∷ []; more = false })) ∷
    (128 ∷ 0 ∷ 129 ∷ 1 ∷ 0 ∷ [], says sent_segment (record { octets = []; more = false })) ∷
    (128 ∷ 1 ∷ 170 ∷ 129 ∷ 1 ∷ 255 ∷ [], says sent_segment (record { octets = 170 ∷ []; more = true })) ∷
    (128 ∷ 2 ∷ 170 ∷ 187 ∷ [], Err fault.malformed) ∷
    (129 ∷ 1 ∷ 0 ∷ [], Err fault.malformed) ∷
    ([], Err fault.malformed) ∷
    (129 ∷ 1 ∷ 0 ∷ 128 ∷ 0 ∷ [], Err fault.malformed) ∷
    (160 ∷ 0 ∷ 129 ∷ 1 ∷ 0 ∷ [], Err fault.malformed) ∷
    [])
unfolding at_end integer_in part_at next_at required_part required_by chosen_by members_by elements_at optional_part optional_by defaulting integer_at definite_at identifier_at second_at third_at length_at long_length_at
pieces = refl

-- DownloadSegment-, InitiateUploadSequence-, DeleteDomain- and GetDomainAttributes-Request
domains_asked : Answers (read identifier) (
    (68 ∷ 49 ∷ [], says identifier (68 ∷ 49 ∷ [])) ∷
    ((times 32 (68 ∷ [])), says identifier (replicate 32 68)) ∷
    ([], Err fault.malformed) ∷
    (49 ∷ 68 ∷ [], Err fault.malformed) ∷
    ((times 33 (68 ∷ [])), Err fault.malformed) ∷
    [])
unfolding at_end integer_in part_at next_at required_part required_by chosen_by members_by elements_at optional_part optional_by defaulting integer_at definite_at identifier_at second_at third_at length_at long_length_at
domains_asked = refl

-- GetDomainAttributes-Response: each state, texts and names, the least and the greatest number
attributes : Answers (read domain_attributes) (
    (160 ∷ 0 ∷ 129 ∷ 1 ∷ 1 ∷ 130 ∷ 1 ∷ 255 ∷ 131 ∷ 1 ∷ 0 ∷ 164 ∷ 0 ∷ 133 ∷ 1 ∷ 0 ∷ [], says domain_attributes (record { capabilities = []; state = Loading; deletable = true; sharable = false; invocations = []; uploads = pos 0 })) ∷
    (160 ∷ 3 ∷ 26 ∷ 1 ∷ 65 ∷ 129 ∷ 1 ∷ 3 ∷ 130 ∷ 1 ∷ 0 ∷ 131 ∷ 1 ∷ 255 ∷ 164 ∷ 6 ∷ 26 ∷ 1 ∷ 80 ∷ 26 ∷ 1 ∷ 81 ∷ 133 ∷ 1 ∷ 127 ∷ [], says domain_attributes (record { capabilities = (65 ∷ []) ∷ []; state = InUse; deletable = false; sharable = true; invocations = (80 ∷ []) ∷ (81 ∷ []) ∷ []; uploads = pos 127 })) ∷
    (160 ∷ 0 ∷ 129 ∷ 1 ∷ 2 ∷ 130 ∷ 1 ∷ 255 ∷ 131 ∷ 1 ∷ 255 ∷ 164 ∷ 0 ∷ 133 ∷ 1 ∷ 128 ∷ [], says domain_attributes (record { capabilities = []; state = Ready; deletable = true; sharable = true; invocations = []; uploads = negsuc 127 })) ∷
    [])
unfolding at_end integer_in part_at next_at required_part required_by chosen_by members_by elements_at optional_part optional_by defaulting integer_at definite_at identifier_at second_at third_at length_at long_length_at
attributes = refl

-- a component missing or twice, a state that there isn't, a value of a wrong length, a name that is none, a number beyond 8 bits
no_attributes : Answers (read domain_attributes) (
    (129 ∷ 1 ∷ 2 ∷ 130 ∷ 1 ∷ 255 ∷ 131 ∷ 1 ∷ 255 ∷ 164 ∷ 0 ∷ 133 ∷ 1 ∷ 0 ∷ [], Err fault.malformed) ∷
    (160 ∷ 0 ∷ 130 ∷ 1 ∷ 255 ∷ 131 ∷ 1 ∷ 255 ∷ 164 ∷ 0 ∷ 133 ∷ 1 ∷ 0 ∷ [], Err fault.malformed) ∷
    (160 ∷ 0 ∷ 129 ∷ 1 ∷ 2 ∷ 131 ∷ 1 ∷ 255 ∷ 164 ∷ 0 ∷ 133 ∷ 1 ∷ 0 ∷ [], Err fault.malformed) ∷
    (160 ∷ 0 ∷ 129 ∷ 1 ∷ 2 ∷ 130 ∷ 1 ∷ 255 ∷ 164 ∷ 0 ∷ 133 ∷ 1 ∷ 0 ∷ [], Err fault.malformed) ∷
    (160 ∷ 0 ∷ 129 ∷ 1 ∷ 2 ∷ 130 ∷ 1 ∷ 255 ∷ 131 ∷ 1 ∷ 255 ∷ 133 ∷ 1 ∷ 0 ∷ [], Err fault.malformed) ∷
    (160 ∷ 0 ∷ 129 ∷ 1 ∷ 2 ∷ 130 ∷ 1 ∷ 255 ∷ 131 ∷ 1 ∷ 255 ∷ 164 ∷ 0 ∷ [], Err fault.malformed) ∷
    (160 ∷ 0 ∷ 160 ∷ 0 ∷ 129 ∷ 1 ∷ 2 ∷ 130 ∷ 1 ∷ 255 ∷ 131 ∷ 1 ∷ 255 ∷ 164 ∷ 0 ∷ 133 ∷ 1 ∷ 0 ∷ [], Err fault.malformed) ∷
    (160 ∷ 0 ∷ 129 ∷ 1 ∷ 2 ∷ 129 ∷ 1 ∷ 2 ∷ 130 ∷ 1 ∷ 255 ∷ 131 ∷ 1 ∷ 255 ∷ 164 ∷ 0 ∷ 133 ∷ 1 ∷ 0 ∷ [], Err fault.malformed) ∷
    (160 ∷ 0 ∷ 129 ∷ 1 ∷ 2 ∷ 130 ∷ 1 ∷ 255 ∷ 130 ∷ 1 ∷ 255 ∷ 131 ∷ 1 ∷ 255 ∷ 164 ∷ 0 ∷ 133 ∷ 1 ∷ 0 ∷ [], Err fault.malformed) ∷
    (160 ∷ 0 ∷ 129 ∷ 1 ∷ 2 ∷ 130 ∷ 1 ∷ 255 ∷ 131 ∷ 1 ∷ 255 ∷ 131 ∷ 1 ∷ 255 ∷ 164 ∷ 0 ∷ 133 ∷ 1 ∷ 0 ∷ [], Err fault.malformed) ∷
    (160 ∷ 0 ∷ 129 ∷ 1 ∷ 2 ∷ 130 ∷ 1 ∷ 255 ∷ 131 ∷ 1 ∷ 255 ∷ 164 ∷ 0 ∷ 164 ∷ 0 ∷ 133 ∷ 1 ∷ 0 ∷ [], Err fault.malformed) ∷
    (160 ∷ 0 ∷ 129 ∷ 1 ∷ 2 ∷ 130 ∷ 1 ∷ 255 ∷ 131 ∷ 1 ∷ 255 ∷ 164 ∷ 0 ∷ 133 ∷ 1 ∷ 0 ∷ 133 ∷ 1 ∷ 0 ∷ [], Err fault.malformed) ∷
    (160 ∷ 0 ∷ 129 ∷ 1 ∷ 0 ∷ 130 ∷ 1 ∷ 255 ∷ 131 ∷ 1 ∷ 255 ∷ 164 ∷ 0 ∷ 133 ∷ 1 ∷ 0 ∷ [], Err fault.malformed) ∷
    (160 ∷ 0 ∷ 129 ∷ 1 ∷ 4 ∷ 130 ∷ 1 ∷ 255 ∷ 131 ∷ 1 ∷ 255 ∷ 164 ∷ 0 ∷ 133 ∷ 1 ∷ 0 ∷ [], Err fault.malformed) ∷
    (160 ∷ 0 ∷ 129 ∷ 1 ∷ 255 ∷ 130 ∷ 1 ∷ 255 ∷ 131 ∷ 1 ∷ 255 ∷ 164 ∷ 0 ∷ 133 ∷ 1 ∷ 0 ∷ [], Err fault.malformed) ∷
    (160 ∷ 0 ∷ 129 ∷ 0 ∷ 130 ∷ 1 ∷ 255 ∷ 131 ∷ 1 ∷ 255 ∷ 164 ∷ 0 ∷ 133 ∷ 1 ∷ 0 ∷ [], Err fault.malformed) ∷
    (160 ∷ 0 ∷ 129 ∷ 1 ∷ 2 ∷ 130 ∷ 0 ∷ 131 ∷ 1 ∷ 255 ∷ 164 ∷ 0 ∷ 133 ∷ 1 ∷ 0 ∷ [], Err fault.malformed) ∷
    (160 ∷ 0 ∷ 129 ∷ 1 ∷ 2 ∷ 130 ∷ 1 ∷ 255 ∷ 131 ∷ 2 ∷ 0 ∷ 0 ∷ 164 ∷ 0 ∷ 133 ∷ 1 ∷ 0 ∷ [], Err fault.malformed) ∷
    (160 ∷ 0 ∷ 129 ∷ 1 ∷ 2 ∷ 130 ∷ 1 ∷ 255 ∷ 131 ∷ 1 ∷ 255 ∷ 164 ∷ 3 ∷ 26 ∷ 1 ∷ 49 ∷ 133 ∷ 1 ∷ 0 ∷ [], Err fault.malformed) ∷
    (160 ∷ 0 ∷ 129 ∷ 1 ∷ 2 ∷ 130 ∷ 1 ∷ 255 ∷ 131 ∷ 1 ∷ 255 ∷ 164 ∷ 2 ∷ 26 ∷ 0 ∷ 133 ∷ 1 ∷ 0 ∷ [], Err fault.malformed) ∷
    (160 ∷ 0 ∷ 129 ∷ 1 ∷ 2 ∷ 130 ∷ 1 ∷ 255 ∷ 131 ∷ 1 ∷ 255 ∷ 164 ∷ 0 ∷ 133 ∷ 2 ∷ 0 ∷ 128 ∷ [], Err fault.malformed) ∷
    (160 ∷ 0 ∷ 129 ∷ 1 ∷ 2 ∷ 130 ∷ 1 ∷ 255 ∷ 131 ∷ 1 ∷ 255 ∷ 164 ∷ 0 ∷ 133 ∷ 2 ∷ 255 ∷ 127 ∷ [], Err fault.malformed) ∷
    (128 ∷ 0 ∷ 129 ∷ 1 ∷ 2 ∷ 130 ∷ 1 ∷ 255 ∷ 131 ∷ 1 ∷ 255 ∷ 164 ∷ 0 ∷ 133 ∷ 1 ∷ 0 ∷ [], Err fault.malformed) ∷
    ([], Err fault.malformed) ∷
    [])
unfolding at_end integer_in part_at next_at required_part required_by chosen_by members_by elements_at optional_part optional_by defaulting integer_at definite_at identifier_at second_at third_at length_at long_length_at
no_attributes = refl

-- ---- what is spelled

loads_written : Answers (written initiate_download) (
    (record { domain = 68 ∷ 49 ∷ []; capabilities = []; sharable = false }, 128 ∷ 2 ∷ 68 ∷ 49 ∷ 161 ∷ 0 ∷ 130 ∷ 1 ∷ 0 ∷ []) ∷
    (record { domain = 68 ∷ 49 ∷ []; capabilities = [] ∷ (65 ∷ []) ∷ []; sharable = true }, 128 ∷ 2 ∷ 68 ∷ 49 ∷ 161 ∷ 5 ∷ 26 ∷ 0 ∷ 26 ∷ 1 ∷ 65 ∷ 130 ∷ 1 ∷ 255 ∷ []) ∷
    (record { domain = 68 ∷ 49 ∷ []; capabilities = replicate 16 (65 ∷ []); sharable = true }, 128 ∷ 2 ∷ 68 ∷ 49 ∷ 161 ∷ 48 ∷ (times 16 (26 ∷ 1 ∷ 65 ∷ []) ++ (130 ∷ 1 ∷ 255 ∷ []))) ∷
    [])
unfolding element_octets identifier_octets length_octets digits
loads_written = refl

-- moreFollows is written where it is TRUE too
segments_written : Answers (written loaded_segment) (
    (record { octets = 170 ∷ 187 ∷ []; more = true }, 128 ∷ 2 ∷ 170 ∷ 187 ∷ 129 ∷ 1 ∷ 255 ∷ []) ∷
    (record { octets = 170 ∷ 187 ∷ []; more = false }, 128 ∷ 2 ∷ 170 ∷ 187 ∷ 129 ∷ 1 ∷ 0 ∷ []) ∷
    (record { octets = []; more = true }, 128 ∷ 0 ∷ 129 ∷ 1 ∷ 255 ∷ []) ∷
    [])
unfolding element_octets identifier_octets length_octets digits
segments_written = refl

ends_written : Answers (written terminate_download) (
    (record { domain = 68 ∷ 49 ∷ []; discard = None }, 128 ∷ 2 ∷ 68 ∷ 49 ∷ []) ∷
    (record { domain = 68 ∷ 49 ∷ []; discard = Some domain_transfer_problem }, 128 ∷ 2 ∷ 68 ∷ 49 ∷ 161 ∷ 5 ∷ 160 ∷ 3 ∷ 128 ∷ 1 ∷ 3 ∷ []) ∷
    [])
unfolding element_octets identifier_octets length_octets digits numbered
ends_written = refl

begun_written : Answers (written upload_begun) (
    (record { number = pos 1; capabilities = [] }, 128 ∷ 1 ∷ 1 ∷ 161 ∷ 0 ∷ []) ∷
    (record { number = pos 2147483647; capabilities = (65 ∷ []) ∷ [] }, 128 ∷ 4 ∷ 127 ∷ 255 ∷ 255 ∷ 255 ∷ 161 ∷ 3 ∷ 26 ∷ 1 ∷ 65 ∷ []) ∷
    (record { number = negsuc 0; capabilities = [] }, 128 ∷ 1 ∷ 255 ∷ 161 ∷ 0 ∷ []) ∷
    [])
unfolding element_octets identifier_octets length_octets digits
begun_written = refl

pieces_written : Answers (written sent_segment) (
    (record { octets = 170 ∷ 187 ∷ []; more = true }, 128 ∷ 2 ∷ 170 ∷ 187 ∷ 129 ∷ 1 ∷ 255 ∷ []) ∷
    (record { octets = []; more = false }, 128 ∷ 0 ∷ 129 ∷ 1 ∷ 0 ∷ []) ∷
    [])
unfolding element_octets identifier_octets length_octets digits
pieces_written = refl

attributes_written : Answers (written domain_attributes) (
    (record { capabilities = []; state = Loading; deletable = true; sharable = false; invocations = []; uploads = pos 0 }, 160 ∷ 0 ∷ 129 ∷ 1 ∷ 1 ∷ 130 ∷ 1 ∷ 255 ∷ 131 ∷ 1 ∷ 0 ∷ 164 ∷ 0 ∷ 133 ∷ 1 ∷ 0 ∷ []) ∷
    (record { capabilities = (65 ∷ []) ∷ []; state = InUse; deletable = false; sharable = true; invocations = (80 ∷ []) ∷ (81 ∷ []) ∷ []; uploads = pos 127 }, 160 ∷ 3 ∷ 26 ∷ 1 ∷ 65 ∷ 129 ∷ 1 ∷ 3 ∷ 130 ∷ 1 ∷ 0 ∷ 131 ∷ 1 ∷ 255 ∷ 164 ∷ 6 ∷ 26 ∷ 1 ∷ 80 ∷ 26 ∷ 1 ∷ 81 ∷ 133 ∷ 1 ∷ 127 ∷ []) ∷
    [])
unfolding element_octets identifier_octets length_octets digits
attributes_written = refl
