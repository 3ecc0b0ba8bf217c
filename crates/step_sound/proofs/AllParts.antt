-- Nothing is needed where all parts are held.
use Rattle.std.specs.Prelude.{◌≡◌, ℕ, ◌<◌, ◌≤◌, nat_lt, ◌==◌, Bool, true, false, ◌&&◌, ◌||◌, Some, is_some, List, [], ◌∷◌, ◌++◌, map, length, refl}
use Rattle.std.specs.List.{flat_map, list_all, list_any}
use Rattle.std.proofs.Common.{ap₂, ◌∙◌, arith}
use Rattle.std.proofs.lemmas.Bool.Decides.{nat_tests}
use Rattle.std.proofs.lemmas.List.Folds.{list_all-append}
use Rattle.mms_types.specs.Actors.{IsAmong, actor_of}
use Rattle.mms_types.specs.declared.event.CellEvent.{CellEvent}
use Rattle.mms_types.specs.declared.event.CellEvent.TheVariants.{Heard, Lost, Tick, Ends, Drain}
use Rattle.mms_types.specs.declared.name_list.ObjectClass.{ObjectClass}
use Rattle.mms_types.specs.declared.name_list.ObjectClass.TheVariants as class
use Rattle.association.specs.declared.negotiation.Association.{Association}
use Rattle.association.specs.declared.negotiation.Association.TheVariants.{Idle, Open}
use Rattle.association.specs.Client.{ClientRow}
use Rattle.parted_state.specs.Cut.{is_in}
use Rattle.parted_state.specs.CutLaws as laws
use Rattle.parted_state.specs.DeviceLaws as device
use Rattle.parted_state.specs.Served as parted
use Rattle.parted_state.specs.ServedLaws as served
use Rattle.step_parts.specs.declared.part.Part.{Part}
use Rattle.step_parts.specs.State.{State}
use Rattle.cell_services.specs.Tables.{Tables, moment_after}
use Rattle.event_cond.specs.Skips.{any_due}
use Rattle.cell_client.specs.Association.{Verdict, Takes, verdict, Replies}
use Rattle.cell_services.specs.Facts.{Question, Now, Live, Owned, Names, class_tables, guard_tables, tables_for, Scoped, Cell, Truth, cell_tables}
use Rattle.cell_services.specs.Services.{InArea, OfDevice, OfVariables, OfSemaphores, area_of, asks_of, more_of, OfDomains, OfEvents, OfInvocations, OfJournals, OfPrograms, reply_in}
use Rattle.cell_services.specs.Serving.{heard_asks, heard_more, loss_asks, services, abort_asks, aborted_meanwhile, evaluation_asks, time_asks, words, more_of_verdict, resolved}
use Rattle.step_parts.specs.Step.{step}
use Rattle.step_parts.specs.Partition.{IsInOrder, cell, parts_of, state_in}
use Rattle.step_parts.specs.Needs.{need, is_held, wants}
use Rattle.step_parts.specs.AfterLaws.{each_framed, each_served, is_device}

pub is_held_there : (parts : List Part) (place : ℕ) → place < length parts → is_held (map Some parts) place ≡ true
is_held_there parts place there = laws.held_below parts place there

-- all of these are tables
abbrev are_tables : List ℕ → Bool
are_tables us = list_all (λ u. nat_lt u 7) us

below : (us : List ℕ) → are_tables us ≡ true → (k : ℕ) → is_in us k ≡ true → k < 7
below [] all k on = absurd (cc on)
below (u ∷ us) all k on = by_test (nat_lt u 7) (u == k) refl refl (below us) all on
  where
    by_test : (b c : Bool) → nat_lt u 7 ≡ b → (u == k) ≡ c → (are_tables us ≡ true → (j : ℕ) → is_in us j ≡ true → j < 7) → (b && are_tables us) ≡ true → (c || is_in us k) ≡ true → k < 7
    by_test false c e f rest h on = absurd (cc h)
    by_test true true e f rest h on = let same = laws.same_number u k f in let small : u < 7 = grind (arith, nat_tests) in omega (arith, same, small)
    by_test true false e f rest h on = rest h k on

both_tables : (us ws : List ℕ) → are_tables us ≡ true → are_tables ws ≡ true → are_tables (us ++ ws) ≡ true
both_tables us ws a b = list_all-append (λ u. nat_lt u 7) us ws ∙ ap₂ (λ (x y : Bool). x && y) a b

class_below : (c : ObjectClass) → are_tables (class_tables c) ≡ true
class_below class.NamedVariable = refl
class_below class.NamedVariableList = refl
class_below class.Semaphore = refl
class_below class.EventCondition = refl
class_below class.EventEnrollment = refl
class_below class.Journal = refl
class_below class.Domain = refl
class_below class.ProgramInvocation = refl
class_below c = refl

guards_below : (guarded : Bool) → are_tables (guard_tables guarded) ≡ true
guards_below true = refl
guards_below false = refl

cells_below : (asked : Bool) → are_tables (cell_tables asked) ≡ true
cells_below true = refl
cells_below false = refl

question_below : (k : Question) → are_tables (tables_for k) ≡ true
question_below Now = refl
question_below (Live true domain) = refl
question_below (Live false domain) = refl
question_below (Scoped domain) = refl
question_below (Owned client guards) = guards_below (list_any is_some guards)
question_below (Names c) = class_below c
question_below (Cell variable) = cells_below (is_some variable)
question_below (Truth cell) = cells_below (is_some cell)

questions_below : (ks : List Question) → are_tables (flat_map tables_for ks) ≡ true
questions_below [] = refl
questions_below (k ∷ ks) = both_tables (tables_for k) (flat_map tables_for ks) (question_below k) (questions_below ks)

area_below : (a : InArea) → are_tables (asks_of a) ≡ true
area_below (OfDevice r) = questions_below r.words
area_below (OfVariables r) = questions_below r.words
area_below (OfDomains r) = questions_below r.words
area_below (OfInvocations r) = questions_below r.words
area_below (OfPrograms r) = questions_below r.words
area_below (OfEvents r) = questions_below r.words
area_below (OfJournals r) = questions_below r.words
area_below (OfSemaphores r) = questions_below r.words

area_more_below : (t : Tables) (row : ClientRow) (a : InArea) → are_tables (more_of t row a) ≡ true
area_more_below t row (OfDevice r) = questions_below (r.more tt row)
area_more_below t row (OfVariables r) = questions_below (r.more t.variables row)
area_more_below t row (OfDomains r) = questions_below (r.more t.domains row)
area_more_below t row (OfInvocations r) = questions_below (r.more (t.domains, t.programs) row)
area_more_below t row (OfPrograms r) = questions_below (r.more t.programs row)
area_more_below t row (OfEvents r) = questions_below (r.more t.events row)
area_more_below t row (OfJournals r) = questions_below (r.more t.journals row)
area_more_below t row (OfSemaphores r) = questions_below (r.more t.semaphores row)

asks_below : (v : Verdict) → are_tables (heard_asks v) ≡ true
asks_below (Takes invoke asked) = area_below (area_of asked)
asks_below (Replies number came) = area_below (reply_in number came)
asks_below v = refl

verdict_below : (t : Tables) (row : ClientRow) (v : Verdict) → are_tables (more_of_verdict t row v) ≡ true
verdict_below t row (Takes invoke asked) = area_more_below t row (area_of asked)
verdict_below t row (Replies number came) = area_more_below t row (reply_in number came)
verdict_below t row v = refl

more_below : (t : Tables) (row : ClientRow) (v : Verdict) → are_tables (heard_more t row v) ≡ true
more_below t row v = verdict_below t row (resolved t row v)

loss_below : (a : Association) → are_tables (loss_asks a) ≡ true
loss_below Idle = refl
loss_below (Open values) = refl

abort_below : (clients : List ℕ) → are_tables (abort_asks clients) ≡ true
abort_below [] = refl
abort_below (client ∷ clients) = refl

evaluation_below : (due : Bool) → are_tables (evaluation_asks due) ≡ true
evaluation_below true = refl
evaluation_below false = refl

time_below : (ms : ℕ) (t : Tables) → are_tables (time_asks ms t) ≡ true
time_below ms t =
    both_tables (evaluation_asks (any_due (moment_after ms t) t.events.conditions)) (abort_asks (aborted_meanwhile ms t))
    (evaluation_below (any_due (moment_after ms t) t.events.conditions)) (abort_below (aborted_meanwhile ms t))

uses_below : (t : Tables) (row : ClientRow) (event : CellEvent) → are_tables (parted.uses cell services t row event) ≡ true
uses_below t row (Heard client octets) =
    both_tables (heard_asks (verdict row octets)) (heard_more t row (verdict row octets) ++ []) (asks_below (verdict row octets))
    (both_tables (heard_more t row (verdict row octets)) [] (more_below t row (verdict row octets)) refl)
uses_below t row (Lost client) = both_tables (loss_asks row.association) [] (loss_below row.association) refl
uses_below t row (Tick ms) =
    both_tables (words (Tick ms)) (time_asks ms t ++ []) refl (both_tables (time_asks ms t) [] (time_below ms t) refl)
uses_below t row event = refl

own_there : (n : ℕ) (event : CellEvent) → IsAmong n event → actor_of event ≤ n
own_there n (Heard client octets) among = among.1
own_there n (Lost client) among = among.1
own_there n (Tick ms) among = omega arith
own_there n (Ends name) among = omega arith
own_there n (Drain client) among = among.1

pub nothing_needed : (s : State) (event : CellEvent) → IsAmong (length s.clients) event → need event (map Some (parts_of s)) ≡ []
nothing_needed s event among =
    laws.all_are_enough parts_of IsInOrder state_in (wants event) (λ u. step u event) (device.cut cell is_device) s (each_framed event s)
    (served.wanted_within cell is_device services event (each_served event) s (own_there (length s.clients) event among)
    (below (parted.uses cell services (cell.tables_of s) (parted.row_of cell services s event) event)
    (uses_below (cell.tables_of s) (parted.row_of cell services s event) event)))
