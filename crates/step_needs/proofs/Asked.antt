-- What an event needs, as code finds it.
use Rattle.std.specs.Prelude.{◌≡◌, ◌≢◌, ℕ, ◌==◌, ◌||◌, Bool, true, false, Option, None, Some, option_and_then, is_some, List, [], ◌∷◌, ◌++◌, length, if◌then◌else◌, refl}
use Rattle.std.specs.List.{flat_map, list_any}
use Rattle.std.specs.Option.{option_copied, option_map_or}
use Rattle.std.proofs.Common.{Bor, ap, sym, ◌∙◌, subst}
use Rattle.std.proofs.lemmas.List.{map-append}
use Rattle.mms_types.specs.declared.moment.Moment.{Moment}
use Rattle.mms_types.specs.declared.pdu.Request.{Request}
use Rattle.parted_state.specs.Cut.{are_held, missing}
use Rattle.parted_state.specs.Served as parted
use Rattle.parted_state.specs.Sets.{IsSetOf}
use Rattle.mms_time.specs.Deadlines.{next_due}
use Rattle.mms_time.specs.Semaphores.{Rows}
use Rattle.sem_ticks.specs.Ticks.{Ticking, entries_left, met, next_met, ticked}
use Rattle.sem_ticks.proofs.Settling.{settle-none}
use Rattle.sem_ticks.specs.declared.ticks.Happening.{Happening}
use Rattle.sem_ticks.specs.declared.ticks.Happening.TheVariants as happens
use Rattle.cell_client.specs.Facts.{Question, Scoped}
use Rattle.cell_ticks.specs.Deadlines as device
use Rattle.cell_ticks.specs.Ticks.{aborted}
use Rattle.cell_ticks.proofs.Coded.{due_is}
use Rattle.event_cond.specs.Conditions.{Rows as Conditions}
use Rattle.event_cond.specs.Skips.{any_due}
use Rattle.step_parts.specs.declared.part.Part.{Part}
use Rattle.cell_services.specs.Facts.{cell_tables, domain_tables, scope_tables, tables_for}
use Rattle.cell_services.specs.Others.{is_abort}
use Rattle.cell_services.specs.Services.{InArea, area_of, asks_of, request_asks}
use Rattle.cell_services.specs.Serving.{abort_asks}
use Rattle.cell_services.specs.Tables.{domains_table, journals_table, variables_table}
use Rattle.step_parts.specs.Needs.{placed, two_stages}
use Rattle.step_parts.specs.Partition.{cell}
use Rattle.step_parts.proofs.Needed.{first_by_test, next_by_test}

-- ---- a request's words

-- domains and cells have their tables' numbers
pub asked_places : (n : ℕ) (of_domain of_cell : Bool) → placed n (domain_tables of_domain ++ (cell_tables of_cell ++ [])) ≡ domain_tables of_domain ++ cell_tables of_cell
asked_places n true true = refl
asked_places n true false = refl
asked_places n false true = refl
asked_places n false false = refl

-- a request uses its area's own tables, and those that its words ask
pub asks_parts : (n : ℕ) (r : Request) (a : InArea) (own : List ℕ) (of_domain of_cell : Bool) (set : List ℕ) → a ≡ area_of r
    → asks_of a ≡ own ++ (domain_tables of_domain ++ (cell_tables of_cell ++ [])) → IsSetOf set (placed n own ++ (domain_tables of_domain ++ cell_tables of_cell))
    → IsSetOf set (placed n (request_asks r))
asks_parts n r a own of_domain of_cell set of is =
    subst (IsSetOf set)
    (ap (λ (l : List ℕ). placed n own ++ l) (sym (asked_places n of_domain of_cell))
    ∙ sym (map-append (parted.table_place cell n) own (domain_tables of_domain ++ (cell_tables of_cell ++ [])))
    ∙ ap (placed n) (sym is ∙ ap asks_of of))

-- the tables whose objects have a scope are used where that is asked
pub scope_asks : (words : List Question) (domain : Option (Bor (List ℕ))) → words ≡ option_map_or (λ name. Scoped name ∷ []) (option_copied domain) []
    → flat_map tables_for words ≡ (if is_some domain then scope_tables else [])
scope_asks words None is = ap (flat_map tables_for) is
scope_asks words (Some domain) is = ap (flat_map tables_for) is

-- what is borrowed is there where it is copied
pub copied_some : {A : Type 0} (o : Option (Bor A)) → is_some (option_copied o) ≡ is_some o
copied_some None = refl
copied_some (Some x) = refl

-- ---- time

-- whatever a lost client may have anything in is used where one is lost
pub lossy_asks : (happened : List Happening) → abort_asks (aborted happened) ≡ (if list_any is_abort happened then variables_table ∷ domains_table ∷ journals_table ∷ [] else [])
lossy_asks [] = refl
lossy_asks (happens.WaitEnds client invoke ∷ rest) = lossy_asks rest
lossy_asks (happens.Grants grant ∷ rest) = lossy_asks rest
lossy_asks (happens.Aborts client ∷ rest) = refl

-- where no deadline is due nothing happens
pub nothing_due : (until : Moment) (rows : Rows) → next_due until rows ≡ None → (ticked until rows).happened ≡ []
nothing_due until rows none =
    ap (λ (t : Ticking). t.happened) (settle-none (next_met until) (entries_left rows) start (ap (option_and_then (met start)) none))
  where
    start : Ticking
    start = record { rows = rows; happened = [] }

none_of_two : {A : Type 0} (o : Option A) (b : Bool) → (is_some o || b) ≡ false → o ≡ None
none_of_two None b e = refl
none_of_two (Some x) b e = absurd (cc e)

-- a deadline of a semaphore is one of the device
pub due_on_device : (until : Moment) (rows : Rows) (conditions : Conditions) → next_due until rows ≢ None → device.next_due until rows conditions ≢ None
due_on_device until rows conditions some none = some (none_of_two (next_due until rows) (any_due until conditions) (due_is until rows conditions ∙ ap is_some none))

-- where something happens to semaphores a deadline is due
pub happened_is_due : (until : Moment) (rows : Rows) (conditions : Conditions) (happened : List Happening) → happened ≡ (ticked until rows).happened → happened ≢ []
    → device.next_due until rows conditions ≢ None
happened_is_due until rows conditions happened is some none =
    some (is ∙ nothing_due until rows (none_of_two (next_due until rows) (any_due until conditions) (due_is until rows conditions ∙ ap is_some none)))

-- ---- three stages

-- where nothing of two stages is missing, what is missing is that of the third
pub third_by_test : (hand : List (Option Part)) (one two three gone none left : List ℕ) → IsSetOf gone (missing hand one) → (length gone == 0) ≡ true
    → IsSetOf none (missing hand two) → (length none == 0) ≡ true → IsSetOf left (missing hand three)
    → IsSetOf left (two_stages hand one (two ++ (if are_held hand two then three else [])))
third_by_test hand one two three gone none left is_one no_one is_two no_two is_three =
    next_by_test hand one (two ++ (if are_held hand two then three else [])) gone is_one no_one left (next_by_test hand two three none is_two no_two left is_three)

-- and otherwise that of the second
pub second_by_test : (hand : List (Option Part)) (one two three gone left : List ℕ) → IsSetOf gone (missing hand one) → (length gone == 0) ≡ true
    → IsSetOf left (missing hand two) → (length left == 0) ≡ false
    → IsSetOf left (two_stages hand one (two ++ (if are_held hand two then three else [])))
second_by_test hand one two three gone left is_one no_one is_two some =
    next_by_test hand one (two ++ (if are_held hand two then three else [])) gone is_one no_one left (first_by_test hand two three left is_two some)
