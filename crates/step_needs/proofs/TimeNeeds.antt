-- What time needs of the parts that are held, and who is told something, as code finds them.
use Rattle.std.specs.Prelude.{◌≡◌, ℕ, ◌+◌, ◌==◌, ◌||◌, Bool, true, false, Option, List, [], ◌∷◌, ◌++◌, length, if◌then◌else◌, refl}
use Rattle.std.specs.List.{flat_map, list_any}
use Rattle.std.proofs.Common.{ap, ap₂, sym, subst, ◌∙◌, append-nil}
use Rattle.mms_types.specs.declared.moment.Moment.{Moment}
use Rattle.association.specs.Client.{ClientRow}
use Rattle.part_table.specs.Held.{held_at}
use Rattle.parted_state.specs.Cut.{is_in, missing}
use Rattle.parted_state.specs.Lifted.{tables_shown}
use Rattle.parted_state.specs.Served.{is_told}
use Rattle.parted_state.specs.Served as parted
use Rattle.parted_state.specs.Sets.{IsSetOf}
use Rattle.parted_state.proofs.SetLaws.{missing_set}
use Rattle.mms_time.specs.Semaphores.{Rows}
use Rattle.sem_ticks.specs.Ticks as sem
use Rattle.sem_ticks.specs.declared.ticks.Happening.{Happening}
use Rattle.event_cond.specs.Skips.{Saying, any_due}
use Rattle.serve_events.specs.declared.tables.EventTables.{EventTables}
use Rattle.cell_ticks.specs.Ticks.{Ticking, aborted, begun, ticked}
use Rattle.cell_ticks.specs.Meant.{state_of}
use Rattle.cell_ticks.specs.declared.happening.DatedHappening.{DatedHappening}
use Rattle.cell_ticks.specs.declared.ticking.DeviceTicked.{DeviceTicked}
use Rattle.variable_services.specs.declared.tables.VariableTables.{VariableTables}
use Rattle.cell_client.specs.Association.{Verdict}
use Rattle.cell_services.specs.Looked.{AreToldBy}
use Rattle.cell_services.specs.Others.{AlsoTells, is_abort}
use Rattle.cell_services.specs.Serving.{abort_asks, all_told, also_told, evaluation_asks, happening_told, meanwhile, resolved, saying, time_asks}
use Rattle.cell_services.specs.Tables.{Tables, domains_table, journals_table, moment_after, variables_table}
use Rattle.cell_services.specs.declared.others.ToldTables.{ToldTables}
use Rattle.step_parts.specs.declared.part.Part.{Part}
use Rattle.step_parts.specs.Needs.{also_parts, client_parts, is_held, placed, time_need}
use Rattle.step_parts.specs.Partition.{cell, client_place, clients_among, clock_in, domains_in, events_in, semaphores_in, semaphores_place, variables_in}
use Rattle.step_parts.specs.TimeLaws.{semaphores_tell}
use Rattle.step_parts.proofs.Shown.{shown_domains, shown_events, shown_now, shown_semaphores, shown_variables}
use Rattle.step_needs.proofs.Asked.{lossy_asks}
use Rattle.step_parts.proofs.Needed.{first_by_test, next_by_test}
use Rattle.step_parts.proofs.Others.{told_set}

-- ---- beside the client that is heard

pub also_set : (hand : List (Option Part)) (n : ℕ) (row : ClientRow) (v : Verdict) (clients gone : List ℕ)
    → is_held hand (client_place row.client) ≡ true → AlsoTells (tables_shown cell hand) row v clients
    → IsSetOf gone (missing hand (client_parts n clients)) → IsSetOf gone (missing hand (also_parts n hand row v))
also_set hand n row v clients gone own tells is =
    told_set hand (also_told (tables_shown cell hand) row (resolved (tables_shown cell hand) row v)) clients n gone
    (λ k free. tells k (λ same. cc (sym free ∙ ap (λ (c : ℕ). is_held hand (client_place c)) (sym same) ∙ own)))
    is

-- by the tables that are held
pub also_held : (hand : List (Option Part)) (n : ℕ) (row : ClientRow) (v : Verdict) (by : ToldTables) (clients : List ℕ)
    → n ≡ clients_among (length hand) → by.now.0 ≡ clock_in (held_at hand 0)
    → by.variables.now ≡ variables_in (held_at hand 1) → by.domains.now ≡ domains_in (held_at hand 2) → by.events.now ≡ events_in (held_at hand 4)
    → by.semaphores.now ≡ semaphores_in (held_at hand (semaphores_place n)) → ((t : Tables) → AreToldBy by t → AlsoTells t row v clients)
    → AlsoTells (tables_shown cell hand) row v clients
also_held hand n row v by clients many now variables domains events semaphores tells =
    tells (tables_shown cell hand)
    (record {
      now = shown_now hand ∙ sym now;
      variables = shown_variables hand ∙ sym variables;
      domains = shown_domains hand ∙ sym domains;
      events = shown_events hand ∙ sym events;
      semaphores = shown_semaphores hand n many ∙ sym semaphores;
    })

-- ---- the tables that time uses

or_twice : (a b : Bool) → (a || b) ≡ (a || (a || b))
or_twice true b = refl
or_twice false b = refl

-- a place that is named twice is one
twice_set : (set : List ℕ) (x : ℕ) (xs : List ℕ) → IsSetOf set (x ∷ xs) → IsSetOf set (x ∷ x ∷ xs)
twice_set set x xs is = record { increasing = is.increasing; members = λ p. is.members p ∙ or_twice (x == p) (is_in xs p) }

abbrev lossy : Bool → List ℕ
lossy b = if b then variables_table ∷ domains_table ∷ journals_table ∷ [] else []

-- where a client is lost
pub lossy_set : (n : ℕ) (due : Bool) (happened : List Happening) (set : List ℕ) → list_any is_abort happened ≡ true → IsSetOf set (placed n (lossy true))
    → IsSetOf set (placed n (evaluation_asks due ++ abort_asks (aborted happened)))
lossy_set n due happened set some is =
    subst (λ (l : List ℕ). IsSetOf set (placed n (evaluation_asks due ++ l))) (sym (lossy_asks happened ∙ ap lossy some)) (by_due due)
  where
    by_due : (b : Bool) → IsSetOf set (placed n (evaluation_asks b ++ lossy true))
    by_due true = twice_set set 1 (2 ∷ 5 ∷ []) is
    by_due false = is

-- and where none is
pub due_set : (n : ℕ) (due b : Bool) (happened : List Happening) (set : List ℕ) → list_any is_abort happened ≡ false → due ≡ b → IsSetOf set (placed n (evaluation_asks b))
    → IsSetOf set (placed n (evaluation_asks due ++ abort_asks (aborted happened)))
due_set n due b happened set none is_due is =
    subst (λ (l : List ℕ). IsSetOf set (placed n l))
    (sym (ap (λ (l : List ℕ). evaluation_asks due ++ l) (lossy_asks happened ∙ ap lossy none) ∙ append-nil (evaluation_asks due) ∙ ap evaluation_asks is_due)) is

-- ---- as held parts show it

module _ (hand : List (Option Part)) (n ms : ℕ) (until : Moment) (semaphores : Rows) (events : EventTables) (many : n ≡ clients_among (length hand))
    (at : until.0 ≡ clock_in (held_at hand 0) + ms) (rows : semaphores ≡ semaphores_in (held_at hand (semaphores_place n))) (are : events ≡ events_in (held_at hand 4)) where
  abbrev t : Tables
  t = tables_shown cell hand

  moment : until ≡ moment_after ms t
  moment = ap (λ (m : ℕ). of m) (at ∙ ap (λ (m : ℕ). m + ms) (sym (shown_now hand)))
    where
      of : ℕ → Moment
      of m = record { 0 = m }

  rows_shown : semaphores ≡ t.semaphores
  rows_shown = rows ∙ sym (shown_semaphores hand n many)

  events_shown : events ≡ t.events
  events_shown = are ∙ sym (shown_events hand)

  happens : ticked (saying (variables_in (held_at hand 1))) until semaphores events.conditions events.enrolments ≡ meanwhile ms t
  happens = λ i. ticked (saying (sym (shown_variables hand) i)) (moment i) (rows_shown i) (events_shown i).conditions (events_shown i).enrolments

  module _ (due : Bool) (happened : List Happening) (is_due : due ≡ any_due until events.conditions) (is_so : happened ≡ (sem.ticked until semaphores).happened) where
    asks : evaluation_asks due ++ abort_asks (aborted happened) ≡ time_asks ms t
    asks =
        ap₂ (λ (b : Bool) (l : List Happening). evaluation_asks b ++ abort_asks (aborted l))
        (is_due ∙ ap₂ (λ (m : Moment) (e : EventTables). any_due m e.conditions) moment events_shown)
        (is_so ∙ ap₂ (λ (m : Moment) (r : Rows). (sem.ticked m r).happened) moment rows_shown)

    module _ (set gone : List ℕ) (asked : IsSetOf set (placed n (evaluation_asks due ++ abort_asks (aborted happened)))) where
      asked_set : IsSetOf set (placed n (time_asks ms t))
      asked_set = subst (λ (l : List ℕ). IsSetOf set (placed n l)) asks asked

      -- what isn't held of the tables
      pub time_first : IsSetOf gone (missing hand set) → (length gone == 0) ≡ false → IsSetOf gone (time_need n hand ms)
      time_first left some =
          first_by_test hand (placed n (time_asks ms t)) _ gone (missing_set hand set (placed n (time_asks ms t)) gone asked_set left) some

      -- and of those that are told something
      pub time_next : IsSetOf gone (missing hand set) → (length gone == 0) ≡ true → (clients none : List ℕ)
          → ((k : ℕ) → is_told (all_told (ticked (saying (variables_in (held_at hand 1))) until semaphores events.conditions events.enrolments).happened) k ≡ list_any (λ c. c == k) clients)
          → IsSetOf none (missing hand (client_parts n clients)) → IsSetOf none (time_need n hand ms)
      time_next left held clients none tells behind =
          next_by_test hand (placed n (time_asks ms t)) (parted.told_places cell (all_told (meanwhile ms t).happened) n) gone
          (missing_set hand set (placed n (time_asks ms t)) gone asked_set left) held none
          (told_set hand (all_told (meanwhile ms t).happened) clients n none
          (λ k free. ap (λ (u : Ticking). is_told (all_told u.happened) k) (sym happens) ∙ tells k) behind)

-- ---- who is told

-- where nothing is due nobody is
pub nobody_told : (u v : Ticking) (k : ℕ) → u ≡ v → v.happened ≡ [] → is_told (all_told u.happened) k ≡ false
nobody_told u v k same none = ap (λ (x : Ticking). is_told (all_told x.happened) k) same ∙ ap (λ l. is_told (all_told l) k) none

-- where no condition is evaluated, those that are told of what happens to semaphores
pub told_alone : (cells : Saying) (until : Moment) (semaphores : Rows) (events : EventTables) (happened : List Happening) → any_due until events.conditions ≡ false
    → happened ≡ (sem.ticked until semaphores).happened → (k : ℕ)
    → is_told (all_told (ticked cells until semaphores events.conditions events.enrolments).happened) k ≡ is_told (flat_map happening_told happened) k
told_alone cells until semaphores events happened none is k =
    ap (λ l. is_told l k)
    (semaphores_tell cells until (begun semaphores events.conditions events.enrolments) refl none ∙ ap (flat_map happening_told) (sym is))

-- those that are told of all that happens, as a tick is told
pub told_met : (v : VariableTables) (until : Moment) (semaphores : Rows) (events : EventTables) (t : DeviceTicked) (happened : List DatedHappening) (clients : List ℕ)
    → state_of (saying v) until t semaphores events.conditions events.enrolments ≡ ticked (saying v) until semaphores events.conditions events.enrolments
    → happened ≡ t.happened.items → ((k : ℕ) → is_told (all_told happened) k ≡ list_any (λ c. c == k) clients)
    → (k : ℕ) → is_told (all_told (ticked (saying v) until semaphores events.conditions events.enrolments).happened) k ≡ list_any (λ c. c == k) clients
told_met v until semaphores events t happened clients met is tells k =
    ap (λ (x : Ticking). is_told (all_told x.happened) k) (sym met)
    ∙ ap (λ (l : List DatedHappening). is_told (all_told l) k) (sym is)
    ∙ tells k
