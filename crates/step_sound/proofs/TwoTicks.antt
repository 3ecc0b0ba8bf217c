-- Two ticks are one.
use Rattle.std.specs.Prelude.{◌≡◌, ℕ, zero, suc, ◌+◌, ◌==◌, nat_eq, Bool, true, false, Option, None, Some, List, [], ◌∷◌, ◌++◌, map, option_and_then, option_map, if◌then◌else◌, refl}
use Rattle.std.specs.Map.{lookup}
use Rattle.std.specs.Option.{unwrap_or}
use Rattle.std.proofs.Common.{ap, sym, ◌∙◌, append_assoc, append-nil, arith}
use Rattle.mms_types.specs.declared.event.CellEvent.TheVariants.{Tick}
use Rattle.mms_types.specs.declared.moment.Moment.{Moment}
use Rattle.parted_state.specs.Served.{delivered}
use Rattle.variables.specs.Truth.{truth_of}
use Rattle.variables.specs.declared.rows.StoredCell.{StoredCell}
use Rattle.mms_journal.specs.Journals.{Rows as Books}
use Rattle.variable_services.specs.declared.tables.VariableTables.{VariableTables}
use Rattle.mms_time.specs.Deadlines.{NamedDeadline}
use Rattle.sem_ticks.specs.Sound as semaphores
use Rattle.sem_ticks.specs.Ticks as sem
use Rattle.event_cond.specs.Skips.{Saying}
use Rattle.event_ticks.specs.Settling.{settle}
use Rattle.event_ticks.specs.Sound as events
use Rattle.event_ticks.specs.Ticks as event_ticks
use Rattle.event_ticks.proofs.Settling.{settle_by}
use Rattle.cell_ticks.specs.Deadlines.{evaluation, next_due}
use Rattle.cell_ticks.specs.Ticks.{Ticking, begun, dated, evaluated, met, most_left, next_met, semaphore_met, ticked, ticked_on, with_semaphores}
use Rattle.cell_ticks.specs.declared.happening.DatedHappening.{DatedHappening}
use Rattle.cell_ticks.specs.declared.happening.Happening.TheVariants.{Semaphores, Turns}
use Rattle.cell_ticks.proofs.Ticked.{twice}
use Rattle.cell_client.specs.Effects.{Effect}
use Rattle.cell_services.specs.Serving.{all_told, domains_without, journals_without, lost_in, saying, without_clients}
use Rattle.step_parts.specs.Partition.{cell}
use Rattle.serve_domains.specs.Tables.{DomainTables}
use Rattle.step_parts.specs.State.{State}
use Rattle.step_parts.specs.Step.{step}
use Rattle.step_parts.specs.TimeLaws.{lost_both, told_both}
use Rattle.step_sound.proofs.Guarded.{lost_cells}
use Rattle.step_parts.proofs.Rows.{delivered_both}

-- ---- what happened before stands in front of what happens

settle_mapped : {S : Type 0} (next : S → Option S) (f : S → S) → ((s : S) → next (f s) ≡ option_map f (next s)) → (n : ℕ) (s : S) → settle next n (f s) ≡ f (settle next n s)
settle_mapped next f same zero s = refl
settle_mapped {S} next f same (suc n) s = ap (settle_by next n (f s)) (same s) ∙ by_next (next s) (λ t. settle_mapped next f same n t)
  where
    by_next : (o : Option S) → ((t : S) → settle next n (f t) ≡ f (settle next n t)) → settle_by next n (f s) (option_map f o) ≡ f (settle_by next n s o)
    by_next None rest = refl
    by_next (Some t) rest = rest t

abbrev behind : List DatedHappening → Ticking → Ticking
behind before s = record { semaphores = s.semaphores; conditions = s.conditions; enrolments = s.enrolments; happened = before ++ s.happened }

module _ (cells : Saying) (until : Moment) (before : List DatedHappening) where
  by_semaphore : (s : Ticking) (d : NamedDeadline) → semaphore_met (behind before s) d ≡ option_map (behind before) (semaphore_met s d)
  by_semaphore s d = by_met (sem.met (record { rows = s.semaphores; happened = [] }) d)
    where
      by_met : (o : Option sem.Ticking) → option_map (with_semaphores (behind before s) d.at) o ≡ option_map (behind before) (option_map (with_semaphores s d.at) o)
      by_met None = refl
      by_met (Some u) =
          ap (λ (l : List DatedHappening). Some (record (with_semaphores s d.at u) { happened = l }))
          (append_assoc before s.happened (map (λ h. dated d.at (Semaphores h)) u.happened))

  by_evaluation : (s : Ticking) (d : NamedDeadline) → evaluated cells (behind before s) d ≡ behind before (evaluated cells s d)
  by_evaluation s d =
      let t = event_ticks.evaluated cells (event_ticks.begun s.conditions s.enrolments []) (d.at, d.key) in
      ap (λ (l : List DatedHappening). record { semaphores = s.semaphores; conditions = t.conditions; enrolments = s.enrolments; happened = l })
      (append_assoc before s.happened (map (λ told. dated d.at (Turns told)) t.told))

  next_behind : (s : Ticking) → next_met cells until (behind before s) ≡ option_map (behind before) (next_met cells until s)
  next_behind s = by_due (next_due until s.semaphores s.conditions)
    where
      by_kind : (d : NamedDeadline) (b : Bool) → (if b then Some (evaluated cells (behind before s) d) else semaphore_met (behind before s) d)
          ≡ option_map (behind before) (if b then Some (evaluated cells s d) else semaphore_met s d)
      by_kind d true = ap Some (by_evaluation s d)
      by_kind d false = by_semaphore s d

      by_due : (o : Option NamedDeadline) → option_and_then (met cells (behind before s)) o ≡ option_map (behind before) (option_and_then (met cells s) o)
      by_due None = refl
      by_due (Some d) = by_kind d (d.kind == evaluation)

  ticked_behind : (s : Ticking) → ticked_on cells until (behind before s) ≡ behind before (ticked_on cells until s)
  ticked_behind s = settle_mapped (next_met cells until) (behind before) next_behind (most_left until s) s

-- ---- who is lost by it, and what the cells say then

without_both : (xs ys : List ℕ) (v : VariableTables) → without_clients (xs ++ ys) v ≡ without_clients ys (without_clients xs v)
without_both [] ys v = refl
without_both (x ∷ xs) ys v = without_both xs ys (without_clients (x ∷ []) v)

domains_both : (xs ys : List ℕ) (d : DomainTables) → domains_without (xs ++ ys) d ≡ domains_without ys (domains_without xs d)
domains_both [] ys d = refl
domains_both (x ∷ xs) ys d = domains_both xs ys (domains_without (x ∷ []) d)

journals_both : (xs ys : List ℕ) (j : Books) → journals_without (xs ++ ys) j ≡ journals_without ys (journals_without xs j)
journals_both [] ys j = refl
journals_both (x ∷ xs) ys j = journals_both xs ys (journals_without (x ∷ []) j)

says_so : List (ℕ × StoredCell) → Saying
says_so cells number = unwrap_or (option_and_then (λ (c : StoredCell). truth_of c.value) (lookup (nat_eq number) cells)) false

still_saying : (clients : List ℕ) (v : VariableTables) → saying (without_clients clients v) ≡ saying v
unfolding says_so
still_saying clients v = ap says_so (lost_cells clients v)

-- ---- the state after two ticks

module _ (s : State) (sound : semaphores.AreSound s.semaphores) (timed : events.AreSound s.events.conditions) (a b : ℕ) where
  abbrev first : Moment
  first = record { 0 = s.now + a }

  abbrev later : Moment
  later = record { 0 = s.now + a + b }

  abbrev cells : Saying
  cells = saying s.variables

  abbrev one : Ticking
  one = ticked cells first s.semaphores s.events.conditions s.events.enrolments

  abbrev second : Saying → Ticking
  second says = ticked says later one.semaphores one.conditions one.enrolments

  -- one tick on, and then another
  both_ticks : behind one.happened (second cells) ≡ ticked cells later s.semaphores s.events.conditions s.events.enrolments
  both_ticks =
      sym (ticked_behind cells later one.happened (begun one.semaphores one.conditions one.enrolments))
      ∙ ap (λ (l : List DatedHappening). ticked_on cells later (record { semaphores = one.semaphores; conditions = one.conditions; enrolments = one.enrolments; happened = l })) (append-nil one.happened)
      ∙ twice cells first later (omega arith) (begun s.semaphores s.events.conditions s.events.enrolments) (record { semaphores = sound; conditions = timed })

  -- the state at a moment, after such a tick
  abbrev at : ℕ → Ticking → State
  at now t = record {
    now = now;
    variables = without_clients (lost_in t.happened) s.variables;
    domains = domains_without (lost_in t.happened) s.domains;
    programs = s.programs;
    events = record { conditions = t.conditions; enrolments = t.enrolments };
    journals = journals_without (lost_in t.happened) s.journals;
    semaphores = t.semaphores;
    clients = delivered cell (all_told t.happened) s.clients;
  }

  -- and after a tick behind the first one
  abbrev after : Ticking → State
  after t = record {
    now = s.now + a + b;
    variables = without_clients (lost_in t.happened) (without_clients (lost_in one.happened) s.variables);
    domains = domains_without (lost_in t.happened) (domains_without (lost_in one.happened) s.domains);
    programs = s.programs;
    events = record { conditions = t.conditions; enrolments = t.enrolments };
    journals = journals_without (lost_in t.happened) (journals_without (lost_in one.happened) s.journals);
    semaphores = t.semaphores;
    clients = delivered cell (all_told t.happened) (delivered cell (all_told one.happened) s.clients);
  }

  in_one : (t : Ticking) → after t ≡ at (s.now + a + b) (behind one.happened t)
  in_one t =
      let variables = sym (without_both (lost_in one.happened) (lost_in t.happened) s.variables) ∙ ap (λ (l : List ℕ). without_clients l s.variables) (sym (lost_both one.happened t.happened)) in
      let domains = sym (domains_both (lost_in one.happened) (lost_in t.happened) s.domains) ∙ ap (λ (l : List ℕ). domains_without l s.domains) (sym (lost_both one.happened t.happened)) in
      let journals = sym (journals_both (lost_in one.happened) (lost_in t.happened) s.journals) ∙ ap (λ (l : List ℕ). journals_without l s.journals) (sym (lost_both one.happened t.happened)) in
      let clients = sym (delivered_both (all_told one.happened) (all_told t.happened) s.clients) ∙ ap (λ (l : List (ℕ × Effect)). delivered cell l s.clients) (sym (told_both one.happened t.happened)) in
      λ i. record {
        now = s.now + a + b;
        variables = variables i;
        domains = domains i;
        programs = s.programs;
        events = record { conditions = t.conditions; enrolments = t.enrolments };
        journals = journals i;
        semaphores = t.semaphores;
        clients = clients i;
      }

  pub two_ticks : step (step s (Tick a)) (Tick b) ≡ step s (Tick (a + b))
  two_ticks =
      let same : s.now + a + b ≡ s.now + (a + b) = omega arith in
      ap (λ (says : Saying). after (second says)) (still_saying (lost_in one.happened) s.variables)
      ∙ in_one (second cells)
      ∙ ap (at (s.now + a + b)) both_ticks
      ∙ ap (λ (m : ℕ). at m (ticked cells (record { 0 = m }) s.semaphores s.events.conditions s.events.enrolments)) same
