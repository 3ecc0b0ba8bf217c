-- What a tick makes of each table by itself is what its deadlines make of all tables, one after the other.
use Rattle.std.proofs.Common.{◌≡◌, ℕ, zero, suc, ◌+◌, ◌⊎◌, inl, inr, ◌==◌, Bool, true, false, List, [], ◌∷◌, ◌++◌, append-nil, map, Option, None, Some, option_and_then, option_map, if◌then◌else◌, refl, sym, ◌∙◌, ap}
use Rattle.std.specs.List.{cons_option, flat_map}
use Rattle.mms_types.specs.declared.moment.Moment.{Moment}
use Rattle.token_sem.specs.declared.entry.Expired.{Expired}
use Rattle.token_sem.specs.declared.entry.Grant.{Grant}
use Rattle.mms_time.specs.Deadlines.{NamedDeadline, expire_after, expired}
use Rattle.mms_time.specs.Semaphores.{Rows}
use Rattle.sem_ticks.specs.Granted.{lost_granted}
use Rattle.sem_ticks.specs.Ticks as sem
use Rattle.sem_ticks.specs.Ticks.{abort_told, expiry_told, grant_told, met_as}
use Rattle.sem_ticks.specs.declared.granted.Granted.{Granted}
use Rattle.sem_ticks.specs.declared.ticks.Happening.{Happening}
use Rattle.sem_ticks.specs.declared.ticks.Happening.TheVariants as happens
use Rattle.event_cond.specs.Skips.{Saying}
use Rattle.event_ticks.specs.Settling.{settle}
use Rattle.event_ticks.specs.Ticks as events
use Rattle.event_ticks.specs.declared.ticks.TurnTold.{TurnTold}
use Rattle.event_ticks.proofs.Settling.{settle_by}
use Rattle.cell_ticks.specs.Deadlines.{evaluation, next_due}
use Rattle.cell_ticks.specs.Ticks.{Ticking, aborted, aborted_one, begun, evaluated, most_left, semaphore_met, with_semaphores}
use Rattle.cell_ticks.specs.Ticks as device
use Rattle.cell_ticks.specs.declared.happening.DatedHappening.{DatedHappening}
use Rattle.variable_services.specs.declared.tables.VariableTables.{VariableTables}
use Rattle.variable_services.specs.Services.{lost as variables_lost}
use Rattle.mms_journal.specs.Journals.{Rows as Books}
use Rattle.mms_journal.specs.Services.{without_client as journals_lost}
use Rattle.serve_domains.specs.Tables.{DomainTables, lost as domains_lost}
use Rattle.parted_state.specs.Served.{Done}
use Rattle.cell_client.specs.Effects.{Effect}
use Rattle.cell_services.specs.Services.{grants_told}
use Rattle.cell_services.specs.Serving.{aborted_at, all_told, domains_without, happening_told, journals_without, lost_in, passes, saying, without_clients}
use Rattle.cell_services.specs.Tables.{Tables, moment_after}
use Rattle.cell_laws.specs.InTurn as turn
use Rattle.cell_laws.proofs.Happened.{at_conditions, at_semaphores, from_rows, sem-both, sem_told, then-told, told-more}

-- ---- who is aborted

lost-more : (xs ys : List DatedHappening) → lost_in (xs ++ ys) ≡ lost_in xs ++ lost_in ys
lost-more [] ys = refl
lost-more (x ∷ xs) ys = ap (cons_option (aborted_at x)) (lost-more xs ys) ∙ by_first (aborted_at x)
  where
    by_first : (o : Option ℕ) → cons_option o (lost_in xs ++ lost_in ys) ≡ cons_option o (lost_in xs) ++ lost_in ys
    by_first None = refl
    by_first (Some c) = refl

none-lost : (at : Moment) (told : List TurnTold) → lost_in (at_conditions at told) ≡ []
none-lost at [] = refl
none-lost at (t ∷ rest) = none-lost at rest

lost-then : (at : Moment) (happened : List Happening) → lost_in (at_semaphores at happened) ≡ aborted happened
lost-then at [] = refl
lost-then at (h ∷ rest) = ap (cons_option (aborted_one h)) (lost-then at rest)

-- nobody is by grants
none-granted : (grants : List Granted) → aborted (map happens.Grants grants) ≡ []
none-granted [] = refl
none-granted (g ∷ rest) = none-granted rest

told-granted : (grants : List Granted) → sem_told (map happens.Grants grants) ≡ grants_told grants
told-granted [] = refl
told-granted (g ∷ rest) = ap (λ (l : List (ℕ × Effect)). happening_told (happens.Grants g) ++ l) (told-granted rest)

-- ---- tables without several clients

variables-more : (xs ys : List ℕ) (v : VariableTables) → without_clients (xs ++ ys) v ≡ without_clients ys (without_clients xs v)
variables-more [] ys v = refl
variables-more (x ∷ xs) ys v = variables-more xs ys (variables_lost x v)

domains-more : (xs ys : List ℕ) (d : DomainTables) → domains_without (xs ++ ys) d ≡ domains_without ys (domains_without xs d)
domains-more [] ys d = refl
domains-more (x ∷ xs) ys d = domains-more xs ys (domains_lost x d)

journals-more : (xs ys : List ℕ) (j : Books) → journals_without (xs ++ ys) j ≡ journals_without ys (journals_without xs j)
journals-more [] ys j = refl
journals-more (x ∷ xs) ys j = journals-more xs ys (journals_lost x j)

-- cells say what they said
saying-stays : (clients : List ℕ) (v : VariableTables) → saying (without_clients clients v) ≡ saying v
saying-stays [] v = refl
saying-stays (client ∷ clients) v = saying-stays clients (variables_lost client v)

module _ (t : Tables) where
  -- the tables at a moment, by what became of semaphores, conditions and enrollments, and by what happened
  abbrev at_point : ℕ → Ticking → List ℕ → List (ℕ × Effect) → Done Tables Effect
  at_point now u lost told = record {
    tables = record {
      now = now;
      variables = without_clients lost t.variables;
      domains = domains_without lost t.domains;
      programs = t.programs;
      events = record { conditions = u.conditions; enrolments = u.enrolments };
      journals = journals_without lost t.journals;
      semaphores = u.semaphores;
    };
    told = told;
  }

  abbrev image : ℕ → Ticking → Done Tables Effect
  image now u = at_point now u (lost_in u.happened) (all_told u.happened)

  abbrev cells : Saying
  cells = saying t.variables

  -- ---- one deadline

  abbrev Both : Option Ticking → Option (Done Tables Effect) → Type 0
  Both a b = ((a ≡ None) × (b ≡ None)) ⊎ ((u : Ticking) × (now : ℕ) × (a ≡ Some u) × (b ≡ Some (image now u)))

  module _ (now : ℕ) (u : Ticking) (d : NamedDeadline) where
    abbrev before : Done Tables Effect
    before = image now u

    abbrev evaluated_by : Saying → events.Ticking
    evaluated_by says = events.evaluated says (events.begun u.conditions u.enrolments []) (d.at, d.key)

    abbrev turned_by : Saying → Done Tables Effect
    turned_by says = record {
      tables = record before.tables { now = d.at.0; events = record { conditions = (evaluated_by says).conditions; enrolments = u.enrolments } };
      told = all_told u.happened ++ flat_map turn.turn_told (evaluated_by says).told;
    }

    turns-told : (told : List TurnTold) → all_told (at_conditions d.at told) ≡ flat_map turn.turn_told told
    turns-told [] = refl
    turns-told (x ∷ rest) = ap (λ (l : List (ℕ × Effect)). turn.turn_told x ++ l) (turns-told rest)

    evaluation-so : turn.behind before.told (turn.evaluation_met d before.tables) ≡ image d.at.0 (evaluated cells u d)
    evaluation-so =
        ap turned_by (saying-stays (lost_in u.happened) t.variables)
        ∙ ap (λ (l : List (ℕ × Effect)). at_point d.at.0 (evaluated cells u d) (lost_in u.happened) l)
        (ap (λ (l : List (ℕ × Effect)). all_told u.happened ++ l) (sym (turns-told (evaluated_by cells).told)) ∙ sym (told-more u.happened (at_conditions d.at (evaluated_by cells).told)))
        ∙ ap (λ (l : List ℕ). at_point d.at.0 (evaluated cells u d) l (all_told (evaluated cells u d).happened))
        (sym (append-nil (lost_in u.happened))
        ∙ ap (λ (l : List ℕ). lost_in u.happened ++ l) (sym (none-lost d.at (evaluated_by cells).told))
        ∙ sym (lost-more u.happened (at_conditions d.at (evaluated_by cells).told)))

    -- ---- a deadline of a semaphore

    -- where these are aborted by it
    abbrev expired_point : Rows → List ℕ → VariableTables → DomainTables → Books → List (ℕ × Effect) → Done Tables Effect
    expired_point rows gone v ds j told = record {
      tables = record {
        now = d.at.0;
        variables = v;
        domains = ds;
        programs = t.programs;
        events = record { conditions = device.without_clients gone u.conditions; enrolments = device.enrolments_without gone u.enrolments };
        journals = j;
        semaphores = rows;
      };
      told = told;
    }

    abbrev expired_as : Rows → List ℕ → List (ℕ × Effect) → Done Tables Effect
    expired_as rows gone told =
        expired_point rows gone (without_clients gone before.tables.variables) (domains_without gone before.tables.domains) (journals_without gone before.tables.journals) told

    expired-so : (rows : Rows) (happened : List Happening) (gone : List ℕ) → aborted happened ≡ gone
        → image d.at.0 (with_semaphores u d.at (record { rows = rows; happened = happened })) ≡ expired_as rows gone (all_told u.happened ++ sem_told happened)
    expired-so rows happened gone are =
        ap (λ (l : List ℕ). expired_point rows mine (without_clients l t.variables) (domains_without l t.domains) (journals_without l t.journals) told) all
        ∙ ap (λ (v : VariableTables). expired_point rows mine v (domains_without (first ++ mine) t.domains) (journals_without (first ++ mine) t.journals) told)
        (variables-more first mine t.variables)
        ∙ ap (λ (ds : DomainTables). expired_point rows mine (without_clients mine before.tables.variables) ds (journals_without (first ++ mine) t.journals) told)
        (domains-more first mine t.domains)
        ∙ ap (λ (j : Books). expired_point rows mine (without_clients mine before.tables.variables) (domains_without mine before.tables.domains) j told)
        (journals-more first mine t.journals)
        ∙ ap (λ (l : List (ℕ × Effect)). expired_as rows mine l) (then-told u.happened d.at happened)
        ∙ ap (λ (l : List ℕ). expired_as rows l (all_told u.happened ++ sem_told happened)) are
      where
        first : List ℕ
        first = lost_in u.happened

        mine : List ℕ
        mine = aborted happened

        told : List (ℕ × Effect)
        told = all_told (u.happened ++ at_semaphores d.at happened)

        all : lost_in (u.happened ++ at_semaphores d.at happened) ≡ first ++ mine
        all = lost-more u.happened (at_semaphores d.at happened) ∙ ap (λ (l : List ℕ). first ++ l) (lost-then d.at happened)

    module _ (x : Expired) where
      abbrev left : Rows
      left = expire_after d.key d.entry d.at u.semaphores

      abbrev first_told : List Happening
      first_told = expiry_told left d.key x

      -- the end of a wait, or of control, aborts nobody by itself
      none-first : (ys : List Happening) → aborted (first_told ++ ys) ≡ aborted ys
      none-first ys = by_waited x.waited x.grant
        where
          by_waited : (b : Bool) (o : Option Grant) → aborted ((if b then happens.WaitEnds x.client x.invoke ∷ [] else grant_told left d.key o) ++ ys) ≡ aborted ys
          by_waited true o = refl
          by_waited false None = refl
          by_waited false (Some grant) = refl

      expiry-so : turn.behind before.told (turn.expiry_met d before.tables x) ≡ image d.at.0 (with_semaphores u d.at (met_as (from_rows u.semaphores) d x))
      expiry-so = by_abort x.abort
        where
          by_abort : (b : Bool)
              → turn.behind before.told (record {
                tables = (turn.aborts_if b x.client (turn.after_expiry d before.tables)).tables;
                told = sem_told first_told ++ (turn.aborts_if b x.client (turn.after_expiry d before.tables)).told;
              })
              ≡ image d.at.0 (with_semaphores u d.at (record { rows = sem.after_abort b x.client d.at left; happened = first_told ++ abort_told b x.client d.at left }))
          by_abort true =
              let grants : List Granted = lost_granted x.client d.at left in
              ap (λ (l : List (ℕ × Effect)). expired_as (sem.after_abort true x.client d.at left) (x.client ∷ []) (all_told u.happened ++ l))
              (ap (λ (l : List (ℕ × Effect)). sem_told first_told ++ (happening_told (happens.Aborts x.client) ++ l)) (sym (told-granted grants))
              ∙ sym (sem-both first_told (abort_told true x.client d.at left)))
              ∙ sym (expired-so (sem.after_abort true x.client d.at left) (first_told ++ abort_told true x.client d.at left) (x.client ∷ [])
              (none-first (abort_told true x.client d.at left) ∙ ap (λ (l : List ℕ). x.client ∷ l) (none-granted grants)))
          by_abort false =
              ap (λ (l : List (ℕ × Effect)). expired_as left [] (all_told u.happened ++ l)) (sym (sem-both first_told []))
              ∙ sym (expired-so left (first_told ++ []) [] (none-first []))

  -- ---- one after the other

  module _ (until : Moment) where
    one : (now : ℕ) (u : Ticking) → Both (device.next_met cells until u) (turn.next_met until (image now u))
    one now u = by_due (next_due until u.semaphores u.conditions)
      where
        old : Done Tables Effect
        old = image now u

        by_expired : (d : NamedDeadline) (o : Option Expired)
            → Both (option_map (with_semaphores u d.at) (option_map (met_as (from_rows u.semaphores) d) o)) (option_map (turn.behind old.told) (option_map (turn.expiry_met d old.tables) o))
        by_expired d None = inl (refl, refl)
        by_expired d (Some x) = inr (with_semaphores u d.at (met_as (from_rows u.semaphores) d x), d.at.0, refl, ap Some (expiry-so now u d x))

        by_kind : (d : NamedDeadline) (b : Bool)
            → Both (if b then Some (evaluated cells u d) else semaphore_met u d)
            (option_map (turn.behind old.told)
            (if b then Some (turn.evaluation_met d old.tables) else option_map (turn.expiry_met d old.tables) (expired d.key d.entry u.semaphores)))
        by_kind d true = inr (evaluated cells u d, d.at.0, refl, ap Some (evaluation-so now u d))
        by_kind d false = by_expired d (expired d.key d.entry u.semaphores)

        by_due : (o : Option NamedDeadline)
            → Both (option_and_then (device.met cells u) o) (option_map (turn.behind old.told) (option_and_then (turn.met old.tables) o))
        by_due None = inl (refl, refl)
        by_due (Some d) = by_kind d (d.kind == evaluation)

    abbrev Alike : ℕ → ℕ → Ticking → Type 0
    Alike n now u = (m : ℕ) × (settle (turn.next_met until) n (image now u) ≡ image m (settle (device.next_met cells until) n u))

    along : (n now : ℕ) (u : Ticking) → Alike n now u
    along zero now u = (now, refl)
    along (suc n) now u = by_both (device.next_met cells until u) (turn.next_met until (image now u)) (one now u) (λ m v. along n m v)
      where
        by_both : (a : Option Ticking) (b : Option (Done Tables Effect)) → Both a b → ((m : ℕ) (v : Ticking) → Alike n m v)
            → (m : ℕ) × (settle_by (turn.next_met until) n (image now u) b ≡ image m (settle_by (device.next_met cells until) n u a))
        by_both a b (inl none) ih =
            (now, ap (settle_by (turn.next_met until) n (image now u)) none.1 ∙ ap (λ (o : Option Ticking). image now (settle_by (device.next_met cells until) n u o)) (sym none.0))
        by_both a b (inr (v, m, ea, eb)) ih =
            let later = ih m v in (
              later.0,
              ap (settle_by (turn.next_met until) n (image now u)) eb ∙ later.1
                  ∙ ap (λ (o : Option Ticking). image later.0 (settle_by (device.next_met cells until) n u o)) (sym ea),
            )

pub in_turn : (ms : ℕ) (t : Tables) → passes ms t ≡ turn.passes_in_turn ms t
in_turn ms t =
    let first : Ticking = begun t.semaphores t.events.conditions t.events.enrolments in
    sym (ap (λ (p : Done Tables Effect). record { tables = record p.tables { now = t.now + ms }; told = p.told })
    (along t (moment_after ms t) (most_left (moment_after ms t) first) t.now first).1)
