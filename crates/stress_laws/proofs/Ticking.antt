-- Time that goes by sends one PDU to each whose request waits no more, and ends no association.
use Rattle.std.proofs.Common.{◌≡◌, ℕ, inl, Bool, true, false, List, [], ◌∷◌, ◌++◌, append-nil, Option, None, Some, option_to_list, if◌then◌else◌, refl, sym, ◌∙◌, ap, subst, arith}
use Rattle.mms_types.specs.declared.key.Key.{Key}
use Rattle.mms_types.specs.declared.moment.Moment.{Moment}
use Rattle.association.specs.Client.{ClientRow}
use Rattle.token_sem.specs.declared.entry.Expired.{Expired}
use Rattle.token_sem.specs.declared.entry.Grant.{Grant}
use Rattle.token_sem.proofs.Least.{Stands}
use Rattle.mms_time.specs.Deadlines.{NamedDeadline, expired, expire_after}
use Rattle.mms_time.specs.Semaphores.{Rows}
use Rattle.parted_state.specs.Served.{delivered}
use Rattle.sem_ticks.specs.Granted.{granted}
use Rattle.sem_ticks.specs.Sound.{AreSound}
use Rattle.sem_ticks.specs.Ticks.{abort_told, after_abort, expiry_told, met_as}
use Rattle.sem_ticks.specs.Ticks as ticks
use Rattle.sem_ticks.specs.declared.ticks.Happening.{Happening}
use Rattle.sem_ticks.specs.declared.ticks.Happening.TheVariants as happens
use Rattle.event_cond.specs.Conditions as cond_rows
use Rattle.event_cond.specs.Skips.{Saying}
use Rattle.cell_ticks.specs.Ticks.{Ticking, aborted, evaluated, ticked_on, with_semaphores, without_clients}
use Rattle.cell_client.specs.Association.{confirmed_error, timeout_error}
use Rattle.cell_client.specs.Effects.{Effect}
use Rattle.cell_services.specs.Serving.{all_told}
use Rattle.step_parts.specs.Partition.{cell}
use Rattle.cell_laws.specs.Linked.{asker}
use Rattle.cell_laws.proofs.Bound.{Bound}
use Rattle.cell_laws.proofs.Happened.{at_semaphores, from_rows, keeps-ticked, sem_told, then-told}
use Rattle.cell_laws.proofs.Hears.{RowsDistinct, distinct-told, waits_in}
use Rattle.cell_laws.proofs.Linking.{OnDevice, device-evaluated, device-met}
use Rattle.cell_laws.proofs.Passing.{met-asks}
use Rattle.stress_laws.proofs.Balance.{Even, Steady, even-answered, even-both, even-grant, even-none, steady-both}
use Rattle.stress_laws.proofs.Soon.{RowsSoon, met_spares, soon_expired}

-- ---- one deadline is met

module _ (c : ℕ) (rows : Rows) (clients : List ClientRow) (bound : Bound (asker rows) (waits_in clients)) (sound : AreSound rows) (distinct : RowsDistinct clients) where
  expiry-even : (named : Rows) (key : Key) (number : ℕ) (x : Expired) → expired key number rows ≡ Some x
      → Even c (sem_told (expiry_told named key x)) clients 0 × Steady (sem_told (expiry_told named key x))
  expiry-even named key number x is = by_waited x.waited refl
    where
      asks : (x.waited ≡ true → asker rows key number ≡ Some (x.client, x.invoke))
          × (x.waited ≡ false → (g : Grant) → Stands (option_to_list x.grant) g → asker rows key g.entry ≡ Some (g.client, g.invoke))
      asks = met-asks rows sound key number x is

      by_grant : (o : Option Grant) → ((g : Grant) → Stands (option_to_list o) g → asker rows key g.entry ≡ Some (g.client, g.invoke))
          → Even c (sem_told (ticks.grant_told named key o)) clients 0 × Steady (sem_told (ticks.grant_told named key o))
      by_grant None each = (even-none c clients, tt)
      by_grant (Some g) each = (even-grant c (granted named (key, g)) clients _ (bound.waiting key g.entry g.client g.invoke (each g (inl refl))) distinct, (tt, (tt, tt)))

      by_waited : (b : Bool) → x.waited ≡ b
          → Even c (sem_told (if b then happens.WaitEnds x.client x.invoke ∷ [] else ticks.grant_told named key x.grant)) clients 0
          × Steady (sem_told (if b then happens.WaitEnds x.client x.invoke ∷ [] else ticks.grant_told named key x.grant))
      by_waited true q = (
        even-answered c x.client x.invoke (confirmed_error x.invoke timeout_error) clients _ (bound.waiting key number x.client x.invoke (asks.0 q)) distinct,
        (tt, (tt, tt)),
      )
      by_waited false q = by_grant x.grant (asks.1 q)

-- ---- all that are met

without_none : (lost : List ℕ) → without_clients lost [] ≡ []
without_none [] = refl
without_none (client ∷ lost) = without_none lost

-- what holds meanwhile: who waits waits until then at most, there are no conditions, and what was told is even
pub record EvenMeanwhile (c : ℕ) (until : Moment) (clients : List ClientRow) (s : Ticking) : Type 0 where
  pub link : OnDevice clients s
  pub soon : RowsSoon until s.semaphores
  pub quiet : s.conditions ≡ []
  pub even : Even c (all_told s.happened) clients 0
  pub steady : Steady (all_told s.happened)

module _ (c : ℕ) (until : Moment) (clients : List ClientRow) (distinct : RowsDistinct clients) (cells : Saying) where
  even-met : (s : Ticking) (d : NamedDeadline) (x : Expired) → expired d.key d.entry s.semaphores ≡ Some x → EvenMeanwhile c until clients s
      → EvenMeanwhile c until clients (with_semaphores s d.at (met_as (from_rows s.semaphores) d x))
  even-met s d x is are = record {
    link = device-met clients cells s d x is are.link;
    soon = subst (λ (b : Bool). RowsSoon until (after_abort b x.client d.at rows)) (sym spares) (soon_expired until d.at d.key d.entry s.semaphores are.soon);
    quiet = subst (λ (rows : cond_rows.Rows). without_clients clients_lost rows ≡ []) (sym are.quiet) (without_none clients_lost);
    even = subst (λ (l : List (ℕ × Effect)). Even c l clients 0) (sym all) (let both = even-both c (all_told s.happened) (sem_told (expiry_told rows d.key x)) clients 0 0 are.even one.0 in omega (arith, both));
    steady = subst Steady (sym all) (steady-both (all_told s.happened) (sem_told (expiry_told rows d.key x)) are.steady one.1);
  }
    where
      rows : Rows
      rows = expire_after d.key d.entry d.at s.semaphores

      spares : x.abort ≡ false
      spares = met_spares until d.key d.entry s.semaphores x are.soon is

      happened : Bool → List Happening
      happened b = expiry_told rows d.key x ++ abort_told b x.client d.at rows

      clients_lost : List ℕ
      clients_lost = aborted (happened x.abort)

      told : List ClientRow
      told = delivered cell (all_told s.happened) clients

      one : Even c (sem_told (expiry_told rows d.key x)) told 0 × Steady (sem_told (expiry_told rows d.key x))
      one = expiry-even c s.semaphores told are.link.bound are.link.sound (distinct-told (all_told s.happened) clients distinct) rows d.key d.entry x is

      all : all_told (s.happened ++ at_semaphores d.at (happened x.abort)) ≡ all_told s.happened ++ sem_told (expiry_told rows d.key x)
      all =
          then-told s.happened d.at (happened x.abort)
          ∙ ap (λ (b : Bool). all_told s.happened ++ sem_told (happened b)) spares
          ∙ ap (λ (l : List Happening). all_told s.happened ++ sem_told l) (append-nil (expiry_told rows d.key x))

  even-evaluated : (s : Ticking) (d : NamedDeadline) → EvenMeanwhile c until clients s → EvenMeanwhile c until clients (evaluated cells s d)
  even-evaluated s d are = record {
    link = device-evaluated clients cells s d are.link;
    soon = are.soon;
    quiet = conditions_same s.conditions are.quiet;
    even = subst (λ (l : List (ℕ × Effect)). Even c l clients 0) (sym (told_same s.conditions are.quiet)) are.even;
    steady = subst Steady (sym (told_same s.conditions are.quiet)) are.steady;
  }
    where
      conditions_same : (rows : cond_rows.Rows) → rows ≡ [] → (evaluated cells (record s { conditions = rows }) d).conditions ≡ []
      conditions_same rows is = subst (λ (r : cond_rows.Rows). (evaluated cells (record s { conditions = r }) d).conditions ≡ []) (sym is) refl

      told_same : (rows : cond_rows.Rows) → rows ≡ [] → all_told (evaluated cells (record s { conditions = rows }) d).happened ≡ all_told s.happened
      told_same rows is =
          subst (λ (r : cond_rows.Rows). all_told (evaluated cells (record s { conditions = r }) d).happened ≡ all_told s.happened) (sym is)
          (ap all_told (append-nil s.happened))

  pub even_ticked : (later : Moment) (s : Ticking) → EvenMeanwhile c until clients s → EvenMeanwhile c until clients (ticked_on cells later s)
  even_ticked later = keeps-ticked cells later (EvenMeanwhile c until clients) (λ s d x due is are. even-met s d x is are) even-evaluated
