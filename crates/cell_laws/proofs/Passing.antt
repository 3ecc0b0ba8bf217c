-- Time that goes by answers what waited, but for what waits then.
use Rattle.std.proofs.Common.{◌≡◌, ℕ, ◌+◌, inl, inr, Bool, true, false, cond, ◌==◌, List, [], ◌∷◌, ◌++◌, Option, None, Some, option_and_then, option_to_list, if◌then◌else◌, refl, sym, ◌∙◌, ap, subst, arith}
use Rattle.std.specs.Map.{lookup}
use Rattle.mms_types.specs.Order.{key_eq}
use Rattle.mms_types.specs.declared.event.What.TheVariants.{Abort}
use Rattle.mms_types.specs.declared.key.Key.{Key}
use Rattle.mms_types.specs.declared.moment.Moment.{Moment}
use Rattle.association.specs.declared.waiting.Waiting.{Waiting}
use Rattle.association.specs.Client.{ClientRow}
use Rattle.token_sem.specs.declared.entry.Expired.{Expired}
use Rattle.token_sem.specs.declared.entry.Grant.{Grant}
use Rattle.token_sem.specs.declared.entry.SemEntry.{SemEntry}
use Rattle.token_sem.specs.Semaphore.{numbered}
use Rattle.token_sem.proofs.Least.{Stands}
use Rattle.mms_time.specs.Deadlines.{NamedDeadline, expired, expired_entry, expired_from, expired_in, expire_after}
use Rattle.mms_time.specs.Semaphores.{IsSound, Rows, entries_in, entries_of}
use Rattle.mms_time.specs.declared.row.Semaphore.{Semaphore}
use Rattle.mms_time.specs.declared.row.SemaphoreRow.{SemaphoreRow}
use Rattle.parted_state.specs.Served.{reached, delivered}
use Rattle.sem_ticks.specs.Granted.{granted, lost_granted}
use Rattle.sem_ticks.specs.Sound.{AreSound}
use Rattle.sem_ticks.specs.Ticks.{abort_told, expiry_told, met_as}
use Rattle.sem_ticks.specs.Ticks as ticks
use Rattle.sem_ticks.specs.declared.granted.Granted.{Granted}
use Rattle.sem_ticks.specs.declared.ticks.Happening.{Happening}
use Rattle.sem_ticks.specs.declared.ticks.Happening.TheVariants as happens
use Rattle.sem_ticks.proofs.Kept.{row_found}
use Rattle.event_cond.specs.Skips.{Saying}
use Rattle.event_ticks.specs.Ticks as events
use Rattle.cell_ticks.specs.Ticks.{Ticking, evaluated, ticked_on, with_semaphores}
use Rattle.cell_ticks.specs.declared.happening.DatedHappening.{DatedHappening}
use Rattle.cell_ticks.specs.declared.happening.Happening.{Happening as DeviceHappening}
use Rattle.cell_ticks.specs.declared.happening.Happening.TheVariants as device
use Rattle.serve_events.specs.Told.{notices_told}
use Rattle.cell_client.specs.Association.{confirmed_error, timeout_error}
use Rattle.cell_client.specs.Effects.{Effect, Sends, Closes}
use Rattle.cell_services.specs.Services.{grants_told}
use Rattle.cell_services.specs.Serving.{all_told, dated_told, happened_told, happening_told}
use Rattle.step_parts.specs.Partition.{cell}
use Rattle.cell_laws.specs.Linked.{asker, asker_of}
use Rattle.cell_laws.proofs.Answering.{retake}
use Rattle.cell_laws.proofs.Bound.{Bound}
use Rattle.cell_laws.proofs.Entries.{asker_at, leaving}
use Rattle.cell_laws.proofs.Events.{fair-grants, unopening-grants}
use Rattle.cell_laws.proofs.Fair.{Outcome, Unopening, join, none_taken, piece-abort, piece-answered, piece-closes, unopening-both}
use Rattle.cell_laws.proofs.Happened.{at_conditions, at_semaphores, conditions-told, from_rows, keeps-ticked, sem-both, sem_told, then-told, told-more}
use Rattle.cell_laws.proofs.Hears.{reached-closed, reached-still, waits_in}
use Rattle.cell_laws.proofs.Linking.{OnDevice, device-evaluated, device-met, expiry-left, told-grants}
use Rattle.cell_laws.proofs.Meetings.{bound-met, due-frees, expiry-is, expiry_by, sound-met}
use Rattle.cell_laws.proofs.Notices.{notices-fair, notices-unopening, told-notices}
use Rattle.cell_laws.proofs.Once.{lost-apart, lost-waits}
use Rattle.cell_laws.proofs.Queues.{asker_in, rise}

-- ---- whose requests are answered where a deadline is met

abbrev pub Asked : Rows → Key → ℕ → Expired → Type 0
Asked rows key number x = (x.waited ≡ true → asker rows key number ≡ Some (x.client, x.invoke))
    × (x.waited ≡ false → (g : Grant) → Stands (option_to_list x.grant) g → asker rows key g.entry ≡ Some (g.client, g.invoke))

pub met-asks : (rows : Rows) → AreSound rows → (key : Key) (number : ℕ) (x : Expired) → expired key number rows ≡ Some x → Asked rows key number x
met-asks rows sound key number x is = by_row (lookup (key_eq key) rows) refl is
  where
    in_semaphore : (s : Semaphore) → IsSound s → (o : Option SemEntry) → numbered number (entries_in s) ≡ o → expired_entry s o ≡ Some x
        → (x.waited ≡ true → asker_at number (entries_in s) ≡ Some (x.client, x.invoke))
        × (x.waited ≡ false → (g : Grant) → Stands (option_to_list x.grant) g → asker_at g.entry (entries_in s) ≡ Some (g.client, g.invoke))
    in_semaphore s is_sound None e h = absurd (cc h)
    in_semaphore s is_sound (Some e) at h =
        let from : expired_from e s ≡ x = cc h in
        let same : expiry_by (leaving s) e (entries_in s) ≡ x = sym (expiry-is e s) ∙ from in
        subst (λ (y : Expired). (y.waited ≡ true → asker_at number (entries_in s) ≡ Some (y.client, y.invoke))
        × (y.waited ≡ false → (g : Grant) → Stands (option_to_list y.grant) g → asker_at g.entry (entries_in s) ≡ Some (g.client, g.invoke))) same (
          λ q. ap asker_of at ∙ ap (λ t. cond t (Some (e.client, e.invoke)) None) q,
          λ q g t. (due-frees s number (record { 0 = 0 }) e is_sound at q).each g
              (subst (λ (b : Bool). Stands (option_to_list (if b then None else (leaving s).heir e (entries_in s))) g) q t),
        )

    by_row : (p : Option SemaphoreRow) → lookup (key_eq key) rows ≡ p → option_and_then (expired_in number) p ≡ Some x
        → (x.waited ≡ true → asker rows key number ≡ Some (x.client, x.invoke))
        × (x.waited ≡ false → (g : Grant) → Stands (option_to_list x.grant) g → asker rows key g.entry ≡ Some (g.client, g.invoke))
    by_row None e h = absurd (cc h)
    by_row (Some row) e h =
        let found = in_semaphore row.semaphore (row_found rows key row sound.each e) (numbered number (entries_of row)) refl h in
        (λ q. ap (asker_in number) e ∙ found.0 q, λ q g t. ap (asker_in g.entry) e ∙ found.1 q g t)

-- ---- one deadline is met

unopening-one : (x : Happening) → Unopening (happening_told x)
unopening-one (happens.WaitEnds client invoke) = (refl, (refl, tt))
unopening-one (happens.Grants grant) = (refl, (refl, tt))
unopening-one (happens.Aborts client) = (refl, (refl, tt))

unopening-all : (happened : List Happening) → Unopening (sem_told happened)
unopening-all [] = tt
unopening-all (x ∷ rest) = unopening-both (happening_told x) (sem_told rest) (unopening-one x) (unopening-all rest)

pub told-unopening : (happened : List DatedHappening) → Unopening (all_told happened)
told-unopening [] = tt
told-unopening (x ∷ rest) = unopening-both (dated_told x) (all_told rest) (by_one x.happening) (told-unopening rest)
  where
    by_one : (h : DeviceHappening) → Unopening (happened_told h)
    by_one (device.Semaphores happening) = unopening-one happening
    by_one (device.Turns told) = notices-unopening (notices_told told.turned told.notices) (told-notices told.turned told.notices)

join-all : (c : ℕ) (xs ys : List Happening) (clients : List ClientRow) → Outcome c (sem_told xs) clients none_taken → Outcome c (sem_told ys) (delivered cell (sem_told xs) clients) none_taken
    → Outcome c (sem_told (xs ++ ys)) clients none_taken
join-all c xs ys clients first second =
    subst (λ (l : List (ℕ × Effect)). Outcome c l clients none_taken) (sym (sem-both xs ys))
    (retake c (sem_told xs ++ sem_told ys) clients (λ i. none_taken i + none_taken i) none_taken (λ i. omega arith)
    (join c (sem_told xs) (sem_told ys) clients none_taken none_taken (unopening-all ys) first second))

module _ (c : ℕ) (rows : Rows) (clients : List ClientRow) (bound : Bound (asker rows) (waits_in clients)) (sound : AreSound rows) where
  expiry-fair : (named : Rows) (key : Key) (number : ℕ) (x : Expired) → expired key number rows ≡ Some x → Outcome c (sem_told (expiry_told named key x)) clients none_taken
  expiry-fair named key number x is = by_waited x.waited refl
    where
      asks : (x.waited ≡ true → asker rows key number ≡ Some (x.client, x.invoke))
          × (x.waited ≡ false → (g : Grant) → Stands (option_to_list x.grant) g → asker rows key g.entry ≡ Some (g.client, g.invoke))
      asks = met-asks rows sound key number x is

      by_grant : (o : Option Grant) → ((g : Grant) → Stands (option_to_list o) g → asker rows key g.entry ≡ Some (g.client, g.invoke)) → Outcome c (sem_told (ticks.grant_told named key o)) clients none_taken
      by_grant None each = inl (record { pdus = []; spelled = refl; balance = λ i. refl })
      by_grant (Some g) each = fair-grants c (granted named (key, g) ∷ []) clients (refl, tt) there
        where
          there : (h : Granted) → Stands (granted named (key, g) ∷ []) h → (w : Waiting) × (waits_in clients h.client h.invoke ≡ Some w)
          there h (inl same) =
              subst (λ (y : Granted). (w : Waiting) × (waits_in clients y.client y.invoke ≡ Some w)) same (_, bound.waiting key g.entry g.client g.invoke (each g (inl refl)))
          there h (inr t) = absurd t

      by_waited : (b : Bool) → x.waited ≡ b → Outcome c (sem_told (if b then happens.WaitEnds x.client x.invoke ∷ [] else ticks.grant_told named key x.grant)) clients none_taken
      by_waited true q = inl (piece-answered c x.client x.invoke (confirmed_error x.invoke timeout_error) clients _ (bound.waiting key number x.client x.invoke (asks.0 q)) (λ i. refl))
      by_waited false q = by_grant x.grant (asks.1 q)

  abort-fair : (client : ℕ) (now : Moment) → Outcome c (sem_told (abort_told true client now rows)) clients none_taken
  abort-fair client now =
      subst (λ (l : List (ℕ × Effect)). Outcome c ((client, Sends Abort) ∷ (client, Closes) ∷ l) clients none_taken) (sym (told-grants grants))
      (retake c ((client, Sends Abort) ∷ (client, Closes) ∷ grants_told grants) clients (λ i. none_taken i + none_taken i) none_taken (λ i. omega arith)
      (join c ((client, Sends Abort) ∷ []) ((client, Closes) ∷ grants_told grants) clients none_taken none_taken (refl, unopening-grants grants) (inl (piece-abort c client clients))
      (retake c ((client, Closes) ∷ grants_told grants) (reached cell client (Sends Abort) clients) (λ i. none_taken i + none_taken i) none_taken (λ i. omega arith)
      (join c ((client, Closes) ∷ []) (grants_told grants) (reached cell client (Sends Abort) clients) none_taken none_taken (unopening-grants grants)
      (piece-closes c client (reached cell client (Sends Abort) clients))
      (fair-grants c grants (reached cell client Closes (reached cell client (Sends Abort) clients))
      (lost-apart client now rows (rise rows sound) (waits_in clients) bound sound.names)
      (λ g t. still g (lost-waits client now rows (rise rows sound) (waits_in clients) bound g t)))))))
    where
      grants : List Granted
      grants = lost_granted client now rows

      still : (g : Granted) → (w : Waiting) × (cond (g.client == client) None (waits_in clients g.client g.invoke) ≡ Some w)
          → (w : Waiting) × (waits_in (reached cell client Closes (reached cell client (Sends Abort) clients)) g.client g.invoke ≡ Some w)
      still g w = (
        w.0,
        reached-closed client (reached cell client (Sends Abort) clients) g.client g.invoke
            ∙ ap (cond (g.client == client) None) (reached-still (Sends Abort) tt client clients g.client g.invoke) ∙ w.1,
      )

-- ---- all that are met

pub record FairMeanwhile (c : ℕ) (clients : List ClientRow) (s : Ticking) : Type 0 where
  pub link : OnDevice clients s
  pub fair : Outcome c (all_told s.happened) clients none_taken

module _ (c : ℕ) (clients : List ClientRow) (cells : Saying) where
  -- one thing more
  fair-more : (before after : List DatedHappening) → Unopening (all_told after) → Outcome c (all_told before) clients none_taken
      → Outcome c (all_told after) (delivered cell (all_told before) clients) none_taken → Outcome c (all_told (before ++ after)) clients none_taken
  fair-more before after un first second =
      subst (λ (l : List (ℕ × Effect)). Outcome c l clients none_taken) (sym (told-more before after))
      (retake c (all_told before ++ all_told after) clients (λ i. none_taken i + none_taken i) none_taken (λ i. omega arith)
      (join c (all_told before) (all_told after) clients none_taken none_taken un first second))

  fair-met : (s : Ticking) (d : NamedDeadline) (x : Expired) → expired d.key d.entry s.semaphores ≡ Some x → FairMeanwhile c clients s
      → FairMeanwhile c clients (with_semaphores s d.at (met_as (from_rows s.semaphores) d x))
  fair-met s d x is are = record { link = device-met clients cells s d x is are.link; fair = fair-more s.happened added (told-unopening added) are.fair rest }
    where
      rows : Rows
      rows = expire_after d.key d.entry d.at s.semaphores

      told : List ClientRow
      told = delivered cell (all_told s.happened) clients

      met_clients : List ClientRow
      met_clients = delivered cell (sem_told (expiry_told rows d.key x)) told

      met_bound : Bound (asker rows) (waits_in met_clients)
      met_bound = bound-met s.semaphores (waits_in told) (waits_in met_clients) are.link.bound are.link.sound rows d.key d.entry d.at x is (expiry-left rows d.key x told)

      by_abort : (b : Bool) → Outcome c (sem_told (abort_told b x.client d.at rows)) met_clients none_taken
      by_abort true = abort-fair c rows met_clients met_bound (sound-met s.semaphores (waits_in told) (waits_in met_clients) are.link.bound are.link.sound d.key d.entry d.at) x.client d.at
      by_abort false = inl (record { pdus = []; spelled = refl; balance = λ i. refl })

      happened : List Happening
      happened = expiry_told rows d.key x ++ abort_told x.abort x.client d.at rows

      added : List DatedHappening
      added = at_semaphores d.at happened

      rest : Outcome c (all_told added) told none_taken
      rest =
          subst (λ (l : List (ℕ × Effect)). Outcome c l told none_taken) (sym (then-told [] d.at happened))
          (join-all c (expiry_told rows d.key x) (abort_told x.abort x.client d.at rows) told
          (expiry-fair c s.semaphores told are.link.bound are.link.sound rows d.key d.entry x is) (by_abort x.abort))

  fair-evaluated : (s : Ticking) (d : NamedDeadline) → FairMeanwhile c clients s → FairMeanwhile c clients (evaluated cells s d)
  fair-evaluated s d are = record {
    link = device-evaluated clients cells s d are.link;
    fair = fair-more s.happened turns (told-unopening turns) are.fair (notices-fair c (all_told turns) (delivered cell (all_told s.happened) clients) (conditions-told d.at turned.told));
  }
    where
      turned : events.Ticking
      turned = events.evaluated cells (events.begun s.conditions s.enrolments []) (d.at, d.key)

      turns : List DatedHappening
      turns = at_conditions d.at turned.told

  pub fair-ticked : (until : Moment) (s : Ticking) → FairMeanwhile c clients s → FairMeanwhile c clients (ticked_on cells until s)
  fair-ticked until = keeps-ticked cells until (FairMeanwhile c clients) (λ s d x due is are. fair-met s d x is are) fair-evaluated
