-- The tokens of a pool that a client owns who is lost go, one after the other, to the first that waits for each, or are
-- free.
use Rattle.std.proofs.Common.{◌≡◌, ℕ, inl, inr, Bool, true, false, not, cond, List, [], ◌∷◌, ◌++◌, map, filter, fold, length, Option, None, Some, option_map, option_to_list, refl, sym, ◌∙◌, ap, subst}
use Rattle.std.specs.Map.{lookup}
use Rattle.std.proofs.lemmas.List.Sums.{fold-append}
use Rattle.mms_types.specs.Order.{key_eq, scope_eq}
use Rattle.mms_types.specs.declared.event.CellEvent.{CellEvent}
use Rattle.mms_types.specs.declared.event.CellEvent.TheVariants.{Tick}
use Rattle.mms_types.specs.declared.key.Key.{Key}
use Rattle.mms_types.specs.declared.key.Scope.TheVariants.{Association}
use Rattle.mms_types.specs.declared.moment.Moment.{Moment}
use Rattle.cell_config.specs.declared.config.Config.{Config}
use Rattle.cell_config.specs.Said.{IsConfig}
use Rattle.token_sem.specs.declared.entry.Grant.{Grant}
use Rattle.token_sem.specs.declared.entry.SemEntry.{SemEntry}
use Rattle.token_sem.specs.Semaphore.{Loss, Rises, hung_entry, is_owner, is_queued, owned_by, waits_for}
use Rattle.token_sem.proofs.Keeping.{Among}
use Rattle.token_sem.proofs.Least.{Stands}
use Rattle.token_sem.proofs.Losing.{Each, each-owned, owner-not_queued, rises-filter}
use Rattle.pool_sem.specs.Pools.{IsPool, Pool as NamedTokens, after_leaving, grant_leaving, loss_of_one}
use Rattle.pool_sem.proofs.Losing.{one-lost, unqueued}
use Rattle.mms_time.specs.Deadlines.{NamedDeadline, expire_after}
use Rattle.mms_time.specs.Loss.{grants_of, loss_in, lost, semaphore_without}
use Rattle.mms_time.specs.Semaphores.{IsSound, Rows, changed_row, changed_to, entries_of}
use Rattle.mms_time.specs.declared.row.Semaphore.{Semaphore}
use Rattle.mms_time.specs.declared.row.Semaphore.TheVariants.{Token, Pool}
use Rattle.mms_time.specs.declared.row.SemaphoreRow.{SemaphoreRow}
use Rattle.sem_ticks.specs.Granted.{granted}
use Rattle.sem_ticks.specs.Sound.{AreSound}
use Rattle.sem_ticks.specs.Ticks.{Ticking}
use Rattle.sem_ticks.proofs.Kept.{row_found}
use Rattle.step_parts.specs.State.{State}
use Rattle.step_parts.specs.Step.{replay, step}
use Rattle.step_sound.proofs.Sound.{replay_sound}
use Rattle.cell_laws.specs.Freed.{IsPassedOn, Leaves, OwnsNamed, TimesOut, entries_found, grant_of, lost_so_far, named_tokens, named_tokens_found, owners_at, with_lost}
use Rattle.cell_laws.proofs.Freeing.{Found, IsTold, found-changed, freed, gone, granted-same, next_of, passes-on, row-changed}
use Rattle.cell_laws.proofs.Left.{Tells, abort-tells, gone-sound, leaves, lost-at, stands-right, told-stands}
use Rattle.cell_laws.proofs.Replayed.{replay_linked}

-- ---- lists

stands-first : {A : Type 0} (xs ys : List A) (x : A) → Stands xs x → Stands (xs ++ ys) x
stands-first [] ys x s = absurd s
stands-first (y ∷ xs) ys x (inl same) = inl same
stands-first (y ∷ xs) ys x (inr s) = inr (stands-first xs ys x s)

-- ---- a pool, when some owner entries of a client are lost

-- what holds of it then, and of the entry that is lost next
pub record Point (p : NamedTokens) (l : Loss) (owner : SemEntry) : Type 0 where
  pub sound : IsPool (record p { entries = l.entries })
  pub among : Among l.entries owner
  pub owns : is_owner owner ≡ true

point : (p : NamedTokens) (now : Moment) (first : List SemEntry) (owner : SemEntry) (others : List SemEntry) (l : Loss) (low : ℕ) → IsPool (record p { entries = l.entries })
    → Each l.entries (first ++ owner ∷ others) → Rises low (first ++ owner ∷ others) p.made → Point p (fold (loss_of_one now) l first) owner
point p now [] owner others l low is h r = record { sound = is; among = h.0.0; owns = h.0.1 }
point p now (o ∷ first) owner others l low is h r =
    let k = one-lost p l o (first ++ owner ∷ others) now is h r.1 in point p now first owner others (loss_of_one now l o) o.number k.0 k.1 r.1

-- grants that are told stay so
grants-stay : (now : Moment) (os : List SemEntry) (l : Loss) (g : Grant) → Stands l.grants g → Stands (fold (loss_of_one now) l os).grants g
grants-stay now [] l g s = s
grants-stay now (o ∷ os) l g s = grants-stay now os (loss_of_one now l o) g (by_keep o.keep)
  where
    by_keep : (b : Bool)
        → Stands (cond b (record l { entries = map (hung_entry o.number) l.entries }) (record { entries = after_leaving o now l.entries; grants = l.grants ++ option_to_list (grant_leaving o l.entries) })).grants g
    by_keep true = s
    by_keep false = stands-first l.grants (option_to_list (grant_leaving o l.entries)) g s

-- ---- in all semaphores

-- the pool of that name
record Has (key : Key) (rows : Rows) (client : ℕ) (first : List SemEntry) (owner : SemEntry) (others : List SemEntry) : Type 0 where
  tokens : NamedTokens
  found : Found key rows (Pool tokens)
  sound : IsPool tokens
  owners : filter (owned_by client) tokens.entries ≡ first ++ owner ∷ others

has-named : (key : Key) (rows : Rows) (client : ℕ) (first : List SemEntry) (owner : SemEntry) (owns : OwnsNamed key rows client first owner) → AreSound rows
    → Has key rows client first owner owns.others
has-named key rows client first owner owns sound = by_row (lookup (key_eq key) rows) refl owns.named owns.owners
  where
    by_semaphore : (row : SemaphoreRow) → lookup (key_eq key) rows ≡ Some row → (t : Semaphore) → row.semaphore ≡ t → IsSound t → named_tokens t ≡ true
        → filter (owned_by client) (entries_of row) ≡ first ++ owner ∷ owns.others → Has key rows client first owner owns.others
    by_semaphore row e (Token s) same is named h = absurd (cc named)
    by_semaphore row e (Pool p) same is named h = record {
      tokens = p;
      found = record { row = row; there = e; is = same };
      sound = is;
      owners = sym (ap (λ (t : Semaphore). filter (owned_by client) (entries_of (record row { semaphore = t }))) same) ∙ h;
    }

    by_row : (o : Option SemaphoreRow) → lookup (key_eq key) rows ≡ o → named_tokens_found o ≡ true → filter (owned_by client) (entries_found o) ≡ first ++ owner ∷ owns.others
        → Has key rows client first owner owns.others
    by_row None e named h = absurd (cc named)
    by_row (Some row) e named h = by_semaphore row e row.semaphore refl (row_found rows key row sound.each e) named h

module _ (key : Key) (rows : Rows) (client : ℕ) (now : Moment) (first : List SemEntry) (owner : SemEntry) (sound : AreSound rows) (owns : OwnsNamed key rows client first owner) where
  here : Has key rows client first owner owns.others
  here = has-named key rows client first owner owns sound

  abbrev p : NamedTokens
  p = here.tokens

  abbrev begun : Loss
  begun = record { entries = filter (λ e. not (waits_for client e)) p.entries; grants = [] }

  abbrev so_far : Loss
  so_far = fold (loss_of_one now) begun first

  abbrev at_point : NamedTokens
  at_point = record p { entries = so_far.entries }

  its : Point p so_far owner
  its =
      point p now first owner owns.others begun 0 (unqueued p client here.sound)
      (subst (Each (filter (λ e. not (waits_for client e)) p.entries)) here.owners (each-owned client p.entries))
      (subst (λ (os : List SemEntry). Rises 0 os p.made) here.owners (rises-filter (owned_by client) 0 p.made p.entries here.sound.rises))

  holds : is_queued owner ≡ false
  holds = owner-not_queued owner its.owns

  -- its token is freed
  abbrev freed_then : Loss
  freed_then = record { entries = after_leaving owner now so_far.entries; grants = so_far.grants ++ option_to_list (grant_leaving owner so_far.entries) }

  goes : loss_of_one now so_far owner ≡ freed_then
  goes = ap (λ b. cond b (record so_far { entries = map (hung_entry owner.number) so_far.entries }) freed_then) owns.unkept

  abbrev old : Rows
  old = lost_so_far client now first key rows

  abbrev new : Rows
  new = lost_so_far client now (first ++ owner ∷ []) key rows

  was : Found key old (Pool at_point)
  was = found-changed key rows (Pool p) here.found (with_lost client now first) (Pool at_point) refl

  then : Found key new (freed owner now (Pool at_point))
  then =
      found-changed key rows (Pool p) here.found (with_lost client now (first ++ owner ∷ [])) (freed owner now (Pool at_point))
      (ap (λ (l : Loss). Pool (record p { entries = l.entries })) (fold-append (loss_of_one now) begun first (owner ∷ []) ∙ goes))

  told : (t : State) → Tells key rows client now t → (e : SemEntry) → next_of owner.token so_far.entries ≡ Some e → IsTold t e (granted old (key, grant_of owner.token e))
  told t tells e served =
      subst (IsTold t e) (sym (granted-same key rows old (Pool p) (Pool at_point) g here.found was refl))
      (tells owner.token e (told-stands key rows client now here.found.row here.found.there g stands))
    where
      g : Grant
      g = grant_of owner.token e

      heir : grant_leaving owner so_far.entries ≡ Some g
      heir = (gone (Pool at_point) owner now its.sound its.among holds).heir ∙ ap (option_map (grant_of owner.token)) served

      among : Stands freed_then.grants g
      among = stands-right so_far.grants (option_to_list (grant_leaving owner so_far.entries)) g (subst (λ (o : Option Grant). Stands (option_to_list o) g) (sym heir) (inl refl))

      all : grants_of client now (Some here.found.row) ≡ (fold (loss_of_one now) freed_then owns.others).grants
      all =
          ap (λ (s : Semaphore). (loss_in client now s).grants) here.found.is
          ∙ ap (λ (os : List SemEntry). (fold (loss_of_one now) begun os).grants) here.owners
          ∙ ap (λ (l : Loss). l.grants) (fold-append (loss_of_one now) begun first (owner ∷ owns.others))
          ∙ ap (λ (l : Loss). (fold (loss_of_one now) l owns.others).grants) goes

      stands : Stands (grants_of client now (Some here.found.row)) g
      stands = subst (λ (l : List Grant). Stands l g) (sym all) (grants-stay now owns.others freed_then g among)

  pub named-on : (t : State) → Tells key rows client now t → IsPassedOn key owner.token now old new t
  named-on t tells = passes-on key now old new t (Pool at_point) owner its.sound its.among holds was then (told t tells)

-- ---- the last of them

one-last : (client : ℕ) (now : Moment) (row : SemaphoreRow) → changed_row (semaphore_without client now) row ≡ changed_row (with_lost client now (filter (owned_by client) (entries_of row))) row
one-last client now row = in_semaphore row.semaphore refl
  where
    in_semaphore : (t : Semaphore) → row.semaphore ≡ t
        → changed_row (semaphore_without client now) row ≡ changed_row (with_lost client now (filter (owned_by client) (entries_of row))) row
    in_semaphore t same =
        ap (λ (s : Semaphore). changed_row (semaphore_without client now) (record row { semaphore = s })) same
        ∙ by_kind t
        ∙ sym (ap (λ (s : Semaphore). changed_row (with_lost client now (filter (owned_by client) (entries_of (record row { semaphore = s })))) (record row { semaphore = s })) same)
      where
        by_kind : (s : Semaphore) → changed_row (semaphore_without client now) (record row { semaphore = s })
            ≡ changed_row (with_lost client now (filter (owned_by client) (entries_of (record row { semaphore = s })))) (record row { semaphore = s })
        by_kind (Token x) = refl
        by_kind (Pool x) = refl

pub lost-last : (client : ℕ) (now : Moment) (key : Key) (rows : Rows) → scope_eq key.scope (Association client) ≡ false
    → lookup (key_eq key) (lost client now rows) ≡ lookup (key_eq key) (lost_so_far client now (owners_at key client rows) key rows)
lost-last client now key rows lasting = lost-at key rows client now lasting ∙ by_row (lookup (key_eq key) rows) refl
  where
    by_row : (o : Option SemaphoreRow) → lookup (key_eq key) rows ≡ o
        → option_map (changed_row (semaphore_without client now)) o ≡ lookup (key_eq key) (lost_so_far client now (filter (owned_by client) (entries_found o)) key rows)
    by_row None e = sym e ∙ ap (λ (o : Option SemaphoreRow). lookup (key_eq key) (changed_to o (with_lost client now []) key rows)) (sym e)
    by_row (Some row) e = ap Some (one-last client now row) ∙ sym (row-changed (with_lost client now (filter (owned_by client) (entries_of row))) key rows row e)

-- ---- an association ends, or is aborted

pub replay_left_named : (config : Config) (history : List CellEvent) (event : CellEvent) (client : ℕ) (key : Key) (first : List SemEntry) (owner : SemEntry) → IsConfig config
    → Leaves client (replay config history) event → OwnsNamed key (replay config history).semaphores client first owner
    → IsPassedOn key owner.token (record { 0 = (replay config history).now })
    (lost_so_far client (record { 0 = (replay config history).now }) first key (replay config history).semaphores)
    (lost_so_far client (record { 0 = (replay config history).now }) (first ++ owner ∷ []) key (replay config history).semaphores) (step (replay config history) event)
replay_left_named config history event client key first owner is left owns =
    let sound = replay_sound config history is in
    named-on key (replay config history).semaphores client (record { 0 = (replay config history).now }) first owner sound.semaphores owns (step (replay config history) event)
    (leaves (length history) (replay config history) sound (replay_linked config history is).bound key event client left).tells

pub replay_left_last : (config : Config) (history : List CellEvent) (event : CellEvent) (client : ℕ) (key : Key) → IsConfig config
    → Leaves client (replay config history) event → scope_eq key.scope (Association client) ≡ false
    → lookup (key_eq key) (step (replay config history) event).semaphores
    ≡ lookup (key_eq key) (lost_so_far client (record { 0 = (replay config history).now }) (owners_at key client (replay config history).semaphores) key
    (replay config history).semaphores)
replay_left_last config history event client key is left lasting =
    ap (λ (rows : Rows). lookup (key_eq key) rows)
    (leaves (length history) (replay config history) (replay_sound config history is) (replay_linked config history is).bound key event client left).became
    ∙ lost-last client (record { 0 = (replay config history).now }) key (replay config history).semaphores lasting

pub replay_aborted_named : (config : Config) (history : List CellEvent) (ms : ℕ) (point : Ticking) (due : NamedDeadline) (entry : SemEntry) (key : Key) (first : List SemEntry)
    (owner : SemEntry) → IsConfig config → TimesOut (replay config history) ms point due entry → is_owner entry ≡ true → entry.abort ≡ Some true
    → OwnsNamed key (expire_after due.key due.entry due.at point.rows) entry.client first owner
    → IsPassedOn key owner.token due.at (lost_so_far entry.client due.at first key (expire_after due.key due.entry due.at point.rows))
    (lost_so_far entry.client due.at (first ++ owner ∷ []) key (expire_after due.key due.entry due.at point.rows)) (step (replay config history) (Tick ms))
replay_aborted_named config history ms point due entry key first owner is times own abort owns =
    let sound = replay_sound config history is in
    let bound = (replay_linked config history is).bound in
    named-on key (expire_after due.key due.entry due.at point.rows) entry.client due.at first owner
    (gone-sound (length history) (replay config history) sound bound ms point due entry times own abort key) owns (step (replay config history) (Tick ms))
    (abort-tells (length history) (replay config history) sound bound ms point due entry times own abort key)
