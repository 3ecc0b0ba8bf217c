-- An entry of a journal stays as it was written, until it goes for a cause.
use Rattle.std.proofs.Common.{◌≡◌, ◌⊎◌, inl, inr, ℕ, zero, suc, Bool, true, false, not, cond, List, [], ◌∷◌, ◌++◌, filter, length, Option, None, Some, is_some, if◌then◌else◌, refl, sym, ◌∙◌, ap, subst, arith}
use Rattle.std.specs.List.{All, Contains, IsDistinct}
use Rattle.std.specs.Map.{keys_of, lookup, set_value}
use Rattle.std.specs.Option.{option_map_or}
use Rattle.std.proofs.lemmas.List.Elements.{All-contains, Contains-append_left, filter_passes}
use Rattle.std.proofs.lemmas.Map.{lookup-remove_entry, lookup-set_value}
use Rattle.std.proofs.lemmas.Map.Entries.{lookup-filter-keys}
use Rattle.mms_types.specs.KeyLaws.{keys_equal}
use Rattle.mms_types.specs.Order.{key_eq, key_of, scope_eq}
use Rattle.mms_types.specs.declared.event.CellEvent.{CellEvent}
use Rattle.mms_types.specs.declared.event.CellEvent.TheVariants.{Heard, Lost, Tick, Ends, Drain}
use Rattle.mms_types.specs.declared.journal.JournalLimit.{JournalLimit}
use Rattle.mms_types.specs.declared.key.Key.{Key}
use Rattle.mms_types.specs.declared.key.Scope.TheVariants.{Association as OfClient}
use Rattle.mms_types.specs.declared.pdu.Request.{Request}
use Rattle.mms_types.specs.declared.pdu.Request.TheVariants as request
use Rattle.association.specs.Client.{ClientRow}
use Rattle.association.specs.declared.negotiation.Association.{Association}
use Rattle.association.specs.declared.negotiation.Association.TheVariants.{Idle, Open}
use Rattle.association.specs.declared.negotiation.Negotiated.{Negotiated}
use Rattle.association.specs.declared.waiting.Waiting.{Waiting}
use Rattle.mms_time.specs.Services.{take_told}
use Rattle.mms_time.specs.declared.taking.TakeDone.{TakeDone}
use Rattle.mms_time.specs.declared.taking.TakeDone.TheVariants as taken
use Rattle.sem_ticks.specs.Granted.{relinquish_granted}
use Rattle.sem_ticks.specs.declared.granted.Granted.{Granted}
use Rattle.mms_types.specs.declared.asked.Asked.{Asked}
use Rattle.association.specs.Asked.{asked_of}
use Rattle.mms_journal.specs.Journals.{Log, Rows, changed, named}
use Rattle.mms_journal.specs.Services.{goes, initialized, numbered, without, written_by}
use Rattle.mms_journal.specs.Services as journals
use Rattle.mms_journal.specs.declared.journal.Written.{Written}
use Rattle.cell_config.specs.declared.config.Config.{Config}
use Rattle.cell_config.specs.Said.{IsConfig}
use Rattle.parted_state.specs.Served.{row_at}
use Rattle.cell_client.specs.Association.{Came, Verdict, Tells, Takes, Replies, Exhausts, Concludes, Cancels, Aborts, verdict}
use Rattle.cell_client.specs.Requests.{size_of}
use Rattle.serve_domains.specs.Domains.{replied_to}
use Rattle.cell_services.specs.Requests.{among}
use Rattle.cell_services.specs.Services.{cause, effect, effect_of, reply_in, relinquish_outcome, take_outcome}
use Rattle.cell_services.specs.Serving.{is_served, is_served_in, journals_without, lost_in, meanwhile, resolved, tables_cancelled, tables_heard, tables_lost, waiting_of}
use Rattle.cell_services.specs.Tables.{Tables, own_domains}
use Rattle.step_sound.proofs.Sound.{replay_sound}
use Rattle.step_sound.specs.Answered.{EndsIt}
use Rattle.step_parts.specs.Partition.{cell}
use Rattle.step_parts.specs.State.{IsSound, State}
use Rattle.step_parts.specs.Step.{replay, step}
use Rattle.cell_laws.specs.Freed.{Leaves}
use Rattle.cell_laws.specs.Loads.{IsAbortedMeanwhile}
use Rattle.cell_laws.specs.Recorded.{EndsWith, GoesBy, IsRemoved, Removes, entries_found, recorded}
use Rattle.cell_laws.proofs.Bound.{key-same, key-test}
use Rattle.cell_laws.proofs.FewAlong.{replay_limits}
use Rattle.cell_laws.proofs.Hears.{admitted-open}
use Rattle.cell_laws.proofs.Linking.{Meant, numbered-client, resolved-meant, verdict-meant}

-- ---- a list of entries

none_there : {A : Type 0} (x : A) → Contains [] x → ⊥
none_there x (k, low, same) = omega (arith, low)

kept_there : {A : Type 0} (p : A → Bool) (xs : List A) (x : A) → p x ≡ true → Contains xs x → Contains (filter p xs) x
kept_there p [] x passes has = absurd (none_there x has)
kept_there {A} p (y ∷ ys) x passes (zero, low, same) =
    subst (λ (b : Bool). Contains (cond b (y ∷ filter p ys) (filter p ys)) x) (sym (ap p same ∙ passes)) (zero, omega arith, same)
kept_there {A} p (y ∷ ys) x passes (suc k, low, same) = by_test (p y) (kept_there p ys x passes (k, omega (arith, low), same))
  where
    by_test : (b : Bool) → Contains (filter p ys) x → Contains (cond b (y ∷ filter p ys) (filter p ys)) x
    by_test true (n, under, is) = (suc n, omega (arith, under), is)
    by_test false rest = rest

-- ---- a table of journals

module _ (key : Key) (entry : Written) where
  abbrev Has : Rows → Type 0
  Has rows = Contains (recorded key rows) entry

  has_same : (old new : Rows) → named key new ≡ named key old → Has old → Has new
  has_same old new same has = subst (λ (o : Option Log). Contains (entries_found o) entry) (sym same) has

  -- a journal is changed: this one, or another
  changed_has : (P : Type 0) (k : Key) (f : Log → Log) (rows : Rows) → ((j : Log) → Contains j.entries entry → Contains (f j).entries entry ⊎ P) → Has rows
      → Has (changed k f rows) ⊎ ((k ≡ key) × P)
  changed_has P k f rows each has = by_row (named k rows) refl
    where
      by_row : (o : Option Log) → named k rows ≡ o → Has (option_map_or (λ j. set_value (key_eq k) rows (f j)) o rows) ⊎ ((k ≡ key) × P)
      by_row None e = inl has
      by_row (Some j) e = by_key (key_eq k key) refl
        where
          look : named key (set_value (key_eq k) rows (f j)) ≡ cond (key_eq k key) (Some (f j)) (named key rows)
          look = lookup-set_value keys_equal (key_eq k) (λ x y h. keys_equal.congr k x y h) key (f j) rows (ap is_some e)

          by_then : k ≡ key → named key (set_value (key_eq k) rows (f j)) ≡ Some (f j) → Contains (f j).entries entry ⊎ P → Has (set_value (key_eq k) rows (f j)) ⊎ ((k ≡ key) × P)
          by_then same is (inl stays) = inl (subst (λ (o : Option Log). Contains (entries_found o) entry) (sym is) stays)
          by_then same is (inr cause) = inr (same, cause)

          by_key : (b : Bool) → key_eq k key ≡ b → Has (set_value (key_eq k) rows (f j)) ⊎ ((k ≡ key) × P)
          by_key true t =
              let same = key-same k key t in
              by_then same (look ∙ ap (λ (b : Bool). cond b (Some (f j)) (named key rows)) t)
              (each j (subst (λ (o : Option Log). Contains (entries_found o) entry) (ap (λ (x : Key). named x rows) (sym same) ∙ e) has))
          by_key false t = inl (has_same rows (set_value (key_eq k) rows (f j)) (look ∙ ap (λ (b : Bool). cond b (Some (f j)) (named key rows)) t) has)

  -- one more is made
  added_has : (rows : Rows) (row : Key × Log) → Has rows → Has (rows ++ row ∷ [])
  added_has [] row has = absurd (none_there entry has)
  added_has (first ∷ rows) row has = by_test (key_eq key first.0) (added_has rows row) has
    where
      by_test : (b : Bool) → (Has rows → Has (rows ++ row ∷ [])) → Contains (entries_found (cond b (Some first.1) (named key rows))) entry
          → Contains (entries_found (cond b (Some first.1) (named key (rows ++ row ∷ [])))) entry
      by_test true rest h = h
      by_test false rest h = rest h

  -- one is deleted: this one, or another
  removed_has : (k : Key) (rows : Rows) → IsDistinct key_eq (keys_of rows) → Has rows → Has (without k rows) ⊎ (k ≡ key)
  removed_has k rows distinct has = by_key (key_eq k key) refl
    where
      by_key : (b : Bool) → key_eq k key ≡ b → Has (without k rows) ⊎ (k ≡ key)
      by_key true t = inr (key-same k key t)
      by_key false t =
          inl (has_same rows (without k rows) (lookup-remove_entry keys_equal (key_eq k) (λ x y h. keys_equal.congr k x y h) key rows distinct
          ∙ ap (λ (b : Bool). cond b None (named key rows)) t) has)

  -- those of the association of a client go
  lost_look : (client : ℕ) (rows : Rows) → named key (journals.without_client client rows) ≡ cond (not (scope_eq key.scope (OfClient client))) (named key rows) None
  lost_look client rows =
      lookup-filter-keys (key_eq key) (λ (k : Key). not (scope_eq k.scope (OfClient client))) (not (scope_eq key.scope (OfClient client)))
      (λ k t. ap (λ (x : Key). not (scope_eq x.scope (OfClient client))) (sym (key-same key k t))) rows

  lost_has : (client : ℕ) (rows : Rows) → Has rows → Has (journals.without_client client rows) ⊎ (scope_eq key.scope (OfClient client) ≡ true)
  lost_has client rows has = by_test (scope_eq key.scope (OfClient client)) refl
    where
      by_test : (b : Bool) → scope_eq key.scope (OfClient client) ≡ b → Has (journals.without_client client rows) ⊎ (scope_eq key.scope (OfClient client) ≡ true)
      by_test true e = inr e
      by_test false e = inl (has_same rows (journals.without_client client rows) (lost_look client rows ∙ ap (λ (b : Bool). cond (not b) (named key rows) None) e) has)

  lost_all : (clients : List ℕ) (rows : Rows) → Has rows
      → Has (journals_without clients rows) ⊎ ((client : ℕ) × (scope_eq key.scope (OfClient client) ≡ true) × Contains clients client)
  lost_all [] rows has = inl has
  lost_all (c ∷ clients) rows has = by_lost (lost_all clients (journals.without_client c rows)) (lost_has c rows has)
    where
      Then : Type 0
      Then = Has (journals_without clients (journals.without_client c rows)) ⊎ ((client : ℕ) × (scope_eq key.scope (OfClient client) ≡ true) × Contains clients client)

      later : Then → Has (journals_without clients (journals.without_client c rows)) ⊎ ((client : ℕ) × (scope_eq key.scope (OfClient client) ≡ true) × Contains (c ∷ clients) client)
      later (inl stays) = inl stays
      later (inr (client, scope, (k, low, same))) = inr (client, scope, (suc k, omega (arith, low), same))

      by_lost : (Has (journals.without_client c rows) → Then) → Has (journals.without_client c rows) ⊎ (scope_eq key.scope (OfClient c) ≡ true)
          → Has (journals_without clients (journals.without_client c rows)) ⊎ ((client : ℕ) × (scope_eq key.scope (OfClient client) ≡ true) × Contains (c ∷ clients) client)
      by_lost rest (inl still) = later (rest still)
      by_lost rest (inr scope) = inr (c, scope, (zero, omega arith, refl))

  -- ---- what is heard

  module _ (t : Tables) (row : ClientRow) (distinct : IsDistinct key_eq (keys_of t.journals)) (has : Has t.journals) where
    asked_has : (invoke : ℕ) (asked : Request) → Has (effect t row invoke asked).tables.journals ⊎ Removes row.client key entry asked
    asked_has invoke (request.WriteJournal x) =
        by_cause (changed_has ⊥ (key_of row.client x.name) (written_by row.client x.entries) t.journals
        (λ j h. inl (Contains-append_left j.entries (numbered row.client j.written x.entries) entry h)) has)
      where
        by_cause : {A B : Type 0} → A ⊎ (B × ⊥) → A ⊎ ⊥
        by_cause (inl stays) = inl stays
        by_cause (inr h) = inr h.1
    asked_has invoke (request.InitializeJournal x) =
        changed_has (goes x.limit entry ≡ true) (key_of row.client x.name) (initialized x.limit) t.journals (λ j h. by_test (goes x.limit entry) refl j h) has
      where
        by_test : (b : Bool) → goes x.limit entry ≡ b → (j : Log) → Contains j.entries entry → Contains (initialized x.limit j).entries entry ⊎ (goes x.limit entry ≡ true)
        by_test true e j h = inr e
        by_test false e j h = inl (kept_there (λ w. not (goes x.limit w)) j.entries entry (ap not e) h)
    asked_has invoke (request.CreateJournal name) = inl (added_has t.journals (key_of row.client name, journals.created) has)
    asked_has invoke (request.DeleteJournal name) = removed_has (key_of row.client name) t.journals distinct has
    asked_has invoke (request.TakeControl x) = by_done (take_told row.client x t.semaphores)
      where
        by_done : (o : Option TakeDone) → Has (take_outcome t row.client invoke x o).tables.journals ⊎ ⊥
        by_done None = inl has
        by_done (Some (taken.Answered told)) = inl has
        by_done (Some (taken.Waits waits)) = inl has
    asked_has invoke (request.RelinquishControl x) = by_grant (relinquish_granted row.client x t.semaphores)
      where
        by_grant : (o : Option (Option Granted)) → Has (relinquish_outcome t row.client x o).tables.journals ⊎ ⊥
        by_grant None = inl has
        by_grant (Some grant) = inl has
    asked_has invoke asked = inl has

    -- it stays, or a request that is done takes it away, or it goes with the association of the client
    abbrev Stays : Verdict → Type 0
    Stays v =
        Has (tables_heard t row v).journals
        ⊎ (((invoke : ℕ) × (asked : Request) × (v ≡ Takes invoke asked) × (is_served t row invoke asked ≡ true) × Removes row.client key entry asked)
        ⊎ ((scope_eq key.scope (OfClient row.client) ≡ true) × EndsIt v))

    ends_has : (v : Verdict) → EndsIt v → (tables_heard t row v).journals ≡ journals.without_client row.client t.journals → Stays v
    ends_has v so is = by_lost (lost_has row.client t.journals has)
      where
        by_lost : Has (journals.without_client row.client t.journals) ⊎ (scope_eq key.scope (OfClient row.client) ≡ true) → Stays v
        by_lost (inl stays) = inl (subst Has (sym is) stays)
        by_lost (inr scope) = inr (inr (scope, so))

    heard_has : (v : Verdict) → Stays v
    heard_has (Tells effects) = inl has
    heard_has (Takes invoke asked) = by_test (is_served t row invoke asked) refl
      where
        by_asked : is_served t row invoke asked ≡ true → Has (effect t row invoke asked).tables.journals ⊎ Removes row.client key entry asked → Stays (Takes invoke asked)
        by_asked e (inl stays) = inl (subst (λ (b : Bool). Has (if b then (effect t row invoke asked).tables else t).journals) (sym e) stays)
        by_asked e (inr removes) = inr (inl (invoke, asked, refl, e, removes))

        by_test : (b : Bool) → is_served t row invoke asked ≡ b → Stays (Takes invoke asked)
        by_test true e = by_asked e (asked_has invoke asked)
        by_test false e = inl (subst (λ (b : Bool). Has (if b then (effect t row invoke asked).tables else t).journals) (sym e) has)
    heard_has (Replies number came) = inl (by_test (is_served_in t row number (reply_in number came)))
      where
        by_of : (o : Option (Asked × List ℕ)) → Has (among own_domains t (replied_to row.client number came o t.domains)).tables.journals
        by_of None = has
        by_of (Some of) = has

        by_test : (b : Bool) → Has (if b then (effect_of t row number (reply_in number came)).tables else t).journals
        by_test true = by_of (asked_of number row.asked)
        by_test false = has
    heard_has (Exhausts invoke) = ends_has (Exhausts invoke) tt refl
    heard_has Concludes = ends_has Concludes tt refl
    heard_has (Cancels invoke) = inl (by_waiting (waiting_of invoke row.waiting))
      where
        by_waiting : (o : Option Waiting) → Has (tables_cancelled o t).journals
        by_waiting None = has
        by_waiting (Some waits) = has
    heard_has Aborts = ends_has Aborts tt refl

  -- ---- each event

  module _ (count : ℕ) (s : State) (sound : IsSound count s) (distinct : IsDistinct key_eq (keys_of s.journals)) (has : Has s.journals) where
    abbrev t : Tables
    t = cell.tables_of s

    module _ (client : ℕ) where
      abbrev its : ClientRow
      its = row_at cell client s.clients

      asks_open : (invoke : ℕ) (asked : Request) → Meant its (Takes invoke asked) → its.client ≡ client
      asks_open invoke asked meant = numbered-client count s client sound (admitted-open invoke its meant)

      ends_open : (v : Verdict) → EndsIt v → Meant its v → its.client ≡ client
      ends_open Concludes so meant = numbered-client count s client sound meant
      ends_open Aborts so meant = numbered-client count s client sound meant
      ends_open (Exhausts invoke) so meant = numbered-client count s client sound meant
      ends_open other so meant = absurd so

      heard_or : (octets : List ℕ) → Has (step s (Heard client octets)).journals ⊎ GoesBy s (Heard client octets) key entry
      heard_or octets = by_stays (heard_has t its distinct has comes)
        where
          comes : Verdict
          comes = resolved t its (verdict its octets)

          meant : Meant its comes
          meant = resolved-meant t its (verdict its octets) (verdict-meant its octets)

          by_stays : Stays t its distinct has comes → Has (step s (Heard client octets)).journals ⊎ GoesBy s (Heard client octets) key entry
          by_stays (inl stays) = inl stays
          by_stays (inr (inl (invoke, asked, is, served, removes))) = inr (inl (record {
            client = client;
            octets = octets;
            heard = refl;
            invoke = invoke;
            asked = asked;
            taken = is;
            served = served;
            removes = subst (λ (c : ℕ). Removes c key entry asked) (asks_open invoke asked (subst (Meant its) is meant)) removes;
          }))
          by_stays (inr (inr (scope, so))) = inr (inr (record {
            client = client;
            scope = subst (λ (c : ℕ). scope_eq key.scope (OfClient c) ≡ true) (ends_open comes so meant) scope;
            ends = inl (refl, so);
          }))

      lost_or : Has (step s (Lost client)).journals ⊎ GoesBy s (Lost client) key entry
      lost_or = by_association its.association refl
        where
          After : Association → Type 0
          After a = Has (tables_lost a its.client t).journals

          by_lost : (a : Association) (values : Negotiated) → a ≡ Open values → its.association ≡ a → Has (journals.without_client its.client s.journals) ⊎ (scope_eq key.scope (OfClient its.client) ≡ true)
              → Has (step s (Lost client)).journals ⊎ GoesBy s (Lost client) key entry
          by_lost a values opened is (inl stays) = inl (subst After (sym (is ∙ opened)) stays)
          by_lost a values opened is (inr scope) = inr (inr (record {
            client = client;
            scope = subst (λ (c : ℕ). scope_eq key.scope (OfClient c) ≡ true) (numbered-client count s client sound (λ idle. cc (sym (is ∙ opened) ∙ idle))) scope;
            ends = inl (refl, values, is ∙ opened);
          }))

          by_association : (a : Association) → its.association ≡ a → Has (step s (Lost client)).journals ⊎ GoesBy s (Lost client) key entry
          by_association Idle is = inl (subst After (sym is) has)
          by_association (Open values) is = by_lost (Open values) values refl is (lost_has its.client s.journals has)

    stays_or : (event : CellEvent) → Has (step s event).journals ⊎ GoesBy s event key entry
    stays_or (Heard client octets) = heard_or client octets
    stays_or (Lost client) = lost_or client
    stays_or (Tick ms) = by_lost (lost_all (lost_in (meanwhile ms t).happened) s.journals has)
      where
        by_lost : Has (journals_without (lost_in (meanwhile ms t).happened) s.journals)
            ⊎ ((client : ℕ) × (scope_eq key.scope (OfClient client) ≡ true) × Contains (lost_in (meanwhile ms t).happened) client)
            → Has (step s (Tick ms)).journals ⊎ GoesBy s (Tick ms) key entry
        by_lost (inl stays) = inl stays
        by_lost (inr (client, scope, lost)) = inr (inr (record { client = client; scope = scope; ends = inr (record { ms = ms; passes = refl; among = lost }) }))
    stays_or (Ends program) = inl has
    stays_or (Drain client) = inl has

pub entry_stays : (config : Config) (history : List CellEvent) (event : CellEvent) (key : Key) (entry : Written) → IsConfig config
    → Contains (recorded key (replay config history).journals) entry
    → Contains (recorded key (step (replay config history) event).journals) entry ⊎ GoesBy (replay config history) event key entry
entry_stays config history event key entry is has =
    stays_or key entry (length history) (replay config history) (replay_sound config history is) (replay_limits config history is).journals.distinct has event

-- ---- where there is a cause, it goes

module _ (key : Key) (entry : Written) where
  gone_by : (rows : Rows) → named key rows ≡ None → Has key entry rows → ⊥
  gone_by rows none has = none_there entry (subst (λ (o : Option Log). Contains (entries_found o) entry) none has)

  initialized_gone : (limit : Option JournalLimit) (rows : Rows) → goes limit entry ≡ true → Has key entry (changed key (initialized limit) rows) → ⊥
  initialized_gone limit rows its has = by_row (named key rows) refl has
    where
      by_row : (o : Option Log) → named key rows ≡ o → Has key entry (option_map_or (λ j. set_value (key_eq key) rows (initialized limit j)) o rows) → ⊥
      by_row None e h = gone_by rows e h
      by_row (Some j) e h =
          let look = lookup-set_value keys_equal (key_eq key) (λ x y g. keys_equal.congr key x y g) key (initialized limit j) rows (ap is_some e)
          ∙ ap (λ (b : Bool). cond b (Some (initialized limit j)) (named key rows)) (key-test key key refl) in
          let stays : Contains (filter (λ w. not (goes limit w)) j.entries) entry = subst (λ (o : Option Log). Contains (entries_found o) entry) look h in
          let passes = All-contains (λ w. not (goes limit w) ≡ true) (filter (λ w. not (goes limit w)) j.entries) entry (filter_passes (λ w. not (goes limit w)) j.entries) stays in
          cc (sym (ap not its) ∙ passes)

  deleted_gone : (rows : Rows) → IsDistinct key_eq (keys_of rows) → Has key entry (without key rows) → ⊥
  deleted_gone rows distinct =
      gone_by (without key rows) (lookup-remove_entry keys_equal (key_eq key) (λ x y h. keys_equal.congr key x y h) key rows distinct
      ∙ ap (λ (b : Bool). cond b None (named key rows)) (key-test key key refl))

  lost_none : (client : ℕ) (rows : Rows) → scope_eq key.scope (OfClient client) ≡ true → named key (journals.without_client client rows) ≡ None
  lost_none client rows scope = lost_look key entry client rows ∙ ap (λ (b : Bool). cond (not b) (named key rows) None) scope

  still_none : (clients : List ℕ) (rows : Rows) → named key rows ≡ None → named key (journals_without clients rows) ≡ None
  still_none [] rows none = none
  still_none (c ∷ clients) rows none =
      still_none clients (journals.without_client c rows) (lost_look key entry c rows ∙ by_scope (not (scope_eq key.scope (OfClient c))))
    where
      by_scope : (b : Bool) → cond b (named key rows) None ≡ None
      by_scope true = none
      by_scope false = refl

  among_none : (client : ℕ) → scope_eq key.scope (OfClient client) ≡ true → (clients : List ℕ) (rows : Rows) → Contains clients client → named key (journals_without clients rows) ≡ None
  among_none client scope [] rows lost = absurd (none_there client lost)
  among_none client scope (c ∷ clients) rows (zero, low, same) =
      still_none clients (journals.without_client c rows) (lost_none c rows (subst (λ (x : ℕ). scope_eq key.scope (OfClient x) ≡ true) (sym same) scope))
  among_none client scope (c ∷ clients) rows (suc k, low, same) = among_none client scope clients (journals.without_client c rows) (k, omega (arith, low), same)

  module _ (count : ℕ) (s : State) (sound : IsSound count s) (distinct : IsDistinct key_eq (keys_of s.journals)) where
    abbrev old : Tables
    old = cell.tables_of s

    asked_gone : (client invoke : ℕ) (row : ClientRow) (asked : Request) → row.client ≡ client → Removes client key entry asked → Has key entry (effect old row invoke asked).tables.journals → ⊥
    asked_gone client invoke row (request.InitializeJournal x) same removes has =
        let named_so : key_of row.client x.name ≡ key = ap (λ (c : ℕ). key_of c x.name) same ∙ removes.0 in
        initialized_gone x.limit s.journals removes.1 (subst (λ (k : Key). Has key entry (changed k (initialized x.limit) s.journals)) named_so has)
    asked_gone client invoke row (request.DeleteJournal name) same removes has =
        let named_so : key_of row.client name ≡ key = ap (λ (c : ℕ). key_of c name) same ∙ removes in
        deleted_gone s.journals distinct (subst (λ (k : Key). Has key entry (without k s.journals)) named_so has)
    asked_gone client invoke row other same removes has = absurd removes

    heard_gone : (client invoke : ℕ) (octets : List ℕ) (asked : Request)
        → resolved old (row_at cell client s.clients) (verdict (row_at cell client s.clients) octets) ≡ Takes invoke asked
        → is_served old (row_at cell client s.clients) invoke asked ≡ true → Removes client key entry asked → Has key entry (step s (Heard client octets)).journals → ⊥
    heard_gone client invoke octets asked is served removes has =
        let row : ClientRow = row_at cell client s.clients in
        let meant : Meant row (resolved old row (verdict row octets)) = resolved-meant old row (verdict row octets) (verdict-meant row octets) in
        let same : row.client ≡ client = numbered-client count s client sound (admitted-open invoke row (subst (Meant row) is meant)) in
        let taken_has : Has key entry (tables_heard old row (Takes invoke asked)).journals = subst (λ (v : Verdict). Has key entry (tables_heard old row v).journals) is has in
        asked_gone client invoke row asked same removes (subst (λ (b : Bool). Has key entry (if b then (effect old row invoke asked).tables else old).journals) served taken_has)

    ending : (row : ClientRow) (v : Verdict) → EndsIt v → (tables_heard old row v).journals ≡ journals.without_client row.client s.journals
    ending row Concludes so = refl
    ending row Aborts so = refl
    ending row (Exhausts invoke) so = refl
    ending row other so = absurd so

    unidle : (row : ClientRow) (v : Verdict) → EndsIt v → Meant row v → row.association ≡ Idle → ⊥
    unidle row Concludes so m = m
    unidle row Aborts so m = m
    unidle row (Exhausts invoke) so m = m
    unidle row other so m = absurd so

    left_none : (leaver client : ℕ) → client ≡ leaver → ((row_at cell client s.clients).association ≡ Idle → ⊥) → scope_eq key.scope (OfClient leaver) ≡ true
        → named key (journals.without_client (row_at cell client s.clients).client s.journals) ≡ None
    left_none leaver client same some scope =
        lost_none (row_at cell client s.clients).client s.journals
        (subst (λ (c : ℕ). scope_eq key.scope (OfClient c) ≡ true) (sym (numbered-client count s client sound some ∙ same)) scope)

    left_gone : (leaver : ℕ) → scope_eq key.scope (OfClient leaver) ≡ true → (event : CellEvent) → Leaves leaver s event → named key (step s event).journals ≡ None
    left_gone leaver scope (Heard client octets) (same, so) =
        let row : ClientRow = row_at cell client s.clients in
        let v : Verdict = resolved old row (verdict row octets) in
        ap (named key) (ending row v so) ∙ left_none leaver client same (unidle row v so (resolved-meant old row (verdict row octets) (verdict-meant row octets))) scope
    left_gone leaver scope (Lost client) (same, values, is) =
        ap (λ (a : Association). named key (tables_lost a (row_at cell client s.clients).client old).journals) is ∙ left_none leaver client same (λ idle. cc (sym is ∙ idle)) scope
    left_gone leaver scope (Tick ms) left = absurd left
    left_gone leaver scope (Ends program) left = absurd left
    left_gone leaver scope (Drain client) left = absurd left

    goes_by : (event : CellEvent) → GoesBy s event key entry → Has key entry (step s event).journals → ⊥
    goes_by event (inl r) has =
        heard_gone r.client r.invoke r.octets r.asked r.taken r.served r.removes (subst (λ (e : CellEvent). Has key entry (step s e).journals) r.heard has)
    goes_by event (inr with) has = by_end with.ends
      where
        by_end : Leaves with.client s event ⊎ IsAbortedMeanwhile with.client s event → ⊥
        by_end (inl left) = gone_by (step s event).journals (left_gone with.client with.scope event left) has
        by_end (inr aborted) =
            gone_by (step s event).journals (ap (λ (e : CellEvent). named key (step s e).journals) aborted.passes
            ∙ among_none with.client with.scope (lost_in (meanwhile aborted.ms old).happened) s.journals aborted.among) has

pub entry_goes : (config : Config) (history : List CellEvent) (event : CellEvent) (key : Key) (entry : Written) → IsConfig config
    → GoesBy (replay config history) event key entry → Contains (recorded key (step (replay config history) event).journals) entry → ⊥
entry_goes config history event key entry is =
    goes_by key entry (length history) (replay config history) (replay_sound config history is) (replay_limits config history is).journals.distinct event
