-- What holds of each client that has anything in the tables holds so after requests, and after the loss of a client of
-- all others.
use Rattle.std.proofs.Common.{◌≡◌, ℕ, ℤ, Bool, true, false, not, cond, ◌==◌, List, [], ◌∷◌, ◌++◌, filter, map, length, Option, None, Some, IfSome, if◌then◌else◌, refl, sym, subst, nat_le}
use Rattle.std.specs.List.{AllByRecursion}
use Rattle.std.specs.Option.{option_map_or}
use Rattle.std.specs.Map.{lookup, remove_entry, set_value}
use Rattle.mms_types.specs.Order.{key_eq, key_of, scope_eq}
use Rattle.mms_types.specs.declared.asked.Reply.{Reply}
use Rattle.mms_types.specs.declared.asked.Reply.TheVariants as reply
use Rattle.mms_types.specs.declared.domain.Segment.{Segment}
use Rattle.mms_types.specs.declared.key.Key.{Key}
use Rattle.mms_types.specs.declared.key.Scope.{Scope}
use Rattle.mms_types.specs.declared.key.Scope.TheVariants.{Vmd, Domain as OfDomain, Association as OfClient}
use Rattle.mms_types.specs.declared.object_name.ObjectName.{ObjectName}
use Rattle.mms_types.specs.declared.object_name.ObjectName.TheVariants as name
use Rattle.mms_types.specs.declared.pdu.Request.{Request}
use Rattle.mms_types.specs.declared.pdu.Request.TheVariants as request
use Rattle.mms_types.specs.declared.semaphore.TakeControl.{TakeControl}
use Rattle.association.specs.Client.{ClientRow}
use Rattle.association.specs.declared.waiting.Waiting.{Waiting}
use Rattle.object_names.specs.Deletion.{selects}
use Rattle.variables.specs.Access.{flagged}
use Rattle.variables.specs.Definitions as variables
use Rattle.variables.specs.declared.rows.Variable.{Variable}
use Rattle.variable_lists.specs.Lists as lists
use Rattle.variable_services.specs.declared.tables.VariableTables.{VariableTables}
use Rattle.variable_services.specs.Services.{pairs}
use Rattle.mms_time.specs.Loss.{all_changed, without_owners, without_waiters}
use Rattle.mms_time.specs.Semaphores.{Rows, entry_in, entry_waits}
use Rattle.mms_time.specs.Services.{cancel_after, cancelled, define_after, delete_after, new_semaphore, relinquish_after, take_after, take_told, with_take, with_token_back, without_entry}
use Rattle.mms_time.specs.Parts.{part_of_row}
use Rattle.parted_state.specs.Gathered.{put_behind}
use Rattle.mms_time.specs.declared.taking.TakeDone.{TakeDone}
use Rattle.mms_time.specs.declared.taking.TakeDone.TheVariants.{Answered, Waits}
use Rattle.sem_ticks.specs.Granted.{relinquish_granted}
use Rattle.sem_ticks.specs.Sound.{AreSound}
use Rattle.sem_ticks.specs.declared.granted.Granted.{Granted}
use Rattle.sem_ticks.proofs.Kept.{row_found}
use Rattle.event_cond.specs.Services.{after_define, defined}
use Rattle.event_enrol.specs.Enrolments as enrol
use Rattle.event_enrol.specs.declared.enrolment.Enrolment.{Enrolment}
use Rattle.cell_client.specs.Facts.{Facts}
use Rattle.serve_events.specs.Events.{after_alter, after_delete, after_trigger, alter_condition, define_condition, delete_conditions, trigger}
use Rattle.serve_events.specs.declared.tables.EventTables.{EventTables}
use Rattle.domain_load.specs.Domains as domain
use Rattle.domain_load.specs.Domains.{is_there, name_eq}
use Rattle.domain_load.specs.Loading.{changed as changed_domain, initiate_after, loaded, reply_after, with_segment, would_pass}
use Rattle.domain_load.specs.Standing.{is_loaded_by}
use Rattle.domain_load.specs.Used.{after_unused, after_used, had_by, left_by}
use Rattle.domain_load.specs.declared.domain.Domain.{Domain}
use Rattle.domain_upload.specs.Uploads.{after_piece, is_upload, piece_of, upload_after}
use Rattle.domain_upload.specs.declared.upload.Upload.{Upload}
use Rattle.mms_journal.specs.Journals.{Rows as Books}
use Rattle.mms_journal.specs.Services.{after_create, after_delete as after_delete_journal, after_initialize, after_write, created, initialized, written_by}
use Rattle.program_inv.specs.Programs as program
use Rattle.program_inv.specs.declared.invocation.Invocation.{Invocation}
use Rattle.serve_programs.specs.Programs as programs
use Rattle.serve_variables.specs.Variables.{write}
use Rattle.cell_client.specs.Requests.{size_of}
use Rattle.cell_services.specs.Requests.{told_in}
use Rattle.cell_services.specs.Services.{effect, relinquish_outcome, take_outcome}
use Rattle.cell_services.specs.Serving.{tables_cancelled, without_client}
use Rattle.cell_services.specs.Tables.{Tables, moment_of, own_events, own_variables}
use Rattle.cell_laws.proofs.EachName.{Each, each_added, each_put, each_changed, each_kept, each_left, each_mapped, each_removed}
use Rattle.cell_laws.proofs.ScopesKept.{NamesAre, each_cancelled, each_condition, each_journal, names_weaker, writes_stay}
use Rattle.cell_laws.proofs.Unhung.{AllRows, back-fits, changed-fits, entry-fits, rows-lost, take-fits}

-- ---- whose what is

abbrev pub OfScope : (ℕ → Type 0) → Scope → Type 0
OfScope Q (OfClient client) = Q client
OfScope Q Vmd = Unit {0}
OfScope Q (OfDomain name) = Unit {0}

abbrev pub OfKey : (ℕ → Type 0) → Key → Type 0
OfKey Q key = OfScope Q key.scope

abbrev pub OfUpload : (ℕ → Type 0) → Upload → Type 0
OfUpload Q upload = Q upload.client

abbrev pub OfLoad : (ℕ → Type 0) → List ℕ × Domain → Type 0
OfLoad Q row = IfSome row.1.loader Q

-- something holds of each client that has anything in the tables, but for enrollments that it defined
pub record TheirsAre (Q : ℕ → Type 0) (t : Tables) : Type 0 where
  pub names : NamesAre (OfKey Q) t.variables t.events t.journals t.semaphores
  pub uploads : AllByRecursion (OfUpload Q) t.domains.uploads.rows
  pub loads : AllByRecursion (OfLoad Q) t.domains.domains
  pub entries : AllRows Q t.semaphores

-- ---- lists

module _ {A : Type 0} (P R : A → Type 0) where
  each-of : (p : A → Bool) → ((x : A) → p x ≡ true → P x → R x) → (xs : List A) → AllByRecursion P xs → AllByRecursion R (filter p xs)
  each-of p one [] all = tt
  each-of p one (x ∷ xs) all = by_test (p x) refl (each-of p one xs all.1)
    where
      by_test : (b : Bool) → p x ≡ b → AllByRecursion R (filter p xs) → AllByRecursion R (cond b (x ∷ filter p xs) (filter p xs))
      by_test true e rest = (one x e all.0, rest)
      by_test false e rest = rest

  all-weaker : ((x : A) → P x → R x) → (xs : List A) → AllByRecursion P xs → AllByRecursion R xs
  all-weaker one [] all = tt
  all-weaker one (x ∷ xs) all = (one x all.0, all-weaker one xs all.1)

module _ {A : Type 0} (P : A → Type 0) where
  all-added : (xs : List A) (x : A) → AllByRecursion P xs → P x → AllByRecursion P (xs ++ x ∷ [])
  all-added [] x all new = (new, tt)
  all-added (y ∷ xs) x all new = (all.0, all-added xs x all.1 new)

  all-put : (place : A → ℕ) (xs : List A) (x : A) → AllByRecursion P xs → P x → AllByRecursion P (put_behind place x xs)
  all-put place [] x all new = (new, tt)
  all-put place (y ∷ xs) x all new = by_test (nat_le (place y) (place x)) (all-put place xs x all.1 new)
    where
      by_test : (b : Bool) → AllByRecursion P (put_behind place x xs) → AllByRecursion P (if b then y ∷ put_behind place x xs else x ∷ y ∷ xs)
      by_test true rest = (all.0, rest)
      by_test false rest = (new, all)

  all-mapped : (f : A → A) → ((x : A) → P x → P (f x)) → (xs : List A) → AllByRecursion P xs → AllByRecursion P (map f xs)
  all-mapped f one [] all = tt
  all-mapped f one (x ∷ xs) all = (one x all.0, all-mapped f one xs all.1)

names-of : {T : Type 0} (P R : Key → Type 0) (p : Key × T → Bool) → ((row : Key × T) → p row ≡ true → P row.0 → R row.0) → (rows : List (Key × T)) → Each P rows → Each R (filter p rows)
names-of P R p one [] all = tt
names-of {T} P R p one (row ∷ rows) all = by_test (p row) refl (names-of P R p one rows all.1)
  where
    by_test : (b : Bool) → p row ≡ b → Each R (filter p rows) → Each R (cond b (row ∷ filter p rows) (filter p rows))
    by_test true e rest = (one row e all.0, rest)
    by_test false e rest = rest

isn't : (b : Bool) → not b ≡ true → b ≡ false
isn't true h = absurd (cc h)
isn't false h = refl

-- ---- of fewer

module _ (Q R : ℕ → Type 0) (t : Tables) where
  pub theirs-weaker : ((c : ℕ) → Q c → R c) → TheirsAre Q t → TheirsAre R t
  theirs-weaker weaker all = record {
    names = names_weaker (OfKey Q) (OfKey R) t.variables t.events t.journals t.semaphores (λ key is. by_scope key.scope is) all.names;
    uploads = all-weaker (OfUpload Q) (OfUpload R) (λ u is. weaker u.client is) t.domains.uploads.rows all.uploads;
    loads = all-weaker (OfLoad Q) (OfLoad R) (λ row is. by_loader row.1.loader is) t.domains.domains all.loads;
    entries = all-weaker _ _ (λ row is e s h. weaker e.client (is e s h)) t.semaphores all.entries;
  }
    where
      by_scope : (s : Scope) → OfScope Q s → OfScope R s
      by_scope (OfClient client) is = weaker client is
      by_scope Vmd is = tt
      by_scope (OfDomain name) is = tt

      by_loader : (o : Option ℕ) → IfSome o Q → IfSome o R
      by_loader None is = tt
      by_loader (Some c) is = weaker c is

  -- ---- a client is lost, of whom nothing is left

  pub theirs-lost : (client : ℕ) → ((c : ℕ) → (c == client) ≡ false → Q c → R c) → AreSound t.semaphores → TheirsAre Q t → TheirsAre R (without_client client t)
  theirs-lost client other sound all = record {
    names = record {
      variables = names-of (OfKey Q) (OfKey R) (λ row. not (scope_eq row.0.scope (OfClient client))) (λ row e is. kept row.0 e is) t.variables.vars.variables all.names.variables;
      lists = names-of (OfKey Q) (OfKey R) (λ row. not (scope_eq row.0.scope (OfClient client))) (λ row e is. kept row.0 e is) t.variables.lists all.names.lists;
      conditions = names-of (OfKey Q) (OfKey R) (λ row. not (scope_eq row.0.scope (OfClient client))) (λ row e is. kept row.0 e is) t.events.conditions all.names.conditions;
      enrolments = names-of (OfKey Q) (OfKey R) (λ row. not (scope_eq row.0.scope (OfClient client))) (λ row e is. kept row.0 e is)
          (filter (λ (row : Key × Enrolment). not (enrol.is_of client row)) t.events.enrolments)
          (each_kept (OfKey Q) (λ (row : Key × Enrolment). not (enrol.is_of client row)) t.events.enrolments all.names.enrolments);
      journals = names-of (OfKey Q) (OfKey R) (λ row. not (scope_eq row.0.scope (OfClient client))) (λ row e is. kept row.0 e is) t.journals all.names.journals;
      semaphores = names-of (OfKey Q) (OfKey R) (λ row. not (scope_eq row.0.scope (OfClient client))) (λ row e is. kept row.0 e is)
          (all_changed (without_owners client (moment_of t)) (all_changed (without_waiters client) t.semaphores))
          (each_mapped (OfKey Q) (without_owners client (moment_of t)) (all_changed (without_waiters client) t.semaphores)
          (each_mapped (OfKey Q) (without_waiters client) t.semaphores all.names.semaphores));
    };
    uploads = each-of (OfUpload Q) (OfUpload R) (λ u. not (u.client == client)) (λ u e is. other u.client (isn't (u.client == client) e) is) t.domains.uploads.rows all.uploads;
    loads = each-of (OfLoad Q) (OfLoad R) (λ row. not (is_loaded_by client row.1)) (λ row e is. by_loader row.1.loader (isn't (is_loaded_by client row.1) e) is) t.domains.domains all.loads;
    entries = rows-lost Q R client other (moment_of t) t.semaphores sound all.entries;
  }
    where
      kept : (key : Key) → not (scope_eq key.scope (OfClient client)) ≡ true → OfKey Q key → OfKey R key
      kept key e is = by_scope key.scope e is
        where
          by_scope : (s : Scope) → not (scope_eq s (OfClient client)) ≡ true → OfScope Q s → OfScope R s
          by_scope (OfClient c) e is = other c (isn't (c == client) e) is
          by_scope Vmd e is = tt
          by_scope (OfDomain name) e is = tt

      by_loader : (o : Option ℕ) → option_map_or (λ loader. loader == client) o false ≡ false → IfSome o Q → IfSome o R
      by_loader None e is = tt
      by_loader (Some c) e is = other c e is

-- ---- domains

module _ (Q : ℕ → Type 0) where
  loads-found : (test : List ℕ → Bool) (rows : domain.Rows) (d : Domain) → lookup test rows ≡ Some d → AllByRecursion (OfLoad Q) rows → IfSome d.loader Q
  loads-found test [] d found all = absurd (cc found)
  loads-found test (first ∷ rows) d found all = by_test (test first.0) (loads-found test rows d) found
    where
      by_test : (b : Bool) → (lookup test rows ≡ Some d → AllByRecursion (OfLoad Q) rows → IfSome d.loader Q) → cond b (Some first.1) (lookup test rows) ≡ Some d → IfSome d.loader Q
      by_test true rest h = let same : first.1 ≡ d = cc h in subst (λ (x : Domain). IfSome x.loader Q) same all.0
      by_test false rest h = rest h all.1

  loads-set : (test : List ℕ → Bool) (rows : domain.Rows) (new : Domain) → AllByRecursion (OfLoad Q) rows → IfSome new.loader Q → AllByRecursion (OfLoad Q) (set_value test rows new)
  loads-set test [] new all its = tt
  loads-set test (first ∷ rows) new all its = by_test (test first.0) (loads-set test rows new all.1 its)
    where
      by_test : (b : Bool) → AllByRecursion (OfLoad Q) (set_value test rows new) → AllByRecursion (OfLoad Q) (cond b ((first.0, new) ∷ rows) (first ∷ set_value test rows new))
      by_test true rest = (its, all.1)
      by_test false rest = (all.0, rest)

  loads-removed : (test : List ℕ → Bool) (rows : domain.Rows) → AllByRecursion (OfLoad Q) rows → AllByRecursion (OfLoad Q) (remove_entry test rows)
  loads-removed test [] all = tt
  loads-removed test (first ∷ rows) all = by_test (test first.0) (loads-removed test rows all.1)
    where
      by_test : (b : Bool) → AllByRecursion (OfLoad Q) (remove_entry test rows) → AllByRecursion (OfLoad Q) (cond b rows (first ∷ remove_entry test rows))
      by_test true rest = all.1
      by_test false rest = (all.0, rest)

  loads-changed : (name : List ℕ) (f : Domain → Domain) → ((d : Domain) → IfSome d.loader Q → IfSome (f d).loader Q) → (rows : domain.Rows) → AllByRecursion (OfLoad Q) rows
      → AllByRecursion (OfLoad Q) (changed_domain name f rows)
  loads-changed name f one rows all = by_named (domain.named name rows) refl
    where
      by_named : (o : Option Domain) → domain.named name rows ≡ o → AllByRecursion (OfLoad Q) (option_map_or (λ d. set_value (name_eq name) rows (f d)) o rows)
      by_named None e = all
      by_named (Some d) e = loads-set (name_eq name) rows (f d) all (one d (loads-found (name_eq name) rows d e all))

  loads-used : (names : List (List ℕ)) (by : List ℕ) (rows : domain.Rows) → AllByRecursion (OfLoad Q) rows → AllByRecursion (OfLoad Q) (after_used names by rows)
  loads-used [] by rows all = all
  loads-used (name ∷ names) by rows all = loads-used names by (changed_domain name (had_by by) rows) (loads-changed name (had_by by) (λ d is. is) rows all)

  loads-unused : (names : List (List ℕ)) (by : List ℕ) (rows : domain.Rows) → AllByRecursion (OfLoad Q) rows → AllByRecursion (OfLoad Q) (after_unused names by rows)
  loads-unused [] by rows all = all
  loads-unused (name ∷ names) by rows all = loads-unused names by (changed_domain name (left_by by) rows) (loads-changed name (left_by by) (λ d is. is) rows all)

  loads-replied : (answer : Reply) (rows : domain.Rows) → AllByRecursion (OfLoad Q) rows → AllByRecursion (OfLoad Q) (reply_after answer rows)
  loads-replied (reply.Segment name octets more) rows all = by_test (is_there (would_pass (length octets)) name rows)
    where
      by_test : (b : Bool) → AllByRecursion (OfLoad Q) (if b then domain.without name rows else changed_domain name (with_segment octets) rows)
      by_test true = loads-removed (name_eq name) rows all
      by_test false = loads-changed name (with_segment octets) (λ d is. is) rows all
  loads-replied (reply.Ended name) rows all = loads-changed name loaded (λ d is. tt) rows all
  loads-replied (reply.Failed name kind) rows all = loads-removed (name_eq name) rows all

-- ---- uploads

piece-same : (Q : ℕ → Type 0) (client : ℕ) (number : ℤ) (size : ℕ) (rows : domain.Rows) (u : Upload) → Q u.client → Q (upload_after client number size rows u).client
piece-same Q client number size rows u is = by_test (is_upload client number u)
  where
    by_piece : (o : Option Segment) → Q (option_map_or (after_piece u) o u).client
    by_piece None = is
    by_piece (Some piece) = is

    by_test : (b : Bool) → Q (if b then option_map_or (after_piece u) (piece_of size rows u) u else u).client
    by_test true = by_piece (piece_of size rows u)
    by_test false = is

-- ---- requests

module _ (Q : ℕ → Type 0) (t : Tables) (sound : AreSound t.semaphores) (all : TheirsAre Q t) where
  abbrev OfName : Key → Type 0
  OfName key = OfKey Q key

  -- one of the tables becomes another
  pub with-names : (v : VariableTables) (e : EventTables) (j : Books) → NamesAre OfName v e j t.semaphores → TheirsAre Q (record t { variables = v; events = e; journals = j })
  with-names v e j names = record { names = names; uploads = all.uploads; loads = all.loads; entries = all.entries }

  with-variables : (rows : List (Key × Variable)) → Each OfName rows → TheirsAre Q (record t { variables = record t.variables { vars = record t.variables.vars { variables = rows } } })
  with-variables rows each = with-names (record t.variables { vars = record t.variables.vars { variables = rows } }) t.events t.journals
      (record {
        variables = each;
        lists = all.names.lists;
        conditions = all.names.conditions;
        enrolments = all.names.enrolments;
        journals = all.names.journals;
        semaphores = all.names.semaphores;
      })

  with-lists : (rows : lists.Rows) → Each OfName rows → TheirsAre Q (record t { variables = record t.variables { lists = rows } })
  with-lists rows each = with-names (record t.variables { lists = rows }) t.events t.journals
      (record {
        variables = all.names.variables;
        lists = each;
        conditions = all.names.conditions;
        enrolments = all.names.enrolments;
        journals = all.names.journals;
        semaphores = all.names.semaphores;
      })

  pub with-events : (e : EventTables) → Each OfName e.conditions → Each OfName e.enrolments → TheirsAre Q (record t { events = e })
  with-events e conditions enrolments = with-names t.variables e t.journals
      (record {
        variables = all.names.variables;
        lists = all.names.lists;
        conditions = conditions;
        enrolments = enrolments;
        journals = all.names.journals;
        semaphores = all.names.semaphores;
      })

  with-journals : (rows : Books) → Each OfName rows → TheirsAre Q (record t { journals = rows })
  with-journals rows each = with-names t.variables t.events rows
      (record {
        variables = all.names.variables;
        lists = all.names.lists;
        conditions = all.names.conditions;
        enrolments = all.names.enrolments;
        journals = each;
        semaphores = all.names.semaphores;
      })

  pub with-semaphores : (rows : Rows) → Each OfName rows → AllRows Q rows → TheirsAre Q (record t { semaphores = rows })
  with-semaphores rows each fits = record { names = record { variables = all.names.variables; lists = all.names.lists; conditions = all.names.conditions; enrolments = all.names.enrolments; journals = all.names.journals; semaphores = each }; uploads = all.uploads; loads = all.loads; entries = fits }

  with-loads : (rows : domain.Rows) → AllByRecursion (OfLoad Q) rows → TheirsAre Q (record t { domains = record t.domains { domains = rows } })
  with-loads rows loads = record { names = all.names; uploads = all.uploads; loads = loads; entries = all.entries }

  with-uploads : (rows : List Upload) (given : ℕ) → AllByRecursion (OfUpload Q) rows → TheirsAre Q (record t { domains = record t.domains { uploads = record { rows = rows; given = given } } })
  with-uploads rows given uploads = record { names = all.names; uploads = uploads; loads = all.loads; entries = all.entries }

  -- a client's answer
  pub replied-theirs : (answer : Reply) → TheirsAre Q (record t { domains = record t.domains { domains = reply_after answer t.domains.domains } })
  replied-theirs answer = with-loads (reply_after answer t.domains.domains) (loads-replied Q answer t.domains.domains all.loads)

  -- a request is cancelled
  pub cancelled-theirs : (o : Option Waiting) → TheirsAre Q (tables_cancelled o t)
  cancelled-theirs None = all
  cancelled-theirs (Some w) =
      with-semaphores (cancelled w.key w.entry t.semaphores) (each_cancelled OfName w.key w.entry t.semaphores all.names.semaphores) (by_test (entry_waits (entry_in w.key w.entry t.semaphores)))
    where
      by_test : (b : Bool) → AllRows Q (if b then cancel_after w.key w.entry t.semaphores else t.semaphores)
      by_test true = changed-fits Q (without_entry w.entry) w.key t.semaphores (λ row found is. entry-fits Q w.entry row.semaphore is) all.entries
      by_test false = all.entries

  module _ (row : ClientRow) (invoke : ℕ) (its : Q row.client) where
    -- names that it gives are of its own association at most
    mine : (given : ObjectName) → OfName (key_of row.client given)
    mine (name.Vmd item) = tt
    mine (name.Domain domain item) = tt
    mine (name.Association item) = its

    with-take : (x : TakeControl) → TheirsAre Q (record t { semaphores = take_after row.client invoke (moment_of t) x t.semaphores })
    with-take x =
        with-semaphores (take_after row.client invoke (moment_of t) x t.semaphores)
        (each_changed OfName (with_take row.client invoke x (moment_of t)) (key_of row.client x.name) t.semaphores all.names.semaphores)
        (changed-fits Q (with_take row.client invoke x (moment_of t)) (key_of row.client x.name) t.semaphores
        (λ r found is. take-fits Q row.client invoke x (moment_of t) r.semaphore its is) all.entries)

    taken : (x : TakeControl) (o : Option TakeDone) → TheirsAre Q (take_outcome t row.client invoke x o).tables
    taken x None = all
    taken x (Some (Answered told)) = with-take x
    taken x (Some (Waits entry)) = with-take x

    pub effect-theirs : (asked : Request) → TheirsAre Q (effect t row invoke asked).tables
    effect-theirs (request.Write x) = record {
      names = record {
        variables = subst (λ (rows : List (Key × Variable)). Each OfName rows)
            (sym (writes_stay row.client (flagged (told_in own_variables t row (write x)).owned (pairs row.client x t.variables)) t.variables.vars)) all.names.variables;
        lists = all.names.lists;
        conditions = all.names.conditions;
        enrolments = all.names.enrolments;
        journals = all.names.journals;
        semaphores = all.names.semaphores;
      };
      uploads = all.uploads;
      loads = all.loads;
      entries = all.entries;
    }
    effect-theirs (request.DefineNamedVariable x) =
        with-variables (variables.defined row.client x t.variables.vars).variables
        (each_added OfName t.variables.vars.variables (key_of row.client x.name, record { cell = x.address; configured = false }) all.names.variables (mine x.name))
    effect-theirs (request.DeleteVariableAccess x) =
        with-variables (variables.without (selects row.client x) t.variables.vars).variables
        (each_left OfName variables.is_fixed (selects row.client x) t.variables.vars.variables all.names.variables)
    effect-theirs (request.DefineNamedVariableList x) =
        with-lists (lists.defined row.client x t.variables.lists)
        (each_added OfName t.variables.lists (key_of row.client x.name, record { variables = x.variables }) all.names.lists (mine x.name))
    effect-theirs (request.DeleteNamedVariableList x) =
        with-lists (lists.without (selects row.client x) t.variables.lists) (each_left OfName lists.is_fixed (selects row.client x) t.variables.lists all.names.lists)
    effect-theirs (request.TakeControl x) = taken x (take_told row.client x t.semaphores)
    effect-theirs (request.RelinquishControl x) = by_grant (relinquish_granted row.client x t.semaphores)
      where
        by_grant : (o : Option (Option Granted)) → TheirsAre Q (relinquish_outcome t row.client x o).tables
        by_grant None = all
        by_grant (Some grant) =
            with-semaphores (relinquish_after row.client (moment_of t) x t.semaphores)
            (each_changed OfName (with_token_back row.client x.token (moment_of t)) (key_of row.client x.name) t.semaphores all.names.semaphores)
            (changed-fits Q (with_token_back row.client x.token (moment_of t)) (key_of row.client x.name) t.semaphores
            (λ r found is. back-fits Q row.client x.token (moment_of t) r.semaphore (row_found t.semaphores (key_of row.client x.name) r sound.each found) is) all.entries)
    effect-theirs (request.DefineSemaphore x) =
        with-semaphores (define_after row.client x t.semaphores)
        (each_put OfName part_of_row t.semaphores (key_of row.client x.name, record { configured = false; semaphore = new_semaphore x.tokens }) all.names.semaphores (mine x.name))
        (all-put _ part_of_row t.semaphores (key_of row.client x.name, record { configured = false; semaphore = new_semaphore x.tokens }) all.entries (λ e s. absurd s))
    effect-theirs (request.DeleteSemaphore x) =
        with-semaphores (delete_after row.client x t.semaphores) (each_removed OfName (key_eq (key_of row.client x)) t.semaphores all.names.semaphores)
        (entries-removed (key_eq (key_of row.client x)) t.semaphores all.entries)
      where
        entries-removed : (test : Key → Bool) (rows : Rows) → AllRows Q rows → AllRows Q (remove_entry test rows)
        entries-removed test [] fits = tt
        entries-removed test (first ∷ rows) fits = by_test (test first.0) (entries-removed test rows fits.1)
          where
            by_test : (b : Bool) → AllRows Q (remove_entry test rows) → AllRows Q (cond b rows (first ∷ remove_entry test rows))
            by_test true rest = fits.1
            by_test false rest = (fits.0, rest)
    effect-theirs (request.InitiateDownloadSequence x) =
        with-loads (initiate_after row.client x t.domains.domains) (all-added (OfLoad Q) t.domains.domains _ all.loads its)
    effect-theirs (request.InitiateUploadSequence x) =
        with-uploads _ _ (all-added (OfUpload Q) t.domains.uploads.rows _ all.uploads its)
    effect-theirs (request.UploadSegment x) =
        with-uploads _ t.domains.uploads.given
        (all-mapped (OfUpload Q) (upload_after row.client x (size_of row.association) t.domains.domains) (λ u is. piece-same Q row.client x (size_of row.association) t.domains.domains u is)
        t.domains.uploads.rows all.uploads)
    effect-theirs (request.TerminateUploadSequence x) =
        with-uploads _ t.domains.uploads.given (each-of (OfUpload Q) (OfUpload Q) (λ u. not (is_upload row.client x u)) (λ u e is. is) t.domains.uploads.rows all.uploads)
    effect-theirs (request.DeleteDomain name) = with-loads (domain.without name t.domains.domains) (loads-removed Q (name_eq name) t.domains.domains all.loads)
    effect-theirs (request.CreateProgramInvocation x) =
        record {
          names = all.names;
          uploads = all.uploads;
          loads = loads-used Q x.domains x.name t.domains.domains all.loads;
          entries = all.entries;
        }
    effect-theirs (request.DeleteProgramInvocation name) = by_found (program.named name t.programs)
      where
        by_found : (o : Option Invocation)
            → TheirsAre Q (record (effect t row invoke (request.DeleteProgramInvocation name)).tables { domains = option_map_or (λ p. programs.with_domains (after_unused p.domains name t.domains.domains) t.domains) o t.domains })
        by_found None = record { names = all.names; uploads = all.uploads; loads = all.loads; entries = all.entries }
        by_found (Some p) = record {
          names = all.names;
          uploads = all.uploads;
          loads = loads-unused Q p.domains name t.domains.domains all.loads;
          entries = all.entries;
        }
    effect-theirs (request.DefineEventCondition x) =
        let facts : Facts = told_in own_events t row (define_condition x) in
        with-events (record t.events { conditions = after_define row.client facts.now x (facts.cell row.client) t.events.conditions })
        (each_added OfName t.events.conditions (key_of row.client x.name, defined facts.now x (facts.cell row.client)) all.names.conditions (mine x.name)) all.names.enrolments
    effect-theirs (request.DeleteEventCondition x) =
        let facts : Facts = told_in own_events t row (delete_conditions x) in
        with-events (after_delete row.client facts.now x t.events) (each_kept OfName _ t.events.conditions all.names.conditions) (each_kept OfName _ t.events.enrolments all.names.enrolments)
    effect-theirs (request.AlterEventConditionMonitoring x) =
        let facts : Facts = told_in own_events t row (alter_condition x) in
        with-events (after_alter row.client facts.now facts.truth x t.events) (each_condition OfName (key_of row.client x.name) _ t.events.conditions all.names.conditions) all.names.enrolments
    effect-theirs (request.TriggerEvent x) =
        let facts : Facts = told_in own_events t row (trigger x) in
        with-events (after_trigger row.client facts.now x.name t.events) (each_condition OfName (key_of row.client x.name) _ t.events.conditions all.names.conditions) all.names.enrolments
    effect-theirs (request.DefineEventEnrollment x) =
        with-events (record t.events { enrolments = enrol.defined row.client x t.events.enrolments }) all.names.conditions
        (each_added OfName t.events.enrolments
        (key_of row.client x.name, record { client = row.client; condition = key_of row.client x.condition; transitions = x.transitions; rule = x.rule }) all.names.enrolments (mine x.name))
    effect-theirs (request.DeleteEventEnrollment x) =
        with-events (record t.events { enrolments = enrol.after_delete row.client x t.events.enrolments }) all.names.conditions (each_kept OfName _ t.events.enrolments all.names.enrolments)
    effect-theirs (request.CreateJournal given) =
        with-journals (after_create row.client given t.journals) (each_added OfName t.journals (key_of row.client given, created) all.names.journals (mine given))
    effect-theirs (request.DeleteJournal given) =
        with-journals (after_delete_journal row.client given t.journals) (each_removed OfName (key_eq (key_of row.client given)) t.journals all.names.journals)
    effect-theirs (request.WriteJournal x) =
        with-journals (after_write row.client x.name x.entries t.journals) (each_journal OfName (key_of row.client x.name) (written_by row.client x.entries) t.journals all.names.journals)
    effect-theirs (request.InitializeJournal x) =
        with-journals (after_initialize row.client x t.journals) (each_journal OfName (key_of row.client x.name) (initialized x.limit) t.journals all.names.journals)
    effect-theirs asked = record { names = all.names; uploads = all.uploads; loads = all.loads; entries = all.entries }
