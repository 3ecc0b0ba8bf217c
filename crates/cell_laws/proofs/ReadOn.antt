-- Reading on after an entry selects what was selected behind it: numbers rise in each journal, after any history.
use Rattle.std.proofs.Common.{◌≡◌, ℕ, zero, ◌+◌, ◌<◌, ◌≤◌, nat_lt, Bool, true, false, not, cond, List, [], ◌∷◌, ◌++◌, filter, fold, Option, None, Some, if◌then◌else◌, refl, sym, ◌∙◌, ap, subst, arith}
use Rattle.std.specs.List.{All}
use Rattle.std.specs.Map.{lookup, remove_entry, set_value}
use Rattle.std.specs.Option.{option_map_or}
use Rattle.std.proofs.lemmas.Bool.Decides.{nat_tests}
use Rattle.std.proofs.lemmas.List.Elements.{All-contains, All-filter, Contains-append_right, filter_passes}
use Rattle.mms_types.specs.Order.{key_eq, key_of, scope_eq}
use Rattle.mms_types.specs.declared.asked.Asked.{Asked}
use Rattle.mms_types.specs.declared.event.CellEvent.{CellEvent}
use Rattle.mms_types.specs.declared.event.CellEvent.TheVariants.{Heard, Lost, Tick, Ends, Drain}
use Rattle.mms_types.specs.declared.journal.EntryToStartAfter.{EntryToStartAfter}
use Rattle.mms_types.specs.declared.journal.JournalStart.{JournalStart}
use Rattle.mms_types.specs.declared.journal.JournalStart.TheVariants as begin
use Rattle.mms_types.specs.declared.journal.JournalStop.{JournalStop}
use Rattle.mms_types.specs.declared.journal.JournalStop.TheVariants as stop
use Rattle.mms_types.specs.declared.journal.ReadJournal.{ReadJournal}
use Rattle.mms_types.specs.declared.key.Key.{Key}
use Rattle.mms_types.specs.declared.key.Scope.TheVariants.{Association as OfClient}
use Rattle.mms_types.specs.declared.pdu.Request.{Request}
use Rattle.mms_types.specs.declared.pdu.Request.TheVariants as request
use Rattle.association.specs.Asked.{asked_of}
use Rattle.association.specs.Client.{ClientRow}
use Rattle.association.specs.declared.negotiation.Association.{Association}
use Rattle.association.specs.declared.negotiation.Association.TheVariants.{Idle, Open}
use Rattle.association.specs.declared.waiting.Waiting.{Waiting}
use Rattle.mms_time.specs.Services.{take_told}
use Rattle.mms_time.specs.declared.taking.TakeDone.{TakeDone}
use Rattle.mms_time.specs.declared.taking.TakeDone.TheVariants as taken
use Rattle.sem_ticks.specs.Granted.{relinquish_granted}
use Rattle.sem_ticks.specs.declared.granted.Granted.{Granted}
use Rattle.mms_journal.proofs.Rising.{fewer_rise, more_rise}
use Rattle.mms_journal.specs.Entries.{has_any}
use Rattle.mms_journal.specs.Journals.{Log, Rises, Rows, changed, named}
use Rattle.mms_journal.specs.Selection.{after_number, counted, followed, listed, number_of, selected, started, stopped, tagged}
use Rattle.mms_journal.specs.Services.{goes, initialized, without, written_by}
use Rattle.mms_journal.specs.Services as journals
use Rattle.mms_journal.specs.declared.journal.Written.{Written}
use Rattle.cell_config.specs.declared.config.Config.{Config}
use Rattle.cell_config.specs.Said.{IsConfig}
use Rattle.parted_state.specs.Served.{row_at}
use Rattle.cell_client.specs.Association.{Came, Verdict, Tells, Takes, Replies, Exhausts, Concludes, Cancels, Aborts, verdict}
use Rattle.serve_domains.specs.Domains.{replied_to}
use Rattle.cell_services.specs.Requests.{among}
use Rattle.cell_services.specs.Services.{effect, effect_of, reply_in, relinquish_outcome, take_outcome}
use Rattle.cell_services.specs.Serving.{is_served, is_served_in, journals_without, lost_in, meanwhile, resolved, tables_cancelled, tables_heard, tables_lost, waiting_of}
use Rattle.cell_services.specs.Tables.{Tables, own_domains}
use Rattle.step_parts.specs.Partition.{cell}
use Rattle.step_parts.specs.State.{State, start}
use Rattle.step_parts.specs.Step.{replay, step}
use Rattle.cell_laws.specs.ReadOn.{is_counted, reading_on}

-- ---- numbers rise in each journal

abbrev AllRise : Rows → Type 0
AllRise [] = Unit {0}
AllRise (row ∷ rows) = Rises 0 row.1.entries row.1.written × AllRise rows

rise_kept : (p : Key × Log → Bool) (rows : Rows) → AllRise rows → AllRise (filter p rows)
rise_kept p [] all = tt
rise_kept p (row ∷ rows) all = by_test (p row) (rise_kept p rows all.1)
  where
    by_test : (b : Bool) → AllRise (filter p rows) → AllRise (cond b (row ∷ filter p rows) (filter p rows))
    by_test true rest = (all.0, rest)
    by_test false rest = rest

rise_removed : (test : Key → Bool) (rows : Rows) → AllRise rows → AllRise (remove_entry test rows)
rise_removed test [] all = tt
rise_removed test (row ∷ rows) all = by_test (test row.0) (rise_removed test rows all.1)
  where
    by_test : (b : Bool) → AllRise (remove_entry test rows) → AllRise (cond b rows (row ∷ remove_entry test rows))
    by_test true rest = all.1
    by_test false rest = (all.0, rest)

rise_set : (test : Key → Bool) (new : Log) (rows : Rows) → Rises 0 new.entries new.written → AllRise rows → AllRise (set_value test rows new)
rise_set test new [] rises all = tt
rise_set test new (row ∷ rows) rises all = by_test (test row.0) (rise_set test new rows rises all.1)
  where
    by_test : (b : Bool) → AllRise (set_value test rows new) → AllRise (cond b ((row.0, new) ∷ rows) (row ∷ set_value test rows new))
    by_test true rest = (rises, all.1)
    by_test false rest = (all.0, rest)

rise_added : (rows : Rows) (row : Key × Log) → Rises 0 row.1.entries row.1.written → AllRise rows → AllRise (rows ++ row ∷ [])
rise_added [] row rises all = (rises, tt)
rise_added (first ∷ rows) row rises all = (all.0, rise_added rows row rises all.1)

rise_named : (key : Key) (rows : Rows) (j : Log) → AllRise rows → named key rows ≡ Some j → Rises 0 j.entries j.written
rise_named key [] j all e = absurd (cc e)
rise_named key (row ∷ rows) j all e = by_test (key_eq key row.0) (rise_named key rows j all.1) e
  where
    by_test : (b : Bool) → (named key rows ≡ Some j → Rises 0 j.entries j.written) → cond b (Some row.1) (named key rows) ≡ Some j → Rises 0 j.entries j.written
    by_test true rest h = let one : row.1 ≡ j = cc h in subst (λ (x : Log). Rises 0 x.entries x.written) one all.0
    by_test false rest h = rest h

rise_changed : (key : Key) (f : Log → Log) (rows : Rows) → ((j : Log) → Rises 0 j.entries j.written → Rises 0 (f j).entries (f j).written) → AllRise rows → AllRise (changed key f rows)
rise_changed key f rows each all = by_row (named key rows) refl
  where
    by_row : (o : Option Log) → named key rows ≡ o → AllRise (option_map_or (λ j. set_value (key_eq key) rows (f j)) o rows)
    by_row None e = all
    by_row (Some j) e = rise_set (key_eq key) (f j) rows (each j (rise_named key rows j all e)) all

module _ (t : Tables) (row : ClientRow) (all : AllRise t.journals) where
  asked_rise : (invoke : ℕ) (asked : Request) → AllRise (effect t row invoke asked).tables.journals
  asked_rise invoke (request.WriteJournal x) =
      rise_changed (key_of row.client x.name) (written_by row.client x.entries) t.journals (λ j h. more_rise row.client 0 j.written j.entries x.entries h) all
  asked_rise invoke (request.InitializeJournal x) =
      rise_changed (key_of row.client x.name) (initialized x.limit) t.journals (λ j h. fewer_rise (λ w. not (goes x.limit w)) 0 j.entries j.written h) all
  asked_rise invoke (request.CreateJournal name) = rise_added t.journals (key_of row.client name, journals.created) (omega arith) all
  asked_rise invoke (request.DeleteJournal name) = rise_removed (key_eq (key_of row.client name)) t.journals all
  asked_rise invoke (request.TakeControl x) = by_done (take_told row.client x t.semaphores)
    where
      by_done : (o : Option TakeDone) → AllRise (take_outcome t row.client invoke x o).tables.journals
      by_done None = all
      by_done (Some (taken.Answered told)) = all
      by_done (Some (taken.Waits waits)) = all
  asked_rise invoke (request.RelinquishControl x) = by_grant (relinquish_granted row.client x t.semaphores)
    where
      by_grant : (o : Option (Option Granted)) → AllRise (relinquish_outcome t row.client x o).tables.journals
      by_grant None = all
      by_grant (Some grant) = all
  asked_rise invoke asked = all

  lost_rise : (client : ℕ) (rows : Rows) → AllRise rows → AllRise (journals.without_client client rows)
  lost_rise client rows rise = rise_kept (λ (r : Key × Log). not (scope_eq r.0.scope (OfClient client))) rows rise

  all_lost_rise : (clients : List ℕ) (rows : Rows) → AllRise rows → AllRise (journals_without clients rows)
  all_lost_rise [] rows rise = rise
  all_lost_rise (c ∷ clients) rows rise = all_lost_rise clients (journals.without_client c rows) (lost_rise c rows rise)

  heard_rise : (v : Verdict) → AllRise (tables_heard t row v).journals
  heard_rise (Takes invoke asked) = by_test (is_served t row invoke asked)
    where
      by_test : (b : Bool) → AllRise (if b then (effect t row invoke asked).tables else t).journals
      by_test true = asked_rise invoke asked
      by_test false = all
  heard_rise (Tells effects) = all
  heard_rise (Replies number came) = by_test (is_served_in t row number (reply_in number came))
    where
      by_of : (o : Option (Asked × List ℕ)) → AllRise (among own_domains t (replied_to row.client number came o t.domains)).tables.journals
      by_of None = all
      by_of (Some of) = all

      by_test : (b : Bool) → AllRise (if b then (effect_of t row number (reply_in number came)).tables else t).journals
      by_test true = by_of (asked_of number row.asked)
      by_test false = all
  heard_rise (Exhausts invoke) = lost_rise row.client t.journals all
  heard_rise Concludes = lost_rise row.client t.journals all
  heard_rise (Cancels invoke) = by_waiting (waiting_of invoke row.waiting)
    where
      by_waiting : (o : Option Waiting) → AllRise (tables_cancelled o t).journals
      by_waiting None = all
      by_waiting (Some waits) = all
  heard_rise Aborts = lost_rise row.client t.journals all

  left_rise : (a : Association) → AllRise (tables_lost a row.client t).journals
  left_rise Idle = all
  left_rise (Open values) = lost_rise row.client t.journals all

event_rise : (s : State) (event : CellEvent) → AllRise s.journals → AllRise (step s event).journals
event_rise s (Heard client octets) all =
    let row : ClientRow = row_at cell client s.clients in heard_rise (cell.tables_of s) row all (resolved (cell.tables_of s) row (verdict row octets))
event_rise s (Lost client) all = left_rise (cell.tables_of s) (row_at cell client s.clients) all (row_at cell client s.clients).association
event_rise s (Tick ms) all = all_lost_rise (cell.tables_of s) (row_at cell 0 s.clients) all (lost_in (meanwhile ms (cell.tables_of s)).happened) s.journals all
event_rise s (Ends name) all = all
event_rise s (Drain client) all = all

rise_along : (s : State) (history : List CellEvent) → AllRise s.journals → AllRise (fold step s history).journals
rise_along s [] all = all
rise_along s (event ∷ rest) all = rise_along (step s event) rest (event_rise s event all)

-- ---- what comes behind an entry

later : (low : ℕ) (front : List Written) (w : Written) (rest : List Written) (high : ℕ) → Rises low (front ++ w ∷ rest) high → low < w.number
later low [] w rest high h = h.0
later low (x ∷ front) w rest high h = let a = h.0 in let b = later x.number front w rest high h.1 in omega (arith, a, b)

all_behind : (n low : ℕ) (ws : List Written) (high : ℕ) → n ≤ low → Rises low ws high → after_number n ws ≡ ws
all_behind n low [] high le h = refl
all_behind n low (w ∷ ws) high le h =
    let a = h.0 in
    let less : nat_lt n w.number ≡ true = grind (arith, nat_tests, le, a) in
    ap (λ (b : Bool). cond b (w ∷ after_number n ws) (after_number n ws)) less ∙ ap (λ (l : List Written). w ∷ l) (all_behind n w.number ws high (omega (arith, le, a)) h.1)

behind_it : (low : ℕ) (front : List Written) (w : Written) (rest : List Written) (high : ℕ) → Rises low (front ++ w ∷ rest) high
    → after_number w.number (front ++ w ∷ rest) ≡ rest
behind_it low [] w rest high h =
    let not_itself : nat_lt w.number w.number ≡ false = grind (arith, nat_tests) in
    ap (λ (b : Bool). cond b (w ∷ after_number w.number rest) (after_number w.number rest)) not_itself ∙ all_behind w.number w.number rest high (omega arith) h.1
behind_it low (x ∷ front) w rest high h =
    let b = later x.number front w rest high h.1 in
    let lower : nat_lt w.number x.number ≡ false = grind (arith, nat_tests, b) in
    ap (λ (c : Bool). cond c (x ∷ after_number w.number (front ++ w ∷ rest)) (after_number w.number (front ++ w ∷ rest))) lower ∙ behind_it x.number front w rest high h.1

-- ---- conditions one after the other

swapped : (p q : Written → Bool) (ws : List Written) → filter p (filter q ws) ≡ filter q (filter p ws)
swapped p q [] = refl
swapped p q (w ∷ ws) = by_tests (p w) refl (q w) refl (swapped p q ws)
  where
    by_tests : (a : Bool) → p w ≡ a → (b : Bool) → q w ≡ b → filter p (filter q ws) ≡ filter q (filter p ws)
        → filter p (cond b (w ∷ filter q ws) (filter q ws)) ≡ filter q (cond a (w ∷ filter p ws) (filter p ws))
    by_tests true e true f rest =
        ap (λ (c : Bool). cond c (w ∷ filter p (filter q ws)) (filter p (filter q ws))) e ∙ ap (λ (l : List Written). w ∷ l) rest
        ∙ sym (ap (λ (c : Bool). cond c (w ∷ filter q (filter p ws)) (filter q (filter p ws))) f)
    by_tests true e false f rest = rest ∙ sym (ap (λ (c : Bool). cond c (w ∷ filter q (filter p ws)) (filter q (filter p ws))) f)
    by_tests false e true f rest = ap (λ (c : Bool). cond c (w ∷ filter p (filter q ws)) (filter p (filter q ws))) e ∙ rest
    by_tests false e false f rest = rest

-- what comes after a number comes after a lower one
narrower : (m n : ℕ) → m ≤ n → (ws : List Written) → after_number n (after_number m ws) ≡ after_number n ws
narrower m n le [] = refl
narrower m n le (w ∷ ws) = by_test (nat_lt m w.number) refl (narrower m n le ws)
  where
    by_test : (b : Bool) → nat_lt m w.number ≡ b → after_number n (after_number m ws) ≡ after_number n ws
        → after_number n (cond b (w ∷ after_number m ws) (after_number m ws)) ≡ cond (nat_lt n w.number) (w ∷ after_number n ws) (after_number n ws)
    by_test true e rest = ap (λ (l : List Written). cond (nat_lt n w.number) (w ∷ l) l) rest
    by_test false e rest =
        let none : nat_lt n w.number ≡ false = grind (arith, nat_tests, le, e) in rest ∙ sym (ap (λ (c : Bool). cond c (w ∷ after_number n ws) (after_number n ws)) none)

tags_swap : (tags : Option (List (List ℕ))) (n : ℕ) (ws : List Written) → after_number n (tagged tags ws) ≡ tagged tags (after_number n ws)
tags_swap None n ws = refl
tags_swap (Some tags) n ws = swapped (λ w. nat_lt n w.number) (λ w. has_any tags w.entry) ws

uncounted : (s : Option JournalStop) → is_counted s ≡ false → (ws : List Written) → counted s ws ≡ ws
uncounted None e ws = refl
uncounted (Some (stop.Time time)) e ws = refl
uncounted (Some (stop.Count count)) e ws = absurd (cc e)

passes_tags : (P : Written → Type 0) (tags : Option (List (List ℕ))) (ws : List Written) → All P ws → All P (tagged tags ws)
passes_tags P None ws all = all
passes_tags P (Some tags) ws all = All-filter (λ w. has_any tags w.entry) P ws all

above : (m : ℕ) (tags : Option (List (List ℕ))) (ws front : List Written) (w : Written) (rest : List Written) → tagged tags (after_number m ws) ≡ front ++ w ∷ rest
    → nat_lt m w.number ≡ true
above m tags ws front w rest is =
    let all : All (λ x. nat_lt m x.number ≡ true) (tagged tags (after_number m ws)) = passes_tags (λ x. nat_lt m x.number ≡ true) tags (after_number m ws) (filter_passes (λ x. nat_lt m x.number) ws) in
    All-contains (λ x. nat_lt m x.number ≡ true) (front ++ w ∷ rest) w (subst (All (λ x. nat_lt m x.number ≡ true)) is all)
    (Contains-append_right front (w ∷ rest) w (zero, omega arith, refl))

module _ (asked : ReadJournal) (entries : List Written) (high : ℕ) (rises : Rises 0 entries high) where
  abbrev between : List Written
  between = stopped asked.stop (started asked.start entries)

  rise_started : (o : Option JournalStart) → Rises 0 (started o entries) high
  rise_started None = rises
  rise_started (Some (begin.Time time)) = fewer_rise _ 0 entries high rises
  rise_started (Some (begin.Entry number)) = fewer_rise _ 0 entries high rises

  rise_stopped : (o : Option JournalStop) (ws : List Written) → Rises 0 ws high → Rises 0 (stopped o ws) high
  rise_stopped None ws h = h
  rise_stopped (Some (stop.Time time)) ws h = fewer_rise _ 0 ws high h
  rise_stopped (Some (stop.Count count)) ws h = h

  rise_followed : (o : Option EntryToStartAfter) (ws : List Written) → Rises 0 ws high → Rises 0 (followed o ws) high
  rise_followed None ws h = h
  rise_followed (Some last) ws h = fewer_rise _ 0 ws high h

  rise_tagged : (o : Option (List (List ℕ))) (ws : List Written) → Rises 0 ws high → Rises 0 (tagged o ws) high
  rise_tagged None ws h = h
  rise_tagged (Some tags) ws h = fewer_rise _ 0 ws high h

  all_selected : Rises 0 (tagged (listed asked.tags) (followed asked.after between)) high
  all_selected =
      rise_tagged (listed asked.tags) (followed asked.after between)
      (rise_followed asked.after between (rise_stopped asked.stop (started asked.start entries) (rise_started asked.start)))

  module _ (front : List Written) (w : Written) (rest : List Written) where
    again : (o : Option EntryToStartAfter) → tagged (listed asked.tags) (followed o between) ≡ front ++ w ∷ rest → after_number w.number (followed o between) ≡ after_number w.number between
    again None is = refl
    again (Some last) is =
        let less = above (number_of last.number) (listed asked.tags) between front w rest is in
        narrower (number_of last.number) w.number (grind (arith, nat_tests, less)) between

    goes_on : tagged (listed asked.tags) (followed asked.after between) ≡ front ++ w ∷ rest → tagged (listed asked.tags) (after_number w.number between) ≡ rest
    goes_on is =
        ap (tagged (listed asked.tags)) (sym (again asked.after is))
        ∙ sym (tags_swap (listed asked.tags) w.number (followed asked.after between))
        ∙ ap (after_number w.number) is
        ∙ behind_it 0 front w rest high (subst (λ (l : List Written). Rises 0 l high) is all_selected)

pub reads_on : (config : Config) (history : List CellEvent) (key : Key) (j : Log) (asked : ReadJournal) (front : List Written) (w : Written) (rest : List Written) (last : EntryToStartAfter)
    → IsConfig config → named key (replay config history).journals ≡ Some j → is_counted asked.stop ≡ false → selected asked j.entries ≡ front ++ w ∷ rest → number_of last.number ≡ w.number
    → selected (reading_on last asked) j.entries ≡ rest
reads_on config history key j asked front w rest last is there all selects number =
    let rises : Rises 0 j.entries j.written = rise_named key (replay config history).journals j (rise_along (start config) history tt) there in
    let between_them : List Written = stopped asked.stop (started asked.start j.entries) in
    uncounted asked.stop all (tagged (listed asked.tags) (after_number (number_of last.number) between_them))
    ∙ ap (λ (n : ℕ). tagged (listed asked.tags) (after_number n between_them)) number
    ∙ goes_on asked j.entries j.written rises front w rest (sym (uncounted asked.stop all (tagged (listed asked.tags) (followed asked.after between_them))) ∙ selects)
