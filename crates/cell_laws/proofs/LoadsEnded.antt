-- Nothing stays of a load that ends before it is whole.
use Rattle.std.specs.Prelude.{◌≡◌, ℕ, zero, suc, Bool, true, false, not, cond, Contains, length, option_map, Option, None, Some, List, [], ◌∷◌, if◌then◌else◌, refl}
use Rattle.std.specs.Option.{option_map_or}
use Rattle.std.proofs.Common.{ap, sym, ◌∙◌, subst, arith}
use Rattle.std.proofs.lemmas.Cmp.{nat_list_eq_equiv}
use Rattle.std.proofs.lemmas.Map.Entries.{lookup-filter-values, option_filter}
use Rattle.mms_types.specs.declared.asked.Asked.{Asked}
use Rattle.mms_types.specs.declared.asked.Reply.{Reply}
use Rattle.mms_types.specs.declared.asked.Reply.TheVariants as reply
use Rattle.mms_types.specs.declared.event.CellEvent.{CellEvent}
use Rattle.mms_types.specs.declared.event.CellEvent.TheVariants.{Heard, Lost, Tick, Ends, Drain}
use Rattle.mms_types.specs.declared.pdu.Request.{Request}
use Rattle.mms_types.specs.declared.pdu.Request.TheVariants as request
use Rattle.association.specs.Asked.{asked_of}
use Rattle.association.specs.Client.{ClientRow}
use Rattle.association.specs.declared.negotiation.Association.{Association}
use Rattle.association.specs.declared.negotiation.Association.TheVariants.{Idle, Open}
use Rattle.association.specs.declared.negotiation.Negotiated.{Negotiated}
use Rattle.cell_config.specs.declared.config.Config.{Config}
use Rattle.cell_config.specs.Said.{IsConfig}
use Rattle.domain_load.specs.Domains.{Rows, is_there, named, without, without_loads}
use Rattle.domain_load.specs.Loading.{changed, domain_of, reply_after, with_segment}
use Rattle.domain_load.specs.Standing.{is_loaded_by}
use Rattle.domain_load.specs.declared.domain.Domain.{Domain}
use Rattle.domain_load.proofs.Outcomes.{gone, there}
use Rattle.parted_state.specs.Served.{row_at}
use Rattle.cell_client.specs.Areas.{OutcomeIn}
use Rattle.cell_client.specs.Association.{Verdict, Tells, Takes, Replies, Exhausts, Concludes, Cancels, Aborts, verdict}
use Rattle.cell_client.specs.Requests.{is_done, size_of}
use Rattle.serve_domains.specs.Domains.{replied_to, reply_of}
use Rattle.serve_domains.specs.Tables.{DomainTables}
use Rattle.serve_domains.specs.Tables as domains
use Rattle.cell_services.specs.Requests.{among}
use Rattle.cell_services.specs.Serving.{domains_without, is_served, lost_in, meanwhile, resolved, tables_heard, tables_lost}
use Rattle.cell_services.specs.Tables.{Tables, own_domains}
use Rattle.step_sound.proofs.DomainNames.{HaveNames, lost_names}
use Rattle.step_sound.proofs.Sound.{replay_sound}
use Rattle.step_sound.specs.Answered.{EndsIt}
use Rattle.step_parts.specs.Partition.{cell}
use Rattle.step_parts.specs.State.{IsSound, State}
use Rattle.step_parts.specs.Step.{replay, step}
use Rattle.cell_laws.specs.Freed.{Leaves}
use Rattle.cell_laws.specs.Loads.{Answers, breaks_off, load_begun, load_heard, load_step}
use Rattle.cell_laws.proofs.Linking.{Meant, numbered-client, resolved-meant, verdict-meant}

-- ---- an answer breaks a load off

removed : (answer : Reply) (d : Rows) → HaveNames d → breaks_off answer d ≡ true → named (domain_of answer) (reply_after answer d) ≡ None
removed (reply.Segment name octets more) d names off =
    ap (λ (b : Bool). named name (if b then without name d else changed name (with_segment octets) d)) off ∙ gone name d names
removed (reply.Ended name) d names off = absurd (cc off)
removed (reply.Failed name kind) d names off = gone name d names

-- what begins a load is no answer
no_answer : (own client : ℕ) (asked : Request) (answer : Reply) → load_begun own asked ≡ Some (Answers client answer) → ⊥
no_answer own client (request.InitiateDownloadSequence x) answer e = cc e
no_answer own client other answer e = cc e

module _ (t : Tables) (row : ClientRow) (names : HaveNames t.domains.domains) (client : ℕ) (answer : Reply) (off : breaks_off answer t.domains.domains ≡ true) where
  broken : (v : Verdict) → load_heard t row v ≡ Some (Answers client answer) → named (domain_of answer) (tables_heard t row v).domains.domains ≡ None
  broken (Takes invoke asked) e = absurd (by_test (is_served t row invoke asked) e)
    where
      by_test : (b : Bool) → (if b then load_begun row.client asked else None) ≡ Some (Answers client answer) → ⊥
      by_test true e = no_answer row.client client asked answer e
      by_test false e = cc e
  broken (Replies number came) e = by_of (asked_of number row.asked) e
    where
      outcome : Option (Asked × List ℕ) → OutcomeIn Tables
      outcome o = among own_domains t (replied_to row.client number came o t.domains)

      by_of : (o : Option (Asked × List ℕ)) → option_map (λ of. Answers row.client (reply_of came of)) o ≡ Some (Answers client answer)
          → named (domain_of answer) (if is_done (size_of row.association) number None (outcome o).answer then (outcome o).tables else t).domains.domains ≡ None
      by_of None e = absurd (cc e)
      by_of (Some of) e =
          let it : reply_of came of ≡ answer = cc e in
          subst (λ (a : Reply). named (domain_of answer) (reply_after a t.domains.domains) ≡ None) (sym it) (removed answer t.domains.domains names off)
  broken (Tells effects) e = absurd (cc e)
  broken (Exhausts invoke) e = absurd (cc e)
  broken Concludes e = absurd (cc e)
  broken (Cancels invoke) e = absurd (cc e)
  broken Aborts e = absurd (cc e)

broken_by : (count : ℕ) (s : State) (event : CellEvent) (client : ℕ) (answer : Reply) → IsSound count s → load_step s event ≡ Some (Answers client answer)
    → breaks_off answer s.domains.domains ≡ true → named (domain_of answer) (step s event).domains.domains ≡ None
broken_by count s (Heard from octets) client answer sound e off =
    broken (cell.tables_of s) (row_at cell from s.clients) sound.names client answer off
    (resolved (cell.tables_of s) (row_at cell from s.clients) (verdict (row_at cell from s.clients) octets)) e
broken_by count s (Lost from) client answer sound e off = absurd (cc e)
broken_by count s (Tick ms) client answer sound e off = absurd (cc e)
broken_by count s (Ends name) client answer sound e off = absurd (cc e)
broken_by count s (Drain from) client answer sound e off = absurd (cc e)

pub replay_broken_off : (config : Config) (history : List CellEvent) (event : CellEvent) (client : ℕ) (answer : Reply) → IsConfig config
    → load_step (replay config history) event ≡ Some (Answers client answer) → breaks_off answer (replay config history).domains.domains ≡ true
    → named (domain_of answer) (step (replay config history) event).domains.domains ≡ None
replay_broken_off config history event client answer is e off = broken_by (length history) (replay config history) event client answer (replay_sound config history is) e off

-- ---- a client is lost

kept_of : (client : ℕ) (name : List ℕ) (d : Rows) → HaveNames d → named name (without_loads client d) ≡ option_filter (λ x. not (is_loaded_by client x)) (named name d)
kept_of client name d names = lookup-filter-values nat_list_eq_equiv (λ x. not (is_loaded_by client x)) name d names

-- it takes with it what it loads
taken_along : (client : ℕ) (name : List ℕ) (d : Rows) → HaveNames d → is_there (is_loaded_by client) name d ≡ true → named name (without_loads client d) ≡ None
taken_along client name d names loads =
    let it = there (is_loaded_by client) (named name d) loads in
    kept_of client name d names ∙ ap (option_filter (λ x. not (is_loaded_by client x))) it.1 ∙ ap (λ (b : Bool). cond (not b) (Some it.0) None) it.2

module _ (count : ℕ) (s : State) (sound : IsSound count s) (leaver : ℕ) (name : List ℕ) (loads : is_there (is_loaded_by leaver) name s.domains.domains ≡ true) where
  module _ (client : ℕ) (same : client ≡ leaver) where
    abbrev its : ClientRow
    its = row_at cell client s.clients

    unidle : (v : Verdict) → EndsIt v → Meant its v → its.association ≡ Idle → ⊥
    unidle Concludes so m = m
    unidle Aborts so m = m
    unidle (Exhausts invoke) so m = m
    unidle other so m = absurd so

    ending : (v : Verdict) → EndsIt v → (tables_heard (cell.tables_of s) its v).domains.domains ≡ without_loads its.client s.domains.domains
    ending Concludes so = refl
    ending Aborts so = refl
    ending (Exhausts invoke) so = refl
    ending other so = absurd so

    its_loads : (its.association ≡ Idle → ⊥) → named name (without_loads its.client s.domains.domains) ≡ None
    its_loads some =
        subst (λ (c : ℕ). named name (without_loads c s.domains.domains) ≡ None) (sym (numbered-client count s client sound some ∙ same))
        (taken_along leaver name s.domains.domains sound.names loads)

    heard_left : (octets : List ℕ) → EndsIt (resolved (cell.tables_of s) its (verdict its octets)) → named name (step s (Heard client octets)).domains.domains ≡ None
    heard_left octets so =
        let v = resolved (cell.tables_of s) its (verdict its octets) in
        ap (λ (d : Rows). named name d) (ending v so) ∙ its_loads (unidle v so (resolved-meant (cell.tables_of s) its (verdict its octets) (verdict-meant its octets)))

    lost_left : (values : Negotiated) → its.association ≡ Open values → named name (step s (Lost client)).domains.domains ≡ None
    lost_left values is =
        ap (λ (a : Association). named name (tables_lost a its.client (cell.tables_of s)).domains.domains) is ∙ its_loads (λ idle. cc (sym is ∙ idle))

  left_by : (event : CellEvent) → Leaves leaver s event → named name (step s event).domains.domains ≡ None
  left_by (Heard client octets) is = heard_left client is.0 octets is.1
  left_by (Lost client) is = lost_left client is.0 is.1 is.2
  left_by (Tick ms) is = absurd is
  left_by (Ends program) is = absurd is
  left_by (Drain client) is = absurd is

pub replay_loads_left : (config : Config) (history : List CellEvent) (event : CellEvent) (client : ℕ) (name : List ℕ) → IsConfig config → Leaves client (replay config history) event
    → is_there (is_loaded_by client) name (replay config history).domains.domains ≡ true → named name (step (replay config history) event).domains.domains ≡ None
replay_loads_left config history event client name is left loads =
    left_by (length history) (replay config history) (replay_sound config history is) client name loads event left

-- ---- its association is aborted while time goes by

module _ (client : ℕ) (name : List ℕ) where
  stays_gone : (clients : List ℕ) (t : DomainTables) → HaveNames t.domains → named name t.domains ≡ None → named name (domains_without clients t).domains ≡ None
  stays_gone [] t names none = none
  stays_gone (c ∷ clients) t names none =
      stays_gone clients (domains.lost c t) (lost_names c t.domains names)
      (kept_of c name t.domains names ∙ ap (option_filter (λ x. not (is_loaded_by c x))) none)

  aborted_among : (clients : List ℕ) (t : DomainTables) → HaveNames t.domains → is_there (is_loaded_by client) name t.domains ≡ true → Contains clients client
      → named name (domains_without clients t).domains ≡ None
  aborted_among [] t names loads has = let low = has.1 in absurd (omega (arith, low))
  aborted_among (c ∷ clients) t names loads has =
      by_test (is_loaded_by c it.0) refl (λ still left. aborted_among clients (domains.lost c t) (lost_names c t.domains names) still left)
    where
      it : (domain : Domain) × (named name t.domains ≡ Some domain) × (is_loaded_by client domain ≡ true)
      it = there (is_loaded_by client) (named name t.domains) loads

      gone_then : named name (without_loads c t.domains) ≡ cond (not (is_loaded_by c it.0)) (Some it.0) None
      gone_then = kept_of c name t.domains names ∙ ap (option_filter (λ x. not (is_loaded_by c x))) it.1

      behind : is_loaded_by c it.0 ≡ false → Contains (c ∷ clients) client → Contains clients client
      behind other (zero, low, same) = absurd (cc (sym other ∙ ap (λ (x : ℕ). is_loaded_by x it.0) same ∙ it.2))
      behind other (suc k, low, same) = (k, omega (arith, low), same)

      by_test : (b : Bool) → is_loaded_by c it.0 ≡ b
          → (is_there (is_loaded_by client) name (without_loads c t.domains) ≡ true → Contains clients client → named name (domains_without clients (domains.lost c t)).domains ≡ None)
          → named name (domains_without clients (domains.lost c t)).domains ≡ None
      by_test true e rest =
          stays_gone clients (domains.lost c t) (lost_names c t.domains names) (gone_then ∙ ap (λ (b : Bool). cond (not b) (Some it.0) None) e)
      by_test false e rest =
          rest (ap (λ (o : Option Domain). option_map_or (is_loaded_by client) o false) (gone_then ∙ ap (λ (b : Bool). cond (not b) (Some it.0) None) e) ∙ it.2) (behind e has)

pub replay_loads_aborted : (config : Config) (history : List CellEvent) (ms : ℕ) (client : ℕ) (name : List ℕ) → IsConfig config
    → Contains (lost_in (meanwhile ms (cell.tables_of (replay config history))).happened) client
    → is_there (is_loaded_by client) name (replay config history).domains.domains ≡ true
    → named name (step (replay config history) (Tick ms)).domains.domains ≡ None
replay_loads_aborted config history ms client name is has loads =
    aborted_among client name (lost_in (meanwhile ms (cell.tables_of (replay config history))).happened) (replay config history).domains
    (replay_sound config history is).names loads has
