-- What a client's octets come to is ready to be done where nothing is needed that isn't held.
use Rattle.std.specs.Prelude.{◌≡◌, ℕ, ◌+◌, ◌-◌, ◌≤◌, true, false, Option, Some, None, List, [], ◌++◌, is_some, length, slice_get, IfSome, OnOk, Result, if◌then◌else◌, refl}
use Rattle.std.proofs.Common.{ap, sym, ◌∙◌, subst, arith}
use Rattle.mms_types.specs.declared.event.CellEvent.TheVariants.{Heard}
use Rattle.mms_types.specs.declared.memory.Memory.{Memory}
use Rattle.mms_types.specs.declared.pdu.Answer.{Answer}
use Rattle.mms_types.specs.declared.pdu.Request.{Request}
use Rattle.association.specs.Client.{ClientRow}
use Rattle.part_table.specs.Held.{held_at}
use Rattle.parted_state.specs.Area.{IsTable, Own}
use Rattle.parted_state.specs.Cut.{are_held, is_in, missing}
use Rattle.parted_state.specs.CutLaws as laws
use Rattle.parted_state.specs.DeviceLaws.{table_at}
use Rattle.parted_state.specs.Lifted.{put_in_place, tables_shown}
use Rattle.parted_state.specs.ListsLaws.{in_mapped}
use Rattle.parted_state.specs.Served.{Done, table_place}
use Rattle.cell_client.specs.Association.{Takes, Verdict, verdict}
use Rattle.cell_client.specs.declared.acts.Act.{Act}
use Rattle.cell_client.specs.Effects.{Effect}
use Rattle.cell_client.specs.Meant.{act_verdict, uses_no_table}
use Rattle.cell_client.specs.Requests.{plain_answer}
use Rattle.serve_programs.specs.Users.{AreUsed}
use Rattle.cell_services.specs.Acts.{act_done}
use Rattle.cell_services.specs.Serving.{heard_asks, heard_more, hears}
use Rattle.cell_services.specs.Tables.{Tables}
use Rattle.step_parts.specs.declared.part.Part.{Part}
use Rattle.step_parts.specs.declared.part.Part.TheVariants.{Domains, Programs}
use Rattle.step_parts.specs.AfterLaws.{is_device}
use Rattle.step_parts.specs.Needs.{also_parts, footprint, need, placed, verdict_need}
use Rattle.step_parts.specs.Partition.{cell, parts_of, client_part, client_place, clients_among, domains_in, programs_in, row_in, IsClient, IsDomains}
use Rattle.step_parts.specs.State.{State}
use Rattle.serve_domains.specs.Loads.{AreLoads}
use Rattle.step_parts.specs.Found.{row_held}
use Rattle.step_apply.specs.Placing.{IsPartOf}
use Rattle.step_apply.specs.declared.serving.Task.TheVariants as task
use Rattle.step_apply.specs.Tasks.{heard_in_place, task_done, AreLoadsIn, AreUsedIn, IsReady, IsServing}
use Rattle.step_parts.proofs.Words.{words_held, OfState}
use Rattle.step_parts.proofs.Holding.{client_at, clients_counted, held_part}
use Rattle.step_parts.proofs.Needed.{many, need_heard}

-- ---- from what is needed

-- the part of a table is held that is asked for
pub table_there : {n client : ℕ} {hand : List (Option Part)} → IsServing n client hand → {A : Type 0} {own : Own Tables A} (its : IsTable cell own)
    → ((t : Tables) → IsPartOf its (slice_get (cell.table_parts t) its.number)) → (v : Verdict) → is_in (heard_asks v) its.number ≡ true → IsReady n client v hand
    → IsPartOf its (held_at hand (table_place cell n its.number))
table_there {n = n} {client = client} {hand = hand} serving its stands v asked ready = subst (IsPartOf its) (stands (cell.tables_of s) ∙ sym there) (stands (cell.tables_of s))
  where
    s : State
    s = serving.of.0

    more : List ℕ
    more =
        placed n (heard_more (tables_shown cell hand) (row_held hand client) v)
        ++ (if are_held {P = Part} hand (placed n (heard_more (tables_shown cell hand) (row_held hand client) v)) then also_parts n hand (row_held hand client) v else [])

    are : are_held hand (placed n (heard_asks v)) ≡ true
    are =
        (laws.held_parted hand (placed n (heard_asks v)) (if are_held hand (placed n (heard_asks v)) then more else [])
        (laws.none_missing hand (placed n (heard_asks v) ++ (if are_held hand (placed n (heard_asks v)) then more else [])) ready)).0

    there : held_at hand (table_place cell n its.number) ≡ Some (its.part (its.part_in (slice_get (cell.table_parts (cell.tables_of s)) its.number)))
    there =
        held_part hand (parts_of s) (table_place cell n its.number) (its.part (its.part_in (slice_get (cell.table_parts (cell.tables_of s)) its.number))) serving.of.1
        (laws.held_in hand (placed n (heard_asks v)) (table_place cell n its.number) are (in_mapped (table_place cell n) (heard_asks v) its.number asked))
        (ap (λ (m : ℕ). slice_get (parts_of s) (table_place cell m its.number)) (serving.many ∙ clients_counted s hand serving.of.1)
        ∙ table_at cell is_device s its.number ∙ stands (cell.tables_of s))

-- what is left of what a client sent is what it comes to
pub is_left : {v w : Verdict} {left : Option Act} {a : Act} → left ≡ Some a → act_verdict a ≡ Some w → IfSome left (λ a. act_verdict a ≡ Some v) → w ≡ v
is_left {left = None} is its told = absurd (cc is)
is_left {v = v} {w = w} {left = Some b} {a = a} is its told =
    let same : b ≡ a = cc is in
    let both : Some w ≡ Some v = sym its ∙ ap act_verdict (sym same) ∙ told in
    cc both

-- what is done of it is done of what is the same
pub ready_as : (n client : ℕ) (hand : List (Option Part)) {v w : Verdict} → w ≡ v → IsReady n client v hand → IsReady n client w hand
ready_as n client hand is ready = subst (λ (v : Verdict). IsReady n client v hand) (sym is) ready

pub put_as : (client : ℕ) (hand new : List (Option Part)) (result : Result Unit Memory) {v w : Verdict} → w ≡ v → OnOk result (new ≡ heard_in_place client w hand)
    → OnOk result (new ≡ heard_in_place client v hand)
put_as client hand new result is put = subst (λ (v : Verdict). OnOk result (new ≡ heard_in_place client v hand)) is put

-- and what a client does on the tables is what that comes to
pub task_put : (client : ℕ) (hand new : List (Option Part)) (result : Result Unit Memory) (v : Verdict) (a : Act)
    → act_done (tables_shown cell hand) (row_held hand client) client a ≡ hears (tables_shown cell hand) (row_held hand client) client v
    → OnOk result (new ≡ put_in_place cell (task_done (tables_shown cell hand) hand (task.Client client a)) hand) → OnOk result (new ≡ heard_in_place client v hand)
task_put client hand new result v a is put = subst (λ (d : Done Tables Effect). OnOk result (new ≡ put_in_place cell d hand)) is put

-- or what is left of it, which is done on parts that are as they were
pub left_put : (client : ℕ) (hand same new : List (Option Part)) (result : Result Unit Memory) (v : Verdict) (done : List (Option Part) → Done Tables Effect)
    → same ≡ hand → hears (tables_shown cell hand) (row_held hand client) client v ≡ done hand → OnOk result (new ≡ put_in_place cell (done same) same)
    → OnOk result (new ≡ heard_in_place client v hand)
left_put client hand same new result v done is left put =
    subst (λ (d : Done Tables Effect). OnOk result (new ≡ put_in_place cell d hand)) (sym left)
    (subst (λ (h : List (Option Part)). OnOk result (new ≡ put_in_place cell (done h) h)) is put)

-- a request that uses tables isn't answered by the row of its client alone
pub not_plain : (row : ClientRow) (invoke : ℕ) (asked : Request) → uses_no_table row (Takes invoke asked) ≡ false → plain_answer row asked ≡ None
not_plain row invoke asked uses = by_value (plain_answer row asked) uses
  where
    by_value : (o : Option Answer) → is_some o ≡ false → o ≡ None
    by_value None e = refl
    by_value (Some a) e = absurd (cc e)

-- ---- at the beginning

module _ (hand : List (Option Part)) (client : ℕ) (state : OfState hand) (among : (1 ≤ client) × (client ≤ clients_among (length hand))) (held : IsClient (held_at hand (client_place client))) where
  abbrev s : State
  s = state.0

  counted : clients_among (length hand) ≡ length s.clients
  counted = clients_counted s hand state.2

  its : (row : ClientRow) × (slice_get (parts_of s) (client_place client) ≡ Some (client_part row)) × (slice_get s.clients (client - 1) ≡ Some row)
  its = client_at s client among.0 (omega (arith, counted, among.1))

  there : held_at hand (client_place client) ≡ Some (client_part its.0)
  there = held_part hand (parts_of s) (client_place client) (client_part its.0) state.2 (ap (λ (o : Option Part). is_some o) held) its.1

  own : client - 1 + 1 ≡ client
  own = omega (arith, among.0)

  domains_there : IsDomains (held_at hand 2) → held_at hand 2 ≡ Some (Domains s.domains)
  domains_there table = held_part hand (parts_of s) 2 (Domains s.domains) state.2 (ap (λ (o : Option Part). is_some o) table) refl

  -- what the server asked of a client is of the domains that it loads
  loads : AreLoadsIn client hand
  loads table =
      subst (λ (k : ℕ). AreLoads k (row_held hand client).asked (domains_in (held_at hand 2)).domains) own
      (subst (λ (o : Option Part). AreLoads (client - 1 + 1) (row_in o).asked (domains_in (held_at hand 2)).domains) (sym there)
      (subst (λ (o : Option Part). AreLoads (client - 1 + 1) its.0.asked (domains_in o).domains) (sym (domains_there table)) (state.1.1.loads (client - 1) its.0 its.2)))

  -- the domains have the names of the invocations that name them
  used : AreUsedIn hand
  used table more =
      let third : held_at hand 3 ≡ Some (Programs s.programs) = held_part hand (parts_of s) 3 (Programs s.programs) state.2 (ap (λ (o : Option Part). is_some o) more) refl in
      subst (λ (o : Option Part). AreUsed (domains_in o).domains (programs_in (held_at hand 3))) (sym (domains_there table))
      (subst (λ (o : Option Part). AreUsed s.domains.domains (programs_in o)) (sym third) state.1.1.used)

  pub to_serve : (n : ℕ) → n ≡ clients_among (length hand) → IsServing n client hand
  to_serve n many =
      let few = state.1.1.few in
      record {
        of = (s, state.2);
        many = many;
        few = omega (arith, many, counted, few);
        among = subst (λ (k : ℕ). (1 ≤ client) × (client ≤ k)) (sym many) among;
        held = held;
        number = ap (λ (o : Option Part). (row_in o).client) there ∙ (state.1.1.rows (client - 1) its.0 its.2).number ∙ own;
        loads = loads;
        used = used;
      }

  pub ready_to_hear : (octets : List ℕ) → need (Heard client octets) hand ≡ [] → IsReady (clients_among (length hand)) client (verdict (row_held hand client) octets) hand
  ready_to_hear octets enough =
      ap (λ (r : ClientRow). verdict_need (clients_among (length hand)) hand r (verdict r octets)) (ap row_in there)
      ∙ sym (need_heard hand client octets (clients_among (length hand)) (record { row = its.0; output_room = 0; waiting_room = 0; asked_room = 0 }) refl words among.0 among.1 there)
      ∙ enough
    where
      words : missing hand (footprint (clients_among (length hand)) (Heard client octets)) ≡ []
      words = ap (λ (n : ℕ). missing hand (footprint n (Heard client octets))) (sym (many hand)) ∙ words_held hand (Heard client octets) enough
