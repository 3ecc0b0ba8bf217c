-- After any history each table keeps its limit, and no name stands twice in one.
use Rattle.std.proofs.Common.{◌≡◌, ℕ, zero, suc, ◌==◌, Bool, true, false, List, [], ◌∷◌, fold, Option, None, Some, option_and_then, option_map, if◌then◌else◌, refl, sym, subst, arith}
use Rattle.std.specs.List.{IsDistinct}
use Rattle.mms_types.specs.Order.{key_eq}
use Rattle.mms_types.specs.declared.event.CellEvent.{CellEvent}
use Rattle.mms_types.specs.declared.event.CellEvent.TheVariants.{Heard, Lost, Tick, Ends, Drain}
use Rattle.mms_types.specs.declared.moment.Moment.{Moment}
use Rattle.token_sem.specs.declared.entry.Expired.{Expired}
use Rattle.variables.specs.Start.{variable_row}
use Rattle.variables.proofs.Apart.{names_apart}
use Rattle.mms_time.specs.Deadlines.{NamedDeadline, expired, without_due}
use Rattle.mms_time.specs.Opening.{pool_row}
use Rattle.mms_time.proofs.TokenNames.{pools_apart}
use Rattle.event_cond.specs.Conditions.{named as named_condition}
use Rattle.event_cond.specs.Services.{most_conditions}
use Rattle.event_ticks.specs.Settling.{settle}
use Rattle.event_ticks.proofs.Settling.{settle_by}
use Rattle.cell_ticks.specs.Deadlines.{evaluation, next_due}
use Rattle.cell_ticks.specs.Ticks.{begun, most_left}
use Rattle.cell_config.specs.declared.config.Config.{Config}
use Rattle.cell_config.specs.Said.{IsConfig}
use Rattle.parted_state.specs.Served.{Done, row_at}
use Rattle.cell_client.specs.Association.{verdict}
use Rattle.cell_client.specs.Effects.{Effect}
use Rattle.cell_services.specs.Serving.{passes, resolved}
use Rattle.cell_services.specs.Tables.{Tables, moment_after}
use Rattle.step_parts.specs.Partition.{cell}
use Rattle.step_parts.specs.State.{State, start}
use Rattle.step_parts.specs.Step.{replay, step}
use Rattle.step_parts.proofs.Configured.{apart, pools_apart as pools_apart_in}
use Rattle.cell_laws.specs.InTurn as turn
use Rattle.cell_laws.specs.Limits.{AreFew, HaveLimits}
use Rattle.cell_laws.proofs.Few.{few-changed, length-map}
use Rattle.cell_laws.proofs.FewKept.{Few, few-ends, few-semaphore, few-gone, few-heard, few-left}
use Rattle.cell_laws.proofs.InTurn.{in_turn}

-- ---- time goes by

module _ (until : Moment) where
  module _ (t : Tables) (all : Few t) (d : NamedDeadline) where
    evaluation-few : Few (turn.evaluation_met d t).tables
    evaluation-few = record {
      variables = all.variables;
      lists = all.lists;
      domains = all.domains;
      uploads = all.uploads;
      programs = all.programs;
      conditions = few-changed key_eq most_conditions (key_eq d.key) _ (named_condition d.key t.events.conditions) t.events.conditions all.conditions;
      enrolments = all.enrolments;
      journals = all.journals;
      semaphores = all.semaphores;
    }

    later-few : Few (turn.after_expiry d t)
    later-few = record {
      variables = all.variables;
      lists = all.lists;
      domains = all.domains;
      uploads = all.uploads;
      programs = all.programs;
      conditions = all.conditions;
      enrolments = all.enrolments;
      journals = all.journals;
      semaphores = few-semaphore (without_due d.entry d.at) d.key t.semaphores all.semaphores;
    }

    expiry-few : (x : Expired) → Few (turn.expiry_met d t x).tables
    expiry-few x = by_abort x.abort
      where
        by_abort : (b : Bool) → Few (turn.aborts_if b x.client (turn.after_expiry d t)).tables
        by_abort true = few-gone (turn.after_expiry d t) later-few x.client
        by_abort false = later-few

  next-few : (a b : Done Tables Effect) → turn.next_met until a ≡ Some b → Few a.tables → Few b.tables
  next-few a b same is = by_due (next_due until a.tables.semaphores a.tables.events.conditions) same
    where
      by_expired : (d : NamedDeadline) (o : Option Expired) → option_map (turn.behind a.told) (option_map (turn.expiry_met d a.tables) o) ≡ Some b → Few b.tables
      by_expired d None h = absurd (cc h)
      by_expired d (Some x) h = let one : turn.behind a.told (turn.expiry_met d a.tables x) ≡ b = cc h in subst (λ (c : Done Tables Effect). Few c.tables) one (expiry-few a.tables is d x)

      by_kind : (d : NamedDeadline) (k : Bool)
          → option_map (turn.behind a.told) (if k then Some (turn.evaluation_met d a.tables) else option_map (turn.expiry_met d a.tables) (expired d.key d.entry a.tables.semaphores)) ≡ Some b
          → Few b.tables
      by_kind d true h = let one : turn.behind a.told (turn.evaluation_met d a.tables) ≡ b = cc h in subst (λ (c : Done Tables Effect). Few c.tables) one (evaluation-few a.tables is d)
      by_kind d false h = by_expired d (expired d.key d.entry a.tables.semaphores) h

      by_due : (o : Option NamedDeadline) → option_map (turn.behind a.told) (option_and_then (turn.met a.tables) o) ≡ Some b → Few b.tables
      by_due None h = absurd (cc h)
      by_due (Some d) h = by_kind d (d.kind == evaluation) h

  all-few : (n : ℕ) (a : Done Tables Effect) → Few a.tables → Few (settle (turn.next_met until) n a).tables
  all-few zero a is = is
  all-few (suc n) a is = by_next (turn.next_met until a) refl (λ b. all-few n b)
    where
      by_next : (o : Option (Done Tables Effect)) → turn.next_met until a ≡ o → ((b : Done Tables Effect) → Few b.tables → Few (settle (turn.next_met until) n b).tables)
          → Few (settle_by (turn.next_met until) n a o).tables
      by_next None e ih = is
      by_next (Some b) e ih = ih b (next-few a b e is)

few-passed : (ms : ℕ) (t : Tables) → Few t → Few (passes ms t).tables
few-passed ms t all = subst (λ (d : Done Tables Effect). Few d.tables) (sym (in_turn ms t)) (record {
  variables = end.variables;
  lists = end.lists;
  domains = end.domains;
  uploads = end.uploads;
  programs = end.programs;
  conditions = end.conditions;
  enrolments = end.enrolments;
  journals = end.journals;
  semaphores = end.semaphores;
})
  where
    end : Few (turn.all_met ms t).tables
    end = all-few (moment_after ms t) (most_left (moment_after ms t) (begun t.semaphores t.events.conditions t.events.enrolments)) (record { tables = t; told = [] }) all

-- ---- each event

few-after : (s : State) (event : CellEvent) → Few (cell.tables_of s) → Few (cell.tables_of (step s event))
few-after s (Heard client octets) all =
    let row = row_at cell client s.clients in few-heard (cell.tables_of s) all row (resolved (cell.tables_of s) row (verdict row octets))
few-after s (Lost client) all = few-left (cell.tables_of s) all (row_at cell client s.clients).association (row_at cell client s.clients).client
few-after s (Tick ms) all = few-passed ms (cell.tables_of s) all
few-after s (Ends name) all = few-ends (cell.tables_of s) all name
few-after s (Drain client) all = all

few-along : (s : State) (history : List CellEvent) → Few (cell.tables_of s) → Few (cell.tables_of (fold step s history))
few-along s [] all = all
few-along s (event ∷ rest) all = few-along (step s event) rest (few-after s event all)

-- ---- at the start there are the configured variables and pools

none-yet : {K T : Type 0} (eq : K → K → Bool) (most : ℕ) → AreFew {K = K} {T = T} eq most []
unfolding IsDistinct
none-yet eq most = record { distinct = tt; few = omega arith }

first-few : (config : Config) → IsConfig config → Few (cell.tables_of (start config))
first-few config is = record {
  variables = record {
    distinct = names_apart config.variables (apart config is).names;
    few = let same = length-map variable_row config.variables in let few = (apart config is).few in omega (arith, same, few);
  };
  lists = none-yet _ _;
  domains = none-yet _ _;
  uploads = omega arith;
  programs = none-yet _ _;
  conditions = none-yet _ _;
  enrolments = none-yet _ _;
  journals = none-yet _ _;
  semaphores = record {
    distinct = pools_apart config.pools (pools_apart_in config is).names;
    few = let same = length-map pool_row config.pools in let few = is.pools.few in omega (arith, same, few);
  };
}

pub replay_limits : (config : Config) (history : List CellEvent) → IsConfig config → HaveLimits (replay config history)
replay_limits config history is = let all = few-along (start config) history (first-few config is) in record {
  variables = all.variables;
  lists = all.lists;
  domains = all.domains;
  uploads = all.uploads;
  programs = all.programs;
  conditions = all.conditions;
  enrolments = all.enrolments;
  journals = all.journals;
  semaphores = all.semaphores;
}
