-- After any history each scope that is a domain is live.
use Rattle.std.proofs.Common.{◌≡◌, ℕ, zero, suc, ◌+◌, List, [], ◌∷◌, fold, map, slice_get, unwrap_or, Option, None, Some, refl, sym, subst}
use Rattle.mms_types.specs.declared.cells.NamedCell.{NamedCell}
use Rattle.mms_types.specs.declared.cells.PoolRow.{PoolRow}
use Rattle.mms_types.specs.declared.event.CellEvent.{CellEvent}
use Rattle.mms_types.specs.declared.event.CellEvent.TheVariants.{Heard, Lost, Tick, Ends, Drain}
use Rattle.mms_pdu.specs.Heard.{pdu_heard}
use Rattle.association.specs.Client.{ClientRow}
use Rattle.variables.specs.Start.{variable_row}
use Rattle.mms_time.specs.Opening.{configured}
use Rattle.cell_config.specs.declared.config.Config.{Config}
use Rattle.cell_config.specs.Said.{IsConfig}
use Rattle.domain_load.specs.Domains as domain
use Rattle.parted_state.specs.Served.{row_at}
use Rattle.cell_client.specs.Association.{Came, verdict}
use Rattle.serve_domains.proofs.Answered.{IsOfLoad, IsSaid, verdict_said}
use Rattle.serve_domains.specs.Loads.{AreLoads}
use Rattle.cell_services.specs.Serving.{resolved}
use Rattle.step_parts.specs.Partition.{cell, no_client}
use Rattle.step_parts.specs.State.{State, IsSound, start}
use Rattle.step_parts.specs.Step.{step, replay}
use Rattle.step_sound.proofs.Sound.{start_sound, step_sound}
use Rattle.cell_laws.specs.Scopes.{HaveLiveScopes}
use Rattle.cell_laws.proofs.EachName.{Each, each_all}
use Rattle.cell_laws.proofs.ScopesKept.{AreLive, HasLive, NamesAre, heard_live, lost_live, passed_live}
use Rattle.cell_laws.proofs.Verdicts.{by-tables}

-- ---- what a client answers to a request of a load is of a domain that it loads

nobody_asked : (client number : ℕ) (came : Came) (domains : domain.Rows) → IsOfLoad no_client.asked number came → AreLoads client no_client.asked domains
nobody_asked client number came domains is = let none : None ≡ Some is.of = is.asked in absurd (cc none)

module _ (count : ℕ) (s : State) (sound : IsSound count s) where
  pub its_loads : (client number : ℕ) (came : Came) → IsOfLoad (row_at cell client s.clients).asked number came
      → AreLoads (row_at cell client s.clients).client (row_at cell client s.clients).asked s.domains.domains
  its_loads zero number came is = nobody_asked no_client.client number came s.domains.domains is
  its_loads (suc k) number came is = by_row (slice_get s.clients k) refl is
    where
      by_row : (o : Option ClientRow) → slice_get s.clients k ≡ o → IsOfLoad (unwrap_or o no_client).asked number came
          → AreLoads (unwrap_or o no_client).client (unwrap_or o no_client).asked s.domains.domains
      by_row None there is = nobody_asked no_client.client number came s.domains.domains is
      by_row (Some row) there is =
          subst (λ (n : ℕ). AreLoads n row.asked s.domains.domains) (sym (sound.rows k row there).number) (sound.loads k row there)

-- ---- each event

abbrev pub HoldsIn : State → Type 0
HoldsIn s = NamesAre (HasLive s.domains.domains) s.variables s.events s.journals s.semaphores

module _ (count : ℕ) (s : State) (sound : IsSound count s) (all : HoldsIn s) where
  held : AreLive (cell.tables_of s)
  held = all

  live_after : (event : CellEvent) → HoldsIn (step s event)
  live_after (Heard client octets) =
      let row = row_at cell client s.clients in
      heard_live (cell.tables_of s) held row (resolved (cell.tables_of s) row (verdict row octets))
      (by-tables (IsSaid row) (cell.tables_of s) row (λ invoke asked is. tt) (λ number came is. tt) (λ is apart client domains agree. agree) (verdict row octets)
      (verdict_said row row.association (pdu_heard row.constants.edition octets)))
      (its_loads count s sound client) sound.names
  live_after (Lost client) =
      lost_live (cell.tables_of s) held (row_at cell client s.clients) (row_at cell client s.clients).association (row_at cell client s.clients).client
  live_after (Tick ms) = passed_live (cell.tables_of s) held ms
  live_after (Ends name) = all
  live_after (Drain client) = all

live_along : (count : ℕ) (s : State) (history : List CellEvent) → IsSound count s → HoldsIn s → HoldsIn (fold step s history)
live_along count s [] sound all = all
live_along count s (event ∷ rest) sound all = live_along (count + 1) (step s event) rest (step_sound count s event sound) (live_after count s sound all event)

-- ---- at the start all names are the device's

first_variables : (domains : domain.Rows) (named : List NamedCell) → Each (HasLive domains) (map variable_row named)
first_variables domains [] = tt
first_variables domains (one ∷ named) = (tt, first_variables domains named)

first_pools : (domains : domain.Rows) (pools : List PoolRow) → Each (HasLive domains) (configured pools)
first_pools domains [] = tt
first_pools domains (pool ∷ pools) = (tt, first_pools domains pools)

first_live : (config : Config) → HoldsIn (start config)
first_live config = record { variables = first_variables [] config.variables; lists = tt; conditions = tt; enrolments = tt; journals = tt; semaphores = first_pools [] config.pools }

pub replay_live : (config : Config) (history : List CellEvent) → IsConfig config → HaveLiveScopes (replay config history)
replay_live config history is =
    let s : State = replay config history in
    let all = live_along 0 (start config) history (start_sound config is) (first_live config) in
    record {
      variables = each_all (HasLive s.domains.domains) s.variables.vars.variables all.variables;
      lists = each_all (HasLive s.domains.domains) s.variables.lists all.lists;
      conditions = each_all (HasLive s.domains.domains) s.events.conditions all.conditions;
      enrolments = each_all (HasLive s.domains.domains) s.events.enrolments all.enrolments;
      journals = each_all (HasLive s.domains.domains) s.journals all.journals;
      semaphores = each_all (HasLive s.domains.domains) s.semaphores all.semaphores;
    }
