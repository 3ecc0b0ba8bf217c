-- A caller that tries again.
use Rattle.std.specs.Prelude.{◌≡◌, ℕ, ◌+◌, ◌-◌, List, [], ◌∷◌, ◌++◌, refl}
use Rattle.std.proofs.Common.{ap, sym, ◌∙◌, subst, append_assoc}
use Rattle.mms_types.specs.declared.event.CellEvent.{CellEvent}
use Rattle.cell_config.specs.declared.config.Config.{Config}
use Rattle.part_table.specs.History.{StartsWith, events_of}
use Rattle.part_table.proofs.Histories.{starts_refl, starts_trans}
use Rattle.step_parts.specs.Step.{IsInTime}
use Rattle.mms_device.specs.Making.{MayMake}
use Rattle.mms_device.specs.Shared.{Shared, Caller, History, IsServed, IsAsBefore, IsBusy, IsTimely, HasTried, MayMakeNow, ticks_in}

module _ (old p : Caller) (tried : HasTried old p) where
  same_by : p.by ≡ old.by
  same_by = ap (λ (x : Caller). x.by) tried.pass

  -- an event that was in time is in time
  still_timely : (config : Config) (event : CellEvent) → IsTimely config old event → IsTimely config p event
  still_timely config event time =
      subst (λ (events : List CellEvent). IsInTime (config.start.0 + ticks_in events) event) (sym (ap (λ (b : ℕ). events_of b p.seen) same_by ∙ tried.own)) time

  pub still_may : (device : Shared) (event : CellEvent) → MayMakeNow device event old → MayMakeNow device event p
  still_may device event may = record {
    table = ap (λ (x : Caller). x.table) tried.pass ∙ may.table;
    actor = subst (λ (b : ℕ). MayMake b event) (sym same_by) may.actor;
    time = still_timely device.config event may.time;
  }

  module _ (new : Caller) (own : events_of p.by new.seen ≡ events_of p.by p.seen) (seen : StartsWith new.seen p.seen) (lost : List (ℕ × ℕ)) (pass : new ≡ record p { seen = new.seen; lost = p.lost ++ lost }) where
    -- it tried once more
    pub tried_more : HasTried old new
    tried_more =
        let same : new.lost ≡ p.lost ++ lost = ap (λ (x : Caller). x.lost) pass in record {
          pass = pass ∙ ap {A = Caller} {B = Caller} (λ x. record x { seen = new.seen; lost = p.lost ++ lost }) tried.pass
              ∙ ap {A = List (ℕ × ℕ)} {B = Caller} (λ l. record old { seen = new.seen; lost = l }) (sym same);
          seen = starts_trans new.seen p.seen old.seen seen tried.seen;
          own = subst (λ (b : ℕ). events_of b new.seen ≡ events_of b p.seen) same_by own ∙ tried.own;
          lost = starts_trans new.lost p.lost old.lost (lost, same) tried.lost;
        }

  -- and was served at last
  pub tried_served : (event : CellEvent) (new : Caller) (ticket : ℕ) (h : History) → IsServed event p new ticket h → IsServed event (record old { lost = new.lost }) new ticket h
  tried_served event new ticket h served = record {
    pass = served.pass
        ∙ ap {A = Caller} {B = Caller} (λ x. record x { seen = h ++ (x.by, event) ∷ []; own = x.own ++ ticket ∷ []; left = x.left - 1 }) tried.pass
        ∙ ap {A = List (ℕ × ℕ)} {B = Caller} (λ l. record old { seen = h ++ (old.by, event) ∷ []; own = old.own ++ ticket ∷ []; left = old.left - 1; lost = l }) (sym (ap (λ (x : Caller). x.lost) served.pass));
    seen = starts_trans h p.seen old.seen served.seen tried.seen;
    place = served.place;
    own = subst (λ (b : ℕ). events_of b new.seen ≡ events_of b p.seen ++ event ∷ []) same_by served.own ∙ ap (λ (l : List CellEvent). l ++ event ∷ []) tried.own;
  }
