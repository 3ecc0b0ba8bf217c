-- What a turn makes of a job.
use Rattle.std.proofs.Common.{◌≡◌, ◌≤◌, ◌<◌, ◌+◌, ◌-◌, ℕ, List, [], ◌∷◌, ◌++◌, sym, ap, ◌∙◌, subst, length, length-append, vec_capacity, append_assoc, append-nil, arith}
use Rattle.mms_types.specs.declared.event.CellEvent.{CellEvent}
use Rattle.cell_config.specs.declared.config.Config.{Config}
use Rattle.part_table.specs.History.{StartsWith, events_of}
use Rattle.part_table.specs.Known.{HoldsNothing}
use Rattle.cell_services.specs.Tables.{last_moment}
use Rattle.mms_device.specs.Making.{MayMake}
use Rattle.mms_device.specs.Refusals.{IsRefused}
use Rattle.mms_device.specs.Shared.{Shared, Caller, History, IsServed, goes_by, ticks_in}
use Rattle.mms_device.specs.Turns.{AreOf, IsFit, MadeOf}
use Rattle.mms_device.specs.declared.answers.Refused.{Refused}
use Rattle.mms_device.specs.declared.answers.Refused.TheVariants as refused
use Rattle.mms_device.specs.declared.turns.CellJob.{CellJob}

ticks-append : (xs ys : List CellEvent) → ticks_in (xs ++ ys) ≡ ticks_in xs + ticks_in ys
ticks-append [] ys = omega arith
ticks-append (e ∷ xs) ys = let rest = ticks-append xs ys in omega (arith, rest)

module _ (device : Shared) (a : CellJob) (e : CellEvent) (more : List CellEvent) (fit : IsFit device a) (rest : a.rest ≡ e ∷ more) where
  fit_left : 0 < a.pass.left
  fit_left = let size = ap length rest in let left = fit.serve.left in omega arith

  actors : MayMake a.pass.by e × AreOf a.pass.by more
  actors = subst (AreOf a.pass.by) rest fit.serve.actor

  time : device.config.start.0 + (ticks_in (events_of a.pass.by a.pass.seen) + (goes_by e + ticks_in more)) ≤ last_moment
  time = let ticks = ap ticks_in rest in let le = fit.serve.time in omega arith

  module _ (b : CellJob) (ticket : ℕ) (h : History) (served : IsServed e a.pass b.pass ticket h) (rest_now : b.rest ≡ more) (log : b.log.items ≡ a.log.items ++ (ticket, e) ∷ []) where
    by : b.pass.by ≡ a.pass.by
    by = ap (λ (p : Caller). p.by) served.pass

    pub fit_served : vec_capacity b.log ≡ vec_capacity a.log → IsFit device b
    fit_served same_room = record {
      serve = record {
        of_table = ap (λ (p : Caller). p.table) served.pass ∙ fit.serve.of_table;
        idle = subst HoldsNothing (sym served.pass) fit.serve.idle;
        left = (let size = ap length rest in let now = ap length rest_now in let left = ap (λ (p : Caller). p.left) served.pass in let le = fit.serve.left in omega arith);
        actor = subst (λ (n : ℕ). AreOf n b.rest) (sym by) (subst (AreOf a.pass.by) (sym rest_now) actors.1);
        time = (
            let own : ticks_in (events_of b.pass.by b.pass.seen) ≡ ticks_in (events_of a.pass.by a.pass.seen) + ticks_in (e ∷ []) =
            ap (λ n. ticks_in (events_of n b.pass.seen)) by ∙ ap ticks_in served.own ∙ ticks-append (events_of a.pass.by a.pass.seen) (e ∷ []) in
            let left = ap ticks_in rest_now in
            let le = time in
            omega arith
            );
      };
      room = (
          let size = ap length rest in
          let now = ap length rest_now in
          let longer = ap length log ∙ length-append a.log.items ((ticket, e) ∷ []) in
          let room = fit.room in
          omega (arith, same_room)
          );
    }

    pub made_served : MadeOf a b
    made_served = record {
      placed = (ticket, e) ∷ [];
      log = log;
      rest = rest ∙ ap (λ (l : List CellEvent). e ∷ l) (sym rest_now);
      own = ap (λ (p : Caller). p.own) served.pass;
      known = served.own;
      seen = (served.seen.0 ++ (a.pass.by, e) ∷ [], ap (λ (p : Caller). p.seen) served.pass ∙ ap (λ (l : History). l ++ (a.pass.by, e) ∷ []) served.seen.1 ∙ append_assoc a.pass.seen served.seen.0 ((a.pass.by, e) ∷ []));
      left = (let left = ap (λ (p : Caller). p.left) served.pass in let some = fit_left in omega arith);
      pass = served.pass ∙ ap (λ l. record a.pass { seen = h ++ (a.pass.by, e) ∷ []; own = a.pass.own ++ ticket ∷ []; left = a.pass.left - 1; lost = l }) (sym (ap (λ (p : Caller). p.lost) served.pass))
          ∙ sym (ap (λ (p : Caller). record a.pass { seen = p.seen; own = p.own; left = p.left; lost = b.pass.lost }) served.pass);
    }

-- no event was served: nothing of the pass has changed but what it knows of others and the claims that it lost
made_kept : (a b : CellJob) → b.rest ≡ a.rest → b.log.items ≡ a.log.items → StartsWith b.pass.seen a.pass.seen → events_of a.pass.by b.pass.seen ≡ events_of a.pass.by a.pass.seen
    → (lost : List (ℕ × ℕ)) → b.pass ≡ record a.pass { seen = b.pass.seen; lost = lost } → MadeOf a b
made_kept a b rest log seen own lost pass = record {
  placed = [];
  log = log ∙ sym (append-nil a.log.items);
  rest = sym rest;
  own = ap (λ (p : Caller). p.own) pass ∙ sym (append-nil a.pass.own);
  known = own ∙ sym (append-nil (events_of a.pass.by a.pass.seen));
  seen = seen;
  left = (let left = ap (λ (p : Caller). p.left) pass in omega arith);
  pass = pass ∙ ap (λ (l : List (ℕ × ℕ)). record a.pass { seen = b.pass.seen; lost = l }) (sym (ap (λ (p : Caller). p.lost) pass))
      ∙ sym (ap (λ (p : Caller). record a.pass { seen = b.pass.seen; own = p.own; left = p.left; lost = b.pass.lost }) pass);
}

pub made_refused : (config : Config) (event : CellEvent) (a b : CellJob) (why : Refused) → b.rest ≡ a.rest → b.log.items ≡ a.log.items → IsRefused config event a.pass b.pass why → MadeOf a b
made_refused config event a b (refused.Busy busy) rest log r = made_kept a b rest log r.seen r.own (a.pass.lost ++ (busy.part, busy.by) ∷ []) r.pass
made_refused config event a b refused.Memory rest log r = made_kept a b rest log r.seen r.own a.pass.lost r.pass
