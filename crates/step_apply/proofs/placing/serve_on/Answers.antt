use Rattle.std.proofs.Common.{◌≡◌, sym, subst, List, ℕ, Option}
use Rattle.part_table.specs.Held.{held_at}
use Rattle.parted_state.specs.Lifted.{tables_shown}
use Rattle.cell_services.specs.Acts.{all_done}
use Rattle.cell_services.specs.Serving.{hears}
use Rattle.step_parts.specs.Found.{row_held}
use Rattle.step_parts.specs.Partition.{cell}
use Rattle.step_parts.specs.declared.part.Part.{Part}
use Rattle.step_parts.proofs.Found.{if_some, on_some}
use Rattle.step_apply.specs.Placing.{IsPartOf}
use Rattle.step_apply.specs.Tasks.{IsServing}
use Rattle.step_apply.proofs.Ready.{left_put, table_there}
use Rattle.step_apply.proofs.placing.serve_on.Goals as goal

pub serve_alone-requires-clause-table : goal.serve_alone-requires-clause-table
serve_alone-requires-clause-table g c =
    subst (λ (k : ℕ). IsPartOf (g.S.OnParts.its c.args.asked.now) (held_at c.args.held.now k)) (sym c.place-place.ensures)
    (table_there c.requires.serving (g.S.OnParts.its c.args.asked.now) (g.met.S.OnParts.stands c.args.asked.now) (g.S.OnParts.verdict c.args.asked.now c.args.number)
    (g.met.S.OnParts.asks c.args.asked.now c.args.number) c.requires.ready)

pub serve_alone-requires-clause-may : goal.serve_alone-requires-clause-may
serve_alone-requires-clause-may g c =
    subst (λ (k : ℕ). g.S.OnParts.may c.args.asked.now c.args.number (row_held c.args.held.now c.args.who.client) ((g.S.OnParts.its c.args.asked.now).part_in (held_at c.args.held.now k)))
    (sym c.place-place.ensures) c.requires.may

pub finish_and_tell-requires-clause-serving : goal.finish_and_tell-requires-clause-serving
finish_and_tell-requires-clause-serving g c =
    subst (IsServing c.args.who.clients c.args.who.client) (sym (on_some c.in_ok-serve_alone.field-0 c.in-Some.left c.in-Some.is c.in_ok-serve_alone.ensures.same)) c.requires.serving

pub finish_and_tell-requires-clause-table : goal.finish_and_tell-requires-clause-table
finish_and_tell-requires-clause-table g c =
    subst (λ (h : List (Option Part)). IsPartOf (g.S.OnParts.its c.args.asked.now) (held_at h c.place-place.result))
    (sym (on_some c.in_ok-serve_alone.field-0 c.in-Some.left c.in-Some.is c.in_ok-serve_alone.ensures.same))
    (subst (λ (k : ℕ). IsPartOf (g.S.OnParts.its c.args.asked.now) (held_at c.args.held.now k)) (sym c.place-place.ensures)
    (table_there c.requires.serving (g.S.OnParts.its c.args.asked.now) (g.met.S.OnParts.stands c.args.asked.now) (g.S.OnParts.verdict c.args.asked.now c.args.number)
    (g.met.S.OnParts.asks c.args.asked.now c.args.number) c.requires.ready))

pub finish_and_tell-requires-clause-fits : goal.finish_and_tell-requires-clause-fits
finish_and_tell-requires-clause-fits g c =
    subst (λ (h : List (Option Part)). g.S.OnParts.fits c.args.asked.now c.in_ok-facts.facts c.in-Some.left.1 c.args.who.client ((g.S.OnParts.its c.args.asked.now).part_in (held_at h c.place-place.result)))
    (sym (on_some c.in_ok-serve_alone.field-0 c.in-Some.left c.in-Some.is c.in_ok-serve_alone.ensures.same))
    (if_some _ c.in_ok-serve_alone.field-0 c.in-Some.left c.in-Some.is c.in_ok-serve_alone.ensures.fits)

pub returns-in-Some-clause-put : goal.returns-in-Some-clause-put
returns-in-Some-clause-put g c =
    left_put c.args.who.client c.args.held.now c.serve_alone.new.held c.finish_and_tell.new.held c.finish_and_tell.result (g.S.OnParts.verdict c.args.asked.now c.args.number)
    (λ h. all_done ((g.S.OnParts.own c.args.asked.now).put (g.S.OnParts.becomes c.args.asked.now c.in_ok-facts.facts c.args.who.client ((g.S.OnParts.its c.args.asked.now).part_in (held_at h c.place-place.result)))
    (tables_shown cell h)) c.in-Some.left.0.items)
    (on_some c.in_ok-serve_alone.field-0 c.in-Some.left c.in-Some.is c.in_ok-serve_alone.ensures.same)
    (if_some (λ l. hears (tables_shown cell c.args.held.now) (row_held c.args.held.now c.args.who.client) c.args.who.client (g.S.OnParts.verdict c.args.asked.now c.args.number)
    ≡ all_done ((g.S.OnParts.own c.args.asked.now).put (g.S.OnParts.becomes c.args.asked.now c.in_ok-facts.facts c.args.who.client ((g.S.OnParts.its c.args.asked.now).part_in (held_at c.args.held.now c.place-place.result)))
    (tables_shown cell c.args.held.now)) l.0.items) c.in_ok-serve_alone.field-0 c.in-Some.left c.in-Some.is c.in_ok-serve_alone.ensures.left)
    c.finish_and_tell.ensures.put
