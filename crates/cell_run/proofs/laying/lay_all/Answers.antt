use Rattle.std.proofs.Common.{◌++◌, ◌∷◌, [], ap, sym, refl, ◌∙◌, append_assoc, length-append, vec_items, arith, rules}
use Rattle.std.specs.Vec.Iter.{into_iter_items}
use Rattle.std.proofs.lemmas.List.{length-map}
use Rattle.mms_device.specs.Shared.{all_events}
use Rattle.cell_run.proofs.Laid.{all_laid, at_seam, log_laid, log_stands, none_laid}
use Rattle.cell_run.proofs.laying.lay_all.Goals as goal

pub lay-requires : goal.lay-requires
lay-requires c =
    let i = c.loop-log.invariant in
    let s = c.in-Some.ensures.steps in
    let at = at_seam c.args.logs.items c.loop-log.yielded _ c.in-Some.log (i.logs ∙ ap (λ l. c.loop-log.yielded ++ l) s.0) in
    let b = c.requires.body in
    (all_events b.0, length-map b.0 _ ∙ b.1 ∙ sym i.count, log_stands vec_items c.args.first c.args.logs.items b.0 _ c.in-Some.log b.2 at)

pub loop-log-init : goal.loop-log-init
loop-log-init c = record {
  logs = search rules;
  len = search rules;
  count = refl;
  laid = λ body s index. none_laid vec_items c.args.first c.args.logs.items (into_iter_items c.into_iter-log-iterator.result) body index c.args.slots.now (search rules) s;
}

pub loop-log-preserved : goal.loop-log-preserved
loop-log-preserved c =
    let i = c.loop-log.invariant in
    let s = c.in-Some.ensures.steps in
    let at = at_seam c.args.logs.items c.loop-log.yielded _ c.in-Some.log (i.logs ∙ ap (λ l. c.loop-log.yielded ++ l) s.0) in
    record {
      logs = i.logs ∙ ap (λ l. c.loop-log.yielded ++ l) s.0 ∙ sym (append_assoc c.loop-log.yielded (c.in-Some.log ∷ []) _);
      len = omega (arith, i.len, s.1, length-append c.loop-log.yielded (c.in-Some.log ∷ []));
      count = c.lay.ensures.count ∙ i.count;
      laid = λ body sb index. log_laid vec_items c.args.first index c.loop-log.slots c.lay.new.slots (all_events body) c.in-Some.log _ _ s.0
          (c.lay.ensures.laid (all_events body) index (log_stands vec_items c.args.first c.args.logs.items body _ c.in-Some.log sb at)) (i.laid body sb index);
    }

pub returns-clause-laid : goal.returns-clause-laid
returns-clause-laid c = λ body s index.
    let i = c.loop-log.invariant in
    all_laid vec_items c.args.first index c.loop-log.slots (all_events body) c.args.logs.items c.loop-log.yielded _ i.logs (omega (arith, i.len, c.in-None.ensures.steps.0)) (i.laid body s index)
