use Rattle.cell_run.proofs.Replayed.{may_recorded, replayed}
use Rattle.cell_run.proofs.serving.WholeServer.serve.Goals as goal

pub serve_whole-requires-clause-recorded : goal.serve_whole-requires-clause-recorded
serve_whole-requires-clause-recorded c = may_recorded c.args.self.now c.args.phase.events c.requires.next

pub returns : goal.returns
returns c =
    let e = c.serve_whole.ensures in
    record { told = replayed c.args.self.now c.serve_whole.new.device c.args.phase.number c.args.phase.events c.serve_whole.result c.requires.next.next.few e.number e.served e.outputs e.device }
