use denote.Param.Send.{param_send, arg_send, param_sync, arg_sync}
use Rattle.mms_device.specs.Turns.{IsFit}
use Rattle.mms_device.proofs.Crossing.{job_send, turns_sync}
use Rattle.cell_run.proofs.Worked.{all_of_each, jobs_whole}
use Rattle.cell_run.proofs.running.serve_jobs.Goals as goal

pub serve_phase-requires-clause-fit : goal.serve_phase-requires-clause-fit
serve_phase-requires-clause-fit g c κs within = all_of_each (λ job. ∥ IsFit c.args.device.now job ∥₁) c.args.jobs.items (λ i job at. ∣ (c.requires.fit i job at).0 ∣₁)

pub returns-in-Ok-clause-whole : goal.returns-in-Ok-clause-whole
returns-in-Ok-clause-whole g c = jobs_whole c.args.device.now c.args.jobs.items _ c.requires.fit c.in-Ok.ensures.ok.0 c.in-Ok.ensures.ok.1

pub serve_phase-requires-send-T-Job : goal.serve_phase-requires-send-T-Job
serve_phase-requires-send-T-Job g c κs within = param_send 3 _ (arg_send _ denote.Exit.yes _ job_send)

pub serve_phase-requires-sync-T : goal.serve_phase-requires-sync-T
serve_phase-requires-sync-T g c κs within = param_sync 1 _ (arg_sync _ denote.Exit.yes _ (turns_sync _))
