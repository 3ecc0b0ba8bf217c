use Rattle.serve_programs.proofs.MadeLaws.{made_and_deleted, made_may_go}
use Rattle.serve_programs.proofs.making.put.Goals as goal

pub returns-in-Err-clause-unmade : goal.returns-in-Err-clause-unmade
returns-in-Err-clause-unmade c =
    made_and_deleted c.args.asked.now c.args.domains.now.domains c.args.programs.now c.create.new.self c.delete.new.self c.requires.free c.in_ok-create.ensures.made c.delete.ensures

pub delete-requires : goal.delete-requires
delete-requires c =
    made_may_go c.args.asked.now c.args.domains.now.domains c.args.programs.now c.create.new.self c.requires.free c.in_ok-create.ensures.made
