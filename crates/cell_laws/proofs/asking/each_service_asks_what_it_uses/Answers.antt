use Rattle.cell_laws.proofs.AsksAll.{all_causes, all_effects, reply_causes, reply_effects}
use Rattle.cell_laws.proofs.asking.each_service_asks_what_it_uses.Goals as goal

pub returns-clause-causes : goal.returns-clause-causes
returns-clause-causes c = all_causes

pub returns-clause-effects : goal.returns-clause-effects
returns-clause-effects c = all_effects

pub returns-clause-replies : goal.returns-clause-replies
returns-clause-replies c = reply_causes

pub returns-clause-replied : goal.returns-clause-replied
returns-clause-replied c = reply_effects
