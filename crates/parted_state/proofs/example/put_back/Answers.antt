use Rattle.std.proofs.Common.{◌∙◌, ap, sym}
use Rattle.std.specs.Option.{option_copied_mut}
use Rattle.parted_state.proofs.Places.{free_stays}
use Rattle.parted_state.proofs.example.put_back.Goals as goal

pub returns-in-None : goal.returns-in-None
returns-in-None c = free_stays (λ there. c.args.part) c.args.held.now c.args.place (sym c.get_mut.ensures.value ∙ ap option_copied_mut c.in-None.is)
