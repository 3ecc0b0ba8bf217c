use Rattle.std.proofs.Common.{sym}
use Rattle.pool_sem.proofs.Places.{place-found, place-missing, rising}
use Rattle.pool_sem.proofs.entries.place_of.Goals as goal

pub returns-in-Ok : goal.returns-in-Ok
returns-in-Ok c = record {
  place = sym (place-found c.args.name.now c.args.tokens.now c.in-Ok.place c.args.name.now c.requires c.in-Ok.ensures.bound (c.in-Ok.ensures.ok c.args.name.now));
}

pub returns-in-Err : goal.returns-in-Err
returns-in-Err c =
    let sides = c.in-Err.ensures.position (rising c.args.name.now c.args.tokens.now c.requires) in
    record { place = sym (place-missing c.args.name.now c.args.tokens.now c.in-Err.field-0 sides.0 sides.1) }
