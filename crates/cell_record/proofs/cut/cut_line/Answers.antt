use Rattle.std.proofs.Common.{arith, refl, take, rules}
use Rattle.cell_record.proofs.Plain.{cut_found}
use Rattle.cell_record.proofs.cut.cut_line.Goals as goal

pub returns-clause-line : goal.returns-clause-line
returns-clause-line c =
    let cut =
    cut_found c.args.text.now (take c.front_pairs-count.result c.front_pairs-count.new.to) c.front_number-front.result.count c.front_pairs-count.result _ c.front_number-front.result.value c.front_number-front.ensures.value c.front_number-front.ensures.digits
    (omega (arith, c.if-front-eq0.false)) c.front_number-front.ensures.few (omega (arith, c.if-front-text.false)) c.if-text-front-ne32.false (omega (arith, c.if-count-eq0.false)) c.front_pairs-count.ensures.hex c.front_pairs-count.ensures.octets
    refl c.if-size-text.false c.if-text-size-ne10.false c.if-size-gt-MOST.false in
    record { feed = cut.0; some = search rules; held = c.if-size-text.false; short = c.if-size-gt-MOST.false; line = cut.1; rest = cut.2 }

pub returns-clause-says : goal.returns-clause-says
returns-clause-says c =
    (cut_found c.args.text.now (take c.front_pairs-count.result c.front_pairs-count.new.to) c.front_number-front.result.count c.front_pairs-count.result _ c.front_number-front.result.value c.front_number-front.ensures.value c.front_number-front.ensures.digits
    (omega (arith, c.if-front-eq0.false)) c.front_number-front.ensures.few (omega (arith, c.if-front-text.false)) c.if-text-front-ne32.false (omega (arith, c.if-count-eq0.false)) c.front_pairs-count.ensures.hex c.front_pairs-count.ensures.octets
    refl c.if-size-text.false c.if-text-size-ne10.false c.if-size-gt-MOST.false).3
