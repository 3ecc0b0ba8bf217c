use Rattle.std.proofs.Common.{rules, ◌≡◌, false}
use Rattle.ber_core.specs.Part.{part}
use Rattle.pdu_names.specs.Editions.{lengths_of}
use Rattle.pdu_assoc.specs.ServiceErrors.{IsOneOf}
use Rattle.pdu_assoc.proofs.Numbered.{number_read, number_refused}
use Rattle.pdu_assoc.proofs.errors.numbered.Goals as goal

pub returns-in_err-unsigned8 : goal.returns-in_err-unsigned8
returns-in_err-unsigned8 c =
    let h : (c.args.element.tag.class ≡ 2) × (c.args.element.tag.constructed ≡ false) × IsOneOf c.args.first c.args.count c.args.element.tag.number = search rules in
    rw (number_read (lengths_of c.args.edition) (part c.args.element) c.args.first c.args.count h.0 h.1 h.2) (search rules)

pub returns-in_ok-unsigned8 : goal.returns-in_ok-unsigned8
returns-in_ok-unsigned8 c =
    let h : (c.args.element.tag.class ≡ 2) × (c.args.element.tag.constructed ≡ false) × IsOneOf c.args.first c.args.count c.args.element.tag.number = search rules in
    rw (number_read (lengths_of c.args.edition) (part c.args.element) c.args.first c.args.count h.0 h.1 h.2) (search rules)

pub returns-else-is_numbered-clause-exact : goal.returns-else-is_numbered-clause-exact
returns-else-is_numbered-clause-exact c = number_refused (lengths_of c.args.edition) (part c.args.element) c.args.first c.args.count (search rules)
