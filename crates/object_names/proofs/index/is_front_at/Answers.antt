use Rattle.std.proofs.Common.{◌∙◌, ap, sym}
use Rattle.std.specs.Option.{option_copied}
use Rattle.object_names.specs.Borrowed.{scope_meant}
use Rattle.object_names.specs.Index.{is_front, is_front_at}
use Rattle.object_names.proofs.KeysInOrder.{key_there}
use Rattle.object_names.proofs.index.is_front_at.Goals as goal

pub returns-in-Some : goal.returns-in-Some
returns-in-Some g c =
    c.is_front.ensures ∙ ap (is_front_at (is_front (scope_meant c.args.scope) (option_copied c.args.after)))
    (sym (key_there c.args.rows.now.entries c.args.place c.in-Some.key.now c.in-Some.field-0-1.now (sym c.in-Some.ensures.entry)))
