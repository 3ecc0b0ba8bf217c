use Rattle.std.proofs.Common.{◌≡◌, ◌∙◌, ◌-◌, Some, ap, ap₂, drop, length, arith, sym}
use Rattle.mms_types.specs.declared.journal.EntryContent.{EntryContent}
use Rattle.mms_types.specs.declared.journal.EntryContent.TheVariants.{Data}
use Rattle.mms_journal.specs.Entries.{entry_length, entry_octets, variables_of}
use Rattle.mms_journal.specs.Kept.{variables_octets}
use Rattle.mms_journal.proofs.Spelled.{variables_end}
use Rattle.mms_journal.proofs.kept.place_of_variables.Goals as goal

pub overflow_sub-len : goal.overflow_sub-len
overflow_sub-len c =
    let is : c.args.entry.now.content ≡ Data c.in-Data.event (Some c.in-Some.variables) = c.in-Data.is ∙ ap (Data c.in-Data.event) c.in-Some.is in
    let end = variables_end c.args.entry.now c.in-Data.event c.in-Some.variables is in
    omega (arith, end.0, c.in_ok-n.ensures, c.requires)

pub returns : goal.returns
returns c =
    let e = c.args.entry.now in
    let variables = c.in-Some.variables in
    let is : e.content ≡ Data c.in-Data.event (Some variables) = c.in-Data.is ∙ ap (Data c.in-Data.event) c.in-Some.is in
    let end = variables_end e c.in-Data.event variables is in
    let place : c.in-Ok.place ≡ entry_length e - length (variables_octets variables) = c.in-Ok.ensures.1 ∙ ap₂ (λ m n. m - n) c.requires c.in_ok-n.ensures in (
      omega (arith, place),
      ap (λ n. drop n (entry_octets e)) place ∙ end.1 ∙ ap (λ (x : EntryContent). variables_octets (variables_of x)) (sym is),
    )
