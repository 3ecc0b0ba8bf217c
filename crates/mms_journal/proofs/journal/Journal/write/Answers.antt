use Rattle.std.proofs.Common.{◌≡◌, ◌∙◌, ◌++◌, ap, arith}
use Rattle.mms_journal.specs.Journals.{Log, octets_in}
use Rattle.mms_journal.specs.Services.{numbered}
use Rattle.mms_journal.proofs.Counted.{written_octets, written_sound}
use Rattle.mms_journal.proofs.journal.Journal.write.Goals as goal

pub invariant_of-self-2 : goal.invariant_of-self-2
invariant_of-self-2 c =
    let j : Log = record { entries = c.self.inside.entries.items; written = c.self.inside.written } in
    let es = c.prepared.inside.entries.items in
    let new : c.append.new.rows.items ≡ j.entries ++ numbered c.args.client j.written es =
    c.append.ensures ∙ ap (λ ws. ws ++ numbered c.args.client j.written es) c.reserved.ensures.items in (
      written_sound c.args.client es c.args.prepared j c.args.self.now c.append.new.rows.items c.in_ok-written.written c.prepared.view_is c.self.view_is c.self.invariant.0
          c.requires.number c.requires.room new (omega (arith, c.in_ok-written.ensures.written, c.len.ensures)),
      omega (arith, c.self.invariant.1, c.prepared.invariant, written_octets c.args.client es j, ap octets_in new),
    )
