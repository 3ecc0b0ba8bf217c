use Rattle.std.proofs.Common.{◌∙◌, ◌+◌, ◌++◌, [], ◌∷◌, ap, append_assoc, arith, length-append, sym}
use Rattle.mms_journal.specs.Services.{numbered}
use Rattle.mms_journal.proofs.Counted.{numbered_more}
use Rattle.mms_journal.proofs.writing.append.Goals as goal

pub loop-entry-preserved : goal.loop-entry-preserved
loop-entry-preserved c =
    let i = c.loop-entry.invariant in
    let s = c.in-Some.ensures.steps in
    let one = length-append c.loop-entry.yielded (c.in-Some.entry ∷ []) in
    record {
      entries = i.entries ∙ ap (λ l. c.loop-entry.yielded ++ l) s.0 ∙ sym (append_assoc c.loop-entry.yielded (c.in-Some.entry ∷ []) _);
      rows = c.push_reserved.ensures.items ∙ ap (λ l. l ++ record { number = c.loop-entry.last + 1; client = c.args.client; entry = c.in-Some.entry } ∷ []) i.rows
          ∙ append_assoc c.args.rows.now.items (numbered c.args.client c.args.number c.loop-entry.yielded) (record { number = c.loop-entry.last + 1; client = c.args.client; entry = c.in-Some.entry } ∷ []) ∙ ap (λ l. c.args.rows.now.items ++ l) (sym (numbered_more c.args.client c.args.number c.loop-entry.yielded c.in-Some.entry c.loop-entry.last i.last));
      last = omega (arith, i.last, one);
      left = omega (arith, i.left, one, s.1);
      room = omega (arith, i.room, s.1, c.push_reserved.ensures.len, c.push_reserved.ensures.capacity);
    }
