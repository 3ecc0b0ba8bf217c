use Rattle.std.proofs.Common.{◌≡◌, ◌∙◌, ap, ap₂, drop, filter, not, sym}
use Rattle.std.proofs.lemmas.Result.{IfOk-weaker}
use Rattle.mms_journal.specs.Journals.{Log}
use Rattle.mms_journal.specs.Range.{first_counted, is_before}
use Rattle.mms_journal.specs.Selection.{read}
use Rattle.mms_journal.proofs.Selected.{read_is}
use Rattle.mms_journal.proofs.journal.Journal.read.Goals as goal

pub returns : goal.returns
returns c =
    let ws = c.self.inside.entries.items in
    let j : Log = record { entries = ws; written = c.self.inside.written } in
    let place = c.place_of-place.result in
    let range = c.in_ok-range.range in
    let asked = c.args.asked.now in
    let behind : drop place ws ≡ filter (λ w. not (is_before asked.start asked.after w.number)) ws =
    ap (drop place) (sym c.deref.ensures.value) ∙ c.place_of-place.ensures.behind
    ∙ ap (filter (λ w. not (is_before asked.start asked.after w.number))) c.deref.ensures.value in
    IfOk-weaker c.counted.result (λ a. a ≡ first_counted range c.count_of.result c.split_at.result.1.now) (λ a. a ≡ read asked c.args.self.now)
    (λ a e. e ∙ ap₂ (first_counted range) c.count_of.ensures (c.split_at.ensures.back ∙ ap (drop place) c.deref-2.ensures.value) ∙ read_is asked range j (drop place ws) c.in_ok-range.ensures behind
    ∙ ap (read asked) c.self.view_is)
    c.counted.ensures
