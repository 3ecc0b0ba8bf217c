use Rattle.std.proofs.Common.{◌≡◌, ◌++◌, ◌∷◌, ◌==◌, [], List, ℕ, false, length, ap, sym, ◌∙◌, subst, append_assoc, OnErr}
use Rattle.std.specs.List.{flat_map}
use Rattle.cell_io.specs.Prefix.{AppendsPrefix}
use Rattle.mms_types.specs.declared.event.What.{What}
use Rattle.cell_record.specs.Report.{output_text, section_head, section}
use Rattle.cell_record.proofs.ReportLemmas.{section_some}
use Rattle.cell_record.proofs.report.write_section.Goals as goal

not_empty : (os : List What) → os ≡ [] → false ≡ (length os == 0) → ⊥
not_empty [] e z = cc
not_empty (o ∷ os) e z = cc

pub returns-clause-part : goal.returns-clause-part
returns-clause-part g c =
    let some : ¬ (c.args.outputs.now ≡ []) = λ e. let z = c.if-is_empty.ensures in absurd (not_empty c.args.outputs.now e z) in
    let all : c.put_client.new.text ++ flat_map output_text c.args.outputs.now ≡ c.args.text.now ++ section c.args.client c.args.outputs.now =
    ap (λ (l : List ℕ). l ++ flat_map output_text c.args.outputs.now) c.in_ok-put_client.ensures ∙ append_assoc c.args.text.now (section_head c.args.client) (flat_map output_text c.args.outputs.now)
    ∙ ap (λ (l : List ℕ). c.args.text.now ++ l) (sym (section_some c.args.client c.args.outputs.now some)) in
    subst (λ (l : List ℕ). OnErr c.write_outputs.result (AppendsPrefix (g.K.Sink.held c.args.out.now) (g.K.Sink.held c.write_outputs.new.out) l)) all c.write_outputs.ensures.part
