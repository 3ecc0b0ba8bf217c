use Rattle.std.proofs.Common.{Bool, ap, ap₂, sym, ◌∙◌}
use Rattle.association.specs.Client.{Client as RoomyRow}
use Rattle.domain_load.specs.Domains.{Rows}
use Rattle.domain_load.specs.Loading.{initiate_cause}
use Rattle.serve_domains.specs.Domains.{calling_left, initiate_download}
use Rattle.serve_domains.proofs.DomainLaws.{refused_so}
use Rattle.serve_domains.proofs.NumberLaws.{load_has}
use Rattle.serve_domains.proofs.download.download.Goals as goal

pub begin_new-requires-clause-number : goal.begin_new-requires-clause-number
begin_new-requires-clause-number c =
    load_has c.args.asked.now c.args.own.now.row c.args.invoke c.args.tables.now c.requires.number
    (ap₂ (λ (b : Bool) (d : Rows). initiate_cause b c.args.asked.now d) (sym (c.calling_left-left.ensures ∙ ap (λ (r : RoomyRow). calling_left r.row) c.part.ensures)) (sym c.domains.ensures.rows)
    ∙ sym c.initiate_download_cause.ensures ∙ c.in-None.is)

pub returns-in-Some-clause-served : goal.returns-in-Some-clause-served
returns-in-Some-clause-served c =
    refused_so (initiate_download c.args.asked.now) c.args.own.now.row c.args.invoke c.args.tables.now c.refuse.new.self c.refuse.result c.in-Some.error
    (λ facts. ap₂ (λ (b : Bool) (d : Rows). initiate_cause b c.args.asked.now d) (sym (c.calling_left-left.ensures ∙ ap (λ (r : RoomyRow). calling_left r.row) c.part.ensures)) (sym c.domains.ensures.rows)
    ∙ sym c.initiate_download_cause.ensures ∙ c.in-Some.is)
    c.refuse.ensures.sent
