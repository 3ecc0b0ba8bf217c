use Rattle.std.proofs.Common.{◌≡◌, None, subst, sym, arith}
use Rattle.std.proofs.lemmas.Int.{ints}
use Rattle.domain_upload.specs.Uploads.{OpenUploads, initiate_cause}
use Rattle.domain_upload.proofs.Numbered.{one_more}
use Rattle.domain_upload.proofs.Rows.{nothing_against}
use Rattle.domain_upload.proofs.uploads.Uploads.initiate.Goals as goal

pub invariant_of-self-2 : goal.invariant_of-self-2
invariant_of-self-2 c =
    let before : OpenUploads = record { rows = c.self.inside.rows.items; given = c.self.inside.given } in
    let none : initiate_cause c.args.name.now c.requires.0 before ≡ None = subst (λ (s : OpenUploads). initiate_cause c.args.name.now c.requires.0 s ≡ None) (sym c.self.view_is) c.requires.1 in
    let n = nothing_against c.args.name.now c.requires.0 before none in
    one_more c.self.inside.given _ _ _ c.in_ok-push.ensures.items c.self.invariant n.2 n.3 (omega (arith, ints, n.3))
