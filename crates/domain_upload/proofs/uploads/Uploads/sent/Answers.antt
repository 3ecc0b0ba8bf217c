use Rattle.std.proofs.Common.{◌≡◌, ◌∙◌, length, ap, map}
use Rattle.std.proofs.lemmas.List.{take_at}
use Rattle.domain_upload.proofs.Numbered.{advanced, same_number}
use Rattle.domain_upload.proofs.uploads.Uploads.sent.Goals as goal

pub invariant_of-self : goal.invariant_of-self
invariant_of-self c =
    let len : length c.advance.new.rows ≡ c.self.inside.rows.len = c.advance.auto.rows ∙ c.deref_mut.ensures.len in
    advanced _ _ _ _ (take_at _ _ _ len ∙ c.advance.ensures ∙ ap (map _) c.deref_mut.ensures.value) c.self.invariant (same_number _ _ _ _)
