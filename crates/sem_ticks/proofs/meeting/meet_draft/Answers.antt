use Rattle.std.proofs.Common.{◌≡◌, ◌∙◌, Bor, IsSome, Some, ap, slice_get, sym}
use Rattle.std.specs.Map.{lookup}
use Rattle.mms_types.specs.Order.{key_eq}
use Rattle.mms_types.specs.declared.key.Key.{Key}
use Rattle.sem_ticks.specs.declared.drafts.Draft.{Draft}
use Rattle.sem_ticks.proofs.Drafting.{draft_found, draft_of_next, drafts_set, got, own_names}
use Rattle.sem_ticks.proofs.MetIn.{met_in}
use Rattle.sem_ticks.proofs.NextOf.{place_stands}
use Rattle.sem_ticks.proofs.meeting.meet_draft.Goals as goal

pub returns-clause-drafts : goal.returns-clause-drafts
returns-clause-drafts c =
    let ds = c.args.drafts.now.items in
    let next = c.args.next.now in
    let d = c.index_mut-draft.result.now in
    let e = c.expire-expired.new.self in
    let r = draft_of_next ds next c.requires.next in
    let one : d ≡ r.draft = c.index_mut-draft.ensures.value ∙ got ds next.place r.draft d r.at in
    let at : slice_get ds next.place ≡ Some d = r.at ∙ ap Some (sym one) in
    drafts_set next.place d e (ap (λ (k : Bor Key). k.now) c.expire-expired.ensures.key.0) c.args.until c.args.semaphores.now ds at c.expire-expired.ensures.key.1 c.expire-expired.ensures.least c.requires.drafts

pub returns-clause-met : goal.returns-clause-met
returns-clause-met c =
    let ds = c.args.drafts.now.items in
    let rows = c.args.semaphores.now in
    let next = c.args.next.now in
    let d = c.index_mut-draft.result.now in
    let e = c.expire-expired.new.self in
    let r = draft_of_next ds next c.requires.next in
    let one : d ≡ r.draft = c.index_mut-draft.ensures.value ∙ got ds next.place r.draft d r.at in
    let at : slice_get ds next.place ≡ Some d = r.at ∙ ap Some (sym one) in
    let there : IsSome (lookup (key_eq d.key.now) rows) = draft_found rows ds c.requires.drafts.places d (place_stands ds next.place d at) in
    met_in rows ds c.args.happened.now.items c.tell_expiry_in.new.happened.items d e next c.expire-expired.result c.len-rows.ensures.distinct (own_names ds c.requires.drafts.ascend) at
    (ap (λ (x : Draft). x.key.now) one ∙ r.key) there c.expire-expired.ensures.told c.expire-expired.ensures.row (ap (λ (k : Bor Key). k.now) c.expire-expired.ensures.key.0) c.in_ok-tell_expiry_in.ensures
