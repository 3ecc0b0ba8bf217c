use Rattle.std.proofs.Common.{◌≡◌, ◌∙◌, ◌+◌, ◌<◌, ap, arith, filter, if◌then◌else◌, length, refl, slice_get, suc, sym, take, Some}
use Rattle.std.proofs.lemmas.List.{length-set}
use Rattle.object_names.proofs.Ranked.{at_most_one, kept_more, ranked_more, slice_within}
use Rattle.object_names.proofs.index.rank.Goals as goal

pub loop-place-preserved : goal.loop-place-preserved
loop-place-preserved g c =
    let rows = c.args.rows.now.entries in
    let n = c.loop-place.place in
    let at : slice_get rows n ≡ Some (c.in-Some.key.now, c.in-Some.value.now) = sym c.in-Some.ensures.entry in
    let stays = g.K.Keeps.stays c.args.by.now in
    let more : c.counted-kept.result ≡ length (filter stays (take (suc n) rows)) =
    c.counted-kept.ensures ∙ ap (λ b. c.loop-place.kept + (if b then 1 else 0)) c.stays-stays.ensures
    ∙ ap (λ m. m + (if stays (c.in-Some.key.now, c.in-Some.value.now) then 1 else 0)) c.loop-place.invariant.kept
    ∙ sym (kept_more stays rows n (c.in-Some.key.now, c.in-Some.value.now) at) in
    let next : suc n ≡ n + 1 = omega arith in
    let small : n < length c.loop-place.ranks.items = omega (arith, c.loop-place-test.true, c.loop-place.invariant.end, c.loop-place.invariant.len, c.requires) in
    let one = at_most_one c.stays-stays.result in
    record {
      kept = more ∙ ap (λ m. length (filter stays (take m rows))) next;
      few = omega (arith, one, c.counted-kept.ensures, c.loop-place.invariant.few);
      done = ranked_more stays rows c.loop-place.ranks.items _ n c.counted-kept.result c.ranked.result (c.in-Some.key.now, c.in-Some.value.now) c.loop-place.invariant.done at small more
          (c.ranked.ensures ∙ ap (λ b. if b then c.counted-kept.result else 0) c.stays-stays.ensures) refl;
      end = c.loop-place.invariant.end;
      len = length-set c.loop-place.ranks.items n c.ranked.result ∙ c.loop-place.invariant.len;
    }

pub returns : goal.returns
returns g c = record {
  ranks = λ place row at.
      let within = slice_within c.args.rows.now.entries place row at in
      c.loop-place.invariant.done place row (omega (arith, within, c.loop-place-test.false, c.loop-place.invariant.end)) at;
  len = c.loop-place.invariant.len;
}
