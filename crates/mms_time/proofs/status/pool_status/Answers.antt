use Rattle.std.proofs.Common.{◌≡◌, ◌≤◌, ◌<◌, ◌++◌, ◌∷◌, [], ◌∙◌, ap, sym, subst, option_copied, get_or, length, arith}
use Rattle.mms_time.specs.Statuses.{token_status}
use Rattle.mms_time.proofs.Places.{found_at, name_passed, name_told, names_end, names_more, still_few}
use Rattle.mms_time.proofs.status.pool_status.Goals.{then-comes_after+else-len-eq-MOST_TOKENS+in_ok-token_status+in_ok-push, else-comes_after}
use Rattle.mms_time.proofs.status.pool_status.Goals as goal

pub returns-then-len-eq-MOST_TOKENS : goal.returns-then-len-eq-MOST_TOKENS
returns-then-len-eq-MOST_TOKENS c =
    let tokens = c.args.pool.now.tokens in
    let low : c.loop-place.place < length tokens = omega (arith, c.loop-place-test.true, c.loop-place.invariant.end) in
    let at = found_at tokens c.loop-place.place c.in-Some.name.now low (c.in-Some.ensures.lookup.1 ∙ ap (λ l. get_or l c.loop-place.place c.in-Some.name.now) c.tokens-names.ensures.tokens) in
    names_more (option_copied c.args.after) c.args.pool.now c.loop-place.place c.in-Some.name.now c.loop-place.list at
    (sym c.comes_after.ensures ∙ c.if-comes_after.true) c.loop-place.invariant.told (sym c.len.ensures ∙ c.if-len-eq-MOST_TOKENS.true)

pub loop-place-preserved : goal.loop-place-preserved
loop-place-preserved c =
    let tokens = c.args.pool.now.tokens in
    let low : c.loop-place.place < length tokens = omega (arith, c.loop-place-test.true, c.loop-place.invariant.end) in
    let at = found_at tokens c.loop-place.place c.in-Some.name.now low (c.in-Some.ensures.lookup.1 ∙ ap (λ l. get_or l c.loop-place.place c.in-Some.name.now) c.tokens-names.ensures.tokens) in
    elim c.if-comes_after.branch [
      | then-comes_after+else-len-eq-MOST_TOKENS+in_ok-token_status+in_ok-push w ↦
          let set : c.if-comes_after.list ≡ c.loop-place.list ++ token_status c.args.pool.now (c.loop-place.place, c.in-Some.name.now) ∷ [] = cc (w.in_ok-push.ensures.appended, w.in_ok-token_status.ensures, w.list-is) in
          record {
            told = name_told (option_copied c.args.after) c.args.pool.now c.loop-place.place c.in-Some.name.now c.loop-place.list _ at
                (sym c.comes_after.ensures ∙ w.if-comes_after.true) c.loop-place.invariant.told set;
            few = still_few c.loop-place.list c.if-comes_after.list _ 12 set c.loop-place.invariant.few (λ h. w.if-len-eq-MOST_TOKENS.false (w.len.ensures ∙ h));
            names = c.loop-place.invariant.names;
            end = c.loop-place.invariant.end;
          }
      | else-comes_after w ↦ record {
        told = w.list-is ∙ name_passed (option_copied c.args.after) c.args.pool.now c.loop-place.place c.in-Some.name.now c.loop-place.list at
            (sym c.comes_after.ensures ∙ w.if-comes_after.false) c.loop-place.invariant.told;
        few = subst (λ l. length l ≤ 12) (sym w.list-is) c.loop-place.invariant.few;
        names = c.loop-place.invariant.names;
        end = c.loop-place.invariant.end;
      }
    ]

pub returns : goal.returns
returns c =
    names_end (option_copied c.args.after) c.args.pool.now c.loop-place.place c.loop-place.list c.loop-place.invariant.told c.loop-place.invariant.few
    (omega (arith, c.loop-place-test.false, c.loop-place.invariant.end))
