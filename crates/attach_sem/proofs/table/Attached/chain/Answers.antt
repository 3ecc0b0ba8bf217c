use Rattle.std.proofs.Common.{◌≡◌, ℕ, Option, Some, ap, subst, sym, ◌∙◌}
use Rattle.sem_queue.specs.Rows.{Following, after_next, next_after, number_after}
use Rattle.attach_sem.specs.Chains.{is_attached}
use Rattle.attach_sem.proofs.Following.{IsLeft, start, step}
use Rattle.attach_sem.proofs.table.Attached.chain.Goals as goal

pub loop-number-init : goal.loop-number-init
loop-number-init c =
    let rows = c.args.ranks.now.rows in
    let told = c.next-next.ensures.number ∙ ap (λ (f : Following). f.next) c.served-served.ensures in
    let follows = c.next-next.ensures.state ∙ ap after_next c.served-served.ensures
    ∙ ap (λ (n : Option ℕ). record { rows = rows; token = c.args.token; next = next_after n c.args.token rows }) (sym told) in
    record {
      left = rw c.new-attached.ensures.items (start (is_attached c.args.key.now c.args.self.now.pairs) c.args.token rows c.next-next.result told);
      follows = follows;
    }

pub loop-number-preserved : goal.loop-number-preserved
loop-number-preserved c =
    let attached = is_attached c.args.key.now c.args.self.now.pairs in
    let rows = c.args.ranks.now.rows in
    let token = c.args.token in
    let before = c.loop-number.invariant in
    let served = c.loop-number.attached.items in
    let is = subst (λ (next : Option ℕ). IsLeft attached token rows served next) c.in-Some.ensures.some.0 before.left in
    let told = c.next-next-in-Some.ensures.number ∙ ap (λ (f : Following). f.next) before.follows in
    let number = told ∙ ap (λ (n : Option ℕ). next_after n token rows) c.in-Some.ensures.some.0 in
    record {
      left = rw c.in_ok-push.ensures.items (step attached token rows served c.in-Some.number c.tokens-tokens.ensures.always is c.next-next-in-Some.result c.in-Some.ensures.some.1 number);
      follows = c.next-next-in-Some.ensures.state ∙ ap after_next before.follows
          ∙ ap (λ (n : Option ℕ). record { rows = rows; token = token; next = next_after n token rows }) (sym told);
    }
