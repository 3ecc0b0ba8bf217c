use Rattle.std.proofs.Common.{◌+◌, ◌≡◌, ◌++◌, ◌∷◌, [], ap, subst, sym, ◌∙◌, arith}
use Rattle.rand_pcg.specs.Lcg.{Lcg}
use Rattle.rand_pcg.specs.Pcg.{pcg32}
use Rattle.mms_types.specs.declared.event.CellEvent.{CellEvent}
use Rattle.cell_stress.specs.Stress.{asking}
use Rattle.cell_stress.proofs.Made.{HaveAsked, all_asked, none_asked, one_asked}
use Rattle.cell_stress.proofs.phases.round_of.Goals as goal

pub loop-client-init : goal.loop-client-init
loop-client-init c =
    record { asked = subst (HaveAsked c.args.random.now c.args.round c.args.clients c.args.random.now 0) (sym c.new-events.ensures) (none_asked c.args.random.now c.args.round c.args.clients) }

pub loop-client-preserved : goal.loop-client-preserved
loop-client-preserved c =
    let start = c.args.random.now in
    let now = c.loop-client.random in
    let n = c.loop-client.client in
    let step = c.next_word-word.ensures in
    let word : c.next_word-word.result ≡ (pcg32 now).0 = ap (λ p. p.0) step in
    let next : c.next_word-word.new.self ≡ (pcg32 now).1 = ap (λ p. p.1) step in
    let made : c.push.new.self ≡ c.loop-client.events ++ asking c.args.round (n + 1) (pcg32 now).0 ∷ [] =
    c.in_ok-push.ensures.appended ∙ ap (λ (e : CellEvent). c.loop-client.events ++ e ∷ []) (c.in_ok-asking.ensures ∙ ap (asking c.args.round (n + 1)) word) in
    let more = one_asked start c.args.round c.args.clients now n c.loop-client.events c.loop-client.invariant.asked c.loop-client-test.true in
    record {
      asked = subst (λ (g : Lcg). HaveAsked start c.args.round c.args.clients g (n + 1) c.push.new.self) (sym next)
          (subst (HaveAsked start c.args.round c.args.clients (pcg32 now).1 (n + 1)) (sym made) more);
    }

pub returns-clause-random : goal.returns-clause-random
returns-clause-random c = (all_asked c.args.random.now c.args.round c.args.clients c.loop-client.random c.loop-client.client c.loop-client.events c.loop-client.invariant.asked (let no = c.loop-client-test.false in omega arith)).1
