use Rattle.std.proofs.Common.{rules, ap, ap₂, codes, ◌≡◌, ◌∙◌, ◌||◌}
use Rattle.std.proofs.lemmas.Result.{IfOk-weaker}
use Rattle.clap.specs.Simple.{App, app_of, new_app, with_rule, with_subcommand}
use Rattle.cell_words.specs.Parser.{replay, run, set_up, stress, wanted}
use Rattle.cell_words.proofs.words.app.Goals as goal

pub returns : goal.returns
returns c =
    let run_is : app_of c.in_ok-run.run' ≡ with_rule (new_app (codes "run")) (wanted (codes "workers")) =
    c.in_ok-run.ensures.shape c.wanted.ensures.local ∙ ap₂ with_rule c.new.ensures.app c.wanted.ensures.rule in
    let seed_is : app_of c.in_ok-arg.field-0 ≡ with_rule (new_app (codes "stress")) (wanted (codes "seed")) =
    c.in_ok-arg.ensures.shape c.wanted-2.ensures.local ∙ ap₂ with_rule c.new-2.ensures.app c.wanted-2.ensures.rule in
    let clients_is : app_of c.in_ok-arg-2.field-0 ≡ with_rule (with_rule (new_app (codes "stress")) (wanted (codes "seed"))) (wanted (codes "clients")) =
    c.in_ok-arg-2.ensures.shape c.wanted-3.ensures.local ∙ ap₂ with_rule seed_is c.wanted-3.ensures.rule in
    let rounds_is : app_of c.in_ok-arg-3.field-0 ≡ with_rule (with_rule (with_rule (new_app (codes "stress")) (wanted (codes "seed"))) (wanted (codes "clients"))) (wanted (codes "rounds")) =
    c.in_ok-arg-3.ensures.shape c.wanted-4.ensures.local ∙ ap₂ with_rule clients_is c.wanted-4.ensures.rule in
    let stress_is : (app_of c.in_ok-stress.stress).top ≡ stress =
    ap (λ (a : App). a.top) (c.in_ok-stress.ensures.shape c.wanted-5.ensures.local ∙ ap₂ with_rule rounds_is c.wanted-5.ensures.rule) in
    let run_local = c.in_ok-run.ensures.globals ∙ ap₂ (λ a b. a || b) c.new.ensures.local c.wanted.ensures.local in
    let seed_local = c.in_ok-arg.ensures.globals ∙ ap₂ (λ a b. a || b) c.new-2.ensures.local c.wanted-2.ensures.local in
    let clients_local = c.in_ok-arg-2.ensures.globals ∙ ap₂ (λ a b. a || b) seed_local c.wanted-3.ensures.local in
    let rounds_local = c.in_ok-arg-3.ensures.globals ∙ ap₂ (λ a b. a || b) clients_local c.wanted-4.ensures.local in
    let stress_local = c.in_ok-stress.ensures.globals ∙ ap₂ (λ a b. a || b) rounds_local c.wanted-5.ensures.local in
    let set_is : app_of c.subcommand_required.result ≡ set_up (app_of c.new-3.result) = search rules in
    let top_is : app_of c.subcommand_required.result ≡ set_up (new_app (codes "mmscell")) = set_is ∙ ap set_up c.new-3.ensures.app in
    let replay_is : app_of c.in_ok-subcommand.field-0 ≡ with_subcommand (set_up (new_app (codes "mmscell"))) replay =
    c.in_ok-subcommand.ensures.shape c.new-replay.ensures.local ∙ ap₂ with_subcommand top_is (ap (λ (a : App). a.top) c.new-replay.ensures.app) in
    let with_run : app_of c.in_ok-subcommand-2.field-0 ≡ with_subcommand (with_subcommand (set_up (new_app (codes "mmscell"))) replay) run =
    c.in_ok-subcommand-2.ensures.shape run_local ∙ ap₂ with_subcommand replay_is (ap (λ (a : App). a.top) run_is) in
    IfOk-weaker c.subcommand-3.result _ _ (λ r h. h.shape stress_local ∙ ap₂ with_subcommand with_run stress_is) c.subcommand-3.ensures
