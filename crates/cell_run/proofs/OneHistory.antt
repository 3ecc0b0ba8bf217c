-- What is printed has one history.
use Rattle.std.proofs.Common.{◌≡◌, ℕ, List, [], ◌∷◌, ◌++◌, length, drop, refl, sym, ap, ◌∙◌, subst, arith, append-nil, length-append, Some}
use Rattle.std.proofs.lemmas.List.{append_cancel_left, append_cancel_right}
use Rattle.mms_types.specs.declared.event.CellEvent.{CellEvent}
use Rattle.step_parts.specs.Step.{said}
use Rattle.cell_config.specs.declared.config.Config.{Config}
use Rattle.cell_record.specs.History.{Interleaves}
use Rattle.cell_record.specs.Recording.{Reading, config_of_text, reading_of_text}
use Rattle.cell_record.proofs.OneHistory.{one_history_so_far}
use Rattle.cell_words.specs.declared.words.Command.{Command}
use Rattle.cell_run.specs.Outcome.{PrintsFor, WritesComplete, last_line, report_of}

pub printed_one : (command other : Command) (text : List ℕ) (config : Config) (printed : List ℕ) → config_of_text text ≡ Some config
    → (one : PrintsFor command config (reading_of_text text) printed) → (two : PrintsFor other config (reading_of_text text) printed) → one.bodies ≡ two.bodies
printed_one command other text config printed c one two =
    let r = reading_of_text text in
    one_history_so_far (said config) text config r.phases [] one.bodies two.bodies c (sym (append-nil r.phases)) one.interleave two.interleave
    (append_cancel_right (report_of config one.bodies) (report_of config two.bodies) (last_line r.refusal) (sym one.is ∙ two.is))

fronts_same : (xs ys : List (List CellEvent)) (x y : List CellEvent) → xs ++ x ∷ [] ≡ ys ++ y ∷ [] → xs ≡ ys
fronts_same [] [] x y e = refl
fronts_same [] (z ∷ zs) x y e = absurd (omega (arith, ap length e, length-append zs (y ∷ [])))
fronts_same (z ∷ zs) [] x y e = absurd (omega (arith, ap length e, length-append zs (x ∷ [])))
fronts_same (w ∷ ws) (z ∷ zs) x y e =
    let first : w ≡ z = cc in
    ap (λ (l : List CellEvent). l ∷ ws) first ∙ ap (λ (l : List (List CellEvent)). z ∷ l) (fronts_same ws zs x y (ap (drop 1) e))

pub cut_one : (command other : Command) (text : List ℕ) (config : Config) (old new : List ℕ) → config_of_text text ≡ Some config
    → (one : WritesComplete command config (reading_of_text text) (Some old) (Some new)) → (two : WritesComplete other config (reading_of_text text) (Some old) (Some new)) → one.bodies ≡ two.bodies
cut_one command other text config old new c one two =
    let phases = λ (r : Reading). r.phases in
    let first = ap phases one.said_is in
    let same : two.done ≡ one.done = fronts_same two.done one.done two.events one.events (sym (ap phases two.said_is) ∙ first) in
    one_history_so_far (said config) text config one.done (one.events ∷ []) one.bodies two.bodies c first one.interleave (subst (Interleaves two.bodies) same two.interleave)
    (append_cancel_left old (report_of config one.bodies) (report_of config two.bodies) (sym one.written ∙ two.written))
