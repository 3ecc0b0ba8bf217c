use Rattle.std.proofs.Common.{ℕ, List, [], Err, sym, ap, ◌∙◌}
use Rattle.std.proofs.lemmas.Result.{err_from_is_err_and, IfOk-weaker}
use Rattle.cell_io.specs.Held.{ahead}
use Rattle.cell_record.specs.Recording.{setup_in, opened, configured}
use Rattle.cell_record.specs.Numbered.{place_at, setup}
use Rattle.cell_record.proofs.Steps.{all_told}
use Rattle.cell_record.proofs.Following.{follows_same, follows_told, goes_then, opening_fails_then, both_err}
use Rattle.cell_record.proofs.opening.read_opening.Goals as goal

pub returns-in_err-edition-clause-fails : goal.returns-in_err-edition-clause-fails
returns-in_err-edition-clause-fails g c =
    let r = err_from_is_err_and c.from_residual.result c.from_residual.ensures.1 in
    rw (r.1, r.2) (c.in_err-edition.ensures.fails setup_in)

pub returns-in_err-expect-clause-fails : goal.returns-in_err-expect-clause-fails
returns-in_err-expect-clause-fails g c =
    let r = err_from_is_err_and c.from_residual-in_err-expect.result c.from_residual-in_err-expect.ensures.1 in
    rw (r.1, r.2) (opening_fails_then _ _ _ _ (c.in_ok-edition.ensures.there setup_in) (c.in_err-expect.ensures.fails (setup c.in_ok-edition.edition [])))

pub returns-in_err-text-clause-fails : goal.returns-in_err-text-clause-fails
returns-in_err-text-clause-fails g c =
    let r = err_from_is_err_and c.from_residual-in_err-text.result c.from_residual-in_err-text.ensures.1 in
    let read = follows_same _ _ _ (c.in_ok-edition.ensures.there setup_in) (c.in_ok-expect.ensures.there (setup c.in_ok-edition.edition [])) in
    rw (r.1, r.2) (opening_fails_then _ _ _ _ read (c.in_err-text.ensures.fails c.in_ok-edition.edition))

pub returns-clause-opens : goal.returns-clause-opens
returns-clause-opens g c =
    let read = follows_same _ _ _ (follows_same _ _ _ (c.in_ok-edition.ensures.there setup_in) (c.in_ok-expect.ensures.there (setup c.in_ok-edition.edition []))) (c.in_ok-text.ensures.text c.in_ok-edition.edition) in
    IfOk-weaker c.read_text.result _ _ (λ config told.
    follows_same _ _ _ read
    (follows_told (configured c.in_ok-edition.edition c.in_ok-text.text.items) (opened config) c.read_setup.new.lines.held (place_at c.read_setup.new.lines) (g.S.Source.left c.read_setup.new.input)
    (λ lines p. ap (λ (x : List ℕ). configured c.in_ok-edition.edition x lines p) (sym c.deref.ensures.value) ∙ told lines p))) c.read_text.ensures.config

pub returns-clause-fails : goal.returns-clause-fails
returns-clause-fails g c =
    let read = follows_same _ _ _ (follows_same _ _ _ (c.in_ok-edition.ensures.there setup_in) (c.in_ok-expect.ensures.there (setup c.in_ok-edition.edition []))) (c.in_ok-text.ensures.text c.in_ok-edition.edition) in
    both_err c.read_text.result _ _ _ (λ e told known.
    opening_fails_then _ _ _ _ read (record {
      refused = λ s. all_told (configured c.in_ok-edition.edition c.in_ok-text.text.items) (Err e) (place_at c.read_setup.new.lines) (ahead c.read_setup.new.lines.held (g.S.Source.left c.read_setup.new.input))
          (λ lines p. ap (λ (x : List ℕ). configured c.in_ok-edition.edition x lines p) (sym c.deref.ensures.value) ∙ told s lines p);
      stops = λ x. absurd (known x);
    })) c.read_text.ensures.rule c.read_text.ensures.known

pub returns-in_err-expect-clause-goes : goal.returns-in_err-expect-clause-goes
returns-in_err-expect-clause-goes g c = goes_then _ _ _ _ _ _ c.read_header.ensures.goes c.expect.ensures.goes

pub returns-in_err-text-clause-goes : goal.returns-in_err-text-clause-goes
returns-in_err-text-clause-goes g c = goes_then _ _ _ _ _ _ (goes_then _ _ _ _ _ _ c.read_header.ensures.goes c.expect.ensures.goes) c.read_setup.ensures.goes

pub returns-clause-goes : goal.returns-clause-goes
returns-clause-goes g c = goes_then _ _ _ _ _ _ (goes_then _ _ _ _ _ _ c.read_header.ensures.goes c.expect.ensures.goes) c.read_setup.ensures.goes
