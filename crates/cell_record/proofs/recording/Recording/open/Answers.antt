use Rattle.std.proofs.Common.{◌≡◌, ℕ, ap₂}
use Rattle.std.proofs.lemmas.Result.{err_from_is_err_and}
use Rattle.cell_io.specs.Held.{ahead}
use Rattle.cell_record.specs.Recording.{Place, front, opened}
use Rattle.cell_record.specs.Numbered.{place_at}
use Rattle.cell_record.specs.ToRead.{still_said, to_read}
use Rattle.cell_record.proofs.Readings.{part_is}
use Rattle.cell_record.proofs.Stopping.{cut_in_opening, leads_text}
use Rattle.cell_record.proofs.Following.{begins_text, memory_to_open, opens_text, tells_text, text_refused}
use Rattle.cell_record.proofs.recording.Recording.open.Goals as goal

abbrev at : ℕ → ℕ → Place
at lines octets = record { lines = lines; octets = octets }

pub returns-in_err-lines-clause-fails : goal.returns-in_err-lines-clause-fails
returns-in_err-lines-clause-fails g c =
    let r = err_from_is_err_and c.from_residual.result c.from_residual.ensures.1 in
    rw (r.1, r.2, c.in_err-lines.ensures.memory) (memory_to_open (g.S.Source.left c.args.input.now) (g.S.Source.left c.args.input.now))

pub returns-in_err-config-clause-fails : goal.returns-in_err-config-clause-fails
returns-in_err-config-clause-fails g c =
    let r = err_from_is_err_and c.from_residual-in_err-config.result c.from_residual-in_err-config.ensures.1 in
    let none = c.in_ok-lines.ensures in
    let lines = c.in_ok-lines.lines in
    let begins : place_at lines ≡ front = ap₂ at none.lines none.given in
    rw (r.1, r.2) (record {
      refused = λ s. text_refused lines.held (place_at lines) (g.S.Source.left c.args.input.now) c.in_err-config.field-0.0 none.octets none.unended begins (c.in_err-config.ensures.fails.refused s);
      stops = λ s.
          cut_in_opening lines.held (place_at lines) (g.S.Source.left c.args.input.now) (g.S.Source.left c.read_opening.new.input) none.octets none.unended begins
          (part_is _ _ c.read_opening.ensures.goes.left) (c.in_err-config.ensures.fails.stops s);
    })

pub returns-clause-opens : goal.returns-clause-opens
returns-clause-opens g c =
    let none = c.in_ok-lines.ensures in
    let lines = c.in_ok-lines.lines in
    let new = c.read_opening.new.lines in
    let config = c.in_ok-config.config in
    let left = g.S.Source.left c.args.input.now in
    let begins : place_at lines ≡ front = ap₂ at none.lines none.given in
    let read = c.in_ok-config.ensures.opens in
    let opens = opens_text lines.held (place_at lines) left (still_said (to_read (opened config) new (g.S.Source.left c.read_opening.new.input))) none.octets none.unended begins read.says in
    record {
      opens = opens;
      begins = begins_text config (place_at new) left (ahead new.held (g.S.Source.left c.read_opening.new.input)) opens;
      leads = leads_text lines.held new.held (place_at lines) (place_at new) left (g.S.Source.left c.read_opening.new.input) config none.octets none.unended begins (part_is _ _ c.read_opening.ensures.goes.left) read.leads;
      tells = tells_text config (place_at new) left (ahead new.held (g.S.Source.left c.read_opening.new.input)) opens;
      config = c.in_ok-config.ensures.valid;
      seen = c.read_opening.ensures.goes.seen (λ e. absurd (let o = none.unended in cc (e, o)));
    }
