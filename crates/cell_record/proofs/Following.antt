-- What follows in the reading, one step after the other.
use Rattle.std.proofs.Common.{◌≡◌, ℕ, Bool, true, false, List, [], ◌∷◌, subst, refl, sym, ap, ◌∙◌, arith, Result, Ok, Some, None, IfSome, IfErr, Err}
use Rattle.std.specs.Option.{option_map}
use Rattle.std.specs.declared.option.Option.{Option}
use Rattle.cell_io.specs.Held.{Held, ahead}
use Rattle.cell_io.specs.Lines.{lines_of}
use Rattle.mms_types.specs.declared.event.CellEvent.{CellEvent}
use Rattle.cell_config.specs.declared.config.Config.{Config}
use Rattle.cell_record.specs.Recording.{Place, Reading, Opening, front, opened, opening_of, opening_of_text, config_in, config_of_text, after_opening, reading_of, reading_of_text, fresh, with_phase, whole, ended, refused}
use Rattle.cell_record.specs.Numbered.{Numbered, GoesOn, place_at, phases, after_phase}
use Rattle.cell_record.specs.Progress.{Progress, Becomes, place_of, rest_in}
use Rattle.cell_record.specs.ToRead.{ToRead, still_said, to_read, rest_to_read, Follows, FailsInOpening, FailsInPhase, FailsToOpen}
use Rattle.cell_record.specs.declared.counts.Counts.{Counts}
use Rattle.cell_record.specs.declared.refusal.RecordError.{RecordError}
use Rattle.cell_record.specs.declared.refusal.RecordError.TheVariants.{Memory}
use Rattle.cell_record.proofs.Readings.{with_events, still, then, then_is, same_is, whole_after, part_then}
use Rattle.cell_record.proofs.Stopping.{leads_then, leads_begun, leads_told, leads_nowhere, opening_then, phase_then, rest_told, rest_after, fresh_held}

pub both_err : {T E : Type 0} (r : Result T E) (P Q R : E → Type 0) → ((e : E) → P e → Q e → R e) → IfErr r P → IfErr r Q → IfErr r R
both_err (Ok x) P Q R f p q = tt
both_err (Err e) P Q R f p q = f e p q

pub goes_then : (a b c : Held) (x y z : Option (List ℕ)) → GoesOn a x b y → GoesOn b y c z → GoesOn a x c z
goes_then a b c x y z p q = record {
  order = omega (arith, p.order, q.order);
  most = q.most;
  seen = λ first. q.seen (p.seen first);
  left = part_then x y z p.left q.left;
}

pub follows_then : {T : Type 0} (a b c : ToRead T) (h i j : T → T) → ((r : T) → h (i r) ≡ j r) → Follows a h b → Follows b i c → Follows a j c
follows_then a b c h i j e x y = record {
  says = then (still_said a) (still_said b) (still_said c) h i j e x.says y.says;
  leads = leads_then a.says b.says c.says h i j a.held b.held c.held a.place b.place c.place a.left b.left c.left e x.leads y.leads;
}

-- ---- nothing more or less

pub follows_still : {T : Type 0} (a : ToRead T) → Follows a (λ r. r) a
follows_still a = record { says = still (still_said a); leads = leads_begun a.says a.held a.place a.left }

pub follows_same : {T : Type 0} (a b c : ToRead T) → Follows a (λ r. r) b → Follows b (λ r. r) c → Follows a (λ r. r) c
follows_same a b c x y = follows_then a b c (λ r. r) (λ r. r) (λ r. r) (λ r. refl) x y

told_same : {T : Type 0} (f g : List (List ℕ) → Place → T) (p : Place) (t : Option (List ℕ)) → ((lines : List (List ℕ)) (q : Place) → f lines q ≡ g lines q)
    → Becomes (option_map (λ text. f (lines_of text) p) t) (λ r. r) (option_map (λ text. g (lines_of text) p) t)
told_same f g p None e = tt
told_same f g p (Some text) e = ap Some (sym (e (lines_of text) p))

-- what two readings say alike of all lines they say alike of those that follow
pub follows_told : {T : Type 0} (f g : List (List ℕ) → Place → T) (held : Held) (p : Place) (left : Option (List ℕ)) → ((lines : List (List ℕ)) (q : Place) → f lines q ≡ g lines q)
    → Follows (record { says = f; held = held; place = p; left = left }) (λ r. r) (record { says = g; held = held; place = p; left = left })
follows_told f g held p left e = record {
  says = told_same f g p (ahead held left) e;
  leads = leads_told f g held p left e;
}

pub opening_fails_then : (a b : ToRead Opening) (e : RecordError) (last : Option (List ℕ)) → Follows a (λ r. r) b → FailsInOpening b e last → FailsInOpening a e last
opening_fails_then a b e last x y = record {
  refused = λ s. same_is (still_said a) (still_said b) (Err e) x.says (y.refused s);
  stops = λ s. opening_then a.says b.says a.held b.held a.place b.place a.left b.left last x.leads (y.stops s);
}

-- ---- a phase

told_end : (t : Option (List ℕ)) (f : List ℕ → Reading) (r : Reading) → option_map f t ≡ Some r → option_map (λ (text : List ℕ). ended) t ≡ Some ended
told_end None f r e = cc
told_end (Some text) f r e = refl

becomes_end : (a b : Option Reading) (es : List CellEvent) (t : Option (List ℕ)) (f : List ℕ → Reading) → Becomes a (with_events es) b → IfSome b (λ r. (r ≡ whole) × (option_map f t ≡ Some r))
    → Becomes a (with_phase es) (option_map (λ (text : List ℕ). ended) t)
becomes_end None b es t f p q = tt
becomes_end (Some r) None es t f p q = cc
becomes_end (Some r) (Some s) es t f p q =
    ap (option_map (with_phase es)) (told_end t f s q.1) ∙ ap Some (sym (whole_after es)) ∙ ap (λ (x : Reading). Some (with_events es x)) (sym q.0) ∙ p

-- the input ends with the phase
pub follows_end : (a b : ToRead Reading) (es : List CellEvent) (says : List (List ℕ) → Place → Reading) (n : Numbered) (left : Option (List ℕ)) (config : Config) (moment : ℕ) → Follows a (with_events es) b
    → IfSome (still_said b) (λ r. (r ≡ whole) × (still_said (to_read says n left) ≡ Some r)) → n.held.ended ≡ true → Follows a (with_phase es) (to_read (after_phase config true moment) n left)
follows_end a b es says n left config moment x last over = record {
  says = becomes_end (still_said a) (still_said b) es (ahead n.held left) (λ text. says (lines_of text) (place_at n)) x.says last;
  leads = leads_nowhere a.says (after_phase config true moment) (with_phase es) a.held n.held a.place (place_at n) a.left left over;
}

pub fails_then : (a b : ToRead Reading) (es : List CellEvent) (e : RecordError) (last : Option (List ℕ)) → Follows a (with_events es) b → FailsInPhase b e last → FailsInPhase a e last
fails_then a b es e last x y = record {
  refused = λ s. then_is (still_said a) (still_said b) (with_events es) (refused e) (refused e) refl x.says (y.refused s);
  stops = λ s. phase_then a.says b.says es a.held b.held a.place b.place a.left b.left last x.leads (y.stops s);
}

-- ---- a recording that is being read

pub fails_same : (a b : ToRead Reading) (e : RecordError) (last : Option (List ℕ)) → Follows a (λ r. r) b → FailsInPhase b e last → FailsInPhase a e last
fails_same a b e last x y = record {
  refused = λ s. same_is (still_said a) (still_said b) (refused e) x.says (y.refused s);
  stops = λ s.
      let k = y.stops s in
      record { end = k.end; events = k.events; most = k.most; stops = x.leads last k.end (record { phases = k.events ∷ []; refusal = None }) k.stops };
}

begins_phase : (s : Progress) (c : Counts) (left : Option (List ℕ)) → s.over ≡ false → s.refusal ≡ None → c ≡ fresh s.moment
    → Follows (rest_to_read s left) (λ r. r) (record { says = phases s.config c; held = s.held; place = place_of s; left = left })
begins_phase s c left o r m = follows_told (rest_in s) (phases s.config c) s.held (place_of s) left (λ lines q. rest_told s c lines q o r m)

pub read_fails : (s : Progress) (c : Counts) (left last : Option (List ℕ)) (e : RecordError) → s.over ≡ false → s.refusal ≡ None → c ≡ fresh s.moment
    → FailsInPhase (record { says = phases s.config c; held = s.held; place = place_of s; left = left }) e last → FailsInPhase (rest_to_read s left) e last
read_fails s c left last e o r m x = fails_same (rest_to_read s left) (record { says = phases s.config c; held = s.held; place = place_of s; left = left }) e last (begins_phase s c left o r m) x

pub read_follows : (s t : Progress) (c : Counts) (es : List CellEvent) (last : Bool) (left left' : Option (List ℕ)) → s.over ≡ false → s.refusal ≡ None → c ≡ fresh s.moment
    → t.refusal ≡ None → t.config ≡ s.config → t.over ≡ last
    → Follows (record { says = phases s.config c; held = s.held; place = place_of s; left = left }) (with_phase es) (record { says = after_phase s.config last t.moment; held = t.held; place = place_of t; left = left' })
    → Follows (rest_to_read s left) (with_phase es) (rest_to_read t left')
read_follows s t c es last left left' o r m u config over x =
    let here : ToRead Reading = record { says = phases s.config c; held = s.held; place = place_of s; left = left } in
    let there : ToRead Reading = record { says = after_phase s.config last t.moment; held = t.held; place = place_of t; left = left' } in
    let end = follows_told (after_phase s.config last t.moment) (rest_in t) t.held (place_of t) left' (λ lines q. rest_after s t last lines q u config over) in
    follows_then (rest_to_read s left) here (rest_to_read t left') (λ r. r) (with_phase es) (with_phase es) (λ k. refl) (begins_phase s c left o r m)
    (follows_then here there (rest_to_read t left') (with_phase es) (λ r. r) (with_phase es) (λ k. refl) x end)

-- ---- a whole text

text_said : (held : Held) (p : Place) (left : Option (List ℕ)) → held.octets ≡ [] → held.ended ≡ false → p ≡ front → option_map (λ text. opening_of (lines_of text) p) (ahead held left) ≡ option_map opening_of_text left
text_said held p left o e f = ap (option_map (λ (text : List ℕ). opening_of (lines_of text) p)) (fresh_held held left o e) ∙ ap (λ (q : Place). option_map (λ text. opening_of (lines_of text) q) left) f

pub opens_text : (held : Held) (p : Place) (left : Option (List ℕ)) (after : Option Opening) → held.octets ≡ [] → held.ended ≡ false → p ≡ front
    → Becomes (option_map (λ text. opening_of (lines_of text) p) (ahead held left)) (λ r. r) after → Becomes (option_map opening_of_text left) (λ o. o) after
opens_text held p left after o e f x = subst (λ (b : Option Opening). Becomes b (λ r. r) after) (text_said held p left o e f) x

pub text_refused : (held : Held) (p : Place) (left : Option (List ℕ)) (x : RecordError) → held.octets ≡ [] → held.ended ≡ false → p ≡ front
    → IfSome (option_map (λ text. opening_of (lines_of text) p) (ahead held left)) (λ r. r ≡ Err x) → IfSome left (λ text. opening_of_text text ≡ Err x)
text_refused held p left x o e f k = some_in left (subst (λ (b : Option Opening). IfSome b (λ r. r ≡ Err x)) (text_said held p left o e f) k)
  where
    some_in : (t : Option (List ℕ)) → IfSome (option_map opening_of_text t) (λ r. r ≡ Err x) → IfSome t (λ text. opening_of_text text ≡ Err x)
    some_in None k = tt
    some_in (Some text) k = k

opened_in : (config : Config) (q : Place) (x : Opening) (t : Option (List ℕ)) → Becomes (Some x) (λ o. o) (option_map (λ text. opened config (lines_of text) q) t) → (lines : List (List ℕ)) × (x ≡ opened config lines q)
opened_in config q x None p = absurd (cc p)
opened_in config q x (Some text) p = (lines_of text, cc p)

pub begins_text : (config : Config) (q : Place) (left t : Option (List ℕ)) → Becomes (option_map opening_of_text left) (λ o. o) (option_map (λ text. opened config (lines_of text) q) t)
    → Becomes (option_map reading_of_text left) (λ s. s) (option_map (λ text. reading_of config (lines_of text) q (fresh config.start.0)) t)
begins_text config q None t p = tt
begins_text config q (Some x) None p = cc
begins_text config q (Some x) (Some y) p = ap (option_map after_opening) p

pub tells_text : (config : Config) (q : Place) (left t : Option (List ℕ)) → Becomes (option_map opening_of_text left) (λ o. o) (option_map (λ text. opened config (lines_of text) q) t)
    → IfSome left (λ text. config_of_text text ≡ Some config)
tells_text config q None t p = tt
tells_text config q (Some x) t p = ap config_in (opened_in config q (opening_of_text x) t p).1

-- want of memory is told of no text
pub memory_in_phase : (a : ToRead Reading) (last : Option (List ℕ)) → FailsInPhase a Memory last
memory_in_phase a last = record { refused = λ s. absurd s; stops = λ e. cc }

pub memory_to_open : (text last : Option (List ℕ)) → FailsToOpen text Memory last
memory_to_open text last = record { refused = λ s. absurd s; stops = λ e. cc }
