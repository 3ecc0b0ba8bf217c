-- Readings and openings, one after the other.
use Rattle.cell_config.specs.declared.config.Config.{Config}
use Rattle.std.proofs.Common.{◌≡◌, ℕ, zero, suc, ◌+◌, ◌≤◌, ◌<◌, List, [], ◌∷◌, ◌++◌, length, refl, sym, ap, ◌∙◌, subst, arith, append_assoc, append-nil, length-append, Some, None, IfSome}
use Rattle.std.proofs.lemmas.List.Elements.{All-append}
use Rattle.std.specs.List.{All}
use Rattle.cell_record.specs.EventLine.{IsRecorded}
use Rattle.cell_record.specs.declared.counts.Counts.{Counts}
use Rattle.std.proofs.KnownBytes.{Consumes-nil, Consumes-trans}
use Rattle.std.specs.declared.option.Option.{Option}
use Rattle.cell_io.specs.Held.{IsLaterPart}
use Rattle.mms_types.specs.declared.event.CellEvent.{CellEvent}
use Rattle.cell_record.specs.Recording.{Reading, onto, with_event, with_phase, whole, ended, counted}
use Rattle.cell_record.specs.Grammar.{phase_ms}
use Rattle.cell_record.specs.Numbered.{IsPart}
use Rattle.cell_record.specs.Progress.{Becomes}

-- several events at the front of the first phase
abbrev pub join : List CellEvent → List (List CellEvent) → List (List CellEvent)
join es [] = []
join es (phase ∷ rest) = (es ++ phase) ∷ rest

abbrev pub with_events : List CellEvent → Reading → Reading
with_events es r = record { phases = join es r.phases; refusal = r.refusal }

pub join-nil : (ps : List (List CellEvent)) → join [] ps ≡ ps
join-nil [] = refl
join-nil (p ∷ ps) = refl

join-onto : (es : List CellEvent) (e : CellEvent) (ps : List (List CellEvent)) → join es (onto e ps) ≡ join (es ++ e ∷ []) ps
join-onto es e [] = refl
join-onto es e (p ∷ ps) = ap (λ (l : List CellEvent). l ∷ ps) (sym (append_assoc es (e ∷ []) p))

pub begun : (a : Option Reading) → Becomes a (with_events []) a
begun None = tt
begun (Some r) = ap (λ (ps : List (List CellEvent)). Some (record { phases = ps; refusal = r.refusal })) (join-nil r.phases)

pub then : {T : Type 0} (a b c : Option T) (f g h : T → T) → ((r : T) → f (g r) ≡ h r) → Becomes a f b → Becomes b g c → Becomes a h c
then None b c f g h e p q = tt
then (Some r) None c f g h e p q = cc
then (Some r) (Some s) None f g h e p q = cc
then (Some r) (Some s) (Some t) f g h e p q = let k = e t in cc

pub then_is : {T : Type 0} (a b : Option T) (f : T → T) (r t : T) → f r ≡ t → Becomes a f b → IfSome b (λ s. s ≡ r) → IfSome a (λ s. s ≡ t)
then_is None b f r t e p q = tt
then_is (Some s) None f r t e p q = cc
then_is (Some s) (Some u) f r t e p q = let k = ap f q in cc

pub still : {T : Type 0} (a : Option T) → Becomes a (λ r. r) a
still None = tt
still (Some r) = refl

pub same_is : {T : Type 0} (a b : Option T) (t : T) → Becomes a (λ r. r) b → IfSome b (λ s. s ≡ t) → IfSome a (λ s. s ≡ t)
same_is a b t p q = then_is a b (λ r. r) t t refl p q

pub event_after : (es : List CellEvent) (e : CellEvent) (r : Reading) → with_events es (with_event e r) ≡ with_events (es ++ e ∷ []) r
event_after es e r = ap (λ (ps : List (List CellEvent)). record { phases = ps; refusal = r.refusal }) (join-onto es e r.phases)

pub phase_after : (es : List CellEvent) (r : Reading) → with_events es (with_phase [] r) ≡ with_phase es r
phase_after es r = ap (λ (l : List CellEvent). record { phases = l ∷ r.phases; refusal = r.refusal }) (append-nil es)

pub whole_after : (es : List CellEvent) → with_events es whole ≡ with_phase es ended
whole_after es = ap (λ (l : List CellEvent). with_phase l ended) (append-nil es)

one_recorded : (config : Config) (e : CellEvent) → IsRecorded config e → All (IsRecorded config) (e ∷ [])
one_recorded config e p zero d h = p
one_recorded config e p (suc k) d h = absurd (omega (arith, h))

pub recorded_more : (config : Config) (xs ys : List CellEvent) (e : CellEvent) → ys ≡ xs ++ e ∷ [] → All (IsRecorded config) xs → IsRecorded config e → All (IsRecorded config) ys
recorded_more config xs ys e h p q = subst (All (IsRecorded config)) (sym h) (All-append (IsRecorded config) xs (e ∷ []) p (one_recorded config e q))

pub size_more : (xs ys : List CellEvent) (e : CellEvent) (c d : Counts) → ys ≡ xs ++ e ∷ [] → length xs ≡ c.events → d ≡ counted c e → length ys ≡ d.events
size_more xs ys e c d h s m = ap length h ∙ length-append xs (e ∷ []) ∙ ap (λ (n : ℕ). n + 1) s ∙ sym (ap (λ (x : Counts). x.events) m)

-- an event takes a line
pub one_line : (xs ys : List CellEvent) (e : CellEvent) (start before after : ℕ) → ys ≡ xs ++ e ∷ [] → start + length xs ≤ before → before < after → start + length ys ≤ after
one_line xs ys e start before after h le lt = let n = ap length h in omega (arith, length-append xs (e ∷ []))

phase_ms-append : (xs ys : List CellEvent) → phase_ms (xs ++ ys) ≡ phase_ms xs + phase_ms ys
phase_ms-append [] ys = omega arith
phase_ms-append (e ∷ xs) ys = let rest = phase_ms-append xs ys in omega (arith, rest)

pub moment_more : (xs ys : List CellEvent) (e : CellEvent) (c d : Counts) (start : ℕ) → ys ≡ xs ++ e ∷ [] → c.moment ≡ start + phase_ms xs → d ≡ counted c e
    → d.moment ≡ start + phase_ms ys
moment_more xs ys e c d start h m k =
    let all = ap phase_ms h ∙ phase_ms-append xs (e ∷ []) in
    let now = ap (λ (x : Counts). x.moment) k in
    omega (arith, all, now, m)

-- ---- what is left

pub part_same : (a : Option (List ℕ)) → IsPart a a
part_same a = record { gone = []; consumed = Consumes-nil a }

pub part_then : (a b c : Option (List ℕ)) → IsPart a b → IsPart b c → IsPart a c
part_then a b c p q = record { gone = p.gone ++ q.gone; consumed = Consumes-trans a b c p.gone q.gone p.consumed q.consumed }

pub part_of : (a b : Option (List ℕ)) → IsLaterPart a b → IsPart a b
part_of a b p = record { gone = p.0; consumed = p.1 }

pub part_is : (a b : Option (List ℕ)) → IsPart a b → IsLaterPart a b
part_is a b p = (p.gone, p.consumed)
