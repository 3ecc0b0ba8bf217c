-- Phases as they are made, event by event.
use Rattle.std.proofs.Common.{◌≡◌, ℕ, zero, suc, ◌+◌, ◌<◌, ◌≤◌, List, [], ◌∷◌, ◌++◌, map, ◌-◌, refl, sym, ap, ap₂, subst, ◌∙◌, arith, append_assoc, append-nil}
use Rattle.std.proofs.lemmas.List.{map-append}
use Rattle.rand_pcg.specs.Lcg.{Lcg, advance, state_after}
use Rattle.rand_pcg.specs.Pcg.{multiplier_64, pcg32}
use Rattle.mms_types.specs.Actors.{clients_to}
use Rattle.mms_types.specs.declared.event.CellEvent.{CellEvent}
use Rattle.mms_types.specs.declared.pdu.Pdu.TheVariants.{InitiateRequest}
use Rattle.cell_stress.specs.Requests.{proposal}
use Rattle.cell_stress.specs.Stress.{asking, askings, round_of, rounds_from, sent}

-- ---- the first phase

-- these clients have opened their associations
abbrev pub opened : ℕ → List CellEvent
opened n = map (λ client. sent client (InitiateRequest proposal)) (clients_to n)

pub one_opened : (n : ℕ) → opened (n + 1) ≡ opened n ++ sent (n + 1) (InitiateRequest proposal) ∷ []
one_opened n =
    let more : n + 1 ≡ suc n = omega arith in
    subst (λ k. opened k ≡ opened n ++ sent k (InitiateRequest proposal) ∷ []) (sym more) (map-append (λ client. sent client (InitiateRequest proposal)) (clients_to n) (suc n ∷ []))

-- ---- a round

-- so many clients have asked, by the random words from the start on up to now
abbrev pub HaveAsked : Lcg → ℕ → ℕ → Lcg → ℕ → List CellEvent → Type 0
HaveAsked start round clients now client events =
    (more : ℕ) × (client + more ≡ clients) × (askings start round 1 clients ≡ events ++ askings now round (client + 1) more)
    × (advance 64 multiplier_64 clients start ≡ advance 64 multiplier_64 more now)

pub none_asked : (start : Lcg) (round clients : ℕ) → HaveAsked start round clients start 0 []
none_asked start round clients = (clients, omega arith, refl, refl)

pub one_asked : (start : Lcg) (round clients : ℕ) (now : Lcg) (client : ℕ) (events : List CellEvent) → HaveAsked start round clients now client events → client < clients
    → HaveAsked start round clients (pcg32 now).1 (client + 1) (events ++ asking round (client + 1) (pcg32 now).0 ∷ [])
unfolding state_after
one_asked start round clients now client events (zero, count, made, moved) lt = absurd (omega (arith, count, lt))
one_asked start round clients now client events (suc more, count, made, moved) lt = (
  more,
  omega (arith, count),
  made ∙ sym (append_assoc events (asking round (client + 1) (pcg32 now).0 ∷ []) (askings (pcg32 now).1 round (client + 1 + 1) more)),
  moved,
)

pub all_asked : (start : Lcg) (round clients : ℕ) (now : Lcg) (client : ℕ) (events : List CellEvent) → HaveAsked start round clients now client events → clients ≤ client
    → (events ≡ askings start round 1 clients) × (now ≡ advance 64 multiplier_64 clients start)
unfolding state_after
all_asked start round clients now client events (zero, count, made, moved) le = (sym (append-nil events) ∙ sym made, sym moved)
all_asked start round clients now client events (suc more, count, made, moved) le = absurd (omega (arith, count, le))

-- ---- the rounds

pub next_round : (random : Lcg) (clients round left : ℕ) (events : List CellEvent) (after : Lcg) → (left ≡ 0 → ⊥) → events ≡ round_of random clients round → after ≡ advance 64 multiplier_64 clients random
    → rounds_from random clients round left ≡ events ∷ rounds_from after clients (round + 1) (left - 1)
next_round random clients round zero events after some made moved = absurd (some refl)
next_round random clients round (suc more) events after some made moved =
    let less : suc more - 1 ≡ more = omega arith in
    ap₂ (λ (e : List CellEvent) (g : Lcg). e ∷ rounds_from g clients (round + 1) more) (sym made) (sym moved) ∙ ap (λ k. events ∷ rounds_from after clients (round + 1) k) (sym less)
