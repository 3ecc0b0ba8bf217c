-- What holds of each event of a phase holds of each event of a body that serves it.
use Rattle.std.proofs.Common.{◌==◌, ℕ, Bool, true, false, if◌then◌else◌, List, [], ◌∷◌, subst, sym, refl}
use Rattle.std.proofs.lemmas.Bool.{eq-eqb}
use Rattle.std.specs.List.{AllByRecursion}
use Rattle.mms_types.specs.Actors.{actor_of}
use Rattle.mms_types.specs.declared.event.CellEvent.{CellEvent}
use Rattle.cell_record.specs.History.{Interleaves, IsBodyOf, events_of}

module _ (P : CellEvent → Type 0) where
  abbrev Each : List CellEvent → Type 0
  Each events = AllByRecursion P events

  of_actor : (actor : ℕ) (events : List CellEvent) → Each events → Each (events_of actor events)
  of_actor actor [] all = tt
  of_actor actor (event ∷ rest) all = by_test (actor_of event == actor) (of_actor actor rest all.1)
    where
      by_test : (b : Bool) → Each (events_of actor rest) → Each (if b then event ∷ events_of actor rest else events_of actor rest)
      by_test true more = (all.0, more)
      by_test false more = more

  of_all : (body : List CellEvent) → ((actor : ℕ) → Each (events_of actor body)) → Each body
  of_all [] each = tt
  of_all (event ∷ rest) each = (first.0, of_all rest (λ actor. by_test actor (actor_of event == actor) (each actor)))
    where
      first : Each (event ∷ events_of (actor_of event) rest)
      first = subst (λ (b : Bool). Each (if b then event ∷ events_of (actor_of event) rest else events_of (actor_of event) rest))
          (eq-eqb (actor_of event) (actor_of event) refl) (each (actor_of event))

      by_test : (actor : ℕ) (b : Bool) → Each (if b then event ∷ events_of actor rest else events_of actor rest) → Each (events_of actor rest)
      by_test actor true all = all.1
      by_test actor false all = all

  -- as the body has each actor's events, and no others
  pub body_each : (body phase : List CellEvent) → IsBodyOf body phase → Each phase → Each body
  body_each body phase is all = of_all body (λ actor. subst Each (sym (is.each actor)) (of_actor actor phase all))

  pub bodies_each : (bodies phases : List (List CellEvent)) → Interleaves bodies phases → AllByRecursion (AllByRecursion P) phases → AllByRecursion (AllByRecursion P) bodies
  bodies_each [] [] h all = tt
  bodies_each [] (p ∷ phases) h all = absurd h
  bodies_each (b ∷ bodies) [] h all = absurd h
  bodies_each (b ∷ bodies) (p ∷ phases) h all = (body_each b p h.0 all.0, bodies_each bodies phases h.1 all.1)
