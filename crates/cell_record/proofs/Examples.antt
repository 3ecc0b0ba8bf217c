-- What the history and the report are of a few phases, and which phases end in a few lines.
use Rattle.std.specs.Prelude.{ℕ, suc, zero, ◌≡◌, List, [], ◌∷◌, codes, refl}
use Rattle.std.proofs.Common.{arith}
use Rattle.std.proofs.lemmas.Fmt.{decimal_digit}
use Rattle.mms_types.specs.declared.event.What.{What}
use Rattle.mms_types.specs.declared.event.What.TheVariants.{Octets, Abort}
use Rattle.mms_types.specs.declared.event.CellEvent.{CellEvent}
use Rattle.mms_types.specs.declared.event.CellEvent.TheVariants.{Heard, Lost, Tick, Ends, Drain}
use Rattle.mms_types.specs.Actors.{clients_to}
use Rattle.cell_record.specs.Grammar.{phases_of}
use Rattle.cell_record.specs.History.{drains, events_of, history}
use Rattle.cell_record.specs.Refused.{all_but_last}
use Rattle.cell_record.specs.Report.{report}
use Rattle.cell_record.specs.declared.said.LineMeaning.TheVariants.{Nothing, Phase, Happens}

three_clients : clients_to 3 ≡ 1 ∷ 2 ∷ 3 ∷ []
three_clients = refl

two_drain : drains (clients_to 2) ≡ Drain 1 ∷ Drain 2 ∷ []
two_drain = refl

of_client_two : events_of 2 (Lost 1 ∷ Heard 2 (160 ∷ []) ∷ Tick 5 ∷ Lost 2 ∷ []) ≡ Heard 2 (160 ∷ []) ∷ Lost 2 ∷ []
of_client_two = refl

of_the_cell : events_of 0 (Lost 1 ∷ Heard 2 (160 ∷ []) ∷ Tick 5 ∷ Ends (codes "P") ∷ []) ≡ Tick 5 ∷ Ends (codes "P") ∷ []
of_the_cell = refl

two_phases : history 2 ((Tick 5 ∷ []) ∷ [] ∷ []) ≡ Tick 5 ∷ Drain 1 ∷ Drain 2 ∷ Drain 1 ∷ Drain 2 ∷ []
two_phases = refl

-- the phase that was begun last doesn't end in these lines
one_ended : all_but_last (phases_of (Happens (Tick 5) ∷ Phase ∷ Happens (Lost 1) ∷ [])) ≡ (Tick 5 ∷ []) ∷ []
one_ended = refl

none_ended : all_but_last (phases_of (Happens (Tick 5) ∷ Nothing ∷ [])) ≡ []
none_ended = refl

two_ended : all_but_last (phases_of (Phase ∷ Phase ∷ Happens (Tick 5) ∷ [])) ≡ [] ∷ [] ∷ []
two_ended = refl

-- client 2 is sent two octets and an abort after three events
abbrev sent : List CellEvent → ℕ → List What
sent (a ∷ b ∷ c ∷ []) (suc (suc zero)) = Octets (10 ∷ 255 ∷ []) ∷ Abort ∷ []
sent before client = []

-- client 1 drains before client 2, and the drains of the first phase take places 3 and 4
two_reported : report sent 2 ((Heard 1 (160 ∷ 5 ∷ []) ∷ Tick 5 ∷ []) ∷ (Lost 2 ∷ []) ∷ [])
    ≡ codes "phase 1\n1 1 A005\n2 tick 5\nclient 2\n> 0AFF\n> abort\nphase 2\n5 lost 2\n"
two_reported = rw (decimal_digit 1 (omega arith), decimal_digit 2 (omega arith), decimal_digit 5 (omega arith)) refl
