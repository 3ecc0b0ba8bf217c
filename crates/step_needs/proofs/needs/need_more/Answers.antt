use Rattle.std.proofs.Common.{◌≡◌, [], ℕ, List, ap, sym, refl, ◌∙◌, subst}
use Rattle.std.proofs.lemmas.Result.{IfOk-weaker}
use Rattle.mms_types.specs.Actors.{IsAmong}
use Rattle.mms_types.specs.declared.event.CellEvent.{CellEvent}
use Rattle.mms_types.specs.declared.event.CellEvent.TheVariants.{Heard, Lost, Drain}
use Rattle.parted_state.specs.Cut.{missing}
use Rattle.parted_state.specs.Sets.{IsSetOf}
use Rattle.part_table.specs.Held.{held_at}
use Rattle.step_parts.specs.Needs.{footprint, heard_need, need}
use Rattle.step_parts.specs.Partition.{clock_in}
use Rattle.step_parts.specs.Step.{IsInTime}
use Rattle.step_parts.proofs.Words.{client_by_words, few_held, own_held, own_is_held}
use Rattle.step_parts.proofs.Needed.{need_heard, need_lost, need_ticked, need_ended, drain_needs_none}
use Rattle.step_parts.specs.Found.{IsFoundOf}
use Rattle.step_parts.proofs.Found.{found_by_part, found_heard}
use Rattle.step_needs.proofs.needs.need_more.Goals as goal

pub client_held-part-requires-clause-held : goal.client_held-part-requires-clause-held
client_held-part-requires-clause-held c =
    client_by_words c.args.held.now (Heard c.in-Heard.client c.in-Heard.octets) c.in-Heard.client c.args.clients c.requires.of c.requires.clients
    (subst (λ (e : CellEvent). IsAmong c.args.clients e) c.in-Heard.is c.requires.among) refl
    (subst (λ (e : CellEvent). missing c.args.held.now (footprint c.args.clients e) ≡ []) c.in-Heard.is c.requires.words)

pub client_held-part-requires-in-Lost-clause-held : goal.client_held-part-requires-in-Lost-clause-held
client_held-part-requires-in-Lost-clause-held c =
    client_by_words c.args.held.now (Lost c.in-Lost.client) c.in-Lost.client c.args.clients c.requires.of c.requires.clients
    (subst (λ (e : CellEvent). IsAmong c.args.clients e) c.in-Lost.is c.requires.among) refl
    (subst (λ (e : CellEvent). missing c.args.held.now (footprint c.args.clients e) ≡ []) c.in-Lost.is c.requires.words)

pub heard_need-requires-clause-sight : goal.heard_need-requires-clause-sight
heard_need-requires-clause-sight c =
    let among = subst (λ (e : CellEvent). IsAmong c.args.clients e) c.in-Heard.is c.requires.among in record {
      many = c.requires.clients;
      few = few_held c.args.held.now c.args.clients c.requires.of c.requires.clients;
      own = own_held c.args.held.now c.in-Heard.client c.args.clients c.client_held-part.result.now c.requires.of c.requires.clients among.0 among.1 c.client_held-part.ensures;
    }

pub heard_need-requires-clause-found : goal.heard_need-requires-clause-found
heard_need-requires-clause-found c =
    found_by_part c.args.found.now c.args.held.now c.in-Heard.client c.client_held-part.result.now c.as_slice.result.now c.client_held-part.ensures
    (found_heard c.args.found.now c.args.held.now c.in-Heard.client c.in-Heard.octets c.as_slice.result.now
    (subst (λ (e : CellEvent). IsFoundOf c.args.found.now e c.args.held.now) c.in-Heard.is c.requires.found) c.as_slice.ensures)

pub returns-in-Heard : goal.returns-in-Heard
returns-in-Heard c =
    let hand = c.args.held.now in
    let among = subst (λ (e : CellEvent). IsAmong c.args.clients e) c.in-Heard.is c.requires.among in
    IfOk-weaker c.heard_need.result _ _
    (λ parts is.
    subst (IsSetOf parts)
    (ap (λ (o : List ℕ). heard_need c.args.clients hand c.client_held-part.result.now.row o) c.as_slice.ensures
    ∙ sym (need_heard hand c.in-Heard.client c.in-Heard.octets c.args.clients c.client_held-part.result.now c.requires.clients
    (subst (λ (e : CellEvent). missing hand (footprint c.args.clients e) ≡ []) c.in-Heard.is c.requires.words) among.0 among.1 c.client_held-part.ensures)
    ∙ ap (λ (e : CellEvent). need e hand) (sym c.in-Heard.is)) is)
    c.heard_need.ensures

pub lost_need-requires : goal.lost_need-requires
lost_need-requires c =
    let among = subst (λ (e : CellEvent). IsAmong c.args.clients e) c.in-Lost.is c.requires.among in record {
      sight = record {
        many = c.requires.clients;
        few = few_held c.args.held.now c.args.clients c.requires.of c.requires.clients;
        own = own_held c.args.held.now c.in-Lost.client c.args.clients c.client_held-part-in-Lost.result.now c.requires.of c.requires.clients among.0 among.1 c.client_held-part-in-Lost.ensures;
      };
    }

pub returns-in-Lost : goal.returns-in-Lost
returns-in-Lost c =
    let hand = c.args.held.now in
    let among = subst (λ (e : CellEvent). IsAmong c.args.clients e) c.in-Lost.is c.requires.among in
    IfOk-weaker c.lost_need.result _ _
    (λ parts is.
    subst (IsSetOf parts)
    (sym (need_lost hand c.in-Lost.client c.args.clients c.client_held-part-in-Lost.result.now c.requires.clients
    (subst (λ (e : CellEvent). missing hand (footprint c.args.clients e) ≡ []) c.in-Lost.is c.requires.words) among.0 among.1 c.client_held-part-in-Lost.ensures)
    ∙ ap (λ (e : CellEvent). need e hand) (sym c.in-Lost.is)) is)
    c.lost_need.ensures

pub need_time-requires-clause-time : goal.need_time-requires-clause-time
need_time-requires-clause-time c = subst (λ (e : CellEvent). IsInTime (clock_in (held_at c.args.held.now 0)) e) c.in-Tick.is c.requires.time

pub returns-in-Tick : goal.returns-in-Tick
returns-in-Tick c =
    let hand = c.args.held.now in
    IfOk-weaker c.need_time.result _ _
    (λ parts is.
    subst (IsSetOf parts)
    (sym (need_ticked hand c.in-Tick.ms c.args.clients c.requires.clients
    (subst (λ (e : CellEvent). missing hand (footprint c.args.clients e) ≡ []) c.in-Tick.is c.requires.words))
    ∙ ap (λ (e : CellEvent). need e hand) (sym c.in-Tick.is)) is)
    c.need_time.ensures.need

pub returns-in-Ends : goal.returns-in-Ends
returns-in-Ends c =
    subst (IsSetOf c.new.result)
    (sym (need_ended c.args.held.now c.in-Ends.name c.args.clients c.requires.clients
    (subst (λ (e : CellEvent). missing c.args.held.now (footprint c.args.clients e) ≡ []) c.in-Ends.is c.requires.words))
    ∙ ap (λ (e : CellEvent). need e c.args.held.now) (sym c.in-Ends.is))
    c.new.ensures.set

pub returns-in-Drain : goal.returns-in-Drain
returns-in-Drain c =
    let among = subst (λ (e : CellEvent). IsAmong c.args.clients e) c.in-Drain.is c.requires.among in
    subst (IsSetOf c.new-in-Drain.result)
    (sym (drain_needs_none c.args.held.now c.in-Drain.client among.0
    (own_is_held c.args.held.now c.args.clients (Drain c.in-Drain.client) c.in-Drain.client refl among.0
    (subst (λ (e : CellEvent). missing c.args.held.now (footprint c.args.clients e) ≡ []) c.in-Drain.is c.requires.words)))
    ∙ ap (λ (e : CellEvent). need e c.args.held.now) (sym c.in-Drain.is))
    c.new-in-Drain.ensures.set
