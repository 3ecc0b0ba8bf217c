-- What a verdict of its client's part alone needs: nothing.
use Rattle.std.specs.Prelude.{◌≡◌, ℕ, zero, suc, Bool, true, false, Option, List, [], ◌++◌, if◌then◌else◌, refl}
use Rattle.std.proofs.Common.{ap, ◌∙◌}
use Rattle.mms_types.specs.declared.pdu.Request.TheVariants as request
use Rattle.association.specs.Client.{ClientRow}
use Rattle.parted_state.specs.Cut as cut
use Rattle.parted_state.specs.Lifted.{tables_shown}
use Rattle.parted_state.specs.Served as parted
use Rattle.cell_client.specs.Association.{Verdict, Tells, Takes}
use Rattle.cell_client.specs.Effects.{Effect}
use Rattle.cell_services.specs.Serving.{also_told, heard_asks, heard_more, is_served, resolved}
use Rattle.cell_services.specs.Tables.{Tables}
use Rattle.step_parts.specs.declared.part.Part.{Part}
use Rattle.step_parts.specs.Partition.{cell}
use Rattle.step_parts.specs.Needs.{also_parts, is_own, placed, two_stages, verdict_need}

-- it uses no table
own_asks : (v : Verdict) → is_own v ≡ true → heard_asks v ≡ []
own_asks (Tells effects) own = refl
own_asks (Takes invoke (request.Status asked)) own = refl
own_asks (Takes invoke request.Identify) own = refl
own_asks (Takes invoke asked) own = absurd (cc own)
own_asks v own = absurd (cc own)

own_more : (t : Tables) (row : ClientRow) (v : Verdict) → is_own v ≡ true → heard_more t row v ≡ []
own_more t row (Tells effects) own = refl
own_more t row (Takes invoke (request.Status asked)) own = refl
own_more t row (Takes invoke request.Identify) own = refl
own_more t row (Takes invoke asked) own = absurd (cc own)
own_more t row v own = absurd (cc own)

-- and nobody else is told anything, be it served or refused
abbrev nobody : List (ℕ × Effect)
nobody = []

either : (b : Bool) → (if b then nobody else nobody) ≡ nobody
either true = refl
either false = refl

own_alone : (t : Tables) (row : ClientRow) (v : Verdict) → is_own v ≡ true → also_told t row (resolved t row v) ≡ []
own_alone t row (Tells effects) own = refl
own_alone t row (Takes invoke (request.Status asked)) own = either (is_served t row invoke (request.Status asked))
own_alone t row (Takes invoke request.Identify) own = either (is_served t row invoke request.Identify)
own_alone t row (Takes invoke asked) own = absurd (cc own)
own_alone t row v own = absurd (cc own)

-- where nobody is told anything, no part is
nobody_placed : (n : ℕ) → parted.told_places cell [] n ≡ []
nobody_placed zero = refl
nobody_placed (suc n) = ap (λ (l : List ℕ). l ++ []) (nobody_placed n)

module _ (n : ℕ) (hand : List (Option Part)) (row : ClientRow) (v : Verdict) where
  abbrev more : List ℕ
  more = placed n (heard_more (tables_shown cell hand) row v)

  abbrev also : List ℕ
  also = also_parts n hand row v

  pub own_needs_nothing : is_own v ≡ true → verdict_need n hand row v ≡ []
  own_needs_nothing own =
      ap (λ (asks : List ℕ). two_stages hand (placed n asks) (more ++ (if cut.are_held hand more then also else []))) (own_asks v own)
      ∙ ap (λ (m : List ℕ). cut.missing hand (placed n m ++ (if cut.are_held hand (placed n m) then also else []))) (own_more (tables_shown cell hand) row v own)
      ∙ ap (λ (told : List (ℕ × Effect)). cut.missing hand (parted.told_places cell told n)) (own_alone (tables_shown cell hand) row v own)
      ∙ ap (λ (l : List ℕ). cut.missing hand l) (nobody_placed n)
