-- What is used beside the tables of its words by what a client sends.
use Rattle.std.specs.Prelude.{◌≡◌, ℕ, Bool, true, false, not, is_some, List, [], if◌then◌else◌}
use Rattle.std.proofs.Common.{ap, sym, ◌∙◌, subst}
use Rattle.association.specs.Client.{ClientRow, negotiated_of}
use Rattle.association.specs.declared.negotiation.Association.{Association}
use Rattle.association.specs.declared.negotiation.Association.TheVariants.{Idle, Open}
use Rattle.parted_state.specs.Sets.{IsSetOf}
use Rattle.cell_client.specs.Association.{Came, Verdict, Aborts, Concludes, Replies, Tells, keeps_open}
use Rattle.cell_services.specs.Services.{lacks_number, reply_in}
use Rattle.cell_services.specs.Serving.{heard_more, keeps_upload, loss_asks, more_of_verdict, resolved}
use Rattle.cell_services.specs.Tables.{Tables, loss_tables}
use Rattle.step_parts.specs.Needs.{placed}

module _ (n : ℕ) (t : Tables) (row : ClientRow) (v : Verdict) where
  pub more_by : (other : Verdict) (set : List ℕ) → resolved t row v ≡ other → IsSetOf set (placed n (more_of_verdict t row other)) → IsSetOf set (placed n (heard_more t row v))
  more_by other set is more = subst (λ (w : Verdict). IsSetOf set (placed n (more_of_verdict t row w))) (sym is) more

  -- by a reply after which its client is aborted, where no number is left for what would be asked
  pub replies_more : (number : ℕ) (came : Came) (lacks : Bool) (set : List ℕ) → v ≡ Replies number came → lacks ≡ lacks_number t row number (reply_in number came)
      → IsSetOf set (if lacks then placed n loss_tables else []) → IsSetOf set (placed n (heard_more t row v))
  replies_more number came true set is lacks more =
      more_by Aborts set (ap (resolved t row) is ∙ ap (λ (b : Bool). if b then Aborts else Replies number came) (sym lacks)) more
  replies_more number came false set is lacks more =
      more_by (Replies number came) set (ap (resolved t row) is ∙ ap (λ (b : Bool). if b then Aborts else Replies number came) (sym lacks)) more

  -- by a conclusion, unless an open upload refuses it
  pub concludes_more : (keeps : Bool) (set : List ℕ) → v ≡ Concludes → keeps ≡ keeps_upload t row
      → IsSetOf set (if not keeps then placed n loss_tables else []) → IsSetOf set (placed n (heard_more t row v))
  concludes_more true set is keeps more =
      more_by (Tells keeps_open) set (ap (resolved t row) is ∙ ap (λ (b : Bool). if b then Tells keeps_open else Concludes) (sym keeps)) more
  concludes_more false set is keeps more =
      more_by Concludes set (ap (resolved t row) is ∙ ap (λ (b : Bool). if b then Tells keeps_open else Concludes) (sym keeps)) more

-- by a client that is lost, where it has an association
pub lost_asks : (n : ℕ) (a : Association) (lost : Bool) (set : List ℕ) → lost ≡ is_some (negotiated_of a) → IsSetOf set (if lost then placed n loss_tables else [])
    → IsSetOf set (placed n (loss_asks a))
lost_asks n Idle lost set is asks = subst (λ (b : Bool). IsSetOf set (if b then placed n loss_tables else [])) is asks
lost_asks n (Open values) lost set is asks = subst (λ (b : Bool). IsSetOf set (if b then placed n loss_tables else [])) is asks
