-- Confirmed services by their numbers (ISO 9506-2, ConfirmedServiceRequest and ConfirmedServiceResponse), and the choices that they make.
use Rattle.std.specs.Prelude.{ℕ, List, [], ◌∷◌, Option, Some, None, ◌==◌, if◌then◌else◌, refl}
use Rattle.ber_forms.specs.Value.{Value, chosen}
use Rattle.ber_forms.specs.Form as asn
use Rattle.ber_forms.specs.Form.{Form, Alternatives}
use Rattle.ber_forms.specs.Wider.{Widens, ChoiceWidens}
use Rattle.ber_forms.proofs.Wider.{no_other_wider, or_wider}
use Rattle.mms_types.specs.declared.identifier.Edition.{Edition}
use Rattle.mms_types.specs.declared.pdu.Request.{Request}
use Rattle.mms_types.specs.declared.pdu.Answer.{Answer}
use Rattle.mms_types.specs.declared.pdu.ServerRequest.{ServerRequest}
use Rattle.mms_types.specs.declared.pdu.ClientAnswer.{ClientAnswer}
use Rattle.mms_types.specs.Spelling.{widest}
use Rattle.pdu_names.specs.Alike.{SpellAlike, ChoicesAlike, or_alike}
use Rattle.pdu_names.specs.Kinds.{Kind, Arms}

-- one alternative: its number, its form, and the R that is made of what it says
pub record Arm (R : Type 0) : Type 0 where
  pub number : ℕ
  pub form : Edition → Form
  pub made : Value → R
  pub alike : (edition : Edition) → SpellAlike (form edition) (form widest)
  pub wider : (edition : Edition) → Widens (form edition) (form widest)

abbrev pub arm : {R X : Type 0} → ℕ → Kind X → (X → R) → Arm R
arm n k make = record { number = n; form = k.form; made = λ v. make (k.said v); alike = k.alike; wider = k.wider }

-- A confirmed service, what is asked and what is answered under one number: clients ask it and the server answers, or the server asks it
-- and a client answers.
pub data Service : Type 0 where
  of_clients : Arm Request → Arm Answer → Service
  of_server : Arm ServerRequest → Arm ClientAnswer → Service

-- a service that clients ask, by its number, with the kind of its argument and that of its result
abbrev pub service : {X Y : Type 0} → ℕ → Kind X → (X → Request) → Kind Y → (Y → Answer) → Service
service n argument asked result told = of_clients (arm n argument asked) (arm n result told)

-- and one that the server asks
abbrev pub server_service : {X Y : Type 0} → ℕ → Kind X → (X → ServerRequest) → Kind Y → (Y → ClientAnswer) → Service
server_service n argument asked result told = of_server (arm n argument asked) (arm n result told)

-- ---- several alternatives

abbrev pub forms_of : {R : Type 0} → List (Arm R) → Edition → Alternatives
forms_of [] edition = asn.no_other
forms_of (a ∷ more) edition = asn.or a.number (a.form edition) (forms_of more edition)

-- the R that is made of the value of that number, where there is one
abbrev pub made_at : {R : Type 0} → List (Arm R) → ℕ → Value → Option R
made_at [] n v = None
made_at (a ∷ more) n v = if n == a.number then Some (a.made v) else made_at more n v

abbrev pub made_by : {R : Type 0} → List (Arm R) → Value → Option R
made_by arms (chosen n v) = made_at arms n v
made_by arms v = None

-- the same, and another R where there is none
abbrev pub made_or : {R : Type 0} → R → List (Arm R) → ℕ → Value → R
made_or other [] n v = other
made_or other (a ∷ more) n v = if n == a.number then a.made v else made_or other more n v

pub forms_alike : {R : Type 0} → (arms : List (Arm R)) (edition : Edition) → ChoicesAlike (forms_of arms edition) (forms_of arms widest)
forms_alike [] edition = λ v. refl
forms_alike (a ∷ more) edition = or_alike a.number (a.form edition) (a.form widest) (forms_of more edition) (forms_of more widest) (a.alike edition) (forms_alike more edition)

pub forms_wider : {R : Type 0} → (arms : List (Arm R)) (edition : Edition) → ChoiceWidens (forms_of arms edition) (forms_of arms widest)
forms_wider [] edition = no_other_wider asn.no_other
forms_wider (a ∷ more) edition = or_wider a.number (a.form edition) (a.form widest) (forms_of more edition) (forms_of more widest) (a.wider edition) (forms_wider more edition)

-- the alternatives, and what is said back of a value of another number
abbrev pub arms_of : {R : Type 0} → R → List (Arm R) → Arms R
arms_of other arms = record { alternatives = forms_of arms; made = made_or other arms; alike = forms_alike arms; wider = forms_wider arms }
