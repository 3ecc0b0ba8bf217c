-- What readers and writers of kinds answer.
use Rattle.std.specs.Prelude.{◌≡◌, ℕ, List, ◌++◌, Option, Result, OnOk}
use Rattle.ber_forms.specs.declared.unread.Unread.{Unread}
use Rattle.ber_forms.specs.Value.{optionally}
use Rattle.ber_forms.specs.Ahead.{Ahead}
use Rattle.ber_forms.specs.Reading.{Gives, reading, required_at, optional_at}
use Rattle.ber_forms.specs.Spelling.{member_octets, optional_octets, appended}
use Rattle.mms_types.specs.declared.identifier.Edition.{Edition}
use Rattle.mms_types.specs.Spelling.{widest}
use Rattle.pdu_names.specs.Editions.{lengths_of}
use Rattle.pdu_names.specs.Kinds.{Kind, Tags, Item}

-- what the contents say, unless memory runs out
abbrev pub GivesContents : {X : Type 0} → Kind X → Edition → List ℕ → Result X Unread → Type 0
GivesContents kind edition contents result = Gives kind.value result (reading (lengths_of edition) (kind.form edition) contents)

-- what the next element says, and what is left after it
abbrev pub GivesNext : {tags : Tags} {X : Type 0} → Item tags X → Edition → Ahead → Ahead → Result X Unread → Type 0
GivesNext item edition before after result =
    Gives (λ x. (item.value x, after.octets)) result (required_at (lengths_of edition) (item.member edition) before.octets)

-- the same where the next element has the item's tag, and nothing where it has another or there is none
abbrev pub GivesNextIfThere : {tags : Tags} {X : Type 0} → Item tags X → Edition → Ahead → Ahead → Result (Option X) Unread → Type 0
GivesNextIfThere item edition before after result =
    Gives (λ o. (optionally item.value o, after.octets)) result (optional_at (lengths_of edition) (item.member edition) before.octets)

-- the contents are appended
abbrev pub PutsContents : {X E : Type 0} → Kind X → X → List ℕ → List ℕ → Result (Unit {0}) E → Type 0
PutsContents kind x before after result = OnOk result (after ≡ appended (kind.form widest) (kind.value x) before)

-- the element is appended
abbrev pub Puts : {tags : Tags} {X E : Type 0} → Item tags X → X → List ℕ → List ℕ → Result (Unit {0}) E → Type 0
Puts item x before after result = OnOk result (after ≡ before ++ member_octets (item.member widest) (item.value x))

-- the element is appended, if there is one
abbrev pub PutsIfThere : {tags : Tags} {X E : Type 0} → Item tags X → Option X → List ℕ → List ℕ → Result (Unit {0}) E → Type 0
PutsIfThere item o before after result = OnOk result (after ≡ before ++ optional_octets (item.member widest) (optionally item.value o))
