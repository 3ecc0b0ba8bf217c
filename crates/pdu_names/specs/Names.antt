-- Identifier and ObjectName (ISO 9506-2).
use Rattle.std.specs.Prelude.{◌≡◌, ℕ, true, List, []}
use Rattle.std.proofs.Common.{refl}
use Rattle.ber_forms.specs.Value.{Value, text, chosen}
use Rattle.ber_forms.specs.Form as asn
use Rattle.ber_forms.specs.Fits.{sound_alternatives}
use Rattle.ber_forms.proofs.Wider.{texts_wider}
use Rattle.mms_types.specs.declared.identifier.Edition.{Edition}
use Rattle.mms_types.specs.declared.object_name.ObjectName.{ObjectName}
use Rattle.mms_types.specs.declared.object_name.ObjectName.TheVariants.{Vmd, Domain, Association}
use Rattle.mms_types.specs.Spelling.{widest, is_identifier}
use Rattle.mms_types.proofs.Texts.{is_name}
use Rattle.pdu_names.specs.Said.{text_of}
use Rattle.pdu_names.specs.Alike.{texts_alike}
use Rattle.pdu_names.specs.Kinds.{Kind, settled, Item, Choice, Arms, universal, list_of, sequence, required, no_more, or, no_other, alternatives, made_of}

-- a VisibleString that is an identifier of the edition
abbrev pub identifier : Kind (List ℕ)
identifier = record {
  form = λ e. asn.octet_string (is_identifier e);
  value = text;
  said = text_of;
  again = λ o. refl;
  alike = λ e. texts_alike (is_identifier e) (is_identifier widest);
  wider = λ e. texts_wider (is_identifier e) (is_identifier widest) (is_name e);
}

-- the universal tag of VisibleString (ITU-T X.680, 8.4)
abbrev pub own_identifier : Item settled (List ℕ)
own_identifier = universal 26 identifier

-- identifiers one after the other
abbrev pub identifiers : Kind (List (List ℕ))
identifiers = list_of asn.any_number own_identifier

-- a domain, and an item in it
abbrev pub in_domain : Kind (List ℕ × List ℕ)
in_domain = sequence (
    required own_identifier (λ d. d.0) (
    required own_identifier (λ d. d.1) no_more))
    (λ domain item. (domain, item)) (λ d. refl)

-- vmd-specific 0, domain-specific 1, aa-specific 2
abbrev name_arms : Arms ObjectName
name_arms = or 0 identifier Vmd (or 1 in_domain (λ d. Domain d.0 d.1) (or 2 identifier Association (no_other (Vmd []))))

abbrev name_value : ObjectName → Value
name_value (Vmd item) = chosen 0 (identifier.value item)
name_value (Domain domain item) = chosen 1 (in_domain.value (domain, item))
name_value (Association item) = chosen 2 (identifier.value item)

pub name_again : (x : ObjectName) → made_of name_arms (name_value x) ≡ x
name_again (Vmd item) = refl
name_again (Domain domain item) = refl
name_again (Association item) = refl

unfoldable pub names : Choice ObjectName
names = alternatives name_arms name_value name_again

pub names_sound : (e : Edition) → sound_alternatives (names.alternatives e) ≡ true
unfolding names
names_sound e = refl
