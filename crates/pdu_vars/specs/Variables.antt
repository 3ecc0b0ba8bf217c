-- Which variables are meant (ISO 9506-2, Address, VariableSpecification and VariableAccessSpecification).
use Rattle.std.specs.Prelude.{◌≡◌, ℕ, true, List, [], refl}
use Rattle.std.proofs.Common.{ap}
use Rattle.ber_forms.specs.Value.{Value, chosen}
use Rattle.ber_forms.specs.Form.{from_to}
use Rattle.ber_forms.specs.Fits.{sound_alternatives}
use Rattle.mms_types.specs.declared.identifier.Edition.{Edition}
use Rattle.mms_types.specs.declared.variable.Spec.{Spec}
use Rattle.mms_types.specs.declared.variable.Spec.TheVariants.{Name, Address}
use Rattle.mms_types.specs.declared.variable.Access.{Access}
use Rattle.mms_types.specs.declared.variable.Access.TheVariants as access
use Rattle.pdu_names.specs.Names.{names, names_sound}
use Rattle.pdu_names.specs.Kinds.{Kind, settled, Item, Choice, Arms, unsigned32, universal, one_of, list_of, choice, sequence, required, no_more, or, no_other, alternatives, made_of}

-- numericAddress 0, and no other kind of address (this profile's choice)
abbrev pub addresses : Choice ℕ
addresses = alternatives (or 0 unsigned32 (λ n. n) (no_other 0)) (λ n. chosen 0 (unsigned32.value n)) (λ n. refl)

-- name 0 and address 1, both explicit
abbrev spec_arms : Arms Spec
spec_arms = or 0 (choice names) Name (or 1 (choice addresses) Address (no_other (Address 0)))

abbrev spec_value : Spec → Value
spec_value (Name name) = chosen 0 (names.value name)
spec_value (Address n) = chosen 1 (addresses.value n)

pub spec_again : (s : Spec) → made_of spec_arms (spec_value s) ≡ s
spec_again (Name name) = ap Name (names.again name)
spec_again (Address n) = refl

-- VariableSpecification
unfoldable pub specifications : Choice Spec
specifications = alternatives spec_arms spec_value spec_again

pub specifications_sound : (e : Edition) → sound_alternatives (specifications.alternatives e) ≡ true
unfolding specifications
specifications_sound e = rw (names_sound e) refl

-- a member of a list of variables: variableSpecification
abbrev pub listed_variable : Kind Spec
listed_variable = sequence (required (one_of specifications) (λ s. s) no_more) (λ s. s) (λ s. refl)

-- the universal tag of SEQUENCE (ITU-T X.680, 8.4)
abbrev pub own_variable : Item settled Spec
own_variable = universal 16 listed_variable

-- from the first number of variables to the second
abbrev pub variables : ℕ → ℕ → Kind (List Spec)
variables least most = list_of (from_to least most) own_variable

-- listOfVariable 0, of 1 to 1,024 (this profile's choice), and variableListName 1, which is explicit
abbrev access_arms : Arms Access
access_arms = or 0 (variables 1 1024) access.Specs (or 1 (choice names) access.List (no_other (access.Specs [])))

abbrev access_value : Access → Value
access_value (access.Specs specs) = chosen 0 ((variables 1 1024).value specs)
access_value (access.List name) = chosen 1 (names.value name)

pub access_again : (a : Access) → made_of access_arms (access_value a) ≡ a
access_again (access.Specs specs) = ap access.Specs ((variables 1 1024).again specs)
access_again (access.List name) = ap access.List (names.again name)

-- VariableAccessSpecification
unfoldable pub accesses : Choice Access
accesses = alternatives access_arms access_value access_again

pub accesses_sound : (e : Edition) → sound_alternatives (accesses.alternatives e) ≡ true
unfolding accesses
accesses_sound e = rw (specifications_sound e, names_sound e) refl
