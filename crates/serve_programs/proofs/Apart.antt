-- No two program invocations have one name, whatever is done to them.
use Rattle.std.proofs.Common.{◌≡◌, ◌∙◌, ℕ, List, [], ◌∷◌, Option, None, Some, is_some, refl, ap, sym, subst}
use Rattle.std.specs.List.{IsDistinct}
use Rattle.std.specs.Map.{keys_of, set_value}
use Rattle.std.specs.Option.{option_map_or}
use Rattle.std.proofs.lemmas.Cmp.{nat_list_eq_equiv}
use Rattle.std.proofs.lemmas.List.{map-append}
use Rattle.std.proofs.lemmas.Map.{keys-set_value}
use Rattle.std.proofs.lemmas.Map.Keys.{IsDistinct-push}
use Rattle.std.proofs.lemmas.Map.Made.{is_some-lookup}
use Rattle.mms_types.specs.declared.invocation.CreateProgramInvocation.{CreateProgramInvocation}
use Rattle.object_names.proofs.Distinct.{distinct_removed}
use Rattle.domain_load.specs.Domains.{Rows as DomainRows, name_eq}
use Rattle.program_inv.specs.Programs.{Rows, after_create, after_delete, changed, create_cause, made, named}
use Rattle.program_inv.specs.declared.invocation.Invocation.{Invocation}
use Rattle.program_inv.proofs.Unopposed.{nothing_against}

-- each has a name of its own
abbrev pub HaveNames : Rows → Type 0
HaveNames programs = IsDistinct name_eq (keys_of programs)

pub none_named : HaveNames []
unfolding IsDistinct
none_named = tt

pub made_named : (request : CreateProgramInvocation) (domains : DomainRows) (programs : Rows) → create_cause request domains programs ≡ None → HaveNames programs
    → HaveNames (after_create request programs)
made_named request domains programs none names =
    subst (λ (l : List (List ℕ)). IsDistinct name_eq l) (sym (map-append (λ (e : List ℕ × Invocation). e.0) programs ((request.name, made request) ∷ [])))
    (IsDistinct-push nat_list_eq_equiv (keys_of programs) request.name names
    (sym (is_some-lookup (name_eq request.name) programs) ∙ ap is_some (nothing_against request domains programs none).0))

pub keys_changed : (name : List ℕ) (f : Invocation → Invocation) (programs : Rows) → keys_of (changed name f programs) ≡ keys_of programs
keys_changed name f programs = by_found (named name programs)
  where
    by_found : (o : Option Invocation) → keys_of (option_map_or (λ p. set_value (name_eq name) programs (f p)) o programs) ≡ keys_of programs
    by_found None = refl
    by_found (Some p) = keys-set_value (name_eq name) programs (f p)

pub deleted_named : (name : List ℕ) (programs : Rows) → HaveNames programs → HaveNames (after_delete name programs)
deleted_named name programs names = distinct_removed name_eq (name_eq name) programs names
