-- Program invocations come to domains and leave them: domains change in their lists of names alone, and nothing of
-- their loads changes.
use Rattle.std.specs.Prelude.{◌≡◌, ℕ, ◌++◌, Bool, true, false, cond, Option, None, Some, List, [], ◌∷◌, refl}
use Rattle.std.specs.List.{IsDistinct}
use Rattle.std.specs.Map.{set_value}
use Rattle.std.specs.Option.{option_map, option_map_or}
use Rattle.std.proofs.Common.{ap, sym, ◌∙◌, subst}
use Rattle.std.proofs.lemmas.Map.{keys-set_value}
use Rattle.mms_types.specs.declared.asked.Asked.{Asked}
use Rattle.mms_types.specs.declared.asked.Asked.TheVariants as asks
use Rattle.association.specs.declared.unanswered.Unanswered.{Unanswered}
use Rattle.domain_load.specs.Domains.{Rows, is_there, name_eq, named}
use Rattle.domain_load.specs.Loading.{changed}
use Rattle.domain_load.specs.declared.domain.Domain.{Domain}
use Rattle.domain_load.proofs.Outcomes.{found_changed}
use Rattle.step_sound.proofs.DomainNames.{HaveNames}
use Rattle.cell_laws.specs.Loads.{Load, LoadStep, last_load}
use Rattle.cell_laws.proofs.LoadTold.{EachAsked, IsAsked, IsBrought, IsTold, names_same}

-- a domain is changed in its list of program invocations alone
abbrev pub IsOfUsers : (Domain → Domain) → Type 0
IsOfUsers f = (domain : Domain) → f domain ≡ record domain { invocations = (f domain).invocations }

-- ---- what is found under each name

pub named_changed : (name other : List ℕ) (f : Domain → Domain) (d : Rows)
    → named other (changed name f d) ≡ cond (name_eq name other) (option_map f (named other d)) (named other d)
named_changed name other f d = by_found (named name d) refl
  where
    here : (o : Option Domain) → named name d ≡ o → name_eq name other ≡ true → named other d ≡ o
    here o e same = ap (λ (n : List ℕ). named n d) (sym (names_same name other same)) ∙ e

    none : named name d ≡ None → (b : Bool) → name_eq name other ≡ b → named other d ≡ cond b (option_map f (named other d)) (named other d)
    none e true same = here None e same ∙ ap (λ (o : Option Domain). option_map f o) (sym (here None e same))
    none e false apart = refl

    some : (x : Domain) → named name d ≡ Some x → (b : Bool) → name_eq name other ≡ b
        → cond b (Some (f x)) (named other d) ≡ cond b (option_map f (named other d)) (named other d)
    some x e true same = ap (λ (o : Option Domain). option_map f o) (sym (here (Some x) e same))
    some x e false apart = refl

    by_found : (o : Option Domain) → named name d ≡ o → named other (changed name f d) ≡ cond (name_eq name other) (option_map f (named other d)) (named other d)
    by_found None e =
        ap (λ (o : Option Domain). named other (option_map_or (λ x. set_value (name_eq name) d (f x)) o d)) e ∙ none e (name_eq name other) refl
    by_found (Some x) e = found_changed name other f d x e ∙ some x e (name_eq name other) refl

pub changed_names : (name : List ℕ) (f : Domain → Domain) (d : Rows) → HaveNames d → HaveNames (changed name f d)
changed_names name f d names = by_found (named name d)
  where
    by_found : (o : Option Domain) → HaveNames (option_map_or (λ x. set_value (name_eq name) d (f x)) o d)
    by_found None = names
    by_found (Some x) = subst (λ (l : List (List ℕ)). IsDistinct name_eq l) (sym (keys-set_value (name_eq name) d (f x))) names

module _ (name : List ℕ) (f : Domain → Domain) (of : IsOfUsers f) (d : Rows) where
  pub found_users : (other : List ℕ) (domain : Domain) → named other d ≡ Some domain
      → (users : List (List ℕ)) × (named other (changed name f d) ≡ Some (record domain { invocations = users }))
  found_users other domain found = by_test (name_eq name other) refl
    where
      by_test : (b : Bool) → name_eq name other ≡ b → (users : List (List ℕ)) × (named other (changed name f d) ≡ Some (record domain { invocations = users }))
      by_test true e = (
        (f domain).invocations,
        named_changed name other f d ∙ ap (λ (b : Bool). cond b (option_map f (named other d)) (named other d)) e
            ∙ ap (λ (o : Option Domain). option_map f o) found ∙ ap (λ (x : Domain). Some x) (of domain),
      )
      by_test false e = (
        domain.invocations,
        named_changed name other f d ∙ ap (λ (b : Bool). cond b (option_map f (named other d)) (named other d)) e ∙ found,
      )

  pub none_users : (other : List ℕ) → named other d ≡ None → named other (changed name f d) ≡ None
  none_users other none =
      named_changed name other f d ∙ ap (λ (o : Option Domain). cond (name_eq name other) (option_map f o) o) none ∙ by_test (name_eq name other)
    where
      by_test : (b : Bool) → cond b (option_map f None) None ≡ None
      by_test true = refl
      by_test false = refl

  -- what is there was there before
  pub before_users : (other : List ℕ) (after : Domain) → named other (changed name f d) ≡ Some after
      → (domain : Domain) × (named other d ≡ Some domain) × (after ≡ record domain { invocations = after.invocations })
  before_users other after at = by_found (named other d) refl
    where
      by_found : (o : Option Domain) → named other d ≡ o → (domain : Domain) × (named other d ≡ Some domain) × (after ≡ record domain { invocations = after.invocations })
      by_found None e = absurd (cc (sym (none_users other e) ∙ at))
      by_found (Some x) e =
          let s = found_users other x e in
          let same : record x { invocations = s.0 } ≡ after = cc (sym s.1 ∙ at) in
          (x, e, sym same ∙ ap (λ (m : Domain). record x { invocations = m.invocations }) same)

  -- and is as before in what its names don't tell
  pub there_users : (p : Domain → Bool) → ((domain : Domain) (users : List (List ℕ)) → p (record domain { invocations = users }) ≡ p domain) → (other : List ℕ)
      → is_there p other (changed name f d) ≡ is_there p other d
  there_users p keeps other = by_found (named other d) refl
    where
      by_found : (o : Option Domain) → named other d ≡ o → is_there p other (changed name f d) ≡ is_there p other d
      by_found None e =
          ap (λ (o : Option Domain). option_map_or p o false) (none_users other e) ∙ sym (ap (λ (o : Option Domain). option_map_or p o false) e)
      by_found (Some x) e =
          let s = found_users other x e in
          ap (λ (o : Option Domain). option_map_or p o false) s.1 ∙ keeps x s.0 ∙ sym (ap (λ (o : Option Domain). option_map_or p o false) e)

-- ---- what is told of a domain, and asked of its client

pub told_users : (name : List ℕ) (o : Option ℕ) (domain : Domain) (users : List (List ℕ)) (last : Option Load) → IsTold name o domain last
    → IsTold name o (record domain { invocations = users }) last
told_users name None domain users last is = record {
  client = is.client;
  asked = is.asked;
  parts = is.parts;
  final = is.final;
  is = is.is;
  more = is.more;
  segments = is.segments;
  capabilities = is.capabilities;
  sharable = is.sharable;
}
told_users name (Some client) domain users last is = record {
  asked = is.asked;
  parts = is.parts;
  is = is.is;
  more = is.more;
  segments = is.segments;
  capabilities = is.capabilities;
  sharable = is.sharable;
}

module _ (name : List ℕ) (f : Domain → Domain) (of : IsOfUsers f) (d : Rows) (client : ℕ) where
  brought_users : (own : List ℕ) (parts : List (List ℕ × Bool)) (last : Option Load) → IsBrought client own parts (named own d) last
      → IsBrought client own parts (named own (changed name f d)) last
  brought_users own parts last is =
      let s = found_users name f of d own is.domain is.there in
      record {
        domain = record is.domain { invocations = s.0 };
        there = s.1;
        loader = is.loader;
        asked = is.asked;
        is = is.is;
        segments = is.segments;
        capabilities = is.capabilities;
        sharable = is.sharable;
      }

  asked_users : (kind : Asked) (own : List ℕ) (last : Option Load) → IsAsked client kind own (named own d) last → IsAsked client kind own (named own (changed name f d)) last
  asked_users asks.Segment own last is = (is.0, brought_users own is.0 last is.1, is.2)
  asked_users asks.Terminate own last is = (is.0, is.1, brought_users own (is.0 ++ (is.1, false) ∷ []) last is.2, is.3)
  asked_users asks.Discard own last is = tt

  pub each_users : (log : List LoadStep) (us : List Unanswered) → EachAsked client d log us → EachAsked client (changed name f d) log us
  each_users log [] is = tt
  each_users log (u ∷ us) is = (asked_users u.kind u.domain (last_load u.domain log) is.0, each_users log us is.1)
