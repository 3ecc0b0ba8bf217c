-- A program invocation is made: no domain has its name before, and without memory it is taken back.
use Rattle.std.proofs.Common.{◌≡◌, ◌∙◌, ℕ, Bool, true, false, not, cond, ◌||◌, if◌then◌else◌, List, [], ◌∷◌, ◌++◌, Option, None, Some, is_some, filter, length, refl, ap, sym, subst}
use Rattle.std.specs.List.{list_any}
use Rattle.std.specs.Map.{keys_of, lookup, remove_entry}
use Rattle.std.specs.Option.{option_map_or}
use Rattle.std.specs.Ordering.{is_lt}
use Rattle.std.proofs.lemmas.Bool.Decides.{Decides-eqb}
use Rattle.std.proofs.lemmas.Cmp.{nat_list_eq_equiv}
use Rattle.std.proofs.lemmas.Slice.Eq.{slice_eq-Decides}
use Rattle.mms_types.specs.Order.{name_order}
use Rattle.mms_types.specs.declared.invocation.CreateProgramInvocation.{CreateProgramInvocation}
use Rattle.mms_types.specs.declared.invocation.InvocationState.TheVariants.{Idle}
use Rattle.object_names.specs.Listing.{insert_name, sorted_names}
use Rattle.domain_load.specs.Domains.{Rows as DomainRows, is_there, name_eq}
use Rattle.domain_load.specs.Domains as loaded
use Rattle.domain_load.specs.Used.{AreFreeFor, is_had_by}
use Rattle.domain_load.specs.declared.domain.Domain.{Domain}
use Rattle.mms_types.specs.Errors.{first_of, object_non_existent, object_state_conflict}
use Rattle.mms_types.specs.declared.service_error.ServiceError.{ServiceError}
use Rattle.program_inv.specs.Programs.{Rows, after_create, after_delete, create_cause, delete_cause, is_running, named}
use Rattle.program_inv.specs.declared.invocation.Invocation.{Invocation}
use Rattle.program_inv.proofs.Free.{all_free}
use Rattle.program_inv.proofs.Unopposed.{nothing_against}
use Rattle.serve_programs.specs.Users.{AreUsed, is_of, users_of}

names_same : (a b : List ℕ) → name_eq a b ≡ true → a ≡ b
names_same a b e = (slice_eq-Decides Decides-eqb a b (name_eq a b) refl).0 e

-- a name that isn't that one
other_way : (a b : List ℕ) (x : Bool) → name_eq b a ≡ x → name_eq a b ≡ false → x ≡ false
other_way a b false e other = refl
other_way a b true e other = absurd (cc (sym (nat_list_eq_equiv.refl b) ∙ ap (λ (n : List ℕ). name_eq n b) (names_same b a e) ∙ other))

-- ---- no name is among those of rows that don't have it

first_other : (test : Bool) (value : Invocation) (rest : Option Invocation) → cond test (Some value) rest ≡ None → (test ≡ false) × (rest ≡ None)
first_other true value rest e = absurd (cc e)
first_other false value rest e = (refl, e)

none_has : (by : List ℕ) (q : List ℕ × Invocation → Bool) (rows : Rows) → named by rows ≡ None → list_any (λ name. name_eq name by) (keys_of (filter q rows)) ≡ false
none_has by q [] e = refl
none_has by q (row ∷ rows) e =
    let a = first_other (name_eq by row.0) row.1 (named by rows) e in
    by_test (q row) (other_way by row.0 (name_eq row.0 by) refl a.0) (none_has by q rows a.1)
  where
    by_test : (b : Bool) → name_eq row.0 by ≡ false → list_any (λ name. name_eq name by) (keys_of (filter q rows)) ≡ false
        → list_any (λ name. name_eq name by) (keys_of (cond b (row ∷ filter q rows) (filter q rows))) ≡ false
    by_test true other rest = ap (λ (x : Bool). x || list_any (λ name. name_eq name by) (keys_of (filter q rows))) other ∙ rest
    by_test false other rest = rest

-- ---- the order of names changes nothing of it

or_twice : (a b c : Bool) → (a || (b || c)) ≡ (b || (a || c))
or_twice true true c = refl
or_twice true false c = refl
or_twice false b c = refl

any_inserted : (f : List ℕ → Bool) (name : List ℕ) (names : List (List ℕ)) → list_any f (insert_name name names) ≡ (f name || list_any f names)
any_inserted f name [] = refl
any_inserted f name (other ∷ others) = by_order (is_lt (name_order other name)) (any_inserted f name others)
  where
    by_order : (b : Bool) → list_any f (insert_name name others) ≡ (f name || list_any f others)
        → list_any f (if b then other ∷ insert_name name others else name ∷ other ∷ others) ≡ (f name || (f other || list_any f others))
    by_order true rest = ap (λ (x : Bool). f other || x) rest ∙ or_twice (f other) (f name) (list_any f others)
    by_order false rest = refl

any_sorted : (f : List ℕ → Bool) (names : List (List ℕ)) → list_any f (sorted_names names) ≡ list_any f names
any_sorted f [] = refl
any_sorted f (name ∷ names) = any_inserted f name (sorted_names names) ∙ ap (λ (x : Bool). f name || x) (any_sorted f names)

-- ---- so no domain has the name of a new invocation, which may have its domains

module _ (domains : DomainRows) (programs : Rows) (used : AreUsed domains programs) where
  pub not_had : (by : List ℕ) → named by programs ≡ None → (name : List ℕ) → is_there (is_had_by by) name domains ≡ false
  not_had by new name = by_found (loaded.named name domains) refl
    where
      by_found : (o : Option Domain) → loaded.named name domains ≡ o → option_map_or (is_had_by by) o false ≡ false
      by_found None e = refl
      by_found (Some d) e =
          ap (list_any (λ other. name_eq other by)) (used.names name d e)
          ∙ any_sorted (λ other. name_eq other by) (keys_of (filter (is_of name) programs))
          ∙ none_has by (is_of name) programs new

  pub may_have : (request : CreateProgramInvocation) → create_cause request domains programs ≡ None → AreFreeFor request.name request.domains domains
  may_have request none = all_free request domains programs none (not_had request.name (nothing_against request domains programs none).0)

-- ---- an invocation that was made last is taken back

taken_back : (name : List ℕ) (p : Invocation) (rows : Rows) → named name rows ≡ None → remove_entry (name_eq name) (rows ++ (name, p) ∷ []) ≡ rows
taken_back name p [] e = ap (λ (b : Bool). cond b [] ((name, p) ∷ [])) (nat_list_eq_equiv.refl name)
taken_back name p (row ∷ rows) e =
    let a = first_other (name_eq name row.0) row.1 (named name rows) e in
    ap (λ (b : Bool). cond b (rows ++ (name, p) ∷ []) (row ∷ remove_entry (name_eq name) (rows ++ (name, p) ∷ []))) a.0
    ∙ ap (λ (rest : Rows). row ∷ rest) (taken_back name p rows a.1)

pub made_and_deleted : (request : CreateProgramInvocation) (domains : DomainRows) (rows made after : Rows) → create_cause request domains rows ≡ None → made ≡ after_create request rows
    → after ≡ after_delete request.name made → after ≡ rows
made_and_deleted request domains rows made after none is gone =
    gone ∙ ap (after_delete request.name) is
    ∙ taken_back request.name (record { domains = request.domains; reusable = request.reusable; state = Idle; argument = [] }) rows (nothing_against request domains rows none).0

-- ---- and nothing is against that

named_last : (name : List ℕ) (p : Invocation) (rows : Rows) → named name rows ≡ None → named name (rows ++ (name, p) ∷ []) ≡ Some p
named_last name p [] e = ap (λ (b : Bool). cond b (Some p) None) (nat_list_eq_equiv.refl name)
named_last name p (row ∷ rows) e =
    let a = first_other (name_eq name row.0) row.1 (named name rows) e in
    ap (λ (b : Bool). cond b (Some row.1) (named name (rows ++ (name, p) ∷ []))) a.0 ∙ named_last name p rows a.1

abbrev cause_of : Option Invocation → Option ServiceError
cause_of found = first_of ((not (is_some found), object_non_existent) ∷ (option_map_or is_running found false, object_state_conflict) ∷ [])

pub made_may_go : (request : CreateProgramInvocation) (domains : DomainRows) (rows made : Rows) → create_cause request domains rows ≡ None → made ≡ after_create request rows → delete_cause request.name made ≡ None
made_may_go request domains rows made none is =
    ap (delete_cause request.name) is
    ∙ ap cause_of (named_last request.name (record { domains = request.domains; reusable = request.reusable; state = Idle; argument = [] }) rows (nothing_against request domains rows none).0)
