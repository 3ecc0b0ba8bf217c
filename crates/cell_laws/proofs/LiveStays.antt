-- A live domain stays live unless it is deleted, and none is deleted that an object has for its scope.
use Rattle.std.proofs.Common.{◌≡◌, ◌∙◌, ℕ, ◌==◌, nat_lt, Bool, true, false, not, cond, List, [], ◌∷◌, ◌++◌, length, Option, None, Some, is_some, refl, ap, sym, subst}
use Rattle.std.specs.Prelude.{◌||◌}
use Rattle.std.specs.List.{IsDistinct}
use Rattle.std.specs.Map.{keys_of, lookup, set_value}
use Rattle.std.specs.Option.{option_map_or}
use Rattle.std.proofs.lemmas.Bool.Decides.{Decides-eqb}
use Rattle.std.proofs.lemmas.Slice.Eq.{slice_eq-Decides}
use Rattle.mms_types.proofs.Conditions.{none_holds}
use Rattle.mms_types.specs.Errors.{first_of, object_constraint_conflict, object_non_existent, object_state_conflict}
use Rattle.mms_types.specs.declared.asked.Reply.{Reply}
use Rattle.mms_types.specs.declared.domain.InitiateDownloadSequence.{InitiateDownloadSequence}
use Rattle.mms_types.specs.declared.service_error.ServiceError.{ServiceError}
use Rattle.domain_load.specs.Domains.{Rows, delete_cause, is_held, is_there, name_eq, named, without, without_loads}
use Rattle.domain_load.specs.Loading.{answers_load, begun, changed, domain_of, initiate_after, reply_after}
use Rattle.domain_load.specs.Standing.{is_live, is_loaded_by, is_loading}
use Rattle.domain_load.specs.Used.{after_unused, after_used, had_by, left_by}
use Rattle.domain_load.specs.declared.domain.Domain.{Domain}
use Rattle.domain_load.proofs.Outcomes.{found_changed, gone_others, reply_others, there}

-- a domain that is live before is so after
abbrev pub StayLive : Rows → Rows → Type 0
StayLive before after = (name : List ℕ) → is_there is_live name before ≡ true → is_there is_live name after ≡ true

abbrev live_in : Option Domain → Bool
live_in o = option_map_or is_live o false

-- ---- a load begins

found_first : (test : List ℕ → Bool) (rows more : Rows) → live_in (lookup test rows) ≡ true → live_in (lookup test (rows ++ more)) ≡ true
found_first test [] more live = absurd (cc live)
found_first test (row ∷ rows) more live = by_test (test row.0) (found_first test rows more) live
  where
    by_test : (b : Bool) → (live_in (lookup test rows) ≡ true → live_in (lookup test (rows ++ more)) ≡ true)
        → live_in (cond b (Some row.1) (lookup test rows)) ≡ true → live_in (cond b (Some row.1) (lookup test (rows ++ more))) ≡ true
    by_test true rest h = h
    by_test false rest h = rest h

pub begun_stays : (client : ℕ) (request : InitiateDownloadSequence) (rows : Rows) → StayLive rows (initiate_after client request rows)
begun_stays client request rows name live = found_first (name_eq name) rows ((request.domain, begun client request) ∷ []) live

-- ---- a client is lost

-- who is live isn't loaded by a client
not_loaded : (client : ℕ) (domain : Domain) → is_live domain ≡ true → is_loaded_by client domain ≡ false
not_loaded client domain live = by_loader domain.loader live
  where
    by_loader : (o : Option ℕ) → not (is_some o) ≡ true → option_map_or (λ loader. loader == client) o false ≡ false
    by_loader None e = refl
    by_loader (Some loader) e = absurd (cc e)

module _ (client : ℕ) (test : List ℕ → Bool) where
  abbrev kept : Rows → Rows
  kept rows = without_loads client rows

  found_kept : (rows : Rows) → live_in (lookup test rows) ≡ true → live_in (lookup test (kept rows)) ≡ true
  found_kept [] live = live
  found_kept (row ∷ rows) live = by_loaded (is_loaded_by client row.1) refl (found_kept rows)
    where
      here : is_loaded_by client row.1 ≡ true → (b : Bool) → (live_in (lookup test rows) ≡ true → live_in (lookup test (kept rows)) ≡ true)
          → live_in (cond b (Some row.1) (lookup test rows)) ≡ true → live_in (lookup test (kept rows)) ≡ true
      here loaded true rest h = let none = not_loaded client row.1 h in absurd (cc (loaded, none))
      here loaded false rest h = rest h

      beside : (b : Bool) → (live_in (lookup test rows) ≡ true → live_in (lookup test (kept rows)) ≡ true)
          → live_in (cond b (Some row.1) (lookup test rows)) ≡ true → live_in (cond b (Some row.1) (lookup test (kept rows))) ≡ true
      beside true rest h = h
      beside false rest h = rest h

      by_loaded : (b : Bool) → is_loaded_by client row.1 ≡ b → (live_in (lookup test rows) ≡ true → live_in (lookup test (kept rows)) ≡ true)
          → live_in (lookup test (cond (not b) (row ∷ kept rows) (kept rows))) ≡ true
      by_loaded true loaded rest = here loaded (test row.0) rest live
      by_loaded false other rest = beside (test row.0) rest live

pub lost_stays : (client : ℕ) (rows : Rows) → StayLive rows (without_loads client rows)
lost_stays client rows name live = found_kept client (name_eq name) rows live

-- ---- a client answers to a request of a load

names_same : (a b : List ℕ) → name_eq a b ≡ true → a ≡ b
names_same a b e = (slice_eq-Decides Decides-eqb a b (name_eq a b) refl).0 e

pub replied_stays : (client : ℕ) (answer : Reply) (rows : Rows) → IsDistinct name_eq (keys_of rows) → answers_load client answer rows ≡ true
    → StayLive rows (reply_after answer rows)
replied_stays client answer rows distinct own name live = by_name (name_eq (domain_of answer) name) refl
  where
    by_name : (b : Bool) → name_eq (domain_of answer) name ≡ b → is_there is_live name (reply_after answer rows) ≡ true
    by_name true same =
        let d = there (is_loaded_by client) (named (domain_of answer) rows) own in
        let its : is_there is_live (domain_of answer) rows ≡ true =
        subst (λ (n : List ℕ). is_there is_live n rows ≡ true) (sym (names_same (domain_of answer) name same)) live in
        let lives : is_live d.0 ≡ true = sym (ap live_in d.1) ∙ its in
        let none = not_loaded client d.0 lives in
        let loaded = d.2 in
        absurd (cc (none, loaded))
    by_name false apart = ap live_in (reply_others client answer rows name distinct own apart) ∙ live

-- ---- a program invocation comes to domains, or leaves them

live_changed : (name : List ℕ) (f : Domain → Domain) (rows : Rows) → ((domain : Domain) → (f domain).loader ≡ domain.loader) → StayLive rows (changed name f rows)
live_changed name f rows keeps other live = by_found (named name rows) refl
  where
    by_test : (x : Domain) → named name rows ≡ Some x → (b : Bool) → name_eq name other ≡ b → live_in (cond b (Some (f x)) (named other rows)) ≡ true
    by_test x e true same =
        let found : named other rows ≡ Some x = ap (λ (n : List ℕ). named n rows) (sym (names_same name other same)) ∙ e in
        ap (λ (o : Option ℕ). not (is_some o)) (keeps x) ∙ sym (ap live_in found) ∙ live
    by_test x e false apart = live

    by_found : (o : Option Domain) → named name rows ≡ o → is_there is_live other (changed name f rows) ≡ true
    by_found None e = ap (λ (o : Option Domain). is_there is_live other (option_map_or (λ x. set_value (name_eq name) rows (f x)) o rows)) e ∙ live
    by_found (Some x) e = ap live_in (found_changed name other f rows x e) ∙ by_test x e (name_eq name other) refl

pub used_stay : (names : List (List ℕ)) (by : List ℕ) (rows : Rows) → StayLive rows (after_used names by rows)
used_stay [] by rows name live = live
used_stay (own ∷ names) by rows name live = used_stay names by (changed own (had_by by) rows) name (live_changed own (had_by by) rows (λ domain. refl) name live)

pub unused_stay : (names : List (List ℕ)) (by : List ℕ) (rows : Rows) → StayLive rows (after_unused names by rows)
unused_stay [] by rows name live = live
unused_stay (own ∷ names) by rows name live = unused_stay names by (changed own (left_by by) rows) name (live_changed own (left_by by) rows (λ domain. refl) name live)

-- ---- a domain is deleted

pub deleted_stays : (name other : List ℕ) (rows : Rows) → IsDistinct name_eq (keys_of rows) → name_eq name other ≡ false → is_there is_live other rows ≡ true
    → is_there is_live other (without name rows) ≡ true
deleted_stays name other rows distinct apart live = ap live_in (gone_others name other rows distinct apart) ∙ live

-- no object has it for its scope
pub not_scoped : (name : List ℕ) (uploads : ℕ) (scoped : Bool) (rows : Rows) → delete_cause name uploads scoped rows ≡ None → scoped ≡ false
not_scoped name uploads scoped rows none = by_domain (named name rows) first.0 third.0
  where
    last : List (Bool × ServiceError)
    last = (is_there (is_held uploads scoped) name rows, object_constraint_conflict) ∷ []

    first : (not (is_some (named name rows)) ≡ false) × (first_of ((is_there is_loading name rows, object_state_conflict) ∷ last) ≡ None)
    first = none_holds (not (is_some (named name rows))) object_non_existent ((is_there is_loading name rows, object_state_conflict) ∷ last) none

    third : (is_there (is_held uploads scoped) name rows ≡ false) × (first_of [] ≡ None)
    third = none_holds (is_there (is_held uploads scoped) name rows) object_constraint_conflict [] (none_holds (is_there is_loading name rows) object_state_conflict last first.1).1

    by_tests : (a b : Bool) → (a || b || scoped) ≡ false → scoped ≡ false
    by_tests true b h = absurd (cc h)
    by_tests false true h = absurd (cc h)
    by_tests false false h = h

    by_domain : (o : Option Domain) → not (is_some o) ≡ false → option_map_or (is_held uploads scoped) o false ≡ false → scoped ≡ false
    by_domain None e h = absurd (cc e)
    by_domain (Some d) e h = by_tests (nat_lt 0 uploads) (not (length d.invocations == 0)) h
