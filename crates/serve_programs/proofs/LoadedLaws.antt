-- The names that domains have stay those of the invocations that name them while domains are loaded, deleted, and lost: none of these is one that an invocation names.
use Rattle.std.proofs.Common.{◌≡◌, ◌∙◌, ℕ, ◌≤◌, Bool, true, false, cond, not, ◌||◌, if◌then◌else◌, List, [], ◌∷◌, Option, None, Some, is_some, length, refl, ap, sym, subst, arith}
use Rattle.std.specs.Prelude.{◌≢◌, ◌==◌, nat_lt}
use Rattle.std.specs.List.{IsDistinct}
use Rattle.std.specs.Map.{keys_of}
use Rattle.std.specs.Option.{option_map_or}
use Rattle.std.proofs.lemmas.Cmp.{nat_list_eq_equiv}
use Rattle.std.proofs.lemmas.Map.Entries.{lookup-filter-values, option_filter}
use Rattle.mms_types.specs.Errors.{object_constraint_conflict, object_non_existent, object_state_conflict}
use Rattle.mms_types.specs.declared.asked.Reply.{Reply}
use Rattle.mms_types.specs.declared.asked.Reply.TheVariants as reply
use Rattle.mms_types.specs.declared.domain.InitiateDownloadSequence.{InitiateDownloadSequence}
use Rattle.mms_types.specs.declared.service_error.ServiceError.{ServiceError}
use Rattle.mms_types.proofs.Conditions.{none_holds}
use Rattle.domain_load.specs.Domains.{Rows as DomainRows, delete_cause, is_held, is_there, name_eq, without, without_loads}
use Rattle.domain_load.specs.Domains as domain
use Rattle.domain_load.specs.Loading.{answers_load, begun, changed, domain_of, initiate_after, initiate_cause, reply_after, with_segment, would_pass}
use Rattle.domain_load.specs.Loading as load
use Rattle.domain_load.specs.Standing.{is_live, is_loaded_by, is_loading}
use Rattle.domain_load.specs.declared.domain.Domain.{Domain}
use Rattle.domain_load.proofs.Outcomes.{begin_others, begins, gone, gone_others, is_changed, lost_others, reply_others, there}
use Rattle.domain_load.proofs.Unopposed.{nothing_against}
use Rattle.program_inv.specs.Programs.{Rows}
use Rattle.serve_programs.specs.Users.{AreUsed, users_of}
use Rattle.serve_programs.proofs.UsedLaws.{at_least_one, names_same}

abbrev is_so : (Domain → Bool) → Option Domain → Bool
is_so p o = option_map_or p o false

-- who is loaded by a client isn't live, and who is live is loaded by none
not_live : (client : ℕ) (loader : Option ℕ) → option_map_or (λ l. l == client) loader false ≡ true → not (is_some loader) ≡ false
not_live client None e = absurd (cc e)
not_live client (Some l) e = refl

live_not : (client : ℕ) (loader : Option ℕ) → not (is_some loader) ≡ true → option_map_or (λ l. l == client) loader false ≡ false
live_not client None e = refl
live_not client (Some l) e = absurd (cc e)

-- a domain that is held by nothing has no names
empty_of : (uploads : Bool) (names : List (List ℕ)) (scope : Bool) → (uploads || not (length names == 0) || scope) ≡ false → names ≡ []
empty_of true names scope e = absurd (cc e)
empty_of false [] scope e = refl
empty_of false (name ∷ names) scope e = absurd (cc (sym (ap (λ (b : Bool). b || scope) (at_least_one (length (name ∷ names)) (omega arith))) ∙ e))

-- an answer changes no names
replied_none : (answer : Reply) (was : DomainRows) → IsDistinct name_eq (keys_of was) → (e d : Domain) → domain.named (domain_of answer) was ≡ Some e → e.invocations ≡ []
    → domain.named (domain_of answer) (reply_after answer was) ≡ Some d → d.invocations ≡ []
replied_none (reply.Segment name octets more) was distinct e d found empty is = by_passes (is_there (would_pass (length octets)) name was) is
  where
    by_passes : (b : Bool) → domain.named name (if b then without name was else changed name (with_segment octets) was) ≡ Some d → d.invocations ≡ []
    by_passes true is = absurd (cc (sym (gone name was distinct) ∙ is))
    by_passes false is =
        let same : with_segment octets e ≡ d = cc (sym (is_changed name (with_segment octets) was e found) ∙ is) in
        sym (ap (λ (x : Domain). x.invocations) same) ∙ empty
replied_none (reply.Ended name) was distinct e d found empty is =
    let same : load.loaded e ≡ d = cc (sym (is_changed name load.loaded was e found) ∙ is) in
    sym (ap (λ (x : Domain). x.invocations) same) ∙ empty
replied_none (reply.Failed name kind) was distinct e d found empty is = absurd (cc (sym (gone name was distinct) ∙ is))

module _ (was : DomainRows) (programs : Rows) (used : AreUsed was programs) where
  -- no invocation names a domain that isn't there, or is LOADING
  unused_of : (n : List ℕ) → is_there is_live n was ≡ false → users_of n programs ≡ []
  unused_of n dead = by_users (users_of n programs) refl
    where
      by_users : (users : List (List ℕ)) → users_of n programs ≡ users → users_of n programs ≡ []
      by_users [] e = e
      by_users (name ∷ names) e = absurd (cc (sym (used.live n (λ none. absurd (cc (sym e ∙ none)))) ∙ dead))

  -- the domains that invocations name stay, and the others have no names
  module _ (now : DomainRows) (same : (n : List ℕ) → users_of n programs ≢ [] → domain.named n now ≡ domain.named n was)
      (none : (n : List ℕ) (d : Domain) → domain.named n now ≡ Some d → users_of n programs ≡ [] → d.invocations ≡ []) where
    names_so : (n : List ℕ) (d : Domain) → domain.named n now ≡ Some d → (users : List (List ℕ)) → users_of n programs ≡ users → d.invocations ≡ users_of n programs
    names_so n d is [] e = none n d is e ∙ sym e
    names_so n d is (name ∷ names) e = used.names n d (sym (same n (λ gone. absurd (cc (sym e ∙ gone)))) ∙ is)

    one_so : (n : List ℕ) (d : Domain) → domain.named n now ≡ Some d → d.sharable ≡ false → (users : List (List ℕ)) → users_of n programs ≡ users → length d.invocations ≤ 1
    one_so n d is alone [] e = let few = ap length (none n d is e) in omega (arith, few)
    one_so n d is alone (name ∷ names) e = used.one n d (sym (same n (λ gone. absurd (cc (sym e ∙ gone)))) ∙ is) alone

    still_used : AreUsed now programs
    still_used = record {
      apart = used.apart;
      names = λ n d is. names_so n d is (users_of n programs) refl;
      live = λ n some. ap (is_so is_live) (same n some) ∙ used.live n some;
      one = λ n d is alone. one_so n d is alone (users_of n programs) refl;
    }

  -- ---- a load begins

  pub begins_keeps : (client : ℕ) (left : Bool) (request : InitiateDownloadSequence) → initiate_cause left request was ≡ None → AreUsed (initiate_after client request was) programs
  begins_keeps client left request free = still_used after same none
    where
      after : DomainRows
      after = initiate_after client request was

      unused : users_of request.domain programs ≡ []
      unused = unused_of request.domain (ap (is_so is_live) (nothing_against left request was free).0)

      same : (n : List ℕ) → users_of n programs ≢ [] → domain.named n after ≡ domain.named n was
      same n some = by_name (name_eq n request.domain) refl
        where
          by_name : (b : Bool) → name_eq n request.domain ≡ b → domain.named n after ≡ domain.named n was
          by_name true is = absurd (some (ap (λ (m : List ℕ). users_of m programs) (names_same n request.domain is) ∙ unused))
          by_name false is = begin_others client request was n is

      none : (n : List ℕ) (d : Domain) → domain.named n after ≡ Some d → users_of n programs ≡ [] → d.invocations ≡ []
      none n d is empty = by_name (name_eq n request.domain) refl
        where
          by_name : (b : Bool) → name_eq n request.domain ≡ b → d.invocations ≡ []
          by_name true own =
              let it : begun client request ≡ d = cc (sym (begins client left request was free) ∙ sym (ap (λ (m : List ℕ). domain.named m after) (names_same n request.domain own)) ∙ is) in
              sym (ap (λ (x : Domain). x.invocations) it)
          by_name false other = used.names n d (sym (begin_others client request was n other) ∙ is) ∙ empty

  module _ (distinct : IsDistinct name_eq (keys_of was)) where
    -- ---- a client answers

    pub reply_keeps : (client : ℕ) (answer : Reply) → answers_load client answer was ≡ true → AreUsed (reply_after answer was) programs
    reply_keeps client answer by = still_used after same none
      where
        after : DomainRows
        after = reply_after answer was

        own : (e : Domain) × (domain.named (domain_of answer) was ≡ Some e) × (is_loaded_by client e ≡ true)
        own = there (is_loaded_by client) (domain.named (domain_of answer) was) by

        unused : users_of (domain_of answer) programs ≡ []
        unused = unused_of (domain_of answer) (ap (is_so is_live) own.1 ∙ not_live client own.0.loader own.2)

        same : (n : List ℕ) → users_of n programs ≢ [] → domain.named n after ≡ domain.named n was
        same n some = by_name (name_eq (domain_of answer) n) refl
          where
            by_name : (b : Bool) → name_eq (domain_of answer) n ≡ b → domain.named n after ≡ domain.named n was
            by_name true is = absurd (some (sym (ap (λ (m : List ℕ). users_of m programs) (names_same (domain_of answer) n is)) ∙ unused))
            by_name false is = reply_others client answer was n distinct by is

        none : (n : List ℕ) (d : Domain) → domain.named n after ≡ Some d → users_of n programs ≡ [] → d.invocations ≡ []
        none n d is empty = by_name (name_eq (domain_of answer) n) refl
          where
            by_name : (b : Bool) → name_eq (domain_of answer) n ≡ b → d.invocations ≡ []
            by_name true it =
                replied_none answer was distinct own.0 d own.1 (used.names (domain_of answer) own.0 own.1 ∙ unused)
                (ap (λ (m : List ℕ). domain.named m after) (names_same (domain_of answer) n it) ∙ is)
            by_name false other = used.names n d (sym (reply_others client answer was n distinct by other) ∙ is) ∙ empty

    -- ---- a domain is deleted

    pub without_keeps : (name : List ℕ) (uploads : ℕ) (scope : Bool) → delete_cause name uploads scope was ≡ None → AreUsed (without name was) programs
    without_keeps name uploads scope free = still_used after same none
      where
        after : DomainRows
        after = without name was

        held : Bool
        held = is_there (is_held uploads scope) name was

        last : List (Bool × ServiceError)
        last = (held, object_constraint_conflict) ∷ []

        not_held : held ≡ false
        not_held =
            let a = none_holds (not (is_some (domain.named name was))) object_non_existent ((is_there is_loading name was, object_state_conflict) ∷ last) free in
            let b = none_holds (is_there is_loading name was) object_state_conflict last a.1 in
            (none_holds held object_constraint_conflict [] b.1).0

        by_found : (o : Option Domain) → domain.named name was ≡ o → is_so (is_held uploads scope) o ≡ false → users_of name programs ≡ []
        by_found None e h = unused_of name (ap (is_so is_live) e)
        by_found (Some d) e h = sym (used.names name d e) ∙ empty_of (nat_lt 0 uploads) d.invocations scope h

        unused : users_of name programs ≡ []
        unused = by_found (domain.named name was) refl not_held

        same : (n : List ℕ) → users_of n programs ≢ [] → domain.named n after ≡ domain.named n was
        same n some = by_name (name_eq name n) refl
          where
            by_name : (b : Bool) → name_eq name n ≡ b → domain.named n after ≡ domain.named n was
            by_name true is = absurd (some (sym (ap (λ (m : List ℕ). users_of m programs) (names_same name n is)) ∙ unused))
            by_name false is = gone_others name n was distinct is

        none : (n : List ℕ) (d : Domain) → domain.named n after ≡ Some d → users_of n programs ≡ [] → d.invocations ≡ []
        none n d is empty = by_name (name_eq name n) refl
          where
            by_name : (b : Bool) → name_eq name n ≡ b → d.invocations ≡ []
            by_name true it = absurd (cc (sym (gone name was distinct) ∙ ap (λ (m : List ℕ). domain.named m after) (names_same name n it) ∙ is))
            by_name false other = used.names n d (sym (gone_others name n was distinct other) ∙ is) ∙ empty

    -- ---- a client is lost

    pub lost_keeps : (client : ℕ) → AreUsed (without_loads client was) programs
    lost_keeps client = still_used after same none
      where
        after : DomainRows
        after = without_loads client was

        same : (n : List ℕ) → users_of n programs ≢ [] → domain.named n after ≡ domain.named n was
        same n some =
            let d = there is_live (domain.named n was) (used.live n some) in
            lost_others client n was d.0 distinct d.1 (live_not client d.0.loader d.2) ∙ sym d.1

        by_found : (d : Domain) (o : Option Domain) → option_filter (λ e. not (is_loaded_by client e)) o ≡ Some d → o ≡ Some d
        by_found d None e = absurd (cc e)
        by_found d (Some x) e = by_test (is_loaded_by client x) e
          where
            by_test : (b : Bool) → cond (not b) (Some x) None ≡ Some d → Some x ≡ Some d
            by_test true e = absurd (cc e)
            by_test false e = e

        none : (n : List ℕ) (d : Domain) → domain.named n after ≡ Some d → users_of n programs ≡ [] → d.invocations ≡ []
        none n d is empty =
            used.names n d (by_found d (domain.named n was) (sym (lookup-filter-values nat_list_eq_equiv (λ e. not (is_loaded_by client e)) n was distinct) ∙ is)) ∙ empty
