-- The domains of open uploads stay there, whatever is done to domains.
use Rattle.std.proofs.Common.{◌≡◌, ◌∙◌, ℕ, ◌+◌, ◌≤◌, Bool, true, false, cond, not, nat_eq, List, [], ◌∷◌, ◌++◌, Option, None, Some, is_some, get_or, length, refl, ap, sym, subst, arith}
use Rattle.std.specs.Prelude.{All, IsSomeAnd, count_by}
use Rattle.std.specs.Map.{lookup, remove_entry, set_value}
use Rattle.std.specs.Option.{option_map_or}
use Rattle.std.proofs.lemmas.Bool.Decides.{Decides-eqb, nat_tests}
use Rattle.std.proofs.lemmas.List.Elements.{All-cons, All-nil, All-weaker}
use Rattle.std.proofs.lemmas.List.Sums.{sum_by-cons}
use Rattle.std.proofs.lemmas.Slice.Eq.{slice_eq-Decides}
use Rattle.mms_types.proofs.Conditions.{none_holds}
use Rattle.mms_types.specs.Errors.{object_non_existent, object_state_conflict, object_constraint_conflict}
use Rattle.mms_types.specs.declared.asked.Reply.{Reply}
use Rattle.mms_types.specs.declared.asked.Reply.TheVariants as reply
use Rattle.mms_types.specs.declared.domain.InitiateDownloadSequence.{InitiateDownloadSequence}
use Rattle.mms_types.specs.declared.service_error.ServiceError.{ServiceError}
use Rattle.domain_load.specs.Domains.{Rows, delete_cause, is_held, is_there, name_eq, named, octets, without, without_loads}
use Rattle.domain_load.specs.Loading.{answers_load, begun, changed, domain_of, initiate_after, loaded, reply_after, with_segment, would_pass}
use Rattle.domain_load.specs.Standing.{is_loaded_by, is_loading}
use Rattle.domain_load.specs.declared.domain.Domain.{Domain}
use Rattle.domain_upload.specs.Uploads.{AreOf, IsOf, OpenUploads, uploads_of}
use Rattle.domain_upload.specs.declared.upload.Upload.{Upload}

names_same : (a b : List ℕ) → name_eq a b ≡ true → a ≡ b
names_same a b e = (slice_eq-Decides Decides-eqb a b (name_eq a b) refl).0 e

-- the domain is not LOADING, and has as many octets as were sent
abbrev Allows : ℕ → Domain → Type 0
Allows sent d = (is_loading d ≡ false) × (sent ≤ octets d)

-- ---- a load begins

behind : (P : Domain → Type 0) (test : List ℕ → Bool) (rows : Rows) (row : List ℕ × Domain) → IsSomeAnd (lookup test rows) P → IsSomeAnd (lookup test (rows ++ row ∷ [])) P
behind P test [] row h = absurd h
behind P test (e ∷ es) row h = by_test (test e.0) (behind P test es row) h
  where
    by_test : (b : Bool) → (IsSomeAnd (lookup test es) P → IsSomeAnd (lookup test (es ++ row ∷ [])) P) → IsSomeAnd (cond b (Some e.1) (lookup test es)) P
        → IsSomeAnd (cond b (Some e.1) (lookup test (es ++ row ∷ []))) P
    by_test true later h = h
    by_test false later h = later h

pub begin_keeps : (client : ℕ) (request : InitiateDownloadSequence) (domains : Rows) (s : OpenUploads) → AreOf s domains → AreOf s (initiate_after client request domains)
begin_keeps client request domains s h = record {
  each = All-weaker (IsOf domains) (IsOf (initiate_after client request domains)) (λ u k. behind (Allows u.sent) (name_eq u.domain) domains (request.domain, begun client request) k) s.rows h.each;
}

-- ---- a client is lost

not_its_load : (client : ℕ) (loader : Option ℕ) → is_some loader ≡ false → option_map_or (λ l. nat_eq l client) loader false ≡ false
not_its_load client None e = refl
not_its_load client (Some l) e = absurd (cc e)

after_loss : (client sent : ℕ) (test : List ℕ → Bool) (rows : Rows) → IsSomeAnd (lookup test rows) (Allows sent) → IsSomeAnd (lookup test (without_loads client rows)) (Allows sent)
after_loss client sent test [] h = absurd h
after_loss client sent test (e ∷ es) h = by_test (test e.0) refl (is_loaded_by client e.1) refl (after_loss client sent test es) h
  where
    by_test : (b : Bool) → test e.0 ≡ b → (loads : Bool) → is_loaded_by client e.1 ≡ loads
        → (IsSomeAnd (lookup test es) (Allows sent) → IsSomeAnd (lookup test (without_loads client es)) (Allows sent))
        → IsSomeAnd (cond b (Some e.1) (lookup test es)) (Allows sent)
        → IsSomeAnd (lookup test (cond (not loads) (e ∷ without_loads client es) (without_loads client es))) (Allows sent)
    by_test true is true its later h = absurd (cc (its, not_its_load client e.1.loader h.0))
    by_test true is false its later h = rw is h
    by_test false is true its later h = later h
    by_test false is false its later h = rw is (later h)

pub loss_keeps : (client : ℕ) (domains : Rows) (s : OpenUploads) → AreOf s domains → AreOf s (without_loads client domains)
loss_keeps client domains s h = record {
  each = All-weaker (IsOf domains) (IsOf (without_loads client domains)) (λ u k. after_loss client u.sent (name_eq u.domain) domains k) s.rows h.each;
}

-- ---- one domain changes, or goes

module _ (test p : List ℕ → Bool) (apart : (k : List ℕ) → p k ≡ true → test k ≡ false) where
  other_goes : (rows : Rows) → lookup test (remove_entry p rows) ≡ lookup test rows
  other_goes [] = refl
  other_goes (e ∷ es) = by_test (p e.0) refl (other_goes es)
    where
      by_test : (b : Bool) → p e.0 ≡ b → lookup test (remove_entry p es) ≡ lookup test es
          → lookup test (cond b es (e ∷ remove_entry p es)) ≡ cond (test e.0) (Some e.1) (lookup test es)
      by_test true is later = rw (apart e.0 is) refl
      by_test false is later = ap (cond (test e.0) (Some e.1)) later

  other_changes : (rows : Rows) (w : Domain) → lookup test (set_value p rows w) ≡ lookup test rows
  other_changes [] w = refl
  other_changes (e ∷ es) w = by_test (p e.0) refl (other_changes es w)
    where
      by_test : (b : Bool) → p e.0 ≡ b → lookup test (set_value p es w) ≡ lookup test es
          → lookup test (cond b ((e.0, w) ∷ es) (e ∷ set_value p es w)) ≡ cond (test e.0) (Some e.1) (lookup test es)
      by_test true is later = rw (apart e.0 is) refl
      by_test false is later = ap (cond (test e.0) (Some e.1)) later

-- where a name is another than that one, so is what is equal to that one
other_name : (name that : List ℕ) → name_eq name that ≡ false → (k : List ℕ) → name_eq that k ≡ true → name_eq name k ≡ false
other_name name that e k same = subst (λ n. name_eq name n ≡ false) (names_same that k same) e

none_counted : (p : Upload → Bool) (rows : List Upload) → count_by p rows ≡ 0 → All (λ u. p u ≡ false) rows
none_counted p [] e = All-nil (λ u. p u ≡ false)
none_counted p (r ∷ rows) e = by_test (p r) refl (sym (sum_by-cons (λ u. cond (p u) 1 0) r rows) ∙ e) (none_counted p rows)
  where
    by_test : (b : Bool) → p r ≡ b → cond b 1 0 + count_by p rows ≡ 0 → (count_by p rows ≡ 0 → All (λ u. p u ≡ false) rows) → All (λ u. p u ≡ false) (r ∷ rows)
    by_test true is e later = absurd (omega arith)
    by_test false is e later = All-cons (λ u. p u ≡ false) r rows is (later (omega arith))

no_uploads : (o : Option Domain) (uploads : ℕ) (in_scope : Bool) → not (is_some o) ≡ false → option_map_or (is_held uploads in_scope) o false ≡ false → uploads ≡ 0
no_uploads None uploads in_scope there e = absurd (cc there)
no_uploads (Some d) uploads in_scope there e = grind (arith, nat_tests, e)

none_of : (name : List ℕ) (in_scope : Bool) (domains : Rows) (uploads : ℕ) → delete_cause name uploads in_scope domains ≡ None → uploads ≡ 0
none_of name in_scope domains uploads e =
    let helds : List (Bool × ServiceError) = (is_there (is_held uploads in_scope) name domains, object_constraint_conflict) ∷ [] in
    let loads : List (Bool × ServiceError) = (is_there is_loading name domains, object_state_conflict) ∷ helds in
    let a = none_holds (not (is_some (named name domains))) object_non_existent loads e in
    let b = none_holds (is_there is_loading name domains) object_state_conflict helds a.1 in
    let c = none_holds (is_there (is_held uploads in_scope) name domains) object_constraint_conflict [] b.1 in
    no_uploads (named name domains) uploads in_scope a.0 c.0

pub delete_keeps : (name : List ℕ) (in_scope : Bool) (domains : Rows) (s : OpenUploads) → delete_cause name (uploads_of name s) in_scope domains ≡ None → AreOf s domains
    → AreOf s (without name domains)
delete_keeps name in_scope domains s none h =
    let others : All (λ (u : Upload). name_eq u.domain name ≡ false) s.rows = none_counted (λ u. name_eq u.domain name) s.rows (none_of name in_scope domains (uploads_of name s) none) in
    record { each = λ k d below. stays (get_or s.rows k d) (others k d below) (h.each k d below) }
  where
    stays : (u : Upload) → name_eq u.domain name ≡ false → IsOf domains u → IsOf (without name domains) u
    stays u other k = rw (other_goes (name_eq u.domain) (name_eq name) (other_name u.domain name other) domains) k

-- the domain of which a client answers is LOADING, and so no upload's
not_loading : (client sent : ℕ) (o : Option Domain) → IsSomeAnd o (Allows sent) → option_map_or (is_loaded_by client) o false ≡ true → ⊥
not_loading client sent None h loads = h
not_loading client sent (Some d) h loads = absurd (cc (loads, not_its_load client d.loader h.0))

module _ (test : List ℕ → Bool) (name : List ℕ) (apart : (k : List ℕ) → name_eq name k ≡ true → test k ≡ false) (rows : Rows) where
  aside_changed : (f : Domain → Domain) (o : Option Domain) → lookup test (option_map_or (λ d. set_value (name_eq name) rows (f d)) o rows) ≡ lookup test rows
  aside_changed f None = refl
  aside_changed f (Some d) = other_changes test (name_eq name) apart rows (f d)

aside_replied : (answer : Reply) (rows : Rows) (test : List ℕ → Bool) → ((k : List ℕ) → name_eq (domain_of answer) k ≡ true → test k ≡ false)
    → lookup test (reply_after answer rows) ≡ lookup test rows
aside_replied (reply.Segment name these more) rows test apart =
    elim (is_there (would_pass (length these)) name rows) as (λ b. lookup test (cond b (without name rows) (changed name (with_segment these) rows)) ≡ lookup test rows)
    [ true ↦ other_goes test (name_eq name) apart rows | false ↦ aside_changed test name apart rows (with_segment these) (named name rows) ]
aside_replied (reply.Ended name) rows test apart = aside_changed test name apart rows loaded (named name rows)
aside_replied (reply.Failed name kind) rows test apart = other_goes test (name_eq name) apart rows

pub reply_keeps : (client : ℕ) (answer : Reply) (domains : Rows) (s : OpenUploads) → answers_load client answer domains ≡ true → AreOf s domains → AreOf s (reply_after answer domains)
reply_keeps client answer domains s loads h = record { each = All-weaker (IsOf domains) (IsOf (reply_after answer domains)) stays s.rows h.each }
  where
    by_name : (u : Upload) (b : Bool) → name_eq u.domain (domain_of answer) ≡ b → IsOf domains u → IsOf (reply_after answer domains) u
    by_name u true same k =
        let there : IsSomeAnd (named (domain_of answer) domains) (Allows u.sent) = subst (λ n. IsSomeAnd (named n domains) (Allows u.sent)) (names_same u.domain (domain_of answer) same) k in
        absurd (not_loading client u.sent (named (domain_of answer) domains) there loads)
    by_name u false other k = rw (aside_replied answer domains (name_eq u.domain) (other_name u.domain (domain_of answer) other)) k

    stays : (u : Upload) → IsOf domains u → IsOf (reply_after answer domains) u
    stays u k = by_name u (name_eq u.domain (domain_of answer)) refl k
