-- What is found under each name after a change.
use Rattle.std.proofs.Common.{◌≡◌, ◌∙◌, ℕ, ◌+◌, ◌≤◌, append-nil, append_assoc, arith, Bool, true, false, not, cond, if◌then◌else◌, List, [], ◌∷◌, ◌++◌, Option, None, Some, IsSome, ◌==◌, is_some, ap, length, refl, sym}
use Rattle.std.proofs.lemmas.Bool.Decides.{nat_tests}
use Rattle.std.proofs.lemmas.List.Sums.{sum_by-cons, sum_by_push}
use Rattle.std.proofs.lemmas.Cmp.{nat_list_eq_equiv}
use Rattle.std.proofs.lemmas.Map.{lookup-remove_entry, lookup-set_value}
use Rattle.std.proofs.lemmas.Map.Entries.{lookup-filter-values, option_filter}
use Rattle.std.specs.List.{IsDistinct}
use Rattle.std.specs.Map.{keys_of, lookup, set_value}
use Rattle.std.specs.Option.{option_map_or}
use Rattle.mms_types.specs.declared.asked.Asked.TheVariants as asked
use Rattle.mms_types.specs.declared.asked.Reply.{Reply}
use Rattle.mms_types.specs.declared.asked.Reply.TheVariants as reply
use Rattle.mms_types.specs.declared.domain.InitiateDownloadSequence.{InitiateDownloadSequence}
use Rattle.domain_load.specs.Domains.{Rows, is_there, name_eq, named, octets, without, without_loads}
use Rattle.domain_load.specs.Segmented.{most_octets, octets_in}
use Rattle.domain_load.specs.Loading.{answers_load, asked_next, begun, brings, brought, changed, domain_of, goes_on, initiate_after, initiate_cause, is_end, loaded, replies_after, reply_after, with_segment, would_pass}
use Rattle.domain_load.specs.Standing.{is_live, is_loaded_by}
use Rattle.domain_load.specs.declared.domain.Domain.{Domain}
use Rattle.domain_load.proofs.Unopposed.{nothing_against}

-- ---- one more row

found_last : {X : Type 0} (test : List ℕ → Bool) (rows : List (List ℕ × X)) (name : List ℕ) (x : X) → lookup test rows ≡ None
    → lookup test (rows ++ (name, x) ∷ []) ≡ cond (test name) (Some x) None
found_last test [] name x none = refl
found_last test (row ∷ rows) name x none = by_test (test row.0) none (found_last test rows name x)
  where
    by_test : (b : Bool) → cond b (Some row.1) (lookup test rows) ≡ None
        → (lookup test rows ≡ None → lookup test (rows ++ (name, x) ∷ []) ≡ cond (test name) (Some x) None)
        → cond b (Some row.1) (lookup test (rows ++ (name, x) ∷ [])) ≡ cond (test name) (Some x) None
    by_test true none rest = absurd cc
    by_test false none rest = rest none

pub begins : (client : ℕ) (left : Bool) (request : InitiateDownloadSequence) (rows : Rows) → initiate_cause left request rows ≡ None
    → named request.domain (initiate_after client request rows) ≡ Some (begun client request)
begins client left request rows e =
    found_last (name_eq request.domain) rows request.domain (begun client request) (nothing_against left request rows e).0
    ∙ ap (λ (b : Bool). cond b (Some (begun client request)) None) (nat_list_eq_equiv.refl request.domain)

others_last : {X : Type 0} (test : List ℕ → Bool) (rows : List (List ℕ × X)) (name : List ℕ) (x : X) → test name ≡ false
    → lookup test (rows ++ (name, x) ∷ []) ≡ lookup test rows
others_last test [] name x other = ap (λ (b : Bool). cond b (Some x) None) other
others_last test (row ∷ rows) name x other = ap (λ o. cond (test row.0) (Some row.1) o) (others_last test rows name x other)

pub begin_others : (client : ℕ) (request : InitiateDownloadSequence) (rows : Rows) (name : List ℕ) → name_eq name request.domain ≡ false
    → named name (initiate_after client request rows) ≡ named name rows
begin_others client request rows name other = others_last (name_eq name) rows request.domain (begun client request) other

-- ---- a row that goes, and one that is changed

found_without : (name other : List ℕ) (rows : Rows) → IsDistinct name_eq (keys_of rows)
    → named other (without name rows) ≡ cond (name_eq name other) None (named other rows)
found_without name other rows distinct = lookup-remove_entry nat_list_eq_equiv (name_eq name) (nat_list_eq_equiv.congr name) other rows distinct

pub gone : (name : List ℕ) (rows : Rows) → IsDistinct name_eq (keys_of rows) → named name (without name rows) ≡ None
gone name rows distinct = found_without name name rows distinct ∙ ap (λ (b : Bool). cond b None (named name rows)) (nat_list_eq_equiv.refl name)

pub gone_others : (name other : List ℕ) (rows : Rows) → IsDistinct name_eq (keys_of rows) → name_eq name other ≡ false
    → named other (without name rows) ≡ named other rows
gone_others name other rows distinct apart = found_without name other rows distinct ∙ ap (λ (b : Bool). cond b None (named other rows)) apart

-- the domain that is there
pub there : (p : Domain → Bool) (o : Option Domain) → option_map_or p o false ≡ true → (domain : Domain) × (o ≡ Some domain) × (p domain ≡ true)
there p None e = absurd cc
there p (Some domain) e = (domain, refl, e)

pub found_changed : (name other : List ℕ) (f : Domain → Domain) (rows : Rows) (domain : Domain) → named name rows ≡ Some domain
    → named other (changed name f rows) ≡ cond (name_eq name other) (Some (f domain)) (named other rows)
found_changed name other f rows domain found =
    ap (λ (o : Option Domain). named other (option_map_or (λ d. set_value (name_eq name) rows (f d)) o rows)) found
    ∙ lookup-set_value nat_list_eq_equiv (name_eq name) (nat_list_eq_equiv.congr name) other (f domain) rows (is_found (named name rows) found)
  where
    is_found : (o : Option Domain) → o ≡ Some domain → IsSome o
    is_found None e = absurd cc
    is_found (Some d) e = refl

pub is_changed : (name : List ℕ) (f : Domain → Domain) (rows : Rows) (domain : Domain) → named name rows ≡ Some domain → named name (changed name f rows) ≡ Some (f domain)
is_changed name f rows domain found =
    found_changed name name f rows domain found ∙ ap (λ (b : Bool). cond b (Some (f domain)) (named name rows)) (nat_list_eq_equiv.refl name)

changed_others : (name other : List ℕ) (f : Domain → Domain) (rows : Rows) (domain : Domain) → named name rows ≡ Some domain → name_eq name other ≡ false
    → named other (changed name f rows) ≡ named other rows
changed_others name other f rows domain found apart =
    found_changed name other f rows domain found ∙ ap (λ (b : Bool). cond b (Some (f domain)) (named other rows)) apart

-- ---- what follows an answer

pub loads : (client : ℕ) (answer : Reply) (rows : Rows) → IsDistinct name_eq (keys_of rows) → answers_load client answer rows ≡ true
    → is_there (is_loaded_by client) (domain_of answer) (reply_after answer rows) ≡ goes_on (asked_next answer rows)
loads client (reply.Segment name octets more) rows distinct own = by_passes (is_there (would_pass (length octets)) name rows)
  where
    asked_on : (more : Bool) → goes_on (Some (if more then asked.Segment else asked.Terminate)) ≡ true
    asked_on true = refl
    asked_on false = refl

    by_passes : (b : Bool) → is_there (is_loaded_by client) name (if b then without name rows else changed name (with_segment octets) rows)
        ≡ goes_on (Some (if b then asked.Discard else if more then asked.Segment else asked.Terminate))
    by_passes true = ap (λ o. option_map_or (is_loaded_by client) o false) (gone name rows distinct)
    by_passes false =
        let d = there (is_loaded_by client) (named name rows) own in
        ap (λ o. option_map_or (is_loaded_by client) o false) (is_changed name (with_segment octets) rows d.0 d.1) ∙ d.2 ∙ sym (asked_on more)
loads client (reply.Ended name) rows distinct own =
    let d = there (is_loaded_by client) (named name rows) own in
    ap (λ o. option_map_or (is_loaded_by client) o false) (is_changed name loaded rows d.0 d.1)
loads client (reply.Failed name asked.Segment) rows distinct own = ap (λ o. option_map_or (is_loaded_by client) o false) (gone name rows distinct)
loads client (reply.Failed name asked.Terminate) rows distinct own = ap (λ o. option_map_or (is_loaded_by client) o false) (gone name rows distinct)
loads client (reply.Failed name asked.Discard) rows distinct own = ap (λ o. option_map_or (is_loaded_by client) o false) (gone name rows distinct)

-- who is loaded by a client isn't live
not_live : (client : ℕ) (loader : Option ℕ) → option_map_or (λ l. l == client) loader false ≡ true → not (is_some loader) ≡ false
not_live client None e = absurd cc
not_live client (Some l) e = refl

pub ready : (client : ℕ) (answer : Reply) (rows : Rows) → IsDistinct name_eq (keys_of rows) → answers_load client answer rows ≡ true
    → is_there is_live (domain_of answer) (reply_after answer rows) ≡ is_end answer
ready client (reply.Segment name octets more) rows distinct own = by_passes (is_there (would_pass (length octets)) name rows)
  where
    by_passes : (b : Bool) → is_there is_live name (if b then without name rows else changed name (with_segment octets) rows) ≡ false
    by_passes true = ap (λ o. option_map_or is_live o false) (gone name rows distinct)
    by_passes false =
        let d = there (is_loaded_by client) (named name rows) own in
        ap (λ o. option_map_or is_live o false) (is_changed name (with_segment octets) rows d.0 d.1) ∙ not_live client d.0.loader d.2
ready client (reply.Ended name) rows distinct own =
    let d = there (is_loaded_by client) (named name rows) own in
    ap (λ o. option_map_or is_live o false) (is_changed name loaded rows d.0 d.1)
ready client (reply.Failed name kind) rows distinct own = ap (λ o. option_map_or is_live o false) (gone name rows distinct)

pub reply_gone : (answer : Reply) (rows : Rows) → IsDistinct name_eq (keys_of rows) → goes_on (asked_next answer rows) ≡ false
    → is_end answer ≡ false → named (domain_of answer) (reply_after answer rows) ≡ None
reply_gone (reply.Segment name octets more) rows distinct over no_end = by_passes (is_there (would_pass (length octets)) name rows) over
  where
    asked_on : (more : Bool) → goes_on (Some (if more then asked.Segment else asked.Terminate)) ≡ true
    asked_on true = refl
    asked_on false = refl

    by_passes : (b : Bool) → goes_on (Some (if b then asked.Discard else if more then asked.Segment else asked.Terminate)) ≡ false
        → named name (if b then without name rows else changed name (with_segment octets) rows) ≡ None
    by_passes true over = gone name rows distinct
    by_passes false over = let on = sym (asked_on more) ∙ over in absurd cc
reply_gone (reply.Ended name) rows distinct over no_end = absurd cc
reply_gone (reply.Failed name kind) rows distinct over no_end = gone name rows distinct

pub reply_others : (client : ℕ) (answer : Reply) (rows : Rows) (name : List ℕ) → IsDistinct name_eq (keys_of rows) → answers_load client answer rows ≡ true
    → name_eq (domain_of answer) name ≡ false → named name (reply_after answer rows) ≡ named name rows
reply_others client (reply.Segment own octets more) rows name distinct loaded_by apart = by_passes (is_there (would_pass (length octets)) own rows)
  where
    by_passes : (b : Bool) → named name (if b then without own rows else changed own (with_segment octets) rows) ≡ named name rows
    by_passes true = gone_others own name rows distinct apart
    by_passes false =
        let d = there (is_loaded_by client) (named own rows) loaded_by in
        changed_others own name (with_segment octets) rows d.0 d.1 apart
reply_others client (reply.Ended own) rows name distinct loaded_by apart =
    let d = there (is_loaded_by client) (named own rows) loaded_by in
    changed_others own name loaded rows d.0 d.1 apart
reply_others client (reply.Failed own kind) rows name distinct loaded_by apart = gone_others own name rows distinct apart

-- ---- segments that come one after the other

-- a domain that has room for a segment
has_room : (more : ℕ) (domain : Domain) → octets domain + more ≤ most_octets → would_pass more domain ≡ false
has_room more domain few = grind (arith, nat_tests, few)

came : (name : List ℕ) (parts : List (List ℕ × Bool)) (rows : Rows) (domain : Domain) → named name rows ≡ Some domain
    → octets domain + octets_in (brought parts) ≤ most_octets
    → named name (replies_after (brings name parts) rows) ≡ Some (record domain { segments = domain.segments ++ brought parts })
came name [] rows domain found few = found ∙ ap (λ xs. Some (record domain { segments = xs })) (sym (append-nil domain.segments))
came name (part ∷ parts) rows domain found few =
    let first = sum_by-cons length part.0 (brought parts) in
    let more = sum_by_push length domain.segments part.0 in
    let passes : is_there (would_pass (length part.0)) name rows ≡ false =
    ap (λ o. option_map_or (would_pass (length part.0)) o false) found ∙ has_room (length part.0) domain (omega (arith, first, few)) in
    let next : reply_after (reply.Segment name part.0 part.1) rows ≡ changed name (with_segment part.0) rows =
    ap (λ (b : Bool). if b then without name rows else changed name (with_segment part.0) rows) passes in
    let found_next = is_changed name (with_segment part.0) rows domain found in
    ap (λ rs. named name (replies_after (brings name parts) rs)) next
    ∙ came name parts (changed name (with_segment part.0) rows) (with_segment part.0 domain) found_next (omega (arith, first, more, few))
    ∙ ap (λ xs. Some (record domain { segments = xs })) (append_assoc domain.segments (part.0 ∷ []) (brought parts))

pub loaded_is : (client : ℕ) (left : Bool) (request : InitiateDownloadSequence) (rows : Rows) (parts : List (List ℕ × Bool)) → initiate_cause left request rows ≡ None
    → octets_in (brought parts) ≤ most_octets
    → named request.domain (reply_after (reply.Ended request.domain) (replies_after (brings request.domain parts) (initiate_after client request rows)))
    ≡ Some (record (begun client request) { loader = None; segments = brought parts })
loaded_is client left request rows parts e few =
    is_changed request.domain loaded (replies_after (brings request.domain parts) (initiate_after client request rows))
    (record (begun client request) { segments = brought parts })
    (came request.domain parts (initiate_after client request rows) (begun client request) (begins client left request rows e) (omega (arith, few)))

-- ---- loss

kept_of : (client : ℕ) (name : List ℕ) (rows : Rows) → IsDistinct name_eq (keys_of rows)
    → named name (without_loads client rows) ≡ option_filter (λ d. not (is_loaded_by client d)) (named name rows)
kept_of client name rows distinct = lookup-filter-values nat_list_eq_equiv (λ d. not (is_loaded_by client d)) name rows distinct

pub lost_none : (client : ℕ) (name : List ℕ) (rows : Rows) → IsDistinct name_eq (keys_of rows)
    → is_there (is_loaded_by client) name (without_loads client rows) ≡ false
lost_none client name rows distinct = ap (λ o. option_map_or (is_loaded_by client) o false) (kept_of client name rows distinct) ∙ by_found (named name rows)
  where
    by_test : (d : Domain) (b : Bool) → is_loaded_by client d ≡ b → option_map_or (is_loaded_by client) (cond (not b) (Some d) None) false ≡ false
    by_test d true e = refl
    by_test d false e = e

    by_found : (o : Option Domain) → option_map_or (is_loaded_by client) (option_filter (λ d. not (is_loaded_by client d)) o) false ≡ false
    by_found None = refl
    by_found (Some d) = by_test d (is_loaded_by client d) refl

pub lost_others : (client : ℕ) (name : List ℕ) (rows : Rows) (domain : Domain) → IsDistinct name_eq (keys_of rows) → named name rows ≡ Some domain
    → is_loaded_by client domain ≡ false
    → named name (without_loads client rows) ≡ Some domain
lost_others client name rows domain distinct found other =
    kept_of client name rows distinct
    ∙ ap (option_filter (λ d. not (is_loaded_by client d))) found
    ∙ ap (λ (b : Bool). cond (not b) (Some domain) None) other
