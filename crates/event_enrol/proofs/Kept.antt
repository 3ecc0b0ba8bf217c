-- What holds of all rows holds of those that are left, and of one more.
use Rattle.std.proofs.Common.{◌≡◌, ◌∙◌, ap, sym, refl, ℕ, ◌==◌, ◌&&◌, ◌||◌, Bool, true, false, not, cond, List, [], ◌∷◌, ◌++◌, filter, map}
use Rattle.std.proofs.lemmas.Bool.{eq-eqb, eqb-true}
use Rattle.std.proofs.lemmas.List.Folds.{list_all-append}
use Rattle.std.specs.List.{list_all, list_any}
use Rattle.std.specs.Map.{keys_of}
use Rattle.mms_types.specs.declared.condition.Notice.{Notice}
use Rattle.mms_types.specs.declared.condition.Turned.{Turned}
use Rattle.mms_types.specs.declared.key.Key.{Key}
use Rattle.mms_types.specs.declared.key.Scope.{Scope}
use Rattle.mms_types.specs.declared.key.Scope.TheVariants as scope
use Rattle.mms_types.specs.declared.object_name.ObjectName.{ObjectName}
use Rattle.mms_types.specs.declared.object_name.ObjectName.TheVariants as named
use Rattle.mms_types.specs.Order.{key_of, scope_eq}
use Rattle.mms_types.proofs.Precedence.{key_eq_tells}
use Rattle.object_names.specs.Scopes.{has_any_of, without_all_of}
use Rattle.event_enrol.specs.Enrolments.{Rows, has_bit, has_own_names, is_of, is_on, is_own, is_told, name_of, notice, notices, without_client}
use Rattle.event_enrol.specs.Going.{stays}
use Rattle.event_enrol.specs.declared.enrolment.Enrolment.{Enrolment}
use Rattle.event_enrol.specs.declared.going.Going.TheVariants as going

pub all_left : {A : Type 0} (p q : A → Bool) (xs : List A) → list_all p xs ≡ true → list_all p (filter q xs) ≡ true
all_left p q [] all = refl
all_left {A} p q (x ∷ xs) all = by_first (p x) (q x) refl all (all_left p q xs)
  where
    by_first : (b c : Bool) → p x ≡ b → (b && list_all p xs) ≡ true → (list_all p xs ≡ true → list_all p (filter q xs) ≡ true) → list_all p (cond c (x ∷ filter q xs) (filter q xs)) ≡ true
    by_first true true e all later = ap (λ (b : Bool). b && list_all p (filter q xs)) e ∙ later all
    by_first true false e all later = later all
    by_first false c e all later = absurd cc

pub all_more : {A : Type 0} (p : A → Bool) (xs : List A) (x : A) → list_all p xs ≡ true → p x ≡ true → list_all p (xs ++ x ∷ []) ≡ true
all_more p xs x all here = list_all-append p xs (x ∷ []) ∙ ap (λ (b : Bool). b && list_all p (x ∷ [])) all ∙ ap (λ (b : Bool). b && true) here

-- ---- the scopes of names

-- some name is of the scope where some row's is
pub any_key : (s : Scope) (rows : Rows) → list_any (λ (key : Key). scope_eq key.scope s) (keys_of rows) ≡ has_any_of s rows
any_key s [] = refl
any_key s (row ∷ rows) = ap (λ (b : Bool). scope_eq row.0.scope s || b) (any_key s rows)

-- ---- whose names they are

-- what a client names so is its own
pub own_name : (client : ℕ) (name : ObjectName) → is_own client (key_of client name) ≡ true
own_name client (named.Vmd item) = refl
own_name client (named.Domain domain item) = refl
own_name client (named.Association item) = eq-eqb client client refl

pub own_names : (client : ℕ) (name condition : ObjectName) (key : Key) (row : Enrolment) → key ≡ key_of client name → row.condition ≡ key_of client condition → row.client ≡ client
    → has_own_names (key, row) ≡ true
own_names client name condition key row k c by =
    ap (λ (a : Key). is_own row.client a && is_own row.client row.condition) k
    ∙ ap (λ (a : Key). is_own row.client (key_of client name) && is_own row.client a) c
    ∙ ap (λ (n : ℕ). is_own n (key_of client name) && is_own n (key_of client condition)) by
    ∙ ap (λ (b : Bool). b && is_own client (key_of client condition)) (own_name client name)
    ∙ own_name client condition

named_by : (client : ℕ) (s : Scope) (item : List ℕ) → is_own client (record { scope = s; item = item }) ≡ true
    → key_of client (name_of (record { scope = s; item = item })) ≡ record { scope = s; item = item }
named_by client scope.Vmd item own = refl
named_by client (scope.Domain domain) item own = refl
named_by client (scope.Association owner) item own = ap (λ (n : ℕ). record { scope = scope.Association n; item = item }) (sym (eqb-true owner client own))

-- as that client names it, a key of its own is that key
pub own_words : (client : ℕ) (key : Key) → is_own client key ≡ true → key_of client (name_of key) ≡ key
own_words client key own = named_by client key.scope key.item own

both_true : (a b : Bool) → (a && b) ≡ true → (a ≡ true) × (b ≡ true)
both_true true true e = (refl, refl)
both_true true false e = absurd cc
both_true false b e = absurd cc

pub enrolments_named : (turned : Turned) (rows : Rows) → list_all has_own_names rows ≡ true
    → map (λ (n : Notice). key_of n.client n.enrolment) (notices turned rows) ≡ keys_of (filter (is_told turned) rows)
enrolments_named turned [] all = refl
enrolments_named turned (row ∷ rows) all =
    let both = both_true (has_own_names row) (list_all has_own_names rows) all in
    by_told (is_told turned row) (own_words row.1.client row.0 (both_true (is_own row.1.client row.0) (is_own row.1.client row.1.condition) both.0).0) (enrolments_named turned rows both.1)
  where
    by_told : (b : Bool) → key_of row.1.client (name_of row.0) ≡ row.0
        → map (λ (n : Notice). key_of n.client n.enrolment) (notices turned rows) ≡ keys_of (filter (is_told turned) rows)
        → map (λ (n : Notice). key_of n.client n.enrolment) (map (notice turned) (cond b (row ∷ filter (is_told turned) rows) (filter (is_told turned) rows)))
        ≡ keys_of (cond b (row ∷ filter (is_told turned) rows) (filter (is_told turned) rows))
    by_told true here later = (λ i. here i ∷ later i)
    by_told false here later = later

pub conditions_named : (turned : Turned) (rows : Rows) → list_all has_own_names rows ≡ true
    → map (λ (n : Notice). key_of n.client n.condition) (notices turned rows) ≡ map (λ (row : Key × Enrolment). row.1.condition) (filter (is_told turned) rows)
conditions_named turned [] all = refl
conditions_named turned (row ∷ rows) all =
    let both = both_true (has_own_names row) (list_all has_own_names rows) all in
    by_told (is_told turned row) refl (own_words row.1.client row.1.condition (both_true (is_own row.1.client row.0) (is_own row.1.client row.1.condition) both.0).1) (conditions_named turned rows both.1)
  where
    by_told : (b : Bool) → is_told turned row ≡ b → key_of row.1.client (name_of row.1.condition) ≡ row.1.condition
        → map (λ (n : Notice). key_of n.client n.condition) (notices turned rows) ≡ map (λ (row : Key × Enrolment). row.1.condition) (filter (is_told turned) rows)
        → map (λ (n : Notice). key_of n.client n.condition) (map (notice turned) (cond b (row ∷ filter (is_told turned) rows) (filter (is_told turned) rows)))
        ≡ map (λ (row : Key × Enrolment). row.1.condition) (cond b (row ∷ filter (is_told turned) rows) (filter (is_told turned) rows))
    by_told true told here later =
        let on : turned.condition ≡ row.1.condition = (key_eq_tells turned.condition row.1.condition).0 (both_true (is_on turned.condition row) (has_bit turned.transition row.1.transitions) told).0 in
        let first : key_of row.1.client (name_of turned.condition) ≡ row.1.condition = ap (λ (k : Key). key_of row.1.client (name_of k)) on ∙ here in
        (λ i. first i ∷ later i)
    by_told false told here later = later

-- ---- a lost client

-- what is of the client, and what is of its association
pub lost_alike : (client : ℕ) (rows : Rows) → filter (stays (going.Client client)) rows ≡ without_client client rows
lost_alike client [] = refl
lost_alike client (row ∷ rows) = by_both (row.1.client == client) (scope_eq row.0.scope (scope.Association client)) refl refl (lost_alike client rows)
  where
    by_both : (b d : Bool) → (row.1.client == client) ≡ b → scope_eq row.0.scope (scope.Association client) ≡ d
        → filter (stays (going.Client client)) rows ≡ without_client client rows
        → cond (not (b || d)) (row ∷ filter (stays (going.Client client)) rows) (filter (stays (going.Client client)) rows)
        ≡ without_all_of (scope.Association client) (cond (not b) (row ∷ (filter (λ (row : Key × Enrolment). not (is_of client row)) rows)) (filter (λ (row : Key × Enrolment). not (is_of client row)) rows))
    by_both true d h i later = later
    by_both false true h i later =
        later ∙ sym (ap (λ (c : Bool). cond (not c) (row ∷ without_all_of (scope.Association client) (filter (λ (row : Key × Enrolment). not (is_of client row)) rows)) (without_all_of (scope.Association client) (filter (λ (row : Key × Enrolment). not (is_of client row)) rows))) i)
    by_both false false h i later =
        ap (λ (l : List (Key × Enrolment)). row ∷ l) later
        ∙ sym (ap (λ (c : Bool). cond (not c) (row ∷ without_all_of (scope.Association client) (filter (λ (row : Key × Enrolment). not (is_of client row)) rows)) (without_all_of (scope.Association client) (filter (λ (row : Key × Enrolment). not (is_of client row)) rows))) i)
