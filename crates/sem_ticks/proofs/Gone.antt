-- To lose a client changes no semaphore of which it has no entry.
use Rattle.std.proofs.Common.{◌≡◌, ◌∙◌, ap, refl, ℕ, ◌==◌, Bool, true, false, not, ◌&&◌, ◌||◌, cond, List, [], ◌∷◌, filter}
use Rattle.std.specs.List.{list_any}
use Rattle.std.specs.Map.{keys_of}
use Rattle.mms_types.specs.Order.{scope_eq}
use Rattle.mms_types.specs.declared.key.Key.{Key}
use Rattle.mms_types.specs.declared.key.Scope.{Scope}
use Rattle.mms_types.specs.declared.moment.Moment.{Moment}
use Rattle.object_names.specs.Scopes.{has_any_of, without_all_of}
use Rattle.pool_sem.proofs.Unowned as pool
use Rattle.token_sem.proofs.Unowned as token
use Rattle.token_sem.specs.Semaphore.{Loss, is_owner, is_queued, owned_by, waits_for}
use Rattle.token_sem.specs.declared.entry.SemEntry.{SemEntry}
use Rattle.mms_time.specs.Loss.{semaphore_without}
use Rattle.mms_time.specs.Semaphores.{Rows, entries_in}
use Rattle.mms_time.specs.declared.row.Semaphore.{Semaphore}
use Rattle.mms_time.specs.declared.row.Semaphore.TheVariants.{Token, Pool}

pub neither : (a b : Bool) → (a || b) ≡ false → (a ≡ false) × (b ≡ false)
neither true b e = absurd (cc e)
neither false b e = (refl, e)

-- ---- one semaphore

pub none_owned : (client : ℕ) (es : List SemEntry) → list_any (λ e. e.client == client) es ≡ false → list_any (owned_by client) es ≡ false
none_owned client [] none = refl
none_owned client (e ∷ es) none =
    let both = neither (e.client == client) (list_any (λ e. e.client == client) es) none in
    ap (λ (b : Bool). (b && is_owner e) || list_any (owned_by client) es) both.0 ∙ none_owned client es both.1

all_wait : (client : ℕ) (es : List SemEntry) → list_any (λ e. e.client == client) es ≡ false → filter (λ e. not (waits_for client e)) es ≡ es
all_wait client [] none = refl
all_wait client (e ∷ es) none =
    let both = neither (e.client == client) (list_any (λ e. e.client == client) es) none in
    ap (λ (b : Bool). cond (not (b && is_queued e)) (e ∷ filter (λ e. not (waits_for client e)) es) (filter (λ e. not (waits_for client e)) es)) both.0
    ∙ ap (λ (l : List SemEntry). e ∷ l) (all_wait client es both.1)

pub same_semaphore : (client : ℕ) (now : Moment) (s : Semaphore) → list_any (λ e. e.client == client) (entries_in s) ≡ false → semaphore_without client now s ≡ s
same_semaphore client now (Token s) none =
    ap (λ (l : Loss). Token (record s { entries = l.entries })) (token.none_lost client now s.entries (none_owned client s.entries none))
    ∙ ap (λ (l : List SemEntry). Token (record s { entries = l })) (all_wait client s.entries none)
same_semaphore client now (Pool p) none =
    ap (λ (l : Loss). Pool (record p { entries = l.entries })) (pool.none_lost client now p.entries (none_owned client p.entries none))
    ∙ ap (λ (l : List SemEntry). Pool (record p { entries = l })) (all_wait client p.entries none)

-- ---- the semaphores of an association

pub same_scope : (scope : Scope) (rows : Rows) → has_any_of scope rows ≡ false → without_all_of scope rows ≡ rows
same_scope scope [] none = refl
same_scope scope (row ∷ rows) none =
    let both = neither (scope_eq row.0.scope scope) (has_any_of scope rows) none in
    ap (λ (b : Bool). cond (not b) (row ∷ without_all_of scope rows) (without_all_of scope rows)) both.0 ∙ ap (λ (rest : Rows). row ∷ rest) (same_scope scope rows both.1)

pub scope_by_keys : (scope : Scope) (rows more : Rows) → keys_of more ≡ keys_of rows → has_any_of scope rows ≡ false → has_any_of scope more ≡ false
scope_by_keys scope [] [] e none = refl
scope_by_keys scope [] (row ∷ more) e none = absurd (cc e)
scope_by_keys scope (row ∷ rows) [] e none = absurd (cc e)
scope_by_keys scope (row ∷ rows) (other ∷ more) e none =
    let both = neither (scope_eq row.0.scope scope) (has_any_of scope rows) none in
    let head : other.0 ≡ row.0 = cc e in
    let rest : keys_of more ≡ keys_of rows = cc e in
    ap (λ (k : Key). scope_eq k.scope scope || has_any_of scope more) head
    ∙ ap (λ (b : Bool). b || has_any_of scope more) both.0
    ∙ scope_by_keys scope rows more rest both.1
